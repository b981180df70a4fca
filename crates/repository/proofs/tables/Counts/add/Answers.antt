use Rattle.repository.proofs.Ends.{extended}
use Rattle.repository.proofs.tables.Counts.add.Goals as goal

-- the copy left the atom in its part of the text
pub returns-clause-extends : goal.returns-clause-extends
returns-clause-extends c = rw c.copy_from_slice.ensures.after (extended c.args.self.now c.args.tables.now c.requires.sound c.args.atom.now c.requires.few c.requires.short)

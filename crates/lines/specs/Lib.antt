-- Lines: texts cut at a byte, and freed of white space or a return at their ends.
pub mod Lines

-- Named: the scopes of the worked lines.
pub mod Named
-- Table: the worked lines.
pub mod Table

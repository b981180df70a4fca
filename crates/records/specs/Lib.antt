-- WrittenBack: what it is to be a scope's name.
pub mod WrittenBack

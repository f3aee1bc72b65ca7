-- one seat among the others
pub mod Among

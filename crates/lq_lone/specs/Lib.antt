-- a station of the run of one sender, as code has it
pub mod Lone

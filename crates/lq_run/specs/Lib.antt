-- how a seat stands before a call and after it
pub mod Runs
-- the calls as lists of steps
pub mod Steps

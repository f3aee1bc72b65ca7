-- the numbers below one, and what a function gives for each of them
pub mod FirstNumbers
-- which stations an event is one of
pub mod Reach

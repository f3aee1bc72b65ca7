-- the machine for which the words and views of a table stand, and what is so of it
pub mod Stands
-- a step of a seat on the words, and which moves of the machine it is
pub mod Stepped
-- steps one after another
pub mod Runs
-- where a seat stands at a ring
pub mod Rings
-- the kinds of steps, and which moves each is
pub mod StepMoves

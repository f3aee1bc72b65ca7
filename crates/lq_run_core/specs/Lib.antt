-- a machine that runs, with the packets that it numbers
pub mod Numbered
-- the room that the list of a band has
pub mod Room
-- the lines and words of a schedule, and what each says
pub mod Schedule
-- what a schedule leaves of the machine, and the text that tells it
pub mod Trace
pub mod TraceText
-- steps with a mistake, and what they leave behind
pub mod Mistakes
-- packets that wait to be sent, and how many there are
pub mod Waits
-- lists of moves, what they cost, and which packets the device accepted
pub mod Progress
-- who comes for a packet that waits
pub mod Comes
-- the number that becomes less with each step
pub mod Measure
-- what a mistake leaves of the laws of progress
pub mod Stays
-- two soft interrupts that can go on for ever
pub mod Chase

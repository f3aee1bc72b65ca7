-- how often a card opens its station
pub mod Often
-- the run of one sender beside a card
pub mod Beside
-- the frames of a wire, one after the other
pub mod InTurn
-- a packet waits only for room
pub mod Waits

-- the ring of a driver
pub mod Wire
-- a station with its card, as code has them
pub mod Wired
-- the packets that were accepted, told turn by turn
pub mod Times
-- the line of three numbers
pub mod Lines
-- a text with room behind it
pub mod Page

-- the order of a section, and blocks at places
pub mod Places
-- what a block is that has no fault
pub mod Fits
-- how interfaces count time
pub mod Clocks
-- powers within 128 bits
pub mod Powers
-- the time of a packet
pub mod PacketTime
-- the reader's walk along the blocks
pub mod Walk
-- the walks along the options of an interface
pub mod OptionWalk
-- the section header block and the interfaces, written piece by piece
pub mod WrittenSection
-- which bytes are a capture
pub mod Acceptance
-- a capture that is written again
pub mod Again
-- the first fault of bytes that are none
pub mod FirstFault

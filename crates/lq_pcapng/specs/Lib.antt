-- which bytes are a capture in the pcapng format, and the one written for a list of packets
pub mod Pcapng
-- what a packet block is that is whole, and what reading answers
pub mod Reading
-- what contracts see of a capture in memory
pub mod View
-- what the definition of a capture comes to
pub mod Laws
-- a capture in either format
pub mod File

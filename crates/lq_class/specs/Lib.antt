-- types of service and IPv4 frames in the words of their fields
pub mod Laws
-- a hash of a flow that goes on over more bytes
pub mod Hash

-- the start of an IPv4 header
pub mod Headers
-- windows of the key, and the hash over one byte more
pub mod Windows

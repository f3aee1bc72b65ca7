-- serving a station that stops at each packet
pub mod Serving
-- what serving makes of a station as code has it
pub mod Serves
-- a packet is brought to it
pub mod Brings
-- what events make of it
pub mod Changes
-- it stays as it is where it is served again
pub mod Again
-- whatever is done to it, code has it still
pub mod Still

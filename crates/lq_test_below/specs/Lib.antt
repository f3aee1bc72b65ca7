-- what callers see of the tests' device, and what the tests know of packets and seats
pub mod Plain
pub mod Recorder
pub mod Seats

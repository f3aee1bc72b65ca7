-- the calls that a device was asked
pub mod Asked
-- how far it is to the next multiple of a number
pub mod Multiples
-- what callers see of a device of the built-in bench
pub mod Bench
-- a station's device and what lies beside it, and what each call makes of them
pub mod Station

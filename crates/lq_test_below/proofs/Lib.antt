-- seats after a call, and the units of swaps
pub mod Firsts
pub mod Sends

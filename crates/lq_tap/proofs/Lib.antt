-- The lemmas on the rule of a tap.
pub mod ByName
pub mod Tells
pub mod Orders
pub mod Frames
pub mod PutsKept
pub mod SeatsKept
pub mod ConsumerKept
pub mod BackKept
pub mod Starts
pub mod BatchSteps
pub mod BackSteps

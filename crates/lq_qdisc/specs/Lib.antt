-- what a dequeue leaves of what a seat knows
pub mod Calls
-- what handing a packet to the device leaves, and a run
pub mod Direct
-- what a transmit and a soft interrupt leave
pub mod Sends
-- stations of the run of one sender, with one queue or several
pub mod Stations
-- what the calls do of a seat that has the table alone
pub mod Alone
-- its calls, each with the lists of steps that it may make
pub mod StepLists
-- the steps of its calls
pub mod Steps
-- what its calls ask of a seat, and what they leave of it
pub mod Seats
-- what the calls and their parts ask, and what each leaves
pub mod Parts

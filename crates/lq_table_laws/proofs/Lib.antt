-- a ring's held packets are in its slots
pub mod Slots
-- the machine and the parts of the state that the words and views determine
pub mod Determined
-- a step of a seat, and the moves that it is
pub mod Moves
-- what is so between any two steps
pub mod Served
-- what a step sees
pub mod Fits
-- the steps at the words of the run lock, of the state and of the calls inside
pub mod Calls
-- the steps by which the machine stays
pub mod Looks
-- the steps at the run lock
pub mod Locks
-- the steps at the stop words and at the device
pub mod Devices
-- a set of MISSED or DRAINING by the holder
pub mod Sets
-- the number of a machine
pub mod Numbers
-- what is held is sent, by steps one after another
pub mod Sent
-- the steps at the rings, of the holder of the run lock and of senders
pub mod Rings
pub mod Puts
-- where a dequeue begins
pub mod Dequeue
-- a call begins and ends
pub mod Enters
-- the steps of control
pub mod Controls
pub mod Purges
pub mod Resizes
-- each kind of step: what is so of any, those of calls, of the rings and of control, and all of them
pub mod AnyStep
pub mod CallSteps
pub mod RingSteps
pub mod ControlSteps
pub mod EachStep

-- what is so where a call answered Ok
pub mod OnOk
-- what is taken back from a driver's ring
pub mod Left
-- steps of a station with its card
pub mod Stepped
-- how many packets wait
pub mod Waits
-- openings and interrupts, one after the other
pub mod Openings
-- events before a packet
pub mod Changes
-- the station of a plan, with nothing brought yet
pub mod Starts
-- what a card does, whichever packets were told
pub mod Told
-- a packet, and what follows it
pub mod Turns
-- a plan with a card fits it
pub mod Fits
-- lines of packets, one after the other
pub mod Lines
-- a number whose last digits are written behind others
pub mod Digits
-- the packets that a card accepted, turn by turn
pub mod Flights

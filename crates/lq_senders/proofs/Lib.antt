-- the plan's events in order
pub mod Orders
-- the plan's events and the units that they bring
pub mod Units
-- how far the first sender is with the plan's events
pub mod Ways
-- a sender's seats, where one or all of them did something
pub mod Seats
-- a sender's calls at a seat
pub mod Calls
-- where the units' devices are
pub mod Devices
-- the swaps are undone
pub mod Undone
-- a packet was sent
pub mod Sent
-- all seats did something in turn
pub mod Rounds
-- an event of the plan, at each of its stations
pub mod Events
-- what a sender does after a packet
pub mod Turns
-- a sender wakes its stations after its packets
pub mod Woken
-- after a packet its sender opens the queues so many times
pub mod OpenedTimes
-- a sender on its way
pub mod Sending
-- a sender comes to a packet of its own
pub mod Coming
-- how often queues are opened matters after the packets of the run alone
pub mod SameOpenings
-- the devices of a bench: configured, taken out and laid back
pub mod Benches
-- the packets of a capture are numbered by rank
pub mod Sendable
-- stations are opened over the devices of a bench
pub mod Openings
-- a run begins over the devices of a bench
pub mod Prepared
-- the other senders' seats are split off
pub mod Splits
-- lists and their parts
pub mod Lists
-- seats of several senders become one
pub mod Joins
-- stations are closed one by one
pub mod Closes
-- the run of one sender at its beginning
pub mod Starts
-- the units that a station has in turn
pub mod Present
-- a station at its end
pub mod AtEnd
-- in the run of one sender no station meets another's packets
pub mod OwnPackets
-- a station to which no packet is offered
pub mod Untouched
-- the fates that the finished stations leave
pub mod FatesOfRun
-- each packet's fate can be read
pub mod FatesRead
-- the fates that words tell
pub mod WordsTold
-- the fates that a whole run leaves
pub mod Leaves
-- the devices that swaps bring are configured
pub mod SpareDevices
-- closed stations are taken apart, and the devices go back to the bench
pub mod HandsBack

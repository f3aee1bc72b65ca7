-- FORMATS

-- lists of numbers that several definitions use
pub mod Numbers
-- which bytes are a capture, and the capture written for a list of packets
pub mod Capture
-- the capture that a number and a count generate
pub mod Generated
-- the class of a frame
pub mod Class
-- the hash of its flow
pub mod Flow
-- fates and counts as texts
pub mod Texts
-- fates as words of a table
pub mod Words
-- RULES AND FATES

-- plans, and what each packet is to the rules
pub mod Plan
-- what callers see of a device, and how it answers
pub mod Device
-- a band's packets, and when it is full
pub mod Band
-- the account of a station, and its events
pub mod Account
-- when an event may come
pub mod Legal
-- what the fates of a run are
pub mod Settled
-- the packets that a unit sent, in order of serial
pub mod Sent
-- completeness of fates: where each packet is sent
pub mod Complete
-- how often queues are opened after a packet
pub mod Openings
-- the run of one sender
pub mod Alone
-- a card on a wire: when the queue of its station is opened, and when each frame leaves
pub mod Wire
-- small runs of one sender
pub mod Runs
-- THE MACHINE OF THE RUN LOCK

-- words and bits, packets and seats
pub mod Machine
-- its steps and starts
pub mod Steps
-- the steps of control
pub mod Control
-- where seats stand, what is held and exposed, and which ways on there are
pub mod Positions
-- what holds at every moment
pub mod Kept
-- what moves lead to, and the quiet machine
pub mod Quiet

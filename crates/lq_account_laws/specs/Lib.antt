-- a station on its way through the packets
pub mod Progress
-- where packets stand, and in which order they wait
pub mod Places
-- what control does by the plan
pub mod Controls
-- what the laws of accounts ask, and what they give
pub mod Accounts
-- lists of events of many senders, and what the first sender's seat knows of them
pub mod Trail
-- what events, serving and the end come to with one queue
pub mod OneQueue
-- a station in the run of one sender
pub mod Sender

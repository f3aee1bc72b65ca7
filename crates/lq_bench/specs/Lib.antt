-- where a seat stands between two rounds
pub mod Ready
-- the packets that are sent, and their senders
pub mod Senders
-- a seat at a word
pub mod Words

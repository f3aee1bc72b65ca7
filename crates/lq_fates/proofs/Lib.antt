-- the packets that a unit sent
pub mod SentLemmas
-- those that each unit sent, a packet at a time
pub mod SentByUnits
-- the texts, a line at a time
pub mod TextLemmas
-- the counts, a packet at a time
pub mod CountLemmas

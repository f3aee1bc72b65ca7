-- the elements of an array
pub mod Elements
-- tests of each element of a list
pub mod Lists
-- counts of packets by owner and station
pub mod Counts
-- the ranks that one pass gives
pub mod Ranks
-- the tables among the elements of an array
pub mod Tables
-- the faults of a document
pub mod Documents
-- the stations, group by group
pub mod Groups
-- misplaced events
pub mod Events
-- a value within its range
pub mod Ranges
-- the split, the spread and the openings within their ranges
pub mod Words
-- a plan within its limits
pub mod Within
-- texts that are documents
pub mod Texts
-- how often the queues are opened after each packet
pub mod Times
-- plans in which neither flows nor times count
pub mod Bytes
-- what text is accepted
pub mod Acceptance

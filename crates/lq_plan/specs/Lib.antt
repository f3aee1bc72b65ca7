-- the value at a key, or its default
pub mod Values
-- the limits of a plan's numbers, and the order of its events
pub mod Limits
-- the keys of a plan, and what their values may be
pub mod Keys
-- the tables that a document lends
pub mod Tables
-- what may be wrong with the keys of a table and their values
pub mod Faults
-- a document that was read, and its faults
pub mod Document
-- the plan that a text is, or why it is none
pub mod Reading
-- what contracts see of a plan in memory
pub mod View
-- the plan of a generated run
pub mod Generated
-- the limits of what is known of each packet
pub mod Packets
-- how often the stopped queues are opened after each packet
pub mod Openings
-- what follows from the definition of a plan
pub mod Laws

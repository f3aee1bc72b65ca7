-- what a seat knows
pub mod Views
-- what each call, and each step in it, makes of a seat's view
pub mod Told
-- the steps that a seat made
pub mod Made
-- the steps of each call
pub mod Steps
-- what is so once all seats are joined
pub mod Settled
-- what a clause says of a tap and its seats
pub mod Sees
-- the rule
pub mod Rule
-- the rule's setup, from the key
pub mod Keyed

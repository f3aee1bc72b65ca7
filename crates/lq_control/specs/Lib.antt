-- what the tests know of the first seat between two calls
-- what the calls of control leave
pub mod Control
-- what they ask of a seat, and what they leave of it
pub mod Seats
-- what is left of a station, and its end
pub mod Finish
-- what they do of a seat that has the table alone
pub mod Alone
-- the end of a station for a seat that has the table alone
pub mod Ending
-- the steps of its calls
pub mod Steps
-- the steps of the end of a station
pub mod EndSteps
-- what the steps of its calls come to
pub mod Comes
-- what each call requires, and what it ensures
pub mod Calls

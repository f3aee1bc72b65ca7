-- what a seat knows after a call
pub mod Steps
-- what a sole first seat knows as its table is closed
pub mod Closing

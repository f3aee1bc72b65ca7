-- the command line
pub mod Command
-- the command table as clap reads it
pub mod Forms
-- what a file gave
pub mod Input
-- what the bytes of a file are accepted as
pub mod Accepted
-- the statuses and the lines of refusals
pub mod Refusal
-- the numbers of statuses
pub mod Status
-- why the calls inside stop
pub mod Stop
-- what a call writes, and where it may stop
pub mod Written
-- texts made in parts and written through a buffer
pub mod Parts
-- a line for each fate
pub mod Lines
-- what the children of a multi-queue root sent together
pub mod Groups
-- what is written of a run
pub mod RunFiles
-- what is written of a tap
pub mod TapFiles
-- what the code hands on of a run and of a tap
pub mod Reports

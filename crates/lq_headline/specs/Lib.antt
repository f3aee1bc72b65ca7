-- what `lqtx run` is proved to do, on one page
pub mod Page
-- which sender, which station and which band a packet has
pub mod Rules
-- which plan a run follows
pub mod Plans
-- the last part: a quiet table
pub mod Quiet
-- small replays
pub mod SmallReplays

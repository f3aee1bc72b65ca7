-- what a run that is done leaves: the headline
pub mod Headline
-- what a tap that is done leaves
pub mod Tapped
-- what a call decides from its words, its files and its bench
pub mod Decision
-- the names of the files that it opens and creates
pub mod Names
-- which files it reads
pub mod Reads
-- what it answers and leaves
pub mod Outcome
-- the exit status of the program
pub mod Program
-- what the laws of its words speak of
pub mod Laws

-- reading and writing in pieces
pub mod MoveLemmas
-- texts that are written through a buffer
pub mod PieceLemmas
-- texts that are made in parts
pub mod PartLemmas
-- the lines and names of texts
pub mod TextLemmas
-- several files, one after the other
pub mod FileLemmas
-- the numbers of `gen` and `tap`
pub mod NumberLemmas
-- one step of clap's walk over words
pub mod ParseLemmas
-- the command table as clap reads it
pub mod CommandLemmas
-- what each unit sent, list by list
pub mod SentLists
-- the files and the lines of multi-queue roots
pub mod GroupLemmas
-- what their children sent
pub mod GroupPackets
-- what is written of a run
pub mod RunFilesLemmas
-- captures whose times go back
pub mod InOrder
-- the card whose times are told
pub mod TimesLemmas

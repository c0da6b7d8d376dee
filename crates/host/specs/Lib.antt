-- The entries for hosts: document 01, "When a call is turned back". First what a reader must believe.
pub mod Entries
-- Then what follows from it: the laws.
pub mod EntriesLaws

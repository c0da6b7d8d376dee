-- The list of the oracle's answers, which no public call speaks of. First what a reader must believe: nothing.
-- Then what follows from it: how its entries stand in a list, and the laws of comparing them.
pub mod Entries
pub mod EntryLaws

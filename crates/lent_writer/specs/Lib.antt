-- One field alone: document 01, `BitWriter`. First what a reader must believe.
pub mod Alone
-- Then what follows from it: where a writer stands that was closed.
pub mod Closed

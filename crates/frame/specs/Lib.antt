-- A frame's body: document 01, "The frame body". First what a reader must believe.
pub mod Layout
pub mod Body
pub mod Reader
pub mod Legal
pub mod Answers
-- Then what follows from it: what the frame's functions use of legal settings, the laws, and demand 3.
pub mod Under
pub mod LayoutLaws
pub mod BodyLaws
pub mod LegalLaws
pub mod AnswersLaws
pub mod ReadBackLaws
pub mod Theorems

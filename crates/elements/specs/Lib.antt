-- Elements of the audio blocks: A/52 5.4.3, 7.1.3. First what a reader must believe.
pub mod Strategy
-- Then what follows from it: the strategy that a number of bins names, and the laws.
pub mod Naming
pub mod StrategyLaws

-- The six strategies, and that block 0 is not reuse.
use Rattle.sheet.proofs.ranges.strategies_in_range.Goals as goal

pub returns : goal.returns
returns c =
    simp (
      c.strategy_in_range.ensures,
      c.strategy_in_range-2.ensures,
      c.strategy_in_range-3.ensures,
      c.strategy_in_range-4.ensures,
      c.strategy_in_range-5.ensures,
      c.strategy_in_range-6.ensures,
      c.byte_at.ensures,
      c.byte_at-2.ensures,
      c.byte_at-3.ensures,
      c.byte_at-4.ensures,
      c.byte_at-5.ensures,
      c.byte_at-6.ensures,
      c.byte_at-7.ensures,
    )

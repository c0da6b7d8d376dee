-- Which strategy a block's exponents are given, and the strategies of a frame (document 01, `pick_strategy_for_block`, `select_exp_strategies_per_end`).
use Rattle.std.specs.Prelude.{Bool, true, cond, ◌&&◌, List, [], ◌∷◌, ℕ, zero, suc, ◌+◌, ◌-◌, ◌*◌, ◌/◌, eqb, leb, ltb, length, take, drop, get_or, replicate, Result, Ok}
use Rattle.elements.specs.declared.set.ExponentSet.{ExponentSet}
use Rattle.elements.specs.declared.set.ExponentSet.TheVariants.{Reuse, New}
use Rattle.bits.specs.Answer.{must, checked}
use Rattle.bits.specs.Parts.{tab, piece}
use Rattle.bits.specs.declared.refusal.Refusal.{Refusal}
use Rattle.bits.specs.declared.refusal.Refusal.TheVariants as refusal
use Rattle.elements.specs.declared.strategy.Strategy.{Strategy}
use Rattle.elements.specs.declared.strategy.Strategy.TheVariants.{D15, D25, D45}
use Rattle.shaping.specs.Spans.{least}

-- ---- one block: "any bytes; integer division; at most 50 gives 3, else at most 75 gives 2, else 1; end up to 1 gives 1"

-- how far the bins of xs go down where they become those of ys
unfoldable pub lost : List ℕ → List ℕ → ℕ
lost [] ys = 0
lost (x ∷ xs) [] = 0
lost (x ∷ xs) (y ∷ ys) = (x - y) + lost xs ys

-- each span becomes its least; after a bin that became v, of whose span j bins are still to come
unfoldable pub merged : ℕ → ℕ → ℕ → List ℕ → List ℕ
merged h j v [] = []
merged h zero v (x ∷ r) = least h x r ∷ merged h h (least h x r) r
merged h (suc j) v (x ∷ r) = v ∷ merged h j v r

-- the cost of a strategy whose span is h + 1: how far the bins from bin 1 on go down where each span becomes its least
unfoldable pub cost : ℕ → List ℕ → ℕ
cost h exp = lost (drop 1 exp) (merged h 0 0 (drop 1 exp))

-- the cost in hundredths for each bin from bin 1 on, cut to whole
abbrev pub per_bin : ℕ → List ℕ → ℕ
per_bin h exp = cost h exp * 100 / (length exp - 1)

-- of the exponents below end: up to one bin gives D15; a cost of D45 of at most 50 gives D45; else one of D25 of at most 75 gives D25; else D15
unfoldable pub picked : List ℕ → Strategy
picked exp = cond (leb (length exp) 1) D15 (cond (leb (per_bin 3 exp) 50) D45 (cond (leb (per_bin 1 exp) 75) D25 D15))

-- the answer of `pick_strategy_for_block`: 2 for another end than 0..256, 10 for a slice of more than 256 entries or one that ends before end
unfoldable pub pick_answer : List ℕ → ℕ → Result Strategy Refusal
pick_answer exp end =
    must (leb end 256) refusal.OutOfRange
    (must (leb (length exp) 256 && leb end (length exp)) refusal.WrongLength
    (Ok (picked (take end exp))))

-- ---- the frame: "blocks 0 and 3; the other four 0; alone it takes 1..6 channels, an end 0..256 for each and the whole exponent buffer;
-- another channel count is 2"

-- each end is at most 256
unfoldable pub ends_held : List ℕ → Bool
ends_held [] = true
ends_held (end ∷ ends) = leb end 256 && ends_held ends

-- 2 for another channel count or end, 10 for another length of the buffer
abbrev pub select_check : List ℕ → List ℕ → Result Unit Refusal
select_check exps ends =
    must (leb 1 (length ends) && (leb (length ends) 6 && ends_held ends)) refusal.OutOfRange
    (must (eqb (length exps) (6 * length ends * 256)) refusal.WrongLength
    (Ok tt))

-- the exponents of a channel in a block, below its end: "A channel's part starts at 256 × (C × block + channel)"
unfoldable pub block_exponents : List ℕ → List ℕ → ℕ → ℕ → List ℕ
block_exponents exps ends block channel = take (get_or ends channel 0) (piece 256 (length ends * block + channel) exps)

-- a channel's sets by block: with the strategy picked in blocks 0 and 3, reuse in the other four
unfoldable pub strategy_row : List ℕ → List ℕ → ℕ → List ExponentSet
strategy_row exps ends channel =
    cond (ltb channel (length ends))
    (New (picked (block_exponents exps ends 0 channel)) ∷ Reuse ∷ Reuse ∷ New (picked (block_exponents exps ends 3 channel)) ∷ Reuse ∷ Reuse ∷ [])
    (replicate 6 Reuse)

-- the sets, channel by block; reuse for a channel that is not there
unfoldable pub selected : List ℕ → List ℕ → Result (List (List ExponentSet)) Refusal
selected exps ends = checked (select_check exps ends) (Ok (tab 6 (strategy_row exps ends)))

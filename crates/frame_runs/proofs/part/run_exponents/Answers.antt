-- Both passes of shaping, which refuse no part: it has at most 256 bins.
use Prim.Native.Nat.{ℕ, ◌≤◌}
use mathlib.Core.List.{List}
use mathlib.Core.Path.{◌≡◌}
use native.Mathlib.Omega.{arith}
use lib.ListN.{length}
use Rattle.std.proofs.Common.{le-leb, Ok}
use Rattle.elements.specs.Strategy.{grpsize}
use Rattle.elements.specs.declared.strategy.Strategy.{Strategy}
use Rattle.shaping.specs.Passes.{preprocess_check, quantise_check}
use Rattle.frame.specs.Under.{channel-known}
use Rattle.shaping.specs.GroupsLaws.{is_span-grpsize}
use Rattle.frame_runs.specs.Runs.{run_exponents}
use Rattle.frame_runs.proofs.part.run_exponents.Goals as goal
use Rattle.frame_runs.proofs.part.run_exponents.Goals.{Start}

fits : (exp : List ℕ) → length exp ≤ 256 → preprocess_check exp ≡ Ok tt
fits exp few = rw (le-leb (length exp) 256 few)

accepted : (strategy : Strategy) (exp : List ℕ) → length exp ≤ 256 → quantise_check (grpsize strategy) exp ≡ Ok tt
accepted strategy exp few = rw (is_span-grpsize strategy, le-leb (length exp) 256 few)

held : (c : Start) → length c.args.part.now ≤ 256
held c = omega (arith, c.requires.2, (channel-known _ c.args.coeffs.now.track.now.legal _ c.requires.1).end-most)

pub unwrap-requires : goal.unwrap-requires
unwrap-requires c =
    let few : length c.run_least.new.part ≤ 256 = omega (arith, held (goal.at.unwrap-requires c).Start, c.run_least.auto.part) in
    rw (c.preprocess_d15.ensures.value, fits c.run_least.new.part few)

pub unwrap-requires-2 : goal.unwrap-requires-2
unwrap-requires-2 c =
    let few : length c.preprocess_d15.new.exp ≤ 256 = omega (arith, held (goal.at.unwrap-requires-2 c).Start, c.run_least.auto.part, c.preprocess_d15.auto.exp) in
    rw (c.quantise_exponents_to_grpsize.ensures.value, c.grpsize.ensures, accepted c.args.strategy c.preprocess_d15.new.exp few)

pub returns : goal.returns
unfolding run_exponents
returns c = rw (c.preprocess_d15.ensures.exp_after, c.run_least.ensures, c.grpsize.ensures) at c.quantise_exponents_to_grpsize.ensures.exp_after

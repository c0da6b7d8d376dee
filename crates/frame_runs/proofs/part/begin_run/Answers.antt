-- The exponents below end, then the zeros.
use Prim.Native.Nat.{ℕ, ◌-◌, ◌≤◌}
use mathlib.Core.List.{List}
use mathlib.Core.Path.{◌≡◌, ◌∙◌}
use native.Mathlib.Omega.{arith}
use lib.ListN.{length, take, length-take}
use Rattle.frame_runs.specs.Runs.{run_part}
use Rattle.frame_rows.specs.TwoPartsLaws.{two-parts}
use Rattle.frame_runs.proofs.part.begin_run.Goals as goal

front : (end : ℕ) (part : List ℕ) → end ≤ 253 → length part ≡ 256 → length (take (end - 0) part) ≡ end
front end part most long = rw length-take (omega arith)

pub returns : goal.returns
unfolding run_part
returns c =
    let end = c.end_at-end.result in
    let part = c.args.part.now in
    let long = c.requires.2 in
    let held : end ≤ 256 = omega (arith, c.end_at-end.ensures.most) in
    let y = c.run_exponents.new.part in
    let n : length y ≡ end = c.run_exponents.auto.part ∙ front end part c.end_at-end.ensures.most long in
    two-parts end part y long held n 0 _ (c.fill.ensures.after (λ y q. q)) ∙ rw (c.run_exponents.ensures, c.end_at-end.ensures.is)

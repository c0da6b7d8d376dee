-- The sets, the allocation of the row that they leave, the mantissas: each ends the block where it has a fault.
use mathlib.Core.Path.{sym, ap, ◌∙◌}
use lib.ListN.{length}
use native.Mathlib.Omega.{arith}
use Rattle.std.proofs.lemmas.Result.{err_from_is_err_and}
use Rattle.bits.specs.FieldLaws.{length-bits_of}
use Rattle.sheet.proofs.SettingsLaws.{channels-bounds}
use Rattle.frame.specs.LayoutLaws.{length-bap_row}
use Rattle.frame_reader.specs.SetsLaws.{row_low, row_kept}
use Rattle.frame_reader.proofs.OneBlock.{baps-below, block-bad-sets, block-bad-codes, block-good}
use Rattle.frame_reader.proofs.block.get_block.Goals as goal

pub returns-in_err-row_end : goal.returns-in_err-row_end
returns-in_err-row_end c =
    let p = err_from_is_err_and c.from_residual.result c.from_residual.ensures.1 in
    rw (p.1, p.2) (block-bad-sets _ _ _ _ _ c.args.row.now c.args.bap.now c.args.codes.now _ c.in_err-row_end.ensures.came.is)

pub allocate_row-requires-clause-low_row : goal.allocate_row-requires-clause-low_row
allocate_row-requires-clause-low_row c =
    let held = c.requires.b_bound.1 in
    row_low _ c.args.track.now.legal _ _ _ _ _ held.row-long held.low c.in_ok-row_end.ensures.came.is

pub allocate_row-requires-clause-kept_bap : goal.allocate_row-requires-clause-kept_bap
allocate_row-requires-clause-kept_bap c =
    let held = c.requires.b_bound.1 in
    row_kept _ c.args.track.now.legal _ _ _ _ _ held.row-long held.low c.in_ok-row_end.ensures.came.is _ held.kept

pub get_mantissas-requires : goal.get_mantissas-requires
get_mantissas-requires c =
    let p = c.requires in
    let g = c.in_ok-row_end.ensures in
    let n = ap length c.allocate_row.ensures ∙ length-bap_row c.args.track.now.settings _ in record {
      pos_bound = (rw length-bits_of at g.came.within, omega (arith, g.near, p.pos_bound.1));
      bap_len = (n ∙ sym p.b_bound.2, omega (arith, n, (channels-bounds c.args.track.now.legal).1));
      below = rw c.allocate_row.ensures (baps-below c.args.track.now.settings _);
    }

pub returns-in_err-end : goal.returns-in_err-end
returns-in_err-end c =
    let p = err_from_is_err_and c.from_residual-in_err-end.result c.from_residual-in_err-end.ensures.1 in
    rw (p.1, p.2) (block-bad-codes _ _ _ _ _ _ _ c.args.codes.now _ c.in_ok-row_end.ensures.came c.allocate_row.ensures _ c.in_err-end.ensures.came.is)

pub overflow_cast-result-2 : goal.overflow_cast-result-2
overflow_cast-result-2 c =
    let n = ap length c.allocate_row.ensures ∙ length-bap_row c.args.track.now.settings _ in
    omega (arith, n, (channels-bounds c.args.track.now.legal).1, c.in_ok-end.ensures.pos_bound_2)

pub returns : goal.returns
returns c =
    let legal = c.args.track.now.legal in
    let n = ap length c.allocate_row.ensures ∙ length-bap_row c.args.track.now.settings _ in
    block-good _ _ _ _ _ _ _ _ _ c.in_ok-row_end.ensures.came c.allocate_row.ensures _ legal c.requires.b_bound.1 c.in_ok-end.ensures.came
    (omega (arith, n, (channels-bounds legal).1, c.in_ok-row_end.ensures.near, c.in_ok-end.ensures.pos_bound_2))

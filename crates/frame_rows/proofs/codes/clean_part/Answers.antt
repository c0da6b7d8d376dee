-- What stands below end is copied, and the rest is filled with 0.
use Rattle.frame_rows.specs.RowsLaws.{clean-made}
use Rattle.frame_rows.proofs.codes.clean_part.Goals as goal

pub returns : goal.returns
returns c =
    let a = c.args in
    let p = c.requires in
    clean-made a.end a.codes.now a.to.now _ _ p.0 p.1 p.2 c.copy_codes.ensures (c.fill.ensures.after (λ y e. e))

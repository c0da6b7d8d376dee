-- Each parameter is the entry of its code.
use Rattle.std.proofs.Common.{refl}
use Rattle.tables.specs.Entry.{entry}
use Rattle.allocation.specs.Initialization.{leak_of, dbknee_of}
use Rattle.allocation.specs.Held.{parameters_of}
use Rattle.allocation.proofs.initialization.initialize.Goals as goal

pub returns : goal.returns
unfolding parameters_of leak_of dbknee_of entry
returns c =
    rw (
      c.from-2.ensures,
      c.from-4.ensures,
      c.from-6.ensures,
      c.from-8.ensures,
      c.from-10.ensures,
      c.from.ensures,
      c.from-3.ensures,
      c.from-5.ensures,
      c.from-7.ensures,
      c.from-9.ensures,
      c.held_floor.ensures.0,
      c.held_offset.ensures.0,
      c.from-11.ensures,
      c.slowdec.ensures,
      c.fastdec.ensures,
      c.slowgain.ensures,
      c.fastgain.ensures,
      c.dbpbtab.ensures,
      c.floortab.ensures,
    ) refl

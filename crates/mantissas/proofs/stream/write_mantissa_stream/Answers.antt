-- Each way out in the order of the refusals, and the bits written: laws of Answers.antt.
use Rattle.std.proofs.Common.{◌≤◌, length, sym, ◌∙◌, arith}
use Rattle.bits.specs.Bytes.{bytes_for}
use Rattle.bits.specs.Tests.{held_false, held_true}
use Rattle.mantissas.specs.CodedLaws.{coded-baps, coded-true}
use Rattle.mantissas.specs.Count.{length-stream}
use Rattle.mantissas.proofs.Answers as answers
use Rattle.mantissas.proofs.stream.write_mantissa_stream.Goals as goal

pub returns-then-not-one_length-clause-value : goal.returns-then-not-one_length-clause-value
returns-then-not-one_length-clause-value c = answers.write-wrong _ _ _ (held_false c.one_length.ensures c.if-not-one_length.true)

pub check_codes-requires : goal.check_codes-requires
check_codes-requires c = (answers.one-length-says _ _ (held_true c.one_length.ensures c.if-not-one_length.false)).0

pub returns-then-not-check_codes-clause-value : goal.returns-then-not-check_codes-clause-value
returns-then-not-check_codes-clause-value c =
    answers.write-bad _ _ _ (held_true c.one_length.ensures c.if-not-one_length.false) (held_false c.check_codes.ensures c.if-not-check_codes.true)

pub count_mantissas-n-requires : goal.count_mantissas-n-requires
count_mantissas-n-requires c =
    record {
      below = coded-baps (coded-true _ _ (held_true c.check_codes.ensures c.if-not-check_codes.false));
      bap_len_bound = (answers.one-length-says _ _ (held_true c.one_length.ensures c.if-not-one_length.false)).1;
    }

pub returns-then-out-div_ceil-clause-value : goal.returns-then-out-div_ceil-clause-value
returns-then-out-div_ceil-clause-value c =
    let good = held_true c.check_codes.ensures c.if-not-check_codes.false in
    let n = c.count_mantissas-n.ensures.value ∙ sym (length-stream (coded-true _ _ good)) in
    answers.write-full _ _ _ _ (held_true c.one_length.ensures c.if-not-one_length.false) good n (omega (arith, c.if-out-div_ceil.true, c.div_ceil.ensures))

pub put_mantissas-w-requires : goal.put_mantissas-w-requires
put_mantissas-w-requires c =
    let h = coded-true _ _ (held_true c.check_codes.ensures c.if-not-check_codes.false) in
    record {
      coded = h;
      ready = rw (length-stream h, ← c.count_mantissas-n.ensures.value) (answers.begun-ready c.start.ensures (omega (arith, c.if-out-div_ceil.false, c.div_ceil.ensures)));
    }

pub finish-requires : goal.finish-requires
finish-requires c =
    let h = coded-true _ _ (held_true c.check_codes.ensures c.if-not-check_codes.false) in
    answers.done-ready c.start.ensures c.put_mantissas-w.ensures (omega (arith, length-stream h, c.count_mantissas-n.ensures.value, c.if-out-div_ceil.false, c.div_ceil.ensures, c.put_mantissas-w.auto.out))

pub returns : goal.returns
returns c =
    let good = held_true c.check_codes.ensures c.if-not-check_codes.false in
    let n = c.count_mantissas-n.ensures.value ∙ sym (length-stream (coded-true _ _ good)) in
    let fits : bytes_for c.count_mantissas-n.result ≤ length c.args.out.now = omega (arith, c.if-out-div_ceil.false, c.div_ceil.ensures) in record {
      value = answers.write_done _ _ _ _ (held_true c.one_length.ensures c.if-not-one_length.false) good n fits;
      out_after = answers.output-of-written c.start.ensures c.put_mantissas-w.ensures (omega (arith, n, fits, c.put_mantissas-w.auto.out)) _ c.finish.ensures.value c.finish.ensures.out_after;
    }

use Rattle.std.proofs.Common.{length, refl, sym, arith}
use Rattle.std.proofs.lemmas.Option.{slice_get_read}
use Rattle.dg_evaluator.proofs.SetLemmas.{paired_next, paired_stops, paired_ends, pushed_pair}
use Rattle.dg_evaluator.proofs.values.entries.Goals as goal

pub returns-in_default : goal.returns-in_default
returns-in_default c = record {
  exact = paired_stops c.loop-index.entries c.args.keys.now c.args.values.now c.loop-index.index _
      c.in_default.ensures c.loop-index.invariant;
}

pub loop-index-preserved : goal.loop-index-preserved
loop-index-preserved c =
    paired_next c.loop-index.entries c.push.new.self c.args.keys.now c.args.values.now
    c.loop-index.index c.index-keys-index.result c.in-Some.value.now _
    (slice_get_read c.args.keys.now (length c.args.keys.now) c.loop-index.index
    c.index-keys-index.result refl c.loop-index-test.true c.index-keys-index.is)
    (sym c.in-Some.ensures) c.loop-index.invariant
    (pushed_pair c.loop-index.entries c.push.new.self c.in_ok-clone.field-0
    c.index-keys-index.result c.in_ok-copy.field-0 c.in-Some.value.now c.in_ok-push.ensures.ok
    c.in_ok-clone.ensures.cases c.in_ok-copy.ensures.exact)

pub returns : goal.returns
returns c = record {
  exact = paired_ends c.loop-index.entries c.args.keys.now c.args.values.now c.loop-index.index _
      (omega (arith, c.loop-index-test.false)) c.loop-index.invariant;
}

use Rattle.std.proofs.Common.{◌≡◌, map, drop}
use Rattle.dg_eval.specs.Bodies.{expr_part}
use Rattle.dg_bodies.specs.Counts.{after, row}
use Rattle.dg_bodies.proofs.counters.+counts.Given as goal

abbrev pub invariant-pass_all-loop-arg : goal.invariant-pass_all-loop-arg
invariant-pass_all-loop-arg l =
    after (row (map expr_part (drop l.arg-index l.args))) l.at
    ≡ after (row (map expr_part l.args)) l.fn.at

use Rattle.std.proofs.Common.{◌≡◌, ◌++◌, drop}
use Rattle.dg_eval.specs.Meaning.{pairs}
use Rattle.dg_evaluator.proofs.values.entries.Given as goal

abbrev pub invariant-loop-index : goal.invariant-loop-index
invariant-loop-index l =
    l.entries ++ pairs (drop l.index l.keys) (drop l.index l.values) ≡ pairs l.keys l.values

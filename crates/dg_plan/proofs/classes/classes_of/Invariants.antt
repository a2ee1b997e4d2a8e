use Rattle.std.proofs.Common.{◌≡◌, ◌≤◌, ◌+◌, ◌++◌, drop}
use Rattle.dg_plan.specs.Classes.{classes_from}
use Rattle.dg_plan.proofs.classes.classes_of.Given as goal

abbrev pub invariant-loop-s : goal.invariant-loop-s
invariant-loop-s l = record {
  listed : l.classes.items ++ classes_from l.number (drop l.s-index l.statements)
      ≡ classes_from 6 l.statements;
  small : l.number ≤ 6 + l.s-index;
}

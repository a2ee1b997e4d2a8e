use Rattle.std.proofs.Common.{◌≡◌, ◌≤◌, ◌++◌, drop}
use Rattle.dg_compdep.specs.Ties.{numbers_from}
use Rattle.dg_compdep.proofs.instances.numbers_of.Given as goal

abbrev pub invariant-loop-s : goal.invariant-loop-s
invariant-loop-s l = record {
  listed : l.numbers.items ++ numbers_from l.number (drop l.s-index l.statements)
      ≡ numbers_from 0 l.statements;
  small : l.number ≤ l.s-index;
}

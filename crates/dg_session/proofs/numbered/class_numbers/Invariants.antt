use Rattle.std.proofs.Common.{◌≡◌, ◌≤◌, ◌+◌, ◌++◌, drop}
use Rattle.dg_session.specs.Numbers.{numbers_from}
use Rattle.dg_session.proofs.numbered.class_numbers.Given as goal

abbrev pub invariant-loop-s : goal.invariant-loop-s
invariant-loop-s l = record {
  listed : l.numbers.items ++ numbers_from l.number (drop l.s-index l.statements)
      ≡ numbers_from 6 l.statements;
  small : l.number ≤ 6 + l.s-index;
}

use Rattle.std.proofs.Common.{drop}
use Rattle.dg_names.specs.Known.{new_name}
use Rattle.dg_names.proofs.KnownLemmas.{FindsOn}
use Rattle.dg_names.proofs.noted.outer_names.Given as goal

abbrev pub invariant-loop-statement : goal.invariant-loop-statement
invariant-loop-statement l =
    FindsOn new_name l.statements l.table (drop l.statement-index l.statements)

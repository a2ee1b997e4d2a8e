use Rattle.std.proofs.Common.{drop}
use Rattle.dg_decl.specs.Stages.Names.{instance_name}
use Rattle.dg_names.proofs.KnownLemmas.{FindsOn}
use Rattle.dg_names.proofs.noted.instance_names.Given as goal

abbrev pub invariant-loop-statement : goal.invariant-loop-statement
invariant-loop-statement l =
    FindsOn instance_name l.statements l.table (drop l.statement-index l.statements)

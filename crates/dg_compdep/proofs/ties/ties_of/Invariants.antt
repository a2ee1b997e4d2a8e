use Rattle.std.proofs.Common.{drop}
use Rattle.dg_decl.specs.Document.{statements}
use Rattle.dg_compdep.proofs.TieLemmas.{FindsOn}
use Rattle.dg_compdep.proofs.ties.ties_of.Given as goal

abbrev pub invariant-loop-s : goal.invariant-loop-s
invariant-loop-s l =
    FindsOn l.classes (statements l.classes) l.ties (drop l.s-index l.s-items)

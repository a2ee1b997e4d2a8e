use Rattle.std.proofs.Common.{◌≡◌, [], take, flat_map}
use Rattle.dg_decl.specs.Document.{statements}
use Rattle.dg_decl.specs.Stages.Dependencies.{bad_depends_on}
use Rattle.dg_compdep.specs.Dependencies.{AreBoth, named_by}
use Rattle.dg_compdep.proofs.depending.depends.Given as goal

abbrev pub invariant-loop-s : goal.invariant-loop-s
invariant-loop-s l = record {
  broken : l.broken.items ≡ flat_map (bad_depends_on l.d) (take l.s-index (statements l.d));
  named : AreBoth [] (flat_map (named_by l.d) (take l.s-index (statements l.d))) l.named;
}

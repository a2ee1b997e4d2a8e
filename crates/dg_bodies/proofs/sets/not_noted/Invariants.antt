use Rattle.std.proofs.Common.{◌≡◌, [], drop}
use Rattle.dg_bodies.specs.ElementKeys.{kept_by}
use Rattle.dg_bodies.proofs.sets.not_noted.Given as goal

abbrev pub invariant-loop-i : goal.invariant-loop-i
invariant-loop-i l =
    kept_by l.kept l.noted.keys (drop l.i l.values) (drop l.i l.contents)
    ≡ kept_by [] l.initial.noted.keys l.values l.contents

-- The steps that a gate was told of, where they are known.
use Rattle.std.specs.Prelude.{◌≡◌, List, [], ◌∷◌, ◌++◌, ⊤, None, Some}
use Rattle.std.specs.declared.option.Option.{Option}
use Rattle.dg_io.specs.declared.gate.Step.{Step}

-- where the steps are known afterwards, they were known before, and the step was put at their end
abbrev pub Hears : Option (List Step) → Option (List Step) → Step → Type 0
Hears before None step = ⊤
Hears None (Some after) step = ⊥
Hears (Some before) (Some after) step = after ≡ before ++ step ∷ []

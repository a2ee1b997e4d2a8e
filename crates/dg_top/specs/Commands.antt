-- Which words ask a program for what.
use Rattle.std.specs.Prelude.{◌≡◌, List, [], ◌∷◌, codes}
use Rattle.dg_lex.specs.Bytes.{Bytes}
use Rattle.dg_top.specs.declared.command.Program.{Program}
use Rattle.dg_top.specs.declared.command.Program.TheVariants.{Dagrun, Dagc}
use Rattle.dg_top.specs.declared.command.Command.{Command}
use Rattle.dg_top.specs.declared.command.Command.TheVariants.{Run, Print, Check, Plan}

-- the words, without the program's name, ask a program for this
abbrev pub AsksFor : Program → List Bytes → Command → Type 0
AsksFor Dagrun words Run = words ≡ []
AsksFor Dagrun words Print = ⊥
AsksFor Dagrun words Check = ⊥
AsksFor Dagrun words Plan = ⊥
AsksFor Dagc words Run = ⊥
AsksFor Dagc words Print = words ≡ codes "print" ∷ []
AsksFor Dagc words Check = words ≡ codes "check" ∷ []
AsksFor Dagc words Plan = words ≡ codes "plan" ∷ []

-- the words ask a program for nothing
abbrev pub HasNoWords : Program → List Bytes → Type 0
HasNoWords program words = (command : Command) → AsksFor program words command → ⊥

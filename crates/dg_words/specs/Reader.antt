-- The command that gives the values of a run's words.
use Rattle.std.specs.Prelude.{ℕ, List, Some, true, codes}
use Rattle.clap.specs.Words.{App, Rule, new_app, new_rule, with_rule}
use Rattle.clap.specs.Simple.{on_top}
use Rattle.clap.specs.declared.builder.ArgAction.TheVariants.{Set}

-- an option with a value, whose name is its id too
abbrev pub option_rule : List ℕ → Rule
option_rule name = record (new_rule name) { long = Some name; action = Some Set }

-- a simple command with the two options and no help, over words without the program's name
unfoldable pub run_command : App
run_command = with_rule (with_rule
    (on_top (λ s. record s { no_binary_name = true; disable_help_flag = true })
    (new_app (codes "dagrun")))
    (option_rule (codes "workers"))) (option_rule (codes "generate"))

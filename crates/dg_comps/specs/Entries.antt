-- Entry points with the name of an earlier one of their class.
use Rattle.std.specs.Prelude.{◌≡◌, ℕ, Bool, false, Option, Some, None}
use Rattle.dg_lex.specs.Bytes.{Bytes}
use Rattle.dg_decl.specs.declared.document.Doc.{Doc}
use Rattle.dg_decl.specs.Document.{Statement}
use Rattle.dg_decl.specs.Components.{class_around}
use Rattle.dg_decl.specs.Stages.Components.{entry_name, has_earlier_entry}
use Rattle.dg_comps.specs.ClassTables.{ClassTable, has_at}

-- a test of the class and the name of an entry
abbrev pub both : (ℕ → Bytes → Bool) → Option ℕ → Option Bytes → Bool
both test None name = false
both test (Some class) None = false
both test (Some class) (Some name) = test class name

-- a table has the name of an entry for its class
abbrev pub repeats : Doc → ClassTable → Statement → Bool
repeats doc seen s = both (λ c n. has_at seen n c) (class_around doc s) (entry_name s.item)

-- an entry has the name of an earlier one of its class
abbrev pub is_repeated : Doc → Statement → Bool
is_repeated doc s =
    both (λ c n. has_earlier_entry doc c s.index n) (class_around doc s) (entry_name s.item)

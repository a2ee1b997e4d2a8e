-- What the tables of a document have.
use Rattle.std.specs.Prelude.{◌≡◌, ℕ, if◌then◌else◌, List, map, Option, Some, None, option_map}
use Rattle.std.specs.List.{find}
use Rattle.std.specs.Option.{option_or, option_and_then}
use Rattle.dg_lex.specs.Bytes.{Bytes, is_among}
use Rattle.dg_hilt.specs.Names.{predefined_names}
use Rattle.dg_decl.specs.declared.document.Doc.{Doc}
use Rattle.dg_decl.specs.declared.item.Item.{Item}
use Rattle.dg_decl.specs.Bounds.{IsBounded}
use Rattle.dg_decl.specs.Document.{Statement, statements}
use Rattle.dg_decl.specs.Names.{outer_name, is_called}
use Rattle.dg_decl.specs.Components.{component_headers}
use Rattle.dg_decl.specs.Stages.Names.{instance_name}
use Rattle.dg_names.specs.Tables.{Table, index_in}

-- a name, unless it is predefined
unfoldable pub unless_predefined : Bytes → Option Bytes
unless_predefined n = if is_among n predefined_names then None else Some n

-- the name that an item declares outside blocks, unless it is predefined
abbrev pub new_name : Item → Option Bytes
new_name i = option_and_then unless_predefined (outer_name i)

-- the index of the first statement that has this name of that kind
abbrev pub first_index : (Item → Option Bytes) → Bytes → List Statement → Option ℕ
first_index name_in n ss = option_map (λ s. s.index) (find (is_called name_in n) ss)

-- the table has the names of that kind, each with the index of the first statement that has it
pub record HasFirst (name_in : Item → Option Bytes) (ss : List Statement) (table : Table) : Type 0 where
  pub each : (n : Bytes) → index_in n table ≡ first_index name_in n ss

-- the table finds the names of this statement too
pub record Notes (name_in : Item → Option Bytes) (s : Statement) (old new : Table) : Type 0 where
  pub each : (n : Bytes) → index_in n new
      ≡ option_or (index_in n old) (if is_called name_in n s then Some s.index else None)

-- what the tables of a document are
pub record AreTables (doc : Doc) (ss : List Statement) (outer opened : Table) (headers : List ℕ) : Type 0 where
  pub bounded : IsBounded doc
  pub listed : ss ≡ statements doc
  pub declared : HasFirst new_name (statements doc) outer
  pub instances : HasFirst instance_name (statements doc) opened
  pub components : headers ≡ map (λ s. s.index) (component_headers doc)

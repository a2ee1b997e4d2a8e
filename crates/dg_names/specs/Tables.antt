-- Tables of names.
use Rattle.std.specs.Prelude.{◌≡◌, ℕ, List, Option, Some, None, if◌then◌else◌}
use Rattle.std.specs.Map.{lookup}
use Rattle.std.specs.Option.{option_or}
use Rattle.std.specs.Str.{bytes_eq}
use Rattle.dg_lex.specs.Bytes.{Bytes}

-- names, each with an index, in the order in which they came
abbrev pub Table : Type 0
Table = List (Bytes × ℕ)

-- the index of a name
abbrev pub index_in : Bytes → Table → Option ℕ
index_in name table = lookup (bytes_eq name) table

-- the table finds this name too, with this index, unless it found the name before
pub record Adds (name : Bytes) (index : ℕ) (old new : Table) : Type 0 where
  pub each : (n : Bytes) → index_in n new
      ≡ option_or (index_in n old) (if bytes_eq name n then Some index else None)

-- The places of entries by name, in tables.
use Rattle.std.specs.Prelude.{◌≡◌, ℕ, false, List, [], length, Option, Some, None, slice_get, if◌then◌else◌}
use Rattle.std.specs.List.{position}
use Rattle.std.specs.Map.{lookup}
use Rattle.std.specs.Option.{option_or, option_and_then, option_map_or}
use Rattle.std.specs.Str.{bytes_eq}
use Rattle.dg_lex.specs.Bytes.{Bytes}
use Rattle.dg_decl.specs.declared.document.Doc.{Doc}
use Rattle.dg_decl.specs.declared.component.Class.{Class}
use Rattle.dg_decl.specs.declared.item.Item.{Item}
use Rattle.dg_decl.specs.Names.{member_name}
use Rattle.dg_decl.specs.Components.{component_classes}
use Rattle.dg_slots.specs.Sessions.{is_entry_called}

-- names, each with a place, in the order in which they came
abbrev pub Table : Type 0
Table = List (Bytes × ℕ)

-- the place of a name
abbrev pub place_in : Bytes → Table → Option ℕ
place_in name table = lookup (bytes_eq name) table

-- the table finds this name too, with this place, unless it found the name before
pub record Adds (name : Bytes) (place : ℕ) (old new : Table) : Type 0 where
  pub each : (n : Bytes) → place_in n new
      ≡ option_or (place_in n old) (if bytes_eq name n then Some place else None)

-- the same of a member's name, where it has one
pub record NotesItem (item : Item) (place : ℕ) (old new : Table) : Type 0 where
  pub each : (n : Bytes) → place_in n new
      ≡ option_or (place_in n old)
      (if option_map_or (λ m. bytes_eq m n) (member_name item) false then Some place else None)

-- the same of the entry of an index
pub record Notes (doc : Doc) (entry place : ℕ) (old new : Table) : Type 0 where
  pub each : (n : Bytes) → place_in n new
      ≡ option_or (place_in n old) (if is_entry_called doc n entry then Some place else None)

-- the table has the place of the first of these entries that has a name
pub record HasPlaces (doc : Doc) (entries : List ℕ) (table : Table) : Type 0 where
  pub each : (n : Bytes) → place_in n table ≡ position (is_entry_called doc n) entries

-- a table for each class
pub record KnowsEntries (doc : Doc) (rows : List Class) (tables : List Table) : Type 0 where
  pub count : length tables ≡ length rows
  pub each : (c : ℕ) (n : Bytes) → option_and_then (place_in n) (slice_get tables c)
      ≡ position (is_entry_called doc n) (option_map_or (λ r. r.entries) (slice_get rows c) [])

-- the classes are those of a document, and the tables are those of their entries
pub record IsScene (doc : Doc) (rows : List Class) (tables : List Table) : Type 0 where
  pub classes : rows ≡ component_classes doc
  pub entries : KnowsEntries doc rows tables

-- The module members that bind, contribute to or declare a key in a class.
use Rattle.std.specs.Prelude.{◌≡◌, ◌<◌, ℕ, suc, Bool, ◌||◌, ◌&&◌, ◌==◌, List, [], ◌∷◌, ◌++◌, Option, Some, None, length, slice_get, if◌then◌else◌}
use Rattle.std.specs.List.{flat_map, range_with_len}
use Rattle.std.specs.Option.{option_map, option_map_or}
use Rattle.dg_types.specs.declared.key.Key.{Key}
use Rattle.dg_decl.specs.declared.document.Doc.{Doc}
use Rattle.dg_decl.specs.declared.component.Class.{Class}
use Rattle.dg_decl.specs.declared.binding.Bind.{Bind}
use Rattle.dg_decl.specs.declared.binding.BindKind.{BindKind}
use Rattle.dg_decl.specs.declared.binding.BindRef.TheVariants as ref
use Rattle.dg_decl.specs.declared.binding.Owned.{Owned}
use Rattle.dg_decl.specs.Components.{is_number, class_count, header_of, is_installed}
use Rattle.dg_decl.specs.Lookup.{is_explicit, is_contribution, is_declaration, is_optional}
use Rattle.dg_resolve.specs.declared.members.Wanted.{Wanted}
use Rattle.dg_resolve.specs.declared.members.Wanted.TheVariants as wanted
use Rattle.dg_resolve.specs.Tables.{Numbers, of_number, row_of_each}

-- a member of this kind is among those that are wanted
abbrev pub takes : Wanted → BindKind → Bool
takes wanted.Explicit does = is_explicit does
takes wanted.Contribution does = is_contribution does
takes wanted.Declaration does = is_declaration does
takes wanted.Optional does = is_optional does
takes wanted.Opening does = is_contribution does || is_declaration does

-- ---- classes by an item

-- under each item stand the classes of which it is the header
abbrev pub header_index : Doc → ℕ → Option ℕ
header_index doc c = option_map (λ h. h.index) (header_of doc c)

abbrev pub headed_by : Doc → ℕ → ℕ → List ℕ
headed_by doc m n =
    flat_map (λ c. if is_number m (header_index doc c) then c ∷ [] else []) (range_with_len 0 n)

-- a class stands under its header now
pub record AddsHeader (doc : Doc) (c : ℕ) (old new : Numbers) : Type 0 where
  pub each : (m : ℕ) → of_number m new
      ≡ of_number m old ++ (if is_number m (header_index doc c) then c ∷ [] else [])

pub record AreHeaders (doc : Doc) (table : Numbers) : Type 0 where
  pub each : (m : ℕ) → of_number m table ≡ headed_by doc m (class_count doc)

-- the modules of a class
abbrev pub modules_at : List Class → ℕ → List ℕ
modules_at classes c = option_map_or (λ x. x.modules) (slice_get classes c) []

-- a class once for each time that a module is among its modules
abbrev pub among_modules : List Class → ℕ → ℕ → List ℕ
among_modules classes m c = flat_map (λ k. if m == k then c ∷ [] else []) (modules_at classes c)

-- under each item stand the first classes of which it is a module
pub record AreModules (classes : List Class) (count : ℕ) (table : Numbers) : Type 0 where
  pub each : (m : ℕ) → of_number m table
      ≡ flat_map (among_modules classes m) (range_with_len 0 count)

-- under each item stand the classes in which it is installed
pub record AreInstallers (doc : Doc) (table : Numbers) : Type 0 where
  pub each : (m : ℕ) → of_number m table
      ≡ flat_map (λ c. if is_installed doc c m then c ∷ [] else [])
      (range_with_len 0 (class_count doc))

-- ---- members

-- a member that is wanted, in each class in which its module is installed
abbrev pub rows_of_member : Numbers → Wanted → Bind → ℕ → Key → List Owned
rows_of_member installers w b c k =
    if takes w b.kind then row_of_each (of_number b.module installers) b.key (ref.Member b.item) c k
    else []

abbrev pub rows_of_members : Numbers → Wanted → List Bind → ℕ → Key → List Owned
rows_of_members installers w bs c k = flat_map (λ b. rows_of_member installers w b c k) bs

-- What the tables of look-ups know of a document, and what is found in them.
use Rattle.std.specs.Prelude.{◌≡◌, ◌<◌, ℕ, Bool, true, false, not, ◌||◌, List, [], ◌∷◌, map, reverse, Option, Some, None, unwrap_or, slice_get, if◌then◌else◌}
use Rattle.std.specs.List.{filter, flat_map, list_any, find as find_first}
use Rattle.std.specs.Option.{option_and_then, option_map_or}
use Rattle.dg_lex.specs.Bytes.{Bytes, is_among}
use Rattle.dg_types.specs.declared.key.Key.{Key}
use Rattle.dg_decl.specs.declared.document.Doc.{Doc}
use Rattle.dg_decl.specs.declared.component.Class.{Class}
use Rattle.dg_decl.specs.declared.binding.Bind.{Bind}
use Rattle.dg_decl.specs.declared.binding.BindRef.{BindRef}
use Rattle.dg_decl.specs.declared.binding.BindRef.TheVariants as ref
use Rattle.dg_decl.specs.declared.binding.Owned.{Owned}
use Rattle.dg_decl.specs.declared.binding.Found.{Found}
use Rattle.dg_decl.specs.declared.binding.Found.TheVariants as found
use Rattle.dg_decl.specs.Components.{class_count, component_classes, root_first}
use Rattle.dg_decl.specs.Graph.{first_statement}
use Rattle.dg_decl.specs.Lookup as lookup
use Rattle.dg_resolve.specs.declared.members.Wanted.{Wanted}
use Rattle.dg_resolve.specs.declared.members.Wanted.TheVariants as wanted
use Rattle.dg_resolve.specs.declared.tables.MemberTables.{MemberTables}
use Rattle.dg_resolve.specs.declared.tables.AllTables.{AllTables}
use Rattle.dg_resolve.specs.Keys.{opening_key}
use Rattle.dg_resolve.specs.Members.{takes, rows_of_members}
use Rattle.dg_resolve.specs.Tables.{Rows, Numbers, Holds, of_class}

-- ---- along a chain

-- what stands under a key in the tables of some classes
abbrev pub in_chain : List Rows → Key → List ℕ → List Owned
in_chain tables k chain = flat_map (λ c. of_class c k tables) chain

abbrev pub is_empty : List Owned → Bool
is_empty [] = true
is_empty (o ∷ os) = false

-- something stands under a key in the table of a class
abbrev pub has : List Rows → Key → ℕ → Bool
has tables k c = not (is_empty (of_class c k tables))

-- the item of a binding that is a module member
abbrev pub member_of : BindRef → Option ℕ
member_of (ref.Member i) = Some i
member_of other = None

-- the item of the first binding under a key in the tables of some classes
abbrev pub first_item : List Rows → Key → List ℕ → Option ℕ
first_item tables k chain =
    option_and_then (λ o. member_of o.binding) (slice_get (in_chain tables k chain) 0)

-- the scopes of a class
abbrev pub scopes_at : List Class → ℕ → List Bytes
scopes_at classes c = option_map_or (λ x. x.scopes) (slice_get classes c) []

-- the nearest class, from the last on, that carries a scope
abbrev pub carrier : List Class → Bytes → List ℕ → Option ℕ
carrier classes scope chain =
    find_first (λ c. is_among scope (scopes_at classes c)) (reverse chain)

-- ---- what is found

-- what explicit bindings come to, where there are any
abbrev pub found_in : List Owned → Option Found
found_in [] = None
found_in (o ∷ []) = Some (found.One o.owner o.binding)
found_in (o ∷ p ∷ os) = Some (found.Many (o ∷ p ∷ os))

-- the contributions to a set or map, where it has any or is declared
abbrev pub opened : Bool → List Owned → Option (List Owned)
opened is_there os = if is_there || not (is_empty os) then Some os else None

-- what a class with `@Inject` comes to, by its scope and the nearest class that carries it
abbrev pub found_injected : ℕ → ℕ → Option Bytes → (Bytes → Option ℕ) → Found
found_injected class i None carrier_of = found.One class (ref.ClassItem i)
found_injected class i (Some scope) carrier_of = by_carrier i (carrier_of scope)
  where
    by_carrier : ℕ → Option ℕ → Found
    by_carrier i None = found.BadScope i
    by_carrier i (Some o) = found.One o (ref.ClassItem i)

-- the contributions to the set or map of this key of values that a class sees
abbrev pub contributions_to : Doc → ℕ → Key → List Owned
contributions_to doc c plain =
    flat_map
    (λ o. map (λ b. lookup.owned o (ref.Member b.item)) (filter (lookup.acts_in doc o lookup.is_contribution plain) (lookup.bindings doc)))
    (root_first doc c)

-- ---- tables of a document

-- the tables have the members that are wanted, under their keys, in the classes in which they act
pub record HaveMembers (doc : Doc) (w : Wanted) (tables : List Rows) : Type 0 where
  pub each : (c : ℕ) (k : Key) → c < class_count doc → of_class c k tables
      ≡ map (λ b. lookup.owned c (ref.Member b.item)) (filter (lookup.acts_in doc c (takes w) k) (lookup.bindings doc))

pub record HaveExplicit (doc : Doc) (tables : List Rows) : Type 0 where
  pub each : (c : ℕ) (k : Key) → c < class_count doc → of_class c k tables ≡ lookup.explicit doc c k

-- the chain of each class, the root first
pub record HaveChains (doc : Doc) (chains : List (List ℕ)) : Type 0 where
  pub each : (c : ℕ) → c < class_count doc → unwrap_or (slice_get chains c) [] ≡ root_first doc c

-- the tables have the rows of the members that are wanted
pub record HoldMembers (count : ℕ) (installers : Numbers) (bs : List Bind) (made : MemberTables) : Type 0 where
  pub contributions : Holds count (rows_of_members installers wanted.Contribution bs) made.contributions
  pub declarations : Holds count (rows_of_members installers wanted.Declaration bs) made.declarations
  pub optionals : Holds count (rows_of_members installers wanted.Optional bs) made.optionals
  pub openings : Holds count (rows_of_members installers wanted.Opening bs) made.openings

pub record AreTables (doc : Doc) (made : AllTables) : Type 0 where
  pub chains : HaveChains doc (map (λ v. v.items) made.chains.items)
  pub explicit : HaveExplicit doc made.explicit
  pub contributions : HaveMembers doc wanted.Contribution made.members.contributions
  pub declarations : HaveMembers doc wanted.Declaration made.members.declarations
  pub optionals : HaveMembers doc wanted.Optional made.members.optionals
  pub openings : HaveMembers doc wanted.Opening made.members.openings

-- Their first row under the opening key of a key, along the chain of a class, is the first statement
-- of the key.
pub record AreOpenings (doc : Doc) (k : Key) (tables : List Rows) : Type 0 where
  pub each : (c : ℕ) → c < class_count doc
      → first_item tables (opening_key k) (root_first doc c) ≡ first_statement doc c k

-- the names, the classes and the tables are those of a document
pub record AreLookups (doc names : Doc) (rows : List Class) (made : AllTables) : Type 0 where
  pub same : names ≡ doc
  pub classes : rows ≡ component_classes doc
  pub tables : AreTables doc made

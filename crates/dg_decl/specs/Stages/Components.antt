-- The rules on component classes that hold before any of their bindings is looked up.
use Rattle.std.specs.Prelude.{◌≡◌, [], ℕ, nat_lt, Bool, false, not, ◌&&◌, List, ◌++◌, map, Option, Some, None, is_some, option_map, option_and_then, option_to_list, unwrap_or}
use Rattle.std.specs.List.{filter, flat_map, list_any}
use Rattle.dg_lex.specs.Bytes.{Bytes}
use Rattle.dg_decl.specs.declared.document.Doc.{Doc}
use Rattle.dg_decl.specs.declared.item.Item.{Item}
use Rattle.dg_decl.specs.declared.item.Item.TheVariants as item
use Rattle.dg_decl.specs.declared.violation.Rule.{Rule}
use Rattle.dg_decl.specs.declared.violation.Rule.TheVariants as rule
use Rattle.dg_decl.specs.declared.violation.Violation.{Violation}
use Rattle.dg_decl.specs.Document.{Statement, statements}
use Rattle.dg_decl.specs.Sites.{site_of_line}
use Rattle.dg_decl.specs.Names.{is_called, module_named, item_at}
use Rattle.dg_decl.specs.Components.{number_of_header, class_name, ancestors, chain, IsChain, has_root, is_own_ancestor, scopes_in, carries, replaces_in, is_entry_of, class_around}

-- a rule that a line breaks by a name
abbrev pub at_line : Rule → Statement → Bytes → Violation
at_line r s detail = record { rule = r; site = site_of_line s.line; detail = Some detail }

-- the class of which a statement is the header, in a list
abbrev pub headed : Doc → Statement → List ℕ
headed doc s = option_to_list (number_of_header doc s)

-- a class is its own ancestor
unfoldable pub parent_cycle : Doc → Statement → List Violation
parent_cycle doc s =
    map (λ c. at_line rule.ParentCycle s (class_name doc c))
    (filter (is_own_ancestor doc) (headed doc s))

-- an ancestor of a class carries a scope
abbrev pub ancestor_carries : Doc → ℕ → Bytes → Bool
ancestor_carries doc c scope = list_any (carries doc scope) (ancestors doc c)

-- a class carries a scope of an ancestor; it isn't judged where its walk of parents meets a cycle
unfoldable pub ancestor_scope : Doc → Statement → List Violation
ancestor_scope doc s = flat_map broken_by (filter (has_root doc) (headed doc s))
  where
    broken_by : ℕ → List Violation
    broken_by c =
        map (at_line rule.AncestorScope s) (filter (ancestor_carries doc c) (scopes_in s.item))

abbrev pub entry_name : Item → Option Bytes
entry_name (item.Entry n result) = Some n
entry_name other = None

-- an earlier entry of a class has this name
abbrev pub has_earlier_entry : Doc → ℕ → ℕ → Bytes → Bool
has_earlier_entry doc c index n =
    list_any (λ s. nat_lt s.index index && is_entry_of doc c s && is_called entry_name n s)
    (statements doc)

-- an entry has the name of an earlier entry of its class, whichever blocks they stand in
unfoldable pub duplicate_entry : Doc → Statement → List Violation
duplicate_entry doc s = flat_map broken_by (option_to_list (class_around doc s))
  where
    broken_by : ℕ → List Violation
    broken_by c =
        map (at_line rule.DuplicateEntry s)
        (filter (has_earlier_entry doc c s.index) (option_to_list (entry_name s.item)))

abbrev pub has_install : Item → Bool
has_install (item.Module install n includes) = is_some install
has_install other = false

-- a name is that of a module with `@InstallIn`; a test module has none
abbrev pub may_be_replaced : Doc → Bytes → Bool
may_be_replaced doc n =
    unwrap_or (option_map has_install (option_and_then (item_at doc) (module_named doc n))) false

-- a test module replaces a module that isn't installed by an annotation
unfoldable pub bad_replace : Doc → Statement → List Violation
bad_replace doc s =
    map (at_line rule.BadReplace s) (filter (λ n. not (may_be_replaced doc n)) (replaces_in s.item))

-- what a statement breaks, by rule
abbrev pub components_at : Doc → Statement → List Violation
components_at doc s =
    parent_cycle doc s ++ ancestor_scope doc s ++ duplicate_entry doc s ++ bad_replace doc s

-- the stage: what the statements break, by line
unfoldable pub components_stage : Doc → List Violation
components_stage doc = flat_map (components_at doc) (statements doc)

-- where the stage is empty, the chain of each class is its whole walk of parents
abbrev pub ChainsEndAtRoots : Type 0
ChainsEndAtRoots = (doc : Doc) → components_stage doc ≡ [] → (c : ℕ) → IsChain doc c (chain doc c)

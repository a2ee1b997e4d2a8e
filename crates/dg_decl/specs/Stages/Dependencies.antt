-- The rule on the components that a component depends on.
use Rattle.std.specs.Prelude.{◌↔◌, IsTrue, ℕ, nat_eq, nat_lt, Bool, ◌&&◌, ◌||◌, List, [], ◌∷◌, ◌++◌, map, is_some, option_to_list}
use Rattle.std.specs.List.{filter, flat_map, list_any}
use Rattle.dg_lex.specs.Bytes.{Bytes}
use Rattle.dg_decl.specs.declared.document.Doc.{Doc}
use Rattle.dg_decl.specs.declared.violation.Rule.TheVariants as rule
use Rattle.dg_decl.specs.declared.violation.Violation.{Violation}
use Rattle.dg_decl.specs.Document.{Statement, statements}
use Rattle.dg_decl.specs.Walks.{IsReached, is_within}
use Rattle.dg_decl.specs.Names.{is_called}
use Rattle.dg_decl.specs.Components.{class_count, class_named, parent_of, own_members, dependency_in, deps_of, class_around}
use Rattle.dg_decl.specs.Stages.Components.{at_line}

-- the classes on which the instances of a class stand: its parent and its dependencies
unfoldable pub stands_on : Doc → ℕ → List ℕ
stands_on doc c = option_to_list (parent_of doc c) ++ deps_of doc c

-- a walk of parents and dependencies, also one of no step, leads from one class to another
abbrev pub StandsOn : Doc → ℕ → ℕ → Type 0
StandsOn doc from to = IsReached (stands_on doc) (from ∷ []) to

-- the same, by walks of at most as many steps as there are classes
unfoldable pub is_below : Doc → ℕ → ℕ → Bool
is_below doc from to = is_within nat_eq (stands_on doc) (class_count doc) (from ∷ []) to

-- as many steps as there are classes are enough for any walk of parents and dependencies
abbrev pub BelowByShortWalks : Type 0
BelowByShortWalks = (doc : Doc) (from to : ℕ) → IsTrue (is_below doc from to) ↔ StandsOn doc from to

-- an earlier line of the block of a class names this class as a dependency
abbrev pub is_named_earlier : Doc → ℕ → ℕ → Bytes → Bool
is_named_earlier doc c index n =
    list_any (λ s. nat_lt s.index index && is_called dependency_in n s) (own_members doc c)

-- a walk leads back from the class of this name to a class
abbrev pub leads_back : Doc → ℕ → Bytes → Bool
leads_back doc c n = list_any (λ d. is_below doc d c) (option_to_list (class_named doc n))

-- a component has a parent, names a dependency again, or depends on a class that stands on it
abbrev pub is_bad_dependency : Doc → ℕ → ℕ → Bytes → Bool
is_bad_dependency doc c index n =
    is_some (parent_of doc c) || is_named_earlier doc c index n || leads_back doc c n

-- a `dependsOn` line names a class on which its component may not depend
unfoldable pub bad_depends_on : Doc → Statement → List Violation
bad_depends_on doc s = flat_map broken_by (option_to_list (class_around doc s))
  where
    broken_by : ℕ → List Violation
    broken_by c =
        map (at_line rule.BadDependsOn s)
        (filter (is_bad_dependency doc c s.index) (option_to_list (dependency_in s.item)))

-- the stage: what the statements break, by line
unfoldable pub dependencies_stage : Doc → List Violation
dependencies_stage doc = flat_map (bad_depends_on doc) (statements doc)

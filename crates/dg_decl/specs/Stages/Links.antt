-- The stage of links: which instances `link` lines tie, and that no dependency is left untied.
-- These rules are this project's own. A line breaks one rule at most: the first.
use Rattle.std.specs.Prelude.{ℕ, Bool, false, not, ◌&&◌, ◌==◌, if◌then◌else◌, List, [], ◌∷◌, map, filter, flat_map, Option, Some, None, is_none, option_and_then, option_to_list}
use Rattle.std.specs.List.{list_any}
use Rattle.std.specs.Option.{option_map_or}
use Rattle.std.specs.Str.{bytes_eq}
use Rattle.dg_lex.specs.Bytes.{Bytes}
use Rattle.dg_decl.specs.declared.document.Doc.{Doc}
use Rattle.dg_decl.specs.declared.item.Item.{Item}
use Rattle.dg_decl.specs.declared.item.Item.TheVariants as item
use Rattle.dg_decl.specs.declared.violation.Rule.TheVariants as rule
use Rattle.dg_decl.specs.declared.violation.Violation.{Violation}
use Rattle.dg_decl.specs.Document.{Statement, statements}
use Rattle.dg_decl.specs.Components.{class_name, deps_of}
use Rattle.dg_decl.specs.Stages.Components.{at_line}
use Rattle.dg_decl.specs.Stages.Names.{instance_name, stands_before}
use Rattle.dg_decl.specs.Stages.Session.{opened_before, class_opened, class_of_instance, first_of, first_broken}

-- the ends of a `link` line: `from`, and then `to`
abbrev pub ends : Item → List Bytes
ends (item.Link from to) = from ∷ to ∷ []
ends other = []

-- `from`, else `to`, was not opened on an earlier line
unfoldable pub unknown_linked : Doc → Statement → List Violation
unknown_linked doc s =
    map (at_line rule.UnknownLinked s)
    (first_of (filter (λ n. is_none (opened_before doc s n)) (ends s.item)))

-- an instance, and the class of the instance to which a line would tie it
pub record Tie : Type 0 where
  pub from : Bytes
  pub class : ℕ

-- what a `link` line would tie, where both of its ends were opened before it and the class of the
-- one depends on that of the other
unfoldable pub tie_of : Doc → Statement → Option Tie
tie_of doc s = of_item s.item
  where
    dependent : Bytes → ℕ → ℕ → Option Tie
    dependent from of class =
        if list_any (λ d. d == class) (deps_of doc of)
        then Some (record { from = from; class = class }) else None

    of_item : Item → Option Tie
    of_item (item.Link from to) =
        option_and_then (λ of. option_and_then (dependent from of) (class_of_instance doc s to))
        (class_of_instance doc s from)
    of_item other = None

abbrev pub same_tie : Tie → Tie → Bool
same_tie a b = bytes_eq a.from b.from && (a.class == b.class)

-- an earlier line ties the same instance to an instance of the same class
abbrev pub is_tied_before : Doc → Statement → Tie → Bool
is_tied_before doc s t =
    list_any (λ e. stands_before e s && option_map_or (same_tie t) (tie_of doc e) false)
    (statements doc)

abbrev pub ties_anew : Doc → Statement → Bool
ties_anew doc s = option_map_or (λ t. not (is_tied_before doc s t)) (tie_of doc s) false

-- the class of `to` is no dependency of the class of `from`, or an earlier line ties `from` to an
-- instance of that class
unfoldable pub wrong_dependency : Doc → Statement → List Violation
wrong_dependency doc s = of_item s.item
  where
    of_item : Item → List Violation
    of_item (item.Link from to) =
        if ties_anew doc s then []
        else map (λ c. at_line rule.WrongDependency s (class_name doc c))
        (option_to_list (class_of_instance doc s to))
    of_item other = []

-- a line ties an instance to an instance of a class
abbrev pub is_tied : Doc → Bytes → ℕ → Bool
is_tied doc from class =
    list_any
    (λ e. option_map_or (same_tie (record { from = from; class = class })) (tie_of doc e) false)
    (statements doc)

-- the dependencies of an opened instance to which no line ties it
abbrev pub untied : Doc → Statement → List ℕ
untied doc s = flat_map of_name (option_to_list (instance_name s.item))
  where
    of_name : Bytes → List ℕ
    of_name n =
        filter (λ d. not (is_tied doc n d))
        (flat_map (deps_of doc) (option_to_list (class_opened doc s)))

-- an `open` line of a class with a dependency to which no line ties the instance: the first such
-- dependency
unfoldable pub missing_link : Doc → Statement → List Violation
missing_link doc s =
    map (at_line rule.MissingLink s) (first_of (map (class_name doc) (untied doc s)))

-- the first rule that a line breaks
unfoldable pub links_at : Doc → Statement → List Violation
links_at doc s =
    first_broken (unknown_linked doc s ∷ wrong_dependency doc s ∷ missing_link doc s ∷ [])

-- the stage, by line
unfoldable pub links_stage : Doc → List Violation
links_stage doc = flat_map (links_at doc) (statements doc)

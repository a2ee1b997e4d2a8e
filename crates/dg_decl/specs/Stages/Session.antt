-- The stage of the session: what `open` and `ask` lines may say. These rules are this project's
-- own. A line breaks one rule at most: the first.
use Rattle.std.specs.Prelude.{ℕ, suc, Bool, true, false, not, ◌&&◌, ◌==◌, if◌then◌else◌, List, [], ◌∷◌, ◌++◌, map, filter, filter_map, flat_map, Option, Some, None, is_none, option_and_then, option_to_list, decimal}
use Rattle.std.specs.List.{find}
use Rattle.std.specs.Option.{option_map_or}
use Rattle.std.specs.Str.{bytes_eq}
use Rattle.dg_lex.specs.Bytes.{Bytes, is_among}
use Rattle.dg_types.specs.declared.shape.Shape.{Shape, out-Shape}
use Rattle.dg_types.specs.declared.shape.Shape.TheOpen.{Shape-F}
use Rattle.dg_types.specs.declared.key.MapKeyVal.{MapKeyVal}
use Rattle.dg_types.specs.declared.key.MapKeyVal.TheVariants as map_key
use Rattle.dg_types.specs.Requests.{Layer}
use Rattle.dg_decl.specs.declared.document.Doc.{Doc}
use Rattle.dg_decl.specs.declared.component.Bound.{Bound}
use Rattle.dg_decl.specs.declared.item.Item.{Item}
use Rattle.dg_decl.specs.declared.item.Item.TheVariants as item
use Rattle.dg_decl.specs.declared.item.OpenArg.{OpenArg}
use Rattle.dg_decl.specs.declared.item.AskStep.{AskStep}
use Rattle.dg_decl.specs.declared.item.AskStep.TheVariants as step
use Rattle.dg_decl.specs.declared.violation.Rule.TheVariants as rule
use Rattle.dg_decl.specs.declared.violation.Violation.{Violation}
use Rattle.dg_decl.specs.Document.{Statement, statements}
use Rattle.dg_decl.specs.Names.{is_called, item_at, result_of, member_name}
use Rattle.dg_decl.specs.Components.{class_named, parent_of, bound_of, entries_of}
use Rattle.dg_decl.specs.Typing.{checks, got_at, type_of_field}
use Rattle.dg_decl.specs.Stages.Components.{at_line}
use Rattle.dg_decl.specs.Stages.Names.{instance_name, stands_before}

-- ---- instances

-- the `open` line that opens an instance of this name before a statement
abbrev pub opened_before : Doc → Statement → Bytes → Option Statement
opened_before doc s n =
    find (λ e. stands_before e s && is_called instance_name n e) (statements doc)

abbrev pub opened_class : Item → Option Bytes
opened_class (item.OpenLine n class parent args) = Some class
opened_class other = None

-- the class of which an `open` line opens an instance
abbrev pub class_opened : Doc → Statement → Option ℕ
class_opened doc s = option_and_then (class_named doc) (opened_class s.item)

-- the class of an instance that is opened before a statement
abbrev pub class_of_instance : Doc → Statement → Bytes → Option ℕ
class_of_instance doc s n = option_and_then (class_opened doc) (opened_before doc s n)

-- the instances that a line names
abbrev pub named_instances : Item → List Bytes
named_instances (item.OpenLine n class parent args) = option_to_list parent
named_instances (item.AskLine inst entry steps) = inst ∷ []
named_instances other = []

-- an instance name was not opened on an earlier line
unfoldable pub unknown_instance : Doc → Statement → List Violation
unknown_instance doc s =
    map (at_line rule.UnknownInstance s)
    (filter (λ n. is_none (opened_before doc s n)) (named_instances s.item))

-- ---- parents

-- the class of the instance that `in` names is the parent of the class that is opened; neither is
-- there without the other
abbrev pub fits_parent : Option ℕ → Option ℕ → Bool
fits_parent None None = true
fits_parent (Some wanted) (Some given) = wanted == given
fits_parent wanted given = false

-- `in` is missing though the class has a parent, stands there though it has none, or names an
-- instance of another class
unfoldable pub wrong_parent : Doc → Statement → List Violation
wrong_parent doc s = of_item s.item
  where
    broken : Bytes → Option ℕ → List Violation
    broken class given =
        if fits_parent (option_and_then (parent_of doc) (class_named doc class)) given then []
        else at_line rule.WrongParent s class ∷ []

    of_item : Item → List Violation
    of_item (item.OpenLine n class parent args) =
        broken class (option_and_then (class_of_instance doc s) parent)
    of_item other = []

-- ---- arguments

abbrev pub bound_named : List Bound → Bytes → Option Bound
bound_named bounds n = find (λ b. bytes_eq b.name n) bounds

-- an argument is that of a bound argument of the class, and checks against its type
abbrev pub fits_bound : Doc → List Bound → OpenArg → Bool
fits_bound doc bounds a =
    option_map_or (λ b. checks doc [] a.value b.shape.shape) (bound_named bounds a.name) false

-- the given arguments that are unknown, repeat an earlier one or don't check, in order
abbrev pub bad_given : Doc → List Bound → List Bytes → List OpenArg → List Bytes
bad_given doc bounds earlier [] = []
bad_given doc bounds earlier (a ∷ as_given) =
    (if fits_bound doc bounds a && not (is_among a.name earlier) then [] else a.name ∷ [])
    ++ bad_given doc bounds (a.name ∷ earlier) as_given

-- the bound arguments that aren't given, in declared order
abbrev pub missing : List Bound → List OpenArg → List Bytes
missing bounds args =
    filter (λ n. not (is_among n (map (λ a. a.name) args))) (map (λ b. b.name) bounds)

abbrev pub first_of : List Bytes → List Bytes
first_of [] = []
first_of (n ∷ ns) = n ∷ []

-- an argument is unknown, repeated, of another type, or missing: the first one, given ones before
-- missing ones
unfoldable pub bad_argument : Doc → Statement → List Violation
bad_argument doc s = of_item s.item
  where
    bounds_of : Bytes → List Bound
    bounds_of class = option_map_or (bound_of doc) (class_named doc class) []

    of_item : Item → List Violation
    of_item (item.OpenLine n class parent args) =
        map (at_line rule.BadArgument s)
        (first_of (bad_given doc (bounds_of class) [] args ++ missing (bounds_of class) args))
    of_item other = []

-- ---- asks

-- the entry of this name of a class
abbrev pub entry_named : Doc → ℕ → Bytes → Option Item
entry_named doc class n =
    find (λ i. option_map_or (λ m. bytes_eq m n) (member_name i) false)
    (filter_map (item_at doc) (entries_of doc class))

-- the entry that an `ask` line asks for
abbrev pub asked_entry : Doc → Statement → Bytes → Bytes → Option Item
asked_entry doc s inst entry =
    option_and_then (λ c. entry_named doc c entry) (class_of_instance doc s inst)

-- the instance's class has no such entry
unfoldable pub unknown_entry : Doc → Statement → List Violation
unknown_entry doc s = of_item s.item
  where
    of_item : Item → List Violation
    of_item (item.AskLine inst entry steps) =
        if is_none (asked_entry doc s inst entry) then at_line rule.UnknownEntry s entry ∷ []
        else []
    of_item other = []

-- what a step with a key of a map gives
abbrev pub value_at : Layer → MapKeyVal → Option Shape
value_at (Shape-F.Map k t) key = of_key (out-Shape k) key
  where
    of_key : Layer → MapKeyVal → Option Shape
    of_key Shape-F.Text (map_key.Text x) = Some t
    of_key Shape-F.Int (map_key.Int n) = Some t
    of_key other key = None
value_at other key = None

abbrev pub inside_of : Layer → Option Shape
inside_of (Shape-F.Optional t) = Some t
inside_of other = None

-- The type behind a step from a value of a type, where the step fits it: a field of a class, what a
-- Provider or Lazy gives, the value of a map, the inside of an optional.
unfoldable pub step_type : Doc → Shape → AskStep → Option Shape
step_type doc t (step.Field f) = type_of_field doc (out-Shape t) f
step_type doc t step.Get = got_at (out-Shape t)
step_type doc t step.Inside = inside_of (out-Shape t)
step_type doc t (step.At key) = value_at (out-Shape t) key

-- the number of the first step that doesn't fit the type before it, where the first has this number
abbrev pub first_misfit : Doc → ℕ → Shape → List AskStep → Option ℕ
first_misfit doc number t [] = None
first_misfit doc number t (x ∷ xs) =
    behind (λ u. first_misfit doc (suc number) u xs) (step_type doc t x)
  where
    behind : (Shape → Option ℕ) → Option Shape → Option ℕ
    behind later None = Some number
    behind later (Some u) = later u

-- a step doesn't fit the type before it
unfoldable pub bad_path : Doc → Statement → List Violation
bad_path doc s = of_item s.item
  where
    misfit : List AskStep → Item → Option ℕ
    misfit steps entry = option_and_then (λ u. first_misfit doc 1 u.shape steps) (result_of entry)

    of_item : Item → List Violation
    of_item (item.AskLine inst entry steps) =
        map (λ k. at_line rule.BadPath s (decimal k))
        (option_to_list (option_and_then (misfit steps) (asked_entry doc s inst entry)))
    of_item other = []

-- ---- the stage

abbrev pub first_broken : List (List Violation) → List Violation
first_broken [] = []
first_broken ([] ∷ others) = first_broken others
first_broken ((v ∷ vs) ∷ others) = v ∷ []

-- the first rule that a line breaks
unfoldable pub session_at : Doc → Statement → List Violation
session_at doc s =
    first_broken
    (unknown_instance doc s ∷ wrong_parent doc s ∷ bad_argument doc s ∷ unknown_entry doc s
    ∷ bad_path doc s ∷ [])

-- the stage, by line
unfoldable pub session_stage : Doc → List Violation
session_stage doc = flat_map (session_at doc) (statements doc)

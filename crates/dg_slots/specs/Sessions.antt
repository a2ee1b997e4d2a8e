-- What a document opens and asks, by number. A line that breaks a rule may be left out here; an
-- accepted document has none.
use Rattle.std.specs.Prelude.{ℕ, ◌==◌, Bool, false, List, [], ◌∷◌, Option, None, option_map, option_and_then}
use Rattle.std.specs.List.{filter, filter_map, find, position}
use Rattle.std.specs.Option.{option_map_or}
use Rattle.std.specs.Str.{bytes_eq}
use Rattle.dg_lex.specs.Bytes.{Bytes}
use Rattle.dg_types.specs.declared.shape.Shape.{Shape, out-Shape}
use Rattle.dg_decl.specs.declared.document.Doc.{Doc}
use Rattle.dg_decl.specs.declared.component.Bound.{Bound}
use Rattle.dg_decl.specs.declared.item.Item.{Item}
use Rattle.dg_decl.specs.declared.item.Item.TheVariants as item
use Rattle.dg_decl.specs.declared.item.OpenArg.{OpenArg}
use Rattle.dg_decl.specs.declared.item.AskStep.{AskStep}
use Rattle.dg_decl.specs.declared.item.AskStep.TheVariants as step
use Rattle.dg_decl.specs.Document.{Statement, statements}
use Rattle.dg_decl.specs.Limits.{is_open_line}
use Rattle.dg_decl.specs.Names.{item_at, result_of, member_name}
use Rattle.dg_decl.specs.Components.{class_named, bound_of, entries_of}
use Rattle.dg_decl.specs.Stages.Session.{opened_before, class_of_instance, asked_entry, step_type}
use Rattle.dg_slots.specs.declared.body.NExpr.{NExpr}
use Rattle.dg_slots.specs.declared.session.Inst.{Inst}
use Rattle.dg_slots.specs.declared.session.PathStep.{PathStep}
use Rattle.dg_slots.specs.declared.session.PathStep.TheVariants as path_step
use Rattle.dg_slots.specs.declared.session.Ask.{Ask}
use Rattle.dg_slots.specs.declared.session.Session.{Session}
use Rattle.dg_slots.specs.Numbered.{class_at, field_number, numbered_expr}

-- ---- instances

-- the `open` lines, in order: the number of an instance is the index of its line among them
abbrev pub open_lines : Doc → List Statement
open_lines doc = filter (λ s. is_open_line s.item) (statements doc)

abbrev pub number_of_line : Doc → Statement → Option ℕ
number_of_line doc o = position (λ s. s.index == o.index) (open_lines doc)

-- the number of the instance of this name that is opened before a statement
unfoldable pub instance_before : Doc → Statement → Bytes → Option ℕ
instance_before doc s n = option_and_then (number_of_line doc) (opened_before doc s n)

-- the argument that is given for a bound argument, by numbers; an argument has no parameters
abbrev pub argument_for : Doc → List OpenArg → Bound → Option NExpr
argument_for doc args b =
    option_map (λ a. numbered_expr doc [] a.value) (find (λ a. bytes_eq a.name b.name) args)

-- the arguments in the order of the class's bound arguments
abbrev pub arguments_for : Doc → List OpenArg → ℕ → List NExpr
arguments_for doc args class = filter_map (argument_for doc args) (bound_of doc class)

-- the instance that a statement opens
unfoldable pub inst_of : Doc → Statement → Option Inst
inst_of doc s = of_item s.item
  where
    of_class : Option Bytes → List OpenArg → ℕ → Inst
    of_class parent args class = record {
      class = class;
      parent = option_and_then (instance_before doc s) parent;
      bound = arguments_for doc args class;
    }

    of_item : Item → Option Inst
    of_item (item.OpenLine n class parent args) =
        option_map (of_class parent args) (class_named doc class)
    of_item other = None

-- the instances, in the order of their lines
unfoldable pub insts_of : Doc → List Inst
insts_of doc = filter_map (inst_of doc) (statements doc)

-- ---- asks

-- an entry has this name
abbrev pub is_entry_called : Doc → Bytes → ℕ → Bool
is_entry_called doc n entry =
    option_map_or (λ m. bytes_eq m n) (option_and_then member_name (item_at doc entry)) false

-- the place of the entry of this name among the entries of a class
abbrev pub entry_place : Doc → ℕ → Bytes → Option ℕ
entry_place doc class n = position (is_entry_called doc n) (entries_of doc class)

-- a step from a value of a type
abbrev pub numbered_step : Doc → Shape → AskStep → PathStep
numbered_step doc t (step.Field f) = path_step.Field (field_number doc (class_at (out-Shape t)) f)
numbered_step doc t step.Get = path_step.Get
numbered_step doc t step.Inside = path_step.Inside
numbered_step doc t (step.At key) = path_step.At key

-- the steps from a value of a type, up to the first that doesn't fit
abbrev pub path_from : Doc → Shape → List AskStep → List PathStep
path_from doc t [] = []
path_from doc t (x ∷ xs) =
    numbered_step doc t x ∷ option_map_or (λ u. path_from doc u xs) (step_type doc t x) []

-- the steps of an `ask` line from the value of the entry that it asks for
abbrev pub path_of : Doc → Statement → Bytes → Bytes → List AskStep → List PathStep
path_of doc s inst entry steps =
    option_map_or (λ u. path_from doc u.shape steps)
    (option_and_then result_of (asked_entry doc s inst entry)) []

-- what a statement asks
unfoldable pub ask_of : Doc → Statement → Option Ask
ask_of doc s = of_item s.item
  where
    of_place : Bytes → Bytes → List AskStep → ℕ → ℕ → Ask
    of_place inst entry steps number place =
        record { inst = number; entry = place; steps = path_of doc s inst entry steps }

    place_of : Bytes → Bytes → Option ℕ
    place_of inst entry =
        option_and_then (λ c. entry_place doc c entry) (class_of_instance doc s inst)

    of_item : Item → Option Ask
    of_item (item.AskLine inst entry steps) =
        option_and_then (λ k. option_map (of_place inst entry steps k) (place_of inst entry))
        (instance_before doc s inst)
    of_item other = None

-- the asks, in the order of their lines
unfoldable pub asks_of : Doc → List Ask
asks_of doc = filter_map (ask_of doc) (statements doc)

-- ---- the session

unfoldable pub session_of : Doc → Session
session_of doc = record { insts = insts_of doc; asks = asks_of doc }

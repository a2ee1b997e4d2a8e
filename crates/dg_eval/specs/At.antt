-- What stands at a place. It serves the table of Lazies; what is answered doesn't speak of it.
use Rattle.std.specs.Prelude.{ℕ, zero, suc, ◌-◌, List, [], ◌∷◌, take, Option, Some, None, option_map, option_and_then, slice_get}
use Rattle.std.specs.Option.{option_map_or}
use Rattle.dg_types.specs.declared.key.Mode.{Mode}
use Rattle.dg_types.specs.declared.key.Mode.TheVariants as mode
use Rattle.dg_decl.specs.declared.document.Doc.{Doc}
use Rattle.dg_decl.specs.declared.graph.Node.{Node}
use Rattle.dg_decl.specs.declared.graph.NodeKind.{NodeKind}
use Rattle.dg_decl.specs.declared.graph.NodeKind.TheVariants as node
use Rattle.dg_decl.specs.declared.binding.BindRef.TheVariants as binding
use Rattle.dg_decl.specs.Names.{item_at}
use Rattle.dg_decl.specs.Graph.{deps, nodes, number_of}
use Rattle.dg_slots.specs.declared.session.Ask.{Ask}
use Rattle.dg_slots.specs.Sessions.{asks_of}
use Rattle.dg_value.specs.declared.place.Place.{Place}
use Rattle.dg_value.specs.declared.place.PlaceRoot.{PlaceRoot}
use Rattle.dg_value.specs.declared.place.PlaceRoot.TheVariants as root
use Rattle.dg_value.specs.declared.place.PlaceStep.{PlaceStep}
use Rattle.dg_value.specs.declared.place.PlaceStep.TheVariants as step
use Rattle.dg_value.specs.declared.value.Kept.TheOpen.{Value-F}
use Rattle.dg_value.specs.declared.value.Value.{Value, out-Value}
use Rattle.dg_value.specs.Places.{at_root}
use Rattle.dg_value.specs.Same.{Layer}
use Rattle.dg_eval.specs.Bodies.{tree_part}
use Rattle.dg_eval.specs.Runs.{Run, and_then}
use Rattle.dg_eval.specs.Meaning.{Target, target_of, node_at, body_of, look, eval, enough}
use Rattle.dg_eval.specs.Asks.{Reached, value_there, not_there, requested, followed, entry_node}
use Rattle.dg_eval.specs.Report.{value_of_run}

-- a slot in an instance, in a mode
pub record Stands : Type 0 where
  pub mode : Mode
  pub inst : ℕ
  pub slot : ℕ

abbrev pub stands : Mode → Target → Stands
stands m t = record { mode = m; inst = t.inst; slot = t.slot }

-- the dependency of this number, counted from 1, of a node in an instance
abbrev pub dependency_at : Doc → ℕ → Node → ℕ → Option Stands
dependency_at doc i n zero = None
dependency_at doc i n (suc m) =
    option_and_then (λ d. option_map (stands d.mode) (target_of doc i n d)) (slice_get (deps doc n) m)

-- a call of a Provider of a Lazy gives a Lazy
abbrev pub called_mode : Mode → Mode
called_mode mode.ProviderLazy = mode.Lazy
called_mode other = mode.Instance

-- the parameters that the body of a node calls, in reading order
abbrev pub calls_of : Doc → Node → List ℕ
calls_of doc n = of_kind n.kind
  where
    of_kind : NodeKind → List ℕ
    of_kind (node.Bound (binding.Member m)) =
        option_map_or (λ body. (tree_part body).called) (option_and_then (body_of doc) (item_at doc m))
        []
    of_kind other = []

abbrev pub as_called : Stands → Stands
as_called s = record { mode = called_mode s.mode; inst = s.inst; slot = s.slot }

-- what the call of this number, counted from 1, of the body of a node leads to
abbrev pub call_at : Doc → ℕ → Node → ℕ → Option Stands
call_at doc i n zero = None
call_at doc i n (suc c) =
    option_and_then (λ p. option_map as_called (dependency_at doc i n (suc p)))
    (slice_get (calls_of doc n) c)

-- behind a Lazy stands its content, and behind an optional its inside
abbrev pub inside_of : Doc → Stands → Node → Option Stands
inside_of doc s n = of_mode s.mode
  where
    of_kind : NodeKind → Option Stands
    of_kind (node.Opt key) = dependency_at doc s.inst n 1
    of_kind other = None

    of_mode : Mode → Option Stands
    of_mode mode.Lazy = Some (record { mode = mode.Instance; inst = s.inst; slot = s.slot })
    of_mode other = of_kind n.kind

-- what stands a step behind, where this stands
abbrev pub step_behind : Doc → Stands → PlaceStep → Option Stands
step_behind doc s x = option_and_then (of_node x) (node_at doc s.slot)
  where
    of_node : PlaceStep → Node → Option Stands
    of_node (step.Arg m) n = dependency_at doc s.inst n m
    of_node (step.Elem m) n = dependency_at doc s.inst n m
    of_node (step.Call c) n = call_at doc s.inst n c
    of_node step.Inside n = inside_of doc s n
    of_node other n = None

abbrev pub steps_behind : Doc → Option Stands → List PlaceStep → Option Stands
steps_behind doc s [] = s
steps_behind doc s (x ∷ xs) = steps_behind doc (option_and_then (λ t. step_behind doc t x) s) xs

-- ---- the paths of asks

-- what the steps of an ask before this one come to
abbrev pub reached_before : Doc → ℕ → Ask → ℕ → Run Reached
reached_before doc number a k =
    and_then (requested doc a (at_root (root.Ask number)))
    (followed doc (at_root (root.Ask number)) 1 (take (k - 1) a.steps))

-- the content behind a value that is there
abbrev pub content_there : Doc → Reached → Run Value
content_there doc (value_there v) = look (eval doc enough) enough v
content_there doc not_there = None

-- the content behind the value to which the steps of an ask before this one come
abbrev pub value_before : Doc → ℕ → Ask → ℕ → Option Value
value_before doc number a k =
    value_of_run (and_then (reached_before doc number a k) (content_there doc))

-- what a deferred value leads to
abbrev pub deferred_to : Layer → Option Stands
deferred_to (Value-F.Provider i k) =
    Some (record { mode = mode.Instance; inst = i; slot = k })
deferred_to (Value-F.ProviderLazy i k) = Some (record { mode = mode.Lazy; inst = i; slot = k })
deferred_to (Value-F.Lazy i k p) = Some (record { mode = mode.Instance; inst = i; slot = k })
deferred_to other = None

-- what stands at a step of an ask's path
abbrev pub at_path_step : Doc → ℕ → Ask → ℕ → Option Stands
at_path_step doc number a k =
    option_and_then (λ v. deferred_to (out-Value v)) (value_before doc number a k)

-- the ask of this number, counted from 1
abbrev pub ask_numbered : Doc → ℕ → Option Ask
ask_numbered doc zero = None
ask_numbered doc (suc r) = slice_get (asks_of doc) r

-- the entry of an ask
abbrev pub at_entry : Doc → Ask → Option Stands
at_entry doc a =
    option_map (λ k. record { mode = mode.Instance; inst = a.inst; slot = k })
    (option_and_then (number_of (nodes doc)) (entry_node doc a))

-- what stands at a place of an ask
abbrev pub at_ask : Doc → ℕ → List PlaceStep → Ask → Option Stands
at_ask doc number (step.Step k ∷ xs) a = steps_behind doc (at_path_step doc number a k) xs
at_ask doc number xs a = steps_behind doc (at_entry doc a) xs

-- What stands at a place: in the content of a cell the slot of the cell, and then what each step
-- leads to.
abbrev pub stands_from : Doc → PlaceRoot → List PlaceStep → Option Stands
stands_from doc (root.Ask r) xs = option_and_then (at_ask doc r xs) (ask_numbered doc r)
stands_from doc (root.Cell i k) xs =
    steps_behind doc (Some (record { mode = mode.Instance; inst = i; slot = k })) xs
stands_from doc (root.Arg i a) xs = None

unfoldable pub stands_at : Doc → Place → Option Stands
stands_at doc p = stands_from doc p.root p.steps

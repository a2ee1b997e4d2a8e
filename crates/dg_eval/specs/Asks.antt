-- What asks come to, and which cells they use.
use Rattle.std.specs.Prelude.{ℕ, zero, suc, Bool, not, ◌&&◌, ◌==◌, List, [], ◌∷◌, map, Option, Some, None, option_map, option_and_then, slice_get, Result, Ok, Err}
use Rattle.std.specs.List.{filter, filter_map, flat_map, enumerate_from}
use Rattle.std.specs.Option.{option_map_or}
use Rattle.dg_decl.specs.declared.document.Doc.{Doc}
use Rattle.dg_decl.specs.declared.graph.Node.{Node}
use Rattle.dg_decl.specs.declared.graph.NodeKind.TheVariants as node
use Rattle.dg_decl.specs.Components.{entries_of}
use Rattle.dg_decl.specs.Graph.{node_of}
use Rattle.dg_slots.specs.declared.session.Ask.{Ask}
use Rattle.dg_slots.specs.declared.session.PathStep.{PathStep}
use Rattle.dg_slots.specs.declared.session.PathStep.TheVariants as path
use Rattle.dg_slots.specs.Sessions.{asks_of}
use Rattle.dg_types.specs.declared.key.MapKeyVal.{MapKeyVal}
use Rattle.dg_value.specs.declared.place.Place.{Place}
use Rattle.dg_value.specs.declared.place.PlaceRoot.TheVariants as root
use Rattle.dg_value.specs.declared.place.PlaceStep.TheVariants as step
use Rattle.dg_value.specs.declared.value.Failure.{Failure}
use Rattle.dg_value.specs.declared.value.Kept.TheOpen.{Value-F}
use Rattle.dg_value.specs.declared.value.Reply.{Reply}
use Rattle.dg_value.specs.declared.value.Reply.TheVariants as reply
use Rattle.dg_value.specs.declared.value.Value.{Value, out-Value}
use Rattle.dg_value.specs.Places.{at_root, then_step}
use Rattle.dg_value.specs.Same.{Layer}
use Rattle.dg_eval.specs.Runs as runs
use Rattle.dg_eval.specs.Runs.{Asked, cell, lazy, Run, gives, and_then, mistyped}
use Rattle.dg_eval.specs.World.{class_of_inst}
use Rattle.dg_eval.specs.Operations.{field_in, entry_of, inside_in}
use Rattle.dg_eval.specs.Meaning.{got_at, look, given, eval, enough, content_of, lazy_content_of}

-- ---- asks

-- what the path of an ask has come to: a value, or something that isn't there
pub data Reached : Type 0 where
  value_there : Value → Reached
  not_there : Reached

abbrev pub present : Option Value → Run Reached
present None = gives not_there
present (Some v) = gives (value_there v)

abbrev pub entry_at : MapKeyVal → Layer → Run Reached
entry_at k (Value-F.Map es) = present (entry_of k es)
entry_at k other = mistyped

-- what is inside an optional, or nothing
abbrev pub inside_reached : Option (Option Value) → Run Reached
inside_reached None = mistyped
inside_reached (Some o) = present o

-- a step from a value that isn't held, at the place of this step
abbrev pub stepped : Doc → Place → PathStep → Value → Run Reached
stepped doc q (path.Field k) v = and_then (field_in k v) (λ w. gives (value_there w))
stepped doc q path.Get v =
    and_then (got_at doc (eval doc enough) (out-Value v) q) (λ w. gives (value_there w))
stepped doc q (path.At key) v = entry_at key (out-Value v)
stepped doc q path.Inside v = inside_reached (inside_in v)

-- what goes on from a value that is there
abbrev pub goes_on : (Value → Run Reached) → Reached → Run Reached
goes_on next (value_there u) = next u
goes_on next not_there = gives not_there

-- the steps from a value on, of which the first has this number, of an ask at this place
abbrev pub followed : Doc → Place → ℕ → List PathStep → Value → Run Reached
followed doc q k [] v = gives (value_there v)
followed doc q k (x ∷ xs) v =
    and_then (look (eval doc enough) enough v) (λ w.
    and_then (stepped doc (then_step q (step.Step k)) x w) (goes_on (followed doc q (suc k) xs)))

-- the entry that an ask asks for, as a node
abbrev pub entry_node : Doc → Ask → Option Node
entry_node doc a =
    option_and_then (λ class. option_map (λ e. node_of class (node.EntryOf e))
    (slice_get (entries_of doc class) a.entry)) (class_of_inst doc a.inst)

abbrev pub first_run : List (Run Value) → Run Value
first_run [] = mistyped
first_run (r ∷ rs) = r

-- what the request of an entry is given, at the place of an ask
abbrev pub requested : Doc → Ask → Place → Run Value
requested doc a q =
    option_map_or (λ n. first_run (given doc (eval doc enough) a.inst n q)) (entry_node doc a)
    mistyped

-- an ask of this number, counted from 1
unfoldable pub run_of_ask : Doc → ℕ → Ask → Run Reached
run_of_ask doc number a =
    and_then (requested doc a (at_root (root.Ask number)))
    (followed doc (at_root (root.Ask number)) 1 a.steps)

abbrev pub reply_of : Run Reached → Option Reply
reply_of None = None
reply_of (Some (r, asked)) = Some (of_result r)
  where
    of_reached : Reached → Reply
    of_reached (value_there v) = reply.Value v
    of_reached not_there = reply.Absent

    of_result : Result Reached Failure → Reply
    of_result (Ok x) = of_reached x
    of_result (Err f) = reply.Failed f

-- what an ask of this number comes to
unfoldable pub answer_to : Doc → ℕ → Ask → Option Reply
answer_to doc number a = reply_of (run_of_ask doc number a)

-- the asks of a document with their numbers
abbrev pub numbered_asks : Doc → List (ℕ × Ask)
numbered_asks doc = map (λ p. (suc p.0, p.1)) (enumerate_from 0 (asks_of doc))

-- ---- uses

-- what the content of a cell or of a Lazy asks for first-hand
unfoldable pub asked_by : Doc → Asked → List Asked
asked_by doc (cell i k) = runs.asks_of (content_of doc i k)
asked_by doc (lazy i k p) = runs.asks_of (lazy_content_of doc i k p)

-- a cell or Lazy, what it asks for, and so on, through so many
unfoldable pub used : Doc → ℕ → Asked → List Asked
used doc zero x = []
used doc (suc depth) x = x ∷ flat_map (used doc depth) (asked_by doc x)

-- a depth that is enough in an accepted document: a walk has at most 128 nodes, and each is preceded
-- by at most one Lazy
abbrev pub enough_used : ℕ
enough_used = 256

-- what an ask asks for, first-hand and through others
abbrev pub used_by_ask : Doc → ℕ × Ask → List Asked
used_by_ask doc p = flat_map (used doc enough_used) (runs.asks_of (run_of_ask doc p.0 p.1))

-- a cell: an instance and a slot
pub record CellName : Type 0 where
  pub inst : ℕ
  pub slot : ℕ

abbrev pub as_cell : Asked → Option CellName
as_cell (cell i k) = Some (record { inst = i; slot = k })
as_cell (lazy i k p) = None

abbrev pub same_cell : CellName → CellName → Bool
same_cell a b = (a.inst == b.inst) && (a.slot == b.slot)

-- each of some cells once, in the order of their first appearance
abbrev pub each_once : List CellName → List CellName
each_once [] = []
each_once (c ∷ cs) = c ∷ filter (λ d. not (same_cell c d)) (each_once cs)

-- the cells that these asks use
unfoldable pub cells_of : Doc → List (ℕ × Ask) → List CellName
cells_of doc asks = each_once (filter_map as_cell (flat_map (used_by_ask doc) asks))

-- the cells of a document: scoped bindings and producers that its asks use
unfoldable pub cells : Doc → List CellName
cells doc = cells_of doc (numbered_asks doc)

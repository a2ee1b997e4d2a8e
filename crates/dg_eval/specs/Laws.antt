-- The laws of evaluation, in accepted documents.
use Rattle.std.specs.Prelude.{◌≡◌, ◌≢◌, ◌≤◌, ℕ, false, Some, None, IsSome, Contains, List}
use Rattle.dg_types.specs.declared.key.Mode.{Mode}
use Rattle.dg_types.specs.declared.key.Mode.TheVariants as mode
use Rattle.dg_decl.specs.declared.document.Doc.{Doc}
use Rattle.dg_decl.specs.declared.graph.EdgeKind.TheVariants as edge
use Rattle.dg_decl.specs.declared.graph.Node.{Node}
use Rattle.dg_decl.specs.Diagnostics.{IsAccepted}
use Rattle.dg_decl.specs.Graph.{edge_kind}
use Rattle.dg_decl.specs.Sizes.{is_entry}
use Rattle.dg_slots.specs.declared.session.Ask.{Ask}
use Rattle.dg_value.specs.declared.place.Place.{Place}
use Rattle.dg_value.specs.declared.value.Reply.TheVariants as reply
use Rattle.dg_value.specs.declared.value.Value.{Value}
use Rattle.dg_eval.specs.Runs.{Asked, lazy, Run, asks_of}
use Rattle.dg_eval.specs.World.{class_of_inst}
use Rattle.dg_eval.specs.Named.{made_lazy, names_in}
use Rattle.dg_eval.specs.Meaning.{node_at, content, lazy_content, give, eval, enough, content_of, lazy_content_of}
use Rattle.dg_eval.specs.Asks.{run_of_ask, answer_to, numbered_asks}
use Rattle.dg_eval.specs.Report.{value_of_run}
use Rattle.dg_eval.specs.At.{stands_at}

-- there is a result at a depth of 128, and more depth changes nothing
pub record IsSettled {A : Type 0} (at : ℕ → Run A) : Type 0 where
  pub is_there : IsSome (at enough)
  pub same : (d : ℕ) → enough ≤ d → at d ≡ at enough

-- a slot that is no entry, in an instance of its class
pub record IsSlotOf (doc : Doc) (i k : ℕ) : Type 0 where
  pub node : Node
  pub is_node : node_at doc k ≡ Some node
  pub no_entry : is_entry node ≡ false
  pub class : class_of_inst doc i ≡ Some node.class

-- the evaluation of a slot in an instance has a result at a depth of 128, whatever the place and
-- the mode
pub record IsEvaluated (doc : Doc) (i k : ℕ) : Type 0 where
  pub evaluated : (q : Place) → IsSettled (λ d. eval doc d i k q)
  pub given : (m : Mode) (q : Place) → IsSettled (λ d. give doc (eval doc d) m i k q)
  pub contents : IsSettled (λ d. content (eval doc d) i k)
  pub lazies : (p : Place) → IsSettled (λ d. lazy_content doc (eval doc d) i k p)

-- evaluation is total: in an accepted document each slot has a result in each instance of its class
abbrev pub EvaluationIsTotal : Type 0
EvaluationIsTotal = (doc : Doc) → IsAccepted doc → (i k : ℕ) → IsSlotOf doc i k → IsEvaluated doc i k

-- more depth changes nothing, in any document: a result stays
abbrev pub MoreDepthChangesNothing : Type 0
MoreDepthChangesNothing =
    (doc : Doc) (d e i k : ℕ) (q : Place) → d ≤ e → eval doc d i k q ≢ None
    → eval doc e i k q ≡ eval doc d i k q

-- ---- where Lazies stand

-- at a place stands this slot in this instance, as a Lazy
abbrev pub IsPlaceOf : Doc → ℕ → ℕ → Place → Type 0
IsPlaceOf doc i k p = stands_at doc p ≡ Some (record { mode = mode.Lazy; inst = i; slot = k })

-- each Lazy in a value stands at its place
abbrev pub LaziesStand : Doc → Value → Type 0
LaziesStand doc v =
    (i k : ℕ) (p : Place) → Contains (names_in v) (made_lazy i k p) → IsPlaceOf doc i k p

-- each Lazy that is asked for stands at its place
abbrev pub AskedStand : Doc → List Asked → Type 0
AskedStand doc asked =
    (i k : ℕ) (p : Place) → Contains asked (lazy i k p) → IsPlaceOf doc i k p

-- the Lazies in the value that a run gives stand at their places, and so do those that it asks for
pub record RunStands (doc : Doc) (r : Run Value) : Type 0 where
  pub given : (v : Value) → value_of_run r ≡ Some v → LaziesStand doc v
  pub asked : AskedStand doc (asks_of r)

-- the same of what an ask of this number comes to
pub record AskStands (doc : Doc) (number : ℕ) (a : Ask) : Type 0 where
  pub given : (v : Value) → answer_to doc number a ≡ Some (reply.Value v) → LaziesStand doc v
  pub asked : AskedStand doc (asks_of (run_of_ask doc number a))

-- Each Lazy that evaluation gives or asks for stands at its place: where a slot stands as a request
-- asks for it, in the content of a cell, in the content of a Lazy that stands at its place, and in
-- the reply to an ask. So two Lazies of one place are of one slot and instance.
pub record HasLazyPlaces (doc : Doc) : Type 0 where
  pub evaluated : (i k : ℕ) (m : Mode) (q : Place) → IsSlotOf doc i k
      → stands_at doc q ≡ Some (record { mode = m; inst = i; slot = k })
      → edge_kind m ≡ edge.Direct → RunStands doc (eval doc enough i k q)
  pub given : (i k : ℕ) (m : Mode) (q : Place) → IsSlotOf doc i k
      → stands_at doc q ≡ Some (record { mode = m; inst = i; slot = k })
      → RunStands doc (give doc (eval doc enough) m i k q)
  pub contents : (i k : ℕ) → IsSlotOf doc i k → RunStands doc (content_of doc i k)
  pub lazies : (i k : ℕ) (p : Place) → IsSlotOf doc i k → IsPlaceOf doc i k p
      → RunStands doc (lazy_content_of doc i k p)
  pub asks : (number : ℕ) (a : Ask) → Contains (numbered_asks doc) (number, a)
      → AskStands doc number a
  pub once : (v w : Value) → LaziesStand doc v → LaziesStand doc w → (i k j l : ℕ) (p : Place)
      → Contains (names_in v) (made_lazy i k p) → Contains (names_in w) (made_lazy j l p)
      → (i ≡ j) × (k ≡ l)

-- a Lazy that an accepted document gives stands at its place
abbrev pub LazyPlaces : Type 0
LazyPlaces = (doc : Doc) → IsAccepted doc → HasLazyPlaces doc

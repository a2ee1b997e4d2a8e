-- What the asks of an accepted document come to, how far their uses reach, and what they share.
use Rattle.std.specs.Prelude.{◌≡◌, ◌↔◌, ◌≤◌, ℕ, suc, true, false, List, [], ◌∷◌, Option, Some, None, IsSome, IsTrue, Contains, Result, Ok, Err}
use Rattle.std.specs.List.{flat_map}
use Rattle.std.specs.Option.{option_map_or}
use Rattle.dg_types.specs.declared.key.Mode.TheVariants as mode
use Rattle.dg_decl.specs.declared.document.Doc.{Doc}
use Rattle.dg_decl.specs.declared.binding.BindRef.TheVariants as binding
use Rattle.dg_decl.specs.declared.graph.NodeKind.TheVariants as node
use Rattle.dg_decl.specs.Diagnostics.{IsAccepted}
use Rattle.dg_decl.specs.Graph.{node_of}
use Rattle.dg_decl.specs.Sizes.{is_producer, is_production}
use Rattle.dg_slots.specs.declared.session.Ask.{Ask}
use Rattle.dg_value.specs.declared.place.Place.{Place}
use Rattle.dg_value.specs.declared.place.PlaceStep.TheVariants as step
use Rattle.dg_value.specs.declared.value.Failure.{Failure}
use Rattle.dg_value.specs.declared.value.Kept.TheOpen.{Value-F}
use Rattle.dg_value.specs.declared.value.Value.{Value, out-Value}
use Rattle.dg_value.specs.declared.value.Value.TheVariants as value
use Rattle.dg_value.specs.Places.{then_step}
use Rattle.dg_value.specs.Same.{Layer, same_element}
use Rattle.dg_eval.specs.Runs.{Asked, cell, Run, gives, and_then, as_outcome, asks_of}
use Rattle.dg_eval.specs.Meaning.{node_at, is_cell, cell_place, lazy_content, give, got_at, look, producer_from, awaited_slot, of_end, eval, enough, content_of}
use Rattle.dg_eval.specs.Asks.{run_of_ask, answer_to, numbered_asks, used, used_by_ask}
use Rattle.dg_eval.specs.Report.{value_of_run}

-- what the asks of a document use
unfoldable pub used_by_asks : Doc → List Asked
used_by_asks doc = flat_map (used_by_ask doc) (numbered_asks doc)

-- each ask is answered: by a value, by a failure, or that something isn't there
abbrev pub AsksAreAnswered : Type 0
AsksAreAnswered =
    (doc : Doc) → IsAccepted doc → (number : ℕ) (a : Ask) → Contains (numbered_asks doc) (number, a)
    → IsSome (answer_to doc number a)

-- Uses end: a cell or Lazy that an ask uses through ever so many others is one of those that it
-- uses through 256.
abbrev pub UsesEnd : Type 0
UsesEnd =
    (doc : Doc) → IsAccepted doc → (p : ℕ × Ask) → Contains (numbered_asks doc) p → (x y : Asked)
    → Contains (asks_of (run_of_ask doc p.0 p.1)) x → (depth : ℕ) → Contains (used doc depth x) y
    → Contains (used_by_ask doc p) y

-- ---- one value for each instance

-- the ways to an instance of a slot: a request at a place, a `get` of a Provider at a place, and
-- the content of the Lazy that was made at a place
pub data Way : Type 0 where
  by_request : Place → Way
  by_provider : Place → Way
  by_lazy : Place → Way

-- what a slot gives in a way, at a depth
abbrev pub given_by : Doc → ℕ → ℕ → ℕ → Way → Run Value
given_by doc d i k (by_request q) = give doc (eval doc d) mode.Instance i k q
given_by doc d i k (by_provider q) = got_at doc (eval doc d) (Value-F.Provider i k) q
given_by doc d i k (by_lazy p) = lazy_content doc (eval doc d) i k p

-- at each depth at which there is a result it is this one, and a depth of 128 is enough
pub record ComesTo {A : Type 0} (at : ℕ → Run A) (r : Result A Failure) (asked : List Asked)
    : Type 0 where
  pub same : (d : ℕ) → IsSome (at d) → at d ≡ Some (r, asked)
  pub is_there : (d : ℕ) → enough ≤ d → IsSome (at d)

-- a result, of which a value is given as the cell that holds it
abbrev pub as_held : ℕ → ℕ → Result Value Failure → Result Value Failure
as_held i k (Ok v) = Ok (value.Held i k)
as_held i k (Err f) = Err f

-- The content of a cell has one result. In every way the cell is given, or the failure of its
-- content, and what is behind the cell is that content.
pub record HasOneValue (doc : Doc) (i k : ℕ) : Type 0 where
  pub result : Result Value Failure
  pub asked : List Asked
  pub content : content_of doc i k ≡ Some (result, asked)
  pub given : (w : Way)
      → ComesTo (λ d. given_by doc d i k w) (as_held i k result) (cell i k ∷ [])
  pub behind : (d times : ℕ) → IsSome (look (eval doc d) (suc times) (value.Held i k))
      → look (eval doc d) (suc times) (value.Held i k)
      ≡ and_then (Some (result, cell i k ∷ [])) (look (eval doc d) times)

-- In an instance a scoped binding or a producer has one value: the same in whatever way and
-- wherever it is asked for.
abbrev pub OneValueForEachInstance : Type 0
OneValueForEachInstance =
    (doc : Doc) → IsAccepted doc → (i k : ℕ) → is_cell doc k ≡ true → HasOneValue doc i k

-- ---- one content for each producer

-- a slot is a `produces` line
abbrev pub IsProducerSlot : Doc → ℕ → Type 0
IsProducerSlot doc k = option_map_or (is_producer doc) (node_at doc k) false ≡ true

-- an `await` of a way to the slot l in the instance j comes to the cell of the slot k in i, behind
-- fewer links of a chain than this
pub record AwaitLeads (doc : Doc) (times j l i k : ℕ) : Type 0 where
  pub production : option_map_or (is_production doc) (node_at doc l) false ≡ true
  pub chain_end : producer_from doc times j l ≡ gives (record { inst = i; slot = k })

-- The content of a producer's cell has one result. A request for the outcome is given this result,
-- its value as the cell that holds it. Each `await` that comes to the cell, as one of a way to the
-- producer itself does, comes to the result itself.
pub record HasOneContent (doc : Doc) (i k : ℕ) : Type 0 where
  pub result : Result Value Failure
  pub asked : List Asked
  pub content : content_of doc i k ≡ Some (result, asked)
  pub produced : (q : Place) → ComesTo (λ d. give doc (eval doc d) mode.Produced i k q)
      (Ok (as_outcome (as_held i k result))) (cell i k ∷ [])
  pub leads : (times : ℕ) → AwaitLeads doc (suc times) i k i k
  pub awaited : (times j l : ℕ) (q : Place) → AwaitLeads doc times j l i k → ComesTo
      (λ d. and_then (awaited_slot doc (eval doc d) times j l q) (of_end (eval doc d)))
      result (cell i k ∷ [])

-- in an instance a producer has one content, and all who ask for it see what became of it
abbrev pub OneContentForEachProducer : Type 0
OneContentForEachProducer =
    (doc : Doc) → IsAccepted doc → (i k : ℕ) → IsProducerSlot doc k → HasOneContent doc i k

-- ---- identities

abbrev pub identity_at : Layer → Option Place
identity_at (Value-F.Object class ident fields) = Some ident
identity_at other = None

-- the identity of a value that is an object
abbrev pub identity_of : Value → Option Place
identity_of v = identity_at (out-Value v)

-- a slot is an `@Inject` class
pub record IsInjected (doc : Doc) (k : ℕ) : Type 0 where
  pub owner : ℕ
  pub class_item : ℕ
  pub is_node : node_at doc k ≡ Some (node_of owner (node.Bound (binding.ClassItem class_item)))

-- the object of a scoped `@Inject` class in an instance
pub record IsScopedObject (doc : Doc) (i k : ℕ) (v : Value) : Type 0 where
  pub injected : IsInjected doc k
  pub scoped : is_cell doc k ≡ true
  pub content : value_of_run (content_of doc i k) ≡ Some v

-- the place at which an instance is made that is given in a way
abbrev pub made_at : Way → Place
made_at (by_request q) = q
made_at (by_provider q) = q
made_at (by_lazy p) = then_step p step.Inside

-- an object of an `@Inject` class without a scope that is made at a place
pub record IsUnscopedObject (doc : Doc) (q : Place) (v : Value) : Type 0 where
  pub inst : ℕ
  pub slot : ℕ
  pub depth : ℕ
  pub way : Way
  pub injected : IsInjected doc slot
  pub unscoped : is_cell doc slot ≡ false
  pub given : value_of_run (given_by doc depth inst slot way) ≡ Some v
  pub at : made_at way ≡ q

-- The object of a scoped class has the identity of its cell, and one without a scope that of the
-- place at which it is made. So two of scoped classes are the same element of a set only where they
-- are of one class in one instance, and two without a scope only where they are made at one place.
pub record HasIdentities (doc : Doc) : Type 0 where
  pub scoped : (i k : ℕ) (v : Value) → IsScopedObject doc i k v
      → identity_of v ≡ Some (then_step (cell_place i k) (step.New 1))
  pub unscoped : (q : Place) (v : Value) → IsUnscopedObject doc q v
      → identity_of v ≡ Some (then_step q (step.New 1))
  pub instances : (i k j l : ℕ) (v w : Value) → IsScopedObject doc i k v
      → IsScopedObject doc j l w → IsTrue (same_element v w) ↔ ((i ≡ j) × (k ≡ l))
  pub places : (p q : Place) (v w : Value) → IsUnscopedObject doc p v → IsUnscopedObject doc q w
      → IsTrue (same_element v w) ↔ (p ≡ q)

-- objects of scoped classes differ by instance, others by place, in any document
abbrev pub IdentitiesDiffer : Type 0
IdentitiesDiffer = (doc : Doc) → HasIdentities doc

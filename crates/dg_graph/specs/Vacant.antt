-- The places at which found nodes stand: tests of statements, by classes.
use Rattle.std.specs.Prelude.{◌≡◌, ℕ, Bool, true, not, ◌||◌, if◌then◌else◌, List, [], Option, is_some, Some, Contains, Vec, slice_get, slice_index_or}
use Rattle.std.specs.Global.{Global}
use Rattle.std.specs.Option.{option_map_or}
use Rattle.dg_decl.specs.declared.document.Doc.{Doc}
use Rattle.dg_decl.specs.declared.graph.Node.{Node}
use Rattle.dg_decl.specs.Document.{Statement}
use Rattle.dg_decl.specs.declared.binding.Bind.{Bind}
use Rattle.dg_decl.specs.declared.binding.BindRef.{BindRef}
use Rattle.dg_decl.specs.declared.component.Exposed.{Exposed}
use Rattle.dg_decl.specs.declared.graph.NodeKind.{NodeKind}
use Rattle.dg_graph.specs.Kept.{place_of, is_empty, kinds_on}

-- for each class a row with a test for each statement
abbrev pub Rows : Type 0
Rows = List (Vec Bool Global)

-- A found node may stand on a statement in a class. Where there is no test, it may.
abbrev pub is_taken : Rows → ℕ → ℕ → Bool
is_taken rows c i = option_map_or (λ r. slice_index_or r.items i true) (slice_get rows c) true

-- the test of a statement holds now, and each that held before
pub record NotesIn (index : ℕ) (old new : List Bool) : Type 0 where
  pub here : slice_index_or new index true ≡ true
  pub kept : (i : ℕ) → slice_index_or old i true ≡ true → slice_index_or new i true ≡ true

-- a place in a class is taken now, and each that was taken before
pub record Notes (c : ℕ) (place : Option ℕ) (old new : Rows) : Type 0 where
  pub here : (i : ℕ) → place ≡ Some i → is_taken new c i ≡ true
  pub kept : (d i : ℕ) → is_taken old d i ≡ true → is_taken new d i ≡ true

-- the kinds that found nodes on a statement can have, unless there can be none
abbrev pub kinds_where : Doc → Rows → ℕ → Option BindRef → List Exposed → Option Bind
    → Statement → List NodeKind
kinds_where doc taken c arg xs b s =
    if is_some arg || (not (is_empty xs) || is_taken taken c s.index)
    then kinds_on doc c arg xs b s else []

-- the places of these nodes are taken
pub record AreTaken (doc : Doc) (found : List Node) (taken : Rows) : Type 0 where
  pub each : (n : Node) (i : ℕ) → Contains found n → place_of doc n.class n.kind ≡ Some i
      → is_taken taken n.class i ≡ true

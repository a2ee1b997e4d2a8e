-- What stands behind the replies of an accepted document.
use Rattle.std.specs.Prelude.{◌≡◌, ℕ, suc, Some, IsSome, Contains}
use Rattle.dg_decl.specs.declared.document.Doc.{Doc}
use Rattle.dg_decl.specs.Diagnostics.{IsAccepted}
use Rattle.dg_slots.specs.declared.session.Ask.{Ask}
use Rattle.dg_value.specs.declared.value.Reply.TheVariants as reply
use Rattle.dg_value.specs.declared.value.Value.{Value}
use Rattle.dg_eval.specs.Runs.{cell}
use Rattle.dg_eval.specs.Named.{held_cell, names_in}
use Rattle.dg_eval.specs.Meaning.{content_of, enough}
use Rattle.dg_eval.specs.Asks.{answer_to, numbered_asks, used_by_ask}
use Rattle.dg_eval.specs.Report.{value_of_run, whole}

-- the ask uses each cell that a value names as held
abbrev pub UsesHeld : Doc → ℕ × Ask → Value → Type 0
UsesHeld doc p v =
    (i k : ℕ) → Contains (names_in v) (held_cell i k) → Contains (used_by_ask doc p) (cell i k)

-- an ask uses each cell that its reply holds, and each that the content of a cell holds that it uses
pub record HoldsUsed (doc : Doc) (p : ℕ × Ask) : Type 0 where
  pub reply : (v : Value) → answer_to doc p.0 p.1 ≡ Some (reply.Value v) → UsesHeld doc p v
  pub behind : (i k : ℕ) (v : Value) → Contains (used_by_ask doc p) (cell i k)
      → value_of_run (content_of doc i k) ≡ Some v → UsesHeld doc p v

abbrev pub HeldAreUsed : Type 0
HeldAreUsed =
    (doc : Doc) → IsAccepted doc → (p : ℕ × Ask) → Contains (numbered_asks doc) p → HoldsUsed doc p

-- the value of a reply is there with all cells behind it, none of which failed
abbrev pub RepliesAreWhole : Type 0
RepliesAreWhole =
    (doc : Doc) → IsAccepted doc → (number : ℕ) (a : Ask) → Contains (numbered_asks doc) (number, a)
    → (v : Value) → answer_to doc number a ≡ Some (reply.Value v) → IsSome (whole doc (suc enough) v)

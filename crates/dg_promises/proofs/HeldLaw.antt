-- An ask uses each cell that its reply holds, where its uses end.
use Rattle.std.proofs.Common.{ℕ, zero, suc, List, [], ◌∷◌, Contains, inl, inr, sym, subst}
use Rattle.dg_decl.specs.declared.document.Doc.{Doc}
use Rattle.dg_decl.specs.Diagnostics.{IsAccepted}
use Rattle.dg_decl.proofs.MemberLemmas.{none_in, in_front, first_or_rest, in_flat_map, out_flat_map}
use Rattle.dg_decl.proofs.NodeWalks.{in_rest}
use Rattle.dg_slots.specs.declared.session.Ask.{Ask}
use Rattle.dg_value.specs.declared.value.Value.{Value}
use Rattle.dg_eval.specs.Named.{Named, held_cell, names_in}
use Rattle.dg_eval.specs.Runs.{Asked, cell, asks_of}
use Rattle.dg_eval.specs.Asks.{run_of_ask, numbered_asks, asked_by, used, used_by_ask}
use Rattle.dg_eval.proofs.RunResults.{Allowed, Each}
use Rattle.dg_eval.proofs.ValueLemmas.{AllIn}
use Rattle.dg_eval.proofs.BodyResults.{each_in}
use Rattle.dg_promises.specs.Uses.{UsesEnd}
use Rattle.dg_promises.specs.Replies.{UsesHeld, HeldAreUsed}
use Rattle.dg_promises.proofs.EvalTraces.{IsClosed, content_named}
use Rattle.dg_promises.proofs.AskTraces.{reply_named}

-- what is so of each that is in a list
each_of : {A : Type 0} (P : A → Type 0) (xs : List A) → ((x : A) → Contains xs x → P x) → Each P xs
each_of P [] h = tt
each_of P (x ∷ xs) h = (h x (in_front x xs), each_of P xs (λ y c. h y (in_rest y x xs c)))

-- ---- uses

-- what asks for others uses itself
uses_itself : (doc : Doc) (depth : ℕ) (x : Asked) → Contains (used doc (suc depth) x) x
unfolding used
uses_itself doc depth x = in_front x _

-- what is asked for by something that is used is used at one depth more
uses_more : (doc : Doc) (depth : ℕ) (w x y : Asked) → Contains (used doc depth w) x
    → Contains (asked_by doc x) y → Contains (used doc (suc depth) w) y
unfolding used
uses_more doc zero w x y c a = absurd (none_in x c)
uses_more doc (suc depth) w x y c a =
    elim (first_or_rest x w _ c) [
      | inl same ↦ (let P : Asked → Type 0 = λ z. Contains (used doc (suc (suc depth)) z) y in
          subst P (sym same)
          (in_rest y x _ (in_flat_map (used doc (suc depth)) (asked_by doc x) y y a
          (uses_itself doc depth y))))
      | inr rest ↦ (let o = out_flat_map (used doc depth) (asked_by doc w) x rest in
          in_rest y w _ (in_flat_map (used doc (suc depth)) (asked_by doc w) o.0 y o.1
          (uses_more doc depth o.0 x y o.2 a)))
    ]

-- what an ask asks for it uses
asked_used : (doc : Doc) (p : ℕ × Ask) (x : Asked)
    → Contains (asks_of (run_of_ask doc p.0 p.1)) x → Contains (used_by_ask doc p) x
asked_used doc p x c =
    in_flat_map (used doc 256) (asks_of (run_of_ask doc p.0 p.1)) x x c (uses_itself doc 255 x)

-- what an ask uses asks for what the ask uses
uses_closed : UsesEnd → (doc : Doc) → IsAccepted doc → (p : ℕ × Ask)
    → Contains (numbered_asks doc) p → (x y : Asked) → Contains (used_by_ask doc p) x
    → Contains (asked_by doc x) y → Contains (used_by_ask doc p) y
uses_closed end doc accepted p among x y c a =
    let o = out_flat_map (used doc 256) (asks_of (run_of_ask doc p.0 p.1)) x c in
    end doc accepted p among o.0 y o.1 257 (uses_more doc 256 o.0 x y o.2 a)

-- ---- what is held

abbrev HeldUsed : Doc → ℕ × Ask → Named → Type 0
HeldUsed doc p (held_cell i k) = Contains (used_by_ask doc p) (cell i k)
HeldUsed doc p other = Unit {0}

-- a value may hold the cells that an ask uses, and these may be asked
abbrev UsedBy : Doc → ℕ × Ask → Allowed
UsedBy doc p = record { name = HeldUsed doc p; ask = λ x. Contains (used_by_ask doc p) x }

used_closed : UsesEnd → (doc : Doc) → IsAccepted doc → (p : ℕ × Ask)
    → Contains (numbered_asks doc) p → IsClosed doc (UsedBy doc p)
used_closed end doc accepted p among = record {
  asked = λ x c. each_of (λ y. Contains (used_by_ask doc p) y) (asked_by doc x)
      (λ y a. uses_closed end doc accepted p among x y c a);
  held = λ i k v c e. c;
  lazies = λ i k q. tt;
  ways = λ i k. tt;
}

all_used : (doc : Doc) (p : ℕ × Ask) (v : Value) → AllIn (UsedBy doc p) v → UsesHeld doc p v
all_used doc p v good i k c = each_in (HeldUsed doc p) (names_in v) (held_cell i k) good c

pub held_by_uses : UsesEnd → HeldAreUsed
held_by_uses end doc accepted p among =
    let closed = used_closed end doc accepted p among in
    record {
      reply = λ v e. all_used doc p v (reply_named doc (UsedBy doc p) closed p.0 p.1 v
          (each_of (λ x. Contains (used_by_ask doc p) x) (asks_of (run_of_ask doc p.0 p.1))
          (asked_used doc p)) e);
      behind = λ i k v c e. all_used doc p v
          (content_named doc (UsedBy doc p) closed i k v c e);
    }

-- Uses end: what a cell or a Lazy asks for has a lesser measure than it.
use Rattle.std.proofs.Common.{◌≡◌, ◌≤◌, ℕ, zero, suc, ◌+◌, flat_map, Contains, Some, None, Ok, Err, sym, ap, subst, ◌∙◌, arith, rules, inl, inr}
use Rattle.std.specs.Prelude.{IsSome}
use Rattle.std.specs.List.{enumerate_from}
use Rattle.dg_decl.specs.declared.document.Doc.{Doc}
use Rattle.dg_decl.proofs.MemberLemmas.{none_in, in_front, first_or_rest, out_map, in_flat_map, out_flat_map}
use Rattle.dg_decl.proofs.NodeWalks.{in_rest}
use Rattle.dg_slots.specs.declared.session.Ask.{Ask}
use Rattle.dg_slots.specs.Sessions.{asks_of}
use Rattle.dg_value.specs.declared.place.Place.{Place}
use Rattle.dg_value.specs.declared.place.PlaceStep.TheVariants as step
use Rattle.dg_value.specs.declared.value.Value.{Value}
use Rattle.dg_value.specs.Places.{then_step}
use Rattle.dg_eval.specs.Runs as runs
use Rattle.dg_eval.specs.Runs.{Asked, cell, lazy, Run}
use Rattle.dg_eval.specs.Meaning.{is_cell, cell_place, content, held, eval, content_of, lazy_content_of}
use Rattle.dg_eval.specs.Asks.{Reached, value_there, not_there, run_of_ask, reply_of, answer_to, numbered_asks, asked_by, used}
use Rattle.dg_eval.specs.At.{ask_numbered}
use Rattle.dg_eval.specs.Laws.{IsPlaceOf}
use Rattle.dg_eval.proofs.RunResults.{Allowed, Gives, Each, gives_wider, gives_more, then_gives, asking_gives, if_gives}
use Rattle.dg_eval.proofs.BodyResults.{Any, each_in}
use Rattle.dg_eval.proofs.AcceptedDepth.{StagesFindNothing, stages_of_accepted}
use Rattle.dg_eval.proofs.CallLemmas.{calls_are_edges}
use Rattle.dg_eval.proofs.TargetLemmas.{ShallowSlot, none_shallow}
use Rattle.dg_eval.proofs.TotalLemmas.{CallsAreEdges, AskedWithin, Within, Good, Has}
use Rattle.dg_eval.proofs.PlaceLemmas.{Stood, placing, numbered_in}
use Rattle.dg_eval.proofs.StandLemmas.{all_stand}
use Rattle.dg_eval.proofs.AskLemmas.{run_has}
use Rattle.dg_promises.specs.Uses.{AsksAreAnswered, UsesEnd}

-- ---- the measure of what is asked for

-- a cell of a slot from which walks have at most k nodes has a measure of 2k - 1
record MeasuredCell (doc : Doc) (m s : ℕ) : Type 0 where
  nodes : ℕ
  few : nodes ≤ 128
  small : nodes + nodes ≤ suc m
  shallow : ShallowSlot doc nodes s

-- a Lazy of such a slot has a measure of 2k
record MeasuredLazy (doc : Doc) (m i s : ℕ) (p : Place) : Type 0 where
  nodes : ℕ
  few : nodes ≤ 128
  small : nodes + nodes ≤ m
  shallow : ShallowSlot doc nodes s
  place : IsPlaceOf doc i s p

-- a cell or Lazy of no more than this measure
abbrev Measured : Doc → ℕ → Asked → Type 0
Measured doc m (cell i s) = MeasuredCell doc m s
Measured doc m (lazy i s p) = MeasuredLazy doc m i s p

-- what asks for no more than this measure
abbrev Measure : Doc → ℕ → Allowed
Measure doc m = record { name = λ x. Unit {0}; ask = Measured doc m }

within_measured : (doc : Doc) (k m : ℕ) → k ≤ 128 → k + k ≤ m → (x : Asked)
    → AskedWithin doc (IsPlaceOf doc) k x → Measured doc m x
within_measured doc k m few small (cell i s) h =
    record { nodes = k; few = few; small = omega (arith, small); shallow = h }
within_measured doc k m few small (lazy i s p) h =
    record { nodes = k; few = few; small = small; shallow = h.0; place = h.1 }

-- a run that asks within k
measured_run : (doc : Doc) (k m : ℕ) → k ≤ 128 → k + k ≤ m → (r : Run Value)
    → Has doc (IsPlaceOf doc) k r → Gives (Measure doc m) Any r
measured_run doc k m few small r has =
    gives_wider (Within doc (IsPlaceOf doc) k) (Measure doc m) (Good doc (IsPlaceOf doc) k) Any r
    (λ v good. tt) (within_measured doc k m few small) has

none_measured : (doc : Doc) (x : Asked) → Measured doc zero x → ⊥
none_measured doc (cell i s) h = no_cell h.nodes h.small h.shallow
  where
    no_cell : (k : ℕ) → k + k ≤ 1 → ShallowSlot doc k s → ⊥
    no_cell zero small sh = none_shallow doc s sh
    no_cell (suc k) small sh = omega (arith, small)
none_measured doc (lazy i s p) h = no_lazy h.nodes h.small h.shallow
  where
    no_lazy : (k : ℕ) → k + k ≤ 0 → ShallowSlot doc k s → ⊥
    no_lazy zero small sh = none_shallow doc s sh
    no_lazy (suc k) small sh = omega (arith, small)

-- ---- what a content asks for

-- a run of an evaluation at a depth of 128
slot_measured : (doc : Doc) → StagesFindNothing doc → CallsAreEdges doc → (k m i s : ℕ) (q : Place)
    → suc k ≤ 128 → k + k ≤ m → ShallowSlot doc (suc k) s → Stood doc i s q
    → Gives (Measure doc m) Any (eval doc 128 i s q)
slot_measured doc none ok k m i s q few small sh at =
    measured_run doc k m (omega (arith, few)) small (eval doc 128 i s q)
    (all_stand doc none ok k i s q few sh at)

cell_measured : (doc : Doc) → StagesFindNothing doc → CallsAreEdges doc → (k m i s : ℕ)
    → k ≤ 128 → k + k ≤ suc (suc m) → ShallowSlot doc k s
    → Gives (Measure doc m) Any (content (eval doc 128) i s)
cell_measured doc none ok zero m i s few small sh = absurd (none_shallow doc s sh)
cell_measured doc none ok (suc k) m i s few small sh =
    slot_measured doc none ok k m i s (cell_place i s) few (omega (arith, small)) sh
    ((placing doc none).cell i s)

lazy_measured : (doc : Doc) → StagesFindNothing doc → CallsAreEdges doc → (k m i s : ℕ)
    → (p : Place) → k ≤ 128 → k + k ≤ suc m → ShallowSlot doc k s → IsPlaceOf doc i s p
    → Gives (Measure doc m) Any (lazy_content_of doc i s p)
unfolding lazy_content_of
lazy_measured doc none ok zero m i s p few small sh at = absurd (none_shallow doc s sh)
lazy_measured doc none ok (suc k) m i s p few small sh at =
    if_gives (Measure doc m) Any (is_cell doc s) (held (eval doc 128) i s)
    (eval doc 128 i s (then_step p step.Inside))
    (asking_gives (Measure doc (suc m)) (Measure doc m) Any (cell i s) _
    (record { nodes = suc k; few = few; small = small; shallow = sh })
    (then_gives (Measure doc (suc m)) Any Any (content (eval doc 128) i s) _
    (cell_measured doc none ok (suc k) (suc m) i s few (omega (arith, small)) sh)
    (λ v any. (tt, tt))))
    (slot_measured doc none ok k m i s (then_step p step.Inside) few (omega (arith, small)) sh
    ((placing doc none).inside i s p sh.0 sh.1 at))

asked_measured : {A : Type 0} (doc : Doc) (m : ℕ) (P : A → Type 0) (x : Run A)
    → Gives (Measure doc m) P x → Each (Measured doc m) (runs.asks_of x)
asked_measured doc m P None g = absurd g
asked_measured doc m P (Some (Ok r, asked)) g = g.1
asked_measured doc m P (Some (Err f, asked)) g = g

-- each step lessens the measure
uses_lessen : (doc : Doc) → StagesFindNothing doc → CallsAreEdges doc → (m : ℕ) (x : Asked)
    → Measured doc (suc m) x → Each (Measured doc m) (asked_by doc x)
unfolding asked_by content_of
uses_lessen doc none ok m (cell i s) h =
    asked_measured doc m Any (content (eval doc 128) i s)
    (cell_measured doc none ok h.nodes m i s h.few h.small h.shallow)
uses_lessen doc none ok m (lazy i s p) h =
    asked_measured doc m Any (lazy_content_of doc i s p)
    (lazy_measured doc none ok h.nodes m i s p h.few h.small h.shallow h.place)

-- ---- uses at any depth

used_first : (doc : Doc) (depth : ℕ) (x : Asked) → Contains (used doc (suc depth) x) x
unfolding used
used_first doc depth x = in_front x (flat_map (used doc depth) (asked_by doc x))

used_behind : (doc : Doc) (depth : ℕ) (x y z : Asked) → Contains (asked_by doc x) z
    → Contains (used doc depth z) y → Contains (used doc (suc depth) x) y
unfolding used
used_behind doc depth x y z c d =
    in_rest y x (flat_map (used doc depth) (asked_by doc x))
    (in_flat_map (used doc depth) (asked_by doc x) z y c d)

-- what is used through ever so many is used through as many as the measure
uses_within : (doc : Doc) → StagesFindNothing doc → CallsAreEdges doc → (m depth : ℕ) (x y : Asked)
    → Measured doc m x → Contains (used doc depth x) y → Contains (used doc m x) y
unfolding used
uses_within doc none ok zero depth x y h c = absurd (none_measured doc x h)
uses_within doc none ok (suc m) zero x y h c = absurd (none_in y c)
uses_within doc none ok (suc m) (suc depth) x y h c =
    elim (first_or_rest y x (flat_map (used doc depth) (asked_by doc x)) c) [
      | inl e ↦ subst (λ (z : Asked). Contains (used doc (suc m) x) z) e (used_first doc m x)
      | inr r ↦ (let o = out_flat_map (used doc depth) (asked_by doc x) y r in
          used_behind doc m x y o.0 o.1
          (uses_within doc none ok m depth o.0 y
          (each_in (Measured doc m) (asked_by doc x) o.0 (uses_lessen doc none ok m x h) o.1) o.2))
    ]

-- ---- asks

-- what an ask asks for is allowed
abbrev Asking : Doc → Allowed
Asking doc = Within doc (IsPlaceOf doc) 128

-- an ask with its number
asks_numbered : (doc : Doc) (number : ℕ) (a : Ask) → Contains (numbered_asks doc) (number, a)
    → ask_numbered doc number ≡ Some a
asks_numbered doc number a c =
    let p = out_map (λ (p : ℕ × Ask). (suc p.0, p.1)) (enumerate_from 0 (asks_of doc)) (number, a) c
    in
    let o = numbered_in 0 (asks_of doc) p.0.0 p.0.1 p.1 in
    let first : suc p.0.0 ≡ number = ap (λ (q : ℕ × Ask). q.0) p.2 in
    let second : p.0.1 ≡ a = ap (λ (q : ℕ × Ask). q.1) p.2 in
    let count : suc o.0 ≡ number = omega (arith, o.1, first) in
    ap (ask_numbered doc) (sym count) ∙ (o.2 ∙ ap Some second)

-- the run of an ask has a result, and asks for what is within 128
pub ask_runs : (doc : Doc) → StagesFindNothing doc → CallsAreEdges doc → (number : ℕ) (a : Ask)
    → Contains (numbered_asks doc) (number, a)
    → Gives (Asking doc) Any (run_of_ask doc number a)
ask_runs doc none ok number a c =
    gives_more (Asking doc) _ Any (run_of_ask doc number a) (λ r good. tt)
    (run_has doc none ok number a (asks_numbered doc number a c))

answered : (R : Allowed) (P : Reached → Type 0) (x : Run Reached) → Gives R P x
    → IsSome (reply_of x)
answered R P None g = absurd g
answered R P (Some (Ok (value_there v), asked)) g = search rules
answered R P (Some (Ok not_there, asked)) g = search rules
answered R P (Some (Err f, asked)) g = search rules

pub asks_are_answered : AsksAreAnswered
unfolding answer_to
asks_are_answered doc accepted number a c =
    let none = stages_of_accepted doc accepted in
    answered (Asking doc) Any (run_of_ask doc number a)
    (ask_runs doc none (calls_are_edges doc none) number a c)

-- what an ask asks for has a measure of at most 256
ask_measured : (doc : Doc) → StagesFindNothing doc → CallsAreEdges doc → (number : ℕ) (a : Ask)
    → Contains (numbered_asks doc) (number, a)
    → Each (Measured doc 256) (runs.asks_of (run_of_ask doc number a))
ask_measured doc none ok number a c =
    asked_measured doc 256 Any (run_of_ask doc number a)
    (gives_wider (Asking doc) (Measure doc 256) Any Any (run_of_ask doc number a) (λ r any. tt)
    (within_measured doc 128 256 (omega arith) (omega arith)) (ask_runs doc none ok number a c))

pub uses_end : UsesEnd
uses_end doc accepted p c x y first depth used_at =
    let none = stages_of_accepted doc accepted in
    let ok = calls_are_edges doc none in
    in_flat_map (used doc 256) (runs.asks_of (run_of_ask doc p.0 p.1)) x y first
    (uses_within doc none ok 256 depth x y
    (each_in (Measured doc 256) (runs.asks_of (run_of_ask doc p.0 p.1)) x
    (ask_measured doc none ok p.0 p.1 c) first) used_at)

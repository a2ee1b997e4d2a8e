-- The Lazies that a run gives and asks for stand at their places.
use Rattle.std.proofs.Common.{◌≡◌, ℕ, Bool, true, false, List, Contains, Some, None, Ok, Err, sym, ap, subst, ◌∙◌, arith}
use Rattle.std.proofs.lemmas.Bool.{false≢true}
use Rattle.std.proofs.lemmas.Option.{none-some, same_Some}
use Rattle.dg_types.specs.declared.key.Mode.{Mode}
use Rattle.dg_types.specs.declared.key.Mode.TheVariants as mode
use Rattle.dg_decl.specs.declared.document.Doc.{Doc}
use Rattle.dg_decl.specs.declared.graph.EdgeKind.{EdgeKind}
use Rattle.dg_decl.specs.declared.graph.EdgeKind.TheVariants as edge
use Rattle.dg_decl.specs.Graph.{edge_kind}
use Rattle.dg_value.specs.declared.place.Place.{Place}
use Rattle.dg_value.specs.declared.value.Value.{Value}
use Rattle.dg_eval.specs.Named.{made_lazy, names_in}
use Rattle.dg_eval.specs.Runs.{Asked, lazy, Run}
use Rattle.dg_eval.specs.Meaning.{cell_place, give, eval, content_of, lazy_content_of}
use Rattle.dg_eval.specs.At.{Stands, stands_at}
use Rattle.dg_eval.specs.Laws.{IsSlotOf, IsPlaceOf, LaziesStand, AskedStand, RunStands}
use Rattle.dg_eval.proofs.RunResults.{Each, gives_more}
use Rattle.dg_eval.proofs.BodyResults.{each_in}
use Rattle.dg_eval.proofs.TargetLemmas.{ShallowSlot}
use Rattle.dg_eval.proofs.TotalLemmas.{CallsAreEdges, NamedWithin, AskedWithin, Within, Good, Has, HasAll, FitsMode, lazy_has, give_has}
use Rattle.dg_eval.proofs.NodeLemmas.{eval_has}
use Rattle.dg_eval.proofs.AcceptedDepth.{StagesFindNothing}
use Rattle.dg_eval.proofs.PlaceLemmas.{Stood, IsNoLazy, placed_at, placing}
use Rattle.dg_eval.proofs.LawLemmas.{slot_shallow}

-- ---- what is allowed stands

pub good_stands : (doc : Doc) (k : ℕ) (v : Value) → Good doc (IsPlaceOf doc) k v
    → LaziesStand doc v
good_stands doc k v good i s p c =
    let h : NamedWithin doc (IsPlaceOf doc) k (made_lazy i s p) =
    each_in (NamedWithin doc (IsPlaceOf doc) k) (names_in v) (made_lazy i s p) good c in
    h.1

pub asked_stands : (doc : Doc) (k : ℕ) (asked : List Asked)
    → Each (AskedWithin doc (IsPlaceOf doc) k) asked → AskedStand doc asked
asked_stands doc k asked all i s p c =
    let h : AskedWithin doc (IsPlaceOf doc) k (lazy i s p) =
    each_in (AskedWithin doc (IsPlaceOf doc) k) asked (lazy i s p) all c in
    h.1

run_stands : (doc : Doc) (k : ℕ) (r : Run Value) → Has doc (IsPlaceOf doc) k r → RunStands doc r
run_stands doc k None g = absurd g
run_stands doc k (Some (Ok w, asked)) g = record {
  given = λ v e. subst (LaziesStand doc) (same_Some w v e) (good_stands doc k w g.0);
  asked = asked_stands doc k asked g.1;
}
run_stands doc k (Some (Err f, asked)) g = record {
  given = λ v e. absurd (none-some v e);
  asked = asked_stands doc k asked g;
}

-- ---- evaluation at a depth of 128

abbrev is_deferred : EdgeKind → Bool
is_deferred edge.Deferred = true
is_deferred other = false

direct_is_no_lazy : (m : Mode) → edge_kind m ≡ edge.Direct → IsNoLazy m
direct_is_no_lazy mode.Instance e = tt
direct_is_no_lazy mode.Produced e = tt
direct_is_no_lazy mode.Provider e = tt
direct_is_no_lazy mode.Producer e = tt
direct_is_no_lazy mode.ProviderLazy e = tt
direct_is_no_lazy mode.Lazy e = absurd (false≢true (sym (ap is_deferred e)))

pub all_stand : (doc : Doc) → StagesFindNothing doc → CallsAreEdges doc
    → HasAll doc (Stood doc) (IsPlaceOf doc) 128 (eval doc 128)
all_stand doc none ok = eval_has doc (Stood doc) (IsPlaceOf doc) (placing doc none) ok 128

pub eval_stands : (doc : Doc) → StagesFindNothing doc → CallsAreEdges doc → (i k : ℕ) (m : Mode)
    → (q : Place) → IsSlotOf doc i k
    → stands_at doc q ≡ Some (record { mode = m; inst = i; slot = k })
    → edge_kind m ≡ edge.Direct → RunStands doc (eval doc 128 i k q)
eval_stands doc none ok i k m q slot at direct =
    run_stands doc 127 (eval doc 128 i k q)
    (all_stand doc none ok 127 i k q (omega arith) (slot_shallow doc none i k slot)
    (m, direct_is_no_lazy m direct, at))

pub give_stands : (doc : Doc) → StagesFindNothing doc → CallsAreEdges doc → (i k : ℕ) (m : Mode)
    → (q : Place) → IsSlotOf doc i k
    → stands_at doc q ≡ Some (record { mode = m; inst = i; slot = k })
    → RunStands doc (give doc (eval doc 128) m i k q)
give_stands doc none ok i k m q slot at =
    let shallow : ShallowSlot doc 128 k = slot_shallow doc none i k slot in
    run_stands doc 128 (give doc (eval doc 128) m i k q)
    (gives_more (Within doc (IsPlaceOf doc) 128)
    (λ v. Good doc (IsPlaceOf doc) 128 v
    × FitsMode (IsPlaceOf doc) m (record { inst = i; slot = k }) v)
    (Good doc (IsPlaceOf doc) 128) (give doc (eval doc 128) m i k q) (λ v both. both.0)
    (give_has doc (Stood doc) (IsPlaceOf doc) (placing doc none) 128 (eval doc 128)
    (all_stand doc none ok) 128 m (record { inst = i; slot = k }) q (omega arith)
    (λ direct. shallow) shallow (placed_at doc m i k q at)))

pub content_stands : (doc : Doc) → StagesFindNothing doc → CallsAreEdges doc → (i k : ℕ)
    → IsSlotOf doc i k → RunStands doc (content_of doc i k)
unfolding content_of
content_stands doc none ok i k slot =
    let pl = placing doc none in
    run_stands doc 127 (eval doc 128 i k (cell_place i k))
    (all_stand doc none ok 127 i k (cell_place i k) (omega arith) (slot_shallow doc none i k slot)
    (pl.cell i k))

pub lazy_content_stands : (doc : Doc) → StagesFindNothing doc → CallsAreEdges doc → (i k : ℕ)
    → (p : Place) → IsSlotOf doc i k → IsPlaceOf doc i k p
    → RunStands doc (lazy_content_of doc i k p)
unfolding lazy_content_of
lazy_content_stands doc none ok i k p slot at =
    run_stands doc 128 _ (lazy_has doc (Stood doc) (IsPlaceOf doc) (placing doc none) 128
    (eval doc 128) (all_stand doc none ok) 128 i k p (omega arith)
    (slot_shallow doc none i k slot) at)

-- ---- a place has at most one Lazy

pub one_lazy : (doc : Doc) (v w : Value) → LaziesStand doc v → LaziesStand doc w
    → (i k j l : ℕ) (p : Place) → Contains (names_in v) (made_lazy i k p)
    → Contains (names_in w) (made_lazy j l p) → (i ≡ j) × (k ≡ l)
one_lazy doc v w hv hw i k j l p cv cw =
    let same = same_Some (record { mode = mode.Lazy; inst = i; slot = k })
    (record { mode = mode.Lazy; inst = j; slot = l }) (sym (hv i k p cv) ∙ hw j l p cw) in
    (ap (λ (s : Stands). s.inst) same, ap (λ (s : Stands). s.slot) same)

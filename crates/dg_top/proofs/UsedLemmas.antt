-- What asks use, one after the other.
use Rattle.std.proofs.Common.{◌≡◌, inl, inr, ℕ, zero, suc, List, [], ◌∷◌, ◌++◌, length, filter_map, flat_map, Contains, Some, None, sym, ap, subst, ◌∙◌}
use Rattle.std.specs.Prelude.{IsSome}
use Rattle.std.proofs.lemmas.Grind.{flat_map-append}
use Rattle.std.proofs.lemmas.List.{append-nil}
use Rattle.std.proofs.lemmas.List.Elements.{Contains-append_left, Contains-append_right, Contains-append_cases}
use Rattle.dg_decl.proofs.NodeWalks.{in_rest}
use Rattle.dg_decl.proofs.MemberLemmas.{none_in, in_front, first_or_rest, in_flat_map, out_flat_map}
use Rattle.dg_decl.specs.declared.document.Doc.{Doc}
use Rattle.dg_decl.specs.Diagnostics.{IsAccepted}
use Rattle.dg_slots.specs.declared.session.Ask.{Ask}
use Rattle.dg_eval.specs.Runs.{Asked, Run, asks_of}
use Rattle.dg_slots.specs.Sessions.{asks_of as asks_of_doc}
use Rattle.dg_eval.specs.Asks.{Reached, reply_of, run_of_ask, answer_to, numbered_asks, asked_by, used, used_by_ask, as_cell, each_once, cells_of, cells}
use Rattle.dg_promises.specs.Uses.{used_by_asks, AsksAreAnswered, UsesEnd}
use Rattle.dg_requests.specs.Results.{MayAsk, MayRun, CanRun}
use Rattle.dg_requests.specs.Scopes.{Scope, IsClosed, Exactly}
use Rattle.dg_tree.specs.Stores.{Stored, names, IsSound}
use Rattle.dg_top.specs.Progress.{first_asks, used_by_first, AreAsked}
use Rattle.dg_top.proofs.CountLemmas.{same_count}
use Rattle.dg_top.proofs.LineLemmas.{all_asks}

-- ---- uses

used_self : (doc : Doc) (depth : ℕ) (x : Asked) → Contains (used doc (suc depth) x) x
unfolding used
used_self doc depth x = in_front x (flat_map (used doc depth) (asked_by doc x))

-- what one of the used asks for is used too, one further
used_further : (doc : Doc) (depth : ℕ) (x y z : Asked) → Contains (used doc depth x) y
    → Contains (asked_by doc y) z → Contains (used doc (suc depth) x) z
unfolding used
used_further doc zero x y z h a = absurd (none_in y h)
used_further doc (suc depth) x y z h a =
    elim (first_or_rest y x (flat_map (used doc depth) (asked_by doc x)) h) [
      | inl e ↦ in_rest z x (flat_map (used doc (suc depth)) (asked_by doc x)) (in_flat_map (used
          doc (suc depth)) (asked_by doc x) z z (subst (λ (w : Asked). Contains (asked_by doc w) z)
          (sym e) a) (used_self doc depth z))
      | inr r ↦ (let o = out_flat_map (used doc depth) (asked_by doc x) y r in
          in_rest z x (flat_map (used doc (suc depth)) (asked_by doc x)) (in_flat_map (used doc (suc
          depth)) (asked_by doc x) o.0 z o.1 (used_further doc depth o.0 y z o.2 a)))
    ]

-- a closed list has all that one of it uses
used_within : (doc : Doc) (xs : List Asked) → ((x y : Asked) → Contains xs x
    → Contains (asked_by doc x) y → Contains xs y) → (depth : ℕ) (x y : Asked) → Contains xs x
    → Contains (used doc depth x) y → Contains xs y
unfolding used
used_within doc xs closed zero x y at h = absurd (none_in y h)
used_within doc xs closed (suc depth) x y at h =
    elim (first_or_rest y x (flat_map (used doc depth) (asked_by doc x)) h) [
      | inl e ↦ subst (Contains xs) e at
      | inr r ↦ (let o = out_flat_map (used doc depth) (asked_by doc x) y r in
          used_within doc xs closed depth o.0 y (closed x o.0 at o.1) o.2)
    ]

-- ---- one ask

abbrev asks_for : Doc → ℕ × Ask → List Asked
asks_for doc p = asks_of (run_of_ask doc p.0 p.1)

asked_is_used : (doc : Doc) (p : ℕ × Ask) (x : Asked) → Contains (asks_for doc p) x
    → Contains (used_by_ask doc p) x
asked_is_used doc p x h = in_flat_map (used doc 256) (asks_for doc p) x x h (used_self doc 255 x)

among_all : (doc : Doc) (p : ℕ × Ask) (x : Asked) → Contains (numbered_asks doc) p
    → Contains (used_by_ask doc p) x → Contains (used_by_asks doc) x
unfolding used_by_asks
among_all doc p x at h = in_flat_map (used_by_ask doc) (numbered_asks doc) p x at h

abbrev pub tree_scope : Doc → Scope
tree_scope doc = record { doc = doc; may = used_by_asks doc }

pub scope_closed : (doc : Doc) → IsAccepted doc → UsesEnd → IsClosed (tree_scope doc)
unfolding used_by_asks
scope_closed doc accepted end x y h a =
    let p = out_flat_map (used_by_ask doc) (numbered_asks doc) x h in
    let f = out_flat_map (used doc 256) (asks_for doc p.0) x p.2 in
    among_all doc p.0 y p.1 (end doc accepted p.0 p.1 f.0 y f.1 257 (used_further doc 256 f.0 x y
    f.2 a))

may_run : (s : Scope) (run : Run Reached) → IsSome (reply_of run) → MayAsk s (asks_of run)
    → MayRun s run
may_run s None there may = absurd cc
may_run s (Some r) there may = may

pub can_run : (doc : Doc) (number : ℕ) (a : Ask) → IsAccepted doc → AsksAreAnswered
    → Contains (numbered_asks doc) (number, a) → CanRun (tree_scope doc) (run_of_ask doc number a)
unfolding answer_to
can_run doc number a accepted answered at = record {
  may = may_run (tree_scope doc) (run_of_ask doc number a) (answered doc accepted number a at)
      (λ x h. among_all doc (number, a) x at (asked_is_used doc (number, a) x h));
}

-- ---- one ask more

used_more : (doc : Doc) (n : ℕ) (p : ℕ × Ask) → first_asks doc (suc n) ≡ first_asks doc n ++ p ∷ []
    → used_by_first doc (suc n) ≡ used_by_first doc n ++ used_by_ask doc p
unfolding used_by_first
used_more doc n p is =
    ap (flat_map (used_by_ask doc)) is ∙ flat_map-append (used_by_ask doc) (first_asks doc n) (p ∷
    [])
    ∙ ap (λ (xs : List Asked). used_by_first doc n ++ xs) (append-nil (used_by_ask doc p))

pub none_asked : (doc : Doc) → AreAsked doc 0 []
unfolding used_by_first
none_asked doc = record {
  used = λ x h. absurd (none_in x h);
  all = λ x h. absurd (none_in x h);
}

module _ (doc : Doc) (accepted : IsAccepted doc) (end : UsesEnd) (n : ℕ) (p : ℕ × Ask) (at :
    Contains (numbered_asks doc) p) (is : first_asks doc (suc n) ≡ first_asks doc n ++ p ∷ []) where
  asked_uses : (old new more : List Asked) → AreAsked doc n old → new ≡ old ++ more
      → Exactly doc (asks_for doc p) more → (x : Asked) → Contains new x
      → Contains (used_by_first doc (suc n)) x
  asked_uses old new more before grown exactly x h =
      subst (λ (xs : List Asked). Contains xs x) (sym (used_more doc n p is))
      (elim (Contains-append_cases old more x (subst (λ (xs : List Asked). Contains xs x) grown h)) [
        | inl l ↦ Contains-append_left (used_by_first doc n) (used_by_ask doc p) x (before.used x l)
        | inr r ↦ (let u = exactly.used x r in
            Contains-append_right (used_by_first doc n) (used_by_ask doc p) x (end doc accepted p at
            u.0 x u.1 u.2.0 u.2.1))
      ])

  all_asked : (t : Stored) (old more : List Asked) → IsSound doc t → AreAsked doc n old
      → t.asked ≡ old ++ more → Exactly doc (asks_for doc p) more → (x : Asked)
      → Contains (used_by_first doc (suc n)) x → Contains t.asked x
  all_asked t old more sound before grown exactly x h =
      elim (Contains-append_cases (used_by_first doc n) (used_by_ask doc p) x (subst (λ (xs : List
      Asked). Contains xs x) (used_more doc n p is) h)) [
        | inl l ↦ subst (λ (xs : List Asked). Contains xs x) (sym grown) (Contains-append_left old
            more x (before.all x l))
        | inr r ↦ (let f = out_flat_map (used doc 256) (asks_for doc p) x r in
            let first : Contains t.asked f.0 = subst (λ (xs : List Asked). Contains xs f.0) (sym
            grown) (Contains-append_right old more f.0 (exactly.each f.0 f.1)) in
            sound.stored_asked x (used_within doc (names t) sound.closed 256 f.0 x
            (sound.asked_stored f.0 first) f.2))
      ]

  pub asked_more : (t : Stored) (old more : List Asked) → IsSound doc t → AreAsked doc n old
      → t.asked ≡ old ++ more → Exactly doc (asks_for doc p) more → AreAsked doc (suc n) t.asked
  asked_more t old more sound before grown exactly = record {
    used = asked_uses old t.asked more before grown exactly;
    all = all_asked t old more sound before grown exactly;
  }

  -- what the ask uses is stored
  pub is_stored : (t : Stored) → IsSound doc t → AreAsked doc (suc n) t.asked → (x : Asked)
      → Contains (used_by_ask doc p) x → Contains (names t) x
  is_stored t sound after x h = sound.asked_stored x (after.all x (subst (λ (xs : List Asked).
      Contains xs x) (sym (used_more doc n p is)) (Contains-append_right (used_by_first doc n)
      (used_by_ask doc p) x h)))

-- what was asked for is what is stored
pub settled_asked : (doc : Doc) (n : ℕ) (t : Stored) → IsSound doc t → AreAsked doc n t.asked
    → AreAsked doc n (names t)
settled_asked doc n t sound before = record {
  used = λ x h. before.used x (sound.stored_asked x h);
  all = λ x h. sound.asked_stored x (before.all x h);
}

-- behind the last ask, as many cells are stored as the asks of the document use
pub cell_count : (doc : Doc) (n : ℕ) (t : Stored) → n ≡ length (asks_of_doc doc) → IsSound doc t
    → AreAsked doc n t.asked → length t.cells ≡ length (cells doc)
unfolding cells cells_of used_by_first
cell_count doc n t is sound after =
    let all : first_asks doc n ≡ numbered_asks doc = ap (first_asks doc) is ∙ all_asks doc in
    same_count t (used_by_first doc n) sound.once (λ x h. after.used x (sound.stored_asked x h)) (λ
    x h. sound.asked_stored x (after.all x h))
    ∙ ap (λ (ps : List (ℕ × Ask)). length (each_once (filter_map as_cell (flat_map (used_by_ask doc)
    ps)))) all

-- Each kind of step keeps the rule of a deque.
use Rattle.std.proofs.Common.{◌≡◌, ◌≢◌, ◌⊎◌, inl, inr, ℕ, zero, suc, ◌+◌, ◌<◌, ◌≤◌, true, false, List, [], ◌∷◌, ◌++◌, length, map, nat_eq, min, set, sym, refl, ap, ◌∙◌, subst, ⊎_elim, append_assoc, arith, cond, eqb}
use Rattle.std.specs.List.{filter}
use Rattle.std.proofs.lemmas.Bool.{ne_eqb}
use Rattle.std.proofs.lemmas.Bool.Decides.{nat_tests}
use Rattle.std.proofs.lemmas.List.{map-append, length-set, append-nil, length-append}
use Rattle.std.proofs.lemmas.List.Elements.{filter-append}
use mathlib.Core.Option.{some, some-ne-none, some-injective}
use lib.ListN.{get_elem?}
use Rattle.crossbeam_deque.specs.Tasks.{Pushes, Takes, Finds, FindsFew, Forks}
use Rattle.crossbeam_deque.proofs.Lists.{at_set}
use Rattle.dg_steal.specs.declared.tally.Tally.{Tally}
use Rattle.dg_steal.specs.Rule.{owner, other, pushing, taking, opening, Taking, asks_of, taken_by, Fits, Keeps, Steps, Adds, Removes, Pushed, Took, WasEmpty}

-- these asks, as takings of one pass
abbrev marked : ℕ → List ℕ → List Taking
marked pass asks = map (λ x. (pass, x)) asks

asks_of-marked : (pass : ℕ) (asks : List ℕ) → asks_of (marked pass asks) ≡ asks
asks_of-marked pass [] = refl
asks_of-marked pass (x ∷ xs) = ap (λ l. x ∷ l) (asks_of-marked pass xs)

pub taken_by-cons : (pass : ℕ) (t : Taking) (ts : List Taking) → taken_by pass (t ∷ ts) ≡ cond (eqb t.0 pass) (t.1 ∷ taken_by pass ts) (taken_by pass ts)
taken_by-cons pass t ts = elim (eqb t.0 pass) as (λ b. asks_of (cond b (t ∷ filter (λ u. nat_eq u.0 pass) ts) (filter (λ u. nat_eq u.0 pass) ts)) ≡ cond b (t.1 ∷ taken_by pass ts) (taken_by pass ts)) [ true ↦ refl | false ↦ refl ]

taken_by-marked : (pass : ℕ) (asks : List ℕ) → taken_by pass (marked pass asks) ≡ asks
taken_by-marked pass [] = refl
taken_by-marked pass (x ∷ xs) =
    let same : eqb pass pass ≡ true = grind (arith, nat_tests) in
    taken_by-cons pass (pass, x) (marked pass xs) ∙ ap (λ b. cond b (x ∷ taken_by pass (marked pass xs)) (taken_by pass (marked pass xs))) same ∙ ap (λ l. x ∷ l) (taken_by-marked pass xs)

taken_by-others : (pass by : ℕ) (asks : List ℕ) → by ≢ pass → taken_by pass (marked by asks) ≡ []
taken_by-others pass by [] apart = refl
taken_by-others pass by (x ∷ xs) apart =
    taken_by-cons pass (by, x) (marked by xs) ∙ ap (λ b. cond b (x ∷ taken_by pass (marked by xs)) (taken_by pass (marked by xs))) (ne_eqb by pass apart) ∙ taken_by-others pass by xs apart

taken_by-append : (pass : ℕ) (ts us : List Taking) → taken_by pass (ts ++ us) ≡ taken_by pass ts ++ taken_by pass us
taken_by-append pass ts us = ap asks_of (filter-append (λ t. nat_eq t.0 pass) ts us) ∙ map-append (λ (t : Taking). t.1) (filter (λ t. nat_eq t.0 pass) ts) (filter (λ t. nat_eq t.0 pass) us)

-- a pass that is there has a number below that of passes
there : (tallies : List Tally) (pass : ℕ) (t : Tally) → get_elem? tallies pass ≡ some t → pass < length tallies
there [] pass t e = absurd (some-ne-none t (sym e))
there (x ∷ xs) zero t e = omega arith
there (x ∷ xs) (suc k) t e = let h : k < length xs = there xs k t e in omega arith

abbrev All : (ℕ → Tally → Type 0) → List Tally → Type 0
All F tallies = (pass : ℕ) (t : Tally) → get_elem? tallies pass ≡ some t → F pass t

all_set : (F : ℕ → Tally → Type 0) (tallies : List Tally) (pass : ℕ) (u : Tally) → F pass u → ((j : ℕ) (t : Tally) → j ≢ pass → get_elem? tallies j ≡ some t → F j t) → All F (set tallies pass u)
all_set F tallies pass u mine others j t e = ⊎_elim (λ (x : (j ≡ pass) × (u ≡ t)). subst (λ (y : ℕ × Tally). F y.0 y.1) (λ i. (sym x.0 i, x.1 i)) mine)
    (λ (x : (j ≢ pass) × (get_elem? tallies j ≡ some t)). others j t x.0 x.1) (at_set tallies pass j u t e)

nothing : (l : List ℕ) → length l ≤ 0 → l ≡ []
nothing [] few = refl
nothing (x ∷ xs) few = absurd (omega arith)

-- what stands in a list with one more at the end
snoc_at : (l : List Tally) (a b : Tally) (j : ℕ) → get_elem? (l ++ a ∷ []) j ≡ some b → (get_elem? l j ≡ some b) ⊎ ((j ≡ length l) × (a ≡ b))
snoc_at [] a b zero e = inr (refl, some-injective a b e)
snoc_at [] a b (suc j) e = absurd (some-ne-none b (sym e))
snoc_at (x ∷ xs) a b zero e = inl e
snoc_at (x ∷ xs) a b (suc j) e = ⊎_elim (λ h. inl h) (λ (h : (j ≡ length xs) × (a ≡ b)). inr (ap suc h.0, h.1)) (snoc_at xs a b j e)

pub begins : Keeps [] (owner 1 ∷ [])
begins = (
  [],
  [],
  refl,
  λ pass t e. ⊎_elim (λ (h : get_elem? [] pass ≡ some t). absurd (some-ne-none t (sym h)))
      (λ (h : (pass ≡ 0) × (owner 1 ≡ t)). subst (λ (y : ℕ × Tally). Fits [] [] 1 y.0 y.1) (λ i. (sym h.0 i, h.1 i)) (refl, refl, (λ _. (refl, refl)), λ _. refl)) (snoc_at [] (owner 1) t pass e),
  λ pass past. refl,
)

-- a step at the place of a pass is one at its number
steps : (pass : ℕ) (t u : Tally) (before after : List ℕ) (tallies : List Tally) → t.number ≡ pass → get_elem? tallies pass ≡ some t → Keeps before tallies → Keeps after (set tallies pass u) → Steps before after t u
steps pass t u before after tallies e at h kept =
    (tallies, subst (λ n. get_elem? tallies n ≡ some t) (sym e) at, h, subst (λ n. Keeps after (set tallies n u)) (sym e) kept)

pub pushes : (pass : ℕ) (t : Tally) (asks : List ℕ) → t.number ≡ 0 → Pushes Keeps pass t asks (Pushed asks t)
unfolding Adds
pushes pass t asks first items tallies h at =
    let mine = h.3 pass t at in
    let zeroth : pass ≡ 0 = sym mine.0 ∙ first in
    let u = pushing asks t in
    let pushed = h.0 ++ asks in
    let long : length (set tallies pass u) ≡ length tallies = length-set tallies pass u in
    let kept : Keeps (items ++ asks) (set tallies pass u) = (
      pushed,
      h.1,
      ap (λ l. l ++ asks) h.2 ∙ append_assoc (asks_of h.1) items asks,
      subst (λ n. All (Fits pushed h.1 n) (set tallies pass u)) (sym long)
          (all_set (Fits pushed h.1 (length tallies)) tallies pass u
          (mine.0, mine.1, (λ o. (ap (λ l. l ++ asks) (mine.2 o).0, (mine.2 o).1)), λ n. absurd (n zeroth))
          (λ j s apart e. let theirs = h.3 j s e in (theirs.0, theirs.1, (λ o. absurd (apart (o ∙ sym zeroth))), theirs.3))),
      λ j past. h.4 j (subst (λ n. n ≤ j) long past),
    ) in
    (u, kept, (refl, (items, steps pass t u items (items ++ asks) tallies mine.0 at h kept)))

pub takes : (pass : ℕ) (t : Tally) → Takes Keeps pass t 1 (λ asks u. Took asks t u)
unfolding Removes
takes pass t asks items tallies _ _ h at =
    let mine = h.3 pass t at in
    let u = taking asks t in
    let takings = h.1 ++ marked pass asks in
    let inside : pass < length tallies = there tallies pass t at in
    let same : (j : ℕ) → j ≢ pass → taken_by j takings ≡ taken_by j h.1 = λ j apart.
    taken_by-append j h.1 (marked pass asks) ∙ ap (λ l. taken_by j h.1 ++ l) (taken_by-others j pass asks (λ e. apart (sym e))) ∙ append-nil (taken_by j h.1) in
    let long : length (set tallies pass u) ≡ length tallies = length-set tallies pass u in
    let kept : Keeps items (set tallies pass u) = (
      h.0,
      takings,
      h.2 ∙ sym (append_assoc (asks_of h.1) asks items) ∙ ap (λ l. l ++ items) (ap (λ l. asks_of h.1 ++ l) (sym (asks_of-marked pass asks)) ∙ sym (map-append (λ (s : Taking). s.1) h.1 (marked pass asks))),
      subst (λ n. All (Fits h.0 takings n) (set tallies pass u)) (sym long)
          (all_set (Fits h.0 takings (length tallies)) tallies pass u
          (mine.0, ap (λ l. l ++ asks) mine.1 ∙ ap (λ l. taken_by pass h.1 ++ l) (sym (taken_by-marked pass asks)) ∙ sym (taken_by-append pass h.1 (marked pass asks)), mine.2, mine.3)
          (λ j s apart e. let theirs = h.3 j s e in (theirs.0, theirs.1 ∙ sym (same j apart), theirs.2, theirs.3))),
      λ j past. let far : length tallies ≤ j = subst (λ n. n ≤ j) long past in same j (λ e. omega arith) ∙ h.4 j far,
    ) in
    (u, kept, (refl, (items, steps pass t u (asks ++ items) items tallies mine.0 at h kept)))

pub finds : (pass : ℕ) (t : Tally) → Finds Keeps pass t (WasEmpty t)
unfolding WasEmpty
finds pass t tallies h at = (tallies, subst (λ n. get_elem? tallies n ≡ some t) (sym (h.3 pass t at).0) at, h)

pub finds_few : (flavor pass : ℕ) (t : Tally) → flavor ≡ 0 → FindsFew Keeps (min flavor 1) pass t (WasEmpty t)
finds_few flavor pass t fifo items tallies few h at =
    let none : items ≡ [] = nothing items (subst (λ n. length items ≤ min n 1) fifo few) in
    finds pass t tallies (subst (λ l. Keeps l tallies) none h) at

pub forks : (pass : ℕ) (t : Tally) → t.number ≡ 0 → Forks Keeps pass t (opening t) (other t.passes)
forks pass t first items tallies h at =
    let mine = h.3 pass t at in
    let zeroth : pass ≡ 0 = sym mine.0 ∙ first in
    let inside : pass < length tallies = there tallies pass t at in
    let u = opening t in
    let right = other t.passes in
    let long : length (set tallies pass u) ≡ length tallies = length-set tallies pass u in
    let longer : length (set tallies pass u ++ right ∷ []) ≡ length tallies + 1 = length-append (set tallies pass u) (right ∷ []) ∙ ap (λ n. n + 1) long in
    let count : t.passes ≡ length tallies = (mine.2 zeroth).1 in
    let old : All (Fits h.0 h.1 (length tallies + 1)) (set tallies pass u) =
    all_set (Fits h.0 h.1 (length tallies + 1)) tallies pass u (mine.0, mine.1, (λ o. ((mine.2 o).0, ap (λ n. n + 1) (mine.2 o).1)), mine.3)
    (λ j s apart e. let theirs = h.3 j s e in (theirs.0, theirs.1, (λ o. absurd (apart (o ∙ sym zeroth))), theirs.3)) in (
      h.0,
      h.1,
      h.2,
      λ j s e. subst (λ n. Fits h.0 h.1 n j s) (sym longer)
          (⊎_elim (λ (x : get_elem? (set tallies pass u) j ≡ some s). old j s x)
          (λ (x : (j ≡ length (set tallies pass u)) × (right ≡ s)).
          let m : j ≡ length tallies = x.0 ∙ long in
          subst (λ (y : Tally). Fits h.0 h.1 (length tallies + 1) j y) x.1
          (count ∙ sym m, sym (h.4 j (omega arith)), (λ o. absurd (omega arith)), λ _. refl))
          (snoc_at (set tallies pass u) right s j e)),
      λ j past. h.4 j (let far : length tallies + 1 ≤ j = subst (λ n. n ≤ j) longer past in omega arith),
    )

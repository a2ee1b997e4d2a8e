-- The asks that the passes took, counted.
use Rattle.std.proofs.Common.{◌≡◌, ◌≢◌, ℕ, zero, suc, ◌+◌, ◌<◌, ◌≤◌, true, false, List, [], ◌∷◌, ◌++◌, length, nat_eq, cond, eqb, sum_by, sym, refl, ap, ◌∙◌, ⊎_elim, arith}
use Rattle.std.proofs.lemmas.Bool.Decides.{nat_tests, eqb_tells}
use Rattle.std.proofs.lemmas.Bool.{cases_lt}
use Rattle.std.proofs.lemmas.List.Sums.{sum_by-cons, sum_by-append}
use mathlib.Core.Option.{some}
use lib.ListN.{get_elem?}
use Rattle.dg_steal.specs.declared.tally.Tally.{Tally}
use Rattle.dg_steal.specs.Rule.{Taking, asks_of, taken_by, times, Keeps}
use Rattle.dg_steal.proofs.Steps.{taken_by-cons}

abbrev once : ℕ → ℕ → ℕ
once ask x = cond (nat_eq x ask) 1 0

times-cons : (ask x : ℕ) (xs : List ℕ) → times ask (x ∷ xs) ≡ once ask x + times ask xs
times-cons ask x xs = sum_by-cons (once ask) x xs

times-append : (ask : ℕ) (xs ys : List ℕ) → times ask (xs ++ ys) ≡ times ask xs + times ask ys
times-append ask xs ys = sum_by-append (once ask) xs ys

-- how often n passes took an ask, from the one with this number on
abbrev taken_times : ℕ → ℕ → ℕ → List Taking → ℕ
taken_times ask first zero ts = 0
taken_times ask first (suc n) ts = times ask (taken_by first ts) + taken_times ask (first + 1) n ts

-- by one pass, whether or not it made the first taking
by_pass : (ask pass : ℕ) (t : Taking) (ts : List Taking) → times ask (taken_by pass (t ∷ ts)) ≡ cond (eqb t.0 pass) (once ask t.1) 0 + times ask (taken_by pass ts)
by_pass ask pass t ts =
    ap (times ask) (taken_by-cons pass t ts)
    ∙ elim (eqb t.0 pass) as (λ b. times ask (cond b (t.1 ∷ taken_by pass ts) (taken_by pass ts)) ≡ cond b (once ask t.1) 0 + times ask (taken_by pass ts)) [ true ↦ times-cons ask t.1 (taken_by pass ts) | false ↦ omega arith ]

-- where the pass of the first taking isn't among them
away : (ask first n : ℕ) (t : Taking) (ts : List Taking) → t.0 < first → taken_times ask first n (t ∷ ts) ≡ taken_times ask first n ts
away ask first zero t ts below = refl
away ask first (suc n) t ts below =
    let here : cond (eqb t.0 first) (once ask t.1) 0 ≡ 0 = grind (arith, nat_tests) in
    omega (arith, by_pass ask first t ts, here, away ask (first + 1) n t ts (omega arith))

-- where it is
among : (ask first n : ℕ) (t : Taking) (ts : List Taking) → first ≤ t.0 → t.0 < first + n → taken_times ask first n (t ∷ ts) ≡ once ask t.1 + taken_times ask first n ts
among ask first zero t ts from below = absurd (omega arith)
among ask first (suc n) t ts from below = ⊎_elim
    (λ (h : (eqb t.0 first ≡ true) × (t.0 ≡ first)).
    let here : cond (eqb t.0 first) (once ask t.1) 0 ≡ once ask t.1 = ap (λ b. cond b (once ask t.1) 0) h.0 in
    let at = h.1 in
    omega (arith, by_pass ask first t ts, here, away ask (first + 1) n t ts (omega arith)))
    (λ (h : (eqb t.0 first ≡ false) × (t.0 ≢ first)).
    let here : cond (eqb t.0 first) (once ask t.1) 0 ≡ 0 = ap (λ b. cond b (once ask t.1) 0) h.0 in
    let apart = h.1 in
    omega (arith, by_pass ask first t ts, here, among ask (first + 1) n t ts (omega arith) (omega arith)))
    (eqb_tells t.0 first)

-- no taking by a pass past the last: none of the first taking, and none of the others
first_within : (n : ℕ) (t : Taking) (ts : List Taking) → ((pass : ℕ) → n ≤ pass → taken_by pass (t ∷ ts) ≡ []) → t.0 < n
first_within n t ts none = ⊎_elim (λ (h : t.0 < n). h)
    (λ (h : n ≤ t.0).
    let same : eqb t.0 t.0 ≡ true = grind (arith, nat_tests) in
    let e : t.1 ∷ taken_by t.0 ts ≡ [] = sym (taken_by-cons t.0 t ts ∙ ap (λ b. cond b (t.1 ∷ taken_by t.0 ts) (taken_by t.0 ts)) same) ∙ none t.0 h in
    absurd (cc))
    (cases_lt t.0 n)

rest_within : (n : ℕ) (t : Taking) (ts : List Taking) → ((pass : ℕ) → n ≤ pass → taken_by pass (t ∷ ts) ≡ []) → (pass : ℕ) → n ≤ pass → taken_by pass ts ≡ []
rest_within n t ts none pass past =
    let within = first_within n t ts none in
    let other : eqb t.0 pass ≡ false = grind (arith, nat_tests) in
    sym (taken_by-cons pass t ts ∙ ap (λ b. cond b (t.1 ∷ taken_by pass ts) (taken_by pass ts)) other) ∙ none pass past

-- each taking is by one of the first n passes
all_taken : (ask n : ℕ) (ts : List Taking) → ((pass : ℕ) → n ≤ pass → taken_by pass ts ≡ []) → taken_times ask 0 n ts ≡ times ask (asks_of ts)
all_taken ask n [] none = nothing_taken 0 n
  where
    nothing_taken : (first m : ℕ) → taken_times ask first m [] ≡ 0
    nothing_taken first zero = refl
    nothing_taken first (suc m) = omega (arith, nothing_taken (first + 1) m)
all_taken ask n (t ∷ ts) none =
    let within = first_within n t ts none in
    omega (arith, among ask 0 n t ts (omega arith) (omega arith), times-cons ask t.1 (asks_of ts), all_taken ask n ts (rest_within n t ts none))

-- the tallies from a number on, each of which knows what it took
tallied : (ask first : ℕ) (tallies : List Tally) (ts : List Taking) → ((k : ℕ) (t : Tally) → get_elem? tallies k ≡ some t → t.taken ≡ taken_by (first + k) ts) → sum_by (λ t. times ask t.taken) tallies ≡ taken_times ask first (length tallies) ts
tallied ask first [] ts knows = refl
tallied ask first (t ∷ us) ts knows =
    let mine : times ask t.taken ≡ times ask (taken_by first ts) = ap (times ask) (knows 0 t refl ∙ ap (λ n. taken_by n ts) (let e : first + 0 ≡ first = omega arith in e)) in
    let theirs = tallied ask (first + 1) us ts (λ k u at. knows (suc k) u at ∙ ap (λ n. taken_by n ts) (let e : first + suc k ≡ (first + 1) + k = omega arith in e)) in
    sum_by-cons (λ (u : Tally). times ask u.taken) t us ∙ omega (arith, mine, theirs)

pub each_once : (items : List ℕ) (tallies : List Tally) (owner : Tally) → Keeps items tallies → get_elem? tallies 0 ≡ some owner
    → (ask : ℕ) → times ask owner.pushed ≡ times ask items + sum_by (λ t. times ask t.taken) tallies
each_once items tallies owner h at ask =
    let pushed = ((h.3 0 owner at).2 refl).0 in
    let taken = tallied ask 0 tallies h.1 (λ k t there. (h.3 k t there).1 ∙ ap (λ n. taken_by n h.1) (let e : k ≡ 0 + k = omega arith in e)) in
    ap (times ask) (pushed ∙ h.2) ∙ omega (arith, times-append ask (asks_of h.1) items, all_taken ask (length tallies) h.1 h.4, taken)

-- All of some runs, as far as they were made.
use Rattle.std.proofs.Common.{◌≡◌, ℕ, zero, suc, ◌+◌, List, [], ◌∷◌, ◌++◌, take, drop, slice_get, Option, Some, None, Result, Ok, Err, Contains, inl, inr, refl, sym, ap, subst, ◌∙◌, append_assoc, append-nil, arith}
use Rattle.std.proofs.lemmas.List.Elements.{Contains-append_left, Contains-append_right, Contains-append_cases}
use Rattle.std.proofs.lemmas.List.{take-append-drop}
use Rattle.std.proofs.lemmas.Option.{none-some, same_Some}
use Rattle.dg_value.specs.declared.value.Failure.{Failure}
use Rattle.dg_value.specs.declared.value.Value.{Value}
use Rattle.dg_eval.specs.Runs.{Asked, Run, first_failure, both, all, asks_of}
use Rattle.dg_requests.specs.declared.stop.Stop.{Stop}
use Rattle.dg_requests.specs.declared.stop.Stop.TheVariants as stop
use Rattle.dg_requests.specs.Scopes.{Scope, AllUsed, Told}
use Rattle.dg_requests.specs.Results.{CanRun, Ran, IsOrLacks, joined}
use Rattle.dg_requests.proofs.RanLemmas.{can_as, can_both_first, can_both_rest, ran_as, told_weaker, told_join, used_join, exactly_join, none_asked}

-- ---- one run more

-- the results of some runs, and of one more
abbrev after_first : {A : Type 0} → Result (List A) Failure → Result A Failure
    → Result (List A) Failure
after_first (Ok vs) (Ok v) = Ok (vs ++ v ∷ [])
after_first (Ok vs) (Err f) = Err f
after_first (Err f) r = Err f

abbrev with_one : {A : Type 0} → Run (List A) → Run A → Run (List A)
with_one None r = None
with_one (Some x) None = None
with_one (Some (a, xs)) (Some (b, ys)) = Some (after_first a b, xs ++ ys)

results_agree : {A : Type 0} (a : Result A Failure) (b : Result (List A) Failure)
    → (c : Result A Failure)
    → first_failure a (after_first b c) ≡ after_first (first_failure a b) c
results_agree (Ok a) (Ok b) (Ok c) = refl
results_agree (Ok a) (Ok b) (Err f) = refl
results_agree (Ok a) (Err f) c = refl
results_agree (Err f) b c = refl

both_with : {A : Type 0} (q : Run A) (o : Run (List A)) (r : Run A)
    → both q (with_one o r) ≡ with_one (both q o) r
both_with None o r = refl
both_with (Some q) None r = refl
both_with (Some q) (Some o) None = refl
both_with (Some (a, xs)) (Some (b, ys)) (Some (c, zs)) =
    λ i. Some (results_agree a b c i, sym (append_assoc xs ys zs) i)

first_alone : {A : Type 0} (r : Run A) → both r (Some (Ok [], [])) ≡ with_one (Some (Ok [], [])) r
first_alone None = refl
first_alone (Some (Ok a, xs)) = ap (λ (l : List Asked). Some (Ok (a ∷ []), l)) (append-nil xs)
first_alone (Some (Err f, xs)) = ap (λ (l : List Asked). Some (Err f, l)) (append-nil xs)

all_with : {A : Type 0} (rs : List (Run A)) (r : Run A)
    → all (rs ++ r ∷ []) ≡ with_one (all rs) r
all_with [] r = first_alone r
all_with (q ∷ rs) r = ap (both q) (all_with rs r) ∙ both_with q (all rs) r

-- ---- what may be run

can_both : {A : Type 0} (s : Scope) (r : Run A) (rs : Run (List A)) → CanRun s r → CanRun s rs
    → CanRun s (both r rs)
can_both s None rs h k = absurd h.may
can_both s (Some r) None h k = absurd k.may
can_both s (Some (r, xs)) (Some (rs, ys)) h k = record {
  may = λ x c. elim (Contains-append_cases xs ys x c) [
    | inl a ↦ h.may x a
    | inr b ↦ k.may x b
  ];
}

-- those in front may be run
pub can_front : {A : Type 0} (s : Scope) (xs ys : List (Run A)) → CanRun s (all (xs ++ ys))
    → CanRun s (all xs)
can_front s [] ys h = record { may = λ x c. absurd (none_asked x c) }
can_front s (r ∷ xs) ys h =
    can_both s r (all xs) (can_both_first s r (all (xs ++ ys)) h)
    (can_front s xs ys (can_both_rest s r (all (xs ++ ys)) h))

-- each of them may be run
pub can_at_index : {A : Type 0} (s : Scope) (rs : List (Run A)) (m : ℕ) (r : Run A)
    → slice_get rs m ≡ Some r → CanRun s (all rs) → CanRun s r
can_at_index s [] m r e h = absurd (none-some r e)
can_at_index s (q ∷ rs) zero r e h =
    can_as s q r (same_Some q r e) (can_both_first s q (all rs) h)
can_at_index s (q ∷ rs) (suc m) r e h =
    can_at_index s rs m r e (can_both_rest s q (all rs) h)

-- ---- what is asked for

asks_both : {A : Type 0} (s : Scope) (r : Run A) (o more : Run (List A))
    → CanRun s (both r more)
    → ((x : Asked) → Contains (asks_of o) x → Contains (asks_of more) x)
    → (x : Asked) → Contains (asks_of (both r o)) x → Contains (asks_of (both r more)) x
asks_both s None o more h f x c = absurd (none_asked x c)
asks_both s (Some r) None more h f x c = absurd (none_asked x c)
asks_both s (Some r) (Some o) None h f x c = absurd h.may
asks_both s (Some (r, xs)) (Some (o, ys)) (Some (more, zs)) h f x c =
    elim (Contains-append_cases xs ys x c) [
      | inl a ↦ Contains-append_left xs zs x a
      | inr b ↦ Contains-append_right xs zs x (f x b)
    ]

asks_front : {A : Type 0} (s : Scope) (xs ys : List (Run A)) → CanRun s (all (xs ++ ys))
    → (x : Asked) → Contains (asks_of (all xs)) x → Contains (asks_of (all (xs ++ ys))) x
asks_front s [] ys h x c = absurd (none_asked x c)
asks_front s (r ∷ xs) ys h x c =
    asks_both s r (all xs) (all (xs ++ ys)) h
    (asks_front s xs ys (can_both_rest s r (all (xs ++ ys)) h)) x c

used_by : {A : Type 0} (s : Scope) (r : Run A) (x y : Option (List Asked)) (result : Result A Stop)
    → Ran s r x y result → Told x y (AllUsed s.doc (asks_of r))
used_by s r x y (Ok a) h = told_weaker _ _ x y (λ m k. k.used) h.asked
used_by s r x y (Err (stop.Failed f)) h = told_weaker _ _ x y (λ m k. k.used) h.asked
used_by s r x y (Err stop.NoMemory) h = h.asked

-- memory lacks after some of the runs
pub ran_lacks : {A : Type 0} (s : Scope) (xs ys : List (Run A)) (x y : Option (List Asked))
    → (result : Result (List A) Stop) → CanRun s (all (xs ++ ys)) → Ran s (all xs) x y result
    → Ran s (all (xs ++ ys)) x y (Err stop.NoMemory)
ran_lacks s xs ys x y result can h = record {
  gave = tt;
  asked = told_weaker (AllUsed s.doc (asks_of (all xs))) (AllUsed s.doc (asks_of (all (xs ++ ys))))
      x y (λ m k z c. (let u = k z c in (
        u.0,
        asks_front s xs ys can u.0 u.1,
        u.2,
      ))) (used_by s (all xs) x y result h);
}

-- ---- what was run

ran_with : (s : Scope) (o : Run (List Value)) (r : Run Value) (x y z : Option (List Asked))
    → (so_far : Result (List Value) Stop) (next : Result Value Stop)
    → CanRun s (with_one o r) → Ran s o x y so_far → Ran s r y z next
    → Ran s (with_one o r) x z (joined so_far next)
ran_with s None r x y z so_far next can h k = absurd can.may
ran_with s (Some o) None x y z so_far next can h k = absurd can.may
ran_with s (Some (a, xs)) (Some (b, ys)) x y z (Ok vs) (Ok v) can h k =
    let e : Some a ≡ Some (Ok vs) = h.gave in
    let f : Some b ≡ Some (Ok v) = k.gave in
    let one : a ≡ Ok vs = same_Some a (Ok vs) e in
    let two : b ≡ Ok v = same_Some b (Ok v) f in
    record {
      gave = λ i. Some (after_first (one i) (two i));
      asked = told_join _ _ _ x y z (exactly_join s.doc xs ys) h.asked k.asked;
    }
ran_with s (Some (a, xs)) (Some (b, ys)) x y z (Ok vs) (Err (stop.Failed g)) can h k =
    let e : Some a ≡ Some (Ok vs) = h.gave in
    let f : Some b ≡ Some (Err g) = k.gave in
    let one : a ≡ Ok vs = same_Some a (Ok vs) e in
    let two : b ≡ Err g = same_Some b (Err g) f in
    record {
      gave = λ i. Some (after_first (one i) (two i));
      asked = told_join _ _ _ x y z (exactly_join s.doc xs ys) h.asked k.asked;
    }
ran_with s (Some (a, xs)) (Some (b, ys)) x y z (Err (stop.Failed g)) (Ok v) can h k =
    let e : Some a ≡ Some (Err g) = h.gave in
    let one : a ≡ Err g = same_Some a (Err g) e in
    record {
      gave = λ i. Some (after_first (one i) b);
      asked = told_join _ _ _ x y z (exactly_join s.doc xs ys) h.asked k.asked;
    }
ran_with s (Some (a, xs)) (Some (b, ys)) x y z (Err (stop.Failed g)) (Err (stop.Failed f)) can h k =
    let e : Some a ≡ Some (Err g) = h.gave in
    let one : a ≡ Err g = same_Some a (Err g) e in
    record {
      gave = λ i. Some (after_first (one i) b);
      asked = told_join _ _ _ x y z (exactly_join s.doc xs ys) h.asked k.asked;
    }
ran_with s (Some (a, xs)) (Some (b, ys)) x y z (Err stop.NoMemory) (Ok v) can h k = record {
  gave = tt;
  asked = told_join _ _ _ x y z (λ m n p q. used_join s.doc xs ys m n p q.used) h.asked k.asked;
}
ran_with s (Some (a, xs)) (Some (b, ys)) x y z (Err stop.NoMemory) (Err (stop.Failed f)) can h k =
    record {
      gave = tt;
      asked = told_join _ _ _ x y z (λ m n p q. used_join s.doc xs ys m n p q.used) h.asked k.asked;
    }
ran_with s (Some (a, xs)) (Some (b, ys)) x y z so_far (Err stop.NoMemory) can h k =
    by_first so_far h
  where
    told : (so_far : Result (List Value) Stop) → Ran s (Some (a, xs)) x y so_far
        → Told x z (AllUsed s.doc (xs ++ ys))
    told so_far h =
        told_join _ _ _ x y z (λ m n p q. used_join s.doc xs ys m n p q)
        (used_by s (Some (a, xs)) x y so_far h) k.asked

    by_first : (so_far : Result (List Value) Stop) → Ran s (Some (a, xs)) x y so_far
        → Ran s (Some (after_first a b, xs ++ ys)) x z (joined so_far (Err stop.NoMemory))
    by_first (Ok vs) h = record { gave = tt; asked = told (Ok vs) h }
    by_first (Err e) h = record { gave = tt; asked = told (Err e) h }

-- a result, or lack of memory in its place
or_lacks : {A : Type 0} (s : Scope) (r : Run A) (x y : Option (List Asked))
    → (wanted result : Result A Stop) → Ran s r x y wanted → IsOrLacks wanted result
    → Ran s r x y result
or_lacks {A} s r x y wanted (Ok a) h e =
    let P : Result A Stop → Type 0 = λ u. Ran s r x y u in subst P (sym e) h
or_lacks {A} s r x y wanted (Err (stop.Failed f)) h e =
    let P : Result A Stop → Type 0 = λ u. Ran s r x y u in subst P (sym e) h
or_lacks s r x y wanted (Err stop.NoMemory) h e =
    record { gave = tt; asked = used_by s r x y wanted h }

-- some runs were made, and one more
pub ran_next : (s : Scope) (rs : List (Run Value)) (r : Run Value) (x y z : Option (List Asked))
    → (so_far result : Result (List Value) Stop) (next : Result Value Stop)
    → CanRun s (all (rs ++ r ∷ [])) → Ran s (all rs) x y so_far → Ran s r y z next
    → IsOrLacks (joined so_far next) result → Ran s (all (rs ++ r ∷ [])) x z result
ran_next s rs r x y z so_far result next can h k is =
    ran_as s (with_one (all rs) r) (all (rs ++ r ∷ [])) x z result (sym (all_with rs r))
    (or_lacks s (with_one (all rs) r) x z (joined so_far next) result
    (ran_with s (all rs) r x y z so_far next
    (can_as s (all (rs ++ r ∷ [])) (with_one (all rs) r) (all_with rs r) can) h k) is)

-- ---- as far as an index

taken_suc : {A : Type 0} (rs : List A) (m : ℕ) (r : A) → slice_get rs m ≡ Some r
    → take (suc m) rs ≡ take m rs ++ r ∷ []
taken_suc [] m r e = absurd (none-some r e)
taken_suc (q ∷ rs) zero r e = ap (λ u. u ∷ []) (same_Some q r e)
taken_suc (q ∷ rs) (suc m) r e = ap (λ l. q ∷ l) (taken_suc rs m r e)

taken_next : {A : Type 0} (rs : List A) (m : ℕ) (r : A) → slice_get rs m ≡ Some r
    → take (m + 1) rs ≡ take m rs ++ r ∷ []
taken_next rs m r e =
    let one : m + 1 ≡ suc m = omega arith in
    ap (λ k. take k rs) one ∙ taken_suc rs m r e

pub can_taken : {A : Type 0} (s : Scope) (rs : List (Run A)) (m : ℕ) → CanRun s (all rs)
    → CanRun s (all (take m rs))
can_taken s rs m h =
    can_front s (take m rs) (drop m rs)
    (can_as s (all rs) _ (ap all (sym (take-append-drop m rs))) h)

-- one run more, at this index
pub ran_at_index : (s : Scope) (rs : List (Run Value)) (m : ℕ) (r : Run Value)
    → (x y z : Option (List Asked)) (so_far result : Result (List Value) Stop)
    → (next : Result Value Stop) → slice_get rs m ≡ Some r → CanRun s (all rs)
    → Ran s (all (take m rs)) x y so_far → Ran s r y z next
    → IsOrLacks (joined so_far next) result → Ran s (all (take (m + 1) rs)) x z result
ran_at_index s rs m r x y z so_far result next e can h k is =
    let to = taken_next rs m r e in
    ran_as s (all (take m rs ++ r ∷ [])) (all (take (m + 1) rs)) x z result (ap all (sym to))
    (ran_next s (take m rs) r x y z so_far result next
    (can_as s (all (take (m + 1) rs)) _ (ap all to) (can_taken s rs (m + 1) can)) h k is)

-- memory lacks at an index
pub ran_lacks_at : {A : Type 0} (s : Scope) (rs : List (Run A)) (m : ℕ) (x y : Option (List Asked))
    → (result : Result (List A) Stop) → CanRun s (all rs) → Ran s (all (take m rs)) x y result
    → Ran s (all rs) x y (Err stop.NoMemory)
ran_lacks_at s rs m x y result can h =
    let whole = take-append-drop m rs in
    ran_as s (all (take m rs ++ drop m rs)) (all rs) x y (Err stop.NoMemory) (ap all whole)
    (ran_lacks s (take m rs) (drop m rs) x y result
    (can_as s (all rs) _ (ap all (sym whole)) can) h)

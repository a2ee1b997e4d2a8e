-- What is packed comes back, and two packed places are equal where the places are.
use Rattle.std.proofs.Common.{◌≡◌, ◌<◌, ◌≤◌, ℕ, ◌+◌, ◌-◌, Bool, true, false, ◌&&◌, nat_lt, if◌then◌else◌, List, [], ◌∷◌, ◌++◌, refl, sym, ap, ◌∙◌, arith}
use Rattle.std.specs.Cmp.{first_so, second_so}
use Rattle.std.proofs.lemmas.Bool.{lt-ltb, le-ltb, ltb-true}
use Rattle.std.proofs.lemmas.Slice.Eq.{bytes_eq-Decides}
use Rattle.dg_value.proofs.PlaceLemmas.{places_tell_equal}
use Rattle.dg_value.specs.contracts.place.PlaceRootPartialEq.TheImpl as of_roots
use Rattle.dg_value.specs.declared.place.Place.{Place}
use Rattle.dg_value.specs.declared.place.PlaceRoot.{PlaceRoot}
use Rattle.dg_value.specs.declared.place.PlaceRoot.TheVariants as root
use Rattle.dg_value.specs.declared.place.PlaceStep.{PlaceStep}
use Rattle.dg_value.specs.declared.place.PlaceStep.TheVariants as step
use Rattle.dg_value.specs.Places.{same_root, same_place, at_root}
use Rattle.dg_report.specs.Packed.{number, step_code, untold, codes_of, numbers_of, told, step_of, left_of, all_steps, steps_of, codes_in, numbers_in, packed_eq, packed_equiv}

-- ---- a step comes back

less : (a b : ℕ) → a < b → nat_lt a b ≡ true
less a b lt = lt-ltb a b lt

not_less : (a b : ℕ) → b ≤ a → nat_lt a b ≡ false
not_less a b le = le-ltb a b le

told_arg : (n : ℕ) → n < 32 → told (0 + n) ≡ step.Arg n
told_arg n lt =
    let plus : 0 + n ≡ n = omega arith in
    rw (less (0 + n) 32 (omega (arith, lt))) (ap step.Arg plus)

told_new : (n : ℕ) → n < 32 → told (32 + n) ≡ step.New n
told_new n lt =
    let minus : 32 + n - 32 ≡ n = omega arith in
    rw (not_less (32 + n) 32 (omega (arith, lt))) (rw (less (32 + n) 64 (omega (arith, lt)))
    (ap step.New minus))

told_call : (n : ℕ) → n < 32 → told (64 + n) ≡ step.Call n
told_call n lt =
    let minus : 64 + n - 64 ≡ n = omega arith in
    rw (not_less (64 + n) 32 (omega (arith, lt))) (rw (not_less (64 + n) 64 (omega (arith, lt)))
    (rw (less (64 + n) 96 (omega (arith, lt))) (ap step.Call minus)))

told_elem : (n : ℕ) → n < 32 → told (96 + n) ≡ step.Elem n
told_elem n lt =
    let minus : 96 + n - 96 ≡ n = omega arith in
    rw (not_less (96 + n) 32 (omega (arith, lt))) (rw (not_less (96 + n) 64 (omega (arith, lt)))
    (rw (not_less (96 + n) 96 (omega (arith, lt))) (rw (less (96 + n) 128 (omega (arith, lt)))
    (ap step.Elem minus))))

told_step : (n : ℕ) → n < 32 → told (128 + n) ≡ step.Step n
told_step n lt =
    let minus : 128 + n - 128 ≡ n = omega arith in
    rw (not_less (128 + n) 32 (omega (arith, lt))) (rw (not_less (128 + n) 64 (omega (arith, lt)))
    (rw (not_less (128 + n) 96 (omega (arith, lt))) (rw (not_less (128 + n) 128 (omega (arith, lt)))
    (rw (less (128 + n) 160 (omega (arith, lt))) (ap step.Step minus)))))

-- a step whose code is first + n, where n is less than 32, and else the other code
back : (first other n : ℕ) (make : ℕ → PlaceStep) (ns : List ℕ) → first ≤ 128
    → (n < 32 → told (first + n) ≡ make n)
    → ((m : ℕ) (ms : List ℕ) → step_of other (m ∷ ms) ≡ make m)
    → ((m : ℕ) (ms : List ℕ) → left_of other (m ∷ ms) ≡ ms)
    → (step_of (if nat_lt n 32 then first + n else other) (untold n ++ ns) ≡ make n)
    × (left_of (if nat_lt n 32 then first + n else other) (untold n ++ ns) ≡ ns)
back first other n make ns within small large left = by (nat_lt n 32) refl
  where
    by : (b : Bool) → nat_lt n 32 ≡ b
        → (step_of (if nat_lt n 32 then first + n else other) (untold n ++ ns) ≡ make n)
        × (left_of (if nat_lt n 32 then first + n else other) (untold n ++ ns) ≡ ns)
    by true e =
        let lt : n < 32 = ltb-true n 32 e in
        let tells : nat_lt (first + n) 192 ≡ true =
        less (first + n) 192 (omega (arith, lt, within)) in
        rw e (rw tells (small lt, refl))
    by false e = rw e (large n ns, left n ns)

comes_back : (s : PlaceStep) (ns : List ℕ)
    → (step_of (step_code s) (untold (number s) ++ ns) ≡ s)
    × (left_of (step_code s) (untold (number s) ++ ns) ≡ ns)
comes_back (step.Arg n) ns =
    back 0 192 n step.Arg ns (omega arith) (told_arg n) (λ m ms. refl) (λ m ms. refl)
comes_back (step.New n) ns =
    back 32 193 n step.New ns (omega arith) (told_new n) (λ m ms. refl) (λ m ms. refl)
comes_back (step.Call n) ns =
    back 64 194 n step.Call ns (omega arith) (told_call n) (λ m ms. refl) (λ m ms. refl)
comes_back (step.Elem n) ns =
    back 96 195 n step.Elem ns (omega arith) (told_elem n) (λ m ms. refl) (λ m ms. refl)
comes_back (step.Step n) ns =
    back 128 196 n step.Step ns (omega arith) (told_step n) (λ m ms. refl) (λ m ms. refl)
comes_back step.Inside ns = (refl, refl)

pub unpacks : (ss : List PlaceStep) → steps_of (codes_of ss) (numbers_of ss) ≡ ss
unfolding steps_of codes_of numbers_of
unpacks [] = refl
unpacks (s ∷ ss) =
    let first = comes_back s (numbers_of ss) in
    (λ i. first.0 i ∷ all_steps (codes_of ss) (first.1 i))
    ∙ ap (λ (l : List PlaceStep). s ∷ l) (unpacks ss)

pub steps_packed : (cs ns : List ℕ) (ss : List PlaceStep) → cs ≡ codes_of ss
    → ns ≡ numbers_of ss → steps_of cs ns ≡ ss
steps_packed cs ns ss codes numbers = (λ i. steps_of (codes i) (numbers i)) ∙ unpacks ss

pub packed_right : (cs ns : List ℕ) (ss : List PlaceStep) → cs ≡ codes_of ss
    → ns ≡ numbers_of ss → (cs ≡ codes_of (steps_of cs ns)) × (ns ≡ numbers_of (steps_of cs ns))
packed_right cs ns ss codes numbers =
    let steps = sym (steps_packed cs ns ss codes numbers) in
    (codes ∙ ap codes_of steps, numbers ∙ ap numbers_of steps)

-- ---- the tests

both : (a b : Bool) → a ≡ true → b ≡ true → (a && b) ≡ true
both a b e f = ap (λ x. x && b) e ∙ f

roots_same : (a b : PlaceRoot) → of_roots.ghosts.eq a b ≡ same_root a b
roots_same (root.Ask n) (root.Ask m) = refl
roots_same (root.Cell i k) (root.Cell j l) = refl
roots_same (root.Arg i a) (root.Arg j b) = refl
roots_same r s = refl

roots_equal : (a b : PlaceRoot) → of_roots.ghosts.eq a b ≡ true → a ≡ b
unfolding same_place
roots_equal a b e =
    ap (λ (p : Place). p.root)
    ((places_tell_equal (at_root a) (at_root b)).0
    (both (same_root a b) true (sym (roots_same a b) ∙ e) refl))

packed_equal : (p q : Place) → packed_eq p q ≡ true → p ≡ q
packed_equal p q e =
    let more = second_so _ _ e in
    let roots = roots_equal p.root q.root (first_so _ _ e) in
    let codes = (bytes_eq-Decides (codes_in p) (codes_in q)).0 (first_so _ _ more) in
    let numbers = (bytes_eq-Decides (numbers_in p) (numbers_in q)).0 (second_so _ _ more) in
    let steps : p.steps ≡ q.steps =
    sym (unpacks p.steps) ∙ (λ i. steps_of (codes i) (numbers i)) ∙ unpacks q.steps in
    λ i. record { root = roots i; steps = steps i }

pub packed_same : (p q : Place) → packed_eq p q ≡ same_place p q
packed_same p q = by (packed_eq p q) (same_place p q) refl refl
  where
    by : (a b : Bool) → packed_eq p q ≡ a → same_place p q ≡ b → a ≡ b
    by true true e f = refl
    by false false e f = refl
    by true false e f =
        sym ((places_tell_equal p q).1 (packed_equal p q e)) ∙ f
    by false true e f =
        sym e ∙ ap (λ (x : Place). packed_eq p x) (sym ((places_tell_equal p q).0 f))
        ∙ packed_equiv.refl p

-- Lists in which each element stands once.
use Rattle.std.proofs.Common.{◌≡◌, inl, inr, ℕ, zero, suc, ◌+◌, ◌≤◌, Bool, true, false, cond, List, [], ◌∷◌, ◌++◌, map, filter, filter_map, flat_map, Contains, Option, Some, None, option_to_list, refl, sym, ap, subst, ◌∙◌, arith}
use Rattle.std.specs.List.{IsDistinct, AllByRecursion, cons_option, range_with_len, enumerate_from}
use Rattle.std.proofs.lemmas.List.Elements.{Contains-append_cases}
use Rattle.dg_decl.proofs.NodeWalks.{Decides, in_rest}
use Rattle.dg_decl.proofs.MemberLemmas.{none_in, in_front, first_or_rest, out_map, out_filter, out_filter_map, out_flat_map}

-- no element stands in the list a second time
abbrev pub Once : {A : Type 0} → List A → Type 0
Once [] = Unit {0}
Once (x ∷ xs) = (Contains xs x → ⊥) × Once xs

pub once_one : {A : Type 0} (x : A) → Once (x ∷ [])
once_one x = (λ c. none_in x c, tt)

pub once_option : {A : Type 0} (o : Option A) → Once (option_to_list o)
once_option None = tt
once_option (Some x) = once_one x

pub once_if : {A : Type 0} (b : Bool) (xs : List A) → Once xs → Once (cond b xs [])
once_if true xs a = a
once_if false xs a = tt

pub once_append : {A : Type 0} (xs ys : List A) → Once xs → Once ys
    → ((x : A) → Contains xs x → Contains ys x → ⊥) → Once (xs ++ ys)
once_append [] ys a b apart = b
once_append (x ∷ xs) ys a b apart = (
  λ c. elim (Contains-append_cases xs ys x c) [
    | inl l ↦ a.0 l
    | inr r ↦ apart x (in_front x xs) r
  ],
  once_append xs ys a.1 b (λ z l r. apart z (in_rest z x xs l) r),
)

once_kept : {A : Type 0} (b : Bool) (x : A) (xs : List A) → (Contains xs x → ⊥) → Once xs
    → Once (cond b (x ∷ xs) xs)
once_kept true x xs new a = (new, a)
once_kept false x xs new a = a

pub once_filter : {A : Type 0} (p : A → Bool) (xs : List A) → Once xs → Once (filter p xs)
once_filter p [] a = tt
once_filter p (x ∷ xs) a = once_kept (p x) x (filter p xs) (λ c. a.0 (out_filter p xs x c).0)
    (once_filter p xs a.1)

-- a function that gives each of a list a value of its own
abbrev pub TellsApart : {A B : Type 0} → (A → B) → List A → Type 0
TellsApart {A} f xs = (x z : A) → Contains xs x → Contains xs z → f x ≡ f z → x ≡ z

pub once_map : {A B : Type 0} (f : A → B) (xs : List A) → Once xs → TellsApart f xs
    → Once (map f xs)
once_map f [] a apart = tt
once_map {A} f (x ∷ xs) a apart = (
  λ c. (let o = out_map f xs (f x) c in
      let P : A → Type 0 = Contains xs in
      a.0 (subst P (apart o.0 x (in_rest o.0 x xs o.1) (in_front x xs) o.2) o.1)),
  once_map f xs a.1 (λ y z c d e. apart y z (in_rest y x xs c) (in_rest z x xs d) e),
)

pub once_flat_map : {A B : Type 0} (f : A → List B) (xs : List A) → Once xs
    → ((x : A) → Contains xs x → Once (f x))
    → ((x z : A) (y : B) → Contains xs x → Contains xs z → Contains (f x) y → Contains (f z) y → x
    ≡ z) → Once (flat_map f xs)
once_flat_map f [] a each apart = tt
once_flat_map {A} f (x ∷ xs) a each apart =
    once_append (f x) (flat_map f xs) (each x (in_front x xs))
    (once_flat_map f xs a.1 (λ z c. each z (in_rest z x xs c)) (λ w z y c d. apart w z y (in_rest w
    x xs c) (in_rest z x xs d)))
    (λ y l r. (let o = out_flat_map f xs y r in
    let P : A → Type 0 = Contains xs in
    a.0 (subst P (sym (apart x o.0 y (in_front x xs) (in_rest o.0 x xs o.1) l o.2)) o.1)))

once_given : {B : Type 0} (o : Option B) (ys : List B)
    → ((y : B) → o ≡ Some y → Contains ys y → ⊥) → Once ys → Once (cons_option o ys)
once_given None ys new a = a
once_given (Some y) ys new a = (λ c. new y refl c, a)

pub once_filter_map : {A B : Type 0} (f : A → Option B) (xs : List A) → Once xs
    → ((x z : A) (y : B) → Contains xs x → Contains xs z → f x ≡ Some y → f z ≡ Some y → x ≡ z)
    → Once (filter_map f xs)
once_filter_map f [] a apart = tt
once_filter_map {A} f (x ∷ xs) a apart =
    once_given (f x) (filter_map f xs)
    (λ y e c. (let o = out_filter_map f xs y c in
    let P : A → Type 0 = Contains xs in
    a.0 (subst P (sym (apart x o.0 y (in_front x xs) (in_rest o.0 x xs o.1) e o.2)) o.1)))
    (once_filter_map f xs a.1 (λ w z y c d. apart w z y (in_rest w x xs c) (in_rest z x xs d)))

-- ---- numbers in order

range_from : (a n c : ℕ) → Contains (range_with_len a n) c → a ≤ c
range_from a zero c h = absurd (none_in c h)
range_from a (suc n) c h =
    elim (first_or_rest c a (range_with_len (a + 1) n) h) [
      | inl e ↦ (let same : a ≡ c = e in omega arith)
      | inr r ↦ (let le : a + 1 ≤ c = range_from (a + 1) n c r in omega arith)
    ]

pub once_range : (a n : ℕ) → Once (range_with_len a n)
once_range a zero = tt
once_range a (suc n) = (
  λ c. (let le : a + 1 ≤ a = range_from (a + 1) n a c in absurd
      (omega arith)),
  once_range (a + 1) n,
)

numbered_from : {A : Type 0} (k : ℕ) (xs : List A) (p : ℕ × A) → Contains (enumerate_from k xs) p
    → k ≤ p.0
numbered_from k [] p c = absurd (none_in p c)
numbered_from {A} k (x ∷ xs) p c =
    elim (first_or_rest p (k, x) (enumerate_from (k + 1) xs) c) [
      | inl e ↦ (let same : k ≡ p.0 = ap (λ (q : ℕ × A). q.0) e in omega arith)
      | inr r ↦ (let le : k + 1 ≤ p.0 = numbered_from (k + 1) xs p r in omega arith)
    ]

-- the numbers of a numbered list tell its elements apart
pub numbers_tell : {A : Type 0} (k : ℕ) (xs : List A) (p q : ℕ × A)
    → Contains (enumerate_from k xs) p → Contains (enumerate_from k xs) q → p.0 ≡ q.0 → p ≡ q
numbers_tell k [] p q c d e = absurd (none_in p c)
numbers_tell {A} k (x ∷ xs) p q c d e =
    elim (first_or_rest p (k, x) (enumerate_from (k + 1) xs) c) [
      | inl pe ↦ elim (first_or_rest q (k, x) (enumerate_from (k + 1) xs) d) [
        | inl qe ↦ sym pe ∙ qe
        | inr qr ↦ absurd (let le : k + 1 ≤ q.0 = numbered_from (k + 1) xs q qr in
            let same : k ≡ p.0 = ap (λ (q : ℕ × A). q.0) pe in let both : p.0 ≡ q.0 = e in omega
            arith)
      ]
      | inr pr ↦ elim (first_or_rest q (k, x) (enumerate_from (k + 1) xs) d) [
        | inl qe ↦ absurd (let le : k + 1 ≤ p.0 = numbered_from (k + 1) xs p pr in
            let same : k ≡ q.0 = ap (λ (q : ℕ × A). q.0) qe in let both : p.0 ≡ q.0 = e in omega
            arith)
        | inr qr ↦ numbers_tell (k + 1) xs p q pr qr e
      ]
    ]

pub once_numbered : {A : Type 0} (k : ℕ) (xs : List A) → Once (enumerate_from k xs)
once_numbered k [] = tt
once_numbered k (x ∷ xs) = (
  λ c. (let le : k + 1 ≤ k = numbered_from (k + 1) xs (k, x) c in absurd (omega arith)),
  once_numbered (k + 1) xs,
)

-- ---- distinct by a test

not_true : (b : Bool) → (b ≡ true → ⊥) → b ≡ false
not_true true h = absurd (h refl)
not_true false h = refl

others_differ : {A : Type 0} (same : A → A → Bool) → Decides same → (x : A) (xs : List A)
    → (Contains xs x → ⊥) → AllByRecursion (λ y. same x y ≡ false) xs
others_differ same law x [] new = tt
others_differ same law x (y ∷ ys) new = (
  not_true (same x y) (λ h. new (0, omega arith, sym ((law x y).0 h))),
  others_differ same law x ys (λ c. new (in_rest x y ys c)),
)

pub distinct_from_once : {A : Type 0} (same : A → A → Bool) → Decides same → (xs : List A)
    → Once xs → IsDistinct same xs
unfolding IsDistinct
distinct_from_once same law [] a = tt
distinct_from_once same law (x ∷ xs) a = (
  others_differ same law x xs a.0,
  distinct_from_once same
      law xs a.1,
)

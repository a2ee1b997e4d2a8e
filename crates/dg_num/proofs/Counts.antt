use Rattle.std.proofs.Common.{◌≡◌, ◌==◌, ◌+◌, ◌<◌, ◌≤◌, ◌++◌, ◌∷◌, [], ℕ, zero, suc, Bool, true}
use Rattle.std.proofs.Common.{false, cond, eqb, List, length, get_or, set, take, Contains, count_by}
use Rattle.std.proofs.Common.{refl, sym, ap, ◌∙◌, subst, ⊎_elim, arith}
use Rattle.std.proofs.lemmas.Bool.{cases_eq, cases_lt, cases_Bool, cond-true, cond-false, eq-eqb}
use Rattle.std.proofs.lemmas.Bool.{ne_eqb, eqb-true}
use Rattle.std.proofs.lemmas.List.{get_or-set_same, get_or-set_other, get_or-take, get_or_default}
use Rattle.std.proofs.lemmas.List.{length-take, length-take-le}
use Rattle.std.proofs.lemmas.List.Elements.{Contains-append_right}
use Rattle.std.proofs.lemmas.List.Sums.{sum_by_push, sum_by_more, sum_by-cons, sum_by-set}
use Rattle.std.proofs.lemmas.List.Sums.{sum_by-take-le, get_or-le-sum_by}
use Rattle.dg_num.specs.Counts.{count_of, one_at_zero}

-- 1 where a test holds
abbrev pub one_if : Bool → ℕ
one_if b = cond b 1 0

at_same : (x y : ℕ) → x ≡ y → one_if (eqb x y) ≡ 1
at_same x y e = cond-true {A = ℕ} (eqb x y) 1 0 (eq-eqb x y e)

at_other : (x y : ℕ) → (x ≡ y → ⊥) → one_if (eqb x y) ≡ 0
at_other x y ne = cond-false {A = ℕ} (eqb x y) 1 0 (ne_eqb x y ne)

pub count_of-push_same : (xs : List ℕ) (x y : ℕ) → x ≡ y
    → count_of (xs ++ x ∷ []) y ≡ count_of xs y + 1
count_of-push_same xs x y e = omega (
  arith,
  sum_by_push (λ other. cond (eqb other y) 1 0) xs x,
  at_same x y e,
)

pub count_of-push_other : (xs : List ℕ) (x y : ℕ) → (x ≡ y → ⊥)
    → count_of (xs ++ x ∷ []) y ≡ count_of xs y
count_of-push_other xs x y ne = omega (
  arith,
  sum_by_push (λ other. cond (eqb other y) 1 0) xs x,
  at_other x y ne,
)

pub count_of_more_same : (xs : List ℕ) (i y : ℕ) → i < length xs → get_or xs i 0 ≡ y
    → count_of (take (i + 1) xs) y ≡ count_of (take i xs) y + 1
count_of_more_same xs i y lt e = omega (
  arith,
  sum_by_more (λ other. cond (eqb other y) 1 0) xs i 0 lt,
  at_same (get_or xs i 0) y e,
)

pub count_of_more_other : (xs : List ℕ) (i y : ℕ) → i < length xs → (get_or xs i 0 ≡ y → ⊥)
    → count_of (take (i + 1) xs) y ≡ count_of (take i xs) y
count_of_more_other xs i y lt ne = omega (
  arith,
  sum_by_more (λ other. cond (eqb other y) 1 0) xs i 0 lt,
  at_other (get_or xs i 0) y ne,
)

pub count_of-take-le : (xs : List ℕ) (i y : ℕ) → count_of (take i xs) y ≤ count_of xs y
count_of-take-le xs i y = sum_by-take-le (λ other. cond (eqb other y) 1 0) xs i

-- what stands in a row counts there
pub count_of_contained : (xs : List ℕ) (x : ℕ) → Contains xs x → 1 ≤ count_of xs x
count_of_contained xs x has = omega (
  arith,
  get_or-le-sum_by (λ other. cond (eqb other x) 1 0) xs has.0 x has.1,
  at_same (get_or xs has.0 x) x has.2,
)

-- what counts stands in the row
pub contained_from_count_by : (p : ℕ → Bool) (xs : List ℕ) → 1 ≤ count_by p xs
    → (x : ℕ) × Contains xs x × (p x ≡ true)
contained_from_count_by p [] h = absurd (omega arith)
contained_from_count_by p (x ∷ xs) h =
    ⊎_elim
    (λ (yes : p x ≡ true). (x, (0, omega arith, refl), yes))
    (λ (no : p x ≡ false).
    let rest = contained_from_count_by p xs (omega
    (arith, h, sum_by-cons (λ y. cond (p y) 1 0) x xs, cond-false {A = ℕ} (p x) 1 0 no)) in
    (rest.0, Contains-append_right (x ∷ []) xs rest.0 rest.1, rest.2))
    (cases_Bool (p x))

pub contained_from_count_of : (xs : List ℕ) (x : ℕ) → 1 ≤ count_of xs x → Contains xs x
contained_from_count_of xs x h =
    let found = contained_from_count_by (λ other. eqb other x) xs h in
    let P : ℕ → Type 0 = λ y. Contains xs y in
    subst P (eqb-true found.0 x found.2) found.1

pub count_by_all : (p : ℕ → Bool) → ((x : ℕ) → p x ≡ true) → (xs : List ℕ)
    → count_by p xs ≡ length xs
count_by_all p all [] = refl
count_by_all p all (x ∷ xs) = omega (
  arith,
  sum_by-cons (λ y. cond (p y) 1 0) x xs,
  cond-true {A = ℕ} (p x) 1 0 (all x),
  count_by_all p all xs,
)

-- a number other than 0 where 0 was: the places in the row that lead to a 0 are fewer by those that
-- lead to it
pub count_by-zero-set : (ranks : List ℕ) (node rank : ℕ) → node < length ranks
    → get_or ranks node 0 ≡ 0 → 1 ≤ rank → (row : List ℕ)
    → count_by (λ other. get_or (set ranks node rank) other 0 == 0) row + count_of row node
    ≡ count_by (λ other. get_or ranks other 0 == 0) row
count_by-zero-set ranks node rank lt was pos [] = refl
count_by-zero-set ranks node rank lt was pos (x ∷ row) =
    let more = count_by-zero-set ranks node rank lt was pos row in
    let new = sum_by-cons (λ other. cond (eqb (get_or (set ranks node rank) other 0) 0) 1 0) x row
    in
    let old = sum_by-cons (λ other. cond (eqb (get_or ranks other 0) 0) 1 0) x row in
    let here = sum_by-cons (λ other. cond (eqb other node) 1 0) x row in
    ⊎_elim
    (λ (e : x ≡ node).
    let was' : get_or ranks x 0 ≡ 0 = ap (λ y. get_or ranks y 0) e ∙ was in
    let is : get_or (set ranks node rank) x 0 ≡ rank =
    ap (λ y. get_or (set ranks node rank) y 0) e ∙ get_or-set_same ranks node rank 0 lt in
    omega (
      arith,
      more,
      new,
      old,
      here,
      at_same x node e,
      at_same (get_or ranks x 0) 0 was',
      at_other (get_or (set ranks node rank) x 0) 0 (λ z. absurd (omega arith)),
    ))
    (λ (ne : x ≡ node → ⊥).
    let same : one_if (eqb (get_or (set ranks node rank) x 0) 0)
    ≡ one_if (eqb (get_or ranks x 0) 0) =
    ap (λ y. one_if (eqb y 0)) (get_or-set_other ranks node x rank 0 ne) in
    omega (arith, more, new, old, here, same, at_other x node ne))
    (cases_eq x node)

pub one_at_zero_of_zero : (n : ℕ) → n ≡ 0 → one_at_zero n ≡ 1
one_at_zero_of_zero zero e = refl
one_at_zero_of_zero (suc n) e = absurd (omega arith)

pub one_at_zero_of_more : (n : ℕ) → 1 ≤ n → one_at_zero n ≡ 0
one_at_zero_of_more zero h = absurd (omega arith)
one_at_zero_of_more (suc n) h = refl

pub one_at_zero-le : (n : ℕ) → one_at_zero n ≤ 1
one_at_zero-le zero = omega arith
one_at_zero-le (suc n) = omega arith

pub zero_from_one : (n : ℕ) → 1 ≤ one_at_zero n → n ≡ 0
zero_from_one zero h = refl
zero_from_one (suc n) h = absurd (omega arith)

pub more_from_none : (n : ℕ) → one_at_zero n ≡ 0 → 1 ≤ n
more_from_none zero h = absurd (omega arith)
more_from_none (suc n) h = omega arith

-- what stands in a row in which nothing passes the test fails it
pub fails_from_none : (p : ℕ → Bool) (xs : List ℕ) → count_by p xs ≡ 0 → (x : ℕ) → Contains xs x
    → p x ≡ false
fails_from_none p xs none x has =
    ⊎_elim
    (λ (yes : p x ≡ true).
    let le : one_if (p (get_or xs has.0 x)) ≤ count_by p xs =
    get_or-le-sum_by (λ y. one_if (p y)) xs has.0 x has.1 in
    let is : one_if (p (get_or xs has.0 x)) ≡ 1 =
    cond-true {A = ℕ} (p (get_or xs has.0 x)) 1 0 (ap p has.2 ∙ yes) in
    absurd (omega arith))
    (λ (no : p x ≡ false). no)
    (cases_Bool (p x))

-- one number other than 0 more in a list is a 0 less
pub count_by-zero-list : (xs : List ℕ) (i x : ℕ) → i < length xs → get_or xs i 0 ≡ 0 → 1 ≤ x
    → count_by (λ y. y == 0) (set xs i x) + 1 ≡ count_by (λ y. y == 0) xs
count_by-zero-list xs i x lt was pos = omega (
  arith,
  sum_by-set (λ y. one_if (eqb y 0)) xs i x 0 lt,
  at_same (get_or xs i 0) 0 was,
  at_other x 0 (λ e. absurd (omega arith)),
)

-- a number that stands in a row once stands in one place
pub one_place : (xs : List ℕ) (x i j : ℕ) → count_of xs x ≡ 1 → i < length xs → j < length xs
    → get_or xs i 0 ≡ x → get_or xs j 0 ≡ x → i ≡ j
one_place xs x i j one li lj ei ej =
    ⊎_elim
    (λ (lt : i < j). absurd (two xs x i j one li lj ei ej lt))
    (λ (le : j ≤ i). ⊎_elim (λ (lt : j < i). absurd (two xs x j i one lj li ej ei lt))
    (λ (ge : i ≤ j). omega arith) (cases_lt j i))
    (cases_lt i j)
  where
    two : (xs : List ℕ) (x i j : ℕ) → count_of xs x ≡ 1 → i < length xs → j < length xs
        → get_or xs i 0 ≡ x → get_or xs j 0 ≡ x → i < j → ⊥
    two xs x i j one li lj ei ej lt =
        let before : get_or (take j xs) i x ≡ x =
        get_or-take j xs i x lt ∙ get_or_default xs i x 0 li ∙ ei in
        let has : Contains (take j xs) x =
        (i, omega (arith, length-take-le j xs (omega (arith, lj))), before) in
        omega (
          arith,
          one,
          count_of_contained (take j xs) x has,
          count_of_more_same xs j x lj ej,
          count_of-take-le xs (j + 1) x,
        )

-- what stands in the front of a row stands in the row, at a place in the front
pub place_in_front : (xs : List ℕ) (n x : ℕ) → Contains (take n xs) x
    → (k : ℕ) × (k < n) × (k < length xs) × (get_or xs k 0 ≡ x)
place_in_front xs n x has =
    let k = has.0 in
    let bounds = length-take n xs in
    let in_front : k < n = omega (arith, has.1, bounds) in
    let within : k < length xs = omega (arith, has.1, bounds) in (
      k,
      in_front,
      within,
      get_or_default xs k 0 x within ∙ sym (get_or-take n xs k x in_front)
          ∙ has.2,
    )

pub contained_in_front : (xs : List ℕ) (n k x : ℕ) → k < n → k < length xs → get_or xs k 0 ≡ x
    → Contains (take n xs) x
contained_in_front xs n k x lt within is = (
  k,
  omega (arith, length-take n xs),
  get_or-take n xs k x lt ∙ get_or_default xs k x 0 within ∙ is,
)

pub place_of : (xs : List ℕ) (x : ℕ) → Contains xs x
    → (k : ℕ) × (k < length xs) × (get_or xs k 0 ≡ x)
place_of xs x has = (has.0, has.1, get_or_default xs has.0 0 x has.1 ∙ has.2)

pub contained_at : (xs : List ℕ) (k x : ℕ) → k < length xs → get_or xs k 0 ≡ x → Contains xs x
contained_at xs k x lt is = (k, lt, get_or_default xs k x 0 lt ∙ is)

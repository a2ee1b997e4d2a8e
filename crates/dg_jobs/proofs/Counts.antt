use Rattle.std.proofs.Common.{◌≡◌, ◌+◌, ◌<◌, ◌≤◌, ℕ, Bool, true, false, cond, Some, List, length, get_or, set, count_by, refl, ap, arith}
use Rattle.std.proofs.lemmas.Bool.{eq-eqb, ne_eqb}
use Rattle.std.proofs.lemmas.List.{length-set}
use Rattle.std.proofs.lemmas.List.Sums.{sum_by-set, count_by-le-length}
use Rattle.dg_jobs.specs.Board.{is_on, one_if}

one_is : (b : Bool) → cond b 1 0 ≡ one_if b
one_is true = refl
one_is false = refl

-- how a count changes where one entry of the list does
pub count_by-set : {X : Type 0} (p : X → Bool) (xs : List X) (i : ℕ) (y d : X) → i < length xs → count_by p (set xs i y) + one_if (p (get_or xs i d)) ≡ count_by p xs + one_if (p y)
count_by-set p xs i y d lt = omega (arith, sum_by-set (λ x. cond (p x) 1 0) xs i y d lt, one_is (p (get_or xs i d)), one_is (p y))

-- one entry that fails the test: fewer pass than there are
pub count_by-lt : {X : Type 0} (p : X → Bool) (xs : List X) (i : ℕ) (y d : X) → i < length xs → p (get_or xs i d) ≡ false → p y ≡ true → count_by p xs < length xs
count_by-lt {X} p xs i y d lt fails passes = omega (arith, count_by-set p xs i y d lt, ap one_if fails, ap one_if passes, count_by-le-length p (set xs i y), length-set {A = X} xs i y)

-- one entry that passes the test: some do
pub count_by-pos : {X : Type 0} (p : X → Bool) (xs : List X) (i : ℕ) (y d : X) → i < length xs → p (get_or xs i d) ≡ true → p y ≡ false → 1 ≤ count_by p xs
count_by-pos p xs i y d lt passes fails = omega (arith, count_by-set p xs i y d lt, ap one_if fails, ap one_if passes)

pub is_on-same : (pile other : ℕ) → other ≡ pile → is_on pile (Some other) ≡ true
is_on-same pile other e = eq-eqb other pile e

pub is_on-other : (pile other : ℕ) → (other ≡ pile → ⊥) → is_on pile (Some other) ≡ false
is_on-other pile other ne = ne_eqb other pile ne

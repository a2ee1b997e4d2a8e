use Rattle.std.proofs.Common.{◌≡◌, ◌-◌, ◌<◌, ◌≤◌, ◌⊎◌, ℕ, zero, suc, cond, ltb, sym, ap, ◌∙◌, inl, inr, ⊎_elim, arith}
use Rattle.std.proofs.lemmas.Bool.{cases_eq, cases_lt, cond-true, cond-false, lt-ltb, le-ltb}

-- some number below `m` has the value, or none has
found_below : (f : ℕ → ℕ) (value m : ℕ) → ((i : ℕ) × (i < m) × (f i ≡ value)) ⊎ ((i : ℕ) → i < m → f i ≡ value → ⊥)
found_below f value zero = inr (λ i lt e. absurd (omega arith))
found_below f value (suc m) =
    ⊎_elim
    (λ (here : f m ≡ value). inl (m, omega arith, here))
    (λ (ne : f m ≡ value → ⊥).
    ⊎_elim
    (λ (some : (i : ℕ) × (i < m) × (f i ≡ value)). inl (some.0, omega (arith, some.1), some.2))
    (λ (none : (i : ℕ) → i < m → f i ≡ value → ⊥). inr (λ i lt e. ⊎_elim (λ (before : i < m). none i before e) (λ (at : m ≤ i). let same : i ≡ m = omega arith in ne (sym (ap f same) ∙ e)) (cases_lt i m)))
    (found_below f value m))
    (cases_eq (f m) value)

-- the numbers other than `value`, with those above it moved down by one
down : ℕ → ℕ → ℕ
down value x = cond (ltb value x) (x - 1) x

down-above : (value x : ℕ) → value < x → down value x ≡ x - 1
unfolding down
down-above value x lt = cond-true {A = ℕ} (ltb value x) (x - 1) x (lt-ltb value x lt)

down-below : (value x : ℕ) → x ≤ value → down value x ≡ x
unfolding down
down-below value x le = cond-false {A = ℕ} (ltb value x) (x - 1) x (le-ltb value x le)

down-lt : (n value x : ℕ) → value < suc n → x < suc n → (x ≡ value → ⊥) → down value x < n
down-lt n value x value-lt lt ne =
    ⊎_elim
    (λ (above : value < x). omega (arith, down-above value x above))
    (λ (below : x ≤ value). ⊎_elim (λ (less : x < value). omega (arith, down-below value x below)) (λ (same : value ≤ x). absurd (ne (omega arith))) (cases_lt x value))
    (cases_lt value x)

down-injective : (value x y : ℕ) → (x ≡ value → ⊥) → (y ≡ value → ⊥) → down value x ≡ down value y → x ≡ y
down-injective value x y nx ny e =
    ⊎_elim
    (λ (ax : value < x).
    ⊎_elim
    (λ (ay : value < y). omega (arith, down-above value x ax, down-above value y ay, e))
    (λ (by' : y ≤ value). absurd (ny (omega (arith, down-above value x ax, down-below value y by', e))))
    (cases_lt value y))
    (λ (bx : x ≤ value).
    ⊎_elim
    (λ (ay : value < y). absurd (nx (omega (arith, down-below value x bx, down-above value y ay, e))))
    (λ (by' : y ≤ value). omega (arith, down-below value x bx, down-below value y by', e))
    (cases_lt value y))
    (cases_lt value x)

-- more places than values: two places have one value
pub two_with_one_value : (n : ℕ) (f : ℕ → ℕ) → ((i : ℕ) → i ≤ n → f i < n) → (i : ℕ) × (j : ℕ) × (i < j) × (j ≤ n) × (f i ≡ f j)
two_with_one_value zero f within = absurd (omega (arith, within 0 (omega arith)))
two_with_one_value (suc n) f within =
    let last = f (suc n) in
    ⊎_elim
    (λ (some : (i : ℕ) × (i < suc n) × (f i ≡ last)). (some.0, suc n, some.1, omega arith, some.2))
    (λ (none : (i : ℕ) → i < suc n → f i ≡ last → ⊥).
    let found = two_with_one_value n (λ i. down last (f i)) (λ i le. down-lt n last (f i) (within (suc n) (omega arith)) (within i (omega arith)) (none i (omega arith))) in
    (found.0, found.1, found.2, omega (arith, found.3), down-injective last (f found.0) (f found.1) (none found.0 (omega (arith, found.2, found.3))) (none found.1 (omega (arith, found.3))) found.4))
    (found_below f last (suc n))

-- Walks of at most so many steps reach what walks of any length reach, over nodes of any kind that are among some list, where
-- there are no more of these than steps.
use Rattle.std.proofs.Common.{◌≡◌, ◌⊎◌, inl, inr, ℕ, zero, suc, ◌+◌, ◌<◌, ◌≤◌, Bool, true, false, List, [], ◌∷◌, length, get_or, Contains, IsTrue, ◌↔◌, refl, sym, ap, ◌∙◌, arith}
use Rattle.std.specs.List.{list_any}
use Rattle.std.proofs.lemmas.Bool.{false≢true, or_cases, or_left, or_right}
use Rattle.dg_decl.specs.Walks.{IsReached, root, step, is_within}

-- a test that tells whether two nodes are one
abbrev pub Decides : {N : Type 0} → (N → N → Bool) → Type 0
Decides {N} same = (a b : N) → (same a b ≡ true) ↔ (a ≡ b)

-- ---- one of a list

-- what a test finds in a list
pub record IsFound {N : Type 0} (p : N → Bool) (xs : List N) : Type 0 where
  pub at : N
  pub among : Contains xs at
  pub passes : p at ≡ true

pub in_rest : {N : Type 0} (x y : N) (xs : List N) → Contains xs x → Contains (y ∷ xs) x
in_rest x y xs c = (suc c.0, (let lt : c.0 < length xs = c.1 in omega arith), c.2)

pub any_found : {N : Type 0} (p : N → Bool) (xs : List N) → list_any p xs ≡ true → IsFound p xs
any_found p [] h = absurd (false≢true h)
any_found p (x ∷ xs) h =
    elim (or_cases (p x) (list_any p xs) h) [
      | inl e ↦ record { at = x; among = (0, omega arith, refl); passes = e }
      | inr e ↦ (let f = any_found p xs e in record { at = f.at; among = in_rest f.at x xs f.among; passes = f.passes })
    ]

any_at : {N : Type 0} (p : N → Bool) (xs : List N) (x : N) (k : ℕ) → k < length xs → get_or xs k x ≡ x → p x ≡ true → list_any p xs ≡ true
any_at p [] x k lt e h = absurd (omega arith)
any_at p (y ∷ ys) x zero lt e h = or_left (p y) (list_any p ys) (ap p e ∙ h)
any_at p (y ∷ ys) x (suc k) lt e h = or_right (p y) (list_any p ys) (any_at p ys x k (omega arith) e h)

pub any_from : {N : Type 0} (p : N → Bool) (xs : List N) (x : N) → Contains xs x → p x ≡ true → list_any p xs ≡ true
any_from p xs x c h = any_at p xs x c.0 c.1 c.2 h

pub any_is : {N : Type 0} (same : N → N → Bool) → Decides same → (xs : List N) (n : N) → list_any (same n) xs ≡ true → Contains xs n
any_is {N} same law xs n h =
    let f = any_found (same n) xs h in
    let e : n ≡ f.at = (law n f.at).0 f.passes in
    let c : Contains xs f.at = f.among in
    (c.0, c.1, ap (get_or xs c.0) e ∙ c.2 ∙ sym e)

pub is_any : {N : Type 0} (same : N → N → Bool) → Decides same → (xs : List N) (n : N) → Contains xs n → list_any (same n) xs ≡ true
is_any same law xs n c = any_from (same n) xs n c ((law n n).1 refl)

-- ---- walks of so many steps

pub at_once : {N : Type 0} (same : N → N → Bool) → Decides same → (next : N → List N) (k : ℕ) (roots : List N) (n : N) → Contains roots n → is_within same next k roots n ≡ true
at_once same law next zero roots n c = is_any same law roots n c
at_once same law next (suc k) roots n c = or_left (list_any (same n) roots) _ (is_any same law roots n c)

-- from a root's nodes on
beyond : {N : Type 0} (same : N → N → Bool) (next : N → List N) (k : ℕ) (roots : List N) (r n : N) → Contains roots r → is_within same next k (next r) n ≡ true → is_within same next (suc k) roots n ≡ true
beyond same next k roots r n c h =
    or_right (list_any (same n) roots) _ (any_from (λ m. is_within same next k (next m) n) roots r c h)

pub longer : {N : Type 0} (same : N → N → Bool) (next : N → List N) (k : ℕ) (roots : List N) (n : N) → is_within same next k roots n ≡ true → is_within same next (suc k) roots n ≡ true
longer same next zero roots n h = or_left (list_any (same n) roots) _ h
longer same next (suc k) roots n h =
    elim (or_cases (list_any (same n) roots) _ h) [
      | inl e ↦ or_left (list_any (same n) roots) _ e
      | inr e ↦ (let f = any_found (λ m. is_within same next k (next m) n) roots e in
          beyond same next (suc k) roots f.at n f.among (longer same next k (next f.at) n f.passes))
    ]

pub one_more : {N : Type 0} (same : N → N → Bool) → Decides same → (next : N → List N) (k : ℕ) (roots : List N) (m n : N) → is_within same next k roots m ≡ true → Contains (next m) n → is_within same next (suc k) roots n ≡ true
one_more same law next zero roots m n h c =
    beyond same next zero roots m n (any_is same law roots m h) (at_once same law next zero (next m) n c)
one_more same law next (suc k) roots m n h c =
    elim (or_cases (list_any (same m) roots) _ h) [
      | inl e ↦ beyond same next (suc k) roots m n (any_is same law roots m e) (at_once same law next (suc k) (next m) n c)
      | inr e ↦ (let f = any_found (λ r. is_within same next k (next r) m) roots e in
          beyond same next (suc k) roots f.at n f.among (one_more same law next k (next f.at) m n f.passes c))
    ]

-- the step with which a walk ends
pub record EndsBy {N : Type 0} (same : N → N → Bool) (next : N → List N) (k : ℕ) (roots : List N) (n : N) : Type 0 where
  pub before : N
  pub reached : is_within same next k roots before ≡ true
  pub leads : Contains (next before) n

pub last_step : {N : Type 0} (same : N → N → Bool) → Decides same → (next : N → List N) (k : ℕ) (roots : List N) (n : N) → is_within same next (suc k) roots n ≡ true → (is_within same next k roots n ≡ true) ⊎ EndsBy same next k roots n
last_step same law next zero roots n h =
    elim (or_cases (list_any (same n) roots) _ h) [
      | inl e ↦ inl e
      | inr e ↦ (let f = any_found (λ m. is_within same next zero (next m) n) roots e in
          inr (record { before = f.at; reached = is_any same law roots f.at f.among; leads = any_is same law (next f.at) n f.passes }))
    ]
last_step same law next (suc k) roots n h =
    elim (or_cases (list_any (same n) roots) _ h) [
      | inl e ↦ inl (or_left (list_any (same n) roots) _ e)
      | inr e ↦ (let f = any_found (λ m. is_within same next (suc k) (next m) n) roots e in
          elim (last_step same law next k (next f.at) n f.passes) [
            | inl w ↦ inl (beyond same next k roots f.at n f.among w)
            | inr b ↦ inr (record { before = b.before; reached = beyond same next k roots f.at b.before f.among b.reached; leads = b.leads })
          ])
    ]

-- ---- walks of so many steps are walks

pub reached_beyond : {N : Type 0} (next : N → List N) (roots : List N) (r n : N) → Contains roots r → IsReached next (next r) n → IsReached next roots n
reached_beyond next roots r n c (root k h) = step r k (root r c) h
reached_beyond next roots r n c (step m k w h) = step m k (reached_beyond next roots r m c w) h

pub walked_reaches : {N : Type 0} (same : N → N → Bool) → Decides same → (next : N → List N) (k : ℕ) (roots : List N) (n : N) → is_within same next k roots n ≡ true → IsReached next roots n
walked_reaches same law next zero roots n h = root n (any_is same law roots n h)
walked_reaches same law next (suc k) roots n h =
    elim (or_cases (list_any (same n) roots) _ h) [
      | inl e ↦ root n (any_is same law roots n e)
      | inr e ↦ (let f = any_found (λ m. is_within same next k (next m) n) roots e in
          reached_beyond next roots f.at n f.among (walked_reaches same law next k (next f.at) n f.passes))
    ]

-- ---- how many of a list pass a test

abbrev one_if : Bool → ℕ
one_if true = 1
one_if false = 0

abbrev pub count_in : {N : Type 0} → (N → Bool) → List N → ℕ
count_in p [] = 0
count_in p (x ∷ xs) = count_in p xs + one_if (p x)

one_at_most : (a : Bool) → one_if a ≤ 1
one_at_most true = omega arith
one_at_most false = omega arith

one_more_true : (a b : Bool) → (a ≡ true → b ≡ true) → one_if a ≤ one_if b
one_more_true true b h = rw (h refl) (omega arith)
one_more_true false b h = omega arith

at_most_all : {N : Type 0} (p : N → Bool) (xs : List N) → count_in p xs ≤ length xs
at_most_all p [] = omega arith
at_most_all p (x ∷ xs) = omega (arith, at_most_all p xs, one_at_most (p x))

-- each of the list that passes one test passes the other
abbrev pub Passes : {N : Type 0} → (N → Bool) → (N → Bool) → List N → Type 0
Passes p q [] = Unit {0}
Passes p q (x ∷ xs) = (p x ≡ true → q x ≡ true) × Passes p q xs

pub all_passes : {N : Type 0} (p q : N → Bool) (xs : List N) → ((n : N) → p n ≡ true → q n ≡ true) → Passes p q xs
all_passes p q [] h = tt
all_passes p q (x ∷ xs) h = (h x, all_passes p q xs h)

passes_at_index : {N : Type 0} (p q : N → Bool) (xs : List N) (n : N) (k : ℕ) → Passes p q xs → k < length xs → get_or xs k n ≡ n → p n ≡ true → q n ≡ true
passes_at_index p q [] n k h lt e is = absurd (omega arith)
passes_at_index p q (x ∷ xs) n zero h lt e is = sym (ap q e) ∙ h.0 (ap p e ∙ is)
passes_at_index p q (x ∷ xs) n (suc k) h lt e is = passes_at_index p q xs n k h.1 (omega arith) e is

pub passes_in : {N : Type 0} (p q : N → Bool) (xs : List N) (n : N) → Passes p q xs → Contains xs n → p n ≡ true → q n ≡ true
passes_in p q xs n h c is = passes_at_index p q xs n c.0 h c.1 c.2 is

count_more : {N : Type 0} (p q : N → Bool) (xs : List N) → Passes p q xs → count_in p xs ≤ count_in q xs
count_more p q [] h = omega arith
count_more p q (x ∷ xs) h = omega (arith, count_more p q xs h.1, one_more_true (p x) (q x) h.0)

grows_at : {N : Type 0} (p q : N → Bool) (x : N) (xs : List N) (a b : Bool) → p x ≡ a → q x ≡ b → (a ≡ true → b ≡ true) → count_in p xs ≤ count_in q xs → Passes q p xs ⊎ (count_in p xs < count_in q xs) → Passes q p (x ∷ xs) ⊎ (count_in p (x ∷ xs) < count_in q (x ∷ xs))
grows_at p q x xs true b ea eb sub le (inl same) = inl (λ e. ea, same)
grows_at p q x xs true b ea eb sub le (inr more) = inr (rw (ea, eb, sub refl) (omega arith))
grows_at p q x xs false true ea eb sub le rest = inr (rw (ea, eb) (omega arith))
grows_at p q x xs false false ea eb sub le (inl same) = inl (λ e. absurd (false≢true (sym eb ∙ e)), same)
grows_at p q x xs false false ea eb sub le (inr more) = inr (rw (ea, eb) (omega arith))

-- what passes more either passes no other, or counts more
grows : {N : Type 0} (p q : N → Bool) (xs : List N) → Passes p q xs → Passes q p xs ⊎ (count_in p xs < count_in q xs)
grows p q [] h = inl tt
grows p q (x ∷ xs) h =
    grows_at p q x xs (p x) (q x) refl refl h.0 (count_more p q xs h.1) (grows p q xs h.1)

-- ---- walks come to an end of new nodes

-- a step more reaches no other node
abbrev pub IsClosed : {N : Type 0} → (N → N → Bool) → (N → List N) → List N → ℕ → Type 0
IsClosed {N} same next roots k = (n : N) → is_within same next (suc k) roots n ≡ true → is_within same next k roots n ≡ true

-- each step from one of a list leads to one of the list
abbrev pub LeadsInto : {N : Type 0} → (N → List N) → List N → Type 0
LeadsInto {N} next xs = (m n : N) → Contains xs m → Contains (next m) n → Contains xs n

abbrev pub AreIn : {N : Type 0} → List N → List N → Type 0
AreIn {N} roots xs = (n : N) → Contains roots n → Contains xs n

pub reached_in : {N : Type 0} (next : N → List N) (xs roots : List N) → LeadsInto next xs → AreIn roots xs → (n : N) → IsReached next roots n → Contains xs n
reached_in next xs roots into begin n (root m h) = begin m h
reached_in next xs roots into begin n (step m o w h) = into m o (reached_in next xs roots into begin m w) h

stays_closed : {N : Type 0} (same : N → N → Bool) → Decides same → (next : N → List N) (roots : List N) (k : ℕ) → IsClosed same next roots k → IsClosed same next roots (suc k)
stays_closed same law next roots k c n h =
    elim (last_step same law next (suc k) roots n h) [
      | inl w ↦ w
      | inr b ↦ one_more same law next k roots b.before n (c b.before b.reached) b.leads
    ]

closed_from : {N : Type 0} (same : N → N → Bool) → Decides same → (next : N → List N) (xs roots : List N) → LeadsInto next xs → AreIn roots xs → (k : ℕ) → Passes (is_within same next (suc k) roots) (is_within same next k roots) xs → IsClosed same next roots k
closed_from same law next xs roots into begin k f n h =
    passes_in (is_within same next (suc k) roots) (is_within same next k roots) xs n f
    (reached_in next xs roots into begin n (walked_reaches same law next (suc k) roots n h)) h

closed_or_more : {N : Type 0} (same : N → N → Bool) → Decides same → (next : N → List N) (xs roots : List N) → LeadsInto next xs → AreIn roots xs → (k : ℕ) → IsClosed same next roots k ⊎ (k ≤ count_in (is_within same next k roots) xs)
closed_or_more same law next xs roots into begin zero = inr (omega arith)
closed_or_more same law next xs roots into begin (suc k) =
    elim (closed_or_more same law next xs roots into begin k) [
      | inl c ↦ inl (stays_closed same law next roots k c)
      | inr many ↦ elim (grows (is_within same next k roots) (is_within same next (suc k) roots) xs (all_passes _ _ xs (λ n h. longer same next k roots n h))) [
        | inl f ↦ inl (stays_closed same law next roots k (closed_from same law next xs roots into begin k f))
        | inr more ↦ inr (omega arith)
      ]
    ]

-- where as many pass as there are, each passes
all_at : {N : Type 0} (p : N → Bool) (x : N) (xs : List N) (a : Bool) → p x ≡ a → suc (length xs) ≤ count_in p xs + one_if (p x) → (length xs ≤ count_in p xs) × (a ≡ true)
all_at p x xs true e h =
    (let one : one_if (p x) ≤ 1 = one_at_most (p x) in omega arith, refl)
all_at p x xs false e h =
    absurd (let none : one_if (p x) ≡ 0 = ap one_if e in let few : count_in p xs ≤ length xs = at_most_all p xs in omega arith)

all_pass : {N : Type 0} (p q : N → Bool) (xs : List N) → length xs ≤ count_in p xs → Passes q p xs
all_pass p q [] h = tt
all_pass p q (x ∷ xs) h =
    let both = all_at p x xs (p x) refl h in
    (λ e. both.1, all_pass p q xs both.0)

closed_at_all : {N : Type 0} (same : N → N → Bool) → Decides same → (next : N → List N) (xs roots : List N) → LeadsInto next xs → AreIn roots xs → IsClosed same next roots (length xs)
closed_at_all same law next xs roots into begin =
    elim (closed_or_more same law next xs roots into begin (length xs)) [
      | inl c ↦ c
      | inr many ↦ closed_from same law next xs roots into begin (length xs)
          (all_pass (is_within same next (length xs) roots) (is_within same next (suc (length xs)) roots) xs many)
    ]

reaches_closed : {N : Type 0} (same : N → N → Bool) → Decides same → (next : N → List N) (roots : List N) (k : ℕ) → IsClosed same next roots k → (n : N) → IsReached next roots n → is_within same next k roots n ≡ true
reaches_closed same law next roots k closed n (root m h) = at_once same law next k roots m h
reaches_closed same law next roots k closed n (step m o w h) =
    closed o (one_more same law next k roots m o (reaches_closed same law next roots k closed m w) h)

-- as many steps as there are nodes are enough
pub walks_among : {N : Type 0} (same : N → N → Bool) → Decides same → (next : N → List N) (xs roots : List N) → LeadsInto next xs → AreIn roots xs → (n : N) → IsTrue (is_within same next (length xs) roots n) ↔ IsReached next roots n
walks_among same law next xs roots into begin n = (
  λ h. walked_reaches same law next (length xs) roots n h,
  λ w. reaches_closed same law next roots (length xs) (closed_at_all same law next xs roots into begin) n w,
)

-- Walks of at most so many steps reach what walks of any length reach, where there are no more
-- nodes than that.
use Rattle.std.proofs.Common.{◌≡◌, ◌⊎◌, inl, inr, ℕ, zero, suc, ◌+◌, ◌<◌, ◌≤◌, Bool, true, false, nat_eq, List, [], ◌∷◌, length, get_or, Contains, IsTrue, ◌↔◌, refl, sym, ap, ◌∙◌, arith}
use Rattle.std.specs.List.{list_any}
use Rattle.std.proofs.lemmas.Bool.{false≢true, or_cases, or_left, or_right, eqb-true, eq-eqb, cases_lt}
use Rattle.dg_decl.specs.Walks.{IsReached, root, step, is_within}

-- ---- one of a list

-- what a test finds in a list
pub record IsFound (p : ℕ → Bool) (xs : List ℕ) : Type 0 where
  pub at : ℕ
  pub among : Contains xs at
  pub passes : p at ≡ true

in_rest : (x y : ℕ) (xs : List ℕ) → Contains xs x → Contains (y ∷ xs) x
in_rest x y xs c = (suc c.0, (let lt : c.0 < length xs = c.1 in omega arith), c.2)

pub any_found : (p : ℕ → Bool) (xs : List ℕ) → list_any p xs ≡ true → IsFound p xs
any_found p [] h = absurd (false≢true h)
any_found p (x ∷ xs) h =
    elim (or_cases (p x) (list_any p xs) h) [
      | inl e ↦ record { at = x; among = (0, omega arith, refl); passes = e }
      | inr e ↦ (let f = any_found p xs e
          in record { at = f.at; among = in_rest f.at x xs f.among; passes = f.passes })
    ]

any_at : (p : ℕ → Bool) (xs : List ℕ) (x k : ℕ) → k < length xs → get_or xs k x ≡ x → p x ≡ true
    → list_any p xs ≡ true
any_at p [] x k lt e h = absurd (omega arith)
any_at p (y ∷ ys) x zero lt e h = or_left (p y) (list_any p ys) (ap p e ∙ h)
any_at p (y ∷ ys) x (suc k) lt e h = or_right (p y) (list_any p ys) (any_at p ys x k
    (omega arith) e h)

pub any_from : (p : ℕ → Bool) (xs : List ℕ) (x : ℕ) → Contains xs x → p x ≡ true
    → list_any p xs ≡ true
any_from p xs x c h = any_at p xs x c.0 c.1 c.2 h

is_itself : (n : ℕ) → nat_eq n n ≡ true
is_itself n = eq-eqb n n refl

pub any_is : (xs : List ℕ) (n : ℕ) → list_any (nat_eq n) xs ≡ true → Contains xs n
any_is xs n h =
    let f = any_found (nat_eq n) xs h in
    let e : n ≡ f.at = eqb-true n f.at f.passes in
    let c : Contains xs f.at = f.among in
    (c.0, c.1, ap (get_or xs c.0) e ∙ c.2 ∙ sym e)

pub is_any : (xs : List ℕ) (n : ℕ) → Contains xs n → list_any (nat_eq n) xs ≡ true
is_any xs n c = any_from (nat_eq n) xs n c (is_itself n)

-- ---- walks of so many steps

abbrev pub walked : (ℕ → List ℕ) → ℕ → List ℕ → ℕ → Bool
walked next k roots n = is_within nat_eq next k roots n

pub at_once : (next : ℕ → List ℕ) (k : ℕ) (roots : List ℕ) (n : ℕ) → Contains roots n
    → walked next k roots n ≡ true
at_once next zero roots n c = is_any roots n c
at_once next (suc k) roots n c = or_left (list_any (nat_eq n) roots) _ (is_any roots n c)

-- from a root's nodes on
beyond : (next : ℕ → List ℕ) (k : ℕ) (roots : List ℕ) (r n : ℕ) → Contains roots r
    → walked next k (next r) n ≡ true → walked next (suc k) roots n ≡ true
beyond next k roots r n c h =
    or_right (list_any (nat_eq n) roots) _ (any_from (λ m. walked next k (next m) n) roots r c h)

pub longer : (next : ℕ → List ℕ) (k : ℕ) (roots : List ℕ) (n : ℕ) → walked next k roots n ≡ true
    → walked next (suc k) roots n ≡ true
longer next zero roots n h = or_left (list_any (nat_eq n) roots) _ h
longer next (suc k) roots n h =
    elim (or_cases (list_any (nat_eq n) roots) _ h) [
      | inl e ↦ or_left (list_any (nat_eq n) roots) _ e
      | inr e ↦ (let f = any_found (λ m. walked next k (next m) n) roots e in
          beyond next (suc k) roots f.at n f.among (longer next k (next f.at) n f.passes))
    ]

pub one_more : (next : ℕ → List ℕ) (k : ℕ) (roots : List ℕ) (m n : ℕ)
    → walked next k roots m ≡ true → Contains (next m) n → walked next (suc k) roots n ≡ true
one_more next zero roots m n h c = beyond next zero roots m n (any_is roots m h) (at_once next zero
    (next m) n c)
one_more next (suc k) roots m n h c =
    elim (or_cases (list_any (nat_eq m) roots) _ h) [
      | inl e ↦ beyond next (suc k) roots m n (any_is roots m e) (at_once next (suc k) (next m) n c)
      | inr e ↦ (let f = any_found (λ r. walked next k (next r) m) roots e in
          beyond next (suc k) roots f.at n f.among (one_more next k (next f.at) m n f.passes c))
    ]

-- the step with which a walk ends
pub record EndsBy (next : ℕ → List ℕ) (k : ℕ) (roots : List ℕ) (n : ℕ) : Type 0 where
  pub before : ℕ
  pub reached : walked next k roots before ≡ true
  pub leads : Contains (next before) n

pub last_step : (next : ℕ → List ℕ) (k : ℕ) (roots : List ℕ) (n : ℕ)
    → walked next (suc k) roots n ≡ true → (walked next k roots n ≡ true) ⊎ EndsBy next k roots n
last_step next zero roots n h =
    elim (or_cases (list_any (nat_eq n) roots) _ h) [
      | inl e ↦ inl e
      | inr e ↦ (let f = any_found (λ m. walked next zero (next m) n) roots e in
          inr (record {
            before = f.at;
            reached = is_any roots f.at f.among;
            leads = any_is
                (next f.at) n f.passes;
          }))
    ]
last_step next (suc k) roots n h =
    elim (or_cases (list_any (nat_eq n) roots) _ h) [
      | inl e ↦ inl (or_left (list_any (nat_eq n) roots) _ e)
      | inr e ↦ (let f = any_found (λ m. walked next (suc k) (next m) n) roots e in
          elim (last_step next k (next f.at) n f.passes) [
            | inl w ↦ inl (beyond next k roots f.at n f.among w)
            | inr b ↦ inr
                (record {
                  before = b.before;
                  reached = beyond next k roots f.at b.before f.among
                      b.reached;
                  leads = b.leads;
                })
          ])
    ]

-- ---- walks of so many steps are walks

pub reached_beyond : (next : ℕ → List ℕ) (roots : List ℕ) (r n : ℕ) → Contains roots r
    → IsReached next (next r) n → IsReached next roots n
reached_beyond next roots r n c (root k h) = step r k (root r c) h
reached_beyond next roots r n c (step m k w h) = step m k (reached_beyond next roots r m c w) h

pub walked_reaches : (next : ℕ → List ℕ) (k : ℕ) (roots : List ℕ) (n : ℕ)
    → walked next k roots n ≡ true → IsReached next roots n
walked_reaches next zero roots n h = root n (any_is roots n h)
walked_reaches next (suc k) roots n h =
    elim (or_cases (list_any (nat_eq n) roots) _ h) [
      | inl e ↦ root n (any_is roots n e)
      | inr e ↦ (let f = any_found (λ m. walked next k (next m) n) roots e in
          reached_beyond next roots f.at n f.among (walked_reaches next k (next f.at) n f.passes))
    ]

-- ---- how many numbers below a bound pass a test

abbrev one_if : Bool → ℕ
one_if true = 1
one_if false = 0

abbrev pub count_below : (ℕ → Bool) → ℕ → ℕ
count_below p zero = 0
count_below p (suc n) = count_below p n + one_if (p n)

one_at_most : (a : Bool) → one_if a ≤ 1
one_at_most true = omega arith
one_at_most false = omega arith

one_more_true : (a b : Bool) → (a ≡ true → b ≡ true) → one_if a ≤ one_if b
one_more_true true b h = rw (h refl) (omega arith)
one_more_true false b h = omega arith

pub at_most_all : (p : ℕ → Bool) (n : ℕ) → count_below p n ≤ n
at_most_all p zero = omega arith
at_most_all p (suc n) = omega (arith, at_most_all p n, one_at_most (p n))

-- each number below the bound that passes one test passes the other
abbrev pub Passes : (ℕ → Bool) → (ℕ → Bool) → ℕ → Type 0
Passes p q bound = (n : ℕ) → n < bound → p n ≡ true → q n ≡ true

passes_below : (p q : ℕ → Bool) (bound : ℕ) → Passes p q (suc bound) → Passes p q bound
passes_below p q bound h n lt = h n (omega arith)

count_more : (p q : ℕ → Bool) (bound : ℕ) → Passes p q bound
    → count_below p bound ≤ count_below q bound
count_more p q zero h = omega arith
count_more p q (suc n) h =
    omega (
      arith,
      count_more p q n (passes_below p q n h),
      one_more_true (p n) (q n) (h n
          (omega arith)),
    )

passes_at : (p q : ℕ → Bool) (bound : ℕ) → Passes p q bound → (p bound ≡ true → q bound ≡ true)
    → Passes p q (suc bound)
passes_at p q bound h at n lt e =
    elim (cases_lt n bound) [
      | inl below ↦ h n below e
      | inr above ↦ (let same : n ≡ bound = omega arith in ap q same ∙ at (sym (ap p same) ∙ e))
    ]

grows_at : (p q : ℕ → Bool) (n : ℕ) (a b : Bool) → p n ≡ a → q n ≡ b → (a ≡ true → b ≡ true)
    → count_below p n ≤ count_below q n → Passes q p n ⊎ (count_below p n < count_below q n)
    → Passes q p (suc n) ⊎ (count_below p (suc n) < count_below q (suc n))
grows_at p q n true b ea eb sub le (inl same) = inl (passes_at q p n same (λ e. ea))
grows_at p q n true b ea eb sub le (inr more) = inr (rw (ea, eb, sub refl) (omega arith))
grows_at p q n false true ea eb sub le rest = inr (rw (ea, eb) (omega arith))
grows_at p q n false false ea eb sub le (inl same) = inl (passes_at q p n same (λ e. absurd
    (false≢true (sym eb ∙ e))))
grows_at p q n false false ea eb sub le (inr more) = inr (rw (ea, eb) (omega arith))

-- what passes more either passes no other number, or counts more
pub grows : (p q : ℕ → Bool) (bound : ℕ) → Passes p q bound
    → Passes q p bound ⊎ (count_below p bound < count_below q bound)
grows p q zero h = inl (λ n lt e. absurd (omega arith))
grows p q (suc n) h =
    let below = passes_below p q n h in
    grows_at p q n (p n) (q n) refl refl (h n (omega arith)) (count_more p q n below)
    (grows p q n below)

all_at : (p : ℕ → Bool) (bound : ℕ) (a : Bool) → p bound ≡ a
    → suc bound ≤ count_below p (suc bound) → (bound ≤ count_below p bound) × (p bound ≡ true)
all_at p bound true e h = (
  let h' : suc bound ≤ count_below p bound + 1 = subst-one h
      in omega arith,
  e,
)
  where
    subst-one : suc bound ≤ count_below p bound + one_if (p bound)
        → suc bound ≤ count_below p bound + 1
    subst-one h = rw (sym (ap one_if e)) h
all_at p bound false e h = absurd (let h' : suc bound ≤ count_below p bound + 0 = subst-none h
    in omega (arith, at_most_all p bound))
  where
    subst-none : suc bound ≤ count_below p bound + one_if (p bound)
        → suc bound ≤ count_below p bound + 0
    subst-none h = rw (sym (ap one_if e)) h

-- where as many pass as there are, each passes
pub all_pass : (p : ℕ → Bool) (bound : ℕ) → bound ≤ count_below p bound → (n : ℕ) → n < bound
    → p n ≡ true
all_pass p zero h n lt = absurd (omega arith)
all_pass p (suc k) h n lt =
    let both = all_at p k (p k) refl h in
    elim (cases_lt n k) [
      | inl below ↦ all_pass p k both.0 n below
      | inr above ↦ (let same : n ≡ k = omega arith in ap p same ∙ both.1)
    ]

-- ---- walks come to an end of new nodes

-- a step more reaches no other node
abbrev pub IsClosed : (ℕ → List ℕ) → List ℕ → ℕ → Type 0
IsClosed next roots k = (n : ℕ) → walked next (suc k) roots n ≡ true → walked next k roots n ≡ true

-- each step leads to a number below the bound
abbrev pub LeadsBelow : (ℕ → List ℕ) → ℕ → Type 0
LeadsBelow next bound = (m n : ℕ) → Contains (next m) n → n < bound

stays_closed : (next : ℕ → List ℕ) (roots : List ℕ) (k : ℕ) → IsClosed next roots k
    → IsClosed next roots (suc k)
stays_closed next roots k c n h =
    elim (last_step next (suc k) roots n h) [
      | inl w ↦ w
      | inr b ↦ one_more next k roots b.before n (c b.before b.reached) b.leads
    ]

closed_from : (next : ℕ → List ℕ) (bound : ℕ) → LeadsBelow next bound → (roots : List ℕ) (k : ℕ)
    → Passes (walked next (suc k) roots) (walked next k roots) bound → IsClosed next roots k
closed_from next bound below roots k f n h =
    elim (last_step next k roots n h) [ inl w ↦ w | inr b ↦ f n (below b.before n b.leads) h ]

-- a number that passes is counted
pub counts_one : (p : ℕ → Bool) (bound n : ℕ) → n < bound → p n ≡ true → 1 ≤ count_below p bound
counts_one p zero n lt e = absurd (omega arith)
counts_one p (suc k) n lt e =
    elim (cases_lt n k) [
      | inl below ↦ (let more : 1 ≤ count_below p k = counts_one p k n below e in omega arith)
      | inr above ↦ (let same : n ≡ k = omega arith in counted_last p k (sym (ap p same) ∙ e))
    ]
  where
    counted_last : (p : ℕ → Bool) (k : ℕ) → p k ≡ true → 1 ≤ count_below p k + one_if (p k)
    counted_last p k e = rw e (omega arith)

-- so many nodes are reached in no step
abbrev StartsWith : (ℕ → List ℕ) → ℕ → List ℕ → ℕ → Type 0
StartsWith next bound roots start = start ≤ count_below (walked next 0 roots) bound

closed_or_more : (next : ℕ → List ℕ) (bound : ℕ) → LeadsBelow next bound
    → (roots : List ℕ) (start : ℕ) → StartsWith next bound roots start → (k : ℕ)
    → IsClosed next roots k ⊎ (start + k ≤ count_below (walked next k roots) bound)
closed_or_more next bound below roots start first zero = inr (omega (arith, first))
closed_or_more next bound below roots start first (suc k) =
    elim (closed_or_more next bound below roots start first k) [
      | inl c ↦ inl (stays_closed next roots k c)
      | inr many ↦ elim (grows (walked next k roots) (walked next (suc k) roots) bound
          (λ n lt h. longer next k roots n h)) [
            | inl f ↦ inl (stays_closed next roots k (closed_from next bound below roots k f))
            | inr more ↦ inr (omega arith)
          ]
    ]

closed_at : (next : ℕ → List ℕ) (bound : ℕ) → LeadsBelow next bound → (roots : List ℕ) (start : ℕ)
    → StartsWith next bound roots start → (k : ℕ) → bound ≤ start + k → IsClosed next roots k
closed_at next bound below roots start first k enough =
    elim (closed_or_more next bound below roots start first k) [
      | inl c ↦ c
      | inr many ↦ closed_from next bound below roots k (λ n lt h. all_pass
          (walked next k roots) bound (omega arith) n lt)
    ]

reaches_closed : (next : ℕ → List ℕ) (roots : List ℕ) (k : ℕ) → IsClosed next roots k → (n : ℕ)
    → IsReached next roots n → walked next k roots n ≡ true
reaches_closed next roots k closed n (root m h) = at_once next k roots m h
reaches_closed next roots k closed n (step m o w h) =
    closed o (one_more next k roots m o (reaches_closed next roots k closed m w) h)

pub reaches_walked : (next : ℕ → List ℕ) (bound : ℕ) → LeadsBelow next bound
    → (roots : List ℕ) (n : ℕ) → IsReached next roots n → walked next bound roots n ≡ true
reaches_walked next bound below roots n w =
    reaches_closed next roots bound (closed_at next bound below roots 0 (omega arith) bound
    (omega arith)) n w

-- from one node a step less is enough
pub reaches_sooner : (next : ℕ → List ℕ) (k : ℕ) → LeadsBelow next (suc k) → (r n : ℕ) → r < suc k
    → IsReached next (r ∷ []) n → walked next k (r ∷ []) n ≡ true
reaches_sooner next k below r n lt w =
    let first = counts_one (walked next 0 (r ∷ [])) (suc k) r lt (at_once next 0 (r ∷ []) r
    (0, omega arith, refl)) in
    reaches_closed next (r ∷ []) k (closed_at next (suc k) below (r ∷ []) 1 first k
    (omega arith)) n w

-- as many steps as there are nodes are enough
pub walks_within : (next : ℕ → List ℕ) (bound : ℕ) → LeadsBelow next bound
    → (roots : List ℕ) (n : ℕ) → IsTrue (walked next bound roots n) ↔ IsReached next roots n
walks_within next bound below roots n =
    (λ h. walked_reaches next bound roots n h, λ w. reaches_walked next bound below roots n w)

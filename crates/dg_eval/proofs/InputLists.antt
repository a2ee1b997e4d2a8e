-- Where the first that passes stands in a list, and lists from which none is left out.
use Rattle.std.proofs.Common.{◌≡◌, inl, inr, ℕ, zero, suc, ◌+◌, ltb, Bool, true, false, cond, not, ◌||◌, List, [], ◌∷◌, length, filter, filter_map, position, find, slice_get, Contains, Option, Some, None, option_map, option_and_then, refl, sym, ap, ◌∙◌, arith}
use Rattle.std.specs.List.{cons_option, list_any, position_or_len}
use Rattle.std.proofs.lemmas.Bool.{false≢true, lt-ltb, le-ltb, cases_lt}
use Rattle.std.proofs.lemmas.Option.{none-some, same_Some, slice_get-get_or}
use Rattle.dg_decl.proofs.NodeWalks.{in_rest}
use Rattle.dg_decl.proofs.MemberLemmas.{in_front}

-- ---- the place of the first that passes

abbrev pub first_place : {A : Type 0} → (A → Bool) → List A → Option ℕ
first_place p [] = None
first_place p (x ∷ xs) = cond (p x) (Some 0) (option_map (λ k. suc k) (first_place p xs))

next_place : (n len : ℕ) → cond (ltb (1 + n) (suc len)) (Some (1 + n)) None
    ≡ option_map (λ k. suc k) (cond (ltb n len) (Some n) None)
next_place n len = elim (cases_lt n len) [
  | inl lt ↦ rw (lt-ltb n len lt, lt-ltb (1 + n) (suc len) (omega arith))
      (let e : 1 + n ≡ suc n = omega arith in ap Some e)
  | inr le ↦ rw (le-ltb n len le, le-ltb (1 + n) (suc len) (omega arith)) refl
]

one_place : (b : Bool) (n len : ℕ) → cond (ltb (cond (not b) (1 + n) 0) (suc len))
    (Some (cond (not b) (1 + n) 0)) None
    ≡ cond b (Some 0) (option_map (λ k. suc k) (cond (ltb n len) (Some n) None))
one_place true n len = rw (lt-ltb 0 (suc len) (omega arith)) refl
one_place false n len = next_place n len

pub position_is : {A : Type 0} (p : A → Bool) (xs : List A) → position p xs ≡ first_place p xs
position_is p [] = refl
position_is p (x ∷ xs) =
    one_place (p x) (position_or_len p xs) (length xs)
    ∙ ap (λ o. cond (p x) (Some 0) (option_map (λ k. suc k) o)) (position_is p xs)

found_here : (b : Bool) (o : Option ℕ) → b ≡ true
    → (k : ℕ) × (cond b (Some 0) o ≡ Some k)
found_here true o e = (0, refl)
found_here false o e = absurd (false≢true e)

found_later : (b : Bool) (o : Option ℕ) (k : ℕ) → o ≡ Some k
    → (j : ℕ) × (cond b (Some 0) (option_map (λ k. suc k) o) ≡ Some j)
found_later true o k e = (0, refl)
found_later false o k e = (suc k, ap (option_map (λ k. suc k)) e)

place_at : {A : Type 0} (p : A → Bool) (xs : List A) (k : ℕ) (x : A) → slice_get xs k ≡ Some x
    → p x ≡ true → (j : ℕ) × (first_place p xs ≡ Some j)
place_at p [] k x e h = absurd (none-some x e)
place_at p (y ∷ ys) zero x e h = found_here (p y) _ (ap p (same_Some y x e) ∙ h)
place_at p (y ∷ ys) (suc k) x e h =
    let later = place_at p ys k x e h in found_later (p y) (first_place p ys) later.0 later.1

-- one that passes has a place
pub has_place : {A : Type 0} (p : A → Bool) (xs : List A) (x : A) → Contains xs x → p x ≡ true
    → (j : ℕ) × (position p xs ≡ Some j)
has_place p xs x c h =
    let w = place_at p xs c.0 x (slice_get-get_or xs c.0 x c.1 ∙ ap Some c.2) h in
    (w.0, position_is p xs ∙ w.1)

-- what stands at the place
one_at : {A : Type 0} (p : A → Bool) (y : A) (ys : List A) (b : Bool) (k : ℕ) → p y ≡ b
    → ((j : ℕ) → first_place p ys ≡ Some j → (x : A) × (slice_get ys j ≡ Some x) × (p x ≡ true))
    → cond b (Some 0) (option_map (λ k. suc k) (first_place p ys)) ≡ Some k
    → (x : A) × (slice_get (y ∷ ys) k ≡ Some x) × (p x ≡ true)
one_at p y ys true zero h later e = (y, refl, h)
one_at p y ys true (suc k) h later e =
    absurd (let same : 0 ≡ suc k = same_Some 0 (suc k) e in omega arith)
one_at p y ys false k h later e = from (first_place p ys) refl e
  where
    from : (o : Option ℕ) → first_place p ys ≡ o → option_map (λ k. suc k) o ≡ Some k
        → (x : _) × (slice_get (y ∷ ys) k ≡ Some x) × (p x ≡ true)
    from None is e = absurd (none-some k e)
    from (Some j) is e =
        let w = later j is in
        (w.0, ap (slice_get (y ∷ ys)) (sym (same_Some (suc j) k e)) ∙ w.1, w.2)

first_at : {A : Type 0} (p : A → Bool) (xs : List A) (k : ℕ) → first_place p xs ≡ Some k
    → (x : A) × (slice_get xs k ≡ Some x) × (p x ≡ true)
first_at p [] k e = absurd (none-some k e)
first_at p (y ∷ ys) k e = one_at p y ys (p y) k refl (λ j is. first_at p ys j is) e

pub at_place : {A : Type 0} (p : A → Bool) (xs : List A) (k : ℕ) → position p xs ≡ Some k
    → (x : A) × (slice_get xs k ≡ Some x) × (p x ≡ true)
at_place p xs k e = first_at p xs k (sym (position_is p xs) ∙ e)

-- ---- lists from which none is left out

-- each of a list is given something
abbrev pub EachGiven : {A B : Type 0} → (A → Option B) → List A → Type 0
EachGiven {A} {B} f xs = (x : A) → Contains xs x → (y : B) × (f x ≡ Some y)

pub given_at : {A B : Type 0} (f : A → Option B) (xs : List A) (k : ℕ) → EachGiven f xs
    → slice_get (filter_map f xs) k ≡ option_and_then f (slice_get xs k)
given_at f [] k each = refl
given_at f (x ∷ xs) zero each =
    let y = each x (in_front x xs) in
    ap (λ o. slice_get (cons_option o (filter_map f xs)) 0) y.1 ∙ sym y.1
given_at f (x ∷ xs) (suc k) each =
    let y = each x (in_front x xs) in
    ap (λ o. slice_get (cons_option o (filter_map f xs)) (suc k)) y.1
    ∙ given_at f xs k (λ z c. each z (in_rest z x xs c))

pub given_length : {A B : Type 0} (f : A → Option B) (xs : List A) → EachGiven f xs
    → length (filter_map f xs) ≡ length xs
given_length f [] each = refl
given_length f (x ∷ xs) each =
    let y = each x (in_front x xs) in
    ap (λ o. length (cons_option o (filter_map f xs))) y.1
    ∙ ap suc (given_length f xs (λ z c. each z (in_rest z x xs c)))

kept_one : {A B : Type 0} (f : A → Option B) (b : Bool) (x : A) (ys : List B) (zs : List A)
    → (b ≡ false → f x ≡ None) → ys ≡ filter_map f zs
    → cons_option (f x) ys ≡ filter_map f (cond b (x ∷ zs) zs)
kept_one f true x ys zs none rest = ap (cons_option (f x)) rest
kept_one f false x ys zs none rest = ap (λ o. cons_option o ys) (none refl) ∙ rest

-- those that are given nothing may be left out before
pub given_kept : {A B : Type 0} (f : A → Option B) (p : A → Bool) (xs : List A)
    → ((x : A) → p x ≡ false → f x ≡ None) → filter_map f xs ≡ filter_map f (filter p xs)
given_kept f p [] none = refl
given_kept f p (x ∷ xs) none =
    kept_one f (p x) x (filter_map f xs) (filter p xs) (none x) (given_kept f p xs none)

-- ---- the first that passes

found_cond : {A : Type 0} (p : A → Bool) (b : Bool) (y : A) (ys : List A) (x : A) → p y ≡ b
    → (find p ys ≡ Some x → Contains ys x × (p x ≡ true)) → cond b (Some y) (find p ys) ≡ Some x
    → Contains (y ∷ ys) x × (p x ≡ true)
found_cond p true y ys x is later e =
    ((0, omega arith, same_Some y x e), ap p (sym (same_Some y x e)) ∙ is)
found_cond p false y ys x is later e = (let w = later e in (in_rest x y ys w.0, w.1))

pub found_is : {A : Type 0} (p : A → Bool) (xs : List A) (x : A) → find p xs ≡ Some x
    → Contains xs x × (p x ≡ true)
found_is p [] x e = absurd (none-some x e)
found_is p (y ∷ ys) x e = found_cond p (p y) y ys x refl (λ later. found_is p ys x later) e

any_cond : {A : Type 0} (b : Bool) (y : A) (o : Option A) (rest : Bool)
    → (rest ≡ true → (x : A) × (o ≡ Some x)) → (b || rest) ≡ true
    → (x : A) × (cond b (Some y) o ≡ Some x)
any_cond true y o rest later e = (y, refl)
any_cond false y o rest later e = later e

pub finds_any : {A : Type 0} (p : A → Bool) (xs : List A) → list_any p xs ≡ true
    → (x : A) × (find p xs ≡ Some x)
finds_any p [] e = absurd (false≢true e)
finds_any p (y ∷ ys) e =
    any_cond (p y) y (find p ys) (list_any p ys) (λ later. finds_any p ys later) e

-- What is in a list that is made of another.
use Rattle.std.proofs.Common.{◌≡◌, ◌⊎◌, inl, inr, ℕ, zero, suc, ◌+◌, ◌-◌, ◌<◌, Bool, true, false, cond, List, [], ◌∷◌, length, get_or, map, reverse, filter, filter_map, flat_map, slice_get, Contains, Option, Some, None, option_map, option_and_then, option_to_list, refl, sym, ap, subst, ◌∙◌, arith}
use Rattle.std.specs.List.{cons_option, range_with_len, enumerate_from}
use Rattle.std.specs.Option.{option_map_or}
use Rattle.std.proofs.lemmas.List.{get_or-reverse, length-reverse}
use Rattle.std.proofs.lemmas.List.Elements.{Contains-append_left, Contains-append_right, Contains-append_cases}
use Rattle.std.proofs.lemmas.List.FromFn.{length-range_with_len, get_or-range_with_len}
use Rattle.std.proofs.lemmas.Option.{none-some, same_Some, get_or_from_slice_get, slice_get_within}
use Rattle.dg_decl.proofs.NodeWalks.{in_rest}

pub none_in : {A : Type 0} (x : A) → Contains [] x → ⊥
none_in x c = (let lt : c.0 < 0 = c.1 in omega arith)

pub in_front : {A : Type 0} (x : A) (xs : List A) → Contains (x ∷ xs) x
in_front x xs = (0, omega arith, refl)

split_at : {A : Type 0} (x y : A) (ys : List A) (k : ℕ) → k < length (y ∷ ys)
    → get_or (y ∷ ys) k x ≡ x → (y ≡ x) ⊎ Contains ys x
split_at x y ys zero lt e = inl e
split_at x y ys (suc k) lt e = inr (k, omega arith, e)

-- one of a list is its first or one of the rest
pub first_or_rest : {A : Type 0} (x y : A) (ys : List A) → Contains (y ∷ ys) x
    → (y ≡ x) ⊎ Contains ys x
first_or_rest x y ys c = split_at x y ys c.0 c.1 c.2

pub the_one : {A : Type 0} (x y : A) → Contains (y ∷ []) x → y ≡ x
the_one x y c =
    elim (first_or_rest x y [] c) [
      | inl e ↦ e
      | inr r ↦ absurd (none_in x r)
    ]

-- ---- map

pub in_map : {A B : Type 0} (f : A → B) (xs : List A) (x : A) → Contains xs x
    → Contains (map f xs) (f x)
in_map f [] x c = absurd (none_in x c)
in_map f (y ∷ ys) x c =
    elim (first_or_rest x y ys c) [
      | inl e ↦ (0, omega arith, ap f e)
      | inr r ↦ in_rest (f x) (f y) (map f ys) (in_map f ys x r)
    ]

-- where one of a list comes from
abbrev pub ComesFrom : {A B : Type 0} → List A → (A → B → Type 0) → B → Type 0
ComesFrom {A} xs R y = (x : A) × Contains xs x × R x y

pub out_map : {A B : Type 0} (f : A → B) (xs : List A) (y : B) → Contains (map f xs) y
    → (x : A) × Contains xs x × (f x ≡ y)
out_map f [] y c = absurd (none_in y c)
out_map f (x ∷ xs) y c =
    elim (first_or_rest y (f x) (map f xs) c) [
      | inl e ↦ (x, in_front x xs, e)
      | inr r ↦ (let o = out_map f xs y r in (o.0, in_rest o.0 x xs o.1, o.2))
    ]

-- ---- filter

kept_front : {A : Type 0} (b : Bool) (x : A) (xs : List A) → b ≡ true
    → Contains (cond b (x ∷ xs) xs) x
kept_front b x xs e = rw e (in_front x xs)

kept_rest : {A : Type 0} (b : Bool) (x y : A) (ys : List A) → Contains ys x
    → Contains (cond b (y ∷ ys) ys) x
kept_rest true x y ys c = in_rest x y ys c
kept_rest false x y ys c = c

pub in_filter : {A : Type 0} (p : A → Bool) (xs : List A) (x : A) → Contains xs x → p x ≡ true
    → Contains (filter p xs) x
in_filter p [] x c h = absurd (none_in x c)
in_filter {A} p (y ∷ ys) x c h =
    elim (first_or_rest x y ys c) [
      | inl e ↦ (let P : A → Type 0 = λ z. Contains (cond (p y) (y ∷ filter p ys) (filter p ys)) z
          in
          subst P e (kept_front (p y) y (filter p ys) (ap p e ∙ h)))
      | inr r ↦ kept_rest (p y) x y (filter p ys) (in_filter p ys x r h)
    ]

out_kept : {A : Type 0} (b : Bool) (x y : A) (ys : List A) → Contains (cond b (y ∷ ys) ys) x
    → ((b ≡ true) × (y ≡ x)) ⊎ Contains ys x
out_kept true x y ys c =
    elim (first_or_rest x y ys c) [
      | inl e ↦ inl (refl, e)
      | inr r ↦ inr r
    ]
out_kept false x y ys c = inr c

pub out_filter : {A : Type 0} (p : A → Bool) (xs : List A) (x : A) → Contains (filter p xs) x
    → Contains xs x × (p x ≡ true)
out_filter p [] x c = absurd (none_in x c)
out_filter p (y ∷ ys) x c =
    elim (out_kept (p y) x y (filter p ys) c) [
      | inl w ↦ ((0, omega arith, w.1), ap p (sym w.1) ∙ w.0)
      | inr r ↦ (let o = out_filter p ys x r in (in_rest x y ys o.0, o.1))
    ]

-- ---- filter_map

given_front : {A : Type 0} (o : Option A) (x : A) (xs : List A) → o ≡ Some x
    → Contains (cons_option o xs) x
given_front o x xs e = rw e (in_front x xs)

given_rest : {A : Type 0} (o : Option A) (x : A) (xs : List A) → Contains xs x
    → Contains (cons_option o xs) x
given_rest None x xs c = c
given_rest (Some y) x xs c = in_rest x y xs c

pub in_filter_map : {A B : Type 0} (f : A → Option B) (xs : List A) (x : A) (y : B)
    → Contains xs x → f x ≡ Some y → Contains (filter_map f xs) y
in_filter_map f [] x y c h = absurd (none_in x c)
in_filter_map f (z ∷ zs) x y c h =
    elim (first_or_rest x z zs c) [
      | inl e ↦ given_front (f z) y (filter_map f zs) (ap f e ∙ h)
      | inr r ↦ given_rest (f z) y (filter_map f zs) (in_filter_map f zs x y r h)
    ]

out_given : {A : Type 0} (o : Option A) (x : A) (xs : List A) → Contains (cons_option o xs) x
    → (o ≡ Some x) ⊎ Contains xs x
out_given None x xs c = inr c
out_given (Some y) x xs c =
    elim (first_or_rest x y xs c) [
      | inl e ↦ inl (ap Some e)
      | inr r ↦ inr r
    ]

pub out_filter_map : {A B : Type 0} (f : A → Option B) (xs : List A) (y : B)
    → Contains (filter_map f xs) y → (x : A) × Contains xs x × (f x ≡ Some y)
out_filter_map f [] y c = absurd (none_in y c)
out_filter_map f (x ∷ xs) y c =
    elim (out_given (f x) y (filter_map f xs) c) [
      | inl e ↦ (x, in_front x xs, e)
      | inr r ↦ (let o = out_filter_map f xs y r in (o.0, in_rest o.0 x xs o.1, o.2))
    ]

-- ---- flat_map

pub in_flat_map : {A B : Type 0} (f : A → List B) (xs : List A) (x : A) (y : B) → Contains xs x
    → Contains (f x) y → Contains (flat_map f xs) y
in_flat_map f [] x y c h = absurd (none_in x c)
in_flat_map {A} {B} f (z ∷ zs) x y c h =
    elim (first_or_rest x z zs c) [
      | inl e ↦ (let P : A → Type 0 = λ a. Contains (f a) y in
          Contains-append_left (f z) (flat_map f zs) y (subst P (sym e) h))
      | inr r ↦ Contains-append_right (f z) (flat_map f zs) y (in_flat_map f zs x y r h)
    ]

pub out_flat_map : {A B : Type 0} (f : A → List B) (xs : List A) (y : B)
    → Contains (flat_map f xs) y → (x : A) × Contains xs x × Contains (f x) y
out_flat_map f [] y c = absurd (none_in y c)
out_flat_map f (x ∷ xs) y c =
    elim (Contains-append_cases (f x) (flat_map f xs) y c) [
      | inl h ↦ (x, in_front x xs, h)
      | inr r ↦ (let o = out_flat_map f xs y r in (o.0, in_rest o.0 x xs o.1, o.2))
    ]

-- ---- options

pub in_option : {A : Type 0} (o : Option A) (x : A) → o ≡ Some x → Contains (option_to_list o) x
in_option None x e = absurd (none-some x e)
in_option (Some y) x e = (0, omega arith, same_Some y x e)

pub out_option : {A : Type 0} (o : Option A) (x : A) → Contains (option_to_list o) x → o ≡ Some x
out_option None x c = absurd (none_in x c)
out_option (Some y) x c = ap Some (the_one x y c)

pub out_option_map : {A B : Type 0} (f : A → B) (o : Option A) (y : B) → option_map f o ≡ Some y
    → (x : A) × (o ≡ Some x) × (f x ≡ y)
out_option_map f None y e = absurd (none-some y e)
out_option_map f (Some x) y e = (x, refl, same_Some (f x) y e)

pub out_and_then : {A B : Type 0} (f : A → Option B) (o : Option A) (y : B)
    → option_and_then f o ≡ Some y → (x : A) × (o ≡ Some x) × (f x ≡ Some y)
out_and_then f None y e = absurd (none-some y e)
out_and_then f (Some x) y e = (x, refl, e)

pub out_list_of : {A B : Type 0} (f : A → List B) (o : Option A) (y : B)
    → Contains (option_map_or f o []) y → (x : A) × (o ≡ Some x) × Contains (f x) y
out_list_of f None y c = absurd (none_in y c)
out_list_of f (Some x) y c = (x, refl, c)

-- what an `if` without an `else` gives
pub out_if : {A : Type 0} (b : Bool) (xs : List A) (x : A) → Contains (cond b xs []) x
    → (b ≡ true) × Contains xs x
out_if true xs x c = (refl, c)
out_if false xs x c = absurd (none_in x c)

pub in_if : {A : Type 0} (b : Bool) (xs : List A) (x : A) → b ≡ true → Contains xs x
    → Contains (cond b xs []) x
in_if b xs x e c = rw e c

-- ---- other lists

pub in_got : {A : Type 0} (xs : List A) (k : ℕ) (x : A) → slice_get xs k ≡ Some x → Contains xs x
in_got xs k x e = (k, slice_get_within xs k x e, get_or_from_slice_get xs k x x e)

pub out_reverse : {A : Type 0} (xs : List A) (x : A) → Contains (reverse xs) x → Contains xs x
out_reverse xs x c =
    let lt : c.0 < length xs = omega (arith, c.1, length-reverse xs) in
    (length xs - 1 - c.0, omega arith, sym (get_or-reverse xs c.0 x lt) ∙ c.2)

pub in_reverse : {A : Type 0} (xs : List A) (x : A) → Contains xs x → Contains (reverse xs) x
in_reverse xs x c =
    let lt : c.0 < length xs = c.1 in
    let place : ℕ = length xs - 1 - c.0 in
    let within : length xs - 1 - c.0 < length xs = omega arith in
    let back : length xs - 1 - (length xs - 1 - c.0) ≡ c.0 = omega arith in (
      length xs - 1 - c.0,
      omega (arith, length-reverse xs),
      get_or-reverse xs (length xs - 1 - c.0) x within ∙ ap (λ k. get_or xs k x) back ∙ c.2,
    )

pub in_range : (n c : ℕ) → c < n → Contains (range_with_len 0 n) c
in_range n c lt = (
  c,
  omega (arith, length-range_with_len 0 n),
  get_or-range_with_len 0 n c c lt ∙
      (let e : 0 + c ≡ c = omega arith in e),
)

pub out_range : (n c : ℕ) → Contains (range_with_len 0 n) c → c < n
out_range n c h =
    let lt : h.0 < n = omega (arith, h.1, length-range_with_len 0 n) in
    let e : 0 + h.0 ≡ c = sym (get_or-range_with_len 0 n h.0 c lt) ∙ h.2 in
    omega arith

pub out_enumerate : {A : Type 0} (k : ℕ) (xs : List A) (p : ℕ × A)
    → Contains (enumerate_from k xs) p → Contains xs p.1
out_enumerate k [] p c = absurd (none_in p c)
out_enumerate {A} k (x ∷ xs) p c =
    elim (first_or_rest p (k, x) (enumerate_from (k + 1) xs) c) [
      | inl e ↦ (0, omega arith, ap (λ (q : ℕ × A). q.1) e)
      | inr r ↦ in_rest p.1 x xs (out_enumerate (k + 1) xs p r)
    ]

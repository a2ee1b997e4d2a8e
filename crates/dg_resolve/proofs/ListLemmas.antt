-- Lists that are made of lists and of ranges.
use Rattle.std.proofs.Common.{◌≡◌, inl, inr, ℕ, zero, suc, ◌+◌, ◌-◌, ◌<◌, ◌≤◌, ◌==◌, nat_eq, Bool, true, false, cond, not, ◌||◌, List, [], ◌∷◌, ◌++◌, length, map, reverse, filter, filter_map, flat_map, slice_get, Contains, Option, Some, None, option_to_list, if◌then◌else◌, refl, sym, ap, subst, ◌∙◌, arith}
use Rattle.std.specs.List.{list_any, range_with_len, cons_option}
use Rattle.std.proofs.lemmas.Bool.{eqb-false, ne_eqb, eq-eqb}
use Rattle.std.proofs.lemmas.Bool.Decides.{Decides-eqb}
use Rattle.std.proofs.lemmas.List.{append-nil, append_assoc}
use Rattle.std.proofs.lemmas.Grind.{flat_map-append}
use Rattle.dg_decl.proofs.MemberLemmas.{in_front, none_in, out_reverse, in_reverse, out_range}
use Rattle.dg_decl.proofs.NodeWalks.{in_rest}

-- functions that agree on a list make one list of it
pub flat_map_same : {X A : Type 0} (f g : X → List A) (xs : List X)
    → ((x : X) → Contains xs x → f x ≡ g x) → flat_map f xs ≡ flat_map g xs
flat_map_same f g [] e = refl
flat_map_same f g (x ∷ xs) e =
    ap (λ (l : List _). l ++ flat_map f xs) (e x (in_front x xs))
    ∙ ap (λ (l : List _). g x ++ l) (flat_map_same f g xs (λ y c. e y (in_rest y x xs c)))

pub flat_map_nothing : {X A : Type 0} (f : X → List A) (xs : List X)
    → ((x : X) → Contains xs x → f x ≡ []) → flat_map f xs ≡ []
flat_map_nothing f [] e = refl
flat_map_nothing f (x ∷ xs) e =
    ap (λ (l : List _). l ++ flat_map f xs) (e x (in_front x xs))
    ∙ flat_map_nothing f xs (λ y c. e y (in_rest y x xs c))

-- a filter, as a list of none or one for each
pub filter_as : {X A : Type 0} (p : X → Bool) (f : X → A) (xs : List X)
    → flat_map (λ x. if p x then f x ∷ [] else []) xs ≡ map f (filter p xs)
filter_as p f [] = refl
filter_as p f (x ∷ xs) = by (p x) (filter_as p f xs)
  where
    by : (b : Bool) → flat_map (λ x. if p x then f x ∷ [] else []) xs ≡ map f (filter p xs)
        → (if b then f x ∷ [] else []) ++ flat_map (λ x. if p x then f x ∷ [] else []) xs
        ≡ map f (cond b (x ∷ filter p xs) (filter p xs))
    by true e = ap (λ (l : List _). f x ∷ l) e
    by false e = e

pub any_same : {X : Type 0} (p q : X → Bool) (xs : List X)
    → ((x : X) → Contains xs x → p x ≡ q x) → list_any p xs ≡ list_any q xs
any_same p q [] e = refl
any_same p q (x ∷ xs) e =
    ap (λ (b : Bool). b || list_any p xs) (e x (in_front x xs))
    ∙ ap (λ (b : Bool). q x || b) (any_same p q xs (λ y c. e y (in_rest y x xs c)))

-- ---- ranges

module _ {X : Type 0} (f : ℕ → X) where
  at_range_from : (a n i : ℕ) → i < n → slice_get (map f (range_with_len a n)) i ≡ Some (f (a + i))
  at_range_from a zero i lt = absurd (omega arith)
  at_range_from a (suc n) zero lt = ap (λ (k : ℕ). Some (f k)) (omega arith)
  at_range_from a (suc n) (suc i) lt =
      at_range_from (a + 1) n i (omega arith)
      ∙ ap (λ (k : ℕ). Some (f k)) (omega arith)

  pub at_range : (n i : ℕ) → i < n → slice_get (map f (range_with_len 0 n)) i ≡ Some (f i)
  at_range n i lt = at_range_from 0 n i lt ∙ ap (λ (k : ℕ). Some (f k)) (omega arith)

module _ {A : Type 0} (p : ℕ → Bool) (f : ℕ → List A) (c : ℕ) (others : (x : ℕ) → (c == x) ≡ false → f x ≡ []) where
  abbrev picked : ℕ → ℕ → List ℕ
  picked a n = flat_map (λ x. if p x then x ∷ [] else []) (range_with_len a n)

  one : (x : ℕ) (b : Bool) → flat_map f (if b then x ∷ [] else []) ≡ (if b then f x else [])
  one x true = append-nil (f x)
  one x false = refl

  other : (x : ℕ) (b : Bool) → (c == x) ≡ false → (if b then f x else []) ≡ []
  other x true e = others x e
  other x false e = refl

  cons : (a n : ℕ) → flat_map f (picked a (suc n)) ≡ (if p a then f a else []) ++ flat_map f (picked (a + 1) n)
  cons a n =
      flat_map-append f (if p a then a ∷ [] else []) (picked (a + 1) n)
      ∙ ap (λ (l : List A). l ++ flat_map f (picked (a + 1) n)) (one a (p a))

  behind : (a n : ℕ) → c < a → flat_map f (picked a n) ≡ []
  behind a zero lt = refl
  behind a (suc n) lt =
      let ne : c ≡ a → ⊥ = (λ (e : c ≡ a). omega (arith, e)) in
      cons a n
      ∙ ap (λ (l : List A). l ++ flat_map f (picked (a + 1) n)) (other a (p a) (ne_eqb c a ne))
      ∙ behind (a + 1) n (omega arith)

  from : (a n : ℕ) → a ≤ c → c < a + n → flat_map f (picked a n) ≡ (if p c then f c else [])
  from a zero le lt = absurd (omega arith)
  from a (suc n) le lt = by (c == a) refl (λ more. from (a + 1) n more (omega arith))
    where
      by : (b : Bool) → (c == a) ≡ b
          → (a + 1 ≤ c → flat_map f (picked (a + 1) n) ≡ (if p c then f c else []))
          → flat_map f (picked a (suc n)) ≡ (if p c then f c else [])
      by true e rest =
          let same : c ≡ a = (Decides-eqb c a).0 e in
          cons a n
          ∙ ap (λ (l : List A). (if p a then f a else []) ++ l) (behind (a + 1) n (omega (arith, same)))
          ∙ append-nil (if p a then f a else [])
          ∙ ap (λ (x : ℕ). if p x then f x else []) (sym same)
      by false e rest =
          let ne : c ≡ a → ⊥ = eqb-false c a e in
          cons a n
          ∙ ap (λ (l : List A). l ++ flat_map f (picked (a + 1) n)) (other a (p a) e)
          ∙ rest (omega (arith, ne))

  -- of the numbers that pass, one alone makes a list
  pub pick : (n : ℕ) → c < n
      → flat_map f (flat_map (λ x. if p x then x ∷ [] else []) (range_with_len 0 n)) ≡ (if p c then f c else [])
  pick n lt = from 0 n (omega arith) (omega arith)

-- ---- one more number

range_more : (a n : ℕ) → range_with_len a (suc n) ≡ range_with_len a n ++ (a + n) ∷ []
range_more a zero = ap (λ (k : ℕ). k ∷ []) (omega arith)
range_more a (suc n) =
    ap (λ (l : List ℕ). a ∷ l) (range_more (a + 1) n)
    ∙ ap (λ (k : ℕ). a ∷ (range_with_len (a + 1) n ++ k ∷ [])) (omega arith)

pub up_more : {A : Type 0} (f : ℕ → List A) (n : ℕ)
    → flat_map f (range_with_len 0 n) ++ f n ≡ flat_map f (range_with_len 0 (n + 1))
up_more f n =
    let next : n + 1 ≡ suc n = omega arith in
    let last : 0 + n ≡ n = omega arith in
    sym (ap (λ (k : ℕ). flat_map f (range_with_len 0 k)) next
    ∙ ap (flat_map f) (range_more 0 n)
    ∙ flat_map-append f (range_with_len 0 n) ((0 + n) ∷ [])
    ∙ ap (λ (k : ℕ). flat_map f (range_with_len 0 n) ++ flat_map f (k ∷ [])) last
    ∙ ap (λ (l : List _). flat_map f (range_with_len 0 n) ++ l) (append-nil (f n)))

-- How the tables of classes grow.
use Rattle.std.proofs.Common.{◌≡◌, ℕ, suc, ◌+◌, ◌<◌, ◌≤◌, ◌==◌, Bool, true, false, ◌&&◌, List, [], ◌∷◌, ◌++◌, length, take, get_or, set, if◌then◌else◌, refl, sym, ap, ◌∙◌, arith}
use Rattle.std.specs.List.{flat_map, range_with_len}
use Rattle.std.proofs.lemmas.Bool.{eqb-false}
use Rattle.std.proofs.lemmas.Bool.Decides.{Decides-eqb}
use Rattle.std.proofs.lemmas.List.{append-nil, append_assoc, length-set, flat_map_more}
use Rattle.std.proofs.lemmas.Option.{unwrap_or-slice_get}
use Rattle.std.proofs.lemmas.List.{get_or-set_same, get_or-set_other}
use Rattle.dg_types.specs.declared.key.Key.{Key}
use Rattle.dg_types.specs.Equality.{same_key}
use Rattle.dg_decl.specs.declared.binding.Owned.{Owned}
use Rattle.dg_resolve.proofs.ListLemmas.{up_more}
use Rattle.dg_resolve.specs.Tables.{Rows, of_key, of_class, Adds, Grows, row}

-- nothing more
pub grows_none : (more : ℕ → Key → List Owned) (t : List Rows)
    → ((c : ℕ) (k : Key) → c < length t → more c k ≡ []) → Grows more t t
grows_none more t e = record {
  count = refl;
  each = λ c k h. sym (append-nil (of_class c k t)) ∙ ap (λ (l : List Owned). of_class c k t ++ l) (sym (e c k h));
}

-- first these, and then those
pub grows_then : (f g : ℕ → Key → List Owned) (a b d : List Rows) → Grows f a b → Grows g b d
    → Grows (λ c k. f c k ++ g c k) a d
grows_then f g a b d x y = record {
  count = y.count ∙ x.count;
  each = λ c k h.
      let lt : c < length b = omega (arith, x.count) in
      y.each c k lt ∙ ap (λ (l : List Owned). l ++ g c k) (x.each c k h)
      ∙ append_assoc (of_class c k a) (f c k) (g c k);
}

pub grows_as : (f g : ℕ → Key → List Owned) (a b : List Rows)
    → ((c : ℕ) (k : Key) → c < length a → f c k ≡ g c k) → Grows f a b → Grows g a b
grows_as f g a b e x = record {
  count = x.count;
  each = λ c k h. x.each c k h ∙ ap (λ (l : List Owned). of_class c k a ++ l) (e c k h);
}

-- one more of a list
pub grows_more : {X : Type 0} (f : X → ℕ → Key → List Owned) (done all : List X) (x : X) (a b d : List Rows)
    → all ≡ done ++ x ∷ [] → Grows (λ c k. flat_map (λ y. f y c k) done) a b → Grows (f x) b d
    → Grows (λ c k. flat_map (λ y. f y c k) all) a d
grows_more f done all x a b d e before now = record {
  count = now.count ∙ before.count;
  each = λ c k h.
      let lt : c < length b = omega (arith, before.count) in
      now.each c k lt ∙ ap (λ (l : List Owned). l ++ f x c k) (before.each c k h)
      ∙ flat_map_more (λ y. f y c k) (of_class c k a) done x
      ∙ ap (λ (ys : List _). of_class c k a ++ flat_map (λ y. f y c k) ys) (sym e);
}

-- one more in the table of a class
pub grows_at : (class : ℕ) (key : Key) (o : Owned) (old : List Rows) (r new : Rows)
    → class < length old → r ≡ get_or old class [] → Adds same_key key o r new
    → Grows (row class key o) old (set old class new)
grows_at class key o old r new lt is a = record {
  count = length-set old class new;
  each = λ c k h. at c k (c == class) refl;
}
  where
    at : (c : ℕ) (k : Key) (b : Bool) → (c == class) ≡ b
        → of_class c k (set old class new)
        ≡ of_class c k old ++ (if b && same_key k key then o ∷ [] else [])
    at c k true e =
        let same : c ≡ class = (Decides-eqb c class).0 e in
        ap (of_key k) (unwrap_or-slice_get (set old class new) c []
        ∙ ap (λ (n : ℕ). get_or (set old class new) n []) same
        ∙ get_or-set_same old class new [] lt)
        ∙ a.each k
        ∙ ap (λ (x : Rows). of_key k x ++ (if same_key k key then o ∷ [] else []))
        (is ∙ ap (λ (n : ℕ). get_or old n []) (sym same) ∙ sym (unwrap_or-slice_get old c []))
    at c k false e =
        let other : c ≡ class → ⊥ = eqb-false c class e in
        ap (of_key k) (unwrap_or-slice_get (set old class new) c []
        ∙ get_or-set_other old class c new [] other
        ∙ sym (unwrap_or-slice_get old c []))
        ∙ sym (append-nil (of_class c k old))

-- a class without a table changes nothing
pub grows_nowhere : (class : ℕ) (key : Key) (o : Owned) (old : List Rows) → length old ≤ class
    → Grows (row class key o) old old
grows_nowhere class key o old past = grows_none (row class key o) old (λ c k h. at c k h (c == class) refl)
  where
    at : (c : ℕ) (k : Key) → c < length old → (b : Bool) → (c == class) ≡ b
        → (if b && same_key k key then o ∷ [] else []) ≡ []
    at c k h false e = refl
    at c k h true e = let same : c ≡ class = (Decides-eqb c class).0 e in absurd (omega (arith, same))

-- one more number
pub grows_up : (f : ℕ → ℕ → Key → List Owned) (n : ℕ) (a b d : List Rows)
    → Grows (λ c k. flat_map (λ x. f x c k) (range_with_len 0 n)) a b → Grows (f n) b d
    → Grows (λ c k. flat_map (λ x. f x c k) (range_with_len 0 (n + 1))) a d
grows_up f n a b d before now = record {
  count = now.count ∙ before.count;
  each = λ c k h.
      let lt : c < length b = omega (arith, before.count) in
      now.each c k lt ∙ ap (λ (l : List Owned). l ++ f n c k) (before.each c k h)
      ∙ append_assoc (of_class c k a) (flat_map (λ x. f x c k) (range_with_len 0 n)) (f n c k)
      ∙ ap (λ (l : List Owned). of_class c k a ++ l) (up_more (λ x. f x c k) n);
}

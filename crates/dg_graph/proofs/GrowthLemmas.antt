-- Lists that grow by elements that they don't have.
use Rattle.std.proofs.Common.{◌≡◌, inl, inr, ℕ, ◌+◌, ◌<◌, Bool, true, false, List, [], ◌∷◌, ◌++◌, length, get_or, take, filter_map, map, flat_map, Contains, Option, Some, None, option_to_list, if◌then◌else◌, append_assoc, refl, sym, ap, subst, ◌∙◌, arith}
use Rattle.std.specs.List.{list_any, cons_option}
use Rattle.std.proofs.lemmas.List.{append-nil, take_more, map-append}
use Rattle.std.proofs.lemmas.List.Elements.{filter_map-append, Contains-append_left, Contains-append_right, Contains-append_cases}
use Rattle.indexmap.specs.IndexSet.{insert_key}
use Rattle.indexmap.proofs.CallerLemmas.{Contains-list_any}
use Rattle.dg_decl.specs.declared.graph.Node.{Node}
use Rattle.dg_decl.specs.contracts.graph.NodePartialEq.TheImpl as of_nodes
use Rattle.dg_decl.proofs.MemberLemmas.{none_in, the_one}
use Rattle.dg_graph.specs.Growth.{Grows}
use Rattle.std.specs.Cmp.{first_so, second_so}
use Rattle.std.proofs.lemmas.Bool.{eqb-true}
use Rattle.std.proofs.lemmas.Grind.{flat_map-append}
use Rattle.dg_graph.specs.Kept.{same}
use Rattle.dg_graph.proofs.DerivedEquality.{same_decides}

pub nothing_in : {A : Type 0} (xs : List A) → length xs ≡ 0 → xs ≡ []
nothing_in [] e = refl
nothing_in (x ∷ xs) e = absurd (omega (arith, e))

pub grows_none : {A : Type 0} (old : List A) → Grows [] old old
grows_none old = record {
  added = [];
  whole = sym (append-nil old);
  only = λ x h. h;
  all = λ x h. absurd (none_in x h);
}

pub grows_then : {A : Type 0} (xs ys old mid new : List A) → Grows xs old mid → Grows ys mid new
    → Grows (xs ++ ys) old new
grows_then {A} xs ys old mid new g h = record {
  added = g.added ++ h.added;
  whole = h.whole ∙ ap (λ (l : List A). l ++ h.added) g.whole ∙ append_assoc old g.added h.added;
  only = λ x among. elim (Contains-append_cases g.added h.added x among) [
    | inl l ↦ Contains-append_left xs ys x (g.only x l)
    | inr r ↦ Contains-append_right xs ys x (h.only x r)
  ];
  all = λ x among. elim (Contains-append_cases xs ys x among) [
    | inl l ↦ subst (λ (k : List A). Contains k x) (sym h.whole)
        (Contains-append_left mid h.added x (g.all x l))
    | inr r ↦ h.all x r
  ];
}

-- the same of a list that is the whole
pub grows_on : {A : Type 0} (xs ys zs old mid new : List A) → zs ≡ xs ++ ys → Grows xs old mid
    → Grows ys mid new → Grows zs old new
grows_on {A} xs ys zs old mid new e g h =
    subst (λ (l : List A). Grows l old new) (sym e) (grows_then xs ys old mid new g h)

-- ---- a node is added

grows_by : {A : Type 0} (eq : A → A → Bool) → ((x y : A) → eq x y ≡ true → x ≡ y)
    → (old new : List A) (n : A) → new ≡ insert_key eq old n → Grows (n ∷ []) old new
grows_by {A} eq same old new n e = by (list_any (eq n) old) refl
  where
    by : (b : Bool) → list_any (eq n) old ≡ b → Grows (n ∷ []) old new
    by true there =
        let is : new ≡ old = e ∙ ap (λ (c : Bool). if c then old else old ++ n ∷ []) there in
        record {
          added = [];
          whole = is ∙ sym (append-nil old);
          only = λ x h. absurd (none_in x h);
          all = λ x h. subst (λ (m : A). Contains new m) (the_one x n h)
              (subst (λ (l : List A). Contains l n) (sym is)
              (Contains-list_any eq same old n there));
        }
    by false there =
        let is : new ≡ old ++ n ∷ [] = e ∙ ap (λ (c : Bool). if c then old else old ++ n ∷ [])
        there in
        record {
          added = n ∷ [];
          whole = is;
          only = λ x h. h;
          all = λ x h. subst (λ (l : List A). Contains l x) (sym is)
              (Contains-append_right old (n ∷ []) x h);
        }

pub grows_by_one : (old new : List Node) (n : Node) → new ≡ insert_key of_nodes.ghosts.eq old n
    → Grows (n ∷ []) old new
unfolding same
grows_by_one old new n e = grows_by of_nodes.ghosts.eq (λ x y. (same_decides x y).0) old new n e

-- ---- once there is one more

pub map_take_more : {A B : Type 0} (f : A → B) (xs : List A) (i : ℕ) (d : A) → i < length xs
    → map f (take (i + 1) xs) ≡ map f (take i xs) ++ f (get_or xs i d) ∷ []
map_take_more {A} {B} f xs i d lt =
    ap (map f) (take_more xs i d lt) ∙ map-append f (take i xs) (get_or xs i d ∷ [])

pub flat_map_one_more : {A B : Type 0} (f : A → List B) (xs : List A) (i : ℕ) (x : A)
    → i < length xs
    → x ≡ get_or xs i x → flat_map f (take (i + 1) xs) ≡ flat_map f (take i xs) ++ f x
flat_map_one_more {A} {B} f xs i x lt is =
    ap (flat_map f) (take_more xs i x lt)
    ∙ ap (λ (y : A). flat_map f (take i xs ++ y ∷ [])) (sym is)
    ∙ flat_map-append f (take i xs) (x ∷ [])
    ∙ ap (λ (l : List B). flat_map f (take i xs) ++ l) (append-nil (f x))

one_kept : {A B : Type 0} (f : A → Option B) (x : A) → filter_map f (x ∷ []) ≡ option_to_list (f x)
one_kept {A} {B} f x = by (f x)
  where
    by : (o : Option B) → cons_option o [] ≡ option_to_list o
    by None = refl
    by (Some y) = refl

pub filter_map_more : {A B : Type 0} (f : A → Option B) (xs : List A) (i : ℕ) (x : A)
    → i < length xs
    → x ≡ get_or xs i x → filter_map f (take (i + 1) xs) ≡ filter_map f
    (take i xs) ++ option_to_list (f x)
filter_map_more {A} {B} f xs i x lt is =
    ap (filter_map f) (take_more xs i x lt)
    ∙ ap (λ (y : A). filter_map f (take i xs ++ y ∷ [])) (sym is)
    ∙ filter_map-append f (take i xs) (x ∷ [])
    ∙ ap (λ (l : List B). filter_map f (take i xs) ++ l) (one_kept f x)

pub map_one_more : {A B : Type 0} (f : A → B) (xs : List A) (i : ℕ) (x : A) → i < length xs
    → x ≡ get_or xs i x → map f (take (i + 1) xs) ≡ map f (take i xs) ++ f x ∷ []
map_one_more {A} {B} f xs i x lt is =
    ap (map f) (take_more xs i x lt)
    ∙ ap (λ (y : A). map f (take i xs ++ y ∷ [])) (sym is)
    ∙ map-append f (take i xs) (x ∷ [])

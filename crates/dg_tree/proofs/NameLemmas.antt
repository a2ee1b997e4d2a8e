-- Tables by name: look-ups, an entry more, and that no name is there twice.
use Rattle.std.proofs.Common.{◌≡◌, ◌⊎◌, inl, inr, ℕ, zero, suc, ◌+◌, Bool, true, false, not, cond, List, [], ◌∷◌, ◌++◌, map, slice_get, get_or, position, Option, Some, None, Contains, if◌then◌else◌, refl, sym, ap, subst, ◌∙◌, true≢false, arith}
use Rattle.std.specs.List.{IsDistinct, AllByRecursion, position_or_len}
use Rattle.std.specs.Map.{lookup, keys_of}
use Rattle.std.specs.Option.{option_map}
use Rattle.std.proofs.lemmas.List.{append-nil}
use Rattle.std.proofs.lemmas.List.Elements.{Contains-append_left, Contains-append_right, Contains-append_cases, Contains-get_or}
use Rattle.std.proofs.lemmas.List.Quantifiers.{position-Some}
use Rattle.std.proofs.lemmas.Map.Views.{Contains-from_lookup}
use Rattle.std.proofs.lemmas.Option.{slice_get-map, slice_get-get_or}
use Rattle.indexmap.specs.IndexMap.{insert_entry}
use Rattle.dg_value.specs.declared.value.Kept.{Kept}
use Rattle.dg_eval.specs.Runs.{Asked}
use Rattle.dg_tree.specs.Stores.{names_of, IsEachOnce}
use Rattle.dg_tree.specs.Tables.{names_in, entries_in}

-- ---- elements

pub contains_head : {A : Type 0} (x : A) (xs : List A) → Contains (x ∷ xs) x
contains_head x xs = Contains-get_or (x ∷ xs) 0 x (omega arith)

pub contains_tail : {A : Type 0} (y : A) (xs : List A) (x : A) → Contains xs x → Contains (y ∷ xs) x
contains_tail y xs x c = Contains-append_right (y ∷ []) xs x c

pub none_contained : {A : Type 0} (x : A) → Contains [] x → ⊥
none_contained x c = absurd (omega (arith, c.1))

pub only_one : {A : Type 0} (y x : A) → Contains (y ∷ []) x → y ≡ x
only_one y x (zero, within, is) = is
only_one y x (suc k, within, is) = absurd (omega (arith, within))

pub contains_cases : {A : Type 0} (y : A) (xs : List A) (x : A) → Contains (y ∷ xs) x
    → (y ≡ x) ⊎ Contains xs x
contains_cases y xs x c =
    elim (Contains-append_cases (y ∷ []) xs x c) [
      | inl a ↦ inl (only_one y x a)
      | inr b ↦ inr b
    ]

pub contains_map : {A B : Type 0} (f : A → B) (xs : List A) (x : A) → Contains xs x
    → Contains (map f xs) (f x)
contains_map f [] x c = absurd (none_contained x c)
contains_map f (y ∷ ys) x c =
    elim (contains_cases y ys x c) [
      | inl e ↦ subst (λ z. Contains (f y ∷ map f ys) (f z)) e (contains_head (f y) (map f ys))
      | inr b ↦ contains_tail (f y) (map f ys) (f x) (contains_map f ys x b)
    ]

-- what has a name has a content
pub content_of_name : (es : List (Asked × Kept)) (x : Asked) → Contains (names_of es) x
    → (kept : Kept) × Contains es (x, kept)
content_of_name [] x c = absurd (none_contained x c)
content_of_name (e ∷ es) x c =
    elim (contains_cases e.0 (names_of es) x c) [
      | inl same ↦ (e.1, subst (λ z. Contains (e ∷ es) (z, e.1)) same (contains_head e es))
      | inr b ↦ (let rest = content_of_name es x b in
          (rest.0, contains_tail e es (x, rest.0) rest.1))
    ]

-- ---- an entry more

-- a content is stored under a name, or was
pub record Adds (x : Asked) (kept : Kept) (old new : List (Asked × Kept)) : Type 0 where
  pub each : (y : Asked) (k : Kept) → Contains new (y, k)
      → Contains old (y, k) ⊎ (◌≡◌ {A = Asked × Kept} (x, kept) (y, k))
  pub stays : (y : Asked) → Contains (names_of old) y → Contains (names_of new) y
  pub there : Contains (names_of new) x

-- it's added on the left of others, or on the right
pub names_join : (xs ys : List (Asked × Kept)) → names_of (xs ++ ys) ≡ names_of xs ++ names_of ys
names_join [] ys = refl
names_join (x ∷ xs) ys = ap (λ (l : List Asked). x.0 ∷ l) (names_join xs ys)

pub named_left : (xs ys : List (Asked × Kept)) (y : Asked) → Contains (names_of xs) y
    → Contains (names_of (xs ++ ys)) y
named_left xs ys y c =
    subst (λ (l : List Asked). Contains l y) (sym (names_join xs ys))
    (Contains-append_left (names_of xs) (names_of ys) y c)

pub named_right : (xs ys : List (Asked × Kept)) (y : Asked) → Contains (names_of ys) y
    → Contains (names_of (xs ++ ys)) y
named_right xs ys y c =
    subst (λ (l : List Asked). Contains l y) (sym (names_join xs ys))
    (Contains-append_right (names_of xs) (names_of ys) y c)

pub named_cases : (xs ys : List (Asked × Kept)) (y : Asked) → Contains (names_of (xs ++ ys)) y
    → Contains (names_of xs) y ⊎ Contains (names_of ys) y
named_cases xs ys y c =
    Contains-append_cases (names_of xs) (names_of ys) y
    (subst (λ (l : List Asked). Contains l y) (names_join xs ys) c)

pub adds_left : (x : Asked) (kept : Kept) (old new others : List (Asked × Kept))
    → Adds x kept old new → Adds x kept (old ++ others) (new ++ others)
adds_left x kept old new others adds = record {
  each = λ y k c. elim (Contains-append_cases new others (y, k) c) [
    | inl a ↦ elim (adds.each y k a) [
      | inl b ↦ inl (Contains-append_left old others (y, k) b)
      | inr e ↦ inr e
    ]
    | inr b ↦ inl (Contains-append_right old others (y, k) b)
  ];
  stays = λ y c. elim (named_cases old others y c) [
    | inl a ↦ named_left new others y (adds.stays y a)
    | inr b ↦ named_right new others y b
  ];
  there = named_left new others x adds.there;
}

pub adds_right : (x : Asked) (kept : Kept) (others old new : List (Asked × Kept))
    → Adds x kept old new → Adds x kept (others ++ old) (others ++ new)
adds_right x kept others old new adds = record {
  each = λ y k c. elim (Contains-append_cases others new (y, k) c) [
    | inl a ↦ inl (Contains-append_left others old (y, k) a)
    | inr b ↦ elim (adds.each y k b) [
      | inl d ↦ inl (Contains-append_right others old (y, k) d)
      | inr e ↦ inr e
    ]
  ];
  stays = λ y c. elim (named_cases others old y c) [
    | inl a ↦ named_left others new y a
    | inr b ↦ named_right others new y (adds.stays y b)
  ];
  there = named_right others new x adds.there;
}

module _ {K : Type 0} (eq : K → K → Bool) (name : K → Asked) (same : (a b : K) → eq a b ≡ true →
    a ≡ b) where
  -- keys keep their places, and a new one comes last
  pub names_grow : (es : List (K × Kept)) (k : K) (v : Kept)
      → (more : List Asked) × (names_in name (insert_entry eq es k v) ≡ names_in name es ++ more)
  names_grow [] k v = (name k ∷ [], refl)
  names_grow (e ∷ es) k v = by (eq k e.0) (names_grow es k v)
    where
      by : (b : Bool)
          → (more : List Asked) × (names_in name (insert_entry eq es k v) ≡ names_in name es ++
          more)
          → (more : List Asked)
          × (names_in name (if b then (e.0, v) ∷ es else e ∷ insert_entry eq es k v)
          ≡ names_in name (e ∷ es) ++ more)
      by true rest = ([], sym (append-nil (names_in name (e ∷ es))))
      by false rest = (rest.0, ap (λ (l : List Asked). name e.0 ∷ l) rest.1)

  pub adds_entry : (es : List (K × Kept)) (k : K) (v : Kept)
      → Adds (name k) v (entries_in name es) (entries_in name (insert_entry eq es k v))
  adds_entry [] k v = record {
    each = λ y w c. elim (contains_cases (name k, v) [] (y, w) c) [
      | inl e ↦ inr e
      | inr b ↦ inl b
    ];
    stays = λ y c. absurd (none_contained y c);
    there = contains_head (name k) [];
  }
  adds_entry (e ∷ es) k v = by (eq k e.0) refl (adds_entry es k v)
    where
      Goal : Bool → Type 0
      Goal b =
          Adds (name k) v (entries_in name (e ∷ es))
          (entries_in name (if b then (e.0, v) ∷ es else e ∷ insert_entry eq es k v))

      by : (b : Bool) → eq k e.0 ≡ b
          → Adds (name k) v (entries_in name es) (entries_in name (insert_entry eq es k v)) → Goal b
      by true is rest =
          let at : name k ≡ name e.0 = ap name (same k e.0 is) in
          record {
            each = λ y w c. elim (contains_cases (name e.0, v) (entries_in name es) (y, w) c) [
              | inl f ↦ inr ((λ i. (at i, v)) ∙ f)
              | inr b ↦ inl (contains_tail (name e.0, e.1) (entries_in name es) (y, w) b)
            ];
            stays = λ y c. c;
            there = subst (λ z. Contains (names_of (entries_in name ((e.0, v) ∷ es))) z) (sym at)
                (contains_head (name e.0) (names_of (entries_in name es)));
          }
      by false is rest =
          let new = insert_entry eq es k v in
          record {
            each = λ y w c. elim (contains_cases (name e.0, e.1) (entries_in name new) (y, w) c) [
              | inl f ↦ inl (subst (λ z. Contains (entries_in name (e ∷ es)) z) f
                  (contains_head (name e.0, e.1) (entries_in name es)))
              | inr b ↦ elim (rest.each y w b) [
                | inl d ↦ inl (contains_tail (name e.0, e.1) (entries_in name es) (y, w) d)
                | inr f ↦ inr f
              ]
            ];
            stays = λ y c. elim (contains_cases (name e.0) (names_of (entries_in name es)) y c) [
              | inl f ↦ subst (λ z. Contains (names_of (entries_in name (e ∷ new))) z) f
                  (contains_head (name e.0) (names_of (entries_in name new)))
              | inr b ↦ contains_tail (name e.0) (names_of (entries_in name new)) y (rest.stays y b)
            ];
            there = contains_tail (name e.0) (names_of (entries_in name new)) (name k) rest.there;
          }

  -- ---- look-ups

  pub entry_found : (es : List (K × Kept)) (k : K) (v : Kept) → lookup (eq k) es ≡ Some v
      → Contains (entries_in name es) (name k, v)
  entry_found es k v is =
      contains_map (λ e. (name e.0, e.1)) es (k, v) (Contains-from_lookup same k v es is)

  pub name_at : (es : List (K × Kept)) (k : K) (i : ℕ) → position (eq k) (keys_of es) ≡ Some i
      → slice_get (names_in name es) i ≡ Some (name k)
  name_at es k i is =
      let found = position-Some (eq k) (keys_of es) i k is in
      let at : slice_get (keys_of es) i ≡ Some (get_or (keys_of es) i k) =
      slice_get-get_or (keys_of es) i k found.0 in
      let key = same k (get_or (keys_of es) i k) found.1 in
      slice_get-map (λ (e : K × Kept). name e.0) es i
      ∙ by_key (slice_get es i) (sym (slice_get-map (λ (e : K × Kept). e.0) es i) ∙ at
      ∙ ap (λ (z : K). Some z) (sym key))
    where
      by_key : (o : Option (K × Kept)) → option_map (λ (e : K × Kept). e.0) o ≡ Some k
          → option_map (λ (e : K × Kept). name e.0) o ≡ Some (name k)
      by_key None e = cc
      by_key (Some x) e = (let at : x.0 ≡ k = cc in ap (λ (z : K). Some (name z)) at)

  -- ---- once

  module _ (told : (a b : K) → name a ≡ name b → eq a b ≡ true) where
    not_named : (k : K) (es : List (K × Kept)) → AllByRecursion (λ y. eq k y ≡ false) (keys_of es)
        → Contains (names_in name es) (name k) → ⊥
    not_named k [] apart c = none_contained (name k) c
    not_named k (e ∷ es) apart c =
        elim (contains_cases (name e.0) (names_in name es) (name k) c) [
          | inl same ↦ true≢false (sym (told k e.0 (sym same)) ∙ apart.0)
          | inr b ↦ not_named k es apart.1 b
        ]

    -- what isn't found isn't there
    pub none_named : (es : List (K × Kept)) (k : K) → lookup (eq k) es ≡ None
        → Contains (names_in name es) (name k) → ⊥
    none_named [] k e c = none_contained (name k) c
    none_named (x ∷ xs) k e c = by (eq k x.0) refl e (λ found d. none_named xs k found d)
      where
        by : (b : Bool) → eq k x.0 ≡ b → cond b (Some x.1) (lookup (eq k) xs) ≡ None
            → (lookup (eq k) xs ≡ None → Contains (names_in name xs) (name k) → ⊥) → ⊥
        by true is found rest = cc
        by false is found rest =
            elim (contains_cases (name x.0) (names_in name xs) (name k) c) [
              | inl at ↦ true≢false (sym (told k x.0 (sym at)) ∙ is)
              | inr d ↦ rest found d
            ]

    pub each_once : (es : List (K × Kept)) → IsDistinct eq (keys_of es)
        → IsEachOnce (names_in name es)
    unfolding IsDistinct
    each_once [] distinct = tt
    each_once (e ∷ es) distinct = (not_named e.0 es distinct.0, each_once es distinct.1)

-- ---- where a new entry stands

module _ {K : Type 0} (eq : K → K → Bool) (name : K → Asked) (same : (a b : K) → eq a b ≡ true →
    a ≡ b) where
  pub name_inserted : (es : List (K × Kept)) (k : K) (v : Kept)
      → slice_get (names_in name (insert_entry eq es k v)) (position_or_len (eq k) (keys_of es))
      ≡ Some (name k)
  name_inserted [] k v = refl
  name_inserted (e ∷ es) k v = by (eq k e.0) refl (name_inserted es k v)
    where
      by : (b : Bool) → eq k e.0 ≡ b
          → slice_get (names_in name (insert_entry eq es k v)) (position_or_len (eq k) (keys_of es))
          ≡ Some (name k)
          → slice_get (names_in name (if b then (e.0, v) ∷ es else e ∷ insert_entry eq es k v))
          (cond (not b) (1 + position_or_len (eq k) (keys_of es)) 0)
          ≡ Some (name k)
      by true is rest = ap (λ (z : K). Some (name z)) (sym (same k e.0 is))
      by false is rest =
          let at : 1 + position_or_len (eq k) (keys_of es) ≡ suc (position_or_len (eq k) (keys_of
          es)) =
          omega arith in
          ap (λ (n : ℕ). slice_get (name e.0 ∷ names_in name (insert_entry eq es k v)) n) at ∙ rest

-- The members of the block of a class's header.
use Rattle.std.proofs.Common.{◌≡◌, ◌⊎◌, inl, inr, ℕ, zero, suc, ◌+◌, ◌-◌, ◌<◌, ◌≤◌, ◌==◌, Bool, true, false, cond, nat_lt, List, [], ◌∷◌, ◌++◌, length, get_or, map, filter, filter_map, flat_map, Option, Some, None, option_map, option_and_then, option_to_list, slice_get, position, refl, sym, ap, ◌∙◌, append-nil, arith}
use Rattle.std.specs.List.{cons_option}
use Rattle.std.proofs.lemmas.Bool.{false≢true, cases_eq, eq-eqb, eqb-true, ne_eqb, le-ltb}
use Rattle.std.proofs.lemmas.List.Quantifiers.{position-Some}
use Rattle.std.proofs.lemmas.Option.{none-some, same_Some, slice_get-get_or}
use Rattle.dg_decl.specs.declared.document.Doc.{Doc}
use Rattle.dg_decl.specs.declared.component.Bound.{Bound}
use Rattle.dg_decl.specs.declared.item.Item.{Item}
use Rattle.dg_decl.specs.Document.{Statement, statements, stands_in, members}
use Rattle.dg_decl.specs.Names.{item_at}
use Rattle.dg_decl.specs.Components.{is_number, hilt_count, component_headers, number_of_header, header_of, own_members, hilt_row, default_bound, bound_of, bound_in, class_named, dependency_in, deps_of}
use Rattle.dg_decl.proofs.HeaderLemmas.{headers_have_their_numbers}
use Rattle.dg_comps.specs.Members.{bound_at, dep_at}
use Rattle.dg_comps.specs.Rows.{member_class, is_member, indices}
use Rattle.dg_comps.specs.Stands.{Stands}
use Rattle.dg_comps.proofs.EntryLemmas.{index_at}
use Rattle.dg_comps.proofs.StatementLemmas.{Each, all_stand, header_stands, each_filter}

-- ---- a header by its number

header_past : (doc : Doc) (k : ℕ)
    → header_of doc (hilt_count + k) ≡ slice_get (component_headers doc) k
unfolding header_of
header_past doc k =
    let high : hilt_count ≤ hilt_count + k = omega arith in
    let back : hilt_count + k - hilt_count ≡ k = omega arith in
    ap (λ b. cond b None (slice_get (component_headers doc) (hilt_count + k - hilt_count)))
    (le-ltb (hilt_count + k) hilt_count high)
    ∙ ap (slice_get (component_headers doc)) back

-- the header of a class has the index of each statement that has the number of the class
header_of_number : (doc : Doc) (c : ℕ) (t : Statement) → number_of_header doc t ≡ Some c
    → (h : Statement) × (header_of doc c ≡ Some h) × (h.index ≡ t.index)
header_of_number doc c t e =
    from (position (λ h. h.index == t.index) (component_headers doc)) refl e
  where
    from : (o : Option ℕ) → position (λ h. h.index == t.index) (component_headers doc) ≡ o
        → option_map (λ k. hilt_count + k) o ≡ Some c
        → (h : Statement) × (header_of doc c ≡ Some h) × (h.index ≡ t.index)
    from None is given = absurd (none-some c given)
    from (Some k) is given =
        let found = position-Some (λ h. h.index == t.index) (component_headers doc) k t is in
        let h = get_or (component_headers doc) k t in (
          h,
          ap (header_of doc) (sym (same_Some (hilt_count + k) c given)) ∙ header_past doc k
              ∙ slice_get-get_or (component_headers doc) k t found.0,
          eqb-true h.index t.index found.1,
        )

-- ---- members

same_filter : {A : Type 0} (p q : A → Bool) (xs : List A) → ((x : A) → p x ≡ q x)
    → filter p xs ≡ filter q xs
same_filter p q [] same = refl
same_filter {A = A} p q (x ∷ xs) same =
    ap (λ b. cond b (x ∷ filter p xs) (filter p xs)) (same x)
    ∙ ap (λ (ys : List A). cond (q x) (x ∷ ys) ys) (same_filter p q xs same)

none_kept : {A : Type 0} (p : A → Bool) (xs : List A) → ((x : A) → p x ≡ false) → filter p xs ≡ []
none_kept p [] none = refl
none_kept p (x ∷ xs) none =
    ap (λ b. cond b (x ∷ filter p xs) (filter p xs)) (none x) ∙ none_kept p xs none

not_number : (c : ℕ) (o : Option ℕ) → (o ≡ Some c → ⊥) → is_number c o ≡ false
not_number c None h = refl
not_number c (Some n) h = ne_eqb n c (λ e. h (ap Some e))

-- the number of the header of this index is that of the class exactly where it is its header's
by_index : (doc : Doc) (c m : ℕ) (h : Statement) → header_of doc c ≡ Some h
    → (m == h.index)
    ≡ is_number c (option_and_then (number_of_header doc) (slice_get (statements doc) m))
by_index doc c m h is =
    elim (cases_eq m h.index) [
      | inl same ↦ eq-eqb m h.index same
          ∙ sym (eq-eqb c c refl)
          ∙ ap (is_number c) (sym (headers_have_their_numbers doc c h is))
          ∙ ap (λ o. is_number c (option_and_then (number_of_header doc) o))
          (sym (header_stands doc c h is).at)
          ∙ ap (λ n. is_number c (option_and_then (number_of_header doc)
          (slice_get (statements doc) n))) (sym same)
      | inr ne ↦ ne_eqb m h.index ne
          ∙ sym (not_number c _ (λ e. other (slice_get (statements doc) m) refl e ne))
    ]
  where
    other : (o : Option Statement) → slice_get (statements doc) m ≡ o
        → option_and_then (number_of_header doc) o ≡ Some c → (m ≡ h.index → ⊥) → ⊥
    other None at e ne = none-some c e
    other (Some t) at e ne =
        let found = header_of_number doc c t e in
        let index : t.index ≡ m = index_at doc m t at in
        let same : found.0.index ≡ h.index = ap (λ (x : Statement). x.index)
        (same_Some found.0 h (sym found.1 ∙ is)) in
        let theirs : found.0.index ≡ t.index = found.2 in
        ne (omega arith)

no_header : (doc : Doc) (c m : ℕ) → header_of doc c ≡ None
    → is_number c (option_and_then (number_of_header doc) (slice_get (statements doc) m)) ≡ false
no_header doc c m none = not_number c _ (λ e. other (slice_get (statements doc) m) e)
  where
    other : (o : Option Statement) → option_and_then (number_of_header doc) o ≡ Some c → ⊥
    other None e = none-some c e
    other (Some t) e = (let found = header_of_number doc c t e in
        none-some found.0 (sym none ∙ found.1))

members_by : (doc : Doc) (c : ℕ) (o : Option Statement) → header_of doc c ≡ o
    → filter (is_member doc c) (statements doc)
    ≡ flat_map (λ h. members doc h.index) (option_to_list o)
members_by doc c None is =
    none_kept (is_member doc c) (statements doc) (λ s. at s.block)
  where
    at : (b : Option ℕ) → is_number c (option_and_then (number_of_header doc)
        (option_and_then (slice_get (statements doc)) b)) ≡ false
    at None = refl
    at (Some m) = no_header doc c m is
members_by doc c (Some h) is =
    same_filter (is_member doc c) (stands_in h.index) (statements doc) (λ s. at s)
    ∙ sym (append-nil (members doc h.index))
  where
    by_block : (s : Statement) (b : Option ℕ) → s.block ≡ b → is_member doc c s
        ≡ stands_in h.index s
    by_block s None e = ap (λ o. is_number c (option_and_then (number_of_header doc)
        (option_and_then (slice_get (statements doc)) o))) e ∙ sym (not_there s e)
      where
        not_there : (s : Statement) → s.block ≡ None → stands_in h.index s ≡ false
        not_there s e = ap (λ o. stands_in h.index (record s { block = o })) e
    by_block s (Some m) e = ap (λ o. is_number c (option_and_then (number_of_header doc)
        (option_and_then (slice_get (statements doc)) o))) e ∙ sym (by_index doc c m h is)
        ∙ sym (ap (λ o. stands_in h.index (record s { block = o })) e)

    at : (s : Statement) → is_member doc c s ≡ stands_in h.index s
    at s = by_block s s.block refl

pub members_are_own : (doc : Doc) (c : ℕ)
    → filter (is_member doc c) (statements doc) ≡ own_members doc c
members_are_own doc c = members_by doc c (header_of doc c) refl

-- ---- what members give, by their indices

by_indices : {B : Type 0} (doc : Doc) (f : Item → Option B) (ss : List Statement)
    → Each (Stands doc) ss
    → filter_map (λ i. option_and_then f (item_at doc i)) (map (λ (s : Statement). s.index) ss)
    ≡ filter_map (λ s. f s.item) ss
by_indices doc f [] each = refl
by_indices {B = B} doc f (s ∷ ss) each =
    ap (λ o. cons_option (option_and_then f o) (filter_map (λ i. option_and_then f (item_at doc i))
    (map (λ (s : Statement). s.index) ss))) each.0.item
    ∙ ap (λ (bs : List B). cons_option (f s.item) bs) (by_indices doc f ss each.1)

of_members : {B : Type 0} (doc : Doc) (f : Item → Option B) (c : ℕ)
    → filter_map (λ i. option_and_then f (item_at doc i)) (indices (is_member doc)
    (statements doc) c)
    ≡ filter_map (λ s. f s.item) (own_members doc c)
of_members doc f c =
    by_indices doc f (filter (is_member doc c) (statements doc))
    (each_filter (Stands doc) (is_member doc c) (statements doc) (all_stand doc))
    ∙ ap (filter_map (λ s. f s.item)) (members_are_own doc c)

pub bounds_of_members : (doc : Doc) (c : ℕ)
    → filter_map (bound_at doc) (indices (is_member doc) (statements doc) c)
    ≡ filter_map (λ s. bound_in s.item) (own_members doc c)
bounds_of_members doc c = of_members doc bound_in c

one_step : (doc : Doc) (o : Option Item) → option_and_then (class_named doc)
    (option_and_then dependency_in o)
    ≡ option_and_then (λ x. option_and_then (class_named doc) (dependency_in x)) o
one_step doc None = refl
one_step doc (Some x) = refl

same_given : {A B : Type 0} (f g : A → Option B) (xs : List A) → ((x : A) → f x ≡ g x)
    → filter_map f xs ≡ filter_map g xs
same_given f g [] same = refl
same_given {B = B} f g (x ∷ xs) same =
    ap (λ o. cons_option o (filter_map f xs)) (same x)
    ∙ ap (λ (bs : List B). cons_option (g x) bs) (same_given f g xs same)

pub deps_of_members : (doc : Doc) (c : ℕ)
    → filter_map (dep_at doc) (indices (is_member doc) (statements doc) c) ≡ deps_of doc c
unfolding deps_of
deps_of_members doc c =
    same_given (dep_at doc) (λ i. option_and_then (λ x. option_and_then (class_named doc)
    (dependency_in x)) (item_at doc i)) (indices (is_member doc) (statements doc) c)
    (λ i. one_step doc (item_at doc i))
    ∙ of_members doc (λ x. option_and_then (class_named doc) (dependency_in x)) c

pub bounds_are : (doc : Doc) (c : ℕ) (list : List ℕ) (own new : List Bound)
    → list ≡ indices (is_member doc) (statements doc) c
    → own ≡ option_to_list (option_and_then default_bound (hilt_row c))
    → new ≡ own ++ filter_map (bound_at doc) list → new ≡ bound_of doc c
unfolding bound_of
bounds_are doc c list own new same first all =
    all ∙ ap (λ (bs : List Bound). bs ++ filter_map (bound_at doc) list) first
    ∙ ap (λ (bs : List Bound). option_to_list (option_and_then default_bound (hilt_row c)) ++ bs)
    (ap (filter_map (bound_at doc)) same ∙ bounds_of_members doc c)

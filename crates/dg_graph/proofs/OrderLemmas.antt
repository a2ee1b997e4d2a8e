-- The kinds on a statement, as a pass over the statements lists them.
use Rattle.std.proofs.Common.{◌≡◌, inl, inr, ℕ, suc, ◌<◌, ◌≤◌, ◌==◌, Bool, true, false, cond, List, [], ◌∷◌, ◌++◌, length, map, filter, filter_map, flat_map, position, Contains, Option, Some, None, option_to_list, if◌then◌else◌, append_assoc, refl, sym, ap, subst, ◌∙◌, arith}
use Rattle.std.specs.List.{list_any, cons_option, range_with_len}
use Rattle.std.specs.Option.{option_map_or}
use Rattle.std.specs.Prelude.{unwrap_or}
use Rattle.std.proofs.lemmas.Bool.{false≢true, true≢false, eqb-true, eq-eqb, ne_eqb}
use Rattle.std.proofs.lemmas.List.{append-nil, map-append}
use Rattle.std.proofs.lemmas.List.Elements.{Contains-append_cases}
use Rattle.std.proofs.lemmas.Option.{none-some, same_Some}
use Rattle.dg_types.specs.declared.shape.Qualifier.{Qualifier}
use Rattle.dg_types.specs.declared.key.Key.{Key}
use Rattle.dg_types.specs.declared.key.Core.{Core}
use Rattle.dg_types.specs.declared.key.Core.TheVariants as core
use Rattle.dg_types.specs.declared.key.Inner.{Inner}
use Rattle.dg_types.specs.declared.key.Inner.TheVariants as inner
use Rattle.dg_decl.specs.declared.document.Doc.{Doc}
use Rattle.dg_decl.specs.declared.item.Item.{Item}
use Rattle.dg_decl.specs.declared.item.Item.TheVariants as item
use Rattle.dg_decl.specs.declared.component.Exposed.{Exposed}
use Rattle.dg_decl.specs.declared.binding.Bind.{Bind}
use Rattle.dg_decl.specs.declared.binding.BindKind.{BindKind}
use Rattle.dg_decl.specs.declared.binding.BindKind.TheVariants as kind
use Rattle.dg_decl.specs.declared.binding.BindRef.{BindRef}
use Rattle.dg_decl.specs.declared.binding.BindRef.TheVariants as binding
use Rattle.dg_decl.specs.declared.binding.Found.{Found}
use Rattle.dg_decl.specs.declared.binding.Found.TheVariants as found
use Rattle.dg_decl.specs.declared.graph.Node.{Node}
use Rattle.dg_decl.specs.declared.graph.NodeKind.{NodeKind}
use Rattle.dg_decl.specs.declared.graph.NodeKind.TheVariants as node
use Rattle.dg_decl.specs.Document.{Statement, statements}
use Rattle.dg_decl.specs.Components.{class_count, exposed_of, exposed_by_class, entries_of}
use Rattle.dg_decl.specs.Lookup.{binding_of, bindings, is_header_of}
use Rattle.dg_decl.specs.Graph.{node_of, node_found, target, deps, IsReachable, own_binding, own_argument, own_exposed, own_entry, stands_first, groups_of, own_groups, kinds_at}
use Rattle.dg_decl.specs.Walks.{root, step}
use Rattle.dg_decl.proofs.MemberLemmas.{none_in, in_front, first_or_rest, the_one, out_map, out_flat_map, out_filter_map, out_if}
use Rattle.dg_decl.proofs.NodeCandidates.{binding_item}
use Rattle.dg_decl.proofs.NodeWalks.{in_rest, any_from, any_is}
use Rattle.dg_resolve.specs.Members.{header_index}
use Rattle.dg_resolve.proofs.LineLemmas as lines
use Rattle.dg_resolve.proofs.ListLemmas.{filter_as, at_range}
use Rattle.dg_resolve.proofs.StatementLemmas.{Rises, at_least, statements_rise}
use Rattle.dg_graph.specs.Kept.{same, is_among, kept, place_of, stands_at, is_header, is_line, argument, exposed_at, exposed_on, has_group, group, group_at, groups_of_option, own_kinds, bound_kinds, exposed_kinds, kinds_on}
use Rattle.dg_graph.specs.Reached.{AreReached}
use Rattle.dg_graph.specs.Vacant.{Rows, is_taken, AreTaken, kinds_where}
use Rattle.dg_graph.proofs.DerivedEquality.{same_decides}
use Rattle.dg_graph.proofs.KeptLemmas.{kept_none, kept_both}
use Rattle.dg_graph.proofs.MarkLemmas.{taken_there}

-- ---- bound arguments

same_line : (doc : Doc) (c : ℕ) (s : Statement) → lines.is_line doc c s ≡ is_line
    (header_index doc c) s
same_line doc c s = by s.block refl
  where
    by : (o : Option ℕ) → s.block ≡ o → lines.is_line doc c s ≡ is_line (header_index doc c) s
    by None e = rw e refl
    by (Some h) e = rw e refl

-- a statement, where there are so many bound arguments before it
pub own_argument_is : (doc : Doc) (c passed : ℕ) (header : Option ℕ) (done : List Statement)
    (s : Statement) (rest : List Statement) → header ≡ header_index doc c
    → statements doc ≡ done ++ s ∷ rest → passed ≡ length (filter (is_line header) done)
    → map node.Bound (own_argument doc c s) ≡ bound_kinds (argument header passed s)
own_argument_is doc c passed header done s rest is split counted =
    ap (λ (o : Option ℕ). map node.Bound (map binding.Arg (option_to_list o)))
    (ap (λ (l : List Statement). position (λ b. b.index == s.index) l) (lines.lines_are doc c)
    ∙ ap (λ (l : List Statement). position (λ b. b.index == s.index)
    (filter (lines.is_line doc c) l)) split
    ∙ lines.position_among (lines.is_line doc c) 0 done s rest
    (subst (Rises 0) split (statements_rise doc))
    ∙ ap (λ (q : Statement → Bool). if q s then Some (length (filter q done)) else None) tests
    ∙ ap (λ (n : ℕ). if is_line header s then Some n else None) (sym counted))
    ∙ by (is_line header s)
  where
    tests : lines.is_line doc c ≡ is_line header
    tests = λ i t. (same_line doc c t ∙ ap (λ (h : Option ℕ). is_line h t) (sym is)) i

    by : (b : Bool) → map node.Bound (map binding.Arg (option_to_list
        (if b then Some passed else None)))
        ≡ bound_kinds (if b then Some (binding.Arg passed) else None)
    by true = refl
    by false = refl

-- ---- what is exposed

pub own_exposed_is : (doc : Doc) (c : ℕ) (header : Option ℕ) (exposed : List (List Exposed))
    (s : Statement)
    → header ≡ header_index doc c → exposed ≡ exposed_by_class doc → c < class_count doc
    → map node.Bound (own_exposed doc c s)
    ≡ exposed_kinds (exposed_on (is_header header s) (exposed_at exposed c))
unfolding exposed_by_class
own_exposed_is doc c header exposed s is all lt =
    by (is_header_of doc c s)
    ∙ ap (λ (xs : List Exposed). exposed_kinds (exposed_on (is_header_of doc c s) xs)) (sym there)
    ∙ ap (λ (h : Option ℕ). exposed_kinds (exposed_on (is_header h s) (exposed_at exposed c)))
    (sym is)
  where
    there : exposed_at exposed c ≡ exposed_of doc c
    there =
        ap (λ (l : List (List Exposed)). exposed_at l c) all
        ∙ ap (λ (o : Option (List Exposed)). unwrap_or o []) (at_range (exposed_of doc)
        (class_count doc) c lt)

    each : (xs : List Exposed) → map node.Bound (map (λ x. binding.Exposed x.dep x.entry) xs)
        ≡ exposed_kinds xs
    each [] = refl
    each (x ∷ xs) = ap (λ (l : List NodeKind). node.Bound (binding.Exposed x.dep x.entry) ∷ l)
        (each xs)

    by : (b : Bool) → map node.Bound (if b then map (λ x. binding.Exposed x.dep x.entry)
        (exposed_of doc c) else [])
        ≡ exposed_kinds (exposed_on b (exposed_of doc c))
    by true = each (exposed_of doc c)
    by false = refl

-- ---- the binding of a statement

abbrev here : ℕ → Bind → Bool
here i b = b.item == i

module _ (doc : Doc) where
  abbrev All : List Statement → Type 0
  All ss = (t : Statement) → Contains ss t → Contains (statements doc) t

  behind_none : (ss : List Statement) (low i : ℕ) → i < low → Rises low ss → All ss
      → filter (here i) (filter_map binding_of ss) ≡ []
  behind_none [] low i lt rises all = refl
  behind_none (t ∷ ts) low i lt rises all =
      let first : low ≤ t.index = rises.0 in
      by (binding_of t) refl
      (behind_none ts (suc t.index) i (omega arith) rises.1 (λ x h. all x (in_rest x t ts h)))
    where
      by : (o : Option Bind) → binding_of t ≡ o → filter (here i) (filter_map binding_of ts) ≡ []
          → filter (here i) (cons_option o (filter_map binding_of ts)) ≡ []
      by None e rest = rest
      by (Some b) e rest =
          let at : t.index ≡ b.item = binding_item doc t b (all t (in_front t ts)) e in
          let first : low ≤ t.index = rises.0 in
          let differs : (b.item == i) ≡ false = ne_eqb b.item i
          (λ (e : b.item ≡ i). omega (arith, at, e)) in
          ap (λ (t : Bool). cond t (b ∷ filter (here i) (filter_map binding_of ts))
          (filter (here i) (filter_map binding_of ts))) differs
          ∙ rest

  bound_here : (ss : List Statement) (low : ℕ) (s : Statement) → Rises low ss → All ss
      → Contains ss s
      → filter (here s.index) (filter_map binding_of ss) ≡ option_to_list (binding_of s)
  bound_here [] low s rises all h = absurd (none_in s h)
  bound_here (t ∷ ts) low s rises all h =
      elim (first_or_rest s t ts h) [
        | inl e ↦ subst (λ (x : Statement). filter (here x.index) (filter_map binding_of (t ∷ ts))
            ≡ option_to_list (binding_of x)) e
            (first (binding_of t) refl)
        | inr r ↦ later r (binding_of t) refl
            (bound_here ts (suc t.index) s rises.1 (λ x h. all x (in_rest x t ts h)) r)
      ]
    where
      first : (o : Option Bind) → binding_of t ≡ o
          → filter (here t.index) (cons_option o (filter_map binding_of ts)) ≡ option_to_list o
      first None e = behind_none ts (suc t.index) t.index (omega arith) rises.1
          (λ x h. all x (in_rest x t ts h))
      first (Some b) e =
          let at : t.index ≡ b.item = binding_item doc t b (all t (in_front t ts)) e in
          ap (λ (u : Bool). cond u (b ∷ filter (here t.index) (filter_map binding_of ts))
          (filter (here t.index) (filter_map binding_of ts)))
          (eq-eqb b.item t.index (sym at))
          ∙ ap (λ (l : List Bind). b ∷ l)
          (behind_none ts (suc t.index) t.index (omega arith) rises.1
          (λ x h. all x (in_rest x t ts h)))

      later : Contains ts s → (o : Option Bind) → binding_of t ≡ o
          → filter (here s.index) (filter_map binding_of ts) ≡ option_to_list (binding_of s)
          → filter (here s.index) (cons_option o (filter_map binding_of ts)) ≡ option_to_list
          (binding_of s)
      later r None e rest = rest
      later r (Some b) e rest =
          let at : t.index ≡ b.item = binding_item doc t b (all t (in_front t ts)) e in
          let after : suc t.index ≤ s.index = at_least (suc t.index) ts s rises.1 r in
          let differs : (b.item == s.index) ≡ false = ne_eqb b.item s.index
          (λ (e : b.item ≡ s.index). omega (arith, at, e)) in
          ap (λ (u : Bool). cond u (b ∷ filter (here s.index) (filter_map binding_of ts))
          (filter (here s.index) (filter_map binding_of ts))) differs
          ∙ rest

  own_bind : (s : Statement) → Contains (statements doc) s
      → filter (here s.index) (bindings doc) ≡ option_to_list (binding_of s)
  unfolding bindings
  own_bind s h = bound_here (statements doc) 0 s (statements_rise doc) (λ t c. c) h

  -- ---- sets, maps and optionals

  abbrev Agree : Statement → ℕ → BindKind → Key → Type 0
  Agree s c does k = groups_of doc c s does k
      ≡ group_at doc c s.index does k inner.Plain ++ (group_at doc c s.index does k inner.Provider
      ++ (group_at doc c s.index does k inner.Lazy ++ (group_at doc c s.index does k
      inner.ProviderLazy
      ++ group_at doc c s.index does k inner.Produced)))

  abbrev with_core : Option Qualifier → Core → Key
  with_core q c = record { qualifier = q; core = c }

  abbrev if_first : Statement → ℕ → (Key → NodeKind) → Key → List NodeKind
  if_first s c f k = if stands_first doc c s k then f k ∷ [] else []

  -- contributions and declarations of sets and maps
  multi_agrees : (s : Statement) (c : ℕ) (q : Option Qualifier) (x : Core)
      → Agree s c kind.IntoSet (with_core q x)
  unfolding group_at
  multi_agrees s c q (core.One b) = refl
  multi_agrees s c q (core.Set b i) =
      sym (filter_as (stands_first doc c s) node.Multi (with_core q
      (core.Set b inner.Plain) ∷ with_core q (core.Set b inner.Produced) ∷ []))
      ∙ ap (λ (l : List NodeKind). if_first s c node.Multi
      (with_core q (core.Set b inner.Plain)) ++ l)
      (append-nil (if_first s c node.Multi (with_core q (core.Set b inner.Produced))))
  multi_agrees s c q (core.Map m b i) =
      sym (filter_as (stands_first doc c s) node.Multi (with_core q
      (core.Map m b inner.Plain) ∷ with_core q (core.Map m b inner.Provider) ∷ with_core q
      (core.Map m b inner.Produced) ∷ []))
      ∙ ap (λ (l : List NodeKind). if_first s c node.Multi
      (with_core q (core.Map m b inner.Plain)) ++ (if_first s c node.Multi
      (with_core q (core.Map m b inner.Provider)) ++ l))
      (append-nil (if_first s c node.Multi (with_core q (core.Map m b inner.Produced))))
  multi_agrees s c q (core.Optional b i) =
      sym (filter_as (stands_first doc c s) node.Multi (with_core q
      (core.Optional b inner.Plain) ∷ with_core q (core.Optional b inner.Provider) ∷ with_core q
      (core.Optional b inner.Lazy) ∷ with_core q (core.Optional b inner.ProviderLazy) ∷ []))

  optional_agrees : (s : Statement) (c : ℕ) (q : Option Qualifier) (x : Core)
      → Agree s c kind.OptionalOf (with_core q x)
  unfolding group_at
  optional_agrees s c q (core.One b) =
      sym (filter_as (stands_first doc c s) node.Opt (with_core q
      (core.Optional b inner.Plain) ∷ with_core q (core.Optional b inner.Provider) ∷ with_core q
      (core.Optional b inner.Lazy) ∷ with_core q (core.Optional b inner.ProviderLazy) ∷ []))
  optional_agrees s c q (core.Set b i) = refl
  optional_agrees s c q (core.Map m b i) = refl
  optional_agrees s c q (core.Optional b i) = refl

  agrees : (s : Statement) (c : ℕ) (does : BindKind) (k : Key) → Agree s c does k
  unfolding group_at
  agrees s c kind.Explicit k = refl
  agrees s c kind.IntoSet k = multi_agrees s c k.qualifier k.core
  agrees s c kind.Elements k = multi_agrees s c k.qualifier k.core
  agrees s c (kind.IntoMap m) k = multi_agrees s c k.qualifier k.core
  agrees s c kind.Declares k = multi_agrees s c k.qualifier k.core
  agrees s c kind.OptionalOf k = optional_agrees s c k.qualifier k.core

  pub own_groups_are : (c : ℕ) (s : Statement) (b : Option Bind) → Contains (statements doc) s
      → b ≡ binding_of s
      → own_groups doc c s ≡ groups_of_option doc c s.index b
  own_groups_are c s b h is =
      ap (flat_map (λ (x : Bind). groups_of doc c s x.kind x.key))
      (own_bind s h ∙ ap option_to_list (sym is))
      ∙ by b
    where
      by : (o : Option Bind) → flat_map (λ x. groups_of doc c s x.kind x.key) (option_to_list o)
          ≡ groups_of_option doc c s.index o
      by None = refl
      by (Some x) = append-nil (groups_of doc c s x.kind x.key) ∙ agrees s c x.kind x.key

  -- ---- entry points

  abbrev is_entry : NodeKind → Bool
  is_entry (node.EntryOf j) = true
  is_entry other = false

  no_entry : (c : ℕ) (k : Key) (f : Found) (class i : ℕ)
      → node_found c k f ≡ Some (node_of class (node.EntryOf i)) → ⊥
  no_entry c k (found.One o b) class i e = false≢true (ap (λ (n : Node). is_entry n.kind)
      (same_Some _ _ e))
  no_entry c k (found.SetOf os) class i e = false≢true (ap (λ (n : Node). is_entry n.kind)
      (same_Some _ _ e))
  no_entry c k (found.MapOf os) class i e = false≢true (ap (λ (n : Node). is_entry n.kind)
      (same_Some _ _ e))
  no_entry c k found.OptionalOf class i e = false≢true (ap (λ (n : Node). is_entry n.kind)
      (same_Some _ _ e))
  no_entry c k other class i e = none-some _ e

  -- an entry point that is reachable is one of its class
  entry_stands : (n : Node) (c i : ℕ) → IsReachable doc n → n ≡ node_of c (node.EntryOf i)
      → list_any (λ j. j == i) (entries_of doc c) ≡ true
  entry_stands n c i (root k h) e =
      let at = out_flat_map (λ c. map (λ i. node_of c (node.EntryOf i)) (entries_of doc c))
      (range_with_len 0 (class_count doc)) n h in
      let it = out_map (λ i. node_of at.0 (node.EntryOf i)) (entries_of doc at.0) n at.2 in
      let is : node_of at.0 (node.EntryOf it.0) ≡ node_of c (node.EntryOf i) = it.2 ∙ e in
      let class : at.0 ≡ c = ap (λ (m : Node). m.class) is in
      let entry : it.0 ≡ i = ap (λ (m : Node). number m.kind) is in
      any_from (λ j. j == i) (entries_of doc c) it.0
      (subst (λ (x : ℕ). Contains (entries_of doc x) it.0) class it.1) (eq-eqb it.0 i entry)
    where
      number : NodeKind → ℕ
      number (node.EntryOf j) = j
      number other = 0
  entry_stands n c i (step m k w h) e =
      let d = out_filter_map target (deps doc m) n h in
      absurd (no_entry d.0.class d.0.key d.0.found c i (d.2 ∙ ap Some e))

module _ (doc : Doc) (found : List Node) (reached : AreReached doc found) where
  -- a list of kinds of which none is found
  nothing_kept : (c : ℕ) (ks : List NodeKind) → ((k : NodeKind) → Contains ks k
      → is_among found (node_of c k) ≡ true → ⊥)
      → kept found c ks ≡ []
  unfolding kept
  nothing_kept c [] none = refl
  nothing_kept c (k ∷ ks) none =
      by (is_among found (node_of c k)) (none k (in_front k ks))
      ∙ nothing_kept c ks (λ l h. none l (in_rest l k ks h))
    where
      by : (b : Bool) → (b ≡ true → ⊥)
          → cond b (node_of c k ∷ filter (is_among found) (map (node_of c) ks))
          (filter (is_among found) (map (node_of c) ks))
          ≡ filter (is_among found) (map (node_of c) ks)
      by true never = absurd (never refl)
      by false never = refl

  pub found_reached : (n : Node) → is_among found n ≡ true → Contains found n
  found_reached n h = any_is same same_decides found n h

  -- whether it is an entry point of the class makes no difference where it must be found
  entry_kept : (c : ℕ) (s : Statement) → kept found c (own_entry doc c s) ≡ kept found c
      (node.EntryOf s.index ∷ [])
  entry_kept c s = by (list_any (λ i. i == s.index) (entries_of doc c)) refl
    where
      by : (b : Bool) → list_any (λ i. i == s.index) (entries_of doc c) ≡ b
          → kept found c (if b then node.EntryOf s.index ∷ [] else []) ≡ kept found c
          (node.EntryOf s.index ∷ [])
      by true e = refl
      by false e =
          kept_none found c
          ∙ sym (nothing_kept c (node.EntryOf s.index ∷ []) (λ k h among.
          (let is : node.EntryOf s.index ≡ k = the_one k (node.EntryOf s.index) h in
          let n : Node = node_of c k in
          false≢true (sym e ∙ entry_stands doc n c s.index ((reached.each n).0
          (found_reached n among)) (ap (node_of c) (sym is))))))

  behind : (c : ℕ) (front ks ls : List NodeKind) → kept found c ks ≡ kept found c ls
      → kept found c (front ++ ks) ≡ kept found c (front ++ ls)
  behind c front ks ls e =
      kept_both found c front ks ∙ ap (λ (l : List Node). kept found c front ++ l) e
      ∙ sym (kept_both found c front ls)

  -- the kinds on a statement, by their parts
  parts : (c : ℕ) (s : Statement) → kinds_at doc c s
      ≡ own_kinds s ++ (map node.Bound (own_argument doc c s) ++
      (map node.Bound (own_exposed doc c s)
      ++ (own_entry doc c s ++ own_groups doc c s)))
  parts c s =
      ap (λ (l : List NodeKind). l ++ (own_entry doc c s ++ own_groups doc c s))
      (map-append node.Bound (own_binding s) (own_argument doc c s ++ own_exposed doc c s)
      ∙ ap (λ (l : List NodeKind). own_kinds s ++ l) (map-append node.Bound (own_argument doc c s)
      (own_exposed doc c s)))
      ∙ append_assoc (own_kinds s) (map node.Bound (own_argument doc c s) ++ map node.Bound
      (own_exposed doc c s)) (own_entry doc c s ++ own_groups doc c s)
      ∙ ap (λ (l : List NodeKind). own_kinds s ++ l)
      (append_assoc (map node.Bound (own_argument doc c s)) (map node.Bound (own_exposed doc c s))
      (own_entry doc c s ++ own_groups doc c s))

  pub listed : (c : ℕ) (s : Statement) (arg : Option BindRef) (xs : List Exposed) (b : Option Bind)
      → map node.Bound (own_argument doc c s) ≡ bound_kinds arg
      → map node.Bound (own_exposed doc c s) ≡ exposed_kinds xs
      → own_groups doc c s ≡ groups_of_option doc c s.index b
      → kept found c (kinds_at doc c s) ≡ kept found c (kinds_on doc c arg xs b s)
  listed c s arg xs b args shown groups =
      ap (kept found c) (parts c s
      ∙ ap (λ (l : List NodeKind). own_kinds s ++ (l ++ (map node.Bound (own_exposed doc c s) ++
      (own_entry doc c s ++ own_groups doc c s)))) args
      ∙ ap (λ (l : List NodeKind). own_kinds s ++ (bound_kinds arg ++
      (l ++ (own_entry doc c s ++ own_groups doc c s)))) shown
      ∙ ap (λ (l : List NodeKind). own_kinds s ++ (bound_kinds arg ++
      (exposed_kinds xs ++ (own_entry doc c s ++ l)))) groups)
      ∙ behind c (own_kinds s) _ _ (behind c (bound_kinds arg) _ _ (behind c (exposed_kinds xs) _ _
      (kept_both found c (own_entry doc c s) (groups_of_option doc c s.index b)
      ∙ ap (λ (l : List Node). l ++ kept found c (groups_of_option doc c s.index b))
      (entry_kept c s)
      ∙ sym (kept_both found c (node.EntryOf s.index ∷ []) (groups_of_option doc c s.index b)))))

-- ---- statements that are passed over

own_stands : (doc : Doc) (c i l : ℕ) (block : Option ℕ) (x : Item) (b : BindRef)
    → Contains (own_binding (record { index = i; line = l; block = block; item = x })) b
    → place_of doc c (node.Bound b) ≡ Some i
own_stands doc c i l block (item.Provides mark scope n params result body) b h =
    ap (λ (b : BindRef). place_of doc c (node.Bound b)) (sym (the_one b (binding.Member i) h))
own_stands doc c i l block (item.Binds mark scope n param result) b h =
    ap (λ (b : BindRef). place_of doc c (node.Bound b)) (sym (the_one b (binding.Member i) h))
own_stands doc c i l block (item.Produces mark n params result body) b h =
    ap (λ (b : BindRef). place_of doc c (node.Bound b)) (sym (the_one b (binding.Member i) h))
own_stands doc c i l block (item.Class true scope n params interfaces) b h =
    ap (λ (b : BindRef). place_of doc c (node.Bound b)) (sym (the_one b (binding.ClassItem i) h))
own_stands doc c i l block x b h = absurd (none_in b h)

at_place : (n : ℕ) (o : Option ℕ) → option_map_or (λ i. i == n) o false ≡ true → o ≡ Some n
at_place n None h = absurd (false≢true h)
at_place n (Some m) h = ap Some (eqb-true m n h)

group_stands : (doc : Doc) (c i : ℕ) (does : BindKind) (key : Key) (j : Inner) (k : NodeKind)
    → Contains (group_at doc c i does key j) k → place_of doc c k ≡ Some i
unfolding group_at
group_stands doc c i does key j k h =
    let g = group does key j in
    let a = out_if (has_group does key.core j) (if stands_at doc c i g then g ∷ [] else []) k h in
    let b = out_if (stands_at doc c i g) (g ∷ []) k a.1 in
    ap (place_of doc c) (sym (the_one k g b.1)) ∙ at_place i (place_of doc c g) b.0

groups_stand : (doc : Doc) (c i : ℕ) (b : Option Bind) (k : NodeKind)
    → Contains (groups_of_option doc c i b) k → place_of doc c k ≡ Some i
groups_stand doc c i None k h = absurd (none_in k h)
groups_stand doc c i (Some b) k h =
    elim (Contains-append_cases (at inner.Plain) _ k h) [
      | inl l ↦ group_stands doc c i b.kind b.key inner.Plain k l
      | inr r ↦ elim (Contains-append_cases (at inner.Provider) _ k r) [
        | inl l ↦ group_stands doc c i b.kind b.key inner.Provider k l
        | inr r ↦ elim (Contains-append_cases (at inner.Lazy) _ k r) [
          | inl l ↦ group_stands doc c i b.kind b.key inner.Lazy k l
          | inr r ↦ elim (Contains-append_cases (at inner.ProviderLazy) _ k r) [
            | inl l ↦ group_stands doc c i b.kind b.key inner.ProviderLazy k l
            | inr r ↦ group_stands doc c i b.kind b.key inner.Produced k r
          ]
        ]
      ]
    ]
  where
    at : Inner → List NodeKind
    at j = group_at doc c i b.kind b.key j

-- without bound arguments and exposed entries, each kind on a statement stands there
all_stand : (doc : Doc) (c : ℕ) (b : Option Bind) (s : Statement) (k : NodeKind)
    → Contains (kinds_on doc c None [] b s) k → place_of doc c k ≡ Some s.index
all_stand doc c b s k h =
    elim (Contains-append_cases (own_kinds s) _ k h) [
      | inl l ↦ (let o = out_map node.Bound (own_binding s) k l in
          ap (place_of doc c) (sym o.2) ∙ own_stands doc c s.index s.line s.block s.item o.0 o.1)
      | inr r ↦ elim (Contains-append_cases (node.EntryOf s.index ∷ [])
          (groups_of_option doc c s.index b) k r) [
            | inl e ↦ ap (place_of doc c) (sym (the_one k (node.EntryOf s.index) e))
            | inr g ↦ groups_stand doc c s.index b k g
          ]
    ]

module _ (doc : Doc) (found : List Node) (taken : Rows) (reached : AreReached doc found)
    (are : AreTaken doc found taken) where
  passed_over : (c : ℕ) (b : Option Bind) (s : Statement) → is_taken taken c s.index ≡ false
      → kept found c (kinds_on doc c None [] b s) ≡ []
  passed_over c b s free =
      nothing_kept doc found reached c (kinds_on doc c None [] b s) (λ k h among.
      (let n : Node = node_of c k in
      true≢false (sym (taken_there doc found taken n s.index are
      (found_reached doc found reached n among) (all_stand doc c b s k h)) ∙ free)))

  pub looked_at : (c : ℕ) (arg : Option BindRef) (xs : List Exposed) (b : Option Bind)
      (s : Statement)
      → kept found c (kinds_on doc c arg xs b s) ≡ kept found c (kinds_where doc taken c arg xs b s)
  looked_at c (Some a) xs b s = refl
  looked_at c None (x ∷ xs) b s = refl
  looked_at c None [] b s = by (is_taken taken c s.index) refl
    where
      by : (t : Bool) → is_taken taken c s.index ≡ t
          → kept found c (kinds_on doc c None [] b s) ≡ kept found c
          (if t then kinds_on doc c None [] b s else [])
      by true e = refl
      by false e = passed_over c b s e ∙ sym (kept_none found c)

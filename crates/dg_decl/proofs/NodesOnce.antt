-- Each candidate, and so each node of a document, stands once in the list of these.
use Rattle.std.proofs.Common.{◌≡◌, inl, inr, ℕ, suc, ◌≤◌, Bool, true, false, not, ◌&&◌, ◌==◌, nat_lt, is_none, List, [], ◌∷◌, ◌++◌, length, map, filter, filter_map, flat_map, position, slice_get, Contains, Option, Some, None, option_map, option_to_list, refl, sym, ap, ◌∙◌, arith}
use Rattle.std.specs.List.{list_any, range_with_len, enumerate_from}
use Rattle.std.specs.Option.{option_map_or}
use Rattle.std.proofs.lemmas.Bool.{false≢true, eqb-true, eq-eqb}
use Rattle.std.proofs.lemmas.Option.{none-some, same_Some, slice_get-get_or}
use Rattle.std.proofs.lemmas.List.Elements.{Contains-append_cases}
use Rattle.std.proofs.lemmas.List.Quantifiers.{position-Some}
use Rattle.dg_types.specs.declared.shape.Qualifier.{Qualifier}
use Rattle.dg_types.specs.declared.key.Key.{Key}
use Rattle.dg_types.specs.declared.key.Inner.{Inner}
use Rattle.dg_types.specs.declared.key.Inner.TheVariants as inner
use Rattle.dg_types.specs.declared.key.Core.{Core}
use Rattle.dg_types.specs.declared.key.Core.TheVariants as core
use Rattle.dg_decl.specs.declared.document.Doc.{Doc}
use Rattle.dg_decl.specs.declared.item.Item.{Item}
use Rattle.dg_decl.specs.declared.item.Item.TheVariants as item
use Rattle.dg_decl.specs.declared.component.Exposed.{Exposed}
use Rattle.dg_decl.specs.declared.binding.Bind.{Bind}
use Rattle.dg_decl.specs.declared.binding.BindKind.{BindKind}
use Rattle.dg_decl.specs.declared.binding.BindKind.TheVariants as kind
use Rattle.dg_decl.specs.declared.binding.BindRef.{BindRef}
use Rattle.dg_decl.specs.declared.binding.BindRef.TheVariants as binding
use Rattle.dg_decl.specs.declared.graph.Node.{Node}
use Rattle.dg_decl.specs.declared.graph.NodeKind.{NodeKind}
use Rattle.dg_decl.specs.declared.graph.NodeKind.TheVariants as node
use Rattle.dg_decl.specs.Document.{Statement, statements, statements_from, open_behind}
use Rattle.dg_decl.specs.Components.{is_number, class_count, is_entry_of, entries_of, deps_of, exposed_key, exposed_as, exposed_of, header_of, bound_of}
use Rattle.dg_decl.specs.Lookup.{binding_of, bindings, is_header_of, bound_lines}
use Rattle.dg_decl.specs.Graph.{same_node, node_of, forms_of_core, forms_of, optional_forms, own_binding, own_argument, own_exposed, own_entry, first_statement, stands_first, groups_of, own_groups, kinds_at, default_kind, kinds_of, candidates, is_reachable, nodes}
use Rattle.dg_decl.specs.GraphLaws.{NodesAreTheReachableOnes}
use Rattle.dg_decl.proofs.NodeWalks.{any_from}
use Rattle.dg_decl.proofs.NodeEquality.{node_decides, first_so as left_so, second_so}
use Rattle.dg_decl.proofs.MemberLemmas.{none_in, first_or_rest, the_one, out_map, out_filter, out_filter_map, out_flat_map, out_option, out_option_map, out_if}
use Rattle.dg_decl.proofs.OnceLemmas.{Once, once_one, once_option, once_if, once_append, once_filter, TellsApart, once_map, once_flat_map, once_filter_map, once_range, numbers_tell, once_numbered, distinct_from_once}
use Rattle.dg_decl.proofs.NodeCandidates.{binding_item}
use Rattle.dg_decl.proofs.GraphLemmas.{reached_nodes}

-- ---- statements

from_least : (doc : Doc) (index : ℕ) (block : Option ℕ) (items : List Item) (s : Statement)
    → Contains (statements_from doc index block items) s → index ≤ s.index
from_least doc index block [] s c = absurd (none_in s c)
from_least doc index block (x ∷ xs) s c =
    elim (first_or_rest s _ (statements_from doc (suc index) (open_behind block index x) xs) c) [
      | inl e ↦ (let same : index ≡ s.index = ap (λ (s : Statement). s.index) e in omega arith)
      | inr r ↦ (let le : suc index ≤ s.index = from_least doc (suc index) (open_behind block index
          x) xs s r in omega arith)
    ]

from_tell : (doc : Doc) (index : ℕ) (block : Option ℕ) (items : List Item) (s t : Statement)
    → Contains (statements_from doc index block items) s
    → Contains (statements_from doc index block items) t → s.index ≡ t.index → s ≡ t
from_tell doc index block [] s t c d e = absurd (none_in s c)
from_tell doc index block (x ∷ xs) s t c d e =
    elim (first_or_rest s _ (statements_from doc (suc index) (open_behind block index x) xs) c) [
      | inl se ↦ elim (first_or_rest t _ (statements_from doc (suc index) (open_behind block index
          x) xs) d) [
            | inl te ↦ sym se ∙ te
            | inr tr ↦ absurd (let le : suc index ≤ t.index = from_least doc (suc index) (open_behind
                block index x) xs t tr in
                let same : index ≡ s.index = ap (λ (s : Statement). s.index) se in let both : s.index ≡
                t.index = e in omega arith)
          ]
      | inr sr ↦ elim (first_or_rest t _ (statements_from doc (suc index) (open_behind block index
          x) xs) d) [
            | inl te ↦ absurd (let le : suc index ≤ s.index = from_least doc (suc index) (open_behind
                block index x) xs s sr in
                let same : index ≡ t.index = ap (λ (s : Statement). s.index) te in let both : s.index ≡
                t.index = e in omega arith)
            | inr tr ↦ from_tell doc (suc index) (open_behind block index x) xs s t sr tr e
          ]
    ]

from_once : (doc : Doc) (index : ℕ) (block : Option ℕ) (items : List Item)
    → Once (statements_from doc index block items)
from_once doc index block [] = tt
from_once doc index block (x ∷ xs) = (
  λ c. (let le : suc index ≤ index = from_least doc (suc index) (open_behind block index x) xs _ c
      in absurd (omega arith)),
  from_once doc (suc index) (open_behind block index x) xs,
)

-- statements are told apart by their indices
indices_tell : (doc : Doc) → TellsApart (λ (s : Statement). s.index) (statements doc)
unfolding statements
indices_tell doc s t c d e = from_tell doc 0 None doc.items s t c d e

once_statements : (doc : Doc) → Once (statements doc)
unfolding statements
once_statements doc = from_once doc 0 None doc.items

-- ---- bindings

items_tell : (doc : Doc) → TellsApart (λ (b : Bind). b.item) (bindings doc)
unfolding bindings
items_tell doc b d among with_it e =
    let s = out_filter_map binding_of (statements doc) b among in
    let t = out_filter_map binding_of (statements doc) d with_it in
    same_Some b d (sym s.2 ∙ ap binding_of (indices_tell doc s.0 t.0 s.1 t.1 (binding_item doc s.0
    b s.1 s.2 ∙ e ∙ sym (binding_item doc t.0 d t.1 t.2))) ∙ t.2)

once_bindings : (doc : Doc) → Once (bindings doc)
unfolding bindings
once_bindings doc =
    once_filter_map binding_of (statements doc) (once_statements doc)
    (λ s t b c d e f. indices_tell doc s t c d (binding_item doc s b c e ∙ sym (binding_item doc t
    b d f)))

-- ---- entries and what is exposed

once_entries : (doc : Doc) (c : ℕ) → Once (entries_of doc c)
unfolding entries_of
once_entries doc c =
    once_map (λ (s : Statement). s.index) (filter (is_entry_of doc c) (statements doc))
    (once_filter (is_entry_of doc c) (statements doc) (once_statements doc))
    (λ s t a b e. indices_tell doc s t (out_filter (is_entry_of doc c) (statements doc) s a).0
    (out_filter (is_entry_of doc c) (statements doc) t b).0 e)

abbrev exposed_at : Doc → ℕ × ℕ → List Exposed
exposed_at doc d = filter_map (exposed_as doc d.0) (entries_of doc d.1)

-- an exposed entry by its dependency, its entry and the key of this
exposed_so : (doc : Doc) (place entry : ℕ) (x : Exposed) → exposed_as doc place entry ≡ Some x
    → (x.dep ≡ place) × (x.entry ≡ entry) × (exposed_key doc entry ≡ Some x.key)
exposed_so doc place entry x e =
    let k = out_option_map _ (exposed_key doc entry) x e in (
      ap (λ (x : Exposed). x.dep) (sym k.2),
      ap (λ (x : Exposed). x.entry) (sym k.2),
      k.1 ∙ ap Some
          (ap (λ (x : Exposed). x.key) k.2),
    )

once_exposed : (doc : Doc) (c : ℕ) → Once (exposed_of doc c)
unfolding exposed_of
once_exposed doc c =
    once_flat_map (exposed_at doc) (enumerate_from 0 (deps_of doc c)) (once_numbered 0 (deps_of doc
    c))
    (λ d among. once_filter_map (exposed_as doc d.0) (entries_of doc d.1) (once_entries doc d.1)
    (λ i j x a b e f. sym (exposed_so doc d.0 i x e).1 ∙ (exposed_so doc d.0 j x f).1))
    (λ d f x a b l r. (let i = out_filter_map (exposed_as doc d.0) (entries_of doc d.1) x l in
    let j = out_filter_map (exposed_as doc f.0) (entries_of doc f.1) x r in
    numbers_tell 0 (deps_of doc c) d f a b (sym (exposed_so doc d.0 i.0 x i.2).0 ∙ (exposed_so doc
    f.0 j.0 x j.2).0)))

-- the key of an exposed entry is that of its item
exposed_has_key : (doc : Doc) (c : ℕ) (x : Exposed) → Contains (exposed_of doc c) x
    → exposed_key doc x.entry ≡ Some x.key
unfolding exposed_of
exposed_has_key doc c x h =
    let d = out_flat_map (exposed_at doc) (enumerate_from 0 (deps_of doc c)) x h in
    let i = out_filter_map (exposed_as doc d.0.0) (entries_of doc d.0.1) x d.2 in
    let so = exposed_so doc d.0.0 i.0 x i.2 in
    ap (exposed_key doc) so.1 ∙ so.2

abbrev dep_in : BindRef → ℕ
dep_in (binding.Exposed d e) = d
dep_in other = 0

abbrev entry_in : BindRef → ℕ
entry_in (binding.Exposed d e) = e
entry_in other = 0

exposed_tell : (doc : Doc) (c : ℕ)
    → TellsApart (λ (x : Exposed). binding.Exposed x.dep x.entry) (exposed_of doc c)
exposed_tell doc c x y a b e =
    let deps : x.dep ≡ y.dep = ap dep_in e in
    let entries : x.entry ≡ y.entry = ap entry_in e in
    let keys : x.key ≡ y.key = same_Some x.key y.key (sym (exposed_has_key doc c x a) ∙ ap
    (exposed_key doc) entries ∙ exposed_has_key doc c y b) in
    λ i. record { dep = deps i; entry = entries i; key = keys i }

-- ---- on which statement a kind stands

abbrev stand : Doc → ℕ → NodeKind → Option ℕ
stand doc class (node.Bound (binding.Member i)) = Some i
stand doc class (node.Bound (binding.ClassItem i)) = Some i
stand doc class (node.Bound (binding.Arg a)) = option_map (λ (s : Statement). s.index) (slice_get
    (bound_lines doc class) a)
stand doc class (node.Bound binding.Default) = None
stand doc class (node.Bound (binding.Exposed d e)) = option_map (λ (h : Statement). h.index)
    (header_of doc class)
stand doc class (node.Multi k) = first_statement doc class k
stand doc class (node.Opt k) = first_statement doc class k
stand doc class (node.EntryOf i) = Some i

abbrev stand_bound : Doc → ℕ → BindRef → Option ℕ
stand_bound doc class b = stand doc class (node.Bound b)

-- the sorts of bindings, and of kinds
abbrev sort_of : BindRef → ℕ
sort_of (binding.Arg a) = 1
sort_of (binding.Exposed d e) = 2
sort_of other = 0

abbrev sort_of_kind : NodeKind → ℕ
sort_of_kind (node.Bound b) = 0
sort_of_kind (node.EntryOf i) = 1
sort_of_kind other = 2

own_so : (doc : Doc) (class i l : ℕ) (block : Option ℕ) (x : Item) (b : BindRef)
    → Contains (own_binding (record { index = i; line = l; block = block; item = x })) b
    → (stand_bound doc class b ≡ Some i) × (sort_of b ≡ 0)
own_so doc class i l block (item.Provides mark scope n params result body) b c = (
  ap (stand_bound
      doc class) (sym (the_one b (binding.Member i) c)),
  ap sort_of (sym (the_one b (binding.Member
      i) c)),
)
own_so doc class i l block (item.Binds mark scope n param result) b c = (
  ap (stand_bound doc class)
      (sym (the_one b (binding.Member i) c)),
  ap sort_of (sym (the_one b (binding.Member i) c)),
)
own_so doc class i l block (item.Produces mark n params result body) b c = (
  ap (stand_bound doc
      class) (sym (the_one b (binding.Member i) c)),
  ap sort_of (sym (the_one b (binding.Member i)
      c)),
)
own_so doc class i l block (item.Class true scope n params interfaces) b c = (
  ap (stand_bound doc
      class) (sym (the_one b (binding.ClassItem i) c)),
  ap sort_of (sym (the_one b (binding.ClassItem
      i) c)),
)
own_so doc class i l block x b c = absurd (none_in b c)

once_own : (i l : ℕ) (block : Option ℕ) (x : Item)
    → Once (own_binding (record { index = i; line = l; block = block; item = x }))
once_own i l block (item.Provides mark scope n params result body) = once_one (binding.Member i)
once_own i l block (item.Binds mark scope n param result) = once_one (binding.Member i)
once_own i l block (item.Produces mark n params result body) = once_one (binding.Member i)
once_own i l block (item.Class true scope n params interfaces) = once_one (binding.ClassItem i)
once_own i l block x = tt

abbrev argument_place : Doc → ℕ → Statement → Option ℕ
argument_place doc class s = position (λ b. b.index == s.index) (bound_lines doc class)

argument_so : (doc : Doc) (class : ℕ) (s : Statement) (b : BindRef)
    → Contains (own_argument doc class s) b
    → (stand_bound doc class b ≡ Some s.index) × (sort_of b ≡ 1)
argument_so doc class s b c =
    let a = out_map binding.Arg (option_to_list (argument_place doc class s)) b c in
    let place = position-Some (λ (b : Statement). b.index == s.index) (bound_lines doc class) a.0 s
    (out_option (argument_place doc class s) a.0 a.1) in
    let got = slice_get-get_or (bound_lines doc class) a.0 s place.0 in (
      ap (stand_bound doc class) (sym a.2) ∙ ap (option_map (λ (s : Statement). s.index)) got ∙ ap
          Some (eqb-true _ s.index place.1),
      ap sort_of (sym a.2),
    )

once_argument : (doc : Doc) (class : ℕ) (s : Statement) → Once (own_argument doc class s)
once_argument doc class s =
    once_map binding.Arg (option_to_list (argument_place doc class s)) (once_option (argument_place
    doc class s)) (λ i j a b e. ap arg_in e)
  where
    arg_in : BindRef → ℕ
    arg_in (binding.Arg a) = a
    arg_in other = 0

numbered : (n : ℕ) (o : Option ℕ) → is_number n o ≡ true → o ≡ Some n
numbered n None h = absurd (false≢true h)
numbered n (Some m) h = ap Some (eqb-true m n h)

exposed_stand : (doc : Doc) (class : ℕ) (s : Statement) (b : BindRef)
    → Contains (own_exposed doc class s) b
    → (stand_bound doc class b ≡ Some s.index) × (sort_of b ≡ 2)
exposed_stand doc class s b c =
    let w = out_if (is_header_of doc class s) (map (λ (x : Exposed). binding.Exposed x.dep x.entry)
    (exposed_of doc class)) b c in
    let x = out_map (λ (x : Exposed). binding.Exposed x.dep x.entry) (exposed_of doc class) b w.1 in (
      ap (stand_bound doc class) (sym x.2) ∙ numbered s.index (option_map (λ (h : Statement).
          h.index) (header_of doc class)) w.0,
      ap sort_of (sym x.2),
    )

once_own_exposed : (doc : Doc) (class : ℕ) (s : Statement) → Once (own_exposed doc class s)
once_own_exposed doc class s =
    once_if (is_header_of doc class s) (map (λ (x : Exposed). binding.Exposed x.dep x.entry)
    (exposed_of doc class))
    (once_map (λ (x : Exposed). binding.Exposed x.dep x.entry) (exposed_of doc class) (once_exposed
    doc class) (exposed_tell doc class))

-- ---- sets, maps and optionals

first_so : (n : ℕ) (o : Option ℕ) → option_map_or (λ i. i == n) o false ≡ true → o ≡ Some n
first_so n None h = absurd (false≢true h)
first_so n (Some m) h = ap Some (eqb-true m n h)

groups_so : (doc : Doc) (class : ℕ) (s : Statement) (how : BindKind) (bk : Key) (k : NodeKind)
    → Contains (groups_of doc class s how bk) k
    → (stand doc class k ≡ Some s.index) × (sort_of_kind k ≡ 2)
groups_so doc class s kind.Explicit bk k h = absurd (none_in k h)
groups_so doc class s kind.OptionalOf bk k h =
    let m = out_map node.Opt (filter (stands_first doc class s) (optional_forms bk)) k h in
    let f = out_filter (stands_first doc class s) (optional_forms bk) m.0 m.1 in (
      ap (stand doc class) (sym m.2) ∙ first_so s.index (first_statement doc class m.0) f.1,
      ap
          sort_of_kind (sym m.2),
    )
groups_so doc class s how bk k h =
    let m = out_map node.Multi (filter (stands_first doc class s) (forms_of bk)) k h in
    let f = out_filter (stands_first doc class s) (forms_of bk) m.0 m.1 in (
      ap (stand doc class) (sym m.2) ∙ first_so s.index (first_statement doc class m.0) f.1,
      ap
          sort_of_kind (sym m.2),
    )

-- the number of a form
abbrev form : Inner → ℕ
form inner.Plain = 0
form inner.Provider = 1
form inner.Lazy = 2
form inner.ProviderLazy = 3
form inner.Produced = 4

abbrev form_of : Core → ℕ
form_of (core.One b) = 0
form_of (core.Set b i) = form i
form_of (core.Map k b i) = form i
form_of (core.Optional b i) = form i

abbrev are_apart : List Core → Bool
are_apart [] = true
are_apart (c ∷ cs) = not (list_any (λ d. form_of c == form_of d) cs) && are_apart cs

not_both : (b : Bool) → not b ≡ true → b ≡ true → ⊥
not_both true h e = false≢true h
not_both false h e = false≢true e

once_by_forms : (cs : List Core) → are_apart cs ≡ true → Once cs
once_by_forms [] h = tt
once_by_forms (c ∷ cs) h = (
  λ among. not_both _ (left_so _ _ h) (any_from (λ d. form_of c == form_of d) cs c among (eq-eqb
      (form_of c) (form_of c) refl)),
  once_by_forms cs (second_so _ _ h),
)

once_forms_of_core : (c : Core) → Once (forms_of_core c)
once_forms_of_core (core.One b) = tt
once_forms_of_core (core.Set b i) = once_by_forms (forms_of_core (core.Set b i)) refl
once_forms_of_core (core.Map k b i) = once_by_forms (forms_of_core (core.Map k b i)) refl
once_forms_of_core (core.Optional b i) = once_by_forms (forms_of_core (core.Optional b i)) refl

abbrev key_with : Option Qualifier → Core → Key
key_with q c = record { qualifier = q; core = c }

once_forms : (k : Key) → Once (forms_of k)
once_forms k = once_map (key_with k.qualifier) (forms_of_core k.core) (once_forms_of_core k.core)
    (λ c d a b e. ap (λ (k : Key). k.core) e)

once_optional_forms : (q : Option Qualifier) (c : Core) → Once (optional_forms (key_with q c))
once_optional_forms q (core.One b) = once_forms (key_with q (core.Optional b inner.Plain))
once_optional_forms q c = tt

abbrev key_in : Key → NodeKind → Key
key_in k (node.Multi j) = j
key_in k (node.Opt j) = j
key_in k other = k

once_groups_of : (doc : Doc) (class : ℕ) (s : Statement) (how : BindKind) (bk : Key)
    → Once (groups_of doc class s how bk)
once_groups_of doc class s kind.Explicit bk = tt
once_groups_of doc class s kind.OptionalOf bk =
    once_map node.Opt (filter (stands_first doc class s) (optional_forms bk))
    (once_filter (stands_first doc class s) (optional_forms bk) (once_optional_forms bk.qualifier
    bk.core)) (λ j k a b e. ap (key_in bk) e)
once_groups_of doc class s how bk =
    once_map node.Multi (filter (stands_first doc class s) (forms_of bk))
    (once_filter (stands_first doc class s) (forms_of bk) (once_forms bk)) (λ j k a b e. ap
    (key_in bk) e)

abbrev here : Statement → Bind → Bool
here s b = b.item == s.index

once_own_groups : (doc : Doc) (class : ℕ) (s : Statement) → Once (own_groups doc class s)
once_own_groups doc class s =
    once_flat_map (λ b. groups_of doc class s b.kind b.key) (filter (here s) (bindings doc))
    (once_filter (here s) (bindings doc) (once_bindings doc))
    (λ b among. once_groups_of doc class s b.kind b.key)
    (λ b d k l r f g. (let bi = out_filter (here s) (bindings doc) b l in let di = out_filter
    (here s) (bindings doc) d r in
    items_tell doc b d bi.0 di.0 (eqb-true b.item s.index bi.1 ∙ sym (eqb-true d.item s.index
    di.1))))

-- ---- the kinds on a statement

abbrev bounds_at : Doc → ℕ → Statement → List BindRef
bounds_at doc class s = own_binding s ++ (own_argument doc class s ++ own_exposed doc class s)

apart_by : {A : Type 0} (f : A → ℕ) (x : A) (m n : ℕ) → f x ≡ m → f x ≡ n → (m == n) ≡ false → ⊥
apart_by f x m n e g differ = false≢true (sym differ ∙ eq-eqb m n (sym e ∙ g))

once_bounds : (doc : Doc) (class : ℕ) (s : Statement) → Once (bounds_at doc class s)
once_bounds doc class s =
    once_append (own_binding s) (own_argument doc class s ++ own_exposed doc class s) (once_own
    s.index s.line s.block s.item)
    (once_append (own_argument doc class s) (own_exposed doc class s) (once_argument doc class s)
    (once_own_exposed doc class s)
    (λ b l r. apart_by sort_of b 1 2 (argument_so doc class s b l).1 (exposed_stand doc class s b
    r).1 refl))
    (λ b l r. (let first = (own_so doc class s.index s.line s.block s.item b l).1 in
    elim (Contains-append_cases (own_argument doc class s) (own_exposed doc class s) b r) [
      | inl a ↦ apart_by sort_of b 0 1 first (argument_so doc class s b a).1 refl
      | inr x ↦ apart_by sort_of b 0 2 first (exposed_stand doc class s b x).1 refl
    ]))

bound_stand : (doc : Doc) (class : ℕ) (s : Statement) (b : BindRef)
    → Contains (bounds_at doc class s) b → stand_bound doc class b ≡ Some s.index
bound_stand doc class s b c =
    elim (Contains-append_cases (own_binding s) (own_argument doc class s ++ own_exposed doc class
    s) b c) [
      | inl l ↦ (own_so doc class s.index s.line s.block s.item b l).0
      | inr r ↦ elim (Contains-append_cases (own_argument doc class s) (own_exposed doc class s) b
          r) [
            | inl a ↦ (argument_so doc class s b a).0
            | inr x ↦ (exposed_stand doc class s b x).0
          ]
    ]

entry_so : (doc : Doc) (class : ℕ) (s : Statement) (k : NodeKind)
    → Contains (own_entry doc class s) k → (stand doc class k ≡ Some s.index) × (sort_of_kind k ≡ 1)
entry_so doc class s k c =
    let e = the_one k (node.EntryOf s.index) (out_if (list_any (λ i. i == s.index) (entries_of doc
    class)) (node.EntryOf s.index ∷ []) k c).1 in
    (ap (stand doc class) (sym e), ap sort_of_kind (sym e))

own_groups_so : (doc : Doc) (class : ℕ) (s : Statement) (k : NodeKind)
    → Contains (own_groups doc class s) k
    → (stand doc class k ≡ Some s.index) × (sort_of_kind k ≡ 2)
own_groups_so doc class s k c =
    let b = out_flat_map (λ b. groups_of doc class s b.kind b.key) (filter (here s) (bindings doc))
    k c in
    groups_so doc class s b.0.kind b.0.key k b.2

abbrev bound_in : BindRef → NodeKind → BindRef
bound_in b (node.Bound c) = c
bound_in b other = b

once_kinds_at : (doc : Doc) (class : ℕ) (s : Statement) → Once (kinds_at doc class s)
once_kinds_at doc class s =
    once_append (map node.Bound (bounds_at doc class s)) (own_entry doc class s ++ own_groups doc
    class s)
    (once_map node.Bound (bounds_at doc class s) (once_bounds doc class s) (λ b d l r e. ap
    (bound_in b) e))
    (once_append (own_entry doc class s) (own_groups doc class s)
    (once_if (list_any (λ i. i == s.index) (entries_of doc class)) (node.EntryOf s.index ∷ [])
    (once_one (node.EntryOf s.index)))
    (once_own_groups doc class s)
    (λ k l r. apart_by sort_of_kind k 1 2 (entry_so doc class s k l).1 (own_groups_so doc class s k
    r).1 refl))
    (λ k l r. (let b = out_map node.Bound (bounds_at doc class s) k l in let first : sort_of_kind k
    ≡ 0 = ap sort_of_kind (sym b.2) in
    elim (Contains-append_cases (own_entry doc class s) (own_groups doc class s) k r) [
      | inl e ↦ apart_by sort_of_kind k 0 1 first (entry_so doc class s k e).1 refl
      | inr g ↦ apart_by sort_of_kind k 0 2 first (own_groups_so doc class s k g).1 refl
    ]))

kind_stand : (doc : Doc) (class : ℕ) (s : Statement) (k : NodeKind)
    → Contains (kinds_at doc class s) k → stand doc class k ≡ Some s.index
kind_stand doc class s k c =
    elim (Contains-append_cases (map node.Bound (bounds_at doc class s)) (own_entry doc class s ++
    own_groups doc class s) k c) [
      | inl l ↦ (let b = out_map node.Bound (bounds_at doc class s) k l in
          ap (stand doc class) (sym b.2) ∙ bound_stand doc class s b.0 b.1)
      | inr r ↦ elim (Contains-append_cases (own_entry doc class s) (own_groups doc class s) k r) [
        | inl e ↦ (entry_so doc class s k e).0
        | inr g ↦ (own_groups_so doc class s k g).0
      ]
    ]

-- ---- the kinds of a class, and candidates

abbrev has_no_header : Doc → ℕ → Bool
has_no_header doc class = is_none (header_of doc class) && nat_lt 0 (length (bound_of doc class))

once_kinds : (doc : Doc) (class : ℕ) → Once (kinds_of doc class)
once_kinds doc class =
    once_append (default_kind doc class) (flat_map (kinds_at doc class) (statements doc))
    (once_if (has_no_header doc class) (node.Bound binding.Default ∷ []) (once_one (node.Bound
    binding.Default)))
    (once_flat_map (kinds_at doc class) (statements doc) (once_statements doc) (λ s among.
    once_kinds_at doc class s)
    (λ s t k a b l r. indices_tell doc s t a b (same_Some s.index t.index (sym (kind_stand doc
    class s k l) ∙ kind_stand doc class t k r))))
    (λ k l r. (let e = the_one k (node.Bound binding.Default) (out_if (has_no_header doc class)
    (node.Bound binding.Default ∷ []) k l).1 in
    let s = out_flat_map (kinds_at doc class) (statements doc) k r in
    none-some s.0.index (ap (stand doc class) e ∙ kind_stand doc class s.0 k s.2)))

once_candidates : (doc : Doc) → Once (candidates doc)
unfolding candidates
once_candidates doc =
    once_flat_map (λ c. map (node_of c) (kinds_of doc c)) (range_with_len 0 (class_count doc))
    (once_range 0 (class_count doc))
    (λ c among. once_map (node_of c) (kinds_of doc c) (once_kinds doc c) (λ j k a b e. ap
    (λ (n : Node). n.kind) e))
    (λ c d n a b l r. (let j = out_map (node_of c) (kinds_of doc c) n l in let k = out_map
    (node_of d) (kinds_of doc d) n r in
    ap (λ (n : Node). n.class) (j.2 ∙ sym k.2)))

pub once_nodes : (doc : Doc) → Once (nodes doc)
unfolding nodes
once_nodes doc = once_filter (is_reachable doc) (candidates doc) (once_candidates doc)

pub nodes_are_the_reachable_ones : NodesAreTheReachableOnes
nodes_are_the_reachable_ones doc = record {
  each = λ n. reached_nodes doc n;
  once = distinct_from_once same_node node_decides (nodes doc) (once_nodes doc);
}

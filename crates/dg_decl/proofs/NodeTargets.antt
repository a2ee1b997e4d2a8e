-- What a class finds is a candidate, and so what a candidate needs is one.
use Rattle.std.proofs.Common.{◌≡◌, inl, inr, ℕ, ◌<◌, Bool, true, false, cond, not, ◌&&◌, ◌||◌, ◌==◌, nat_lt, is_none, List, [], ◌∷◌, ◌++◌, length, map, filter, filter_map, flat_map, slice_get, Contains, Option, Some, None, option_map, option_and_then, refl, sym, ap, subst, ◌∙◌, arith}
use Rattle.std.specs.List.{list_any, list_all, range_with_len, find as find_first}
use Rattle.std.specs.Option.{option_map_or}
use Rattle.std.proofs.lemmas.Bool.{false≢true, or_left, or_right, eq-eqb}
use Rattle.std.proofs.lemmas.Option.{none-some, same_Some}
use Rattle.std.proofs.lemmas.List.Elements.{Contains-append_right, Contains-append_cases}
use Rattle.dg_lex.specs.Bytes.{Bytes}
use Rattle.dg_types.specs.declared.shape.Qualifier.{Qualifier}
use Rattle.dg_types.specs.declared.shape.TypeUse.{TypeUse}
use Rattle.dg_types.specs.declared.key.Key.{Key}
use Rattle.dg_types.specs.declared.key.Base.{Base}
use Rattle.dg_types.specs.declared.key.Base.TheVariants as base
use Rattle.dg_types.specs.declared.key.MapKind.{MapKind}
use Rattle.dg_types.specs.declared.key.Inner.{Inner}
use Rattle.dg_types.specs.declared.key.Inner.TheVariants as inner
use Rattle.dg_types.specs.declared.key.Core.{Core}
use Rattle.dg_types.specs.declared.key.Core.TheVariants as core
use Rattle.dg_types.specs.declared.key.Request.{Request}
use Rattle.dg_types.specs.Requests.{request_of}
use Rattle.dg_types.specs.Equality.{same_key}
use Rattle.dg_types.proofs.EqualityLemmas.{key_decides}
use Rattle.dg_decl.specs.declared.document.Doc.{Doc}
use Rattle.dg_decl.specs.declared.item.Item.{Item}
use Rattle.dg_decl.specs.declared.item.Item.TheVariants as item
use Rattle.dg_decl.specs.declared.binding.Bind.{Bind}
use Rattle.dg_decl.specs.declared.binding.BindKind.{BindKind}
use Rattle.dg_decl.specs.declared.binding.BindKind.TheVariants as kind
use Rattle.dg_decl.specs.declared.binding.BindRef.{BindRef}
use Rattle.dg_decl.specs.declared.binding.BindRef.TheVariants as binding
use Rattle.dg_decl.specs.declared.binding.Owned.{Owned}
use Rattle.dg_decl.specs.declared.binding.Found.{Found}
use Rattle.dg_decl.specs.declared.binding.Found.TheVariants as found
use Rattle.dg_decl.specs.declared.graph.Node.{Node}
use Rattle.dg_decl.specs.declared.graph.NodeKind.{NodeKind}
use Rattle.dg_decl.specs.declared.graph.NodeKind.TheVariants as node
use Rattle.dg_decl.specs.Document.{Statement, statements}
use Rattle.dg_decl.specs.Names.{item_at, class_item_named, params_of, result_of}
use Rattle.dg_decl.specs.Components.{class_count, chain, root_first, carries, deps_of, entries_of, header_of, bound_of}
use Rattle.dg_decl.specs.Lookup.{bindings, is_contribution, is_declaration, is_optional, acts_in, owned, explicit_in_chain, plain_key, inside_core, inside_key, contributions_in, contributions, is_declared, is_optional_declared, opens_in, injected_scope, injected_with, injected_item, injected_base, injected, multi, found_of_core, find_without_explicit, found_among, find}
use Rattle.dg_decl.specs.Graph.{node_of, mode_of_inner, inner_of, Dependency, asked, of_param, of_params, of_entry, of_binding, contribution_of, of_contributions, of_inside, is_nothing, deps, node_found, target, targets, forms_of, optional_forms, own_binding, own_argument, own_exposed, own_entry, first_statement, stands_first, groups_of, own_groups, kinds_at, default_kind, kinds_of, candidates}
use Rattle.dg_decl.specs.GraphLaws.{TargetsAreCandidates}
use Rattle.dg_decl.proofs.NodeWalks.{any_found, in_rest}
use Rattle.dg_decl.proofs.NodeEquality.{first_so, second_so, both_so}
use Rattle.dg_decl.proofs.MemberLemmas.{none_in, in_front, first_or_rest, the_one, in_map, out_map, in_filter, out_filter, in_flat_map, out_flat_map, out_option, out_option_map, out_and_then, out_filter_map, out_list_of, out_if, in_got, in_reverse, out_range}
use Rattle.dg_decl.proofs.AskedForms.{is_set_form, is_map_form, is_inside_form, is_asked, request_is_asked}
use Rattle.dg_decl.proofs.NodeCandidates.{statement_at, stands_as, chain_small, above_small, dep_small, stands_is, own_is, entries_are, contribution_made, member_is, IsOwned, chain_owned}

abbrev is_optional_type : Core → Bool
is_optional_type (core.Optional b i) = true
is_optional_type other = false

-- what a look-up leads to is a candidate
abbrev Fits : Doc → ℕ → Key → Found → Type 0
Fits doc c k f = (n : Node) → node_found c k f ≡ Some n → Contains (candidates doc) n

nothing_fits : (doc : Doc) (c : ℕ) (k : Key) → Fits doc c k found.Nothing
nothing_fits doc c k n e = absurd (none-some n e)

one_fits : (doc : Doc) (c : ℕ) (k : Key) (o : ℕ) (b : BindRef)
    → Contains (candidates doc) (node_of o (node.Bound b)) → Fits doc c k (found.One o b)
one_fits doc c k o b h n e = let P : Node → Type 0 = λ m. Contains (candidates doc) m in subst P
    (same_Some (node_of o (node.Bound b)) n e) h

among_fits : (doc : Doc) (c : ℕ) (k : Key) (os : List Owned) (f : Found)
    → ((o : Owned) → Contains os o → IsOwned doc o) → Fits doc c k f
    → Fits doc c k (found_among os f)
among_fits doc c k [] f each h = h
among_fits doc c k (o ∷ []) f each h = one_fits doc c k o.owner o.binding (each o (in_front o []))
among_fits doc c k (o ∷ p ∷ os) f each h = λ n e. absurd (none-some n e)

-- ---- the binding on which a set, map or optional stands

record Opened (doc : Doc) (c : ℕ) (k : Key) : Type 0 where
  at : ℕ
  bind : Bind
  among : Contains (bindings doc) bind
  opens : opens_in doc k at bind ≡ true
  first : first_statement doc c k ≡ Some bind.item

first_got : {A : Type 0} (xs : List A) (x : A) → Contains xs x → (y : A) × (slice_get xs 0 ≡ Some y)
first_got [] x c = absurd (none_in x c)
first_got (y ∷ ys) x c = (y, refl)

opened : (doc : Doc) (c : ℕ) (k : Key) (o : ℕ) (b : Bind) → Contains (root_first doc c) o
    → Contains (bindings doc) b → opens_in doc k o b ≡ true → Opened doc c k
opened doc c k o b up among opens =
    let all : List Bind = flat_map (λ o. filter (opens_in doc k o) (bindings doc)) (root_first doc
    c) in
    let some = in_flat_map (λ o. filter (opens_in doc k o) (bindings doc)) (root_first doc c) o b
    up (in_filter (opens_in doc k o) (bindings doc) b among opens) in
    let got = first_got all b some in
    let from = out_flat_map (λ o. filter (opens_in doc k o) (bindings doc)) (root_first doc c)
    got.0 (in_got all 0 got.0 got.1) in
    let kept = out_filter (opens_in doc k from.0) (bindings doc) got.0 from.2 in
    record {
      at = from.0;
      bind = got.0;
      among = kept.0;
      opens = kept.1;
      first = ap (option_map
          (λ (b : Bind). b.item)) got.1;
    }

-- a kind of a binding on a statement
group_is : (doc : Doc) (c : ℕ) (k : Key) (w : Opened doc c k) (n : NodeKind) → c < class_count doc
    → ((s : Statement) → stands_first doc c s k ≡ true → Contains (groups_of doc c s w.bind.kind
    w.bind.key) n) → Contains (candidates doc) (node_of c n)
group_is doc c k w n lt h =
    let stands = stands_as doc w.bind w.among in
    let s = stands.statement in
    let here : (w.bind.item == s.index) ≡ true = eq-eqb w.bind.item s.index (sym stands.index) in
    let first : stands_first doc c s k ≡ true = ap (λ o. option_map_or (λ i. i == s.index) o false)
    w.first ∙ here in
    stands_is doc c s n lt stands.stands
    (Contains-append_right (map node.Bound (own_binding s ++ (own_argument doc c s ++ own_exposed
    doc c s)))
    (own_entry doc c s ++ own_groups doc c s) n
    (Contains-append_right (own_entry doc c s) (own_groups doc c s) n
    (in_flat_map (λ b. groups_of doc c s b.kind b.key) (filter (λ b. b.item == s.index) (bindings
    doc)) w.bind n
    (in_filter (λ b. b.item == s.index) (bindings doc) w.bind w.among here) (h s first))))

abbrev is_group : BindKind → Bool
is_group k = is_contribution k || is_declaration k

multi_group : (doc : Doc) (c : ℕ) (s : Statement) (how : BindKind) (bk k : Key)
    → is_group how ≡ true → Contains (forms_of bk) k → stands_first doc c s k ≡ true
    → Contains (groups_of doc c s how bk) (node.Multi k)
multi_group doc c s kind.Explicit bk k h f first = absurd (false≢true h)
multi_group doc c s kind.OptionalOf bk k h f first = absurd (false≢true h)
multi_group doc c s how bk k h f first = in_map node.Multi (filter (stands_first doc c s) (forms_of
    bk)) k (in_filter (stands_first doc c s) (forms_of bk) k f first)

optional_group : (doc : Doc) (c : ℕ) (s : Statement) (how : BindKind) (bk k : Key)
    → is_optional how ≡ true → Contains (optional_forms bk) k → stands_first doc c s k ≡ true
    → Contains (groups_of doc c s how bk) (node.Opt k)
optional_group doc c s kind.OptionalOf bk k h f first = in_map node.Opt (filter (stands_first doc c
    s) (optional_forms bk)) k (in_filter (stands_first doc c s) (optional_forms bk) k f first)
optional_group doc c s how bk k h f first = absurd (false≢true h)

same_keys : (a b : Key) → same_key a b ≡ true → a ≡ b
same_keys a b h = (key_decides a b).0 h

-- ---- sets and maps

-- a key with its core type
abbrev key_with : Option Qualifier → Core → Key
key_with q c = record { qualifier = q; core = c }

set_forms : (q : Option Qualifier) (b : Base) (i : Inner) → is_set_form i ≡ true
    → Contains (forms_of (key_with q (core.Set b inner.Plain))) (key_with q (core.Set b i))
set_forms q b inner.Plain h = (0, omega arith, refl)
set_forms q b inner.Produced h = (1, omega arith, refl)
set_forms q b i h = absurd (false≢true h)

map_forms : (q : Option Qualifier) (m : MapKind) (b : Base) (i : Inner) → is_map_form i ≡ true
    → Contains (forms_of (key_with q (core.Map m b inner.Plain))) (key_with q (core.Map m b i))
map_forms q m b inner.Plain h = (0, omega arith, refl)
map_forms q m b inner.Provider h = (1, omega arith, refl)
map_forms q m b inner.Produced h = (2, omega arith, refl)
map_forms q m b i h = absurd (false≢true h)

inside_forms : (q : Option Qualifier) (b : Base) (i : Inner) → is_inside_form i ≡ true
    → Contains (optional_forms (key_with q (core.One b))) (key_with q (core.Optional b i))
inside_forms q b inner.Plain h = (0, omega arith, refl)
inside_forms q b inner.Provider h = (1, omega arith, refl)
inside_forms q b inner.Lazy h = (2, omega arith, refl)
inside_forms q b inner.ProviderLazy h = (3, omega arith, refl)
inside_forms q b i h = absurd (false≢true h)

-- a binding that contributes to or declares the key in a class of the chain
record Acts (doc : Doc) (c : ℕ) (is_kind : BindKind → Bool) (k : Key) : Type 0 where
  at : ℕ
  up : Contains (root_first doc c) at
  bind : Bind
  among : Contains (bindings doc) bind
  acts : acts_in doc at is_kind k bind ≡ true

chain_acts : (doc : Doc) (c : ℕ) (is_kind : BindKind → Bool) (k : Key)
    → list_any (λ o. list_any (acts_in doc o is_kind k) (bindings doc)) (chain doc c) ≡ true
    → Acts doc c is_kind k
chain_acts doc c is_kind k h =
    let a = any_found (λ o. list_any (acts_in doc o is_kind k) (bindings doc)) (chain doc c) h in
    let b = any_found (acts_in doc a.at is_kind k) (bindings doc) a.passes in
    record {
      at = a.at;
      up = in_reverse (chain doc c) a.at a.among;
      bind = b.at;
      among = b.among;
      acts = b.passes;
    }

acts_as : (doc : Doc) (o : ℕ) (p q : BindKind → Bool) (k : Key) (b : Bind)
    → (p b.kind ≡ true → q b.kind ≡ true) → acts_in doc o p k b ≡ true → acts_in doc o q k b ≡ true
acts_as doc o p q k b h acts =
    both_so _ _ (both_so _ _ (h (first_so _ _ (first_so _ _ acts))) (second_so _ _ (first_so _ _
    acts))) (second_so _ _ acts)

contributed : (doc : Doc) (c : ℕ) (k : Key) (o : Owned) → Contains (contributions doc c k) o
    → Acts doc c is_contribution (plain_key k)
unfolding contributions
contributed doc c k o h =
    let a = out_flat_map (contributions_in doc k) (root_first doc c) o h in
    let m = out_map (λ (b : Bind). owned a.0 (binding.Member b.item)) (filter (acts_in doc a.0
    is_contribution (plain_key k)) (bindings doc)) o a.2 in
    let f = out_filter (acts_in doc a.0 is_contribution (plain_key k)) (bindings doc) m.0 m.1 in
    record { at = a.0; up = a.1; bind = m.0; among = f.0; acts = f.1 }

-- a set or map that is found is opened by a binding
multi_opened : (doc : Doc) (c : ℕ) (k : Key) (b : Bool) (os : List Owned)
    → is_declared doc c k ≡ b → contributions doc c k ≡ os → (is_found : List Owned → Found)
    → ((w : Acts doc c is_group (plain_key k)) → Fits doc c k (is_found os))
    → Fits doc c k (multi b is_found os)
unfolding is_declared
multi_opened doc c k true os declares contributes is_found h =
    let w = chain_acts doc c is_declaration (plain_key k) declares in
    h (record {
      at = w.at;
      up = w.up;
      bind = w.bind;
      among = w.among;
      acts = acts_as doc w.at is_declaration is_group (plain_key k) w.bind (or_right _ _) w.acts;
    })
multi_opened doc c k false [] declares contributes is_found h = nothing_fits doc c k
multi_opened doc c k false (o ∷ os) declares contributes is_found h =
    let P : List Owned → Type 0 = λ os. Contains os o in
    let w = contributed doc c k o (subst P (sym contributes) (in_front o os)) in
    h (record {
      at = w.at;
      up = w.up;
      bind = w.bind;
      among = w.among;
      acts = acts_as doc w.at is_contribution is_group (plain_key k) w.bind (or_left _ _) w.acts;
    })

acts_kind : (doc : Doc) (o : ℕ) (p : BindKind → Bool) (k : Key) (b : Bind)
    → acts_in doc o p k b ≡ true → p b.kind ≡ true
acts_kind doc o p k b h = first_so _ _ (first_so _ _ h)

acts_key : (doc : Doc) (o : ℕ) (p : BindKind → Bool) (k : Key) (b : Bind)
    → acts_in doc o p k b ≡ true → b.key ≡ k
acts_key doc o p k b h = same_keys b.key k (second_so _ _ (first_so _ _ h))

set_is : (doc : Doc) (c : ℕ) (q : Option Qualifier) (b : Base) (i : Inner) → c < class_count doc
    → is_set_form i ≡ true → Acts doc c is_group (key_with q (core.Set b inner.Plain))
    → Contains (candidates doc) (node_of c (node.Multi (key_with q (core.Set b i))))
set_is doc c q b i lt form a =
    let k : Key = key_with q (core.Set b i) in
    let w = opened doc c k a.at a.bind a.up a.among a.acts in
    let acts = w.opens in
    let how = acts_kind doc w.at is_group (plain_key k) w.bind acts in
    let P : Key → Type 0 = λ bk. Contains (forms_of bk) k in
    let forms = subst P (sym (acts_key doc w.at is_group (plain_key k) w.bind acts)) (set_forms q b
    i form) in
    group_is doc c k w (node.Multi k) lt (λ s first. multi_group doc c s w.bind.kind w.bind.key k
    how forms first)

map_is : (doc : Doc) (c : ℕ) (q : Option Qualifier) (m : MapKind) (b : Base) (i : Inner)
    → c < class_count doc → is_map_form i ≡ true
    → Acts doc c is_group (key_with q (core.Map m b inner.Plain))
    → Contains (candidates doc) (node_of c (node.Multi (key_with q (core.Map m b i))))
map_is doc c q m b i lt form a =
    let k : Key = key_with q (core.Map m b i) in
    let w = opened doc c k a.at a.bind a.up a.among a.acts in
    let acts = w.opens in
    let how = acts_kind doc w.at is_group (plain_key k) w.bind acts in
    let P : Key → Type 0 = λ bk. Contains (forms_of bk) k in
    let forms = subst P (sym (acts_key doc w.at is_group (plain_key k) w.bind acts)) (map_forms q m
    b i form) in
    group_is doc c k w (node.Multi k) lt (λ s first. multi_group doc c s w.bind.kind w.bind.key k
    how forms first)

-- ---- optionals

optional_is : (doc : Doc) → (c : ℕ) (q : Option Qualifier) (b : Base) (i : Inner) → c < class_count doc
    → is_inside_form i ≡ true → Acts doc c is_optional (key_with q (core.One b))
    → Contains (candidates doc) (node_of c (node.Opt (key_with q (core.Optional b i))))
optional_is doc c q b i lt form a =
    let k : Key = key_with q (core.Optional b i) in
    let w = opened doc c k a.at a.bind a.up a.among a.acts in
    let how = acts_kind doc w.at is_optional (inside_key k) w.bind w.opens in
    let P : Key → Type 0 = λ bk. Contains (optional_forms bk) k in
    let forms = subst P (sym (acts_key doc w.at is_optional (inside_key k) w.bind w.opens))
    (inside_forms q b i form) in
    group_is doc c k w (node.Opt k) lt (λ s first. optional_group doc c s w.bind.kind w.bind.key k
    how forms first)

-- ---- classes with `@Inject`

injected_own : (i l : ℕ) (block : Option ℕ) (x : Item) (scope : Option Bytes)
    → injected_scope x ≡ Some scope
    → Contains (own_binding (record { index = i; line = l; block = block; item = x }))
    (binding.ClassItem i)
injected_own i l block (item.Class true scope n params interfaces) s e = in_front _ []
injected_own i l block x s e = absurd (none-some s e)

class_is : (doc : Doc) (c i : ℕ) (x : Item) (scope : Option Bytes) → c < class_count doc
    → item_at doc i ≡ Some x → injected_scope x ≡ Some scope
    → Contains (candidates doc) (node_of c (node.Bound (binding.ClassItem i)))
class_is doc c i x scope lt at e =
    let w = statement_at doc i x at in
    let s = w.0 in
    let P : ℕ → Type 0 = λ j. Contains (candidates doc) (node_of c (node.Bound (binding.ClassItem
    j))) in
    subst P w.2 (own_is doc c s (binding.ClassItem s.index) lt w.1
    (injected_own s.index s.line s.block s.item scope (ap injected_scope w.3 ∙ e)))

found_cond : (b : Bool) (y : ℕ) (ys : List ℕ) (x : ℕ) (o : Option ℕ)
    → (o ≡ Some x → Contains ys x) → cond b (Some y) o ≡ Some x → Contains (y ∷ ys) x
found_cond true y ys x o later e = (0, omega arith, same_Some y x e)
found_cond false y ys x o later e = in_rest x y ys (later e)

find_among : (p : ℕ → Bool) (xs : List ℕ) (x : ℕ) → find_first p xs ≡ Some x → Contains xs x
find_among p [] x e = absurd (none-some x e)
find_among p (y ∷ ys) x e = found_cond (p y) y ys x (find_first p ys) (λ later. find_among p ys x
    later) e

scoped_fits : (doc : Doc) (c i : ℕ) (k : Key) (x : Item) (scope : Bytes) (o : Option ℕ)
    → c < class_count doc → item_at doc i ≡ Some x → injected_scope x ≡ Some (Some scope)
    → find_first (carries doc scope) (chain doc c) ≡ o
    → Fits doc c k (injected_with doc c i (Some scope))
scoped_fits doc c i k x scope None lt at e found = rw found (λ n h. absurd (none-some n h))
scoped_fits doc c i k x scope (Some o) lt at e found =
    rw found (one_fits doc c k o (binding.ClassItem i) (class_is doc o i x (Some scope)
    (chain_small doc c o lt (find_among (carries doc scope) (chain doc c) o found)) at e))

with_fits : (doc : Doc) (c i : ℕ) (k : Key) (x : Item) (scope : Option Bytes)
    → c < class_count doc → item_at doc i ≡ Some x → injected_scope x ≡ Some scope
    → Fits doc c k (injected_with doc c i scope)
with_fits doc c i k x None lt at e = one_fits doc c k c (binding.ClassItem i) (class_is doc c i x
    None lt at e)
with_fits doc c i k x (Some scope) lt at e = scoped_fits doc c i k x scope (find_first (carries doc
    scope) (chain doc c)) lt at e refl

item_fits : (doc : Doc) (c i : ℕ) (k : Key) (x : Item) (scope : Option (Option Bytes))
    → c < class_count doc → item_at doc i ≡ Some x → injected_scope x ≡ scope
    → Fits doc c k (injected_item doc c (Some i))
item_fits doc c i k x None lt at e = rw (at, e) (nothing_fits doc c k)
item_fits doc c i k x (Some scope) lt at e = rw (at, e) (with_fits doc c i k x scope lt at e)

place_fits : (doc : Doc) (c i : ℕ) (k : Key) (x : Option Item) → c < class_count doc
    → item_at doc i ≡ x → Fits doc c k (injected_item doc c (Some i))
place_fits doc c i k None lt at = rw at (nothing_fits doc c k)
place_fits doc c i k (Some x) lt at = item_fits doc c i k x (injected_scope x) lt at refl

named_fits : (doc : Doc) (c : ℕ) (k : Key) (i : Option ℕ) → c < class_count doc
    → Fits doc c k (injected_item doc c i)
named_fits doc c k None lt = nothing_fits doc c k
named_fits doc c k (Some i) lt = place_fits doc c i k (item_at doc i) lt refl

base_fits : (doc : Doc) (c : ℕ) (k : Key) (b : Base) → c < class_count doc
    → Fits doc c k (injected_base doc c b)
base_fits doc c k (base.Named n) lt = named_fits doc c k (class_item_named doc n) lt
base_fits doc c k b lt = nothing_fits doc c k

injected_fits : (doc : Doc) (c : ℕ) (k : Key) (q : Option Qualifier) (b : Base)
    → c < class_count doc → Fits doc c k (injected doc c q b)
injected_fits doc c k None b lt = base_fits doc c k b lt
injected_fits doc c k (Some q) b lt = nothing_fits doc c k

-- ---- what a class finds

multi_fits : (doc : Doc) (c : ℕ) (k : Key) (f : Found)
    → node_found c k f ≡ Some (node_of c (node.Multi k))
    → Contains (candidates doc) (node_of c (node.Multi k)) → Fits doc c k f
multi_fits doc c k f e h n is = let P : Node → Type 0 = λ m. Contains (candidates doc) m in subst P
    (same_Some (node_of c (node.Multi k)) n (sym e ∙ is)) h

optional_fits : (doc : Doc) → (c : ℕ) (q : Option Qualifier) (b : Base) (i : Inner) (d : Bool) → c < class_count doc
    → is_inside_form i ≡ true → is_optional_declared doc c (key_with q (core.Optional b i)) ≡ d
    → Fits doc c (key_with q (core.Optional b i)) (cond d found.OptionalOf found.Nothing)
unfolding is_optional_declared
optional_fits doc c q b i true lt form e = λ n is. (let P : Node → Type 0 = λ m. Contains
    (candidates doc) m in
    subst P (same_Some (node_of c (node.Opt (key_with q (core.Optional b i)))) n is) (optional_is
    doc c q b i lt form (chain_acts doc c is_optional (key_with q (core.One b)) e)))
optional_fits doc c q b i false lt form e = nothing_fits doc c (key_with q (core.Optional b
    i))

core_fits : (doc : Doc) → (c : ℕ) (q : Option Qualifier) (co : Core)
    → c < class_count doc → is_asked co ≡ true
    → Fits doc c (key_with q co) (found_of_core doc c (key_with q co) co)
core_fits doc c q (core.One b) lt asks = injected_fits doc c (key_with q (core.One b)) q b lt
core_fits doc c q (core.Set b i) lt asks =
    let k : Key = key_with q (core.Set b i) in
    multi_opened doc c k (is_declared doc c k) (contributions doc c k) refl refl found.SetOf
    (λ w. multi_fits doc c k (found.SetOf (contributions doc c k)) refl (set_is doc c q b i lt
    asks w))
core_fits doc c q (core.Map m b i) lt asks =
    let k : Key = key_with q (core.Map m b i) in
    multi_opened doc c k (is_declared doc c k) (contributions doc c k) refl refl found.MapOf
    (λ w. multi_fits doc c k (found.MapOf (contributions doc c k)) refl (map_is doc c q m b i
    lt asks w))
core_fits doc c q (core.Optional b i) lt asks = optional_fits doc c q b i
    (is_optional_declared doc c (key_with q (core.Optional b i))) lt asks refl

find_fits : (doc : Doc) → (c : ℕ) (k : Key) → c < class_count doc
    → is_asked k.core ≡ true → Fits doc c k (find doc c k)
unfolding find find_without_explicit
find_fits doc c k lt asks =
    among_fits doc c k (explicit_in_chain doc c k) (found_of_core doc c k k.core)
    (λ o h. chain_owned doc c k o lt h)
    (core_fits doc c k.qualifier k.core lt asks)

-- ---- what a node needs

-- what a dependency leads to is a candidate
abbrev IsFit : Doc → Dependency → Type 0
IsFit doc d = (n : Node) → target d ≡ Some n → Contains (candidates doc) n

request_fits : (doc : Doc) → (c : ℕ) (param : Option Bytes) (u : TypeUse) (r : Request) (d : Dependency)
    → c < class_count doc → request_of u ≡ Some r → asked doc c param r ≡ d → IsFit doc d
request_fits doc c param u r d lt e same =
    let P : Dependency → Type 0 = IsFit doc in
    subst P same (find_fits doc c r.key lt (request_is_asked u r e))

params_fit : (doc : Doc) → (c i : ℕ) (d : Dependency)
    → c < class_count doc → Contains (of_params doc c i) d → IsFit doc d
params_fit doc c i d lt h =
    let x = out_list_of (λ x. filter_map (of_param doc c) (params_of x)) (item_at doc i) d h in
    let p = out_filter_map (of_param doc c) (params_of x.0) d x.2 in
    let r = out_option_map (asked doc c (Some p.0.name)) (request_of p.0.shape) d p.2 in
    request_fits doc c (Some p.0.name) p.0.shape r.0 d lt r.1 r.2

entry_fits : (doc : Doc) → (c i : ℕ) (d : Dependency)
    → c < class_count doc → Contains (of_entry doc c i) d → IsFit doc d
entry_fits doc c i d lt h =
    let r = out_option_map (asked doc c None) (option_and_then request_of (option_and_then
    result_of (item_at doc i))) d (out_option _ d h) in
    let u = out_and_then request_of (option_and_then result_of (item_at doc i)) r.0 r.1 in
    request_fits doc c None u.0 r.0 d lt u.2 r.2

exposed_fits : (doc : Doc) → (c dep entry : ℕ) (d : Dependency)
    → Contains (of_binding doc c (binding.Exposed dep entry)) d → IsFit doc d
exposed_fits doc c dep entry d h =
    let w = out_list_of (λ o. of_entry doc o entry) (slice_get (deps_of doc c) dep) d h in
    entry_fits doc w.0 entry d (dep_small doc c w.0 (in_got (deps_of doc c) dep w.0 w.1)) w.2

contribution_is : (doc : Doc) (c : ℕ) (k : Key) (o : Owned) → c < class_count doc
    → Contains (contributions doc c k) o → IsOwned doc o
unfolding contributions
contribution_is doc c k o lt h =
    let a = out_flat_map (contributions_in doc k) (root_first doc c) o h in
    let m = out_map (λ (b : Bind). owned a.0 (binding.Member b.item)) (filter (acts_in doc a.0
    is_contribution (plain_key k)) (bindings doc)) o a.2 in
    let f = out_filter (acts_in doc a.0 is_contribution (plain_key k)) (bindings doc) m.0 m.1 in
    let P : Owned → Type 0 = IsOwned doc in
    subst P m.2 (member_is doc a.0 m.0 (above_small doc c a.0 lt a.1) (stands_as doc m.0 f.0)
    (contribution_made m.0.kind (acts_kind doc a.0 is_contribution (plain_key k) m.0 f.1)))

contributions_fit : (doc : Doc) (c : ℕ) (k : Key) (d : Dependency) → c < class_count doc
    → Contains (of_contributions doc c k) d → IsFit doc d
contributions_fit doc c k d lt h =
    let o = out_map (contribution_of c k) (contributions doc c k) d h in
    let P : Dependency → Type 0 = IsFit doc in
    subst P o.2 (one_fits doc c k o.0.owner o.0.binding (contribution_is doc c k o.0 lt o.1))

inside_asked : (co : Core) → is_optional_type co ≡ true → is_asked (inside_core co) ≡ true
inside_asked (core.Optional b i) h = refl
inside_asked co h = absurd (false≢true h)

inside_fits : (doc : Doc) → (c : ℕ) (k : Key) (d : Dependency)
    → c < class_count doc → is_optional_type k.core ≡ true → Contains (of_inside doc c k) d
    → IsFit doc d
inside_fits doc c k d lt so h =
    let one : Dependency = asked doc c None (record {
      mode = mode_of_inner (inner_of k.core);
      key =
          inside_key k;
    }) in
    let f = out_filter (λ (d : Dependency). not (is_nothing d.found)) (one ∷ []) d h in
    let P : Dependency → Type 0 = IsFit doc in
    subst P {x = one} (the_one d one f.0) (find_fits doc c (inside_key k) lt (inside_asked
    k.core so))

-- the key of an optional has the type of one
abbrev is_sound : NodeKind → Bool
is_sound (node.Opt k) = is_optional_type k.core
is_sound other = true

needs_fit : (doc : Doc) → (c : ℕ) (k : NodeKind) (d : Dependency)
    → c < class_count doc → is_sound k ≡ true → Contains (deps doc (node_of c k)) d → IsFit doc d
unfolding deps
needs_fit doc c (node.Bound (binding.Member i)) d lt so h = params_fit doc c i d lt h
needs_fit doc c (node.Bound (binding.ClassItem i)) d lt so h = params_fit doc c i d lt h
needs_fit doc c (node.Bound (binding.Arg a)) d lt so h = absurd (none_in d h)
needs_fit doc c (node.Bound binding.Default) d lt so h = absurd (none_in d h)
needs_fit doc c (node.Bound (binding.Exposed dep entry)) d lt so h = exposed_fits doc c
    dep entry d h
needs_fit doc c (node.Multi k) d lt so h = contributions_fit doc c k d lt h
needs_fit doc c (node.Opt k) d lt so h = inside_fits doc c k d lt so h
needs_fit doc c (node.EntryOf i) d lt so h = entry_fits doc c i d lt h

-- ---- what candidates are

each_so : {A : Type 0} (p : A → Bool) (xs : List A) (x : A) → list_all p xs ≡ true → Contains xs x
    → p x ≡ true
each_so p [] x all c = absurd (none_in x c)
each_so p (y ∷ ys) x all c =
    elim (first_or_rest x y ys c) [
      | inl e ↦ ap p (sym e) ∙ first_so _ _ all
      | inr r ↦ each_so p ys x (second_so _ _ all) r
    ]

optionals_only : (q : Option Qualifier) (co : Core) (k : Key)
    → Contains (optional_forms (key_with q co)) k → is_optional_type k.core ≡ true
optionals_only q (core.One b) k h = each_so (λ (k : Key). is_optional_type k.core) (optional_forms
    (key_with q (core.One b))) k refl h
optionals_only q co k h = absurd (none_in k h)

groups_sound : (doc : Doc) (c : ℕ) (s : Statement) (how : BindKind) (bk : Key) (k : NodeKind)
    → Contains (groups_of doc c s how bk) k → is_sound k ≡ true
groups_sound doc c s kind.Explicit bk k h = absurd (none_in k h)
groups_sound doc c s kind.OptionalOf bk k h =
    let m = out_map node.Opt (filter (stands_first doc c s) (optional_forms bk)) k h in
    let f = out_filter (stands_first doc c s) (optional_forms bk) m.0 m.1 in
    ap is_sound (sym m.2) ∙ optionals_only bk.qualifier bk.core m.0 f.0
groups_sound doc c s how bk k h = ap is_sound (sym (out_map node.Multi (filter (stands_first doc c
    s) (forms_of bk)) k h).2)

bounds_sound : (bs : List BindRef) (k : NodeKind) → Contains (map node.Bound bs) k
    → is_sound k ≡ true
bounds_sound bs k h = ap is_sound (sym (out_map node.Bound bs k h).2)

stated_sound : (doc : Doc) (c : ℕ) (s : Statement) (k : NodeKind) → Contains (kinds_at doc c s) k
    → is_sound k ≡ true
stated_sound doc c s k h =
    elim (Contains-append_cases (map node.Bound (own_binding s ++ (own_argument doc c s ++
    own_exposed doc c s))) (own_entry doc c s ++ own_groups doc c s) k h) [
      | inl b ↦ bounds_sound (own_binding s ++ (own_argument doc c s ++ own_exposed doc c s)) k b
      | inr r ↦ elim (Contains-append_cases (own_entry doc c s) (own_groups doc c s) k r) [
        | inl e ↦ ap is_sound (sym (the_one k (node.EntryOf s.index) (out_if (list_any (λ i. i ==
            s.index) (entries_of doc c)) (node.EntryOf s.index ∷ []) k e).1))
        | inr g ↦ (let b = out_flat_map (λ b. groups_of doc c s b.kind b.key) (filter
            (λ b. b.item == s.index) (bindings doc)) k g in
            groups_sound doc c s b.0.kind b.0.key k b.2)
      ]
    ]

kinds_sound : (doc : Doc) (c : ℕ) (k : NodeKind) → Contains (kinds_of doc c) k → is_sound k ≡ true
kinds_sound doc c k h =
    elim (Contains-append_cases (default_kind doc c) (flat_map (kinds_at doc c) (statements doc)) k
    h) [
      | inl d ↦ ap is_sound (sym (the_one k (node.Bound binding.Default) (out_if (is_none
          (header_of doc c) && nat_lt 0 (length (bound_of doc c))) (node.Bound binding.Default ∷
          []) k d).1))
      | inr r ↦ (let s = out_flat_map (kinds_at doc c) (statements doc) k r in stated_sound doc c
          s.0 k s.2)
    ]

candidate_sound : (doc : Doc) (n : Node) → Contains (candidates doc) n
    → (n.class < class_count doc) × (is_sound n.kind ≡ true)
unfolding candidates
candidate_sound doc n h =
    let c = out_flat_map (λ c. map (node_of c) (kinds_of doc c)) (range_with_len 0 (class_count
    doc)) n h in
    let k = out_map (node_of c.0) (kinds_of doc c.0) n c.2 in
    let lt : c.0 < class_count doc = out_range (class_count doc) c.0 c.1 in
    let same : c.0 ≡ n.class = ap (λ (m : Node). m.class) k.2 in
    (omega arith, ap (λ (m : Node). is_sound m.kind) (sym k.2) ∙ kinds_sound doc c.0 k.0 k.1)

pub targets_are : (doc : Doc) → (m n : Node)
    → Contains (candidates doc) m → Contains (targets doc m) n → Contains (candidates doc) n
targets_are doc m n c h =
    let d = out_filter_map target (deps doc m) n h in
    let so = candidate_sound doc m c in
    needs_fit doc m.class m.kind d.0 so.0 so.1 d.1 n d.2

pub targets_are_candidates : TargetsAreCandidates
targets_are_candidates doc = (
  λ n c. entries_are doc n c,
  λ m n c h. targets_are doc m
      n c h,
)

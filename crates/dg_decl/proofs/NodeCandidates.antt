-- Entry points are candidates, and what a candidate needs is one.
use Rattle.std.proofs.Common.{◌≡◌, inl, inr, ℕ, zero, suc, ◌+◌, ◌<◌, Bool, true, false, cond, ◌&&◌, ◌==◌, nat_lt, is_none, List, [], ◌∷◌, ◌++◌, length, map, filter, flat_map, slice_get, Contains, Option, Some, None, option_and_then, option_to_list, refl, sym, ap, subst, ◌∙◌, arith}
use Rattle.std.specs.List.{list_any, range_with_len}
use Rattle.std.proofs.lemmas.Bool.{false≢true, lt-ltb, eq-eqb}
use Rattle.std.proofs.lemmas.Option.{none-some, same_Some, slice_get_within}
use Rattle.std.proofs.lemmas.List.Elements.{Contains-append_left, Contains-append_right, Contains-append_cases}
use Rattle.dg_hilt.specs.Table.{hilt_classes}
use Rattle.dg_types.specs.declared.key.Key.{Key}
use Rattle.dg_types.specs.Equality.{same_key}
use Rattle.dg_decl.specs.declared.document.Doc.{Doc}
use Rattle.dg_decl.specs.declared.item.Item.{Item}
use Rattle.dg_decl.specs.declared.item.Item.TheVariants as item
use Rattle.dg_decl.specs.declared.component.Bound.{Bound}
use Rattle.dg_decl.specs.declared.binding.Bind.{Bind}
use Rattle.dg_decl.specs.declared.binding.BindKind.{BindKind}
use Rattle.dg_decl.specs.declared.binding.BindKind.TheVariants as kind
use Rattle.dg_decl.specs.declared.binding.BindRef.{BindRef}
use Rattle.dg_decl.specs.declared.binding.BindRef.TheVariants as binding
use Rattle.dg_decl.specs.declared.binding.Owned.{Owned}
use Rattle.dg_decl.specs.declared.graph.Node.{Node}
use Rattle.dg_decl.specs.declared.graph.NodeKind.{NodeKind}
use Rattle.dg_decl.specs.declared.graph.NodeKind.TheVariants as node
use Rattle.dg_decl.specs.Document.{Statement, statements, statements_from, open_behind}
use Rattle.dg_decl.specs.Names.{item_at}
use Rattle.dg_decl.specs.Components.{hilt_count, hilt_row, class_count, class_named, parent_of, walk, ancestors, chain, root_first, is_entry_of, entries_of, own_members, dependency_in, deps_of, exposed_of, header_of, default_bound, bound_of}
use Rattle.dg_decl.specs.Lookup.{Role, role_of, binding_in, binding_of, key_of_role, bindings, is_explicit, is_contribution, acts_in, owned, has_key, explicit_default, explicit_exposed, is_header_of, explicit_argument, explicit_member, explicit_at, explicit, explicit_in_chain}
use Rattle.dg_decl.specs.Graph.{node_of, entry_nodes, own_binding, own_argument, own_exposed, own_entry, own_groups, kinds_at, default_kind, kinds_of, candidates}
use Rattle.dg_decl.proofs.NodeWalks.{any_from, in_rest}
use Rattle.dg_decl.proofs.NodeEquality.{first_so}
use Rattle.dg_decl.proofs.ComponentLemmas.{class_below, parent_below}
use Rattle.dg_decl.proofs.MemberLemmas.{none_in, in_front, first_or_rest, in_map, out_map, out_filter, out_filter_map, in_flat_map, out_flat_map, out_option, out_option_map, out_and_then, out_if, in_if, out_reverse, in_range, out_range}

-- ---- statements

stand_from : (doc : Doc) (index : ℕ) (block : Option ℕ) (items : List Item) (i : ℕ) (x : Item)
    → slice_get items i ≡ Some x
    → (s : Statement) × Contains (statements_from doc index block items) s × (s.index ≡ index + i)
    × (s.item ≡ x)
stand_from doc index block [] i x e = absurd (none-some x e)
stand_from doc index block (y ∷ ys) zero x e = (_, in_front _ _, omega arith, same_Some y x e)
stand_from doc index block (y ∷ ys) (suc i) x e =
    let o = stand_from doc (suc index) (open_behind block index y) ys i x e in
    (o.0, in_rest o.0 _ _ o.1, omega (arith, o.2), o.3)

-- the statement of an item
pub statement_at : (doc : Doc) (i : ℕ) (x : Item) → item_at doc i ≡ Some x
    → (s : Statement) × Contains (statements doc) s × (s.index ≡ i) × (s.item ≡ x)
unfolding statements
statement_at doc i x e =
    let o = stand_from doc 0 None doc.items i x e in
    (o.0, o.1, omega (arith, o.2), o.3)

-- the statement of a binding
pub record BindsAs (doc : Doc) (b : Bind) : Type 0 where
  pub statement : Statement
  pub stands : Contains (statements doc) statement
  pub index : statement.index ≡ b.item
  pub role : Role
  pub plays : role_of statement.item ≡ Some role
  pub same_kind : role.kind ≡ b.kind

pub binds_as : (doc : Doc) (s : Statement) (b : Bind) → Contains (statements doc) s
    → binding_of s ≡ Some b → BindsAs doc b
binds_as doc s b c e =
    let block = out_and_then (binding_in s) s.block b e in
    let role = out_and_then _ (role_of s.item) b block.2 in
    let key = out_option_map _ (key_of_role role.0) b role.2 in
    record {
      statement = s;
      stands = c;
      index = ap (λ (b : Bind). b.item) key.2;
      role = role.0;
      plays = role.1;
      same_kind = ap (λ (b : Bind). b.kind) key.2;
    }

pub binding_item : (doc : Doc) (s : Statement) (b : Bind) → Contains (statements doc) s
    → binding_of s ≡ Some b → s.index ≡ b.item
binding_item doc s b c e =
    let block = out_and_then (binding_in s) s.block b e in
    let role = out_and_then _ (role_of s.item) b block.2 in
    let key = out_option_map _ (key_of_role role.0) b role.2 in
    ap (λ (b : Bind). b.item) key.2

pub stands_as : (doc : Doc) (b : Bind) → Contains (bindings doc) b → BindsAs doc b
unfolding bindings
stands_as doc b c =
    let o = out_filter_map binding_of (statements doc) b c in
    binds_as doc o.0 b o.1 o.2

-- ---- classes

walk_small : (doc : Doc) (k : ℕ) (o : Option ℕ) (x : ℕ)
    → ((p : ℕ) → o ≡ Some p → p < class_count doc) → Contains (walk (parent_of doc) k o) x
    → x < class_count doc
walk_small doc zero o x small c = absurd (none_in x c)
walk_small doc (suc k) None x small c = absurd (none_in x c)
walk_small doc (suc k) (Some p) x small c =
    elim (first_or_rest x p (walk (parent_of doc) k (parent_of doc p)) c) [
      | inl e ↦ (let lt : p < class_count doc = small p refl in let same : p ≡ x = e in omega arith)
      | inr r ↦ walk_small doc k (parent_of doc p) x (λ q e. parent_below doc p q e) r
    ]

pub chain_small : (doc : Doc) (c x : ℕ) → c < class_count doc → Contains (chain doc c) x
    → x < class_count doc
unfolding chain ancestors
chain_small doc c x lt h =
    elim (first_or_rest x c (walk (parent_of doc) (class_count doc) (parent_of doc c)) h) [
      | inl e ↦ (let same : c ≡ x = e in omega arith)
      | inr r ↦ walk_small doc (class_count doc) (parent_of doc c) x (λ q e. parent_below doc c q
          e) r
    ]

pub above_small : (doc : Doc) (c x : ℕ) → c < class_count doc → Contains (root_first doc c) x
    → x < class_count doc
above_small doc c x lt h = chain_small doc c x lt (out_reverse (chain doc c) x h)

pub dep_small : (doc : Doc) (c d : ℕ) → Contains (deps_of doc c) d → d < class_count doc
unfolding deps_of
dep_small doc c d h =
    let o = out_filter_map (λ (s : Statement). option_and_then (class_named doc) (dependency_in
    s.item)) (own_members doc c) d h in
    let n = out_and_then (class_named doc) (dependency_in o.0.item) d o.2 in
    class_below doc n.0 d n.2

-- ---- candidates

pub kind_is : (doc : Doc) (class : ℕ) (k : NodeKind) → class < class_count doc
    → Contains (kinds_of doc class) k → Contains (candidates doc) (node_of class k)
unfolding candidates
kind_is doc class k lt c =
    in_flat_map (λ a. map (node_of a) (kinds_of doc a)) (range_with_len 0 (class_count doc)) class
    (node_of class k)
    (in_range (class_count doc) class lt) (in_map (node_of class) (kinds_of doc class) k c)

pub stands_is : (doc : Doc) (class : ℕ) (s : Statement) (k : NodeKind) → class < class_count doc
    → Contains (statements doc) s → Contains (kinds_at doc class s) k
    → Contains (candidates doc) (node_of class k)
stands_is doc class s k lt c h =
    kind_is doc class k lt (Contains-append_right (default_kind doc class) (flat_map (kinds_at doc
    class) (statements doc)) k
    (in_flat_map (kinds_at doc class) (statements doc) s k c h))

bound_is : (doc : Doc) (class : ℕ) (s : Statement) (b : BindRef) → class < class_count doc
    → Contains (statements doc) s
    → Contains (own_binding s ++ (own_argument doc class s ++ own_exposed doc class s)) b
    → Contains (candidates doc) (node_of class (node.Bound b))
bound_is doc class s b lt c h =
    stands_is doc class s (node.Bound b) lt c
    (Contains-append_left (map node.Bound (own_binding s ++ (own_argument doc class s ++
    own_exposed doc class s)))
    (own_entry doc class s ++ own_groups doc class s) (node.Bound b)
    (in_map node.Bound (own_binding s ++ (own_argument doc class s ++ own_exposed doc class s)) b
    h))

pub own_is : (doc : Doc) (class : ℕ) (s : Statement) (b : BindRef) → class < class_count doc
    → Contains (statements doc) s → Contains (own_binding s) b
    → Contains (candidates doc) (node_of class (node.Bound b))
own_is doc class s b lt c h =
    bound_is doc class s b lt c (Contains-append_left (own_binding s) (own_argument doc class s ++
    own_exposed doc class s) b h)

argument_is : (doc : Doc) (class : ℕ) (s : Statement) (b : BindRef) → class < class_count doc
    → Contains (statements doc) s → Contains (own_argument doc class s) b
    → Contains (candidates doc) (node_of class (node.Bound b))
argument_is doc class s b lt c h =
    bound_is doc class s b lt c (Contains-append_right (own_binding s) (own_argument doc class s ++
    own_exposed doc class s) b
    (Contains-append_left (own_argument doc class s) (own_exposed doc class s) b h))

exposed_is : (doc : Doc) (class : ℕ) (s : Statement) (b : BindRef) → class < class_count doc
    → Contains (statements doc) s → Contains (own_exposed doc class s) b
    → Contains (candidates doc) (node_of class (node.Bound b))
exposed_is doc class s b lt c h =
    bound_is doc class s b lt c (Contains-append_right (own_binding s) (own_argument doc class s ++
    own_exposed doc class s) b
    (Contains-append_right (own_argument doc class s) (own_exposed doc class s) b h))

pub entry_is : (doc : Doc) (class i : ℕ) → class < class_count doc
    → Contains (entries_of doc class) i → Contains (candidates doc) (node_of class (node.EntryOf i))
unfolding entries_of
entry_is doc class i lt c =
    let o = out_map (λ (s : Statement). s.index) (filter (is_entry_of doc class) (statements doc))
    i c in
    let s = o.0 in
    let stands = (out_filter (is_entry_of doc class) (statements doc) s o.1).0 in
    let P : ℕ → Type 0 = λ k. Contains (candidates doc) (node_of class (node.EntryOf k)) in
    let here = any_from (λ k. k == s.index) (entries_of doc class) i c (eq-eqb i s.index (sym o.2))
    in
    subst P o.2 (stands_is doc class s (node.EntryOf s.index) lt stands
    (Contains-append_right (map node.Bound (own_binding s ++ (own_argument doc class s ++
    own_exposed doc class s)))
    (own_entry doc class s ++ own_groups doc class s) (node.EntryOf s.index)
    (Contains-append_left (own_entry doc class s) (own_groups doc class s) (node.EntryOf s.index)
    (in_if (list_any (λ k. k == s.index) (entries_of doc class)) (node.EntryOf s.index ∷ [])
    (node.EntryOf s.index) here (in_front _ [])))))

pub entries_are : (doc : Doc) (n : Node) → Contains (entry_nodes doc) n
    → Contains (candidates doc) n
entries_are doc n c =
    let class = out_flat_map (λ a. map (λ i. node_of a (node.EntryOf i)) (entries_of doc a))
    (range_with_len 0 (class_count doc)) n c in
    let entry = out_map (λ i. node_of class.0 (node.EntryOf i)) (entries_of doc class.0) n class.2
    in
    let P : Node → Type 0 = λ m. Contains (candidates doc) m in
    subst P entry.2 (entry_is doc class.0 entry.0 (out_range (class_count doc) class.0 class.1)
    entry.1)

-- ---- explicit bindings

abbrev pub is_made : BindKind → Bool
is_made kind.Explicit = true
is_made kind.OptionalOf = false
is_made kind.Declares = false
is_made other = true

made_at : (i l : ℕ) (block : Option ℕ) (x : Item) (r : Role) → role_of x ≡ Some r
    → is_made r.kind ≡ true
    → Contains (own_binding (record { index = i; line = l; block = block; item = x }))
    (binding.Member i)
made_at i l block (item.Provides mark scope n params result body) r e h = in_front _ []
made_at i l block (item.Binds mark scope n param result) r e h = in_front _ []
made_at i l block (item.Produces mark n params result body) r e h = in_front _ []
made_at i l block (item.OptionalOf n result) r e h = absurd (false≢true (ap (λ (q : Role). is_made
    q.kind) (same_Some _ r e) ∙ h))
made_at i l block (item.Multibinds n result) r e h = absurd (false≢true (ap (λ (q : Role). is_made
    q.kind) (same_Some _ r e) ∙ h))
made_at i l block x r e h = absurd (none-some r e)

explicit_made : (k : BindKind) → is_explicit k ≡ true → is_made k ≡ true
explicit_made kind.Explicit h = refl
explicit_made k h = absurd (false≢true h)

pub contribution_made : (k : BindKind) → is_contribution k ≡ true → is_made k ≡ true
contribution_made kind.Explicit h = refl
contribution_made kind.OptionalOf h = absurd (false≢true h)
contribution_made kind.Declares h = absurd (false≢true h)
contribution_made k h = refl

pub member_is : (doc : Doc) (class : ℕ) (b : Bind) → class < class_count doc → BindsAs doc b
    → is_made b.kind ≡ true
    → Contains (candidates doc) (node_of class (node.Bound (binding.Member b.item)))
member_is doc class b lt w h =
    let s = w.statement in
    let P : ℕ → Type 0 = λ i. Contains (candidates doc) (node_of class (node.Bound (binding.Member
    i))) in
    subst P w.index (own_is doc class s (binding.Member s.index) lt w.stands
    (made_at s.index s.line s.block s.item w.role w.plays (ap is_made w.same_kind ∙ h)))

-- a binding that a class owns is a candidate
abbrev pub IsOwned : Doc → Owned → Type 0
IsOwned doc o = Contains (candidates doc) (node_of o.owner (node.Bound o.binding))

no_header : (doc : Doc) (c : ℕ) → c < hilt_count → header_of doc c ≡ None
unfolding header_of
no_header doc c lt = (let b : nat_lt c hilt_count ≡ true = lt-ltb c hilt_count lt in rw b refl)

has_default : (doc : Doc) (c : ℕ) (b : Bound)
    → option_and_then default_bound (hilt_row c) ≡ Some b
    → nat_lt 0 (length (bound_of doc c)) ≡ true
unfolding bound_of
has_default doc c b e = rw e (lt-ltb 0 _ (omega arith))

default_is : (doc : Doc) (c : ℕ) (b : Bound) → c < class_count doc
    → option_and_then default_bound (hilt_row c) ≡ Some b
    → Contains (candidates doc) (node_of c (node.Bound binding.Default))
default_is doc c b lt e =
    let row = out_and_then default_bound (hilt_row c) b e in
    let small : c < hilt_count = slice_get_within hilt_classes c row.0 row.1 in
    let none : is_none (header_of doc c) ≡ true = ap is_none (no_header doc c small) in
    kind_is doc c (node.Bound binding.Default) lt
    (Contains-append_left (default_kind doc c) _ (node.Bound binding.Default)
    (in_if (is_none (header_of doc c) && nat_lt 0 (length (bound_of doc c))) _ (node.Bound
    binding.Default)
    (rw (none, has_default doc c b e) refl) (in_front _ [])))

default_owned : (doc : Doc) (c : ℕ) (k : Key) (o : Owned) → c < class_count doc
    → Contains (explicit_default doc c k) o → IsOwned doc o
default_owned doc c k o lt h =
    let m = out_map (λ (b : Bound). owned c binding.Default) (filter (λ (b : Bound). has_key k
    b.shape) (option_to_list (option_and_then default_bound (hilt_row c)))) o h in
    let f = out_filter (λ (b : Bound). has_key k b.shape) (option_to_list (option_and_then
    default_bound (hilt_row c))) m.0 m.1 in
    let P : Owned → Type 0 = IsOwned doc in
    subst P m.2 (default_is doc c m.0 lt (out_option _ m.0 f.0))

exposed_owned : (doc : Doc) (c : ℕ) (k : Key) (s : Statement) (o : Owned) → c < class_count doc
    → Contains (statements doc) s
    → Contains (cond (is_header_of doc c s) (explicit_exposed doc c k) []) o → IsOwned doc o
exposed_owned doc c k s o lt stands h =
    let w = out_if (is_header_of doc c s) (explicit_exposed doc c k) o h in
    let m = out_map _ (filter (λ e. same_key e.key k) (exposed_of doc c)) o w.1 in
    let f = out_filter (λ e. same_key e.key k) (exposed_of doc c) m.0 m.1 in
    let P : Owned → Type 0 = IsOwned doc in
    subst P m.2 (exposed_is doc c s (binding.Exposed m.0.dep m.0.entry) lt stands
    (in_if (is_header_of doc c s) _ (binding.Exposed m.0.dep m.0.entry) w.0
    (in_map (λ e. binding.Exposed e.dep e.entry) (exposed_of doc c) m.0 f.0)))

argument_owned : (doc : Doc) (c : ℕ) (k : Key) (s : Statement) (o : Owned) → c < class_count doc
    → Contains (statements doc) s → Contains (explicit_argument doc c k s) o → IsOwned doc o
argument_owned doc c k s o lt stands h =
    let w = out_if _ _ o h in
    let m = out_map (λ place. owned c (binding.Arg place)) _ o w.1 in
    let P : Owned → Type 0 = IsOwned doc in
    subst P m.2 (argument_is doc c s (binding.Arg m.0) lt stands (in_map binding.Arg _ m.0 m.1))

member_owned : (doc : Doc) (c : ℕ) (k : Key) (s : Statement) (o : Owned) → c < class_count doc
    → Contains (statements doc) s → Contains (explicit_member doc c k s) o → IsOwned doc o
member_owned doc c k s o lt stands h =
    let m = out_map (λ (b : Bind). owned c (binding.Member b.item)) _ o h in
    let f = out_filter (acts_in doc c is_explicit k) (option_to_list (binding_of s)) m.0 m.1 in
    let P : Owned → Type 0 = IsOwned doc in
    let acts = first_so _ _ (first_so _ _ f.1) in
    subst P m.2 (member_is doc c m.0 lt (binds_as doc s m.0 stands (out_option (binding_of s) m.0
    f.0)) (explicit_made m.0.kind acts))

stated_owned : (doc : Doc) (c : ℕ) (k : Key) (s : Statement) (o : Owned) → c < class_count doc
    → Contains (statements doc) s → Contains (explicit_at doc c k s) o → IsOwned doc o
stated_owned doc c k s o lt stands h =
    elim (Contains-append_cases _ (explicit_member doc c k s) o h) [
      | inl front ↦ elim (Contains-append_cases _ (explicit_argument doc c k s) o front) [
        | inl e ↦ exposed_owned doc c k s o lt stands e
        | inr a ↦ argument_owned doc c k s o lt stands a
      ]
      | inr m ↦ member_owned doc c k s o lt stands m
    ]

explicit_owned : (doc : Doc) (c : ℕ) (k : Key) (o : Owned) → c < class_count doc
    → Contains (explicit doc c k) o → IsOwned doc o
unfolding explicit
explicit_owned doc c k o lt h =
    elim (Contains-append_cases (explicit_default doc c k) _ o h) [
      | inl d ↦ default_owned doc c k o lt d
      | inr r ↦ (let s = out_flat_map (explicit_at doc c k) (statements doc) o r in
          stated_owned doc c k s.0 o lt s.1 s.2)
    ]

pub chain_owned : (doc : Doc) (c : ℕ) (k : Key) (o : Owned) → c < class_count doc
    → Contains (explicit_in_chain doc c k) o → IsOwned doc o
unfolding explicit_in_chain
chain_owned doc c k o lt h =
    let a = out_flat_map (λ a. explicit doc a k) (root_first doc c) o h in
    explicit_owned doc a.0 k o (above_small doc c a.0 lt a.1) a.2

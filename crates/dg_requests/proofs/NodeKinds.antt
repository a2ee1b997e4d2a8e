-- What stands behind the nodes of a document.
use Rattle.std.proofs.Common.{◌≡◌, inl, inr, ℕ, zero, suc, ◌+◌, ◌==◌, Bool, true, false, cond, List, [], ◌∷◌, ◌++◌, map, filter, slice_get, Contains, Option, Some, None, option_map, refl, ap, subst, ◌∙◌, arith}
use Rattle.std.specs.List.{range_with_len}
use Rattle.std.proofs.lemmas.Bool.{false≢true, eq-eqb}
use Rattle.std.proofs.lemmas.Option.{none-some, same_Some, slice_get-get_or}
use Rattle.std.proofs.lemmas.List.Elements.{Contains-append_cases}
use Rattle.dg_decl.specs.declared.document.Doc.{Doc}
use Rattle.dg_types.specs.declared.key.Key.{Key}
use Rattle.dg_decl.specs.declared.binding.Bind.{Bind}
use Rattle.dg_decl.specs.declared.binding.BindKind.{BindKind}
use Rattle.dg_decl.specs.declared.binding.BindKind.TheVariants as kind
use Rattle.dg_decl.specs.declared.binding.BindRef.{BindRef}
use Rattle.dg_decl.specs.declared.binding.BindRef.TheVariants as binding
use Rattle.dg_decl.specs.declared.component.Exposed.{Exposed}
use Rattle.dg_decl.specs.declared.graph.Node.{Node}
use Rattle.dg_decl.specs.declared.graph.NodeKind.{NodeKind}
use Rattle.dg_decl.specs.declared.graph.NodeKind.TheVariants as node
use Rattle.dg_decl.specs.declared.item.Item.{Item}
use Rattle.dg_decl.specs.declared.item.Item.TheVariants as item
use Rattle.dg_decl.specs.Document.{Statement, statements, statements_from, open_behind}
use Rattle.dg_decl.specs.Names.{is_class, item_at}
use Rattle.dg_decl.specs.Components.{class_count, exposed_of}
use Rattle.dg_decl.specs.Lookup.{bindings, is_header_of}
use Rattle.dg_decl.specs.Graph.{node_of, nodes, own_binding, own_argument, own_exposed, own_entry, own_groups, groups_of, kinds_at, default_kind, kinds_of, candidates}
use Rattle.dg_decl.proofs.GraphLemmas.{node_is_candidate}
use Rattle.dg_decl.proofs.MemberLemmas.{none_in, the_one, out_map, in_filter, out_flat_map, out_if}
use Rattle.dg_slots.specs.Numbered.{class_lines, number_of_class_item}
use Rattle.dg_eval.proofs.InputLists.{has_place}

-- ---- the item of a statement

stood : (doc : Doc) (k : ℕ) (b : Option ℕ) (xs : List Item) (j : ℕ) (s : Statement)
    → slice_get (statements_from doc k b xs) j ≡ Some s
    → (s.index ≡ k + j) × (slice_get xs j ≡ Some s.item)
stood doc k b [] j s e = absurd (none-some s e)
stood doc k b (x ∷ xs) zero s e =
    let same : k ≡ s.index = ap (λ (t : Statement). t.index) (same_Some _ s e) in
    (omega arith, ap (λ (t : Statement). Some t.item) (same_Some _ s e))
stood doc k b (x ∷ xs) (suc j) s e =
    let w = stood doc (suc k) (open_behind b k x) xs j s e in
    let next : s.index ≡ suc k + j = w.0 in
    (omega arith, w.1)

pub item_of_statement : (doc : Doc) (s : Statement) → Contains (statements doc) s
    → item_at doc s.index ≡ Some s.item
unfolding statements
item_of_statement doc s c =
    let got : slice_get (statements doc) c.0 ≡ Some s =
    slice_get-get_or (statements doc) c.0 s c.1 ∙ ap Some c.2 in
    let w = stood doc 0 None doc.items c.0 s got in
    let place : s.index ≡ 0 + c.0 = w.0 in
    let same : s.index ≡ c.0 = omega arith in
    ap (slice_get doc.items) same ∙ w.1

class_has_number : (doc : Doc) (s : Statement) → Contains (statements doc) s
    → is_class s.item ≡ true → (class : ℕ) × (number_of_class_item doc s.index ≡ Some class)
class_has_number doc s c h =
    let among = in_filter (λ (t : Statement). is_class t.item) (statements doc) s c h in
    let place = has_place (λ (t : Statement). t.index == s.index) (class_lines doc) s among
    (eq-eqb s.index s.index refl) in
    (6 + place.0, ap (option_map (λ (k : ℕ). 6 + k)) place.1)

-- ---- what binds

abbrev pub IsMember : Item → Type 0
IsMember (item.Provides mark scope n params result body) = Unit {0}
IsMember (item.Binds mark scope n param result) = Unit {0}
IsMember (item.Produces mark n params result body) = Unit {0}
IsMember other = ⊥

abbrev pub IsInjected : Item → Type 0
IsInjected (item.Class true scope n params interfaces) = Unit {0}
IsInjected other = ⊥

-- behind a member of a module stands a `provides`, `binds` or `produces` line, and behind a class
-- one with `@Inject` and a number; an exposed entry is one that the class sees
abbrev pub BindingFits : Doc → ℕ → BindRef → Type 0
BindingFits doc class (binding.Member m) = (x : Item) × (item_at doc m ≡ Some x) × IsMember x
BindingFits doc class (binding.ClassItem c) =
    (x : Item) × (item_at doc c ≡ Some x) × IsInjected x
    × ((number : ℕ) × (number_of_class_item doc c ≡ Some number))
BindingFits doc class (binding.Exposed dep entry) =
    (x : Exposed) × Contains (exposed_of doc class) x × (x.dep ≡ dep) × (x.entry ≡ entry)
BindingFits doc class other = Unit {0}

abbrev pub KindFits : Doc → ℕ → NodeKind → Type 0
KindFits doc class (node.Bound b) = BindingFits doc class b
KindFits doc class other = Unit {0}

abbrev stood_as : ℕ → ℕ → Option ℕ → Item → Statement
stood_as i l block x = record { index = i; line = l; block = block; item = x }

own_fits : (doc : Doc) (class i l : ℕ) (block : Option ℕ) (x : Item) (b : BindRef)
    → Contains (statements doc) (stood_as i l block x)
    → Contains (own_binding (stood_as i l block x)) b → BindingFits doc class b
own_fits doc class i l block (item.Provides mark scope n params result body) b c h =
    subst (BindingFits doc class) (the_one b (binding.Member i) h)
    (_, item_of_statement doc (stood_as i l block (item.Provides mark scope n params result body)) c, tt)
own_fits doc class i l block (item.Binds mark scope n param result) b c h =
    subst (BindingFits doc class) (the_one b (binding.Member i) h)
    (_, item_of_statement doc (stood_as i l block (item.Binds mark scope n param result)) c, tt)
own_fits doc class i l block (item.Produces mark n params result body) b c h =
    subst (BindingFits doc class) (the_one b (binding.Member i) h)
    (_, item_of_statement doc (stood_as i l block (item.Produces mark n params result body)) c, tt)
own_fits doc class i l block (item.Class true scope n params interfaces) b c h =
    subst (BindingFits doc class) (the_one b (binding.ClassItem i) h) (
      _,
      item_of_statement doc (stood_as i l block (item.Class true scope n params interfaces)) c,
      tt,
      class_has_number doc (stood_as i l block (item.Class true scope n params interfaces)) c refl,
    )
own_fits doc class i l block other b c h = absurd (none_in b h)

argument_fits : (doc : Doc) (class : ℕ) (s : Statement) (b : BindRef)
    → Contains (own_argument doc class s) b → BindingFits doc class b
argument_fits doc class s b h =
    let o = out_map binding.Arg _ b h in subst (BindingFits doc class) o.2 tt

exposed_fits : (doc : Doc) (class : ℕ) (s : Statement) (b : BindRef)
    → Contains (own_exposed doc class s) b → BindingFits doc class b
exposed_fits doc class s b h =
    let w = out_if (is_header_of doc class s) _ b h in
    let o = out_map (λ x. binding.Exposed x.dep x.entry) (exposed_of doc class) b w.1 in
    subst (BindingFits doc class) o.2 (o.0, o.1, refl, refl)

statement_fits : (doc : Doc) (class : ℕ) (s : Statement) (b : BindRef)
    → Contains (statements doc) s
    → Contains (own_binding s ++ (own_argument doc class s ++ own_exposed doc class s)) b
    → BindingFits doc class b
statement_fits doc class s b c h =
    elim (Contains-append_cases (own_binding s) _ b h) [
      | inl own ↦ own_fits doc class s.index s.line s.block s.item b c own
      | inr more ↦ elim (Contains-append_cases (own_argument doc class s) _ b more) [
        | inl argument ↦ argument_fits doc class s b argument
        | inr exposed ↦ exposed_fits doc class s b exposed
      ]
    ]

default_fits : (doc : Doc) (class : ℕ) (b : BindRef)
    → Contains (node.Bound binding.Default ∷ []) (node.Bound b) → BindingFits doc class b
default_fits doc class b c =
    subst (KindFits doc class) (the_one (node.Bound b) (node.Bound binding.Default) c) tt

abbrev is_bound : NodeKind → Bool
is_bound (node.Bound b) = true
is_bound other = false

entry_only : (b : Bool) (i : ℕ) (c : BindRef)
    → Contains (cond b (node.EntryOf i ∷ []) []) (node.Bound c) → ⊥
entry_only b i c h =
    let w = out_if b (node.EntryOf i ∷ []) (node.Bound c) h in
    false≢true (ap is_bound (the_one (node.Bound c) (node.EntryOf i) w.1))

in_group : (doc : Doc) (class : ℕ) (s : Statement) (how : BindKind) (key : Key) (c : BindRef)
    → Contains (groups_of doc class s how key) (node.Bound c) → ⊥
in_group doc class s kind.Explicit key c h = none_in (node.Bound c) h
in_group doc class s kind.OptionalOf key c h =
    let o = out_map node.Opt _ (node.Bound c) h in false≢true (ap is_bound o.2)
in_group doc class s how key c h =
    let o = out_map node.Multi _ (node.Bound c) h in false≢true (ap is_bound o.2)

other_kinds : (doc : Doc) (class : ℕ) (s : Statement) (c : BindRef)
    → Contains (own_entry doc class s ++ own_groups doc class s) (node.Bound c) → ⊥
other_kinds doc class s c h =
    elim (Contains-append_cases (own_entry doc class s) (own_groups doc class s) (node.Bound c)
    h) [
      | inl entry ↦ entry_only _ s.index c entry
      | inr group ↦ (let o = out_flat_map (λ (b : Bind). groups_of doc class s b.kind b.key)
          (filter (λ (b : Bind). b.item == s.index) (bindings doc)) (node.Bound c) group in
          in_group doc class s o.0.kind o.0.key c o.2)
    ]

kind_fits : (doc : Doc) (class : ℕ) (k : NodeKind) → Contains (kinds_of doc class) k
    → KindFits doc class k
kind_fits doc class (node.Bound b) h =
    elim (Contains-append_cases (default_kind doc class) _ (node.Bound b) h) [
      | inl first ↦ default_fits doc class b (out_if _ (node.Bound binding.Default ∷ []) (node.Bound b)
          first).1
      | inr later ↦ (let s = out_flat_map (kinds_at doc class) (statements doc) (node.Bound b) later in
          elim (Contains-append_cases (map node.Bound (own_binding s.0 ++ (own_argument doc class s.0
          ++ own_exposed doc class s.0))) _ (node.Bound b) s.2) [
            | inl bound ↦ (let o = out_map node.Bound _ (node.Bound b) bound in
                subst (KindFits doc class) o.2 (statement_fits doc class s.0 o.0 s.1 o.1))
            | inr other ↦ absurd (other_kinds doc class s.0 b other)
          ])
    ]
kind_fits doc class other h = tt

pub node_fits : (doc : Doc) (n : Node) → Contains (nodes doc) n → KindFits doc n.class n.kind
unfolding candidates
node_fits doc n c =
    let class = out_flat_map (λ a. map (node_of a) (kinds_of doc a)) (range_with_len 0
    (class_count doc)) n (node_is_candidate doc n c) in
    let o = out_map (node_of class.0) (kinds_of doc class.0) n class.2 in
    let P : Node → Type 0 = λ m. KindFits doc m.class m.kind in
    subst P o.2 (kind_fits doc class.0 o.0 o.1)

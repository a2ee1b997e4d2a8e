-- Which requests find productions, in an accepted document: of requests for ways only those for a
-- `Producer` do, and from what is no production no direct edge leads to one.
use Rattle.std.proofs.Common.{◌≡◌, inl, inr, ℕ, Bool, true, false, cond, ◌==◌, ◌&&◌, ◌||◌, is_some, List, [], ◌∷◌, ◌++◌, map, filter, Contains, Option, Some, None, option_and_then, refl, sym, ap, subst, ◌∙◌}
use Rattle.std.specs.List.{list_any, range_with_len}
use Rattle.std.specs.Option.{option_map_or}
use Rattle.std.proofs.lemmas.Bool.{false≢true}
use Rattle.std.proofs.lemmas.List.Elements.{Contains-append_cases}
use Rattle.dg_types.specs.declared.key.Core.{Core}
use Rattle.dg_types.specs.declared.key.Core.TheVariants as core
use Rattle.dg_types.specs.declared.key.Inner.{Inner}
use Rattle.dg_types.specs.declared.key.Inner.TheVariants as inner
use Rattle.dg_types.specs.declared.key.Key.{Key}
use Rattle.dg_types.specs.declared.key.Mode.{Mode}
use Rattle.dg_types.specs.Texts.{key_text}
use Rattle.dg_decl.specs.declared.document.Doc.{Doc}
use Rattle.dg_decl.specs.declared.binding.Bind.{Bind}
use Rattle.dg_decl.specs.declared.binding.BindKind.{BindKind}
use Rattle.dg_decl.specs.declared.binding.BindKind.TheVariants as kind
use Rattle.dg_decl.specs.declared.binding.BindRef.{BindRef}
use Rattle.dg_decl.specs.declared.binding.BindRef.TheVariants as binding
use Rattle.dg_decl.specs.declared.graph.Node.{Node}
use Rattle.dg_decl.specs.declared.graph.NodeKind.{NodeKind}
use Rattle.dg_decl.specs.declared.graph.NodeKind.TheVariants as node
use Rattle.dg_decl.specs.declared.item.Item.{Item}
use Rattle.dg_decl.specs.declared.item.Item.TheVariants as item
use Rattle.dg_decl.specs.declared.violation.Rule.TheVariants as rule
use Rattle.dg_decl.specs.Document.{Statement, statements}
use Rattle.dg_decl.specs.Names.{item_at}
use Rattle.dg_decl.specs.Components.{class_count}
use Rattle.dg_decl.specs.Lookup.{bindings, contributions}
use Rattle.dg_decl.specs.Diagnostics.{IsAccepted}
use Rattle.dg_decl.specs.Graph.{Dependency, deps, target, targets, node_of, nodes, mode_of_inner, inner_of, contribution_of, forms_of_core, forms_of, own_binding, own_argument, own_exposed, own_entry, groups_of, own_groups, kinds_at, default_kind, kinds_of, candidates, stands_first}
use Rattle.dg_decl.specs.Sizes.{scope_of_item, scope_of, is_producer, is_produces_item, is_entry, is_unscoped_binds, is_provider_form, passed_on, is_production}
use Rattle.dg_decl.specs.Stages.Bindings.{at_request, is_provision_item, is_provision, is_provider_mode, is_production_found, depends_on_production, optional_production, missing_binding, duplicate_bindings, incompatibly_scoped_bindings, incompatibly_scoped_member, map_keys, bindings_at, bindings_stage}
use Rattle.dg_decl.proofs.GraphLemmas.{node_is_candidate, target_is_node}
use Rattle.dg_decl.proofs.MemberLemmas.{none_in, first_or_rest, the_one, in_filter_map, out_map, out_filter, out_flat_map, out_if}
use Rattle.dg_eval.proofs.AcceptedDepth.{flat_nil, nil_left, nil_right, not_nil, stages_of_accepted}
use Rattle.dg_eval.proofs.InstanceLemmas.{none_there}
use Rattle.dg_requests.proofs.LookUps.{IsMulti, multi_fits}
use Rattle.dg_requests.proofs.NodeKinds.{IsMember, IsInjected, node_fits, KindFits}
use Rattle.dg_requests.proofs.Passing.{rule_holds, is_never}
use Rattle.dg_requests.proofs.Productions.{producer_is, passed_production, production_passes, Passes, passed_to, to_passed}
use Rattle.dg_exec.specs.Modes.{is_direct}

-- ---- sets, maps and optionals

none_passes : {A : Type 0} (p : A → Bool) (xs : List A) (x : A) → list_any p xs ≡ false
    → Contains xs x → p x ≡ false
none_passes p [] x e c = absurd (none_in x c)
none_passes {A} p (y ∷ ys) x e c =
    elim (first_or_rest x y ys c) [
      | inl same ↦ (let P : A → Type 0 = λ z. p z ≡ false in subst P same (first (p y) _ e))
      | inr rest ↦ none_passes p ys x (second (p y) _ e) rest
    ]
  where
    first : (a b : Bool) → (a || b) ≡ false → a ≡ false
    first true b e = e
    first false b e = refl

    second : (a b : Bool) → (a || b) ≡ false → b ≡ false
    second true b e = absurd (false≢true (sym e))
    second false b e = e

-- a form in which a set or map is asked for
abbrev IsForm : Inner → Type 0
IsForm inner.Plain = Unit {0}
IsForm inner.Provider = Unit {0}
IsForm inner.Produced = Unit {0}
IsForm other = ⊥

abbrev FormOf : Core → Type 0
FormOf c = IsMulti c → IsForm (inner_of c)

form_fits : (c x : Core) → Contains (forms_of_core c) x → FormOf x
form_fits (core.One b) x h = absurd (none_in x h)
form_fits (core.Set b i) x h =
    elim (first_or_rest x (core.Set b inner.Plain) (core.Set b inner.Produced ∷ []) h) [
      | inl e ↦ subst FormOf e (λ m. tt)
      | inr r ↦ subst FormOf (the_one x (core.Set b inner.Produced) r) (λ m. tt)
    ]
form_fits (core.Map k b i) x h =
    elim (first_or_rest x (core.Map k b inner.Plain)
    (core.Map k b inner.Provider ∷ core.Map k b inner.Produced ∷ []) h) [
      | inl e ↦ subst FormOf e (λ m. tt)
      | inr r ↦ elim (first_or_rest x (core.Map k b inner.Provider)
          (core.Map k b inner.Produced ∷ []) r) [
            | inl e ↦ subst FormOf e (λ m. tt)
            | inr s ↦ subst FormOf (the_one x (core.Map k b inner.Produced) s) (λ m. tt)
          ]
    ]
form_fits (core.Optional b i) x h =
    elim (first_or_rest x (core.Optional b inner.Plain)
    (core.Optional b inner.Provider ∷ core.Optional b inner.Lazy
    ∷ core.Optional b inner.ProviderLazy ∷ []) h) [
      | inl e ↦ subst FormOf e (λ m. absurd m)
      | inr r ↦ elim (first_or_rest x (core.Optional b inner.Provider)
          (core.Optional b inner.Lazy ∷ core.Optional b inner.ProviderLazy ∷ []) r) [
            | inl e ↦ subst FormOf e (λ m. absurd m)
            | inr s ↦ elim (first_or_rest x (core.Optional b inner.Lazy)
                (core.Optional b inner.ProviderLazy ∷ []) s) [
                  | inl e ↦ subst FormOf e (λ m. absurd m)
                  | inr u ↦ subst FormOf (the_one x (core.Optional b inner.ProviderLazy) u)
                      (λ m. absurd m)
                ]
          ]
    ]

abbrev FormFits : NodeKind → Type 0
FormFits (node.Multi key) = FormOf key.core
FormFits other = Unit {0}

form_of_key : (k key : Key) → Contains (forms_of k) key → FormOf key.core
form_of_key k key h =
    let o = out_map (λ (c : Core). record { qualifier = k.qualifier; core = c })
    (forms_of_core k.core) key h in
    let P : Key → Type 0 = λ x. FormOf x.core in
    subst P o.2 (form_fits k.core o.0 o.1)

group_forms : (doc : Doc) (class : ℕ) (s : Statement) (how : BindKind) (key : Key)
    → (k : NodeKind) → Contains (groups_of doc class s how key) k → FormFits k
group_forms doc class s kind.Explicit key k h = absurd (none_in k h)
group_forms doc class s kind.OptionalOf key k h =
    let o = out_map node.Opt _ k h in subst FormFits o.2 tt
group_forms doc class s how key k h =
    let o = out_map node.Multi (filter (stands_first doc class s) (forms_of key)) k h in
    subst FormFits o.2
    (form_of_key key o.0 (out_filter (stands_first doc class s) (forms_of key) o.0 o.1).0)

kind_forms : (doc : Doc) (class : ℕ) (k : NodeKind) → Contains (kinds_of doc class) k
    → FormFits k
kind_forms doc class k h =
    elim (Contains-append_cases (default_kind doc class) _ k h) [
      | inl first ↦ subst FormFits (the_one k (node.Bound binding.Default) (out_if _
          (node.Bound binding.Default ∷ []) k first).1) tt
      | inr later ↦ (let s = out_flat_map (kinds_at doc class) (statements doc) k later in
          elim (Contains-append_cases (map node.Bound (own_binding s.0 ++ (own_argument doc class s.0
          ++ own_exposed doc class s.0))) _ k s.2) [
            | inl bound ↦ (let o = out_map node.Bound _ k bound in subst FormFits o.2 tt)
            | inr other ↦ elim (Contains-append_cases (own_entry doc class s.0) (own_groups doc
                class s.0) k other) [
                  | inl entry ↦ subst FormFits (the_one k (node.EntryOf s.0.index) (out_if _
                      (node.EntryOf s.0.index ∷ []) k entry).1) tt
                  | inr group ↦ (let o = out_flat_map (λ (b : Bind). groups_of doc class s.0 b.kind
                      b.key) (filter (λ (b : Bind). b.item == s.0.index) (bindings doc)) k group in
                      group_forms doc class s.0 o.0.kind o.0.key k o.2)
                ]
          ])
    ]

node_forms : (doc : Doc) (n : Node) → Contains (nodes doc) n → FormFits n.kind
unfolding candidates
node_forms doc n c =
    let class = out_flat_map (λ a. map (node_of a) (kinds_of doc a)) (range_with_len 0
    (class_count doc)) n (node_is_candidate doc n c) in
    let o = out_map (node_of class.0) (kinds_of doc class.0) n class.2 in
    let P : Node → Type 0 = λ m. FormFits m.kind in
    subst P o.2 (kind_forms doc class.0 o.0 o.1)

multi_form : (doc : Doc) (class : ℕ) (key : Key)
    → Contains (nodes doc) (node_of class (node.Multi key)) → IsForm (inner_of key.core)
multi_form doc class key among =
    let form : FormOf key.core = node_forms doc (node_of class (node.Multi key)) among in
    form (multi_fits doc (node_of class (node.Multi key)) among)

contributed_mode : (doc : Doc) (class : ℕ) (key : Key) (d : Dependency)
    → Contains (deps doc (node_of class (node.Multi key))) d
    → d.mode ≡ mode_of_inner (inner_of key.core)
unfolding deps
contributed_mode doc class key d h =
    let o = out_map (contribution_of class key) (contributions doc class key) d h in
    sym (ap (λ (d : Dependency). d.mode) o.2)

-- ---- the rules

optional_holds : (doc : Doc) → IsAccepted doc → (n : Node) → Contains (nodes doc) n
    → optional_production doc n ≡ []
unfolding bindings_stage bindings_at
optional_holds doc accepted n among =
    let here = flat_nil (bindings_at doc) (nodes doc) n (stages_of_accepted doc accepted).bindings
    among in
    let a = nil_right (missing_binding doc n) _ here in
    let b = nil_right (duplicate_bindings doc n) _ a in
    let c = nil_right (incompatibly_scoped_bindings doc n) _ b in
    let d = nil_right (incompatibly_scoped_member doc n) _ c in
    let e = nil_right (map_keys doc n) _ d in
    let f = nil_right (depends_on_production doc n) _ e in
    nil_left (optional_production doc n) _ f

where_false : {A : Type 0} (b : Bool) (x : A) → cond b (x ∷ []) [] ≡ [] → b ≡ false
where_false true x e = absurd (not_nil x [] e)
where_false false x e = refl

second_false : (a b : Bool) → (a && b) ≡ false → a ≡ true → b ≡ false
second_false true b e h = e
second_false false b e h = absurd (false≢true h)

optional_free : (doc : Doc) → IsAccepted doc → (class : ℕ) (key : Key) (t : Node)
    → Contains (nodes doc) (node_of class (node.Opt key))
    → Contains (targets doc (node_of class (node.Opt key))) t → is_production doc t ≡ false
unfolding optional_production
optional_free doc accepted class key t among c =
    none_passes (is_production doc) (targets doc (node_of class (node.Opt key))) t
    (where_false _ _ (optional_holds doc accepted (node_of class (node.Opt key)) among)) c

map_free : (doc : Doc) → IsAccepted doc → (class : ℕ) (key : Key) (t : Node)
    → Contains (nodes doc) (node_of class (node.Multi key))
    → is_provider_form (inner_of key.core) ≡ true
    → Contains (targets doc (node_of class (node.Multi key))) t → is_production doc t ≡ false
unfolding depends_on_production
map_free doc accepted class key t among form c =
    none_passes (is_production doc) (targets doc (node_of class (node.Multi key))) t
    (second_false (is_provider_form (inner_of key.core)) _ (where_false _ _
    (rule_holds doc accepted (node_of class (node.Multi key)) among)) form) c

abbrev Judged : NodeKind → Type 0
Judged (node.Multi key) = ⊥
Judged other = Unit {0}

rule_is : (doc : Doc) (class : ℕ) (k : NodeKind) (d : Dependency) → Judged k
    → Contains (deps doc (node_of class k)) d
    → (is_provision doc (node_of class k) || is_provider_mode d.mode) ≡ true
    → is_production_found doc d ≡ true
    → Contains (depends_on_production doc (node_of class k))
    (at_request rule.DependsOnProduction (key_text d.key) doc (node_of class k) d)
unfolding depends_on_production
rule_is doc class (node.Bound b) d judged c h f =
    in_filter_map _ (deps doc (node_of class (node.Bound b))) d _ c (rw (h, f) refl)
rule_is doc class (node.Opt key) d judged c h f =
    in_filter_map _ (deps doc (node_of class (node.Opt key))) d _ c (rw (h, f) refl)
rule_is doc class (node.EntryOf e) d judged c h f =
    in_filter_map _ (deps doc (node_of class (node.EntryOf e))) d _ c (rw (h, f) refl)
rule_is doc class (node.Multi key) d judged c h f = absurd judged

judged_free : (doc : Doc) → IsAccepted doc → (class : ℕ) (k : NodeKind) (d : Dependency)
    → (t : Node) → Judged k → Contains (nodes doc) (node_of class k)
    → Contains (deps doc (node_of class k)) d → target d ≡ Some t
    → (is_provision doc (node_of class k) || is_provider_mode d.mode) ≡ true
    → is_production doc t ≡ false
judged_free doc accepted class k d t judged among c is h =
    is_never (is_production doc t) (λ production.
    none_there _ _ (rule_holds doc accepted (node_of class k) among)
    (rule_is doc class k d judged c h
    (ap (λ (o : Option Node). option_map_or (is_production doc) o false) is ∙ production)))

either_right : (a b : Bool) → b ≡ true → (a || b) ≡ true
either_right true b e = refl
either_right false b e = e

either_left : (a b : Bool) → a ≡ true → (a || b) ≡ true
either_left true b e = refl
either_left false b e = absurd (false≢true e)

-- ---- ways

form_way : (form : Inner) → IsForm form → is_provider_mode (mode_of_inner form) ≡ true
    → is_provider_form form ≡ true
form_way inner.Plain is e = e
form_way inner.Provider is e = refl
form_way inner.Lazy is e = absurd is
form_way inner.ProviderLazy is e = absurd is
form_way inner.Produced is e = e

way_free_by : (doc : Doc) → IsAccepted doc → (class : ℕ) (k : NodeKind) (d : Dependency)
    → (t : Node) → Contains (nodes doc) (node_of class k)
    → Contains (deps doc (node_of class k)) d → target d ≡ Some t
    → is_provider_mode d.mode ≡ true → is_production doc t ≡ false
way_free_by doc accepted class (node.Multi key) d t among c is way =
    let same : d.mode ≡ mode_of_inner (inner_of key.core) = contributed_mode doc class key d c in
    let P : Mode → Type 0 = λ m. is_provider_mode m ≡ true in
    map_free doc accepted class key t among
    (form_way (inner_of key.core) (multi_form doc class key among) (subst P same way))
    (in_filter_map target (deps doc (node_of class (node.Multi key))) d t c is)
way_free_by doc accepted class (node.Bound b) d t among c is way =
    judged_free doc accepted class (node.Bound b) d t tt among c is
    (either_right (is_provision doc (node_of class (node.Bound b))) _ way)
way_free_by doc accepted class (node.Opt key) d t among c is way =
    judged_free doc accepted class (node.Opt key) d t tt among c is
    (either_right (is_provision doc (node_of class (node.Opt key))) _ way)
way_free_by doc accepted class (node.EntryOf e) d t among c is way =
    judged_free doc accepted class (node.EntryOf e) d t tt among c is
    (either_right (is_provision doc (node_of class (node.EntryOf e))) _ way)

-- what a request for a Provider or a Lazy finds is no production
pub way_free : (doc : Doc) → IsAccepted doc → (n : Node) (d : Dependency) (t : Node)
    → Contains (nodes doc) n → Contains (deps doc n) d → target d ≡ Some t
    → is_provider_mode d.mode ≡ true → is_production doc t ≡ false
way_free doc accepted n d t among c is way =
    way_free_by doc accepted n.class n.kind d t among c is way

-- ---- direct edges

passing_free : (doc : Doc) (n : Node) (d : Dependency) (t : Node) → Contains (nodes doc) n
    → Contains (deps doc n) d → target d ≡ Some t → is_production doc n ≡ false
    → (Contains (targets doc n) t → Contains (passed_on doc n) t) → is_production doc t ≡ false
passing_free doc n d t among c is fails passes =
    let there = in_filter_map target (deps doc n) d t c is in
    is_never (is_production doc t) (λ production. false≢true (sym fails
    ∙ passed_production doc n t among (target_is_node doc n t among there) (passes there)
    production))

member_free : (doc : Doc) → IsAccepted doc → (class m : ℕ) (d : Dependency) (t : Node) (x : Item)
    → item_at doc m ≡ Some x → IsMember x
    → Contains (nodes doc) (node_of class (node.Bound (binding.Member m)))
    → Contains (deps doc (node_of class (node.Bound (binding.Member m)))) d → target d ≡ Some t
    → is_producer doc (node_of class (node.Bound (binding.Member m))) ≡ false
    → is_production doc (node_of class (node.Bound (binding.Member m))) ≡ false
    → is_production doc t ≡ false
member_free doc accepted class m d t (item.Provides mk scope n params result e) at is among c found plain fails =
    judged_free doc accepted class (node.Bound (binding.Member m)) d t tt among c found
    (either_left _ _ (ap (λ (o : Option Item). option_map_or is_provision_item o false) at))
member_free doc accepted class m d t (item.Produces mk n params result e) at is among c found plain fails =
    absurd (false≢true (sym plain
    ∙ ap (λ (o : Option Item). option_map_or is_produces_item o false) at))
member_free doc accepted class m d t (item.Binds mk None n param result) at is among c found plain fails =
    passing_free doc (node_of class (node.Bound (binding.Member m))) d t among c found fails
    (to_passed doc class (binding.Member m) t (_, at, refl))
member_free doc accepted class m d t (item.Binds mk (Some s) n param result) at is among c found plain fails =
    judged_free doc accepted class (node.Bound (binding.Member m)) d t tt among c found
    (either_left _ _ (ap (λ (o : Option Item). option_map_or is_provision_item o false) at))
member_free doc accepted class m d t other at is among c found plain fails = absurd is

injected_provision : (x : Item) → IsInjected x → is_provision_item x ≡ true
injected_provision (item.Class true scope n params interfaces) i = refl
injected_provision other i = absurd i

form_direct : (form : Inner) → is_provider_form form ≡ true
    → is_direct (mode_of_inner form) ≡ false
form_direct inner.Provider e = refl
form_direct other e = absurd (false≢true e)

multi_passes : (doc : Doc) (class : ℕ) (key : Key) (t : Node) (b : Bool)
    → is_provider_form (inner_of key.core) ≡ b → b ≡ false
    → Contains (targets doc (node_of class (node.Multi key))) t
    → Contains (passed_on doc (node_of class (node.Multi key))) t
unfolding passed_on
multi_passes doc class key t b is fails c =
    let e : is_provider_form (inner_of key.core) ≡ false = is ∙ fails in
    let P : List Node → Type 0 = λ ts. Contains ts t in
    subst P (sym (ap (λ (b : Bool). cond b [] (targets doc (node_of class (node.Multi key)))) e)) c

no_dependencies : (doc : Doc) (class a : ℕ) (d : Dependency)
    → Contains (deps doc (node_of class (node.Bound (binding.Arg a)))) d → ⊥
unfolding deps
no_dependencies doc class a d c = none_in d c

no_default : (doc : Doc) (class : ℕ) (d : Dependency)
    → Contains (deps doc (node_of class (node.Bound binding.Default))) d → ⊥
unfolding deps
no_default doc class d c = none_in d c

direct_free_by : (doc : Doc) → IsAccepted doc → (class : ℕ) (k : NodeKind) (d : Dependency)
    → (t : Node) → KindFits doc class k → Contains (nodes doc) (node_of class k)
    → is_producer doc (node_of class k) ≡ false → is_production doc (node_of class k) ≡ false
    → is_entry (node_of class k) ≡ false → Contains (deps doc (node_of class k)) d
    → target d ≡ Some t → is_direct d.mode ≡ true → is_production doc t ≡ false
direct_free_by doc accepted class (node.Bound (binding.Member m)) d t fits among plain fails entry c found direct =
    member_free doc accepted class m d t fits.0 fits.1 fits.2 among c found plain fails
direct_free_by doc accepted class (node.Bound (binding.ClassItem m)) d t fits among plain fails entry c found direct =
    judged_free doc accepted class (node.Bound (binding.ClassItem m)) d t tt among c found
    (either_left _ _ (ap (λ (o : Option Item). option_map_or is_provision_item o false) fits.1
    ∙ injected_provision fits.0 fits.2))
direct_free_by doc accepted class (node.Bound (binding.Arg a)) d t fits among plain fails entry c found direct =
    absurd (no_dependencies doc class a d c)
direct_free_by doc accepted class (node.Bound binding.Default) d t fits among plain fails entry c found direct =
    absurd (no_default doc class d c)
direct_free_by doc accepted class (node.Bound (binding.Exposed dep e)) d t fits among plain fails entry c found direct =
    passing_free doc (node_of class (node.Bound (binding.Exposed dep e))) d t among c found fails
    (to_passed doc class (binding.Exposed dep e) t tt)
direct_free_by doc accepted class (node.Multi key) d t fits among plain fails entry c found direct =
    let same : d.mode ≡ mode_of_inner (inner_of key.core) = contributed_mode doc class key d c in
    let P : Mode → Type 0 = λ m. is_direct m ≡ true in
    let form : is_provider_form (inner_of key.core) ≡ false =
    is_never (is_provider_form (inner_of key.core)) (λ e. false≢true (sym (form_direct
    (inner_of key.core) e) ∙ subst P same direct)) in
    passing_free doc (node_of class (node.Multi key)) d t among c found fails
    (multi_passes doc class key t (is_provider_form (inner_of key.core)) refl form)
direct_free_by doc accepted class (node.Opt key) d t fits among plain fails entry c found direct =
    optional_free doc accepted class key t among
    (in_filter_map target (deps doc (node_of class (node.Opt key))) d t c found)
direct_free_by doc accepted class (node.EntryOf e) d t fits among plain fails entry c found direct =
    absurd (false≢true (sym entry))

no_producer : (doc : Doc) (n : Node) → Contains (nodes doc) n → is_production doc n ≡ false
    → is_producer doc n ≡ false
no_producer doc n among fails =
    is_never (is_producer doc n) (λ e. false≢true (sym fails ∙ producer_is doc n among e))

-- from what is neither a production nor an entry a direct edge leads to no production
pub direct_free : (doc : Doc) → IsAccepted doc → (n : Node) (d : Dependency) (t : Node)
    → Contains (nodes doc) n → is_production doc n ≡ false → is_entry n ≡ false
    → Contains (deps doc n) d → target d ≡ Some t → is_direct d.mode ≡ true
    → is_production doc t ≡ false
direct_free doc accepted n d t among fails entry c found direct =
    direct_free_by doc accepted n.class n.kind d t (node_fits doc n among) among
    (no_producer doc n among fails) fails entry c found direct

-- ---- scoped bindings

unscoped : (x : Item) → is_unscoped_binds x ≡ true → is_some (scope_of_item x) ≡ false
unscoped (item.Binds mk None n param result) e = refl
unscoped other e = absurd (false≢true e)

scoped_passes : (doc : Doc) (class : ℕ) (b : BindRef) → Passes doc b
    → is_some (scope_of doc (node_of class (node.Bound b))) ≡ false
scoped_passes doc class (binding.Exposed dep e) passes = refl
scoped_passes doc class (binding.Member m) passes =
    ap (λ (o : Option Item). is_some (option_and_then scope_of_item o)) passes.1
    ∙ unscoped passes.0 passes.2
scoped_passes doc class other passes = absurd passes

scoped_free_by : (doc : Doc) (class : ℕ) (k : NodeKind) → KindFits doc class k
    → Contains (nodes doc) (node_of class k) → is_some (scope_of doc (node_of class k)) ≡ true
    → is_producer doc (node_of class k) ≡ false → is_production doc (node_of class k) ≡ false
scoped_free_by doc class (node.Bound b) fits among scoped plain =
    is_never (is_production doc (node_of class (node.Bound b))) (λ e.
    (let p = production_passes doc (node_of class (node.Bound b)) among plain e in
    false≢true (sym (scoped_passes doc class b (passed_to doc class b p.0 fits p.1).1) ∙ scoped)))
scoped_free_by doc class other fits among scoped plain = absurd (false≢true scoped)

-- a scoped binding is no production
pub scoped_free : (doc : Doc) (n : Node) → Contains (nodes doc) n
    → is_some (scope_of doc n) ≡ true → is_producer doc n ≡ false → is_production doc n ≡ false
scoped_free doc n among scoped plain =
    scoped_free_by doc n.class n.kind (node_fits doc n among) among scoped plain

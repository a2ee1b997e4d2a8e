-- Where the stages find nothing, the graph has no cycle; and the nodes in the order of candidates are one list.
use Rattle.std.proofs.Common.{◌≡◌, Bool, true, false, cond, List, [], ◌∷◌, ◌++◌, filter, flat_map, Contains, None, refl, sym, subst, ◌∙◌}
use Rattle.std.proofs.lemmas.Bool.{false≢true}
use Rattle.dg_decl.specs.declared.document.Doc.{Doc}
use Rattle.dg_decl.specs.declared.graph.Node.{Node}
use Rattle.dg_decl.specs.declared.violation.Violation.{Violation}
use Rattle.dg_decl.specs.declared.violation.Rule.TheVariants as rule
use Rattle.dg_decl.specs.Graph.{candidates, is_reachable, nodes, is_on_cycle, is_on_call}
use Rattle.dg_decl.specs.Stages.Bindings.{missing_binding, duplicate_bindings, incompatibly_scoped_bindings, incompatibly_scoped_member, map_keys, depends_on_production, optional_production, at_node, where_true, dependency_cycle, call_cycle, bindings_at, bindings_stage}
use Rattle.dg_decl.specs.GraphLaws.{OneListOfNodes, StagesLeaveNoCycle}
use Rattle.dg_decl.proofs.NodeWalks.{in_rest}
use Rattle.dg_decl.proofs.MemberLemmas.{in_filter, out_filter, in_flat_map, none_in, in_front}
use Rattle.dg_decl.proofs.GraphLemmas.{reachable_by_short_walks, cycles_by_short_walks}

-- ---- one list

same_cond : (p q : Bool) (x : Node) (xs ys : List Node) → p ≡ q → xs ≡ ys
    → cond p (x ∷ xs) xs ≡ cond q (x ∷ ys) ys
same_cond p q x xs ys e f i = cond (e i) (x ∷ f i) (f i)

filter_same : (p q : Node → Bool) (xs : List Node) → ((x : Node) → Contains xs x → p x ≡ q x)
    → filter p xs ≡ filter q xs
filter_same p q [] same = refl
filter_same p q (x ∷ xs) same =
    same_cond (p x) (q x) x (filter p xs) (filter q xs) (same x (in_front x xs)) (filter_same p q
    xs (λ y c. same y (in_rest y x xs c)))

both_ways : (a b : Bool) → (a ≡ true → b ≡ true) → (b ≡ true → a ≡ true) → a ≡ b
both_ways true b f g = sym (f refl)
both_ways false true f g = g refl
both_ways false false f g = refl

pub one_list_of_nodes : OneListOfNodes
unfolding nodes
one_list_of_nodes doc p are =
    filter_same p (is_reachable doc) (candidates doc) (λ n c. both_ways (p n) (is_reachable doc n)
    (λ h. (reachable_by_short_walks doc n).1 ((are.each n).0 (in_filter p (candidates doc) n
    c h)))
    (λ h. (out_filter p (candidates doc) n ((are.each n).1 ((reachable_by_short_walks doc
    n).0 h))).1))

-- ---- no cycle

nil_parts : {A : Type 0} (xs ys : List A) → xs ++ ys ≡ [] → (xs ≡ []) × (ys ≡ [])
nil_parts [] ys e = (refl, e)
nil_parts {A} (x ∷ xs) ys e = absurd (let P : List A → Type 0 = λ zs. Contains zs x in none_in x
    (subst P e (in_front x (xs ++ ys))))

has_none : {A : Type 0} (xs : List A) → ((x : A) → Contains xs x → ⊥) → xs ≡ []
has_none [] none = refl
has_none (x ∷ xs) none = absurd (none x (in_front x xs))

flat_nil : {A B : Type 0} (f : A → List B) (xs : List A) (x : A) → flat_map f xs ≡ []
    → Contains xs x → f x ≡ []
flat_nil {A} {B} f xs x e c =
    has_none (f x) (λ y h. (let P : List B → Type 0 = λ zs. Contains zs y in none_in y (subst P e
    (in_flat_map f xs x y c h))))

is_false : (b : Bool) (v : Violation) → where_true b v ≡ [] → b ≡ false
is_false true v e = absurd (let P : List Violation → Type 0 = λ zs. Contains zs v in none_in v
    (subst P e (in_front v [])))
is_false false v e = refl

-- what the stage says of a node
on_none : (doc : Doc) (n : Node) → bindings_at doc n ≡ []
    → (is_on_cycle doc n ≡ false) × (is_on_call doc n ≡ false)
unfolding bindings_at dependency_cycle call_cycle
on_none doc n e =
    let a = (nil_parts (missing_binding doc n) _ e).1 in
    let b = (nil_parts (duplicate_bindings doc n) _ a).1 in
    let c = (nil_parts (incompatibly_scoped_bindings doc n) _ b).1 in
    let d = (nil_parts (incompatibly_scoped_member doc n) _ c).1 in
    let f = (nil_parts (map_keys doc n) _ d).1 in
    let g = (nil_parts (depends_on_production doc n) _ f).1 in
    let h = (nil_parts (optional_production doc n) _ g).1 in
    let both = nil_parts (dependency_cycle doc n) (call_cycle doc n) h in (
      is_false (is_on_cycle doc n) (at_node rule.DependencyCycle None doc n) both.0,
      is_false (is_on_call doc n) (at_node rule.CallCycle None doc n) both.1,
    )

pub stages_leave_no_cycle : StagesLeaveNoCycle
unfolding bindings_stage
stages_leave_no_cycle doc bindings n c =
    let none = on_none doc n (flat_nil (bindings_at doc) (nodes doc) n bindings c) in
    let laws = cycles_by_short_walks doc n c in
    (λ on. false≢true (sym none.0 ∙ laws.0.1 on), λ on. false≢true (sym none.1 ∙ laws.1.1 on))

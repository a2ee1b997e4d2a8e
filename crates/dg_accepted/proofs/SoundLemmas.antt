-- What the stages say of an accepted document.
use Rattle.std.proofs.Common.{◌≡◌, ℕ, Bool, true, false, ◌&&◌, ◌||◌, cond, List, [], ◌∷◌, ◌++◌, flat_map, Contains, Some, None, refl, subst}
use Rattle.std.proofs.lemmas.Bool.{false≢true}
use Rattle.dg_types.specs.Texts.{key_text}
use Rattle.dg_decl.specs.declared.document.Doc.{Doc}
use Rattle.dg_decl.specs.declared.binding.Found.{Found}
use Rattle.dg_decl.specs.declared.binding.Found.TheVariants as found
use Rattle.dg_decl.specs.declared.graph.Node.{Node}
use Rattle.dg_decl.specs.declared.graph.NodeKind.{NodeKind}
use Rattle.dg_decl.specs.declared.graph.NodeKind.TheVariants as node
use Rattle.dg_decl.specs.declared.violation.Violation.{Violation}
use Rattle.dg_decl.specs.declared.violation.Rule.TheVariants as rule
use Rattle.dg_decl.specs.Diagnostics.{first_found, diagnostics, IsAccepted}
use Rattle.dg_decl.specs.Graph.{Dependency, deps, target, node_found, node_of, nodes}
use Rattle.dg_decl.specs.Sizes.{is_production, IsProduction}
use Rattle.dg_decl.specs.Stages.Names.{names_stage}
use Rattle.dg_decl.specs.Stages.Types.{types_stage}
use Rattle.dg_decl.specs.Stages.Components.{components_stage}
use Rattle.dg_decl.specs.Stages.Dependencies.{dependencies_stage}
use Rattle.dg_decl.specs.Stages.Bindings.{at_request, many_text, scoped_class_text, missing_binding, duplicate_bindings, incompatibly_scoped_bindings, incompatibly_scoped_member, map_keys, depends_on_production, bindings_at, bindings_stage, is_provision, is_provider_mode, is_production_found}
use Rattle.dg_decl.proofs.AcceptedGraph.{stages_leave_no_cycle}
use Rattle.dg_decl.proofs.GraphLemmas.{target_is_node, productions_by_short_walks}
use Rattle.dg_decl.proofs.MemberLemmas.{in_front, in_flat_map, in_filter_map, none_in}
use Rattle.dg_accepted.specs.Accepted.{FindsOne, AcceptedDocumentsAreSound}

-- ---- lists without anything

not_nil : {A : Type 0} (x : A) (xs : List A) → x ∷ xs ≡ [] → ⊥
not_nil {A} x xs e = let P : List A → Type 0 = λ zs. Contains zs x in none_in x (subst P e (in_front x xs))

none_there : {A : Type 0} (x : A) (xs : List A) → xs ≡ [] → Contains xs x → ⊥
none_there {A} x xs e c = let P : List A → Type 0 = λ zs. Contains zs x in none_in x (subst P e c)

nil_parts : {A : Type 0} (xs ys : List A) → xs ++ ys ≡ [] → (xs ≡ []) × (ys ≡ [])
nil_parts [] ys e = (refl, e)
nil_parts (x ∷ xs) ys e = absurd (not_nil x (xs ++ ys) e)

has_none : {A : Type 0} (xs : List A) → ((x : A) → Contains xs x → ⊥) → xs ≡ []
has_none [] none = refl
has_none (x ∷ xs) none = absurd (none x (in_front x xs))

flat_nil : {A B : Type 0} (f : A → List B) (xs : List A) (x : A) → flat_map f xs ≡ []
    → Contains xs x → f x ≡ []
flat_nil f xs x e c = has_none (f x) (λ y h. none_there y _ e (in_flat_map f xs x y c h))

first_nil : (xs : List Violation) (later : List (List Violation)) → first_found (xs ∷ later) ≡ []
    → (xs ≡ []) × (first_found later ≡ [])
first_nil [] later e = (refl, e)
first_nil (v ∷ vs) later e = absurd (not_nil v vs e)

bindings_none : (doc : Doc) → IsAccepted doc → bindings_stage doc ≡ []
unfolding diagnostics
bindings_none doc e =
    let a = first_nil (names_stage doc) _ e in
    let b = first_nil (types_stage doc) _ a.1 in
    let c = first_nil (components_stage doc) _ b.1 in
    let d = first_nil (dependencies_stage doc) _ c.1 in
    (first_nil (bindings_stage doc) _ d.1).0

-- ---- what a node breaks

record BreaksNothing (doc : Doc) (n : Node) : Type 0 where
  missing : missing_binding doc n ≡ []
  many : duplicate_bindings doc n ≡ []
  scoped : incompatibly_scoped_bindings doc n ≡ []
  waits : depends_on_production doc n ≡ []

breaks_nothing : (doc : Doc) → bindings_stage doc ≡ [] → (n : Node) → Contains (nodes doc) n
    → BreaksNothing doc n
unfolding bindings_stage bindings_at
breaks_nothing doc e n c =
    let here = flat_nil (bindings_at doc) (nodes doc) n e c in
    let a = nil_parts (missing_binding doc n) _ here in
    let b = nil_parts (duplicate_bindings doc n) _ a.1 in
    let s = nil_parts (incompatibly_scoped_bindings doc n) _ b.1 in
    let m = nil_parts (incompatibly_scoped_member doc n) _ s.1 in
    let k = nil_parts (map_keys doc n) _ m.1 in
    let p = nil_parts (depends_on_production doc n) _ k.1 in
    record { missing = a.0; many = b.0; scoped = s.0; waits = p.0 }

-- ---- each request finds one thing

missing_is : (doc : Doc) (n : Node) (d : Dependency) → Contains (deps doc n) d
    → d.found ≡ found.Nothing
    → Contains (missing_binding doc n) (at_request rule.MissingBinding (key_text d.key) doc n d)
unfolding missing_binding
missing_is doc n d c e = in_filter_map _ (deps doc n) d _ c (rw e refl)

many_is : (doc : Doc) (n : Node) (d : Dependency) (os : _) → Contains (deps doc n) d
    → d.found ≡ found.Many os
    → Contains (duplicate_bindings doc n)
    (at_request rule.DuplicateBindings (many_text doc d.key os) doc n d)
unfolding duplicate_bindings
many_is doc n d os c e = in_filter_map _ (deps doc n) d _ c (rw e refl)

scoped_is : (doc : Doc) (n : Node) (d : Dependency) (i : _) → Contains (deps doc n) d
    → d.found ≡ found.BadScope i
    → Contains (incompatibly_scoped_bindings doc n)
    (at_request rule.IncompatiblyScopedBindings (scoped_class_text doc i) doc n d)
unfolding incompatibly_scoped_bindings
scoped_is doc n d i c e = in_filter_map _ (deps doc n) d _ c (rw e refl)

found_node : (doc : Doc) (n : Node) (d : Dependency) → BreaksNothing doc n
    → Contains (deps doc n) d → (f : Found) → d.found ≡ f
    → (t : Node) × (node_found d.class d.key f ≡ Some t)
found_node doc n d none c (found.One o b) e = (node_of o (node.Bound b), refl)
found_node doc n d none c (found.SetOf os) e = (node_of d.class (node.Multi d.key), refl)
found_node doc n d none c (found.MapOf os) e = (node_of d.class (node.Multi d.key), refl)
found_node doc n d none c found.OptionalOf e = (node_of d.class (node.Opt d.key), refl)
found_node doc n d none c (found.Many os) e =
    absurd (none_there _ _ none.many (many_is doc n d os c e))
found_node doc n d none c (found.BadScope i) e =
    absurd (none_there _ _ none.scoped (scoped_is doc n d i c e))
found_node doc n d none c found.Nothing e =
    absurd (none_there _ _ none.missing (missing_is doc n d c e))

finds_one : (doc : Doc) (n : Node) (d : Dependency) → Contains (nodes doc) n → BreaksNothing doc n
    → Contains (deps doc n) d → FindsOne doc d
finds_one doc n d among none c =
    let t = found_node doc n d none c d.found refl in
    record {
      found = t.0;
      is_target = t.1;
      is_node = target_is_node doc n t.0 among (in_filter_map target (deps doc n) d t.0 c t.1);
    }

-- ---- no provision asks for a production

either : (a b : Bool) → a ≡ true → (a || b) ≡ true
either true b e = refl
either false b e = absurd (false≢true e)

both : (a b : Bool) → a ≡ true → b ≡ true → (a && b) ≡ true
both true true e f = refl
both true false e f = absurd (false≢true f)
both false b e f = absurd (false≢true e)

chosen : {A : Type 0} (b : Bool) (x y : A) → b ≡ true → cond b x y ≡ x
chosen true x y e = refl
chosen false x y e = absurd (false≢true e)

found_is_production : (doc : Doc) (d : Dependency) (t : Node) → target d ≡ Some t
    → is_production doc t ≡ true → is_production_found doc d ≡ true
found_is_production doc d t e p = rw e p

waits_at : (doc : Doc) (class : ℕ) (k : NodeKind) (d : Dependency) (t : Node)
    → Contains (deps doc (node_of class k)) d → is_provision doc (node_of class k) ≡ true
    → target d ≡ Some t → is_production doc t ≡ true
    → Contains (depends_on_production doc (node_of class k))
    (at_request rule.DependsOnProduction (key_text d.key) doc (node_of class k) d)
unfolding depends_on_production
waits_at doc class (node.Multi key) d t c p f waits = absurd (false≢true p)
waits_at doc class (node.Bound b) d t c p f waits =
    in_filter_map _ (deps doc (node_of class (node.Bound b))) d _ c
    (chosen _ _ None (both _ _
    (either (is_provision doc (node_of class (node.Bound b))) (is_provider_mode d.mode) p)
    (found_is_production doc d t f waits)))
waits_at doc class (node.Opt key) d t c p f waits = absurd (false≢true p)
waits_at doc class (node.EntryOf i) d t c p f waits = absurd (false≢true p)

no_wait : (doc : Doc) (n t : Node) (d : Dependency) → Contains (nodes doc) n → BreaksNothing doc n
    → Contains (deps doc n) d → is_provision doc n ≡ true → target d ≡ Some t
    → IsProduction doc t → ⊥
no_wait doc n t d among none c p f waits =
    let here = target_is_node doc n t among (in_filter_map target (deps doc n) d t c f) in
    let is = (productions_by_short_walks doc t here).1 waits in
    none_there _ _ none.waits (waits_at doc n.class n.kind d t c p f is)

-- ---- the law

pub accepted_documents_are_sound : AcceptedDocumentsAreSound
accepted_documents_are_sound doc accepted =
    let none = bindings_none doc accepted in
    let cycles = stages_leave_no_cycle doc none in
    record {
      finds = λ n d among c. finds_one doc n d among (breaks_nothing doc none n among) c;
      no_cycle = λ n among on. (cycles n among).0 on;
      no_call_cycle = λ n among on. (cycles n among).1 on;
      no_wait = λ n t d among c p f waits.
          no_wait doc n t d among (breaks_nothing doc none n among) c p f waits;
    }

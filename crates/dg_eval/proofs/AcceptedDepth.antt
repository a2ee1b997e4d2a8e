-- In an accepted document no walk from a node that is no entry has more than 128 nodes.
use Rattle.std.proofs.Common.{◌≡◌, ◌≤◌, ℕ, ◌+◌, Bool, true, false, not, ◌&&◌, nat_lt, List, [], ◌∷◌, ◌++◌, flat_map, Contains, Some, refl, sym, subst, ◌∙◌, arith, inl, inr}
use Rattle.std.proofs.lemmas.Bool.{false≢true, lt-ltb, cases_lt}
use Rattle.std.proofs.lemmas.Option.{none-some, same_Some}
use Rattle.dg_decl.specs.declared.document.Doc.{Doc}
use Rattle.dg_decl.specs.declared.graph.Node.{Node}
use Rattle.dg_decl.specs.declared.violation.Violation.{Violation}
use Rattle.dg_decl.specs.Diagnostics.{first_found, diagnostics, IsAccepted}
use Rattle.dg_types.specs.declared.key.Key.{Key}
use Rattle.dg_decl.specs.declared.binding.Found.{Found}
use Rattle.dg_decl.specs.declared.binding.Found.TheVariants as found
use Rattle.dg_decl.specs.declared.graph.NodeKind.TheVariants as node
use Rattle.dg_decl.specs.Graph.{Dependency, node_found, node_of, nodes}
use Rattle.dg_decl.specs.Sizes.{is_entry, depth, IsDepth}
use Rattle.dg_decl.specs.Stages.Names.{names_stage}
use Rattle.dg_decl.specs.Stages.Types.{types_stage}
use Rattle.dg_decl.specs.Stages.Components.{components_stage}
use Rattle.dg_decl.specs.Stages.Dependencies.{dependencies_stage}
use Rattle.dg_decl.specs.Stages.Bindings.{bindings_stage, where_true}
use Rattle.dg_decl.specs.Stages.Sizes.{sizes_stage, too_deep, too_heavy, depth_limit}
use Rattle.dg_decl.proofs.AcceptedGraph.{stages_leave_no_cycle}
use Rattle.dg_decl.proofs.SizeLemmas.{depths_are_longest_walks}
use Rattle.dg_decl.proofs.MemberLemmas.{in_front, in_flat_map, none_in, in_got}
use Rattle.dg_eval.specs.Meaning.{Target, target_of}
use Rattle.dg_eval.proofs.TargetLemmas.{Shallow, ShallowSlot, target_is}

pub not_nil : {A : Type 0} (x : A) (xs : List A) → x ∷ xs ≡ [] → ⊥
not_nil {A} x xs e = let P : List A → Type 0 = λ zs. Contains zs x in none_in x (subst P e (in_front x xs))

pub first_nil : (xs : List Violation) (later : List (List Violation)) → first_found (xs ∷ later) ≡ []
    → (xs ≡ []) × (first_found later ≡ [])
first_nil [] later e = (refl, e)
first_nil (v ∷ vs) later e = absurd (not_nil v vs e)

pub nil_left : {A : Type 0} (xs ys : List A) → xs ++ ys ≡ [] → xs ≡ []
nil_left [] ys e = refl
nil_left (x ∷ xs) ys e = absurd (not_nil x (xs ++ ys) e)

pub nil_right : {A : Type 0} (xs ys : List A) → xs ++ ys ≡ [] → ys ≡ []
nil_right [] ys e = e
nil_right (x ∷ xs) ys e = absurd (not_nil x (xs ++ ys) e)

has_none : {A : Type 0} (xs : List A) → ((x : A) → Contains xs x → ⊥) → xs ≡ []
has_none [] none = refl
has_none (x ∷ xs) none = absurd (none x (in_front x xs))

pub flat_nil : {A B : Type 0} (f : A → List B) (xs : List A) (x : A) → flat_map f xs ≡ []
    → Contains xs x → f x ≡ []
flat_nil {A} {B} f xs x e c =
    has_none (f x) (λ y h. (let P : List B → Type 0 = λ zs. Contains zs y in none_in y (subst P e
    (in_flat_map f xs x y c h))))

-- the stages that evaluation rests on find nothing
pub record StagesFindNothing (doc : Doc) : Type 0 where
  pub types : types_stage doc ≡ []
  pub bindings : bindings_stage doc ≡ []
  pub sizes : sizes_stage doc ≡ []

pub stages_of_accepted : (doc : Doc) → IsAccepted doc → StagesFindNothing doc
unfolding diagnostics
stages_of_accepted doc e =
    let a = first_nil (names_stage doc) _ e in
    let b = first_nil (types_stage doc) _ a.1 in
    let c = first_nil (components_stage doc) _ b.1 in
    let d = first_nil (dependencies_stage doc) _ c.1 in
    let f = first_nil (bindings_stage doc) _ d.1 in
    let g = first_nil (sizes_stage doc) _ f.1 in
    record { types = b.0; bindings = f.0; sizes = g.0 }

is_false : (b : Bool) (v : Violation) → where_true b v ≡ [] → b ≡ false
is_false true v e = absurd (not_nil v [] e)
is_false false v e = refl

second_false : (a b : Bool) → a ≡ false → (not a && b) ≡ false → b ≡ false
second_false true b e h = absurd (false≢true (sym e))
second_false false b e h = h

shallow_by : (doc : Doc) (n : Node) → is_entry n ≡ false → too_deep doc n ≡ []
    → nat_lt depth_limit (depth doc n) ≡ false
unfolding too_deep
shallow_by doc n entry e =
    second_false (is_entry n) (nat_lt depth_limit (depth doc n)) entry (is_false _ _ e)

below_limit : (d : ℕ) → nat_lt 128 d ≡ false → d ≤ 128
below_limit d e =
    elim (cases_lt 128 d) [
      | inl more ↦ absurd (false≢true (sym e ∙ lt-ltb 128 d more))
      | inr less ↦ less
    ]

pub accepted_shallow : (doc : Doc) → StagesFindNothing doc → (n : Node) → Contains (nodes doc) n
    → is_entry n ≡ false → Shallow doc 128 n
unfolding sizes_stage
accepted_shallow doc none n among entry edges last w =
    let deep : too_deep doc n ≡ [] =
    nil_left (too_deep doc n) (too_heavy doc n)
    (flat_nil (λ n. too_deep doc n ++ too_heavy doc n) (nodes doc) n none.sizes among) in
    let most : depth doc n ≤ 128 = below_limit (depth doc n) (shallow_by doc n entry deep) in
    let rank : IsDepth doc n (depth doc n) =
    depths_are_longest_walks doc (stages_leave_no_cycle doc none.bindings) n among in
    let long : edges + 1 ≤ depth doc n = rank.longest edges last w in
    omega arith

pub found_no_entry : (class : ℕ) (key : Key) (f : Found) (x : Node)
    → node_found class key f ≡ Some x → is_entry x ≡ false
found_no_entry class key (found.One owner b) x e =
    let P : Node → Type 0 = λ y. is_entry y ≡ false in
    subst P (same_Some (node_of owner (node.Bound b)) x e) refl
found_no_entry class key (found.SetOf os) x e =
    let P : Node → Type 0 = λ y. is_entry y ≡ false in
    subst P (same_Some (node_of class (node.Multi key)) x e) refl
found_no_entry class key (found.MapOf os) x e =
    let P : Node → Type 0 = λ y. is_entry y ≡ false in
    subst P (same_Some (node_of class (node.Multi key)) x e) refl
found_no_entry class key found.OptionalOf x e =
    let P : Node → Type 0 = λ y. is_entry y ≡ false in
    subst P (same_Some (node_of class (node.Opt key)) x e) refl
found_no_entry class key other x e = absurd (none-some x e)

-- where a dependency leads no walk has more than 128 nodes
pub target_shallow_slot : (doc : Doc) → StagesFindNothing doc → (i : ℕ) (n : Node) (d : Dependency)
    → (t : Target) → target_of doc i n d ≡ Some t → ShallowSlot doc 128 t.slot
target_shallow_slot doc none i n d t e =
    let x = target_is doc i n d t e in (
      x.0,
      x.2,
      accepted_shallow doc none x.0 (in_got (nodes doc) t.slot x.0 x.2)
          (found_no_entry d.class d.key d.found x.0 x.1),
    )

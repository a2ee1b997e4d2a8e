-- What is exposed, dependency by dependency and class by class.
use Rattle.std.proofs.Common.{◌≡◌, ℕ, suc, ◌+◌, ◌<◌, ◌≤◌, List, [], ◌∷◌, ◌++◌, length, get_or, map, drop, take, Some, refl, sym, ap, ◌∙◌, arith, add-one, append_assoc}
use Rattle.std.specs.Prelude.{All}
use Rattle.std.specs.List.{filter_map, range_with_len}
use Rattle.std.proofs.Math.Seq.{drop-cons, take-length}
use Rattle.std.proofs.lemmas.List.Elements.{All-contains_itself}
use Rattle.std.proofs.lemmas.Option.{slice_get-get_or}
use Rattle.dg_decl.specs.declared.document.Doc.{Doc}
use Rattle.dg_decl.specs.declared.component.Class.{Class}
use Rattle.dg_decl.specs.declared.component.Exposed.{Exposed}
use Rattle.dg_decl.specs.Components.{class_count, class_of_number, component_classes, deps_of, entries_of, parent_of, exposed_as, exposed_of, exposed_by_class}
use Rattle.dg_decl.proofs.NumberBounds.{same_value}
use Rattle.dg_decl.proofs.NodeCandidates.{dep_small}
use Rattle.dg_slots.proofs.ClassLemmas.{class_at, classes_counted}
use Rattle.dg_compdep.specs.Exposing.{exposed_by, exposed_from}

-- the class that stands at a number among the classes
pub class_is : (doc : Doc) (c : ℕ) (class : Class) → c < class_count doc
    → get_or (component_classes doc) c class ≡ class → class ≡ class_of_number doc c
class_is doc c class lt e =
    let long : c < length (component_classes doc) = omega (arith, classes_counted doc) in
    let get = slice_get-get_or (component_classes doc) c class long in
    same_value class (class_of_number doc c) (ap Some (sym e) ∙ sym get ∙ class_at doc c lt)

pub deps_small : (doc : Doc) (c : ℕ) → All (λ d. d < class_count doc) (deps_of doc c)
deps_small doc c k d lt = dep_small doc c _ (All-contains_itself (deps_of doc c) k d lt)

-- one more dependency
pub exposed_step : (doc : Doc) (deps : List ℕ) (i d : ℕ) (list more all : List Exposed)
    → i < length deps → get_or deps i 0 ≡ d
    → more ≡ list ++ filter_map (exposed_as doc i) (entries_of doc d)
    → list ++ exposed_from doc i (drop i deps) ≡ all
    → more ++ exposed_from doc (i + 1) (drop (i + 1) deps) ≡ all
exposed_step doc deps i d list more all lt e is rest =
    let after = exposed_from doc (i + 1) (drop (i + 1) deps) in
    let here : drop i deps ≡ d ∷ drop (i + 1) deps =
    rw add-one (drop-cons deps i 0 lt ∙ ap (λ x. x ∷ drop (suc i) deps) e) in
    ap (λ (xs : List Exposed). xs ++ after) is
    ∙ append_assoc list (exposed_by doc (i, d)) after
    ∙ ap (λ (xs : List ℕ). list ++ exposed_from doc i xs) (sym here) ∙ rest

map_map : {A B C : Type 0} (f : A → B) (g : B → C) (xs : List A)
    → map g (map f xs) ≡ map (λ x. g (f x)) xs
map_map f g [] = refl
map_map f g (x ∷ xs) = ap (λ t. g (f x) ∷ t) (map_map f g xs)

pub exposed_all : (doc : Doc) → map (λ (c : Class). exposed_from doc 0 c.deps) (component_classes
    doc) ≡ exposed_by_class doc
unfolding component_classes exposed_by_class exposed_of
exposed_all doc = map_map (class_of_number doc) (λ (c : Class). exposed_from doc 0 c.deps)
    (range_with_len 0 (class_count doc))

-- the entries and the dependencies of the class at a number
pub entries_at : (doc : Doc) (classes : List Class) (c : ℕ) (class : Class) (entries : List ℕ)
    → classes ≡ component_classes doc → c < class_count doc → class ≡ get_or classes c class
    → entries ≡ class.entries → entries ≡ entries_of doc c
entries_at doc classes c class entries all lt here is =
    is ∙ ap (λ x. x.entries)
    (class_is doc c class lt (ap (λ (xs : List Class). get_or xs c class) (sym all) ∙ sym here))

pub deps_at : (doc : Doc) (classes : List Class) (c : ℕ) (class : Class) (deps : List ℕ)
    → classes ≡ component_classes doc → c < length classes → class ≡ get_or classes c class
    → deps ≡ class.deps → deps ≡ deps_of doc c
deps_at doc classes c class deps all lt here is =
    let within : c < class_count doc = omega (arith, ap length all, classes_counted doc) in
    is ∙ ap (λ x. x.deps)
    (class_is doc c class within (ap (λ (xs : List Class). get_or xs c class) (sym all) ∙ sym here))

pub exposed_end : (doc : Doc) (classes : List Class) (i : ℕ) (lists : List (List Exposed))
    → classes ≡ component_classes doc → i ≤ length classes → length classes ≤ i
    → lists ≡ map (λ (c : Class). exposed_from doc 0 c.deps) (take i classes)
    → lists ≡ exposed_by_class doc
exposed_end doc classes i lists all le ge is =
    let whole : i ≡ length classes = omega arith in
    is ∙ ap (map (λ (c : Class). exposed_from doc 0 c.deps)) (ap (λ n. take n classes) whole
    ∙ take-length classes ∙ all)
    ∙ exposed_all doc

pub parent_of_class : (doc : Doc) (classes : List Class) (c : ℕ) (class : Class)
    → classes ≡ component_classes doc → c < class_count doc → class ≡ get_or classes c class
    → (get_or classes c class).parent ≡ parent_of doc c
parent_of_class doc classes c class all lt here =
    ap (λ (x : Class). x.parent) (sym here
    ∙ class_is doc c class lt (ap (λ (xs : List Class). get_or xs c class) (sym all) ∙ sym here))

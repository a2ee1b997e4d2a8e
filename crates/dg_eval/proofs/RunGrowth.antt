-- A run grows into another: where it has a result the other is the same. What is made of runs grows
-- with them.
use Rattle.std.proofs.Common.{◌≡◌, ◌≢◌, Bool, true, false, cond, List, [], ◌∷◌, map, Some, None, Ok, Err, refl, sym, ap, subst}
use Rattle.dg_value.specs.declared.value.Value.{Value}
use Rattle.dg_eval.specs.Runs.{Asked, Run, gives, before, and_then, asking, both, all, in_order, outcome_of}

abbrev pub Grows : {A : Type 0} → Run A → Run A → Type 0
Grows None y = Unit {0}
Grows (Some r) y = y ≡ Some r

pub grows_same : {A : Type 0} (x : Run A) → Grows x x
grows_same None = tt
grows_same (Some r) = refl

pub grows_on : {A : Type 0} (x y z : Run A) → Grows x y → Grows y z → Grows x z
grows_on None y z g h = tt
grows_on {A} (Some r) y z g h =
    let P : Run A → Type 0 = λ u. Grows u z in subst P g h

-- where there is a result, it stays
pub stays : {A : Type 0} (x y : Run A) → Grows x y → x ≢ None → y ≡ x
stays None y g some = absurd (some refl)
stays (Some r) y g some = g

pub before_grows : {A : Type 0} (asked : List Asked) (x y : Run A) → Grows x y
    → Grows (before asked x) (before asked y)
before_grows asked None y g = tt
before_grows asked (Some (r, more)) y g = ap (before asked) g

pub then_grows : {A B : Type 0} (x y : Run A) (f g : A → Run B) → Grows x y
    → ((a : A) → Grows (f a) (g a)) → Grows (and_then x f) (and_then y g)
then_grows None y f g e h = tt
then_grows {A} {B} (Some (Ok a, asked)) y f g e h =
    let P : Run A → Type 0 = λ u. Grows (before asked (f a)) (and_then u g) in
    subst P (sym e) (before_grows asked (f a) (g a) (h a))
then_grows (Some (Err f', asked)) y f g e h = ap (λ u. and_then u g) e

pub asking_grows : {A : Type 0} (x : Asked) (r s : Run A) → Grows r s
    → Grows (asking x r) (asking x s)
asking_grows x None s g = tt
asking_grows x (Some (r, asked)) s g = ap (asking x) g

pub outcome_grows : (r s : Run Value) → Grows r s → Grows (outcome_of r) (outcome_of s)
outcome_grows None s g = tt
outcome_grows (Some (r, asked)) s g = ap outcome_of g

pub both_grows : {A : Type 0} (x y : Run A) (xs ys : Run (List A)) → Grows x y → Grows xs ys
    → Grows (both x xs) (both y ys)
both_grows None y xs ys e f = tt
both_grows (Some (a, asked)) y None ys e f = tt
both_grows (Some (a, asked)) y (Some (more, others)) ys e f = λ i. both (e i) (f i)

pub if_grows : {A : Type 0} (b : Bool) (x x' y y' : Run A) → Grows x y → Grows x' y'
    → Grows (cond b x x') (cond b y y')
if_grows true x x' y y' g h = g
if_grows false x x' y y' g h = h

pub all_grow : {A B : Type 0} (f g : A → Run B) (xs : List A) → ((a : A) → Grows (f a) (g a))
    → Grows (all (map f xs)) (all (map g xs))
all_grow f g [] h = refl
all_grow f g (x ∷ xs) h =
    both_grows (f x) (g x) (all (map f xs)) (all (map g xs)) (h x) (all_grow f g xs h)

-- two lists of runs, each of which grows into that of the other
abbrev pub AllGrow : {A : Type 0} → List (Run A) → List (Run A) → Type 0
AllGrow [] [] = Unit {0}
AllGrow (x ∷ xs) (y ∷ ys) = Grows x y × AllGrow xs ys
AllGrow xs ys = ⊥

pub map_grows : {A B : Type 0} (f g : A → Run B) (xs : List A) → ((a : A) → Grows (f a) (g a))
    → AllGrow (map f xs) (map g xs)
map_grows f g [] h = tt
map_grows f g (x ∷ xs) h = (h x, map_grows f g xs h)

pub in_order_grows : {A : Type 0} (xs ys : List (Run A)) → AllGrow xs ys
    → Grows (in_order xs) (in_order ys)
in_order_grows [] [] h = refl
in_order_grows [] (y ∷ ys) h = absurd h
in_order_grows (x ∷ xs) [] h = absurd h
in_order_grows (x ∷ xs) (y ∷ ys) h =
    then_grows x y (λ a. and_then (in_order xs) (λ more. gives (a ∷ more)))
    (λ a. and_then (in_order ys) (λ more. gives (a ∷ more))) h.0
    (λ a. then_grows (in_order xs) (in_order ys) (λ more. gives (a ∷ more))
    (λ more. gives (a ∷ more)) (in_order_grows xs ys h.1) (λ more. grows_same (gives (a ∷ more))))

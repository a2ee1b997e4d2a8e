-- A run is traced: where all that it asks for is allowed, a value that it gives has a property.
use Rattle.std.proofs.Common.{◌≡◌, Bool, true, false, cond, List, [], ◌∷◌, ◌++◌, map, Option, Some, None, Ok, Err, refl, ap, subst, ◌∙◌}
use Rattle.std.specs.Option.{option_map_or}
use Rattle.std.proofs.lemmas.Option.{none-some, same_Some}
use Rattle.dg_value.specs.declared.value.Value.{Value}
use Rattle.dg_value.specs.declared.value.Value.TheVariants as value
use Rattle.dg_value.specs.declared.value.Kept.TheVariants as kept
use Rattle.dg_value.specs.declared.value.Failure.{Failure}
use Rattle.dg_eval.specs.Runs.{Asked, Run, gives, asks_of, before, and_then, asking, both, all, in_order, outcome_of}
use Rattle.dg_eval.specs.Operations.{or_mistyped}
use Rattle.dg_eval.specs.Report.{value_of_run}
use Rattle.dg_eval.proofs.RunGrowth.{Grows}
use Rattle.dg_eval.proofs.RunResults.{Allowed, Gives, Each}
use Rattle.dg_eval.proofs.BodyResults.{Any}

each_left : {A : Type 0} (P : A → Type 0) (xs ys : List A) → Each P (xs ++ ys) → Each P xs
each_left P [] ys every = tt
each_left P (x ∷ xs) ys every = (every.0, each_left P xs ys every.1)

each_right : {A : Type 0} (P : A → Type 0) (xs ys : List A) → Each P (xs ++ ys) → Each P ys
each_right P [] ys every = every
each_right P (x ∷ xs) ys every = each_right P xs ys every.1

abbrev pub Traced : {A : Type 0} → Allowed → (A → Type 0) → Run A → Type 0
Traced R P None = Unit {0}
Traced R P (Some (Ok a, asked)) = Each R.ask asked → P a
Traced R P (Some (Err f, asked)) = Unit {0}

pub gives_traced : {A : Type 0} (R : Allowed) (P : A → Type 0) (x : Run A) → Gives R P x
    → Traced R P x
gives_traced R P None g = tt
gives_traced R P (Some (Ok a, asked)) g = λ every. g.0
gives_traced R P (Some (Err f, asked)) g = tt

pub any_traced : {A : Type 0} (R : Allowed) (x : Run A) → Traced R Any x
any_traced R None = tt
any_traced R (Some (Ok a, asked)) = λ every. tt
any_traced R (Some (Err f, asked)) = tt

-- the value of a traced run, where all that it asks for is allowed
pub value_traced : {A : Type 0} (R : Allowed) (P : A → Type 0) (x : Run A) (a : A) → Traced R P x
    → Each R.ask (asks_of x) → value_of_run x ≡ Some a → P a
value_traced R P None a g every e = absurd (none-some a e)
value_traced R P (Some (Ok b, asked)) a g every e = subst P (same_Some b a e) (g every)
value_traced R P (Some (Err f, asked)) a g every e = absurd (none-some a e)

before_traced : {A : Type 0} (R : Allowed) (P : A → Type 0) (asked : List Asked) (x : Run A)
    → (Each R.ask asked → Traced R P x) → Traced R P (before asked x)
before_traced R P asked None h = tt
before_traced R P asked (Some (Ok a, more)) h =
    λ every. h (each_left R.ask asked more every) (each_right R.ask asked more every)
before_traced R P asked (Some (Err f, more)) h = tt

pub then_traced : {A B : Type 0} (R : Allowed) (P : A → Type 0) (Q : B → Type 0) (x : Run A)
    → (f : A → Run B) → Traced R P x → ((a : A) → P a → Traced R Q (f a))
    → Traced R Q (and_then x f)
then_traced R P Q None f g h = tt
then_traced R P Q (Some (Ok a, asked)) f g h =
    before_traced R Q asked (f a) (λ every. h a (g every))
then_traced R P Q (Some (Err e, asked)) f g h = tt

-- what the run itself asks for is dropped: it is allowed where the one that is asked for is
pub asking_traced : {A : Type 0} (R : Allowed) (P : A → Type 0) (x : Asked) (r : Run A)
    → (R.ask x → Each R.ask (asks_of r)) → Traced R P r → Traced R P (asking x r)
asking_traced R P x None c g = tt
asking_traced R P x (Some (Ok a, asked)) c g = λ every. g (c every.0)
asking_traced R P x (Some (Err f, asked)) c g = tt

-- a value in the place of the one that a run gives
pub named_traced : {A B : Type 0} (R : Allowed) (P : B → Type 0) (x : Asked) (r : Run A) (b : B)
    → ((a : A) → value_of_run r ≡ Some a → R.ask x → P b)
    → Traced R P (asking x (and_then r (λ a. gives b)))
named_traced R P x None b h = tt
named_traced R P x (Some (Ok a, asked)) b h = λ every. h a refl every.0
named_traced R P x (Some (Err f, asked)) b h = tt

pub outcome_traced : (R : Allowed) (P Q : Value → Type 0) (r : Run Value) → Traced R P r
    → ((v : Value) → P v → Q (value.Outcome (kept.Value v)))
    → ((f : Failure) → Q (value.Outcome (kept.Failed f))) → Traced R Q (outcome_of r)
outcome_traced R P Q None g h e = tt
outcome_traced R P Q (Some (Ok a, asked)) g h e = λ every. h a (g every)
outcome_traced R P Q (Some (Err f, asked)) g h e = λ every. e f

pub if_traced : {A : Type 0} (R : Allowed) (P : A → Type 0) (b : Bool) (x y : Run A)
    → Traced R P x → Traced R P y → Traced R P (cond b x y)
if_traced R P true x y g h = g
if_traced R P false x y g h = h

pub or_traced : {A : Type 0} (R : Allowed) (P : A → Type 0) (o : Option A)
    → ((a : A) → o ≡ Some a → P a) → Traced R P (or_mistyped o)
or_traced R P None h = tt
or_traced R P (Some a) h = λ every. h a refl

pub option_traced : {A B : Type 0} (R : Allowed) (P : B → Type 0) (o : Option A) (f : A → Run B)
    → (r : Run B) → ((a : A) → o ≡ Some a → Traced R P (f a)) → Traced R P r
    → Traced R P (option_map_or f o r)
option_traced R P None f r h g = g
option_traced R P (Some a) f r h g = h a refl

both_traced : {A : Type 0} (R : Allowed) (P : A → Type 0) (x : Run A) (xs : Run (List A))
    → Traced R P x → Traced R (Each P) xs → Traced R (Each P) (both x xs)
both_traced R P None xs g h = tt
both_traced R P (Some (a, asked)) None g h = tt
both_traced R P (Some (Ok a, asked)) (Some (Ok more, others)) g h =
    λ every. (g (each_left R.ask asked others every), h (each_right R.ask asked others every))
both_traced R P (Some (Ok a, asked)) (Some (Err f, others)) g h = tt
both_traced R P (Some (Err f, asked)) (Some (more, others)) g h = tt

pub all_traced : {A B : Type 0} (R : Allowed) (P : B → Type 0) (f : A → Run B) (xs : List A)
    → ((a : A) → Traced R P (f a)) → Traced R (Each P) (all (map f xs))
all_traced R P f [] h = λ every. tt
all_traced R P f (x ∷ xs) h =
    both_traced R P (f x) (all (map f xs)) (h x) (all_traced R P f xs h)

pub in_order_traced : {A : Type 0} (R : Allowed) (P : A → Type 0) (xs : List (Run A))
    → Each (Traced R P) xs → Traced R (Each P) (in_order xs)
in_order_traced R P [] every = λ asked. tt
in_order_traced R P (x ∷ xs) every =
    then_traced R P (Each P) x _ every.0 (λ a good. then_traced R (Each P) (Each P) (in_order xs) _
    (in_order_traced R P xs every.1) (λ more goods asked. (good, goods)))

-- what a run asks for, where it grows into one of which all that it asks for is allowed
pub asks_before : {A : Type 0} (P : Asked → Type 0) (x y : Run A) → Grows x y
    → Each P (asks_of y) → Each P (asks_of x)
asks_before P None y g every = tt
asks_before {A} P (Some r) y g every =
    let Q : Run A → Type 0 = λ z. Each P (asks_of z) in subst Q g every

pub value_later : {A : Type 0} (x y : Run A) (a : A) → Grows x y → value_of_run x ≡ Some a
    → value_of_run y ≡ Some a
value_later None y a g e = absurd (none-some a e)
value_later (Some r) y a g e = ap value_of_run g ∙ e

-- A run gives: it has a result, a value that it gives has a property, and so has all that it asked
-- for.
use Rattle.std.proofs.Common.{◌≡◌, Bool, true, false, cond, List, [], ◌∷◌, ◌++◌, map, Contains, Option, Some, None, Ok, Err, refl}
use Rattle.dg_decl.proofs.MemberLemmas.{in_front}
use Rattle.dg_decl.proofs.NodeWalks.{in_rest}
use Rattle.dg_value.specs.declared.value.Value.{Value}
use Rattle.dg_value.specs.declared.value.Value.TheVariants as value
use Rattle.dg_value.specs.declared.value.Kept.TheVariants as kept
use Rattle.dg_value.specs.declared.value.Failure.{Failure}
use Rattle.dg_eval.specs.Named.{Named}
use Rattle.dg_eval.specs.Runs.{Asked, Run, before, and_then, asking, both, all, in_order, outcome_of}
use Rattle.dg_eval.specs.Operations.{or_mistyped}
use Rattle.dg_eval.specs.Report.{value_of_run}

-- each of a list
abbrev pub Each : {A : Type 0} → (A → Type 0) → List A → Type 0
Each P [] = Unit {0}
Each P (x ∷ xs) = P x × Each P xs

pub each_append : {A : Type 0} (P : A → Type 0) (xs ys : List A) → Each P xs → Each P ys
    → Each P (xs ++ ys)
each_append P [] ys all more = more
each_append P (x ∷ xs) ys all more = (all.0, each_append P xs ys all.1 more)

pub each_map : {A : Type 0} (P Q : A → Type 0) (xs : List A) → ((x : A) → P x → Q x) → Each P xs
    → Each Q xs
each_map P Q [] h all = tt
each_map P Q (x ∷ xs) h all = (h x all.0, each_map P Q xs h all.1)

-- what a value may name, and what may be asked for
pub record Allowed : Type 1 where
  pub name : Named → Type 0
  pub ask : Asked → Type 0

abbrev pub Gives : {A : Type 0} → Allowed → (A → Type 0) → Run A → Type 0
Gives R P None = ⊥
Gives R P (Some (Ok a, asked)) = P a × Each R.ask asked
Gives R P (Some (Err f, asked)) = Each R.ask asked

-- where more is allowed to be asked for
pub gives_wider : {A : Type 0} (R S : Allowed) (P Q : A → Type 0) (x : Run A)
    → ((a : A) → P a → Q a) → ((y : Asked) → R.ask y → S.ask y) → Gives R P x → Gives S Q x
gives_wider R S P Q None h w g = absurd g
gives_wider R S P Q (Some (Ok a, asked)) h w g = (h a g.0, each_map R.ask S.ask asked w g.1)
gives_wider R S P Q (Some (Err f, asked)) h w g = each_map R.ask S.ask asked w g

pub gives_more : {A : Type 0} (R : Allowed) (P Q : A → Type 0) (x : Run A)
    → ((a : A) → P a → Q a) → Gives R P x → Gives R Q x
gives_more R P Q x h g = gives_wider R R P Q x h (λ y a. a) g

pub before_gives : {A : Type 0} (R : Allowed) (P : A → Type 0) (asked : List Asked) (x : Run A)
    → Each R.ask asked → Gives R P x → Gives R P (before asked x)
before_gives R P asked None all g = absurd g
before_gives R P asked (Some (Ok a, more)) all g = (g.0, each_append R.ask asked more all g.1)
before_gives R P asked (Some (Err f, more)) all g = each_append R.ask asked more all g

pub then_gives : {A B : Type 0} (R : Allowed) (P : A → Type 0) (Q : B → Type 0) (x : Run A)
    → (f : A → Run B) → Gives R P x → ((a : A) → P a → Gives R Q (f a))
    → Gives R Q (and_then x f)
then_gives R P Q None f g h = absurd g
then_gives R P Q (Some (Ok a, asked)) f g h = before_gives R Q asked (f a) g.1 (h a g.0)
then_gives R P Q (Some (Err e, asked)) f g h = g

-- the same, where what follows knows of what the value is
pub then_gives_at : {A B : Type 0} (R : Allowed) (P : A → Type 0) (Q : B → Type 0) (x : Run A)
    → (f : A → Run B) → Gives R P x
    → ((a : A) → value_of_run x ≡ Some a → P a → Gives R Q (f a)) → Gives R Q (and_then x f)
then_gives_at R P Q None f g h = absurd g
then_gives_at R P Q (Some (Ok a, asked)) f g h =
    before_gives R Q asked (f a) g.1 (h a refl g.0)
then_gives_at R P Q (Some (Err e, asked)) f g h = g

-- what the run itself asked for is dropped
pub asking_gives : {A : Type 0} (R S : Allowed) (P : A → Type 0) (x : Asked) (r : Run A) → S.ask x
    → Gives R P r → Gives S P (asking x r)
asking_gives R S P x None a g = absurd g
asking_gives R S P x (Some (Ok v, asked)) a g = (g.0, (a, tt))
asking_gives R S P x (Some (Err f, asked)) a g = (a, tt)

pub outcome_gives : (R : Allowed) (P Q : Value → Type 0) (r : Run Value) → Gives R P r
    → ((v : Value) → P v → Q (value.Outcome (kept.Value v)))
    → ((f : Failure) → Q (value.Outcome (kept.Failed f))) → Gives R Q (outcome_of r)
outcome_gives R P Q None g h e = absurd g
outcome_gives R P Q (Some (Ok a, asked)) g h e = (h a g.0, g.1)
outcome_gives R P Q (Some (Err f, asked)) g h e = (e f, g)

pub if_gives : {A : Type 0} (R : Allowed) (P : A → Type 0) (b : Bool) (x y : Run A) → Gives R P x
    → Gives R P y → Gives R P (cond b x y)
if_gives R P true x y g h = g
if_gives R P false x y g h = h

pub or_gives : {A : Type 0} (R : Allowed) (P : A → Type 0) (o : Option A)
    → ((a : A) → o ≡ Some a → P a) → Gives R P (or_mistyped o)
or_gives R P None h = tt
or_gives R P (Some a) h = (h a refl, tt)

-- the values that some runs give, one for each of these, in order
abbrev pub Along : {A B : Type 0} → (A → B → Type 0) → List A → List B → Type 0
Along T [] [] = Unit {0}
Along T (x ∷ xs) (y ∷ ys) = T x y × Along T xs ys
Along T xs ys = ⊥

both_gives : {A B : Type 0} (R : Allowed) (T : A → B → Type 0) (a : A) (rest : List A) (x : Run B)
    → (xs : Run (List B)) → Gives R (T a) x → Gives R (Along T rest) xs
    → Gives R (Along T (a ∷ rest)) (both x xs)
both_gives R T a rest None xs g h = absurd g
both_gives R T a rest (Some (Ok b, asked)) None g h = absurd h
both_gives R T a rest (Some (Ok b, asked)) (Some (Ok bs, more)) g h =
    ((g.0, h.0), each_append R.ask asked more g.1 h.1)
both_gives R T a rest (Some (Ok b, asked)) (Some (Err f, more)) g h =
    each_append R.ask asked more g.1 h
both_gives R T a rest (Some (Err f, asked)) None g h = absurd h
both_gives R T a rest (Some (Err f, asked)) (Some (Ok bs, more)) g h =
    each_append R.ask asked more g h.1
both_gives R T a rest (Some (Err f, asked)) (Some (Err e, more)) g h =
    each_append R.ask asked more g h

pub all_give : {A B : Type 0} (R : Allowed) (T : A → B → Type 0) (f : A → Run B) (xs : List A)
    → ((a : A) → Contains xs a → Gives R (T a) (f a)) → Gives R (Along T xs) (all (map f xs))
all_give R T f [] h = (tt, tt)
all_give R T f (x ∷ xs) h =
    both_gives R T x xs (f x) (all (map f xs)) (h x (in_front x xs))
    (all_give R T f xs (λ a c. h a (in_rest a x xs c)))

pub in_order_give : {A : Type 0} (R : Allowed) (P : A → Type 0) (xs : List (Run A))
    → Each (Gives R P) xs → Gives R (Each P) (in_order xs)
in_order_give R P [] all = (tt, tt)
in_order_give {A} R P (x ∷ xs) all =
    then_gives R P (Each P) x _ all.0 (λ a good. then_gives R (Each P) (Each P) (in_order xs) _
    (in_order_give R P xs all.1) (λ more goods. ((good, goods), tt)))

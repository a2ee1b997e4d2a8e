-- What runs come to one behind the other, and the steps of an ask's path.
use Rattle.std.proofs.Common.{◌≡◌, ℕ, suc, ◌+◌, Bool, true, false, List, [], ◌∷◌, ◌++◌, length, Some, None, option_and_then, Ok, Err, refl, sym, ap, subst, ◌∙◌, arith}
use Rattle.std.proofs.lemmas.Bool.{false≢true}
use Rattle.std.proofs.lemmas.Option.{same_Some}
use Rattle.dg_decl.specs.declared.document.Doc.{Doc}
use Rattle.dg_decl.proofs.MemberLemmas.{out_and_then}
use Rattle.dg_slots.specs.declared.session.PathStep.{PathStep}
use Rattle.dg_value.specs.declared.place.Place.{Place}
use Rattle.dg_value.specs.declared.place.PlaceStep.TheVariants as step
use Rattle.dg_value.specs.declared.value.Value.{Value}
use Rattle.dg_value.specs.Places.{then_step}
use Rattle.dg_eval.specs.Runs.{Asked, Run, before, and_then}
use Rattle.dg_eval.specs.Meaning.{look, eval, enough}
use Rattle.dg_eval.specs.Asks.{Reached, value_there, not_there, goes_on, stepped, followed}
use Rattle.dg_eval.specs.Report.{value_of_run}

before_value : {A : Type 0} (asked : List Asked) (x : Run A)
    → value_of_run (before asked x) ≡ value_of_run x
before_value asked None = refl
before_value asked (Some (Ok a, more)) = refl
before_value asked (Some (Err f, more)) = refl

then_value : {A B : Type 0} (x : Run A) (f : A → Run B)
    → value_of_run (and_then x f) ≡ option_and_then (λ a. value_of_run (f a)) (value_of_run x)
then_value None f = refl
then_value (Some (Ok a, asked)) f = before_value asked (f a)
then_value (Some (Err e, asked)) f = refl

pub then_comes : {A B : Type 0} (x : Run A) (f : A → Run B) (a : A) (b : B)
    → value_of_run x ≡ Some a → value_of_run (f a) ≡ Some b
    → value_of_run (and_then x f) ≡ Some b
then_comes x f a b first next =
    then_value x f ∙ (ap (option_and_then (λ a. value_of_run (f a))) first ∙ next)

out_then : {A B : Type 0} (x : Run A) (f : A → Run B) (b : B)
    → value_of_run (and_then x f) ≡ Some b
    → (a : A) × (value_of_run x ≡ Some a) × (value_of_run (f a) ≡ Some b)
out_then x f b e =
    out_and_then (λ a. value_of_run (f a)) (value_of_run x) b (sym (then_value x f) ∙ e)

abbrev is_value_there : Reached → Bool
is_value_there (value_there v) = true
is_value_there not_there = false

abbrev there_or : Value → Reached → Value
there_or other (value_there v) = v
there_or other not_there = other

out_goes : (next : Value → Run Reached) (r : Reached) (u : Value)
    → value_of_run (goes_on next r) ≡ Some (value_there u)
    → (v : Value) × (r ≡ value_there v) × (value_of_run (next v) ≡ Some (value_there u))
out_goes next (value_there v) u e = (v, refl, e)
out_goes next not_there u e =
    absurd (false≢true (ap is_value_there (same_Some not_there (value_there u) e)))

-- one step more
pub followed_more : (doc : Doc) (q : Place) (ys : List PathStep) (k n : ℕ) (x : PathStep)
    → (v u w z : Value) → k + length ys ≡ n
    → value_of_run (followed doc q k ys v) ≡ Some (value_there u)
    → value_of_run (look (eval doc enough) enough u) ≡ Some w
    → value_of_run (stepped doc (then_step q (step.Step n)) x w) ≡ Some (value_there z)
    → value_of_run (followed doc q k (ys ++ x ∷ []) v) ≡ Some (value_there z)
followed_more doc q [] k n x v u w z count came looked moved =
    let same : u ≡ v = ap (there_or v) (same_Some (value_there u) (value_there v) (sym came)) in
    let number : n ≡ k = omega (arith, count) in
    let P : Value → Type 0 = λ v. value_of_run (look (eval doc enough) enough v) ≡ Some w in
    let Q : ℕ → Type 0 = λ n. value_of_run (stepped doc (then_step q (step.Step n)) x w)
    ≡ Some (value_there z) in
    then_comes (look (eval doc enough) enough v) _ w (value_there z) (subst P same looked)
    (then_comes (stepped doc (then_step q (step.Step k)) x w) (goes_on (followed doc q (suc k) []))
    (value_there z) (value_there z) (subst Q number moved) refl)
followed_more doc q (y ∷ ys) k n x v u w z count came looked moved =
    let a = out_then (look (eval doc enough) enough v) _ (value_there u) came in
    let b = out_then (stepped doc (then_step q (step.Step k)) y a.0)
    (goes_on (followed doc q (suc k) ys)) (value_there u) a.2 in
    let c = out_goes (followed doc q (suc k) ys) b.0 u b.2 in
    let rest = followed_more doc q ys (suc k) n x c.0 u w z (omega (arith, count)) c.2 looked moved
    in
    then_comes (look (eval doc enough) enough v) _ a.0 (value_there z) a.1
    (then_comes (stepped doc (then_step q (step.Step k)) y a.0)
    (goes_on (followed doc q (suc k) (ys ++ x ∷ []))) b.0 (value_there z) b.1
    (ap (λ r. value_of_run (goes_on (followed doc q (suc k) (ys ++ x ∷ [])) r)) c.1 ∙ rest))

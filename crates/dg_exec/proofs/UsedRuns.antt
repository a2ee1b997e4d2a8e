-- A run keeps to what is allowed: where it has a result, a value that it gives has a property, and
-- so has all that it asked for.
use Rattle.std.proofs.Common.{◌≡◌, ℕ, Bool, true, false, cond, List, [], ◌∷◌, map, Contains, Option, Some, None, option_and_then, suc, Ok, Err, refl, sym, subst}
use Rattle.std.specs.Option.{option_map_or}
use Rattle.std.proofs.lemmas.Option.{none-some, same_Some}
use Rattle.dg_types.specs.declared.key.Core.{Core}
use Rattle.dg_types.specs.declared.key.Core.TheVariants as core
use Rattle.dg_types.specs.declared.key.Inner.{Inner}
use Rattle.dg_types.specs.declared.key.Inner.TheVariants as inner
use Rattle.dg_types.specs.declared.key.Key.{Key}
use Rattle.dg_types.specs.declared.key.MapKeyVal.{MapKeyVal}
use Rattle.dg_decl.specs.declared.document.Doc.{Doc}
use Rattle.dg_decl.specs.Lookup.{contributions}
use Rattle.dg_decl.specs.Stages.Bindings.{map_keys_of}
use Rattle.dg_decl.proofs.MemberLemmas.{in_front, out_option_map, out_and_then}
use Rattle.dg_decl.proofs.NodeWalks.{in_rest}
use Rattle.dg_slots.specs.Numbered.{number_of_class_item}
use Rattle.dg_slots.specs.Plans.{gives_elements}
use Rattle.dg_slots.specs.declared.body.NTree.{NTree}
use Rattle.dg_value.specs.declared.place.Place.{Place}
use Rattle.dg_value.specs.declared.place.PlaceStep.TheVariants as step
use Rattle.dg_value.specs.declared.value.Value.{Value, out-Value}
use Rattle.dg_value.specs.declared.value.Value.TheVariants as value
use Rattle.dg_value.specs.declared.value.Kept.TheOpen.{Value-F}
use Rattle.dg_value.specs.declared.value.Kept.TheVariants as kept
use Rattle.dg_value.specs.declared.value.Failure.{Failure}
use Rattle.dg_value.specs.Places.{then_step}
use Rattle.dg_value.specs.Same.{Layer}
use Rattle.dg_eval.specs.Runs.{Asked, Run, gives, before, and_then, asking, both, all, outcome_of, mistyped}
use Rattle.dg_eval.specs.Operations.{or_mistyped, elements_at, elements_in, kept_in, value_if}
use Rattle.dg_eval.specs.Bodies.{End, Around, set_of, tree_part}
use Rattle.dg_eval.specs.Meaning.{Eval, look, object_of, outcomes_in, added_by, added_by_all, set_of_added, pairs, multi_of, optional_of}
use Rattle.dg_eval.specs.Report.{value_of_run}
use Rattle.dg_eval.proofs.RunGrowth.{Grows}
use Rattle.dg_eval.proofs.BodyGrowth.{Seen, from, tree_grows, set_grows}
use Rattle.dg_eval.proofs.RunResults.{Each, each_append, Allowed, Gives, Along, or_gives}
use Rattle.dg_eval.proofs.ValueLemmas.{AllIn, InEntry, InLayer, layer_of, in_object, in_set, in_map, in_none, in_some, in_good}
use Rattle.dg_eval.proofs.BodyResults.{AtEnd, Callable, kept_in_good, value_of_good, set_gives, tree_total}
use Rattle.dg_exec.proofs.UsedTyping.{hidden, Same}

abbrev pub Keeps : {A : Type 0} → Allowed → (A → Type 0) → Run A → Type 0
Keeps R P None = Unit {0}
Keeps R P (Some (Ok a, asked)) = P a × Each R.ask asked
Keeps R P (Some (Err f, asked)) = Each R.ask asked

pub given_keeps : {A : Type 0} (R : Allowed) (P : A → Type 0) (x : Run A) → Gives R P x
    → Keeps R P x
given_keeps R P None g = tt
given_keeps R P (Some (Ok a, asked)) g = g
given_keeps R P (Some (Err f, asked)) g = g

pub more_keeps : {A : Type 0} (R : Allowed) (P Q : A → Type 0) (x : Run A)
    → ((a : A) → P a → Q a) → Keeps R P x → Keeps R Q x
more_keeps R P Q None h g = tt
more_keeps R P Q (Some (Ok a, asked)) h g = (h a g.0, g.1)
more_keeps R P Q (Some (Err f, asked)) h g = g

pub before_keeps : {A : Type 0} (R : Allowed) (P : A → Type 0) (asked : List Asked) (x : Run A)
    → Each R.ask asked → Keeps R P x → Keeps R P (before asked x)
before_keeps R P asked None every g = tt
before_keeps R P asked (Some (Ok a, more)) every g =
    (g.0, each_append R.ask asked more every g.1)
before_keeps R P asked (Some (Err f, more)) every g = each_append R.ask asked more every g

-- what follows knows what the value is
pub then_keeps_at : {A B : Type 0} (R : Allowed) (P : A → Type 0) (Q : B → Type 0) (x : Run A)
    → (f : A → Run B) → Keeps R P x
    → ((a : A) → value_of_run x ≡ Some a → P a → Keeps R Q (f a)) → Keeps R Q (and_then x f)
then_keeps_at R P Q None f g h = tt
then_keeps_at R P Q (Some (Ok a, asked)) f g h =
    before_keeps R Q asked (f a) g.1 (h a refl g.0)
then_keeps_at R P Q (Some (Err e, asked)) f g h = g

pub then_keeps : {A B : Type 0} (R : Allowed) (P : A → Type 0) (Q : B → Type 0) (x : Run A)
    → (f : A → Run B) → Keeps R P x → ((a : A) → P a → Keeps R Q (f a))
    → Keeps R Q (and_then x f)
then_keeps R P Q x f g h = then_keeps_at R P Q x f g (λ a e p. h a p)

-- what the run itself asked for is dropped
pub asking_keeps : {A : Type 0} (R : Allowed) (P : A → Type 0) (x : Asked) (r : Run A) → R.ask x
    → Keeps R P r → Keeps R P (asking x r)
asking_keeps R P x None a g = tt
asking_keeps R P x (Some (Ok v, asked)) a g = (g.0, (a, tt))
asking_keeps R P x (Some (Err f, asked)) a g = (a, tt)

pub outcome_keeps : (R : Allowed) (P Q : Value → Type 0) (r : Run Value) → Keeps R P r
    → ((v : Value) → P v → Q (value.Outcome (kept.Value v)))
    → ((f : Failure) → Q (value.Outcome (kept.Failed f))) → Keeps R Q (outcome_of r)
outcome_keeps R P Q None g h e = tt
outcome_keeps R P Q (Some (Ok a, asked)) g h e = (h a g.0, g.1)
outcome_keeps R P Q (Some (Err f, asked)) g h e = (e f, g)

pub test_keeps : {A : Type 0} (R : Allowed) (P : A → Type 0) (b : Bool) (x y : Run A)
    → (b ≡ true → Keeps R P x) → (b ≡ false → Keeps R P y) → Keeps R P (cond b x y)
test_keeps R P true x y g h = g refl
test_keeps R P false x y g h = h refl

pub option_keeps : {A B : Type 0} (R : Allowed) (P : B → Type 0) (o : Option A) (f : A → Run B)
    → (r : Run B) → ((a : A) → o ≡ Some a → Keeps R P (f a)) → Keeps R P r
    → Keeps R P (option_map_or f o r)
option_keeps R P None f r h g = g
option_keeps R P (Some a) f r h g = h a refl

pub or_keeps : {A : Type 0} (R : Allowed) (P : A → Type 0) (o : Option A)
    → ((a : A) → o ≡ Some a → P a) → Keeps R P (or_mistyped o)
or_keeps R P o h = given_keeps R P (or_mistyped o) (or_gives R P o h)

both_keep : {A B : Type 0} (R : Allowed) (T : A → B → Type 0) (a : A) (rest : List A) (x : Run B)
    → (xs : Run (List B)) → Keeps R (T a) x → Keeps R (Along T rest) xs
    → Keeps R (Along T (a ∷ rest)) (both x xs)
both_keep R T a rest None xs g h = tt
both_keep R T a rest (Some (Ok b, asked)) None g h = tt
both_keep R T a rest (Some (Ok b, asked)) (Some (Ok bs, more)) g h =
    ((g.0, h.0), each_append R.ask asked more g.1 h.1)
both_keep R T a rest (Some (Ok b, asked)) (Some (Err f, more)) g h =
    each_append R.ask asked more g.1 h
both_keep R T a rest (Some (Err f, asked)) None g h = tt
both_keep R T a rest (Some (Err f, asked)) (Some (Ok bs, more)) g h =
    each_append R.ask asked more g h.1
both_keep R T a rest (Some (Err f, asked)) (Some (Err e, more)) g h =
    each_append R.ask asked more g h

pub all_keep : {A B : Type 0} (R : Allowed) (T : A → B → Type 0) (f : A → Run B) (xs : List A)
    → ((a : A) → Contains xs a → Keeps R (T a) (f a)) → Keeps R (Along T xs) (all (map f xs))
all_keep R T f [] h = (tt, tt)
all_keep R T f (x ∷ xs) h =
    both_keep R T x xs (f x) (all (map f xs)) (h x (in_front x xs))
    (all_keep R T f xs (λ a c. h a (in_rest a x xs c)))

-- ---- over runs that always have a result

-- a run, or a failure where it has no result
abbrev filled : {A : Type 0} → Run A → Run A
filled None = mistyped
filled (Some r) = Some r

filled_gives : {A : Type 0} (R : Allowed) (P : A → Type 0) (x : Run A) → Keeps R P x
    → Gives R P (filled x)
filled_gives R P None g = tt
filled_gives R P (Some (Ok a, asked)) g = g
filled_gives R P (Some (Err f, asked)) g = g

filled_grows : {A : Type 0} (x : Run A) → Grows x (filled x)
filled_grows None = tt
filled_grows (Some r) = refl

keeps_by : {A : Type 0} (R : Allowed) (P : A → Type 0) (x y : Run A) → Grows x y → Gives R P y
    → Keeps R P x
keeps_by R P None y e g = tt
keeps_by {A} R P (Some r) y e g =
    let Q : Run A → Type 0 = λ z. Gives R P z in
    given_keeps R P (Some r) (subst Q e g)

abbrev pub LooksKeep : Allowed → (Value → Run Value) → Type 0
LooksKeep R look = (v : Value) → AllIn R v → Keeps R (AllIn R) (look v)

pub set_keeps : (R : Allowed) (look : Value → Run Value) → LooksKeep R look
    → (vs : List Value) → Each (AllIn R) vs → Keeps R (AllIn R) (set_of look vs)
set_keeps R look h vs every =
    keeps_by R (AllIn R) (set_of look vs) (set_of (λ v. filled (look v)) vs)
    (set_grows look (λ v. filled (look v)) (λ v. filled_grows (look v)) vs)
    (set_gives R (λ v. filled (look v)) (λ v good. filled_gives R (AllIn R) (look v) (h v good)) vs
    every)

-- ---- bodies

-- what a body sees of its parameters and of values is allowed, and what it awaits
pub record SeesKept (R : Allowed) (C : ℕ → ℕ → Type 0) (h : ℕ → Bool) (s : Around) : Type 0 where
  pub param : (p : ℕ) → h p ≡ false → Keeps R (AllIn R) (s.param p)
  pub got : (p : ℕ) (q : Place) → h p ≡ false → Keeps R (AllIn R) (s.got p q)
  pub awaited : (p : ℕ) (q : Place) → Keeps R (AtEnd R C) (s.awaited p q)
  pub look : LooksKeep R s.look

abbrev seen_of : Around → Seen
seen_of s = record { param = s.param; got = s.got; awaited = s.awaited; look = s.look }

abbrev filled_of : Around → Seen
filled_of s = record {
  param = λ p. filled (s.param p);
  got = λ p q. filled (s.got p q);
  awaited = λ p q. filled (s.awaited p q);
  look = λ v. filled (s.look v);
}

hidden_keeps : (R : Allowed) (b : Bool) (x : Run Value) → (b ≡ false → Keeps R (AllIn R) x)
    → Keeps R (AllIn R) (cond b mistyped x)
hidden_keeps R true x h = tt
hidden_keeps R false x h = h refl

all_callable : (R : Allowed) (C : ℕ → ℕ → Type 0) (s : Around)
    → ((p : ℕ) (q : Place) → Gives R (AllIn R) (s.got p q))
    → ((p : ℕ) (q : Place) → Gives R (AtEnd R C) (s.awaited p q)) → (c : ℕ) (ps : List ℕ)
    → Callable R C s c ps
all_callable R C s got awaited c [] = tt
all_callable R C s got awaited c (p ∷ ps) =
    (got p _, awaited p _, all_callable R C s got awaited (suc c) ps)

pub body_keeps : (R : Allowed) (C : ℕ → ℕ → Type 0) (h : ℕ → Bool) (t : NTree) (s : Around)
    → Same h (tree_part t) → SeesKept R C h s → Keeps R (AtEnd R C) ((tree_part t).run s 0 0)
body_keeps R C h t s same sees =
    let grows : Grows ((tree_part t).run (hidden h s) 0 0)
    ((tree_part t).run (from s.origin s.place (filled_of (hidden h s))) 0 0) =
    tree_grows t s.origin s.place (seen_of (hidden h s)) (filled_of (hidden h s)) (record {
      param = λ p. filled_grows ((hidden h s).param p);
      got = λ p q. filled_grows ((hidden h s).got p q);
      awaited = λ p q. filled_grows ((hidden h s).awaited p q);
      look = λ v. filled_grows ((hidden h s).look v);
    }) 0 0 in
    let total : Gives R (AtEnd R C)
    ((tree_part t).run (from s.origin s.place (filled_of (hidden h s))) 0 0) =
    tree_total R C t (from s.origin s.place (filled_of (hidden h s))) (record {
      param = λ p. filled_gives R (AllIn R) ((hidden h s).param p)
          (hidden_keeps R (h p) (s.param p) (sees.param p));
      look = λ v good. filled_gives R (AllIn R) (s.look v) (sees.look v good);
    }) 0 0 (all_callable R C (from s.origin s.place (filled_of (hidden h s)))
    (λ p q. filled_gives R (AllIn R) ((hidden h s).got p q)
    (hidden_keeps R (h p) (s.got p q) (sees.got p q)))
    (λ p q. filled_gives R (AtEnd R C) (s.awaited p q) (sees.awaited p q)) 0
    (tree_part t).called) in
    let P : Run End → Type 0 = λ r. Keeps R (AtEnd R C) r in
    subst P (sym (same s 0 0))
    (keeps_by R (AtEnd R C) ((tree_part t).run (hidden h s) 0 0) _ grows total)

-- ---- sets and maps

elements_good : (R : Allowed) (l : Layer) (vs : List Value) → InLayer R l
    → elements_at l ≡ Some vs → Each (AllIn R) vs
elements_good R (Value-F.Set ws) vs every e = subst (Each (AllIn R)) (same_Some ws vs e) every
elements_good R other vs every e = absurd (none-some vs e)

elements_keep : (R : Allowed) (v : Value) → AllIn R v
    → Keeps R (Each (AllIn R)) (elements_in v)
elements_keep R v good =
    or_keeps R (Each (AllIn R)) (elements_at (out-Value v))
    (λ vs e. elements_good R (out-Value v) vs (layer_of R v good) e)

all_outcomes : (R : Allowed) (vs : List Value) → Each (AllIn R) vs
    → Each (AllIn R) (map (λ x. value.Outcome (kept.Value x)) vs)
all_outcomes R [] every = tt
all_outcomes R (v ∷ vs) every = (in_good R v every.0, all_outcomes R vs every.1)

outcomes_keep : (R : Allowed) (look : Value → Run Value) → LooksKeep R look → (v : Value)
    → AllIn R v → Keeps R (Each (AllIn R)) (outcomes_in look v)
outcomes_keep R look h v good =
    option_keeps R (Each (AllIn R)) (option_and_then value_if (kept_in v)) _ (gives (v ∷ []))
    (λ set e. (let o = out_and_then value_if (kept_in v) set e in
    then_keeps R (AllIn R) (Each (AllIn R)) (look set) _
    (h set (value_of_good R o.0 set (kept_in_good R v o.0 good o.1) o.2))
    (λ w gw. then_keeps R (Each (AllIn R)) (Each (AllIn R)) (elements_in w) _
    (elements_keep R w gw) (λ vs every. (all_outcomes R vs every, tt))))) ((good, tt), tt)

members_keep : (R : Allowed) (look : Value → Run Value) → LooksKeep R look → (v : Value)
    → AllIn R v → Keeps R (Each (AllIn R)) (and_then (look v) elements_in)
members_keep R look h v good =
    then_keeps R (AllIn R) (Each (AllIn R)) (look v) elements_in (h v good)
    (λ w gw. elements_keep R w gw)

added_keeps : (R : Allowed) (form : Inner) (look : Value → Run Value) → LooksKeep R look
    → (b : Bool) (v : Value) → AllIn R v → Keeps R (Each (AllIn R)) (added_by form look b v)
added_keeps R inner.Produced look h true v good = outcomes_keep R look h v good
added_keeps R inner.Produced look h false v good = ((good, tt), tt)
added_keeps R form look h true v good = members_keep R look h v good
added_keeps R form look h false v good = ((good, tt), tt)

all_added_keep : (R : Allowed) (form : Inner) (look : Value → Run Value) → LooksKeep R look
    → (bs : List Bool) (vs : List Value) → Each (AllIn R) vs
    → Keeps R (Each (AllIn R)) (added_by_all form look bs vs)
all_added_keep R form look h [] vs every = (tt, tt)
all_added_keep R form look h (b ∷ bs) [] every = (tt, tt)
all_added_keep R form look h (b ∷ bs) (v ∷ vs) every =
    then_keeps R (Each (AllIn R)) (Each (AllIn R)) (added_by form look b v) _
    (added_keeps R form look h b v every.0)
    (λ xs good. then_keeps R (Each (AllIn R)) (Each (AllIn R)) (added_by_all form look bs vs) _
    (all_added_keep R form look h bs vs every.1)
    (λ more goods. (each_append (AllIn R) xs more good goods, tt)))

set_added_keeps : (R : Allowed) (form : Inner) (look : Value → Run Value) → LooksKeep R look
    → (vs : List Value) → Each (AllIn R) vs → Keeps R (AllIn R) (set_of_added form look vs)
set_added_keeps R inner.Produced look h vs every = (in_set R vs every, tt)
set_added_keeps R form look h vs every = set_keeps R look h vs every

pairs_good : (R : Allowed) (ks : List MapKeyVal) (vs : List Value) → Each (AllIn R) vs
    → Each (InEntry (AllIn R)) (pairs ks vs)
pairs_good R [] vs every = tt
pairs_good R (k ∷ ks) [] every = tt
pairs_good R (k ∷ ks) (v ∷ vs) every = (every.0, pairs_good R ks vs every.1)

pub multi_keeps : (R : Allowed) (doc : Doc) (f : Eval) (d : ℕ) → LooksKeep R (look f d)
    → (class : ℕ) (key : Key) (c : Core) (vs : List Value) → Each (AllIn R) vs
    → Keeps R (AllIn R) (multi_of doc f d class key c vs)
multi_keeps R doc f d h class key (core.Set b form) vs every =
    then_keeps R (Each (AllIn R)) (AllIn R)
    (added_by_all form (look f d) (map (gives_elements doc) (contributions doc class key)) vs) _
    (all_added_keep R form (look f d) h
    (map (gives_elements doc) (contributions doc class key)) vs every)
    (λ xs good. set_added_keeps R form (look f d) h xs good)
multi_keeps R doc f d h class key (core.Map m b form) vs every = (
  in_map R (pairs (map_keys_of doc class key) vs)
      (pairs_good R (map_keys_of doc class key) vs every),
  tt,
)
multi_keeps R doc f d h class key other vs every = tt

pub optional_keeps : (R : Allowed) (vs : List Value) → Each (AllIn R) vs
    → Keeps R (AllIn R) (optional_of vs)
optional_keeps R [] every = (in_none R, tt)
optional_keeps R (v ∷ vs) every = (in_some R v every.0, tt)

pub object_keeps : (R : Allowed) (doc : Doc) (c : ℕ) (q : Place) (vs : List Value)
    → Each (AllIn R) vs → Keeps R (AllIn R) (object_of doc c q vs)
object_keeps R doc c q vs every =
    or_keeps R (AllIn R) _
    (λ v e. (let o = out_option_map (λ class. value.Object class (then_step q (step.New 1)) vs)
    (number_of_class_item doc c) v e in
    subst (AllIn R) o.2 (in_object R o.0 (then_step q (step.New 1)) vs every)))

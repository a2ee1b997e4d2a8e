-- A run that is another one and what goes on with its result.
use Rattle.std.proofs.Common.{◌≡◌, Bool, true, false, cond, List, [], Option, Some, Result, Ok, Err, refl, sym, ap, subst}
use Rattle.std.specs.Result.{OnOk}
use Rattle.dg_eval.specs.Runs.{Asked, Run, gives, and_then}
use Rattle.dg_types.specs.declared.memory.NoMemory.{NoMemory}
use Rattle.dg_value.specs.declared.value.Value.{Value}
use Rattle.dg_bodies.specs.Made.{pair_with, when_counted}
use Rattle.dg_requests.specs.declared.stop.Stop.{Stop}
use Rattle.dg_requests.specs.declared.stop.Stop.TheVariants as stop
use Rattle.dg_requests.specs.Scopes.{Scope}
use Rattle.dg_requests.specs.Results.{CanRun, Ran}
use Rattle.dg_requests.proofs.RanLemmas.{can_as, can_first, can_rest, ran_as, ran_stops, ran_then, ran_plain, ran_nothing}
use Rattle.dg_bodies.proofs.RunLists.{stops_as, then_gives}

pub can_begin : {A B : Type 0} (s : Scope) (whole : Run B) (r : Run A) (next : A → Run B)
    → whole ≡ and_then r next → CanRun s whole → CanRun s r
can_begin s whole r next is h = can_first s r next (can_as s whole (and_then r next) is h)

pub can_go_on : {A B : Type 0} (s : Scope) (whole : Run B) (r : Run A) (next : A → Run B) (a : A)
    (x y : Option (List Asked)) → whole ≡ and_then r next → CanRun s whole
    → Ran s r x y (Ok a) → CanRun s (next a)
can_go_on s whole r next a x y is h ran =
    can_rest s r next a (can_as s whole (and_then r next) is h) ran.gave

pub stops : {A B : Type 0} (s : Scope) (whole : Run B) (r : Run A) (next : A → Run B)
    (x y : Option (List Asked)) (e d : Stop) (result : Result B Stop) → whole ≡ and_then r next
    → CanRun s whole → Ran s r x y (Err e) → result ≡ Err d → d ≡ e → Ran s whole x y result
stops s whole r next x y e d result is h ran gives same =
    stops_as s whole x y e d result gives same
    (ran_as s (and_then r next) whole x y (Err e) (sym is)
    (ran_stops s r next e x y (can_as s whole (and_then r next) is h) ran))

pub goes_on : {A B : Type 0} (s : Scope) (whole : Run B) (r : Run A) (next : A → Run B) (a : A)
    (x y z : Option (List Asked)) (result : Result B Stop) → whole ≡ and_then r next
    → CanRun s whole → Ran s r x y (Ok a) → Ran s (next a) y z result → Ran s whole x z result
goes_on s whole r next a x y z result is h ran rest =
    ran_as s (and_then r next) whole x z result (sym is)
    (ran_then s r next a x y z result (can_as s whole (and_then r next) is h) ran rest)

-- memory lacks after the first
pub lacks : {A B : Type 0} (s : Scope) (whole : Run B) (r : Run A) (next : A → Run B) (a : A)
    (x y : Option (List Asked)) (d : Stop) (result : Result B Stop) → whole ≡ and_then r next
    → CanRun s whole → Ran s r x y (Ok a) → result ≡ Err d → d ≡ stop.NoMemory
    → Ran s whole x y result
lacks s whole r next a x y d result is h ran gives same =
    stops_as s whole x y stop.NoMemory d result gives same
    (goes_on s whole r next a x y y (Err stop.NoMemory) is h ran (ran_nothing s (next a) y))

-- memory lacks before anything was asked for
pub lacks_first : {A : Type 0} (s : Scope) (whole : Run A) (x : Option (List Asked)) (d : Stop)
    (result : Result A Stop) → result ≡ Err d → d ≡ stop.NoMemory → Ran s whole x x result
lacks_first s whole x d result gives same =
    stops_as s whole x x stop.NoMemory d result gives same (ran_nothing s whole x)

-- memory lacks after all was made
pub lacks_last : {A : Type 0} (s : Scope) (whole : Run A) (a : A) (x y : Option (List Asked))
    (d : Stop) (result : Result A Stop) → CanRun s whole → Ran s whole x y (Ok a)
    → result ≡ Err d → d ≡ stop.NoMemory → Ran s whole x y result
lacks_last s whole a x y d result h ran gives same =
    (let e : whole ≡ and_then whole (λ a. Some (Ok a, [])) = sym (then_gives whole) in
    lacks s whole whole (λ a. Some (Ok a, [])) a x y d result e h ran gives same)

-- what holds whatever the result is
pub on_ok : {A : Type 0} (r : Result A Stop) (P : Type 0) → P → OnOk r P
on_ok (Ok a) P h = h
on_ok (Err e) P h = tt

-- what is handed on in a value of its own
as_given : {A : Type 0} (s : Scope) (r : Run A) (x y : Option (List Asked))
    → (given result : Result A Stop) → result ≡ given → Ran s r x y given → Ran s r x y result
as_given {A} s r x y given result e h =
    subst (λ (u : Result A Stop). Ran s r x y u) (sym e) h

-- what goes on to a pair
abbrev pub pairing : Run Value → Value → Run (Value × Value)
pairing r v = and_then r (λ w. gives (v, w))

pub ran_paired : (s : Scope) (r : Run Value) (v : Value) (x y : Option (List Asked))
    → (second : Result Value Stop) (result : Result (Value × Value) Stop)
    → CanRun s (pairing r v) → Ran s r x y second → result ≡ pair_with v second
    → Ran s (pairing r v) x y result
ran_paired s r v x y (Ok w) result can ran is =
    let next : Value → Run (Value × Value) = λ w. gives (v, w) in
    as_given s (pairing r v) x y (Ok (v, w)) result is
    (ran_then s r next w x y y (Ok (v, w)) can ran (ran_plain s (next w) y (Ok (v, w)) refl refl))
ran_paired s r v x y (Err e) result can ran is =
    let next : Value → Run (Value × Value) = λ w. gives (v, w) in
    as_given s (pairing r v) x y (Err e) result is (ran_stops s r next e x y can ran)

pub on_paired : (v : Value) (second : Result Value Stop) (result : Result (Value × Value) Stop)
    → (P : Type 0) → OnOk second P → result ≡ pair_with v second → OnOk result P
on_paired v (Ok w) result P h is =
    subst (λ (u : Result (Value × Value) Stop). OnOk u P) (sym is) h
on_paired v (Err e) result P h is =
    subst (λ (u : Result (Value × Value) Stop). OnOk u P) (sym is) tt

pub ran_passed : {A : Type 0} (s : Scope) (r : Run A) (a : A) (x y : Option (List Asked))
    → (counted : Result (Unit {0}) NoMemory) (result : Result A Stop) → CanRun s r
    → Ran s r x y (Ok a) → result ≡ when_counted a counted → Ran s r x y result
ran_passed s r a x y (Ok u) result can ran is = as_given s r x y (Ok a) result is ran
ran_passed s r a x y (Err e) result can ran is =
    lacks_last s r a x y stop.NoMemory result can ran is refl

pub on_passed : {A : Type 0} (a : A) (counted : Result (Unit {0}) NoMemory)
    → (result : Result A Stop) (P : Type 0) → OnOk counted P → result ≡ when_counted a counted
    → OnOk result P
on_passed {A} a (Ok u) result P h is = subst (λ (r : Result A Stop). OnOk r P) (sym is) h
on_passed {A} a (Err e) result P h is = subst (λ (r : Result A Stop). OnOk r P) (sym is) tt

pub on_ok_map : {A E : Type 0} (r : Result A E) (P Q : Type 0) → (P → Q) → OnOk r P → OnOk r Q
on_ok_map (Ok a) P Q f h = f h
on_ok_map (Err e) P Q f h = tt

-- a value that is given
pub ran_value : {A : Type 0} (s : Scope) (v w : A) (x : Option (List Asked)) → w ≡ v
    → Ran s (gives v) x x (Ok w)
ran_value {A} s v w x e =
    subst (λ (u : A). Ran s (gives v) x x (Ok u)) (sym e) (ran_plain s (gives v) x (Ok v) refl refl)

-- ---- of two runs the one that a condition chooses

pub can_true : {A : Type 0} (s : Scope) (holds : Bool) (q r : Run A) → holds ≡ true
    → CanRun s (cond holds q r) → CanRun s q
can_true s holds q r e h = can_as s (cond holds q r) q (ap (λ b. cond b q r) e) h

pub can_false : {A : Type 0} (s : Scope) (holds : Bool) (q r : Run A) → holds ≡ false
    → CanRun s (cond holds q r) → CanRun s r
can_false s holds q r e h = can_as s (cond holds q r) r (ap (λ b. cond b q r) e) h

pub ran_true : {A : Type 0} (s : Scope) (holds : Bool) (q r : Run A) (x y : Option (List Asked))
    → (result : Result A Stop) → holds ≡ true → Ran s q x y result
    → Ran s (cond holds q r) x y result
ran_true s holds q r x y result e h =
    ran_as s q (cond holds q r) x y result (ap (λ b. cond b q r) (sym e)) h

pub ran_false : {A : Type 0} (s : Scope) (holds : Bool) (q r : Run A) (x y : Option (List Asked))
    → (result : Result A Stop) → holds ≡ false → Ran s r x y result
    → Ran s (cond holds q r) x y result
ran_false s holds q r x y result e h =
    ran_as s r (cond holds q r) x y result (ap (λ b. cond b q r) (sym e)) h

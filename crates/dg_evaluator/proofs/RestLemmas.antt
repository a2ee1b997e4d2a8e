-- What goes on after a run, and what is left of one.
use Rattle.std.proofs.Common.{◌≡◌, List, [], Option, Result, Ok, Err, sym, ap, subst, ◌∙◌}
use Rattle.dg_eval.specs.Runs.{Asked, Run, and_then, asks_of}
use Rattle.dg_requests.specs.declared.stop.Stop.{Stop}
use Rattle.dg_requests.specs.declared.stop.Stop.TheVariants as stop
use Rattle.dg_requests.specs.Scopes.{Scope}
use Rattle.dg_requests.specs.Results.{CanRun, Gave, Ran}
use Rattle.dg_requests.proofs.RanLemmas.{can_first, can_rest, ran_nothing, ran_plain, ran_stops, ran_then}

-- ---- after a run

-- a stop that is passed on
pub stopped : {A B : Type 0} (s : Scope) (r : Run A) (next : A → Run B) (a b : Option (List Asked))
    → (e d : Stop) (result : Result B Stop) → CanRun s (and_then r next) → Ran s r a b (Err e)
    → result ≡ Err d → d ≡ e → Ran s (and_then r next) a b result
stopped {A} {B} s r next a b e d result can h gave same =
    let err : Stop → Result B Stop = λ u. Err u in
    let to : err e ≡ result = ap err (sym same) ∙ sym gave in
    subst (λ (u : Result B Stop). Ran s (and_then r next) a b u) to (ran_stops s r next e a b can h)

-- what goes on without asking
pub then_plain : {A B : Type 0} (s : Scope) (r : Run A) (next : A → Run B) (v : A)
    → (a b : Option (List Asked)) (result : Result B Stop) → CanRun s (and_then r next)
    → Ran s r a b (Ok v) → asks_of (next v) ≡ [] → Gave (next v) result
    → Ran s (and_then r next) a b result
then_plain s r next v a b result can h quiet gave =
    ran_then s r next v a b b result can h (ran_plain s (next v) b result quiet gave)

-- ---- what is left

-- what is left of a run, after what was asked for by now: any result of it is one of the whole
pub record Rest {A : Type 0} (s : Scope) (whole : Run A) (old : Option (List Asked)) (left : Run A)
    (now : Option (List Asked)) : Type 0 where
  pub can : CanRun s left
  pub back : (b : Option (List Asked)) (result : Result A Stop) → Ran s left now b result
      → Ran s whole old b result

pub all_left : {A : Type 0} (s : Scope) (whole : Run A) (old : Option (List Asked))
    → CanRun s whole → Rest s whole old whole old
all_left s whole old can = record { can = can; back = λ b result h. h }

pub left_as : {A : Type 0} (s : Scope) (whole q r : Run A) (old now : Option (List Asked)) → q ≡ r
    → Rest s whole old q now → Rest s whole old r now
left_as {A} s whole q r old now e rest =
    subst (λ (x : Run A). Rest s whole old x now) e rest

-- the first part can be made
pub left_first : {A B : Type 0} (s : Scope) (whole : Run B) (r : Run A) (next : A → Run B)
    → (old now : Option (List Asked)) → Rest s whole old (and_then r next) now → CanRun s r
left_first s whole r next old now rest = can_first s r next rest.can

-- and then the next one is left
pub left_next : {A B : Type 0} (s : Scope) (whole : Run B) (r : Run A) (next : A → Run B)
    → (old now later : Option (List Asked)) (v : A) → Rest s whole old (and_then r next) now
    → Ran s r now later (Ok v) → Rest s whole old (next v) later
left_next s whole r next old now later v rest h = record {
  can = can_rest s r next v rest.can h.gave;
  back = λ b result k. rest.back b result (ran_then s r next v now later b result rest.can h k);
}

-- a stop of the first part is that of the whole
pub left_stops : {A B : Type 0} (s : Scope) (whole : Run B) (r : Run A) (next : A → Run B)
    → (old now later : Option (List Asked)) (e d : Stop) (result : Result B Stop)
    → Rest s whole old (and_then r next) now → Ran s r now later (Err e) → result ≡ Err d → d ≡ e
    → Ran s whole old later result
left_stops s whole r next old now later e d result rest h gave same =
    rest.back later result (stopped s r next now later e d result rest.can h gave same)

-- what is left asks for nothing
pub left_plain : {A : Type 0} (s : Scope) (whole r : Run A) (old now : Option (List Asked))
    → (result : Result A Stop) → Rest s whole old r now → asks_of r ≡ [] → Gave r result
    → Ran s whole old now result
left_plain s whole r old now result rest quiet gave =
    rest.back now result (ran_plain s r now result quiet gave)

-- memory lacks for what is left
pub left_lacks : {A : Type 0} (s : Scope) (whole r : Run A) (old now : Option (List Asked))
    → (d : Stop) (result : Result A Stop) → Rest s whole old r now → result ≡ Err d
    → d ≡ stop.NoMemory → Ran s whole old now result
left_lacks {A} s whole r old now d result rest gave same =
    let err : Stop → Result A Stop = λ u. Err u in
    let to : err stop.NoMemory ≡ result = ap err (sym same) ∙ sym gave in
    subst (λ (u : Result A Stop). Ran s whole old now u) to
    (rest.back now (Err stop.NoMemory) (ran_nothing s r now))

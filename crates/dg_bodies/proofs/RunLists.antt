-- Runs one after another, each where those before it gave a result.
use Rattle.std.proofs.Common.{◌≡◌, ◌<◌, ◌+◌, ℕ, suc, List, [], ◌∷◌, ◌++◌, length, map, take, drop, slice_get, get_or, Option, Some, None, option_map, Result, Ok, Err, refl, sym, ap, subst, ◌∙◌, append_assoc, append-nil, take-append-drop, drop-cons, arith}
use Rattle.std.proofs.lemmas.List.{take_more}
use Rattle.std.proofs.lemmas.Option.{get_or_from_slice_get, slice_get_within, slice_get_read, slice_get-map}
use Rattle.dg_eval.specs.Runs.{Asked, Run, gives, before, and_then, in_order}
use Rattle.dg_requests.specs.declared.stop.Stop.{Stop}
use Rattle.dg_requests.specs.declared.stop.Stop.TheVariants as stop
use Rattle.dg_requests.specs.Scopes.{Scope}
use Rattle.dg_requests.specs.Results.{CanRun, Ran}
use Rattle.dg_requests.proofs.RanLemmas.{can_as, can_first, can_rest, ran_as, ran_plain, ran_stops, ran_then, ran_nothing}

before_none : {A : Type 0} (r : Run A) → before [] r ≡ r
before_none None = refl
before_none (Some (r, asked)) = refl

pub before_before : {A : Type 0} (xs ys : List Asked) (r : Run A)
    → before xs (before ys r) ≡ before (xs ++ ys) r
before_before xs ys None = refl
before_before {A} xs ys (Some (r, more)) =
    ap (λ (l : List Asked). Some (r, l)) (sym (append_assoc xs ys more))

before_then : {A B : Type 0} (xs : List Asked) (r : Run A) (f : A → Run B)
    → and_then (before xs r) f ≡ before xs (and_then r f)
before_then xs None f = refl
before_then xs (Some (Ok a, more)) f = sym (before_before xs more (f a))
before_then xs (Some (Err e, more)) f = refl

pub then_then : {A B C : Type 0} (r : Run A) (f : A → Run B) (g : B → Run C)
    → and_then (and_then r f) g ≡ and_then r (λ a. and_then (f a) g)
then_then None f g = refl
then_then (Some (Ok a, asked)) f g = before_then asked (f a) g
then_then (Some (Err e, asked)) f g = refl

pub gives_then : {A B : Type 0} (a : A) (f : A → Run B) → and_then (gives a) f ≡ f a
gives_then a f = before_none (f a)

pub then_gives : {A : Type 0} (r : Run A) → and_then r gives ≡ r
then_gives None = refl
then_gives {A} (Some (Ok a, asked)) =
    ap (λ (l : List Asked). Some (Ok a, l)) (append-nil asked)
then_gives (Some (Err e, asked)) = refl

-- what goes on with both lists of values
abbrev after_both : {A : Type 0} → List (Run A) → List A → Run (List A)
after_both ys vs = and_then (in_order ys) (λ ws. gives (vs ++ ws))

one_more : {A : Type 0} (ys : List (Run A)) (a : A) (vs : List A)
    → and_then (after_both ys vs) (λ more. gives (a ∷ more)) ≡ after_both ys (a ∷ vs)
one_more ys a vs =
    then_then (in_order ys) (λ ws. gives (vs ++ ws)) (λ more. gives (a ∷ more))
    ∙ (λ i. and_then (in_order ys) (λ ws. gives_then (vs ++ ws) (λ more. gives (a ∷ more)) i))

pub in_order_append : {A : Type 0} (xs ys : List (Run A))
    → in_order (xs ++ ys) ≡ and_then (in_order xs) (after_both ys)
in_order_append [] ys =
    sym (gives_then [] (after_both ys) ∙ then_gives (in_order ys))
in_order_append {A} (x ∷ xs) ys =
    let more : A → List A → Run (List A) = λ a vs. gives (a ∷ vs) in
    let front : and_then x (λ a. and_then (in_order (xs ++ ys)) (more a))
    ≡ and_then x (λ a. and_then (and_then (in_order xs) (after_both ys)) (more a)) =
    (λ i. and_then x (λ a. and_then (in_order_append xs ys i) (more a))) in
    let inner : and_then x (λ a. and_then (and_then (in_order xs) (after_both ys)) (more a))
    ≡ and_then x (λ a. and_then (in_order xs) (λ vs. after_both ys (a ∷ vs))) =
    (λ i. and_then x (λ a. (then_then (in_order xs) (after_both ys) (more a)
    ∙ (λ j. and_then (in_order xs) (λ vs. one_more ys a vs j))) i)) in
    let back : and_then (and_then x (λ a. and_then (in_order xs) (more a))) (after_both ys)
    ≡ and_then x (λ a. and_then (in_order xs) (λ vs. after_both ys (a ∷ vs))) =
    then_then x (λ a. and_then (in_order xs) (more a)) (after_both ys)
    ∙ (λ i. and_then x (λ a. (then_then (in_order xs) (more a) (after_both ys)
    ∙ (λ j. and_then (in_order xs) (λ vs. gives_then (a ∷ vs) (after_both ys) j))) i)) in
    front ∙ inner ∙ sym back

-- ---- a loop over runs

-- the first so many runs were made, and gave these
pub record Passed {A : Type 0} (s : Scope) (rs : List (Run A)) (i : ℕ)
    (old now : Option (List Asked)) (vs : List A) : Type 0 where
  pub ran : Ran s (in_order (take i rs)) old now (Ok vs)

pub passed_start : {A : Type 0} (s : Scope) (rs : List (Run A)) (x : Option (List Asked))
    → Passed s rs 0 x x []
passed_start s [] x = record { ran = ran_plain s (gives []) x (Ok []) refl refl }
passed_start s (r ∷ rs) x = record { ran = ran_plain s (gives []) x (Ok []) refl refl }

take_one : {A : Type 0} (rs : List A) (i : ℕ) (r : A) → slice_get rs i ≡ Some r
    → take (i + 1) rs ≡ take i rs ++ r ∷ []
take_one rs i r e =
    take_more rs i r (slice_get_within rs i r e)
    ∙ ap (λ y. take i rs ++ y ∷ []) (get_or_from_slice_get rs i r r e)

-- the runs in order as the first so many, and then the others
as_parts : {A : Type 0} (rs : List (Run A)) (i : ℕ)
    → in_order rs ≡ and_then (in_order (take i rs)) (after_both (drop i rs))
as_parts rs i =
    ap in_order (sym (take-append-drop i rs)) ∙ in_order_append (take i rs) (drop i rs)

from_here : {A : Type 0} (rs : List (Run A)) (i : ℕ) (r : Run A) → slice_get rs i ≡ Some r
    → drop i rs ≡ r ∷ drop (i + 1) rs
from_here rs i r e =
    let next : suc i ≡ i + 1 = omega arith in
    drop-cons rs i r (slice_get_within rs i r e)
    ∙ ap (λ n. get_or rs i r ∷ drop n rs) next
    ∙ ap (λ y. y ∷ drop (i + 1) rs) (get_or_from_slice_get rs i r r e)

pub passed_can : {A : Type 0} (s : Scope) (rs : List (Run A)) (i : ℕ) (r : Run A)
    (old now : Option (List Asked)) (vs : List A) → CanRun s (in_order rs)
    → Passed s rs i old now vs → slice_get rs i ≡ Some r → CanRun s r
passed_can {A} s rs i r old now vs can p e =
    let rest = can_rest s (in_order (take i rs)) (after_both (drop i rs)) vs
    (can_as s (in_order rs) _ (as_parts rs i) can) p.ran.gave in
    let P : List (Run A) → Type 0 = λ l. CanRun s (after_both l vs) in
    let here = subst P (from_here rs i r e) rest in
    can_first s r _ (can_first s (in_order (r ∷ drop (i + 1) rs)) (λ ws. gives (vs ++ ws)) here)

one_run : {A : Type 0} (r : Run A) (vs : List A)
    → and_then r (λ a. gives (vs ++ a ∷ [])) ≡ after_both (r ∷ []) vs
one_run {A} r vs =
    let one : A → Run (List A) = λ a. and_then (gives []) (λ more. gives (a ∷ more)) in
    sym (then_then r one (λ ws. gives (vs ++ ws)))

pub passed_next : {A : Type 0} (s : Scope) (rs : List (Run A)) (i : ℕ) (r : Run A)
    (old now new : Option (List Asked)) (vs ws : List A) (a : A) → CanRun s (in_order rs)
    → Passed s rs i old now vs → slice_get rs i ≡ Some r → Ran s r now new (Ok a)
    → ws ≡ vs ++ a ∷ [] → Passed s rs (i + 1) old new ws
passed_next {A} s rs i r old now new vs ws a can p e ran same =
    let here : in_order (take (i + 1) rs) ≡ and_then (in_order (take i rs)) (after_both (r ∷ [])) =
    ap in_order (take_one rs i r e) ∙ in_order_append (take i rs) (r ∷ []) in
    let whole = can_first s (in_order (take (i + 1) rs)) (after_both (drop (i + 1) rs))
    (can_as s (in_order rs) _ (as_parts rs (i + 1)) can) in
    let last : CanRun s (after_both (r ∷ []) vs) =
    can_rest s (in_order (take i rs)) (after_both (r ∷ [])) vs (can_as s _ _ here whole) p.ran.gave in
    let one = ran_as s _ _ now new (Ok (vs ++ a ∷ [])) (one_run r vs)
    (ran_then s r (λ a. gives (vs ++ a ∷ [])) a now new new (Ok (vs ++ a ∷ []))
    (can_as s _ _ (sym (one_run r vs)) last) ran (ran_plain s _ new (Ok (vs ++ a ∷ [])) refl refl)) in
    let P : List A → Type 0 = λ l. Ran s (in_order (take (i + 1) rs)) old new (Ok l) in
    record {
      ran = subst P (sym same) (ran_as s _ _ old new (Ok (vs ++ a ∷ [])) (sym here)
          (ran_then s (in_order (take i rs)) (after_both (r ∷ [])) vs old now new
          (Ok (vs ++ a ∷ [])) (can_as s _ _ here whole) p.ran one));
    }

pub passed_stops : {A : Type 0} (s : Scope) (rs : List (Run A)) (i : ℕ) (r : Run A)
    (old now new : Option (List Asked)) (vs : List A) (e : Stop) → CanRun s (in_order rs)
    → Passed s rs i old now vs → slice_get rs i ≡ Some r → Ran s r now new (Err e)
    → Ran s (in_order rs) old new (Err e)
passed_stops {A} s rs i r old now new vs e can p is ran =
    let whole = can_as s (in_order rs) _ (as_parts rs i) can in
    let rest = can_rest s (in_order (take i rs)) (after_both (drop i rs)) vs whole p.ran.gave in
    let P : List (Run A) → Type 0 = λ l. CanRun s (after_both l vs) in
    let here = subst P (from_here rs i r is) rest in
    let Q : List (Run A) → Type 0 = λ l. Ran s (after_both l vs) now new (Err e) in
    let stopped = subst Q (sym (from_here rs i r is))
    (ran_stops s (in_order (r ∷ drop (i + 1) rs)) (λ ws. gives (vs ++ ws)) e now new here
    (ran_stops s r _ e now new
    (can_first s (in_order (r ∷ drop (i + 1) rs)) (λ ws. gives (vs ++ ws)) here) ran)) in
    ran_as s _ (in_order rs) old new (Err e) (sym (as_parts rs i))
    (ran_then s (in_order (take i rs)) (after_both (drop i rs)) vs old now new (Err e) whole p.ran
    stopped)

pub passed_nothing : {A : Type 0} (s : Scope) (rs : List (Run A)) (i : ℕ)
    (old now : Option (List Asked)) (vs : List A) → CanRun s (in_order rs)
    → Passed s rs i old now vs → Ran s (in_order rs) old now (Err stop.NoMemory)
passed_nothing s rs i old now vs can p =
    ran_as s _ (in_order rs) old now (Err stop.NoMemory) (sym (as_parts rs i))
    (ran_then s (in_order (take i rs)) (after_both (drop i rs)) vs old now now (Err stop.NoMemory)
    (can_as s (in_order rs) _ (as_parts rs i) can) p.ran (ran_nothing s _ now))

pub passed_all : {A : Type 0} (s : Scope) (rs : List (Run A)) (i : ℕ)
    (old now : Option (List Asked)) (vs : List A) → take i rs ≡ rs
    → Passed s rs i old now vs → Ran s (in_order rs) old now (Ok vs)
passed_all {A} s rs i old now vs e p =
    let P : List (Run A) → Type 0 = λ l. Ran s (in_order l) old now (Ok vs) in
    subst P e p.ran

-- what a `?` hands on is the stop of a run
pub stops_as : {A : Type 0} (s : Scope) (r : Run A) (x y : Option (List Asked)) (e d : Stop)
    → (result : Result A Stop) → result ≡ Err d → d ≡ e → Ran s r x y (Err e) → Ran s r x y result
stops_as {A} s r x y e d result is same h =
    let P : Result A Stop → Type 0 = λ u. Ran s r x y u in
    let err : Stop → Result A Stop = λ u. Err u in
    subst P (ap err (sym same) ∙ sym is) h

-- the run at this index, of runs that some values have
pub mapped_at : {A B : Type 0} (f : A → Run B) (xs : List A) (i : ℕ) (x y : A) → i < length xs
    → x ≡ get_or xs i x → y ≡ x → slice_get (map f xs) i ≡ Some (f y)
mapped_at f xs i x y lt is same =
    slice_get-map f xs i ∙ ap (option_map f) (slice_get_read xs (length xs) i x refl lt is)
    ∙ ap (λ z. Some (f z)) (sym same)

pub passed_none : {A : Type 0} (s : Scope) (rs : List (Run A)) (x : Option (List Asked))
    → (vs : List A) → vs ≡ [] → Passed s rs 0 x x vs
passed_none {A} s rs x vs e =
    subst (λ (l : List A). Passed s rs 0 x x l) (sym e) (passed_start s rs x)

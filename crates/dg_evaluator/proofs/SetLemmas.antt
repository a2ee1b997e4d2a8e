-- What a set is made of, by what the plan tells of it.
use Rattle.std.proofs.Common.{◌≡◌, ◌≤◌, ◌⊎◌, inl, inr, ℕ, zero, suc, ◌+◌, Bool, true, false, List, [], ◌∷◌, ◌++◌, length, map, slice_get, drop, Contains, Option, Some, None, option_and_then, Result, Ok, Err, refl, sym, ap, ◌∙◌, append_assoc, append-nil, arith}
use Rattle.dg_types.specs.declared.key.MapKeyVal.{MapKeyVal}
use Rattle.dg_types.specs.declared.key.Inner.{Inner}
use Rattle.dg_types.specs.declared.key.Inner.TheVariants as inner
use Rattle.dg_decl.specs.declared.document.Doc.{Doc}
use Rattle.dg_decl.specs.Diagnostics.{IsAccepted}
use Rattle.dg_decl.specs.Graph.{deps, mode_of_inner}
use Rattle.dg_decl.proofs.MemberLemmas.{in_front}
use Rattle.dg_slots.specs.declared.plan.Input.{Input}
use Rattle.dg_slots.specs.Plans.{inputs_of}
use Rattle.dg_value.specs.declared.place.Place.{Place}
use Rattle.dg_value.specs.declared.value.Kept.{Kept}
use Rattle.dg_value.specs.declared.value.Kept.TheVariants as kept
use Rattle.dg_value.specs.declared.value.Value.{Value, out-Value}
use Rattle.dg_value.specs.declared.value.Value.TheVariants as value
use Rattle.std.specs.Option.{option_map_or}
use Rattle.std.proofs.lemmas.Option.{none-some, same_Some}
use Rattle.dg_eval.specs.Runs.{Asked, Run, gives, before, and_then, asks_of}
use Rattle.dg_eval.specs.Operations.{or_mistyped, elements_at, elements_in, kept_in, value_if, entry_value}
use Rattle.dg_eval.specs.Bodies.{set_of}
use Rattle.dg_eval.specs.Meaning.{pairs, look, added_by, added_by_all, outcomes_in, set_of_added, eval}
use Rattle.dg_eval.proofs.InputLemmas.{no_input_is_left_out}
use Rattle.dg_requests.proofs.ContextLemmas.{in_class_is}
use Rattle.dg_evaluator.specs.Answers.{HasSet}
use Rattle.dg_evaluator.specs.Sets.{form_of, is_outcome, takes_outcomes, outcomes_behind, set_made}
use Rattle.dg_requests.specs.declared.stop.Stop.{Stop}
use Rattle.dg_requests.specs.Scopes.{Scope}
use Rattle.dg_requests.specs.Results.{CanRun, Ran}
use Rattle.dg_requests.proofs.RanLemmas.{can_as, ran_as, ran_plain}
use Rattle.dg_evaluator.proofs.BodyOfSlot.{given_same, then_then}
use Rattle.dg_evaluator.proofs.RestLemmas.{Rest, all_left, left_as, left_next, left_plain}
use Rattle.dg_evaluator.proofs.BodyOfMulti.{set_ends}
use Rattle.dg_evaluator.proofs.SlotLemmas.{eval_is, ByGiven, quiet_option}

-- ---- the form of a set

-- what is made of what contributions add, in a form
abbrev Made : Inner → (Value → Run Value) → List Bool → List Value → Run Value
Made form look flags vs = and_then (added_by_all form look flags vs) (set_of_added form look)

added_same : (f g : Inner) (look : Value → Run Value)
    → ((b : Bool) (v : Value) → added_by f look b v ≡ added_by g look b v) → (bs : List Bool)
    → (vs : List Value) → added_by_all f look bs vs ≡ added_by_all g look bs vs
added_same f g look h [] vs = refl
added_same f g look h (b ∷ bs) [] = refl
added_same f g look h (b ∷ bs) (v ∷ vs) =
    λ i. and_then (h b v i) (λ xs. and_then (added_same f g look h bs vs i)
    (λ more. gives (xs ++ more)))

by_flag : (f g : Inner) (look : Value → Run Value) (v : Value)
    → added_by f look true v ≡ added_by g look true v
    → added_by f look false v ≡ added_by g look false v → (b : Bool)
    → added_by f look b v ≡ added_by g look b v
by_flag f g look v elements itself true = elements
by_flag f g look v elements itself false = itself

made_plain : (f : Inner) (look : Value → Run Value) (bs : List Bool) (vs : List Value)
    → ((b : Bool) (v : Value) → added_by f look b v ≡ added_by inner.Plain look b v)
    → ((xs : List Value) → set_of_added f look xs ≡ set_of_added inner.Plain look xs)
    → Made f look bs vs ≡ Made inner.Plain look bs vs
made_plain f look bs vs h k =
    λ i. and_then (added_same f inner.Plain look h bs vs i) (λ xs. k xs i)

form_same : (form : Inner) (b : Bool) (look : Value → Run Value) (bs : List Bool)
    → (vs : List Value) → b ≡ is_outcome (mode_of_inner form)
    → Made form look bs vs ≡ set_made b look bs vs
form_same form b look bs vs e =
    by_form form ∙ sym (ap (λ (b : Bool). set_made b look bs vs) e)
  where
    by_form : (f : Inner) → Made f look bs vs ≡ set_made (is_outcome (mode_of_inner f)) look bs vs
    by_form inner.Plain = refl
    by_form inner.Produced = refl
    by_form inner.Provider =
        made_plain inner.Provider look bs vs
        (λ b v. by_flag inner.Provider inner.Plain look v refl refl b) (λ xs. refl)
    by_form inner.Lazy =
        made_plain inner.Lazy look bs vs
        (λ b v. by_flag inner.Lazy inner.Plain look v refl refl b) (λ xs. refl)
    by_form inner.ProviderLazy =
        made_plain inner.ProviderLazy look bs vs
        (λ b v. by_flag inner.ProviderLazy inner.Plain look v refl refl b) (λ xs. refl)

-- ---- a set of nothing

none_added : (form : Inner) (look : Value → Run Value) (bs : List Bool)
    → added_by_all form look bs [] ≡ gives []
none_added form look [] = refl
none_added form look (b ∷ bs) = refl

set_of_none : (form : Inner) (look : Value → Run Value)
    → set_of_added form look [] ≡ gives (value.Set [])
set_of_none inner.Produced look = refl
set_of_none inner.Plain look = refl
set_of_none inner.Provider look = refl
set_of_none inner.Lazy look = refl
set_of_none inner.ProviderLazy look = refl

made_of_none : (form : Inner) (look : Value → Run Value) (bs : List Bool)
    → Made form look bs [] ≡ gives (value.Set [])
made_of_none form look bs =
    ap (λ (r : Run (List Value)). and_then r (set_of_added form look)) (none_added form look bs)
    ∙ ap (λ (r : Run Value). before [] r) (set_of_none form look)

-- ---- sets

form_told : (form : Inner) (xs : List Input)
    → ((x : Input) → Contains xs x → x.mode ≡ mode_of_inner form)
    → (length xs ≡ 0) ⊎ (takes_outcomes xs ≡ is_outcome (mode_of_inner form))
form_told form [] modes = inl refl
form_told form (x ∷ xs) modes = inr (ap is_outcome (modes x (in_front x xs)))

no_values : (vs : List Value) (n m : ℕ) → length vs ≡ n → m ≡ n → m ≡ 0 → vs ≡ []
no_values [] n m e f g = refl
no_values (v ∷ vs) n m e f g = absurd (omega arith)

pub set_by : (doc : Doc) → IsAccepted doc → (depth i k : ℕ) (q : Place) (of_outcomes : Bool)
    → (flags : List Bool) → HasSet doc i k of_outcomes flags
    → ByGiven doc (eval doc depth) i k q (eval doc (suc depth) i k q)
    (set_made of_outcomes (look (eval doc depth) depth) flags)
set_by doc accepted depth i k q of_outcomes flags has =
    let is = (in_class_is doc i k has.node has.is_node).0 in
    let f = eval doc depth in
    let ends = set_ends doc f depth i k has.node q flags is has.is_body in
    let l = look f depth in
    record {
      node = has.node;
      is_node = has.is_node;
      is = eval_is doc depth i k has.node q has.is_node ∙ ends.is
          ∙ given_same doc f i has.node q (Made ends.form l flags) (set_made of_outcomes l flags)
          (λ vs count. elim (form_told ends.form (inputs_of doc has.node) ends.modes) [
            | inl none ↦ of_none ends.form of_outcomes l flags vs
                (no_values vs (length (deps doc has.node)) (length (inputs_of doc has.node)) count
                (no_input_is_left_out doc accepted k has.node is) none)
            | inr told ↦ form_same ends.form of_outcomes l flags vs (has.is_form ∙ told)
          ]);
    }
  where
    of_none : (form : Inner) (b : Bool) (l : Value → Run Value) (bs : List Bool) (vs : List Value)
        → vs ≡ [] → Made form l bs vs ≡ set_made b l bs vs
    of_none form b l bs vs e =
        ap (Made form l bs) e ∙ made_of_none form l bs
        ∙ sym (ap (set_made b l bs) e ∙ made_of_none (form_of b) l bs)

-- ---- what contributions add, one after the other

-- what was added so far, and what these add
abbrev pub Adding : Inner → (Value → Run Value) → List Value → List Bool → List Value
    → Run (List Value)
Adding form look all bs vs =
    and_then (added_by_all form look bs vs) (λ more. gives (all ++ more))

gives_same : {A : Type 0} (r : Run (List A)) → r ≡ and_then r (λ more. gives more)
gives_same None = refl
gives_same (Some (Ok a, asked)) =
    ap (λ (l : List Asked). Some (Ok a, l)) (sym (append-nil asked))
gives_same (Some (Err e, asked)) = refl

pub adding_starts : (s : Scope) (form : Inner) (look : Value → Run Value) (bs : List Bool)
    → (vs : List Value) (a : Option (List Asked)) → CanRun s (added_by_all form look bs vs)
    → Rest s (added_by_all form look bs vs) a (Adding form look [] bs vs) a
adding_starts s form look bs vs a can =
    let r = added_by_all form look bs vs in
    left_as s r r (Adding form look [] bs vs) a a (gives_same r) (all_left s r a can)

-- nothing more is added where there are no more values
none_adding : (form : Inner) (look : Value → Run Value) (all : List Value) (bs : List Bool)
    → (vs : List Value) → vs ≡ [] → Adding form look all bs vs ≡ gives all
none_adding form look all bs vs e =
    ap (λ (vs : List Value). Adding form look all bs vs) e
    ∙ ap (λ (r : Run (List Value)). and_then r (λ more. gives (all ++ more)))
    (none_added form look bs) ∙ ap gives (append-nil all)

no_flags : (form : Inner) (look : Value → Run Value) (all : List Value) (bs : List Bool)
    → (vs : List Value) → bs ≡ [] → Adding form look all bs vs ≡ gives all
no_flags form look all bs vs e =
    ap (λ (bs : List Bool). Adding form look all bs vs) e ∙ ap gives (append-nil all)

pub dropped : {A : Type 0} (xs : List A) (i : ℕ) → length xs ≤ i → drop i xs ≡ []
dropped [] zero le = refl
dropped [] (suc i) le = refl
dropped (x ∷ xs) zero le = absurd (omega arith)
dropped (x ∷ xs) (suc i) le = dropped xs i (omega arith)

past : {A : Type 0} (xs : List A) (i : ℕ) → slice_get xs i ≡ None → length xs ≤ i
past [] i e = omega arith
past (x ∷ xs) zero e = absurd (none-some x (sym e))
past (x ∷ xs) (suc i) e = (let le : length xs ≤ i = past xs i e in omega arith)

none_left : {A : Type 0} (xs : List A) (i : ℕ) → slice_get xs i ≡ None → drop i xs ≡ []
none_left xs i e = dropped xs i (past xs i e)

pub cons_left : {A : Type 0} (xs : List A) (i : ℕ) (x : A) → slice_get xs i ≡ Some x
    → drop i xs ≡ x ∷ drop (i + 1) xs
cons_left [] i x e = absurd (none-some x e)
cons_left (y ∷ ys) zero x e = ap (λ (z : _). z ∷ ys) (same_Some y x e)
cons_left (y ∷ ys) (suc i) x e =
    let next : suc (i + 1) ≡ suc i + 1 = omega arith in
    cons_left ys i x e ∙ ap (λ (n : ℕ). x ∷ drop n (y ∷ ys)) next

-- there are no more values
pub adding_stops : (s : Scope) (whole : Run (List Value)) (form : Inner)
    → (look : Value → Run Value) (all : List Value) (bs : List Bool) (vs : List Value) (i : ℕ)
    → (a b : Option (List Asked)) → None ≡ slice_get vs i
    → Rest s whole a (Adding form look all (drop i bs) (drop i vs)) b → Ran s whole a b (Ok all)
adding_stops s whole form look all bs vs i a b e rest =
    left_plain s whole (gives all) a b (Ok all)
    (left_as s whole _ _ a b
    (none_adding form look all (drop i bs) (drop i vs) (none_left vs i (sym e))) rest) refl refl

adding_ends_as : (s : Scope) (whole : Run (List Value)) (form : Inner) (look : Value → Run Value)
    → (all : List Value) (bs : List Bool) (vs : List Value) (a b : Option (List Asked)) → bs ≡ []
    → Rest s whole a (Adding form look all bs vs) b → Ran s whole a b (Ok all)
adding_ends_as s whole form look all bs vs a b e rest =
    left_plain s whole (gives all) a b (Ok all)
    (left_as s whole _ _ a b (no_flags form look all bs vs e) rest) refl refl

pub adding_ends : (s : Scope) (whole : Run (List Value)) (form : Inner) (look : Value → Run Value)
    → (all : List Value) (bs : List Bool) (vs : List Value) (i : ℕ) (a b : Option (List Asked))
    → length bs ≤ i → Rest s whole a (Adding form look all (drop i bs) (drop i vs)) b
    → Ran s whole a b (Ok all)
adding_ends s whole form look all bs vs i a b le rest =
    adding_ends_as s whole form look all (drop i bs) (drop i vs) a b (dropped bs i le) rest

adding_more : (form : Inner) (look : Value → Run Value) (all : List Value) (x : Bool) (v : Value)
    → (bs : List Bool) (vs : List Value)
    → Adding form look all (x ∷ bs) (v ∷ vs)
    ≡ and_then (added_by form look x v) (λ xs. Adding form look (all ++ xs) bs vs)
adding_more form look all x v bs vs =
    let r = added_by_all form look bs vs in
    then_then (added_by form look x v) (λ xs. and_then r (λ more. gives (xs ++ more)))
    (λ more. gives (all ++ more))
    ∙ (λ i. and_then (added_by form look x v) (λ xs.
    (then_then r (λ more. gives (xs ++ more)) (λ more. gives (all ++ more))
    ∙ (λ j. and_then r (λ more. gives (sym (append_assoc all xs more) j)))) i))

-- the next contribution
pub adding_next : (s : Scope) (whole : Run (List Value)) (form : Inner)
    → (look : Value → Run Value) (all : List Value) (bs : List Bool) (vs : List Value) (i : ℕ)
    → (x : Bool) (v : Value) (a b : Option (List Asked)) → slice_get bs i ≡ Some x
    → slice_get vs i ≡ Some v
    → Rest s whole a (Adding form look all (drop i bs) (drop i vs)) b
    → Rest s whole a (and_then (added_by form look x v)
    (λ xs. Adding form look (all ++ xs) (drop (i + 1) bs) (drop (i + 1) vs))) b
adding_next s whole form look all bs vs i x v a b is value rest =
    left_as s whole _ _ a b
    ((λ j. Adding form look all (cons_left bs i x is j) (cons_left vs i v value j))
    ∙ adding_more form look all x v (drop (i + 1) bs) (drop (i + 1) vs)) rest

-- and what is left after it
pub adding_step : (s : Scope) (whole : Run (List Value)) (form : Inner)
    → (look : Value → Run Value) (all more : List Value) (bs : List Bool) (vs : List Value)
    → (i : ℕ) (x : Bool) (v : Value) (xs : List Value) (a b d : Option (List Asked))
    → slice_get bs i ≡ Some x → slice_get vs i ≡ Some v
    → Rest s whole a (Adding form look all (drop i bs) (drop i vs)) b
    → Ran s (added_by form look x v) b d (Ok xs) → more ≡ all ++ xs
    → Rest s whole a (Adding form look more (drop (i + 1) bs) (drop (i + 1) vs)) d
adding_step s whole form look all more bs vs i x v xs a b d is value rest h same =
    left_as s whole _ _ a d
    (ap (λ (l : List Value). Adding form look l (drop (i + 1) bs) (drop (i + 1) vs)) (sym same))
    (left_next s whole (added_by form look x v)
    (λ xs. Adding form look (all ++ xs) (drop (i + 1) bs) (drop (i + 1) vs)) a b d xs
    (adding_next s whole form look all bs vs i x v a b is value rest) h)

-- ---- the entries of maps

pub paired_next : (es fs : List (MapKeyVal × Value)) (ks : List MapKeyVal) (vs : List Value)
    → (i : ℕ) (k : MapKeyVal) (v : Value) (all : List (MapKeyVal × Value))
    → slice_get ks i ≡ Some k → slice_get vs i ≡ Some v
    → es ++ pairs (drop i ks) (drop i vs) ≡ all → fs ≡ es ++ (k, v) ∷ []
    → fs ++ pairs (drop (i + 1) ks) (drop (i + 1) vs) ≡ all
paired_next es fs ks vs i k v all is value e same =
    ap (λ (l : List (MapKeyVal × Value)). l ++ pairs (drop (i + 1) ks) (drop (i + 1) vs)) same
    ∙ append_assoc es ((k, v) ∷ []) (pairs (drop (i + 1) ks) (drop (i + 1) vs))
    ∙ sym (λ j. es ++ pairs (cons_left ks i k is j) (cons_left vs i v value j)) ∙ e

pub pushed_pair : (es fs : List (MapKeyVal × Value)) (j k : MapKeyVal) (w v : Value)
    → fs ≡ es ++ (j, w) ∷ [] → j ≡ k → w ≡ v → fs ≡ es ++ (k, v) ∷ []
pushed_pair es fs j k w v e key value = e ∙ (λ i. es ++ (key i, value i) ∷ [])

no_pairs : (ks : List MapKeyVal) → pairs ks [] ≡ []
no_pairs [] = refl
no_pairs (k ∷ ks) = refl

pub paired_stops : (es : List (MapKeyVal × Value)) (ks : List MapKeyVal) (vs : List Value) (i : ℕ)
    → (all : List (MapKeyVal × Value)) → None ≡ slice_get vs i
    → es ++ pairs (drop i ks) (drop i vs) ≡ all → es ≡ all
paired_stops es ks vs i all none e =
    sym (append-nil es) ∙ ap (λ (l : List (MapKeyVal × Value)). es ++ l)
    (sym (no_pairs (drop i ks)) ∙ ap (pairs (drop i ks)) (sym (none_left vs i (sym none)))) ∙ e

pub paired_ends : (es : List (MapKeyVal × Value)) (ks : List MapKeyVal) (vs : List Value) (i : ℕ)
    → (all : List (MapKeyVal × Value)) → length ks ≤ i
    → es ++ pairs (drop i ks) (drop i vs) ≡ all → es ≡ all
paired_ends es ks vs i all le e =
    sym (append-nil es) ∙ ap (λ (l : List MapKeyVal). es ++ pairs l (drop i vs))
    (sym (dropped ks i le)) ∙ e

-- ---- what a set of outcomes or of values is made of

pub quiet_elements : (w : Value) → asks_of (elements_in w) ≡ []
quiet_elements w = quiet_option (elements_at (out-Value w))

quiet_mapped : {A B : Type 0} (o : Option A) (f : A → B)
    → asks_of (and_then (or_mistyped o) (λ a. gives (f a))) ≡ []
quiet_mapped None f = refl
quiet_mapped (Some a) f = refl

pub quiet_outcomes : (w : Value) → asks_of (and_then (elements_in w)
    (λ vs. gives (map (λ x. value.Outcome (kept.Value x)) vs))) ≡ []
quiet_outcomes w =
    quiet_mapped (elements_at (out-Value w)) (map (λ x. value.Outcome (kept.Value x)))

-- the set of a production that gave one
outcomes_is : (look : Value → Run Value) (v : Value) (o : Option Kept) (set : Value)
    → option_map_or value_if o None ≡ Some set
    → option_map_or (outcomes_behind look) (option_and_then value_if o) (gives (v ∷ []))
    ≡ outcomes_behind look set
outcomes_is look v None set e = absurd (none-some set e)
outcomes_is look v (Some k) set e =
    ap (λ (o : Option Value). option_map_or (outcomes_behind look) o (gives (v ∷ []))) e

no_outcomes_is : (look : Value → Run Value) (v : Value) (o : Option Kept)
    → option_map_or value_if o None ≡ None
    → option_map_or (outcomes_behind look) (option_and_then value_if o) (gives (v ∷ []))
    ≡ gives (v ∷ [])
no_outcomes_is look v None e = refl
no_outcomes_is look v (Some k) e =
    ap (λ (o : Option Value). option_map_or (outcomes_behind look) o (gives (v ∷ []))) e

pub outcome_can : (s : Scope) (look : Value → Run Value) (v set copy : Value)
    → Some set ≡ entry_value v → copy ≡ set → CanRun s (outcomes_in look v)
    → CanRun s (outcomes_behind look copy)
outcome_can s look v set copy e same can =
    can_as s (outcomes_in look v) (outcomes_behind look copy)
    (outcomes_is look v (kept_in v) set (sym e) ∙ ap (outcomes_behind look) (sym same)) can

pub outcome_ran : (s : Scope) (look : Value → Run Value) (v set copy : Value)
    → (a b : Option (List Asked)) (result : Result (List Value) Stop) → Some set ≡ entry_value v
    → copy ≡ set → Ran s (outcomes_behind look copy) a b result
    → Ran s (outcomes_in look v) a b result
outcome_ran s look v set copy a b result e same h =
    ran_as s (outcomes_behind look copy) (outcomes_in look v) a b result
    (sym (outcomes_is look v (kept_in v) set (sym e) ∙ ap (outcomes_behind look) (sym same))) h

pub outcome_alone : (s : Scope) (look : Value → Run Value) (v : Value) (a : Option (List Asked))
    → (vs : List Value) → None ≡ entry_value v → vs ≡ v ∷ []
    → Ran s (outcomes_in look v) a a (Ok vs)
outcome_alone s look v a vs e same =
    ran_as s (gives (v ∷ [])) (outcomes_in look v) a a (Ok vs)
    (sym (no_outcomes_is look v (kept_in v) (sym e)))
    (ran_plain s (gives (v ∷ [])) a (Ok vs) refl
    (ap (λ (l : List Value). Some (Ok l)) (sym same)))

values_is : (of_outcomes : Bool) (look : Value → Run Value) (vs ws : List Value)
    → of_outcomes ≡ false → ws ≡ vs
    → set_of_added (form_of of_outcomes) look vs ≡ set_of look ws
values_is of_outcomes look vs ws e same =
    ap (λ (b : Bool). set_of_added (form_of b) look vs) e ∙ ap (set_of look) (sym same)

pub values_can : (s : Scope) (of_outcomes : Bool) (look : Value → Run Value) (vs ws : List Value)
    → of_outcomes ≡ false → ws ≡ vs → CanRun s (set_of_added (form_of of_outcomes) look vs)
    → CanRun s (set_of look ws)
values_can s of_outcomes look vs ws e same can =
    can_as s (set_of_added (form_of of_outcomes) look vs) (set_of look ws)
    (values_is of_outcomes look vs ws e same) can

pub values_ran : (s : Scope) (of_outcomes : Bool) (look : Value → Run Value) (vs ws : List Value)
    → (a b : Option (List Asked)) (result : Result Value Stop) → of_outcomes ≡ false → ws ≡ vs
    → Ran s (set_of look ws) a b result
    → Ran s (set_of_added (form_of of_outcomes) look vs) a b result
values_ran s of_outcomes look vs ws a b result e same h =
    ran_as s (set_of look ws) (set_of_added (form_of of_outcomes) look vs) a b result
    (sym (values_is of_outcomes look vs ws e same)) h

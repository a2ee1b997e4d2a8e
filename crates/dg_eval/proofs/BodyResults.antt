-- The run of a body gives a result, where what it sees does.
use Rattle.std.proofs.Common.{◌≡◌, ℕ, suc, ◌+◌, Bool, true, false, cond, List, [], ◌∷◌, ◌++◌, length, map, Contains, Option, Some, None, refl, sym, subst, arith, inl, inr}
use Rattle.std.specs.Prelude.{ℤ, ◌+ℤ◌, pos, codes}
use Rattle.std.specs.List.{filter_map, cons_option}
use Rattle.std.specs.Option.{option_map_or}
use Rattle.std.specs.Fmt.{signed_decimal}
use Rattle.std.proofs.lemmas.Option.{none-some, same_Some}
use Rattle.dg_lex.specs.Bytes.{Bytes}
use Rattle.dg_types.specs.declared.key.MapKeyVal.{MapKeyVal}
use Rattle.dg_decl.specs.declared.expression.CallName.{CallName}
use Rattle.dg_decl.specs.declared.expression.CallName.TheVariants as call
use Rattle.dg_decl.specs.declared.expression.ParamCall.{ParamCall}
use Rattle.dg_decl.specs.declared.expression.ParamCall.TheVariants as by_name
use Rattle.dg_decl.proofs.MemberLemmas.{in_got, first_or_rest, none_in, out_option_map}
use Rattle.dg_slots.specs.declared.body.NExpr.{NExpr}
use Rattle.dg_slots.specs.declared.body.NCond.{NCond}
use Rattle.dg_slots.specs.declared.body.NCond.TheOpen.{NCond-F, NExpr-F}
use Rattle.dg_slots.specs.declared.body.NCond.TheViews.{roll-NCond, roll-NExpr}
use Rattle.dg_slots.specs.declared.body.NCond.TheFolds.{ind-NCond, ind-NExpr, map-NCond, map-NExpr, fold-roll-NCond, fold-roll-NExpr}
use Rattle.dg_slots.specs.declared.body.NTree.{NTree}
use Rattle.dg_slots.specs.declared.body.NTree.TheOpen.{NTree-F}
use Rattle.dg_slots.specs.declared.body.NTree.TheViews.{roll-NTree}
use Rattle.dg_slots.specs.declared.body.NTree.TheFolds.{ind-NTree, map-NTree, fold-roll-NTree}
use Rattle.dg_value.specs.declared.place.PlaceStep.TheVariants as step
use Rattle.dg_value.specs.declared.value.Value.{Value, out-Value}
use Rattle.dg_value.specs.declared.value.Kept.{Kept, out-Kept}
use Rattle.dg_value.specs.declared.value.Kept.TheOpen.{Kept-F, Value-F}
use Rattle.dg_value.specs.declared.value.Value.TheVariants as value
use Rattle.dg_value.specs.Places.{then_step}
use Rattle.dg_value.specs.Same.{Layer, same_element}
use Rattle.dg_eval.specs.Runs.{Run, gives, failed, and_then, in_order, mistyped}
use Rattle.dg_eval.specs.Operations.{or_mistyped, field_at, field_in, is_in_range, sum_of, sum_in, with_two, less_in, equal_at, equal_in, all_in, joined, cat_of, cat_in, only_of, int_in, text_in, decimal_of, size_at, fail_of, kept_at, kept_in, value_of_kept, value_in, message_of, failure_in, value_if, is_ok_in, entry_value, keyed, inside_at, inside_in, has_in}
use Rattle.dg_eval.specs.Bodies.{End, value_end, producer_end, Around, Part, called_of, runs_of, looked, look_all, of_two, of_all, has_same, with_element, with_elements, set_of, values_at, values_in, called_with, by_param, inside_or, cond_at, chosen, expr_at, expr_part, cond_part, tree_at, tree_part}
use Rattle.dg_eval.proofs.RunResults.{Allowed, Gives, Each, each_append, then_gives, if_gives, or_gives, in_order_give}
use Rattle.dg_eval.proofs.ValueLemmas.{AllIn, AllInKept, InEntry, InLayer, InKeptLayer, layer_of, kept_layer_of, in_text, in_int, in_object, in_set, in_map}

-- what is so of each of a list is so of one
pub each_in : {A : Type 0} (P : A → Type 0) (xs : List A) (x : A) → Each P xs → Contains xs x → P x
each_in P [] x all c = absurd (none_in x c)
each_in P (y ∷ ys) x all c =
    elim (first_or_rest x y ys c) [
      | inl e ↦ subst P e all.0
      | inr r ↦ each_in P ys x all.1 r
    ]

each_given : {A : Type 0} (Q : A → Type 0) (o : Option A) (xs : List A)
    → ((x : A) → o ≡ Some x → Q x) → Each Q xs → Each Q (cons_option o xs)
each_given Q None xs h all = all
each_given Q (Some y) xs h all = (h y refl, all)

each_filter_map : {A B : Type 0} (P : A → Type 0) (Q : B → Type 0) (f : A → Option B)
    → (xs : List A) → ((x : A) (y : B) → P x → f x ≡ Some y → Q y) → Each P xs
    → Each Q (filter_map f xs)
each_filter_map P Q f [] h all = tt
each_filter_map P Q f (x ∷ xs) h all =
    each_given Q (f x) (filter_map f xs) (λ y e. h x y all.0 e)
    (each_filter_map P Q f xs h all.1)

-- what is so of any value
abbrev pub Any : {A : Type 0} → A → Type 0
Any a = Unit {0}

-- ---- operations

option_gives : {A B : Type 0} (R : Allowed) (P : B → Type 0) (o : Option A) (f : A → Run B)
    → ((a : A) → o ≡ Some a → Gives R P (f a)) → Gives R P (option_map_or f o mistyped)
option_gives R P None f h = tt
option_gives R P (Some a) f h = h a refl

two_give : {A B : Type 0} (R : Allowed) (P : B → Type 0) (x y : Option A) (f : A → A → Run B)
    → ((a b : A) → Gives R P (f a b)) → Gives R P (with_two x y f)
two_give R P (Some a) (Some b) f h = h a b
two_give R P (Some a) None f h = tt
two_give R P None y f h = tt

field_good : (R : Allowed) (k : ℕ) (l : Layer) (w : Value) → InLayer R l
    → field_at k l ≡ Some w → AllIn R w
field_good R k (Value-F.Object class ident fields) w all e =
    each_in (AllIn R) fields w all (in_got fields k w e)
field_good R k other w all e = absurd (none-some w e)

pub field_gives : (R : Allowed) (k : ℕ) (v : Value) → AllIn R v → Gives R (AllIn R) (field_in k v)
field_gives R k v good =
    or_gives R (AllIn R) (field_at k (out-Value v))
    (λ w e. field_good R k (out-Value v) w (layer_of R v good) e)

sum_gives : (R : Allowed) (origin : ℕ) (v w : Value) → Gives R (AllIn R) (sum_in origin v w)
sum_gives R origin v w =
    two_give R (AllIn R) (int_in v) (int_in w) (sum_of origin)
    (λ a b. if_gives R (AllIn R) (is_in_range (a +ℤ b)) (gives (value.Int (a +ℤ b)))
    (failed origin (codes "overflow")) (in_int R (a +ℤ b), tt) tt)

less_gives : (R : Allowed) (v w : Value) → Gives R Any (less_in v w)
less_gives R v w = two_give R Any (int_in v) (int_in w) _ (λ a b. (tt, tt))

equal_gives_at : (R : Allowed) (l m : Layer) → Gives R Any (equal_at l m)
equal_gives_at R (Value-F.Text a) (Value-F.Text b) = (tt, tt)
equal_gives_at R (Value-F.Int a) (Value-F.Int b) = (tt, tt)
equal_gives_at R l m = tt

equal_gives : (R : Allowed) (v w : Value) → Gives R Any (equal_in v w)
equal_gives R v w = equal_gives_at R (out-Value v) (out-Value w)

cat_gives : (R : Allowed) (origin : ℕ) (o : Option (List Bytes))
    → Gives R (AllIn R) (cat_of origin o)
cat_gives R origin None = tt
cat_gives R origin (Some ts) =
    if_gives R (AllIn R) _ (failed origin (codes "text too long"))
    (gives (value.Text (joined ts))) tt (in_text R (joined ts), tt)

only_good : (R : Allowed) (vs : List Value) (v : Value) → Each (AllIn R) vs
    → only_of vs ≡ Some v → AllIn R v
only_good R [] v all e = absurd (none-some v e)
only_good R (w ∷ []) v all e = subst (AllIn R) (same_Some w v e) all.0
only_good R (w ∷ (x ∷ vs)) v all e = absurd (none-some v e)

pub only_gives : (R : Allowed) (vs : List Value) → Each (AllIn R) vs
    → Gives R (AllIn R) (or_mistyped (only_of vs))
only_gives R vs all = or_gives R (AllIn R) (only_of vs) (λ v e. only_good R vs v all e)

decimal_gives : (R : Allowed) (o : Option ℤ) → Gives R (AllIn R) (decimal_of o)
decimal_gives R None = tt
decimal_gives R (Some n) = (in_text R (signed_decimal n), tt)

size_gives : (R : Allowed) (l : Layer) → Gives R (AllIn R) (size_at l)
size_gives R (Value-F.Text t) = (in_int R (pos (length t)), tt)
size_gives R (Value-F.Set vs) = (in_int R (pos (length vs)), tt)
size_gives R (Value-F.Map es) = (in_int R (pos (length es)), tt)
size_gives R other = tt

fail_gives : (R : Allowed) (origin : ℕ) (o : Option Bytes)
    → Gives R (AllIn R) (fail_of origin o)
fail_gives R origin None = tt
fail_gives R origin (Some t) = tt

kept_good : (R : Allowed) (l : Layer) (k : Kept) → InLayer R l → kept_at l ≡ Some k
    → AllInKept R k
kept_good R (Value-F.Outcome j) k all e = subst (AllInKept R) (same_Some j k e) all
kept_good R other k all e = absurd (none-some k e)

pub kept_in_good : (R : Allowed) (v : Value) (k : Kept) → AllIn R v → kept_in v ≡ Some k
    → AllInKept R k
kept_in_good R v k good e = kept_good R (out-Value v) k (layer_of R v good) e

of_kept_gives : (R : Allowed) (k : Kept) (l : Kept-F Kept Value) → out-Kept k ≡ l
    → InKeptLayer R l → Gives R (AllIn R) (value_of_kept k)
of_kept_gives R k (Kept-F.Value v) e all = rw e (all, tt)
of_kept_gives R k (Kept-F.Failed f) e all = rw e tt

value_gives : (R : Allowed) (v : Value) → AllIn R v → Gives R (AllIn R) (value_in v)
value_gives R v good =
    option_gives R (AllIn R) (kept_in v) value_of_kept (λ k e. of_kept_gives R k (out-Kept k) refl
    (kept_layer_of R k (kept_in_good R v k good e)))

failure_gives : (R : Allowed) (v : Value) → AllIn R v → Gives R (AllIn R) (failure_in v)
failure_gives R v good =
    option_gives R (AllIn R) (kept_in v) _ (λ k e. (in_text R (message_of k), tt))

ok_gives : (R : Allowed) (v : Value) → Gives R Any (is_ok_in v)
ok_gives R v = option_gives R Any (kept_in v) _ (λ k e. (tt, tt))

has_gives : (R : Allowed) (v : Value) → Gives R Any (has_in v)
has_gives R v = option_gives R Any (inside_in v) _ (λ o e. (tt, tt))

value_if_good : (R : Allowed) (k : Kept) (l : Kept-F Kept Value) (w : Value)
    → out-Kept k ≡ l → InKeptLayer R l → value_if k ≡ Some w → AllIn R w
value_if_good R k (Kept-F.Value v) w e all is =
    let same : Some v ≡ Some w = rw e at is in subst (AllIn R) (same_Some v w same) all
value_if_good R k (Kept-F.Failed f) w e all is =
    let same : None ≡ Some w = rw e at is in absurd (none-some w same)

pub value_of_good : (R : Allowed) (k : Kept) (w : Value) → AllInKept R k
    → value_if k ≡ Some w → AllIn R w
value_of_good R k w good e = value_if_good R k (out-Kept k) w refl (kept_layer_of R k good) e

entry_of_kept : (R : Allowed) (o : Option Kept) (w : Value)
    → ((k : Kept) → o ≡ Some k → AllInKept R k) → option_map_or value_if o None ≡ Some w
    → AllIn R w
entry_of_kept R None w h e = absurd (none-some w e)
entry_of_kept R (Some k) w h e = value_of_good R k w (h k refl) e

entry_good : (R : Allowed) (v w : Value) → AllIn R v → entry_value v ≡ Some w → AllIn R w
entry_good R v w good e = entry_of_kept R (kept_in v) w (λ k h. kept_in_good R v k good h) e

keyed_good : (R : Allowed) (e f : MapKeyVal × Value) → InEntry (AllIn R) e
    → keyed e ≡ Some f → InEntry (AllIn R) f
keyed_good R e f good is =
    let o = out_option_map (λ v. (e.0, v)) (entry_value e.1) f is in
    let P : MapKeyVal × Value → Type 0 = InEntry (AllIn R) in
    subst P o.2 (entry_good R e.1 o.0 good o.1)

-- ---- sets

abbrev pub Looks : Allowed → (Value → Run Value) → Type 0
Looks R look = (v : Value) → AllIn R v → Gives R (AllIn R) (look v)

has_same_gives : (R : Allowed) (look : Value → Run Value) → Looks R look → (v : Value)
    → (vs : List Value) → AllIn R v → Each (AllIn R) vs → Gives R Any (has_same look v vs)
has_same_gives R look h v [] good all = (tt, tt)
has_same_gives R look h v (w ∷ ws) good all =
    then_gives R (AllIn R) Any (look v) _ (h v good) (λ a ga. then_gives R (AllIn R) Any (look w) _
    (h w all.0) (λ b gb. if_gives R Any (same_element a b) (gives true) (has_same look v ws)
    (tt, tt)
    (has_same_gives R look h v ws good all.1)))

either_good : (R : Allowed) (has : Bool) (vs : List Value) (v : Value) → AllIn R v
    → Each (AllIn R) vs → Each (AllIn R) (cond has vs (vs ++ v ∷ []))
either_good R true vs v good all = all
either_good R false vs v good all = each_append (AllIn R) vs (v ∷ []) all (good, tt)

elements_give : (R : Allowed) (look : Value → Run Value) → Looks R look
    → (vs ws : List Value) → Each (AllIn R) vs → Each (AllIn R) ws
    → Gives R (Each (AllIn R)) (with_elements look vs ws)
elements_give R look h vs [] all more = (all, tt)
elements_give R look h vs (w ∷ ws) all more =
    then_gives R (Each (AllIn R)) (Each (AllIn R)) (with_element look vs w) _
    (then_gives R Any (Each (AllIn R)) (has_same look w vs) _
    (has_same_gives R look h w vs more.0 all) (λ has u. (either_good R has vs w more.0 all, tt)))
    (λ xs good. elements_give R look h xs ws good more.1)

pub set_gives : (R : Allowed) (look : Value → Run Value) → Looks R look
    → (vs : List Value) → Each (AllIn R) vs → Gives R (AllIn R) (set_of look vs)
set_gives R look h vs all =
    then_gives R (Each (AllIn R)) (AllIn R) (with_elements look [] vs) _
    (elements_give R look h [] vs tt all) (λ xs good. (in_set R xs good, tt))

values_give_at : (R : Allowed) (look : Value → Run Value) → Looks R look → (l : Layer)
    → InLayer R l → Gives R (AllIn R) (values_at look l)
values_give_at R look h (Value-F.Set vs) all =
    set_gives R look h (filter_map entry_value vs)
    (each_filter_map (AllIn R) (AllIn R) entry_value vs (λ v w. entry_good R v w) all)
values_give_at R look h (Value-F.Map es) all =
    let good = each_filter_map (InEntry (AllIn R)) (InEntry (AllIn R)) keyed es
    (λ e f. keyed_good R e f) all in
    (in_map R (filter_map keyed es) good, tt)
values_give_at R look h other all = tt

-- ---- what a body sees

-- what is so of the end of a tree: of a value, or of a producer's cell
abbrev pub AtEnd : Allowed → (ℕ → ℕ → Type 0) → End → Type 0
AtEnd R C (value_end v) = AllIn R v
AtEnd R C (producer_end i k) = C i k

pub record Sees (R : Allowed) (s : Around) : Type 0 where
  pub param : (p : ℕ) → Gives R (AllIn R) (s.param p)
  pub look : Looks R s.look

-- what calls of these parameters lead to, where so many calls stand before them
abbrev pub Callable : Allowed → (ℕ → ℕ → Type 0) → Around → ℕ → List ℕ → Type 0
Callable R C s c [] = Unit {0}
Callable R C s c (p ∷ ps) =
    Gives R (AllIn R) (s.got p (then_step s.place (step.Call (suc c))))
    × Gives R (AtEnd R C) (s.awaited p (then_step s.place (step.Call (suc c))))
    × Callable R C s (suc c) ps

callable_split : (R : Allowed) (C : ℕ → ℕ → Type 0) (s : Around) (c : ℕ) (ps qs : List ℕ)
    → Callable R C s c (ps ++ qs)
    → Callable R C s c ps × Callable R C s (c + length ps) qs
callable_split R C s c [] qs all =
    let P : ℕ → Type 0 = λ k. Callable R C s k qs in
    let same : c ≡ c + 0 = omega arith in
    (tt, subst P same all)
callable_split R C s c (p ∷ ps) qs all =
    let both = callable_split R C s (suc c) ps qs all.2 in
    let P : ℕ → Type 0 = λ k. Callable R C s k qs in
    let same : suc c + length ps ≡ c + length (p ∷ ps) = omega arith in
    ((all.0, all.1, both.0), subst P same both.1)

abbrev pub IsTotal : Allowed → (ℕ → ℕ → Type 0) → {A : Type 0} → (A → Type 0) → Part A
    → Type 0
IsTotal R C P p =
    (s : Around) → Sees R s → (n c : ℕ) → Callable R C s c p.called → Gives R P (p.run s n c)

abbrev AllTotal : Allowed → (ℕ → ℕ → Type 0) → List (Part Value) → Type 0
AllTotal R C ps = Each (IsTotal R C (AllIn R)) ps

runs_give : (R : Allowed) (C : ℕ → ℕ → Type 0) (ps : List (Part Value)) → AllTotal R C ps
    → (s : Around) → Sees R s → (n c : ℕ) → Callable R C s c (called_of ps)
    → Each (Gives R (AllIn R)) (runs_of ps s n c)
runs_give R C [] all s h n c calls = tt
runs_give R C (p ∷ ps) all s h n c calls =
    let both = callable_split R C s c p.called (called_of ps) calls in (
      all.0 s h n c both.0,
      runs_give R C ps all.1 s h (n + p.news) (c + length p.called) both.1,
    )

looked_gives : (R : Allowed) (C : ℕ → ℕ → Type 0) (p : Part Value)
    → IsTotal R C (AllIn R) p → (s : Around) → Sees R s → (n c : ℕ)
    → Callable R C s c p.called → Gives R (AllIn R) (looked p s n c)
looked_gives R C p g s h n c calls =
    then_gives R (AllIn R) (AllIn R) (p.run s n c) s.look (g s h n c calls) h.look

two_total : (R : Allowed) (C : ℕ → ℕ → Type 0) {B : Type 0} (P : B → Type 0)
    → (a b : Part Value) (next : Around → Value → Value → Run B)
    → ((s : Around) (v w : Value) → AllIn R v → AllIn R w → Gives R P (next s v w))
    → IsTotal R C (AllIn R) a → IsTotal R C (AllIn R) b → IsTotal R C P (of_two a b next)
two_total R C P a b next made ga gb s h n c calls =
    let both = callable_split R C s c a.called b.called calls in
    then_gives R (AllIn R) P (looked a s n c) _ (looked_gives R C a ga s h n c both.0)
    (λ v gv. then_gives R (AllIn R) P (looked b s (n + a.news) (c + length a.called)) (next s v)
    (looked_gives R C b gb s h (n + a.news) (c + length a.called) both.1)
    (λ w gw. made s v w gv gw))

all_looked : (R : Allowed) (look : Value → Run Value) → Looks R look → (vs : List Value)
    → Each (AllIn R) vs → Each (Gives R (AllIn R)) (map look vs)
all_looked R look h [] all = tt
all_looked R look h (v ∷ vs) all = (h v all.0, all_looked R look h vs all.1)

one_gives : (R : Allowed) (s : Around) → Sees R s → (vs : List Value) → Each (AllIn R) vs
    → (next : Value → Run Value) → ((v : Value) → Gives R (AllIn R) (next v))
    → Gives R (AllIn R) (and_then (or_mistyped (only_of vs)) (λ v. and_then (s.look v) next))
one_gives R s h vs all next made =
    then_gives R (AllIn R) (AllIn R) (or_mistyped (only_of vs)) _ (only_gives R vs all)
    (λ v good. then_gives R (AllIn R) (AllIn R) (s.look v) next (h.look v good) (λ w gw. made w))

called_gives : (R : Allowed) (f : CallName) (s : Around) → Sees R s → (vs : List Value)
    → Each (AllIn R) vs → Gives R (AllIn R) (called_with f s vs)
called_gives R call.Cat s h vs all =
    then_gives R (Each (AllIn R)) (AllIn R) (look_all s vs) (cat_in s.origin)
    (in_order_give R (AllIn R) (map s.look vs) (all_looked R s.look h.look vs all))
    (λ ws good. cat_gives R s.origin (all_in text_in ws))
called_gives R call.TextOf s h vs all =
    one_gives R s h vs all (λ w. decimal_of (int_in w)) (λ v. decimal_gives R (int_in v))
called_gives R call.Size s h vs all =
    one_gives R s h vs all (λ w. size_at (out-Value w)) (λ v. size_gives R (out-Value v))
called_gives R call.SetOf s h vs all = set_gives R s.look h.look vs all
called_gives R call.Fail s h vs all =
    one_gives R s h vs all (λ w. fail_of s.origin (text_in w))
    (λ v. fail_gives R s.origin (text_in v))

param_gives : (R : Allowed) {A : Type 0} (P : A → Type 0) (p : ℕ) (f : Value → Run A)
    → (s : Around) → Sees R s → ((v : Value) → AllIn R v → Gives R P (f v))
    → Gives R P (and_then (s.param p) f)
param_gives R P p f s h made = then_gives R (AllIn R) P (s.param p) f (h.param p) made

by_param_total : (R : Allowed) (C : ℕ → ℕ → Type 0) (f : ParamCall) (p : ℕ)
    → IsTotal R C (AllIn R) (by_param f p)
by_param_total R C by_name.Get p s h n c calls = calls.0
by_param_total R C by_name.Value p s h n c calls =
    param_gives R (AllIn R) p value_in s h (λ v good. value_gives R v good)
by_param_total R C by_name.Values p s h n c calls =
    param_gives R (AllIn R) p (values_in s.look) s h
    (λ v good. values_give_at R s.look h.look (out-Value v) (layer_of R v good))
by_param_total R C by_name.Failure p s h n c calls =
    param_gives R (AllIn R) p failure_in s h (λ v good. failure_gives R v good)

pub inside_good : (R : Allowed) (l : Layer) (w : Value) → InLayer R l
    → inside_at l ≡ Some (Some w) → AllIn R w
inside_good R (Value-F.Opt None) w all e = absurd (none-some w (same_Some None (Some w) e))
inside_good R (Value-F.Opt (Some v)) w all e =
    subst (AllIn R) (same_Some v w (same_Some (Some v) (Some w) e)) all
inside_good R other w all e = absurd (none-some (Some w) e)

inside_gives : (R : Allowed) (o : Option (Option Value)) (x : Run Value)
    → ((w : Value) → o ≡ Some (Some w) → AllIn R w) → Gives R (AllIn R) x
    → Gives R (AllIn R) (inside_or o x)
inside_gives R None x h g = tt
inside_gives R (Some None) x h g = g
inside_gives R (Some (Some v)) x h g = (h v refl, tt)

chosen_total : (R : Allowed) (C : ℕ → ℕ → Type 0) {A : Type 0} (P : A → Type 0)
    → (b : Part Bool) (x y : Part A) → IsTotal R C Any b → IsTotal R C P x → IsTotal R C P y
    → IsTotal R C P (chosen b x y)
chosen_total R C P b x y gb gx gy s h n c calls =
    let both = callable_split R C s c (b.called ++ x.called) y.called calls in
    let front = callable_split R C s c b.called x.called both.0 in
    let Q : ℕ → Type 0 = λ k. Callable R C s k y.called in
    let same : c + length (b.called ++ x.called) ≡ (c + length b.called) + length x.called =
    lengths b.called x.called c in
    then_gives R Any P (b.run s n c) _ (gb s h n c front.0)
    (λ holds u. if_gives R P holds _ _ (gx s h (n + b.news) (c + length b.called) front.1)
    (gy s h ((n + b.news) + x.news) ((c + length b.called) + length x.called)
    (subst Q same both.1)))
  where
    lengths : (xs ys : List ℕ) (c : ℕ) → c + length (xs ++ ys) ≡ (c + length xs) + length ys
    lengths [] ys c = omega arith
    lengths (x ∷ xs) ys c = (let e = lengths xs ys c in omega arith)

args_total : (R : Allowed) (C : ℕ → ℕ → Type 0) (ps : List (Part Value))
    → (next : Around → List Value → Run Value) → AllTotal R C ps
    → ((s : Around) → Sees R s → (vs : List Value) → Each (AllIn R) vs
    → Gives R (AllIn R) (next s vs))
    → IsTotal R C (AllIn R) (of_all ps next)
args_total R C ps next all made s h n c calls =
    then_gives R (Each (AllIn R)) (AllIn R) (in_order (runs_of ps s n c)) (next s)
    (in_order_give R (AllIn R) (runs_of ps s n c) (runs_give R C ps all s h n c calls)) (made s h)

new_total : (R : Allowed) (C : ℕ → ℕ → Type 0) (class : ℕ) (ps : List (Part Value))
    → AllTotal R C ps → IsTotal R C (AllIn R) (expr_at (NExpr-F.New class ps))
new_total R C class ps all s h n c calls =
    then_gives R (Each (AllIn R)) (AllIn R) (in_order (runs_of ps s (suc n) c)) _
    (in_order_give R (AllIn R) (runs_of ps s (suc n) c)
    (runs_give R C ps all s h (suc n) c calls))
    (λ vs good. (in_object R class (then_step s.place (step.New (suc n))) vs good, tt))

-- ---- by induction over expressions, conditions and trees

abbrev CondTotal : Allowed → (ℕ → ℕ → Type 0) → NCond → Type 0
CondTotal R C c = IsTotal R C Any (cond_part c)

abbrev ExprTotal : Allowed → (ℕ → ℕ → Type 0) → NExpr → Type 0
ExprTotal R C e = IsTotal R C (AllIn R) (expr_part e)

abbrev CondPart : Allowed → (ℕ → ℕ → Type 0) → Type 0
CondPart R C = (c : NCond) × CondTotal R C c

abbrev ExprPart : Allowed → (ℕ → ℕ → Type 0) → Type 0
ExprPart R C = (e : NExpr) × ExprTotal R C e

all_parts : (R : Allowed) (C : ℕ → ℕ → Type 0) (xs : List (ExprPart R C))
    → AllTotal R C (map expr_part (map (λ e. e.0) xs))
all_parts R C [] = tt
all_parts R C (x ∷ xs) = (x.1, all_parts R C xs)

abbrev cond_parts : (R : Allowed) (C : ℕ → ℕ → Type 0)
    → NCond-F (CondPart R C) (ExprPart R C) → NCond-F NCond NExpr
cond_parts R C = map-NCond (CondPart R C) (ExprPart R C) NCond NExpr (λ c. c.0) (λ e. e.0)

abbrev expr_parts : (R : Allowed) (C : ℕ → ℕ → Type 0)
    → NExpr-F (CondPart R C) (ExprPart R C) → NExpr-F NCond NExpr
expr_parts R C = map-NExpr (CondPart R C) (ExprPart R C) NCond NExpr (λ c. c.0) (λ e. e.0)

cond_total_at : (R : Allowed) (C : ℕ → ℕ → Type 0)
    → (y : NCond-F (CondPart R C) (ExprPart R C))
    → IsTotal R C Any (cond_at (map-NCond NCond NExpr (Part Bool) (Part Value) cond_part expr_part
    (cond_parts R C y)))
cond_total_at R C (NCond-F.Equal a b) =
    two_total R C Any (expr_part a.0) (expr_part b.0) (λ s. equal_in)
    (λ s v w gv gw. equal_gives R v w) a.1 b.1
cond_total_at R C (NCond-F.Less a b) =
    two_total R C Any (expr_part a.0) (expr_part b.0) (λ s. less_in)
    (λ s v w gv gw. less_gives R v w) a.1 b.1
cond_total_at R C (NCond-F.Has p) =
    λ s h n c calls. param_gives R Any p has_in s h (λ v good. has_gives R v)
cond_total_at R C (NCond-F.IsOk p) =
    λ s h n c calls. param_gives R Any p is_ok_in s h (λ v good. ok_gives R v)

expr_total_at : (R : Allowed) (C : ℕ → ℕ → Type 0)
    → (y : NExpr-F (CondPart R C) (ExprPart R C))
    → IsTotal R C (AllIn R) (expr_at (map-NExpr NCond NExpr (Part Bool) (Part Value) cond_part
    expr_part (expr_parts R C y)))
expr_total_at R C (NExpr-F.Text x) = λ s h n c calls. (in_text R x, tt)
expr_total_at R C (NExpr-F.Int x) = λ s h n c calls. (in_int R x, tt)
expr_total_at R C (NExpr-F.Param p) = λ s h n c calls. h.param p
expr_total_at R C (NExpr-F.New class args) =
    new_total R C class (map expr_part (map (λ e. e.0) args)) (all_parts R C args)
expr_total_at R C (NExpr-F.Field e field) =
    λ s h n c calls. then_gives R (AllIn R) (AllIn R) (looked (expr_part e.0) s n c)
    (field_in field)
    (looked_gives R C (expr_part e.0) e.1 s h n c calls) (λ v good. field_gives R field v good)
expr_total_at R C (NExpr-F.Sum a b) =
    two_total R C (AllIn R) (expr_part a.0) (expr_part b.0) (λ s. sum_in s.origin)
    (λ s v w gv gw. sum_gives R s.origin v w) a.1 b.1
expr_total_at R C (NExpr-F.If b x y) =
    chosen_total R C (AllIn R) (cond_part b.0) (expr_part x.0) (expr_part y.0) b.1 x.1 y.1
expr_total_at R C (NExpr-F.Call f args) =
    args_total R C (map expr_part (map (λ e. e.0) args)) (called_with f) (all_parts R C args)
    (called_gives R f)
expr_total_at R C (NExpr-F.ByName f p) = by_param_total R C f p
expr_total_at R C (NExpr-F.OrElse p e) =
    λ s h n c calls. param_gives R (AllIn R) p _ s h
    (λ v good. inside_gives R (inside_in v) ((expr_part e.0).run s n c)
    (λ w is. inside_good R (out-Value v) w (layer_of R v good) is) (e.1 s h n c calls))

cond_total_rolled : (R : Allowed) (C : ℕ → ℕ → Type 0)
    → (y : NCond-F (CondPart R C) (ExprPart R C)) → CondTotal R C (roll-NCond (cond_parts R C y))
unfolding cond_part expr_part
cond_total_rolled R C y =
    let P : Part Bool → Type 0 = IsTotal R C Any in
    subst P (sym (fold-roll-NCond (Part Bool) (Part Value) cond_at expr_at (cond_parts R C y)))
    (cond_total_at R C y)

expr_total_rolled : (R : Allowed) (C : ℕ → ℕ → Type 0)
    → (y : NExpr-F (CondPart R C) (ExprPart R C)) → ExprTotal R C (roll-NExpr (expr_parts R C y))
unfolding cond_part expr_part
expr_total_rolled R C y =
    let P : Part Value → Type 0 = IsTotal R C (AllIn R) in
    subst P (sym (fold-roll-NExpr (Part Bool) (Part Value) cond_at expr_at (expr_parts R C y)))
    (expr_total_at R C y)

pub expr_total : (R : Allowed) (C : ℕ → ℕ → Type 0) → (e : NExpr) → ExprTotal R C e
expr_total R C = ind-NExpr (CondTotal R C) (ExprTotal R C)
    (λ x y is. subst (λ (z : NCond-F NCond NExpr). CondTotal R C (roll-NCond z)) is
    (cond_total_rolled R C y))
    (λ x y is. subst (λ (z : NExpr-F NCond NExpr). ExprTotal R C (roll-NExpr z)) is
    (expr_total_rolled R C y))

pub cond_total : (R : Allowed) (C : ℕ → ℕ → Type 0) → (c : NCond) → CondTotal R C c
cond_total R C = ind-NCond (CondTotal R C) (ExprTotal R C)
    (λ x y is. subst (λ (z : NCond-F NCond NExpr). CondTotal R C (roll-NCond z)) is
    (cond_total_rolled R C y))
    (λ x y is. subst (λ (z : NExpr-F NCond NExpr). ExprTotal R C (roll-NExpr z)) is
    (expr_total_rolled R C y))

abbrev TreeTotal : Allowed → (ℕ → ℕ → Type 0) → NTree → Type 0
TreeTotal R C t = IsTotal R C (AtEnd R C) (tree_part t)

abbrev TreePart : Allowed → (ℕ → ℕ → Type 0) → Type 0
TreePart R C = (t : NTree) × TreeTotal R C t

abbrev tree_parts : (R : Allowed) (C : ℕ → ℕ → Type 0) → NTree-F (TreePart R C)
    → NTree-F NTree
tree_parts R C = map-NTree (TreePart R C) NTree (λ t. t.0)

tree_total_at : (R : Allowed) (C : ℕ → ℕ → Type 0) (y : NTree-F (TreePart R C))
    → IsTotal R C (AtEnd R C) (tree_at (map-NTree NTree (Part End) tree_part (tree_parts R C y)))
tree_total_at R C (NTree-F.Leaf e) =
    λ s h n c calls. then_gives R (AllIn R) (AtEnd R C) ((expr_part e).run s n c) _
    (expr_total R C e s h n c calls) (λ v good. (good, tt))
tree_total_at R C (NTree-F.Await p) = λ s h n c calls. calls.1
tree_total_at R C (NTree-F.If b x y) =
    chosen_total R C (AtEnd R C) (cond_part b) (tree_part x.0) (tree_part y.0) (cond_total R C b)
    x.1 y.1

tree_total_rolled : (R : Allowed) (C : ℕ → ℕ → Type 0) (y : NTree-F (TreePart R C))
    → TreeTotal R C (roll-NTree (tree_parts R C y))
unfolding tree_part
tree_total_rolled R C y =
    let P : Part End → Type 0 = IsTotal R C (AtEnd R C) in
    subst P (sym (fold-roll-NTree (Part End) tree_at (tree_parts R C y))) (tree_total_at R C y)

pub tree_total : (R : Allowed) (C : ℕ → ℕ → Type 0) → (t : NTree) → TreeTotal R C t
tree_total R C = ind-NTree (TreeTotal R C)
    (λ x y is. subst (λ (z : NTree-F NTree). TreeTotal R C (roll-NTree z)) is
    (tree_total_rolled R C y))

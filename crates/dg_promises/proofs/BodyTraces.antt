-- The run of a body is traced, where what it sees is.
use Rattle.std.proofs.Common.{◌≡◌, ℕ, suc, ◌+◌, Bool, true, false, cond, List, [], ◌∷◌, ◌++◌, length, map, Option, Some, None, refl, sym, subst}
use Rattle.std.specs.Prelude.{ℤ, ◌+ℤ◌, pos, codes}
use Rattle.std.specs.List.{filter_map, cons_option}
use Rattle.std.specs.Option.{option_map_or}
use Rattle.std.specs.Fmt.{signed_decimal}
use Rattle.std.proofs.lemmas.Option.{none-some}
use Rattle.dg_lex.specs.Bytes.{Bytes}
use Rattle.dg_types.specs.declared.key.MapKeyVal.{MapKeyVal}
use Rattle.dg_decl.specs.declared.expression.CallName.{CallName}
use Rattle.dg_decl.specs.declared.expression.CallName.TheVariants as call
use Rattle.dg_decl.specs.declared.expression.ParamCall.{ParamCall}
use Rattle.dg_decl.specs.declared.expression.ParamCall.TheVariants as by_name
use Rattle.dg_decl.proofs.MemberLemmas.{out_option_map}
use Rattle.dg_slots.specs.declared.body.NExpr.{NExpr}
use Rattle.dg_slots.specs.declared.body.NCond.{NCond}
use Rattle.dg_slots.specs.declared.body.NCond.TheOpen.{NExpr-F}
use Rattle.dg_slots.specs.declared.body.NCond.TheViews.{roll-NExpr}
use Rattle.dg_slots.specs.declared.body.NCond.TheFolds.{ind-NExpr, map-NExpr, fold-roll-NExpr}
use Rattle.dg_slots.specs.declared.body.NTree.{NTree}
use Rattle.dg_slots.specs.declared.body.NTree.TheOpen.{NTree-F}
use Rattle.dg_slots.specs.declared.body.NTree.TheViews.{roll-NTree}
use Rattle.dg_slots.specs.declared.body.NTree.TheFolds.{ind-NTree, map-NTree, fold-roll-NTree}
use Rattle.dg_value.specs.declared.place.Place.{Place}
use Rattle.dg_value.specs.declared.place.PlaceStep.TheVariants as step
use Rattle.dg_value.specs.declared.value.Value.{Value, out-Value}
use Rattle.dg_value.specs.declared.value.Kept.{Kept, out-Kept}
use Rattle.dg_value.specs.declared.value.Kept.TheOpen.{Kept-F, Value-F}
use Rattle.dg_value.specs.declared.value.Value.TheVariants as value
use Rattle.dg_value.specs.Places.{then_step}
use Rattle.dg_value.specs.Same.{Layer}
use Rattle.dg_eval.specs.Runs.{Run, gives, failed, and_then, in_order, mistyped}
use Rattle.dg_eval.specs.Operations.{or_mistyped, field_in, is_in_range, sum_of, sum_in, with_two, all_in, joined, cat_of, cat_in, only_of, int_in, text_in, decimal_of, size_at, fail_of, kept_in, value_of_kept, value_in, message_of, failure_in, value_if, entry_value, keyed, inside_in}
use Rattle.dg_eval.specs.Bodies.{End, value_end, producer_end, Around, Part, runs_of, looked, look_all, of_two, of_all, has_same, with_element, with_elements, set_of, values_at, values_in, called_with, by_param, inside_or, cond_at, chosen, expr_at, expr_part, cond_part, tree_at, tree_part}
use Rattle.dg_eval.proofs.RunResults.{Allowed, Each, each_append}
use Rattle.dg_eval.proofs.ValueLemmas.{AllIn, AllInKept, InEntry, InLayer, InKeptLayer, layer_of, kept_layer_of, in_text, in_int, in_object, in_set, in_map}
use Rattle.dg_eval.proofs.BodyResults.{Any, field_gives, only_gives, kept_in_good, value_of_good, inside_good}
use Rattle.dg_promises.proofs.TraceLemmas.{Traced, gives_traced, any_traced, then_traced, if_traced, option_traced, in_order_traced}

-- ---- operations

two_traced : {A : Type 0} (R : Allowed) (P : Value → Type 0) (x y : Option A)
    → (f : A → A → Run Value) → ((a b : A) → Traced R P (f a b)) → Traced R P (with_two x y f)
two_traced R P (Some a) (Some b) f h = h a b
two_traced R P (Some a) None f h = tt
two_traced R P None y f h = tt

sum_traced : (R : Allowed) (origin : ℕ) (v w : Value) → Traced R (AllIn R) (sum_in origin v w)
sum_traced R origin v w =
    two_traced R (AllIn R) (int_in v) (int_in w) (sum_of origin)
    (λ a b. if_traced R (AllIn R) (is_in_range (a +ℤ b)) (gives (value.Int (a +ℤ b)))
    (failed origin (codes "overflow")) (λ every. in_int R (a +ℤ b)) tt)

cat_traced : (R : Allowed) (origin : ℕ) (o : Option (List Bytes))
    → Traced R (AllIn R) (cat_of origin o)
cat_traced R origin None = tt
cat_traced R origin (Some ts) =
    if_traced R (AllIn R) _ (failed origin (codes "text too long"))
    (gives (value.Text (joined ts))) tt (λ every. in_text R (joined ts))

decimal_traced : (R : Allowed) (o : Option ℤ) → Traced R (AllIn R) (decimal_of o)
decimal_traced R None = tt
decimal_traced R (Some n) = λ every. in_text R (signed_decimal n)

size_traced : (R : Allowed) (l : Layer) → Traced R (AllIn R) (size_at l)
size_traced R (Value-F.Text t) = λ every. in_int R (pos (length t))
size_traced R (Value-F.Set vs) = λ every. in_int R (pos (length vs))
size_traced R (Value-F.Map es) = λ every. in_int R (pos (length es))
size_traced R other = tt

fail_traced : (R : Allowed) (origin : ℕ) (o : Option Bytes) → Traced R (AllIn R) (fail_of origin o)
fail_traced R origin None = tt
fail_traced R origin (Some t) = tt

of_kept_traced : (R : Allowed) (k : Kept) (l : Kept-F Kept Value) → out-Kept k ≡ l
    → InKeptLayer R l → Traced R (AllIn R) (value_of_kept k)
of_kept_traced R k (Kept-F.Value v) e good = rw e (λ every. good)
of_kept_traced R k (Kept-F.Failed f) e good = rw e tt

value_in_traced : (R : Allowed) (v : Value) → AllIn R v → Traced R (AllIn R) (value_in v)
value_in_traced R v good =
    option_traced R (AllIn R) (kept_in v) value_of_kept mistyped
    (λ k e. of_kept_traced R k (out-Kept k) refl (kept_layer_of R k (kept_in_good R v k good e))) tt

failure_traced : (R : Allowed) (v : Value) → Traced R (AllIn R) (failure_in v)
failure_traced R v =
    option_traced R (AllIn R) (kept_in v) _ mistyped (λ k e every. in_text R (message_of k)) tt

-- ---- entries

each_given : {A : Type 0} (Q : A → Type 0) (o : Option A) (xs : List A)
    → ((x : A) → o ≡ Some x → Q x) → Each Q xs → Each Q (cons_option o xs)
each_given Q None xs h every = every
each_given Q (Some y) xs h every = (h y refl, every)

each_filter_map : {A B : Type 0} (P : A → Type 0) (Q : B → Type 0) (f : A → Option B)
    → (xs : List A) → ((x : A) (y : B) → P x → f x ≡ Some y → Q y) → Each P xs
    → Each Q (filter_map f xs)
each_filter_map P Q f [] h every = tt
each_filter_map P Q f (x ∷ xs) h every =
    each_given Q (f x) (filter_map f xs) (λ y e. h x y every.0 e)
    (each_filter_map P Q f xs h every.1)

entry_of_kept : (R : Allowed) (o : Option Kept) (w : Value)
    → ((k : Kept) → o ≡ Some k → AllInKept R k) → option_map_or value_if o None ≡ Some w
    → AllIn R w
entry_of_kept R None w h e = absurd (none-some w e)
entry_of_kept R (Some k) w h e = value_of_good R k w (h k refl) e

entry_good : (R : Allowed) (v w : Value) → AllIn R v → entry_value v ≡ Some w → AllIn R w
entry_good R v w good e = entry_of_kept R (kept_in v) w (λ k h. kept_in_good R v k good h) e

keyed_good : (R : Allowed) (e f : MapKeyVal × Value) → InEntry (AllIn R) e
    → keyed e ≡ Some f → InEntry (AllIn R) f
keyed_good R e f good is =
    let o = out_option_map (λ v. (e.0, v)) (entry_value e.1) f is in
    let P : MapKeyVal × Value → Type 0 = InEntry (AllIn R) in
    subst P o.2 (entry_good R e.1 o.0 good o.1)

-- ---- sets

abbrev pub Looks : Allowed → (Value → Run Value) → Type 0
Looks R look = (v : Value) → AllIn R v → Traced R (AllIn R) (look v)

either_good : (R : Allowed) (has : Bool) (vs : List Value) (v : Value) → AllIn R v
    → Each (AllIn R) vs → Each (AllIn R) (cond has vs (vs ++ v ∷ []))
either_good R true vs v good every = every
either_good R false vs v good every = each_append (AllIn R) vs (v ∷ []) every (good, tt)

element_traced : (R : Allowed) (look : Value → Run Value) (vs : List Value) (v : Value)
    → Each (AllIn R) vs → AllIn R v → Traced R (Each (AllIn R)) (with_element look vs v)
element_traced R look vs v every good =
    then_traced R Any (Each (AllIn R)) (has_same look v vs) _ (any_traced R (has_same look v vs))
    (λ has u asked. either_good R has vs v good every)

elements_traced : (R : Allowed) (look : Value → Run Value) (vs ws : List Value)
    → Each (AllIn R) vs → Each (AllIn R) ws
    → Traced R (Each (AllIn R)) (with_elements look vs ws)
elements_traced R look vs [] every more = λ asked. every
elements_traced R look vs (w ∷ ws) every more =
    then_traced R (Each (AllIn R)) (Each (AllIn R)) (with_element look vs w) _
    (element_traced R look vs w every more.0)
    (λ xs good. elements_traced R look xs ws good more.1)

pub set_traced : (R : Allowed) (look : Value → Run Value) (vs : List Value) → Each (AllIn R) vs
    → Traced R (AllIn R) (set_of look vs)
set_traced R look vs every =
    then_traced R (Each (AllIn R)) (AllIn R) (with_elements look [] vs) _
    (elements_traced R look [] vs tt every) (λ xs good asked. in_set R xs good)

values_traced : (R : Allowed) (look : Value → Run Value) (l : Layer) → InLayer R l
    → Traced R (AllIn R) (values_at look l)
values_traced R look (Value-F.Set vs) every =
    set_traced R look (filter_map entry_value vs)
    (each_filter_map (AllIn R) (AllIn R) entry_value vs (λ v w. entry_good R v w) every)
values_traced R look (Value-F.Map es) every =
    let good = each_filter_map (InEntry (AllIn R)) (InEntry (AllIn R)) keyed es
    (λ e f. keyed_good R e f) every in
    λ asked. in_map R (filter_map keyed es) good
values_traced R look other every = tt

-- ---- what a body sees

-- what is so of the end of a tree, where that is a value
abbrev pub AtEnd : Allowed → End → Type 0
AtEnd R (value_end v) = AllIn R v
AtEnd R (producer_end i k) = Unit {0}

pub record Sees (R : Allowed) (s : Around) : Type 0 where
  pub param : (p : ℕ) → Traced R (AllIn R) (s.param p)
  pub got : (p : ℕ) (q : Place) → Traced R (AllIn R) (s.got p q)
  pub awaited : (p : ℕ) (q : Place) → Traced R (AtEnd R) (s.awaited p q)
  pub look : Looks R s.look

abbrev pub IsTraced : Allowed → {A : Type 0} → (A → Type 0) → Part A → Type 0
IsTraced R P p = (s : Around) → Sees R s → (n c : ℕ) → Traced R P (p.run s n c)

abbrev AllTraced : Allowed → List (Part Value) → Type 0
AllTraced R ps = Each (IsTraced R (AllIn R)) ps

runs_traced : (R : Allowed) (ps : List (Part Value)) → AllTraced R ps → (s : Around) → Sees R s
    → (n c : ℕ) → Each (Traced R (AllIn R)) (runs_of ps s n c)
runs_traced R [] every s h n c = tt
runs_traced R (p ∷ ps) every s h n c =
    (every.0 s h n c, runs_traced R ps every.1 s h (n + p.news) (c + length p.called))

looked_traced : (R : Allowed) (p : Part Value) → IsTraced R (AllIn R) p → (s : Around) → Sees R s
    → (n c : ℕ) → Traced R (AllIn R) (looked p s n c)
looked_traced R p g s h n c =
    then_traced R (AllIn R) (AllIn R) (p.run s n c) s.look (g s h n c) h.look

of_two_traced : (R : Allowed) {B : Type 0} (P : B → Type 0) (a b : Part Value)
    → (next : Around → Value → Value → Run B)
    → ((s : Around) (v w : Value) → Traced R P (next s v w)) → IsTraced R (AllIn R) a
    → IsTraced R (AllIn R) b → IsTraced R P (of_two a b next)
of_two_traced R P a b next made ga gb s h n c =
    then_traced R (AllIn R) P (looked a s n c) _ (looked_traced R a ga s h n c)
    (λ v gv. then_traced R (AllIn R) P (looked b s (n + a.news) (c + length a.called)) (next s v)
    (looked_traced R b gb s h (n + a.news) (c + length a.called)) (λ w gw. made s v w))

all_looked : (R : Allowed) (look : Value → Run Value) → Looks R look → (vs : List Value)
    → Each (AllIn R) vs → Each (Traced R (AllIn R)) (map look vs)
all_looked R look h [] every = tt
all_looked R look h (v ∷ vs) every = (h v every.0, all_looked R look h vs every.1)

one_traced : (R : Allowed) (s : Around) → Sees R s → (vs : List Value) → Each (AllIn R) vs
    → (next : Value → Run Value) → ((v : Value) → Traced R (AllIn R) (next v))
    → Traced R (AllIn R) (and_then (or_mistyped (only_of vs)) (λ v. and_then (s.look v) next))
one_traced R s h vs every next made =
    then_traced R (AllIn R) (AllIn R) (or_mistyped (only_of vs)) _
    (gives_traced R (AllIn R) (or_mistyped (only_of vs)) (only_gives R vs every))
    (λ v good. then_traced R (AllIn R) (AllIn R) (s.look v) next (h.look v good) (λ w gw. made w))

called_traced : (R : Allowed) (f : CallName) (s : Around) → Sees R s → (vs : List Value)
    → Each (AllIn R) vs → Traced R (AllIn R) (called_with f s vs)
called_traced R call.Cat s h vs every =
    then_traced R (Each (AllIn R)) (AllIn R) (look_all s vs) (cat_in s.origin)
    (in_order_traced R (AllIn R) (map s.look vs) (all_looked R s.look h.look vs every))
    (λ ws good. cat_traced R s.origin (all_in text_in ws))
called_traced R call.TextOf s h vs every =
    one_traced R s h vs every (λ w. decimal_of (int_in w)) (λ v. decimal_traced R (int_in v))
called_traced R call.Size s h vs every =
    one_traced R s h vs every (λ w. size_at (out-Value w)) (λ v. size_traced R (out-Value v))
called_traced R call.SetOf s h vs every = set_traced R s.look vs every
called_traced R call.Fail s h vs every =
    one_traced R s h vs every (λ w. fail_of s.origin (text_in w))
    (λ v. fail_traced R s.origin (text_in v))

param_traced : (R : Allowed) {A : Type 0} (P : A → Type 0) (p : ℕ) (f : Value → Run A)
    → (s : Around) → Sees R s → ((v : Value) → AllIn R v → Traced R P (f v))
    → Traced R P (and_then (s.param p) f)
param_traced R P p f s h made = then_traced R (AllIn R) P (s.param p) f (h.param p) made

by_param_traced : (R : Allowed) (f : ParamCall) (p : ℕ) → IsTraced R (AllIn R) (by_param f p)
by_param_traced R by_name.Get p s h n c = h.got p (then_step s.place (step.Call (suc c)))
by_param_traced R by_name.Value p s h n c =
    param_traced R (AllIn R) p value_in s h (λ v good. value_in_traced R v good)
by_param_traced R by_name.Values p s h n c =
    param_traced R (AllIn R) p (values_in s.look) s h
    (λ v good. values_traced R s.look (out-Value v) (layer_of R v good))
by_param_traced R by_name.Failure p s h n c =
    param_traced R (AllIn R) p failure_in s h (λ v good. failure_traced R v)

inside_traced : (R : Allowed) (o : Option (Option Value)) (x : Run Value)
    → ((w : Value) → o ≡ Some (Some w) → AllIn R w) → Traced R (AllIn R) x
    → Traced R (AllIn R) (inside_or o x)
inside_traced R None x h g = tt
inside_traced R (Some None) x h g = g
inside_traced R (Some (Some v)) x h g = λ every. h v refl

chosen_traced : (R : Allowed) {A : Type 0} (P : A → Type 0) (b : Part Bool) (x y : Part A)
    → IsTraced R P x → IsTraced R P y → IsTraced R P (chosen b x y)
chosen_traced R P b x y gx gy s h n c =
    then_traced R Any P (b.run s n c) _ (any_traced R (b.run s n c))
    (λ holds u. if_traced R P holds _ _ (gx s h (n + b.news) (c + length b.called))
    (gy s h ((n + b.news) + x.news) ((c + length b.called) + length x.called)))

args_traced : (R : Allowed) (ps : List (Part Value)) (next : Around → List Value → Run Value)
    → AllTraced R ps
    → ((s : Around) → Sees R s → (vs : List Value) → Each (AllIn R) vs
    → Traced R (AllIn R) (next s vs))
    → IsTraced R (AllIn R) (of_all ps next)
args_traced R ps next every made s h n c =
    then_traced R (Each (AllIn R)) (AllIn R) (in_order (runs_of ps s n c)) (next s)
    (in_order_traced R (AllIn R) (runs_of ps s n c) (runs_traced R ps every s h n c)) (made s h)

new_traced : (R : Allowed) (class : ℕ) (ps : List (Part Value)) → AllTraced R ps
    → IsTraced R (AllIn R) (expr_at (NExpr-F.New class ps))
new_traced R class ps every s h n c =
    then_traced R (Each (AllIn R)) (AllIn R) (in_order (runs_of ps s (suc n) c)) _
    (in_order_traced R (AllIn R) (runs_of ps s (suc n) c) (runs_traced R ps every s h (suc n) c))
    (λ vs good asked. in_object R class (then_step s.place (step.New (suc n))) vs good)

-- ---- by induction over expressions and trees

abbrev ExprTraced : Allowed → NExpr → Type 0
ExprTraced R e = IsTraced R (AllIn R) (expr_part e)

abbrev CondPart : Type 0
CondPart = (c : NCond) × Unit {0}

abbrev ExprPart : Allowed → Type 0
ExprPart R = (e : NExpr) × ExprTraced R e

all_parts : (R : Allowed) (xs : List (ExprPart R))
    → AllTraced R (map expr_part (map (λ e. e.0) xs))
all_parts R [] = tt
all_parts R (x ∷ xs) = (x.1, all_parts R xs)

abbrev expr_parts : (R : Allowed) → NExpr-F CondPart (ExprPart R) → NExpr-F NCond NExpr
expr_parts R = map-NExpr CondPart (ExprPart R) NCond NExpr (λ c. c.0) (λ e. e.0)

expr_traced_at : (R : Allowed) (y : NExpr-F CondPart (ExprPart R))
    → IsTraced R (AllIn R) (expr_at (map-NExpr NCond NExpr (Part Bool) (Part Value) cond_part
    expr_part (expr_parts R y)))
expr_traced_at R (NExpr-F.Text x) = λ s h n c asked. in_text R x
expr_traced_at R (NExpr-F.Int x) = λ s h n c asked. in_int R x
expr_traced_at R (NExpr-F.Param p) = λ s h n c. h.param p
expr_traced_at R (NExpr-F.New class args) =
    new_traced R class (map expr_part (map (λ e. e.0) args)) (all_parts R args)
expr_traced_at R (NExpr-F.Field e field) =
    λ s h n c. then_traced R (AllIn R) (AllIn R) (looked (expr_part e.0) s n c) (field_in field)
    (looked_traced R (expr_part e.0) e.1 s h n c)
    (λ v good. gives_traced R (AllIn R) (field_in field v) (field_gives R field v good))
expr_traced_at R (NExpr-F.Sum a b) =
    of_two_traced R (AllIn R) (expr_part a.0) (expr_part b.0) (λ s. sum_in s.origin)
    (λ s v w. sum_traced R s.origin v w) a.1 b.1
expr_traced_at R (NExpr-F.If b x y) =
    chosen_traced R (AllIn R) (cond_part b.0) (expr_part x.0) (expr_part y.0) x.1 y.1
expr_traced_at R (NExpr-F.Call f args) =
    args_traced R (map expr_part (map (λ e. e.0) args)) (called_with f) (all_parts R args)
    (called_traced R f)
expr_traced_at R (NExpr-F.ByName f p) = by_param_traced R f p
expr_traced_at R (NExpr-F.OrElse p e) =
    λ s h n c. param_traced R (AllIn R) p _ s h
    (λ v good. inside_traced R (inside_in v) ((expr_part e.0).run s n c)
    (λ w is. inside_good R (out-Value v) w (layer_of R v good) is) (e.1 s h n c))

expr_traced_rolled : (R : Allowed) (y : NExpr-F CondPart (ExprPart R))
    → ExprTraced R (roll-NExpr (expr_parts R y))
unfolding cond_part expr_part
expr_traced_rolled R y =
    let P : Part Value → Type 0 = IsTraced R (AllIn R) in
    subst P (sym (fold-roll-NExpr (Part Bool) (Part Value) cond_at expr_at (expr_parts R y)))
    (expr_traced_at R y)

expr_traced : (R : Allowed) (e : NExpr) → ExprTraced R e
expr_traced R = ind-NExpr (λ c. Unit {0}) (ExprTraced R) (λ x y is. tt)
    (λ x y is. subst (λ (z : NExpr-F NCond NExpr). ExprTraced R (roll-NExpr z)) is
    (expr_traced_rolled R y))

abbrev TreeTraced : Allowed → NTree → Type 0
TreeTraced R t = IsTraced R (AtEnd R) (tree_part t)

abbrev TreePart : Allowed → Type 0
TreePart R = (t : NTree) × TreeTraced R t

abbrev tree_parts : (R : Allowed) → NTree-F (TreePart R) → NTree-F NTree
tree_parts R = map-NTree (TreePart R) NTree (λ t. t.0)

tree_traced_at : (R : Allowed) (y : NTree-F (TreePart R))
    → IsTraced R (AtEnd R) (tree_at (map-NTree NTree (Part End) tree_part (tree_parts R y)))
tree_traced_at R (NTree-F.Leaf e) =
    λ s h n c. then_traced R (AllIn R) (AtEnd R) ((expr_part e).run s n c) _
    (expr_traced R e s h n c) (λ v good asked. good)
tree_traced_at R (NTree-F.Await p) =
    λ s h n c. h.awaited p (then_step s.place (step.Call (suc c)))
tree_traced_at R (NTree-F.If b x y) =
    chosen_traced R (AtEnd R) (cond_part b) (tree_part x.0) (tree_part y.0) x.1 y.1

tree_traced_rolled : (R : Allowed) (y : NTree-F (TreePart R))
    → TreeTraced R (roll-NTree (tree_parts R y))
unfolding tree_part
tree_traced_rolled R y =
    let P : Part End → Type 0 = IsTraced R (AtEnd R) in
    subst P (sym (fold-roll-NTree (Part End) tree_at (tree_parts R y))) (tree_traced_at R y)

pub tree_traced : (R : Allowed) (t : NTree) → TreeTraced R t
tree_traced R = ind-NTree (TreeTraced R)
    (λ x y is. subst (λ (z : NTree-F NTree). TreeTraced R (roll-NTree z)) is
    (tree_traced_rolled R y))

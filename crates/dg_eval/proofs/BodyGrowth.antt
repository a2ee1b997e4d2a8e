-- The run of a body grows with what it sees.
use Rattle.std.proofs.Common.{◌≡◌, ℕ, suc, ◌+◌, Bool, true, cond, List, [], ◌∷◌, ◌++◌, length, map, Option, Some, None, refl, sym, subst}
use Rattle.std.specs.List.{filter_map}
use Rattle.dg_decl.specs.declared.expression.CallName.{CallName}
use Rattle.dg_decl.specs.declared.expression.CallName.TheVariants as call
use Rattle.dg_decl.specs.declared.expression.ParamCall.{ParamCall}
use Rattle.dg_decl.specs.declared.expression.ParamCall.TheVariants as by_name
use Rattle.dg_slots.specs.declared.body.NExpr.{NExpr}
use Rattle.dg_slots.specs.declared.body.NCond.{NCond}
use Rattle.dg_slots.specs.declared.body.NCond.TheOpen.{NCond-F, NExpr-F}
use Rattle.dg_slots.specs.declared.body.NCond.TheViews.{roll-NCond, roll-NExpr}
use Rattle.dg_slots.specs.declared.body.NCond.TheFolds.{ind-NCond, ind-NExpr, map-NCond, map-NExpr, fold-roll-NCond, fold-roll-NExpr}
use Rattle.dg_slots.specs.declared.body.NTree.{NTree}
use Rattle.dg_slots.specs.declared.body.NTree.TheOpen.{NTree-F}
use Rattle.dg_slots.specs.declared.body.NTree.TheViews.{roll-NTree}
use Rattle.dg_slots.specs.declared.body.NTree.TheFolds.{ind-NTree, map-NTree, fold-roll-NTree}
use Rattle.dg_value.specs.declared.place.Place.{Place}
use Rattle.dg_value.specs.declared.place.PlaceStep.TheVariants as step
use Rattle.dg_value.specs.declared.value.Value.{Value, out-Value}
use Rattle.dg_value.specs.declared.value.Kept.TheOpen.{Value-F}
use Rattle.dg_value.specs.declared.value.Value.TheVariants as value
use Rattle.dg_value.specs.Places.{then_step}
use Rattle.dg_value.specs.Same.{Layer, same_element}
use Rattle.dg_eval.specs.Runs.{Run, gives, and_then, in_order}
use Rattle.dg_eval.specs.Operations.{or_mistyped, field_in, sum_in, less_in, equal_in, cat_in, only_of, int_in, text_in, decimal_of, size_at, fail_of, value_in, failure_in, is_ok_in, entry_value, inside_in, has_in}
use Rattle.dg_eval.specs.Bodies.{End, value_end, Around, Part, runs_of, looked, look_all, of_two, of_all, has_same, with_element, with_elements, set_of, values_at, values_in, called_with, by_param, inside_or, cond_at, chosen, expr_at, expr_part, cond_part, tree_at, tree_part}
use Rattle.dg_eval.proofs.RunGrowth.{Grows, AllGrow, grows_same, then_grows, if_grows, map_grows, in_order_grows}

-- what a body sees besides the slot and the place
pub record Seen : Type 0 where
  pub param : ℕ → Run Value
  pub got : ℕ → Place → Run Value
  pub awaited : ℕ → Place → Run End
  pub look : Value → Run Value

abbrev pub from : ℕ → Place → Seen → Around
from k q w = record {
  origin = k;
  place = q;
  param = w.param;
  got = w.got;
  awaited = w.awaited;
  look = w.look;
}

pub record SeenGrows (s t : Seen) : Type 0 where
  pub param : (p : ℕ) → Grows (s.param p) (t.param p)
  pub got : (p : ℕ) (q : Place) → Grows (s.got p q) (t.got p q)
  pub awaited : (p : ℕ) (q : Place) → Grows (s.awaited p q) (t.awaited p q)
  pub look : (v : Value) → Grows (s.look v) (t.look v)

-- a part whose run grows with what it sees
abbrev pub IsGrowing : {A : Type 0} → Part A → Type 0
IsGrowing p =
    (k : ℕ) (q : Place) (s t : Seen) → SeenGrows s t → (n c : ℕ)
    → Grows (p.run (from k q s) n c) (p.run (from k q t) n c)

abbrev pub AllGrowing : {A : Type 0} → List (Part A) → Type 0
AllGrowing [] = Unit {0}
AllGrowing (p ∷ ps) = IsGrowing p × AllGrowing ps

pub runs_grow : {A : Type 0} (ps : List (Part A)) → AllGrowing ps
    → (k : ℕ) (q : Place) (s t : Seen) → SeenGrows s t → (n c : ℕ)
    → AllGrow (runs_of ps (from k q s) n c) (runs_of ps (from k q t) n c)
runs_grow [] all k q s t h n c = tt
runs_grow (p ∷ ps) all k q s t h n c = (
  all.0 k q s t h n c,
  runs_grow ps all.1 k q s t h (n + p.news) (c + length p.called),
)

looked_grows : (p : Part Value) → IsGrowing p → (k : ℕ) (q : Place) (s t : Seen) → SeenGrows s t
    → (n c : ℕ) → Grows (looked p (from k q s) n c) (looked p (from k q t) n c)
looked_grows p g k q s t h n c =
    then_grows (p.run (from k q s) n c) (p.run (from k q t) n c) s.look t.look (g k q s t h n c)
    h.look

two_grow : {B : Type 0} (a b : Part Value) (next : Around → Value → Value → Run B)
    → ((k : ℕ) (q : Place) (s t : Seen) (v w : Value) → next (from k q s) v w
    ≡ next (from k q t) v w)
    → IsGrowing a → IsGrowing b → IsGrowing (of_two a b next)
two_grow {B} a b next same ga gb k q s t h n c =
    then_grows (looked a (from k q s) n c) (looked a (from k q t) n c) _ _
    (looked_grows a ga k q s t h n c)
    (λ v. then_grows (looked b (from k q s) (n + a.news) (c + length a.called))
    (looked b (from k q t) (n + a.news) (c + length a.called)) _ _
    (looked_grows b gb k q s t h (n + a.news) (c + length a.called))
    (λ w. (let P : Run B → Type 0 = λ r. Grows (next (from k q s) v w) r in
    subst P (same k q s t v w) (grows_same (next (from k q s) v w)))))

-- ---- sets

abbrev LookGrows : (Value → Run Value) → (Value → Run Value) → Type 0
LookGrows f g = (v : Value) → Grows (f v) (g v)

pub has_same_grows : (f g : Value → Run Value) → LookGrows f g → (v : Value) (vs : List Value)
    → Grows (has_same f v vs) (has_same g v vs)
has_same_grows f g h v [] = refl
has_same_grows f g h v (w ∷ ws) =
    then_grows (f v) (g v) _ _ (h v) (λ a. then_grows (f w) (g w) _ _ (h w)
    (λ b. if_grows (same_element a b) (gives true) (has_same f v ws) (gives true)
    (has_same g v ws) refl (has_same_grows f g h v ws)))

pub with_element_grows : (f g : Value → Run Value) → LookGrows f g → (vs : List Value) (v : Value)
    → Grows (with_element f vs v) (with_element g vs v)
with_element_grows f g h vs v =
    then_grows (has_same f v vs) (has_same g v vs) _ _ (has_same_grows f g h v vs)
    (λ has. grows_same (gives (cond has vs (vs ++ v ∷ []))))

pub with_elements_grows : (f g : Value → Run Value) → LookGrows f g → (vs ws : List Value)
    → Grows (with_elements f vs ws) (with_elements g vs ws)
with_elements_grows f g h vs [] = refl
with_elements_grows f g h vs (w ∷ ws) =
    then_grows (with_element f vs w) (with_element g vs w) _ _ (with_element_grows f g h vs w)
    (λ more. with_elements_grows f g h more ws)

pub set_grows : (f g : Value → Run Value) → LookGrows f g → (vs : List Value)
    → Grows (set_of f vs) (set_of g vs)
set_grows f g h vs =
    then_grows (with_elements f [] vs) (with_elements g [] vs) _ _ (with_elements_grows f g h [] vs)
    (λ elements. grows_same (gives (value.Set elements)))

values_at_grows : (f g : Value → Run Value) → LookGrows f g → (l : Layer)
    → Grows (values_at f l) (values_at g l)
values_at_grows f g h (Value-F.Set vs) = set_grows f g h (filter_map entry_value vs)
values_at_grows f g h (Value-F.Map es) = refl
values_at_grows f g h other = refl

look_all_grows : (k : ℕ) (q : Place) (s t : Seen) → SeenGrows s t → (vs : List Value)
    → Grows (look_all (from k q s) vs) (look_all (from k q t) vs)
look_all_grows k q s t h vs =
    in_order_grows (map s.look vs) (map t.look vs) (map_grows s.look t.look vs h.look)

-- ---- expressions

-- the one argument, looked behind, and what is made of it
one_grows : (k : ℕ) (q : Place) (s t : Seen) → SeenGrows s t → (vs : List Value)
    → (next : Value → Run Value)
    → Grows (and_then (or_mistyped (only_of vs)) (λ v. and_then (s.look v) next))
    (and_then (or_mistyped (only_of vs)) (λ v. and_then (t.look v) next))
one_grows k q s t h vs next =
    then_grows (or_mistyped (only_of vs)) (or_mistyped (only_of vs)) _ _
    (grows_same (or_mistyped (only_of vs)))
    (λ v. then_grows (s.look v) (t.look v) next next (h.look v) (λ w. grows_same (next w)))

called_grows : (f : CallName) (k : ℕ) (q : Place) (s t : Seen) → SeenGrows s t → (vs : List Value)
    → Grows (called_with f (from k q s) vs) (called_with f (from k q t) vs)
called_grows call.Cat k q s t h vs =
    then_grows (look_all (from k q s) vs) (look_all (from k q t) vs) (cat_in k) (cat_in k)
    (look_all_grows k q s t h vs) (λ ws. grows_same (cat_in k ws))
called_grows call.TextOf k q s t h vs = one_grows k q s t h vs (λ w. decimal_of (int_in w))
called_grows call.Size k q s t h vs = one_grows k q s t h vs (λ w. size_at (out-Value w))
called_grows call.SetOf k q s t h vs = set_grows s.look t.look h.look vs
called_grows call.Fail k q s t h vs = one_grows k q s t h vs (λ w. fail_of k (text_in w))

param_grows : {A : Type 0} (p : ℕ) (f : Value → Run A) (s t : Seen) → SeenGrows s t
    → Grows (and_then (s.param p) f) (and_then (t.param p) f)
param_grows p f s t h =
    then_grows (s.param p) (t.param p) f f (h.param p) (λ v. grows_same (f v))

by_param_grows : (f : ParamCall) (p : ℕ) → IsGrowing (by_param f p)
by_param_grows by_name.Get p k q s t h n c = h.got p (then_step q (step.Call (suc c)))
by_param_grows by_name.Value p k q s t h n c = param_grows p value_in s t h
by_param_grows by_name.Values p k q s t h n c =
    then_grows (s.param p) (t.param p) (values_in s.look) (values_in t.look) (h.param p)
    (λ v. values_at_grows s.look t.look h.look (out-Value v))
by_param_grows by_name.Failure p k q s t h n c = param_grows p failure_in s t h

inside_grows : (o : Option (Option Value)) (x y : Run Value) → Grows x y
    → Grows (inside_or o x) (inside_or o y)
inside_grows None x y g = refl
inside_grows (Some None) x y g = g
inside_grows (Some (Some v)) x y g = refl

chosen_grows : {A : Type 0} (b : Part Bool) (x y : Part A) → IsGrowing b → IsGrowing x
    → IsGrowing y → IsGrowing (chosen b x y)
chosen_grows b x y gb gx gy k q s t h n c =
    then_grows (b.run (from k q s) n c) (b.run (from k q t) n c) _ _ (gb k q s t h n c)
    (λ holds. if_grows holds _ _ _ _ (gx k q s t h (n + b.news) (c + length b.called))
    (gy k q s t h ((n + b.news) + x.news) ((c + length b.called) + length x.called)))

args_grow : (ps : List (Part Value)) (next : Around → List Value → Run Value) → AllGrowing ps
    → ((k : ℕ) (q : Place) (s t : Seen) → SeenGrows s t → (vs : List Value)
    → Grows (next (from k q s) vs) (next (from k q t) vs))
    → IsGrowing (of_all ps next)
args_grow ps next all same k q s t h n c =
    then_grows (in_order (runs_of ps (from k q s) n c)) (in_order (runs_of ps (from k q t) n c))
    (next (from k q s)) (next (from k q t))
    (in_order_grows (runs_of ps (from k q s) n c) (runs_of ps (from k q t) n c)
    (runs_grow ps all k q s t h n c)) (same k q s t h)

new_grows : (class : ℕ) (ps : List (Part Value)) → AllGrowing ps
    → IsGrowing (expr_at (NExpr-F.New class ps))
new_grows class ps all k q s t h n c =
    then_grows (in_order (runs_of ps (from k q s) (suc n) c))
    (in_order (runs_of ps (from k q t) (suc n) c)) _ _
    (in_order_grows (runs_of ps (from k q s) (suc n) c) (runs_of ps (from k q t) (suc n) c)
    (runs_grow ps all k q s t h (suc n) c))
    (λ vs. grows_same (gives (value.Object class (then_step q (step.New (suc n))) vs)))

-- ---- by induction over expressions, conditions and trees

abbrev CondPart : Type 0
CondPart = (c : NCond) × IsGrowing (cond_part c)

abbrev ExprPart : Type 0
ExprPart = (e : NExpr) × IsGrowing (expr_part e)

all_parts : (xs : List ExprPart) → AllGrowing (map expr_part (map (λ e. e.0) xs))
all_parts [] = tt
all_parts (x ∷ xs) = (x.1, all_parts xs)

abbrev cond_parts : NCond-F CondPart ExprPart → NCond-F NCond NExpr
cond_parts = map-NCond CondPart ExprPart NCond NExpr (λ c. c.0) (λ e. e.0)

abbrev expr_parts : NExpr-F CondPart ExprPart → NExpr-F NCond NExpr
expr_parts = map-NExpr CondPart ExprPart NCond NExpr (λ c. c.0) (λ e. e.0)

cond_grows_at : (y : NCond-F CondPart ExprPart)
    → IsGrowing (cond_at (map-NCond NCond NExpr (Part Bool) (Part Value) cond_part expr_part
    (cond_parts y)))
cond_grows_at (NCond-F.Equal a b) =
    two_grow (expr_part a.0) (expr_part b.0) (λ s. equal_in) (λ k q s t v w. refl) a.1 b.1
cond_grows_at (NCond-F.Less a b) =
    two_grow (expr_part a.0) (expr_part b.0) (λ s. less_in) (λ k q s t v w. refl) a.1 b.1
cond_grows_at (NCond-F.Has p) = λ k q s t h n c. param_grows p has_in s t h
cond_grows_at (NCond-F.IsOk p) = λ k q s t h n c. param_grows p is_ok_in s t h

expr_grows_at : (y : NExpr-F CondPart ExprPart)
    → IsGrowing (expr_at (map-NExpr NCond NExpr (Part Bool) (Part Value) cond_part expr_part
    (expr_parts y)))
expr_grows_at (NExpr-F.Text x) = λ k q s t h n c. refl
expr_grows_at (NExpr-F.Int x) = λ k q s t h n c. refl
expr_grows_at (NExpr-F.Param p) = λ k q s t h n c. h.param p
expr_grows_at (NExpr-F.New class args) = new_grows class (map expr_part (map (λ e. e.0) args)) (all_parts args)
expr_grows_at (NExpr-F.Field e field) =
    λ k q s t h n c. then_grows (looked (expr_part e.0) (from k q s) n c)
    (looked (expr_part e.0) (from k q t) n c) (field_in field) (field_in field)
    (looked_grows (expr_part e.0) e.1 k q s t h n c) (λ v. grows_same (field_in field v))
expr_grows_at (NExpr-F.Sum a b) =
    two_grow (expr_part a.0) (expr_part b.0) (λ s. sum_in s.origin) (λ k q s t v w. refl) a.1 b.1
expr_grows_at (NExpr-F.If b x y) =
    chosen_grows (cond_part b.0) (expr_part x.0) (expr_part y.0) b.1 x.1 y.1
expr_grows_at (NExpr-F.Call f args) =
    args_grow (map expr_part (map (λ e. e.0) args)) (called_with f) (all_parts args) (called_grows f)
expr_grows_at (NExpr-F.ByName f p) = by_param_grows f p
expr_grows_at (NExpr-F.OrElse p e) =
    λ k q s t h n c. then_grows (s.param p) (t.param p) _ _ (h.param p)
    (λ v. inside_grows (inside_in v) ((expr_part e.0).run (from k q s) n c)
    ((expr_part e.0).run (from k q t) n c) (e.1 k q s t h n c))

cond_grows_rolled : (y : NCond-F CondPart ExprPart)
    → IsGrowing (cond_part (roll-NCond (cond_parts y)))
unfolding cond_part expr_part
cond_grows_rolled y =
    subst IsGrowing (sym (fold-roll-NCond (Part Bool) (Part Value) cond_at expr_at (cond_parts y)))
    (cond_grows_at y)

expr_grows_rolled : (y : NExpr-F CondPart ExprPart)
    → IsGrowing (expr_part (roll-NExpr (expr_parts y)))
unfolding cond_part expr_part
expr_grows_rolled y =
    subst IsGrowing (sym (fold-roll-NExpr (Part Bool) (Part Value) cond_at expr_at (expr_parts y)))
    (expr_grows_at y)

pub expr_grows : (e : NExpr) → IsGrowing (expr_part e)
expr_grows = ind-NExpr (λ c. IsGrowing (cond_part c)) (λ e. IsGrowing (expr_part e))
    (λ x y is. subst (λ (z : NCond-F NCond NExpr). IsGrowing (cond_part (roll-NCond z))) is
    (cond_grows_rolled y))
    (λ x y is. subst (λ (z : NExpr-F NCond NExpr). IsGrowing (expr_part (roll-NExpr z))) is
    (expr_grows_rolled y))

pub cond_grows : (c : NCond) → IsGrowing (cond_part c)
cond_grows = ind-NCond (λ c. IsGrowing (cond_part c)) (λ e. IsGrowing (expr_part e))
    (λ x y is. subst (λ (z : NCond-F NCond NExpr). IsGrowing (cond_part (roll-NCond z))) is
    (cond_grows_rolled y))
    (λ x y is. subst (λ (z : NExpr-F NCond NExpr). IsGrowing (expr_part (roll-NExpr z))) is
    (expr_grows_rolled y))

abbrev TreePart : Type 0
TreePart = (t : NTree) × IsGrowing (tree_part t)

abbrev tree_parts : NTree-F TreePart → NTree-F NTree
tree_parts = map-NTree TreePart NTree (λ t. t.0)

tree_grows_at : (y : NTree-F TreePart)
    → IsGrowing (tree_at (map-NTree NTree (Part End) tree_part (tree_parts y)))
tree_grows_at (NTree-F.Leaf e) =
    λ k q s t h n c. then_grows ((expr_part e).run (from k q s) n c)
    ((expr_part e).run (from k q t) n c) _ _ (expr_grows e k q s t h n c)
    (λ v. grows_same (gives (value_end v)))
tree_grows_at (NTree-F.Await p) =
    λ k q s t h n c. h.awaited p (then_step q (step.Call (suc c)))
tree_grows_at (NTree-F.If b x y) =
    chosen_grows (cond_part b) (tree_part x.0) (tree_part y.0) (cond_grows b) x.1 y.1

tree_grows_rolled : (y : NTree-F TreePart) → IsGrowing (tree_part (roll-NTree (tree_parts y)))
unfolding tree_part
tree_grows_rolled y =
    subst IsGrowing (sym (fold-roll-NTree (Part End) tree_at (tree_parts y))) (tree_grows_at y)

pub tree_grows : (t : NTree) → IsGrowing (tree_part t)
tree_grows = ind-NTree (λ t. IsGrowing (tree_part t))
    (λ x y is. subst (λ (z : NTree-F NTree). IsGrowing (tree_part (roll-NTree z))) is
    (tree_grows_rolled y))

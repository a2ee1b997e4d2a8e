-- The value of a constant names nothing.
use Rattle.std.proofs.Common.{ℕ, suc, ◌+◌, List, [], ◌∷◌, map, option_and_then, slice_get, sym, subst}
use Rattle.std.specs.Prelude.{pos}
use Rattle.dg_decl.specs.declared.document.Doc.{Doc}
use Rattle.dg_decl.proofs.MemberLemmas.{out_option_map}
use Rattle.dg_slots.specs.declared.body.NExpr.{NExpr}
use Rattle.dg_slots.specs.declared.body.NCond.{NCond}
use Rattle.dg_slots.specs.declared.body.NCond.TheOpen.{NExpr-F}
use Rattle.dg_slots.specs.declared.body.NCond.TheViews.{roll-NExpr}
use Rattle.dg_slots.specs.declared.body.NCond.TheFolds.{ind-NExpr, map-NExpr, fold-roll-NExpr}
use Rattle.dg_slots.specs.declared.body.NCond.{fold-NCond}
use Rattle.dg_slots.specs.declared.session.Inst.{Inst}
use Rattle.dg_value.specs.declared.place.Place.{Place}
use Rattle.dg_value.specs.declared.place.PlaceRoot.TheVariants as root
use Rattle.dg_value.specs.declared.place.PlaceStep.TheVariants as step
use Rattle.dg_value.specs.Places.{at_root, then_step}
use Rattle.dg_eval.specs.Operations.{or_mistyped}
use Rattle.dg_eval.specs.World.{inst_at, Constant, values_of, no_constant, constant_at, constant_in, constant, bound_value}
use Rattle.dg_eval.proofs.RunResults.{Allowed, Gives, Each, or_gives}
use Rattle.dg_eval.proofs.ValueLemmas.{AllIn, in_text, in_int, in_object}

abbrev IsGood : Allowed → Constant → Type 0
IsGood R c = (place : Place) (count : ℕ) → AllIn R (c.value place count)

values_good : (R : Allowed) (cs : List Constant) → Each (IsGood R) cs
    → (place : Place) (count : ℕ) → Each (AllIn R) (values_of cs place count)
values_good R [] all place count = tt
values_good R (c ∷ cs) all place count =
    (all.0 place count, values_good R cs all.1 place (count + c.news))

abbrev Good : Allowed → NExpr → Type 0
Good R e = IsGood R (constant e)

abbrev CondPart : Type 0
CondPart = (c : NCond) × Unit {0}

abbrev ExprPart : Allowed → Type 0
ExprPart R = (e : NExpr) × Good R e

all_good : (R : Allowed) (xs : List (ExprPart R))
    → Each (IsGood R) (map constant (map (λ e. e.0) xs))
all_good R [] = tt
all_good R (x ∷ xs) = (x.1, all_good R xs)

abbrev conditions : NCond → Constant
conditions = fold-NCond Constant Constant constant_in constant_at

abbrev parts : (R : Allowed) → NExpr-F CondPart (ExprPart R) → NExpr-F NCond NExpr
parts R = map-NExpr CondPart (ExprPart R) NCond NExpr (λ c. c.0) (λ e. e.0)

none_good : (R : Allowed) → IsGood R no_constant
none_good R place count = in_int R (pos 0)

good_at : (R : Allowed) (y : NExpr-F CondPart (ExprPart R))
    → IsGood R (constant_at (map-NExpr NCond NExpr Constant Constant conditions constant (parts R
    y)))
good_at R (NExpr-F.Text t) = λ place count. in_text R t
good_at R (NExpr-F.Int n) = λ place count. in_int R n
good_at R (NExpr-F.New class args) =
    λ place count. in_object R class (then_step place (step.New (suc count)))
    (values_of (map constant (map (λ e. e.0) args)) place (suc count))
    (values_good R (map constant (map (λ e. e.0) args)) (all_good R args) place (suc count))
good_at R other = none_good R

good_rolled : (R : Allowed) (y : NExpr-F CondPart (ExprPart R))
    → Good R (roll-NExpr (parts R y))
unfolding constant
good_rolled R y =
    let P : Constant → Type 0 = IsGood R in
    subst P (sym (fold-roll-NExpr Constant Constant constant_in constant_at (parts R y)))
    (good_at R y)

constant_good : (R : Allowed) (e : NExpr) → Good R e
constant_good R = ind-NExpr (λ c. Unit {0}) (Good R) (λ x y is. tt)
    (λ x y is. subst (λ (z : NExpr-F NCond NExpr). Good R (roll-NExpr z)) is (good_rolled R y))

pub bound_gives : (R : Allowed) (doc : Doc) (i a : ℕ)
    → Gives R (AllIn R) (or_mistyped (bound_value doc i a))
unfolding bound_value
bound_gives R doc i a =
    or_gives R (AllIn R) (bound_value doc i a)
    (λ v is. (let o = out_option_map (λ e. (constant e).value (at_root (root.Arg i a)) 0)
    (option_and_then (λ (x : Inst). slice_get x.bound a) (inst_at doc i)) v is in
    subst (AllIn R) o.2 (constant_good R o.0 (at_root (root.Arg i a)) 0)))

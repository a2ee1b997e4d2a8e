-- What typing says of an expression or a condition, by its form.
use Rattle.std.proofs.Common.{◌≡◌, ◌&&◌, ◌||◌, ℤ, List, false, map, Option, Some, None, is_some, ap, sym, ◌∙◌}
use Rattle.std.specs.Option.{option_map_or}
use Rattle.dg_lex.specs.Bytes.{Bytes}
use Rattle.dg_types.specs.declared.shape.Shape.{Shape, out-Shape}
use Rattle.dg_types.specs.declared.shape.Shape.TheVariants as shape
use Rattle.dg_decl.specs.declared.document.Doc.{Doc}
use Rattle.dg_decl.specs.declared.item.Param.{Param}
use Rattle.dg_decl.specs.declared.expression.CallName.{CallName}
use Rattle.dg_decl.specs.declared.expression.CallName.TheVariants as call
use Rattle.dg_decl.specs.declared.expression.ParamCall.{ParamCall}
use Rattle.dg_decl.specs.declared.expression.Expr.{Expr}
use Rattle.dg_decl.specs.declared.expression.Expr.TheVariants as expr
use Rattle.dg_decl.specs.declared.expression.Cond.{Cond}
use Rattle.dg_decl.specs.declared.expression.Cond.TheVariants as cond
use Rattle.dg_decl.specs.declared.expression.Cond.TheOpen.{Expr-F}
use Rattle.dg_decl.specs.Names.{fields_of}
use Rattle.dg_decl.specs.Typing.{Typed, typed, typed_at, typed_call, is_typed_condition, is_typed_at, is_assignable, type_of_param, type_of_field, type_by_name, typed_or_else, giving, arguments_check, members_check, element_at, one_checks, if_so, part, inside_at, produced_at, is_optional_at}
use Rattle.dg_typing.proofs.TypeEquations.{out_text, out_int}
use Rattle.dg_decl.proofs.FoldEquations.{expr-Text, expr-Int, expr-Param, expr-New, expr-Field, expr-Sum, expr-If, expr-Call, expr-ByName, expr-OrElse, cond-Equal, cond-Less, cond-Has, cond-IsOk}

-- ---- what an expression says, from what its parts say

typed-Text : (d : Doc) (ps : List Param) (t : Bytes)
    → typed d ps (expr.Text t) ≡ typed_at d ps (Expr-F.Text t)
unfolding typed
typed-Text d ps t = expr-Text (is_typed_at d ps) (typed_at d ps) t

typed-Int : (d : Doc) (ps : List Param) (n : ℤ)
    → typed d ps (expr.Int n) ≡ typed_at d ps (Expr-F.Int n)
unfolding typed
typed-Int d ps n = expr-Int (is_typed_at d ps) (typed_at d ps) n

typed-Param : (d : Doc) (ps : List Param) (p : Bytes)
    → typed d ps (expr.Param p) ≡ typed_at d ps (Expr-F.Param p)
unfolding typed
typed-Param d ps p = expr-Param (is_typed_at d ps) (typed_at d ps) p

typed-New : (d : Doc) (ps : List Param) (c : Bytes) (xs : List Expr)
    → typed d ps (expr.New c xs) ≡ typed_at d ps (Expr-F.New c (map (typed d ps) xs))
unfolding typed
typed-New d ps c xs = expr-New (is_typed_at d ps) (typed_at d ps) c xs

typed-Field : (d : Doc) (ps : List Param) (e : Expr) (n : Bytes)
    → typed d ps (expr.Field e n) ≡ typed_at d ps (Expr-F.Field (typed d ps e) n)
unfolding typed
typed-Field d ps e n = expr-Field (is_typed_at d ps) (typed_at d ps) e n

typed-Sum : (d : Doc) (ps : List Param) (a b : Expr)
    → typed d ps (expr.Sum a b) ≡ typed_at d ps (Expr-F.Sum (typed d ps a) (typed d ps b))
unfolding typed
typed-Sum d ps a b = expr-Sum (is_typed_at d ps) (typed_at d ps) a b

typed-If : (d : Doc) (ps : List Param) (c : Cond) (a b : Expr)
    → typed d ps (expr.If c a b)
    ≡ typed_at d ps (Expr-F.If (is_typed_condition d ps c) (typed d ps a) (typed d ps b))
unfolding typed is_typed_condition
typed-If d ps c a b = expr-If (is_typed_at d ps) (typed_at d ps) c a b

typed-Call : (d : Doc) (ps : List Param) (f : CallName) (xs : List Expr)
    → typed d ps (expr.Call f xs) ≡ typed_call d f (map (typed d ps) xs)
unfolding typed
typed-Call d ps f xs = expr-Call (is_typed_at d ps) (typed_at d ps) f xs

typed-ByName : (d : Doc) (ps : List Param) (f : ParamCall) (p : Bytes)
    → typed d ps (expr.ByName f p) ≡ typed_at d ps (Expr-F.ByName f p)
unfolding typed
typed-ByName d ps f p = expr-ByName (is_typed_at d ps) (typed_at d ps) f p

typed-OrElse : (d : Doc) (ps : List Param) (p : Bytes) (e : Expr)
    → typed d ps (expr.OrElse p e) ≡ typed_at d ps (Expr-F.OrElse p (typed d ps e))
unfolding typed
typed-OrElse d ps p e = expr-OrElse (is_typed_at d ps) (typed_at d ps) p e

-- ---- the type that it gives

pub gives-Text : (d : Doc) (ps : List Param) (t : Bytes)
    → (typed d ps (expr.Text t)).gives ≡ Some shape.Text
gives-Text d ps t = ap (λ e. e.gives) (typed-Text d ps t)

pub gives-Int : (d : Doc) (ps : List Param) (n : ℤ)
    → (typed d ps (expr.Int n)).gives ≡ Some shape.Int
gives-Int d ps n = ap (λ e. e.gives) (typed-Int d ps n)

pub gives-Param : (d : Doc) (ps : List Param) (p : Bytes)
    → (typed d ps (expr.Param p)).gives ≡ type_of_param ps p
gives-Param d ps p = ap (λ e. e.gives) (typed-Param d ps p)

pub gives-New : (d : Doc) (ps : List Param) (c : Bytes) (xs : List Expr)
    → (typed d ps (expr.New c xs)).gives
    ≡ if_so (option_map_or (arguments_check (map (typed d ps) xs)) (fields_of d c) false)
    (shape.Named c)
gives-New d ps c xs = ap (λ e. e.gives) (typed-New d ps c xs)

pub gives-Field : (d : Doc) (ps : List Param) (e : Expr) (n : Bytes)
    → (typed d ps (expr.Field e n)).gives
    ≡ part (λ t. type_of_field d t n) (typed d ps e).gives
gives-Field d ps e n = ap (λ e. e.gives) (typed-Field d ps e n)

pub gives-Sum : (d : Doc) (ps : List Param) (a b : Expr)
    → (typed d ps (expr.Sum a b)).gives
    ≡ if_so ((typed d ps a).checks shape.Int && (typed d ps b).checks shape.Int) shape.Int
gives-Sum d ps a b = ap (λ e. e.gives) (typed-Sum d ps a b)

pub gives-If : (d : Doc) (ps : List Param) (c : Cond) (a b : Expr)
    → (typed d ps (expr.If c a b)).gives ≡ None
gives-If d ps c a b = ap (λ e. e.gives) (typed-If d ps c a b)

pub gives-Call : (d : Doc) (ps : List Param) (f : CallName) (xs : List Expr)
    → (typed d ps (expr.Call f xs)).gives ≡ (typed_call d f (map (typed d ps) xs)).gives
gives-Call d ps f xs = ap (λ e. e.gives) (typed-Call d ps f xs)

pub gives-ByName : (d : Doc) (ps : List Param) (f : ParamCall) (p : Bytes)
    → (typed d ps (expr.ByName f p)).gives ≡ type_by_name ps f p
gives-ByName d ps f p = ap (λ e. e.gives) (typed-ByName d ps f p)

pub gives-OrElse : (d : Doc) (ps : List Param) (p : Bytes) (e : Expr)
    → (typed d ps (expr.OrElse p e)).gives
    ≡ typed_or_else (part inside_at (type_of_param ps p)) (typed d ps e)
gives-OrElse d ps p e = ap (λ e. e.gives) (typed-OrElse d ps p e)

pub ruleset gives = (
  gives-Text,
  gives-Int,
  gives-Param,
  gives-New,
  gives-Field,
  gives-Sum,
  gives-If,
  gives-Call,
  gives-ByName,
  gives-OrElse,
)

-- ---- the types against which it checks

-- it checks against the types to which the one that it gives is assignable
abbrev ByType : Doc → List Param → Expr → Shape → Type 0
ByType d ps e w =
    (typed d ps e).checks w ≡ option_map_or (λ t. is_assignable d t w) (typed d ps e).gives false

by_type : (d : Doc) (x : Typed) (g : Option Shape) (w : Shape)
    → x ≡ giving d g
    → x.checks w ≡ option_map_or (λ t. is_assignable d t w) x.gives false
by_type d x g w e =
    ap (λ y. y.checks w) e
    ∙ ap (λ o. option_map_or (λ t. is_assignable d t w) o false) (sym (ap (λ y. y.gives) e))

pub checks-Text : (d : Doc) (ps : List Param) (t : Bytes) (w : Shape) → ByType d ps (expr.Text t) w
checks-Text d ps t w = by_type d _ _ w (typed-Text d ps t)

pub checks-Int : (d : Doc) (ps : List Param) (n : ℤ) (w : Shape) → ByType d ps (expr.Int n) w
checks-Int d ps n w = by_type d _ _ w (typed-Int d ps n)

pub checks-Param : (d : Doc) (ps : List Param) (p : Bytes) (w : Shape)
    → ByType d ps (expr.Param p) w
checks-Param d ps p w = by_type d _ _ w (typed-Param d ps p)

pub checks-New : (d : Doc) (ps : List Param) (c : Bytes) (xs : List Expr) (w : Shape)
    → ByType d ps (expr.New c xs) w
checks-New d ps c xs w = by_type d _ _ w (typed-New d ps c xs)

pub checks-Field : (d : Doc) (ps : List Param) (e : Expr) (n : Bytes) (w : Shape)
    → ByType d ps (expr.Field e n) w
checks-Field d ps e n w = by_type d _ _ w (typed-Field d ps e n)

pub checks-Sum : (d : Doc) (ps : List Param) (a b : Expr) (w : Shape)
    → ByType d ps (expr.Sum a b) w
checks-Sum d ps a b w = by_type d _ _ w (typed-Sum d ps a b)

pub checks-ByName : (d : Doc) (ps : List Param) (f : ParamCall) (p : Bytes) (w : Shape)
    → ByType d ps (expr.ByName f p) w
checks-ByName d ps f p w = by_type d _ _ w (typed-ByName d ps f p)

pub checks-OrElse : (d : Doc) (ps : List Param) (p : Bytes) (e : Expr) (w : Shape)
    → ByType d ps (expr.OrElse p e) w
checks-OrElse d ps p e w = by_type d _ _ w (typed-OrElse d ps p e)

pub checks-Cat : (d : Doc) (ps : List Param) (xs : List Expr) (w : Shape)
    → ByType d ps (expr.Call call.Cat xs) w
checks-Cat d ps xs w = by_type d _ _ w (typed-Call d ps call.Cat xs)

pub checks-TextOf : (d : Doc) (ps : List Param) (xs : List Expr) (w : Shape)
    → ByType d ps (expr.Call call.TextOf xs) w
checks-TextOf d ps xs w = by_type d _ _ w (typed-Call d ps call.TextOf xs)

pub checks-Size : (d : Doc) (ps : List Param) (xs : List Expr) (w : Shape)
    → ByType d ps (expr.Call call.Size xs) w
checks-Size d ps xs w = by_type d _ _ w (typed-Call d ps call.Size xs)

pub checks-SetOf : (d : Doc) (ps : List Param) (xs : List Expr) (w : Shape)
    → (typed d ps (expr.Call call.SetOf xs)).checks w
    ≡ members_check (map (typed d ps) xs) (element_at (out-Shape w))
checks-SetOf d ps xs w = ap (λ e. e.checks w) (typed-Call d ps call.SetOf xs)

-- neither `Text` nor `Int` has elements

pub set_of-Text : (d : Doc) (ps : List Param) (xs : List Expr)
    → (typed d ps (expr.Call call.SetOf xs)).checks shape.Text ≡ false
set_of-Text d ps xs =
    checks-SetOf d ps xs shape.Text
    ∙ ap (λ l. members_check (map (typed d ps) xs) (element_at l)) out_text

pub set_of-Int : (d : Doc) (ps : List Param) (xs : List Expr)
    → (typed d ps (expr.Call call.SetOf xs)).checks shape.Int ≡ false
set_of-Int d ps xs =
    checks-SetOf d ps xs shape.Int
    ∙ ap (λ l. members_check (map (typed d ps) xs) (element_at l)) out_int

pub checks-Fail : (d : Doc) (ps : List Param) (xs : List Expr) (w : Shape)
    → (typed d ps (expr.Call call.Fail xs)).checks w
    ≡ one_checks (map (typed d ps) xs) shape.Text
checks-Fail d ps xs w = ap (λ e. e.checks w) (typed-Call d ps call.Fail xs)

pub checks-If : (d : Doc) (ps : List Param) (c : Cond) (a b : Expr) (w : Shape)
    → (typed d ps (expr.If c a b)).checks w
    ≡ (is_typed_condition d ps c && (typed d ps a).checks w && (typed d ps b).checks w)
checks-If d ps c a b w = ap (λ e. e.checks w) (typed-If d ps c a b)

pub ruleset checks = (
  checks-Text,
  checks-Int,
  checks-Param,
  checks-New,
  checks-Field,
  checks-Sum,
  checks-ByName,
  checks-OrElse,
  checks-Cat,
  checks-TextOf,
  checks-Size,
  checks-SetOf,
  set_of-Text,
  set_of-Int,
  checks-Fail,
  checks-If,
)

-- ---- conditions

pub typed-Equal : (d : Doc) (ps : List Param) (a b : Expr)
    → is_typed_condition d ps (cond.Equal a b)
    ≡ (((typed d ps a).checks shape.Text && (typed d ps b).checks shape.Text)
    || ((typed d ps a).checks shape.Int && (typed d ps b).checks shape.Int))
unfolding typed is_typed_condition
typed-Equal d ps a b = cond-Equal (is_typed_at d ps) (typed_at d ps) a b

pub typed-Less : (d : Doc) (ps : List Param) (a b : Expr)
    → is_typed_condition d ps (cond.Less a b)
    ≡ ((typed d ps a).checks shape.Int && (typed d ps b).checks shape.Int)
unfolding typed is_typed_condition
typed-Less d ps a b = cond-Less (is_typed_at d ps) (typed_at d ps) a b

pub typed-Has : (d : Doc) (ps : List Param) (p : Bytes)
    → is_typed_condition d ps (cond.Has p)
    ≡ option_map_or (λ t. is_optional_at (out-Shape t)) (type_of_param ps p) false
unfolding is_typed_condition
typed-Has d ps p = cond-Has (is_typed_at d ps) (typed_at d ps) p

pub typed-IsOk : (d : Doc) (ps : List Param) (p : Bytes)
    → is_typed_condition d ps (cond.IsOk p)
    ≡ is_some (part produced_at (type_of_param ps p))
unfolding is_typed_condition
typed-IsOk d ps p = cond-IsOk (is_typed_at d ps) (typed_at d ps) p

pub ruleset conditions = (
  typed-Equal,
  typed-Less,
  typed-Has,
  typed-IsOk,
)

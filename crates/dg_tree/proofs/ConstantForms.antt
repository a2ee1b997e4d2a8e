-- The constants, by the forms of expressions.
use Rattle.std.proofs.Common.{◌≡◌, ℕ, ℤ, suc, List, map, sym, ap, ◌∙◌, pos}
use Rattle.dg_lex.specs.Bytes.{Bytes}
use Rattle.dg_decl.specs.declared.expression.CallName.{CallName}
use Rattle.dg_decl.specs.declared.expression.ParamCall.{ParamCall}
use Rattle.dg_slots.specs.declared.body.NCond.{NCond}
use Rattle.dg_slots.specs.declared.body.NCond.TheFolds.{fold-roll-NExpr}
use Rattle.dg_slots.specs.declared.body.NCond.TheOpen.{NExpr-F}
use Rattle.dg_slots.specs.declared.body.NExpr.{NExpr, fold-NExpr}
use Rattle.dg_slots.specs.declared.body.NExpr.TheVariants as nexpr
use Rattle.dg_value.specs.declared.place.Place.{Place}
use Rattle.dg_value.specs.declared.place.PlaceStep.TheVariants as step
use Rattle.dg_value.specs.declared.value.Value.TheVariants as value
use Rattle.dg_value.specs.Places.{then_step}
use Rattle.dg_eval.specs.World.{Constant, constant, constant_at, constant_in, no_constant, news_of, values_of}

constant-Text : (t : Bytes)
    → constant (nexpr.Text t) ≡ constant_at (NExpr-F.Text t)
unfolding constant
constant-Text t =
    ap (fold-NExpr Constant Constant constant_in constant_at) (sym (nexpr.rolls-Text t))
    ∙ fold-roll-NExpr Constant Constant constant_in constant_at (NExpr-F.Text t)

constant-Int : (n : ℤ)
    → constant (nexpr.Int n) ≡ constant_at (NExpr-F.Int n)
unfolding constant
constant-Int n =
    ap (fold-NExpr Constant Constant constant_in constant_at) (sym (nexpr.rolls-Int n))
    ∙ fold-roll-NExpr Constant Constant constant_in constant_at (NExpr-F.Int n)

constant-Param : (p : ℕ)
    → constant (nexpr.Param p) ≡ no_constant
unfolding constant
constant-Param p =
    ap (fold-NExpr Constant Constant constant_in constant_at) (sym (nexpr.rolls-Param p))
    ∙ fold-roll-NExpr Constant Constant constant_in constant_at (NExpr-F.Param p)

constant-New : (c : ℕ) (xs : List NExpr)
    → constant (nexpr.New c xs) ≡ constant_at (NExpr-F.New c (map constant xs))
unfolding constant
constant-New c xs =
    ap (fold-NExpr Constant Constant constant_in constant_at) (sym (nexpr.rolls-New c xs))
    ∙ fold-roll-NExpr Constant Constant constant_in constant_at (NExpr-F.New c xs)

constant-Field : (e : NExpr) (n : ℕ)
    → constant (nexpr.Field e n) ≡ no_constant
unfolding constant
constant-Field e n =
    ap (fold-NExpr Constant Constant constant_in constant_at) (sym (nexpr.rolls-Field e n))
    ∙ fold-roll-NExpr Constant Constant constant_in constant_at (NExpr-F.Field e n)

constant-Sum : (a b : NExpr)
    → constant (nexpr.Sum a b) ≡ no_constant
unfolding constant
constant-Sum a b =
    ap (fold-NExpr Constant Constant constant_in constant_at) (sym (nexpr.rolls-Sum a b))
    ∙ fold-roll-NExpr Constant Constant constant_in constant_at (NExpr-F.Sum a b)

constant-If : (c : NCond) (a b : NExpr)
    → constant (nexpr.If c a b) ≡ no_constant
unfolding constant
constant-If c a b =
    ap (fold-NExpr Constant Constant constant_in constant_at) (sym (nexpr.rolls-If c a b))
    ∙ fold-roll-NExpr Constant Constant constant_in constant_at (NExpr-F.If c a b)

constant-Call : (f : CallName) (xs : List NExpr)
    → constant (nexpr.Call f xs) ≡ no_constant
unfolding constant
constant-Call f xs =
    ap (fold-NExpr Constant Constant constant_in constant_at) (sym (nexpr.rolls-Call f xs))
    ∙ fold-roll-NExpr Constant Constant constant_in constant_at (NExpr-F.Call f xs)

constant-ByName : (f : ParamCall) (p : ℕ)
    → constant (nexpr.ByName f p) ≡ no_constant
unfolding constant
constant-ByName f p =
    ap (fold-NExpr Constant Constant constant_in constant_at) (sym (nexpr.rolls-ByName f p))
    ∙ fold-roll-NExpr Constant Constant constant_in constant_at (NExpr-F.ByName f p)

constant-OrElse : (p : ℕ) (e : NExpr)
    → constant (nexpr.OrElse p e) ≡ no_constant
unfolding constant
constant-OrElse p e =
    ap (fold-NExpr Constant Constant constant_in constant_at) (sym (nexpr.rolls-OrElse p e))
    ∙ fold-roll-NExpr Constant Constant constant_in constant_at (NExpr-F.OrElse p e)

-- ---- what they have

pub value-Text : (t : Bytes) (place : Place) (count : ℕ)
    → (constant (nexpr.Text t)).value place count
    ≡ value.Text t
value-Text t place count = ap (λ (c : Constant). c.value place count) (constant-Text t)

pub news-Text : (t : Bytes) → (constant (nexpr.Text t)).news ≡ 0
news-Text t = ap (λ (c : Constant). c.news) (constant-Text t)

pub value-Int : (n : ℤ) (place : Place) (count : ℕ)
    → (constant (nexpr.Int n)).value place count
    ≡ value.Int n
value-Int n place count = ap (λ (c : Constant). c.value place count) (constant-Int n)

pub news-Int : (n : ℤ) → (constant (nexpr.Int n)).news ≡ 0
news-Int n = ap (λ (c : Constant). c.news) (constant-Int n)

pub value-New : (c : ℕ) (xs : List NExpr) (place : Place) (count : ℕ)
    → (constant (nexpr.New c xs)).value place count
    ≡ value.Object c (then_step place (step.New (suc count)))
    (values_of (map constant xs) place (suc count))
value-New c xs place count = ap (λ (c : Constant). c.value place count) (constant-New c xs)

pub news-New : (c : ℕ) (xs : List NExpr) → (constant (nexpr.New c xs)).news ≡ suc (news_of (map constant xs))
news-New c xs = ap (λ (c : Constant). c.news) (constant-New c xs)

pub value-Param : (p : ℕ) (place : Place) (count : ℕ)
    → (constant (nexpr.Param p)).value place count
    ≡ value.Int (pos 0)
value-Param p place count = ap (λ (c : Constant). c.value place count) (constant-Param p)

pub news-Param : (p : ℕ) → (constant (nexpr.Param p)).news ≡ 0
news-Param p = ap (λ (c : Constant). c.news) (constant-Param p)

pub value-Field : (e : NExpr) (n : ℕ) (place : Place) (count : ℕ)
    → (constant (nexpr.Field e n)).value place count
    ≡ value.Int (pos 0)
value-Field e n place count = ap (λ (c : Constant). c.value place count) (constant-Field e n)

pub news-Field : (e : NExpr) (n : ℕ) → (constant (nexpr.Field e n)).news ≡ 0
news-Field e n = ap (λ (c : Constant). c.news) (constant-Field e n)

pub value-Sum : (a b : NExpr) (place : Place) (count : ℕ)
    → (constant (nexpr.Sum a b)).value place count
    ≡ value.Int (pos 0)
value-Sum a b place count = ap (λ (c : Constant). c.value place count) (constant-Sum a b)

pub news-Sum : (a b : NExpr) → (constant (nexpr.Sum a b)).news ≡ 0
news-Sum a b = ap (λ (c : Constant). c.news) (constant-Sum a b)

pub value-If : (c : NCond) (a b : NExpr) (place : Place) (count : ℕ)
    → (constant (nexpr.If c a b)).value place count
    ≡ value.Int (pos 0)
value-If c a b place count = ap (λ (c : Constant). c.value place count) (constant-If c a b)

pub news-If : (c : NCond) (a b : NExpr) → (constant (nexpr.If c a b)).news ≡ 0
news-If c a b = ap (λ (c : Constant). c.news) (constant-If c a b)

pub value-Call : (f : CallName) (xs : List NExpr) (place : Place) (count : ℕ)
    → (constant (nexpr.Call f xs)).value place count
    ≡ value.Int (pos 0)
value-Call f xs place count = ap (λ (c : Constant). c.value place count) (constant-Call f xs)

pub news-Call : (f : CallName) (xs : List NExpr) → (constant (nexpr.Call f xs)).news ≡ 0
news-Call f xs = ap (λ (c : Constant). c.news) (constant-Call f xs)

pub value-ByName : (f : ParamCall) (p : ℕ) (place : Place) (count : ℕ)
    → (constant (nexpr.ByName f p)).value place count
    ≡ value.Int (pos 0)
value-ByName f p place count = ap (λ (c : Constant). c.value place count) (constant-ByName f p)

pub news-ByName : (f : ParamCall) (p : ℕ) → (constant (nexpr.ByName f p)).news ≡ 0
news-ByName f p = ap (λ (c : Constant). c.news) (constant-ByName f p)

pub value-OrElse : (p : ℕ) (e : NExpr) (place : Place) (count : ℕ)
    → (constant (nexpr.OrElse p e)).value place count
    ≡ value.Int (pos 0)
value-OrElse p e place count = ap (λ (c : Constant). c.value place count) (constant-OrElse p e)

pub news-OrElse : (p : ℕ) (e : NExpr) → (constant (nexpr.OrElse p e)).news ≡ 0
news-OrElse p e = ap (λ (c : Constant). c.news) (constant-OrElse p e)

pub ruleset constants = (
  value-Text,
  news-Text,
  value-Int,
  news-Int,
  value-New,
  news-New,
  value-Param,
  news-Param,
  value-Field,
  news-Field,
  value-Sum,
  news-Sum,
  value-If,
  news-If,
  value-Call,
  news-Call,
  value-ByName,
  news-ByName,
  value-OrElse,
  news-OrElse,
)

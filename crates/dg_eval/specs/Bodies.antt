-- Bodies: what an expression, a condition or a decision tree gives. Parts are evaluated from left to
-- right, and the first failure is that of the whole.
use Rattle.std.specs.Prelude.{ℕ, suc, ◌+◌, Bool, true, false, if◌then◌else◌, List, [], ◌∷◌, ◌++◌, length, map, Option, Some, None}
use Rattle.std.specs.List.{filter_map}
use Rattle.dg_decl.specs.declared.expression.CallName.{CallName}
use Rattle.dg_decl.specs.declared.expression.CallName.TheVariants as call
use Rattle.dg_decl.specs.declared.expression.ParamCall.{ParamCall}
use Rattle.dg_decl.specs.declared.expression.ParamCall.TheVariants as by_name
use Rattle.dg_slots.specs.declared.body.NExpr.{NExpr, fold-NExpr}
use Rattle.dg_slots.specs.declared.body.NCond.{NCond, fold-NCond}
use Rattle.dg_slots.specs.declared.body.NCond.TheOpen.{NCond-F, NExpr-F}
use Rattle.dg_slots.specs.declared.body.NTree.{NTree, fold-NTree}
use Rattle.dg_slots.specs.declared.body.NTree.TheOpen.{NTree-F}
use Rattle.dg_value.specs.declared.place.Place.{Place}
use Rattle.dg_value.specs.declared.place.PlaceStep.TheVariants as step
use Rattle.dg_value.specs.declared.value.Value.{Value, out-Value}
use Rattle.dg_value.specs.declared.value.Kept.TheOpen.{Value-F}
use Rattle.dg_value.specs.declared.value.Value.TheVariants as value
use Rattle.dg_value.specs.Places.{then_step}
use Rattle.dg_value.specs.Same.{Layer, same_element}
use Rattle.dg_eval.specs.Runs.{Run, gives, and_then, in_order, mistyped}
use Rattle.dg_eval.specs.Operations.{or_mistyped, field_in, sum_in, less_in, equal_in, cat_in, only_of, int_in, text_in, decimal_of, size_at, fail_of, value_in, failure_in, is_ok_in, entry_value, keyed, inside_in, has_in}

-- where a decision tree ends: in a value, or in the cell of a producer, by its instance and slot
pub data End : Type 0 where
  value_end : Value → End
  producer_end : ℕ → ℕ → End

-- What a body sees of where it is evaluated: the slot whose body it is, its place, the value of each
-- parameter, what a `get` of one gives at a place, where an `await` of one leads, and the content
-- behind a held value.
pub record Around : Type 0 where
  pub origin : ℕ
  pub place : Place
  pub param : ℕ → Run Value
  pub got : ℕ → Place → Run Value
  pub awaited : ℕ → Place → Run End
  pub look : Value → Run Value

-- A part of a body: how many `new` it has, which parameters it calls by `get` or `await` in reading
-- order, and what it gives, where so many `new` and so many calls stand before it.
pub record Part (A : Type 0) : Type 0 where
  pub news : ℕ
  pub called : List ℕ
  pub run : Around → ℕ → ℕ → Run A

-- a part without `new` and calls
abbrev pub plain : {A : Type 0} → (Around → Run A) → Part A
plain run = record { news = 0; called = []; run = λ s n c. run s }

abbrev pub news_of : {A : Type 0} → List (Part A) → ℕ
news_of [] = 0
news_of (p ∷ ps) = p.news + news_of ps

abbrev pub called_of : {A : Type 0} → List (Part A) → List ℕ
called_of [] = []
called_of (p ∷ ps) = p.called ++ called_of ps

-- the runs of parts that stand one behind the other
abbrev pub runs_of : {A : Type 0} → List (Part A) → Around → ℕ → ℕ → List (Run A)
runs_of [] s n c = []
runs_of (p ∷ ps) s n c = p.run s n c ∷ runs_of ps s (n + p.news) (c + length p.called)

-- a part, and what is made of its value behind a held one
abbrev pub looked : Part Value → Around → ℕ → ℕ → Run Value
looked p s n c = and_then (p.run s n c) s.look

-- the content behind each of these
abbrev pub look_all : Around → List Value → Run (List Value)
look_all s vs = in_order (map s.look vs)

-- two parts, and what is made of the contents behind their values
abbrev pub of_two : {B : Type 0} → Part Value → Part Value → (Around → Value → Value → Run B) → Part B
of_two a b next = record {
  news = a.news + b.news;
  called = a.called ++ b.called;
  run = λ s n c. and_then (looked a s n c)
      (λ v. and_then (looked b s (n + a.news) (c + length a.called)) (next s v));
}

-- arguments in order, and what is made of their values
abbrev pub of_all : List (Part Value) → (Around → List Value → Run Value) → Part Value
of_all args next = record {
  news = news_of args;
  called = called_of args;
  run = λ s n c. and_then (in_order (runs_of args s n c)) (next s);
}

-- ---- sets

-- an element of these is equal to a value, by the contents behind both
abbrev pub has_same : (Value → Run Value) → Value → List Value → Run Bool
has_same look v [] = gives false
has_same look v (w ∷ ws) =
    and_then (look v) (λ a. and_then (look w) (λ b.
    if same_element a b then gives true else has_same look v ws))

-- elements with one more, unless one of them is equal to it
abbrev pub with_element : (Value → Run Value) → List Value → Value → Run (List Value)
with_element look vs v =
    and_then (has_same look v vs) (λ has. gives (if has then vs else vs ++ v ∷ []))

-- elements with these one after another: of equal ones the first is kept
abbrev pub with_elements : (Value → Run Value) → List Value → List Value → Run (List Value)
with_elements look vs [] = gives vs
with_elements look vs (w ∷ ws) =
    and_then (with_element look vs w) (λ more. with_elements look more ws)

-- the set of some values
abbrev pub set_of : (Value → Run Value) → List Value → Run Value
set_of look vs = and_then (with_elements look [] vs) (λ elements. gives (value.Set elements))

-- the entries that are values: of a set of equal ones the first
abbrev pub values_at : (Value → Run Value) → Layer → Run Value
values_at look (Value-F.Set vs) = set_of look (filter_map entry_value vs)
values_at look (Value-F.Map es) = gives (value.Map (filter_map keyed es))
values_at look other = mistyped

abbrev pub values_in : (Value → Run Value) → Value → Run Value
values_in look v = values_at look (out-Value v)

-- ---- expressions

abbrev pub called_with : CallName → Around → List Value → Run Value
called_with call.Cat s vs = and_then (look_all s vs) (cat_in s.origin)
called_with call.TextOf s vs =
    and_then (or_mistyped (only_of vs)) (λ v. and_then (s.look v) (λ w. decimal_of (int_in w)))
called_with call.Size s vs =
    and_then (or_mistyped (only_of vs)) (λ v. and_then (s.look v) (λ w. size_at (out-Value w)))
called_with call.SetOf s vs = set_of s.look vs
called_with call.Fail s vs =
    and_then (or_mistyped (only_of vs))
    (λ v. and_then (s.look v) (λ w. fail_of s.origin (text_in w)))

abbrev pub by_param : ParamCall → ℕ → Part Value
by_param by_name.Get p = record {
  news = 0;
  called = p ∷ [];
  run = λ s n c. s.got p (then_step s.place (step.Call (suc c)));
}
by_param by_name.Value p = plain (λ s. and_then (s.param p) value_in)
by_param by_name.Values p = plain (λ s. and_then (s.param p) (values_in s.look))
by_param by_name.Failure p = plain (λ s. and_then (s.param p) failure_in)

-- what is inside an optional, or else the other
abbrev pub inside_or : Option (Option Value) → Run Value → Run Value
inside_or None other = mistyped
inside_or (Some None) other = other
inside_or (Some (Some v)) other = gives v

abbrev pub cond_at : NCond-F (Part Bool) (Part Value) → Part Bool
cond_at (NCond-F.Equal a b) = of_two a b (λ s. equal_in)
cond_at (NCond-F.Less a b) = of_two a b (λ s. less_in)
cond_at (NCond-F.Has p) = plain (λ s. and_then (s.param p) has_in)
cond_at (NCond-F.IsOk p) = plain (λ s. and_then (s.param p) is_ok_in)

-- a condition and two arms, of which the one that it chooses is evaluated
abbrev pub chosen : {A : Type 0} → Part Bool → Part A → Part A → Part A
chosen cond first other = record {
  news = (cond.news + first.news) + other.news;
  called = (cond.called ++ first.called) ++ other.called;
  run = λ s n c. and_then (cond.run s n c) (λ holds.
      if holds then first.run s (n + cond.news) (c + length cond.called)
      else other.run s ((n + cond.news) + first.news)
      ((c + length cond.called) + length first.called));
}

abbrev pub expr_at : NExpr-F (Part Bool) (Part Value) → Part Value
expr_at (NExpr-F.Text t) = plain (λ s. gives (value.Text t))
expr_at (NExpr-F.Int n) = plain (λ s. gives (value.Int n))
expr_at (NExpr-F.Param p) = plain (λ s. s.param p)
expr_at (NExpr-F.New class args) = record {
  news = suc (news_of args);
  called = called_of args;
  run = λ s n c. and_then (in_order (runs_of args s (suc n) c))
      (λ vs. gives (value.Object class (then_step s.place (step.New (suc n))) vs));
}
expr_at (NExpr-F.Field of field) = record {
  news = of.news;
  called = of.called;
  run = λ s n c. and_then (looked of s n c) (field_in field);
}
expr_at (NExpr-F.Sum a b) = of_two a b (λ s. sum_in s.origin)
expr_at (NExpr-F.If cond first other) = chosen cond first other
expr_at (NExpr-F.Call f args) = of_all args (called_with f)
expr_at (NExpr-F.ByName f p) = by_param f p
expr_at (NExpr-F.OrElse p other) = record {
  news = other.news;
  called = other.called;
  run = λ s n c. and_then (s.param p) (λ v. inside_or (inside_in v) (other.run s n c));
}

-- an expression as a part of a body
unfoldable pub expr_part : NExpr → Part Value
expr_part = fold-NExpr (Part Bool) (Part Value) cond_at expr_at

unfoldable pub cond_part : NCond → Part Bool
cond_part = fold-NCond (Part Bool) (Part Value) cond_at expr_at

-- ---- decision trees

abbrev pub tree_at : NTree-F (Part End) → Part End
tree_at (NTree-F.Leaf e) = record {
  news = (expr_part e).news;
  called = (expr_part e).called;
  run = λ s n c. and_then ((expr_part e).run s n c) (λ v. gives (value_end v));
}
tree_at (NTree-F.Await p) = record {
  news = 0;
  called = p ∷ [];
  run = λ s n c. s.awaited p (then_step s.place (step.Call (suc c)));
}
tree_at (NTree-F.If cond first other) = chosen (cond_part cond) first other

-- a decision tree as a body
unfoldable pub tree_part : NTree → Part End
tree_part = fold-NTree (Part End) tree_at

-- The world of a document: its instances, how they stand to one another, and their arguments.
use Rattle.std.specs.Prelude.{ℕ, suc, ◌+◌, List, [], ◌∷◌, length, map, Option, Some, option_and_then, option_map, slice_get, pos}
use Rattle.std.specs.List.{find, enumerate_from}
use Rattle.dg_decl.specs.declared.document.Doc.{Doc}
use Rattle.dg_decl.specs.Components.{is_number, walk}
use Rattle.dg_slots.specs.declared.body.NExpr.{NExpr, fold-NExpr}
use Rattle.dg_slots.specs.declared.body.NCond.TheOpen.{NCond-F, NExpr-F}
use Rattle.dg_slots.specs.declared.session.Inst.{Inst}
use Rattle.dg_slots.specs.Sessions.{insts_of}
use Rattle.dg_slots.specs.Links.{links_of}
use Rattle.dg_value.specs.declared.place.Place.{Place}
use Rattle.dg_value.specs.declared.place.PlaceRoot.TheVariants as root
use Rattle.dg_value.specs.declared.place.PlaceStep.TheVariants as step
use Rattle.dg_value.specs.declared.value.Value.{Value}
use Rattle.dg_value.specs.declared.value.Value.TheVariants as value
use Rattle.dg_value.specs.Places.{at_root, then_step}
use Rattle.dg_eval.specs.declared.world.World.{World}

-- the instance of this number
abbrev pub inst_at : Doc → ℕ → Option Inst
inst_at doc i = slice_get (insts_of doc) i

abbrev pub class_of_inst : Doc → ℕ → Option ℕ
class_of_inst doc i = option_map (λ x. x.class) (inst_at doc i)

abbrev pub parent_of_inst : Doc → ℕ → Option ℕ
parent_of_inst doc i = option_and_then (λ x. x.parent) (inst_at doc i)

-- an instance, the instance in which it was opened, and so on
unfoldable pub chain_of_inst : Doc → ℕ → List ℕ
chain_of_inst doc i = walk (parent_of_inst doc) (length (insts_of doc)) (Some i)

-- the instance of a class on the chain of an instance
unfoldable pub up : Doc → ℕ → ℕ → Option ℕ
up doc i class = find (λ o. is_number class (class_of_inst doc o)) (chain_of_inst doc i)

-- the instance to which a `link` line ties an instance for the dependency of this index
unfoldable pub link : Doc → ℕ → ℕ → Option ℕ
link doc i dep = option_and_then (λ tied. slice_get tied dep) (slice_get (links_of doc) i)

-- ---- arguments of instances

-- the value of a constant at a place, where so many `new` stand before it in reading order; and how
-- many it has
pub record Constant : Type 0 where
  pub news : ℕ
  pub value : Place → ℕ → Value

abbrev pub news_of : List Constant → ℕ
news_of [] = 0
news_of (c ∷ cs) = c.news + news_of cs

abbrev pub values_of : List Constant → Place → ℕ → List Value
values_of [] place count = []
values_of (c ∷ cs) place count = c.value place count ∷ values_of cs place (count + c.news)

abbrev pub no_constant : Constant
no_constant = record { news = 0; value = λ place count. value.Int (pos 0) }

-- texts, integers and `new` are the constants
abbrev pub constant_at : NExpr-F Constant Constant → Constant
constant_at (NExpr-F.Text t) = record { news = 0; value = λ place count. value.Text t }
constant_at (NExpr-F.Int n) = record { news = 0; value = λ place count. value.Int n }
constant_at (NExpr-F.New class args) = record {
  news = suc (news_of args);
  value = λ place count. value.Object class (then_step place (step.New (suc count)))
      (values_of args place (suc count));
}
constant_at other = no_constant

abbrev pub constant_in : NCond-F Constant Constant → Constant
constant_in other = no_constant

unfoldable pub constant : NExpr → Constant
constant = fold-NExpr Constant Constant constant_in constant_at

-- the value of the bound argument of this index of an instance
unfoldable pub bound_value : Doc → ℕ → ℕ → Option Value
bound_value doc i a =
    option_map (λ e. (constant e).value (at_root (root.Arg i a)) 0)
    (option_and_then (λ x. slice_get x.bound a) (inst_at doc i))

-- ---- the world by number

-- the values of the bound arguments of an instance of this number, in order
abbrev pub bound_values : ℕ → Inst → List Value
bound_values i x =
    map (λ a. (constant a.1).value (at_root (root.Arg i a.0)) 0) (enumerate_from 0 x.bound)

-- the instances of a document: their parents, their classes, the values of their arguments, and the
-- instances to which they are tied
unfoldable pub world_of : Doc → World
world_of doc = record {
  parent = map (λ x. x.parent) (insts_of doc);
  class = map (λ x. x.class) (insts_of doc);
  bound = map (λ p. bound_values p.0 p.1) (enumerate_from 0 (insts_of doc));
  deps = links_of doc;
}

-- Small expressions that decide typing.
use Rattle.std.proofs.Common.{◌≡◌, refl}
use Rattle.std.specs.Prelude.{true, false, List, [], ◌∷◌, Some, None, codes, pos}
use Rattle.dg_types.specs.declared.shape.Shape.{Shape}
use Rattle.dg_types.specs.declared.shape.Shape.TheVariants as shape
use Rattle.dg_decl.specs.declared.document.Doc.{Doc}
use Rattle.dg_decl.specs.declared.expression.CallName.TheVariants as call
use Rattle.dg_decl.specs.declared.expression.ParamCall.TheVariants as by_name
use Rattle.dg_decl.specs.declared.expression.Expr.{Expr}
use Rattle.dg_decl.specs.declared.expression.Expr.TheVariants as expr
use Rattle.dg_decl.specs.declared.expression.Cond.TheVariants as cond
use Rattle.dg_decl.specs.declared.expression.Tree.TheVariants as tree
use Rattle.dg_decl.specs.declared.item.Item.TheVariants as item
use Rattle.dg_decl.specs.declared.item.Param.{Param}
use Rattle.dg_decl.specs.Typing.{synth, checks, is_assignable, is_typed_condition, tree_checks}
use Rattle.dg_decl.proofs.ExampleWords.{doc_of, bare_use, parameter}
use Rattle.dg_decl.proofs.JudgeWords.{judges, int_use}
use Rattle.dg_decl.proofs.FoldEquations.{folds}

-- two classes and their interface
abbrev steps : Doc
steps =
    doc_of (item.Interface (codes "Step")
    ∷ item.Class false None (codes "Start") (parameter (codes "order") int_use ∷ [])
    (codes "Step" ∷ [])
    ∷ item.Class false None (codes "Flush") [] (codes "Step" ∷ [])
    ∷ [])

abbrev step : Shape
step = shape.Named (codes "Step")

abbrev start : Shape
start = shape.Named (codes "Start")

abbrev message : Expr
message = expr.Text (codes "no")

-- `fail("no")`
abbrev failing : Expr
failing = expr.Call call.Fail (message ∷ [])

-- `if 1 < 2 then "no" else fail("no")`
abbrev choice : Expr
choice =
    expr.If (cond.Less (expr.Int (pos 1)) (expr.Int (pos 2))) message failing

-- `new Start(1)`
abbrev new_start : Expr
new_start = expr.New (codes "Start") (expr.Int (pos 1) ∷ [])

-- `set(new Start(1), new Flush())`
abbrev members : Expr
members = expr.Call call.SetOf (new_start ∷ expr.New (codes "Flush") [] ∷ [])

pub a_failure_checks_against_any_type : checks steps [] failing step ≡ true
unfolding judges
a_failure_checks_against_any_type = simp folds refl

pub a_failure_gives_no_type : synth steps [] failing ≡ None
unfolding judges
a_failure_gives_no_type = simp folds refl

pub a_choice_checks_where_its_arms_do : checks steps [] choice shape.Text ≡ true
unfolding judges
a_choice_checks_where_its_arms_do = simp folds refl

pub a_choice_does_not_check_where_an_arm_does_not : checks steps [] choice shape.Int ≡ false
unfolding judges
a_choice_does_not_check_where_an_arm_does_not = simp folds refl

pub a_choice_gives_no_type : synth steps [] choice ≡ None
unfolding judges
a_choice_gives_no_type = simp folds refl

pub the_size_of_a_failure_is_not_typed :
    checks steps [] (expr.Call call.Size (failing ∷ [])) shape.Int ≡ false
unfolding judges
the_size_of_a_failure_is_not_typed = simp folds refl

pub the_size_of_a_text_is_an_integer :
    synth steps [] (expr.Call call.Size (message ∷ [])) ≡ Some shape.Int
unfolding judges
the_size_of_a_text_is_an_integer = simp folds refl

pub two_failures_may_be_compared : is_typed_condition steps [] (cond.Equal failing failing) ≡ true
unfolding judges
two_failures_may_be_compared = simp folds refl

pub a_text_and_an_integer_may_not_be_compared :
    is_typed_condition steps [] (cond.Equal message (expr.Int (pos 1))) ≡ false
unfolding judges
a_text_and_an_integer_may_not_be_compared = simp folds refl

pub a_class_stands_where_its_interface_is_wanted : checks steps [] new_start step ≡ true
unfolding judges
a_class_stands_where_its_interface_is_wanted = simp folds refl

pub an_interface_does_not_stand_where_its_class_is_wanted : is_assignable steps step start ≡ false
unfolding judges
an_interface_does_not_stand_where_its_class_is_wanted = simp folds refl

pub a_constructor_wants_each_of_its_fields :
    synth steps [] (expr.New (codes "Start") []) ≡ None
unfolding judges
a_constructor_wants_each_of_its_fields = simp folds refl

pub a_field_has_its_type : synth steps [] (expr.Field new_start (codes "order")) ≡ Some shape.Int
unfolding judges
a_field_has_its_type = simp folds refl

pub a_set_of_classes_checks_against_the_set_of_their_interface :
    checks steps [] members (shape.Set step) ≡ true
unfolding judges
a_set_of_classes_checks_against_the_set_of_their_interface = simp folds refl

pub a_set_of_two_classes_is_no_set_of_one : checks steps [] members (shape.Set start) ≡ false
unfolding judges
a_set_of_two_classes_is_no_set_of_one = simp folds refl

pub a_set_of_classes_is_not_assignable_to_that_of_their_interface :
    is_assignable steps (shape.Set start) (shape.Set step) ≡ false
unfolding judges
a_set_of_classes_is_not_assignable_to_that_of_their_interface = simp folds refl

-- parameters of the forms that a body may call
abbrev some_params : List Param
some_params =
    parameter (codes "o") (bare_use (shape.Optional step))
    ∷ parameter (codes "d") (bare_use (shape.Optional (shape.Lazy step)))
    ∷ parameter (codes "v") (bare_use (shape.Map shape.Int (shape.Produced shape.Text)))
    ∷ parameter (codes "s") (bare_use (shape.Set (shape.Produced start)))
    ∷ parameter (codes "l") (bare_use (shape.Provider (shape.Lazy shape.Int)))
    ∷ parameter (codes "p") (bare_use (shape.Producer start))
    ∷ parameter (codes "r") (bare_use (shape.Produced start))
    ∷ []

pub or_else_gives_the_inside :
    synth steps some_params (expr.OrElse (codes "o") new_start) ≡ Some step
unfolding judges
or_else_gives_the_inside = simp folds refl

pub or_else_wants_what_the_inside_is :
    synth steps some_params (expr.OrElse (codes "o") message) ≡ None
unfolding judges
or_else_wants_what_the_inside_is = simp folds refl

pub or_else_is_not_of_a_deferred_optional :
    synth steps some_params (expr.OrElse (codes "d") new_start) ≡ None
unfolding judges
or_else_is_not_of_a_deferred_optional = simp folds refl

pub any_optional_may_be_asked_whether_it_is_present :
    is_typed_condition steps some_params (cond.Has (codes "d")) ≡ true
unfolding judges
any_optional_may_be_asked_whether_it_is_present = simp folds refl

pub the_values_of_a_map :
    synth steps some_params (expr.ByName by_name.Values (codes "v")) ≡ Some (shape.Map shape.Int
    shape.Text)
unfolding judges
the_values_of_a_map = simp folds refl

pub the_values_of_a_set :
    synth steps some_params (expr.ByName by_name.Values (codes "s")) ≡ Some (shape.Set start)
unfolding judges
the_values_of_a_set = simp folds refl

pub a_provider_of_a_lazy_gives_a_lazy :
    synth steps some_params (expr.ByName by_name.Get (codes "l")) ≡ Some (shape.Lazy shape.Int)
unfolding judges
a_provider_of_a_lazy_gives_a_lazy = simp folds refl

pub a_failure_of_a_produced_is_a_text :
    synth steps some_params (expr.ByName by_name.Failure (codes "r")) ≡ Some shape.Text
unfolding judges
a_failure_of_a_produced_is_a_text = simp folds refl

pub a_produced_has_no_get : synth steps some_params (expr.ByName by_name.Get (codes "r")) ≡ None
unfolding judges
a_produced_has_no_get = simp folds refl

-- `if ok(r) then await p else new Flush()`
pub a_tree_checks_by_its_leaves_and_what_it_awaits :
    tree_checks steps some_params (tree.If (cond.IsOk (codes "r")) (tree.Await (codes "p"))
    (tree.Leaf (expr.New (codes "Flush") []))) step ≡ true
unfolding judges
a_tree_checks_by_its_leaves_and_what_it_awaits = simp folds refl

pub only_a_producer_is_awaited :
    tree_checks steps some_params (tree.Await (codes "r")) start ≡ false
unfolding judges
only_a_producer_is_awaited = simp folds refl

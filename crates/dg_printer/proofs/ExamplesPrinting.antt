-- Lines that decide how items and expressions are printed.
use Rattle.std.proofs.Common.{◌≡◌, refl}
use Rattle.std.specs.Prelude.{true, false, [], ◌∷◌, Option, Some, None, codes}
use Rattle.dg_types.specs.declared.key.MapKeyVal.TheVariants as map_key
use Rattle.dg_types.specs.declared.shape.Shape.{Shape}
use Rattle.dg_types.specs.declared.shape.Shape.TheVariants as shape
use Rattle.dg_types.specs.declared.shape.TypeUse.{TypeUse}
use Rattle.dg_lex.specs.Bytes.{Bytes}
use Rattle.dg_lex.specs.Lexemes.{quoted}
use Rattle.dg_decl.specs.declared.expression.CallName.TheVariants as call
use Rattle.dg_decl.specs.declared.expression.ParamCall.TheVariants as by_name
use Rattle.dg_decl.specs.declared.expression.Expr.{Expr}
use Rattle.dg_decl.specs.declared.expression.Expr.TheVariants as expr
use Rattle.dg_decl.specs.declared.expression.Cond.TheVariants as cond
use Rattle.dg_decl.specs.declared.expression.Tree.{Tree}
use Rattle.dg_decl.specs.declared.expression.Tree.TheVariants as tree
use Rattle.dg_decl.specs.declared.item.AskStep.TheVariants as step
use Rattle.dg_decl.specs.declared.item.Item.{Item}
use Rattle.dg_decl.specs.declared.item.Item.TheVariants as item
use Rattle.dg_decl.specs.declared.item.Mark.TheVariants as mark
use Rattle.dg_decl.specs.declared.item.Param.{Param}
use Rattle.dg_decl.specs.declared.expression.Cond.TheOpen.{Cond-F, Expr-F}
use Rattle.dg_decl.specs.Canonical.{item_tokens, canonical_line}
use Rattle.dg_decl.specs.Written.{Written, written, expression_written, condition_written}
use Rattle.dg_decl.proofs.WrittenEquations.{written_equations, written-Param, written-Sum, written-Field, written-If, written-Less, written_type-Text}

abbrev bare : Shape → TypeUse
bare t = record { qualifier = None; shape = t }

abbrev with_qualifier : Bytes → Option Bytes → Shape → TypeUse
with_qualifier n member t = record {
  qualifier = Some (record { name = n; member = member });
  shape
      = t;
}

abbrev param : Bytes → TypeUse → Param
param n t = record { name = n; shape = t }

abbrev text_shape : TypeUse
text_shape = bare shape.Text

abbrev x : Expr
x = expr.Param (codes "x")

abbrev y : Expr
y = expr.Param (codes "y")

-- `if x < y then x else y`
abbrev choice : Expr
choice = expr.If (cond.Less x y) x y

abbrev choice_written : Written
choice_written =
    expression_written (Expr-F.If (condition_written
    (Cond-F.Less (expression_written (Expr-F.Param (codes "x")))
    (expression_written (Expr-F.Param (codes "y")))))
    (expression_written (Expr-F.Param (codes "x"))) (expression_written (Expr-F.Param (codes "y"))))

-- `p() : Text = BODY`
abbrev providing : Expr → Item
providing e = item.Provides None None (codes "p") [] text_shape e

abbrev producing : Tree → Item
producing b = item.Produces None (codes "p") [] text_shape b

-- ---- items

pub a_qualifier_is_printed : canonical_line (item.QualifierLine (codes "Q") false)
    ≡ codes "qualifier Q"
unfolding canonical_line item_tokens
a_qualifier_is_printed = refl

pub a_member_is_printed : canonical_line (item.QualifierLine (codes "Q") true)
    ≡ codes "qualifier Q(Text)"
unfolding canonical_line item_tokens
a_member_is_printed = refl

pub a_scope_is_printed : canonical_line (item.ScopeLine (codes "S")) ≡ codes "scope S"
unfolding canonical_line item_tokens
a_scope_is_printed = refl

pub an_interface_is_printed : canonical_line (item.Interface (codes "I")) ≡ codes "interface I"
unfolding canonical_line item_tokens
an_interface_is_printed = refl

pub a_class_is_printed : canonical_line (item.Class true (Some (codes "S")) (codes "C")
    (param (codes "x") (bare shape.Int) ∷ param (codes "y")
    (with_qualifier (codes "N") (Some (codes "a")) shape.Text) ∷ [])
    (codes "I" ∷ codes "J" ∷ []))
    ≡ codes "@Inject @S class C(x: Int, y: @N(\"a\") Text) : I, J"
unfolding canonical_line item_tokens quoted
a_class_is_printed = simp written_equations refl

pub a_plain_class_is_printed : canonical_line (item.Class false None (codes "C") [] [])
    ≡ codes "class C()"
unfolding canonical_line item_tokens
a_plain_class_is_printed = refl

pub a_module_is_printed : canonical_line (item.Module (Some (codes "C")) (codes "M")
    (codes "A" ∷ codes "B" ∷ []))
    ≡ codes "@InstallIn(C) module M includes A, B {"
unfolding canonical_line item_tokens
a_module_is_printed = refl

pub a_test_module_is_printed : canonical_line (item.TestModule (codes "C") (codes "T")
    (codes "M" ∷ []) (codes "A" ∷ []))
    ≡ codes "@TestInstallIn(C) module T replaces M includes A {"
unfolding canonical_line item_tokens
a_test_module_is_printed = refl

pub a_component_is_printed : canonical_line (item.Component (codes "R" ∷ codes "S" ∷ [])
    (codes "A") (Some (codes "B")) (codes "M" ∷ codes "N" ∷ []))
    ≡ codes "@R @S component A in B modules M, N {"
unfolding canonical_line item_tokens
a_component_is_printed = refl

pub a_defined_component_is_printed : canonical_line
    (item.DefineComponent (codes "S" ∷ []) (codes "A") (codes "B"))
    ≡ codes "@S defineComponent A in B {"
unfolding canonical_line item_tokens
a_defined_component_is_printed = refl

pub an_entry_point_is_printed : canonical_line (item.EntryPoint (codes "A") (codes "E"))
    ≡ codes "@InstallIn(A) entryPoint E {"
unfolding canonical_line item_tokens
an_entry_point_is_printed = refl

pub a_provider_is_printed : canonical_line (item.Provides (Some mark.IntoSet) (Some (codes "S"))
    (codes "a")
    (param (codes "p") (bare (shape.Provider (shape.Lazy (shape.Named (codes "C"))))) ∷ [])
    (with_qualifier (codes "Q") None shape.Int)
    (expr.ByName by_name.Get (codes "p")))
    ≡ codes "  @IntoSet @S provides a(p: Provider<Lazy<C>>) : @Q Int = get(p)"
unfolding canonical_line item_tokens
a_provider_is_printed = simp written_equations refl

pub a_delegate_is_printed : canonical_line (item.Binds
    (Some (mark.IntoMap (map_key.Text (codes "k")))) None (codes "b")
    (param (codes "x") (bare (shape.Named (codes "C")))) (bare (shape.Named (codes "I"))))
    ≡ codes "  @IntoMap @StringKey(\"k\") binds b(x: C) : I"
unfolding canonical_line item_tokens quoted
a_delegate_is_printed = simp written_equations refl

pub a_producer_is_printed : canonical_line (item.Produces (Some mark.ElementsIntoSet) (codes "c") []
    (bare (shape.Set (shape.Produced shape.Text))) (tree.Await (codes "p")))
    ≡ codes "  @ElementsIntoSet produces c() : Set<Produced<Text>> = await p"
unfolding canonical_line item_tokens
a_producer_is_printed = simp written_equations refl

pub an_optional_is_printed : canonical_line (item.OptionalOf (codes "o")
    (bare (shape.Optional shape.Int)))
    ≡ codes "  bindsOptionalOf o : Optional<Int>"
unfolding canonical_line item_tokens
an_optional_is_printed = simp written_equations refl

pub a_declared_map_is_printed : canonical_line (item.Multibinds (codes "m")
    (bare (shape.Map shape.Text (shape.Producer shape.Int))))
    ≡ codes "  multibinds m : Map<Text,Producer<Int>>"
unfolding canonical_line item_tokens
a_declared_map_is_printed = simp written_equations refl

pub a_bound_instance_is_printed : canonical_line (item.BindsInstance (codes "i") text_shape)
    ≡ codes "  bindsInstance i : Text"
unfolding canonical_line item_tokens
a_bound_instance_is_printed = simp written_equations refl

pub a_dependency_is_printed : canonical_line (item.DependsOn (codes "A")) ≡ codes "  dependsOn A"
unfolding canonical_line item_tokens
a_dependency_is_printed = refl

pub an_entry_is_printed : canonical_line (item.Entry (codes "e") text_shape)
    ≡ codes "  entry e : Text"
unfolding canonical_line item_tokens
an_entry_is_printed = simp written_equations refl

pub an_end_is_printed : canonical_line item.End ≡ codes "}"
unfolding canonical_line item_tokens
an_end_is_printed = refl

pub an_instance_is_printed : canonical_line (item.OpenLine (codes "a") (codes "A")
    (Some (codes "b"))
    (record {
      name = codes "x";
      value = expr.New (codes "C")
          (expr.Text (codes "t") ∷ expr.New (codes "D") [] ∷ []);
    }
    ∷ record { name = codes "y"; value = expr.Text (codes "u") } ∷ []))
    ≡ codes "open a : A in b with x = new C(\"t\", new D()), y = \"u\""
unfolding canonical_line item_tokens quoted
an_instance_is_printed = simp written_equations refl

pub a_link_is_printed : canonical_line (item.Link (codes "a") (codes "b")) ≡ codes "link a to b"
unfolding canonical_line item_tokens
a_link_is_printed = refl

pub an_ask_is_printed : canonical_line (item.AskLine (codes "a") (codes "e")
    (step.Field (codes "f") ∷ step.Get ∷ step.Inside ∷ step.At (map_key.Text (codes "k")) ∷ []))
    ≡ codes "ask a.e.f!?[\"k\"]"
unfolding canonical_line item_tokens quoted
an_ask_is_printed = refl

-- ---- expressions

x_is : written x ≡ expression_written (Expr-F.Param (codes "x"))
x_is = written-Param (codes "x")

y_is : written y ≡ expression_written (Expr-F.Param (codes "y"))
y_is = written-Param (codes "y")

choice_is : written choice ≡ choice_written
choice_is = rw (written-If (cond.Less x y) x y, written-Less x y, x_is, y_is) refl

pub a_sum_to_the_right_is_enclosed : canonical_line (providing (expr.Sum x (expr.Sum y x)))
    ≡ codes "  provides p() : Text = x +(y + x)"
unfolding canonical_line item_tokens
a_sum_to_the_right_is_enclosed =
    rw (written-Sum x (expr.Sum y x), written-Sum y x, x_is, y_is, written_type-Text) refl

pub a_sum_to_the_left_is_not : canonical_line (providing (expr.Sum (expr.Sum x y) x))
    ≡ codes "  provides p() : Text = x + y + x"
unfolding canonical_line item_tokens
a_sum_to_the_left_is_not =
    rw (written-Sum (expr.Sum x y) x, written-Sum x y, x_is, y_is, written_type-Text) refl

pub an_added_choice_is_enclosed : canonical_line (providing (expr.Sum choice choice))
    ≡ codes "  provides p() : Text =(if x < y then x else y) +(if x < y then x else y)"
unfolding canonical_line item_tokens
an_added_choice_is_enclosed =
    rw (written-Sum choice choice, choice_is, written_type-Text) refl

pub a_base_is_enclosed : canonical_line (providing (expr.Field
    (expr.Field (expr.Sum x y) (codes "f")) (codes "g")))
    ≡ codes "  provides p() : Text =(x + y).f.g"
unfolding canonical_line item_tokens
a_base_is_enclosed =
    rw (
      written-Field (expr.Field (expr.Sum x y) (codes "f")) (codes "g"),
      written-Field
          (expr.Sum x y) (codes "f"),
      written-Sum x y,
      x_is,
      y_is,
      written_type-Text,
    ) refl

pub a_compared_choice_is_enclosed : canonical_line (providing
    (expr.If (cond.Equal choice (expr.Sum x y)) (expr.Sum x y) x))
    ≡ codes "  provides p() : Text = if(if x < y then x else y) == x + y then x + y else x"
unfolding canonical_line item_tokens
a_compared_choice_is_enclosed = simp written_equations refl

pub a_leaf_is_enclosed : canonical_line (producing
    (tree.If (cond.Has (codes "o")) (tree.Leaf choice) (tree.Leaf (expr.Sum x y))))
    ≡ codes "  produces p() : Text = if has(o) then(if x < y then x else y) else x + y"
unfolding canonical_line item_tokens
a_leaf_is_enclosed = simp written_equations refl

pub a_tree_is_not_enclosed : canonical_line (producing
    (tree.If (cond.IsOk (codes "q")) (tree.Await (codes "w"))
    (tree.If (cond.Has (codes "o")) (tree.Leaf x) (tree.Leaf y))))
    ≡ codes "  produces p() : Text = if ok(q) then await w else if has(o) then x else y"
unfolding canonical_line item_tokens
a_tree_is_not_enclosed = simp written_equations refl

pub arguments_are_not_enclosed : canonical_line (providing
    (expr.Call call.Cat (choice ∷ expr.Sum x y ∷ expr.OrElse (codes "o") (expr.Call call.SetOf [])
    ∷ [])))
    ≡ codes "  provides p() : Text = cat(if x < y then x else y, x + y, orElse(o, set()))"
unfolding canonical_line item_tokens
arguments_are_not_enclosed = simp written_equations refl

pub a_text_is_escaped : canonical_line (providing (expr.Text (34 ∷ 97 ∷ 92 ∷ [])))
    ≡ codes "  provides p() : Text = \"\\\"a\\\\\""
unfolding canonical_line item_tokens quoted
a_text_is_escaped = simp written_equations refl

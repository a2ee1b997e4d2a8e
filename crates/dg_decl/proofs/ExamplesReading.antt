-- Examples of what is read and what is printed, computed from the definitions.
use Rattle.std.proofs.Common.{◌≡◌, ℕ, List, [], ◌∷◌, ◌++◌, map, Some, None, Ok, zero, suc, refl, ap, ◌∙◌, arith, lit<}
use Rattle.std.specs.Prelude.{Bool, true, false, Option, Result, Err, codes, pos, negsuc}
use Rattle.dg_types.specs.declared.shape.Shape.{Shape}
use Rattle.dg_types.specs.declared.shape.Shape.TheVariants as shape
use Rattle.dg_types.specs.declared.shape.Qualifier.{Qualifier}
use Rattle.dg_types.specs.declared.shape.TypeUse.{TypeUse}
use Rattle.dg_types.specs.declared.key.MapKeyVal.TheVariants as map_key
use Rattle.dg_lex.specs.Bytes.{Bytes}
use Rattle.dg_decl.specs.declared.expression.CallName.TheVariants as call
use Rattle.dg_decl.specs.declared.expression.ParamCall.TheVariants as by
use Rattle.dg_decl.specs.declared.expression.Expr.{Expr}
use Rattle.dg_decl.specs.declared.expression.Expr.TheVariants as expr
use Rattle.dg_decl.specs.declared.expression.Cond.TheVariants as cond
use Rattle.dg_decl.specs.declared.expression.Tree.TheVariants as tree
use Rattle.dg_decl.specs.declared.document.LineMeaning.TheVariants as meaning
use Rattle.dg_decl.specs.declared.item.Item.{Item}
use Rattle.dg_decl.specs.declared.item.Item.TheVariants as item
use Rattle.dg_decl.specs.declared.item.Mark.TheVariants as mark
use Rattle.dg_decl.specs.declared.item.AskStep.TheVariants as step
use Rattle.std.proofs.lemmas.Fmt.{decimal_digit}
use Rattle.dg_decl.proofs.WrittenEquations.{nesting_equations, written_equations, nesting-Text, nesting-Call, written-ByName, written-Call, written-Equal, written-Field, written-Has, written-If, written-Int, written-IsOk, written-Less, written-New, written-OrElse, written-Param, written-Sum, written-Text, written_tree-Await, written_tree-If, written_tree-Leaf, written_type-Int, written_type-Provider, written_type-Text}
use Rattle.dg_decl.specs.Meaning.{meaning_of, item_of}
use Rattle.dg_decl.specs.declared.expression.Cond.TheOpen.{Cond-F, Expr-F}
use Rattle.dg_decl.specs.Written.{written, expression_written, condition_written}
use Rattle.dg_decl.specs.Canonical.{canonical_line, item_tokens}
use Rattle.dg_lex.specs.Tokens.{tokens_of, kind_of, extent, is_name, is_at_name, is_integer, is_counting, is_text, is_sign, value_of_integer}
use Rattle.dg_lex.specs.declared.token.Token.{Token}
use Rattle.dg_lex.specs.declared.token.TokenKind.{TokenKind}
use Rattle.dg_lex.specs.declared.token.TokenKind.TheVariants as kind
use Rattle.dg_decl.specs.declared.document.LineMeaning.{LineMeaning}
use Rattle.dg_lex.specs.Lexemes.{value_of_text, quoted, lexemes}
use Rattle.dg_decl.specs.Readers.{comes, taken, eaten, comes_kind, spelled, at_end, at_name, text, integer, optional, list_of, names, optional_names, enclosed, some_in_parentheses, in_parentheses, at_names, pure}
use Rattle.dg_decl.specs.TypeForms.{constructed, type_over, type_within, type_form, member, some_qualifier, qualifier, type_use, param, params}
use Rattle.dg_decl.specs.ExpressionForms.{nested, text_constant, integer_constant, object, constant_over, constant_within, constant, call_of_one, call_by_name, or_else, call_of, function, named_as, named, atom, row_of, fields, prim, added, sum, comes_call, has, is_ok, comparison, condition, choice, whole, expression_within, expression, body, awaited, leaf, tree_choice, tree_over, tree_within, tree_body, nesting, greatest}
use Rattle.dg_decl.specs.Forms.{scope, map_key_mark, mark_form, qualifier_line, scope_line, interface_line, class_behind, class_line, module_line, test_module_line, component_line, define_component_line, entry_point_line, provides_line, binds_behind, binds_line, produces_line, use_line, optional_of_line, multibinds_line, binds_instance_line, entry_line, depends_on_line, end_line, open_arg, open_args, open_line, link_line, map_key_form, at_key, ask_step, ask_steps, ask_line, outside_line, line_with, item_line}

-- an unqualified use of a type
abbrev plain : Shape → TypeUse
plain t = record { qualifier = None; shape = t }

abbrev qualified : Option Qualifier → Shape → TypeUse
qualified q t = record { qualifier = q; shape = t }

abbrev int : ℕ → Expr
int n = expr.Int (pos n)

abbrev is_bad : LineMeaning → Bool
is_bad meaning.Bad = true
is_bad other = false

-- the kind and the bytes of each token, where a line has tokens
abbrev lexemes_of : Bytes → Result (List Token) ℕ → Option (List (TokenKind × Bytes))
lexemes_of line (Ok ts) = Some (map (λ l. (l.kind, l.spelling)) (lexemes line ts))
lexemes_of line (Err at) = None

-- a line and its item
abbrev Row : Type 0
Row = Bytes × Item

-- canonical lines without types and expressions
abbrev plain_lines : List Row
plain_lines =
    (codes "qualifier Io", item.QualifierLine (codes "Io") false) ∷
    (codes "qualifier Size(Text)", item.QualifierLine (codes "Size") true) ∷
    (codes "scope Tab", item.ScopeLine (codes "Tab")) ∷
    (codes "interface Api", item.Interface (codes "Api")) ∷ (
      codes "@Inject @Tab class Http() : Api, Step",
      item.Class true (Some (codes "Tab"))
          (codes "Http") [] ((codes "Api") ∷ (codes "Step") ∷ []),
    ) ∷ (
      codes "module Net includes Io, Disk {",
      item.Module None (codes "Net")
          ((codes "Io") ∷ (codes "Disk") ∷ []),
    ) ∷
    (codes "@InstallIn(Root) module Net {", item.Module (Some (codes "Root")) (codes "Net") []) ∷ (
      codes "@TestInstallIn(Root) module Fake replaces Net includes Io {",
      item.TestModule
          (codes "Root") (codes "Fake") ((codes "Net") ∷ []) ((codes "Io") ∷ []),
    ) ∷ (
      codes "@Tab @Page component View in Root modules Net, Io {",
      item.Component
          ((codes "Tab") ∷ (codes "Page") ∷ []) (codes "View") (Some (codes "Root"))
          ((codes "Net") ∷ (codes "Io") ∷ []),
    ) ∷
    (codes "component in in in {", item.Component [] (codes "in") (Some (codes "in")) []) ∷ (
      codes "@Tab defineComponent Page in Root {",
      item.DefineComponent ((codes "Tab") ∷ [])
          (codes "Page") (codes "Root"),
    ) ∷
    (codes "@InstallIn(Root) entryPoint All {", item.EntryPoint (codes "Root") (codes "All")) ∷
    (codes "  dependsOn Core", item.DependsOn (codes "Core")) ∷
    (codes "}", item.End) ∷
    (codes "open a : View", item.OpenLine (codes "a") (codes "View") None []) ∷
    (codes "link a to b", item.Link (codes "a") (codes "b")) ∷ (
      codes "ask a.b.page!?[\"k\"].nav",
      item.AskLine (codes "a") (codes "b")
          (step.Field (codes "page") ∷ step.Get ∷ step.Inside ∷ step.At (map_key.Text (codes "k")) ∷
          step.Field (codes "nav") ∷ []),
    ) ∷
    []

-- canonical lines with types
abbrev typed_lines : List Row
typed_lines = (
  codes "class Theme(name: Text, at: @Io Int)",
  item.Class false None (codes "Theme")
      (record { name = codes "name"; shape = plain shape.Text } ∷ record {
        name = codes "at";
        shape = qualified (Some record { name = codes "Io"; member = None })
            shape.Int;
      } ∷ []) [],
) ∷ (
  codes "  @IntoSet binds one(impl: Http) : Api",
  item.Binds (Some mark.IntoSet) None
      (codes "one") (record { name = codes "impl"; shape = plain (shape.Named (codes "Http")) })
      (plain (shape.Named (codes "Api"))),
) ∷ (
  codes "  bindsOptionalOf theme : Theme",
  item.OptionalOf (codes "theme")
      (plain (shape.Named (codes "Theme"))),
) ∷ (
  codes "  multibinds all : Set<Lazy>",
  item.Multibinds (codes "all")
      (plain (shape.Set (shape.Named (codes "Lazy")))),
) ∷ (
  codes "  bindsInstance app : @Named(\"a\\\\b\") Map<Int,Set>",
  item.BindsInstance (codes "app")
      (qualified (Some record { name = codes "Named"; member = Some (codes "a\\b") })
      (shape.Map shape.Int (shape.Named (codes "Set")))),
) ∷ (
  codes "  entry deep : Optional<Provider<Lazy<Int>>>",
  item.Entry (codes "deep")
      (plain (shape.Optional (shape.Provider (shape.Lazy shape.Int)))),
) ∷
    []

-- canonical lines with expressions, by each rule on spaces and parentheses
abbrev sum_to_the_right : Row
sum_to_the_right = (
  codes "  provides a() : Int = x +(y + 1)",
  item.Provides None None (codes "a") [] (plain shape.Int)
      (expr.Sum (expr.Param (codes "x")) (expr.Sum (expr.Param (codes "y")) (int 1))),
)

abbrev sum_to_the_left : Row
sum_to_the_left = (
  codes "  provides b() : Int = x + y + 1",
  item.Provides None None (codes "b") [] (plain shape.Int)
      (expr.Sum (expr.Sum (expr.Param (codes "x")) (expr.Param (codes "y"))) (int 1)),
)

abbrev field_of_a_sum : Row
field_of_a_sum = (
  codes "  provides c() : Int =(x + y).f.g",
  item.Provides None None (codes "c") [] (plain shape.Int)
      (expr.Field (expr.Field (expr.Sum (expr.Param (codes "x")) (expr.Param (codes "y")))
      (codes "f")) (codes "g")),
)

abbrev choices : Row
choices = (
  codes
      "  provides d() : Int = if(if x < y then 1 else 2) == x.f then(if x < y then 1 else 2) + 1 else if has(x) then 1 else 2",
  item.Provides None None (codes "d") [] (plain shape.Int)
      (expr.If (cond.Equal (expr.If (cond.Less (expr.Param (codes "x")) (expr.Param (codes "y")))
      (int 1) (int 2)) (expr.Field (expr.Param (codes "x")) (codes "f")))
      (expr.Sum (expr.If (cond.Less (expr.Param (codes "x")) (expr.Param (codes "y"))) (int 1)
      (int 2)) (int 1)) (expr.If (cond.Has (codes "x")) (int 1) (int 2))),
)

abbrev members_of_a_list : Row
members_of_a_list = (
  codes
      "  provides e() : Text = cat(text(1), orElse(x, (if x < y then 1 else 2) + 1), new C(fail(\"n\")))",
  item.Provides None None (codes "e") [] (plain shape.Text)
      (expr.Call call.Cat ((expr.Call call.TextOf ((int 1) ∷ [])) ∷
      (expr.OrElse (codes "x") (expr.Sum (expr.If
      (cond.Less (expr.Param (codes "x")) (expr.Param (codes "y"))) (int 1) (int 2)) (int 1))) ∷
      (expr.New (codes "C") ((expr.Call call.Fail ((expr.Text (codes "n")) ∷ [])) ∷ [])) ∷ [])),
)

abbrev leaves_of_a_tree : Row
leaves_of_a_tree = (
  codes
      "  @ElementsIntoSet produces f() : Int = if ok(x) then(if x < y then 1 else 2) else if x < y then value(x) else await q",
  item.Produces (Some mark.ElementsIntoSet) (codes "f") [] (plain shape.Int)
      (tree.If (cond.IsOk (codes "x")) (tree.Leaf
      (expr.If (cond.Less (expr.Param (codes "x")) (expr.Param (codes "y"))) (int 1) (int 2)))
      (tree.If (cond.Less (expr.Param (codes "x")) (expr.Param (codes "y")))
      (tree.Leaf (expr.ByName by.Value (codes "x"))) (tree.Await (codes "q")))),
)

abbrev marks_and_parameters : Row
marks_and_parameters = (
  codes
      "  @IntoMap @StringKey(\"a\\\"b\") @Tab provides url(base: Provider<Text>) : Text = cat(get(base), \"/\\\\\")",
  item.Provides (Some (mark.IntoMap (map_key.Text (codes "a\"b")))) (Some (codes "Tab"))
      (codes "url") (record { name = codes "base"; shape = plain (shape.Provider shape.Text) } ∷
      []) (plain shape.Text) (expr.Call call.Cat
      ((expr.ByName by.Get (codes "base")) ∷ (expr.Text (codes "/\\")) ∷ [])),
)

abbrev arguments : Row
arguments = (
  codes "open a : View in b with x = new App(\"s\"), y = 3",
  item.OpenLine (codes "a") (codes "View") (Some (codes "b"))
      (record {
        name = codes "x";
        value = (expr.New (codes "App") ((expr.Text (codes "s")) ∷ []));
      } ∷ record { name = codes "y"; value = int 3 } ∷ []),
)

abbrev spaced_lines : List Row
spaced_lines = sum_to_the_right ∷ sum_to_the_left ∷ field_of_a_sum ∷ choices ∷ members_of_a_list ∷
    leaves_of_a_tree ∷ marks_and_parameters ∷ arguments ∷ []

-- each form is read
forms_are_read : map (λ row. item_of row.0) (plain_lines ++ (typed_lines ++ spaced_lines)) ≡ map
    (λ row. Some row.1) (plain_lines ++ (typed_lines ++ spaced_lines))
unfolding item_of meaning_of tokens_of kind_of extent is_name is_at_name is_integer is_counting
    is_text is_sign value_of_integer value_of_text comes taken eaten comes_kind spelled at_end
    at_name text integer optional list_of names optional_names enclosed some_in_parentheses
    in_parentheses at_names constructed type_over type_within type_form member some_qualifier
    qualifier type_use param params nested text_constant integer_constant object constant_over
    constant_within constant call_of_one call_by_name or_else call_of function named_as named
    atom row_of fields prim added sum comes_call has is_ok comparison condition choice whole
    expression_within expression body awaited leaf tree_choice tree_over tree_within tree_body
    scope map_key_mark mark_form qualifier_line scope_line interface_line class_behind class_line
    module_line test_module_line component_line define_component_line entry_point_line
    provides_line binds_behind binds_line produces_line use_line optional_of_line multibinds_line
    binds_instance_line entry_line depends_on_line end_line open_arg open_args open_line
    link_line map_key_form at_key ask_step ask_steps ask_line outside_line line_with item_line
forms_are_read = simp nesting_equations refl

plain_lines_are_printed : map (λ row. canonical_line row.1) plain_lines ≡ map (λ row. row.0)
    plain_lines
unfolding canonical_line item_tokens quoted
plain_lines_are_printed = refl

types_have_no_spaces : map (λ row. canonical_line row.1) typed_lines ≡ map (λ row. row.0)
    typed_lines
unfolding canonical_line item_tokens quoted
types_have_no_spaces = simp written_equations refl

-- more spaces and fewer, and names that mean something elsewhere
abbrev other_lines : List Row
other_lines =
    (codes " open a:b  ", item.OpenLine (codes "a") (codes "b") None []) ∷ (
      codes "class A ( a:@Io Text,b : Set < Int > ):B",
      item.Class false None (codes "A")
          (record {
            name = codes "a";
            shape = qualified
                (Some record { name = codes "Io"; member = None }) shape.Text;
          } ∷ record
          { name = codes "b"; shape = plain (shape.Set shape.Int) } ∷ []) ((codes "B") ∷ []),
    ) ∷ (
      codes "@StringKey provides a() : Int = ((1))",
      item.Provides None (Some (codes "StringKey"))
          (codes "a") [] (plain shape.Int) (int 1),
    ) ∷ (
      codes "@IntoSet @IntoSet binds a(b: A) : B",
      item.Binds (Some mark.IntoSet)
          (Some (codes "IntoSet")) (codes "a") (record
          { name = codes "b"; shape = plain (shape.Named (codes "A")) })
          (plain (shape.Named (codes "B"))),
    ) ∷
    (codes "@Inject component A {", item.Component ((codes "Inject") ∷ []) (codes "A") None []) ∷ (
      codes "provides a() : Int = if has < ok then get else get",
      item.Provides None None (codes "a")
          [] (plain shape.Int) (expr.If (cond.Less (expr.Param (codes "has"))
          (expr.Param (codes "ok"))) (expr.Param (codes "get")) (expr.Param (codes "get"))),
    ) ∷ (
      codes "produces a() : Int = ((if x < y then 1 else 2))",
      item.Produces None (codes "a") []
          (plain shape.Int) (tree.Leaf (expr.If (cond.Less (expr.Param (codes "x"))
          (expr.Param (codes "y"))) (int 1) (int 2))),
    ) ∷ (
      codes "ask a . b [ -7 ]",
      item.AskLine (codes "a") (codes "b")
          (step.At (map_key.Int (negsuc 6)) ∷ []),
    ) ∷
    []

other_lines_are_read : map (λ row. item_of row.0) other_lines ≡ map (λ row. Some row.1) other_lines
unfolding item_of meaning_of tokens_of kind_of extent is_name is_at_name is_integer is_counting
    is_text is_sign value_of_integer value_of_text comes taken eaten comes_kind spelled at_end
    at_name text integer optional list_of names optional_names enclosed some_in_parentheses
    in_parentheses at_names constructed type_over type_within type_form member some_qualifier
    qualifier type_use param params nested text_constant integer_constant object constant_over
    constant_within constant call_of_one call_by_name or_else call_of function named_as named
    atom row_of fields prim added sum comes_call has is_ok comparison condition choice whole
    expression_within expression body awaited leaf tree_choice tree_over tree_within tree_body
    scope map_key_mark mark_form qualifier_line scope_line interface_line class_behind class_line
    module_line test_module_line component_line define_component_line entry_point_line
    provides_line binds_behind binds_line produces_line use_line optional_of_line multibinds_line
    binds_instance_line entry_line depends_on_line end_line open_arg open_args open_line
    link_line map_key_form at_key ask_step ask_steps ask_line outside_line line_with item_line
other_lines_are_read = simp nesting_equations refl

-- lines in none of the forms
abbrev bad_lines : List Bytes
bad_lines =
    (codes "module A") ∷
    (codes "module A includes {") ∷
    (codes "module A includes B, {") ∷
    (codes "@Tab class A()") ∷
    (codes "class A(a: Text<Int>)") ∷
    (codes "class A(a: Foo<Int>)") ∷
    (codes "class A(a: Map<Int>)") ∷
    (codes "class A(a: Provider<Lazy<Map<Int,Provider<Int>>>>)") ∷
    (codes "@ElementsIntoSet binds a(b: A) : B") ∷
    (codes "@Tab produces a() : Int = 1") ∷
    (codes "@Tab @IntoSet provides a() : Int = 1") ∷
    (codes "@IntoMap provides a() : Int = 1") ∷
    (codes "@IntoSet bindsOptionalOf a : B") ∷
    (codes "@Tab multibinds a : Set<B>") ∷
    (codes "provides a() : Int = has(x)") ∷
    (codes "provides a() : Int = new") ∷
    (codes "provides a() : Int = foo(1)") ∷
    (codes "provides a() : Int = cat()") ∷
    (codes "provides a() : Int = 1-2") ∷
    (codes "provides a() : Int = await x") ∷
    (codes "produces a() : Int = (await x)") ∷
    (codes "provides a() : Int = 00") ∷
    (codes "provides a() : @if Int = 1") ∷
    (codes "open a : B with x = (1)") ∷
    (codes "open a : B with") ∷
    (codes "ask a.b()") ∷
    (codes "ask a") ∷
    (codes "}}") ∷
    (codes "provides a() : Int = 9223372036854775808") ∷
    []

bad_lines_are_bad : map meaning_of bad_lines ≡ map (λ line. meaning.Bad) bad_lines
unfolding meaning_of tokens_of kind_of extent is_name is_at_name is_integer is_counting is_text
    is_sign value_of_integer value_of_text comes taken eaten comes_kind spelled at_end at_name
    text integer optional list_of names optional_names enclosed some_in_parentheses
    in_parentheses at_names constructed type_over type_within type_form member some_qualifier
    qualifier type_use param params nested text_constant integer_constant object constant_over
    constant_within constant call_of_one call_by_name or_else call_of function named_as named
    atom row_of fields prim added sum comes_call has is_ok comparison condition choice whole
    expression_within expression body awaited leaf tree_choice tree_over tree_within tree_body
    scope map_key_mark mark_form qualifier_line scope_line interface_line class_behind class_line
    module_line test_module_line component_line define_component_line entry_point_line
    provides_line binds_behind binds_line produces_line use_line optional_of_line multibinds_line
    binds_instance_line entry_line depends_on_line end_line open_arg open_args open_line
    link_line map_key_form at_key ask_step ask_steps ask_line outside_line line_with item_line
bad_lines_are_bad = simp nesting_equations refl

-- blank lines and comments say nothing
nothing_is_said : map meaning_of ([] ∷ codes "  " ∷ codes "//" ∷ codes "  // class A(" ∷ []) ≡
    meaning.Nothing ∷ meaning.Nothing ∷ meaning.Nothing ∷ meaning.Nothing ∷ []
unfolding meaning_of
nothing_is_said = refl

parentheses_count_nothing : item_of
    (codes "provides a() : Int = ((((((((((((((((((((1))))))))))))))))))))") ≡ Some
    (item.Provides None None (codes "a") [] (plain shape.Int) (int 1))
unfolding item_of meaning_of tokens_of kind_of extent is_name is_at_name is_integer is_counting
    is_text is_sign value_of_integer value_of_text comes taken eaten comes_kind spelled at_end
    at_name text integer optional list_of names optional_names enclosed some_in_parentheses
    in_parentheses at_names constructed type_over type_within type_form member some_qualifier
    qualifier type_use param params nested text_constant integer_constant object constant_over
    constant_within constant call_of_one call_by_name or_else call_of function named_as named
    atom row_of fields prim added sum comes_call has is_ok comparison condition choice whole
    expression_within expression body awaited leaf tree_choice tree_over tree_within tree_body
    scope map_key_mark mark_form qualifier_line scope_line interface_line class_behind class_line
    module_line test_module_line component_line define_component_line entry_point_line
    provides_line binds_behind binds_line produces_line use_line optional_of_line multibinds_line
    binds_instance_line entry_line depends_on_line end_line open_arg open_args open_line
    link_line map_key_form at_key ask_step ask_steps ask_line outside_line line_with item_line
parentheses_count_nothing = simp nesting_equations refl

-- so many `fail` around a text
abbrev deep : ℕ → Expr
deep zero = expr.Text (codes "x")
deep (suc n) = expr.Call call.Fail (deep n ∷ [])

deep_nests : (n : ℕ) → nesting (deep n) ≡ suc n
deep_nests zero = nesting-Text (codes "x")
deep_nests (suc n) =
    let most : suc (greatest (suc n ∷ [])) ≡ suc (suc n) = omega arith in
    nesting-Call call.Fail (deep n ∷ []) ∙ ap (λ k. suc (greatest (k ∷ []))) (deep_nests n) ∙ most

sixteen_deep : nested nesting (pure (deep 15)) [] ≡ Some (deep 15, [])
unfolding nested
sixteen_deep = rw (deep_nests 15) refl

seventeen_deep : nested nesting (pure (deep 16)) [] ≡ None
unfolding nested
seventeen_deep = rw (deep_nests 16) refl

-- each kind of token
tokens_are_found : map (λ line. lexemes_of line (tokens_of line))
    (codes "@S a if -5 \"b\" ===" ∷ codes "x;" ∷ []) ≡
    Some ((kind.AtName, codes "@S") ∷ (kind.Name, codes "a") ∷ (kind.Word, codes "if") ∷
    (kind.Integer, codes "-5")
    ∷ (kind.Text, codes "\"b\"") ∷ (kind.Sign, codes "==") ∷ (kind.Sign, codes "=") ∷ []) ∷ None
    ∷ []
unfolding tokens_of kind_of extent is_name is_at_name is_integer is_counting is_text is_sign
tokens_are_found = refl

-- `if x < y then 1 else 2`, by its parts
choice_written : written (expr.If (cond.Less (expr.Param (codes "x")) (expr.Param (codes "y")))
    (int 1) (int 2)) ≡
    expression_written (Expr-F.If
    (condition_written (Cond-F.Less (expression_written (Expr-F.Param (codes "x")))
    (expression_written (Expr-F.Param (codes "y")))))
    (expression_written (Expr-F.Int (pos 1)))
    (expression_written (Expr-F.Int (pos 2))))
choice_written = rw (
  written-If,
  written-Less,
  written-Param (codes "x"),
  written-Param (codes "y"),
  written-Int (pos 1),
  written-Int (pos 2),
) refl

sum_to_the_right-printed : canonical_line sum_to_the_right.1 ≡ sum_to_the_right.0
unfolding canonical_line item_tokens quoted
sum_to_the_right-printed =
    rw (written_type-Int, written-Sum, written-Param, written-Sum, written-Param, written-Int)
    (simp (decimal_digit 1 (lit< tt)) refl)

sum_to_the_left-printed : canonical_line sum_to_the_left.1 ≡ sum_to_the_left.0
unfolding canonical_line item_tokens quoted
sum_to_the_left-printed =
    rw (written_type-Int, written-Sum, written-Sum, written-Param, written-Param, written-Int)
    (simp (decimal_digit 1 (lit< tt)) refl)

field_of_a_sum-printed : canonical_line field_of_a_sum.1 ≡ field_of_a_sum.0
unfolding canonical_line item_tokens quoted
field_of_a_sum-printed =
    rw (written_type-Int, written-Field, written-Field, written-Sum, written-Param, written-Param)
    refl

choices-printed : canonical_line choices.1 ≡ choices.0
unfolding canonical_line item_tokens quoted
choices-printed =
    rw (
      written_type-Int,
      written-If (cond.Equal
          (expr.If (cond.Less (expr.Param (codes "x")) (expr.Param (codes "y"))) (int 1) (int 2))
          (expr.Field (expr.Param (codes "x")) (codes "f")))
          (expr.Sum (expr.If (cond.Less (expr.Param (codes "x")) (expr.Param (codes "y"))) (int 1)
          (int 2)) (int 1)) (expr.If (cond.Has (codes "x")) (int 1) (int 2)),
      written-Equal,
      choice_written,
      written-Field,
      written-Param,
      written-Sum,
      written-Int,
      written-If
          (cond.Has (codes "x")) (int 1) (int 2),
      written-Has,
      written-Int,
    )
    (simp (written-Int, choice_written, decimal_digit 1 (lit< tt), decimal_digit 2 (lit< tt)) refl)

members_of_a_list-printed : canonical_line members_of_a_list.1 ≡ members_of_a_list.0
unfolding canonical_line item_tokens quoted
members_of_a_list-printed =
    rw (
      written_type-Text,
      written-Call,
      written-Call,
      written-Int,
      written-OrElse,
      written-Sum,
      choice_written,
      written-New,
      written-Call,
      written-Text,
    )
    (simp (written-Int, choice_written, decimal_digit 1 (lit< tt), decimal_digit 2 (lit< tt)) refl)

leaves_of_a_tree-printed : canonical_line leaves_of_a_tree.1 ≡ leaves_of_a_tree.0
unfolding canonical_line item_tokens quoted
leaves_of_a_tree-printed =
    rw (
      written_type-Int,
      written_tree-If (cond.IsOk (codes "x"))
          (tree.Leaf (expr.If (cond.Less (expr.Param (codes "x")) (expr.Param (codes "y"))) (int 1)
          (int 2))) (tree.If (cond.Less (expr.Param (codes "x")) (expr.Param (codes "y")))
          (tree.Leaf (expr.ByName by.Value (codes "x"))) (tree.Await (codes "q"))),
      written-IsOk,
      written_tree-Leaf,
      choice_written,
      written_tree-If
          (cond.Less (expr.Param (codes "x")) (expr.Param (codes "y")))
          (tree.Leaf (expr.ByName by.Value (codes "x"))) (tree.Await (codes "q")),
      written-Less,
      written-Param,
      written-Param,
      written_tree-Leaf,
      written-ByName,
      written_tree-Await,
    )
    (simp (decimal_digit 1 (lit< tt), decimal_digit 2 (lit< tt)) refl)

marks_and_parameters-printed : canonical_line marks_and_parameters.1 ≡ marks_and_parameters.0
unfolding canonical_line item_tokens quoted
marks_and_parameters-printed =
    rw (written_type-Provider, written_type-Text, written-Call, written-ByName, written-Text)
    refl

arguments-printed : canonical_line arguments.1 ≡ arguments.0
unfolding canonical_line item_tokens quoted
arguments-printed =
    rw (written-New, written-Text, written-Int)
    (simp (decimal_digit 3 (lit< tt)) refl)

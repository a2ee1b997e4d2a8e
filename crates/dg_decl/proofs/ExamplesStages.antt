-- The smallest documents that break each rule of the stages names, types, bindings, sizes, session
-- and links, and some that break none. Items are counted from 0, lines from 1.
use Rattle.std.proofs.Common.{◌≡◌, refl, ap, ◌∙◌}
use Rattle.std.specs.Prelude.{true, false, List, [], ◌∷◌, ◌++◌, flat_map, Some, None, codes, pos}
use Rattle.dg_types.specs.declared.shape.Shape.TheVariants as shape
use Rattle.dg_types.specs.Texts.{shape_text}
use Rattle.dg_types.specs.declared.key.MapKeyVal.TheVariants as map_key
use Rattle.dg_lex.specs.Bytes.{Bytes}
use Rattle.dg_decl.specs.declared.document.Doc.{Doc}
use Rattle.dg_decl.specs.declared.expression.ParamCall.TheVariants as by_name
use Rattle.dg_decl.specs.declared.expression.Expr.{Expr}
use Rattle.dg_decl.specs.declared.expression.Expr.TheVariants as expr
use Rattle.dg_decl.specs.declared.expression.Tree.TheVariants as tree
use Rattle.dg_decl.specs.declared.item.Mark.TheVariants as mark
use Rattle.dg_decl.specs.declared.item.Item.{Item}
use Rattle.dg_decl.specs.declared.item.Item.TheVariants as item
use Rattle.dg_decl.specs.declared.item.AskStep.TheVariants as step
use Rattle.dg_decl.specs.declared.item.OpenArg.{OpenArg}
use Rattle.dg_decl.specs.declared.item.Param.{Param}
use Rattle.dg_decl.specs.declared.binding.BindRef.TheVariants as binding
use Rattle.dg_decl.specs.declared.graph.NodeKind.TheVariants as node
use Rattle.dg_decl.specs.declared.violation.Rule.TheVariants as rule
use Rattle.dg_decl.specs.declared.violation.Violation.{Violation}
use Rattle.dg_decl.specs.Graph.{node_of, nodes}
use Rattle.dg_decl.specs.Stages.Names.{names_stage}
use Rattle.dg_decl.specs.Stages.Types.{types_stage}
use Rattle.dg_decl.specs.Stages.Bindings.{depends_on_production, optional_production, call_cycle, bindings_stage}
use Rattle.dg_decl.specs.Stages.Session.{session_stage}
use Rattle.dg_decl.specs.Stages.Links.{links_stage}
use Rattle.dg_decl.specs.Diagnostics.{diagnostics}
use Rattle.dg_decl.proofs.ExampleWords.{doc_of, bare_use, text_use, class_use, module_line, component_line, child_line, text_line, entry_line, inject_line, parameter}
use Rattle.dg_decl.proofs.JudgeWords.{judges, int_use, provider_use, named_use, provides_line, broken_by, broken}
use Rattle.dg_decl.proofs.FoldEquations.{folds, expr-ByName}

-- ---- names

-- a predefined name, a name of an earlier line, of an earlier member, of an earlier parameter and
-- of an earlier instance
abbrev repeated_names : Doc
repeated_names =
    doc_of (item.ScopeLine (codes "Singleton")
    ∷ item.Interface (codes "A")
    ∷ item.Class false None (codes "A") (parameter (codes "p") text_use
    ∷ parameter (codes "p") text_use ∷ []) []
    ∷ component_line (codes "App") []
    ∷ entry_line (codes "Text")
    ∷ entry_line (codes "Text")
    ∷ item.End
    ∷ item.OpenLine (codes "A") (codes "App") None []
    ∷ item.OpenLine (codes "A") (codes "App") None []
    ∷ [])

pub names_that_are_declared_again :
    names_stage repeated_names ≡ broken_by rule.DuplicateName (codes "line 1") (codes "Singleton")
    ∷ broken_by rule.DuplicateName (codes "line 3") (codes "A")
    ∷ broken_by rule.DuplicateName (codes "line 3") (codes "p")
    ∷ broken_by rule.DuplicateName (codes "line 6") (codes "Text")
    ∷ broken_by rule.DuplicateName (codes "line 9") (codes "A")
    ∷ []
unfolding judges
names_that_are_declared_again = simp folds refl

-- each mention wants another kind than the name has, or a name that nothing declares
abbrev strange_names : Doc
strange_names =
    doc_of (item.ScopeLine (codes "S")
    ∷ item.Class true (Some (codes "T")) (codes "C") (parameter (codes "p")
    (record {
      qualifier = Some (record { name = codes "Named"; member = None });
      shape = shape.Named (codes "S");
    }) ∷ []) (codes "C" ∷ [])
    ∷ item.Module (Some (codes "App")) (codes "M") (codes "C" ∷ [])
    ∷ provides_line (codes "f") [] (class_use (codes "C"))
    (expr.New (codes "D") (expr.Param (codes "x") ∷ []))
    ∷ item.End
    ∷ child_line (codes "App") (codes "SingletonComponent") (codes "M" ∷ [])
    ∷ item.End
    ∷ [])

pub names_that_are_not_what_is_wanted :
    names_stage strange_names ≡ broken_by rule.UnknownName (codes "line 2") (codes "T")
    ∷ broken_by rule.UnknownName (codes "line 2") (codes "Named")
    ∷ broken_by rule.UnknownName (codes "line 2") (codes "S")
    ∷ broken_by rule.UnknownName (codes "line 2") (codes "C")
    ∷ broken_by rule.UnknownName (codes "line 3") (codes "App")
    ∷ broken_by rule.UnknownName (codes "line 3") (codes "C")
    ∷ broken_by rule.UnknownName (codes "line 4") (codes "D")
    ∷ broken_by rule.UnknownName (codes "line 4") (codes "x")
    ∷ broken_by rule.UnknownName (codes "line 6") (codes "SingletonComponent")
    ∷ []
unfolding judges
names_that_are_not_what_is_wanted = simp folds refl

-- ---- types

abbrev strange_types : Doc
strange_types =
    doc_of (item.Class true None (codes "C") [] []
    ∷ module_line (codes "M")
    ∷ provides_line (codes "f") (parameter (codes "p") (bare_use (shape.Produced shape.Text)) ∷ [])
    (named_use (codes "x") (shape.Set shape.Int)) (expr.Int (pos 1))
    ∷ item.OptionalOf (codes "o") (class_use (codes "C"))
    ∷ item.OptionalOf (codes "q") (named_use (codes "x") (shape.Named (codes "C")))
    ∷ item.Binds None None (codes "b") (parameter (codes "p") text_use) (class_use (codes "C"))
    ∷ item.End
    ∷ [])

pub types_out_of_place :
    types_stage strange_types ≡ broken_by rule.BadType (codes "line 3") (codes "Produced<Text>")
    ∷ broken_by rule.BadType (codes "line 3") (codes "Set<Int>")
    ∷ broken rule.TypeMismatch (codes "line 3")
    ∷ broken_by rule.OptionalOfInject (codes "line 4") (codes "C")
    ∷ broken rule.TypeMismatch (codes "line 6")
    ∷ []
unfolding judges
types_out_of_place = simp folds refl

-- ---- bindings

-- the texts of the keys of these examples
text_is_text : shape_text shape.Text ≡ codes "Text"
unfolding judges
text_is_text = simp folds refl

optional_is_text : shape_text (shape.Optional shape.Text) ≡ codes "Optional<Text>"
unfolding judges
optional_is_text = simp folds refl

deferred_is_text :
    shape_text (shape.Optional (shape.Provider shape.Text)) ≡ codes "Optional<Provider<Text>>"
unfolding judges
deferred_is_text = simp folds refl

map_is_text :
    shape_text (shape.Map shape.Text (shape.Named (codes "C"))) ≡ codes "Map<Text,C>"
unfolding judges
map_is_text = simp folds refl

provider_map_is_text :
    shape_text (shape.Map shape.Int (shape.Provider shape.Text)) ≡ codes "Map<Int,Provider<Text>>"
unfolding judges
provider_map_is_text = simp folds refl

-- a module with these members, and a component with these entries
abbrev missing : Doc
missing =
    doc_of (module_line (codes "M")
    ∷ provides_line (codes "x") (parameter (codes "n") int_use ∷ []) text_use
    (expr.Text (codes "x"))
    ∷ item.End
    ∷ component_line (codes "App") (codes "M" ∷ [])
    ∷ entry_line (codes "x")
    ∷ item.Entry (codes "s") (bare_use (shape.Set shape.Text))
    ∷ item.End
    ∷ [])

pub requests_that_find_nothing :
    bindings_stage missing ≡ broken_by rule.MissingBinding (codes "App/M.x(n)") (codes "Int")
    ∷ broken_by rule.MissingBinding (codes "App/App.s") (codes "Set<Text>")
    ∷ []
unfolding judges
requests_that_find_nothing = simp folds refl

-- a parent and a child bind one key
abbrev doubled : Doc
doubled =
    doc_of (module_line (codes "P")
    ∷ text_line None (codes "t")
    ∷ item.End
    ∷ module_line (codes "Q")
    ∷ text_line None (codes "t")
    ∷ item.End
    ∷ component_line (codes "App") (codes "P" ∷ [])
    ∷ item.End
    ∷ child_line (codes "Act") (codes "App") (codes "Q" ∷ [])
    ∷ entry_line (codes "t")
    ∷ item.End
    ∷ [])

pub a_request_that_finds_two :
    bindings_stage doubled ≡ broken_by rule.DuplicateBindings (codes "Act/Act.t")
    (codes "Text by App/P.t, Act/Q.t") ∷ []
unfolding judges
a_request_that_finds_two =
    ap
    (λ t. broken_by rule.DuplicateBindings (codes "Act/Act.t")
    (t ++ codes " by App/P.t, Act/Q.t") ∷ [])
    text_is_text

-- a class and a member with a scope that no component carries
abbrev unscoped : Doc
unscoped =
    doc_of (item.ScopeLine (codes "S")
    ∷ inject_line (Some (codes "S")) (codes "Repo")
    ∷ module_line (codes "M")
    ∷ item.Provides None (Some (codes "S")) (codes "t")
    (parameter (codes "r") (class_use (codes "Repo")) ∷ []) text_use (expr.Text (codes "x"))
    ∷ item.End
    ∷ component_line (codes "App") (codes "M" ∷ [])
    ∷ entry_line (codes "t")
    ∷ item.End
    ∷ [])

pub scopes_that_nobody_carries :
    bindings_stage unscoped
    ≡ broken_by rule.IncompatiblyScopedBindings (codes "App/M.t(r)") (codes "Repo @S")
    ∷ broken_by rule.IncompatiblyScopedMember (codes "App/M.t") (codes "@S")
    ∷ []
unfolding judges
scopes_that_nobody_carries = simp folds refl

-- an entry of a map from texts to a class
abbrev keyed : Bytes → Bytes → Item
keyed key n =
    item.Binds (Some (mark.IntoMap (map_key.Text key))) None n
    (parameter (codes "c") (class_use (codes "C"))) (class_use (codes "C"))

-- three entries of one key, two of another, and one of a third
abbrev same_keys : Doc
same_keys =
    doc_of (inject_line None (codes "C")
    ∷ module_line (codes "M")
    ∷ keyed (codes "k") (codes "a")
    ∷ keyed (codes "l") (codes "b")
    ∷ keyed (codes "m") (codes "c")
    ∷ keyed (codes "l") (codes "d")
    ∷ keyed (codes "k") (codes "e")
    ∷ keyed (codes "k") (codes "f")
    ∷ item.End
    ∷ component_line (codes "App") (codes "M" ∷ [])
    ∷ item.Entry (codes "e") (bare_use (shape.Map shape.Text (shape.Named (codes "C"))))
    ∷ item.End
    ∷ [])

pub each_repeated_key_is_given_once :
    bindings_stage same_keys
    ≡ broken_by rule.MapKeys (codes "App/Map<Text,C>") (codes "\"k\"")
    ∷ broken_by rule.MapKeys (codes "App/Map<Text,C>") (codes "\"l\"")
    ∷ []
unfolding judges
each_repeated_key_is_given_once =
    ap
    (λ t. broken_by rule.MapKeys (codes "App/" ++ t) (codes "\"k\"")
    ∷ broken_by rule.MapKeys (codes "App/" ++ t) (codes "\"l\"") ∷ [])
    map_is_text

abbrev producer_line : Bytes → Item
producer_line n = item.Produces None n [] text_use (tree.Leaf (expr.Text (codes "x")))

-- a body, a Provider and an optional in two forms ask for a production
abbrev producing : Doc
producing =
    doc_of (module_line (codes "M")
    ∷ producer_line (codes "t")
    ∷ provides_line (codes "n") (parameter (codes "t") text_use ∷ []) int_use (expr.Int (pos 1))
    ∷ item.OptionalOf (codes "o") text_use
    ∷ item.End
    ∷ component_line (codes "App") (codes "M" ∷ [])
    ∷ item.Entry (codes "n") int_use
    ∷ item.Entry (codes "p") (provider_use shape.Text)
    ∷ item.Entry (codes "q") (bare_use (shape.Optional (shape.Provider shape.Text)))
    ∷ item.Entry (codes "o") (bare_use (shape.Optional shape.Text))
    ∷ item.End
    ∷ [])

-- what it breaks, where these are the texts of a text and of two optionals
abbrev productions_with : Bytes → Bytes → Bytes → List Violation
productions_with t o p =
    broken_by rule.DependsOnProduction (codes "App/M.n(t)") t
    ∷ broken rule.OptionalProduction (codes "App/" ++ o)
    ∷ broken_by rule.DependsOnProduction (codes "App/" ++ (p ++ [])) t
    ∷ broken rule.OptionalProduction (codes "App/" ++ p)
    ∷ broken_by rule.DependsOnProduction (codes "App/App.p") t
    ∷ []

-- the two rules on productions, at each node
abbrev on_productions : Doc → List Violation
on_productions doc =
    flat_map (λ n. depends_on_production doc n ++ optional_production doc n) (nodes doc)

pub provisions_on_productions :
    on_productions producing
    ≡ broken_by rule.DependsOnProduction (codes "App/M.n(t)") (codes "Text")
    ∷ broken rule.OptionalProduction (codes "App/Optional<Text>")
    ∷ broken_by rule.DependsOnProduction (codes "App/Optional<Provider<Text>>") (codes "Text")
    ∷ broken rule.OptionalProduction (codes "App/Optional<Provider<Text>>")
    ∷ broken_by rule.DependsOnProduction (codes "App/App.p") (codes "Text")
    ∷ []
unfolding judges
provisions_on_productions =
    ap (λ t. productions_with t (shape_text (shape.Optional shape.Text))
    (shape_text (shape.Optional (shape.Provider shape.Text)))) text_is_text
    ∙ ap (λ o. productions_with (codes "Text") o
    (shape_text (shape.Optional (shape.Provider shape.Text)))) optional_is_text
    ∙ ap (productions_with (codes "Text") (codes "Optional<Text>")) deferred_is_text

-- two productions are entries of a map, which is asked for as it is and as one of Providers
abbrev produced_entries : Doc
produced_entries =
    doc_of (module_line (codes "M")
    ∷ item.Produces (Some (mark.IntoMap (map_key.Int (pos 1)))) (codes "a") [] text_use
    (tree.Leaf (expr.Text (codes "x")))
    ∷ item.Produces (Some (mark.IntoMap (map_key.Int (pos 2)))) (codes "b") [] text_use
    (tree.Leaf (expr.Text (codes "x")))
    ∷ item.End
    ∷ component_line (codes "App") (codes "M" ∷ [])
    ∷ item.Entry (codes "m") (bare_use (shape.Map shape.Int shape.Text))
    ∷ item.Entry (codes "p") (bare_use (shape.Map shape.Int (shape.Provider shape.Text)))
    ∷ item.End
    ∷ [])

pub a_map_of_providers_of_productions_is_given_once :
    on_productions produced_entries
    ≡ broken_by rule.DependsOnProduction (codes "App/Map<Int,Provider<Text>>")
    (codes "Map<Int,Provider<Text>>") ∷ []
unfolding judges
a_map_of_providers_of_productions_is_given_once =
    ap (λ t. broken_by rule.DependsOnProduction (codes "App/" ++ t) t ∷ []) provider_map_is_text

-- two classes that need one another
abbrev needing : Bytes → Bytes → Item
needing n other = item.Class true None n (parameter (codes "o") (class_use other) ∷ []) []

abbrev in_a_circle : Doc
in_a_circle =
    doc_of (needing (codes "A") (codes "B")
    ∷ needing (codes "B") (codes "A")
    ∷ component_line (codes "App") []
    ∷ item.Entry (codes "a") (class_use (codes "A"))
    ∷ item.End
    ∷ [])

pub each_node_of_a_cycle_is_given :
    bindings_stage in_a_circle
    ≡ broken rule.DependencyCycle (codes "App/A") ∷ broken rule.DependencyCycle (codes "App/B")
    ∷ []
unfolding judges
each_node_of_a_cycle_is_given = refl

-- the same, where one defers its request
abbrev deferring : Doc
deferring =
    doc_of (needing (codes "A") (codes "B")
    ∷ item.Class true None (codes "B") (parameter (codes "o")
    (provider_use (shape.Named (codes "A"))) ∷ []) []
    ∷ component_line (codes "App") []
    ∷ item.Entry (codes "a") (class_use (codes "A"))
    ∷ item.End
    ∷ [])

pub a_deferred_cycle_breaks_no_rule : bindings_stage deferring ≡ []
unfolding judges
a_deferred_cycle_breaks_no_rule = refl

-- a body calls what its Provider defers: a class that needs the first, or nothing
abbrev pub calling_back : List Param → Doc
calling_back params =
    doc_of (item.Class true None (codes "B") params []
    ∷ module_line (codes "M")
    ∷ provides_line (codes "a")
    (parameter (codes "p") (provider_use (shape.Named (codes "B"))) ∷ [])
    (named_use (codes "a") (shape.Named (codes "B"))) (expr.ByName by_name.Get (codes "p"))
    ∷ item.End
    ∷ component_line (codes "App") (codes "M" ∷ [])
    ∷ item.Entry (codes "n") (named_use (codes "a") (shape.Named (codes "B")))
    ∷ item.End
    ∷ [])

abbrev pub closing : Doc
closing =
    calling_back (parameter (codes "n") (named_use (codes "a") (shape.Named (codes "B"))) ∷ [])

pub a_called_edge_that_closes_none_breaks_no_rule : bindings_stage (calling_back []) ≡ []
unfolding judges
a_called_edge_that_closes_none_breaks_no_rule = simp (expr-ByName) refl

pub a_member_on_no_called_cycle :
    call_cycle (calling_back []) (node_of 8 (node.Bound (binding.Member 2))) ≡ []
unfolding judges
a_member_on_no_called_cycle = simp (expr-ByName) refl

-- ---- sizes, session and links

-- a component with an argument and a child
abbrev opened : List Item → Doc
opened lines =
    doc_of (item.Class false None (codes "C") (parameter (codes "f") int_use ∷ []) []
    ∷ component_line (codes "App") []
    ∷ item.BindsInstance (codes "c") (class_use (codes "C"))
    ∷ item.BindsInstance (codes "n") int_use
    ∷ item.Entry (codes "v") (class_use (codes "C"))
    ∷ item.End
    ∷ child_line (codes "Act") (codes "App") []
    ∷ item.End
    ∷ lines)

abbrev given : Bytes → Expr → OpenArg
given n value = record { name = n; value = value }

abbrev new_c : Expr
new_c = expr.New (codes "C") (expr.Int (pos 1) ∷ [])

-- an instance of the component with both arguments
abbrev whole_line : Item
whole_line =
    item.OpenLine (codes "a") (codes "App") None
    (given (codes "c") new_c ∷ given (codes "n") (expr.Int (pos 2)) ∷ [])

pub instances_that_are_opened_well :
    session_stage
    (opened (whole_line ∷ item.OpenLine (codes "b") (codes "Act") (Some (codes "a")) []
    ∷ item.AskLine (codes "a") (codes "v") (step.Field (codes "f") ∷ []) ∷ [])) ≡ []
unfolding judges
instances_that_are_opened_well = simp folds refl

pub instances_that_nobody_opened :
    session_stage (opened (item.OpenLine (codes "b") (codes "Act") (Some (codes "b")) []
    ∷ item.AskLine (codes "z") (codes "v") [] ∷ []))
    ≡ broken_by rule.UnknownInstance (codes "line 9") (codes "b")
    ∷ broken_by rule.UnknownInstance (codes "line 10") (codes "z")
    ∷ []
unfolding judges
instances_that_nobody_opened = refl

pub parents_that_do_not_fit :
    session_stage (opened (whole_line ∷ item.OpenLine (codes "b") (codes "Act") None []
    ∷ item.OpenLine (codes "d") (codes "App") (Some (codes "a")) []
    ∷ item.OpenLine (codes "e") (codes "Act") (Some (codes "b")) [] ∷ []))
    ≡ broken_by rule.WrongParent (codes "line 10") (codes "Act")
    ∷ broken_by rule.WrongParent (codes "line 11") (codes "App")
    ∷ broken_by rule.WrongParent (codes "line 12") (codes "Act")
    ∷ []
unfolding judges
parents_that_do_not_fit = simp folds refl

-- an argument of another type, one that is given again, one that nobody declares, and one that is
-- missing
pub arguments_that_do_not_fit :
    session_stage (opened (item.OpenLine (codes "a") (codes "App") None
    (given (codes "n") (expr.Text (codes "x")) ∷ [])
    ∷ item.OpenLine (codes "b") (codes "App") None (given (codes "c") new_c
    ∷ given (codes "c") new_c ∷ given (codes "z") new_c ∷ [])
    ∷ item.OpenLine (codes "d") (codes "App") None (given (codes "z") new_c ∷ [])
    ∷ item.OpenLine (codes "e") (codes "App") None (given (codes "n") (expr.Int (pos 1)) ∷ [])
    ∷ []))
    ≡ broken_by rule.BadArgument (codes "line 9") (codes "n")
    ∷ broken_by rule.BadArgument (codes "line 10") (codes "c")
    ∷ broken_by rule.BadArgument (codes "line 11") (codes "z")
    ∷ broken_by rule.BadArgument (codes "line 12") (codes "c")
    ∷ []
unfolding judges
arguments_that_do_not_fit = simp folds refl

pub asks_that_do_not_fit :
    session_stage (opened (whole_line ∷ item.AskLine (codes "a") (codes "n") []
    ∷ item.AskLine (codes "a") (codes "v") (step.Get ∷ [])
    ∷ item.AskLine (codes "a") (codes "v") (step.Field (codes "f") ∷ step.Inside ∷ [])
    ∷ []))
    ≡ broken_by rule.UnknownEntry (codes "line 10") (codes "n")
    ∷ broken_by rule.BadPath (codes "line 11") (codes "1")
    ∷ broken_by rule.BadPath (codes "line 12") (codes "2")
    ∷ []
unfolding judges
asks_that_do_not_fit = simp folds refl

-- a component that depends on two others
abbrev depending : List Item → Doc
depending lines =
    doc_of (component_line (codes "Low") []
    ∷ item.End
    ∷ component_line (codes "Mid") []
    ∷ item.End
    ∷ component_line (codes "App") []
    ∷ item.DependsOn (codes "Low")
    ∷ item.DependsOn (codes "Mid")
    ∷ item.End
    ∷ item.OpenLine (codes "a") (codes "App") None []
    ∷ item.OpenLine (codes "l") (codes "Low") None []
    ∷ item.OpenLine (codes "m") (codes "Mid") None []
    ∷ lines)

abbrev link_line : Bytes → Bytes → Item
link_line from to = item.Link from to

pub instances_that_are_tied :
    diagnostics (depending (link_line (codes "a") (codes "m") ∷ link_line (codes "a") (codes "l")
    ∷ [])) ≡ []
unfolding judges
instances_that_are_tied = refl

pub the_first_dependency_that_is_not_tied :
    links_stage (depending [])
    ≡ broken_by rule.MissingLink (codes "line 9") (codes "Low") ∷ []
unfolding judges
the_first_dependency_that_is_not_tied = refl

-- an end that nobody opened, an end of a class that is no dependency, and one that is tied again
pub links_that_do_not_fit :
    links_stage (depending (link_line (codes "a") (codes "l") ∷ link_line (codes "y") (codes "z")
    ∷ link_line (codes "a") (codes "z") ∷ link_line (codes "l") (codes "m")
    ∷ link_line (codes "a") (codes "l") ∷ []))
    ≡ broken_by rule.MissingLink (codes "line 9") (codes "Mid")
    ∷ broken_by rule.UnknownLinked (codes "line 13") (codes "y")
    ∷ broken_by rule.UnknownLinked (codes "line 14") (codes "z")
    ∷ broken_by rule.WrongDependency (codes "line 15") (codes "Mid")
    ∷ broken_by rule.WrongDependency (codes "line 16") (codes "Low")
    ∷ []
unfolding judges
links_that_do_not_fit = refl

pub only_the_first_stage_that_finds_something_is_given :
    diagnostics (depending (item.AskLine (codes "z") (codes "e") [] ∷ []))
    ≡ broken_by rule.UnknownInstance (codes "line 12") (codes "z") ∷ []
unfolding judges
only_the_first_stage_that_finds_something_is_given = refl

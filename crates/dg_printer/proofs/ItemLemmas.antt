-- What is appended for an item, from what is appended for its parts.
use Rattle.std.proofs.Common.{◌≡◌, Bool, false, List, [], ◌∷◌, map, Option, None, refl, ◌∙◌}
use Rattle.std.specs.Prelude.{codes}
use Rattle.std.specs.List.{flat_map}
use Rattle.dg_types.specs.declared.shape.TypeUse.{TypeUse}
use Rattle.dg_lex.specs.Bytes.{Bytes}
use Rattle.dg_decl.specs.declared.expression.Expr.{Expr}
use Rattle.dg_decl.specs.declared.expression.Tree.{Tree}
use Rattle.dg_decl.specs.declared.item.Item.TheVariants as item
use Rattle.dg_decl.specs.declared.item.Mark.{Mark}
use Rattle.dg_decl.specs.declared.item.Param.{Param}
use Rattle.dg_decl.specs.declared.item.OpenArg.{OpenArg}
use Rattle.dg_decl.specs.declared.item.AskStep.{AskStep}
use Rattle.dg_decl.specs.Canonical.{keyword_tokens, clause_tokens, optional_tokens, install_tokens, optional_install, scope_tokens, inject_tokens, params_tokens, open_arg_tokens, open_args_tokens, step_tokens, at_tokens, item_tokens}
use Rattle.dg_decl.specs.Written.{more_separated, sign_token, name_token}
use Rattle.dg_printer.specs.Output.{Output, with_token, pushed, spelled, with_others, with_list, with_all, with_name, with_scope, with_argument, with_step, with_expression, with_tree, with_head, with_typed}
use Rattle.dg_printer.proofs.Appending.{pushed-append, spelled-append}

-- ---- lists

more_names : (l : Output) (ns : List Bytes)
    → spelled l (more_separated (sign_token (codes ",")) (map (λ m. name_token m ∷ []) ns))
    ≡ with_others with_name l ns
more_names l [] = refl
more_names l (n ∷ ns) = more_names (with_name (with_token l false (codes ",")) n) ns

-- a keyword or `:`, and names, where there are names
abbrev pub with_clause : Output → Bytes → List Bytes → Output
with_clause l w ns = spelled l (clause_tokens (name_token w) ns)

pub clause-none : (l : Output) (w : Bytes) (ns : List Bytes) → ns ≡ [] → with_clause l w ns
    ≡ with_list with_name l ns
clause-none l w ns none = rw none refl

pub clause-some : (l : Output) (w n : Bytes) (ns : List Bytes) → with_clause l w (n ∷ ns)
    ≡ with_list with_name (with_token l false w) (n ∷ ns)
clause-some l w n ns = more_names (with_name (with_token l false w) n) ns

clause_of_sign : (l : Output) (w : Bytes) (ns : List Bytes)
    → spelled l (clause_tokens (sign_token w) ns) ≡ with_clause l w ns
clause_of_sign l w [] = refl
clause_of_sign l w (n ∷ ns) = refl

pub ruleset clause_lines = (clause-none, clause-some)

more_open_args : (l : Output) (args : List OpenArg)
    → spelled l (more_separated (sign_token (codes ",")) (map open_arg_tokens args))
    ≡ with_others with_argument l args
more_open_args l [] = refl
more_open_args l (a ∷ args) =
    spelled-append (with_token l false (codes ",")) (open_arg_tokens a)
    (more_separated (sign_token (codes ",")) (map open_arg_tokens args))
    ∙ more_open_args (with_argument (with_token l false (codes ",")) a) args

abbrev pub with_open_args : Output → List OpenArg → Output
with_open_args l args = spelled l (open_args_tokens args)

pub open_args-some : (l : Output) (a : OpenArg) (args : List OpenArg)
    → with_open_args l (a ∷ args) ≡ with_list with_argument (with_token l false (codes "with"))
    (a ∷ args)
open_args-some l a args =
    spelled-append (with_token l false (codes "with")) (open_arg_tokens a)
    (more_separated (sign_token (codes ",")) (map open_arg_tokens args))
    ∙ more_open_args (with_argument (with_token l false (codes "with")) a) args

pub open_args-none : (l : Output) (args : List OpenArg) → args ≡ [] → with_open_args l args
    ≡ with_list with_argument l args
open_args-none l args none = rw none refl

pub ruleset open_args_lines = (open_args-none, open_args-some)

scopes_line : (l : Output) (scopes : List Bytes) → spelled l (at_tokens scopes)
    ≡ with_all with_scope l scopes
scopes_line l [] = refl
scopes_line l (s ∷ scopes) = scopes_line (with_scope l s) scopes

steps_line : (l : Output) (steps : List AskStep) → spelled l (flat_map step_tokens steps)
    ≡ with_all with_step l steps
steps_line l [] = refl
steps_line l (s ∷ steps) = spelled-append l (step_tokens s) (flat_map step_tokens steps)
    ∙ steps_line (with_step l s) steps

-- ---- items

pub class_line : (l : Output) (inject : Bool) (s : Option Bytes) (n : Bytes) (ps : List Param)
    (interfaces : List Bytes)
    → pushed l (item_tokens (item.Class inject s n ps interfaces))
    ≡ with_clause (pushed (spelled (spelled (spelled l (inject_tokens inject)) (scope_tokens s))
    (keyword_tokens (codes "class") n)) (params_tokens ps)) (codes ":") interfaces
unfolding item_tokens
class_line l inject s n ps interfaces = simp (pushed-append, spelled-append, clause_of_sign) refl

pub module_line : (l : Output) (install : Option Bytes) (n : Bytes) (includes : List Bytes)
    → pushed l (item_tokens (item.Module install n includes))
    ≡ with_token (with_clause (spelled (spelled l (optional_install install))
    (keyword_tokens (codes "module") n)) (codes "includes") includes) false (codes "{")
unfolding item_tokens
module_line l install n includes = simp (pushed-append, spelled-append) refl

pub test_module_line : (l : Output) (install n : Bytes) (replaces includes : List Bytes)
    → pushed l (item_tokens (item.TestModule install n replaces includes))
    ≡ with_token (with_clause (with_clause (spelled
    (spelled l (install_tokens (codes "TestInstallIn") install))
    (keyword_tokens (codes "module") n)) (codes "replaces") replaces) (codes "includes")
    includes) false (codes "{")
unfolding item_tokens
test_module_line l install n replaces includes = simp (pushed-append, spelled-append) refl

pub component_line : (l : Output) (scopes : List Bytes) (n : Bytes) (parent : Option Bytes)
    (modules : List Bytes)
    → pushed l (item_tokens (item.Component scopes n parent modules))
    ≡ with_token (with_clause (spelled (spelled (with_all with_scope l scopes)
    (keyword_tokens (codes "component") n)) (optional_tokens (codes "in") parent))
    (codes "modules") modules) false (codes "{")
unfolding item_tokens
component_line l scopes n parent modules = simp (pushed-append, spelled-append, scopes_line) refl

pub define_component_line : (l : Output) (scopes : List Bytes) (n parent : Bytes)
    → pushed l (item_tokens (item.DefineComponent scopes n parent))
    ≡ with_token (spelled (spelled (with_all with_scope l scopes)
    (keyword_tokens (codes "defineComponent") n)) (keyword_tokens (codes "in") parent)) false
    (codes "{")
unfolding item_tokens
define_component_line l scopes n parent = simp (pushed-append, spelled-append, scopes_line) refl

pub entry_point_line : (l : Output) (install n : Bytes)
    → pushed l (item_tokens (item.EntryPoint install n))
    ≡ with_token (spelled (spelled l (install_tokens (codes "InstallIn") install))
    (keyword_tokens (codes "entryPoint") n)) false (codes "{")
unfolding item_tokens
entry_point_line l install n = simp (pushed-append, spelled-append) refl

pub provides_line : (l : Output) (m : Option Mark) (s : Option Bytes) (n : Bytes) (ps : List Param)
    (t : TypeUse) (e : Expr)
    → pushed l (item_tokens (item.Provides m s n ps t e))
    ≡ with_expression (with_token (with_head l m s (codes "provides") n ps t) false (codes "=")) e
unfolding item_tokens
provides_line l m s n ps t e = simp (pushed-append, spelled-append) refl

pub binds_line : (l : Output) (m : Option Mark) (s : Option Bytes) (n : Bytes) (p : Param)
    (t : TypeUse)
    → pushed l (item_tokens (item.Binds m s n p t))
    ≡ with_head l m s (codes "binds") n (p ∷ []) t
unfolding item_tokens
binds_line l m s n p t = simp (pushed-append, spelled-append) refl

pub produces_line : (l : Output) (m : Option Mark) (n : Bytes) (ps : List Param) (t : TypeUse)
    (b : Tree)
    → pushed l (item_tokens (item.Produces m n ps t b))
    ≡ with_tree (with_token (with_head l m None (codes "produces") n ps t) false (codes "=")) b
unfolding item_tokens
produces_line l m n ps t b = simp (pushed-append, spelled-append) refl

pub open_line : (l : Output) (n c : Bytes) (parent : Option Bytes) (args : List OpenArg)
    → pushed l (item_tokens (item.OpenLine n c parent args))
    ≡ with_open_args (spelled (with_token (with_token (spelled l (keyword_tokens (codes "open") n))
    false (codes ":")) false c) (optional_tokens (codes "in") parent)) args
unfolding item_tokens
open_line l n c parent args = simp (pushed-append, spelled-append) refl

pub ask_line : (l : Output) (i e : Bytes) (steps : List AskStep)
    → pushed l (item_tokens (item.AskLine i e steps))
    ≡ with_all with_step (with_token (with_token (spelled l (keyword_tokens (codes "ask") i)) false
    (codes ".")) false e) steps
unfolding item_tokens
ask_line l i e steps = simp (pushed-append, spelled-append, steps_line) refl

pub link_line : (l : Output) (a b : Bytes)
    → pushed l (item_tokens (item.Link a b))
    ≡ spelled (spelled l (keyword_tokens (codes "link") a)) (keyword_tokens (codes "to") b)
unfolding item_tokens
link_line l a b = simp (pushed-append, spelled-append) refl

pub scope_line : (l : Output) (n : Bytes) → pushed l (item_tokens (item.ScopeLine n))
    ≡ spelled l (keyword_tokens (codes "scope") n)
unfolding item_tokens
scope_line l n = refl

pub interface_line : (l : Output) (n : Bytes) → pushed l (item_tokens (item.Interface n))
    ≡ spelled l (keyword_tokens (codes "interface") n)
unfolding item_tokens
interface_line l n = refl

pub depends_on_line : (l : Output) (n : Bytes) → pushed l (item_tokens (item.DependsOn n))
    ≡ spelled l (keyword_tokens (codes "dependsOn") n)
unfolding item_tokens
depends_on_line l n = refl

pub end_line : (l : Output) → pushed l (item_tokens item.End) ≡ with_token l false (codes "}")
unfolding item_tokens
end_line l = refl

pub optional_of_line : (l : Output) (n : Bytes) (t : TypeUse)
    → pushed l (item_tokens (item.OptionalOf n t)) ≡ with_typed l (codes "bindsOptionalOf") n t
unfolding item_tokens
optional_of_line l n t = simp pushed-append refl

pub multibinds_line : (l : Output) (n : Bytes) (t : TypeUse)
    → pushed l (item_tokens (item.Multibinds n t)) ≡ with_typed l (codes "multibinds") n t
unfolding item_tokens
multibinds_line l n t = simp pushed-append refl

pub binds_instance_line : (l : Output) (n : Bytes) (t : TypeUse)
    → pushed l (item_tokens (item.BindsInstance n t)) ≡ with_typed l (codes "bindsInstance") n t
unfolding item_tokens
binds_instance_line l n t = simp pushed-append refl

pub entry_line : (l : Output) (n : Bytes) (t : TypeUse) → pushed l (item_tokens (item.Entry n t))
    ≡ with_typed l (codes "entry") n t
unfolding item_tokens
entry_line l n t = simp pushed-append refl

pub ruleset item_lines = (
  scope_line,
  interface_line,
  depends_on_line,
  end_line,
  optional_of_line,
  multibinds_line,
  binds_instance_line,
  entry_line,
)

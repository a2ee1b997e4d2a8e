-- Each item is read back from its tokens.
use Rattle.std.proofs.Common.{◌≡◌, ◌≤◌, Bool, true, false, List, [], ◌∷◌, ◌++◌, length, map, Option, Some, None, refl, ◌∙◌, append_assoc, append-nil, arith}
use Rattle.std.specs.Prelude.{codes}
use Rattle.std.specs.List.{flat_map}
use Rattle.dg_types.specs.declared.key.MapKeyVal.TheVariants as map_key
use Rattle.dg_types.specs.declared.shape.TypeUse.{TypeUse}
use Rattle.dg_lex.specs.declared.token.TokenKind.TheVariants as kind
use Rattle.dg_lex.specs.Bytes.{Bytes, line_limit}
use Rattle.dg_lex.specs.Lexemes.{Lexeme}
use Rattle.dg_decl.specs.declared.expression.Expr.{Expr}
use Rattle.dg_decl.specs.declared.expression.Tree.{Tree}
use Rattle.dg_decl.specs.declared.item.Item.{Item}
use Rattle.dg_decl.specs.declared.item.Item.TheVariants as item
use Rattle.dg_decl.specs.declared.item.Mark.{Mark}
use Rattle.dg_decl.specs.declared.item.Mark.TheVariants as mark
use Rattle.dg_decl.specs.declared.item.Param.{Param}
use Rattle.dg_decl.specs.declared.item.OpenArg.{OpenArg}
use Rattle.dg_decl.specs.declared.item.AskStep.{AskStep}
use Rattle.dg_decl.specs.Readers.{then_reads, ◌>>=◌, ◌>>◌, pure, sign, comes, comes_kind, taken, eaten, spelled, at_end, optional, optional_names, enclosed, name, list_limit}
use Rattle.dg_decl.specs.TypeForms.{param, type_use}
use Rattle.dg_decl.specs.ExpressionForms.{nesting, tree_nesting, nesting_limit, body, tree_body}
use Rattle.dg_decl.specs.Forms.{qualifier_line, scope_line, interface_line, class_behind, class_line, module_line, test_module_line, component_line, define_component_line, entry_point_line, provides_line, binds_behind, binds_line, produces_line, use_line, optional_of_line, multibinds_line, binds_instance_line, entry_line, depends_on_line, end_line, open_line, link_line, ask_line, form_word, outside_line, line_with, item_line, mark_form}
use Rattle.dg_decl.specs.Written.{name_token, sign_token, separated, written, written_tree}
use Rattle.dg_decl.specs.Canonical.{keyword_tokens, clause_tokens, optional_tokens, install_tokens, optional_install, scope_tokens, inject_tokens, mark_tokens, step_tokens, open_args_tokens, open_brace, at_tokens}
use Rattle.dg_decl.proofs.TypesBack.{NoParts}
use Rattle.dg_decl.proofs.ExpressionsBack.{NoSign, Ends}
use Rattle.dg_decl.proofs.TreesBack.{body_back, tree_body_back}
use Rattle.dg_printer.proofs.BackWritten.{AllOf}
use Rattle.dg_printer.proofs.BackForms.{next, names_tokens, names_back, use_lexemes, FitUse, use_back, param_lexemes, param_back, params_lexemes, FitParams, params_back, FitMark, mark_back, scope_back, at_names_back, clause_back, optional_back, FitArg, args_back, FitStep, steps_back}
use Rattle.dg_printer.proofs.BackTokens.{result_lexemes, item_lexemes, FitNames, FitFront, FitInject, FitItem}

-- ---- what may stand behind

nothing_ends : Ends []
unfolding comes
nothing_ends = record { stops = record { call = refl; field = refl }; sum = refl }

nothing_parts : NoParts []
unfolding comes
nothing_parts = refl

equals_parts : (ls : List Lexeme) → NoParts (sign_token (codes "=") ∷ ls)
unfolding comes
equals_parts ls = refl

nothing_comma : NoSign (codes ",") []
unfolding comes
nothing_comma = refl

nothing_colon : NoSign (codes ":") []
unfolding comes
nothing_colon = refl

name_no_at : (w : Bytes) (ls : List Lexeme) → comes_kind kind.AtName (name_token w ∷ ls) ≡ false
unfolding comes_kind
name_no_at w ls = refl

-- ---- which form a line has

mark_word : (m : Option Mark) (ls : List Lexeme) → form_word false (mark_tokens m ++ ls)
    ≡ form_word false ls
mark_word None ls = refl
mark_word (Some mark.IntoSet) ls = refl
mark_word (Some mark.ElementsIntoSet) ls = refl
mark_word (Some (mark.IntoMap (map_key.Text k))) ls = refl
mark_word (Some (mark.IntoMap (map_key.Int i))) ls = refl

scope_word : (s : Option Bytes) (ls : List Lexeme) → form_word false (scope_tokens s ++ ls)
    ≡ form_word false ls
scope_word None ls = refl
scope_word (Some s) ls = refl

at_word : (ss : List Bytes) (ls : List Lexeme) → form_word false (at_tokens ss ++ ls)
    ≡ form_word false ls
at_word [] ls = refl
at_word (s ∷ ss) ls = at_word ss ls

as_line : (w : Bytes) (ls : List Lexeme) (o : Option (Item × List Lexeme)) → form_word false ls ≡ w
    → line_with w ls ≡ o → item_line ls ≡ o
unfolding item_line
as_line w ls o is line = rw is line

-- ---- lines of blocks

-- a mark and a scope before a name
front_mark : (m : Option Mark) (s : Option Bytes) (w : Bytes) (ls : List Lexeme) → FitFront m s
    → FitMark m (scope_tokens s ++ (name_token w ∷ ls))
unfolding comes
front_mark None None w ls f = refl
front_mark None (Some s) w ls f = f.mark
front_mark (Some mark.IntoSet) s w ls f = tt
front_mark (Some mark.ElementsIntoSet) s w ls f = tt
front_mark (Some (mark.IntoMap k)) s w ls f = f.mark

front_mark_back : (m : Option Mark) (s : Option Bytes) (w : Bytes) (ls : List Lexeme) → FitFront m s
    → mark_form (mark_tokens m ++ (scope_tokens s ++ (name_token w ∷ ls))) ≡ Some
    (m, scope_tokens s ++ (name_token w ∷ ls))
front_mark_back m s w ls f = mark_back m (scope_tokens s ++ (name_token w ∷ ls))
    (front_mark m s w ls f)

front_apart : (m : Option Mark) (s : Option Bytes) (w n : Bytes) (more : List Lexeme)
    → (mark_tokens m ++ (scope_tokens s ++ keyword_tokens w n)) ++ more ≡ mark_tokens m
    ++ (scope_tokens s ++ (name_token w ∷ (name_token n ∷ more)))
front_apart m s w n more = rw (
  append_assoc (mark_tokens m)
      (scope_tokens s ++ keyword_tokens w n) more,
  append_assoc (scope_tokens s)
      (keyword_tokens w n) more,
) refl

front_word : (m : Option Mark) (s : Option Bytes) (w : Bytes) (ls : List Lexeme) → form_word false
    (mark_tokens m ++ (scope_tokens s ++ (name_token w ∷ ls))) ≡ w
front_word m s w ls = mark_word m (scope_tokens s ++ (name_token w ∷ ls)) ∙ scope_word s
    (name_token w ∷ ls)

body_read : (e : Expr) → (written e).fits ≡ true → nesting e ≤ nesting_limit → body
    (written e).tokens ≡ Some (e, [])
body_read e fits nests = rw (append-nil (written e).tokens) at
    (body_back e fits nests [] nothing_ends)

provides_of : (m : Option Mark) (s : Option Bytes) (n : Bytes) (ps : List Param) (t : TypeUse)
    (e : Expr) → FitItem (item.Provides m s n ps t e) → provides_line
    (mark_tokens m ++ (scope_tokens s ++ (name_token (codes "provides")
    ∷ (name_token n ∷ (params_lexemes ps ++ (result_lexemes t
    ++ (sign_token (codes "=") ∷ (written e).tokens))))))) ≡ Some (item.Provides m s n ps t e, [])
unfolding provides_line taken comes spelled at_end
provides_of m s n ps t e f =
    let later : List Lexeme = sign_token (codes "=") ∷ (written e).tokens in
    let behind : List Lexeme = name_token n ∷ (params_lexemes ps ++ (result_lexemes t ++ later)) in
    next _ (front_mark_back m s (codes "provides") behind f.0)
    (next _ (scope_back s (name_token (codes "provides") ∷ behind)
    (name_no_at (codes "provides") behind))
    (next _ (params_back ps f.1.params (result_lexemes t ++ later))
    (next _ (use_back t f.1.result later (equals_parts (written e).tokens))
    (next _ (body_read e f.2 f.3) refl))))

provides_with : (ls : List Lexeme) → line_with (codes "provides") ls ≡ provides_line ls
unfolding line_with
provides_with ls = refl

provides_read : (m : Option Mark) (s : Option Bytes) (n : Bytes) (ps : List Param) (t : TypeUse)
    (e : Expr) → FitItem (item.Provides m s n ps t e) → item_line
    (item_lexemes (item.Provides m s n ps t e)) ≡ Some (item.Provides m s n ps t e, [])
unfolding item_lexemes
provides_read m s n ps t e f =
    let more : List Lexeme = params_lexemes ps ++ (result_lexemes t
    ++ (sign_token (codes "=") ∷ (written e).tokens)) in
    rw (front_apart m s (codes "provides") n more)
    (as_line (codes "provides") _ _ (front_word m s (codes "provides") (name_token n ∷ more))
    (provides_with _ ∙ provides_of m s n ps t e f))

result_read : (t : TypeUse) → FitUse t → type_use (use_lexemes t) ≡ Some (t, [])
result_read t f = rw (append-nil (use_lexemes t)) at (use_back t f [] nothing_parts)

one_param : (p : Param) → FitParams (p ∷ []) → (rest : List Lexeme) → enclosed param
    (params_lexemes (p ∷ []) ++ rest) ≡ Some (p, rest)
unfolding enclosed taken comes
one_param p f rest =
    rw (
      append_assoc (separated (sign_token (codes ",")) (map param_lexemes (p ∷ [])))
          (sign_token (codes ")") ∷ []) rest,
      append_assoc (param_lexemes p) []
          (sign_token (codes ")") ∷ rest),
    )
    (next _ (param_back p f.all.0 (sign_token (codes ")") ∷ rest) refl) refl)

binds_rest : (m : Option Mark) (s : Option Bytes) (n : Bytes) (p : Param) (t : TypeUse) → FitItem
    (item.Binds m s n p t) → binds_behind m (scope_tokens s
    ++ (name_token (codes "binds") ∷ (name_token n
    ∷ (params_lexemes (p ∷ []) ++ result_lexemes t)))) ≡ Some (item.Binds m s n p t, [])
unfolding binds_behind taken comes spelled at_end
binds_rest m s n p t f =
    let behind : List Lexeme = name_token n ∷ (params_lexemes (p ∷ []) ++ result_lexemes t) in
    next _ (scope_back s (name_token (codes "binds") ∷ behind) (name_no_at (codes "binds") behind))
    (next _ (one_param p f.1.params (result_lexemes t)) (next _ (result_read t f.1.result) refl))

binds_of : (m : Option Mark) (s : Option Bytes) (n : Bytes) (p : Param) (t : TypeUse) → FitItem
    (item.Binds m s n p t) → binds_line (mark_tokens m
    ++ (scope_tokens s ++ (name_token (codes "binds")
    ∷ (name_token n ∷ (params_lexemes (p ∷ []) ++ result_lexemes t))))) ≡ Some
    (item.Binds m s n p t, [])
unfolding binds_line
binds_of m s n p t f =
    let behind : List Lexeme = name_token n ∷ (params_lexemes (p ∷ []) ++ result_lexemes t) in
    next _ (front_mark_back m s (codes "binds") behind f.0) (rw f.2 (binds_rest m s n p t f))

binds_with : (ls : List Lexeme) → line_with (codes "binds") ls ≡ binds_line ls
unfolding line_with
binds_with ls = refl

binds_read : (m : Option Mark) (s : Option Bytes) (n : Bytes) (p : Param) (t : TypeUse) → FitItem
    (item.Binds m s n p t) → item_line (item_lexemes (item.Binds m s n p t)) ≡ Some
    (item.Binds m s n p t, [])
unfolding item_lexemes
binds_read m s n p t f =
    let more : List Lexeme = params_lexemes (p ∷ []) ++ result_lexemes t in
    rw (front_apart m s (codes "binds") n more)
    (as_line (codes "binds") _ _ (front_word m s (codes "binds") (name_token n ∷ more))
    (binds_with _ ∙ binds_of m s n p t f))

tree_read : (b : Tree) → (written_tree b).fits ≡ true → tree_nesting b ≤ nesting_limit → tree_body
    (written_tree b).tokens ≡ Some (b, [])
tree_read b fits nests = rw (append-nil (written_tree b).tokens) at
    (tree_body_back b fits nests [] nothing_ends)

produces_of : (m : Option Mark) (n : Bytes) (ps : List Param) (t : TypeUse) (b : Tree) → FitItem
    (item.Produces m n ps t b) → produces_line (mark_tokens m
    ++ (name_token (codes "produces") ∷ (name_token n
    ∷ (params_lexemes ps ++ (result_lexemes t ++ (sign_token (codes "=")
    ∷ (written_tree b).tokens)))))) ≡ Some (item.Produces m n ps t b, [])
unfolding produces_line taken comes spelled at_end
produces_of m n ps t b f =
    let later : List Lexeme = sign_token (codes "=") ∷ (written_tree b).tokens in
    let behind : List Lexeme = name_token n ∷ (params_lexemes ps ++ (result_lexemes t ++ later)) in
    next _ (front_mark_back m None (codes "produces") behind f.0)
    (next _ (params_back ps f.1.params (result_lexemes t ++ later))
    (next _ (use_back t f.1.result later (equals_parts (written_tree b).tokens))
    (next _ (tree_read b f.2 f.3) refl)))

produces_with : (ls : List Lexeme) → line_with (codes "produces") ls ≡ produces_line ls
unfolding line_with
produces_with ls = refl

produces_read : (m : Option Mark) (n : Bytes) (ps : List Param) (t : TypeUse) (b : Tree) → FitItem
    (item.Produces m n ps t b) → item_line (item_lexemes (item.Produces m n ps t b)) ≡ Some
    (item.Produces m n ps t b, [])
unfolding item_lexemes
produces_read m n ps t b f =
    let more : List Lexeme = params_lexemes ps ++ (result_lexemes t
    ++ (sign_token (codes "=") ∷ (written_tree b).tokens)) in
    rw (append_assoc (mark_tokens m) (keyword_tokens (codes "produces") n) more)
    (as_line (codes "produces") _ _ (front_word m None (codes "produces") (name_token n ∷ more))
    (produces_with _ ∙ produces_of m n ps t b f))

-- a keyword and N : USE
use_line_rest : (n : Bytes) (t : TypeUse) (make : Bytes → TypeUse → Item) → FitUse t → then_reads
    (type_use (use_lexemes t)) (λ u. at_end >> pure (make n u)) ≡ Some (make n t, [])
unfolding at_end
use_line_rest n t make f = next _ (result_read t f) refl

colon_of : (n : Bytes) (t : TypeUse) (make : Bytes → TypeUse → Item) → FitUse t
    → (sign (codes ":") >> (type_use >>= λ u. at_end >> pure (make n u))) (result_lexemes t) ≡ Some
    (make n t, [])
unfolding taken comes
colon_of n t make f = use_line_rest n t make f

use_line_of : (w n : Bytes) (t : TypeUse) (make : Bytes → TypeUse → Item) → comes kind.Name w
    (name_token w ∷ (name_token n ∷ result_lexemes t)) ≡ true → FitUse t → use_line w make
    (keyword_tokens w n ++ result_lexemes t) ≡ Some (make n t, [])
unfolding use_line taken spelled
use_line_of w n t make first f = rw first (colon_of n t make f)

optional_of_read : (n : Bytes) (t : TypeUse) → FitUse t → item_line
    (item_lexemes (item.OptionalOf n t)) ≡ Some (item.OptionalOf n t, [])
unfolding item_lexemes item_line line_with optional_of_line comes
optional_of_read n t f = use_line_of (codes "bindsOptionalOf") n t
    (λ n t. item.OptionalOf n t) refl f

multibinds_read : (n : Bytes) (t : TypeUse) → FitUse t → item_line
    (item_lexemes (item.Multibinds n t)) ≡ Some (item.Multibinds n t, [])
unfolding item_lexemes item_line line_with multibinds_line comes
multibinds_read n t f = use_line_of (codes "multibinds") n t (λ n t. item.Multibinds n t) refl f

binds_instance_read : (n : Bytes) (t : TypeUse) → FitUse t → item_line
    (item_lexemes (item.BindsInstance n t)) ≡ Some (item.BindsInstance n t, [])
unfolding item_lexemes item_line line_with binds_instance_line comes
binds_instance_read n t f = use_line_of (codes "bindsInstance") n t
    (λ n t. item.BindsInstance n t) refl f

entry_read : (n : Bytes) (t : TypeUse) → FitUse t → item_line (item_lexemes (item.Entry n t)) ≡ Some
    (item.Entry n t, [])
unfolding item_lexemes item_line line_with entry_line comes
entry_read n t f = use_line_of (codes "entry") n t (λ n t. item.Entry n t) refl f

depends_on_read : (n : Bytes) → item_line (item_lexemes (item.DependsOn n)) ≡ Some
    (item.DependsOn n, [])
unfolding item_lexemes item_line line_with depends_on_line taken comes spelled at_end
depends_on_read n = refl

end_read : item_line (item_lexemes item.End) ≡ Some (item.End, [])
unfolding item_lexemes item_line line_with outside_line end_line taken comes spelled at_end
end_read = refl

-- ---- lines outside blocks

qualifier_read : (n : Bytes) (m : Bool) → item_line (item_lexemes (item.QualifierLine n m)) ≡ Some
    (item.QualifierLine n m, [])
unfolding item_lexemes item_line line_with outside_line qualifier_line taken eaten comes spelled
    at_end
qualifier_read n true = refl
qualifier_read n false = refl

scope_read : (n : Bytes) → item_line (item_lexemes (item.ScopeLine n)) ≡ Some (item.ScopeLine n, [])
unfolding item_lexemes item_line line_with outside_line scope_line taken comes spelled at_end
scope_read n = refl

interface_read : (n : Bytes) → item_line (item_lexemes (item.Interface n)) ≡ Some
    (item.Interface n, [])
unfolding item_lexemes item_line line_with outside_line interface_line taken comes spelled at_end
interface_read n = refl

link_read : (a b : Bytes) → item_line (item_lexemes (item.Link a b)) ≡ Some (item.Link a b, [])
unfolding item_lexemes item_line line_with outside_line link_line taken comes spelled at_end
link_read a b = refl

interfaces_back : (ns : List Bytes) → FitNames ns → optional_names kind.Sign (codes ":")
    (clause_tokens (sign_token (codes ":")) ns) ≡ Some (ns, [])
unfolding comes
interfaces_back ns f = rw (append-nil (clause_tokens (sign_token (codes ":")) ns)) at
    (clause_back kind.Sign (codes ":") (sign_token (codes ":")) ns []
    (λ ls. refl) nothing_colon nothing_comma f.short)

class_behind_back : (inject : Bool) (s : Option Bytes) (n : Bytes) (ps : List Param)
    (ns : List Bytes) → FitParams ps → FitNames ns → class_behind inject s
    (name_token (codes "class") ∷ (name_token n ∷ (params_lexemes ps ++ clause_tokens
    (sign_token (codes ":")) ns))) ≡ Some (item.Class inject s n ps ns, [])
unfolding class_behind taken comes spelled at_end
class_behind_back inject s n ps ns f g = next _
    (params_back ps f (clause_tokens (sign_token (codes ":")) ns))
    (next _ (interfaces_back ns g) refl)

class_of : (inject : Bool) (s : Option Bytes) (n : Bytes) (ps : List Param) (ns : List Bytes)
    → FitInject inject s → FitParams ps → FitNames ns → class_line
    (inject_tokens inject ++ (scope_tokens s ++ (name_token (codes "class")
    ∷ (name_token n ∷ (params_lexemes ps ++ clause_tokens (sign_token (codes ":")) ns))))) ≡ Some
    (item.Class inject s n ps ns, [])
unfolding class_line eaten comes
class_of true s n ps ns h f g =
    let behind : List Lexeme = name_token n ∷ (params_lexemes ps ++ clause_tokens
    (sign_token (codes ":")) ns) in
    next _ (scope_back s (name_token (codes "class") ∷ behind) (name_no_at (codes "class") behind))
    (class_behind_back true s n ps ns f g)
class_of false None n ps ns h f g = class_behind_back false None n ps ns f g
class_of false (Some s) n ps ns h f g = absurd h

inject_word : (inject : Bool) (ls : List Lexeme) → form_word false (inject_tokens inject ++ ls)
    ≡ form_word false ls
inject_word true ls = refl
inject_word false ls = refl

class_with : (ls : List Lexeme) → line_with (codes "class") ls ≡ class_line ls
unfolding line_with outside_line
class_with ls = refl

class_read : (inject : Bool) (s : Option Bytes) (n : Bytes) (ps : List Param) (ns : List Bytes)
    → FitInject inject s → FitParams ps → FitNames ns → item_line
    (item_lexemes (item.Class inject s n ps ns)) ≡ Some (item.Class inject s n ps ns, [])
unfolding item_lexemes
class_read inject s n ps ns h f g =
    let more : List Lexeme = params_lexemes ps ++ clause_tokens (sign_token (codes ":")) ns in
    let behind : List Lexeme = name_token (codes "class") ∷ (name_token n ∷ more) in
    rw (
      append_assoc (inject_tokens inject) (scope_tokens s ++ keyword_tokens (codes "class") n)
          more,
      append_assoc (scope_tokens s) (keyword_tokens (codes "class") n) more,
    )
    (as_line (codes "class") _ _ (inject_word inject (scope_tokens s ++ behind)
    ∙ scope_word s behind) (class_with _ ∙ class_of inject s n ps ns h f g))

-- ---- headers

install_back : (p : Option Bytes) (n : Bytes) (ls : List Lexeme) → optional kind.AtName
    (codes "@InstallIn") (enclosed name) (optional_install p ++ (name_token n ∷ ls)) ≡ Some
    (p, name_token n ∷ ls)
unfolding optional enclosed taken eaten comes spelled
install_back None n ls = refl
install_back (Some p) n ls = refl

includes_back : (ns : List Bytes) → FitNames ns → optional_names kind.Name (codes "includes")
    (clause_tokens (name_token (codes "includes")) ns ++ open_brace) ≡ Some (ns, open_brace)
unfolding comes
includes_back ns f = clause_back kind.Name (codes "includes")
    (name_token (codes "includes")) ns open_brace (λ ls. refl) refl refl f.short

modules_back : (ns : List Bytes) → FitNames ns → optional_names kind.Name (codes "modules")
    (clause_tokens (name_token (codes "modules")) ns ++ open_brace) ≡ Some (ns, open_brace)
unfolding comes
modules_back ns f = clause_back kind.Name (codes "modules")
    (name_token (codes "modules")) ns open_brace (λ ls. refl) refl refl f.short

module_of : (install : Option Bytes) (n : Bytes) (ns : List Bytes) → FitNames ns → module_line
    (optional_install install ++ (name_token (codes "module")
    ∷ (name_token n ∷ (clause_tokens (name_token (codes "includes")) ns ++ open_brace)))) ≡ Some
    (item.Module install n ns, [])
unfolding module_line taken comes spelled at_end
module_of install n ns f = next _ (install_back install (codes "module")
    (name_token n ∷ (clause_tokens (name_token (codes "includes")) ns ++ open_brace)))
    (next _ (includes_back ns f) refl)

module_read : (install : Option Bytes) (n : Bytes) (ns : List Bytes) → FitNames ns → item_line
    (item_lexemes (item.Module install n ns)) ≡ Some (item.Module install n ns, [])
unfolding item_lexemes item_line line_with outside_line comes
module_read None n ns f = module_of None n ns f
module_read (Some install) n ns f = module_of (Some install) n ns f

replaces_comma : (ns : List Bytes) → NoSign (codes ",")
    (clause_tokens (name_token (codes "includes")) ns ++ open_brace)
unfolding comes
replaces_comma [] = refl
replaces_comma (n ∷ ns) = refl

test_module_of : (install n r : Bytes) (rs ns : List Bytes) → length (r ∷ rs) ≤ line_limit
    → FitNames ns → test_module_line (install_tokens (codes "TestInstallIn") install
    ++ (name_token (codes "module") ∷ (name_token n
    ∷ (name_token (codes "replaces") ∷ (separated (sign_token (codes ",")) (names_tokens (r ∷ rs))
    ++ (clause_tokens (name_token (codes "includes")) ns ++ open_brace)))))) ≡ Some
    (item.TestModule install n (r ∷ rs) ns, [])
unfolding test_module_line enclosed taken comes spelled at_end
test_module_of install n r rs ns short f =
    next _ (names_back r rs (clause_tokens (name_token (codes "includes")) ns ++ open_brace) short
    (replaces_comma ns)) (next _ (includes_back ns f) refl)

test_module_read : (install n : Bytes) (rs ns : List Bytes) → 1 ≤ length rs → FitNames rs
    → FitNames ns → item_line (item_lexemes (item.TestModule install n rs ns)) ≡ Some
    (item.TestModule install n rs ns, [])
unfolding item_lexemes item_line line_with outside_line comes
test_module_read install n [] ns some f g = absurd (omega (arith, some))
test_module_read install n (r ∷ rs) ns some f g = test_module_of install n r rs ns f.short g

in_no_modules : (ns : List Bytes) → comes kind.Name (codes "in")
    (clause_tokens (name_token (codes "modules")) ns ++ open_brace) ≡ false
unfolding comes
in_no_modules [] = refl
in_no_modules (n ∷ ns) = refl

component_of : (ss : List Bytes) (n : Bytes) (parent : Option Bytes) (ns : List Bytes) → FitNames ns
    → component_line (at_tokens ss ++ (name_token (codes "component")
    ∷ (name_token n ∷ (optional_tokens (codes "in") parent
    ++ (clause_tokens (name_token (codes "modules")) ns ++ open_brace))))) ≡ Some
    (item.Component ss n parent ns, [])
unfolding component_line taken comes spelled at_end
component_of ss n parent ns f =
    let later : List Lexeme = clause_tokens (name_token (codes "modules")) ns ++ open_brace in
    next _ (at_names_back ss (codes "component")
    (name_token n ∷ (optional_tokens (codes "in") parent ++ later)))
    (next _ (optional_back parent later (in_no_modules ns)) (next _ (modules_back ns f) refl))

component_with : (ls : List Lexeme) → line_with (codes "component") ls ≡ component_line ls
unfolding line_with outside_line
component_with ls = refl

component_read : (ss : List Bytes) (n : Bytes) (parent : Option Bytes) (ns : List Bytes)
    → FitNames ns → item_line (item_lexemes (item.Component ss n parent ns)) ≡ Some
    (item.Component ss n parent ns, [])
unfolding item_lexemes
component_read ss n parent ns f =
    as_line (codes "component") _ _ (at_word ss (keyword_tokens (codes "component") n
    ++ (optional_tokens (codes "in") parent ++ (clause_tokens (name_token (codes "modules")) ns
    ++ open_brace)))) (component_with _ ∙ component_of ss n parent ns f)

define_component_of : (ss : List Bytes) (n parent : Bytes) → define_component_line
    (at_tokens ss ++ (name_token (codes "defineComponent")
    ∷ (name_token n ∷ (name_token (codes "in") ∷ (name_token parent ∷ open_brace))))) ≡ Some
    (item.DefineComponent ss n parent, [])
unfolding define_component_line taken comes spelled at_end
define_component_of ss n parent = next _ (at_names_back ss (codes "defineComponent")
    (name_token n ∷ (name_token (codes "in") ∷ (name_token parent ∷ open_brace)))) refl

define_component_with : (ls : List Lexeme) → line_with (codes "defineComponent") ls
    ≡ define_component_line ls
unfolding line_with outside_line
define_component_with ls = refl

define_component_read : (ss : List Bytes) (n parent : Bytes) → item_line
    (item_lexemes (item.DefineComponent ss n parent)) ≡ Some (item.DefineComponent ss n parent, [])
unfolding item_lexemes
define_component_read ss n parent =
    as_line (codes "defineComponent") _ _ (at_word ss
    (keyword_tokens (codes "defineComponent") n
    ++ (keyword_tokens (codes "in") parent ++ open_brace)))
    (define_component_with _ ∙ define_component_of ss n parent)

entry_point_read : (install n : Bytes) → item_line (item_lexemes (item.EntryPoint install n)) ≡ Some
    (item.EntryPoint install n, [])
unfolding item_lexemes item_line line_with outside_line entry_point_line enclosed taken comes
    spelled at_end
entry_point_read install n = refl

-- ---- lines of the session

in_no_args : (xs : List OpenArg) → comes kind.Name (codes "in") (open_args_tokens xs) ≡ false
unfolding comes
in_no_args [] = refl
in_no_args (a ∷ xs) = refl

open_of : (n c : Bytes) (parent : Option Bytes) (xs : List OpenArg) → AllOf FitArg xs
    → length xs ≤ list_limit → open_line (name_token (codes "open")
    ∷ (name_token n ∷ (sign_token (codes ":") ∷ (name_token c
    ∷ (optional_tokens (codes "in") parent ++ open_args_tokens xs))))) ≡ Some
    (item.OpenLine n c parent xs, [])
unfolding open_line taken comes spelled at_end
open_of n c parent xs all short = next _ (optional_back parent (open_args_tokens xs)
    (in_no_args xs)) (next _ (args_back xs all short) refl)

open_read : (n c : Bytes) (parent : Option Bytes) (xs : List OpenArg) → AllOf FitArg xs
    → length xs ≤ list_limit → item_line (item_lexemes (item.OpenLine n c parent xs)) ≡ Some
    (item.OpenLine n c parent xs, [])
unfolding item_lexemes item_line line_with outside_line
open_read n c parent xs all short = open_of n c parent xs all short

ask_of : (i e : Bytes) (ss : List AskStep) → AllOf FitStep ss → length ss ≤ list_limit → ask_line
    (name_token (codes "ask") ∷ (name_token i ∷ (sign_token (codes ".")
    ∷ (name_token e ∷ flat_map step_tokens ss)))) ≡ Some (item.AskLine i e ss, [])
unfolding ask_line taken comes spelled at_end
ask_of i e ss all short = next _ (steps_back list_limit ss all short) refl

ask_read : (i e : Bytes) (ss : List AskStep) → AllOf FitStep ss → length ss ≤ list_limit → item_line
    (item_lexemes (item.AskLine i e ss)) ≡ Some (item.AskLine i e ss, [])
unfolding item_lexemes item_line line_with outside_line
ask_read i e ss all short = ask_of i e ss all short

-- ---- all of them

pub item_back : (x : Item) → FitItem x → item_line (item_lexemes x) ≡ Some (x, [])
item_back (item.QualifierLine n m) f = qualifier_read n m
item_back (item.ScopeLine n) f = scope_read n
item_back (item.Interface n) f = interface_read n
item_back (item.Class inject s n ps interfaces) f = class_read inject s n ps interfaces f.0 f.2 f.3
item_back (item.Module install n includes) f = module_read install n includes f.2
item_back (item.TestModule install n replaces includes) f = test_module_read install n replaces
    includes f.2 f.3 f.4
item_back (item.Component scopes n parent modules) f = component_read scopes n parent modules f.3
item_back (item.DefineComponent scopes n parent) f = define_component_read scopes n parent
item_back (item.EntryPoint install n) f = entry_point_read install n
item_back (item.Provides m s n ps t e) f = provides_read m s n ps t e f
item_back (item.Binds m s n p t) f = binds_read m s n p t f
item_back (item.Produces m n ps t b) f = produces_read m n ps t b f
item_back (item.OptionalOf n t) f = optional_of_read n t f.1
item_back (item.Multibinds n t) f = multibinds_read n t f.1
item_back (item.BindsInstance n t) f = binds_instance_read n t f.1
item_back (item.DependsOn n) f = depends_on_read n
item_back (item.Entry n t) f = entry_read n t f.1
item_back item.End f = end_read
item_back (item.OpenLine n c parent args) f = open_read n c parent args f.4 f.3
item_back (item.Link a b) f = link_read a b
item_back (item.AskLine i e steps) f = ask_read i e steps f.3 f.2

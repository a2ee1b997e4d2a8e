-- The tokens of items: what they are without their spaces, that each is spelled as its kind says,
-- and that those that stand close may do so.
use Rattle.std.proofs.Common.{◌≡◌, ◌≤◌, Bool, true, false, List, [], ◌∷◌, ◌++◌, length, map, Option, Some, None, refl, ap, append-nil}
use Rattle.std.specs.Prelude.{codes}
use Rattle.std.specs.List.{flat_map}
use Rattle.std.proofs.lemmas.List.{map-append}
use Rattle.dg_types.specs.declared.key.MapKeyVal.{MapKeyVal}
use Rattle.dg_types.specs.declared.key.MapKeyVal.TheVariants as map_key
use Rattle.dg_types.specs.declared.shape.Qualifier.{Qualifier}
use Rattle.dg_types.specs.declared.shape.TypeUse.{TypeUse}
use Rattle.dg_lex.specs.Bytes.{Bytes, line_limit}
use Rattle.dg_lex.specs.Tokens.{is_name, is_at_name, is_integer, is_counting, is_text, is_sign, kind_of}
use Rattle.dg_lex.specs.Lexemes.{Lexeme}
use Rattle.dg_decl.specs.declared.item.Item.{Item}
use Rattle.dg_decl.specs.declared.item.Item.TheVariants as item
use Rattle.dg_decl.specs.declared.item.Mark.{Mark}
use Rattle.dg_decl.specs.declared.item.Mark.TheVariants as mark
use Rattle.dg_decl.specs.declared.item.Param.{Param}
use Rattle.dg_decl.specs.declared.item.OpenArg.{OpenArg}
use Rattle.dg_decl.specs.declared.item.AskStep.{AskStep}
use Rattle.dg_decl.specs.declared.item.AskStep.TheVariants as step
use Rattle.dg_decl.specs.Readers.{list_limit}
use Rattle.dg_decl.specs.ExpressionForms.{nesting, tree_nesting, nesting_limit}
use Rattle.dg_decl.specs.Forms.{is_elements}
use Rattle.dg_decl.specs.Written.{name_token, sign_token, text_token, separated, more_separated, in_parens, written_type, written, written_tree}
use Rattle.dg_decl.specs.Canonical.{Printed, apart, close, all_apart, type_tokens, member_tokens, qualifier_tokens, use_tokens, param_tokens, params_tokens, result_tokens, keyword_tokens, clause_tokens, optional_tokens, install_tokens, optional_install, scope_tokens, inject_tokens, map_key_token, map_key_name, mark_tokens, open_arg_tokens, open_args_tokens, step_tokens, open_brace, at_tokens, item_tokens}
use Rattle.dg_decl.proofs.SpaceLemmas.{AllTokens, IsCloseFrom, IsClose}
use Rattle.dg_printer.proofs.BackKinds.{AllKinds, kinds_append, name_kind, at_kind, text_kind, integer_kind}
use Rattle.dg_printer.proofs.BackWritten.{AllOf, Sticks, apart_touch, type_facts, separated_kinds, parens_kinds, expression_kinds, tree_kinds}
use Rattle.dg_printer.proofs.BackForms as forms
use Rattle.dg_printer.proofs.BackForms.{names_tokens, use_lexemes, FitQualifier, FitUse, param_lexemes, FitParam, params_lexemes, FitParams, FitKey, FitMark, constant_fits, FitArg, FitStep}

abbrev comma : Lexeme
comma = sign_token (codes ",")

-- ---- the tokens of an item without their spaces

abbrev pub result_lexemes : TypeUse → List Lexeme
result_lexemes u = sign_token (codes ":") ∷ use_lexemes u

unfoldable pub item_lexemes : Item → List Lexeme
item_lexemes (item.QualifierLine n true) = keyword_tokens (codes "qualifier") n ++ in_parens
    (name_token (codes "Text") ∷ [])
item_lexemes (item.QualifierLine n false) = keyword_tokens (codes "qualifier") n
item_lexemes (item.ScopeLine n) = keyword_tokens (codes "scope") n
item_lexemes (item.Interface n) = keyword_tokens (codes "interface") n
item_lexemes (item.Class inject s n ps interfaces) =
    (inject_tokens inject ++ (scope_tokens s ++ keyword_tokens (codes "class") n))
    ++ (params_lexemes ps ++ clause_tokens (sign_token (codes ":")) interfaces)
item_lexemes (item.Module install n includes) = optional_install install
    ++ (keyword_tokens (codes "module") n ++ (clause_tokens (name_token (codes "includes")) includes
    ++ open_brace))
item_lexemes (item.TestModule install n replaces includes) = install_tokens
    (codes "TestInstallIn") install ++ (keyword_tokens (codes "module") n
    ++ (clause_tokens (name_token (codes "replaces")) replaces
    ++ (clause_tokens (name_token (codes "includes")) includes ++ open_brace)))
item_lexemes (item.Component scopes n parent modules) = at_tokens scopes
    ++ (keyword_tokens (codes "component") n ++ (optional_tokens (codes "in") parent
    ++ (clause_tokens (name_token (codes "modules")) modules ++ open_brace)))
item_lexemes (item.DefineComponent scopes n parent) = at_tokens scopes
    ++ (keyword_tokens (codes "defineComponent") n
    ++ (keyword_tokens (codes "in") parent ++ open_brace))
item_lexemes (item.EntryPoint install n) = install_tokens (codes "InstallIn") install
    ++ (keyword_tokens (codes "entryPoint") n ++ open_brace)
item_lexemes (item.Provides m s n ps t e) = (mark_tokens m
    ++ (scope_tokens s ++ keyword_tokens (codes "provides") n))
    ++ (params_lexemes ps ++ (result_lexemes t ++ (sign_token (codes "=") ∷ (written e).tokens)))
item_lexemes (item.Binds m s n p t) = (mark_tokens m
    ++ (scope_tokens s ++ keyword_tokens (codes "binds") n))
    ++ (params_lexemes (p ∷ []) ++ result_lexemes t)
item_lexemes (item.Produces m n ps t b) = (mark_tokens m ++ keyword_tokens (codes "produces") n)
    ++ (params_lexemes ps ++ (result_lexemes t ++ (sign_token (codes "=")
    ∷ (written_tree b).tokens)))
item_lexemes (item.OptionalOf n t) = keyword_tokens (codes "bindsOptionalOf") n ++ result_lexemes t
item_lexemes (item.Multibinds n t) = keyword_tokens (codes "multibinds") n ++ result_lexemes t
item_lexemes (item.BindsInstance n t) = keyword_tokens (codes "bindsInstance") n ++ result_lexemes t
item_lexemes (item.DependsOn n) = keyword_tokens (codes "dependsOn") n
item_lexemes (item.Entry n t) = keyword_tokens (codes "entry") n ++ result_lexemes t
item_lexemes item.End = sign_token (codes "}") ∷ []
item_lexemes (item.OpenLine n c parent args) = keyword_tokens (codes "open") n
    ++ (sign_token (codes ":") ∷ (name_token c ∷ (optional_tokens (codes "in") parent
    ++ open_args_tokens args)))
item_lexemes (item.Link a b) = keyword_tokens (codes "link") a ++ keyword_tokens (codes "to") b
item_lexemes (item.AskLine i e steps) = keyword_tokens (codes "ask") i
    ++ (sign_token (codes ".") ∷ (name_token e ∷ flat_map step_tokens steps))

abbrev pub bare : List Printed → List Lexeme
bare ps = map (λ p. p.token) ps

apart_bare : (ls : List Lexeme) → bare (all_apart ls) ≡ ls
apart_bare [] = refl
apart_bare (l ∷ ls) = ap (λ (ms : List Lexeme). l ∷ ms) (apart_bare ls)

close_bare : (ls : List Lexeme) → bare (map close ls) ≡ ls
close_bare [] = refl
close_bare (l ∷ ls) = ap (λ (ms : List Lexeme). l ∷ ms) (close_bare ls)

type_bare : (ls : List Lexeme) → bare (type_tokens ls) ≡ ls
type_bare [] = refl
type_bare (l ∷ ls) = ap (λ (ms : List Lexeme). l ∷ ms) (close_bare ls)

both_bare : (xs ys : List Printed) (ls ms : List Lexeme) → bare xs ≡ ls → bare ys ≡ ms → bare
    (xs ++ ys) ≡ ls ++ ms
both_bare xs ys ls ms e f = rw (map-append (λ (p : Printed). p.token) xs ys, e, f) refl

use_bare : (u : TypeUse) → bare (use_tokens u) ≡ use_lexemes u
use_bare u = both_bare (all_apart (qualifier_tokens u.qualifier))
    (type_tokens (written_type u.shape).tokens) (qualifier_tokens u.qualifier)
    (written_type u.shape).tokens (apart_bare (qualifier_tokens u.qualifier))
    (type_bare (written_type u.shape).tokens)

param_bare : (p : Param) → bare (param_tokens p) ≡ param_lexemes p
param_bare p = ap (λ (ms : List Lexeme). name_token p.name ∷ (sign_token (codes ":") ∷ ms))
    (use_bare p.shape)

more_bare : (ps : List Param) → bare (more_separated (apart comma) (map param_tokens ps))
    ≡ more_separated comma (map param_lexemes ps)
more_bare [] = refl
more_bare (p ∷ ps) = ap (λ (ms : List Lexeme). comma ∷ ms)
    (both_bare (param_tokens p) (more_separated (apart comma) (map param_tokens ps))
    (param_lexemes p) (more_separated comma (map param_lexemes ps)) (param_bare p) (more_bare ps))

list_bare : (ps : List Param) → bare (separated (apart comma) (map param_tokens ps))
    ≡ separated comma (map param_lexemes ps)
list_bare [] = refl
list_bare (p ∷ ps) = both_bare (param_tokens p) (more_separated (apart comma) (map param_tokens ps))
    (param_lexemes p) (more_separated comma (map param_lexemes ps)) (param_bare p) (more_bare ps)

params_bare : (ps : List Param) → bare (params_tokens ps) ≡ params_lexemes ps
params_bare ps = ap (λ (ms : List Lexeme). sign_token (codes "(") ∷ ms)
    (both_bare (separated (apart comma) (map param_tokens ps)) (apart (sign_token (codes ")")) ∷ [])
    (separated comma (map param_lexemes ps)) (sign_token (codes ")") ∷ []) (list_bare ps) refl)

result_bare : (u : TypeUse) → bare (result_tokens u) ≡ result_lexemes u
result_bare u = ap (λ (ms : List Lexeme). sign_token (codes ":") ∷ ms) (use_bare u)

-- a keyword and a name, and `: USE`
use_line_bare : (ls : List Lexeme) (t : TypeUse) → bare (all_apart ls ++ result_tokens t) ≡ ls
    ++ result_lexemes t
use_line_bare ls t = both_bare (all_apart ls) (result_tokens t) ls (result_lexemes t)
    (apart_bare ls) (result_bare t)

-- what stands in front of parameters, the parameters, and what stands behind them
around_bare : (ls : List Lexeme) (ps : List Param) (ys : List Printed) (ms : List Lexeme) → bare ys
    ≡ ms → bare (all_apart ls ++ (params_tokens ps ++ ys)) ≡ ls ++ (params_lexemes ps ++ ms)
around_bare ls ps ys ms e = both_bare (all_apart ls) (params_tokens ps ++ ys) ls
    (params_lexemes ps ++ ms) (apart_bare ls) (both_bare (params_tokens ps) ys
    (params_lexemes ps) ms (params_bare ps) e)

body_bare : (t : TypeUse) (ls : List Lexeme) → bare (result_tokens t ++ all_apart ls)
    ≡ result_lexemes t ++ ls
body_bare t ls = both_bare (result_tokens t) (all_apart ls) (result_lexemes t) ls (result_bare t)
    (apart_bare ls)

-- ---- what stands close may do so

-- whatever stands before
abbrev Joins : List Printed → Type 0
Joins ps = (t : Lexeme) → IsCloseFrom t ps

from_append : (t : Lexeme) (xs ys : List Printed) → IsCloseFrom t xs → Joins ys → IsCloseFrom t
    (xs ++ ys)
from_append t [] ys x y = y t
from_append t (p ∷ xs) ys x y = (x.0, from_append p.token xs ys x.1 y)

joins_append : (xs ys : List Printed) → Joins xs → Joins ys → Joins (xs ++ ys)
joins_append xs ys x y t = from_append t xs ys (x t) y

joins_apart : (ls : List Lexeme) → Joins (all_apart ls)
joins_apart [] t = tt
joins_apart (l ∷ ls) t = (refl, joins_apart ls l)

type_joins_at : (ts : List Lexeme) (n : Lexeme) (more : List Lexeme) → ts ≡ n ∷ more → Sticks n more
    → Joins (type_tokens ts)
type_joins_at ts n more first sticks t = rw first (refl, sticks)

type_joins : (u : TypeUse) → Joins (type_tokens (written_type u.shape).tokens)
type_joins u =
    let f = type_facts u.shape in
    let all : Sticks (sign_token (codes "<")) (written_type u.shape).tokens = rw
    (append-nil (written_type u.shape).tokens) at
    (f.sticks (sign_token (codes "<")) refl [] (λ t. tt)) in
    let later : Sticks (sign_token (codes "<")) (name_token f.name ∷ f.more) = rw f.first at all in
    type_joins_at (written_type u.shape).tokens (name_token f.name) f.more f.first later.1

use_joins : (u : TypeUse) → Joins (use_tokens u)
use_joins u = joins_append (all_apart (qualifier_tokens u.qualifier))
    (type_tokens (written_type u.shape).tokens) (joins_apart (qualifier_tokens u.qualifier))
    (type_joins u)

param_joins : (p : Param) → Joins (param_tokens p)
param_joins p t = (
  refl,
  (
    apart_touch (name_token p.name) (codes ":") refl,
    use_joins p.shape
        (sign_token (codes ":")),
  ),
)

more_joins : (ps : List Param) → Joins (more_separated (apart comma) (map param_tokens ps))
more_joins [] t = tt
more_joins (p ∷ ps) t = (
  refl,
  joins_append (param_tokens p)
      (more_separated (apart comma) (map param_tokens ps)) (param_joins p) (more_joins ps) comma,
)

list_joins : (ps : List Param) → Joins (separated (apart comma) (map param_tokens ps))
list_joins [] t = tt
list_joins (p ∷ ps) t = joins_append (param_tokens p)
    (more_separated (apart comma) (map param_tokens ps)) (param_joins p) (more_joins ps) t

params_joins : (ps : List Param) → Joins (params_tokens ps)
params_joins ps t = (
  refl,
  joins_append (separated (apart comma) (map param_tokens ps))
      (apart (sign_token (codes ")")) ∷ []) (list_joins ps) (λ u. (refl, tt))
      (sign_token (codes "(")),
)

result_joins : (u : TypeUse) → Joins (result_tokens u)
result_joins u t = (refl, use_joins u (sign_token (codes ":")))

around_joins : (ls : List Lexeme) (ps : List Param) (ys : List Printed) → Joins ys → Joins
    (all_apart ls ++ (params_tokens ps ++ ys))
around_joins ls ps ys y = joins_append (all_apart ls) (params_tokens ps ++ ys) (joins_apart ls)
    (joins_append (params_tokens ps) ys (params_joins ps) y)

body_joins : (t : TypeUse) (ls : List Lexeme) → Joins (result_tokens t ++ all_apart ls)
body_joins t ls = joins_append (result_tokens t) (all_apart ls) (result_joins t) (joins_apart ls)

use_line_joins : (ls : List Lexeme) (t : TypeUse) → Joins (all_apart ls ++ result_tokens t)
use_line_joins ls t = joins_append (all_apart ls) (result_tokens t) (joins_apart ls)
    (result_joins t)

-- printed tokens, and what they are without their spaces
record Row (ps : List Printed) (ls : List Lexeme) : Type 0 where
  bare : bare ps ≡ ls
  joins : Joins ps

apart_row : (ls : List Lexeme) → Row (all_apart ls) ls
apart_row ls = record { bare = apart_bare ls; joins = joins_apart ls }

result_row : (t : TypeUse) → Row (result_tokens t) (result_lexemes t)
result_row t = record { bare = result_bare t; joins = result_joins t }

body_row : (t : TypeUse) (ls : List Lexeme) → Row (result_tokens t ++ all_apart ls)
    (result_lexemes t ++ ls)
body_row t ls = record { bare = body_bare t ls; joins = body_joins t ls }

use_line_row : (ls : List Lexeme) (t : TypeUse) → Row (all_apart ls ++ result_tokens t)
    (ls ++ result_lexemes t)
use_line_row ls t = record { bare = use_line_bare ls t; joins = use_line_joins ls t }

around_row : (ls : List Lexeme) (ps : List Param) (ys : List Printed) (ms : List Lexeme) → Row ys ms
    → Row (all_apart ls ++ (params_tokens ps ++ ys)) (ls ++ (params_lexemes ps ++ ms))
around_row ls ps ys ms r = record {
  bare = around_bare ls ps ys ms r.bare;
  joins = around_joins ls
      ps ys r.joins;
}

item_row : (x : Item) → Row (item_tokens x) (item_lexemes x)
unfolding item_tokens item_lexemes
item_row (item.QualifierLine n true) = apart_row
    (keyword_tokens (codes "qualifier") n ++ in_parens (name_token (codes "Text") ∷ []))
item_row (item.QualifierLine n false) = apart_row (keyword_tokens (codes "qualifier") n)
item_row (item.ScopeLine n) = apart_row (keyword_tokens (codes "scope") n)
item_row (item.Interface n) = apart_row (keyword_tokens (codes "interface") n)
item_row (item.Class inject s n ps interfaces) = around_row
    (inject_tokens inject ++ (scope_tokens s ++ keyword_tokens (codes "class") n)) ps
    (all_apart (clause_tokens (sign_token (codes ":")) interfaces))
    (clause_tokens (sign_token (codes ":")) interfaces)
    (apart_row (clause_tokens (sign_token (codes ":")) interfaces))
item_row (item.Module install n includes) = apart_row
    (optional_install install ++ (keyword_tokens (codes "module") n
    ++ (clause_tokens (name_token (codes "includes")) includes ++ open_brace)))
item_row (item.TestModule install n replaces includes) = apart_row
    (install_tokens (codes "TestInstallIn") install
    ++ (keyword_tokens (codes "module") n ++ (clause_tokens (name_token (codes "replaces")) replaces
    ++ (clause_tokens (name_token (codes "includes")) includes ++ open_brace))))
item_row (item.Component scopes n parent modules) = apart_row
    (at_tokens scopes ++ (keyword_tokens (codes "component") n
    ++ (optional_tokens (codes "in") parent ++ (clause_tokens (name_token (codes "modules")) modules
    ++ open_brace))))
item_row (item.DefineComponent scopes n parent) = apart_row
    (at_tokens scopes ++ (keyword_tokens (codes "defineComponent") n
    ++ (keyword_tokens (codes "in") parent ++ open_brace)))
item_row (item.EntryPoint install n) = apart_row
    (install_tokens (codes "InstallIn") install ++ (keyword_tokens (codes "entryPoint") n
    ++ open_brace))
item_row (item.Provides m s n ps t e) = around_row
    (mark_tokens m ++ (scope_tokens s ++ keyword_tokens (codes "provides") n)) ps
    (result_tokens t ++ all_apart (sign_token (codes "=") ∷ (written e).tokens))
    (result_lexemes t ++ (sign_token (codes "=") ∷ (written e).tokens))
    (body_row t (sign_token (codes "=") ∷ (written e).tokens))
item_row (item.Binds m s n p t) = around_row (mark_tokens m
    ++ (scope_tokens s ++ keyword_tokens (codes "binds") n)) (p ∷ []) (result_tokens t)
    (result_lexemes t) (result_row t)
item_row (item.Produces m n ps t b) = around_row
    (mark_tokens m ++ keyword_tokens (codes "produces") n) ps
    (result_tokens t ++ all_apart (sign_token (codes "=") ∷ (written_tree b).tokens))
    (result_lexemes t ++ (sign_token (codes "=") ∷ (written_tree b).tokens))
    (body_row t (sign_token (codes "=") ∷ (written_tree b).tokens))
item_row (item.OptionalOf n t) = use_line_row (keyword_tokens (codes "bindsOptionalOf") n) t
item_row (item.Multibinds n t) = use_line_row (keyword_tokens (codes "multibinds") n) t
item_row (item.BindsInstance n t) = use_line_row (keyword_tokens (codes "bindsInstance") n) t
item_row (item.DependsOn n) = apart_row (keyword_tokens (codes "dependsOn") n)
item_row (item.Entry n t) = use_line_row (keyword_tokens (codes "entry") n) t
item_row item.End = apart_row (sign_token (codes "}") ∷ [])
item_row (item.OpenLine n c parent args) = apart_row
    (keyword_tokens (codes "open") n ++ (sign_token (codes ":")
    ∷ (name_token c ∷ (optional_tokens (codes "in") parent ++ open_args_tokens args))))
item_row (item.Link a b) = apart_row (keyword_tokens (codes "link") a ++ keyword_tokens
    (codes "to") b)
item_row (item.AskLine i e steps) = apart_row
    (keyword_tokens (codes "ask") i ++ (sign_token (codes ".")
    ∷ (name_token e ∷ flat_map step_tokens steps)))

pub item_bare : (x : Item) → bare (item_tokens x) ≡ item_lexemes x
item_bare x = (item_row x).bare

close_of : (ps : List Printed) → Joins ps → IsClose ps
close_of [] j = tt
close_of (p ∷ ps) j = (j p.token).1

pub item_close : (x : Item) → IsClose (item_tokens x)
item_close x = close_of (item_tokens x) (item_row x).joins

-- ---- what an item that was read has

abbrev pub IsName : Bytes → Type 0
IsName n = is_name n ≡ true

abbrev pub FitOption : Option Bytes → Type 0
FitOption None = Unit {0}
FitOption (Some n) = IsName n

pub record FitNames (ns : List Bytes) : Type 0 where
  pub short : length ns ≤ line_limit
  pub all : AllOf IsName ns

-- a mark and a scope in front of a keyword
pub record FitFront (m : Option Mark) (s : Option Bytes) : Type 0 where
  pub mark : FitMark m (scope_tokens s)
  pub scope : FitOption s

-- only behind `@Inject` a class has a scope
abbrev pub FitInject : Bool → Option Bytes → Type 0
FitInject true s = FitOption s
FitInject false None = Unit {0}
FitInject false (Some s) = ⊥

pub record FitMember (n : Bytes) (ps : List Param) (t : TypeUse) : Type 0 where
  pub name : IsName n
  pub params : FitParams ps
  pub result : FitUse t

abbrev pub FitItem : Item → Type 0
FitItem (item.QualifierLine n m) = IsName n
FitItem (item.ScopeLine n) = IsName n
FitItem (item.Interface n) = IsName n
FitItem (item.Class inject s n ps interfaces) = FitInject inject s × IsName n × FitParams ps
    × FitNames interfaces
FitItem (item.Module install n includes) = FitOption install × IsName n × FitNames includes
FitItem (item.TestModule install n replaces includes) = IsName install × IsName n
    × (1 ≤ length replaces) × FitNames replaces × FitNames includes
FitItem (item.Component scopes n parent modules) = AllOf IsName scopes × IsName n × FitOption parent
    × FitNames modules
FitItem (item.DefineComponent scopes n parent) = AllOf IsName scopes × IsName n × IsName parent
FitItem (item.EntryPoint install n) = IsName install × IsName n
FitItem (item.Provides m s n ps t e) = FitFront m s × FitMember n ps t × ((written e).fits ≡ true)
    × (nesting e ≤ nesting_limit)
FitItem (item.Binds m s n p t) = FitFront m s × FitMember n (p ∷ []) t × (is_elements m ≡ false)
FitItem (item.Produces m n ps t b) = FitFront m None × FitMember n ps t × ((written_tree b).fits
    ≡ true) × (tree_nesting b ≤ nesting_limit)
FitItem (item.OptionalOf n t) = IsName n × FitUse t
FitItem (item.Multibinds n t) = IsName n × FitUse t
FitItem (item.BindsInstance n t) = IsName n × FitUse t
FitItem (item.DependsOn n) = IsName n
FitItem (item.Entry n t) = IsName n × FitUse t
FitItem item.End = Unit {0}
FitItem (item.OpenLine n c parent args) = IsName n × IsName c × FitOption parent
    × (length args ≤ list_limit) × AllOf FitArg args
FitItem (item.Link a b) = IsName a × IsName b
FitItem (item.AskLine i e steps) = IsName i × IsName e × (length steps ≤ list_limit) × AllOf FitStep
    steps

-- ---- each token is spelled as its kind says

keyword_kinds : (w n : Bytes) → IsName w → IsName n → AllKinds (keyword_tokens w n)
keyword_kinds w n isw isn = (name_kind w isw, (name_kind n isn, tt))

scope_kinds : (s : Option Bytes) → FitOption s → AllKinds (scope_tokens s)
scope_kinds None f = tt
scope_kinds (Some s) f = (at_kind s f, tt)

at_kinds : (ss : List Bytes) → AllOf IsName ss → AllKinds (at_tokens ss)
at_kinds [] f = tt
at_kinds (s ∷ ss) f = (at_kind s f.0, at_kinds ss f.1)

inject_kinds : (i : Bool) → AllKinds (inject_tokens i)
unfolding is_name
inject_kinds false = tt
inject_kinds true = (at_kind (codes "Inject") refl, tt)

install_kinds : (w n : Bytes) → IsName w → IsName n → AllKinds (install_tokens w n)
install_kinds w n isw isn = (at_kind w isw, parens_kinds (name_token n ∷ []) (name_kind n isn, tt))

optional_install_kinds : (p : Option Bytes) → FitOption p → AllKinds (optional_install p)
unfolding is_name
optional_install_kinds None f = tt
optional_install_kinds (Some n) f = install_kinds (codes "InstallIn") n refl f

optional_kinds : (p : Option Bytes) → FitOption p → AllKinds (optional_tokens (codes "in") p)
unfolding is_name
optional_kinds None f = tt
optional_kinds (Some n) f = keyword_kinds (codes "in") n refl f

names_kinds : (ns : List Bytes) → AllOf IsName ns → AllOf AllKinds (names_tokens ns)
names_kinds [] all = tt
names_kinds (n ∷ ns) all = ((name_kind n all.0, tt), names_kinds ns all.1)

clause_kinds : (t : Lexeme) (ns : List Bytes) → kind_of t.spelling ≡ Some t.kind → AllOf IsName ns
    → AllKinds (clause_tokens t ns)
clause_kinds t [] is all = tt
clause_kinds t (n ∷ ns) is all = (
  is,
  separated_kinds (names_tokens (n ∷ ns))
      (names_kinds (n ∷ ns) all),
)

word_clause_kinds : (w : Bytes) (ns : List Bytes) → IsName w → AllOf IsName ns → AllKinds
    (clause_tokens (name_token w) ns)
word_clause_kinds w ns is all = clause_kinds (name_token w) ns (name_kind w is) all

brace_kinds : AllKinds open_brace
unfolding kind_of is_name is_at_name is_integer is_counting is_text is_sign
brace_kinds = (refl, tt)

end_kinds : AllKinds (sign_token (codes "}") ∷ [])
unfolding kind_of is_name is_at_name is_integer is_counting is_text is_sign
end_kinds = (refl, tt)

key_kind : (k : MapKeyVal) → FitKey k → AllKinds (map_key_token k ∷ [])
key_kind (map_key.Text k) f = (text_kind k f, tt)
key_kind (map_key.Int i) f = (integer_kind i f, tt)

key_name : (k : MapKeyVal) → IsName (map_key_name k)
unfolding is_name
key_name (map_key.Text k) = refl
key_name (map_key.Int i) = refl

mark_kinds : (m : Option Mark) (ls : List Lexeme) → FitMark m ls → AllKinds (mark_tokens m)
unfolding is_name
mark_kinds None ls f = tt
mark_kinds (Some mark.IntoSet) ls f = (at_kind (codes "IntoSet") refl, tt)
mark_kinds (Some mark.ElementsIntoSet) ls f = (at_kind (codes "ElementsIntoSet") refl, tt)
mark_kinds (Some (mark.IntoMap k)) ls f = (
  at_kind (codes "IntoMap") refl,
  (at_kind (map_key_name k) (key_name k), parens_kinds (map_key_token k ∷ []) (key_kind k f)),
)

member_kinds : (m : Option Bytes) → forms.FitMember m → AllKinds (member_tokens m)
member_kinds None f = tt
member_kinds (Some t) f = parens_kinds (text_token t ∷ []) (text_kind t f, tt)

qualifier_kinds : (q : Option Qualifier) → FitQualifier q → AllKinds (qualifier_tokens q)
qualifier_kinds None f = tt
qualifier_kinds (Some q) f = (at_kind q.name f.0, member_kinds q.member f.1)

use_kinds : (u : TypeUse) → FitUse u → AllKinds (use_lexemes u)
use_kinds u f = kinds_append (qualifier_tokens u.qualifier) (written_type u.shape).tokens
    (qualifier_kinds u.qualifier f.qualifier) ((type_facts u.shape).kinds f.fits)

colon_kinds : (ls : List Lexeme) → AllKinds ls → AllKinds (sign_token (codes ":") ∷ ls)
unfolding kind_of is_name is_at_name is_integer is_counting is_text is_sign
colon_kinds ls k = (refl, k)

equals_kinds : (ls : List Lexeme) → AllKinds ls → AllKinds (sign_token (codes "=") ∷ ls)
unfolding kind_of is_name is_at_name is_integer is_counting is_text is_sign
equals_kinds ls k = (refl, k)

dot_kinds : (ls : List Lexeme) → AllKinds ls → AllKinds (sign_token (codes ".") ∷ ls)
unfolding kind_of is_name is_at_name is_integer is_counting is_text is_sign
dot_kinds ls k = (refl, k)

result_kinds : (u : TypeUse) → FitUse u → AllKinds (result_lexemes u)
result_kinds u f = colon_kinds (use_lexemes u) (use_kinds u f)

param_kinds : (p : Param) → FitParam p → AllKinds (param_lexemes p)
param_kinds p f = (
  name_kind p.name f.name,
  colon_kinds (use_lexemes p.shape)
      (use_kinds p.shape f.shape),
)

all_param_kinds : (ps : List Param) → AllOf FitParam ps → AllOf AllKinds (map param_lexemes ps)
all_param_kinds [] all = tt
all_param_kinds (p ∷ ps) all = (param_kinds p all.0, all_param_kinds ps all.1)

params_kinds : (ps : List Param) → FitParams ps → AllKinds (params_lexemes ps)
params_kinds ps f = parens_kinds (separated comma (map param_lexemes ps))
    (separated_kinds (map param_lexemes ps) (all_param_kinds ps f.all))

arg_kinds : (a : OpenArg) → FitArg a → AllKinds (open_arg_tokens a)
arg_kinds a f = (
  name_kind a.name f.name,
  equals_kinds (written a.value).tokens
      (expression_kinds a.value (constant_fits nesting_limit a.value f.value)),
)

all_arg_kinds : (xs : List OpenArg) → AllOf FitArg xs → AllOf AllKinds (map open_arg_tokens xs)
all_arg_kinds [] all = tt
all_arg_kinds (a ∷ xs) all = (arg_kinds a all.0, all_arg_kinds xs all.1)

args_kinds : (xs : List OpenArg) → AllOf FitArg xs → AllKinds (open_args_tokens xs)
unfolding is_name
args_kinds [] all = tt
args_kinds (a ∷ xs) all = (
  name_kind (codes "with") refl,
  separated_kinds
      (map open_arg_tokens (a ∷ xs)) (all_arg_kinds (a ∷ xs) all),
)

step_kinds : (s : AskStep) → FitStep s → AllKinds (step_tokens s)
unfolding kind_of is_name is_at_name is_integer is_counting is_text is_sign
step_kinds (step.Field f) is = (refl, (name_kind f is, tt))
step_kinds step.Get is = (refl, tt)
step_kinds step.Inside is = (refl, tt)
step_kinds (step.At k) is = (refl, ((key_kind k is).0, (refl, tt)))

steps_kinds : (ss : List AskStep) → AllOf FitStep ss → AllKinds (flat_map step_tokens ss)
steps_kinds [] all = tt
steps_kinds (s ∷ ss) all = kinds_append (step_tokens s) (flat_map step_tokens ss)
    (step_kinds s all.0) (steps_kinds ss all.1)

front_kinds : (m : Option Mark) (s : Option Bytes) (w n : Bytes) → FitFront m s → IsName w
    → IsName n → AllKinds (mark_tokens m ++ (scope_tokens s ++ keyword_tokens w n))
front_kinds m s w n f isw isn = kinds_append (mark_tokens m) (scope_tokens s ++ keyword_tokens w n)
    (mark_kinds m (scope_tokens s) f.mark) (kinds_append (scope_tokens s) (keyword_tokens w n)
    (scope_kinds s f.scope) (keyword_kinds w n isw isn))

member_line_kinds : (ls : List Lexeme) (n : Bytes) (ps : List Param) (t : TypeUse)
    (more : List Lexeme) → AllKinds ls → FitMember n ps t → AllKinds more → AllKinds
    (ls ++ (params_lexemes ps ++ (result_lexemes t ++ more)))
member_line_kinds ls n ps t more k f m = kinds_append ls
    (params_lexemes ps ++ (result_lexemes t ++ more)) k
    (kinds_append (params_lexemes ps) (result_lexemes t ++ more) (params_kinds ps f.params)
    (kinds_append (result_lexemes t) more (result_kinds t f.result) m))

use_line_kinds : (w n : Bytes) (t : TypeUse) → IsName w → IsName n → FitUse t → AllKinds
    (keyword_tokens w n ++ result_lexemes t)
use_line_kinds w n t isw isn f = kinds_append (keyword_tokens w n) (result_lexemes t)
    (keyword_kinds w n isw isn) (result_kinds t f)

class_kinds : (inject : Bool) (s : Option Bytes) (n : Bytes) → FitInject inject s → IsName n
    → AllKinds (inject_tokens inject ++ (scope_tokens s ++ keyword_tokens (codes "class") n))
unfolding is_name
class_kinds true s n f is = kinds_append (inject_tokens true)
    (scope_tokens s ++ keyword_tokens (codes "class") n) (inject_kinds true)
    (kinds_append (scope_tokens s) (keyword_tokens (codes "class") n) (scope_kinds s f)
    (keyword_kinds (codes "class") n refl is))
class_kinds false None n f is = keyword_kinds (codes "class") n refl is
class_kinds false (Some s) n f is = absurd f

includes_kinds : (ns : List Bytes) → FitNames ns → AllKinds
    (clause_tokens (name_token (codes "includes")) ns ++ open_brace)
unfolding is_name
includes_kinds ns f = kinds_append (clause_tokens (name_token (codes "includes")) ns) open_brace
    (word_clause_kinds (codes "includes") ns refl f.all) brace_kinds

colon_kind : kind_of (codes ":") ≡ Some (sign_token (codes ":")).kind
unfolding kind_of is_name is_at_name is_integer is_counting is_text is_sign
colon_kind = refl

lexemes_kinds : (x : Item) → FitItem x → AllKinds (item_lexemes x)
unfolding item_lexemes is_name
lexemes_kinds (item.QualifierLine n true) f = kinds_append (keyword_tokens (codes "qualifier") n)
    (in_parens (name_token (codes "Text") ∷ [])) (keyword_kinds (codes "qualifier") n refl f)
    (parens_kinds (name_token (codes "Text") ∷ []) (name_kind (codes "Text") refl, tt))
lexemes_kinds (item.QualifierLine n false) f = keyword_kinds (codes "qualifier") n refl f
lexemes_kinds (item.ScopeLine n) f = keyword_kinds (codes "scope") n refl f
lexemes_kinds (item.Interface n) f = keyword_kinds (codes "interface") n refl f
lexemes_kinds (item.Class inject s n ps interfaces) f =
    kinds_append (inject_tokens inject ++ (scope_tokens s ++ keyword_tokens (codes "class") n))
    (params_lexemes ps ++ clause_tokens (sign_token (codes ":")) interfaces)
    (class_kinds inject s n f.0 f.1)
    (kinds_append (params_lexemes ps) (clause_tokens (sign_token (codes ":")) interfaces)
    (params_kinds ps f.2) (clause_kinds (sign_token (codes ":")) interfaces colon_kind f.3.all))
lexemes_kinds (item.Module install n includes) f =
    kinds_append (optional_install install) (keyword_tokens (codes "module") n
    ++ (clause_tokens (name_token (codes "includes")) includes ++ open_brace))
    (optional_install_kinds install f.0)
    (kinds_append (keyword_tokens (codes "module") n)
    (clause_tokens (name_token (codes "includes")) includes ++ open_brace)
    (keyword_kinds (codes "module") n refl f.1) (includes_kinds includes f.2))
lexemes_kinds (item.TestModule install n replaces includes) f =
    kinds_append (install_tokens (codes "TestInstallIn") install)
    (keyword_tokens (codes "module") n ++ (clause_tokens
    (name_token (codes "replaces")) replaces ++ (clause_tokens
    (name_token (codes "includes")) includes ++ open_brace)))
    (install_kinds (codes "TestInstallIn") install refl f.0)
    (kinds_append (keyword_tokens (codes "module") n)
    (clause_tokens (name_token (codes "replaces")) replaces
    ++ (clause_tokens (name_token (codes "includes")) includes ++ open_brace))
    (keyword_kinds (codes "module") n refl f.1)
    (kinds_append (clause_tokens (name_token (codes "replaces")) replaces)
    (clause_tokens (name_token (codes "includes")) includes ++ open_brace)
    (word_clause_kinds (codes "replaces") replaces refl f.3.all) (includes_kinds includes f.4)))
lexemes_kinds (item.Component scopes n parent modules) f =
    kinds_append (at_tokens scopes) (keyword_tokens (codes "component") n
    ++ (optional_tokens (codes "in") parent ++ (clause_tokens
    (name_token (codes "modules")) modules ++ open_brace))) (at_kinds scopes f.0)
    (kinds_append (keyword_tokens (codes "component") n)
    (optional_tokens (codes "in") parent ++ (clause_tokens
    (name_token (codes "modules")) modules ++ open_brace))
    (keyword_kinds (codes "component") n refl f.1)
    (kinds_append (optional_tokens (codes "in") parent)
    (clause_tokens (name_token (codes "modules")) modules ++ open_brace)
    (optional_kinds parent f.2)
    (kinds_append (clause_tokens (name_token (codes "modules")) modules) open_brace
    (word_clause_kinds (codes "modules") modules refl f.3.all) brace_kinds)))
lexemes_kinds (item.DefineComponent scopes n parent) f =
    kinds_append (at_tokens scopes) (keyword_tokens (codes "defineComponent") n
    ++ (keyword_tokens (codes "in") parent ++ open_brace)) (at_kinds scopes f.0)
    (kinds_append (keyword_tokens (codes "defineComponent") n)
    (keyword_tokens (codes "in") parent ++ open_brace)
    (keyword_kinds (codes "defineComponent") n refl f.1)
    (kinds_append (keyword_tokens (codes "in") parent) open_brace
    (keyword_kinds (codes "in") parent refl f.2) brace_kinds))
lexemes_kinds (item.EntryPoint install n) f =
    kinds_append (install_tokens (codes "InstallIn") install)
    (keyword_tokens (codes "entryPoint") n ++ open_brace)
    (install_kinds (codes "InstallIn") install refl f.0)
    (kinds_append (keyword_tokens (codes "entryPoint") n) open_brace
    (keyword_kinds (codes "entryPoint") n refl f.1) brace_kinds)
lexemes_kinds (item.Provides m s n ps t e) f =
    member_line_kinds (mark_tokens m ++ (scope_tokens s ++ keyword_tokens (codes "provides") n)) n
    ps t (sign_token (codes "=") ∷ (written e).tokens)
    (front_kinds m s (codes "provides") n f.0 refl f.1.name) f.1
    (equals_kinds (written e).tokens (expression_kinds e f.2))
lexemes_kinds (item.Binds m s n p t) f =
    kinds_append (mark_tokens m ++ (scope_tokens s ++ keyword_tokens (codes "binds") n))
    (params_lexemes (p ∷ []) ++ result_lexemes t)
    (front_kinds m s (codes "binds") n f.0 refl f.1.name)
    (kinds_append (params_lexemes (p ∷ [])) (result_lexemes t) (params_kinds (p ∷ []) f.1.params)
    (result_kinds t f.1.result))
lexemes_kinds (item.Produces m n ps t b) f =
    member_line_kinds (mark_tokens m ++ keyword_tokens (codes "produces") n) n ps t
    (sign_token (codes "=") ∷ (written_tree b).tokens)
    (front_kinds m None (codes "produces") n f.0 refl f.1.name) f.1
    (equals_kinds (written_tree b).tokens (tree_kinds b f.2))
lexemes_kinds (item.OptionalOf n t) f = use_line_kinds (codes "bindsOptionalOf") n t refl f.0 f.1
lexemes_kinds (item.Multibinds n t) f = use_line_kinds (codes "multibinds") n t refl f.0 f.1
lexemes_kinds (item.BindsInstance n t) f = use_line_kinds (codes "bindsInstance") n t refl f.0 f.1
lexemes_kinds (item.DependsOn n) f = keyword_kinds (codes "dependsOn") n refl f
lexemes_kinds (item.Entry n t) f = use_line_kinds (codes "entry") n t refl f.0 f.1
lexemes_kinds item.End f = end_kinds
lexemes_kinds (item.OpenLine n c parent args) f =
    kinds_append (keyword_tokens (codes "open") n)
    (sign_token (codes ":") ∷ (name_token c ∷ (optional_tokens (codes "in") parent
    ++ open_args_tokens args))) (keyword_kinds (codes "open") n refl f.0)
    (colon_kinds (name_token c ∷ (optional_tokens (codes "in") parent ++ open_args_tokens args)) (
      name_kind c f.1,
      kinds_append (optional_tokens (codes "in") parent) (open_args_tokens args)
          (optional_kinds parent f.2) (args_kinds args f.4),
    ))
lexemes_kinds (item.Link a b) f = kinds_append (keyword_tokens (codes "link") a)
    (keyword_tokens (codes "to") b) (keyword_kinds (codes "link") a refl f.0)
    (keyword_kinds (codes "to") b refl f.1)
lexemes_kinds (item.AskLine i e steps) f =
    kinds_append (keyword_tokens (codes "ask") i)
    (sign_token (codes ".") ∷ (name_token e ∷ flat_map step_tokens steps))
    (keyword_kinds (codes "ask") i refl f.0)
    (dot_kinds (name_token e ∷ flat_map step_tokens steps) (name_kind e f.1, steps_kinds steps f.3))

tokens_of_kinds : (ps : List Printed) → AllKinds (bare ps) → AllTokens ps
tokens_of_kinds [] k = tt
tokens_of_kinds (p ∷ ps) k = (k.0, tokens_of_kinds ps k.1)

pub item_kinds : (x : Item) → FitItem x → AllTokens (item_tokens x)
item_kinds x f = tokens_of_kinds (item_tokens x) (rw (item_bare x) (lexemes_kinds x f))

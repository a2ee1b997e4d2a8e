-- Canonical text: one item a line, the tokens of each, and the spaces between them.
use Rattle.std.specs.Prelude.{Bool, true, false, not, ◌&&◌, ◌||◌, if◌then◌else◌, List, [], ◌∷◌, ◌++◌, map, Option, Some, None, codes}
use Rattle.std.specs.Str.{bytes_eq}
use Rattle.std.specs.List.{flat_map}
use Rattle.dg_types.specs.declared.key.MapKeyVal.{MapKeyVal}
use Rattle.dg_types.specs.declared.key.MapKeyVal.TheVariants as map_key
use Rattle.dg_types.specs.declared.shape.Qualifier.{Qualifier}
use Rattle.dg_types.specs.declared.shape.TypeUse.{TypeUse}
use Rattle.dg_lex.specs.Bytes.{Bytes, is_among}
use Rattle.dg_lex.specs.Lexemes.{Lexeme}
use Rattle.dg_decl.specs.declared.document.Doc.{Doc}
use Rattle.dg_decl.specs.declared.item.Item.{Item}
use Rattle.dg_decl.specs.declared.item.Item.TheVariants as item
use Rattle.dg_decl.specs.declared.item.Mark.{Mark}
use Rattle.dg_decl.specs.declared.item.Mark.TheVariants as mark
use Rattle.dg_decl.specs.declared.item.Param.{Param}
use Rattle.dg_decl.specs.declared.item.OpenArg.{OpenArg}
use Rattle.dg_decl.specs.declared.item.AskStep.{AskStep}
use Rattle.dg_decl.specs.declared.item.AskStep.TheVariants as step
use Rattle.dg_decl.specs.Lines.{with_end}
use Rattle.dg_decl.specs.Written.{name_token, sign_token, at_token, text_token, integer_token, separated, in_parens, written_type, written, written_tree}

-- ---- the tokens of an item

-- a token of an item, and whether it stands right behind the one before it, whichever that is: so
-- within a type, and the `:` of a parameter
pub record Printed : Type 0 where
  pub token : Lexeme
  pub close : Bool

abbrev pub apart : Lexeme → Printed
apart t = record { token = t; close = false }

abbrev pub close : Lexeme → Printed
close t = record { token = t; close = true }

abbrev pub all_apart : List Lexeme → List Printed
all_apart tokens = map apart tokens

-- a type: each token but the first right behind the one before it
abbrev pub type_tokens : List Lexeme → List Printed
type_tokens [] = []
type_tokens (t ∷ ts) = apart t ∷ map close ts

abbrev pub member_tokens : Option Bytes → List Lexeme
member_tokens None = []
member_tokens (Some t) = in_parens (text_token t ∷ [])

abbrev pub qualifier_tokens : Option Qualifier → List Lexeme
qualifier_tokens None = []
qualifier_tokens (Some q) = at_token q.name ∷ member_tokens q.member

abbrev pub use_tokens : TypeUse → List Printed
use_tokens u = all_apart (qualifier_tokens u.qualifier) ++ type_tokens (written_type u.shape).tokens

abbrev pub param_tokens : Param → List Printed
param_tokens p = apart (name_token p.name) ∷ (close (sign_token (codes ":")) ∷ use_tokens p.shape)

-- parameters in parentheses
abbrev pub params_tokens : List Param → List Printed
params_tokens ps =
    apart (sign_token (codes "(")) ∷ (separated (apart (sign_token (codes ","))) (map param_tokens
    ps) ++ (apart (sign_token (codes ")")) ∷ []))

-- `: USE` of a result
abbrev pub result_tokens : TypeUse → List Printed
result_tokens u = apart (sign_token (codes ":")) ∷ use_tokens u

-- a keyword and a name
abbrev pub keyword_tokens : Bytes → Bytes → List Lexeme
keyword_tokens w n = name_token w ∷ (name_token n ∷ [])

-- a keyword and names behind it, where there are names
abbrev pub clause_tokens : Lexeme → List Bytes → List Lexeme
clause_tokens w [] = []
clause_tokens w (n ∷ ns) = w ∷ separated (sign_token (codes ",")) (map (λ m. name_token m ∷ []) (n
    ∷ ns))

-- a keyword and a name behind it, where there is one
abbrev pub optional_tokens : Bytes → Option Bytes → List Lexeme
optional_tokens w None = []
optional_tokens w (Some n) = keyword_tokens w n

-- an at-name with a name in parentheses
abbrev pub install_tokens : Bytes → Bytes → List Lexeme
install_tokens w n = at_token w ∷ in_parens (name_token n ∷ [])

abbrev pub optional_install : Option Bytes → List Lexeme
optional_install None = []
optional_install (Some n) = install_tokens (codes "InstallIn") n

abbrev pub scope_tokens : Option Bytes → List Lexeme
scope_tokens None = []
scope_tokens (Some s) = at_token s ∷ []

abbrev pub inject_tokens : Bool → List Lexeme
inject_tokens false = []
inject_tokens true = at_token (codes "Inject") ∷ []

abbrev pub map_key_token : MapKeyVal → Lexeme
map_key_token (map_key.Text k) = text_token k
map_key_token (map_key.Int i) = integer_token i

abbrev pub map_key_name : MapKeyVal → Bytes
map_key_name (map_key.Text k) = codes "StringKey"
map_key_name (map_key.Int i) = codes "IntKey"

abbrev pub mark_tokens : Option Mark → List Lexeme
mark_tokens None = []
mark_tokens (Some mark.IntoSet) = at_token (codes "IntoSet") ∷ []
mark_tokens (Some mark.ElementsIntoSet) = at_token (codes "ElementsIntoSet") ∷ []
mark_tokens (Some (mark.IntoMap k)) = at_token (codes "IntoMap") ∷ (at_token (map_key_name k)
    ∷ in_parens (map_key_token k ∷ []))

abbrev pub open_arg_tokens : OpenArg → List Lexeme
open_arg_tokens a = name_token a.name ∷ (sign_token (codes "=") ∷ (written a.value).tokens)

abbrev pub open_args_tokens : List OpenArg → List Lexeme
open_args_tokens [] = []
open_args_tokens (a ∷ args) = name_token (codes "with") ∷ separated (sign_token (codes ",")) (map
    open_arg_tokens (a ∷ args))

abbrev pub step_tokens : AskStep → List Lexeme
step_tokens (step.Field f) = sign_token (codes ".") ∷ (name_token f ∷ [])
step_tokens step.Get = sign_token (codes "!") ∷ []
step_tokens step.Inside = sign_token (codes "?") ∷ []
step_tokens (step.At k) = sign_token (codes "[") ∷ (map_key_token k ∷ (sign_token (codes "]") ∷ []))

abbrev pub open_brace : List Lexeme
open_brace = sign_token (codes "{") ∷ []

abbrev pub at_tokens : List Bytes → List Lexeme
at_tokens scopes = map at_token scopes

-- the tokens of an item's line, in order
unfoldable pub item_tokens : Item → List Printed
item_tokens (item.QualifierLine n true) = all_apart (keyword_tokens (codes "qualifier") n
    ++ in_parens (name_token (codes "Text") ∷ []))
item_tokens (item.QualifierLine n false) = all_apart (keyword_tokens (codes "qualifier") n)
item_tokens (item.ScopeLine n) = all_apart (keyword_tokens (codes "scope") n)
item_tokens (item.Interface n) = all_apart (keyword_tokens (codes "interface") n)
item_tokens (item.Class inject s n ps interfaces) =
    all_apart (inject_tokens inject ++ (scope_tokens s ++ keyword_tokens (codes "class") n))
    ++ (params_tokens ps ++ all_apart (clause_tokens (sign_token (codes ":")) interfaces))
item_tokens (item.Module install n includes) =
    all_apart (optional_install install ++ (keyword_tokens (codes "module") n
    ++ (clause_tokens (name_token (codes "includes")) includes ++ open_brace)))
item_tokens (item.TestModule install n replaces includes) =
    all_apart (install_tokens (codes "TestInstallIn") install ++ (keyword_tokens (codes "module") n
    ++ (clause_tokens (name_token (codes "replaces")) replaces
    ++ (clause_tokens (name_token (codes "includes")) includes ++ open_brace))))
item_tokens (item.Component scopes n parent modules) =
    all_apart (at_tokens scopes ++ (keyword_tokens (codes "component") n
    ++ (optional_tokens (codes "in") parent ++ (clause_tokens (name_token (codes "modules")) modules
    ++ open_brace))))
item_tokens (item.DefineComponent scopes n parent) =
    all_apart (at_tokens scopes ++ (keyword_tokens (codes "defineComponent") n
    ++ (keyword_tokens (codes "in") parent ++ open_brace)))
item_tokens (item.EntryPoint install n) =
    all_apart (install_tokens (codes "InstallIn") install ++ (keyword_tokens (codes "entryPoint") n
    ++ open_brace))
item_tokens (item.Provides m s n ps t e) =
    all_apart (mark_tokens m ++ (scope_tokens s ++ keyword_tokens (codes "provides") n))
    ++ (params_tokens ps ++ (result_tokens t ++ all_apart (sign_token (codes "=")
    ∷ (written e).tokens)))
item_tokens (item.Binds m s n p t) =
    all_apart (mark_tokens m ++ (scope_tokens s ++ keyword_tokens (codes "binds") n))
    ++ (params_tokens (p ∷ []) ++ result_tokens t)
item_tokens (item.Produces m n ps t b) =
    all_apart (mark_tokens m ++ keyword_tokens (codes "produces") n)
    ++ (params_tokens ps ++ (result_tokens t ++ all_apart (sign_token (codes "=")
    ∷ (written_tree b).tokens)))
item_tokens (item.OptionalOf n t) = all_apart (keyword_tokens (codes "bindsOptionalOf") n)
    ++ result_tokens t
item_tokens (item.Multibinds n t) = all_apart (keyword_tokens (codes "multibinds") n)
    ++ result_tokens t
item_tokens (item.BindsInstance n t) = all_apart (keyword_tokens (codes "bindsInstance") n)
    ++ result_tokens t
item_tokens (item.DependsOn n) = all_apart (keyword_tokens (codes "dependsOn") n)
item_tokens (item.Entry n t) = all_apart (keyword_tokens (codes "entry") n) ++ result_tokens t
item_tokens item.End = all_apart (sign_token (codes "}") ∷ [])
item_tokens (item.OpenLine n c parent args) =
    all_apart (keyword_tokens (codes "open") n ++ (sign_token (codes ":") ∷ (name_token c
    ∷ (optional_tokens (codes "in") parent ++ open_args_tokens args))))
item_tokens (item.Link a b) = all_apart (keyword_tokens (codes "link") a
    ++ keyword_tokens (codes "to") b)
item_tokens (item.AskLine i e steps) =
    all_apart (keyword_tokens (codes "ask") i ++ (sign_token (codes ".") ∷ (name_token e
    ∷ flat_map step_tokens steps)))

-- ---- the spaces between tokens

-- nothing stands behind these, and nothing before the others, but a space behind a comma
abbrev pub has_space : Bytes → Bytes → Bool
has_space before next =
    bytes_eq before (codes ",")
    || (not (is_among before (codes "(" ∷ codes "[" ∷ codes "." ∷ []))
    && not (is_among next (codes ")" ∷ codes "]" ∷ codes "," ∷ codes "." ∷ codes "!" ∷ codes "?"
    ∷ codes "(" ∷ codes "[" ∷ [])))

-- the space before a token behind this one
abbrev pub gap : Lexeme → Printed → Bytes
gap before p = if not p.close && has_space before.spelling p.token.spelling then 32 ∷ [] else []

-- the text of tokens behind this one
abbrev pub text_behind : Lexeme → List Printed → Bytes
text_behind before [] = []
text_behind before (p ∷ ps) = gap before p ++ (p.token.spelling ++ text_behind p.token ps)

-- the text of tokens
abbrev pub text_of : List Printed → Bytes
text_of [] = []
text_of (p ∷ ps) = p.token.spelling ++ text_behind p.token ps

-- ---- lines

-- an item of the block of a header
abbrev pub is_member : Item → Bool
is_member (item.Provides m s n ps t e) = true
is_member (item.Binds m s n p t) = true
is_member (item.Produces m n ps t b) = true
is_member (item.OptionalOf n t) = true
is_member (item.Multibinds n t) = true
is_member (item.BindsInstance n t) = true
is_member (item.DependsOn n) = true
is_member (item.Entry n t) = true
is_member other = false

abbrev pub indent_of : Item → Bytes
indent_of x = if is_member x then 32 ∷ 32 ∷ [] else []

-- the line of an item, without the LF that ends it
unfoldable pub canonical_line : Item → Bytes
canonical_line x = indent_of x ++ text_of (item_tokens x)

-- the canonical text of a document
unfoldable pub canonical_text : Doc → Bytes
canonical_text doc = flat_map with_end (map canonical_line doc.items)

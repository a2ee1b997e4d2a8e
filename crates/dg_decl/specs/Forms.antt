-- The forms of lines: which item the lexemes of a line spell.
use Rattle.std.specs.Prelude.{ℕ, zero, suc, Bool, true, false, not, if◌then◌else◌, List, [], ◌∷◌, Option, Some, None, codes}
use Rattle.std.specs.Str.{bytes_eq}
use Rattle.dg_types.specs.declared.shape.TypeUse.{TypeUse}
use Rattle.dg_types.specs.declared.key.MapKeyVal.{MapKeyVal}
use Rattle.dg_types.specs.declared.key.MapKeyVal.TheVariants as map_key
use Rattle.dg_lex.specs.declared.token.TokenKind.TheVariants as kind
use Rattle.dg_lex.specs.Bytes.{Bytes}
use Rattle.dg_lex.specs.Lexemes.{Lexeme}
use Rattle.dg_decl.specs.declared.item.Item.{Item}
use Rattle.dg_decl.specs.declared.item.Item.TheVariants as item
use Rattle.dg_decl.specs.declared.item.Mark.{Mark}
use Rattle.dg_decl.specs.declared.item.Mark.TheVariants as mark
use Rattle.dg_decl.specs.declared.item.OpenArg.{OpenArg}
use Rattle.dg_decl.specs.declared.item.AskStep.{AskStep}
use Rattle.dg_decl.specs.declared.item.AskStep.TheVariants as step
use Rattle.dg_decl.specs.Readers.{Reader, ◌>>=◌, ◌>>◌, pure, nothing, comes, comes_kind, is_of_kind, is_spelled, taken, eaten, keyword, sign, at_end, name, at_name, at_names, text, integer, optional, list_of, list_limit, names, optional_names, enclosed}
use Rattle.dg_decl.specs.TypeForms.{type_use, param, params}
use Rattle.dg_decl.specs.ExpressionForms.{constant, body, tree_body}

-- ---- what stands in front of a keyword

-- [@S]
unfoldable pub scope : Reader (Option Bytes)
scope ls = if comes_kind kind.AtName ls then (at_name >>= λ s. pure (Some s)) ls else Some (
  None,
  ls,
)

-- @StringKey("k") | @IntKey(i)
unfoldable pub map_key_mark : Reader MapKeyVal
map_key_mark = do
  is_text ← eaten kind.AtName (codes "@StringKey")
  if is_text then (enclosed text >>= λ k. pure (map_key.Text k))
      else (taken kind.AtName (codes "@IntKey") >> enclosed integer >>= λ i. pure (map_key.Int i))

-- [MARK]: an at-name of one of these names in front is the mark
unfoldable pub mark_form : Reader (Option Mark)
mark_form ls =
    if comes kind.AtName (codes "@IntoSet") ls then (at_name >> pure (Some mark.IntoSet)) ls
    else (if comes kind.AtName (codes "@ElementsIntoSet") ls then (at_name >> pure (Some
    mark.ElementsIntoSet)) ls
    else (if comes kind.AtName (codes "@IntoMap") ls then (at_name >> map_key_mark >>= λ k. pure
    (Some (mark.IntoMap k))) ls
    else Some (None, ls)))

abbrev pub is_elements : Option Mark → Bool
is_elements (Some mark.ElementsIntoSet) = true
is_elements other = false

-- ---- lines outside blocks

-- qualifier N | qualifier N(Text)
unfoldable pub qualifier_line : Reader Item
qualifier_line = do
  keyword (codes "qualifier")
  n ← name
  member ← eaten kind.Sign (codes "(")
  if member then (keyword (codes "Text") >> sign (codes ")") >> at_end >> pure (item.QualifierLine n
      true))
      else (at_end >> pure (item.QualifierLine n false))

-- scope N
unfoldable pub scope_line : Reader Item
scope_line = do
  keyword (codes "scope")
  n ← name
  at_end
  pure (item.ScopeLine n)

-- interface N
unfoldable pub interface_line : Reader Item
interface_line = do
  keyword (codes "interface")
  n ← name
  at_end
  pure (item.Interface n)

-- class N(PARAMS) [: N, ..], behind what stands in front of it
unfoldable pub class_behind : Bool → Option Bytes → Reader Item
class_behind inject s = do
  keyword (codes "class")
  n ← name
  ps ← params
  interfaces ← optional_names kind.Sign (codes ":")
  at_end
  pure (item.Class inject s n ps interfaces)

-- [@Inject [@S]] class N(PARAMS) [: N, ..]
unfoldable pub class_line : Reader Item
class_line = do
  inject ← eaten kind.AtName (codes "@Inject")
  if inject then (scope >>= λ s. class_behind true s) else class_behind false None

-- [@InstallIn(N)] module N [includes N, ..] {
unfoldable pub module_line : Reader Item
module_line = do
  install ← optional kind.AtName (codes "@InstallIn") (enclosed name)
  keyword (codes "module")
  n ← name
  includes ← optional_names kind.Name (codes "includes")
  sign (codes "{")
  at_end
  pure (item.Module install n includes)

-- @TestInstallIn(N) module N replaces N, .. [includes N, ..] {
unfoldable pub test_module_line : Reader Item
test_module_line = do
  taken kind.AtName (codes "@TestInstallIn")
  install ← enclosed name
  keyword (codes "module")
  n ← name
  keyword (codes "replaces")
  replaces ← names
  includes ← optional_names kind.Name (codes "includes")
  sign (codes "{")
  at_end
  pure (item.TestModule install n replaces includes)

-- any number of @S, component N [in N] [modules N, ..] {
unfoldable pub component_line : Reader Item
component_line = do
  scopes ← at_names
  keyword (codes "component")
  n ← name
  parent ← optional kind.Name (codes "in") name
  modules ← optional_names kind.Name (codes "modules")
  sign (codes "{")
  at_end
  pure (item.Component scopes n parent modules)

-- any number of @S, defineComponent N in N {
unfoldable pub define_component_line : Reader Item
define_component_line = do
  scopes ← at_names
  keyword (codes "defineComponent")
  n ← name
  keyword (codes "in")
  parent ← name
  sign (codes "{")
  at_end
  pure (item.DefineComponent scopes n parent)

-- @InstallIn(N) entryPoint N {
unfoldable pub entry_point_line : Reader Item
entry_point_line = do
  taken kind.AtName (codes "@InstallIn")
  install ← enclosed name
  keyword (codes "entryPoint")
  n ← name
  sign (codes "{")
  at_end
  pure (item.EntryPoint install n)

-- ---- lines of blocks

-- [MARK] [@S] provides N(PARAMS) : USE = EXPR
unfoldable pub provides_line : Reader Item
provides_line = do
  m ← mark_form
  s ← scope
  keyword (codes "provides")
  n ← name
  ps ← params
  sign (codes ":")
  t ← type_use
  sign (codes "=")
  e ← body
  at_end
  pure (item.Provides m s n ps t e)

-- [MARK] [@S] binds N(PARAM) : USE, behind its mark
unfoldable pub binds_behind : Option Mark → Reader Item
binds_behind m = do
  s ← scope
  keyword (codes "binds")
  n ← name
  p ← enclosed param
  sign (codes ":")
  t ← type_use
  at_end
  pure (item.Binds m s n p t)

-- the same: the mark isn't @ElementsIntoSet
unfoldable pub binds_line : Reader Item
binds_line = mark_form >>= λ m. if is_elements m then nothing else binds_behind m

-- [MARK] produces N(PARAMS) : USE = TREE
unfoldable pub produces_line : Reader Item
produces_line = do
  m ← mark_form
  keyword (codes "produces")
  n ← name
  ps ← params
  sign (codes ":")
  t ← type_use
  sign (codes "=")
  b ← tree_body
  at_end
  pure (item.Produces m n ps t b)

-- a keyword and N : USE, of which an item is made
unfoldable pub use_line : Bytes → (Bytes → TypeUse → Item) → Reader Item
use_line w make = do
  keyword w
  n ← name
  sign (codes ":")
  t ← type_use
  at_end
  pure (make n t)

-- bindsOptionalOf N : USE
unfoldable pub optional_of_line : Reader Item
optional_of_line = use_line (codes "bindsOptionalOf") (λ n t. item.OptionalOf n t)

-- multibinds N : USE
unfoldable pub multibinds_line : Reader Item
multibinds_line = use_line (codes "multibinds") (λ n t. item.Multibinds n t)

-- bindsInstance N : USE
unfoldable pub binds_instance_line : Reader Item
binds_instance_line = use_line (codes "bindsInstance") (λ n t. item.BindsInstance n t)

-- entry N : USE
unfoldable pub entry_line : Reader Item
entry_line = use_line (codes "entry") (λ n t. item.Entry n t)

-- dependsOn N
unfoldable pub depends_on_line : Reader Item
depends_on_line = do
  keyword (codes "dependsOn")
  n ← name
  at_end
  pure (item.DependsOn n)

-- }
unfoldable pub end_line : Reader Item
end_line = do
  sign (codes "}")
  at_end
  pure item.End

-- ---- lines of the session

-- N = CONST
unfoldable pub open_arg : Reader OpenArg
open_arg = do
  n ← name
  sign (codes "=")
  v ← constant
  pure (record { name = n; value = v })

-- [with N = CONST, ..]
unfoldable pub open_args : Reader (List OpenArg)
open_args = do
  some ← eaten kind.Name (codes "with")
  if some then list_of open_arg list_limit else pure []

-- open N : N [in N] [with N = CONST, ..]
unfoldable pub open_line : Reader Item
open_line = do
  keyword (codes "open")
  n ← name
  sign (codes ":")
  c ← name
  parent ← optional kind.Name (codes "in") name
  args ← open_args
  at_end
  pure (item.OpenLine n c parent args)

-- link N to N
unfoldable pub link_line : Reader Item
link_line = do
  keyword (codes "link")
  from ← name
  keyword (codes "to")
  to ← name
  at_end
  pure (item.Link from to)

-- a text or an integer as the key of an entry of a map
unfoldable pub map_key_form : Reader MapKeyVal
map_key_form ls =
    if comes_kind kind.Text ls then (text >>= λ k. pure (map_key.Text k)) ls else (integer >>= λ i.
    pure (map_key.Int i)) ls

-- ["k"] | [i]
unfoldable pub at_key : Reader AskStep
at_key = do
  sign (codes "[")
  k ← map_key_form
  sign (codes "]")
  pure (step.At k)

-- .N | ! | ? | ["k"] | [i]
unfoldable pub ask_step : Reader AskStep
ask_step ls =
    if comes kind.Sign (codes ".") ls then (sign (codes ".") >> name >>= λ f. pure (step.Field f))
    ls
    else (if comes kind.Sign (codes "!") ls then (sign (codes "!") >> pure step.Get) ls
    else (if comes kind.Sign (codes "?") ls then (sign (codes "?") >> pure step.Inside) ls
    else at_key ls))

-- steps up to the end of the line, at most so many
unfoldable pub ask_steps : ℕ → Reader (List AskStep)
ask_steps n [] = Some ([], [])
ask_steps zero (l ∷ ls) = None
ask_steps (suc n) (l ∷ ls) = (ask_step >>= λ s. ask_steps n >>= λ ss. pure (s ∷ ss)) (l ∷ ls)

-- ask N.N and steps
unfoldable pub ask_line : Reader Item
ask_line = do
  keyword (codes "ask")
  i ← name
  sign (codes ".")
  e ← name
  steps ← ask_steps list_limit
  pure (item.AskLine i e steps)

-- ---- which form a line has

-- The word that tells the form of a line: the first name behind at-names and what stands in
-- parentheses. The first argument: a `(` came before, and its `)` not yet
abbrev pub form_word : Bool → List Lexeme → Bytes
form_word inside [] = []
form_word true (l ∷ ls) = form_word (not (is_spelled kind.Sign (codes ")") l)) ls
form_word false (l ∷ ls) =
    if is_of_kind kind.Name l then l.spelling
    else (if is_of_kind kind.AtName l then form_word false ls
    else (if is_spelled kind.Sign (codes "(") l then form_word true ls else []))

-- a line outside blocks with this word
unfoldable pub outside_line : Bytes → Reader Item
outside_line w ls =
    if bytes_eq w (codes "qualifier") then qualifier_line ls
    else (if bytes_eq w (codes "scope") then scope_line ls
    else (if bytes_eq w (codes "interface") then interface_line ls
    else (if bytes_eq w (codes "class") then class_line ls
    else (if bytes_eq w (codes "module") then (if comes kind.AtName (codes "@TestInstallIn") ls then
    test_module_line ls else module_line ls)
    else (if bytes_eq w (codes "component") then component_line ls
    else (if bytes_eq w (codes "defineComponent") then define_component_line ls
    else (if bytes_eq w (codes "entryPoint") then entry_point_line ls
    else (if bytes_eq w (codes "open") then open_line ls
    else (if bytes_eq w (codes "link") then link_line ls
    else (if bytes_eq w (codes "ask") then ask_line ls
    else end_line ls))))))))))

-- a line with this word
unfoldable pub line_with : Bytes → Reader Item
line_with w ls =
    if bytes_eq w (codes "provides") then provides_line ls
    else (if bytes_eq w (codes "binds") then binds_line ls
    else (if bytes_eq w (codes "produces") then produces_line ls
    else (if bytes_eq w (codes "bindsOptionalOf") then optional_of_line ls
    else (if bytes_eq w (codes "multibinds") then multibinds_line ls
    else (if bytes_eq w (codes "bindsInstance") then binds_instance_line ls
    else (if bytes_eq w (codes "dependsOn") then depends_on_line ls
    else (if bytes_eq w (codes "entry") then entry_line ls
    else outside_line w ls)))))))

-- the item of a line in one of the forms
unfoldable pub item_line : Reader Item
item_line ls = line_with (form_word false ls) ls

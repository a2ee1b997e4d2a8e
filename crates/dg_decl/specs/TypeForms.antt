-- The forms of types, their uses and parameters.
use Rattle.std.specs.Prelude.{ℕ, zero, suc, if◌then◌else◌, List, Option, Some, None, codes}
use Rattle.std.specs.Str.{bytes_eq}
use Rattle.dg_types.specs.declared.shape.Shape.{Shape}
use Rattle.dg_types.specs.declared.shape.Shape.TheVariants as shape
use Rattle.dg_types.specs.declared.shape.Qualifier.{Qualifier}
use Rattle.dg_types.specs.declared.shape.TypeUse.{TypeUse}
use Rattle.dg_decl.specs.declared.item.Param.{Param}
use Rattle.dg_lex.specs.declared.token.TokenKind.TheVariants as kind
use Rattle.dg_lex.specs.Bytes.{Bytes}
use Rattle.dg_decl.specs.Readers.{Reader, ◌>>=◌, ◌>>◌, pure, nothing, comes_kind, eaten, sign, name, at_name, text, enclosed, in_parentheses, comes}

-- how deep types nest at most: a name, Text and Int are 1 deep
abbrev pub type_depth_limit : ℕ
type_depth_limit = 4

-- the type of this name
abbrev pub shape_named : Bytes → Shape
shape_named n = if bytes_eq n (codes "Text") then shape.Text else (if bytes_eq n (codes "Int") then
    shape.Int else shape.Named n)

-- the type that this constructor makes of the types that stand behind its `<`
unfoldable pub constructed : Reader Shape → Bytes → Reader Shape
constructed inner n =
    if bytes_eq n (codes "Set") then (inner >>= λ t. pure (shape.Set t))
    else (if bytes_eq n (codes "Map") then (inner >>= λ k. sign (codes ",") >> inner >>= λ v. pure
    (shape.Map k v))
    else (if bytes_eq n (codes "Optional") then (inner >>= λ t. pure (shape.Optional t))
    else (if bytes_eq n (codes "Provider") then (inner >>= λ t. pure (shape.Provider t))
    else (if bytes_eq n (codes "Lazy") then (inner >>= λ t. pure (shape.Lazy t))
    else (if bytes_eq n (codes "Producer") then (inner >>= λ t. pure (shape.Producer t))
    else (if bytes_eq n (codes "Produced") then (inner >>= λ t. pure (shape.Produced t))
    else nothing))))))

-- a name alone, or a constructor with its types between `<` and `>`
unfoldable pub type_over : Reader Shape → Reader Shape
type_over inner = do
  n ← name
  parts ← eaten kind.Sign (codes "<")
  if parts then (constructed inner n >>= λ t. sign (codes ">") >> pure t) else pure (shape_named n)

-- TYPE, at most so deep
unfoldable pub type_within : ℕ → Reader Shape
type_within zero = nothing
type_within (suc depth) = type_over (type_within depth)

-- TYPE
unfoldable pub type_form : Reader Shape
type_form = type_within type_depth_limit

-- the text in parentheses of a qualifier with a member, where there is one
unfoldable pub member : Reader (Option Bytes)
member ls = if comes kind.Sign (codes "(") ls then (enclosed text >>= λ t. pure (Some t)) ls else
    Some (None, ls)

-- @N | @N("x")
unfoldable pub some_qualifier : Reader (Option Qualifier)
some_qualifier = do
  n ← at_name
  m ← member
  pure (Some (record { name = n; member = m }))

-- [@N | @N("x")]
unfoldable pub qualifier : Reader (Option Qualifier)
qualifier ls = if comes_kind kind.AtName ls then some_qualifier ls else Some (None, ls)

-- USE = [@N | @N("x")] TYPE
unfoldable pub type_use : Reader TypeUse
type_use = do
  q ← qualifier
  t ← type_form
  pure (record { qualifier = q; shape = t })

-- PARAM = N : USE
unfoldable pub param : Reader Param
param = do
  n ← name
  sign (codes ":")
  t ← type_use
  pure (record { name = n; shape = t })

-- PARAMS, in parentheses
unfoldable pub params : Reader (List Param)
params = in_parentheses param

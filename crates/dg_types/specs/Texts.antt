-- How types, keys and values are written.
use Rattle.std.specs.Prelude.{ℕ, ◌||◌, if◌then◌else◌, ◌==◌, [], ◌∷◌, ◌++◌, Option, Some, None, codes, ℤ}
use Rattle.std.specs.Fmt.{signed_decimal}
use Rattle.std.specs.List.{flat_map}
use Rattle.dg_types.specs.declared.key.Key.{Key}
use Rattle.dg_types.specs.declared.key.MapKeyVal.{MapKeyVal}
use Rattle.dg_types.specs.declared.key.MapKeyVal.TheVariants as map_key
use Rattle.dg_types.specs.declared.shape.Qualifier.{Qualifier}
use Rattle.dg_types.specs.declared.shape.Shape.{Shape, fold-Shape}
use Rattle.dg_types.specs.declared.shape.Shape.TheOpen.{Shape-F}
use Rattle.dg_types.specs.declared.shape.TypeUse.{TypeUse}
use Rattle.dg_types.specs.Bytes.{Bytes}
use Rattle.dg_types.specs.Requests.{use_of_key}

-- ---- values

-- a byte of a text, with `\` before `"` and `\`
abbrev pub escaped : ℕ → Bytes
escaped b = if b == 34 || b == 92 then 92 ∷ b ∷ [] else b ∷ []

-- a text in quotes, as it is written
unfoldable pub quoted : Bytes → Bytes
quoted z = 34 ∷ flat_map escaped z ++ 34 ∷ []

-- an integer in decimal, with `-` in front where it is negative
abbrev pub decimal_of : ℤ → Bytes
decimal_of n = signed_decimal n

-- the key of an entry of a map
unfoldable pub map_key_text : MapKeyVal → Bytes
map_key_text (map_key.Text z) = quoted z
map_key_text (map_key.Int n) = decimal_of n

-- ---- types and keys

-- a constructor's name and its argument
abbrev pub applied : Bytes → Bytes → Bytes
applied constructor argument = constructor ++ codes "<" ++ argument ++ codes ">"

-- a type, where the texts of its parts are known
abbrev pub shape_text_at : Shape-F Bytes → Bytes
shape_text_at Shape-F.Text = codes "Text"
shape_text_at Shape-F.Int = codes "Int"
shape_text_at (Shape-F.Named name) = name
shape_text_at (Shape-F.Set t) = applied (codes "Set") t
shape_text_at (Shape-F.Map k t) = applied (codes "Map") (k ++ codes "," ++ t)
shape_text_at (Shape-F.Optional t) = applied (codes "Optional") t
shape_text_at (Shape-F.Provider t) = applied (codes "Provider") t
shape_text_at (Shape-F.Lazy t) = applied (codes "Lazy") t
shape_text_at (Shape-F.Producer t) = applied (codes "Producer") t
shape_text_at (Shape-F.Produced t) = applied (codes "Produced") t

-- a type, without spaces
unfoldable pub shape_text : Shape → Bytes
shape_text = fold-Shape Bytes shape_text_at

abbrev pub member_text : Option Bytes → Bytes
member_text None = []
member_text (Some z) = codes "(" ++ quoted z ++ codes ")"

-- `@N` or `@N("x")`
unfoldable pub qualifier_text : Qualifier → Bytes
qualifier_text q = codes "@" ++ q.name ++ member_text q.member

-- a qualifier and the space behind it, if there is one
unfoldable pub qualified : Option Qualifier → Bytes
qualified None = []
qualified (Some q) = qualifier_text q ++ codes " "

-- a type with its qualifier
unfoldable pub use_text : TypeUse → Bytes
use_text u = qualified u.qualifier ++ shape_text u.shape

-- a key: its qualifier, a space, and its type
unfoldable pub key_text : Key → Bytes
key_text k = use_text (use_of_key k)

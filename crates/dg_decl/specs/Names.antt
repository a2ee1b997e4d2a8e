-- Which item declares which name, and what a name stands for.
use Rattle.std.specs.Prelude.{ℕ, Bool, true, false, if◌then◌else◌, List, [], ◌∷◌, Option, Some, None, codes, option_and_then, option_map, slice_get}
use Rattle.std.specs.Str.{bytes_eq}
use Rattle.std.specs.List.{find}
use Rattle.dg_lex.specs.Bytes.{Bytes, is_among}
use Rattle.dg_types.specs.declared.shape.TypeUse.{TypeUse}
use Rattle.dg_types.specs.declared.shape.Shape.TheVariants as shape
use Rattle.dg_hilt.specs.Table.{default_classes}
use Rattle.dg_hilt.specs.Names.{predefined_names}
use Rattle.dg_decl.specs.declared.document.Doc.{Doc}
use Rattle.dg_decl.specs.declared.item.Item.{Item}
use Rattle.dg_decl.specs.declared.item.Item.TheVariants as item
use Rattle.dg_decl.specs.declared.item.Param.{Param}
use Rattle.dg_decl.specs.Document.{Statement, statements}

-- the name that an item declares outside blocks
abbrev pub outer_name : Item → Option Bytes
outer_name (item.QualifierLine n member) = Some n
outer_name (item.ScopeLine n) = Some n
outer_name (item.Interface n) = Some n
outer_name (item.Class inject scope n params interfaces) = Some n
outer_name (item.Module install n includes) = Some n
outer_name (item.TestModule install n replaces includes) = Some n
outer_name (item.Component scopes n parent modules) = Some n
outer_name (item.DefineComponent scopes n parent) = Some n
outer_name (item.EntryPoint install n) = Some n
outer_name other = None

-- the name that an item declares in its block
abbrev pub member_name : Item → Option Bytes
member_name (item.Provides mark scope n params result body) = Some n
member_name (item.Binds mark scope n param result) = Some n
member_name (item.Produces mark n params result body) = Some n
member_name (item.OptionalOf n result) = Some n
member_name (item.Multibinds n result) = Some n
member_name (item.BindsInstance n result) = Some n
member_name (item.Entry n result) = Some n
member_name other = None

-- the name of this kind that an item has is this one
abbrev pub is_called : (Item → Option Bytes) → Bytes → Statement → Bool
is_called name_in n s = is_it (name_in s.item)
  where
    is_it : Option Bytes → Bool
    is_it None = false
    is_it (Some m) = bytes_eq m n

-- The first statement that declares a name outside blocks. A predefined name is declared by no
-- statement, and a name that is declared twice is its first declaration, whatever the kinds are.
unfoldable pub declared : Doc → Bytes → Option Statement
declared doc n =
    if is_among n predefined_names then None else find (is_called outer_name n) (statements doc)

-- the index of the item that declares a name, where it is of this kind
abbrev pub declared_as : (Item → Bool) → Doc → Bytes → Option ℕ
declared_as is_kind doc n = option_and_then index_of_kind (declared doc n)
  where
    index_of_kind : Statement → Option ℕ
    index_of_kind s = if is_kind s.item then Some s.index else None

abbrev pub is_module : Item → Bool
is_module (item.Module install n includes) = true
is_module (item.TestModule install n replaces includes) = true
is_module other = false

abbrev pub is_class : Item → Bool
is_class (item.Class inject scope n params interfaces) = true
is_class other = false

-- the module of this name, or the test module
unfoldable pub module_named : Doc → Bytes → Option ℕ
module_named doc n = declared_as is_module doc n

-- the `class` item of this name
unfoldable pub class_item_named : Doc → Bytes → Option ℕ
class_item_named doc n = declared_as is_class doc n

-- the item of this index
abbrev pub item_at : Doc → ℕ → Option Item
item_at doc i = slice_get doc.items i

-- the parameters of a class or of a module member
abbrev pub params_of : Item → List Param
params_of (item.Class inject scope n params interfaces) = params
params_of (item.Provides mark scope n params result body) = params
params_of (item.Binds mark scope n param result) = param ∷ []
params_of (item.Produces mark n params result body) = params
params_of other = []

-- what a member gives, declares or asks for
abbrev pub result_of : Item → Option TypeUse
result_of (item.Provides mark scope n params result body) = Some result
result_of (item.Binds mark scope n param result) = Some result
result_of (item.Produces mark n params result body) = Some result
result_of (item.OptionalOf n result) = Some result
result_of (item.Multibinds n result) = Some result
result_of (item.BindsInstance n result) = Some result
result_of (item.Entry n result) = Some result
result_of other = None

-- the one field of each of the classes whose objects Hilt binds by default: a text, its name
abbrev pub default_fields : List Param
default_fields =
    record { name = codes "name"; shape = record { qualifier = None; shape = shape.Text } } ∷ []

-- the fields of a class, one of Hilt's included
unfoldable pub fields_of : Doc → Bytes → Option (List Param)
fields_of doc n =
    if is_among n default_classes then Some default_fields
    else option_map params_of (option_and_then (item_at doc) (class_item_named doc n))

-- What the table says of one component.
use Rattle.std.specs.Prelude.{ℕ, Bool, false, List, [], ◌∷◌, Option, slice_get, find}
use Rattle.std.specs.Option.{option_map, option_map_or, option_and_then}
use Rattle.std.specs.List.{position_from}
use Rattle.std.specs.Str.{bytes_eq}
use Rattle.dg_hilt.specs.declared.class.HiltClass.{HiltClass}
use Rattle.dg_hilt.specs.declared.class.HiltClass.TheVariants.{SingletonComponent, ActivityRetainedComponent, ServiceComponent, ViewModelComponent, ActivityComponent, FragmentComponent, ViewComponent, ViewWithFragmentComponent}
use Rattle.dg_hilt.specs.declared.class.HiltDefault.{HiltDefault}
use Rattle.dg_hilt.specs.Bytes.{Bytes}
use Rattle.dg_hilt.specs.Table.{HiltRow, HiltDefaultRow, hilt_classes, default_classes}

-- the components in the order of the table
abbrev pub components : List HiltClass
components =
    SingletonComponent
    ∷ ActivityRetainedComponent
    ∷ ServiceComponent
    ∷ ViewModelComponent
    ∷ ActivityComponent
    ∷ FragmentComponent
    ∷ ViewComponent
    ∷ ViewWithFragmentComponent
    ∷ []

-- the index of a component in the table
abbrev pub number_of : HiltClass → ℕ
number_of SingletonComponent = 0
number_of ActivityRetainedComponent = 1
number_of ServiceComponent = 2
number_of ViewModelComponent = 3
number_of ActivityComponent = 4
number_of FragmentComponent = 5
number_of ViewComponent = 6
number_of ViewWithFragmentComponent = 7

-- the component at a number
abbrev pub component_at : ℕ → Option HiltClass
component_at n = slice_get components n

-- the row of a component
abbrev pub row_of : HiltClass → Option HiltRow
row_of c = slice_get hilt_classes (number_of c)

-- a row has this name
abbrev pub has_name : Bytes → Option HiltRow → Bool
has_name name row = option_map_or (λ r. bytes_eq name r.class) row false

-- the component of this name
abbrev pub class_named : Bytes → Option HiltClass
class_named name = find (λ c. has_name name (row_of c)) components

-- the name of a component
abbrev pub name_of : HiltClass → Option Bytes
name_of c = option_map (λ r. r.class) (row_of c)

-- the component in whose instances those of a component are opened
abbrev pub parent_of : HiltClass → Option HiltClass
parent_of c = option_and_then component_at (option_and_then (λ r. r.parent) (row_of c))

-- the scope of a component
abbrev pub scope_of : HiltClass → Option Bytes
scope_of c = option_map (λ r. r.scope) (row_of c)

-- the value that the instances of a component have bound
abbrev pub default_of : HiltClass → Option HiltDefaultRow
default_of c = option_and_then (λ r. r.default) (row_of c)

-- what a row says of a value that the program gives
abbrev pub row_of_default : HiltDefault → HiltDefaultRow
row_of_default d = record { arg = d.arg.now; class = d.class.now }

-- the index of a name among the classes of the values that components have bound
abbrev pub default_class_named : Bytes → Option ℕ
default_class_named name = position_from (bytes_eq name) 0 default_classes

-- What makes the table a tree of components that are told apart by their names.
use Rattle.std.specs.Prelude.{◌≡◌, ◌<◌, Some, IfSome}
use Rattle.std.specs.Option.{option_and_then}
use Rattle.dg_hilt.specs.declared.class.HiltClass.{HiltClass}
use Rattle.dg_hilt.specs.Classes.{number_of, component_at, class_named, name_of, parent_of}

-- the number of a component's parent is below its own
abbrev pub ParentComesFirst : HiltClass → Type 0
ParentComesFirst c = IfSome (parent_of c) (λ p. number_of p < number_of c)

-- the component that has this one's name is this one
abbrev pub IsFoundByName : HiltClass → Type 0
IsFoundByName c = option_and_then class_named (name_of c) ≡ Some c

-- the component at this one's number is this one
abbrev pub IsFoundByNumber : HiltClass → Type 0
IsFoundByNumber c = component_at (number_of c) ≡ Some c

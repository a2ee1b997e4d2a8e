-- In which block an item may stand.
use Rattle.std.specs.Prelude.{Bool, true, false, not, ◌||◌, if◌then◌else◌, List, fold, Option, Some, None}
use Rattle.dg_decl.specs.declared.item.Item.{Item}
use Rattle.dg_decl.specs.declared.item.Item.TheVariants as item
use Rattle.dg_decl.specs.Document.{is_header, is_end}

-- the header of the block that is open behind an item, where this one was open before it
abbrev pub header_behind : Option Item → Item → Option Item
header_behind header x = if is_header x then Some x else (if is_end x then None else header)

-- the header of the block that is open behind these items
unfoldable pub open_block : List Item → Option Item
open_block items = fold header_behind None items

abbrev pub is_outside : Option Item → Bool
is_outside None = true
is_outside (Some header) = false

-- the block of a module; a test module is one
abbrev pub is_in_module : Option Item → Bool
is_in_module (Some (item.Module install n includes)) = true
is_in_module (Some (item.TestModule install n replaces includes)) = true
is_in_module other = false

-- the block of a `component` line
abbrev pub is_in_component : Option Item → Bool
is_in_component (Some (item.Component scopes n parent modules)) = true
is_in_component other = false

-- the block of a `defineComponent` line
abbrev pub is_in_defined : Option Item → Bool
is_in_defined (Some (item.DefineComponent scopes n parent)) = true
is_in_defined other = false

abbrev pub is_in_entry_point : Option Item → Bool
is_in_entry_point (Some (item.EntryPoint install n)) = true
is_in_entry_point other = false

-- an item may stand where the block of this header is open, or none
abbrev pub may_stand : Option Item → Item → Bool
may_stand header (item.Provides m s n ps t e) = is_in_module header
may_stand header (item.Binds m s n p t) = is_in_module header
may_stand header (item.Produces m n ps t b) = is_in_module header
may_stand header (item.OptionalOf n t) = is_in_module header
may_stand header (item.Multibinds n t) = is_in_module header
may_stand header (item.BindsInstance n t) = is_in_component header || is_in_defined header
may_stand header (item.DependsOn n) = is_in_component header
may_stand header (item.Entry n t) = is_in_component header || is_in_entry_point header
may_stand header item.End = not (is_outside header)
may_stand header other = is_outside header

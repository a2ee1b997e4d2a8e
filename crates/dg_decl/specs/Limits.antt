-- How many items of each kind a document may have.
use Rattle.std.specs.Prelude.{ℕ, Bool, true, false, not, ◌&&◌, ◌||◌, nat_lt, List}
use Rattle.std.specs.List.{count_by}
use Rattle.dg_decl.specs.declared.item.Item.{Item}
use Rattle.dg_decl.specs.declared.item.Item.TheVariants as item

-- the most declarations
abbrev pub declaration_limit : ℕ
declaration_limit = 8192

-- the most `component` and `defineComponent` lines, together
abbrev pub component_limit : ℕ
component_limit = 120

abbrev pub open_limit : ℕ
open_limit = 256

abbrev pub link_limit : ℕ
link_limit = 1024

abbrev pub ask_limit : ℕ
ask_limit = 20000

-- all items but `}`, `open`, `link` and `ask`
abbrev pub is_declaration_line : Item → Bool
is_declaration_line item.End = false
is_declaration_line (item.OpenLine n c parent args) = false
is_declaration_line (item.Link a b) = false
is_declaration_line (item.AskLine i e steps) = false
is_declaration_line other = true

-- a `component` or `defineComponent` line
abbrev pub is_component_line : Item → Bool
is_component_line (item.Component scopes n parent modules) = true
is_component_line (item.DefineComponent scopes n parent) = true
is_component_line other = false

abbrev pub is_open_line : Item → Bool
is_open_line (item.OpenLine n c parent args) = true
is_open_line other = false

abbrev pub is_link_line : Item → Bool
is_link_line (item.Link a b) = true
is_link_line other = false

abbrev pub is_ask_line : Item → Bool
is_ask_line (item.AskLine i e steps) = true
is_ask_line other = false

-- an item of this kind has fewer than so many of its kind before it
abbrev pub has_room : (Item → Bool) → ℕ → Item → List Item → Bool
has_room kind limit x earlier = not (kind x) || nat_lt (count_by kind earlier) limit

-- an item is not one too many of its kinds
abbrev pub is_within_limits : Item → List Item → Bool
is_within_limits x earlier =
    has_room is_declaration_line declaration_limit x earlier && has_room is_component_line
    component_limit x earlier
    && has_room is_open_line open_limit x earlier && has_room is_link_line link_limit x earlier
    && has_room is_ask_line ask_limit x earlier

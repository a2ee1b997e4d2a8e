-- The interfaces that classes list, in a table.
use Rattle.std.specs.Prelude.{◌≡◌, ℕ, Bool, ◌==◌, ◌&&◌, ◌||◌, List, []}
use Rattle.std.specs.List.{list_any, slice_get}
use Rattle.std.specs.Option.{option_map_or}
use Rattle.std.specs.Str.{bytes_eq}
use Rattle.dg_lex.specs.Bytes.{Bytes, is_among}
use Rattle.dg_decl.specs.declared.item.Item.{Item}
use Rattle.dg_decl.specs.Typing.{interfaces_in}
use Rattle.dg_typing.specs.declared.types_stage.type_names.Listing.{Listing}

-- the table has this interface of the class item of this index
abbrev pub has_listing : List Listing → ℕ → Bytes → Bool
has_listing listed class interface =
    list_any (λ l. class == l.class && bytes_eq interface l.interface.now) listed

-- the table has what it had and these interfaces of the class item of this index
abbrev pub AddsListings : ℕ → List Bytes → List Listing → List Listing → Type 0
AddsListings index interfaces old new =
    (class : ℕ) (interface : Bytes) → has_listing new class interface
    ≡ (has_listing old class interface || (class == index && is_among interface interfaces))

-- the interfaces that the item of this index lists
abbrev pub listed_at : List Item → ℕ → List Bytes
listed_at items class = option_map_or interfaces_in (slice_get items class) []

-- the table has the interfaces that these items list
pub record HasListings (items : List Item) (listed : List Listing) : Type 0 where
  pub each : (class : ℕ) (interface : Bytes)
      → has_listing listed class interface ≡ is_among interface (listed_at items class)

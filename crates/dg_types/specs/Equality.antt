-- Equality of types, keys and requests, as tests. Each is true exactly where the two are equal.
use Rattle.std.specs.Prelude.{Bool, true, false, ◌&&◌, Option, Some, None}
use Rattle.std.specs.Str.{bytes_eq}
use Rattle.dg_types.specs.contracts.key.BasePartialEq.TheImpl as of_bases
use Rattle.dg_types.specs.contracts.key.CorePartialEq.TheImpl as of_cores
use Rattle.dg_types.specs.contracts.key.KeyPartialEq.TheImpl as of_keys
use Rattle.dg_types.specs.contracts.key.MapKeyValPartialEq.TheImpl as of_map_keys
use Rattle.dg_types.specs.contracts.key.RequestPartialEq.TheImpl as of_requests
use Rattle.dg_types.specs.contracts.shape.QualifierPartialEq.TheImpl as of_qualifiers
use Rattle.dg_types.specs.declared.key.Base.{Base}
use Rattle.dg_types.specs.declared.key.Core.{Core}
use Rattle.dg_types.specs.declared.key.Key.{Key}
use Rattle.dg_types.specs.declared.key.MapKeyVal.{MapKeyVal}
use Rattle.dg_types.specs.declared.key.Request.{Request}
use Rattle.dg_types.specs.declared.shape.Qualifier.{Qualifier}
use Rattle.dg_types.specs.declared.shape.Shape.{Shape, out-Shape, fold-Shape}
use Rattle.dg_types.specs.declared.shape.Shape.TheOpen.{Shape-F}
use Rattle.dg_types.specs.declared.shape.TypeUse.{TypeUse}
use Rattle.dg_types.specs.Requests.{Layer}

-- two base types are equal
unfoldable pub same_base : Base → Base → Bool
same_base = of_bases.ghosts.eq

-- two core types are equal
unfoldable pub same_core : Core → Core → Bool
same_core = of_cores.ghosts.eq

-- two qualifiers have one name, and one member or none
unfoldable pub same_qualifier : Qualifier → Qualifier → Bool
same_qualifier = of_qualifiers.ghosts.eq

-- two keys have one core type, and one qualifier or none
unfoldable pub same_key : Key → Key → Bool
same_key = of_keys.ghosts.eq

-- two requests ask for one key in one form
unfoldable pub same_request : Request → Request → Bool
same_request = of_requests.ghosts.eq

-- two keys of entries of maps are equal
unfoldable pub same_map_key : MapKeyVal → MapKeyVal → Bool
same_map_key = of_map_keys.ghosts.eq

-- two types, where each part of the one knows which types it equals
abbrev pub same_shape_at : Shape-F (Shape → Bool) → Layer → Bool
same_shape_at Shape-F.Text Shape-F.Text = true
same_shape_at Shape-F.Int Shape-F.Int = true
same_shape_at (Shape-F.Named a) (Shape-F.Named b) = bytes_eq a b
same_shape_at (Shape-F.Set is) (Shape-F.Set t) = is t
same_shape_at (Shape-F.Map is_key is) (Shape-F.Map k t) = is_key k && is t
same_shape_at (Shape-F.Optional is) (Shape-F.Optional t) = is t
same_shape_at (Shape-F.Provider is) (Shape-F.Provider t) = is t
same_shape_at (Shape-F.Lazy is) (Shape-F.Lazy t) = is t
same_shape_at (Shape-F.Producer is) (Shape-F.Producer t) = is t
same_shape_at (Shape-F.Produced is) (Shape-F.Produced t) = is t
same_shape_at _ _ = false

-- two types are equal
unfoldable pub same_shape : Shape → Shape → Bool
same_shape = fold-Shape (Shape → Bool) (λ l s. same_shape_at l (out-Shape s))

abbrev pub same_qualifiers : Option Qualifier → Option Qualifier → Bool
same_qualifiers None None = true
same_qualifiers (Some a) (Some b) = same_qualifier a b
same_qualifiers _ _ = false

-- two types with their qualifiers are equal
unfoldable pub same_use : TypeUse → TypeUse → Bool
same_use a b = same_qualifiers a.qualifier b.qualifier && same_shape a.shape b.shape

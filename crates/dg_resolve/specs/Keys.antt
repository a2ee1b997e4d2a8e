-- The key of a core type, by the request that the type makes; and the keys behind keys.
use Rattle.std.specs.Prelude.{Bool, true, false, ◌&&◌, if◌then◌else◌, Option, Some, None}
use Rattle.std.specs.Option.{option_and_then}
use Rattle.dg_types.specs.declared.key.Core.{Core}
use Rattle.dg_types.specs.declared.key.Core.TheVariants as core
use Rattle.dg_types.specs.declared.key.Inner.TheVariants as inner
use Rattle.dg_types.specs.declared.key.Key.{Key}
use Rattle.dg_types.specs.declared.key.Mode.{Mode}
use Rattle.dg_types.specs.declared.key.Mode.TheVariants as mode
use Rattle.dg_types.specs.declared.key.Request.{Request}

-- a set or map of outcomes is asked for as it stands, and is no core type
abbrev pub is_bindable : Core → Bool
is_bindable (core.Set b inner.Produced) = false
is_bindable (core.Map k b inner.Produced) = false
is_bindable other = true

abbrev pub is_instance : Mode → Bool
is_instance mode.Instance = true
is_instance other = false

-- a request for an instance of a core type
abbrev pub asks_plainly : Request → Bool
asks_plainly r = is_instance r.mode && is_bindable r.key.core

-- the key of such a request
abbrev pub key_asked : Option Request → Option Key
key_asked r = option_and_then (λ q. if asks_plainly q then Some q.key else None) r

-- ---- where sets, maps and optionals stand

abbrev pub is_optional : Core → Bool
is_optional (core.Optional b i) = true
is_optional other = false

abbrev pub opening_core : Core → Core
opening_core (core.One b) = core.One b
opening_core (core.Set b i) = core.Set b inner.Plain
opening_core (core.Map k b i) = core.Map k b inner.Plain
opening_core (core.Optional b i) = core.One b

-- the key under which the contributions to a set or map and its declarations stand, and the
-- declarations of an optional
abbrev pub opening_key : Key → Key
opening_key k = record { qualifier = k.qualifier; core = opening_core k.core }

-- The key of a core type, by the request that the type makes.
use Rattle.std.specs.Prelude.{Bool, true, false, ℕ, ◌&&◌, if◌then◌else◌, Option, Some, None}
use Rattle.std.specs.Option.{option_map, option_and_then}
use Rattle.dg_types.specs.declared.key.Core.{Core}
use Rattle.dg_types.specs.declared.key.Core.TheVariants as core
use Rattle.dg_types.specs.declared.key.Inner.TheVariants as inner
use Rattle.dg_types.specs.declared.key.Key.{Key}
use Rattle.dg_types.specs.declared.key.Mode.{Mode}
use Rattle.dg_types.specs.declared.key.Mode.TheVariants as mode
use Rattle.dg_types.specs.declared.key.Request.{Request}
use Rattle.dg_types.specs.declared.shape.TypeUse.{TypeUse}
use Rattle.dg_decl.specs.declared.item.Mark.{Mark}
use Rattle.dg_decl.specs.declared.binding.Bind.{Bind}
use Rattle.dg_decl.specs.declared.binding.BindKind.{BindKind}
use Rattle.dg_decl.specs.declared.binding.BindKind.TheVariants as kind
use Rattle.dg_decl.specs.Lookup.{key_of_role}

-- a set or map of outcomes is asked for as it stands, and is no core type
abbrev pub is_bindable : Core → Bool
is_bindable (core.Set b inner.Produced) = false
is_bindable (core.Map k b inner.Produced) = false
is_bindable other = true

abbrev pub is_instance : Mode → Bool
is_instance mode.Instance = true
is_instance other = false

-- a request for an instance of a core type
abbrev pub asks_plainly : Request → Bool
asks_plainly r = is_instance r.mode && is_bindable r.key.core

-- the key of such a request
abbrev pub key_asked : Option Request → Option Key
key_asked r = option_and_then (λ q. if asks_plainly q then Some q.key else None) r

-- the key that a member of this mark and result binds, adds to or declares
abbrev pub marked_key : Option Mark → TypeUse → Option Key
marked_key m t = key_of_role (record { mark = m; kind = kind.Explicit; result = t })

-- the binding of this kind of a member of a module, by their indices
abbrev pub bind : ℕ → ℕ → BindKind → Option Key → Option Bind
bind i m does k = option_map (λ x. record { item = i; «module» = m; key = x; kind = does }) k

-- A type is a core type exactly where it asks for an instance of one.
use Rattle.std.proofs.Common.{◌≡◌, refl, sym, ap, ◌∙◌}
use Rattle.std.specs.Prelude.{Option, false, Some, None, if◌then◌else◌}
use Rattle.std.specs.Option.{option_map, option_and_then}
use Rattle.dg_types.specs.declared.key.Base.{Base}
use Rattle.dg_types.specs.declared.key.Base.TheVariants as base
use Rattle.dg_types.specs.declared.key.Inner.TheVariants as inner
use Rattle.dg_types.specs.declared.key.Mode.{Mode}
use Rattle.dg_types.specs.declared.key.Mode.TheVariants as mode
use Rattle.dg_types.specs.declared.key.MapKind.{MapKind}
use Rattle.dg_types.specs.declared.key.Core.{Core}
use Rattle.dg_types.specs.declared.key.Core.TheVariants as core
use Rattle.dg_types.specs.declared.key.Key.{Key}
use Rattle.dg_types.specs.declared.shape.Qualifier.{Qualifier}
use Rattle.dg_types.specs.declared.shape.TypeUse.{TypeUse}
use Rattle.dg_types.specs.declared.shape.Shape.{Shape, out-Shape}
use Rattle.dg_types.specs.declared.shape.Shape.TheOpen.{Shape-F}
use Rattle.dg_types.specs.Requests.{Layer, Held, Asked, base_of, kind_of, value_of, value_at, held_as, inside_of, produced_of, plain_of, plain_at, producing_of, producing_at, asked_of, request_of, core_of, core_at, set_of, map_of, optional_of, one_of, asked_as, deferred_of, deferred_at, first_of_two}
use Rattle.dg_decl.specs.Lookup.{key_of_use}
use Rattle.dg_binds.specs.Keys.{key_asked, is_instance, is_bindable}

-- the key that is kept of what a type asks for
abbrev kept : Option Qualifier → Option Asked → Option Key
kept q a = key_asked (option_map (λ (x : Asked). record { mode = x.0; key = record { qualifier = q; core = x.1 } }) a)

abbrev made : Option Qualifier → Option Core → Option Key
made q c = option_map (λ (x : Core). record { qualifier = q; core = x }) c

-- a set is one by its plain request, where it has any
set_kept : (q : Option Qualifier) (b p : Option Base)
    → made q (set_of inner.Plain b) ≡ kept q (first_of_two (asked_as mode.Instance (set_of inner.Plain b)) (asked_as mode.Instance (set_of inner.Produced p)))
set_kept q (Some b) p = refl
set_kept q None (Some p) = refl
set_kept q None None = refl

-- a map with such values is one by its plain request
map_kept : (q : Option Qualifier) (k : Option MapKind) (b p : Option Base)
    → made q (map_of k (held_as inner.Plain b)) ≡ kept q (first_of_two (asked_as mode.Instance (map_of k (held_as inner.Plain b))) (asked_as mode.Instance (map_of k (held_as inner.Produced p))))
map_kept q None b p = refl
map_kept q (Some k) (Some b) p = refl
map_kept q (Some k) None (Some p) = refl
map_kept q (Some k) None None = refl

-- the same with values that are Providers
providers_kept : (q : Option Qualifier) (k : Option MapKind) (b p : Option Base)
    → made q (map_of k (held_as inner.Provider b)) ≡ kept q (first_of_two (asked_as mode.Instance (map_of k (held_as inner.Provider b))) (asked_as mode.Instance (map_of k (held_as inner.Produced p))))
providers_kept q None b p = refl
providers_kept q (Some k) (Some b) p = refl
providers_kept q (Some k) None (Some p) = refl
providers_kept q (Some k) None None = refl

values_kept : (q : Option Qualifier) (k : Option MapKind) (l : Layer) (p : Option Base)
    → made q (map_of k (value_at l)) ≡ kept q (first_of_two (asked_as mode.Instance (map_of k (value_at l))) (asked_as mode.Instance (map_of k (held_as inner.Produced p))))
values_kept q k (Shape-F.Provider t) p = providers_kept q k (base_of t) p
values_kept q k Shape-F.Text p = map_kept q k (Some base.Text) p
values_kept q k Shape-F.Int p = map_kept q k (Some base.Int) p
values_kept q k (Shape-F.Named n) p = map_kept q k (Some (base.Named n)) p
values_kept q k (Shape-F.Set t) p = map_kept q k None p
values_kept q k (Shape-F.Map t u) p = map_kept q k None p
values_kept q k (Shape-F.Optional t) p = map_kept q k None p
values_kept q k (Shape-F.Lazy t) p = map_kept q k None p
values_kept q k (Shape-F.Producer t) p = map_kept q k None p
values_kept q k (Shape-F.Produced t) p = map_kept q k None p

optional_kept : (q : Option Qualifier) (h : Option Held)
    → made q (optional_of h) ≡ kept q (first_of_two (asked_as mode.Instance (optional_of h)) None)
optional_kept q (Some h) = refl
optional_kept q None = refl

-- a way to a value is asked for, and nothing is kept of it
way_kept : (q : Option Qualifier) (m : Mode) → is_instance m ≡ false → (c : Option Core)
    → None ≡ kept q (first_of_two (asked_as m c) None)
way_kept q m e None = refl
way_kept q m e (Some c) = rw e refl

way_of_base : (q : Option Qualifier) (m : Mode) → is_instance m ≡ false → (b : Option Base)
    → None ≡ kept q (asked_as m (one_of b))
way_of_base q m e None = refl
way_of_base q m e (Some b) = rw e refl

deferred_kept : (q : Option Qualifier) (l : Layer) → None ≡ kept q (first_of_two (deferred_at l) None)
deferred_kept q (Shape-F.Lazy t) = way_kept q mode.ProviderLazy refl (core_of t)
deferred_kept q Shape-F.Text = refl
deferred_kept q Shape-F.Int = refl
deferred_kept q (Shape-F.Named n) = refl
deferred_kept q (Shape-F.Set t) = way_kept q mode.Provider refl (set_of inner.Plain (base_of t))
deferred_kept q (Shape-F.Map t u) = way_kept q mode.Provider refl (map_of (kind_of t) (value_of u))
deferred_kept q (Shape-F.Optional t) = way_kept q mode.Provider refl (optional_of (inside_of t))
deferred_kept q (Shape-F.Provider t) = refl
deferred_kept q (Shape-F.Producer t) = refl
deferred_kept q (Shape-F.Produced t) = refl

layer_kept : (q : Option Qualifier) (l : Layer)
    → made q (core_at l) ≡ kept q (first_of_two (plain_at l) (producing_at l))
unfolding producing_of core_of value_of
layer_kept q Shape-F.Text = refl
layer_kept q Shape-F.Int = refl
layer_kept q (Shape-F.Named n) = refl
layer_kept q (Shape-F.Set t) = set_kept q (base_of t) (produced_of t)
layer_kept q (Shape-F.Map t u) = values_kept q (kind_of t) (out-Shape u) (produced_of u)
layer_kept q (Shape-F.Optional t) = optional_kept q (inside_of t)
layer_kept q (Shape-F.Provider t) = deferred_kept q (out-Shape t)
layer_kept q (Shape-F.Lazy t) = way_kept q mode.Lazy refl (core_of t)
layer_kept q (Shape-F.Producer t) = way_of_base q mode.Producer refl (base_of t)
layer_kept q (Shape-F.Produced t) = way_of_base q mode.Produced refl (base_of t)

pub key_by_request : (u : TypeUse) → key_of_use u ≡ key_asked (request_of u)
unfolding request_of asked_of plain_of producing_of core_of
key_by_request u = layer_kept u.qualifier (out-Shape u.shape)

-- Which types have their place in requests, and what a type asks for where a parameter or an entry
-- has it. B is `Text`, `Int`, a class or an interface; K is `Text` or `Int`; C is a core type.
use Rattle.std.specs.Prelude.{Bool, Option, Some, None, is_some}
use Rattle.std.specs.Option.{option_map}
use Rattle.dg_types.specs.declared.key.Base.{Base}
use Rattle.dg_types.specs.declared.key.Base.TheVariants as base
use Rattle.dg_types.specs.declared.key.MapKind.{MapKind}
use Rattle.dg_types.specs.declared.key.MapKind.TheVariants as kind
use Rattle.dg_types.specs.declared.key.Inner.{Inner}
use Rattle.dg_types.specs.declared.key.Inner.TheVariants as inner
use Rattle.dg_types.specs.declared.key.Core.{Core}
use Rattle.dg_types.specs.declared.key.Core.TheVariants as core
use Rattle.dg_types.specs.declared.key.Mode.{Mode}
use Rattle.dg_types.specs.declared.key.Mode.TheVariants as mode
use Rattle.dg_types.specs.declared.key.Key.{Key}
use Rattle.dg_types.specs.declared.key.Request.{Request}
use Rattle.dg_types.specs.declared.shape.Shape.{Shape, out-Shape}
use Rattle.dg_types.specs.declared.shape.Shape.TheOpen.{Shape-F}
use Rattle.dg_types.specs.declared.shape.Shape.TheVariants as shape
use Rattle.dg_types.specs.declared.shape.TypeUse.{TypeUse}

-- a type as its outermost constructor with its parts
abbrev pub Layer : Type 0
Layer = Shape-F Shape

-- ---- core types

abbrev pub base_at : Layer → Option Base
base_at Shape-F.Text = Some base.Text
base_at Shape-F.Int = Some base.Int
base_at (Shape-F.Named name) = Some (base.Named name)
base_at _ = None

-- B
unfoldable pub base_of : Shape → Option Base
base_of s = base_at (out-Shape s)

abbrev pub kind_at : Layer → Option MapKind
kind_at Shape-F.Text = Some kind.Text
kind_at Shape-F.Int = Some kind.Int
kind_at _ = None

-- K
unfoldable pub kind_of : Shape → Option MapKind
kind_of s = kind_at (out-Shape s)

-- what a set or a map holds or an optional has inside: a base type, and its form
abbrev pub Held : Type 0
Held = Base × Inner

-- a base type in this form
abbrev pub held_as : Inner → Option Base → Option Held
held_as form b = option_map (λ x. (x, form)) b

abbrev pub value_at : Layer → Option Held
value_at (Shape-F.Provider t) = held_as inner.Provider (base_of t)
value_at l = held_as inner.Plain (base_at l)

-- B or `Provider<B>`, what a map gives
unfoldable pub value_of : Shape → Option Held
value_of s = value_at (out-Shape s)

abbrev pub provided_at : Layer → Option Held
provided_at (Shape-F.Lazy t) = held_as inner.ProviderLazy (base_of t)
provided_at l = held_as inner.Provider (base_at l)

-- what a type inside `Provider` is inside an optional
abbrev pub provided_in : Shape → Option Held
provided_in s = provided_at (out-Shape s)

abbrev pub inside_at : Layer → Option Held
inside_at (Shape-F.Provider t) = provided_in t
inside_at (Shape-F.Lazy t) = held_as inner.Lazy (base_of t)
inside_at l = held_as inner.Plain (base_at l)

-- B, `Provider<B>`, `Lazy<B>` or `Provider<Lazy<B>>`, what an optional has inside
unfoldable pub inside_of : Shape → Option Held
inside_of s = inside_at (out-Shape s)

abbrev pub one_of : Option Base → Option Core
one_of b = option_map core.One b

abbrev pub set_of : Inner → Option Base → Option Core
set_of form b = option_map (λ x. core.Set x form) b

abbrev pub optional_of : Option Held → Option Core
optional_of held = option_map (λ h. core.Optional h.0 h.1) held

-- a map of these keys and values, where both are types that a map may have
abbrev pub map_of : Option MapKind → Option Held → Option Core
map_of None held = None
map_of (Some k) held = option_map (λ h. core.Map k h.0 h.1) held

abbrev pub core_at : Layer → Option Core
core_at (Shape-F.Set t) = set_of inner.Plain (base_of t)
core_at (Shape-F.Map k t) = map_of (kind_of k) (value_of t)
core_at (Shape-F.Optional t) = optional_of (inside_of t)
core_at l = one_of (base_at l)

-- C: B, `Set<B>`, `Map<K,B>`, `Map<K,Provider<B>>`, or `Optional` of B, `Provider<B>`, `Lazy<B>` or
-- `Provider<Lazy<B>>`
unfoldable pub core_of : Shape → Option Core
core_of s = core_at (out-Shape s)

-- ---- types of parameters and entries

-- a form of asking, and the core type that is asked for
abbrev pub Asked : Type 0
Asked = Mode × Core

-- a core type asked for in this form
abbrev pub asked_as : Mode → Option Core → Option Asked
asked_as how c = option_map (λ x. (how, x)) c

abbrev pub deferred_at : Layer → Option Asked
deferred_at (Shape-F.Lazy t) = asked_as mode.ProviderLazy (core_of t)
deferred_at l = asked_as mode.Provider (core_at l)

-- what a type inside `Provider` asks for
abbrev pub deferred_of : Shape → Option Asked
deferred_of s = deferred_at (out-Shape s)

abbrev pub plain_at : Layer → Option Asked
plain_at (Shape-F.Provider t) = deferred_of t
plain_at (Shape-F.Lazy t) = asked_as mode.Lazy (core_of t)
plain_at l = asked_as mode.Instance (core_at l)

-- C, `Provider<C>`, `Lazy<C>` or `Provider<Lazy<C>>`
unfoldable pub plain_of : Shape → Option Asked
plain_of s = plain_at (out-Shape s)

abbrev pub produced_at : Layer → Option Base
produced_at (Shape-F.Produced t) = base_of t
produced_at _ = None

-- the B of `Produced<B>`
unfoldable pub produced_of : Shape → Option Base
produced_of s = produced_at (out-Shape s)

abbrev pub producing_at : Layer → Option Asked
producing_at (Shape-F.Set t) = asked_as mode.Instance (set_of inner.Produced (produced_of t))
producing_at (Shape-F.Map k t) = asked_as mode.Instance (map_of (kind_of k) (held_as inner.Produced
    (produced_of t)))
producing_at (Shape-F.Produced t) = asked_as mode.Produced (one_of (base_of t))
producing_at (Shape-F.Producer t) = asked_as mode.Producer (one_of (base_of t))
producing_at _ = None

-- `Set<Produced<B>>`, `Map<K,Produced<B>>`, `Produced<B>` or `Producer<B>`
unfoldable pub producing_of : Shape → Option Asked
producing_of s = producing_at (out-Shape s)

-- the first of two answers that there is
abbrev pub first_of_two : Option Asked → Option Asked → Option Asked
first_of_two (Some a) other = Some a
first_of_two None other = other

-- what a type asks for
unfoldable pub asked_of : Shape → Option Asked
asked_of s = first_of_two (plain_of s) (producing_of s)

-- a type that a parameter of a class or of `provides` or an entry may have
unfoldable pub is_plain_use : TypeUse → Bool
is_plain_use u = is_some (plain_of u.shape)

-- a type that a parameter of `produces` may have
unfoldable pub is_use : TypeUse → Bool
is_use u = is_some (asked_of u.shape)

-- What a parameter or an entry of this type asks for: the key has its qualifier and its core type.
unfoldable pub request_of : TypeUse → Option Request
request_of u = option_map (λ a. record {
  mode = a.0;
  key = record {
    qualifier = u.qualifier;
    core =
        a.1;
  };
}) (asked_of u.shape)

-- ---- the type that a request is written as

abbrev pub shape_of_base : Base → Shape
shape_of_base base.Text = shape.Text
shape_of_base base.Int = shape.Int
shape_of_base (base.Named name) = shape.Named name

abbrev pub shape_of_kind : MapKind → Shape
shape_of_kind kind.Text = shape.Text
shape_of_kind kind.Int = shape.Int

abbrev pub shape_in : Inner → Shape → Shape
shape_in inner.Plain s = s
shape_in inner.Provider s = shape.Provider s
shape_in inner.Lazy s = shape.Lazy s
shape_in inner.ProviderLazy s = shape.Provider (shape.Lazy s)
shape_in inner.Produced s = shape.Produced s

-- the type that a core type is written as
unfoldable pub shape_of_core : Core → Shape
shape_of_core (core.One b) = shape_of_base b
shape_of_core (core.Set b i) = shape.Set (shape_in i (shape_of_base b))
shape_of_core (core.Map k b i) = shape.Map (shape_of_kind k) (shape_in i (shape_of_base b))
shape_of_core (core.Optional b i) = shape.Optional (shape_in i (shape_of_base b))

abbrev pub shape_asked : Mode → Shape → Shape
shape_asked mode.Instance s = s
shape_asked mode.Provider s = shape.Provider s
shape_asked mode.Lazy s = shape.Lazy s
shape_asked mode.ProviderLazy s = shape.Provider (shape.Lazy s)
shape_asked mode.Produced s = shape.Produced s
shape_asked mode.Producer s = shape.Producer s

-- the type of a parameter that makes this request
unfoldable pub use_of : Request → TypeUse
use_of r = record {
  qualifier = r.key.qualifier;
  shape = shape_asked r.mode (shape_of_core
      r.key.core);
}

-- the type that a key is written as
unfoldable pub use_of_key : Key → TypeUse
use_of_key k = record { qualifier = k.qualifier; shape = shape_of_core k.core }

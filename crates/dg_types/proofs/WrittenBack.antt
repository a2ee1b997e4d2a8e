-- A request is written as the type that it is the request of.
use Rattle.std.proofs.Common.{◌≡◌, Option, Some, None, IfSome, refl, ap, sym, subst, ◌∙◌}
use Rattle.std.specs.Option.{option_map}
use Rattle.dg_types.specs.declared.key.Base.{Base}
use Rattle.dg_types.specs.declared.key.Core.{Core}
use Rattle.dg_types.specs.declared.key.Core.TheVariants as core
use Rattle.dg_types.specs.declared.key.Inner.{Inner}
use Rattle.dg_types.specs.declared.key.Inner.TheVariants as inner
use Rattle.dg_types.specs.declared.key.MapKind.{MapKind}
use Rattle.dg_types.specs.declared.key.Mode.{Mode}
use Rattle.dg_types.specs.declared.key.Mode.TheVariants as mode
use Rattle.dg_types.specs.declared.key.Request.{Request}
use Rattle.dg_types.specs.declared.shape.Shape.{Shape, out-Shape, roll-Shape}
use Rattle.dg_types.specs.declared.shape.Shape.TheOpen.{Shape-F}
use Rattle.dg_types.specs.declared.shape.Shape.TheVariants as shape
use Rattle.dg_types.specs.declared.shape.Shape.TheViews.{roll-out-Shape}
use Rattle.dg_types.specs.declared.shape.TypeUse.{TypeUse}
use Rattle.dg_types.specs.Requests.{Layer, Held, Asked, base_at, base_of, kind_at, kind_of, held_as, value_at, value_of, provided_at, provided_in, inside_at, inside_of, one_of, set_of, optional_of, map_of, core_at, core_of, asked_as, deferred_at, deferred_of, plain_at, plain_of, produced_at, produced_of, producing_at, producing_of, first_of_two, asked_of, request_of, shape_of_base, shape_of_kind, shape_in, shape_of_core, shape_asked, use_of}

-- what is found in a type, if anything, is written as that type
abbrev Back : {A : Type 0} → (A → Shape) → Shape → Option A → Type 0
Back of s o = IfSome o (λ a. of a ≡ s)

moved : {A : Type 0} (of : A → Shape) (s t : Shape) → s ≡ t → (o : Option A) → Back of s o → Back of t o
moved of s t e None h = tt
moved of s t e (Some a) h = h ∙ e

mapped : {A B : Type 0} (f : A → B) (of : A → Shape) (of' : B → Shape) (g : Shape → Shape) (s : Shape) → ((a : A) → of' (f a) ≡ g (of a)) → (o : Option A) → Back of s o → Back of' (g s) (option_map f o)
mapped f of of' g s step None h = tt
mapped f of of' g s step (Some a) h = step a ∙ ap g h

abbrev of_held : Held → Shape
of_held h = shape_in h.1 (shape_of_base h.0)

abbrev of_asked : Asked → Shape
of_asked a = shape_asked a.0 (shape_of_core a.1)

-- ---- base types and kinds of keys

base_back_at : (l : Layer) → Back shape_of_base (roll-Shape l) (base_at l)
base_back_at Shape-F.Text = sym shape.rolls-Text
base_back_at Shape-F.Int = sym shape.rolls-Int
base_back_at (Shape-F.Named name) = sym (shape.rolls-Named name)
base_back_at _ = tt

base_back : (s : Shape) → Back shape_of_base s (base_of s)
unfolding base_of
base_back s = moved shape_of_base _ s (roll-out-Shape s) (base_at (out-Shape s)) (base_back_at (out-Shape s))

kind_back_at : (l : Layer) → Back shape_of_kind (roll-Shape l) (kind_at l)
kind_back_at Shape-F.Text = sym shape.rolls-Text
kind_back_at Shape-F.Int = sym shape.rolls-Int
kind_back_at _ = tt

kind_back : (s : Shape) → Back shape_of_kind s (kind_of s)
unfolding kind_of
kind_back s = moved shape_of_kind _ s (roll-out-Shape s) (kind_at (out-Shape s)) (kind_back_at (out-Shape s))

-- ---- what is held

held_back : (form : Inner) (s : Shape) (o : Option Base) → Back shape_of_base s o → Back of_held (shape_in form s) (held_as form o)
held_back form s o h = mapped (λ b. (b, form)) shape_of_base of_held (shape_in form) s (λ b. refl) o h

value_back_at : (l : Layer) → Back of_held (roll-Shape l) (value_at l)
value_back_at (Shape-F.Provider t) = moved of_held _ _ (sym (shape.rolls-Provider t)) (held_as inner.Provider (base_of t)) (held_back inner.Provider t (base_of t) (base_back t))
value_back_at l = held_back inner.Plain (roll-Shape l) (base_at l) (base_back_at l)

value_back : (s : Shape) → Back of_held s (value_of s)
unfolding value_of
value_back s = moved of_held _ s (roll-out-Shape s) (value_at (out-Shape s)) (value_back_at (out-Shape s))

provided_back_at : (l : Layer) → Back of_held (shape.Provider (roll-Shape l)) (provided_at l)
provided_back_at (Shape-F.Lazy t) = moved of_held _ _ (ap shape.Provider (sym (shape.rolls-Lazy t))) (held_as inner.ProviderLazy (base_of t)) (held_back inner.ProviderLazy t (base_of t) (base_back t))
provided_back_at l = held_back inner.Provider (roll-Shape l) (base_at l) (base_back_at l)

provided_back : (s : Shape) → Back of_held (shape.Provider s) (provided_in s)
provided_back s = moved of_held _ _ (ap shape.Provider (roll-out-Shape s)) (provided_at (out-Shape s)) (provided_back_at (out-Shape s))

inside_back_at : (l : Layer) → Back of_held (roll-Shape l) (inside_at l)
inside_back_at (Shape-F.Provider t) = moved of_held _ _ (sym (shape.rolls-Provider t)) (provided_in t) (provided_back t)
inside_back_at (Shape-F.Lazy t) = moved of_held _ _ (sym (shape.rolls-Lazy t)) (held_as inner.Lazy (base_of t)) (held_back inner.Lazy t (base_of t) (base_back t))
inside_back_at l = held_back inner.Plain (roll-Shape l) (base_at l) (base_back_at l)

inside_back : (s : Shape) → Back of_held s (inside_of s)
unfolding inside_of
inside_back s = moved of_held _ s (roll-out-Shape s) (inside_at (out-Shape s)) (inside_back_at (out-Shape s))

-- ---- core types

map_back : (k t : Shape) (kind : Option MapKind) (held : Option Held) → Back shape_of_kind k kind → Back of_held t held → Back shape_of_core (shape.Map k t) (map_of kind held)
unfolding shape_of_core
map_back k t None held h g = tt
map_back k t (Some a) None h g = tt
map_back k t (Some a) (Some b) h g = λ i. shape.Map (h i) (g i)

one_back : (s : Shape) (o : Option Base) → Back shape_of_base s o → Back shape_of_core s (one_of o)
unfolding shape_of_core
one_back s o h = mapped core.One shape_of_base shape_of_core (λ t. t) s (λ b. refl) o h

set_back : (form : Inner) (s : Shape) (o : Option Base) → Back shape_of_base s o → Back shape_of_core (shape.Set (shape_in form s)) (set_of form o)
unfolding shape_of_core
set_back form s o h = mapped (λ b. core.Set b form) shape_of_base shape_of_core (λ t. shape.Set (shape_in form t)) s (λ b. refl) o h

optional_back : (s : Shape) (o : Option Held) → Back of_held s o → Back shape_of_core (shape.Optional s) (optional_of o)
unfolding shape_of_core
optional_back s o h = mapped (λ h. core.Optional h.0 h.1) of_held shape_of_core shape.Optional s (λ b. refl) o h

core_back_at : (l : Layer) → Back shape_of_core (roll-Shape l) (core_at l)
core_back_at (Shape-F.Set t) = moved shape_of_core _ _ (sym (shape.rolls-Set t)) (set_of inner.Plain (base_of t)) (set_back inner.Plain t (base_of t) (base_back t))
core_back_at (Shape-F.Map k t) = moved shape_of_core _ _ (sym (shape.rolls-Map k t)) (map_of (kind_of k) (value_of t)) (map_back k t (kind_of k) (value_of t) (kind_back k) (value_back t))
core_back_at (Shape-F.Optional t) = moved shape_of_core _ _ (sym (shape.rolls-Optional t)) (optional_of (inside_of t)) (optional_back t (inside_of t) (inside_back t))
core_back_at l = one_back (roll-Shape l) (base_at l) (base_back_at l)

core_back : (s : Shape) → Back shape_of_core s (core_of s)
unfolding core_of
core_back s = moved shape_of_core _ s (roll-out-Shape s) (core_at (out-Shape s)) (core_back_at (out-Shape s))

-- ---- requests

asked_back : (how : Mode) (s : Shape) (o : Option Core) → Back shape_of_core s o → Back of_asked (shape_asked how s) (asked_as how o)
asked_back how s o h = mapped (λ c. (how, c)) shape_of_core of_asked (shape_asked how) s (λ c. refl) o h

deferred_back_at : (l : Layer) → Back of_asked (shape.Provider (roll-Shape l)) (deferred_at l)
deferred_back_at (Shape-F.Lazy t) = moved of_asked _ _ (ap shape.Provider (sym (shape.rolls-Lazy t))) (asked_as mode.ProviderLazy (core_of t)) (asked_back mode.ProviderLazy t (core_of t) (core_back t))
deferred_back_at l = asked_back mode.Provider (roll-Shape l) (core_at l) (core_back_at l)

deferred_back : (s : Shape) → Back of_asked (shape.Provider s) (deferred_of s)
deferred_back s = moved of_asked _ _ (ap shape.Provider (roll-out-Shape s)) (deferred_at (out-Shape s)) (deferred_back_at (out-Shape s))

plain_back_at : (l : Layer) → Back of_asked (roll-Shape l) (plain_at l)
plain_back_at (Shape-F.Provider t) = moved of_asked _ _ (sym (shape.rolls-Provider t)) (deferred_of t) (deferred_back t)
plain_back_at (Shape-F.Lazy t) = moved of_asked _ _ (sym (shape.rolls-Lazy t)) (asked_as mode.Lazy (core_of t)) (asked_back mode.Lazy t (core_of t) (core_back t))
plain_back_at l = asked_back mode.Instance (roll-Shape l) (core_at l) (core_back_at l)

produced_back_at : (l : Layer) → Back (λ b. shape.Produced (shape_of_base b)) (roll-Shape l) (produced_at l)
produced_back_at (Shape-F.Produced t) = moved _ _ _ (sym (shape.rolls-Produced t)) (base_of t) (wrapped (base_of t) (base_back t)) where
  wrapped : (o : Option Base) → Back shape_of_base t o → Back (λ b. shape.Produced (shape_of_base b)) (shape.Produced t) o
  wrapped None h = tt
  wrapped (Some b) h = ap shape.Produced h
produced_back_at _ = tt

produced_back : (s : Shape) → Back (λ b. shape.Produced (shape_of_base b)) s (produced_of s)
unfolding produced_of
produced_back s = moved (λ b. shape.Produced (shape_of_base b)) _ s (roll-out-Shape s) (produced_at (out-Shape s)) (produced_back_at (out-Shape s))

produced_set_back : (t : Shape) (o : Option Base) → Back (λ b. shape.Produced (shape_of_base b)) t o → Back of_asked (shape.Set t) (asked_as mode.Instance (set_of inner.Produced o))
unfolding shape_of_core
produced_set_back t None h = tt
produced_set_back t (Some b) h = ap shape.Set h

produced_map_back : (k t : Shape) (kind : Option MapKind) (o : Option Base) → Back shape_of_kind k kind → Back (λ b. shape.Produced (shape_of_base b)) t o → Back of_asked (shape.Map k t) (asked_as mode.Instance (map_of kind (held_as inner.Produced o)))
unfolding shape_of_core
produced_map_back k t None o h g = tt
produced_map_back k t (Some a) None h g = tt
produced_map_back k t (Some a) (Some b) h g = λ i. shape.Map (h i) (g i)

producing_back_at : (l : Layer) → Back of_asked (roll-Shape l) (producing_at l)
producing_back_at (Shape-F.Set t) = moved of_asked _ _ (sym (shape.rolls-Set t)) (asked_as mode.Instance (set_of inner.Produced (produced_of t))) (produced_set_back t (produced_of t) (produced_back t))
producing_back_at (Shape-F.Map k t) = moved of_asked _ _ (sym (shape.rolls-Map k t)) (asked_as mode.Instance (map_of (kind_of k) (held_as inner.Produced (produced_of t)))) (produced_map_back k t (kind_of k) (produced_of t) (kind_back k) (produced_back t))
producing_back_at (Shape-F.Produced t) = moved of_asked _ _ (sym (shape.rolls-Produced t)) (asked_as mode.Produced (one_of (base_of t))) (asked_back mode.Produced t (one_of (base_of t)) (one_back t (base_of t) (base_back t)))
producing_back_at (Shape-F.Producer t) = moved of_asked _ _ (sym (shape.rolls-Producer t)) (asked_as mode.Producer (one_of (base_of t))) (asked_back mode.Producer t (one_of (base_of t)) (one_back t (base_of t) (base_back t)))
producing_back_at _ = tt

either_back : (s : Shape) (a b : Option Asked) → Back of_asked s a → Back of_asked s b → Back of_asked s (first_of_two a b)
either_back s None b h g = g
either_back s (Some x) b h g = h

asked_of_back : (s : Shape) → Back of_asked s (asked_of s)
unfolding asked_of plain_of producing_of
asked_of_back s = moved of_asked _ s (roll-out-Shape s) (first_of_two (plain_at (out-Shape s)) (producing_at (out-Shape s))) (either_back _ (plain_at (out-Shape s)) (producing_at (out-Shape s)) (plain_back_at (out-Shape s)) (producing_back_at (out-Shape s)))

request_back : (u : TypeUse) (o : Option Asked) → Back of_asked u.shape o → IfSome (option_map (λ a. record { mode = a.0; key = record { qualifier = u.qualifier; core = a.1 } }) o) (λ r. use_of r ≡ u)
unfolding use_of
request_back u None h = tt
request_back u (Some a) h = λ i. record { qualifier = u.qualifier; shape = h i }

pub written_back : (u : TypeUse) → IfSome (request_of u) (λ r. use_of r ≡ u)
unfolding request_of
written_back u = request_back u (asked_of u.shape) (asked_of_back u.shape)

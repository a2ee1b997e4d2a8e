-- The forms of keys that a type can ask for.
use Rattle.std.proofs.Common.{◌≡◌, Bool, true, false, Option, Some, None, option_map, refl, sym, ap, ◌∙◌}
use Rattle.std.proofs.lemmas.Option.{none-some, same_Some}
use Rattle.dg_types.specs.declared.key.Base.{Base}
use Rattle.dg_types.specs.declared.key.MapKind.{MapKind}
use Rattle.dg_types.specs.declared.key.Inner.{Inner}
use Rattle.dg_types.specs.declared.key.Inner.TheVariants as inner
use Rattle.dg_types.specs.declared.key.Core.{Core}
use Rattle.dg_types.specs.declared.key.Core.TheVariants as core
use Rattle.dg_types.specs.declared.key.Mode.{Mode}
use Rattle.dg_types.specs.declared.key.Mode.TheVariants as mode
use Rattle.dg_types.specs.declared.key.Request.{Request}
use Rattle.dg_types.specs.declared.shape.Shape.{Shape, out-Shape}
use Rattle.dg_types.specs.declared.shape.Shape.TheOpen.{Shape-F}
use Rattle.dg_types.specs.declared.shape.TypeUse.{TypeUse}
use Rattle.dg_types.specs.Requests.{Layer, Held, Asked, base_at, base_of, kind_of, held_as, value_at, value_of, provided_at, inside_at, inside_of, one_of, set_of, map_of, core_at, core_of, asked_as, deferred_at, plain_at, plain_of, produced_of, producing_at, producing_of, first_of_two, asked_of, request_of}
use Rattle.dg_decl.proofs.MemberLemmas.{out_option_map}

abbrev pub is_set_form : Inner → Bool
is_set_form inner.Plain = true
is_set_form inner.Produced = true
is_set_form other = false

abbrev pub is_map_form : Inner → Bool
is_map_form inner.Plain = true
is_map_form inner.Provider = true
is_map_form inner.Produced = true
is_map_form other = false

abbrev pub is_inside_form : Inner → Bool
is_inside_form inner.Produced = false
is_inside_form other = true

-- a type asks for a key of this core type
abbrev pub is_asked : Core → Bool
is_asked (core.One b) = true
is_asked (core.Set b i) = is_set_form i
is_asked (core.Map k b i) = is_map_form i
is_asked (core.Optional b i) = is_inside_form i

abbrev Holds : {A : Type 0} → (A → Bool) → Option A → Type 0
Holds {A} p o = (a : A) → o ≡ Some a → p a ≡ true

mapped : {A B : Type 0} (p : A → Bool) (q : B → Bool) (f : A → B) (o : Option A) → Holds p o
    → ((a : A) → p a ≡ true → q (f a) ≡ true) → Holds q (option_map f o)
mapped p q f None h g b e = absurd (none-some b e)
mapped p q f (Some a) h g b e = ap q (sym (same_Some (f a) b e)) ∙ g a (h a refl)

none_holds : {A : Type 0} (p : A → Bool) → Holds p None
none_holds p a e = absurd (none-some a e)

abbrev any_of : {A : Type 0} → A → Bool
any_of a = true

anything : {A : Type 0} (o : Option A) → Holds any_of o
anything o a e = refl

-- ---- what is held

abbrev map_held : Held → Bool
map_held h = is_map_form h.1

abbrev inside_held : Held → Bool
inside_held h = is_inside_form h.1

held_so : (p : Held → Bool) (form : Inner) (o : Option Base) → ((b : Base) → p (b, form) ≡ true)
    → Holds p (held_as form o)
held_so p form o h = mapped any_of p (λ x. (x, form)) o (anything o) (λ b e. h b)

value_held : (l : Layer) → Holds map_held (value_at l)
value_held (Shape-F.Provider t) = held_so map_held inner.Provider (base_of t) (λ b. refl)
value_held l = held_so map_held inner.Plain (base_at l) (λ b. refl)

provided_held : (l : Layer) → Holds inside_held (provided_at l)
provided_held (Shape-F.Lazy t) = held_so inside_held inner.ProviderLazy (base_of t) (λ b. refl)
provided_held l = held_so inside_held inner.Provider (base_at l) (λ b. refl)

inside_held_at : (l : Layer) → Holds inside_held (inside_at l)
inside_held_at (Shape-F.Provider t) = provided_held (out-Shape t)
inside_held_at (Shape-F.Lazy t) = held_so inside_held inner.Lazy (base_of t) (λ b. refl)
inside_held_at l = held_so inside_held inner.Plain (base_at l) (λ b. refl)

map_asked : (k : Option MapKind) (held : Option Held) → Holds map_held held
    → Holds is_asked (map_of k held)
map_asked None held h = none_holds is_asked
map_asked (Some k) held h = mapped map_held is_asked (λ x. core.Map k x.0 x.1) held h (λ a e. e)

-- ---- core types

core_asked : (l : Layer) → Holds is_asked (core_at l)
unfolding value_of inside_of
core_asked (Shape-F.Set t) = mapped any_of is_asked (λ x. core.Set x inner.Plain) (base_of t)
    (anything (base_of t)) (λ b e. refl)
core_asked (Shape-F.Map k t) = map_asked (kind_of k) (value_of t) (value_held (out-Shape t))
core_asked (Shape-F.Optional t) = mapped inside_held is_asked (λ h. core.Optional h.0 h.1)
    (inside_of t) (inside_held_at (out-Shape t)) (λ a e. e)
core_asked l = mapped any_of is_asked core.One (base_at l) (anything (base_at l)) (λ b e. refl)

abbrev asks : Asked → Bool
asks a = is_asked a.1

asked_so : (how : Mode) (c : Option Core) → Holds is_asked c → Holds asks (asked_as how c)
asked_so how c h = mapped is_asked asks (λ x. (how, x)) c h (λ a e. e)

deferred_asked : (l : Layer) → Holds asks (deferred_at l)
unfolding core_of
deferred_asked (Shape-F.Lazy t) = asked_so mode.ProviderLazy (core_of t) (core_asked (out-Shape t))
deferred_asked l = asked_so mode.Provider (core_at l) (core_asked l)

plain_asked : (l : Layer) → Holds asks (plain_at l)
unfolding core_of
plain_asked (Shape-F.Provider t) = deferred_asked (out-Shape t)
plain_asked (Shape-F.Lazy t) = asked_so mode.Lazy (core_of t) (core_asked (out-Shape t))
plain_asked l = asked_so mode.Instance (core_at l) (core_asked l)

one_asked : (o : Option Base) → Holds is_asked (one_of o)
one_asked o = mapped any_of is_asked core.One o (anything o) (λ b e. refl)

producing_asked : (l : Layer) → Holds asks (producing_at l)
producing_asked (Shape-F.Set t) =
    asked_so mode.Instance (set_of inner.Produced (produced_of t))
    (mapped any_of is_asked (λ x. core.Set x inner.Produced) (produced_of t) (anything (produced_of
    t)) (λ b e. refl))
producing_asked (Shape-F.Map k t) =
    asked_so mode.Instance (map_of (kind_of k) (held_as inner.Produced (produced_of t)))
    (map_asked (kind_of k) (held_as inner.Produced (produced_of t)) (held_so map_held
    inner.Produced (produced_of t) (λ b. refl)))
producing_asked (Shape-F.Produced t) = asked_so mode.Produced (one_of (base_of t)) (one_asked
    (base_of t))
producing_asked (Shape-F.Producer t) = asked_so mode.Producer (one_of (base_of t)) (one_asked
    (base_of t))
producing_asked l = none_holds asks

first_asked : (o p : Option Asked) → Holds asks o → Holds asks p → Holds asks (first_of_two o p)
first_asked None p first second = second
first_asked (Some a) p first second = first

asked_is_asked : (s : Shape) → Holds asks (asked_of s)
unfolding asked_of plain_of producing_of
asked_is_asked s = first_asked (plain_at (out-Shape s)) (producing_at (out-Shape s)) (plain_asked
    (out-Shape s)) (producing_asked (out-Shape s))

-- a request has a key of one of the forms that can be asked for
pub request_is_asked : (u : TypeUse) (r : Request) → request_of u ≡ Some r
    → is_asked r.key.core ≡ true
unfolding request_of
request_is_asked u r e =
    let o = out_option_map _ (asked_of u.shape) r e in
    ap (λ (r : Request). is_asked r.key.core) (sym o.2) ∙ asked_is_asked u.shape o.0 o.1

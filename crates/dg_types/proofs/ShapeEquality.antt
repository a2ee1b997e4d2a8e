-- The test of equality of types is true exactly where the two are equal.
use Rattle.std.proofs.Common.{◌≡◌, ◌&&◌, Bool, true, false, Option, Some, None, Decides, refl, ap, sym, subst, ◌∙◌}
use Rattle.std.specs.Cmp.{first_so, second_so}
use Rattle.std.specs.Cmp.Lexicographic.{bytes_decides}
use Rattle.std.proofs.lemmas.Bool.{true≢false}
use Rattle.dg_types.specs.declared.shape.Qualifier.{Qualifier}
use Rattle.dg_types.specs.declared.shape.Shape.{Shape, out-Shape, roll-Shape}
use Rattle.dg_types.specs.declared.shape.Shape.TheFolds.{fold-roll-Shape, ind-Shape, map-Shape}
use Rattle.dg_types.specs.declared.shape.Shape.TheOpen.{Shape-F}
use Rattle.dg_types.specs.declared.shape.Shape.TheViews.{out-roll-Shape, roll-out-Shape}
use Rattle.dg_types.specs.declared.shape.TypeUse.{TypeUse}
use Rattle.dg_types.specs.Equality.{same_shape, same_shape_at, same_qualifier, same_qualifiers, same_use}
use Rattle.dg_types.specs.Requests.{Layer}
use Rattle.dg_types.proofs.EqualityLemmas.{qualifier_decides}

-- the parts of a type as tests
abbrev tests : Layer → Shape-F (Shape → Bool)
tests l = map-Shape Shape (Shape → Bool) same_shape l

same_by : (l : Layer) (b : Shape) → same_shape (roll-Shape l) b ≡ same_shape_at (tests l) (out-Shape b)
unfolding same_shape
same_by l b = ap (λ (f : Shape → Bool). f b) (fold-roll-Shape (Shape → Bool) (λ l s. same_shape_at l (out-Shape s)) l)

-- a type is the same as itself
abbrev IsSelfSame : Shape → Type 0
IsSelfSame s = same_shape s s ≡ true

abbrev bare : Shape-F ((s : Shape) × IsSelfSame s) → Layer
bare y = map-Shape ((s : Shape) × IsSelfSame s) Shape (λ e. e.0) y

both_so : (a b : Bool) → a ≡ true → b ≡ true → (a && b) ≡ true
both_so true b h k = k
both_so false b h k = h

layer_refl : (y : Shape-F ((s : Shape) × IsSelfSame s)) → same_shape_at (tests (bare y)) (bare y) ≡ true
layer_refl Shape-F.Text = refl
layer_refl Shape-F.Int = refl
layer_refl (Shape-F.Named name) = (bytes_decides name name).1 refl
layer_refl (Shape-F.Set e) = e.1
layer_refl (Shape-F.Map k e) = both_so _ _ k.1 e.1
layer_refl (Shape-F.Optional e) = e.1
layer_refl (Shape-F.Provider e) = e.1
layer_refl (Shape-F.Lazy e) = e.1
layer_refl (Shape-F.Producer e) = e.1
layer_refl (Shape-F.Produced e) = e.1

shape_refl : (s : Shape) → IsSelfSame s
shape_refl = ind-Shape IsSelfSame (λ x y is.
    same_by x (roll-Shape x)
    ∙ ap (same_shape_at (tests x)) (out-roll-Shape x)
    ∙ subst (λ z. same_shape_at (tests z) z ≡ true) is (layer_refl y))

-- a type is equal to each that it is the same as
abbrev IsKnown : Shape → Type 0
IsKnown s = (b : Shape) → same_shape s b ≡ true → s ≡ b

abbrev known : Shape-F ((s : Shape) × IsKnown s) → Layer
known y = map-Shape ((s : Shape) × IsKnown s) Shape (λ e. e.0) y

layer_same : (y : Shape-F ((s : Shape) × IsKnown s)) (z : Layer) → same_shape_at (tests (known y)) z ≡ true → known y ≡ z
layer_same Shape-F.Text Shape-F.Text h = refl
layer_same Shape-F.Int Shape-F.Int h = refl
layer_same (Shape-F.Named a) (Shape-F.Named b) h = ap Shape-F.Named ((bytes_decides a b).0 h)
layer_same (Shape-F.Set e) (Shape-F.Set t) h = ap Shape-F.Set (e.1 t h)
layer_same (Shape-F.Map k e) (Shape-F.Map l t) h =
    let key = k.1 l (first_so _ _ h) in
    let value = e.1 t (second_so _ _ h) in
    λ i. Shape-F.Map (key i) (value i)
layer_same (Shape-F.Optional e) (Shape-F.Optional t) h = ap Shape-F.Optional (e.1 t h)
layer_same (Shape-F.Provider e) (Shape-F.Provider t) h = ap Shape-F.Provider (e.1 t h)
layer_same (Shape-F.Lazy e) (Shape-F.Lazy t) h = ap Shape-F.Lazy (e.1 t h)
layer_same (Shape-F.Producer e) (Shape-F.Producer t) h = ap Shape-F.Producer (e.1 t h)
layer_same (Shape-F.Produced e) (Shape-F.Produced t) h = ap Shape-F.Produced (e.1 t h)
layer_same y z h = absurd (true≢false (sym h))

shape_same : (s : Shape) → IsKnown s
shape_same = ind-Shape IsKnown (λ x y is b h.
    let alike = subst (λ z. same_shape_at (tests z) (out-Shape b) ≡ true → z ≡ out-Shape b) is (layer_same y (out-Shape b)) in
    ap roll-Shape (alike (sym (same_by x b) ∙ h)) ∙ roll-out-Shape b)

pub shape_decides : (a b : Shape) → Decides (same_shape a b) (a ≡ b)
shape_decides a b = (shape_same a b, λ e. ap (same_shape a) (sym e) ∙ shape_refl a)

qualifiers_decide : (a b : Option Qualifier) → Decides (same_qualifiers a b) (a ≡ b)
qualifiers_decide None None = (λ h. refl, λ e. refl)
qualifiers_decide (Some a) (Some b) = (λ h. ap Some ((qualifier_decides a b).0 h), λ e. (qualifier_decides a b).1 (cc))
qualifiers_decide None (Some b) = (λ h. absurd (true≢false (sym h)), λ e. cc)
qualifiers_decide (Some a) None = (λ h. absurd (true≢false (sym h)), λ e. cc)

use_same : (a b : TypeUse) → same_use a b ≡ true → a ≡ b
unfolding same_use
use_same a b h =
    let q : a.qualifier ≡ b.qualifier = (qualifiers_decide a.qualifier b.qualifier).0 (first_so _ _ h) in
    let s : a.shape ≡ b.shape = (shape_decides a.shape b.shape).0 (second_so _ _ h) in
    λ i. record { qualifier = q i; shape = s i }

use_refl : (a : TypeUse) → same_use a a ≡ true
unfolding same_use
use_refl a = both_so _ _ ((qualifiers_decide a.qualifier a.qualifier).1 refl) ((shape_decides a.shape a.shape).1 refl)

pub use_decides : (a b : TypeUse) → Decides (same_use a b) (a ≡ b)
use_decides a b = (use_same a b, λ e. ap (same_use a) (sym e) ∙ use_refl a)

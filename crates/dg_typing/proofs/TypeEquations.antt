-- Tests of equal types, by the form of the one.
use Rattle.std.proofs.Common.{◌≡◌, ◌&&◌, ℕ, List, Bool, ap, sym, ◌∙◌}
use Rattle.std.specs.Str.{bytes_eq}
use Rattle.dg_types.specs.declared.shape.Shape.{Shape, out-Shape}
use Rattle.dg_types.specs.declared.shape.Shape.TheOpen.{Shape-F}
use Rattle.dg_types.specs.declared.shape.Shape.TheVariants as shape
use Rattle.dg_types.specs.declared.shape.Shape.TheFolds.{fold-roll-Shape}
use Rattle.dg_types.specs.declared.shape.Shape.TheViews.{out-roll-Shape}
use Rattle.dg_types.specs.Equality.{same_shape, same_shape_at}

abbrev tests : Shape-F (Shape → Bool) → Shape → Bool
tests l s = same_shape_at l (out-Shape s)

pub same_shape-Text : (s : Shape) → same_shape shape.Text s ≡ same_shape_at Shape-F.Text (out-Shape s)
unfolding same_shape
same_shape-Text s =
    ap (λ t. same_shape t s) (sym shape.rolls-Text)
    ∙ ap (λ f. f s) (fold-roll-Shape (Shape → Bool) tests Shape-F.Text)

pub same_shape-Int : (s : Shape) → same_shape shape.Int s ≡ same_shape_at Shape-F.Int (out-Shape s)
unfolding same_shape
same_shape-Int s =
    ap (λ t. same_shape t s) (sym shape.rolls-Int)
    ∙ ap (λ f. f s) (fold-roll-Shape (Shape → Bool) tests Shape-F.Int)

pub same_shape-Named : (n : List ℕ) (s : Shape)
    → same_shape (shape.Named n) s ≡ same_shape_at (Shape-F.Named n) (out-Shape s)
unfolding same_shape
same_shape-Named n s =
    ap (λ t. same_shape t s) (sym (shape.rolls-Named n))
    ∙ ap (λ f. f s) (fold-roll-Shape (Shape → Bool) tests (Shape-F.Named n))

pub same_shape-Set : (t s : Shape)
    → same_shape (shape.Set t) s ≡ same_shape_at (Shape-F.Set (same_shape t)) (out-Shape s)
unfolding same_shape
same_shape-Set t s =
    ap (λ t. same_shape t s) (sym (shape.rolls-Set t))
    ∙ ap (λ f. f s) (fold-roll-Shape (Shape → Bool) tests (Shape-F.Set t))

pub same_shape-Map : (k t s : Shape)
    → same_shape (shape.Map k t) s
    ≡ same_shape_at (Shape-F.Map (same_shape k) (same_shape t)) (out-Shape s)
unfolding same_shape
same_shape-Map k t s =
    ap (λ t. same_shape t s) (sym (shape.rolls-Map k t))
    ∙ ap (λ f. f s) (fold-roll-Shape (Shape → Bool) tests (Shape-F.Map k t))

-- the outermost constructor of a type

pub out_text : out-Shape shape.Text ≡ Shape-F.Text
out_text = ap out-Shape (sym shape.rolls-Text) ∙ out-roll-Shape Shape-F.Text

pub out_int : out-Shape shape.Int ≡ Shape-F.Int
out_int = ap out-Shape (sym shape.rolls-Int) ∙ out-roll-Shape Shape-F.Int

pub out_named : (n : List ℕ) → out-Shape (shape.Named n) ≡ Shape-F.Named n
out_named n = ap out-Shape (sym (shape.rolls-Named n)) ∙ out-roll-Shape (Shape-F.Named n)

pub out_set : (t : Shape) → out-Shape (shape.Set t) ≡ Shape-F.Set t
out_set t = ap out-Shape (sym (shape.rolls-Set t)) ∙ out-roll-Shape (Shape-F.Set t)

pub out_map : (k t : Shape) → out-Shape (shape.Map k t) ≡ Shape-F.Map k t
out_map k t = ap out-Shape (sym (shape.rolls-Map k t)) ∙ out-roll-Shape (Shape-F.Map k t)

-- the same, where the form of the other is known too

pub same_named : (a b : List ℕ) → same_shape (shape.Named a) (shape.Named b) ≡ bytes_eq a b
same_named a b =
    same_shape-Named a (shape.Named b) ∙ ap (same_shape_at (Shape-F.Named a)) (out_named b)

pub same_sets : (a b : Shape) → same_shape (shape.Set a) (shape.Set b) ≡ same_shape a b
same_sets a b =
    same_shape-Set a (shape.Set b) ∙ ap (same_shape_at (Shape-F.Set (same_shape a))) (out_set b)

pub same_maps : (k a l b : Shape)
    → same_shape (shape.Map k a) (shape.Map l b) ≡ (same_shape k l && same_shape a b)
same_maps k a l b =
    same_shape-Map k a (shape.Map l b)
    ∙ ap (same_shape_at (Shape-F.Map (same_shape k) (same_shape a))) (out_map l b)

pub ruleset same_shapes = (
  same_shape-Text,
  same_shape-Int,
  same_shape-Named,
  same_shape-Set,
  same_shape-Map,
  same_named,
  same_sets,
  same_maps,
)

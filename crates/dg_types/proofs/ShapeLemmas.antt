-- The text of a type from the texts of its parts.
use Rattle.std.proofs.Common.{◌≡◌, ◌++◌, codes, ℕ, List, ap, sym, ◌∙◌, append_assoc, []}
use Rattle.dg_types.specs.declared.shape.Shape.{Shape}
use Rattle.dg_types.specs.declared.shape.Shape.TheOpen.{Shape-F}
use Rattle.dg_types.specs.declared.shape.Shape.TheVariants as shape
use Rattle.dg_types.specs.declared.shape.Shape.TheFolds.{fold-roll-Shape}
use Rattle.dg_types.specs.Bytes.{Bytes}
use Rattle.dg_types.specs.Texts.{shape_text, shape_text_at, applied}

pub shape_text-Text : shape_text shape.Text ≡ codes "Text"
unfolding shape_text
shape_text-Text = ap shape_text (sym shape.rolls-Text) ∙ fold-roll-Shape Bytes shape_text_at Shape-F.Text

pub shape_text-Int : shape_text shape.Int ≡ codes "Int"
unfolding shape_text
shape_text-Int = ap shape_text (sym shape.rolls-Int) ∙ fold-roll-Shape Bytes shape_text_at Shape-F.Int

pub shape_text-Named : (name : List ℕ) → shape_text (shape.Named name) ≡ name
unfolding shape_text
shape_text-Named name = ap shape_text (sym (shape.rolls-Named name)) ∙ fold-roll-Shape Bytes shape_text_at (Shape-F.Named name)

pub shape_text-Set : (s : Shape) → shape_text (shape.Set s) ≡ applied (codes "Set") (shape_text s)
unfolding shape_text
shape_text-Set s = ap shape_text (sym (shape.rolls-Set s)) ∙ fold-roll-Shape Bytes shape_text_at (Shape-F.Set s)

pub shape_text-Map : (k s : Shape) → shape_text (shape.Map k s) ≡ applied (codes "Map") (shape_text k ++ codes "," ++ shape_text s)
unfolding shape_text
shape_text-Map k s = ap shape_text (sym (shape.rolls-Map k s)) ∙ fold-roll-Shape Bytes shape_text_at (Shape-F.Map k s)

pub shape_text-Optional : (s : Shape) → shape_text (shape.Optional s) ≡ applied (codes "Optional") (shape_text s)
unfolding shape_text
shape_text-Optional s = ap shape_text (sym (shape.rolls-Optional s)) ∙ fold-roll-Shape Bytes shape_text_at (Shape-F.Optional s)

pub shape_text-Provider : (s : Shape) → shape_text (shape.Provider s) ≡ applied (codes "Provider") (shape_text s)
unfolding shape_text
shape_text-Provider s = ap shape_text (sym (shape.rolls-Provider s)) ∙ fold-roll-Shape Bytes shape_text_at (Shape-F.Provider s)

pub shape_text-Lazy : (s : Shape) → shape_text (shape.Lazy s) ≡ applied (codes "Lazy") (shape_text s)
unfolding shape_text
shape_text-Lazy s = ap shape_text (sym (shape.rolls-Lazy s)) ∙ fold-roll-Shape Bytes shape_text_at (Shape-F.Lazy s)

pub shape_text-Producer : (s : Shape) → shape_text (shape.Producer s) ≡ applied (codes "Producer") (shape_text s)
unfolding shape_text
shape_text-Producer s = ap shape_text (sym (shape.rolls-Producer s)) ∙ fold-roll-Shape Bytes shape_text_at (Shape-F.Producer s)

pub shape_text-Produced : (s : Shape) → shape_text (shape.Produced s) ≡ applied (codes "Produced") (shape_text s)
unfolding shape_text
shape_text-Produced s = ap shape_text (sym (shape.rolls-Produced s)) ∙ fold-roll-Shape Bytes shape_text_at (Shape-F.Produced s)

pub ruleset shape_texts = (shape_text-Text, shape_text-Int, shape_text-Named, shape_text-Set, shape_text-Map, shape_text-Optional, shape_text-Provider, shape_text-Lazy, shape_text-Producer, shape_text-Produced)

-- what stands behind `out` once a constructor, its argument and `>` were written
pub wrapped : (out front x : Bytes) → ((out ++ front) ++ x) ++ codes ">" ≡ out ++ (front ++ x ++ codes ">")
wrapped out front x = simp append_assoc

-- the same of a constructor with two arguments
pub wrapped_pair : (out front x y : Bytes) → ((((out ++ front) ++ x) ++ codes ",") ++ y) ++ codes ">" ≡ out ++ (front ++ (x ++ codes "," ++ y) ++ codes ">")
wrapped_pair out front x y = simp append_assoc

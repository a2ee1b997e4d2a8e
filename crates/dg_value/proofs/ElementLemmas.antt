-- When two values are equal as elements, by the forms of both.
use Rattle.std.proofs.Common.{◌≡◌, ℕ, List, false, refl, ap, sym, ◌∙◌}
use Rattle.std.specs.Prelude.{ℤ}
use Rattle.std.specs.Ordering.{int_eq}
use Rattle.std.specs.Str.{bytes_eq}
use Rattle.dg_value.specs.declared.place.Place.{Place}
use Rattle.dg_value.specs.declared.value.Kept.TheOpen.{Value-F}
use Rattle.dg_value.specs.declared.value.Kept.TheViews.{roll-Value, out-roll-Value, roll-out-Value}
use Rattle.dg_value.specs.declared.value.Value.{Value, out-Value}
use Rattle.dg_value.specs.declared.value.Value.TheVariants as value
use Rattle.dg_value.specs.Places.{same_place}
use Rattle.dg_value.specs.Same.{Layer, same_at, same_element}

-- ---- the outermost form of a value, and the value of a form

out_text : (t : List ℕ) → out-Value (value.Text t) ≡ Value-F.Text t
out_text t = ap out-Value (sym (value.rolls-Text t)) ∙ out-roll-Value (Value-F.Text t)

out_int : (n : ℤ) → out-Value (value.Int n) ≡ Value-F.Int n
out_int n = ap out-Value (sym (value.rolls-Int n)) ∙ out-roll-Value (Value-F.Int n)

out_object : (c : ℕ) (p : Place) (vs : List Value)
    → out-Value (value.Object c p vs) ≡ Value-F.Object c p vs
out_object c p vs =
    ap out-Value (sym (value.rolls-Object c p vs)) ∙ out-roll-Value (Value-F.Object c p vs)

is_text : (v : Value) (t : List ℕ) → out-Value v ≡ Value-F.Text t → v ≡ value.Text t
is_text v t e = sym (roll-out-Value v) ∙ ap roll-Value e ∙ value.rolls-Text t

is_int : (v : Value) (n : ℤ) → out-Value v ≡ Value-F.Int n → v ≡ value.Int n
is_int v n e = sym (roll-out-Value v) ∙ ap roll-Value e ∙ value.rolls-Int n

is_object : (v : Value) (c : ℕ) (p : Place) (vs : List Value)
    → out-Value v ≡ Value-F.Object c p vs → v ≡ value.Object c p vs
is_object v c p vs e = sym (roll-out-Value v) ∙ ap roll-Value e ∙ value.rolls-Object c p vs

-- ---- two values of one form

both_at : (v w : Value) (a b : Layer) → out-Value v ≡ a → out-Value w ≡ b
    → same_at a b ≡ same_element v w
unfolding same_element
both_at v w a b e f = λ i. same_at (sym e i) (sym f i)

pub texts : (v w : Value) (a b : List ℕ) → v ≡ value.Text a → w ≡ value.Text b
    → bytes_eq a b ≡ same_element v w
texts v w a b e f = both_at v w _ _ (ap out-Value e ∙ out_text a) (ap out-Value f ∙ out_text b)

pub ints : (v w : Value) (a b : ℤ) → v ≡ value.Int a → w ≡ value.Int b
    → int_eq a b ≡ same_element v w
ints v w a b e f = both_at v w _ _ (ap out-Value e ∙ out_int a) (ap out-Value f ∙ out_int b)

pub objects : (v w : Value) (c d : ℕ) (p q : Place) (vs ws : List Value) → v ≡ value.Object c p vs
    → w ≡ value.Object d q ws → same_place p q ≡ same_element v w
objects v w c d p q vs ws e f =
    both_at v w _ _ (ap out-Value e ∙ out_object c p vs) (ap out-Value f ∙ out_object d q ws)

-- ---- two values of different forms

text_and : (w : Value) (a : List ℕ) (l : Layer) → out-Value w ≡ l
    → ((b : List ℕ) → w ≡ value.Text b → ⊥) → false ≡ same_at (Value-F.Text a) l
text_and w a (Value-F.Text b) e isnt = absurd (isnt b (is_text w b e))
text_and w a l e isnt = refl

pub text_alone : (v w : Value) (a : List ℕ) → v ≡ value.Text a
    → ((b : List ℕ) → w ≡ value.Text b → ⊥) → false ≡ same_element v w
text_alone v w a e isnt =
    text_and w a (out-Value w) refl isnt ∙ both_at v w _ _ (ap out-Value e ∙ out_text a) refl

int_and : (w : Value) (a : ℤ) (l : Layer) → out-Value w ≡ l
    → ((b : ℤ) → w ≡ value.Int b → ⊥) → false ≡ same_at (Value-F.Int a) l
int_and w a (Value-F.Int b) e isnt = absurd (isnt b (is_int w b e))
int_and w a l e isnt = refl

pub int_alone : (v w : Value) (a : ℤ) → v ≡ value.Int a
    → ((b : ℤ) → w ≡ value.Int b → ⊥) → false ≡ same_element v w
int_alone v w a e isnt =
    int_and w a (out-Value w) refl isnt ∙ both_at v w _ _ (ap out-Value e ∙ out_int a) refl

object_and : (w : Value) (c : ℕ) (p : Place) (vs : List Value) (l : Layer) → out-Value w ≡ l
    → ((d : ℕ) (q : Place) (ws : List Value) → w ≡ value.Object d q ws → ⊥)
    → false ≡ same_at (Value-F.Object c p vs) l
object_and w c p vs (Value-F.Object d q ws) e isnt = absurd (isnt d q ws (is_object w d q ws e))
object_and w c p vs l e isnt = refl

pub object_alone : (v w : Value) (c : ℕ) (p : Place) (vs : List Value) → v ≡ value.Object c p vs
    → ((d : ℕ) (q : Place) (ws : List Value) → w ≡ value.Object d q ws → ⊥)
    → false ≡ same_element v w
object_alone v w c p vs e isnt =
    object_and w c p vs (out-Value w) refl isnt
    ∙ both_at v w _ _ (ap out-Value e ∙ out_object c p vs) refl

other_and : (v : Value) (l m : Layer) → out-Value v ≡ l
    → ((a : List ℕ) → v ≡ value.Text a → ⊥)
    → ((a : ℤ) → v ≡ value.Int a → ⊥)
    → ((c : ℕ) (p : Place) (vs : List Value) → v ≡ value.Object c p vs → ⊥)
    → false ≡ same_at l m
other_and v (Value-F.Text a) m e no_text no_int no_object = absurd (no_text a (is_text v a e))
other_and v (Value-F.Int a) m e no_text no_int no_object = absurd (no_int a (is_int v a e))
other_and v (Value-F.Object c p vs) m e no_text no_int no_object =
    absurd (no_object c p vs (is_object v c p vs e))
other_and v l m e no_text no_int no_object = refl

pub other_alone : (v w : Value)
    → ((a : List ℕ) → v ≡ value.Text a → ⊥)
    → ((a : ℤ) → v ≡ value.Int a → ⊥)
    → ((c : ℕ) (p : Place) (vs : List Value) → v ≡ value.Object c p vs → ⊥)
    → false ≡ same_element v w
other_alone v w no_text no_int no_object =
    other_and v (out-Value v) (out-Value w) refl no_text no_int no_object
    ∙ both_at v w _ _ refl refl

pub ruleset elements = (texts, ints, objects, text_alone, int_alone, object_alone, other_alone)

-- What a fold over a value gives at each of the forms that examples use.
use Rattle.std.proofs.Common.{◌≡◌, ℕ, List, map, sym, ap, ◌∙◌}
use Rattle.std.specs.Prelude.{ℤ}
use Rattle.dg_lex.specs.Bytes.{Bytes}
use Rattle.dg_value.specs.declared.place.Place.{Place}
use Rattle.dg_value.specs.declared.value.Kept.TheOpen.{Kept-F, Value-F}
use Rattle.dg_value.specs.declared.value.Kept.TheFolds.{fold-roll-Value}
use Rattle.dg_value.specs.declared.value.Value.{Value, fold-Value}
use Rattle.dg_value.specs.declared.value.Value.TheVariants as value

pub value-Text : {A B : Type 0} (f : Kept-F A B → A) (g : Value-F A B → B) (t : Bytes)
    → fold-Value A B f g (value.Text t) ≡ g (Value-F.Text t)
value-Text {A = A} {B = B} f g t =
    ap (fold-Value A B f g) (sym (value.rolls-Text t))
    ∙ fold-roll-Value A B f g (Value-F.Text t)

pub value-Int : {A B : Type 0} (f : Kept-F A B → A) (g : Value-F A B → B) (n : ℤ)
    → fold-Value A B f g (value.Int n) ≡ g (Value-F.Int n)
value-Int {A = A} {B = B} f g n =
    ap (fold-Value A B f g) (sym (value.rolls-Int n))
    ∙ fold-roll-Value A B f g (Value-F.Int n)

pub value-Object : {A B : Type 0} (f : Kept-F A B → A) (g : Value-F A B → B) (c : ℕ) (p : Place)
    (vs : List Value) → fold-Value A B f g (value.Object c p vs)
    ≡ g (Value-F.Object c p (map (fold-Value A B f g) vs))
value-Object {A = A} {B = B} f g c p vs =
    ap (fold-Value A B f g) (sym (value.rolls-Object c p vs))
    ∙ fold-roll-Value A B f g (Value-F.Object c p vs)

pub value-Held : {A B : Type 0} (f : Kept-F A B → A) (g : Value-F A B → B) (i k : ℕ)
    → fold-Value A B f g (value.Held i k) ≡ g (Value-F.Held i k)
value-Held {A = A} {B = B} f g i k =
    ap (fold-Value A B f g) (sym (value.rolls-Held i k))
    ∙ fold-roll-Value A B f g (Value-F.Held i k)

pub value-Set : {A B : Type 0} (f : Kept-F A B → A) (g : Value-F A B → B) (vs : List Value)
    → fold-Value A B f g (value.Set vs) ≡ g (Value-F.Set (map (fold-Value A B f g) vs))
value-Set {A = A} {B = B} f g vs =
    ap (fold-Value A B f g) (sym (value.rolls-Set vs))
    ∙ fold-roll-Value A B f g (Value-F.Set vs)

-- ---- the same of folds that give functions, at an argument

pub value_at-Text : {A S B : Type 0} (f : Kept-F A (S → B) → A) (g : Value-F A (S → B) → S → B)
    (t : Bytes) (s : S) → fold-Value A (S → B) f g (value.Text t) s ≡ g (Value-F.Text t) s
value_at-Text f g t s = ap (λ h. h s) (value-Text f g t)

pub value_at-Int : {A S B : Type 0} (f : Kept-F A (S → B) → A) (g : Value-F A (S → B) → S → B)
    (n : ℤ) (s : S) → fold-Value A (S → B) f g (value.Int n) s ≡ g (Value-F.Int n) s
value_at-Int f g n s = ap (λ h. h s) (value-Int f g n)

pub value_at-Object : {A S B : Type 0} (f : Kept-F A (S → B) → A) (g : Value-F A (S → B) → S → B)
    (c : ℕ) (p : Place) (vs : List Value) (s : S)
    → fold-Value A (S → B) f g (value.Object c p vs) s
    ≡ g (Value-F.Object c p (map (fold-Value A (S → B) f g) vs)) s
value_at-Object f g c p vs s = ap (λ h. h s) (value-Object f g c p vs)

pub value_at-Set : {A S B : Type 0} (f : Kept-F A (S → B) → A) (g : Value-F A (S → B) → S → B)
    (vs : List Value) (s : S)
    → fold-Value A (S → B) f g (value.Set vs) s
    ≡ g (Value-F.Set (map (fold-Value A (S → B) f g) vs)) s
value_at-Set f g vs s = ap (λ h. h s) (value-Set f g vs)

pub ruleset values = (
  value-Text,
  value-Int,
  value-Object,
  value-Held,
  value-Set,
  value_at-Text,
  value_at-Int,
  value_at-Object,
  value_at-Set,
)

-- Elements that are told apart by what was noted are the distinct ones.
use Rattle.std.proofs.Common.{◌≡◌, Bool, true, false, ◌&&◌, ◌||◌, if◌then◌else◌, List, [], ◌∷◌, ◌++◌, Option, Some, None, refl, ap, sym, ◌∙◌}
use Rattle.std.specs.List.{list_any, filter_map, cons_option}
use Rattle.std.proofs.lemmas.List.{append-nil}
use Rattle.std.proofs.lemmas.List.Elements.{filter_map-append}
use lib.Pointwise.{pointwise}
use Rattle.dg_value.specs.contracts.place.PlacePartialEq.TheImpl as of_places
use Rattle.dg_value.specs.contracts.place.PlaceRootPartialEq.TheImpl as of_roots
use Rattle.dg_value.specs.contracts.place.PlaceStepPartialEq.TheImpl as of_steps
use Rattle.dg_value.specs.declared.place.Place.{Place}
use Rattle.dg_value.specs.declared.place.PlaceRoot.{PlaceRoot}
use Rattle.dg_value.specs.declared.place.PlaceRoot.TheVariants as root
use Rattle.dg_value.specs.declared.place.PlaceStep.{PlaceStep}
use Rattle.dg_value.specs.declared.place.PlaceStep.TheVariants as step
use Rattle.dg_value.specs.declared.value.Value.{Value, out-Value}
use Rattle.dg_value.specs.declared.value.Kept.TheOpen.{Value-F}
use Rattle.dg_value.specs.Places.{same_root, same_step, same_steps, same_place}
use Rattle.dg_value.specs.Same.{Layer, same_at, same_element}
use Rattle.dg_bodies.specs.declared.element_key.ElementKey.{ElementKey}
use Rattle.dg_bodies.specs.Elements.{is_among, kept_of}
use Rattle.dg_bodies.specs.ElementKeys.{same_key, key_at, key_of, is_noted, with_key, with_noted, kept_by}
use Rattle.dg_bodies.specs.ElementKeys.{is_among as is_among_keys}

-- ---- the two tests of places agree

root_same : (a b : PlaceRoot) → of_roots.ghosts.eq a b ≡ same_root a b
root_same (root.Ask n) (root.Ask m) = refl
root_same (root.Cell i k) (root.Cell j l) = refl
root_same (root.Arg i a) (root.Arg j b) = refl
root_same r s = refl

step_same : (a b : PlaceStep) → of_steps.ghosts.eq a b ≡ same_step a b
step_same (step.Arg n) (step.Arg m) = refl
step_same (step.New n) (step.New m) = refl
step_same (step.Call n) (step.Call m) = refl
step_same (step.Elem n) (step.Elem m) = refl
step_same (step.Step n) (step.Step m) = refl
step_same step.Inside step.Inside = refl
step_same s t = refl

steps_same : (xs ys : List PlaceStep) → pointwise of_steps.ghosts.eq xs ys ≡ same_steps xs ys
steps_same [] [] = refl
steps_same [] (y ∷ ys) = refl
steps_same (x ∷ xs) [] = refl
steps_same (x ∷ xs) (y ∷ ys) = λ i. step_same x y i && steps_same xs ys i

place_same : (p q : Place) → of_places.ghosts.eq p q ≡ same_place p q
unfolding same_place
place_same p q = λ i. root_same p.root q.root i && steps_same p.steps q.steps i

-- ---- contents and what they are told apart by

-- both are told apart by something, and by the same
abbrev both_same : Option ElementKey → Option ElementKey → Bool
both_same (Some k) (Some l) = same_key k l
both_same k l = false

keys_same : (a b : Layer) → both_same (key_at a) (key_at b) ≡ same_at a b
unfolding same_key
keys_same (Value-F.Text a) (Value-F.Text b) = refl
keys_same (Value-F.Int a) (Value-F.Int b) = refl
keys_same (Value-F.Object c p fields) (Value-F.Object d q others) = place_same p q
keys_same a b = refl

elements_same : (a b : Value) → both_same (key_of a) (key_of b) ≡ same_element a b
unfolding same_element
elements_same a b = keys_same (out-Value a) (out-Value b)

-- what was noted of some contents
abbrev keys_of : List Value → List ElementKey
keys_of contents = filter_map key_of contents

none_noted : (k : Option ElementKey) → is_noted k [] ≡ false
none_noted None = refl
none_noted (Some k) = refl

one_more : (k l : Option ElementKey) (ls : List ElementKey)
    → is_noted k (cons_option l ls) ≡ (both_same k l || is_noted k ls)
one_more None None ls = refl
one_more None (Some l) ls = refl
one_more (Some k) None ls = refl
one_more (Some k) (Some l) ls = refl

noted_if_among : (a : Value) (bs : List Value) → is_noted (key_of a) (keys_of bs) ≡ is_among a bs
noted_if_among a [] = none_noted (key_of a)
noted_if_among a (b ∷ bs) =
    one_more (key_of a) (key_of b) (keys_of bs)
    ∙ (λ i. elements_same a b i || noted_if_among a bs i)

-- ---- what is noted next

noted_again : (k : Option ElementKey) (ls : List ElementKey) → is_noted k ls ≡ true
    → with_noted k ls ≡ ls
noted_again None ls e = refl
noted_again (Some k) ls e = ap (λ (b : Bool). if b then ls else ls ++ k ∷ []) e

noted_first : (k : Option ElementKey) (ls : List ElementKey) → is_noted k ls ≡ false
    → with_noted k ls ≡ ls ++ cons_option k []
noted_first None ls e = sym (append-nil ls)
noted_first (Some k) ls e = ap (λ (b : Bool). if b then ls else ls ++ k ∷ []) e

noted_with : (a : Value) (bs : List Value) → is_noted (key_of a) (keys_of bs) ≡ false
    → with_noted (key_of a) (keys_of bs) ≡ keys_of (bs ++ a ∷ [])
noted_with a bs e =
    noted_first (key_of a) (keys_of bs) e ∙ sym (filter_map-append key_of bs (a ∷ []))

-- ---- the elements that are kept

kept_same : (elements contents vs as_is : List Value)
    → kept_by elements (keys_of contents) vs as_is ≡ kept_of elements contents vs as_is
kept_same elements contents [] [] = refl
kept_same elements contents [] (a ∷ as_is) = refl
kept_same elements contents (v ∷ vs) [] = refl
kept_same elements contents (v ∷ vs) (a ∷ as_is) =
    by (is_among a contents) (noted_if_among a contents) (kept_same elements contents vs as_is)
    (kept_same (elements ++ v ∷ []) (contents ++ a ∷ []) vs as_is)
  where
    rest : List ElementKey → Bool → List Value
    rest keys b =
        if b then kept_by elements keys vs as_is else kept_by (elements ++ v ∷ []) keys vs as_is

    by : (b : Bool) → is_noted (key_of a) (keys_of contents) ≡ b
        → kept_by elements (keys_of contents) vs as_is ≡ kept_of elements contents vs as_is
        → kept_by (elements ++ v ∷ []) (keys_of (contents ++ a ∷ [])) vs as_is
        ≡ kept_of (elements ++ v ∷ []) (contents ++ a ∷ []) vs as_is
        → rest (with_noted (key_of a) (keys_of contents))
        (is_noted (key_of a) (keys_of contents))
        ≡ (if b then kept_of elements contents vs as_is
        else kept_of (elements ++ v ∷ []) (contents ++ a ∷ []) vs as_is)
    by true e same more =
        ap (λ (b : Bool). rest (with_noted (key_of a) (keys_of contents)) b) e
        ∙ ap (λ (keys : List ElementKey). kept_by elements keys vs as_is)
        (noted_again (key_of a) (keys_of contents) e)
        ∙ same
    by false e same more =
        ap (λ (b : Bool). rest (with_noted (key_of a) (keys_of contents)) b) e
        ∙ ap (λ (keys : List ElementKey). kept_by (elements ++ v ∷ []) keys vs as_is)
        (noted_with a contents e)
        ∙ more

pub kept_from_nothing : (vs as_is : List Value)
    → kept_by [] [] vs as_is ≡ kept_of [] [] vs as_is
kept_from_nothing vs as_is = kept_same [] [] vs as_is

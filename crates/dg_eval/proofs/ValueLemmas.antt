-- What is so of all that a value names, by its parts.
use Rattle.std.proofs.Common.{◌≡◌, ℕ, List, [], ◌∷◌, ◌++◌, map, Some, None, sym, ap, subst, ◌∙◌}
use Rattle.std.specs.Prelude.{ℤ}
use Rattle.dg_lex.specs.Bytes.{Bytes}
use Rattle.dg_types.specs.declared.key.MapKeyVal.{MapKeyVal}
use Rattle.dg_value.specs.declared.place.Place.{Place}
use Rattle.dg_value.specs.declared.value.Failure.{Failure}
use Rattle.dg_value.specs.declared.value.Kept.{Kept, out-Kept}
use Rattle.dg_value.specs.declared.value.Kept.TheVariants as kept
use Rattle.dg_value.specs.declared.value.Value.{Value, out-Value}
use Rattle.dg_value.specs.declared.value.Value.TheVariants as value
use Rattle.dg_value.specs.declared.value.Kept.TheOpen.{Kept-F, Value-F}
use Rattle.dg_value.specs.declared.value.Kept.TheViews.{roll-Kept, roll-Value, out-roll-Value, roll-out-Value, roll-out-Kept}
use Rattle.dg_value.specs.declared.value.Kept.TheFolds.{map-Kept, map-Value, fold-roll-Kept, fold-roll-Value}
use Rattle.dg_value.specs.Same.{Layer}
use Rattle.dg_eval.specs.Named.{Named, held_cell, made_lazy, way_to, joined, entries_joined, value_names, kept_names, names_in, names_in_kept}
use Rattle.dg_eval.proofs.RunResults.{Allowed, Each, each_append}

-- each of them has a property
abbrev pub AllIn : Allowed → Value → Type 0
AllIn R v = Each R.name (names_in v)

abbrev pub AllInKept : Allowed → Kept → Type 0
AllInKept R k = Each R.name (names_in_kept k)

abbrev pub InEntry : (Value → Type 0) → MapKeyVal × Value → Type 0
InEntry G e = G e.1

-- the same of the parts of a value
abbrev pub InLayer : Allowed → Layer → Type 0
InLayer R (Value-F.Object class ident fields) = Each (AllIn R) fields
InLayer R (Value-F.Held i k) = R.name (held_cell i k)
InLayer R (Value-F.Set vs) = Each (AllIn R) vs
InLayer R (Value-F.Map es) = Each (InEntry (AllIn R)) es
InLayer R (Value-F.Provider i k) = R.name (way_to i k)
InLayer R (Value-F.ProviderLazy i k) = R.name (way_to i k)
InLayer R (Value-F.Lazy i k p) = R.name (made_lazy i k p)
InLayer R (Value-F.Opt (Some v)) = AllIn R v
InLayer R (Value-F.Outcome k) = AllInKept R k
InLayer R other = Unit {0}

abbrev pub InKeptLayer : Allowed → Kept-F Kept Value → Type 0
InKeptLayer R (Kept-F.Value v) = AllIn R v
InKeptLayer R (Kept-F.Failed f) = Unit {0}

each_left : {A : Type 0} (P : A → Type 0) (xs ys : List A) → Each P (xs ++ ys) → Each P xs
each_left P [] ys all = tt
each_left P (x ∷ xs) ys all = (all.0, each_left P xs ys all.1)

each_right : {A : Type 0} (P : A → Type 0) (xs ys : List A) → Each P (xs ++ ys) → Each P ys
each_right P [] ys all = all
each_right P (x ∷ xs) ys all = each_right P xs ys all.1

joined_to : (R : Allowed) (vs : List Value) → Each R.name (joined (map names_in vs))
    → Each (AllIn R) vs
joined_to R [] all = tt
joined_to R (v ∷ vs) all = (
  each_left R.name (names_in v) (joined (map names_in vs)) all,
  joined_to R vs (each_right R.name (names_in v) (joined (map names_in vs)) all),
)

joined_from : (R : Allowed) (vs : List Value) → Each (AllIn R) vs
    → Each R.name (joined (map names_in vs))
joined_from R [] all = tt
joined_from R (v ∷ vs) all =
    each_append R.name (names_in v) (joined (map names_in vs)) all.0 (joined_from R vs all.1)

abbrev entry_names : List (MapKeyVal × Value) → List (MapKeyVal × List Named)
entry_names es = map (λ e. (e.0, names_in e.1)) es

entries_to : (R : Allowed) (es : List (MapKeyVal × Value))
    → Each R.name (entries_joined (entry_names es)) → Each (InEntry (AllIn R)) es
entries_to R [] all = tt
entries_to R (e ∷ es) all = (
  each_left R.name (names_in e.1) (entries_joined (entry_names es)) all,
  entries_to R es (each_right R.name (names_in e.1) (entries_joined (entry_names es)) all),
)

entries_from : (R : Allowed) (es : List (MapKeyVal × Value))
    → Each (InEntry (AllIn R)) es → Each R.name (entries_joined (entry_names es))
entries_from R [] all = tt
entries_from R (e ∷ es) all =
    each_append R.name (names_in e.1) (entries_joined (entry_names es)) all.0 (entries_from R es all.1)

abbrev layer_names : Layer → List Named
layer_names l = value_names (map-Value Kept Value (List Named) (List Named) names_in_kept names_in l)

abbrev kept_layer_names : Kept-F Kept Value → List Named
kept_layer_names l =
    kept_names (map-Kept Kept Value (List Named) (List Named) names_in_kept names_in l)

to_layer : (R : Allowed) (l : Layer) → Each R.name (layer_names l) → InLayer R l
to_layer R (Value-F.Text t) all = tt
to_layer R (Value-F.Int n) all = tt
to_layer R (Value-F.Object class ident fields) all = joined_to R fields all
to_layer R (Value-F.Held i k) all = all.0
to_layer R (Value-F.Set vs) all = joined_to R vs all
to_layer R (Value-F.Map es) all = entries_to R es all
to_layer R (Value-F.Provider i k) all = all.0
to_layer R (Value-F.ProviderLazy i k) all = all.0
to_layer R (Value-F.Lazy i k p) all = all.0
to_layer R (Value-F.Opt None) all = tt
to_layer R (Value-F.Opt (Some v)) all = all
to_layer R (Value-F.Outcome k) all = all

from_layer : (R : Allowed) (l : Layer) → InLayer R l → Each R.name (layer_names l)
from_layer R (Value-F.Text t) all = tt
from_layer R (Value-F.Int n) all = tt
from_layer R (Value-F.Object class ident fields) all = joined_from R fields all
from_layer R (Value-F.Held i k) all = (all, tt)
from_layer R (Value-F.Set vs) all = joined_from R vs all
from_layer R (Value-F.Map es) all = entries_from R es all
from_layer R (Value-F.Provider i k) all = (all, tt)
from_layer R (Value-F.ProviderLazy i k) all = (all, tt)
from_layer R (Value-F.Lazy i k p) all = (all, tt)
from_layer R (Value-F.Opt None) all = tt
from_layer R (Value-F.Opt (Some v)) all = all
from_layer R (Value-F.Outcome k) all = all

names_rolled : (l : Layer) → names_in (roll-Value l) ≡ layer_names l
unfolding names_in names_in_kept
names_rolled l = fold-roll-Value (List Named) (List Named) kept_names value_names l

kept_names_rolled : (l : Kept-F Kept Value) → names_in_kept (roll-Kept l) ≡ kept_layer_names l
unfolding names_in names_in_kept
kept_names_rolled l = fold-roll-Kept (List Named) (List Named) kept_names value_names l

-- a value has a property where its parts have it
pub of_layer : (R : Allowed) (l : Layer) (v : Value) → roll-Value l ≡ v → InLayer R l
    → AllIn R v
of_layer R l v e all =
    let P : Value → Type 0 = AllIn R in
    let Q : List Named → Type 0 = Each R.name in
    subst P e (subst Q (sym (names_rolled l)) (from_layer R l all))

pub layer_of : (R : Allowed) (v : Value) → AllIn R v → InLayer R (out-Value v)
layer_of R v all =
    let Q : List Named → Type 0 = Each R.name in
    let same : names_in v ≡ layer_names (out-Value v) =
    ap names_in (sym (roll-out-Value v)) ∙ names_rolled (out-Value v) in
    to_layer R (out-Value v) (subst Q same all)

kept_to_layer : (R : Allowed) (l : Kept-F Kept Value) → Each R.name (kept_layer_names l)
    → InKeptLayer R l
kept_to_layer R (Kept-F.Value v) all = all
kept_to_layer R (Kept-F.Failed f) all = tt

pub kept_layer_of : (R : Allowed) (k : Kept) → AllInKept R k → InKeptLayer R (out-Kept k)
kept_layer_of R k all =
    let Q : List Named → Type 0 = Each R.name in
    let same : names_in_kept k ≡ kept_layer_names (out-Kept k) =
    ap names_in_kept (sym (roll-out-Kept k)) ∙ kept_names_rolled (out-Kept k) in
    kept_to_layer R (out-Kept k) (subst Q same all)

-- ---- each form

pub in_text : (R : Allowed) (t : Bytes) → AllIn R (value.Text t)
in_text R t = of_layer R (Value-F.Text t) (value.Text t) (value.rolls-Text t) tt

pub in_int : (R : Allowed) (n : ℤ) → AllIn R (value.Int n)
in_int R n = of_layer R (Value-F.Int n) (value.Int n) (value.rolls-Int n) tt

pub in_object : (R : Allowed) (class : ℕ) (q : Place) (vs : List Value) → Each (AllIn R) vs
    → AllIn R (value.Object class q vs)
in_object R class q vs all =
    of_layer R (Value-F.Object class q vs) (value.Object class q vs)
    (value.rolls-Object class q vs) all

pub in_held : (R : Allowed) (i k : ℕ) → R.name (held_cell i k) → AllIn R (value.Held i k)
in_held R i k h = of_layer R (Value-F.Held i k) (value.Held i k) (value.rolls-Held i k) h

pub in_set : (R : Allowed) (vs : List Value) → Each (AllIn R) vs → AllIn R (value.Set vs)
in_set R vs all = of_layer R (Value-F.Set vs) (value.Set vs) (value.rolls-Set vs) all

pub in_map : (R : Allowed) (es : List (MapKeyVal × Value)) → Each (InEntry (AllIn R)) es
    → AllIn R (value.Map es)
in_map R es all = of_layer R (Value-F.Map es) (value.Map es) (value.rolls-Map es) all

pub in_provider : (R : Allowed) (i k : ℕ) → R.name (way_to i k) → AllIn R (value.Provider i k)
in_provider R i k h =
    of_layer R (Value-F.Provider i k) (value.Provider i k) (value.rolls-Provider i k) h

pub in_provider_lazy : (R : Allowed) (i k : ℕ) → R.name (way_to i k)
    → AllIn R (value.ProviderLazy i k)
in_provider_lazy R i k h =
    of_layer R (Value-F.ProviderLazy i k) (value.ProviderLazy i k)
    (value.rolls-ProviderLazy i k) h

pub in_lazy : (R : Allowed) (i k : ℕ) (p : Place) → R.name (made_lazy i k p)
    → AllIn R (value.Lazy i k p)
in_lazy R i k p h =
    of_layer R (Value-F.Lazy i k p) (value.Lazy i k p) (value.rolls-Lazy i k p) h

pub in_none : (R : Allowed) → AllIn R (value.Opt None)
in_none R = of_layer R (Value-F.Opt None) (value.Opt None) (value.rolls-Opt None) tt

pub in_some : (R : Allowed) (v : Value) → AllIn R v → AllIn R (value.Opt (Some v))
in_some R v h =
    of_layer R (Value-F.Opt (Some v)) (value.Opt (Some v)) (value.rolls-Opt (Some v)) h

pub in_failed : (R : Allowed) (f : Failure) → AllIn R (value.Outcome (kept.Failed f))
in_failed R f =
    let Q : List Named → Type 0 = Each R.name in
    let same = ap names_in_kept (sym (kept.rolls-Failed f)) ∙ kept_names_rolled (Kept-F.Failed f) in
    of_layer R (Value-F.Outcome (kept.Failed f)) (value.Outcome (kept.Failed f))
    (value.rolls-Outcome (kept.Failed f)) (subst Q (sym same) tt)

pub in_good : (R : Allowed) (v : Value) → AllIn R v
    → AllIn R (value.Outcome (kept.Value v))
in_good R v h =
    let Q : List Named → Type 0 = Each R.name in
    let same = ap names_in_kept (sym (kept.rolls-Value v)) ∙ kept_names_rolled (Kept-F.Value v) in
    of_layer R (Value-F.Outcome (kept.Value v)) (value.Outcome (kept.Value v))
    (value.rolls-Outcome (kept.Value v)) (subst Q (sym same) h)

-- what a deferred value is

pub out_provider : (i k : ℕ) → out-Value (value.Provider i k) ≡ Value-F.Provider i k
out_provider i k = ap out-Value (sym (value.rolls-Provider i k)) ∙ out-roll-Value (Value-F.Provider i k)

pub out_provider_lazy : (i k : ℕ) → out-Value (value.ProviderLazy i k) ≡ Value-F.ProviderLazy i k
out_provider_lazy i k =
    ap out-Value (sym (value.rolls-ProviderLazy i k)) ∙ out-roll-Value (Value-F.ProviderLazy i k)

pub out_lazy : (i k : ℕ) (p : Place) → out-Value (value.Lazy i k p) ≡ Value-F.Lazy i k p
out_lazy i k p = ap out-Value (sym (value.rolls-Lazy i k p)) ∙ out-roll-Value (Value-F.Lazy i k p)

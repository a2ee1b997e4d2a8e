-- A value is there with what it holds, where the content of each cell that it holds is.
use Rattle.std.proofs.Common.{◌≡◌, ℕ, suc, List, [], ◌∷◌, map, Option, Some, None, option_map, option_and_then, refl, sym, subst}
use Rattle.std.specs.Prelude.{IsSome}
use Rattle.dg_types.specs.declared.key.MapKeyVal.{MapKeyVal}
use Rattle.dg_decl.specs.declared.document.Doc.{Doc}
use Rattle.dg_value.specs.declared.value.Kept.{Kept, fold-Kept}
use Rattle.dg_value.specs.declared.value.Kept.TheVariants as kept
use Rattle.dg_value.specs.declared.value.Kept.TheOpen.{Kept-F, Value-F}
use Rattle.dg_value.specs.declared.value.Kept.TheViews.{roll-Kept, roll-Value, out-roll-Kept, out-roll-Value}
use Rattle.dg_value.specs.declared.value.Kept.TheFolds.{ind-Value, map-Kept, map-Value, fold-roll-Kept, fold-roll-Value}
use Rattle.dg_value.specs.declared.value.Value.{Value}
use Rattle.dg_value.specs.declared.value.Value.TheVariants as value
use Rattle.dg_value.specs.Same.{Layer}
use Rattle.dg_eval.specs.Named.{held_cell}
use Rattle.dg_eval.specs.Meaning.{content_of}
use Rattle.dg_eval.specs.Report.{all_some, value_some, inside_some, value_of_run, whole_at, whole_kept_at, whole}
use Rattle.dg_eval.proofs.RunResults.{Allowed, Each}
use Rattle.dg_eval.proofs.ValueLemmas.{AllIn, AllInKept, InEntry, InLayer, InKeptLayer, layer_of, kept_layer_of}

-- ---- what is made of parts that are there

abbrev Present : {A : Type 0} → Option A → Type 0
Present o = IsSome o

map_there : {A B : Type 0} (f : A → B) (o : Option A) → IsSome o → IsSome (option_map f o)
map_there f None e = e
map_there f (Some a) e = refl

all_there : {A : Type 0} (xs : List (Option A)) → Each Present xs → IsSome (all_some xs)
all_there [] every = refl
all_there (None ∷ xs) every = every.0
all_there (Some a ∷ xs) every = map_there (λ more. a ∷ more) (all_some xs) (all_there xs every.1)

inside_there : (o : Option Value) → IsSome o → IsSome (option_map value.Opt (inside_some (Some o)))
inside_there None e = e
inside_there (Some v) e = refl

-- ---- the forms of values

abbrev whole_kept : Doc → ℕ → Kept → Option Kept
whole_kept doc times =
    fold-Kept (Option Kept) (Option Value) whole_kept_at (whole_at doc (whole doc times))

whole_rolled : (doc : Doc) (times : ℕ) (l : Layer) → whole doc (suc times) (roll-Value l)
    ≡ whole_at doc (whole doc times) (map-Value Kept Value (Option Kept) (Option Value)
    (whole_kept doc times) (whole doc (suc times)) l)
whole_rolled doc times l =
    fold-roll-Value (Option Kept) (Option Value) whole_kept_at (whole_at doc (whole doc times)) l

whole_kept_rolled : (doc : Doc) (times : ℕ) (l : Kept-F Kept Value)
    → whole_kept doc times (roll-Kept l)
    ≡ whole_kept_at (map-Kept Kept Value (Option Kept) (Option Value) (whole_kept doc times)
    (whole doc (suc times)) l)
whole_kept_rolled doc times l =
    fold-roll-Kept (Option Kept) (Option Value) whole_kept_at (whole_at doc (whole doc times)) l

in_rolled : (R : Allowed) (l : Layer) → AllIn R (roll-Value l) → InLayer R l
in_rolled R l good = subst (InLayer R) (out-roll-Value l) (layer_of R (roll-Value l) good)

in_kept_rolled : (R : Allowed) (l : Kept-F Kept Value) → AllInKept R (roll-Kept l)
    → InKeptLayer R l
in_kept_rolled R l good =
    subst (InKeptLayer R) (out-roll-Kept l) (kept_layer_of R (roll-Kept l) good)

-- ---- by induction over values

module _ (doc : Doc) (times : ℕ) (R : Allowed)
    (held : (i k : ℕ) → R.name (held_cell i k)
    → IsSome (option_and_then (whole doc times) (value_of_run (content_of doc i k)))) where
  abbrev IsWhole : Value → Type 0
  IsWhole v = AllIn R v → IsSome (whole doc (suc times) v)

  abbrev IsKeptWhole : Kept → Type 0
  IsKeptWhole k = AllInKept R k → IsSome (whole_kept doc times k)

  abbrev Part : Type 0
  Part = (v : Value) × IsWhole v

  abbrev KeptPart : Type 0
  KeptPart = (k : Kept) × IsKeptWhole k

  abbrev bare : Value-F KeptPart Part → Layer
  bare y = map-Value KeptPart Part Kept Value (λ p. p.0) (λ p. p.0) y

  abbrev bare_kept : Kept-F KeptPart Part → Kept-F Kept Value
  bare_kept y = map-Kept KeptPart Part Kept Value (λ p. p.0) (λ p. p.0) y

  members_whole : (ps : List Part) → Each (AllIn R) (map (λ p. p.0) ps)
      → Each Present (map (whole doc (suc times)) (map (λ p. p.0) ps))
  members_whole [] good = tt
  members_whole (p ∷ ps) good = (p.1 good.0, members_whole ps good.1)

  abbrev bare_entries : List (MapKeyVal × Part) → List (MapKeyVal × Value)
  bare_entries es = map (λ e. (e.0, e.1.0)) es

  entries_whole : (es : List (MapKeyVal × Part)) → Each (InEntry (AllIn R)) (bare_entries es)
      → Each Present
      (map value_some (map (λ e. (e.0, whole doc (suc times) e.1)) (bare_entries es)))
  entries_whole [] good = tt
  entries_whole (e ∷ es) good =
      (map_there _ (whole doc (suc times) e.1.0) (e.1.1 good.0), entries_whole es good.1)

  layer_whole : (y : Value-F KeptPart Part) → InLayer R (bare y)
      → IsSome (whole_at doc (whole doc times) (map-Value Kept Value (Option Kept) (Option Value)
      (whole_kept doc times) (whole doc (suc times)) (bare y)))
  layer_whole (Value-F.Text t) good = refl
  layer_whole (Value-F.Int n) good = refl
  layer_whole (Value-F.Object class ident ps) good =
      map_there (value.Object class ident) _ (all_there _ (members_whole ps good))
  layer_whole (Value-F.Held i k) good = held i k good
  layer_whole (Value-F.Set ps) good = map_there value.Set _ (all_there _ (members_whole ps good))
  layer_whole (Value-F.Map es) good = map_there value.Map _ (all_there _ (entries_whole es good))
  layer_whole (Value-F.Provider i k) good = refl
  layer_whole (Value-F.ProviderLazy i k) good = refl
  layer_whole (Value-F.Lazy i k p) good = refl
  layer_whole (Value-F.Opt None) good = refl
  layer_whole (Value-F.Opt (Some p)) good = inside_there (whole doc (suc times) p.0) (p.1 good)
  layer_whole (Value-F.Outcome p) good =
      map_there value.Outcome (whole_kept doc times p.0) (p.1 good)

  kept_layer_whole : (y : Kept-F KeptPart Part) → InKeptLayer R (bare_kept y)
      → IsSome (whole_kept_at (map-Kept Kept Value (Option Kept) (Option Value)
      (whole_kept doc times) (whole doc (suc times)) (bare_kept y)))
  kept_layer_whole (Kept-F.Value p) good =
      map_there kept.Value (whole doc (suc times) p.0) (p.1 good)
  kept_layer_whole (Kept-F.Failed f) good = refl

  value_whole : (y : Value-F KeptPart Part) → IsWhole (roll-Value (bare y))
  value_whole y good =
      let P : Option Value → Type 0 = Present in
      subst P (sym (whole_rolled doc times (bare y))) (layer_whole y (in_rolled R (bare y) good))

  kept_whole : (y : Kept-F KeptPart Part) → IsKeptWhole (roll-Kept (bare_kept y))
  kept_whole y good =
      let P : Option Kept → Type 0 = Present in
      subst P (sym (whole_kept_rolled doc times (bare_kept y)))
      (kept_layer_whole y (in_kept_rolled R (bare_kept y) good))

  pub one_pass : (v : Value) → IsWhole v
  one_pass = ind-Value IsKeptWhole IsWhole
      (λ x y is. subst (λ (z : Kept-F Kept Value). IsKeptWhole (roll-Kept z)) is (kept_whole y))
      (λ x y is. subst (λ (z : Layer). IsWhole (roll-Value z)) is (value_whole y))

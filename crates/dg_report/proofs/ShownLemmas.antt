-- What is appended for a value, form by form, and how much is walked through.
use Rattle.std.proofs.Common.{◌≡◌, ℕ, zero, suc, ◌+◌, ◌-◌, ◌<◌, List, [], ◌∷◌, length, get_or, map, Option, Some, None, option_map, codes, refl, sym, ap, ◌∙◌, arith}
use Rattle.std.specs.Prelude.{ℤ}
use Rattle.std.specs.Fmt.{signed_decimal}
use Rattle.dg_lex.specs.Bytes.{Bytes}
use Rattle.dg_lex.specs.Lexemes.{quoted}
use Rattle.dg_types.specs.declared.key.MapKeyVal.{MapKeyVal}
use Rattle.dg_decl.specs.declared.document.Doc.{Doc}
use Rattle.dg_value.specs.declared.place.Place.{Place}
use Rattle.dg_value.specs.declared.value.Failure.{Failure}
use Rattle.dg_value.specs.declared.value.Kept.{Kept, fold-Kept}
use Rattle.dg_value.specs.declared.value.Kept.TheVariants as kept
use Rattle.dg_value.specs.declared.value.Kept.TheOpen.{Kept-F, Value-F}
use Rattle.dg_value.specs.declared.value.Kept.TheViews.{roll-Value}
use Rattle.dg_value.specs.declared.value.Kept.TheFolds.{map-Value, fold-roll-Kept, fold-roll-Value}
use Rattle.dg_value.specs.declared.value.Value.{Value}
use Rattle.dg_value.specs.declared.value.Value.TheVariants as value
use Rattle.dg_eval.specs.Report.{Printing, kept_text_at, value_fields}
use Rattle.dg_report.specs.Held.{Content}
use Rattle.dg_report.specs.Output.{Output, followed, with_text, with_set, with_map, with_inside, with_fields, with_object}
use Rattle.dg_report.specs.Shown.{shown_at, shown_by, kept_by, shown, cell_shown, with_value, with_kept, with_cell, total, inside_weight, weight_at, kept_weight_at, weight_by, kept_weight_by, weight, cell_weight, kept_weight}
use Rattle.dg_report.proofs.OutputLemmas.{followed_text, followed_none, followed_between, set_listed, map_listed, object_followed}

-- ---- what is printed

kept_is : (doc : Doc) (held : ℕ → ℕ → Printing) (k : Kept)
    → fold-Kept Printing Printing kept_text_at (shown_at doc held) k ≡ kept_by (shown_by doc held) k
kept_is doc held (kept.Value v) =
    ap (fold-Kept Printing Printing kept_text_at (shown_at doc held)) (sym (kept.rolls-Value v))
    ∙ fold-roll-Kept Printing Printing kept_text_at (shown_at doc held) (Kept-F.Value v)
kept_is doc held (kept.Failed f) =
    ap (fold-Kept Printing Printing kept_text_at (shown_at doc held)) (sym (kept.rolls-Failed f))
    ∙ fold-roll-Kept Printing Printing kept_text_at (shown_at doc held) (Kept-F.Failed f)

abbrev pub Layer : Type 0
Layer = Value-F Kept Value

-- what is printed of the parts of a value
abbrev pub parts : Doc → Content → ℕ → Layer → Value-F Printing Printing
parts doc content times =
    map-Value Kept Value Printing Printing (kept_by (shown doc content times)) (shown doc content times)

layer_shown : (doc : Doc) (held : ℕ → ℕ → Printing) (l : Layer)
    → shown_by doc held (roll-Value l)
    ≡ shown_at doc held (map-Value Kept Value Printing Printing (kept_by (shown_by doc held))
    (shown_by doc held) l)
layer_shown doc held l =
    fold-roll-Value Printing Printing kept_text_at (shown_at doc held) l
    ∙ (λ i. shown_at doc held (map-Value Kept Value Printing Printing (λ k. kept_is doc held k i)
    (shown_by doc held) l))

pub rolled : (doc : Doc) (content : Content) (times : ℕ) (l : Layer)
    → shown doc content times (roll-Value l)
    ≡ shown_at doc (cell_shown doc content times) (parts doc content times l)
unfolding shown cell_shown
rolled doc content zero l = layer_shown doc (cell_shown doc content zero) l
rolled doc content (suc times) l = layer_shown doc (cell_shown doc content (suc times)) l

pub form : (doc : Doc) (content : Content) (times : ℕ) (l : Layer) (v : Value) → roll-Value l ≡ v
    → shown doc content times v ≡ shown_at doc (cell_shown doc content times) (parts doc content times l)
form doc content times l v e = ap (shown doc content times) (sym e) ∙ rolled doc content times l

abbrev With : Doc → Content → ℕ → Output → Value → Output
With doc content times = with_value doc content times

-- a value of a form behind a text
line : (doc : Doc) (content : Content) (times : ℕ) (l : Layer) (v : Value) (o : Output)
    → roll-Value l ≡ v
    → with_value doc content times o v
    ≡ followed o (shown_at doc (cell_shown doc content times) (parts doc content times l))
unfolding with_value
line doc content times l v o e = ap (followed o) (form doc content times l v e)

same : (doc : Doc) (content : Content) (times : ℕ) (o : Output) (v : Value)
    → with_value doc content times o v ≡ followed o (shown doc content times v)
unfolding with_value
same doc content times o v = refl

module _ (doc : Doc) (content : Content) (times : ℕ) (o : Output) where
  pub line-Text : (t : Bytes)
      → with_value doc content times o (value.Text t) ≡ with_text o (quoted t)
  line-Text t = line doc content times (Value-F.Text t) (value.Text t) o (value.rolls-Text t) ∙ followed_text o (quoted t)

  pub line-Int : (n : ℤ) → with_value doc content times o (value.Int n)
      ≡ with_text o (signed_decimal n)
  line-Int n =
      line doc content times (Value-F.Int n) (value.Int n) o (value.rolls-Int n)
      ∙ followed_text o (signed_decimal n)

  pub line-Object : (class : ℕ) (ident : Place) (fields : List Value)
      → with_value doc content times o (value.Object class ident fields)
      ≡ with_object doc (λ n. with_fields (with_value doc content times) (value_fields doc class) 0 n
      fields) class ident o
  line-Object class ident fields =
      line doc content times (Value-F.Object class ident fields) (value.Object class ident fields) o
      (value.rolls-Object class ident fields)
      ∙ object_followed (shown doc content times) (with_value doc content times)
      (same doc content times) doc class ident fields o

  pub line-Held : (i k : ℕ) → with_value doc content times o (value.Held i k)
      ≡ with_cell doc content times i k o
  unfolding with_cell
  line-Held i k =
      line doc content times (Value-F.Held i k) (value.Held i k) o (value.rolls-Held i k)

  pub line-Set : (vs : List Value) → with_value doc content times o (value.Set vs)
      ≡ with_set (with_value doc content times) o vs
  line-Set vs =
      line doc content times (Value-F.Set vs) (value.Set vs) o (value.rolls-Set vs)
      ∙ set_listed (shown doc content times) (with_value doc content times)
      (same doc content times) o vs

  pub line-Map : (es : List (MapKeyVal × Value)) → with_value doc content times o (value.Map es)
      ≡ with_map (with_value doc content times) o es
  line-Map es =
      line doc content times (Value-F.Map es) (value.Map es) o (value.rolls-Map es)
      ∙ map_listed (shown doc content times) (with_value doc content times)
      (same doc content times) o es

  pub line-Provider : (i k : ℕ) → with_value doc content times o (value.Provider i k)
      ≡ with_text o (codes "Provider")
  line-Provider i k =
      line doc content times (Value-F.Provider i k) (value.Provider i k) o
      (value.rolls-Provider i k) ∙ followed_text o (codes "Provider")

  pub line-ProviderLazy : (i k : ℕ) → with_value doc content times o (value.ProviderLazy i k)
      ≡ with_text o (codes "Provider")
  line-ProviderLazy i k =
      line doc content times (Value-F.ProviderLazy i k) (value.ProviderLazy i k) o
      (value.rolls-ProviderLazy i k) ∙ followed_text o (codes "Provider")

  pub line-Lazy : (i k : ℕ) (p : Place) → with_value doc content times o (value.Lazy i k p)
      ≡ with_text o (codes "Lazy")
  line-Lazy i k p =
      line doc content times (Value-F.Lazy i k p) (value.Lazy i k p) o (value.rolls-Lazy i k p)
      ∙ followed_text o (codes "Lazy")

  pub line-Opt : (x : Option Value) → with_value doc content times o (value.Opt x)
      ≡ with_inside (with_value doc content times) o x
  line-Opt None =
      line doc content times (Value-F.Opt None) (value.Opt None) o (value.rolls-Opt None)
      ∙ followed_text o (codes "none")
  line-Opt (Some v) =
      line doc content times (Value-F.Opt (Some v)) (value.Opt (Some v)) o
      (value.rolls-Opt (Some v))
      ∙ followed_between o (codes "some(") (shown doc content times v) (codes ")")
      ∙ ap (λ (n : Output). with_text n (codes ")"))
      (sym (same doc content times (with_text o (codes "some(")) v))

  pub line-Outcome : (k : Kept) → with_value doc content times o (value.Outcome k)
      ≡ with_kept doc content times o k
  unfolding with_kept
  line-Outcome k =
      line doc content times (Value-F.Outcome k) (value.Outcome k) o (value.rolls-Outcome k)

  -- ---- what a cell keeps

  pub kept-Value : (v : Value) → with_kept doc content times o (kept.Value v)
      ≡ with_value doc content times o v
  unfolding with_kept with_value
  kept-Value v = refl

  pub kept-Failed : (f : Failure) → with_kept doc content times o (kept.Failed f)
      ≡ with_text o (quoted f.message)
  unfolding with_kept with_text
  kept-Failed f = refl

pub cell_unread : (doc : Doc) (content : Content) (times i k : ℕ) (o : Output)
    → times ≡ 0 → o ≡ with_cell doc content times i k o
unfolding with_cell cell_shown
cell_unread doc content zero i k o e = sym (followed_none o)
cell_unread doc content (suc times) i k o e = absurd (omega (arith, e))

pub cell_empty : (doc : Doc) (content : Content) (times i k : ℕ) (o : Output)
    → content i k ≡ None → o ≡ with_cell doc content times i k o
unfolding with_cell cell_shown
cell_empty doc content zero i k o e = sym (followed_none o)
cell_empty doc content (suc times) i k o e = rw e (sym (followed_none o))

pub cell_read : (doc : Doc) (content : Content) (times i k : ℕ) (o : Output) (kept : Kept)
    → (times ≡ 0 → ⊥) → content i k ≡ Some kept
    → with_kept doc content (times - 1) o kept ≡ with_cell doc content times i k o
unfolding with_cell with_kept cell_shown
cell_read doc content zero i k o kept ne e = absurd (ne refl)
cell_read doc content (suc times) i k o kept ne e =
    rw e (ap (λ (t : ℕ). followed o (kept_by (shown doc content t) kept)) (less times))
  where
    less : (t : ℕ) → suc t - 1 ≡ t
    less t = omega arith

pub ruleset value_forms = (line-Text, line-Int, line-Object, line-Held, line-Set, line-Map, line-Provider, line-ProviderLazy, line-Lazy, line-Opt, line-Outcome)

pub ruleset kept_forms = (kept-Value, kept-Failed)

-- ---- how much is walked through

kept_weighs : (held : ℕ → ℕ → ℕ) (k : Kept)
    → fold-Kept ℕ ℕ kept_weight_at (weight_at held) k ≡ kept_weight_by (weight_by held) k
kept_weighs held (kept.Value v) =
    ap (fold-Kept ℕ ℕ kept_weight_at (weight_at held)) (sym (kept.rolls-Value v))
    ∙ fold-roll-Kept ℕ ℕ kept_weight_at (weight_at held) (Kept-F.Value v)
kept_weighs held (kept.Failed f) =
    ap (fold-Kept ℕ ℕ kept_weight_at (weight_at held)) (sym (kept.rolls-Failed f))
    ∙ fold-roll-Kept ℕ ℕ kept_weight_at (weight_at held) (Kept-F.Failed f)

layer_weighs : (held : ℕ → ℕ → ℕ) (l : Layer)
    → weight_by held (roll-Value l)
    ≡ weight_at held (map-Value Kept Value ℕ ℕ (kept_weight_by (weight_by held)) (weight_by held) l)
layer_weighs held l =
    fold-roll-Value ℕ ℕ kept_weight_at (weight_at held) l
    ∙ (λ i. weight_at held (map-Value Kept Value ℕ ℕ (λ k. kept_weighs held k i) (weight_by held) l))

weighs : (content : Content) (times : ℕ) (l : Layer)
    → weight content times (roll-Value l)
    ≡ weight_at (cell_weight content times) (map-Value Kept Value ℕ ℕ (kept_weight content times)
    (weight content times) l)
unfolding weight cell_weight kept_weight
weighs content zero l = layer_weighs (cell_weight content zero) l
weighs content (suc times) l = layer_weighs (cell_weight content (suc times)) l

weigh : (content : Content) (times : ℕ) (l : Layer) (v : Value) → roll-Value l ≡ v
    → weight content times v
    ≡ weight_at (cell_weight content times) (map-Value Kept Value ℕ ℕ (kept_weight content times)
    (weight content times) l)
weigh content times l v e = ap (weight content times) (sym e) ∙ weighs content times l

map_total : (f : Value → ℕ) (es : List (MapKeyVal × Value))
    → total (map (λ (e : MapKeyVal × ℕ). e.1) (map (λ e. (e.0, f e.1)) es))
    ≡ total (map (λ e. f e.1) es)
map_total f [] = refl
map_total f (e ∷ es) = ap (λ (n : ℕ). suc (f e.1) + n) (map_total f es)

module _ (content : Content) (times : ℕ) where
  pub weight-Object : (class : ℕ) (ident : Place) (fields : List Value)
      → weight content times (value.Object class ident fields)
      ≡ 4 + total (map (weight content times) fields)
  weight-Object class ident fields =
      weigh content times (Value-F.Object class ident fields) (value.Object class ident fields)
      (value.rolls-Object class ident fields)

  pub weight-Held : (i k : ℕ) → weight content times (value.Held i k)
      ≡ 2 + cell_weight content times i k
  weight-Held i k = weigh content times (Value-F.Held i k) (value.Held i k) (value.rolls-Held i k)

  pub weight-Set : (vs : List Value) → weight content times (value.Set vs)
      ≡ 2 + total (map (weight content times) vs)
  weight-Set vs = weigh content times (Value-F.Set vs) (value.Set vs) (value.rolls-Set vs)

  pub weight-Map : (es : List (MapKeyVal × Value)) → weight content times (value.Map es)
      ≡ 2 + total (map (λ e. weight content times e.1) es)
  weight-Map es =
      weigh content times (Value-F.Map es) (value.Map es) (value.rolls-Map es)
      ∙ ap (λ (n : ℕ). 2 + n) (map_total (weight content times) es)

  pub weight-Opt : (x : Option Value) → weight content times (value.Opt x)
      ≡ 2 + inside_weight (option_map (weight content times) x)
  weight-Opt None = weigh content times (Value-F.Opt None) (value.Opt None) (value.rolls-Opt None)
  weight-Opt (Some v) =
      weigh content times (Value-F.Opt (Some v)) (value.Opt (Some v)) (value.rolls-Opt (Some v))

  pub weight-Outcome : (k : Kept) → weight content times (value.Outcome k)
      ≡ 2 + kept_weight content times k
  weight-Outcome k = weigh content times (Value-F.Outcome k) (value.Outcome k) (value.rolls-Outcome k)

  pub weight-kept : (v : Value) → kept_weight content times (kept.Value v)
      ≡ suc (weight content times v)
  unfolding kept_weight
  weight-kept v = refl

pub weight_read : (content : Content) (times i k : ℕ) (kept : Kept) → (times ≡ 0 → ⊥)
    → content i k ≡ Some kept → kept_weight content (times - 1) kept ≡ cell_weight content times i k
unfolding cell_weight kept_weight
weight_read content zero i k kept ne e = absurd (ne refl)
weight_read content (suc times) i k kept ne e =
    rw e (ap (λ (t : ℕ). kept_weight_by (weight content t) kept) (less times))
  where
    less : (t : ℕ) → suc t - 1 ≡ t
    less t = omega arith

-- a member is less than all
pub member_less : {A : Type 0} (f : A → ℕ) (xs : List A) (i : ℕ) (x : A) → i < length xs
    → x ≡ get_or xs i x → f x < 1 + total (map f xs)
member_less f [] i x lt is = absurd (omega arith)
member_less f (y ∷ ys) zero x lt is = rw is (omega arith)
member_less f (y ∷ ys) (suc i) x lt is =
    let h = member_less f ys i x (omega arith) is in
    omega (arith, h)

pub ruleset weights = (weight-Object, weight-Held, weight-Set, weight-Map, weight-Opt, weight-Outcome, weight-kept)

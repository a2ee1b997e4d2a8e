-- Where an object holds the content of each cell that a value comes to, what is printed by looking
-- cells up one by one is the text of the whole value.
use Rattle.std.proofs.Common.{◌≡◌, ℕ, zero, suc, List, [], ◌∷◌, ◌++◌, map, Option, Some, None, option_map, option_and_then, Contains, codes, refl, sym, ap, subst, ◌∙◌, arith}
use Rattle.std.specs.Prelude.{unwrap_or}
use Rattle.dg_types.specs.declared.key.MapKeyVal.{MapKeyVal}
use Rattle.dg_decl.specs.declared.document.Doc.{Doc}
use Rattle.dg_decl.specs.Walks.{root, step}
use Rattle.dg_value.specs.declared.value.Kept.{Kept, fold-Kept}
use Rattle.dg_value.specs.declared.value.Kept.TheVariants as kept
use Rattle.dg_value.specs.declared.value.Kept.TheOpen.{Kept-F, Value-F}
use Rattle.dg_value.specs.declared.value.Kept.TheViews.{roll-Kept, roll-Value}
use Rattle.dg_value.specs.declared.value.Kept.TheFolds.{ind-Value, map-Kept, map-Value, fold-roll-Kept, fold-roll-Value}
use Rattle.dg_value.specs.declared.value.Value.{Value}
use Rattle.dg_value.specs.declared.value.Value.TheVariants as value
use Rattle.dg_eval.specs.Meaning.{content_of}
use Rattle.dg_eval.specs.Report.{Printing, between, listed, entry_text, object_text, inside_text, kept_text_at, text_at, value_text, all_some, value_some, inside_some, value_of_run, whole_at, whole_kept_at, whole}
use Rattle.dg_report.specs.Held.{Cell, Content, joined, cells_at, kept_cells_at, cells_in, ComesTo, HoldsAll}
use Rattle.dg_report.specs.Shown.{shown_at, kept_by, shown, cell_shown}
use Rattle.dg_report.proofs.ShownLemmas.{Layer, parts, rolled}

-- ---- each form

abbrev kept_cells : Kept → List Cell
kept_cells = fold-Kept (List Cell) (List Cell) kept_cells_at cells_at

cells_rolled : (l : Layer) → cells_in (roll-Value l)
    ≡ cells_at (map-Value Kept Value (List Cell) (List Cell) kept_cells cells_in l)
unfolding cells_in
cells_rolled l = fold-roll-Value (List Cell) (List Cell) kept_cells_at cells_at l

kept_cells_rolled : (l : Kept-F Kept Value) → kept_cells (roll-Kept l)
    ≡ kept_cells_at (map-Kept Kept Value (List Cell) (List Cell) kept_cells cells_in l)
unfolding cells_in
kept_cells_rolled l = fold-roll-Kept (List Cell) (List Cell) kept_cells_at cells_at l

abbrev kept_text : Doc → Kept → Printing
kept_text doc = fold-Kept Printing Printing kept_text_at (text_at doc)

text_rolled : (doc : Doc) (l : Layer) → value_text doc (roll-Value l)
    ≡ text_at doc (map-Value Kept Value Printing Printing (kept_text doc) (value_text doc) l)
unfolding value_text
text_rolled doc l = fold-roll-Value Printing Printing kept_text_at (text_at doc) l

kept_text_rolled : (doc : Doc) (l : Kept-F Kept Value) → kept_text doc (roll-Kept l)
    ≡ kept_text_at (map-Kept Kept Value Printing Printing (kept_text doc) (value_text doc) l)
unfolding value_text
kept_text_rolled doc l = fold-roll-Kept Printing Printing kept_text_at (text_at doc) l

-- the text of a value of a form
text_form : (doc : Doc) (l : Layer) (v : Value) → roll-Value l ≡ v
    → text_at doc (map-Value Kept Value Printing Printing (kept_text doc) (value_text doc) l)
    ≡ value_text doc v
text_form doc l v e = sym (text_rolled doc l) ∙ ap (value_text doc) e

abbrev whole_kept : Doc → ℕ → Kept → Option Kept
whole_kept doc times =
    fold-Kept (Option Kept) (Option Value) whole_kept_at (whole_at doc (whole doc times))

whole_rolled : (doc : Doc) (times : ℕ) (l : Layer) → whole doc (suc times) (roll-Value l)
    ≡ whole_at doc (whole doc times) (map-Value Kept Value (Option Kept) (Option Value)
    (whole_kept doc times) (whole doc (suc times)) l)
whole_rolled doc times l =
    fold-roll-Value (Option Kept) (Option Value) whole_kept_at (whole_at doc (whole doc times)) l

whole_kept_rolled : (doc : Doc) (times : ℕ) (l : Kept-F Kept Value)
    → whole_kept doc times (roll-Kept l)
    ≡ whole_kept_at (map-Kept Kept Value (Option Kept) (Option Value) (whole_kept doc times)
    (whole doc (suc times)) l)
whole_kept_rolled doc times l =
    fold-roll-Kept (Option Kept) (Option Value) whole_kept_at (whole_at doc (whole doc times)) l

-- ---- options

some_same : {A : Type 0} (a b : A) → Some a ≡ Some b → a ≡ b
some_same a b e = ap (λ (o : Option _). unwrap_or o a) e

-- what a value was made of
made_of : {A B : Type 0} (f : A → B) (o : Option A) (b : B) → option_map f o ≡ Some b
    → (a : A) × (o ≡ Some a) × (f a ≡ b)
made_of f None b e = cc
made_of f (Some a) b e = (a, refl, some_same (f a) b e)

-- ---- each cell of a list

abbrev Every : (Cell → Type 0) → List Cell → Type 0
Every R [] = Unit {0}
Every R (c ∷ cs) = R c × Every R cs

every_left : (R : Cell → Type 0) (xs ys : List Cell) → Every R (xs ++ ys) → Every R xs
every_left R [] ys all = tt
every_left R (x ∷ xs) ys all = (all.0, every_left R xs ys all.1)

every_right : (R : Cell → Type 0) (xs ys : List Cell) → Every R (xs ++ ys) → Every R ys
every_right R [] ys all = all
every_right R (x ∷ xs) ys all = every_right R xs ys all.1

every_of : (R : Cell → Type 0) (cs : List Cell) → ((c : Cell) → Contains cs c → R c) → Every R cs
every_of R [] each = tt
every_of R (c ∷ cs) each = (
  each c (0, omega arith, refl),
  every_of R cs (λ d at. each d (suc at.0, omega (arith, at.1), at.2)),
)

-- ---- one pass

module _ (doc : Doc) (content : Content) (times : ℕ) (R : Cell → Type 0)
    (held : (i k : ℕ) (w : Value)
    → option_and_then (whole doc times) (value_of_run (content_of doc i k)) ≡ Some w → R (i, k)
    → cell_shown doc content times i k ≡ value_text doc w) where
  abbrev IsShown : Value → Type 0
  IsShown v =
      (w : Value) → whole doc (suc times) v ≡ Some w → Every R (cells_in v)
      → shown doc content times v ≡ value_text doc w

  abbrev IsKeptShown : Kept → Type 0
  IsKeptShown k =
      (w : Kept) → whole_kept doc times k ≡ Some w → Every R (kept_cells k)
      → kept_by (shown doc content times) k ≡ kept_text doc w

  abbrev Part : Type 0
  Part = (v : Value) × IsShown v

  abbrev KeptPart : Type 0
  KeptPart = (k : Kept) × IsKeptShown k

  abbrev bare : Value-F KeptPart Part → Layer
  bare y = map-Value KeptPart Part Kept Value (λ p. p.0) (λ p. p.0) y

  abbrev bare_kept : Kept-F KeptPart Part → Kept-F Kept Value
  bare_kept y = map-Kept KeptPart Part Kept Value (λ p. p.0) (λ p. p.0) y

  members_shown : (ps : List Part) (ws : List Value)
      → all_some (map (whole doc (suc times)) (map (λ p. p.0) ps)) ≡ Some ws
      → Every R (joined (map cells_in (map (λ p. p.0) ps)))
      → map (shown doc content times) (map (λ p. p.0) ps) ≡ map (value_text doc) ws
  members_shown [] ws e all = ap (map (value_text doc)) (some_same [] ws e)
  members_shown (p ∷ ps) ws e all =
      by (λ us is each. members_shown ps us is each) (whole doc (suc times) p.0) refl e
    where
      by : ((us : List Value)
          → all_some (map (whole doc (suc times)) (map (λ q. q.0) ps)) ≡ Some us
          → Every R (joined (map cells_in (map (λ q. q.0) ps)))
          → map (shown doc content times) (map (λ q. q.0) ps) ≡ map (value_text doc) us)
          → (o : Option Value) → whole doc (suc times) p.0 ≡ o
          → all_some (o ∷ map (whole doc (suc times)) (map (λ q. q.0) ps)) ≡ Some ws
          → map (shown doc content times) (p.0 ∷ map (λ q. q.0) ps) ≡ map (value_text doc) ws
      by below None is e = cc
      by below (Some w) is e =
          let more = made_of (λ more. w ∷ more) (all_some (map (whole doc (suc times)) (map (λ q. q.0) ps))) ws e in
          let here = p.1 w is (every_left R (cells_in p.0) (joined (map cells_in (map (λ q. q.0) ps))) all) in
          let rest = below more.0 more.1 (every_right R (cells_in p.0) (joined (map cells_in (map (λ q. q.0) ps))) all) in
          (λ i. here i ∷ rest i) ∙ ap (map (value_text doc)) more.2

  abbrev bare_entries : List (MapKeyVal × Part) → List (MapKeyVal × Value)
  bare_entries es = map (λ e. (e.0, e.1.0)) es

  abbrev texts : List (MapKeyVal × Value) → (Value → Printing) → List Printing
  texts es f = map entry_text (map (λ e. (e.0, f e.1)) es)

  abbrev entry_cells : List (MapKeyVal × Value) → List Cell
  entry_cells es = joined (map (λ (e : MapKeyVal × List Cell). e.1) (map (λ e. (e.0, cells_in e.1)) es))

  abbrev whole_entries : List (MapKeyVal × Value) → List (Option (MapKeyVal × Value))
  whole_entries es = map value_some (map (λ e. (e.0, whole doc (suc times) e.1)) es)

  entries_shown : (es : List (MapKeyVal × Part)) (ws : List (MapKeyVal × Value))
      → all_some (whole_entries (bare_entries es)) ≡ Some ws
      → Every R (entry_cells (bare_entries es))
      → texts (bare_entries es) (shown doc content times) ≡ texts ws (value_text doc)
  entries_shown [] ws e all =
      ap (λ (xs : List (MapKeyVal × Value)). texts xs (value_text doc)) (some_same [] ws e)
  entries_shown (p ∷ ps) ws e all =
      by (λ us is each. entries_shown ps us is each) (whole doc (suc times) p.1.0) refl e
    where
      by : ((us : List (MapKeyVal × Value)) → all_some (whole_entries (bare_entries ps)) ≡ Some us
          → Every R (entry_cells (bare_entries ps))
          → texts (bare_entries ps) (shown doc content times) ≡ texts us (value_text doc))
          → (o : Option Value) → whole doc (suc times) p.1.0 ≡ o
          → all_some (value_some (p.0, o) ∷ whole_entries (bare_entries ps)) ≡ Some ws
          → texts (bare_entries (p ∷ ps)) (shown doc content times) ≡ texts ws (value_text doc)
      by below None is e = cc
      by below (Some w) is e =
          let more = made_of (λ more. (p.0, w) ∷ more) (all_some (whole_entries (bare_entries ps))) ws e in
          let here = p.1.1 w is (every_left R (cells_in p.1.0) (entry_cells (bare_entries ps)) all) in
          let rest = below more.0 more.1 (every_right R (cells_in p.1.0) (entry_cells (bare_entries ps)) all) in
          (λ i. entry_text (p.0, here i) ∷ rest i)
          ∙ ap (λ (xs : List (MapKeyVal × Value)). texts xs (value_text doc)) more.2

  -- a value of a form, whose parts are shown
  layer_shown : (y : Value-F KeptPart Part) (w : Value)
      → whole_at doc (whole doc times) (map-Value Kept Value (Option Kept) (Option Value)
      (whole_kept doc times) (whole doc (suc times)) (bare y)) ≡ Some w
      → Every R (cells_at (map-Value Kept Value (List Cell) (List Cell) kept_cells cells_in (bare y)))
      → shown_at doc (cell_shown doc content times) (parts doc content times (bare y))
      ≡ value_text doc w
  layer_shown (Value-F.Text t) w e all =
      text_form doc (Value-F.Text t) (value.Text t) (value.rolls-Text t)
      ∙ ap (value_text doc) (some_same (value.Text t) w e)
  layer_shown (Value-F.Int n) w e all =
      text_form doc (Value-F.Int n) (value.Int n) (value.rolls-Int n)
      ∙ ap (value_text doc) (some_same (value.Int n) w e)
  layer_shown (Value-F.Object class ident ps) w e all =
      let made = made_of (value.Object class ident) (all_some (map (whole doc (suc times)) (map (λ p. p.0) ps))) w e in
      ap (object_text doc class ident) (members_shown ps made.0 made.1 all)
      ∙ text_form doc (Value-F.Object class ident made.0) (value.Object class ident made.0)
      (value.rolls-Object class ident made.0)
      ∙ ap (value_text doc) made.2
  layer_shown (Value-F.Held i k) w e all = held i k w e all.0
  layer_shown (Value-F.Set ps) w e all =
      let made = made_of value.Set (all_some (map (whole doc (suc times)) (map (λ p. p.0) ps))) w e in
      ap (λ (xs : List Printing). between (codes "[") (listed xs) (codes "]"))
      (members_shown ps made.0 made.1 all)
      ∙ text_form doc (Value-F.Set made.0) (value.Set made.0) (value.rolls-Set made.0)
      ∙ ap (value_text doc) made.2
  layer_shown (Value-F.Map es) w e all =
      let made = made_of value.Map (all_some (whole_entries (bare_entries es))) w e in
      ap (λ (xs : List Printing). between (codes "{") (listed xs) (codes "}"))
      (entries_shown es made.0 made.1 all)
      ∙ text_form doc (Value-F.Map made.0) (value.Map made.0) (value.rolls-Map made.0)
      ∙ ap (value_text doc) made.2
  layer_shown (Value-F.Provider i k) w e all =
      text_form doc (Value-F.Provider i k) (value.Provider i k) (value.rolls-Provider i k)
      ∙ ap (value_text doc) (some_same (value.Provider i k) w e)
  layer_shown (Value-F.ProviderLazy i k) w e all =
      text_form doc (Value-F.ProviderLazy i k) (value.ProviderLazy i k) (value.rolls-ProviderLazy i k)
      ∙ ap (value_text doc) (some_same (value.ProviderLazy i k) w e)
  layer_shown (Value-F.Lazy i k p) w e all =
      text_form doc (Value-F.Lazy i k p) (value.Lazy i k p) (value.rolls-Lazy i k p)
      ∙ ap (value_text doc) (some_same (value.Lazy i k p) w e)
  layer_shown (Value-F.Opt None) w e all =
      text_form doc (Value-F.Opt None) (value.Opt None) (value.rolls-Opt None)
      ∙ ap (value_text doc) (some_same (value.Opt None) w e)
  layer_shown (Value-F.Opt (Some p)) w e all = by (whole doc (suc times) p.0) refl e
    where
      by : (o : Option Value) → whole doc (suc times) p.0 ≡ o
          → option_map value.Opt (inside_some (Some o)) ≡ Some w
          → inside_text (Some (shown doc content times p.0)) ≡ value_text doc w
      by None is e = cc
      by (Some u) is e =
          ap (λ (x : Printing). inside_text (Some x)) (p.1 u is all)
          ∙ text_form doc (Value-F.Opt (Some u)) (value.Opt (Some u)) (value.rolls-Opt (Some u))
          ∙ ap (value_text doc) (some_same (value.Opt (Some u)) w e)
  layer_shown (Value-F.Outcome p) w e all =
      let made = made_of value.Outcome (whole_kept doc times p.0) w e in
      p.1 made.0 made.1 all
      ∙ text_form doc (Value-F.Outcome made.0) (value.Outcome made.0) (value.rolls-Outcome made.0)
      ∙ ap (value_text doc) made.2

  value_shown : (y : Value-F KeptPart Part) → IsShown (roll-Value (bare y))
  value_shown y w e all =
      rolled doc content times (bare y)
      ∙ layer_shown y w (sym (whole_rolled doc times (bare y)) ∙ e)
      (subst (Every R) (cells_rolled (bare y)) all)

  kept_shown : (y : Kept-F KeptPart Part) → IsKeptShown (roll-Kept (bare_kept y))
  kept_shown (Kept-F.Value p) w e all =
      let there : option_map kept.Value (whole doc (suc times) p.0) ≡ Some w =
      sym (whole_kept_rolled doc times (Kept-F.Value p.0)) ∙ e in
      let made = made_of kept.Value (whole doc (suc times) p.0) w there in
      ap (kept_by (shown doc content times)) (kept.rolls-Value p.0)
      ∙ p.1 made.0 made.1 (subst (Every R) (kept_cells_rolled (Kept-F.Value p.0)) all)
      ∙ sym (kept_text_rolled doc (Kept-F.Value made.0))
      ∙ ap (kept_text doc) (kept.rolls-Value made.0 ∙ made.2)
  kept_shown (Kept-F.Failed f) w e all =
      ap (kept_by (shown doc content times)) (kept.rolls-Failed f)
      ∙ sym (kept_text_rolled doc (Kept-F.Failed f))
      ∙ ap (kept_text doc) (kept.rolls-Failed f
      ∙ some_same (kept.Failed f) w (sym (whole_kept_rolled doc times (Kept-F.Failed f)) ∙ e))

  one_pass : (v : Value) → IsShown v
  one_pass = ind-Value IsKeptShown IsShown
      (λ x y is. subst (λ (z : Kept-F Kept Value). IsKeptShown (roll-Kept z)) is (kept_shown y))
      (λ x y is. subst (λ (z : Layer). IsShown (roll-Value z)) is (value_shown y))

-- ---- through the cells

-- an object holds the content of a cell, and what that comes to
abbrev IsHeld : Doc → Content → Cell → Type 0
IsHeld doc content c =
    (w : Value) → value_of_run (content_of doc c.0 c.1) ≡ Some w
    → (content c.0 c.1 ≡ Some (kept.Value w)) × HoldsAll doc content w

-- what the content of a cell comes to, the cell comes to
further : (doc : Doc) (v w : Value) (i k : ℕ) (c : Cell) → Contains (cells_in v) (i, k)
    → value_of_run (content_of doc i k) ≡ Some w → ComesTo doc w c → ComesTo doc v c
further doc v w i k c at is (root d there) =
    step (i, k) d (root (i, k) at) (rw is there)
further doc v w i k c at is (step m d reached there) =
    step m d (further doc v w i k m at is reached) there

cells_held : (doc : Doc) (content : Content) (v : Value) → HoldsAll doc content v
    → Every (IsHeld doc content) (cells_in v)
cells_held doc content v all =
    every_of (IsHeld doc content) (cells_in v) (λ c at w is. (
      all.held c.0 c.1 w (root c at) is,
      record { held = λ i k u reached of. all.held i k u (further doc v w c.0 c.1 (i, k) at is reached) of },
    ))

nothing_whole : (doc : Doc) (o : Option Value) (w : Value)
    → option_and_then (whole doc zero) o ≡ Some w → ⊥
nothing_whole doc None w e = cc
nothing_whole doc (Some u) w e = cc

-- what is printed by looking up is the text of the whole value
pub shown_whole : (doc : Doc) (content : Content) (times : ℕ) (v w : Value)
    → whole doc (suc times) v ≡ Some w → HoldsAll doc content v
    → shown doc content times v ≡ value_text doc w
unfolding cell_shown
shown_whole doc content zero v w e all =
    one_pass doc content zero (IsHeld doc content)
    (λ i k u there h. absurd (nothing_whole doc (value_of_run (content_of doc i k)) u there)) v w e
    (cells_held doc content v all)
shown_whole doc content (suc times) v w e all =
    one_pass doc content (suc times) (IsHeld doc content)
    (λ i k u there h. in_cell doc content times (shown_whole doc content times) i k u
    (value_of_run (content_of doc i k)) refl there h) v w e (cells_held doc content v all)
  where
    in_cell : (doc : Doc) (content : Content) (times : ℕ)
        → ((v w : Value) → whole doc (suc times) v ≡ Some w → HoldsAll doc content v
        → shown doc content times v ≡ value_text doc w)
        → (i k : ℕ) (w : Value) (o : Option Value)
        → value_of_run (content_of doc i k) ≡ o → option_and_then (whole doc (suc times)) o ≡ Some w
        → IsHeld doc content (i, k) → cell_shown doc content (suc times) i k ≡ value_text doc w
    in_cell doc content times below i k w None is e h = cc
    in_cell doc content times below i k w (Some u) is e h =
        let of = h u is in
        rw of.0 (below u w e of.1)

-- A tree that stores what an ask uses holds the content of each cell to which the reply comes.
use Rattle.std.proofs.Common.{◌≡◌, ◌⊎◌, inl, inr, ℕ, ◌==◌, Bool, true, false, List, [], ◌∷◌, ◌++◌, map, filter_map, Contains, Option, Some, None, option_map, Ok, Err, refl, sym, ap, subst, ◌∙◌}
use Rattle.std.specs.Option.{option_map_or}
use Rattle.std.proofs.lemmas.Bool.{eqb-true, eq-eqb}
use Rattle.std.proofs.lemmas.List.Elements.{filter_map-append, Contains-append_left}
use Rattle.dg_types.specs.declared.key.MapKeyVal.{MapKeyVal}
use Rattle.dg_decl.specs.declared.document.Doc.{Doc}
use Rattle.dg_decl.specs.Diagnostics.{IsAccepted}
use Rattle.dg_decl.specs.Walks.{root, step}
use Rattle.dg_decl.proofs.NodeEquality.{first_so, second_so, both_so}
use Rattle.dg_decl.proofs.NodeWalks.{in_rest}
use Rattle.dg_decl.proofs.MemberLemmas.{none_in, in_front, first_or_rest, in_map, out_filter_map}
use Rattle.dg_slots.specs.declared.session.Ask.{Ask}
use Rattle.dg_value.specs.declared.value.Kept.{Kept, fold-Kept}
use Rattle.dg_value.specs.declared.value.Kept.TheVariants as kept
use Rattle.dg_value.specs.declared.value.Kept.TheOpen.{Kept-F, Value-F}
use Rattle.dg_value.specs.declared.value.Kept.TheViews.{roll-Kept, roll-Value}
use Rattle.dg_value.specs.declared.value.Kept.TheFolds.{ind-Value, map-Kept, map-Value, fold-roll-Kept, fold-roll-Value}
use Rattle.dg_value.specs.declared.value.Reply.{Reply}
use Rattle.dg_value.specs.declared.value.Reply.TheVariants as reply
use Rattle.dg_value.specs.declared.value.Value.{Value}
use Rattle.dg_value.specs.Contents.{CellKept, is_cell, content_in}
use Rattle.dg_value.specs.Same.{Layer}
use Rattle.dg_eval.specs.Runs.{Asked, Run, cell, as_kept}
use Rattle.dg_eval.specs.Named as named
use Rattle.dg_eval.specs.Named.{Named, held_cell, made_lazy, way_to, entries_joined, value_names, kept_names, names_in, names_in_kept}
use Rattle.dg_eval.specs.Meaning.{content_of}
use Rattle.dg_eval.specs.Asks.{answer_to, numbered_asks, used_by_ask}
use Rattle.dg_eval.specs.Report.{value_of_run}
use Rattle.dg_promises.specs.Replies.{HoldsUsed, RepliesAreWhole, HeldAreUsed}
use Rattle.dg_report.specs.Held.{Cell, joined, cells_at, kept_cells_at, cells_in, ComesTo, HoldsReply}
use Rattle.dg_tree.specs.Stores.{Stored, as_cell, as_lazy, contents, names, IsSound}
use Rattle.dg_top.proofs.CountLemmas.{out_names}

-- ---- the cells in a value are those that it names as held

abbrev as_held : Named → Option Cell
as_held (held_cell i k) = Some (i, k)
as_held (made_lazy i k p) = None
as_held (way_to i k) = None

abbrev held_of : List Named → List Cell
held_of ns = filter_map as_held ns

abbrev kept_cells : Kept → List Cell
kept_cells = fold-Kept (List Cell) (List Cell) kept_cells_at cells_at

abbrev layer_cells : Layer → List Cell
layer_cells l = cells_at (map-Value Kept Value (List Cell) (List Cell) kept_cells cells_in l)

abbrev layer_names : Layer → List Named
layer_names l = value_names (map-Value Kept Value (List Named) (List Named) names_in_kept names_in
    l)

cells_rolled : (l : Layer) → cells_in (roll-Value l) ≡ layer_cells l
unfolding cells_in
cells_rolled l = fold-roll-Value (List Cell) (List Cell) kept_cells_at cells_at l

names_rolled : (l : Layer) → names_in (roll-Value l) ≡ layer_names l
unfolding names_in names_in_kept
names_rolled l = fold-roll-Value (List Named) (List Named) kept_names value_names l

kept_cells_rolled : (l : Kept-F Kept Value) → kept_cells (roll-Kept l) ≡ kept_cells_at (map-Kept
    Kept Value (List Cell) (List Cell) kept_cells cells_in l)
unfolding cells_in
kept_cells_rolled l = fold-roll-Kept (List Cell) (List Cell) kept_cells_at cells_at l

kept_names_rolled : (l : Kept-F Kept Value) → names_in_kept (roll-Kept l) ≡ kept_names (map-Kept
    Kept Value (List Named) (List Named) names_in_kept names_in l)
unfolding names_in names_in_kept
kept_names_rolled l = fold-roll-Kept (List Named) (List Named) kept_names value_names l

abbrev IsNamed : Value → Type 0
IsNamed v = cells_in v ≡ held_of (names_in v)

abbrev IsKeptNamed : Kept → Type 0
IsKeptNamed k = kept_cells k ≡ held_of (names_in_kept k)

abbrev Part : Type 0
Part = (v : Value) × IsNamed v

abbrev KeptPart : Type 0
KeptPart = (k : Kept) × IsKeptNamed k

abbrev bare : Value-F KeptPart Part → Layer
bare y = map-Value KeptPart Part Kept Value (λ p. p.0) (λ p. p.0) y

abbrev bare_kept : Kept-F KeptPart Part → Kept-F Kept Value
bare_kept y = map-Kept KeptPart Part Kept Value (λ p. p.0) (λ p. p.0) y

members_named : (ps : List Part) → joined (map cells_in (map (λ p. p.0) ps)) ≡ held_of (named.joined
    (map names_in (map (λ p. p.0) ps)))
members_named [] = refl
members_named (p ∷ ps) =
    (λ i. p.1 i ++ members_named ps i)
    ∙ sym (filter_map-append as_held (names_in p.0) (named.joined (map names_in (map (λ (q : Part).
    q.0) ps))))

abbrev bare_entries : List (MapKeyVal × Part) → List (MapKeyVal × Value)
bare_entries es = map (λ e. (e.0, e.1.0)) es

abbrev entry_names : List (MapKeyVal × Value) → List Named
entry_names es = entries_joined (map (λ e. (e.0, names_in e.1)) es)

abbrev entry_cells : List (MapKeyVal × Value) → List Cell
entry_cells es = joined (map (λ (e : MapKeyVal × List Cell). e.1) (map (λ e. (e.0, cells_in e.1))
    es))

entries_named : (es : List (MapKeyVal × Part))
    → entry_cells (bare_entries es) ≡ held_of (entry_names (bare_entries es))
entries_named [] = refl
entries_named (e ∷ es) =
    (λ i. e.1.1 i ++ entries_named es i)
    ∙ sym (filter_map-append as_held (names_in e.1.0) (entry_names (bare_entries es)))

layer_named : (y : Value-F KeptPart Part) → layer_cells (bare y) ≡ held_of (layer_names (bare y))
layer_named (Value-F.Text t) = refl
layer_named (Value-F.Int n) = refl
layer_named (Value-F.Object class ident ps) = members_named ps
layer_named (Value-F.Held i k) = refl
layer_named (Value-F.Set ps) = members_named ps
layer_named (Value-F.Map es) = entries_named es
layer_named (Value-F.Provider i k) = refl
layer_named (Value-F.ProviderLazy i k) = refl
layer_named (Value-F.Lazy i k p) = refl
layer_named (Value-F.Opt None) = refl
layer_named (Value-F.Opt (Some p)) = p.1
layer_named (Value-F.Outcome p) = p.1

value_named : (y : Value-F KeptPart Part) → IsNamed (roll-Value (bare y))
value_named y = cells_rolled (bare y) ∙ layer_named y ∙ ap held_of (sym (names_rolled (bare y)))

kept_named : (y : Kept-F KeptPart Part) → IsKeptNamed (roll-Kept (bare_kept y))
kept_named (Kept-F.Value p) = kept_cells_rolled (Kept-F.Value p.0) ∙ p.1
    ∙ ap held_of (sym (kept_names_rolled (Kept-F.Value p.0)))
kept_named (Kept-F.Failed f) = kept_cells_rolled (Kept-F.Failed f)
    ∙ ap held_of (sym (kept_names_rolled (Kept-F.Failed f)))

cells_named : (v : Value) → IsNamed v
cells_named = ind-Value IsKeptNamed IsNamed
    (λ x y is. subst (λ (z : Kept-F Kept Value). IsKeptNamed (roll-Kept z)) is (kept_named y))
    (λ x y is. subst (λ (z : Layer). IsNamed (roll-Value z)) is (value_named y))

held_is : (x : Named) (i k : ℕ) → as_held x ≡ Some (i, k) → x ≡ held_cell i k
held_is (held_cell j l) i k e =
    let first : j ≡ i = ap (λ (o : Option Cell). option_map_or (λ (c : Cell). c.0) o j) e in
    let second : l ≡ k = ap (λ (o : Option Cell). option_map_or (λ (c : Cell). c.1) o l) e in
    λ m. held_cell (first m) (second m)
held_is (made_lazy j l p) i k e = absurd (let none : None ≡ Some (i, k) = e in cc)
held_is (way_to j l) i k e = absurd (let none : None ≡ Some (i, k) = e in cc)

in_names_held : (v : Value) (c : Cell) → Contains (cells_in v) c
    → Contains (names_in v) (held_cell c.0 c.1)
in_names_held v c h =
    let o = out_filter_map as_held (names_in v) c (subst (λ (cs : List Cell). Contains cs c)
    (cells_named v) h) in
    subst (Contains (names_in v)) (held_is o.0 c.0 c.1 o.2) o.1

-- ---- an ask uses each cell to which its reply comes

module _ (doc : Doc) (p : ℕ × Ask) (v : Value) (answer : answer_to doc p.0 p.1 ≡ Some (reply.Value
    v)) (holds : HoldsUsed doc p) where
  abbrev IsUsed : Cell → Type 0
  IsUsed c = Contains (used_by_ask doc p) (cell c.0 c.1)

  behind_used : (m n : Cell) (o : Option Value) → value_of_run (content_of doc m.0 m.1) ≡ o
      → IsUsed m → Contains (option_map_or cells_in o []) n → IsUsed n
  behind_used m n None is at there = absurd (none_in n there)
  behind_used m n (Some w) is at there = holds.behind m.0 m.1 w at is n.0 n.1 (in_names_held w n
      there)

  comes_used : (c : Cell) → ComesTo doc v c → IsUsed c
  comes_used c (root n there) = holds.reply v answer n.0 n.1 (in_names_held v n there)
  comes_used c (step m n reached there) = behind_used m n (value_of_run (content_of doc m.0 m.1))
      refl (comes_used m reached) there

-- ---- a tree holds what it stores

-- the content of a cell in a list
Found : List CellKept → ℕ → ℕ → Type 0
Found cs i k = (c : CellKept) × Contains cs c × (as_cell c ≡ (cell i k, c.2)) × (content_in cs i k ≡
    Some c.2)

is_named_cell : (c : CellKept) (i k : ℕ) → is_cell i k c ≡ true → as_cell c ≡ (cell i k, c.2)
is_named_cell c i k e =
    let first : c.0 ≡ i = eqb-true c.0 i (first_so (c.0 == i) (c.1 == k) e) in
    let second : c.1 ≡ k = eqb-true c.1 k (second_so (c.0 == i) (c.1 == k) e) in
    λ m. (cell (first m) (second m), c.2)

found : (cs : List CellKept) (c : CellKept) (i k : ℕ) → Contains cs c → is_cell i k c ≡ true
    → Found cs i k
unfolding Found
found [] c i k h is = absurd (none_in c h)
found (d ∷ cs) c i k h is =
    of_test (is_cell i k d) refl (elim (first_or_rest c d cs h) [
      | inl e ↦ inl (subst (λ (x : CellKept). is_cell i k x ≡ true) (sym e) is)
      | inr r ↦ inr (found cs c i k r is)
    ])
  where
    of_test : (b : Bool) → is_cell i k d ≡ b → (is_cell i k d ≡ true) ⊎ Found cs i k
        → Found (d ∷ cs) i k
    of_test true e either = (d, in_front d cs, is_named_cell d i k e, rw e refl)
    of_test false e (inl same) = absurd (let differ : false ≡ true = sym e ∙ same in cc)
    of_test false e (inr f) = (f.0, in_rest f.0 d cs f.1, f.2, rw e f.3)

kept_is : (run : Run Value) (w : Value) (k : Kept) → value_of_run run ≡ Some w
    → option_map (λ p. as_kept p.0) run ≡ Some k → k ≡ kept.Value w
kept_is None w k is content = absurd cc
kept_is (Some (Ok u, asked)) w k is content =
    let same : Some u ≡ Some w = is in
    let keeps : Some (kept.Value u) ≡ Some k = content in
    let one : u ≡ w = cc in
    let other : kept.Value u ≡ k = cc in
    sym other ∙ ap kept.Value one
kept_is (Some (Err f, asked)) w k is content = absurd (let none : None ≡ Some w = is in cc)

stored_content : (doc : Doc) (t : Stored) (i k : ℕ) (w : Value) → IsSound doc t
    → Contains (names t) (cell i k) → value_of_run (content_of doc i k) ≡ Some w
    → content_in t.cells i k ≡ Some (kept.Value w)
unfolding Found
stored_content doc t i k w sound at is =
    let o = out_names t i k at in
    let f = found t.cells o.0 i k o.1 (both_so (o.0.0 == i) (o.0.1 == k) (eq-eqb o.0.0 i (ap (λ n.
    n.inst) o.2)) (eq-eqb o.0.1 k (ap (λ n. n.slot) o.2))) in
    let there : Contains (contents t) (cell i k, f.0.2) = subst (Contains (contents t)) f.2
    (Contains-append_left (map as_cell t.cells) (map as_lazy t.lazies) (as_cell f.0) (in_map
    as_cell t.cells f.0 f.1)) in
    f.3 ∙ ap (λ (x : Kept). Some x) (kept_is (content_of doc i k) w f.0.2 is (sound.content (cell i
    k) f.0.2 there))

pub holds_reply : (doc : Doc) (t : Stored) (p : ℕ × Ask) (r : Reply) → IsAccepted doc
    → RepliesAreWhole → HeldAreUsed → IsSound doc t → Contains (numbered_asks doc) p
    → answer_to doc p.0 p.1 ≡ Some r → ((x : Asked) → Contains (used_by_ask doc p) x
    → Contains (names t) x) → HoldsReply doc (content_in t.cells) r
holds_reply doc t p (reply.Value v) accepted wholes held sound at answer stored = (
  wholes doc accepted p.0 p.1 at v answer,
  record {
    held = λ i k w comes is. stored_content doc t i k w sound (stored (cell i k) (comes_used
        doc p v answer (held doc accepted p at) (i, k) comes)) is;
  },
)
holds_reply doc t p (reply.Failed f) accepted wholes held sound at answer stored = tt
holds_reply doc t p reply.Absent accepted wholes held sound at answer stored = tt

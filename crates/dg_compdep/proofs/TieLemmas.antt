-- The table of ties, as a list of ties with indices.
use Rattle.std.proofs.Common.{◌≡◌, ℕ, ◌==◌, Bool, true, false, cond, ◌&&◌, List, [], ◌∷◌, ◌++◌, map, Option, Some, None, is_some, if◌then◌else◌, refl, sym, ap, ◌∙◌, true≢false}
use Rattle.std.specs.List.{find}
use Rattle.std.specs.Map.{lookup}
use Rattle.std.specs.Option.{option_map, option_or}
use Rattle.std.specs.Str.{bytes_eq}
use Rattle.std.proofs.lemmas.Bool.{eqb-true}
use Rattle.std.specs.Cmp.Lexicographic.{bytes_decides}
use Rattle.dg_lex.specs.Bytes.{Bytes}
use Rattle.dg_decl.specs.declared.document.Doc.{Doc}
use Rattle.dg_decl.specs.Document.{Statement}
use Rattle.dg_decl.specs.Stages.Links.{Tie, same_tie}
use Rattle.dg_slots.specs.Links.{ties}
use Rattle.dg_compdep.specs.declared.ties.TieKey.{TieKey}
use Rattle.dg_compdep.specs.contracts.ties.TieKeyPartialEq.TheImpl as block
use Rattle.dg_compdep.specs.Ties.{Table, index_of, Adds, Notes, HasFirst, first_index}

abbrev pub same_key : TieKey → TieKey → Bool
same_key = block.ghosts.eq

abbrev pub tie_in : TieKey → Tie
tie_in k = record { from = k.from; class = k.class }

abbrev pub seen : List (TieKey × ℕ) → Table
seen entries = map (λ e. (tie_in e.0, e.1)) entries

lookup_seen : (k : TieKey) (entries : List (TieKey × ℕ))
    → lookup (same_key k) entries ≡ index_of k.from k.class (seen entries)
lookup_seen k [] = refl
lookup_seen k (e ∷ es) = ap (λ o. cond (same_key k e.0) (Some e.1) o) (lookup_seen k es)

-- what the map finds is what the table has
pub found : (k : TieKey) (entries : List (TieKey × ℕ)) (from : Bytes) (class : ℕ) (table : Table)
    → k.from ≡ from → k.class ≡ class → seen entries ≡ table
    → lookup (same_key k) entries ≡ index_of from class table
found k entries from class table of_from of_class is =
    lookup_seen k entries
    ∙ ap (λ (f : Bytes). index_of f k.class (seen entries)) of_from
    ∙ ap (λ c. index_of from c (seen entries)) of_class ∙ ap (index_of from class) is

pub key_is : (k : TieKey) (from : Bytes) (class : ℕ) (tie : Tie) → k.from ≡ from → k.class ≡ class
    → record { from = from; class = class } ≡ tie → tie_in k ≡ tie
key_is k from class tie of_from of_class is =
    (λ i. record { from = of_from i; class = of_class i }) ∙ is

pub is_none : {A : Type 0} (o : Option A) (b : Bool) → b ≡ is_some o → b ≡ false → o ≡ None
is_none None b is fails = refl
is_none (Some x) b is fails = absurd (true≢false (sym is ∙ fails))

pub seen_push : (entries : List (TieKey × ℕ)) (k : TieKey) (i : ℕ)
    → seen (entries ++ (k, i) ∷ []) ≡ seen entries ++ (tie_in k, i) ∷ []
seen_push [] k i = refl
seen_push (x ∷ xs) k i = ap (λ (t : Table). (tie_in x.0, x.1) ∷ t) (seen_push xs k i)

abbrev asked : Bytes → ℕ → Tie
asked from class = record { from = from; class = class }

-- the row at the end counts where no other has its tie
index_push : (from : Bytes) (class : ℕ) (tie : Tie) (i : ℕ) (table : Table)
    → index_of from class (table ++ (tie, i) ∷ [])
    ≡ option_or (index_of from class table)
    (if same_tie (asked from class) tie then Some i else None)
index_push from class tie i [] = refl
index_push from class tie i (row ∷ rows) =
    by (same_tie (asked from class) row.0) (index_push from class tie i rows)
  where
    by : (b : Bool)
        → index_of from class (rows ++ (tie, i) ∷ [])
        ≡ option_or (index_of from class rows) (if same_tie (asked from class) tie then Some i else
        None)
        → cond b (Some row.1) (index_of from class (rows ++ (tie, i) ∷ []))
        ≡ option_or (cond b (Some row.1) (index_of from class rows))
        (if same_tie (asked from class) tie then Some i else None)
    by true rest = refl
    by false rest = rest

pub adds_new : (tie : Tie) (i : ℕ) (old new : Table) → new ≡ old ++ (tie, i) ∷ []
    → Adds tie i old new
adds_new tie i old new is = record {
  each = λ from class. ap (index_of from class) is ∙ index_push from class tie i old;
}

and_first : (a b : Bool) → (a && b) ≡ true → a ≡ true
and_first true b e = refl
and_first false b e = e

and_second : (a b : Bool) → (a && b) ≡ true → b ≡ true
and_second true b e = e
and_second false b e = absurd (true≢false (sym e))

pub adds_old : (tie : Tie) (i : ℕ) (table : Table) (b : Bool)
    → b ≡ is_some (index_of tie.from tie.class table) → b ≡ true → Adds tie i table table
adds_old tie i table b is holds = by (index_of tie.from tie.class table) refl (sym is ∙ holds)
  where
    same : (o : Option ℕ) (k : ℕ) (t : Bool) → (t ≡ true → o ≡ Some k)
        → o ≡ option_or o (if t then Some i else None)
    same None k true there = cc (there refl)
    same None k false there = refl
    same (Some j) k t there = refl

    by : (o : Option ℕ) → index_of tie.from tie.class table ≡ o → is_some o ≡ true
        → Adds tie i table table
    by None is there = absurd (true≢false (sym there))
    by (Some k) is there = record {
      each = λ from class. same (index_of from class table) k (same_tie (asked from class) tie)
          (λ e. ap (λ (f : Bytes). index_of f class table)
          ((bytes_decides from tie.from).0 (and_first
          (bytes_eq from tie.from) (class == tie.class) e))
          ∙ ap (λ c. index_of tie.from c table) (eqb-true class tie.class (and_second (bytes_eq from
          tie.from) (class == tie.class) e))
          ∙ is);
    }

-- ---- statements one after another

or_none : {A : Type 0} (o : Option A) → o ≡ option_or o None
or_none None = refl
or_none (Some x) = refl

-- the table and then the statements that are left find what all of them do
pub record FindsOn (doc : Doc) (ss : List Statement) (table : Table) (left : List Statement) : Type
    0 where
  pub each : (from : Bytes) (class : ℕ)
      → option_or (index_of from class table) (first_index doc from class left)
      ≡ first_index doc from class ss

pub finds_first : (doc : Doc) (ss : List Statement) (table : Table) → table ≡ []
    → FindsOn doc ss table ss
finds_first doc ss table empty = record {
  each = λ from class. ap (λ (t : Table). option_or (index_of from class t) (first_index doc from
      class ss)) empty;
}

pub finds_next : (doc : Doc) (ss : List Statement) (old new : Table) (s : Statement)
    (left : List Statement) → Notes doc s old new → FindsOn doc ss old (s ∷ left)
    → FindsOn doc ss new left
finds_next doc ss old new s left notes finds = record {
  each = λ from class. ap (λ o. option_or o (first_index doc from class left)) (notes.each from
      class)
      ∙ step (index_of from class old) (ties doc from class s) (find (ties doc from class) left)
      ∙ finds.each from class;
}
  where
    step : (o : Option ℕ) (b : Bool) (rest : Option Statement)
        → option_or (option_or o (if b then Some s.index else None))
        (option_map (λ t. t.index) rest)
        ≡ option_or o (option_map (λ t. t.index) (if b then Some s else rest))
    step (Some k) b rest = refl
    step None true rest = refl
    step None false rest = refl

pub finds_all : (doc : Doc) (ss : List Statement) (table : Table) (left : List Statement)
    → left ≡ [] → FindsOn doc ss table left → HasFirst doc ss table
finds_all doc ss table left none finds = record {
  each = λ from class. or_none (index_of from class table)
      ∙ ap (λ (xs : List Statement). option_or (index_of from class table) (first_index doc from
      class xs)) (sym none)
      ∙ finds.each from class;
}

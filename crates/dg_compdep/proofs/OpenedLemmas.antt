-- The first of some statements that stands before another.
use Rattle.std.proofs.Common.{◌≡◌, inl, inr, ℕ, suc, ◌<◌, ◌≤◌, nat_lt, Bool, true, false, cond, ◌&&◌, if◌then◌else◌, List, [], ◌∷◌, get_or, find, slice_get, Option, Some, None, option_map, option_and_then, refl, sym, ap, ◌∙◌, arith}
use Rattle.std.proofs.lemmas.Bool.{true≢false, lt-ltb, le-ltb, cases_lt}
use Rattle.dg_lex.specs.Bytes.{Bytes}
use Rattle.dg_decl.specs.declared.document.Doc.{Doc}
use Rattle.dg_decl.specs.declared.item.Item.{Item}
use Rattle.dg_decl.specs.Document.{Statement, statements, statements_from, open_behind}
use Rattle.dg_decl.specs.Names.{is_called}
use Rattle.dg_decl.specs.Stages.Names.{instance_name}
use Rattle.dg_decl.specs.Stages.Session.{opened_before}
use Rattle.dg_decl.proofs.NumberBounds.{none_is_not_some, same_value}
use Rattle.dg_names.proofs.StatementLemmas.{found_at}

abbrev pub early : ℕ → (Statement → Bool) → Statement → Bool
early bound p s = nat_lt s.index bound && p s

abbrev pub guarded : ℕ → Option Statement → Option Statement
guarded bound o = option_and_then (λ (s : Statement). if nat_lt s.index bound then Some s else
    None) o

and_no : (b : Bool) → (b && false) ≡ false
and_no true = refl
and_no false = refl

none_late : (doc : Doc) (k : ℕ) (b : Option ℕ) (xs : List Item) (bound : ℕ) (p : Statement
    → Bool) → bound ≤ k
    → find (early bound p) (statements_from doc k b xs) ≡ None
none_late doc k b [] bound p le = refl
none_late doc k b (x ∷ xs) bound p le =
    let s : Statement = record { index = k; line = get_or doc.lines k 0; block = b; item = x } in
    let rest = statements_from doc (suc k) (open_behind b k x) xs in
    ap (λ t. cond (t && p s) (Some s) (find (early bound p) rest)) (le-ltb k bound le)
    ∙ none_late doc (suc k) (open_behind b k x) xs bound p (omega arith)

found_early : (doc : Doc) (k : ℕ) (b : Option ℕ) (xs : List Item) (bound : ℕ) (p : Statement → Bool)
    → find (early bound p) (statements_from doc k b xs) ≡ guarded bound (find p (statements_from
    doc k b xs))
found_early doc k b [] bound p = refl
found_early doc k b (x ∷ xs) bound p =
    by (found_early doc (suc k) (open_behind b k x) xs bound p) (p s) (nat_lt k bound) refl refl
  where
    s : Statement
    s = record { index = k; line = get_or doc.lines k 0; block = b; item = x }

    rest : List Statement
    rest = statements_from doc (suc k) (open_behind b k x) xs

    low : (t : Bool) → nat_lt k bound ≡ t → t ≡ false → bound ≤ k
    low t is e = elim (cases_lt k bound) [
      | inl lt ↦ absurd (true≢false (sym (lt-ltb k bound lt) ∙ is ∙ e))
      | inr le ↦ le
    ]

    by : find (early bound p) rest ≡ guarded bound (find p rest)
        → (pass lt : Bool) → p s ≡ pass → nat_lt k bound ≡ lt
        → cond (nat_lt k bound && p s) (Some s) (find (early bound p) rest)
        ≡ guarded bound (cond (p s) (Some s) (find p rest))
    by later true true passes lt =
        ap (λ t. cond (t && p s) (Some s) (find (early bound p) rest)) lt
        ∙ ap (λ t. cond t (Some s) (find (early bound p) rest)) passes
        ∙ sym (ap (λ t. guarded bound (cond t (Some s) (find p rest))) passes
        ∙ ap (λ t. cond t (Some s) None) lt)
    by later true false passes lt =
        ap (λ t. cond (t && p s) (Some s) (find (early bound p) rest)) lt
        ∙ none_late doc (suc k) (open_behind b k x) xs bound p (let le : bound ≤ k = low false lt
        refl in omega arith)
        ∙ sym (ap (λ t. guarded bound (cond t (Some s) (find p rest))) passes
        ∙ ap (λ t. cond t (Some s) None) lt)
    by later false lt fails is =
        ap (λ t. cond (nat_lt k bound && t) (Some s) (find (early bound p) rest)) fails
        ∙ ap (λ t. cond t (Some s) (find (early bound p) rest)) (and_no (nat_lt k bound))
        ∙ later
        ∙ sym (ap (λ t. guarded bound (cond t (Some s) (find p rest))) fails)

-- the first of a document's statements that stands before an index and passes
pub found_before : (doc : Doc) (bound : ℕ) (p : Statement → Bool)
    → find (early bound p) (statements doc) ≡ guarded bound (find p (statements doc))
unfolding statements
found_before doc bound p = found_early doc 0 None doc.items bound p

abbrev called : Bytes → Statement → Bool
called n = is_called instance_name n

opened_is : (doc : Doc) (s : Statement) (n : Bytes)
    → opened_before doc s n ≡ guarded s.index (find (called n) (statements doc))
unfolding statements
opened_is doc s n = found_early doc 0 None doc.items s.index (called n)

-- what the table of opened names says, and what it means for a statement
pub opened_early : (doc : Doc) (s : Statement) (n : Bytes) (index : ℕ)
    → Some index ≡ option_map (λ e. e.index) (find (called n) (statements doc)) → index < s.index
    → slice_get (statements doc) index ≡ opened_before doc s n
opened_early doc s n index e lt = by (find (called n) (statements doc)) refl
  where
    by : (o : Option Statement) → find (called n) (statements doc) ≡ o
        → slice_get (statements doc) index ≡ opened_before doc s n
    by None is = absurd (none_is_not_some index (sym (e ∙ ap (option_map (λ e. e.index)) is)))
    by (Some t) is =
        let same : index ≡ t.index = same_value index t.index (e
        ∙ ap (option_map (λ e. e.index)) is) in
        let lower : nat_lt t.index s.index ≡ true = lt-ltb t.index s.index (omega arith) in
        ap (λ o. option_and_then (slice_get (statements doc)) o) e
        ∙ found_at (called n) doc ∙ is
        ∙ sym (opened_is doc s n ∙ ap (guarded s.index) is ∙ ap (λ b. cond b (Some t) None) lower)

pub opened_late : (doc : Doc) (s : Statement) (n : Bytes) (index : ℕ)
    → Some index ≡ option_map (λ e. e.index) (find (called n) (statements doc)) → s.index ≤ index
    → None ≡ opened_before doc s n
opened_late doc s n index e le = by (find (called n) (statements doc)) refl
  where
    by : (o : Option Statement) → find (called n) (statements doc) ≡ o
        → None ≡ opened_before doc s n
    by None is = absurd (none_is_not_some index (sym (e ∙ ap (option_map (λ e. e.index)) is)))
    by (Some t) is =
        let same : index ≡ t.index = same_value index t.index (e
        ∙ ap (option_map (λ e. e.index)) is) in
        let higher : nat_lt t.index s.index ≡ false = le-ltb t.index s.index (omega arith) in
        sym (opened_is doc s n ∙ ap (guarded s.index) is ∙ ap (λ b. cond b (Some t) None) higher)

pub opened_never : (doc : Doc) (s : Statement) (n : Bytes)
    → None ≡ option_map (λ e. e.index) (find (called n) (statements doc))
    → None ≡ opened_before doc s n
opened_never doc s n e = by (find (called n) (statements doc)) refl
  where
    by : (o : Option Statement) → find (called n) (statements doc) ≡ o
        → None ≡ opened_before doc s n
    by None is = sym (opened_is doc s n ∙ ap (guarded s.index) is)
    by (Some t) is = absurd (none_is_not_some t.index (e ∙ ap (option_map (λ e. e.index)) is))

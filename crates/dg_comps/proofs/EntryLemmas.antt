-- Entry points with the name of an earlier one of their class.
use Rattle.std.proofs.Common.{◌≡◌, ℕ, zero, suc, ◌+◌, ◌<◌, ◌≤◌, Bool, true, false, ◌&&◌, ◌||◌, nat_lt, List, [], ◌∷◌, ◌++◌, length, get_or, take, map, slice_index, Option, Some, None, slice_get, refl, sym, ap, ◌∙◌, arith}
use Rattle.std.specs.List.{list_any}
use Rattle.std.proofs.Math.Seq.{take-suc}
use Rattle.std.proofs.lemmas.Bool.{lt-ltb, le-ltb}
use Rattle.std.proofs.lemmas.List.{map_push}
use Rattle.std.proofs.lemmas.List.Folds.{list_any-append}
use Rattle.std.proofs.lemmas.Option.{none-some, same_Some, slice_get-get_or}
use Rattle.dg_lex.specs.Bytes.{Bytes}
use Rattle.dg_decl.specs.declared.document.Doc.{Doc}
use Rattle.dg_decl.specs.declared.item.Item.{Item}
use Rattle.dg_decl.specs.Document.{Statement, statements, statements_from, open_behind}
use Rattle.dg_decl.specs.Names.{is_called}
use Rattle.dg_decl.specs.Components.{class_around, is_entry_of}
use Rattle.dg_decl.specs.Stages.Components.{entry_name, has_earlier_entry}
use Rattle.dg_comps.specs.ClassTables.{ClassTable, has_at, KnowsEntries}
use Rattle.dg_comps.specs.Entries.{both, repeats, is_repeated}
use Rattle.dg_comps.proofs.SetLemmas.{none_has}

-- ---- the statements before a place

index_from : (doc : Doc) (low : ℕ) (block : Option ℕ) (items : List Item) (k : ℕ) (s : Statement)
    → slice_get (statements_from doc low block items) k ≡ Some s → s.index ≡ low + k
index_from doc low block [] k s e = absurd (none-some s e)
index_from doc low block (x ∷ xs) zero s e =
    (let same : low ≡ s.index = ap (λ (t : Statement). t.index) (same_Some _ s e) in omega arith)
index_from doc low block (x ∷ xs) (suc k) s e =
    (let later : s.index ≡ suc low + k = index_from doc (suc low) (open_behind block low x) xs k s e
    in omega arith)

pub index_at : (doc : Doc) (k : ℕ) (s : Statement) → slice_get (statements doc) k ≡ Some s
    → s.index ≡ k
unfolding statements
index_at doc k s e = (let at : s.index ≡ 0 + k = index_from doc 0 None doc.items k s e
    in omega arith)

-- the statement of an item
abbrev head_of : Doc → ℕ → Option ℕ → Item → Statement
head_of doc low block x = record {
  index = low;
  line = slice_index doc.lines low;
  block = block;
  item = x;
}

none_before : (q : Statement → Bool) (doc : Doc) (low high : ℕ) (block : Option ℕ)
    (items : List Item) → high ≤ low
    → list_any (λ t. nat_lt t.index high && q t) (statements_from doc low block items) ≡ false
none_before q doc low high block [] le = refl
none_before q doc low high block (x ∷ xs) le =
    ap (λ b. (b && q (head_of doc low block x)) || list_any (λ t. nat_lt t.index high && q t)
    (statements_from doc (suc low) (open_behind block low x) xs)) (le-ltb low high le)
    ∙ none_before q doc (suc low) high (open_behind block low x) xs (omega arith)

any_before : (q : Statement → Bool) (doc : Doc) (low k high : ℕ) (block : Option ℕ)
    (items : List Item) → high ≡ low + k
    → list_any (λ t. nat_lt t.index high && q t) (statements_from doc low block items)
    ≡ list_any q (take k (statements_from doc low block items))
any_before q doc low zero high block items e = none_before q doc low high block items (omega arith)
any_before q doc low (suc k) high block [] e = refl
any_before q doc low (suc k) high block (x ∷ xs) e =
    ap (λ b. (b && q (head_of doc low block x)) || list_any (λ t. nat_lt t.index high && q t)
    (statements_from doc (suc low) (open_behind block low x) xs)) (lt-ltb low high (omega arith))
    ∙ ap (λ b. q (head_of doc low block x)
    || b) (any_before q doc (suc low) k high (open_behind block low x) xs (omega arith))

earlier : (q : Statement → Bool) (doc : Doc) (k : ℕ)
    → list_any (λ t. nat_lt t.index k && q t) (statements doc)
    ≡ list_any q (take k (statements doc))
unfolding statements
earlier q doc k = any_before q doc 0 k k None doc.items (omega arith)

same_tests : {A : Type 0} (p q : A → Bool) (xs : List A) → ((x : A) → p x ≡ q x)
    → list_any p xs ≡ list_any q xs
same_tests p q [] same = refl
same_tests p q (x ∷ xs) same =
    ap (λ b. b || list_any p xs) (same x) ∙ ap (λ b. q x || b) (same_tests p q xs same)

and_moved : (a b c : Bool) → ((a && b) && c) ≡ (a && (b && c))
and_moved true b c = refl
and_moved false b c = refl

-- one of these statements is an entry of a class with a name
abbrev has_entry : Doc → List Statement → ℕ → Bytes → Bool
has_entry doc ss c n = list_any (λ s. is_entry_of doc c s && is_called entry_name n s) ss

earlier_entries : (doc : Doc) (c k : ℕ) (n : Bytes)
    → has_entry doc (take k (statements doc)) c n ≡ has_earlier_entry doc c k n
earlier_entries doc c k n =
    sym (earlier (λ s. is_entry_of doc c s && is_called entry_name n s) doc k)
    ∙ same_tests _ _ (statements doc)
    (λ s. sym (and_moved (nat_lt s.index k) (is_entry_of doc c s) (is_called entry_name n s)))

same_both : (f g : ℕ → Bytes → Bool) (o : Option ℕ) (p : Option Bytes)
    → ((c : ℕ) (n : Bytes) → f c n ≡ g c n) → both f o p ≡ both g o p
same_both f g None p same = refl
same_both f g (Some c) None same = refl
same_both f g (Some c) (Some n) same = same c n

-- ---- the loop

pub record EntriesSoFar (doc : Doc) (place : ℕ) (seen : ClassTable) (repeated : List Bool)
    : Type 0 where
  pub table : KnowsEntries doc (take place (statements doc)) seen
  pub done : repeated ≡ map (is_repeated doc) (take place (statements doc))

pub entries_begin : (doc : Doc) (seen : ClassTable) (repeated : List Bool) → seen ≡ []
    → repeated ≡ [] → EntriesSoFar doc 0 seen repeated
entries_begin doc seen repeated none nothing = record {
  table = λ n c. ap (λ (t : ClassTable). has_at t n c) none ∙ none_has c;
  done = nothing;
}

or_false : (b : Bool) → b ≡ (b || false)
or_false true = refl
or_false false = refl

next_taken : (ss : List Statement) (place : ℕ) (s : Statement) → place < length ss
    → get_or ss place s ≡ s → take (place + 1) ss ≡ take place ss ++ s ∷ []
next_taken ss place s lt at =
    let next : place + 1 ≡ suc place = omega arith in
    ap (λ n. take n ss) next ∙ take-suc ss place s lt
    ∙ ap (λ (x : Statement). take place ss ++ x ∷ []) at

pub entries_step : (doc : Doc) (place : ℕ) (s : Statement) (r : Bool) (seen noted : ClassTable)
    (repeated more : List Bool) → EntriesSoFar doc place seen repeated
    → place < length (statements doc) → get_or (statements doc) place s ≡ s
    → r ≡ repeats doc seen s
    → ((n : Bytes) (c : ℕ) → has_at noted n c
    ≡ (has_at seen n c || (is_entry_of doc c s && is_called entry_name n s)))
    → more ≡ repeated ++ r ∷ [] → EntriesSoFar doc (place + 1) noted more
entries_step doc place s r seen noted repeated more so lt at told adds pushed =
    let before = take place (statements doc) in
    let next = next_taken (statements doc) place s lt at in
    let index : s.index ≡ place = index_at doc place s (slice_get-get_or (statements doc) place s lt
    ∙ ap Some at) in
    let now : r ≡ is_repeated doc s = told
    ∙ same_both (λ c n. has_at seen n c) (λ c n. has_earlier_entry doc c s.index n)
    (class_around doc s) (entry_name s.item)
    (λ c n. so.table n c ∙ earlier_entries doc c place n
    ∙ ap (λ k. has_earlier_entry doc c k n) (sym index)) in
    record {
      table = λ n c. adds n c
          ∙ ap (λ b. b || (is_entry_of doc c s && is_called entry_name n s)) (so.table n c)
          ∙ ap (λ b. has_entry doc before c n || b)
          (or_false (is_entry_of doc c s && is_called entry_name n s))
          ∙ sym (list_any-append (λ t. is_entry_of doc c t && is_called entry_name n t) before
          (s ∷ []))
          ∙ ap (λ (ss : List Statement). has_entry doc ss c n) (sym next);
      done = pushed ∙ ap (λ (bs : List Bool). bs ++ r ∷ []) so.done
          ∙ ap (λ b. map (is_repeated doc) before ++ b ∷ []) now
          ∙ sym (map_push (is_repeated doc) before s)
          ∙ ap (map (is_repeated doc)) (sym next);
    }

pub taken_all : {A : Type 0} (xs : List A) (n : ℕ) → length xs ≤ n → take n xs ≡ xs
taken_all [] zero le = refl
taken_all [] (suc n) le = refl
taken_all (x ∷ xs) zero le = absurd (omega arith)
taken_all {A} (x ∷ xs) (suc n) le = ap (λ (ys : List A). x ∷ ys) (taken_all xs n (omega arith))

pub entries_end : (doc : Doc) (place : ℕ) (seen : ClassTable) (repeated : List Bool)
    → EntriesSoFar doc place seen repeated → length (statements doc) ≤ place
    → repeated ≡ map (is_repeated doc) (statements doc)
entries_end doc place seen repeated so all =
    so.done ∙ ap (map (is_repeated doc)) (taken_all (statements doc) place all)

-- The pass over the statements: its begin, its step and its end.
use Rattle.std.proofs.Common.{◌≡◌, ℕ, zero, suc, ◌+◌, ◌<◌, ◌≤◌, ◌==◌, Bool, cond, List, [], ◌∷◌, ◌++◌, length, get_or, map, take, drop, filter, filter_map, flat_map, Contains, Option, Some, None, option_to_list, if◌then◌else◌, refl, sym, ap, subst, ◌∙◌, arith}
use Rattle.std.proofs.lemmas.List.{append-nil, append_assoc, flat_map_more}
use Rattle.std.proofs.lemmas.List.Elements.{Contains-append_right}
use Rattle.std.proofs.Math.Seq.{take-suc, drop-cons}
use Rattle.dg_types.specs.declared.key.Key.{Key}
use Rattle.dg_decl.specs.declared.document.Doc.{Doc}
use Rattle.dg_decl.specs.declared.component.Class.{Class}
use Rattle.dg_decl.specs.declared.component.Exposed.{Exposed}
use Rattle.dg_decl.specs.declared.binding.Bind.{Bind}
use Rattle.dg_decl.specs.declared.binding.Owned.{Owned}
use Rattle.dg_decl.specs.Document.{Statement, statements}
use Rattle.dg_decl.specs.Components.{hilt_count, class_count, component_classes, exposed_by_class}
use Rattle.dg_decl.specs.Lookup.{binding_of, bindings, is_header_of, explicit_default, explicit_exposed, explicit_argument, explicit_member, explicit_at, explicit}
use Rattle.dg_resolve.specs.Explicit.{rows_of_hilt, rows_of_exposed, rows_of_bound, classes_of_line, key_of_line, next_at, rows_of_next, rows_of_statement, KnowsExplicit}
use Rattle.dg_resolve.specs.Known.{HaveExplicit}
use Rattle.dg_resolve.specs.Members.{AreHeaders, AreInstallers}
use Rattle.dg_resolve.specs.Tables.{Numbers, Rows, of_number, of_class, Grows, Holds, AddsUnder}
use Rattle.dg_resolve.proofs.ExplicitLemmas.{hilt_rows, exposed_rows, lines_before, argument_rows, next_rows}
use Rattle.dg_resolve.proofs.LineLemmas.{is_line, next_is, rises_behind}
use Rattle.dg_resolve.proofs.StatementLemmas.{Rises, statements_rise}

pub pass_begins : (doc : Doc) (headed : Numbers) (bs : List Bind) (classes : List Class) (count : ℕ) (empty tables : List Rows)
    → classes ≡ component_classes doc → bs ≡ bindings doc → count ≡ class_count doc
    → Holds count (λ c k. []) empty → Grows (rows_of_hilt classes 8) empty tables
    → KnowsExplicit doc headed bs 0 0 [] tables
unfolding bindings
pass_begins doc headed bs classes count empty tables e all same holds grows = record {
  size = grows.count ∙ holds.size ∙ same;
  rows = λ c k lt.
      let within : c < count = omega (arith, same) in
      let there : c < length empty = omega (arith, holds.size) in
      grows.each c k there
      ∙ ap (λ (l : List Owned). l ++ rows_of_hilt classes 8 c k) (holds.each c k within)
      ∙ hilt_rows doc classes c k e lt ∙ sym (append-nil (explicit_default doc c k));
  noted = λ c. refl;
  left = all;
}

-- the parts of a list at one of its places
abbrev pub IsAt : List Statement → ℕ → Statement → Type 0
IsAt ss i s = (take (suc i) ss ≡ take i ss ++ s ∷ []) × (drop i ss ≡ s ∷ drop (suc i) ss)

pub is_at : (ss : List Statement) (i : ℕ) (s : Statement) → i < length ss → s ≡ get_or ss i s → IsAt ss i s
is_at ss i s lt is = (
  take-suc ss i s lt ∙ ap (λ (x : Statement). take i ss ++ x ∷ []) (sym is),
  drop-cons ss i s lt ∙ ap (λ (x : Statement). x ∷ drop (suc i) ss) (sym is),
)

split_of : (ss : List Statement) (i : ℕ) → ss ≡ take i ss ++ drop i ss
split_of [] zero = refl
split_of [] (suc i) = refl
split_of (s ∷ ss) zero = refl
split_of (s ∷ ss) (suc i) = ap (λ (l : List Statement). s ∷ l) (split_of ss i)

pub pass_goes_on : (doc : Doc) (headed installers : Numbers) (bs : List Bind) (exposed : List (List Exposed))
    (i place next : ℕ) (lines more : Numbers) (s : Statement) (old new : List Rows)
    → AreHeaders doc headed → AreInstallers doc installers → exposed ≡ exposed_by_class doc
    → i < length (statements doc) → s ≡ get_or (statements doc) i s
    → KnowsExplicit doc headed bs i place lines old
    → Grows (rows_of_statement headed installers lines bs exposed place s) old new
    → next ≡ place + length (option_to_list (next_at bs place s.index))
    → AddsUnder (classes_of_line headed s) s.index lines more
    → KnowsExplicit doc headed bs (i + 1) next more new
pass_goes_on doc headed installers bs exposed i place next lines more s old new are put all lt is knows grows behind adds =
    let ss = statements doc in
    let at = is_at ss i s lt is in
    let split : ss ≡ take i ss ++ s ∷ drop (suc i) ss =
    split_of ss i ∙ ap (λ (l : List Statement). take i ss ++ l) at.1 in
    let rises : Rises (suc s.index) (drop (suc i) ss) =
    rises_behind 0 (take i ss) s (drop (suc i) ss) (subst (Rises 0) split (statements_rise doc)) in
    let stand : (t : Statement) → Contains (s ∷ drop (suc i) ss) t → Contains ss t =
    λ t h. subst (λ (l : List Statement). Contains l t) (sym split) (Contains-append_right (take i ss) (s ∷ drop (suc i) ss) t h) in
    let one = next_is doc bs place s (drop (suc i) ss) rises stand (knows.left ∙ ap (filter_map binding_of) at.1) in
    let counted : i + 1 ≡ suc i = omega arith in
    let taken : take (i + 1) ss ≡ take i ss ++ s ∷ [] = ap (λ (n : ℕ). take n ss) counted ∙ at.0 in
    record {
      size = grows.count ∙ knows.size;
      rows = λ c k within.
          let there : c < length old = omega (arith, knows.size) in
          grows.each c k there
          ∙ ap (λ (l : List Owned). l ++ rows_of_statement headed installers lines bs exposed place s c k) (knows.rows c k within)
          ∙ ap (λ (l : List Owned). (explicit_default doc c k ++ flat_map (explicit_at doc c k) (take i ss)) ++ l)
          (binds c k within split one.0)
          ∙ flat_map_more (explicit_at doc c k) (explicit_default doc c k) (take i ss) s
          ∙ ap (λ (l : List Statement). explicit_default doc c k ++ flat_map (explicit_at doc c k) l) (sym taken);
      noted = λ c.
          adds.each c
          ∙ ap (λ (l : List ℕ). l ++ flat_map (λ x. if c == x then s.index ∷ [] else []) (classes_of_line headed s)) (knows.noted c)
          ∙ flat_map_more (λ s. flat_map (λ x. if c == x then s.index ∷ [] else []) (classes_of_line headed s)) [] (take i ss) s
          ∙ ap (λ (l : List Statement). flat_map (λ s. flat_map (λ x. if c == x then s.index ∷ [] else []) (classes_of_line headed s)) l) (sym taken);
      left =
          ap (λ (n : ℕ). drop n bs) behind ∙ one.1
          ∙ ap (λ (n : ℕ). filter_map binding_of (drop n ss)) (sym counted);
    }
  where
    binds : (c : ℕ) (k : Key) → c < class_count doc → statements doc ≡ take i (statements doc) ++ s ∷ drop (suc i) (statements doc)
        → next_at bs place s.index ≡ binding_of s
        → rows_of_statement headed installers lines bs exposed place s c k ≡ explicit_at doc c k s
    binds c k within split next_one =
        ap (λ (l : List Owned). l ++ rows_of_bound lines (classes_of_line headed s) (key_of_line s) c k ++ rows_of_next installers (next_at bs place s.index) c k)
        (exposed_rows doc headed exposed s c k are all within)
        ∙ ap (λ (l : List Owned). (if is_header_of doc c s then explicit_exposed doc c k else []) ++ l ++ rows_of_next installers (next_at bs place s.index) c k)
        (argument_rows doc headed lines (take i (statements doc)) s (drop (suc i) (statements doc)) c k are within split
        (lines_before doc headed lines (take i (statements doc)) c are within (knows.noted c)))
        ∙ ap (λ (l : List Owned). (if is_header_of doc c s then explicit_exposed doc c k else []) ++ explicit_argument doc c k s ++ l)
        (next_rows doc installers s (next_at bs place s.index) c k put within next_one)

all_taken : (ss : List Statement) → take (length ss) ss ≡ ss
all_taken [] = refl
all_taken (s ∷ ss) = ap (λ (l : List Statement). s ∷ l) (all_taken ss)

pub pass_ends : (doc : Doc) (headed : Numbers) (bs : List Bind) (i place : ℕ) (lines : Numbers) (tables : List Rows)
    → i ≡ length (statements doc) → KnowsExplicit doc headed bs i place lines tables → HaveExplicit doc tables
unfolding explicit
pass_ends doc headed bs i place lines tables done knows = record {
  each = λ c k lt.
      knows.rows c k lt
      ∙ ap (λ (n : ℕ). explicit_default doc c k ++ flat_map (explicit_at doc c k) (take n (statements doc))) done
      ∙ ap (λ (l : List Statement). explicit_default doc c k ++ flat_map (explicit_at doc c k) l) (all_taken (statements doc));
}

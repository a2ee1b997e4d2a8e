-- What the statements of a document break, one after another.
use Rattle.std.proofs.Common.{◌≡◌, ◌<◌, ◌≤◌, ℕ, ◌+◌, Bool, false, ◌&&◌, List, [], ◌∷◌, ◌++◌, take, length, get_or, Option, Some, None, refl, sym, ap, subst, append-nil, ◌∙◌}
use Rattle.std.specs.List.{list_any, flat_map, slice_get}
use Rattle.std.specs.Option.{option_map_or}
use Rattle.std.proofs.lemmas.List.{take_more, take_all}
use Rattle.std.proofs.lemmas.Grind.{flat_map-append}
use Rattle.std.proofs.lemmas.Option.{slice_get_read}
use Rattle.dg_lex.specs.Bytes.{Bytes}
use Rattle.dg_decl.specs.declared.document.Doc.{Doc}
use Rattle.dg_decl.specs.declared.violation.Violation.{Violation}
use Rattle.dg_decl.specs.Document.{Statement, statements}
use Rattle.dg_decl.specs.Names.{member_name, is_called}
use Rattle.dg_decl.specs.Stages.Names.{same_block, has_earlier, duplicate_name, unknown_name, names_stage}
use Rattle.dg_names.proofs.StatementLemmas.{at_its_place}
use Rattle.dg_typing.specs.NamesMembers.{has_noted, AreMembers, is_member_again}
use Rattle.dg_typing.proofs.NamesRepeated.{earlier_in_block}

abbrev pub breaks : Doc → Statement → List Violation
breaks doc s = duplicate_name doc s ++ unknown_name doc s

-- the first statements are noted, and what they break is found
pub record BreaksOn (doc : Doc) (ss : List Statement) (members : List (Option ℕ × Bytes))
    (broken : List Violation) : Type 0 where
  pub known : AreMembers ss members
  pub found : broken ≡ flat_map (breaks doc) ss

pub breaks_first : (doc : Doc) (members : List (Option ℕ × Bytes)) (broken : List Violation)
    → members ≡ [] → broken ≡ [] → BreaksOn doc [] members broken
breaks_first doc members broken none empty = record {
  known = λ b n. ap (λ (ms : List (Option ℕ × Bytes)). has_noted ms b n) none;
  found = empty;
}

same_answers : (f g : Bytes → Bool) → ((n : Bytes) → f n ≡ g n) → (o : Option Bytes)
    → option_map_or f o false ≡ option_map_or g o false
same_answers f g same None = refl
same_answers f g same (Some n) = same n

-- the statement at a place is told of the earlier ones
pub told : (doc : Doc) (list : List Statement) (place : ℕ) (s : Statement) (again : Bool)
    (members : List (Option ℕ × Bytes)) (broken : List Violation)
    → list ≡ statements doc → place < length list → s ≡ get_or list place s
    → BreaksOn doc (take place list) members broken
    → again ≡ option_map_or (has_noted members s.block) (member_name s.item) false
    → again ≡ is_member_again doc s
told doc list place s again members broken all lt is on tells =
    let there = slice_get_read list (length list) place s refl lt is in
    let here : s.index ≡ place = at_its_place doc place s
    (ap (λ (ss : List Statement). slice_get ss place) (sym all) ∙ there) in
    tells
    ∙ same_answers (has_noted members s.block)
    (has_earlier member_name (λ e. same_block e.block s.block) doc s)
    (λ n. on.known s.block n
    ∙ ap (λ (ss : List Statement). list_any (λ e. same_block e.block s.block
    && is_called member_name n e) (take place ss)) all
    ∙ ap (λ (k : ℕ). list_any (λ e. same_block e.block s.block && is_called member_name n e)
    (take k (statements doc))) (sym here)
    ∙ earlier_in_block member_name (λ e. same_block e.block s.block) doc s n)
    (member_name s.item)

pub breaks_next : (doc : Doc) (list : List Statement) (place : ℕ) (s : Statement)
    (old new : List (Option ℕ × Bytes)) (before after : List Violation)
    → place < length list → s ≡ get_or list place s
    → BreaksOn doc (take place list) old before
    → ((ss : List Statement) → AreMembers ss old → AreMembers (ss ++ s ∷ []) new)
    → after ≡ before ++ breaks doc s
    → BreaksOn doc (take (place + 1) list) new after
breaks_next doc list place s old new before after lt is on notes adds =
    let more : take (place + 1) list ≡ take place list ++ s ∷ [] =
    take_more list place s lt
    ∙ ap (λ (x : Statement). take place list ++ x ∷ []) (sym is) in
    subst (λ (ss : List Statement). BreaksOn doc ss new after) (sym more) (record {
      known = notes (take place list) on.known;
      found = adds ∙ ap (λ (vs : List Violation). vs ++ breaks doc s) on.found
          ∙ sym (flat_map-append (breaks doc) (take place list) (s ∷ [])
          ∙ ap (λ (vs : List Violation). flat_map (breaks doc) (take place list) ++ vs)
          (append-nil (breaks doc s)));
    })

pub breaks_all : (doc : Doc) (list : List Statement) (place : ℕ)
    (members : List (Option ℕ × Bytes)) (broken : List Violation)
    → list ≡ statements doc → length list ≤ place
    → BreaksOn doc (take place list) members broken → broken ≡ names_stage doc
unfolding names_stage
breaks_all doc list place members broken all le on =
    on.found ∙ ap (flat_map (breaks doc)) (take_all place list le ∙ all)

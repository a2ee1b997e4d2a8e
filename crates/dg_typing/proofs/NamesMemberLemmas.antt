-- The members that are noted, as a list.
use Rattle.std.proofs.Common.{◌≡◌, ◌==◌, ℕ, Bool, true, false, cond, not, ◌&&◌, ◌||◌, List, [], ◌∷◌, ◌++◌, map, Option, Some, None, refl, sym, ap, ◌∙◌}
use Rattle.std.specs.Prelude.{nat_eq}
use Rattle.std.specs.Bool.{one_answer}
use Rattle.std.specs.List.{list_any}
use Rattle.std.specs.Option.{option_eq, option_map_or}
use Rattle.std.specs.Str.{bytes_eq}
use Rattle.std.proofs.lemmas.Bool.{false≢true, eq-eqb, eqb-true}
use Rattle.std.proofs.lemmas.List.{map-append}
use Rattle.std.proofs.lemmas.List.Folds.{list_any-append}
use Rattle.std.specs.Cmp.Lexicographic.{bytes_decides}
use Rattle.indexmap.specs.IndexSet.{insert_key}
use Rattle.dg_lex.specs.Bytes.{Bytes}
use Rattle.dg_decl.specs.Document.{Statement}
use Rattle.dg_decl.specs.Names.{member_name, is_called}
use Rattle.dg_decl.specs.Stages.Names.{same_block}
use Rattle.dg_typing.specs.declared.names_stage.members.Member.{Member}
use Rattle.dg_typing.specs.contracts.names_stage.members.MemberPartialEq.TheImpl as block
use Rattle.dg_typing.specs.NamesMembers.{is_noted, has_noted, NotesOne, AreMembers}
use Rattle.dg_typing.proofs.NamesRepeated.{bytes_eq_turned}

abbrev pub rows : List Member → List (Option ℕ × Bytes)
rows keys = map (λ m. (m.block, m.name)) keys

abbrev pub same : Member → Member → Bool
same = block.ghosts.eq

-- ---- the table's test of two members is that of the rule

turned : (a b : ℕ) → (a == b) ≡ (b == a)
turned a b = one_answer (a == b) (b == a)
    (eqb-true a b, eq-eqb a b)
    ((λ e. sym (eqb-true b a e)), (λ e. eq-eqb b a (sym e)))

block_turned : (a b : Option ℕ) → option_eq nat_eq a b ≡ same_block b a
block_turned None None = refl
block_turned None (Some b) = refl
block_turned (Some a) None = refl
block_turned (Some a) (Some b) = turned a b

member_is : (k m : Member) → same k m ≡ is_noted k.block k.name (m.block, m.name)
member_is k m =
    ap (λ b. b && bytes_eq k.name m.name) (block_turned k.block m.block)
    ∙ ap (λ b. same_block m.block k.block && b) (bytes_eq_turned k.name m.name)

pub has_rows : (k : Member) (keys : List Member)
    → list_any (same k) keys ≡ has_noted (rows keys) k.block k.name
has_rows k [] = refl
has_rows k (m ∷ ms) =
    ap (λ b. b || list_any (same k) ms) (member_is k m)
    ∙ ap (λ b. is_noted k.block k.name (m.block, m.name) || b) (has_rows k ms)

-- ---- one member more

and_first : (a b : Bool) → (a && b) ≡ true → a ≡ true
and_first true b e = refl
and_first false b e = e

and_second : (a b : Bool) → (a && b) ≡ true → b ≡ true
and_second true b e = e
and_second false b e = absurd (false≢true e)

one_block : (a b : Option ℕ) → same_block a b ≡ true → a ≡ b
one_block None None e = refl
one_block None (Some b) e = absurd (false≢true e)
one_block (Some a) None e = absurd (false≢true e)
one_block (Some a) (Some b) e = ap Some (eqb-true a b e)

-- what has the block and the name of a member that is noted is noted too
had_already : (ms : List (Option ℕ × Bytes)) (a b : Option ℕ) (name n : Bytes)
    → has_noted ms a name ≡ true → is_noted b n (a, name) ≡ true → has_noted ms b n ≡ true
had_already ms a b name n had passes =
    let of_block : a ≡ b = one_block a b (and_first (same_block a b) (bytes_eq name n) passes) in
    let named : name ≡ n =
    (bytes_decides name n).0 (and_second (same_block a b) (bytes_eq name n) passes) in
    ap (λ x. has_noted ms x n) (sym of_block) ∙ ap (has_noted ms a) (sym named) ∙ had

or_self : (a b : Bool) → (b ≡ true → a ≡ true) → a ≡ (a || b)
or_self true b given = refl
or_self false true given = given refl
or_self false false given = refl

or_none : (b : Bool) → (b || false) ≡ b
or_none true = refl
or_none false = refl

noted_by : (v : Member) (keys : List Member) (b : Option ℕ) (n : Bytes) (had : Bool)
    → list_any (same v) keys ≡ had
    → has_noted (rows (cond had keys (keys ++ v ∷ []))) b n
    ≡ (has_noted (rows keys) b n || is_noted b n (v.block, v.name))
noted_by v keys b n true had =
    or_self (has_noted (rows keys) b n) (is_noted b n (v.block, v.name))
    (had_already (rows keys) v.block b v.name n (sym (has_rows v keys) ∙ had))
noted_by v keys b n false had =
    ap (λ (ms : List (Option ℕ × Bytes)). has_noted ms b n)
    (map-append (λ (m : Member). (m.block, m.name)) keys (v ∷ []))
    ∙ list_any-append (is_noted b n) (rows keys) ((v.block, v.name) ∷ [])
    ∙ ap (λ t. has_noted (rows keys) b n || t) (or_none (is_noted b n (v.block, v.name)))

pub noted : (v : Member) (old new : List Member) (a : Option ℕ) (name : Bytes)
    (before : List (Option ℕ × Bytes))
    → new ≡ insert_key same old v → v.block ≡ a → v.name ≡ name → rows old ≡ before
    → NotesOne (a, name) before (rows new)
noted v old new a name before is of_block of_name seen b n =
    ap (λ (ks : List Member). has_noted (rows ks) b n) is
    ∙ noted_by v old b n (list_any (same v) old) refl
    ∙ ap (λ (ms : List (Option ℕ × Bytes)). has_noted ms b n || is_noted b n (v.block, v.name)) seen
    ∙ ap (λ (x : Option ℕ). has_noted before b n || is_noted b n (x, v.name)) of_block
    ∙ ap (λ (x : Bytes). has_noted before b n || is_noted b n (a, x)) of_name

pub has : (v : Member) (keys : List Member) (a : Option ℕ) (name : Bytes)
    (before : List (Option ℕ × Bytes)) → v.block ≡ a → v.name ≡ name → rows keys ≡ before
    → list_any (same v) keys ≡ has_noted before a name
has v keys a name before of_block of_name seen =
    has_rows v keys ∙ ap (λ (ms : List (Option ℕ × Bytes)). has_noted ms v.block v.name) seen
    ∙ ap (λ (x : Option ℕ). has_noted before x v.name) of_block ∙ ap (has_noted before a) of_name

pub not_not : (a b : Bool) → a ≡ not b → not a ≡ b
not_not a true e = ap not e
not_not a false e = ap not e

-- ---- one statement more

abbrev is_at : Option ℕ → Bytes → Statement → Bool
is_at block n e = same_block e.block block && is_called member_name n e

and_false : (b : Bool) → (b && false) ≡ false
and_false true = refl
and_false false = refl

-- what a statement adds, by the name that it has
at_end : (ss : List Statement) (s : Statement) (b : Option ℕ) (n : Bytes) (o : Option Bytes)
    → o ≡ member_name s.item
    → list_any (is_at b n) (ss ++ s ∷ [])
    ≡ (list_any (is_at b n) ss || (same_block s.block b && is_called (λ i. o) n s))
at_end ss s b n o is =
    list_any-append (is_at b n) ss (s ∷ [])
    ∙ ap (λ t. list_any (is_at b n) ss || t) (or_none (is_at b n s))
    ∙ ap (λ (p : Option Bytes). list_any (is_at b n) ss
    || (same_block s.block b && is_called (λ i. p) n s)) (sym is)

pub notes_member : (ss : List Statement) (s : Statement) (block : Option ℕ) (name : Bytes)
    (old new : List (Option ℕ × Bytes)) → block ≡ s.block → Some name ≡ member_name s.item
    → NotesOne (block, name) old new → AreMembers ss old → AreMembers (ss ++ s ∷ []) new
notes_member ss s block name old new of_block is notes are b n =
    notes b n ∙ ap (λ t. t || is_noted b n (block, name)) (are b n)
    ∙ ap (λ (x : Option ℕ). list_any (is_at b n) ss || is_noted b n (x, name)) of_block
    ∙ sym (at_end ss s b n (Some name) is)

pub notes_none : (ss : List Statement) (s : Statement) (old : List (Option ℕ × Bytes))
    → None ≡ member_name s.item → AreMembers ss old → AreMembers (ss ++ s ∷ []) old
notes_none ss s old is are b n =
    are b n ∙ sym (or_none (list_any (is_at b n) ss))
    ∙ ap (λ t. list_any (is_at b n) ss || t) (sym (and_false (same_block s.block b)))
    ∙ sym (at_end ss s b n None is)

pub tells_member : (s : Statement) (block : Option ℕ) (name : Bytes) (had : Bool)
    (members : List (Option ℕ × Bytes)) → block ≡ s.block → Some name ≡ member_name s.item
    → had ≡ has_noted members block name
    → had ≡ option_map_or (has_noted members s.block) (member_name s.item) false
tells_member s block name had members of_block is tells =
    tells ∙ ap (λ (x : Option ℕ). has_noted members x name) of_block
    ∙ ap (λ (o : Option Bytes). option_map_or (has_noted members s.block) o false) is

pub tells_none : (s : Statement) (members : List (Option ℕ × Bytes))
    → None ≡ member_name s.item
    → false ≡ option_map_or (has_noted members s.block) (member_name s.item) false
tells_none s members is =
    ap (λ (o : Option Bytes). option_map_or (has_noted members s.block) o false) is

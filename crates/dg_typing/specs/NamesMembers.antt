-- Members with their names and blocks, as the stage of names notes them.
use Rattle.std.specs.Prelude.{◌≡◌, ◌&&◌, ◌||◌, ℕ, Bool, false, List, Option}
use Rattle.std.specs.List.{list_any}
use Rattle.std.specs.Option.{option_map_or}
use Rattle.std.specs.Str.{bytes_eq}
use Rattle.dg_lex.specs.Bytes.{Bytes}
use Rattle.dg_decl.specs.declared.document.Doc.{Doc}
use Rattle.dg_decl.specs.Document.{Statement}
use Rattle.dg_decl.specs.Names.{member_name, is_called}
use Rattle.dg_decl.specs.Stages.Names.{has_earlier, same_block}

-- a member that is noted stands in this block and has this name
abbrev pub is_noted : Option ℕ → Bytes → Option ℕ × Bytes → Bool
is_noted block n member = same_block member.0 block && bytes_eq member.1 n

-- one of those that are noted does
abbrev pub has_noted : List (Option ℕ × Bytes) → Option ℕ → Bytes → Bool
has_noted members block n = list_any (is_noted block n) members

-- those that are noted are the old ones and this one
abbrev pub NotesOne : Option ℕ × Bytes → List (Option ℕ × Bytes) → List (Option ℕ × Bytes) → Type 0
NotesOne member old new =
    (block : Option ℕ) (n : Bytes)
    → has_noted new block n ≡ (has_noted old block n || is_noted block n member)

-- those that are noted are the members among some statements
abbrev pub AreMembers : List Statement → List (Option ℕ × Bytes) → Type 0
AreMembers ss members =
    (block : Option ℕ) (n : Bytes) → has_noted members block n
    ≡ list_any (λ e. same_block e.block block && is_called member_name n e) ss

-- a statement is a member, and an earlier member of its block has its name
abbrev pub is_member_again : Doc → Statement → Bool
is_member_again doc s =
    option_map_or (has_earlier member_name (λ e. same_block e.block s.block) doc s)
    (member_name s.item) false

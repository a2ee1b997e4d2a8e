-- The line of an item says that item, where it is no longer than a line may be.
use Rattle.std.proofs.Common.{ℕ, ◌≡◌, ◌≤◌, Bool, true, false, ◌&&◌, ◌==◌, List, [], ◌∷◌, ◌++◌, length, Option, Some, None, Result, Ok, Err, refl, sym, ap, ◌∙◌, arith}
use Rattle.std.specs.Prelude.{◌||◌, not, nat_le, if◌then◌else◌}
use Rattle.std.specs.List.{list_all}
use Rattle.std.proofs.lemmas.List.Folds.{list_all-append}
use Rattle.std.proofs.lemmas.Bool.{and_parts, le-leb, leb-true, eqb-true}
use Rattle.std.proofs.lemmas.Option.{none-some}
use Rattle.dg_lex.proofs.LongestLemmas.{refuted}
use Rattle.dg_lex.specs.declared.token.Token.{Token}
use Rattle.dg_lex.specs.Bytes.{Bytes, is_plain, line_end, line_limit}
use Rattle.dg_lex.specs.Tokens.{kind_of, tokens_from, tokens_of}
use Rattle.dg_lex.specs.Lexemes.{Lexeme, lexemes}
use Rattle.dg_lex.specs.LexLaws.{LieInOrder}
use Rattle.dg_lex.proofs.OrderLemmas.{in_order}
use Rattle.dg_lex.proofs.PieceLemmas.{is_kind, Begins, begins, Piece, tokens_in, AreFound, found_all}
use Rattle.dg_lex.proofs.PieceLemmas as pieces
use Rattle.dg_decl.specs.declared.document.LineMeaning.{LineMeaning}
use Rattle.dg_decl.specs.declared.document.LineMeaning.TheVariants.{Bad, Nothing, Says}
use Rattle.dg_decl.specs.declared.item.Item.{Item}
use Rattle.dg_decl.specs.Readers.{comes, taken}
use Rattle.dg_decl.specs.Forms.{item_line, line_with, outside_line, end_line}
use Rattle.dg_decl.specs.Lines.{is_printable, is_blank, is_comment, has_no_end}
use Rattle.dg_decl.specs.Meaning.{says, meaning_of_tokens, meaning_of}
use Rattle.dg_decl.specs.Canonical.{Printed, has_space, gap, text_behind, text_of, item_tokens, is_member, canonical_line}
use Rattle.dg_decl.proofs.SpaceLemmas.{pieces_behind, pieces_of, text_of_pieces, AllTokens, IsClose, pieces_tokens, pieces_parted}
use Rattle.dg_printer.proofs.BackKinds.{AllKinds, kind_plain, no_slash}
use Rattle.dg_printer.proofs.BackTokens.{bare, item_bare, item_close, FitItem, item_kinds}
use Rattle.dg_printer.proofs.BackItems.{item_back}
use Rattle.dg_printer.proofs.BackKeeps.{IfReads}
use Rattle.dg_printer.proofs.BackFits.{item_fits}

-- ---- what a line says fits

lie_kinds : (line : Bytes) (at : ℕ) (ts : List Token) → LieInOrder line at ts → AllKinds
    (lexemes line ts)
lie_kinds line at [] lie = tt
lie_kinds line at (t ∷ ts) lie = (lie.2.kind, lie_kinds line t.to ts lie.3)

abbrev pub MeaningFits : LineMeaning → Type 0
MeaningFits Bad = Unit {0}
MeaningFits Nothing = Unit {0}
MeaningFits (Says x) = FitItem x

says_fits : (o : Option (Item × List Lexeme)) → IfReads FitItem o → MeaningFits (says o)
says_fits None is = tt
says_fits (Some p) is = is.0

tokens_fit : (line : Bytes) (r : Result (List Token) ℕ) → tokens_of line ≡ r → MeaningFits
    (meaning_of_tokens line r)
tokens_fit line (Err at) found = tt
tokens_fit line (Ok ts) found = says_fits (item_line (lexemes line ts))
    (item_fits.at (lexemes line ts) (lie_kinds line 0 ts (in_order line ts found)))

meaning_at : (v w : Bool) (m : LineMeaning) → MeaningFits m → MeaningFits
    (if v then (if w then Nothing else m) else Bad)
meaning_at true true m is = tt
meaning_at true false m is = is
meaning_at false w m is = tt

pub meaning_fits : (line : Bytes) → MeaningFits (meaning_of line)
unfolding meaning_of
meaning_fits line = meaning_at (is_printable line) (is_blank line || is_comment line)
    (meaning_of_tokens line (tokens_of line)) (tokens_fit line (tokens_of line) refl)

-- ---- the bytes of a line are plain

gap_plain_at : (v : Bool) → list_all is_plain (if v then 32 ∷ [] else []) ≡ true
gap_plain_at true = refl
gap_plain_at false = refl

behind_plain : (before : Lexeme) (ps : List Printed) → AllTokens ps
    → list_all is_plain (text_behind before ps) ≡ true
behind_plain before [] all = refl
behind_plain before (p ∷ ps) all =
    rw (
      list_all-append is_plain (gap before p) (p.token.spelling ++ text_behind p.token ps),
      list_all-append is_plain p.token.spelling (text_behind p.token ps),
      gap_plain_at
          (not p.close && has_space before.spelling p.token.spelling),
      kind_plain p.token.spelling
          p.token.kind all.0,
      behind_plain p.token ps all.1,
    ) refl

text_plain : (ps : List Printed) → AllTokens ps → list_all is_plain (text_of ps) ≡ true
text_plain [] all = refl
text_plain (p ∷ ps) all = rw (
  list_all-append is_plain p.token.spelling
      (text_behind p.token ps),
  kind_plain p.token.spelling p.token.kind all.0,
  behind_plain p.token
      ps all.1,
) refl

-- two spaces, or none
abbrev indent : Bool → Bytes
indent v = if v then 32 ∷ 32 ∷ [] else []

indented_plain : (v : Bool) (z : Bytes) → list_all is_plain z ≡ true
    → list_all is_plain (indent v ++ z) ≡ true
indented_plain true z is = is
indented_plain false z is = is

line_plain : (x : Item) → FitItem x → list_all is_plain (canonical_line x) ≡ true
unfolding canonical_line
line_plain x f = indented_plain (is_member x) (text_of (item_tokens x))
    (text_plain (item_tokens x) (item_kinds x f))

plain_no_end : (b : ℕ) → is_plain b ≡ true → not (b == line_end) ≡ true
plain_no_end b is = (let low = leb-true 32 b (and_parts (nat_le 32 b) (nat_le b 126) is).0 in rw
    (refuted (b == line_end) (λ same. (let e = eqb-true b line_end same in absurd
    (omega (arith, low, e))))) refl)

no_end : (z : Bytes) → list_all is_plain z ≡ true → has_no_end z ≡ true
no_end [] is = refl
no_end (b ∷ z) is = (let parts = and_parts (is_plain b) (list_all is_plain z) is in rw
    (plain_no_end b parts.0, no_end z parts.1) refl)

pub line_no_end : (x : Item) → FitItem x → has_no_end (canonical_line x) ≡ true
line_no_end x f = no_end (canonical_line x) (line_plain x f)

-- ---- a line is neither blank nor a comment

-- the first byte of a line behind its spaces
record Starts (z : Bytes) : Type 0 where
  first : ℕ
  more : Bytes
  is : z ≡ first ∷ more
  no_space : (first == 32) ≡ false
  no_slash : (first == 47) ≡ false

token_starts : (p : Printed) (ps : List Printed) → kind_of p.token.spelling ≡ Some p.token.kind
    → Starts (text_of (p ∷ ps))
token_starts p ps is =
    let b = begins p.token.spelling p.token.kind (is_kind p.token.spelling p.token.kind is) in
    record {
      first = b.first;
      more = b.more ++ text_behind p.token ps;
      is = ap (λ (z : Bytes). z ++ text_behind p.token ps) b.is;
      no_space = b.no_space;
      no_slash = no_slash b.first b.more p.token.kind (ap kind_of (sym b.is) ∙ is);
    }

nothing_said : item_line [] ≡ None
unfolding item_line line_with outside_line end_line taken comes
nothing_said = refl

text_starts : (ps : List Printed) (x : Item) → AllTokens ps → item_line (bare ps) ≡ Some (x, [])
    → Starts (text_of ps)
text_starts [] x all is = absurd (none-some (x, []) (sym nothing_said ∙ is))
text_starts (p ∷ ps) x all is = token_starts p ps all.0

some_size : (b : ℕ) (z : Bytes) → (length (b ∷ z) == 0) ≡ false
some_size b z = refuted (length (b ∷ z) == 0)
    (λ same. (let e = eqb-true (length (b ∷ z)) 0 same in absurd (omega (arith, e))))

something : (v : Bool) (b : ℕ) (z : Bytes) → (b == 32) ≡ false → (b == 47) ≡ false
    → (is_blank (indent v ++ (b ∷ z)) || is_comment (indent v ++ (b ∷ z))) ≡ false
something true b z space slash = rw (space, slash, some_size b z) refl
something false b z space slash = rw (space, slash, some_size b z) refl

-- ---- the tokens of a line are those of its item

behind_bare : (before : Lexeme) (ps : List Printed) → tokens_in (pieces_behind before ps) ≡ bare ps
behind_bare before [] = refl
behind_bare before (p ∷ ps) = ap (λ (ls : List Lexeme). p.token ∷ ls) (behind_bare p.token ps)

pieces_bare : (ps : List Printed) → tokens_in (pieces_of ps) ≡ bare ps
pieces_bare [] = refl
pieces_bare (p ∷ ps) = ap (λ (ls : List Lexeme). p.token ∷ ls) (behind_bare p.token ps)

-- the tokens of this line are these
record HasTokens (line : Bytes) (ls : List Lexeme) : Type 0 where
  tokens : List Token
  found : tokens_of line ≡ Ok tokens
  spelled : lexemes line tokens ≡ ls

behind_spaces : (v : Bool) (z : Bytes) → tokens_of (indent v ++ z) ≡ tokens_from 0
    (length (indent v)) z
unfolding tokens_of
behind_spaces true z = refl
behind_spaces false z = refl

found_tokens : (v : Bool) (z y : Bytes) (ls ms : List Lexeme) → z ≡ y → ls ≡ ms → AreFound
    (indent v ++ z) (length (indent v)) y ls → HasTokens (indent v ++ z) ms
found_tokens v z y ls ms same are f = record {
  tokens = f.tokens;
  found = behind_spaces v z ∙ ap (λ (x : Bytes). tokens_from 0 (length (indent v)) x) same
      ∙ f.found;
  spelled = f.spelled ∙ are;
}

line_tokens : (v : Bool) (ps : List Printed) → AllTokens ps → IsClose ps → HasTokens
    (indent v ++ text_of ps) (bare ps)
line_tokens v ps all close =
    found_tokens v (text_of ps) (pieces.text_of (pieces_of ps)) (tokens_in (pieces_of ps)) (bare ps)
    (text_of_pieces ps) (pieces_bare ps)
    (found_all (pieces_of ps) (indent v) (indent v ++ text_of ps)
    (ap (λ (z : Bytes). indent v ++ z) (text_of_pieces ps)) (pieces_tokens ps all)
    (pieces_parted ps all close))

item_line_tokens : (x : Item) → FitItem x → HasTokens (canonical_line x) (bare (item_tokens x))
unfolding canonical_line
item_line_tokens x f = line_tokens (is_member x) (item_tokens x) (item_kinds x f) (item_close x)

bare_back : (x : Item) → FitItem x → item_line (bare (item_tokens x)) ≡ Some (x, [])
bare_back x f = rw (item_bare x) (item_back x f)

item_something : (x : Item) → FitItem x → (is_blank (canonical_line x) || is_comment
    (canonical_line x)) ≡ false
unfolding canonical_line
item_something x f =
    let s = text_starts (item_tokens x) x (item_kinds x f) (bare_back x f) in
    rw s.is (something (is_member x) s.first s.more s.no_space s.no_slash)

tokens_say : (line : Bytes) (ls : List Lexeme) (x : Item) → HasTokens line ls → item_line ls ≡ Some
    (x, []) → meaning_of_tokens line (tokens_of line) ≡ Says x
tokens_say line ls x h is = rw (h.found, h.spelled, is) refl

pub line_says : (x : Item) → FitItem x → length (canonical_line x) ≤ line_limit → meaning_of
    (canonical_line x) ≡ Says x
unfolding meaning_of
line_says x f short =
    rw (le-leb (length (canonical_line x)) line_limit short, line_plain x f, item_something x f)
    (tokens_say (canonical_line x) (bare (item_tokens x)) x (item_line_tokens x f) (bare_back x f))

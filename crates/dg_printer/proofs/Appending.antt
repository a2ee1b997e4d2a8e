-- Tokens that are appended, and lists of them.
use Rattle.std.proofs.Common.{◌≡◌, Bool, true, false, List, [], ◌∷◌, ◌++◌, refl, ap, sym, ◌∙◌, append_assoc, append-nil}
use Rattle.std.specs.Prelude.{codes, not, ◌&&◌, ◌||◌, if◌then◌else◌}
use Rattle.std.specs.Str.{bytes_eq}
use Rattle.std.proofs.lemmas.List.{map-append}
use Rattle.dg_lex.specs.Bytes.{Bytes, is_among}
use Rattle.dg_lex.specs.Lexemes.{Lexeme}
use Rattle.dg_decl.specs.Canonical.{Printed, apart, all_apart, has_space, gap, text_behind, text_of, indent_of, item_tokens, canonical_line}
use Rattle.dg_decl.specs.declared.item.Item.{Item}
use Rattle.dg_decl.specs.Lines.{with_end}
use Rattle.dg_printer.specs.declared.line.After.TheVariants as after
use Rattle.dg_printer.specs.Output.{Output, after_of, is_spaced, wants_space, space_where, with_token, pushed, spelled}

pub pushed-append : (l : Output) (ps qs : List Printed) → pushed l (ps ++ qs)
    ≡ pushed (pushed l ps) qs
pushed-append l [] qs = refl
pushed-append l (p ∷ ps) qs = pushed-append (with_token l p.close p.token.spelling) ps qs

pub spelled-append : (l : Output) (xs ys : List Lexeme) → spelled l (xs ++ ys)
    ≡ spelled (spelled l xs) ys
spelled-append l xs ys = ap (pushed l) (map-append apart xs ys)
    ∙ pushed-append l (all_apart xs) (all_apart ys)

-- ---- the text that is appended

spaced_by : (comma opening : Bool) (next : Bytes)
    → wants_space (if comma then after.Comma else (if opening then after.Opening else after.Other))
    next
    ≡ (comma || (not opening && is_spaced next))
spaced_by true opening next = refl
spaced_by false true next = refl
spaced_by false false next = refl

spaced : (s next : Bytes) → wants_space (after_of s) next ≡ has_space s next
spaced s next = spaced_by (bytes_eq s (codes ",")) (is_among s
    (codes "(" ∷ codes "[" ∷ codes "." ∷ [])) next

space_is : (b : Bool) → space_where b ≡ (if b then 32 ∷ [] else [])
space_is true = refl
space_is false = refl

-- the space before a token
gap_is : (before : Lexeme) (l : Output) (p : Printed) → l.after ≡ after_of before.spelling
    → space_where (not p.close && wants_space l.after p.token.spelling) ≡ gap before p
gap_is before l p is =
    rw (is, spaced before.spelling p.token.spelling)
    (space_is (not p.close && has_space before.spelling p.token.spelling))

pub appended : (before : Lexeme) (l : Output) (ps : List Printed) → l.after
    ≡ after_of before.spelling
    → (pushed l ps).text ≡ l.text ++ text_behind before ps
unfolding with_token
appended before l [] is = sym (append-nil l.text)
appended before l (p ∷ ps) is =
    appended p.token (with_token l p.close p.token.spelling) ps refl
    ∙ rw (gap_is before l p is, append_assoc, append_assoc) refl

closed_start : (close : Bool) → space_where (not close && false) ≡ []
closed_start true = refl
closed_start false = refl

pub begun : (z : Bytes) (ps : List Printed)
    → (pushed (record { text = z; after = after.Start }) ps).text ≡ z ++ text_of ps
unfolding with_token
begun z [] = sym (append-nil z)
begun z (p ∷ ps) =
    appended p.token (with_token (record { text = z; after = after.Start }) p.close
    p.token.spelling) ps refl
    ∙ rw (closed_start p.close, append_assoc) refl

-- the line of an item behind a text, with its indent and its end
pub line_made : (z : Bytes) (x : Item)
    → (pushed (record { text = z ++ indent_of x; after = after.Start }) (item_tokens x)).text ++
    (10 ∷ [])
    ≡ z ++ with_end (canonical_line x)
unfolding canonical_line
line_made z x = rw (
  begun (z ++ indent_of x) (item_tokens x),
  append_assoc,
  append_assoc,
  append_assoc,
) refl

-- The value of a text in quotes is that text, and a text token is its value in quotes.
use Rattle.std.proofs.Common.{ℕ, ◌≡◌, ◌-◌, Bool, true, false, ◌==◌, [], ◌∷◌, ◌++◌, length, refl, sym, ap, ◌∙◌, length-append, arith}
use Rattle.std.specs.Prelude.{◌||◌}
use Rattle.std.specs.List.{flat_map, list_all}
use Rattle.std.proofs.Math.Seq.{take-append_seam}
use Rattle.std.proofs.lemmas.Bool.{and_parts, or_parts, eqb-true, false≢true}
use Rattle.dg_lex.specs.Bytes.{Bytes, is_plain}
use Rattle.dg_lex.specs.Tokens.{is_rest_of_text, is_text}
use Rattle.dg_lex.specs.Lexemes.{escaped, quoted, unescaped, value_of_text}
use Rattle.dg_lex.specs.LexLaws.{AreQuoted}

-- ---- the value of what is between the quotes

back_at : (b : ℕ) (z : Bytes) (v : Bool) → (b == 34 || b == 92) ≡ v → unescaped false (flat_map escaped z) ≡ z → unescaped false (flat_map escaped (b ∷ z)) ≡ b ∷ z
back_at b z true e more = rw e (ap (λ (t : Bytes). b ∷ t) more)
back_at b z false e more = rw (e, (or_parts (b == 34) (b == 92) e).1) (ap (λ (t : Bytes). b ∷ t) more)

unescaped_back : (z : Bytes) → unescaped false (flat_map escaped z) ≡ z
unescaped_back [] = refl
unescaped_back (b ∷ z) = back_at b z (b == 34 || b == 92) refl (unescaped_back z)

-- what stands between the quotes
inner : (z : Bytes) → value_of_text (34 ∷ (z ++ (34 ∷ []))) ≡ unescaped false z
unfolding value_of_text
inner z =
    let size : length (34 ∷ (z ++ (34 ∷ []))) - 2 ≡ length z = omega (arith, length-append z (34 ∷ [])) in
    rw size (ap (unescaped false) (take-append_seam z (34 ∷ [])))

value : (z : Bytes) → value_of_text (quoted z) ≡ z
unfolding quoted
value z = inner (flat_map escaped z) ∙ unescaped_back z

-- ---- a text in quotes is a token

rest_at : (b : ℕ) (z : Bytes) (v : Bool) → (b == 34 || b == 92) ≡ v → is_plain b ≡ true → is_rest_of_text false (flat_map escaped z ++ (34 ∷ [])) ≡ true → is_rest_of_text false (flat_map escaped (b ∷ z) ++ (34 ∷ [])) ≡ true
rest_at b z true e plain more = rw (e, e) more
rest_at b z false e plain more = rw (e, (or_parts (b == 34) (b == 92) e).0, plain, (or_parts (b == 34) (b == 92) e).1) more

rest : (z : Bytes) → list_all is_plain z ≡ true → is_rest_of_text false (flat_map escaped z ++ (34 ∷ [])) ≡ true
rest [] plain = refl
rest (b ∷ z) plain =
    let parts = and_parts (is_plain b) (list_all is_plain z) plain in
    rest_at b z (b == 34 || b == 92) refl parts.0 (rest z parts.1)

token : (z : Bytes) → list_all is_plain z ≡ true → is_text (quoted z) ≡ true
unfolding is_text quoted
token z plain = rest z plain

-- ---- a text token is its value in quotes

-- what is written, where a `\` came before
abbrev behind : Bool → Bytes → Bytes
behind true z = 92 ∷ z
behind false z = z

-- what stands behind the opening quote: what is between the quotes, and the closing one
record IsRest (escaped_before : Bool) (w : Bytes) : Type 0 where
  front : Bytes
  is : w ≡ front ++ (34 ∷ [])
  back : flat_map escaped (unescaped escaped_before front) ≡ behind escaped_before front

quote_last : (b : ℕ) (w : Bytes) → (b == 34) ≡ true → (length w == 0) ≡ true → IsRest false (b ∷ w)
quote_last b [] e last = record { front = []; is = ap (λ (n : ℕ). n ∷ []) (eqb-true b 34 e); back = refl }
quote_last b (c ∷ w) e last = absurd (let h = eqb-true (length (c ∷ w)) 0 last in omega (arith, h))

escape_first : (b : ℕ) (w : Bytes) → (b == 92) ≡ true → IsRest true w → IsRest false (b ∷ w)
escape_first b w e r = record {
  front = b ∷ r.front;
  is = ap (λ (t : Bytes). b ∷ t) r.is;
  back = rw e (r.back ∙ ap (λ (n : ℕ). n ∷ r.front) (sym (eqb-true b 92 e)));
}

plain_first : (b : ℕ) (w : Bytes) → (b == 34) ≡ false → (b == 92) ≡ false → IsRest false w → IsRest false (b ∷ w)
plain_first b w quote escape r = record {
  front = b ∷ r.front;
  is = ap (λ (t : Bytes). b ∷ t) r.is;
  back = rw (escape, quote, escape) (ap (λ (t : Bytes). b ∷ t) r.back);
}

escaped_first : (b : ℕ) (w : Bytes) → (b == 34 || b == 92) ≡ true → IsRest false w → IsRest true (b ∷ w)
escaped_first b w e r = record {
  front = b ∷ r.front;
  is = ap (λ (t : Bytes). b ∷ t) r.is;
  back = rw e (ap (λ (t : Bytes). 92 ∷ (b ∷ t)) r.back);
}

plain_at : (b : ℕ) (w : Bytes) (u : Bool) → (b == 34) ≡ false → (b == 92) ≡ u → IsRest u w → IsRest false (b ∷ w)
plain_at b w true quote e r = escape_first b w e r
plain_at b w false quote e r = plain_first b w quote e r

parts_at : (b : ℕ) (w : Bytes) (v : Bool) → (b == 34) ≡ v → ((u : Bool) → is_rest_of_text u w ≡ true → IsRest u w) → is_rest_of_text false (b ∷ w) ≡ true → IsRest false (b ∷ w)
parts_at b w true e more is = quote_last b w e (rw e at is)
parts_at b w false e more is =
    plain_at b w (b == 92) e refl (more (b == 92) (and_parts (is_plain b) (is_rest_of_text (b == 92) w) (rw e at is)).1)

parts : (before : Bool) (w : Bytes) → is_rest_of_text before w ≡ true → IsRest before w
parts before [] is = absurd (false≢true is)
parts true (b ∷ w) is =
    let both = and_parts (b == 34 || b == 92) (is_rest_of_text false w) is in
    escaped_first b w both.0 (parts false w both.1)
parts false (b ∷ w) is = parts_at b w (b == 34) refl (λ u. parts u w) is

spelling : (z : Bytes) → is_text z ≡ true → quoted (value_of_text z) ≡ z
unfolding is_text quoted
spelling [] is = absurd (false≢true is)
spelling (b ∷ w) is =
    let both = and_parts (b == 34) (is_rest_of_text false w) is in
    let r = parts false w both.1 in
    let first : b ≡ 34 = eqb-true b 34 both.0 in
    rw (first, r.is, inner r.front, r.back) refl

pub quoted_back : AreQuoted
quoted_back = record { value = value; token = token; spelling = spelling }

-- Lists, uses of types, parameters, marks and constants are read back from their tokens.
use Rattle.std.proofs.Common.{ℕ, zero, suc, ◌≡◌, ◌≤◌, Bool, true, false, List, [], ◌∷◌, ◌++◌, length, drop, map, Option, Some, None, refl, sym, ap, subst, ◌∙◌, append_assoc, append-nil, arith}
use Rattle.std.specs.Prelude.{◌||◌, nat_le, codes, ℤ}
use Rattle.std.proofs.Math.Seq.{take-append_seam, drop-append_seam}
use Rattle.std.proofs.lemmas.Bool.{or_parts, le-leb}
use Rattle.std.proofs.lemmas.List.{length-map}
use Rattle.dg_lex.specs.declared.token.TokenKind.{TokenKind}
use Rattle.std.specs.List.{list_all, prefix_len, flat_map}
use Rattle.dg_types.specs.declared.key.MapKeyVal.{MapKeyVal}
use Rattle.dg_types.specs.declared.key.MapKeyVal.TheVariants as map_key
use Rattle.dg_types.specs.declared.shape.Qualifier.{Qualifier}
use Rattle.dg_types.specs.declared.shape.TypeUse.{TypeUse}
use Rattle.dg_types.specs.declared.shape.Shape.{Shape}
use Rattle.dg_lex.specs.declared.token.TokenKind.TheVariants as kind
use Rattle.dg_lex.specs.Bytes.{Bytes, is_plain, line_limit}
use Rattle.dg_lex.specs.Tokens.{is_name}
use Rattle.dg_lex.specs.Lexemes.{Lexeme}
use Rattle.dg_lex.specs.LexLaws.{is_in_range}
use Rattle.dg_lex.proofs.TextLemmas.{quoted_back}
use Rattle.dg_lex.proofs.DecimalLemmas.{decimals}
use Rattle.dg_decl.specs.declared.expression.Expr.{Expr}
use Rattle.dg_decl.specs.declared.expression.Expr.TheVariants as expr
use Rattle.dg_decl.specs.declared.item.Mark.{Mark}
use Rattle.dg_decl.specs.declared.item.Mark.TheVariants as mark
use Rattle.dg_decl.specs.declared.item.OpenArg.{OpenArg}
use Rattle.dg_decl.specs.declared.item.AskStep.{AskStep}
use Rattle.dg_decl.specs.declared.item.AskStep.TheVariants as step
use Rattle.dg_decl.specs.declared.item.Param.{Param}
use Rattle.dg_decl.specs.Readers.{Reader, then_reads, comes, comes_kind, is_of_kind, taken, eaten, spelled, name, at_name, at_names, text, integer, optional, list_of, list_limit, names, optional_names, enclosed, in_parentheses}
use Rattle.dg_decl.specs.TypeForms.{type_depth_limit, type_form, member, some_qualifier, qualifier, type_use, param, params}
use Rattle.dg_decl.specs.ExpressionForms.{nesting_limit, text_constant, integer_constant, object, constant_over, constant_within, constant}
use Rattle.dg_decl.specs.Forms.{scope, map_key_mark, mark_form, open_arg, open_args, map_key_form, at_key, ask_step, ask_steps}
use Rattle.dg_decl.specs.Written.{name_token, word_token, sign_token, at_token, text_token, more_separated, separated, in_parens, list_tokens, list_fits, written_type, written}
use Rattle.dg_decl.specs.Canonical.{member_tokens, qualifier_tokens, clause_tokens, optional_tokens, scope_tokens, mark_tokens, map_key_token, map_key_name, at_tokens, open_arg_tokens, open_args_tokens, step_tokens}
use Rattle.dg_decl.proofs.TypesBack.{NoParts, type_back}
use Rattle.dg_decl.proofs.ExpressionsBack.{NoSign}
use Rattle.dg_decl.proofs.WrittenEquations as eq
use Rattle.dg_printer.proofs.BackWritten.{AllOf, type_facts}

abbrev comma : Lexeme
comma = sign_token (codes ",")

abbrev close_paren : Lexeme
close_paren = sign_token (codes ")")

-- what one reader reads, and then what is read behind it
pub next : {A B : Type 0} {x : Option (A × List Lexeme)} {a : A} {rest : List Lexeme} {o : Option
    (B × List Lexeme)} (f : A → Reader B) → x ≡ Some (a, rest) → f a rest ≡ o → then_reads x f ≡ o
next f is more = ap (λ z. then_reads z f) is ∙ more

-- ---- lists

-- each is read back from its tokens, where what stands behind them is so
abbrev pub AreBack : {A : Type 0} → Reader A → (List Lexeme → Type 0) → List A → List (List Lexeme)
    → Type 0
AreBack r Follows [] [] = Unit {0}
AreBack r Follows [] (ts ∷ tss) = ⊥
AreBack r Follows (x ∷ xs) [] = ⊥
AreBack r Follows (x ∷ xs) (ts ∷ tss) = ((rest : List Lexeme) → Follows rest → r (ts ++ rest) ≡ Some
    (x, rest)) × AreBack r Follows xs tss

last_of : {A : Type 0} (r : Reader A) (k : ℕ) (x : A) (ts rest : List Lexeme) → r (ts ++ rest)
    ≡ Some (x, rest) → NoSign (codes ",") rest → list_of r (suc k) (ts ++ rest) ≡ Some
    (x ∷ [], rest)
unfolding list_of eaten
last_of r k x ts rest is none = next _ is (rw none refl)

more_of : {A : Type 0} (r : Reader A) (k : ℕ) (x : A) (xs : List A) (ts later rest : List Lexeme)
    → r (ts ++ (comma ∷ later)) ≡ Some (x, comma ∷ later) → list_of r k later ≡ Some (xs, rest)
    → list_of r (suc k) (ts ++ (comma ∷ later)) ≡ Some (x ∷ xs, rest)
unfolding list_of eaten comes
more_of r k x xs ts later rest is more = next _ is (rw more refl)

pub list_back : {A : Type 0} (r : Reader A) (Follows : List Lexeme → Type 0)
    → ((rest : List Lexeme) → Follows (comma ∷ rest)) → (x : A) (xs : List A) (ts : List Lexeme)
    (tss : List (List Lexeme)) (k : ℕ) (rest : List Lexeme) → AreBack r Follows (x ∷ xs) (ts ∷ tss)
    → length (x ∷ xs) ≤ k → Follows rest → NoSign (codes ",") rest → list_of r k
    (separated comma (ts ∷ tss) ++ rest) ≡ Some (x ∷ xs, rest)
list_back r Follows commas x xs ts tss zero rest all short follows none = absurd
    (omega (arith, short))
list_back r Follows commas x [] ts [] (suc k) rest all short follows none =
    rw (append_assoc ts [] rest) (last_of r k x ts rest (all.0 rest follows) none)
list_back r Follows commas x [] ts (us ∷ tss) (suc k) rest all short follows none = absurd all.1
list_back r Follows commas x (y ∷ xs) ts [] (suc k) rest all short follows none = absurd all.1
list_back r Follows commas x (y ∷ xs) ts (us ∷ tss) (suc k) rest all short follows none =
    let later : List Lexeme = separated comma (us ∷ tss) ++ rest in
    rw (append_assoc ts (comma ∷ separated comma (us ∷ tss)) rest)
    (more_of r k x (y ∷ xs) ts later rest (all.0 (comma ∷ later) (commas later))
    (list_back r Follows commas y xs us tss k rest all.1 (omega (arith, short)) follows none))

-- anything may stand behind
abbrev pub Anything : List Lexeme → Type 0
Anything rest = Unit {0}

name_back : (n : Bytes) (rest : List Lexeme) → name (name_token n ∷ rest) ≡ Some (n, rest)
unfolding spelled
name_back n rest = refl

abbrev pub names_tokens : List Bytes → List (List Lexeme)
names_tokens ns = map (λ n. name_token n ∷ []) ns

names_are : (ns : List Bytes) → AreBack name Anything ns (names_tokens ns)
names_are [] = tt
names_are (n ∷ ns) = (λ rest any. name_back n rest, names_are ns)

pub names_back : (n : Bytes) (ns : List Bytes) (rest : List Lexeme) → length (n ∷ ns) ≤ line_limit
    → NoSign (codes ",") rest → names (separated comma (names_tokens (n ∷ ns)) ++ rest) ≡ Some
    (n ∷ ns, rest)
unfolding names
names_back n ns rest short none = list_back name Anything (λ r. tt) n ns (name_token n ∷ [])
    (names_tokens ns) line_limit rest (names_are (n ∷ ns)) short tt none

-- ---- uses of types

-- a type begins with a name
type_first : (s : Shape) (P : List Lexeme → Type 0)
    → ((n : Bytes) (more : List Lexeme) → P (name_token n ∷ more)) → (rest : List Lexeme) → P
    ((written_type s).tokens ++ rest)
type_first s P is rest = (let f = type_facts s in subst (λ (ts : List Lexeme). P (ts ++ rest))
    (sym f.first) (is f.name (f.more ++ rest)))

abbrev pub use_lexemes : TypeUse → List Lexeme
use_lexemes u = qualifier_tokens u.qualifier ++ (written_type u.shape).tokens

abbrev pub FitMember : Option Bytes → Type 0
FitMember None = Unit {0}
FitMember (Some t) = list_all is_plain t ≡ true

abbrev pub FitQualifier : Option Qualifier → Type 0
FitQualifier None = Unit {0}
FitQualifier (Some q) = (is_name q.name ≡ true) × FitMember q.member

-- what is known of the use of a type that was read
pub record FitUse (u : TypeUse) : Type 0 where
  pub qualifier : FitQualifier u.qualifier
  pub fits : (written_type u.shape).fits ≡ true
  pub depth : (written_type u.shape).depth ≤ type_depth_limit

no_qualifier : (ls : List Lexeme) → comes_kind kind.AtName ls ≡ false → qualifier ls ≡ Some
    (None, ls)
unfolding qualifier
no_qualifier ls none = rw none refl

bare_qualifier : (n : Bytes) (ls : List Lexeme) → NoSign (codes "(") ls → qualifier
    (at_token n ∷ ls) ≡ Some (Some (record { name = n; member = None }), ls)
unfolding qualifier some_qualifier at_name member comes_kind spelled
bare_qualifier n ls none = rw none refl

text_back : (t : Bytes) (rest : List Lexeme) → text (text_token t ∷ rest) ≡ Some (t, rest)
unfolding text spelled
text_back t rest = ap (λ (z : Bytes). Some (z, rest)) (quoted_back.value t)

enclosed_text : (t : Bytes) (ls : List Lexeme) → enclosed text
    (sign_token (codes "(") ∷ (text_token t ∷ (close_paren ∷ ls))) ≡ Some (t, ls)
unfolding enclosed taken comes
enclosed_text t ls = next _ (text_back t (close_paren ∷ ls)) refl

member_qualifier : (n t : Bytes) (ls : List Lexeme) → qualifier
    (at_token n ∷ (sign_token (codes "(") ∷ (text_token t ∷ (close_paren ∷ ls)))) ≡ Some
    (Some (record { name = n; member = Some t }), ls)
unfolding qualifier some_qualifier at_name member comes_kind comes spelled
member_qualifier n t ls = rw (enclosed_text t ls) refl

name_no_at : (n : Bytes) (ls : List Lexeme) → comes_kind kind.AtName (name_token n ∷ ls) ≡ false
unfolding comes_kind
name_no_at n ls = refl

name_no_paren : (n : Bytes) (ls : List Lexeme) → NoSign (codes "(") (name_token n ∷ ls)
unfolding comes
name_no_paren n ls = refl

qualifier_back : (q : Option Qualifier) (s : Shape) (rest : List Lexeme) → qualifier
    (qualifier_tokens q ++ ((written_type s).tokens ++ rest)) ≡ Some
    (q, (written_type s).tokens ++ rest)
qualifier_back None s rest = no_qualifier ((written_type s).tokens ++ rest)
    (type_first s (λ ls. comes_kind kind.AtName ls ≡ false) name_no_at rest)
qualifier_back (Some q) s rest = some_at q.name q.member
  where
    some_at : (n : Bytes) (m : Option Bytes) → qualifier
        (at_token n ∷ (member_tokens m ++ ((written_type s).tokens ++ rest))) ≡ Some
        (Some (record { name = n; member = m }), (written_type s).tokens ++ rest)
    some_at n None = bare_qualifier n ((written_type s).tokens ++ rest)
        (type_first s (λ ls. NoSign (codes "(") ls) name_no_paren rest)
    some_at n (Some t) = member_qualifier n t ((written_type s).tokens ++ rest)

pub use_back : (u : TypeUse) → FitUse u → (rest : List Lexeme) → NoParts rest → type_use
    (use_lexemes u ++ rest) ≡ Some (u, rest)
unfolding type_use type_form
use_back u f rest none =
    rw (append_assoc (qualifier_tokens u.qualifier) (written_type u.shape).tokens rest)
    (next _ (qualifier_back u.qualifier u.shape rest)
    (next _ (type_back u.shape f.fits type_depth_limit f.depth rest none) refl))

-- ---- parameters

abbrev pub param_lexemes : Param → List Lexeme
param_lexemes p = name_token p.name ∷ (sign_token (codes ":") ∷ use_lexemes p.shape)

pub record FitParam (p : Param) : Type 0 where
  pub name : is_name p.name ≡ true
  pub shape : FitUse p.shape

pub param_back : (p : Param) → FitParam p → (rest : List Lexeme) → NoParts rest → param
    (param_lexemes p ++ rest) ≡ Some (p, rest)
unfolding param spelled taken comes
param_back p f rest none = next _ (use_back p.shape f.shape rest none) refl

params_are : (ps : List Param) → AllOf FitParam ps → AreBack param NoParts ps (map param_lexemes ps)
params_are [] all = tt
params_are (p ∷ ps) all = (λ rest none. param_back p all.0 rest none, params_are ps all.1)

abbrev pub params_lexemes : List Param → List Lexeme
params_lexemes ps = in_parens (separated comma (map param_lexemes ps))

pub record FitParams (ps : List Param) : Type 0 where
  pub short : length ps ≤ list_limit
  pub all : AllOf FitParam ps

-- no members, or some, between parentheses
pub none_in : {A : Type 0} (r : Reader A) (rest : List Lexeme) → in_parentheses r
    (in_parens [] ++ rest) ≡ Some ([], rest)
unfolding in_parentheses taken eaten comes
none_in r rest = refl

paren_first : (rest : List Lexeme) → comes kind.Sign (codes "(") (sign_token (codes "(") ∷ rest)
    ≡ true
unfolding comes
paren_first rest = refl

close_first : (rest : List Lexeme) → comes kind.Sign (codes ")") (close_paren ∷ rest) ≡ true
unfolding comes
close_first rest = refl

pub some_in : {A : Type 0} (r : Reader A) (xs : List A) (tokens rest : List Lexeme) → NoSign
    (codes ")") (tokens ++ (close_paren ∷ rest)) → list_of r list_limit
    (tokens ++ (close_paren ∷ rest)) ≡ Some (xs, close_paren ∷ rest) → in_parentheses r
    (in_parens tokens ++ rest) ≡ Some (xs, rest)
unfolding in_parentheses taken eaten
some_in r xs tokens rest none is = rw (
  paren_first
      ((tokens ++ (close_paren ∷ [])) ++ rest),
  append_assoc tokens
      (close_paren ∷ []) rest,
  none,
  is,
  close_first rest,
) refl

comma_no_parts : (rest : List Lexeme) → NoParts (comma ∷ rest)
unfolding comes
comma_no_parts rest = refl

close_no_parts : (rest : List Lexeme) → NoParts (close_paren ∷ rest)
unfolding comes
close_no_parts rest = refl

close_no_comma : (rest : List Lexeme) → NoSign (codes ",") (close_paren ∷ rest)
unfolding comes
close_no_comma rest = refl

name_no_close : (n : Bytes) (ls : List Lexeme) → NoSign (codes ")") (name_token n ∷ ls)
unfolding comes
name_no_close n ls = refl

pub params_back : (ps : List Param) → FitParams ps → (rest : List Lexeme) → params
    (params_lexemes ps ++ rest) ≡ Some (ps, rest)
unfolding params
params_back [] f rest = none_in param rest
params_back (p ∷ ps) f rest =
    some_in param (p ∷ ps) (separated comma (map param_lexemes (p ∷ ps))) rest
    (name_no_close p.name (((sign_token (codes ":") ∷ use_lexemes p.shape) ++ more_separated comma
    (map param_lexemes ps)) ++ (close_paren ∷ rest)))
    (list_back param NoParts comma_no_parts p ps (param_lexemes p) (map param_lexemes ps) list_limit
    (close_paren ∷ rest) (params_are (p ∷ ps) f.all) f.short (close_no_parts rest)
    (close_no_comma rest))

-- ---- what stands in front of a keyword

pub scope_back : (s : Option Bytes) (ls : List Lexeme) → comes_kind kind.AtName ls ≡ false → scope
    (scope_tokens s ++ ls) ≡ Some (s, ls)
unfolding scope at_name spelled comes_kind
scope_back None [] none = refl
scope_back None (l ∷ ls) none = rw none refl
scope_back (Some s) ls none = refl

abbrev pub FitKey : MapKeyVal → Type 0
FitKey (map_key.Text k) = list_all is_plain k ≡ true
FitKey (map_key.Int i) = is_in_range i ≡ true

key_back : (k : MapKeyVal) (ls : List Lexeme) → FitKey k → map_key_mark
    (at_token (map_key_name k) ∷ (in_parens (map_key_token k ∷ []) ++ ls)) ≡ Some (k, ls)
unfolding map_key_mark enclosed text integer spelled eaten taken comes
key_back (map_key.Text k) ls fits = rw (quoted_back.value k) refl
key_back (map_key.Int i) ls fits = rw (decimals.token i fits, decimals.value i fits) refl

-- the at-names that are marks
abbrev pub is_mark : List Lexeme → Bool
is_mark ls = comes kind.AtName (codes "@IntoSet") ls ||
    (comes kind.AtName (codes "@ElementsIntoSet") ls || comes kind.AtName (codes "@IntoMap") ls)

abbrev pub FitMark : Option Mark → List Lexeme → Type 0
FitMark None ls = is_mark ls ≡ false
FitMark (Some (mark.IntoMap k)) ls = FitKey k
FitMark (Some other) ls = Unit {0}

no_mark : (ls : List Lexeme) → is_mark ls ≡ false → mark_form ls ≡ Some (None, ls)
unfolding mark_form
no_mark ls none =
    let a = or_parts (comes kind.AtName (codes "@IntoSet") ls) _ none in
    let b = or_parts (comes kind.AtName (codes "@ElementsIntoSet") ls)
    (comes kind.AtName (codes "@IntoMap") ls) a.1 in
    rw (a.0, b.0, b.1) refl

map_mark : (k : MapKeyVal) (ls : List Lexeme) → FitKey k → mark_form
    (mark_tokens (Some (mark.IntoMap k)) ++ ls) ≡ Some (Some (mark.IntoMap k), ls)
unfolding mark_form at_name spelled comes
map_mark k ls fits = rw (key_back k ls fits) refl

pub mark_back : (m : Option Mark) (ls : List Lexeme) → FitMark m ls → mark_form
    (mark_tokens m ++ ls) ≡ Some (m, ls)
unfolding mark_form at_name spelled comes
mark_back None ls fits = no_mark ls fits
mark_back (Some mark.IntoSet) ls fits = refl
mark_back (Some mark.ElementsIntoSet) ls fits = refl
mark_back (Some (mark.IntoMap k)) ls fits = map_mark k ls fits

-- ---- names behind a keyword

count_at : (ss : List Bytes) (n : Bytes) (rest : List Lexeme) → prefix_len (is_of_kind kind.AtName)
    (at_tokens ss ++ (name_token n ∷ rest)) ≡ length (at_tokens ss)
count_at [] n rest = refl
count_at (s ∷ ss) n rest = rw (count_at ss n rest) (omega arith)

bare_names : (ss : List Bytes) → map (λ (l : Lexeme). drop 1 l.spelling) (at_tokens ss) ≡ ss
bare_names [] = refl
bare_names (s ∷ ss) = ap (λ (zs : List Bytes). s ∷ zs) (bare_names ss)

pub at_names_back : (ss : List Bytes) (n : Bytes) (rest : List Lexeme) → at_names
    (at_tokens ss ++ (name_token n ∷ rest)) ≡ Some (ss, name_token n ∷ rest)
unfolding at_names
at_names_back ss n rest =
    rw (
      count_at ss n rest,
      take-append_seam (at_tokens ss) (name_token n ∷ rest),
      drop-append_seam
          (at_tokens ss) (name_token n ∷ rest),
    )
    (ap (λ (zs : List Bytes). Some (zs, name_token n ∷ rest)) (bare_names ss))

no_clause : (k : TokenKind) (w : Bytes) (rest : List Lexeme) → comes k w rest ≡ false
    → optional_names k w rest ≡ Some ([], rest)
unfolding optional_names eaten
no_clause k w rest none = rw none refl

some_clause : (k : TokenKind) (w : Bytes) (t : Lexeme) (ns : List Bytes) (ls rest : List Lexeme)
    → comes k w (t ∷ ls) ≡ true → names ls ≡ Some (ns, rest) → optional_names k w (t ∷ ls) ≡ Some
    (ns, rest)
unfolding optional_names eaten
some_clause k w t ns ls rest first is = rw first is

pub clause_back : (k : TokenKind) (w : Bytes) (t : Lexeme) (ns : List Bytes) (rest : List Lexeme)
    → ((ls : List Lexeme) → comes k w (t ∷ ls) ≡ true) → comes k w rest ≡ false → NoSign
    (codes ",") rest → length ns ≤ line_limit → optional_names k w (clause_tokens t ns ++ rest)
    ≡ Some (ns, rest)
clause_back k w t [] rest first none last short = no_clause k w rest none
clause_back k w t (n ∷ ns) rest first none last short =
    some_clause k w t (n ∷ ns) (separated (sign_token (codes ",")) (names_tokens (n ∷ ns)) ++ rest)
    rest (first _) (names_back n ns rest short last)

pub optional_back : (p : Option Bytes) (rest : List Lexeme) → comes kind.Name (codes "in") rest
    ≡ false → optional kind.Name (codes "in") name (optional_tokens (codes "in") p ++ rest) ≡ Some
    (p, rest)
unfolding optional eaten comes spelled
optional_back None rest none = rw none refl
optional_back (Some n) rest none = refl

-- ---- constants

pub data IsConstantOver (P : Expr → Type 0) (e : Expr) : Type 0 where
  of_text : (t : Bytes) → e ≡ expr.Text t → list_all is_plain t ≡ true → IsConstantOver P e
  of_integer : (n : ℤ) → e ≡ expr.Int n → is_in_range n ≡ true → IsConstantOver P e
  of_object : (c : Bytes) (xs : List Expr) → e ≡ expr.New c xs → is_name c ≡ true
      → length xs ≤ list_limit → AllOf P xs → IsConstantOver P e

-- a constant that nests at most so deep
unfoldable pub ConstantAt : ℕ → Expr → Type 0
ConstantAt zero e = ⊥
ConstantAt (suc d) e = IsConstantOver (ConstantAt d) e

abbrev IsConstantBack : ℕ → Expr → Type 0
IsConstantBack d e = (rest : List Lexeme) → constant_within d ((written e).tokens ++ rest) ≡ Some
    (e, rest)

text_over : (inner : Reader Expr) (t : Bytes) (rest : List Lexeme) → constant_over inner
    ((written (expr.Text t)).tokens ++ rest) ≡ Some (expr.Text t, rest)
unfolding constant_over comes_kind text_constant
text_over inner t rest = rw (eq.written-Text t) (next _ (text_back t rest) refl)

integer_over : (inner : Reader Expr) (n : ℤ) (rest : List Lexeme) → is_in_range n ≡ true
    → constant_over inner ((written (expr.Int n)).tokens ++ rest) ≡ Some (expr.Int n, rest)
unfolding constant_over comes_kind integer_constant integer spelled
integer_over inner n rest within = rw (eq.written-Int n, decimals.token n within)
    (ap (λ (z : ℤ). Some (expr.Int z, rest)) (decimals.value n within))

object_over : (inner : Reader Expr) (c : Bytes) (xs : List Expr) (ls rest : List Lexeme)
    → in_parentheses inner (ls ++ rest) ≡ Some (xs, rest) → constant_over inner
    (word_token (codes "new") ∷ (name_token c ∷ (ls ++ rest))) ≡ Some (expr.New c xs, rest)
unfolding constant_over comes_kind object taken comes spelled
object_over inner c xs ls rest is = next _ is refl

abbrev members_tokens : List Expr → List (List Lexeme)
members_tokens xs = map (λ x. x.tokens) (map written xs)

constants_are : (d : ℕ) → ((x : Expr) → ConstantAt d x → IsConstantBack d x) → (xs : List Expr)
    → AllOf (ConstantAt d) xs → AreBack (constant_within d) Anything xs (members_tokens xs)
constants_are d back [] all = tt
constants_are d back (x ∷ xs) all = (λ rest any. back x all.0 rest, constants_are d back xs all.1)

no_close_at : (P : Expr → Type 0) (e : Expr) → IsConstantOver P e → (rest : List Lexeme) → NoSign
    (codes ")") ((written e).tokens ++ rest)
unfolding comes
no_close_at P e (of_text t same plain) rest = rw (same, eq.written-Text t) refl
no_close_at P e (of_integer n same within) rest = rw (same, eq.written-Int n) refl
no_close_at P e (of_object c xs same named short all) rest = rw (same, eq.written-New c xs) refl

no_close : (d : ℕ) (e : Expr) → ConstantAt d e → (rest : List Lexeme) → NoSign (codes ")")
    ((written e).tokens ++ rest)
unfolding ConstantAt
no_close zero e is rest = absurd is
no_close (suc d) e is rest = no_close_at (ConstantAt d) e is rest

constants_in : (d : ℕ) → ((x : Expr) → ConstantAt d x → IsConstantBack d x) → (xs : List Expr)
    → AllOf (ConstantAt d) xs → length xs ≤ list_limit → (rest : List Lexeme) → in_parentheses
    (constant_within d) (list_tokens (map written xs) ++ rest) ≡ Some (xs, rest)
constants_in d back [] all short rest = none_in (constant_within d) rest
constants_in d back (x ∷ xs) all short rest =
    some_in (constant_within d) (x ∷ xs) (separated comma (members_tokens (x ∷ xs))) rest
    (rw (append_assoc (written x).tokens (more_separated comma (members_tokens xs))
    (close_paren ∷ rest)) (no_close d x all.0 (more_separated comma (members_tokens xs)
    ++ (close_paren ∷ rest))))
    (list_back (constant_within d) Anything (λ r. tt) x xs (written x).tokens
    (members_tokens xs) list_limit (close_paren ∷ rest)
    (constants_are d back (x ∷ xs) all) short tt (close_no_comma rest))

constant_at : (d : ℕ) → ((x : Expr) → ConstantAt d x → IsConstantBack d x) → (e : Expr)
    → IsConstantOver (ConstantAt d) e → (rest : List Lexeme) → constant_over (constant_within d)
    ((written e).tokens ++ rest) ≡ Some (e, rest)
constant_at d back e (of_text t same plain) rest = rw same (text_over (constant_within d) t rest)
constant_at d back e (of_integer n same within) rest = rw same
    (integer_over (constant_within d) n rest within)
constant_at d back e (of_object c xs same named short all) rest =
    rw (same, eq.written-New c xs) (object_over (constant_within d) c xs
    (list_tokens (map written xs)) rest (constants_in d back xs all short rest))

pub constant_back : (d : ℕ) (e : Expr) → ConstantAt d e → (rest : List Lexeme) → constant_within d
    ((written e).tokens ++ rest) ≡ Some (e, rest)
unfolding ConstantAt constant_within
constant_back zero e is rest = absurd is
constant_back (suc d) e is rest = constant_at d (λ x isx r. constant_back d x isx r) e is rest

-- a constant fits
pub all_fit : (es : List Expr) → AllOf (λ e. (written e).fits ≡ true) es → list_all (λ x. x.fits)
    (map written es) ≡ true
all_fit [] all = refl
all_fit (e ∷ es) all = rw (all.0, all_fit es all.1) refl

pub list_fit : (es : List Expr) → AllOf (λ e. (written e).fits ≡ true) es → length es ≤ list_limit
    → list_fits (map written es) ≡ true
list_fit es all short =
    let few : nat_le (length (map written es)) list_limit ≡ true = le-leb
    (length (map written es)) list_limit (omega (arith, short, length-map es written)) in
    rw (few, all_fit es all) refl

all_of : {A : Type 0} (P Q : A → Type 0) → ((a : A) → P a → Q a) → (xs : List A) → AllOf P xs
    → AllOf Q xs
all_of P Q is [] all = tt
all_of P Q is (x ∷ xs) all = (is x all.0, all_of P Q is xs all.1)

pub fits_at : (P : Expr → Type 0) → ((x : Expr) → P x → (written x).fits ≡ true) → (e : Expr)
    → IsConstantOver P e → (written e).fits ≡ true
fits_at P is e (of_text t same plain) = rw (same, eq.written-Text t) plain
fits_at P is e (of_integer n same within) = rw (same, eq.written-Int n) within
fits_at P is e (of_object c xs same named short all) =
    rw (same, eq.written-New c xs, named) (list_fit xs
    (all_of P (λ x. (written x).fits ≡ true) is xs all) short)

pub constant_fits : (d : ℕ) (e : Expr) → ConstantAt d e → (written e).fits ≡ true
unfolding ConstantAt
constant_fits zero e is = absurd is
constant_fits (suc d) e is = fits_at (ConstantAt d) (λ x isx. constant_fits d x isx) e is

-- ---- arguments of an `open` line

pub record FitArg (a : OpenArg) : Type 0 where
  pub name : is_name a.name ≡ true
  pub value : ConstantAt nesting_limit a.value

arg_back : (a : OpenArg) → FitArg a → (rest : List Lexeme) → open_arg (open_arg_tokens a ++ rest)
    ≡ Some (a, rest)
unfolding open_arg constant spelled taken comes
arg_back a f rest = next _ (constant_back nesting_limit a.value f.value rest) refl

args_are : (xs : List OpenArg) → AllOf FitArg xs → AreBack open_arg Anything xs
    (map open_arg_tokens xs)
args_are [] all = tt
args_are (a ∷ xs) all = (λ rest any. arg_back a all.0 rest, args_are xs all.1)

no_more : NoSign (codes ",") []
unfolding comes
no_more = refl

pub args_back : (xs : List OpenArg) → AllOf FitArg xs → length xs ≤ list_limit → open_args
    (open_args_tokens xs) ≡ Some (xs, [])
unfolding open_args eaten comes
args_back [] all short = refl
args_back (a ∷ xs) all short =
    rw (append-nil (separated comma (map open_arg_tokens (a ∷ xs)))) at
    (list_back open_arg Anything (λ r. tt) a xs (open_arg_tokens a)
    (map open_arg_tokens xs) list_limit [] (args_are (a ∷ xs) all) short tt no_more)

-- ---- steps of an `ask` line

abbrev pub FitStep : AskStep → Type 0
FitStep (step.Field f) = is_name f ≡ true
FitStep (step.At k) = FitKey k
FitStep other = Unit {0}

key_form_back : (k : MapKeyVal) (rest : List Lexeme) → FitKey k → map_key_form
    (map_key_token k ∷ rest) ≡ Some (k, rest)
unfolding map_key_form comes_kind text integer spelled
key_form_back (map_key.Text k) rest fits = rw (quoted_back.value k) refl
key_form_back (map_key.Int i) rest fits = rw (decimals.token i fits, decimals.value i fits) refl

step_back : (s : AskStep) (rest : List Lexeme) → FitStep s → ask_step (step_tokens s ++ rest) ≡ Some
    (s, rest)
unfolding ask_step at_key taken comes spelled
step_back (step.Field f) rest fits = refl
step_back step.Get rest fits = refl
step_back step.Inside rest fits = refl
step_back (step.At k) rest fits = next _ (key_form_back k (sign_token (codes "]") ∷ rest) fits) refl

steps_go : (n : ℕ) (s : AskStep) (ss : List AskStep) (rest : List Lexeme) → ask_step
    (step_tokens s ++ rest) ≡ Some (s, rest) → ask_steps n rest ≡ Some (ss, []) → ask_steps (suc n)
    (step_tokens s ++ rest) ≡ Some (s ∷ ss, [])
unfolding ask_steps
steps_go n (step.Field f) ss rest is more = next _ is (next _ more refl)
steps_go n step.Get ss rest is more = next _ is (next _ more refl)
steps_go n step.Inside ss rest is more = next _ is (next _ more refl)
steps_go n (step.At k) ss rest is more = next _ is (next _ more refl)

no_steps : (n : ℕ) → ask_steps n [] ≡ Some ([], [])
unfolding ask_steps
no_steps zero = refl
no_steps (suc n) = refl

pub steps_back : (n : ℕ) (ss : List AskStep) → AllOf FitStep ss → length ss ≤ n → ask_steps n
    (flat_map step_tokens ss) ≡ Some (ss, [])
steps_back n [] all short = no_steps n
steps_back zero (s ∷ ss) all short = absurd (omega (arith, short))
steps_back (suc n) (s ∷ ss) all short =
    steps_go n s ss (flat_map step_tokens ss) (step_back s (flat_map step_tokens ss) all.0)
    (steps_back n ss all.1 (omega (arith, short)))

-- What is read from tokens: each reader gives what the grammar has, and leaves tokens.
use Rattle.std.proofs.Common.{ℕ, zero, suc, ◌≡◌, ◌≤◌, Bool, true, false, List, [], ◌∷◌, length, drop, map, Option, Some, None, refl, ap, ◌∙◌, arith}
use Rattle.std.specs.Prelude.{if◌then◌else◌, take, codes, ℤ}
use Rattle.std.specs.List.{list_all, prefix_len}
use Rattle.std.specs.Str.{bytes_eq}
use denote.Enum.Bare.{same_true}
use Rattle.dg_types.specs.declared.shape.Shape.{Shape}
use Rattle.dg_types.specs.declared.shape.Shape.TheVariants as shape
use Rattle.dg_types.specs.declared.key.MapKeyVal.TheVariants as map_key
use Rattle.dg_lex.specs.contracts.token.TokenKind.{the_type}
use Rattle.dg_lex.specs.declared.token.TokenKind.{TokenKind}
use Rattle.dg_lex.specs.declared.token.TokenKind.TheVariants as kind
use Rattle.dg_lex.specs.Bytes.{Bytes, is_plain, line_limit}
use Rattle.dg_lex.specs.Tokens.{is_integer, kind_of, value_of_integer}
use Rattle.dg_lex.specs.Lexemes.{Lexeme, value_of_text}
use Rattle.dg_lex.specs.LexLaws.{is_in_range}
use Rattle.dg_decl.specs.declared.item.Param.{Param}
use Rattle.dg_decl.specs.Readers.{Reader, then_reads, ◌>>=◌, ◌>>◌, pure, nothing, comes, comes_kind, is_of_kind, taken, eaten, spelled, at_end, name, at_name, at_names, text, integer, optional, list_of, list_limit, names, optional_names, enclosed, some_in_parentheses, in_parentheses}
use Rattle.dg_decl.specs.TypeForms.{type_depth_limit, shape_named, constructed, type_over, type_within, type_form, member, some_qualifier, qualifier, type_use, param, params}
use Rattle.dg_decl.specs.Forms.{scope, map_key_mark}
use Rattle.dg_decl.specs.Written.{written_type}
use Rattle.dg_decl.proofs.WrittenEquations as eq
use Rattle.dg_printer.proofs.BackKinds.{AllKinds, kinds_rest, name_of, at_of, text_plain, integer_within}
use Rattle.dg_printer.proofs.BackWritten.{AllOf}
use Rattle.dg_printer.proofs.BackForms as forms
use Rattle.dg_printer.proofs.BackForms.{FitQualifier, FitUse, FitParam, FitParams, FitKey}
use Rattle.dg_printer.proofs.BackTokens.{IsName, FitOption, FitNames}

-- what was read is so, and tokens are left
abbrev pub IfReads : {A : Type 0} → (A → Type 0) → Option (A × List Lexeme) → Type 0
IfReads P None = Unit {0}
IfReads P (Some p) = P p.0 × AllKinds p.1

-- whatever this reads of tokens is so
pub record Keeps {A : Type 0} (P : A → Type 0) (r : Reader A) : Type 0 where
  pub at : (ls : List Lexeme) → AllKinds ls → IfReads P (r ls)

abbrev pub Any : {A : Type 0} → A → Type 0
Any a = Unit {0}

-- ---- from readers to readers

pub bind_at : {A B : Type 0} (P : A → Type 0) (Q : B → Type 0) (x : Option (A × List Lexeme))
    (f : A → Reader B) → IfReads P x → ((a : A) → P a → Keeps Q (f a)) → IfReads Q (then_reads x f)
bind_at P Q None f is more = tt
bind_at P Q (Some p) f is more = (more p.0 is.0).at p.1 is.1

pub bind : {A B : Type 0} {P : A → Type 0} {Q : B → Type 0} {r : Reader A} (f : A → Reader B)
    → Keeps P r → ((a : A) → P a → Keeps Q (f a)) → Keeps Q (r >>= f)
bind {P = P} {Q = Q} {r = r} f k more = record {
  at = λ ls kinds. bind_at P Q (r ls) f
      (k.at ls kinds) more;
}

pub given : {A : Type 0} {P : A → Type 0} (a : A) → P a → Keeps P (pure a)
given a p = record { at = λ ls kinds. (p, kinds) }

pub no_reading : {A : Type 0} (P : A → Type 0) → Keeps P (nothing {A = A})
no_reading P = record { at = λ ls kinds. tt }

pub choose : {A : Type 0} {P : A → Type 0} (b : Bool) (r s : Reader A) → Keeps P r → Keeps P s
    → Keeps P (if b then r else s)
choose true r s kr ks = kr
choose false r s kr ks = ks

pub choose_by : {A : Type 0} {P : A → Type 0} (b : Bool) (r s : Reader A) → (b ≡ true → Keeps P r)
    → (b ≡ false → Keeps P s) → Keeps P (if b then r else s)
choose_by true r s kr ks = kr refl
choose_by false r s kr ks = ks refl

pub if_at : {A : Type 0} (P : A → Type 0) (b : Bool) (x y : Option (A × List Lexeme)) → IfReads P x
    → IfReads P y → IfReads P (if b then x else y)
if_at P true x y px py = px
if_at P false x y px py = py

-- by a test of the tokens
pub by_test : {A : Type 0} {P : A → Type 0} (t : List Lexeme → Bool) (r s : Reader A) → Keeps P r
    → Keeps P s → Keeps P (λ ls. if t ls then r ls else s ls)
by_test {P = P} t r s kr ks = record {
  at = λ ls kinds. if_at P (t ls) (r ls) (s ls)
      (kr.at ls kinds) (ks.at ls kinds);
}

weaker_at : {A : Type 0} (P Q : A → Type 0) (x : Option (A × List Lexeme)) → ((a : A) → P a → Q a)
    → IfReads P x → IfReads Q x
weaker_at P Q None f is = tt
weaker_at P Q (Some p) f is = (f p.0 is.0, is.1)

pub weaker : {A : Type 0} {P Q : A → Type 0} {r : Reader A} → ((a : A) → P a → Q a) → Keeps P r
    → Keeps Q r
weaker {P = P} {Q = Q} {r = r} f k = record {
  at = λ ls kinds. weaker_at P Q (r ls) f
      (k.at ls kinds);
}

-- ---- one token

spelled_at : (k : TokenKind) (l : Lexeme) (ls : List Lexeme) (v : Bool) → is_of_kind k l ≡ v
    → kind_of l.spelling ≡ Some l.kind → AllKinds ls → IfReads (λ z. kind_of z ≡ Some k)
    (if v then Some (l.spelling, ls) else None)
spelled_at k l ls true e is kinds = (
  is ∙ ap (λ (j : TokenKind). Some j)
      (same_true the_type tt l.kind k e),
  kinds,
)
spelled_at k l ls false e is kinds = tt

spelled_reads : (k : TokenKind) (ls : List Lexeme) → AllKinds ls → IfReads (λ z. kind_of z ≡ Some k)
    (spelled k ls)
unfolding spelled
spelled_reads k [] kinds = tt
spelled_reads k (l ∷ ls) kinds = spelled_at k l ls (is_of_kind k l) refl kinds.0 kinds.1

pub spelled_keeps : (k : TokenKind) → Keeps (λ z. kind_of z ≡ Some k) (spelled k)
spelled_keeps k = record { at = spelled_reads k }

pub name_keeps : Keeps IsName name
name_keeps = weaker name_of (spelled_keeps kind.Name)

pub at_name_keeps : Keeps IsName at_name
unfolding at_name
at_name_keeps = bind _ (spelled_keeps kind.AtName) (λ z is. given (drop 1 z) (at_of z is))

abbrev pub Plain : Bytes → Type 0
Plain t = list_all is_plain t ≡ true

pub text_keeps : Keeps Plain text
unfolding text
text_keeps = bind _ (spelled_keeps kind.Text) (λ z is. given (value_of_text z) (text_plain z is))

abbrev pub InRange : ℤ → Type 0
InRange n = is_in_range n ≡ true

pub integer_keeps : Keeps InRange integer
unfolding integer
integer_keeps = bind _ (spelled_keeps kind.Integer)
    (λ z is. choose_by (is_integer z) _ _ (λ e. given (value_of_integer z) (integer_within z e))
    (λ e. no_reading InRange))

pub taken_keeps : (k : TokenKind) (w : Bytes) → Keeps Any (taken k w)
unfolding taken
taken_keeps k w = record {
  at = λ ls kinds. if_at Any (comes k w ls) (Some (tt, drop 1 ls)) None
      (tt, kinds_rest ls kinds) tt;
}

pub eaten_keeps : (k : TokenKind) (w : Bytes) → Keeps Any (eaten k w)
unfolding eaten
eaten_keeps k w = record {
  at = λ ls kinds. if_at Any (comes k w ls) (Some (true, drop 1 ls))
      (Some (false, ls)) (tt, kinds_rest ls kinds) (tt, kinds);
}

end_reads : (ls : List Lexeme) → AllKinds ls → IfReads Any (at_end ls)
unfolding at_end
end_reads [] kinds = (tt, tt)
end_reads (l ∷ ls) kinds = tt

pub at_end_keeps : Keeps Any at_end
at_end_keeps = record { at = end_reads }

-- takes one token or none, and reads on
pub behind : {B : Type 0} {Q : B → Type 0} {r : Reader B} (k : TokenKind) (w : Bytes) → Keeps Q r
    → Keeps Q (taken k w >> r)
behind {r = r} k w more = bind (λ u. r) (taken_keeps k w) (λ u any. more)

pub last : {B : Type 0} {Q : B → Type 0} (b : B) → Q b → Keeps Q (at_end >> pure b)
last b q = bind (λ u. pure b) at_end_keeps (λ u any. given b q)

-- ---- lists and parentheses

pub record ListOf {A : Type 0} (P : A → Type 0) (n : ℕ) (xs : List A) : Type 0 where
  pub short : length xs ≤ n
  pub some : 1 ≤ length xs
  pub all : AllOf P xs

pub record UpTo {A : Type 0} (P : A → Type 0) (n : ℕ) (xs : List A) : Type 0 where
  pub short : length xs ≤ n
  pub all : AllOf P xs

one_of : {A : Type 0} (P : A → Type 0) (n : ℕ) (x : A) → P x → ListOf P (suc n) (x ∷ [])
one_of P n x p = record { short = omega arith; some = omega arith; all = (p, tt) }

more_of : {A : Type 0} (P : A → Type 0) (n : ℕ) (x : A) (xs : List A) → P x → ListOf P n xs
    → ListOf P (suc n) (x ∷ xs)
more_of P n x xs p l = (let short = l.short in record {
  short = omega
      (arith, short);
  some = omega arith;
  all = (p, l.all);
})

pub list_keeps : {A : Type 0} (P : A → Type 0) (r : Reader A) (n : ℕ) → Keeps P r → Keeps
    (ListOf P n) (list_of r n)
unfolding list_of
list_keeps P r zero k = no_reading (ListOf P zero)
list_keeps P r (suc n) k =
    bind _ k (λ x p. bind _ (eaten_keeps kind.Sign (codes ",")) (λ more any. choose more _ _
    (bind _ (list_keeps P r n k) (λ xs l. given (x ∷ xs) (more_of P n x xs p l)))
    (given (x ∷ []) (one_of P n x p))))

pub enclosed_keeps : {A : Type 0} {P : A → Type 0} (r : Reader A) → Keeps P r → Keeps P (enclosed r)
unfolding enclosed
enclosed_keeps r k = behind kind.Sign (codes "(")
    (bind _ k (λ x p. behind kind.Sign (codes ")") (given x p)))

pub some_keeps : {A : Type 0} (P : A → Type 0) (r : Reader A) → Keeps P r → Keeps
    (ListOf P list_limit) (some_in_parentheses r)
unfolding some_in_parentheses
some_keeps P r k = enclosed_keeps (list_of r list_limit) (list_keeps P r list_limit k)

none_up_to : {A : Type 0} (P : A → Type 0) (n : ℕ) → UpTo P n []
none_up_to P n = record { short = omega arith; all = tt }

pub up_to : {A : Type 0} (P : A → Type 0) (n : ℕ) (xs : List A) → ListOf P n xs → UpTo P n xs
up_to P n xs l = record { short = l.short; all = l.all }

pub members_keep : {A : Type 0} (P : A → Type 0) (r : Reader A) → Keeps P r → Keeps
    (UpTo P list_limit) (in_parentheses r)
unfolding in_parentheses
members_keep P r k =
    behind kind.Sign (codes "(") (bind _ (eaten_keeps kind.Sign (codes ")"))
    (λ none any. choose none _ _ (given [] (none_up_to P list_limit))
    (bind _ (list_keeps P r list_limit k) (λ xs l. behind kind.Sign (codes ")")
    (given xs (up_to P list_limit xs l))))))

fit_names : (ns : List Bytes) → ListOf IsName line_limit ns → FitNames ns
fit_names ns l = record { short = l.short; all = l.all }

pub names_keep : Keeps (ListOf IsName line_limit) names
unfolding names
names_keep = list_keeps IsName name line_limit name_keeps

no_names : FitNames []
no_names = record { short = omega arith; all = tt }

pub optional_names_keep : (k : TokenKind) (w : Bytes) → Keeps FitNames (optional_names k w)
unfolding optional_names
optional_names_keep k w = bind _ (eaten_keeps k w)
    (λ some any. choose some _ _ (weaker fit_names names_keep) (given [] no_names))

pub optional_keeps : (k : TokenKind) (w : Bytes) (r : Reader Bytes) → Keeps IsName r
    → Keeps FitOption (optional k w r)
unfolding optional
optional_keeps k w r kr = bind _ (eaten_keeps k w)
    (λ some any. choose some _ _ (bind _ kr (λ n is. given (Some n) is)) (given None tt))

-- ---- at-names

prefix_one : (l : Lexeme) (ls : List Lexeme) → is_of_kind kind.AtName l ≡ true → prefix_len
    (is_of_kind kind.AtName) (l ∷ ls) ≡ suc (prefix_len (is_of_kind kind.AtName) ls)
prefix_one l ls e = rw e (omega arith)

prefix_none : (l : Lexeme) (ls : List Lexeme) → is_of_kind kind.AtName l ≡ false → prefix_len
    (is_of_kind kind.AtName) (l ∷ ls) ≡ 0
prefix_none l ls e = rw e refl

pub at_kind_of : (l : Lexeme) → is_of_kind kind.AtName l ≡ true → kind_of l.spelling ≡ Some l.kind
    → IsName (drop 1 l.spelling)
at_kind_of l e is = at_of l.spelling (is ∙ ap (λ (j : TokenKind). Some j)
    (same_true the_type tt l.kind kind.AtName e))

abbrev AtNames : ℕ → List Lexeme → Type 0
AtNames n ls = AllOf IsName (map (λ (l : Lexeme). drop 1 l.spelling) (take n ls)) × AllKinds
    (drop n ls)

at_names_at : (l : Lexeme) (ls : List Lexeme) (v : Bool) → is_of_kind kind.AtName l ≡ v → AllKinds
    (l ∷ ls) → AtNames (prefix_len (is_of_kind kind.AtName) ls) ls → AtNames
    (prefix_len (is_of_kind kind.AtName) (l ∷ ls)) (l ∷ ls)
at_names_at l ls true e kinds more = rw (prefix_one l ls e)
    ((at_kind_of l e kinds.0, more.0), more.1)
at_names_at l ls false e kinds more = rw (prefix_none l ls e) (tt, kinds)

at_names_of : (ls : List Lexeme) → AllKinds ls → AtNames (prefix_len (is_of_kind kind.AtName) ls) ls
at_names_of [] kinds = (tt, tt)
at_names_of (l ∷ ls) kinds = at_names_at l ls (is_of_kind kind.AtName l) refl kinds
    (at_names_of ls kinds.1)

pub at_names_keep : Keeps (AllOf IsName) at_names
unfolding at_names
at_names_keep = record { at = λ ls kinds. at_names_of ls kinds }

-- ---- types

pub record TypeAt (d : ℕ) (s : Shape) : Type 0 where
  pub fits : (written_type s).fits ≡ true
  pub depth : (written_type s).depth ≤ d

shape_at : (d : ℕ) (n : Bytes) (u v : Bool) → bytes_eq n (codes "Text") ≡ u → bytes_eq n
    (codes "Int") ≡ v → IsName n → TypeAt (suc d) (shape_named n)
shape_at d n true v e f is = rw e record {
  fits = rw eq.written_type-Text refl;
  depth = rw
      eq.written_type-Text (omega arith);
}
shape_at d n false true e f is = rw (e, f) record
    { fits = rw eq.written_type-Int refl; depth = rw eq.written_type-Int (omega arith) }
shape_at d n false false e f is = rw (e, f) record {
  fits = rw (eq.written_type-Named n)
      (rw (is, e, f) refl);
  depth = rw (eq.written_type-Named n) (omega arith);
}

shape_fits : (d : ℕ) (n : Bytes) → IsName n → TypeAt (suc d) (shape_named n)
shape_fits d n is = shape_at d n (bytes_eq n (codes "Text")) (bytes_eq n (codes "Int")) refl refl is

set_at : (d : ℕ) (t : Shape) → TypeAt d t → TypeAt (suc d) (shape.Set t)
set_at d t f = (let deep = f.depth in record {
  fits = rw (eq.written_type-Set t) f.fits;
  depth = rw
      (eq.written_type-Set t) (omega (arith, deep));
})

optional_at : (d : ℕ) (t : Shape) → TypeAt d t → TypeAt (suc d) (shape.Optional t)
optional_at d t f = (let deep = f.depth in record {
  fits = rw
      (eq.written_type-Optional t) f.fits;
  depth = rw (eq.written_type-Optional t)
      (omega (arith, deep));
})

provider_at : (d : ℕ) (t : Shape) → TypeAt d t → TypeAt (suc d) (shape.Provider t)
provider_at d t f = (let deep = f.depth in record {
  fits = rw
      (eq.written_type-Provider t) f.fits;
  depth = rw (eq.written_type-Provider t)
      (omega (arith, deep));
})

lazy_at : (d : ℕ) (t : Shape) → TypeAt d t → TypeAt (suc d) (shape.Lazy t)
lazy_at d t f = (let deep = f.depth in record {
  fits = rw
      (eq.written_type-Lazy t) f.fits;
  depth = rw (eq.written_type-Lazy t) (omega (arith, deep));
})

producer_at : (d : ℕ) (t : Shape) → TypeAt d t → TypeAt (suc d) (shape.Producer t)
producer_at d t f = (let deep = f.depth in record {
  fits = rw
      (eq.written_type-Producer t) f.fits;
  depth = rw (eq.written_type-Producer t)
      (omega (arith, deep));
})

produced_at : (d : ℕ) (t : Shape) → TypeAt d t → TypeAt (suc d) (shape.Produced t)
produced_at d t f = (let deep = f.depth in record {
  fits = rw
      (eq.written_type-Produced t) f.fits;
  depth = rw (eq.written_type-Produced t)
      (omega (arith, deep));
})

map_at : (d : ℕ) (k v : Shape) → TypeAt d k → TypeAt d v → TypeAt (suc d) (shape.Map k v)
map_at d k v fk fv = (let dk = fk.depth in let dv = fv.depth
    in record {
      fits = rw (eq.written_type-Map k v, fk.fits, fv.fits) refl;
      depth = rw
          (eq.written_type-Map k v) (omega (arith, dk, dv));
    })

constructed_keeps : (d : ℕ) (inner : Reader Shape) (n : Bytes) → Keeps (TypeAt d) inner → Keeps
    (TypeAt (suc d)) (constructed inner n)
unfolding constructed
constructed_keeps d inner n k =
    choose (bytes_eq n (codes "Set")) _ _ (bind _ k (λ t f. given (shape.Set t) (set_at d t f)))
    (choose (bytes_eq n (codes "Map")) _ _ (bind _ k
    (λ a fa. bind _ (behind kind.Sign (codes ",") k)
    (λ b fb. given (shape.Map a b) (map_at d a b fa fb))))
    (choose (bytes_eq n (codes "Optional")) _ _ (bind _ k
    (λ t f. given (shape.Optional t) (optional_at d t f)))
    (choose (bytes_eq n (codes "Provider")) _ _ (bind _ k
    (λ t f. given (shape.Provider t) (provider_at d t f)))
    (choose (bytes_eq n (codes "Lazy")) _ _ (bind _ k (λ t f. given (shape.Lazy t) (lazy_at d t f)))
    (choose (bytes_eq n (codes "Producer")) _ _ (bind _ k
    (λ t f. given (shape.Producer t) (producer_at d t f)))
    (choose (bytes_eq n (codes "Produced")) _ _ (bind _ k
    (λ t f. given (shape.Produced t) (produced_at d t f)))
    (no_reading (TypeAt (suc d)))))))))

type_over_keeps : (d : ℕ) (inner : Reader Shape) → Keeps (TypeAt d) inner → Keeps (TypeAt (suc d))
    (type_over inner)
unfolding type_over
type_over_keeps d inner k =
    bind _ name_keeps (λ n is. bind _ (eaten_keeps kind.Sign (codes "<"))
    (λ parts any. choose parts _ _
    (bind _ (constructed_keeps d inner n k) (λ t f. behind kind.Sign (codes ">") (given t f)))
    (given (shape_named n) (shape_fits d n is))))

type_keeps : (d : ℕ) → Keeps (TypeAt d) (type_within d)
unfolding type_within
type_keeps zero = no_reading (TypeAt zero)
type_keeps (suc d) = type_over_keeps d (type_within d) (type_keeps d)

member_keeps : Keeps forms.FitMember member
unfolding member
member_keeps = by_test (comes kind.Sign (codes "(")) _ _
    (bind (λ t. pure (Some t)) (enclosed_keeps text text_keeps) (λ t plain. given (Some t) plain))
    (given None tt)

some_qualifier_keeps : Keeps FitQualifier some_qualifier
unfolding some_qualifier
some_qualifier_keeps = bind _ at_name_keeps (λ n is. bind _ member_keeps
    (λ m f. given (Some (record { name = n; member = m })) (is, f)))

qualifier_keeps : Keeps FitQualifier qualifier
unfolding qualifier
qualifier_keeps = by_test (comes_kind kind.AtName) some_qualifier (pure None) some_qualifier_keeps
    (given None tt)

pub use_keeps : Keeps FitUse type_use
unfolding type_use type_form
use_keeps = bind _ qualifier_keeps (λ q fq. bind _ (type_keeps type_depth_limit)
    (λ t ft. given (record { qualifier = q; shape = t }) record
    { qualifier = fq; fits = ft.fits; depth = ft.depth }))

pub param_keeps : Keeps FitParam param
unfolding param
param_keeps = bind _ name_keeps (λ n is. behind kind.Sign (codes ":")
    (bind _ use_keeps (λ t f. given (record { name = n; shape = t }) record
    { name = is; shape = f })))

fit_params : (ps : List Param) → UpTo FitParam list_limit ps → FitParams ps
fit_params ps u = record { short = u.short; all = u.all }

pub params_keep : Keeps FitParams params
unfolding params
params_keep = weaker fit_params (members_keep FitParam param param_keeps)

-- ---- what stands in front of a keyword

pub scope_keeps : Keeps FitOption scope
unfolding scope
scope_keeps = by_test (comes_kind kind.AtName) _ _
    (bind (λ s. pure (Some s)) at_name_keeps (λ s is. given (Some s) is)) (given None tt)

pub key_keeps : Keeps FitKey map_key_mark
unfolding map_key_mark
key_keeps =
    bind _ (eaten_keeps kind.AtName (codes "@StringKey")) (λ is_text any. choose is_text _ _
    (bind _ (enclosed_keeps text text_keeps) (λ k plain. given (map_key.Text k) plain))
    (bind _ (behind kind.AtName (codes "@IntKey") (enclosed_keeps integer integer_keeps))
    (λ i within. given (map_key.Int i) within)))

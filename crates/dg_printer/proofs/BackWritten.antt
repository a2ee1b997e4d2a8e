-- The tokens of what is written: each is spelled as its kind says, and those of a type may stand
-- right behind one another.
use Rattle.std.proofs.Common.{suc, ◌≡◌, Bool, true, ◌&&◌, List, [], ◌∷◌, ◌++◌, length, map, refl, sym, subst, append_assoc}
use Rattle.std.specs.Prelude.{not, codes, nat_le, ℤ}
use Rattle.std.specs.List.{list_all}
use Rattle.std.proofs.lemmas.Bool.{and_parts}
use Rattle.dg_types.specs.declared.shape.Shape.{Shape, roll-Shape}
use Rattle.dg_types.specs.declared.shape.Shape.TheVariants as shape
use Rattle.dg_types.specs.declared.shape.Shape.TheOpen.{Shape-F}
use Rattle.dg_types.specs.declared.shape.Shape.TheFolds.{ind-Shape, map-Shape}
use Rattle.dg_lex.specs.Bytes.{Bytes, is_plain, is_among}
use Rattle.dg_lex.specs.Tokens.{is_name, is_at_name, is_integer, is_counting, is_text, is_sign, kind_of}
use Rattle.dg_lex.specs.LexLaws.{is_in_range}
use Rattle.dg_lex.specs.Lexemes.{Lexeme}
use Rattle.dg_lex.proofs.PieceLemmas.{closes, starts_apart, may_touch}
use Rattle.dg_decl.specs.declared.expression.CallName.{CallName}
use Rattle.dg_decl.specs.declared.expression.CallName.TheVariants as call
use Rattle.dg_decl.specs.declared.expression.ParamCall.{ParamCall}
use Rattle.dg_decl.specs.declared.expression.ParamCall.TheVariants as by
use Rattle.dg_decl.specs.declared.expression.Expr.{Expr}
use Rattle.dg_decl.specs.declared.expression.Expr.TheVariants as expr
use Rattle.dg_decl.specs.declared.expression.Cond.{Cond}
use Rattle.dg_decl.specs.declared.expression.Cond.TheVariants as cond
use Rattle.dg_decl.specs.declared.expression.Tree.{Tree}
use Rattle.dg_decl.specs.declared.expression.Tree.TheVariants as tree
use Rattle.dg_decl.specs.declared.expression.Cond.TheOpen.{Cond-F, Expr-F}
use Rattle.dg_decl.specs.declared.expression.Cond.TheViews.{roll-Cond, roll-Expr}
use Rattle.dg_decl.specs.declared.expression.Cond.TheFolds.{ind-Cond, ind-Expr, map-Cond, map-Expr}
use Rattle.dg_decl.specs.declared.expression.Tree.TheOpen.{Tree-F}
use Rattle.dg_decl.specs.declared.expression.Tree.TheViews.{roll-Tree}
use Rattle.dg_decl.specs.declared.expression.Tree.TheFolds.{ind-Tree, map-Tree}
use Rattle.dg_decl.specs.Readers.{list_limit}
use Rattle.dg_decl.specs.ExpressionForms.{call_name, param_call_name}
use Rattle.dg_decl.specs.Canonical.{close}
use Rattle.dg_decl.specs.Written.{name_token, word_token, sign_token, more_separated, separated, in_parens, constructor_of, WrittenType, type_written, written_type, Level, Prim, Chain, Whole, Written, tight_at, loose_at, tight, loose, list_tokens, list_fits, count_fits, if_tokens, WrittenCondition, written, written_condition, written_tree}
use Rattle.dg_decl.proofs.SpaceLemmas.{IsCloseFrom}
use Rattle.dg_decl.proofs.WrittenEquations as eq
use Rattle.dg_printer.proofs.BackKinds.{AllKinds, kinds_append, or_true, name_kind, text_kind, integer_kind}

-- each member of a list is so
abbrev pub AllOf : {A : Type 0} → (A → Type 0) → List A → Type 0
AllOf P [] = Unit {0}
AllOf P (x ∷ xs) = P x × AllOf P xs

abbrev comma : Lexeme
comma = sign_token (codes ",")

-- ---- tokens of which each stands right behind the one before it

abbrev pub Sticks : Lexeme → List Lexeme → Type 0
Sticks before ls = IsCloseFrom before (map close ls)

-- behind a sign, and before what may stand behind any token
abbrev pub DoStick : List Lexeme → Type 0
DoStick ts = (before : Lexeme) → closes before.kind before.spelling ≡ true → (after : List Lexeme)
    → ((t : Lexeme) → Sticks t after) → Sticks before (ts ++ after)

closed_touch : (before : Lexeme) (z : Bytes) → closes before.kind before.spelling ≡ true
    → may_touch before z ≡ true
closed_touch before z c = rw c refl

pub apart_touch : (before : Lexeme) (z : Bytes) → starts_apart z ≡ true → may_touch before z ≡ true
apart_touch before z a = rw (a, or_true (closes before.kind before.spelling)) refl

constructor_sticks : (n : Bytes) (parts : List Lexeme) → DoStick parts → DoStick
    (constructor_of n parts)
constructor_sticks n parts inner before c after more =
    let last : List Lexeme = sign_token (codes ">") ∷ after in (
      closed_touch before n c,
      (
        refl,
        rw (append_assoc parts (sign_token (codes ">") ∷ []) after)
            (inner (sign_token (codes "<")) refl last (λ t.
            (apart_touch t (codes ">") refl, more (sign_token (codes ">"))))),
      ),
    )

pair_sticks : (ks vs : List Lexeme) → DoStick ks → DoStick vs → DoStick (ks ++ (comma ∷ vs))
pair_sticks ks vs sk sv before c after more =
    rw (append_assoc ks (comma ∷ vs) after)
    (sk before c (comma ∷ (vs ++ after)) (λ t. (
      apart_touch t
          (codes ",") refl,
      sv comma refl after more,
    )))

-- ---- types

pub record TypeFacts (w : WrittenType) : Type 0 where
  pub name : Bytes
  pub more : List Lexeme
  pub first : w.tokens ≡ name_token name ∷ more
  pub sticks : DoStick w.tokens
  pub kinds : w.fits ≡ true → AllKinds w.tokens

simple_facts : (n : Bytes) (fits : Bool) → (fits ≡ true → is_name n ≡ true) → TypeFacts
    (record { tokens = name_token n ∷ []; depth = 1; fits = fits })
simple_facts n fits is = record {
  name = n;
  more = [];
  first = refl;
  sticks = λ before c after more. (closed_touch before n c, more (name_token n));
  kinds = λ f. (name_kind n (is f), tt);
}

constructor_kinds : (n : Bytes) (parts : List Lexeme) → is_name n ≡ true → AllKinds parts → AllKinds
    (constructor_of n parts)
unfolding kind_of is_name is_at_name is_integer is_counting is_text is_sign
constructor_kinds n parts is k = (
  name_kind n is,
  (refl, kinds_append parts (sign_token (codes ">") ∷ []) k (refl, tt)),
)

one_facts : (n : Bytes) (w : WrittenType) → is_name n ≡ true → TypeFacts w → TypeFacts
    (record { tokens = constructor_of n w.tokens; depth = suc w.depth; fits = w.fits })
one_facts n w is t = record {
  name = n;
  more = sign_token (codes "<") ∷ (w.tokens ++ (sign_token (codes ">") ∷ []));
  first = refl;
  sticks = constructor_sticks n w.tokens t.sticks;
  kinds = λ f. constructor_kinds n w.tokens is (t.kinds f);
}

comma_kinds : (ks vs : List Lexeme) → AllKinds ks → AllKinds vs → AllKinds (ks ++ (comma ∷ vs))
unfolding kind_of is_name is_at_name is_integer is_counting is_text is_sign
comma_kinds ks vs k v = kinds_append ks (comma ∷ vs) k (refl, v)

map_facts : (k v : WrittenType) → TypeFacts k → TypeFacts v → TypeFacts
    (type_written (Shape-F.Map k v))
unfolding is_name
map_facts k v tk tv = record {
  name = codes "Map";
  more = sign_token (codes "<") ∷ ((k.tokens ++ (comma ∷ v.tokens))
      ++ (sign_token (codes ">") ∷ []));
  first = refl;
  sticks = constructor_sticks (codes "Map") (k.tokens ++ (comma ∷ v.tokens))
      (pair_sticks k.tokens v.tokens tk.sticks tv.sticks);
  kinds = λ f. (let both = and_parts k.fits v.fits f in constructor_kinds (codes "Map")
      (k.tokens ++ (comma ∷ v.tokens)) refl (comma_kinds k.tokens v.tokens (tk.kinds both.0)
      (tv.kinds both.1)));
}

abbrev HasFacts : Shape → Type 0
HasFacts s = TypeFacts (written_type s)

facts_Text : HasFacts shape.Text
unfolding is_name
facts_Text = rw eq.written_type-Text (simple_facts (codes "Text") true (λ f. refl))

facts_Int : HasFacts shape.Int
unfolding is_name
facts_Int = rw eq.written_type-Int (simple_facts (codes "Int") true (λ f. refl))

facts_Named : (n : Bytes) → HasFacts (shape.Named n)
facts_Named n = rw (eq.written_type-Named n) (simple_facts n
    (is_name n && not (is_among n (codes "Text" ∷ codes "Int" ∷ [])))
    (λ f. (and_parts (is_name n) _ f).0))

facts_Set : (s : Shape) → HasFacts s → HasFacts (shape.Set s)
unfolding is_name
facts_Set s t = rw (eq.written_type-Set s) (one_facts (codes "Set") (written_type s) refl t)

facts_Map : (k v : Shape) → HasFacts k → HasFacts v → HasFacts (shape.Map k v)
facts_Map k v tk tv = rw (eq.written_type-Map k v)
    (map_facts (written_type k) (written_type v) tk tv)

facts_Optional : (s : Shape) → HasFacts s → HasFacts (shape.Optional s)
unfolding is_name
facts_Optional s t = rw (eq.written_type-Optional s)
    (one_facts (codes "Optional") (written_type s) refl t)

facts_Provider : (s : Shape) → HasFacts s → HasFacts (shape.Provider s)
unfolding is_name
facts_Provider s t = rw (eq.written_type-Provider s)
    (one_facts (codes "Provider") (written_type s) refl t)

facts_Lazy : (s : Shape) → HasFacts s → HasFacts (shape.Lazy s)
unfolding is_name
facts_Lazy s t = rw (eq.written_type-Lazy s) (one_facts (codes "Lazy") (written_type s) refl t)

facts_Producer : (s : Shape) → HasFacts s → HasFacts (shape.Producer s)
unfolding is_name
facts_Producer s t = rw (eq.written_type-Producer s)
    (one_facts (codes "Producer") (written_type s) refl t)

facts_Produced : (s : Shape) → HasFacts s → HasFacts (shape.Produced s)
unfolding is_name
facts_Produced s t = rw (eq.written_type-Produced s)
    (one_facts (codes "Produced") (written_type s) refl t)

abbrev ShapePart : Type 0
ShapePart = (s : Shape) × HasFacts s

shape_at : (y : Shape-F ShapePart) → HasFacts (roll-Shape (map-Shape ShapePart Shape (λ e. e.0) y))
shape_at Shape-F.Text = subst HasFacts (sym shape.rolls-Text) facts_Text
shape_at Shape-F.Int = subst HasFacts (sym shape.rolls-Int) facts_Int
shape_at (Shape-F.Named n) = subst HasFacts (sym (shape.rolls-Named n)) (facts_Named n)
shape_at (Shape-F.Set t) = subst HasFacts (sym (shape.rolls-Set t.0)) (facts_Set t.0 t.1)
shape_at (Shape-F.Map k v) = subst HasFacts (sym (shape.rolls-Map k.0 v.0))
    (facts_Map k.0 v.0 k.1 v.1)
shape_at (Shape-F.Optional t) = subst HasFacts (sym (shape.rolls-Optional t.0))
    (facts_Optional t.0 t.1)
shape_at (Shape-F.Provider t) = subst HasFacts (sym (shape.rolls-Provider t.0))
    (facts_Provider t.0 t.1)
shape_at (Shape-F.Lazy t) = subst HasFacts (sym (shape.rolls-Lazy t.0)) (facts_Lazy t.0 t.1)
shape_at (Shape-F.Producer t) = subst HasFacts (sym (shape.rolls-Producer t.0))
    (facts_Producer t.0 t.1)
shape_at (Shape-F.Produced t) = subst HasFacts (sym (shape.rolls-Produced t.0))
    (facts_Produced t.0 t.1)

pub type_facts : (s : Shape) → TypeFacts (written_type s)
type_facts = ind-Shape HasFacts (λ x y is. subst (λ (z : Shape-F Shape). HasFacts (roll-Shape z)) is
    (shape_at y))

-- ---- lists

pub more_kinds : (lls : List (List Lexeme)) → AllOf AllKinds lls → AllKinds
    (more_separated comma lls)
unfolding kind_of is_name is_at_name is_integer is_counting is_text is_sign
more_kinds [] all = tt
more_kinds (ls ∷ lls) all = (
  refl,
  kinds_append ls (more_separated comma lls) all.0
      (more_kinds lls all.1),
)

pub separated_kinds : (lls : List (List Lexeme)) → AllOf AllKinds lls → AllKinds
    (separated comma lls)
separated_kinds [] all = tt
separated_kinds (ls ∷ lls) all = kinds_append ls (more_separated comma lls) all.0
    (more_kinds lls all.1)

pub parens_kinds : (ls : List Lexeme) → AllKinds ls → AllKinds (in_parens ls)
unfolding kind_of is_name is_at_name is_integer is_counting is_text is_sign
parens_kinds ls k = (refl, kinds_append ls (sign_token (codes ")") ∷ []) k (refl, tt))

-- ---- expressions and conditions

abbrev HasKinds : Expr → Type 0
HasKinds e = (written e).fits ≡ true → AllKinds (written e).tokens

abbrev HasConditionKinds : Cond → Type 0
HasConditionKinds c = (written_condition c).fits ≡ true → AllKinds (written_condition c).tokens

tight_level : (l : Level) (s : Written) → AllKinds s.tokens → AllKinds (tight_at l s).tokens
tight_level Prim s k = k
tight_level Chain s k = parens_kinds s.tokens k
tight_level Whole s k = parens_kinds s.tokens k

loose_level : (l : Level) (s : Written) → AllKinds s.tokens → AllKinds (loose_at l s).tokens
loose_level Prim s k = k
loose_level Chain s k = k
loose_level Whole s k = parens_kinds s.tokens k

tight_kinds : (s : Written) → AllKinds s.tokens → AllKinds (tight s).tokens
tight_kinds s k = tight_level s.level s k

loose_kinds : (s : Written) → AllKinds s.tokens → AllKinds (loose s).tokens
loose_kinds s k = loose_level s.level s k

members_kinds : (es : List Expr) → AllOf HasKinds es → list_all (λ x. x.fits) (map written es)
    ≡ true → AllOf AllKinds (map (λ x. x.tokens) (map written es))
members_kinds [] all fits = tt
members_kinds (e ∷ es) all fits =
    let both = and_parts (written e).fits (list_all (λ x. x.fits) (map written es)) fits in
    (all.0 both.0, members_kinds es all.1 both.1)

list_kinds : (es : List Expr) → AllOf HasKinds es → list_fits (map written es) ≡ true → AllKinds
    (list_tokens (map written es))
list_kinds es all fits =
    let members = (and_parts (nat_le (length (map written es)) list_limit)
    (list_all (λ x. x.fits) (map written es)) fits).1 in
    parens_kinds (separated comma (map (λ x. x.tokens) (map written es)))
    (separated_kinds (map (λ x. x.tokens) (map written es)) (members_kinds es all members))

kinds_Text : (t : Bytes) → HasKinds (expr.Text t)
kinds_Text t fits = rw (eq.written-Text t) (let f : list_all is_plain t ≡ true = rw
    (eq.written-Text t) at fits in (text_kind t f, tt))

kinds_Int : (n : ℤ) → HasKinds (expr.Int n)
kinds_Int n fits = rw (eq.written-Int n) (let f : is_in_range n ≡ true = rw
    (eq.written-Int n) at fits in (integer_kind n f, tt))

kinds_Param : (p : Bytes) → HasKinds (expr.Param p)
kinds_Param p fits = rw (eq.written-Param p) (let f : is_name p ≡ true = rw
    (eq.written-Param p) at fits in (name_kind p f, tt))

new_kinds : (c : Bytes) (ls : List Lexeme) → is_name c ≡ true → AllKinds ls → AllKinds
    (word_token (codes "new") ∷ (name_token c ∷ ls))
unfolding kind_of is_name is_at_name is_integer is_counting is_text is_sign
new_kinds c ls is k = (refl, (name_kind c is, k))

kinds_New : (c : Bytes) (es : List Expr) → AllOf HasKinds es → HasKinds (expr.New c es)
kinds_New c es all fits =
    let f = and_parts (is_name c) (list_fits (map written es)) (rw (eq.written-New c es) at fits) in
    rw (eq.written-New c es) (new_kinds c (list_tokens (map written es)) f.0
    (list_kinds es all f.1))

dot_kinds : (f : Bytes) → is_name f ≡ true → AllKinds (sign_token (codes ".") ∷ (name_token f ∷ []))
unfolding kind_of is_name is_at_name is_integer is_counting is_text is_sign
dot_kinds f is = (refl, (name_kind f is, tt))

kinds_Field : (e : Expr) (f : Bytes) → HasKinds e → HasKinds (expr.Field e f)
kinds_Field e f k fits =
    let both = and_parts (written e).fits (is_name f) (rw (eq.written-Field e f) at fits) in
    rw (eq.written-Field e f) (kinds_append (tight (written e)).tokens
    (sign_token (codes ".") ∷ (name_token f ∷ [])) (tight_kinds (written e) (k both.0))
    (dot_kinds f both.1))

plus_kinds : (xs ys : List Lexeme) → AllKinds xs → AllKinds ys → AllKinds
    (xs ++ (sign_token (codes "+") ∷ ys))
unfolding kind_of is_name is_at_name is_integer is_counting is_text is_sign
plus_kinds xs ys x y = kinds_append xs (sign_token (codes "+") ∷ ys) x (refl, y)

equal_kinds : (xs ys : List Lexeme) → AllKinds xs → AllKinds ys → AllKinds
    (xs ++ (sign_token (codes "==") ∷ ys))
unfolding kind_of is_name is_at_name is_integer is_counting is_text is_sign
equal_kinds xs ys x y = kinds_append xs (sign_token (codes "==") ∷ ys) x (refl, y)

less_kinds : (xs ys : List Lexeme) → AllKinds xs → AllKinds ys → AllKinds
    (xs ++ (sign_token (codes "<") ∷ ys))
unfolding kind_of is_name is_at_name is_integer is_counting is_text is_sign
less_kinds xs ys x y = kinds_append xs (sign_token (codes "<") ∷ ys) x (refl, y)

kinds_Sum : (a b : Expr) → HasKinds a → HasKinds b → HasKinds (expr.Sum a b)
kinds_Sum a b ka kb fits =
    let both = and_parts (written a).fits (written b).fits (rw (eq.written-Sum a b) at fits) in
    rw (eq.written-Sum a b) (plus_kinds (loose (written a)).tokens (tight (written b)).tokens
    (loose_kinds (written a) (ka both.0)) (tight_kinds (written b) (kb both.1)))

choice_kinds : (w : WrittenCondition) (xs ys : List Lexeme) → AllKinds w.tokens → AllKinds xs
    → AllKinds ys → AllKinds (if_tokens w xs ys)
unfolding kind_of is_name is_at_name is_integer is_counting is_text is_sign
choice_kinds w xs ys c x y = (
  refl,
  kinds_append w.tokens
      (word_token (codes "then") ∷ (xs ++ (word_token (codes "else") ∷ ys))) c
      (refl, kinds_append xs (word_token (codes "else") ∷ ys) x (refl, y)),
)

kinds_If : (c : Cond) (a b : Expr) → HasConditionKinds c → HasKinds a → HasKinds b → HasKinds
    (expr.If c a b)
kinds_If c a b kc ka kb fits =
    let outer = and_parts ((written_condition c).fits && (written a).fits) (written b).fits
    (rw (eq.written-If c a b) at fits) in
    let parts = and_parts (written_condition c).fits (written a).fits outer.0 in
    rw (eq.written-If c a b) (choice_kinds (written_condition c) (written a).tokens
    (written b).tokens (kc parts.0) (ka parts.1) (kb outer.1))

call_kind : (f : CallName) → is_name (call_name f) ≡ true
unfolding is_name
call_kind call.Cat = refl
call_kind call.TextOf = refl
call_kind call.Size = refl
call_kind call.SetOf = refl
call_kind call.Fail = refl

kinds_Call : (f : CallName) (es : List Expr) → AllOf HasKinds es → HasKinds (expr.Call f es)
kinds_Call f es all fits =
    let both = and_parts (list_fits (map written es)) (count_fits f (length (map written es)))
    (rw (eq.written-Call f es) at fits) in
    rw (eq.written-Call f es) (name_kind (call_name f) (call_kind f), list_kinds es all both.0)

param_call_kind : (f : ParamCall) → is_name (param_call_name f) ≡ true
unfolding is_name
param_call_kind by.Get = refl
param_call_kind by.Value = refl
param_call_kind by.Values = refl
param_call_kind by.Failure = refl

by_name_kinds : (f p : Bytes) → is_name f ≡ true → is_name p ≡ true → AllKinds
    (name_token f ∷ in_parens (name_token p ∷ []))
by_name_kinds f p is named = (
  name_kind f is,
  parens_kinds (name_token p ∷ [])
      (name_kind p named, tt),
)

kinds_ByName : (f : ParamCall) (p : Bytes) → HasKinds (expr.ByName f p)
kinds_ByName f p fits =
    let is : is_name p ≡ true = rw (eq.written-ByName f p) at fits in
    rw (eq.written-ByName f p) (by_name_kinds (param_call_name f) p (param_call_kind f) is)

or_else_kinds : (p : Bytes) (ls : List Lexeme) → is_name p ≡ true → AllKinds ls → AllKinds
    (name_token (codes "orElse") ∷ in_parens (name_token p ∷ (comma ∷ ls)))
unfolding kind_of is_name is_at_name is_integer is_counting is_text is_sign
or_else_kinds p ls is k = (
  refl,
  parens_kinds (name_token p ∷ (comma ∷ ls))
      (name_kind p is, (refl, k)),
)

kinds_OrElse : (p : Bytes) (e : Expr) → HasKinds e → HasKinds (expr.OrElse p e)
kinds_OrElse p e k fits =
    let both = and_parts (is_name p) (written e).fits (rw (eq.written-OrElse p e) at fits) in
    rw (eq.written-OrElse p e) (or_else_kinds p (written e).tokens both.0 (k both.1))

kinds_Equal : (a b : Expr) → HasKinds a → HasKinds b → HasConditionKinds (cond.Equal a b)
kinds_Equal a b ka kb fits =
    let both = and_parts (written a).fits (written b).fits (rw (eq.written-Equal a b) at fits) in
    rw (eq.written-Equal a b) (equal_kinds (loose (written a)).tokens (loose (written b)).tokens
    (loose_kinds (written a) (ka both.0)) (loose_kinds (written b) (kb both.1)))

kinds_Less : (a b : Expr) → HasKinds a → HasKinds b → HasConditionKinds (cond.Less a b)
kinds_Less a b ka kb fits =
    let both = and_parts (written a).fits (written b).fits (rw (eq.written-Less a b) at fits) in
    rw (eq.written-Less a b) (less_kinds (loose (written a)).tokens (loose (written b)).tokens
    (loose_kinds (written a) (ka both.0)) (loose_kinds (written b) (kb both.1)))

kinds_Has : (p : Bytes) → HasConditionKinds (cond.Has p)
unfolding is_name
kinds_Has p fits = (let is : is_name p ≡ true = rw (eq.written-Has p) at fits in rw
    (eq.written-Has p) (by_name_kinds (codes "has") p refl is))

kinds_IsOk : (p : Bytes) → HasConditionKinds (cond.IsOk p)
unfolding is_name
kinds_IsOk p fits = (let is : is_name p ≡ true = rw (eq.written-IsOk p) at fits in rw
    (eq.written-IsOk p) (by_name_kinds (codes "ok") p refl is))

abbrev CondPart : Type 0
CondPart = (c : Cond) × HasConditionKinds c

abbrev ExprPart : Type 0
ExprPart = (e : Expr) × HasKinds e

parts_kinds : (xs : List ExprPart) → AllOf HasKinds (map (λ e. e.0) xs)
parts_kinds [] = tt
parts_kinds (x ∷ xs) = (x.1, parts_kinds xs)

expression_at : (y : Expr-F CondPart ExprPart) → HasKinds
    (roll-Expr (map-Expr CondPart ExprPart Cond Expr (λ c. c.0) (λ e. e.0) y))
expression_at (Expr-F.Text t) = subst HasKinds (sym (expr.rolls-Text t)) (kinds_Text t)
expression_at (Expr-F.Int n) = subst HasKinds (sym (expr.rolls-Int n)) (kinds_Int n)
expression_at (Expr-F.Param p) = subst HasKinds (sym (expr.rolls-Param p)) (kinds_Param p)
expression_at (Expr-F.New c xs) = subst HasKinds (sym (expr.rolls-New c (map (λ e. e.0) xs)))
    (kinds_New c (map (λ e. e.0) xs) (parts_kinds xs))
expression_at (Expr-F.Field e f) = subst HasKinds (sym (expr.rolls-Field e.0 f))
    (kinds_Field e.0 f e.1)
expression_at (Expr-F.Sum a b) = subst HasKinds (sym (expr.rolls-Sum a.0 b.0))
    (kinds_Sum a.0 b.0 a.1 b.1)
expression_at (Expr-F.If c a b) = subst HasKinds (sym (expr.rolls-If c.0 a.0 b.0))
    (kinds_If c.0 a.0 b.0 c.1 a.1 b.1)
expression_at (Expr-F.Call f xs) = subst HasKinds (sym (expr.rolls-Call f (map (λ e. e.0) xs)))
    (kinds_Call f (map (λ e. e.0) xs) (parts_kinds xs))
expression_at (Expr-F.ByName f p) = subst HasKinds (sym (expr.rolls-ByName f p)) (kinds_ByName f p)
expression_at (Expr-F.OrElse p e) = subst HasKinds (sym (expr.rolls-OrElse p e.0))
    (kinds_OrElse p e.0 e.1)

condition_at : (y : Cond-F CondPart ExprPart) → HasConditionKinds
    (roll-Cond (map-Cond CondPart ExprPart Cond Expr (λ c. c.0) (λ e. e.0) y))
condition_at (Cond-F.Equal a b) = subst HasConditionKinds (sym (cond.rolls-Equal a.0 b.0))
    (kinds_Equal a.0 b.0 a.1 b.1)
condition_at (Cond-F.Less a b) = subst HasConditionKinds (sym (cond.rolls-Less a.0 b.0))
    (kinds_Less a.0 b.0 a.1 b.1)
condition_at (Cond-F.Has p) = subst HasConditionKinds (sym (cond.rolls-Has p)) (kinds_Has p)
condition_at (Cond-F.IsOk p) = subst HasConditionKinds (sym (cond.rolls-IsOk p)) (kinds_IsOk p)

pub expression_kinds : (e : Expr) → (written e).fits ≡ true → AllKinds (written e).tokens
expression_kinds = ind-Expr HasConditionKinds HasKinds
    (λ x y is. subst (λ (z : Cond-F Cond Expr). HasConditionKinds (roll-Cond z)) is
    (condition_at y))
    (λ x y is. subst (λ (z : Expr-F Cond Expr). HasKinds (roll-Expr z)) is (expression_at y))

condition_kinds : (c : Cond) → (written_condition c).fits ≡ true → AllKinds
    (written_condition c).tokens
condition_kinds = ind-Cond HasConditionKinds HasKinds
    (λ x y is. subst (λ (z : Cond-F Cond Expr). HasConditionKinds (roll-Cond z)) is
    (condition_at y))
    (λ x y is. subst (λ (z : Expr-F Cond Expr). HasKinds (roll-Expr z)) is (expression_at y))

-- ---- trees

abbrev HasTreeKinds : Tree → Type 0
HasTreeKinds t = (written_tree t).fits ≡ true → AllKinds (written_tree t).tokens

kinds_Leaf : (e : Expr) → HasTreeKinds (tree.Leaf e)
kinds_Leaf e fits = rw (eq.written_tree-Leaf e)
    (loose_kinds (written e) (expression_kinds e (rw (eq.written_tree-Leaf e) at fits)))

await_kinds : (p : Bytes) → is_name p ≡ true → AllKinds
    (word_token (codes "await") ∷ (name_token p ∷ []))
unfolding kind_of is_name is_at_name is_integer is_counting is_text is_sign
await_kinds p is = (refl, (name_kind p is, tt))

kinds_Await : (p : Bytes) → HasTreeKinds (tree.Await p)
kinds_Await p fits = (let is : is_name p ≡ true = rw (eq.written_tree-Await p) at fits in rw
    (eq.written_tree-Await p) (await_kinds p is))

kinds_Choice : (c : Cond) (a b : Tree) → HasTreeKinds a → HasTreeKinds b → HasTreeKinds
    (tree.If c a b)
kinds_Choice c a b ka kb fits =
    let outer = and_parts ((written_condition c).fits && (written_tree a).fits)
    (written_tree b).fits (rw (eq.written_tree-If c a b) at fits) in
    let parts = and_parts (written_condition c).fits (written_tree a).fits outer.0 in
    rw (eq.written_tree-If c a b) (choice_kinds (written_condition c) (written_tree a).tokens
    (written_tree b).tokens (condition_kinds c parts.0) (ka parts.1) (kb outer.1))

abbrev TreePart : Type 0
TreePart = (t : Tree) × HasTreeKinds t

tree_at : (y : Tree-F TreePart) → HasTreeKinds (roll-Tree (map-Tree TreePart Tree (λ t. t.0) y))
tree_at (Tree-F.Leaf e) = subst HasTreeKinds (sym (tree.rolls-Leaf e)) (kinds_Leaf e)
tree_at (Tree-F.Await p) = subst HasTreeKinds (sym (tree.rolls-Await p)) (kinds_Await p)
tree_at (Tree-F.If c a b) = subst HasTreeKinds (sym (tree.rolls-If c a.0 b.0))
    (kinds_Choice c a.0 b.0 a.1 b.1)

pub tree_kinds : (t : Tree) → (written_tree t).fits ≡ true → AllKinds (written_tree t).tokens
tree_kinds = ind-Tree HasTreeKinds (λ x y is. subst
    (λ (z : Tree-F Tree). HasTreeKinds (roll-Tree z)) is (tree_at y))

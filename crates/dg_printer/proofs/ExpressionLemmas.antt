-- What is appended for an expression, a condition or a tree, from what is appended for its parts.
use Rattle.std.proofs.Common.{◌≡◌, true, false, List, [], ◌∷◌, ◌++◌, map, refl, ap, sym, ◌∙◌}
use Rattle.std.specs.Prelude.{codes, ℤ}
use Rattle.std.proofs.lemmas.Bool.{false≢true}
use Rattle.dg_lex.specs.Bytes.{Bytes}
use Rattle.dg_lex.specs.Lexemes.{Lexeme}
use Rattle.dg_decl.specs.declared.expression.CallName.{CallName}
use Rattle.dg_decl.specs.declared.expression.ParamCall.{ParamCall}
use Rattle.dg_decl.specs.declared.expression.Expr.{Expr}
use Rattle.dg_decl.specs.declared.expression.Expr.TheVariants as expr
use Rattle.dg_decl.specs.declared.expression.Cond.{Cond}
use Rattle.dg_decl.specs.declared.expression.Cond.TheVariants as cond
use Rattle.dg_decl.specs.declared.expression.Tree.{Tree}
use Rattle.dg_decl.specs.declared.expression.Tree.TheVariants as tree
use Rattle.dg_decl.specs.ExpressionForms.{call_name, param_call_name}
use Rattle.dg_decl.specs.Written.{separated, more_separated, sign_token, name_token, word_token, text_token, integer_token, in_parens, list_tokens, Level, Prim, Chain, Whole, Written, tight_at, loose_at, tight, loose, written, written_condition, written_tree}
use Rattle.dg_decl.proofs.WrittenEquations as equation
use Rattle.dg_printer.specs.Output.{Output, with_token, spelled, with_others, with_list, with_expression, with_condition, with_tree, with_by_name, is_tight, is_loose}
use Rattle.dg_printer.proofs.Appending.{spelled-append}

-- ---- parentheses

abbrev pub with_tight : Output → Expr → Output
with_tight l e = spelled l (tight (written e)).tokens

abbrev pub with_loose : Output → Expr → Output
with_loose l e = spelled l (loose (written e)).tokens

parens_line : (l : Output) (ts : List Lexeme) → spelled l (in_parens ts)
    ≡ with_token (spelled (with_token l false (codes "(")) ts) false (codes ")")
parens_line l ts = spelled-append (with_token l false (codes "(")) ts (sign_token (codes ")") ∷ [])

tight_alone : (v : Level) (s : Written) → is_tight v ≡ true → tight_at v s ≡ s
tight_alone Prim s is = refl
tight_alone Chain s is = absurd (false≢true is)
tight_alone Whole s is = absurd (false≢true is)

tight_enclosed : (l : Output) (v : Level) (s : Written) → is_tight v ≡ false
    → spelled l (tight_at v s).tokens ≡ with_token (spelled
    (with_token l false (codes "(")) s.tokens) false (codes ")")
tight_enclosed l Prim s is = absurd (false≢true (sym is))
tight_enclosed l Chain s is = parens_line l s.tokens
tight_enclosed l Whole s is = parens_line l s.tokens

loose_alone : (v : Level) (s : Written) → is_loose v ≡ true → loose_at v s ≡ s
loose_alone Prim s is = refl
loose_alone Chain s is = refl
loose_alone Whole s is = absurd (false≢true is)

loose_enclosed : (l : Output) (v : Level) (s : Written) → is_loose v ≡ false
    → spelled l (loose_at v s).tokens ≡ with_token (spelled
    (with_token l false (codes "(")) s.tokens) false (codes ")")
loose_enclosed l Prim s is = absurd (false≢true (sym is))
loose_enclosed l Chain s is = absurd (false≢true (sym is))
loose_enclosed l Whole s is = parens_line l s.tokens

pub tight-alone : (l : Output) (e : Expr) → is_tight (written e).level ≡ true → with_tight l e
    ≡ with_expression l e
tight-alone l e is = ap (λ (s : Written). spelled l s.tokens)
    (tight_alone (written e).level (written e) is)

pub tight-enclosed : (l : Output) (e : Expr) → is_tight (written e).level ≡ false
    → with_tight l e ≡ with_token (with_expression (with_token l false (codes "(")) e) false
    (codes ")")
tight-enclosed l e is = tight_enclosed l (written e).level (written e) is

pub loose-alone : (l : Output) (e : Expr) → is_loose (written e).level ≡ true → with_loose l e
    ≡ with_expression l e
loose-alone l e is = ap (λ (s : Written). spelled l s.tokens)
    (loose_alone (written e).level (written e) is)

pub loose-enclosed : (l : Output) (e : Expr) → is_loose (written e).level ≡ false
    → with_loose l e ≡ with_token (with_expression (with_token l false (codes "(")) e) false
    (codes ")")
loose-enclosed l e is = loose_enclosed l (written e).level (written e) is

pub ruleset tight_lines = (tight-alone, tight-enclosed)

pub ruleset loose_lines = (loose-alone, loose-enclosed)

-- ---- arguments

more_arguments : (l : Output) (xs : List Expr)
    → spelled l (more_separated (sign_token (codes ",")) (map (λ x. x.tokens) (map written xs)))
    ≡ with_others with_expression l xs
more_arguments l [] = refl
more_arguments l (x ∷ xs) =
    spelled-append (with_token l false (codes ",")) (written x).tokens
    (more_separated (sign_token (codes ",")) (map (λ x. x.tokens) (map written xs)))
    ∙ more_arguments (with_expression (with_token l false (codes ",")) x) xs

argument_list : (l : Output) (xs : List Expr)
    → spelled l (separated (sign_token (codes ",")) (map (λ x. x.tokens) (map written xs)))
    ≡ with_list with_expression l xs
argument_list l [] = refl
argument_list l (x ∷ xs) =
    spelled-append l (written x).tokens (more_separated (sign_token (codes ","))
    (map (λ x. x.tokens) (map written xs)))
    ∙ more_arguments (with_expression l x) xs

abbrev pub with_arguments : Output → List Expr → Output
with_arguments l xs = spelled l (list_tokens (map written xs))

pub arguments_line : (l : Output) (xs : List Expr)
    → with_arguments l xs ≡ with_token (with_list with_expression
    (with_token l false (codes "(")) xs) false (codes ")")
arguments_line l xs =
    parens_line l (separated (sign_token (codes ",")) (map (λ x. x.tokens) (map written xs)))
    ∙ ap (λ (o : Output). with_token o false (codes ")"))
    (argument_list (with_token l false (codes "(")) xs)

-- ---- expressions

pub line-Text : (l : Output) (t : Bytes) → with_expression l (expr.Text t)
    ≡ with_token l false (text_token t).spelling
line-Text l t = rw equation.written-Text refl

pub line-Int : (l : Output) (n : ℤ) → with_expression l (expr.Int n)
    ≡ with_token l false (integer_token n).spelling
line-Int l n = rw equation.written-Int refl

pub line-Param : (l : Output) (p : Bytes) → with_expression l (expr.Param p) ≡ with_token l false p
line-Param l p = rw equation.written-Param refl

pub line-New : (l : Output) (c : Bytes) (xs : List Expr) → with_expression l (expr.New c xs)
    ≡ with_arguments (with_token (with_token l false (codes "new")) false c) xs
line-New l c xs = rw equation.written-New refl

pub line-Field : (l : Output) (e : Expr) (f : Bytes) → with_expression l (expr.Field e f)
    ≡ with_token (with_token (with_tight l e) false (codes ".")) false f
line-Field l e f = rw equation.written-Field (spelled-append l (tight (written e)).tokens
    (sign_token (codes ".") ∷ (name_token f ∷ [])))

pub line-Sum : (l : Output) (a b : Expr) → with_expression l (expr.Sum a b)
    ≡ with_tight (with_token (with_loose l a) false (codes "+")) b
line-Sum l a b = rw equation.written-Sum (spelled-append l (loose (written a)).tokens
    (sign_token (codes "+") ∷ (tight (written b)).tokens))

abbrev pub with_choice : Output → Cond → List Lexeme → List Lexeme → Output
with_choice l c a b =
    spelled (with_token (spelled (with_token (with_condition (with_token l false (codes "if")) c)
    false (codes "then")) a) false (codes "else")) b

choice_line : (l : Output) (c : List Lexeme) (a : List Lexeme) (b : List Lexeme)
    → spelled l (c ++ (word_token (codes "then") ∷ (a ++ (word_token (codes "else") ∷ b))))
    ≡ spelled (with_token (spelled (with_token (spelled l c) false (codes "then")) a) false
    (codes "else")) b
choice_line l c a b =
    spelled-append l c (word_token (codes "then") ∷ (a ++ (word_token (codes "else") ∷ b)))
    ∙ spelled-append (with_token (spelled l c) false (codes "then")) a
    (word_token (codes "else") ∷ b)

pub line-If : (l : Output) (c : Cond) (a b : Expr) → with_expression l (expr.If c a b)
    ≡ with_choice l c (written a).tokens (written b).tokens
line-If l c a b = rw equation.written-If (choice_line (with_token l false (codes "if"))
    (written_condition c).tokens (written a).tokens (written b).tokens)

pub line-Call : (l : Output) (f : CallName) (xs : List Expr) → with_expression l (expr.Call f xs)
    ≡ with_arguments (with_token l false (call_name f)) xs
line-Call l f xs = rw equation.written-Call refl

pub line-ByName : (l : Output) (f : ParamCall) (p : Bytes) → with_expression l (expr.ByName f p)
    ≡ with_by_name l (param_call_name f) p
line-ByName l f p = rw equation.written-ByName refl

pub line-OrElse : (l : Output) (p : Bytes) (e : Expr) → with_expression l (expr.OrElse p e)
    ≡ with_token (with_expression (with_token (with_token
    (with_token (with_token l false (codes "orElse")) false (codes "(")) false p) false
    (codes ",")) e) false (codes ")")
line-OrElse l p e =
    rw equation.written-OrElse (spelled-append (with_token
    (with_token (with_token (with_token l false (codes "orElse")) false (codes "(")) false p)
    false (codes ","))
    (written e).tokens (sign_token (codes ")") ∷ []))

pub ruleset expression_lines = (
  line-Text,
  line-Int,
  line-Param,
  line-New,
  line-Field,
  line-Sum,
  line-If,
  line-Call,
  line-ByName,
  line-OrElse,
)

-- ---- conditions

comparison_line : (l : Output) (s : Bytes) (a b : List Lexeme)
    → spelled l (a ++ (sign_token s ∷ b)) ≡ spelled (with_token (spelled l a) false s) b
comparison_line l s a b = spelled-append l a (sign_token s ∷ b)

pub line-Equal : (l : Output) (a b : Expr) → with_condition l (cond.Equal a b)
    ≡ with_loose (with_token (with_loose l a) false (codes "==")) b
line-Equal l a b = rw equation.written-Equal (comparison_line l (codes "==")
    (loose (written a)).tokens (loose (written b)).tokens)

pub line-Less : (l : Output) (a b : Expr) → with_condition l (cond.Less a b)
    ≡ with_loose (with_token (with_loose l a) false (codes "<")) b
line-Less l a b = rw equation.written-Less (comparison_line l (codes "<")
    (loose (written a)).tokens (loose (written b)).tokens)

pub line-Has : (l : Output) (p : Bytes) → with_condition l (cond.Has p)
    ≡ with_by_name l (codes "has") p
line-Has l p = rw equation.written-Has refl

pub line-IsOk : (l : Output) (p : Bytes) → with_condition l (cond.IsOk p)
    ≡ with_by_name l (codes "ok") p
line-IsOk l p = rw equation.written-IsOk refl

pub ruleset condition_lines = (line-Equal, line-Less, line-Has, line-IsOk)

-- ---- trees

pub line-Leaf : (l : Output) (e : Expr) → with_tree l (tree.Leaf e) ≡ with_loose l e
line-Leaf l e = rw equation.written_tree-Leaf refl

pub line-Await : (l : Output) (p : Bytes) → with_tree l (tree.Await p)
    ≡ with_token (with_token l false (codes "await")) false p
line-Await l p = rw equation.written_tree-Await refl

pub line-Choice : (l : Output) (c : Cond) (a b : Tree) → with_tree l (tree.If c a b)
    ≡ with_choice l c (written_tree a).tokens (written_tree b).tokens
line-Choice l c a b = rw equation.written_tree-If (choice_line (with_token l false (codes "if"))
    (written_condition c).tokens (written_tree a).tokens (written_tree b).tokens)

pub ruleset tree_lines = (line-Leaf, line-Await, line-Choice)

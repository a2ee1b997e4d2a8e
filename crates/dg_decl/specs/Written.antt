-- The tokens of canonical text: of types, expressions, conditions and trees, from the tokens of
-- their parts.
use Rattle.std.specs.Prelude.{ℕ, suc, Bool, true, ◌&&◌, ◌==◌, not, nat_le, nat_lt, max, List, [], ◌∷◌, ◌++◌, length, map, codes, ℤ}
use Rattle.std.specs.Fmt.{signed_decimal}
use Rattle.std.specs.List.{list_all}
use Rattle.dg_types.specs.declared.shape.Shape.{Shape}
use Rattle.dg_types.specs.declared.shape.Shape.TheOpen.{Shape-F}
use Rattle.dg_types.specs.declared.shape.Shape.TheFolds.{fold-Shape}
use Rattle.dg_lex.specs.declared.token.TokenKind.TheVariants as kind
use Rattle.dg_lex.specs.Bytes.{Bytes, is_plain, is_among}
use Rattle.dg_lex.specs.Tokens.{is_name}
use Rattle.dg_lex.specs.Lexemes.{Lexeme, quoted}
use Rattle.dg_lex.specs.LexLaws.{is_in_range}
use Rattle.dg_decl.specs.declared.expression.CallName.{CallName}
use Rattle.dg_decl.specs.declared.expression.CallName.TheVariants as call
use Rattle.dg_decl.specs.declared.expression.Expr.{Expr}
use Rattle.dg_decl.specs.declared.expression.Cond.{Cond}
use Rattle.dg_decl.specs.declared.expression.Tree.{Tree}
use Rattle.dg_decl.specs.declared.expression.Cond.TheOpen.{Cond-F, Expr-F}
use Rattle.dg_decl.specs.declared.expression.Cond.TheFolds.{fold-Cond, fold-Expr}
use Rattle.dg_decl.specs.declared.expression.Tree.TheOpen.{Tree-F}
use Rattle.dg_decl.specs.declared.expression.Tree.TheFolds.{fold-Tree}
use Rattle.dg_decl.specs.Readers.{list_limit}
use Rattle.dg_decl.specs.ExpressionForms.{call_name, param_call_name, greatest}

-- ---- tokens

abbrev pub name_token : Bytes → Lexeme
name_token n = record { kind = kind.Name; spelling = n }

abbrev pub word_token : Bytes → Lexeme
word_token w = record { kind = kind.Word; spelling = w }

abbrev pub sign_token : Bytes → Lexeme
sign_token s = record { kind = kind.Sign; spelling = s }

-- `@` and a name
abbrev pub at_token : Bytes → Lexeme
at_token n = record { kind = kind.AtName; spelling = 64 ∷ n }

-- a text in quotes, escaped
abbrev pub text_token : Bytes → Lexeme
text_token t = record { kind = kind.Text; spelling = quoted t }

-- an integer in decimal
abbrev pub integer_token : ℤ → Lexeme
integer_token n = record { kind = kind.Integer; spelling = signed_decimal n }

-- further members of a list, each behind a comma
abbrev pub more_separated : {A : Type 0} → A → List (List A) → List A
more_separated comma [] = []
more_separated comma (x ∷ xs) = comma ∷ (x ++ more_separated comma xs)

-- members with commas between
abbrev pub separated : {A : Type 0} → A → List (List A) → List A
separated comma [] = []
separated comma (x ∷ xs) = x ++ more_separated comma xs

-- between parentheses
abbrev pub in_parens : List Lexeme → List Lexeme
in_parens tokens = sign_token (codes "(") ∷ (tokens ++ (sign_token (codes ")") ∷ []))

-- ---- types

-- A type as it is written: its tokens, how deep it nests, and whether its names are such as a type
-- has.
pub record WrittenType : Type 0 where
  pub tokens : List Lexeme
  pub depth : ℕ
  pub fits : Bool

-- a type without parts
abbrev pub simple_type : Bytes → Bool → WrittenType
simple_type n fits = record { tokens = name_token n ∷ []; depth = 1; fits = fits }

-- a constructor with what stands between its `<` and `>`
abbrev pub constructor_of : Bytes → List Lexeme → List Lexeme
constructor_of n parts = name_token n ∷ (sign_token (codes "<") ∷ (parts ++ (sign_token (codes ">")
    ∷ [])))

-- a constructor of one type
abbrev pub type_of_one : Bytes → WrittenType → WrittenType
type_of_one n t = record { tokens = constructor_of n t.tokens; depth = suc t.depth; fits = t.fits }

-- a type whose parts are written so
abbrev pub type_written : Shape-F WrittenType → WrittenType
type_written Shape-F.Text = simple_type (codes "Text") true
type_written Shape-F.Int = simple_type (codes "Int") true
type_written (Shape-F.Named n) = simple_type n (is_name n && not (is_among n (codes "Text"
    ∷ codes "Int" ∷ [])))
type_written (Shape-F.Set t) = type_of_one (codes "Set") t
type_written (Shape-F.Map k v) = record {
  tokens = constructor_of (codes "Map") (k.tokens ++ (sign_token (codes ",") ∷ v.tokens));
  depth = suc (max k.depth v.depth);
  fits = k.fits && v.fits;
}
type_written (Shape-F.Optional t) = type_of_one (codes "Optional") t
type_written (Shape-F.Provider t) = type_of_one (codes "Provider") t
type_written (Shape-F.Lazy t) = type_of_one (codes "Lazy") t
type_written (Shape-F.Producer t) = type_of_one (codes "Producer") t
type_written (Shape-F.Produced t) = type_of_one (codes "Produced") t

unfoldable pub written_type : Shape → WrittenType
written_type = fold-Shape WrittenType type_written

-- ---- expressions

-- What an expression is to the one around it: a part that needs no parentheses anywhere, as an atom
-- or a field of one; a sum; or an `if`.
pub data Level : Type 0 where
  Prim : Level
  Chain : Level
  Whole : Level

-- An expression as it is written: its level; its tokens; how many expressions stand around one
-- another in it, a pair of parentheses counted as one; how many fields end it, and how many parts
-- are added in its sum; and whether its names, literals and lists are such as the grammar has.
pub record Written : Type 0 where
  pub level : Level
  pub tokens : List Lexeme
  pub depth : ℕ
  pub fields : ℕ
  pub added : ℕ
  pub fits : Bool

-- an expression of no fields behind it and nothing added to it
abbrev pub atom_of : List Lexeme → ℕ → Bool → Written
atom_of tokens depth fits = record {
  level = Prim;
  tokens = tokens;
  depth = depth;
  fields = 0;
  added
      = 0;
  fits = fits;
}

-- in parentheses
abbrev pub parens : Written → Written
parens s = atom_of (in_parens s.tokens) (suc s.depth) s.fits

abbrev pub tight_at : Level → Written → Written
tight_at Prim s = s
tight_at Chain s = parens s
tight_at Whole s = parens s

abbrev pub loose_at : Level → Written → Written
loose_at Prim s = s
loose_at Chain s = s
loose_at Whole s = parens s

-- as the base of a field or to the right of `+`: in parentheses where it is a sum or an `if`
abbrev pub tight : Written → Written
tight s = tight_at s.level s

-- as an operand of a condition, to the left of `+`, or as a leaf of a tree: in parentheses where it
-- is an `if`
abbrev pub loose : Written → Written
loose s = loose_at s.level s

-- members between parentheses
abbrev pub list_tokens : List Written → List Lexeme
list_tokens xs = in_parens (separated (sign_token (codes ",")) (map (λ x. x.tokens) xs))

abbrev pub list_depth : List Written → ℕ
list_depth xs = greatest (map (λ x. x.depth) xs)

-- no more members than a list may have, each of which fits
abbrev pub list_fits : List Written → Bool
list_fits xs = nat_le (length xs) list_limit && list_all (λ x. x.fits) xs

-- as many arguments as the function takes: `set` any number, `cat` one or more, the others one
abbrev pub count_fits : CallName → ℕ → Bool
count_fits call.SetOf n = true
count_fits call.Cat n = nat_lt 0 n
count_fits other n = n == 1

-- A condition as it is written.
pub record WrittenCondition : Type 0 where
  pub tokens : List Lexeme
  pub depth : ℕ
  pub fits : Bool

-- `if`, the condition, `then`, one arm, `else`, the other
abbrev pub if_tokens : WrittenCondition → List Lexeme → List Lexeme → List Lexeme
if_tokens c a b = word_token (codes "if") ∷ (c.tokens ++ (word_token (codes "then") ∷ (a
    ++ (word_token (codes "else") ∷ b))))

-- an expression whose parts are written so
abbrev pub expression_written : Expr-F WrittenCondition Written → Written
expression_written (Expr-F.Text t) = atom_of (text_token t ∷ []) 1 (list_all is_plain t)
expression_written (Expr-F.Int n) = atom_of (integer_token n ∷ []) 1 (is_in_range n)
expression_written (Expr-F.Param p) = atom_of (name_token p ∷ []) 1 (is_name p)
expression_written (Expr-F.New c xs) =
    atom_of (word_token (codes "new") ∷ (name_token c ∷ list_tokens xs)) (suc (list_depth xs))
    (is_name c && list_fits xs)
expression_written (Expr-F.Field e f) = record {
  level = Prim;
  tokens = (tight e).tokens ++ (sign_token (codes ".") ∷ (name_token f ∷ []));
  depth = (tight e).depth;
  fields = suc (tight e).fields;
  added = 0;
  fits = e.fits && is_name f;
}
expression_written (Expr-F.Sum a b) = record {
  level = Chain;
  tokens = (loose a).tokens ++ (sign_token (codes "+") ∷ (tight b).tokens);
  depth = max (loose a).depth (tight b).depth;
  fields = 0;
  added = suc (loose a).added;
  fits = a.fits && b.fits;
}
expression_written (Expr-F.If c a b) = record {
  level = Whole;
  tokens = if_tokens c a.tokens b.tokens;
  depth = suc (max c.depth (max a.depth b.depth));
  fields = 0;
  added = 0;
  fits = c.fits && a.fits && b.fits;
}
expression_written (Expr-F.Call f xs) =
    atom_of (name_token (call_name f) ∷ list_tokens xs) (suc (list_depth xs)) (list_fits xs
    && count_fits f (length xs))
expression_written (Expr-F.ByName f p) = atom_of (name_token (param_call_name f)
    ∷ in_parens (name_token p ∷ [])) 1 (is_name p)
expression_written (Expr-F.OrElse p e) =
    atom_of (name_token (codes "orElse") ∷ in_parens (name_token p ∷ (sign_token (codes ",")
    ∷ e.tokens))) (suc e.depth) (is_name p && e.fits)

-- two operands with a sign between
abbrev pub comparison_of : Bytes → Written → Written → WrittenCondition
comparison_of s a b = record {
  tokens = (loose a).tokens ++ (sign_token s ∷ (loose b).tokens);
  depth = max (loose a).depth (loose b).depth;
  fits = a.fits && b.fits;
}

-- a function of a parameter as a condition
abbrev pub condition_by_name : Bytes → Bytes → WrittenCondition
condition_by_name f p = record {
  tokens = name_token f ∷ in_parens (name_token p
      ∷ []);
  depth = 1;
  fits = is_name p;
}

-- a condition whose parts are written so
abbrev pub condition_written : Cond-F WrittenCondition Written → WrittenCondition
condition_written (Cond-F.Equal a b) = comparison_of (codes "==") a b
condition_written (Cond-F.Less a b) = comparison_of (codes "<") a b
condition_written (Cond-F.Has p) = condition_by_name (codes "has") p
condition_written (Cond-F.IsOk p) = condition_by_name (codes "ok") p

unfoldable pub written : Expr → Written
written = fold-Expr WrittenCondition Written condition_written expression_written

unfoldable pub written_condition : Cond → WrittenCondition
written_condition = fold-Cond WrittenCondition Written condition_written expression_written

-- ---- trees

-- A tree as it is written: its tokens, how many choices stand around one another in it, and whether
-- its parts fit.
pub record WrittenTree : Type 0 where
  pub tokens : List Lexeme
  pub depth : ℕ
  pub fits : Bool

-- a tree whose subtrees are written so
abbrev pub tree_written : Tree-F WrittenTree → WrittenTree
tree_written (Tree-F.Leaf e) = record {
  tokens = (loose (written e)).tokens;
  depth = 1;
  fits =
      (written e).fits;
}
tree_written (Tree-F.Await p) = record {
  tokens = word_token (codes "await") ∷ (name_token p
      ∷ []);
  depth = 1;
  fits = is_name p;
}
tree_written (Tree-F.If c a b) = record {
  tokens = if_tokens (written_condition c) a.tokens b.tokens;
  depth = suc (max a.depth b.depth);
  fits = (written_condition c).fits && a.fits && b.fits;
}

unfoldable pub written_tree : Tree → WrittenTree
written_tree = fold-Tree WrittenTree tree_written

-- Readers of expressions that give up where what they read nests too deep, so that no line is read
-- deeper than its items may nest. A budget is how deep an expression may still nest; parentheses
-- take nothing of it. Where such a reader reads something, it is what the form says.
use Rattle.std.specs.Prelude.{ℕ, zero, suc, ◌-◌, if◌then◌else◌, List, codes}
use Rattle.dg_lex.specs.declared.token.TokenKind.TheVariants as kind
use Rattle.dg_lex.specs.Bytes.{line_limit}
use Rattle.dg_decl.specs.declared.expression.Expr.{Expr}
use Rattle.dg_decl.specs.declared.expression.Expr.TheVariants as expr
use Rattle.dg_decl.specs.declared.expression.Cond.{Cond}
use Rattle.dg_decl.specs.declared.expression.Cond.TheVariants as cond
use Rattle.dg_decl.specs.declared.expression.Tree.{Tree}
use Rattle.dg_decl.specs.declared.expression.Tree.TheVariants as tree
use Rattle.dg_decl.specs.Readers.{Reader, ◌>>=◌, ◌>>◌, pure, nothing, comes, comes_kind, eaten}
use Rattle.dg_decl.specs.Readers.{sign, word, enclosed}
use Rattle.dg_decl.specs.ExpressionForms.{nesting_limit, text_constant, integer_constant, object}
use Rattle.dg_decl.specs.ExpressionForms.{named, fields, row_of, comes_call, has, is_ok, awaited}

-- expressions, for each budget
abbrev pub Family : Type 0
Family = ℕ → Reader Expr

-- an atom without parentheses of its own
unfoldable pub plain_atom : Reader Expr → Reader Expr
plain_atom inner ls =
    if comes_kind kind.Text ls then text_constant ls
    else (if comes_kind kind.Integer ls then integer_constant ls
    else (if comes kind.Word (codes "new") ls then object inner ls
    else named inner ls))

-- an operand without parentheses of its own
unfoldable pub plain_prim : Reader Expr → Reader Expr
plain_prim inner = plain_atom inner >>= fields nesting_limit

unfoldable pub atom_to : Family → ℕ → Reader Expr
atom_to inner b ls =
    if comes kind.Sign (codes "(") ls then enclosed (inner b) ls else plain_atom (inner (b - 1)) ls

unfoldable pub prim_to : Family → ℕ → Reader Expr
prim_to inner b = atom_to inner b >>= fields nesting_limit

-- what is added to an expression
unfoldable pub added_to : Family → ℕ → ℕ → Expr → Reader Expr
added_to inner b n e = row_of (codes "+") (prim_to inner (b - 1)) (λ a b. expr.Sum a b) n e

unfoldable pub sum_to : Family → ℕ → Reader Expr
sum_to inner b = prim_to inner b >>= added_to inner b nesting_limit

-- the `)` behind an expression, and its fields
unfoldable pub closing : Expr → Reader Expr
closing e = sign (codes ")") >> fields nesting_limit e

-- what stands within parentheses, the `)`, and the fields behind it
unfoldable pub closed_to : Family → ℕ → Reader Expr
closed_to inner b = inner b >>= closing

-- what stands behind an operand in parentheses: further terms, the `)` and fields
unfoldable pub around_to : Family → ℕ → Expr → Reader Expr
around_to inner b e = added_to inner b nesting_limit e >>= closing

unfoldable pub comparison_to : Family → ℕ → Reader Cond
comparison_to inner b = do
  x ← sum_to inner b
  equal ← eaten kind.Sign (codes "==")
  if equal then (sum_to inner b >>= λ y. pure (cond.Equal x y)) else (sign (codes "<") >> sum_to
      inner b >>= λ y. pure (cond.Less x y))

unfoldable pub condition_to : Family → ℕ → Reader Cond
condition_to inner b ls =
    if comes_call (codes "has") ls then has ls else (if comes_call (codes "ok") ls then is_ok ls
    else comparison_to inner (b - 1) ls)

unfoldable pub choice_to : Family → ℕ → Reader Expr
choice_to inner b = do
  word (codes "if")
  c ← condition_to inner b
  word (codes "then")
  x ← inner b
  word (codes "else")
  y ← inner b
  pure (expr.If c x y)

unfoldable pub whole_to : Family → ℕ → Reader Expr
whole_to inner b ls =
    if comes kind.Word (codes "if") ls then choice_to inner (b - 1) ls else sum_to inner b ls

-- expressions with at most so many others around one another in them, parentheses counted
unfoldable pub expression_to : ℕ → Family
expression_to zero b = nothing
expression_to (suc depth) zero = nothing
expression_to (suc depth) (suc b) = whole_to (expression_to depth) (suc b)

-- ---- trees

-- the expressions of a tree
abbrev pub of_tree : Family
of_tree = expression_to line_limit

unfoldable pub leaf_to : Reader Tree
leaf_to = sum_to of_tree nesting_limit >>= λ e. pure (tree.Leaf e)

unfoldable pub tree_choice_to : Reader Tree → Reader Tree
tree_choice_to inner = do
  word (codes "if")
  c ← condition_to of_tree nesting_limit
  word (codes "then")
  x ← inner
  word (codes "else")
  y ← inner
  pure (tree.If c x y)

unfoldable pub tree_over_to : Reader Tree → Reader Tree
tree_over_to inner ls =
    if comes kind.Word (codes "if") ls then tree_choice_to inner ls
    else (if comes kind.Word (codes "await") ls then awaited ls else leaf_to ls)

unfoldable pub tree_to : ℕ → Reader Tree
tree_to zero = nothing
tree_to (suc depth) = tree_over_to (tree_to depth)

-- The forms of expressions, conditions, trees and constants.
use Rattle.std.specs.Prelude.{ℕ, zero, suc, Bool, ◌&&◌, if◌then◌else◌, nat_le, max, List, [], ◌∷◌, drop, fold, Some, codes}
use Rattle.std.specs.Str.{bytes_eq}
use Rattle.dg_lex.specs.declared.token.TokenKind.TheVariants as kind
use Rattle.dg_lex.specs.Bytes.{Bytes, line_limit}
use Rattle.dg_lex.specs.Lexemes.{Lexeme}
use Rattle.dg_decl.specs.declared.expression.CallName.{CallName}
use Rattle.dg_decl.specs.declared.expression.CallName.TheVariants as call
use Rattle.dg_decl.specs.declared.expression.ParamCall.{ParamCall}
use Rattle.dg_decl.specs.declared.expression.ParamCall.TheVariants as by
use Rattle.dg_decl.specs.declared.expression.Expr.{Expr}
use Rattle.dg_decl.specs.declared.expression.Expr.TheVariants as expr
use Rattle.dg_decl.specs.declared.expression.Cond.{Cond}
use Rattle.dg_decl.specs.declared.expression.Cond.TheVariants as cond
use Rattle.dg_decl.specs.declared.expression.Tree.{Tree}
use Rattle.dg_decl.specs.declared.expression.Tree.TheVariants as tree
use Rattle.dg_decl.specs.declared.expression.Cond.TheOpen.{Cond-F, Expr-F}
use Rattle.dg_decl.specs.declared.expression.Cond.TheFolds.{fold-Cond, fold-Expr}
use Rattle.dg_decl.specs.declared.expression.Tree.TheOpen.{Tree-F}
use Rattle.dg_decl.specs.declared.expression.Tree.TheFolds.{fold-Tree}
use Rattle.dg_decl.specs.Readers.{Reader, ◌>>=◌, ◌>>◌, pure, nothing, comes_kind, comes, eaten, word, keyword, sign, name, text, integer, enclosed, some_in_parentheses, in_parentheses}

-- ---- how deep an expression, a condition or a tree nests

abbrev pub nesting_limit : ℕ
nesting_limit = 16

-- the greatest of these, or 0
abbrev pub greatest : List ℕ → ℕ
greatest ns = fold max 0 ns

-- of an expression whose parts nest so deep
abbrev pub expression_nests : Expr-F ℕ ℕ → ℕ
expression_nests (Expr-F.New class args) = suc (greatest args)
expression_nests (Expr-F.Field e f) = suc e
expression_nests (Expr-F.Sum a b) = suc (max a b)
expression_nests (Expr-F.If c a b) = suc (max c (max a b))
expression_nests (Expr-F.Call f args) = suc (greatest args)
expression_nests (Expr-F.OrElse p e) = suc e
expression_nests leaf = 1

-- of a condition whose parts nest so deep
abbrev pub condition_nests : Cond-F ℕ ℕ → ℕ
condition_nests (Cond-F.Equal a b) = suc (max a b)
condition_nests (Cond-F.Less a b) = suc (max a b)
condition_nests by_name = 1

-- how deep an expression nests
unfoldable pub nesting : Expr → ℕ
nesting = fold-Expr ℕ ℕ condition_nests expression_nests

unfoldable pub condition_nesting : Cond → ℕ
condition_nesting = fold-Cond ℕ ℕ condition_nests expression_nests

-- of a tree whose subtrees nest so deep; a leaf nests as its expression
abbrev pub tree_nests : Tree-F ℕ → ℕ
tree_nests (Tree-F.Leaf e) = nesting e
tree_nests (Tree-F.Await p) = 1
tree_nests (Tree-F.If c a b) = suc (max (condition_nesting c) (max a b))

unfoldable pub tree_nesting : Tree → ℕ
tree_nesting = fold-Tree ℕ tree_nests

-- what is read nests no deeper than the limit
unfoldable pub nested : {A : Type 0} → (A → ℕ) → Reader A → Reader A
nested depth form = form >>= λ x. if nat_le (depth x) nesting_limit then pure x else nothing

-- ---- constants and literals

-- a text
unfoldable pub text_constant : Reader Expr
text_constant = text >>= λ t. pure (expr.Text t)

-- an integer
unfoldable pub integer_constant : Reader Expr
integer_constant = integer >>= λ n. pure (expr.Int n)

-- `new N(..)` with these members
unfoldable pub object : Reader Expr → Reader Expr
object member = do
  word (codes "new")
  c ← name
  xs ← in_parentheses member
  pure (expr.New c xs)

-- text | integer | new N(CONSTS)
unfoldable pub constant_over : Reader Expr → Reader Expr
constant_over inner ls =
    if comes_kind kind.Text ls then text_constant ls
    else (if comes_kind kind.Integer ls then integer_constant ls
    else object inner ls)

-- CONST, which nests at most so deep
unfoldable pub constant_within : ℕ → Reader Expr
constant_within zero = nothing
constant_within (suc depth) = constant_over (constant_within depth)

-- CONST
unfoldable pub constant : Reader Expr
constant = constant_within nesting_limit

-- ---- expressions: each form over a reader of the expressions within it

-- the name of a function of expressions
abbrev pub call_name : CallName → Bytes
call_name call.Cat = codes "cat"
call_name call.TextOf = codes "text"
call_name call.Size = codes "size"
call_name call.SetOf = codes "set"
call_name call.Fail = codes "fail"

-- the name of a function of a parameter
abbrev pub param_call_name : ParamCall → Bytes
param_call_name by.Get = codes "get"
param_call_name by.Value = codes "value"
param_call_name by.Values = codes "values"
param_call_name by.Failure = codes "failure"

-- a function of one expression
unfoldable pub call_of_one : CallName → Reader Expr → Reader Expr
call_of_one f inner = enclosed inner >>= λ e. pure (expr.Call f (e ∷ []))

-- a function of the name of a parameter
unfoldable pub call_by_name : ParamCall → Reader Expr
call_by_name f = enclosed name >>= λ p. pure (expr.ByName f p)

-- (N, EXPR)
unfoldable pub or_else : Reader Expr → Reader Expr
or_else inner = do
  sign (codes "(")
  p ← name
  sign (codes ",")
  e ← inner
  sign (codes ")")
  pure (expr.OrElse p e)

-- what stands behind the name of a function of expressions, where this is one
unfoldable pub call_of : Reader Expr → Bytes → Reader Expr
call_of inner n =
    if bytes_eq n (call_name call.Cat) then (some_in_parentheses inner >>= λ xs. pure (expr.Call
    call.Cat xs))
    else (if bytes_eq n (call_name call.TextOf) then call_of_one call.TextOf inner
    else (if bytes_eq n (call_name call.Size) then call_of_one call.Size inner
    else (if bytes_eq n (call_name call.SetOf) then (in_parentheses inner >>= λ xs. pure (expr.Call
    call.SetOf xs))
    else (if bytes_eq n (call_name call.Fail) then call_of_one call.Fail inner
    else nothing))))

-- what stands behind the name of any function, where this is one
unfoldable pub function : Reader Expr → Bytes → Reader Expr
function inner n =
    if bytes_eq n (param_call_name by.Get) then call_by_name by.Get
    else (if bytes_eq n (param_call_name by.Value) then call_by_name by.Value
    else (if bytes_eq n (param_call_name by.Values) then call_by_name by.Values
    else (if bytes_eq n (param_call_name by.Failure) then call_by_name by.Failure
    else (if bytes_eq n (codes "orElse") then or_else inner
    else call_of inner n))))

-- a name: a function where `(` stands behind it, else a parameter
unfoldable pub named_as : Reader Expr → Bytes → Reader Expr
named_as inner n ls = if comes kind.Sign (codes "(") ls then function inner n ls else Some
    (expr.Param n, ls)

unfoldable pub named : Reader Expr → Reader Expr
named inner = name >>= named_as inner

-- ATOM
unfoldable pub atom : Reader Expr → Reader Expr
atom inner ls =
    if comes_kind kind.Text ls then text_constant ls
    else (if comes_kind kind.Integer ls then integer_constant ls
    else (if comes kind.Word (codes "new") ls then object inner ls
    else (if comes kind.Sign (codes "(") ls then enclosed inner ls
    else named inner ls)))

-- what was read, and at most n more parts behind it, each with this sign before it
unfoldable pub row_of : {A : Type 0} → Bytes → Reader A → (Expr → A → Expr) → ℕ → Expr → Reader Expr
row_of before part join zero e = pure e
row_of before part join (suc n) e = do
  more ← eaten kind.Sign before
  if more then (part >>= λ x. row_of before part join n (join e x)) else pure e

-- the fields behind an expression. A row longer than the limit nests too deep
unfoldable pub fields : ℕ → Expr → Reader Expr
fields n e = row_of (codes ".") name (λ e f. expr.Field e f) n e

-- PRIM = ATOM | PRIM.N
unfoldable pub prim : Reader Expr → Reader Expr
prim inner = atom inner >>= fields nesting_limit

-- what is added to an expression
unfoldable pub added : Reader Expr → ℕ → Expr → Reader Expr
added inner n e = row_of (codes "+") (prim inner) (λ a b. expr.Sum a b) n e

-- SUM = PRIM | SUM + PRIM
unfoldable pub sum : Reader Expr → Reader Expr
sum inner = prim inner >>= added inner nesting_limit

-- such a name comes next, and `(` behind it
unfoldable pub comes_call : Bytes → List Lexeme → Bool
comes_call n ls = comes kind.Name n ls && comes kind.Sign (codes "(") (drop 1 ls)

-- has(N)
unfoldable pub has : Reader Cond
has = keyword (codes "has") >> enclosed name >>= λ p. pure (cond.Has p)

-- ok(N)
unfoldable pub is_ok : Reader Cond
is_ok = keyword (codes "ok") >> enclosed name >>= λ p. pure (cond.IsOk p)

-- SUM == SUM | SUM < SUM
unfoldable pub comparison : Reader Expr → Reader Cond
comparison inner = do
  a ← sum inner
  equal ← eaten kind.Sign (codes "==")
  if equal then (sum inner >>= λ b. pure (cond.Equal a b)) else (sign (codes "<") >> sum inner >>= λ
      b. pure (cond.Less a b))

-- COND
unfoldable pub condition : Reader Expr → Reader Cond
condition inner ls =
    if comes_call (codes "has") ls then has ls else (if comes_call (codes "ok") ls then is_ok ls
    else comparison inner ls)

-- if COND then EXPR else EXPR
unfoldable pub choice : Reader Expr → Reader Expr
choice inner = do
  word (codes "if")
  c ← condition inner
  word (codes "then")
  a ← inner
  word (codes "else")
  b ← inner
  pure (expr.If c a b)

-- EXPR over those within it
unfoldable pub whole : Reader Expr → Reader Expr
whole inner ls = if comes kind.Word (codes "if") ls then choice inner ls else sum inner ls

-- EXPR with at most so many others around one another in it, parentheses counted
unfoldable pub expression_within : ℕ → Reader Expr
expression_within zero = nothing
expression_within (suc depth) = whole (expression_within depth)

-- EXPR, however deep it nests: each one around another takes a byte of the line at least
unfoldable pub expression : Reader Expr
expression = expression_within line_limit

-- the body of a member that gives a value
unfoldable pub body : Reader Expr
body = nested nesting expression

-- ---- trees

-- await N
unfoldable pub awaited : Reader Tree
awaited = word (codes "await") >> name >>= λ p. pure (tree.Await p)

-- SUM
unfoldable pub leaf : Reader Tree
leaf = sum expression >>= λ e. pure (tree.Leaf e)

-- if COND then TREE else TREE
unfoldable pub tree_choice : Reader Tree → Reader Tree
tree_choice inner = do
  word (codes "if")
  c ← condition expression
  word (codes "then")
  a ← inner
  word (codes "else")
  b ← inner
  pure (tree.If c a b)

-- TREE over those within it
unfoldable pub tree_over : Reader Tree → Reader Tree
tree_over inner ls =
    if comes kind.Word (codes "if") ls then tree_choice inner ls
    else (if comes kind.Word (codes "await") ls then awaited ls else leaf ls)

-- TREE with at most so many others around one another in it
unfoldable pub tree_within : ℕ → Reader Tree
tree_within zero = nothing
tree_within (suc depth) = tree_over (tree_within depth)

-- the body of a producer. A tree of more choices than the limit nests too deep
unfoldable pub tree_body : Reader Tree
tree_body = nested tree_nesting (tree_within nesting_limit)

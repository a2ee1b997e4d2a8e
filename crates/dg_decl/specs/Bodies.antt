-- Bodies of module members: how large they are, and which parameters they call.
use Rattle.std.specs.Prelude.{ℕ, suc, ◌+◌, List, [], ◌∷◌, ◌++◌, flat_map, sum}
use Rattle.dg_lex.specs.Bytes.{Bytes}
use Rattle.dg_decl.specs.declared.expression.ParamCall.{ParamCall}
use Rattle.dg_decl.specs.declared.expression.ParamCall.TheVariants as by_name
use Rattle.dg_decl.specs.declared.expression.Cond.TheOpen.{Cond-F, Expr-F}
use Rattle.dg_decl.specs.declared.expression.Cond.{Cond, fold-Cond}
use Rattle.dg_decl.specs.declared.expression.Expr.{Expr, fold-Expr}
use Rattle.dg_decl.specs.declared.expression.Tree.TheOpen.{Tree-F}
use Rattle.dg_decl.specs.declared.expression.Tree.{Tree, fold-Tree}
use Rattle.dg_decl.specs.declared.item.Item.{Item}
use Rattle.dg_decl.specs.declared.item.Item.TheVariants as item

-- ---- sizes: each expression and each condition counts one, a name within it nothing

abbrev pub cond_size_at : Cond-F ℕ ℕ → ℕ
cond_size_at (Cond-F.Equal a b) = suc (a + b)
cond_size_at (Cond-F.Less a b) = suc (a + b)
cond_size_at (Cond-F.Has p) = 1
cond_size_at (Cond-F.IsOk p) = 1

abbrev pub expr_size_at : Expr-F ℕ ℕ → ℕ
expr_size_at (Expr-F.Text t) = 1
expr_size_at (Expr-F.Int n) = 1
expr_size_at (Expr-F.Param p) = 1
expr_size_at (Expr-F.New class args) = suc (sum args)
expr_size_at (Expr-F.Field of field) = suc of
expr_size_at (Expr-F.Sum a b) = suc (a + b)
expr_size_at (Expr-F.If cond first other) = suc (cond + first + other)
expr_size_at (Expr-F.Call f args) = suc (sum args)
expr_size_at (Expr-F.ByName f p) = 1
expr_size_at (Expr-F.OrElse p other) = suc other

abbrev pub size_of_expr : Expr → ℕ
size_of_expr = fold-Expr ℕ ℕ cond_size_at expr_size_at

abbrev pub size_of_cond : Cond → ℕ
size_of_cond = fold-Cond ℕ ℕ cond_size_at expr_size_at

-- each `await` and each `if` of a tree counts one
abbrev pub tree_size_at : Tree-F ℕ → ℕ
tree_size_at (Tree-F.Leaf e) = size_of_expr e
tree_size_at (Tree-F.Await p) = 1
tree_size_at (Tree-F.If cond first other) = suc (size_of_cond cond + first + other)

abbrev pub size_of_tree : Tree → ℕ
size_of_tree = fold-Tree ℕ tree_size_at

-- ---- called parameters, in reading order: those of `get` and of `await`

abbrev pub cond_calls_at : Cond-F (List Bytes) (List Bytes) → List Bytes
cond_calls_at (Cond-F.Equal a b) = a ++ b
cond_calls_at (Cond-F.Less a b) = a ++ b
cond_calls_at (Cond-F.Has p) = []
cond_calls_at (Cond-F.IsOk p) = []

abbrev pub called_by_name : ParamCall → Bytes → List Bytes
called_by_name by_name.Get p = p ∷ []
called_by_name other p = []

abbrev pub all_of : List (List Bytes) → List Bytes
all_of = flat_map (λ xs. xs)

abbrev pub expr_calls_at : Expr-F (List Bytes) (List Bytes) → List Bytes
expr_calls_at (Expr-F.Text t) = []
expr_calls_at (Expr-F.Int n) = []
expr_calls_at (Expr-F.Param p) = []
expr_calls_at (Expr-F.New class args) = all_of args
expr_calls_at (Expr-F.Field of field) = of
expr_calls_at (Expr-F.Sum a b) = a ++ b
expr_calls_at (Expr-F.If cond first other) = cond ++ (first ++ other)
expr_calls_at (Expr-F.Call f args) = all_of args
expr_calls_at (Expr-F.ByName f p) = called_by_name f p
expr_calls_at (Expr-F.OrElse p other) = other

abbrev pub calls_of_expr : Expr → List Bytes
calls_of_expr = fold-Expr (List Bytes) (List Bytes) cond_calls_at expr_calls_at

abbrev pub calls_of_cond : Cond → List Bytes
calls_of_cond = fold-Cond (List Bytes) (List Bytes) cond_calls_at expr_calls_at

abbrev pub tree_calls_at : Tree-F (List Bytes) → List Bytes
tree_calls_at (Tree-F.Leaf e) = calls_of_expr e
tree_calls_at (Tree-F.Await p) = p ∷ []
tree_calls_at (Tree-F.If cond first other) = calls_of_cond cond ++ (first ++ other)

abbrev pub calls_of_tree : Tree → List Bytes
calls_of_tree = fold-Tree (List Bytes) tree_calls_at

-- the parameters that the body of an item calls, in reading order, arms that are never taken
-- included
unfoldable pub called_params : Item → List Bytes
called_params (item.Provides mark scope n params result body) = calls_of_expr body
called_params (item.Produces mark n params result body) = calls_of_tree body
called_params other = []

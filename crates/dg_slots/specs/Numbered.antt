-- Expressions, conditions and decision trees by numbers: what a run needs of them. A name that
-- nothing declares has the number 0; in an accepted document each name is declared.
use Rattle.std.specs.Prelude.{ℕ, ◌+◌, ◌==◌, List, map, Option, Some, None, option_map, option_and_then, unwrap_or}
use Rattle.std.specs.List.{filter, position}
use Rattle.std.specs.Option.{option_or}
use Rattle.dg_lex.specs.Bytes.{Bytes}
use Rattle.dg_types.specs.declared.shape.Shape.{Shape, out-Shape}
use Rattle.dg_types.specs.declared.shape.Shape.TheOpen.{Shape-F}
use Rattle.dg_types.specs.Requests.{Layer}
use Rattle.dg_hilt.specs.Classes.{default_class_named}
use Rattle.dg_decl.specs.declared.document.Doc.{Doc}
use Rattle.dg_decl.specs.declared.item.Param.{Param}
use Rattle.dg_decl.specs.declared.expression.Cond.TheOpen.{Cond-F, Expr-F}
use Rattle.dg_decl.specs.declared.expression.Cond.{Cond, fold-Cond}
use Rattle.dg_decl.specs.declared.expression.Expr.{Expr, fold-Expr}
use Rattle.dg_decl.specs.declared.expression.Tree.TheOpen.{Tree-F}
use Rattle.dg_decl.specs.declared.expression.Tree.{Tree, fold-Tree}
use Rattle.dg_decl.specs.Document.{Statement, statements}
use Rattle.dg_decl.specs.Names.{is_class, class_item_named, fields_of}
use Rattle.dg_decl.specs.Typing.{is_named, type_of_param, type_of_field, type_by_name, part, inside_at}
use Rattle.dg_slots.specs.declared.body.NExpr.{NExpr}
use Rattle.dg_slots.specs.declared.body.NExpr.TheVariants as nexpr
use Rattle.dg_slots.specs.declared.body.NCond.{NCond}
use Rattle.dg_slots.specs.declared.body.NCond.TheVariants as ncond
use Rattle.dg_slots.specs.declared.body.NTree.{NTree}
use Rattle.dg_slots.specs.declared.body.NTree.TheVariants as ntree

-- ---- the numbers of names

-- the index of the parameter of this name
abbrev pub param_index : List Param → Bytes → Option ℕ
param_index params n = position (is_named n) params

-- the number of a parameter: its index among those of its line
abbrev pub param_number : List Param → Bytes → ℕ
param_number params n = unwrap_or (param_index params n) 0

-- the `class` lines, in order
abbrev pub class_lines : Doc → List Statement
class_lines doc = filter (λ s. is_class s.item) (statements doc)

-- the number of the class that the item of this index declares: six of Hilt's come first
abbrev pub number_of_class_item : Doc → ℕ → Option ℕ
number_of_class_item doc i = option_map (λ k. 6 + k) (position (λ s. s.index == i) (class_lines
    doc))

-- The number of a class: 0 to 5 for Application, Service, SavedStateHandle, Activity, Fragment and
-- View, and from 6 on by the `class` lines in order.
unfoldable pub class_number : Doc → Bytes → ℕ
class_number doc n =
    unwrap_or
    (option_or (default_class_named n)
    (option_and_then (number_of_class_item doc) (class_item_named doc n))) 0

-- the number of a field: its index among the fields of its class
unfoldable pub field_number : Doc → Option Bytes → Bytes → ℕ
field_number doc class field =
    unwrap_or
    (option_and_then (λ fields. param_index fields field) (option_and_then (fields_of doc) class)) 0

-- ---- the classes of values

-- the class that a type names
abbrev pub class_at : Layer → Option Bytes
class_at (Shape-F.Named n) = Some n
class_at other = None

-- the class that a type names, where there is a type
abbrev pub class_in : Option Shape → Option Bytes
class_in type = option_and_then (λ t. class_at (out-Shape t)) type

-- the type of a field of a class
abbrev pub field_type : Doc → Option Bytes → Bytes → Option Shape
field_type doc class field =
    option_and_then (λ c. type_of_field doc (Shape-F.Named c) field) class

-- ---- expressions

-- an expression by numbers, and the class that its type names, where its type names one and it is
-- of its type
pub record Numbered : Type 0 where
  pub expr : NExpr
  pub class : Option Bytes

-- an expression of a type; of one without a type by itself, and of one whose type names no class,
-- no class is known
abbrev pub of_type : NExpr → Option Shape → Numbered
of_type e type = record { expr = e; class = class_in type }

abbrev pub plain : NExpr → Numbered
plain e = record { expr = e; class = None }

abbrev pub exprs : List Numbered → List NExpr
exprs parts = map (λ x. x.expr) parts

-- a condition of a line with these parameters, where its parts are known
abbrev pub numbered_cond_at : List Param → Cond-F NCond Numbered → NCond
numbered_cond_at params (Cond-F.Equal a b) = ncond.Equal a.expr b.expr
numbered_cond_at params (Cond-F.Less a b) = ncond.Less a.expr b.expr
numbered_cond_at params (Cond-F.Has p) = ncond.Has (param_number params p)
numbered_cond_at params (Cond-F.IsOk p) = ncond.IsOk (param_number params p)

-- an expression of a line with these parameters, where its parts are known
abbrev pub numbered_at : Doc → List Param → Expr-F NCond Numbered → Numbered
numbered_at doc params (Expr-F.Text t) = plain (nexpr.Text t)
numbered_at doc params (Expr-F.Int n) = plain (nexpr.Int n)
numbered_at doc params (Expr-F.Param p) =
    of_type (nexpr.Param (param_number params p)) (type_of_param params p)
numbered_at doc params (Expr-F.New class args) =
    record { expr = nexpr.New (class_number doc class) (exprs args); class = Some class }
numbered_at doc params (Expr-F.Field of field) =
    of_type (nexpr.Field of.expr (field_number doc of.class field)) (field_type doc of.class field)
numbered_at doc params (Expr-F.Sum a b) = plain (nexpr.Sum a.expr b.expr)
numbered_at doc params (Expr-F.If cond first other) = plain (nexpr.If cond first.expr other.expr)
numbered_at doc params (Expr-F.Call f args) = plain (nexpr.Call f (exprs args))
numbered_at doc params (Expr-F.ByName f p) =
    of_type (nexpr.ByName f (param_number params p)) (type_by_name params f p)
numbered_at doc params (Expr-F.OrElse p other) =
    of_type (nexpr.OrElse (param_number params p) other.expr)
    (part inside_at (type_of_param params p))

unfoldable pub numbered : Doc → List Param → Expr → Numbered
numbered doc params = fold-Expr NCond Numbered (numbered_cond_at params) (numbered_at doc params)

-- an expression of a line with these parameters by numbers
abbrev pub numbered_expr : Doc → List Param → Expr → NExpr
numbered_expr doc params e = (numbered doc params e).expr

-- a condition by numbers
unfoldable pub numbered_cond : Doc → List Param → Cond → NCond
numbered_cond doc params =
    fold-Cond NCond Numbered (numbered_cond_at params) (numbered_at doc params)

-- ---- trees

abbrev pub numbered_tree_at : Doc → List Param → Tree-F NTree → NTree
numbered_tree_at doc params (Tree-F.Leaf e) = ntree.Leaf (numbered_expr doc params e)
numbered_tree_at doc params (Tree-F.Await p) = ntree.Await (param_number params p)
numbered_tree_at doc params (Tree-F.If cond first other) =
    ntree.If (numbered_cond doc params cond) first other

-- a decision tree by numbers
unfoldable pub numbered_tree : Doc → List Param → Tree → NTree
numbered_tree doc params = fold-Tree NTree (numbered_tree_at doc params)

-- Against which types a tree checks, by its form.
use Rattle.std.proofs.Common.{◌≡◌, ◌&&◌, List, false}
use Rattle.std.specs.Option.{option_map_or}
use Rattle.dg_lex.specs.Bytes.{Bytes}
use Rattle.dg_types.specs.declared.shape.Shape.{Shape}
use Rattle.dg_decl.specs.declared.document.Doc.{Doc}
use Rattle.dg_decl.specs.declared.item.Param.{Param}
use Rattle.dg_decl.specs.declared.expression.Expr.{Expr}
use Rattle.dg_decl.specs.declared.expression.Cond.{Cond}
use Rattle.dg_decl.specs.declared.expression.Tree.{Tree}
use Rattle.dg_decl.specs.declared.expression.Tree.TheVariants as tree
use Rattle.dg_decl.specs.Typing.{checks, is_typed_condition, tree_checks, tree_checks_at, is_assignable, type_of_param, part, awaited_at}
use Rattle.dg_decl.proofs.FoldEquations.{tree_at-Leaf, tree_at-Await, tree_at-If}

pub tree-Leaf : (d : Doc) (ps : List Param) (e : Expr) (w : Shape)
    → tree_checks d ps (tree.Leaf e) w ≡ checks d ps e w
unfolding tree_checks
tree-Leaf d ps e w = tree_at-Leaf (tree_checks_at d ps) e w

pub tree-Await : (d : Doc) (ps : List Param) (p : Bytes) (w : Shape)
    → tree_checks d ps (tree.Await p) w
    ≡ option_map_or (λ t. is_assignable d t w) (part awaited_at (type_of_param ps p)) false
unfolding tree_checks
tree-Await d ps p w = tree_at-Await (tree_checks_at d ps) p w

pub tree-If : (d : Doc) (ps : List Param) (c : Cond) (a b : Tree) (w : Shape)
    → tree_checks d ps (tree.If c a b) w
    ≡ (is_typed_condition d ps c && tree_checks d ps a w && tree_checks d ps b w)
unfolding tree_checks
tree-If d ps c a b w = tree_at-If (tree_checks_at d ps) c a b w

pub ruleset trees = (tree-Leaf, tree-Await, tree-If)

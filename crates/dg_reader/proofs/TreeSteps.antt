-- Trees by how deep they nest at most.
use Rattle.std.proofs.Common.{◌≡◌, ℕ, zero, suc, ◌-◌, ◌<◌, List, Option, None, Result, refl, subst}
use Rattle.std.proofs.Common.{arith}
use Rattle.dg_lex.specs.Lexemes.{Lexeme}
use Rattle.dg_decl.specs.declared.expression.Tree.{Tree}
use Rattle.dg_reader.specs.Budgets.{tree_to, tree_over_to}
use Rattle.dg_reader.specs.declared.fault.FormFault.{FormFault}
use Rattle.dg_reader.specs.Gives.{Gives}

pub tree_none : (depth : ℕ) (ls : List Lexeme) → depth ≡ 0 → tree_to depth ls ≡ None
unfolding tree_to
tree_none zero ls none = refl
tree_none (suc depth) ls none = absurd (omega arith)

pub tree_step : (depth : ℕ) (ls left : List Lexeme) (answer : Result Tree FormFault) → 0 < depth
    → Gives (tree_over_to (tree_to (depth - 1)) ls) answer left
    → Gives (tree_to depth ls) answer left
unfolding tree_to
tree_step zero ls left answer some gives = absurd (omega arith)
tree_step (suc depth) ls left answer some gives =
    let one : suc depth - 1 ≡ depth = omega arith in
    subst (λ (d : ℕ). Gives (tree_over_to (tree_to d) ls) answer left) one gives

-- Constants by how deep they nest at most.
use Rattle.std.proofs.Common.{◌≡◌, ℕ, zero, suc, ◌-◌, ◌<◌, List, Option, None, Result, refl, subst}
use Rattle.std.proofs.Common.{arith}
use Rattle.dg_lex.specs.Lexemes.{Lexeme}
use Rattle.dg_decl.specs.declared.expression.Expr.{Expr}
use Rattle.dg_decl.specs.ExpressionForms.{constant_within, constant_over}
use Rattle.dg_reader.specs.declared.fault.FormFault.{FormFault}
use Rattle.dg_reader.specs.Gives.{Gives}

pub constant_none : (depth : ℕ) (ls : List Lexeme) → depth ≡ 0 → constant_within depth ls ≡ None
unfolding constant_within
constant_none zero ls none = refl
constant_none (suc depth) ls none = absurd (omega arith)

pub constant_step : (depth : ℕ) (ls left : List Lexeme) (answer : Result Expr FormFault) → 0 < depth
    → Gives (constant_over (constant_within (depth - 1)) ls) answer left
    → Gives (constant_within depth ls) answer left
unfolding constant_within
constant_step zero ls left answer some gives = absurd (omega arith)
constant_step (suc depth) ls left answer some gives =
    let one : suc depth - 1 ≡ depth = omega arith in
    subst (λ (d : ℕ). Gives (constant_over (constant_within d) ls) answer left) one gives

-- Types by how deep they nest at most.
use Rattle.std.proofs.Common.{◌≡◌, ℕ, zero, suc, ◌-◌, ◌<◌, List, Option, None, Result, refl, subst}
use Rattle.std.proofs.Common.{arith}
use Rattle.dg_types.specs.declared.shape.Shape.{Shape}
use Rattle.dg_lex.specs.Lexemes.{Lexeme}
use Rattle.dg_decl.specs.TypeForms.{type_within, type_over}
use Rattle.dg_reader.specs.declared.fault.FormFault.{FormFault}
use Rattle.dg_reader.specs.Gives.{Gives}

pub type_none : (depth : ℕ) (ls : List Lexeme) → depth ≡ 0 → type_within depth ls ≡ None
unfolding type_within
type_none zero ls none = refl
type_none (suc depth) ls none = absurd (omega arith)

pub type_step : (depth : ℕ) (ls left : List Lexeme) (answer : Result Shape FormFault) → 0 < depth
    → Gives (type_over (type_within (depth - 1)) ls) answer left
    → Gives (type_within depth ls) answer left
unfolding type_within
type_step zero ls left answer some gives = absurd (omega arith)
type_step (suc depth) ls left answer some gives =
    let one : suc depth - 1 ≡ depth = omega arith in
    subst (λ (d : ℕ). Gives (type_over (type_within d) ls) answer left) one gives

-- Arguments and the fields for which they stand.
use Rattle.std.proofs.Common.{◌≡◌, ◌&&◌, List, [], ◌∷◌, length, map, Bool, true, false, refl, ap, suc}
use Rattle.dg_decl.specs.declared.item.Param.{Param}
use Rattle.dg_decl.specs.declared.expression.Expr.{Expr}
use Rattle.dg_decl.specs.Typing.{Typed, arguments_check}

and_false : (b c : Bool) → c ≡ false → (b && c) ≡ false
and_false true c h = h
and_false false c h = refl

-- where there aren't as many, they don't check
pub as_many : (f : Expr → Typed) (xs : List Expr) (ps : List Param)
    → ¬ (length xs ≡ length ps) → arguments_check (map f xs) ps ≡ false
as_many f [] [] h = absurd (h refl)
as_many f [] (p ∷ ps) h = refl
as_many f (x ∷ xs) [] h = refl
as_many f (x ∷ xs) (p ∷ ps) h =
    and_false ((f x).checks p.shape.shape) _ (as_many f xs ps (λ e. h (ap suc e)))

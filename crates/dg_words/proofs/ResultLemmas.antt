-- What `ok_or` makes of an answer that is there exactly where some value fits.
use Rattle.std.proofs.Common.{◌≡◌, Option, Some, None, Result, Ok, Err, sym, ◌∙◌}
use Rattle.std.specs.Prelude.{MatchOption, ◌↔◌}
use Rattle.std.specs.Option.{ok_or}

-- refused exactly where no value fits
pub refused_exactly : {A E : Type 0} (P : A → Type 0) (found : Option A) (answer : Result A E) (fault : E)
    → MatchOption found ((a : A) → P a → ⊥) P → answer ≡ ok_or found fault
    → (answer ≡ Err fault) ↔ ((a : A) → P a → ⊥)
refused_exactly P None answer fault fits is = (λ bad. fits, λ refused. is)
refused_exactly P (Some a) answer fault fits is = (λ bad. let both : Ok a ≡ Err fault = sym is ∙ bad in cc, λ refused. absurd (refused a fits))

-- another fault, where some value fits
pub not_refused : {A E : Type 0} (P : A → Type 0) (answer : Result A E) (fault other : E) → answer ≡ Err other → (other ≡ fault → ⊥) → (a : A) × P a
    → (answer ≡ Err fault) ↔ ((a : A) → P a → ⊥)
not_refused P answer fault other is differs fits =
    (λ bad. absurd (differs (let both : Err other ≡ Err fault = sym is ∙ bad in cc)), λ refused. absurd (refused fits.0 fits.1))

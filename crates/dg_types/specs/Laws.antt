-- What the definitions of requests and of equality come to.
use Rattle.std.specs.Prelude.{◌≡◌, ◌↔◌, Bool, IsTrue, IfSome}
use Rattle.dg_types.specs.declared.shape.TypeUse.{TypeUse}
use Rattle.dg_types.specs.Requests.{request_of, use_of}

-- a test is true exactly where the two are equal
abbrev pub TellsEqual : {A : Type 0} → (A → A → Bool) → Type 0
TellsEqual {A} same = (a b : A) → IsTrue (same a b) ↔ (a ≡ b)

-- If a type asks for something, then that request is written as this very type: a request loses
-- nothing of it.
abbrev pub IsWrittenBack : TypeUse → Type 0
IsWrittenBack u = IfSome (request_of u) (λ r. use_of r ≡ u)

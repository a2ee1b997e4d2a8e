-- Counts of the faults of an object that was handed in, and when a call may answer with a fault.
use Rattle.std.specs.Prelude.{◌≡◌, ℕ, ◌+◌, ◌-◌, ◌^◌, ◌<◌, ◌≤◌, List, length, min, Result, IfOk, OnErr, OnOk}

-- one more, in a count that ends at the largest u64 and stays there
abbrev pub raised : ℕ → ℕ
raised count = min (count + 1) (2 ^ 64 - 1)

-- the count rose, or stands at its last value
abbrev pub Rose : ℕ → ℕ → Type 0
Rose before now = raised before ≤ now

-- the count never falls, it rose where the call failed, and it stayed where the call did its work
pub record HasCause {T E : Type 0} (before now : ℕ) (result : Result T E) : Type 0 where
  pub later : before ≤ now
  pub failed : OnErr result (Rose before now)
  pub kept : OnOk result (now ≡ before)

-- on Ok(n), n bytes are at the front of the piece, and at least one where it has any
abbrev pub TakesFront : {E : Type 0} → Result ℕ E → List ℕ → Type 0
TakesFront result piece = IfOk result (λ n. (n ≤ length piece) × (0 < length piece → 0 < n))

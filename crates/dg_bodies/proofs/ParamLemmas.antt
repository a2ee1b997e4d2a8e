-- What is made of a parameter that is there.
use Rattle.std.proofs.Common.{◌≡◌, [], Some, None, refl}
use Rattle.dg_eval.specs.Runs.{Run, before}

pub nothing_before : {A : Type 0} (r : Run A) → before [] r ≡ r
nothing_before None = refl
nothing_before (Some (r, asked)) = refl

pub ruleset known = (nothing_before)

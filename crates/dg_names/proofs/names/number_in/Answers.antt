use Rattle.std.proofs.Common.{◌+◌, ℕ, ap}
use Rattle.std.specs.Option.{option_map}
use Rattle.dg_names.proofs.names.number_in.Goals as goal

pub returns-in-Some : goal.returns-in-Some
returns-in-Some c = record {
  exact = ap (option_map (λ (k : ℕ). 8 + k)) c.in-Some.ensures.exact;
}

pub returns-in-None : goal.returns-in-None
returns-in-None c = record {
  exact = ap (option_map (λ (k : ℕ). 8 + k)) c.in-None.ensures.exact;
}

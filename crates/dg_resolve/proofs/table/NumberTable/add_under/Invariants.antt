use Rattle.std.proofs.Common.{◌≡◌, ◌++◌, ◌∷◌, [], ℕ, ◌==◌, take, if◌then◌else◌}
use Rattle.std.specs.List.{flat_map}
use Rattle.dg_resolve.specs.Tables.{of_number}
use Rattle.dg_resolve.proofs.table.NumberTable.add_under.Given as goal

abbrev pub invariant-loop-key : goal.invariant-loop-key
invariant-loop-key l =
    (m : ℕ) → of_number m l.self
    ≡ of_number m l.initial.self ++ flat_map (λ k. if m == k then l.value ∷ [] else []) (take l.key-index l.keys)

use Rattle.std.proofs.Common.{◌≡◌, [], ℕ, vec_len}
use Rattle.dg_num.specs.Graph.{row_at}
use Rattle.dg_walks.proofs.turned.empty_rows.Given as goal

abbrev pub invariant-loop : goal.invariant-loop
invariant-loop l = record {
  len : vec_len l.rows ≡ l.counter;
  empty : (index : ℕ) → row_at l.rows.items index ≡ [];
}

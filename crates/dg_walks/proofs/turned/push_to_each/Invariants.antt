use Rattle.std.proofs.Common.{◌≡◌, ◌≢◌, ◌+◌, ℕ, take, vec_len}
use Rattle.dg_num.specs.Counts.{count_of}
use Rattle.dg_num.specs.Graph.{row_at}
use Rattle.dg_walks.proofs.turned.push_to_each.Given as goal

abbrev pub invariant-loop-index : goal.invariant-loop-index
invariant-loop-index l = record {
  len : vec_len l.rows ≡ vec_len l.initial.rows;
  more : (index : ℕ) → count_of (row_at l.rows.items index) l.number
      ≡ count_of (row_at l.initial.rows.items index) l.number
      + count_of (take l.index-index l.list) index;
  others : (index other : ℕ) → other ≢ l.number
      → count_of (row_at l.rows.items index) other
      ≡ count_of (row_at l.initial.rows.items index) other;
}

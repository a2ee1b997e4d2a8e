-- The front of a list that was copied to the front of another.
use Rattle.std.proofs.Common.{◌≡◌, ℕ, ◌+◌, ◌-◌, ◌≤◌, List, [], ◌++◌, length, take, drop, arith}
use Rattle.std.proofs.lemmas.List.{take-append-drop, take-append-le}
use Rattle.std.proofs.lemmas.Grind.{common_steps}

-- what was copied of the bytes from `start` on, and then what is behind it, are all bytes from there
pub front_and_rest : (start n : ℕ) (bytes copied others : List ℕ) → length copied ≡ n → copied ≡ take (start + n - start) (drop start bytes) → drop start bytes ≡ take n (copied ++ others) ++ drop (start + n) bytes
front_and_rest start n bytes copied others size same = grind (arith, common_steps, take-append-le n copied others, take-append-drop n (drop start bytes))

-- from the list's end on there is nothing
pub nothing_behind : (at : ℕ) (xs : List ℕ) → length xs ≤ at → drop at xs ≡ []
nothing_behind at xs h = grind (arith, common_steps)

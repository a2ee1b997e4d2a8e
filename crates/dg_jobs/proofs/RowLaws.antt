use Rattle.std.proofs.Common.{◌≡◌, ◌<◌, ℕ, All, arith, zero, suc, List, [], ◌∷◌, Vec, Global, length, get_or, map, refl, sym, ap, ◌∙◌}
use Rattle.std.proofs.lemmas.List.{get_or-map}
use Rattle.std.proofs.lemmas.List.Elements.{All-contains}
use Rattle.dg_jobs.specs.Jobs.{inputs_of, Needs}

-- the row that is read is the list of the job's inputs
pub inputs_read : (rows : List (Vec ℕ Global)) (job : ℕ) (row : Vec ℕ Global) → job < length rows → row ≡ get_or rows job row → row.items ≡ inputs_of (map (λ row. row.items) rows) job
inputs_read rows job row lt read = ap (λ r. r.items) read ∙ sym (get_or-map (λ r. r.items) rows job row [] lt)

All-tail : {X : Type 0} (P : X → Type 0) (x : X) (xs : List X) → All P (x ∷ xs) → All P xs
All-tail P x xs all = λ k d lt. all (suc k) d (omega (arith, lt))

-- each input is in range where each row is
pub rows_in_range : (rows : List (Vec ℕ Global)) (n : ℕ) → All (λ row. All (λ input. input < n) row.items) rows → (a b : ℕ) → Needs (map (λ row. row.items) rows) a b → b < n
rows_in_range [] n all a b needs = absurd (omega (arith, needs.1))
rows_in_range (row ∷ rows) n all zero b needs = All-contains (λ input. input < n) row.items b (All-contains (λ row. All (λ input. input < n) row.items) (row ∷ rows) row all (0, omega arith, refl)) needs
rows_in_range (row ∷ rows) n all (suc a) b needs = rows_in_range rows n (All-tail (λ row. All (λ input. input < n) row.items) row rows all) a b needs

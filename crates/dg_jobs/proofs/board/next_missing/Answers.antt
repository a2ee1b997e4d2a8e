use Rattle.std.proofs.Common.{◌≡◌, ◌≤◌, ◌<◌, ℕ, true, List, Option, Some, None, get_or, is_some, refl, subst, ⊎_elim, arith, rules}
use Rattle.std.proofs.lemmas.Bool.{cases_lt}
use Rattle.dg_jobs.specs.Board.{HasEnd}
use Rattle.dg_jobs.specs.Piles.{choice_at}
use Rattle.dg_jobs.proofs.board.next_missing.Goals as goal

has_end : (ends : List (Option ℕ)) (job : ℕ) (o : Option ℕ) → choice_at ends job ≡ o → is_some o ≡ true → HasEnd ends job
has_end ends job None e h = absurd (cc)
has_end ends job (Some last) e h = (last, e)

pub loop-index-preserved : goal.loop-index-preserved
loop-index-preserved c = λ index from lt.
    let here : HasEnd c.args.ends.now (get_or c.args.row.now c.loop-index.index 0) = has_end c.args.ends.now (get_or c.args.row.now c.loop-index.index 0) (choice_at c.args.ends.now (get_or c.args.row.now c.loop-index.index 0)) refl (search rules) in
    let P : ℕ → Type 0 = λ x. HasEnd c.args.ends.now (get_or c.args.row.now x 0) in
    ⊎_elim (λ (before : index < c.loop-index.index). c.loop-index.invariant index from before) (λ (at : c.loop-index.index ≤ index). let e : c.loop-index.index ≡ index = omega arith in subst P e here) (cases_lt index c.loop-index.index)

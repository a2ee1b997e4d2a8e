use Rattle.std.proofs.Common.{◌≡◌, ◌+◌, ◌^◌, ◌<◌, ℕ, zero, suc, Bool, false, cond, Option, None, List, length, get_or, replicate, count_by, is_some, refl, sym, ap, ◌∙◌, subst, ⊎_elim, arith}
use Rattle.std.proofs.lemmas.Bool.{cases_lt}
use Rattle.std.proofs.lemmas.List.{get_or_past, get_or-replicate, length-replicate}
use Rattle.std.proofs.lemmas.List.Sums.{sum_by-cons}
use Rattle.dg_jobs.specs.declared.phase.Phase.{Phase}
use Rattle.dg_jobs.specs.declared.phase.Phase.TheVariants.{Asleep}
use Rattle.dg_jobs.specs.Board.{Sleeps, IsCalm, is_on, is_out}
use Rattle.dg_jobs.specs.Jobs.{phase_of, Needs}
use Rattle.dg_jobs.specs.Piles.{choice_at}
use Rattle.dg_jobs.proofs.Filing.{not_none}

one_when : {b : Bool} → b ≡ false → cond {A = ℕ} b 1 0 ≡ 0
one_when {b} e = subst (λ x. cond {A = ℕ} x 1 0 ≡ 0) (sym e) refl

count_none : {X : Type 0} (p : X → Bool) (x : X) → p x ≡ false → (n : ℕ) → count_by p (replicate n x) ≡ 0
count_none p x fails zero = refl
count_none p x fails (suc n) = omega (arith, sum_by-cons (λ y. cond (p y) 1 0) x (replicate n x), one_when fails, count_none p x fails n)

all_same : {X : Type 0} (n i : ℕ) (x : X) → get_or (replicate n x) i x ≡ x
all_same n i x = ⊎_elim (λ (lt : i < n). get_or-replicate n i x x lt) (λ past. get_or_past (replicate n x) i x (omega (arith, length-replicate n x, past))) (cases_lt i n)

-- the tables at the start
pub calm_start : (inputs : List (List ℕ)) (n : ℕ) (phases : List Phase) (ends : List (Option ℕ)) (passed : List ℕ) (places : List (Option ℕ)) → length inputs ≡ n → n < 2 ^ 32 → ((a b : ℕ) → Needs inputs a b → b < n) → phases ≡ replicate n Asleep → ends ≡ replicate n None → passed ≡ replicate n 0 → places ≡ replicate n None → IsCalm (record { inputs = inputs; phases = phases; ends = ends; passed = passed; places = places; ready = 0; out = 0; finished = 0 })
calm_start inputs n phases ends passed places len small in_range is_phases is_ends is_passed is_places =
    let count : length phases ≡ n = ap length is_phases ∙ length-replicate n Asleep in
    let asleep : (job : ℕ) → phase_of phases job ≡ Asleep = λ job. ap (λ xs. phase_of xs job) is_phases ∙ all_same n job Asleep in
    let no_end : (job : ℕ) → choice_at ends job ≡ None = λ job. ap (λ xs. choice_at xs job) is_ends ∙ all_same n job None in
    let no_place : (job : ℕ) → choice_at places job ≡ None = λ job. ap (λ xs. choice_at xs job) is_places ∙ all_same n job None in
    record {
      fits = record {
        small = omega (arith, count, small);
        for_inputs = len ∙ sym count;
        for_ends = ap length is_ends ∙ length-replicate {A = Option ℕ} n None ∙ sym count;
        for_passed = ap length is_passed ∙ length-replicate n 0 ∙ sym count;
        for_places = ap length is_places ∙ length-replicate {A = Option ℕ} n None ∙ sym count;
        in_range = λ a b needs. omega (arith, in_range a b needs, count);
        stands = λ job lt ne. Sleeps (asleep job) (no_end job) (no_place job);
        lasts = λ job last e. absurd (not_none (choice_at ends job) last (no_end job) e);
        passed = λ job i lt. absurd (omega (arith, lt, ap (λ xs. get_or xs job 0) is_passed, all_same {X = ℕ} n job 0));
        ready = ap (λ xs. count_by (is_on (length phases)) xs) is_places ∙ count_none (is_on (length phases)) None refl n;
        out = ap (λ xs. count_by is_out xs) is_phases ∙ count_none is_out Asleep refl n;
        finished = ap (λ xs. count_by is_some xs) is_ends ∙ count_none is_some None refl n;
      };
      none_ends = λ job on. absurd (not_none (choice_at places job) (length phases + 1) (no_place job) on);
      none_woken = λ job on. absurd (not_none (choice_at places job) (length phases + 2) (no_place job) on);
      awake = λ a input awake needs. absurd (awake (asleep a));
    }

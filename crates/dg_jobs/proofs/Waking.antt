use Rattle.std.proofs.Common.{◌≡◌, ◌≢◌, ◌+◌, ◌<◌, ◌⊎◌, ◌++◌, ◌∷◌, [], ℕ, true, false, Option, Some, None, List, length, get_or, set, take, Contains, refl, sym, ap, ◌∙◌, subst, inl, inr, ⊎_elim, arith}
use Rattle.std.proofs.lemmas.Bool.{cases_eq}
use Rattle.std.proofs.lemmas.List.{get_or-set_same, get_or-set_other, length-set, take_more}
use Rattle.std.proofs.lemmas.List.Elements.{Contains-append_left, Contains-push, Contains-push_cases}
use Rattle.dg_jobs.specs.declared.phase.Phase.{Phase}
use Rattle.dg_jobs.specs.declared.phase.Phase.TheVariants.{Asleep, Wanted}
use Rattle.dg_jobs.specs.Board.{WakesRow, is_asleep, is_on, is_out, one_if}
use Rattle.dg_jobs.specs.Jobs.{phase_of}
use Rattle.dg_jobs.specs.Piles.{choice_at}
use Rattle.dg_jobs.proofs.Counts.{count_by-set, is_on-same, is_on-other}

pub WakesRow-none : (phases : List Phase) (places : List (Option ℕ)) → WakesRow [] phases places phases places
WakesRow-none phases places = record { count = refl; count_places = refl; each = λ other. inl (refl, refl); woken = λ other has. absurd (omega (arith, has.1)); ready = refl; out = refl; left = refl }

-- nothing changes at a job of the row that isn't asleep
WakesRow-awake : (row : List ℕ) (phases : List Phase) (places : List (Option ℕ)) (phases' : List Phase) (places' : List (Option ℕ)) (job : ℕ) → WakesRow row phases places phases' places' → phase_of phases' job ≢ Asleep → WakesRow (row ++ job ∷ []) phases places phases' places'
WakesRow-awake row phases places phases' places' job w awake = record {
  count = w.count;
  count_places = w.count_places;
  each = λ other. ⊎_elim (λ (same : (phase_of phases' other ≡ phase_of phases other) × (choice_at places' other ≡ choice_at places other)). inl same) (λ (more : Contains row other × (phase_of phases other ≡ Asleep) × (phase_of phases' other ≡ Wanted) × (choice_at places' other ≡ Some (length phases + 2))). inr (Contains-append_left row (job ∷ []) other more.0, more.1, more.2, more.3)) (w.each other);
  woken = λ other has. ⊎_elim (λ (early : Contains row other). w.woken other early) (λ (e : job ≡ other). subst (λ x. phase_of phases' x ≢ Asleep) e awake) (Contains-push_cases row job other has);
  ready = w.ready;
  out = w.out;
  left = w.left;
}

-- a job of the row that is asleep is woken
WakesRow-wake : (row : List ℕ) (phases : List Phase) (places : List (Option ℕ)) (phases' : List Phase) (places' : List (Option ℕ)) (job : ℕ) → WakesRow row phases places phases' places' → job < length phases → length places ≡ length phases → ((other : ℕ) → phase_of phases other ≡ Asleep → choice_at places other ≡ None) → phase_of phases' job ≡ Asleep → WakesRow (row ++ job ∷ []) phases places (set phases' job Wanted) (set places' job (Some (length phases' + 2)))
WakesRow-wake row phases places phases' places' job w lt same_len free asleep =
    let n = length phases in
    let was : (phase_of phases job ≡ Asleep) × (choice_at places' job ≡ None) = ⊎_elim (λ (same : (phase_of phases' job ≡ phase_of phases job) × (choice_at places' job ≡ choice_at places job)). let was_asleep : phase_of phases job ≡ Asleep = sym same.0 ∙ asleep in (was_asleep, same.1 ∙ free job was_asleep)) (λ (more : Contains row job × (phase_of phases job ≡ Asleep) × (phase_of phases' job ≡ Wanted) × (choice_at places' job ≡ Some (length phases + 2))). absurd (let h = more.2 in cc)) (w.each job) in
    let in_phases : job < length phases' = omega (arith, lt, w.count) in
    let in_places : job < length places' = omega (arith, lt, w.count_places, same_len) in
    let on : choice_at (set places' job (Some (length phases' + 2))) job ≡ Some (n + 2) = get_or-set_same places' job (Some (length phases' + 2)) None in_places ∙ ap (λ x. Some (x + 2)) w.count in
    let wanted : phase_of (set phases' job Wanted) job ≡ Wanted = get_or-set_same phases' job Wanted Asleep in_phases in
    let is_two : is_on (n + 2) (Some (length phases' + 2)) ≡ true = is_on-same (n + 2) (length phases' + 2) (omega (arith, w.count)) in
    let not_ready : is_on n (Some (length phases' + 2)) ≡ false = is_on-other n (length phases' + 2) (λ e. absurd (omega (arith, w.count, e))) in
    record {
      count = length-set phases' job Wanted ∙ w.count;
      count_places = length-set places' job (Some (length phases' + 2)) ∙ w.count_places;
      each = λ other.
          ⊎_elim
          (λ (e : job ≡ other).
          let P : ℕ → Type 0 = λ x. ((phase_of (set phases' job Wanted) x ≡ phase_of phases x) × (choice_at (set places' job (Some (length phases' + 2))) x ≡ choice_at places x)) ⊎ (Contains (row ++ job ∷ []) x × (phase_of phases x ≡ Asleep) × (phase_of (set phases' job Wanted) x ≡ Wanted) × (choice_at (set places' job (Some (length phases' + 2))) x ≡ Some (n + 2))) in
          subst P e (inr (Contains-push row job, was.0, wanted, on)))
          (λ (ne : job ≡ other → ⊥).
          let p = get_or-set_other phases' job other Wanted Asleep (λ e. ne (sym e)) in
          let q = get_or-set_other places' job other (Some (length phases' + 2)) None (λ e. ne (sym e)) in
          ⊎_elim (λ (same : (phase_of phases' other ≡ phase_of phases other) × (choice_at places' other ≡ choice_at places other)). inl (p ∙ same.0, q ∙ same.1)) (λ (more : Contains row other × (phase_of phases other ≡ Asleep) × (phase_of phases' other ≡ Wanted) × (choice_at places' other ≡ Some (length phases + 2))). inr (Contains-append_left row (job ∷ []) other more.0, more.1, p ∙ more.2, q ∙ more.3)) (w.each other))
          (cases_eq job other);
      woken = λ other has.
          ⊎_elim
          (λ (e : job ≡ other). subst (λ x. phase_of (set phases' job Wanted) x ≢ Asleep) e (λ h. absurd (cc)))
          (λ (ne : job ≡ other → ⊥).
          ⊎_elim (λ (early : Contains row other). λ h. w.woken other early (sym (get_or-set_other phases' job other Wanted Asleep (λ e. ne (sym e))) ∙ h)) (λ (e : job ≡ other). absurd (ne e)) (Contains-push_cases row job other has))
          (cases_eq job other);
      ready = omega (arith, w.ready, count_by-set (is_on n) places' job (Some (length phases' + 2)) None in_places, ap (λ x. one_if (is_on n x)) was.1, ap one_if not_ready);
      out = omega (arith, w.out, count_by-set is_out phases' job Wanted Asleep in_phases, ap (λ x. one_if (is_out x)) asleep);
      left = omega (arith, w.left, count_by-set is_asleep phases' job Wanted Asleep in_phases, ap (λ x. one_if (is_asleep x)) asleep, count_by-set (is_on (n + 2)) places' job (Some (length phases' + 2)) None in_places, ap (λ x. one_if (is_on (n + 2) x)) was.1, ap one_if is_two);
    }

-- one more job of the row
pub WakesRow-more : (row : List ℕ) (i : ℕ) (phases : List Phase) (places : List (Option ℕ)) (phases₁ : List Phase) (places₁ : List (Option ℕ)) (phases₂ : List Phase) (places₂ : List (Option ℕ)) → WakesRow (take i row) phases places phases₁ places₁ → i < length row → get_or row i 0 < length phases → length places ≡ length phases → ((other : ℕ) → phase_of phases other ≡ Asleep → choice_at places other ≡ None) → ((phase_of phases₁ (get_or row i 0) ≢ Asleep) × (phases₂ ≡ phases₁) × (places₂ ≡ places₁)) ⊎ ((phase_of phases₁ (get_or row i 0) ≡ Asleep) × (phases₂ ≡ set phases₁ (get_or row i 0) Wanted) × (places₂ ≡ set places₁ (get_or row i 0) (Some (length phases₁ + 2)))) → WakesRow (take (i + 1) row) phases places phases₂ places₂
WakesRow-more row i phases places phases₁ places₁ phases₂ places₂ w lt in_range same_len free cases =
    let job = get_or row i 0 in
    let P : List ℕ → List Phase → List (Option ℕ) → Type 0 = λ r p q. WakesRow r phases places p q in
    let all = take_more row i 0 lt in
    ⊎_elim
    (λ (a : (phase_of phases₁ job ≢ Asleep) × (phases₂ ≡ phases₁) × (places₂ ≡ places₁)).
    subst (λ r. P r phases₂ places₂) (sym all) (subst (λ p. P (take i row ++ job ∷ []) p places₂) (sym a.1) (subst (λ q. P (take i row ++ job ∷ []) phases₁ q) (sym a.2) (WakesRow-awake (take i row) phases places phases₁ places₁ job w a.0))))
    (λ (a : (phase_of phases₁ job ≡ Asleep) × (phases₂ ≡ set phases₁ job Wanted) × (places₂ ≡ set places₁ job (Some (length phases₁ + 2)))).
    subst (λ r. P r phases₂ places₂) (sym all) (subst (λ p. P (take i row ++ job ∷ []) p places₂) (sym a.1) (subst (λ q. P (take i row ++ job ∷ []) (set phases₁ job Wanted) q) (sym a.2) (WakesRow-wake (take i row) phases places phases₁ places₁ job w in_range same_len free a.0))))
    cases

-- a wanted job that is on no pile stays so
pub kept_free : (row : List ℕ) (phases : List Phase) (places : List (Option ℕ)) (phases' : List Phase) (places' : List (Option ℕ)) (job : ℕ) → WakesRow row phases places phases' places' → phase_of phases job ≡ Wanted → choice_at places job ≡ None → choice_at places' job ≡ None
kept_free row phases places phases' places' job w wanted free = ⊎_elim (λ (same : (phase_of phases' job ≡ phase_of phases job) × (choice_at places' job ≡ choice_at places job)). same.1 ∙ free) (λ (more : Contains row job × (phase_of phases job ≡ Asleep) × (phase_of phases' job ≡ Wanted) × (choice_at places' job ≡ Some (length phases + 2))). absurd (let h = more.1 in cc)) (w.each job)

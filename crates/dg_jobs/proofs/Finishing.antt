use Rattle.std.proofs.Common.{◌≡◌, ◌≢◌, ◌+◌, ◌<◌, ℕ, zero, suc, List, [], ◌∷◌, length, get_or, refl, subst, inl, inr, arith}
use Rattle.dg_jobs.specs.declared.phase.Phase.{Phase}
use Rattle.dg_jobs.specs.declared.phase.Phase.TheVariants.{Asleep, Wanted, Out, Waits, Done}
use Rattle.dg_jobs.specs.Calls.{NoneOut, NoneReady}
use Rattle.dg_jobs.specs.Invariant.{NoReturn, Stays}
use Rattle.dg_jobs.specs.Jobs.{Jobs, phase_of, IsFinished}
use Rattle.dg_jobs.specs.Machine.{AreInputs, Chain, LeadsTo, Legal, Meanings, Event, State}
use Rattle.dg_jobs.proofs.BoardLaws.{is_job}
use Rattle.dg_jobs.proofs.Hanging.{Chain-join, stays_legal}
use Rattle.dg_jobs.proofs.Repeats.{two_with_one_value}

-- jobs on a walk, the last one first
record IsPath (inputs : List (List ℕ)) (phases : List Phase) (n : ℕ) (path : List ℕ) : Type 0 where
  in_range : (i : ℕ) → i < length path → get_or path i 0 < n
  linked : (i j : ℕ) → i < j → j < length path → (steps : ℕ) × Chain inputs phases (suc steps) (get_or path j 0) (get_or path i 0)

-- one job more
more_path : (inputs : List (List ℕ)) (phases : List Phase) (n : ℕ) (job next : ℕ) (path : List ℕ) → IsPath inputs phases n (job ∷ path) → LeadsTo inputs phases job next → next < n → IsPath inputs phases n (next ∷ (job ∷ path))
more_path inputs phases n job next path p leads lt = record { in_range = in_range'; linked = linked' }
  where
    in_range' : (i : ℕ) → i < length (next ∷ (job ∷ path)) → get_or (next ∷ (job ∷ path)) i 0 < n
    in_range' zero h = lt
    in_range' (suc i) h = p.in_range i (omega (arith, h))

    linked' : (i j : ℕ) → i < j → j < length (next ∷ (job ∷ path)) → (steps : ℕ) × Chain inputs phases (suc steps) (get_or (next ∷ (job ∷ path)) j 0) (get_or (next ∷ (job ∷ path)) i 0)
    linked' zero zero h k = absurd (omega (arith, h))
    linked' zero (suc zero) h k = (0, (next, leads, refl))
    linked' zero (suc (suc j)) h k =
        let before = p.linked 0 (suc j) (omega arith) (omega (arith, k)) in
        let e : suc before.0 + 1 ≡ suc (before.0 + 1) = omega arith in
        (before.0 + 1, subst (λ k. Chain inputs phases k (get_or path j 0) next) e (Chain-join inputs phases (suc before.0) 1 (get_or path j 0) job next before.1 (next, leads, refl)))
    linked' (suc i) zero h k = absurd (omega (arith, h))
    linked' (suc i) (suc j) h k = p.linked i j (omega (arith, h)) (omega (arith, k))

-- what holds of a job if it holds of those that it leads to, holds of each
along : (inputs : List (List ℕ)) (phases : List Phase) (n : ℕ) (P : ℕ → Type 0) → NoReturn inputs phases → ((job : ℕ) → job < n → ((next : ℕ) → LeadsTo inputs phases job next → next < n → P next) → P job) → (fuel job : ℕ) (path : List ℕ) → IsPath inputs phases n (job ∷ path) → length (job ∷ path) + fuel ≡ n + 1 → P job
along inputs phases n P no_return step zero job path p len =
    let found = two_with_one_value n (λ i. get_or (job ∷ path) i 0) (λ i le. p.in_range i (omega (arith, le, len))) in
    let walk = p.linked found.0 found.1 found.2 (omega (arith, found.3, len)) in
    absurd (no_return (get_or (job ∷ path) found.1 0) walk.0 (subst (λ x. Chain inputs phases (suc walk.0) (get_or (job ∷ path) found.1 0) x) found.4 walk.1))
along inputs phases n P no_return step (suc fuel) job path p len =
    step job (p.in_range 0 (omega arith)) (λ next leads lt. along inputs phases n P no_return step fuel next (job ∷ path) (more_path inputs phases n job next path p leads lt) (omega (arith, len)))

pub everywhere : (inputs : List (List ℕ)) (phases : List Phase) (n : ℕ) (P : ℕ → Type 0) → NoReturn inputs phases → ((job : ℕ) → job < n → ((next : ℕ) → LeadsTo inputs phases job next → next < n → P next) → P job) → (job : ℕ) → job < n → P job
everywhere inputs phases n P no_return step job lt = along inputs phases n P no_return step n job [] (record { in_range = one; linked = none }) (omega arith)
  where
    one : (i : ℕ) → i < length (job ∷ []) → get_or (job ∷ []) i 0 < n
    one zero h = lt
    one (suc i) h = absurd (omega (arith, h))

    none : (i j : ℕ) → i < j → j < length (job ∷ []) → (steps : ℕ) × Chain inputs phases (suc steps) (get_or (job ∷ []) j 0) (get_or (job ∷ []) i 0)
    none i j h k = absurd (omega (arith, h, k))

-- where nothing is ready or handed out, all that isn't asleep is finished
pub all_finished : {R : Type 0} (inputs : List (List ℕ)) (jobs : Jobs R) → AreInputs inputs → Stays inputs jobs.inputs jobs.phases → NoneReady jobs → NoneOut jobs → (job : ℕ) → phase_of jobs.phases job ≢ Asleep → IsFinished jobs.phases job
all_finished {R} inputs jobs are st none_ready none_out job awake =
    everywhere jobs.inputs jobs.phases (length jobs.phases) (λ x. phase_of jobs.phases x ≢ Asleep → IsFinished jobs.phases x) st.no_return (λ x lt next awake_x. by_phase x next awake_x (phase_of jobs.phases x) refl) job (is_job jobs.phases job awake) awake
  where
    by_phase : (x : ℕ) → ((y : ℕ) → LeadsTo jobs.inputs jobs.phases x y → y < length jobs.phases → phase_of jobs.phases y ≢ Asleep → IsFinished jobs.phases y) → phase_of jobs.phases x ≢ Asleep → (phase : Phase) → phase_of jobs.phases x ≡ phase → IsFinished jobs.phases x
    by_phase x next awake_x Asleep e = absurd (awake_x e)
    by_phase x next awake_x Wanted e = absurd (none_ready x (record { wanted = e; fed = λ input needs. let h = st.awake x input awake_x needs in next input (inl needs) (is_job jobs.phases input h) h }))
    by_phase x next awake_x Out e = absurd (none_out x e)
    by_phase x next awake_x (Waits other) e =
        let h = st.targets x other e in
        let f = next other (inr e) (is_job jobs.phases other h) h in
        (f.0, (suc f.1.0, (other, e, f.1.1)))
    by_phase x next awake_x Done e = (x, (0, (refl, e)))

pub nothing_left : {R C : Type 0} (m : Meanings R C) (events : List (Event R C)) (t : State R C) → AreInputs m.inputs → Legal m events t → NoneReady t.jobs → NoneOut t.jobs → (job : ℕ) → phase_of t.jobs.phases job ≢ Asleep → IsFinished t.jobs.phases job
nothing_left m events t are legal none_ready none_out job awake = all_finished m.inputs t.jobs are (stays_legal m events t are legal) none_ready none_out job awake

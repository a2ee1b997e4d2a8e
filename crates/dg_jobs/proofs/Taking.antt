use Rattle.std.proofs.Common.{◌≡◌, ◌≢◌, ◌+◌, ◌<◌, ◌≤◌, ◌⊎◌, ℕ, Bool, true, false, cond, List, [], ◌∷◌, length, set, refl, sym, ap, ◌∙◌, subst, inl, inr, ⊎_elim, arith}
use Rattle.std.proofs.lemmas.Bool.{cases_eq, eq-eqb, ne_eqb}
use Rattle.std.proofs.lemmas.List.{get_or-set_same, get_or-set_other}
use Rattle.std.proofs.lemmas.List.Sums.{sum_by-cons}
use Rattle.dg_jobs.specs.declared.phase.Phase.{Phase}
use Rattle.dg_jobs.specs.declared.phase.Phase.TheVariants.{Asleep, Wanted, Out, Waits, Done}
use Rattle.dg_jobs.specs.Jobs.{phase_of, Reaches, Wakes}
use Rattle.dg_jobs.specs.Machine.{Comes, Demand, Event, Fill, Finish, Forward, Legal, LegalFrom, MayCome, Meanings, PutBack, State, Take, is_put_back, is_take, put_backs_of, start, takes_of}
use Rattle.dg_jobs.proofs.BoardLaws.{is_job}

-- 1 where a job was taken and not put back since
abbrev pub held : Phase → ℕ
held Asleep = 0
held Wanted = 0
held Out = 1
held (Waits other) = 1
held Done = 1

held_le : (p : Phase) → held p ≤ 1
held_le Asleep = omega arith
held_le Wanted = omega arith
held_le Out = omega arith
held_le (Waits other) = omega arith
held_le Done = omega arith

-- what one event makes of the counts
abbrev pub Balances : {R C : Type 0} → Event R C → ℕ → List Phase → List Phase → Type 0
Balances event job before after = cond (is_take job event) 1 0 + held (phase_of before job) ≡ cond (is_put_back job event) 1 0 + held (phase_of after job)

held_at : (phases : List Phase) (job : ℕ) (phase : Phase) → phase_of phases job ≡ phase → held (phase_of phases job) ≡ held phase
held_at phases job phase e = ap held e

-- a change of one job's phase
set_held : (phases phases' : List Phase) (at job : ℕ) (phase : Phase) → phases' ≡ set phases at phase → at < length phases → ((at ≡ job) × (phase_of phases' job ≡ phase)) ⊎ ((at ≡ job → ⊥) × (phase_of phases' job ≡ phase_of phases job))
set_held phases phases' at job phase is lt =
    ⊎_elim
    (λ (e : at ≡ job). inl (e, ap (λ xs. phase_of xs job) is ∙ ap (λ x. phase_of (set phases at phase) x) (sym e) ∙ get_or-set_same phases at phase Asleep lt))
    (λ (ne : at ≡ job → ⊥). inr (ne, ap (λ xs. phase_of xs job) is ∙ get_or-set_other phases at job phase Asleep (λ e. ne (sym e))))
    (cases_eq at job)

wakes_held : (inputs : List (List ℕ)) (root : ℕ) (before after : List Phase) (job : ℕ) → Wakes inputs root before after → held (phase_of after job) ≡ held (phase_of before job)
wakes_held inputs root before after job w = ⊎_elim (λ (same : phase_of after job ≡ phase_of before job). ap held same) (λ (more : Reaches inputs root job × (phase_of before job ≡ Asleep) × (phase_of after job ≡ Wanted)). ap held more.2 ∙ sym (ap held more.1)) (w.each job)

one_when : {b : Bool} → b ≡ true → cond {A = ℕ} b 1 0 ≡ 1
one_when {b} e = subst (λ x. cond {A = ℕ} x 1 0 ≡ 1) (sym e) refl

none_when : {b : Bool} → b ≡ false → cond {A = ℕ} b 1 0 ≡ 0
none_when {b} e = subst (λ x. cond {A = ℕ} x 1 0 ≡ 0) (sym e) refl

-- a job that keeps or loses its hold by a change of phase
same_hold : (phases phases' : List Phase) (at job : ℕ) (old new : Phase) → phases' ≡ set phases at new → phase_of phases at ≡ old → old ≢ Asleep → held old ≡ held new → held (phase_of phases' job) ≡ held (phase_of phases job)
same_hold phases phases' at job old new is was awake same =
    ⊎_elim
    (λ (here : (at ≡ job) × (phase_of phases' job ≡ new)). ap held here.1 ∙ sym same ∙ sym (ap held (ap (λ x. phase_of phases x) (sym here.0) ∙ was)))
    (λ (other : (at ≡ job → ⊥) × (phase_of phases' job ≡ phase_of phases job)). ap held other.1)
    (set_held phases phases' at job new is (is_job phases at (λ e. awake (sym was ∙ e))))

balances : {R C : Type 0} (m : Meanings R C) (s t : State R C) (event : Event R C) (job : ℕ) → MayCome m s event → Comes m s event t → Balances event job s.jobs.phases t.jobs.phases
balances m s t (Demand at) job may comes = omega (arith, wakes_held s.jobs.inputs at s.jobs.phases t.jobs.phases job comes.0.phases)
balances m s t (Take at) job may comes =
    let is : t.jobs.phases ≡ set s.jobs.phases at Out = ap (λ x. x.phases) comes.0 in
    let was : phase_of s.jobs.phases at ≡ Wanted = may.wanted in
    ⊎_elim
    (λ (here : (at ≡ job) × (phase_of t.jobs.phases job ≡ Out)). omega (arith, one_when (eq-eqb at job here.0), ap held here.1, ap held (ap (λ x. phase_of s.jobs.phases x) (sym here.0) ∙ was)))
    (λ (other : (at ≡ job → ⊥) × (phase_of t.jobs.phases job ≡ phase_of s.jobs.phases job)). omega (arith, none_when (ne_eqb at job other.0), ap held other.1))
    (set_held s.jobs.phases t.jobs.phases at job Out is (is_job s.jobs.phases at (λ e. absurd (cc))))
balances m s t (Finish at result) job may comes = omega (arith, same_hold s.jobs.phases t.jobs.phases at job Out Done (ap (λ x. x.phases) comes.0) may (λ e. absurd (cc)) refl)
balances m s t (Forward at other) job may comes =
    omega (arith, wakes_held s.jobs.inputs other (set s.jobs.phases at (Waits other)) t.jobs.phases job comes.0.phases, same_hold s.jobs.phases (set s.jobs.phases at (Waits other)) at job Out (Waits other) refl may.0 (λ e. absurd (cc)) refl)
balances m s t (PutBack at) job may comes =
    let is : t.jobs.phases ≡ set s.jobs.phases at Wanted = ap (λ x. x.phases) comes.0 in
    let was : phase_of s.jobs.phases at ≡ Out = may in
    ⊎_elim
    (λ (here : (at ≡ job) × (phase_of t.jobs.phases job ≡ Wanted)). omega (arith, one_when (eq-eqb at job here.0), ap held here.1, ap held (ap (λ x. phase_of s.jobs.phases x) (sym here.0) ∙ was)))
    (λ (other : (at ≡ job → ⊥) × (phase_of t.jobs.phases job ≡ phase_of s.jobs.phases job)). omega (arith, none_when (ne_eqb at job other.0), ap held other.1))
    (set_held s.jobs.phases t.jobs.phases at job Wanted is (is_job s.jobs.phases at (λ e. absurd (cc))))
balances m s t (Fill cell) job may comes = omega (arith, ap (λ x. held (phase_of x.phases job)) comes.0)

-- takes and put-backs balance over a whole list
all_balance : {R C : Type 0} (m : Meanings R C) (job : ℕ) (events : List (Event R C)) (s t : State R C) → LegalFrom m s events t → takes_of events job + held (phase_of s.jobs.phases job) ≡ put_backs_of events job + held (phase_of t.jobs.phases job)
all_balance m job [] s t is = omega (arith, ap (λ x. held (phase_of x.jobs.phases job)) is)
all_balance m job (event ∷ events) s t run =
    omega (arith, all_balance m job events run.0 t run.3, balances m s run.0 event job run.1 run.2, sum_by-cons (λ e. cond (is_take job e) 1 0) event events, sum_by-cons (λ e. cond (is_put_back job e) 1 0) event events)

pub at_most_once_more : {R C : Type 0} (m : Meanings R C) (events : List (Event R C)) (t : State R C) → Legal m events t → (job : ℕ) → takes_of events job ≤ put_backs_of events job + 1
at_most_once_more m events t legal job = omega (arith, all_balance m job events (start m) t legal, held_le (phase_of t.jobs.phases job))

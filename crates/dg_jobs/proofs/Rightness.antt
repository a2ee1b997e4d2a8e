use Rattle.std.proofs.Common.{◌≡◌, ◌≢◌, ◌<◌, ◌≤◌, ◌⊎◌, ℕ, zero, suc, Option, Some, None, List, [], ◌∷◌, length, set, replicate, Contains, refl, sym, ap, ◌∙◌, subst, inl, inr, ⊎_elim, arith}
use Rattle.std.proofs.lemmas.Bool.{cases_lt}
use Rattle.std.proofs.lemmas.List.{get_or_past, get_or-set_same, get_or-set_other, length-replicate, length-set}
use Rattle.dg_jobs.specs.declared.phase.Phase.{Phase}
use Rattle.dg_jobs.specs.declared.phase.Phase.TheVariants.{Asleep, Wanted, Out, Waits, Done}
use Rattle.dg_jobs.specs.Faithful.{AreRight, Faithful, FaithfulFrom, FitTogether, GoesOn, IsFaithful, IsMade, IsUsed, MeaningWalk, ScopedFull, UsedAfter}
use Rattle.dg_jobs.specs.Invariant.{IsWanted, Keeps, Stays}
use Rattle.dg_jobs.specs.Jobs.{Jobs, inputs_of, phase_of, result_at, EndsAt, Follows, IsFinished, IsOut, Needs, Reaches, Wakes, Walk}
use Rattle.dg_jobs.specs.Machine.{AreInputs, Chain, Comes, Demand, Event, Fill, Finish, Forward, IsFull, LegalFrom, MayCome, Meanings, PutBack, State, Take, start}
use Rattle.dg_jobs.proofs.BoardLaws.{is_job}
use Rattle.dg_jobs.proofs.Finishing.{all_finished}
use Rattle.dg_jobs.proofs.Hanging.{all_asleep, set_cases, stays_legal, stays_next, wakes_waits}

-- what such a job uses is used
wanted_uses : {R C : Type 0} (m : Meanings R C) (job : ℕ) (cell : C) → IsWanted m job → Contains (m.uses job) cell → IsUsed m cell
wanted_uses {R} {C} m job cell wanted has =
    ⊎_elim
    (λ (lt : job < m.asks). (zero, (job, lt, has)))
    (λ (w : (from : C) × (m.job_of from ≡ Some job) × IsUsed m from). (suc w.2.0, (w.0, job, w.2.1, w.1, has)))
    wanted

-- and what it goes on to is such a job
wanted_on : {R C : Type 0} (m : Meanings R C) (job other : ℕ) → FitTogether m → job < length m.inputs → IsWanted m job → GoesOn m job other → IsWanted m other
wanted_on m job other fit lt wanted goes = let cell = fit.used job other lt goes in inr (cell.0, cell.2, wanted_uses m job cell.0 wanted cell.1)

has_inputs : (inputs : List (List ℕ)) (job other : ℕ) → Needs inputs job other → job < length inputs
has_inputs inputs job other needs =
    ⊎_elim
    (λ (lt : job < length inputs). lt)
    (λ (past : length inputs ≤ job). let none : inputs_of inputs job ≡ [] = get_or_past inputs job [] past in absurd (omega (arith, needs.1, ap length none)))
    (cases_lt job (length inputs))

wanted_reaches : {R C : Type 0} (m : Meanings R C) → FitTogether m → (steps job other : ℕ) → IsWanted m job → Walk m.inputs steps job other → IsWanted m other
wanted_reaches m fit zero job other wanted w = subst (λ x. IsWanted m x) w wanted
wanted_reaches m fit (suc steps) job other wanted w = wanted_reaches m fit steps w.0 other (wanted_on m job w.0 fit (has_inputs m.inputs job w.0 w.1) wanted (inl w.1)) w.2

-- a change to a phase that is neither done nor waits
keeps_set : {R C : Type 0} (m : Meanings R C) (phases phases' : List Phase) (results : List (Option R)) (full : List (C × R)) (at : ℕ) (phase : Phase) → Keeps m phases results full → phases' ≡ set phases at phase → phase_of phases at ≢ Asleep → phase ≢ Done → ((other : ℕ) → phase ≢ Waits other) → Keeps m phases' results full
keeps_set m phases phases' results full at phase k changed was not_done not_waits =
    let made : Keeps m (set phases at phase) results full = record {
      for_results = k.for_results ∙ sym (length-set phases at phase);
      done = λ job e. ⊎_elim (λ (here : (at ≡ job) × (phase_of (set phases at phase) job ≡ phase)). absurd (not_done (sym here.1 ∙ e))) (λ (o : (at ≡ job → ⊥) × (phase_of (set phases at phase) job ≡ phase_of phases job)). k.done job (sym o.1 ∙ e)) (set_cases phases at job phase was);
      waits = λ job other e. ⊎_elim (λ (here : (at ≡ job) × (phase_of (set phases at phase) job ≡ phase)). absurd (not_waits other (sym here.1 ∙ e))) (λ (o : (at ≡ job → ⊥) × (phase_of (set phases at phase) job ≡ phase_of phases job)). k.waits job other (sym o.1 ∙ e)) (set_cases phases at job phase was);
      full_is = k.full_is;
      wanted = λ job awake. ⊎_elim (λ (here : (at ≡ job) × (phase_of (set phases at phase) job ≡ phase)). subst (λ x. IsWanted m x) here.0 (k.wanted at was)) (λ (o : (at ≡ job → ⊥) × (phase_of (set phases at phase) job ≡ phase_of phases job)). k.wanted job (λ e. awake (o.1 ∙ e))) (set_cases phases at job phase was);
    } in
    subst (λ x. Keeps m x results full) (sym changed) made

-- a job is done
keeps_done : {R C : Type 0} (m : Meanings R C) (phases : List Phase) (results : List (Option R)) (full : List (C × R)) (at : ℕ) (result : R) → Keeps m phases results full → phase_of phases at ≡ Out → result ≡ m.meaning at → m.ends_in at ≡ None → ScopedFull m full at → Keeps m (set phases at Done) (set results at (Some result)) full
keeps_done m phases results full at result k out is ends scoped =
    let was : phase_of phases at ≢ Asleep = λ e. absurd (cc) in
    let lt : at < length results = omega (arith, is_job phases at was, k.for_results) in
    record {
      for_results = length-set results at (Some result) ∙ k.for_results ∙ sym (length-set phases at Done);
      done = λ job e.
          ⊎_elim
          (λ (here : (at ≡ job) × (phase_of (set phases at Done) job ≡ Done)).
          subst (λ x. (result_at (set results at (Some result)) x ≡ Some (m.meaning x)) × (m.ends_in x ≡ None) × ScopedFull m full x) here.0 (get_or-set_same results at (Some result) None lt ∙ ap (λ x. Some x) is, ends, scoped))
          (λ (o : (at ≡ job → ⊥) × (phase_of (set phases at Done) job ≡ phase_of phases job)).
          let before = k.done job (sym o.1 ∙ e) in
          (get_or-set_other results at job (Some result) None (λ e. o.0 (sym e)) ∙ before.0, before.1, before.2))
          (set_cases phases at job Done was);
      waits = λ job other e. ⊎_elim (λ (here : (at ≡ job) × (phase_of (set phases at Done) job ≡ Done)). absurd (let h = here.1 in cc)) (λ (o : (at ≡ job → ⊥) × (phase_of (set phases at Done) job ≡ phase_of phases job)). k.waits job other (sym o.1 ∙ e)) (set_cases phases at job Done was);
      full_is = k.full_is;
      wanted = λ job awake. ⊎_elim (λ (here : (at ≡ job) × (phase_of (set phases at Done) job ≡ Done)). subst (λ x. IsWanted m x) here.0 (k.wanted at was)) (λ (o : (at ≡ job → ⊥) × (phase_of (set phases at Done) job ≡ phase_of phases job)). k.wanted job (λ e. awake (o.1 ∙ e))) (set_cases phases at job Done was);
    }

-- a job waits on the one in whose content it ends
keeps_waits : {R C : Type 0} (m : Meanings R C) (phases : List Phase) (results : List (Option R)) (full : List (C × R)) (at to : ℕ) → Keeps m phases results full → phase_of phases at ≡ Out → m.ends_in at ≡ Some to → ScopedFull m full at → Keeps m (set phases at (Waits to)) results full
keeps_waits m phases results full at to k out ends scoped =
    let was : phase_of phases at ≢ Asleep = λ e. absurd (cc) in
    record {
      for_results = k.for_results ∙ sym (length-set phases at (Waits to));
      done = λ job e. ⊎_elim (λ (here : (at ≡ job) × (phase_of (set phases at (Waits to)) job ≡ Waits to)). absurd (let h = here.1 in cc)) (λ (o : (at ≡ job → ⊥) × (phase_of (set phases at (Waits to)) job ≡ phase_of phases job)). k.done job (sym o.1 ∙ e)) (set_cases phases at job (Waits to) was);
      waits = λ job other e.
          ⊎_elim
          (λ (here : (at ≡ job) × (phase_of (set phases at (Waits to)) job ≡ Waits to)).
          let same : to ≡ other = (let h = here.1 in cc) in
          subst (λ x. (m.ends_in x ≡ Some other) × ScopedFull m full x) here.0 (ends ∙ ap (λ x. Some x) same, scoped))
          (λ (o : (at ≡ job → ⊥) × (phase_of (set phases at (Waits to)) job ≡ phase_of phases job)). k.waits job other (sym o.1 ∙ e))
          (set_cases phases at job (Waits to) was);
      full_is = k.full_is;
      wanted = λ job awake. ⊎_elim (λ (here : (at ≡ job) × (phase_of (set phases at (Waits to)) job ≡ Waits to)). subst (λ x. IsWanted m x) here.0 (k.wanted at was)) (λ (o : (at ≡ job → ⊥) × (phase_of (set phases at (Waits to)) job ≡ phase_of phases job)). k.wanted job (λ e. awake (o.1 ∙ e))) (set_cases phases at job (Waits to) was);
    }

-- jobs are woken from one that is wanted
keeps_wake : {R C : Type 0} (m : Meanings R C) (root : ℕ) (before after : List Phase) (results : List (Option R)) (full : List (C × R)) → FitTogether m → Keeps m before results full → IsWanted m root → Wakes m.inputs root before after → Keeps m after results full
keeps_wake m root before after results full fit k wanted w = record {
  for_results = k.for_results ∙ sym w.count;
  done = λ job e. ⊎_elim (λ (same : phase_of after job ≡ phase_of before job). k.done job (sym same ∙ e)) (λ (more : Reaches m.inputs root job × (phase_of before job ≡ Asleep) × (phase_of after job ≡ Wanted)). absurd (let h = more.2 in cc)) (w.each job);
  waits = λ job other e. k.waits job other (wakes_waits m.inputs root before after w job other e);
  full_is = k.full_is;
  wanted = λ job awake. ⊎_elim (λ (same : phase_of after job ≡ phase_of before job). k.wanted job (λ e. awake (same ∙ e))) (λ (more : Reaches m.inputs root job × (phase_of before job ≡ Asleep) × (phase_of after job ≡ Wanted)). wanted_reaches m fit more.0.0 root job wanted more.0.1) (w.each job);
}

-- a full cell more
more_full : {R C : Type 0} (full : List (C × R)) (new : C × R) (cell : C) (kept : R) → Contains full (cell, kept) → Contains (new ∷ full) (cell, kept)
more_full full new cell kept has = (suc has.0, omega (arith, has.1), has.2)

full_cases : {R C : Type 0} (full : List (C × R)) (new old : C × R) → Contains (new ∷ full) old → (new ≡ old) ⊎ Contains full old
full_cases full new old (zero, lt, is) = inl is
full_cases full new old (suc i, lt, is) = inr (i, omega (arith, lt), is)

keeps_fill : {R C : Type 0} (m : Meanings R C) (phases : List Phase) (results : List (Option R)) (full : List (C × R)) (cell : C) → Keeps m phases results full → IsUsed m cell → Keeps m phases results ((cell, m.content cell) ∷ full)
keeps_fill {R} {C} m phases results full cell k used =
    let more : (job : ℕ) → ScopedFull m full job → ScopedFull m ((cell, m.content cell) ∷ full) job = λ job scoped c has none. (let h = scoped c has none in (h.0, more_full full (cell, m.content cell) c h.0 h.1)) in
    record {
      for_results = k.for_results;
      done = λ job e. (let d = k.done job e in (d.0, d.1, more job d.2));
      waits = λ job other e. (let d = k.waits job other e in (d.0, more job d.1));
      full_is = λ c kept has. ⊎_elim (λ (e : (cell, m.content cell) ≡ (c, kept)). subst (λ (p : C × R). (p.1 ≡ m.content p.0) × IsUsed m p.0) e (refl, used)) (λ (old : Contains full (c, kept)). k.full_is c kept old) (full_cases full (cell, m.content cell) (c, kept) has);
      wanted = k.wanted;
    }

-- each kind of event
pub keeps_next : {R C : Type 0} (m : Meanings R C) (s t : State R C) (event : Event R C) → FitTogether m → s.jobs.inputs ≡ m.inputs → length s.jobs.phases ≡ length m.inputs → MayCome m s event → IsFaithful m s event → Comes m s event t → Keeps m s.jobs.phases s.jobs.results s.full → Keeps m t.jobs.phases t.jobs.results t.full
keeps_next {R} {C} m s t (Demand at) fit inputs count may faithful comes k =
    let w : Wakes m.inputs at s.jobs.phases t.jobs.phases = subst (λ x. Wakes x at s.jobs.phases t.jobs.phases) inputs comes.0.phases in
    let made : Keeps m t.jobs.phases s.jobs.results s.full = keeps_wake m at s.jobs.phases t.jobs.phases s.jobs.results s.full fit k (inl faithful) w in
    subst (λ (x : List (C × R)). Keeps m t.jobs.phases t.jobs.results x) (sym comes.1) (subst (λ (x : List (Option R)). Keeps m t.jobs.phases x s.full) (sym comes.0.results) made)
keeps_next {R} {C} m s t (Take at) fit inputs count may faithful comes k =
    let was = may.wanted in
    let made : Keeps m t.jobs.phases s.jobs.results s.full = keeps_set m s.jobs.phases t.jobs.phases s.jobs.results s.full at Out k (ap (λ x. x.phases) comes.0) (λ e. absurd (cc)) (λ e. absurd (cc)) (λ o e. absurd (cc)) in
    subst (λ (x : List (C × R)). Keeps m t.jobs.phases t.jobs.results x) (sym comes.1) (subst (λ (x : List (Option R)). Keeps m t.jobs.phases x s.full) (ap (λ x. x.results) (sym comes.0)) made)
keeps_next {R} {C} m s t (Finish at result) fit inputs count may faithful comes k =
    subst (λ (x : List (C × R)). Keeps m t.jobs.phases t.jobs.results x) (sym comes.1) (subst (λ (x : Jobs R). Keeps m x.phases x.results s.full) (sym comes.0) (keeps_done m s.jobs.phases s.jobs.results s.full at result k may faithful.0 faithful.1 faithful.2))
keeps_next {R} {C} m s t (Forward at to) fit inputs count may faithful comes k =
    let w : Wakes m.inputs to (set s.jobs.phases at (Waits to)) t.jobs.phases = subst (λ x. Wakes x to (set s.jobs.phases at (Waits to)) t.jobs.phases) inputs comes.0.phases in
    let out : phase_of s.jobs.phases at ≡ Out = may.0 in
    let awake : phase_of s.jobs.phases at ≢ Asleep = λ e. absurd (cc) in
    let lt : at < length m.inputs = omega (arith, is_job s.jobs.phases at awake, count) in
    let wanted_to : IsWanted m to = wanted_on m at to fit lt (k.wanted at awake) (inr faithful.0) in
    let made : Keeps m t.jobs.phases s.jobs.results s.full = keeps_wake m to (set s.jobs.phases at (Waits to)) t.jobs.phases s.jobs.results s.full fit (keeps_waits m s.jobs.phases s.jobs.results s.full at to k out faithful.0 faithful.1) wanted_to w in
    subst (λ (x : List (C × R)). Keeps m t.jobs.phases t.jobs.results x) (sym comes.1) (subst (λ (x : List (Option R)). Keeps m t.jobs.phases x s.full) (sym comes.0.results) made)
keeps_next {R} {C} m s t (PutBack at) fit inputs count may faithful comes k =
    let was : phase_of s.jobs.phases at ≡ Out = may in
    let made : Keeps m t.jobs.phases s.jobs.results s.full = keeps_set m s.jobs.phases t.jobs.phases s.jobs.results s.full at Wanted k (ap (λ x. x.phases) comes.0) (λ e. absurd (cc)) (λ e. absurd (cc)) (λ o e. absurd (cc)) in
    subst (λ (x : List (C × R)). Keeps m t.jobs.phases t.jobs.results x) (sym comes.1) (subst (λ (x : List (Option R)). Keeps m t.jobs.phases x s.full) (ap (λ x. x.results) (sym comes.0)) made)
keeps_next {R} {C} m s t (Fill cell) fit inputs count may faithful comes k =
    let job = may.2.0 in
    let awake : phase_of s.jobs.phases job ≢ Asleep = λ e. ⊎_elim (λ (out : IsOut s.jobs.phases job). absurd (cc)) (λ (finished : IsFinished s.jobs.phases job). finished_awake s.jobs.phases finished.1.0 job finished.0 finished.1.1 e) may.2.1 in
    let used : IsUsed m cell = wanted_uses m job cell (k.wanted job awake) may.2.2 in
    subst (λ (x : List (C × R)). Keeps m t.jobs.phases t.jobs.results x) (sym comes.1) (subst (λ (x : Jobs R). Keeps m x.phases x.results ((cell, m.content cell) ∷ s.full)) (sym comes.0) (keeps_fill m s.jobs.phases s.jobs.results s.full cell k used))
  where
    finished_awake : (phases : List Phase) (steps job last : ℕ) → Follows phases steps job last → phase_of phases job ≡ Asleep → ⊥
    finished_awake phases zero job last f e = absurd (let h = f.1 in cc)
    finished_awake phases (suc steps) job last f e = absurd (let h = f.1 in cc)

-- a faithful list is legal
pub legal_faithful : {R C : Type 0} (m : Meanings R C) (events : List (Event R C)) (s t : State R C) → FaithfulFrom m s events t → LegalFrom m s events t
legal_faithful m [] s t is = is
legal_faithful m (event ∷ events) s t run = (run.0, run.1, run.3, legal_faithful m events run.0 t run.4)

keeps_from : {R C : Type 0} (m : Meanings R C) (events : List (Event R C)) (s t : State R C) → FitTogether m → Stays m.inputs s.jobs.inputs s.jobs.phases → FaithfulFrom m s events t → Keeps m s.jobs.phases s.jobs.results s.full → Keeps m t.jobs.phases t.jobs.results t.full
keeps_from {R} {C} m [] s t fit st is k = subst (λ (x : State R C). Keeps m x.jobs.phases x.jobs.results x.full) (sym is) k
keeps_from m (event ∷ events) s t fit st run k =
    keeps_from m events run.0 t fit (stays_next m s run.0 event run.1 run.3 st) run.4 (keeps_next m s run.0 event fit st.same (st.count ∙ ap length st.same) run.1 run.2 run.3 k)

-- inputs of a document are inputs without a walk that returns
are_inputs : {R C : Type 0} (m : Meanings R C) → FitTogether m → AreInputs m.inputs
are_inputs m fit = record { in_range = fit.in_range; no_return = λ job steps w. fit.no_return job steps (walk (suc steps) job job w) }
  where
    walk : (steps job other : ℕ) → Chain m.inputs [] steps job other → MeaningWalk m steps job other
    walk zero job other w = w
    walk (suc steps) job other w = (w.0, ⊎_elim (λ (n : Needs m.inputs job w.0). inl n) (λ (f : phase_of [] job ≡ Waits w.0). absurd (cc)) w.1, walk steps w.0 other w.2)

-- the meaning of a job is that of its end
meaning_at : {R C : Type 0} (m : Meanings R C) (phases : List Phase) (results : List (Option R)) (full : List (C × R)) → FitTogether m → length phases ≡ length m.inputs → Keeps m phases results full → (steps job last : ℕ) → Follows phases steps job last → result_at results last ≡ Some (m.meaning job)
meaning_at m phases results full fit count k zero job last f = subst (λ x. result_at results x ≡ Some (m.meaning job)) f.0 (k.done job f.1).0
meaning_at m phases results full fit count k (suc steps) job last f =
    let w = k.waits job f.0 f.1 in
    let d = f.1 in
    let lt : job < length m.inputs = omega (arith, is_job phases job (λ e. absurd (cc)), count) in
    meaning_at m phases results full fit count k steps f.0 last f.2 ∙ ap (λ x. Some x) (sym (fit.same_meaning job f.0 lt w.0))

-- a cell that is used is used by a job that isn't asleep, where all asks are awake and nothing is left
record IsUser {R C : Type 0} (m : Meanings R C) (phases : List Phase) (cell : C) : Type 0 where
  job : ℕ
  uses : Contains (m.uses job) cell
  awake : phase_of phases job ≢ Asleep

next_awake : {R C : Type 0} (m : Meanings R C) (phases : List Phase) (results : List (Option R)) (full : List (C × R)) → Keeps m phases results full → Stays m.inputs m.inputs phases → (job other : ℕ) → IsFinished phases job → phase_of phases job ≢ Asleep → GoesOn m job other → phase_of phases other ≢ Asleep
next_awake m phases results full k st job other finished awake goes =
    ⊎_elim
    (λ (n : Needs m.inputs job other). st.awake job other awake n)
    (λ (ends : m.ends_in job ≡ Some other). by_steps finished.1.0 finished.0 finished.1.1 ends)
    goes
  where
    by_steps : (steps last : ℕ) → Follows phases steps job last → m.ends_in job ≡ Some other → phase_of phases other ≢ Asleep
    by_steps zero last f ends = absurd (let h = (k.done job f.1).1 in cc)
    by_steps (suc steps) last f ends =
        let h = (k.waits job f.0 f.1).0 in
        let same : f.0 ≡ other = cc in
        subst (λ x. phase_of phases x ≢ Asleep) same (st.targets job f.0 f.1)

user_of : {R C : Type 0} (m : Meanings R C) (phases : List Phase) (results : List (Option R)) (full : List (C × R)) → FitTogether m → Keeps m phases results full → Stays m.inputs m.inputs phases → ((job : ℕ) → phase_of phases job ≢ Asleep → IsFinished phases job) → ((ask : ℕ) → ask < m.asks → phase_of phases ask ≢ Asleep) → (steps : ℕ) (cell : C) → UsedAfter m steps cell → IsUser m phases cell
user_of m phases results full fit k st finished asks zero cell u = record { job = u.0; uses = u.2; awake = asks u.0 u.1 }
user_of m phases results full fit k st finished asks (suc steps) cell u =
    let from = user_of m phases results full fit k st finished asks steps u.0 u.2 in
    let lt : from.job < length m.inputs = omega (arith, is_job phases from.job from.awake, st.count) in
    let goes = fit.only_used from.job u.1 u.0 lt from.uses u.3 in
    record { job = u.1; uses = u.4; awake = next_awake m phases results full k st from.job u.1 (finished from.job from.awake) from.awake goes }

-- a finished job's scoped cells are full
scoped_full : {R C : Type 0} (m : Meanings R C) (phases : List Phase) (results : List (Option R)) (full : List (C × R)) → Keeps m phases results full → (job : ℕ) → IsFinished phases job → ScopedFull m full job
scoped_full {R} {C} m phases results full k job finished = by_steps finished.1.0 finished.0 finished.1.1
  where
    by_steps : (steps last : ℕ) → Follows phases steps job last → ScopedFull m full job
    by_steps zero last f = (k.done job f.1).2
    by_steps (suc steps) last f = (k.waits job f.0 f.1).1

finished_isnt_asleep : (phases : List Phase) (job : ℕ) → IsFinished phases job → phase_of phases job ≢ Asleep
finished_isnt_asleep phases job finished e = by_steps finished.1.0 finished.0 finished.1.1
  where
    by_steps : (steps last : ℕ) → Follows phases steps job last → ⊥
    by_steps zero last f = absurd (let h = f.1 in cc)
    by_steps (suc steps) last f = absurd (let h = f.1 in cc)

pub all_right : {R C : Type 0} (m : Meanings R C) (events : List (Event R C)) (t : State R C) → FitTogether m → Faithful m events t → AreRight m t
all_right {R} {C} m events t fit faithful =
    let n = length m.inputs in
    let phases = t.jobs.phases in
    let st : Stays m.inputs t.jobs.inputs phases = stays_legal m events t (are_inputs m fit) (legal_faithful m events (start m) t faithful) in
    let st' : Stays m.inputs m.inputs phases = subst (λ x. Stays m.inputs x phases) st.same st in
    let first : Stays m.inputs m.inputs (replicate n Asleep) = stays_legal m [] (start m) (are_inputs m fit) refl in
    let k : Keeps m phases t.jobs.results t.full = keeps_from m events (start m) t fit first faithful (record {
      for_results = length-replicate {A = Option R} n None ∙ sym (length-replicate n Asleep);
      done = λ job e. absurd (let h = all_asleep n job in cc);
      waits = λ job other e. absurd (let h = all_asleep n job in cc);
      full_is = λ cell kept has. absurd (omega (arith, has.1));
      wanted = λ job awake. absurd (awake (all_asleep n job));
    }) in
    let count : length phases ≡ n = st'.count in
    let results : (job last : ℕ) → EndsAt phases job last → result_at t.jobs.results last ≡ Some (m.meaning job) = λ job last ends. meaning_at m phases t.jobs.results t.full fit count k ends.0 job last ends.1 in
    let cell_of : (job : ℕ) → m.asks ≤ job → phase_of phases job ≢ Asleep → (cell : C) × (m.job_of cell ≡ Some job) × IsUsed m cell = λ job le awake. ⊎_elim (λ (lt : job < m.asks). absurd (omega (arith, le, lt))) (λ (w : (cell : C) × (m.job_of cell ≡ Some job) × IsUsed m cell). w) (k.wanted job awake) in
    record {
      results = results;
      contents = λ job last cell is ends. results job last ends ∙ ap (λ x. Some x) (fit.content cell job is).2;
      full = λ cell kept has. (let h = k.full_is cell kept has in (h.0, (fit.least cell).1 h.1));
      needed = λ job le awake. (let h = cell_of job le awake in (h.0, h.1, (fit.least h.0).1 h.2));
      exact = λ none_ready none_out asks cell.
          let finished : (job : ℕ) → phase_of phases job ≢ Asleep → IsFinished phases job = all_finished m.inputs t.jobs (are_inputs m fit) st none_ready none_out in (
            λ has. made k st' finished asks cell ((fit.least cell).0 has),
            λ is_made. (fit.least cell).1 (used k cell cell_of is_made),
          );
    }
  where
    made : Keeps m t.jobs.phases t.jobs.results t.full → Stays m.inputs m.inputs t.jobs.phases → ((job : ℕ) → phase_of t.jobs.phases job ≢ Asleep → IsFinished t.jobs.phases job) → ((ask : ℕ) → ask < m.asks → phase_of t.jobs.phases ask ≢ Asleep) → (cell : C) → IsUsed m cell → IsMade m t cell
    made k st finished asks cell u =
        let user = user_of m t.jobs.phases t.jobs.results t.full fit k st finished asks u.0 cell u.1 in
        let lt : user.job < length m.inputs = omega (arith, is_job t.jobs.phases user.job user.awake, st.count) in
        by_kind k st finished cell user lt (m.job_of cell) refl
      where
        by_kind : Keeps m t.jobs.phases t.jobs.results t.full → Stays m.inputs m.inputs t.jobs.phases → ((job : ℕ) → phase_of t.jobs.phases job ≢ Asleep → IsFinished t.jobs.phases job) → (cell : C) (user : IsUser m t.jobs.phases cell) → user.job < length m.inputs → (kind : Option ℕ) → m.job_of cell ≡ kind → IsMade m t cell
        by_kind k st finished cell user lt None e = inl (scoped_full m t.jobs.phases t.jobs.results t.full k user.job (finished user.job user.awake) cell user.uses e)
        by_kind k st finished cell user lt (Some job) e =
            let awake = next_awake m t.jobs.phases t.jobs.results t.full k st user.job job (finished user.job user.awake) user.awake (fit.only_used user.job job cell lt user.uses e) in
            inr (job, e, finished job awake)

    used : Keeps m t.jobs.phases t.jobs.results t.full → (cell : C) → ((job : ℕ) → m.asks ≤ job → phase_of t.jobs.phases job ≢ Asleep → (cell : C) × (m.job_of cell ≡ Some job) × IsUsed m cell) → IsMade m t cell → IsUsed m cell
    used k cell cell_of is_made =
        ⊎_elim
        (λ (f : IsFull t.full cell). (k.full_is cell f.0 f.1).1)
        (λ (p : (job : ℕ) × (m.job_of cell ≡ Some job) × IsFinished t.jobs.phases job).
        let h = cell_of p.0 (fit.content cell p.0 p.1).0 (finished_isnt_asleep t.jobs.phases p.0 p.2) in
        subst (λ x. IsUsed m x) (fit.one_cell h.0 cell p.0 h.1 p.1) h.2)
        is_made

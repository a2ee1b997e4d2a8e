use Rattle.std.proofs.Common.{◌≡◌, ◌≢◌, ◌+◌, ◌<◌, ◌⊎◌, ℕ, zero, suc, List, [], ◌∷◌, length, set, replicate, refl, sym, ap, ◌∙◌, subst, inl, inr, ⊎_elim, arith}
use Rattle.std.proofs.lemmas.Bool.{cases_eq, cases_lt}
use Rattle.std.proofs.lemmas.List.{get_or_past, get_or-replicate, get_or-set_same, get_or-set_other, length-replicate, length-set}
use Rattle.dg_jobs.specs.declared.phase.Phase.{Phase}
use Rattle.dg_jobs.specs.declared.phase.Phase.TheVariants.{Asleep, Wanted, Out, Waits, Done}
use Rattle.dg_jobs.specs.Jobs.{Jobs, phase_of, IsFinished, Needs, Reaches, Wakes}
use Rattle.dg_jobs.specs.Invariant.{InputsAwake, InputsFinished, NoReturn, Stays}
use Rattle.dg_jobs.specs.Machine.{AreInputs, Chain, Comes, Demand, Event, Fill, Finish, Forward, LeadsTo, Legal, LegalFrom, MayCome, Meanings, PutBack, State, Take, start}
use Rattle.dg_jobs.proofs.BoardLaws.{is_job, EndsAt-keeps}
use Rattle.dg_jobs.proofs.Demanding.{Reaches-more}
use Rattle.dg_jobs.proofs.Filing.{awake-set}

-- a walk stays one where its forwards do
Chain-keeps : (inputs : List (List ℕ)) (phases phases' : List Phase) → ((job other : ℕ) → phase_of phases job ≡ Waits other → phase_of phases' job ≡ Waits other) → (steps job other : ℕ) → Chain inputs phases steps job other → Chain inputs phases' steps job other
Chain-keeps inputs phases phases' keeps zero job other w = w
Chain-keeps inputs phases phases' keeps (suc steps) job other w = (w.0, ⊎_elim (λ (n : Needs inputs job w.0). inl n) (λ (f : phase_of phases job ≡ Waits w.0). inr (keeps job w.0 f)) w.1, Chain-keeps inputs phases phases' keeps steps w.0 other w.2)

-- a walk after another
pub Chain-join : (inputs : List (List ℕ)) (phases : List Phase) (steps more job middle last : ℕ) → Chain inputs phases steps job middle → Chain inputs phases more middle last → Chain inputs phases (steps + more) job last
Chain-join inputs phases zero more job middle last w v =
    subst (λ n. Chain inputs phases n job last) (sym zero_more) (subst (λ x. Chain inputs phases more x last) (sym w) v)
  where
    zero_more : 0 + more ≡ more
    zero_more = omega arith
Chain-join inputs phases (suc steps) more job middle last w v = subst (λ n. Chain inputs phases n job last) more_one (one w.0 w.1 (Chain-join inputs phases steps more w.0 middle last w.2 v))
  where
    one : (next : ℕ) → LeadsTo inputs phases job next → Chain inputs phases (steps + more) next last → Chain inputs phases (suc (steps + more)) job last
    one next leads rest = (next, leads, rest)

    more_one : suc (steps + more) ≡ suc steps + more
    more_one = omega arith

-- what a change of one phase does to another job's
pub set_cases : (phases : List Phase) (at job : ℕ) (phase : Phase) → phase_of phases at ≢ Asleep → ((at ≡ job) × (phase_of (set phases at phase) job ≡ phase)) ⊎ ((at ≡ job → ⊥) × (phase_of (set phases at phase) job ≡ phase_of phases job))
set_cases phases at job phase awake =
    ⊎_elim
    (λ (e : at ≡ job). inl (e, ap (λ x. phase_of (set phases at phase) x) (sym e) ∙ get_or-set_same phases at phase Asleep (is_job phases at awake)))
    (λ (ne : at ≡ job → ⊥). inr (ne, get_or-set_other phases at job phase Asleep (λ e. ne (sym e))))
    (cases_eq at job)

set_mono : (phases : List Phase) (at : ℕ) (phase : Phase) → phase_of phases at ≢ Asleep → phase ≢ Asleep → (job : ℕ) → phase_of phases job ≢ Asleep → phase_of (set phases at phase) job ≢ Asleep
set_mono phases at phase was is job awake asleep = ⊎_elim (λ (here : (at ≡ job) × (phase_of (set phases at phase) job ≡ phase)). is (sym here.1 ∙ asleep)) (λ (other : (at ≡ job → ⊥) × (phase_of (set phases at phase) job ≡ phase_of phases job)). awake (sym other.1 ∙ asleep)) (set_cases phases at job phase was)

-- a change between two phases in which a job doesn't wait
stays_set : (inputs jobs : List (List ℕ)) (phases phases' : List Phase) (at : ℕ) (phase : Phase) → Stays inputs jobs phases → phases' ≡ set phases at phase → phase_of phases at ≢ Asleep → phase ≢ Asleep → ((other : ℕ) → phase ≢ Waits other) → Stays inputs jobs phases'
stays_set inputs jobs phases phases' at phase s changed was is waits_not =
    let waits_back : (job other : ℕ) → phase_of (set phases at phase) job ≡ Waits other → phase_of phases job ≡ Waits other = λ job other e. ⊎_elim (λ (here : (at ≡ job) × (phase_of (set phases at phase) job ≡ phase)). absurd (waits_not other (sym here.1 ∙ e))) (λ (o : (at ≡ job → ⊥) × (phase_of (set phases at phase) job ≡ phase_of phases job)). sym o.1 ∙ e) (set_cases phases at job phase was) in
    let made : Stays inputs jobs (set phases at phase) = record {
      same = s.same;
      count = length-set phases at phase ∙ s.count;
      awake = awake-set jobs phases at phase was is s.awake;
      targets = λ job other e. set_mono phases at phase was is other (s.targets job other (waits_back job other e));
      no_return = λ job steps w. s.no_return job steps (Chain-keeps jobs (set phases at phase) phases waits_back (suc steps) job job w);
    } in
    subst (λ x. Stays inputs jobs x) (sym changed) made

-- what a wake does
pub wakes_mono : (inputs : List (List ℕ)) (root : ℕ) (before after : List Phase) → Wakes inputs root before after → (job : ℕ) → phase_of before job ≢ Asleep → phase_of after job ≢ Asleep
wakes_mono inputs root before after w job awake asleep = ⊎_elim (λ (same : phase_of after job ≡ phase_of before job). awake (sym same ∙ asleep)) (λ (more : Reaches inputs root job × (phase_of before job ≡ Asleep) × (phase_of after job ≡ Wanted)). absurd (let h = more.2 in cc)) (w.each job)

pub wakes_waits : (inputs : List (List ℕ)) (root : ℕ) (before after : List Phase) → Wakes inputs root before after → (job other : ℕ) → phase_of after job ≡ Waits other → phase_of before job ≡ Waits other
wakes_waits inputs root before after w job other e = ⊎_elim (λ (same : phase_of after job ≡ phase_of before job). sym same ∙ e) (λ (more : Reaches inputs root job × (phase_of before job ≡ Asleep) × (phase_of after job ≡ Wanted)). absurd (let h = more.2 in cc)) (w.each job)

wakes_awake : (inputs : List (List ℕ)) (root : ℕ) (before after : List Phase) → Wakes inputs root before after → InputsAwake inputs before → InputsAwake inputs after
wakes_awake inputs root before after w awake job input awake_job needs = ⊎_elim (λ (same : phase_of after job ≡ phase_of before job). wakes_mono inputs root before after w input (awake job input (λ e. awake_job (same ∙ e)) needs)) (λ (more : Reaches inputs root job × (phase_of before job ≡ Asleep) × (phase_of after job ≡ Wanted)). w.woken input (Reaches-more inputs root job input more.0 needs)) (w.each job)

-- a demand
stays_wake : (inputs jobs : List (List ℕ)) (root : ℕ) (before after : List Phase) → Stays inputs jobs before → Wakes jobs root before after → Stays inputs jobs after
stays_wake inputs jobs root before after s w = record {
  same = s.same;
  count = w.count ∙ s.count;
  awake = wakes_awake jobs root before after w s.awake;
  targets = λ job other e. wakes_mono jobs root before after w other (s.targets job other (wakes_waits jobs root before after w job other e));
  no_return = λ job steps c. s.no_return job steps (Chain-keeps jobs after before (wakes_waits jobs root before after w) (suc steps) job job c);
}

-- a walk that may go through one forward more: it is one without it, or it comes to its start and goes on from
-- its end
split_walk : (inputs : List (List ℕ)) (phases : List Phase) (at to : ℕ) → phase_of phases at ≡ Out → (steps job last : ℕ) → Chain inputs (set phases at (Waits to)) steps job last → ((n : ℕ) × Chain inputs phases n job last) ⊎ (((n : ℕ) × Chain inputs phases n job at) × ((n : ℕ) × Chain inputs phases n to last))
split_walk inputs phases at to out zero job last w = inl (0, w)
split_walk inputs phases at to out (suc steps) job last w =
    let next = w.0 in
    let rest = split_walk inputs phases at to out steps next last w.2 in
    let awake : phase_of phases at ≢ Asleep = λ e. absurd (cc) in
    let old : LeadsTo inputs phases job next → ((n : ℕ) × Chain inputs phases n job last) ⊎ (((n : ℕ) × Chain inputs phases n job at) × ((n : ℕ) × Chain inputs phases n to last)) = λ leads. ⊎_elim (λ (a : (n : ℕ) × Chain inputs phases n next last). inl (suc a.0, (next, leads, a.1))) (λ (b : ((n : ℕ) × Chain inputs phases n next at) × ((n : ℕ) × Chain inputs phases n to last)). inr ((suc b.0.0, (next, leads, b.0.1)), b.1)) rest in
    ⊎_elim
    (λ (n : Needs inputs job next). old (inl n))
    (λ (f : phase_of (set phases at (Waits to)) job ≡ Waits next).
    ⊎_elim
    (λ (here : (at ≡ job) × (phase_of (set phases at (Waits to)) job ≡ Waits to)).
    let same : next ≡ to = (let g = here.1 in cc) in
    let start : (n : ℕ) × Chain inputs phases n job at = (0, sym here.0) in
    ⊎_elim
    (λ (a : (n : ℕ) × Chain inputs phases n next last). inr (start, subst (λ x. (n : ℕ) × Chain inputs phases n x last) same a))
    (λ (b : ((n : ℕ) × Chain inputs phases n next at) × ((n : ℕ) × Chain inputs phases n to last)). inr (start, b.1))
    rest)
    (λ (o : (at ≡ job → ⊥) × (phase_of (set phases at (Waits to)) job ≡ phase_of phases job)). old (inr (sym o.1 ∙ f)))
    (set_cases phases at job (Waits to) awake))
    w.1

-- a forward to a job from which no walk comes back
no_return_forward : (inputs : List (List ℕ)) (phases : List Phase) (at to : ℕ) → phase_of phases at ≡ Out → ((steps : ℕ) → Chain inputs phases steps to at → ⊥) → NoReturn inputs phases → NoReturn inputs (set phases at (Waits to))
no_return_forward inputs phases at to out none no_return job steps w =
    let next = w.0 in
    let awake : phase_of phases at ≢ Asleep = λ e. absurd (cc) in
    let rest = split_walk inputs phases at to out steps next job w.2 in
    let old : LeadsTo inputs phases job next → ⊥ = λ leads.
    ⊎_elim
    (λ (a : (n : ℕ) × Chain inputs phases n next job). no_return job a.0 (next, leads, a.1))
    (λ (b : ((n : ℕ) × Chain inputs phases n next at) × ((n : ℕ) × Chain inputs phases n to job)). none (b.1.0 + suc b.0.0) (Chain-join inputs phases b.1.0 (suc b.0.0) to job at b.1.1 (next, leads, b.0.1)))
    rest in
    ⊎_elim
    (λ (n : Needs inputs job next). old (inl n))
    (λ (f : phase_of (set phases at (Waits to)) job ≡ Waits next).
    ⊎_elim
    (λ (here : (at ≡ job) × (phase_of (set phases at (Waits to)) job ≡ Waits to)).
    let same : next ≡ to = (let g = here.1 in cc) in
    ⊎_elim
    (λ (a : (n : ℕ) × Chain inputs phases n next job). none a.0 (subst (λ x. Chain inputs phases a.0 to x) (sym here.0) (subst (λ x. Chain inputs phases a.0 x job) same a.1)))
    (λ (b : ((n : ℕ) × Chain inputs phases n next at) × ((n : ℕ) × Chain inputs phases n to job)). none b.1.0 (subst (λ x. Chain inputs phases b.1.0 to x) (sym here.0) b.1.1))
    rest)
    (λ (o : (at ≡ job → ⊥) × (phase_of (set phases at (Waits to)) job ≡ phase_of phases job)). old (inr (sym o.1 ∙ f)))
    (set_cases phases at job (Waits to) awake))
    w.1

stays_forward : (inputs jobs : List (List ℕ)) (at to : ℕ) (before after : List Phase) → Stays inputs jobs before → phase_of before at ≡ Out → ((steps : ℕ) → Chain jobs before steps to at → ⊥) → Wakes jobs to (set before at (Waits to)) after → Stays inputs jobs after
stays_forward inputs jobs at to before after s out none w =
    let middle = set before at (Waits to) in
    let awake : phase_of before at ≢ Asleep = λ e. absurd (cc) in
    let waits : Waits to ≢ Asleep = λ e. absurd (cc) in
    record {
      same = s.same;
      count = w.count ∙ length-set before at (Waits to) ∙ s.count;
      awake = wakes_awake jobs to middle after w (awake-set jobs before at (Waits to) awake waits s.awake);
      targets = λ job other e.
          let f : phase_of middle job ≡ Waits other = wakes_waits jobs to middle after w job other e in
          ⊎_elim
          (λ (here : (at ≡ job) × (phase_of middle job ≡ Waits to)).
          let same : to ≡ other = (let g = here.1 in cc) in
          w.woken other (0, same))
          (λ (o : (at ≡ job → ⊥) × (phase_of middle job ≡ phase_of before job)). wakes_mono jobs to middle after w other (set_mono before at (Waits to) awake waits other (s.targets job other (sym o.1 ∙ f))))
          (set_cases before at job (Waits to) awake);
      no_return = λ job steps c. no_return_forward jobs before at to out none s.no_return job steps (Chain-keeps jobs after middle (wakes_waits jobs to middle after w) (suc steps) job job c);
    }

-- each kind of event
pub stays_next : {R C : Type 0} (m : Meanings R C) (s t : State R C) (event : Event R C) → MayCome m s event → Comes m s event t → Stays m.inputs s.jobs.inputs s.jobs.phases → Stays m.inputs t.jobs.inputs t.jobs.phases
stays_next m s t (Demand at) may comes st = subst (λ x. Stays m.inputs x t.jobs.phases) (sym comes.0.inputs) (stays_wake m.inputs s.jobs.inputs at s.jobs.phases t.jobs.phases st comes.0.phases)
stays_next m s t (Take at) may comes st = let was = may.wanted in subst (λ x. Stays m.inputs x t.jobs.phases) (ap (λ x. x.inputs) (sym comes.0)) (stays_set m.inputs s.jobs.inputs s.jobs.phases t.jobs.phases at Out st (ap (λ x. x.phases) comes.0) (λ e. absurd (cc)) (λ e. absurd (cc)) (λ o e. absurd (cc)))
stays_next m s t (Finish at result) may comes st = subst (λ x. Stays m.inputs x t.jobs.phases) (ap (λ x. x.inputs) (sym comes.0)) (stays_set m.inputs s.jobs.inputs s.jobs.phases t.jobs.phases at Done st (ap (λ x. x.phases) comes.0) (λ e. absurd (cc)) (λ e. absurd (cc)) (λ o e. absurd (cc)))
stays_next m s t (Forward at to) may comes st = subst (λ x. Stays m.inputs x t.jobs.phases) (sym comes.0.inputs) (stays_forward m.inputs s.jobs.inputs at to s.jobs.phases t.jobs.phases st may.0 may.3 comes.0.phases)
stays_next m s t (PutBack at) may comes st = subst (λ x. Stays m.inputs x t.jobs.phases) (ap (λ x. x.inputs) (sym comes.0)) (stays_set m.inputs s.jobs.inputs s.jobs.phases t.jobs.phases at Wanted st (ap (λ x. x.phases) comes.0) (λ e. absurd (cc)) (λ e. absurd (cc)) (λ o e. absurd (cc)))
stays_next m s t (Fill cell) may comes st = subst (λ x. Stays m.inputs x.inputs x.phases) (sym comes.0) st

stays_from : {R C : Type 0} (m : Meanings R C) (events : List (Event R C)) (s t : State R C) → LegalFrom m s events t → Stays m.inputs s.jobs.inputs s.jobs.phases → Stays m.inputs t.jobs.inputs t.jobs.phases
stays_from m [] s t is st = subst (λ x. Stays m.inputs x.jobs.inputs x.jobs.phases) (sym is) st
stays_from m (event ∷ events) s t run st = stays_from m events run.0 t run.3 (stays_next m s run.0 event run.1 run.2 st)

pub all_asleep : (n job : ℕ) → phase_of (replicate n Asleep) job ≡ Asleep
all_asleep n job = ⊎_elim (λ (lt : job < n). get_or-replicate n job Asleep Asleep lt) (λ past. get_or_past (replicate n Asleep) job Asleep (omega (arith, length-replicate n Asleep, past))) (cases_lt job n)

pub stays_legal : {R C : Type 0} (m : Meanings R C) (events : List (Event R C)) (t : State R C) → AreInputs m.inputs → Legal m events t → Stays m.inputs t.jobs.inputs t.jobs.phases
stays_legal m events t are legal =
    let n = length m.inputs in
    stays_from m events (start m) t legal (record {
      same = refl;
      count = length-replicate n Asleep;
      awake = λ job input awake needs. absurd (awake (all_asleep n job));
      targets = λ job other e. absurd (let h = all_asleep n job in cc);
      no_return = λ job steps w. are.no_return job steps (Chain-keeps m.inputs (replicate n Asleep) [] (λ a o e. absurd (let h = all_asleep n a in cc)) (suc steps) job job w);
    })

-- a job that is finished stays so
finished_keeps : (phases phases' : List Phase) → ((job : ℕ) → phase_of phases job ≡ Done → phase_of phases' job ≡ Done) → ((job other : ℕ) → phase_of phases job ≡ Waits other → phase_of phases' job ≡ Waits other) → (job : ℕ) → IsFinished phases job → IsFinished phases' job
finished_keeps phases phases' done waits job finished = (finished.0, EndsAt-keeps phases phases' done waits job finished.0 finished.1)

-- a change of a job that is neither done nor waits
fed_set : (inputs : List (List ℕ)) (phases : List Phase) (at : ℕ) (phase : Phase) → InputsFinished inputs phases → phase_of phases at ≢ Asleep → phase_of phases at ≢ Done → ((other : ℕ) → phase_of phases at ≢ Waits other) → (phase ≢ Wanted → (input : ℕ) → Needs inputs at input → IsFinished phases input) → InputsFinished inputs (set phases at phase)
fed_set inputs phases at phase fed was not_done not_waits here job input awake taken needs =
    let elsewhere : (x : ℕ) → (at ≡ x → ⊥) → phase_of (set phases at phase) x ≡ phase_of phases x = λ x ne. get_or-set_other phases at x phase Asleep (λ e. ne (sym e)) in
    let keeps : (x : ℕ) → IsFinished phases x → IsFinished (set phases at phase) x = finished_keeps phases (set phases at phase) (λ x done. elsewhere x (λ e. not_done (ap (λ y. phase_of phases y) e ∙ done)) ∙ done) (λ x o waits. elsewhere x (λ e. not_waits o (ap (λ y. phase_of phases y) e ∙ waits)) ∙ waits) in
    ⊎_elim
    (λ (h : (at ≡ job) × (phase_of (set phases at phase) job ≡ phase)). keeps input (here (λ e. taken (h.1 ∙ e)) input (subst (λ x. Needs inputs x input) (sym h.0) needs)))
    (λ (o : (at ≡ job → ⊥) × (phase_of (set phases at phase) job ≡ phase_of phases job)). keeps input (fed job input (λ e. awake (o.1 ∙ e)) (λ e. taken (o.1 ∙ e)) needs))
    (set_cases phases at job phase was)

fed_wake : (inputs : List (List ℕ)) (root : ℕ) (before after : List Phase) → InputsFinished inputs before → Wakes inputs root before after → InputsFinished inputs after
fed_wake inputs root before after fed w job input awake taken needs =
    let keeps : (x : ℕ) → IsFinished before x → IsFinished after x = finished_keeps before after (λ x done. ⊎_elim (λ (same : phase_of after x ≡ phase_of before x). same ∙ done) (λ (more : Reaches inputs root x × (phase_of before x ≡ Asleep) × (phase_of after x ≡ Wanted)). absurd (let h = more.1 in cc)) (w.each x)) (λ x o waits. ⊎_elim (λ (same : phase_of after x ≡ phase_of before x). same ∙ waits) (λ (more : Reaches inputs root x × (phase_of before x ≡ Asleep) × (phase_of after x ≡ Wanted)). absurd (let h = more.1 in cc)) (w.each x)) in
    ⊎_elim
    (λ (same : phase_of after job ≡ phase_of before job). keeps input (fed job input (λ e. awake (same ∙ e)) (λ e. taken (same ∙ e)) needs))
    (λ (more : Reaches inputs root job × (phase_of before job ≡ Asleep) × (phase_of after job ≡ Wanted)). absurd (taken more.2))
    (w.each job)

pub fed_next : {R C : Type 0} (m : Meanings R C) (s t : State R C) (event : Event R C) → MayCome m s event → Comes m s event t → InputsFinished s.jobs.inputs s.jobs.phases → InputsFinished t.jobs.inputs t.jobs.phases
fed_next m s t (Demand at) may comes fed = subst (λ x. InputsFinished x t.jobs.phases) (sym comes.0.inputs) (fed_wake s.jobs.inputs at s.jobs.phases t.jobs.phases fed comes.0.phases)
fed_next {R} {C} m s t (Take at) may comes fed = let was = may.wanted in subst (λ (x : Jobs R). InputsFinished x.inputs x.phases) (sym comes.0) (fed_set s.jobs.inputs s.jobs.phases at Out fed (λ e. absurd (cc)) (λ e. absurd (cc)) (λ o e. absurd (cc)) (λ _ input needs. may.fed input needs))
fed_next {R} {C} m s t (Finish at result) may comes fed = subst (λ (x : Jobs R). InputsFinished x.inputs x.phases) (sym comes.0) (fed_set s.jobs.inputs s.jobs.phases at Done fed (λ e. absurd (cc)) (λ e. absurd (cc)) (λ o e. absurd (cc)) (λ _ input needs. fed at input (λ e. absurd (cc)) (λ e. absurd (cc)) needs))
fed_next m s t (Forward at to) may comes fed =
    let out = may.0 in
    subst (λ x. InputsFinished x t.jobs.phases) (sym comes.0.inputs) (fed_wake s.jobs.inputs to (set s.jobs.phases at (Waits to)) t.jobs.phases (fed_set s.jobs.inputs s.jobs.phases at (Waits to) fed (λ e. absurd (cc)) (λ e. absurd (cc)) (λ o e. absurd (cc)) (λ _ input needs. fed at input (λ e. absurd (cc)) (λ e. absurd (cc)) needs)) comes.0.phases)
fed_next {R} {C} m s t (PutBack at) may comes fed = subst (λ (x : Jobs R). InputsFinished x.inputs x.phases) (sym comes.0) (fed_set s.jobs.inputs s.jobs.phases at Wanted fed (λ e. absurd (cc)) (λ e. absurd (cc)) (λ o e. absurd (cc)) (λ ne input needs. absurd (ne refl)))
fed_next {R} {C} m s t (Fill cell) may comes fed = subst (λ (x : Jobs R). InputsFinished x.inputs x.phases) (sym comes.0) fed

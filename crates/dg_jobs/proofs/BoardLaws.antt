use Rattle.std.proofs.Common.{◌≡◌, ◌≢◌, ◌+◌, ◌<◌, ℕ, zero, suc, Option, Some, None, List, length, get_or, set, count_by, nat_eq, is_some, refl, sym, ap, ◌∙◌, subst, inl, inr, ⊎_elim, arith}
use Rattle.std.proofs.lemmas.Bool.{cases_eq, cases_lt}
use Rattle.std.proofs.lemmas.List.{get_or_past, get_or-set_same, get_or-set_other, length-set}
use Rattle.dg_jobs.specs.declared.phase.Phase.{Phase}
use Rattle.dg_jobs.specs.declared.phase.Phase.TheVariants.{Asleep, Waits, Done}
use Rattle.dg_jobs.specs.Board.{Tables, Stands, Sleeps, Is_out, Is_ready, Misses, Woken, Awaits, Passes_on, Ends, Ended, Passed_on, Fits, HasEnd, IsOpen, NoneOn, is_on, is_out, one_if}
use Rattle.dg_jobs.specs.Jobs.{inputs_of, phase_of, EndsAt, Follows}
use Rattle.dg_jobs.specs.Piles.{choice_at}
use Rattle.dg_jobs.proofs.Counts.{count_by-set}

-- the same tables with other lists and counts
abbrev pub changed : Tables → List Phase → List (Option ℕ) → List ℕ → List (Option ℕ) → ℕ → ℕ → ℕ → Tables
changed t phases ends passed places ready out finished = record { inputs = t.inputs; phases = phases; ends = ends; passed = passed; places = places; ready = ready; out = out; finished = finished }

-- a job that isn't asleep is one
pub is_job : (phases : List Phase) (job : ℕ) → phase_of phases job ≢ Asleep → job < length phases
is_job phases job awake = ⊎_elim (λ (lt : job < length phases). lt) (λ past. absurd (awake (get_or_past phases job Asleep past))) (cases_lt job (length phases))

-- ends stay where the phases of jobs that are done or wait do
pub EndsAt-keeps : (phases phases' : List Phase) → ((job : ℕ) → phase_of phases job ≡ Done → phase_of phases' job ≡ Done) → ((job other : ℕ) → phase_of phases job ≡ Waits other → phase_of phases' job ≡ Waits other) → (job last : ℕ) → EndsAt phases job last → EndsAt phases' job last
EndsAt-keeps phases phases' done waits job last ends = (ends.0, follows ends.0 job ends.1)
  where
    follows : (steps : ℕ) (job : ℕ) → Follows phases steps job last → Follows phases' steps job last
    follows zero job f = (f.0, done job f.1)
    follows (suc steps) job f = (f.0, waits job f.0 f.1, follows steps f.0 f.2)

-- where a job stands depends on what the tables say of it, and on which ends are noted
pub Stands-frame : (t : Tables) (phases : List Phase) (ends : List (Option ℕ)) (passed : List ℕ) (places : List (Option ℕ)) (ready out finished current current' job : ℕ) → length phases ≡ length t.phases → phase_of phases job ≡ phase_of t.phases job → choice_at ends job ≡ choice_at t.ends job → choice_at places job ≡ choice_at t.places job → ((input : ℕ) → HasEnd t.ends input → HasEnd ends input) → ((input : ℕ) → choice_at t.places job ≡ Some input → input < length t.phases → IsOpen t.ends current input → IsOpen ends current' input) → Stands t current job → Stands (changed t phases ends passed places ready out finished) current' job
Stands-frame t phases ends passed places ready out finished current current' job count p e q keeps opens s = elim s [
  | Sleeps a b c ↦ Sleeps (p ∙ a) (e ∙ b) (q ∙ c)
  | Is_out a b c ↦ Is_out (p ∙ a) (e ∙ b) (q ∙ c)
  | Is_ready a b c d ↦ Is_ready (p ∙ a) (e ∙ b) (q ∙ c ∙ ap (λ n. Some n) (sym count)) (λ input needs. keeps input (d input needs))
  | Misses input a b c lt needs d ↦ Misses input (p ∙ a) (e ∙ b) (q ∙ c) (omega (arith, lt, count)) needs (opens input c lt d)
  | Woken a b c ↦ Woken (p ∙ a) (e ∙ b) (q ∙ c ∙ ap (λ n. Some (n + 2)) (sym count))
  | Awaits other a b c lt d ↦ Awaits other (p ∙ a) (e ∙ b) (q ∙ c) (omega (arith, lt, count)) (opens other c lt d)
  | Passes_on other a b c lt d ↦ Passes_on other (p ∙ a) (e ∙ b) (q ∙ c ∙ ap (λ n. Some (n + 1)) (sym count)) (omega (arith, lt, count)) (keeps other d)
  | Ends a b c ↦ Ends (p ∙ a) (e ∙ b) (q ∙ c ∙ ap (λ n. Some (n + 1)) (sym count))
  | Ended a b c ↦ Ended (p ∙ a) (b.0, e ∙ b.1) (q ∙ c)
  | Passed_on other a b c ↦ Passed_on other (p ∙ a) (b.0, e ∙ b.1) (q ∙ c)
]

-- a job is taken into the hand
pub Fits-hold : (t : Tables) (current job : ℕ) → Fits t current (length t.phases) → Fits t current job
Fits-hold t current job f = record {
  small = f.small;
  for_inputs = f.for_inputs;
  for_ends = f.for_ends;
  for_passed = f.for_passed;
  for_places = f.for_places;
  in_range = f.in_range;
  stands = λ other lt ne. f.stands other lt (λ e. absurd (omega (arith, lt, e)));
  lasts = f.lasts;
  passed = f.passed;
  ready = f.ready;
  out = f.out;
  finished = f.finished;
}

-- a job in the hand that stands somewhere is let go
pub Fits-drop : (t : Tables) (current job : ℕ) → Fits t current job → Stands t current job → Fits t current (length t.phases)
Fits-drop t current job f here = record {
  small = f.small;
  for_inputs = f.for_inputs;
  for_ends = f.for_ends;
  for_passed = f.for_passed;
  for_places = f.for_places;
  in_range = f.in_range;
  stands = λ other lt _. ⊎_elim (λ (e : job ≡ other). let P : ℕ → Type 0 = λ x. Stands t current x in subst P e here) (λ (ne : job ≡ other → ⊥). f.stands other lt (λ e. ne (sym e))) (cases_eq job other);
  lasts = f.lasts;
  passed = f.passed;
  ready = f.ready;
  out = f.out;
  finished = f.finished;
}

-- what a job on a pile of none of the three kinds makes of the count of ready jobs
not_ready : (n pile : ℕ) (place : Option ℕ) → place ≡ Some pile → one_if (is_on n place) ≡ one_if (nat_eq pile n)
not_ready n pile place e = ap (λ x. one_if (is_on n x)) e

free_place : (n : ℕ) (place : Option ℕ) → place ≡ None → one_if (is_on n place) ≡ 0
free_place n place e = ap (λ x. one_if (is_on n x)) e

-- the job in the hand is put on a pile or taken from one
pub Fits-place : (t : Tables) (current job : ℕ) (place : Option ℕ) (places : List (Option ℕ)) (ready : ℕ) → Fits t current job → job < length t.phases → places ≡ set t.places job place → ready + one_if (is_on (length t.phases) (choice_at t.places job)) ≡ t.ready + one_if (is_on (length t.phases) place) → Fits (changed t t.phases t.ends t.passed places ready t.out t.finished) current job
Fits-place t current job place places ready f lt is counts =
    let P : List (Option ℕ) → Type 0 = λ xs. Fits (changed t t.phases t.ends t.passed xs ready t.out t.finished) current job in
    let within : job < length t.places = omega (arith, lt, f.for_places) in
    let made : P (set t.places job place) = record {
      small = f.small;
      for_inputs = f.for_inputs;
      for_ends = f.for_ends;
      for_passed = f.for_passed;
      for_places = length-set t.places job place ∙ f.for_places;
      in_range = f.in_range;
      stands = λ other lt ne. Stands-frame t t.phases t.ends t.passed (set t.places job place) ready t.out t.finished current current other refl refl refl (get_or-set_other t.places job other place None ne) (λ input h. h) (λ input _ _ o. o) (f.stands other lt ne);
      lasts = f.lasts;
      passed = f.passed;
      ready = omega (arith, count_by-set (is_on (length t.phases)) t.places job place None within, counts, f.ready);
      out = f.out;
      finished = f.finished;
    } in
    subst P (sym is) made

-- a job is taken from the pile that it lies on
pub Fits-pop : (t : Tables) (current job pile : ℕ) (places : List (Option ℕ)) (ready : ℕ) → Fits t current (length t.phases) → choice_at t.places job ≡ Some pile → places ≡ set t.places job None → ready + one_if (nat_eq pile (length t.phases)) ≡ t.ready → Fits (changed t t.phases t.ends t.passed places ready t.out t.finished) current job
Fits-pop t current job pile places ready f on is counts =
    let lt : job < length t.phases = omega (arith, on_a_pile t.places job pile on, f.for_places) in
    Fits-place t current job None places ready (Fits-hold t current job f) lt is (omega (arith, not_ready (length t.phases) pile (choice_at t.places job) on, counts))
  where
    on_a_pile : (places : List (Option ℕ)) (job pile : ℕ) → choice_at places job ≡ Some pile → job < length places
    on_a_pile places job pile e = ⊎_elim (λ (lt : job < length places). lt) (λ past. let none : choice_at places job ≡ None = get_or_past places job None past in absurd (cc)) (cases_lt job (length places))

-- the phase of the job in the hand changes; it was neither done nor waited
pub Fits-phase : (t : Tables) (current job : ℕ) (phase : Phase) (phases : List Phase) (out : ℕ) → Fits t current job → job < length t.phases → phases ≡ set t.phases job phase → phase_of t.phases job ≢ Done → ((other : ℕ) → phase_of t.phases job ≢ Waits other) → out + one_if (is_out (phase_of t.phases job)) ≡ t.out + one_if (is_out phase) → Fits (changed t phases t.ends t.passed t.places t.ready out t.finished) current job
Fits-phase t current job phase phases out f lt is not_done not_waits counts =
    let P : List Phase → Type 0 = λ xs. Fits (changed t xs t.ends t.passed t.places t.ready out t.finished) current job in
    let count : length (set t.phases job phase) ≡ length t.phases = length-set t.phases job phase in
    let other_phase : (other : ℕ) → (other ≡ job → ⊥) → phase_of (set t.phases job phase) other ≡ phase_of t.phases other = λ other ne. get_or-set_other t.phases job other phase Asleep ne in
    let made : P (set t.phases job phase) = record {
      small = omega (arith, count, f.small);
      for_inputs = f.for_inputs ∙ sym count;
      for_ends = f.for_ends ∙ sym count;
      for_passed = f.for_passed ∙ sym count;
      for_places = f.for_places ∙ sym count;
      in_range = λ a b needs. omega (arith, f.in_range a b needs, count);
      stands = λ other lt ne. Stands-frame t (set t.phases job phase) t.ends t.passed t.places t.ready out t.finished current current other count (other_phase other ne) refl refl (λ input h. h) (λ input _ _ o. o) (f.stands other (omega (arith, lt, count)) ne);
      lasts = λ a last e. EndsAt-keeps t.phases (set t.phases job phase) (λ j done. other_phase j (λ e. not_done (subst (λ x. phase_of t.phases x ≡ Done) e done)) ∙ done) (λ j o waits. other_phase j (λ e. not_waits o (subst (λ x. phase_of t.phases x ≡ Waits o) e waits)) ∙ waits) a last (f.lasts a last e);
      passed = f.passed;
      ready = ap (λ n. count_by (is_on n) t.places) count ∙ f.ready;
      out = omega (arith, count_by-set is_out t.phases job phase Asleep lt, counts, f.out);
      finished = f.finished;
    } in
    subst P (sym is) made

-- the end of the job in the hand is noted, and its pile is to be emptied
pub Fits-note : (t : Tables) (job last : ℕ) (ends : List (Option ℕ)) (finished : ℕ) → Fits t (length t.phases) job → job < length t.phases → choice_at t.ends job ≡ None → EndsAt t.phases job last → ends ≡ set t.ends job (Some last) → finished ≡ t.finished + 1 → Fits (changed t t.phases ends t.passed t.places t.ready t.out finished) job job
Fits-note t job last ends finished f lt open_end ends_at is counts =
    let P : List (Option ℕ) → Type 0 = λ xs. Fits (changed t t.phases xs t.passed t.places t.ready t.out finished) job job in
    let ends' = set t.ends job (Some last) in
    let within : job < length t.ends = omega (arith, lt, f.for_ends) in
    let same : choice_at ends' job ≡ Some last = get_or-set_same t.ends job (Some last) None within in
    let other_end : (other : ℕ) → (other ≡ job → ⊥) → choice_at ends' other ≡ choice_at t.ends other = λ other ne. get_or-set_other t.ends job other (Some last) None ne in
    let keeps : (input : ℕ) → HasEnd t.ends input → HasEnd ends' input = λ input h. ⊎_elim (λ (e : job ≡ input). (last, ap (λ x. choice_at ends' x) (sym e) ∙ same)) (λ (ne : job ≡ input → ⊥). (h.0, other_end input (λ e. ne (sym e)) ∙ h.1)) (cases_eq job input) in
    let made : P ends' = record {
      small = f.small;
      for_inputs = f.for_inputs;
      for_ends = length-set t.ends job (Some last) ∙ f.for_ends;
      for_passed = f.for_passed;
      for_places = f.for_places;
      in_range = f.in_range;
      stands = λ other lt ne. Stands-frame t t.phases ends' t.passed t.places t.ready t.out finished (length t.phases) job other refl refl (other_end other ne) refl keeps (λ input _ lt o. ⊎_elim (λ (none : choice_at t.ends input ≡ None). ⊎_elim (λ (e : job ≡ input). inr (sym e)) (λ (ne : job ≡ input → ⊥). inl (other_end input (λ e. ne (sym e)) ∙ none)) (cases_eq job input)) (λ (past : input ≡ length t.phases). absurd (omega (arith, lt, past))) o) (f.stands other lt ne);
      lasts = λ a l e. ⊎_elim (λ (h : job ≡ a). let same_last : last ≡ l = (let here : choice_at ends' job ≡ Some l = ap (λ x. choice_at ends' x) h ∙ e in cc) in let Q : ℕ → ℕ → Type 0 = λ x y. EndsAt t.phases x y in subst (λ x. Q x l) h (subst (λ y. Q job y) same_last ends_at)) (λ (ne : job ≡ a → ⊥). f.lasts a l (sym (other_end a (λ e. ne (sym e))) ∙ e)) (cases_eq job a);
      passed = λ a i lt. keeps (get_or (inputs_of t.inputs a) i 0) (f.passed a i lt);
      ready = f.ready;
      out = f.out;
      finished = omega (arith, count_by-set is_some t.ends job (Some last) None within, ap (λ x. one_if (is_some x)) open_end, f.finished, counts);
    } in
    subst P (sym is) made

-- the pile of the current job is empty
pub Fits-emptied : (t : Tables) (job : ℕ) → Fits t job (length t.phases) → NoneOn t job → Fits t (length t.phases) (length t.phases)
Fits-emptied t job f none = record {
  small = f.small;
  for_inputs = f.for_inputs;
  for_ends = f.for_ends;
  for_passed = f.for_passed;
  for_places = f.for_places;
  in_range = f.in_range;
  stands = λ other lt ne. Stands-frame t t.phases t.ends t.passed t.places t.ready t.out t.finished job (length t.phases) other refl refl refl refl (λ input h. h) (λ input on _ o. ⊎_elim (λ (n : choice_at t.ends input ≡ None). inl n) (λ (e : input ≡ job). absurd (none other (on ∙ ap (λ x. Some x) e))) o) (f.stands other lt ne);
  lasts = f.lasts;
  passed = f.passed;
  ready = f.ready;
  out = f.out;
  finished = f.finished;
}

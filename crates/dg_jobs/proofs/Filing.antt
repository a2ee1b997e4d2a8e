use Rattle.std.proofs.Common.{◌≡◌, ◌≢◌, ◌+◌, ◌<◌, ◌≤◌, ◌⊎◌, ℕ, zero, suc, Option, Some, None, List, length, get_or, set, nat_eq, refl, sym, ap, ◌∙◌, subst, inl, inr, ⊎_elim, arith}
use Rattle.std.proofs.lemmas.Bool.{cases_eq, cases_lt}
use Rattle.std.proofs.lemmas.List.{get_or_past, get_or_default, get_or-set_same, get_or-set_other, length-set}
use Rattle.dg_jobs.specs.declared.phase.Phase.{Phase}
use Rattle.dg_jobs.specs.declared.phase.Phase.TheVariants.{Asleep, Wanted, Out, Waits, Done}
use Rattle.dg_jobs.specs.Board.{Tables, Stands, Sleeps, Is_out, Is_ready, Misses, Woken, Awaits, Passes_on, Ends, Ended, Passed_on, Fits, HasEnd, IsCalm, IsFiled, NoneOn, is_on, one_if, passed_of}
use Rattle.dg_jobs.specs.Jobs.{inputs_of, phase_of, Follows, IsFinished, IsReady, Needs}
use Rattle.dg_jobs.specs.Piles.{choice_at}
use Rattle.dg_jobs.proofs.BoardLaws.{changed, is_job, Stands-frame, Fits-drop, Fits-place}

pub same_some : (o : Option ℕ) (x y : ℕ) → o ≡ Some x → o ≡ Some y → x ≡ y
same_some o x y a b = cc

pub not_none : (o : Option ℕ) (y : ℕ) → o ≡ None → o ≡ Some y → ⊥
not_none o y a b = absurd (cc)

-- more inputs of a job were seen finished
Fits-passed : (t : Tables) (current job from : ℕ) → Fits t current job → ((index : ℕ) → index < from → HasEnd t.ends (get_or (inputs_of t.inputs job) index 0)) → Fits (changed t t.phases t.ends (set t.passed job from) t.places t.ready t.out t.finished) current job
Fits-passed t current job from f seen = record {
  small = f.small;
  for_inputs = f.for_inputs;
  for_ends = f.for_ends;
  for_passed = length-set t.passed job from ∙ f.for_passed;
  for_places = f.for_places;
  in_range = f.in_range;
  stands = λ other lt ne. Stands-frame t t.phases t.ends (set t.passed job from) t.places t.ready t.out t.finished current current other refl refl refl refl (λ input h. h) (λ input _ _ o. o) (f.stands other lt ne);
  lasts = f.lasts;
  passed = λ a i lt.
      ⊎_elim
      (λ (e : job ≡ a).
      ⊎_elim
      (λ (within : job < length t.passed).
      let is : passed_of (set t.passed job from) a ≡ from = ap (λ x. passed_of (set t.passed job from) x) (sym e) ∙ get_or-set_same t.passed job from 0 within in
      let P : ℕ → Type 0 = λ x. HasEnd t.ends (get_or (inputs_of t.inputs x) i 0) in
      subst P e (seen i (omega (arith, lt, is))))
      (λ (past : length t.passed ≤ job).
      let is : passed_of (set t.passed job from) a ≡ 0 = ap (λ x. passed_of (set t.passed job from) x) (sym e) ∙ get_or_past (set t.passed job from) job 0 (omega (arith, length-set t.passed job from, past)) in
      absurd (omega (arith, lt, is)))
      (cases_lt job (length t.passed)))
      (λ (ne : job ≡ a → ⊥). f.passed a i (omega (arith, lt, get_or-set_other t.passed job a from 0 (λ e. ne (sym e)))))
      (cases_eq job a);
  ready = f.ready;
  out = f.out;
  finished = f.finished;
}

-- a wanted job in the hand that was filed stands where it belongs
pub Fits-file : (t t' : Tables) (current job : ℕ) → Fits t current job → job < length t.phases → phase_of t.phases job ≡ Wanted → choice_at t.ends job ≡ None → choice_at t.places job ≡ None → IsFiled t job t' → Fits t' current (length t'.phases)
Fits-file t t' current job f lt wanted open_end free filed =
    let row = inputs_of t.inputs job in
    let n = length t.phases in
    let places = set t.places job (Some filed.pile) in
    let passed = set t.passed job filed.from in
    let ready = t.ready + one_if (nat_eq filed.pile n) in
    let seen : (index : ℕ) → index < filed.from → HasEnd t.ends (get_or row index 0) = λ index before. ⊎_elim (λ (early : index < passed_of t.passed job). f.passed job index early) (λ (late : passed_of t.passed job ≤ index). filed.seen index late before) (cases_lt index (passed_of t.passed job)) in
    let placed : Fits (changed t t.phases t.ends t.passed places ready t.out t.finished) current job = Fits-place t current job (Some filed.pile) places ready f lt refl (omega (arith, ap (λ x. one_if (is_on n x)) free)) in
    let held : Fits (changed t t.phases t.ends passed places ready t.out t.finished) current job = Fits-passed (changed t t.phases t.ends t.passed places ready t.out t.finished) current job filed.from placed seen in
    let on : choice_at places job ≡ Some filed.pile = get_or-set_same t.places job (Some filed.pile) None (omega (arith, lt, f.for_places)) in
    let here : Stands (changed t t.phases t.ends passed places ready t.out t.finished) current job = ⊎_elim
    (λ (w : (filed.pile ≡ n) × (filed.from ≡ length row)). Is_ready wanted open_end (on ∙ ap (λ x. Some x) w.0) (λ input needs. let P : ℕ → Type 0 = λ x. HasEnd t.ends x in subst P (get_or_default row needs.0 0 input needs.1 ∙ needs.2) (seen needs.0 (omega (arith, needs.1, w.1)))))
    (λ (w : Needs t.inputs job filed.pile × (choice_at t.ends filed.pile ≡ None)). Misses filed.pile wanted open_end on (f.in_range job filed.pile w.0) w.0 (inl w.1))
    filed.where_to in
    let P : Tables → Type 0 = λ x. Fits x current (length x.phases) in
    subst P (sym filed.is) (Fits-drop (changed t t.phases t.ends passed places ready t.out t.finished) current job held here)

-- filing puts nothing on the piles of jobs that end and of woken jobs, nor on the pile of a job whose end is noted
pub NoneOn-set : (places : List (Option ℕ)) (job : ℕ) (place : Option ℕ) (pile : ℕ) → ((other : ℕ) → choice_at places other ≢ Some pile) → place ≢ Some pile → (other : ℕ) → choice_at (set places job place) other ≢ Some pile
NoneOn-set places job place pile none off other on =
    ⊎_elim
    (λ (e : other ≡ job).
    ⊎_elim
    (λ (lt : job < length places). off (sym (get_or-set_same places job place None lt) ∙ ap (λ x. choice_at (set places job place) x) (sym e) ∙ on))
    (λ (past : length places ≤ job). absurd (not_none (choice_at (set places job place) job) pile (get_or_past (set places job place) job None (omega (arith, length-set places job place, past))) (ap (λ x. choice_at (set places job place) x) (sym e) ∙ on)))
    (cases_lt job (length places)))
    (λ (ne : other ≡ job → ⊥). none other (sym (get_or-set_other places job other place None ne) ∙ on))
    (cases_eq other job)

pub NoneOn-file : (t t' : Tables) (job pile : ℕ) → IsFiled t job t' → ((input : ℕ) → Needs t.inputs job input → input < length t.phases) → length t.phases < pile → NoneOn t pile → NoneOn t' pile
NoneOn-file t t' job pile filed in_range past none =
    let P : Tables → Type 0 = λ x. NoneOn x pile in
    let off : Some filed.pile ≢ Some pile = λ e. let same : filed.pile ≡ pile = cc in ⊎_elim (λ (w : (filed.pile ≡ length t.phases) × (filed.from ≡ length (inputs_of t.inputs job))). absurd (omega (arith, w.0, same, past))) (λ (w : Needs t.inputs job filed.pile × (choice_at t.ends filed.pile ≡ None)). absurd (omega (arith, in_range filed.pile w.0, same, past))) filed.where_to in
    subst P (sym filed.is) (NoneOn-set t.places job (Some filed.pile) pile none off)

-- a change between two phases that aren't asleep keeps the inputs awake
pub awake-set : (inputs : List (List ℕ)) (phases : List Phase) (job : ℕ) (phase : Phase) → phase_of phases job ≢ Asleep → phase ≢ Asleep → ((a input : ℕ) → phase_of phases a ≢ Asleep → Needs inputs a input → phase_of phases input ≢ Asleep) → (a input : ℕ) → phase_of (set phases job phase) a ≢ Asleep → Needs inputs a input → phase_of (set phases job phase) input ≢ Asleep
awake-set inputs phases job phase was is awake a input awake_a needs asleep =
    let back : (x : ℕ) → phase_of (set phases job phase) x ≡ Asleep → phase_of phases x ≡ Asleep = λ x e. ⊎_elim (λ (same : x ≡ job). absurd (is (sym (get_or-set_same phases job phase Asleep (is_job phases job was)) ∙ ap (λ y. phase_of (set phases job phase) y) (sym same) ∙ e))) (λ (ne : x ≡ job → ⊥). sym (get_or-set_other phases job x phase Asleep ne) ∙ e) (cases_eq x job) in
    let forth : phase_of phases a ≢ Asleep = λ e. ⊎_elim (λ (same : a ≡ job). was (ap (λ y. phase_of phases y) (sym same) ∙ e)) (λ (ne : a ≡ job → ⊥). awake_a (get_or-set_other phases job a phase Asleep ne ∙ e)) (cases_eq a job) in
    awake a input forth needs (back input asleep)

-- what a job is that lies on the pile of ready jobs
pub on_ready : (t : Tables) (job : ℕ) → Stands t (length t.phases) job → choice_at t.places job ≡ Some (length t.phases) → (phase_of t.phases job ≡ Wanted) × (choice_at t.ends job ≡ None) × ((input : ℕ) → Needs t.inputs job input → HasEnd t.ends input)
on_ready t job s on = elim s [
  | Sleeps a b c ↦ absurd (not_none _ _ c on)
  | Is_out a b c ↦ absurd (not_none _ _ c on)
  | Is_ready a b c d ↦ (a, b, d)
  | Misses input a b c lt needs d ↦ absurd (let e = same_some (choice_at t.places job) input (length t.phases) c on in omega (arith, lt, e))
  | Woken a b c ↦ absurd (let e = same_some (choice_at t.places job) (length t.phases + 2) (length t.phases) c on in omega (arith, e))
  | Awaits other a b c lt d ↦ absurd (let e = same_some (choice_at t.places job) other (length t.phases) c on in omega (arith, lt, e))
  | Passes_on other a b c lt d ↦ absurd (let e = same_some (choice_at t.places job) (length t.phases + 1) (length t.phases) c on in omega (arith, e))
  | Ends a b c ↦ absurd (let e = same_some (choice_at t.places job) (length t.phases + 1) (length t.phases) c on in omega (arith, e))
  | Ended a b c ↦ absurd (not_none _ _ c on)
  | Passed_on other a b c ↦ absurd (not_none _ _ c on)
]

-- what a job is that lies on the pile of jobs that end
pub on_ends : (t : Tables) (current job : ℕ) → Stands t current job → choice_at t.places job ≡ Some (length t.phases + 1) → (choice_at t.ends job ≡ None) × ((phase_of t.phases job ≡ Done) ⊎ ((other : ℕ) × (phase_of t.phases job ≡ Waits other) × (other < length t.phases) × HasEnd t.ends other))
on_ends t current job s on = elim s [
  | Sleeps a b c ↦ absurd (not_none _ _ c on)
  | Is_out a b c ↦ absurd (not_none _ _ c on)
  | Is_ready a b c d ↦ absurd (let e = same_some (choice_at t.places job) (length t.phases) (length t.phases + 1) c on in omega (arith, e))
  | Misses input a b c lt needs d ↦ absurd (let e = same_some (choice_at t.places job) input (length t.phases + 1) c on in omega (arith, lt, e))
  | Woken a b c ↦ absurd (let e = same_some (choice_at t.places job) (length t.phases + 2) (length t.phases + 1) c on in omega (arith, e))
  | Awaits other a b c lt d ↦ absurd (let e = same_some (choice_at t.places job) other (length t.phases + 1) c on in omega (arith, lt, e))
  | Passes_on other a b c lt d ↦ (b, inr (other, a, lt, d))
  | Ends a b c ↦ (b, inl a)
  | Ended a b c ↦ absurd (not_none _ _ c on)
  | Passed_on other a b c ↦ absurd (not_none _ _ c on)
]

-- what a job is that lies on the pile of woken jobs
pub on_woken : (t : Tables) (current job : ℕ) → Stands t current job → choice_at t.places job ≡ Some (length t.phases + 2) → (phase_of t.phases job ≡ Wanted) × (choice_at t.ends job ≡ None)
on_woken t current job s on = elim s [
  | Sleeps a b c ↦ absurd (not_none _ _ c on)
  | Is_out a b c ↦ absurd (not_none _ _ c on)
  | Is_ready a b c d ↦ absurd (let e = same_some (choice_at t.places job) (length t.phases) (length t.phases + 2) c on in omega (arith, e))
  | Misses input a b c lt needs d ↦ absurd (let e = same_some (choice_at t.places job) input (length t.phases + 2) c on in omega (arith, lt, e))
  | Woken a b c ↦ (a, b)
  | Awaits other a b c lt d ↦ absurd (let e = same_some (choice_at t.places job) other (length t.phases + 2) c on in omega (arith, lt, e))
  | Passes_on other a b c lt d ↦ absurd (let e = same_some (choice_at t.places job) (length t.phases + 1) (length t.phases + 2) c on in omega (arith, e))
  | Ends a b c ↦ absurd (let e = same_some (choice_at t.places job) (length t.phases + 1) (length t.phases + 2) c on in omega (arith, e))
  | Ended a b c ↦ absurd (not_none _ _ c on)
  | Passed_on other a b c ↦ absurd (not_none _ _ c on)
]

-- what a job is that lies on another's pile
pub on_other : (t : Tables) (current job pile : ℕ) → Stands t current job → choice_at t.places job ≡ Some pile → pile < length t.phases → (choice_at t.ends job ≡ None) × ((phase_of t.phases job ≡ Wanted) ⊎ (phase_of t.phases job ≡ Waits pile))
on_other t current job pile s on within = elim s [
  | Sleeps a b c ↦ absurd (not_none _ _ c on)
  | Is_out a b c ↦ absurd (not_none _ _ c on)
  | Is_ready a b c d ↦ (b, inl a)
  | Misses input a b c lt needs d ↦ (b, inl a)
  | Woken a b c ↦ (b, inl a)
  | Awaits other a b c lt d ↦ (b, inr (a ∙ ap (λ x. Waits x) (same_some (choice_at t.places job) other pile c on)))
  | Passes_on other a b c lt d ↦ absurd (let e = same_some (choice_at t.places job) (length t.phases + 1) pile c on in omega (arith, within, e))
  | Ends a b c ↦ absurd (let e = same_some (choice_at t.places job) (length t.phases + 1) pile c on in omega (arith, within, e))
  | Ended a b c ↦ absurd (not_none _ _ c on)
  | Passed_on other a b c ↦ absurd (not_none _ _ c on)
]

-- a job that is handed out is on no pile
pub when_out : (t : Tables) (current job : ℕ) → Stands t current job → phase_of t.phases job ≡ Out → (choice_at t.ends job ≡ None) × (choice_at t.places job ≡ None)
when_out t current job s is = elim s [
  | Sleeps a b c ↦ (b, c)
  | Is_out a b c ↦ (b, c)
  | Is_ready a b c d ↦ absurd (cc)
  | Misses input a b c lt needs d ↦ absurd (cc)
  | Woken a b c ↦ absurd (cc)
  | Awaits other a b c lt d ↦ absurd (cc)
  | Passes_on other a b c lt d ↦ absurd (cc)
  | Ends a b c ↦ absurd (cc)
  | Ended a b c ↦ absurd (cc)
  | Passed_on other a b c ↦ absurd (cc)
]

-- a job that is asleep is on no pile
pub when_asleep : (t : Tables) (current job : ℕ) → Stands t current job → phase_of t.phases job ≡ Asleep → (choice_at t.ends job ≡ None) × (choice_at t.places job ≡ None)
when_asleep t current job s is = elim s [
  | Sleeps a b c ↦ (b, c)
  | Is_out a b c ↦ (b, c)
  | Is_ready a b c d ↦ absurd (cc)
  | Misses input a b c lt needs d ↦ absurd (cc)
  | Woken a b c ↦ absurd (cc)
  | Awaits other a b c lt d ↦ absurd (cc)
  | Passes_on other a b c lt d ↦ absurd (cc)
  | Ends a b c ↦ absurd (cc)
  | Ended a b c ↦ absurd (cc)
  | Passed_on other a b c ↦ absurd (cc)
]

-- each end is noted
pub follows_has_end : (t : Tables) → IsCalm t → (steps job last : ℕ) → Follows t.phases steps job last → HasEnd t.ends job
follows_has_end t calm zero job last f =
    let lt = is_job t.phases job (λ e. let d = f.1 in absurd (cc)) in
    let d : phase_of t.phases job ≡ Done = f.1 in
    elim (calm.fits.stands job lt (λ e. absurd (omega (arith, lt, e)))) [
      | Sleeps a b c ↦ absurd (cc)
      | Is_out a b c ↦ absurd (cc)
      | Is_ready a b c _ ↦ absurd (cc)
      | Misses input a b c _ needs _ ↦ absurd (cc)
      | Woken a b c ↦ absurd (cc)
      | Awaits other a b c _ _ ↦ absurd (cc)
      | Passes_on other a b c _ _ ↦ absurd (cc)
      | Ends a b c ↦ absurd (calm.none_ends job c)
      | Ended a b c ↦ b
      | Passed_on other a b c ↦ b
    ]
follows_has_end t calm (suc steps) job last f =
    let next = f.0 in
    let d : phase_of t.phases job ≡ Waits next = f.1 in
    let lt = is_job t.phases job (λ e. absurd (cc)) in
    let ended : HasEnd t.ends next = follows_has_end t calm steps next last f.2 in
    elim (calm.fits.stands job lt (λ e. absurd (omega (arith, lt, e)))) [
      | Sleeps a b c ↦ absurd (cc)
      | Is_out a b c ↦ absurd (cc)
      | Is_ready a b c _ ↦ absurd (cc)
      | Misses input a b c _ needs _ ↦ absurd (cc)
      | Woken a b c ↦ absurd (cc)
      | Awaits other a b c within opens ↦ ⊎_elim (λ (none : choice_at t.ends other ≡ None). let e : other ≡ next = cc in absurd (not_none (choice_at t.ends next) ended.0 (ap (λ x. choice_at t.ends x) (sym e) ∙ none) ended.1)) (λ (past : other ≡ length t.phases). absurd (omega (arith, within, past))) opens
      | Passes_on other a b c _ _ ↦ absurd (calm.none_ends job c)
      | Ends a b c ↦ absurd (cc)
      | Ended a b c ↦ b
      | Passed_on other a b c ↦ b
    ]

pub finished_has_end : (t : Tables) → IsCalm t → (job : ℕ) → IsFinished t.phases job → HasEnd t.ends job
finished_has_end t calm job finished = follows_has_end t calm finished.1.0 job finished.0 finished.1.1

pub end_is_finished : (t : Tables) → IsCalm t → (job : ℕ) → HasEnd t.ends job → IsFinished t.phases job
end_is_finished t calm job has = (has.0, calm.fits.lasts job has.0 has.1)

-- a ready job lies on the pile of ready jobs
pub ready_is_on : (t : Tables) → IsCalm t → (job : ℕ) → IsReady t.inputs t.phases job → choice_at t.places job ≡ Some (length t.phases)
ready_is_on t calm job ready =
    let d : phase_of t.phases job ≡ Wanted = ready.wanted in
    let lt = is_job t.phases job (λ e. absurd (cc)) in
    elim (calm.fits.stands job lt (λ e. absurd (omega (arith, lt, e)))) [
      | Sleeps a b c ↦ absurd (cc)
      | Is_out a b c ↦ absurd (cc)
      | Is_ready a b c _ ↦ c
      | Misses input a b c within needs opens ↦ ⊎_elim (λ (none : choice_at t.ends input ≡ None). let ended = finished_has_end t calm input (ready.fed input needs) in absurd (not_none (choice_at t.ends input) ended.0 none ended.1)) (λ (past : input ≡ length t.phases). absurd (omega (arith, within, past))) opens
      | Woken a b c ↦ absurd (calm.none_woken job c)
      | Awaits other a b c _ _ ↦ absurd (cc)
      | Passes_on other a b c _ _ ↦ absurd (cc)
      | Ends a b c ↦ absurd (cc)
      | Ended a b c ↦ absurd (cc)
      | Passed_on other a b c ↦ absurd (cc)
    ]

pub place_within : (places : List (Option ℕ)) (job pile : ℕ) → choice_at places job ≡ Some pile → job < length places
place_within places job pile e = ⊎_elim (λ (lt : job < length places). lt) (λ past. absurd (not_none (choice_at places job) pile (get_or_past places job None past) e)) (cases_lt job (length places))

-- a job on the pile of ready jobs is ready
pub on_is_ready : (t : Tables) → IsCalm t → (job : ℕ) → choice_at t.places job ≡ Some (length t.phases) → IsReady t.inputs t.phases job
on_is_ready t calm job on =
    let lt : job < length t.phases = omega (arith, place_within t.places job (length t.phases) on, calm.fits.for_places) in
    let is = on_ready t job (calm.fits.stands job lt (λ e. absurd (omega (arith, lt, e)))) on in
    record { wanted = is.0; fed = λ input needs. end_is_finished t calm input (is.2 input needs) }

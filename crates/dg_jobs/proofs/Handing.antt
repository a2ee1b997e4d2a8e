use Rattle.std.proofs.Common.{◌≡◌, ◌≢◌, ◌+◌, ◌^◌, ◌<◌, ◌≤◌, ◌⊎◌, ℕ, false, Option, Some, None, List, length, get_or, set, nat_eq, refl, sym, ap, ◌∙◌, subst, inl, ⊎_elim, arith}
use Rattle.std.proofs.lemmas.Bool.{eq-eqb}
use Rattle.std.proofs.lemmas.List.{get_or-set_same, length-set}
use Rattle.dg_jobs.specs.declared.phase.Phase.{Phase}
use Rattle.dg_jobs.specs.declared.phase.Phase.TheVariants.{Asleep, Wanted, Out, Waits, Done}
use Rattle.dg_jobs.specs.Board.{Tables, Stands, Is_out, Awaits, Passes_on, Ends, Fits, HasEnd, IsCalm, IsFiled, NoneOn, is_on, is_out, one_if, passed_of}
use Rattle.dg_jobs.specs.Jobs.{inputs_of, phase_of, Needs}
use Rattle.dg_jobs.specs.Piles.{choice_at}
use Rattle.dg_jobs.proofs.Counts.{count_by-lt, count_by-pos, is_on-same, is_on-other}
use Rattle.dg_jobs.proofs.BoardLaws.{changed, is_job, Fits-hold, Fits-drop, Fits-place, Fits-pop, Fits-phase}
use Rattle.dg_jobs.proofs.Filing.{Fits-file, NoneOn-set, NoneOn-file, awake-set, on_ready, when_out, place_within}

-- fewer jobs are handed out than there are, where one isn't
pub out_lt : (t : Tables) (current hand job : ℕ) → Fits t current hand → job < length t.phases → phase_of t.phases job ≢ Out → t.out < length t.phases
out_lt t current hand job f lt ne = omega (arith, count_by-lt is_out t.phases job Out Asleep lt (isnt (phase_of t.phases job) ne) refl, f.out)
  where
    isnt : (p : Phase) → p ≢ Out → is_out p ≡ false
    isnt Asleep ne = refl
    isnt Wanted ne = refl
    isnt Out ne = absurd (ne refl)
    isnt (Waits other) ne = refl
    isnt Done ne = refl

-- at least one job is handed out, where one is
pub out_pos : (t : Tables) (current hand job : ℕ) → Fits t current hand → phase_of t.phases job ≡ Out → 1 ≤ t.out
out_pos t current hand job f is = omega (arith, count_by-pos is_out t.phases job Asleep Asleep (is_job t.phases job (λ e. absurd (cc))) (ap is_out is) refl, f.out)

-- fewer jobs lie on the pile of ready jobs than there are, where one doesn't
pub ready_lt : (t : Tables) (current hand job : ℕ) → Fits t current hand → job < length t.phases → choice_at t.places job ≡ None → t.ready < length t.phases
ready_lt t current hand job f lt free = omega (arith, count_by-lt (is_on (length t.phases)) t.places job (Some (length t.phases)) None (omega (arith, lt, f.for_places)) (ap (is_on (length t.phases)) free) (is_on-same (length t.phases) (length t.phases) refl), f.ready, f.for_places)

-- at least one job lies on the pile of ready jobs, where one does
pub ready_pos : (t : Tables) (current hand job : ℕ) → Fits t current hand → choice_at t.places job ≡ Some (length t.phases) → 1 ≤ t.ready
ready_pos t current hand job f on = omega (arith, count_by-pos (is_on (length t.phases)) t.places job None None (place_within t.places job (length t.phases) on) (ap (is_on (length t.phases)) on ∙ is_on-same (length t.phases) (length t.phases) refl) refl, f.ready)

-- the number of jobs may be written otherwise
pub Fits-count : (t : Tables) (n m : ℕ) → n ≡ m → Fits t n n → Fits t m m
Fits-count t n m e f = subst (λ x. Fits t x x) e f

pub Fits-current : (t : Tables) (n m hand : ℕ) → n ≡ m → Fits t n hand → Fits t m hand
Fits-current t n m hand e f = subst (λ x. Fits t x hand) e f

pub NoneOn-count : (t : Tables) (n m : ℕ) → n ≡ m → NoneOn t n → NoneOn t m
NoneOn-count t n m e none = subst (λ x. NoneOn t x) e none

-- a job from the pile of ready jobs is handed out
pub calm_take : (t : Tables) (job : ℕ) (places : List (Option ℕ)) (ready : ℕ) (phases : List Phase) (out : ℕ) → IsCalm t → choice_at t.places job ≡ Some (length t.phases) → places ≡ set t.places job None → ready + 1 ≡ t.ready → phases ≡ set t.phases job Out → out ≡ t.out + 1 → IsCalm (changed t phases t.ends t.passed places ready out t.finished)
calm_take t job places ready phases out calm on is_places is_ready is_phases is_out' =
    let n = length t.phases in
    let lt : job < n = omega (arith, place_within t.places job n on, calm.fits.for_places) in
    let is = on_ready t job (calm.fits.stands job lt (λ e. absurd (omega (arith, lt, e)))) on in
    let wanted : phase_of t.phases job ≡ Wanted = is.0 in
    let popped = Fits-pop t n job n places ready calm.fits on is_places (omega (arith, is_ready, ap one_if (eq-eqb n n refl))) in
    let t1 = changed t t.phases t.ends t.passed places ready t.out t.finished in
    let phased : Fits (changed t phases t.ends t.passed places ready out t.finished) n job = Fits-phase t1 n job Out phases out popped lt is_phases (λ e. absurd (cc)) (λ o e. absurd (cc)) (omega (arith, is_out', ap (λ x. one_if (is_out x)) wanted)) in
    let t2 = changed t phases t.ends t.passed places ready out t.finished in
    let count : length phases ≡ n = ap length is_phases ∙ length-set t.phases job Out in
    let here : Stands t2 n job = Is_out (ap (λ xs. phase_of xs job) is_phases ∙ get_or-set_same t.phases job Out Asleep lt) is.1 (ap (λ xs. choice_at xs job) is_places ∙ get_or-set_same t.places job None None (omega (arith, lt, calm.fits.for_places))) in
    let none : (pile : ℕ) → NoneOn t pile → NoneOn t2 pile = λ pile h other. subst (λ (xs : List (Option ℕ)). choice_at xs other ≢ Some pile) (sym is_places) (NoneOn-set t.places job None pile h (λ e. absurd (cc)) other) in
    record {
      fits = Fits-current t2 n (length phases) (length phases) (sym count) (Fits-drop t2 n job phased here);
      none_ends = NoneOn-count t2 (n + 1) (length phases + 1) (omega (arith, count)) (none (n + 1) calm.none_ends);
      none_woken = NoneOn-count t2 (n + 2) (length phases + 2) (omega (arith, count)) (none (n + 2) calm.none_woken);
      awake = subst (λ xs. (a input : ℕ) → phase_of xs a ≢ Asleep → Needs t.inputs a input → phase_of xs input ≢ Asleep) (sym is_phases) (awake-set t.inputs t.phases job Out (λ e. absurd (cc)) (λ e. absurd (cc)) calm.awake);
    }

-- a job that is handed out comes into the hand, in another phase
pub Fits-out : (t : Tables) (job : ℕ) (phase : Phase) (phases : List Phase) (out : ℕ) → IsCalm t → phase_of t.phases job ≡ Out → is_out phase ≡ false → phases ≡ set t.phases job phase → out + 1 ≡ t.out → Fits (changed t phases t.ends t.passed t.places t.ready out t.finished) (length phases) job
Fits-out t job phase phases out calm is isnt is_phases is_out' =
    let n = length t.phases in
    let lt : job < n = is_job t.phases job (λ e. absurd (cc)) in
    let count : length phases ≡ n = ap length is_phases ∙ length-set t.phases job phase in
    Fits-current (changed t phases t.ends t.passed t.places t.ready out t.finished) n (length phases) job (sym count) (Fits-phase t n job phase phases out (Fits-hold t n job calm.fits) lt is_phases (λ e. absurd (cc)) (λ o e. absurd (cc)) (omega (arith, is_out', ap (λ x. one_if (is_out x)) is, ap one_if isnt)))

-- what is said of a job in the hand that was handed out
pub held_out : (t : Tables) (job : ℕ) (phase : Phase) (phases : List Phase) → IsCalm t → phase_of t.phases job ≡ Out → phases ≡ set t.phases job phase → (phase_of phases job ≡ phase) × (choice_at t.ends job ≡ None) × (choice_at t.places job ≡ None) × (job < length t.phases) × (length phases ≡ length t.phases)
held_out t job phase phases calm is is_phases =
    let lt : job < length t.phases = is_job t.phases job (λ e. absurd (cc)) in
    let free = when_out t (length t.phases) job (calm.fits.stands job lt (λ e. absurd (omega (arith, lt, e)))) is in
    (ap (λ xs. phase_of xs job) is_phases ∙ get_or-set_same t.phases job phase Asleep lt, free.0, free.1, lt, ap length is_phases ∙ length-set t.phases job phase)

-- a job that was handed out is filed again
pub calm_put_back : (t t' : Tables) (job : ℕ) (phases : List Phase) (out : ℕ) → IsCalm t → phase_of t.phases job ≡ Out → phases ≡ set t.phases job Wanted → out + 1 ≡ t.out → IsFiled (changed t phases t.ends t.passed t.places t.ready out t.finished) job t' → IsCalm t'
calm_put_back t t' job phases out calm is is_phases is_out' filed =
    let t1 = changed t phases t.ends t.passed t.places t.ready out t.finished in
    let held = held_out t job Wanted phases calm is is_phases in
    let count = held.4 in
    let lt : job < length phases = omega (arith, held.3, count) in
    let f = Fits-out t job Wanted phases out calm is refl is_phases is_out' in
    let fits : Fits t' (length phases) (length t'.phases) = Fits-file t1 t' (length phases) job f lt held.0 held.1 held.2 filed in
    let same : t'.phases ≡ phases = ap (λ x. x.phases) filed.is in
    let same_inputs : t'.inputs ≡ t.inputs = ap (λ x. x.inputs) filed.is in
    let in_range : (input : ℕ) → Needs t.inputs job input → input < length phases = λ input needs. f.in_range job input needs in
    let none : (pile : ℕ) → length phases < pile → NoneOn t pile → NoneOn t' pile = λ pile past h. NoneOn-file t1 t' job pile filed in_range past h in
    record {
      fits = Fits-current t' (length phases) (length t'.phases) (length t'.phases) (ap length (sym same)) fits;
      none_ends = none (length t'.phases + 1) (omega (arith, ap length same)) (NoneOn-count t (length t.phases + 1) (length t'.phases + 1) (omega (arith, ap length same, count)) calm.none_ends);
      none_woken = none (length t'.phases + 2) (omega (arith, ap length same)) (NoneOn-count t (length t.phases + 2) (length t'.phases + 2) (omega (arith, ap length same, count)) calm.none_woken);
      awake = subst (λ is. (a input : ℕ) → phase_of t'.phases a ≢ Asleep → Needs is a input → phase_of t'.phases input ≢ Asleep) (sym same_inputs) (subst (λ xs. (a input : ℕ) → phase_of xs a ≢ Asleep → Needs t.inputs a input → phase_of xs input ≢ Asleep) (sym (same ∙ is_phases)) (awake-set t.inputs t.phases job Wanted (λ e. absurd (cc)) (λ e. absurd (cc)) calm.awake));
    }

-- there is room for one more job that is handed out
pub out_room : (t : Tables) (job : ℕ) → IsCalm t → choice_at t.places job ≡ Some (length t.phases) → t.out + 1 < 2 ^ 32
out_room t job calm on =
    let lt : job < length t.phases = omega (arith, place_within t.places job (length t.phases) on, calm.fits.for_places) in
    let is = on_ready t job (calm.fits.stands job lt (λ e. absurd (omega (arith, lt, e)))) on in
    let wanted : phase_of t.phases job ≡ Wanted = is.0 in
    omega (arith, out_lt t (length t.phases) (length t.phases) job calm.fits lt (λ e. absurd (cc)), calm.fits.small)

-- what it takes that a job was filed
pub Filed : (t : Tables) (job pile from : ℕ) (places : List (Option ℕ)) (ready : ℕ) → places ≡ set t.places job (Some pile) → ready ≡ t.ready + one_if (nat_eq pile (length t.phases)) → ((index : ℕ) → passed_of t.passed job ≤ index → index < from → HasEnd t.ends (get_or (inputs_of t.inputs job) index 0)) → ((pile ≡ length t.phases) × (from ≡ length (inputs_of t.inputs job))) ⊎ (Needs t.inputs job pile × (choice_at t.ends pile ≡ None)) → IsFiled t job (changed t t.phases t.ends (set t.passed job from) places ready t.out t.finished)
Filed t job pile from places ready is_places is_ready seen where_to = record {
  pile = pile;
  from = from;
  is = cc;
  seen = seen;
  where_to = where_to;
}

-- a job that was handed out is put on the pile of jobs that end
pub Fits-ending : (t : Tables) (job : ℕ) (phase : Phase) (phases : List Phase) (places : List (Option ℕ)) (out : ℕ) → IsCalm t → phase_of t.phases job ≡ Out → is_out phase ≡ false → (phase ≡ Done) ⊎ ((other : ℕ) × (phase ≡ Waits other) × (other < length t.phases) × HasEnd t.ends other) → phases ≡ set t.phases job phase → out + 1 ≡ t.out → places ≡ set t.places job (Some (length t.phases + 1)) → Fits (changed t phases t.ends t.passed places t.ready out t.finished) (length phases) (length phases)
Fits-ending t job phase phases places out calm is isnt kind is_phases is_out' is_places =
    let held = held_out t job phase phases calm is is_phases in
    let count = held.4 in
    let t1 = changed t phases t.ends t.passed t.places t.ready out t.finished in
    let t2 = changed t phases t.ends t.passed places t.ready out t.finished in
    let f = Fits-out t job phase phases out calm is isnt is_phases is_out' in
    let n = length t.phases in
    let placed : Fits t2 (length phases) job = Fits-place t1 (length phases) job (Some (n + 1)) places t.ready f (omega (arith, held.3, count)) is_places (omega (arith, ap (λ x. one_if (is_on (length phases) x)) held.2, ap one_if (is_on-other (length phases) (n + 1) (λ e. absurd (omega (arith, count, e)))))) in
    let on : choice_at places job ≡ Some (length phases + 1) = ap (λ xs. choice_at xs job) is_places ∙ get_or-set_same t.places job (Some (n + 1)) None (omega (arith, held.3, calm.fits.for_places)) ∙ ap (λ x. Some (x + 1)) (sym count) in
    let here : Stands t2 (length phases) job = ⊎_elim
    (λ (d : phase ≡ Done). Ends (held.0 ∙ d) held.1 on)
    (λ (w : (other : ℕ) × (phase ≡ Waits other) × (other < n) × HasEnd t.ends other). Passes_on w.0 (held.0 ∙ w.1) held.1 on (omega (arith, w.2, count)) w.3)
    kind in
    Fits-drop t2 (length phases) job placed here

-- a job that was handed out waits on one that isn't finished
pub calm_await : (t : Tables) (job other : ℕ) (phases : List Phase) (places : List (Option ℕ)) (out : ℕ) → IsCalm t → phase_of t.phases job ≡ Out → other < length t.phases → choice_at t.ends other ≡ None → phases ≡ set t.phases job (Waits other) → out + 1 ≡ t.out → places ≡ set t.places job (Some other) → IsCalm (changed t phases t.ends t.passed places t.ready out t.finished)
calm_await t job other phases places out calm is lt opens is_phases is_out' is_places =
    let held = held_out t job (Waits other) phases calm is is_phases in
    let count = held.4 in
    let t1 = changed t phases t.ends t.passed t.places t.ready out t.finished in
    let t2 = changed t phases t.ends t.passed places t.ready out t.finished in
    let f = Fits-out t job (Waits other) phases out calm is refl is_phases is_out' in
    let placed : Fits t2 (length phases) job = Fits-place t1 (length phases) job (Some other) places t.ready f (omega (arith, held.3, count)) is_places (omega (arith, ap (λ x. one_if (is_on (length phases) x)) held.2, ap one_if (is_on-other (length phases) other (λ e. absurd (omega (arith, lt, count, e)))))) in
    let on : choice_at places job ≡ Some other = ap (λ xs. choice_at xs job) is_places ∙ get_or-set_same t.places job (Some other) None (omega (arith, held.3, calm.fits.for_places)) in
    let here : Stands t2 (length phases) job = Awaits other held.0 held.1 on (omega (arith, lt, count)) (inl opens) in
    let none : (pile : ℕ) → length phases < pile → NoneOn t pile → NoneOn t2 pile = λ pile past h x. subst (λ (xs : List (Option ℕ)). choice_at xs x ≢ Some pile) (sym is_places) (NoneOn-set t.places job (Some other) pile h (λ e. let same : other ≡ pile = cc in absurd (omega (arith, lt, count, past, same))) x) in
    record {
      fits = Fits-drop t2 (length phases) job placed here;
      none_ends = none (length phases + 1) (omega arith) (NoneOn-count t (length t.phases + 1) (length phases + 1) (omega (arith, count)) calm.none_ends);
      none_woken = none (length phases + 2) (omega arith) (NoneOn-count t (length t.phases + 2) (length phases + 2) (omega (arith, count)) calm.none_woken);
      awake = subst (λ xs. (a input : ℕ) → phase_of xs a ≢ Asleep → Needs t.inputs a input → phase_of xs input ≢ Asleep) (sym is_phases) (awake-set t.inputs t.phases job (Waits other) (λ e. absurd (cc)) (λ e. absurd (cc)) calm.awake);
    }

-- nothing is woken while a job that was handed out ends
pub none_woken_ending : (t : Tables) (job pile : ℕ) (places : List (Option ℕ)) → NoneOn t (length t.phases + 2) → places ≡ set t.places job (Some pile) → pile ≡ length t.phases + 1 → (other : ℕ) → choice_at places other ≢ Some (length t.phases + 2)
none_woken_ending t job pile places none is past other = subst (λ (xs : List (Option ℕ)). choice_at xs other ≢ Some (length t.phases + 2)) (sym is) (NoneOn-set t.places job (Some pile) (length t.phases + 2) none (λ e. let same : pile ≡ length t.phases + 2 = cc in absurd (omega (arith, past, same))) other)

-- the jobs are calm once all ends were passed on
pub calm_settled : (t t' : Tables) (job : ℕ) (phase : Phase) (phases : List Phase) → IsCalm t → phase_of t.phases job ≡ Out → phase ≢ Asleep → phases ≡ set t.phases job phase → Fits t' (length t'.phases) (length t'.phases) → NoneOn t' (length t'.phases + 1) → NoneOn t' (length t'.phases + 2) → t'.inputs ≡ t.inputs → t'.phases ≡ phases → IsCalm t'
calm_settled t t' job phase phases calm is awake is_phases fits none_ends none_woken same_inputs same = record {
  fits = fits;
  none_ends = none_ends;
  none_woken = none_woken;
  awake = subst (λ is. (a input : ℕ) → phase_of t'.phases a ≢ Asleep → Needs is a input → phase_of t'.phases input ≢ Asleep) (sym same_inputs) (subst (λ xs. (a input : ℕ) → phase_of xs a ≢ Asleep → Needs t.inputs a input → phase_of xs input ≢ Asleep) (sym (same ∙ is_phases)) (awake-set t.inputs t.phases job phase (λ e. absurd (cc)) awake calm.awake));
}

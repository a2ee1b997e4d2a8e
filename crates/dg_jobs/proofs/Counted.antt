use Rattle.std.proofs.Common.{◌≡◌, ◌+◌, ◌<◌, ◌≤◌, ℕ, zero, suc, Bool, true, false, cond, Option, Some, None, List, [], ◌∷◌, length, get_or, take, count_by, is_some, add-one, refl, sym, ap, ◌∙◌, subst, inl, inr, ⊎_elim, arith}
use Rattle.std.proofs.lemmas.Bool.{cases_Bool, eqb-true, eq-eqb}
use Rattle.std.proofs.lemmas.List.{take_all}
use Rattle.std.proofs.lemmas.List.Sums.{count_by_more_yes, count_by_more_no, sum_by-cons}
use Rattle.dg_jobs.specs.declared.phase.Phase.{Phase}
use Rattle.dg_jobs.specs.declared.phase.Phase.TheVariants.{Asleep, Wanted, Out, Waits, Done}
use Rattle.dg_jobs.specs.Board.{Tables, IsCalm, HasEnd, is_on, is_out}
use Rattle.dg_jobs.specs.Counts.{HasCount}
use Rattle.dg_jobs.specs.Jobs.{phase_of, EndsAt, Follows, IsFinished, IsOut, IsReady}
use Rattle.dg_jobs.specs.Piles.{choice_at}
use Rattle.dg_jobs.proofs.Filing.{end_is_finished, finished_has_end, follows_has_end, on_is_ready, ready_is_on}

-- a test that tells which numbers have the property counts them
HasCount-front : {X : Type 0} (P : ℕ → Type 0) (p : X → Bool) (xs : List X) (d : X) → ((k : ℕ) → p (get_or xs k d) ≡ true → P k) → ((k : ℕ) → P k → p (get_or xs k d) ≡ true) → (n : ℕ) → n ≤ length xs → HasCount P n (count_by p (take n xs))
HasCount-front P p xs d sound complete zero le = refl
HasCount-front P p xs d sound complete (suc n) le =
    let rest = HasCount-front P p xs d sound complete n (omega arith) in
    let next : count_by p (take (n + 1) xs) ≡ count_by p (take (suc n) xs) = ap (λ x. count_by p (take x xs)) (add-one n) in
    ⊎_elim
    (λ (yes : p (get_or xs n d) ≡ true). inl (sound n yes, count_by p (take n xs), omega (arith, next, count_by_more_yes p xs n d (omega arith) yes), rest))
    (λ (fails : p (get_or xs n d) ≡ false).
    let e : count_by p (take (suc n) xs) ≡ count_by p (take n xs) = omega (arith, next, count_by_more_no p xs n d (omega arith) fails) in
    inr ((λ has. absurd (let h = complete n has in cc)), subst (λ x. HasCount P n x) (sym e) rest))
    (cases_Bool (p (get_or xs n d)))

HasCount-list : {X : Type 0} (P : ℕ → Type 0) (p : X → Bool) (xs : List X) (d : X) (n count : ℕ) → length xs ≡ n → count_by p xs ≡ count → ((k : ℕ) → p (get_or xs k d) ≡ true → P k) → ((k : ℕ) → P k → p (get_or xs k d) ≡ true) → HasCount P n count
HasCount-list P p xs d n count len is sound complete =
    subst (λ x. HasCount P x count) len (subst (λ x. HasCount P (length xs) x) (ap (λ ys. count_by p ys) (take_all (length xs) xs (omega arith)) ∙ is) (HasCount-front P p xs d sound complete (length xs) (omega arith)))

out_test : (p : Phase) → is_out p ≡ true → p ≡ Out
out_test Asleep e = absurd (cc)
out_test Wanted e = absurd (cc)
out_test Out e = refl
out_test (Waits other) e = absurd (cc)
out_test Done e = absurd (cc)

on_test : (pile : ℕ) (o : Option ℕ) → is_on pile o ≡ true → o ≡ Some pile
on_test pile None e = absurd (cc)
on_test pile (Some other) e = ap (λ x. Some x) (eqb-true other pile e)

end_test : (ends : List (Option ℕ)) (job : ℕ) (o : Option ℕ) → choice_at ends job ≡ o → is_some o ≡ true → HasEnd ends job
end_test ends job None is e = absurd (cc)
end_test ends job (Some last) is e = (last, is)

pub count_ready : (t : Tables) (n : ℕ) → IsCalm t → length t.phases ≡ n → HasCount (IsReady t.inputs t.phases) n t.ready
count_ready t n calm len = HasCount-list (IsReady t.inputs t.phases) (is_on (length t.phases)) t.places None n t.ready (calm.fits.for_places ∙ len) calm.fits.ready (λ k e. on_is_ready t calm k (on_test (length t.phases) (choice_at t.places k) e)) (λ k ready. ap (is_on (length t.phases)) (ready_is_on t calm k ready) ∙ eq-eqb (length t.phases) (length t.phases) refl)

pub count_out : (t : Tables) (n : ℕ) → IsCalm t → length t.phases ≡ n → HasCount (IsOut t.phases) n t.out
count_out t n calm len = HasCount-list (IsOut t.phases) is_out t.phases Asleep n t.out len calm.fits.out (λ k e. out_test (phase_of t.phases k) e) (λ k out. ap is_out out)

pub count_finished : (t : Tables) (n : ℕ) → IsCalm t → length t.phases ≡ n → HasCount (IsFinished t.phases) n t.finished
count_finished t n calm len = HasCount-list (IsFinished t.phases) is_some t.ends None n t.finished (calm.fits.for_ends ∙ len) calm.fits.finished (λ k e. end_is_finished t calm k (end_test t.ends k (choice_at t.ends k) refl e)) (λ k finished. let has = finished_has_end t calm k finished in ap (λ o. is_some o) has.1)

-- where something is counted, it is somewhere
some_counted : {X : Type 0} (p : X → Bool) (d : X) (xs : List X) → 1 ≤ count_by p xs → (i : ℕ) × (p (get_or xs i d) ≡ true)
some_counted p d [] h = absurd (omega arith)
some_counted p d (x ∷ xs) h =
    ⊎_elim
    (λ (yes : p x ≡ true). (0, yes))
    (λ (fails : p x ≡ false). let rest = some_counted p d xs (omega (arith, h, sum_by-cons (λ y. cond (p y) 1 0) x xs, none_when fails)) in (suc rest.0, rest.1))
    (cases_Bool (p x))
  where
    none_when : {b : Bool} → b ≡ false → cond {A = ℕ} b 1 0 ≡ 0
    none_when {b} e = subst (λ x. cond {A = ℕ} x 1 0 ≡ 0) (sym e) refl

pub some_out : (t : Tables) → IsCalm t → 0 < t.out → (job : ℕ) × IsOut t.phases job
some_out t calm pos = let found = some_counted is_out Asleep t.phases (omega (arith, calm.fits.out, pos)) in (found.0, out_test (phase_of t.phases found.0) found.1)

-- a job has one end at most
Follows-unique : (phases : List Phase) (steps steps' : ℕ) (job last last' : ℕ) → Follows phases steps job last → Follows phases steps' job last' → last ≡ last'
Follows-unique phases zero zero job last last' f g = sym f.0 ∙ g.0
Follows-unique phases zero (suc steps') job last last' f g = absurd (let a = f.1 in let b = g.1 in cc)
Follows-unique phases (suc steps) zero job last last' f g = absurd (let a = f.1 in let b = g.1 in cc)
Follows-unique phases (suc steps) (suc steps') job last last' f g =
    let a = f.1 in
    let b = g.1 in
    let e : g.0 ≡ f.0 = cc in
    Follows-unique phases steps steps' f.0 last last' f.2 (subst (λ x. Follows phases steps' x last') e g.2)

pub EndsAt-unique : (phases : List Phase) (job last last' : ℕ) → EndsAt phases job last → EndsAt phases job last' → last ≡ last'
EndsAt-unique phases job last last' f g = Follows-unique phases f.0 g.0 job last last' f.1 g.1

pub end_noted : (t : Tables) → IsCalm t → (job last : ℕ) → EndsAt t.phases job last → choice_at t.ends job ≡ Some last
end_noted t calm job last ends =
    let has = follows_has_end t calm ends.0 job last ends.1 in
    has.1 ∙ ap (λ x. Some x) (EndsAt-unique t.phases job has.0 last (calm.fits.lasts job has.0 has.1) ends)

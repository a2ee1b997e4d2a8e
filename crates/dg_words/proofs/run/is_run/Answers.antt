use Rattle.std.proofs.Common.{◌≡◌, ◌<◌, length, true, false, refl, rules}
use Rattle.std.proofs.lemmas.Bool.{false≢true}
use Rattle.std.proofs.lemmas.List.{length-map, nil_from_length}
use Rattle.dg_words.proofs.RunLemmas.{seen_begins, workers_seen, generate_seen, workers_again, generate_again, none_seen, all_seen}
use Rattle.dg_words.proofs.run.is_run.Goals as goal

pub loop-left-init : goal.loop-left-init
loop-left-init c = seen_begins _

pub returns-in_default : goal.returns-in_default
returns-in_default c =
    let some : 0 < length c.loop-left.left.now = search rules in
    record { exact = (λ yes. absurd (false≢true yes), λ run. absurd (none_seen _ _ _ _ c.loop-left.invariant (rw length-map some) c.in_default.ensures.exact run)) }

pub returns-in_default-flag : goal.returns-in_default-flag
returns-in_default-flag c =
    let seen : c.loop-left.workers ≡ true = search rules in
    record { exact = (λ yes. absurd (false≢true yes), λ run. absurd (workers_again _ _ _ _ (rw seen at c.loop-left.invariant) (rw c.in-Workers.is at c.in-Some.ensures.exact) run)) }

pub returns-in_default-flag-2 : goal.returns-in_default-flag-2
returns-in_default-flag-2 c =
    let seen : c.loop-left.generate ≡ true = search rules in
    record { exact = (λ yes. absurd (false≢true yes), λ run. absurd (generate_again _ _ _ _ (rw seen at c.loop-left.invariant) (rw c.in-Generate.is at c.in-Some.ensures.exact) run)) }

pub loop-left-preserved-in-Workers : goal.loop-left-preserved-in-Workers
loop-left-preserved-in-Workers c =
    let new : c.loop-left.workers ≡ false = search rules in
    workers_seen _ _ _ _ (rw new at c.loop-left.invariant) (rw c.in-Workers.is at c.in-Some.ensures.exact)

pub loop-left-preserved : goal.loop-left-preserved
loop-left-preserved c =
    let new : c.loop-left.generate ≡ false = search rules in
    generate_seen _ _ _ _ (rw new at c.loop-left.invariant) (rw c.in-Generate.is at c.in-Some.ensures.exact)

pub returns : goal.returns
returns c =
    let none : length c.loop-left.left.now ≡ 0 = search rules in
    record { exact = (λ yes. all_seen _ _ _ _ c.loop-left.invariant (nil_from_length _ (rw length-map none)), λ run. refl) }

use Rattle.std.proofs.Common.{◌≡◌, ◌<◌, ◌+◌, ℕ, Option, Some, None, length, set, sym, ◌∙◌, ap, subst, arith}
use Rattle.std.proofs.lemmas.List.{get_or_read}
use Rattle.dg_jobs.specs.Piles.{choice_at, AreStacked}
use Rattle.dg_jobs.proofs.PileLaws.{AreStacked-push}
use Rattle.dg_jobs.proofs.piles.Piles.push.Goals as goal

pub invariant_of-self : goal.invariant_of-self
invariant_of-self c =
    let s = c.self.inside in
    let same : s.place.items ≡ c.args.self.now = c.self.view_is in
    let pile : c.args.pile < length s.place.items + 3 = omega (arith, ap length same, c.requires.pile) in
    let job : c.args.job < length s.place.items = omega (arith, ap length same, c.requires.job) in
    let free : choice_at s.place.items c.args.job ≡ None = ap (λ xs. choice_at xs c.args.job) same ∙ c.requires.free in
    let read : c.index.result.now ≡ choice_at s.top.items c.args.pile = get_or_read s.top.items c.args.pile c.index.result.now (omega (arith, c.self.invariant.tops, pile)) c.index.ensures None in
    let Q : Option ℕ → Type 0 = λ b. AreStacked (set s.place.items c.args.job (Some c.args.pile)) (set s.below.items c.args.job b) (set s.top.items c.args.pile (Some c.args.job)) in
    subst Q (sym read) (AreStacked-push s.place.items s.below.items s.top.items c.args.pile c.args.job c.self.invariant pile job free)

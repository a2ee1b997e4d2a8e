use Rattle.std.proofs.Common.{◌≡◌, ◌<◌, ◌+◌, ℕ, List, Option, Some, None, length, set, get_or, refl, sym, ◌∙◌, ap, subst, arith}
use Rattle.std.proofs.lemmas.List.{get_or_read}
use Rattle.dg_jobs.specs.Piles.{choice_at, AreStacked}
use Rattle.dg_jobs.specs.declared.piles.Piles.TheInside.{Inside}
use Rattle.dg_jobs.proofs.PileLaws.{AreStacked-pop, top_is_on, none_is_on, some_within}
use Rattle.dg_jobs.proofs.piles.Piles.pop.Goals as goal

-- what the call reads is the top of the pile
top_read : (s : Inside) (old : List (Option ℕ)) (pile : ℕ) (r v : Option ℕ) → AreStacked s.place.items s.below.items s.top.items → s.place.items ≡ old → pile < length old + 3 → r ≡ get_or s.top.items pile r → r ≡ v → choice_at s.top.items pile ≡ v
top_read s old pile r v stacked same lt read is = sym (get_or_read s.top.items pile r (omega (arith, stacked.tops, ap length same, lt)) read None) ∙ is

pub returns-in_default : goal.returns-in_default
returns-in_default c =
    let s = c.self.inside in
    let top = top_read s c.args.self.now c.args.pile c.index.result.now None c.self.invariant c.self.view_is c.requires c.index.ensures c.in_default.is in
    let none = none_is_on s.place.items s.below.items s.top.items c.args.pile c.self.invariant top in
    record { exact = (refl, λ job on. none job (ap (λ xs. choice_at xs job) c.self.view_is ∙ on)) }

is_job : (s : Inside) (old : List (Option ℕ)) (pile job : ℕ) (r : Option ℕ) → AreStacked s.place.items s.below.items s.top.items → s.place.items ≡ old → pile < length old + 3 → r ≡ get_or s.top.items pile r → r ≡ Some job → (choice_at s.top.items pile ≡ Some job) × (choice_at s.place.items job ≡ Some pile) × (job < length s.place.items) × (job < length s.below.items)
is_job s old pile job r stacked same lt read is =
    let top = top_read s old pile r (Some job) stacked same lt read is in
    let on = top_is_on s.place.items s.below.items s.top.items pile job stacked top in
    let within = some_within s.place.items job pile on in
    (top, on, within, omega (arith, within, stacked.belows))

pub index-requires-2 : goal.index-requires-2
index-requires-2 c =
    let j = is_job c.self.inside c.args.self.now c.args.pile c.in-Some.job c.index.result.now c.self.invariant c.self.view_is c.requires c.index.ensures c.in-Some.is in
    omega (arith, j.3, c.self.inside.below.ok.0)

pub index_mut-requires-2 : goal.index_mut-requires-2
index_mut-requires-2 c =
    let j = is_job c.self.inside c.args.self.now c.args.pile c.in-Some.job c.index.result.now c.self.invariant c.self.view_is c.requires c.index.ensures c.in-Some.is in
    omega (arith, j.3, c.self.inside.below.ok.0)

pub index_mut-requires-3 : goal.index_mut-requires-3
index_mut-requires-3 c =
    let j = is_job c.self.inside c.args.self.now c.args.pile c.in-Some.job c.index.result.now c.self.invariant c.self.view_is c.requires c.index.ensures c.in-Some.is in
    omega (arith, j.2, c.self.inside.place.ok.0)

pub invariant_of-self : goal.invariant_of-self
invariant_of-self c =
    let s = c.self.inside in
    let job = c.in-Some.job in
    let j = is_job s c.args.self.now c.args.pile job c.index.result.now c.self.invariant c.self.view_is c.requires c.index.ensures c.in-Some.is in
    let read : c.index-2.result.now ≡ choice_at s.below.items job = get_or_read s.below.items job c.index-2.result.now j.3 c.index-2.ensures None in
    let Q : Option ℕ → Type 0 = λ b. AreStacked (set s.place.items job None) (set s.below.items job None) (set s.top.items c.args.pile b) in
    subst Q (sym read) (AreStacked-pop s.place.items s.below.items s.top.items c.args.pile job c.self.invariant j.0)

pub returns : goal.returns
returns c =
    let s = c.self.inside in
    let job = c.in-Some.job in
    let j = is_job s c.args.self.now c.args.pile job c.index.result.now c.self.invariant c.self.view_is c.requires c.index.ensures c.in-Some.is in
    record { exact = (sym (ap (λ xs. choice_at xs job) c.self.view_is) ∙ j.1, ap (λ xs. set xs job None) c.self.view_is) }

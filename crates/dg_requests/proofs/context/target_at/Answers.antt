use Rattle.std.proofs.Common.{sym, ◌∙◌}
use Rattle.dg_requests.proofs.ContextLemmas.{finds_target, target_from, target_up, target_is_there}
use Rattle.dg_requests.proofs.context.target_at.Goals as goal

pub returns-in-Some-parent_up-clause-exact : goal.returns-in-Some-parent_up-clause-exact
returns-in-Some-parent_up-clause-exact c = λ doc plan of k m n d asks.
    let world = c.args.world.now in
    let x = c.args.input.now in
    target_is_there doc world c.args.inst n d x
    (finds_target doc plan world of c.args.inst k m n d x asks) c.in-Some.from
    c.in-Some-parent_up.inst c.parent_up.result
    (sym c.counted_from.ensures.exact ∙ c.in-Some.is) c.parent_up.ensures.exact
    c.in-Some-parent_up.is

pub returns-in-None-parent_up-clause-exact : goal.returns-in-None-parent_up-clause-exact
returns-in-None-parent_up-clause-exact c = λ doc plan of k m n d asks.
    let world = c.args.world.now in
    let x = c.args.input.now in
    absurd (target_up doc world c.args.inst n d x
    (finds_target doc plan world of c.args.inst k m n d x asks) c.in-Some.from c.parent_up.result
    (sym c.counted_from.ensures.exact ∙ c.in-Some.is) c.parent_up.ensures.exact
    c.in-None-parent_up.is)

pub returns-in-None-parent_up-clause-found : goal.returns-in-None-parent_up-clause-found
returns-in-None-parent_up-clause-found c = λ doc plan of k m n d asks.
    let world = c.args.world.now in
    let x = c.args.input.now in
    absurd (target_up doc world c.args.inst n d x
    (finds_target doc plan world of c.args.inst k m n d x asks) c.in-Some.from c.parent_up.result
    (sym c.counted_from.ensures.exact ∙ c.in-Some.is) c.parent_up.ensures.exact
    c.in-None-parent_up.is)

pub returns-in-None-clause-exact : goal.returns-in-None-clause-exact
returns-in-None-clause-exact c = λ doc plan of k m n d asks.
    let world = c.args.world.now in
    let x = c.args.input.now in
    absurd (target_from doc world c.args.inst n d x
    (finds_target doc plan world of c.args.inst k m n d x asks)
    (sym c.counted_from.ensures.exact ∙ c.in-None.is))

pub returns-in-None-clause-found : goal.returns-in-None-clause-found
returns-in-None-clause-found c = λ doc plan of k m n d asks.
    let world = c.args.world.now in
    let x = c.args.input.now in
    absurd (target_from doc world c.args.inst n d x
    (finds_target doc plan world of c.args.inst k m n d x asks)
    (sym c.counted_from.ensures.exact ∙ c.in-None.is))

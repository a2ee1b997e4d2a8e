use Rattle.std.proofs.Common.{◌-◌, ◌<◌, length, get_or, refl, ap, ◌∙◌, arith}
use Rattle.std.proofs.lemmas.List.{get_or_read, take_all}
use Rattle.dg_num.specs.Counts.{count_of}
use Rattle.dg_num.proofs.Peels.{Releasing-enough, Releasing-push, Releasing-skip}
use Rattle.dg_num.proofs.peeling.release.Goals as goal
use Rattle.dg_num.proofs.peeling.release.Goals.{then-left-eq0+in_ok-push, else-left-eq0}

pub overflow_sub-left : goal.overflow_sub-left
overflow_sub-left c =
    let at = get_or c.args.row.now c.loop-node.node-index 0 in
    let within : at < length c.args.missing.now.items =
    omega (arith, c.requires.within c.loop-node.node-index 0 c.loop-node-test.true) in
    let enough = Releasing-enough c.args.missing.now.items c.args.ready.now.items c.args.row.now
    c.loop-node.missing.items c.loop-node.ready.items c.loop-node.node-index at
    c.loop-node.invariant c.loop-node-test.true refl within
    (c.requires.enough at (omega arith)) in
    omega (
      arith,
      enough,
      get_or_read c.loop-node.missing.items at c.index.result.now
          (omega (arith, within, c.loop-node.invariant.len)) c.index.ensures 0,
    )

pub loop-node-preserved : goal.loop-node-preserved
loop-node-preserved c =
    let at = get_or c.args.row.now c.loop-node.node-index 0 in
    let old = c.loop-node.missing.items in
    let within : at < length c.args.missing.now.items =
    omega (arith, c.requires.within c.loop-node.node-index 0 c.loop-node-test.true) in
    let enough = Releasing-enough c.args.missing.now.items c.args.ready.now.items c.args.row.now old
    c.loop-node.ready.items c.loop-node.node-index at c.loop-node.invariant
    c.loop-node-test.true refl within (c.requires.enough at (omega arith)) in
    let read = get_or_read old at c.index.result.now
    (omega (arith, within, c.loop-node.invariant.len)) c.index.ensures 0 in
    elim c.if-left-eq0.branch [
      | then-left-eq0+in_ok-push w ↦ Releasing-push c.args.missing.now.items c.args.ready.now.items
          c.args.row.now old c.loop-node.ready.items _ _ c.loop-node.node-index at
          (c.index.result.now - 1) c.loop-node.invariant c.loop-node-test.true refl within
          (omega (arith, enough, read)) w.if-left-eq0.true refl
          (ap (λ v. v.items) w.ready-is ∙ w.in_ok-push.ensures.items)
      | else-left-eq0 w ↦ Releasing-skip c.args.missing.now.items c.args.ready.now.items
          c.args.row.now old c.loop-node.ready.items _ _ c.loop-node.node-index at
          (c.index.result.now - 1) c.loop-node.invariant c.loop-node-test.true refl within
          (omega (arith, enough, read)) (omega (arith, w.if-left-eq0.false)) refl
          (ap (λ v. v.items) w.ready-is)
    ]

pub returns-clause-less : goal.returns-clause-less
returns-clause-less c = λ node h. let e =
    ap (λ xs. count_of xs node) (take_all c.loop-node.node-index c.args.row.now
    c.loop-node-test.false) in omega (arith, e, c.loop-node.invariant.less node (omega arith))

pub returns-clause-ready : goal.returns-clause-ready
returns-clause-ready c = λ node h. c.loop-node.invariant.listed node (omega arith)

use Rattle.std.proofs.Common.{◌<◌, ◌++◌, ◌∷◌, [], length, sym, ap, ◌∙◌, arith}
use Rattle.dg_num.proofs.Rows.{row_at_read, row_at-set_same, row_at-set_other}
use Rattle.dg_walks.proofs.turned.push_at.Goals as goal

pub returns-clause-pushed : goal.returns-clause-pushed
returns-clause-pushed c =
    let rows = c.args.rows.now.items in
    let within : c.args.index < length rows = omega arith in
    row_at-set_same rows c.args.index c.push.new.self within ∙ c.in_ok-push.ensures.items
    ∙ ap (λ xs. xs ++ c.args.number ∷ []) (sym
    (row_at_read rows c.args.index c.index_mut.result.now within c.index_mut.ensures.value))

pub returns-clause-others : goal.returns-clause-others
returns-clause-others c = λ other ne. row_at-set_other c.args.rows.now.items c.args.index other
    c.push.new.self ne

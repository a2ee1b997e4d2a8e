use Rattle.std.proofs.Common.{◌≡◌, Err, sym, ap, ◌∙◌}
use Rattle.dg_num.specs.declared.ranking.RankFault.TheVariants.{Cyclic}
use Rattle.dg_walks.proofs.sizes.longest_walks.Goals as goal

pub unreachable-requires : goal.unreachable-requires
unreachable-requires c =
    let node = c.in-Err-Cyclic.field-0-0 in
    let e : c.ranks.result ≡ Err (Cyclic c.in-Err-Cyclic.field-0-0) =
    c.in-Err-Cyclic.is ∙ ap Err c.in-Err-Cyclic.field-0-is in
    let least = (c.ranks.ensures.cause (λ m. cc (sym e ∙ m)) node).0 e in
    c.requires.acyclic node least.on_cycle

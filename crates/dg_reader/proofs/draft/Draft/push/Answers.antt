use Rattle.std.proofs.Common.{◌≡◌, length, arith}
use Rattle.std.proofs.lemmas.Grind.{common_steps}
use Rattle.dg_reader.proofs.DraftLemmas.{draft_behind}
use Rattle.dg_reader.proofs.draft.Draft.push.Goals as goal

pub invariant_of-self-2 : goal.invariant_of-self-2
invariant_of-self-2 c =
    let items = c.self.inside.items.items in
    let count : c.len.result ≡ length items = grind (arith, common_steps) in
    draft_behind items c.push.new.self.items c.args.item c.self.inside.header
    c.open_behind-header.result c.len.result c.self.inside.counts c.with-counts.result
    c.self.invariant c.in_ok-push.ensures.items count c.open_behind-header.ensures.exact
    (c.with-counts.ensures.exact items c.self.invariant.counted)

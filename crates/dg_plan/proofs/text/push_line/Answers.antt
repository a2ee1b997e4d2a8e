use Rattle.std.proofs.Common.{◌++◌, ap, ◌∙◌}
use Rattle.dg_decl.specs.declared.document.Doc.{Doc}
use Rattle.dg_slots.specs.declared.plan.CellKind.{CellKind}
use Rattle.dg_slots.specs.Plans.{cell_of}
use Rattle.dg_plan.specs.Counted.{head_text}
use Rattle.dg_plan.proofs.PlanLemmas.{line_is}
use Rattle.dg_plan.proofs.text.push_line.Goals as goal

pub returns : goal.returns
returns c =
    let doc = c.args.dependencies.now in
    let n = c.args.node.now in
    let k = c.args.number in
    let old = c.args.text.now.items in
    record {
      exact = line_is doc n k c.as_slice.result.now old c.push_head.new.text.items
          c.push_needs.new.text.items c.push.new.self.items
          (c.as_slice.ensures.value ∙ c.in_ok-needed.ensures.exact)
          (c.in_ok-push_head.ensures.exact
          ∙ ap (λ (d : Doc). old ++ head_text d k n c.cell_of.result) c.requires.sites
          ∙ ap (λ (cell : CellKind). old ++ head_text doc k n cell)
          (c.cell_of.ensures.exact ∙ ap (λ (d : Doc). cell_of d n) c.doc.ensures.exact))
          c.in_ok-push_needs.ensures.exact c.in_ok-push.ensures.items;
    }

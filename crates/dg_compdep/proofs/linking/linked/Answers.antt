use Rattle.std.proofs.Common.{◌≡◌, Some, ◌∙◌}
use Rattle.dg_decl.specs.Document.{statements}
use Rattle.dg_compdep.specs.Ties.{first_index}
use Rattle.dg_compdep.proofs.LinkLemmas.{linked_found}
use Rattle.dg_compdep.proofs.linking.linked.Goals as goal

pub returns-in-Some : goal.returns-in-Some
returns-in-Some c =
    let e : Some c.in-Some.index ≡ first_index c.args.tied.now c.args.from.now c.args.class
    (statements c.args.tied.now) = cc (c.in-Some.is, c.in_ok-index.ensures.exact) in
    record {
      exact = c.linked_at.ensures.exact
          ∙ linked_found c.args.tied.now c.args.from.now c.args.class c.in-Some.index e;
    }

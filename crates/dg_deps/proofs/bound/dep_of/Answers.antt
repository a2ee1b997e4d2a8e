use Rattle.std.proofs.Common.{sym, ◌∙◌}
use Rattle.dg_deps.proofs.BoundLemmas.{dep_is, dep_within}
use Rattle.dg_deps.proofs.bound.dep_of.Goals as goal

pub returns : goal.returns
returns c =
    let doc = c.args.dependencies.now in
    let is = c.dep_at.ensures.exact
    ∙ dep_is doc c.as_slice.result.now c.args.class c.args.dep
    (c.as_slice.ensures ∙ c.tree.ensures.exact) c.requires.class in
    record {
      exact = is;
      within = dep_within doc c.args.class c.args.dep c.dep_at.result (sym is);
    }

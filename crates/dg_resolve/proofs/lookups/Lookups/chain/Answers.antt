use Rattle.std.proofs.Common.{List, map, subst, ◌∙◌}
use Rattle.dg_decl.specs.declared.document.Doc.{Doc}
use Rattle.dg_resolve.specs.Known.{HaveChains}
use Rattle.dg_resolve.proofs.QueryLemmas.{chain_in}
use Rattle.dg_resolve.proofs.lookups.Lookups.chain.Goals as goal

pub returns : goal.returns
returns c =
    let class = c.args.class in
    let chains = c.self.inside.tables.chains.items in
    let have = subst (λ (d : Doc). HaveChains d (map (λ v. v.items) chains)) c.self.view_is c.self.invariant.tables.chains in
    record {
      exact = c.chain_at.ensures.exact
          ∙ chain_in (λ v. v.items) chains class
          ∙ have.each class c.requires;
    }

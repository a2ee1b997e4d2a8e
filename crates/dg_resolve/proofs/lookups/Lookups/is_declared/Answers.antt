use Rattle.std.proofs.Common.{ap, subst, ◌∙◌}
use Rattle.std.specs.List.{list_any}
use Rattle.dg_decl.specs.declared.document.Doc.{Doc}
use Rattle.dg_resolve.specs.declared.members.Wanted.TheVariants as wanted
use Rattle.dg_resolve.specs.Known.{has, HaveMembers}
use Rattle.dg_resolve.proofs.QueryLemmas.{acts_found}
use Rattle.dg_resolve.proofs.lookups.Lookups.is_declared.Goals as goal

pub returns : goal.returns
returns c =
    let tables = c.self.inside.tables.members.declarations in
    let key = c.args.plain.now in
    let have = subst (λ (d : Doc). HaveMembers d wanted.Declaration tables) c.self.view_is c.self.invariant.tables.declarations in
    record {
      exact = c.is_in_chain.ensures.exact ∙ ap (list_any (has tables key)) c.chain.ensures.exact
          ∙ acts_found c.args.self.now wanted.Declaration tables c.args.class key have c.requires;
    }

use Rattle.std.proofs.Common.{◌≡◌, List, ap, subst, ◌∙◌}
use Rattle.std.specs.Prelude.{IfOk}
use Rattle.dg_decl.specs.declared.document.Doc.{Doc}
use Rattle.dg_decl.specs.declared.binding.Owned.{Owned}
use Rattle.dg_resolve.specs.declared.members.Wanted.TheVariants as wanted
use Rattle.dg_resolve.specs.Known.{in_chain, HaveMembers}
use Rattle.dg_resolve.proofs.QueryLemmas.{contributions_found}
use Rattle.dg_resolve.proofs.lookups.Lookups.contributions_to.Goals as goal

pub returns : goal.returns
returns c =
    let tables = c.self.inside.tables.members.contributions in
    let key = c.args.plain.now in
    let have = subst (λ (d : Doc). HaveMembers d wanted.Contribution tables) c.self.view_is c.self.invariant.tables.contributions in
    record {
      exact = subst (λ (v : List Owned). IfOk c.in_chain.result (λ found. found.items ≡ v))
          (ap (in_chain tables key) c.chain.ensures.exact
          ∙ contributions_found c.args.self.now tables c.args.class key have c.requires) c.in_chain.ensures.exact;
    }

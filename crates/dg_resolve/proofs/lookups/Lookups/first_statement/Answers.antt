use Rattle.std.proofs.Common.{ap, ◌∙◌}
use Rattle.dg_resolve.specs.Keys.{opening_key}
use Rattle.dg_resolve.specs.Known.{first_item}
use Rattle.dg_resolve.proofs.lookups.Lookups.first_statement.Goals as goal

pub returns : goal.returns
returns c =
    let tables = c.opening_tables-tables.result.now in
    record {
      exact = c.first_under.ensures.exact
          ∙ ap (first_item tables (opening_key c.args.key.now)) c.chain-chain.ensures.exact
          ∙ c.opening_tables-tables.ensures.exact.each c.args.class c.requires;
    }

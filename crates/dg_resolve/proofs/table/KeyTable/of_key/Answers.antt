use Rattle.std.proofs.Common.{List, [], Option, unwrap_or, ap, ◌∙◌, rules}
use Rattle.dg_types.specs.Equality.{same_key}
use Rattle.dg_types.proofs.EqualityLemmas.{key_decides}
use Rattle.dg_decl.specs.declared.binding.Owned.{Owned}
use Rattle.dg_resolve.specs.Tables.{of_key}
use Rattle.dg_resolve.proofs.TableLemmas.{lookup-rows}
use Rattle.dg_resolve.proofs.table.KeyTable.of_key.Goals as goal

pub returns : goal.returns
unfolding same_key
returns c =
    let key = c.args.key.now in
    record {
      exact = (search rules) ∙ ap (λ (o : Option (List Owned)). unwrap_or o [])
          (lookup-rows same_key key_decides (λ g. g.items) (same_key key) c.self.inside.groups.entries)
          ∙ ap (of_key key) c.self.view_is;
    }

use Rattle.std.proofs.Common.{ℕ, nat_eq, List, [], Option, unwrap_or, ap, ◌∙◌, rules}
use Rattle.std.proofs.lemmas.Bool.Decides.{Decides-eqb}
use Rattle.dg_resolve.specs.Tables.{of_number}
use Rattle.dg_resolve.proofs.TableLemmas.{lookup-rows}
use Rattle.dg_resolve.proofs.table.NumberTable.of.Goals as goal

pub returns : goal.returns
returns c =
    let key = c.args.key in
    record {
      exact = (search rules) ∙ ap (λ (o : Option (List ℕ)). unwrap_or o [])
          (lookup-rows nat_eq Decides-eqb (λ g. g.items) (nat_eq key) c.self.inside.groups.entries)
          ∙ ap (of_number key) c.self.view_is;
    }

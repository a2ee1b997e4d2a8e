use Rattle.std.proofs.Common.{◌≡◌, ◌∙◌, ◌&&◌, ◌||◌, nat_eq, option_map, bytes_eq, ap}
use Rattle.dg_decl.specs.Components.{hilt_row}
use Rattle.dg_comps.specs.ClassTables.{has_at}
use Rattle.dg_comps.proofs.TableLemmas.{on_ok, one_hilt}
use Rattle.dg_comps.proofs.scopes.add_hilt_scope.Goals as goal

pub returns-in_ok-from_slice-in-Some : goal.returns-in_ok-from_slice-in-Some
returns-in_ok-from_slice-in-Some c = record {
  exact = on_ok c.add-in-Some.result c.add-in-Some.ensures.exact (λ adds scope k. adds scope k
      ∙ ap (λ name. has_at c.args.table.now scope k
      || (bytes_eq name scope && nat_eq k c.args.class)) c.in_ok-from_slice-in-Some.ensures.exact
      ∙ ap (λ b. has_at c.args.table.now scope k || b)
      (one_hilt scope c.in-Some.scope.now _ (nat_eq k c.args.class) c.in-Some.ensures.exact));
}

use Rattle.std.proofs.Common.{◌≡◌, ◌∙◌, ◌&&◌, ◌||◌, nat_eq, ap}
use Rattle.dg_lex.specs.Bytes.{is_among}
use Rattle.dg_comps.specs.ClassTables.{has_at}
use Rattle.dg_comps.proofs.TableLemmas.{both_scopes}
use Rattle.dg_comps.proofs.scopes.add_class.Goals as goal

pub returns : goal.returns
returns c = record {
  exact = both_scopes c.args.names.now c.args.class c.args.table.now c.add_hilt_scope.new.table
      c.add_scopes.new.table c.in_ok-add_hilt_scope.ensures.exact
      (λ scope k. c.in_ok-add_scopes.ensures.exact scope k
      ∙ ap (λ ws. has_at c.add_hilt_scope.new.table scope k
      || (is_among scope ws && nat_eq k c.args.class)) c.written_scopes.ensures.exact);
}

use Rattle.dg_decl.specs.Stages.Bindings.{bindings_at}
use Rattle.dg_rules.proofs.ListLemmas.{nine, on_ok}
use Rattle.dg_rules.proofs.bindings_stage.bindings_at.Goals as goal

pub returns : goal.returns
unfolding bindings_at
returns c = record {
  exact = on_ok c.call_cycle.result c.call_cycle.ensures.exact
      (λ e. nine _ _ _ _ _ _ _ _ _ _ _ _ _ _ _ _ _ _ _ c.in_ok-missing_binding.ensures.exact
      c.in_ok-duplicate_bindings.ensures.exact c.in_ok-incompatibly_scoped_bindings.ensures.exact
      c.in_ok-incompatibly_scoped_member.ensures.exact c.in_ok-map_keys.ensures.exact
      c.in_ok-depends_on_production.ensures.exact c.in_ok-optional_production.ensures.exact
      c.in_ok-dependency_cycle.ensures.exact e);
}

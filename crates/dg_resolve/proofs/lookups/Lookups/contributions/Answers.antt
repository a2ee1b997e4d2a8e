use Rattle.std.proofs.Common.{◌≡◌, List, ap, sym, subst, ◌∙◌}
use Rattle.std.specs.Prelude.{IfOk}
use Rattle.dg_types.specs.declared.key.Key.{Key}
use Rattle.dg_decl.specs.declared.binding.Owned.{Owned}
use Rattle.dg_resolve.specs.Known.{contributions_to}
use Rattle.dg_resolve.proofs.QueryLemmas.{contributions_are, contributions_of_optional}
use Rattle.dg_resolve.proofs.lookups.Lookups.contributions.Goals as goal

pub returns-then-is_optional : goal.returns-then-is_optional
returns-then-is_optional c =
    record {
      exact = subst (λ (v : List Owned). IfOk c.contributions_to.result (λ owned. owned.items ≡ v))
          (contributions_of_optional c.args.self.now c.args.class c.args.key.now (sym c.is_optional.ensures.exact ∙ c.if-is_optional.true))
          c.contributions_to.ensures.exact;
    }

pub returns : goal.returns
returns c =
    record {
      exact = subst (λ (v : List Owned). IfOk c.contributions_to-2.result (λ owned. owned.items ≡ v))
          (ap (contributions_to c.args.self.now c.args.class) c.in_ok-plain.ensures.exact
          ∙ contributions_are c.args.self.now c.args.class c.args.key.now (sym c.is_optional.ensures.exact ∙ c.if-is_optional.false))
          c.contributions_to-2.ensures.exact;
    }

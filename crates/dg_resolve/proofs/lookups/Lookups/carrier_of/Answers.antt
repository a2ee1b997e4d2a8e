use Rattle.std.proofs.Common.{ℕ, List, ap, subst, ◌∙◌}
use Rattle.dg_decl.specs.declared.document.Doc.{Doc}
use Rattle.dg_decl.specs.Components.{component_classes}
use Rattle.dg_lex.specs.Bytes.{Bytes}
use Rattle.dg_resolve.specs.Known.{carrier}
use Rattle.dg_resolve.proofs.QueryLemmas.{carrier_is}
use Rattle.dg_resolve.proofs.lookups.Lookups.carrier_of.Goals as goal

pub returns : goal.returns
returns c =
    let classes = c.self.inside.classes.now in
    record {
      exact = c.carrier.ensures.exact
          ∙ ap (λ (z : Bytes). carrier classes z c.chain.result.now) c.as_slice.ensures.exact
          ∙ ap (carrier classes c.args.scope.now) c.chain.ensures.exact
          ∙ carrier_is c.args.self.now classes c.args.class c.args.scope.now
          (c.self.invariant.classes ∙ ap component_classes c.self.view_is) c.requires;
    }

use Rattle.std.proofs.Common.{ℕ, subst}
use Rattle.dg_decl.specs.Bounds.{IsBounded}
use Rattle.dg_resolve.specs.Members.{AreModules}
use Rattle.dg_resolve.proofs.QueryLemmas.{count_is, few_classes}
use Rattle.dg_resolve.proofs.StatementLemmas.{installers_are}
use Rattle.dg_resolve.proofs.tables.installers_of.Goals as goal

pub installers-requires : goal.installers-requires
installers-requires c = few_classes c.args.names.now c.args.classes.now c.requires.bounded c.requires.classes

pub returns : goal.returns
returns c =
    let doc = c.args.names.now in
    let classes = c.args.classes.now in
    let table = c.in_ok-installers.field-0 in
    record {
      exact = installers_are doc classes table c.requires.classes
          (subst (λ (n : ℕ). AreModules classes n table) (count_is doc classes c.requires.classes) c.in_ok-installers.ensures.exact);
    }

use Rattle.std.proofs.Common.{◌∙◌, ap, Some, None}
use Rattle.std.specs.Option.{option_and_then}
use Rattle.dg_decl.specs.Components as components
use Rattle.dg_names.proofs.KnownLemmas.{declared_from}
use Rattle.dg_names.proofs.names.Names.declared_class.Goals as goal

pub returns-in-Some : goal.returns-in-Some
returns-in-Some c =
    let doc = c.args.self.now in
    record {
      exact = c.number_of_header.ensures.exact
          ∙ ap (option_and_then (components.number_of_header doc))
          (declared_from doc c.args.name.now (Some c.in-Some.index) c.in-Some.ensures.exact);
    }

pub returns-in-None : goal.returns-in-None
returns-in-None c =
    let doc = c.args.self.now in
    record {
      exact = ap (option_and_then (components.number_of_header doc))
          (declared_from doc c.args.name.now None c.in-None.ensures.exact);
    }

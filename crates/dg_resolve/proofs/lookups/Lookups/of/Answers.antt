use Rattle.std.proofs.Common.{List, sym, ap, subst, ◌∙◌}
use Rattle.dg_decl.specs.declared.document.Doc.{Doc}
use Rattle.dg_decl.specs.Bounds.{IsBounded}
use Rattle.dg_decl.specs.Components.{component_classes, exposed_by_class}
use Rattle.dg_decl.specs.Lookup.{bindings}
use Rattle.dg_resolve.specs.Known.{AreTables}
use Rattle.dg_resolve.proofs.lookups.Lookups.of.Goals as goal

pub tables-requires-clause-bounded : goal.tables-requires-clause-bounded
tables-requires-clause-bounded c = subst IsBounded (sym c.in_ok-names.ensures.exact) c.requires.bounded

pub tables-requires-clause-classes : goal.tables-requires-clause-classes
tables-requires-clause-classes c =
    c.as_slice-classes.ensures ∙ c.requires.classes ∙ ap component_classes (sym c.in_ok-names.ensures.exact)

pub tables-requires-clause-bindings : goal.tables-requires-clause-bindings
tables-requires-clause-bindings c = c.requires.bindings ∙ ap bindings (sym c.in_ok-names.ensures.exact)

pub tables-requires-clause-exposed : goal.tables-requires-clause-exposed
tables-requires-clause-exposed c = c.requires.exposed ∙ ap exposed_by_class (sym c.in_ok-names.ensures.exact)

pub invariant_of-result : goal.invariant_of-result
invariant_of-result c = record {
  same = c.in_ok-names.ensures.exact;
  classes = c.as_slice-classes.ensures ∙ c.requires.classes;
  tables = subst (λ (d : Doc). AreTables d c.in_ok-tables.tables) c.in_ok-names.ensures.exact c.in_ok-tables.ensures.exact;
}

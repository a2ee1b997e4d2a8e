use Rattle.std.proofs.Common.{Bool, sym, ap, subst, ◌∙◌}
use Rattle.dg_decl.specs.declared.document.Doc.{Doc}
use Rattle.dg_decl.specs.Components.{root_first}
use Rattle.dg_resolve.specs.Keys.{opening_key}
use Rattle.dg_resolve.specs.Known.{first_item, AreOpenings, AreTables}
use Rattle.dg_resolve.proofs.QueryLemmas.{first_is, table_of}
use Rattle.dg_resolve.proofs.lookups.Lookups.opening_tables.Goals as goal

pub returns-then-is_optional : goal.returns-then-is_optional
returns-then-is_optional c =
    let made = c.self.inside.tables in
    let key = c.args.key.now in
    let are = subst (λ (d : Doc). AreTables d made) c.self.view_is c.self.invariant.tables in
    record {
      exact = record {
        each = λ class lt.
            sym (ap (λ (b : Bool). first_item (table_of b made.members.optionals made.members.openings) (opening_key key) (root_first c.args.self.now class))
            (sym c.is_optional.ensures.exact ∙ c.if-is_optional.true))
            ∙ first_is c.args.self.now made.members.optionals made.members.openings class key are.optionals are.openings lt;
      };
    }

pub returns-else-is_optional : goal.returns-else-is_optional
returns-else-is_optional c =
    let made = c.self.inside.tables in
    let key = c.args.key.now in
    let are = subst (λ (d : Doc). AreTables d made) c.self.view_is c.self.invariant.tables in
    record {
      exact = record {
        each = λ class lt.
            sym (ap (λ (b : Bool). first_item (table_of b made.members.optionals made.members.openings) (opening_key key) (root_first c.args.self.now class))
            (sym c.is_optional.ensures.exact ∙ c.if-is_optional.false))
            ∙ first_is c.args.self.now made.members.optionals made.members.openings class key are.optionals are.openings lt;
      };
    }

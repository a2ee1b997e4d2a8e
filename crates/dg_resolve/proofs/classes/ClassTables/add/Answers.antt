use Rattle.std.proofs.Common.{◌<◌, [], List, length, slice_set, refl, subst, ◌∙◌, arith}
use Rattle.std.proofs.lemmas.List.{get_or_default}
use Rattle.dg_resolve.specs.Tables.{Rows, Grows, row}
use Rattle.dg_resolve.proofs.GrowthLemmas.{grows_at}
use Rattle.dg_resolve.proofs.classes.ClassTables.add.Goals as goal

pub returns : goal.returns
returns c =
    let class = c.args.class in
    let old = c.self.inside.tables.items in
    let table = c.in-Some.table.now in
    let lt : class < length old = omega (arith, c.in-Some.ensures.variant.0 refl, c.self.inside.tables.ok.0) in
    record {
      exact = subst (λ (v : List Rows). Grows (row class c.args.key.now c.args.value) v (slice_set old class c.add.new.self)) c.self.view_is
          (grows_at class c.args.key.now c.args.value old table c.add.new.self lt
          (c.in-Some.ensures.value ∙ get_or_default old class table [] lt) c.in_ok-add.ensures.exact);
    }

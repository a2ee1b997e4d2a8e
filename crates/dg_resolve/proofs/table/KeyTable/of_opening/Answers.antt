use Rattle.std.proofs.Common.{[], List, Option, Some, None, unwrap_or, sym, ap, ◌∙◌, option_map, arith}
use Rattle.std.specs.Map.{lookup}
use Rattle.dg_types.specs.Equality.{same_key}
use Rattle.dg_types.proofs.EqualityLemmas.{key_decides}
use Rattle.dg_decl.specs.declared.binding.Owned.{Owned}
use Rattle.dg_resolve.specs.Keys.{opening_key}
use Rattle.dg_resolve.specs.Tables.{of_key}
use Rattle.dg_resolve.proofs.TableLemmas.{lookup-rows, found_here, found_later, found_nowhere}
use Rattle.dg_resolve.proofs.table.KeyTable.of_opening.Goals as goal

pub returns-then-is_opening_key : goal.returns-then-is_opening_key
returns-then-is_opening_key c =
    let key = opening_key c.args.key.now in
    let entries = c.self.inside.groups.entries in
    record {
      exact = c.as_slice.ensures.value
          ∙ sym (ap (λ (o : Option (List Owned)). unwrap_or o [])
          (sym (lookup-rows same_key key_decides (λ g. g.items) (same_key key) entries)
          ∙ ap (option_map (λ g. g.items)) (found_here (same_key key) entries c.loop-place.place (c.in-Some.opening.now, c.in-Some.group.now) c.loop-place.invariant
          c.in-Some.ensures.entry (sym c.is_opening_key.ensures.exact ∙ c.if-is_opening_key.true))))
          ∙ ap (of_key key) c.self.view_is;
    }

pub loop-place-preserved : goal.loop-place-preserved
loop-place-preserved c =
    let key = opening_key c.args.key.now in
    found_later (same_key key) c.self.inside.groups.entries c.loop-place.place (c.in-Some.opening.now, c.in-Some.group.now)
    c.loop-place.invariant c.in-Some.ensures.entry (sym c.is_opening_key.ensures.exact ∙ c.if-is_opening_key.false)

pub returns : goal.returns
returns c =
    let key = opening_key c.args.key.now in
    let entries = c.self.inside.groups.entries in
    record {
      exact = sym (ap (λ (o : Option (List Owned)). unwrap_or o [])
          (sym (lookup-rows same_key key_decides (λ g. g.items) (same_key key) entries)
          ∙ ap (option_map (λ g. g.items)) (found_nowhere (same_key key) entries c.loop-place.place c.loop-place.invariant (omega (arith, c.len-place-end.ensures.len)))))
          ∙ ap (of_key key) c.self.view_is;
    }

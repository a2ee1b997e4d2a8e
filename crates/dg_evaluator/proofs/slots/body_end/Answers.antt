use Rattle.std.proofs.Common.{sym, ap, ◌∙◌}
use Rattle.dg_slots.specs.declared.plan.Body.TheVariants as body
use Rattle.dg_requests.specs.Results.{ends}
use Rattle.dg_evaluator.proofs.EndLemmas.{has_body, has_set, set_ends_so, map_ends_so, optional_ends_so, argument_ends_so, entry_ends_so, argument_ran, end_can, end_ran, fits_so}
use Rattle.dg_evaluator.proofs.slots.body_end.Goals as goal

pub run_end-requires-clause-body : goal.run_end-requires-clause-body
run_end-requires-clause-body g c =
    has_body g.S.InScope.scope.doc c.args.inst c.args.slot c.args.found.now
    (body.Run c.in-Run.body) c.requires.slot c.in-Run.is

pub set_value-requires-clause-body : goal.set_value-requires-clause-body
set_value-requires-clause-body g c =
    has_set g.S.InScope.scope.doc c.args.inst c.args.slot c.args.found.now c.as_slice.result.now
    c.is_of_outcomes.result c.requires.slot
    (c.in-Set.is ∙ ap body.Set (sym c.as_slice.ensures)) c.is_of_outcomes.ensures.exact

pub set_value-requires-clause-can : goal.set_value-requires-clause-can
set_value-requires-clause-can g c =
    let s = g.S.InScope.scope in
    end_can s c.args.depth c.args.inst c.args.slot c.args.place.now
    (set_ends_so s.doc c.args.depth c.args.inst c.args.slot c.args.place.now c.in-Set.flags
    (has_body s.doc c.args.inst c.args.slot c.args.found.now (body.Set c.in-Set.flags)
    c.requires.slot c.in-Set.is)) c.requires.can

pub map_value-requires-clause-body : goal.map_value-requires-clause-body
map_value-requires-clause-body g c =
    has_body g.S.InScope.scope.doc c.args.inst c.args.slot c.args.found.now
    (body.Map c.as_slice-in-Map.result.now) c.requires.slot
    (c.in-Map.is ∙ ap body.Map (sym c.as_slice-in-Map.ensures))

pub map_value-requires-clause-can : goal.map_value-requires-clause-can
map_value-requires-clause-can g c =
    let s = g.S.InScope.scope in
    end_can s c.args.depth c.args.inst c.args.slot c.args.place.now
    (map_ends_so s.doc c.args.depth c.args.inst c.args.slot c.args.place.now c.in-Map.keys
    (has_body s.doc c.args.inst c.args.slot c.args.found.now (body.Map c.in-Map.keys)
    c.requires.slot c.in-Map.is)) c.requires.can

pub optional_value-requires-clause-body : goal.optional_value-requires-clause-body
optional_value-requires-clause-body g c = (
  c.in-Opt.field-0,
  has_body g.S.InScope.scope.doc c.args.inst c.args.slot c.args.found.now
      (body.Opt c.in-Opt.field-0) c.requires.slot c.in-Opt.is,
)

pub optional_value-requires-clause-can : goal.optional_value-requires-clause-can
optional_value-requires-clause-can g c =
    let s = g.S.InScope.scope in
    end_can s c.args.depth c.args.inst c.args.slot c.args.place.now
    (optional_ends_so s.doc c.args.depth c.args.inst c.args.slot c.args.place.now c.in-Opt.field-0
    (has_body s.doc c.args.inst c.args.slot c.args.found.now (body.Opt c.in-Opt.field-0)
    c.requires.slot c.in-Opt.is)) c.requires.can

pub entry_value-requires-clause-body : goal.entry_value-requires-clause-body
entry_value-requires-clause-body g c =
    has_body g.S.InScope.scope.doc c.args.inst c.args.slot c.args.found.now body.EntryOf
    c.requires.slot c.in-EntryOf.is

pub entry_value-requires-clause-can : goal.entry_value-requires-clause-can
entry_value-requires-clause-can g c =
    let s = g.S.InScope.scope in
    end_can s c.args.depth c.args.inst c.args.slot c.args.place.now
    (entry_ends_so s.doc c.args.depth c.args.inst c.args.slot c.args.place.now
    (has_body s.doc c.args.inst c.args.slot c.args.found.now body.EntryOf c.requires.slot
    c.in-EntryOf.is)) c.requires.can

pub returns-in-Set-clause-ran : goal.returns-in-Set-clause-ran
returns-in-Set-clause-ran g c =
    let s = g.S.InScope.scope in
    end_ran s c.args.depth c.args.inst c.args.slot c.args.place.now _ _ c.set_value.result
    (ends c.value_end.result)
    (set_ends_so s.doc c.args.depth c.args.inst c.args.slot c.args.place.now c.in-Set.flags
    (has_body s.doc c.args.inst c.args.slot c.args.found.now (body.Set c.in-Set.flags)
    c.requires.slot c.in-Set.is)) c.requires.can c.set_value.ensures.ran
    c.value_end.ensures.exact

pub returns-in-Map-clause-ran : goal.returns-in-Map-clause-ran
returns-in-Map-clause-ran g c =
    let s = g.S.InScope.scope in
    end_ran s c.args.depth c.args.inst c.args.slot c.args.place.now _ _ c.map_value.result
    (ends c.value_end-in-Map.result)
    (map_ends_so s.doc c.args.depth c.args.inst c.args.slot c.args.place.now c.in-Map.keys
    (has_body s.doc c.args.inst c.args.slot c.args.found.now (body.Map c.in-Map.keys)
    c.requires.slot c.in-Map.is)) c.requires.can c.map_value.ensures.ran
    c.value_end-in-Map.ensures.exact

pub returns-in-Opt-clause-ran : goal.returns-in-Opt-clause-ran
returns-in-Opt-clause-ran g c =
    let s = g.S.InScope.scope in
    end_ran s c.args.depth c.args.inst c.args.slot c.args.place.now _ _ c.optional_value.result
    (ends c.value_end-in-Opt.result)
    (optional_ends_so s.doc c.args.depth c.args.inst c.args.slot c.args.place.now c.in-Opt.field-0
    (has_body s.doc c.args.inst c.args.slot c.args.found.now (body.Opt c.in-Opt.field-0)
    c.requires.slot c.in-Opt.is)) c.requires.can c.optional_value.ensures.ran
    c.value_end-in-Opt.ensures.exact

pub returns-in-Arg-clause-ran : goal.returns-in-Arg-clause-ran
returns-in-Arg-clause-ran g c =
    let s = g.S.InScope.scope in
    let has = has_body s.doc c.args.inst c.args.slot c.args.found.now (body.Arg c.in-Arg.index)
    c.requires.slot c.in-Arg.is in
    end_ran s c.args.depth c.args.inst c.args.slot c.args.place.now _ _ c.argument.result
    (ends c.value_end-in-Arg.result)
    (argument_ends_so s.doc c.args.depth c.args.inst c.args.slot c.args.place.now c.in-Arg.index
    has) c.requires.can
    (argument_ran s c.args.depth c.args.inst c.args.slot c.args.place.now c.in-Arg.index _
    c.argument.result has
    (c.argument.ensures.exact s.doc c.args.plan.now
    (fits_so s c.args.plan.now c.args.world.now c.requires.fit)))
    c.value_end-in-Arg.ensures.exact

pub returns-in-EntryOf-clause-ran : goal.returns-in-EntryOf-clause-ran
returns-in-EntryOf-clause-ran g c =
    let s = g.S.InScope.scope in
    end_ran s c.args.depth c.args.inst c.args.slot c.args.place.now _ _ c.entry_value.result
    (ends c.value_end-in-EntryOf.result)
    (entry_ends_so s.doc c.args.depth c.args.inst c.args.slot c.args.place.now
    (has_body s.doc c.args.inst c.args.slot c.args.found.now body.EntryOf c.requires.slot
    c.in-EntryOf.is)) c.requires.can c.entry_value.ensures.ran
    c.value_end-in-EntryOf.ensures.exact

use Rattle.std.proofs.Common.{take, ap, ◌∙◌}
use Rattle.std.proofs.lemmas.List.{drop_all}
use Rattle.dg_lex.specs.Bytes.{Bytes}
use Rattle.dg_typing.specs.NamesWanted.{is_param}
use Rattle.dg_typing.proofs.NamesRepeated.{repeats_first, repeats_next, repeats_all}
use Rattle.dg_typing.proofs.names_stage.repeated.repeated_among.Goals as goal

pub loop-place-init : goal.loop-place-init
loop-place-init c = repeats_first c.args.s.now c.args.params.now c.args.out.now.items

pub loop-place-preserved : goal.loop-place-preserved
loop-place-preserved c =
    let ps = c.args.params.now in
    let place = c.loop-place.place in
    repeats_next c.args.s.now ps place c.index-params-place.result c.is_param-again.result
    c.args.out.now.items c.loop-place.out.items c.push_repeated.new.out.items
    c.loop-place-test.true c.index-params-place.is
    (c.is_param-again.ensures.exact
    ∙ ap (λ (n : Bytes). is_param (take place ps) n) c.as_slice.ensures.exact)
    c.in_ok-push_repeated.ensures.exact c.loop-place.invariant

pub returns : goal.returns
returns c = record {
  exact = repeats_all c.args.s.now c.args.params.now c.loop-place.place c.args.out.now.items
      c.loop-place.out.items (drop_all c.loop-place.place c.args.params.now c.loop-place-test.false)
      c.loop-place.invariant;
}

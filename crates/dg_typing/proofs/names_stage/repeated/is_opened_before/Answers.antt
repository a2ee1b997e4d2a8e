use Rattle.std.proofs.Common.{ℕ, Option, false, nat_lt, ap, ◌∙◌}
use Rattle.std.specs.Option.{option_map_or}
use Rattle.dg_lex.specs.Bytes.{Bytes}
use Rattle.dg_decl.specs.Stages.Names.{instance_name, has_earlier, anywhere}
use Rattle.dg_typing.proofs.NamesRepeated.{earlier_anywhere}
use Rattle.dg_typing.proofs.names_stage.repeated.is_opened_before.Goals as goal

pub returns : goal.returns
returns c =
    let doc = c.args.names.now in
    let s = c.args.s.now in
    record {
      exact = c.stands_before.ensures.exact
          ∙ ap (λ (o : Option ℕ). option_map_or (λ i. nat_lt i s.index) o false)
          c.opened.ensures.exact
          ∙ earlier_anywhere instance_name doc s c.as_slice.result.now
          ∙ ap (λ (n : Bytes). has_earlier instance_name anywhere doc s n) c.as_slice.ensures.exact;
    }

use Rattle.std.proofs.Common.{◌||◌, ap, sym, ◌∙◌}
use Rattle.dg_lex.specs.Bytes.{Bytes}
use Rattle.dg_decl.specs.Names.{params_of}
use Rattle.dg_decl.specs.Stages.Names as stage
use Rattle.dg_typing.specs.NamesWanted.{wanted_of, is_predefined_as, is_of_kind}
use Rattle.dg_typing.proofs.NamesWanted.{known_is}
use Rattle.dg_typing.proofs.NamesJudged.{keeps_known, adds_unknown}
use Rattle.dg_typing.proofs.names_stage.mentions.mention.Goals as goal

pub returns-then-is_known : goal.returns-then-is_known
returns-then-is_known c =
    let doc = c.args.names.now in
    let s = c.args.s.now in
    let w = c.args.wanted in
    let name = c.args.name.now in
    record {
      exact = keeps_known doc s (stage.mention (wanted_of w) name) c.is_known.result
          c.args.out.now.items
          (known_is doc (params_of s.item) w name
          ∙ sym (c.is_known.ensures.exact
          ∙ ap (λ (n : Bytes). is_predefined_as w n || stage.is_declared_as (is_of_kind w) doc n)
          c.as_slice.ensures.exact))
          c.if-is_known.true;
    }

pub returns : goal.returns
returns c =
    let doc = c.args.names.now in
    let s = c.args.s.now in
    let w = c.args.wanted in
    let name = c.args.name.now in
    record {
      exact = adds_unknown c.push_at_line.result doc s (stage.mention (wanted_of w) name)
          c.is_known.result c.args.out.now.items c.push_at_line.new.out.items
          (known_is doc (params_of s.item) w name
          ∙ sym (c.is_known.ensures.exact
          ∙ ap (λ (n : Bytes). is_predefined_as w n || stage.is_declared_as (is_of_kind w) doc n)
          c.as_slice.ensures.exact))
          c.if-is_known.false c.push_at_line.ensures.exact;
    }

use Rattle.std.proofs.Common.{List, ap, sym, ◌∙◌}
use Rattle.dg_lex.specs.Bytes.{Bytes}
use Rattle.dg_decl.specs.declared.item.Param.{Param}
use Rattle.dg_decl.specs.Document.{Statement}
use Rattle.dg_decl.specs.Names.{params_of}
use Rattle.dg_decl.specs.Stages.Names as stage
use Rattle.dg_typing.specs.NamesWanted.{is_param}
use Rattle.dg_typing.proofs.NamesJudged.{keeps_known, adds_unknown}
use Rattle.dg_typing.proofs.names_stage.mentions.param_mention.Goals as goal

pub returns-then-is_param : goal.returns-then-is_param
returns-then-is_param c =
    let doc = c.args._names.now in
    let s = c.args.s.now in
    let name = c.args.name.now in
    record {
      exact = keeps_known doc s (stage.mention stage.Wanted.parameter name) c.is_param.result
          c.args.out.now.items
          (sym (c.is_param.ensures.exact
          ∙ ap (λ (n : Bytes). is_param c.params.result.now n) c.as_slice.ensures.exact
          ∙ ap (λ (ps : List Param). is_param ps name) (c.params.ensures.exact
          ∙ ap (λ (t : Statement). params_of t.item) c.s.view_is)))
          c.if-is_param.true;
    }

pub returns : goal.returns
returns c =
    let doc = c.args._names.now in
    let s = c.args.s.now in
    let name = c.args.name.now in
    record {
      exact = adds_unknown c.push_at_line.result doc s
          (stage.mention stage.Wanted.parameter name)
          c.is_param.result c.args.out.now.items c.push_at_line.new.out.items
          (sym (c.is_param.ensures.exact
          ∙ ap (λ (n : Bytes). is_param c.params.result.now n) c.as_slice.ensures.exact
          ∙ ap (λ (ps : List Param). is_param ps name) (c.params.ensures.exact
          ∙ ap (λ (t : Statement). params_of t.item) c.s.view_is)))
          c.if-is_param.false c.push_at_line.ensures.exact;
    }

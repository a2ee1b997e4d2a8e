use Rattle.std.proofs.Common.{◌||◌, ap, ◌∙◌}
use Rattle.dg_lex.specs.Bytes.{is_among}
use Rattle.dg_hilt.specs.Names.{predefined_names}
use Rattle.dg_decl.specs.Document.{Statement}
use Rattle.dg_decl.specs.Names.{outer_name}
use Rattle.dg_decl.specs.Stages.Names.{has_earlier, anywhere}
use Rattle.dg_typing.proofs.NamesRepeated.{kept_one, kept_none, ok_as, declared_before}
use Rattle.dg_typing.proofs.names_stage.repeated.repeated_outer.Goals as goal

pub returns-in-Some : goal.returns-in-Some
returns-in-Some c =
    let doc = c.args.names.now in
    let s = c.args.s.now in
    let name = c.in-Some.name.now in
    record {
      exact = ok_as c.push_repeated.result s c.args.out.now.items c.push_repeated.new.out.items _ _
          (kept_one (λ n. is_among n predefined_names || has_earlier outer_name anywhere doc s n)
          (outer_name s.item) name c.is_declared_before-again.result
          (c.in-Some.ensures.exact ∙ ap (λ (t : Statement). outer_name t.item) c.s.view_is)
          (c.is_declared_before-again.ensures.exact ∙ declared_before doc s name))
          c.push_repeated.ensures.exact;
    }

pub returns-in-None : goal.returns-in-None
returns-in-None c =
    let doc = c.args.names.now in
    let s = c.args.s.now in
    record {
      exact = kept_none s c.args.out.now.items (λ n. is_among n predefined_names || has_earlier outer_name anywhere doc s n)
          (outer_name s.item)
          (c.in-None.ensures.exact ∙ ap (λ (t : Statement). outer_name t.item) c.s.view_is);
    }

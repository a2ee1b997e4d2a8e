use Rattle.std.proofs.Common.{ap, ◌∙◌}
use Rattle.dg_decl.specs.Document.{Statement}
use Rattle.dg_decl.specs.Stages.Names.{has_earlier, anywhere, instance_name}
use Rattle.dg_typing.proofs.NamesRepeated.{kept_one, kept_none, ok_as}
use Rattle.dg_typing.proofs.names_stage.repeated.repeated_instance.Goals as goal

pub returns-in-Some : goal.returns-in-Some
returns-in-Some c =
    let doc = c.args.names.now in
    let s = c.args.s.now in
    let name = c.in-Some.name.now in
    record {
      exact = ok_as c.push_repeated.result s c.args.out.now.items c.push_repeated.new.out.items _ _
          (kept_one (λ n. has_earlier instance_name anywhere doc s n)
          (instance_name s.item) name c.is_opened_before-again.result
          (c.in-Some.ensures.exact ∙ ap (λ (t : Statement). instance_name t.item) c.s.view_is)
          (c.is_opened_before-again.ensures.exact))
          c.push_repeated.ensures.exact;
    }

pub returns-in-None : goal.returns-in-None
returns-in-None c =
    let doc = c.args.names.now in
    let s = c.args.s.now in
    record {
      exact = kept_none s c.args.out.now.items (λ n. has_earlier instance_name anywhere doc s n)
          (instance_name s.item)
          (c.in-None.ensures.exact ∙ ap (λ (t : Statement). instance_name t.item) c.s.view_is);
    }

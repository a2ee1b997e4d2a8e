use Rattle.std.proofs.Common.{Option, [], if◌then◌else◌, ap, ◌∙◌}
use Rattle.std.specs.Prelude.{option_to_list}
use Rattle.dg_lex.specs.Bytes.{Bytes}
use Rattle.dg_decl.specs.Document.{Statement}
use Rattle.dg_decl.specs.Names.{member_name}
use Rattle.dg_typing.proofs.NamesRepeated.{ok_as, none_more}
use Rattle.dg_typing.proofs.names_stage.repeated.repeated_member.Goals as goal

pub returns-in-Some : goal.returns-in-Some
returns-in-Some c =
    let s = c.args.s.now in
    record {
      exact = ok_as c.push_repeated.result s c.args.out.now.items c.push_repeated.new.out.items _ _
          (ap (λ (o : Option Bytes). if c.args.again then option_to_list o else [])
          (c.in-Some.ensures.exact ∙ ap (λ (t : Statement). member_name t.item) c.s.view_is))
          c.push_repeated.ensures.exact;
    }

pub returns-in-None : goal.returns-in-None
returns-in-None c = record {
  exact = none_more c.args.s.now c.args.again c.args.out.now.items
      (c.in-None.ensures.exact ∙ ap (λ (t : Statement). member_name t.item) c.s.view_is);
}

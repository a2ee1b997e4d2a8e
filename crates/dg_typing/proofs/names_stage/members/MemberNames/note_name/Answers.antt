use Rattle.std.proofs.Common.{refl, ◌∙◌}
use Rattle.dg_typing.specs.declared.names_stage.members.Member.{Member}
use Rattle.dg_typing.proofs.NamesMemberLemmas as lemmas
use Rattle.dg_typing.proofs.names_stage.members.MemberNames.note_name.Goals as goal

pub returns : goal.returns
returns c =
    let name = c.in_ok-name.name in
    let member : Member = record { block = c.args.block; name = name } in
    let keys = c.self.inside.members.keys in
    record {
      exact = lemmas.not_not _ _ c.in_ok-is_new.ensures.added
          ∙ lemmas.has member keys c.args.block c.args.name.now c.args.self.now refl
          c.in_ok-name.ensures.exact c.self.view_is;
      noted = lemmas.noted member keys c.insert_full.new.self.keys c.args.block c.args.name.now
          c.args.self.now c.in_ok-is_new.ensures.keys refl c.in_ok-name.ensures.exact
          c.self.view_is;
    }

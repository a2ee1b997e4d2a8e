use Rattle.std.proofs.Common.{Some, ap, ◌∙◌}
use Rattle.dg_lex.specs.Bytes.{Bytes}
use Rattle.dg_decl.specs.Document.{Statement}
use Rattle.dg_decl.specs.Names.{member_name}
use Rattle.dg_typing.proofs.NamesMemberLemmas as lemmas
use Rattle.dg_typing.proofs.names_stage.members.MemberNames.note.Goals as goal

pub returns-in_ok-had-in-Some : goal.returns-in_ok-had-in-Some
returns-in_ok-had-in-Some c =
    let s = c.args.s.now in
    let block = c.s.inside.block in
    let name = c.as_slice.result.now in
    let members = c.args.self.now in
    let of_block = ap (λ (t : Statement). t.block) c.s.view_is in
    let is = ap (λ (n : Bytes). Some n) c.as_slice.ensures.exact ∙ c.in-Some.ensures.exact
    ∙ ap (λ (t : Statement). member_name t.item) c.s.view_is in
    record {
      exact = lemmas.tells_member s block name c.in_ok-had-in-Some.had members of_block is
          c.in_ok-had-in-Some.ensures.exact;
      noted = λ ss. lemmas.notes_member ss s block name members c.note_name.new.self of_block is
          c.in_ok-had-in-Some.ensures.noted;
    }

pub returns-in-None : goal.returns-in-None
returns-in-None c =
    let s = c.args.s.now in
    let is = c.in-None.ensures.exact ∙ ap (λ (t : Statement). member_name t.item) c.s.view_is in
    record {
      exact = lemmas.tells_none s c.args.self.now is;
      noted = λ ss. lemmas.notes_none ss s c.args.self.now is;
    }

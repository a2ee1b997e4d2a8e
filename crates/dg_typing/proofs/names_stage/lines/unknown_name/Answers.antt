use Rattle.std.proofs.Common.{List, ◌++◌, refl, ap, ◌∙◌}
use Rattle.dg_decl.specs.declared.violation.Violation.{Violation}
use Rattle.dg_typing.specs.NamesLines.{outer_mentions, block_mentions}
use Rattle.dg_typing.proofs.NamesJudged.{goes_on}
use Rattle.dg_typing.proofs.NamesLines.{unknown_is}
use Rattle.dg_typing.proofs.names_stage.lines.unknown_name.Goals as goal

pub returns : goal.returns
returns c =
    let doc = c.args.names.now in
    let s = c.args.s.now in
    let old = c.args.out.now.items in
    record {
      exact = goes_on doc s old c.outer_mentions.new.out.items c.block_mentions.new.out.items
          (outer_mentions s.item) (block_mentions s.item)
          (outer_mentions s.item ++ block_mentions s.item) refl
          c.in_ok-outer_mentions.ensures.exact c.in_ok-block_mentions.ensures.exact
          ∙ ap (λ (vs : List Violation). old ++ vs) (unknown_is doc s);
    }

use Rattle.std.proofs.Common.{List, ◌++◌, map, ap, ◌∙◌}
use Rattle.dg_lex.specs.Bytes.{Bytes}
use Rattle.dg_decl.specs.declared.violation.Rule.TheVariants as rule
use Rattle.dg_decl.specs.Stages.Components.{at_line}
use Rattle.dg_decl.specs.declared.violation.Violation.{Violation}
use Rattle.dg_decl.specs.Stages.Names.{repeated_outer, repeated_member, repeated_params, repeated_instance}
use Rattle.dg_typing.proofs.NamesRepeated.{four_more, duplicates_are, told_again}
use Rattle.dg_typing.proofs.names_stage.repeated.duplicate_name.Goals as goal

pub returns : goal.returns
returns c =
    let doc = c.args.names.now in
    let s = c.args.s.now in
    let old = c.args.out.now.items in
    record {
      exact = four_more s old c.repeated_outer.new.out.items c.repeated_member.new.out.items
          c.repeated_params.new.out.items c.repeated_instance.new.out.items
          (repeated_outer doc s) (repeated_member doc s) (repeated_params s)
          (repeated_instance doc s)
          c.in_ok-repeated_outer.ensures.exact
          (c.in_ok-repeated_member.ensures.exact
          ∙ ap (λ (ns : List Bytes). c.repeated_outer.new.out.items
          ++ map (at_line rule.DuplicateName s) ns)
          (told_again doc s c.args.member_again c.requires.told))
          c.in_ok-repeated_params.ensures.exact c.in_ok-repeated_instance.ensures.exact
          ∙ ap (λ (vs : List Violation). old ++ vs) (duplicates_are doc s);
    }

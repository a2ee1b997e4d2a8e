use Rattle.std.proofs.Common.{ℕ, ap, ◌∙◌}
use Rattle.dg_report.specs.Output.{with_cut}
use Rattle.dg_report.proofs.ReplyLemmas.{value_line, value_longer}
use Rattle.dg_report.proofs.replies.push_cut.Goals as goal

pub cut_behind-requires : goal.cut_behind-requires
cut_behind-requires g c = record {
  within = value_longer c.args.names.now (g.C.Contents.content c.args.cells.now) 128
      c.begin_value-start.result c.args.v.now c.args.out.now c.begin_value-start.new.self
      c.push_value.new.out c.begin_value-start.ensures.start c.begin_value-start.ensures.exact
      c.in_ok-push_value.ensures.exact;
}

pub returns-clause-exact : goal.returns-clause-exact
returns-clause-exact g c =
    value_line c.args.names.now (g.C.Contents.content c.args.cells.now) c.args.v.now c.args.out.now
    c.begin_value-start.new.self c.push_value.new.out c.cut_behind.new.self c.requires.held
    c.requires.whole c.begin_value-start.ensures.exact c.in_ok-push_value.ensures.exact
    (c.in_ok-cut_behind.ensures.exact
    ∙ ap (λ (n : ℕ). with_cut n c.push_value.new.out) c.begin_value-start.ensures.start)

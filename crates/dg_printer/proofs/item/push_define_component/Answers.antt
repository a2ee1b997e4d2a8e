use Rattle.std.proofs.Common.{◌∙◌, sym}
use Rattle.std.proofs.lemmas.Result.{on_ok_weaker}
use Rattle.dg_printer.proofs.ItemLemmas.{define_component_line}
use Rattle.dg_printer.proofs.item.push_define_component.Goals as goal

pub returns : goal.returns
returns c =
    let made = define_component_line c.args.line.now c.args.scopes.now c.args.name.now
    c.args.parent.now in
    record {
      exact = on_ok_weaker c.push.result (λ e. e
          ∙ rw (
            c.in_ok-push_keyword-2.ensures.exact,
            c.in_ok-push_keyword.ensures.exact,
            c.in_ok-push_scopes.ensures.exact,
          ) (sym made)) c.push.ensures.exact;
    }

use Rattle.std.proofs.Common.{◌-◌, ◌++◌, codes}
use Rattle.std.specs.Prelude.{decimal}
use Rattle.std.proofs.lemmas.Result.{on_ok_weaker}
use Rattle.dg_gen.specs.Document.{scoped_line}
use Rattle.dg_gen.proofs.TextLemmas.{longer, joined, four_joined}
use Rattle.dg_gen.proofs.document.push_scoped.Goals as goal

pub returns : goal.returns
unfolding scoped_line
returns c =
    let z = c.args.out.now.items in
    let number = decimal c.args.number in
    let before = decimal (c.args.number - 1) in
    let first = codes "  @G provides s" ++ number ++ codes "(a: @Named(\"" ++ before in
    let second = codes "\") Int) : @Named(\"" in
    record {
      exact = on_ok_weaker c.push_line.result
          (longer (first ++ second ++ number)
          (joined z _ _ (first ++ second) number
          (joined z _ _ first second
          (four_joined z _ _ _ _ (codes "  @G provides s") number (codes "(a: @Named(\"") before
          c.in_ok-extend_from_slice.ensures.items c.in_ok-push_decimal.ensures.exact c.in_ok-extend_from_slice-2.ensures.items c.in_ok-push_decimal-2.ensures.exact)
          c.in_ok-extend_from_slice-3.ensures.items) c.in_ok-push_decimal-3.ensures.exact))
          c.push_line.ensures.exact;
    }

use Rattle.std.proofs.Common.{◌≡◌, ◌+◌, ◌-◌, ◌++◌, codes, arith}
use Rattle.std.specs.Prelude.{decimal, ◌%◌}
use Rattle.dg_gen.specs.Document.{ask_line, instance_count, entry_count}
use Rattle.dg_gen.proofs.TextLemmas.{one, four_joined}
use Rattle.dg_gen.proofs.document.push_ask.Goals as goal

pub returns : goal.returns
unfolding ask_line
returns c =
    let instance = decimal (c.args.before % instance_count) in
    let entry = decimal (c.args.before % entry_count) in
    let same : c.args.before + 1 - 1 ≡ c.args.before = omega arith in
    record {
      exact = rw same (one c.args.out.now.items (codes "ask i" ++ instance ++ codes ".e" ++ entry) _ _
          (four_joined c.args.out.now.items _ _ _ _ (codes "ask i") instance (codes ".e") entry
          c.in_ok-extend_from_slice.ensures.items c.in_ok-push_decimal.ensures.exact c.in_ok-extend_from_slice-2.ensures.items c.in_ok-push_decimal-2.ensures.exact)
          c.in_ok-push.ensures.items);
    }

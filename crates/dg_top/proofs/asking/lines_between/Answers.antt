use Rattle.std.proofs.Common.{◌≡◌, ◌+◌, ℕ, suc, subst, arith, rules}
use Rattle.dg_top.specs.Progress.{first_lines, AreAsked, AreLinesBetween}
use Rattle.dg_top.proofs.LineLemmas.{lines_then}
use Rattle.dg_top.proofs.asking.lines_between.Goals as goal

pub loop-index-preserved : goal.loop-index-preserved
loop-index-preserved g c =
    let doc = g.D.RunsDoc.document in
    let n = c.loop-index.index in
    let line = c.in_ok-line.line.items in
    let next : n + 1 ≡ suc n = omega arith in
    let more : AreLinesBetween doc n (suc n) line = search rules in
    let asked : AreAsked doc (suc n) c.ask_line.new.tree.asked = search rules in
    let seen : c.ask_line.new.numbers ≡ (first_lines doc (suc n)).seen = search rules in
    let items = rw c.as_slice.ensures.value at c.in_ok-extend_from_slice.ensures.items in
    record {
      lines = rw (items, next) (lines_then doc c.args.from n (suc n) c.loop-index.text.items line
          c.loop-index.invariant.lines more);
      asked = rw next asked;
      appeared = rw next seen;
      within = omega (arith, c.loop-index-test.true);
    }

pub returns-clause-asked : goal.returns-clause-asked
returns-clause-asked g c =
    let same : c.loop-index.index ≡ c.args.to = omega (
      arith,
      c.loop-index-test.false,
      c.loop-index.invariant.within,
    ) in
    subst (λ (n : ℕ). AreAsked g.D.RunsDoc.document n c.loop-index.tree.asked) same
    c.loop-index.invariant.asked

use Rattle.std.proofs.Common.{◌∙◌, sym}
use Rattle.std.proofs.lemmas.Result.{err_from_is_err_and}
use Rattle.dg_decl.specs.Readers as readers
use Rattle.dg_reader.proofs.ListLemmas.{begins}
use Rattle.dg_reader.proofs.AtNameLemmas.{names_shorter, names_go_on, names_fail, names_end}
use Rattle.dg_reader.proofs.parts.at_names.Goals as goal

pub returns-in_err-at_name : goal.returns-in_err-at_name
returns-in_err-at_name c =
    let p = err_from_is_err_and c.from_residual.result c.from_residual.ensures.1 in
    record {
      exact = rw (p.1, p.2) (names_fail c.loop-alloc.found c.loop-alloc.tokens
          c.at_name.new.tokens c.at_name.new.tokens c.in_err-at_name.field-0.0 _
          (sym c.comes_kind.ensures.exact ∙ c.loop-alloc-test.true)
          c.in_err-at_name.ensures.exact);
    }

pub loop-alloc-smaller : goal.loop-alloc-smaller
loop-alloc-smaller c =
    names_shorter c.loop-alloc.tokens c.in_ok-at_name.field-0 c.at_name.new.tokens
    (sym c.comes_kind.ensures.exact ∙ c.loop-alloc-test.true) c.in_ok-at_name.ensures.exact

pub loop-alloc-preserved : goal.loop-alloc-preserved
loop-alloc-preserved c =
    rw c.in_ok-push.ensures.ok (names_go_on c.loop-alloc.found c.loop-alloc.tokens
    c.in_ok-at_name.field-0 c.at_name.new.tokens _
    (sym c.comes_kind.ensures.exact ∙ c.loop-alloc-test.true) c.in_ok-at_name.ensures.exact
    c.loop-alloc.invariant)

pub returns : goal.returns
returns c =
    record {
      exact = names_end c.loop-alloc.found c.loop-alloc.tokens _
          (sym c.comes_kind.ensures.exact ∙ c.loop-alloc-test.false) c.loop-alloc.invariant;
    }

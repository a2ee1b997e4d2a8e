use Rattle.std.proofs.lemmas.Result.{err_from_is_err_and}
use Rattle.dg_lex.specs.Bytes.{line_limit}
use Rattle.dg_decl.specs.Readers as readers
use Rattle.dg_reader.proofs.ListLemmas.{begins, goes_on, ends, fails, is_full}
use Rattle.dg_reader.proofs.parts.name_list.Goals as goal

pub loop-turn-init : goal.loop-turn-init
loop-turn-init c =
    rw c.new-found.ensures (begins (readers.list_of readers.name line_limit c.args.tokens.now))

pub returns-in_err-name : goal.returns-in_err-name
returns-in_err-name c =
    let p = err_from_is_err_and c.from_residual.result c.from_residual.ensures.1 in
    record {
      exact = rw (p.1, p.2) (fails readers.name c.loop-turn.found line_limit c.loop-turn._turn
          c.loop-turn.tokens c.name.new.tokens c.name.new.tokens c.in_err-name.field-0.0 _
          c.loop-turn-test.true c.in_err-name.ensures.exact c.loop-turn.invariant);
    }

pub returns-then-not-eat : goal.returns-then-not-eat
returns-then-not-eat c =
    record {
      exact = rw c.in_ok-push.ensures.ok (ends readers.name c.loop-turn.found line_limit
          c.loop-turn._turn c.loop-turn.tokens c.name.new.tokens c.eat.new.self
          c.in_ok-name.field-0 _ c.loop-turn-test.true c.in_ok-name.ensures.exact
          (rw (← c.if-not-eat.true) c.eat.ensures.exact) c.loop-turn.invariant);
    }

pub loop-turn-preserved : goal.loop-turn-preserved
loop-turn-preserved c =
    rw c.in_ok-push.ensures.ok (goes_on readers.name c.loop-turn.found line_limit
    c.loop-turn._turn c.loop-turn.tokens c.name.new.tokens c.eat.new.self
    c.in_ok-name.field-0 _ c.loop-turn-test.true c.in_ok-name.ensures.exact
    (rw (← c.if-not-eat.false) c.eat.ensures.exact) c.loop-turn.invariant)

pub returns : goal.returns
returns c =
    record {
      exact = is_full readers.name c.loop-turn.found line_limit c.loop-turn._turn c.loop-turn.tokens
          _ c.loop-turn-test.false c.loop-turn.invariant;
    }

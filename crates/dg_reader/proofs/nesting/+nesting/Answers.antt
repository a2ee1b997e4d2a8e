use Rattle.std.proofs.Common.{◌-◌, map, max, ◌∙◌, arith}
use Rattle.dg_decl.specs.ExpressionForms as forms
use Rattle.dg_decl.proofs.WrittenEquations as eq
use Rattle.dg_reader.proofs.NestingLemmas.{nests, condition_nests, no_limit, no_part, one_part}
use Rattle.dg_reader.proofs.NestingLemmas.{two_parts, both_tests, all_tests}
use Rattle.dg_reader.proofs.nesting.+nesting.Goals as goal

pub condition_nests_within-returns-then-limit-eq0 :
    goal.condition_nests_within-returns-then-limit-eq0
condition_nests_within-returns-then-limit-eq0 t c =
    record { exact = no_limit _ c.args.limit (condition_nests c.args.c.now) c.if-limit-eq0.true }

pub nests_within-returns-then-limit-eq0 : goal.nests_within-returns-then-limit-eq0
nests_within-returns-then-limit-eq0 t c =
    record { exact = no_limit _ c.args.limit (nests c.args.e.now) c.if-limit-eq0.true }

pub condition_nests_within-returns-in-Equal : goal.condition_nests_within-returns-in-Equal
condition_nests_within-returns-in-Equal t c =
    record {
      exact = two_parts (forms.condition_nesting c.args.c.now) (forms.nesting c.get.result.now)
          (forms.nesting c.get-in-Equal.result.now) c.args.limit c.nests_within.result
          c.nests_within-in-Equal.result c.both.result
          (cc (eq.nesting-Equal c.get.result.now c.get-in-Equal.result.now))
          (omega (arith, c.if-limit-eq0.false)) c.nests_within.ensures.exact
          c.nests_within-in-Equal.ensures.exact c.both.ensures.exact;
    }

pub condition_nests_within-returns-in-Less : goal.condition_nests_within-returns-in-Less
condition_nests_within-returns-in-Less t c =
    record {
      exact = two_parts (forms.condition_nesting c.args.c.now)
          (forms.nesting c.get-in-Less.result.now) (forms.nesting c.get-in-Less-2.result.now)
          c.args.limit c.nests_within-in-Less.result c.nests_within-in-Less-2.result
          c.both-in-Less.result
          (cc (eq.nesting-Less c.get-in-Less.result.now c.get-in-Less-2.result.now))
          (omega (arith, c.if-limit-eq0.false)) c.nests_within-in-Less.ensures.exact
          c.nests_within-in-Less-2.ensures.exact c.both-in-Less.ensures.exact;
    }

pub condition_nests_within-returns-in-Has : goal.condition_nests_within-returns-in-Has
condition_nests_within-returns-in-Has t c =
    record {
      exact = no_part (forms.condition_nesting c.args.c.now) c.args.limit
          (rw c.in-Has.is (eq.nesting-Has _)) (omega (arith, c.if-limit-eq0.false));
    }

pub condition_nests_within-returns-in-IsOk : goal.condition_nests_within-returns-in-IsOk
condition_nests_within-returns-in-IsOk t c =
    record {
      exact = no_part (forms.condition_nesting c.args.c.now) c.args.limit
          (rw c.in-IsOk.is (eq.nesting-IsOk _)) (omega (arith, c.if-limit-eq0.false));
    }

pub nests_within-returns-in-New : goal.nests_within-returns-in-New
nests_within-returns-in-New t c =
    record {
      exact = one_part (forms.nesting c.args.e.now)
          (forms.greatest (map forms.nesting c.as_slice.result.now)) c.args.limit
          c.all_nest_within.result (cc (eq.nesting-New c.in-New.class c.as_slice.result.now))
          (omega (arith, c.if-limit-eq0.false))
          (c.all_nest_within.ensures.exact ∙ all_tests c.as_slice.result.now (c.args.limit - 1));
    }

pub nests_within-returns-in-Call : goal.nests_within-returns-in-Call
nests_within-returns-in-Call t c =
    record {
      exact = one_part (forms.nesting c.args.e.now)
          (forms.greatest (map forms.nesting c.as_slice-in-Call.result.now)) c.args.limit
          c.all_nest_within-in-Call.result
          (cc (eq.nesting-Call c.in-Call.f c.as_slice-in-Call.result.now))
          (omega (arith, c.if-limit-eq0.false))
          (c.all_nest_within-in-Call.ensures.exact
          ∙ all_tests c.as_slice-in-Call.result.now (c.args.limit - 1));
    }

pub nests_within-returns-in-Field : goal.nests_within-returns-in-Field
nests_within-returns-in-Field t c =
    record {
      exact = one_part (forms.nesting c.args.e.now) (forms.nesting c.get.result.now) c.args.limit
          c.nests_within.result (cc (eq.nesting-Field c.get.result.now c.in-Field.field))
          (omega (arith, c.if-limit-eq0.false)) c.nests_within.ensures.exact;
    }

pub nests_within-returns-in-Sum : goal.nests_within-returns-in-Sum
nests_within-returns-in-Sum t c =
    record {
      exact = two_parts (forms.nesting c.args.e.now) (forms.nesting c.get-in-Sum.result.now)
          (forms.nesting c.get-in-Sum-2.result.now) c.args.limit c.nests_within-in-Sum.result
          c.nests_within-in-Sum-2.result c.both.result
          (cc (eq.nesting-Sum c.get-in-Sum.result.now c.get-in-Sum-2.result.now))
          (omega (arith, c.if-limit-eq0.false)) c.nests_within-in-Sum.ensures.exact
          c.nests_within-in-Sum-2.ensures.exact c.both.ensures.exact;
    }

pub nests_within-returns-in-If : goal.nests_within-returns-in-If
nests_within-returns-in-If t c =
    let arms = both_tests (forms.nesting c.get-in-If-2.result.now)
    (forms.nesting c.get-in-If-3.result.now) (c.args.limit - 1) c.nests_within-in-If.result
    c.nests_within-in-If-2.result c.both-in-If.result c.nests_within-in-If.ensures.exact
    c.nests_within-in-If-2.ensures.exact c.both-in-If.ensures.exact in
    record {
      exact = two_parts (forms.nesting c.args.e.now)
          (forms.condition_nesting c.get-in-If.result.now)
          (max (forms.nesting c.get-in-If-2.result.now) (forms.nesting c.get-in-If-3.result.now))
          c.args.limit c.condition_nests_within.result c.both-in-If.result c.both-in-If-2.result
          (cc (eq.nesting-If c.get-in-If.result.now c.get-in-If-2.result.now
          c.get-in-If-3.result.now)) (omega (arith, c.if-limit-eq0.false))
          c.condition_nests_within.ensures.exact arms c.both-in-If-2.ensures.exact;
    }

pub nests_within-returns-in-OrElse : goal.nests_within-returns-in-OrElse
nests_within-returns-in-OrElse t c =
    record {
      exact = one_part (forms.nesting c.args.e.now) (forms.nesting c.get-in-OrElse.result.now)
          c.args.limit c.nests_within-in-OrElse.result
          (cc (eq.nesting-OrElse c.in-OrElse.param c.get-in-OrElse.result.now))
          (omega (arith, c.if-limit-eq0.false)) c.nests_within-in-OrElse.ensures.exact;
    }

pub nests_within-returns-in-Text : goal.nests_within-returns-in-Text
nests_within-returns-in-Text t c =
    record {
      exact = no_part (forms.nesting c.args.e.now) c.args.limit
          (rw c.in-Text.is (eq.nesting-Text _)) (omega (arith, c.if-limit-eq0.false));
    }

pub nests_within-returns-in-Int : goal.nests_within-returns-in-Int
nests_within-returns-in-Int t c =
    record {
      exact = no_part (forms.nesting c.args.e.now) c.args.limit
          (rw c.in-Int.is (eq.nesting-Int _)) (omega (arith, c.if-limit-eq0.false));
    }

pub nests_within-returns-in-Param : goal.nests_within-returns-in-Param
nests_within-returns-in-Param t c =
    record {
      exact = no_part (forms.nesting c.args.e.now) c.args.limit
          (rw c.in-Param.is (eq.nesting-Param _)) (omega (arith, c.if-limit-eq0.false));
    }

pub nests_within-returns-in-ByName : goal.nests_within-returns-in-ByName
nests_within-returns-in-ByName t c =
    record {
      exact = no_part (forms.nesting c.args.e.now) c.args.limit
          (rw c.in-ByName.is (eq.nesting-ByName _ _)) (omega (arith, c.if-limit-eq0.false));
    }

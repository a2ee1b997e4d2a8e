use Rattle.std.proofs.Common.{◌≡◌, Ok, rules, arith}
use Rattle.dg_words.proofs.NumberLemmas.{number_read}
use Rattle.dg_words.proofs.flag.is_number.Goals as goal
use Rattle.dg_words.proofs.flag.is_number.Goals.{then-n-eq0-via-then-n-eq0, then-n-eq0-via-else-n-eq0+then-n-limit}

pub returns-in_default : goal.returns-in_default
returns-in_default c = record {
  exact = (
    λ yes. absurd (search rules),
    λ number. absurd (cc (number_read c.args.limit number.0 _ _ c.ranges.limit.fits number.1 c.parse.ensures.value.0)),
  );
}

pub returns-then-n-eq0 : goal.returns-then-n-eq0
returns-then-n-eq0 c = record {
  exact = (
    λ yes. absurd (search rules),
    λ number.
        let is = number.1 in
        let same : c.in-Ok.n ≡ number.0 = cc (number_read c.args.limit number.0 c.args.word.now (Ok c.in-Ok.n) c.ranges.limit.fits is c.in-Ok.ensures.value.0) in
        absurd (elim c.then-n-eq0.branch [
          | then-n-eq0-via-then-n-eq0 w ↦ omega (arith, is.positive)
          | then-n-eq0-via-else-n-eq0+then-n-limit w ↦ omega (arith, is.within)
        ]),
  );
}

pub returns : goal.returns
returns c = record {
  exact = (
    λ yes.
        let same : c.format.result.now ≡ c.args.word.now = search rules in
        (c.in-Ok.n, record { digits = cc; positive = omega arith; within = omega arith }),
    λ number.
        let same : c.in-Ok.n ≡ number.0 = cc (number_read c.args.limit number.0 c.args.word.now (Ok c.in-Ok.n) c.ranges.limit.fits number.1 c.in-Ok.ensures.value.0) in
        let digits = number.1.digits in
        let text : c.format.result.now ≡ c.args.word.now = cc in
        search rules,
  );
}

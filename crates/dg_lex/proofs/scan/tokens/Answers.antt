use Rattle.std.proofs.Common.{◌≡◌, ◌≢◌, ◌+◌, ◌-◌, ◌<◌, ◌==◌, ◌∙◌, false, take, drop, get_or, sym, rules, tests, arith, [], Ok, Some, None}
use Rattle.std.proofs.lemmas.List.{take_rest}
use Rattle.dg_lex.specs.Tokens.{kind_of, extent, token_from, tokens_of}
use Rattle.dg_lex.proofs.TokenLemmas.{joined_end, joined_bad, joined_more, joined_some}
use Rattle.dg_lex.proofs.scan.tokens.Goals as goal

pub returns-in_default-clause-cause : goal.returns-in_default-clause-cause
unfolding tokens_of
returns-in_default-clause-cause c =
    let at = c.loop-at.at in
    let len = c.extent.result in
    let z = c.args.line.now in
    let same : at + len - at ≡ len = omega arith in
    let other : (get_or z at 0 == 32) ≡ false = search (rules, tests) in
    let is : extent (drop at z) ≡ len = sym (rw (take_rest z at) at c.extent.ensures.exact) in
    let none : kind_of (take len (drop at z)) ≡ None = sym (rw same at c.in_default.ensures.exact) in
    sym c.loop-at.invariant.0 ∙ joined_bad c.loop-at.found.items at len z (omega arith) other is none

pub loop-at-preserved : goal.loop-at-preserved
loop-at-preserved c =
    let at = c.loop-at.at in
    let len = c.extent.result in
    let z = c.args.line.now in
    let same : at + len - at ≡ len = omega arith in
    let other : (get_or z at 0 == 32) ≡ false = search (rules, tests) in
    let is : extent (drop at z) ≡ len = sym (rw (take_rest z at) at c.extent.ensures.exact) in
    let found : kind_of (take len (drop at z)) ≡ Some c.in-Some.kind = sym (rw same at c.in-Some.ensures.exact) in
    let moves : 0 < len = search rules in
    (rw c.in_ok-push.ensures.items (joined_more c.loop-at.found.items at len z c.in-Some.kind (omega arith) other is moves found ∙ c.loop-at.invariant.0), search rules)

pub returns-in_err-push-clause-cause : goal.returns-in_err-push-clause-cause
unfolding tokens_of
returns-in_err-push-clause-cause c =
    let at = c.loop-at.at in
    let len = c.extent.result in
    let z = c.args.line.now in
    let same : at + len - at ≡ len = omega arith in
    let other : (get_or z at 0 == 32) ≡ false = search (rules, tests) in
    let is : extent (drop at z) ≡ len = sym (rw (take_rest z at) at c.extent.ensures.exact) in
    let found : kind_of (take len (drop at z)) ≡ Some c.in-Some.kind = sym (rw same at c.in-Some.ensures.exact) in
    let moves : 0 < len = search rules in
    let whole = joined_more c.loop-at.found.items at len z c.in-Some.kind (omega arith) other is moves found ∙ c.loop-at.invariant.0 in
    let some : tokens_of z ≢ Ok [] = λ none. joined_some c.loop-at.found.items (token_from c.in-Some.kind at len) _ (whole ∙ none) in
    search (rules, some)

pub returns-clause-exact : goal.returns-clause-exact
unfolding tokens_of
returns-clause-exact c = sym c.loop-at.invariant.0 ∙ joined_end c.loop-at.found.items c.loop-at.at c.args.line.now (omega arith)

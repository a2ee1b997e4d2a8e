use Rattle.std.proofs.Common.{◌≡◌, ◌<◌, ℕ, List, length, get_or, sym, ap, subst, ◌∙◌, arith}
use Rattle.dg_decl.specs.Document.{Statement, statements}
use Rattle.dg_resolve.specs.Explicit.{KnowsExplicit}
use Rattle.dg_resolve.specs.Tables.{Numbers, AddsUnder}
use Rattle.dg_resolve.proofs.ExplicitPass.{pass_begins, pass_goes_on, pass_ends}
use Rattle.dg_resolve.proofs.explicit.explicit.Goals as goal

pub loop-statement-init : goal.loop-statement-init
loop-statement-init c =
    let doc = c.args.names.now in
    let headed = c.args.sources.headed.now in
    let bindings = c.args.sources.bindings.now in
    let tables = c.add_hilt.new.tables in
    subst (λ (n : Numbers). KnowsExplicit doc headed bindings 0 0 n tables) (sym c.new-lines.ensures.exact)
    (pass_begins doc headed bindings c.args.classes.now c.class_count.result c.in_ok-made.made tables
    c.requires.classes c.requires.bindings c.class_count.ensures.exact c.in_ok-made.ensures.exact c.in_ok-add_hilt.ensures.exact)

pub loop-statement-preserved : goal.loop-statement-preserved
loop-statement-preserved c =
    let doc = c.args.names.now in
    let i = c.loop-statement.statement-index in
    let s = c.statement-item.result in
    let all = c.statements-statements.ensures.exact in
    let old = c.loop-statement.lines in
    let more = c.add_under.new.self in
    let lt : i < length (statements doc) = omega (arith, c.loop-statement-test.true, ap length all) in
    pass_goes_on doc c.args.sources.headed.now c.args.sources.installers.now c.args.sources.bindings.now c.args.sources.exposed.now
    i c.loop-statement.place c.in_ok-place.place old more s c.loop-statement.made c.add_statement.new.tables
    c.requires.headed c.requires.installers c.requires.exposed lt
    (c.statement-item.is ∙ ap (λ (ss : List Statement). get_or ss i s) all)
    c.loop-statement.invariant c.in_ok-place.ensures.exact c.in_ok-place.ensures.place
    (subst (λ (ks : List ℕ). AddsUnder ks s.index old more) c.classes_of_line.ensures.exact
    (subst (λ (n : ℕ). AddsUnder c.classes_of_line.result.now n old more) (ap (λ (x : Statement). x.index) c.statement.view_is)
    c.in_ok-add_under.ensures.exact))

pub returns : goal.returns
returns c =
    let doc = c.args.names.now in
    let i = c.loop-statement.statement-index in
    let done : i ≡ length (statements doc) =
    omega (arith, c.loop-statement-test.false, c.loop-statement.auto.statement-index-end, ap length c.statements-statements.ensures.exact) in
    record {
      exact = pass_ends doc c.args.sources.headed.now c.args.sources.bindings.now i c.loop-statement.place c.loop-statement.lines c.loop-statement.made done c.loop-statement.invariant;
    }

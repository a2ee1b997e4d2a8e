use Rattle.std.proofs.Common.{◌≡◌, ◌+◌, ℕ, suc, List, sym, ap, subst, ◌∙◌, arith}
use Rattle.dg_decl.specs.declared.document.Doc.{Doc}
use Rattle.dg_value.specs.declared.place.Place.{Place}
use Rattle.dg_eval.specs.Report.{reply_line}
use Rattle.dg_report.specs.Held.{HoldsReply}
use Rattle.dg_tree.specs.Stores.{Stored}
use Rattle.dg_value.specs.Contents.{content_in}
use Rattle.dg_top.specs.Progress.{AreAsked}
use Rattle.dg_top.proofs.LineLemmas.{line_more, seen_more}
use Rattle.dg_top.proofs.UsedLemmas.{settled_asked}
use Rattle.dg_top.proofs.asking.ask_line.Goals as goal

pub reply_text-requires-clause-held : goal.reply_text-requires-clause-held
reply_text-requires-clause-held g c =
    subst (λ (d : Doc). HoldsReply d (content_in c.reply_to.new.tree.cells) c.in_ok-reply.reply)
    (sym c.requires.names) c.in_ok-reply.ensures.held

pub returns-clause-exact : goal.returns-clause-exact
returns-clause-exact g c =
    let doc = g.D.RunsDoc.document in
    let n = c.args.index in
    let r = c.in_ok-reply.reply in
    let next : n + 1 ≡ suc n = omega arith in
    line_more doc n c.args.ask.now c.requires.ask r c.in_ok-line.line.items
    c.in_ok-reply.ensures.exact
    (c.in_ok-line.ensures.exact.0 ∙ ap (λ (m : ℕ). (reply_line c.args.names.now m r
    c.args.numbers.now).text) next
    ∙ ap (λ (d : Doc). (reply_line d (suc n) r c.args.numbers.now).text) c.requires.names
    ∙ ap (λ (s : List Place). (reply_line doc (suc n) r s).text) c.requires.appeared)

pub returns-clause-asked : goal.returns-clause-asked
returns-clause-asked g c =
    let doc = g.D.RunsDoc.document in
    let tree = c.reply_to.new.tree in
    subst (λ (t : Stored). AreAsked doc (suc c.args.index) t.asked) (sym c.settle.ensures.exact)
    (settled_asked doc (suc c.args.index) tree c.in_ok-reply.ensures.sound
    c.in_ok-reply.ensures.asked)

pub returns-clause-appeared : goal.returns-clause-appeared
returns-clause-appeared g c =
    let doc = g.D.RunsDoc.document in
    let n = c.args.index in
    let r = c.in_ok-reply.reply in
    let next : n + 1 ≡ suc n = omega arith in
    seen_more doc n c.args.ask.now c.requires.ask r c.reply_text.new.n c.in_ok-reply.ensures.exact
    (c.in_ok-line.ensures.exact.1 ∙ ap (λ (m : ℕ). (reply_line c.args.names.now m r
    c.args.numbers.now).seen) next
    ∙ ap (λ (d : Doc). (reply_line d (suc n) r c.args.numbers.now).seen) c.requires.names
    ∙ ap (λ (s : List Place). (reply_line doc (suc n) r s).seen) c.requires.appeared)

use Rattle.std.proofs.Common.{◌++◌, ◌∷◌, [], is_some, ap, ◌∙◌}
use Rattle.indexmap.proofs.CallerLemmas.{insert_entry-new}
use Rattle.dg_decl.specs.Stages.Links.{Tie}
use Rattle.dg_compdep.specs.Ties.{Table}
use Rattle.dg_compdep.proofs.TieLemmas.{is_none, key_is, seen, seen_push, found, adds_new, adds_old}
use Rattle.dg_compdep.proofs.ties.Ties.add.Goals as goal

pub returns-in_ok-insert : goal.returns-in_ok-insert
returns-in_ok-insert c =
    let key = c.in_ok-key.key in
    let index = c.args.index in
    let entries = c.self.inside.indices.entries in
    let tie = key_is key _ _ c.args.tie.now (c.in_ok-key.ensures.from ∙ c.as_slice.ensures.exact)
    c.in_ok-key.ensures.class c.tie.view_is in
    let same = found key entries c.args.tie.now.from c.args.tie.now.class c.args.self.now
    (ap (λ (t : Tie). t.from) tie) (ap (λ (t : Tie). t.class) tie) c.self.view_is in
    let none = is_none _ c.contains_key.result (c.contains_key.ensures ∙ ap is_some same)
    c.if-not-contains_key.true in
    record {
      exact = adds_new c.args.tie.now index c.args.self.now _
          (ap seen (c.in_ok-insert.ensures.entries
          ∙ insert_entry-new _ c.self.inside.indices key index (same ∙ none))
          ∙ seen_push entries key index
          ∙ ap (λ (t : Table). t ++ (record { from = key.from; class = key.class }, index) ∷ [])
          c.self.view_is
          ∙ ap (λ (t : Tie). c.args.self.now ++ (t, index) ∷ []) tie);
    }

pub returns-else-not-contains_key : goal.returns-else-not-contains_key
returns-else-not-contains_key c =
    let key = c.in_ok-key.key in
    let tie = key_is key _ _ c.args.tie.now (c.in_ok-key.ensures.from ∙ c.as_slice.ensures.exact)
    c.in_ok-key.ensures.class c.tie.view_is in
    let same = found key c.self.inside.indices.entries c.args.tie.now.from c.args.tie.now.class
    c.args.self.now
    (ap (λ (t : Tie). t.from) tie) (ap (λ (t : Tie). t.class) tie) c.self.view_is in
    record {
      exact = adds_old c.args.tie.now c.args.index c.args.self.now c.contains_key.result
          (c.contains_key.ensures ∙ ap is_some same) c.if-not-contains_key.false;
    }

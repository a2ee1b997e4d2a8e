use Rattle.std.proofs.Common.{◌++◌, ◌∷◌, [], is_some, ap, ◌∙◌}
use Rattle.indexmap.proofs.CallerLemmas.{insert_entry-new}
use Rattle.dg_lex.specs.Bytes.{Bytes}
use Rattle.dg_session.specs.EntryTables.{Table, place_in}
use Rattle.dg_session.proofs.EntryTableLemmas.{is_none, seen, seen-push, lookup-seen, adds_new, adds_old}
use Rattle.dg_session.proofs.entry_table.EntryTable.add.Goals as goal

pub returns-in_ok-insert : goal.returns-in_ok-insert
returns-in_ok-insert c =
    let key = c.in_ok-name.name in
    let place = c.args.place in
    let name = c.args.name.now in
    let entries = c.self.inside.places.entries in
    let same = lookup-seen (λ k. k.items) name entries ∙ ap (place_in name) c.self.view_is in
    let none = is_none (place_in name c.args.self.now) c.contains_key.result
    (c.contains_key.ensures ∙ ap is_some same) c.if-not-contains_key.true in
    let absent = lookup-seen (λ k. k.items) key.items entries ∙ ap (place_in key.items) c.self.view_is
    ∙ ap (λ (n : Bytes). place_in n c.args.self.now) c.in_ok-name.ensures.items ∙ none in
    record {
      exact = adds_new name place c.args.self.now _
          (ap (seen (λ k. k.items)) (c.in_ok-insert.ensures.entries
          ∙ insert_entry-new _ c.self.inside.places key place absent)
          ∙ seen-push (λ k. k.items) entries (key, place)
          ∙ ap (λ (t : Table). t ++ (key.items, place) ∷ []) c.self.view_is
          ∙ ap (λ (n : Bytes). c.args.self.now ++ (n, place) ∷ []) c.in_ok-name.ensures.items);
    }

pub returns-else-not-contains_key : goal.returns-else-not-contains_key
returns-else-not-contains_key c =
    let same = lookup-seen (λ k. k.items) c.args.name.now c.self.inside.places.entries
    ∙ ap (place_in c.args.name.now) c.self.view_is in
    record {
      exact = adds_old c.args.name.now c.args.place c.args.self.now c.contains_key.result
          (c.contains_key.ensures ∙ ap is_some same) c.if-not-contains_key.false;
    }

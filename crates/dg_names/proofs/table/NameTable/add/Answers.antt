use Rattle.std.proofs.Common.{◌++◌, ◌∷◌, [], is_some, ap, ◌∙◌}
use Rattle.indexmap.proofs.CallerLemmas.{insert_entry-new}
use Rattle.dg_lex.specs.Bytes.{Bytes}
use Rattle.dg_names.specs.Tables.{Table, index_in}
use Rattle.dg_names.proofs.TableLemmas.{is_none, seen, seen-push, lookup-seen, adds_new, adds_old}
use Rattle.dg_names.proofs.table.NameTable.add.Goals as goal

pub returns-in_ok-insert : goal.returns-in_ok-insert
returns-in_ok-insert c =
    let key = c.in_ok-name.name in
    let index = c.args.index in
    let name = c.args.name.now in
    let entries = c.self.inside.indices.entries in
    let same = lookup-seen (λ k. k.items) name entries ∙ ap (index_in name) c.self.view_is in
    let none = is_none (index_in name c.args.self.now) c.contains_key.result
    (c.contains_key.ensures ∙ ap is_some same) c.if-not-contains_key.true in
    let absent = lookup-seen (λ k. k.items) key.items entries ∙ ap (index_in key.items) c.self.view_is
    ∙ ap (λ (n : Bytes). index_in n c.args.self.now) c.in_ok-name.ensures.items ∙ none in
    record {
      exact = adds_new name index c.args.self.now _
          (ap (seen (λ k. k.items)) (c.in_ok-insert.ensures.entries
          ∙ insert_entry-new _ c.self.inside.indices key index absent)
          ∙ seen-push (λ k. k.items) entries (key, index)
          ∙ ap (λ (t : Table). t ++ (key.items, index) ∷ []) c.self.view_is
          ∙ ap (λ (n : Bytes). c.args.self.now ++ (n, index) ∷ []) c.in_ok-name.ensures.items);
    }

pub returns-else-not-contains_key : goal.returns-else-not-contains_key
returns-else-not-contains_key c =
    let same = lookup-seen (λ k. k.items) c.args.name.now c.self.inside.indices.entries
    ∙ ap (index_in c.args.name.now) c.self.view_is in
    record {
      exact = adds_old c.args.name.now c.args.index c.args.self.now c.contains_key.result
          (c.contains_key.ensures ∙ ap is_some same) c.if-not-contains_key.false;
    }

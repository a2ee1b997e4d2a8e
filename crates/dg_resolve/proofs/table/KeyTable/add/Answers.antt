use Rattle.std.proofs.Common.{◌≡◌, List, [], ◌∷◌, ◌++◌, Some, None, refl, sym, ap, subst, ◌∙◌, IsSome, is_some}
use Rattle.std.specs.Prelude.{true}
use Rattle.dg_types.specs.Equality.{same_key}
use Rattle.dg_types.proofs.EqualityLemmas.{key_decides}
use Rattle.dg_decl.specs.declared.binding.Owned.{Owned}
use Rattle.dg_resolve.specs.Tables.{Adds, Rows}
use Rattle.dg_resolve.proofs.TableLemmas.{adds, adds_new, stands, rows}
use Rattle.dg_resolve.proofs.table.KeyTable.add.Goals as goal

pub returns-in_ok-push-in-Some : goal.returns-in_ok-push-in-Some
unfolding same_key
returns-in_ok-push-in-Some c =
    let key = c.args.key.now in
    let entries = c.self.inside.groups.entries in
    let new = c.push.new.self in
    let group = c.in-Some.group.now in
    let there : is_some _ ≡ true = sym (ap is_some c.in-Some.ensures.value) in
    let updates = (c.get_mut.follows.holds new).3 there in
    record {
      exact = subst (λ (v : Rows). Adds same_key key c.args.value v (rows same_key key_decides (λ g. g.items) (c.get_mut.follows.lender new).entries)) c.self.view_is
          (adds same_key key_decides (λ g. g.items) key c.args.value entries (c.get_mut.follows.lender new).entries new updates.0
          (c.in_ok-push-in-Some.ensures.items ∙ ap (λ (l : List Owned). l ++ c.args.value ∷ []) (stands same_key key_decides (λ g. g.items) key entries (Some group) c.in-Some.ensures.value)));
    }

pub returns-in_ok-insert-in-None : goal.returns-in_ok-insert-in-None
unfolding same_key
returns-in_ok-insert-in-None c =
    let key = c.args.key.now in
    let entries = c.self.inside.groups.entries in
    let group = c.push-in-None.new.self in
    let new = c.insert.new.self.entries in
    record {
      exact = subst (λ (v : Rows). Adds same_key key c.args.value v (rows same_key key_decides (λ g. g.items) new)) c.self.view_is
          (adds_new same_key key_decides (λ g. g.items) key c.in_ok-key-in-None.key c.args.value entries c.get_mut.follows.lender-at-none.entries new group
          c.in_ok-key-in-None.ensures.exact
          (ap (λ m. m.entries) c.get_mut.follows.holds-at-none)
          c.in_ok-insert-in-None.ensures.updates.0 c.in-None.ensures.value
          (c.in_ok-push-in-None.ensures.items ∙ ap (λ (l : List Owned). l ++ c.args.value ∷ []) c.new-group.ensures.items));
    }

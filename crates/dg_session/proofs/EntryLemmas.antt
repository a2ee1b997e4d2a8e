-- The entries of a class by name.
use Rattle.std.proofs.Common.{◌≡◌, ℕ, Bool, true, false, cond, List, [], ◌∷◌, Option, Some, None, find, refl, sym, ap, ◌∙◌}
use Rattle.std.specs.List.{filter_map, cons_option}
use Rattle.std.specs.Option.{option_and_then, option_map_or}
use Rattle.std.specs.Str.{bytes_eq}
use Rattle.dg_lex.specs.Bytes.{Bytes}
use Rattle.dg_decl.specs.declared.document.Doc.{Doc}
use Rattle.dg_decl.specs.declared.item.Item.{Item}
use Rattle.dg_decl.specs.Names.{item_at, member_name}
use Rattle.dg_decl.specs.Components.{entries_of}
use Rattle.dg_decl.specs.Stages.Session.{entry_named}
use Rattle.dg_slots.specs.Sessions.{is_entry_called}

abbrev has_name : Bytes → Option Bytes → Bool
has_name n o = option_map_or (λ m. bytes_eq m n) o false

abbrev is_called_so : Bytes → Item → Bool
is_called_so n i = has_name n (member_name i)

found_among : (doc : Doc) (n : Bytes) (xs : List ℕ)
    → option_and_then (item_at doc) (find (is_entry_called doc n) xs)
    ≡ find (is_called_so n) (filter_map (item_at doc) xs)
found_among doc n [] = refl
found_among doc n (x ∷ xs) =
    by (item_at doc x) refl (found_among doc n xs)
  where
    inner : (i : Item) (b : Bool) → item_at doc x ≡ Some i
        → option_and_then (item_at doc) (find (is_entry_called doc n) xs)
        ≡ find (is_called_so n) (filter_map (item_at doc) xs)
        → option_and_then (item_at doc) (cond b (Some x) (find (is_entry_called doc n) xs))
        ≡ cond b (Some i) (find (is_called_so n) (filter_map (item_at doc) xs))
    inner i true e later = e
    inner i false e later = later

    by : (o : Option Item) → item_at doc x ≡ o
        → option_and_then (item_at doc) (find (is_entry_called doc n) xs)
        ≡ find (is_called_so n) (filter_map (item_at doc) xs)
        → option_and_then (item_at doc) (find (is_entry_called doc n) (x ∷ xs))
        ≡ find (is_called_so n) (filter_map (item_at doc) (x ∷ xs))
    by None e later =
        ap (λ (o : Option Item). option_and_then (item_at doc) (cond (has_name n (option_and_then
        member_name o)) (Some x) (find (is_entry_called doc n) xs))) e
        ∙ later
        ∙ sym (ap (λ (o : Option Item). find (is_called_so n) (cons_option o (filter_map (item_at
        doc) xs))) e)
    by (Some i) e later =
        ap (λ (o : Option Item). option_and_then (item_at doc) (cond (has_name n (option_and_then
        member_name o)) (Some x) (find (is_entry_called doc n) xs))) e
        ∙ inner i (is_called_so n i) e later
        ∙ sym (ap (λ (o : Option Item). find (is_called_so n) (cons_option o (filter_map (item_at
        doc) xs))) e)

pub entry_found : (doc : Doc) (class : ℕ) (n : Bytes) (o : Option ℕ)
    → o ≡ find (is_entry_called doc n) (entries_of doc class)
    → option_and_then (item_at doc) o ≡ entry_named doc class n
entry_found doc class n o e =
    ap (option_and_then (item_at doc)) e ∙ found_among doc n (entries_of doc class)

-- What a call for a cell or Lazy answers, by what is held or made.
use Rattle.std.proofs.Common.{◌≡◌, suc, List, [], ◌∷◌, ◌++◌, Option, Some, None, Result, Ok, Err, Contains, inl, inr, refl, sym, ap, subst, ◌∙◌, append_assoc, append-nil}
use Rattle.std.specs.List.{flat_map}
use Rattle.std.proofs.lemmas.List.Elements.{Contains-append_right, Contains-push, Contains-push_cases}
use Rattle.dg_types.specs.declared.memory.NoMemory.{NoMemory}
use Rattle.dg_decl.proofs.MemberLemmas.{in_flat_map}
use Rattle.dg_decl.specs.declared.document.Doc.{Doc}
use Rattle.dg_value.specs.declared.value.Kept.{Kept}
use Rattle.dg_eval.specs.Runs.{Asked}
use Rattle.dg_eval.specs.Asks.{asked_by, used}
use Rattle.dg_promises.specs.Uses.{used_by_asks}
use Rattle.dg_requests.specs.Scopes.{Scope, IsContent, Uses, AllUsed, Exactly, Answers, IsMadeOnce}
use Rattle.dg_tree.specs.Tables.{LooksUp}
use Rattle.dg_tree.proofs.NameLemmas.{contains_head, contains_tail, none_contained, only_one}

abbrev pub scope_of : Doc → Scope
scope_of doc = record { doc = doc; may = used_by_asks doc }

-- a call for x that had these to ask for, between two lists of what was asked for
abbrev pub Called : Doc → Asked → List Asked → List Asked → List Asked → Result Kept NoMemory
    → Type 0
Called doc x asks old new result =
    Answers x asks (scope_of doc) (scope_of doc) (Some old) (Some new) result

-- ---- uses

uses_itself : (doc : Doc) (x : Asked) → Uses doc x x
unfolding used
uses_itself doc x = (1, contains_head x (flat_map (used doc 0) (asked_by doc x)))

uses_through : (doc : Doc) (x y z : Asked) → Contains (asked_by doc x) y → Uses doc y z
    → Uses doc x z
unfolding used
uses_through doc x y z c u = (
  suc u.0,
  contains_tail x (flat_map (used doc u.0) (asked_by doc x)) z
      (in_flat_map (used doc u.0) (asked_by doc x) y z c u.1),
)

used_through : (doc : Doc) (x : Asked) (more : List Asked) → AllUsed doc (asked_by doc x) more
    → AllUsed doc (x ∷ []) more
used_through doc x more all y c =
    let h = all y c in
    (x, contains_head x [], uses_through doc x h.0 y h.1 h.2)

used_itself : (doc : Doc) (x y : Asked) → x ≡ y → (z : Asked) × Contains (x ∷ []) z × Uses doc z y
used_itself doc x y e = (x, contains_head x [], subst (Uses doc x) e (uses_itself doc x))

only_itself : (doc : Doc) (x : Asked) → Exactly doc (x ∷ []) (x ∷ [])
only_itself doc x = record {
  used = λ y c. used_itself doc x y (only_one x y c);
  each = λ y c. c;
}

-- ---- look-ups

pub looked_none : (doc : Doc) (x : Asked) (old new : List Asked) (o : Option Kept) → o ≡ None
    → LooksUp doc x old new (Ok o) → (Contains old x → ⊥) × (new ≡ old)
looked_none doc x old new None e h = h
looked_none doc x old new (Some kept) e h = cc

pub looked_some : (doc : Doc) (x : Asked) (old new : List Asked) (o : Option Kept)
    (kept : Kept) → o ≡ Some kept → LooksUp doc x old new (Ok o)
    → LooksUp doc x old new (Ok (Some kept))
looked_some doc x old new o kept e h =
    subst (λ (p : Option Kept). LooksUp doc x old new (Ok p)) e h

-- ---- answers

-- what is held is asked for
pub called_again : (doc : Doc) (x : Asked) (old new : List Asked) (kept : Kept)
    → IsContent doc x kept → new ≡ old ++ x ∷ [] → Called doc x (x ∷ []) old new (Ok kept)
called_again doc x old new kept content is = record {
  content = content;
  same = refl;
  asked = (x ∷ [], is, only_itself doc x);
}

-- memory lacks before anything is asked for
pub called_nothing : (doc : Doc) (x : Asked) (old new : List Asked) (e : NoMemory) → new ≡ old
    → Called doc x (x ∷ []) old new (Err e)
called_nothing doc x old new e is = record {
  content = tt;
  same = refl;
  asked = ([], is ∙ sym (append-nil old), λ y c. absurd (none_contained y c));
}

-- memory lacks for what is made
pub called_stopped : (doc : Doc) (x : Asked) (old start new : List Asked) (e f : NoMemory)
    → start ≡ old → Called doc x (asked_by doc x) start new (Err e)
    → Called doc x (x ∷ []) old new (Err f)
called_stopped doc x old start new e f first made = record {
  content = tt;
  same = refl;
  asked = (
    made.asked.0,
    made.asked.1 ∙ ap (λ (l : List Asked). l ++ made.asked.0) first,
    used_through doc x made.asked.0 made.asked.2,
  );
}

-- memory lacks for storing what was made
pub called_in_vain : (doc : Doc) (x : Asked) (old start made_at new : List Asked) (kept : Kept)
    (e : NoMemory) → start ≡ old → Called doc x (asked_by doc x) start made_at (Ok kept)
    → new ≡ made_at → Called doc x (x ∷ []) old new (Err e)
called_in_vain doc x old start made_at new kept e first made is = record {
  content = tt;
  same = refl;
  asked = (
    made.asked.0,
    is ∙ made.asked.1 ∙ ap (λ (l : List Asked). l ++ made.asked.0) first,
    used_through doc x made.asked.0 made.asked.2.used,
  );
}

-- what was made is stored
pub called_made : (doc : Doc) (x y : Asked) (old start made_at new : List Asked) (kept : Kept)
    → start ≡ old → Called doc x (asked_by doc x) start made_at (Ok kept)
    → new ≡ made_at ++ y ∷ [] → y ≡ x → Called doc x (x ∷ []) old new (Ok kept)
called_made doc x y old start made_at new kept first made is same_name = record {
  content = made.content;
  same = refl;
  asked = (
    made.asked.0 ++ x ∷ [],
    is ∙ ap (λ (z : Asked). made_at ++ z ∷ []) same_name ∙ ap (λ (l : List Asked). l ++ x ∷ [])
        (made.asked.1 ∙ ap (λ (l : List Asked). l ++ made.asked.0) first)
        ∙ append_assoc old made.asked.0 (x ∷ []),
    record {
      used = λ z c. elim (Contains-push_cases made.asked.0 x z c) [
        | inl a ↦ used_through doc x made.asked.0 made.asked.2.used z a
        | inr e ↦ used_itself doc x z e
      ];
      each = λ z c. subst (Contains (made.asked.0 ++ x ∷ [])) (only_one x z c)
          (Contains-push made.asked.0 x);
    },
  );
}

-- what a content asks for was asked for when it was made
pub made_closed : (doc : Doc) (x : Asked) (start new : List Asked) (kept : Kept)
    → Called doc x (asked_by doc x) start new (Ok kept) → (y : Asked)
    → Contains (asked_by doc x) y → Contains new y
made_closed doc x start new kept made y c =
    subst (λ (l : List Asked). Contains l y) (sym made.asked.1)
    (Contains-append_right start made.asked.0 y (made.asked.2.each y c))

-- ---- what is held isn't made again

-- of a call that lacks memory nothing is said
pub stopped_once : (x : Asked) (old new : List Asked) (r : Result Kept NoMemory) (e : NoMemory)
    → r ≡ Err e → IsMadeOnce x (Some old) (Some new) r
stopped_once x old new r e is = subst (IsMadeOnce x (Some old) (Some new)) (sym is) tt

-- what is held is asked for alone
pub held_once : (x : Asked) (old new : List Asked) (kept : Kept) → new ≡ old ++ x ∷ []
    → IsMadeOnce x (Some old) (Some new) (Ok kept)
held_once x old new kept is asked = ap Some is

-- what is made wasn't asked for before
pub new_once : (x : Asked) (old new : List Asked) (kept : Kept) → (Contains old x → ⊥)
    → IsMadeOnce x (Some old) (Some new) (Ok kept)
new_once x old new kept unasked asked = absurd (unasked asked)

-- The interfaces that are listed, one after another.
use Rattle.std.proofs.Common.{◌≡◌, ◌==◌, ℕ, suc, zero, Bool, true, false, cond, ◌&&◌, ◌||◌, List, [], ◌∷◌, ◌++◌, ◌+◌, ◌<◌, get_or, take, length, arith, refl, sym, ap, ◌∙◌}
use Rattle.std.specs.List.{list_any}
use Rattle.std.specs.Str.{bytes_eq}
use Rattle.std.specs.Cmp.Lexicographic.{bytes_decides}
use Rattle.std.proofs.Math.Bool.{or-false}
use Rattle.std.proofs.Math.Seq.{take-suc}
use Rattle.std.proofs.Math.Dec.{eqb-suc-zero, eqb-zero-suc, eqb-suc-suc}
use Rattle.std.proofs.lemmas.Bool.{and_parts, eqb-true}
use Rattle.std.proofs.lemmas.List.{length-take-le}
use Rattle.std.proofs.lemmas.List.Recursion.{or_push}
use Rattle.indexmap.specs.IndexSet.{insert_key}
use Rattle.dg_typing.specs.declared.types_stage.type_names.Listing.{Listing}
use Rattle.dg_typing.specs.contracts.types_stage.type_names.ListingPartialEq.TheImpl as listing
use Rattle.dg_decl.specs.declared.item.Item.{Item}
use Rattle.dg_lex.specs.Bytes.{Bytes, is_among}
use Rattle.dg_decl.specs.Typing.{interfaces_in}
use Rattle.dg_typing.specs.TypesListed.{has_listing, listed_at, AddsListings, HasListings}

abbrev pub same : Listing → Listing → Bool
same = listing.ghosts.eq

-- the elements up to one place more
next_taken : {X : Type 0} (xs : List X) (i : ℕ) (x : X) → i < length xs → x ≡ get_or xs i x
    → take (i + 1) xs ≡ take i xs ++ x ∷ []
next_taken xs i x within at =
    let next : i + 1 ≡ suc i = omega arith in
    ap (λ n. take n xs) next ∙ take-suc xs i x within
    ∙ ap (λ y. take i xs ++ y ∷ []) (sym at)

any_push : {X : Type 0} (p : X → Bool) (xs : List X) (x : X)
    → list_any p (xs ++ x ∷ []) ≡ (list_any p xs || p x)
any_push p xs x = or_push (list_any p) p refl (λ y ys. refl) xs x

-- ---- one interface more

abbrev is_at : Listing → ℕ → Bytes → Bool
is_at l class interface = class == l.class && bytes_eq interface l.interface.now

-- what has the class and the interface of a listing that is there is there too
had_already : (keys : List Listing) (k : Listing) (class : ℕ) (interface : Bytes)
    → has_listing keys k.class k.interface.now ≡ true → is_at k class interface ≡ true
    → has_listing keys class interface ≡ true
had_already keys k class interface had passes =
    let parts = and_parts (class == k.class) (bytes_eq interface k.interface.now) passes in
    ap (λ (c : ℕ). has_listing keys c interface) (eqb-true class k.class parts.0)
    ∙ ap (has_listing keys k.class) ((bytes_decides interface k.interface.now).0 parts.1) ∙ had

or_again : (a b : Bool) → (b ≡ true → a ≡ true) → a ≡ (a || b)
or_again true b given = refl
or_again false true given = given refl
or_again false false given = refl

one_more : (keys : List Listing) (k : Listing) (had : Bool) → list_any (same k) keys ≡ had
    → (class : ℕ) (interface : Bytes)
    → has_listing (cond had keys (keys ++ k ∷ [])) class interface
    ≡ (has_listing keys class interface || is_at k class interface)
one_more keys k true had class interface =
    or_again (has_listing keys class interface) (is_at k class interface)
    (had_already keys k class interface had)
one_more keys k false had class interface =
    any_push (λ (l : Listing). is_at l class interface) keys k

-- ---- the interfaces of a class

-- what was there before, and what these interfaces and one more add
joined : (had in_class done is : Bool) → ((had || (in_class && done)) || (in_class && is))
    ≡ (had || (in_class && (done || is)))
joined true in_class done is = refl
joined false false done is = refl
joined false true done is = refl

pub adds_next : (k : Listing) (index : ℕ) (interfaces : List Bytes) (i : ℕ) (interface : Bytes)
    (first old new : List Listing) → i < length interfaces
    → interface ≡ get_or interfaces i interface → k.class ≡ index → k.interface.now ≡ interface
    → new ≡ insert_key same old k → AddsListings index (take i interfaces) first old
    → AddsListings index (take (i + 1) interfaces) first new
adds_next k index interfaces i interface first old new within at of_class of_interface is adds c n =
    let had = has_listing first c n in
    let done = take i interfaces in
    let so_far : Bool = had || (c == index && is_among n done) in
    ap (λ (keys : List Listing). has_listing keys c n) is
    ∙ one_more old k (list_any (same k) old) refl c n
    ∙ ap (λ b. b || is_at k c n) (adds c n)
    ∙ ap (λ (x : ℕ). so_far || (c == x && bytes_eq n k.interface.now)) of_class
    ∙ ap (λ (x : Bytes). so_far || (c == index && bytes_eq n x)) of_interface
    ∙ joined had (c == index) (is_among n done) (bytes_eq n interface)
    ∙ ap (λ b. had || (c == index && b)) (sym (any_push (bytes_eq n) done interface))
    ∙ ap (λ (ns : List Bytes). had || (c == index && is_among n ns))
    (sym (next_taken interfaces i interface within at))

-- ---- the items

-- what is listed at an index, once there is one item more
at_end : (items : List Item) (item : Item) (class : ℕ) (interface : Bytes)
    → is_among interface (listed_at (items ++ item ∷ []) class)
    ≡ (is_among interface (listed_at items class)
    || (class == length items && is_among interface (interfaces_in item)))
at_end [] item zero interface = refl
at_end [] item (suc class) interface =
    ap (λ b. b && is_among interface (interfaces_in item)) (sym (eqb-suc-zero class))
at_end (x ∷ xs) item zero interface =
    sym (or-false (is_among interface (interfaces_in x)))
    ∙ ap (λ b. is_among interface (interfaces_in x)
    || (b && is_among interface (interfaces_in item))) (sym (eqb-zero-suc (length xs)))
at_end (x ∷ xs) item (suc class) interface =
    at_end xs item class interface
    ∙ ap (λ b. is_among interface (listed_at xs class)
    || (b && is_among interface (interfaces_in item))) (sym (eqb-suc-suc class (length xs)))

pub items_next : (items : List Item) (place : ℕ) (item : Item) (old new : List Listing)
    → place < length items → item ≡ get_or items place item → HasListings (take place items) old
    → AddsListings place (interfaces_in item) old new → HasListings (take (place + 1) items) new
items_next items place item old new within at has adds = record {
  each = λ c n. adds c n
      ∙ ap (λ b. b || (c == place && is_among n (interfaces_in item))) (has.each c n)
      ∙ ap (λ (i : ℕ). is_among n (listed_at (take place items) c)
      || (c == i && is_among n (interfaces_in item)))
      (sym (length-take-le place items (omega (arith, within))))
      ∙ sym (at_end (take place items) item c n)
      ∙ ap (λ (xs : List Item). is_among n (listed_at xs c))
      (sym (next_taken items place item within at));
}

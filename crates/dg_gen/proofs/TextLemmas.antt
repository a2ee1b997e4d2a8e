-- How a text grows line by line.
use Rattle.std.proofs.Common.{◌≡◌, ℕ, ◌+◌, List, [], ◌∷◌, ◌++◌, map, sym, ap, ◌∙◌, append_assoc, append-nil}
use Rattle.std.specs.List.{range_with_len}
use Rattle.std.proofs.lemmas.List.Concat.{flat_map-append}
use Rattle.std.proofs.lemmas.List.FromFn.{map-range_with_len_more}
use Rattle.dg_gen.specs.Document.{Bytes, text_of, Adds}

text_of-append : (xs ys : List Bytes) → text_of (xs ++ ys) ≡ text_of xs ++ text_of ys
unfolding text_of
text_of-append xs ys = flat_map-append (λ (line : Bytes). line ++ 10 ∷ []) xs ys

pub nothing : (z : Bytes) → Adds z [] z
unfolding text_of
nothing z = record { text = sym (append-nil z) }

pub one : (z line a after : Bytes) → a ≡ z ++ line → after ≡ a ++ 10 ∷ [] → Adds z (line ∷ []) after
unfolding text_of
one z line a after p q = record { text = rw (q, p) (simp (append_assoc, append-nil)) }

-- lists behind one another
pub joined : (z a b x y : Bytes) → a ≡ z ++ x → b ≡ a ++ y → b ≡ z ++ (x ++ y)
joined z a b x y p q = rw (q, p) (append_assoc z x y)

pub four_joined : (z a b c d x y u v : Bytes) → a ≡ z ++ x → b ≡ a ++ y → c ≡ b ++ u → d ≡ c ++ v
    → d ≡ z ++ (x ++ y ++ u ++ v)
four_joined z a b c d x y u v p q r s = joined z c d (x ++ y ++ u) v (joined z b c (x ++ y) u (joined z a b x y p q) r) s

-- a line, the first part of which stood there before
pub longer : {z line a after : Bytes} (head : Bytes) → a ≡ z ++ head → Adds a (line ∷ []) after → Adds z ((head ++ line) ∷ []) after
unfolding text_of
longer {z} {line} {a} {after} head p q = record { text = rw (q.text, p) (simp (append_assoc, append-nil)) }

-- lines behind lines
pub more : {z a b : Bytes} {xs ys : List Bytes} → Adds z xs a → Adds a ys b → Adds z (xs ++ ys) b
more {z} {a} {b} {xs} {ys} first then = record { text = rw (then.text, first.text, text_of-append) (append_assoc z (text_of xs) (text_of ys)) }

-- the lines of one number more
pub one_more : {z a b : Bytes} (f : ℕ → Bytes) (first count next : ℕ) → first + count ≡ next
    → Adds z (map f (range_with_len first count)) a → Adds a (f next ∷ []) b
    → Adds z (map f (range_with_len first (count + 1))) b
one_more f first count next at so_far pushed = rw (map-range_with_len_more f first count next at) (more so_far pushed)

-- the lines of a text that was empty before
pub whole : {z after : Bytes} {xs : List Bytes} → z ≡ [] → Adds z xs after → after ≡ text_of xs
whole {z} {after} {xs} at_first added = added.text ∙ ap (λ (before : Bytes). before ++ text_of xs) at_first

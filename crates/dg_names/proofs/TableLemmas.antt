-- What a table finds once there is one more name.
use Rattle.std.proofs.Common.{◌≡◌, ℕ, Bool, true, false, cond, List, [], ◌∷◌, ◌++◌, map, Option, Some, None, is_some, if◌then◌else◌, refl, sym, ap, ◌∙◌, true≢false}
use Rattle.std.specs.Bool.{one_answer}
use Rattle.std.specs.Map.{lookup}
use Rattle.std.specs.Option.{option_or}
use Rattle.std.specs.Str.{bytes_eq}
use Rattle.std.proofs.lemmas.Slice.Eq.{bytes_eq-Decides}
use Rattle.dg_lex.specs.Bytes.{Bytes}
use Rattle.dg_names.specs.Tables.{Table, index_in, Adds}

pub is_none : {A : Type 0} (o : Option A) (b : Bool) → b ≡ is_some o → b ≡ false → o ≡ None
is_none None b is fails = refl
is_none (Some x) b is fails = absurd (true≢false (sym is ∙ fails))

pub bytes_eq_turned : (a b : Bytes) → bytes_eq a b ≡ bytes_eq b a
bytes_eq_turned a b = one_answer (bytes_eq a b) (bytes_eq b a) (bytes_eq-Decides a b)
    ((λ e. sym ((bytes_eq-Decides b a).0 e)), (λ e. (bytes_eq-Decides b a).1 (sym e)))

-- a map's entries as they are seen, with the bytes of each key
module _ {K : Type 0} (bytes : K → Bytes) where
  abbrev pub seen : List (K × ℕ) → Table
  seen entries = map (λ e. (bytes e.0, e.1)) entries

  pub lookup-seen : (name : Bytes) (entries : List (K × ℕ))
      → lookup (λ k. bytes_eq name (bytes k)) entries ≡ index_in name (seen entries)
  lookup-seen name [] = refl
  lookup-seen name (e ∷ es) = by (bytes_eq name (bytes e.0)) (lookup-seen name es)
    where
      by : (b : Bool) → lookup (λ k. bytes_eq name (bytes k)) es ≡ index_in name (seen es)
          → cond b (Some e.1) (lookup (λ k. bytes_eq name (bytes k)) es)
          ≡ cond b (Some e.1) (index_in name (seen es))
      by true rest = refl
      by false rest = rest

  pub seen-push : (entries : List (K × ℕ)) (e : K × ℕ)
      → seen (entries ++ e ∷ []) ≡ seen entries ++ (bytes e.0, e.1) ∷ []
  seen-push [] e = refl
  seen-push (x ∷ xs) e = ap (λ (t : Table). (bytes x.0, x.1) ∷ t) (seen-push xs e)

-- the row at the end counts where no other has its name
index_in-push : (n name : Bytes) (i : ℕ) (table : Table)
    → index_in n (table ++ (name, i) ∷ [])
    ≡ option_or (index_in n table) (if bytes_eq n name then Some i else None)
index_in-push n name i [] = refl
index_in-push n name i (row ∷ rows) = by (bytes_eq n row.0) (index_in-push n name i rows)
  where
    by : (b : Bool)
        → index_in n (rows ++ (name, i) ∷ [])
        ≡ option_or (index_in n rows) (if bytes_eq n name then Some i else None)
        → cond b (Some row.1) (index_in n (rows ++ (name, i) ∷ []))
        ≡ option_or (cond b (Some row.1) (index_in n rows))
        (if bytes_eq n name then Some i else None)
    by true rest = refl
    by false rest = rest

pub adds_new : (name : Bytes) (i : ℕ) (old new : Table) → new ≡ old ++ (name, i) ∷ []
    → Adds name i old new
adds_new name i old new is = record {
  each = λ n. ap (index_in n) is ∙ index_in-push n name i old
      ∙ ap (λ (b : Bool). option_or (index_in n old) (if b then Some i else None))
      (bytes_eq_turned n name);
}

pub adds_old : (name : Bytes) (i : ℕ) (table : Table) (b : Bool) → b ≡ is_some (index_in name table)
    → b ≡ true → Adds name i table table
adds_old name i table b is holds = by (index_in name table) refl (sym is ∙ holds)
  where
    same : (o : Option ℕ) (k : ℕ) (t : Bool) → (t ≡ true → o ≡ Some k)
        → o ≡ option_or o (if t then Some i else None)
    same None k true there = cc (there refl)
    same None k false there = refl
    same (Some j) k t there = refl

    by : (o : Option ℕ) → index_in name table ≡ o → is_some o ≡ true → Adds name i table table
    by None is there = absurd (true≢false (sym there))
    by (Some k) is there = record {
      each = λ n. same (index_in n table) k (bytes_eq name n)
          (λ e. ap (λ (m : Bytes). index_in m table) (sym ((bytes_eq-Decides name n).0 e)) ∙ is);
    }

use Rattle.std.proofs.Common.{◌≡◌, ◌++◌, ◌∷◌, [], ℕ, get_or, sym, ap, ◌∙◌, subst, refl, ⊎_elim}
use Rattle.std.proofs.Common.{arith}
use Rattle.std.proofs.lemmas.Bool.{cases_eq}
use Rattle.dg_num.specs.Counts.{count_of}
use Rattle.dg_num.specs.Graph.{row_at}
use Rattle.dg_num.proofs.Counts.{count_of-push_same, count_of-push_other, count_of_more_same}
use Rattle.dg_num.proofs.Counts.{count_of_more_other}
use Rattle.dg_walks.proofs.turned.push_to_each.Goals as goal

pub loop-index-preserved : goal.loop-index-preserved
loop-index-preserved c =
    let i = c.loop-index.index-index in
    let list = c.args.list.now in
    let at = get_or list i 0 in
    let old = c.loop-index.rows.items in
    let new = c.push_at.new.rows.items in
    let number = c.args.number in
    let lt = c.loop-index-test.true in
    let pushed : row_at new at ≡ row_at old at ++ number ∷ [] = c.in_ok-push_at.ensures.pushed in
    record {
      len = omega arith;
      more = λ a. ⊎_elim (λ (e : at ≡ a). let P : ℕ
          → Type 0 = λ x. row_at new x ≡ row_at old x ++ number ∷ [] in
          omega (
            arith,
            c.loop-index.invariant.more a,
            ap (λ xs. count_of xs number) (subst P e pushed),
            count_of-push_same (row_at old a) number number refl,
            count_of_more_same list i a lt e,
          ))
          (λ (ne : at ≡ a → ⊥). omega (
            arith,
            c.loop-index.invariant.more a,
            ap (λ xs. count_of xs number) (c.in_ok-push_at.ensures.others a (λ q. ne (sym q))),
            count_of_more_other list i a lt ne,
          )) (cases_eq at a);
      others = λ a other differs. ⊎_elim (λ (e : at ≡ a). let P : ℕ
          → Type 0 = λ x. row_at new x ≡ row_at old x ++ number ∷ [] in
          ap (λ xs. count_of xs other) (subst P e pushed)
          ∙ count_of-push_other (row_at old a) number other (λ q. differs (sym q))
          ∙ c.loop-index.invariant.others a other differs)
          (λ (ne : at ≡ a → ⊥). ap (λ xs. count_of xs other)
          (c.in_ok-push_at.ensures.others a (λ q. ne (sym q)))
          ∙ c.loop-index.invariant.others a other differs) (cases_eq at a);
    }

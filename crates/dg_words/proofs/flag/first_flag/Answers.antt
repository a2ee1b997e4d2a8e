use Rattle.std.proofs.Common.{Some, lit<}
use Rattle.std.proofs.lemmas.Str.Pattern.{split_parts}
use Rattle.dg_words.proofs.ChoiceLemmas.{one_word, two_words, none_at_end, none_with_equals, none_alone, none_in_two}
use Rattle.dg_words.proofs.flag.first_flag.Goals as goal

pub returns-in_err-word : goal.returns-in_err-word
returns-in_err-word c = record { exact = rw c.from_residual.ensures (none_at_end _ c.in_err-word.ensures.exact) }

pub returns-in_err-flag_of-in-Some : goal.returns-in_err-flag_of-in-Some
returns-in_err-flag_of-in-Some c = record {
  exact = rw c.from_residual-in_err-flag_of-in-Some.ensures
      (none_with_equals _ _ c.in_ok-word.word.now c.in-Some.name c.in-Some.value c.in_ok-word.ensures.exact c.in-Some.ensures.cases c.in_err-flag_of-in-Some.ensures.exact);
}

pub returns-in_ok-flag_of-in-Some : goal.returns-in_ok-flag_of-in-Some
returns-in_ok-flag_of-in-Some c =
    let parts = split_parts 61 c.in_ok-word.word.now (Some (c.in-Some.name, c.in-Some.value)) c.in-Some.ensures.cases (lit< tt) in
    let option = c.in_ok-flag_of-in-Some.ensures.exact in
    record {
      exact = (option.0, option.1, one_word option.0 _ _ c.in_ok-word.word.now c.in-Some.name.now c.in-Some.value.now c.in_ok-word.ensures.exact parts.0 option.2);
    }

pub returns-in_err-value-in-None : goal.returns-in_err-value-in-None
returns-in_err-value-in-None c = record {
  exact = rw c.from_residual-in_err-value-in-None.ensures
      (none_alone _ _ c.in_ok-word.word.now c.in_ok-word.ensures.exact c.in_err-value-in-None.ensures.exact c.in-None.ensures.cases);
}

pub returns-in_err-flag_of-in-None : goal.returns-in_err-flag_of-in-None
returns-in_err-flag_of-in-None c = record {
  exact = rw c.from_residual-in_err-flag_of-in-None.ensures
      (none_in_two _ _ _ c.in_ok-word.word.now c.in_ok-value-in-None.value.now c.in_ok-word.ensures.exact c.in_ok-value-in-None.ensures.exact c.in-None.ensures.cases c.in_err-flag_of-in-None.ensures.exact);
}

pub returns-in_ok-flag_of-in-None : goal.returns-in_ok-flag_of-in-None
returns-in_ok-flag_of-in-None c =
    let option = c.in_ok-flag_of-in-None.ensures.exact in
    record {
      exact = (option.0, option.1, two_words option.0 _ _ _ c.in_ok-word.word.now c.in_ok-value-in-None.value.now c.in_ok-word.ensures.exact c.in_ok-value-in-None.ensures.exact option.2);
    }

-- How many `new` and calls stand before what comes after a part of a body.
use Rattle.std.specs.Prelude.{◌+◌, List, length}
use Rattle.dg_eval.specs.Runs.{in_order}
use Rattle.dg_eval.specs.Bodies.{Part, news_of, called_of, runs_of}
use Rattle.dg_bodies.specs.declared.counters.NewsAndCalls.{NewsAndCalls}

abbrev pub one_new : NewsAndCalls → NewsAndCalls
one_new at = record { news = at.news + 1; calls = at.calls }

abbrev pub one_call : NewsAndCalls → NewsAndCalls
one_call at = record { news = at.news; calls = at.calls + 1 }

-- how many stand before what comes after a part
unfoldable pub after : {A : Type 0} → Part A → NewsAndCalls → NewsAndCalls
after part at = record {
  news = at.news + part.news;
  calls = at.calls + length part.called;
}

-- some parts one behind the other
abbrev pub row : {A : Type 0} → List (Part A) → Part (List A)
row ps = record {
  news = news_of ps;
  called = called_of ps;
  run = λ s n c. in_order (runs_of ps s n c);
}

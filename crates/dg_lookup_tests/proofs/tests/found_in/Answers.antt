use Rattle.dg_lookup_tests.proofs.ClassLemmas.{class_within}
use Rattle.dg_lookup_tests.proofs.tests.found_in.Goals as goal

pub find-requires-clause-within : goal.find-requires-clause-within
find-requires-clause-within c =
    class_within c.args.d.now c.args.t.now.classes c.args.class c.requires.classes
    c.requires.within

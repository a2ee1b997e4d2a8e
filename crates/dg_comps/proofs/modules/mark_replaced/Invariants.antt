use Rattle.std.proofs.Common.{slice_index_or, vec_len, false}
use Rattle.dg_decl.specs.Names.{module_named}
use Rattle.dg_decl.specs.Components.{is_number}
use Rattle.dg_comps.proofs.ModuleLemmas.{MarksSoFar}
use Rattle.dg_comps.proofs.modules.mark_replaced.Given as goal

abbrev pub invariant-loop-name : goal.invariant-loop-name
invariant-loop-name l =
    MarksSoFar (λ m n. is_number m (module_named l.names n))
    (λ m. slice_index_or l.initial.marks.items m false) (vec_len l.initial.marks) l.name-items
    l.name-index l.marks.items

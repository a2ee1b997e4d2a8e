-- A number below the count of the classes that a document has is that of a class.
use Rattle.std.proofs.Common.{◌≡◌, ◌<◌, ℕ, List, length, ap, arith}
use Rattle.dg_decl.specs.declared.document.Doc.{Doc}
use Rattle.dg_decl.specs.declared.component.Class.{Class}
use Rattle.dg_decl.specs.Components.{class_count, component_classes}
use Rattle.dg_slots.proofs.ClassLemmas.{classes_counted}

pub class_within : (doc : Doc) (classes : List Class) (c : ℕ) → classes ≡ component_classes doc
    → c < length classes → c < class_count doc
class_within doc classes c are lt = omega (arith, ap length are, classes_counted doc, lt)

-- A line mentions what it does outside blocks and within.
use Rattle.std.proofs.Common.{◌≡◌, ◌++◌, List, [], refl, sym, ap}
use Rattle.std.proofs.lemmas.List.{append-nil}
use Rattle.dg_decl.specs.declared.item.Item.{Item}
use Rattle.dg_decl.specs.declared.item.Item.TheVariants as item
use Rattle.dg_decl.specs.Stages.Names.{Mention, mentions, unknown_name}
use Rattle.dg_decl.specs.declared.document.Doc.{Doc}
use Rattle.dg_decl.specs.Document.{Statement}
use Rattle.dg_typing.specs.NamesJudged.{judged}
use Rattle.dg_typing.specs.NamesLines.{outer_mentions, block_mentions}

outer_alone : (ms : List Mention) → ms ≡ ms ++ []
outer_alone ms = sym (append-nil ms)

pub mentions_are : (i : Item) → mentions i ≡ outer_mentions i ++ block_mentions i
unfolding mentions outer_mentions block_mentions
mentions_are (item.QualifierLine n member) = refl
mentions_are (item.ScopeLine n) = refl
mentions_are (item.Interface n) = refl
mentions_are (item.Class inject s n params interfaces) = outer_alone _
mentions_are (item.Module install n includes) = outer_alone _
mentions_are (item.TestModule install n replaces includes) = outer_alone _
mentions_are (item.Component scopes n parent ms) = outer_alone _
mentions_are (item.DefineComponent scopes n parent) = outer_alone _
mentions_are (item.EntryPoint install n) = outer_alone _
mentions_are (item.Provides mark s n params result body) = refl
mentions_are (item.Binds mark s n param result) = refl
mentions_are (item.Produces mark n params result body) = refl
mentions_are (item.OptionalOf n result) = refl
mentions_are (item.Multibinds n result) = refl
mentions_are (item.BindsInstance n result) = refl
mentions_are (item.DependsOn n) = refl
mentions_are (item.Entry n result) = refl
mentions_are item.End = refl
mentions_are (item.OpenLine n c parent args) = outer_alone _
mentions_are (item.Link from to) = refl
mentions_are (item.AskLine inst entry steps) = refl

pub unknown_is : (doc : Doc) (s : Statement)
    → judged doc s (outer_mentions s.item ++ block_mentions s.item) ≡ unknown_name doc s
unfolding unknown_name judged
unknown_is doc s = ap (judged doc s) (sym (mentions_are s.item))

-- The names that lines mention, outside blocks and within.
use Rattle.std.specs.Prelude.{List, [], ◌∷◌, ◌++◌}
use Rattle.std.specs.List.{flat_map}
use Rattle.dg_decl.specs.declared.item.Item.{Item}
use Rattle.dg_decl.specs.declared.item.Item.TheVariants as item
use Rattle.dg_decl.specs.Stages.Names.{Wanted, Mention, mention, of_some, of_each, in_params, in_use, in_expr, in_tree}

-- those of a line outside blocks; none, where it stands in one
unfoldable pub outer_mentions : Item → List Mention
outer_mentions (item.Class inject s n params interfaces) =
    of_some Wanted.scope s ++ in_params params ++ of_each Wanted.interface interfaces
outer_mentions (item.Module install n includes) =
    of_some Wanted.install_target install ++ of_each Wanted.modules includes
outer_mentions (item.TestModule install n replaces includes) =
    mention Wanted.install_target install
    ∷ of_each Wanted.modules replaces ++ of_each Wanted.modules includes
outer_mentions (item.Component scopes n parent ms) =
    of_each Wanted.scope scopes ++ of_some Wanted.component parent ++ of_each Wanted.modules ms
outer_mentions (item.DefineComponent scopes n parent) =
    of_each Wanted.scope scopes ++ mention Wanted.install_target parent ∷ []
outer_mentions (item.EntryPoint install n) = mention Wanted.install_target install ∷ []
outer_mentions (item.OpenLine n c parent args) =
    mention Wanted.component_class c ∷ flat_map (λ a. in_expr a.value) args
outer_mentions other = []

-- those of a line in a block; none, where it stands outside
unfoldable pub block_mentions : Item → List Mention
block_mentions (item.Provides mark s n params result body) =
    of_some Wanted.scope s ++ in_params params ++ in_use result ++ in_expr body
block_mentions (item.Binds mark s n param result) =
    of_some Wanted.scope s ++ in_use param.shape ++ in_use result
block_mentions (item.Produces mark n params result body) =
    in_params params ++ in_use result ++ in_tree body
block_mentions (item.OptionalOf n result) = in_use result
block_mentions (item.Multibinds n result) = in_use result
block_mentions (item.BindsInstance n result) = in_use result
block_mentions (item.DependsOn n) = mention Wanted.component_class n ∷ []
block_mentions (item.Entry n result) = in_use result
block_mentions other = []

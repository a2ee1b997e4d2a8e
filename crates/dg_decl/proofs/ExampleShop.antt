-- An application of a shop, with Hilt's components: who finds what in a document of the usual size.
use Rattle.std.proofs.Common.{◌≡◌, refl, true}
use Rattle.std.specs.Prelude.{false, [], ◌∷◌, Some, None, codes}
use Rattle.dg_types.specs.declared.shape.Shape.TheVariants as shape
use Rattle.dg_types.specs.declared.shape.TypeUse.{TypeUse}
use Rattle.dg_types.specs.declared.key.Base.TheVariants as base
use Rattle.dg_types.specs.declared.key.Core.TheVariants as core
use Rattle.dg_types.specs.declared.key.Inner.TheVariants as inner
use Rattle.dg_types.specs.declared.key.MapKind.TheVariants as map_kind
use Rattle.dg_types.specs.declared.key.MapKeyVal.TheVariants as map_key
use Rattle.dg_decl.specs.declared.document.Doc.{Doc}
use Rattle.dg_decl.specs.declared.expression.Expr.{Expr}
use Rattle.dg_decl.specs.declared.expression.Expr.TheVariants as expr
use Rattle.dg_decl.specs.declared.item.Mark.TheVariants as mark
use Rattle.dg_decl.specs.declared.item.Item.TheVariants as item
use Rattle.dg_decl.specs.declared.binding.BindRef.TheVariants as ref
use Rattle.dg_decl.specs.declared.binding.Found.TheVariants as found
use Rattle.dg_decl.specs.Stages.Components.{components_stage}
use Rattle.dg_decl.specs.Components.{entries_of}
use Rattle.dg_decl.specs.Lookup.{owned, find}
use Rattle.dg_decl.proofs.ExampleWords.{looks_up, doc_of, bare_use, key_of, text_use, class_use, class_key, parameter}

abbrev io_text : TypeUse
io_text =
    record { qualifier = Some (record { name = codes "Io"; member = None }); shape = shape.Text }

abbrev body : Expr
body = expr.Text (codes "x")

-- The items before the session. No look-up depends on values, so each body is the same text.
abbrev pub shop : Doc
shop =
    doc_of (item.QualifierLine (codes "Io") false
    ∷ item.Interface (codes "Api")
    ∷ item.Interface (codes "Clock")
    ∷ item.Interface (codes "Logger")
    ∷ item.Interface (codes "Step")
    ∷ item.Class false None (codes "Config") (parameter (codes "base") text_use ∷ parameter
    (codes "retries") (bare_use shape.Int) ∷ []) []
    ∷ item.Class false None (codes "FixedClock") (parameter (codes "at") (bare_use shape.Int) ∷ [])
    (codes "Clock" ∷ [])
    ∷ item.Class false None (codes "Start") (parameter (codes "order") (bare_use shape.Int) ∷ [])
    (codes "Step" ∷ [])
    ∷ item.Class false None (codes "Flush") (parameter (codes "order") (bare_use shape.Int) ∷ [])
    (codes "Step" ∷ [])
    ∷ item.Class false None (codes "Theme") (parameter (codes "name") text_use ∷ []) []
    ∷ item.Class true (Some (codes "Singleton")) (codes "HttpClient") (parameter (codes "config")
    (class_use (codes "Config")) ∷ parameter (codes "clock") (class_use (codes "Clock"))
    ∷ []) []
    ∷ item.Class true None (codes "HttpApi") (parameter (codes "client") (class_use
    (codes "HttpClient")) ∷ []) (codes "Api" ∷ [])
    ∷ item.Class true (Some (codes "Singleton")) (codes "FileLogger") (parameter (codes "app")
    (class_use (codes "Application")) ∷ []) (codes "Logger" ∷ [])
    ∷ item.Class true (Some (codes "Singleton")) (codes "CartStore") (parameter (codes "api")
    (class_use (codes "Api")) ∷ parameter (codes "log") (class_use (codes "Logger")) ∷ []) []
    ∷ item.Class true (Some (codes "ActivityRetainedScoped")) (codes "Visit") (parameter
    (codes "store") (class_use (codes "CartStore")) ∷ []) []
    ∷ item.Class true None (codes "CartModel") (parameter (codes "handle") (class_use
    (codes "SavedStateHandle")) ∷ parameter (codes "visit") (class_use (codes "Visit")) ∷ []) []
    ∷ item.Class true (Some (codes "ActivityScoped")) (codes "Navigator") (parameter
    (codes "activity") (class_use (codes "Activity")) ∷ parameter (codes "visit") (class_use
    (codes "Visit")) ∷ []) []
    ∷ item.Class true None (codes "Page") (parameter (codes "fragment") (class_use
    (codes "Fragment")) ∷ parameter (codes "nav") (class_use (codes "Navigator")) ∷ parameter
    (codes "theme") (bare_use (shape.Optional (shape.Named (codes "Theme")))) ∷ []) []
    ∷ item.Class true (Some (codes "FragmentScoped")) (codes "Scroller") (parameter (codes "page")
    (bare_use (shape.Lazy (shape.Named (codes "Page")))) ∷ []) []
    ∷ item.Class true None (codes "Sync") (parameter (codes "service") (class_use (codes "Service"))
    ∷ parameter (codes "store") (class_use (codes "CartStore")) ∷ []) []
    ∷ item.Module (Some (codes "SingletonComponent")) (codes "NetModule") []
    ∷ item.Provides None None (codes "base") [] io_text body
    ∷ item.Provides None (Some (codes "Singleton")) (codes "config") (parameter
    (codes "base") io_text ∷ []) (class_use (codes "Config")) body
    ∷ item.Provides None (Some (codes "Singleton")) (codes "clock") [] (class_use
    (codes "Clock")) body
    ∷ item.Binds None None (codes "api") (parameter (codes "impl") (class_use (codes "HttpApi")))
    (class_use (codes "Api"))
    ∷ item.Binds None None (codes "logger") (parameter (codes "impl") (class_use
    (codes "FileLogger"))) (class_use (codes "Logger"))
    ∷ item.OptionalOf (codes "theme") (class_use (codes "Theme"))
    ∷ item.End
    ∷ item.Module (Some (codes "SingletonComponent")) (codes "StepModule") []
    ∷ item.Provides (Some mark.IntoSet) None (codes "start") [] (class_use (codes "Step")) body
    ∷ item.Provides (Some mark.IntoSet) None (codes "flush") [] (class_use (codes "Step")) body
    ∷ item.Provides (Some (mark.IntoMap (map_key.Text (codes "home")))) None
    (codes "home") [] text_use body
    ∷ item.Provides (Some (mark.IntoMap (map_key.Text (codes "cart")))) None (codes "cart")
    (parameter (codes "base") io_text ∷ []) text_use body
    ∷ item.End
    ∷ item.Module (Some (codes "ActivityComponent")) (codes "ActivityModule") []
    ∷ item.Provides None None (codes "theme") (parameter (codes "a") (class_use (codes "Activity"))
    ∷ []) (class_use (codes "Theme")) body
    ∷ item.Provides (Some (mark.IntoMap (map_key.Text (codes "self")))) None (codes "self")
    (parameter (codes "a") (class_use (codes "Activity")) ∷ []) text_use body
    ∷ item.End
    ∷ item.EntryPoint (codes "SingletonComponent") (codes "AppEntry")
    ∷ item.Entry (codes "api") (class_use (codes "Api"))
    ∷ item.Entry (codes "store") (class_use (codes "CartStore"))
    ∷ item.Entry (codes "steps") (bare_use (shape.Set (shape.Named (codes "Step"))))
    ∷ item.Entry (codes "routes") (bare_use (shape.Map shape.Text shape.Text))
    ∷ item.End
    ∷ item.EntryPoint (codes "ServiceComponent") (codes "ServiceEntry")
    ∷ item.Entry (codes "sync") (class_use (codes "Sync"))
    ∷ item.End
    ∷ item.EntryPoint (codes "ViewModelComponent") (codes "ModelEntry")
    ∷ item.Entry (codes "model") (class_use (codes "CartModel"))
    ∷ item.End
    ∷ item.EntryPoint (codes "ActivityComponent") (codes "ActivityEntry")
    ∷ item.Entry (codes "nav") (class_use (codes "Navigator"))
    ∷ item.Entry (codes "routes") (bare_use (shape.Map shape.Text shape.Text))
    ∷ item.End
    ∷ item.EntryPoint (codes "FragmentComponent") (codes "FragmentEntry")
    ∷ item.Entry (codes "page") (class_use (codes "Page"))
    ∷ item.Entry (codes "scroller") (class_use (codes "Scroller"))
    ∷ item.End
    ∷ [])

pub an_optional_theme_is_found_in_a_fragment :
    find shop 5 (key_of (core.Optional (base.Named (codes "Theme")) inner.Plain)) ≡ found.OptionalOf
unfolding looks_up
an_optional_theme_is_found_in_a_fragment = refl

pub its_theme_is_that_of_the_activity :
    find shop 5 (class_key (codes "Theme")) ≡ found.One 4 (ref.Member 35)
unfolding looks_up
its_theme_is_that_of_the_activity = refl

pub the_application_has_no_theme :
    find shop 0 (class_key (codes "Theme")) ≡ found.Nothing
unfolding looks_up
the_application_has_no_theme = refl

pub an_activity_adds_a_route :
    find shop 4 (key_of (core.Map map_kind.Text base.Text inner.Plain)) ≡ found.MapOf (owned 0
    (ref.Member 31) ∷ owned 0 (ref.Member 32) ∷ owned 4 (ref.Member 36) ∷ [])
unfolding looks_up
an_activity_adds_a_route = refl

pub the_application_has_its_own_routes :
    find shop 0 (key_of (core.Map map_kind.Text base.Text inner.Plain)) ≡ found.MapOf (owned 0
    (ref.Member 31) ∷ owned 0 (ref.Member 32) ∷ [])
unfolding looks_up
the_application_has_its_own_routes = refl

pub a_visit_is_owned_by_the_retained_component :
    find shop 3 (class_key (codes "Visit")) ≡ found.One 1 (ref.ClassItem 14)
unfolding looks_up
a_visit_is_owned_by_the_retained_component = refl

pub a_service_shares_the_store :
    find shop 2 (class_key (codes "CartStore")) ≡ found.One 0 (ref.ClassItem 13)
unfolding looks_up
a_service_shares_the_store = refl

pub a_fragment_uses_the_navigator_of_its_activity :
    find shop 5 (class_key (codes "Navigator")) ≡ found.One 4 (ref.ClassItem 16)
unfolding looks_up
a_fragment_uses_the_navigator_of_its_activity = refl

pub a_view_model_has_no_navigator :
    find shop 3 (class_key (codes "Navigator")) ≡ found.BadScope 16
unfolding looks_up
a_view_model_has_no_navigator = refl

pub the_application_is_bound_by_default :
    find shop 0 (class_key (codes "Application")) ≡ found.One 0 ref.Default
unfolding looks_up
the_application_is_bound_by_default = refl

pub no_class_of_the_shop_breaks_a_rule :
    components_stage shop ≡ []
unfolding looks_up
no_class_of_the_shop_breaks_a_rule = refl

pub the_entries_of_the_application :
    entries_of shop 0 ≡ 39 ∷ 40 ∷ 41 ∷ 42 ∷ []
unfolding looks_up
the_entries_of_the_application = refl

-- Hilt's components, after https://dagger.dev/hilt/components: their parents, their scopes and what
-- each has bound.
use Rattle.std.specs.Prelude.{ℕ, List, [], ◌∷◌, Option, Some, None, codes, map}
use Rattle.dg_hilt.specs.Bytes.{Bytes}

-- the value that each instance of a component has bound: the name of its argument, and its class
pub record HiltDefaultRow : Type 0 where
  pub arg : Bytes
  pub class : Bytes

-- a component: its name, the number of its parent, its scope, and the value that its instances have
-- bound
pub record HiltRow : Type 0 where
  pub class : Bytes
  pub parent : Option ℕ
  pub scope : Bytes
  pub default : Option HiltDefaultRow

abbrev row : Bytes → Option ℕ → Bytes → Option HiltDefaultRow → HiltRow
row class parent scope default = record {
  class = class;
  parent = parent;
  scope = scope;
  default =
      default;
}

abbrev bound : Bytes → Bytes → Option HiltDefaultRow
bound arg class = Some (record { arg = arg; class = class })

-- the components, each at its number
abbrev pub hilt_classes : List HiltRow
hilt_classes =
    row (codes "SingletonComponent") None (codes "Singleton") (bound (codes "application") (codes
    "Application"))
    ∷ row (codes "ActivityRetainedComponent") (Some 0) (codes "ActivityRetainedScoped") None
    ∷ row (codes "ServiceComponent") (Some 0) (codes "ServiceScoped") (bound (codes "service")
    (codes "Service"))
    ∷ row (codes "ViewModelComponent") (Some 1) (codes "ViewModelScoped") (bound (codes
    "savedStateHandle") (codes "SavedStateHandle"))
    ∷ row (codes "ActivityComponent") (Some 1) (codes "ActivityScoped") (bound (codes "activity")
    (codes "Activity"))
    ∷ row (codes "FragmentComponent") (Some 4) (codes "FragmentScoped") (bound (codes "fragment")
    (codes "Fragment"))
    ∷ row (codes "ViewComponent") (Some 4) (codes "ViewScoped") (bound (codes "view") (codes
    "View"))
    ∷ row (codes "ViewWithFragmentComponent") (Some 5) (codes "ViewScoped") (bound (codes "view")
    (codes "View"))
    ∷ []

-- the names of the components, each at its number
abbrev pub hilt_names : List Bytes
hilt_names = map (λ row. row.class) hilt_classes

-- the classes of the values that the components have bound, each once; each has one field, `name :
-- Text`
abbrev pub default_classes : List Bytes
default_classes =
    codes "Application"
    ∷ codes "Service"
    ∷ codes "SavedStateHandle"
    ∷ codes "Activity"
    ∷ codes "Fragment"
    ∷ codes "View"
    ∷ []

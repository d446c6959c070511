-- The resources that are elements of globals, as an ordered map has them.
use Rattle.std.specs.Prelude.{◌≡◌, ℕ, List, map, Option, Some, option_and_then}
use Rattle.std.specs.BTreeMap.{BTreeMap, get_by}
use Rattle.std.proofs.Props.{props}
use Rattle.pgo_base.specs.Data.{Data}
use Rattle.pgo_base.specs.Lookup.{Name}
use Rattle.pgo_base.specs.NameMaps.{found}
use Rattle.pgo_base.specs.Order.{data_cmp}
use Rattle.pgo_base.specs.View.{data_of}
use Rattle.pgo_base.specs.declared.value.Value.{Value}
use Rattle.pgo_model.specs.Core.{number_among}
use Rattle.pgo_syntax.specs.declared.bound.Resource.{Resource}
use Rattle.pgo_meaning.specs.System.{resource_of}
use Rattle.pgo_code.specs.declared.elements.Elements.{Elements}

-- the number of an index
unfoldable pub numbered : BTreeMap Value ℕ → Data → Option ℕ
numbered m v = get_by (λ k. data_cmp v (data_of k)) m

-- the number of an element of a global
abbrev pub element_in : Elements → Name → Data → Option ℕ
element_in e g v = option_and_then (λ m. numbered m v) (found e.map g)

-- these are the elements among the resources
abbrev pub AreAmong : List Resource → Elements → Type 0
AreAmong rs e = (g : Name) (v : Value) → element_in e g (data_of v) ≡ number_among (map resource_of rs) (g, Some (data_of v))

pub are_among_prop : (rs : List Resource) (e : Elements) → IsProp (AreAmong rs e)
are_among_prop rs e = hlevel props

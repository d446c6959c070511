-- What a map of names, or of numbers, has under one.
use Rattle.std.specs.Prelude.{ℕ, Bool, false, if◌then◌else◌, Option, Some, None, option_map, unwrap_or}
use Rattle.std.specs.BTreeMap.{BTreeMap, get_by}
use Rattle.std.specs.Ordering.{nat_cmp}
use denote.Ref.{Bor}
use Rattle.pgo_base.specs.Data.{Data}
use Rattle.pgo_base.specs.Lookup.{Name, same_name}
use Rattle.pgo_base.specs.View.{data_of}
use Rattle.pgo_base.specs.declared.value.Value.{Value}
use Rattle.pgo_syntax.specs.declared.archetype.Archetype.{Archetype}
use Rattle.pgo_syntax.specs.declared.archetype.Extent.{Extent}
use Rattle.pgo_syntax.specs.declared.macros.MappingMacro.{MappingMacro}
use Rattle.pgo_base.specs.declared.name_map.NameMap.{NameMap}
use Rattle.pgo_bound.specs.declared.kinds.Kind.{Kind}
use Rattle.pgo_bound.specs.declared.kinds.Kind.TheVariants.{Unbound}
use Rattle.pgo_bound.specs.Kinds.{with_extent}
pub use Rattle.pgo_base.specs.NameMaps.{found, has_name, has_number as has_number_in}

unfoldable pub numbered : {V : Type 0} → BTreeMap ℕ V → ℕ → Option V
numbered m n = get_by (λ k. nat_cmp n k) m

-- the value under a name
abbrev pub value_in : NameMap (Bor Value) → Name → Option Data
value_in m n = option_map (λ r. data_of r.now) (found m n)

-- the archetype under it
abbrev pub archetype_in : NameMap (Bor Archetype) → Name → Option Archetype
archetype_in m n = option_map (λ r. r.now) (found m n)

-- the mapping macro under it
abbrev pub mapping_in : NameMap (Bor MappingMacro) → Name → Option MappingMacro
mapping_in m n = option_map (λ r. r.now) (found m n)

-- whether true is under it
abbrev pub is_true_in : NameMap Bool → Name → Bool
is_true_in m n = unwrap_or (found m n) false

-- the kind under it; a name without one isn't bound
abbrev pub kind_in : NameMap Kind → Name → Kind
kind_in m n = unwrap_or (found m n) Unbound

-- the binding of one name, as that of another
abbrev pub extent_if : Name → Name → Extent → Option Extent
extent_if n x e = if same_name n x then Some e else None

-- the kind with a binding more, if there is one
abbrev pub with_binding : Kind → Option Extent → Kind
with_binding k None = k
with_binding k (Some e) = with_extent k e

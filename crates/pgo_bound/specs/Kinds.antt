-- How the instances bind a global, binding by binding.
use Rattle.std.specs.Prelude.{Bool, true, false, List, [], ◌∷◌}
use Rattle.pgo_syntax.specs.declared.archetype.Extent.{Extent}
use Rattle.pgo_syntax.specs.declared.archetype.Extent.TheVariants.{Whole, Element}
use Rattle.pgo_bound.specs.declared.kinds.Kind.{Kind}
use Rattle.pgo_bound.specs.declared.kinds.Kind.TheVariants.{Unbound, AsWhole, ByElement}

-- one binding more
abbrev pub with_extent : Kind → Extent → Kind
with_extent AsWhole e = AsWhole
with_extent Unbound Whole = AsWhole
with_extent Unbound Element = ByElement
with_extent ByElement Whole = AsWhole
with_extent ByElement Element = ByElement

abbrev pub all_extents : Kind → List Extent → Kind
all_extents k [] = k
all_extents k (e ∷ es) = all_extents (with_extent k e) es

-- the global is one resource for each of its elements
abbrev pub is_by_element : Kind → Bool
is_by_element Unbound = false
is_by_element AsWhole = false
is_by_element ByElement = true

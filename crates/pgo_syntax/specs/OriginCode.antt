-- Where values come from as trees of numbers, by which a proof tells them apart.
use Rattle.std.specs.Prelude.{◌≡◌, ◌⊎◌, refl}
use Rattle.std.proofs.Common.{inl, inr}
use Rattle.pgo_base.specs.Tree.{Tree}
use Rattle.pgo_syntax.specs.declared.binding.Origin.{Origin}
use Rattle.pgo_syntax.specs.declared.binding.Origin.TheVariants.{Equals, In}
use Rattle.pgo_syntax.specs.Packed.{Packed, packed_by, packed⊎, packed_tree}

abbrev origin_parts : Origin → Tree ⊎ Tree
origin_parts (Equals e) = inl e
origin_parts (In e) = inr e

abbrev origin_from : Tree ⊎ Tree → Origin
origin_from (inl e) = Equals e
origin_from (inr e) = In e

pub origin_back : (o : Origin) → origin_from (origin_parts o) ≡ o
origin_back (Equals e) = refl
origin_back (In e) = refl

abbrev pub packed_origin : Packed Origin
packed_origin = packed_by (Tree ⊎ Tree) (packed⊎ packed_tree packed_tree) origin_parts origin_from origin_back

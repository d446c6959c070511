-- The identifiers of instances, and resources, by their numbers.
use Rattle.std.proofs.Common.{◌≡◌, ◌<◌, ℕ, zero, suc, List, [], ◌∷◌, Some, refl, map, length, get_or, arith}
use Rattle.pgo_base.specs.View.{data_of}
use Rattle.pgo_model.specs.Machine.{nth}
use Rattle.pgo_syntax.specs.declared.bound.Instance.{Instance}
use Rattle.pgo_syntax.specs.declared.bound.Resource.{Resource}
use Rattle.pgo_meaning.specs.System.{member_of, resource_of}

pub nth_id : (xs : List Instance) (n : ℕ) (d : Instance) → n < length (map (λ i. i.id) (map member_of xs)) → nth (map (λ i. i.id) (map member_of xs)) n ≡ Some (data_of (get_or xs n d).id)
nth_id [] n d h = absurd (omega (arith, h))
nth_id (x ∷ xs) zero d h = refl
nth_id (x ∷ xs) (suc n) d h = nth_id xs n d (omega (arith, h))

pub nth_resource : (xs : List Resource) (n : ℕ) (d : Resource) → n < length (map resource_of xs) → nth (map resource_of xs) n ≡ Some (resource_of (get_or xs n d))
nth_resource [] n d h = absurd (omega (arith, h))
nth_resource (x ∷ xs) zero d h = refl
nth_resource (x ∷ xs) (suc n) d h = nth_resource xs n d (omega (arith, h))

-- Why the members of sets are counted: Cardinality of a set with 2^63 members or more has a result that is no value, whether or not the set
-- is one; and what is counted can be met.
use Rattle.std.proofs.Common.{◌≡◌, true, false, ℤ, pos, Some, refl, sym, ap, ◌∙◌, [], ◌∷◌, length}
use Rattle.std.specs.List.Sorted.{IsStrictlySortedBy}
use Rattle.pgo_base.specs.Data.{Data, boolean, integer, set, Items, no_items, item, members}
use Rattle.pgo_base.specs.Sets.{IsSorted}
use Rattle.pgo_base.specs.Tree.{number}
use Rattle.pgo_model.specs.Operators.{cardinality, fits_i64}
use Rattle.pgo_model.specs.Value.{IsValue}
use Rattle.pgo_systems.specs.Counted.{IsCounted}
use Rattle.pgo_systems.specs.Literals.{LiteralsFit}

many_members : (xs : Items) (v : Data) → fits_i64 (pos (length (members xs))) ≡ false → cardinality (set xs) ≡ Some v → IsValue v → ⊥
many_members xs v many e h = go v (sym (result v e)) h
  where
    result : (v : Data) → Some (integer (pos (length (members xs)))) ≡ Some v → integer (pos (length (members xs))) ≡ v
    result v e = cc

    go : (v : Data) → v ≡ integer (pos (length (members xs))) → IsValue v → ⊥
    go (integer z) q h =
        let same : z ≡ pos (length (members xs)) = ap (λ d. elim d as (λ d. ℤ) [ integer z ↦ z | _ ↦ pos 0 ]) q in let k : true ≡ false = sym h ∙ ap fits_i64 same ∙ many in cc
    go (boolean b) q h = cc
    go _ q h = cc

-- {1, 2}
sorted_two : IsSorted (integer (pos 1) ∷ integer (pos 2) ∷ [])
unfolding IsStrictlySortedBy
sorted_two = ((refl, tt), (tt, tt))

two_members : IsCounted (set (item (integer (pos 1)) (item (integer (pos 2)) no_items)))
two_members = ((refl, (refl, tt)), sorted_two, refl)

-- literals: 2^63 - 1 fits, 2^63 doesn't
greatest : LiteralsFit (number (pos 9223372036854775807))
greatest = refl

too_great : LiteralsFit (number (pos 9223372036854775808)) → ⊥
too_great h = cc

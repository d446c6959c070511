-- What is in order stays as it is.
use Rattle.std.proofs.Common.{◌≡◌, List, [], ◌∷◌, refl, ap, ◌∙◌}
use Rattle.std.specs.Ordering.{match_ordering}
use Rattle.std.specs.List.Sorted.{IsStrictlySortedBy}
use Rattle.pgo_base.specs.Data.{Data, keys}
use Rattle.pgo_base.specs.Sets.{IsSorted, insert_member, in_order}
use Rattle.pgo_base.specs.Pairs.{insert_pair, pairs_in_order}

pub members_stay : (xs : List Data) → IsSorted xs → in_order xs ≡ xs
unfolding IsStrictlySortedBy
members_stay [] s = refl
members_stay (x ∷ []) s = refl
members_stay (x ∷ y ∷ ys) s = ap (insert_member x) (members_stay (y ∷ ys) s.1) ∙ ap (λ o. match_ordering o (x ∷ y ∷ ys) (y ∷ ys) (y ∷ insert_member x ys)) s.0.0

pub pairs_stay : (ps : List (Data × Data)) → IsSorted (keys ps) → pairs_in_order ps ≡ ps
unfolding IsStrictlySortedBy
pairs_stay [] s = refl
pairs_stay (p ∷ []) s = refl
pairs_stay (p ∷ q ∷ qs) s = ap (insert_pair p) (pairs_stay (q ∷ qs) s.1) ∙ ap (λ o. match_ordering o (p ∷ q ∷ qs) (p ∷ qs) (q ∷ insert_pair p qs)) s.0.0

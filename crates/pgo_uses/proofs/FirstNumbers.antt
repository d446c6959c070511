-- The number of the first of a name, by its place.
use Rattle.std.proofs.Common.{◌≡◌, ℕ, suc, Bool, true, false, [], ◌∷◌, refl, sym, ◌∙◌}
use Rattle.std.specs.Prelude.{if◌then◌else◌, Option, Some, None, option_map}
use Rattle.pgo_base.specs.Lookup.{Name, same_name, find}
use Rattle.pgo_uses.specs.Names.{Rows, first_at, number_at}

pub found_at : (x : Name) (rows : Rows) → find x rows ≡ number_at rows (first_at x rows)
found_at x [] = refl
found_at x (r ∷ rs) = go (same_name x r.0) (found_at x rs)
  where
    next : (o : Option ℕ) → number_at (r ∷ rs) (option_map suc o) ≡ number_at rs o
    next None = refl
    next (Some i) = refl

    go : (b : Bool) → find x rs ≡ number_at rs (first_at x rs) → (if b then Some r.1 else find x rs) ≡ number_at (r ∷ rs) (if b then Some 0 else option_map suc (first_at x rs))
    go true h = refl
    go false h = h ∙ sym (next (first_at x rs))

-- The pairs of a function with another value at one key.
use Rattle.std.proofs.Common.{◌≡◌, List, [], ◌∷◌, refl, ap}
use Rattle.std.specs.Prelude.{Bool, true, false, if◌then◌else◌, Some, None}
use Rattle.std.specs.Ordering.{is_eq}
use Rattle.std.specs.declared.cmp.Ordering.{Ordering}
use Rattle.std.specs.declared.cmp.Ordering.TheVariants.{Less, Equal, Greater}
use Rattle.pgo_base.specs.Data.{Data}
use Rattle.pgo_base.specs.Order.{data_cmp}
use Rattle.pgo_base.specs.Exact.{data_exact}
use Rattle.pgo_model.specs.Operators.{same_data, lookup, replace_at}

-- values that the test finds the same are one value
pub same_exact : (x y : Data) → same_data x y ≡ true → x ≡ y
same_exact x y h = go (data_cmp x y) refl h
  where
    go : (o : Ordering) → data_cmp x y ≡ o → is_eq o ≡ true → x ≡ y
    go Less e g = absurd (cc)
    go Equal e g = data_exact x y e
    go Greater e g = absurd (cc)

-- where the key isn't in the domain, nothing is replaced
pub not_replaced : (k v : Data) (ps : List (Data × Data)) → lookup k ps ≡ None → replace_at k v ps ≡ ps
not_replaced k v [] h = refl
not_replaced k v (p ∷ ps) h = go (same_data k p.0) h (not_replaced k v ps)
  where
    go : (b : Bool) → (if b then Some p.1 else lookup k ps) ≡ None → (lookup k ps ≡ None → replace_at k v ps ≡ ps) → (if b then (k, v) ∷ ps else p ∷ replace_at k v ps) ≡ p ∷ ps
    go true e ih = absurd (cc)
    go false e ih = ap (λ qs. p ∷ qs) (ih e)

-- Whether two numbers are one doesn't depend on their order.
use Rattle.std.proofs.Common.{◌≡◌, ℕ, nat_eq, arith}
use Rattle.std.proofs.lemmas.Bool.Decides.{nat_tests}
use Rattle.std.specs.Ordering.{nat_cmp, is_eq}

pub same_number_back : (x y : ℕ) → is_eq (nat_cmp x y) ≡ nat_eq y x
same_number_back x y = grind (arith, nat_tests)

-- When two names are one.
use Rattle.std.specs.Prelude.{◌≡◌, Bool, true, false, refl}
use Rattle.std.proofs.Common.{ap, arith, ◌∙◌}
use Rattle.std.specs.declared.cmp.Ordering.{Ordering}
use Rattle.std.specs.declared.cmp.Ordering.TheVariants.{Less, Equal, Greater}
use Rattle.std.specs.Ordering.{nat_cmp, is_eq}
use Rattle.std.specs.Cmp.Lexicographic.{slice_cmp}
use Rattle.pgo_base.specs.Data.{string}
use Rattle.pgo_base.specs.Exact.{data_exact, data_itself}
use Rattle.pgo_base.specs.Lookup.{Name, same_name}

pub same_name-self : (x : Name) → same_name x x ≡ true
same_name-self x = ap is_eq (data_itself (string x))

pub equal_is : (o : Ordering) → is_eq o ≡ true → o ≡ Equal
equal_is Less h = absurd (grind (arith, h))
equal_is Equal h = refl
equal_is Greater h = absurd (grind (arith, h))

string_is : (x y : Name) → string x ≡ string y → x ≡ y
string_is x y h = cc

pub same_name-is : (x y : Name) → same_name x y ≡ true → x ≡ y
same_name-is x y h = string_is x y (data_exact (string x) (string y) (equal_is (slice_cmp nat_cmp x y) h))

pub same_name-not : (x y : Name) → (x ≡ y → ⊥) → same_name x y ≡ false
same_name-not x y h = go (same_name x y) refl
  where
    go : (b : Bool) → same_name x y ≡ b → b ≡ false
    go true e = absurd (h (same_name-is x y e))
    go false e = refl

one_way : (x y : Name) → same_name x y ≡ true → same_name y x ≡ true
one_way x y h = ap (λ z. same_name y z) (same_name-is x y h) ∙ same_name-self y

both_ways : (x y : Name) (b c : Bool) → same_name x y ≡ b → same_name y x ≡ c → b ≡ c
both_ways x y true true h k = refl
both_ways x y false false h k = refl
both_ways x y true false h k = let t : same_name y x ≡ true = one_way x y h in cc
both_ways x y false true h k = let t : same_name x y ≡ true = one_way y x k in cc

-- whether two names are one doesn't depend on their order
pub same_name_back : (x y : Name) → same_name x y ≡ same_name y x
same_name_back x y = both_ways x y (same_name x y) (same_name y x) refl refl

pub turned : (x y : Name) → same_name x y ≡ false → same_name y x ≡ false
turned x y h = same_name_back y x ∙ h

-- The number of an element, once one resource more is behind others.
use Rattle.std.proofs.Common.{◌≡◌, ◌<◌, ℕ, zero, suc, Bool, true, false, ◌&&◌, List, [], ◌∷◌, map, drop, length, get_or, cond, refl, ap, sym, ◌∙◌, arith}
use Rattle.std.specs.Prelude.{Option, Some, None, option_and_then, is_some, if◌then◌else◌, unwrap_or}
use Rattle.std.specs.BTreeMap.{BTreeMap}
use Rattle.std.specs.Map.{lookup}
use Rattle.std.specs.Ordering.{is_eq}
use Rattle.pgo_base.specs.Data.{Data}
use Rattle.pgo_base.specs.Lookup.{Name, same_name, or_that}
use Rattle.pgo_base.specs.Order.{data_cmp}
use Rattle.pgo_base.specs.View.{data_of}
use Rattle.pgo_base.specs.declared.value.Value.{Value}
use Rattle.pgo_model.specs.Names.{same_name-is, same_name_back}
use Rattle.pgo_model.specs.Core.{number_among, same_index}
use Rattle.pgo_model.specs.Operators.{same_data}
use Rattle.pgo_syntax.specs.declared.bound.Resource.{Resource}
use Rattle.pgo_bound.specs.Lookups.{same_of}
use Rattle.pgo_meaning.specs.System.{resource_of}
use Rattle.pgo_code.specs.Elements.{numbered}

pub or_none : {A : Type 0} (o : Option A) → o ≡ or_that o None
or_none None = refl
or_none (Some a) = refl

or_some : {A : Type 0} (o p : Option A) → is_some o ≡ true → o ≡ or_that o p
or_some None p h = absurd (cc)
or_some (Some a) p h = refl

or_second : {A : Type 0} (o p : Option A) → is_some o ≡ false → p ≡ or_that o p
or_second None p h = refl
or_second (Some a) p h = absurd (cc)

-- the index has a number already
pub number_stays : (noted : Data → Option ℕ) (x : Data) (n : ℕ) → is_some (noted x) ≡ true → (v : Data) → noted v ≡ or_that (noted v) (if same_data x v then Some n else None)
number_stays noted x n h v = go (same_data x v) refl
  where
    go : (b : Bool) → same_data x v ≡ b → noted v ≡ or_that (noted v) (if b then Some n else None)
    go true e = or_some (noted v) (Some n) (ap (λ y. is_some (noted y)) (sym (same_of x v e)) ∙ h)
    go false e = or_none (noted v)

-- it has none
pub number_added : (noted : Data → Option ℕ) (x : Data) (n : ℕ) → is_some (noted x) ≡ false → (v : Data) → cond (same_data x v) (Some n) (noted v) ≡ or_that (noted v) (if same_data x v then Some n else None)
number_added noted x n h v = go (same_data x v) refl
  where
    go : (b : Bool) → same_data x v ≡ b → cond b (Some n) (noted v) ≡ or_that (noted v) (if b then Some n else None)
    go true e = or_second (noted v) (Some n) (ap (λ y. is_some (noted y)) (sym (same_of x v e)) ∙ h)
    go false e = or_none (noted v)

-- what the indices of one global have becomes something else
pub element_added : (old taken new : Name → Option (BTreeMap Value ℕ)) (global : Name) (before after : BTreeMap Value ℕ) (added : Bool) (v : Data) (n : ℕ) (g : Name)
    → new g ≡ cond (same_name g global) (Some after) (taken g)
    → (same_name g global ≡ false → taken g ≡ old g)
    → numbered before v ≡ option_and_then (λ m. numbered m v) (old global)
    → numbered after v ≡ or_that (numbered before v) (if added then Some n else None)
    → option_and_then (λ m. numbered m v) (new g) ≡ or_that (option_and_then (λ m. numbered m v) (old g)) (if same_name global g && added then Some n else None)
element_added old taken new global before after added v n g set others first second =
    ap number set ∙ go (same_name g global) refl ∙ ap (λ b. or_that (number (old g)) (if b && added then Some n else None)) (same_name_back g global)
  where
    number : Option (BTreeMap Value ℕ) → Option ℕ
    number o = option_and_then (λ m. numbered m v) o

    go : (b : Bool) → same_name g global ≡ b → number (cond b (Some after) (taken g)) ≡ or_that (number (old g)) (if b && added then Some n else None)
    go true e = second ∙ ap (λ o. or_that o (if added then Some n else None)) (first ∙ ap (λ x. number (old x)) (sym (same_name-is g global e)))
    go false e = ap number (others e) ∙ or_none (number (old g))

and_false : (b : Bool) → false ≡ b && false
and_false true = refl
and_false false = refl

-- a global as a whole is no element
pub whole_passed : (o : Option ℕ) (b : Bool) (n : ℕ) → o ≡ or_that o (if b && false then Some n else None)
whole_passed o b n = or_none o ∙ ap (λ c. or_that o (if c then Some n else None)) (and_false b)

-- the first resource of what is left
pub number_joined : (old new : Option ℕ) (b : Bool) (n : ℕ) (rest : Option ℕ) → new ≡ or_that old (if b then Some n else None) → or_that new rest ≡ or_that old (if b then Some n else rest)
number_joined None new true n rest h = ap (λ o. or_that o rest) h
number_joined None new false n rest h = ap (λ o. or_that o rest) h
number_joined (Some m) new b n rest h = ap (λ o. or_that o rest) h

-- where a global has no element yet, there is an empty map
pub empty_numbered : (o : Option (BTreeMap Value ℕ)) (none : BTreeMap Value ℕ) (v : Data) → none.entries ≡ [] → numbered (unwrap_or o none) v ≡ option_and_then (λ m. numbered m v) o
unfolding numbered
empty_numbered None none v h = ap (lookup (λ k. is_eq (data_cmp v (data_of k)))) h
empty_numbered (Some m) none v h = refl

number_here : (rs : List Resource) (n : ℕ) (d : Resource) (g : Name) (j : Option Data) → n < length rs
    → number_among (map resource_of (drop n rs)) (g, j)
    ≡ (if same_name (get_or rs n d).global g && same_index (resource_of (get_or rs n d)).index j then Some (get_or rs n d).number else number_among (map resource_of (drop (suc n) rs)) (g, j))
number_here [] n d g j h = absurd (omega (arith, h))
number_here (r ∷ rs) zero d g j h = refl
number_here (r ∷ rs) (suc n) d g j h = number_here rs n d g j (omega (arith, h))

-- one resource more is among the elements, or is none
pub numbers_more : (rs : List Resource) (n m : ℕ) (r : Resource) (g : Name) (v : Data) (old new : Option ℕ) → n < length rs → m ≡ suc n → r ≡ get_or rs n r
    → new ≡ or_that old (if same_name r.global g && same_index (resource_of r).index (Some v) then Some r.number else None)
    → or_that new (number_among (map resource_of (drop m rs)) (g, Some v)) ≡ or_that old (number_among (map resource_of (drop n rs)) (g, Some v))
numbers_more rs n m r g v old new lt e is h =
    ap (λ k. or_that new (number_among (map resource_of (drop k rs)) (g, Some v))) e
    ∙ number_joined old new (same_name r.global g && same_index (resource_of r).index (Some v)) r.number rest h
    ∙ ap (λ q. or_that old (if same_name q.global g && same_index (resource_of q).index (Some v) then Some q.number else rest)) is
    ∙ ap (or_that old) (sym (number_here rs n r g (Some v) lt))
  where
    rest : Option ℕ
    rest = number_among (map resource_of (drop (suc n) rs)) (g, Some v)

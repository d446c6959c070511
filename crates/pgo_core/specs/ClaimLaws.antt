-- What instances hold, one by one.
use Rattle.std.proofs.Common.{◌≡◌, ◌<◌, ℕ, Bool, true, false, List, [], ◌∷◌, refl, ap, ◌∙◌, arith}
use Rattle.std.specs.Prelude.{if◌then◌else◌, nat_eq}
use Rattle.pgo_base.specs.Data.{Data}
use Rattle.pgo_model.specs.Machine.{among}
use Rattle.pgo_workers.specs.View.{Shown, resources_of}
use Rattle.pgo_resource.specs.declared.taken.Taken.{Taken}
use Rattle.pgo_resource.specs.PlainRows.{taken_of, apart, rows}
use Rattle.pgo_resource.specs.PlainSets.{eq_turned, among_there}
use Rattle.pgo_resource.proofs.PlainPlaces.{apart_parts, apart_made}
use Rattle.pgo_core.specs.declared.claims.Claim.{Claim}
use Rattle.pgo_core.specs.Claims.{claimed, taken_in, taken_by}

pub among_made : (r q : ℕ) (rs : List ℕ) → nat_eq q r ≡ false → among r rs ≡ false → among r (q ∷ rs) ≡ false
among_made r q rs n h = ap (λ b. if b then true else among r rs) (eq_turned r q ∙ n) ∙ h

-- what nobody holds, no instance holds
pub none_by : (k r : ℕ) (cs : List Claim) → among r (claimed cs) ≡ false → among r (taken_of (taken_by k cs)) ≡ false
none_by k r [] h = refl
none_by k r (c ∷ cs) h = let o = among_there r c.resource (claimed cs) h in go (nat_eq c.holder k) o.0 (none_by k r cs o.1)
  where
    go : (b : Bool) → nat_eq c.resource r ≡ false → among r (taken_of (taken_by k cs)) ≡ false → among r (taken_of (if b then taken_in c ∷ taken_by k cs else taken_by k cs)) ≡ false
    go true n ih = among_made r c.resource (taken_of (taken_by k cs)) n ih
    go false n ih = ih

pub some_by : (k r : ℕ) (cs : List Claim) → among r (taken_of (taken_by k cs)) ≡ true → among r (claimed cs) ≡ true
some_by k r cs h = go (among r (claimed cs)) refl
  where
    go : (b : Bool) → among r (claimed cs) ≡ b → b ≡ true
    go true e = refl
    go false e = let n = none_by k r cs e in absurd (grind (arith, h, n))

pub by_apart : (n k : ℕ) (cs : List Claim) → apart n (claimed cs) ≡ true → apart n (taken_of (taken_by k cs)) ≡ true
by_apart n k [] h = refl
by_apart n k (c ∷ cs) h = let m = apart_parts n c.resource (claimed cs) h in go (nat_eq c.holder k) m.0 m.1 (by_apart n k cs m.2)
  where
    go : (b : Bool) → c.resource < n → among c.resource (claimed cs) ≡ false → apart n (taken_of (taken_by k cs)) ≡ true → apart n (taken_of (if b then taken_in c ∷ taken_by k cs else taken_by k cs)) ≡ true
    go true near out ih = apart_made n c.resource (taken_of (taken_by k cs)) near (none_by k c.resource cs out) ih
    go false near out ih = ih

-- a resource has one holder
pub one_holder : (n i j r : ℕ) (cs : List Claim) → apart n (claimed cs) ≡ true → among r (taken_of (taken_by i cs)) ≡ true → among r (taken_of (taken_by j cs)) ≡ true → i ≡ j
one_holder n i j r [] h a b = absurd (grind (arith, a))
one_holder n i j r (c ∷ cs) h a b = let m = apart_parts n c.resource (claimed cs) h in go (nat_eq c.holder i) (nat_eq c.holder j) refl refl m.1 a b (one_holder n i j r cs m.2)
  where
    here : (k : ℕ) → among c.resource (claimed cs) ≡ false → nat_eq r c.resource ≡ true → among r (taken_of (taken_by k cs)) ≡ true → ⊥
    here k out e t = let same : r ≡ c.resource = grind (arith, e) in let s = some_by k r cs t in grind (arith, out, s, ap (λ x. among x (claimed cs)) same)

    first : (b x : Bool) → (if b then true else x) ≡ true → (b ≡ false → x ≡ true)
    first true x e f = absurd (grind (arith, f))
    first false x e f = e

    go : (x y : Bool) → nat_eq c.holder i ≡ x → nat_eq c.holder j ≡ y → among c.resource (claimed cs) ≡ false
        → among r (taken_of (if x then taken_in c ∷ taken_by i cs else taken_by i cs)) ≡ true → among r (taken_of (if y then taken_in c ∷ taken_by j cs else taken_by j cs)) ≡ true
        → (among r (taken_of (taken_by i cs)) ≡ true → among r (taken_of (taken_by j cs)) ≡ true → i ≡ j) → i ≡ j
    go true true d e out a b ih = grind (arith, d, e)
    go true false d e out a b ih = by_case (nat_eq r c.resource) refl a
      where
        by_case : (t : Bool) → nat_eq r c.resource ≡ t → (if t then true else among r (taken_of (taken_by i cs))) ≡ true → i ≡ j
        by_case true t a = absurd (here j out t b)
        by_case false t a = ih a b
    go false true d e out a b ih = by_case (nat_eq r c.resource) refl b
      where
        by_case : (t : Bool) → nat_eq r c.resource ≡ t → (if t then true else among r (taken_of (taken_by j cs))) ≡ true → i ≡ j
        by_case true t b = absurd (here i out t a)
        by_case false t b = ih a b
    go false false d e out a b ih = ih a b

-- what another holds
pub not_else : (n i j r : ℕ) (cs : List Claim) → apart n (claimed cs) ≡ true → among r (taken_of (taken_by i cs)) ≡ true → (j ≡ i → ⊥) → among r (taken_of (taken_by j cs)) ≡ false
not_else n i j r cs h a ne = go (among r (taken_of (taken_by j cs))) refl
  where
    go : (b : Bool) → among r (taken_of (taken_by j cs)) ≡ b → b ≡ false
    go true e = absurd (ne (one_holder n j i r cs h e a))
    go false e = refl

module _ {R : Type 0} (shows : R → Shown) where
  pub resources_rows : (values : ℕ → Data) (xs : List R) (hs : List Taken) → resources_of (rows shows values xs hs) ≡ taken_of hs
  resources_rows values xs [] = refl
  resources_rows values xs (h ∷ hs) = ap (λ l. h.resource ∷ l) (resources_rows values xs hs)

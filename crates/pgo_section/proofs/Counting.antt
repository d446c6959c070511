-- Distinct numbers below a bound.
use Rattle.std.proofs.Common.{◌≡◌, ◌≤◌, ◌<◌, ℕ, zero, suc, Bool, true, false, List, [], ◌∷◌, length, refl, ap, ◌∙◌, arith}
use Rattle.std.specs.Prelude.{if◌then◌else◌, nat_eq, nat_lt}
use Rattle.pgo_model.specs.Machine.{among}
use Rattle.pgo_model.specs.MachineAccounts.{equal_or}
use Rattle.pgo_workers.specs.View.{Hold, EachHold, Once, resources_of}

abbrev pub EachBelow : ℕ → List ℕ → Type 0
EachBelow n [] = Unit {0}
EachBelow n (x ∷ l) = (x < n) × EachBelow n l

abbrev pub apart : ℕ → List ℕ → List ℕ
apart n [] = []
apart n (x ∷ l) = if nat_eq n x then apart n l else x ∷ apart n l

apart_none : (n : ℕ) (l : List ℕ) → among n l ≡ false → apart n l ≡ l
apart_none n [] e = refl
apart_none n (x ∷ l) e = go (nat_eq n x) e (λ e. apart_none n l e)
  where
    go : (b : Bool) → (if b then true else among n l) ≡ false → (among n l ≡ false → apart n l ≡ l) → (if b then apart n l else x ∷ apart n l) ≡ x ∷ l
    go true e ih = absurd (grind (arith, e))
    go false e ih = ap (λ l. x ∷ l) (ih e)

apart_among : (n x : ℕ) (l : List ℕ) → among x l ≡ false → among x (apart n l) ≡ false
apart_among n x [] e = refl
apart_among n x (z ∷ l) e = go (nat_eq x z) refl e (nat_eq n z) (λ e. apart_among n x l e)
  where
    go : (b : Bool) → nat_eq x z ≡ b → (if b then true else among x l) ≡ false → (d : Bool) → (among x l ≡ false → among x (apart n l) ≡ false) → among x (if d then apart n l else z ∷ apart n l) ≡ false
    go true q e d ih = absurd (grind (arith, e))
    go false q e true ih = ih e
    go false q e false ih = ap (λ b. if b then true else among x (apart n l)) q ∙ ih e

apart_once : (n : ℕ) (l : List ℕ) → Once l → Once (apart n l)
apart_once n [] o = tt
apart_once n (x ∷ l) o = go (nat_eq n x) (apart_once n l o.1)
  where
    go : (b : Bool) → Once (apart n l) → Once (if b then apart n l else x ∷ apart n l)
    go true ih = ih
    go false ih = (apart_among n x l o.0, ih)

apart_below : (n : ℕ) (l : List ℕ) → EachBelow (suc n) l → EachBelow n (apart n l)
apart_below n [] e = tt
apart_below n (x ∷ l) e = go (nat_eq n x) refl (apart_below n l e.1)
  where
    go : (b : Bool) → nat_eq n x ≡ b → EachBelow n (apart n l) → EachBelow n (if b then apart n l else x ∷ apart n l)
    go true q ih = ih
    go false q ih = let d = (equal_or n x false q).1 refl in let h = e.0 in ((grind (arith, h, q)), ih)

apart_length : (n : ℕ) (l : List ℕ) → Once l → length l ≤ suc (length (apart n l))
apart_length n [] o = omega arith
apart_length n (x ∷ l) o = go (nat_eq n x) refl (apart_length n l o.1)
  where
    go : (b : Bool) → nat_eq n x ≡ b → length l ≤ suc (length (apart n l)) → suc (length l) ≤ suc (length (if b then apart n l else x ∷ apart n l))
    go true q ih = let z : n ≡ x = (equal_or n x true q).0 refl in let s : apart n l ≡ l = apart_none n l (ap (λ n. among n l) z ∙ o.0) in let t = ap length s in omega (arith, t)
    go false q ih = omega (arith, ih)

pub few : (n : ℕ) (l : List ℕ) → Once l → EachBelow n l → length l ≤ n
few zero [] o e = omega arith
few zero (x ∷ l) o e = absurd (let h = e.0 in omega (arith, h))
few (suc n) l o e = let a = apart_length n l o in let b = few n (apart n l) (apart_once n l o) (apart_below n l e) in omega (arith, a, b)

pub lt_of : (r n : ℕ) → nat_lt r n ≡ true → r < n
lt_of r n e = grind (arith, e)

pub each_below : (n : ℕ) (hs : List Hold) → EachHold (λ h. nat_lt h.resource n ≡ true) hs → EachBelow n (resources_of hs)
each_below n [] e = tt
each_below n (h ∷ hs) e = (lt_of h.resource n e.0, each_below n hs e.1)

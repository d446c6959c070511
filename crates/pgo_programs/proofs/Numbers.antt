-- Where resources are numbered in order, a section accesses resources that there are, so nothing of its tree is left out.
use Rattle.std.proofs.Common.{◌≡◌, ◌<◌, ◌∙◌, ℕ, zero, suc, Bool, true, false, List, [], ◌∷◌, length, Option, Some, refl, sym, arith}
use Rattle.std.proofs.lemmas.List.{length-map}
use Rattle.std.specs.Prelude.{if◌then◌else◌, ◌&&◌, nat_lt, map}
use Rattle.pgo_base.specs.Data.{Data}
use Rattle.pgo_base.specs.Lookup.{Name, same_name}
use Rattle.pgo_model.specs.Core.{number_among, same_index}
use Rattle.pgo_model.specs.Machine.{nth}
use Rattle.pgo_model.specs.System.{Touched}
use Rattle.pgo_syntax.specs.declared.bound.Bound.{Bound}
use Rattle.pgo_syntax.specs.declared.bound.Instance.{Instance}
use Rattle.pgo_syntax.specs.declared.bound.Resource.{Resource}
use Rattle.pgo_bound.specs.Sound.{IsNumbered, index_in}
use Rattle.pgo_meaning.specs.System.{resource_of, system_of}
use Rattle.pgo_sections.specs.Code.{Place, Whole, Own, Code, Empty, Skip, Let, Pick, Become, Set, Await, Assert, Print, If, Either, Seq, Goto, Yield, Read, Write, Codes, no_codes, more_codes}
use Rattle.pgo_sections.specs.Domains.{Uses, AllUse}
use Rattle.pgo_model.specs.System.{Words}
use Rattle.pgo_workers.specs.Tried.{LeafTree, LeafLeaves}
use Rattle.pgo_workers.specs.Walk as walks
use Rattle.pgo_workers.specs.Walk.{Stop, Touch, Again, StraightWithin}
use Rattle.pgo_accesses.specs.Accesses.{accesses_of, begun, no_value}
use Rattle.pgo_accesses.specs.Programs.{attempt_of}
use Rattle.pgo_accesses.proofs.Reached.{InReach, PlaceInReach, within}
use Rattle.pgo_accesses.proofs.Within.{there_below}
use Rattle.pgo_places.specs.PlaceWalk.{count_of}
use Rattle.pgo_places.specs.Stands.{limited}

-- a resource that is found has its number
found : (rs : List Resource) (c : Touched) (r : ℕ) → number_among (map resource_of rs) c ≡ Some r → (m : ℕ) × (q : Resource) × (nth rs m ≡ Some q) × (q.number ≡ r)
found [] c r h = absurd (grind (arith, h))
found (q ∷ rs) c r h = go (same_name q.global c.0 && same_index (index_in q) c.1) h (found rs c r)
  where
    go : (t : Bool) → (if t then Some q.number else number_among (map resource_of rs) c) ≡ Some r
        → (number_among (map resource_of rs) c ≡ Some r → (m : ℕ) × (p : Resource) × (nth rs m ≡ Some p) × (p.number ≡ r))
        → (m : ℕ) × (p : Resource) × (nth (q ∷ rs) m ≡ Some p) × (p.number ≡ r)
    go true e ih = (zero, q, refl, cc)
    go false e ih = let f = ih e in (suc f.0, f.1, f.2, f.3)

-- the number of a resource is below how many there are
number_below : (b : Bound) → IsNumbered b → (c : Touched) (r : ℕ) → number_among (system_of b).resources c ≡ Some r → r < count_of b
number_below b n c r h =
    let f = found b.resources c r h in
    let at : nth b.resources f.0 ≡ Some f.1 = f.2 in
    let e : r ≡ f.0 = sym f.3 ∙ n.resource_numbers f.0 f.1 at in
    let there : nat_lt f.0 (length b.resources) ≡ true = there_below b.resources f.0 f.1 at in
    let l : f.0 < length b.resources = grind (arith, there) in
    omega (arith, e, l, length-map b.resources resource_of)

module _ (P : Place → Type 0) (M : Name → Option Name → Type 0) (p : (q : Place) → P q) (m : (g : Name) (i : Option Name) → M g i) where
  mutual
    any_uses : (c : Code) → Uses P M c
    any_uses Empty = tt
    any_uses Skip = tt
    any_uses (Let b w e c) = any_uses c
    any_uses (Pick b w e c) = any_uses c
    any_uses (Become q w) = p q
    any_uses (Set b q e) = p q
    any_uses (Await e) = tt
    any_uses (Assert e) = tt
    any_uses (Print e) = tt
    any_uses (If e c d) = (any_uses c, any_uses d)
    any_uses (Either cs) = all_use cs
    any_uses (Seq c d) = (any_uses c, any_uses d)
    any_uses (Goto l) = tt
    any_uses (Yield e) = tt
    any_uses (Read w g i block c) = (m g i, any_uses c)
    any_uses (Write g i w block) = m g i

    all_use : (cs : Codes) → AllUse P M cs
    all_use no_codes = tt
    all_use (more_codes c cs) = (any_uses c, all_use cs)

abbrev Anything : walks.Own → Type 0
Anything o = Unit {0}

-- what a section accesses
section_below : (b : Bound) → IsNumbered b → (i : Instance) (own : walks.Own) (d : Words) (c : Code) → StraightWithin (λ r. r < count_of b) (LeafLeaves Anything) (accesses_of (attempt_of b i own d) c)
section_below b n i own d c =
    let a = attempt_of b i own d in
    let reach : (g : Name) → InReach a (λ r. r < count_of b) Anything (λ l ch. tt) g = λ g j r e. number_below b n (g, j) r e in
    within a (λ r. r < count_of b) Anything (λ l ch. tt) (λ x y e. reach y) c [] begun (λ q. no_value)
    (any_uses (PlaceInReach a (λ r. r < count_of b) Anything (λ l ch. tt)) (λ g j. InReach a (λ r. r < count_of b) Anything (λ l ch. tt) g) place (λ g j. reach g) c)
    (λ q. tt)
  where
    place : (q : Place) → PlaceInReach (attempt_of b i own d) (λ r. r < count_of b) Anything (λ l ch. tt) q
    place (Whole g) = λ j r e. number_below b n (g, j) r e
    place (Own x) = tt

-- nothing is left out
limited_same : (m : ℕ) (w : LeafTree) → StraightWithin (λ r. r < m) (LeafLeaves Anything) w → limited m w ≡ w
limited_same m (Stop e) h = refl
limited_same m (Again w) h = absurd h
limited_same m (Touch r leave rest) h = go (nat_lt r m) refl (λ v. limited_same m (rest v) (h.1 v))
  where
    go : (t : Bool) → nat_lt r m ≡ t → ((v : Data) → limited m (rest v) ≡ rest v) → (if t then Touch r leave (λ v. limited m (rest v)) else no_value) ≡ Touch r leave rest
    go true e g = λ j. Touch r leave (λ v. g v j)
    go false e g = let l : r < m = h.0 in absurd (grind (arith, e, l))

pub limited_section : (b : Bound) → IsNumbered b → (i : Instance) (own : walks.Own) (d : Words) (c : Code)
    → limited (count_of b) (accesses_of (attempt_of b i own d) c) ≡ accesses_of (attempt_of b i own d) c
limited_section b n i own d c = limited_same (count_of b) (accesses_of (attempt_of b i own d) c) (section_below b n i own d c)

-- A list of turns has one reading: items are parted at commas, and an item at its star.
use Rattle.std.proofs.Common.{◌≡◌, ◌<◌, ◌≤◌, ◌^◌, ℕ, List, [], ◌∷◌, ◌++◌, length, replicate, decimal, refl, sym, subst, arith, length-append, Option, Some, None, lit≤}
use Rattle.std.proofs.lemmas.List.{length-replicate}
use Rattle.std.specs.Char.{digit_value}
use Rattle.std.specs.Borrow.{Bor}
use Rattle.pgo_words.specs.Cuts.{Lacks, Cuts}
use Rattle.pgo_words.specs.Turns.{Item, once, times, TurnList, last, more, most_turns}
use Rattle.pgo_words.proofs.CutLaws.{comma, decimal_lacks, lacks-append, lacks-cons, not_lacks, same_cut, wide}

star : 10 ≤ digit_value 42
star = lit≤ tt

short : (n k : ℕ) → length (replicate n k) ≤ most_turns → n < 2 ^ 64
short n k h = let e = length-replicate n k in omega (arith, e, h)

-- an item that isn't too long has no comma
pub item_lacks : (bs ts : List ℕ) → Item bs ts → length ts ≤ most_turns → Lacks 44 bs
item_lacks bs ts (once {k} h) few = decimal_lacks 44 k comma (wide k h)
item_lacks bs ts (times {k} {n} h one) few =
    lacks-append 44 (decimal k) (42 ∷ decimal n) (decimal_lacks 44 k comma (wide k h))
    (lacks-cons 44 42 (decimal n) (λ e. absurd (omega (arith, e))) (decimal_lacks 44 n comma (short n k few)))

-- what an item is, by its cut at the star
abbrev pub ItemParts : List ℕ → List ℕ → Option (Bor (List ℕ) × Bor (List ℕ)) → Type 0
ItemParts bs ts None = (k : ℕ) × (k < 2 ^ 32) × (bs ≡ decimal k) × (ts ≡ k ∷ [])
ItemParts bs ts (Some x) =
    (k n : ℕ) × (k < 2 ^ 32) × (1 ≤ n) × (n ≤ most_turns) × (x.0.now ≡ decimal k) × (x.1.now ≡ decimal n) × (ts ≡ replicate n k)

pub item_parts : (bs ts : List ℕ) (r : Option (Bor (List ℕ) × Bor (List ℕ))) → Cuts 42 bs r → length ts ≤ most_turns → Item bs ts → ItemParts bs ts r
item_parts bs ts None c few (once {k} h) = (k, h, refl, refl)
item_parts bs ts None c few (times {k} {n} h one) = absurd (not_lacks 42 (decimal k) (decimal n) c)
item_parts bs ts (Some x) c few (once {k} h) =
    absurd (not_lacks 42 x.0.now x.1.now (subst (Lacks 42) c.0 (decimal_lacks 42 k star (wide k h))))
item_parts bs ts (Some x) c few (times {k} {n} h one) =
    let e = same_cut 42 x.0.now x.1.now (decimal k) (decimal n) c.1 (decimal_lacks 42 k star (wide k h)) (sym c.0) in
    (k, n, h, one, (let l = length-replicate n k in omega (arith, l, few)), e.0, e.1, refl)

-- a list's turns are its first item's and those of what stands behind the first comma
pub list_parts : (bs ts : List ℕ) → TurnList bs ts → length ts ≤ most_turns → (xs ys : List ℕ) → bs ≡ xs ++ (44 ∷ ys) → Lacks 44 xs
    → (t1 t2 : List ℕ) × Item xs t1 × TurnList ys t2 × (ts ≡ t1 ++ t2)
list_parts bs ts (last i) few xs ys e h = absurd (not_lacks 44 xs ys (subst (Lacks 44) e (item_lacks bs ts i few)))
list_parts bs ts (more {bs = as'} {ts = t1} {cs = cs} {us = t2} i l) few xs ys e h =
    let small : length t1 ≤ most_turns = (let a = length-append t1 t2 in omega (arith, a, few)) in
    let same = same_cut 44 as' cs xs ys (item_lacks as' t1 i small) h e in
    (t1, t2, subst (λ z. Item z t1) same.0 i, subst (λ z. TurnList z t2) same.1 l, refl)

-- a list without a comma is one item
pub list_item : (bs ts : List ℕ) → TurnList bs ts → Lacks 44 bs → Item bs ts
list_item bs ts (last i) h = i
list_item bs ts (more {bs = as'} {ts = t1} {cs = cs} {us = t2} i l) h = absurd (not_lacks 44 as' cs h)

-- A list of pre-commits that fail has one reading: items are parted at commas, and an item at its colon.
use Rattle.std.proofs.Common.{◌≡◌, ◌<◌, ◌≤◌, ◌^◌, ℕ, List, [], ◌∷◌, ◌++◌, decimal, refl, sym, ◌∙◌, subst, arith, Option, Some, None, lit≤}
use Rattle.std.specs.Borrow.{Bor}
use Rattle.std.specs.Char.{digit_value}
use Rattle.pgo_words.specs.Cuts.{Lacks, Cuts}
use Rattle.pgo_words.specs.FailureItems.{ReadsFailure, ReadsPair}
use Rattle.pgo_words.specs.Failures.{Failure, pair, FailureList, last, more}
use Rattle.pgo_words.proofs.CutLaws.{comma, decimal_lacks, lacks-append, lacks-cons, not_lacks, same_cut, wide}

colon : 10 ≤ digit_value 58
colon = lit≤ tt

-- ---- an item

failure_lacks : (bs : List ℕ) (p : ℕ × ℕ) → Failure bs p → Lacks 44 bs
failure_lacks bs p (pair {r} {n} h k) =
    lacks-append 44 (decimal r) (58 ∷ decimal n) (decimal_lacks 44 r comma (wide r h))
    (lacks-cons 44 58 (decimal n) (λ e. absurd (omega (arith, e))) (decimal_lacks 44 n comma (wide n k)))

-- a text without a colon is no item
pub no_colon : (bs : List ℕ) → Lacks 58 bs → ReadsFailure bs None
no_colon bs c p (pair {r} {n} h k) = not_lacks 58 (decimal r) (decimal n) c

-- what an item is, by its cut at the colon
pair_parts : (bs xs ys : List ℕ) (p : ℕ × ℕ) → bs ≡ xs ++ (58 ∷ ys) → Lacks 58 xs → Failure bs p → (xs ≡ decimal p.0) × (ys ≡ decimal p.1) × (p.0 < 2 ^ 32) × (p.1 < 2 ^ 32)
pair_parts bs xs ys p e c (pair {r} {n} h k) =
    let same = same_cut 58 xs ys (decimal r) (decimal n) c (decimal_lacks 58 r colon (wide r h)) (sym e) in (same.0, same.1, h, k)

pub failure_pair : (bs : List ℕ) (x : Bor (List ℕ) × Bor (List ℕ)) (o : Option (ℕ × ℕ)) → Cuts 58 bs (Some x) → ReadsPair x.0.now x.1.now o → ReadsFailure bs o
failure_pair bs x None c r = λ p f.
    let q = pair_parts bs x.0.now x.1.now p c.0 c.1 f in r p.0 p.1 q.2 q.3 q.0 q.1
failure_pair bs x (Some o) c r = (
  subst (λ z. Failure z o) (sym (c.0 ∙ (λ i. r.0 i ++ (58 ∷ r.1 i)))) (pair r.2 r.3),
  λ p f.
      let q = pair_parts bs x.0.now x.1.now p c.0 c.1 f in let e = r.4 p.0 p.1 q.2 q.3 q.0 q.1 in
      λ i. (e.0 i, e.1 i),
)

-- ---- a list

-- a list's pairs are its first item's and those of what stands behind the first comma
pub failures_parts : (bs : List ℕ) (ps : List (ℕ × ℕ)) → FailureList bs ps → (xs ys : List ℕ) → bs ≡ xs ++ (44 ∷ ys) → Lacks 44 xs
    → (p : ℕ × ℕ) × (qs : List (ℕ × ℕ)) × Failure xs p × FailureList ys qs × (ps ≡ p ∷ qs)
failures_parts bs ps (last {p = p} f) xs ys e c = absurd (not_lacks 44 xs ys (subst (Lacks 44) e (failure_lacks bs p f)))
failures_parts bs ps (more {bs = front} {cs = cs} {p = p} {ps = qs} f l) xs ys e c =
    let same = same_cut 44 front cs xs ys (failure_lacks front p f) c e in
    (p, qs, subst (λ z. Failure z p) same.0 f, subst (λ z. FailureList z qs) same.1 l, refl)

-- a list without a comma is one item
pub failures_item : (bs : List ℕ) (ps : List (ℕ × ℕ)) → FailureList bs ps → Lacks 44 bs → (p : ℕ × ℕ) × Failure bs p × (ps ≡ p ∷ [])
failures_item bs ps (last {p = p} f) c = (p, f, refl)
failures_item bs ps (more {bs = front} {cs = cs} f l) c = absurd (not_lacks 44 front cs c)

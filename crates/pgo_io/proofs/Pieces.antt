-- Pieces that are taken one after another.
use Rattle.std.proofs.Common.{ℕ, ◌+◌, ◌-◌, ◌≤◌, List, ◌++◌, take, drop, length, Option, Some, None, arith, sym, ◌∙◌, ap, subst, append_assoc, length-append, length-take}
use Rattle.std.proofs.Math.Seq.{take-add}
use Rattle.std.proofs.lemmas.List.{take_rest}
use Rattle.std.specs.Io.KnownBytes.{Consumes}
use Rattle.pgo_io.specs.Source.{LosesAtMost}
use Rattle.pgo_io.specs.Sink.{Grows}

-- a sink that takes one piece and then another has taken both
pub grows_twice : (a b c : Option (List ℕ)) (xs ys : List ℕ) → Grows a b xs → Grows b c ys → Grows a c (xs ++ ys)
grows_twice a b None xs ys g h = tt
grows_twice a None (Some z) xs ys g h = absurd h
grows_twice None (Some y) (Some z) xs ys g h = absurd g
grows_twice (Some x) (Some y) (Some z) xs ys g h = h ∙ ap (λ t. t ++ ys) g ∙ append_assoc x xs ys

-- a sink that takes a front of xs and then a front of the rest
pub grows_more : (a b c : Option (List ℕ)) (xs : List ℕ) (i n : ℕ) → Grows a b (take i xs) → Grows b c (take n (take (length xs - i) (drop i xs))) → Grows a c (take (i + n) xs)
grows_more a b c xs i n g h =
    let P : List ℕ → Type 0 = λ ys. Grows b c (take n ys) in
    rw take-add (grows_twice a b c _ _ g (subst P (take_rest xs i) h))

-- a source that loses one piece and then another has lost both
pub consumes_twice : (a b c : Option (List ℕ)) (xs ys : List ℕ) → Consumes a b xs → Consumes b c ys → Consumes a c (xs ++ ys)
consumes_twice None b c xs ys g h = tt
consumes_twice (Some x) None c xs ys g h = absurd g
consumes_twice (Some x) (Some y) None xs ys g h = absurd h
consumes_twice (Some x) (Some y) (Some z) xs ys g h = g ∙ ap (λ t. xs ++ t) h ∙ sym (append_assoc xs ys z)

-- a source that loses at most n bytes, and then at most m
pub loses_more : (a b c : Option (List ℕ)) (xs ys : List ℕ) (n m k : ℕ) → Consumes a b xs → length xs ≤ n → Consumes b c (take k ys) → k ≤ m → LosesAtMost a c (n + m)
loses_more a b c xs ys n m k g l h f =
    (xs ++ take k ys, consumes_twice a b c xs (take k ys) g h, simp (length-append, length-take) (omega arith))

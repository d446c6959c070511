-- Runs of bytes at the front of a text.
use Rattle.std.proofs.Common.{◌≡◌, ◌+◌, ℕ, suc, Bool, true, false, ◌&&◌, cond, List, [], ◌∷◌, ◌++◌, length, take, drop, Option, Some, None, refl, sym, ◌∙◌, ap, subst, arith}
use Rattle.std.specs.List.{prefix_len}
use Rattle.std.proofs.Math.Numerals.{one-add}
use Rattle.std.proofs.Math.Seq.{take-append_seam}
use Rattle.std.proofs.lemmas.Bool.{eq-eqb, and_parts}
use Rattle.std.proofs.lemmas.List.Folds.{prefix_len-append}
use Rattle.pgo_lexer.specs.Lexemes.{all_are, Stops, IsRun}

-- what a choice gave came from one of its sides
pub if_some : {X : Type 0} (b : Bool) (x y : Option X) (p : X) (Goal : Type 0) → cond b x y ≡ Some p → (b ≡ true → x ≡ Some p → Goal) → (b ≡ false → y ≡ Some p → Goal) → Goal
if_some true x y p Goal h f g = f refl h
if_some false x y p Goal h f g = g refl h

pub no_some : {X : Type 0} (p : X) (Goal : Type 0) → None ≡ Some p → Goal
no_some p Goal h = absurd (cc)

pub cond_true : {X : Type 0} (b : Bool) (x y : X) → b ≡ true → cond b x y ≡ x
cond_true b x y h = λ i. cond (h i) x y

pub cond_false : {X : Type 0} (b : Bool) (x y : X) → b ≡ false → cond b x y ≡ y
cond_false b x y h = λ i. cond (h i) x y

-- a run goes on over a byte that passes, and ends before one that fails
pub run_goes : (p : ℕ → Bool) (b : ℕ) (bs : List ℕ) → p b ≡ true → prefix_len p (b ∷ bs) ≡ suc (prefix_len p bs)
run_goes p b bs h = (λ i. cond (h i) (1 + prefix_len p bs) 0) ∙ one-add (prefix_len p bs)

pub run_ends : (p : ℕ → Bool) (b : ℕ) (bs : List ℕ) → p b ≡ false → prefix_len p (b ∷ bs) ≡ 0
run_ends p b bs h = λ i. cond (h i) (1 + prefix_len p bs) 0

-- behind a run the test fails
pub behind_run : (p : ℕ → Bool) (bs : List ℕ) → Stops p (drop (prefix_len p bs) bs)
behind_run p [] = tt
behind_run p (b ∷ bs) = go (p b) refl (behind_run p bs)
  where
    go : (v : Bool) → p b ≡ v → Stops p (drop (prefix_len p bs) bs) → Stops p (drop (prefix_len p (b ∷ bs)) (b ∷ bs))
    go true e ih = subst (λ n. Stops p (drop n (b ∷ bs))) (sym (run_goes p b bs e)) ih
    go false e ih = subst (λ n. Stops p (drop n (b ∷ bs))) (sym (run_ends p b bs e)) e

-- the bytes of a run pass
pub run_passes : (p : ℕ → Bool) (bs : List ℕ) → all_are p (take (prefix_len p bs) bs) ≡ true
run_passes p [] = refl
run_passes p (b ∷ bs) = go (p b) refl (run_passes p bs)
  where
    go : (v : Bool) → p b ≡ v → all_are p (take (prefix_len p bs) bs) ≡ true → all_are p (take (prefix_len p (b ∷ bs)) (b ∷ bs)) ≡ true
    go true e ih = subst (λ n. all_are p (take n (b ∷ bs)) ≡ true) (sym (run_goes p b bs e)) (λ i. e i && ih i)
    go false e ih = subst (λ n. all_are p (take n (b ∷ bs)) ≡ true) (sym (run_ends p b bs e)) refl

pub run_at : (p : ℕ → Bool) (bs : List ℕ) → IsRun p (take (prefix_len p bs) bs) (drop (prefix_len p bs) bs)
run_at p bs = record { all = run_passes p bs; longest = behind_run p bs }

none_there : (p : ℕ → Bool) (bs : List ℕ) → Stops p bs → prefix_len p bs ≡ 0
none_there p [] h = refl
none_there p (b ∷ bs) h = run_ends p b bs h

all_run : (p : ℕ → Bool) (xs : List ℕ) → all_are p xs ≡ true → prefix_len p xs ≡ length xs
all_run p [] h = refl
all_run p (b ∷ bs) h = let q = and_parts (p b) (all_are p bs) h in run_goes p b bs q.0 ∙ ap suc (all_run p bs q.1)

-- a run is found
pub run_found : (p : ℕ → Bool) (xs bs : List ℕ) → IsRun p xs bs → prefix_len p (xs ++ bs) ≡ length xs
run_found p xs bs h =
    prefix_len-append p xs bs ∙ (λ i. cond (eq-eqb (prefix_len p xs) (length xs) (all_run p xs h.all) i) (length xs + prefix_len p bs) (prefix_len p xs))
    ∙ (let z = none_there p bs h.longest in omega arith)

pub run_taken : (p : ℕ → Bool) (xs bs : List ℕ) → IsRun p xs bs → take (prefix_len p (xs ++ bs)) (xs ++ bs) ≡ xs
run_taken p xs bs h = (λ i. take (run_found p xs bs h i) (xs ++ bs)) ∙ take-append_seam xs bs

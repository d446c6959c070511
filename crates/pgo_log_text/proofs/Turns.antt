-- Recursions on a count of turns, beside loops that count up.
use Rattle.std.proofs.Common.{◌≡◌, refl, ℕ, zero, suc, ◌+◌, ◌-◌, ◌<◌, true, false, ◌&&◌, cond, List, [], ◌∷◌, ◌++◌, Some, None, ap, sym, ◌∙◌, arith, map, drop, get_or, length}
use Rattle.std.proofs.lemmas.Bool.{and_right}
use Rattle.std.proofs.lemmas.List.{length-map, drop_more}
use Rattle.pgo_base.specs.declared.value.Value.{Value}
use Rattle.pgo_base.specs.Data.{Data}
use Rattle.pgo_base.specs.Lookup.{Name, Vars, same_name}
use Rattle.pgo_base.specs.View.{named_data}
use Rattle.pgo_log_text.specs.Parsers.{Outcome, Parser, and_then}
use Rattle.pgo_log_text.specs.Bytes.{begins}
use Rattle.pgo_log_text.specs.Lines.{parts, variable_line, start, are_named}

module _ {A : Type 0} (word : List ℕ) (part : ℕ → Parser A) where
  none_left : (i : ℕ) (done : List A) (bs : List ℕ) → begins word bs ≡ true → parts word part zero i done bs ≡ None
  unfolding parts
  none_left i done bs b = λ j. cond (b j) None (Some (done, bs))

  one_left : (left i : ℕ) (done : List A) (bs : List ℕ) → begins word bs ≡ true
      → parts word part (suc left) i done bs ≡ and_then (part i bs) (λ a. parts word part left (suc i) (done ++ a ∷ []))
  unfolding parts
  one_left left i done bs b = λ j. cond (b j) (and_then (part i bs) (λ a. parts word part left (suc i) (done ++ a ∷ []))) (Some (done, bs))

  pub all_read : (left i : ℕ) (done : List A) (bs : List ℕ) → begins word bs ≡ false → parts word part left i done bs ≡ Some (done, bs)
  unfolding parts
  all_read zero i done bs b = λ j. cond (b j) None (Some (done, bs))
  all_read (suc left) i done bs b = λ j. cond (b j) (and_then (part i bs) (λ a. parts word part left (suc i) (done ++ a ∷ []))) (Some (done, bs))

  -- there are more parts than there may be
  pub too_many : {x : Outcome (List A)} (most at i : ℕ) (done : List A) (bs : List ℕ) → x ≡ parts word part (most - at) i done bs → begins word bs ≡ true → at ≡ most → x ≡ None
  too_many most at i done bs e b full = let none : most - at ≡ 0 = omega arith in e ∙ ap (λ n. parts word part n i done bs) none ∙ none_left i done bs b

  pub part_turn : {x : Outcome (List A)} (most at i : ℕ) (done : List A) (bs : List ℕ) → x ≡ parts word part (most - at) i done bs → begins word bs ≡ true → at < most
      → x ≡ and_then (part i bs) (λ a. parts word part (most - (at + 1)) (i + 1) (done ++ a ∷ []))
  part_turn most at i done bs e b few =
      let more : most - at ≡ suc (most - (at + 1)) = omega arith in
      let next : suc i ≡ i + 1 = omega arith in
      e ∙ ap (λ n. parts word part n i done bs) more ∙ one_left (most - (at + 1)) i done bs b
      ∙ ap (λ n. and_then (part i bs) (λ a. parts word part (most - (at + 1)) n (done ++ a ∷ []))) next

-- the next name's variable
pub start_turn : {x : Outcome Vars} (names : List Name) (at : ℕ) (done : Vars) (bs : List ℕ) (name : Name) → x ≡ start (drop at names) done bs → at < length names → name ≡ get_or names at name
    → x ≡ and_then (variable_line name bs) (λ v. start (drop (at + 1) names) (done ++ (name, v) ∷ []))
unfolding start
start_turn names at done bs name e below is =
    e ∙ ap (λ ns. start ns done bs) (drop_more names at name below) ∙ ap (λ n. start (n ∷ drop (at + 1) names) done bs) (sym is)

-- ---- the names of constants

-- there are more of one than of the other
pub named_counts : (cs : List (Name × Data)) (ns : List Name) → (length cs ≡ length ns → ⊥) → are_named cs ns ≡ false
named_counts [] [] h = absurd (h refl)
named_counts [] (x ∷ xs) h = refl
named_counts (p ∷ ps) [] h = refl
named_counts (p ∷ ps) (x ∷ xs) h = ap (λ t. same_name p.0 x && t) (named_counts ps xs (λ e. h (ap (λ k. suc k) e))) ∙ and_right (same_name p.0 x) false refl

pub named_lengths : (cs : List (Name × Value)) (ns : List Name) → (length cs ≡ length ns → ⊥) → are_named (map named_data cs) ns ≡ false
named_lengths cs ns h = named_counts (map named_data cs) ns (λ e. h (sym (length-map cs named_data) ∙ e))

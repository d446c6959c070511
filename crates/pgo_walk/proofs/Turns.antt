-- Turns at what comes last, where it is several pieces of code.
use Rattle.std.proofs.Common.{◌≡◌, ◌∙◌, ℕ, ◌+◌, ◌<◌, ◌≤◌, List, [], ◌∷◌, ◌++◌, map, take, drop, length, get_or, refl, ap, sym, arith}
use Rattle.std.proofs.Math.Seq.{take-length}
use Rattle.std.proofs.lemmas.List.{take_more, map-append, drop_more}
use Rattle.pgo_base.specs.Lookup.{Name}
use Rattle.pgo_effects.specs.Pieces.{all_arms, code_with, effect_code}
use Rattle.pgo_effects.specs.declared.piece.Effect.{Effect}
use Rattle.pgo_pluscal.specs.PartView.{expansions}
use Rattle.pgo_sections.specs.Code.{Place, Code, in_turn}
use Rattle.pgo_sections.specs.Expand.{Renames, Current, expand, expand_arms}
use Rattle.pgo_sections.specs.Expansion.{more_expansions}
use Rattle.pgo_walk.specs.Frames.{Frame, Run, runs, goes, jumps, yields}

module _ (vs : List Name) (ps : List (Name × Place)) (ren : Renames) (fs : List Frame) where
  pub jumps_runs : (cs : List Code) → jumps vs (runs ps ren cs fs) ≡ jumps vs fs
  jumps_runs [] = refl
  jumps_runs (c ∷ cs) = jumps_runs cs

  pub yields_runs : (cs : List Code) → yields vs (runs ps ren cs fs) ≡ yields vs fs
  yields_runs [] = refl
  yields_runs (c ∷ cs) = yields_runs cs

  -- pieces of code in a row are frames one after another
  pub goes_in_turn : (cs : List Code) (cur : Current) (n : ℕ) → goes vs (Run ps (in_turn cs) ren ∷ fs) cur n ≡ goes vs (runs ps ren cs fs) cur n
  goes_in_turn [] cur n = refl
  goes_in_turn (c ∷ cs) cur n = λ i. expand ps c ren cur n (λ cur' n'. goes_in_turn cs cur' n' i) (sym (jumps_runs cs) i) (sym (yields_runs cs) i)

  -- the arms of a choice
  pub arms_expanded : {A : Type 0} (f : A → Code) (ts : List A) (cur : Current) (n : ℕ)
      → expand_arms ps (all_arms (map f ts)) ren cur n (goes vs fs) (jumps vs fs) (yields vs fs) ≡ expansions (map (λ t. goes vs (Run ps (f t) ren ∷ fs) cur n) ts)
  arms_expanded f [] cur n = refl
  arms_expanded f (t ∷ ts) cur n = ap (λ xs. more_expansions (expand ps (f t) ren cur n (goes vs fs) (jumps vs fs) (yields vs fs)) xs) (arms_expanded f ts cur n)

-- one more of a list that is mapped
pub one_more_mapped : {A B E : Type 0} (g : B → E) (h : A → E) (ys : List B) (y : B) (xs : List A) (i : ℕ) (x : A) → i < length xs → x ≡ get_or xs i x
    → map g ys ≡ map h (take i xs) → g y ≡ h x → map g (ys ++ y ∷ []) ≡ map h (take (i + 1) xs)
one_more_mapped g h ys y xs i x lt is so_far here =
    map-append g ys (y ∷ [])
    ∙ (λ k. so_far k ++ here k ∷ [])
    ∙ (λ k. map h (take i xs) ++ h (is k) ∷ [])
    ∙ sym (map-append h (take i xs) (get_or xs i x ∷ []))
    ∙ ap (map h) (sym (take_more xs i x lt))

-- all of a list
pub all_taken : {A : Type 0} (xs : List A) (i : ℕ) → length xs ≤ i → i ≤ length xs → take i xs ≡ xs
all_taken xs i a b = ap (λ n. take n xs) (let e : i ≡ length xs = omega arith in e) ∙ take-length xs

-- an effect, and what is left behind it
pub effect_first : (es : List Effect) (i : ℕ) (e : Effect) (c : Code) → i < length es → e ≡ get_or es i e
    → code_with (drop i es) c ≡ effect_code e (code_with (drop (i + 1) es) c)
effect_first es i e c lt is =
    ap (λ xs. code_with xs c) (drop_more es i e lt) ∙ ap (λ x. effect_code x (code_with (drop (i + 1) es) c)) (sym is)

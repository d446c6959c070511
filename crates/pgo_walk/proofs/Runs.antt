-- Codes that follow one another, put before what is there.
use Rattle.std.proofs.Common.{◌≡◌, ◌∙◌, ℕ, suc, ◌+◌, ◌-◌, ◌<◌, List, [], ◌∷◌, ◌++◌, take, length, get_or, refl, ap, arith, sym, map}
use Rattle.std.proofs.Math.Seq.{take-suc}
use Rattle.pgo_base.specs.Lookup.{Name}
use Rattle.pgo_sections.specs.Code.{Place, Code}
use Rattle.pgo_sections.specs.Expand.{Renames}
use Rattle.pgo_walk.specs.Frames.{Frame, Run, runs}

module _ {A : Type 0} (f : A → Code) (ps : List (Name × Place)) (ren : Renames) where
  pub runs_end : (xs : List A) (x : A) (fs : List Frame) → runs ps ren (map f (xs ++ x ∷ [])) fs ≡ runs ps ren (map f xs) (Run ps (f x) ren ∷ fs)
  runs_end [] x fs = refl
  runs_end (y ∷ ys) x fs = ap (λ gs. Run ps (f y) ren ∷ gs) (runs_end ys x fs)

  -- the last of the codes that are left
  pub run_last : (xs : List A) (i : ℕ) (d : A) (fs gs : List Frame) → i < length xs
      → gs ≡ Run ps (f (get_or xs (length xs - 1 - i) d)) ren ∷ fs
      → runs ps ren (map f (take (length xs - i) xs)) fs ≡ runs ps ren (map f (take (length xs - (i + 1)) xs)) gs
  run_last xs i d fs gs h e =
      let here : length xs - i ≡ suc (length xs - 1 - i) = omega arith in
      let there : length xs - (i + 1) ≡ length xs - 1 - i = omega arith in
      ap (λ n. runs ps ren (map f (take n xs)) fs) here
      ∙ ap (λ ys. runs ps ren (map f ys) fs) (take-suc xs (length xs - 1 - i) d (omega arith))
      ∙ runs_end (take (length xs - 1 - i) xs) (get_or xs (length xs - 1 - i) d) fs
      ∙ ap (λ ks. runs ps ren (map f (take (length xs - 1 - i) xs)) ks) (sym e)
      ∙ ap (λ n. runs ps ren (map f (take n xs)) gs) (sym there)

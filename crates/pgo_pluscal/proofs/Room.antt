-- The blocks around a line are no more than the bytes before it, since each opens with a line.
use Rattle.std.proofs.Common.{◌≡◌, ◌≤◌, ◌<◌, ◌+◌, ◌-◌, ℕ, zero, suc, List, [], ◌∷◌, ◌++◌, length, refl, ap, ◌∙◌, arith}
use Rattle.std.specs.Prelude.{codes}
use Rattle.std.proofs.lemmas.List.{append_assoc, length-append}
use Rattle.pgo_base.specs.ExprView.{tree}
use Rattle.pgo_base.specs.Lookup.{Name}
use Rattle.pgo_model.specs.ModuleText.{flatten}
use Rattle.pgo_pluscal.specs.declared.part.Step.{Step}
use Rattle.pgo_pluscal.specs.declared.part.Step.TheVariants as steps
use Rattle.pgo_pluscal.specs.Steps.{level_after, step_text, closings}
use Rattle.pgo_pluscal.specs.Text.{blanks, line, value_text}

pub more : (n : ℕ) (old new added : List ℕ) → new ≡ old ++ added → n ≤ length old → n ≤ length new
more n old new added e h = rw e (omega (arith, h, length-append old added))

pub line_more : (n m : ℕ) (old new : List ℕ) (words : List (List ℕ)) → new ≡ old ++ line m words → n ≤ length old → n + 1 ≤ length new
line_more n m old new words e h =
    let one : length (codes "\n") ≡ 1 = refl in
    rw e (omega (arith, h, one, length-append old (line m words), length-append (blanks m ++ flatten words) (codes "\n")))

pub step_more : (own : List Name) (n m : ℕ) (s : Step) (old new : List ℕ) → m ≡ level_after n s → new ≡ old ++ step_text own n s → n ≤ length old → m ≤ length new
step_more own n m (steps.With x e) old new f h g = rw f (line_more n n old new (codes "with (" ∷ x ∷ codes " = " ∷ value_text own (tree e) ∷ codes ") {" ∷ []) h g)
step_more own n m (steps.In x e) old new f h g = rw f (line_more n n old new (codes "with (" ∷ x ∷ codes " \\in " ∷ value_text own (tree e) ∷ codes ") {" ∷ []) h g)
step_more own n m steps.Skip old new f h g = rw f (more n old new _ h g)
step_more own n m (steps.Await e) old new f h g = rw f (more n old new _ h g)
step_more own n m (steps.Assert e) old new f h g = rw f (more n old new _ h g)
step_more own n m (steps.Print e) old new f h g = rw f (more n old new _ h g)

-- the innermost of k blocks is closed
pub closed_one : (n k : ℕ) (old new all : List ℕ) → 0 < k → new ≡ old ++ line (n + (k - 1)) (codes "}" ∷ []) → old ++ closings n k ≡ all → new ++ closings n (k - 1) ≡ all
closed_one n zero old new all h e f = absurd (omega arith)
closed_one n (suc k) old new all h e f =
    let one_less : suc k - 1 ≡ k = omega arith in
    ap (λ l. l ++ closings n (suc k - 1)) e
    ∙ ap (λ m. old ++ line (n + m) (codes "}" ∷ []) ++ closings n m) one_less
    ∙ append_assoc old (line (n + k) (codes "}" ∷ [])) (closings n k)
    ∙ f

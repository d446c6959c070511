-- What is left at the first place of a section.
use Rattle.std.proofs.Common.{◌≡◌, ℕ, zero, suc, List, [], length, map, refl, ap, ◌∙◌, arith}
use Rattle.std.proofs.lemmas.List.{length-map}
use Rattle.std.specs.Prelude.{Option, Some, None, option_map}
use Rattle.pgo_model.specs.Machine.{nth}
use Rattle.pgo_model.specs.Options.{on}
use Rattle.pgo_accesses.specs.Accesses.{Attempt, no_value}
use Rattle.pgo_code.specs.Steps.{Step}
use Rattle.pgo_code.specs.See.{section_view, step_of}
use Rattle.pgo_code.specs.declared.program.Code.{Code}
use Rattle.pgo_code.specs.declared.program.Section.{Section}
use Rattle.pgo_places.specs.PlaceWalk.{instructions_in}
use Rattle.pgo_places.specs.Stands.{Fixed, Stand, resume}
use Rattle.pgo_places.proofs.Enough.{enough}

nothing_left : (a : Attempt) (k : Fixed) (n : ℕ) (s : Stand) → resume a k n [] s ≡ no_value
nothing_left a k zero s = refl
nothing_left a k (suc n) s = refl

-- all instructions of the section are left
pub first_left : (a : Attempt) (k : Fixed) (s : Stand) (cs : List Code) (i j n : ℕ) (c : Code) (o : Option (List Step)) → nth cs i ≡ Some c → option_map (λ q. (section_view q).1) (nth c.sections.items j) ≡ o → n ≡ length (instructions_in cs i j)
    → resume a k n (map step_of (instructions_in cs i j)) s ≡ on no_value o (λ xs. resume a k (suc (length xs)) xs s)
first_left a k s cs i j n c o e h g =
    go (nth c.sections.items j) refl h
  where
    here : instructions_in cs i j ≡ on [] (nth c.sections.items j) (λ q. q.instructions.items)
    here = ap (λ d. on [] d (λ c. on [] (nth c.sections.items j) (λ q. q.instructions.items))) e

    go : (p : Option Section) → nth c.sections.items j ≡ p → option_map (λ q. (section_view q).1) p ≡ o → resume a k n (map step_of (instructions_in cs i j)) s ≡ on no_value o (λ xs. resume a k (suc (length xs)) xs s)
    go None t u =
        ap (λ is. resume a k n (map step_of is) s) (here ∙ ap (λ d. on [] d (λ q. q.instructions.items)) t)
        ∙ nothing_left a k n s ∙ ap (λ d. on no_value d (λ xs. resume a k (suc (length xs)) xs s)) u
    go (Some q) t u =
        let is = q.instructions.items in
        let w : instructions_in cs i j ≡ is = here ∙ ap (λ d. on [] d (λ q. q.instructions.items)) t in
        let m : n ≡ length (map step_of is) = omega (arith, g, ap length w, length-map is step_of) in
        ap (λ is. resume a k n (map step_of is) s) w
        ∙ ap (λ b. resume a k b (map step_of is) s) m ∙ enough a k (length (map step_of is)) (map step_of is) s (omega arith)
        ∙ ap (λ d. on no_value d (λ xs. resume a k (suc (length xs)) xs s)) u

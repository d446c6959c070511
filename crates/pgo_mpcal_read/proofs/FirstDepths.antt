-- The depth of the first macro of a name, once one macro is behind others.
use Rattle.std.proofs.Common.{◌≡◌, ℕ, List, [], ◌∷◌, ◌++◌, ap, sym, ◌∙◌}
use Rattle.std.specs.Prelude.{Option, map}
use Rattle.std.proofs.lemmas.List.{map-append}
use Rattle.pgo_base.specs.Lookup.{Name, find}
use Rattle.pgo_model.specs.Names.{or_that, find_append}
use Rattle.pgo_mpcal_read.specs.declared.depths.MacroDepth.{MacroDepth}
use Rattle.pgo_mpcal_read.specs.Depths.{first_depth}

-- what is known of all names, once one macro is behind others
pub first_behind : (old new : Name → Option ℕ) (ms : List MacroDepth) (m : MacroDepth) → ((n : Name) → old n ≡ first_depth ms n) → ((n : Name) → new n ≡ or_that (old n) (first_depth (m ∷ []) n)) → (n : Name) → new n ≡ first_depth (ms ++ m ∷ []) n
first_behind old new ms m h e n =
    e n ∙ ap (λ o. or_that o (first_depth (m ∷ []) n)) (h n)
    ∙ sym (ap (find n) (map-append (λ k. (k.name, k.depth)) ms (m ∷ [])) ∙ find_append n (map (λ k. (k.name, k.depth)) ms) ((m.name, m.depth) ∷ []))

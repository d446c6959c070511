-- What follows a statement, from what stands before it.
use Rattle.std.proofs.Common.{◌≡◌, List, [], ◌∷◌, ◌++◌, refl, ap, ◌∙◌, append_assoc}
use Rattle.pgo_sections.specs.Code.{Code, Seq}
use Rattle.pgo_section_list.specs.Sections.{in_sequence}

pub sequence-append : (cs ds : List Code) (c : Code) → in_sequence (cs ++ ds) c ≡ in_sequence cs (in_sequence ds c)
sequence-append [] ds c = refl
sequence-append (d ∷ cs) ds c = ap (Seq d) (sequence-append cs ds c)

-- one more was copied
pub copied : (old new : List Code) (c d : Code) (ds : List Code) → new ≡ old ++ c ∷ [] → c ≡ d → new ++ ds ≡ old ++ d ∷ ds
copied old new c d ds e ec = ap (λ r. r ++ ds) e ∙ append_assoc old (c ∷ []) ds ∙ ap (λ x. old ++ x ∷ ds) ec

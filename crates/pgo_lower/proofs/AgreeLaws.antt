-- Sections whose steps are those of the code agree with it.
use Rattle.std.proofs.Common.{◌≡◌, ◌∙◌, List, [], ◌∷◌, ◌++◌, Option, Some, None, map, refl, ap, sym, subst}
use Rattle.std.specs.Prelude.{Bool, true, false, if◌then◌else◌}
use Rattle.pgo_base.specs.Lookup.{Name, same_name, find}
use Rattle.pgo_model.specs.System.{Words}
use Rattle.pgo_syntax.specs.declared.bound.Bound.{Bound}
use Rattle.pgo_syntax.specs.declared.bound.Instance.{Instance}
use Rattle.pgo_sections.specs.Code as codes
use Rattle.pgo_sections.specs.Code.{Place}
use Rattle.pgo_meaning.specs.Parameters.{own_name}
use Rattle.pgo_workers.specs.Walk.{Own}
use Rattle.pgo_accesses.specs.Accesses.{accesses_of}
use Rattle.pgo_accesses.specs.Programs.{attempt_of}
use Rattle.pgo_code.specs.See.{section_view, step_of}
use Rattle.pgo_code.specs.Steps.{Step, steps_of}
use Rattle.pgo_code.specs.declared.program.Code.{Code}
use Rattle.pgo_code.specs.declared.program.Section.{Section}
use Rattle.pgo_code.specs.declared.instruction.Instruction.{Instruction}
use Rattle.pgo_lower.specs.Agree.{bare_section, lowered_section, SectionsAgree, IsLowered, AreLowered}
use Rattle.pgo_lower.specs.Globals.{own_target, targeted, tables_in}
use Rattle.pgo_lower.specs.Lowered.{bare}
use Rattle.pgo_lower.specs.Made.{step_here, steps_here}
use Rattle.pgo_lower.proofs.LoweredLaw.{lowered_law}

bare_steps : (is : List Instruction) → steps_here is ≡ map bare (map step_of is)
bare_steps [] = refl
bare_steps (i ∷ is) = ap (λ l. step_here i ∷ l) (bare_steps is)

own_there : (b : Bound) (p : Place) → own_target (targeted b ([], p)).1 ≡ own_name p
own_there b (codes.Whole g) = refl
own_there b (codes.Own x) = refl

pub variables_there : (b : Bound) (qs : List (Name × Place)) → map {B = Name × Option Name} (λ q. (q.0, own_target q.1)) (map (targeted b) qs) ≡ map {B = Name × Option Name} (λ q. (q.0, own_name q.1)) qs
variables_there b [] = refl
variables_there b (q ∷ qs) = λ i. (q.0, own_there b q.1 i) ∷ variables_there b qs i

first_is : (p q : Name × List Step) (ps qs : List (Name × List Step)) → p ∷ ps ≡ q ∷ qs → p ≡ q
first_is p q ps qs e = cc

rest_is : (p q : Name × List Step) (ps qs : List (Name × List Step)) → p ∷ ps ≡ q ∷ qs → ps ≡ qs
rest_is p q ps qs e = cc

none_some : (q : Name × List Step) (qs : List (Name × List Step)) → [] ≡ q ∷ qs → ⊥
none_some q qs e = cc

some_none : (q : Name × List Step) (qs : List (Name × List Step)) → q ∷ qs ≡ [] → ⊥
some_none q qs e = cc

pub sections_there : (b : Bound) (i : Instance) (ss : List Section) (cs : List (Name × codes.Code)) → map bare_section ss ≡ map (lowered_section (tables_in b i)) cs
    → SectionsAgree b i (map section_view ss) cs
sections_there b i [] [] e = tt
sections_there b i [] (c ∷ cs) e = none_some _ _ e
sections_there b i (s ∷ ss) [] e = some_none _ _ e
sections_there b i (s ∷ ss) (c ∷ cs) e =
    let here = first_is (bare_section s) (lowered_section (tables_in b i) c) (map bare_section ss) (map (lowered_section (tables_in b i)) cs) e in
    let behind = rest_is (bare_section s) (lowered_section (tables_in b i) c) (map bare_section ss) (map (lowered_section (tables_in b i)) cs) e in (
      ap (λ p. p.0) here,
      (λ own d. lowered_law (attempt_of b i own d) (map step_of s.instructions.items) c.1 (sym (bare_steps s.instructions.items) ∙ ap (λ p. p.1) here)),
      sections_there b i ss cs behind,
    )

pub one_more_lowered : (b : Bound) (is : List Instance) (cs : List Code) (i : Instance) (c : Code) → AreLowered b is cs → IsLowered b i c → AreLowered b (is ++ i ∷ []) (cs ++ c ∷ [])
one_more_lowered b [] [] i c h k = (k, tt)
one_more_lowered b [] (d ∷ cs) i c h k = absurd h
one_more_lowered b (j ∷ is) [] i c h k = absurd h
one_more_lowered b (j ∷ is) (d ∷ cs) i c h k = (h.0, one_more_lowered b is cs i c h.1 k)

-- the steps and the code under a label, if there are both or neither
abbrev pub FoundAgree : Bound → Instance → Option (List Step) → Option codes.Code → Type 0
FoundAgree b i None None = Unit {0}
FoundAgree b i None (Some c) = ⊥
FoundAgree b i (Some is) None = ⊥
FoundAgree b i (Some is) (Some c) = (own : Own) (d : Words) → steps_of (attempt_of b i own d) is ≡ accesses_of (attempt_of b i own d) c

pub found_agree : (b : Bound) (i : Instance) (l : Name) (ps : List (Name × List Step)) (qs : List (Name × codes.Code)) → SectionsAgree b i ps qs
    → FoundAgree b i (find l ps) (find l qs)
found_agree b i l [] [] h = tt
found_agree b i l [] (q ∷ qs) h = absurd h
found_agree b i l (p ∷ ps) [] h = absurd h
found_agree b i l (p ∷ ps) (q ∷ qs) h =
    subst (λ x. FoundAgree b i (if same_name l p.0 then Some p.1 else find l ps) (if same_name l x then Some q.1 else find l qs)) h.0
    (go (same_name l p.0) (found_agree b i l ps qs h.2))
  where
    go : (t : Bool) → FoundAgree b i (find l ps) (find l qs) → FoundAgree b i (if t then Some p.1 else find l ps) (if t then Some q.1 else find l qs)
    go true k = h.1
    go false k = k

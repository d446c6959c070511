-- What the program of a bound specification does is what its sections do.
use Rattle.std.proofs.Common.{◌≡◌, ◌∙◌, ℕ, zero, suc, List, [], ◌∷◌, length, map, Option, Some, None, refl, sym, ap, subst}
use Rattle.pgo_base.specs.Data.{Data, string}
use Rattle.pgo_base.specs.Lookup.{Name, find}
use Rattle.pgo_model.specs.Choice.{Seeded, words_of}
use Rattle.pgo_model.specs.Core.{Settings}
use Rattle.pgo_model.specs.Machine.{nth}
use Rattle.pgo_model.specs.Options.{on}
use Rattle.pgo_model.specs.Outcome.{most_leaves}
use Rattle.pgo_model.specs.System.{Words}
use Rattle.pgo_model.specs.Written.{pc}
use Rattle.pgo_syntax.specs.declared.bound.Bound.{Bound}
use Rattle.pgo_syntax.specs.declared.bound.Instance.{Instance}
use Rattle.pgo_bound.specs.Sound.{IsNumbered}
use Rattle.pgo_bound.specs.State.{id_of}
use Rattle.pgo_sections.specs.Code as codes
use Rattle.pgo_sections.specs.Code.{Place}
use Rattle.pgo_meaning.specs.Parameters.{places_of, own_name}
use Rattle.pgo_meaning.specs.Sect.{code_at}
use Rattle.pgo_meaning.specs.Sections.{sections_of}
use Rattle.pgo_meaning.specs.System.{system_of}
use Rattle.pgo_tries.specs.Sections.{along}
use Rattle.pgo_workers.specs.Tried.{LeafTree, attempting}
use Rattle.pgo_workers.specs.Walk.{Own}
use Rattle.pgo_accesses.specs.Accesses.{accesses_of, no_value}
use Rattle.pgo_accesses.specs.Programs.{attempt_of, leaf_with, tree_of}
use Rattle.pgo_section.specs.Programs.{RunsSystem}
use Rattle.pgo_code.specs.See.{section_view}
use Rattle.pgo_code.specs.Steps.{Step, steps_of}
use Rattle.pgo_code.specs.declared.program.Code.{Code}
use Rattle.pgo_code.specs.declared.program.Program.{Program}
use Rattle.pgo_places.specs.PlaceWalk.{count_of}
use Rattle.pgo_places.specs.Stands.{limited, resume}
use Rattle.pgo_places.specs.FirstStands.{fixed_of, start_of, steps_named}
use Rattle.pgo_places.specs.Trees.{attempt_with, leaf_of, tree_in}
use Rattle.pgo_places.proofs.Starts.{owner_of, starts}
use Rattle.pgo_lower.specs.Agree.{IsLowered, AreLowered}
use Rattle.pgo_lower.proofs.AgreeLaws.{FoundAgree, found_agree}
use Rattle.pgo_programs.proofs.Numbers.{limited_section}

owner_is : (p : Place) → own_name p ≡ owner_of ([], p)
owner_is (codes.Whole g) = refl
owner_is (codes.Own x) = refl

owners_are : (qs : List (Name × Place)) → map {B = Name × Option Name} (λ q. (q.0, own_name q.1)) qs ≡ map {B = Name × Option Name} (λ q. (q.0, owner_of q)) qs
owners_are [] = refl
owners_are (q ∷ qs) = λ i. (q.0, owner_is q.1 i) ∷ owners_are qs i

module _ (b : Bound) (n : IsNumbered b) (own : Own) (first d : Words) where
  abbrev resumed : Instance → Code → List Step → LeafTree
  resumed i c xs = resume (attempt_with b (id_of i)) (fixed_of c) (suc (length xs)) xs (start_of c own first d)

  -- a section whose steps do what its code accesses
  section_same : (i : Instance) (c : Code) (xs : List Step) (code : codes.Code) → IsLowered b i c → steps_of (attempt_of b i own d) xs ≡ accesses_of (attempt_of b i own d) code
      → limited (count_of b) (resumed i c xs) ≡ accesses_of (attempt_of b i own d) code
  section_same i c xs code l e =
      ap (limited (count_of b)) (starts (attempt_of b i own d) first c xs (l.variables ∙ owners_are (places_of i.process i.archetype i.bindings)) ∙ e)
      ∙ limited_section b n i own d code

  found_same : (i : Instance) (c : Code) (o : Option (List Step)) (q : Option codes.Code) → IsLowered b i c → FoundAgree b i o q
      → limited (count_of b) (on no_value o (resumed i c)) ≡ on no_value q (λ code. accesses_of (attempt_of b i own d) code)
  found_same i c None None l h = refl
  found_same i c None (Some code) l h = absurd h
  found_same i c (Some xs) None l h = absurd h
  found_same i c (Some xs) (Some code) l h = section_same i c xs code l (h own d)

  -- the section of the label at which the own components are
  here_same : (i : Instance) (c : Code) (o : Option Data) → IsLowered b i c
      → limited (count_of b) (on no_value (steps_named o c) (resumed i c)) ≡ on no_value (code_at b i o) (λ code. accesses_of (attempt_of b i own d) code)
  here_same i c (Some (string l)) h =
      found_same i c (find l (map section_view c.sections.items)) (find l (sections_of b.spec.macros i.process i.archetype i.bindings)) h
      (found_agree b i l (map section_view c.sections.items) (sections_of b.spec.macros i.process i.archetype i.bindings) h.sections)
  here_same i c o h = refl

  -- of each instance
  instance_same : (k : ℕ) (is : List Instance) (cs : List Code) → AreLowered b is cs
      → limited (count_of b) (on no_value (nth cs k) (λ c. on no_value (nth is k) (λ i. on no_value (steps_named (find pc own) c) (resumed i c))))
      ≡ on no_value (nth is k) (λ i. on no_value (code_at b i (find pc own)) (λ code. accesses_of (attempt_of b i own d) code))
  instance_same k [] [] h = refl
  instance_same k [] (c ∷ cs) h = absurd h
  instance_same k (i ∷ is) [] h = absurd h
  instance_same zero (i ∷ is) (c ∷ cs) h = here_same i c (find pc own) h.0
  instance_same (suc k) (i ∷ is) (c ∷ cs) h = instance_same k is cs h.1

-- of a program whose bound specification this is
abbrev leaf_at : Bound → List Code → (first d : Words) → ℕ → Own → LeafTree
leaf_at b cs first d k own =
    limited (count_of b)
    (on no_value (nth cs k) (λ c. on no_value (nth b.instances k) (λ i. on no_value (steps_named (find pc own) c) (λ xs.
    resume (attempt_with b (id_of i)) (fixed_of c) (suc (length xs)) xs (start_of c own first d)))))

leaf_same : (b : Bound) (p : Program) → p.bound.now ≡ b → IsNumbered b → AreLowered b b.instances p.codes.items → (first d : Words) (k : ℕ) (own : Own) → leaf_of p first d k own ≡ leaf_with b d k own
leaf_same b p e n h first d k own = ap (λ c. leaf_at c p.codes.items first d k own) e ∙ instance_same b n own first d k b.instances p.codes.items h

pub tree_same : (b : Bound) (p : Program) → p.bound.now ≡ b → IsNumbered b → AreLowered b b.instances p.codes.items
    → (seed k a : ℕ) (own : Own) → tree_in p seed k a own ≡ tree_of b seed k a own
tree_same b p e n h seed k a own =
    let first = words_of (Seeded seed k a) in
    λ j. attempting (λ path. leaf_same b p e n h first (along 0 path first) k own j) first most_leaves

pub runs_same : (b : Bound) (p : Program) (settings : Settings) → p.bound.now ≡ b → IsNumbered b → AreLowered b b.instances p.codes.items
    → RunsSystem (system_of b) (tree_of b) settings → RunsSystem (system_of p.bound.now) (tree_in p) settings
runs_same b p settings e n h r =
    let trees : tree_of b ≡ tree_in p = λ j seed k a own. sym (tree_same b p e n h seed k a own) j in
    subst (λ c. RunsSystem (system_of c) (tree_in p) settings) (sym e) (subst (λ t. RunsSystem (system_of b) t settings) trees r)

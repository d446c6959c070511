-- What the laws below say, and that the trees of an instance's labels are named as their actions ask.
use Rattle.std.proofs.Common.{◌≡◌, ◌↔◌, ℕ, Bool, true, false, List, [], ◌∷◌, ◌++◌, map, Some, refl, ap, ◌∙◌, sym, subst, option_map}
use Rattle.std.specs.Prelude.{if◌then◌else◌}
use Rattle.std.specs.List.{flat_map}
use Rattle.std.proofs.lemmas.Option.{same_Some}
use Rattle.pgo_base.specs.Data.{Data, string}
use Rattle.pgo_base.specs.Lookup.{Name, Vars, same_name, find}
use Rattle.pgo_model.specs.Machine.{nth}
use Rattle.pgo_model.specs.Written.{pc, written}
use Rattle.pgo_syntax.specs.Statement.{labeled}
use Rattle.pgo_syntax.specs.declared.bound.Bound.{Bound}
use Rattle.pgo_syntax.specs.declared.bound.Instance.{Instance}
use Rattle.pgo_syntax.specs.declared.spec.Spec.{Spec}
use Rattle.pgo_bound.specs.BoundOf.{bound_of}
use Rattle.pgo_bound.specs.Declares.{value_in}
use Rattle.pgo_bound.specs.Sound.{IsLabel, labels_among}
use Rattle.pgo_bound.specs.State.{IsState, id_of, own_names, variables_of}
use Rattle.pgo_model.specs.Names.{is_among}
use Rattle.pgo_sections.specs.Code.{Place, Whole, Own, variable_of, Code}
use Rattle.pgo_sections.specs.Expand.{expansion}
use Rattle.pgo_sections.specs.Expansion.{Expansion}
use Rattle.pgo_sections.specs.SectionsAgree.{IsPlace}
use Rattle.pgo_meaning.specs.Expansions.{trees_of}
use Rattle.pgo_meaning.specs.LabelSections.{AreUnlabelled, NoneIsDone}
use Rattle.pgo_meaning.specs.Parameters.{places_of}
use Rattle.pgo_meaning.specs.Statements.{label_of}
use Rattle.pgo_meaning.specs.Sect.{context_of, Allows}
use Rattle.pgo_meaning.specs.TreeAllows.{TreeAllows}
use Rattle.pgo_meaning.specs.TreesAgree.{Named, OwnLabels, sections_at}
use Rattle.pgo_translate.specs.Accepted.{Accepted, InstanceAccepted}
use Rattle.pgo_translate.specs.Agrees.{ActsAgree}
use Rattle.pgo_translate.specs.ModuleOf.{module_of, constants_with, declared}
use Rattle.pgo_translate.specs.Named.{TreesAreNamed, PlacesAmong}
use Rattle.pgo_translate.specs.Premises.{ModuleNames, TreeNamed}
use Rattle.pgo_translate.proofs.Actions.{among_front}

-- the law of trees, at an instance's label
abbrev pub TreesLaw : Type 0
TreesLaw =
    (b : Bound) (k : ℕ) (i : Instance) (l : Name) (s t : Vars) → nth b.instances k ≡ Some i → Named b i → OwnLabels b i → AreUnlabelled b.spec.macros → NoneIsDone i → IsLabel i l → IsState b s → IsState b t
    → value_in s pc (id_of i) ≡ Some (string l) → TreeAllows (trees_of b.spec) b l (id_of i) s t ↔ Allows b k s t

-- each label has a section
abbrev pub SectionsLaw : Type 0
SectionsLaw = (b : Bound) (i : Instance) (l : Name) → AreUnlabelled b.spec.macros → NoneIsDone i → IsLabel i l → (c : Code) × (find l (sections_at b i) ≡ Some c)

-- the sections of an instance are those of its process's labels
abbrev pub LabelsLaw : Type 0
LabelsLaw =
    (b : Bound) (i : Instance) → AreUnlabelled b.spec.macros → map (λ c. c.0) (sections_at b i) ≡ map (label_of i.process) (labels_among (labeled i.archetype.body))

-- the law of actions, at a label
abbrev pub ActionsLaw : Type 0
ActionsLaw =
    (s : Spec) (consts : List (Name × Data)) (a : Name) → ModuleNames s → ((x : Expansion) → find a (trees_of s) ≡ Some x → TreeNamed s x)
    → ActsAgree (module_of s) (constants_with s consts) (bound_of s consts) (trees_of s) a

find_mapped : (f : Code → Expansion) (l : Name) (cs : List (Name × Code)) → find l (map (λ c. (c.0, f c.1)) cs) ≡ option_map f (find l cs)
find_mapped f l [] = refl
find_mapped f l (c ∷ cs) = go (same_name l c.0) (find_mapped f l cs)
  where
    go : (b : Bool) → find l (map (λ c. (c.0, f c.1)) cs) ≡ option_map f (find l cs) → (if b then Some (f c.1) else find l (map (λ c. (c.0, f c.1)) cs)) ≡ option_map f (if b then Some c.1 else find l cs)
    go true r = refl
    go false r = r

module _ (sections : SectionsLaw) (naming : TreesAreNamed) (s : Spec) (consts : List (Name × Data)) (h : Accepted s consts) where
  abbrev b : Bound
  b = bound_of s consts

  module _ (i : Instance) (n : InstanceAccepted s b i) where
    abbrev places : List (Name × Place)
    places = places_of i.process i.archetype i.bindings

    among : (v : Vars) (p : Place) → IsPlace (context_of b i v) p → is_among (variable_of p) (variables_of s) ≡ true
    among v (Whole g) is =
        among_front g (declared s.globals ++ (pc ∷ [])) (flat_map (λ p. map (written p.name.name) (own_names s p)) s.processes) (among_front g (declared s.globals) (pc ∷ []) is)
    among v (Own x) is = n.named.owns x is

    placed : PlacesAmong s places
    placed x p e = among [] p (n.named.places [] x p e)

    -- the tree of a label is the expansion of its section
    pub tree_named : (l : Name) → IsLabel i l → (x : Expansion) → find l (trees_of s) ≡ Some x → TreeNamed s x
    tree_named l is_label x e =
        let c = sections b i l h.unlabelled n.done is_label in
        let there : find l (trees_of s) ≡ Some (expansion (variables_of s) places c.0) =
        n.labels l c.0 c.1 ∙ find_mapped (expansion (variables_of s) places) l (sections_at b i) ∙ ap (option_map (expansion (variables_of s) places)) c.1 in
        subst (TreeNamed s) (same_Some (expansion (variables_of s) places c.0) x (sym there ∙ e)) (naming s places c.0 h.names placed (n.sections l c.0 c.1))

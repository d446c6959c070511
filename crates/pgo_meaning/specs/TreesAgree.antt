-- The promise of the expansions of a bound specification: at a label, they allow exactly what the sections allow.
use Rattle.std.specs.Prelude.{◌≡◌, ℕ, ◌<◌, ◌^◌, true, false, List, [], map, ◌↔◌, Some}
use Rattle.pgo_base.specs.Data.{string}
use Rattle.pgo_base.specs.Lookup.{Name, Vars, same_name, find}
use Rattle.pgo_model.specs.Machine.{nth}
use Rattle.pgo_model.specs.ModuleView.{defined_view}
use Rattle.pgo_model.specs.Written.{pc, self_name}
use Rattle.pgo_syntax.specs.declared.bound.Bound.{Bound}
use Rattle.pgo_syntax.specs.declared.bound.Instance.{Instance}
use Rattle.pgo_bound.specs.Declares.{value_in}
use Rattle.pgo_bound.specs.State.{AreDifferent, IsState, id_of, variables_of}
use Rattle.pgo_sections.specs.SectionsAgree.{IsPlace}
use Rattle.pgo_sections.specs.Closed.{AreClosed}
use Rattle.pgo_sections.specs.Code.{Place, Code}
use Rattle.pgo_sections.specs.Expansion.{Expansion}
use Rattle.pgo_model.specs.Names.{is_among}
use Rattle.pgo_meaning.specs.Parameters.{places_of, own_variables}
use Rattle.pgo_sections.specs.WellFormed.{NotMade, PlainCode}
use Rattle.pgo_sections.specs.Expand.{expansion}
use Rattle.pgo_sections.specs.Nodes.{most_names}
use Rattle.pgo_meaning.specs.Expansions.{expansions_of, trees_of}
use Rattle.pgo_meaning.specs.Sect.{context_of, Allows}
use Rattle.pgo_meaning.specs.Sections.{sections_of}
use Rattle.pgo_meaning.specs.TreeAllows.{TreeAllows}

abbrev pub sections_at : Bound → Instance → List (Name × Code)
sections_at b i = sections_of b.spec.macros i.process i.archetype i.bindings

abbrev pub expansions_at : Bound → Instance → List (Name × Expansion)
expansions_at b i = expansions_of (variables_of b.spec) b.spec.macros i.process i.archetype i.bindings

-- What the rules on names and on labels are to give, with what the grammar says of a text (an identifier has a letter, and no
-- specification has a prime): the written names of variables differ, and none is a made name or `self`; the instance's own
-- variables are among them; each parameter is a declared global, a value parameter or a local; a definition names no variable;
-- and the names in the sections are well formed. That no path binds 2^64 names (`few`) no rule gives, but a limit on an
-- expansion's nodes does (`few_names` of `NodeLaws`).
pub record Named (b : Bound) (i : Instance) : Type 0 where
  pub differ : AreDifferent (variables_of b.spec)
  pub written : (x : Name) → is_among x (variables_of b.spec) ≡ true → NotMade x × (same_name x self_name ≡ false)
  pub owns : (x : Name) → is_among x (own_variables i.process i.archetype i.bindings) ≡ true → is_among x (variables_of b.spec) ≡ true
  pub places : (s : Vars) (x : Name) (p : Place) → find x (places_of i.process i.archetype i.bindings) ≡ Some p → IsPlace (context_of b i s) p
  pub closed : AreClosed (variables_of b.spec) (map defined_view b.defs)
  pub plain : (l : Name) (c : Code) → find l (sections_at b i) ≡ Some c
      → PlainCode (variables_of b.spec) (map (λ d. d.name.name) b.spec.globals) (places_of i.process i.archetype i.bindings) [] c
  pub few : (l : Name) (c : Code) → find l (sections_at b i) ≡ Some c → most_names (expansion (variables_of b.spec) (places_of i.process i.archetype i.bindings) c) < 2 ^ 64

-- for every instance at a written label, and all states
abbrev pub TreesAgree : Type 0
TreesAgree = (b : Bound) (k : ℕ) (i : Instance) (l : Name) (s t : Vars) → nth b.instances k ≡ Some i → Named b i → IsState b s → IsState b t
    → value_in s pc (id_of i) ≡ Some (string l) → TreeAllows (expansions_at b i) b l (id_of i) s t ↔ Allows b k s t

-- The trees of the whole specification have the instance's expansion at each label that has a section: so its bindings and its
-- archetype are those of its process in the specification, and no process before that has a label of this written name.
abbrev pub OwnLabels : Bound → Instance → Type 0
OwnLabels b i = (l : Name) (c : Code) → find l (sections_at b i) ≡ Some c → find l (trees_of b.spec) ≡ find l (expansions_at b i)

-- the same of the trees of the whole specification, at the labels of the instance's process
abbrev pub AllTreesAgree : Type 0
AllTreesAgree = (b : Bound) (k : ℕ) (i : Instance) (l : Name) (c : Code) (s t : Vars) → nth b.instances k ≡ Some i → Named b i → OwnLabels b i → find l (sections_at b i) ≡ Some c
    → IsState b s → IsState b t → value_in s pc (id_of i) ≡ Some (string l) → TreeAllows (trees_of b.spec) b l (id_of i) s t ↔ Allows b k s t

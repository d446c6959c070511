-- What the module of a specification says of steps and of starts.
use Rattle.std.specs.Prelude.{◌≡◌, ◌↔◌, ◌⊎◌, ℕ, true, List, [], Some}
use Rattle.pgo_base.specs.Data.{Data, string}
use Rattle.pgo_base.specs.Lookup.{Name, Vars, find}
use Rattle.pgo_model.specs.Acts.{Acts, Begins, IsTrueOn}
use Rattle.pgo_model.specs.Machine.{nth}
use Rattle.pgo_model.specs.Module.{Module, next_body}
use Rattle.pgo_model.specs.Written.{pc, done}
use Rattle.pgo_syntax.specs.declared.bound.Bound.{Bound}
use Rattle.pgo_syntax.specs.declared.bound.Instance.{Instance}
use Rattle.pgo_bound.specs.Declares.{Declares, value_in}
use Rattle.pgo_bound.specs.Sound.{IsLabel}
use Rattle.pgo_bound.specs.State.{IsState, id_of, variables_of}
use Rattle.pgo_model.specs.Names.{is_among}
use Rattle.pgo_sections.specs.Expansion.{Expansion}
use Rattle.pgo_meaning.specs.Sect.{Allows}
use Rattle.pgo_meaning.specs.TreeAllows.{TreeAllows}

-- of a label: whatever the identifier, its action is TRUE of exactly the pairs of states where `pc` has the label at the identifier
-- and the label's tree allows the step
abbrev pub ActsAgree : Module → List (Name × Data) → Bound → List (Name × Expansion) → Name → Type 0
ActsAgree m consts b trees a =
    (id : Data) (s t : Vars) → IsState b s → IsState b t → Acts m consts a id s t ↔ ((value_in s pc id ≡ Some (string a)) × TreeAllows trees b a id s t)

-- of the states, Init is TRUE of exactly the declared starts
abbrev pub BeginsAgree : Module → List (Name × Data) → Bound → Type 0
BeginsAgree m consts b = (s : Vars) → IsState b s → Begins m consts s ↔ Declares b s

-- for each instance, each label of its process and all states: the label's action is TRUE exactly where the instance stands at the
-- label and its section allows the step
abbrev pub StepsAgree : Module → List (Name × Data) → Bound → Type 0
StepsAgree m consts b =
    (k : ℕ) (i : Instance) (l : Name) (s t : Vars) → nth b.instances k ≡ Some i → IsLabel i l → IsState b s → IsState b t
    → Acts m consts l (id_of i) s t ↔ ((value_in s pc (id_of i) ≡ Some (string l)) × Allows b k s t)

-- Next is TRUE
abbrev pub IsNext : Module → List (Name × Data) → Vars → Vars → Type 0
IsNext m consts s t = IsTrueOn m consts [] s (Some t) (next_body m)

-- some instance's action, at some label, is TRUE
pub record SomeActs (m : Module) (consts : List (Name × Data)) (b : Bound) (s t : Vars) : Type 0 where
  pub number : ℕ
  pub instance : Instance
  pub label : Name
  pub there : nth b.instances number ≡ Some instance
  pub is_label : IsLabel instance label
  pub acts : Acts m consts label (id_of instance) s t

-- every instance is at Done
abbrev pub AllDone : Bound → Vars → Type 0
AllDone b s = (k : ℕ) (i : Instance) → nth b.instances k ≡ Some i → value_in s pc (id_of i) ≡ Some (string done)

-- each variable has in t what it has in s
abbrev pub IsUnchanged : Bound → Vars → Vars → Type 0
IsUnchanged b s t = (x : Name) → is_among x (variables_of b.spec) ≡ true → find x t ≡ find x s

-- Next is TRUE of exactly the steps of instances, and where all have ended and nothing changes
abbrev pub NextAgrees : Module → List (Name × Data) → Bound → Type 0
NextAgrees m consts b = (s t : Vars) → IsState b s → IsState b t → IsNext m consts s t ↔ (SomeActs m consts b s t ⊎ (AllDone b s × IsUnchanged b s t))

pub record Agrees (m : Module) (consts : List (Name × Data)) (b : Bound) : Type 0 where
  pub steps : StepsAgree m consts b
  pub starts : BeginsAgree m consts b
  pub next : NextAgrees m consts b

-- What is asked of a bound specification, so that its system's states are kept.
use Rattle.std.specs.Prelude.{◌≡◌, ℕ, false, ◌⊎◌, map, Some}
use Rattle.pgo_base.specs.Lookup.{Name, Vars, find}
use Rattle.pgo_model.specs.Machine.{nth}
use Rattle.pgo_model.specs.Written.{done}
use Rattle.pgo_syntax.specs.declared.bound.Bound.{Bound}
use Rattle.pgo_syntax.specs.declared.bound.Instance.{Instance}
use Rattle.pgo_bound.specs.Sound.{Sound, IsLabel, IsAtLabel}
use Rattle.pgo_bound.specs.State.{AreDifferent, IsStateOnDomains, variables_of}
use Rattle.pgo_model.specs.SystemState.{IsSystemState}
use Rattle.pgo_model.specs.Names.{is_among}
use Rattle.pgo_meaning.specs.Ends.{KeepsElements}
use Rattle.pgo_meaning.specs.Parameters.{places_of}
use Rattle.pgo_meaning.specs.System.{system_of}
use Rattle.pgo_meaning.specs.SystemStates.{GlobalsBound}
use Rattle.pgo_sections.specs.Code.{Own, Code, Empty, Skip, Let, Pick, Become, Set, Await, Assert, Print, If, Either, Seq, Goto, Yield, Read, Write, Codes, no_codes, more_codes}
use Rattle.pgo_meaning.specs.TreesAgree.{sections_at}
use Rattle.pgo_systems.specs.Counted.{AllCounted, counted}
use Rattle.pgo_systems.specs.StatementLiterals.{InstanceWithin}

-- constants are values, and the literals in definitions and in the instance's sections are integers of 64 bits: the readers of
-- texts make no others
abbrev pub LiteralsFitIn : Bound → Instance → Type 0
LiteralsFitIn = InstanceWithin counted

-- a state with the domains of the start, whose sets are counted
pub record IsCountedState (b : Bound) (s : Vars) : Type 0 where
  pub state : IsStateOnDomains b s
  pub counted : AllCounted s

-- each label at which code ends a section meets P
module _ (P : Name → Type 0) where
  abbrev mutual
    pub Jumps : Code → Type 0
    Jumps Empty = Unit {0}
    Jumps Skip = Unit {0}
    Jumps (Let b w e c) = Jumps c
    Jumps (Pick b w e c) = Jumps c
    Jumps (Become p w) = Unit {0}
    Jumps (Set b p e) = Unit {0}
    Jumps (Await e) = Unit {0}
    Jumps (Assert e) = Unit {0}
    Jumps (Print e) = Unit {0}
    Jumps (If e c d) = Jumps c × Jumps d
    Jumps (Either cs) = AllJump cs
    Jumps (Seq c d) = Jumps c × Jumps d
    Jumps (Goto l) = P l
    Jumps (Yield e) = Unit {0}
    Jumps (Read w g i block c) = Jumps c
    Jumps (Write g i w block) = Unit {0}

    pub AllJump : Codes → Type 0
    AllJump no_codes = Unit {0}
    AllJump (more_codes c cs) = Jumps c × AllJump cs

-- the sections of the instance end at labels of its process or at Done
abbrev pub EndsAtLabels : Bound → Instance → Type 0
EndsAtLabels b i = (l : Name) (c : Code) → find l (sections_at b i) ≡ Some c → Jumps (λ m. (m ≡ done) ⊎ IsLabel i m) c

-- each instance is at a label of its process or at Done in this state
abbrev pub AllAtLabels : Bound → Vars → Type 0
AllAtLabels b s = (n : ℕ) (i : Instance) → nth b.instances n ≡ Some i → IsAtLabel i s

-- a value parameter or a local of the instance is no global
abbrev pub OwnsApart : Bound → Instance → Type 0
OwnsApart b i =
    (x v : Name) → find x (places_of i.process i.archetype i.bindings) ≡ Some (Own v) → is_among v (map (λ d. d.name.name) b.spec.globals) ≡ false

-- What is asked of a bound specification: it is sound, its globals are bound as binding does it, its variables have names that differ, the
-- sets of its start are counted; and of each instance, that its sections change element-bound globals by elements alone, have literals that
-- fit and end at labels, and that what is its own is no global.
pub record KeepsStates (b : Bound) : Type 0 where
  pub sound : Sound b
  pub globals : GlobalsBound b
  pub differ : AreDifferent (variables_of b.spec)
  pub counted : AllCounted b.start
  pub elements : (k : ℕ) (i : Instance) → nth b.instances k ≡ Some i → KeepsElements b i
  pub literals : (k : ℕ) (i : Instance) → nth b.instances k ≡ Some i → LiteralsFitIn b i
  pub ends : (k : ℕ) (i : Instance) → nth b.instances k ≡ Some i → EndsAtLabels b i
  pub owns : (k : ℕ) (i : Instance) → nth b.instances k ≡ Some i → OwnsApart b i

-- a state of the system whose sets are counted, in which each instance is at a label of its process or at Done
pub record IsGoodState (b : Bound) (s : Vars) : Type 0 where
  pub state : IsSystemState (system_of b) s
  pub counted : AllCounted s
  pub labels : AllAtLabels b s

-- What two states have to agree on, so that a section of an instance does the same on both, and in what its two ends are alike.
-- Source: this project's choice.
use Rattle.std.specs.Prelude.{◌≡◌, ℕ, List, [], ◌∷◌, map, Option, Some, None, option_and_then}
use Rattle.pgo_base.specs.Data.{Data}
use Rattle.pgo_base.specs.Lookup.{Name, Vars, find}
use Rattle.pgo_model.specs.Machine.{nth}
use Rattle.pgo_model.specs.Operators.{apply}
use Rattle.pgo_model.specs.Outcome.{Outcome, Next, Stuck, Nowhere}
use Rattle.pgo_model.specs.System.{Touched}
use Rattle.pgo_model.specs.Variables.{HasOneDomain}
use Rattle.pgo_model.specs.Written.{pc}
use Rattle.pgo_syntax.specs.declared.bound.Bound.{Bound}
use Rattle.pgo_syntax.specs.declared.bound.Instance.{Instance}
use Rattle.pgo_bound.specs.declared.kinds.Kind.TheVariants.{ByElement}
use Rattle.pgo_bound.specs.State.{id_of, kind_in}
use Rattle.pgo_meaning.specs.Parameters.{own_variables}

-- a value as a whole, or what it has at an index
abbrev pub at_index : Option Data → Option Data → Option Data
at_index None o = o
at_index (Some i) o = option_and_then (λ f. apply f i) o

-- what a state has at a component: a variable as a whole, or its value at an index
abbrev pub value_at : Touched → Vars → Option Data
value_at c s = at_index c.1 (find c.0 s)

-- two states agree on a component
abbrev pub AgreeAt : Vars → Vars → Touched → Type 0
AgreeAt s t c = value_at c s ≡ value_at c t

-- on each of these
abbrev pub AgreeOn : Vars → Vars → List Touched → Type 0
AgreeOn s t [] = Unit {0}
AgreeOn s t (c ∷ cs) = AgreeAt s t c × AgreeOn s t cs

-- an instance's own components: its part of `pc`, and of each of its value parameters and locals
abbrev pub own_components : Instance → List Touched
own_components i = map (λ x. (x, Some (id_of i))) (pc ∷ own_variables i.process i.archetype i.bindings)

-- the states agree on the own components of instance k, and on the domain of each global that is bound by element
pub record AgreeFor (b : Bound) (k : ℕ) (s t : Vars) : Type 0 where
  pub own : (i : Instance) → nth b.instances k ≡ Some i → AgreeOn s t (own_components i)
  pub domains : (g : Name) → kind_in b g ≡ ByElement → HasOneDomain s t g

-- Two ends, on s and on t, are of one kind and print the same; and whatever component s and t agree on, the ends agree on: each
-- own component, and each one that was accessed.
abbrev pub SameEnd : Vars → Vars → Outcome Vars → Outcome Vars → Type 0
SameEnd s t (Next u ps) (Next v qs) = (ps ≡ qs) × ((c : Touched) → AgreeAt s t c → AgreeAt u v c)
SameEnd s t (Stuck i) (Stuck j) = i ≡ j
SameEnd s t Nowhere Nowhere = Unit {0}
SameEnd s t _ _ = ⊥

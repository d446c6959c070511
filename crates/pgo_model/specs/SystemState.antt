-- When a list of variables with values is a state of a system.
use Rattle.std.specs.Prelude.{◌≡◌, ℕ, IsTrue, map, Some, None, ◌⊎◌}
use Rattle.pgo_base.specs.Sets.{in_order}
use Rattle.pgo_base.specs.Lookup.{Name, Vars, find}
use Rattle.pgo_model.specs.Machine.{nth}
use Rattle.pgo_model.specs.State.{AllValues, is_shallow}
use Rattle.pgo_model.specs.System.{System, Member, Owned, Resource, ids_of}
use Rattle.pgo_model.specs.Variables.{IsFunctionOn, HasOneDomain}
use Rattle.pgo_model.specs.Written.{pc}

-- a member is bound to the global, or a resource is of it
abbrev pub IsShared : System → Name → Type 0
IsShared y g =
    ((k n : ℕ) × (i : Member) × (nth y.members k ≡ Some i) × (nth i.globals n ≡ Some g))
    ⊎ ((n : ℕ) × (r : Resource) × (nth y.resources n ≡ Some r) × (r.global ≡ g))

-- a shared global of which no resource is the whole: each of its elements is a resource, and there may be none. A global to
-- which a member is bound as a whole, but of which there is no resource, counts as one here; binding never gives such a global
pub record IsElementBound (y : System) (g : Name) : Type 0 where
  pub shared : IsShared y g
  pub elements : (n : ℕ) (r : Resource) → nth y.resources n ≡ Some r → r.global ≡ g → r.index ≡ None → ⊥

-- the variables are those of the start, each with one value of depth at most 256; `pc` is a function on all identifiers,
-- each variable of a process is one on the process's identifiers (the empty function where it has none), and each
-- element-bound global is one with the domain that it has in the start
pub record IsSystemState (y : System) (s : Vars) : Type 0 where
  pub variables : map (λ p. p.0) s ≡ map (λ p. p.0) y.start
  pub values : AllValues s
  pub shallow : IsTrue (is_shallow s)
  pub places : IsFunctionOn (in_order (ids_of y)) (find pc s)
  pub own : (n : ℕ) (o : Owned) → nth y.own n ≡ Some o → IsFunctionOn (in_order o.ids) (find o.variable s)
  pub domains : (g : Name) → IsElementBound y g → HasOneDomain y.start s g

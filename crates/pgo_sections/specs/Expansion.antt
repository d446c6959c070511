-- What the expansion of a label is, and which pairs of states it allows.
use Rattle.std.specs.Prelude.{◌≡◌, ℕ, true, false, if◌then◌else◌, List, ◌∷◌, Some, option_and_then, Contains, ◌⊎◌, Option}
use Rattle.pgo_base.specs.Data.{Data, boolean, string}
use Rattle.pgo_base.specs.Tree.{Tree}
use Rattle.pgo_base.specs.Lookup.{Name, Names, Vars, same_name, find}
use Rattle.pgo_model.specs.Operators.{members_of}
use Rattle.pgo_model.specs.Machine.{nth}
use Rattle.pgo_model.specs.Options.{on}
use Rattle.pgo_model.specs.Val.{Val, Defined}
use Rattle.pgo_model.specs.Written.{pc}
use Rattle.pgo_model.specs.Names.{is_among}
use Rattle.pgo_sections.specs.BoundValues.{bindable, put_part, value_put, value_under}

-- Expressions are in written names: a global `g`, a local or value parameter `P_v[self]`, and the made names that are bound
-- above. What follows a statement is its part.
mutual
  pub data Expansion : Type 0 where
    -- `with (x = e) rest`
    With : (x : Name) → (e : Tree) → (rest : Expansion) → Expansion
    -- `with (x \in e) rest`
    In : (x : Name) → (e : Tree) → (rest : Expansion) → Expansion
    -- a `skip`, or a macro's call, that is walked on the way: it is counted, and prints nothing
    Skip : (rest : Expansion) → Expansion
    Await : (e : Tree) → (rest : Expansion) → Expansion
    Assert : (e : Tree) → (rest : Expansion) → Expansion
    Print : (e : Tree) → (rest : Expansion) → Expansion
    If : (e : Tree) → (a b : Expansion) → Expansion
    -- the arms of an `either`, of which the text has at least two; none allow nothing
    Either : (arms : Expansions) → Expansion
    -- each changed variable is assigned once what its made name has, at `self` where it is a local, in the order of the
    -- variables; then goto
    End : (changes : List (Name × Name)) → (label : Name) → Expansion

  pub data Expansions : Type 0 where
    no_expansions : Expansions
    more_expansions : Expansion → Expansions → Expansions

-- where a path goes: the definitions that its expressions see, the variables, those of them that are assigned as a whole, and
-- the instance's identifier
pub record PathContext : Type 0 where
  pub defs : List Defined
  pub variables : List Name
  pub globals : List Name
  pub id : Data

-- what variable x of s is at the end: `pc` is the label at the identifier, a global its new value, another variable has its
-- new value at the identifier, and what is not assigned stays
abbrev pub value_at_end : PathContext → Names → List (Name × Name) → Name → Vars → Name → Option Data
value_at_end a names changes label s x =
    if same_name x pc then put_part a.id (find pc s) (Some (string label))
    else on (find x s) (find x changes) (λ y. value_put (is_among x a.globals) a.id (find x s) (value_under y names))

-- t is what the assignments make of s
abbrev pub EndsIn : PathContext → Names → List (Name × Name) → Name → Vars → Vars → Type 0
EndsIn a names changes label s t =
    (n : ℕ) (x : Name) → nth a.variables n ≡ Some x → find x t ≡ value_at_end a names changes label s x

-- an expression sees the names bound above and both states
abbrev pub value_on : PathContext → Tree → Names → Vars → Vars → Option Data
value_on a e names s t = Val a.defs e names s (Some t)

abbrev mutual
  -- some path leads from s to t: each bound name has one value, `await` and `assert` are TRUE, what is printed has a value
  pub Path : PathContext → Expansion → Names → Vars → Vars → Type 0
  Path a (With x e rest) names s t = (v : Data) × (bindable (value_on a e names s t) ≡ Some v) × Path a rest ((x, Some v) ∷ names) s t
  Path a (In x e rest) names s t =
      (v : Data) × (ms : List Data) × (option_and_then members_of (value_on a e names s t) ≡ Some ms) × Contains ms v
      × Path a rest ((x, Some v) ∷ names) s t
  Path a (Skip rest) names s t = Path a rest names s t
  Path a (Await e rest) names s t = (value_on a e names s t ≡ Some (boolean true)) × Path a rest names s t
  Path a (Assert e rest) names s t = (value_on a e names s t ≡ Some (boolean true)) × Path a rest names s t
  Path a (Print e rest) names s t = (v : Data) × (value_on a e names s t ≡ Some v) × Path a rest names s t
  Path a (If e x y) names s t =
      ((value_on a e names s t ≡ Some (boolean true)) × Path a x names s t)
      ⊎ ((value_on a e names s t ≡ Some (boolean false)) × Path a y names s t)
  Path a (Either arms) names s t = SomePath a arms names s t
  Path a (End changes label) names s t = EndsIn a names changes label s t

  pub SomePath : PathContext → Expansions → Names → Vars → Vars → Type 0
  SomePath a no_expansions names s t = ⊥
  SomePath a (more_expansions x xs) names s t = Path a x names s t ⊎ SomePath a xs names s t

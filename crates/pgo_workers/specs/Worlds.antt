-- What a board has to know of a bound specification: its start, its resources, who runs, and what belongs to whom. The states
-- are lists of variables with values, and what an entry records are the components that changed.
use Rattle.std.specs.Prelude.{◌≡◌, ℕ, Bool, true, false, not, ◌&&◌, if◌then◌else◌, nat_eq, nat_le, nat_lt, List, [], ◌∷◌, ◌++◌, map, length, Option, Some, None, unwrap_or}
use Rattle.pgo_base.specs.Data.{Data, boolean}
use Rattle.pgo_base.specs.Lookup.{Name, Vars, same_name, find}
use Rattle.pgo_model.specs.Core.{same_index}
use Rattle.pgo_model.specs.Log.{OfResource, OfInstance, Unowned, Component, Change, Effect, After, content, differs, is_in, label_in, own_names}
use Rattle.pgo_model.specs.Machine.{nth}
use Rattle.pgo_model.specs.Names.{is_among}
use Rattle.pgo_model.specs.Operators.{same_data}
use Rattle.pgo_model.specs.Options.{on}
use Rattle.pgo_model.specs.System.{System, Resource, Owned, ids_of}
use Rattle.pgo_model.specs.Written.{pc}
use Rattle.pgo_sections.specs.PlainTest.{distinct_names}
use Rattle.pgo_workers.specs.Walk.{At, Own}
use Rattle.pgo_workers.specs.View.{World}
use Rattle.pgo_workers.specs.Worker as worker

-- identifiers stand at the numbers of their instances, and resources at their own
pub record Layout : Type 0 where
  pub start : Vars
  pub resources : List Resource
  pub ids : List Data
  pub own : List Owned

abbrev pub layout_of : System → Layout
layout_of y = record { start = y.start; resources = y.resources; ids = ids_of y; own = y.own }

-- what stands for a component that a state doesn't have; each state has all
abbrev pub or_nothing : Option Data → Data
or_nothing None = boolean false
or_nothing (Some v) = v

-- ---- components

abbrev pub component_of : ℕ → Option Resource → Component
component_of n None = record { variable = []; index = None; owner = OfResource n }
component_of n (Some r) = record { variable = r.global; index = r.index; owner = OfResource n }

-- the component of the resource with this number
abbrev pub component_at : List Resource → ℕ → Component
component_at rs n = component_of n (nth rs n)

-- a variable of instance k, at its identifier
abbrev pub own_component : ℕ → Data → Name → Component
own_component k id x = record { variable = x; index = Some id; owner = OfInstance k }

-- the names of an instance's own components: `pc`, and the variables of its process
abbrev pub names_at : Layout → Option Data → List Name
names_at y None = []
names_at y (Some id) = pc ∷ own_names id y.own

abbrev pub names_of : Layout → ℕ → List Name
names_of y k = names_at y (nth y.ids k)

abbrev pub own_at : ℕ → Data → List Name → Vars → Own
own_at k id [] s = []
own_at k id (x ∷ xs) s = (x, or_nothing (content (own_component k id x) s)) ∷ own_at k id xs s

abbrev pub own_in : Layout → Vars → ℕ → Own
own_in y s k = on [] (nth y.ids k) (λ id. own_at k id (names_at y (Some id)) s)

abbrev pub value_in : Layout → Vars → ℕ → Data
value_in y s r = or_nothing (content (component_at y.resources r) s)

-- ---- what an entry records

-- the last change of a variable that belongs to an instance
abbrev pub own_change : Name → List Change → Option Data
own_change x [] = None
own_change x (c ∷ cs) =
    on (elim c.component.owner as (λ o. Option Data) [ OfResource n ↦ None | OfInstance n ↦ if same_name x c.component.variable then Some c.value else None | Unowned ↦ None ])
    (own_change x cs) (λ v. Some v)

-- the own components behind an entry of the instance's own
abbrev pub own_behind : Own → Effect → Own
own_behind o e = map (λ p. (p.0, on p.1 (own_change p.0 e.changes) (λ v. v))) o

-- the changes of resources
abbrev pub resource_changes : List Change → List At
resource_changes [] = []
resource_changes (c ∷ cs) = elim c.component.owner as (λ o. List At) [ OfResource n ↦ (n, c.value) ∷ resource_changes cs | OfInstance n ↦ resource_changes cs | Unowned ↦ resource_changes cs ]

abbrev pub same_component : Component → Component → Bool
same_component c d = same_name c.variable d.variable && same_index c.index d.index

abbrev pub is_component_among : Component → List Component → Bool
is_component_among c [] = false
is_component_among c (d ∷ ds) = if same_component c d then true else is_component_among c ds

-- the component is the resource's that it says, or one of instance k's own
abbrev pub is_component_of : Layout → ℕ → Component → Bool
is_component_of y k c =
    elim c.owner as (λ o. Bool) [
      | OfResource n ↦ nat_lt n (length y.resources) && same_component c (component_at y.resources n)
      | OfInstance j ↦ nat_eq j k && is_among c.variable (names_of y k) && same_index c.index (nth y.ids k)
      | Unowned ↦ false
    ]

abbrev pub are_components_of : Layout → ℕ → List Change → Bool
are_components_of y k [] = true
are_components_of y k (c ∷ cs) = if is_component_among c.component (map (λ d. d.component) cs) then false else is_component_of y k c.component && are_components_of y k cs

abbrev pub world_of : Layout → World Vars Effect
world_of y = record {
  start = y.start;
  patched = λ s e. unwrap_or (After s e) s;
  printed = λ e. e.prints;
  value = value_in y;
  own = own_in y;
  owned = own_behind;
  changes = λ e. resource_changes e.changes;
  instances = length y.ids;
  names = names_of y;
  is_resource = λ r. nat_lt r (length y.resources);
  is_of = λ k e. are_components_of y k e.changes;
}

-- ---- what is asked of a layout and its states

-- there are two indices, and they differ
abbrev pub are_other : Option Data → Option Data → Bool
are_other None None = false
are_other None (Some j) = false
are_other (Some i) None = false
are_other (Some i) (Some j) = not (same_data i j)

-- instances have identifiers that differ, and so have the own components of each; two resources are of one global only where
-- both have an index and the indices differ; and none is of a variable that belongs to instances
pub record IsLayout (y : Layout) : Type 0 where
  pub identifiers_differ : (j k : ℕ) (v : Data) → nth y.ids j ≡ Some v → nth y.ids k ≡ Some v → j ≡ k
  pub names_differ : (k : ℕ) → distinct_names (names_of y k) ≡ true
  pub resources_differ : (m n : ℕ) (q r : Resource) → nth y.resources m ≡ Some q → nth y.resources n ≡ Some r → (m ≡ n → ⊥) → q.global ≡ r.global → are_other q.index r.index ≡ true
  pub none_own : (n k : ℕ) (r : Resource) → nth y.resources n ≡ Some r → is_among r.global (names_of y k) ≡ false

-- each component of a resource or of an instance is in the state
pub record HasAll (y : Layout) (s : Vars) : Type 0 where
  pub resources : (n : ℕ) (r : Resource) → nth y.resources n ≡ Some r → is_in (component_at y.resources n) s ≡ true
  pub own : (k : ℕ) (id : Data) (x : Name) → nth y.ids k ≡ Some id → is_among x (names_of y k) ≡ true → is_in (own_component k id x) s ≡ true

-- ---- the entry that a worker makes

-- a change before the first one of a greater resource
abbrev pub put_in_order : ℕ × Data → List At → List At
put_in_order c [] = c ∷ []
put_in_order c (d ∷ ds) = if nat_le c.0 d.0 then c ∷ (d ∷ ds) else d ∷ put_in_order c ds

-- the held resources that changed, in the order of their numbers
abbrev pub changed_resources : List worker.Change → List At
changed_resources [] = []
changed_resources (c ∷ cs) = if differs (Some c.before) (Some c.after) then put_in_order (c.resource, c.after) (changed_resources cs) else changed_resources cs

abbrev pub resource_change : Layout → At → Change
resource_change y c = record { component = component_at y.resources c.0; value = c.1 }

-- the own components that changed, in order
abbrev pub changed_own : ℕ → Data → Own → Own → List Change
changed_own k id [] next = []
changed_own k id (p ∷ ps) next =
    on (changed_own k id ps next) (find p.0 next) (λ v.
    if differs (Some p.1) (Some v) then record { component = own_component k id p.0; value = v } ∷ changed_own k id ps next else changed_own k id ps next)

-- the written label at which own components stand
abbrev pub label_at : Own → Name
label_at o = label_in (find pc o)

abbrev pub effect_of : Layout → ℕ → Own → Own → List worker.Change → List Data → Effect
effect_of y k own next cs ps = record {
  label = label_at own;
  next = label_at next;
  changes = map (resource_change y) (changed_resources cs) ++ on [] (nth y.ids k) (λ id. changed_own k id own next);
  prints = ps;
}

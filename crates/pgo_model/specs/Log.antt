-- Components, what an entry records, and the states along a journal.
use Rattle.std.specs.Prelude.{ℕ, zero, suc, Bool, true, false, not, ◌&&◌, if◌then◌else◌, List, [], ◌∷◌, ◌++◌, Option, Some, None, option_and_then, option_map, is_some}
use Rattle.pgo_base.specs.Data.{Data, string, function, pairs, graph}
use Rattle.pgo_base.specs.Lookup.{Name, Vars, find}
use Rattle.pgo_model.specs.Operators.{same_data, contains, apply, lookup, replace_at}
use Rattle.pgo_model.specs.System.{System, Member, Owned, Resource}
use Rattle.pgo_model.specs.Variables.{place_of, store}
use Rattle.pgo_model.specs.Written.{pc}
use Rattle.pgo_model.specs.Options.{on}
use Rattle.pgo_model.specs.Machine.{Entry, nth}

-- whose a component is
pub data Owner : Type 0 where
  OfResource : (number : ℕ) → Owner
  OfInstance : (number : ℕ) → Owner
  Unowned : Owner

-- a variable, or its value at one index
pub record Component : Type 0 where
  pub variable : Name
  pub index : Option Data
  pub owner : Owner

pub record Change : Type 0 where
  pub component : Component
  pub value : Data

-- what an entry records of a step: the labels, the components that changed with their new values, and what was printed
pub record Effect : Type 0 where
  pub label : Name
  pub next : Name
  pub changes : List Change
  pub prints : List Data

-- a log: the identifiers of the instances by number, the state before the first entry, and the entries
pub record Log : Type 0 where
  pub ids : List Data
  pub start : Vars
  pub entries : List (Entry Effect)

-- what a component has in a state
abbrev pub content : Component → Vars → Option Data
content c s = option_and_then (λ v. on (Some v) c.index (λ i. apply v i)) (find c.variable s)

abbrev pub differs : Option Data → Option Data → Bool
differs None None = false
differs None (Some v) = true
differs (Some v) None = true
differs (Some v) (Some w) = not (same_data v w)

-- the components of a system: the resources by number, and then what belongs to each instance, by number: its part of `pc`
-- and of each variable of its process
abbrev pub resource_components : List Resource → List Component
resource_components [] = []
resource_components (r ∷ rs) = record { variable = r.global; index = r.index; owner = OfResource r.number } ∷ resource_components rs

abbrev pub parts_at : ℕ → Data → List Name → List Component
parts_at k id [] = []
parts_at k id (x ∷ xs) = record { variable = x; index = Some id; owner = OfInstance k } ∷ parts_at k id xs

-- the variables of which the process has this identifier
abbrev pub own_names : Data → List Owned → List Name
own_names id [] = []
own_names id (o ∷ os) = if contains id o.ids then o.variable ∷ own_names id os else own_names id os

abbrev pub own_components : List Owned → ℕ → List Member → List Component
own_components os k [] = []
own_components os k (i ∷ is) = parts_at k i.id (pc ∷ own_names i.id os) ++ own_components os (suc k) is

abbrev pub components_of : System → List Component
components_of y = resource_components y.resources ++ own_components y.own 0 y.members

-- the components that differ, with their values in t
abbrev pub changes_between : List Component → Vars → Vars → List Change
changes_between [] s t = []
changes_between (c ∷ cs) s t =
    on (changes_between cs s t) (content c t) (λ v.
    if differs (content c s) (content c t) then record { component = c; value = v } ∷ changes_between cs s t else changes_between cs s t)

-- the written label at which an instance stands
abbrev pub label_in : Option Data → Name
label_in (Some (string l)) = l
label_in _ = []

abbrev pub label_of : System → ℕ → Vars → Name
label_of y k s = on [] (nth y.members k) (λ i. label_in (place_of i.id s))

abbrev pub effect_between : System → ℕ → Vars → Vars → List Data → Effect
effect_between y k s t ps =
    record { label = label_of y k s; next = label_of y k t; changes = changes_between (components_of y) s t; prints = ps }

-- a function with another value at an index in its domain
abbrev pub with_part : Data → Data → Data → Option Data
with_part (function ps) i v = option_map (λ old. function (pairs (replace_at i v (graph ps)))) (lookup i (graph ps))
with_part f i v = None

-- the state with one component changed, where the component is in it
abbrev pub changed : Change → Vars → Option Vars
changed c s =
    option_and_then (λ old.
    on (Some (store c.component.variable c.value s)) c.component.index (λ i.
    option_map (λ f. store c.component.variable f s) (with_part old i c.value)))
    (find c.component.variable s)

-- the state after an entry's changes; none where a changed component isn't in it
abbrev pub after_changes : List Change → Vars → Option Vars
after_changes [] s = Some s
after_changes (c ∷ cs) s = option_and_then (after_changes cs) (changed c s)

-- whether a component is in a state
abbrev pub is_in : Component → Vars → Bool
is_in c s = is_some (content c s)

-- whether each changed component is in a state
abbrev pub are_in : List Change → Vars → Bool
are_in [] s = true
are_in (c ∷ cs) s = is_in c.component s && are_in cs s

-- the state after an entry: none where a changed component isn't in the state before it; of changes of one component the last holds
abbrev pub After : Vars → Effect → Option Vars
After s e = if are_in e.changes s then after_changes e.changes s else None

-- the state after the first n entries
abbrev pub StateAt : Vars → List (Entry Effect) → ℕ → Option Vars
StateAt s l zero = Some s
StateAt s [] (suc n) = None
StateAt s (e ∷ l) (suc n) = option_and_then (λ t. StateAt t l n) (After s e.change)

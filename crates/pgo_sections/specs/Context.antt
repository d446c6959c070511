-- Where code runs, and what its expressions see there.
use Rattle.std.specs.Prelude.{Bool, true, false, if◌then◌else◌, List, [], ◌∷◌, ◌++◌, Option, Some, None, option_map, option_and_then}
use Rattle.pgo_base.specs.Data.{Data}
use Rattle.pgo_base.specs.Lookup.{Name, Names, Vars, find}
use Rattle.pgo_base.specs.Tree.{Tree}
use Rattle.pgo_model.specs.Operators.{apply}
use Rattle.pgo_model.specs.Options.{on}
use Rattle.pgo_model.specs.Val.{Meaning, val}
use Rattle.pgo_model.specs.Written.{self_name}
use Rattle.pgo_sections.specs.Code.{Place, Whole, Own, variable_of, content_name, content_places}
use Rattle.pgo_sections.specs.BoundValues.{bindable, value_under, put_part}

-- the state in which the section began; the instance's identifier; what the names of its variables stand for; the globals, and
-- the instance's own variables, of which it has the part at its identifier; the definitions; and which globals are bound by
-- element
pub record Context : Type 0 where
  pub start : Vars
  pub id : Data
  pub places : List (Name × Place)
  pub globals : List Name
  pub owns : List Name
  pub defs : List Meaning
  pub by_element : Name → Bool

-- a mapping macro's block has its content alone, which is its first change
abbrev pub block_context : List Meaning → Data → Context
block_context defs id = record {
  start = [];
  id = id;
  places = content_places;
  globals = content_name ∷ [];
  owns = [];
  defs = defs;
  by_element = λ g. false;
}

-- ---- variables. Changes: each variable that changed with its value, at the identifier where it is the instance's own, the
-- newest first

-- f[i] of a variable f
abbrev pub part_at : Name → Data → Vars → Option Data
part_at x i s = option_and_then (λ f. apply f i) (find x s)

-- what a place had at the start
abbrev pub value_before : Context → Place → Option Data
value_before k (Whole x) = find x k.start
value_before k (Own x) = part_at x k.id k.start

-- what it has after these changes
abbrev pub value_now : Context → Place → Vars → Option Data
value_now k p ch = on (value_before k p) (find (variable_of p) ch) (λ v. Some v)

-- ---- the content that a mapping macro works on

-- what a mapped parameter has: the global, or its element
abbrev pub content : Context → Name → Option Data → Vars → Option Data
content k g None ch = value_now k (Whole g) ch
content k g (Some i) ch = option_and_then (λ f. apply f i) (value_now k (Whole g) ch)

-- the global's value with another content
abbrev pub with_content : Context → Name → Option Data → Option Data → Vars → Option Data
with_content k g None v ch = v
with_content k g (Some i) v ch = put_part i (value_now k (Whole g) ch) v

-- the changes, and the global with another content
abbrev pub put_content : Context → Name → Option Data → Option Data → Vars → Option Vars
put_content k g j v ch = option_map (λ w. (g, w) ∷ ch) (bindable (with_content k g j v ch))

-- the same, where there is a new content
abbrev pub put_new : Context → Name → Option Data → Option Data → Vars → Option Vars
put_new k g j None ch = Some ch
put_new k g j (Some v) ch = put_content k g j (Some v) ch

-- the changes of a block that begins with this content
abbrev pub content_state : Data → Vars
content_state old = (content_name, old) ∷ []

-- a block's first change is the content that it began with
abbrev pub is_assigned : {A : Type 0} → List A → Bool
is_assigned [] = false
is_assigned (p ∷ []) = false
is_assigned (p ∷ q ∷ rest) = true

-- the new content of a block that ended with these changes, which there is where it assigned it
abbrev pub new_content : Vars → Option (Option Data)
new_content ch = if is_assigned ch then option_map (λ v. Some v) (find content_name ch) else Some None

-- ---- expressions

-- each variable by its name, with its value now, and `self`
abbrev pub view : Context → List (Name × Place) → Vars → Names
view k [] ch = (self_name, Some k.id) ∷ []
view k (p ∷ ps) ch = (p.0, value_now k p.1 ch) ∷ view k ps ch

-- an expression sees the names bound around it, the variables by their names, and no state
abbrev pub value_of : Context → Tree → Names → Vars → Option Data
value_of k e env ch = val e (record { names = env ++ view k k.places ch; part = None; now = []; next = None; defs = k.defs })

-- the value of the index that stands under a name, where there is one
abbrev pub index_value : Option Name → Names → Option (Option Data)
index_value None env = Some None
index_value (Some i) env = option_map (λ v. Some v) (value_under i env)

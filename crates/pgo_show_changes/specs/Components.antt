-- Components by their texts: `x`, a variable, and `x[index]`, its value at an index.
use Rattle.std.specs.Prelude.{Bool, ◌||◌, if◌then◌else◌, List, [], ◌∷◌, ◌++◌, ℕ, codes, Option, Some, None}
use Rattle.pgo_base.specs.Data.{Data, function, graph}
use Rattle.pgo_base.specs.Lookup.{Name, Vars, same_name, or_that}
use Rattle.pgo_model.specs.Bundle.{indexed_text}
use Rattle.pgo_model.specs.Log.{Component}
use Rattle.pgo_model.specs.ValueText.{same_bytes}
use Rattle.pgo_value_text.specs.Reading.{begins}

-- ---- in a state

-- the values of a function at its indices
abbrev pub parts : Data → List (Data × Data)
parts (function ps) = graph ps
parts v = []

-- the value at the index with which a variable has this text
abbrev pub part_value : (word : List ℕ) → Name → List (Data × Data) → Option Data
part_value w x [] = None
part_value w x (p ∷ ps) = if same_bytes w (indexed_text x (Some p.0)) then Some p.1 else part_value w x ps

-- the value of a variable, or at one of its indices, that has this text
abbrev pub value_in : (word : List ℕ) → Name → Data → Option Data
value_in w x v = if same_name w x then Some v else part_value w x (parts v)

-- the value of the component that has this text; none, where the state has no such component
abbrev pub content_of : (word : List ℕ) → Vars → Option Data
content_of w [] = None
content_of w (v ∷ vs) = or_that (value_in w v.0 v.1) (content_of w vs)

-- ---- in an entry

-- a variable as a whole: what stands before its index; one at an index: its text
abbrev pub concerns_at : (word : List ℕ) → Name → Option Data → Bool
concerns_at w x None = begins (x ++ codes "[") w
concerns_at w x (Some i) = same_bytes w (indexed_text x (Some i))

-- a change of this component is one of the component that has this text, of a part of it, or of the whole of which it is a part
abbrev pub concerns : (word : List ℕ) → Component → Bool
concerns w c = same_name w c.variable || concerns_at w c.variable c.index

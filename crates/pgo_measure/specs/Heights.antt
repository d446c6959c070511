-- How high an expansion is in the module.
use Rattle.std.specs.Prelude.{ℕ, suc, max, Bool, true, false, if◌then◌else◌, List, [], ◌∷◌, min, Option, Some, None, option_map}
use Rattle.pgo_base.specs.Lookup.{Name, same_name, find}
use Rattle.pgo_model.specs.Options.{on}
use Rattle.pgo_model.specs.Written.{pc}
use Rattle.pgo_expr_read.specs.Heights.{height}
use Rattle.pgo_model.specs.Names.{is_among}
use Rattle.pgo_sections.specs.Expansion.{Expansion, With, In, Skip, Await, Assert, Print, If, Either, End, Expansions, no_expansions, more_expansions}

-- of a conjunction with one more item behind those so far
abbrev pub join : Option ℕ → ℕ → ℕ
join None h = h
join (Some a) h = suc (max a h)

-- of a conjunction of these items behind those so far; no item is TRUE
abbrev pub all_joined : Option ℕ → List ℕ → ℕ
all_joined None [] = 1
all_joined (Some a) [] = a
all_joined a (h ∷ hs) = all_joined (Some (join a h)) hs

-- `x' = y`, and `x' = [x EXCEPT ![self] = y]`
abbrev pub global_change : ℕ
global_change = 2

abbrev pub own_change : ℕ
own_change = 3

-- `pc' = [pc EXCEPT ![self] = l]`
abbrev pub place_change : ℕ
place_change = 3

-- `pc[self] = l`, with which an action begins
abbrev pub place_test : ℕ
place_test = 3

-- UNCHANGED
abbrev pub kept_height : ℕ
kept_height = 1

-- the most that a height is told apart: what is higher is as high as this
abbrev pub most_height : ℕ
most_height = 513

abbrev pub capped : ℕ → ℕ
capped h = min most_height h

-- globals: the variables that are assigned as a whole
module _ (globals : List Name) where
  abbrev pub assigned_height : Name → ℕ
  assigned_height x = if is_among x globals then global_change else own_change

  -- of the assignment of x, if it has one
  abbrev pub change_height : List (Name × Name) → Name → Option ℕ
  change_height changes x = if same_name x pc then Some place_change else option_map (λ y. assigned_height x) (find x changes)

  -- one item for each assignment, in the order of the variables, and then UNCHANGED of the others, if there are others
  abbrev pub items_of : List (Name × Name) → Bool → List Name → List ℕ
  items_of changes kept [] = if kept then kept_height ∷ [] else []
  items_of changes kept (x ∷ xs) = on (items_of changes true xs) (change_height changes x) (λ h. h ∷ items_of changes kept xs)

  abbrev pub end_height : List Name → Option ℕ → List (Name × Name) → ℕ
  end_height variables a changes = all_joined a (items_of changes false variables)

-- variables: in their order
module _ (variables globals : List Name) where
  abbrev mutual
    -- the action of an expansion: a conjunction from the left, of which a items stand before it
    pub action_height : Option ℕ → Expansion → ℕ
    action_height a (With x e rest) = join a (suc (max (suc (height e)) (action_height None rest)))
    action_height a (In x e rest) = join a (suc (max (height e) (action_height None rest)))
    action_height a (Skip rest) = action_height a rest
    action_height a (Await e rest) = action_height (Some (join a (height e))) rest
    action_height a (Assert e rest) = action_height (Some (join a (suc (max (height e) 1)))) rest
    action_height a (Print e rest) = action_height (Some (join a (suc (height e)))) rest
    action_height a (If e x y) = join a (suc (max (height e) (max (action_height None x) (action_height None y))))
    action_height a (Either arms) = join a (either_height None arms)
    action_height a (End changes label) = end_height globals variables a changes

    -- a disjunction from the left, of which h is the height of the arms so far; no arm is FALSE
    pub either_height : Option ℕ → Expansions → ℕ
    either_height None no_expansions = 1
    either_height (Some h) no_expansions = h
    either_height before (more_expansions x xs) = either_height (Some (join before (action_height None x))) xs

  -- a label's action: the test of its place comes first
  abbrev pub label_height : Expansion → ℕ
  label_height x = action_height (Some place_test) x

-- The items of a label's action: what its tree says of a state and the next, in the order of the tree. Source: the
-- translation of A PlusCal User's Manual, with the values of a section bound to made names.
use Rattle.std.specs.Prelude.{Bool, true, false, if◌then◌else◌, List, [], ◌∷◌, ◌++◌, codes, Option, Some, None}
use Rattle.pgo_base.specs.declared.expr.Infix.TheVariants as infixs
use Rattle.pgo_base.specs.declared.expr.Quantifier.TheVariants as quantifiers
use Rattle.pgo_base.specs.Tree.{Tree, name, primed, text, binary, cond_of, quantified, set_of, except, call, unchanged, trees, bound, paths}
use Rattle.pgo_base.specs.Lookup.{Name, same_name, find}
use Rattle.pgo_model.specs.Module.{all_of, any_of, stands_at}
use Rattle.pgo_model.specs.Sequences.{assert_name}
use Rattle.pgo_model.specs.Written.{pc, self_name}
use Rattle.pgo_sections.specs.Expansion.{Expansion, With, In, Skip, Await, Assert, Print, If, Either, End, Expansions, no_expansions, more_expansions}
use Rattle.pgo_model.specs.Names.{is_among}

-- x = e and x' = e
abbrev pub equals : Tree → Tree → Tree
equals a b = binary infixs.Equal a b

-- [x EXCEPT ![self] = e]
abbrev pub at_self : Name → Tree → Tree
at_self x e = except (name x) (paths ((name self_name ∷ [], e) ∷ []))

-- \E x \in r : p
abbrev pub some_in : Name → Tree → Tree → Tree
some_in x r p = quantified quantifiers.Exists (bound ((x ∷ [], r) ∷ [])) p

-- {e}
abbrev pub only : Tree → Tree
only e = set_of (trees (e ∷ []))

-- Assert(e, "assert")
abbrev pub asserts : Tree → Tree
asserts e = call assert_name (trees (e ∷ text (codes "assert") ∷ []))

-- PrintT(e)
abbrev pub prints : Tree → Tree
prints e = call (codes "PrintT") (trees (e ∷ []))

-- vars are the module's variables in order; those that are no globals are functions over identifiers
module _ (vars globals : List Name) where
  -- what a changed variable becomes
  abbrev pub new_value : Name → Tree → Tree
  new_value x e = if is_among x globals then e else at_self x e

  abbrev pub assigned_to : Name → Option Name → List Tree
  assigned_to x None = []
  assigned_to x (Some y) = equals (primed x) (new_value x (name y)) ∷ []

  -- x' = .. for a variable that changed; pc' = [pc EXCEPT ![self] = "l"]
  abbrev pub assigned : List (Name × Name) → Name → Name → List Tree
  assigned changes l x =
      if same_name x pc then equals (primed pc) (at_self pc (text l)) ∷ [] else assigned_to x (find x changes)

  -- the end's assignments in the order of the variables
  abbrev pub assignments : List (Name × Name) → Name → List Name → List Tree
  assignments changes l [] = []
  assignments changes l (x ∷ xs) = assigned changes l x ++ assignments changes l xs

  abbrev pub is_missing : Option Name → Bool
  is_missing None = true
  is_missing (Some y) = false

  abbrev pub stays : List (Name × Name) → Name → Bool
  stays changes x = if same_name x pc then false else is_missing (find x changes)

  abbrev pub staying : List (Name × Name) → List Name → List Name
  staying changes [] = []
  staying changes (x ∷ xs) = if stays changes x then x ∷ staying changes xs else staying changes xs

  -- UNCHANGED of these, left out where there is none
  abbrev pub unless_none : List Name → List Tree
  unless_none [] = []
  unless_none (x ∷ xs) = unchanged (x ∷ xs) ∷ []

  abbrev mutual
    -- what follows a choice of a value stands inside it; what follows a test beside it
    pub items : Expansion → List Tree
    items (With x e rest) = some_in x (only e) (all_of (items rest)) ∷ []
    items (In x e rest) = some_in x e (all_of (items rest)) ∷ []
    items (Skip rest) = items rest
    items (Await e rest) = e ∷ items rest
    items (Assert e rest) = asserts e ∷ items rest
    items (Print e rest) = prints e ∷ items rest
    items (If e a b) = cond_of e (all_of (items a)) (all_of (items b)) ∷ []
    items (Either arms) = any_of (arm_trees arms) ∷ []
    items (End changes l) = assignments changes l vars ++ unless_none (staying changes vars)

    -- what each arm says
    pub arm_trees : Expansions → List Tree
    arm_trees no_expansions = []
    arm_trees (more_expansions a rest) = all_of (items a) ∷ arm_trees rest

  -- a label's action: the instance stands there, and then the items
  abbrev pub action_body : Name → Expansion → Tree
  action_body l x = all_of (stands_at l ∷ items x)

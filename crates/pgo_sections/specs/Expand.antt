-- The expansion of a section: the values of its statements bound to made names in the order of its effects, what follows a
-- branch copied into each of its arms, and at the end one assignment of each variable that changed, in the order of the variables.
use Rattle.std.specs.Prelude.{ℕ, suc, Bool, true, false, if◌then◌else◌, List, [], ◌∷◌, Option, Some, None, unwrap_or, option_map, filter_map}
use Rattle.pgo_base.specs.Lookup.{Name, find}
use Rattle.pgo_base.specs.Tree.{Tree, name, index, except, trees, no_paths, more_paths}
use Rattle.pgo_model.specs.Options.{on}
use Rattle.pgo_model.specs.Written.{self_name, made}
use Rattle.pgo_sections.specs.Code.{Place, Whole, Own, variable_of, Code, Empty, Skip, Let, Pick, Become, Set, Await, Assert, Print, If, Either, Seq, Goto, Yield, Read, Write, Codes, no_codes, more_codes, content_name, content_places, value_name, old_base, val_base, new_base}
use Rattle.pgo_sections.specs.Context.{is_assigned}
use Rattle.pgo_model.specs.Names.{is_among}
use Rattle.pgo_sections.specs.Expansion.{Expansion, With, In, Skip as ESkip, Await as EAwait, Assert as EAssert, Print as EPrint, If as EIf, Either as EEither, End, Expansions, no_expansions, more_expansions}
use Rattle.pgo_sections.specs.Replaced.{replaced}

-- each name that the code binds, with its made name; the newest first
abbrev pub Renames : Type 0
Renames = List (Name × Name)

-- each variable that changed, with the made name of its current value, at `self` where it is a local; the newest first
abbrev pub Current : Type 0
Current = List (Name × Name)

-- a place that has not changed
abbrev pub untouched : Place → Tree
untouched (Whole x) = name x
untouched (Own x) = index (name x) (trees (name self_name ∷ []))

-- a place's current expression
abbrev pub current : Current → Place → Tree
current cur p = on (untouched p) (find (variable_of p) cur) (λ y. name y)

abbrev pub placed : Current → Name → Option Place → Tree
placed cur x None = name x
placed cur x (Some p) = current cur p

abbrev pub named : List (Name × Place) → Current → Name → Option Name → Tree
named places cur x None = placed cur x (find x places)
named places cur x (Some y) = name y

-- a name that the code binds becomes its made name, and a variable its current expression
abbrev pub current_name : List (Name × Place) → Renames → Current → List Name → Name → Tree
current_name places ren cur under x = if is_among x under then name x else named places cur x (find x ren)

abbrev pub current_tree : List (Name × Place) → Renames → Current → Tree → Tree
current_tree places ren cur e = replaced (current_name places ren cur) [] e

-- the made name of a name that the code binds
abbrev pub made_name : Renames → Name → Name
made_name ren w = unwrap_or (find w ren) w

-- g, or its element at what i stands for, in current expressions
abbrev pub content_tree : Renames → Current → Name → Option Name → Tree
content_tree ren cur g None = current cur (Whole g)
content_tree ren cur g (Some i) = index (current cur (Whole g)) (trees (name (made_name ren i) ∷ []))

-- g with e as its new content
abbrev pub content_put : Renames → Current → Name → Option Name → Tree → Tree
content_put ren cur g None e = e
content_put ren cur g (Some i) e =
    except (current cur (Whole g)) (more_paths (trees (name (made_name ren i) ∷ [])) e no_paths)

abbrev pub becoming : Place → Option Name → Current → Current
becoming p None cur = cur
becoming p (Some y) cur = (variable_of p, y) ∷ cur

-- a block's content, at first under this made name
abbrev pub content_now : Name → Current
content_now old = (content_name, old) ∷ []

abbrev pub value_handed : Option Name → Renames
value_handed None = []
value_handed (Some y) = (value_name, y) ∷ []

-- the three ways on: behind the code, at a jump, at a yield; n names are bound above
abbrev pub OnGo : Type 0
OnGo = Current → ℕ → Expansion

abbrev pub OnJump : Type 0
OnJump = Name → Current → ℕ → Expansion

abbrev pub OnYield : Type 0
OnYield = Tree → Current → ℕ → Expansion

-- no step
abbrev pub nowhere : Expansion
nowhere = EEither no_expansions

abbrev pub no_go : OnGo
no_go cur n = nowhere

abbrev pub no_jump : OnJump
no_jump l cur n = nowhere

abbrev pub no_yield : OnYield
no_yield e cur n = nowhere

-- the new content is bound under g's name
abbrev pub put_back : Renames → Current → Name → Option Name → Tree → ℕ → OnGo → Expansion
put_back ren cur g i e n k = With (made g (suc n)) (content_put ren cur g i e) (k ((g, made g (suc n)) ∷ cur) (suc n))

-- only where the block assigned it
abbrev pub left_behind : Bool → Renames → Current → Name → Option Name → Tree → ℕ → OnGo → Expansion
left_behind false ren cur g i e n k = k cur n
left_behind true ren cur g i e n k = put_back ren cur g i e n k

abbrev mutual
  pub expand : List (Name × Place) → Code → Renames → Current → ℕ → OnGo → OnJump → OnYield → Expansion
  expand ps Empty ren cur n k j y = k cur n
  expand ps Skip ren cur n k j y = ESkip (k cur n)
  expand ps (Let b w e c) ren cur n k j y =
      With (made b (suc n)) (current_tree ps ren cur e) (expand ps c ((w, made b (suc n)) ∷ ren) cur (suc n) k j y)
  expand ps (Pick b w e c) ren cur n k j y =
      In (made b (suc n)) (current_tree ps ren cur e) (expand ps c ((w, made b (suc n)) ∷ ren) cur (suc n) k j y)
  expand ps (Become p w) ren cur n k j y = k (becoming p (find w ren) cur) n
  expand ps (Set b p e) ren cur n k j y =
      With (made b (suc n)) (current_tree ps ren cur e) (k ((variable_of p, made b (suc n)) ∷ cur) (suc n))
  expand ps (Await e) ren cur n k j y = EAwait (current_tree ps ren cur e) (k cur n)
  expand ps (Assert e) ren cur n k j y = EAssert (current_tree ps ren cur e) (k cur n)
  expand ps (Print e) ren cur n k j y = EPrint (current_tree ps ren cur e) (k cur n)
  expand ps (If e a b) ren cur n k j y =
      EIf (current_tree ps ren cur e) (expand ps a ren cur n k j y) (expand ps b ren cur n k j y)
  expand ps (Either cs) ren cur n k j y = EEither (expand_arms ps cs ren cur n k j y)
  expand ps (Seq a b) ren cur n k j y = expand ps a ren cur n (λ cur' n'. expand ps b ren cur' n' k j y) j y
  expand ps (Goto l) ren cur n k j y = j l cur n
  expand ps (Yield e) ren cur n k j y = y (current_tree ps ren cur e) cur n
  expand ps (Read w g i block c) ren cur n k j y =
      With (made old_base (suc n)) (content_tree ren cur g i)
      (expand content_places block [] (content_now (made old_base (suc n))) (suc n) no_go no_jump (λ e' mem n'.
      With (made val_base (suc n')) e'
      (left_behind (is_assigned mem) ren cur g i (current mem (Whole content_name)) (suc n') (λ cur' n''.
      expand ps c ((w, made val_base (suc n')) ∷ ren) cur' n'' k j y))))
  expand ps (Write g i w block) ren cur n k j y =
      With (made old_base (suc n)) (content_tree ren cur g i)
      (expand content_places block (value_handed (find w ren)) (content_now (made old_base (suc n))) (suc n) no_go no_jump (λ e' mem n'.
      With (made new_base (suc n')) e'
      (put_back ren cur g i (name (made new_base (suc n'))) (suc n') k)))

  pub expand_arms : List (Name × Place) → Codes → Renames → Current → ℕ → OnGo → OnJump → OnYield → Expansions
  expand_arms ps no_codes ren cur n k j y = no_expansions
  expand_arms ps (more_codes c cs) ren cur n k j y = more_expansions (expand ps c ren cur n k j y) (expand_arms ps cs ren cur n k j y)

-- what a variable is assigned at the end, if it changed
abbrev pub assigned_at_end : Current → Name → Option (Name × Name)
assigned_at_end cur x = option_map (λ y. (x, y)) (find x cur)

-- each variable that changed once, in the order of the variables, with the made name of its current value
abbrev pub settled : List Name → Current → List (Name × Name)
settled vs cur = filter_map (assigned_at_end cur) vs

abbrev pub to_end : List Name → OnJump
to_end vs l cur n = End (settled vs cur) l

-- vs: the variables in their order
abbrev pub expansion : List Name → List (Name × Place) → Code → Expansion
expansion vs ps c = expand ps c [] [] 0 no_go (to_end vs) no_yield

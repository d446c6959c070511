-- Macros put in the place of their calls.
--
-- In a macro's body the arguments stand for its parameters, and its own `with` names are renamed apart: each gets a mark at
-- each call that puts it in place, so it differs from the names of the caller, which the arguments may hold, and from those
-- of macros called in it. What a macro's expressions bind stays as it is: no argument holds such a name, by the rules on
-- names.
use Rattle.std.specs.Prelude.{ℕ, nat_eq, if◌then◌else◌, List, [], ◌∷◌, ◌++◌, map, Option, Some, None, option_map, unwrap_or}
use Rattle.pgo_base.specs.Tree.{Tree, name, index, field}
use Rattle.pgo_base.specs.Lookup.{Name, find}
use Rattle.pgo_model.specs.Options.{on}
pub use Rattle.pgo_syntax.specs.Lefts.{only}
use Rattle.pgo_syntax.specs.Statement.{Statement, skip, assign, if_then, if_else, while_do, either_of, await_that, with_in, print_out, assert_that, go_to, call_macro, yield_as, block, Statements, no_statements, more_statements, LabeledStatements, no_labeled, more_labeled, GuardedStatements, no_guarded, more_guarded, labeled}
use Rattle.pgo_syntax.specs.declared.assignment.Assignment.{Assignment}
use Rattle.pgo_syntax.specs.declared.assignment.Left.{Left}
use Rattle.pgo_syntax.specs.declared.assignment.Step.{Step}
use Rattle.pgo_syntax.specs.declared.assignment.Step.TheVariants as step
use Rattle.pgo_syntax.specs.declared.binding.Origin.{Origin}
use Rattle.pgo_syntax.specs.declared.binding.Origin.TheVariants.{Equals, In}
use Rattle.pgo_syntax.specs.declared.binding.WithName.{WithName}
use Rattle.pgo_syntax.specs.declared.macros.Macro.{Macro}
use Rattle.pgo_model.specs.Names.{is_among}
use Rattle.pgo_sections.specs.Replaced.{replaced}

-- `!`: no identifier has this byte
abbrev pub mark : ℕ
mark = 33

-- a macro's `with` name, once more put in place
abbrev pub marked : Name → Name
marked x = x ++ mark ∷ []

-- the name without its marks
abbrev pub unmarked : Name → Name
unmarked [] = []
unmarked (b ∷ bs) = if nat_eq b mark then [] else b ∷ unmarked bs

-- what stands for a name; the newest first
abbrev pub Arguments : Type 0
Arguments = List (Name × Tree)

abbrev pub argument : Arguments → List Name → Name → Tree
argument es under x = if is_among x under then name x else unwrap_or (find x es) (name x)

abbrev pub put_tree : Arguments → Tree → Tree
put_tree es t = replaced (argument es) [] t

abbrev pub put_step : Arguments → Step → Step
put_step es (step.Index e) = step.Index (put_tree es e)
put_step es (step.Field x) = step.Field x

abbrev pub with_step : Step → Left → Left
with_step s l = record { name = l.name; path = l.path ++ s ∷ [] }

-- the left side that an expression spells
abbrev pub left_of : Tree → Option Left
left_of (name x) = Some (record { name = record { name = x; place = 0 }; path = [] })
left_of (index f ts) = on None (only ts) (λ i. option_map (with_step (step.Index i)) (left_of f))
left_of (field r x) = option_map (with_step (step.Field x)) (left_of r)
left_of _ = None

-- the argument's own path comes first
abbrev pub put_left : Arguments → Left → Left
put_left es l =
    let path = map (put_step es) l.path in
    on (record { name = l.name; path = path }) (on None (find l.name.name es) left_of) (λ m. record { name = m.name; path = m.path ++ path })

abbrev pub put_assignment : Arguments → Assignment → Assignment
put_assignment es a = record { left = put_left es a.left; right = put_tree es a.right }

abbrev pub put_origin : Arguments → Origin → Origin
put_origin es (Equals e) = Equals (put_tree es e)
put_origin es (In e) = In (put_tree es e)

abbrev pub with_marked : WithName → Arguments → Arguments
with_marked w es = (w.name.name, name (marked w.name.name)) ∷ es

-- each name of a `with` sees those before it
abbrev pub put_names : Arguments → List WithName → List WithName
put_names es [] = []
put_names es (w ∷ ws) =
    record { name = record { name = marked w.name.name; place = w.name.place }; origin = put_origin es w.origin }
    ∷ put_names (with_marked w es) ws

abbrev pub under_names : Arguments → List WithName → Arguments
under_names es [] = es
under_names es (w ∷ ws) = under_names (with_marked w es) ws

abbrev mutual
  -- a macro's body, which has no calls, with these arguments
  pub put : Arguments → Statement → Statement
  put es (skip p) = skip p
  put es (assign p as') = assign p (map (put_assignment es) as')
  put es (if_then p bs) = if_then p (put_guarded es bs)
  put es (if_else p bs s) = if_else p (put_guarded es bs) (put es s)
  put es (while_do p e s) = while_do p (put_tree es e) (put es s)
  put es (either_of p ss) = either_of p (put_each es ss)
  put es (await_that p e) = await_that p (put_tree es e)
  put es (with_in p ws s) = with_in p (put_names es ws) (put (under_names es ws) s)
  put es (print_out p e) = print_out p (put_tree es e)
  put es (assert_that p e) = assert_that p (put_tree es e)
  put es (go_to p l) = go_to p l
  put es (call_macro p m ts) = call_macro p m ts
  put es (yield_as p e) = yield_as p (put_tree es e)
  put es (block p ls) = block p (put_among es ls)

  pub put_each : Arguments → Statements → Statements
  put_each es no_statements = no_statements
  put_each es (more_statements s ss) = more_statements (put es s) (put_each es ss)

  pub put_among : Arguments → LabeledStatements → LabeledStatements
  put_among es no_labeled = no_labeled
  put_among es (more_labeled l s ls) = more_labeled l (put es s) (put_among es ls)

  pub put_guarded : Arguments → GuardedStatements → GuardedStatements
  put_guarded es no_guarded = no_guarded
  put_guarded es (more_guarded p e s bs) = more_guarded p (put_tree es e) (put es s) (put_guarded es bs)

-- a macro's parameters, and its body with the macros that it calls in place
pub record Body : Type 0 where
  pub parameters : List Name
  pub statement : Statement

abbrev pub Bodies : Type 0
Bodies = List (Name × Body)

abbrev pub handed : List Name → List Tree → Arguments
handed [] ts = []
handed (x ∷ xs) [] = []
handed (x ∷ xs) (t ∷ ts) = (x, t) ∷ handed xs ts

-- a macro's body in the place of its call. The `skip` stands for the call, which is counted each time that it is walked
abbrev pub walked : ℕ → Statement → Statement
walked p s = block p (more_labeled None (skip p) (more_labeled None s no_labeled))

abbrev mutual
  -- a statement with these macros in the place of their calls
  pub placed : Bodies → Statement → Statement
  placed ms (skip p) = skip p
  placed ms (assign p as') = assign p as'
  placed ms (if_then p bs) = if_then p (placed_guarded ms bs)
  placed ms (if_else p bs s) = if_else p (placed_guarded ms bs) (placed ms s)
  placed ms (while_do p e s) = while_do p e (placed ms s)
  placed ms (either_of p ss) = either_of p (placed_each ms ss)
  placed ms (await_that p e) = await_that p e
  placed ms (with_in p ws s) = with_in p ws (placed ms s)
  placed ms (print_out p e) = print_out p e
  placed ms (assert_that p e) = assert_that p e
  placed ms (go_to p l) = go_to p l
  placed ms (call_macro p m ts) = on (call_macro p m ts) (find m.name ms) (λ b. walked p (put (handed b.parameters ts) b.statement))
  placed ms (yield_as p e) = yield_as p e
  placed ms (block p ls) = block p (placed_among ms ls)

  pub placed_each : Bodies → Statements → Statements
  placed_each ms no_statements = no_statements
  placed_each ms (more_statements s ss) = more_statements (placed ms s) (placed_each ms ss)

  pub placed_among : Bodies → LabeledStatements → LabeledStatements
  placed_among ms no_labeled = no_labeled
  placed_among ms (more_labeled l s ls) = more_labeled l (placed ms s) (placed_among ms ls)

  pub placed_guarded : Bodies → GuardedStatements → GuardedStatements
  placed_guarded ms no_guarded = no_guarded
  placed_guarded ms (more_guarded p e s bs) = more_guarded p e (placed ms s) (placed_guarded ms bs)

-- the macros, each with those before it in place
abbrev pub bodies_with : Bodies → List Macro → Bodies
bodies_with ms [] = ms
bodies_with ms (m ∷ rest) =
    bodies_with ((m.name.name, record { parameters = map (λ p. p.name) m.params; statement = placed ms (block 0 (labeled m.body)) }) ∷ ms) rest

abbrev pub bodies : List Macro → Bodies
bodies ms = bodies_with [] ms

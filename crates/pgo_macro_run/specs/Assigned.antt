-- What assignments in a macro's block do: all indices and right sides in textual order, and then the assignments from left to
-- right. The values stand under made names of `#` alone, each one longer than the one before.
use Rattle.std.specs.Prelude.{if◌then◌else◌, List, [], ◌∷◌, ◌++◌, Option, Some, option_and_then, option_map}
use Rattle.pgo_base.specs.Data.{Data}
use Rattle.pgo_base.specs.Lookup.{Name, Names, same_name}
use Rattle.pgo_base.specs.Tree.{Tree, name, text, except, no_paths, more_paths, trees}
use Rattle.pgo_model.specs.Options.{on}
use Rattle.pgo_syntax.specs.declared.assignment.Assignment.{Assignment}
use Rattle.pgo_syntax.specs.declared.assignment.Step.{Step}
use Rattle.pgo_syntax.specs.declared.assignment.Step.TheVariants as step
use Rattle.pgo_sections.specs.BoundValues.{bindable}
use Rattle.pgo_sections.specs.Code.{content_name}
use Rattle.pgo_meaning.specs.Statements.{alone}

abbrev pub first_mark : Name
first_mark = 35 ∷ []

abbrev pub next_mark : Name → Name
next_mark m = m ++ 35 ∷ []

-- a path with the names of its indices, from this name on, and the name behind
abbrev pub path_trees : List Step → Name → Name × List Tree
path_trees [] m = (m, [])
path_trees (step.Index e ∷ path) m = let q = path_trees path (next_mark m) in (q.0, name m ∷ q.1)
path_trees (step.Field x ∷ path) m = let q = path_trees path m in (q.0, text x ∷ q.1)

-- what x becomes, where w stands for the right side
abbrev pub target : Name → List Tree → Name → Tree
target x [] w = name w
target x (t ∷ ts) w = except (name x) (more_paths (trees (t ∷ ts)) (name w) no_paths)

-- by what an expression's value is where it sees these names and the content
module _ (value : Tree → Names → Option Data → Option Data) where
  -- the indices of a path, and the name behind
  abbrev pub indices : List Step → Name → Names → Option Data → Option (Name × Names)
  indices [] m env c = Some (m, env)
  indices (step.Index e ∷ path) m env c = option_and_then (λ v. indices path (next_mark m) ((m, Some v) ∷ env) c) (bindable (value e env c))
  indices (step.Field x ∷ path) m env c = indices path m env c

  -- one assignment's indices and right side
  abbrev pub operands : Assignment → Name → Names → Option Data → Option (Name × Names)
  operands a m env c =
      option_and_then (λ p. option_map (λ v. (next_mark p.0, (p.0, Some v) ∷ p.1)) (bindable (value a.right p.1 c))) (indices a.left.path m env c)

  abbrev pub all_operands : List Assignment → Name → Names → Option Data → Option (Name × Names)
  all_operands [] m env c = Some (m, env)
  all_operands (a ∷ as') m env c = option_and_then (λ p. all_operands as' p.0 p.1 c) (operands a m env c)

  -- the content behind x := e; another name than the content's changes nothing
  abbrev pub set_one : Name → Tree → Names → Option Data → Option (Option Data)
  set_one x e env c = if same_name x content_name then option_map (λ v. Some v) (bindable (value e env c)) else Some c

  abbrev pub set_all : List Assignment → Name → Names → Option Data → Option (Option Data)
  set_all [] m env c = Some c
  set_all (a ∷ as') m env c =
      let q = path_trees a.left.path m in
      option_and_then (λ c'. set_all as' (next_mark q.0) env c') (set_one a.left.name.name (target a.left.name.name q.1 q.0) env c)

  -- `$variable := e` by itself binds no value before
  abbrev pub assigned : List Assignment → Names → Option Data → Option (Option Data)
  assigned as' env c =
      on (option_and_then (λ env'. set_all as' first_mark env' c) (option_map (λ p. p.1) (all_operands as' first_mark env c))) (alone as') (λ e. option_map (λ v. Some v) (bindable (value e env c)))

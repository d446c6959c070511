-- A statement as code: what it does up to the labels in it.
use Rattle.std.specs.Prelude.{ℕ, suc, Bool, if◌then◌else◌, List, [], ◌∷◌, ◌++◌, map, Option, Some, None}
use Rattle.pgo_base.specs.Lookup.{Name, same_name, find}
use Rattle.pgo_base.specs.Tree.{Tree, name, text, except, no_paths, more_paths, trees}
use Rattle.pgo_model.specs.Options.{on}
use Rattle.pgo_model.specs.Written.{written, done}
use Rattle.pgo_syntax.specs.Statement.{Statement, skip, assign, if_then, if_else, while_do, either_of, await_that, with_in, print_out, assert_that, go_to, call_macro, yield_as, block, Statements, no_statements, more_statements, LabeledStatements, no_labeled, more_labeled, GuardedStatements, no_guarded, more_guarded}
use Rattle.pgo_syntax.specs.declared.assignment.Assignment.{Assignment}
use Rattle.pgo_syntax.specs.declared.assignment.Step.{Step}
use Rattle.pgo_syntax.specs.declared.assignment.Step.TheVariants as step
use Rattle.pgo_syntax.specs.declared.binding.Origin.{Origin}
use Rattle.pgo_syntax.specs.declared.binding.Origin.TheVariants.{Equals, In}
use Rattle.pgo_syntax.specs.declared.binding.WithName.{WithName}
use Rattle.pgo_sections.specs.Access.{MappedNames, place, evaluated}
use Rattle.pgo_sections.specs.Code.{Place, Whole, variable_of, Code, Empty, Skip, Let, Pick, Become, Set, Await, Assert, Print, If, Either, Seq, Goto, Yield, Write, Codes, no_codes, more_codes, in_turn, content_name, at_base, old_base, val_base}
use Rattle.pgo_meaning.specs.MacrosPlaced.{unmarked}

-- what the names of a process's statements are; `is_block`: the statements are a mapping macro's
pub record Setting : Type 0 where
  pub process : Name
  pub mapped : MappedNames
  pub places : List (Name × Place)
  pub is_block : Bool

-- a step of a path: an index that stands under this name, or a field
pub data Part : Type 0 where
  Index : (i : Name) → Part
  Field : (x : Name) → Part

abbrev pub part_tree : Part → Tree
part_tree (Index i) = name i
part_tree (Field x) = text x

-- [x EXCEPT !path = w]
abbrev pub changed : Name → List Part → Name → Tree
changed x path w = except (name x) (more_paths (trees (map part_tree path)) (name w) no_paths)

-- the index of an element
abbrev pub index_of : List Part → Option Name
index_of (Index i ∷ []) = Some i
index_of _ = None

-- where a label is: `Done` is not one
abbrev pub label_of : Name → Name → Name
label_of p l = if same_name l done then done else written p l

-- the right side, where `x := e` is the one assignment
abbrev pub alone : List Assignment → Option Tree
alone [] = None
alone (a ∷ []) = elim a.left.path [ [] ↦ Some a.right | s ∷ path ↦ None ]
alone (a ∷ b ∷ as') = None

module _ (s : Setting) where
  abbrev pub to_variable : Name → List Part → Name → Place → Code
  to_variable x [] w p = if s.is_block then Set old_base p (name w) else Become p w
  to_variable x (i ∷ path) w p = Set (if s.is_block then old_base else variable_of p) p (changed x (i ∷ path) w)

  -- the variable x, with this path, becomes what w stands for. By the rules on names x is a mapped parameter or has a place; of
  -- another name nothing is done
  abbrev pub assigned : Name → List Part → Name → Code
  assigned x path w =
      on (on Empty (find x s.places) (to_variable x path w)) (find x s.mapped) (λ m. Write m.global (index_of path) w m.writes)

  -- the indices of a path, and then what f makes of it; k values stand already
  abbrev pub steps : List Step → ℕ → (List Part → ℕ → Code) → Code
  steps [] k f = f [] k
  steps (step.Index e ∷ path) k f =
      evaluated s.mapped e k (λ e' k'. Let at_base (place k') e' (steps path (suc k') (λ parts. f (Index (place k') ∷ parts))))
  steps (step.Field x ∷ path) k f = steps path k (λ parts. f (Field x ∷ parts))

  -- all indices and right sides in textual order, and then the assignments from left to right
  abbrev pub assign_all : List Assignment → ℕ → List Code → Code
  assign_all [] k then' = in_turn then'
  assign_all (a ∷ as') k then' =
      steps a.left.path k (λ path k1. evaluated s.mapped a.right k1 (λ e k2.
      Let val_base (place k2) e (assign_all as' (suc k2) (then' ++ assigned a.left.name.name path (place k2) ∷ []))))

  -- in a mapping macro `$variable := e` by itself binds no value before
  abbrev pub assignment_code : List Assignment → Code
  assignment_code as' =
      on (assign_all as' 0 []) (if s.is_block then alone as' else None) (λ e. Set old_base (Whole content_name) e)

  abbrev pub bind_name : Name → Origin → Code → Code
  bind_name x (Equals e) c = evaluated s.mapped e 0 (λ e' k. Let (unmarked x) x e' c)
  bind_name x (In e) c = evaluated s.mapped e 0 (λ e' k. Pick (unmarked x) x e' c)

  abbrev pub bind_names : List WithName → Code → Code
  bind_names [] c = c
  bind_names (w ∷ ws) c = bind_name w.name.name w.origin (bind_names ws c)

  abbrev mutual
    -- A statement up to the labels in it; l is the label of the last one above, which is that of a `while`. Macros are in the place
    -- of their calls before, so no call is left where each macro is declared; of a call that is left nothing is done.
    pub code : Name → Statement → Code
    code l (skip p) = Skip
    code l (assign p as') = assignment_code as'
    code l (if_then p bs) = branches l bs Empty
    code l (if_else p bs t) = branches l bs (code l t)
    code l (while_do p e t) = evaluated s.mapped e 0 (λ e' k. If e' (Seq (code l t) (Goto l)) Empty)
    code l (either_of p ts) = Either (arms l ts)
    code l (await_that p e) = evaluated s.mapped e 0 (λ e' k. Await e')
    code l (with_in p ws t) = bind_names ws (code l t)
    code l (print_out p e) = evaluated s.mapped e 0 (λ e' k. Print e')
    code l (assert_that p e) = evaluated s.mapped e 0 (λ e' k. Assert e')
    code l (go_to p x) = Goto (label_of s.process x.name)
    code l (call_macro p m es) = Empty
    code l (yield_as p e) = Yield e
    code l (block p ls) = in_order l ls

    pub branches : Name → GuardedStatements → Code → Code
    branches l no_guarded c = c
    branches l (more_guarded p e t bs) c = evaluated s.mapped e 0 (λ e' k. If e' (code l t) (branches l bs c))

    pub arms : Name → Statements → Codes
    arms l no_statements = no_codes
    arms l (more_statements t ts) = more_codes (code l t) (arms l ts)

    -- a label ends the section
    pub in_order : Name → LabeledStatements → Code
    in_order l no_labeled = Empty
    in_order l (more_labeled x t ls) = on (Seq (code l t) (in_order l ls)) x (λ y. Goto (label_of s.process y.name))

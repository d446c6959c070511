-- Well-formed statements stay so with macros in the place of their calls.
use Rattle.std.proofs.Common.{◌≡◌, ℕ, Bool, true, false, ◌||◌, inl, inr, if◌then◌else◌, nat_eq, List, [], ◌∷◌, ◌++◌, map, Option, Some, None, option_map, unwrap_or, refl, ap, sym, ◌∙◌, subst}
use Rattle.std.specs.List.{AllByRecursion}
use Rattle.pgo_base.specs.Lookup.{Name, same_name, find}
use Rattle.pgo_base.specs.Tree.{Tree, name, index, field, Trees, no_trees, more_trees}
use Rattle.pgo_model.specs.Options.{on}
use Rattle.pgo_syntax.specs.Statement.{Statement, skip, assign, if_then, if_else, while_do, either_of, await_that, with_in, print_out, assert_that, go_to, call_macro, yield_as, block, Statements, no_statements, more_statements, LabeledStatements, no_labeled, more_labeled, GuardedStatements, no_guarded, more_guarded, labeled}
use Rattle.pgo_syntax.specs.declared.assignment.Assignment.{Assignment}
use Rattle.pgo_syntax.specs.declared.assignment.Left.{Left}
use Rattle.pgo_syntax.specs.declared.assignment.Step.{Step}
use Rattle.pgo_syntax.specs.declared.assignment.Step.TheVariants as step
use Rattle.pgo_syntax.specs.declared.binding.Origin.{Origin}
use Rattle.pgo_syntax.specs.declared.binding.Origin.TheVariants.{Equals, In}
use Rattle.pgo_syntax.specs.declared.binding.WithName.{WithName}
use Rattle.pgo_syntax.specs.declared.macros.Macro.{Macro}
use Rattle.pgo_syntax.specs.declared.name.PlacedName.{PlacedName}
use Rattle.pgo_bound.specs.Among.{none_left, none_right}
use Rattle.pgo_bound.specs.Sound.{labels_in, labels_each, labels_among, labels_guarded}
use Rattle.pgo_expr_write.specs.WellFormed.{AreNames}
use Rattle.pgo_model.specs.Names.{is_among}
use Rattle.pgo_meaning.specs.LabelSections.{AreUnlabelled}
use Rattle.pgo_meaning.specs.MacrosPlaced.{marked, unmarked, Arguments, argument, put_tree, put_step, only, with_step, left_of, put_left, put_assignment, put_origin, with_marked, put_names, under_names, put, put_each, put_among, put_guarded, Body, Bodies, handed, walked, placed, placed_each, placed_among, placed_guarded, bodies_with, bodies}
use Rattle.pgo_meaning.proofs.Traces.{among_first}
use Rattle.pgo_written.specs.Formed.{Formed, SomeFormed, RangeFormed}
use Rattle.pgo_written.specs.FormedCode.{IsShort}
use Rattle.pgo_written.specs.FormedSpec.{MacroFormed}
use Rattle.pgo_written.specs.FormedStatements.{Known, OriginFormed, PathFormed, AssignmentsFormed, WithsFormed, in_with, EachTree, StatementFormed, EachFormed, LabeledFormed, GuardedFormed}
use Rattle.pgo_written.proofs.FormedTrees.{weaker, replaced_formed, range_replaced, bound_name}
use Rattle.pgo_agrees.proofs.Stands.{or_second}
use Rattle.pgo_written.proofs.FormedSections.{one_of}
use Rattle.pgo_written.proofs.WrittenNames.{name_text}

-- ---- statements without labels
mutual
  none_formed : (t : Statement) (c b : Bool) (ns : List Name) → labels_in t ≡ [] → StatementFormed c b ns t → StatementFormed c false ns t
  none_formed (skip p) c b ns e g = tt
  none_formed (assign p as') c b ns e g = g
  none_formed (if_then p bs) c b ns e g = guarded_none bs c b ns e g
  none_formed (if_else p bs t) c b ns e g =
      (guarded_none bs c b ns (none_left (labels_guarded bs) (labels_in t) e) g.0, none_formed t c b ns (none_right (labels_guarded bs) (labels_in t) e) g.1)
  none_formed (while_do p d t) c b ns e g = (g.0, none_formed t c b ns e g.1)
  none_formed (either_of p ts) c b ns e g = each_none ts c b ns e g
  none_formed (await_that p d) c b ns e g = g
  none_formed (with_in p ws t) c b ns e g = (g.0, inr (one_of g.1 (λ h. none_formed t c b (in_with ns ws) e h.1) (λ h. h)))
  none_formed (print_out p d) c b ns e g = g
  none_formed (assert_that p d) c b ns e g = g
  none_formed (go_to p l) c b ns e g = g
  none_formed (call_macro p m ts) c b ns e g = g
  none_formed (yield_as p d) c b ns e g = g
  none_formed (block p ls) c b ns e g = among_none ls c b ns e g

  each_none : (ts : Statements) (c b : Bool) (ns : List Name) → labels_each ts ≡ [] → EachFormed c b ns ts → EachFormed c false ns ts
  each_none no_statements c b ns e g = tt
  each_none (more_statements t ts) c b ns e g =
      (none_formed t c b ns (none_left (labels_in t) (labels_each ts) e) g.0, each_none ts c b ns (none_right (labels_in t) (labels_each ts) e) g.1)

  pub among_none : (ls : LabeledStatements) (c b : Bool) (ns : List Name) → labels_among ls ≡ [] → LabeledFormed c b ns ls → LabeledFormed c false ns ls
  among_none no_labeled c b ns e g = tt
  among_none (more_labeled None t ls) c b ns e g =
      (tt, none_formed t c b ns (none_left (labels_in t) (labels_among ls) e) g.1, among_none ls c b ns (none_right (labels_in t) (labels_among ls) e) g.2)
  among_none (more_labeled (Some x) t ls) c b ns e g = absurd (cc)

  guarded_none : (bs : GuardedStatements) (c b : Bool) (ns : List Name) → labels_guarded bs ≡ [] → GuardedFormed c b ns bs → GuardedFormed c false ns bs
  guarded_none no_guarded c b ns e g = tt
  guarded_none (more_guarded p d t bs) c b ns e g =
      (g.0, none_formed t c b ns (none_left (labels_in t) (labels_guarded bs) e) g.1, guarded_none bs c b ns (none_right (labels_in t) (labels_guarded bs) e) g.2)

-- ---- arguments

-- each of the names ns has an expression that stands for it; they are well formed over the names ms
record Standing (es : Arguments) (ns ms : List Name) : Type 0 where
  pub there : (x : Name) → is_among x ns ≡ true → (t : Tree) × (find x es ≡ Some t)
  pub formed : (x : Name) (t : Tree) → find x es ≡ Some t → Formed (Known ms) t

unmarked_again : (x : Name) → unmarked (marked x) ≡ unmarked x
unmarked_again [] = refl
unmarked_again (b ∷ bs) = go (nat_eq b 33) (unmarked_again bs)
  where
    go : (q : Bool) → unmarked (marked bs) ≡ unmarked bs → (if q then [] else b ∷ unmarked (marked bs)) ≡ (if q then [] else b ∷ unmarked bs)
    go true e = refl
    go false e = ap (λ xs. b ∷ xs) e

known_more : (z : Name) (ms : List Name) (x : Name) → Known ms x → Known (z ∷ ms) x
known_more z ms x (inl n) = inl n
known_more z ms x (inr h) = inr (or_second (same_name x z) (is_among x ms) h)

standing_more : (es : Arguments) (ns ms : List Name) (w : WithName) → Standing es ns ms → Standing (with_marked w es) (w.name.name ∷ ns) (marked w.name.name ∷ ms)
standing_more es ns ms w s = record {
  there = λ x h. there x (same_name x w.name.name) h;
  formed = λ x t h. formed x t (same_name x w.name.name) h;
}
  where
    there : (x : Name) (b : Bool) → b || is_among x ns ≡ true → (t : Tree) × ((if b then Some (name (marked w.name.name)) else find x es) ≡ Some t)
    there x true h = (name (marked w.name.name), refl)
    there x false h = s.there x h

    formed : (x : Name) (t : Tree) (b : Bool) → (if b then Some (name (marked w.name.name)) else find x es) ≡ Some t → Formed (Known (marked w.name.name ∷ ms)) t
    formed x t true h = let same : name (marked w.name.name) ≡ t = cc in subst (Formed (Known (marked w.name.name ∷ ms))) same (inr (among_first (marked w.name.name) ms))
    formed x t false h = weaker (Known ms) (Known (marked w.name.name ∷ ms)) (known_more (marked w.name.name) ms) t (s.formed x t h)

module _ (es : Arguments) (ns ms : List Name) (s : Standing es ns ms) where
  stands : (u : List Name) (x : Name) → AreNames u → Known ns x → Formed (Known ms) (argument es u x)
  stands u x a k = under (is_among x u) refl
    where
      found : (o : Option Tree) → find x es ≡ o → Formed (Known ms) (unwrap_or o (name x))
      found (Some t) e = s.formed x t e
      found None e = one_of k (λ n. inl n) (λ h. (let q = s.there x h in absurd (let z : None ≡ Some q.0 = sym e ∙ q.1 in cc)))

      under : (b : Bool) → is_among x u ≡ b → Formed (Known ms) (if b then name x else unwrap_or (find x es) (name x))
      under true e = inl (bound_name x u a e)
      under false e = found (find x es) refl

  tree_put : (e : Tree) → Formed (Known ns) e → Formed (Known ms) (put_tree es e)
  tree_put e h = replaced_formed (Known ns) (Known ms) (argument es) stands [] tt e h

  range_put : (e : Tree) → RangeFormed (Known ns) e → RangeFormed (Known ms) (put_tree es e)
  range_put e h = range_replaced (Known ns) (Known ms) (argument es) stands [] tt e h

  path_put : (ss : List Step) → PathFormed ns ss → PathFormed ms (map (put_step es) ss)
  path_put [] h = tt
  path_put (step.Index e ∷ ss) h = (tree_put e h.0, path_put ss h.1)
  path_put (step.Field x ∷ ss) h = (h.0, path_put ss h.1)

  path_append : (ss ts : List Step) → PathFormed ms ss → PathFormed ms ts → PathFormed ms (ss ++ ts)
  path_append [] ts h g = g
  path_append (step.Index e ∷ ss) ts h g = (h.0, path_append ss ts h.1 g)
  path_append (step.Field x ∷ ss) ts h g = (h.0, path_append ss ts h.1 g)

  -- the path of the left side that an expression spells
  abbrev LeftFormed : Option Left → Type 0
  LeftFormed None = Unit {0}
  LeftFormed (Some l) = PathFormed ms l.path

  step_formed : (i : Step) → PathFormed ms (i ∷ []) → (o : Option Left) → LeftFormed o → LeftFormed (option_map (with_step i) o)
  step_formed i h None g = tt
  step_formed i h (Some l) g = path_append l.path (i ∷ []) g h

  only_formed : (ts : Trees) → SomeFormed (Known ms) ts → (o : Option Left) → LeftFormed o → LeftFormed (on None (only ts) (λ i. option_map (with_step (step.Index i)) o))
  only_formed no_trees h o g = tt
  only_formed (more_trees t no_trees) h o g = step_formed (step.Index t) (h.0, tt) o g
  only_formed (more_trees t (more_trees u us)) h o g = tt

  left_formed : (t : Tree) → Formed (Known ms) t → LeftFormed (left_of t)
  left_formed (name x) h = tt
  left_formed (index f ts) h = only_formed ts h.1 (left_of f) (left_formed f h.0)
  left_formed (field r x) h = step_formed (step.Field x) (name_text x h.1, tt) (left_of r) (left_formed r h.0)
  left_formed t h = tt

  left_put : (l : Left) → PathFormed ns l.path → PathFormed ms (put_left es l).path
  left_put l h = found (find l.name.name es) refl
    where
      path : List Step
      path = map (put_step es) l.path

      given : (o : Option Left) → LeftFormed o → PathFormed ms (on {B = Left} (record { name = l.name; path = map (put_step es) l.path }) o (λ m. record { name = m.name; path = m.path ++ map (put_step es) l.path })).path
      given None g = path_put l.path h
      given (Some m) g = path_append m.path (map (put_step es) l.path) g (path_put l.path h)

      found : (o : Option Tree) → find l.name.name es ≡ o → PathFormed ms (on {B = Left} (record { name = l.name; path = map (put_step es) l.path }) (on None o left_of) (λ m. record { name = m.name; path = m.path ++ map (put_step es) l.path })).path
      found None e = given None tt
      found (Some t) e = given (left_of t) (left_formed t (s.formed l.name.name t e))

  assignments_put : (as' : List Assignment) → AssignmentsFormed ns as' → AssignmentsFormed ms (map (put_assignment es) as')
  assignments_put [] h = tt
  assignments_put (a ∷ as') h = (left_put a.left h.0, tree_put a.right h.1, assignments_put as' h.2)

  origin_put : (o : Origin) → OriginFormed ns o → OriginFormed ms (put_origin es o)
  origin_put (Equals e) h = tree_put e h
  origin_put (In e) h = range_put e h

record WithsPut (es : Arguments) (ns ms : List Name) (ws : List WithName) : Type 0 where
  pub formed : WithsFormed ms (put_names es ws)
  pub names : Standing (under_names es ws) (in_with ns ws) (in_with ms (put_names es ws))

withs_put : (es : Arguments) (ns ms : List Name) (ws : List WithName) → Standing es ns ms → WithsFormed ns ws → WithsPut es ns ms ws
withs_put es ns ms [] s h = record { formed = tt; names = s }
withs_put es ns ms (w ∷ ws) s h =
    let r = withs_put (with_marked w es) (w.name.name ∷ ns) (marked w.name.name ∷ ms) ws (standing_more es ns ms w s) h.2 in
    record { formed = (subst IsShort (sym (unmarked_again w.name.name)) h.0, origin_put es ns ms s w.origin h.1, r.formed); names = r.names }

-- a body without labels may be put where labels stand
mutual
  put_formed : (t : Statement) (c b : Bool) (es : Arguments) (ns ms : List Name) → Standing es ns ms → StatementFormed c false ns t → StatementFormed false b ms (put es t)
  put_formed (skip p) c b es ns ms s g = tt
  put_formed (assign p as') c b es ns ms s g = assignments_put es ns ms s as' g
  put_formed (if_then p bs) c b es ns ms s g = guarded_put bs c b es ns ms s g
  put_formed (if_else p bs t) c b es ns ms s g = (guarded_put bs c b es ns ms s g.0, put_formed t c b es ns ms s g.1)
  put_formed (while_do p e t) c b es ns ms s g = (tree_put es ns ms s e g.0, put_formed t c b es ns ms s g.1)
  put_formed (either_of p ts) c b es ns ms s g = each_put ts c b es ns ms s g
  put_formed (await_that p e) c b es ns ms s g = tree_put es ns ms s e g
  put_formed (with_in p ws t) c b es ns ms s g =
      let r = withs_put es ns ms ws s g.0 in
      let further = one_of g.1 (λ h. h.1) (λ h. h) in
      (r.formed, inr (put_formed t c false (under_names es ws) (in_with ns ws) (in_with ms (put_names es ws)) r.names further))
  put_formed (print_out p e) c b es ns ms s g = tree_put es ns ms s e g
  put_formed (assert_that p e) c b es ns ms s g = tree_put es ns ms s e g
  put_formed (go_to p l) c b es ns ms s g = g
  put_formed (call_macro p m ts) c b es ns ms s g = tt
  put_formed (yield_as p e) c b es ns ms s g = tree_put es ns ms s e g
  put_formed (block p ls) c b es ns ms s g = among_put ls c b es ns ms s g

  each_put : (ts : Statements) (c b : Bool) (es : Arguments) (ns ms : List Name) → Standing es ns ms → EachFormed c false ns ts → EachFormed false b ms (put_each es ts)
  each_put no_statements c b es ns ms s g = tt
  each_put (more_statements t ts) c b es ns ms s g = (put_formed t c b es ns ms s g.0, each_put ts c b es ns ms s g.1)

  among_put : (ls : LabeledStatements) (c b : Bool) (es : Arguments) (ns ms : List Name) → Standing es ns ms → LabeledFormed c false ns ls → LabeledFormed false b ms (put_among es ls)
  among_put no_labeled c b es ns ms s g = tt
  among_put (more_labeled None t ls) c b es ns ms s g = (tt, put_formed t c b es ns ms s g.1, among_put ls c b es ns ms s g.2)
  among_put (more_labeled (Some x) t ls) c b es ns ms s g = absurd (let z = g.0.0 in cc)

  guarded_put : (bs : GuardedStatements) (c b : Bool) (es : Arguments) (ns ms : List Name) → Standing es ns ms → GuardedFormed c false ns bs → GuardedFormed false b ms (put_guarded es bs)
  guarded_put no_guarded c b es ns ms s g = tt
  guarded_put (more_guarded p e t bs) c b es ns ms s g = (tree_put es ns ms s e g.0, put_formed t c b es ns ms s g.1, guarded_put bs c b es ns ms s g.2)

-- ---- macros in place

-- each body is well formed, with the macros before it in place, and has no label
abbrev BodiesFormed : Bodies → Type 0
BodiesFormed ms = (x : Name) (b : Body) → find x ms ≡ Some b → StatementFormed false false [] b.statement

handed_stand : (ns : List Name) (xs : List Name) (ts : List Tree) → EachTree ns ts → Standing (handed xs ts) [] ns
handed_stand ns xs ts g = record { there = λ x h. absurd (cc); formed = λ x t h. formed xs ts x t g h }
  where
    formed : (xs : List Name) (ts : List Tree) (x : Name) (t : Tree) → EachTree ns ts → find x (handed xs ts) ≡ Some t → Formed (Known ns) t
    formed [] ts x t g h = absurd (cc)
    formed (y ∷ xs) [] x t g h = absurd (cc)
    formed (y ∷ xs) (u ∷ ts) x t g h = go (same_name x y) h (formed xs ts x t g.1)
      where
        go : (b : Bool) → (if b then Some u else find x (handed xs ts)) ≡ Some t → (find x (handed xs ts) ≡ Some t → Formed (Known ns) t) → Formed (Known ns) t
        go true k more = let same : u ≡ t = cc in subst (Formed (Known ns)) same g.0
        go false k more = more k

module _ (ms : Bodies) (ok : BodiesFormed ms) where
  call_placed : (p : ℕ) (m : PlacedName) (ts : List Tree) (b : Bool) (ns : List Name) → EachTree ns ts → (o : Option Body) → find m.name ms ≡ o → StatementFormed false b ns (on (call_macro p m ts) o (λ d. walked p (put (handed d.parameters ts) d.statement)))
  call_placed p m ts b ns g None e = tt
  call_placed p m ts b ns g (Some d) e =
      (tt, tt, (tt, put_formed d.statement false b (handed d.parameters ts) [] ns (handed_stand ns d.parameters ts g) (ok m.name d e), tt))

  mutual
    placed_formed : (t : Statement) (b : Bool) (ns : List Name) → StatementFormed true b ns t → StatementFormed false b ns (placed ms t)
    placed_formed (skip p) b ns g = tt
    placed_formed (assign p as') b ns g = g
    placed_formed (if_then p bs) b ns g = guarded_placed bs b ns g
    placed_formed (if_else p bs t) b ns g = (guarded_placed bs b ns g.0, placed_formed t b ns g.1)
    placed_formed (while_do p e t) b ns g = (g.0, placed_formed t b ns g.1)
    placed_formed (either_of p ts) b ns g = each_placed ts b ns g
    placed_formed (await_that p e) b ns g = g
    placed_formed (with_in p ws t) b ns g =
        (g.0, one_of g.1 (λ h. inl (h.0, placed_formed t b (in_with ns ws) h.1)) (λ h. inr (placed_formed t false (in_with ns ws) h)))
    placed_formed (print_out p e) b ns g = g
    placed_formed (assert_that p e) b ns g = g
    placed_formed (go_to p l) b ns g = g
    placed_formed (call_macro p m ts) b ns g = call_placed p m ts b ns g (find m.name ms) refl
    placed_formed (yield_as p e) b ns g = g
    placed_formed (block p ls) b ns g = among_placed ls b ns g

    each_placed : (ts : Statements) (b : Bool) (ns : List Name) → EachFormed true b ns ts → EachFormed false b ns (placed_each ms ts)
    each_placed no_statements b ns g = tt
    each_placed (more_statements t ts) b ns g = (placed_formed t b ns g.0, each_placed ts b ns g.1)

    pub among_placed : (ls : LabeledStatements) (b : Bool) (ns : List Name) → LabeledFormed true b ns ls → LabeledFormed false b ns (placed_among ms ls)
    among_placed no_labeled b ns g = tt
    among_placed (more_labeled x t ls) b ns g = (g.0, placed_formed t b ns g.1, among_placed ls b ns g.2)

    guarded_placed : (bs : GuardedStatements) (b : Bool) (ns : List Name) → GuardedFormed true b ns bs → GuardedFormed false b ns (placed_guarded ms bs)
    guarded_placed no_guarded b ns g = tt
    guarded_placed (more_guarded p e t bs) b ns g = (g.0, placed_formed t b ns g.1, guarded_placed bs b ns g.2)

-- ---- all macros
bodies_with_formed : (ms : Bodies) (rest : List Macro) → BodiesFormed ms → AllByRecursion MacroFormed rest → AreUnlabelled rest → BodiesFormed (bodies_with ms rest)
bodies_with_formed ms [] ok g u = ok
bodies_with_formed ms (m ∷ rest) ok g u = bodies_with_formed ((m.name.name, body) ∷ ms) rest more g.1 u.1
  where
    body : Body
    body = record { parameters = map (λ p. p.name) m.params; statement = placed ms (block 0 (labeled m.body)) }

    here : StatementFormed false false [] (placed ms (block 0 (labeled m.body)))
    here = among_placed ms ok (labeled m.body) false [] (among_none (labeled m.body) true true [] u.0 g.0)

    more : BodiesFormed ((m.name.name, record { parameters = map (λ p. p.name) m.params; statement = placed ms (block 0 (labeled m.body)) }) ∷ ms)
    more x b e = go (same_name x m.name.name) e
      where
        go : (q : Bool) → (if q then Some (record { parameters = map (λ (p : PlacedName). p.name) m.params; statement = placed ms (block 0 (labeled m.body)) }) else find x ms) ≡ Some b → StatementFormed false false [] b.statement
        go true k =
            let same : record { parameters = map (λ (p : PlacedName). p.name) m.params; statement = placed ms (block 0 (labeled m.body)) } ≡ b = cc in
            subst (λ (z : Body). StatementFormed false false [] z.statement) same here
        go false k = ok x b k

pub bodies_formed : (ms : List Macro) → AllByRecursion MacroFormed ms → AreUnlabelled ms → BodiesFormed (bodies ms)
bodies_formed ms g u = bodies_with_formed [] ms (λ x b e. absurd (cc)) g u

-- the statements of an archetype, with the macros in place
pub body_placed : (ms : List Macro) (ls : LabeledStatements) → AllByRecursion MacroFormed ms → AreUnlabelled ms → LabeledFormed true true [] ls → LabeledFormed false true [] (placed_among (bodies ms) ls)
body_placed ms ls g u h = among_placed (bodies ms) (bodies_formed ms g u) ls true [] h

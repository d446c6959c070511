-- What does not name `$value` is well formed without it.
use Rattle.std.proofs.Common.{◌≡◌, Bool, true, false, not, ◌&&◌, ◌||◌, ◌⊎◌, inl, inr, List, [], ◌∷◌, ◌++◌, map, codes, None, refl, subst}
use Rattle.std.specs.Prelude.{flat_map}
use Rattle.std.proofs.lemmas.Bool.{and_parts}
use Rattle.pgo_base.specs.Lookup.{Name, same_name}
use Rattle.pgo_base.specs.Tree.{Tree, name, primed, number, text, truth, at, word, unary, binary, product, cond_of, case_of, case_other, let_in, quantified, choose, tuple, set_of, filter_of, image, fun_of, fun_set, record_of, record_set, except, index, field, call, unchanged, Trees, no_trees, more_trees, NamedTrees, no_named, more_named, TreePairs, no_arms, more_arms, BoundTrees, no_bound, more_bound, PathTrees, no_paths, more_paths}
use Rattle.pgo_model.specs.Occurrences.{names_in, names_in_all, names_in_named, names_in_arms, names_in_bound, names_in_paths}
use Rattle.pgo_syntax.specs.Statement.{Statement, skip, assign, if_then, if_else, while_do, either_of, await_that, with_in, print_out, assert_that, go_to, call_macro, yield_as, block, Statements, no_statements, more_statements, LabeledStatements, no_labeled, more_labeled, GuardedStatements, no_guarded, more_guarded, labeled}
use Rattle.pgo_syntax.specs.declared.assignment.Assignment.{Assignment}
use Rattle.pgo_syntax.specs.declared.assignment.Step.{Step}
use Rattle.pgo_syntax.specs.declared.assignment.Step.TheVariants as step
use Rattle.pgo_syntax.specs.declared.binding.Origin.{Origin}
use Rattle.pgo_syntax.specs.declared.binding.Origin.TheVariants.{Equals, In}
use Rattle.pgo_syntax.specs.declared.binding.WithName.{WithName}
use Rattle.pgo_syntax.specs.declared.macros.MappingMacro.{MappingMacro}
use Rattle.pgo_operands.specs.Mentions.{mentions}
use Rattle.pgo_labels.specs.Inside.{Item, inside, inside_all, inside_labeled, inside_guarded, with_inside}
use Rattle.pgo_syntax.specs.Origins.{origin_tree}
use Rattle.pgo_labels.specs.YieldRule.{indices, conditions, expressions, statements_mention, is_well_formed, keeps_yield_rule}
use Rattle.pgo_bound.specs.Among.{IsAmong, among_left, among_right, among_append, none_any, turned}
use Rattle.pgo_model.specs.Names.{is_among}
use Rattle.pgo_sections.specs.Code.{content_name, value_name}
use Rattle.pgo_expr_write.specs.WellFormed.{IsName}
use Rattle.pgo_agrees.proofs.Unlabelled.{with_inside_is}
use Rattle.pgo_written.specs.Formed.{Formed, AllFormed, SomeFormed, TwoFormed, NamedFormed, SomeNamedFormed, ArmsFormed, SomeArmsFormed, BoundFormed, SomeBoundFormed, PathsFormed, SomePathsFormed, RangeFormed}
use Rattle.pgo_written.specs.FormedStatements.{Known, OriginFormed, PathFormed, AssignmentsFormed, WithsFormed, in_with, EachTree, CallFormed, StatementFormed, EachFormed, LabeledFormed, GuardedFormed}
use Rattle.pgo_written.proofs.FormedTrees.{either_way}
use Rattle.pgo_written.proofs.FormedSections.{one_of}

-- ---- expressions

module _ (v : Name) where
  -- it is none of these names
  abbrev Free : List Name → Type 0
  Free xs = (y : Name) → IsAmong y xs → same_name v y ≡ false

  left : (xs ys : List Name) → Free (xs ++ ys) → Free xs
  left xs ys g y m = g y (among_left y xs ys m)

  right : (xs ys : List Name) → Free (xs ++ ys) → Free ys
  right xs ys g y m = g y (among_right y xs ys m)

  free_of : (t : Tree) → mentions v t ≡ false → Free (names_in t)
  free_of t h y m = none_any (same_name v) y (names_in t) h m

  module _ (N M : Name → Type 0) (up : (x : Name) → same_name v x ≡ false → N x → M x) where
    mutual
      pub less : (t : Tree) → Free (names_in t) → Formed N t → Formed M t
      less (name x) g h = up x (g x (inl refl)) h
      less (primed x) g h = h
      less (number z) g h = h
      less (text s) g h = h
      less (truth b) g h = h
      less at g h = h
      less (word w) g h = h
      less (unchanged xs) g h = h
      less (unary p a) g h = less a g h
      less (binary p a b) g h = (less a (left (names_in a) (names_in b) g) h.0, either_way h.1 (λ e. e) (λ k. less b (right (names_in a) (names_in b) g) k))
      less (product ts) g h = two_less ts g h
      less (cond_of p a b) g h =
          let r = left (names_in p ++ names_in a) (names_in b) g in
          (less p (left (names_in p) (names_in a) r) h.0, less a (right (names_in p) (names_in a) r) h.1, less b (right (names_in p ++ names_in a) (names_in b) g) h.2)
      less (case_of gs) g h = some_arms_less gs g h
      less (case_other gs e) g h = (some_arms_less gs (left (names_in_arms gs) (names_in e) g) h.0, less e (right (names_in_arms gs) (names_in e) g) h.1)
      less (let_in ds e) g h = (some_named_less ds (left (names_in_named ds) (names_in e) g) h.0, less e (right (names_in_named ds) (names_in e) g) h.1)
      less (quantified q bs p) g h = (some_bound_less bs (left (names_in_bound bs) (names_in p) g) h.0, less p (right (names_in_bound bs) (names_in p) g) h.1)
      less (choose x r p) g h = (h.0, either_way h.1 (λ e. e) (λ k. less r (left (names_in r) (names_in p) g) k), less p (right (names_in r) (names_in p) g) h.2)
      less (tuple ts) g h = all_less ts g h
      less (set_of ts) g h = all_less ts g h
      less (filter_of x r p) g h = (h.0, either_way h.1 (λ e. e) (λ k. less r (left (names_in r) (names_in p) g) k), less p (right (names_in r) (names_in p) g) h.2)
      less (image e x r) g h = (less e (left (names_in e) (names_in r) g) h.0, h.1, either_way h.2 (λ e. e) (λ k. less r (right (names_in e) (names_in r) g) k))
      less (fun_of bs e) g h = (some_bound_less bs (left (names_in_bound bs) (names_in e) g) h.0, less e (right (names_in_bound bs) (names_in e) g) h.1)
      less (fun_set a b) g h = (less a (left (names_in a) (names_in b) g) h.0, less b (right (names_in a) (names_in b) g) h.1)
      less (record_of ds) g h = some_named_less ds g h
      less (record_set ds) g h = some_named_less ds g h
      less (except f us) g h = (less f (left (names_in f) (names_in_paths us) g) h.0, some_paths_less us (right (names_in f) (names_in_paths us) g) h.1)
      less (index f ts) g h = (less f (left (names_in f) (names_in_all ts) g) h.0, some_less ts (right (names_in f) (names_in_all ts) g) h.1)
      less (field r x) g h = (less r g h.0, h.1)
      less (call x ts) g h = (h.0, some_less ts g h.1)

      all_less : (ts : Trees) → Free (names_in_all ts) → AllFormed N ts → AllFormed M ts
      all_less no_trees g h = tt
      all_less (more_trees t ts) g h = (less t (left (names_in t) (names_in_all ts) g) h.0, all_less ts (right (names_in t) (names_in_all ts) g) h.1)

      some_less : (ts : Trees) → Free (names_in_all ts) → SomeFormed N ts → SomeFormed M ts
      some_less no_trees g h = absurd h
      some_less (more_trees t ts) g h = (less t (left (names_in t) (names_in_all ts) g) h.0, all_less ts (right (names_in t) (names_in_all ts) g) h.1)

      two_less : (ts : Trees) → Free (names_in_all ts) → TwoFormed N ts → TwoFormed M ts
      two_less no_trees g h = absurd h
      two_less (more_trees t ts) g h = (less t (left (names_in t) (names_in_all ts) g) h.0, some_less ts (right (names_in t) (names_in_all ts) g) h.1)

      named_less : (ts : NamedTrees) → Free (names_in_named ts) → NamedFormed N ts → NamedFormed M ts
      named_less no_named g h = tt
      named_less (more_named x t ts) g h = (h.0, less t (left (names_in t) (names_in_named ts) g) h.1, named_less ts (right (names_in t) (names_in_named ts) g) h.2)

      some_named_less : (ts : NamedTrees) → Free (names_in_named ts) → SomeNamedFormed N ts → SomeNamedFormed M ts
      some_named_less no_named g h = absurd h
      some_named_less (more_named x t ts) g h = (h.0, less t (left (names_in t) (names_in_named ts) g) h.1, named_less ts (right (names_in t) (names_in_named ts) g) h.2)

      arms_less : (ts : TreePairs) → Free (names_in_arms ts) → ArmsFormed N ts → ArmsFormed M ts
      arms_less no_arms g h = tt
      arms_less (more_arms d e ts) g h =
          let r = left (names_in d ++ names_in e) (names_in_arms ts) g in
          (less d (left (names_in d) (names_in e) r) h.0, less e (right (names_in d) (names_in e) r) h.1, arms_less ts (right (names_in d ++ names_in e) (names_in_arms ts) g) h.2)

      some_arms_less : (ts : TreePairs) → Free (names_in_arms ts) → SomeArmsFormed N ts → SomeArmsFormed M ts
      some_arms_less no_arms g h = absurd h
      some_arms_less (more_arms d e ts) g h =
          let r = left (names_in d ++ names_in e) (names_in_arms ts) g in
          (less d (left (names_in d) (names_in e) r) h.0, less e (right (names_in d) (names_in e) r) h.1, arms_less ts (right (names_in d ++ names_in e) (names_in_arms ts) g) h.2)

      bound_less : (ts : BoundTrees) → Free (names_in_bound ts) → BoundFormed N ts → BoundFormed M ts
      bound_less no_bound g h = tt
      bound_less (more_bound xs r ts) g h = (h.0, either_way h.1 (λ e. e) (λ k. less r (left (names_in r) (names_in_bound ts) g) k), bound_less ts (right (names_in r) (names_in_bound ts) g) h.2)

      some_bound_less : (ts : BoundTrees) → Free (names_in_bound ts) → SomeBoundFormed N ts → SomeBoundFormed M ts
      some_bound_less no_bound g h = absurd h
      some_bound_less (more_bound xs r ts) g h = (h.0, either_way h.1 (λ e. e) (λ k. less r (left (names_in r) (names_in_bound ts) g) k), bound_less ts (right (names_in r) (names_in_bound ts) g) h.2)

      paths_less : (ts : PathTrees) → Free (names_in_paths ts) → PathsFormed N ts → PathsFormed M ts
      paths_less no_paths g h = tt
      paths_less (more_paths ps e ts) g h =
          let r = left (names_in_all ps ++ names_in e) (names_in_paths ts) g in
          (some_less ps (left (names_in_all ps) (names_in e) r) h.0, less e (right (names_in_all ps) (names_in e) r) h.1, paths_less ts (right (names_in_all ps ++ names_in e) (names_in_paths ts) g) h.2)

      some_paths_less : (ts : PathTrees) → Free (names_in_paths ts) → SomePathsFormed N ts → SomePathsFormed M ts
      some_paths_less no_paths g h = absurd h
      some_paths_less (more_paths ps e ts) g h =
          let r = left (names_in_all ps ++ names_in e) (names_in_paths ts) g in
          (some_less ps (left (names_in_all ps) (names_in e) r) h.0, less e (right (names_in_all ps) (names_in e) r) h.1, paths_less ts (right (names_in_all ps ++ names_in e) (names_in_paths ts) g) h.2)

-- ---- statements

-- `$value` is in none of these expressions
abbrev NoneAbout : List Tree → Type 0
NoneAbout es = (e : Tree) → IsAmong e es → mentions value_name e ≡ false

about_left : (xs ys : List Tree) → NoneAbout (xs ++ ys) → NoneAbout xs
about_left xs ys g e m = g e (among_left e xs ys m)

about_right : (xs ys : List Tree) → NoneAbout (xs ++ ys) → NoneAbout ys
about_right xs ys g e m = g e (among_right e xs ys m)

abbrev expressions_in : List Item → List Tree
expressions_in is = flat_map (λ i. expressions i.1) is

-- the expressions of a statement and those within it
abbrev NoneIn : List Item → Type 0
NoneIn is = NoneAbout (expressions_in is)

none_front : (is js : List Item) → NoneIn (is ++ js) → NoneIn is
none_front [] js g e m = absurd m
none_front (i ∷ is) js g e m =
    one_of (among_append e (expressions i.1) (expressions_in is) m) (λ k. about_left (expressions i.1) (expressions_in (is ++ js)) g e k) (λ k. none_front is js (about_right (expressions i.1) (expressions_in (is ++ js)) g) e k)

none_behind : (is js : List Item) → NoneIn (is ++ js) → NoneIn js
none_behind [] js g = g
none_behind (i ∷ is) js g = none_behind is js (about_right (expressions i.1) (expressions_in (is ++ js)) g)

own_none : (i : Item) (is : List Item) → NoneIn (i ∷ is) → NoneAbout (expressions i.1)
own_none i is g = about_left (expressions i.1) (expressions_in is) g

rest_none : (i : Item) (is : List Item) → NoneIn (i ∷ is) → NoneIn is
rest_none i is g = about_right (expressions i.1) (expressions_in is) g

-- names that stand without `$value` where they stood with it
abbrev Fewer : List Name → List Name → Type 0
Fewer ns ms = (x : Name) → same_name value_name x ≡ false → Known ns x → Known ms x

fewer_more : (z : Name) (ns ms : List Name) → Fewer ns ms → Fewer (z ∷ ns) (z ∷ ms)
fewer_more z ns ms f x e (inl n) = inl n
fewer_more z ns ms f x e (inr h) = go (same_name x z) h
  where
    go : (b : Bool) → b || is_among x ns ≡ true → IsName x ⊎ (b || is_among x ms ≡ true)
    go true k = inr refl
    go false k = f x e (inr k)

expression_less : (ns ms : List Name) → Fewer ns ms → (e : Tree) → mentions value_name e ≡ false → Formed (Known ns) e → Formed (Known ms) e
expression_less ns ms f e g h = less value_name (Known ns) (Known ms) f e (free_of value_name e g) h

range_less : (ns ms : List Name) → Fewer ns ms → (e : Tree) → mentions value_name e ≡ false → RangeFormed (Known ns) e → RangeFormed (Known ms) e
range_less ns ms f e g h = either_way h (λ w. w) (expression_less ns ms f e g)

path_less : (ns ms : List Name) → Fewer ns ms → (ss : List Step) → NoneAbout (indices ss) → PathFormed ns ss → PathFormed ms ss
path_less ns ms f [] g h = tt
path_less ns ms f (step.Index e ∷ ss) g h = (expression_less ns ms f e (g e (inl refl)) h.0, path_less ns ms f ss (λ d m. g d (inr m)) h.1)
path_less ns ms f (step.Field x ∷ ss) g h = (h.0, path_less ns ms f ss g h.1)

assignments_less : (ns ms : List Name) → Fewer ns ms → (as' : List Assignment) → NoneAbout (flat_map (λ a. indices a.left.path ++ a.right ∷ []) as') → AssignmentsFormed ns as' → AssignmentsFormed ms as'
assignments_less ns ms f [] g h = tt
assignments_less ns ms f (a ∷ as') g h =
    let further = flat_map (λ (a : Assignment). indices a.left.path ++ a.right ∷ []) as' in
    let own = about_left (indices a.left.path ++ a.right ∷ []) further g in
    (path_less ns ms f a.left.path (about_left (indices a.left.path) (a.right ∷ []) own) h.0, expression_less ns ms f a.right (about_right (indices a.left.path) (a.right ∷ []) own a.right (inl refl)) h.1, assignments_less ns ms f as' (about_right (indices a.left.path ++ a.right ∷ []) further g) h.2)

origin_less : (ns ms : List Name) → Fewer ns ms → (o : Origin) → mentions value_name (origin_tree o) ≡ false → OriginFormed ns o → OriginFormed ms o
origin_less ns ms f (Equals e) g h = expression_less ns ms f e g h
origin_less ns ms f (In e) g h = range_less ns ms f e g h

withs_less : (ns ms : List Name) → Fewer ns ms → (ws : List WithName) → NoneAbout (map (λ w. origin_tree w.origin) ws) → WithsFormed ns ws → WithsFormed ms ws
withs_less ns ms f [] g h = tt
withs_less ns ms f (w ∷ ws) g h =
    (h.0, origin_less ns ms f w.origin (g (origin_tree w.origin) (inl refl)) h.1, withs_less (w.name.name ∷ ns) (w.name.name ∷ ms) (fewer_more w.name.name ns ms f) ws (λ e m. g e (inr m)) h.2)

fewer_with : (ns ms : List Name) (ws : List WithName) → Fewer ns ms → Fewer (in_with ns ws) (in_with ms ws)
fewer_with ns ms [] f = f
fewer_with ns ms (w ∷ ws) f = fewer_with (w.name.name ∷ ns) (w.name.name ∷ ms) ws (fewer_more w.name.name ns ms f)

trees_less : (ns ms : List Name) → Fewer ns ms → (ts : List Tree) → NoneAbout ts → EachTree ns ts → EachTree ms ts
trees_less ns ms f [] g h = tt
trees_less ns ms f (t ∷ ts) g h = (expression_less ns ms f t (g t (inl refl)) h.0, trees_less ns ms f ts (λ e m. g e (inr m)) h.1)

call_less : (c : Bool) (ns ms : List Name) → Fewer ns ms → (ts : List Tree) → NoneAbout ts → CallFormed c ns ts → CallFormed c ms ts
call_less true ns ms f ts g h = trees_less ns ms f ts g h
call_less false ns ms f ts g h = tt

mutual
  statement_less : (t : Statement) (c b : Bool) (ns ms : List Name) → Fewer ns ms → NoneAbout (expressions t) → NoneIn (inside t) → StatementFormed c b ns t → StatementFormed c b ms t
  statement_less (skip p) c b ns ms f g k h = tt
  statement_less (assign p as') c b ns ms f g k h = assignments_less ns ms f as' g h
  statement_less (if_then p bs) c b ns ms f g k h = guarded_less bs c b ns ms f g k h
  statement_less (if_else p bs t) c b ns ms f g k h =
      let r = none_behind (inside_guarded bs) ((None, t) ∷ inside t) k in
      (guarded_less bs c b ns ms f g (none_front (inside_guarded bs) ((None, t) ∷ inside t) k) h.0, statement_less t c b ns ms f (own_none (None, t) (inside t) r) (rest_none (None, t) (inside t) r) h.1)
  statement_less (while_do p e t) c b ns ms f g k h =
      (expression_less ns ms f e (g e (inl refl)) h.0, statement_less t c b ns ms f (own_none (None, t) (inside t) k) (rest_none (None, t) (inside t) k) h.1)
  statement_less (either_of p ts) c b ns ms f g k h = each_less ts c b ns ms f k h
  statement_less (await_that p e) c b ns ms f g k h = expression_less ns ms f e (g e (inl refl)) h
  statement_less (with_in p ws t) c b ns ms f g k h =
      let own = own_none (None, t) (inside t) k in
      let further = rest_none (None, t) (inside t) k in
      let more = fewer_with ns ms ws f in
      (withs_less ns ms f ws g h.0, one_of h.1 (λ q. inl (q.0, statement_less t c b (in_with ns ws) (in_with ms ws) more own further q.1)) (λ q. inr (statement_less t c false (in_with ns ws) (in_with ms ws) more own further q)))
  statement_less (print_out p e) c b ns ms f g k h = expression_less ns ms f e (g e (inl refl)) h
  statement_less (assert_that p e) c b ns ms f g k h = expression_less ns ms f e (g e (inl refl)) h
  statement_less (go_to p l) c b ns ms f g k h = h
  statement_less (call_macro p m ts) c b ns ms f g k h = call_less c ns ms f ts g h
  statement_less (yield_as p e) c b ns ms f g k h = expression_less ns ms f e (g e (inl refl)) h
  statement_less (block p ls) c b ns ms f g k h = labeled_less ls c b ns ms f k h

  each_less : (ts : Statements) (c b : Bool) (ns ms : List Name) → Fewer ns ms → NoneIn (inside_all ts) → EachFormed c b ns ts → EachFormed c b ms ts
  each_less no_statements c b ns ms f k h = tt
  each_less (more_statements t ts) c b ns ms f k h =
      let r = rest_none (None, t) (inside t ++ inside_all ts) k in
      (statement_less t c b ns ms f (own_none (None, t) (inside t ++ inside_all ts) k) (none_front (inside t) (inside_all ts) r) h.0, each_less ts c b ns ms f (none_behind (inside t) (inside_all ts) r) h.1)

  labeled_less : (ls : LabeledStatements) (c b : Bool) (ns ms : List Name) → Fewer ns ms → NoneIn (inside_labeled ls) → LabeledFormed c b ns ls → LabeledFormed c b ms ls
  labeled_less no_labeled c b ns ms f k h = tt
  labeled_less (more_labeled x t ls) c b ns ms f k h =
      let r = rest_none (x, t) (inside t ++ inside_labeled ls) k in
      (h.0, statement_less t c b ns ms f (own_none (x, t) (inside t ++ inside_labeled ls) k) (none_front (inside t) (inside_labeled ls) r) h.1, labeled_less ls c b ns ms f (none_behind (inside t) (inside_labeled ls) r) h.2)

  guarded_less : (bs : GuardedStatements) (c b : Bool) (ns ms : List Name) → Fewer ns ms → NoneAbout (conditions bs) → NoneIn (inside_guarded bs) → GuardedFormed c b ns bs → GuardedFormed c b ms bs
  guarded_less no_guarded c b ns ms f g k h = tt
  guarded_less (more_guarded p e t bs) c b ns ms f g k h =
      let r = rest_none (None, t) (inside t ++ inside_guarded bs) k in
      (expression_less ns ms f e (g e (inl refl)) h.0, statement_less t c b ns ms f (own_none (None, t) (inside t ++ inside_guarded bs) k) (none_front (inside t) (inside_guarded bs) r) h.1, guarded_less bs c b ns ms f (λ d m. g d (inr m)) (none_behind (inside t) (inside_guarded bs) r) h.2)

-- ---- the `read` of a mapping macro

not_true : (b : Bool) → not b ≡ true → b ≡ false
not_true true h = absurd (cc)
not_true false h = refl

without_value : Fewer (content_name ∷ value_name ∷ []) (content_name ∷ [])
without_value x e (inl n) = inl n
without_value x e (inr h) = go (same_name x content_name) (same_name x value_name) (turned value_name x e) h
  where
    go : (a b : Bool) → b ≡ false → a || (b || false) ≡ true → IsName x ⊎ (a || false ≡ true)
    go true b f k = inr refl
    go false true f k = absurd (cc)
    go false false f k = absurd (cc)

pub read_without_value : (m : MappingMacro) → keeps_yield_rule m ≡ true → LabeledFormed true true (content_name ∷ value_name ∷ []) (labeled m.read) → LabeledFormed true true (content_name ∷ []) (labeled m.read)
read_without_value m h g =
    let about = statements_mention (codes "$value") (with_inside m.read) in
    let none = not_true about (and_parts (is_well_formed m.read && is_well_formed m.write) (not about) h).1 in
    let all : NoneIn (with_inside m.read) = λ e k. none_any (mentions value_name) e (expressions_in (with_inside m.read)) none k in
    labeled_less (labeled m.read) true true (content_name ∷ value_name ∷ []) (content_name ∷ []) without_value (subst NoneIn (with_inside_is m.read) all) g

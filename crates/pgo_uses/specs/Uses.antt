-- The names that stand in an expression, in the order of the text, each with what is known at its place.
use Rattle.std.specs.Prelude.{ℕ, suc, true, false, List, [], ◌∷◌, ◌++◌}
use Rattle.pgo_base.specs.Tree.{Tree, name, primed, number, text, truth, at, word, unary, binary, product, cond_of, case_of, case_other, let_in, quantified, choose, tuple, set_of, filter_of, image, fun_of, fun_set, record_of, record_set, except, index, field, call, unchanged, Trees, no_trees, more_trees, NamedTrees, no_named, more_named, TreePairs, no_arms, more_arms, BoundTrees, no_bound, more_bound, PathTrees, no_paths, more_paths}
pub use Rattle.pgo_base.specs.BoundNames.{let_names, binder_names}
use Rattle.pgo_base.specs.Lookup.{Name}
use Rattle.pgo_model.specs.Names.{is_among}
use Rattle.pgo_uses.specs.declared.uses.Around.{Around}
use Rattle.pgo_uses.specs.declared.uses.Form.{Form}
use Rattle.pgo_uses.specs.declared.uses.Form.TheVariants.{Alone, Applied, Bound, Field}
use Rattle.pgo_uses.specs.declared.uses.Use.{Use}

-- one name, where these names are in scope
abbrev pub one : List Name → Around → Name → Form → List Use
one ns a x f = record { name = x; form = f; inner = is_among x ns; around = a } ∷ []

-- in an operand
abbrev pub inside : Around → Around
inside a = record a { indexed = false }

-- in an operand that is evaluated with some values of the names only, or not always: under a binder, in an arm or a later
-- guard of IF or CASE, in a LET
abbrev pub hide : Around → Around
hide a = record a { hidden = true; indexed = false }

-- directly before one index
abbrev pub indexed_by : Trees → Around → Around
indexed_by no_trees a = inside a
indexed_by (more_trees t no_trees) a = record a { indexed = true }
indexed_by (more_trees t (more_trees u us)) a = inside a

abbrev pub count_trees : Trees → ℕ
count_trees no_trees = 0
count_trees (more_trees t ts) = suc (count_trees ts)

-- names that are bound one after another, each in the scope of those before it
abbrev pub bound_uses : List Name → Around → List Name → List Use
bound_uses ns a [] = []
bound_uses ns a (x ∷ xs) = one ns a x Bound ++ bound_uses (ns ++ x ∷ []) a xs

abbrev mutual
  pub uses : List Name → Around → Tree → List Use
  uses ns a (name x) = one ns a x Alone
  -- a primed name and UNCHANGED stand in no specification
  uses ns a (primed x) = []
  uses ns a (number z) = []
  uses ns a (text s) = []
  uses ns a (truth b) = []
  uses ns a at = []
  uses ns a (word w) = []
  uses ns a (unary o t) = uses ns (inside a) t
  uses ns a (binary o t u) = uses ns (inside a) t ++ uses ns (inside a) u
  uses ns a (product ts) = uses_of_all ns (inside a) ts
  uses ns a (cond_of p t u) = uses ns (inside a) p ++ uses ns (hide a) t ++ uses ns (hide a) u
  uses ns a (case_of gs) = uses_of_arms ns (inside a) (hide a) gs
  uses ns a (case_other gs t) = uses_of_arms ns (inside a) (hide a) gs ++ uses ns (hide a) t
  uses ns a (let_in ds t) = uses_of_let ns a ds ++ uses (ns ++ let_names ds) (hide a) t
  uses ns a (quantified q bs p) = uses_of_binders ns ns a bs ++ uses (ns ++ binder_names bs) (hide a) p
  uses ns a (choose x r p) = one ns a x Bound ++ uses ns (inside a) r ++ uses (ns ++ x ∷ []) (hide a) p
  uses ns a (tuple ts) = uses_of_all ns (inside a) ts
  uses ns a (set_of ts) = uses_of_all ns (inside a) ts
  uses ns a (filter_of x r p) = one ns a x Bound ++ uses ns (inside a) r ++ uses (ns ++ x ∷ []) (hide a) p
  uses ns a (image t x r) = uses (ns ++ x ∷ []) (hide a) t ++ one ns a x Bound ++ uses ns (inside a) r
  uses ns a (fun_of bs t) = uses_of_binders ns ns a bs ++ uses (ns ++ binder_names bs) (hide a) t
  uses ns a (fun_set t u) = uses ns (inside a) t ++ uses ns (inside a) u
  uses ns a (record_of ds) = uses_of_fields ns a ds
  uses ns a (record_set ds) = uses_of_fields ns a ds
  uses ns a (except t us) = uses ns (inside a) t ++ uses_of_updates ns (inside a) us
  uses ns a (index t ts) = uses ns (indexed_by ts a) t ++ uses_of_all ns (inside a) ts
  uses ns a (field t x) = uses ns (inside a) t ++ one ns a x Field
  uses ns a (call x ts) = one ns a x (Applied (count_trees ts)) ++ uses_of_all ns (inside a) ts
  uses ns a (unchanged xs) = []

  pub uses_of_all : List Name → Around → Trees → List Use
  uses_of_all ns a no_trees = []
  uses_of_all ns a (more_trees t ts) = uses ns a t ++ uses_of_all ns a ts

  -- the fields of a record or of a set of records
  pub uses_of_fields : List Name → Around → NamedTrees → List Use
  uses_of_fields ns a no_named = []
  uses_of_fields ns a (more_named x t ds) = one ns a x Field ++ uses ns (inside a) t ++ uses_of_fields ns a ds

  -- the first guard as at g, the rest as at h
  pub uses_of_arms : List Name → Around → Around → TreePairs → List Use
  uses_of_arms ns g h no_arms = []
  uses_of_arms ns g h (more_arms p t gs) = uses ns g p ++ uses ns h t ++ uses_of_arms ns h h gs

  -- each definition of a LET sees those before it
  pub uses_of_let : List Name → Around → NamedTrees → List Use
  uses_of_let ns a no_named = []
  uses_of_let ns a (more_named x t ds) = one ns a x Bound ++ uses ns (hide a) t ++ uses_of_let (ns ++ x ∷ []) a ds

  -- the names of binders are bound one after another, behind ms; each set sees the names outside alone
  pub uses_of_binders : List Name → List Name → Around → BoundTrees → List Use
  uses_of_binders ns ms a no_bound = []
  uses_of_binders ns ms a (more_bound xs r bs) = bound_uses ms a xs ++ uses ns (inside a) r ++ uses_of_binders ns (ms ++ xs) a bs

  -- the changes of an EXCEPT; a step `.f` of a path is the string "f"
  pub uses_of_updates : List Name → Around → PathTrees → List Use
  uses_of_updates ns a no_paths = []
  uses_of_updates ns a (more_paths ps t us) = uses_of_all ns a ps ++ uses ns a t ++ uses_of_updates ns a us

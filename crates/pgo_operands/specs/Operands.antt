-- The expressions that stand directly in an expression, in the order of the text.
use Rattle.std.specs.Prelude.{List, [], ◌∷◌, ◌++◌, map}
use denote.Ref.{Bor}
use Rattle.pgo_base.specs.declared.expr.Expr.{Expr}
use Rattle.pgo_base.specs.ExprView.{tree}
use Rattle.pgo_base.specs.Tree.{Tree, name, primed, number, text, truth, at, word, unary, binary, product, cond_of, case_of, case_other, let_in, quantified, choose, tuple, set_of, filter_of, image, fun_of, fun_set, record_of, record_set, except, index, field, call, unchanged, Trees, no_trees, more_trees, NamedTrees, no_named, more_named, TreePairs, no_arms, more_arms, BoundTrees, no_bound, more_bound, PathTrees, no_paths, more_paths}

-- expressions that are lent in a list
abbrev pub lent_trees : List (Bor Expr) → List Tree
lent_trees es = map (λ e. tree e.now) es

abbrev pub members : Trees → List Tree
members no_trees = []
members (more_trees t ts) = t ∷ members ts

abbrev pub named_members : NamedTrees → List Tree
named_members no_named = []
named_members (more_named x t ts) = t ∷ named_members ts

abbrev pub arm_members : TreePairs → List Tree
arm_members no_arms = []
arm_members (more_arms g e gs) = g ∷ e ∷ arm_members gs

abbrev pub bound_members : BoundTrees → List Tree
bound_members no_bound = []
bound_members (more_bound xs r bs) = r ∷ bound_members bs

abbrev pub path_members : PathTrees → List Tree
path_members no_paths = []
path_members (more_paths ps e us) = members ps ++ e ∷ path_members us

abbrev pub operands : Tree → List Tree
operands (name x) = []
operands (primed x) = []
operands (number z) = []
operands (text s) = []
operands (truth b) = []
operands at = []
operands (word w) = []
operands (unary o a) = a ∷ []
operands (binary o a b) = a ∷ b ∷ []
operands (product ts) = members ts
operands (cond_of p a b) = p ∷ a ∷ b ∷ []
operands (case_of gs) = arm_members gs
operands (case_other gs e) = arm_members gs ++ e ∷ []
operands (let_in ds e) = named_members ds ++ e ∷ []
operands (quantified q bs p) = bound_members bs ++ p ∷ []
operands (choose x r p) = r ∷ p ∷ []
operands (tuple ts) = members ts
operands (set_of ts) = members ts
operands (filter_of x r p) = r ∷ p ∷ []
operands (image e x r) = e ∷ r ∷ []
operands (fun_of bs e) = bound_members bs ++ e ∷ []
operands (fun_set a b) = a ∷ b ∷ []
operands (record_of ds) = named_members ds
operands (record_set ds) = named_members ds
operands (except f us) = f ∷ path_members us
operands (index f ts) = f ∷ members ts
operands (field r x) = r ∷ []
operands (call x ts) = members ts
operands (unchanged xs) = []

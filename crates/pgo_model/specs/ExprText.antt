-- The canonical text of an expression: each operator's application and each open form stands in `( )`, but for the
-- outermost of a definition's body or of a bullet's item.
use Rattle.std.specs.Prelude.{ℕ, Bool, true, false, if◌then◌else◌, List, [], ◌∷◌, ◌++◌, codes}
use Rattle.std.specs.Fmt.{signed_decimal}
use Rattle.pgo_base.specs.declared.expr.Prefix.{Prefix}
use Rattle.pgo_base.specs.declared.expr.Infix.{Infix}
use Rattle.pgo_base.specs.declared.expr.Quantifier.{Quantifier}
use Rattle.pgo_base.specs.declared.expr.Word.{Word}
use Rattle.pgo_base.specs.declared.expr.Prefix.TheVariants as prefixs
use Rattle.pgo_base.specs.declared.expr.Infix.TheVariants as infixs
use Rattle.pgo_base.specs.declared.expr.Quantifier.TheVariants as quantifiers
use Rattle.pgo_base.specs.declared.expr.Word.TheVariants as words
use Rattle.pgo_base.specs.Tree.{Tree, name, primed, number, text, truth, at, word, unary, binary, product, cond_of, case_of, case_other, let_in, quantified, choose, tuple, set_of, filter_of, image, fun_of, fun_set, record_of, record_set, except, index, field, call, unchanged, Trees, no_trees, more_trees, NamedTrees, no_named, more_named, TreePairs, no_arms, more_arms, BoundTrees, no_bound, more_bound, PathTrees, no_paths, more_paths}
use Rattle.pgo_base.specs.Data.{string}
use Rattle.pgo_base.specs.Lookup.{Name}
use Rattle.pgo_model.specs.ValueText.{string_text, truth_text, is_field}

-- none stands after `-` and `~`, one blank after the others
abbrev pub prefix_text : Prefix → List ℕ
prefix_text prefixs.Not = codes "~"
prefix_text prefixs.Minus = codes "-"
prefix_text prefixs.Powerset = codes "SUBSET "
prefix_text prefixs.Flatten = codes "UNION "
prefix_text prefixs.Domain = codes "DOMAIN "

abbrev pub infix_text : Infix → List ℕ
infix_text infixs.Implies = codes " => "
infix_text infixs.Iff = codes " <=> "
infix_text infixs.And = codes " /\\ "
infix_text infixs.Or = codes " \\/ "
infix_text infixs.Equal = codes " = "
infix_text infixs.Differs = codes " # "
infix_text infixs.Less = codes " < "
infix_text infixs.Greater = codes " > "
infix_text infixs.AtMost = codes " =< "
infix_text infixs.AtLeast = codes " >= "
infix_text infixs.In = codes " \\in "
infix_text infixs.NotIn = codes " \\notin "
infix_text infixs.SubsetEq = codes " \\subseteq "
infix_text infixs.Merge = codes " @@ "
infix_text infixs.Single = codes " :> "
infix_text infixs.Union = codes " \\cup "
infix_text infixs.Intersect = codes " \\cap "
infix_text infixs.Without = codes " \\ "
infix_text infixs.Range = codes " .. "
infix_text infixs.Add = codes " + "
infix_text infixs.Subtract = codes " - "
infix_text infixs.Modulo = codes " % "
infix_text infixs.Multiply = codes " * "
infix_text infixs.Concat = codes " \\o "
infix_text infixs.Divide = codes " \\div "

abbrev pub quantifier_text : Quantifier → List ℕ
quantifier_text quantifiers.Exists = codes "\\E "
quantifier_text quantifiers.Forall = codes "\\A "

abbrev pub word_text : Word → List ℕ
word_text words.BooleanSet = codes "BOOLEAN"
word_text words.Nat = codes "Nat"
word_text words.Int = codes "Int"
word_text words.StringSet = codes "STRING"

-- in `( )`, but for an outermost expression
abbrev pub enclosed : Bool → List ℕ → List ℕ
enclosed true t = t
enclosed false t = codes "(" ++ t ++ codes ")"

abbrev pub names_text : List Name → List ℕ
names_text [] = []
names_text (x ∷ []) = x
names_text (x ∷ (y ∷ ys)) = x ++ codes ", " ++ names_text (y ∷ ys)

abbrev mutual
  -- `outer` says that the expression is an outermost one
  pub expr_text : (outer : Bool) → Tree → List ℕ
  expr_text o (name x) = x
  expr_text o (primed x) = x ++ codes "'"
  expr_text o (number z) = signed_decimal z
  expr_text o (text s) = string_text s
  expr_text o (truth b) = truth_text b
  expr_text o at = codes "@"
  expr_text o (word w) = word_text w
  expr_text o (unary p a) = enclosed o (prefix_text p ++ expr_text false a)
  expr_text o (binary p a b) = enclosed o (expr_text false a ++ infix_text p ++ expr_text false b)
  expr_text o (product ts) = enclosed o (product_text ts)
  expr_text o (cond_of p a b) =
      enclosed o (codes "IF " ++ expr_text false p ++ codes " THEN " ++ expr_text false a ++ codes " ELSE " ++ expr_text false b)
  expr_text o (case_of gs) = enclosed o (codes "CASE " ++ arms_text gs)
  expr_text o (case_other gs e) = enclosed o (codes "CASE " ++ arms_text gs ++ codes " [] OTHER -> " ++ expr_text false e)
  expr_text o (let_in ds e) = enclosed o (codes "LET " ++ lets_text ds ++ codes " IN " ++ expr_text false e)
  expr_text o (quantified q bs p) = enclosed o (quantifier_text q ++ binders_text bs ++ codes " : " ++ expr_text false p)
  expr_text o (choose x r p) =
      enclosed o (codes "CHOOSE " ++ x ++ codes " \\in " ++ expr_text false r ++ codes " : " ++ expr_text false p)
  expr_text o (tuple ts) = codes "<<" ++ list_text ts ++ codes ">>"
  expr_text o (set_of ts) = codes "{" ++ list_text ts ++ codes "}"
  expr_text o (filter_of x r p) = codes "{" ++ x ++ codes " \\in " ++ expr_text false r ++ codes " : " ++ expr_text false p ++ codes "}"
  expr_text o (image e x r) = codes "{" ++ expr_text false e ++ codes " : " ++ x ++ codes " \\in " ++ expr_text false r ++ codes "}"
  expr_text o (fun_of bs e) = codes "[" ++ binders_text bs ++ codes " |-> " ++ expr_text false e ++ codes "]"
  expr_text o (fun_set a b) = codes "[" ++ expr_text false a ++ codes " -> " ++ expr_text false b ++ codes "]"
  expr_text o (record_of ds) = codes "[" ++ fields_text (codes " |-> ") ds ++ codes "]"
  expr_text o (record_set ds) = codes "[" ++ fields_text (codes " : ") ds ++ codes "]"
  expr_text o (except f us) = codes "[" ++ expr_text false f ++ codes " EXCEPT " ++ updates_text us ++ codes "]"
  expr_text o (index f ts) = expr_text false f ++ codes "[" ++ list_text ts ++ codes "]"
  expr_text o (field r x) = expr_text false r ++ codes "." ++ x
  expr_text o (call x ts) = x ++ codes "(" ++ list_text ts ++ codes ")"
  expr_text o (unchanged xs) = codes "UNCHANGED <<" ++ names_text xs ++ codes ">>"

  -- with commas between them
  pub list_text : Trees → List ℕ
  list_text no_trees = []
  list_text (more_trees t no_trees) = expr_text false t
  list_text (more_trees t (more_trees u us)) = expr_text false t ++ codes ", " ++ list_text (more_trees u us)

  pub product_text : Trees → List ℕ
  product_text no_trees = []
  product_text (more_trees t no_trees) = expr_text false t
  product_text (more_trees t (more_trees u us)) = expr_text false t ++ codes " \\X " ++ product_text (more_trees u us)

  pub arms_text : TreePairs → List ℕ
  arms_text no_arms = []
  arms_text (more_arms g e no_arms) = expr_text false g ++ codes " -> " ++ expr_text false e
  arms_text (more_arms g e (more_arms h f hs)) =
      expr_text false g ++ codes " -> " ++ expr_text false e ++ codes " [] " ++ arms_text (more_arms h f hs)

  pub lets_text : NamedTrees → List ℕ
  lets_text no_named = []
  lets_text (more_named x t no_named) = x ++ codes " == " ++ expr_text false t
  lets_text (more_named x t (more_named y u us)) = x ++ codes " == " ++ expr_text false t ++ codes " " ++ lets_text (more_named y u us)

  pub fields_text : List ℕ → NamedTrees → List ℕ
  fields_text sign no_named = []
  fields_text sign (more_named x t no_named) = x ++ sign ++ expr_text false t
  fields_text sign (more_named x t (more_named y u us)) = x ++ sign ++ expr_text false t ++ codes ", " ++ fields_text sign (more_named y u us)

  pub binders_text : BoundTrees → List ℕ
  binders_text no_bound = []
  binders_text (more_bound xs r no_bound) = names_text xs ++ codes " \\in " ++ expr_text false r
  binders_text (more_bound xs r (more_bound ys q bs)) =
      names_text xs ++ codes " \\in " ++ expr_text false r ++ codes ", " ++ binders_text (more_bound ys q bs)

  pub updates_text : PathTrees → List ℕ
  updates_text no_paths = []
  updates_text (more_paths ps e no_paths) = codes "!" ++ path_text ps ++ codes " = " ++ expr_text false e
  updates_text (more_paths ps e (more_paths qs f us)) =
      codes "!" ++ path_text ps ++ codes " = " ++ expr_text false e ++ codes ", " ++ updates_text (more_paths qs f us)

  -- an index that is a string of a field's name is written as the field
  pub path_text : Trees → List ℕ
  path_text no_trees = []
  path_text (more_trees (text s) ts) =
      (if is_field (string s) then codes "." ++ s else codes "[" ++ string_text s ++ codes "]") ++ path_text ts
  path_text (more_trees t ts) = codes "[" ++ expr_text false t ++ codes "]" ++ path_text ts

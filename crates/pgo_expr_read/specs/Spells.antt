-- Which lists of tokens spell an expression: one rule for each form of the grammar.
use Rattle.std.specs.Prelude.{◌≡◌, ℕ, ℤ, ◌≤◌, Bool, true, false, List, [], ◌∷◌, ◌++◌, Some}
use Rattle.pgo_base.specs.declared.expr.Infix.{Infix}
use Rattle.pgo_base.specs.declared.expr.Infix.TheVariants as op
use Rattle.pgo_base.specs.declared.expr.Prefix.{Prefix}
use Rattle.pgo_base.specs.declared.expr.Prefix.TheVariants as pre
use Rattle.pgo_base.specs.declared.expr.Quantifier.{Quantifier}
use Rattle.pgo_base.specs.declared.expr.Word.{Word}
use Rattle.pgo_base.specs.declared.expr.Word.TheVariants as w
use Rattle.pgo_base.specs.Tree.{Tree, Trees, no_trees, more_trees, trees, bound, named, arms, paths}
use Rattle.pgo_base.specs.Tree as e
use Rattle.pgo_lexer.specs.declared.symbol.Bracket.TheVariants as bracket
use Rattle.pgo_lexer.specs.declared.symbol.Junction.{Junction}
use Rattle.pgo_lexer.specs.declared.symbol.Junction.TheVariants as j
use Rattle.pgo_lexer.specs.declared.symbol.Symbol.TheVariants as s
use Rattle.pgo_lexer.specs.declared.symbol.Symbol.{Symbol}
use Rattle.pgo_lexer.specs.declared.token.Token.{Token}
use Rattle.pgo_lexer.specs.declared.token.Token.TheVariants as t
use Rattle.pgo_expr_read.specs.declared.table.Operator.{Operator}
use Rattle.pgo_expr_read.specs.declared.table.Operator.TheVariants as operator
use Rattle.pgo_expr_read.specs.declared.table.Form.{Form}
use Rattle.pgo_expr_read.specs.declared.table.Form.TheVariants as form
use Rattle.pgo_expr_read.specs.declared.read.Ending.{Ending}
use Rattle.pgo_expr_read.specs.declared.read.Ending.TheVariants as ending
use Rattle.pgo_expr_read.specs.Lookahead.{begins_binder, endless_of}
use Rattle.pgo_expr_read.specs.Heights.{height}
use Rattle.pgo_expr_read.specs.Kinds.{Kind, ItemOf, Name, variable_name, value_name, between, may_follow, is_case}
use Rattle.pgo_expr_read.specs.Kinds as kind
use Rattle.pgo_expr_read.specs.Table.{takes_left, right_least, prefix_least, form_low}

-- ---- tokens

abbrev pub prefix_token : Prefix → Token
prefix_token pre.Minus = t.Symbol (s.Infix op.Subtract)
prefix_token p = t.Symbol (s.Prefix p)

abbrev pub operator_token : Operator → Token
operator_token (operator.Infix op) = t.Symbol (s.Infix op)
operator_token operator.Product = t.Symbol s.Product

-- names, each behind a comma
abbrev pub more_names : List Name → List Token
more_names [] = []
more_names (x ∷ xs) = t.Symbol s.Comma ∷ (t.Name x ∷ more_names xs)

-- names with commas between them
abbrev pub names : Name → List Name → List Token
names x xs = t.Name x ∷ more_names xs

-- ---- trees

-- one more tree behind the others
abbrev pub appended : Trees → Tree → Trees
appended no_trees b = more_trees b no_trees
appended (more_trees a as') b = more_trees a (appended as' b)

unfoldable pub product_of_two : Tree → Tree → Tree
product_of_two a b = e.product (more_trees a (more_trees b no_trees))

-- a product of one more
unfoldable pub extended : Tree → Tree → Tree
extended (e.product as') b = e.product (appended as' b)
extended a b = product_of_two a b

-- the operator between two trees: a product of a product is one product of all
abbrev pub applied : Operator → Form → Tree → Tree → Tree
applied (operator.Infix op) f a b = e.binary op a b
applied operator.Product (form.Operation operator.Product) a b = extended a b
applied operator.Product f a b = product_of_two a b

abbrev pub infix_of : Junction → Infix
infix_of j.And = op.And
infix_of j.Or = op.Or

-- a junction list stands for its items joined from the left
abbrev pub joined : Junction → Tree → List Tree → Tree
joined op a [] = a
joined op a (b ∷ bs) = joined op (e.binary (infix_of op) a b) bs

-- ---- how an expression ends, outside brackets

-- an open form around an expression at its end
abbrev pub opened : Ending → Ending
opened ending.Case = ending.Case
opened _ = ending.Open

-- Spelled f o ts a: the tokens spell the tree. f is its outermost form, and o says how it ends outside brackets: in a
-- CASE, in another open form, or in neither.
-- Range ts a: a set that a name is bound over.
-- Item k o ts a: one item of such a list. Behind k o u ts as: these further items, each behind what stands between two; o says
-- how the item before them ends, and u how the last one does. Items k u ts as: one item or more.
mutual
  pub data Spelled : Form → Ending → List Token → Tree → Type 0 where
    -- names, numbers and other leaves
    name : {x : Name} → Spelled form.Closed ending.Closed (t.Name x ∷ []) (e.name x)
    primed : {x : Name} → Spelled form.Closed ending.Closed (t.Name x ∷ (t.Symbol s.Prime ∷ [])) (e.primed x)
    number : {n : ℤ} → Spelled form.Closed ending.Closed (t.Number n ∷ []) (e.number n)
    text : {x : List ℕ} → Spelled form.Closed ending.Closed (t.Text x ∷ []) (e.text x)
    truth : {b : Bool} → Spelled form.Closed ending.Closed (t.Symbol (s.Truth b) ∷ []) (e.truth b)
    at : Spelled form.Closed ending.Closed (t.Symbol s.At ∷ []) e.at
    boolean : Spelled form.Closed ending.Closed (t.Symbol (s.Word w.BooleanSet) ∷ []) (e.word w.BooleanSet)
    -- in a mapping macro's blocks: the variable, and the value that is written
    variable : Spelled form.Closed ending.Closed (t.Symbol s.Variable ∷ []) (e.name variable_name)
    value : Spelled form.Closed ending.Closed (t.Symbol s.Value ∷ []) (e.name value_name)
    -- `(e)`, and junction lists
    parens : {f : Form} {o : Ending} {ts : List Token} {a : Tree} → Spelled f o ts a
        → Spelled form.Closed ending.Closed (t.Symbol (s.Open bracket.Round) ∷ (ts ++ (t.Symbol (s.Close bracket.Round) ∷ []))) a
    junction : {op : Junction} {f : Form} {o u : Ending} {xs ys : List Token} {a : Tree} {bs : List Tree} → Spelled f o xs a → Behind kind.item o u ys bs
        → Spelled form.Closed ending.Closed (t.ListOpen op ∷ (xs ++ (ys ++ (t.ListClose ∷ [])))) (joined op a bs)
    -- operators. An operand is of a higher level, a left one may be of the same operator, where that groups from the left, and
    -- doesn't end in an open form. Nat, Int and STRING stand at the right of `\in`.
    unary : {p : Prefix} {f : Form} {o : Ending} {ts : List Token} {a : Tree} → prefix_least p ≤ form_low f → Spelled f o ts a
        → Spelled (form.Prefix p) o (prefix_token p ∷ ts) (e.unary p a)
    operation : {op : Operator} {f g : Form} {o : Ending} {xs ys : List Token} {a b : Tree} → takes_left op f ≡ true → right_least op ≤ form_low g
        → Spelled f ending.Closed xs a → Spelled g o ys b → Spelled (form.Operation op) o (xs ++ (operator_token op ∷ ys)) (applied op f a b)
    member : {f : Form} (k : Token) {w : Word} {xs : List Token} {a : Tree} → takes_left (operator.Infix op.In) f ≡ true → endless_of k ≡ Some w
        → Spelled f ending.Closed xs a → Spelled (form.Operation (operator.Infix op.In)) ending.Closed (xs ++ (t.Symbol (s.Infix op.In) ∷ (k ∷ []))) (e.binary op.In a (e.word w))
    -- `f[a, b]`, `r.x` and `Op(a, b)`
    index : {f : Form} {u : Ending} {xs ys : List Token} {a : Tree} {bs : List Tree} → 32 ≤ form_low f → Spelled f ending.Closed xs a → Items kind.tree u ys bs
        → Spelled form.Closed ending.Closed (xs ++ (t.Symbol (s.Open bracket.Square) ∷ (ys ++ (t.Symbol (s.Close bracket.Square) ∷ [])))) (e.index a (trees bs))
    select : {f : Form} {xs : List Token} {a : Tree} {x : Name} → 32 ≤ form_low f → Spelled f ending.Closed xs a
        → Spelled form.Closed ending.Closed (xs ++ (t.Symbol s.Dot ∷ (t.Name x ∷ []))) (e.field a x)
    call : {x : Name} {u : Ending} {ts : List Token} {as' : List Tree} → Items kind.tree u ts as'
        → Spelled form.Closed ending.Closed (t.Name x ∷ (t.Symbol (s.Open bracket.Round) ∷ (ts ++ (t.Symbol (s.Close bracket.Round) ∷ [])))) (e.call x (trees as'))
    -- `<<..>>`, `{..}`. What stands first in a set isn't a name and `\in`: then it is a filter.
    no_tuple : Spelled form.Closed ending.Closed (t.Symbol (s.Open bracket.Angle) ∷ (t.Symbol (s.Close bracket.Angle) ∷ [])) (e.tuple no_trees)
    tuple : {u : Ending} {ts : List Token} {as' : List Tree} → Items kind.tree u ts as'
        → Spelled form.Closed ending.Closed (t.Symbol (s.Open bracket.Angle) ∷ (ts ++ (t.Symbol (s.Close bracket.Angle) ∷ []))) (e.tuple (trees as'))
    no_set : Spelled form.Closed ending.Closed (t.Symbol (s.Open bracket.Curly) ∷ (t.Symbol (s.Close bracket.Curly) ∷ [])) (e.set_of no_trees)
    set : {f : Form} {o u : Ending} {xs ys : List Token} {a : Tree} {bs : List Tree} → begins_binder xs ≡ false → Spelled f o xs a → Behind kind.tree o u ys bs
        → Spelled form.Closed ending.Closed (t.Symbol (s.Open bracket.Curly) ∷ (xs ++ (ys ++ (t.Symbol (s.Close bracket.Curly) ∷ [])))) (e.set_of (trees (a ∷ bs)))
    filter : {x : Name} {f : Form} {o : Ending} {xs ys : List Token} {a p : Tree} → Range xs a → Spelled f o ys p
        → Spelled form.Closed ending.Closed (t.Symbol (s.Open bracket.Curly) ∷ (t.Name x ∷ (t.Symbol (s.Infix op.In) ∷ (xs ++ (t.Symbol s.Colon ∷ (ys ++ (t.Symbol (s.Close bracket.Curly) ∷ []))))))) (e.filter_of x a p)
    image : {x : Name} {f : Form} {o : Ending} {xs ys : List Token} {a b : Tree} → begins_binder xs ≡ false → Spelled f o xs b → Range ys a
        → Spelled form.Closed ending.Closed (t.Symbol (s.Open bracket.Curly) ∷ (xs ++ (t.Symbol s.Colon ∷ (t.Name x ∷ (t.Symbol (s.Infix op.In) ∷ (ys ++ (t.Symbol (s.Close bracket.Curly) ∷ []))))))) (e.image b x a)
    -- `[..]`. What stands first before `->` or EXCEPT isn't a name and `\in`.
    fun_of : {f : Form} {o u : Ending} {xs ys : List Token} {bs : List (List Name × Tree)} {a : Tree} → Items kind.binder u xs bs → Spelled f o ys a
        → Spelled form.Closed ending.Closed (t.Symbol (s.Open bracket.Square) ∷ (xs ++ (t.Symbol s.MapsTo ∷ (ys ++ (t.Symbol (s.Close bracket.Square) ∷ []))))) (e.fun_of (bound bs) a)
    fun_set : {f g : Form} {o u : Ending} {xs ys : List Token} {a b : Tree} → begins_binder xs ≡ false → Spelled f o xs a → Spelled g u ys b
        → Spelled form.Closed ending.Closed (t.Symbol (s.Open bracket.Square) ∷ (xs ++ (t.Symbol s.Arrow ∷ (ys ++ (t.Symbol (s.Close bracket.Square) ∷ []))))) (e.fun_set a b)
    record_of : {u : Ending} {xs : List Token} {ds : List (Name × Tree)} → Items (kind.field s.MapsTo) u xs ds
        → Spelled form.Closed ending.Closed (t.Symbol (s.Open bracket.Square) ∷ (xs ++ (t.Symbol (s.Close bracket.Square) ∷ []))) (e.record_of (named ds))
    record_set : {u : Ending} {xs : List Token} {ds : List (Name × Tree)} → Items (kind.field s.Colon) u xs ds
        → Spelled form.Closed ending.Closed (t.Symbol (s.Open bracket.Square) ∷ (xs ++ (t.Symbol (s.Close bracket.Square) ∷ []))) (e.record_set (named ds))
    except : {f : Form} {o u : Ending} {xs ys : List Token} {a : Tree} {us : List (List Tree × Tree)} → begins_binder xs ≡ false → Spelled f o xs a → Items kind.update u ys us
        → Spelled form.Closed ending.Closed (t.Symbol (s.Open bracket.Square) ∷ (xs ++ (t.Symbol s.Except ∷ (ys ++ (t.Symbol (s.Close bracket.Square) ∷ []))))) (e.except a (paths us))
    unchanged : {x : Name} {xs : List Name}
        → Spelled form.Closed ending.Closed (t.Symbol s.Unchanged ∷ (t.Symbol (s.Open bracket.Angle) ∷ (names x xs ++ (t.Symbol (s.Close bracket.Angle) ∷ [])))) (e.unchanged (x ∷ xs))
    -- open forms
    quantified : {q : Quantifier} {f : Form} {o u : Ending} {xs ys : List Token} {bs : List (List Name × Tree)} {p : Tree} → Items kind.binder u xs bs → Spelled f o ys p
        → Spelled form.Closed (opened o) (t.Symbol (s.Quantifier q) ∷ (xs ++ (t.Symbol s.Colon ∷ ys))) (e.quantified q (bound bs) p)
    choose : {x : Name} {f : Form} {o : Ending} {xs ys : List Token} {a p : Tree} → Range xs a → Spelled f o ys p
        → Spelled form.Closed (opened o) (t.Symbol s.Choose ∷ (t.Name x ∷ (t.Symbol (s.Infix op.In) ∷ (xs ++ (t.Symbol s.Colon ∷ ys))))) (e.choose x a p)
    cond_of : {f g h : Form} {o u v : Ending} {xs ys zs : List Token} {a b c : Tree} → Spelled f o xs a → Spelled g u ys b → Spelled h v zs c
        → Spelled form.Closed (opened v) (t.Symbol s.If ∷ (xs ++ (t.Symbol s.Then ∷ (ys ++ (t.Symbol s.Else ∷ zs))))) (e.cond_of a b c)
    case_of : {u : Ending} {xs : List Token} {gs : List (Tree × Tree)} → Items kind.arm u xs gs
        → Spelled form.Closed ending.Case (t.Symbol s.Case ∷ xs) (e.case_of (arms gs))
    case_other : {f : Form} {o u : Ending} {xs ys : List Token} {gs : List (Tree × Tree)} {a : Tree} → is_case u ≡ false → Items kind.arm u xs gs → Spelled f o ys a
        → Spelled form.Closed ending.Case (t.Symbol s.Case ∷ (xs ++ (t.Symbol s.Box ∷ (t.Symbol s.Other ∷ (t.Symbol s.Arrow ∷ ys))))) (e.case_other (arms gs) a)
    let_in : {f : Form} {o u : Ending} {xs ys : List Token} {ds : List (Name × Tree)} {a : Tree} → Items kind.definition u xs ds → Spelled f o ys a
        → Spelled form.Closed (opened o) (t.Symbol s.Let ∷ (xs ++ (t.Symbol s.LetIn ∷ ys))) (e.let_in (named ds) a)

  pub data Range : List Token → Tree → Type 0 where
    any : {f : Form} {o : Ending} {ts : List Token} {a : Tree} → Spelled f o ts a → Range ts a
    endless : {k : Token} {w : Word} → endless_of k ≡ Some w → Range (k ∷ []) (e.word w)

  pub data Item : (k : Kind) → Ending → List Token → ItemOf k → Type 0 where
    tree : {f : Form} {o : Ending} {ts : List Token} {a : Tree} → Spelled f o ts a → Item kind.tree o ts a
    item : {f : Form} {o : Ending} {ts : List Token} {a : Tree} → Spelled f o ts a → Item kind.item o ts a
    binder : {x : Name} {xs : List Name} {ts : List Token} {a : Tree} → Range ts a → Item kind.binder ending.Closed (names x xs ++ (t.Symbol (s.Infix op.In) ∷ ts)) (x ∷ xs, a)
    field : {x : Name} {v : Symbol} {f : Form} {o : Ending} {ts : List Token} {a : Tree} → Spelled f o ts a → Item (kind.field v) o (t.Name x ∷ (t.Symbol v ∷ ts)) (x, a)
    definition : {x : Name} {f : Form} {o : Ending} {ts : List Token} {a : Tree} → Spelled f o ts a → Item kind.definition o (t.Name x ∷ (t.Symbol s.Defines ∷ ts)) (x, a)
    arm : {f g : Form} {o u : Ending} {xs ys : List Token} {a b : Tree} → Spelled f o xs a → Spelled g u ys b → Item kind.arm u (xs ++ (t.Symbol s.Arrow ∷ ys)) (a, b)
    index_step : {f : Form} {o : Ending} {ts : List Token} {a : Tree} → Spelled f o ts a → Item kind.step ending.Closed (t.Symbol (s.Open bracket.Square) ∷ (ts ++ (t.Symbol (s.Close bracket.Square) ∷ []))) a
    -- `[a, b]`: the tuple of these
    tuple_step : {f : Form} {o u : Ending} {xs ys : List Token} {a b : Tree} {bs : List Tree} → Spelled f o xs a → Behind kind.tree o u ys (b ∷ bs)
        → Item kind.step ending.Closed (t.Symbol (s.Open bracket.Square) ∷ (xs ++ (ys ++ (t.Symbol (s.Close bracket.Square) ∷ [])))) (e.tuple (trees (a ∷ (b ∷ bs))))
    field_step : {x : Name} → Item kind.step ending.Closed (t.Symbol s.Dot ∷ (t.Name x ∷ [])) (e.text x)
    update : {f : Form} {o u : Ending} {xs ys : List Token} {as' : List Tree} {a : Tree} → Items kind.step u xs as' → Spelled f o ys a
        → Item kind.update o (t.Symbol s.Bang ∷ (xs ++ (t.Symbol (s.Infix op.Equal) ∷ ys))) (as', a)

  pub data Behind : (k : Kind) → Ending → Ending → List Token → List (ItemOf k) → Type 0 where
    none : {k : Kind} {o : Ending} → Behind k o o [] []
    one_more : {k : Kind} {o u v : Ending} {xs ys : List Token} {a : ItemOf k} {as' : List (ItemOf k)} → may_follow k o ≡ true → Item k u xs a → Behind k u v ys as'
        → Behind k o v (between k ++ (xs ++ ys)) (a ∷ as')

  pub data Items : (k : Kind) → Ending → List Token → List (ItemOf k) → Type 0 where
    items : {k : Kind} {o u : Ending} {xs ys : List Token} {a : ItemOf k} {as' : List (ItemOf k)} → Item k o xs a → Behind k o u ys as' → Items k u (xs ++ ys) (a ∷ as')

-- the tokens spell the tree, which is no higher than the limit
abbrev pub Spells : (limit : ℕ) → List Token → Tree → Type 0
Spells limit ts a = (f : Form) × (o : Ending) × Spelled f o ts a × (height a ≤ limit)

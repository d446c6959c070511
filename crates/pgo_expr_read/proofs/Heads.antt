-- How what is spelled begins.
use Rattle.std.proofs.Common.{◌≡◌, Bool, true, false, ◌&&◌, List, [], ◌∷◌, ◌++◌, None, refl, ap, cond}
use Rattle.pgo_base.specs.declared.expr.Infix.TheVariants as op
use Rattle.pgo_base.specs.declared.expr.Prefix.{Prefix}
use Rattle.pgo_base.specs.declared.expr.Prefix.TheVariants as pre
use Rattle.pgo_base.specs.declared.expr.Word.TheVariants as w
use Rattle.pgo_base.specs.Tree.{Tree}
use Rattle.pgo_lexer.specs.declared.symbol.Bracket.TheVariants as b
use Rattle.pgo_lexer.specs.declared.symbol.Symbol.TheVariants as y
use Rattle.pgo_lexer.specs.declared.token.Token.{Token}
use Rattle.pgo_lexer.specs.declared.token.Token.TheVariants as t
use Rattle.pgo_expr_read.specs.declared.table.Operator.{Operator}
use Rattle.pgo_expr_read.specs.declared.table.Operator.TheVariants as operator
use Rattle.pgo_expr_read.specs.declared.table.Form.{Form}
use Rattle.pgo_expr_read.specs.declared.lookahead.Square.TheVariants as square
use Rattle.pgo_expr_read.specs.declared.read.Ending.{Ending}
use Rattle.pgo_expr_read.specs.Lookahead.{sees, begins_binder, form_of_square, form_of_second, square_of, is_name, endless, endless_of}
use Rattle.pgo_expr_read.specs.Kinds.{Name}
use Rattle.pgo_expr_read.specs.Spells.{Spelled, prefix_token, operator_token}
use Rattle.pgo_expr_read.specs.Spells as s
use Rattle.pgo_expr_read.specs.Signs.{is_sign}

-- may begin an expression, and is no name
abbrev pub begins : Token → Bool
begins (t.Number n) = true
begins (t.Text x) = true
begins (t.ListOpen op) = true
begins (t.Symbol (y.Truth v)) = true
begins (t.Symbol y.At) = true
begins (t.Symbol (y.Word w.BooleanSet)) = true
begins (t.Symbol (y.Infix op.Subtract)) = true
begins (t.Symbol (y.Prefix p)) = true
begins (t.Symbol (y.Open b.Round)) = true
begins (t.Symbol (y.Open b.Square)) = true
begins (t.Symbol (y.Open b.Curly)) = true
begins (t.Symbol (y.Open b.Angle)) = true
begins (t.Symbol (y.Quantifier v)) = true
begins (t.Symbol y.Choose) = true
begins (t.Symbol y.If) = true
begins (t.Symbol y.Case) = true
begins (t.Symbol y.Let) = true
begins (t.Symbol y.Unchanged) = true
begins (t.Symbol y.Variable) = true
begins (t.Symbol y.Value) = true
begins _ = false

-- may stand behind a name in an expression
abbrev pub stands_behind : Token → Bool
stands_behind (t.Symbol (y.Infix o)) = true
stands_behind (t.Symbol y.Product) = true
stands_behind (t.Symbol y.Prime) = true
stands_behind (t.Symbol y.Dot) = true
stands_behind (t.Symbol (y.Open b.Round)) = true
stands_behind (t.Symbol (y.Open b.Square)) = true
stands_behind _ = false

pub data Starts : List Token → Type 0 where
  alone : {x : Name} → Starts (t.Name x ∷ [])
  longer : {x : Name} {k : Token} {ts : List Token} → stands_behind k ≡ true → Starts (t.Name x ∷ (k ∷ ts))
  other : {k : Token} {ts : List Token} → begins k ≡ true → Starts (k ∷ ts)

more_of : (k : Token) (ys : List Token) {xs : List Token} → stands_behind k ≡ true → Starts xs → Starts (xs ++ (k ∷ ys))
more_of k ys h alone = longer h
more_of k ys h (longer b) = longer b
more_of k ys h (other b) = other b

behind_operator : (o : Operator) → stands_behind (operator_token o) ≡ true
behind_operator (operator.Infix o) = refl
behind_operator operator.Product = refl

prefix_begins : (p : Prefix) → begins (prefix_token p) ≡ true
prefix_begins pre.Not = refl
prefix_begins pre.Minus = refl
prefix_begins pre.Powerset = refl
prefix_begins pre.Flatten = refl
prefix_begins pre.Domain = refl

pub starts : {f : Form} {o : Ending} {ts : List Token} {a : Tree} → Spelled f o ts a → Starts ts
starts s.name = alone
starts s.primed = longer refl
starts s.number = other refl
starts s.text = other refl
starts s.truth = other refl
starts s.at = other refl
starts s.boolean = other refl
starts s.variable = other refl
starts s.value = other refl
starts (s.parens d) = other refl
starts (s.junction d m) = other refl
starts (s.unary {p = p} h d) = other (prefix_begins p)
starts (s.operation {op = o} {ys = ys} h l d d') = more_of (operator_token o) ys (behind_operator o) (starts d)
starts (s.member k h m d) = more_of (t.Symbol (y.Infix op.In)) (k ∷ []) refl (starts d)
starts (s.index {ys = ys} h d m) = more_of (t.Symbol (y.Open b.Square)) (ys ++ (t.Symbol (y.Close b.Square) ∷ [])) refl (starts d)
starts (s.select {x = x} h d) = more_of (t.Symbol y.Dot) (t.Name x ∷ []) refl (starts d)
starts (s.call m) = longer refl
starts s.no_tuple = other refl
starts (s.tuple m) = other refl
starts s.no_set = other refl
starts (s.set h d m) = other refl
starts (s.filter r d) = other refl
starts (s.image h d r) = other refl
starts (s.fun_of m d) = other refl
starts (s.fun_set h d d') = other refl
starts (s.record_of m) = other refl
starts (s.record_set m) = other refl
starts (s.except h d m) = other refl
starts s.unchanged = other refl
starts (s.quantified m d) = other refl
starts (s.choose r d) = other refl
starts (s.cond_of d d' d'') = other refl
starts (s.case_of m) = other refl
starts (s.case_other h m d) = other refl
starts (s.let_in m d) = other refl

-- what a token that begins an expression is not
pub record Facts (k : Token) : Type 0 where
  pub name : is_name k ≡ false
  pub endless : endless_of k ≡ None
  pub angle : is_sign (y.Close b.Angle) k ≡ false
  pub curly : is_sign (y.Close b.Curly) k ≡ false
  pub last : is_sign y.Other k ≡ false

pub facts : (k : Token) → begins k ≡ true → Facts k
facts (t.Number n) h = record { name = refl; endless = refl; angle = refl; curly = refl; last = refl }
facts (t.Text x) h = record { name = refl; endless = refl; angle = refl; curly = refl; last = refl }
facts (t.ListOpen op) h = record { name = refl; endless = refl; angle = refl; curly = refl; last = refl }
facts (t.Symbol (y.Truth v)) h = record { name = refl; endless = refl; angle = refl; curly = refl; last = refl }
facts (t.Symbol y.At) h = record { name = refl; endless = refl; angle = refl; curly = refl; last = refl }
facts (t.Symbol (y.Word w.BooleanSet)) h = record { name = refl; endless = refl; angle = refl; curly = refl; last = refl }
facts (t.Symbol (y.Infix op.Subtract)) h = record { name = refl; endless = refl; angle = refl; curly = refl; last = refl }
facts (t.Symbol (y.Prefix p)) h = record { name = refl; endless = refl; angle = refl; curly = refl; last = refl }
facts (t.Symbol (y.Open b.Round)) h = record { name = refl; endless = refl; angle = refl; curly = refl; last = refl }
facts (t.Symbol (y.Open b.Square)) h = record { name = refl; endless = refl; angle = refl; curly = refl; last = refl }
facts (t.Symbol (y.Open b.Curly)) h = record { name = refl; endless = refl; angle = refl; curly = refl; last = refl }
facts (t.Symbol (y.Open b.Angle)) h = record { name = refl; endless = refl; angle = refl; curly = refl; last = refl }
facts (t.Symbol (y.Quantifier v)) h = record { name = refl; endless = refl; angle = refl; curly = refl; last = refl }
facts (t.Symbol y.Choose) h = record { name = refl; endless = refl; angle = refl; curly = refl; last = refl }
facts (t.Symbol y.If) h = record { name = refl; endless = refl; angle = refl; curly = refl; last = refl }
facts (t.Symbol y.Case) h = record { name = refl; endless = refl; angle = refl; curly = refl; last = refl }
facts (t.Symbol y.Let) h = record { name = refl; endless = refl; angle = refl; curly = refl; last = refl }
facts (t.Symbol y.Unchanged) h = record { name = refl; endless = refl; angle = refl; curly = refl; last = refl }
facts (t.Symbol y.Variable) h = record { name = refl; endless = refl; angle = refl; curly = refl; last = refl }
facts (t.Symbol y.Value) h = record { name = refl; endless = refl; angle = refl; curly = refl; last = refl }
facts _ h = cc

pub not_endless : {ts : List Token} (rest : List Token) → Starts ts → endless (ts ++ rest) ≡ None
not_endless rest alone = refl
not_endless rest (longer b) = refl
not_endless rest (other {k = k} b) = (facts k b).endless

pub not_angle : {ts : List Token} (rest : List Token) → Starts ts → sees (y.Close b.Angle) (ts ++ rest) ≡ false
not_angle rest alone = refl
not_angle rest (longer b) = refl
not_angle rest (other {k = k} b) = (facts k b).angle

pub not_curly : {ts : List Token} (rest : List Token) → Starts ts → sees (y.Close b.Curly) (ts ++ rest) ≡ false
not_curly rest alone = refl
not_curly rest (longer b) = refl
not_curly rest (other {k = k} b) = (facts k b).curly

pub not_other : {ts : List Token} (rest : List Token) → Starts ts → sees y.Other (ts ++ rest) ≡ false
not_other rest alone = refl
not_other rest (longer b) = refl
not_other rest (other {k = k} b) = (facts k b).last

-- a front that begins with no name and `\in`, before another token than `\in`
pub not_binder : {ts : List Token} (rest : List Token) → Starts ts → begins_binder ts ≡ false → sees (y.Infix op.In) rest ≡ false → begins_binder (ts ++ rest) ≡ false
not_binder rest alone h m = m
not_binder rest (longer b) h m = h
not_binder rest (other {k = k} {ts = ts} b) h m = ap (λ z. z && sees (y.Infix op.In) (ts ++ rest)) (facts k b).name

other_square_of : (k : Token) → stands_behind k ≡ true → is_sign (y.Infix op.In) k ≡ false → square_of k ≡ square.Other
other_square_of (t.Symbol (y.Infix op.In)) b h = cc
other_square_of (t.Symbol y.MapsTo) b h = cc
other_square_of (t.Symbol y.Colon) b h = cc
other_square_of (t.Symbol y.Comma) b h = cc
other_square_of _ b h = refl

pub not_square : {ts : List Token} (rest : List Token) → Starts ts → begins_binder ts ≡ false → form_of_second rest ≡ square.Other → form_of_square (ts ++ rest) ≡ square.Other
not_square rest alone h m = m
not_square rest (longer {k = k} b) h m = other_square_of k b h
not_square rest (other {k = k} {ts = ts} b) h m = ap (λ z. cond z (form_of_second (ts ++ rest)) square.Other) (facts k b).name

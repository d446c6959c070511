-- The table of operators. Levels are doubled, so that a prefix operator stands between the infix operators of its level
-- and those above: an operator of level n has 2 * n, a prefix operator of level n has 2 * n + 1.
use Rattle.std.specs.Prelude.{ℕ, ◌+◌, Bool, true, false, ◌||◌, ◌&&◌, nat_lt}
use denote.Enum.Bare.{sameb}
use Rattle.pgo_base.specs.contracts.expr.Infix.{the_type}
use Rattle.pgo_base.specs.declared.expr.Infix.TheVariants as op
use Rattle.pgo_base.specs.declared.expr.Prefix.{Prefix}
use Rattle.pgo_base.specs.declared.expr.Prefix.TheVariants as pre
use Rattle.pgo_expr_read.specs.declared.table.Operator.{Operator}
use Rattle.pgo_expr_read.specs.declared.table.Operator.TheVariants as operator
use Rattle.pgo_expr_read.specs.declared.table.Levels.{Levels}
use Rattle.pgo_expr_read.specs.declared.table.Form.{Form}
use Rattle.pgo_expr_read.specs.declared.table.Form.TheVariants as form

abbrev levels : ℕ → ℕ → Bool → Levels
levels least greatest is_left = record { least = least; greatest = greatest; is_left = is_left }

-- an operator has a range of levels, and a row of it groups from the left or not
abbrev pub row : Operator → Levels
row (operator.Infix op.Implies) = levels 2 2 false
row (operator.Infix op.Iff) = levels 4 4 false
row (operator.Infix op.And) = levels 6 6 true
row (operator.Infix op.Or) = levels 6 6 true
row (operator.Infix op.Equal) = levels 10 10 false
row (operator.Infix op.Differs) = levels 10 10 false
row (operator.Infix op.Less) = levels 10 10 false
row (operator.Infix op.Greater) = levels 10 10 false
row (operator.Infix op.AtMost) = levels 10 10 false
row (operator.Infix op.AtLeast) = levels 10 10 false
row (operator.Infix op.In) = levels 10 10 false
row (operator.Infix op.NotIn) = levels 10 10 false
row (operator.Infix op.SubsetEq) = levels 10 10 false
row (operator.Infix op.Merge) = levels 12 12 true
row (operator.Infix op.Single) = levels 14 14 false
row (operator.Infix op.Union) = levels 16 16 true
row (operator.Infix op.Intersect) = levels 16 16 true
row (operator.Infix op.Without) = levels 16 16 false
row (operator.Infix op.Range) = levels 18 18 false
row (operator.Infix op.Add) = levels 20 20 true
row (operator.Infix op.Subtract) = levels 22 22 true
row (operator.Infix op.Modulo) = levels 20 22 false
row (operator.Infix op.Multiply) = levels 26 26 true
row (operator.Infix op.Concat) = levels 26 26 true
row (operator.Infix op.Divide) = levels 26 26 false
row operator.Product = levels 20 26 true

unfoldable pub low : Operator → ℕ
low o = (row o).least

unfoldable pub high : Operator → ℕ
high o = (row o).greatest

unfoldable pub is_left : Operator → Bool
is_left o = (row o).is_left

-- the least level of its operand, which is the level of its application
unfoldable pub prefix_least : Prefix → ℕ
prefix_least pre.Not = 9
prefix_least pre.Minus = 25
prefix_least pre.Powerset = 17
prefix_least pre.Flatten = 17
prefix_least pre.Domain = 19

abbrev pub form_low : Form → ℕ
form_low (form.Operation op) = low op
form_low (form.Prefix p) = prefix_least p
form_low form.Closed = 32

-- two operators are one
abbrev pub same_operator : Operator → Operator → Bool
same_operator (operator.Infix a) (operator.Infix b) = sameb the_type a b
same_operator (operator.Infix a) operator.Product = false
same_operator operator.Product (operator.Infix b) = false
same_operator operator.Product operator.Product = true

abbrev pub is_of : Operator → Form → Bool
is_of op (form.Operation other) = same_operator op other
is_of op (form.Prefix p) = false
is_of op form.Closed = false

-- an operand on the left has a higher level, or is of the same operator where that groups from the left
unfoldable pub takes_left : Operator → Form → Bool
takes_left op form = nat_lt (high op + 1) (form_low form) || (is_left op && is_of op form)

-- the least level of an operand on the right: a higher one
abbrev pub right_least : Operator → ℕ
right_least op = high op + 2

-- Leaves and operators in canonical text.
use Rattle.std.proofs.Common.{◌≡◌, ◌≤◌, ◌+◌, ℕ, ℤ, pos, Bool, true, false, List, [], ◌∷◌, ◌++◌, refl, sym, arith}
use Rattle.std.proofs.lemmas.List.{append_assoc}
use Rattle.pgo_base.specs.declared.expr.Infix.{Infix}
use Rattle.pgo_base.specs.declared.expr.Infix.TheVariants as op
use Rattle.pgo_base.specs.declared.expr.Prefix.{Prefix}
use Rattle.pgo_base.specs.declared.expr.Prefix.TheVariants as pre
use Rattle.pgo_base.specs.declared.expr.Word.{Word}
use Rattle.pgo_base.specs.declared.expr.Word.TheVariants as words
use Rattle.pgo_base.specs.Lookup.{Name}
use Rattle.pgo_base.specs.Tree.{Tree}
use Rattle.pgo_base.specs.Tree as e
use Rattle.pgo_model.specs.ExprText.{expr_text, infix_text}
use Rattle.pgo_lexer.specs.declared.token.Token.TheVariants as t
use Rattle.pgo_lexer.specs.declared.symbol.Symbol.TheVariants as y
use Rattle.pgo_lexer.specs.Lexemes.{all_are}
use Rattle.pgo_expr_read.specs.declared.table.Form.TheVariants as form
use Rattle.pgo_expr_read.specs.declared.table.Operator.{Operator}
use Rattle.pgo_expr_read.specs.declared.table.Operator.TheVariants as operator
use Rattle.pgo_expr_read.specs.declared.read.Ending.TheVariants as ending
use Rattle.pgo_expr_read.specs.Spells.{Spelled, prefix_token, operator_token}
use Rattle.pgo_expr_read.specs.Spells as s
use Rattle.pgo_expr_read.specs.Table.{takes_left, right_least, prefix_least, form_low, high}
use Rattle.pgo_expr_write.specs.WellFormed.{IsName, IsNumber, is_string_byte, is_boolean}
use Rattle.pgo_expr_write.proofs.FixedWords.{member, infix_said, infix_ends, prefix_said, prefix_begins, at_said, prime_said, truth_said, truth_begins, word_said}
use Rattle.pgo_expr_write.proofs.Leaves.{name_said, name_begins, number_said, number_begins, string_said}
use Rattle.pgo_expr_write.proofs.Inners.{regroup, Outer, Inner, Over, inner_of, over_of}

-- ---- leaves

pub name_form : (x : Name) → IsName x → Outer (e.name x)
name_form x h = record {
  outermost = form.Closed;
  last = ending.Closed;
  tokens = t.Name x ∷ [];
  spelled = s.name;
  closed = λ _. (refl, refl, refl);
  begins = λ rest. name_begins x rest h;
  said = λ st p rest us ends d. name_said x rest h ends d;
}

pub primed_form : (x : Name) → IsName x → Outer (e.primed x)
primed_form x h = record {
  outermost = form.Closed;
  last = ending.Closed;
  tokens = t.Name x ∷ (t.Symbol y.Prime ∷ []);
  spelled = s.primed;
  closed = λ _. (refl, refl, refl);
  begins = λ rest. name_begins x (39 ∷ rest) h;
  said = λ st p rest us ends d. name_said x (39 ∷ rest) h (refl, refl) (prime_said rest d);
}

pub number_form : (z : ℤ) → IsNumber z → Outer (e.number z)
number_form (pos n) h = record {
  outermost = form.Closed;
  last = ending.Closed;
  tokens = t.Number (pos n) ∷ [];
  spelled = s.number;
  closed = λ _. (refl, refl, refl);
  begins = λ rest. number_begins n rest h;
  said = λ st p rest us ends d. number_said n rest h ends d;
}
number_form _ h = absurd h

pub text_form : (x : List ℕ) → all_are is_string_byte x ≡ true → Outer (e.text x)
text_form x h = record {
  outermost = form.Closed;
  last = ending.Closed;
  tokens = t.Text x ∷ [];
  spelled = s.text;
  closed = λ _. (refl, refl, refl);
  begins = λ rest. (refl, refl, refl);
  said = λ st p rest us ends d. string_said x rest h d;
}

pub truth_form : (v : Bool) → Outer (e.truth v)
truth_form v = record {
  outermost = form.Closed;
  last = ending.Closed;
  tokens = t.Symbol (y.Truth v) ∷ [];
  spelled = s.truth;
  closed = λ _. (refl, refl, refl);
  begins = λ rest. truth_begins v rest;
  said = λ st p rest us ends d. truth_said v rest ends d;
}

pub at_form : Outer e.at
at_form = record {
  outermost = form.Closed;
  last = ending.Closed;
  tokens = t.Symbol y.At ∷ [];
  spelled = s.at;
  closed = λ _. (refl, refl, refl);
  begins = λ rest. (refl, refl, refl);
  said = λ st p rest us ends d. at_said rest ends d;
}

pub word_form : (w : Word) → is_boolean w ≡ true → Outer (e.word w)
word_form words.BooleanSet h = record {
  outermost = form.Closed;
  last = ending.Closed;
  tokens = t.Symbol (y.Word words.BooleanSet) ∷ [];
  spelled = s.boolean;
  closed = λ _. (refl, refl, refl);
  begins = λ rest. (refl, refl, refl);
  said = λ st p rest us ends d. word_said words.BooleanSet rest ends d;
}
word_form words.Nat h = cc
word_form words.Int h = cc
word_form words.StringSet h = cc

-- ---- operators

pub takes_closed : (o : Operator) → takes_left o form.Closed ≡ true
unfolding takes_left high
takes_closed (operator.Infix op.Implies) = refl
takes_closed (operator.Infix op.Iff) = refl
takes_closed (operator.Infix op.And) = refl
takes_closed (operator.Infix op.Or) = refl
takes_closed (operator.Infix op.Equal) = refl
takes_closed (operator.Infix op.Differs) = refl
takes_closed (operator.Infix op.Less) = refl
takes_closed (operator.Infix op.Greater) = refl
takes_closed (operator.Infix op.AtMost) = refl
takes_closed (operator.Infix op.AtLeast) = refl
takes_closed (operator.Infix op.In) = refl
takes_closed (operator.Infix op.NotIn) = refl
takes_closed (operator.Infix op.SubsetEq) = refl
takes_closed (operator.Infix op.Merge) = refl
takes_closed (operator.Infix op.Single) = refl
takes_closed (operator.Infix op.Union) = refl
takes_closed (operator.Infix op.Intersect) = refl
takes_closed (operator.Infix op.Without) = refl
takes_closed (operator.Infix op.Range) = refl
takes_closed (operator.Infix op.Add) = refl
takes_closed (operator.Infix op.Subtract) = refl
takes_closed (operator.Infix op.Modulo) = refl
takes_closed (operator.Infix op.Multiply) = refl
takes_closed (operator.Infix op.Concat) = refl
takes_closed (operator.Infix op.Divide) = refl
takes_closed operator.Product = refl

pub right_closed : (o : Operator) → right_least o ≤ form_low form.Closed
unfolding high
right_closed (operator.Infix op.Implies) = omega arith
right_closed (operator.Infix op.Iff) = omega arith
right_closed (operator.Infix op.And) = omega arith
right_closed (operator.Infix op.Or) = omega arith
right_closed (operator.Infix op.Equal) = omega arith
right_closed (operator.Infix op.Differs) = omega arith
right_closed (operator.Infix op.Less) = omega arith
right_closed (operator.Infix op.Greater) = omega arith
right_closed (operator.Infix op.AtMost) = omega arith
right_closed (operator.Infix op.AtLeast) = omega arith
right_closed (operator.Infix op.In) = omega arith
right_closed (operator.Infix op.NotIn) = omega arith
right_closed (operator.Infix op.SubsetEq) = omega arith
right_closed (operator.Infix op.Merge) = omega arith
right_closed (operator.Infix op.Single) = omega arith
right_closed (operator.Infix op.Union) = omega arith
right_closed (operator.Infix op.Intersect) = omega arith
right_closed (operator.Infix op.Without) = omega arith
right_closed (operator.Infix op.Range) = omega arith
right_closed (operator.Infix op.Add) = omega arith
right_closed (operator.Infix op.Subtract) = omega arith
right_closed (operator.Infix op.Modulo) = omega arith
right_closed (operator.Infix op.Multiply) = omega arith
right_closed (operator.Infix op.Concat) = omega arith
right_closed (operator.Infix op.Divide) = omega arith
right_closed operator.Product = omega arith

prefix_closed : (p : Prefix) → prefix_least p ≤ form_low form.Closed
unfolding prefix_least
prefix_closed pre.Not = omega arith
prefix_closed pre.Minus = omega arith
prefix_closed pre.Powerset = omega arith
prefix_closed pre.Flatten = omega arith
prefix_closed pre.Domain = omega arith

pub unary_form : (o : Prefix) (a : Tree) → Inner a → Outer (e.unary o a)
unary_form o a i = record {
  outermost = form.Prefix o;
  last = ending.Closed;
  tokens = prefix_token o ∷ i.tokens;
  spelled = s.unary (prefix_closed o) i.spelled;
  closed = λ h. cc;
  begins = λ rest. prefix_begins o (expr_text false a ++ rest);
  said = λ st p rest us ends d. prefix_said o (expr_text false a ++ rest) (i.begins rest) (i.said st false rest us ends d);
}

pub binary_form : (o : Infix) (a c : Tree) → Inner a → Inner c → Outer (e.binary o a c)
binary_form o a c i j = record {
  outermost = form.Operation (operator.Infix o);
  last = ending.Closed;
  tokens = i.tokens ++ (operator_token (operator.Infix o) ∷ j.tokens);
  spelled = s.operation {op = operator.Infix o} (takes_closed (operator.Infix o)) (right_closed (operator.Infix o)) i.spelled j.spelled;
  closed = λ h. cc;
  begins = λ rest. i.begins (infix_text o ++ (expr_text false c ++ rest));
  said = λ st p rest us ends d.
      regroup _ _ _ _ refl (sym (append_assoc i.tokens (operator_token (operator.Infix o) ∷ j.tokens) us))
      (i.said st p (infix_text o ++ (expr_text false c ++ rest)) (operator_token (operator.Infix o) ∷ (j.tokens ++ us)) (infix_ends o (expr_text false c ++ rest)) (infix_said o (j.said st false rest us ends d)));
}

endless_member : (w : Word) (a : Tree) (i : Inner a) → Spelled (form.Operation (operator.Infix op.In)) ending.Closed (i.tokens ++ (t.Symbol (y.Infix op.In) ∷ (t.Symbol (y.Word w) ∷ []))) (e.binary op.In a (e.word w)) → Outer (e.binary op.In a (e.word w))
endless_member w a i d = record {
  outermost = form.Operation (operator.Infix op.In);
  last = ending.Closed;
  tokens = i.tokens ++ (t.Symbol (y.Infix op.In) ∷ (t.Symbol (y.Word w) ∷ []));
  spelled = d;
  closed = λ h. cc;
  begins = λ rest. i.begins _;
  said = λ st p rest us ends d.
      regroup _ _ _ _ refl (sym (append_assoc i.tokens (t.Symbol (y.Infix op.In) ∷ (t.Symbol (y.Word w) ∷ [])) us))
      (i.said st p _ (t.Symbol (y.Infix op.In) ∷ (t.Symbol (y.Word w) ∷ us)) (refl, refl) (member (word_said w rest ends d)));
}

pub member_form : (w : Word) (a : Tree) → Inner a → Outer (e.binary op.In a (e.word w))
member_form words.BooleanSet a i = binary_form op.In a (e.word words.BooleanSet) i (inner_of (e.word words.BooleanSet) (word_form words.BooleanSet refl))
member_form words.Nat a i = endless_member words.Nat a i (s.member (t.Symbol (y.Word words.Nat)) (takes_closed (operator.Infix op.In)) refl i.spelled)
member_form words.Int a i = endless_member words.Int a i (s.member (t.Symbol (y.Word words.Int)) (takes_closed (operator.Infix op.In)) refl i.spelled)
member_form words.StringSet a i = endless_member words.StringSet a i (s.member (t.Symbol (y.Word words.StringSet)) (takes_closed (operator.Infix op.In)) refl i.spelled)

-- a set that names are bound over
pub word_over : (w : Word) → Over (e.word w)
word_over words.BooleanSet = over_of (e.word words.BooleanSet) (inner_of (e.word words.BooleanSet) (word_form words.BooleanSet refl))
word_over words.Nat = record { tokens = t.Symbol (y.Word words.Nat) ∷ []; range = s.endless refl; said = λ st p rest us ends d. word_said words.Nat rest ends d }
word_over words.Int = record { tokens = t.Symbol (y.Word words.Int) ∷ []; range = s.endless refl; said = λ st p rest us ends d. word_said words.Int rest ends d }
word_over words.StringSet = record { tokens = t.Symbol (y.Word words.StringSet) ∷ []; range = s.endless refl; said = λ st p rest us ends d. word_said words.StringSet rest ends d }

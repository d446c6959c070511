-- What is spelled is read: statements.
use Rattle.std.proofs.Common.{◌≡◌, ℕ, zero, suc, ◌+◌, ◌<◌, ◌≤◌, max, Bool, true, false, ◌&&◌, ◌||◌, not, List, [], ◌∷◌, ◌++◌, length, Option, Some, None, refl, ap, sym, ◌∙◌, subst, arith, cond}
use Rattle.std.proofs.lemmas.Bool.{lt-ltb}
use Rattle.std.proofs.lemmas.List.{append_assoc, append-nil, length-append}
use Rattle.pgo_base.specs.Tree.{Tree}
use Rattle.pgo_lexer.specs.declared.token.Lexeme.{Lexeme}
use Rattle.pgo_expr_read.specs.Kinds.{Name}
use Rattle.pgo_syntax.specs.declared.name.PlacedName.{PlacedName}
use Rattle.pgo_syntax.specs.declared.assignment.Assignment.{Assignment}
use Rattle.pgo_syntax.specs.declared.binding.WithName.{WithName}
use Rattle.pgo_syntax.specs.Statement.{Statement, statements, labeled, guarded}
use Rattle.pgo_syntax.specs.Statement as st
use Rattle.pgo_mpcal_read.specs.declared.with_depth.WithDepth.{WithDepth}
use Rattle.pgo_mpcal_read.specs.declared.depths.MacroDepth.{MacroDepth}
use Rattle.pgo_mpcal_read.specs.declared.lookahead.StatementForm.TheVariants as statement_form
use Rattle.pgo_lexer.specs.declared.symbol.Symbol.{Symbol}
use Rattle.pgo_base.specs.declared.expr.Infix.TheVariants as operator
use Rattle.pgo_lexer.specs.declared.symbol.Bracket.TheVariants as bracket
use Rattle.pgo_lexer.specs.declared.symbol.Keyword.{Keyword}
use Rattle.pgo_lexer.specs.declared.symbol.Keyword.TheVariants as keyword
use Rattle.pgo_lexer.specs.declared.symbol.Symbol.TheVariants as symbol
use Rattle.pgo_mpcal_read.specs.Depths.{depth, depth_of, statements_depth, labeled_depth, guarded_depth}
use Rattle.pgo_mpcal_read.specs.Lookahead.{form_of}
use Rattle.pgo_mpcal_read.specs.Signs.{sees}
use Rattle.pgo_mpcal_read.specs.Elements.{Spot, at, word, placed, closes, Ended, IsExpression, Items, InBrackets}
use Rattle.pgo_mpcal_read.specs.Elements as elements
use Rattle.pgo_mpcal_read.specs.Statements.{Spelled, IsBranch, ElseIfs, Ors, IsLabeled, Rows, IsBody, IsFairness, IsAwait, IsAssignment, IsWithName}
use Rattle.pgo_mpcal_read.specs.Statements as s
use Rattle.pgo_expr_read.specs.Steps.{and_then, skip, folded}
use Rattle.pgo_mpcal_read.specs.Reading.{Outcome, sees_second, expression, front_of, ended}
use Rattle.pgo_mpcal_read.specs.ReadingStatements.{with_depth, assignment, with_name, fairness, label, optional_label, node, skip_form, said, one_expression, goto_form, assign_form, call_form, while_form, with_form, branch, sees_else_if, one_more_branch, last_else, if_form, one_more_or, either_form, labeled_statement, row_ended, row_to, one_more_row, goes_on, rows, block_form, body, form, any_form, statement}
use Rattle.pgo_expr_read.proofs.Steps.{next_step}
use Rattle.pgo_mpcal_read.proofs.Parts.{Quiet, expect_gives, mark_gives, eat_true, eat_false}
use Rattle.pgo_mpcal_read.proofs.Expressions.{reach_expression}
use Rattle.pgo_mpcal_read.proofs.Heads as heads
use Rattle.pgo_mpcal_read.proofs.Lists.{reach_items, reach_in_brackets}
use Rattle.pgo_mpcal_read.proofs.Lefts.{reach_assignment, reach_with_name}
use Rattle.pgo_mpcal_read.proofs.Good.{Stays, front_is}
use Rattle.pgo_mpcal_read.proofs.Begins.{Begins, begins, labeled_begins, no_label}

-- what may follow a statement that ends so
pub record Follows (u v : Bool) (rest : List Lexeme) : Type 0 where
  pub quiet : Quiet rest
  pub no_bars : sees symbol.Bars rest ≡ false
  pub stays : Stays u v rest

pub record Reaches (u v : Bool) (ts : List Lexeme) (a : Statement) : Type 0 where
  pub reads : (ms : List MacroDepth) (n : ℕ) (rest : List Lexeme) → depth ms a ≤ n → Follows u v rest → statement ms n (ts ++ rest) ≡ Some (with_depth (depth ms a) a, rest)

pub tall : (ms : List MacroDepth) (a : Statement) → 0 < depth ms a
tall ms (st.skip p) = omega arith
tall ms (st.assign p x) = omega arith
tall ms (st.if_then p x) = omega arith
tall ms (st.if_else p x y) = omega arith
tall ms (st.while_do p x y) = omega arith
tall ms (st.either_of p x) = omega arith
tall ms (st.await_that p x) = omega arith
tall ms (st.with_in p x y) = omega arith
tall ms (st.print_out p x) = omega arith
tall ms (st.assert_that p x) = omega arith
tall ms (st.go_to p x) = omega arith
tall ms (st.call_macro p x y) = omega arith
tall ms (st.yield_as p x) = omega arith
tall ms (st.block p x) = omega arith

-- it is enough to read it at a depth that is no 0
some_depth : (ms : List MacroDepth) (a : Statement) (n : ℕ) (i rest : List Lexeme) → depth ms a ≤ n → ((m : ℕ) → depth ms a ≤ suc m → any_form ms (suc m) (statement ms m) i ≡ Some (with_depth (depth ms a) a, rest)) → statement ms n i ≡ Some (with_depth (depth ms a) a, rest)
unfolding statement
some_depth ms a zero i rest h k = absurd (let z = tall ms a in omega (arith, z, h))
some_depth ms a (suc m) i rest h k = k m h

node_gives : (ms : List MacroDepth) (n : ℕ) (h : ℕ) (a : Statement) (i : List Lexeme) → h + 1 ≡ depth ms a → depth ms a ≤ suc n → node ms (suc n) (statement ms n) h a i ≡ Some (with_depth (depth ms a) a, i)
unfolding node
node_gives ms n h a i same low =
    let b : h < suc n = omega (arith, same, low) in
    ap (λ b. cond b (Some (with_depth (h + 1) a, i)) None) (lt-ltb h (suc n) b) ∙ ap (λ x. Some (with_depth x a, i)) same

pub reach_skip : {p : Spot} → Reaches false false (at p (symbol.Keyword keyword.Skip) ∷ []) (st.skip p.start)
unfolding any_form skip_form
reach_skip {p} = record {
  reads = λ ms n rest h f. some_depth ms (st.skip p.start) n (at p (symbol.Keyword keyword.Skip) ∷ rest) rest h (λ m h.
      next_step _ _ _ _ _ (mark_gives (symbol.Keyword keyword.Skip) p rest) (node_gives ms m 0 (st.skip p.start) rest (omega arith) h));
}

pub reach_go_to : {p n : Spot} {x : Name} → Reaches false false (at p (symbol.Keyword keyword.Goto) ∷ (word n x ∷ [])) (st.go_to p.start (placed n x))
unfolding any_form goto_form
reach_go_to {p} {n} {x} = record {
  reads = λ ms k rest h f. some_depth ms (st.go_to p.start (placed n x)) k (at p (symbol.Keyword keyword.Goto) ∷ (word n x ∷ rest)) rest h (λ m h.
      next_step _ _ _ _ _ (mark_gives (symbol.Keyword keyword.Goto) p (word n x ∷ rest)) (node_gives ms m 0 (st.go_to p.start (placed n x)) rest (omega arith) h));
}

-- a statement of one word and an expression
one_gives : (ms : List MacroDepth) (m : ℕ) (k : Keyword) (p : Spot) (xs : List Lexeme) (e : Tree) (rest : List Lexeme) → IsExpression xs e → 0 + 1 ≡ depth ms (said k p.start e) → Quiet rest
    → one_expression ms (suc m) (statement ms m) k (at p (symbol.Keyword k) ∷ (xs ++ rest)) ≡ Some (with_depth (depth ms (said k p.start e)) (said k p.start e), rest)
unfolding one_expression
one_gives ms m k p xs e rest d one q =
    next_step _ _ _ _ _ (mark_gives (symbol.Keyword k) p (xs ++ rest)) (next_step _ _ _ _ _ (reach_expression xs e d rest q) (node_gives ms m 0 (said k p.start e) rest one (omega (arith, one))))

pub reach_await : {k : Symbol} {p : Spot} {xs : List Lexeme} {e : Tree} → IsAwait k → IsExpression xs e → Reaches false false (at p k ∷ xs) (st.await_that p.start e)
unfolding any_form
reach_await {p = p} {xs = xs} {e = e} s.await d = record { reads = λ ms n rest h f. some_depth ms (st.await_that p.start e) n (at p (symbol.Keyword keyword.Await) ∷ (xs ++ rest)) rest h (λ m h. one_gives ms m keyword.Await p xs e rest d (omega arith) f.quiet) }
reach_await {p = p} {xs = xs} {e = e} s.when d = record { reads = λ ms n rest h f. some_depth ms (st.await_that p.start e) n (at p (symbol.Keyword keyword.When) ∷ (xs ++ rest)) rest h (λ m h. one_gives ms m keyword.When p xs e rest d (omega arith) f.quiet) }

pub reach_print : {p : Spot} {xs : List Lexeme} {e : Tree} → IsExpression xs e → Reaches false false (at p (symbol.Keyword keyword.Print) ∷ xs) (st.print_out p.start e)
unfolding any_form
reach_print {p} {xs} {e} d = record { reads = λ ms n rest h f. some_depth ms (st.print_out p.start e) n (at p (symbol.Keyword keyword.Print) ∷ (xs ++ rest)) rest h (λ m h. one_gives ms m keyword.Print p xs e rest d (omega arith) f.quiet) }

pub reach_assert : {p : Spot} {xs : List Lexeme} {e : Tree} → IsExpression xs e → Reaches false false (at p (symbol.Keyword keyword.Assert) ∷ xs) (st.assert_that p.start e)
unfolding any_form
reach_assert {p} {xs} {e} d = record { reads = λ ms n rest h f. some_depth ms (st.assert_that p.start e) n (at p (symbol.Keyword keyword.Assert) ∷ (xs ++ rest)) rest h (λ m h. one_gives ms m keyword.Assert p xs e rest d (omega arith) f.quiet) }

pub reach_yield : {p : Spot} {xs : List Lexeme} {e : Tree} → IsExpression xs e → Reaches false false (at p (symbol.Keyword keyword.Yield) ∷ xs) (st.yield_as p.start e)
unfolding any_form
reach_yield {p} {xs} {e} d = record { reads = λ ms n rest h f. some_depth ms (st.yield_as p.start e) n (at p (symbol.Keyword keyword.Yield) ∷ (xs ++ rest)) rest h (λ m h. one_gives ms m keyword.Yield p xs e rest d (omega arith) f.quiet) }

assign_form_of : {xs : List Lexeme} {a : Assignment} {as' : List Assignment} → Items IsAssignment symbol.Bars xs (a ∷ as') → (j : List Lexeme) → form_of (xs ++ j) ≡ statement_form.Assign
assign_form_of (elements.items (s.assignment k (s.named elements.nothing) e) m) j = refl
assign_form_of (elements.items (s.assignment k (s.named (elements.another (s.index o i) p)) e) m) j = refl
assign_form_of (elements.items (s.assignment k (s.named (elements.another s.field p)) e) m) j = refl
assign_form_of (elements.items (s.assignment k (s.variable p) e) m) j = refl

pub reach_assign : {xs : List Lexeme} {a : Assignment} {as' : List Assignment} → Items IsAssignment symbol.Bars xs (a ∷ as') → Reaches false false xs (st.assign a.left.name.place (a ∷ as'))
unfolding any_form assign_form
reach_assign {xs} {a} {as'} d = record {
  reads = λ ms n rest h f. some_depth ms (st.assign a.left.name.place (a ∷ as')) n (xs ++ rest) rest h (λ m h.
      ap (λ l. form ms (suc m) (statement ms m) l (xs ++ rest)) (assign_form_of d rest)
      ∙ next_step _ _ _ _ _ (reach_items IsAssignment symbol.Bars assignment Quiet reach_assignment (λ p j. refl) xs (a ∷ as') d rest (f.quiet, f.no_bars)) (node_gives ms m 0 (st.assign a.left.name.place (a ∷ as')) rest (omega arith) h));
}

call_form_of : (n : Spot) (x : Name) {xs : List Lexeme} {es : List Tree} → InBrackets IsExpression xs es → (j : List Lexeme) → form_of (word n x ∷ (xs ++ j)) ≡ statement_form.Call
call_form_of n x elements.empty j = refl
call_form_of n x (elements.some c d) j = refl

pub reach_call : {n : Spot} {x : Name} {xs : List Lexeme} {es : List Tree} → InBrackets IsExpression xs es → Reaches false false (word n x ∷ xs) (st.call_macro n.start (placed n x) es)
unfolding any_form call_form
reach_call {n} {x} {xs} {es} d = record {
  reads = λ ms k rest h f. some_depth ms (st.call_macro n.start (placed n x) es) k (word n x ∷ (xs ++ rest)) rest h (λ m h.
      ap (λ l. form ms (suc m) (statement ms m) l (word n x ∷ (xs ++ rest))) (call_form_of n x d rest)
      ∙ next_step _ _ _ _ _ (reach_in_brackets IsExpression expression Quiet reach_expression (λ p j. refl) (λ p j. refl) (λ xs a d j. (heads.begins xs a d).no_close j) xs es d rest tt)
      (node_gives ms m (depth_of ms x) (st.call_macro n.start (placed n x) es) rest (omega arith) h));
}

pub reach_while : {u v : Bool} {p o : Spot} (c : Spot) {xs ys : List Lexeme} {e : Tree} {a : Statement} → IsExpression xs e → Reaches u v ys a
    → Reaches u v (at p (symbol.Keyword keyword.While) ∷ (at o (symbol.Open bracket.Round) ∷ (xs ++ (at c (symbol.Close bracket.Round) ∷ ys)))) (st.while_do p.start e a)
unfolding any_form while_form
reach_while {u} {v} {p} {o} c {xs} {ys} {e} {a} d r = record {
  reads = λ ms n rest h f. some_depth ms (st.while_do p.start e a) n _ rest h (λ m h.
      ap (λ i. while_form ms (suc m) (statement ms m) (at p (symbol.Keyword keyword.While) ∷ (at o (symbol.Open bracket.Round) ∷ i))) (append_assoc xs (at c (symbol.Close bracket.Round) ∷ ys) rest)
      ∙ next_step _ _ _ _ _ (mark_gives (symbol.Keyword keyword.While) p (at o (symbol.Open bracket.Round) ∷ (xs ++ (at c (symbol.Close bracket.Round) ∷ (ys ++ rest)))))
      (next_step _ _ _ _ _ (expect_gives (symbol.Open bracket.Round) o (xs ++ (at c (symbol.Close bracket.Round) ∷ (ys ++ rest))))
      (next_step _ _ _ _ _ (reach_expression xs e d (at c (symbol.Close bracket.Round) ∷ (ys ++ rest)) refl)
      (next_step _ _ _ _ _ (expect_gives (symbol.Close bracket.Round) c (ys ++ rest))
      (next_step _ _ _ _ _ (r.reads ms m rest (omega (arith, h)) f)
      (node_gives ms m (depth ms a) (st.while_do p.start e a) rest (omega arith) h))))));
}

pub reach_with : {u v : Bool} {p o : Spot} (c : Spot) {xs ys : List Lexeme} {ns : List WithName} {a : Statement} → Items IsWithName symbol.Comma xs ns → Reaches u v ys a
    → Reaches u v (at p (symbol.Keyword keyword.With) ∷ (at o (symbol.Open bracket.Round) ∷ (xs ++ (at c (symbol.Close bracket.Round) ∷ ys)))) (st.with_in p.start ns a)
unfolding any_form with_form
reach_with {u} {v} {p} {o} c {xs} {ys} {ns} {a} d r = record {
  reads = λ ms n rest h f. some_depth ms (st.with_in p.start ns a) n _ rest h (λ m h.
      ap (λ i. with_form ms (suc m) (statement ms m) (at p (symbol.Keyword keyword.With) ∷ (at o (symbol.Open bracket.Round) ∷ i))) (append_assoc xs (at c (symbol.Close bracket.Round) ∷ ys) rest)
      ∙ next_step _ _ _ _ _ (mark_gives (symbol.Keyword keyword.With) p (at o (symbol.Open bracket.Round) ∷ (xs ++ (at c (symbol.Close bracket.Round) ∷ (ys ++ rest)))))
      (next_step _ _ _ _ _ (expect_gives (symbol.Open bracket.Round) o (xs ++ (at c (symbol.Close bracket.Round) ∷ (ys ++ rest))))
      (next_step _ _ _ _ _ (reach_items IsWithName symbol.Comma with_name Quiet reach_with_name (λ p j. refl) xs ns d (at c (symbol.Close bracket.Round) ∷ (ys ++ rest)) (refl, refl))
      (next_step _ _ _ _ _ (expect_gives (symbol.Close bracket.Round) c (ys ++ rest))
      (next_step _ _ _ _ _ (r.reads ms m rest (omega (arith, h)) f)
      (node_gives ms m (depth ms a) (st.with_in p.start ns a) rest (omega arith) h))))));
}

-- ---- `if`

pub record ReachesBranch (u v : Bool) (ts : List Lexeme) (b : ℕ × (Tree × Statement)) : Type 0 where
  pub reads : (ms : List MacroDepth) (limit m : ℕ) (rest : List Lexeme) → depth ms b.1.1 ≤ m → Follows u v rest → branch ms limit (statement ms m) (ts ++ rest) ≡ Some (with_depth (depth ms b.1.1) b, rest)

abbrev pub ReadsElseIfs : Bool → Bool → Bool → Bool → List Lexeme → List (ℕ × (Tree × Statement)) → Type 0
ReadsElseIfs u v w z ts bs = (ms : List MacroDepth) (limit m n h : ℕ) (acc : List (ℕ × (Tree × Statement))) (rest : List Lexeme) → guarded_depth ms (guarded bs) ≤ m → length ts ≤ n → Follows w z rest → sees_else_if rest ≡ false
    → (folded sees_else_if (one_more_branch ms limit (statement ms m)) n (with_depth h acc) (ts ++ rest) ≡ Some (with_depth (max h (guarded_depth ms (guarded bs))) (acc ++ bs), rest)) × Follows u v (ts ++ rest)

pub record ReachesElseIfs (u v w z : Bool) (ts : List Lexeme) (bs : List (ℕ × (Tree × Statement))) : Type 0 where
  pub reads : ReadsElseIfs u v w z ts bs

pub reach_branch : {u v : Bool} {p o : Spot} (c : Spot) {xs ys : List Lexeme} {e : Tree} {a : Statement} → IsExpression xs e → Reaches u v ys a
    → ReachesBranch u v (at p (symbol.Keyword keyword.If) ∷ (at o (symbol.Open bracket.Round) ∷ (xs ++ (at c (symbol.Close bracket.Round) ∷ ys)))) (p.start, (e, a))
unfolding branch
reach_branch {u} {v} {p} {o} c {xs} {ys} {e} {a} d r = record {
  reads = λ ms limit m rest h f.
      ap (λ i. branch ms limit (statement ms m) (at p (symbol.Keyword keyword.If) ∷ (at o (symbol.Open bracket.Round) ∷ i))) (append_assoc xs (at c (symbol.Close bracket.Round) ∷ ys) rest)
      ∙ next_step _ _ _ _ _ (mark_gives (symbol.Keyword keyword.If) p (at o (symbol.Open bracket.Round) ∷ (xs ++ (at c (symbol.Close bracket.Round) ∷ (ys ++ rest)))))
      (next_step _ _ _ _ _ (expect_gives (symbol.Open bracket.Round) o (xs ++ (at c (symbol.Close bracket.Round) ∷ (ys ++ rest))))
      (next_step _ _ _ _ _ (reach_expression xs e d (at c (symbol.Close bracket.Round) ∷ (ys ++ rest)) refl)
      (next_step _ _ _ _ _ (expect_gives (symbol.Close bracket.Round) c (ys ++ rest))
      (next_step _ _ _ _ _ (r.reads ms m rest h f) refl))));
}

same_deep : {A : Type 0} (h k : ℕ) (xs ys : List A) (rest : List Lexeme) → h ≡ k → xs ≡ ys → ◌≡◌ {A = Outcome (WithDepth (List A))} (Some (with_depth h xs, rest)) (Some (with_depth k ys, rest))
same_deep {A} h k xs ys rest e f = ap (λ z. Some (with_depth z xs, rest)) e ∙ ap (λ z. Some (with_depth k z, rest)) f

no_else_if_reads : (u v : Bool) → ReadsElseIfs u v u v [] []
unfolding folded
no_else_if_reads u v ms limit m zero h acc rest low short f over = (same_deep _ _ _ _ rest (omega arith) (sym (append-nil acc)), f)
no_else_if_reads u v ms limit m (suc n) h acc rest low short f over = (
  ap (λ b. cond b (and_then (one_more_branch ms limit (statement ms m) (with_depth h acc) rest) (folded sees_else_if (one_more_branch ms limit (statement ms m)) n)) (Some (with_depth h acc, rest))) over
      ∙ same_deep _ _ _ _ rest (omega arith) (sym (append-nil acc)),
  f,
)

pub reach_no_else_if : {u v : Bool} → ReachesElseIfs u v u v [] []
reach_no_else_if {u} {v} = record { reads = no_else_if_reads u v }

branch_form_of : {u v : Bool} {xs : List Lexeme} {b : ℕ × (Tree × Statement)} → IsBranch u v xs b → (j : List Lexeme) → form_of (xs ++ j) ≡ statement_form.Keyword keyword.If
branch_form_of (s.branch c d r) j = refl

branch_if : {u v : Bool} {xs : List Lexeme} {b : ℕ × (Tree × Statement)} → IsBranch u v xs b → (j : List Lexeme) → sees (symbol.Keyword keyword.If) (xs ++ j) ≡ true
branch_if (s.branch c d r) j = refl

else_follows : {v : Bool} (p : Spot) (j : List Lexeme) → Follows false v (at p (symbol.Keyword keyword.Else) ∷ j)
else_follows p j = record { quiet = refl; no_bars = refl; stays = record { no_else = λ h. cc; no_or = λ h. refl } }

else_if_reads : {u v w z : Bool} (v' : Bool) (p : Spot) {xs ys : List Lexeme} {b : ℕ × (Tree × Statement)} {bs : List (ℕ × (Tree × Statement))} → IsBranch u v xs b → ReachesBranch u v xs b → ReachesElseIfs u v w z ys bs → ReadsElseIfs false v' w z (at p (symbol.Keyword keyword.Else) ∷ (xs ++ ys)) (b ∷ bs)
unfolding folded one_more_branch
else_if_reads v' p {xs = xs} {ys = ys} d r m ms limit k zero h acc rest low short f over = absurd (omega (arith, short))
else_if_reads v' p {xs = xs} {ys = ys} {b = b} {bs = bs} d r m ms limit k (suc n) h acc rest low short f over =
    let l = length-append xs ys in
    let fits : length ys ≤ n = omega (arith, l, short) in
    let more = m.reads ms limit k n (max h (depth ms b.1.1)) (acc ++ b ∷ []) rest (omega (arith, low)) fits f over in
    let flat : at p (symbol.Keyword keyword.Else) ∷ ((xs ++ ys) ++ rest) ≡ at p (symbol.Keyword keyword.Else) ∷ (xs ++ (ys ++ rest)) = ap (λ z. at p (symbol.Keyword keyword.Else) ∷ z) (append_assoc xs ys rest) in
    let goes : sees_else_if (at p (symbol.Keyword keyword.Else) ∷ (xs ++ (ys ++ rest))) ≡ true = branch_if d (ys ++ rest) in
    let one : one_more_branch ms limit (statement ms k) (with_depth h acc) (at p (symbol.Keyword keyword.Else) ∷ (xs ++ (ys ++ rest))) ≡ Some (with_depth (max h (depth ms b.1.1)) (acc ++ b ∷ []), ys ++ rest) =
    next_step _ _ _ _ _ (expect_gives (symbol.Keyword keyword.Else) p (xs ++ (ys ++ rest))) (next_step _ _ _ _ _ (r.reads ms limit k (ys ++ rest) (omega (arith, low)) more.1) refl) in (
      ap (λ i. cond (sees_else_if i) (and_then (one_more_branch ms limit (statement ms k) (with_depth h acc) i) (folded sees_else_if (one_more_branch ms limit (statement ms k)) n)) (Some (with_depth h acc, i))) flat
          ∙ ap (λ c. cond c (and_then (one_more_branch ms limit (statement ms k) (with_depth h acc) (at p (symbol.Keyword keyword.Else) ∷ (xs ++ (ys ++ rest)))) (folded sees_else_if (one_more_branch ms limit (statement ms k)) n)) (Some (with_depth h acc, at p (symbol.Keyword keyword.Else) ∷ (xs ++ (ys ++ rest))))) goes
          ∙ next_step _ _ _ _ _ one more.0
          ∙ same_deep _ _ _ _ rest (omega arith) (append_assoc acc (b ∷ []) bs),
      else_follows p ((xs ++ ys) ++ rest),
    )

pub reach_else_if : {u v w z v' : Bool} {p : Spot} {xs ys : List Lexeme} {b : ℕ × (Tree × Statement)} {bs : List (ℕ × (Tree × Statement))} → IsBranch u v xs b → ReachesBranch u v xs b → ReachesElseIfs u v w z ys bs → ReachesElseIfs false v' w z (at p (symbol.Keyword keyword.Else) ∷ (xs ++ ys)) (b ∷ bs)
reach_else_if {v' = v'} {p = p} d r m = record { reads = else_if_reads v' p d r m }

no_else_if : (rest : List Lexeme) → sees (symbol.Keyword keyword.Else) rest ≡ false → sees_else_if rest ≡ false
no_else_if rest h = ap (λ b. b && sees_second (symbol.Keyword keyword.If) rest) h

pub reach_if_then : {u v w z : Bool} {xs ys : List Lexeme} {b : ℕ × (Tree × Statement)} {bs : List (ℕ × (Tree × Statement))} → IsBranch u v xs b → ReachesBranch u v xs b → ReachesElseIfs u v w z ys bs
    → Reaches true z (xs ++ ys) (st.if_then b.0 (guarded (b ∷ bs)))
unfolding any_form if_form
reach_if_then {u} {v} {w} {z} {xs} {ys} {b} {bs} d r m = record {
  reads = λ ms n rest h f. some_depth ms (st.if_then b.0 (guarded (b ∷ bs))) n ((xs ++ ys) ++ rest) rest h (λ k h.
      let over = no_else_if rest (f.stays.no_else refl) in
      let after : Follows w z rest = record { quiet = f.quiet; no_bars = f.no_bars; stays = record { no_else = λ e. f.stays.no_else refl; no_or = f.stays.no_or } } in
      let more = m.reads ms (suc k) k (length (ys ++ rest)) (depth ms b.1.1) (b ∷ []) rest (omega (arith, h)) (let l = length-append ys rest in omega (arith, l)) after over in
      ap (any_form ms (suc k) (statement ms k)) (append_assoc xs ys rest)
      ∙ ap (λ l. form ms (suc k) (statement ms k) l (xs ++ (ys ++ rest))) (branch_form_of d (ys ++ rest))
      ∙ next_step _ _ _ _ _ (r.reads ms (suc k) k (ys ++ rest) (omega (arith, h)) more.1)
      (next_step _ _ _ _ _ more.0
      (eat_false (symbol.Keyword keyword.Else) _ _ rest (f.stays.no_else refl)
      ∙ node_gives ms k (max (depth ms b.1.1) (guarded_depth ms (guarded bs))) (st.if_then b.0 (guarded (b ∷ bs))) rest (omega arith) h)));
}

sees_behind : (v : Symbol) (xs j : List Lexeme) → 1 ≤ length xs → sees v xs ≡ false → sees v (xs ++ j) ≡ false
sees_behind v [] j long h = absurd (omega (arith, long))
sees_behind v (x ∷ xs) j long h = h

pub reach_if_else : {u v w' z z' : Bool} (p : Spot) {xs ys zs : List Lexeme} {b : ℕ × (Tree × Statement)} {bs : List (ℕ × (Tree × Statement))} {a : Statement} → IsBranch u v xs b → ReachesBranch u v xs b → ReachesElseIfs u v false z ys bs → sees (symbol.Keyword keyword.If) zs ≡ false → 1 ≤ length zs → Reaches w' z' zs a
    → Reaches w' z' (xs ++ (ys ++ (at p (symbol.Keyword keyword.Else) ∷ zs))) (st.if_else b.0 (guarded (b ∷ bs)) a)
unfolding any_form if_form last_else
reach_if_else {u} {v} {w'} {z} {z'} p {xs} {ys} {zs} {b} {bs} {a} d r m no_if full r' = record {
  reads = λ ms n rest h f. some_depth ms (st.if_else b.0 (guarded (b ∷ bs)) a) n ((xs ++ (ys ++ (at p (symbol.Keyword keyword.Else) ∷ zs))) ++ rest) rest h (λ k h.
      let over : sees_else_if (at p (symbol.Keyword keyword.Else) ∷ (zs ++ rest)) ≡ false = sees_behind (symbol.Keyword keyword.If) zs rest full no_if in
      let more = m.reads ms (suc k) k (length (ys ++ (at p (symbol.Keyword keyword.Else) ∷ (zs ++ rest)))) (depth ms b.1.1) (b ∷ []) (at p (symbol.Keyword keyword.Else) ∷ (zs ++ rest)) (omega (arith, h)) (let l = length-append ys (at p (symbol.Keyword keyword.Else) ∷ (zs ++ rest)) in omega (arith, l)) (else_follows p (zs ++ rest)) over in
      ap (any_form ms (suc k) (statement ms k)) (append_assoc xs (ys ++ (at p (symbol.Keyword keyword.Else) ∷ zs)) rest ∙ ap (λ i. xs ++ i) (append_assoc ys (at p (symbol.Keyword keyword.Else) ∷ zs) rest))
      ∙ ap (λ l. form ms (suc k) (statement ms k) l (xs ++ (ys ++ (at p (symbol.Keyword keyword.Else) ∷ (zs ++ rest))))) (branch_form_of d (ys ++ (at p (symbol.Keyword keyword.Else) ∷ (zs ++ rest))))
      ∙ next_step _ _ _ _ _ (r.reads ms (suc k) k (ys ++ (at p (symbol.Keyword keyword.Else) ∷ (zs ++ rest))) (omega (arith, h)) more.1)
      (next_step _ _ _ _ _ more.0
      (eat_true (symbol.Keyword keyword.Else) (last_else ms (suc k) (statement ms k) b.0 (with_depth (max (depth ms b.1.1) (guarded_depth ms (guarded bs))) (b ∷ bs))) (node ms (suc k) (statement ms k) (max (depth ms b.1.1) (guarded_depth ms (guarded bs))) (st.if_then b.0 (guarded (b ∷ bs)))) p (zs ++ rest)
      ∙ next_step _ _ _ _ _ (r'.reads ms k rest (omega (arith, h)) f)
      (node_gives ms k (max (max (depth ms b.1.1) (guarded_depth ms (guarded bs))) (depth ms a)) (st.if_else b.0 (guarded (b ∷ bs)) a) rest (omega arith) h))));
}

-- ---- `either`

abbrev pub ReadsOrs : Bool → Bool → Bool → Bool → List Lexeme → List Statement → Type 0
ReadsOrs u v w z ts ss = (ms : List MacroDepth) (limit m n h : ℕ) (acc : List Statement) (rest : List Lexeme) → statements_depth ms (statements ss) ≤ m → length ts ≤ n → Follows w z rest → sees (symbol.Keyword keyword.Or) rest ≡ false
    → (folded (sees (symbol.Keyword keyword.Or)) (one_more_or ms limit (statement ms m)) n (with_depth h acc) (ts ++ rest) ≡ Some (with_depth (max h (statements_depth ms (statements ss))) (acc ++ ss), rest)) × Follows u v (ts ++ rest)

pub record ReachesOrs (u v w z : Bool) (ts : List Lexeme) (ss : List Statement) : Type 0 where
  pub reads : ReadsOrs u v w z ts ss

no_or_reads : (u v : Bool) → ReadsOrs u v u v [] []
unfolding folded
no_or_reads u v ms limit m zero h acc rest low short f over = (same_deep _ _ _ _ rest (omega arith) (sym (append-nil acc)), f)
no_or_reads u v ms limit m (suc n) h acc rest low short f over = (
  ap (λ b. cond b (and_then (one_more_or ms limit (statement ms m) (with_depth h acc) rest) (folded (sees (symbol.Keyword keyword.Or)) (one_more_or ms limit (statement ms m)) n)) (Some (with_depth h acc, rest))) over
      ∙ same_deep _ _ _ _ rest (omega arith) (sym (append-nil acc)),
  f,
)

pub reach_no_or : {u v : Bool} → ReachesOrs u v u v [] []
reach_no_or {u} {v} = record { reads = no_or_reads u v }

or_follows : {u : Bool} (p : Spot) (j : List Lexeme) → Follows u false (at p (symbol.Keyword keyword.Or) ∷ j)
or_follows p j = record { quiet = refl; no_bars = refl; stays = record { no_else = λ h. refl; no_or = λ h. cc } }

one_or_gives : {u v : Bool} (p : Spot) (xs : List Lexeme) (a : Statement) → Reaches u v xs a → (ms : List MacroDepth) (limit k h : ℕ) (acc : List Statement) (rest : List Lexeme) → depth ms a ≤ k → Follows u v rest
    → one_more_or ms limit (statement ms k) (with_depth h acc) (at p (symbol.Keyword keyword.Or) ∷ (xs ++ rest)) ≡ Some (with_depth (max h (depth ms a)) (acc ++ a ∷ []), rest)
unfolding one_more_or
one_or_gives p xs a r ms limit k h acc rest low f = next_step _ _ _ _ _ (expect_gives (symbol.Keyword keyword.Or) p (xs ++ rest)) (next_step _ _ _ _ _ (r.reads ms k rest low f) refl)

or_this_reads : {u v w z : Bool} (u' : Bool) (p : Spot) {xs ys : List Lexeme} {a : Statement} {ss : List Statement} → Reaches u v xs a → ReachesOrs u v w z ys ss → ReadsOrs u' false w z (at p (symbol.Keyword keyword.Or) ∷ (xs ++ ys)) (a ∷ ss)
unfolding folded
or_this_reads u' p {xs = xs} {ys = ys} r m ms limit k zero h acc rest low short f over = absurd (omega (arith, short))
or_this_reads u' p {xs = xs} {ys = ys} {a = a} {ss = ss} r m ms limit k (suc n) h acc rest low short f over =
    let l = length-append xs ys in
    let fits : length ys ≤ n = omega (arith, l, short) in
    let more = m.reads ms limit k n (max h (depth ms a)) (acc ++ a ∷ []) rest (omega (arith, low)) fits f over in (
      ap (λ i. folded (sees (symbol.Keyword keyword.Or)) (one_more_or ms limit (statement ms k)) (suc n) (with_depth h acc) (at p (symbol.Keyword keyword.Or) ∷ i)) (append_assoc xs ys rest)
          ∙ next_step _ _ _ _ _ (one_or_gives p xs a r ms limit k h acc (ys ++ rest) (omega (arith, low)) more.1) more.0
          ∙ same_deep _ _ _ _ rest (omega arith) (append_assoc acc (a ∷ []) ss),
      or_follows p ((xs ++ ys) ++ rest),
    )

pub reach_or_this : {u v w z u' : Bool} {p : Spot} {xs ys : List Lexeme} {a : Statement} {ss : List Statement} → Reaches u v xs a → ReachesOrs u v w z ys ss → ReachesOrs u' false w z (at p (symbol.Keyword keyword.Or) ∷ (xs ++ ys)) (a ∷ ss)
reach_or_this {u' = u'} {p = p} r m = record { reads = or_this_reads u' p r m }

pub reach_either : {u u' v' w z : Bool} {p : Spot} (q : Spot) {xs ys zs : List Lexeme} {a b : Statement} {ss : List Statement} → Reaches u false xs a → Reaches u' v' ys b → ReachesOrs u' v' w z zs ss
    → Reaches w true (at p (symbol.Keyword keyword.Either) ∷ (xs ++ (at q (symbol.Keyword keyword.Or) ∷ (ys ++ zs)))) (st.either_of p.start (statements (a ∷ (b ∷ ss))))
unfolding any_form either_form
reach_either {u} {u'} {v'} {w} {z} {p} q {xs} {ys} {zs} {a} {b} {ss} r r' m = record {
  reads = λ ms n rest h f. some_depth ms (st.either_of p.start (statements (a ∷ (b ∷ ss)))) n _ rest h (λ k h.
      let over = f.stays.no_or refl in
      let after : Follows w z rest = record { quiet = f.quiet; no_bars = f.no_bars; stays = record { no_else = f.stays.no_else; no_or = λ e. over } } in
      let more = m.reads ms (suc k) k (length (zs ++ rest)) (max (depth ms a) (depth ms b)) (a ∷ (b ∷ [])) rest (omega (arith, h)) (let l = length-append zs rest in omega (arith, l)) after over in
      ap (λ i. either_form ms (suc k) (statement ms k) (at p (symbol.Keyword keyword.Either) ∷ i)) (append_assoc xs (at q (symbol.Keyword keyword.Or) ∷ (ys ++ zs)) rest ∙ ap (λ i. xs ++ (at q (symbol.Keyword keyword.Or) ∷ i)) (append_assoc ys zs rest))
      ∙ next_step _ _ _ _ _ (mark_gives (symbol.Keyword keyword.Either) p (xs ++ (at q (symbol.Keyword keyword.Or) ∷ (ys ++ (zs ++ rest)))))
      (next_step _ _ _ _ _ (r.reads ms k (at q (symbol.Keyword keyword.Or) ∷ (ys ++ (zs ++ rest))) (omega (arith, h)) (or_follows q (ys ++ (zs ++ rest))))
      (next_step _ _ _ _ _ (one_or_gives q ys b r' ms (suc k) k (depth ms a) (a ∷ []) (zs ++ rest) (omega (arith, h)) more.1)
      (next_step _ _ _ _ _ more.0
      (node_gives ms k (max (max (depth ms a) (depth ms b)) (statements_depth ms (statements ss))) (st.either_of p.start (statements (a ∷ (b ∷ ss)))) rest (omega arith) h)))));
}

-- ---- blocks

pub record ReachesLabeled (u v : Bool) (ts : List Lexeme) (r : Option PlacedName × Statement) : Type 0 where
  pub reads : (ms : List MacroDepth) (limit m : ℕ) (rest : List Lexeme) → depth ms r.1 ≤ m → Follows u v rest → labeled_statement ms limit (statement ms m) (ts ++ rest) ≡ Some (with_depth (depth ms r.1) r, rest)

pub reach_bare : {u v : Bool} {xs : List Lexeme} {a : Statement} → Spelled u v xs a → Reaches u v xs a → ReachesLabeled u v xs (None, a)
unfolding labeled_statement optional_label
reach_bare {u} {v} {xs} {a} d r = record {
  reads = λ ms limit m rest h f.
      next_step _ _ _ _ _ (ap (λ b. cond b (label (xs ++ rest)) (Some (None, xs ++ rest))) (no_label d rest)) (next_step _ _ _ _ _ (r.reads ms m rest h f) refl);
}

fairness_gives : {xs ys : List Lexeme} → IsFairness xs → Begins ys → (rest : List Lexeme) → sees (symbol.Infix operator.Add) (ys ++ rest) ≡ false → sees (symbol.Infix operator.Subtract) (ys ++ rest) ≡ false → fairness (xs ++ (ys ++ rest)) ≡ ys ++ rest
unfolding fairness
fairness_gives {ys = ys} s.unmarked b rest plus minus = ap (λ z. cond (z || sees (symbol.Infix operator.Subtract) (ys ++ rest)) (skip (ys ++ rest)) (ys ++ rest)) plus ∙ ap (λ z. cond z (skip (ys ++ rest)) (ys ++ rest)) minus
fairness_gives s.plus b rest plus minus = refl
fairness_gives s.minus b rest plus minus = refl

pub reach_label : {u v : Bool} {n c : Spot} {x : Name} {xs ys : List Lexeme} {a : Statement} → IsFairness xs → Begins ys → Reaches u v ys a → ReachesLabeled u v (word n x ∷ (at c symbol.Colon ∷ (xs ++ ys))) (Some (placed n x), a)
unfolding labeled_statement optional_label label
reach_label {u} {v} {n} {c} {x} {xs} {ys} {a} fair b r = record {
  reads = λ ms limit m rest h f.
      ap (λ i. labeled_statement ms limit (statement ms m) (word n x ∷ (at c symbol.Colon ∷ i))) (append_assoc xs ys rest)
      ∙ next_step _ _ _ _ _ (next_step _ _ _ _ _ (expect_gives symbol.Colon c (xs ++ (ys ++ rest))) (ap (λ i. Some (Some (placed n x), i)) (fairness_gives fair b rest (b.no_plus rest) (b.no_minus rest))))
      (next_step _ _ _ _ _ (r.reads ms m rest h f) refl);
}

-- the rows of a block before its `}`
abbrev pub ReadsRows : List Lexeme → List (Option PlacedName × Statement) → Type 0
ReadsRows ts rs = (ms : List MacroDepth) (limit m n h : ℕ) (acc : List (Option PlacedName × Statement)) (c : Spot) (rest : List Lexeme) → labeled_depth ms (labeled rs) ≤ m → length ts ≤ n
    → folded goes_on (one_more_row ms limit (statement ms m)) n (with_depth h acc) (ts ++ (at c (symbol.Close bracket.Curly) ∷ rest)) ≡ Some (with_depth (max h (labeled_depth ms (labeled rs))) (acc ++ rs), at c (symbol.Close bracket.Curly) ∷ rest)

pub record ReachesRows (ts : List Lexeme) (rs : List (Option PlacedName × Statement)) : Type 0 where
  pub reads : ReadsRows ts rs

no_row_reads : ReadsRows [] []
unfolding folded
no_row_reads ms limit m zero h acc c rest low short = same_deep _ _ _ _ (at c (symbol.Close bracket.Curly) ∷ rest) (omega arith) (sym (append-nil acc))
no_row_reads ms limit m (suc n) h acc c rest low short = same_deep _ _ _ _ (at c (symbol.Close bracket.Curly) ∷ rest) (omega arith) (sym (append-nil acc))

pub reach_no_row : ReachesRows [] []
reach_no_row = record { reads = no_row_reads }

brace_follows : {u v : Bool} (c : Spot) (j : List Lexeme) → Follows u v (at c (symbol.Close bracket.Curly) ∷ j)
brace_follows c j = record { quiet = refl; no_bars = refl; stays = record { no_else = λ h. refl; no_or = λ h. refl } }

begins_follows : {u v : Bool} {xs : List Lexeme} → Begins xs → (j : List Lexeme) → Follows u v (xs ++ j)
begins_follows b j = record { quiet = b.quiet j; no_bars = b.no_bars j; stays = record { no_else = λ h. b.no_else j; no_or = λ h. b.no_or j } }

row_gives : {u v : Bool} {xs : List Lexeme} {r : Option PlacedName × Statement} → ReachesLabeled u v xs r → (ms : List MacroDepth) (limit m h : ℕ) (acc : List (Option PlacedName × Statement)) (rest j : List Lexeme) → depth ms r.1 ≤ m → Follows u v rest → row_ended (xs ++ rest) rest ≡ Some j
    → one_more_row ms limit (statement ms m) (with_depth h acc) (xs ++ rest) ≡ Some (with_depth (max h (depth ms r.1)) (acc ++ r ∷ []), j)
unfolding one_more_row
row_gives {xs = xs} {r = r} reaches ms limit m h acc rest j low f ends = next_step _ _ _ _ _ (reaches.reads ms limit m rest low f) (ap (row_to (with_depth h acc) (with_depth (depth ms r.1) r)) ends)

last_row_reads : {u v : Bool} {xs : List Lexeme} {r : Option PlacedName × Statement} → Begins xs → ReachesLabeled u v xs r → ReadsRows xs (r ∷ [])
unfolding folded row_ended
last_row_reads {xs = xs} b reaches ms limit m zero h acc c rest low short = absurd (let k = b.full in omega (arith, k, short))
last_row_reads {xs = xs} {r = r} b reaches ms limit m (suc n) h acc c rest low short =
    ap (λ z. cond (not z) (and_then (one_more_row ms limit (statement ms m) (with_depth h acc) (xs ++ (at c (symbol.Close bracket.Curly) ∷ rest))) (folded goes_on (one_more_row ms limit (statement ms m)) n)) (Some (with_depth h acc, xs ++ (at c (symbol.Close bracket.Curly) ∷ rest)))) (b.no_brace (at c (symbol.Close bracket.Curly) ∷ rest))
    ∙ next_step _ _ _ _ _ (row_gives reaches ms limit m h acc (at c (symbol.Close bracket.Curly) ∷ rest) (at c (symbol.Close bracket.Curly) ∷ rest) (omega (arith, low)) (brace_follows c rest) refl)
    (no_row_reads ms limit m n (max h (depth ms r.1)) (acc ++ r ∷ []) c rest (omega arith) (omega arith))
    ∙ same_deep _ _ _ _ (at c (symbol.Close bracket.Curly) ∷ rest) (omega arith) (append-nil (acc ++ r ∷ []))

pub reach_last_row : {u v : Bool} {xs : List Lexeme} {r : Option PlacedName × Statement} → Begins xs → ReachesLabeled u v xs r → ReachesRows xs (r ∷ [])
reach_last_row b r = record { reads = last_row_reads b r }

-- no `;` and no `}` follows, and the row ends in a `}`
brace_goes : (xs ys more : List Lexeme) → closes xs ≡ true → Begins ys → row_ended (xs ++ (ys ++ more)) (ys ++ more) ≡ Some (ys ++ more)
unfolding row_ended ended
brace_goes xs ys more e b =
    ap (λ z. cond z (Some (ys ++ more)) (cond (sees symbol.Semicolon (ys ++ more)) (Some (skip (ys ++ more))) (cond (closes (front_of (xs ++ (ys ++ more)) (ys ++ more))) (Some (ys ++ more)) None))) (b.no_brace more)
    ∙ ap (λ z. cond z (Some (skip (ys ++ more))) (cond (closes (front_of (xs ++ (ys ++ more)) (ys ++ more))) (Some (ys ++ more)) None)) (b.no_semicolon more)
    ∙ ap (λ z. cond (closes z) (Some (ys ++ more)) None) (front_is (xs ++ (ys ++ more)) xs (ys ++ more) refl)
    ∙ ap (λ z. cond z (Some (ys ++ more)) None) e

-- how what stands behind a row goes on
row_goes : {xs zs ys : List Lexeme} {rs : List (Option PlacedName × Statement)} → Ended xs zs → Rows ys rs → (c : Spot) (rest : List Lexeme) → row_ended (xs ++ (zs ++ (ys ++ (at c (symbol.Close bracket.Curly) ∷ rest)))) (zs ++ (ys ++ (at c (symbol.Close bracket.Curly) ∷ rest))) ≡ Some (ys ++ (at c (symbol.Close bracket.Curly) ∷ rest))
unfolding row_ended ended
row_goes elements.semicolon d c rest = refl
row_goes (elements.brace e) s.no_row c rest = refl
row_goes {xs = xs} (elements.brace e) (s.last_row {xs = ys} d) c rest = brace_goes xs ys (at c (symbol.Close bracket.Curly) ∷ rest) e (labeled_begins d)
row_goes {xs = xs} (elements.brace e) (s.row {xs = ys} {ys = more} {zs = ends} d k m) c rest =
    ap (λ i. row_ended (xs ++ i) i) (append_assoc ys (ends ++ more) (at c (symbol.Close bracket.Curly) ∷ rest)) ∙ brace_goes xs ys ((ends ++ more) ++ (at c (symbol.Close bracket.Curly) ∷ rest)) e (labeled_begins d) ∙ ap (λ i. Some i) (sym (append_assoc ys (ends ++ more) (at c (symbol.Close bracket.Curly) ∷ rest)))

semicolon_follows : {u v : Bool} (p : Spot) (j : List Lexeme) → Follows u v (at p symbol.Semicolon ∷ j)
semicolon_follows p j = record { quiet = refl; no_bars = refl; stays = record { no_else = λ h. refl; no_or = λ h. refl } }

row_follows : {xs zs ys : List Lexeme} {rs : List (Option PlacedName × Statement)} {u v : Bool} → Ended xs zs → Rows ys rs → (c : Spot) (rest : List Lexeme) → Follows u v (zs ++ (ys ++ (at c (symbol.Close bracket.Curly) ∷ rest)))
row_follows (elements.semicolon {p = p}) d c rest = semicolon_follows p _
row_follows (elements.brace e) s.no_row c rest = brace_follows c rest
row_follows (elements.brace e) (s.last_row d) c rest = begins_follows (labeled_begins d) (at c (symbol.Close bracket.Curly) ∷ rest)
row_follows {u = u} {v = v} (elements.brace e) (s.row {xs = ys} {ys = more} {zs = ends} d k m) c rest =
    let P : List Lexeme → Type 0 = λ i. Follows u v i in
    subst P (sym (append_assoc ys (ends ++ more) (at c (symbol.Close bracket.Curly) ∷ rest))) (begins_follows (labeled_begins d) ((ends ++ more) ++ (at c (symbol.Close bracket.Curly) ∷ rest)))

row_reads : {u v : Bool} {xs ys zs : List Lexeme} {r : Option PlacedName × Statement} {rs : List (Option PlacedName × Statement)} → Begins xs → ReachesLabeled u v xs r → Ended xs zs → Rows ys rs → ReachesRows ys rs → ReadsRows (xs ++ (zs ++ ys)) (r ∷ rs)
unfolding folded
row_reads {xs = xs} {ys = ys} {zs = zs} b reaches ends d m ms limit k zero h acc c rest low short = absurd (let f = b.full in let l = length-append xs (zs ++ ys) in omega (arith, f, l, short))
row_reads {u} {v} {xs = xs} {ys = ys} {zs = zs} {r = r} {rs = rs} b reaches ends d m ms limit k (suc n) h acc c rest low short =
    let end : List Lexeme = at c (symbol.Close bracket.Curly) ∷ rest in
    let l = length-append xs (zs ++ ys) in
    let l' = length-append zs ys in
    let f = b.full in
    let flat : (xs ++ (zs ++ ys)) ++ end ≡ xs ++ (zs ++ (ys ++ end)) = append_assoc xs (zs ++ ys) end ∙ ap (λ i. xs ++ i) (append_assoc zs ys end) in
    ap (λ i. folded goes_on (one_more_row ms limit (statement ms k)) (suc n) (with_depth h acc) i) flat
    ∙ ap (λ z. cond (not z) (and_then (one_more_row ms limit (statement ms k) (with_depth h acc) (xs ++ (zs ++ (ys ++ end)))) (folded goes_on (one_more_row ms limit (statement ms k)) n)) (Some (with_depth h acc, xs ++ (zs ++ (ys ++ end))))) (b.no_brace (zs ++ (ys ++ end)))
    ∙ next_step _ _ _ _ _ (row_gives reaches ms limit k h acc (zs ++ (ys ++ end)) (ys ++ end) (omega (arith, low)) (row_follows ends d c rest) (row_goes ends d c rest))
    (m.reads ms limit k n (max h (depth ms r.1)) (acc ++ r ∷ []) c rest (omega (arith, low)) (omega (arith, short, l, l', f)))
    ∙ same_deep _ _ _ _ end (omega arith) (append_assoc acc (r ∷ []) rs)

pub reach_row : {u v : Bool} {xs ys zs : List Lexeme} {r : Option PlacedName × Statement} {rs : List (Option PlacedName × Statement)} → Begins xs → ReachesLabeled u v xs r → Ended xs zs → Rows ys rs → ReachesRows ys rs → ReachesRows (xs ++ (zs ++ ys)) (r ∷ rs)
reach_row b r e d m = record { reads = row_reads b r e d m }

rows_give : {xs : List Lexeme} {rs : List (Option PlacedName × Statement)} → ReachesRows xs rs → (ms : List MacroDepth) (limit m : ℕ) (c : Spot) (rest : List Lexeme) → labeled_depth ms (labeled rs) ≤ m
    → rows ms limit (statement ms m) (xs ++ (at c (symbol.Close bracket.Curly) ∷ rest)) ≡ Some (with_depth (labeled_depth ms (labeled rs)) rs, rest)
unfolding rows
rows_give {xs} {rs} m ms limit k c rest low =
    next_step _ _ _ _ _ (m.reads ms limit k (length (xs ++ (at c (symbol.Close bracket.Curly) ∷ rest))) 0 [] c rest low (let l = length-append xs (at c (symbol.Close bracket.Curly) ∷ rest) in omega (arith, l)))
    (next_step _ _ _ _ _ (expect_gives (symbol.Close bracket.Curly) c rest) (ap (λ z. Some (with_depth z rs, rest)) (omega arith)))

pub reach_block : {o : Spot} (c : Spot) {xs : List Lexeme} {rs : List (Option PlacedName × Statement)} → ReachesRows xs rs → Reaches false false (at o (symbol.Open bracket.Curly) ∷ (xs ++ (at c (symbol.Close bracket.Curly) ∷ []))) (st.block o.start (labeled rs))
unfolding any_form block_form
reach_block {o} c {xs} {rs} m = record {
  reads = λ ms n rest h f. some_depth ms (st.block o.start (labeled rs)) n _ rest h (λ k h.
      ap (λ i. block_form ms (suc k) (statement ms k) (at o (symbol.Open bracket.Curly) ∷ i)) (append_assoc xs (at c (symbol.Close bracket.Curly) ∷ []) rest)
      ∙ next_step _ _ _ _ _ (mark_gives (symbol.Open bracket.Curly) o (xs ++ (at c (symbol.Close bracket.Curly) ∷ rest)))
      (next_step _ _ _ _ _ (rows_give m ms (suc k) k c rest (omega (arith, h)))
      (node_gives ms k (labeled_depth ms (labeled rs)) (st.block o.start (labeled rs)) rest (omega arith) h)));
}

body_gives : (o c : Spot) {xs : List Lexeme} {rs : List (Option PlacedName × Statement)} → ReachesRows xs rs → (ms : List MacroDepth) (limit m : ℕ) (rest : List Lexeme) → labeled_depth ms (labeled rs) ≤ m
    → body ms limit (statement ms m) ((at o (symbol.Open bracket.Curly) ∷ (xs ++ (at c (symbol.Close bracket.Curly) ∷ []))) ++ rest) ≡ Some (with_depth (labeled_depth ms (labeled rs)) rs, rest)
unfolding body
body_gives o c {xs} {rs} m ms limit k rest low =
    ap (λ i. body ms limit (statement ms k) (at o (symbol.Open bracket.Curly) ∷ i)) (append_assoc xs (at c (symbol.Close bracket.Curly) ∷ []) rest)
    ∙ next_step _ _ _ _ _ (expect_gives (symbol.Open bracket.Curly) o (xs ++ (at c (symbol.Close bracket.Curly) ∷ rest))) (rows_give m ms limit k c rest low)

-- ---- the whole

mutual
  pub reach : {u v : Bool} {ts : List Lexeme} {a : Statement} → Spelled u v ts a → Reaches u v ts a
  reach s.skip = reach_skip
  reach (s.assign d) = reach_assign d
  reach (s.if_then d m) = reach_if_then d (reach_one d) (reach_else_ifs m)
  reach (s.if_else p d m h r) = reach_if_else p d (reach_one d) (reach_else_ifs m) h (begins r).full (reach r)
  reach (s.while_do c d r) = reach_while c d (reach r)
  reach (s.either_of q r r' m) = reach_either q (reach r) (reach r') (reach_ors m)
  reach (s.await_that k d) = reach_await k d
  reach (s.with_in c d r) = reach_with c d (reach r)
  reach (s.print_out d) = reach_print d
  reach (s.assert_that d) = reach_assert d
  reach s.go_to = reach_go_to
  reach (s.call_macro d) = reach_call d
  reach (s.yield_as d) = reach_yield d
  reach (s.block c m) = reach_block c (reach_rows m)

  reach_one : {u v : Bool} {ts : List Lexeme} {b : ℕ × (Tree × Statement)} → IsBranch u v ts b → ReachesBranch u v ts b
  reach_one (s.branch c d r) = reach_branch c d (reach r)

  reach_else_ifs : {u v w z : Bool} {ts : List Lexeme} {bs : List (ℕ × (Tree × Statement))} → ElseIfs u v w z ts bs → ReachesElseIfs u v w z ts bs
  reach_else_ifs s.no_else_if = reach_no_else_if
  reach_else_ifs (s.else_if d m) = reach_else_if d (reach_one d) (reach_else_ifs m)

  reach_ors : {u v w z : Bool} {ts : List Lexeme} {ss : List Statement} → Ors u v w z ts ss → ReachesOrs u v w z ts ss
  reach_ors s.no_or = reach_no_or
  reach_ors (s.or_this r m) = reach_or_this (reach r) (reach_ors m)

  reach_labeled : {u v : Bool} {ts : List Lexeme} {r : Option PlacedName × Statement} → IsLabeled u v ts r → ReachesLabeled u v ts r
  reach_labeled (s.bare d) = reach_bare d (reach d)
  reach_labeled (s.label f d) = reach_label f (begins d) (reach d)

  reach_rows : {ts : List Lexeme} {rs : List (Option PlacedName × Statement)} → Rows ts rs → ReachesRows ts rs
  reach_rows s.no_row = reach_no_row
  reach_rows (s.last_row d) = reach_last_row (labeled_begins d) (reach_labeled d)
  reach_rows (s.row d e m) = reach_row (labeled_begins d) (reach_labeled d) e m (reach_rows m)

pub reach_body : {ts : List Lexeme} {rs : List (Option PlacedName × Statement)} → IsBody ts rs → (ms : List MacroDepth) (limit m : ℕ) (rest : List Lexeme) → labeled_depth ms (labeled rs) ≤ m
    → body ms limit (statement ms m) (ts ++ rest) ≡ Some (with_depth (labeled_depth ms (labeled rs)) rs, rest)
reach_body (s.body {o = o} c m) = body_gives o c (reach_rows m)

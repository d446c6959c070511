-- IF, CASE, LET, quantifiers and CHOOSE in canonical text.
use Rattle.std.proofs.Common.{◌+◌, false, List, [], ◌∷◌, ◌++◌, refl, ap, sym, subst}
use Rattle.std.specs.Prelude.{codes}
use Rattle.std.proofs.lemmas.List.{append_assoc}
use Rattle.pgo_base.specs.declared.expr.Infix.TheVariants as op
use Rattle.pgo_base.specs.declared.expr.Quantifier.{Quantifier}
use Rattle.pgo_base.specs.Lookup.{Name}
use Rattle.pgo_base.specs.Tree.{Tree, NamedTrees, more_named, TreePairs, more_arms, BoundTrees, more_bound}
use Rattle.pgo_base.specs.Tree as e
use Rattle.pgo_model.specs.ExprText.{quantifier_text}
use Rattle.pgo_lexer.specs.declared.token.Token.{Token}
use Rattle.pgo_lexer.specs.declared.token.Token.TheVariants as t
use Rattle.pgo_lexer.specs.declared.symbol.Symbol.TheVariants as y
use Rattle.pgo_expr_read.specs.declared.table.Form.TheVariants as form
use Rattle.pgo_expr_read.specs.declared.read.Ending.TheVariants as ending
use Rattle.pgo_expr_read.specs.Spells.{Spelled}
use Rattle.pgo_expr_read.specs.Spells as s
use Rattle.pgo_expr_write.specs.WellFormed.{IsName, AreSomeNames}
use Rattle.pgo_expr_write.specs.Pieces.{Piece, written, operand, named_from, arms_from, binders_from}
use Rattle.pgo_expr_write.proofs.FixedWords.{colon, member, then, otherwise, let_end, when, case, let_begin, choose, other_arrow, box, quantifier_said, quantifier_begins}
use Rattle.pgo_expr_write.proofs.Leaves.{name_said}
use Rattle.pgo_expr_write.proofs.Inners.{ahead, ahead_append, regroup, Outer, Inner, Over}
use Rattle.pgo_expr_write.proofs.ItemRows.{named_back, arms_back, bound_back, InnerNamed, InnerArms, InnerBound, row_of_definitions, row_of_arms, row_of_binders}

pub cond_form : (a b c : Tree) → Inner a → Inner b → Inner c → Outer (e.cond_of a b c)
cond_form a b c i j k = record {
  outermost = form.Closed;
  last = ending.Open;
  tokens = t.Symbol y.If ∷ (i.tokens ++ (t.Symbol y.Then ∷ (j.tokens ++ (t.Symbol y.Else ∷ k.tokens))));
  spelled = s.cond_of i.spelled j.spelled k.spelled;
  closed = λ h. cc;
  begins = λ rest. (refl, refl, refl);
  said = λ st p rest us ends d.
      regroup _ _ _ _ refl (simp append_assoc)
      (when (i.said st false _ (t.Symbol y.Then ∷ (j.tokens ++ (t.Symbol y.Else ∷ (k.tokens ++ us)))) (refl, refl)
      (then (j.said st false _ (t.Symbol y.Else ∷ (k.tokens ++ us)) (refl, refl) (otherwise (k.said st false rest us ends d))))));
}

pub case_form : (g a : Tree) (gs : TreePairs) → Inner g → Inner a → InnerArms gs → Outer (e.case_of (more_arms g a gs))
case_form g a gs j i is =
    let row = row_of_arms g a gs j i is in
    let P : TreePairs → Type 0 = λ z. Spelled form.Closed ending.Case (t.Symbol y.Case ∷ row.tokens) (e.case_of z) in
    record {
      outermost = form.Closed;
      last = ending.Case;
      tokens = t.Symbol y.Case ∷ row.tokens;
      spelled = subst P (arms_back (more_arms g a gs)) (s.case_of row.items);
      closed = λ h. cc;
      begins = λ rest. (refl, refl, refl);
      said = λ st p rest us ends d. case (row.said st false rest us ends d);
    }

pub case_other_form : (g a : Tree) (gs : TreePairs) (c : Tree) → Inner g → Inner a → InnerArms gs → Inner c → Outer (e.case_other (more_arms g a gs) c)
case_other_form g a gs c j i is k =
    let row = row_of_arms g a gs j i is in
    let qs : List Piece = written (codes " [] OTHER -> ") ∷ operand c ∷ [] in
    let ts : List Token = t.Symbol y.Case ∷ (row.tokens ++ (t.Symbol y.Box ∷ (t.Symbol y.Other ∷ (t.Symbol y.Arrow ∷ k.tokens)))) in
    let P : TreePairs → Type 0 = λ z. Spelled form.Closed ending.Case ts (e.case_other z c) in
    record {
      outermost = form.Closed;
      last = ending.Case;
      tokens = ts;
      spelled = subst P (arms_back (more_arms g a gs)) (s.case_other refl row.items k.spelled);
      closed = λ h. cc;
      begins = λ rest. (refl, refl, refl);
      said = λ st p rest us ends d.
          regroup _ _ _ _ (ap (λ z. codes "CASE " ++ z) (sym (ahead_append (arms_from 0 (more_arms g a gs)) qs rest)))
          (ap (λ z. t.Symbol y.Case ∷ z) (sym (append_assoc row.tokens (t.Symbol y.Box ∷ (t.Symbol y.Other ∷ (t.Symbol y.Arrow ∷ k.tokens))) us)))
          (case (row.said st false (ahead qs rest) (t.Symbol y.Box ∷ (t.Symbol y.Other ∷ (t.Symbol y.Arrow ∷ (k.tokens ++ us)))) (refl, refl) (box (other_arrow (k.said st false rest us ends d)))));
    }

pub let_form : (x : Name) (a : Tree) (ds : NamedTrees) (c : Tree) → IsName x → Inner a → InnerNamed ds → Inner c → Outer (e.let_in (more_named x a ds) c)
let_form x a ds c h i is k =
    let row = row_of_definitions x a ds h i is in
    let qs : List Piece = written (codes " IN ") ∷ operand c ∷ [] in
    let ts : List Token = t.Symbol y.Let ∷ (row.tokens ++ (t.Symbol y.LetIn ∷ k.tokens)) in
    let P : NamedTrees → Type 0 = λ z. Spelled form.Closed ending.Open ts (e.let_in z c) in
    record {
      outermost = form.Closed;
      last = ending.Open;
      tokens = ts;
      spelled = subst P (named_back (more_named x a ds)) (s.let_in row.items k.spelled);
      closed = λ h. cc;
      begins = λ rest. (refl, refl, refl);
      said = λ st p rest us ends d.
          regroup _ _ _ _ (ap (λ z. codes "LET " ++ z) (sym (ahead_append (named_from (codes " == ") (codes " ") 0 (more_named x a ds)) qs rest)))
          (ap (λ z. t.Symbol y.Let ∷ z) (sym (append_assoc row.tokens (t.Symbol y.LetIn ∷ k.tokens) us)))
          (let_begin (row.said st false (ahead qs rest) (t.Symbol y.LetIn ∷ (k.tokens ++ us)) (refl, refl) (let_end (k.said st false rest us ends d))));
    }

pub quantified_form : (q : Quantifier) (xs : List Name) (r : Tree) (bs : BoundTrees) (c : Tree) → AreSomeNames xs → Over r → InnerBound bs → Inner c → Outer (e.quantified q (more_bound xs r bs) c)
quantified_form q xs r bs c h o is k =
    let row = row_of_binders xs r bs h o is in
    let qs : List Piece = written (codes " : ") ∷ operand c ∷ [] in
    let ts : List Token = t.Symbol (y.Quantifier q) ∷ (row.tokens ++ (t.Symbol y.Colon ∷ k.tokens)) in
    let P : BoundTrees → Type 0 = λ z. Spelled form.Closed ending.Open ts (e.quantified q z c) in
    record {
      outermost = form.Closed;
      last = ending.Open;
      tokens = ts;
      spelled = subst P (bound_back (more_bound xs r bs)) (s.quantified row.items k.spelled);
      closed = λ h. cc;
      begins = λ rest. quantifier_begins q _;
      said = λ st p rest us ends d.
          regroup _ _ _ _ (ap (λ z. quantifier_text q ++ z) (sym (ahead_append (binders_from 0 (more_bound xs r bs)) qs rest)))
          (ap (λ z. t.Symbol (y.Quantifier q) ∷ z) (sym (append_assoc row.tokens (t.Symbol y.Colon ∷ k.tokens) us)))
          (quantifier_said q (row.said st false (ahead qs rest) (t.Symbol y.Colon ∷ (k.tokens ++ us)) (refl, refl) (colon (k.said st false rest us ends d))));
    }

pub choose_form : (x : Name) (r c : Tree) → IsName x → Over r → Inner c → Outer (e.choose x r c)
choose_form x r c h o k = record {
  outermost = form.Closed;
  last = ending.Open;
  tokens = t.Symbol y.Choose ∷ (t.Name x ∷ (t.Symbol (y.Infix op.In) ∷ (o.tokens ++ (t.Symbol y.Colon ∷ k.tokens))));
  spelled = s.choose o.range k.spelled;
  closed = λ h. cc;
  begins = λ rest. (refl, refl, refl);
  said = λ st p rest us ends d.
      regroup _ _ _ _ refl (ap (λ z. t.Symbol y.Choose ∷ (t.Name x ∷ (t.Symbol (y.Infix op.In) ∷ z))) (sym (append_assoc o.tokens (t.Symbol y.Colon ∷ k.tokens) us)))
      (choose (name_said x _ h (refl, refl) (member (o.said st false _ (t.Symbol y.Colon ∷ (k.tokens ++ us)) (refl, refl) (colon (k.said st false rest us ends d))))));
}

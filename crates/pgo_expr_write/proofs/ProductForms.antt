-- Products in canonical text: one operator `\X` between all of their operands.
use Rattle.std.proofs.Common.{◌≡◌, ◌+◌, ℕ, suc, true, false, List, [], ◌∷◌, ◌++◌, refl, ap, sym, ◌∙◌, subst}
use Rattle.std.specs.Prelude.{codes}
use Rattle.std.proofs.lemmas.List.{append_assoc, append-nil}
use Rattle.pgo_base.specs.Tree.{Tree, Trees, no_trees, more_trees}
use Rattle.pgo_base.specs.Tree as e
use Rattle.pgo_lexer.specs.declared.token.Token.{Token}
use Rattle.pgo_lexer.specs.declared.symbol.Bracket.{Bracket}
use Rattle.pgo_expr_read.specs.declared.table.Form.{Form}
use Rattle.pgo_expr_read.specs.declared.table.Form.TheVariants as form
use Rattle.pgo_expr_read.specs.declared.table.Operator.TheVariants as operator
use Rattle.pgo_expr_read.specs.declared.read.Ending.TheVariants as ending
use Rattle.pgo_expr_read.specs.Spells.{Spelled, operator_token, appended, extended, product_of_two}
use Rattle.pgo_expr_read.specs.Spells as s
use Rattle.pgo_expr_read.specs.Table.{takes_left, high, low, is_left}
use Rattle.pgo_expr_write.specs.Pieces.{Piece, list_from}
use Rattle.pgo_expr_write.proofs.Lexed.{Lexed}
use Rattle.pgo_expr_write.proofs.FixedWords.{product, Ends}
use Rattle.pgo_expr_write.proofs.Inners.{ahead, regroup, Outer, Inner}
use Rattle.pgo_expr_write.proofs.OperatorForms.{takes_closed, right_closed}
use Rattle.pgo_expr_write.proofs.ItemRows.{Inners, no_inner, more_inner}

-- ---- lists of operands

abbrev appended_all : Trees → Trees → Trees
appended_all acc no_trees = acc
appended_all acc (more_trees a as') = appended_all (appended acc a) as'

abbrev followed : Trees → Trees → Trees
followed no_trees bs = bs
followed (more_trees a as') bs = more_trees a (followed as' bs)

followed_none : (as' : Trees) → as' ≡ followed as' no_trees
followed_none no_trees = refl
followed_none (more_trees a as') = ap (λ z. more_trees a z) (followed_none as')

appended_followed : (acc : Trees) (a : Tree) (bs : Trees) → followed (appended acc a) bs ≡ followed acc (more_trees a bs)
appended_followed no_trees a bs = refl
appended_followed (more_trees c acc) a bs = ap (λ z. more_trees c z) (appended_followed acc a bs)

all_followed : (acc bs : Trees) → appended_all acc bs ≡ followed acc bs
all_followed acc no_trees = followed_none acc
all_followed acc (more_trees a bs) = all_followed (appended acc a) bs ∙ appended_followed acc a bs

-- ---- products

abbrev Product : Form
Product = form.Operation operator.Product

takes_same : takes_left operator.Product Product ≡ true
unfolding takes_left is_left high low
takes_same = refl

two_factors : {xs ys : List Token} {a b : Tree} → Spelled form.Closed ending.Closed xs a → Spelled form.Closed ending.Closed ys b → Spelled Product ending.Closed (xs ++ (operator_token operator.Product ∷ ys)) (e.product (more_trees a (more_trees b no_trees)))
unfolding product_of_two
two_factors d d' = s.operation {op = operator.Product} (takes_closed operator.Product) (right_closed operator.Product) d d'

one_more_factor : {xs ys : List Token} (acc : Trees) {b : Tree} → Spelled Product ending.Closed xs (e.product acc) → Spelled form.Closed ending.Closed ys b → Spelled Product ending.Closed (xs ++ (operator_token operator.Product ∷ ys)) (e.product (appended acc b))
unfolding extended
one_more_factor acc d d' = s.operation {op = operator.Product} takes_same (right_closed operator.Product) d d'

record Factors (xs : List Token) (acc : Trees) (ps : List Piece) (as' : Trees) : Type 0 where
  tokens : List Token
  spelled : Spelled Product ending.Closed (xs ++ tokens) (e.product (appended_all acc as'))
  ends : (rest : List ℕ) → Ends rest → Ends (ahead ps rest)
  said : (st : List Bracket) (rest : List ℕ) (us : List Token) → Ends rest → Lexed st true rest us → Lexed st true (ahead ps rest) (tokens ++ us)

factors : (n : ℕ) (xs : List Token) (acc as' : Trees) → Spelled Product ending.Closed xs (e.product acc) → Inners as' → Factors xs acc (list_from (codes " \\X ") (suc n) as') as'
factors n xs acc no_trees d no_inner =
    let P : List Token → Type 0 = λ z. Spelled Product ending.Closed z (e.product acc) in
    record { tokens = []; spelled = subst P (sym (append-nil xs)) d; ends = λ rest h. h; said = λ st rest us h l. l }
factors n xs acc (more_trees a as') d (more_inner i is) =
    let f = factors (suc n) (xs ++ (operator_token operator.Product ∷ i.tokens)) (appended acc a) as' (one_more_factor acc d i.spelled) is in
    let P : List Token → Type 0 = λ z. Spelled Product ending.Closed z (e.product (appended_all (appended acc a) as')) in
    record {
      tokens = operator_token operator.Product ∷ (i.tokens ++ f.tokens);
      spelled = subst P (append_assoc xs (operator_token operator.Product ∷ i.tokens) f.tokens) f.spelled;
      ends = λ rest h. (refl, refl);
      said = λ st rest us h l.
          regroup _ _ _ _ refl (ap (λ z. operator_token operator.Product ∷ z) (sym (append_assoc i.tokens f.tokens us)))
          (product (i.said st false _ (f.tokens ++ us) (f.ends rest h) (f.said st rest us h l)));
    }

pub product_form : (a b : Tree) (as' : Trees) → Inner a → Inner b → Inners as' → Outer (e.product (more_trees a (more_trees b as')))
product_form a b as' i j is =
    let two = more_trees a (more_trees b no_trees) in
    let x = operator_token operator.Product in
    let f = factors 1 (i.tokens ++ (x ∷ j.tokens)) two as' (two_factors i.spelled j.spelled) is in
    let P : Trees → Type 0 = λ z. Spelled Product ending.Closed ((i.tokens ++ (x ∷ j.tokens)) ++ f.tokens) (e.product z) in
    record {
      outermost = Product;
      last = ending.Closed;
      tokens = (i.tokens ++ (x ∷ j.tokens)) ++ f.tokens;
      spelled = subst P (all_followed two as') f.spelled;
      closed = λ h. cc;
      begins = λ rest. i.begins _;
      said = λ st p rest us ends l.
          regroup _ _ _ _ refl (simp append_assoc)
          (i.said st p _ (x ∷ (j.tokens ++ (f.tokens ++ us))) (refl, refl) (product (j.said st false _ (f.tokens ++ us) (f.ends rest ends) (f.said st rest us ends l))));
    }

-- The canonical text of an expression is that of its pieces.
use Rattle.std.proofs.Common.{◌≡◌, true, false, [], ◌∷◌, ◌++◌, refl, ap, ◌∙◌}
use Rattle.std.specs.Prelude.{codes}
use Rattle.std.specs.Fmt.{signed_decimal}
use Rattle.std.proofs.lemmas.List.{append-nil}
use Rattle.pgo_base.specs.Tree.{Tree, name, primed, number, text, truth, at, word, unary, binary, product, cond_of, case_of, case_other, let_in, quantified, choose, tuple, set_of, filter_of, image, fun_of, fun_set, record_of, record_set, except, index, field, call, unchanged}
use Rattle.pgo_model.specs.ValueText.{string_text, truth_text}
use Rattle.pgo_model.specs.ExprText.{prefix_text, infix_text, quantifier_text, word_text, expr_text, list_text, names_text, arms_text, lets_text, fields_text, binders_text, updates_text}
use Rattle.pgo_expr_write.specs.Pieces.{written, operand, pieces_text, list_from, names_from, named_from, arms_from, binders_from, updates_from, pieces_of}
use Rattle.pgo_expr_write.proofs.Nesting.{two, three, five, six, seven, two_more, three_more}
use Rattle.pgo_expr_write.proofs.ListTexts.{around, list_is, product_is, names_is, lets_is, fields_is, arms_is, binders_is, updates_is}

pub text_is : (t : Tree) → pieces_text (pieces_of t) ≡ expr_text true t
text_is (name x) = append-nil x
text_is (primed x) = two x (codes "'")
text_is (number z) = append-nil (signed_decimal z)
text_is (text s) = append-nil (string_text s)
text_is (truth b) = append-nil (truth_text b)
text_is at = refl
text_is (word w) = append-nil (word_text w)
text_is (unary p a) = two (prefix_text p) (expr_text false a)
text_is (binary p a b) = three (expr_text false a) (infix_text p) (expr_text false b)
text_is (product xs) = product_is xs
text_is (cond_of p a b) = six (codes "IF ") (expr_text false p) (codes " THEN ") (expr_text false a) (codes " ELSE ") (expr_text false b)
text_is (case_of gs) = ap (λ l. codes "CASE " ++ l) (arms_is gs)
text_is (case_other gs e) =
    around (codes "CASE ") (arms_text gs) _ (arms_from 0 gs) (written (codes " [] OTHER -> ") ∷ operand e ∷ []) (arms_is gs) refl
    ∙ three (codes "CASE " ++ arms_text gs) (codes " [] OTHER -> ") (expr_text false e)
text_is (let_in ds e) =
    around (codes "LET ") (lets_text ds) _ (named_from (codes " == ") (codes " ") 0 ds) (written (codes " IN ") ∷ operand e ∷ []) (lets_is ds) refl
    ∙ three (codes "LET " ++ lets_text ds) (codes " IN ") (expr_text false e)
text_is (quantified q bs p) =
    around (quantifier_text q) (binders_text bs) _ (binders_from 0 bs) (written (codes " : ") ∷ operand p ∷ []) (binders_is bs) refl
    ∙ three (quantifier_text q ++ binders_text bs) (codes " : ") (expr_text false p)
text_is (choose x r p) = six (codes "CHOOSE ") x (codes " \\in ") (expr_text false r) (codes " : ") (expr_text false p)
text_is (tuple xs) = around (codes "<<") (list_text xs) (codes ">>") (list_from (codes ", ") 0 xs) (written (codes ">>") ∷ []) (list_is xs) refl
text_is (set_of xs) = around (codes "{") (list_text xs) (codes "}") (list_from (codes ", ") 0 xs) (written (codes "}") ∷ []) (list_is xs) refl
text_is (filter_of x r p) = seven (codes "{") x (codes " \\in ") (expr_text false r) (codes " : ") (expr_text false p) (codes "}")
text_is (image e x r) = seven (codes "{") (expr_text false e) (codes " : ") x (codes " \\in ") (expr_text false r) (codes "}")
text_is (fun_of bs e) =
    around (codes "[") (binders_text bs) _ (binders_from 0 bs) (written (codes " |-> ") ∷ operand e ∷ written (codes "]") ∷ []) (binders_is bs) refl
    ∙ three_more (codes "[" ++ binders_text bs) (codes " |-> ") (expr_text false e) (codes "]") (codes "]") refl
text_is (fun_set a b) = five (codes "[") (expr_text false a) (codes " -> ") (expr_text false b) (codes "]")
text_is (record_of ds) =
    around (codes "[") (fields_text (codes " |-> ") ds) (codes "]") (named_from (codes " |-> ") (codes ", ") 0 ds) (written (codes "]") ∷ [])
    (fields_is (codes " |-> ") ds) refl
text_is (record_set ds) =
    around (codes "[") (fields_text (codes " : ") ds) (codes "]") (named_from (codes " : ") (codes ", ") 0 ds) (written (codes "]") ∷ [])
    (fields_is (codes " : ") ds) refl
text_is (except f us) =
    three_more (codes "[") (expr_text false f) (codes " EXCEPT ") _ _ refl
    ∙ around (codes "[" ++ expr_text false f ++ codes " EXCEPT ") (updates_text us) (codes "]") (updates_from 0 us) (written (codes "]") ∷ [])
    (updates_is us) refl
text_is (index f xs) =
    two_more (expr_text false f) (codes "[") _ _ refl
    ∙ around (expr_text false f ++ codes "[") (list_text xs) (codes "]") (list_from (codes ", ") 0 xs) (written (codes "]") ∷ []) (list_is xs) refl
text_is (field r x) = three (expr_text false r) (codes ".") x
text_is (call x xs) =
    two_more x (codes "(") _ _ refl
    ∙ around (x ++ codes "(") (list_text xs) (codes ")") (list_from (codes ", ") 0 xs) (written (codes ")") ∷ []) (list_is xs) refl
text_is (unchanged xs) =
    around (codes "UNCHANGED <<") (names_text xs) (codes ">>") (names_from 0 xs) (written (codes ">>") ∷ []) (names_is xs) refl

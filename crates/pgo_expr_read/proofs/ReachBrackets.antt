-- What is spelled is read: what stands in brackets, and open forms.
use Rattle.std.proofs.Common.{◌≡◌, ℕ, suc, ◌+◌, ◌≤◌, max, Bool, true, false, not, ◌&&◌, List, [], ◌∷◌, ◌++◌, length, None, refl, ap, sym, ◌∙◌, subst, arith, cond}
use Rattle.std.proofs.lemmas.List.{append_assoc, length-append}
use Rattle.pgo_base.specs.declared.expr.Infix.TheVariants as op
use Rattle.pgo_base.specs.declared.expr.Quantifier.{Quantifier}
use Rattle.pgo_base.specs.Tree.{Tree, no_trees, trees, bound, named, arms, paths}
use Rattle.pgo_base.specs.Tree as e
use Rattle.pgo_lexer.specs.declared.symbol.Bracket.TheVariants as bracket
use Rattle.pgo_lexer.specs.declared.symbol.Symbol.TheVariants as y
use Rattle.pgo_lexer.specs.declared.symbol.Symbol.{Symbol}
use Rattle.pgo_lexer.specs.declared.token.Token.{Token}
use Rattle.pgo_lexer.specs.declared.token.Token.TheVariants as t
use Rattle.pgo_expr_read.specs.declared.table.Form.{Form}
use Rattle.pgo_expr_read.specs.declared.table.Form.TheVariants as form
use Rattle.pgo_expr_read.specs.declared.lookahead.Next.{Next}
use Rattle.pgo_expr_read.specs.declared.lookahead.Next.TheVariants as next
use Rattle.pgo_expr_read.specs.declared.lookahead.Square.TheVariants as square
use Rattle.pgo_expr_read.specs.declared.read.Ending.{Ending}
use Rattle.pgo_expr_read.specs.declared.read.Ending.TheVariants as ending
use Rattle.pgo_expr_read.specs.declared.read.Read.{Read}
use Rattle.pgo_expr_read.specs.Lookahead as look
use Rattle.pgo_expr_read.specs.Lookahead.{sees, sees_arm, begins_binder, form_of_square, square_of, next_of}
use Rattle.pgo_expr_read.specs.Heights.{height}
use Rattle.pgo_expr_read.specs.Kinds.{Name, is_case}
use Rattle.pgo_expr_read.specs.Kinds as kind
use Rattle.pgo_expr_read.specs.Table.{low}
use Rattle.pgo_expr_read.specs.Spells.{Spelled, Range, Behind, Items, opened}
use Rattle.pgo_expr_read.specs.Spells as s
use Rattle.pgo_expr_read.specs.Reading.{Parser, past, part, node, leaf, some_tuple, some_set, last_arm, tuple, filter, image, members, other_set, set, fun_of, record_of, record_set, fun_set, except, other_square, square_by, square_form, quantified, choose, cond_of, case_other, case_form, let_in, unchanged, primary, expr}
use Rattle.pgo_expr_read.specs.Fronts.{Ended}
use Rattle.pgo_expr_read.specs.Signs.{is_sign}
use Rattle.pgo_expr_read.proofs.Measures.{things_height, of_trees, of_bound, of_fields, of_definitions, of_arms, of_paths}
use Rattle.pgo_expr_read.proofs.Steps.{next_step}
use Rattle.pgo_expr_read.proofs.Reach.{read, Reaches, expect_gives, node_gives, eat_false, inside, last, last_case, at_first, names_give}
use Rattle.pgo_expr_read.proofs.Heads.{starts, not_angle, not_curly, not_binder, not_square}
use Rattle.pgo_expr_read.proofs.Signs.{token_of_sign}
use Rattle.pgo_expr_read.proofs.ReachLists.{ReachesRange, ReachesBehind, ReachesItems}

pub reach_no_tuple : Reaches form.Closed ending.Closed (t.Symbol (y.Open bracket.Angle) ∷ (t.Symbol (y.Close bracket.Angle) ∷ [])) (e.tuple no_trees)
unfolding primary tuple leaf past
reach_no_tuple l least rest h low q = at_first l least form.Closed ending.Closed (t.Symbol (y.Open bracket.Angle) ∷ (t.Symbol (y.Close bracket.Angle) ∷ [])) (e.tuple no_trees) rest refl low (node_gives (suc l) form.Closed ending.Closed 0 (e.tuple no_trees) rest refl (omega arith))

pub reach_no_set : Reaches form.Closed ending.Closed (t.Symbol (y.Open bracket.Curly) ∷ (t.Symbol (y.Close bracket.Curly) ∷ [])) (e.set_of no_trees)
unfolding primary set leaf past
reach_no_set l least rest h low q = at_first l least form.Closed ending.Closed (t.Symbol (y.Open bracket.Curly) ∷ (t.Symbol (y.Close bracket.Curly) ∷ [])) (e.set_of no_trees) rest refl low (node_gives (suc l) form.Closed ending.Closed 0 (e.set_of no_trees) rest refl (omega arith))

-- how items of a list begin
items_start : {u : Ending} {ts : List Token} {as' : List Tree} (rest : List Token) → Items kind.tree u ts as' → sees (y.Close bracket.Angle) (ts ++ rest) ≡ false
items_start rest (s.items {ys = ys} (s.tree {ts = ts} d) b) = ap (λ i. sees (y.Close bracket.Angle) i) (append_assoc ts ys rest) ∙ not_angle (ys ++ rest) (starts d)

pub reach_tuple : {u : Ending} {ts : List Token} {as' : List Tree} → Items kind.tree u ts as' → ReachesItems kind.tree u ts as' → Reaches form.Closed ending.Closed (t.Symbol (y.Open bracket.Angle) ∷ (ts ++ (t.Symbol (y.Close bracket.Angle) ∷ []))) (e.tuple (trees as'))
unfolding primary tuple some_tuple
reach_tuple {u} {ts} {as'} d m l least rest h low q =
    let up = of_trees as' in
    let hm : things_height kind.tree as' ≤ l = omega (arith, h, up) in
    let flat : (ts ++ (t.Symbol (y.Close bracket.Angle) ∷ [])) ++ rest ≡ (ts ++ (t.Symbol (y.Close bracket.Angle) ∷ rest)) = simp append_assoc in
    at_first l least form.Closed ending.Closed _ (e.tuple (trees as')) rest refl low
    (ap (λ i. tuple (suc l) (expr l) (t.Symbol (y.Open bracket.Angle) ∷ i)) flat
    ∙ eat_false (y.Close bracket.Angle) (leaf (suc l) (expr l) (e.tuple no_trees)) (some_tuple (suc l) (expr l)) (ts ++ (t.Symbol (y.Close bracket.Angle) ∷ rest)) (items_start (t.Symbol (y.Close bracket.Angle) ∷ rest) d)
    ∙ next_step _ _ _ _ _ (m l (t.Symbol (y.Close bracket.Angle) ∷ rest) hm refl tt)
    (next_step _ _ _ _ _ (expect_gives (y.Close bracket.Angle) rest)
    (node_gives (suc l) form.Closed ending.Closed (things_height kind.tree as') (e.tuple (trees as')) rest (omega (arith, up)) h)))

pub reach_filter : {x : Name} {f : Form} {o : Ending} {xs ys : List Token} {a p : Tree} → Range xs a → ReachesRange xs a → Reaches f o ys p → Reaches form.Closed ending.Closed (t.Symbol (y.Open bracket.Curly) ∷ (t.Name x ∷ (t.Symbol (y.Infix op.In) ∷ (xs ++ (t.Symbol y.Colon ∷ (ys ++ (t.Symbol (y.Close bracket.Curly) ∷ []))))))) (e.filter_of x a p)
unfolding primary set some_set filter past
reach_filter {x} {f} {o} {xs} {ys} {a} {p} d m r l least rest h low q =
    let ha : height a ≤ l = omega (arith, h) in
    let hp : height p ≤ l = omega (arith, h) in
    let flat : (xs ++ (t.Symbol y.Colon ∷ (ys ++ (t.Symbol (y.Close bracket.Curly) ∷ [])))) ++ rest ≡ (xs ++ (t.Symbol y.Colon ∷ (ys ++ (t.Symbol (y.Close bracket.Curly) ∷ rest)))) = simp append_assoc in
    at_first l least form.Closed ending.Closed _ (e.filter_of x a p) rest refl low
    (ap (λ i. set (suc l) (expr l) (t.Symbol (y.Open bracket.Curly) ∷ (t.Name x ∷ (t.Symbol (y.Infix op.In) ∷ i)))) flat
    ∙ next_step _ _ _ _ _ (expect_gives (y.Infix op.In) (xs ++ (t.Symbol y.Colon ∷ (ys ++ (t.Symbol (y.Close bracket.Curly) ∷ rest)))))
    (next_step _ _ _ _ _ ((m l (t.Symbol y.Colon ∷ (ys ++ (t.Symbol (y.Close bracket.Curly) ∷ rest))) ha refl).2)
    (next_step _ _ _ _ _ (expect_gives y.Colon (ys ++ (t.Symbol (y.Close bracket.Curly) ∷ rest)))
    (next_step _ _ _ _ _ (inside f o ys p r l (t.Symbol (y.Close bracket.Curly) ∷ rest) hp tt)
    (next_step _ _ _ _ _ (expect_gives (y.Close bracket.Curly) rest)
    (node_gives (suc l) form.Closed ending.Closed (max (height a) (height p)) (e.filter_of x a p) rest (omega arith) h))))))

-- what follows the first member of a set
set_ended : {o u : Ending} {ys : List Token} {bs : List Tree} (rest : List Token) → Behind kind.tree o u ys bs → look.after (ys ++ (t.Symbol (y.Close bracket.Curly) ∷ rest)) ≡ next.End
set_ended rest s.none = refl
set_ended rest (s.one_more m d b) = refl

set_colon : {o u : Ending} {ys : List Token} {bs : List Tree} (rest : List Token) → Behind kind.tree o u ys bs → sees y.Colon (ys ++ (t.Symbol (y.Close bracket.Curly) ∷ rest)) ≡ false
set_colon rest s.none = refl
set_colon rest (s.one_more m d b) = refl

set_in : {o u : Ending} {ys : List Token} {bs : List Tree} (rest : List Token) → Behind kind.tree o u ys bs → sees (y.Infix op.In) (ys ++ (t.Symbol (y.Close bracket.Curly) ∷ rest)) ≡ false
set_in rest s.none = refl
set_in rest (s.one_more m d b) = refl

-- what begins a set, and is no filter
some_set_gives : (l : ℕ) (i : List Token) → sees (y.Close bracket.Curly) i ≡ false → begins_binder i ≡ false → set (suc l) (expr l) (t.Symbol (y.Open bracket.Curly) ∷ i) ≡ other_set (suc l) (expr l) i
unfolding set some_set
some_set_gives l i a c = eat_false (y.Close bracket.Curly) (leaf (suc l) (expr l) (e.set_of no_trees)) (some_set (suc l) (expr l)) i a ∙ ap (λ b. cond b (filter (suc l) (expr l) i) (other_set (suc l) (expr l) i)) c

ended : (o : Ending) (x : Next) → x ≡ next.End → Ended o x
ended o x h = let P : Next → Type 0 = λ z. Ended o z in subst P (sym h) tt

pub reach_set : {f : Form} {o u : Ending} {xs ys : List Token} {a : Tree} {bs : List Tree} → begins_binder xs ≡ false → Spelled f o xs a → Behind kind.tree o u ys bs → Reaches f o xs a → ReachesBehind kind.tree o u ys bs
    → Reaches form.Closed ending.Closed (t.Symbol (y.Open bracket.Curly) ∷ (xs ++ (ys ++ (t.Symbol (y.Close bracket.Curly) ∷ [])))) (e.set_of (trees (a ∷ bs)))
unfolding primary other_set members
reach_set {f} {o} {u} {xs} {ys} {a} {bs} apart d b r m l least rest h low q =
    let up = of_trees bs in
    let ha : height a ≤ l = omega (arith, h) in
    let hb : things_height kind.tree bs ≤ l = omega (arith, h, up) in
    let flat : (xs ++ (ys ++ (t.Symbol (y.Close bracket.Curly) ∷ []))) ++ rest ≡ xs ++ (ys ++ (t.Symbol (y.Close bracket.Curly) ∷ rest)) = simp append_assoc in
    let high : max (max 0 (height a)) (things_height kind.tree bs) + 1 ≡ height (e.set_of (trees (a ∷ bs))) = omega (arith, up) in
    at_first l least form.Closed ending.Closed _ (e.set_of (trees (a ∷ bs))) rest refl low
    (ap (λ i. set (suc l) (expr l) (t.Symbol (y.Open bracket.Curly) ∷ i)) flat
    ∙ some_set_gives l (xs ++ (ys ++ (t.Symbol (y.Close bracket.Curly) ∷ rest))) (not_curly (ys ++ (t.Symbol (y.Close bracket.Curly) ∷ rest)) (starts d)) (not_binder (ys ++ (t.Symbol (y.Close bracket.Curly) ∷ rest)) (starts d) apart (set_in rest b))
    ∙ next_step _ _ _ _ _ (inside f o xs a r l (ys ++ (t.Symbol (y.Close bracket.Curly) ∷ rest)) ha (ended o _ (set_ended rest b)))
    (eat_false y.Colon (image (suc l) (expr l) (read f o a)) (members (suc l) (expr l) (read f o a)) (ys ++ (t.Symbol (y.Close bracket.Curly) ∷ rest)) (set_colon rest b)
    ∙ next_step _ _ _ _ _ (m l (length (ys ++ (t.Symbol (y.Close bracket.Curly) ∷ rest))) (max 0 (height a)) (a ∷ []) (t.Symbol (y.Close bracket.Curly) ∷ rest) hb (omega (arith, length-append ys (t.Symbol (y.Close bracket.Curly) ∷ rest))) refl tt)
    (next_step _ _ _ _ _ (expect_gives (y.Close bracket.Curly) rest)
    (node_gives (suc l) form.Closed ending.Closed (max (max 0 (height a)) (things_height kind.tree bs)) (e.set_of (trees (a ∷ bs))) rest high h))))

pub reach_image : {x : Name} {f : Form} {o : Ending} {xs ys : List Token} {a c : Tree} → begins_binder xs ≡ false → Spelled f o xs c → Range ys a → Reaches f o xs c → ReachesRange ys a
    → Reaches form.Closed ending.Closed (t.Symbol (y.Open bracket.Curly) ∷ (xs ++ (t.Symbol y.Colon ∷ (t.Name x ∷ (t.Symbol (y.Infix op.In) ∷ (ys ++ (t.Symbol (y.Close bracket.Curly) ∷ []))))))) (e.image c x a)
unfolding primary other_set image past
reach_image {x} {f} {o} {xs} {ys} {a} {c} apart d z r m l least rest h low q =
    let ha : height a ≤ l = omega (arith, h) in
    let hc : height c ≤ l = omega (arith, h) in
    let flat : (xs ++ (t.Symbol y.Colon ∷ (t.Name x ∷ (t.Symbol (y.Infix op.In) ∷ (ys ++ (t.Symbol (y.Close bracket.Curly) ∷ [])))))) ++ rest ≡ xs ++ (t.Symbol y.Colon ∷ (t.Name x ∷ (t.Symbol (y.Infix op.In) ∷ (ys ++ (t.Symbol (y.Close bracket.Curly) ∷ rest))))) = simp append_assoc in
    let j = t.Symbol y.Colon ∷ (t.Name x ∷ (t.Symbol (y.Infix op.In) ∷ (ys ++ (t.Symbol (y.Close bracket.Curly) ∷ rest)))) in
    at_first l least form.Closed ending.Closed _ (e.image c x a) rest refl low
    (ap (λ i. set (suc l) (expr l) (t.Symbol (y.Open bracket.Curly) ∷ i)) flat
    ∙ some_set_gives l (xs ++ (t.Symbol y.Colon ∷ (t.Name x ∷ (t.Symbol (y.Infix op.In) ∷ (ys ++ (t.Symbol (y.Close bracket.Curly) ∷ rest)))))) (not_curly (t.Symbol y.Colon ∷ (t.Name x ∷ (t.Symbol (y.Infix op.In) ∷ (ys ++ (t.Symbol (y.Close bracket.Curly) ∷ rest))))) (starts d)) (not_binder (t.Symbol y.Colon ∷ (t.Name x ∷ (t.Symbol (y.Infix op.In) ∷ (ys ++ (t.Symbol (y.Close bracket.Curly) ∷ rest))))) (starts d) apart refl)
    ∙ next_step _ _ _ _ _ (inside f o xs c r l (t.Symbol y.Colon ∷ (t.Name x ∷ (t.Symbol (y.Infix op.In) ∷ (ys ++ (t.Symbol (y.Close bracket.Curly) ∷ rest))))) hc tt)
    (next_step _ _ _ _ _ (expect_gives (y.Infix op.In) (ys ++ (t.Symbol (y.Close bracket.Curly) ∷ rest)))
    (next_step _ _ _ _ _ ((m l (t.Symbol (y.Close bracket.Curly) ∷ rest) ha refl).2)
    (next_step _ _ _ _ _ (expect_gives (y.Close bracket.Curly) rest)
    (node_gives (suc l) form.Closed ending.Closed (max (height c) (height a)) (e.image c x a) rest (omega arith) h)))))

-- ---- what stands in `[ ]`

binders_form : {u : Ending} {xs : List Token} {bs : List (List Name × Tree)} (rest : List Token) → Items kind.binder u xs bs → form_of_square (xs ++ rest) ≡ square.Function
binders_form rest (s.items (s.binder {xs = []} r) b) = refl
binders_form rest (s.items (s.binder {xs = x ∷ xs} r) b) = refl

fields_form : (v : Symbol) {u : Ending} {xs : List Token} {ds : List (Name × Tree)} (rest : List Token) → Items (kind.field v) u xs ds → form_of_square (xs ++ rest) ≡ square_of (t.Symbol v)
fields_form v rest (s.items (s.field d) b) = refl

pub reach_fun_of : {f : Form} {o u : Ending} {xs ys : List Token} {bs : List (List Name × Tree)} {a : Tree} → Items kind.binder u xs bs → ReachesItems kind.binder u xs bs → Reaches f o ys a → Reaches form.Closed ending.Closed (t.Symbol (y.Open bracket.Square) ∷ (xs ++ (t.Symbol y.MapsTo ∷ (ys ++ (t.Symbol (y.Close bracket.Square) ∷ []))))) (e.fun_of (bound bs) a)
unfolding primary square_form fun_of
reach_fun_of {f} {o} {u} {xs} {ys} {bs} {a} d m r l least rest h low q =
    let up = of_bound bs in
    let hm : things_height kind.binder bs ≤ l = omega (arith, h, up) in
    let ha : height a ≤ l = omega (arith, h) in
    let flat : (xs ++ (t.Symbol y.MapsTo ∷ (ys ++ (t.Symbol (y.Close bracket.Square) ∷ [])))) ++ rest ≡ (xs ++ (t.Symbol y.MapsTo ∷ (ys ++ (t.Symbol (y.Close bracket.Square) ∷ rest)))) = simp append_assoc in
    at_first l least form.Closed ending.Closed _ (e.fun_of (bound bs) a) rest refl low
    (ap (λ i. square_form (suc l) (expr l) (t.Symbol (y.Open bracket.Square) ∷ i)) flat
    ∙ ap (λ z. square_by (suc l) (expr l) z (xs ++ (t.Symbol y.MapsTo ∷ (ys ++ (t.Symbol (y.Close bracket.Square) ∷ rest))))) (binders_form (t.Symbol y.MapsTo ∷ (ys ++ (t.Symbol (y.Close bracket.Square) ∷ rest))) d)
    ∙ next_step _ _ _ _ _ (m l (t.Symbol y.MapsTo ∷ (ys ++ (t.Symbol (y.Close bracket.Square) ∷ rest))) hm refl refl)
    (next_step _ _ _ _ _ (expect_gives y.MapsTo (ys ++ (t.Symbol (y.Close bracket.Square) ∷ rest)))
    (next_step _ _ _ _ _ (inside f o ys a r l (t.Symbol (y.Close bracket.Square) ∷ rest) ha tt)
    (next_step _ _ _ _ _ (expect_gives (y.Close bracket.Square) rest)
    (node_gives (suc l) form.Closed ending.Closed (max (things_height kind.binder bs) (height a)) (e.fun_of (bound bs) a) rest (omega (arith, up)) h)))))

pub reach_record_of : {u : Ending} {xs : List Token} {ds : List (Name × Tree)} → Items (kind.field y.MapsTo) u xs ds → ReachesItems (kind.field y.MapsTo) u xs ds → Reaches form.Closed ending.Closed (t.Symbol (y.Open bracket.Square) ∷ (xs ++ (t.Symbol (y.Close bracket.Square) ∷ []))) (e.record_of (named ds))
unfolding primary square_form record_of
reach_record_of {u} {xs} {ds} d m l least rest h low q =
    let up = of_fields y.MapsTo ds in
    let hm : things_height (kind.field y.MapsTo) ds ≤ l = omega (arith, h, up) in
    let flat : (xs ++ (t.Symbol (y.Close bracket.Square) ∷ [])) ++ rest ≡ (xs ++ (t.Symbol (y.Close bracket.Square) ∷ rest)) = simp append_assoc in
    at_first l least form.Closed ending.Closed _ (e.record_of (named ds)) rest refl low
    (ap (λ i. square_form (suc l) (expr l) (t.Symbol (y.Open bracket.Square) ∷ i)) flat
    ∙ ap (λ z. square_by (suc l) (expr l) z (xs ++ (t.Symbol (y.Close bracket.Square) ∷ rest))) (fields_form y.MapsTo (t.Symbol (y.Close bracket.Square) ∷ rest) d)
    ∙ next_step _ _ _ _ _ (m l (t.Symbol (y.Close bracket.Square) ∷ rest) hm refl tt)
    (next_step _ _ _ _ _ (expect_gives (y.Close bracket.Square) rest)
    (node_gives (suc l) form.Closed ending.Closed (things_height (kind.field y.MapsTo) ds) (e.record_of (named ds)) rest (omega (arith, up)) h)))

pub reach_record_set : {u : Ending} {xs : List Token} {ds : List (Name × Tree)} → Items (kind.field y.Colon) u xs ds → ReachesItems (kind.field y.Colon) u xs ds → Reaches form.Closed ending.Closed (t.Symbol (y.Open bracket.Square) ∷ (xs ++ (t.Symbol (y.Close bracket.Square) ∷ []))) (e.record_set (named ds))
unfolding primary square_form record_set
reach_record_set {u} {xs} {ds} d m l least rest h low q =
    let up = of_fields y.Colon ds in
    let hm : things_height (kind.field y.Colon) ds ≤ l = omega (arith, h, up) in
    let flat : (xs ++ (t.Symbol (y.Close bracket.Square) ∷ [])) ++ rest ≡ (xs ++ (t.Symbol (y.Close bracket.Square) ∷ rest)) = simp append_assoc in
    at_first l least form.Closed ending.Closed _ (e.record_set (named ds)) rest refl low
    (ap (λ i. square_form (suc l) (expr l) (t.Symbol (y.Open bracket.Square) ∷ i)) flat
    ∙ ap (λ z. square_by (suc l) (expr l) z (xs ++ (t.Symbol (y.Close bracket.Square) ∷ rest))) (fields_form y.Colon (t.Symbol (y.Close bracket.Square) ∷ rest) d)
    ∙ next_step _ _ _ _ _ (m l (t.Symbol (y.Close bracket.Square) ∷ rest) hm refl tt)
    (next_step _ _ _ _ _ (expect_gives (y.Close bracket.Square) rest)
    (node_gives (suc l) form.Closed ending.Closed (things_height (kind.field y.Colon) ds) (e.record_set (named ds)) rest (omega (arith, up)) h)))

pub reach_fun_set : {f g : Form} {o u : Ending} {xs ys : List Token} {a c : Tree} → begins_binder xs ≡ false → Spelled f o xs a → Reaches f o xs a → Reaches g u ys c
    → Reaches form.Closed ending.Closed (t.Symbol (y.Open bracket.Square) ∷ (xs ++ (t.Symbol y.Arrow ∷ (ys ++ (t.Symbol (y.Close bracket.Square) ∷ []))))) (e.fun_set a c)
unfolding primary square_form other_square fun_set past
reach_fun_set {f} {g} {o} {u} {xs} {ys} {a} {c} apart d r r' l least rest h low q =
    let ha : height a ≤ l = omega (arith, h) in
    let hc : height c ≤ l = omega (arith, h) in
    let flat : (xs ++ (t.Symbol y.Arrow ∷ (ys ++ (t.Symbol (y.Close bracket.Square) ∷ [])))) ++ rest ≡ xs ++ (t.Symbol y.Arrow ∷ (ys ++ (t.Symbol (y.Close bracket.Square) ∷ rest))) = simp append_assoc in
    at_first l least form.Closed ending.Closed _ (e.fun_set a c) rest refl low
    (ap (λ i. square_form (suc l) (expr l) (t.Symbol (y.Open bracket.Square) ∷ i)) flat
    ∙ ap (λ z. square_by (suc l) (expr l) z (xs ++ (t.Symbol y.Arrow ∷ (ys ++ (t.Symbol (y.Close bracket.Square) ∷ rest))))) (not_square (t.Symbol y.Arrow ∷ (ys ++ (t.Symbol (y.Close bracket.Square) ∷ rest))) (starts d) apart refl)
    ∙ next_step _ _ _ _ _ (inside f o xs a r l (t.Symbol y.Arrow ∷ (ys ++ (t.Symbol (y.Close bracket.Square) ∷ rest))) ha tt)
    (next_step _ _ _ _ _ (expect_gives y.Arrow (ys ++ (t.Symbol (y.Close bracket.Square) ∷ rest)))
    (next_step _ _ _ _ _ (inside g u ys c r' l (t.Symbol (y.Close bracket.Square) ∷ rest) hc tt)
    (next_step _ _ _ _ _ (expect_gives (y.Close bracket.Square) rest)
    (node_gives (suc l) form.Closed ending.Closed (max (height a) (height c)) (e.fun_set a c) rest (omega arith) h)))))

pub reach_except : {f : Form} {o u : Ending} {xs ys : List Token} {a : Tree} {us : List (List Tree × Tree)} → begins_binder xs ≡ false → Spelled f o xs a → Items kind.update u ys us → Reaches f o xs a → ReachesItems kind.update u ys us
    → Reaches form.Closed ending.Closed (t.Symbol (y.Open bracket.Square) ∷ (xs ++ (t.Symbol y.Except ∷ (ys ++ (t.Symbol (y.Close bracket.Square) ∷ []))))) (e.except a (paths us))
unfolding primary square_form other_square except past
reach_except {f} {o} {u} {xs} {ys} {a} {us} apart d z r m l least rest h low q =
    let up = of_paths us in
    let ha : height a ≤ l = omega (arith, h) in
    let hm : things_height kind.update us ≤ l = omega (arith, h, up) in
    let flat : (xs ++ (t.Symbol y.Except ∷ (ys ++ (t.Symbol (y.Close bracket.Square) ∷ [])))) ++ rest ≡ xs ++ (t.Symbol y.Except ∷ (ys ++ (t.Symbol (y.Close bracket.Square) ∷ rest))) = simp append_assoc in
    at_first l least form.Closed ending.Closed _ (e.except a (paths us)) rest refl low
    (ap (λ i. square_form (suc l) (expr l) (t.Symbol (y.Open bracket.Square) ∷ i)) flat
    ∙ ap (λ z. square_by (suc l) (expr l) z (xs ++ (t.Symbol y.Except ∷ (ys ++ (t.Symbol (y.Close bracket.Square) ∷ rest))))) (not_square (t.Symbol y.Except ∷ (ys ++ (t.Symbol (y.Close bracket.Square) ∷ rest))) (starts d) apart refl)
    ∙ next_step _ _ _ _ _ (inside f o xs a r l (t.Symbol y.Except ∷ (ys ++ (t.Symbol (y.Close bracket.Square) ∷ rest))) ha tt)
    (next_step _ _ _ _ _ (m l (t.Symbol (y.Close bracket.Square) ∷ rest) hm refl tt)
    (next_step _ _ _ _ _ (expect_gives (y.Close bracket.Square) rest)
    (node_gives (suc l) form.Closed ending.Closed (max (height a) (things_height kind.update us)) (e.except a (paths us)) rest (omega (arith, up)) h))))

pub reach_unchanged : {x : Name} {xs : List Name} → Reaches form.Closed ending.Closed (t.Symbol y.Unchanged ∷ (t.Symbol (y.Open bracket.Angle) ∷ (s.names x xs ++ (t.Symbol (y.Close bracket.Angle) ∷ [])))) (e.unchanged (x ∷ xs))
unfolding primary unchanged leaf
reach_unchanged {x} {xs} l least rest h low q =
    let flat : (s.names x xs ++ (t.Symbol (y.Close bracket.Angle) ∷ [])) ++ rest ≡ s.names x xs ++ (t.Symbol (y.Close bracket.Angle) ∷ rest) = append_assoc (s.names x xs) (t.Symbol (y.Close bracket.Angle) ∷ []) rest in
    at_first l least form.Closed ending.Closed _ (e.unchanged (x ∷ xs)) rest refl low
    (ap (λ i. unchanged (suc l) (expr l) (t.Symbol y.Unchanged ∷ (t.Symbol (y.Open bracket.Angle) ∷ i))) flat
    ∙ next_step _ _ _ _ _ (expect_gives (y.Open bracket.Angle) (s.names x xs ++ (t.Symbol (y.Close bracket.Angle) ∷ rest)))
    (next_step _ _ _ _ _ (names_give x xs (t.Symbol (y.Close bracket.Angle) ∷ rest) refl)
    (next_step _ _ _ _ _ (expect_gives (y.Close bracket.Angle) rest)
    (node_gives (suc l) form.Closed ending.Closed 0 (e.unchanged (x ∷ xs)) rest refl (omega arith)))))

-- ---- open forms

pub reach_quantified : {v : Quantifier} {f : Form} {o u : Ending} {xs ys : List Token} {bs : List (List Name × Tree)} {p : Tree} → Items kind.binder u xs bs → ReachesItems kind.binder u xs bs → Reaches f o ys p → Reaches form.Closed (opened o) (t.Symbol (y.Quantifier v) ∷ (xs ++ (t.Symbol y.Colon ∷ ys))) (e.quantified v (bound bs) p)
unfolding primary quantified
reach_quantified {v} {f} {o} {u} {xs} {ys} {bs} {p} d m r l least rest h low q =
    let up = of_bound bs in
    let hm : things_height kind.binder bs ≤ l = omega (arith, h, up) in
    let hp : height p ≤ l = omega (arith, h) in
    let ends = last f o (look.after rest) q in
    let flat : (xs ++ (t.Symbol y.Colon ∷ ys)) ++ rest ≡ (xs ++ (t.Symbol y.Colon ∷ (ys ++ rest))) = simp append_assoc in
    at_first l least form.Closed (opened o) _ (e.quantified v (bound bs) p) rest refl low
    (ap (λ i. quantified (suc l) (expr l) v (t.Symbol (y.Quantifier v) ∷ i)) flat
    ∙ next_step _ _ _ _ _ (m l (t.Symbol y.Colon ∷ (ys ++ rest)) hm refl refl)
    (next_step _ _ _ _ _ (expect_gives y.Colon (ys ++ rest))
    (next_step _ _ _ _ _ (inside f o ys p r l rest hp ends)
    (node_gives (suc l) form.Closed (opened o) (max (things_height kind.binder bs) (height p)) (e.quantified v (bound bs) p) rest (omega (arith, up)) h))))

pub reach_choose : {x : Name} {f : Form} {o : Ending} {xs ys : List Token} {a p : Tree} → Range xs a → ReachesRange xs a → Reaches f o ys p → Reaches form.Closed (opened o) (t.Symbol y.Choose ∷ (t.Name x ∷ (t.Symbol (y.Infix op.In) ∷ (xs ++ (t.Symbol y.Colon ∷ ys))))) (e.choose x a p)
unfolding primary choose
reach_choose {x} {f} {o} {xs} {ys} {a} {p} d m r l least rest h low q =
    let ha : height a ≤ l = omega (arith, h) in
    let hp : height p ≤ l = omega (arith, h) in
    let ends = last f o (look.after rest) q in
    let flat : (t.Symbol (y.Infix op.In) ∷ (xs ++ (t.Symbol y.Colon ∷ ys))) ++ rest ≡ (t.Symbol (y.Infix op.In) ∷ (xs ++ (t.Symbol y.Colon ∷ (ys ++ rest)))) = simp append_assoc in
    at_first l least form.Closed (opened o) _ (e.choose x a p) rest refl low
    (ap (λ i. choose (suc l) (expr l) (t.Symbol y.Choose ∷ (t.Name x ∷ i))) flat
    ∙ next_step _ _ _ _ _ (expect_gives (y.Infix op.In) (xs ++ (t.Symbol y.Colon ∷ (ys ++ rest))))
    (next_step _ _ _ _ _ ((m l (t.Symbol y.Colon ∷ (ys ++ rest)) ha refl).2)
    (next_step _ _ _ _ _ (expect_gives y.Colon (ys ++ rest))
    (next_step _ _ _ _ _ (inside f o ys p r l rest hp ends)
    (node_gives (suc l) form.Closed (opened o) (max (height a) (height p)) (e.choose x a p) rest (omega arith) h)))))

pub reach_cond_of : {f g k : Form} {o u v : Ending} {xs ys zs : List Token} {a c d : Tree} → Reaches f o xs a → Reaches g u ys c → Reaches k v zs d → Reaches form.Closed (opened v) (t.Symbol y.If ∷ (xs ++ (t.Symbol y.Then ∷ (ys ++ (t.Symbol y.Else ∷ zs))))) (e.cond_of a c d)
unfolding primary cond_of
reach_cond_of {f} {g} {k} {o} {u} {v} {xs} {ys} {zs} {a} {c} {d} r r' r'' l least rest h low q =
    let ha : height a ≤ l = omega (arith, h) in
    let hc : height c ≤ l = omega (arith, h) in
    let hd : height d ≤ l = omega (arith, h) in
    let ends = last k v (look.after rest) q in
    let flat : (xs ++ (t.Symbol y.Then ∷ (ys ++ (t.Symbol y.Else ∷ zs)))) ++ rest ≡ (xs ++ (t.Symbol y.Then ∷ (ys ++ (t.Symbol y.Else ∷ (zs ++ rest))))) = simp append_assoc in
    at_first l least form.Closed (opened v) _ (e.cond_of a c d) rest refl low
    (ap (λ i. cond_of (suc l) (expr l) (t.Symbol y.If ∷ i)) flat
    ∙ next_step _ _ _ _ _ (inside f o xs a r l (t.Symbol y.Then ∷ (ys ++ (t.Symbol y.Else ∷ (zs ++ rest)))) ha tt)
    (next_step _ _ _ _ _ (expect_gives y.Then (ys ++ (t.Symbol y.Else ∷ (zs ++ rest))))
    (next_step _ _ _ _ _ (inside g u ys c r' l (t.Symbol y.Else ∷ (zs ++ rest)) hc tt)
    (next_step _ _ _ _ _ (expect_gives y.Else (zs ++ rest))
    (next_step _ _ _ _ _ (inside k v zs d r'' l rest hd ends)
    (node_gives (suc l) form.Closed (opened v) (max (height a) (max (height c) (height d))) (e.cond_of a c d) rest (omega arith) h))))))

pub reach_let_in : {f : Form} {o u : Ending} {xs ys : List Token} {ds : List (Name × Tree)} {a : Tree} → Items kind.definition u xs ds → ReachesItems kind.definition u xs ds → Reaches f o ys a → Reaches form.Closed (opened o) (t.Symbol y.Let ∷ (xs ++ (t.Symbol y.LetIn ∷ ys))) (e.let_in (named ds) a)
unfolding primary let_in
reach_let_in {f} {o} {u} {xs} {ys} {ds} {a} d m r l least rest h low q =
    let up = of_definitions ds in
    let hm : things_height kind.definition ds ≤ l = omega (arith, h, up) in
    let ha : height a ≤ l = omega (arith, h) in
    let ends = last f o (look.after rest) q in
    let flat : (xs ++ (t.Symbol y.LetIn ∷ ys)) ++ rest ≡ (xs ++ (t.Symbol y.LetIn ∷ (ys ++ rest))) = simp append_assoc in
    at_first l least form.Closed (opened o) _ (e.let_in (named ds) a) rest refl low
    (ap (λ i. let_in (suc l) (expr l) (t.Symbol y.Let ∷ i)) flat
    ∙ next_step _ _ _ _ _ (m l (t.Symbol y.LetIn ∷ (ys ++ rest)) hm refl tt)
    (next_step _ _ _ _ _ (expect_gives y.LetIn (ys ++ rest))
    (next_step _ _ _ _ _ (inside f o ys a r l rest ha ends)
    (node_gives (suc l) form.Closed (opened o) (max (things_height kind.definition ds) (height a)) (e.let_in (named ds) a) rest (omega (arith, up)) h))))

not_arm_by : (c : Bool) (k : Token) → is_sign y.Box k ≡ c → next_of k ≡ next.End → is_sign y.Box k ≡ false
not_arm_by false k h n = h
not_arm_by true k h n =
    let P : Token → Type 0 = λ z. next_of z ≡ next.End in
    let q = subst P (token_of_sign y.Box k h) n in
    cc

-- no arm is next at the end
not_arm : (rest : List Token) → look.after rest ≡ next.End → (sees y.Box rest ≡ false) × (sees_arm rest ≡ false)
not_arm [] h = (refl, refl)
not_arm (k ∷ rest) h = let z = not_arm_by (is_sign y.Box k) k refl h in (z, ap (λ b. b && not (sees y.Other rest)) z)

pub reach_case_of : {u : Ending} {xs : List Token} {gs : List (Tree × Tree)} → Items kind.arm u xs gs → ReachesItems kind.arm u xs gs → Reaches form.Closed ending.Case (t.Symbol y.Case ∷ xs) (e.case_of (arms gs))
unfolding primary case_form
reach_case_of {u} {xs} {gs} d m l least rest h low q =
    let up = of_arms gs in
    let hm : things_height kind.arm gs ≤ l = omega (arith, h, up) in
    let end = last_case u (look.after rest) q in
    let n = not_arm rest end in
    let P : Next → Type 0 = λ z. Ended u z in
    at_first l least form.Closed ending.Case (t.Symbol y.Case ∷ xs) (e.case_of (arms gs)) rest refl low
    (next_step _ _ _ _ _ (m l rest hm n.1 (subst P (sym end) tt))
    (eat_false y.Box (case_other (suc l) (expr l) (part u (things_height kind.arm gs) gs)) (node (suc l) (expr l) ending.Case (things_height kind.arm gs) (e.case_of (arms gs))) rest n.0
    ∙ node_gives (suc l) form.Closed ending.Case (things_height kind.arm gs) (e.case_of (arms gs)) rest (omega (arith, up)) h))

pub reach_case_other : {f : Form} {o u : Ending} {xs ys : List Token} {gs : List (Tree × Tree)} {a : Tree} → is_case u ≡ false → Items kind.arm u xs gs → ReachesItems kind.arm u xs gs → Reaches f o ys a
    → Reaches form.Closed ending.Case (t.Symbol y.Case ∷ (xs ++ (t.Symbol y.Box ∷ (t.Symbol y.Other ∷ (t.Symbol y.Arrow ∷ ys))))) (e.case_other (arms gs) a)
unfolding primary case_form case_other last_arm past
reach_case_other {f} {o} {u} {xs} {ys} {gs} {a} ends d m r l least rest h low q =
    let up = of_arms gs in
    let hm : things_height kind.arm gs ≤ l = omega (arith, h, up) in
    let ha : height a ≤ l = omega (arith, h) in
    let end = last_case u (look.after rest) q in
    let P : Next → Type 0 = λ z. Ended o z in
    let j = t.Symbol y.Other ∷ (t.Symbol y.Arrow ∷ (ys ++ rest)) in
    at_first l least form.Closed ending.Case _ (e.case_other (arms gs) a) rest refl low
    (ap (λ i. case_form (suc l) (expr l) (t.Symbol y.Case ∷ i)) (append_assoc xs (t.Symbol y.Box ∷ (t.Symbol y.Other ∷ (t.Symbol y.Arrow ∷ ys))) rest)
    ∙ next_step _ _ _ _ _ (m l (t.Symbol y.Box ∷ (t.Symbol y.Other ∷ (t.Symbol y.Arrow ∷ (ys ++ rest)))) hm refl ends)
    (ap (λ b. (cond {A = Parser (Read Tree)} b (λ i. None) (last_arm (suc l) (expr l) (part u (things_height kind.arm gs) gs))) (t.Symbol y.Other ∷ (t.Symbol y.Arrow ∷ (ys ++ rest)))) ends
    ∙ next_step _ _ _ _ _ (expect_gives y.Other (t.Symbol y.Arrow ∷ (ys ++ rest)))
    (next_step _ _ _ _ _ (expect_gives y.Arrow (ys ++ rest))
    (next_step _ _ _ _ _ (inside f o ys a r l rest ha (subst P (sym end) tt))
    (node_gives (suc l) form.Closed ending.Case (max (things_height kind.arm gs) (height a)) (e.case_other (arms gs) a) rest (omega (arith, up)) h)))))

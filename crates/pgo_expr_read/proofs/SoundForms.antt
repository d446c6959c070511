-- What the reader reads is spelled so.
use Rattle.std.proofs.Common.{◌≡◌, ℕ, ◌+◌, max, Bool, true, false, ◌&&◌, List, [], ◌∷◌, ◌++◌, length, Option, Some, None, refl, ap, sym, ◌∙◌, subst, arith, cond}
use Rattle.std.proofs.lemmas.List.{append_assoc}
use Rattle.pgo_base.specs.declared.expr.Infix.TheVariants as op
use Rattle.pgo_base.specs.declared.expr.Prefix.{Prefix}
use Rattle.pgo_base.specs.declared.expr.Prefix.TheVariants as pre
use Rattle.pgo_base.specs.declared.expr.Quantifier.{Quantifier}
use Rattle.pgo_base.specs.declared.expr.Word.{Word}
use Rattle.pgo_base.specs.declared.expr.Word.TheVariants as w
use Rattle.pgo_base.specs.Tree.{Tree, no_trees, trees, arms}
use Rattle.pgo_base.specs.Tree as e
use Rattle.pgo_lexer.specs.declared.symbol.Bracket.TheVariants as bracket
use Rattle.pgo_lexer.specs.declared.symbol.Symbol.TheVariants as y
use Rattle.pgo_lexer.specs.declared.symbol.Symbol.{Symbol}
use Rattle.pgo_lexer.specs.declared.token.Token.{Token}
use Rattle.pgo_lexer.specs.declared.token.Token.TheVariants as t
use Rattle.pgo_expr_read.specs.declared.table.Form.{Form}
use Rattle.pgo_expr_read.specs.declared.table.Form.TheVariants as form
use Rattle.pgo_expr_read.specs.declared.lookahead.Square.{Square}
use Rattle.pgo_expr_read.specs.declared.lookahead.Square.TheVariants as square
use Rattle.pgo_expr_read.specs.declared.read.Ending.{Ending}
use Rattle.pgo_expr_read.specs.declared.read.Ending.TheVariants as ending
use Rattle.pgo_expr_read.specs.declared.read.Read.{Read}
use Rattle.pgo_expr_read.specs.Lookahead.{sees, begins_binder, form_of_square, square_of, is_name, endless_of}
use Rattle.pgo_expr_read.specs.Heights.{height}
use Rattle.pgo_expr_read.specs.Kinds.{Kind, ItemOf, Name, variable_name, value_name, is_case}
use Rattle.pgo_expr_read.specs.Kinds as kind
use Rattle.pgo_expr_read.specs.Table.{prefix_least}
use Rattle.pgo_expr_read.specs.Spells.{Spelled, Item, Behind, prefix_token, opened}
use Rattle.pgo_expr_read.specs.Spells as s
use Rattle.pgo_expr_read.specs.Reading.{Parser, past, expect, name, text, one_of, folded, one_more, listed, names, node, leaf, field_step, one_step, tuple_step, index_step, some_tuple, plain_name, some_set, last_arm, range_by, range, binder, field, arm, step, update, item, items, prefixed, call, named_form, tuple, filter, image, members, other_set, set, fun_of, record_of, record_set, fun_set, except, other_square, square_by, square_form, quantified, choose, cond_of, case_other, case_form, let_in, unchanged, leaf_at, text_form, primary}
use Rattle.pgo_expr_read.specs.Signs.{is_sign}
use Rattle.pgo_expr_read.proofs.Measures.{things_height, of_trees, of_steps, of_bound, of_fields, of_definitions, of_arms, of_paths}
use Rattle.pgo_expr_read.proofs.Steps.{bind_then, some_pair}
use Rattle.pgo_expr_read.proofs.Parts.{give_some, raised_some, expect_some, name_some, text_some, past_seen, past_unseen}
use Rattle.pgo_expr_read.proofs.Good.{Good, GoodRange, GoodItem, GoodItems, Sound, good_raised, sound_names, sound_behind, sound_listed}
use Rattle.pgo_expr_read.proofs.Signs.{token_of_sign}

-- the next token is this sign or not
eat_by : {B : Type 0} (b : Bool) (v : Symbol) (p q : Parser B) (i : List Token) (y : B × List Token) (C : Type 0) → sees v i ≡ b → (cond {A = Parser B} b p q) (past v i) ≡ Some y → ((j : List Token) → i ≡ t.Symbol v ∷ j → p j ≡ Some y → C) → (q i ≡ Some y → C) → C
eat_by true v p q i y C e got k l = k (past v i) (past_seen v i e) got
eat_by false v p q i y C e got k l = let P : List Token → Type 0 = λ z. q z ≡ Some y in l (subst P (past_unseen v i e) got)

eat_then : {B : Type 0} (v : Symbol) (p q : Parser B) (i : List Token) (y : B × List Token) (C : Type 0) → (cond {A = Parser B} (sees v i) p q) (past v i) ≡ Some y → ((j : List Token) → i ≡ t.Symbol v ∷ j → p j ≡ Some y → C) → (q i ≡ Some y → C) → C
eat_then v p q i y C got k l = eat_by (sees v i) v p q i y C refl got k l

second_by : (c : Bool) (k : Token) → is_sign (y.Infix op.In) k ≡ c → square_of k ≡ square.Other → is_sign (y.Infix op.In) k ≡ false
second_by false k h other = h
second_by true k h other =
    let P : Token → Type 0 = λ z. square_of z ≡ square.Other in
    let q = subst P (token_of_sign (y.Infix op.In) k h) other in
    cc

and_false : (b : Bool) → (b && false) ≡ false
and_false true = refl
and_false false = refl

module _ (limit below : ℕ) (ex : ℕ → Parser (Read Tree)) (S : Sound below ex) where
  sound_leaf : (a : Tree) (front i j : List Token) (r : Read Tree) (rest : List Token) → leaf limit ex a j ≡ Some (r, rest) → i ≡ front ++ j → Spelled form.Closed ending.Closed front a → 1 ≡ height a → Good limit i r rest
  unfolding leaf
  sound_leaf a front i j r rest got split spelled one = good_raised limit form.Closed ending.Closed 0 a r front i j rest got split spelled one

  -- ---- sets that names are bound over

  range_of : (o : Option Word) (k : Token) (i : List Token) (r : Read Tree) (rest : List Token) → endless_of k ≡ o → range_by limit ex 0 o (k ∷ i) ≡ Some (r, rest) → GoodRange (k ∷ i) r rest
  unfolding leaf
  range_of (Some v) k i r rest is got =
      let g = give_some _ _ _ _ got in
      let q = raised_some limit form.Closed ending.Closed 0 (e.word v) r g.0 in
      let P : Read Tree → Type 0 = λ x. GoodRange (k ∷ i) x rest in
      subst P (sym q.1) (record { front = k ∷ []; split = ap (λ z. k ∷ z) g.1; range = s.endless is; height = refl })
  range_of None k i r rest is got =
      let g = (S 0 (k ∷ i) r rest got).0 in
      record { front = g.front; split = g.split; range = s.any g.spelled; height = g.height }

  sound_range : (i : List Token) (r : Read Tree) (rest : List Token) → range limit ex 0 i ≡ Some (r, rest) → GoodRange i r rest
  unfolding range
  sound_range [] r rest got =
      let g = (S 0 [] r rest got).0 in
      record { front = g.front; split = g.split; range = s.any g.spelled; height = g.height }
  sound_range (k ∷ i) r rest got = range_of (endless_of k) k i r rest refl got

  -- ---- items

  sound_tree : (i : List Token) (r : Read Tree) (rest : List Token) → ex 0 i ≡ Some (r, rest) → GoodItem kind.tree i r rest
  sound_tree i r rest got = let g = (S 0 i r rest got).0 in record { front = g.front; split = g.split; item = s.tree g.spelled; height = g.height }

  sound_one : (i : List Token) (r : Read Tree) (rest : List Token) → ex 0 i ≡ Some (r, rest) → GoodItem kind.item i r rest
  sound_one i r rest got = let g = (S 0 i r rest got).0 in record { front = g.front; split = g.split; item = s.item g.spelled; height = g.height }

  sound_binder : (i1 : List Token) (r : Read (List Name × Tree)) (rest : List Token) → binder limit ex i1 ≡ Some (r, rest) → GoodItem kind.binder i1 r rest
  unfolding binder
  sound_binder i1 r rest got =
      bind_then (names i1) _ _ _ got (λ xs i2 h1 got.
      let gxs = sound_names i1 xs i2 h1 in
      bind_then (expect (y.Infix op.In) i2) _ _ _ got (λ u2 i3 h2 got.
      bind_then (range limit ex 0 i3) _ _ _ got (λ a i4 h3 got.
      let ga = sound_range i3 a i4 h3 in
      let q = some_pair _ _ _ _ got in
      let P : Read (List Name × Tree) → Type 0 = λ x. GoodItem kind.binder i1 x rest in
      subst P q.0 (record { front = ((s.names gxs.first gxs.others) ++ (t.Symbol (y.Infix op.In) ∷ ga.front)); split = (gxs.split ∙ ap (λ z. (s.names gxs.first gxs.others) ++ z) ((expect_some (y.Infix op.In) i2 _ i3 h2) ∙ ap (λ z. t.Symbol (y.Infix op.In) ∷ z) (ga.split ∙ ap (λ z. ga.front ++ z) q.1))) ∙ simp append_assoc; item = (let Q : List Name → Type 0 = λ z. Item kind.binder ending.Closed (s.names gxs.first gxs.others ++ (t.Symbol (y.Infix op.In) ∷ ga.front)) (z, a.tree) in subst Q (sym gxs.is) (s.binder {x = gxs.first} {xs = gxs.others} ga.range)); height = ga.height }))))

  sound_field : (v : Symbol) (i1 : List Token) (r : Read (Name × Tree)) (rest : List Token) → field limit ex v i1 ≡ Some (r, rest) → GoodItem (kind.field v) i1 r rest
  unfolding field
  sound_field v i1 r rest got =
      bind_then (name i1) _ _ _ got (λ x i2 h1 got.
      bind_then (expect v i2) _ _ _ got (λ u2 i3 h2 got.
      bind_then (ex 0 i3) _ _ _ got (λ a i4 h3 got.
      let ga = S 0 i3 a i4 h3 in
      let q = some_pair _ _ _ _ got in
      let P : Read (Name × Tree) → Type 0 = λ x. GoodItem (kind.field v) i1 x rest in
      subst P q.0 (record { front = (t.Name x ∷ (t.Symbol v ∷ ga.0.front)); split = ((name_some i1 x i2 h1) ∙ ap (λ z. t.Name x ∷ z) ((expect_some v i2 _ i3 h2) ∙ ap (λ z. t.Symbol v ∷ z) (ga.0.split ∙ ap (λ z. ga.0.front ++ z) q.1))); item = s.field ga.0.spelled; height = ga.0.height }))))

  sound_definition : (i1 : List Token) (r : Read (Name × Tree)) (rest : List Token) → field limit ex y.Defines i1 ≡ Some (r, rest) → GoodItem kind.definition i1 r rest
  unfolding field
  sound_definition i1 r rest got =
      bind_then (name i1) _ _ _ got (λ x i2 h1 got.
      bind_then (expect y.Defines i2) _ _ _ got (λ u2 i3 h2 got.
      bind_then (ex 0 i3) _ _ _ got (λ a i4 h3 got.
      let ga = S 0 i3 a i4 h3 in
      let q = some_pair _ _ _ _ got in
      let P : Read (Name × Tree) → Type 0 = λ x. GoodItem kind.definition i1 x rest in
      subst P q.0 (record { front = (t.Name x ∷ (t.Symbol y.Defines ∷ ga.0.front)); split = ((name_some i1 x i2 h1) ∙ ap (λ z. t.Name x ∷ z) ((expect_some y.Defines i2 _ i3 h2) ∙ ap (λ z. t.Symbol y.Defines ∷ z) (ga.0.split ∙ ap (λ z. ga.0.front ++ z) q.1))); item = s.definition ga.0.spelled; height = ga.0.height }))))

  sound_arm : (i1 : List Token) (r : Read (Tree × Tree)) (rest : List Token) → arm limit ex i1 ≡ Some (r, rest) → GoodItem kind.arm i1 r rest
  unfolding arm
  sound_arm i1 r rest got =
      bind_then (ex 0 i1) _ _ _ got (λ a i2 h1 got.
      let ga = S 0 i1 a i2 h1 in
      bind_then (expect y.Arrow i2) _ _ _ got (λ u2 i3 h2 got.
      bind_then (ex 0 i3) _ _ _ got (λ c i4 h3 got.
      let gc = S 0 i3 c i4 h3 in
      let q = some_pair _ _ _ _ got in
      let P : Read (Tree × Tree) → Type 0 = λ x. GoodItem kind.arm i1 x rest in
      subst P q.0 (record { front = (ga.0.front ++ (t.Symbol y.Arrow ∷ gc.0.front)); split = (ga.0.split ∙ ap (λ z. ga.0.front ++ z) ((expect_some y.Arrow i2 _ i3 h2) ∙ ap (λ z. t.Symbol y.Arrow ∷ z) (gc.0.split ∙ ap (λ z. gc.0.front ++ z) q.1))) ∙ simp append_assoc; item = s.arm ga.0.spelled gc.0.spelled; height = omega (arith, ga.0.height, gc.0.height) }))))

  sound_field_step : (i1 : List Token) (r : Read Tree) (rest : List Token) → field_step limit ex i1 ≡ Some (r, rest) → GoodItem kind.step (t.Symbol y.Dot ∷ i1) r rest
  unfolding field_step
  sound_field_step i1 r rest got =
      bind_then (name i1) _ _ _ got (λ x i2 h1 got.
      let q = some_pair _ _ _ _ got in
      let P : Read Tree → Type 0 = λ x. GoodItem kind.step (t.Symbol y.Dot ∷ i1) x rest in
      subst P q.0 (record { front = (t.Symbol y.Dot ∷ (t.Name x ∷ [])); split = ap (λ z. t.Symbol y.Dot ∷ z) ((name_some i1 x i2 h1) ∙ ap (λ z. t.Name x ∷ z) q.1); item = s.field_step; height = refl }))

  members_height : (a : Tree) (h m : ℕ) (others all : List Tree) → h ≡ height a → m ≡ max (max 0 h) (things_height kind.tree others) → all ≡ a ∷ others → m + 1 ≡ height (e.set_of (trees all))
  members_height a h m others all x y z =
      let up = of_trees others in
      let P : List Tree → Type 0 = λ l. m + 1 ≡ height (e.set_of (trees l)) in
      subst P (sym z) (omega (arith, x, y, up))

  -- what stands behind the first index, where a comma does
  tuple_of : {f : Form} {o u : Ending} {xs ys : List Token} {a : Tree} {bs : List Tree} (rest : List Token) → Spelled f o xs a → Behind kind.tree o u ys bs → sees y.Comma (ys ++ (t.Symbol (y.Close bracket.Square) ∷ rest)) ≡ true
      → Item kind.step ending.Closed (t.Symbol (y.Open bracket.Square) ∷ (xs ++ (ys ++ (t.Symbol (y.Close bracket.Square) ∷ [])))) (e.tuple (trees (a ∷ bs)))
  tuple_of rest d s.none h = cc
  tuple_of rest d (s.one_more m i b) h = s.tuple_step d (s.one_more m i b)

  sound_tuple_step : (i i0 : List Token) (c : Read Tree) → Good below i c i0 → sees y.Comma i0 ≡ true → (r : Read Tree) (rest : List Token) → tuple_step limit ex c i0 ≡ Some (r, rest) → GoodItem kind.step (t.Symbol (y.Open bracket.Square) ∷ i) r rest
  unfolding tuple_step
  sound_tuple_step i i0 c gf comma r rest got =
      bind_then (folded (sees y.Comma) (one_more kind.tree (ex 0)) (length i0) (one_of c) i0) _ _ _ got (λ all i1 ha got.
      let m = sound_behind kind.tree (ex 0) sound_tree (length i0) (one_of c) i0 all i1 ha in
      bind_then (expect (y.Close bracket.Square) i1) _ _ _ got (λ u i2 hc got.
      let close = expect_some (y.Close bracket.Square) i1 u i2 hc in
      let g = give_some _ _ _ _ got in
      let q = raised_some limit form.Closed ending.Closed all.height (e.tuple (trees all.tree)) r g.0 in
      let split0 : i0 ≡ m.front ++ (t.Symbol (y.Close bracket.Square) ∷ i2) = m.split ∙ ap (λ z. m.front ++ z) close in
      let C : List Token → Type 0 = λ z. sees y.Comma z ≡ true in
      let Q : List Tree → Type 0 = λ z. Item kind.step ending.Closed (t.Symbol (y.Open bracket.Square) ∷ (gf.front ++ (m.front ++ (t.Symbol (y.Close bracket.Square) ∷ [])))) (e.tuple (trees z)) in
      let P : Read Tree → Type 0 = λ x. GoodItem kind.step (t.Symbol (y.Open bracket.Square) ∷ i) x rest in
      subst P (sym q.1) (record {
        front = t.Symbol (y.Open bracket.Square) ∷ (gf.front ++ (m.front ++ (t.Symbol (y.Close bracket.Square) ∷ [])));
        split = ap (λ z. t.Symbol (y.Open bracket.Square) ∷ z) (gf.split ∙ ap (λ z. gf.front ++ z) (split0 ∙ ap (λ z. m.front ++ (t.Symbol (y.Close bracket.Square) ∷ z)) g.1)) ∙ simp append_assoc;
        item = subst Q (sym m.tree) (tuple_of i2 gf.spelled m.behind (subst C split0 comma));
        height = members_height c.tree c.height all.height m.others all.tree gf.height m.height m.tree;
      })))

  sound_one_step : (i i0 : List Token) (c : Read Tree) → Good below i c i0 → (r : Read Tree) (rest : List Token) → one_step limit ex c i0 ≡ Some (r, rest) → GoodItem kind.step (t.Symbol (y.Open bracket.Square) ∷ i) r rest
  unfolding one_step
  sound_one_step i i0 c gf r rest got =
      bind_then (expect (y.Close bracket.Square) i0) _ _ _ got (λ u i1 hc got.
      let q = some_pair _ _ _ _ got in
      let P : Read Tree → Type 0 = λ x. GoodItem kind.step (t.Symbol (y.Open bracket.Square) ∷ i) x rest in
      subst P q.0 (record { front = (t.Symbol (y.Open bracket.Square) ∷ (gf.front ++ (t.Symbol (y.Close bracket.Square) ∷ []))); split = ap (λ z. t.Symbol (y.Open bracket.Square) ∷ z) (gf.split ∙ ap (λ z. gf.front ++ z) ((expect_some (y.Close bracket.Square) i0 u i1 hc) ∙ ap (λ z. t.Symbol (y.Close bracket.Square) ∷ z) q.1)) ∙ simp append_assoc; item = s.index_step gf.spelled; height = gf.height }))

  index_by : (b : Bool) (i i0 : List Token) (c : Read Tree) → Good below i c i0 → sees y.Comma i0 ≡ b → (r : Read Tree) (rest : List Token) → cond b (tuple_step limit ex c i0) (one_step limit ex c i0) ≡ Some (r, rest) → GoodItem kind.step (t.Symbol (y.Open bracket.Square) ∷ i) r rest
  index_by true i i0 c gf comma r rest got = sound_tuple_step i i0 c gf comma r rest got
  index_by false i i0 c gf comma r rest got = sound_one_step i i0 c gf r rest got

  sound_index_step : (i1 : List Token) (r : Read Tree) (rest : List Token) → index_step limit ex i1 ≡ Some (r, rest) → GoodItem kind.step i1 r rest
  unfolding index_step
  sound_index_step i1 r rest got =
      bind_then (expect (y.Open bracket.Square) i1) _ _ _ got (λ u i2 ho got.
      bind_then (ex 0 i2) _ _ _ got (λ c i3 hc got.
      let P : List Token → Type 0 = λ z. GoodItem kind.step z r rest in
      subst P (sym (expect_some (y.Open bracket.Square) i1 u i2 ho)) (index_by (sees y.Comma i3) i2 i3 c (S 0 i2 c i3 hc).0 refl r rest got)))

  sound_step : (i : List Token) (r : Read Tree) (rest : List Token) → step limit ex i ≡ Some (r, rest) → GoodItem kind.step i r rest
  unfolding step
  sound_step i r rest got =
      eat_then y.Dot (field_step limit ex) (index_step limit ex) i (r, rest) (GoodItem kind.step i r rest) got
      (λ j split got. let P : List Token → Type 0 = λ z. GoodItem kind.step z r rest in subst P (sym split) (sound_field_step j r rest got))
      (λ got. sound_index_step i r rest got)

  sound_update : (i1 : List Token) (r : Read (List Tree × Tree)) (rest : List Token) → update limit ex i1 ≡ Some (r, rest) → GoodItem kind.update i1 r rest
  unfolding update
  sound_update i1 r rest got =
      bind_then (expect y.Bang i1) _ _ _ got (λ u1 i2 h1 got.
      bind_then (listed kind.step (step limit ex) i2) _ _ _ got (λ p i3 h2 got.
      let gp = sound_listed kind.step (step limit ex) sound_step i2 p i3 h2 in
      bind_then (expect (y.Infix op.Equal) i3) _ _ _ got (λ u3 i4 h3 got.
      bind_then (ex 0 i4) _ _ _ got (λ a i5 h4 got.
      let ga = S 0 i4 a i5 h4 in
      let q = some_pair _ _ _ _ got in
      let P : Read (List Tree × Tree) → Type 0 = λ x. GoodItem kind.update i1 x rest in
      subst P q.0 (record { front = (t.Symbol y.Bang ∷ (gp.front ++ (t.Symbol (y.Infix op.Equal) ∷ ga.0.front))); split = ((expect_some y.Bang i1 _ i2 h1) ∙ ap (λ z. t.Symbol y.Bang ∷ z) (gp.split ∙ ap (λ z. gp.front ++ z) ((expect_some (y.Infix op.Equal) i3 _ i4 h3) ∙ ap (λ z. t.Symbol (y.Infix op.Equal) ∷ z) (ga.0.split ∙ ap (λ z. ga.0.front ++ z) q.1)))) ∙ simp append_assoc; item = s.update gp.items ga.0.spelled; height = let up = of_steps p.tree in omega (arith, gp.height, ga.0.height, up) })))))

  sound_item : (k : Kind) (i : List Token) (r : Read (ItemOf k)) (rest : List Token) → item limit ex k i ≡ Some (r, rest) → GoodItem k i r rest
  sound_item kind.tree i r rest got = sound_tree i r rest got
  sound_item kind.item i r rest got = sound_one i r rest got
  sound_item kind.binder i r rest got = sound_binder i r rest got
  sound_item (kind.field v) i r rest got = sound_field v i r rest got
  sound_item kind.definition i r rest got = sound_definition i r rest got
  sound_item kind.arm i r rest got = sound_arm i r rest got
  sound_item kind.step i r rest got = sound_step i r rest got
  sound_item kind.update i r rest got = sound_update i r rest got

  pub sound_items : (k : Kind) (i : List Token) (r : Read (List (ItemOf k))) (rest : List Token) → items limit ex k i ≡ Some (r, rest) → GoodItems k i r rest
  sound_items k i r rest got = sound_listed k (item limit ex k) (sound_item k) i r rest got

  -- ---- forms

  sound_prefixed : (p : Prefix) (i1 : List Token) (r : Read Tree) (rest : List Token) → prefixed limit ex p (prefix_token p ∷ i1) ≡ Some (r, rest) → Good limit (prefix_token p ∷ i1) r rest
  unfolding prefixed
  sound_prefixed p i1 r rest got =
      bind_then (ex (prefix_least p) i1) _ _ _ got (λ a i2 h1 got.
      let ga = S (prefix_least p) i1 a i2 h1 in
      good_raised limit (form.Prefix p) a.ending _ _ r (prefix_token p ∷ ga.0.front) (prefix_token p ∷ i1) i2 rest got (ap (λ z. prefix_token p ∷ z) (ga.0.split ∙ ap (λ z. ga.0.front ++ z) refl)) (s.unary ga.1 ga.0.spelled) (omega (arith, ga.0.height)))

  sound_call : (x : Name) (i1 : List Token) (r : Read Tree) (rest : List Token) → call limit ex x i1 ≡ Some (r, rest) → Good limit (t.Name x ∷ (t.Symbol (y.Open bracket.Round) ∷ i1)) r rest
  unfolding call
  sound_call x i1 r rest got =
      bind_then (items limit ex kind.tree i1) _ _ _ got (λ all i2 h1 got.
      let gall = sound_items kind.tree i1 all i2 h1 in
      bind_then (expect (y.Close bracket.Round) i2) _ _ _ got (λ u2 i3 h2 got.
      good_raised limit form.Closed ending.Closed _ _ r (t.Name x ∷ (t.Symbol (y.Open bracket.Round) ∷ (gall.front ++ (t.Symbol (y.Close bracket.Round) ∷ [])))) (t.Name x ∷ (t.Symbol (y.Open bracket.Round) ∷ i1)) i3 rest got ((ap (λ z. t.Name x ∷ z) (ap (λ z. t.Symbol (y.Open bracket.Round) ∷ z) (((gall.split ∙ ap (λ z. gall.front ++ z) ((expect_some (y.Close bracket.Round) i2 _ i3 h2) ∙ ap (λ z. t.Symbol (y.Close bracket.Round) ∷ z) refl)))))) ∙ simp append_assoc) (s.call gall.items) (let up = of_trees all.tree in omega (arith, gall.height, up))))

  sound_plain : (x : Name) (i : List Token) (r : Read Tree) (rest : List Token) → plain_name limit ex x i ≡ Some (r, rest) → Good limit (t.Name x ∷ i) r rest
  unfolding plain_name
  sound_plain x i r rest got =
      eat_then y.Prime (leaf limit ex (e.primed x)) (leaf limit ex (e.name x)) i (r, rest) (Good limit (t.Name x ∷ i) r rest) got
      (λ j split got. sound_leaf (e.primed x) (t.Name x ∷ (t.Symbol y.Prime ∷ [])) (t.Name x ∷ i) j r rest got (ap (λ z. t.Name x ∷ z) split) s.primed refl)
      (λ got. sound_leaf (e.name x) (t.Name x ∷ []) (t.Name x ∷ i) i r rest got refl s.name refl)

  sound_named : (i : List Token) (r : Read Tree) (rest : List Token) → named_form limit ex i ≡ Some (r, rest) → Good limit i r rest
  unfolding named_form
  sound_named i r rest got =
      bind_then (name i) _ _ _ got (λ x i2 hx got.
      let P : List Token → Type 0 = λ z. Good limit z r rest in
      subst P (sym (name_some i x i2 hx))
      (eat_then (y.Open bracket.Round) (call limit ex x) (plain_name limit ex x) i2 (r, rest) (Good limit (t.Name x ∷ i2) r rest) got
      (λ j split got. let Q : List Token → Type 0 = λ z. Good limit (t.Name x ∷ z) r rest in subst Q (sym split) (sound_call x j r rest got))
      (λ got. sound_plain x i2 r rest got)))

  sound_some_tuple : (i1 : List Token) (r : Read Tree) (rest : List Token) → some_tuple limit ex i1 ≡ Some (r, rest) → Good limit (t.Symbol (y.Open bracket.Angle) ∷ i1) r rest
  unfolding some_tuple
  sound_some_tuple i1 r rest got =
      bind_then (items limit ex kind.tree i1) _ _ _ got (λ all i2 h1 got.
      let gall = sound_items kind.tree i1 all i2 h1 in
      bind_then (expect (y.Close bracket.Angle) i2) _ _ _ got (λ u2 i3 h2 got.
      good_raised limit form.Closed ending.Closed _ _ r (t.Symbol (y.Open bracket.Angle) ∷ (gall.front ++ (t.Symbol (y.Close bracket.Angle) ∷ []))) (t.Symbol (y.Open bracket.Angle) ∷ i1) i3 rest got ((ap (λ z. t.Symbol (y.Open bracket.Angle) ∷ z) (((gall.split ∙ ap (λ z. gall.front ++ z) ((expect_some (y.Close bracket.Angle) i2 _ i3 h2) ∙ ap (λ z. t.Symbol (y.Close bracket.Angle) ∷ z) refl))))) ∙ simp append_assoc) (s.tuple gall.items) (let up = of_trees all.tree in omega (arith, gall.height, up))))

  sound_tuple : (i : List Token) (r : Read Tree) (rest : List Token) → tuple limit ex (t.Symbol (y.Open bracket.Angle) ∷ i) ≡ Some (r, rest) → Good limit (t.Symbol (y.Open bracket.Angle) ∷ i) r rest
  unfolding tuple
  sound_tuple i r rest got =
      eat_then (y.Close bracket.Angle) (leaf limit ex (e.tuple no_trees)) (some_tuple limit ex) i (r, rest) (Good limit (t.Symbol (y.Open bracket.Angle) ∷ i) r rest) got
      (λ j split got. sound_leaf (e.tuple no_trees) (t.Symbol (y.Open bracket.Angle) ∷ (t.Symbol (y.Close bracket.Angle) ∷ [])) (t.Symbol (y.Open bracket.Angle) ∷ i) j r rest got (ap (λ z. t.Symbol (y.Open bracket.Angle) ∷ z) split) s.no_tuple refl)
      (λ got. sound_some_tuple i r rest got)

  sound_filter : (i1 : List Token) (r : Read Tree) (rest : List Token) → filter limit ex i1 ≡ Some (r, rest) → Good limit (t.Symbol (y.Open bracket.Curly) ∷ i1) r rest
  unfolding filter
  sound_filter i1 r rest got =
      bind_then (name i1) _ _ _ got (λ x i2 h1 got.
      bind_then (expect (y.Infix op.In) i2) _ _ _ got (λ u2 i3 h2 got.
      bind_then (range limit ex 0 i3) _ _ _ got (λ a i4 h3 got.
      let ga = sound_range i3 a i4 h3 in
      bind_then (expect y.Colon i4) _ _ _ got (λ u4 i5 h4 got.
      bind_then (ex 0 i5) _ _ _ got (λ p i6 h5 got.
      let gp = S 0 i5 p i6 h5 in
      bind_then (expect (y.Close bracket.Curly) i6) _ _ _ got (λ u6 i7 h6 got.
      good_raised limit form.Closed ending.Closed _ _ r (t.Symbol (y.Open bracket.Curly) ∷ (t.Name x ∷ (t.Symbol (y.Infix op.In) ∷ (ga.front ++ (t.Symbol y.Colon ∷ (gp.0.front ++ (t.Symbol (y.Close bracket.Curly) ∷ []))))))) (t.Symbol (y.Open bracket.Curly) ∷ i1) i7 rest got ((ap (λ z. t.Symbol (y.Open bracket.Curly) ∷ z) ((((name_some i1 x i2 h1) ∙ ap (λ z. t.Name x ∷ z) ((expect_some (y.Infix op.In) i2 _ i3 h2) ∙ ap (λ z. t.Symbol (y.Infix op.In) ∷ z) (ga.split ∙ ap (λ z. ga.front ++ z) ((expect_some y.Colon i4 _ i5 h4) ∙ ap (λ z. t.Symbol y.Colon ∷ z) (gp.0.split ∙ ap (λ z. gp.0.front ++ z) ((expect_some (y.Close bracket.Curly) i6 _ i7 h6) ∙ ap (λ z. t.Symbol (y.Close bracket.Curly) ∷ z) refl))))))))) ∙ simp append_assoc) (s.filter ga.range gp.0.spelled) (omega (arith, ga.height, gp.0.height))))))))

  -- what begins a list that isn't a name and `\in`
  record Apart (i : List Token) (r : Read Tree) (j : List Token) : Type 0 where
    front : List Token
    split : i ≡ front ++ j
    spelled : Spelled r.form r.ending front r.tree
    height : r.height ≡ height r.tree
    apart : begins_binder front ≡ false

  sound_image : (i i0 : List Token) (c : Read Tree) (i1 : List Token) → Apart i c i0 → i0 ≡ t.Symbol y.Colon ∷ i1 → (r : Read Tree) (rest : List Token) → image limit ex c i1 ≡ Some (r, rest) → Good limit (t.Symbol (y.Open bracket.Curly) ∷ i) r rest
  unfolding image
  sound_image i i0 c i1 gf split r rest got =
      bind_then (name i1) _ _ _ got (λ x i2 h1 got.
      bind_then (expect (y.Infix op.In) i2) _ _ _ got (λ u2 i3 h2 got.
      bind_then (range limit ex 0 i3) _ _ _ got (λ a i4 h3 got.
      let ga = sound_range i3 a i4 h3 in
      bind_then (expect (y.Close bracket.Curly) i4) _ _ _ got (λ u4 i5 h4 got.
      good_raised limit form.Closed ending.Closed _ _ r (t.Symbol (y.Open bracket.Curly) ∷ (gf.front ++ (t.Symbol y.Colon ∷ (t.Name x ∷ (t.Symbol (y.Infix op.In) ∷ (ga.front ++ (t.Symbol (y.Close bracket.Curly) ∷ []))))))) (t.Symbol (y.Open bracket.Curly) ∷ i) i5 rest got (ap (λ z. t.Symbol (y.Open bracket.Curly) ∷ z) (gf.split ∙ ap (λ z. gf.front ++ z) (split ∙ ap (λ z. t.Symbol y.Colon ∷ z) ((name_some i1 x i2 h1) ∙ ap (λ z. t.Name x ∷ z) ((expect_some (y.Infix op.In) i2 _ i3 h2) ∙ ap (λ z. t.Symbol (y.Infix op.In) ∷ z) (ga.split ∙ ap (λ z. ga.front ++ z) ((expect_some (y.Close bracket.Curly) i4 _ i5 h4) ∙ ap (λ z. t.Symbol (y.Close bracket.Curly) ∷ z) refl)))))) ∙ simp append_assoc) (s.image gf.apart gf.spelled ga.range) (omega (arith, gf.height, ga.height))))))

  sound_members : (i i0 : List Token) (c : Read Tree) → Apart i c i0 → (r : Read Tree) (rest : List Token) → members limit ex c i0 ≡ Some (r, rest) → Good limit (t.Symbol (y.Open bracket.Curly) ∷ i) r rest
  unfolding members
  sound_members i i0 c gf r rest got =
      bind_then (folded (sees y.Comma) (one_more kind.tree (ex 0)) (length i0) (one_of c) i0) _ _ _ got (λ all i1 ha got.
      let m = sound_behind kind.tree (ex 0) sound_tree (length i0) (one_of c) i0 all i1 ha in
      bind_then (expect (y.Close bracket.Curly) i1) _ _ _ got (λ u i2 hc got.
      let P : List Tree → Type 0 = λ z. Spelled form.Closed ending.Closed (t.Symbol (y.Open bracket.Curly) ∷ (gf.front ++ (m.front ++ (t.Symbol (y.Close bracket.Curly) ∷ [])))) (e.set_of (trees z)) in
      good_raised limit form.Closed ending.Closed _ _ r (t.Symbol (y.Open bracket.Curly) ∷ (gf.front ++ (m.front ++ (t.Symbol (y.Close bracket.Curly) ∷ [])))) (t.Symbol (y.Open bracket.Curly) ∷ i) i2 rest got
      (ap (λ z. t.Symbol (y.Open bracket.Curly) ∷ z) (gf.split ∙ ap (λ z. gf.front ++ z) (m.split ∙ ap (λ z. m.front ++ z) (expect_some (y.Close bracket.Curly) i1 u i2 hc))) ∙ simp append_assoc)
      (subst P (sym m.tree) (s.set gf.apart gf.spelled m.behind))
      (members_height c.tree c.height all.height m.others all.tree gf.height m.height m.tree)))

  -- the front of what begins with no name and `\in` doesn't either
  apart_front : (front j : List Token) → begins_binder (front ++ j) ≡ false → begins_binder front ≡ false
  apart_front [] j h = refl
  apart_front (k ∷ []) j h = and_false (is_name k)
  apart_front (k ∷ (l ∷ front)) j h = h

  sound_other_set : (i : List Token) → begins_binder i ≡ false → (r : Read Tree) (rest : List Token) → other_set limit ex i ≡ Some (r, rest) → Good limit (t.Symbol (y.Open bracket.Curly) ∷ i) r rest
  unfolding other_set
  sound_other_set i h r rest got =
      bind_then (ex 0 i) _ _ _ got (λ c i0 hc got.
      let g = (S 0 i c i0 hc).0 in
      let Q : List Token → Type 0 = λ z. begins_binder z ≡ false in
      let gf : Apart i c i0 = record { front = g.front; split = g.split; spelled = g.spelled; height = g.height; apart = apart_front g.front i0 (subst Q g.split h) } in
      eat_then y.Colon (image limit ex c) (members limit ex c) i0 (r, rest) (Good limit (t.Symbol (y.Open bracket.Curly) ∷ i) r rest) got
      (λ j split got. sound_image i i0 c j gf split r rest got)
      (λ got. sound_members i i0 c gf r rest got))

  some_set_by : (b : Bool) (i : List Token) (r : Read Tree) (rest : List Token) → begins_binder i ≡ b → cond b (filter limit ex i) (other_set limit ex i) ≡ Some (r, rest) → Good limit (t.Symbol (y.Open bracket.Curly) ∷ i) r rest
  some_set_by true i r rest h got = sound_filter i r rest got
  some_set_by false i r rest h got = sound_other_set i h r rest got

  sound_some_set : (i : List Token) (r : Read Tree) (rest : List Token) → some_set limit ex i ≡ Some (r, rest) → Good limit (t.Symbol (y.Open bracket.Curly) ∷ i) r rest
  unfolding some_set
  sound_some_set i r rest got = some_set_by (begins_binder i) i r rest refl got

  sound_set : (i : List Token) (r : Read Tree) (rest : List Token) → set limit ex (t.Symbol (y.Open bracket.Curly) ∷ i) ≡ Some (r, rest) → Good limit (t.Symbol (y.Open bracket.Curly) ∷ i) r rest
  unfolding set
  sound_set i r rest got =
      eat_then (y.Close bracket.Curly) (leaf limit ex (e.set_of no_trees)) (some_set limit ex) i (r, rest) (Good limit (t.Symbol (y.Open bracket.Curly) ∷ i) r rest) got
      (λ j split got. sound_leaf (e.set_of no_trees) (t.Symbol (y.Open bracket.Curly) ∷ (t.Symbol (y.Close bracket.Curly) ∷ [])) (t.Symbol (y.Open bracket.Curly) ∷ i) j r rest got (ap (λ z. t.Symbol (y.Open bracket.Curly) ∷ z) split) s.no_set refl)
      (λ got. sound_some_set i r rest got)

  sound_fun_of : (i1 : List Token) (r : Read Tree) (rest : List Token) → fun_of limit ex i1 ≡ Some (r, rest) → Good limit (t.Symbol (y.Open bracket.Square) ∷ i1) r rest
  unfolding fun_of
  sound_fun_of i1 r rest got =
      bind_then (items limit ex kind.binder i1) _ _ _ got (λ all i2 h1 got.
      let gall = sound_items kind.binder i1 all i2 h1 in
      bind_then (expect y.MapsTo i2) _ _ _ got (λ u2 i3 h2 got.
      bind_then (ex 0 i3) _ _ _ got (λ a i4 h3 got.
      let ga = S 0 i3 a i4 h3 in
      bind_then (expect (y.Close bracket.Square) i4) _ _ _ got (λ u4 i5 h4 got.
      good_raised limit form.Closed ending.Closed _ _ r (t.Symbol (y.Open bracket.Square) ∷ (gall.front ++ (t.Symbol y.MapsTo ∷ (ga.0.front ++ (t.Symbol (y.Close bracket.Square) ∷ []))))) (t.Symbol (y.Open bracket.Square) ∷ i1) i5 rest got ((ap (λ z. t.Symbol (y.Open bracket.Square) ∷ z) (((gall.split ∙ ap (λ z. gall.front ++ z) ((expect_some y.MapsTo i2 _ i3 h2) ∙ ap (λ z. t.Symbol y.MapsTo ∷ z) (ga.0.split ∙ ap (λ z. ga.0.front ++ z) ((expect_some (y.Close bracket.Square) i4 _ i5 h4) ∙ ap (λ z. t.Symbol (y.Close bracket.Square) ∷ z) refl))))))) ∙ simp append_assoc) (s.fun_of gall.items ga.0.spelled) (let up = of_bound all.tree in omega (arith, gall.height, ga.0.height, up))))))

  sound_record_of : (i1 : List Token) (r : Read Tree) (rest : List Token) → record_of limit ex i1 ≡ Some (r, rest) → Good limit (t.Symbol (y.Open bracket.Square) ∷ i1) r rest
  unfolding record_of
  sound_record_of i1 r rest got =
      bind_then (items limit ex (kind.field y.MapsTo) i1) _ _ _ got (λ all i2 h1 got.
      let gall = sound_items (kind.field y.MapsTo) i1 all i2 h1 in
      bind_then (expect (y.Close bracket.Square) i2) _ _ _ got (λ u2 i3 h2 got.
      good_raised limit form.Closed ending.Closed _ _ r (t.Symbol (y.Open bracket.Square) ∷ (gall.front ++ (t.Symbol (y.Close bracket.Square) ∷ []))) (t.Symbol (y.Open bracket.Square) ∷ i1) i3 rest got ((ap (λ z. t.Symbol (y.Open bracket.Square) ∷ z) (((gall.split ∙ ap (λ z. gall.front ++ z) ((expect_some (y.Close bracket.Square) i2 _ i3 h2) ∙ ap (λ z. t.Symbol (y.Close bracket.Square) ∷ z) refl))))) ∙ simp append_assoc) (s.record_of gall.items) (let up = of_fields y.MapsTo all.tree in omega (arith, gall.height, up))))

  sound_record_set : (i1 : List Token) (r : Read Tree) (rest : List Token) → record_set limit ex i1 ≡ Some (r, rest) → Good limit (t.Symbol (y.Open bracket.Square) ∷ i1) r rest
  unfolding record_set
  sound_record_set i1 r rest got =
      bind_then (items limit ex (kind.field y.Colon) i1) _ _ _ got (λ all i2 h1 got.
      let gall = sound_items (kind.field y.Colon) i1 all i2 h1 in
      bind_then (expect (y.Close bracket.Square) i2) _ _ _ got (λ u2 i3 h2 got.
      good_raised limit form.Closed ending.Closed _ _ r (t.Symbol (y.Open bracket.Square) ∷ (gall.front ++ (t.Symbol (y.Close bracket.Square) ∷ []))) (t.Symbol (y.Open bracket.Square) ∷ i1) i3 rest got ((ap (λ z. t.Symbol (y.Open bracket.Square) ∷ z) (((gall.split ∙ ap (λ z. gall.front ++ z) ((expect_some (y.Close bracket.Square) i2 _ i3 h2) ∙ ap (λ z. t.Symbol (y.Close bracket.Square) ∷ z) refl))))) ∙ simp append_assoc) (s.record_set gall.items) (let up = of_fields y.Colon all.tree in omega (arith, gall.height, up))))

  sound_fun_set : (i i0 : List Token) (c : Read Tree) (i1 : List Token) → Apart i c i0 → i0 ≡ i1 → (r : Read Tree) (rest : List Token) → fun_set limit ex c i1 ≡ Some (r, rest) → Good limit (t.Symbol (y.Open bracket.Square) ∷ i) r rest
  unfolding fun_set
  sound_fun_set i i0 c i1 gf split r rest got =
      bind_then (expect y.Arrow i1) _ _ _ got (λ u1 i2 h1 got.
      bind_then (ex 0 i2) _ _ _ got (λ a i3 h2 got.
      let ga = S 0 i2 a i3 h2 in
      bind_then (expect (y.Close bracket.Square) i3) _ _ _ got (λ u3 i4 h3 got.
      good_raised limit form.Closed ending.Closed _ _ r (t.Symbol (y.Open bracket.Square) ∷ (gf.front ++ (t.Symbol y.Arrow ∷ (ga.0.front ++ (t.Symbol (y.Close bracket.Square) ∷ []))))) (t.Symbol (y.Open bracket.Square) ∷ i) i4 rest got (ap (λ z. t.Symbol (y.Open bracket.Square) ∷ z) (gf.split ∙ ap (λ z. gf.front ++ z) (split ∙ ((expect_some y.Arrow i1 _ i2 h1) ∙ ap (λ z. t.Symbol y.Arrow ∷ z) (ga.0.split ∙ ap (λ z. ga.0.front ++ z) ((expect_some (y.Close bracket.Square) i3 _ i4 h3) ∙ ap (λ z. t.Symbol (y.Close bracket.Square) ∷ z) refl))))) ∙ simp append_assoc) (s.fun_set gf.apart gf.spelled ga.0.spelled) (omega (arith, gf.height, ga.0.height)))))

  sound_except : (i i0 : List Token) (c : Read Tree) (i1 : List Token) → Apart i c i0 → i0 ≡ t.Symbol y.Except ∷ i1 → (r : Read Tree) (rest : List Token) → except limit ex c i1 ≡ Some (r, rest) → Good limit (t.Symbol (y.Open bracket.Square) ∷ i) r rest
  unfolding except
  sound_except i i0 c i1 gf split r rest got =
      bind_then (items limit ex kind.update i1) _ _ _ got (λ all i2 h1 got.
      let gall = sound_items kind.update i1 all i2 h1 in
      bind_then (expect (y.Close bracket.Square) i2) _ _ _ got (λ u2 i3 h2 got.
      good_raised limit form.Closed ending.Closed _ _ r (t.Symbol (y.Open bracket.Square) ∷ (gf.front ++ (t.Symbol y.Except ∷ (gall.front ++ (t.Symbol (y.Close bracket.Square) ∷ []))))) (t.Symbol (y.Open bracket.Square) ∷ i) i3 rest got (ap (λ z. t.Symbol (y.Open bracket.Square) ∷ z) (gf.split ∙ ap (λ z. gf.front ++ z) (split ∙ ap (λ z. t.Symbol y.Except ∷ z) (gall.split ∙ ap (λ z. gall.front ++ z) ((expect_some (y.Close bracket.Square) i2 _ i3 h2) ∙ ap (λ z. t.Symbol (y.Close bracket.Square) ∷ z) refl)))) ∙ simp append_assoc) (s.except gf.apart gf.spelled gall.items) (let up = of_paths all.tree in omega (arith, gf.height, gall.height, up))))

  -- a form of `[ ]` that is none of the others doesn't begin with a name and `\in`
  square_apart : (i : List Token) → form_of_square i ≡ square.Other → begins_binder i ≡ false
  square_apart [] h = refl
  square_apart (t.Name x ∷ []) h = refl
  square_apart (t.Name x ∷ (k ∷ i)) h = second_by (is_sign (y.Infix op.In) k) k refl h
  square_apart (k ∷ i) h = refl

  sound_other_square : (i : List Token) → begins_binder i ≡ false → (r : Read Tree) (rest : List Token) → other_square limit ex i ≡ Some (r, rest) → Good limit (t.Symbol (y.Open bracket.Square) ∷ i) r rest
  unfolding other_square
  sound_other_square i h r rest got =
      bind_then (ex 0 i) _ _ _ got (λ c i0 hc got.
      let g = (S 0 i c i0 hc).0 in
      let Q : List Token → Type 0 = λ z. begins_binder z ≡ false in
      let gf : Apart i c i0 = record { front = g.front; split = g.split; spelled = g.spelled; height = g.height; apart = apart_front g.front i0 (subst Q g.split h) } in
      eat_then y.Except (except limit ex c) (fun_set limit ex c) i0 (r, rest) (Good limit (t.Symbol (y.Open bracket.Square) ∷ i) r rest) got
      (λ j split got. sound_except i i0 c j gf split r rest got)
      (λ got. sound_fun_set i i0 c i0 gf refl r rest got))

  sound_square_by : (q : Square) (i : List Token) (r : Read Tree) (rest : List Token) → form_of_square i ≡ q → square_by limit ex q i ≡ Some (r, rest) → Good limit (t.Symbol (y.Open bracket.Square) ∷ i) r rest
  sound_square_by square.Record i r rest h got = sound_record_of i r rest got
  sound_square_by square.RecordSet i r rest h got = sound_record_set i r rest got
  sound_square_by square.Function i r rest h got = sound_fun_of i r rest got
  sound_square_by square.Other i r rest h got = sound_other_square i (square_apart i h) r rest got

  sound_square : (i : List Token) (r : Read Tree) (rest : List Token) → square_form limit ex (t.Symbol (y.Open bracket.Square) ∷ i) ≡ Some (r, rest) → Good limit (t.Symbol (y.Open bracket.Square) ∷ i) r rest
  unfolding square_form
  sound_square i r rest got = sound_square_by (form_of_square i) i r rest refl got

  sound_quantified : (v : Quantifier) (i1 : List Token) (r : Read Tree) (rest : List Token) → quantified limit ex v (t.Symbol (y.Quantifier v) ∷ i1) ≡ Some (r, rest) → Good limit (t.Symbol (y.Quantifier v) ∷ i1) r rest
  unfolding quantified
  sound_quantified v i1 r rest got =
      bind_then (items limit ex kind.binder i1) _ _ _ got (λ all i2 h1 got.
      let gall = sound_items kind.binder i1 all i2 h1 in
      bind_then (expect y.Colon i2) _ _ _ got (λ u2 i3 h2 got.
      bind_then (ex 0 i3) _ _ _ got (λ p i4 h3 got.
      let gp = S 0 i3 p i4 h3 in
      good_raised limit form.Closed (opened p.ending) _ _ r (t.Symbol (y.Quantifier v) ∷ (gall.front ++ (t.Symbol y.Colon ∷ gp.0.front))) (t.Symbol (y.Quantifier v) ∷ i1) i4 rest got ((ap (λ z. t.Symbol (y.Quantifier v) ∷ z) (gall.split ∙ ap (λ z. gall.front ++ z) ((expect_some y.Colon i2 _ i3 h2) ∙ ap (λ z. t.Symbol y.Colon ∷ z) (gp.0.split ∙ ap (λ z. gp.0.front ++ z) refl)))) ∙ simp append_assoc) (s.quantified gall.items gp.0.spelled) (let up = of_bound all.tree in omega (arith, gall.height, gp.0.height, up)))))

  sound_choose : (i1 : List Token) (r : Read Tree) (rest : List Token) → choose limit ex (t.Symbol y.Choose ∷ i1) ≡ Some (r, rest) → Good limit (t.Symbol y.Choose ∷ i1) r rest
  unfolding choose
  sound_choose i1 r rest got =
      bind_then (name i1) _ _ _ got (λ x i2 h1 got.
      bind_then (expect (y.Infix op.In) i2) _ _ _ got (λ u2 i3 h2 got.
      bind_then (range limit ex 0 i3) _ _ _ got (λ a i4 h3 got.
      let ga = sound_range i3 a i4 h3 in
      bind_then (expect y.Colon i4) _ _ _ got (λ u4 i5 h4 got.
      bind_then (ex 0 i5) _ _ _ got (λ p i6 h5 got.
      let gp = S 0 i5 p i6 h5 in
      good_raised limit form.Closed (opened p.ending) _ _ r (t.Symbol y.Choose ∷ (t.Name x ∷ (t.Symbol (y.Infix op.In) ∷ (ga.front ++ (t.Symbol y.Colon ∷ gp.0.front))))) (t.Symbol y.Choose ∷ i1) i6 rest got ((ap (λ z. t.Symbol y.Choose ∷ z) ((name_some i1 x i2 h1) ∙ ap (λ z. t.Name x ∷ z) ((expect_some (y.Infix op.In) i2 _ i3 h2) ∙ ap (λ z. t.Symbol (y.Infix op.In) ∷ z) (ga.split ∙ ap (λ z. ga.front ++ z) ((expect_some y.Colon i4 _ i5 h4) ∙ ap (λ z. t.Symbol y.Colon ∷ z) (gp.0.split ∙ ap (λ z. gp.0.front ++ z) refl)))))) ∙ simp append_assoc) (s.choose ga.range gp.0.spelled) (omega (arith, ga.height, gp.0.height)))))))

  sound_cond_of : (i1 : List Token) (r : Read Tree) (rest : List Token) → cond_of limit ex (t.Symbol y.If ∷ i1) ≡ Some (r, rest) → Good limit (t.Symbol y.If ∷ i1) r rest
  unfolding cond_of
  sound_cond_of i1 r rest got =
      bind_then (ex 0 i1) _ _ _ got (λ a i2 h1 got.
      let ga = S 0 i1 a i2 h1 in
      bind_then (expect y.Then i2) _ _ _ got (λ u2 i3 h2 got.
      bind_then (ex 0 i3) _ _ _ got (λ c i4 h3 got.
      let gc = S 0 i3 c i4 h3 in
      bind_then (expect y.Else i4) _ _ _ got (λ u4 i5 h4 got.
      bind_then (ex 0 i5) _ _ _ got (λ d i6 h5 got.
      let gd = S 0 i5 d i6 h5 in
      good_raised limit form.Closed (opened d.ending) _ _ r (t.Symbol y.If ∷ (ga.0.front ++ (t.Symbol y.Then ∷ (gc.0.front ++ (t.Symbol y.Else ∷ gd.0.front))))) (t.Symbol y.If ∷ i1) i6 rest got ((ap (λ z. t.Symbol y.If ∷ z) (ga.0.split ∙ ap (λ z. ga.0.front ++ z) ((expect_some y.Then i2 _ i3 h2) ∙ ap (λ z. t.Symbol y.Then ∷ z) (gc.0.split ∙ ap (λ z. gc.0.front ++ z) ((expect_some y.Else i4 _ i5 h4) ∙ ap (λ z. t.Symbol y.Else ∷ z) (gd.0.split ∙ ap (λ z. gd.0.front ++ z) refl)))))) ∙ simp append_assoc) (s.cond_of ga.0.spelled gc.0.spelled gd.0.spelled) (omega (arith, ga.0.height, gc.0.height, gd.0.height)))))))

  sound_let_in : (i1 : List Token) (r : Read Tree) (rest : List Token) → let_in limit ex (t.Symbol y.Let ∷ i1) ≡ Some (r, rest) → Good limit (t.Symbol y.Let ∷ i1) r rest
  unfolding let_in
  sound_let_in i1 r rest got =
      bind_then (items limit ex kind.definition i1) _ _ _ got (λ all i2 h1 got.
      let gall = sound_items kind.definition i1 all i2 h1 in
      bind_then (expect y.LetIn i2) _ _ _ got (λ u2 i3 h2 got.
      bind_then (ex 0 i3) _ _ _ got (λ a i4 h3 got.
      let ga = S 0 i3 a i4 h3 in
      good_raised limit form.Closed (opened a.ending) _ _ r (t.Symbol y.Let ∷ (gall.front ++ (t.Symbol y.LetIn ∷ ga.0.front))) (t.Symbol y.Let ∷ i1) i4 rest got ((ap (λ z. t.Symbol y.Let ∷ z) (gall.split ∙ ap (λ z. gall.front ++ z) ((expect_some y.LetIn i2 _ i3 h2) ∙ ap (λ z. t.Symbol y.LetIn ∷ z) (ga.0.split ∙ ap (λ z. ga.0.front ++ z) refl)))) ∙ simp append_assoc) (s.let_in gall.items ga.0.spelled) (let up = of_definitions all.tree in omega (arith, gall.height, ga.0.height, up)))))

  sound_last_arm : (i i0 : List Token) (all : Read (List (Tree × Tree))) (i1 : List Token) → GoodItems kind.arm i all i0 → i0 ≡ t.Symbol y.Box ∷ i1 → is_case all.ending ≡ false → (r : Read Tree) (rest : List Token) → last_arm limit ex all i1 ≡ Some (r, rest) → Good limit (t.Symbol y.Case ∷ i) r rest
  unfolding last_arm
  sound_last_arm i i0 all i1 gf split ends r rest got =
      bind_then (expect y.Other i1) _ _ _ got (λ u1 i2 h1 got.
      bind_then (expect y.Arrow i2) _ _ _ got (λ u2 i3 h2 got.
      bind_then (ex 0 i3) _ _ _ got (λ a i4 h3 got.
      let ga = S 0 i3 a i4 h3 in
      let up = of_arms all.tree in
      good_raised limit form.Closed ending.Case _ _ r (t.Symbol y.Case ∷ (gf.front ++ (t.Symbol y.Box ∷ (t.Symbol y.Other ∷ (t.Symbol y.Arrow ∷ ga.0.front))))) (t.Symbol y.Case ∷ i) i4 rest got
      (ap (λ z. t.Symbol y.Case ∷ z) (gf.split ∙ ap (λ z. gf.front ++ z) (split ∙ ap (λ z. t.Symbol y.Box ∷ z) (expect_some y.Other i1 u1 i2 h1 ∙ ap (λ z. t.Symbol y.Other ∷ z) (expect_some y.Arrow i2 u2 i3 h2 ∙ ap (λ z. t.Symbol y.Arrow ∷ z) ga.0.split)))) ∙ simp append_assoc)
      (s.case_other ends gf.items ga.0.spelled) (omega (arith, gf.height, ga.0.height, up)))))

  case_other_by : (b : Bool) (i i0 : List Token) (all : Read (List (Tree × Tree))) (i1 : List Token) → GoodItems kind.arm i all i0 → i0 ≡ t.Symbol y.Box ∷ i1 → is_case all.ending ≡ b → (r : Read Tree) (rest : List Token) → (cond {A = Parser (Read Tree)} b (λ i. None) (last_arm limit ex all)) i1 ≡ Some (r, rest) → Good limit (t.Symbol y.Case ∷ i) r rest
  case_other_by true i i0 all i1 gf split ends r rest got = cc
  case_other_by false i i0 all i1 gf split ends r rest got = sound_last_arm i i0 all i1 gf split ends r rest got

  sound_case : (i : List Token) (r : Read Tree) (rest : List Token) → case_form limit ex (t.Symbol y.Case ∷ i) ≡ Some (r, rest) → Good limit (t.Symbol y.Case ∷ i) r rest
  unfolding case_form case_other
  sound_case i r rest got =
      bind_then (items limit ex kind.arm i) _ _ _ got (λ all i0 ha got.
      let gf = sound_items kind.arm i all i0 ha in
      let up = of_arms all.tree in
      eat_then y.Box (case_other limit ex all) (node limit ex ending.Case all.height (e.case_of (arms all.tree))) i0 (r, rest) (Good limit (t.Symbol y.Case ∷ i) r rest) got
      (λ j split got. case_other_by (is_case all.ending) i i0 all j gf split refl r rest got)
      (λ got. good_raised limit form.Closed ending.Case _ _ r (t.Symbol y.Case ∷ gf.front) (t.Symbol y.Case ∷ i) i0 rest got (ap (λ z. t.Symbol y.Case ∷ z) gf.split) (s.case_of gf.items) (omega (arith, gf.height, up))))

  sound_unchanged : (i : List Token) (r : Read Tree) (rest : List Token) → unchanged limit ex (t.Symbol y.Unchanged ∷ i) ≡ Some (r, rest) → Good limit (t.Symbol y.Unchanged ∷ i) r rest
  unfolding unchanged
  sound_unchanged i1 r rest got =
      bind_then (expect (y.Open bracket.Angle) i1) _ _ _ got (λ u1 i2 h1 got.
      bind_then (names i2) _ _ _ got (λ xs i3 h2 got.
      let g = sound_names i2 xs i3 h2 in
      bind_then (expect (y.Close bracket.Angle) i3) _ _ _ got (λ u3 i4 h3 got.
      let F : List Token = t.Symbol y.Unchanged ∷ (t.Symbol (y.Open bracket.Angle) ∷ (s.names g.first g.others ++ (t.Symbol (y.Close bracket.Angle) ∷ []))) in
      let P : List Name → Type 0 = λ z. Spelled form.Closed ending.Closed (t.Symbol y.Unchanged ∷ (t.Symbol (y.Open bracket.Angle) ∷ (s.names g.first g.others ++ (t.Symbol (y.Close bracket.Angle) ∷ [])))) (e.unchanged z) in
      sound_leaf (e.unchanged xs) (t.Symbol y.Unchanged ∷ (t.Symbol (y.Open bracket.Angle) ∷ (s.names g.first g.others ++ (t.Symbol (y.Close bracket.Angle) ∷ [])))) (t.Symbol y.Unchanged ∷ i1) i4 r rest got
      (ap (λ z. t.Symbol y.Unchanged ∷ z) (expect_some (y.Open bracket.Angle) i1 u1 i2 h1 ∙ ap (λ z. t.Symbol (y.Open bracket.Angle) ∷ z) (g.split ∙ ap (λ z. s.names g.first g.others ++ z) (expect_some (y.Close bracket.Angle) i3 u3 i4 h3))) ∙ simp append_assoc)
      (subst P (sym g.is) s.unchanged) refl)))

  sound_text : (i : List Token) (r : Read Tree) (rest : List Token) → text_form limit ex i ≡ Some (r, rest) → Good limit i r rest
  unfolding text_form
  sound_text i r rest got =
      bind_then (text i) _ _ _ got (λ x i2 hx got. sound_leaf (e.text x) (t.Text x ∷ []) i i2 r rest got (text_some i x i2 hx) s.text refl)

  sound_leaf_at : (a : Tree) (k : Token) (i : List Token) (r : Read Tree) (rest : List Token) → leaf_at limit ex a (k ∷ i) ≡ Some (r, rest) → Spelled form.Closed ending.Closed (k ∷ []) a → 1 ≡ height a → Good limit (k ∷ i) r rest
  unfolding leaf_at
  sound_leaf_at a k i r rest got spelled one = sound_leaf a (k ∷ []) (k ∷ i) i r rest got refl spelled one

  pub sound_primary : (i : List Token) (r : Read Tree) (rest : List Token) → primary limit ex i ≡ Some (r, rest) → Good limit i r rest
  unfolding primary
  sound_primary [] r rest got = cc
  sound_primary (t.Name x ∷ i) r rest got = sound_named (t.Name x ∷ i) r rest got
  sound_primary (t.Number n ∷ i) r rest got = sound_leaf_at (e.number n) (t.Number n) i r rest got s.number refl
  sound_primary (t.Text x ∷ i) r rest got = sound_text (t.Text x ∷ i) r rest got
  sound_primary (t.Symbol (y.Truth v) ∷ i) r rest got = sound_leaf_at (e.truth v) (t.Symbol (y.Truth v)) i r rest got s.truth refl
  sound_primary (t.Symbol y.At ∷ i) r rest got = sound_leaf_at e.at (t.Symbol y.At) i r rest got s.at refl
  sound_primary (t.Symbol (y.Word w.BooleanSet) ∷ i) r rest got = sound_leaf_at (e.word w.BooleanSet) (t.Symbol (y.Word w.BooleanSet)) i r rest got s.boolean refl
  sound_primary (t.Symbol (y.Infix op.Subtract) ∷ i) r rest got = sound_prefixed pre.Minus i r rest got
  sound_primary (t.Symbol (y.Prefix pre.Not) ∷ i) r rest got = sound_prefixed pre.Not i r rest got
  sound_primary (t.Symbol (y.Prefix pre.Minus) ∷ i) r rest got = cc
  sound_primary (t.Symbol (y.Prefix pre.Powerset) ∷ i) r rest got = sound_prefixed pre.Powerset i r rest got
  sound_primary (t.Symbol (y.Prefix pre.Flatten) ∷ i) r rest got = sound_prefixed pre.Flatten i r rest got
  sound_primary (t.Symbol (y.Prefix pre.Domain) ∷ i) r rest got = sound_prefixed pre.Domain i r rest got
  sound_primary (t.Symbol (y.Open bracket.Angle) ∷ i) r rest got = sound_tuple i r rest got
  sound_primary (t.Symbol (y.Open bracket.Curly) ∷ i) r rest got = sound_set i r rest got
  sound_primary (t.Symbol (y.Open bracket.Square) ∷ i) r rest got = sound_square i r rest got
  sound_primary (t.Symbol (y.Quantifier v) ∷ i) r rest got = sound_quantified v i r rest got
  sound_primary (t.Symbol y.Choose ∷ i) r rest got = sound_choose i r rest got
  sound_primary (t.Symbol y.If ∷ i) r rest got = sound_cond_of i r rest got
  sound_primary (t.Symbol y.Case ∷ i) r rest got = sound_case i r rest got
  sound_primary (t.Symbol y.Let ∷ i) r rest got = sound_let_in i r rest got
  sound_primary (t.Symbol y.Unchanged ∷ i) r rest got = sound_unchanged i r rest got
  sound_primary (t.Symbol y.Variable ∷ i) r rest got = sound_leaf_at (e.name variable_name) (t.Symbol y.Variable) i r rest got s.variable refl
  sound_primary (t.Symbol y.Value ∷ i) r rest got = sound_leaf_at (e.name value_name) (t.Symbol y.Value) i r rest got s.value refl
  sound_primary (_ ∷ i) r rest got = cc

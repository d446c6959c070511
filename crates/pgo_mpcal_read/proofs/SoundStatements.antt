-- What is read of a statement is spelled so.
use Rattle.std.proofs.Common.{◌≡◌, ℕ, zero, suc, ◌+◌, ◌<◌, max, Bool, true, false, ◌&&◌, List, [], ◌∷◌, ◌++◌, length, Some, refl, ap, sym, ◌∙◌, subst, arith, cond}
use Rattle.std.proofs.lemmas.List.{append_assoc, append-nil}
use Rattle.std.proofs.lemmas.Bool.{and_parts}
use Rattle.pgo_base.specs.Tree.{Tree}
use Rattle.pgo_lexer.specs.declared.token.Lexeme.{Lexeme}
use Rattle.pgo_syntax.specs.declared.assignment.Assignment.{Assignment}
use Rattle.pgo_syntax.specs.Statement.{Statement, statements, guarded}
use Rattle.pgo_syntax.specs.Statement as st
use Rattle.pgo_mpcal_read.specs.declared.with_depth.WithDepth.{WithDepth}
use Rattle.pgo_mpcal_read.specs.declared.depths.MacroDepth.{MacroDepth}
use Rattle.pgo_mpcal_read.specs.declared.lookahead.StatementForm.{StatementForm}
use Rattle.pgo_mpcal_read.specs.declared.lookahead.StatementForm.TheVariants as statement_form
use Rattle.pgo_lexer.specs.declared.symbol.Bracket.TheVariants as bracket
use Rattle.pgo_lexer.specs.declared.symbol.Keyword.{Keyword}
use Rattle.pgo_lexer.specs.declared.symbol.Keyword.TheVariants as keyword
use Rattle.pgo_lexer.specs.declared.symbol.Symbol.TheVariants as symbol
use Rattle.pgo_mpcal_read.specs.Depths.{depth, depth_of, statements_depth, guarded_depth}
use Rattle.pgo_mpcal_read.specs.Lookahead.{form_of}
use Rattle.pgo_mpcal_read.specs.Signs.{sees}
use Rattle.pgo_mpcal_read.specs.Elements.{Spot, at, word, placed, IsExpression, Items, InBrackets}
use Rattle.pgo_mpcal_read.specs.Statements.{Spelled, IsBranch, ElseIfs, Ors, IsAssignment, IsWithName}
use Rattle.pgo_mpcal_read.specs.Statements as s
use Rattle.pgo_expr_read.specs.Steps.{and_then, skip, folded}
use Rattle.pgo_mpcal_read.specs.Reading.{Outcome, Parser, expression, items, in_brackets}
use Rattle.pgo_mpcal_read.specs.ReadingStatements.{with_depth, assignment, with_name, skip_form, said, one_expression, goto_form, assign_all, assign_form, call_form, while_form, with_form, branch, sees_else_if, one_more_branch, last_else, if_form, one_more_or, either_form, keyword_form, form, any_form, statement}
use Rattle.pgo_expr_read.proofs.Steps.{some_pair, bind_then}
use Rattle.pgo_mpcal_read.proofs.Parts.{front_then, expect_then, mark_then, name_then, eaten_then}
use Rattle.pgo_mpcal_read.proofs.Expressions.{sound_expression}
use Rattle.pgo_mpcal_read.proofs.Lists.{sound_items, sound_in_brackets}
use Rattle.pgo_mpcal_read.proofs.Lefts.{sound_assignment, sound_with_name}
use Rattle.pgo_mpcal_read.proofs.SoundBlocks.{sound_block}
use Rattle.pgo_mpcal_read.proofs.Good.{Stays, stays_closed, Good, SoundInner, inner_then, good_node, folded_over, shorter, sees_front}

and_first : (a b : Bool) → (a && b) ≡ false → a ≡ true → b ≡ false
and_first true b e h = e
and_first false b e h = cc

is_false : (u x : Bool) → (u ≡ true → x ≡ false) → x ≡ true → u ≡ false
is_false true x h e = let q = h refl in cc
is_false false x h e = refl

module _ (ms : List MacroDepth) (limit below : ℕ) (inner : Parser (WithDepth Statement)) (S : SoundInner ms below inner) where
  pub sound_skip : SoundInner ms limit (skip_form ms limit inner)
  unfolding skip_form
  sound_skip i r rest got =
      mark_then (symbol.Keyword keyword.Skip) i _ _ _ got (λ p i1 e1 got.
      good_node ms limit inner false false 0 (st.skip p.start) r (at p (symbol.Keyword keyword.Skip) ∷ []) i i1 rest got e1 s.skip (omega arith) (stays_closed i1))

  pub sound_one : (k : Keyword) → ((p : Spot) (xs : List Lexeme) (e : Tree) → IsExpression xs e → Spelled false false (at p (symbol.Keyword k) ∷ xs) (said k p.start e)) → ((p : ℕ) (e : Tree) → 0 + 1 ≡ depth ms (said k p e))
      → SoundInner ms limit (one_expression ms limit inner k)
  unfolding one_expression
  sound_one k spells one i r rest got =
      mark_then (symbol.Keyword k) i _ _ _ got (λ p i1 e1 got.
      front_then IsExpression expression sound_expression i1 _ _ _ got (λ xs e i2 e2 d got.
      good_node ms limit inner false false 0 (said k p.start e) r (at p (symbol.Keyword k) ∷ xs) i i2 rest got (e1 ∙ ap (λ z. at p (symbol.Keyword k) ∷ z) e2) (spells p xs e d) (one p.start e) (stays_closed i2)))

  pub sound_goto : SoundInner ms limit (goto_form ms limit inner)
  unfolding goto_form
  sound_goto i r rest got =
      mark_then (symbol.Keyword keyword.Goto) i _ _ _ got (λ p i1 e1 got.
      name_then i1 _ _ _ got (λ n x i2 e2 got.
      good_node ms limit inner false false 0 (st.go_to p.start (placed n x)) r (at p (symbol.Keyword keyword.Goto) ∷ (word n x ∷ [])) i i2 rest got (e1 ∙ ap (λ z. at p (symbol.Keyword keyword.Goto) ∷ z) e2) s.go_to (omega arith) (stays_closed i2)))

  assigned_all : (all : List Assignment) (xs i j : List Lexeme) (r : WithDepth Statement) (rest : List Lexeme) → i ≡ xs ++ j → Items IsAssignment symbol.Bars xs all → assign_all ms limit inner all j ≡ Some (r, rest) → Good ms limit i r rest
  assigned_all [] xs i j r rest e d got = cc
  assigned_all (a ∷ as') xs i j r rest e d got = good_node ms limit inner false false 0 (st.assign a.left.name.place (a ∷ as')) r xs i j rest got e (s.assign d) (omega arith) (stays_closed j)

  pub sound_assign : SoundInner ms limit (assign_form ms limit inner)
  unfolding assign_form
  sound_assign i r rest got =
      front_then (Items IsAssignment symbol.Bars) (items symbol.Bars assignment) (sound_items IsAssignment symbol.Bars assignment sound_assignment) i _ _ _ got (λ xs all i1 e1 d got.
      assigned_all all xs i i1 r rest e1 d got)

  pub sound_call : SoundInner ms limit (call_form ms limit inner)
  unfolding call_form
  sound_call i r rest got =
      name_then i _ _ _ got (λ n x i1 e1 got.
      front_then (InBrackets IsExpression) (in_brackets expression) (sound_in_brackets IsExpression expression sound_expression) i1 _ _ _ got (λ xs es i2 e2 d got.
      good_node ms limit inner false false (depth_of ms x) (st.call_macro n.start (placed n x) es) r (word n x ∷ xs) i i2 rest got (e1 ∙ ap (λ z. word n x ∷ z) e2) (s.call_macro d) (omega arith) (stays_closed i2)))

  -- `( .. ) ..` behind a word
  bracketed : (p o c : Lexeme) (xs ys : List Lexeme) (i i1 i2 i3 i4 rest : List Lexeme) → i ≡ p ∷ i1 → i1 ≡ o ∷ i2 → i2 ≡ xs ++ i3 → i3 ≡ c ∷ i4 → i4 ≡ ys ++ rest → i ≡ (p ∷ (o ∷ (xs ++ (c ∷ ys)))) ++ rest
  bracketed p o c xs ys i i1 i2 i3 i4 rest e1 e2 e3 e4 e5 =
      e1 ∙ ap (λ z. p ∷ z) (e2 ∙ ap (λ z. o ∷ z) (e3 ∙ ap (λ z. xs ++ z) (e4 ∙ ap (λ z. c ∷ z) e5) ∙ sym (append_assoc xs (c ∷ ys) rest)))

  pub sound_while : SoundInner ms limit (while_form ms limit inner)
  unfolding while_form
  sound_while i r rest got =
      mark_then (symbol.Keyword keyword.While) i _ _ _ got (λ p i1 e1 got.
      expect_then (symbol.Open bracket.Round) i1 _ _ _ got (λ o i2 e2 got.
      front_then IsExpression expression sound_expression i2 _ _ _ got (λ xs e i3 e3 d got.
      expect_then (symbol.Close bracket.Round) i3 _ _ _ got (λ c i4 e4 got.
      inner_then ms below inner S i4 _ _ _ got (λ b i5 g got.
      good_node ms limit inner g.opens_if g.opens_either b.depth (st.while_do p.start e b.part) r _ i i5 rest got
      (bracketed (at p (symbol.Keyword keyword.While)) (at o (symbol.Open bracket.Round)) (at c (symbol.Close bracket.Round)) xs g.front i i1 i2 i3 i4 i5 e1 e2 e3 e4 g.split) (s.while_do c d g.spelled) (let x = g.depth in omega (arith, x)) g.stays)))))

  pub sound_with : SoundInner ms limit (with_form ms limit inner)
  unfolding with_form
  sound_with i r rest got =
      mark_then (symbol.Keyword keyword.With) i _ _ _ got (λ p i1 e1 got.
      expect_then (symbol.Open bracket.Round) i1 _ _ _ got (λ o i2 e2 got.
      front_then (Items IsWithName symbol.Comma) (items symbol.Comma with_name) (sound_items IsWithName symbol.Comma with_name sound_with_name) i2 _ _ _ got (λ xs ns i3 e3 d got.
      expect_then (symbol.Close bracket.Round) i3 _ _ _ got (λ c i4 e4 got.
      inner_then ms below inner S i4 _ _ _ got (λ b i5 g got.
      good_node ms limit inner g.opens_if g.opens_either b.depth (st.with_in p.start ns b.part) r _ i i5 rest got
      (bracketed (at p (symbol.Keyword keyword.With)) (at o (symbol.Open bracket.Round)) (at c (symbol.Close bracket.Round)) xs g.front i i1 i2 i3 i4 i5 e1 e2 e3 e4 g.split) (s.with_in c d g.spelled) (let x = g.depth in omega (arith, x)) g.stays)))))

  -- ---- `if`

  record GoodBranch (i : List Lexeme) (r : WithDepth (ℕ × (Tree × Statement))) (rest : List Lexeme) : Type 0 where
    opens_if : Bool
    opens_either : Bool
    front : List Lexeme
    split : i ≡ front ++ rest
    holds : IsBranch opens_if opens_either front r.part
    depth : r.depth ≡ depth ms r.part.1.1
    stays : Stays opens_if opens_either rest

  sound_branch : (i : List Lexeme) (r : WithDepth (ℕ × (Tree × Statement))) (rest : List Lexeme) → branch ms limit inner i ≡ Some (r, rest) → GoodBranch i r rest
  unfolding branch
  sound_branch i r rest got =
      mark_then (symbol.Keyword keyword.If) i _ _ _ got (λ p i1 e1 got.
      expect_then (symbol.Open bracket.Round) i1 _ _ _ got (λ o i2 e2 got.
      front_then IsExpression expression sound_expression i2 _ _ _ got (λ xs e i3 e3 d got.
      expect_then (symbol.Close bracket.Round) i3 _ _ _ got (λ c i4 e4 got.
      inner_then ms below inner S i4 _ _ _ got (λ b i5 g got.
      let q = some_pair _ _ _ _ got in
      let P : WithDepth (ℕ × (Tree × Statement)) → Type 0 = λ z. GoodBranch i z rest in
      let Q : List Lexeme → Type 0 = λ z. Stays g.opens_if g.opens_either z in
      subst P q.0 (record {
        opens_if = g.opens_if;
        opens_either = g.opens_either;
        front = at p (symbol.Keyword keyword.If) ∷ (at o (symbol.Open bracket.Round) ∷ (xs ++ (at c (symbol.Close bracket.Round) ∷ g.front)));
        split = bracketed (at p (symbol.Keyword keyword.If)) (at o (symbol.Open bracket.Round)) (at c (symbol.Close bracket.Round)) xs g.front i i1 i2 i3 i4 rest e1 e2 e3 e4 (g.split ∙ ap (λ z. g.front ++ z) q.1);
        holds = s.branch c d g.spelled;
        depth = g.depth;
        stays = subst Q q.1 g.stays;
      }))))))

  record GoodElseIfs (u v : Bool) (i : List Lexeme) (acc res : WithDepth (List (ℕ × (Tree × Statement)))) (rest : List Lexeme) : Type 0 where
    opens_if : Bool
    opens_either : Bool
    front : List Lexeme
    others : List (ℕ × (Tree × Statement))
    split : i ≡ front ++ rest
    holds : ElseIfs u v opens_if opens_either front others
    is : res.part ≡ acc.part ++ others
    depth : res.depth ≡ max acc.depth (guarded_depth ms (guarded others))
    stays : Stays opens_if opens_either rest

  else_ifs_end : (u v : Bool) (acc res : WithDepth (List (ℕ × (Tree × Statement)))) (i rest : List Lexeme) → Stays u v i → ◌≡◌ {A = Outcome (WithDepth (List (ℕ × (Tree × Statement))))} (Some (acc, i)) (Some (res, rest)) → GoodElseIfs u v i acc res rest
  else_ifs_end u v acc res i rest stays got =
      let q = some_pair _ _ _ _ got in
      let P : WithDepth (List (ℕ × (Tree × Statement))) → Type 0 = λ z. GoodElseIfs u v i acc z rest in
      let Q : List Lexeme → Type 0 = λ z. Stays u v z in
      subst P q.0 (record { opens_if = u; opens_either = v; front = []; others = []; split = q.1; holds = s.no_else_if; is = sym (append-nil acc.part); depth = omega arith; stays = subst Q q.1 stays })

  else_ifs_by : (b : Bool) (n : ℕ) (u v : Bool) (acc res : WithDepth (List (ℕ × (Tree × Statement)))) (i rest : List Lexeme) → sees_else_if i ≡ b → Stays u v i
      → ((w z : Bool) (next : WithDepth (List (ℕ × (Tree × Statement)))) (j : List Lexeme) → Stays w z j → folded sees_else_if (one_more_branch ms limit inner) n next j ≡ Some (res, rest) → GoodElseIfs w z j next res rest)
      → cond b (and_then (one_more_branch ms limit inner acc i) (folded sees_else_if (one_more_branch ms limit inner) n)) (Some (acc, i)) ≡ Some (res, rest) → GoodElseIfs u v i acc res rest
  unfolding one_more_branch
  else_ifs_by true n u v acc res i rest goes stays go got =
      bind_then (one_more_branch ms limit inner acc i) _ _ _ got (λ next j is got.
      expect_then (symbol.Keyword keyword.Else) i _ _ _ is (λ p i1 e1 is.
      bind_then (branch ms limit inner i1) _ _ _ is (λ b i2 hb is.
      let g = sound_branch i1 b i2 hb in
      let q = some_pair _ _ _ _ is in
      let Q : List Lexeme → Type 0 = λ z. Stays g.opens_if g.opens_either z in
      let m = go g.opens_if g.opens_either next j (subst Q q.1 g.stays) got in
      let closed = is_false u (sees (symbol.Keyword keyword.Else) i) stays.no_else (and_parts _ _ goes).0 in
      let P : Bool → Type 0 = λ z. ElseIfs z v m.opens_if m.opens_either (at p (symbol.Keyword keyword.Else) ∷ (g.front ++ m.front)) (b.part ∷ m.others) in
      record {
        opens_if = m.opens_if;
        opens_either = m.opens_either;
        front = at p (symbol.Keyword keyword.Else) ∷ (g.front ++ m.front);
        others = b.part ∷ m.others;
        split = e1 ∙ ap (λ z. at p (symbol.Keyword keyword.Else) ∷ z) (g.split ∙ ap (λ z. g.front ++ z) (q.1 ∙ m.split) ∙ sym (append_assoc g.front m.front rest));
        holds = subst P (sym closed) (s.else_if g.holds m.holds);
        is = m.is ∙ ap (λ (z : WithDepth (List (ℕ × (Tree × Statement)))). z.part ++ m.others) (sym q.0) ∙ append_assoc acc.part (b.part ∷ []) m.others;
        depth = let x = m.depth in let y = g.depth in let z : next.depth ≡ max acc.depth b.depth = ap (λ (z : WithDepth (List (ℕ × (Tree × Statement)))). z.depth) (sym q.0) in omega (arith, x, y, z);
        stays = m.stays;
      })))
  else_ifs_by false n u v acc res i rest goes stays go got = else_ifs_end u v acc res i rest stays got

  sound_else_ifs : (n : ℕ) (u v : Bool) (acc res : WithDepth (List (ℕ × (Tree × Statement)))) (i rest : List Lexeme) → Stays u v i → folded sees_else_if (one_more_branch ms limit inner) n acc i ≡ Some (res, rest) → GoodElseIfs u v i acc res rest
  unfolding folded
  sound_else_ifs zero u v acc res i rest stays got = else_ifs_end u v acc res i rest stays got
  sound_else_ifs (suc n) u v acc res i rest stays got = else_ifs_by (sees_else_if i) n u v acc res i rest refl stays (λ w z next j stays got. sound_else_ifs n w z next res j rest stays got) got

  branch_falls : (acc next : WithDepth (List (ℕ × (Tree × Statement)))) (i j : List Lexeme) → sees_else_if i ≡ true → one_more_branch ms limit inner acc i ≡ Some (next, j) → length j < length i
  unfolding one_more_branch
  branch_falls acc next i j goes is =
      expect_then (symbol.Keyword keyword.Else) i _ _ _ is (λ p i1 e1 is.
      bind_then (branch ms limit inner i1) _ _ _ is (λ b i2 hb is.
      let g = sound_branch i1 b i2 hb in
      let q = some_pair _ _ _ _ is in
      shorter i g.front j (at p (symbol.Keyword keyword.Else)) (e1 ∙ ap (λ z. at p (symbol.Keyword keyword.Else) ∷ z) (g.split ∙ ap (λ z. g.front ++ z) q.1))))

  pub sound_if : SoundInner ms limit (if_form ms limit inner)
  unfolding if_form last_else
  sound_if i r rest got =
      bind_then (branch ms limit inner i) _ _ _ got (λ first i1 hb got.
      let g = sound_branch i first i1 hb in
      bind_then (folded sees_else_if (one_more_branch ms limit inner) (length i1) (with_depth first.depth (first.part ∷ [])) i1) _ _ _ got (λ bs i2 hs got.
      let m = sound_else_ifs (length i1) g.opens_if g.opens_either (with_depth first.depth (first.part ∷ [])) bs i1 i2 g.stays hs in
      let over = folded_over sees_else_if (one_more_branch ms limit inner) refl branch_falls (length i1) _ bs i1 i2 (omega arith) hs in
      let high : bs.depth ≡ guarded_depth ms (guarded (first.part ∷ m.others)) = let x = m.depth in let y = g.depth in omega (arith, x, y) in
      let B : List (ℕ × (Tree × Statement)) → Type 0 = λ z. bs.depth ≡ guarded_depth ms (guarded z) in
      let whole : bs.depth ≡ guarded_depth ms (guarded bs.part) = subst B (sym m.is) high in
      eaten_then (symbol.Keyword keyword.Else) _ _ i2 _ _ got
      (λ l i3 e3 got.
      inner_then ms below inner S i3 _ _ _ got (λ b i4 h got.
      let next : sees (symbol.Keyword keyword.Else) i2 ≡ true = ap (sees (symbol.Keyword keyword.Else)) e3 in
      let closed = is_false m.opens_if (sees (symbol.Keyword keyword.Else) i2) m.stays.no_else next in
      let no_if : sees (symbol.Keyword keyword.If) i3 ≡ false = ap (λ z. sees (symbol.Keyword keyword.If) (skip z)) (sym e3) ∙ and_first _ _ over next in
      let P : Bool → Type 0 = λ z. ElseIfs g.opens_if g.opens_either z m.opens_either m.front m.others in
      let Q : List (ℕ × (Tree × Statement)) → Type 0 = λ z. Spelled h.opens_if h.opens_either (g.front ++ (m.front ++ (at l (symbol.Keyword keyword.Else) ∷ h.front))) (st.if_else first.part.0 (guarded z) b.part) in
      let no_if_front : sees (symbol.Keyword keyword.If) h.front ≡ false = sees_front (symbol.Keyword keyword.If) h.front i4 (ap (sees (symbol.Keyword keyword.If)) (sym h.split) ∙ no_if) in
      good_node ms limit inner h.opens_if h.opens_either (max bs.depth b.depth) (st.if_else first.part.0 (guarded bs.part) b.part) r (g.front ++ (m.front ++ (at l (symbol.Keyword keyword.Else) ∷ h.front))) i i4 rest got
      (g.split ∙ ap (λ z. g.front ++ z) (m.split ∙ ap (λ z. m.front ++ z) (e3 ∙ ap (λ z. at l (symbol.Keyword keyword.Else) ∷ z) h.split) ∙ sym (append_assoc m.front (at l (symbol.Keyword keyword.Else) ∷ h.front) i4)) ∙ sym (append_assoc g.front (m.front ++ (at l (symbol.Keyword keyword.Else) ∷ h.front)) i4))
      (subst Q (sym m.is) (s.if_else l g.holds (subst P closed m.holds) no_if_front h.spelled))
      (let x = h.depth in omega (arith, whole, x)) h.stays))
      (λ none got.
      let Q : List (ℕ × (Tree × Statement)) → Type 0 = λ z. Spelled true m.opens_either (g.front ++ m.front) (st.if_then first.part.0 (guarded z)) in
      good_node ms limit inner true m.opens_either bs.depth (st.if_then first.part.0 (guarded bs.part)) r (g.front ++ m.front) i i2 rest got
      (g.split ∙ ap (λ z. g.front ++ z) m.split ∙ sym (append_assoc g.front m.front i2))
      (subst Q (sym m.is) (s.if_then g.holds m.holds))
      (omega (arith, whole)) (record { no_else = λ h. none; no_or = m.stays.no_or }))))

  -- ---- `either`

  record GoodOrs (u v : Bool) (i : List Lexeme) (acc res : WithDepth (List Statement)) (rest : List Lexeme) : Type 0 where
    opens_if : Bool
    opens_either : Bool
    front : List Lexeme
    others : List Statement
    split : i ≡ front ++ rest
    holds : Ors u v opens_if opens_either front others
    is : res.part ≡ acc.part ++ others
    depth : res.depth ≡ max acc.depth (statements_depth ms (statements others))
    stays : Stays opens_if opens_either rest

  ors_end : (u v : Bool) (acc res : WithDepth (List Statement)) (i rest : List Lexeme) → Stays u v i → ◌≡◌ {A = Outcome (WithDepth (List Statement))} (Some (acc, i)) (Some (res, rest)) → GoodOrs u v i acc res rest
  ors_end u v acc res i rest stays got =
      let q = some_pair _ _ _ _ got in
      let P : WithDepth (List Statement) → Type 0 = λ z. GoodOrs u v i acc z rest in
      let Q : List Lexeme → Type 0 = λ z. Stays u v z in
      subst P q.0 (record { opens_if = u; opens_either = v; front = []; others = []; split = q.1; holds = s.no_or; is = sym (append-nil acc.part); depth = omega arith; stays = subst Q q.1 stays })

  record NextOr (v : Bool) (i : List Lexeme) (acc next : WithDepth (List Statement)) (j : List Lexeme) : Type 0 where
    spot : Spot
    opens_if : Bool
    opens_either : Bool
    front : List Lexeme
    part : Statement
    split : i ≡ at spot (symbol.Keyword keyword.Or) ∷ (front ++ j)
    closed : v ≡ false
    spelled : Spelled opens_if opens_either front part
    is : next.part ≡ acc.part ++ part ∷ []
    depth : next.depth ≡ max acc.depth (depth ms part)
    stays : Stays opens_if opens_either j

  sound_one_or : (u v : Bool) (acc next : WithDepth (List Statement)) (i j : List Lexeme) → Stays u v i → one_more_or ms limit inner acc i ≡ Some (next, j) → NextOr v i acc next j
  unfolding one_more_or
  sound_one_or u v acc next i j stays is =
      expect_then (symbol.Keyword keyword.Or) i _ _ _ is (λ p i1 e1 is.
      inner_then ms below inner S i1 _ _ _ is (λ b i2 g is.
      let q = some_pair _ _ _ _ is in
      let Q : List Lexeme → Type 0 = λ z. Stays g.opens_if g.opens_either z in
      record {
        spot = p;
        opens_if = g.opens_if;
        opens_either = g.opens_either;
        front = g.front;
        part = b.part;
        split = e1 ∙ ap (λ z. at p (symbol.Keyword keyword.Or) ∷ z) (g.split ∙ ap (λ z. g.front ++ z) q.1);
        closed = is_false v (sees (symbol.Keyword keyword.Or) i) stays.no_or (ap (sees (symbol.Keyword keyword.Or)) e1);
        spelled = g.spelled;
        is = ap (λ (z : WithDepth (List Statement)). z.part) (sym q.0);
        depth = ap (λ (z : WithDepth (List Statement)). z.depth) (sym q.0) ∙ ap (λ z. max acc.depth z) g.depth;
        stays = subst Q q.1 g.stays;
      }))

  ors_by : (b : Bool) (n : ℕ) (u v : Bool) (acc res : WithDepth (List Statement)) (i rest : List Lexeme) → Stays u v i
      → ((w z : Bool) (next : WithDepth (List Statement)) (j : List Lexeme) → Stays w z j → folded (sees (symbol.Keyword keyword.Or)) (one_more_or ms limit inner) n next j ≡ Some (res, rest) → GoodOrs w z j next res rest)
      → cond b (and_then (one_more_or ms limit inner acc i) (folded (sees (symbol.Keyword keyword.Or)) (one_more_or ms limit inner) n)) (Some (acc, i)) ≡ Some (res, rest) → GoodOrs u v i acc res rest
  ors_by true n u v acc res i rest stays go got =
      bind_then (one_more_or ms limit inner acc i) _ _ _ got (λ next j is got.
      let g = sound_one_or u v acc next i j stays is in
      let m = go g.opens_if g.opens_either next j g.stays got in
      let P : Bool → Type 0 = λ z. Ors u z m.opens_if m.opens_either (at g.spot (symbol.Keyword keyword.Or) ∷ (g.front ++ m.front)) (g.part ∷ m.others) in
      record {
        opens_if = m.opens_if;
        opens_either = m.opens_either;
        front = at g.spot (symbol.Keyword keyword.Or) ∷ (g.front ++ m.front);
        others = g.part ∷ m.others;
        split = g.split ∙ ap (λ z. at g.spot (symbol.Keyword keyword.Or) ∷ z) (ap (λ z. g.front ++ z) m.split ∙ sym (append_assoc g.front m.front rest));
        holds = subst P (sym g.closed) (s.or_this g.spelled m.holds);
        is = m.is ∙ ap (λ z. z ++ m.others) g.is ∙ append_assoc acc.part (g.part ∷ []) m.others;
        depth = let x = m.depth in let y = g.depth in omega (arith, x, y);
        stays = m.stays;
      })
  ors_by false n u v acc res i rest stays go got = ors_end u v acc res i rest stays got

  sound_ors : (n : ℕ) (u v : Bool) (acc res : WithDepth (List Statement)) (i rest : List Lexeme) → Stays u v i → folded (sees (symbol.Keyword keyword.Or)) (one_more_or ms limit inner) n acc i ≡ Some (res, rest) → GoodOrs u v i acc res rest
  unfolding folded
  sound_ors zero u v acc res i rest stays got = ors_end u v acc res i rest stays got
  sound_ors (suc n) u v acc res i rest stays got = ors_by (sees (symbol.Keyword keyword.Or) i) n u v acc res i rest stays (λ w z next j stays got. sound_ors n w z next res j rest stays got) got

  or_falls : (acc next : WithDepth (List Statement)) (i j : List Lexeme) → sees (symbol.Keyword keyword.Or) i ≡ true → one_more_or ms limit inner acc i ≡ Some (next, j) → length j < length i
  or_falls acc next i j goes is =
      let g = sound_one_or false false acc next i j (stays_closed i) is in
      shorter i g.front j (at g.spot (symbol.Keyword keyword.Or)) g.split

  pub sound_either : SoundInner ms limit (either_form ms limit inner)
  unfolding either_form
  sound_either i r rest got =
      mark_then (symbol.Keyword keyword.Either) i _ _ _ got (λ p i1 e1 got.
      inner_then ms below inner S i1 _ _ _ got (λ a i2 g got.
      bind_then (one_more_or ms limit inner (with_depth a.depth (a.part ∷ [])) i2) _ _ _ got (λ two i3 h2 got.
      let t = sound_one_or g.opens_if g.opens_either (with_depth a.depth (a.part ∷ [])) two i2 i3 g.stays h2 in
      bind_then (folded (sees (symbol.Keyword keyword.Or)) (one_more_or ms limit inner) (length i3) two i3) _ _ _ got (λ all i4 h3 got.
      let m = sound_ors (length i3) t.opens_if t.opens_either two all i3 i4 t.stays h3 in
      let over = folded_over (sees (symbol.Keyword keyword.Or)) (one_more_or ms limit inner) refl or_falls (length i3) two all i3 i4 (omega arith) h3 in
      let is : all.part ≡ a.part ∷ (t.part ∷ m.others) = m.is ∙ ap (λ z. z ++ m.others) t.is in
      let P : Bool → Type 0 = λ z. Spelled g.opens_if z g.front a.part in
      let Q : List Statement → Type 0 = λ z. Spelled m.opens_if true (at p (symbol.Keyword keyword.Either) ∷ (g.front ++ (at t.spot (symbol.Keyword keyword.Or) ∷ (t.front ++ m.front)))) (st.either_of p.start (statements z)) in
      let H : List Statement → Type 0 = λ z. all.depth + 1 ≡ suc (statements_depth ms (statements z)) in
      good_node ms limit inner m.opens_if true all.depth (st.either_of p.start (statements all.part)) r (at p (symbol.Keyword keyword.Either) ∷ (g.front ++ (at t.spot (symbol.Keyword keyword.Or) ∷ (t.front ++ m.front)))) i i4 rest got
      (e1 ∙ ap (λ z. at p (symbol.Keyword keyword.Either) ∷ z) (g.split ∙ ap (λ z. g.front ++ z) (t.split ∙ ap (λ z. at t.spot (symbol.Keyword keyword.Or) ∷ z) (ap (λ z. t.front ++ z) m.split ∙ sym (append_assoc t.front m.front i4))) ∙ sym (append_assoc g.front (at t.spot (symbol.Keyword keyword.Or) ∷ (t.front ++ m.front)) i4)))
      (subst Q (sym is) (s.either_of t.spot (subst P t.closed g.spelled) t.spelled m.holds))
      (subst H (sym is) (let x = m.depth in let y = t.depth in let z = g.depth in omega (arith, x, y, z)))
      (record { no_else = m.stays.no_else; no_or = λ h. over })))))

  -- ---- the statement

  sound_keyword : (k : Keyword) → SoundInner ms limit (keyword_form ms limit inner k)
  sound_keyword keyword.Skip = sound_skip
  sound_keyword keyword.If = sound_if
  sound_keyword keyword.While = sound_while
  sound_keyword keyword.Either = sound_either
  sound_keyword keyword.With = sound_with
  sound_keyword keyword.Goto = sound_goto
  sound_keyword keyword.Await = sound_one keyword.Await (λ p xs e d. s.await_that s.await d) (λ p e. omega arith)
  sound_keyword keyword.When = sound_one keyword.When (λ p xs e d. s.await_that s.when d) (λ p e. omega arith)
  sound_keyword keyword.Print = sound_one keyword.Print (λ p xs e d. s.print_out d) (λ p e. omega arith)
  sound_keyword keyword.Assert = sound_one keyword.Assert (λ p xs e d. s.assert_that d) (λ p e. omega arith)
  sound_keyword keyword.Yield = sound_one keyword.Yield (λ p xs e d. s.yield_as d) (λ p e. omega arith)
  sound_keyword _ = λ i r rest got. cc

  sound_forms : (l : StatementForm) → SoundInner ms limit (form ms limit inner l)
  sound_forms statement_form.Assign = sound_assign
  sound_forms statement_form.Call = sound_call
  sound_forms statement_form.Block = sound_block ms limit below inner S
  sound_forms (statement_form.Keyword k) = sound_keyword k
  sound_forms statement_form.None = λ i r rest got. cc

  pub sound_form : SoundInner ms limit (any_form ms limit inner)
  unfolding any_form
  sound_form i r rest got = sound_forms (form_of i) i r rest got

pub sound_statement : (ms : List MacroDepth) (limit : ℕ) → SoundInner ms limit (statement ms limit)
unfolding statement
sound_statement ms zero i r rest got = cc
sound_statement ms (suc n) i r rest got = sound_form ms (suc n) n (statement ms n) (sound_statement ms n) i r rest got

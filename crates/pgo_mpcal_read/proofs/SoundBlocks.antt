-- What is read of a block is spelled so.
use Rattle.std.proofs.Common.{◌≡◌, ℕ, zero, suc, ◌≤◌, max, Bool, true, false, not, List, [], ◌∷◌, ◌++◌, length, Option, Some, None, refl, ap, sym, ◌∙◌, subst, arith, cond}
use Rattle.std.proofs.lemmas.List.{append_assoc, append-nil}
use Rattle.pgo_lexer.specs.declared.token.Lexeme.{Lexeme}
use Rattle.pgo_syntax.specs.declared.name.PlacedName.{PlacedName}
use Rattle.pgo_syntax.specs.Statement.{Statement, labeled}
use Rattle.pgo_syntax.specs.Statement as st
use Rattle.pgo_mpcal_read.specs.declared.with_depth.WithDepth.{WithDepth}
use Rattle.pgo_mpcal_read.specs.declared.depths.MacroDepth.{MacroDepth}
use Rattle.pgo_lexer.specs.declared.symbol.Bracket.TheVariants as bracket
use Rattle.pgo_lexer.specs.declared.symbol.Symbol.TheVariants as symbol
use Rattle.pgo_mpcal_read.specs.Depths.{depth, labeled_depth}
use Rattle.pgo_mpcal_read.specs.Signs.{sees}
use Rattle.pgo_mpcal_read.specs.Elements.{Spot, at, Ended}
use Rattle.pgo_mpcal_read.specs.Statements.{IsLabeled, Rows, IsBody}
use Rattle.pgo_mpcal_read.specs.Statements as s
use Rattle.pgo_expr_read.specs.Steps.{and_then, folded}
use Rattle.pgo_mpcal_read.specs.Reading.{Outcome, Parser, ended}
use Rattle.pgo_mpcal_read.specs.ReadingStatements.{with_depth, optional_label, labeled_statement, row_ended, row_to, one_more_row, goes_on, rows, block_form, body}
use Rattle.pgo_expr_read.proofs.Steps.{some_pair, bind_then}
use Rattle.pgo_mpcal_read.proofs.Parts.{front_then, expect_then, mark_then, seen}
use Rattle.pgo_mpcal_read.proofs.Labels.{IsLabel, with_label, sound_label}
use Rattle.pgo_mpcal_read.proofs.Good.{stays_closed, SoundInner, inner_then, good_node, sound_ended}

-- what stands behind a row: the `}` of the block follows, or the row has its end
data RowEnd (front j : List Lexeme) : List Lexeme → Type 0 where
  closing : sees (symbol.Close bracket.Curly) j ≡ true → RowEnd front j []
  ending : {zs : List Lexeme} → Ended front zs → RowEnd front j zs

module _ (ms : List MacroDepth) (limit below : ℕ) (inner : Parser (WithDepth Statement)) (S : SoundInner ms below inner) where
  record GoodLabeled (i : List Lexeme) (r : WithDepth (Option PlacedName × Statement)) (rest : List Lexeme) : Type 0 where
    opens_if : Bool
    opens_either : Bool
    front : List Lexeme
    split : i ≡ front ++ rest
    holds : IsLabeled opens_if opens_either front r.part
    depth : r.depth ≡ depth ms r.part.1
    within : r.depth ≤ below

  sound_labeled : (i : List Lexeme) (r : WithDepth (Option PlacedName × Statement)) (rest : List Lexeme) → labeled_statement ms limit inner i ≡ Some (r, rest) → GoodLabeled i r rest
  unfolding labeled_statement
  sound_labeled i r rest got =
      front_then IsLabel optional_label sound_label i _ _ _ got (λ xs l i1 e1 d got.
      inner_then ms below inner S i1 _ _ _ got (λ b i2 g got.
      let q = some_pair _ _ _ _ got in
      let P : WithDepth (Option PlacedName × Statement) → Type 0 = λ z. GoodLabeled i z rest in
      subst P q.0 (record {
        opens_if = g.opens_if;
        opens_either = g.opens_either;
        front = xs ++ g.front;
        split = e1 ∙ ap (λ z. xs ++ z) (g.split ∙ ap (λ z. g.front ++ z) q.1) ∙ sym (append_assoc xs g.front rest);
        holds = with_label d g.spelled;
        depth = g.depth;
        within = g.within;
      })))

  record GoodRows (i : List Lexeme) (acc res : WithDepth (List (Option PlacedName × Statement))) (rest : List Lexeme) : Type 0 where
    front : List Lexeme
    others : List (Option PlacedName × Statement)
    split : i ≡ front ++ rest
    holds : Rows front others
    is : res.part ≡ acc.part ++ others
    depth : res.depth ≡ max acc.depth (labeled_depth ms (labeled others))
    within : res.depth ≤ max acc.depth below

  rows_end : (acc res : WithDepth (List (Option PlacedName × Statement))) (i rest : List Lexeme) → ◌≡◌ {A = Outcome (WithDepth (List (Option PlacedName × Statement)))} (Some (acc, i)) (Some (res, rest)) → GoodRows i acc res rest
  rows_end acc res i rest got =
      let q = some_pair _ _ _ _ got in
      let P : WithDepth (List (Option PlacedName × Statement)) → Type 0 = λ z. GoodRows i acc z rest in
      subst P q.0 (record { front = []; others = []; split = q.1; holds = s.no_row; is = sym (append-nil acc.part); depth = omega arith; within = omega arith })

  -- a row with what ends it
  record NextRow (i : List Lexeme) (acc next : WithDepth (List (Option PlacedName × Statement))) (j : List Lexeme) : Type 0 where
    opens_if : Bool
    opens_either : Bool
    front : List Lexeme
    behind : List Lexeme
    part : Option PlacedName × Statement
    split : i ≡ front ++ (behind ++ j)
    holds : IsLabeled opens_if opens_either front part
    ends : RowEnd front j behind
    is : next.part ≡ acc.part ++ part ∷ []
    within : depth ms part.1 ≤ below
    depth : next.depth ≡ max acc.depth (depth ms part.1)

  row_by : (b : Bool) (i rest j : List Lexeme) (acc next : WithDepth (List (Option PlacedName × Statement))) (r : WithDepth (Option PlacedName × Statement)) → GoodLabeled i r rest → sees (symbol.Close bracket.Curly) rest ≡ b → (o : Option (List Lexeme)) → cond b (Some rest) (ended i rest) ≡ o
      → row_to acc r o ≡ Some (next, j) → NextRow i acc next j
  row_by true i rest j acc next r g seen (Some k) is got =
      let q = some_pair _ _ _ _ got in
      let first : rest ≡ k = cc in
      let same : rest ≡ j = first ∙ q.1 in
      record {
        opens_if = g.opens_if;
        opens_either = g.opens_either;
        front = g.front;
        behind = [];
        part = r.part;
        split = g.split ∙ ap (λ z. g.front ++ z) same;
        holds = g.holds;
        ends = closing (ap (sees (symbol.Close bracket.Curly)) (sym same) ∙ seen);
        is = ap (λ (z : WithDepth (List (Option PlacedName × Statement))). z.part) (sym q.0);
        depth = ap (λ (z : WithDepth (List (Option PlacedName × Statement))). z.depth) (sym q.0) ∙ ap (λ z. max acc.depth z) g.depth;
        within = let x = g.depth in let y = g.within in omega (arith, x, y);
      }
  row_by false i rest j acc next r g seen (Some k) is got =
      let q = some_pair _ _ _ _ got in
      let z = sound_ended i g.front rest k g.split is in
      record {
        opens_if = g.opens_if;
        opens_either = g.opens_either;
        front = g.front;
        behind = z.front;
        part = r.part;
        split = g.split ∙ ap (λ x. g.front ++ x) (z.split ∙ ap (λ x. z.front ++ x) q.1);
        holds = g.holds;
        ends = ending z.holds;
        is = ap (λ (z : WithDepth (List (Option PlacedName × Statement))). z.part) (sym q.0);
        depth = ap (λ (z : WithDepth (List (Option PlacedName × Statement))). z.depth) (sym q.0) ∙ ap (λ z. max acc.depth z) g.depth;
        within = let x = g.depth in let y = g.within in omega (arith, x, y);
      }
  row_by b i rest j acc next r g seen None is got = cc

  sound_one_row : (acc next : WithDepth (List (Option PlacedName × Statement))) (i j : List Lexeme) → one_more_row ms limit inner acc i ≡ Some (next, j) → NextRow i acc next j
  unfolding one_more_row row_ended
  sound_one_row acc next i j got =
      bind_then (labeled_statement ms limit inner i) _ _ _ got (λ r rest hr got.
      row_by (sees (symbol.Close bracket.Curly) rest) i rest j acc next r (sound_labeled i r rest hr) refl (cond (sees (symbol.Close bracket.Curly) rest) (Some rest) (ended i rest)) refl got)

  stops_at : (n : ℕ) (acc res : WithDepth (List (Option PlacedName × Statement))) (i rest : List Lexeme) → sees (symbol.Close bracket.Curly) i ≡ true → folded goes_on (one_more_row ms limit inner) n acc i ≡ Some (res, rest) → (acc ≡ res) × (i ≡ rest)
  unfolding folded
  stops_at zero acc res i rest seen got = some_pair _ _ _ _ got
  stops_at (suc n) acc res i rest seen got = some_pair _ _ _ _ (ap (λ z. cond (not z) (and_then (one_more_row ms limit inner acc i) (folded goes_on (one_more_row ms limit inner) n)) (Some (acc, i))) (sym seen) ∙ got)

  last_of : (n : ℕ) (acc next res : WithDepth (List (Option PlacedName × Statement))) (i j rest : List Lexeme) (g : NextRow i acc next j) (zs : List Lexeme) → g.behind ≡ zs → RowEnd g.front j zs
      → folded goes_on (one_more_row ms limit inner) n next j ≡ Some (res, rest) → ((k : folded goes_on (one_more_row ms limit inner) n next j ≡ Some (res, rest)) → GoodRows j next res rest) → GoodRows i acc res rest
  last_of n acc next res i j rest g [] e (closing seen) got go =
      let q = stops_at n next res j rest seen got in
      let P : WithDepth (List (Option PlacedName × Statement)) → Type 0 = λ z. GoodRows i acc z rest in
      subst P q.0 (record {
        front = g.front;
        others = g.part ∷ [];
        split = g.split ∙ ap (λ z. g.front ++ (z ++ j)) e ∙ ap (λ z. g.front ++ z) q.1;
        holds = s.last_row g.holds;
        is = g.is;
        depth = let x = g.depth in omega (arith, x);
        within = let x = g.depth in let y = g.within in omega (arith, x, y);
      })
  last_of n acc next res i j rest g zs e (ending ends) got go =
      let m = go got in
      record {
        front = g.front ++ (zs ++ m.front);
        others = g.part ∷ m.others;
        split = g.split ∙ ap (λ z. g.front ++ (z ++ j)) e ∙ ap (λ z. g.front ++ (zs ++ z)) m.split ∙ ap (λ z. g.front ++ z) (sym (append_assoc zs m.front rest)) ∙ sym (append_assoc g.front (zs ++ m.front) rest);
        holds = s.row g.holds ends m.holds;
        is = m.is ∙ ap (λ z. z ++ m.others) g.is ∙ append_assoc acc.part (g.part ∷ []) m.others;
        depth = let x = m.depth in let y = g.depth in omega (arith, x, y);
        within = let x = m.within in let y = g.depth in let z = g.within in omega (arith, x, y, z);
      }

  rows_by : (b : Bool) (n : ℕ) (acc res : WithDepth (List (Option PlacedName × Statement))) (i rest : List Lexeme)
      → ((next : WithDepth (List (Option PlacedName × Statement))) (j : List Lexeme) → folded goes_on (one_more_row ms limit inner) n next j ≡ Some (res, rest) → GoodRows j next res rest)
      → cond b (and_then (one_more_row ms limit inner acc i) (folded goes_on (one_more_row ms limit inner) n)) (Some (acc, i)) ≡ Some (res, rest) → GoodRows i acc res rest
  rows_by true n acc res i rest go got =
      bind_then (one_more_row ms limit inner acc i) _ _ _ got (λ next j is got.
      let g = sound_one_row acc next i j is in
      last_of n acc next res i j rest g g.behind refl g.ends got (λ k. go next j k))
  rows_by false n acc res i rest go got = rows_end acc res i rest got

  sound_more_rows : (n : ℕ) (acc res : WithDepth (List (Option PlacedName × Statement))) (i rest : List Lexeme) → folded goes_on (one_more_row ms limit inner) n acc i ≡ Some (res, rest) → GoodRows i acc res rest
  unfolding folded
  sound_more_rows zero acc res i rest got = rows_end acc res i rest got
  sound_more_rows (suc n) acc res i rest got = rows_by (goes_on i) n acc res i rest (λ next j got. sound_more_rows n next res j rest got) got

  record GoodBlock (i : List Lexeme) (r : WithDepth (List (Option PlacedName × Statement))) (rest : List Lexeme) : Type 0 where
    last : Spot
    front : List Lexeme
    split : i ≡ front ++ (at last (symbol.Close bracket.Curly) ∷ rest)
    holds : Rows front r.part
    depth : r.depth ≡ labeled_depth ms (labeled r.part)
    within : r.depth ≤ below

  sound_rows : (i : List Lexeme) (r : WithDepth (List (Option PlacedName × Statement))) (rest : List Lexeme) → rows ms limit inner i ≡ Some (r, rest) → GoodBlock i r rest
  unfolding rows
  sound_rows i r rest got =
      bind_then (folded goes_on (one_more_row ms limit inner) (length i) (with_depth 0 []) i) _ _ _ got (λ all i1 h1 got.
      let g = sound_more_rows (length i) (with_depth 0 []) all i i1 h1 in
      expect_then (symbol.Close bracket.Curly) i1 _ _ _ got (λ c i2 e2 got.
      let q = some_pair _ _ _ _ got in
      let P : WithDepth (List (Option PlacedName × Statement)) → Type 0 = λ z. GoodBlock i z rest in
      let R : List (Option PlacedName × Statement) → Type 0 = λ z. Rows g.front z in
      let H : List (Option PlacedName × Statement) → Type 0 = λ z. all.depth ≡ labeled_depth ms (labeled z) in
      subst P q.0 (record {
        last = c;
        front = g.front;
        split = g.split ∙ ap (λ z. g.front ++ z) (e2 ∙ ap (λ z. at c (symbol.Close bracket.Curly) ∷ z) q.1);
        holds = subst R (sym g.is) g.holds;
        depth = subst H (sym g.is) (let x = g.depth in omega (arith, x));
        within = let x = g.within in omega (arith, x);
      })))

  braces : (o c : Lexeme) (xs i i1 rest : List Lexeme) → i ≡ o ∷ i1 → i1 ≡ xs ++ (c ∷ rest) → i ≡ (o ∷ (xs ++ (c ∷ []))) ++ rest
  braces o c xs i i1 rest e1 e2 = e1 ∙ ap (λ z. o ∷ z) (e2 ∙ sym (append_assoc xs (c ∷ []) rest))

  pub sound_block : SoundInner ms limit (block_form ms limit inner)
  unfolding block_form
  sound_block i r rest got =
      mark_then (symbol.Open bracket.Curly) i _ _ _ got (λ o i1 e1 got.
      bind_then (rows ms limit inner i1) _ _ _ got (λ all i2 h2 got.
      let g = sound_rows i1 all i2 h2 in
      good_node ms limit inner false false all.depth (st.block o.start (labeled all.part)) r _ i i2 rest got
      (braces (at o (symbol.Open bracket.Curly)) (at g.last (symbol.Close bracket.Curly)) g.front i i1 i2 e1 g.split) (s.block g.last g.holds) (let x = g.depth in omega (arith, x)) (stays_closed i2)))

  pub record GoodBody (i : List Lexeme) (r : WithDepth (List (Option PlacedName × Statement))) (rest : List Lexeme) : Type 0 where
    pub front : List Lexeme
    pub split : i ≡ front ++ rest
    pub holds : IsBody front r.part
    pub depth : r.depth ≡ labeled_depth ms (labeled r.part)
    pub within : r.depth ≤ below

  pub sound_body : (i : List Lexeme) (r : WithDepth (List (Option PlacedName × Statement))) (rest : List Lexeme) → body ms limit inner i ≡ Some (r, rest) → GoodBody i r rest
  unfolding body
  sound_body i r rest got =
      expect_then (symbol.Open bracket.Curly) i _ _ _ got (λ o i1 e1 got.
      let g = sound_rows i1 r rest got in
      record {
        front = at o (symbol.Open bracket.Curly) ∷ (g.front ++ (at g.last (symbol.Close bracket.Curly) ∷ []));
        split = braces (at o (symbol.Open bracket.Curly)) (at g.last (symbol.Close bracket.Curly)) g.front i i1 rest e1 g.split;
        holds = s.body g.last g.holds;
        depth = g.depth;
        within = g.within;
      })

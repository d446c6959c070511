-- The lines of bullets: each item is right of its bullet, and all bullets are in column 2.
use Rattle.std.proofs.Common.{◌≡◌, ◌≤◌, ◌+◌, ◌⊎◌, inl, inr, ℕ, Bool, true, false, List, [], ◌∷◌, ◌++◌, map, length, refl, ap, sym, ◌∙◌, subst, arith}
use Rattle.std.specs.Prelude.{codes}
use Rattle.std.proofs.lemmas.List.{append_assoc, append-nil, length-append}
use Rattle.pgo_base.specs.declared.expr.Infix.TheVariants as op
use Rattle.pgo_base.specs.Tree.{Tree, binary}
use Rattle.pgo_model.specs.ExprText.{expr_text}
use Rattle.pgo_model.specs.ModuleText.{flatten, bullet, conjuncts}
use Rattle.pgo_lexer.specs.declared.token.Token.TheVariants as t
use Rattle.pgo_lexer.specs.declared.token.Lexeme.{Lexeme}
use Rattle.pgo_lexer.specs.declared.symbol.Symbol.TheVariants as symbol
use Rattle.pgo_lexer.specs.declared.symbol.Junction.TheVariants as j
use Rattle.pgo_lexer.specs.declared.kind.Kind.TheVariants as kind
use Rattle.pgo_lexer.specs.Kinds.{kind_of}
use Rattle.pgo_lexer.specs.Lexemes as l
use Rattle.pgo_expr_read.specs.Lookahead.{has_mapped}
use Rattle.pgo_expr_read.specs.Spells.{Spelled}
use Rattle.pgo_spec_text.specs.SpecText.{Cut, Anything, lexeme}
use Rattle.pgo_spec_text.specs.SpecText as c
use Rattle.pgo_expr_write.specs.WellFormed.{IsWellFormed, is_member_of_word}
use Rattle.pgo_expr_write.proofs.Lexed.{SignsEnd, Lexed, end, plain, is_defines}
use Rattle.pgo_expr_write.proofs.Inners.{Outer, outer_said, regroup}
use Rattle.pgo_expr_write.proofs.Canonical.{outer}
use Rattle.pgo_module_write.proofs.FlatTokens.{from_less, marked_alone}
use Rattle.pgo_module_write.proofs.Spaces.{Between, none, other, between_wider, between_both}
use Rattle.pgo_module_write.proofs.Cuts.{column_of, column_after, one_further, bullet_further, line_begins, cut_both}
use Rattle.pgo_module_write.proofs.Placed.{laid}
use Rattle.pgo_module_write.proofs.Blocks.{newline_behind}
use Rattle.pgo_module_write.proofs.Bullets.{IsItem, Rows, no_rows, row}

abbrev pub AreFormed : List Tree → Type 0
AreFormed [] = Unit {0}
AreFormed (a ∷ as') = IsWellFormed a × AreFormed as'

right_formed : (b : Tree) → (is_member_of_word op.And b ≡ true) ⊎ IsWellFormed b → IsWellFormed b
right_formed b (inl e) = absurd (let z = e in cc)
right_formed b (inr h) = h

-- the items of what is well formed are
pub conjuncts_formed : (a : Tree) (rest : List Tree) → IsWellFormed a → AreFormed rest → AreFormed (conjuncts a rest)
conjuncts_formed (binary op.And a b) rest h hs = conjuncts_formed a (b ∷ rest) h.0 (right_formed b h.1, hs)
conjuncts_formed _ rest h hs = (h, hs)

-- the text of an expression alone
pub expr_lexed : (a : Tree) (o : Outer a) (p : Bool) → Lexed [] p (expr_text true a) o.tokens
expr_lexed a o p = regroup _ _ _ _ (append-nil (expr_text true a)) (append-nil o.tokens) (outer_said a o [] p [] [] tt end)

-- ---- one bullet

record BulletLine (before more : List ℕ) (a : Tree) : Type 0 where
  first : Lexeme
  item : List Lexeme
  kind_is : kind_of first.token ≡ kind.Junction j.And
  column : first.column ≡ 2
  is : IsItem 2 item a
  cut : Cut Anything before (bullet a) more (first ∷ item)
  between : Between is_defines (length before) (first ∷ item) (length before + length (bullet a))

bullet_line : SignsEnd → (before more : List ℕ) (a : Tree) → IsWellFormed a → column_of before ≡ 0 → BulletLine before more a
bullet_line ends before more a formed h =
    let o = outer a formed in
    let text = expr_text true a in
    let one = before ++ (32 ∷ []) in
    let two = one ++ (32 ∷ []) in
    let sign = two ++ (47 ∷ 92 ∷ []) in
    let behind = sign ++ (32 ∷ []) in
    let at_one : column_of one ≡ 1 = one_further before 32 0 1 h refl refl refl in
    let at_two : column_of two ≡ 2 = one_further one 32 1 2 at_one refl refl refl in
    let right : 3 ≤ column_of behind = omega (arith, bullet_further two at_two, column_after sign (32 ∷ []) refl) in
    let d = expr_lexed a o false in
    let q = laid ends 10 (inr refl) more d behind in
    record {
      first = lexeme (t.Symbol (symbol.Infix op.And)) two (47 ∷ 92 ∷ []);
      item = q.lexemes;
      kind_is = refl;
      column = at_two;
      is = record {
        form = o.outermost;
        ending = o.last;
        behind = q.behind;
        marked = marked_alone 3 q.flat (from_less 3 (column_of behind) q.lexemes right q.from);
        spelled = subst (λ ts. Spelled o.outermost o.last ts a) (sym q.same) o.spelled;
        plain = ap has_mapped q.same ∙ plain d;
      };
      cut = c.pass (32 ∷ []) (l.blank refl) tt
          (c.pass (32 ∷ []) (l.blank refl) tt
          (c.token (47 ∷ 92 ∷ []) (ends (47 ∷ 92 ∷ []) ((text ++ 10 ∷ []) ++ more) 32 (symbol.Infix op.And) refl refl refl refl refl)
          (c.pass (32 ∷ []) (l.blank refl) tt (newline_behind behind text more q.cut))));
      between = other refl (omega (arith, length-append before (32 ∷ []), length-append one (32 ∷ []))) (omega arith)
          (between_wider (length two + 2) (length before + length (bullet a)) (omega (arith, length-append two (47 ∷ 92 ∷ []), length-append sign (32 ∷ [])))
          (omega (arith, length-append before (32 ∷ []), length-append one (32 ∷ []), length-append two (47 ∷ 92 ∷ []), length-append sign (32 ∷ []), length-append text (10 ∷ []))) q.between);
    }

-- ---- all bullets

pub record BulletRows (before more : List ℕ) (as' : List Tree) : Type 0 where
  pub unmarked : List Lexeme
  pub marked : List Lexeme
  pub rows : Rows 2 unmarked marked as'
  pub cut : Cut Anything before (flatten (map bullet as')) more unmarked
  pub between : Between is_defines (length before) unmarked (length before + length (flatten (map bullet as')))

pub bullet_behind : (before : List ℕ) (a : Tree) → column_of (before ++ bullet a) ≡ 0
bullet_behind before a =
    let text = codes "  /\\ " ++ expr_text true a in
    ap column_of (sym (append_assoc before text (10 ∷ []))) ∙ line_begins (before ++ text)

pub bullet_rows : SignsEnd → (as' : List Tree) → AreFormed as' → (before more : List ℕ) → column_of before ≡ 0 → BulletRows before more as'
bullet_rows ends [] hs before more h = record { unmarked = []; marked = []; rows = no_rows; cut = c.end; between = none (omega arith) }
bullet_rows ends (a ∷ as') hs before more h =
    let others = flatten (map bullet as') in
    let q = bullet_line ends before (others ++ more) a hs.0 h in
    let r = bullet_rows ends as' hs.1 (before ++ bullet a) more (bullet_behind before a) in
    record {
      unmarked = q.first ∷ (q.item ++ r.unmarked);
      marked = _;
      rows = row q.kind_is q.column q.is r.rows;
      cut = cut_both before (bullet a) others more q.cut r.cut;
      between = between_both q.between
          (between_wider (length before + length (bullet a)) (length before + length (bullet a ++ others)) (omega (arith, length-append before (bullet a))) (omega (arith, length-append before (bullet a), length-append (bullet a) others)) r.between);
    }

-- a first bullet, and the others
pub record BulletList (before more : List ℕ) (a : Tree) (as' : List Tree) : Type 0 where
  pub first : Lexeme
  pub item : List Lexeme
  pub others : List Lexeme
  pub marked : List Lexeme
  pub kind_is : kind_of first.token ≡ kind.Junction j.And
  pub column : first.column ≡ 2
  pub is : IsItem first.column item a
  pub rows : Rows first.column others marked as'
  pub cut : Cut Anything before (flatten (map bullet (a ∷ as'))) more (first ∷ (item ++ others))
  pub between : Between is_defines (length before) (first ∷ (item ++ others)) (length before + length (flatten (map bullet (a ∷ as'))))

pub bullet_list : SignsEnd → (a : Tree) (as' : List Tree) → AreFormed (a ∷ as') → (before more : List ℕ) → column_of before ≡ 0 → BulletList before more a as'
bullet_list ends a as' hs before more h =
    let others = flatten (map bullet as') in
    let q = bullet_line ends before (others ++ more) a hs.0 h in
    let r = bullet_rows ends as' hs.1 (before ++ bullet a) more (bullet_behind before a) in
    record {
      first = q.first;
      item = q.item;
      others = r.unmarked;
      marked = r.marked;
      kind_is = q.kind_is;
      column = q.column;
      is = subst (λ n. IsItem n q.item a) (sym q.column) q.is;
      rows = subst (λ n. Rows n r.unmarked r.marked as') (sym q.column) r.rows;
      cut = cut_both before (bullet a) others more q.cut r.cut;
      between = between_both q.between
          (between_wider (length before + length (bullet a)) (length before + length (bullet a ++ others)) (omega (arith, length-append before (bullet a))) (omega (arith, length-append before (bullet a), length-append (bullet a) others)) r.between);
    }

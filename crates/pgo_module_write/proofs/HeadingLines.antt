-- The first two lines: the module's name between two rows of dashes, and the modules that it extends.
use Rattle.std.proofs.Common.{◌≡◌, ◌+◌, inl, inr, ℕ, Bool, true, false, List, [], ◌∷◌, ◌++◌, length, refl, ap, sym, ◌∙◌, subst, arith, lit≤}
use Rattle.std.specs.Prelude.{codes}
use Rattle.std.proofs.lemmas.List.{append_assoc, append-nil, length-append}
use Rattle.pgo_base.specs.declared.expr.Infix.TheVariants as op
use Rattle.pgo_base.specs.Lookup.{Name}
use Rattle.pgo_model.specs.ModuleText.{line}
use Rattle.pgo_lexer.specs.declared.token.Token.{Token}
use Rattle.pgo_lexer.specs.declared.token.Token.TheVariants as t
use Rattle.pgo_lexer.specs.declared.token.Lexeme.{Lexeme}
use Rattle.pgo_lexer.specs.declared.symbol.Symbol.TheVariants as symbol
use Rattle.pgo_lexer.specs.Symbols.{signs, begins_no_row}
use Rattle.pgo_lexer.specs.Lexemes as l
use Rattle.pgo_lexer.specs.Layout.{Marked}
use Rattle.pgo_expr_read.specs.Lookahead.{has_mapped}
use Rattle.pgo_spec_text.specs.SpecText.{Cut, Anything}
use Rattle.pgo_spec_text.specs.SpecText as c
use Rattle.pgo_mpcal_read.specs.Elements.{Spot, at, word}
use Rattle.pgo_mpcal_read.specs.Spells.{IsDashes, dash, dashes}
use Rattle.pgo_expr_write.specs.WellFormed.{IsName, AreNames}
use Rattle.pgo_expr_write.proofs.Lexed.{SignsEnd, Lexed, blank, end, is_defines}
use Rattle.pgo_expr_write.proofs.Leaves.{name_said}
use Rattle.pgo_expr_write.proofs.Inners.{regroup}
use Rattle.pgo_module_spells.specs.Grammar.{IsHeading, heading, AreListed, extended}
use Rattle.pgo_module_spells.specs.Grammar as g
use Rattle.pgo_module_write.proofs.LinePieces.{IsGap, of_gap}
use Rattle.pgo_module_write.proofs.FlatTokens.{Flat, done, marked_before}
use Rattle.pgo_module_write.proofs.FlatTokens as f
use Rattle.pgo_module_write.proofs.Spaces.{Between, none, other, between_wider, between_both}
use Rattle.pgo_module_write.proofs.Cuts.{column_of, cut_both, line_begins}
use Rattle.pgo_module_write.proofs.Placed.{laid}
use Rattle.pgo_module_write.proofs.Blocks.{Block, Said, said_both, said_text, both_plainly, newline_behind, first_of_line, zero_from}
use Rattle.pgo_module_write.proofs.TokenShapes.{one_token, no_token}
use Rattle.pgo_module_write.proofs.ListLines.{Lists, listed_said}

-- ---- four dashes

abbrev spot : List ℕ → Spot
spot before = record { column = column_of before; start = length before; stop = length before + 1 }

abbrev minus_token : Token
minus_token = t.Symbol (symbol.Infix op.Subtract)

abbrev minus : List ℕ → Lexeme
minus before = at (spot before) (symbol.Infix op.Subtract)

abbrev further : List ℕ → List ℕ
further before = before ++ (45 ∷ [])

abbrev row : List ℕ → List Lexeme
row before = minus before ∷ minus (further before) ∷ minus (further (further before)) ∷ minus (further (further (further before))) ∷ []

row_is : (before : List ℕ) → IsDashes (row before)
row_is before =
    let touch : (bs : List ℕ) → length (further bs) ≡ length bs + 1 = λ bs. length-append bs (45 ∷ []) in
    record {
      row = dashes {p = spot before} {q = spot (further before)} (touch before)
          (dashes {p = spot (further before)} {q = spot (further (further before))} (touch (further before))
          (dashes {p = spot (further (further before))} {q = spot (further (further (further before)))} (touch (further (further before)))
          (dash {p = spot (further (further (further before)))})));
      long = lit≤ tt;
    }

row_cut : SignsEnd → (g : ℕ) → IsGap g → (before more : List ℕ) → Cut Anything before (45 ∷ 45 ∷ 45 ∷ 45 ∷ []) (g ∷ more) (row before)
row_cut ends g gap before more =
    let last : begins_no_row (45 ∷ g ∷ []) signs ≡ true = of_gap (λ z. begins_no_row (45 ∷ z ∷ []) signs ≡ true) g gap refl refl in
    let sign = symbol.Infix op.Subtract in
    c.token (45 ∷ []) (ends (45 ∷ []) (45 ∷ 45 ∷ g ∷ more) 45 sign refl refl refl refl refl)
    (c.token (45 ∷ []) (ends (45 ∷ []) (45 ∷ g ∷ more) 45 sign refl refl refl refl refl)
    (c.token (45 ∷ []) (ends (45 ∷ []) (g ∷ more) 45 sign refl refl refl refl refl)
    (c.token (45 ∷ []) (ends (45 ∷ []) more g sign refl last refl refl refl) c.end)))

row_flat : (before : List ℕ) (p : Bool) → Flat p (row before) false
row_flat before p = f.plain refl (f.plain refl (f.plain refl (f.plain refl done)))

row_between : (before : List ℕ) → Between is_defines (length before) (row before) (length before + 4)
row_between before =
    let one = further before in
    let two = further one in
    let three = further two in
    other refl (omega arith) (omega arith)
    (other refl (omega (arith, length-append before (45 ∷ []))) (omega arith)
    (other refl (omega (arith, length-append one (45 ∷ []))) (omega arith)
    (other refl (omega (arith, length-append two (45 ∷ []))) (omega arith)
    (none (omega (arith, length-append before (45 ∷ []), length-append one (45 ∷ []), length-append two (45 ∷ [])))))))

-- ---- the line of MODULE

pub record IsTitle (x : Name) (ts : List Lexeme) : Type 0 where
  pub front : List Lexeme
  pub back : List Lexeme
  pub module_spot : Spot
  pub name_spot : Spot
  pub is : ts ≡ front ++ (word module_spot (codes "MODULE") ∷ (word name_spot x ∷ back))
  pub front_is : IsDashes front
  pub back_is : IsDashes back

module_name : IsName (codes "MODULE")
module_name = (refl, lit≤ tt)

-- the two names between the rows
names_lexed : (x : Name) → IsName x → Lexed [] false (codes " MODULE " ++ x) (t.Name (codes "MODULE") ∷ (t.Name x ∷ []))
names_lexed x named =
    let inner : Lexed [] true x (t.Name x ∷ []) = regroup _ _ _ _ (append-nil x) refl (name_said x [] named tt end) in
    blank (name_said (codes "MODULE") (32 ∷ x) module_name (refl, refl) (blank inner))

module _ (ends : SignsEnd) (x : Name) (named : IsName x) where
  abbrev middle : List ℕ
  middle = codes " MODULE " ++ x

  abbrev closing : List ℕ
  closing = codes "----" ++ 10 ∷ []

  abbrev title : List ℕ
  title = codes "----" ++ (middle ++ (32 ∷ closing))

  title_block : (before more : List ℕ) → column_of before ≡ 0 → Block (IsTitle x) before title more
  title_block before more start =
      let at_names = before ++ codes "----" in
      let at_blank = at_names ++ middle in
      let at_row = at_blank ++ (32 ∷ []) in
      let d = names_lexed x named in
      let q = laid ends 32 (inl refl) (closing ++ more) d at_names in
      let back = row at_row in
      let front = row before in
      let first_name = one_token q.lexemes (t.Name (codes "MODULE")) (t.Name x ∷ []) q.same in
      let second_name = one_token first_name.rest (t.Name x) [] first_name.same in
      let names_are : q.lexemes ≡ word first_name.spot (codes "MODULE") ∷ (word second_name.spot x ∷ []) =
      first_name.is ∙ ap (λ z. word first_name.spot (codes "MODULE") ∷ z) (second_name.is ∙ ap (λ z. word second_name.spot x ∷ z) (no_token second_name.rest second_name.same)) in
      let first = first_of_line front minus_token (minus_token ∷ (minus_token ∷ (minus_token ∷ []))) refl refl start in
      let lexemes = front ++ (q.lexemes ++ back) in
      record {
        unmarked = lexemes;
        tokens = lexemes;
        is = record {
          front = front;
          back = back;
          module_spot = first_name.spot;
          name_spot = second_name.spot;
          is = ap (λ z. front ++ (z ++ back)) names_are;
          front_is = row_is before;
          back_is = row_is at_row;
        };
        cut = cut_both before (codes "----") (middle ++ (32 ∷ closing)) more (row_cut ends 32 (inl refl) before ((codes "MODULE " ++ x) ++ (32 ∷ closing) ++ more))
            (cut_both at_names middle (32 ∷ closing) more q.cut (c.pass (32 ∷ []) (l.blank refl) tt (newline_behind at_row (codes "----") more (row_cut ends 10 (inr refl) at_row more))));
        between = between_both (row_between before)
            (between_both (between_wider (length before + 4) (length at_blank) (omega (arith, length-append before (codes "----"))) (omega (arith, length-append at_names middle)) q.between)
            (between_wider (length at_blank) (length before + length title) (omega (arith, length-append at_blank (32 ∷ [])))
            (omega (arith, length-append before (codes "----"), length-append at_names middle, length-append at_blank (32 ∷ []), length-append middle (32 ∷ closing))) (row_between at_row)));
        plain = both_plainly front (q.lexemes ++ back) refl (both_plainly q.lexemes back (ap has_mapped q.same) refl);
        past = λ rest z. first.past ((q.lexemes ++ back) ++ rest);
        goes = λ rest ms r past then p.
            let last = marked_before 0 rest ms (row_flat at_row q.behind) (zero_from back) (then false) in
            let names_too = marked_before 0 (back ++ rest) (back ++ ms) q.flat (zero_from q.lexemes) last in
            let all = marked_before 0 (q.lexemes ++ (back ++ rest)) (q.lexemes ++ (back ++ ms)) (row_flat before p) (zero_from front) names_too in
            let group : (us : List Lexeme) → front ++ (q.lexemes ++ (back ++ us)) ≡ lexemes ++ us = λ us. ap (λ z. front ++ z) (sym (append_assoc q.lexemes back us)) in
            subst (λ z. Marked true 0 p z (lexemes ++ ms) r) (group rest) (subst (λ z. Marked true 0 p (front ++ (q.lexemes ++ (back ++ rest))) z r) (group ms) all);
      }

  title_said : Said (IsTitle x) (line (codes "---- MODULE " ++ x ++ codes " ----"))
  title_said =
      let whole_line : title ≡ line (codes "---- MODULE " ++ x ++ codes " ----") = ap (λ z. codes "---- MODULE " ++ z) (sym (append_assoc x (codes " ----") (10 ∷ []))) in
      said_text title (line (codes "---- MODULE " ++ x ++ codes " ----")) whole_line (record {
        whole = λ before h. ap column_of (lines before) ∙ line_begins (before ++ (codes "----" ++ (middle ++ codes " ----")));
        said = title_block;
      })
    where
      lines : (before : List ℕ) → before ++ title ≡ (before ++ (codes "----" ++ (middle ++ codes " ----"))) ++ 10 ∷ []
      lines before = sym (append_assoc before (codes "----" ++ (middle ++ codes " ----")) (10 ∷ []) ∙ ap (λ z. before ++ (codes "----" ++ z)) (append_assoc middle (codes " ----") (10 ∷ [])))

-- ---- both lines

join_heading : (x : Name) (xs ys : List Lexeme) → IsTitle x xs → Lists (codes "EXTENDS") extended ys → IsHeading (xs ++ ys) x
join_heading x xs ys title names_are = by_list names_are refl
  where
    by_list : {es : List Name} {zs : List Lexeme} → AreListed (codes "EXTENDS") zs es → es ≡ extended → IsHeading (xs ++ zs) x
    by_list (g.listed p {xs = zs} {ns = ns} are_items) same =
        let made = heading title.module_spot title.name_spot p {x = x} title.front_is title.back_is are_items same in
        subst (λ z. IsHeading (z ++ (word p (codes "EXTENDS") ∷ zs)) x) (sym title.is)
        (subst (λ z. IsHeading z x) (sym (append_assoc title.front (word title.module_spot (codes "MODULE") ∷ (word title.name_spot x ∷ title.back)) (word p (codes "EXTENDS") ∷ zs))) made)

abbrev pub Heads : Name → List Lexeme → Type 0
Heads x ts = IsHeading ts x

extended_names : AreNames extended
extended_names = ((refl, lit≤ tt), ((refl, lit≤ tt), ((refl, lit≤ tt), ((refl, lit≤ tt), tt))))

pub heading_said : SignsEnd → (x : Name) → IsName x → Said (Heads x) (line (codes "---- MODULE " ++ x ++ codes " ----") ++ line (codes "EXTENDS Integers, Sequences, FiniteSets, TLC"))
heading_said ends x named =
    said_both (join_heading x) (line (codes "---- MODULE " ++ x ++ codes " ----")) (line (codes "EXTENDS Integers, Sequences, FiniteSets, TLC"))
    (title_said ends x named)
    (listed_said ends (codes "EXTENDS") (codes "Integers") (codes "Sequences" ∷ codes "FiniteSets" ∷ codes "TLC" ∷ []) (refl, lit≤ tt) extended_names.0 extended_names.1)

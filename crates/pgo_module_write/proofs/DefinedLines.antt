-- The lines of a definition: on one line, or with its items as bullets.
use Rattle.std.proofs.Common.{◌≡◌, ◌≤◌, ◌+◌, inl, ℕ, Bool, true, false, List, [], ◌∷◌, ◌++◌, map, length, refl, ap, sym, ◌∙◌, subst, arith}
use Rattle.std.specs.Prelude.{codes}
use Rattle.std.proofs.lemmas.List.{append_assoc, append-nil, length-append}
use Rattle.pgo_base.specs.declared.expr.Infix.TheVariants as op
use Rattle.pgo_base.specs.Lookup.{Name}
use Rattle.pgo_base.specs.Tree.{Tree, binary}
use Rattle.pgo_model.specs.Val.{Means}
use Rattle.pgo_model.specs.Module.{all_of}
use Rattle.pgo_model.specs.ExprText.{expr_text}
use Rattle.pgo_model.specs.ModuleText.{line, flatten, bullet, conjuncts, parameters_text, body_lines, definition_lines}
use Rattle.pgo_lexer.specs.declared.token.Token.{Token}
use Rattle.pgo_lexer.specs.declared.token.Token.TheVariants as t
use Rattle.pgo_lexer.specs.declared.token.Lexeme.{Lexeme}
use Rattle.pgo_lexer.specs.declared.symbol.Symbol.TheVariants as symbol
use Rattle.pgo_lexer.specs.declared.symbol.Junction.TheVariants as j
use Rattle.pgo_lexer.specs.Lexemes as l
use Rattle.pgo_lexer.specs.Layout.{Marked, Past}
use Rattle.pgo_lexer.specs.Layout as m
use Rattle.pgo_expr_read.specs.declared.table.Form.TheVariants as form
use Rattle.pgo_expr_read.specs.declared.read.Ending.TheVariants as ending
use Rattle.pgo_expr_read.specs.Heights.{height}
use Rattle.pgo_expr_read.specs.Lookahead.{tokens_of, has_mapped}
use Rattle.pgo_expr_read.specs.Spells.{Spelled, joined}
use Rattle.pgo_spec_text.specs.SpecText.{Cut, Anything}
use Rattle.pgo_spec_text.specs.SpecText as c
use Rattle.pgo_mpcal_read.specs.Elements.{Spot, at}
use Rattle.pgo_expr_write.specs.WellFormed.{IsName, AreNames}
use Rattle.pgo_expr_write.proofs.Lexed.{SignsEnd, Lexed, plain, is_defines}
use Rattle.pgo_expr_write.proofs.Lexed as w
use Rattle.pgo_expr_write.proofs.FixedWords.{defines}
use Rattle.pgo_expr_write.proofs.Inners.{Outer, regroup}
use Rattle.pgo_expr_write.proofs.Canonical.{outer}
use Rattle.pgo_module_spells.specs.Grammar.{IsExpression, IsDefined, most_height}
use Rattle.pgo_module_spells.specs.Written.{IsWritable}
use Rattle.pgo_module_write.proofs.FlatTokens.{Flat, marked_before}
use Rattle.pgo_module_write.proofs.Spaces.{Between, none, apart, between_wider, between_both}
use Rattle.pgo_module_write.proofs.Cuts.{column_of, cut_both, line_begins}
use Rattle.pgo_module_write.proofs.Placed.{Leads, begins_blank, laid}
use Rattle.pgo_module_write.proofs.Blocks.{Block, Said, line_said, said_text, first_of_line, both_plainly, zero_from}
use Rattle.pgo_module_write.proofs.Bullets.{list_of, joined_again, same_joined}
use Rattle.pgo_module_write.proofs.BulletLines.{AreFormed, conjuncts_formed, expr_lexed, BulletList, bullet_behind, bullet_list}
use Rattle.pgo_module_write.proofs.NameLines.{head_text, head_tokens, head_before, no_blank}
use Rattle.pgo_module_write.proofs.TokenShapes.{one_token, parted, head_shape}

-- the tokens of this definition
abbrev pub Defines : Name → List Name → Tree → List Lexeme → Type 0
Defines x ps e ts = IsDefined ts (Means x ps e)

-- ---- on one line

expression_of : (e : Tree) (o : Outer e) → height e ≤ most_height → (ts : List Lexeme) → tokens_of ts ≡ o.tokens → IsExpression ts e
expression_of e o low ts same = record { spells = (o.outermost, o.last, subst (λ us. Spelled o.outermost o.last us e) (sym same) o.spelled, low) }

-- tokens of a head, `==` and a body
defined_shape : (x : Name) (ps : List Name) (e : Tree) (o : Outer e) → height e ≤ most_height → (ls : List Lexeme) → tokens_of ls ≡ head_tokens x ps ++ (t.Symbol symbol.Defines ∷ o.tokens) → Defines x ps e ls
defined_shape x ps e o low ls same =
    let parts = parted (head_tokens x ps) (t.Symbol symbol.Defines ∷ o.tokens) ls same in
    let sign = one_token parts.rest (t.Symbol symbol.Defines) o.tokens parts.rest_is in
    let head = head_shape x ps parts.front parts.front_is in
    let whole : ls ≡ parts.front ++ (at sign.spot symbol.Defines ∷ sign.rest) = parts.is ∙ ap (λ z. parts.front ++ z) sign.is in
    subst (λ z. Defines x ps e z) (sym whole) (head.defined sign.spot sign.rest e (expression_of e o low sign.rest sign.same))

-- what a head's tokens begin with
record Begins (x : Name) (ps : List Name) : Type 0 where
  others : List Token
  is : head_tokens x ps ≡ t.Name x ∷ others

begins_with_name : (x : Name) (ps : List Name) → Begins x ps
begins_with_name x [] = record { others = []; is = refl }
begins_with_name x (y ∷ ys) = record { others = _; is = refl }

-- a head and what stands behind it
starts : (x : Name) (ps : List Name) (text : List ℕ) → IsName x → begins_blank (head_text x ps ++ codes " == " ++ text) ≡ false
starts x ps text h = ap begins_blank (group x (parameters_text ps) (codes " == ") text) ∙ no_blank x (parameters_text ps ++ codes " == " ++ text) h
  where
    group : (a b c d : List ℕ) → (a ++ b) ++ c ++ d ≡ a ++ (b ++ c ++ d)
    group a b c d = ap (λ z. z ++ d) (append_assoc a b c) ∙ append_assoc a (b ++ c) d

pub one_line : SignsEnd → (x : Name) (ps : List Name) (e : Tree) → IsName x → AreNames ps → IsWritable e → Said (Defines x ps e) (line (head_text x ps ++ codes " == " ++ expr_text true e))
one_line ends x ps e named names_are fits =
    let o = outer e fits.formed in
    let head = head_text x ps in
    let b = begins_with_name x ps in
    let behind = t.Symbol symbol.Defines ∷ o.tokens in
    let tokens_are : head_tokens x ps ++ behind ≡ t.Name x ∷ (b.others ++ behind) = ap (λ z. z ++ behind) b.is in
    let text_is : head ++ (32 ∷ 61 ∷ 61 ∷ 32 ∷ expr_text true e) ≡ head ++ codes " == " ++ expr_text true e = sym (append_assoc head (codes " == ") (expr_text true e)) in
    let d = head_before x ps named names_are (32 ∷ 61 ∷ 61 ∷ 32 ∷ expr_text true e) behind (refl, refl) (defines (expr_lexed e o false)) in
    line_said ends (head ++ codes " == " ++ expr_text true e) (t.Name x) (b.others ++ behind) (regroup _ _ _ _ text_is tokens_are d) (starts x ps (expr_text true e) named) refl
    (λ ls same. defined_shape x ps e o fits.low ls (same ∙ sym tokens_are))

-- ---- as bullets

-- the line of the head
record HeadLine (before more : List ℕ) (x : Name) (ps : List Name) : Type 0 where
  head : List Lexeme
  spot : Spot
  same : tokens_of head ≡ head_tokens x ps
  behind : Bool
  flat : Flat true head behind
  leads : Leads (column_of before) head
  cut : Cut Anything before (line (head_text x ps ++ codes " ==")) more (head ++ (at spot symbol.Defines ∷ []))
  between : Between is_defines (length before) (head ++ (at spot symbol.Defines ∷ [])) (length before + length (line (head_text x ps ++ codes " ==")))
  plain : has_mapped (tokens_of head) ≡ false

head_line : SignsEnd → (before more : List ℕ) (x : Name) (ps : List Name) → IsName x → AreNames ps → HeadLine before more x ps
head_line ends before more x ps named names_are =
    let text = head_text x ps in
    let d : Lexed [] true text (head_tokens x ps) = regroup _ _ _ _ (append-nil text) (append-nil (head_tokens x ps)) (head_before x ps named names_are [] [] tt w.end) in
    let q = laid ends 32 (inl refl) (61 ∷ 61 ∷ 10 ∷ more) d before in
    let behind = before ++ text in
    let sign = behind ++ (32 ∷ []) in
    let group : text ++ (32 ∷ 61 ∷ 61 ∷ 10 ∷ []) ≡ line (text ++ codes " ==") = sym (append_assoc text (codes " ==") (10 ∷ [])) in
    let spot : Spot = record { column = column_of sign; start = length sign; stop = length sign + 2 } in
    let cut = cut_both before text (32 ∷ 61 ∷ 61 ∷ 10 ∷ []) more q.cut
    (c.pass (32 ∷ []) (l.blank refl) tt
    (c.token (61 ∷ 61 ∷ []) (ends (61 ∷ 61 ∷ []) more 10 symbol.Defines refl refl refl refl refl)
    (c.pass (10 ∷ []) (l.blank refl) tt c.end))) in
    record {
      head = q.lexemes;
      spot = spot;
      same = q.same;
      behind = q.behind;
      flat = q.flat;
      leads = q.leads (no_blank x (parameters_text ps) named);
      cut = subst (λ z. Cut Anything before z more (q.lexemes ++ (at spot symbol.Defines ∷ []))) group cut;
      between = between_both q.between
          (apart (omega (arith, length-append before text, length-append behind (32 ∷ []))) (omega arith)
          (none (omega (arith, length-append before text, length-append behind (32 ∷ []), length-append text (codes " =="), length-append (text ++ codes " ==") (10 ∷ [])))));
      plain = ap has_mapped q.same ∙ plain d;
    }

-- a conjunction again
conjunction : (e : Tree) (a : Tree) (as' : List Tree) → conjuncts e [] ≡ a ∷ as' → joined j.And a as' ≡ e
conjunction e a as' h = same_joined a as' ∙ sym (ap all_of h) ∙ joined_again e []

module _ (x : Name) (ps : List Name) (e a : Tree) (as' : List Tree) where
  abbrev text : List ℕ
  text = line (head_text x ps ++ codes " ==") ++ flatten (map bullet (a ∷ as'))

  bullets_block : (before more : List ℕ) → column_of before ≡ 0 → height e ≤ most_height → joined j.And a as' ≡ e → HeadLine before (flatten (map bullet (a ∷ as')) ++ more) x ps
      → BulletList (before ++ line (head_text x ps ++ codes " ==")) more a as' → Block (Defines x ps e) before text more
  bullets_block before more start low is_again h b =
      let head = line (head_text x ps ++ codes " ==") in
      let bullets = flatten (map bullet (a ∷ as')) in
      let v = list_of b.first b.item b.others b.marked a as' b.kind_is b.is b.rows in
      let sign = at h.spot symbol.Defines in
      let items = b.first ∷ (b.item ++ b.others) in
      let shape = head_shape x ps h.head h.same in
      let n = begins_with_name x ps in
      let first = first_of_line h.head (t.Name x) n.others (h.same ∙ n.is) refl (subst (λ k. Leads k h.head) start h.leads) in
      let spells = subst (λ z. Spelled form.Closed ending.Closed (tokens_of v.tokens) z) is_again v.spelled in
      record {
        unmarked = h.head ++ (sign ∷ items);
        tokens = h.head ++ (sign ∷ v.tokens);
        is = shape.defined h.spot v.tokens e (record { spells = (form.Closed, ending.Closed, spells, low) });
        cut = subst (λ z. Cut Anything before text more z) (append_assoc h.head (sign ∷ []) items) (cut_both before head bullets more h.cut b.cut);
        between = subst (λ z. Between is_defines (length before) z (length before + length text)) (append_assoc h.head (sign ∷ []) items)
            (between_both h.between (between_wider (length before + length head) (length before + length text) (omega (arith, length-append before head)) (omega (arith, length-append before head, length-append head bullets)) b.between));
        plain = both_plainly h.head (sign ∷ v.tokens) h.plain v.plain;
        past = λ rest z. subst (Past j.And 2) (sym (append_assoc h.head (sign ∷ items) rest)) (first.past ((sign ∷ items) ++ rest));
        goes = λ rest ms q past then p.
            let list = v.marked rest ms q (subst (λ k. Past j.And k rest) (sym b.column) past) then in
            let grouped = subst (λ z. Marked true 0 false (b.first ∷ z) (v.tokens ++ ms) q) (sym (append_assoc b.item b.others rest)) list in
            let lined = marked_before 0 (sign ∷ (items ++ rest)) (sign ∷ (v.tokens ++ ms)) (first.anywhere h.flat p) (zero_from h.head) (m.plain (omega arith) refl grouped) in
            subst (λ z. Marked true 0 p z ((h.head ++ (sign ∷ v.tokens)) ++ ms) q) (sym (append_assoc h.head (sign ∷ items) rest))
            (subst (λ z. Marked true 0 p (h.head ++ (sign ∷ (items ++ rest))) z q) (sym (append_assoc h.head (sign ∷ v.tokens) ms)) lined);
      }

-- any bullets are whole lines
bullets_whole : (bs : List Tree) (before : List ℕ) → column_of before ≡ 0 → column_of (before ++ flatten (map bullet bs)) ≡ 0
bullets_whole [] before h = ap column_of (append-nil before) ∙ h
bullets_whole (b ∷ bs) before h =
    ap column_of (sym (append_assoc before (bullet b) (flatten (map bullet bs)))) ∙ bullets_whole bs (before ++ bullet b) (bullet_behind before b)

line_behind : (before text : List ℕ) → column_of (before ++ line text) ≡ 0
line_behind before text = ap column_of (sym (append_assoc before text (10 ∷ []))) ∙ line_begins (before ++ text)

pub as_bullets : SignsEnd → (x : Name) (ps : List Name) (e a : Tree) (as' : List Tree) → IsName x → AreNames ps → height e ≤ most_height → AreFormed (a ∷ as') → joined j.And a as' ≡ e → Said (Defines x ps e) (text x ps e a as')
as_bullets ends x ps e a as' named names_are low formed again =
    let head = line (head_text x ps ++ codes " ==") in
    let bullets = flatten (map bullet (a ∷ as')) in
    record {
      whole = λ before h. ap column_of (sym (append_assoc before head bullets)) ∙ bullets_whole (a ∷ as') (before ++ head) (line_behind before (head_text x ps ++ codes " =="));
      said = λ before more h.
          bullets_block x ps e a as' before more h low again (head_line ends before (bullets ++ more) x ps named names_are) (bullet_list ends a as' formed (before ++ head) more (line_behind before (head_text x ps ++ codes " ==")));
    }

-- ---- any definition

-- a conjunction has an item
no_items : (e : Tree) (rest : List Tree) → conjuncts e rest ≡ [] → ⊥
no_items (binary op.And a b) rest h = no_items a (b ∷ rest) h
no_items _ rest h = cc

flat_one : (l : List ℕ) → l ≡ flatten (l ∷ [])
flat_one l = sym (append-nil l)

body_said : SignsEnd → (x : Name) (ps : List Name) (e : Tree) (bs : List Tree) → IsName x → AreNames ps → IsWritable e → conjuncts e [] ≡ bs → AreFormed bs → Said (Defines x ps e) (flatten (body_lines (head_text x ps) bs))
body_said ends x ps e [] named names_are fits is formed = absurd (no_items e [] is)
body_said ends x ps e (a ∷ []) named names_are fits is formed =
    let same : e ≡ a = sym (conjunction e a [] is) in
    said_text _ _ (ap (λ z. line (head_text x ps ++ codes " == " ++ expr_text true z)) same ∙ flat_one (line (head_text x ps ++ codes " == " ++ expr_text true a))) (one_line ends x ps e named names_are fits)
body_said ends x ps e (a ∷ (b ∷ cs)) named names_are fits is formed = as_bullets ends x ps e a (b ∷ cs) named names_are fits.low formed (conjunction e a (b ∷ cs) is)

pub definition_said : SignsEnd → (x : Name) (ps : List Name) (e : Tree) → IsName x → AreNames ps → IsWritable e → Said (Defines x ps e) (flatten (definition_lines (head_text x ps) e))
definition_said ends x ps e named names_are fits = body_said ends x ps e (conjuncts e []) named names_are fits refl (conjuncts_formed e [] fits.formed tt)

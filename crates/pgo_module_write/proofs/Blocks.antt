-- Lines of a text with the tokens that they have, wherever a line begins and whatever follows: blocks stand one behind the other.
use Rattle.std.proofs.Common.{◌≡◌, ◌+◌, inr, ℕ, Bool, true, false, ◌||◌, List, [], ◌∷◌, ◌++◌, length, refl, ap, sym, ◌∙◌, subst, arith}
use Rattle.std.proofs.lemmas.List.{append_assoc, append-nil, length-append}
use Rattle.pgo_lexer.specs.declared.token.Token.{Token}
use Rattle.pgo_lexer.specs.declared.token.Lexeme.{Lexeme}
use Rattle.pgo_lexer.specs.declared.symbol.Junction.TheVariants as j
use Rattle.pgo_lexer.specs.declared.kind.Kind.TheVariants as kind
use Rattle.pgo_lexer.specs.Kinds.{kind_of}
use Rattle.pgo_lexer.specs.Lexemes as l
use Rattle.pgo_lexer.specs.Layout.{Marked, Past, AllFrom}
use Rattle.pgo_expr_read.specs.Lookahead.{tokens_of, is_mapped, has_mapped}
use Rattle.pgo_spec_text.specs.SpecText.{Cut, Anything}
use Rattle.pgo_spec_text.specs.SpecText as c
use Rattle.pgo_expr_write.proofs.Lexed.{SignsEnd, Lexed, plain, is_defines}
use Rattle.pgo_module_write.proofs.FlatTokens.{Flat, marked_before, flat_anywhere}
use Rattle.pgo_module_write.proofs.Spaces.{Between, none, between_wider, between_both}
use Rattle.pgo_module_write.proofs.Cuts.{column_of, cut_both, line_begins}
use Rattle.pgo_module_write.proofs.Placed.{Leads, begins_blank, laid}

-- R is what is said of the tokens with their marks. `past` and `goes`: a list of bullets in column 2 is over where the lines begin, and the marks go on behind them.
pub record Block (R : List Lexeme → Type 0) (before part more : List ℕ) : Type 0 where
  pub unmarked : List Lexeme
  pub tokens : List Lexeme
  pub is : R tokens
  pub cut : Cut Anything before part more unmarked
  pub between : Between is_defines (length before) unmarked (length before + length part)
  pub plain : has_mapped (tokens_of tokens) ≡ false
  pub past : (rest : List Lexeme) → Past j.And 2 rest → Past j.And 2 (unmarked ++ rest)
  pub goes : (rest ms : List Lexeme) (q : Bool) → Past j.And 2 rest → ((u : Bool) → Marked true 0 u rest ms q) → (p : Bool) → Marked true 0 p (unmarked ++ rest) (tokens ++ ms) q

-- whole lines
pub record Said (R : List Lexeme → Type 0) (part : List ℕ) : Type 0 where
  pub whole : (before : List ℕ) → column_of before ≡ 0 → column_of (before ++ part) ≡ 0
  pub said : (before more : List ℕ) → column_of before ≡ 0 → Block R before part more

-- ---- tokens without their places

pub tokens_append : (xs ys : List Lexeme) → tokens_of (xs ++ ys) ≡ tokens_of xs ++ tokens_of ys
tokens_append [] ys = refl
tokens_append (x ∷ xs) ys = ap (λ ts. x.token ∷ ts) (tokens_append xs ys)

first_plain : (b c d : Bool) → (c ≡ false → d ≡ false) → (b || c) ≡ false → (b || d) ≡ false
first_plain true c d then h = cc
first_plain false c d then h = then h

pub both_plain : (xs ys : List Token) → has_mapped xs ≡ false → has_mapped ys ≡ false → has_mapped (xs ++ ys) ≡ false
both_plain [] ys h k = k
both_plain (x ∷ xs) ys h k = first_plain (is_mapped x) (has_mapped xs) (has_mapped (xs ++ ys)) (λ e. both_plain xs ys e k) h

pub both_plainly : (xs ys : List Lexeme) → has_mapped (tokens_of xs) ≡ false → has_mapped (tokens_of ys) ≡ false → has_mapped (tokens_of (xs ++ ys)) ≡ false
both_plainly xs ys h k = ap has_mapped (tokens_append xs ys) ∙ both_plain (tokens_of xs) (tokens_of ys) h k

-- ---- blocks

module _ {R : List Lexeme → Type 0} where
  pub said_nothing : R [] → Said R []
  said_nothing is = record {
    whole = λ before h. ap column_of (append-nil before) ∙ h;
    said = λ before more h. record {
      unmarked = [];
      tokens = [];
      is = is;
      cut = c.end;
      between = none (omega arith);
      plain = refl;
      past = λ rest h. h;
      goes = λ rest ms q past then p. then p;
    };
  }

  pub said_text : (part other : List ℕ) → part ≡ other → Said R part → Said R other
  said_text part other e s = subst (Said R) e s

module _ {Q R S : List Lexeme → Type 0} (join : (xs ys : List Lexeme) → Q xs → R ys → S (xs ++ ys)) where
  both_blocks : (before part further more : List ℕ) → Block Q before part (further ++ more) → Block R (before ++ part) further more → Block S before (part ++ further) more
  both_blocks before part further more a b =
      let group : (rest : List Lexeme) → a.unmarked ++ (b.unmarked ++ rest) ≡ (a.unmarked ++ b.unmarked) ++ rest = λ rest. sym (append_assoc a.unmarked b.unmarked rest) in
      let marks : (ms : List Lexeme) → a.tokens ++ (b.tokens ++ ms) ≡ (a.tokens ++ b.tokens) ++ ms = λ ms. sym (append_assoc a.tokens b.tokens ms) in
      record {
        unmarked = a.unmarked ++ b.unmarked;
        tokens = a.tokens ++ b.tokens;
        is = join a.tokens b.tokens a.is b.is;
        cut = cut_both before part further more a.cut b.cut;
        between = between_both a.between
            (between_wider (length before + length part) (length before + length (part ++ further)) (omega (arith, length-append before part)) (omega (arith, length-append before part, length-append part further)) b.between);
        plain = both_plainly a.tokens b.tokens a.plain b.plain;
        past = λ rest h. subst (Past j.And 2) (group rest) (a.past (b.unmarked ++ rest) (b.past rest h));
        goes = λ rest ms q past then p.
            let d = a.goes (b.unmarked ++ rest) (b.tokens ++ ms) q (b.past rest past) (b.goes rest ms q past then) p in
            subst (λ z. Marked true 0 p ((a.unmarked ++ b.unmarked) ++ rest) z q) (marks ms) (subst (λ z. Marked true 0 p z (a.tokens ++ (b.tokens ++ ms)) q) (group rest) d);
      }

  pub said_both : (part further : List ℕ) → Said Q part → Said R further → Said S (part ++ further)
  said_both part further a b = record {
    whole = λ before h. ap column_of (sym (append_assoc before part further)) ∙ b.whole (before ++ part) (a.whole before h);
    said = λ before more h. both_blocks before part further more (a.said before (further ++ more) h) (b.said (before ++ part) more (a.whole before h));
  }

module _ {Q R : List Lexeme → Type 0} (turn : (ts : List Lexeme) → Q ts → R ts) where
  pub said_also : (part : List ℕ) → Said Q part → Said R part
  said_also part s = record {
    whole = s.whole;
    said = λ before more h.
        let b = s.said before more h in
        record { unmarked = b.unmarked; tokens = b.tokens; is = turn b.tokens b.is; cut = b.cut; between = b.between; plain = b.plain; past = b.past; goes = b.goes };
  }

-- ---- a line with no bullet

pub zero_from : (xs : List Lexeme) → AllFrom 0 xs
zero_from [] = tt
zero_from (x ∷ xs) = (omega arith, zero_from xs)

-- its first token is in column 0, and is neither bracket nor `/\`
pub record First (ls : List Lexeme) : Type 0 where
  pub past : (rest : List Lexeme) → Past j.And 2 (ls ++ rest)
  pub anywhere : {p q : Bool} → Flat p ls q → (u : Bool) → Flat u ls q

pub first_of_line : (ls : List Lexeme) (k : Token) (ts : List Token) → tokens_of ls ≡ k ∷ ts → kind_of k ≡ kind.Plain → Leads 0 ls → First ls
first_of_line [] k ts e is leads = absurd (let z = e in cc)
first_of_line (r ∷ rs) k ts e is leads =
    let same : r.token ≡ k = cc in
    let kind_is : kind_of r.token ≡ kind.Plain = ap kind_of same ∙ is in
    record {
      past = λ rest. inr (omega (arith, leads), λ at. absurd (omega (arith, leads, at)));
      anywhere = λ d u. flat_anywhere kind_is d u;
    }

pub newline_behind : (before part more : List ℕ) {ls : List Lexeme} → Cut Anything before part (10 ∷ more) ls → Cut Anything before (part ++ 10 ∷ []) more ls
newline_behind before part more {ls} d =
    subst (λ z. Cut Anything before (part ++ 10 ∷ []) more z) (append-nil ls) (cut_both before part (10 ∷ []) more d (c.pass (10 ∷ []) (l.blank refl) tt c.end))

module _ {R : List Lexeme → Type 0} (ends : SignsEnd) where
  pub line_said : (text : List ℕ) (k : Token) (ts : List Token) → Lexed [] true text (k ∷ ts) → begins_blank text ≡ false → kind_of k ≡ kind.Plain → ((ls : List Lexeme) → tokens_of ls ≡ k ∷ ts → R ls)
      → Said R (text ++ 10 ∷ [])
  line_said text k ts d begins is turn = record {
    whole = λ before h. ap column_of (sym (append_assoc before text (10 ∷ []))) ∙ line_begins (before ++ text);
    said = λ before more h.
        let q = laid ends 10 (inr refl) more d before in
        let first = first_of_line q.lexemes k ts q.same is (subst (λ n. Leads n q.lexemes) h (q.leads begins)) in
        record {
          unmarked = q.lexemes;
          tokens = q.lexemes;
          is = turn q.lexemes q.same;
          cut = newline_behind before text more q.cut;
          between = between_wider (length before) (length before + length (text ++ 10 ∷ [])) (omega arith) (omega (arith, length-append text (10 ∷ []))) q.between;
          plain = ap has_mapped q.same ∙ plain d;
          past = λ rest z. first.past rest;
          goes = λ rest ms v past then p. marked_before 0 rest ms (first.anywhere q.flat p) (zero_from q.lexemes) (then q.behind);
        };
  }

-- Lists of canonical texts: items with what stands between them.
use Rattle.std.proofs.Common.{◌≡◌, ℕ, Bool, true, List, [], ◌∷◌, ◌++◌, ap, sym, ◌∙◌, subst}
use Rattle.std.proofs.lemmas.List.{append_assoc}
use Rattle.pgo_lexer.specs.declared.token.Token.{Token}
use Rattle.pgo_lexer.specs.declared.symbol.Bracket.{Bracket}
use Rattle.pgo_expr_read.specs.declared.read.Ending.TheVariants as ending
use Rattle.pgo_expr_read.specs.Kinds.{Kind, ItemOf, between, may_follow}
use Rattle.pgo_expr_read.specs.Spells.{Item, Behind, Items}
use Rattle.pgo_expr_read.specs.Spells as s
use Rattle.pgo_expr_write.specs.Pieces.{Piece}
use Rattle.pgo_expr_write.proofs.Lexed.{Lexed}
use Rattle.pgo_expr_write.proofs.FixedWords.{Ends, Begins}
use Rattle.pgo_expr_write.proofs.Inners.{ahead, ahead_append, regroup, Says, Opens}

pub record One (k : Kind) (ps : List Piece) (a : ItemOf k) : Type 0 where
  pub tokens : List Token
  pub item : Item k ending.Closed tokens a
  pub begins : Opens (ahead ps)
  pub said : Says (ahead ps) tokens

-- further items, each behind what stands between two
pub record More (k : Kind) (ps : List Piece) (as' : List (ItemOf k)) : Type 0 where
  pub tokens : List Token
  pub behind : Behind k ending.Closed ending.Closed tokens as'
  pub ends : (rest : List ℕ) → Ends rest → Ends (ahead ps rest)
  pub said : (st : List Bracket) (rest : List ℕ) (us : List Token) → Ends rest → Lexed st true rest us → Lexed st true (ahead ps rest) (tokens ++ us)

-- one item or more
pub record Row (k : Kind) (ps : List Piece) (as' : List (ItemOf k)) : Type 0 where
  pub tokens : List Token
  pub items : Items k ending.Closed tokens as'
  pub begins : Opens (ahead ps)
  pub said : Says (ahead ps) tokens

pub no_more : (k : Kind) → More k [] []
no_more k = record { tokens = []; behind = s.none; ends = λ rest h. h; said = λ st rest us h d. d }

-- what stands between two items
abbrev pub Parts : Kind → List Piece → Type 0
Parts k seps = (st : List Bracket) (rest : List ℕ) (us : List Token) → ((p : Bool) → Lexed st p rest us) → Lexed st true (ahead seps rest) (between k ++ us)

pub one_more : (k : Kind) (seps ps qs : List Piece) (a : ItemOf k) (as' : List (ItemOf k)) → may_follow k ending.Closed ≡ true → Parts k seps → ((rest : List ℕ) → Ends (ahead seps (ahead ps rest)))
    → One k ps a → More k qs as' → More k (seps ++ (ps ++ qs)) (a ∷ as')
one_more k seps ps qs a as' may parts ends one more =
    let bytes : (rest : List ℕ) → ahead seps (ahead ps (ahead qs rest)) ≡ ahead (seps ++ (ps ++ qs)) rest =
    λ rest. ap (λ z. ahead seps z) (sym (ahead_append ps qs rest)) ∙ sym (ahead_append seps (ps ++ qs) rest) in
    record {
      tokens = between k ++ (one.tokens ++ more.tokens);
      behind = s.one_more may one.item more.behind;
      ends = λ rest h. subst Ends (bytes rest) (ends (ahead qs rest));
      said = λ st rest us h d.
          regroup _ _ _ _ (bytes rest) (ap (λ z. between k ++ z) (sym (append_assoc one.tokens more.tokens us)) ∙ sym (append_assoc (between k) (one.tokens ++ more.tokens) us))
          (parts st (ahead ps (ahead qs rest)) (one.tokens ++ (more.tokens ++ us)) (λ p. one.said st p (ahead qs rest) (more.tokens ++ us) (more.ends rest h) (more.said st rest us h d)));
    }

pub row_of : (k : Kind) (ps qs : List Piece) (a : ItemOf k) (as' : List (ItemOf k)) → One k ps a → More k qs as' → Row k (ps ++ qs) (a ∷ as')
row_of k ps qs a as' one more = record {
  tokens = one.tokens ++ more.tokens;
  items = s.items one.item more.behind;
  begins = λ rest. subst Begins (sym (ahead_append ps qs rest)) (one.begins (ahead qs rest));
  said = λ st p rest us h d.
      regroup _ _ _ _ (sym (ahead_append ps qs rest)) (sym (append_assoc one.tokens more.tokens us))
      (one.said st p (ahead qs rest) (more.tokens ++ us) (more.ends rest h) (more.said st rest us h d));
}

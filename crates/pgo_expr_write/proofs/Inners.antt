-- Canonical texts as outermost expressions and as operands, with tokens that spell the expression.
use Rattle.std.proofs.Common.{◌≡◌, ℕ, Bool, true, false, ◌&&◌, List, [], ◌∷◌, ◌++◌, refl, ap, sym, ◌∙◌, subst}
use Rattle.std.specs.Prelude.{codes}
use Rattle.std.proofs.lemmas.List.{append_assoc}
use Rattle.pgo_base.specs.declared.expr.Infix.TheVariants as op
use Rattle.pgo_base.specs.Tree.{Tree}
use Rattle.pgo_base.specs.Tree as e
use Rattle.pgo_model.specs.ExprText.{expr_text}
use Rattle.pgo_lexer.specs.declared.symbol.Bracket.TheVariants as bracket
use Rattle.pgo_lexer.specs.declared.symbol.Symbol.TheVariants as sign
use Rattle.pgo_lexer.specs.declared.token.Token.TheVariants as t
use Rattle.pgo_lexer.specs.declared.token.Token.{Token}
use Rattle.pgo_lexer.specs.declared.symbol.Bracket.{Bracket}
use Rattle.pgo_expr_read.specs.declared.table.Form.{Form}
use Rattle.pgo_expr_read.specs.declared.table.Form.TheVariants as form
use Rattle.pgo_expr_read.specs.declared.read.Ending.{Ending}
use Rattle.pgo_expr_read.specs.declared.read.Ending.TheVariants as ending
use Rattle.pgo_expr_read.specs.Signs.{is_sign}
use Rattle.pgo_expr_read.specs.Lookahead.{begins_binder, is_name, sees}
use Rattle.pgo_expr_read.specs.Spells.{Spelled, Range}
use Rattle.pgo_expr_read.specs.Spells as s
use Rattle.pgo_expr_write.specs.Pieces.{Piece, piece_text, pieces_text, pieces_of, is_enclosed}
use Rattle.pgo_expr_write.proofs.Written.{text_is}
use Rattle.pgo_expr_write.proofs.Lexed.{Lexed}
use Rattle.pgo_expr_write.proofs.FixedWords.{Ends, Begins, round_open, round_close}

-- ---- texts of pieces

-- the text of the pieces before what follows them
abbrev pub ahead : List Piece → List ℕ → List ℕ
ahead [] rest = rest
ahead (p ∷ ps) rest = piece_text p ++ ahead ps rest

pub ahead_append : (ps qs : List Piece) (rest : List ℕ) → ahead (ps ++ qs) rest ≡ ahead ps (ahead qs rest)
ahead_append [] qs rest = refl
ahead_append (p ∷ ps) qs rest = ap (λ z. piece_text p ++ z) (ahead_append ps qs rest)

ahead_is : (ps : List Piece) (rest : List ℕ) → ahead ps rest ≡ pieces_text ps ++ rest
ahead_is [] rest = refl
ahead_is (p ∷ ps) rest = ap (λ z. piece_text p ++ z) (ahead_is ps rest) ∙ sym (append_assoc (piece_text p) (pieces_text ps) rest)

text_ahead : (a : Tree) (rest : List ℕ) → ahead (pieces_of a) rest ≡ expr_text true a ++ rest
text_ahead a rest = ahead_is (pieces_of a) rest ∙ ap (λ z. z ++ rest) (text_is a)

pub regroup : {st : List Bracket} {p : Bool} (bs cs : List ℕ) (ts us : List Token) → bs ≡ cs → ts ≡ us → Lexed st p bs ts → Lexed st p cs us
regroup {st} {p} bs cs ts us b t d =
    let P : List ℕ → Type 0 = λ z. Lexed st p z us in
    let Q : List Token → Type 0 = λ z. Lexed st p bs z in
    subst P b (subst Q t d)

-- bytes that end an operand's tokens, whatever follows
abbrev pub Says : (List ℕ → List ℕ) → List Token → Type 0
Says text ts = (st : List Bracket) (p : Bool) (rest : List ℕ) (us : List Token) → Ends rest → Lexed st true rest us → Lexed st p (text rest) (ts ++ us)

abbrev pub Opens : (List ℕ → List ℕ) → Type 0
Opens text = (rest : List ℕ) → Begins (text rest)

-- as an outermost expression
pub record Outer (a : Tree) : Type 0 where
  pub outermost : Form
  pub last : Ending
  pub tokens : List Token
  pub spelled : Spelled outermost last tokens a
  pub closed : is_enclosed a ≡ false → (outermost ≡ form.Closed) × (last ≡ ending.Closed) × (begins_binder tokens ≡ false)
  pub begins : Opens (ahead (pieces_of a))
  pub said : Says (ahead (pieces_of a)) tokens

-- as an operand
pub record Inner (a : Tree) : Type 0 where
  pub tokens : List Token
  pub spelled : Spelled form.Closed ending.Closed tokens a
  pub no_binder : begins_binder tokens ≡ false
  pub begins : Opens (λ rest. expr_text false a ++ rest)
  pub said : Says (λ rest. expr_text false a ++ rest) tokens

-- as a set that names are bound over
pub record Over (a : Tree) : Type 0 where
  pub tokens : List Token
  pub range : Range tokens a
  pub said : Says (λ rest. expr_text false a ++ rest) tokens

enclosed_text : (a : Tree) → is_enclosed a ≡ true → expr_text false a ≡ codes "(" ++ expr_text true a ++ codes ")"
enclosed_text (e.unary p a) h = refl
enclosed_text (e.binary p a b) h = refl
enclosed_text (e.product ts) h = refl
enclosed_text (e.cond_of p a b) h = refl
enclosed_text (e.case_of gs) h = refl
enclosed_text (e.case_other gs a) h = refl
enclosed_text (e.let_in ds a) h = refl
enclosed_text (e.quantified q bs p) h = refl
enclosed_text (e.choose x r p) h = refl
enclosed_text _ h = cc

closed_text : (a : Tree) → is_enclosed a ≡ false → expr_text true a ≡ expr_text false a
closed_text (e.unary p a) h = cc
closed_text (e.binary p a b) h = cc
closed_text (e.product ts) h = cc
closed_text (e.cond_of p a b) h = cc
closed_text (e.case_of gs) h = cc
closed_text (e.case_other gs a) h = cc
closed_text (e.let_in ds a) h = cc
closed_text (e.quantified q bs p) h = cc
closed_text (e.choose x r p) h = cc
closed_text (e.name x) h = refl
closed_text (e.primed x) h = refl
closed_text (e.number z) h = refl
closed_text (e.text x) h = refl
closed_text (e.truth v) h = refl
closed_text e.at h = refl
closed_text (e.word w) h = refl
closed_text (e.tuple ts) h = refl
closed_text (e.set_of ts) h = refl
closed_text (e.filter_of x r p) h = refl
closed_text (e.image a x r) h = refl
closed_text (e.fun_of bs a) h = refl
closed_text (e.fun_set a b) h = refl
closed_text (e.record_of ds) h = refl
closed_text (e.record_set ds) h = refl
closed_text (e.except f us) h = refl
closed_text (e.index f ts) h = refl
closed_text (e.field r x) h = refl
closed_text (e.call x ts) h = refl
closed_text (e.unchanged xs) h = refl

inner_closed : (a : Tree) → Outer a → is_enclosed a ≡ false → Inner a
inner_closed a o h =
    let c = o.closed h in
    let bytes : (rest : List ℕ) → ahead (pieces_of a) rest ≡ expr_text false a ++ rest = λ rest. text_ahead a rest ∙ ap (λ z. z ++ rest) (closed_text a h) in
    let P : Form → Type 0 = λ f. Spelled f o.last o.tokens a in
    let Q : Ending → Type 0 = λ u. Spelled form.Closed u o.tokens a in
    record {
      tokens = o.tokens;
      spelled = subst Q c.1 (subst P c.0 o.spelled);
      no_binder = c.2;
      begins = λ rest. subst Begins (bytes rest) (o.begins rest);
      said = λ st p rest us ends d. regroup _ _ _ _ (bytes rest) refl (o.said st p rest us ends d);
    }

enclosed_bytes : (t rest : List ℕ) → 40 ∷ (t ++ (41 ∷ rest)) ≡ (codes "(" ++ t ++ codes ")") ++ rest
enclosed_bytes t rest = ap (λ z. 40 ∷ z) (sym (append_assoc t (41 ∷ []) rest))

inner_enclosed : (a : Tree) → Outer a → is_enclosed a ≡ true → Inner a
inner_enclosed a o h =
    let bytes : (rest : List ℕ) → 40 ∷ ahead (pieces_of a) (41 ∷ rest) ≡ expr_text false a ++ rest =
    λ rest. ap (λ z. 40 ∷ z) (text_ahead a (41 ∷ rest)) ∙ enclosed_bytes (expr_text true a) rest ∙ ap (λ z. z ++ rest) (sym (enclosed_text a h)) in
    record {
      tokens = t.Symbol (sign.Open bracket.Round) ∷ (o.tokens ++ (t.Symbol (sign.Close bracket.Round) ∷ []));
      spelled = s.parens o.spelled;
      no_binder = refl;
      begins = λ rest. subst Begins (bytes rest) (refl, refl, refl);
      said = λ st p rest us ends d.
          regroup _ _ _ _ (bytes rest) (ap (λ z. t.Symbol (sign.Open bracket.Round) ∷ z) (sym (append_assoc o.tokens (t.Symbol (sign.Close bracket.Round) ∷ []) us)))
          (round_open (ahead (pieces_of a) (41 ∷ rest)) (o.begins (41 ∷ rest)) (o.said _ false (41 ∷ rest) (t.Symbol (sign.Close bracket.Round) ∷ us) (refl, refl) (round_close rest d)));
    }

inner_by : (a : Tree) (c : Bool) → is_enclosed a ≡ c → Outer a → Inner a
inner_by a true h o = inner_enclosed a o h
inner_by a false h o = inner_closed a o h

pub inner_of : (a : Tree) → Outer a → Inner a
inner_of a o = inner_by a (is_enclosed a) refl o

pub over_of : (a : Tree) → Inner a → Over a
over_of a i = record { tokens = i.tokens; range = s.any i.spelled; said = i.said }

-- an outermost expression as text
pub outer_said : (a : Tree) (o : Outer a) → Says (λ rest. expr_text true a ++ rest) o.tokens
outer_said a o st p rest us ends d = regroup _ _ _ _ (text_ahead a rest) refl (o.said st p rest us ends d)

-- a front that begins with no name and `\in`, before another token than `\in`
pub still_no_binder : (xs : List Token) (k : Token) (ys : List Token) → is_name k ≡ false → is_sign (sign.Infix op.In) k ≡ false → begins_binder xs ≡ false → begins_binder (xs ++ (k ∷ ys)) ≡ false
still_no_binder [] k ys n c h = ap (λ z. z && sees (sign.Infix op.In) ys) n
still_no_binder (a ∷ []) k ys n c h = ap (λ z. is_name a && z) c ∙ and_false (is_name a)
  where
    and_false : (b : Bool) → (b && false) ≡ false
    and_false true = refl
    and_false false = refl
still_no_binder (a ∷ (b ∷ xs)) k ys n c h = h

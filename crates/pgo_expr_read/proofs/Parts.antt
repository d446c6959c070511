-- Taking a reader's steps apart.
use Rattle.std.proofs.Common.{◌≡◌, ℕ, ◌+◌, ◌<◌, true, false, List, [], ◌∷◌, Option, Some, None, refl, ap, sym, ◌∙◌, cond, nat_lt}
use Rattle.std.proofs.lemmas.Bool.{ltb-true}
use Rattle.pgo_base.specs.Tree.{Tree}
use Rattle.pgo_lexer.specs.declared.symbol.Symbol.{Symbol}
use Rattle.pgo_lexer.specs.declared.token.Token.{Token}
use Rattle.pgo_lexer.specs.declared.token.Token.TheVariants as t
use Rattle.pgo_expr_read.specs.declared.table.Form.{Form}
use Rattle.pgo_expr_read.specs.declared.read.Ending.{Ending}
use Rattle.pgo_expr_read.specs.declared.read.Ending.TheVariants as ending
use Rattle.pgo_expr_read.specs.declared.read.Read.{Read}
use Rattle.pgo_expr_read.specs.Lookahead.{sees}
use Rattle.pgo_expr_read.specs.Reading.{Outcome, Parser, and_then, expect, list_next, list_close, raised, give_at, name, text, skip, past, made, is_closed}
use Rattle.pgo_expr_read.specs.Signs.{is_sign}
use Rattle.pgo_expr_read.proofs.Signs.{token_of_sign}
use Rattle.pgo_expr_read.proofs.Steps.{some_pair, if_some}

pub bind_some : {A B : Type 0} (o : Outcome A) (f : A → Parser B) (y : B × List Token) → and_then o f ≡ Some y → (p : A × List Token) × (o ≡ Some p) × (f p.0 p.1 ≡ Some y)
bind_some (Some p) f y e = (p, refl, e)
bind_some None f y e = cc

pub give_some : {A : Type 0} (o : Option A) (i : List Token) (a : A) (rest : List Token) → give_at o i ≡ Some (a, rest) → (o ≡ Some a) × (i ≡ rest)
give_some (Some b) i a rest e = let p = some_pair b a i rest e in (ap Some p.0, p.1)
give_some None i a rest e = cc

pub closed_ending : (o : Ending) → is_closed o ≡ true → o ≡ ending.Closed
closed_ending ending.Closed e = refl
closed_ending ending.Open e = cc
closed_ending ending.Case e = cc

-- a read node: below the limit, and what it is
pub raised_some : (limit : ℕ) (f : Form) (o : Ending) (h : ℕ) (a : Tree) (r : Read Tree) → raised limit f o h a ≡ Some r → (h < limit) × (r ≡ made f o (h + 1) a)
unfolding raised
raised_some limit f o h a r e = let q = if_some (nat_lt h limit) (made f o (h + 1) a) r e in (ltb-true h limit q.0, sym q.1)

pub expect_some : (v : Symbol) (i : List Token) (u : Unit {0}) (rest : List Token) → expect v i ≡ Some (u, rest) → i ≡ t.Symbol v ∷ rest
unfolding expect
expect_some v [] u rest e = cc
expect_some v (k ∷ i) u rest e =
    let q = if_some (is_sign v k) (tt, i) (u, rest) e in
    ap (λ x. x ∷ i) (token_of_sign v k q.0) ∙ ap (λ x. t.Symbol v ∷ x) (ap (λ (p : Unit {0} × List Token). p.1) q.1)

pub list_next_some : (i : List Token) (u : Unit {0}) (rest : List Token) → list_next i ≡ Some (u, rest) → i ≡ t.ListNext ∷ rest
list_next_some (t.ListNext ∷ i) u rest e = ap (λ x. t.ListNext ∷ x) (some_pair tt u i rest e).1
list_next_some [] u rest e = cc
list_next_some (_ ∷ i) u rest e = cc

pub list_close_some : (i : List Token) (u : Unit {0}) (rest : List Token) → list_close i ≡ Some (u, rest) → i ≡ t.ListClose ∷ rest
list_close_some (t.ListClose ∷ i) u rest e = ap (λ x. t.ListClose ∷ x) (some_pair tt u i rest e).1
list_close_some [] u rest e = cc
list_close_some (_ ∷ i) u rest e = cc

pub name_some : (i : List Token) (x : List ℕ) (rest : List Token) → name i ≡ Some (x, rest) → i ≡ t.Name x ∷ rest
name_some (t.Name y ∷ i) x rest e = let p = some_pair y x i rest e in ap (λ z. t.Name z ∷ i) p.0 ∙ ap (λ z. t.Name x ∷ z) p.1
name_some [] x rest e = cc
name_some (_ ∷ i) x rest e = cc

pub text_some : (i : List Token) (x : List ℕ) (rest : List Token) → text i ≡ Some (x, rest) → i ≡ t.Text x ∷ rest
text_some (t.Text y ∷ i) x rest e = let p = some_pair y x i rest e in ap (λ z. t.Text z ∷ i) p.0 ∙ ap (λ z. t.Text x ∷ z) p.1
text_some [] x rest e = cc
text_some (_ ∷ i) x rest e = cc

-- what comes after a sign that is seen
pub past_seen : (v : Symbol) (i : List Token) → sees v i ≡ true → i ≡ t.Symbol v ∷ past v i
unfolding past
past_seen v [] e = cc
past_seen v (k ∷ i) e = rw e (ap (λ x. x ∷ i) (token_of_sign v k e))

pub past_unseen : (v : Symbol) (i : List Token) → sees v i ≡ false → past v i ≡ i
unfolding past
past_unseen v i e = ap (λ b. cond b (skip i) i) e

-- What is read is what is spelled.
use Rattle.std.proofs.Common.{◌≡◌, ◌≤◌, ℕ, Bool, true, false, List, [], ◌∷◌, ◌++◌, length, Some, None, Result, Ok, Err, IfOk, refl, ap, sym, ◌∙◌, subst, arith, cond, nat_eq}
use Rattle.std.proofs.lemmas.Bool.{eqb-true}
use Rattle.std.proofs.lemmas.List.{append-nil}
use Rattle.pgo_base.specs.Tree.{Tree}
use Rattle.pgo_base.specs.declared.expr.Expr.{Expr}
use Rattle.pgo_base.specs.ExprView.{tree}
use Rattle.pgo_lexer.specs.declared.token.Token.{Token}
use Rattle.pgo_lexer.specs.declared.token.Lexeme.{Lexeme}
use Rattle.pgo_lexer.specs.declared.errors.TextStop.{TextStop}
use Rattle.pgo_lexer.specs.declared.errors.TextStop.TheVariants.{Syntax, NoMemory}
use Rattle.pgo_lexer.specs.Tokenized.{Tokenized}
use Rattle.pgo_lexer.specs.Tokenized as lexer
use Rattle.pgo_expr_read.specs.declared.table.Form.{Form}
use Rattle.pgo_expr_read.specs.declared.read.Ending.{Ending}
use Rattle.pgo_expr_read.specs.declared.read.Read.{Read}
use Rattle.pgo_expr_read.specs.Fronts.{IsFront, Ended}
use Rattle.pgo_expr_read.specs.Heights.{height}
use Rattle.pgo_expr_read.specs.Lookahead as look
use Rattle.pgo_expr_read.specs.Lookahead.{tokens_of, has_mapped}
use Rattle.pgo_expr_read.specs.Reading.{MakesAs, Outcome, all, all_of, all_plain, expr, made}
use Rattle.pgo_expr_read.specs.Spells.{Spells, Spelled}
use Rattle.pgo_expr_read.specs.Texts.{SpellsText, IsOrNoMemory, most_tokens}
use Rattle.pgo_expr_read.proofs.Steps.{if_some}
use Rattle.pgo_expr_read.proofs.Sound.{sound}
use Rattle.pgo_expr_read.proofs.Reach.{whole, inside}
use Rattle.pgo_expr_read.proofs.Complete.{reach}

no_rest : (rest front tokens : List Token) → nat_eq (length rest) 0 ≡ true → tokens ≡ front ++ rest → tokens ≡ front
no_rest [] front tokens e split = split ∙ append-nil front
no_rest (a ∷ rest) front tokens e split = absurd (let z = eqb-true (length (a ∷ rest)) 0 e in omega (arith, z))

found_of : (limit : ℕ) (tokens : List Token) (o : Outcome (Read Tree)) (a : Tree) → expr limit 0 tokens ≡ o → all_of o ≡ Some a → Spells limit tokens a
found_of limit tokens None a is e = cc
found_of limit tokens (Some p) a is e =
    let q = if_some (nat_eq (length p.1) 0) p.0.tree a e in
    let g = (sound limit 0 tokens p.0 p.1 is).0 in
    let front = no_rest p.1 g.front tokens q.0 g.split in
    let P : List Token → Type 0 = λ x. Spelled p.0.form p.0.ending x p.0.tree in
    let here : Spells limit tokens p.0.tree = (p.0.form, p.0.ending, subst P (sym front) g.spelled, let x = g.height in let y = g.within in omega (arith, x, y)) in
    let Q : Tree → Type 0 = λ x. Spells limit tokens x in
    subst Q q.1 here

pub found : (limit : ℕ) (tokens : List Token) (a : Tree) → all limit tokens ≡ Some a → Spells limit tokens a
unfolding all
found limit tokens a e = found_of limit tokens (expr limit 0 tokens) a refl e

pub only : (limit : ℕ) (tokens : List Token) (a : Tree) → Spells limit tokens a → all limit tokens ≡ Some a
unfolding all
only limit tokens a h =
    let r = whole h.0 h.1 tokens a (reach h.2) limit 0 [] h.3 (omega arith) tt tt in
    let e = ap (λ x. expr limit 0 x) (sym (append-nil tokens)) ∙ r in
    ap all_of e

pub one : (limit : ℕ) (tokens : List Token) (a b : Tree) → Spells limit tokens a → Spells limit tokens b → a ≡ b
one limit tokens a b h k = let e = sym (only limit tokens a h) ∙ only limit tokens b k in cc

-- ---- texts

-- what a text of its own spells is read, and no `$variable` or `$value` is among its tokens
plain_some : (limit : ℕ) (ts : List Token) (b : Bool) (a : Tree) → has_mapped ts ≡ b → cond b None (all limit ts) ≡ Some a → (has_mapped ts ≡ false) × (all limit ts ≡ Some a)
plain_some limit ts true a is e = cc
plain_some limit ts false a is e = (is, e)

pub found_text : (limit : ℕ) (text : List ℕ) (ts : List Lexeme) (r : Result Expr TextStop) → Tokenized most_tokens text ts → MakesAs tree (all_plain limit (tokens_of ts)) r → IfOk r (λ e. SpellsText limit text (tree e))
found_text limit text ts (Ok e) t made =
    let q = plain_some limit (tokens_of ts) (has_mapped (tokens_of ts)) (tree e) refl made in
    record { tokens = ts; tokenized = t; spells = found limit (tokens_of ts) (tree e) q.1; plain = q.0 }
found_text limit text ts (Err stop) t made = tt

only_plain : (limit : ℕ) (ts : List Token) (a : Tree) → Spells limit ts a → has_mapped ts ≡ false → all_plain limit ts ≡ Some a
only_plain limit ts a h plain = ap (λ b. cond b None (all limit ts)) plain ∙ only limit ts a h

only_tokens : (limit : ℕ) (ts : List Lexeme) (r : Result Expr TextStop) → MakesAs tree (all_plain limit (tokens_of ts)) r → (a : Tree) → Spells limit (tokens_of ts) a → has_mapped (tokens_of ts) ≡ false → IsOrNoMemory r a
only_tokens limit ts (Ok e) made a h plain = let q = sym made ∙ only_plain limit (tokens_of ts) a h plain in cc
only_tokens limit ts (Err (Syntax n)) made a h plain = absurd (let q = sym made ∙ only_plain limit (tokens_of ts) a h plain in cc)
only_tokens limit ts (Err NoMemory) made a h plain = tt

pub only_text : (limit : ℕ) (text : List ℕ) (ts : List Lexeme) (r : Result Expr TextStop) → ((us : List Lexeme) → Tokenized most_tokens text us → ts ≡ us) → MakesAs tree (all_plain limit (tokens_of ts)) r
    → (a : Tree) → SpellsText limit text a → IsOrNoMemory r a
only_text limit text ts r same made a h =
    let P : List Lexeme → Type 0 = λ x. Spells limit (tokens_of x) a in
    let Q : List Lexeme → Type 0 = λ x. has_mapped (tokens_of x) ≡ false in
    let is = sym (same h.tokens h.tokenized) in
    only_tokens limit ts r made a (subst P is h.spells) (subst Q is h.plain)

-- without tokens there is no expression
pub only_err : (limit : ℕ) (text : List ℕ) (stop : TextStop) → ((us : List Lexeme) → Tokenized most_tokens text us → lexer.IsOrNoMemory (Err stop) us) → (a : Tree) → SpellsText limit text a → IsOrNoMemory (Err stop) a
only_err limit text (Syntax n) only a h = absurd (only h.tokens h.tokenized)
only_err limit text NoMemory only a h = tt

pub one_text : ((limit : ℕ) (text : List ℕ) (a b : List Lexeme) → Tokenized limit text a → Tokenized limit text b → a ≡ b)
    → (limit : ℕ) (text : List ℕ) (a b : Tree) → SpellsText limit text a → SpellsText limit text b → a ≡ b
one_text same limit text a b h k =
    let P : List Lexeme → Type 0 = λ x. Spells limit (tokens_of x) a in
    one limit (tokens_of k.tokens) a b (subst P (same most_tokens text h.tokens k.tokens h.tokenized k.tokenized) h.spells) k.spells

-- ---- fronts

pub front : (limit least : ℕ) (i : List Token) (r : Read Tree) (rest : List Token) → expr limit least i ≡ Some (r, rest) → IsFront limit least i r rest
front limit least i r rest got =
    let g = sound limit least i r rest got in
    record { front = g.0.front; split = g.0.split; spelled = g.0.spelled; height = g.0.height; within = g.0.within; level = g.1 }

pub read_whole : (f : Form) (o : Ending) (front : List Token) (a : Tree) → Spelled f o front a → (limit : ℕ) (rest : List Token) → height a ≤ limit → Ended o (look.after rest) → expr limit 0 (front ++ rest) ≡ Some (made f o (height a) a, rest)
read_whole f o front a d limit rest h ends = inside f o front a (reach d) limit rest h ends

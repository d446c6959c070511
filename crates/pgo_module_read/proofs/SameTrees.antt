-- Well-formed expressions of one canonical text are the same.
use Rattle.std.proofs.Common.{◌≡◌, ◌+◌, ℕ, true, false, List, [], ap, sym, ◌∙◌, subst, arith}
use Rattle.std.proofs.lemmas.List.{append-nil}
use Rattle.pgo_base.specs.Tree.{Tree}
use Rattle.pgo_lexer.specs.declared.token.Token.{Token}
use Rattle.pgo_lexer.proofs.SignEnds.{sign_ends}
use Rattle.pgo_lexer.proofs.TokensExact.{one_lexed}
use Rattle.pgo_expr_read.specs.declared.table.Form.{Form}
use Rattle.pgo_expr_read.specs.declared.table.Form.TheVariants as form
use Rattle.pgo_expr_read.specs.declared.read.Ending.{Ending}
use Rattle.pgo_expr_read.specs.declared.read.Ending.TheVariants as ending
use Rattle.pgo_expr_read.specs.Heights.{height}
use Rattle.pgo_expr_read.specs.Lookahead.{tokens_of}
use Rattle.pgo_expr_read.specs.Spells.{Spelled}
use Rattle.pgo_expr_read.proofs.Exact.{one}
use Rattle.pgo_model.specs.ExprText.{expr_text}
use Rattle.pgo_model.specs.Names.{same_bytes-self, same_bytes-is}
use Rattle.pgo_expr_write.specs.WellFormed.{IsWellFormed}
use Rattle.pgo_expr_write.proofs.Canonical.{outer}
use Rattle.pgo_expr_write.proofs.Inners.{inner_of, regroup}
use Rattle.pgo_expr_write.proofs.Lexed.{Lexed, end, placed}
use Rattle.pgo_module_read.specs.Building.{same_tree}

-- the tokens of a canonical text
record Tokens (text : List ℕ) (a : Tree) : Type 0 where
  tokens : List Token
  outermost : Form
  last : Ending
  spelled : Spelled outermost last tokens a
  lexed : Lexed [] false text tokens

tokens_in : (a : Tree) → IsWellFormed a → Tokens (expr_text false a) a
tokens_in a h =
    let i = inner_of a (outer a h) in
    record { tokens = i.tokens; outermost = form.Closed; last = ending.Closed; spelled = i.spelled; lexed = regroup _ _ _ _ (append-nil (expr_text false a)) (append-nil i.tokens) (i.said [] false [] [] tt end) }

one_tree : (text : List ℕ) (a b : Tree) → Tokens text a → Tokens text b → a ≡ b
one_tree text a b x y =
    let p = placed sign_ends x.lexed 0 0 in
    let q = placed sign_ends y.lexed 0 0 in
    let lexemes : p.lexemes ≡ q.lexemes = one_lexed 0 0 text p.lexemes q.lexemes p.lexed q.lexed in
    let same : y.tokens ≡ x.tokens = sym q.same ∙ ap tokens_of (sym lexemes) ∙ p.same in
    let P : List Token → Type 0 = λ z. Spelled y.outermost y.last z b in
    one (height a + height b) x.tokens a b (x.outermost, x.last, x.spelled, omega arith) (y.outermost, y.last, subst P same y.spelled, omega arith)

pub tree_is : (a b : Tree) → IsWellFormed a → IsWellFormed b → same_tree a b ≡ true → a ≡ b
tree_is a b h k e =
    let text : expr_text false b ≡ expr_text false a = sym (same_bytes-is (expr_text false a) (expr_text false b) e) in
    let P : List ℕ → Type 0 = λ z. Tokens z b in
    one_tree (expr_text false a) a b (tokens_in a h) (subst P text (tokens_in b k))

pub same_self : (a : Tree) → same_tree a a ≡ true
same_self a = same_bytes-self (expr_text false a)

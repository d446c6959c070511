-- A body that is written as bullets: its items are the conjunction again, and its marks are those of one list.
use Rattle.std.proofs.Common.{◌≡◌, ℕ, ◌+◌, Bool, true, false, List, [], ◌∷◌, ◌++◌, refl, sym, ap, ◌∙◌, subst, arith, append_assoc}
use Rattle.pgo_base.specs.declared.expr.Infix.TheVariants as op
use Rattle.pgo_base.specs.Tree.{Tree, binary}
use Rattle.pgo_model.specs.Module.{joined_by, all_of}
use Rattle.pgo_model.specs.ModuleText.{conjuncts}
use Rattle.pgo_lexer.specs.declared.symbol.Junction.TheVariants as j
use Rattle.pgo_lexer.specs.declared.kind.Kind.TheVariants as kind
use Rattle.pgo_lexer.specs.declared.token.Lexeme.{Lexeme}
use Rattle.pgo_lexer.specs.declared.token.Token.TheVariants as t
use Rattle.pgo_lexer.specs.Kinds.{kind_of}
use Rattle.pgo_lexer.specs.Layout.{Marked, Bullets, Past, mark_at, list_close}
use Rattle.pgo_lexer.specs.Layout as m
use Rattle.pgo_expr_read.specs.declared.table.Form.{Form}
use Rattle.pgo_expr_read.specs.declared.table.Form.TheVariants as form
use Rattle.pgo_expr_read.specs.declared.read.Ending.{Ending}
use Rattle.pgo_expr_read.specs.declared.read.Ending.TheVariants as ending
use Rattle.pgo_expr_read.specs.Kinds as kinds
use Rattle.pgo_expr_read.specs.Lookahead.{tokens_of, has_mapped}
use Rattle.pgo_expr_read.specs.Spells.{Spelled, Behind, joined}
use Rattle.pgo_expr_read.specs.Spells as e
use Rattle.pgo_module_write.proofs.Blocks.{tokens_append, both_plainly}

-- the items of a conjunction along its left side, joined again from the left, are the conjunction
pub joined_again : (a : Tree) (rest : List Tree) → all_of (conjuncts a rest) ≡ joined_by op.And a rest
joined_again (binary op.And a b) rest = joined_again a (b ∷ rest)
joined_again _ rest = refl

-- joined by the reader is joined by the writer
pub same_joined : (a : Tree) (bs : List Tree) → joined j.And a bs ≡ joined_by op.And a bs
same_joined a [] = refl
same_joined a (b ∷ bs) = same_joined (binary op.And a b) bs

-- an item: tokens right of the bullet's column, with no bullet among them, that spell it
pub record IsItem (c : ℕ) (xs : List Lexeme) (a : Tree) : Type 0 where
  pub form : Form
  pub ending : Ending
  pub behind : Bool
  pub marked : Marked false (c + 1) false xs xs behind
  pub spelled : Spelled form ending (tokens_of xs) a
  pub plain : has_mapped (tokens_of xs) ≡ false

-- further bullets in this column: the tokens, the same with marks, and the items
pub data Rows (c : ℕ) : List Lexeme → List Lexeme → List Tree → Type 0 where
  no_rows : Rows c [] [] []
  row : {r : Lexeme} {xs rs ms : List Lexeme} {a : Tree} {as' : List Tree} → kind_of r.token ≡ kind.Junction j.And → r.column ≡ c → IsItem c xs a → Rows c rs ms as'
      → Rows c (r ∷ (xs ++ rs)) (mark_at t.ListNext r ∷ (xs ++ ms)) (a ∷ as')

rows_bullets : {c : ℕ} {rs ms : List Lexeme} {as' : List Tree} → Rows c rs ms as' → (p : Bool) → (q : Bool) × Bullets j.And c p rs ms q
rows_bullets no_rows p = (p, m.none)
rows_bullets (row is here i d) p = let r = rows_bullets d i.behind in (r.0, m.next is here i.marked r.1)

rows_behind : {c : ℕ} {rs ms : List Lexeme} {as' : List Tree} → Rows c rs ms as' → (o : Ending) → (u : Ending) × Behind kinds.item o u (tokens_of ms) as'
rows_behind no_rows o = (o, e.none)
rows_behind (row {xs = xs} {ms = ms} {a = a} {as' = as'} is here i d) o =
    let r = rows_behind d i.ending in
    (r.0, subst (λ ts. Behind kinds.item o r.0 (t.ListNext ∷ ts) (a ∷ as')) (sym (tokens_append xs ms)) (e.one_more refl (e.item i.spelled) r.1))

pub rows_plain : {c : ℕ} {rs ms : List Lexeme} {as' : List Tree} → Rows c rs ms as' → has_mapped (tokens_of ms) ≡ false
rows_plain no_rows = refl
rows_plain (row {xs = xs} {ms = ms} is here i d) = both_plainly xs ms i.plain (rows_plain d)

-- a list of bullets: its tokens with marks spell the conjunction, whatever follows that is past it
pub record IsList (first : Lexeme) (xs rs : List Lexeme) (a : Tree) (as' : List Tree) : Type 0 where
  pub tokens : List Lexeme
  pub marked : (rest ns : List Lexeme) (q : Bool) → Past j.And first.column rest → ((p : Bool) → Marked true 0 p rest ns q) → Marked true 0 false (first ∷ (xs ++ (rs ++ rest))) (tokens ++ ns) q
  pub spelled : Spelled form.Closed ending.Closed (tokens_of tokens) (joined j.And a as')
  pub plain : has_mapped (tokens_of tokens) ≡ false

pub list_of : (first : Lexeme) (xs rs ms : List Lexeme) (a : Tree) (as' : List Tree) → kind_of first.token ≡ kind.Junction j.And → IsItem first.column xs a → Rows first.column rs ms as'
    → IsList first xs rs a as'
list_of first xs rs ms a as' is i d =
    let b = rows_bullets d i.behind in
    let u = rows_behind d i.ending in
    let tokens = mark_at (t.ListOpen j.And) first ∷ (xs ++ (ms ++ (list_close ∷ []))) in
    let nest : (ns : List Lexeme) → xs ++ (ms ++ (list_close ∷ ns)) ≡ (xs ++ (ms ++ (list_close ∷ []))) ++ ns = λ ns. sym (simp append_assoc) in
    let texts : tokens_of (xs ++ (ms ++ (list_close ∷ []))) ≡ tokens_of xs ++ (tokens_of ms ++ (t.ListClose ∷ [])) =
    tokens_append xs (ms ++ (list_close ∷ [])) ∙ ap (λ ts. tokens_of xs ++ ts) (tokens_append ms (list_close ∷ [])) in
    record {
      tokens = tokens;
      marked = λ rest ns q past then. subst (λ ls. Marked true 0 false (first ∷ (xs ++ (rs ++ rest))) (mark_at (t.ListOpen j.And) first ∷ ls) q) (nest ns) (m.list (omega arith) is i.marked b.1 past (then b.0));
      spelled = subst (λ ts. Spelled form.Closed ending.Closed (t.ListOpen j.And ∷ ts) (joined j.And a as')) (sym texts) (e.junction i.spelled u.1);
      plain = both_plainly xs (ms ++ (list_close ∷ [])) i.plain (both_plainly ms (list_close ∷ []) (rows_plain d) refl);
    }

-- What is spelled is read: how reading comes to the end of a front of the tokens.
use Rattle.std.proofs.Common.{inl, inr, ◌≡◌, ℕ, zero, suc, ◌+◌, ◌<◌, ◌≤◌, Bool, true, false, ◌&&◌, List, [], ◌∷◌, ◌++◌, length, Option, Some, None, refl, ap, sym, ◌∙◌, arith, cond, nat_le}
use Rattle.std.proofs.lemmas.Bool.{lt-ltb, le-leb}
use Rattle.std.proofs.lemmas.Bool.Decides.{leb_tells}
use Rattle.std.proofs.lemmas.List.{append_assoc, append-nil, length-append}
use Rattle.pgo_base.specs.Tree.{Tree, no_trees}
use Rattle.pgo_base.specs.Tree as e
use Rattle.pgo_lexer.specs.declared.symbol.Bracket.TheVariants as b
use Rattle.pgo_lexer.specs.declared.symbol.Symbol.TheVariants as y
use Rattle.pgo_lexer.specs.declared.symbol.Symbol.{Symbol}
use Rattle.pgo_lexer.specs.declared.token.Token.{Token}
use Rattle.pgo_lexer.specs.declared.token.Token.TheVariants as t
use Rattle.pgo_expr_read.specs.declared.table.Operator.{Operator}
use Rattle.pgo_expr_read.specs.declared.table.Operator.TheVariants as operator
use Rattle.pgo_expr_read.specs.declared.table.Form.{Form}
use Rattle.pgo_expr_read.specs.declared.table.Form.TheVariants as form
use Rattle.pgo_expr_read.specs.declared.lookahead.Next.{Next}
use Rattle.pgo_expr_read.specs.declared.lookahead.Next.TheVariants as next
use Rattle.pgo_expr_read.specs.declared.lookahead.Opener.{Opener}
use Rattle.pgo_expr_read.specs.declared.lookahead.Opener.TheVariants as opener
use Rattle.pgo_expr_read.specs.declared.lists.Between.{Between}
use Rattle.pgo_expr_read.specs.declared.lists.Between.TheVariants as separator
use Rattle.pgo_expr_read.specs.declared.read.Ending.{Ending}
use Rattle.pgo_expr_read.specs.declared.read.Ending.TheVariants as ending
use Rattle.pgo_expr_read.specs.declared.read.Read.{Read}
use Rattle.pgo_expr_read.specs.Lookahead as look
use Rattle.pgo_expr_read.specs.Lookahead.{sees}
use Rattle.pgo_expr_read.specs.Heights.{height}
use Rattle.pgo_expr_read.specs.Kinds.{Name, tokens_between, is_case}
use Rattle.pgo_expr_read.specs.Kinds as kind
use Rattle.pgo_expr_read.specs.Table.{low, takes_left, form_low}
use Rattle.pgo_expr_read.specs.Spells.{more_names, opened}
use Rattle.pgo_expr_read.specs.Spells as s
use Rattle.pgo_expr_read.specs.Reading.{Parser, Outcome, and_then, pure, give_at, skip, past, expect, made, raised, is_closed, goes_on, on_opener, openers, folded, pass_at, one_more_name, names, primary, operation, turn, more, all_more, close_by, close, closes, level, expr}
use Rattle.pgo_expr_read.specs.Fronts.{Ended}
use Rattle.pgo_expr_read.proofs.Steps.{some_pair, next_step, fold_ends, fold_goes}
use Rattle.pgo_expr_read.proofs.Parts.{bind_some, past_unseen}
use Rattle.pgo_expr_read.proofs.Signs.{own_sign}

-- what is read of these tokens
abbrev pub read : Form → Ending → Tree → Read Tree
read f o a = made f o (height a) a

-- what follows can only take the expression as a whole on its left
abbrev pub Quiet : Form → Ending → Next → Type 0
Quiet f o (next.Operator op) = (o ≡ ending.Closed) × (takes_left op f ≡ true)
Quiet f o next.Index = (o ≡ ending.Closed) × (32 ≤ form_low f)
Quiet f o next.Field = (o ≡ ending.Closed) × (32 ≤ form_low f)
Quiet f o next.Arm = is_case o ≡ false
Quiet f o next.Tight = ⊥
Quiet f o next.End = Unit {0}

-- what follows is no part of an expression at this level
abbrev pub Stops : ℕ → Next → Type 0
Stops least (next.Operator op) = low op < least
Stops least next.Index = ⊥
Stops least next.Field = ⊥
Stops least _ = Unit {0}

-- reading comes to the end of the front, with its tree on the left
pub record Comes (l least : ℕ) (f : Form) (o : Ending) (front : List Token) (a : Tree) (rest : List Token) : Type 0 where
  pub turns : ℕ
  pub enough : length rest ≤ turns
  pub comes : level (suc l) (expr l) least (front ++ rest) ≡ more (suc l) (expr l) least turns (read f o a) rest

abbrev pub Reaches : Form → Ending → List Token → Tree → Type 0
Reaches f o front a = (l least : ℕ) (rest : List Token) → height a ≤ suc l → least ≤ form_low f → Quiet f o (look.after rest) → Comes l least f o front a rest

-- ---- single steps

pub expect_gives : (v : Symbol) (i : List Token) → expect v (t.Symbol v ∷ i) ≡ Some (tt, i)
unfolding expect
expect_gives v i = ap (λ b. cond b (Some (tt, i)) None) (own_sign v)

pub raised_gives : (limit : ℕ) (f : Form) (o : Ending) (h : ℕ) (a : Tree) → h + 1 ≡ height a → height a ≤ limit → raised limit f o h a ≡ Some (read f o a)
unfolding raised
raised_gives limit f o h a same low =
    let b : h < limit = omega (arith, same, low) in
    ap (λ b. cond b (Some (made f o (h + 1) a)) None) (lt-ltb h limit b) ∙ ap (λ x. Some (made f o x a)) same

pub node_gives : (limit : ℕ) (f : Form) (o : Ending) (h : ℕ) (a : Tree) (i : List Token) → h + 1 ≡ height a → height a ≤ limit → give_at (raised limit f o h a) i ≡ Some (read f o a, i)
node_gives limit f o h a i same low = ap (λ z. give_at z i) (raised_gives limit f o h a same low)

pub eat_false : {B : Type 0} (v : Symbol) (p q : Parser B) (i : List Token) → sees v i ≡ false → (cond {A = Parser B} (sees v i) p q) (past v i) ≡ q i
eat_false {B} v p q i h = ap (λ b. (cond {A = Parser B} b p q) (past v i)) h ∙ ap q (past_unseen v i h)

leb_false : (a b : ℕ) → b < a → nat_le a b ≡ false
leb_false a b h = elim (leb_tells a b) [ inl k ↦ absurd (omega (arith, k.1)) | inr k ↦ k.0 ]

and_false : (b : Bool) → (b && false) ≡ false
and_false true = refl
and_false false = refl

not_goes_on : (least : ℕ) (r : Read Tree) (op : Operator) → low op < least → goes_on least r op ≡ false
unfolding goes_on
not_goes_on least r op h = ap (λ x. is_closed r.ending && (x && takes_left op r.form)) (leb_false least (low op) h) ∙ and_false (is_closed r.ending)

turn_stays : (limit : ℕ) (ex : ℕ → Parser (Read Tree)) (least : ℕ) (left : Read Tree) (rest : List Token) → Stops least (look.after rest) → turn limit ex least left rest ≡ Some ((left, false), rest)
unfolding turn
turn_stays limit ex least left [] h = refl
turn_stays limit ex least left (t.Symbol (y.Infix o) ∷ rest) h = ap (λ b. cond b (and_then (operation limit ex left (operator.Infix o) (t.Symbol (y.Infix o) ∷ rest)) (λ r. pure (r, true))) (Some ((left, false), t.Symbol (y.Infix o) ∷ rest))) (not_goes_on least left (operator.Infix o) h)
turn_stays limit ex least left (t.Symbol y.Product ∷ rest) h = ap (λ b. cond b (and_then (operation limit ex left operator.Product (t.Symbol y.Product ∷ rest)) (λ r. pure (r, true))) (Some ((left, false), t.Symbol y.Product ∷ rest))) (not_goes_on least left operator.Product h)
turn_stays limit ex least left (t.Symbol (y.Open b.Square) ∷ rest) h = absurd h
turn_stays limit ex least left (t.Symbol y.Dot ∷ rest) h = absurd h
turn_stays limit ex least left (_ ∷ rest) h = refl

pub stops : (limit : ℕ) (ex : ℕ → Parser (Read Tree)) (least k : ℕ) (left : Read Tree) (rest : List Token) → Stops least (look.after rest) → more limit ex least k left rest ≡ Some (left, rest)
unfolding more
stops limit ex least zero left rest h = refl
stops limit ex least (suc k) left rest h = next_step _ _ _ _ _ (turn_stays limit ex least left rest h) refl

-- each tree has a height
pub tall : (a : Tree) → 0 < height a
tall (e.name x) = omega arith
tall (e.primed x) = omega arith
tall (e.number x) = omega arith
tall (e.text x) = omega arith
tall (e.truth x) = omega arith
tall e.at = omega arith
tall (e.word x) = omega arith
tall (e.unary x z) = omega arith
tall (e.binary x z u) = omega arith
tall (e.product x) = omega arith
tall (e.cond_of x z u) = omega arith
tall (e.case_of x) = omega arith
tall (e.case_other x z) = omega arith
tall (e.let_in x z) = omega arith
tall (e.quantified x z u) = omega arith
tall (e.choose x z u) = omega arith
tall (e.tuple x) = omega arith
tall (e.set_of x) = omega arith
tall (e.filter_of x z u) = omega arith
tall (e.image x z u) = omega arith
tall (e.fun_of x z) = omega arith
tall (e.fun_set x z) = omega arith
tall (e.record_of x) = omega arith
tall (e.record_set x) = omega arith
tall (e.except x z) = omega arith
tall (e.index x e.no_trees) = omega arith
tall (e.index x (e.more_trees z e.no_trees)) = omega arith
tall (e.index x (e.more_trees z (e.more_trees u v))) = omega arith
tall (e.field x z) = omega arith
tall (e.call x z) = omega arith
tall (e.unchanged x) = omega arith

-- an expression that is followed by what is no part of it is read whole
pub whole : (f : Form) (o : Ending) (front : List Token) (a : Tree) → Reaches f o front a → (l least : ℕ) (rest : List Token) → height a ≤ l → least ≤ form_low f → Quiet f o (look.after rest) → Stops least (look.after rest) → expr l least (front ++ rest) ≡ Some (read f o a, rest)
unfolding expr
whole f o front a r zero least rest h m q st = absurd (let z = tall a in omega (arith, z, h))
whole f o front a r (suc l) least rest h m q st =
    let c = r l least rest h m q in
    c.comes ∙ stops (suc l) (expr l) least c.turns (read f o a) rest st

pub ended_quiet : (f : Form) (o : Ending) (x : Next) → Ended o x → Quiet f o x
ended_quiet f o next.Arm h = h
ended_quiet f o next.End h = tt
ended_quiet f o (next.Operator op) h = absurd h
ended_quiet f o next.Index h = absurd h
ended_quiet f o next.Field h = absurd h
ended_quiet f o next.Tight h = absurd h

pub ended_stops : (o : Ending) (x : Next) → Ended o x → Stops 0 x
ended_stops o next.Arm h = tt
ended_stops o next.End h = tt
ended_stops o (next.Operator op) h = absurd h
ended_stops o next.Index h = absurd h
ended_stops o next.Field h = absurd h
ended_stops o next.Tight h = absurd h

-- the same before what ends any expression
pub inside : (f : Form) (o : Ending) (front : List Token) (a : Tree) → Reaches f o front a → (l : ℕ) (rest : List Token) → height a ≤ l → Ended o (look.after rest) → expr l 0 (front ++ rest) ≡ Some (read f o a, rest)
inside f o front a r l rest h ends = whole f o front a r l 0 rest h (omega arith) (ended_quiet f o (look.after rest) ends) (ended_stops o (look.after rest) ends)

-- an open form goes on as far as it can
pub last : (f : Form) (o : Ending) (x : Next) → Quiet form.Closed (opened o) x → Ended o x
last f ending.Closed (next.Operator op) q = absurd (let z = q.0 in cc)
last f ending.Open (next.Operator op) q = absurd (let z = q.0 in cc)
last f ending.Case (next.Operator op) q = absurd (let z = q.0 in cc)
last f ending.Closed next.Index q = absurd (let z = q.0 in cc)
last f ending.Open next.Index q = absurd (let z = q.0 in cc)
last f ending.Case next.Index q = absurd (let z = q.0 in cc)
last f ending.Closed next.Field q = absurd (let z = q.0 in cc)
last f ending.Open next.Field q = absurd (let z = q.0 in cc)
last f ending.Case next.Field q = absurd (let z = q.0 in cc)
last f ending.Closed next.Arm q = refl
last f ending.Open next.Arm q = refl
last f ending.Case next.Arm q = q
last f o next.Tight q = absurd q
last f o next.End q = tt

-- what follows a CASE ends any expression
pub last_case : (o : Ending) (x : Next) → Quiet form.Closed ending.Case x → x ≡ next.End
last_case o (next.Operator op) q = absurd (let z = q.0 in cc)
last_case o next.Index q = absurd (let z = q.0 in cc)
last_case o next.Field q = absurd (let z = q.0 in cc)
last_case o next.Arm q = absurd (let z = q in cc)
last_case o next.Tight q = absurd q
last_case o next.End q = refl

openers_none : (n : ℕ) (os : List Opener) (i : List Token) → look.opens i ≡ None → openers n os i ≡ Some (os, i)
unfolding openers
openers_none zero os i h = refl
openers_none (suc n) os i h = ap (λ x. on_opener x (λ o. openers n (o ∷ os) (skip i)) (Some (os, i))) h

pub at_first : (l least : ℕ) (f : Form) (o : Ending) (front : List Token) (a : Tree) (rest : List Token) → look.opens (front ++ rest) ≡ None → least ≤ form_low f → primary (suc l) (expr l) (front ++ rest) ≡ Some (read f o a, rest) → Comes l least f o front a rest
unfolding level closes
at_first l least f o front a rest other m got = record {
  turns = length rest;
  enough = omega arith;
  comes = next_step _ _ _ _ _ (openers_none (length (front ++ rest)) [] (front ++ rest) other) (next_step _ _ _ _ _ got (ap (λ b. (cond {A = Parser (Read Tree)} b (all_more (suc l) (expr l) least (read f o a)) (λ i. None)) rest) (le-leb least (form_low f) m)));
}

-- ---- what opens without a node

abbrev pub opener_token : Opener → Token
opener_token opener.Round = t.Symbol (y.Open b.Round)
opener_token (opener.List op) = t.ListOpen op

opens_token : (o : Opener) (i : List Token) → openers (length (opener_token o ∷ i)) [] (opener_token o ∷ i) ≡ openers (length i) (o ∷ []) i
unfolding openers
opens_token opener.Round i = refl
opens_token (opener.List op) i = refl

shift_by : (x : Option Opener) (n : ℕ) (acc more : List Opener) (i : List Token) (os : List Opener) (rest : List Token) → ((o : Opener) → openers n (o ∷ acc) (skip i) ≡ Some (os, rest) → openers n ((o ∷ acc) ++ more) (skip i) ≡ Some (os ++ more, rest))
    → on_opener x (λ o. openers n (o ∷ acc) (skip i)) (Some (acc, i)) ≡ Some (os, rest) → on_opener x (λ o. openers n (o ∷ (acc ++ more)) (skip i)) (Some (acc ++ more, i)) ≡ Some (os ++ more, rest)
shift_by (Some o) n acc more i os rest go got = go o got
shift_by None n acc more i os rest go got = let q = some_pair _ _ _ _ got in ap (λ z. Some (z ++ more, i)) q.0 ∙ ap (λ z. Some (os ++ more, z)) q.1

openers_shift : (n : ℕ) (acc more : List Opener) (i : List Token) (os : List Opener) (rest : List Token) → openers n acc i ≡ Some (os, rest) → openers n (acc ++ more) i ≡ Some (os ++ more, rest)
unfolding openers
openers_shift zero acc more i os rest got = let q = some_pair _ _ _ _ got in ap (λ z. Some (z ++ more, i)) q.0 ∙ ap (λ z. Some (os ++ more, z)) q.1
openers_shift (suc n) acc more i os rest got = shift_by (look.opens i) n acc more i os rest (λ o got. openers_shift n (o ∷ acc) more (skip i) os rest got) got

then_pure : {A : Type 0} (x : Outcome A) → and_then x pure ≡ x
then_pure (Some p) = refl
then_pure None = refl

then_then : {A : Type 0} (x : Outcome A) (f g h : A → Parser A) → ((a : A) (i : List Token) → f a i ≡ and_then (g a i) h) → and_then x f ≡ and_then (and_then x g) h
then_then (Some p) f g h k = k p.0 p.1
then_then None f g h k = refl

closes_append : (limit : ℕ) (ex : ℕ → Parser (Read Tree)) (os : List Opener) (o : Opener) (r : Read Tree) (i : List Token) → closes limit ex (os ++ o ∷ []) r i ≡ and_then (closes limit ex os r i) (close limit ex o)
unfolding closes
closes_append limit ex [] o r i = then_pure (close limit ex o r i)
closes_append limit ex (p ∷ os) o r i = then_then (close limit ex p r i) (closes limit ex (os ++ o ∷ [])) (closes limit ex os) (close limit ex o) (λ r i. closes_append limit ex os o r i)

-- what opens, with an expression behind it that is read at the least level, is read to its end, and goes on behind it
pub unroll : (limit : ℕ) (ex : ℕ → Parser (Read Tree)) (least : ℕ) (o : Opener) (i : List Token) (r : Read Tree) (j : List Token) (s : Read Tree) (rest : List Token) → least ≤ form_low s.form → level limit ex 0 i ≡ Some (r, j) → close_by limit ex o r j ≡ Some (s, rest)
    → level limit ex least (opener_token o ∷ i) ≡ more limit ex least (length rest) s rest
unfolding level close
unroll limit ex least o i r j s rest low got closing =
    let x = bind_some (openers (length i) [] i) _ _ got in
    let a = bind_some (primary limit ex x.0.1) _ _ x.2 in
    let c = bind_some (closes limit ex x.0.0 a.0.0 a.0.1) _ _ a.2 in
    let shifted = openers_shift (length i) [] (o ∷ []) i x.0.0 x.0.1 x.1 in
    let last : all_more limit ex 0 c.0.0 c.0.1 ≡ Some (r, j) = sym (ap (λ b. (cond {A = Parser (Read Tree)} b (all_more limit ex 0 c.0.0) (λ i. None)) c.0.1) (le-leb 0 (form_low c.0.0.form) (omega arith))) ∙ c.2 in
    let closed : closes limit ex (x.0.0 ++ o ∷ []) a.0.0 a.0.1 ≡ Some (s, rest) = closes_append limit ex x.0.0 o a.0.0 a.0.1 ∙ next_step _ _ _ _ _ c.1 (next_step _ _ _ _ _ last closing) in
    next_step _ _ _ _ _ (opens_token o i ∙ shifted)
    (next_step _ _ _ _ _ a.1
    (next_step _ _ _ _ _ closed
    (ap (λ b. (cond {A = Parser (Read Tree)} b (all_more limit ex least s) (λ i. None)) rest) (le-leb least (form_low s.form) low))))

-- ---- lists

more_names_give : (n : ℕ) (done xs : List Name) (rest : List Token) → sees y.Comma rest ≡ false → length (more_names xs) ≤ n → folded (sees y.Comma) one_more_name n done (more_names xs ++ rest) ≡ Some (done ++ xs, rest)
unfolding one_more_name
more_names_give n done [] rest h l = fold_ends (sees y.Comma) one_more_name n done rest h ∙ ap (λ z. Some (z, rest)) (sym (append-nil done))
more_names_give zero done (x ∷ xs) rest h l = absurd (omega (arith, l))
more_names_give (suc n) done (x ∷ xs) rest h l =
    fold_goes (sees y.Comma) one_more_name n done (done ++ x ∷ []) (t.Symbol y.Comma ∷ (t.Name x ∷ (more_names xs ++ rest))) (more_names xs ++ rest) refl (next_step _ _ _ _ _ (expect_gives y.Comma (t.Name x ∷ (more_names xs ++ rest))) refl)
    ∙ more_names_give n (done ++ x ∷ []) xs rest h (omega (arith, l))
    ∙ ap (λ z. Some (z, rest)) (append_assoc done (x ∷ []) xs)

pub names_give : (x : Name) (xs : List Name) (rest : List Token) → sees y.Comma rest ≡ false → names (s.names x xs ++ rest) ≡ Some (x ∷ xs, rest)
unfolding names
names_give x xs rest h = more_names_give (length (more_names xs ++ rest)) (x ∷ []) xs rest h (omega (arith, length-append (more_names xs) rest))

pub pass_gives : (b : Between) (i : List Token) → pass_at b (tokens_between b ++ i) ≡ Some (tt, i)
pass_gives separator.Comma i = expect_gives y.Comma i
pass_gives separator.Arm i = expect_gives y.Box i
pass_gives separator.ListNext i = refl
pass_gives separator.Name i = refl
pass_gives separator.Step i = refl

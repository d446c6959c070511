-- What the reader reads is spelled so: operators, and what opens without a node.
use Rattle.std.proofs.Common.{◌≡◌, ℕ, zero, suc, ◌+◌, ◌-◌, ◌<◌, ◌≤◌, max, Bool, true, false, List, [], ◌∷◌, ◌++◌, length, Option, Some, None, refl, ap, sym, ◌∙◌, subst, arith, cond, nat_le, nat_lt, nat_eq}
use Rattle.std.proofs.lemmas.Bool.{ltb-true, leb-true, and_parts}
use Rattle.std.proofs.lemmas.List.{append_assoc}
use Rattle.pgo_base.specs.declared.expr.Infix.TheVariants as op
use Rattle.pgo_base.specs.declared.expr.Word.{Word}
use Rattle.pgo_base.specs.Tree.{Tree, trees}
use Rattle.pgo_base.specs.Tree as e
use Rattle.pgo_lexer.specs.declared.symbol.Bracket.TheVariants as b
use Rattle.pgo_lexer.specs.declared.symbol.Junction.{Junction}
use Rattle.pgo_lexer.specs.declared.symbol.Symbol.TheVariants as y
use Rattle.pgo_lexer.specs.declared.token.Token.{Token}
use Rattle.pgo_lexer.specs.declared.token.Token.TheVariants as t
use Rattle.pgo_expr_read.specs.declared.table.Operator.{Operator}
use Rattle.pgo_expr_read.specs.declared.table.Operator.TheVariants as operator
use Rattle.pgo_expr_read.specs.declared.table.Form.{Form}
use Rattle.pgo_expr_read.specs.declared.table.Form.TheVariants as form
use Rattle.pgo_expr_read.specs.declared.lookahead.Opener.{Opener}
use Rattle.pgo_expr_read.specs.declared.lookahead.Opener.TheVariants as opener
use Rattle.pgo_expr_read.specs.declared.read.Ending.{Ending}
use Rattle.pgo_expr_read.specs.declared.read.Ending.TheVariants as ending
use Rattle.pgo_expr_read.specs.declared.read.Read.{Read}
use Rattle.pgo_expr_read.specs.Lookahead.{sees_list_next, endless_of, opener_of}
use Rattle.pgo_expr_read.specs.Heights.{height}
use Rattle.pgo_expr_read.specs.Kinds.{Name}
use Rattle.pgo_expr_read.specs.Kinds as kind
use Rattle.pgo_expr_read.specs.Table.{low, takes_left, form_low, right_least}
use Rattle.pgo_expr_read.specs.Spells.{Spelled, Behind, operator_token, applied, extended, product_of_two, infix_of, joined}
use Rattle.pgo_expr_read.specs.Spells as s
use Rattle.pgo_expr_read.specs.Reading.{Parser, Outcome, and_then, pure, give_at, expect, list_next, list_close, name, text, raised, closed, ends_closed, goes_on, joins, left_height, index_height, on_opener, openers, folded, goes, leaf, range_by, range, items, primary, right, operation, indexed, selected, turn, more, all_more, one_more_joined, close_by, close, closes, level, expr}
use Rattle.pgo_expr_read.proofs.Measures.{things_height, of_trees}
use Rattle.pgo_expr_read.proofs.Steps.{bind_then, some_pair, if_some}
use Rattle.pgo_expr_read.proofs.Parts.{give_some, closed_ending, raised_some, expect_some, list_next_some, list_close_some, name_some}
use Rattle.std.proofs.lemmas.Bool.{eqb-true, eq-eqb}
use Rattle.pgo_expr_read.proofs.Measures.{two_high, extended_high}
use Rattle.pgo_expr_read.proofs.Laws.{low-high, high-small, prefix-small}
use Rattle.pgo_expr_read.proofs.SoundForms.{sound_primary, sound_items}
use Rattle.pgo_expr_read.proofs.Good.{Good, Sound, good_raised}

-- ---- heights

product_of : (f : Form) (a b : Tree) → (as' : e.Trees) × (applied operator.Product f a b ≡ e.product as')
unfolding extended product_of_two
product_of (form.Operation operator.Product) (e.product as') b = (_, refl)
product_of (form.Operation operator.Product) a b = (_, refl)
product_of f a b = (_, refl)

is_product : {o : Ending} {ts : List Token} {a : Tree} → Spelled (form.Operation operator.Product) o ts a → (as' : e.Trees) × (a ≡ e.product as')
is_product (s.operation {op = operator.Product} {f = f} {a = a} {b = b} h l d d') = product_of f a b

pub applied_height : (op : Operator) (f : Form) {o : Ending} {ts : List Token} {a : Tree} (b : Tree) → Spelled f o ts a → max (left_height op f (height a)) (height b) + 1 ≡ height (applied op f a b)
applied_height (operator.Infix o) f b d = omega arith
applied_height operator.Product (form.Operation operator.Product) {a = a} b d =
    let q = is_product d in
    let P : Tree → Type 0 = λ x. max (height x - 1) (height b) + 1 ≡ height (extended x b) in
    subst P (sym q.1) (let up = extended_high q.0 b in omega (arith, up))
applied_height operator.Product f {a = a} b d = let up = two_high a b in omega (arith, up)

index_by : (c : Bool) (as' : List Tree) (k n limit h : ℕ) → k ≡ length as' → nat_eq k 1 ≡ c → cond c (Some n) (cond (nat_lt n limit) (Some (n + 1)) None) ≡ Some h → n ≡ things_height kind.tree as' → (a : Tree) → height (e.index a (trees as')) ≡ max (height a) h + 1
index_by true [] k n limit h long c got is a = absurd (let z = eqb-true k 1 c in omega (arith, z, long))
index_by true (x ∷ []) k n limit h long c got is a = let q : n ≡ h = cc in omega (arith, q, is)
index_by true (x ∷ (z ∷ as')) k n limit h long c got is a = absurd (let m = eqb-true k 1 c in omega (arith, m, long))
index_by false [] k n limit h long c got is a = let q = (if_some (nat_lt n limit) (n + 1) h got).1 in omega (arith, q, is)
index_by false (x ∷ []) k n limit h long c got is a = absurd (let m = eq-eqb k 1 (omega (arith, long)) in cc)
index_by false (x ∷ (z ∷ as')) k n limit h long c got is a =
    let q = (if_some (nat_lt n limit) (n + 1) h got).1 in
    let up = of_trees as' in
    omega (arith, q, is, up)

index_high : (limit : ℕ) (all : Read (List Tree)) (h : ℕ) → index_height limit all ≡ Some h → all.height ≡ things_height kind.tree all.tree → (a : Tree) → height (e.index a (trees all.tree)) ≡ max (height a) h + 1
unfolding index_height
index_high limit all h got is a = index_by (nat_eq (length all.tree) 1) all.tree (length all.tree) all.height limit h refl refl got is a

-- ---- openers

abbrev pub opener_token : Opener → Token
opener_token opener.Round = t.Symbol (y.Open b.Round)
opener_token (opener.List op) = t.ListOpen op

-- the tokens with these openers in front of them, the innermost first
abbrev pub under : List Opener → List Token → List Token
under [] i = i
under (o ∷ os) i = under os (opener_token o ∷ i)

opened_by : (k : Token) (i : List Token) (o : Opener) → opener_of k ≡ Some o → k ∷ i ≡ opener_token o ∷ i
opened_by (t.Symbol (y.Open b.Round)) i opener.Round h = refl
opened_by (t.ListOpen j) i (opener.List op) h = let q : j ≡ op = cc in ap (λ z. t.ListOpen z ∷ i) q
opened_by (t.Symbol (y.Open b.Round)) i (opener.List op) h = cc
opened_by (t.ListOpen j) i opener.Round h = cc
opened_by _ i o h = cc

openers_by : (x : Option Opener) (n : ℕ) (acc : List Opener) (k : Token) (i : List Token) (os : List Opener) (rest : List Token) → opener_of k ≡ x → ((o : Opener) → openers n (o ∷ acc) i ≡ Some (os, rest) → under (o ∷ acc) i ≡ under os rest)
    → on_opener x (λ o. openers n (o ∷ acc) i) (Some (acc, k ∷ i)) ≡ Some (os, rest) → under acc (k ∷ i) ≡ under os rest
openers_by (Some o) n acc k i os rest is go got = ap (under acc) (opened_by k i o is) ∙ go o got
openers_by None n acc k i os rest is go got = let q = some_pair _ _ _ _ got in ap (λ z. under z (k ∷ i)) q.0 ∙ ap (under os) q.1

sound_openers : (n : ℕ) (acc : List Opener) (i : List Token) (os : List Opener) (rest : List Token) → openers n acc i ≡ Some (os, rest) → under acc i ≡ under os rest
unfolding openers
sound_openers zero acc i os rest got = let q = some_pair _ _ _ _ got in ap (λ z. under z i) q.0 ∙ ap (under os) q.1
sound_openers (suc n) acc [] os rest got = let q = some_pair _ _ _ _ got in ap (λ z. under z []) q.0 ∙ ap (under os) q.1
sound_openers (suc n) acc (k ∷ i) os rest got = openers_by (opener_of k) n acc k i os rest refl (λ o got. sound_openers n (o ∷ acc) i os rest got) got

form_small : (f : Form) → form_low f ≤ 32
form_small (form.Operation op) = let a = high-small op in let b = low-high op in omega (arith, a, b)
form_small (form.Prefix p) = let a = prefix-small p in omega (arith, a)
form_small form.Closed = omega arith

module _ (limit below : ℕ) (ex : ℕ → Parser (Read Tree)) (S : Sound below ex) where
  -- ---- right operands

  record Right (op : Operator) (i : List Token) (r : Read Tree) (rest : List Token) : Type 0 where
    front : List Token
    split : i ≡ front ++ rest
    height : r.height ≡ height r.tree
    spelled : (f : Form) (xs : List Token) (a : Tree) → takes_left op f ≡ true → Spelled f ending.Closed xs a → Spelled (form.Operation op) r.ending (xs ++ (operator_token op ∷ front)) (applied op f a r.tree)

  right_any : (op : Operator) (i : List Token) (r : Read Tree) (rest : List Token) → ex (right_least op) i ≡ Some (r, rest) → Right op i r rest
  right_any op i r rest got =
      let g = S (right_least op) i r rest got in
      record { front = g.0.front; split = g.0.split; height = g.0.height; spelled = λ f xs a takes d. s.operation takes g.1 d g.0.spelled }

  right_of : (o : Option Word) (k : Token) (i : List Token) (r : Read Tree) (rest : List Token) → endless_of k ≡ o → range_by limit ex (right_least (operator.Infix op.In)) o (k ∷ i) ≡ Some (r, rest) → Right (operator.Infix op.In) (k ∷ i) r rest
  unfolding leaf
  right_of (Some v) k i r rest is got =
      let g = give_some _ _ _ _ got in
      let q = raised_some limit form.Closed ending.Closed 0 (e.word v) r g.0 in
      let P : Read Tree → Type 0 = λ x. Right (operator.Infix op.In) (k ∷ i) x rest in
      subst P (sym q.1) (record { front = k ∷ []; split = ap (λ z. k ∷ z) g.1; height = refl; spelled = λ f xs a takes d. s.member k takes is d })
  right_of None k i r rest is got = right_any (operator.Infix op.In) (k ∷ i) r rest got

  sound_right : (op : Operator) (i : List Token) (r : Read Tree) (rest : List Token) → right limit ex op i ≡ Some (r, rest) → Right op i r rest
  unfolding right range
  sound_right (operator.Infix op.In) [] r rest got = right_any (operator.Infix op.In) [] r rest got
  sound_right (operator.Infix op.In) (k ∷ i) r rest got = right_of (endless_of k) k i r rest refl got
  sound_right o i r rest got = right_any o i r rest got

  -- ---- turns

  form_of_node : (f : Form) (o : Ending) (h : ℕ) (a : Tree) (i : List Token) (r : Read Tree) (rest : List Token) → give_at (raised limit f o h a) i ≡ Some (r, rest) → r.form ≡ f
  form_of_node f o h a i r rest got = ap (λ (x : Read Tree). x.form) (raised_some limit f o h a r (give_some _ _ _ _ got).0).1

  -- what a turn adds to what is on the left
  abbrev Turned : List Token → Form → Read Tree → List Token → Type 0
  Turned text f r rest = Good limit text r rest × (r.form ≡ f)

  sound_operation : (text : List Token) (left : Read Tree) (op : Operator) (i : List Token) (r : Read Tree) (rest : List Token) → operation limit ex left op (operator_token op ∷ i) ≡ Some (r, rest) → left.ending ≡ ending.Closed → takes_left op left.form ≡ true → Good limit text left (operator_token op ∷ i) → Turned text (form.Operation op) r rest
  unfolding operation
  sound_operation text left op i r rest got ends takes l =
      bind_then (right limit ex op i) _ _ _ got (λ x i1 hx got.
      let g = sound_right op i x i1 hx in
      let P : Ending → Type 0 = λ b. Spelled left.form b l.front left.tree in
      let Q : ℕ → Type 0 = λ n. max (left_height op left.form n) x.height + 1 ≡ height (applied op left.form left.tree x.tree) in
      let R : ℕ → Type 0 = λ n. max (left_height op left.form (height left.tree)) n + 1 ≡ height (applied op left.form left.tree x.tree) in (
        good_raised limit (form.Operation op) x.ending _ _ r (l.front ++ (operator_token op ∷ g.front)) text i1 rest got
            ((l.split ∙ ap (λ z. l.front ++ (operator_token op ∷ z)) g.split) ∙ simp append_assoc)
            (g.spelled left.form l.front left.tree takes (subst P ends l.spelled))
            (subst Q (sym l.height) (subst R (sym g.height) (applied_height op left.form x.tree l.spelled))),
        form_of_node _ _ _ _ _ r rest got,
      ))

  sound_indexed : (text : List Token) (left : Read Tree) (i : List Token) (r : Read Tree) (rest : List Token) → indexed limit ex left (t.Symbol (y.Open b.Square) ∷ i) ≡ Some (r, rest) → left.ending ≡ ending.Closed → 32 ≤ form_low left.form → Good limit text left (t.Symbol (y.Open b.Square) ∷ i) → Turned text form.Closed r rest
  unfolding indexed
  sound_indexed text left i r rest got ends high l =
      bind_then (items limit ex kind.tree i) _ _ _ got (λ all i1 ha got.
      let g = sound_items limit below ex S kind.tree i all i1 ha in
      bind_then (expect (y.Close b.Square) i1) _ _ _ got (λ u i2 hc got.
      bind_then (give_at (index_height limit all) i2) _ _ _ got (λ h i3 hh got.
      let q = give_some (index_height limit all) i2 h i3 hh in
      let P : Ending → Type 0 = λ b. Spelled left.form b l.front left.tree in
      let up = index_high limit all h q.0 g.height left.tree in (
        good_raised limit form.Closed ending.Closed _ _ r (l.front ++ (t.Symbol (y.Open b.Square) ∷ (g.front ++ (t.Symbol (y.Close b.Square) ∷ [])))) text i3 rest got
            ((l.split ∙ ap (λ z. l.front ++ (t.Symbol (y.Open b.Square) ∷ z)) (g.split ∙ ap (λ z. g.front ++ z) (expect_some (y.Close b.Square) i1 u i2 hc ∙ ap (λ z. t.Symbol (y.Close b.Square) ∷ z) q.1))) ∙ simp append_assoc)
            (s.index high (subst P ends l.spelled) g.items)
            (omega (arith, l.height, up)),
        form_of_node _ _ _ _ _ r rest got,
      ))))

  sound_selected : (text : List Token) (left : Read Tree) (i : List Token) (r : Read Tree) (rest : List Token) → selected limit ex left (t.Symbol y.Dot ∷ i) ≡ Some (r, rest) → left.ending ≡ ending.Closed → 32 ≤ form_low left.form → Good limit text left (t.Symbol y.Dot ∷ i) → Turned text form.Closed r rest
  unfolding selected
  sound_selected text left i r rest got ends high l =
      bind_then (name i) _ _ _ got (λ x i1 hx got.
      let P : Ending → Type 0 = λ b. Spelled left.form b l.front left.tree in (
        good_raised limit form.Closed ending.Closed _ _ r (l.front ++ (t.Symbol y.Dot ∷ (t.Name x ∷ []))) text i1 rest got
            ((l.split ∙ ap (λ z. l.front ++ (t.Symbol y.Dot ∷ z)) (name_some i x i1 hx)) ∙ simp append_assoc)
            (s.select high (subst P ends l.spelled))
            (omega (arith, l.height)),
        form_of_node _ _ _ _ _ r rest got,
      ))

  goes_on_true : (least : ℕ) (r : Read Tree) (op : Operator) → goes_on least r op ≡ true → (r.ending ≡ ending.Closed) × (least ≤ low op) × (takes_left op r.form ≡ true)
  unfolding goes_on
  goes_on_true least r op h =
      let a = and_parts _ _ h in
      let c = and_parts _ _ a.1 in
      (closed_ending r.ending a.0, leb-true _ _ c.0, c.1)

  ends_closed_true : (r : Read Tree) → ends_closed r ≡ true → (r.ending ≡ ending.Closed) × (32 ≤ form_low r.form)
  unfolding ends_closed
  ends_closed_true r h = let a = and_parts _ _ h in (closed_ending r.ending a.0, let f : 31 < form_low r.form = ltb-true 31 (form_low r.form) a.1 in omega arith)

  -- what is on the left after a turn
  abbrev Left : List Token → ℕ → Read Tree → List Token → Type 0
  Left text least r rest = Good limit text r rest × (least ≤ form_low r.form)

  -- nothing is taken
  stays : (text : List Token) (least : ℕ) (left : Read Tree) (i : List Token) (p : Read Tree × Bool) (rest : List Token) → ◌≡◌ {A = Outcome (Read Tree × Bool)} (Some ((left, false), i)) (Some (p, rest)) → Good limit text left i → least ≤ form_low left.form → Left text least p.0 rest
  stays text least left i p rest got l enough =
      let q = some_pair _ _ _ _ got in
      let P : Read Tree × Bool → Type 0 = λ x. Left text least x.0 rest in
      let Q : List Token → Type 0 = λ k. Good limit text left k in
      subst P q.0 (subst Q q.1 l, enough)

  -- something is
  turned : (text : List Token) (least : ℕ) (f : Form) (o : Outcome (Read Tree)) (p : Read Tree × Bool) (rest : List Token) → and_then o (λ r. pure (r, true)) ≡ Some (p, rest) → ((r : Read Tree) (j : List Token) → o ≡ Some (r, j) → Turned text f r j) → least ≤ form_low f → Left text least p.0 rest
  turned text least f o p rest got sound low =
      bind_then o _ _ _ got (λ r j is got.
      let q = some_pair _ _ _ _ got in
      let g = sound r j is in
      let P : Read Tree × Bool → Type 0 = λ x. Left text least x.0 rest in
      let Q : List Token → Type 0 = λ k. Good limit text r k in
      let R : Form → Type 0 = λ k. least ≤ form_low k in
      subst P q.0 (subst Q q.1 g.0, subst R (sym g.1) low))

  sound_operator : (text : List Token) (least : ℕ) (left : Read Tree) (op : Operator) (i : List Token) (p : Read Tree × Bool) (rest : List Token) (c : Bool) → goes_on least left op ≡ c
      → cond c (and_then (operation limit ex left op (operator_token op ∷ i)) (λ r. pure (r, true))) (Some ((left, false), operator_token op ∷ i)) ≡ Some (p, rest) → Good limit text left (operator_token op ∷ i) → least ≤ form_low left.form → Left text least p.0 rest
  sound_operator text least left op i p rest true goes got l enough =
      let g = goes_on_true least left op goes in
      turned text least (form.Operation op) (operation limit ex left op (operator_token op ∷ i)) p rest got (λ r j is. sound_operation text left op i r j is g.0 g.2 l) g.1
  sound_operator text least left op i p rest false goes got l enough = stays text least left (operator_token op ∷ i) p rest got l enough

  sound_index : (text : List Token) (least : ℕ) (left : Read Tree) (i : List Token) (p : Read Tree × Bool) (rest : List Token) (c : Bool) → ends_closed left ≡ c
      → cond c (and_then (indexed limit ex left (t.Symbol (y.Open b.Square) ∷ i)) (λ r. pure (r, true))) (Some ((left, false), t.Symbol (y.Open b.Square) ∷ i)) ≡ Some (p, rest) → Good limit text left (t.Symbol (y.Open b.Square) ∷ i) → least ≤ form_low left.form → least ≤ 32 → Left text least p.0 rest
  sound_index text least left i p rest true goes got l enough small =
      let g = ends_closed_true left goes in
      turned text least form.Closed (indexed limit ex left (t.Symbol (y.Open b.Square) ∷ i)) p rest got (λ r j is. sound_indexed text left i r j is g.0 g.1 l) small
  sound_index text least left i p rest false goes got l enough small = stays text least left (t.Symbol (y.Open b.Square) ∷ i) p rest got l enough

  sound_select : (text : List Token) (least : ℕ) (left : Read Tree) (i : List Token) (p : Read Tree × Bool) (rest : List Token) (c : Bool) → ends_closed left ≡ c
      → cond c (and_then (selected limit ex left (t.Symbol y.Dot ∷ i)) (λ r. pure (r, true))) (Some ((left, false), t.Symbol y.Dot ∷ i)) ≡ Some (p, rest) → Good limit text left (t.Symbol y.Dot ∷ i) → least ≤ form_low left.form → least ≤ 32 → Left text least p.0 rest
  sound_select text least left i p rest true goes got l enough small =
      let g = ends_closed_true left goes in
      turned text least form.Closed (selected limit ex left (t.Symbol y.Dot ∷ i)) p rest got (λ r j is. sound_selected text left i r j is g.0 g.1 l) small
  sound_select text least left i p rest false goes got l enough small = stays text least left (t.Symbol y.Dot ∷ i) p rest got l enough

  sound_turn : (text : List Token) (least : ℕ) (left : Read Tree) (i : List Token) (p : Read Tree × Bool) (rest : List Token) → least ≤ 32 → turn limit ex least left i ≡ Some (p, rest) → Good limit text left i → least ≤ form_low left.form → Left text least p.0 rest
  unfolding turn
  sound_turn text least left [] p rest small got l enough = stays text least left [] p rest got l enough
  sound_turn text least left (t.Symbol (y.Infix o) ∷ i) p rest small got l enough = sound_operator text least left (operator.Infix o) i p rest (goes_on least left (operator.Infix o)) refl got l enough
  sound_turn text least left (t.Symbol y.Product ∷ i) p rest small got l enough = sound_operator text least left operator.Product i p rest (goes_on least left operator.Product) refl got l enough
  sound_turn text least left (t.Symbol (y.Open b.Square) ∷ i) p rest small got l enough = sound_index text least left i p rest (ends_closed left) refl got l enough small
  sound_turn text least left (t.Symbol y.Dot ∷ i) p rest small got l enough = sound_select text least left i p rest (ends_closed left) refl got l enough small
  sound_turn text least left (k ∷ i) p rest small got l enough = stays text least left (k ∷ i) p rest got l enough

  -- after a turn
  sound_rest : (n : ℕ) (text : List Token) (least : ℕ) (left : Read Tree) (c : Bool) (i : List Token) (r : Read Tree) (rest : List Token) → (more limit ex least n left i ≡ Some (r, rest) → Left text least r rest) → (cond {A = Parser (Read Tree)} c (more limit ex least n left) (pure left)) i ≡ Some (r, rest) → Good limit text left i → least ≤ form_low left.form → Left text least r rest
  sound_rest n text least left true i r rest go got l enough = go got
  sound_rest n text least left false i r rest go got l enough =
      let q = some_pair _ _ _ _ got in
      let P : Read Tree → Type 0 = λ x. Left text least x rest in
      let Q : List Token → Type 0 = λ k. Good limit text left k in
      subst P q.0 (subst Q q.1 l, enough)

  sound_more : (n : ℕ) (text : List Token) (least : ℕ) (left : Read Tree) (i : List Token) (r : Read Tree) (rest : List Token) → least ≤ 32 → more limit ex least n left i ≡ Some (r, rest) → Good limit text left i → least ≤ form_low left.form → Left text least r rest
  unfolding more
  sound_more zero text least left i r rest small got l enough =
      let q = some_pair _ _ _ _ got in
      let P : Read Tree → Type 0 = λ x. Left text least x rest in
      let Q : List Token → Type 0 = λ k. Good limit text left k in
      subst P q.0 (subst Q q.1 l, enough)
  sound_more (suc n) text least left i r rest small got l enough =
      bind_then (turn limit ex least left i) _ _ _ got (λ p j is got.
      let g = sound_turn text least left i p j small is l enough in
      sound_rest n text least p.0 p.1 j r rest (λ got. sound_more n text least p.0 j r rest small got g.0 g.1) got g.0 g.1)

  -- ---- junction lists

  record Joined (op : Junction) (i : List Token) (acc res : Read Tree) (rest : List Token) : Type 0 where
    front : List Token
    others : List Tree
    split : i ≡ front ++ rest
    behind : (o : Ending) → (u : Ending) × Behind kind.item o u front others
    tree : res.tree ≡ joined op acc.tree others
    heights : acc.height ≡ height acc.tree → acc.height ≤ limit → (res.height ≡ height res.tree) × (res.height ≤ limit)
    forms : acc.form ≡ form.Closed → acc.ending ≡ ending.Closed → (res.form ≡ form.Closed) × (res.ending ≡ ending.Closed)

  joined_end : (op : Junction) (acc res : Read Tree) (i rest : List Token) → ◌≡◌ {A = Outcome (Read Tree)} (Some (acc, i)) (Some (res, rest)) → Joined op i acc res rest
  joined_end op acc res i rest got =
      let q = some_pair _ _ _ _ got in
      let P : Read Tree → Type 0 = λ x. Joined op i acc x rest in
      subst P q.0 (record { front = []; others = []; split = q.1; behind = λ o. (o, s.none); tree = refl; heights = λ h l. (h, l); forms = λ f o. (f, o) })

  joined_by : (c : Bool) (op : Junction) (n : ℕ) (acc : Read Tree) (i : List Token) (res : Read Tree) (rest : List Token)
      → ((next : Read Tree) (j : List Token) → folded sees_list_next (one_more_joined limit ex op) n next j ≡ Some (res, rest) → Joined op j next res rest)
      → cond c (and_then (one_more_joined limit ex op acc i) (folded sees_list_next (one_more_joined limit ex op) n)) (Some (acc, i)) ≡ Some (res, rest) → Joined op i acc res rest
  unfolding one_more_joined joins
  joined_by true op n acc i res rest go got =
      bind_then (one_more_joined limit ex op acc i) _ _ _ got (λ next j is got.
      bind_then (list_next i) _ _ _ is (λ u i1 hu is.
      bind_then (ex 0 i1) _ _ _ is (λ r i2 hr is.
      let g = (S 0 i1 r i2 hr).0 in
      let z = give_some _ _ _ _ is in
      let q = raised_some limit form.Closed ending.Closed (max acc.height r.height) (e.binary (infix_of op) acc.tree r.tree) next z.0 in
      let m = go next j got in
      let same : next.tree ≡ e.binary (infix_of op) acc.tree r.tree = ap (λ (x : Read Tree). x.tree) q.1 in
      let up : next.height ≡ max acc.height r.height + 1 = ap (λ (x : Read Tree). x.height) q.1 in
      let f : next.form ≡ form.Closed = ap (λ (x : Read Tree). x.form) q.1 in
      let o : next.ending ≡ ending.Closed = ap (λ (x : Read Tree). x.ending) q.1 in
      let low : next.height ≤ limit = omega (arith, q.0, up) in
      let H : Tree → Type 0 = λ x. acc.height ≡ height acc.tree → next.height ≡ height x in
      record {
        front = t.ListNext ∷ (g.front ++ m.front);
        others = r.tree ∷ m.others;
        split = list_next_some i u i1 hu ∙ ap (λ k. t.ListNext ∷ k) (g.split ∙ ap (λ k. g.front ++ k) (z.1 ∙ m.split) ∙ sym (append_assoc g.front m.front rest));
        behind = λ o. let b = m.behind r.ending in (b.0, s.one_more refl (s.item g.spelled) b.1);
        tree = m.tree ∙ ap (λ x. joined op x m.others) same;
        heights = λ h l. m.heights (subst H (sym same) (λ h. let k = g.height in omega (arith, h, k, up)) h) low;
        forms = λ a b. m.forms f o;
      })))
  joined_by false op n acc i res rest go got = joined_end op acc res i rest got

  sound_joined : (op : Junction) (n : ℕ) (acc : Read Tree) (i : List Token) (res : Read Tree) (rest : List Token) → folded sees_list_next (one_more_joined limit ex op) n acc i ≡ Some (res, rest) → Joined op i acc res rest
  unfolding folded
  sound_joined op zero acc i res rest got = joined_end op acc res i rest got
  sound_joined op (suc n) acc i res rest got = joined_by (sees_list_next i) op n acc i res rest (λ next j got. sound_joined op n next j res rest got) got

  -- ---- what opens without a node

  sound_parens : (text : List Token) (x : Read Tree) (i : List Token) (r : Read Tree) (rest : List Token) → close_by limit ex opener.Round x i ≡ Some (r, rest) → Good limit text x i → Good limit (t.Symbol (y.Open b.Round) ∷ text) r rest
  sound_parens text x i r rest got g =
      bind_then (expect (y.Close b.Round) i) _ _ _ got (λ u i1 hu got.
      let q = some_pair _ _ _ _ got in
      let P : Read Tree → Type 0 = λ k. Good limit (t.Symbol (y.Open b.Round) ∷ text) k rest in
      subst P q.0 (record {
        front = t.Symbol (y.Open b.Round) ∷ (g.front ++ (t.Symbol (y.Close b.Round) ∷ []));
        split = ap (λ k. t.Symbol (y.Open b.Round) ∷ k) (g.split ∙ ap (λ k. g.front ++ k) (expect_some (y.Close b.Round) i u i1 hu ∙ ap (λ k. t.Symbol (y.Close b.Round) ∷ k) q.1) ∙ sym (append_assoc g.front (t.Symbol (y.Close b.Round) ∷ []) rest));
        spelled = s.parens g.spelled;
        height = g.height;
        within = g.within;
      }))

  sound_junction : (op : Junction) (text : List Token) (x : Read Tree) (i : List Token) (r : Read Tree) (rest : List Token) → close_by limit ex (opener.List op) x i ≡ Some (r, rest) → Good limit text x i → Good limit (t.ListOpen op ∷ text) r rest
  sound_junction op text x i r rest got g =
      bind_then (folded sees_list_next (one_more_joined limit ex op) (length i) (closed x) i) _ _ _ got (λ all i1 ha got.
      let m = sound_joined op (length i) (closed x) i all i1 ha in
      bind_then (list_close i1) _ _ _ got (λ u i2 hu got.
      let q = some_pair _ _ _ _ got in
      let b = m.behind x.ending in
      let forms = m.forms refl refl in
      let heights = m.heights g.height g.within in
      let P : Form → Type 0 = λ k. Spelled k all.ending (t.ListOpen op ∷ (g.front ++ (m.front ++ (t.ListClose ∷ [])))) all.tree in
      let Q : Ending → Type 0 = λ k. Spelled form.Closed k (t.ListOpen op ∷ (g.front ++ (m.front ++ (t.ListClose ∷ [])))) all.tree in
      let T : Tree → Type 0 = λ k. Spelled form.Closed ending.Closed (t.ListOpen op ∷ (g.front ++ (m.front ++ (t.ListClose ∷ [])))) k in
      let R : Read Tree → Type 0 = λ k. Good limit (t.ListOpen op ∷ text) k rest in
      subst R q.0 (record {
        front = t.ListOpen op ∷ (g.front ++ (m.front ++ (t.ListClose ∷ [])));
        split = ap (λ k. t.ListOpen op ∷ k) (g.split ∙ ap (λ k. g.front ++ k) (m.split ∙ ap (λ k. m.front ++ k) (list_close_some i1 u i2 hu ∙ ap (λ k. t.ListClose ∷ k) q.1)) ∙ simp append_assoc);
        spelled = subst P (sym forms.0) (subst Q (sym forms.1) (subst T (sym m.tree) (s.junction {op = op} g.spelled b.1)));
        height = heights.0;
        within = heights.1;
      })))

  sound_close_by : (o : Opener) (text : List Token) (x : Read Tree) (i : List Token) (r : Read Tree) (rest : List Token) → close_by limit ex o x i ≡ Some (r, rest) → Good limit text x i → Good limit (opener_token o ∷ text) r rest
  sound_close_by opener.Round text x i r rest got g = sound_parens text x i r rest got g
  sound_close_by (opener.List op) text x i r rest got g = sound_junction op text x i r rest got g

  sound_close : (o : Opener) (text : List Token) (first : Read Tree) (i : List Token) (r : Read Tree) (rest : List Token) → close limit ex o first i ≡ Some (r, rest) → Good limit text first i → Good limit (opener_token o ∷ text) r rest
  unfolding close
  sound_close o text first i r rest got l =
      bind_then (more limit ex 0 (length i) first i) _ _ _ got (λ x i1 hx got.
      let g = (sound_more (length i) text 0 first i x i1 (omega arith) hx l (omega arith)).0 in
      sound_close_by o text x i1 r rest got g)

  sound_closes : (os : List Opener) (text : List Token) (first : Read Tree) (i : List Token) (r : Read Tree) (rest : List Token) → closes limit ex os first i ≡ Some (r, rest) → Good limit text first i → Good limit (under os text) r rest
  unfolding closes
  sound_closes [] text first i r rest got l =
      let q = some_pair _ _ _ _ got in
      let P : Read Tree → Type 0 = λ x. Good limit text x rest in
      let Q : List Token → Type 0 = λ x. Good limit text first x in
      subst P q.0 (subst Q q.1 l)
  sound_closes (o ∷ os) text first i r rest got l =
      bind_then (close limit ex o first i) _ _ _ got (λ x i1 hx got.
      sound_closes os (opener_token o ∷ text) x i1 r rest got (sound_close o text first i x i1 hx l))

  sound_from : (c : Bool) (least : ℕ) (first : Read Tree) (text i : List Token) (r : Read Tree) (rest : List Token) → nat_le least (form_low first.form) ≡ c → (cond {A = Parser (Read Tree)} c (all_more limit ex least first) (λ i. None)) i ≡ Some (r, rest) → Good limit text first i → Left text least r rest
  sound_from true least first text i r rest enough got l =
      let a = leb-true _ _ enough in
      let z = form_small first.form in
      sound_more (length i) text least first i r rest (omega (arith, a, z)) got l a
  sound_from false least first text i r rest enough got l = cc

  pub sound_level : (least : ℕ) (i : List Token) (r : Read Tree) (rest : List Token) → level limit ex least i ≡ Some (r, rest) → Good limit i r rest × (least ≤ form_low r.form)
  unfolding level
  sound_level least i r rest got =
      bind_then (openers (length i) [] i) _ _ _ got (λ os i1 ho got.
      bind_then (primary limit ex i1) _ _ _ got (λ first i2 hf got.
      bind_then (closes limit ex os first i2) _ _ _ got (λ x i3 hx got.
      let P : List Token → Type 0 = λ z. Good limit z x i3 in
      let text : i ≡ under os i1 = sound_openers (length i) [] i os i1 ho in
      sound_from (nat_le least (form_low x.form)) least x i i3 r rest refl got
      (subst P (sym text) (sound_closes os i1 first i2 x i3 hx (sound_primary limit below ex S i1 first i2 hf))))))

pub sound : (limit : ℕ) → Sound limit (expr limit)
unfolding expr
sound zero = λ least i r rest got. cc
sound (suc limit) = sound_level (suc limit) limit (expr limit) (sound limit)

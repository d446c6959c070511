-- What is spelled is read: forms.
use Rattle.std.proofs.Common.{ℤ, ◌≡◌, ℕ, zero, suc, ◌+◌, ◌<◌, ◌≤◌, max, Bool, true, false, ◌&&◌, List, [], ◌∷◌, ◌++◌, length, Some, None, refl, ap, sym, ◌∙◌, subst, arith, cond, nat_le, nat_lt, nat_eq}
use Rattle.std.proofs.lemmas.Bool.{lt-ltb, le-leb, eqb-true}
use Rattle.std.proofs.lemmas.List.{append_assoc, length-append}
use Rattle.pgo_base.specs.declared.expr.Infix.TheVariants as op
use Rattle.pgo_base.specs.declared.expr.Prefix.{Prefix}
use Rattle.pgo_base.specs.declared.expr.Prefix.TheVariants as pre
use Rattle.pgo_base.specs.declared.expr.Word.{Word}
use Rattle.pgo_base.specs.declared.expr.Word.TheVariants as w
use Rattle.pgo_base.specs.Tree.{Tree, trees}
use Rattle.pgo_base.specs.Tree as e
use Rattle.pgo_lexer.specs.declared.symbol.Bracket.TheVariants as bracket
use Rattle.pgo_lexer.specs.declared.symbol.Symbol.TheVariants as y
use Rattle.pgo_lexer.specs.declared.symbol.Symbol.{Symbol}
use Rattle.pgo_lexer.specs.declared.token.Token.{Token}
use Rattle.pgo_lexer.specs.declared.token.Token.TheVariants as t
use Rattle.pgo_expr_read.specs.declared.table.Operator.{Operator}
use Rattle.pgo_expr_read.specs.declared.table.Operator.TheVariants as operator
use Rattle.pgo_expr_read.specs.declared.table.Form.{Form}
use Rattle.pgo_expr_read.specs.declared.table.Form.TheVariants as form
use Rattle.pgo_expr_read.specs.declared.lookahead.Next.{Next}
use Rattle.pgo_expr_read.specs.declared.lookahead.Next.TheVariants as next
use Rattle.pgo_expr_read.specs.declared.read.Ending.{Ending}
use Rattle.pgo_expr_read.specs.declared.read.Ending.TheVariants as ending
use Rattle.pgo_expr_read.specs.declared.read.Read.{Read}
use Rattle.pgo_expr_read.specs.Lookahead as look
use Rattle.pgo_expr_read.specs.Lookahead.{sees, endless, endless_of, next_of}
use Rattle.pgo_expr_read.specs.Heights.{height}
use Rattle.pgo_expr_read.specs.Kinds.{Name, variable_name, value_name}
use Rattle.pgo_expr_read.specs.Kinds as kind
use Rattle.pgo_expr_read.specs.Table.{low, takes_left, form_low, right_least, prefix_least}
use Rattle.pgo_expr_read.specs.Spells.{Spelled, Items, prefix_token, operator_token, applied}
use Rattle.pgo_expr_read.specs.Reading.{Parser, and_then, pure, give_at, past, part, is_closed, ends_closed, goes_on, left_height, index_height, leaf, plain_name, range_by, range, prefixed, call, named_form, leaf_at, text_form, primary, right, operation, indexed, selected, turn, more, level, expr}
use Rattle.pgo_expr_read.specs.Signs.{is_sign}
use Rattle.pgo_expr_read.proofs.Measures.{things_height, of_trees}
use Rattle.pgo_expr_read.proofs.Steps.{next_step}
use Rattle.pgo_expr_read.proofs.Reach.{read, Quiet, Stops, Comes, Reaches, expect_gives, node_gives, eat_false, tall, whole, at_first}
use Rattle.pgo_expr_read.proofs.Heads.{starts, not_endless}
use Rattle.pgo_expr_read.proofs.Signs.{token_of_sign}
use Rattle.pgo_expr_read.proofs.Laws.{low-high, high-small, prefix-small, left_level, right_stops, right_takes, prefix_stops, prefix_takes}
use Rattle.pgo_expr_read.proofs.Sound.{applied_height}
use Rattle.pgo_expr_read.proofs.ReachLists.{ReachesItems}

-- ---- leaves

reach_leaf : (k : Token) (a : Tree) (l least : ℕ) (rest : List Token) → look.opens (k ∷ []) ≡ None → primary (suc l) (expr l) (k ∷ rest) ≡ leaf (suc l) (expr l) a rest → 1 ≡ height a → least ≤ 32 → Comes l least form.Closed ending.Closed (k ∷ []) a rest
unfolding leaf
reach_leaf k a l least rest none is one low = at_first l least form.Closed ending.Closed (k ∷ []) a rest none low (is ∙ node_gives (suc l) form.Closed ending.Closed 0 a rest one (omega (arith, one)))

pub reach_number : {n : ℤ} → Reaches form.Closed ending.Closed (t.Number n ∷ []) (e.number n)
unfolding primary leaf_at
reach_number {n} l least rest h low q = reach_leaf (t.Number n) (e.number n) l least rest refl refl refl low

pub reach_text : {x : List ℕ} → Reaches form.Closed ending.Closed (t.Text x ∷ []) (e.text x)
unfolding primary text_form
reach_text {x} l least rest h low q = reach_leaf (t.Text x) (e.text x) l least rest refl refl refl low

pub reach_truth : {v : Bool} → Reaches form.Closed ending.Closed (t.Symbol (y.Truth v) ∷ []) (e.truth v)
unfolding primary leaf_at
reach_truth {v} l least rest h low q = reach_leaf (t.Symbol (y.Truth v)) (e.truth v) l least rest refl refl refl low

pub reach_at : Reaches form.Closed ending.Closed (t.Symbol y.At ∷ []) e.at
unfolding primary leaf_at
reach_at l least rest h low q = reach_leaf (t.Symbol y.At) e.at l least rest refl refl refl low

pub reach_boolean : Reaches form.Closed ending.Closed (t.Symbol (y.Word w.BooleanSet) ∷ []) (e.word w.BooleanSet)
unfolding primary leaf_at
reach_boolean l least rest h low q = reach_leaf (t.Symbol (y.Word w.BooleanSet)) (e.word w.BooleanSet) l least rest refl refl refl low

pub reach_variable : Reaches form.Closed ending.Closed (t.Symbol y.Variable ∷ []) (e.name variable_name)
unfolding primary leaf_at
reach_variable l least rest h low q = reach_leaf (t.Symbol y.Variable) (e.name variable_name) l least rest refl refl refl low

pub reach_value : Reaches form.Closed ending.Closed (t.Symbol y.Value ∷ []) (e.name value_name)
unfolding primary leaf_at
reach_value l least rest h low q = reach_leaf (t.Symbol y.Value) (e.name value_name) l least rest refl refl refl low

-- ---- names

tight_by : (v : Symbol) (f : Form) (o : Ending) (k : Token) (rest : List Token) (c : Bool) → is_sign v k ≡ c → next_of (t.Symbol v) ≡ next.Tight → Quiet f o (next_of k) → is_sign v k ≡ false
tight_by v f o k rest false h t q = h
tight_by v f o k rest true h t q =
    let P : Token → Type 0 = λ z. Quiet f o (next_of z) in
    let Q : Next → Type 0 = λ z. Quiet f o z in
    absurd (subst Q t (subst P (token_of_sign v k h) q))

not_tight : (f : Form) (o : Ending) (rest : List Token) → Quiet f o (look.after rest) → (sees (y.Open bracket.Round) rest ≡ false) × (sees y.Prime rest ≡ false)
not_tight f o [] q = (refl, refl)
not_tight f o (k ∷ rest) q = (tight_by (y.Open bracket.Round) f o k rest (is_sign (y.Open bracket.Round) k) refl refl q, tight_by y.Prime f o k rest (is_sign y.Prime k) refl refl q)

pub reach_name : {x : Name} → Reaches form.Closed ending.Closed (t.Name x ∷ []) (e.name x)
unfolding primary named_form plain_name leaf
reach_name {x} l least rest h low q =
    let n = not_tight form.Closed ending.Closed rest q in
    at_first l least form.Closed ending.Closed (t.Name x ∷ []) (e.name x) rest refl low
    (eat_false (y.Open bracket.Round) (call (suc l) (expr l) x) (plain_name (suc l) (expr l) x) rest n.0
    ∙ eat_false y.Prime (leaf (suc l) (expr l) (e.primed x)) (leaf (suc l) (expr l) (e.name x)) rest n.1
    ∙ node_gives (suc l) form.Closed ending.Closed 0 (e.name x) rest refl (omega arith))

pub reach_primed : {x : Name} → Reaches form.Closed ending.Closed (t.Name x ∷ (t.Symbol y.Prime ∷ [])) (e.primed x)
unfolding primary named_form plain_name leaf past
reach_primed {x} l least rest h low q = at_first l least form.Closed ending.Closed (t.Name x ∷ (t.Symbol y.Prime ∷ [])) (e.primed x) rest refl low (node_gives (suc l) form.Closed ending.Closed 0 (e.primed x) rest refl (omega arith))

pub reach_call : {x : Name} {u : Ending} {ts : List Token} {as' : List Tree} → Items kind.tree u ts as' → ReachesItems kind.tree u ts as' → Reaches form.Closed ending.Closed (t.Name x ∷ (t.Symbol (y.Open bracket.Round) ∷ (ts ++ (t.Symbol (y.Close bracket.Round) ∷ [])))) (e.call x (trees as'))
unfolding primary named_form call past
reach_call {x} {u} {ts} {as'} d m l least rest h low q =
    let up = of_trees as' in
    let hm : things_height kind.tree as' ≤ l = omega (arith, h, up) in
    let flat : (ts ++ (t.Symbol (y.Close bracket.Round) ∷ [])) ++ rest ≡ (ts ++ (t.Symbol (y.Close bracket.Round) ∷ rest)) = simp append_assoc in
    at_first l least form.Closed ending.Closed _ (e.call x (trees as')) rest refl low
    (ap (λ i. named_form (suc l) (expr l) (t.Name x ∷ (t.Symbol (y.Open bracket.Round) ∷ i))) flat
    ∙ next_step _ _ _ _ _ (m l (t.Symbol (y.Close bracket.Round) ∷ rest) hm refl tt)
    (next_step _ _ _ _ _ (expect_gives (y.Close bracket.Round) rest)
    (node_gives (suc l) form.Closed ending.Closed (things_height kind.tree as') (e.call x (trees as')) rest (omega (arith, up)) h)))

-- ---- operators

quiet_prefix : (p : Prefix) (f : Form) (o : Ending) (x : Next) → prefix_least p ≤ form_low f → Quiet (form.Prefix p) o x → Quiet f o x × Stops (prefix_least p) x
quiet_prefix p f o (next.Operator op) l q = ((q.0, prefix_takes p op f q.1 l), prefix_stops p op q.1)
quiet_prefix p f o next.Index l q = absurd (let a = prefix-small p in let b = q.1 in omega (arith, a, b))
quiet_prefix p f o next.Field l q = absurd (let a = prefix-small p in let b = q.1 in omega (arith, a, b))
quiet_prefix p f o next.Arm l q = (q, tt)
quiet_prefix p f o next.Tight l q = absurd q
quiet_prefix p f o next.End l q = (tt, tt)

prefix_opens : (p : Prefix) (i : List Token) → look.opens (prefix_token p ∷ i) ≡ None
prefix_opens pre.Not i = refl
prefix_opens pre.Minus i = refl
prefix_opens pre.Powerset i = refl
prefix_opens pre.Flatten i = refl
prefix_opens pre.Domain i = refl

primary_prefix : (limit : ℕ) (ex : ℕ → Parser (Read Tree)) (p : Prefix) (i : List Token) → primary limit ex (prefix_token p ∷ i) ≡ prefixed limit ex p (prefix_token p ∷ i)
unfolding primary
primary_prefix limit ex pre.Not i = refl
primary_prefix limit ex pre.Minus i = refl
primary_prefix limit ex pre.Powerset i = refl
primary_prefix limit ex pre.Flatten i = refl
primary_prefix limit ex pre.Domain i = refl

pub reach_unary : {p : Prefix} {f : Form} {o : Ending} {ts : List Token} {a : Tree} → prefix_least p ≤ form_low f → Reaches f o ts a → Reaches (form.Prefix p) o (prefix_token p ∷ ts) (e.unary p a)
unfolding prefixed
reach_unary {p} {f} {o} {ts} {a} high r l least rest h low q =
    let z = quiet_prefix p f o (look.after rest) high q in
    let ha : height a ≤ l = omega (arith, h) in
    at_first l least (form.Prefix p) o (prefix_token p ∷ ts) (e.unary p a) rest (prefix_opens p (ts ++ rest)) low
    (primary_prefix (suc l) (expr l) p (ts ++ rest)
    ∙ next_step _ _ _ _ _ (whole f o ts a r l (prefix_least p) rest ha high z.0 z.1) (node_gives (suc l) (form.Prefix p) o (height a) (e.unary p a) rest (omega arith) h))

goes_on_gives : (least : ℕ) (r : Read Tree) (op : Operator) → r.ending ≡ ending.Closed → least ≤ low op → takes_left op r.form ≡ true → goes_on least r op ≡ true
unfolding goes_on
goes_on_gives least r op a c d = ap (λ x. is_closed x && (nat_le least (low op) && takes_left op r.form)) a ∙ ap (λ x. x && takes_left op r.form) (le-leb least (low op) c) ∙ d

turn_operator : (limit : ℕ) (ex : ℕ → Parser (Read Tree)) (least : ℕ) (left : Read Tree) (op : Operator) (i : List Token) → turn limit ex least left (operator_token op ∷ i) ≡ cond (goes_on least left op) (and_then (operation limit ex left op (operator_token op ∷ i)) (λ r. pure (r, true))) (Some ((left, false), operator_token op ∷ i))
unfolding turn
turn_operator limit ex least left (operator.Infix o) i = refl
turn_operator limit ex least left operator.Product i = refl

-- a turn that takes something
taken : (limit : ℕ) (ex : ℕ → Parser (Read Tree)) (least k : ℕ) (left : Read Tree) (i : List Token) (r : Read Tree) (rest : List Token) → turn limit ex least left i ≡ Some ((r, true), rest) → length rest + 1 ≤ length i → length i ≤ k
    → (m : ℕ) × (length rest ≤ m) × (more limit ex least k left i ≡ more limit ex least m r rest)
unfolding more
taken limit ex least zero left i r rest got shorter long = absurd (omega (arith, shorter, long))
taken limit ex least (suc k) left i r rest got shorter long = (k, omega (arith, shorter, long), next_step _ _ _ _ _ got refl)

next_operator : (op : Operator) → next_of (operator_token op) ≡ next.Operator op
next_operator (operator.Infix o) = refl
next_operator operator.Product = refl

right_gives : (l : ℕ) (op : Operator) (i : List Token) → endless i ≡ None → right (suc l) (expr l) op i ≡ expr l (right_least op) i
unfolding right range
right_gives l (operator.Infix op.In) i h = ap (λ z. range_by (suc l) (expr l) (right_least (operator.Infix op.In)) z i) h
right_gives l op i h = refl

quiet_operation : (o : Operator) (f : Form) (u : Ending) (x : Next) → right_least o ≤ form_low f → Quiet (form.Operation o) u x → Quiet f u x × Stops (right_least o) x
quiet_operation o f u (next.Operator p) l q = ((q.0, right_takes o p f q.1 l), right_stops o p q.1)
quiet_operation o f u next.Index l q = absurd (let a = high-small o in let b = low-high o in let c = q.1 in omega (arith, a, b, c))
quiet_operation o f u next.Field l q = absurd (let a = high-small o in let b = low-high o in let c = q.1 in omega (arith, a, b, c))
quiet_operation o f u next.Arm l q = (q, tt)
quiet_operation o f u next.Tight l q = absurd q
quiet_operation o f u next.End l q = (tt, tt)

left_small : (op : Operator) (f : Form) (h n : ℕ) → left_height op f h ≤ n → h ≤ suc n
left_small (operator.Infix o) f h n l = omega (arith, l)
left_small operator.Product form.Closed h n l = omega (arith, l)
left_small operator.Product (form.Prefix p) h n l = omega (arith, l)
left_small operator.Product (form.Operation (operator.Infix o)) h n l = omega (arith, l)
left_small operator.Product (form.Operation operator.Product) h n l = omega (arith, l)

-- an operation, where the operator with its right operand is read
operate : (op : Operator) {f : Form} {u : Ending} {xs : List Token} (ys : List Token) {a c : Tree} → takes_left op f ≡ true → Reaches f ending.Closed xs a → (l least : ℕ) (rest : List Token) → height a ≤ suc l → least ≤ low op
    → operation (suc l) (expr l) (read f ending.Closed a) op (operator_token op ∷ (ys ++ rest)) ≡ Some (read (form.Operation op) u c, rest) → Comes l least (form.Operation op) u (xs ++ (operator_token op ∷ ys)) c rest
operate op {f} {u} {xs} ys {a} {c} takes r l least rest ha low got =
    let P : Next → Type 0 = λ x. Quiet f ending.Closed x in
    let i = operator_token op ∷ (ys ++ rest) in
    let k = r l least (operator_token op ∷ (ys ++ rest)) ha (left_level op f least takes low) (subst P (sym (next_operator op)) (refl, takes)) in
    let goes = goes_on_gives least (read f ending.Closed a) op refl low takes in
    let turned : turn (suc l) (expr l) least (read f ending.Closed a) (operator_token op ∷ (ys ++ rest)) ≡ Some ((read (form.Operation op) u c, true), rest) =
    turn_operator (suc l) (expr l) least (read f ending.Closed a) op (ys ++ rest)
    ∙ ap (λ b. cond b (and_then (operation (suc l) (expr l) (read f ending.Closed a) op (operator_token op ∷ (ys ++ rest))) (λ r. pure (r, true))) (Some ((read f ending.Closed a, false), operator_token op ∷ (ys ++ rest)))) goes
    ∙ ap (λ z. and_then z (λ r. pure (r, true))) got in
    let taking = taken (suc l) (expr l) least k.turns (read f ending.Closed a) (operator_token op ∷ (ys ++ rest)) (read (form.Operation op) u c) rest turned (omega (arith, length-append ys rest)) k.enough in
    record {
      turns = taking.0;
      enough = taking.1;
      comes = ap (λ i. level (suc l) (expr l) least i) (append_assoc xs (operator_token op ∷ ys) rest) ∙ k.comes ∙ taking.2;
    }

pub reach_operation : {op : Operator} {f g : Form} {u : Ending} {xs ys : List Token} {a c : Tree} → takes_left op f ≡ true → right_least op ≤ form_low g → Spelled f ending.Closed xs a → Spelled g u ys c → Reaches f ending.Closed xs a → Reaches g u ys c
    → Reaches (form.Operation op) u (xs ++ (operator_token op ∷ ys)) (applied op f a c)
unfolding operation
reach_operation {op} {f} {g} {u} {xs} {ys} {a} {c} takes high d d' r r' l least rest h low q =
    let up = applied_height op f c d in
    let z = quiet_operation op g u (look.after rest) high q in
    let hl : left_height op f (height a) ≤ l = omega (arith, up, h) in
    let hc : height c ≤ l = omega (arith, up, h) in
    operate op ys takes r l least rest (left_small op f (height a) l hl) low
    (next_step _ _ _ _ _ (right_gives l op (ys ++ rest) (not_endless rest (starts d')) ∙ whole g u ys c r' l (right_least op) rest hc high z.0 z.1)
    (node_gives (suc l) (form.Operation op) u (max (left_height op f (height a)) (height c)) (applied op f a c) rest up h))

pub reach_member : (k : Token) {v : Word} {f : Form} {xs : List Token} {a : Tree} → takes_left (operator.Infix op.In) f ≡ true → endless_of k ≡ Some v → Reaches f ending.Closed xs a
    → Reaches (form.Operation (operator.Infix op.In)) ending.Closed (xs ++ (t.Symbol (y.Infix op.In) ∷ (k ∷ []))) (e.binary op.In a (e.word v))
unfolding operation right range leaf
reach_member k {v} {f} {xs} {a} takes is r l least rest h low q =
    let ha : height a ≤ suc l = omega (arith, h) in
    let tall' = tall a in
    let got : range_by (suc l) (expr l) (right_least (operator.Infix op.In)) (endless_of k) (k ∷ rest) ≡ Some (read form.Closed ending.Closed (e.word v), rest) =
    ap (λ z. range_by (suc l) (expr l) (right_least (operator.Infix op.In)) z (k ∷ rest)) is ∙ node_gives (suc l) form.Closed ending.Closed 0 (e.word v) rest refl (omega (arith, h)) in
    operate (operator.Infix op.In) (k ∷ []) takes r l least rest ha low
    (next_step _ _ _ _ _ got
    (node_gives (suc l) (form.Operation (operator.Infix op.In)) ending.Closed (max (height a) 1) (e.binary op.In a (e.word v)) rest (omega arith) h))

-- ---- indices and fields

ends_closed_gives : (r : Read Tree) → r.ending ≡ ending.Closed → 32 ≤ form_low r.form → ends_closed r ≡ true
unfolding ends_closed
ends_closed_gives r a c = ap (λ x. is_closed x && nat_lt 31 (form_low r.form)) a ∙ lt-ltb 31 (form_low r.form) (omega (arith, c))

not_one_by : (c : Bool) (k : ℕ) → 1 < k → nat_eq k 1 ≡ c → nat_eq k 1 ≡ false
not_one_by false k h e = e
not_one_by true k h e = absurd (let z = eqb-true k 1 e in omega (arith, z, h))

not_one : (k : ℕ) → 1 < k → nat_eq k 1 ≡ false
not_one k h = not_one_by (nat_eq k 1) k h refl

index_gives : (limit : ℕ) (as' : List Tree) (u : Ending) (a : Tree) → height (e.index a (trees as')) ≤ limit → (h : ℕ) × (index_height limit (part u (things_height kind.tree as') as') ≡ Some h) × (max (height a) h + 1 ≡ height (e.index a (trees as')))
unfolding index_height
index_gives limit [] u a l =
    let b : 0 < limit = omega (arith, l) in
    (0 + 1, ap (λ z. cond z (Some (0 + 1)) None) (lt-ltb 0 limit b), omega arith)
index_gives limit (x ∷ []) u a l = (max (height x) 0, refl, omega arith)
index_gives limit (x ∷ (z ∷ as')) u a l =
    let up = of_trees as' in
    let b : max (height x) (max (height z) (things_height kind.tree as')) < limit = omega (arith, l, up) in (
      max (height x) (max (height z) (things_height kind.tree as')) + 1,
      ap (λ c. cond c (Some (max (height x) (max (height z) (things_height kind.tree as')))) (cond (nat_lt (max (height x) (max (height z) (things_height kind.tree as'))) limit) (Some (max (height x) (max (height z) (things_height kind.tree as')) + 1)) None)) (not_one (length (x ∷ (z ∷ as'))) (omega arith))
          ∙ ap (λ c. cond c (Some (max (height x) (max (height z) (things_height kind.tree as')) + 1)) None) (lt-ltb (max (height x) (max (height z) (things_height kind.tree as'))) limit b),
      omega (arith, up),
    )

index_below : (a : Tree) (bs : List Tree) (l : ℕ) → height (e.index a (trees bs)) ≤ suc l → things_height kind.tree bs ≤ l
index_below a [] l h = omega arith
index_below a (x ∷ []) l h = omega (arith, h)
index_below a (x ∷ (z ∷ bs)) l h = let up = of_trees bs in omega (arith, h, up)

pub reach_index : {f : Form} {u : Ending} {xs ys : List Token} {a : Tree} {bs : List Tree} → 32 ≤ form_low f → Items kind.tree u ys bs → Reaches f ending.Closed xs a → ReachesItems kind.tree u ys bs
    → Reaches form.Closed ending.Closed (xs ++ (t.Symbol (y.Open bracket.Square) ∷ (ys ++ (t.Symbol (y.Close bracket.Square) ∷ [])))) (e.index a (trees bs))
unfolding turn indexed
reach_index {f} {u} {xs} {ys} {a} {bs} high d r m l least rest h low q =
    let up = of_trees bs in
    let g = index_gives (suc l) bs u a h in
    let ha : height a ≤ suc l = omega (arith, h) in
    let hm : things_height kind.tree bs ≤ l = index_below a bs l h in
    let flat : (xs ++ (t.Symbol (y.Open bracket.Square) ∷ (ys ++ (t.Symbol (y.Close bracket.Square) ∷ [])))) ++ rest ≡ xs ++ (t.Symbol (y.Open bracket.Square) ∷ (ys ++ (t.Symbol (y.Close bracket.Square) ∷ rest))) = simp append_assoc in
    let k = r l least (t.Symbol (y.Open bracket.Square) ∷ (ys ++ (t.Symbol (y.Close bracket.Square) ∷ rest))) ha (omega (arith, low, high)) (refl, high) in
    let got : indexed (suc l) (expr l) (read f ending.Closed a) (t.Symbol (y.Open bracket.Square) ∷ (ys ++ (t.Symbol (y.Close bracket.Square) ∷ rest))) ≡ Some (read form.Closed ending.Closed (e.index a (trees bs)), rest) =
    next_step _ _ _ _ _ (m l (t.Symbol (y.Close bracket.Square) ∷ rest) hm refl tt)
    (next_step _ _ _ _ _ (expect_gives (y.Close bracket.Square) rest)
    (next_step _ _ _ _ _ (ap (λ z. give_at z rest) g.1)
    (node_gives (suc l) form.Closed ending.Closed (max (height a) g.0) (e.index a (trees bs)) rest g.2 h))) in
    let turned : turn (suc l) (expr l) least (read f ending.Closed a) (t.Symbol (y.Open bracket.Square) ∷ (ys ++ (t.Symbol (y.Close bracket.Square) ∷ rest))) ≡ Some ((read form.Closed ending.Closed (e.index a (trees bs)), true), rest) =
    ap (λ b. cond b (and_then (indexed (suc l) (expr l) (read f ending.Closed a) (t.Symbol (y.Open bracket.Square) ∷ (ys ++ (t.Symbol (y.Close bracket.Square) ∷ rest)))) (λ r. pure (r, true))) (Some ((read f ending.Closed a, false), t.Symbol (y.Open bracket.Square) ∷ (ys ++ (t.Symbol (y.Close bracket.Square) ∷ rest))))) (ends_closed_gives (read f ending.Closed a) refl high)
    ∙ ap (λ z. and_then z (λ r. pure (r, true))) got in
    let taking = taken (suc l) (expr l) least k.turns (read f ending.Closed a) (t.Symbol (y.Open bracket.Square) ∷ (ys ++ (t.Symbol (y.Close bracket.Square) ∷ rest))) (read form.Closed ending.Closed (e.index a (trees bs))) rest turned (omega (arith, length-append ys (t.Symbol (y.Close bracket.Square) ∷ rest))) k.enough in
    record { turns = taking.0; enough = taking.1; comes = ap (λ i. level (suc l) (expr l) least i) flat ∙ k.comes ∙ taking.2 }

pub reach_select : {f : Form} {xs : List Token} {a : Tree} {x : Name} → 32 ≤ form_low f → Reaches f ending.Closed xs a → Reaches form.Closed ending.Closed (xs ++ (t.Symbol y.Dot ∷ (t.Name x ∷ []))) (e.field a x)
unfolding turn selected
reach_select {f} {xs} {a} {x} high r l least rest h low q =
    let ha : height a ≤ suc l = omega (arith, h) in
    let k = r l least (t.Symbol y.Dot ∷ (t.Name x ∷ rest)) ha (omega (arith, low, high)) (refl, high) in
    let got : selected (suc l) (expr l) (read f ending.Closed a) (t.Symbol y.Dot ∷ (t.Name x ∷ rest)) ≡ Some (read form.Closed ending.Closed (e.field a x), rest) =
    node_gives (suc l) form.Closed ending.Closed (height a) (e.field a x) rest (omega arith) h in
    let turned : turn (suc l) (expr l) least (read f ending.Closed a) (t.Symbol y.Dot ∷ (t.Name x ∷ rest)) ≡ Some ((read form.Closed ending.Closed (e.field a x), true), rest) =
    ap (λ b. cond b (and_then (selected (suc l) (expr l) (read f ending.Closed a) (t.Symbol y.Dot ∷ (t.Name x ∷ rest))) (λ r. pure (r, true))) (Some ((read f ending.Closed a, false), t.Symbol y.Dot ∷ (t.Name x ∷ rest)))) (ends_closed_gives (read f ending.Closed a) refl high)
    ∙ ap (λ z. and_then z (λ r. pure (r, true))) got in
    let taking = taken (suc l) (expr l) least k.turns (read f ending.Closed a) (t.Symbol y.Dot ∷ (t.Name x ∷ rest)) (read form.Closed ending.Closed (e.field a x)) rest turned (omega arith) k.enough in
    record { turns = taking.0; enough = taking.1; comes = ap (λ i. level (suc l) (expr l) least i) (append_assoc xs (t.Symbol y.Dot ∷ (t.Name x ∷ [])) rest) ∙ k.comes ∙ taking.2 }

-- What is spelled is read: items and lists.
use Rattle.std.proofs.Common.{◌≡◌, ℕ, zero, suc, ◌+◌, ◌<◌, ◌≤◌, max, true, false, not, List, [], ◌∷◌, ◌++◌, length, Some, None, refl, ap, sym, ◌∙◌, subst, arith, cond}
use Rattle.std.proofs.lemmas.List.{append_assoc, append-nil, length-append}
use Rattle.pgo_base.specs.declared.expr.Infix.TheVariants as op
use Rattle.pgo_base.specs.declared.expr.Word.{Word}
use Rattle.pgo_base.specs.Tree.{Tree, trees}
use Rattle.pgo_base.specs.Tree as e
use Rattle.pgo_lexer.specs.declared.symbol.Bracket.TheVariants as bracket
use Rattle.pgo_lexer.specs.declared.symbol.Junction.{Junction}
use Rattle.pgo_lexer.specs.declared.symbol.Symbol.TheVariants as sign
use Rattle.pgo_lexer.specs.declared.symbol.Symbol.{Symbol}
use Rattle.pgo_lexer.specs.declared.token.Token.{Token}
use Rattle.pgo_lexer.specs.declared.token.Token.TheVariants as t
use Rattle.pgo_expr_read.specs.declared.table.Form.{Form}
use Rattle.pgo_expr_read.specs.declared.table.Form.TheVariants as form
use Rattle.pgo_expr_read.specs.declared.lookahead.Next.{Next}
use Rattle.pgo_expr_read.specs.declared.lookahead.Next.TheVariants as next
use Rattle.pgo_expr_read.specs.declared.lookahead.Opener.TheVariants as opener
use Rattle.pgo_expr_read.specs.declared.read.Ending.{Ending}
use Rattle.pgo_expr_read.specs.declared.read.Ending.TheVariants as ending
use Rattle.pgo_expr_read.specs.declared.read.Read.{Read}
use Rattle.pgo_expr_read.specs.Lookahead as look
use Rattle.pgo_expr_read.specs.Lookahead.{sees, sees_list_next, endless, endless_of}
use Rattle.pgo_expr_read.specs.Heights.{height}
use Rattle.pgo_expr_read.specs.Kinds.{Kind, ItemOf, Name, between, between_of, may_follow}
use Rattle.pgo_expr_read.specs.Kinds as kind
use Rattle.pgo_expr_read.specs.Table.{low}
use Rattle.pgo_expr_read.specs.Spells.{Spelled, Range, Item, Behind, Items, infix_of, joined}
use Rattle.pgo_expr_read.specs.Spells as s
use Rattle.pgo_expr_read.specs.Reading.{◌>>=◌, ◌>>◌, Parser, Outcome, pure, past, made, part, pushed, joins, folded, goes, pass, more_at, one_more, listed_at, leaf, field_step, one_step, tuple_step, index_step, range_by, range, binder, field, arm, step, update, item, items, one_more_joined, close_by, level, expr}
use Rattle.pgo_expr_read.specs.Fronts.{Ended}
use Rattle.pgo_expr_read.proofs.Measures.{thing_height, things_height, of_trees, of_steps}
use Rattle.pgo_expr_read.proofs.Steps.{next_step, fold_ends, fold_goes}
use Rattle.pgo_expr_read.proofs.Reach.{read, Quiet, Stops, Reaches, expect_gives, node_gives, stops, inside, unroll, names_give, pass_gives}
use Rattle.pgo_expr_read.proofs.Heads.{starts, not_endless, not_other}

-- what follows a list or an item of it
abbrev pub Follows : Kind → Ending → List Token → Type 0
Follows kind.step o rest = Unit {0}
Follows kind.binder o rest = look.after rest ≡ next.End
Follows k o rest = Ended o (look.after rest)

abbrev pub ReachesRange : List Token → Tree → Type 0
ReachesRange front a = (l : ℕ) (rest : List Token) → height a ≤ l → look.after rest ≡ next.End → (f : Form) × (o : Ending) × (range (suc l) (expr l) 0 (front ++ rest) ≡ Some (read f o a, rest))

abbrev pub ReachesItem : (k : Kind) → Ending → List Token → ItemOf k → Type 0
ReachesItem k o front a = (l : ℕ) (rest : List Token) → thing_height k a ≤ l → Follows k o rest → (f : Form) × (item (suc l) (expr l) k (front ++ rest) ≡ Some (made f o (thing_height k a) a, rest))

abbrev pub ReachesBehind : (k : Kind) → Ending → Ending → List Token → List (ItemOf k) → Type 0
ReachesBehind k o u front as' = (l n h : ℕ) (xs : List (ItemOf k)) (rest : List Token) → things_height k as' ≤ l → length front ≤ n → goes k rest ≡ false → Follows k u rest
    → folded (goes k) (one_more k (item (suc l) (expr l) k)) n (part o h xs) (front ++ rest) ≡ Some (part u (max h (things_height k as')) (xs ++ as'), rest)

abbrev pub ReachesItems : (k : Kind) → Ending → List Token → List (ItemOf k) → Type 0
ReachesItems k u front as' = (l : ℕ) (rest : List Token) → things_height k as' ≤ l → goes k rest ≡ false → Follows k u rest → items (suc l) (expr l) k (front ++ rest) ≡ Some (part u (things_height k as') as', rest)

-- further items of a junction list
abbrev pub ReachesJoined : List Token → List Tree → Type 0
ReachesJoined front bs = (l n : ℕ) (op : Junction) (a : Tree) (rest : List Token) → height (joined op a bs) ≤ suc l → length front ≤ n
    → folded sees_list_next (one_more_joined (suc l) (expr l) op) n (read form.Closed ending.Closed a) (front ++ (t.ListClose ∷ rest)) ≡ Some (read form.Closed ending.Closed (joined op a bs), t.ListClose ∷ rest)

-- ---- sets that names are bound over

range_of : (l : ℕ) (i : List Token) (x : Outcome (Read Tree)) → endless i ≡ None → expr l 0 i ≡ x → range (suc l) (expr l) 0 i ≡ x
unfolding range
range_of l i x h got = ap (λ z. range_by (suc l) (expr l) 0 z i) h ∙ got

ended : (o : Ending) (x : Next) → x ≡ next.End → Ended o x
ended o x h = let P : Next → Type 0 = λ z. Ended o z in subst P (sym h) tt

pub reach_any : {f : Form} {o : Ending} {ts : List Token} {a : Tree} → Spelled f o ts a → Reaches f o ts a → ReachesRange ts a
reach_any {f} {o} {ts} {a} d r l rest h ends = (f, o, range_of l (ts ++ rest) (Some (read f o a, rest)) (not_endless rest (starts d)) (inside f o ts a r l rest h (ended o (look.after rest) ends)))

pub reach_endless : (k : Token) (v : Word) → endless_of k ≡ Some v → ReachesRange (k ∷ []) (e.word v)
unfolding range leaf
reach_endless k v is l rest h ends = (form.Closed, ending.Closed, ap (λ z. range_by (suc l) (expr l) 0 z (k ∷ rest)) is ∙ node_gives (suc l) form.Closed ending.Closed 0 (e.word v) rest refl (omega arith))

-- ---- items

pub reach_tree : {f : Form} {o : Ending} {ts : List Token} {a : Tree} → Reaches f o ts a → ReachesItem kind.tree o ts a
reach_tree {f} {o} {ts} {a} r l rest h ends = (f, inside f o ts a r l rest h ends)

pub reach_item : {f : Form} {o : Ending} {ts : List Token} {a : Tree} → Reaches f o ts a → ReachesItem kind.item o ts a
reach_item {f} {o} {ts} {a} r l rest h ends = (f, inside f o ts a r l rest h ends)

pub reach_binder : {x : Name} {xs : List Name} {ts : List Token} {a : Tree} → Range ts a → ReachesRange ts a → ReachesItem kind.binder ending.Closed (s.names x xs ++ (t.Symbol (sign.Infix op.In) ∷ ts)) (x ∷ xs, a)
unfolding binder
reach_binder {x} {xs} {ts} {a} d r l rest h ends =
    let g = r l rest h ends in
    let flat : (s.names x xs ++ (t.Symbol (sign.Infix op.In) ∷ ts)) ++ rest ≡ s.names x xs ++ (t.Symbol (sign.Infix op.In) ∷ (ts ++ rest)) = append_assoc (s.names x xs) (t.Symbol (sign.Infix op.In) ∷ ts) rest in (
      form.Closed,
      ap (λ i. binder (suc l) (expr l) i) flat
          ∙ next_step _ _ _ _ _ (names_give x xs (t.Symbol (sign.Infix op.In) ∷ (ts ++ rest)) refl)
          (next_step _ _ _ _ _ (expect_gives (sign.Infix op.In) (ts ++ rest))
          (next_step _ _ _ _ _ g.2 refl)),
    )

pub reach_field : (v : Symbol) {x : Name} {f : Form} {o : Ending} {ts : List Token} {a : Tree} → Reaches f o ts a → ReachesItem (kind.field v) o (t.Name x ∷ (t.Symbol v ∷ ts)) (x, a)
unfolding field
reach_field v {x} {f} {o} {ts} {a} r l rest h ends =
    (form.Closed, next_step _ _ _ _ _ (expect_gives v (ts ++ rest)) (next_step _ _ _ _ _ (inside f o ts a r l rest h ends) refl))

pub reach_definition : {x : Name} {f : Form} {o : Ending} {ts : List Token} {a : Tree} → Reaches f o ts a → ReachesItem kind.definition o (t.Name x ∷ (t.Symbol sign.Defines ∷ ts)) (x, a)
unfolding field
reach_definition {x} {f} {o} {ts} {a} r l rest h ends =
    (form.Closed, next_step _ _ _ _ _ (expect_gives sign.Defines (ts ++ rest)) (next_step _ _ _ _ _ (inside f o ts a r l rest h ends) refl))

pub reach_arm : {f g : Form} {o u : Ending} {xs ys : List Token} {a c : Tree} → Reaches f o xs a → Reaches g u ys c → ReachesItem kind.arm u (xs ++ (t.Symbol sign.Arrow ∷ ys)) (a, c)
unfolding arm
reach_arm {f} {g} {o} {u} {xs} {ys} {a} {c} r r' l rest h ends =
    let ha : height a ≤ l = omega (arith, h) in
    let hc : height c ≤ l = omega (arith, h) in (
      form.Closed,
      ap (λ i. arm (suc l) (expr l) i) (append_assoc xs (t.Symbol sign.Arrow ∷ ys) rest)
          ∙ next_step _ _ _ _ _ (inside f o xs a r l (t.Symbol sign.Arrow ∷ (ys ++ rest)) ha tt)
          (next_step _ _ _ _ _ (expect_gives sign.Arrow (ys ++ rest))
          (next_step _ _ _ _ _ (inside g u ys c r' l rest hc ends) refl)),
    )

pub reach_index_step : {f : Form} {o : Ending} {ts : List Token} {a : Tree} → Reaches f o ts a → ReachesItem kind.step ending.Closed (t.Symbol (sign.Open bracket.Square) ∷ (ts ++ (t.Symbol (sign.Close bracket.Square) ∷ []))) a
unfolding step index_step one_step past
reach_index_step {f} {o} {ts} {a} r l rest h ends = (
  form.Closed,
  ap (λ i. step (suc l) (expr l) (t.Symbol (sign.Open bracket.Square) ∷ i)) (append_assoc ts (t.Symbol (sign.Close bracket.Square) ∷ []) rest)
      ∙ next_step _ _ _ _ _ (expect_gives (sign.Open bracket.Square) (ts ++ (t.Symbol (sign.Close bracket.Square) ∷ rest)))
      (next_step _ _ _ _ _ (inside f o ts a r l (t.Symbol (sign.Close bracket.Square) ∷ rest) h tt)
      (next_step _ _ _ _ _ (expect_gives (sign.Close bracket.Square) rest) refl)),
)

pub reach_field_step : {x : Name} → ReachesItem kind.step ending.Closed (t.Symbol sign.Dot ∷ (t.Name x ∷ [])) (e.text x)
unfolding step field_step past
reach_field_step {x} l rest h ends = (form.Closed, refl)

pub reach_update : {f : Form} {o u : Ending} {xs ys : List Token} {as' : List Tree} {a : Tree} → Items kind.step u xs as' → ReachesItems kind.step u xs as' → Reaches f o ys a → ReachesItem kind.update o (t.Symbol sign.Bang ∷ (xs ++ (t.Symbol (sign.Infix op.Equal) ∷ ys))) (as', a)
unfolding update
reach_update {f} {o} {u} {xs} {ys} {as'} {a} d m r l rest h ends =
    let up = of_steps as' in
    let hp : things_height kind.step as' ≤ l = omega (arith, h, up) in
    let ha : height a ≤ l = omega (arith, h) in (
      form.Closed,
      ap (λ i. update (suc l) (expr l) (t.Symbol sign.Bang ∷ i)) (append_assoc xs (t.Symbol (sign.Infix op.Equal) ∷ ys) rest)
          ∙ next_step _ _ _ _ _ (expect_gives sign.Bang (xs ++ (t.Symbol (sign.Infix op.Equal) ∷ (ys ++ rest))))
          (next_step _ _ _ _ _ (m l (t.Symbol (sign.Infix op.Equal) ∷ (ys ++ rest)) hp refl tt)
          (next_step _ _ _ _ _ (expect_gives (sign.Infix op.Equal) (ys ++ rest))
          (next_step _ _ _ _ _ (inside f o ys a r l rest ha ends)
          (ap (λ z. Some (part o (max z (height a)) (as', a), rest)) (sym up))))),
    )

-- ---- lists

-- an item has tokens, with what stands before it
pub some_item : {k : Kind} {o : Ending} {ts : List Token} {a : ItemOf k} → Item k o ts a → 0 < length (between k) + length ts
some_item (s.tree d) = omega arith
some_item (s.item d) = omega arith
some_item (s.binder r) = omega arith
some_item (s.field d) = omega arith
some_item (s.definition d) = omega arith
some_item (s.arm d d') = omega arith
some_item (s.index_step d) = omega arith
some_item (s.tuple_step d b) = omega arith
some_item s.field_step = omega arith
some_item (s.update m d) = omega arith

-- a list goes on before an item of it
pub goes_item : {k : Kind} {o : Ending} {ts : List Token} {a : ItemOf k} (rest : List Token) → Item k o ts a → goes k (between k ++ (ts ++ rest)) ≡ true
goes_item rest (s.tree d) = refl
goes_item rest (s.item d) = refl
goes_item rest (s.binder r) = refl
goes_item rest (s.field d) = refl
goes_item rest (s.definition d) = refl
goes_item rest (s.arm {xs = xs} {ys = ys} d d') = ap not (ap (λ i. sees sign.Other i) (append_assoc xs (t.Symbol sign.Arrow ∷ ys) rest) ∙ not_other (t.Symbol sign.Arrow ∷ (ys ++ rest)) (starts d))
goes_item rest (s.index_step d) = refl
goes_item rest (s.tuple_step d b) = refl
goes_item rest s.field_step = refl
goes_item rest (s.update m d) = refl

-- what follows an item before an item
follows_item : {k : Kind} (o : Ending) {u : Ending} {ts : List Token} {a : ItemOf k} (rest : List Token) → may_follow k o ≡ true → Item k u ts a → Follows k o (between k ++ (ts ++ rest))
follows_item o rest m (s.tree d) = tt
follows_item o rest m (s.item d) = tt
follows_item o rest m (s.binder r) = refl
follows_item o rest m (s.field d) = tt
follows_item o rest m (s.definition d) = tt
follows_item ending.Closed rest m (s.arm d d') = refl
follows_item ending.Open rest m (s.arm d d') = refl
follows_item ending.Case rest m (s.arm d d') = cc
follows_item o rest m (s.index_step d) = tt
follows_item o rest m (s.tuple_step d b) = tt
follows_item o rest m s.field_step = tt
follows_item o rest m (s.update m' d) = tt

pub follows_behind : {k : Kind} {o u : Ending} {ts : List Token} {as' : List (ItemOf k)} (rest : List Token) → Behind k o u ts as' → Follows k u rest → Follows k o (ts ++ rest)
follows_behind rest s.none h = h
follows_behind {k} {o} rest (s.one_more {xs = xs} {ys = ys} m d b) h =
    let P : List Token → Type 0 = λ i. Follows k o i in
    let flat : (between k ++ (xs ++ ys)) ++ rest ≡ between k ++ (xs ++ (ys ++ rest)) = append_assoc (between k) (xs ++ ys) rest ∙ ap (λ i. between k ++ i) (append_assoc xs ys rest) in
    subst P (sym flat) (follows_item o (ys ++ rest) m d)

one_more_gives : (k : Kind) (it : Parser (Read (ItemOf k))) (o u : Ending) (f : Form) (h m : ℕ) (xs : List (ItemOf k)) (a : ItemOf k) (i rest : List Token) → may_follow k o ≡ true → it i ≡ Some (made f u m a, rest)
    → one_more k it (part o h xs) (between k ++ i) ≡ Some (part u (max h m) (xs ++ a ∷ []), rest)
unfolding more_at
one_more_gives k it o u f h m xs a i rest may got =
    ap (λ b. (cond {A = Parser (Read (List (ItemOf k)))} b (pass k >> (it >>= (λ r. pure (pushed (part o h xs) r)))) (λ i. None)) (between k ++ i)) may
    ∙ next_step _ _ _ _ _ (pass_gives (between_of k) i) (next_step _ _ _ _ _ got refl)

pub reach_none : (k : Kind) (o : Ending) → ReachesBehind k o o [] []
reach_none k o l n h xs rest hs ln g ends =
    fold_ends (goes k) (one_more k (item (suc l) (expr l) k)) n (part o h xs) rest g
    ∙ ap (λ z. Some (part o z xs, rest)) (let z : h ≡ max h 0 = omega arith in z) ∙ ap (λ z. Some (part o (max h 0) z, rest)) (sym (append-nil xs))

pub reach_one_more : {k : Kind} (o : Ending) {u v : Ending} {xs ys : List Token} {a : ItemOf k} {as' : List (ItemOf k)} → may_follow k o ≡ true → Item k u xs a → Behind k u v ys as' → ReachesItem k u xs a → ReachesBehind k u v ys as' → ReachesBehind k o v (between k ++ (xs ++ ys)) (a ∷ as')
reach_one_more {k} o {u} {v} {xs} {ys} {a} {as'} may d b r m l zero h done rest hs ln g ends = absurd (let some = some_item d in omega (arith, some, ln, length-append (between k) (xs ++ ys), length-append xs ys))
reach_one_more {k} o {u} {v} {xs} {ys} {a} {as'} may d b r m l (suc n) h done rest hs ln g ends =
    let some = some_item d in
    let short : length ys ≤ n = omega (arith, some, ln, length-append (between k) (xs ++ ys), length-append xs ys) in
    let ha : thing_height k a ≤ l = omega (arith, hs) in
    let hb : things_height k as' ≤ l = omega (arith, hs) in
    let flat : (between k ++ (xs ++ ys)) ++ rest ≡ between k ++ (xs ++ (ys ++ rest)) = append_assoc (between k) (xs ++ ys) rest ∙ ap (λ i. between k ++ i) (append_assoc xs ys rest) in
    let first = r l (ys ++ rest) ha (follows_behind rest b ends) in
    let one = one_more_gives k (item (suc l) (expr l) k) o u first.0 h (thing_height k a) done a (xs ++ (ys ++ rest)) (ys ++ rest) may first.1 in
    let high : max (max h (thing_height k a)) (things_height k as') ≡ max h (max (thing_height k a) (things_height k as')) = omega arith in
    ap (λ i. folded (goes k) (one_more k (item (suc l) (expr l) k)) (suc n) (part o h done) i) flat
    ∙ fold_goes (goes k) (one_more k (item (suc l) (expr l) k)) n (part o h done) (part u (max h (thing_height k a)) (done ++ a ∷ [])) (between k ++ (xs ++ (ys ++ rest))) (ys ++ rest) (goes_item (ys ++ rest) d) one
    ∙ m l n (max h (thing_height k a)) (done ++ a ∷ []) rest hb short g ends
    ∙ ap (λ z. Some (part v z ((done ++ a ∷ []) ++ as'), rest)) high
    ∙ ap (λ z. Some (part v (max h (max (thing_height k a) (things_height k as'))) z, rest)) (append_assoc done (a ∷ []) as')

pub reach_items : {k : Kind} {o u : Ending} {xs ys : List Token} {a : ItemOf k} {as' : List (ItemOf k)} → Item k o xs a → Behind k o u ys as' → ReachesItem k o xs a → ReachesBehind k o u ys as' → ReachesItems k u (xs ++ ys) (a ∷ as')
unfolding listed_at
reach_items {k} {o} {u} {xs} {ys} {a} {as'} d b r m l rest hs g ends =
    let ha : thing_height k a ≤ l = omega (arith, hs) in
    let hb : things_height k as' ≤ l = omega (arith, hs) in
    let first = r l (ys ++ rest) ha (follows_behind rest b ends) in
    let high : max (max 0 (thing_height k a)) (things_height k as') ≡ max (thing_height k a) (things_height k as') = omega arith in
    ap (λ i. items (suc l) (expr l) k i) (append_assoc xs ys rest)
    ∙ next_step _ _ _ _ _ first.1 (m l (length (ys ++ rest)) (max 0 (thing_height k a)) (a ∷ []) rest hb (omega (arith, length-append ys rest)) g ends)
    ∙ ap (λ z. Some (part u z (a ∷ as'), rest)) high

-- ---- several indices

-- the first comma
comma_next : {o u : Ending} {ys : List Token} {c : Tree} {bs : List Tree} (rest : List Token) → Behind kind.tree o u ys (c ∷ bs) → sees sign.Comma (ys ++ rest) ≡ true
comma_next rest (s.one_more m d b) = refl

index_ended : {o u : Ending} {ys : List Token} {c : Tree} {bs : List Tree} (rest : List Token) → Behind kind.tree o u ys (c ∷ bs) → look.after (ys ++ rest) ≡ next.End
index_ended rest (s.one_more m d b) = refl

pub reach_tuple_step : {f : Form} {o u : Ending} {xs ys : List Token} {a c : Tree} {bs : List Tree} → Behind kind.tree o u ys (c ∷ bs) → Reaches f o xs a → ReachesBehind kind.tree o u ys (c ∷ bs)
    → ReachesItem kind.step ending.Closed (t.Symbol (sign.Open bracket.Square) ∷ (xs ++ (ys ++ (t.Symbol (sign.Close bracket.Square) ∷ [])))) (e.tuple (trees (a ∷ (c ∷ bs))))
unfolding step index_step tuple_step past
reach_tuple_step {f} {o} {u} {xs} {ys} {a} {c} {bs} b r m l rest h ends =
    let up = of_trees (c ∷ bs) in
    let j = t.Symbol (sign.Close bracket.Square) ∷ rest in
    let ha : height a ≤ l = omega (arith, h) in
    let hb : things_height kind.tree (c ∷ bs) ≤ l = omega (arith, h, up) in
    let low : height (e.tuple (trees (a ∷ (c ∷ bs)))) ≤ suc l = omega (arith, h) in
    let flat : (xs ++ (ys ++ (t.Symbol (sign.Close bracket.Square) ∷ []))) ++ rest ≡ xs ++ (ys ++ j) = simp append_assoc in
    let high : max (max 0 (height a)) (things_height kind.tree (c ∷ bs)) + 1 ≡ height (e.tuple (trees (a ∷ (c ∷ bs)))) = omega (arith, up) in (
      form.Closed,
      ap (λ i. step (suc l) (expr l) (t.Symbol (sign.Open bracket.Square) ∷ i)) flat
          ∙ next_step _ _ _ _ _ (expect_gives (sign.Open bracket.Square) (xs ++ (ys ++ j)))
          (next_step _ _ _ _ _ (inside f o xs a r l (ys ++ j) ha (ended o _ (index_ended j b)))
          (ap (λ z. cond z (tuple_step (suc l) (expr l) (read f o a) (ys ++ j)) (one_step (suc l) (expr l) (read f o a) (ys ++ j))) (comma_next j b)
          ∙ next_step _ _ _ _ _ (m l (length (ys ++ j)) (max 0 (height a)) (a ∷ []) j hb (omega (arith, length-append ys j)) refl tt)
          (next_step _ _ _ _ _ (expect_gives (sign.Close bracket.Square) rest)
          (node_gives (suc l) form.Closed ending.Closed (max (max 0 (height a)) (things_height kind.tree (c ∷ bs))) (e.tuple (trees (a ∷ (c ∷ bs)))) rest high low)))),
    )

-- ---- junction lists

pub joined_below : (limit : ℕ) (op : Junction) (a : Tree) (bs : List Tree) → height (joined op a bs) ≤ limit → height a ≤ limit
joined_below limit op a [] h = h
joined_below limit op a (c ∷ bs) h = let inner = joined_below limit op (e.binary (infix_of op) a c) bs h in omega (arith, inner)

pub reach_joined_none : ReachesJoined [] []
reach_joined_none l n op a rest h ln = fold_ends sees_list_next (one_more_joined (suc l) (expr l) op) n (read form.Closed ending.Closed a) (t.ListClose ∷ rest) refl

item_ended : {o u : Ending} {ys : List Token} {bs : List Tree} (rest : List Token) → Behind kind.item o u ys bs → look.after (ys ++ (t.ListClose ∷ rest)) ≡ next.End
item_ended rest s.none = refl
item_ended rest (s.one_more m d b) = refl

pub reach_joined_more : {f : Form} {o u : Ending} {xs ys : List Token} {c : Tree} {bs : List Tree} → Reaches f o xs c → Behind kind.item o u ys bs → ReachesJoined ys bs → ReachesJoined (t.ListNext ∷ (xs ++ ys)) (c ∷ bs)
unfolding one_more_joined joins
reach_joined_more r b m l zero op a rest h ln = absurd (omega (arith, ln))
reach_joined_more {f} {o} {u} {xs} {ys} {c} {bs} r b m l (suc n) op a rest h ln =
    let inner = joined_below (suc l) op (e.binary (infix_of op) a c) bs h in
    let hc : height c ≤ l = omega (arith, inner) in
    let ends : Ended o (look.after (ys ++ (t.ListClose ∷ rest))) = ended o _ (item_ended rest b) in
    let up : max (height a) (height c) + 1 ≡ height (e.binary (infix_of op) a c) = omega arith in
    ap (λ i. folded sees_list_next (one_more_joined (suc l) (expr l) op) (suc n) (read form.Closed ending.Closed a) (t.ListNext ∷ i)) (append_assoc xs ys (t.ListClose ∷ rest))
    ∙ fold_goes sees_list_next (one_more_joined (suc l) (expr l) op) n (read form.Closed ending.Closed a) (read form.Closed ending.Closed (e.binary (infix_of op) a c)) (t.ListNext ∷ (xs ++ (ys ++ (t.ListClose ∷ rest)))) (ys ++ (t.ListClose ∷ rest)) refl
    (next_step _ _ _ _ _ (inside f o xs c r l (ys ++ (t.ListClose ∷ rest)) hc ends) (node_gives (suc l) form.Closed ending.Closed _ (e.binary (infix_of op) a c) (ys ++ (t.ListClose ∷ rest)) up inner))
    ∙ m l n op (e.binary (infix_of op) a c) rest h (omega (arith, ln, length-append xs ys))

close_list : (l : ℕ) (op : Junction) (f : Form) (o : Ending) (a : Tree) (ys : List Token) (bs : List Tree) (rest : List Token) → ReachesJoined ys bs → height (joined op a bs) ≤ suc l
    → close_by (suc l) (expr l) (opener.List op) (read f o a) (ys ++ (t.ListClose ∷ rest)) ≡ Some (read form.Closed ending.Closed (joined op a bs), rest)
close_list l op f o a ys bs rest m h =
    next_step _ _ _ _ _ (m l (length (ys ++ (t.ListClose ∷ rest))) op a rest h (omega (arith, length-append ys (t.ListClose ∷ rest))))
    refl

pub reach_junction : (op : Junction) {f : Form} {o u : Ending} {xs ys : List Token} {a : Tree} {bs : List Tree} → Behind kind.item o u ys bs → Reaches f o xs a → ReachesJoined ys bs
    → Reaches form.Closed ending.Closed (t.ListOpen op ∷ (xs ++ (ys ++ (t.ListClose ∷ [])))) (joined op a bs)
reach_junction op {f} {o} {u} {xs} {ys} {a} {bs} b r m l least rest h low q =
    let first = joined_below (suc l) op a bs h in
    let j = ys ++ (t.ListClose ∷ rest) in
    let P : Next → Type 0 = λ x. Quiet f o x in
    let Q : Next → Type 0 = λ x. Stops 0 x in
    let ends = item_ended rest b in
    let c = r l 0 (ys ++ (t.ListClose ∷ rest)) first (omega arith) (subst P (sym ends) tt) in
    let is = c.comes ∙ stops (suc l) (expr l) 0 c.turns (read f o a) (ys ++ (t.ListClose ∷ rest)) (subst Q (sym ends) tt) in
    let flat : (xs ++ (ys ++ (t.ListClose ∷ []))) ++ rest ≡ xs ++ (ys ++ (t.ListClose ∷ rest)) = simp append_assoc in
    record {
      turns = length rest;
      enough = omega arith;
      comes = ap (λ i. level (suc l) (expr l) least (t.ListOpen op ∷ i)) flat
          ∙ unroll (suc l) (expr l) least (opener.List op) (xs ++ (ys ++ (t.ListClose ∷ rest))) (read f o a) (ys ++ (t.ListClose ∷ rest)) (read form.Closed ending.Closed (joined op a bs)) rest low is (close_list l op f o a ys bs rest m h);
    }

pub reach_parens : {f : Form} {o : Ending} {ts : List Token} {a : Tree} → Reaches f o ts a → Reaches form.Closed ending.Closed (t.Symbol (sign.Open bracket.Round) ∷ (ts ++ (t.Symbol (sign.Close bracket.Round) ∷ []))) a
reach_parens {f} {o} {ts} {a} r l least rest h low q =
    let c = r l 0 (t.Symbol (sign.Close bracket.Round) ∷ rest) h (omega arith) tt in
    let is = c.comes ∙ stops (suc l) (expr l) 0 c.turns (read f o a) (t.Symbol (sign.Close bracket.Round) ∷ rest) tt in
    record {
      turns = length rest;
      enough = omega arith;
      comes = ap (λ i. level (suc l) (expr l) least (t.Symbol (sign.Open bracket.Round) ∷ i)) (append_assoc ts (t.Symbol (sign.Close bracket.Round) ∷ []) rest)
          ∙ unroll (suc l) (expr l) least opener.Round (ts ++ (t.Symbol (sign.Close bracket.Round) ∷ rest)) (read f o a) (t.Symbol (sign.Close bracket.Round) ∷ rest) (read form.Closed ending.Closed a) rest low is (next_step _ _ _ _ _ (expect_gives (sign.Close bracket.Round) rest) refl);
    }

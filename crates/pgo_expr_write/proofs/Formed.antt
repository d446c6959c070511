-- What tokens of a text spell is well formed.
use Rattle.std.proofs.Common.{◌≡◌, ◌≤◌, ℕ, Bool, true, false, ◌&&◌, ◌||◌, ◌⊎◌, inl, inr, List, [], ◌∷◌, ◌++◌, refl, sym, subst, arith, nat_eq, nat_le}
use Rattle.std.proofs.lemmas.Bool.{and_parts, eqb-true, leb-true}
use Rattle.std.proofs.lemmas.Bool.Decides.{nat_tests}
use Rattle.pgo_base.specs.Lookup.{Name}
use Rattle.pgo_base.specs.Tree.{Tree, Trees, no_trees, more_trees, trees, named, arms, bound, paths}
use Rattle.pgo_base.specs.Tree as e
use Rattle.pgo_model.specs.ValueText.{is_digit, is_letter, is_word_byte}
use Rattle.pgo_lexer.specs.declared.symbol.Junction.{Junction}
use Rattle.pgo_lexer.specs.declared.symbol.Symbol.TheVariants as sign
use Rattle.pgo_lexer.specs.declared.token.Token.{Token}
use Rattle.pgo_lexer.specs.declared.token.Token.TheVariants as t
use Rattle.pgo_lexer.specs.Lexemes.{all_are}
use Rattle.pgo_expr_read.specs.declared.table.Form.{Form}
use Rattle.pgo_expr_read.specs.declared.table.Form.TheVariants as form
use Rattle.pgo_expr_read.specs.declared.table.Operator.{Operator}
use Rattle.pgo_expr_read.specs.declared.table.Operator.TheVariants as operator
use Rattle.pgo_expr_read.specs.declared.read.Ending.{Ending}
use Rattle.pgo_expr_read.specs.Lookahead.{is_mapped}
use Rattle.pgo_expr_read.specs.Kinds as kind
use Rattle.pgo_expr_read.specs.Kinds.{Kind, ItemOf, between}
use Rattle.pgo_expr_read.specs.Spells.{Spelled, Range, Item, Behind, Items, names, more_names, applied, extended, product_of_two, appended, joined, infix_of}
use Rattle.pgo_expr_read.specs.Spells as s
use Rattle.pgo_expr_write.specs.WellFormed.{IsWellFormed, IsName, AreNames, AreSomeNames, IsNumber, is_string_byte, is_word, AreAll, AreSome, AreTwo, AreAllNamed, AreNamed, AreAllArms, AreArms, AreAllBinders, AreBinders, AreAllUpdates, AreUpdates}
use Rattle.pgo_expr_write.proofs.Leaves.{name_bytes}

-- ---- tokens

-- names, numbers and strings of a text
abbrev pub Told : Token → Type 0
Told (t.Name x) = IsName x
Told (t.Number z) = IsNumber z
Told (t.Text x) = all_are is_string_byte x ≡ true
Told _ = Unit {0}

-- and no `$variable` or `$value`
abbrev pub AllTold : List Token → Type 0
AllTold [] = Unit {0}
AllTold (k ∷ ks) = Told k × (is_mapped k ≡ false) × AllTold ks

told_parts : (xs ys : List Token) → AllTold (xs ++ ys) → AllTold xs × AllTold ys
told_parts [] ys h = (tt, h)
told_parts (k ∷ xs) ys h = let q = told_parts xs ys h.2 in ((h.0, h.1, q.0), q.1)

names_told : (xs : List Name) → AllTold (more_names xs) → AreNames xs
names_told [] h = tt
names_told (x ∷ xs) h = (h.2.0, names_told xs h.2.2)

-- ---- bytes of names

either : (x y : Bool) → (x || y) ≡ true → (x ≡ true) ⊎ (y ≡ true)
either true y h = inl refl
either false y h = inr h

printed : (b : ℕ) → 32 ≤ b → b ≤ 126 → is_string_byte b ≡ true
printed b l h = grind (arith, nat_tests, l, h)

between_printed : (b k n : ℕ) → 32 ≤ k → n ≤ 126 → (nat_le k b && nat_le b n) ≡ true → is_string_byte b ≡ true
between_printed b k n l m h = let q = and_parts (nat_le k b) (nat_le b n) h in let x = leb-true k b q.0 in let y = leb-true b n q.1 in printed b (omega (arith, l, x)) (omega (arith, m, y))

letter_printed : (b : ℕ) → is_letter b ≡ true → is_string_byte b ≡ true
letter_printed b h = elim (either (nat_le 65 b && nat_le b 90) (nat_le 97 b && nat_le b 122) h) [
  | inl x ↦ between_printed b 65 90 (omega arith) (omega arith) x
  | inr x ↦ between_printed b 97 122 (omega arith) (omega arith) x
]

word_printed : (b : ℕ) → is_word_byte b ≡ true → is_string_byte b ≡ true
word_printed b h = elim (either (is_letter b || is_digit b) (nat_eq b 95) h) [
  | inl x ↦ elim (either (is_letter b) (is_digit b) x) [ inl y ↦ letter_printed b y | inr y ↦ between_printed b 48 57 (omega arith) (omega arith) y ]
  | inr x ↦ subst (λ z. is_string_byte z ≡ true) (sym (eqb-true b 95 x)) refl
]

words_printed : (bs : List ℕ) → all_are is_word_byte bs ≡ true → all_are is_string_byte bs ≡ true
words_printed [] h = refl
words_printed (b ∷ bs) h = let q = and_parts (is_word_byte b) (all_are is_word_byte bs) h in λ i. word_printed b q.0 i && words_printed bs q.1 i

-- ---- items

abbrev Formed : (k : Kind) → ItemOf k → Type 0
Formed kind.tree a = IsWellFormed a
Formed kind.item a = IsWellFormed a
Formed kind.binder p = AreSomeNames p.0 × ((is_word p.1 ≡ true) ⊎ IsWellFormed p.1)
Formed (kind.field v) p = IsName p.0 × IsWellFormed p.1
Formed kind.definition p = IsName p.0 × IsWellFormed p.1
Formed kind.arm p = IsWellFormed p.0 × IsWellFormed p.1
Formed kind.step a = IsWellFormed a
Formed kind.update p = AreSome (trees p.0) × IsWellFormed p.1

abbrev AllFormed : (k : Kind) → List (ItemOf k) → Type 0
AllFormed k [] = Unit {0}
AllFormed k (a ∷ as') = Formed k a × AllFormed k as'

abbrev SomeFormed : (k : Kind) → List (ItemOf k) → Type 0
SomeFormed k [] = ⊥
SomeFormed k (a ∷ as') = Formed k a × AllFormed k as'

all_trees : (as' : List Tree) → AllFormed kind.tree as' → AreAll (trees as')
all_trees [] h = tt
all_trees (a ∷ as') h = (h.0, all_trees as' h.1)

some_trees : (as' : List Tree) → SomeFormed kind.tree as' → AreSome (trees as')
some_trees [] h = absurd h
some_trees (a ∷ as') h = (h.0, all_trees as' h.1)

any_trees : (as' : List Tree) → SomeFormed kind.tree as' → AreAll (trees as')
any_trees [] h = absurd h
any_trees (a ∷ as') h = (h.0, all_trees as' h.1)

all_steps : (as' : List Tree) → AllFormed kind.step as' → AreAll (trees as')
all_steps [] h = tt
all_steps (a ∷ as') h = (h.0, all_steps as' h.1)

some_steps : (as' : List Tree) → SomeFormed kind.step as' → AreSome (trees as')
some_steps [] h = absurd h
some_steps (a ∷ as') h = (h.0, all_steps as' h.1)

all_fields : (v : _) (ds : List (Name × Tree)) → AllFormed (kind.field v) ds → AreAllNamed (named ds)
all_fields v [] h = tt
all_fields v (d ∷ ds) h = (h.0.0, h.0.1, all_fields v ds h.1)

some_fields : (v : _) (ds : List (Name × Tree)) → SomeFormed (kind.field v) ds → AreNamed (named ds)
some_fields v [] h = absurd h
some_fields v (d ∷ ds) h = (h.0.0, h.0.1, all_fields v ds h.1)

all_definitions : (ds : List (Name × Tree)) → AllFormed kind.definition ds → AreAllNamed (named ds)
all_definitions [] h = tt
all_definitions (d ∷ ds) h = (h.0.0, h.0.1, all_definitions ds h.1)

some_definitions : (ds : List (Name × Tree)) → SomeFormed kind.definition ds → AreNamed (named ds)
some_definitions [] h = absurd h
some_definitions (d ∷ ds) h = (h.0.0, h.0.1, all_definitions ds h.1)

all_arms : (gs : List (Tree × Tree)) → AllFormed kind.arm gs → AreAllArms (arms gs)
all_arms [] h = tt
all_arms (g ∷ gs) h = (h.0.0, h.0.1, all_arms gs h.1)

some_arms : (gs : List (Tree × Tree)) → SomeFormed kind.arm gs → AreArms (arms gs)
some_arms [] h = absurd h
some_arms (g ∷ gs) h = (h.0.0, h.0.1, all_arms gs h.1)

all_binders : (bs : List (List Name × Tree)) → AllFormed kind.binder bs → AreAllBinders (bound bs)
all_binders [] h = tt
all_binders (b ∷ bs) h = (h.0.0, h.0.1, all_binders bs h.1)

some_binders : (bs : List (List Name × Tree)) → SomeFormed kind.binder bs → AreBinders (bound bs)
some_binders [] h = absurd h
some_binders (b ∷ bs) h = (h.0.0, h.0.1, all_binders bs h.1)

all_updates : (us : List (List Tree × Tree)) → AllFormed kind.update us → AreAllUpdates (paths us)
all_updates [] h = tt
all_updates (u ∷ us) h = (h.0.0, h.0.1, all_updates us h.1)

some_updates : (us : List (List Tree × Tree)) → SomeFormed kind.update us → AreUpdates (paths us)
some_updates [] h = absurd h
some_updates (u ∷ us) h = (h.0.0, h.0.1, all_updates us h.1)

-- ---- operators

all_appended : (as' : Trees) (b : Tree) → AreAll as' → IsWellFormed b → AreAll (appended as' b)
all_appended no_trees b h k = (k, tt)
all_appended (more_trees a as') b h k = (h.0, all_appended as' b h.1 k)

some_appended : (as' : Trees) (b : Tree) → AreSome as' → IsWellFormed b → AreSome (appended as' b)
some_appended no_trees b h k = absurd h
some_appended (more_trees a as') b h k = (h.0, all_appended as' b h.1 k)

two_appended : (as' : Trees) (b : Tree) → AreTwo as' → IsWellFormed b → AreTwo (appended as' b)
two_appended no_trees b h k = absurd h
two_appended (more_trees a as') b h k = (h.0, some_appended as' b h.1 k)

two_formed : (a b : Tree) → IsWellFormed a → IsWellFormed b → IsWellFormed (product_of_two a b)
unfolding product_of_two
two_formed a b h k = (h, (k, tt))

extended_formed : (a b : Tree) → IsWellFormed a → IsWellFormed b → IsWellFormed (extended a b)
unfolding extended
extended_formed (e.product as') b h k = two_appended as' b h k
extended_formed a b h k = two_formed a b h k

applied_formed : (o : Operator) (f : Form) (a b : Tree) → IsWellFormed a → IsWellFormed b → IsWellFormed (applied o f a b)
applied_formed (operator.Infix o) f a b h k = (h, inr k)
applied_formed operator.Product (form.Operation operator.Product) a b h k = extended_formed a b h k
applied_formed operator.Product (form.Operation (operator.Infix o)) a b h k = two_formed a b h k
applied_formed operator.Product (form.Prefix p) a b h k = two_formed a b h k
applied_formed operator.Product form.Closed a b h k = two_formed a b h k

joined_formed : (o : Junction) (a : Tree) (bs : List Tree) → IsWellFormed a → AllFormed kind.item bs → IsWellFormed (joined o a bs)
joined_formed o a [] h k = h
joined_formed o a (b ∷ bs) h k = joined_formed o (e.binary (infix_of o) a b) bs (h, inr k.0) k.1

-- ---- all forms

mutual
  pub formed : {f : Form} {o : Ending} {ts : List Token} {a : Tree} → Spelled f o ts a → AllTold ts → IsWellFormed a
  formed s.name h = h.0
  formed s.primed h = h.0
  formed s.number h = h.0
  formed s.text h = h.0
  formed s.truth h = tt
  formed s.at h = tt
  formed s.boolean h = refl
  formed s.variable h = absurd (let z = h.1 in cc)
  formed s.value h = absurd (let z = h.1 in cc)
  formed (s.parens {ts = ts} d) h = formed d (told_parts ts _ h.2).0
  formed (s.junction {op = o} {xs = xs} {ys = ys} {a = a} {bs = bs} d b) h =
      let q = told_parts xs _ h.2 in joined_formed o a bs (formed d q.0) (formed_behind b (told_parts ys _ q.1).0)
  formed (s.unary l d) h = formed d h.2
  formed (s.operation {op = o} {f = f} {xs = xs} {a = a} {b = b} l r d d') h = let q = told_parts xs _ h in applied_formed o f a b (formed d q.0) (formed d' q.1.2)
  formed (s.member k {xs = xs} l is d) h = (formed d (told_parts xs _ h).0, inl refl)
  formed (s.index {xs = xs} {ys = ys} {bs = bs} l d m) h = let q = told_parts xs _ h in (formed d q.0, some_trees bs (formed_items m (told_parts ys _ q.1.2).0))
  formed (s.select {xs = xs} l d) h = let q = told_parts xs _ h in (formed d q.0, q.1.2.0)
  formed (s.call {ts = ts} {as' = as'} m) h = (h.0, some_trees as' (formed_items m (told_parts ts _ h.2.2).0))
  formed s.no_tuple h = tt
  formed (s.tuple {ts = ts} {as' = as'} m) h = any_trees as' (formed_items m (told_parts ts _ h.2).0)
  formed s.no_set h = tt
  formed (s.set {xs = xs} {ys = ys} {bs = bs} apart d b) h = let q = told_parts xs _ h.2 in (formed d q.0, all_trees bs (formed_behind b (told_parts ys _ q.1).0))
  formed (s.filter {xs = xs} {ys = ys} r d) h = let q = told_parts xs _ h.2.2.2 in (h.2.0, formed_range r q.0, formed d (told_parts ys _ q.1.2).0)
  formed (s.image {xs = xs} {ys = ys} apart d r) h = let q = told_parts xs _ h.2 in (formed d q.0, q.1.2.0, formed_range r (told_parts ys _ q.1.2.2.2).0)
  formed (s.fun_of {xs = xs} {ys = ys} {bs = bs} m d) h = let q = told_parts xs _ h.2 in (some_binders bs (formed_items m q.0), formed d (told_parts ys _ q.1.2).0)
  formed (s.fun_set {xs = xs} {ys = ys} apart d d') h = let q = told_parts xs _ h.2 in (formed d q.0, formed d' (told_parts ys _ q.1.2).0)
  formed (s.record_of {xs = xs} {ds = ds} m) h = some_fields sign.MapsTo ds (formed_items m (told_parts xs _ h.2).0)
  formed (s.record_set {xs = xs} {ds = ds} m) h = some_fields sign.Colon ds (formed_items m (told_parts xs _ h.2).0)
  formed (s.except {xs = xs} {ys = ys} {us = us} apart d m) h = let q = told_parts xs _ h.2 in (formed d q.0, some_updates us (formed_items m (told_parts ys _ q.1.2).0))
  formed (s.unchanged {x = x} {xs = xs}) h = let q = told_parts (names x xs) _ h.2.2 in (q.0.0, names_told xs q.0.2)
  formed (s.quantified {xs = xs} {bs = bs} m d) h = let q = told_parts xs _ h.2 in (some_binders bs (formed_items m q.0), formed d q.1.2)
  formed (s.choose {xs = xs} r d) h = let q = told_parts xs _ h.2.2.2 in (h.2.0, formed_range r q.0, formed d q.1.2)
  formed (s.cond_of {xs = xs} {ys = ys} d d' d'') h = let q = told_parts xs _ h.2 in let r = told_parts ys _ q.1.2 in (formed d q.0, formed d' r.0, formed d'' r.1.2)
  formed (s.case_of {gs = gs} m) h = some_arms gs (formed_items m h.2)
  formed (s.case_other {xs = xs} {gs = gs} apart m d) h = let q = told_parts xs _ h.2 in (some_arms gs (formed_items m q.0), formed d q.1.2.2.2)
  formed (s.let_in {xs = xs} {ds = ds} m d) h = let q = told_parts xs _ h.2 in (some_definitions ds (formed_items m q.0), formed d q.1.2)

  formed_range : {ts : List Token} {a : Tree} → Range ts a → AllTold ts → (is_word a ≡ true) ⊎ IsWellFormed a
  formed_range (s.any d) h = inr (formed d h)
  formed_range (s.endless is) h = inl refl

  formed_item : {k : Kind} {o : Ending} {ts : List Token} {a : ItemOf k} → Item k o ts a → AllTold ts → Formed k a
  formed_item (s.tree d) h = formed d h
  formed_item (s.item d) h = formed d h
  formed_item (s.binder {x = x} {xs = xs} r) h = let q = told_parts (names x xs) _ h in ((q.0.0, names_told xs q.0.2), formed_range r q.1.2)
  formed_item (s.field d) h = (h.0, formed d h.2.2)
  formed_item (s.definition d) h = (h.0, formed d h.2.2)
  formed_item (s.arm {xs = xs} d d') h = let q = told_parts xs _ h in (formed d q.0, formed d' q.1.2)
  formed_item (s.index_step {ts = ts} d) h = formed d (told_parts ts _ h.2).0
  formed_item (s.tuple_step {xs = xs} {ys = ys} {b = b} {bs = bs} d m) h = let q = told_parts xs _ h.2 in (formed d q.0, all_trees (b ∷ bs) (formed_behind m (told_parts ys _ q.1).0))
  formed_item (s.field_step {x = x}) h = words_printed x (name_bytes x h.2.0.0)
  formed_item (s.update {xs = xs} {as' = as'} m d) h = let q = told_parts xs _ h.2 in (some_steps as' (formed_items m q.0), formed d q.1.2)

  formed_behind : {k : Kind} {o u : Ending} {ts : List Token} {as' : List (ItemOf k)} → Behind k o u ts as' → AllTold ts → AllFormed k as'
  formed_behind s.none h = tt
  formed_behind (s.one_more {k = k} {xs = xs} may d b) h = let q = told_parts xs _ (told_parts (between k) _ h).1 in (formed_item d q.0, formed_behind b q.1)

  formed_items : {k : Kind} {u : Ending} {ts : List Token} {as' : List (ItemOf k)} → Items k u ts as' → AllTold ts → SomeFormed k as'
  formed_items (s.items {xs = xs} d b) h = let q = told_parts xs _ h in (formed_item d q.0, formed_behind b q.1)

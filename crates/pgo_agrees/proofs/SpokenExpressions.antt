-- Expressions that tokens of a specification spell are formed as the laws ask.
use Rattle.std.proofs.Common.{◌≡◌, List, [], ◌∷◌, ◌++◌, refl}
use Rattle.pgo_base.specs.Lookup.{Name}
use Rattle.pgo_base.specs.Tree.{Tree, Trees, no_trees, more_trees, trees, named, arms, bound, paths}
use Rattle.pgo_base.specs.Tree as e
use Rattle.pgo_lexer.specs.declared.symbol.Junction.{Junction}
use Rattle.pgo_lexer.specs.declared.symbol.Symbol.TheVariants as sign
use Rattle.pgo_lexer.specs.declared.token.Token.{Token}
use Rattle.pgo_expr_read.specs.declared.table.Form.{Form}
use Rattle.pgo_expr_read.specs.declared.table.Form.TheVariants as form
use Rattle.pgo_expr_read.specs.declared.table.Operator.{Operator}
use Rattle.pgo_expr_read.specs.declared.table.Operator.TheVariants as operator
use Rattle.pgo_expr_read.specs.declared.read.Ending.{Ending}
use Rattle.pgo_expr_read.specs.Kinds as kind
use Rattle.pgo_expr_read.specs.Kinds.{Kind, ItemOf, between}
use Rattle.pgo_expr_read.specs.Spells.{Spelled, Range, Item, Behind, Items, names, applied, extended, product_of_two, appended, joined, infix_of}
use Rattle.pgo_expr_read.specs.Spells as s
use Rattle.pgo_agrees.specs.Spoken.{HasSome, Spoken, AllSpoken, ArmsSpoken, NamedSpoken, BoundSpoken, PathsSpoken}
use Rattle.pgo_agrees.specs.TextTokens.{AllAllowed}

pub parts : (xs ys : List Token) → AllAllowed (xs ++ ys) → AllAllowed xs × AllAllowed ys
parts [] ys h = (tt, h)
parts (k ∷ xs) ys h = let q = parts xs ys h.1 in ((h.0, q.0), q.1)

-- ---- items

abbrev Formed : (k : Kind) → ItemOf k → Type 0
Formed kind.tree a = Spoken a
Formed kind.item a = Spoken a
Formed kind.binder p = Spoken p.1
Formed (kind.field v) p = Spoken p.1
Formed kind.definition p = Spoken p.1
Formed kind.arm p = Spoken p.0 × Spoken p.1
Formed kind.step a = Spoken a
Formed kind.update p = AllSpoken (trees p.0) × Spoken p.1

abbrev AllFormed : (k : Kind) → List (ItemOf k) → Type 0
AllFormed k [] = Unit {0}
AllFormed k (a ∷ as') = Formed k a × AllFormed k as'

all_trees : (as' : List Tree) → AllFormed kind.tree as' → AllSpoken (trees as')
all_trees [] h = tt
all_trees (a ∷ as') h = (h.0, all_trees as' h.1)

all_steps : (as' : List Tree) → AllFormed kind.step as' → AllSpoken (trees as')
all_steps [] h = tt
all_steps (a ∷ as') h = (h.0, all_steps as' h.1)

all_fields : (v : _) (ds : List (Name × Tree)) → AllFormed (kind.field v) ds → NamedSpoken (named ds)
all_fields v [] h = tt
all_fields v (d ∷ ds) h = (h.0, all_fields v ds h.1)

all_definitions : (ds : List (Name × Tree)) → AllFormed kind.definition ds → NamedSpoken (named ds)
all_definitions [] h = tt
all_definitions (d ∷ ds) h = (h.0, all_definitions ds h.1)

all_arms : (gs : List (Tree × Tree)) → AllFormed kind.arm gs → ArmsSpoken (arms gs)
all_arms [] h = tt
all_arms (g ∷ gs) h = (h.0.0, h.0.1, all_arms gs h.1)

all_binders : (bs : List (List Name × Tree)) → AllFormed kind.binder bs → BoundSpoken (bound bs)
all_binders [] h = tt
all_binders (b ∷ bs) h = (h.0, all_binders bs h.1)

all_updates : (us : List (List Tree × Tree)) → AllFormed kind.update us → PathsSpoken (paths us)
all_updates [] h = tt
all_updates (u ∷ us) h = (h.0.0, h.0.1, all_updates us h.1)

-- ---- operators

all_appended : (as' : Trees) (b : Tree) → AllSpoken as' → Spoken b → AllSpoken (appended as' b)
all_appended no_trees b h k = (k, tt)
all_appended (more_trees a as') b h k = (h.0, all_appended as' b h.1 k)

two_formed : (a b : Tree) → Spoken a → Spoken b → Spoken (product_of_two a b)
unfolding product_of_two
two_formed a b h k = (h, (k, tt))

extended_formed : (a b : Tree) → Spoken a → Spoken b → Spoken (extended a b)
unfolding extended
extended_formed (e.product as') b h k = all_appended as' b h k
extended_formed a b h k = two_formed a b h k

applied_formed : (o : Operator) (f : Form) (a b : Tree) → Spoken a → Spoken b → Spoken (applied o f a b)
applied_formed (operator.Infix o) f a b h k = (h, k)
applied_formed operator.Product (form.Operation operator.Product) a b h k = extended_formed a b h k
applied_formed operator.Product (form.Operation (operator.Infix o)) a b h k = two_formed a b h k
applied_formed operator.Product (form.Prefix p) a b h k = two_formed a b h k
applied_formed operator.Product form.Closed a b h k = two_formed a b h k

joined_formed : (o : Junction) (a : Tree) (bs : List Tree) → Spoken a → AllFormed kind.item bs → Spoken (joined o a bs)
joined_formed o a [] h k = h
joined_formed o a (b ∷ bs) h k = joined_formed o (e.binary (infix_of o) a b) bs (h, k.0) k.1

-- ---- all forms

some_items : {k : Kind} {u : Ending} {ts : List Token} {as' : List (ItemOf k)} → Items k u ts as' → (as' ≡ [] → ⊥)
some_items (s.items d b) = λ e. cc

has_some : (as' : List Tree) → (as' ≡ [] → ⊥) → HasSome (trees as')
has_some [] f = f refl
has_some (a ∷ as') f = tt

mutual
  pub formed : {f : Form} {o : Ending} {ts : List Token} {a : Tree} → Spelled f o ts a → AllAllowed ts → Spoken a
  formed s.name h = tt
  formed s.primed h = h.1.0
  formed s.number h = tt
  formed s.text h = tt
  formed s.truth h = tt
  formed s.at h = tt
  formed s.boolean h = tt
  formed s.variable h = tt
  formed s.value h = tt
  formed (s.parens {ts = ts} d) h = formed d (parts ts _ h.1).0
  formed (s.junction {op = o} {xs = xs} {ys = ys} {a = a} {bs = bs} d b) h =
      let q = parts xs _ h.1 in joined_formed o a bs (formed d q.0) (formed_behind b (parts ys _ q.1).0)
  formed (s.unary l d) h = formed d h.1
  formed (s.operation {op = o} {f = f} {xs = xs} {a = a} {b = b} l r d d') h = let q = parts xs _ h in applied_formed o f a b (formed d q.0) (formed d' q.1.1)
  formed (s.member k {xs = xs} l is d) h = (formed d (parts xs _ h).0, tt)
  formed (s.index {xs = xs} {ys = ys} {bs = bs} l d m) h = let q = parts xs _ h in (formed d q.0, all_trees bs (formed_items m (parts ys _ q.1.1).0))
  formed (s.select {xs = xs} l d) h = let q = parts xs _ h in formed d q.0
  formed (s.call {ts = ts} {as' = as'} m) h = (has_some as' (some_items m), all_trees as' (formed_items m (parts ts _ h.1.1).0))
  formed s.no_tuple h = tt
  formed (s.tuple {ts = ts} {as' = as'} m) h = all_trees as' (formed_items m (parts ts _ h.1).0)
  formed s.no_set h = tt
  formed (s.set {xs = xs} {ys = ys} {bs = bs} apart d b) h = let q = parts xs _ h.1 in (formed d q.0, all_trees bs (formed_behind b (parts ys _ q.1).0))
  formed (s.filter {xs = xs} {ys = ys} r d) h = let q = parts xs _ h.1.1.1 in (formed_range r q.0, formed d (parts ys _ q.1.1).0)
  formed (s.image {xs = xs} {ys = ys} apart d r) h = let q = parts xs _ h.1 in (formed d q.0, formed_range r (parts ys _ q.1.1.1.1).0)
  formed (s.fun_of {xs = xs} {ys = ys} {bs = bs} m d) h = let q = parts xs _ h.1 in (all_binders bs (formed_items m q.0), formed d (parts ys _ q.1.1).0)
  formed (s.fun_set {xs = xs} {ys = ys} apart d d') h = let q = parts xs _ h.1 in (formed d q.0, formed d' (parts ys _ q.1.1).0)
  formed (s.record_of {xs = xs} {ds = ds} m) h = all_fields sign.MapsTo ds (formed_items m (parts xs _ h.1).0)
  formed (s.record_set {xs = xs} {ds = ds} m) h = all_fields sign.Colon ds (formed_items m (parts xs _ h.1).0)
  formed (s.except {xs = xs} {ys = ys} {us = us} apart d m) h = let q = parts xs _ h.1 in (formed d q.0, all_updates us (formed_items m (parts ys _ q.1.1).0))
  formed (s.unchanged {x = x} {xs = xs}) h = h.0
  formed (s.quantified {xs = xs} {bs = bs} m d) h = let q = parts xs _ h.1 in (all_binders bs (formed_items m q.0), formed d q.1.1)
  formed (s.choose {xs = xs} r d) h = let q = parts xs _ h.1.1.1 in (formed_range r q.0, formed d q.1.1)
  formed (s.cond_of {xs = xs} {ys = ys} d d' d'') h = let q = parts xs _ h.1 in let r = parts ys _ q.1.1 in (formed d q.0, formed d' r.0, formed d'' r.1.1)
  formed (s.case_of {gs = gs} m) h = all_arms gs (formed_items m h.1)
  formed (s.case_other {xs = xs} {gs = gs} apart m d) h = let q = parts xs _ h.1 in (all_arms gs (formed_items m q.0), formed d q.1.1.1.1)
  formed (s.let_in {xs = xs} {ds = ds} m d) h = let q = parts xs _ h.1 in (all_definitions ds (formed_items m q.0), formed d q.1.1)

  pub formed_range : {ts : List Token} {a : Tree} → Range ts a → AllAllowed ts → Spoken a
  formed_range (s.any d) h = formed d h
  formed_range (s.endless is) h = tt

  formed_item : {k : Kind} {o : Ending} {ts : List Token} {a : ItemOf k} → Item k o ts a → AllAllowed ts → Formed k a
  formed_item (s.tree d) h = formed d h
  formed_item (s.item d) h = formed d h
  formed_item (s.binder {x = x} {xs = xs} r) h = let q = parts (names x xs) _ h in formed_range r q.1.1
  formed_item (s.field d) h = formed d h.1.1
  formed_item (s.definition d) h = formed d h.1.1
  formed_item (s.arm {xs = xs} d d') h = let q = parts xs _ h in (formed d q.0, formed d' q.1.1)
  formed_item (s.index_step {ts = ts} d) h = formed d (parts ts _ h.1).0
  formed_item (s.tuple_step {xs = xs} {ys = ys} {b = c} {bs = bs} d b) h = let q = parts xs _ h.1 in (formed d q.0, all_trees (c ∷ bs) (formed_behind b (parts ys _ q.1).0))
  formed_item (s.field_step {x = x}) h = tt
  formed_item (s.update {xs = xs} {as' = as'} m d) h = let q = parts xs _ h.1 in (all_steps as' (formed_items m q.0), formed d q.1.1)

  formed_behind : {k : Kind} {o u : Ending} {ts : List Token} {as' : List (ItemOf k)} → Behind k o u ts as' → AllAllowed ts → AllFormed k as'
  formed_behind s.none h = tt
  formed_behind (s.one_more {k = k} {xs = xs} may d b) h = let q = parts xs _ (parts (between k) _ h).1 in (formed_item d q.0, formed_behind b q.1)

  formed_items : {k : Kind} {u : Ending} {ts : List Token} {as' : List (ItemOf k)} → Items k u ts as' → AllAllowed ts → AllFormed k as'
  formed_items (s.items {xs = xs} d b) h = let q = parts xs _ h in (formed_item d q.0, formed_behind b q.1)

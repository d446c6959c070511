-- The literals of an expression that tokens spell are within limits where the tokens' numbers, strings and names are.
use Rattle.std.proofs.Common.{IsTrue, List, [], ◌∷◌}
use Rattle.pgo_base.specs.Lookup.{Name}
use Rattle.pgo_base.specs.Tree.{Tree, Trees, no_trees, more_trees, trees, named, arms, bound, paths}
use Rattle.pgo_base.specs.Tree as e
use Rattle.pgo_lexer.specs.declared.symbol.Junction.{Junction}
use Rattle.pgo_lexer.specs.declared.symbol.Symbol.TheVariants as sign
use Rattle.pgo_lexer.specs.declared.token.Token.{Token}
use Rattle.pgo_expr_read.specs.declared.table.Form.{Form}
use Rattle.pgo_expr_read.specs.declared.table.Form.TheVariants as form
use Rattle.pgo_expr_read.specs.declared.table.Operator.{Operator}
use Rattle.pgo_expr_read.specs.declared.table.Operator.TheVariants as operator
use Rattle.pgo_expr_read.specs.declared.read.Ending.{Ending}
use Rattle.pgo_expr_read.specs.Kinds as kind
use Rattle.pgo_expr_read.specs.Kinds.{Kind, ItemOf, between}
use Rattle.pgo_expr_read.specs.Spells.{Spelled, Range, Item, Behind, Items, names, applied, extended, product_of_two, appended, joined, infix_of}
use Rattle.pgo_expr_read.specs.Spells as s
use Rattle.pgo_agrees.proofs.EachToken.{cut}
use Rattle.pgo_values.specs.Literals.{LiteralsWithin, TreesWithin, ArmsWithin, NamedTreesWithin, BoundWithin, PathsWithin}
use Rattle.pgo_accounts.proofs.Tokens.{AllPlain}
use Rattle.pgo_values.specs.Limits.{Limits}

module _ (limits : Limits) where
  -- ---- items

  abbrev ItemWithin : (k : Kind) → ItemOf k → Type 0
  ItemWithin kind.tree a = LiteralsWithin limits a
  ItemWithin kind.item a = LiteralsWithin limits a
  ItemWithin kind.binder p = LiteralsWithin limits p.1
  ItemWithin (kind.field v) p = IsTrue (limits.text p.0) × LiteralsWithin limits p.1
  ItemWithin kind.definition p = IsTrue (limits.text p.0) × LiteralsWithin limits p.1
  ItemWithin kind.arm p = LiteralsWithin limits p.0 × LiteralsWithin limits p.1
  ItemWithin kind.step a = LiteralsWithin limits a
  ItemWithin kind.update p = TreesWithin limits (trees p.0) × LiteralsWithin limits p.1

  abbrev EachItem : (k : Kind) → List (ItemOf k) → Type 0
  EachItem k [] = Unit {0}
  EachItem k (a ∷ as') = ItemWithin k a × EachItem k as'

  all_trees : (as' : List Tree) → EachItem kind.tree as' → TreesWithin limits (trees as')
  all_trees [] h = tt
  all_trees (a ∷ as') h = (h.0, all_trees as' h.1)

  all_steps : (as' : List Tree) → EachItem kind.step as' → TreesWithin limits (trees as')
  all_steps [] h = tt
  all_steps (a ∷ as') h = (h.0, all_steps as' h.1)

  all_fields : (v : _) (ds : List (Name × Tree)) → EachItem (kind.field v) ds → NamedTreesWithin limits (named ds)
  all_fields v [] h = tt
  all_fields v (d ∷ ds) h = (h.0.0, h.0.1, all_fields v ds h.1)

  all_definitions : (ds : List (Name × Tree)) → EachItem kind.definition ds → NamedTreesWithin limits (named ds)
  all_definitions [] h = tt
  all_definitions (d ∷ ds) h = (h.0.0, h.0.1, all_definitions ds h.1)

  all_arms : (gs : List (Tree × Tree)) → EachItem kind.arm gs → ArmsWithin limits (arms gs)
  all_arms [] h = tt
  all_arms (g ∷ gs) h = (h.0.0, h.0.1, all_arms gs h.1)

  all_binders : (bs : List (List Name × Tree)) → EachItem kind.binder bs → BoundWithin limits (bound bs)
  all_binders [] h = tt
  all_binders (b ∷ bs) h = (h.0, all_binders bs h.1)

  all_updates : (us : List (List Tree × Tree)) → EachItem kind.update us → PathsWithin limits (paths us)
  all_updates [] h = tt
  all_updates (u ∷ us) h = (h.0.0, h.0.1, all_updates us h.1)

  -- ---- operators

  all_appended : (as' : Trees) (b : Tree) → TreesWithin limits as' → LiteralsWithin limits b → TreesWithin limits (appended as' b)
  all_appended no_trees b h k = (k, tt)
  all_appended (more_trees a as') b h k = (h.0, all_appended as' b h.1 k)

  two_fits : (a b : Tree) → LiteralsWithin limits a → LiteralsWithin limits b → LiteralsWithin limits (product_of_two a b)
  unfolding product_of_two
  two_fits a b h k = (h, (k, tt))

  extended_fits : (a b : Tree) → LiteralsWithin limits a → LiteralsWithin limits b → LiteralsWithin limits (extended a b)
  unfolding extended
  extended_fits (e.product as') b h k = all_appended as' b h k
  extended_fits a b h k = two_fits a b h k

  applied_fits : (o : Operator) (f : Form) (a b : Tree) → LiteralsWithin limits a → LiteralsWithin limits b → LiteralsWithin limits (applied o f a b)
  applied_fits (operator.Infix o) f a b h k = (h, k)
  applied_fits operator.Product (form.Operation operator.Product) a b h k = extended_fits a b h k
  applied_fits operator.Product (form.Operation (operator.Infix o)) a b h k = two_fits a b h k
  applied_fits operator.Product (form.Prefix p) a b h k = two_fits a b h k
  applied_fits operator.Product form.Closed a b h k = two_fits a b h k

  joined_fits : (o : Junction) (a : Tree) (bs : List Tree) → LiteralsWithin limits a → EachItem kind.item bs → LiteralsWithin limits (joined o a bs)
  joined_fits o a [] h k = h
  joined_fits o a (b ∷ bs) h k = joined_fits o (e.binary (infix_of o) a b) bs (h, k.0) k.1

  -- ---- all forms

  mutual
    pub fits : {f : Form} {o : Ending} {ts : List Token} {a : Tree} → Spelled f o ts a → AllPlain limits ts → LiteralsWithin limits a
    fits s.name h = tt
    fits s.primed h = tt
    fits s.number h = limits.numbers_fit _ h.0
    fits s.text h = h.0
    fits s.truth h = tt
    fits s.at h = tt
    fits s.boolean h = tt
    fits s.variable h = tt
    fits s.value h = tt
    fits (s.parens {ts = ts} d) h = fits d (cut _ ts _ h.1).0
    fits (s.junction {op = o} {xs = xs} {ys = ys} {a = a} {bs = bs} d b) h =
        let q = cut _ xs _ h.1 in joined_fits o a bs (fits d q.0) (fits_behind b (cut _ ys _ q.1).0)
    fits (s.unary l d) h = fits d h.1
    fits (s.operation {op = o} {f = f} {xs = xs} {a = a} {b = b} l r d d') h = let q = cut _ xs _ h in applied_fits o f a b (fits d q.0) (fits d' q.1.1)
    fits (s.member k {xs = xs} l is d) h = (fits d (cut _ xs _ h).0, tt)
    fits (s.index {xs = xs} {ys = ys} {bs = bs} l d m) h = let q = cut _ xs _ h in (fits d q.0, all_trees bs (fits_items m (cut _ ys _ q.1.1).0))
    fits (s.select {xs = xs} l d) h = let q = cut _ xs _ h in (q.1.1.0, fits d q.0)
    fits (s.call {ts = ts} {as' = as'} m) h = all_trees as' (fits_items m (cut _ ts _ h.1.1).0)
    fits s.no_tuple h = tt
    fits (s.tuple {ts = ts} {as' = as'} m) h = all_trees as' (fits_items m (cut _ ts _ h.1).0)
    fits s.no_set h = tt
    fits (s.set {xs = xs} {ys = ys} {bs = bs} apart d b) h = let q = cut _ xs _ h.1 in (fits d q.0, all_trees bs (fits_behind b (cut _ ys _ q.1).0))
    fits (s.filter {xs = xs} {ys = ys} r d) h = let q = cut _ xs _ h.1.1.1 in (fits_range r q.0, fits d (cut _ ys _ q.1.1).0)
    fits (s.image {xs = xs} {ys = ys} apart d r) h = let q = cut _ xs _ h.1 in (fits d q.0, fits_range r (cut _ ys _ q.1.1.1.1).0)
    fits (s.fun_of {xs = xs} {ys = ys} {bs = bs} m d) h = let q = cut _ xs _ h.1 in (all_binders bs (fits_items m q.0), fits d (cut _ ys _ q.1.1).0)
    fits (s.fun_set {xs = xs} {ys = ys} apart d d') h = let q = cut _ xs _ h.1 in (fits d q.0, fits d' (cut _ ys _ q.1.1).0)
    fits (s.record_of {xs = xs} {ds = ds} m) h = all_fields sign.MapsTo ds (fits_items m (cut _ xs _ h.1).0)
    fits (s.record_set {xs = xs} {ds = ds} m) h = all_fields sign.Colon ds (fits_items m (cut _ xs _ h.1).0)
    fits (s.except {xs = xs} {ys = ys} {us = us} apart d m) h = let q = cut _ xs _ h.1 in (fits d q.0, all_updates us (fits_items m (cut _ ys _ q.1.1).0))
    fits s.unchanged h = tt
    fits (s.quantified {xs = xs} {bs = bs} m d) h = let q = cut _ xs _ h.1 in (all_binders bs (fits_items m q.0), fits d q.1.1)
    fits (s.choose {xs = xs} r d) h = let q = cut _ xs _ h.1.1.1 in (fits_range r q.0, fits d q.1.1)
    fits (s.cond_of {xs = xs} {ys = ys} d d' d'') h = let q = cut _ xs _ h.1 in let r = cut _ ys _ q.1.1 in (fits d q.0, fits d' r.0, fits d'' r.1.1)
    fits (s.case_of {gs = gs} m) h = all_arms gs (fits_items m h.1)
    fits (s.case_other {xs = xs} {gs = gs} apart m d) h = let q = cut _ xs _ h.1 in (all_arms gs (fits_items m q.0), fits d q.1.1.1.1)
    fits (s.let_in {xs = xs} {ds = ds} m d) h = let q = cut _ xs _ h.1 in (all_definitions ds (fits_items m q.0), fits d q.1.1)

    pub fits_range : {ts : List Token} {a : Tree} → Range ts a → AllPlain limits ts → LiteralsWithin limits a
    fits_range (s.any d) h = fits d h
    fits_range (s.endless is) h = tt

    fits_item : {k : Kind} {o : Ending} {ts : List Token} {a : ItemOf k} → Item k o ts a → AllPlain limits ts → ItemWithin k a
    fits_item (s.tree d) h = fits d h
    fits_item (s.item d) h = fits d h
    fits_item (s.binder {x = x} {xs = xs} r) h = let q = cut _ (names x xs) _ h in fits_range r q.1.1
    fits_item (s.field d) h = (h.0, fits d h.1.1)
    fits_item (s.definition d) h = (h.0, fits d h.1.1)
    fits_item (s.arm {xs = xs} d d') h = let q = cut _ xs _ h in (fits d q.0, fits d' q.1.1)
    fits_item (s.index_step {ts = ts} d) h = fits d (cut _ ts _ h.1).0
    fits_item (s.tuple_step {xs = xs} {ys = ys} {b = c} {bs = bs} d b) h = let q = cut _ xs _ h.1 in (fits d q.0, all_trees (c ∷ bs) (fits_behind b (cut _ ys _ q.1).0))
    fits_item s.field_step h = h.1.0
    fits_item (s.update {xs = xs} {as' = as'} m d) h = let q = cut _ xs _ h.1 in (all_steps as' (fits_items m q.0), fits d q.1.1)

    fits_behind : {k : Kind} {o u : Ending} {ts : List Token} {as' : List (ItemOf k)} → Behind k o u ts as' → AllPlain limits ts → EachItem k as'
    fits_behind s.none h = tt
    fits_behind (s.one_more {k = k} {xs = xs} may d b) h = let q = cut _ xs _ (cut _ (between k) _ h).1 in (fits_item d q.0, fits_behind b q.1)

    fits_items : {k : Kind} {u : Ending} {ts : List Token} {as' : List (ItemOf k)} → Items k u ts as' → AllPlain limits ts → EachItem k as'
    fits_items (s.items {xs = xs} d b) h = let q = cut _ xs _ h in (fits_item d q.0, fits_behind b q.1)

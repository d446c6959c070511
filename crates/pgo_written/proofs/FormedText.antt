-- Expressions that tokens spell are well formed, where `$variable` and `$value` may stand in them.
use Rattle.std.proofs.Common.{◌≡◌, Bool, true, ◌⊎◌, inl, inr, List, [], ◌∷◌, ◌++◌, refl}
use Rattle.pgo_base.specs.Lookup.{Name}
use Rattle.pgo_base.specs.Tree.{Tree, Trees, no_trees, more_trees, trees, named, arms, bound, paths}
use Rattle.pgo_base.specs.Tree as e
use Rattle.pgo_lexer.specs.declared.symbol.Junction.{Junction}
use Rattle.pgo_lexer.specs.declared.symbol.Symbol.TheVariants as symbol
use Rattle.pgo_lexer.specs.declared.token.Token.{Token}
use Rattle.pgo_lexer.specs.declared.token.Token.TheVariants as t
use Rattle.pgo_expr_read.specs.declared.table.Form.{Form}
use Rattle.pgo_expr_read.specs.declared.table.Form.TheVariants as form
use Rattle.pgo_expr_read.specs.declared.table.Operator.{Operator}
use Rattle.pgo_expr_read.specs.declared.table.Operator.TheVariants as operator
use Rattle.pgo_expr_read.specs.declared.read.Ending.{Ending}
use Rattle.pgo_expr_read.specs.Kinds as kind
use Rattle.pgo_expr_read.specs.Kinds.{Kind, ItemOf, between}
use Rattle.pgo_expr_read.specs.Spells.{Spelled, Range, Item, Behind, Items, names, more_names, applied, extended, product_of_two, appended, joined, infix_of}
use Rattle.pgo_expr_read.specs.Spells as s
use Rattle.pgo_sections.specs.Code.{content_name, value_name}
use Rattle.pgo_expr_write.specs.WellFormed.{IsName, AreNames, AreSomeNames, is_word}
use Rattle.pgo_expr_write.proofs.Formed.{Told}
use Rattle.pgo_agrees.proofs.SpokenStatements.{Quiet}
use Rattle.pgo_written.specs.Formed.{Formed, AllFormed, SomeFormed, TwoFormed, NamedFormed, SomeNamedFormed, ArmsFormed, SomeArmsFormed, BoundFormed, SomeBoundFormed, PathsFormed, SomePathsFormed}
use Rattle.pgo_written.proofs.WrittenNames.{name_text}

-- m: whether `yield`, `$variable` and `$value` may stand there
abbrev pub AllTold : Bool → List Token → Type 0
AllTold m [] = Unit {0}
AllTold m (k ∷ ks) = Told k × Quiet m k × AllTold m ks

told_parts : (m : Bool) (xs ys : List Token) → AllTold m (xs ++ ys) → AllTold m xs × AllTold m ys
told_parts m [] ys h = (tt, h)
told_parts m (k ∷ xs) ys h = let q = told_parts m xs ys h.2 in ((h.0, h.1, q.0), q.1)

names_told : (m : Bool) (xs : List Name) → AllTold m (more_names xs) → AreNames xs
names_told m [] h = tt
names_told m (x ∷ xs) h = (h.2.0, names_told m xs h.2.2)

-- what stands for an identifier, and for `$variable` and `$value` where they may stand
module _ (N : Name → Type 0) (m : Bool) (names_stand : (x : Name) → IsName x → N x) (variable : Quiet m (t.Symbol symbol.Variable) → N content_name) (value : Quiet m (t.Symbol symbol.Value) → N value_name) where
  -- ---- items

  abbrev ThingFormed : (k : Kind) → ItemOf k → Type 0
  ThingFormed kind.tree a = Formed N a
  ThingFormed kind.item a = Formed N a
  ThingFormed kind.binder p = AreSomeNames p.0 × ((is_word p.1 ≡ true) ⊎ Formed N p.1)
  ThingFormed (kind.field v) p = IsName p.0 × Formed N p.1
  ThingFormed kind.definition p = IsName p.0 × Formed N p.1
  ThingFormed kind.arm p = Formed N p.0 × Formed N p.1
  ThingFormed kind.step a = Formed N a
  ThingFormed kind.update p = SomeFormed N (trees p.0) × Formed N p.1

  abbrev ThingsFormed : (k : Kind) → List (ItemOf k) → Type 0
  ThingsFormed k [] = Unit {0}
  ThingsFormed k (a ∷ as') = ThingFormed k a × ThingsFormed k as'

  abbrev SomeThings : (k : Kind) → List (ItemOf k) → Type 0
  SomeThings k [] = ⊥
  SomeThings k (a ∷ as') = ThingFormed k a × ThingsFormed k as'

  all_trees : (as' : List Tree) → ThingsFormed kind.tree as' → AllFormed N (trees as')
  all_trees [] h = tt
  all_trees (a ∷ as') h = (h.0, all_trees as' h.1)

  some_trees : (as' : List Tree) → SomeThings kind.tree as' → SomeFormed N (trees as')
  some_trees [] h = absurd h
  some_trees (a ∷ as') h = (h.0, all_trees as' h.1)

  any_trees : (as' : List Tree) → SomeThings kind.tree as' → AllFormed N (trees as')
  any_trees [] h = absurd h
  any_trees (a ∷ as') h = (h.0, all_trees as' h.1)

  all_steps : (as' : List Tree) → ThingsFormed kind.step as' → AllFormed N (trees as')
  all_steps [] h = tt
  all_steps (a ∷ as') h = (h.0, all_steps as' h.1)

  some_steps : (as' : List Tree) → SomeThings kind.step as' → SomeFormed N (trees as')
  some_steps [] h = absurd h
  some_steps (a ∷ as') h = (h.0, all_steps as' h.1)

  all_fields : (v : _) (ds : List (Name × Tree)) → ThingsFormed (kind.field v) ds → NamedFormed N (named ds)
  all_fields v [] h = tt
  all_fields v (d ∷ ds) h = (h.0.0, h.0.1, all_fields v ds h.1)

  some_fields : (v : _) (ds : List (Name × Tree)) → SomeThings (kind.field v) ds → SomeNamedFormed N (named ds)
  some_fields v [] h = absurd h
  some_fields v (d ∷ ds) h = (h.0.0, h.0.1, all_fields v ds h.1)

  all_definitions : (ds : List (Name × Tree)) → ThingsFormed kind.definition ds → NamedFormed N (named ds)
  all_definitions [] h = tt
  all_definitions (d ∷ ds) h = (h.0.0, h.0.1, all_definitions ds h.1)

  some_definitions : (ds : List (Name × Tree)) → SomeThings kind.definition ds → SomeNamedFormed N (named ds)
  some_definitions [] h = absurd h
  some_definitions (d ∷ ds) h = (h.0.0, h.0.1, all_definitions ds h.1)

  all_arms : (gs : List (Tree × Tree)) → ThingsFormed kind.arm gs → ArmsFormed N (arms gs)
  all_arms [] h = tt
  all_arms (g ∷ gs) h = (h.0.0, h.0.1, all_arms gs h.1)

  some_arms : (gs : List (Tree × Tree)) → SomeThings kind.arm gs → SomeArmsFormed N (arms gs)
  some_arms [] h = absurd h
  some_arms (g ∷ gs) h = (h.0.0, h.0.1, all_arms gs h.1)

  all_binders : (bs : List (List Name × Tree)) → ThingsFormed kind.binder bs → BoundFormed N (bound bs)
  all_binders [] h = tt
  all_binders (b ∷ bs) h = (h.0.0, h.0.1, all_binders bs h.1)

  some_binders : (bs : List (List Name × Tree)) → SomeThings kind.binder bs → SomeBoundFormed N (bound bs)
  some_binders [] h = absurd h
  some_binders (b ∷ bs) h = (h.0.0, h.0.1, all_binders bs h.1)

  all_updates : (us : List (List Tree × Tree)) → ThingsFormed kind.update us → PathsFormed N (paths us)
  all_updates [] h = tt
  all_updates (u ∷ us) h = (h.0.0, h.0.1, all_updates us h.1)

  some_updates : (us : List (List Tree × Tree)) → SomeThings kind.update us → SomePathsFormed N (paths us)
  some_updates [] h = absurd h
  some_updates (u ∷ us) h = (h.0.0, h.0.1, all_updates us h.1)

  -- ---- operators

  all_appended : (as' : Trees) (b : Tree) → AllFormed N as' → Formed N b → AllFormed N (appended as' b)
  all_appended no_trees b h k = (k, tt)
  all_appended (more_trees a as') b h k = (h.0, all_appended as' b h.1 k)

  some_appended : (as' : Trees) (b : Tree) → SomeFormed N as' → Formed N b → SomeFormed N (appended as' b)
  some_appended no_trees b h k = absurd h
  some_appended (more_trees a as') b h k = (h.0, all_appended as' b h.1 k)

  two_appended : (as' : Trees) (b : Tree) → TwoFormed N as' → Formed N b → TwoFormed N (appended as' b)
  two_appended no_trees b h k = absurd h
  two_appended (more_trees a as') b h k = (h.0, some_appended as' b h.1 k)

  two_formed : (a b : Tree) → Formed N a → Formed N b → Formed N (product_of_two a b)
  unfolding product_of_two
  two_formed a b h k = (h, (k, tt))

  extended_formed : (a b : Tree) → Formed N a → Formed N b → Formed N (extended a b)
  unfolding extended
  extended_formed (e.product as') b h k = two_appended as' b h k
  extended_formed a b h k = two_formed a b h k

  applied_formed : (o : Operator) (f : Form) (a b : Tree) → Formed N a → Formed N b → Formed N (applied o f a b)
  applied_formed (operator.Infix o) f a b h k = (h, inr k)
  applied_formed operator.Product (form.Operation operator.Product) a b h k = extended_formed a b h k
  applied_formed operator.Product (form.Operation (operator.Infix o)) a b h k = two_formed a b h k
  applied_formed operator.Product (form.Prefix p) a b h k = two_formed a b h k
  applied_formed operator.Product form.Closed a b h k = two_formed a b h k

  joined_formed : (o : Junction) (a : Tree) (bs : List Tree) → Formed N a → ThingsFormed kind.item bs → Formed N (joined o a bs)
  joined_formed o a [] h k = h
  joined_formed o a (b ∷ bs) h k = joined_formed o (e.binary (infix_of o) a b) bs (h, inr k.0) k.1

  -- ---- all forms

  mutual
    pub formed : {f : Form} {o : Ending} {ts : List Token} {a : Tree} → Spelled f o ts a → AllTold m ts → Formed N a
    formed (s.name {x = x}) h = names_stand x h.0
    formed s.primed h = h.0
    formed s.number h = h.0
    formed s.text h = h.0
    formed s.truth h = tt
    formed s.at h = tt
    formed s.boolean h = refl
    formed s.variable h = variable h.1
    formed s.value h = value h.1
    formed (s.parens {ts = ts} d) h = formed d (told_parts m ts _ h.2).0
    formed (s.junction {op = o} {xs = xs} {ys = ys} {a = a} {bs = bs} d b) h =
        let q = told_parts m xs _ h.2 in joined_formed o a bs (formed d q.0) (formed_behind b (told_parts m ys _ q.1).0)
    formed (s.unary l d) h = formed d h.2
    formed (s.operation {op = o} {f = f} {xs = xs} {a = a} {b = b} l r d d') h = let q = told_parts m xs _ h in applied_formed o f a b (formed d q.0) (formed d' q.1.2)
    formed (s.member k {xs = xs} l is d) h = (formed d (told_parts m xs _ h).0, inl refl)
    formed (s.index {xs = xs} {ys = ys} {bs = bs} l d i) h = let q = told_parts m xs _ h in (formed d q.0, some_trees bs (formed_items i (told_parts m ys _ q.1.2).0))
    formed (s.select {xs = xs} l d) h = let q = told_parts m xs _ h in (formed d q.0, q.1.2.0)
    formed (s.call {ts = ts} {as' = as'} i) h = (h.0, some_trees as' (formed_items i (told_parts m ts _ h.2.2).0))
    formed s.no_tuple h = tt
    formed (s.tuple {ts = ts} {as' = as'} i) h = any_trees as' (formed_items i (told_parts m ts _ h.2).0)
    formed s.no_set h = tt
    formed (s.set {xs = xs} {ys = ys} {bs = bs} apart d b) h = let q = told_parts m xs _ h.2 in (formed d q.0, all_trees bs (formed_behind b (told_parts m ys _ q.1).0))
    formed (s.filter {xs = xs} {ys = ys} r d) h = let q = told_parts m xs _ h.2.2.2 in (h.2.0, formed_range r q.0, formed d (told_parts m ys _ q.1.2).0)
    formed (s.image {xs = xs} {ys = ys} apart d r) h = let q = told_parts m xs _ h.2 in (formed d q.0, q.1.2.0, formed_range r (told_parts m ys _ q.1.2.2.2).0)
    formed (s.fun_of {xs = xs} {ys = ys} {bs = bs} i d) h = let q = told_parts m xs _ h.2 in (some_binders bs (formed_items i q.0), formed d (told_parts m ys _ q.1.2).0)
    formed (s.fun_set {xs = xs} {ys = ys} apart d d') h = let q = told_parts m xs _ h.2 in (formed d q.0, formed d' (told_parts m ys _ q.1.2).0)
    formed (s.record_of {xs = xs} {ds = ds} i) h = some_fields symbol.MapsTo ds (formed_items i (told_parts m xs _ h.2).0)
    formed (s.record_set {xs = xs} {ds = ds} i) h = some_fields symbol.Colon ds (formed_items i (told_parts m xs _ h.2).0)
    formed (s.except {xs = xs} {ys = ys} {us = us} apart d i) h = let q = told_parts m xs _ h.2 in (formed d q.0, some_updates us (formed_items i (told_parts m ys _ q.1.2).0))
    formed (s.unchanged {x = x} {xs = xs}) h = let q = told_parts m (names x xs) _ h.2.2 in (q.0.0, names_told m xs q.0.2)
    formed (s.quantified {xs = xs} {bs = bs} i d) h = let q = told_parts m xs _ h.2 in (some_binders bs (formed_items i q.0), formed d q.1.2)
    formed (s.choose {xs = xs} r d) h = let q = told_parts m xs _ h.2.2.2 in (h.2.0, formed_range r q.0, formed d q.1.2)
    formed (s.cond_of {xs = xs} {ys = ys} d d' d'') h = let q = told_parts m xs _ h.2 in let r = told_parts m ys _ q.1.2 in (formed d q.0, formed d' r.0, formed d'' r.1.2)
    formed (s.case_of {gs = gs} i) h = some_arms gs (formed_items i h.2)
    formed (s.case_other {xs = xs} {gs = gs} apart i d) h = let q = told_parts m xs _ h.2 in (some_arms gs (formed_items i q.0), formed d q.1.2.2.2)
    formed (s.let_in {xs = xs} {ds = ds} i d) h = let q = told_parts m xs _ h.2 in (some_definitions ds (formed_items i q.0), formed d q.1.2)

    pub formed_range : {ts : List Token} {a : Tree} → Range ts a → AllTold m ts → (is_word a ≡ true) ⊎ Formed N a
    formed_range (s.any d) h = inr (formed d h)
    formed_range (s.endless is) h = inl refl

    formed_item : {k : Kind} {o : Ending} {ts : List Token} {a : ItemOf k} → Item k o ts a → AllTold m ts → ThingFormed k a
    formed_item (s.tree d) h = formed d h
    formed_item (s.item d) h = formed d h
    formed_item (s.binder {x = x} {xs = xs} r) h = let q = told_parts m (names x xs) _ h in ((q.0.0, names_told m xs q.0.2), formed_range r q.1.2)
    formed_item (s.field d) h = (h.0, formed d h.2.2)
    formed_item (s.definition d) h = (h.0, formed d h.2.2)
    formed_item (s.arm {xs = xs} d d') h = let q = told_parts m xs _ h in (formed d q.0, formed d' q.1.2)
    formed_item (s.index_step {ts = ts} d) h = formed d (told_parts m ts _ h.2).0
    formed_item (s.tuple_step {xs = xs} {ys = ys} {b = c} {bs = bs} d b) h = let q = told_parts m xs _ h.2 in (formed d q.0, all_trees (c ∷ bs) (formed_behind b (told_parts m ys _ q.1).0))
    formed_item (s.field_step {x = x}) h = name_text x h.2.0
    formed_item (s.update {xs = xs} {as' = as'} i d) h = let q = told_parts m xs _ h.2 in (some_steps as' (formed_items i q.0), formed d q.1.2)

    formed_behind : {k : Kind} {o u : Ending} {ts : List Token} {as' : List (ItemOf k)} → Behind k o u ts as' → AllTold m ts → ThingsFormed k as'
    formed_behind s.none h = tt
    formed_behind (s.one_more {k = k} {xs = xs} may d b) h = let q = told_parts m xs _ (told_parts m (between k) _ h).1 in (formed_item d q.0, formed_behind b q.1)

    formed_items : {k : Kind} {u : Ending} {ts : List Token} {as' : List (ItemOf k)} → Items k u ts as' → AllTold m ts → SomeThings k as'
    formed_items (s.items {xs = xs} d b) h = let q = told_parts m xs _ h in (formed_item d q.0, formed_behind b q.1)

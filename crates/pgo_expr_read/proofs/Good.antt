-- What is read of a form, an item or a list is spelled by a front of the tokens.
use Rattle.std.proofs.Common.{◌≡◌, ℕ, zero, suc, ◌+◌, ◌≤◌, max, Bool, true, false, List, [], ◌∷◌, ◌++◌, length, Some, None, refl, ap, sym, ◌∙◌, subst, arith, cond}
use Rattle.std.proofs.lemmas.List.{append_assoc, append-nil}
use Rattle.pgo_base.specs.Tree.{Tree}
use Rattle.pgo_lexer.specs.declared.symbol.Symbol.TheVariants as sign
use Rattle.pgo_lexer.specs.declared.token.Token.{Token}
use Rattle.pgo_lexer.specs.declared.token.Token.TheVariants as t
use Rattle.pgo_expr_read.specs.declared.table.Form.{Form}
use Rattle.pgo_expr_read.specs.declared.lists.Between.{Between}
use Rattle.pgo_expr_read.specs.declared.lists.Between.TheVariants as separator
use Rattle.pgo_expr_read.specs.declared.read.Ending.{Ending}
use Rattle.pgo_expr_read.specs.declared.read.Read.{Read}
use Rattle.pgo_expr_read.specs.Lookahead.{sees}
use Rattle.pgo_expr_read.specs.Heights.{height}
use Rattle.pgo_expr_read.specs.Kinds.{Kind, ItemOf, Name, between, between_of, tokens_between, may_follow}
use Rattle.pgo_expr_read.specs.Kinds as kind
use Rattle.pgo_expr_read.specs.Table.{form_low}
use Rattle.pgo_expr_read.specs.Spells.{Spelled, Range, Item, Behind, Items, more_names}
use Rattle.pgo_expr_read.specs.Spells as s
use Rattle.pgo_expr_read.specs.Reading.{◌>>=◌, ◌>>◌, Parser, Outcome, and_then, pure, give_at, expect, name, raised, pushed, one_of, folded, goes, pass, pass_at, more_at, one_more, listed_at, listed, one_more_name, names}
use Rattle.pgo_expr_read.proofs.Measures.{thing_height, things_height}
use Rattle.pgo_expr_read.proofs.Steps.{bind_then, some_pair}
use Rattle.pgo_expr_read.proofs.Parts.{give_some, raised_some, expect_some, list_next_some, name_some}

-- a front of the tokens spells what was read, and the rest follows
pub record Good (limit : ℕ) (i : List Token) (r : Read Tree) (rest : List Token) : Type 0 where
  pub front : List Token
  pub split : i ≡ front ++ rest
  pub spelled : Spelled r.form r.ending front r.tree
  pub height : r.height ≡ height r.tree
  pub within : r.height ≤ limit

-- the same of a set that names are bound over
pub record GoodRange (i : List Token) (r : Read Tree) (rest : List Token) : Type 0 where
  pub front : List Token
  pub split : i ≡ front ++ rest
  pub range : Range front r.tree
  pub height : r.height ≡ height r.tree

-- of names
pub record GoodNames (i : List Token) (xs : List Name) (rest : List Token) : Type 0 where
  pub first : Name
  pub others : List Name
  pub split : i ≡ s.names first others ++ rest
  pub is : xs ≡ first ∷ others

-- of an item of a list
pub record GoodItem (k : Kind) (i : List Token) (r : Read (ItemOf k)) (rest : List Token) : Type 0 where
  pub front : List Token
  pub split : i ≡ front ++ rest
  pub item : Item k r.ending front r.tree
  pub height : r.height ≡ thing_height k r.tree

-- of a list
pub record GoodItems (k : Kind) (i : List Token) (r : Read (List (ItemOf k))) (rest : List Token) : Type 0 where
  pub front : List Token
  pub split : i ≡ front ++ rest
  pub items : Items k r.ending front r.tree
  pub height : r.height ≡ things_height k r.tree

-- of further items behind those of a list
pub record GoodBehind (k : Kind) (i : List Token) (acc res : Read (List (ItemOf k))) (rest : List Token) : Type 0 where
  pub front : List Token
  pub others : List (ItemOf k)
  pub split : i ≡ front ++ rest
  pub behind : Behind k acc.ending res.ending front others
  pub tree : res.tree ≡ acc.tree ++ others
  pub height : res.height ≡ max acc.height (things_height k others)

abbrev pub Sound : ℕ → (ℕ → Parser (Read Tree)) → Type 0
Sound limit ex = (least : ℕ) (i : List Token) (r : Read Tree) (rest : List Token) → ex least i ≡ Some (r, rest) → Good limit i r rest × (least ≤ form_low r.form)

-- a node that was made
pub good_raised : (limit : ℕ) (f : Form) (o : Ending) (h : ℕ) (a : Tree) (r : Read Tree) (front i j rest : List Token) → give_at (raised limit f o h a) j ≡ Some (r, rest) → i ≡ front ++ j → Spelled f o front a → h + 1 ≡ height a → Good limit i r rest
good_raised limit f o h a r front i j rest got split spelled same =
    let g = give_some (raised limit f o h a) j r rest got in
    let q = raised_some limit f o h a r g.0 in
    let P : Read Tree → Type 0 = λ x. Good limit i x rest in
    subst P (sym q.1) (record { front = front; split = split ∙ ap (λ k. front ++ k) g.1; spelled = spelled; height = same; within = omega (arith, q.0) })

-- names, each behind a comma
pub record GoodMore (i : List Token) (acc res : List Name) (rest : List Token) : Type 0 where
  pub others : List Name
  pub split : i ≡ more_names others ++ rest
  pub is : res ≡ acc ++ others

names_end : (acc res : List Name) (i rest : List Token) → ◌≡◌ {A = Outcome (List Name)} (Some (acc, i)) (Some (res, rest)) → GoodMore i acc res rest
names_end acc res i rest got = let q = some_pair _ _ _ _ got in record { others = []; split = q.1; is = sym q.0 ∙ sym (append-nil acc) }

names_by : (b : Bool) (n : ℕ) (acc : List Name) (i : List Token) (res : List Name) (rest : List Token) → ((next : List Name) (j : List Token) → folded (sees sign.Comma) one_more_name n next j ≡ Some (res, rest) → GoodMore j next res rest)
    → cond b (and_then (one_more_name acc i) (folded (sees sign.Comma) one_more_name n)) (Some (acc, i)) ≡ Some (res, rest) → GoodMore i acc res rest
unfolding one_more_name
names_by true n acc i res rest go got =
    bind_then (one_more_name acc i) _ _ _ got (λ next j is got.
    bind_then (expect sign.Comma i) _ _ _ is (λ u i1 hc is.
    bind_then (name i1) _ _ _ is (λ x i2 hx is.
    let q = some_pair _ _ _ _ is in
    let g = go next j got in
    record {
      others = x ∷ g.others;
      split = expect_some sign.Comma i u i1 hc ∙ ap (λ k. t.Symbol sign.Comma ∷ k) (name_some i1 x i2 hx ∙ ap (λ k. t.Name x ∷ k) (q.1 ∙ g.split));
      is = g.is ∙ ap (λ k. k ++ g.others) (sym q.0) ∙ append_assoc acc (x ∷ []) g.others;
    })))
names_by false n acc i res rest go got = names_end acc res i rest got

sound_more_names : (n : ℕ) (acc : List Name) (i : List Token) (res : List Name) (rest : List Token) → folded (sees sign.Comma) one_more_name n acc i ≡ Some (res, rest) → GoodMore i acc res rest
unfolding folded
sound_more_names zero acc i res rest got = names_end acc res i rest got
sound_more_names (suc n) acc i res rest got = names_by (sees sign.Comma i) n acc i res rest (λ next j got. sound_more_names n next j res rest got) got

pub sound_names : (i : List Token) (xs : List Name) (rest : List Token) → names i ≡ Some (xs, rest) → GoodNames i xs rest
unfolding names
sound_names i xs rest got =
    bind_then (name i) _ _ _ got (λ x i1 hx got.
    let g = sound_more_names (length i1) (x ∷ []) i1 xs rest got in
    record { first = x; others = g.others; split = name_some i x i1 hx ∙ ap (λ k. t.Name x ∷ k) g.split; is = g.is })

-- what stands between two items
passed : (b : Between) (i : List Token) (u : Unit {0}) (j : List Token) → pass_at b i ≡ Some (u, j) → i ≡ tokens_between b ++ j
passed separator.Comma i u j got = expect_some sign.Comma i u j got
passed separator.Arm i u j got = expect_some sign.Box i u j got
passed separator.ListNext i u j got = list_next_some i u j got
passed separator.Name i u j got = (some_pair _ _ _ _ got).1
passed separator.Step i u j got = (some_pair _ _ _ _ got).1

-- ---- lists, of items that are spelled

module _ (k : Kind) (it : Parser (Read (ItemOf k))) (sound_it : (i : List Token) (r : Read (ItemOf k)) (rest : List Token) → it i ≡ Some (r, rest) → GoodItem k i r rest) where
  record NextItem (i : List Token) (acc next : Read (List (ItemOf k))) (rest : List Token) : Type 0 where
    may : may_follow k acc.ending ≡ true
    front : List Token
    thing : ItemOf k
    last : Ending
    split : i ≡ between k ++ (front ++ rest)
    item : Item k last front thing
    ending : next.ending ≡ last
    tree : next.tree ≡ acc.tree ++ thing ∷ []
    height : next.height ≡ max acc.height (thing_height k thing)

  one_more_by : (b : Bool) (acc : Read (List (ItemOf k))) (i : List Token) (next : Read (List (ItemOf k))) (rest : List Token) → may_follow k acc.ending ≡ b
      → (cond {A = Parser (Read (List (ItemOf k)))} b (pass k >> (it >>= (λ r. pure (pushed acc r)))) (λ i. None)) i ≡ Some (next, rest) → NextItem i acc next rest
  one_more_by true acc i next rest may got =
      bind_then (pass k i) _ _ _ got (λ u i1 hp got.
      bind_then (it i1) _ _ _ got (λ r i2 hr got.
      let g = sound_it i1 r i2 hr in
      let q = some_pair _ _ _ _ got in
      record {
        may = may;
        front = g.front;
        thing = r.tree;
        last = r.ending;
        split = passed (between_of k) i u i1 hp ∙ ap (λ j. between k ++ j) (g.split ∙ ap (λ j. g.front ++ j) q.1);
        item = g.item;
        ending = sym (ap (λ (x : Read (List (ItemOf k))). x.ending) q.0);
        tree = sym (ap (λ (x : Read (List (ItemOf k))). x.tree) q.0);
        height = sym (ap (λ (x : Read (List (ItemOf k))). x.height) q.0) ∙ ap (λ h. max acc.height h) g.height;
      }))
  one_more_by false acc i next rest may got = cc

  sound_one_more : (acc : Read (List (ItemOf k))) (i : List Token) (next : Read (List (ItemOf k))) (rest : List Token) → one_more k it acc i ≡ Some (next, rest) → NextItem i acc next rest
  unfolding more_at
  sound_one_more acc i next rest got = one_more_by (may_follow k acc.ending) acc i next rest refl got

  behind_end : (acc res : Read (List (ItemOf k))) (i rest : List Token) → ◌≡◌ {A = Outcome (Read (List (ItemOf k)))} (Some (acc, i)) (Some (res, rest)) → GoodBehind k i acc res rest
  behind_end acc res i rest got =
      let q = some_pair _ _ _ _ got in
      let P : Read (List (ItemOf k)) → Type 0 = λ x. GoodBehind k i acc x rest in
      subst P q.0 (record { front = []; others = []; split = q.1; behind = s.none; tree = sym (append-nil acc.tree); height = omega arith })

  behind_by : (b : Bool) (n : ℕ) (acc : Read (List (ItemOf k))) (i : List Token) (res : Read (List (ItemOf k))) (rest : List Token)
      → ((next : Read (List (ItemOf k))) (j : List Token) → folded (goes k) (one_more k it) n next j ≡ Some (res, rest) → GoodBehind k j next res rest)
      → cond b (and_then (one_more k it acc i) (folded (goes k) (one_more k it) n)) (Some (acc, i)) ≡ Some (res, rest) → GoodBehind k i acc res rest
  behind_by true n acc i res rest go got =
      bind_then (one_more k it acc i) _ _ _ got (λ next j is got.
      let g = sound_one_more acc i next j is in
      let m = go next j got in
      let P : Ending → Type 0 = λ o. Behind k o res.ending m.front m.others in
      record {
        front = between k ++ (g.front ++ m.front);
        others = g.thing ∷ m.others;
        split = g.split ∙ ap (λ x. between k ++ (g.front ++ x)) m.split ∙ simp append_assoc;
        behind = s.one_more g.may g.item (subst P g.ending m.behind);
        tree = m.tree ∙ ap (λ x. x ++ m.others) g.tree ∙ append_assoc acc.tree (g.thing ∷ []) m.others;
        height = let x = m.height in let y = g.height in omega (arith, x, y);
      })
  behind_by false n acc i res rest go got = behind_end acc res i rest got

  pub sound_behind : (n : ℕ) (acc : Read (List (ItemOf k))) (i : List Token) (res : Read (List (ItemOf k))) (rest : List Token) → folded (goes k) (one_more k it) n acc i ≡ Some (res, rest) → GoodBehind k i acc res rest
  unfolding folded
  sound_behind zero acc i res rest got = behind_end acc res i rest got
  sound_behind (suc n) acc i res rest got = behind_by (goes k i) n acc i res rest (λ next j got. sound_behind n next j res rest got) got

  listed_height : (h m : ℕ) (a : ItemOf k) (others all : List (ItemOf k)) → h ≡ thing_height k a → m ≡ max (max 0 h) (things_height k others) → all ≡ a ∷ others → m ≡ things_height k all
  listed_height h m a others all x y z = y ∙ (let P : ℕ → Type 0 = λ n. max (max 0 n) (things_height k others) ≡ max (thing_height k a) (things_height k others) in subst P (sym x) (omega arith)) ∙ ap (λ n. things_height k n) (sym z)

  pub sound_listed : (i : List Token) (res : Read (List (ItemOf k))) (rest : List Token) → listed k it i ≡ Some (res, rest) → GoodItems k i res rest
  unfolding listed_at
  sound_listed i res rest got =
      bind_then (it i) _ _ _ got (λ r i1 hr got.
      let g = sound_it i r i1 hr in
      let m = sound_behind (length i1) (one_of r) i1 res rest got in
      let P : List (ItemOf k) → Type 0 = λ x. Items k res.ending (g.front ++ m.front) x in
      record {
        front = g.front ++ m.front;
        split = g.split ∙ ap (λ x. g.front ++ x) m.split ∙ sym (append_assoc g.front m.front rest);
        items = subst P (sym m.tree) (s.items g.item m.behind);
        height = listed_height r.height res.height r.tree m.others res.tree g.height m.height m.tree;
      })

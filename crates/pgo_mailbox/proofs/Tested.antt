-- What is tested of a macro's blocks is that it is the reliable channel.
use Rattle.std.proofs.Common.{◌≡◌, ◌∷◌, [], ℕ, zero, suc, negsuc, Bool, true, false, List, length, map, Option, Some, None, option_map, refl, sym, ap, ◌∙◌}
use Rattle.std.specs.Prelude.{codes, if◌then◌else◌, not, ◌&&◌, pos}
use Rattle.std.proofs.lemmas.List.{length-map}
use Rattle.std.proofs.lemmas.Option.{same_Some}
use Rattle.pgo_base.specs.ExprView.{tree}
use Rattle.pgo_base.specs.Lookup.{Name, same_name}
use Rattle.pgo_base.specs.SameName.{same_name-self, same_name-is}
use Rattle.pgo_base.specs.Tree.{Tree, name, number, binary, call, trees, Trees, no_trees, more_trees}
use Rattle.pgo_base.specs.declared.expr.Expr.{Expr}
use Rattle.pgo_base.specs.declared.expr.Infix.TheVariants as infixs
use Rattle.pgo_model.specs.Options.{on}
use Rattle.pgo_model.specs.Written.{content_name, value_name}
use Rattle.pgo_syntax.specs.Statement.{Statement, assign, await_that, with_in, yield_as, block, labeled, LabeledStatements, no_labeled, more_labeled}
use Rattle.pgo_syntax.specs.declared.assignment.Assignment.{Assignment}
use Rattle.pgo_syntax.specs.declared.assignment.Step.{Step}
use Rattle.pgo_syntax.specs.declared.binding.Origin.{Origin}
use Rattle.pgo_syntax.specs.declared.binding.Origin.TheVariants.{Equals, In}
use Rattle.pgo_syntax.specs.declared.macros.MappingMacro.{MappingMacro}
use Rattle.pgo_syntax.specs.declared.name.PlacedName.{PlacedName}
use Rattle.pgo_mailbox.specs.Channel as channel
use Rattle.pgo_mailbox.specs.Channel.{Block, both_rows, of_content, has_room, with_value, take_rest, IsRead, IsWrite, IsChannel}
use Rattle.pgo_mailbox.specs.Tests as tests

-- ---- two tests that both hold
pub both : (b c : Bool) → (b && c) ≡ true → (b ≡ true) × (c ≡ true)
both true true h = (refl, refl)
both true false h = absurd (cc)
both false c h = absurd (cc)

negated : (b : Bool) → not b ≡ true → b ≡ false
negated false h = refl
negated true h = absurd (cc)

-- ---- expressions
pub name_is : (x : Name) (t : Tree) → tests.is_name x t ≡ true → t ≡ name x
name_is x (name y) h = ap name (sym (same_name-is x y h))
name_is x t h = absurd (cc)

alone_is : (ts : Trees) → tests.is_content_alone ts ≡ true → ts ≡ trees (name content_name ∷ [])
alone_is no_trees h = absurd (cc)
alone_is (more_trees t no_trees) h = ap (λ u. more_trees u no_trees) (name_is content_name t h)
alone_is (more_trees t (more_trees u us)) h = absurd (cc)

pub of_content_is : (f : Name) (t : Tree) → tests.is_of_content f t ≡ true → t ≡ of_content f
of_content_is f (call g ts) h =
    let b = both (same_name f g) (tests.is_content_alone ts) h in
    λ i. call (sym (same_name-is f g b.0) i) (alone_is ts b.1 i)
of_content_is f t h = absurd (cc)

both_are : (ts : Trees) → tests.are_both ts ≡ true → ts ≡ trees (name content_name ∷ name value_name ∷ [])
both_are no_trees h = absurd (cc)
both_are (more_trees t no_trees) h = absurd (cc)
both_are (more_trees t (more_trees u no_trees)) h =
    let b = both (tests.is_name content_name t) (tests.is_name value_name u) h in
    λ i. more_trees (name_is content_name t b.0 i) (more_trees (name_is value_name u b.1 i) no_trees)
both_are (more_trees t (more_trees u (more_trees w ws))) h = absurd (cc)

append_is : (t : Tree) → tests.is_append t ≡ true → t ≡ with_value
append_is (call g ts) h =
    let b = both (same_name (codes "Append") g) (tests.are_both ts) h in
    λ i. call (sym (same_name-is (codes "Append") g b.0) i) (both_are ts b.1 i)
append_is t h = absurd (cc)

zero_is : (t : Tree) → tests.is_zero t ≡ true → t ≡ number (pos 0)
zero_is (number (pos zero)) h = refl
zero_is (number (pos (suc n))) h = absurd (cc)
zero_is (number (negsuc n)) h = absurd (cc)
zero_is t h = absurd (cc)

filled_is : (t : Tree) → tests.is_filled t ≡ true → t ≡ channel.is_filled
filled_is (binary infixs.Greater a b) h =
    let q = both (tests.is_of_content (codes "Len") a) (tests.is_zero b) h in
    λ i. binary infixs.Greater (of_content_is (codes "Len") a q.0 i) (zero_is b q.1 i)
filled_is t h = absurd (cc)

-- ---- rows
two_is : (b : Block) (p : Statement × Statement) → tests.two b ≡ Some p → b ≡ both_rows p.0 p.1
two_is [] p h = absurd (cc)
two_is (a ∷ []) p h = absurd (cc)
two_is ((None, a) ∷ ((None, c) ∷ [])) p h = let e : (a, c) ≡ p = same_Some (a, c) p h in ap (λ q. both_rows q.0 q.1) e
two_is ((None, a) ∷ ((Some x, c) ∷ [])) p h = absurd (cc)
two_is ((Some x, a) ∷ (c ∷ [])) p h = absurd (cc)
two_is (a ∷ (c ∷ (d ∷ rest))) p h = absurd (cc)

rows_back : (ls : LabeledStatements) → labeled (tests.rows_of ls) ≡ ls
rows_back no_labeled = refl
rows_back (more_labeled x t ls) = ap (more_labeled x t) (rows_back ls)

-- ---- statements
record Await (s : Statement) (t : Tree) : Type 0 where
  place : ℕ
  is : s ≡ await_that place t

record Yields (s : Statement) (t : Tree) : Type 0 where
  place : ℕ
  is : s ≡ yield_as place t

await_is : (s : Statement) → tests.awaits_message s ≡ true → Await s channel.is_filled
await_is (await_that p e) h = record { place = p; is = ap (await_that p) (filled_is e h) }
await_is s h = absurd (cc)

yield_is : (x : Name) (s : Statement) → tests.is_yield x s ≡ true → Yields s (name x)
yield_is x (yield_as p e) h = record { place = p; is = ap (yield_as p) (name_is x e h) }
yield_is x s h = absurd (cc)

append_yield : (s : Statement) → tests.yields_append s ≡ true → Yields s with_value
append_yield (yield_as p e) h = record { place = p; is = ap (yield_as p) (append_is e h) }
append_yield s h = absurd (cc)

abbrev tail_of : ℕ → Assignment
tail_of x = record { left = record { name = record { name = content_name; place = x }; path = [] }; right = of_content (codes "Tail") }

record Drops (s : Statement) : Type 0 where
  place : ℕ
  name_place : ℕ
  is : s ≡ assign place (tail_of name_place ∷ [])

whole_left : (a : Assignment) → elim a.left.path [ [] ↦ true | s ∷ ss ↦ false ] ≡ true → a.left.path ≡ []
whole_left a h = go a.left.path h
  where
    go : (path : List Step) → elim path [ [] ↦ true | s ∷ ss ↦ false ] ≡ true → path ≡ []
    go [] e = refl
    go (s ∷ ss) e = absurd (cc)

tail_is : (a : Assignment) → tests.is_tail a ≡ true → (x : ℕ) × (a ≡ tail_of x)
tail_is a h =
    let w : Bool = elim a.left.path [ [] ↦ true | s ∷ ss ↦ false ] in
    let q = both (same_name content_name a.left.name.name && w) (tests.is_of_content (codes "Tail") a.right) h in
    let n = both (same_name content_name a.left.name.name) w q.0 in
    (a.left.name.place, λ i. record { left = record { name = record { name = sym (same_name-is content_name a.left.name.name n.0) i; place = a.left.name.place }; path = whole_left a n.1 i }; right = of_content_is (codes "Tail") a.right q.1 i })

drops_is : (s : Statement) → tests.drops_first s ≡ true → Drops s
drops_is (assign p []) h = absurd (cc)
drops_is (assign p (a ∷ [])) h = let t = tail_is a h in record { place = p; name_place = t.0; is = ap (λ b. assign p (b ∷ [])) t.1 }
drops_is (assign p (a ∷ (b ∷ rest))) h = absurd (cc)
drops_is s h = absurd (cc)

-- what a choice by a pair answers where it is true
chosen : {A : Type 0} (o : Option A) (f : A → Bool) → on false o f ≡ true → (a : A) × (o ≡ Some a) × (f a ≡ true)
chosen None f h = absurd (cc)
chosen (Some a) f h = (a, refl, h)

record Rest (m : PlacedName) (s : Statement) : Type 0 where
  p : ℕ
  q : ℕ
  r : ℕ
  x : ℕ
  is : s ≡ take_rest m p q r x

rest_is : (m : PlacedName) (s : Statement) → tests.is_rest m.name s ≡ true → Rest m s
rest_is m (block p ls) h =
    let c = chosen (tests.two (tests.rows_of ls)) (λ z. tests.drops_first z.0 && tests.is_yield m.name z.1) h in
    let rows : tests.rows_of ls ≡ both_rows c.0.0 c.0.1 = two_is (tests.rows_of ls) c.0 c.1 in
    let b = both (tests.drops_first c.0.0) (tests.is_yield m.name c.0.1) c.2 in
    let d = drops_is c.0.0 b.0 in let y = yield_is m.name c.0.1 b.1 in
    record {
      p = p;
      q = d.place;
      r = y.place;
      x = d.name_place;
      is = ap (block p) (sym (rows_back ls) ∙ ap labeled rows) ∙ (λ i. block p (labeled (both_rows (d.is i) (y.is i))));
    }
rest_is m s h = absurd (cc)

head_is : (o : Origin) → tests.is_head o ≡ true → o ≡ Equals (of_content (codes "Head"))
head_is (Equals e) h = ap Equals (of_content_is (codes "Head") e h)
head_is (In e) h = absurd (cc)

record Takes (s : Statement) : Type 0 where
  message : PlacedName
  w : ℕ
  p : ℕ
  q : ℕ
  r : ℕ
  x : ℕ
  apart : same_name content_name message.name ≡ false
  is : s ≡ with_in w (record { name = message; origin = Equals (of_content (codes "Head")) } ∷ []) (take_rest message p q r x)

takes_is : (s : Statement) → tests.takes_message s ≡ true → Takes s
takes_is (with_in w [] t) h = absurd (cc)
takes_is (with_in w (n ∷ []) t) h =
    let b = both (not (same_name content_name n.name.name) && tests.is_head n.origin) (tests.is_rest n.name.name t) h in
    let c = both (not (same_name content_name n.name.name)) (tests.is_head n.origin) b.0 in
    let r = rest_is n.name t b.1 in
    record {
      message = n.name;
      w = w;
      p = r.p;
      q = r.q;
      r = r.r;
      x = r.x;
      apart = negated (same_name content_name n.name.name) c.0;
      is = λ i. with_in w (record { name = n.name; origin = head_is n.origin c.1 i } ∷ []) (r.is i);
    }
takes_is (with_in w (n ∷ (k ∷ rest)) t) h = absurd (cc)
takes_is s h = absurd (cc)

-- ---- blocks
pub read_is : (b : Block) → tests.is_read b ≡ true → IsRead b
read_is b h =
    let c = chosen (tests.two b) (λ z. tests.awaits_message z.0 && tests.takes_message z.1) h in
    let q = both (tests.awaits_message c.0.0) (tests.takes_message c.0.1) c.2 in
    let a = await_is c.0.0 q.0 in let t = takes_is c.0.1 q.1 in
    record {
      message = t.message;
      await_place = a.place;
      with_place = t.w;
      block_place = t.p;
      assign_place = t.q;
      yield_place = t.r;
      name_place = t.x;
      apart = t.apart;
      is = two_is b c.0 c.1 ∙ (λ i. both_rows (a.is i) (t.is i));
    }

free_is : (t : Tree) → tests.is_free t ≡ true → (c : Name) × (t ≡ name c) × (same_name content_name c ≡ false) × (same_name value_name c ≡ false)
free_is (name x) h =
    let b = both (not (same_name content_name x)) (not (same_name value_name x)) h in
    (x, refl, negated (same_name content_name x) b.0, negated (same_name value_name x) b.1)
free_is t h = absurd (cc)

-- a choice by a test
where_true : {A : Type 0} (b : Bool) (o : Option A) (a : A) → (if b then o else None) ≡ Some a → (b ≡ true) × (o ≡ Some a)
where_true true o a h = (refl, h)
where_true false o a h = absurd (cc)

-- a write with its capacity
pub record Limited (b : Block) (t : Tree) : Type 0 where
  pub c : Name
  pub capacity : t ≡ name c
  pub writes : IsWrite c b

record Room (s : Statement) (t : Tree) : Type 0 where
  c : Name
  place : ℕ
  capacity : t ≡ name c
  not_content : same_name content_name c ≡ false
  not_value : same_name value_name c ≡ false
  is : s ≡ await_that place (has_room c)

room_in : (e t : Tree) → tests.limit_in e ≡ Some t → (c : Name) × (t ≡ name c) × (same_name content_name c ≡ false) × (same_name value_name c ≡ false) × (e ≡ has_room c)
room_in (binary infixs.Less a b) t h =
    let w = where_true (tests.is_of_content (codes "Len") a) (tests.limit b) t h in
    let v = where_true (tests.is_free b) (Some b) t w.1 in
    let same : b ≡ t = same_Some b t v.1 in
    let f = free_is b v.0 in
    (f.0, sym same ∙ f.1, f.2, f.3, λ i. binary infixs.Less (of_content_is (codes "Len") a w.0 i) (f.1 i))
room_in e t h = absurd (cc)

room_is : (s : Statement) (t : Tree) → tests.limit_of s ≡ Some t → Room s t
room_is (await_that p e) t h =
    let r = room_in e t h in
    record { c = r.0; place = p; capacity = r.1; not_content = r.2; not_value = r.3; is = ap (await_that p) r.4 }
room_is s t h = absurd (cc)

some_chosen : {A B : Type 0} (o : Option A) (f : A → Option B) (b : B) → on None o f ≡ Some b → (a : A) × (o ≡ Some a) × (f a ≡ Some b)
some_chosen None f b h = absurd (cc)
some_chosen (Some a) f b h = (a, refl, h)

pub write_is : (b : Block) (t : Tree) → tests.write_limit b ≡ Some t → Limited b t
write_is b t h =
    let c = some_chosen (tests.two b) (λ z. if tests.yields_append z.1 then tests.limit_of z.0 else None) t h in
    let w = where_true (tests.yields_append c.0.1) (tests.limit_of c.0.0) t c.2 in
    let y = append_yield c.0.1 w.0 in let r = room_is c.0.0 t w.1 in
    record {
      c = r.c;
      capacity = r.capacity;
      writes = record {
        await_place = r.place;
        yield_place = y.place;
        not_content = r.not_content;
        not_value = r.not_value;
        is = two_is b c.0 c.1 ∙ (λ i. both_rows (r.is i) (y.is i));
      };
    }

-- ---- the other way
pub read_tested : (b : Block) → IsRead b → tests.is_read b ≡ true
read_tested b r =
    let x = r.message.name in
    ap tests.is_read r.is
    ∙ ap (λ t. (not t && true) && (true && same_name x x)) r.apart
    ∙ ap (λ t. t) (same_name-self x)

pub write_tested : (c : Name) (b : Block) → IsWrite c b → tests.write_limit b ≡ Some (name c)
write_tested c b w =
    ap tests.write_limit w.is
    ∙ ap (λ t. if (not t && not (same_name value_name c)) then Some (name c) else None) w.not_content
    ∙ ap (λ t. if not t then Some (name c) else None) w.not_value

-- ---- a macro
pub none_recognised : {B : Type 0} (o : Option B) (f : B → Tree) (m : MappingMacro) → option_map f o ≡ tests.channel_capacity m → o ≡ None → (t : Tree) → IsChannel m t → ⊥
none_recognised o f m e n t h =
    let c : tests.channel_capacity m ≡ Some (name h.limit) =
    ap (λ b. if b then tests.write_limit m.write else None) (read_tested m.read h.reads) ∙ write_tested h.limit m.write h.writes in
    let z : option_map f o ≡ None = ap (option_map f) n in
    absurd (cc)

pub some_recognised : {B : Type 0} (o : Option B) (f : B → Tree) (b : B) (m : MappingMacro) → option_map f o ≡ tests.channel_capacity m → o ≡ Some b → IsChannel m (f b)
some_recognised o f b m e s =
    let c : tests.channel_capacity m ≡ Some (f b) = sym e ∙ ap (option_map f) s in
    let w = where_true (tests.is_read m.read) (tests.write_limit m.write) (f b) c in
    let l = write_is m.write (f b) w.1 in
    record { limit = l.c; capacity_is = l.capacity; reads = read_is m.read w.0; writes = l.writes }

-- ---- lists of another length
pub not_alone : (es : List Expr) (ts : List Tree) → map tree es ≡ ts → (length es ≡ 1 → ⊥) → tests.is_content_alone (trees ts) ≡ false
not_alone es [] e h = refl
not_alone es (t ∷ []) e h = absurd (h (sym (length-map es tree) ∙ ap length e))
not_alone es (t ∷ (u ∷ us)) e h = refl

pub not_both : (es : List Expr) (ts : List Tree) → map tree es ≡ ts → (length es ≡ 2 → ⊥) → tests.are_both (trees ts) ≡ false
not_both es [] e h = refl
not_both es (t ∷ []) e h = refl
not_both es (t ∷ (u ∷ [])) e h = absurd (h (sym (length-map es tree) ∙ ap length e))
not_both es (t ∷ (u ∷ (v ∷ vs))) e h = refl

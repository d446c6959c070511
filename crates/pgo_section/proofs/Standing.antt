-- Attempts that are blocked on the contents of a state say that no instance has a step there.
use Rattle.std.proofs.Common.{◌≡◌, ◌<◌, ◌+◌, ◌↔◌, ℕ, zero, suc, Bool, true, false, IsTrue, List, [], ◌∷◌, length, Option, Some, None, refl, sym, ap, ◌∙◌, subst, arith}
use Rattle.std.specs.Prelude.{if◌then◌else◌, nat_eq}
use Rattle.std.proofs.lemmas.List.{length-map}
use Rattle.pgo_base.specs.Data.{Data}
use Rattle.pgo_base.specs.Lookup.{Vars, find}
use Rattle.pgo_model.specs.Choice.{Seeded, words_of}
use Rattle.pgo_model.specs.Core.{Settings, is_at_done, is_place}
use Rattle.pgo_model.specs.Machine.{nth, put}
use Rattle.pgo_model.specs.Outcome.{Kind, Blocked, NoValue, AssertFails, Many, Outcome, Stuck, is_blocked}
use Rattle.pgo_model.specs.System.{System, Words}
use Rattle.pgo_model.specs.Written.{pc, done}
use Rattle.pgo_syntax.specs.declared.bound.Bound.{Bound}
use Rattle.pgo_meaning.specs.Quiet.{Quiet, quiet_tells}
use Rattle.pgo_meaning.specs.System.{member_of, system_of}
use Rattle.pgo_resource.specs.PlainRows.{shown_at}
use Rattle.pgo_workers.specs.Sentences.{IsOwn}
use Rattle.pgo_workers.specs.View.{Shown}
use Rattle.pgo_workers.specs.Walk.{Own, End, Goes, Sticks, Walk, Stop, Touch, Again, Within, ending, ending_from}
use Rattle.pgo_workers.specs.Worlds.{Layout, layout_of, own_in, value_in, world_of}
use Rattle.pgo_section.specs.Programs.{IsGood, RunsSystem, Trees}
use Rattle.pgo_section.specs.Quiet.{AreContentsIn, AreOwnsIn, Begins, WithinFirst, all_stand, bases, currents, is_blocked_end, some_undone, stands}

-- ---- values that agree

put_same : (n r : ℕ) (x : Data) (f g : ℕ → Data) → ((i : ℕ) → i < n → f i ≡ g i) → (i : ℕ) → i < n → put r x f i ≡ put r x g i
put_same n r x f g h i near = go (nat_eq i r)
  where
    go : (b : Bool) → (if b then x else f i) ≡ (if b then x else g i)
    go true = refl
    go false = h i near

-- a walk over the first n resources ends so by what these have
ending_same : (n : ℕ) (s t f g : ℕ → Data) (w : Walk) → WithinFirst n w → ((i : ℕ) → i < n → s i ≡ t i) → ((i : ℕ) → i < n → f i ≡ g i) → ending_from s w f ≡ ending_from t w g
ending_same n s t f g (Stop e) h p q = refl
ending_same n s t f g (Touch r leave rest) h p q =
    ending_same n s t (put r (leave (f r)) f) (put r (leave (f r)) g) (rest (f r)) (h.1 (f r)) p (put_same n r (leave (f r)) f g q)
    ∙ ap (λ x. ending_from t (rest x) (put r (leave x) g)) (q r h.0)
ending_same n s t f g (Again w) h p q = ending_same n s t s t w h p p

within_any : (P : ℕ → Type 0) (Q : Own → Type 0) (w : Walk) → Within P Q w → Within P (λ o. Unit {0}) w
within_any P Q (Stop (Goes o ps)) h = tt
within_any P Q (Stop (Sticks kind)) h = tt
within_any P Q (Touch r leave rest) h = (h.0, λ v. within_any P Q (rest v) (h.1 v))
within_any P Q (Again w) h = within_any P Q w h

-- the contents of a state have its values
module _ {R : Type 0} (shows : R → Shown) where
  pub values_here : (y : Layout) (s : Vars) (xs : List R) → AreContentsIn shows y s xs → (r : ℕ) → r < length xs → bases shows xs r ≡ value_in y s r
  values_here y s xs h r near = let c = there xs r near in ap (λ (c : Shown). c.base) c.2 ∙ (h r c.0 c.1).0
    where
      there : (xs : List R) (r : ℕ) → r < length xs → (c : R) × (nth xs r ≡ Some c) × (shown_at shows xs r ≡ shows c)
      there [] r h = absurd (omega (arith, h))
      there (x ∷ xs) zero h = (x, refl, refl)
      there (x ∷ xs) (suc r) h = there xs r (omega (arith, h))

-- ---- an attempt

-- with these words for each instance no instance has a step in the state, and some instance isn't at Done there
pub record HasNoStep (y : System) (w : ℕ → Words) (s : Vars) : Type 0 where
  pub undone : (k : ℕ) × (k < length y.members) × (is_at_done y k s ≡ false)
  pub blocked : (k : ℕ) → k < length y.members → is_at_done y k s ≡ false → is_blocked (y.sect k s (w k)).end ≡ true

-- any settings with seed 0
abbrev pub plain : Settings
plain = record { seed = 0; attempts = 1; steps = 0; down = [] }

module _ (y : System) (tree : Trees) (runs : RunsSystem y tree plain) where
  pub tree_begins : (n k : ℕ) (o : Own) → IsOwn (world_of (layout_of y)) k o → Within (λ r. r < n) (IsOwn (world_of (layout_of y)) k) (tree 0 k 1 o) → Begins n (tree 0 k 1 o)
  tree_begins n k o own h = record { within = within_any (λ r. r < n) (IsOwn (world_of (layout_of y)) k) (tree 0 k 1 o) h; settled = runs.settles k 1 o own }

  module _ (s : Vars) (good : IsGood y s) where
    abbrev words : ℕ → Words
    words k = words_of (Seeded 0 k 1)

    abbrev end_at : ℕ → Outcome Vars
    end_at k = (y.sect k s (words k)).end

    same_kind : (kind : Kind) → is_blocked_end (Sticks kind) ≡ is_blocked {S = Vars} (Stuck kind)
    same_kind Blocked = refl
    same_kind NoValue = refl
    same_kind AssertFails = refl
    same_kind Many = refl

    -- the attempt is Blocked where the tree is
    end_is : (k : ℕ) → k < length y.members → is_at_done y k s ≡ false → (e : End) → ending (tree 0 k 1 (own_in (layout_of y) s k)) (value_in (layout_of y) s) ≡ e → is_blocked_end e ≡ is_blocked (end_at k)
    end_is k here undone (Sticks kind) e =
        let so : end_at k ≡ Stuck kind = runs.stuck k 1 s kind good here undone e in
        same_kind kind ∙ ap is_blocked (sym so)
    end_is k here undone (Goes o ps) e = ap is_blocked (sym (runs.next k 1 s o ps good here undone e))

    undone_is : (k : ℕ) → is_at_done y k s ≡ is_place done (find pc (own_in (layout_of y) s k))
    undone_is k = runs.done k s good

    module _ (f : ℕ → Data) (n : ℕ) (same : (r : ℕ) → r < n → f r ≡ value_in (layout_of y) s r) (os : List Own) (many : length os ≡ length y.members) (owns : AreOwnsIn (layout_of y) s os)
        (begins : (k : ℕ) (o : Own) → nth os k ≡ Some o → Begins n (tree 0 k 1 o)) where
      within : (k : ℕ) (o : Own) → nth os k ≡ Some o → k < length os
      within k o e = go os k e
        where
          go : (os : List Own) (k : ℕ) → nth os k ≡ Some o → k < length os
          go [] k e = absurd (let z : None ≡ Some o = e in grind (arith, z))
          go (x ∷ os) zero e = omega arith
          go (x ∷ os) (suc k) e = let h = go os k e in omega (arith, h)

      at_index : (os : List Own) (k : ℕ) → k < length os → (o : Own) × (nth os k ≡ Some o)
      at_index [] k h = absurd (omega (arith, h))
      at_index (o ∷ os) zero h = (o, refl)
      at_index (o ∷ os) (suc k) h = at_index os k (omega (arith, h))

      done_here : (k : ℕ) (o : Own) → nth os k ≡ Some o → is_place done (find pc o) ≡ is_at_done y k s
      done_here k o e = ap (λ o. is_place done (find pc o)) (owns k o e) ∙ sym (undone_is k)

      ends_here : (k : ℕ) (o : Own) → nth os k ≡ Some o → is_at_done y k s ≡ false → is_blocked_end (ending (tree 0 k 1 o) f) ≡ is_blocked (end_at k)
      ends_here k o e undone =
          let a = ending_same n f (value_in (layout_of y) s) f (value_in (layout_of y) s) (tree 0 k 1 o) (begins k o e).within same same in
          end_is k (let w = within k o e in omega (arith, w, many)) undone (ending (tree 0 k 1 o) f) (sym (a ∙ ap (λ o. ending (tree 0 k 1 o) (value_in (layout_of y) s)) (owns k o e)))

      -- one of them
      stands_is : (k : ℕ) (o : Own) → nth os k ≡ Some o → stands tree f k o ≡ (if is_at_done y k s then true else is_blocked (end_at k))
      stands_is k o e = ap (λ b. if b then true else is_blocked_end (ending (tree 0 k 1 o) f)) (done_here k o e) ∙ go (is_at_done y k s) refl
        where
          go : (b : Bool) → is_at_done y k s ≡ b → (if b then true else is_blocked_end (ending (tree 0 k 1 o) f)) ≡ (if b then true else is_blocked (end_at k))
          go true q = refl
          go false q = ends_here k o e q

      stands_so : (k : ℕ) (o : Own) → nth os k ≡ Some o → stands tree f k o ≡ true → is_at_done y k s ≡ false → is_blocked (end_at k) ≡ true
      stands_so k o e h undone = sym (ap (λ b. if b then true else is_blocked (end_at k)) undone) ∙ sym (stands_is k o e) ∙ h

      so_stands : (k : ℕ) (o : Own) → nth os k ≡ Some o → (is_at_done y k s ≡ false → is_blocked (end_at k) ≡ true) → stands tree f k o ≡ true
      so_stands k o e h = stands_is k o e ∙ go (is_at_done y k s) refl
        where
          go : (b : Bool) → is_at_done y k s ≡ b → (if b then true else is_blocked (end_at k)) ≡ true
          go true q = refl
          go false q = h q

      if_both : (a b : Bool) → (if a then b else false) ≡ true → (a ≡ true) × (b ≡ true)
      if_both true b h = (refl, h)
      if_both false b h = absurd (grind (arith, h))

      -- all of them, from number j on
      each_stands : (l : List Own) (j : ℕ) → all_stand tree f j l ≡ true → (k n : ℕ) (o : Own) → nth l k ≡ Some o → n ≡ k + j → stands tree f n o ≡ true
      each_stands [] j h k n o e at = absurd (let z : None ≡ Some o = e in grind (arith, z))
      each_stands (x ∷ l) j h zero n o e at =
          let first = (if_both (stands tree f j x) (all_stand tree f (suc j) l) h).0 in let here : n ≡ j = omega (arith, at) in let same : x ≡ o = grind (arith, e) in
          ap (λ n. stands tree f n o) here ∙ ap (stands tree f j) (sym same) ∙ first
      each_stands (x ∷ l) j h (suc k) n o e at = each_stands l (suc j) (if_both (stands tree f j x) (all_stand tree f (suc j) l) h).1 k n o e (omega (arith, at))

      stand_all : (l : List Own) (j : ℕ) → ((k n : ℕ) (o : Own) → nth l k ≡ Some o → n ≡ k + j → stands tree f n o ≡ true) → all_stand tree f j l ≡ true
      stand_all [] j h = refl
      stand_all (x ∷ l) j h =
          ap (λ b. if b then all_stand tree f (suc j) l else false) (h 0 j x refl (omega arith)) ∙ stand_all l (suc j) (λ k n o e at. h (suc k) n o e (omega (arith, at)))

      undone_some : (l : List Own) → some_undone l ≡ true → (k : ℕ) × (o : Own) × (nth l k ≡ Some o) × (is_place done (find pc o) ≡ false)
      undone_some [] h = absurd (grind (arith, h))
      undone_some (o ∷ l) h = go (is_place done (find pc o)) refl h (λ h. undone_some l h)
        where
          go : (b : Bool) → is_place done (find pc o) ≡ b → (if b then some_undone l else true) ≡ true → (some_undone l ≡ true → (k : ℕ) × (p : Own) × (nth l k ≡ Some p) × (is_place done (find pc p) ≡ false))
              → (k : ℕ) × (p : Own) × (nth (o ∷ l) k ≡ Some p) × (is_place done (find pc p) ≡ false)
          go true q h ih = let r = ih h in (suc r.0, r.1, r.2, r.3)
          go false q h ih = (0, o, refl, q)

      some_there : (l : List Own) (k : ℕ) (o : Own) → nth l k ≡ Some o → is_place done (find pc o) ≡ false → some_undone l ≡ true
      some_there [] k o e q = absurd (let z : None ≡ Some o = e in grind (arith, z))
      some_there (x ∷ l) zero o e q = let same : x ≡ o = grind (arith, e) in ap (λ (b : Bool). if b then some_undone l else true) (ap (λ o. is_place done (find pc o)) same ∙ q)
      some_there (x ∷ l) (suc k) o e q = go (is_place done (find pc x)) (some_there l k o e q)
        where
          go : (b : Bool) → some_undone l ≡ true → (if b then some_undone l else true) ≡ true
          go true h = h
          go false h = refl

      -- where some instance isn't at Done
      pub quiet_is : (b : Bool) → b ≡ all_stand tree f 0 os → some_undone os ≡ true → IsTrue b ↔ HasNoStep y words s
      quiet_is b is some = (
        λ h. let u = undone_some os some in record {
          undone = (u.0, (let w = within u.0 u.1 u.2 in omega (arith, w, many)), sym (done_here u.0 u.1 u.2) ∙ u.3);
          blocked = λ k here undone.
              let o = at_index os k (omega (arith, here, many)) in
              stands_so k o.0 o.1 (each_stands os 0 (sym is ∙ h) k k o.0 o.1 (omega arith)) undone;
        },
        λ q. is ∙ stand_all os 0 (λ k n o e at.
            let same : n ≡ k = omega (arith, at) in
            ap (λ n. stands tree f n o) same ∙ so_stands k o e (λ undone. q.blocked k (let w = within k o e in omega (arith, w, many)) undone)),
      )

      -- and where each is
      pub quiet_none : (b : Bool) → b ≡ false → some_undone os ≡ false → IsTrue b ↔ HasNoStep y words s
      quiet_none b is none = (
        λ h. absurd (let z : true ≡ false = sym h ∙ is in grind (arith, z)),
        λ q.
            let k = q.undone.0 in
            let o = at_index os k (let w = q.undone.1 in omega (arith, w, many)) in
            absurd (let z : true ≡ false = sym (some_there os k o.0 o.1 (done_here k o.0 o.1 ∙ q.undone.2)) ∙ none in grind (arith, z)),
      )

-- contents of a state are what their bases are
module _ {R : Type 0} (shows : R → Shown) where
  pub contents_rest : (y : Layout) (s : Vars) (xs : List R) → AreContentsIn shows y s xs → currents shows xs ≡ bases shows xs
  contents_rest y s xs h = λ j. λ r. each xs h r j
    where
      each : (xs : List R) → AreContentsIn shows y s xs → (r : ℕ) → currents shows xs r ≡ bases shows xs r
      each xs h r = go xs r (λ c e. let p = h r c e in p.1 ∙ sym p.0)
        where
          go : (xs : List R) (r : ℕ) → ((c : R) → nth xs r ≡ Some c → (shows c).current ≡ (shows c).base) → currents shows xs r ≡ bases shows xs r
          go [] r h = refl
          go (x ∷ xs) zero h = h x refl
          go (x ∷ xs) (suc r) h = go xs r h

-- ---- of what a specification is bound to

module _ (b : Bound) (s : Vars) where
  many : length (system_of b).members ≡ length b.instances
  many = length-map b.instances member_of

  -- the words are all one
  none_quiet : (w : ℕ → Words) → HasNoStep (system_of b) w s ↔ Quiet b s
  none_quiet w = (
    λ h. (quiet_tells b s w).0 ((h.undone.0, subst (λ n. h.undone.0 < n) many h.undone.1, h.undone.2), λ k low undone. h.blocked k (subst (λ n. k < n) (sym many) low) undone),
    λ q. let t = (quiet_tells b s w).1 q in record {
      undone = (t.0.0, subst (λ n. t.0.0 < n) (sym many) t.0.1, t.0.2);
      blocked = λ k low undone. t.1 k (subst (λ n. k < n) many low) undone;
    },
  )

  pub told_quiet : (y : System) (w : ℕ → Words) (q : Bool) → y ≡ system_of b → IsTrue q ↔ HasNoStep y w s → IsTrue q ↔ Quiet b s
  told_quiet y w q e h = let k = subst (λ y. HasNoStep y w s ↔ Quiet b s) (sym e) (none_quiet w) in (λ t. k.0 (h.0 t), λ z. h.1 (k.1 z))

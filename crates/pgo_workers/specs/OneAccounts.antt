-- What a longer journal, and a further record, do to what one instance's records say.
use Rattle.std.proofs.Common.{◌≡◌, ◌≤◌, ◌<◌, ℕ, zero, suc, ◌+◌, Bool, true, false, List, [], ◌∷◌, ◌++◌, length, Some, refl, sym, ap, ◌∙◌, subst, arith, ◌⊎◌, inl, inr, length-append}
use Rattle.std.proofs.lemmas.Option.{same_Some}
use Rattle.std.specs.Prelude.{if◌then◌else◌, nat_eq}
use Rattle.pgo_model.specs.Outcome.{Next}
use Rattle.pgo_model.specs.Machine.{Entry, Note, Record, Step, Noted, Held, Down, Full, last_ends, nth}
use Rattle.pgo_model.specs.MachineLists.{nth_left, nth_last, nth_below, nth_end}
use Rattle.pgo_model.specs.MachineAccounts.{full_ends, equal_or}
use Rattle.pgo_model.specs.Accounts.{ComesAfter}
use Rattle.pgo_workers.specs.Walk.{Own}
use Rattle.pgo_workers.specs.View.{World, along, Others, OtherNotes, notes_of, state}
use Rattle.pgo_workers.specs.Worker.{Program}
use Rattle.pgo_workers.specs.Sentences.{Tells, AccountsOfOne, AllGood, OwnThen}

-- a longer journal has the same states along the former entries
pub along_below : {S D : Type 0} (f : S → D → S) (s : S) (l k : List (Entry D)) (n : ℕ) → n ≤ length l → along f s (l ++ k) n ≡ along f s l n
along_below f s l k zero h = refl
along_below f s [] k (suc n) h = absurd (omega (arith, h))
along_below f s (e ∷ l) k (suc n) h = along_below f (f s e.change) l k n (let q : n ≤ length l = omega (arith, h) in q)

-- the state behind a further entry
pub along_next : {S D : Type 0} (f : S → D → S) (s : S) (l : List (Entry D)) (e : Entry D) → along f s (l ++ (e ∷ [])) (suc (length l)) ≡ f (along f s l (length l)) e.change
along_next f s [] e = refl
along_next f s (x ∷ l) e = along_next f (f s x.change) l e

-- a member of two lists joined
pub nth_either : {A : Type 0} (l k : List A) (n : ℕ) (x : A) → nth (l ++ k) n ≡ Some x → (nth l n ≡ Some x) ⊎ ((j : ℕ) × (nth k j ≡ Some x) × (length l ≤ n))
nth_either [] k n x h = inr (n, h, omega arith)
nth_either (y ∷ l) k zero x h = inl h
nth_either (y ∷ l) k (suc n) x h = go (nth_either l k n x h)
  where
    go : (nth l n ≡ Some x) ⊎ ((j : ℕ) × (nth k j ≡ Some x) × (length l ≤ n)) → (nth l n ≡ Some x) ⊎ ((j : ℕ) × (nth k j ≡ Some x) × (suc (length l) ≤ suc n))
    go (inl h) = inl h
    go (inr h) = let b = h.2 in inr (h.0, h.1, omega (arith, b))

pub other_at : {D : Type 0} (k : ℕ) (es : List (Entry D)) (j : ℕ) (e : Entry D) → Others k es → nth es j ≡ Some e → e.instance ≡ k → ⊥
other_at k [] j e o h i = grind (arith, h)
other_at {D} k (x ∷ es) zero e o h i = o.0 (ap (λ (e : Entry D). e.instance) (same_Some x e h) ∙ i)
other_at k (x ∷ es) (suc j) e o h i = other_at k es j e o.1 h i

pub other_note_at : (k : ℕ) (ns : List Note) (j : ℕ) (n : Note) → OtherNotes k ns → nth ns j ≡ Some n → n.instance ≡ k → ⊥
other_note_at k [] j e o h i = grind (arith, h)
other_note_at k (x ∷ ns) zero e o h i = o.0 (ap (λ (e : Note). e.instance) (same_Some x e h) ∙ i)
other_note_at k (x ∷ ns) (suc j) e o h i = other_note_at k ns j e o.1 h i

pub notes_of_append : (k : ℕ) (a b : List Note) → notes_of k (a ++ b) ≡ notes_of k a + notes_of k b
notes_of_append k [] b = omega arith
notes_of_append k (n ∷ a) b = go (nat_eq n.instance k) (notes_of_append k a b)
  where
    go : (c : Bool) → notes_of k (a ++ b) ≡ notes_of k a + notes_of k b → (if c then suc (notes_of k (a ++ b)) else notes_of k (a ++ b)) ≡ (if c then suc (notes_of k a) else notes_of k a) + notes_of k b
    go true ih = omega (arith, ih)
    go false ih = ih

pub no_notes_of : (k : ℕ) (ns : List Note) → OtherNotes k ns → notes_of k ns ≡ 0
no_notes_of k [] o = refl
no_notes_of k (n ∷ ns) o = go (nat_eq n.instance k) refl (no_notes_of k ns o.1)
  where
    go : (c : Bool) → nat_eq n.instance k ≡ c → notes_of k ns ≡ 0 → (if c then suc (notes_of k ns) else notes_of k ns) ≡ 0
    go true e ih = absurd (o.0 ((equal_or n.instance k true e).0 refl))
    go false e ih = ih

note_one : (k : ℕ) (n : Note) → n.instance ≡ k → notes_of k (n ∷ []) ≡ 1
note_one k n e = go (nat_eq n.instance k) refl
  where
    go : (c : Bool) → nat_eq n.instance k ≡ c → (if c then suc zero else zero) ≡ 1
    go true q = omega arith
    go false q = absurd ((equal_or n.instance k false q).1 refl e)

last_place : (i a b : ℕ) → i ≡ a → b ≡ a + 1 → suc i ≡ b
last_place i a b h e = omega (arith, h, e)

module _ {S D : Type 0} (W : World S D) where
  -- a longer journal has the same states along the former entries
  pub state_kept : (es more : List (Entry D)) (p : ℕ) → p ≤ length es → state W (es ++ more) p ≡ state W es p
  state_kept es more p h = along_below W.patched W.start es more p h

  -- where all states along a longer journal are good, all along the former entries are
  pub all_good_front : (Good : S → Type 0) (es more : List (Entry D)) → AllGood W Good (es ++ more) → AllGood W Good es
  all_good_front Good es more good q below = subst Good (state_kept es more q below) (good q (let len = length-append es more in omega (arith, len, below)))

  pub own_then_grows : (Good : S → Type 0) (k : ℕ) (es more : List (Entry D)) (o : Own) → OwnThen W Good k es o → OwnThen W Good k (es ++ more) o
  own_then_grows Good k es more o t =
      let len = length-append es more in let b = t.1 in
      (t.0, omega (arith, len, b), λ good. ap (λ s. W.own s k) (state_kept es more t.0 t.1) ∙ t.2 (all_good_front Good es more good))

  module _ (P : Program S D) (Reaches : ℕ → ℕ → Type 0) (Good : S → Type 0) where
    -- what a record claims is claimed of a longer journal
    pub tells_grows : (k : ℕ) (es more : List (Entry D)) (ns more_ns : List Note) (i : ℕ) (x : Record) → length (es ++ more) ≤ P.steps
        → Tells W P Reaches Good k es ns i x → Tells W P Reaches Good k (es ++ more) (ns ++ more_ns) i x
    tells_grows k es more ns more_ns i (Step n) room (p, e, a, b, c, d, o) =
        let below = nth_below es p e b in (
          p,
          e,
          a,
          nth_left es more p e b,
          c,
          d,
          λ good.
              let before = state_kept es more p (omega (arith, below)) in let after = state_kept es more (suc p) (omega (arith, below)) in
              ap (λ s. (P.sect k (suc i) s).end) before ∙ o (subst Good before good) ∙ ap (λ t. Next t (W.printed e.change)) (sym after),
        )
    tells_grows k es more ns more_ns i (Noted kind p) room (j, a, b, o) =
        let len = length-append es more in
        (j, nth_left ns more_ns j _ a, omega (arith, len, b), λ good. let at = state_kept es more p b in ap (λ s. (P.sect k (suc i) s).end) at ∙ o (subst Good at good))
    tells_grows k es more ns more_ns i (Held r h) room t = t
    tells_grows k es more ns more_ns i (Down r o) room t = t
    tells_grows k es more ns more_ns i (Full n) room t = let len = length-append es more in let f = t.1 in (t.0, omega (arith, len, f, room))

    -- the journal grows by others
    pub accounts_grow : (k : ℕ) (es more : List (Entry D)) (ns more_ns : List Note) (xs : List Record) → length (es ++ more) ≤ P.steps → Others k more → OtherNotes k more_ns
        → AccountsOfOne W P Reaches Good k es ns xs → AccountsOfOne W P Reaches Good k (es ++ more) (ns ++ more_ns) xs
    accounts_grow k es more ns more_ns xs room others other_notes a = record {
      told = λ i x h. tells_grows k es more ns more_ns i x room (a.told i x h);
      steps = λ p e h i. steps p e i (nth_either es more p e h);
      notes = λ j n h i. a.notes j n (old j n i (nth_either ns more_ns j n h)) i;
      notes_once = λ i j x y h g p q. a.notes_once i j x y (old i x p (nth_either ns more_ns i x h)) (old j y q (nth_either ns more_ns j y g)) p q;
      ordered = a.ordered;
      bounded = a.bounded;
      last = a.last;
      room = room;
      share = let s = a.share in let t = notes_of_append k ns more_ns in let z = no_notes_of k more_ns other_notes in omega (arith, s, t, z);
    }
      where
        steps : (p : ℕ) (e : Entry D) → e.instance ≡ k → (nth es p ≡ Some e) ⊎ ((j : ℕ) × (nth more j ≡ Some e) × (length es ≤ p)) → (i : ℕ) × (e.attempt ≡ suc i) × (nth xs i ≡ Some (Step (suc p)))
        steps p e i (inl h) = a.steps p e h i
        steps p e i (inr h) = absurd (other_at k more h.0 e others h.1 i)

        old : (j : ℕ) (n : Note) → n.instance ≡ k → (nth ns j ≡ Some n) ⊎ ((i : ℕ) × (nth more_ns i ≡ Some n) × (length ns ≤ j)) → nth ns j ≡ Some n
        old j n i (inl h) = h
        old j n i (inr h) = absurd (other_note_at k more_ns h.0 n other_notes h.1 i)

    -- a further record, with the entry or the note that it tells
    module _ (k : ℕ) (es more : List (Entry D)) (ns more_ns : List Note) (xs : List Record) (x : Record) where
      pub record Adds : Type 0 where
        pub room : length (es ++ more) ≤ P.steps
        pub new : Tells W P Reaches Good k (es ++ more) (ns ++ more_ns) (length xs) x
        pub steps : (j : ℕ) (e : Entry D) → nth more j ≡ Some e → e.instance ≡ k → (p : ℕ) → nth (es ++ more) p ≡ Some e → length es ≤ p → (e.attempt ≡ suc (length xs)) × (x ≡ Step (suc p))
        pub notes : (j : ℕ) (n : Note) → nth more_ns j ≡ Some n → n.instance ≡ k → (n.attempt ≡ suc (length xs)) × (x ≡ Noted n.kind n.position)
        pub one_note : (i j p q : ℕ) (n m : Note) → nth more_ns i ≡ Some n → nth more_ns j ≡ Some m → n.instance ≡ k → m.instance ≡ k → nth (ns ++ more_ns) p ≡ Some n → nth (ns ++ more_ns) q ≡ Some m → length ns ≤ p → length ns ≤ q → p ≡ q
        pub share : notes_of k more_ns ≤ 1
        pub fresh : (i : ℕ) (y : Record) → nth xs i ≡ Some y → ComesAfter x y
        pub may : (last_ends xs ≡ false) × (length xs < P.attempts)

      pub accounts_add : Adds → AccountsOfOne W P Reaches Good k es ns xs → AccountsOfOne W P Reaches Good k (es ++ more) (ns ++ more_ns) (xs ++ (x ∷ []))
      accounts_add g a = record {
        told = λ i y h. told i y (nth_end xs x i y h);
        steps = λ p e h i. steps p e i h (nth_either es more p e h);
        notes = λ j n h i. notes j n i (nth_either ns more_ns j n h);
        notes_once = λ i j n m h q p r e. once i j n m h q p r e (nth_either ns more_ns i n h) (nth_either ns more_ns j m q);
        ordered = λ i j y z h q l. ordered i j y z l h (nth_end xs x i y h) (nth_end xs x j z q);
        bounded = let l = length-append xs (x ∷ []) in let b = g.may.1 in omega (arith, l, b);
        last = λ i n h. last i n (nth_end xs x i (Full n) h);
        room = g.room;
        share = let s = a.share in let t = notes_of_append k ns more_ns in let z = g.share in let l = length-append xs (x ∷ []) in omega (arith, s, t, z, l);
      }
        where
          told : (i : ℕ) (y : Record) → (nth xs i ≡ Some y) ⊎ ((i ≡ length xs) × (x ≡ y)) → Tells W P Reaches Good k (es ++ more) (ns ++ more_ns) i y
          told i y (inl h) = tells_grows k es more ns more_ns i y g.room (a.told i y h)
          told i y (inr h) = subst (λ i. Tells W P Reaches Good k (es ++ more) (ns ++ more_ns) i y) (sym h.0) (subst (λ y. Tells W P Reaches Good k (es ++ more) (ns ++ more_ns) (length xs) y) h.1 g.new)

          steps : (p : ℕ) (e : Entry D) → e.instance ≡ k → nth (es ++ more) p ≡ Some e → (nth es p ≡ Some e) ⊎ ((j : ℕ) × (nth more j ≡ Some e) × (length es ≤ p)) → (i : ℕ) × (e.attempt ≡ suc i) × (nth (xs ++ (x ∷ [])) i ≡ Some (Step (suc p)))
          steps p e i q (inl h) = let o = a.steps p e h i in (o.0, o.1, nth_left xs (x ∷ []) o.0 _ o.2)
          steps p e i q (inr h) = let o = g.steps h.0 e h.1 i p q h.2 in (length xs, o.0, nth_last xs x ∙ ap Some o.1)

          notes : (j : ℕ) (n : Note) → n.instance ≡ k → (nth ns j ≡ Some n) ⊎ ((i : ℕ) × (nth more_ns i ≡ Some n) × (length ns ≤ j)) → (i : ℕ) × (n.attempt ≡ suc i) × (nth (xs ++ (x ∷ [])) i ≡ Some (Noted n.kind n.position))
          notes j n i (inl h) = let o = a.notes j n h i in (o.0, o.1, nth_left xs (x ∷ []) o.0 _ o.2)
          notes j n i (inr h) = let o = g.notes h.0 n h.1 i in (length xs, o.0, nth_last xs x ∙ ap Some o.1)

          -- an old note is of an earlier attempt
          old_new : (j : ℕ) (n m : Note) → n.instance ≡ k → m.instance ≡ k → n.attempt ≡ m.attempt → nth ns j ≡ Some n → (i : ℕ) → nth more_ns i ≡ Some m → ⊥
          old_new j n m p q e h i new =
              let o = a.notes j n h p in let b = nth_below xs o.0 _ o.2 in let o1 = o.1 in let at = (g.notes i m new q).0 in
              omega (arith, o1, b, at, e)

          once : (i j : ℕ) (n m : Note) → nth (ns ++ more_ns) i ≡ Some n → nth (ns ++ more_ns) j ≡ Some m → n.instance ≡ k → m.instance ≡ k → n.attempt ≡ m.attempt
              → (nth ns i ≡ Some n) ⊎ ((l : ℕ) × (nth more_ns l ≡ Some n) × (length ns ≤ i)) → (nth ns j ≡ Some m) ⊎ ((l : ℕ) × (nth more_ns l ≡ Some m) × (length ns ≤ j)) → i ≡ j
          once i j n m hi hj p q e (inl h) (inl o) = a.notes_once i j n m h o p q e
          once i j n m hi hj p q e (inl h) (inr o) = absurd (old_new i n m p q e h o.0 o.1)
          once i j n m hi hj p q e (inr h) (inl o) = absurd (old_new j m n q p (sym e) o h.0 h.1)
          once i j n m hi hj p q e (inr h) (inr o) = g.one_note h.0 o.0 i j n m h.1 o.1 p q hi hj h.2 o.2

          ordered : (i j : ℕ) (y z : Record) → i < j → nth (xs ++ (x ∷ [])) i ≡ Some y → (nth xs i ≡ Some y) ⊎ ((i ≡ length xs) × (x ≡ y)) → (nth xs j ≡ Some z) ⊎ ((j ≡ length xs) × (x ≡ z)) → ComesAfter z y
          ordered i j y z l h (inl o) (inl q) = a.ordered i j y z o q l
          ordered i j y z l h (inl o) (inr q) = subst (λ z. ComesAfter z y) q.1 (g.fresh i y o)
          ordered i j y z l h (inr o) (inl q) = let b = nth_below xs j z q in let e = o.0 in absurd (omega (arith, b, e, l))
          ordered i j y z l h (inr o) (inr q) = let e = o.0 in let d = q.0 in absurd (omega (arith, e, d, l))

          last : (i n : ℕ) → (nth xs i ≡ Some (Full n)) ⊎ ((i ≡ length xs) × (x ≡ Full n)) → suc i ≡ length (xs ++ (x ∷ []))
          last i n (inl h) = let t : true ≡ false = sym (full_ends xs i n h (a.last i n h)) ∙ g.may.0 in absurd (grind (arith, t))
          last i n (inr h) = last_place i (length xs) (length (xs ++ (x ∷ []))) h.0 (length-append xs (x ∷ []))

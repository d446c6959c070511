-- What a further record does to the accounts of a machine.
use Rattle.std.proofs.Common.{◌≡◌, ◌≤◌, ◌<◌, ℕ, zero, suc, ◌+◌, Bool, true, false, List, [], ◌∷◌, ◌++◌, length, Some, refl, sym, ap, ◌∙◌, subst, arith, ◌⊎◌, inl, inr, length-append}
use Rattle.std.specs.Prelude.{if◌then◌else◌, nat_eq}
use Rattle.pgo_model.specs.Outcome.{Kind, Blocked, NoValue, AssertFails, Many, Next}
use Rattle.pgo_model.specs.Machine.{Rules, Entry, Note, Record, Step, Noted, Held, Down, Full, Worker, Machine, last_ends, nth, put, state_at, finished_of, with_record, opened, stopped}
use Rattle.pgo_model.specs.Accounts.{at, ComesAfter, outcome, Told, Accounts, JointAccounts, StepsAreSections}
use Rattle.pgo_model.specs.MachineLists.{nth_left, nth_last, nth_below, nth_end, state_below}

grown : (a b c : ℕ) → b ≡ a + 1 → a < c → b ≤ c
grown a b c e h = omega (arith, e, h)

last_place : (i a b : ℕ) → i ≡ a → b ≡ a + 1 → suc i ≡ b
last_place i a b h e = omega (arith, h, e)

no_length : {A : Type 0} (y : A) (l : List A) → suc zero ≡ length (y ∷ l) → l ≡ []
no_length y [] e = refl
no_length y (z ∷ l) e = absurd (omega (arith, e))

skip : (y z : Record) (l : List Record) → last_ends (y ∷ (z ∷ l)) ≡ last_ends (z ∷ l)
skip (Step n) z l = refl
skip (Noted Blocked p) z l = refl
skip (Noted NoValue p) z l = refl
skip (Noted AssertFails p) z l = refl
skip (Noted Many p) z l = refl
skip (Held r h) z l = refl
skip (Down r o) z l = refl
skip (Full n) z l = refl

pub full_ends : (l : List Record) (i q : ℕ) → nth l i ≡ Some (Full q) → suc i ≡ length l → last_ends l ≡ true
full_ends [] i q h e = absurd (grind (arith, h))
full_ends (y ∷ []) zero q h e = let y' : y ≡ Full q = grind (arith, h) in ap (λ y. last_ends (y ∷ [])) y'
full_ends (y ∷ (z ∷ l)) zero q h e = absurd (omega (arith, e))
full_ends (y ∷ []) (suc i) q h e = absurd (omega (arith, e))
full_ends (y ∷ (z ∷ l)) (suc i) q h e = skip y z l ∙ full_ends (z ∷ l) i q h (let e' : suc i ≡ length (z ∷ l) = omega (arith, e) in e')

-- two numbers are equal or not, as the test says
pub equal_or : (i j : ℕ) (b : Bool) → nat_eq i j ≡ b → (b ≡ true → i ≡ j) × (b ≡ false → i ≡ j → ⊥)
equal_or i j true e = (λ _. grind arith, λ k. absurd (grind (arith, k)))
equal_or i j false e = (λ k. absurd (grind (arith, k)), λ _ p. grind arith)

-- a list with none behind it
pub append_none : {A : Type 0} (l : List A) → l ≡ l ++ []
append_none [] = refl
append_none (x ∷ l) = ap (λ k. x ∷ k) (append_none l)

module _ {D : Type 0} where
  -- the records, after one was added
  records_kept : (m : Machine D) (k : ℕ) (x : Record) (j i : ℕ) (y : Record) → nth (m.workers j).records i ≡ Some y → nth (put k (with_record x (m.workers k)) m.workers j).records i ≡ Some y
  records_kept m k x j i y h = go (nat_eq j k) refl
    where
      go : (b : Bool) → nat_eq j k ≡ b → nth (if b then with_record x (m.workers k) else m.workers j).records i ≡ Some y
      go true e = nth_left (m.workers k).records (x ∷ []) i y (subst (λ n. nth (m.workers n).records i ≡ Some y) ((equal_or j k true e).0 refl) h)
      go false e = h

  record_new : (m : Machine D) (k : ℕ) (x : Record) → nth (put k (with_record x (m.workers k)) m.workers k).records (length (m.workers k).records) ≡ Some x
  record_new m k x = go (nat_eq k k) refl
    where
      go : (b : Bool) → nat_eq k k ≡ b → nth (if b then with_record x (m.workers k) else m.workers k).records (length (m.workers k).records) ≡ Some x
      go true e = nth_last (m.workers k).records x
      go false e = absurd (grind arith)

  -- what they were before
  pub records_were : (m : Machine D) (k : ℕ) (x : Record) (j i : ℕ) (y : Record) → nth (put k (with_record x (m.workers k)) m.workers j).records i ≡ Some y → (nth (m.workers j).records i ≡ Some y) ⊎ ((j ≡ k) × (i ≡ length (m.workers k).records) × (x ≡ y))
  records_were m k x j i y h = go (nat_eq j k) refl h
    where
      split : j ≡ k → (nth (m.workers k).records i ≡ Some y) ⊎ ((i ≡ length (m.workers k).records) × (x ≡ y)) → (nth (m.workers j).records i ≡ Some y) ⊎ ((j ≡ k) × (i ≡ length (m.workers k).records) × (x ≡ y))
      split e (inl a) = inl (subst (λ n. nth (m.workers n).records i ≡ Some y) (sym e) a)
      split e (inr a) = inr (e, a.0, a.1)

      go : (b : Bool) → nat_eq j k ≡ b → nth (if b then with_record x (m.workers k) else m.workers j).records i ≡ Some y → (nth (m.workers j).records i ≡ Some y) ⊎ ((j ≡ k) × (i ≡ length (m.workers k).records) × (x ≡ y))
      go true e a = split ((equal_or j k true e).0 refl) (nth_end (m.workers k).records x i y a)
      go false e a = inl a

module _ {S D : Type 0} (R : Rules S D) where
  -- the journal of n is that of m and more, and no more where m's is full
  pub record Grows (m n : Machine D) : Type 0 where
    pub es : List (Entry D)
    pub ns : List Note
    pub entries : n.entries ≡ m.entries ++ es
    pub notes : n.notes ≡ m.notes ++ ns
    pub full : length m.entries ≡ R.steps → n.entries ≡ m.entries

  -- where nothing was added
  pub same_journal : (m n : Machine D) → n.entries ≡ m.entries → n.notes ≡ m.notes → Grows m n
  same_journal m n es ns = record { es = []; ns = []; entries = es ∙ append_none m.entries; notes = ns ∙ append_none m.notes; full = λ _. es }

  -- a further record of instance k may come
  abbrev pub MayRecord : ℕ → Worker → Type 0
  MayRecord k p = (last_ends p.records ≡ false) × (length p.records < R.attempts) × (k < R.instances)

  at_grown : (m n : Machine D) → Grows m n → (p : ℕ) → p ≤ length m.entries → at R (finished_of n) p ≡ at R (finished_of m) p
  at_grown m n g p h = ap (λ l. state_at R R.start l p) g.entries ∙ state_below R R.start m.entries g.es p h

  module _ (Reaches : ℕ → ℕ → Type 0) where
    -- the machine's accounts, and what its records tell
    pub record AccountsOf (m : Machine D) : Type 0 where
      pub each : (k : ℕ) → Accounts R Reaches false (finished_of m) k
      pub joint : JointAccounts R false (finished_of m)

    abbrev pub Tells : Machine D → (k i : ℕ) → Record → Type 0
    Tells m k i x = Told R Reaches false (finished_of m) k i x

    told_grows : (m n : Machine D) → Grows m n → (k i : ℕ) (x : Record) → Tells m k i x → Tells n k i x
    told_grows m n g k i (Step q) (p, e, a, b, c, d, o) =
        let below = nth_below m.entries p e b in
        let h : p ≤ length m.entries = omega (arith, below) in let h' : suc p ≤ length m.entries = omega (arith, below) in (
          p,
          e,
          a,
          ap (λ l. nth l p) g.entries ∙ nth_left m.entries g.es p e b,
          c,
          d,
          ap (λ s. (R.sect k (suc i) s).end) (at_grown m n g p h) ∙ o ∙ ap (λ t. Next t (R.printed e.change)) (sym (at_grown m n g (suc p) h')),
        )
    told_grows m n g k i (Noted kind p) (j, a, t) =
        let len = ap length g.entries ∙ length-append m.entries g.es in let b = t.0 in (
          j,
          ap (λ l. nth l j) g.notes ∙ nth_left m.notes g.ns j _ a,
          (omega (arith, b, len), ap (λ s. (R.sect k (suc i) s).end) (at_grown m n g p b) ∙ t.1),
        )
    told_grows m n g k i (Held r h) t = t
    told_grows m n g k i (Down r o) t = t
    told_grows m n g k i (Full q) t = t

    not_run : {P : Type 0} → false ≡ true → P
    not_run e = absurd (grind (arith, e))

    -- a step that tells nothing keeps the accounts
    pub accounts_kept : (m n : Machine D) → Grows m n → n.entries ≡ m.entries → n.notes ≡ m.notes → ((k : ℕ) → (n.workers k).records ≡ (m.workers k).records) → AccountsOf m → AccountsOf n
    accounts_kept m n g es ns recs a = record { each = each; joint = joint }
      where
        each : (k : ℕ) → Accounts R Reaches false (finished_of n) k
        each k = let b = a.each k in record {
          told = λ i x h. told_grows m n g k i x (b.told i x (ap (λ l. nth l i) (sym (recs k)) ∙ h));
          entries = λ p e h is. let q = b.entries p e (ap (λ l. nth l p) (sym es) ∙ h) is in (q.0, q.1, ap (λ l. nth l q.0) (recs k) ∙ q.2);
          notes = λ j e h is. let q = b.notes j e (ap (λ l. nth l j) (sym ns) ∙ h) is in (q.0, q.1, ap (λ l. nth l q.0) (recs k) ∙ q.2);
          notes_once = λ i j x y h h'. b.notes_once i j x y (ap (λ l. nth l i) (sym ns) ∙ h) (ap (λ l. nth l j) (sym ns) ∙ h');
          ordered = λ i j x y h h' lt. b.ordered i j x y (ap (λ l. nth l i) (sym (recs k)) ∙ h) (ap (λ l. nth l j) (sym (recs k)) ∙ h') lt;
          bounded = subst (λ l. length l ≤ R.attempts) (sym (recs k)) b.bounded;
          last = λ i n h. b.last i n (ap (λ l. nth l i) (sym (recs k)) ∙ h) ∙ ap length (sym (recs k));
          number = λ i x h. b.number i x (ap (λ l. nth l i) (sym (recs k)) ∙ h);
        }

        joint : JointAccounts R false (finished_of n)
        joint = record {
          once = λ k l i j r o h h'. a.joint.once k l i j r o (ap (λ l. nth l i) (sym (recs k)) ∙ h) (ap (λ l. nth l j) (sym (recs l)) ∙ h');
          full = λ k i q h. a.joint.full k i q (ap (λ l. nth l i) (sym (recs k)) ∙ h) ∙ ap length (sym es);
          room = subst (λ l. length l ≤ R.steps) (sym es) a.joint.room;
          contended = not_run;
        }

    -- a step that tells x of k's attempt keeps the accounts
    module _ (m n : Machine D) (k : ℕ) (x : Record) (g : Grows m n) (a : AccountsOf m) (new : Tells n k (length (m.workers k).records) x)
        (entries : (p : ℕ) (e : Entry D) → nth n.entries p ≡ Some e → (nth m.entries p ≡ Some e) ⊎ ((e.instance ≡ k) × (e.attempt ≡ suc (length (m.workers k).records)) × (x ≡ Step (suc p))))
        (notes : (j : ℕ) (e : Note) → nth n.notes j ≡ Some e → (nth m.notes j ≡ Some e) ⊎ ((e.instance ≡ k) × (e.attempt ≡ suc (length (m.workers k).records)) × (x ≡ Noted e.kind e.position) × (j ≡ length m.notes)))
        (down : (r o l j : ℕ) → x ≡ Down r o → nth (m.workers l).records j ≡ Some (Down r o) → ⊥)
        (full : (q : ℕ) → x ≡ Full q → q ≡ length n.entries)
        (fresh : (i : ℕ) (y : Record) → nth (m.workers k).records i ≡ Some y → ComesAfter x y)
        (room : length n.entries ≤ R.steps) (may : MayRecord k (m.workers k)) where
      -- the machine with the record
      abbrev told_machine : Machine D
      told_machine = record n { workers = put k (with_record x (m.workers k)) m.workers }

      -- a record of j is one that was, or x
      abbrev WasOrNew : (j i : ℕ) → Record → Type 0
      WasOrNew j i y = (nth (m.workers j).records i ≡ Some y) ⊎ ((j ≡ k) × (i ≡ length (m.workers k).records) × (x ≡ y))

      number : (j i : ℕ) (y : Record) → WasOrNew j i y → j < R.instances
      number j i y (inl h) = (a.each j).number i y h
      number j i y (inr h) = subst (λ j. j < R.instances) (sym h.0) may.2

      bounded : (j : ℕ) (b : Bool) → length (if b then with_record x (m.workers k) else m.workers j).records ≤ R.attempts
      bounded j true = let e = length-append (m.workers k).records (x ∷ []) in let l : length (m.workers k).records < R.attempts = may.1 in grown (length (m.workers k).records) (length ((m.workers k).records ++ (x ∷ []))) R.attempts e l
      bounded j false = (a.each j).bounded

      last : (j i q : ℕ) (b : Bool) → nat_eq j k ≡ b → nth (if b then with_record x (m.workers k) else m.workers j).records i ≡ Some (Full q) → suc i ≡ length (if b then with_record x (m.workers k) else m.workers j).records
      last j i q true e h = at_end (nth_end (m.workers k).records x i (Full q) h)
        where
          at_end : (nth (m.workers k).records i ≡ Some (Full q)) ⊎ ((i ≡ length (m.workers k).records) × (x ≡ Full q)) → suc i ≡ length ((m.workers k).records ++ (x ∷ []))
          at_end (inl h) = absurd (let y : true ≡ false = sym (full_ends (m.workers k).records i q h ((a.each k).last i q h)) ∙ may.0 in grind (arith, y))
          at_end (inr h) = let e = length-append (m.workers k).records (x ∷ []) in let h0 = h.0 in last_place i (length (m.workers k).records) (length ((m.workers k).records ++ (x ∷ []))) h0 e
      last j i q false e h = (a.each j).last i q h

      ordered : (j i i' : ℕ) (y z : Record) → WasOrNew j i y → WasOrNew j i' z → i < i' → ComesAfter z y
      ordered j i i' y z (inl h) (inl h') lt = (a.each j).ordered i i' y z h h' lt
      ordered j i i' y z (inl h) (inr h') lt = subst (λ z. ComesAfter z y) h'.2 (fresh i y (subst (λ j. nth (m.workers j).records i ≡ Some y) h'.0 h))
      ordered j i i' y z (inr h) (inl h') lt =
          let b = nth_below (m.workers j).records i' z h' in let l = ap (λ j. length (m.workers j).records) h.0 in let e = h.1 in absurd (omega (arith, b, l, e, lt))
      ordered j i i' y z (inr h) (inr h') lt = let e = h.1 in let e' = h'.1 in absurd (omega (arith, e, e', lt))

      told : (j i : ℕ) (y : Record) → WasOrNew j i y → Tells n j i y
      told j i y (inl h) = told_grows m n g j i y ((a.each j).told i y h)
      told j i y (inr h) = subst (λ j. Tells n j i y) (sym h.0) (subst (λ i. Tells n k i y) (sym h.1) (subst (λ y. Tells n k (length (m.workers k).records) y) h.2 new))

      new_there : (j : ℕ) → j ≡ k → (y : Record) → x ≡ y → nth (put k (with_record x (m.workers k)) m.workers j).records (length (m.workers k).records) ≡ Some y
      new_there j is y e = ap (λ w. nth (put k (with_record x (m.workers k)) m.workers w).records (length (m.workers k).records)) is ∙ record_new m k x ∙ ap Some e

      entry : (j p : ℕ) (e : Entry D) → e.instance ≡ j → (nth m.entries p ≡ Some e) ⊎ ((e.instance ≡ k) × (e.attempt ≡ suc (length (m.workers k).records)) × (x ≡ Step (suc p)))
          → (i : ℕ) × (e.attempt ≡ suc i) × (nth (put k (with_record x (m.workers k)) m.workers j).records i ≡ Some (Step (suc p)))
      entry j p e is (inl h) = let q = (a.each j).entries p e h is in (q.0, q.1, records_kept m k x j q.0 _ q.2)
      entry j p e is (inr h) = (length (m.workers k).records, h.1, new_there j (sym is ∙ h.0) (Step (suc p)) h.2)

      note : (j p : ℕ) (e : Note) → e.instance ≡ j → (nth m.notes p ≡ Some e) ⊎ ((e.instance ≡ k) × (e.attempt ≡ suc (length (m.workers k).records)) × (x ≡ Noted e.kind e.position) × (p ≡ length m.notes))
          → (i : ℕ) × (e.attempt ≡ suc i) × (nth (put k (with_record x (m.workers k)) m.workers j).records i ≡ Some (Noted e.kind e.position))
      note j p e is (inl h) = let q = (a.each j).notes p e h is in (q.0, q.1, records_kept m k x j q.0 _ q.2)
      note j p e is (inr h) = (length (m.workers k).records, h.1, new_there j (sym is ∙ h.0) (Noted e.kind e.position) h.2)

      new_note : (y : Note) (i : ℕ) → nth m.notes i ≡ Some y → y.instance ≡ k → y.attempt ≡ suc (length (m.workers k).records) → ⊥
      new_note y i h is attempt =
          let q = (a.each k).notes i y h is in
          let b = nth_below (m.workers k).records q.0 _ q.2 in
          let e = q.1 in absurd (omega (arith, b, e, attempt))

      one_note : (w i j : ℕ) (y z : Note) → (nth m.notes i ≡ Some y) ⊎ ((y.instance ≡ k) × (y.attempt ≡ suc (length (m.workers k).records)) × (x ≡ Noted y.kind y.position) × (i ≡ length m.notes))
          → (nth m.notes j ≡ Some z) ⊎ ((z.instance ≡ k) × (z.attempt ≡ suc (length (m.workers k).records)) × (x ≡ Noted z.kind z.position) × (j ≡ length m.notes))
          → y.instance ≡ w → z.instance ≡ w → y.attempt ≡ z.attempt → i ≡ j
      one_note w i j y z (inl h) (inl h') is is' attempt = (a.each w).notes_once i j y z h h' is is' attempt
      one_note w i j y z (inl h) (inr h') is is' attempt = absurd (new_note y i h (is ∙ sym is' ∙ h'.0) (attempt ∙ h'.1))
      one_note w i j y z (inr h) (inl h') is is' attempt = absurd (new_note z j h' (is' ∙ sym is ∙ h.0) (sym attempt ∙ h.1))
      one_note w i j y z (inr h) (inr h') is is' attempt = h.3 ∙ sym h'.3

      once : (j l i i' r o : ℕ) → WasOrNew j i (Down r o) → WasOrNew l i' (Down r o) → (j ≡ l) × (i ≡ i')
      once j l i i' r o (inl h) (inl h') = a.joint.once j l i i' r o h h'
      once j l i i' r o (inl h) (inr h') = absurd (down r o j i h'.2 h)
      once j l i i' r o (inr h) (inl h') = absurd (down r o l i' h.2 h')
      once j l i i' r o (inr h) (inr h') = (h.0 ∙ sym h'.0, h.1 ∙ sym h'.1)

      -- a Full that was told of a full journal, which stays as it is
      still_full : (j i q : ℕ) → WasOrNew j i (Full q) → q ≡ length n.entries
      still_full j i q (inl h) =
          let there = a.joint.full j i q h in
          let most : q ≡ R.steps = (a.each j).told i (Full q) h in
          there ∙ ap length (sym (g.full (sym there ∙ most)))
      still_full j i q (inr h) = full q h.2

      pub accounts_added : AccountsOf told_machine
      accounts_added = record {
        each = λ j. record {
          told = λ i y h. told j i y (records_were m k x j i y h);
          entries = λ p e h is. entry j p e is (entries p e h);
          notes = λ p e h is. note j p e is (notes p e h);
          notes_once = λ i i' y z h h'. one_note j i i' y z (notes i y h) (notes i' z h');
          ordered = λ i i' y z h h' lt. ordered j i i' y z (records_were m k x j i _ h) (records_were m k x j i' _ h') lt;
          bounded = bounded j (nat_eq j k);
          last = λ i q h. last j i q (nat_eq j k) refl h;
          number = λ i y h. number j i y (records_were m k x j i y h);
        };
        joint = record {
          once = λ j l i i' r o h h'. once j l i i' r o (records_were m k x j i _ h) (records_were m k x l i' _ h');
          full = λ j i q h. still_full j i q (records_were m k x j i _ h);
          room = room;
          contended = not_run;
        };
      }

    -- a note comes after each record that there is
    pub note_later : (m : Machine D) (k i q : ℕ) (kind : Kind) (y : Record) → length m.entries ≤ q → Tells m k i y → ComesAfter (Noted kind q) y
    note_later m k i q kind (Step n) h t = let b = nth_below m.entries t.0 t.1 t.3 in let e = t.2 in omega (arith, h, b, e)
    note_later m k i q kind (Noted kind' p) h t = tt
    note_later m k i q kind (Held r o) h t = tt
    note_later m k i q kind (Down r o) h t = tt
    note_later m k i q kind (Full n) h t = tt

    -- so does an entry
    pub step_later : (m : Machine D) (k i q : ℕ) (y : Record) → length m.entries ≤ q → Tells m k i y → ComesAfter (Step (suc q)) y
    step_later m k i q (Step n) h t = let b = nth_below m.entries t.0 t.1 t.3 in let e = t.2 in omega (arith, h, b, e)
    step_later m k i q (Noted kind' p) h t = let b = t.2.0 in omega (arith, h, b)
    step_later m k i q (Held r o) h t = tt
    step_later m k i q (Down r o) h t = tt
    step_later m k i q (Full n) h t = tt

    -- each entry is what its section does, wherever the accounts hold
    pub steps_are_sections : (m : Machine D) → AccountsOf m → StepsAreSections R (finished_of m)
    steps_are_sections m a p e h =
        let q = (a.each e.instance).entries p e h refl in let t = (a.each e.instance).told q.0 (Step (suc p)) q.2 in
        let same : p ≡ t.0 = (let u : suc p ≡ suc t.0 = t.2 in grind arith) in
        let entry : t.1 ≡ e = some_entry (sym t.3 ∙ ap (λ n. nth m.entries n) (sym same) ∙ h) in
        ap (λ n. outcome R (finished_of m) e.instance n p) q.1
        ∙ subst (λ n. outcome R (finished_of m) e.instance (suc q.0) n ≡ Next (at R (finished_of m) (suc n)) (R.printed t.1.change)) (sym same) t.6
        ∙ ap (λ d. Next (at R (finished_of m) (suc p)) (R.printed d.change)) entry
      where
        some_entry : {x y : Entry D} → Some x ≡ Some y → x ≡ y
        some_entry h = grind arith

    -- stopping changes neither the journal nor a record
    pub stopped_accounts : (m : Machine D) → AccountsOf m → AccountsOf (stopped m)
    stopped_accounts m a = accounts_kept m (stopped m) (same_journal m (stopped m) refl refl) refl refl (λ k. refl) a

    -- nothing has happened yet
    pub opened_accounts : AccountsOf opened
    opened_accounts = record {
      each = λ k. record {
        told = λ i x h. absurd (grind arith);
        entries = λ p e h. absurd (grind arith);
        notes = λ j e h. absurd (grind arith);
        notes_once = λ i j x y h. absurd (grind arith);
        ordered = λ i j x y h. absurd (grind arith);
        bounded = omega arith;
        last = λ i n h. absurd (grind arith);
        number = λ i x h. absurd (grind arith);
      };
      joint = record {
        once = λ k l i j r o h. absurd (grind arith);
        full = λ k i n h. absurd (grind arith);
        room = omega arith;
        contended = not_run;
      };
    }

-- What the records of all instances say together of a closed journal: from what each worker's relation to its board
-- says of it, and from what the boards say together. It is the same for the core and for threads.
use Rattle.std.proofs.Common.{◌≡◌, ◌≤◌, ◌<◌, ℕ, zero, suc, Bool, true, false, List, [], ◌∷◌, ◌++◌, length, Option, Some, None, refl, sym, ap, ◌∙◌, subst, arith, ◌⊎◌, inl, inr, lt-ltb}
use Rattle.std.proofs.lemmas.Bool.{ltb-true}
use Rattle.std.proofs.lemmas.Option.{same_Some}
use Rattle.std.specs.Prelude.{if◌then◌else◌, nat_eq, nat_lt}
use Rattle.pgo_base.specs.Data.{Data}
use Rattle.pgo_model.specs.Outcome.{Next}
use Rattle.pgo_model.specs.Machine.{Entry, Note, Record, Step, Noted, Held, Down, Full, among, put, nth, Finished}
use Rattle.pgo_model.specs.MachineLists.{nth_left, nth_below}
use Rattle.pgo_model.specs.MachineAccounts.{equal_or, append_none}
use Rattle.pgo_model.specs.Accounts.{journal, Accounts, Contended, JointAccounts, Told as MachineTold, IsAmong, ReachedBefore, ReachedJournal}
use Rattle.pgo_workers.specs.Walk.{Own, Walk, Stop, Touch, Again, At, Agrees, Within, visits, visits_from, ending}
use Rattle.pgo_workers.specs.View.{Refusal, IsHeld, IsFull, Taking, Told, World, places, state}
use Rattle.pgo_workers.specs.Worker.{Program, rules_of}
use Rattle.pgo_workers.specs.Sentences.{refusals, downs, Sub, SNone, SHere, SOver, flat, last_of, granted, Shows, EachTaking, Ends, held_last, Closes, Tells, AccountsOfOne, Past, History, Runs, IsOwn}
use Rattle.pgo_workers.specs.Holds as holds

-- a member of a list
abbrev pub Has : {A : Type 0} → List A → A → Type 0
Has [] x = ⊥
Has (y ∷ l) x = (y ≡ x) ⊎ Has l x

-- what a seat's board told by the end
pub record Seat : Type 0 where
  pub records : List Record
  pub told : Told

module _ {S D : Type 0} (W : World S D) (P : Program S D) (Reaches : ℕ → ℕ → Type 0) (Good : S → Type 0) where
  -- what one worker's relation to its board says of the closed journal, once its last attempt is over
  pub record OnLog (k : ℕ) (entries : List (Entry D)) (notes : List Note) (seat : Seat) : Type 0 where
    pub accounts : AccountsOfOne W P Reaches Good k entries notes seat.records
    pub refused : refusals seat.records ≡ seat.told.refused
    pub passed : Sub (downs seat.records) seat.told.passed
    pub history : History W P Reaches Good k entries seat.records seat.told.takes []

  -- what the boards say together of the closed journal
  pub record Boards (entries : List (Entry D)) (notes : List Note) (seats : ℕ → Seat) : Type 0 where
    pub room : length entries ≤ P.steps
    pub entries_numbered : (p : ℕ) (e : Entry D) → nth entries p ≡ Some e → e.instance < P.instances
    pub notes_numbered : (p : ℕ) (n : Note) → nth notes p ≡ Some n → n.instance < P.instances
    -- each answered take agrees with the state after some number of entries
    pub agrees : (k : ℕ) (m : Taking) → k < P.instances → Has (seats k).told.takes m → (p : ℕ) × (p ≤ length entries) × Agrees m.held (W.value (state W entries p)) × (W.own (state W entries p) k ≡ m.own)
    -- a refusal names one that took the resource, or reached the journal
    pub holder : (k r h : ℕ) → k < P.instances → Has (seats k).told.refused (IsHeld r h) → (r ≡ journal → ⊥) → (m : Taking) × Has (seats h).told.takes m × (m.resource ≡ r) × (m.refusal ≡ None)
    pub journal_holder : (k h : ℕ) → k < P.instances → Has (seats k).told.refused (IsHeld journal h)
        → ((p : ℕ) × (e : Entry D) × (nth entries p ≡ Some e) × (e.instance ≡ h)) ⊎ (((p : ℕ) × (n : Note) × (nth notes p ≡ Some n) × (n.instance ≡ h)) ⊎ ((n : ℕ) × Has (seats h).told.refused (IsFull n)))
    -- no pre-commit is passed twice
    pub once : (k l i j : ℕ) (x : ℕ × ℕ) → nth (seats k).told.passed i ≡ Some x → nth (seats l).told.passed j ≡ Some x → (k ≡ l) × (i ≡ j)
    -- there are no others
    pub no_others : (k : ℕ) → (k < P.instances → ⊥) → (seats k).records ≡ []

has_append : {A : Type 0} (a b : List A) (x : A) → Has (a ++ b) x → Has a x ⊎ Has b x
has_append [] b x h = inr h
has_append (y ∷ a) b x (inl h) = inl (inl h)
has_append (y ∷ a) b x (inr h) = go (has_append a b x h)
  where
    go : Has a x ⊎ Has b x → ((y ≡ x) ⊎ Has a x) ⊎ Has b x
    go (inl h) = inl (inr h)
    go (inr h) = inr h

has_left : {A : Type 0} (a b : List A) (x : A) → Has a x → Has (a ++ b) x
has_left [] b x h = absurd h
has_left (y ∷ a) b x (inl h) = inl h
has_left (y ∷ a) b x (inr h) = inr (has_left a b x h)

has_right : {A : Type 0} (a b : List A) (x : A) → Has b x → Has (a ++ b) x
has_right [] b x h = h
has_right (y ∷ a) b x h = inr (has_right a b x h)

-- a member of a list of lists stands in one of them
has_flat : {A : Type 0} (l : List (List A)) (x : A) → Has (flat l) x → (i : ℕ) × (ms : List A) × (nth l i ≡ Some ms) × Has ms x
has_flat [] x h = absurd h
has_flat {A} (a ∷ l) x h = go (has_append a (flat l) x h) (λ h. has_flat l x h)
  where
    go : Has a x ⊎ Has (flat l) x → (Has (flat l) x → (i : ℕ) × (ms : List A) × (nth l i ≡ Some ms) × Has ms x) → (i : ℕ) × (ms : List A) × (nth (a ∷ l) i ≡ Some ms) × Has ms x
    go (inl h) ih = (0, a, refl, h)
    go (inr h) ih = let q = ih h in (suc q.0, q.1, q.2, q.3)

flat_has : {A : Type 0} (l : List (List A)) (i : ℕ) (ms : List A) (x : A) → nth l i ≡ Some ms → Has ms x → Has (flat l) x
flat_has [] i ms x e h = absurd (grind (arith, e))
flat_has {A} (a ∷ l) zero ms x e h = has_left a (flat l) x (subst (λ (ms : List A). Has ms x) (sym (same_Some a ms e)) h)
flat_has (a ∷ l) (suc i) ms x e h = has_right a (flat l) x (flat_has l i ms x e h)

last_has : (ms : List Taking) (m : Taking) → last_of ms ≡ Some m → Has ms m
last_has [] m e = absurd (grind (arith, e))
last_has (x ∷ []) m e = inl (same_Some x m e)
last_has (x ∷ (y ∷ ms)) m e = inr (last_has (y ∷ ms) m e)

each_has : (Q : Taking → Type 0) (ms : List Taking) (m : Taking) → EachTaking Q ms → Has ms m → Q m
each_has Q [] m e h = absurd h
each_has Q (x ∷ ms) m e (inl h) = subst Q h e.0
each_has Q (x ∷ ms) m e (inr h) = each_has Q ms m e.1 h

granted_has : (ms : List Taking) (m : Taking) → Has ms m → m.refusal ≡ None → among m.resource (granted ms) ≡ true
granted_has [] m h e = absurd h
granted_has (x ∷ ms) m h e = go h (λ h. granted_has ms m h e)
  where
    self : nat_eq m.resource m.resource ≡ true
    self = grind arith

    ends : (b : Bool) → among m.resource (granted ms) ≡ true → (if b then true else among m.resource (granted ms)) ≡ true
    ends true q = refl
    ends false q = q

    over : (o : Option ℕ) → among m.resource (granted ms) ≡ true → among m.resource (elim o as (λ o. List ℕ) [ None ↦ x.resource ∷ granted ms | Some h ↦ granted ms ]) ≡ true
    over None q = ends (nat_eq m.resource x.resource) q
    over (Some h) q = q

    go : (x ≡ m) ⊎ Has ms m → (Has ms m → among m.resource (granted ms) ≡ true) → among m.resource (elim (x.refusal) as (λ o. List ℕ) [ None ↦ x.resource ∷ granted ms | Some h ↦ granted ms ]) ≡ true
    go (inl q) ih =
        ap (λ o. among m.resource (elim o as (λ o. List ℕ) [ None ↦ x.resource ∷ granted ms | Some h ↦ granted ms ])) (ap (λ (x : Taking). x.refusal) q ∙ e)
        ∙ ap (λ (x : Taking). if nat_eq m.resource x.resource then true else among m.resource (granted ms)) q ∙ ap (λ b. if b then true else among m.resource (granted ms)) self
    go (inr q) ih = over x.refusal (ih q)

nth_there : {A B : Type 0} (a : List A) (b : List B) (i : ℕ) (x : A) → nth a i ≡ Some x → length b ≡ length a → (y : B) × (nth b i ≡ Some y)
nth_there [] b i x h e = absurd (grind (arith, h))
nth_there (z ∷ a) [] i x h e = absurd (omega (arith, e))
nth_there (z ∷ a) (y ∷ b) zero x h e = (y, refl)
nth_there (z ∷ a) (y ∷ b) (suc i) x h e = nth_there a b i x h (omega (arith, e))

-- where a member stands
among_at : (r : ℕ) (l : List ℕ) → among r l ≡ true → (n : ℕ) × (nth l n ≡ Some r)
among_at r [] h = absurd (grind (arith, h))
among_at r (x ∷ l) h = go (nat_eq r x) refl h (λ h. among_at r l h)
  where
    go : (b : Bool) → nat_eq r x ≡ b → (if b then true else among r l) ≡ true → (among r l ≡ true → (n : ℕ) × (nth l n ≡ Some r)) → (n : ℕ) × (nth (x ∷ l) n ≡ Some r)
    go true e h ih = (0, ap Some (sym ((equal_or r x true e).0 refl)))
    go false e h ih = let q = ih h in (suc q.0, q.1)

-- the refusals of records, and the records of refusals
refusal_has : (xs : List Record) (i r h : ℕ) → nth xs i ≡ Some (Held r h) → Has (refusals xs) (IsHeld r h)
refusal_has [] i r h e = absurd (grind (arith, e))
refusal_has (x ∷ xs) zero r h e = subst (λ x. Has (refusals (x ∷ xs)) (IsHeld r h)) (sym (same_Some x (Held r h) e)) (inl refl)
refusal_has (Step n ∷ xs) (suc i) r h e = refusal_has xs i r h e
refusal_has (Noted kind p ∷ xs) (suc i) r h e = refusal_has xs i r h e
refusal_has (Held q g ∷ xs) (suc i) r h e = inr (refusal_has xs i r h e)
refusal_has (Down q o ∷ xs) (suc i) r h e = refusal_has xs i r h e
refusal_has (Full n ∷ xs) (suc i) r h e = inr (refusal_has xs i r h e)

not_full : (r h n : ℕ) → IsHeld r h ≡ IsFull n → ⊥
not_full r h n e = let x : true ≡ false = ap (λ x. is_held x) e in grind (arith, x)
  where
    is_held : Refusal → Bool
    is_held (IsHeld r h) = true
    is_held (IsFull n) = false

full_has : (xs : List Record) (n : ℕ) → Has (refusals xs) (IsFull n) → (i : ℕ) × (m : ℕ) × (nth xs i ≡ Some (Full m))
full_has [] n h = absurd h
full_has (Step k ∷ xs) n h = let q = full_has xs n h in (suc q.0, q.1, q.2)
full_has (Noted kind p ∷ xs) n h = let q = full_has xs n h in (suc q.0, q.1, q.2)
full_has (Held r g ∷ xs) n (inl h) = absurd (not_full r g n h)
full_has (Held r g ∷ xs) n (inr h) = let q = full_has xs n h in (suc q.0, q.1, q.2)
full_has (Down r o ∷ xs) n h = let q = full_has xs n h in (suc q.0, q.1, q.2)
full_has (Full m ∷ xs) n (inl h) = (0, m, refl)
full_has (Full m ∷ xs) n (inr h) = let q = full_has xs n h in (suc q.0, q.1, q.2)

-- where a member of a sublist stands; two stand apart
sub_at : {A : Type 0} (xs ys : List A) (i : ℕ) (x : A) → Sub xs ys → nth xs i ≡ Some x → (a : ℕ) × (nth ys a ≡ Some x)
sub_at xs ys i x (SNone _) h = absurd (grind (arith, h))
sub_at xs ys zero x (SHere z {xs = a} {ys = b} s) h = (0, h)
sub_at xs ys (suc i) x (SHere z {xs = a} {ys = b} s) h = let q = sub_at a b i x s h in (suc q.0, q.1)
sub_at xs ys i x (SOver z {xs = a} {ys = b} s) h = let q = sub_at a b i x s h in (suc q.0, q.1)

sub_two : {A : Type 0} (xs ys : List A) (i j : ℕ) (x : A) → Sub xs ys → nth xs i ≡ Some x → nth xs j ≡ Some x → i < j → (a b : ℕ) × (a < b) × (nth ys a ≡ Some x) × (nth ys b ≡ Some x)
sub_two xs ys i j x (SNone _) h g l = absurd (grind (arith, h))
sub_two xs ys i zero x (SHere z {xs = a} {ys = b} s) h g l = absurd (omega (arith, l))
sub_two xs ys zero (suc j) x (SHere z {xs = a} {ys = b} s) h g l = let q = sub_at a b j x s g in (0, suc q.0, omega arith, h, q.1)
sub_two xs ys (suc i) (suc j) x (SHere z {xs = a} {ys = b} s) h g l = let q = sub_two a b i j x s h g (omega (arith, l)) in (suc q.0, suc q.1, (let d = q.2 in omega (arith, d)), q.3, q.4)
sub_two xs ys i j x (SOver z {xs = a} {ys = b} s) h g l = let q = sub_two a b i j x s h g l in (suc q.0, suc q.1, (let d = q.2 in omega (arith, d)), q.3, q.4)

down_at : (xs : List Record) (i r o : ℕ) → nth xs i ≡ Some (Down r o) → (a : ℕ) × (nth (downs xs) a ≡ Some (r, o))
down_at [] i r o e = absurd (grind (arith, e))
down_at (x ∷ xs) zero r o e = subst (λ x. (a : ℕ) × (nth (downs (x ∷ xs)) a ≡ Some (r, o))) (sym (same_Some x (Down r o) e)) (0, refl)
down_at (Step n ∷ xs) (suc i) r o e = down_at xs i r o e
down_at (Noted kind p ∷ xs) (suc i) r o e = down_at xs i r o e
down_at (Held q g ∷ xs) (suc i) r o e = down_at xs i r o e
down_at (Down q p ∷ xs) (suc i) r o e = let z = down_at xs i r o e in (suc z.0, z.1)
down_at (Full n ∷ xs) (suc i) r o e = down_at xs i r o e

down_two : (xs : List Record) (i j r o : ℕ) → nth xs i ≡ Some (Down r o) → nth xs j ≡ Some (Down r o) → i < j → (a b : ℕ) × (a < b) × (nth (downs xs) a ≡ Some (r, o)) × (nth (downs xs) b ≡ Some (r, o))
down_two [] i j r o e f l = absurd (grind (arith, e))
down_two (x ∷ xs) i zero r o e f l = absurd (omega (arith, l))
down_two (x ∷ xs) zero (suc j) r o e f l =
    subst (λ x. (a b : ℕ) × (a < b) × (nth (downs (x ∷ xs)) a ≡ Some (r, o)) × (nth (downs (x ∷ xs)) b ≡ Some (r, o))) (sym (same_Some x (Down r o) e)) (let z = down_at xs j r o f in (0, suc z.0, omega arith, refl, z.1))
down_two (Step n ∷ xs) (suc i) (suc j) r o e f l = down_two xs i j r o e f (omega (arith, l))
down_two (Noted kind p ∷ xs) (suc i) (suc j) r o e f l = down_two xs i j r o e f (omega (arith, l))
down_two (Held q g ∷ xs) (suc i) (suc j) r o e f l = down_two xs i j r o e f (omega (arith, l))
down_two (Down q p ∷ xs) (suc i) (suc j) r o e f l = let z = down_two xs i j r o e f (omega (arith, l)) in (suc z.0, suc z.1, (let d = z.2 in omega (arith, d)), z.3, z.4)
down_two (Full n ∷ xs) (suc i) (suc j) r o e f l = down_two xs i j r o e f (omega (arith, l))

-- in a trace that has r behind p, r and what p has
at_middle : (p q : List ℕ) (r : ℕ) → nth (p ++ (r ∷ q)) (length p) ≡ Some r
at_middle [] q r = refl
at_middle (x ∷ p) q r = at_middle p q r

not_in_front : (p q : List ℕ) (r j n : ℕ) → among r p ≡ false → n < length p → j ≤ n → nth (p ++ q) j ≡ Some r → ⊥
not_in_front [] q r j n a l le h = omega (arith, l)
not_in_front (x ∷ p) q r zero n a l le h = let e : nat_eq r x ≡ true = grind (arith, h) in let y : true ≡ false = sym (ap (λ b. if b then true else among r p) e) ∙ a in grind (arith, y)
not_in_front (x ∷ p) q r (suc j) zero a l le h = omega (arith, le)
not_in_front (x ∷ p) q r (suc j) (suc n) a l le h = not_in_front p q r j n (go (nat_eq r x) a) (omega (arith, l)) (omega (arith, le)) h
  where
    go : (b : Bool) → (if b then true else among r p) ≡ false → among r p ≡ false
    go true e = absurd (grind (arith, e))
    go false e = e

neither : (i j : ℕ) → nat_lt i j ≡ false → nat_lt j i ≡ false → i ≡ j
neither i j e f = grind (arith, e, f)

not_below : (k n : ℕ) → k < n → nat_lt k n ≡ false → ⊥
not_below k n l e = let t : nat_lt k n ≡ true = lt-ltb k n l in let y : true ≡ false = sym t ∙ e in grind (arith, y)

within_from : (Q : ℕ → Type 0) (T : Own → Type 0) (w : Walk) (s f : ℕ → Data) (n r : ℕ) → Within Q T w → nth (visits_from s w f) n ≡ Some r → Q r
within_from Q T (Stop e) s f n r w h = absurd (grind (arith, h))
within_from Q T (Touch q leave rest) s f zero r w h = subst Q (same_Some q r h) w.0
within_from Q T (Touch q leave rest) s f (suc n) r w h = within_from Q T (rest (f q)) s (put q (leave (f q)) f) n r (w.1 (f q)) h
within_from Q T (Again v) s f n r w h = within_from Q T v s s n r w h

within_at : (Q : ℕ → Type 0) (T : Own → Type 0) (w : Walk) (f : ℕ → Data) (n r : ℕ) → Within Q T w → nth (visits w f) n ≡ Some r → Q r
within_at Q T w f n r h e = within_from Q T w f f n r h e

reached_among : (y : Record) (r : ℕ) (trace : List ℕ) → ReachedBefore y r trace → IsAmong r trace
reached_among (Step n) r trace h = h
reached_among (Noted kind p) r trace h = h
reached_among (Down q o) r trace h = h
reached_among (Full n) r trace h = h
reached_among (Held q g) r trace (inl h) = h.1
reached_among (Held q g) r trace (inr h) = (h.1.0, h.1.1)

module _ {S D : Type 0} (W : World S D) (P : Program S D) (Reaches : ℕ → ℕ → Type 0) (Good : S → Type 0) (runs : Runs W P Reaches Good)
    (entries : List (Entry D)) (notes : List Note) (seats : ℕ → Seat)
    (boards : Boards W P Reaches Good entries notes seats)
    (workers : (k : ℕ) → k < P.instances → OnLog W P Reaches Good k entries notes (seats k))
    (good : (p : ℕ) → p ≤ length entries → Good (state W entries p))
    (apart : (k r : ℕ) → Reaches k r → r ≡ journal → ⊥) where
  abbrev pub all : Finished D
  all = record { entries = entries; notes = notes; records = λ k. (seats k).records }

  -- who has a record is an instance
  numbered : (k i : ℕ) (x : Record) → nth (seats k).records i ≡ Some x → k < P.instances
  numbered k i x h = go (nat_lt k P.instances) refl
    where
      go : (b : Bool) → nat_lt k P.instances ≡ b → k < P.instances
      go true e = ltb-true k P.instances e
      go false e = let z : nth [] i ≡ Some x = ap (λ l. nth l i) (sym (boards.no_others k (λ l. let t : nat_lt k P.instances ≡ true = lt-ltb k P.instances l in let y : true ≡ false = sym t ∙ e in grind (arith, y)))) ∙ h in absurd (grind (arith, z))

  -- the attempt's own part of the answered takes
  taken_in : (k i : ℕ) (x : Record) (l : k < P.instances) → nth (seats k).records i ≡ Some x → (ms : List Taking) × (nth (workers k l).history.attempts i ≡ Some ms)
  taken_in k i x l h = nth_there (seats k).records (workers k l).history.attempts i x h (workers k l).history.as_many

  member_of : (k i : ℕ) (l : k < P.instances) (ms : List Taking) (m : Taking) → nth (workers k l).history.attempts i ≡ Some ms → Has ms m → Has (seats k).told.takes m
  member_of k i l ms m h e = subst (λ ts. Has ts m) (sym ((workers k l).history.takes ∙ at)) (flat_has (workers k l).history.attempts i ms m h e)
    where
      at : flat (workers k l).history.attempts ++ [] ≡ flat (workers k l).history.attempts
      at = sym (append_none (flat (workers k l).history.attempts))

  -- the trace of an attempt on a state that agrees with an answered take of it
  trace_there : (k i p : ℕ) (own : Own) (m : Taking) → p ≤ length entries → W.own (state W entries p) k ≡ m.own → m.own ≡ own → (P.sect k (suc i) (state W entries p)).trace ≡ visits (P.tree k (suc i) own) (W.value (state W entries p))
  trace_there k i p own m b o e = runs.trace k (suc i) (state W entries p) (good p b) ∙ ap (λ o. visits (P.tree k (suc i) o) (W.value (state W entries p))) (o ∙ e)

  -- an answered take of an attempt: on some state its trace has the resource
  shown : (k i : ℕ) (x : Record) (ms : List Taking) (m : Taking) → Past W P Reaches Good k entries i x ms → k < P.instances → Has (seats k).told.takes m → Has ms m
      → (p : ℕ) × (p ≤ length entries) × IsAmong m.resource (P.sect k (suc i) (state W entries p)).trace
  shown k i x ms m past l told h =
      let a = boards.agrees k m l told in let q = each_has (λ m. (m.own ≡ past.own) × Shows (P.tree k (suc i) past.own) m) ms m past.members h in
      let s = q.1.2 (W.value (state W entries a.0)) a.2 in
      let t = trace_there k i a.0 past.own m a.1 a.3 q.0 in
      (a.0, a.1, (length s.0, ap (λ l. nth l (length s.0)) (t ∙ s.2) ∙ at_middle s.0 s.1 m.resource))

  -- the holder's attempt reached it
  reached_by : (h j r : ℕ) (y : Record) (ms : List Taking) (m : Taking) (l : h < P.instances) → nth (seats h).records j ≡ Some y → nth (workers h l).history.attempts j ≡ Some ms → Has ms m → m.resource ≡ r → m.refusal ≡ None
      → (q : ℕ) × (q ≤ length entries) × ReachedBefore y r (P.sect h (suc j) (state W entries q)).trace
  reached_by h j r y ms m l rec at has named granted_ = go y past.closes rec
    where
      past : Past W P Reaches Good h entries j y ms
      past = (workers h l).history.past j y ms rec at

      plain : (q : ℕ) × (q ≤ length entries) × IsAmong r (P.sect h (suc j) (state W entries q)).trace
      plain = let s = shown h j y ms m past l (member_of h j l ms m at has) has in (s.0, s.1, subst (λ r. IsAmong r (P.sect h (suc j) (state W entries s.0)).trace) named s.2)

      go : (y : Record) → Closes (P.tree h (suc j) past.own) ms y → nth (seats h).records j ≡ Some y → (q : ℕ) × (q ≤ length entries) × ReachedBefore y r (P.sect h (suc j) (state W entries q)).trace
      go (Step n) c e = plain
      go (Noted kind p) c e = plain
      go (Down q o) c e = plain
      go (Full n) c e = plain
      go (Held q g) (inl c) e = (plain.0, plain.1, inl (c, plain.2))
      go (Held q g) (inr c) e =
          let last = c.0 in let there = last_has ms last c.1 in
          let a = boards.agrees h last l (member_of h j l ms last at there) in
          let s = each_has (λ m. (m.own ≡ past.own) × Shows (P.tree h (suc j) past.own) m) ms last past.members there in
          let others : List ℕ = s.1.0 in
          let v = s.1.2 (W.value (state W entries a.0)) a.2 in
          let t = trace_there h j a.0 past.own last a.1 a.3 s.0 ∙ v.2 ∙ ap (λ r. v.0 ++ (r ∷ v.1)) c.2 in
          let are : places last.held ≡ others = s.1.1.0 ∙ ap (λ o. elim o as (λ o. List ℕ) [ None ↦ others ++ (last.resource ∷ []) | Some h ↦ others ]) c.3 in
          let mine : among r others ≡ true = ap (λ i. among i others) (sym named) ∙ ap (among m.resource) (sym (c.4 ∙ are)) ∙ granted_has ms m has granted_ in
          let before = among_at r v.0 (holds.accessed r v.0 [] (ap (among r) v.3 ∙ mine) (λ z. let y : true ≡ false = sym z in absurd (grind (arith, y)))) in
          let new : among q v.0 ≡ false = (holds.not_accessed q v.0 [] (ap (among q) v.3 ∙ ap (λ i. among i others) (sym c.2) ∙ s.1.1.1)).0 in
          let len = nth_below v.0 before.0 r before.1 in (
            a.0,
            a.1,
            inr (
              (length v.0, ap (λ l. nth l (length v.0)) t ∙ at_middle v.0 v.1 q),
              (before.0, ap (λ l. nth l before.0) t ∙ nth_left v.0 (q ∷ v.1) before.0 r before.1, λ i le z. not_in_front v.0 (q ∷ v.1) q i before.0 new len le (ap (λ l. nth l i) (sym t) ∙ z)),
            ),
          )

  -- the holder's attempt that took the resource
  holder_of : (r h : ℕ) (l : h < P.instances) (m : Taking) → Has (seats h).told.takes m → m.resource ≡ r → m.refusal ≡ None
      → (j : ℕ) × (y : Record) × (nth (seats h).records j ≡ Some y) × ((q : ℕ) × (q ≤ length entries) × ReachedBefore y r (P.sect h (suc j) (state W entries q)).trace)
  holder_of r h l m told named granted_ =
      let f = has_flat (workers h l).history.attempts m (subst (λ ts. Has ts m) ((workers h l).history.takes ∙ sym (append_none (flat (workers h l).history.attempts))) told) in
      let y = nth_there (workers h l).history.attempts (seats h).records f.0 f.1 f.2 (sym (workers h l).history.as_many) in
      (f.0, y.0, y.1, reached_by h f.0 r y.0 f.1 m l y.1 f.2 f.3 named granted_)

  -- on some state that agrees with its last take, an attempt that has ended has an end
  next_at : (k i : ℕ) (x : Record) (ms : List Taking) → k < P.instances → ((m : Taking) → Has ms m → Has (seats k).told.takes m)
      → (past : Past W P Reaches Good k entries i x ms) → Ends (P.tree k (suc i) past.own) (held_last ms)
      → (p : ℕ) × (t : S) × (ps : List Data) × (p ≤ length entries) × ((P.sect k (suc i) (state W entries p)).end ≡ Next t ps) × Agrees (held_last ms) (W.value (state W entries p)) × (W.own (state W entries p) k ≡ past.own)
  next_at k i x ms l told past ends = go (last_of ms) refl
    where
      at : (p : ℕ) → p ≤ length entries → Agrees (held_last ms) (W.value (state W entries p)) → W.own (state W entries p) k ≡ past.own
          → (p : ℕ) × (t : S) × (ps : List Data) × (p ≤ length entries) × ((P.sect k (suc i) (state W entries p)).end ≡ Next t ps) × Agrees (held_last ms) (W.value (state W entries p)) × (W.own (state W entries p) k ≡ past.own)
      at p b a o =
          let e = ends (W.value (state W entries p)) a in
          (p, _, e.1, b, runs.next k (suc i) (state W entries p) e.0 e.1 (good p b) l (runs.done k (state W entries p) (good p b) ∙ ap (P.is_done k) o ∙ past.not_done) (ap (λ o. ending (P.tree k (suc i) o) (W.value (state W entries p))) o ∙ e.2), a, o)

      go : (m : Option Taking) → last_of ms ≡ m → (p : ℕ) × (t : S) × (ps : List Data) × (p ≤ length entries) × ((P.sect k (suc i) (state W entries p)).end ≡ Next t ps) × Agrees (held_last ms) (W.value (state W entries p)) × (W.own (state W entries p) k ≡ past.own)
      go None e = let t = past.then_own in at t.0 t.1 (subst (λ l. Agrees l (W.value (state W entries t.0))) (ap (λ o. elim o as (λ o. List At) [ None ↦ [] | Some m ↦ m.held ]) (sym e)) tt) (t.2 good)
      go (Some m) e =
          let there = last_has ms m e in let a = boards.agrees k m l (told m there) in
          let q = each_has (λ m. (m.own ≡ past.own) × Shows (P.tree k (suc i) past.own) m) ms m past.members there in
          at a.0 a.1 (subst (λ l. Agrees l (W.value (state W entries a.0))) (ap (λ o. elim o as (λ o. List At) [ None ↦ [] | Some m ↦ m.held ]) (sym e)) a.2) (a.3 ∙ q.0)

  reached_journal : (h : ℕ) → h < P.instances
      → (((p : ℕ) × (e : Entry D) × (nth entries p ≡ Some e) × (e.instance ≡ h)) ⊎ (((p : ℕ) × (n : Note) × (nth notes p ≡ Some n) × (n.instance ≡ h)) ⊎ ((n : ℕ) × Has (seats h).told.refused (IsFull n))))
      → (j : ℕ) × (y : Record) × (nth (seats h).records j ≡ Some y) × ReachedJournal y
  reached_journal h l (inl e) = let q = (workers h l).accounts.steps e.0 e.1 e.2 e.3 in (q.0, Step (suc e.0), q.2, tt)
  reached_journal h l (inr (inl n)) = let q = (workers h l).accounts.notes n.0 n.1 n.2 n.3 in (q.0, Noted n.1.kind n.1.position, q.2, tt)
  reached_journal h l (inr (inr f)) = let q = full_has (seats h).records f.0 (subst (λ l. Has l (IsFull f.0)) (sym (workers h l).refused) f.1) in (q.0, Full q.1, q.2, tt)

  refusal_in : (k i r h : ℕ) (l : k < P.instances) → nth (seats k).records i ≡ Some (Held r h) → Has (seats k).told.refused (IsHeld r h)
  refusal_in k i r h l e = subst (λ l. Has l (IsHeld r h)) (workers k l).refused (refusal_has (seats k).records i r h e)

  -- a holder is an instance
  holder_below : (k i r h : ℕ) (l : k < P.instances) → nth (seats k).records i ≡ Some (Held r h) → h < P.instances
  holder_below k i r h l e = subst (λ n. h < n) runs.instances ((workers k l).accounts.told i (Held r h) e).1

  held_journal : (k i r h : ℕ) (l : k < P.instances) → nth (seats k).records i ≡ Some (Held r h) → r ≡ journal → (j : ℕ) × (y : Record) × (nth (seats h).records j ≡ Some y) × ReachedJournal y
  held_journal k i r h l e is = let q = boards.journal_holder k h l (subst (λ r. Has (seats k).told.refused (IsHeld r h)) is (refusal_in k i r h l e)) in reached_journal h (holder_below k i r h l e) q

  held_resource : (k i r h : ℕ) (l : k < P.instances) → nth (seats k).records i ≡ Some (Held r h) → (r ≡ journal → ⊥)
      → (j : ℕ) × (y : Record) × (nth (seats h).records j ≡ Some y) × ((q : ℕ) × (q ≤ length entries) × ReachedBefore y r (P.sect h (suc j) (state W entries q)).trace)
  held_resource k i r h l e not = let m = boards.holder k r h l (refusal_in k i r h l e) not in holder_of r h (holder_below k i r h l e) m.0 m.1 m.2 m.3

  own_reach : (k i r h : ℕ) (l : k < P.instances) → nth (seats k).records i ≡ Some (Held r h) → (r ≡ journal → ⊥) → (p : ℕ) × (p ≤ length entries) × IsAmong r (P.sect k (suc i) (state W entries p)).trace
  own_reach k i r h l e not = go past.closes
    where
      ms : (ms : List Taking) × (nth (workers k l).history.attempts i ≡ Some ms)
      ms = taken_in k i (Held r h) l e

      past : Past W P Reaches Good k entries i (Held r h) ms.0
      past = (workers k l).history.past i (Held r h) ms.0 e ms.1

      go : Closes (P.tree k (suc i) past.own) ms.0 (Held r h) → (p : ℕ) × (p ≤ length entries) × IsAmong r (P.sect k (suc i) (state W entries p)).trace
      go (inl c) = absurd (not c)
      go (inr c) =
          let there = last_has ms.0 c.0 c.1 in let s = shown k i (Held r h) ms.0 c.0 past l (member_of k i l ms.0 c.0 ms.1 there) there in
          (s.0, s.1, subst (λ r. IsAmong r (P.sect k (suc i) (state W entries s.0)).trace) c.2 s.2)

  -- the attempt reaches what it was refused, and so does a recorded attempt of the holder
  pub contended : Contended (rules_of W P) all
  contended = (
    λ k i r h e. held k i r h (numbered k i (Held r h) e) e ((workers k (numbered k i (Held r h) e)).accounts.told i (Held r h) e).2,
    λ k i r o e. let l = numbered k i (Down r o) e in let ms = taken_in k i (Down r o) l e in down k i r o l ms.0 ms.1 ((workers k l).history.past i (Down r o) ms.0 e ms.1),
    λ k i n e. let l = numbered k i (Full n) e in let ms = taken_in k i (Full n) l e in full k i n l ms.0 ms.1 ((workers k l).history.past i (Full n) ms.0 e ms.1),
  )
    where
      held : (k i r h : ℕ) (l : k < P.instances) → nth (seats k).records i ≡ Some (Held r h) → Reaches k r ⊎ (r ≡ journal)
          → (j : ℕ) × (y : Record) × (nth (seats h).records j ≡ Some y)
          × (((r ≡ journal) × ReachedJournal y)
          ⊎ ((p q : ℕ) × (p ≤ length entries) × (q ≤ length entries) × IsAmong r (P.sect k (suc i) (state W entries p)).trace × ReachedBefore y r (P.sect h (suc j) (state W entries q)).trace))
      held k i r h l e (inr is) = let q = held_journal k i r h l e is in (q.0, q.1, q.2, inl (is, q.3))
      held k i r h l e (inl reach) =
          let not = apart k r reach in let q = held_resource k i r h l e not in let o = own_reach k i r h l e not in
          (q.0, q.1, q.2, inr (o.0, q.3.0, o.1, q.3.1, o.2, q.3.2))

      reached : (k i r p : ℕ) (own : Own) → p ≤ length entries → W.own (state W entries p) k ≡ own → among r (visits (P.tree k (suc i) own) (W.value (state W entries p))) ≡ true → IsAmong r (P.sect k (suc i) (state W entries p)).trace
      reached k i r p own below is there =
          let trace : (P.sect k (suc i) (state W entries p)).trace ≡ visits (P.tree k (suc i) own) (W.value (state W entries p)) =
          runs.trace k (suc i) (state W entries p) (good p below) ∙ ap (λ o. visits (P.tree k (suc i) o) (W.value (state W entries p))) is in
          among_at r (P.sect k (suc i) (state W entries p)).trace (ap (among r) trace ∙ there)

      down : (k i r o : ℕ) (l : k < P.instances) (ms : List Taking) → nth (workers k l).history.attempts i ≡ Some ms → Past W P Reaches Good k entries i (Down r o) ms
          → (p : ℕ) × (t : S) × (ps : List Data) × (p ≤ length entries) × ((P.sect k (suc i) (state W entries p)).end ≡ Next t ps) × IsAmong r (P.sect k (suc i) (state W entries p)).trace
      down k i r o l ms at past =
          let q = next_at k i (Down r o) ms l (λ m h. member_of k i l ms m at h) past past.closes.0 in
          (q.0, q.1, q.2, q.3, q.4, reached k i r q.0 past.own q.3 q.6 (past.closes.2 (W.value (state W entries q.0)) q.5))

      full : (k i n : ℕ) (l : k < P.instances) (ms : List Taking) → nth (workers k l).history.attempts i ≡ Some ms → Past W P Reaches Good k entries i (Full n) ms
          → (p : ℕ) × (t : S) × (ps : List Data) × (p ≤ length entries) × ((P.sect k (suc i) (state W entries p)).end ≡ Next t ps)
      full k i n l ms at past = let q = next_at k i (Full n) ms l (λ m h. member_of k i l ms m at h) past past.closes in (q.0, q.1, q.2, q.3, q.4)

  -- the accounts of each
  pub joined : (k : ℕ) → Accounts (rules_of W P) Reaches true all k
  joined k = record {
    told = λ i x e. let l = numbered k i x e in told k i x l e ((workers k l).accounts.told i x e);
    entries = λ p e h is. (workers k (subst (λ k. k < P.instances) is (boards.entries_numbered p e h))).accounts.steps p e h is;
    notes = λ p n h is. (workers k (subst (λ k. k < P.instances) is (boards.notes_numbered p n h))).accounts.notes p n h is;
    notes_once = λ i j x y h g p q a. (workers k (subst (λ k. k < P.instances) p (boards.notes_numbered i x h))).accounts.notes_once i j x y h g p q a;
    ordered = λ i j x y h g l. (workers k (numbered k i x h)).accounts.ordered i j x y h g l;
    bounded = bounded k;
    last = λ i n h. (workers k (numbered k i (Full n) h)).accounts.last i n h;
    number = numbered k;
  }
    where
      told : (k i : ℕ) (x : Record) (l : k < P.instances) → nth (seats k).records i ≡ Some x → Tells W P Reaches Good k entries notes i x → MachineTold (rules_of W P) Reaches true all k i x
      told k i (Step n) l h (p, e, a, b, c, d, o) = (p, e, a, b, c, d, o (good p (let z = nth_below entries p e b in omega (arith, z))))
      told k i (Noted kind p) l h (j, a, b, o) = (j, a, (b, o (good p b)))
      told k i (Held r h) l e (d, b, inl reach) =
          let not = apart k r reach in let q = held_resource k i r h l e not in let z = q.3 in
          (d, holder_below k i r h l e, inl (reach, reach_of h q.0 r z.0 z.1 (reached_among q.1 r (P.sect h (suc q.0) (state W entries z.0)).trace z.2)))
        where
          reach_of : (h j r q : ℕ) → q ≤ length entries → IsAmong r (P.sect h (suc j) (state W entries q)).trace → Reaches h r
          reach_of h j r q b a =
              within_at (Reaches h) (IsOwn W h) (P.tree h (suc j) (W.own (state W entries q) h)) (W.value (state W entries q)) a.0 r (runs.within h (suc j) (W.own (state W entries q) h) (runs.own_is h (state W entries q)))
              (ap (λ l. nth l a.0) (sym (runs.trace h (suc j) (state W entries q) (good q b))) ∙ a.1)
      told k i (Held r h) l e (d, b, inr is) = (d, holder_below k i r h l e, inr (is, refl))
      told k i (Down r o) l h t = t
      told k i (Full n) l h t = t.0

      bounded : (k : ℕ) → length (seats k).records ≤ P.attempts
      bounded k = go (nat_lt k P.instances) refl
        where
          go : (b : Bool) → nat_lt k P.instances ≡ b → length (seats k).records ≤ P.attempts
          go true e = (workers k (ltb-true k P.instances e)).accounts.bounded
          go false e = let n = ap length (boards.no_others k (λ l. not_below k P.instances l e)) in omega (arith, n)

  -- the accounts of all together
  pub together : JointAccounts (rules_of W P) true all
  together = record {
    once = λ k l i j r o h g. once k l i j r o (numbered k i (Down r o) h) (numbered l j (Down r o) g) h g;
    full = λ k i n h. let t = (workers k (numbered k i (Full n) h)).accounts.told i (Full n) h in t.0 ∙ sym t.1;
    room = boards.room;
    contended = λ _. contended;
  }
    where
      once : (k l i j r o : ℕ) → k < P.instances → l < P.instances → nth (seats k).records i ≡ Some (Down r o) → nth (seats l).records j ≡ Some (Down r o) → (k ≡ l) × (i ≡ j)
      once k l i j r o p q h g =
          let a = passed_at k i r o p h in let b = passed_at l j r o q g in let e = (boards.once k l a.0 b.0 (r, o) a.1 b.1).0 in
          (e, same_place k i j r o p h (ap (λ k. nth (seats k).records j) e ∙ g))
        where
          passed_at : (k i r o : ℕ) → k < P.instances → nth (seats k).records i ≡ Some (Down r o) → (a : ℕ) × (nth (seats k).told.passed a ≡ Some (r, o))
          passed_at k i r o p h = let d = down_at (seats k).records i r o h in sub_at (downs (seats k).records) (seats k).told.passed d.0 (r, o) (workers k p).passed d.1

          apart_two : (k i j r o : ℕ) → k < P.instances → nth (seats k).records i ≡ Some (Down r o) → nth (seats k).records j ≡ Some (Down r o) → i < j → ⊥
          apart_two k i j r o p h g l =
              let d = down_two (seats k).records i j r o h g l in let z = sub_two (downs (seats k).records) (seats k).told.passed d.0 d.1 (r, o) (workers k p).passed d.3 d.4 d.2 in
              let e = (boards.once k k z.0 z.1 (r, o) z.3 z.4).1 in let f = z.2 in omega (arith, e, f)

          same_place : (k i j r o : ℕ) → k < P.instances → nth (seats k).records i ≡ Some (Down r o) → nth (seats k).records j ≡ Some (Down r o) → i ≡ j
          same_place k i j r o p h g = go (nat_lt i j) refl (nat_lt j i) refl
            where
              go : (a : Bool) → nat_lt i j ≡ a → (b : Bool) → nat_lt j i ≡ b → i ≡ j
              go true e b f = absurd (apart_two k i j r o p h g (ltb-true i j e))
              go false e true f = absurd (apart_two k j i r o p g h (ltb-true j i f))
              go false e false f = neither i j e f

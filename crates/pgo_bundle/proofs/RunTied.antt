-- The log of a run is tied, where its accounts tell what became of each attempt.
use Rattle.std.proofs.Common.{◌≡◌, ◌≤◌, ◌<◌, ◌+◌, ℕ, zero, suc, Bool, true, false, nat_eq, List, [], ◌∷◌, length, map, Option, Some, None, refl, ap, sym, subst, ◌∙◌, arith}
use Rattle.std.specs.Prelude.{codes, if◌then◌else◌}
use Rattle.std.proofs.lemmas.Bool.{eq-eqb, eqb-true}
use Rattle.pgo_model.specs.Outcome.{Kind}
use Rattle.pgo_model.specs.System.{System, Member, Resource}
use Rattle.pgo_model.specs.Machine.{Entry, Note, Record, Step, Noted, Held, Down, Full, Finished, nth}
use Rattle.pgo_model.specs.Accounts.{Accounts, ComesAfter, journal}
use Rattle.pgo_model.specs.Core.{Settings, Reaches, end_of, rules_of}
use Rattle.pgo_model.specs.Log.{Effect}
use Rattle.pgo_bundle.specs.Accounts.{AttemptLine, StepLine, NoteLine, HeldLogLine, DownLine, Account}
use Rattle.pgo_bundle.specs.BundleLog.{LoggedNote, LoggedEntry, BundleLog, notes_from, notes_after}
use Rattle.pgo_bundle.specs.RunLog.{entry_read, told_prints, notes_at, logged_from, held_by, down_at, attempt_of, accounts_from, run_log}
use Rattle.pgo_bundle.specs.Tied.{Says, IsEntryOf, IsNoteAt, Precedes, IsTied}

-- ---- records as lines

held_no_step : (b : Bool) (h : ℕ) (o : Option Resource) (n : ℕ) → (if b then HeldLogLine h else held_by h o) ≡ StepLine n → ⊥
held_no_step true h o n e = absurd (cc)
held_no_step false h None n e = absurd (cc)
held_no_step false h (Some q) n e = absurd (cc)

down_no_step : (b : Bool) (o : ℕ) (q : Option Resource) (n : ℕ) → (if b then DownLine o (codes "$log") None else down_at o q) ≡ StepLine n → ⊥
down_no_step true o q n e = absurd (cc)
down_no_step false o None n e = absurd (cc)
down_no_step false o (Some q) n e = absurd (cc)

held_no_note : (b : Bool) (h : ℕ) (o : Option Resource) (kind : Kind) (p : ℕ) → (if b then HeldLogLine h else held_by h o) ≡ NoteLine kind p → ⊥
held_no_note true h o kind p e = absurd (cc)
held_no_note false h None kind p e = absurd (cc)
held_no_note false h (Some q) kind p e = absurd (cc)

down_no_note : (b : Bool) (o : ℕ) (q : Option Resource) (kind : Kind) (p : ℕ) → (if b then DownLine o (codes "$log") None else down_at o q) ≡ NoteLine kind p → ⊥
down_no_note true o q kind p e = absurd (cc)
down_no_note false o None kind p e = absurd (cc)
down_no_note false o (Some q) kind p e = absurd (cc)

is_step : (rs : List Resource) (r : Record) (n : ℕ) → attempt_of rs r ≡ StepLine n → r ≡ Step n
is_step rs (Step m) n e = let f : m ≡ n = cc in ap Step f
is_step rs (Noted kind p) n e = absurd (cc)
is_step rs (Held r h) n e = absurd (held_no_step (nat_eq r journal) h (nth rs r) n e)
is_step rs (Down r o) n e = absurd (down_no_step (nat_eq r journal) o (nth rs r) n e)
is_step rs (Full m) n e = absurd (cc)

is_note : (rs : List Resource) (r : Record) (kind : Kind) (p : ℕ) → attempt_of rs r ≡ NoteLine kind p → r ≡ Noted kind p
is_note rs (Step m) kind p e = absurd (cc)
is_note rs (Noted found q) kind p e = let f : found ≡ kind = cc in let g : q ≡ p = cc in λ i. Noted (f i) (g i)
is_note rs (Held r h) kind p e = absurd (held_no_note (nat_eq r journal) h (nth rs r) kind p e)
is_note rs (Down r o) kind p e = absurd (down_no_note (nat_eq r journal) o (nth rs r) kind p e)
is_note rs (Full m) kind p e = absurd (cc)

held_first : (b : Bool) (h : ℕ) (o : Option Resource) (y : AttemptLine) → Precedes (if b then HeldLogLine h else held_by h o) y
held_first true h o y = tt
held_first false h None y = tt
held_first false h (Some q) y = tt

down_first : (b : Bool) (o : ℕ) (q : Option Resource) (y : AttemptLine) → Precedes (if b then DownLine o (codes "$log") None else down_at o q) y
down_first true o q y = tt
down_first false o None y = tt
down_first false o (Some q) y = tt

step_held : (n : ℕ) (b : Bool) (h : ℕ) (o : Option Resource) → Precedes (StepLine n) (if b then HeldLogLine h else held_by h o)
step_held n true h o = tt
step_held n false h None = tt
step_held n false h (Some q) = tt

step_down : (n : ℕ) (b : Bool) (o : ℕ) (q : Option Resource) → Precedes (StepLine n) (if b then DownLine o (codes "$log") None else down_at o q)
step_down n true o q = tt
step_down n false o None = tt
step_down n false o (Some q) = tt

note_held : (kind : Kind) (p : ℕ) (b : Bool) (h : ℕ) (o : Option Resource) → Precedes (NoteLine kind p) (if b then HeldLogLine h else held_by h o)
note_held kind p true h o = tt
note_held kind p false h None = tt
note_held kind p false h (Some q) = tt

note_down : (kind : Kind) (p : ℕ) (b : Bool) (o : ℕ) (q : Option Resource) → Precedes (NoteLine kind p) (if b then DownLine o (codes "$log") None else down_at o q)
note_down kind p true o q = tt
note_down kind p false o None = tt
note_down kind p false o (Some q) = tt

comes : (rs : List Resource) (x y : Record) → ComesAfter y x → Precedes (attempt_of rs x) (attempt_of rs y)
comes rs (Held r h) y c = held_first (nat_eq r journal) h (nth rs r) (attempt_of rs y)
comes rs (Down r o) y c = down_first (nat_eq r journal) o (nth rs r) (attempt_of rs y)
comes rs (Full n) y c = tt
comes rs (Step n) (Step q) c = c
comes rs (Step n) (Noted kind q) c = c
comes rs (Step n) (Held r h) c = step_held n (nat_eq r journal) h (nth rs r)
comes rs (Step n) (Down r o) c = step_down n (nat_eq r journal) o (nth rs r)
comes rs (Step n) (Full q) c = tt
comes rs (Noted kind p) (Step q) c = c
comes rs (Noted kind p) (Noted found q) c = tt
comes rs (Noted kind p) (Held r h) c = note_held kind p (nat_eq r journal) h (nth rs r)
comes rs (Noted kind p) (Down r o) c = note_down kind p (nat_eq r journal) o (nth rs r)
comes rs (Noted kind p) (Full q) c = tt

-- ---- lists

mapped : {A B : Type 0} (g : A → B) (xs : List A) (i : ℕ) (y : B) → nth (map g xs) i ≡ Some y → (x : A) × (nth xs i ≡ Some x) × (g x ≡ y)
mapped g [] i y e = absurd (cc)
mapped g (x ∷ xs) zero y e = let f : g x ≡ y = cc in (x, refl, f)
mapped g (x ∷ xs) (suc i) y e = mapped g xs i y e

map_at : {A B : Type 0} (g : A → B) (xs : List A) (i : ℕ) (x : A) → nth xs i ≡ Some x → nth (map g xs) i ≡ Some (g x)
map_at g [] i x e = absurd (cc)
map_at g (y ∷ xs) zero x e = let f : y ≡ x = cc in ap (λ z. Some (g z)) f
map_at g (y ∷ xs) (suc i) x e = map_at g xs i x e

-- ---- notes of a place

-- where a note of a place stands among all
record Source (p : ℕ) (ns : List Note) (n : LoggedNote) : Type 0 where
  place : ℕ
  note : Note
  at : nth ns place ≡ Some note
  position : note.position ≡ p
  instance : n.instance ≡ note.instance
  attempt : n.attempt ≡ note.attempt
  kind : n.kind ≡ note.kind

later : (p : ℕ) (x : Note) (ns : List Note) (n : LoggedNote) → Source p ns n → Source p (x ∷ ns) n
later p x ns n s = record { place = suc s.place; note = s.note; at = s.at; position = s.position; instance = s.instance; attempt = s.attempt; kind = s.kind }

source : (p : ℕ) (ns : List Note) (j : ℕ) (n : LoggedNote) → nth (notes_at p ns) j ≡ Some n → Source p ns n
source p [] j n e = absurd (cc)
source p (x ∷ ns) j n e = go (λ j e. source p ns j n e) j (nat_eq x.position p) refl e
  where
    go : ((j : ℕ) → nth (notes_at p ns) j ≡ Some n → Source p ns n) → (j : ℕ) (b : Bool) → nat_eq x.position p ≡ b
        → nth (if b then record { instance = x.instance; attempt = x.attempt; kind = x.kind } ∷ notes_at p ns else notes_at p ns) j ≡ Some n → Source p (x ∷ ns) n
    go rec zero true is e =
        let same : ◌≡◌ {A = LoggedNote} (record { instance = x.instance; attempt = x.attempt; kind = x.kind }) n = cc in
        record {
          place = 0;
          note = x;
          at = refl;
          position = eqb-true x.position p is;
          instance = sym (ap (λ (m : LoggedNote). m.instance) same);
          attempt = sym (ap (λ (m : LoggedNote). m.attempt) same);
          kind = sym (ap (λ (m : LoggedNote). m.kind) same);
        }
    go rec (suc j) true is e = later p x ns n (rec j e)
    go rec zero false is e = later p x ns n (rec zero e)
    go rec (suc j) false is e = later p x ns n (rec (suc j) e)

target : (p : ℕ) (ns : List Note) (m : ℕ) (x : Note) → nth ns m ≡ Some x → x.position ≡ p → (j : ℕ) × (nth (notes_at p ns) j ≡ Some (record { instance = x.instance; attempt = x.attempt; kind = x.kind }))
target p [] m x e f = absurd (cc)
target p (y ∷ ns) zero x e f =
    let same : y ≡ x = cc in
    let is : nat_eq y.position p ≡ true = ap (λ (z : Note). nat_eq z.position p) same ∙ eq-eqb x.position p f in
    (0, (λ i. nth (if is i then record { instance = (same i).instance; attempt = (same i).attempt; kind = (same i).kind } ∷ notes_at p ns else notes_at p ns) 0))
target p (y ∷ ns) (suc m) x e f = go (target p ns m x e f) (nat_eq y.position p)
  where
    go : (j : ℕ) × (nth (notes_at p ns) j ≡ Some (record { instance = x.instance; attempt = x.attempt; kind = x.kind })) → (b : Bool)
        → (j : ℕ) × (nth (if b then record { instance = y.instance; attempt = y.attempt; kind = y.kind } ∷ notes_at p ns else notes_at p ns) j ≡ Some (record { instance = x.instance; attempt = x.attempt; kind = x.kind }))
    go t true = (suc t.0, t.1)
    go t false = t

-- no attempt has two notes
abbrev Once : List Note → Type 0
Once ns = (i j : ℕ) (x y : Note) → nth ns i ≡ Some x → nth ns j ≡ Some y → x.instance ≡ y.instance → x.attempt ≡ y.attempt → i ≡ j

once_in : (p : ℕ) (ns : List Note) (j i : ℕ) (n m : LoggedNote) → Once ns → nth (notes_at p ns) j ≡ Some n → nth (notes_at p ns) i ≡ Some m → n.instance ≡ m.instance → n.attempt ≡ m.attempt → j ≡ i
once_in p [] j i n m once e f g h = absurd (cc)
once_in p (x ∷ ns) j i n m once e f g h = go (λ j i e f. once_in p ns j i n m rest e f g h) j i (nat_eq x.position p) e f
  where
    rest : Once ns
    rest a b y z e f g h = let q = once (suc a) (suc b) y z e f g h in omega (arith, q)

    -- the first is no later one
    first : (k : LoggedNote) → k.instance ≡ x.instance → k.attempt ≡ x.attempt → (s : Source p ns k) → ⊥
    first k g h s = let q = once 0 (suc s.place) x s.note refl s.at (sym g ∙ s.instance) (sym h ∙ s.attempt) in omega (arith, q)

    here : (k : LoggedNote) → nth (record { instance = x.instance; attempt = x.attempt; kind = x.kind } ∷ notes_at p ns) 0 ≡ Some k → (k.instance ≡ x.instance) × (k.attempt ≡ x.attempt)
    here k e =
        let same : ◌≡◌ {A = LoggedNote} (record { instance = x.instance; attempt = x.attempt; kind = x.kind }) k = cc in
        (sym (ap (λ (z : LoggedNote). z.instance) same), sym (ap (λ (z : LoggedNote). z.attempt) same))

    go : ((j i : ℕ) → nth (notes_at p ns) j ≡ Some n → nth (notes_at p ns) i ≡ Some m → j ≡ i) → (j i : ℕ) (b : Bool)
        → nth (if b then record { instance = x.instance; attempt = x.attempt; kind = x.kind } ∷ notes_at p ns else notes_at p ns) j ≡ Some n
        → nth (if b then record { instance = x.instance; attempt = x.attempt; kind = x.kind } ∷ notes_at p ns else notes_at p ns) i ≡ Some m → j ≡ i
    go rec zero zero true e f = refl
    go rec zero (suc i) true e f = let t = here n e in absurd (first m (sym g ∙ t.0) (sym h ∙ t.1) (source p ns i m f))
    go rec (suc j) zero true e f = let t = here m f in absurd (first n (g ∙ t.0) (h ∙ t.1) (source p ns j n e))
    go rec (suc j) (suc i) true e f = ap suc (rec j i e f)
    go rec zero zero false e f = refl
    go rec zero (suc i) false e f = rec zero (suc i) e f
    go rec (suc j) zero false e f = rec (suc j) zero e f
    go rec (suc j) (suc i) false e f = rec (suc j) (suc i) e f

-- ---- entries with the notes behind each

after_is : (q p : ℕ) (ns : List Note) (es : List (Entry Effect)) → p ≤ length es → notes_from (notes_at q ns) (logged_from (suc q) ns es) p ≡ notes_at (q + p) ns
after_is q zero ns [] h = let same : q ≡ q + 0 = omega arith in ap (λ z. notes_at z ns) same
after_is q zero ns (e ∷ es) h = let same : q ≡ q + 0 = omega arith in ap (λ z. notes_at z ns) same
after_is q (suc p) ns [] h = absurd (omega (arith, h))
after_is q (suc p) ns (e ∷ es) h =
    let same : suc q + p ≡ q + suc p = omega arith in
    after_is (suc q) p ns es (omega (arith, h)) ∙ ap (λ z. notes_at z ns) same

-- there is no note behind more entries than there are
none_after : (ns : List LoggedNote) (es : List LoggedEntry) (p j : ℕ) (n : LoggedNote) → nth (notes_from ns es p) j ≡ Some n → p ≤ length es
none_after ns es zero j n h = omega arith
none_after ns [] (suc p) j n h = absurd (cc)
none_after ns (e ∷ es) (suc p) j n h = let m = none_after e.notes es p j n h in omega (arith, m)

many : (i : ℕ) (ns : List Note) (es : List (Entry Effect)) → length (logged_from i ns es) ≡ length es
many i ns [] = refl
many i ns (e ∷ es) = ap suc (many (suc i) ns es)

record LoggedAt (e : Entry Effect) (d : LoggedEntry) : Type 0 where
  instance : d.entry.instance ≡ e.instance
  attempt : d.entry.attempt ≡ e.attempt

abbrev entry_number : ℕ → Option LoggedEntry → ℕ
entry_number n None = n
entry_number n (Some d) = d.entry.instance

abbrev attempt_number : ℕ → Option LoggedEntry → ℕ
attempt_number n None = n
attempt_number n (Some d) = d.entry.attempt

abbrev attempts_in : Option Account → List AttemptLine
attempts_in None = []
attempts_in (Some c) = c.attempts

logged_at : (i : ℕ) (ns : List Note) (es : List (Entry Effect)) (j : ℕ) (d : LoggedEntry) → nth (logged_from i ns es) j ≡ Some d → (e : Entry Effect) × (nth es j ≡ Some e) × LoggedAt e d
logged_at i ns [] j d h = absurd (cc)
logged_at i ns (e ∷ es) zero d h = (e, refl, record { instance = sym (ap (entry_number e.instance) h); attempt = sym (ap (attempt_number e.attempt) h) })
logged_at i ns (e ∷ es) (suc j) d h = logged_at (suc i) ns es j d h

at_logged : (i : ℕ) (ns : List Note) (es : List (Entry Effect)) (j : ℕ) (e : Entry Effect) → nth es j ≡ Some e → (d : LoggedEntry) × (nth (logged_from i ns es) j ≡ Some d) × LoggedAt e d
at_logged i ns [] j e h = absurd (cc)
at_logged i ns (x ∷ es) zero e h =
    let same : x ≡ e = cc in
    (record { entry = entry_read x; prints = told_prints x.change.prints; notes = notes_at i ns }, refl, record { instance = ap (λ (z : Entry Effect). z.instance) same; attempt = ap (λ (z : Entry Effect). z.attempt) same })
at_logged i ns (x ∷ es) (suc j) e h = at_logged (suc i) ns es j e h

-- ---- a run

module _ (y : System) (settings : Settings) (run : Bool) (f : Finished Effect) (status : ℕ) (accounts : (k : ℕ) → Accounts (rules_of y settings) (Reaches y) run f k) where
  abbrev l : BundleLog
  l = run_log y settings f status

  account_at : (k j : ℕ) (is : List Member) (c : Account) → nth (accounts_from y settings f k is) j ≡ Some c → c.attempts ≡ map (attempt_of y.resources) (f.records (k + j))
  account_at k j [] c e = absurd (cc)
  account_at k zero (i ∷ is) c e =
      let here : k ≡ k + 0 = omega arith in
      sym (ap attempts_in e) ∙ ap (λ n. map (attempt_of y.resources) (f.records n)) here
  account_at k (suc j) (i ∷ is) c e =
      let there : suc k + j ≡ k + suc j = omega arith in
      account_at (suc k) j is c e ∙ ap (λ n. map (attempt_of y.resources) (f.records n)) there

  at_account : (k j : ℕ) (is : List Member) → j < length is → (c : Account) × (nth (accounts_from y settings f k is) j ≡ Some c)
  at_account k j [] h = absurd (omega (arith, h))
  at_account k zero (i ∷ is) h = (record { id = i.id; finish = end_of y settings f k; attempts = map (attempt_of y.resources) (f.records k) }, refl)
  at_account k (suc j) (i ∷ is) h = at_account (suc k) j is (omega (arith, h))

  -- what a record of the log says is what one of the run is
  record Found (k a : ℕ) (x : AttemptLine) : Type 0 where
    place : ℕ
    found : Record
    number : a ≡ suc place
    at : nth (f.records k) place ≡ Some found
    is : attempt_of y.resources found ≡ x

  says_of : (k a : ℕ) (x : AttemptLine) → Says l k a x → Found k a x
  says_of k a x s =
      let same : 0 + k ≡ k = omega arith in
      let attempts : s.0.attempts ≡ map (attempt_of y.resources) (f.records k) = account_at 0 k y.members s.0 s.2 ∙ ap (λ n. map (attempt_of y.resources) (f.records n)) same in
      let m = mapped (attempt_of y.resources) (f.records k) s.1 x (ap (λ xs. nth xs s.1) (sym attempts) ∙ s.4) in
      record { place = s.1; found = m.0; number = s.3; at = m.1; is = m.2 }

  of_says : (k i : ℕ) (r : Record) → nth (f.records k) i ≡ Some r → Says l k (suc i) (attempt_of y.resources r)
  of_says k i r e =
      let below = (accounts k).number i r e in
      let c = at_account 0 k y.members below in
      let same : 0 + k ≡ k = omega arith in
      let attempts : c.0.attempts ≡ map (attempt_of y.resources) (f.records k) = account_at 0 k y.members c.0 c.1 ∙ ap (λ n. map (attempt_of y.resources) (f.records n)) same in
      (c.0, i, c.1, refl, ap (λ xs. nth xs i) attempts ∙ map_at (attempt_of y.resources) (f.records k) i r e)

  once : Once f.notes
  once i j x z e g same attempt = (accounts x.instance).notes_once i j x z e g refl (sym same) attempt

  -- the notes with p entries before them
  notes_here : (p : ℕ) → p ≤ length f.entries → notes_after l p ≡ notes_at p f.notes
  notes_here p h = after_is 0 p f.notes f.entries h ∙ (let same : 0 + p ≡ p = omega arith in ap (λ z. notes_at z f.notes) same)

  few : (p j : ℕ) (n : LoggedNote) → IsNoteAt l p j n → p ≤ length f.entries
  few p j n h = let m = none_after l.notes l.entries p j n h in let s = many 1 f.notes f.entries in omega (arith, m, s)

  note_here : (p j : ℕ) (n : LoggedNote) → IsNoteAt l p j n → nth (notes_at p f.notes) j ≡ Some n
  note_here p j n h = ap (λ ns. nth ns j) (sym (notes_here p (few p j n h))) ∙ h

  entry_says : (i k a : ℕ) → IsEntryOf l i k a → Says l k a (StepLine i)
  entry_says i k a h =
      let d = logged_at 1 f.notes f.entries h.0 h.1 h.3 in
      let r = (accounts k).entries h.0 d.0 d.1 (sym d.2.instance ∙ h.4) in
      let number : suc r.0 ≡ a = sym r.1 ∙ sym d.2.attempt ∙ h.5 in
      let said : Says l k (suc r.0) (StepLine (suc h.0)) = of_says k r.0 (Step (suc h.0)) r.2 in
      subst (λ n. Says l k n (StepLine i)) number (subst (λ n. Says l k (suc r.0) (StepLine n)) (sym h.2) said)

  step_there : (i k a : ℕ) → Says l k a (StepLine i) → IsEntryOf l i k a
  step_there i k a s =
      let r = says_of k a (StepLine i) s in
      let t = (accounts k).told r.place (Step i) (r.at ∙ ap Some (is_step y.resources r.found i r.is)) in
      let d = at_logged 1 f.notes f.entries t.0 t.1 t.3 in
      (t.0, d.0, t.2, d.1, d.2.instance ∙ t.4, d.2.attempt ∙ t.5 ∙ sym r.number)

  note_says : (p j : ℕ) (n : LoggedNote) → IsNoteAt l p j n → Says l n.instance n.attempt (NoteLine n.kind p)
  note_says p j n h =
      let s = source p f.notes j n (note_here p j n h) in
      let r = (accounts n.instance).notes s.place s.note s.at (sym s.instance) in
      let number : suc r.0 ≡ n.attempt = sym r.1 ∙ sym s.attempt in
      let same : NoteLine s.note.kind s.note.position ≡ NoteLine n.kind p = λ i. NoteLine (sym s.kind i) (s.position i) in
      let said : Says l n.instance (suc r.0) (NoteLine s.note.kind s.note.position) = of_says n.instance r.0 (Noted s.note.kind s.note.position) r.2 in
      subst (λ a. Says l n.instance a (NoteLine n.kind p)) number (subst (Says l n.instance (suc r.0)) same said)

  note_there : (k a : ℕ) (kind : Kind) (p : ℕ) → Says l k a (NoteLine kind p) → (j : ℕ) × IsNoteAt l p j (record { instance = k; attempt = a; kind = kind })
  note_there k a kind p s =
      let r = says_of k a (NoteLine kind p) s in
      let t = (accounts k).told r.place (Noted kind p) (r.at ∙ ap Some (is_note y.resources r.found kind p r.is)) in
      let place = target p f.notes t.0 (record { instance = k; attempt = suc r.place; kind = kind; position = p }) t.1 refl in
      let here : nth (notes_after l p) place.0 ≡ Some (record { instance = k; attempt = suc r.place; kind = kind }) = ap (λ ns. nth ns place.0) (notes_here p t.2.0) ∙ place.1 in
      (place.0, here ∙ (λ i. Some (record { instance = k; attempt = sym r.number i; kind = kind })))

  note_few : (k a : ℕ) (kind : Kind) (p : ℕ) → Says l k a (NoteLine kind p) → p ≤ length l.entries
  note_few k a kind p s = let n = note_there k a kind p s in let m = few p n.0 _ n.1 in let c = many 1 f.notes f.entries in omega (arith, m, c)

  alone : (p j q i : ℕ) (n m : LoggedNote) → IsNoteAt l p j n → IsNoteAt l q i m → n.instance ≡ m.instance → n.attempt ≡ m.attempt → (p ≡ q) × (j ≡ i)
  alone p j q i n m h g e a =
      let s = source p f.notes j n (note_here p j n h) in
      let t = source q f.notes i m (note_here q i m g) in
      let place = once s.place t.place s.note t.note s.at t.at (sym s.instance ∙ e ∙ t.instance) (sym s.attempt ∙ a ∙ t.attempt) in
      let same : s.note ≡ t.note = (let f = sym s.at ∙ (λ i. nth f.notes (place i)) ∙ t.at in cc) in
      let position : p ≡ q = sym s.position ∙ ap (λ (z : Note). z.position) same ∙ t.position in
      (position, once_in q f.notes j i n m once (subst (λ z. nth (notes_at z f.notes) j ≡ Some n) position (note_here p j n h)) (note_here q i m g) e a)

  order : (k a b : ℕ) (x z : AttemptLine) → Says l k a x → Says l k b z → a < b → Precedes x z
  order k a b x z s t lt =
      let r = says_of k a x s in
      let q = says_of k b z t in
      let before : r.place < q.place = (let e = r.number in let g = q.number in omega (arith, e, g, lt)) in
      let c = comes y.resources r.found q.found ((accounts k).ordered r.place q.place r.found q.found r.at q.at before) in
      subst (λ w. Precedes w z) r.is (subst (Precedes (attempt_of y.resources r.found)) q.is c)

  pub run_is_tied : IsTied l
  run_is_tied = record { entries = entry_says; steps = step_there; notes = note_says; noted = note_there; once = alone; positions = note_few; ordered = order }

-- The turn that a step of the machine is: over a board that tells its lists, made from the machine alone.
use Rattle.std.proofs.Common.{◌≡◌, ◌≤◌, ◌<◌, ◌+◌, ℕ, suc, Bool, true, false, List, [], ◌∷◌, ◌++◌, length, Option, Some, None, refl, sym, ap, ◌∙◌, subst, arith, ◌⊎◌, inl, inr, length-append, lt-ltb}
use Rattle.std.proofs.lemmas.Bool.{ltb-true}
use Rattle.std.specs.Prelude.{if◌then◌else◌, nat_eq, nat_lt}
use Rattle.pgo_base.specs.Data.{Data}
use Rattle.pgo_model.specs.Outcome.{Kind}
use Rattle.pgo_model.specs.Machine.{Entry, Note, Step, Noted, Held, Down, Full, Machine, among, nth, last_state, step, pre_committing}
use Rattle.pgo_model.specs.MachineAccounts.{equal_or, append_none}
pub use Rattle.pgo_workers.specs.Settles.{Settled, settled_finished}
use Rattle.pgo_workers.specs.Walk.{Walk, Stop, Touch, Again, Goes, Sticks, Own, Agrees, settled, goes_back, settled_stays}
use Rattle.pgo_workers.specs.View.{Shown, raised, Hold, Refusal, IsHeld, IsFull, Taking, Told, View, World, EachHold, Grows, StandsAt, untold, answers, refuses, hold_at, without, with_content, aborted, committed, renewed, values_of, passing, own_seen, positioned}
use Rattle.pgo_workers.specs.Worker.{Program, Worker, Phase, Resting, Walking, Giving, Turn, Went, Committed, HasNoted, Refused, IsDown, Idle, Turned, TIdle, TGave, TTook, THeld, TOperated, TReadied, TDown, TCommitted, TFull, TNoted, is_giving, with_held, counted, finished, walks_on, put_back, attempt, fails_at, entry, note, has_ended, rest_of, readied_of, Goes_on}
use Rattle.pgo_workers.specs.Telling.{passes}
use Rattle.pgo_workers.specs.Sentences.{EachTaking, Place, Meets, Sound, Runs}
use Rattle.pgo_workers.specs.Kept.{own_is}
use Rattle.pgo_workers.specs.Closed.{Has}
use Rattle.pgo_workers.specs.Holds as holds
use Rattle.pgo_workers.specs.CoreSteps.{R, Stands, step_pre_commit}
use Rattle.pgo_workers.specs.CoreStands.{Differs, Alone, Counting, bases, put_here}
use Rattle.pgo_core.specs.AllViews.{AllOf, AllNotesOf}
use Rattle.pgo_core.proofs.Stamps.{stamps, has_append, stamps_append, stamps_aborted, stamps_committed, stamps_with, stamps_without, each_without, agrees_of}

some_hold : (a b : Hold) → Some a ≡ Some b → a ≡ b
some_hold a b e = grind arith

-- a content says that it is the resource's
abbrev pub Numbered : Hold → Type 0
Numbered h = h.content.number ≡ Some h.resource

-- where contents are put back
back_numbers : (x : Walk) (hs : List Hold) → EachHold Numbered hs → EachHold Numbered (put_back x hs)
back_numbers x hs n = go (goes_back x)
  where
    go : (b : Bool) → EachHold Numbered (if b then aborted hs else hs)
    go true = holds.each_aborted Numbered Numbered hs (λ h n. n) n
    go false = n

back_stamps : (x : Walk) (hs : List Hold) → stamps (put_back x hs) ≡ stamps hs
back_stamps x hs = go (goes_back x)
  where
    go : (b : Bool) → stamps (if b then aborted hs else hs) ≡ stamps hs
    go true = stamps_aborted hs
    go false = refl

-- r was taken
abbrev pub GrantedIn : List Taking → ℕ → Type 0
GrantedIn ts r = (y : Taking) × Has ts y × (y.resource ≡ r) × (y.refusal ≡ None)

module _ {S D : Type 0} (W : World S D) (P : Program S D) (Reaches : ℕ → ℕ → Type 0) (Good : S → Type 0) (runs : Runs W P Reaches Good) (differs : Differs W P Reaches Good runs) where
  -- the give of a resource
  pub record GivesBack (m : Machine D) (b c : View D) (takes_more : List Taking) (passed_more : List (ℕ × ℕ)) : Type 0 where
    pub resource : ℕ
    pub hold : Hold
    pub is_held : hold_at b.held resource ≡ Some hold
    pub passed : passed_more ≡ passing hold
    pub gone : (x : ℕ × ℕ) → Has (stamps c.held) x → x.0 ≡ resource → ⊥
    pub count : m.counts hold.resource ≡ hold.content.count
    pub risen : hold.count ≤ hold.content.count
    pub took_none : takes_more ≡ []

  -- what a turn of k adds to the told lists
  pub record TellsMore (m : Machine D) (k : ℕ) (b c : View D) (t u : Told) : Type 0 where
    pub takes_more : List Taking
    pub refused_more : List Refusal
    pub passed_more : List (ℕ × ℕ)
    pub takes : u.takes ≡ t.takes ++ takes_more
    pub refused : u.refused ≡ t.refused ++ refused_more
    pub passed : u.passed ≡ t.passed ++ passed_more
    pub agrees : EachTaking (λ x. Agrees x.held (W.value (last_state (R W P Reaches Good runs) m)) × (W.own (last_state (R W P Reaches Good runs) m) k ≡ x.own)) takes_more
    pub holder : (r h : ℕ) → Has refused_more (IsHeld r h) → m.holder r ≡ Some h
    pub gives : (passed_more ≡ []) ⊎ GivesBack m b c takes_more passed_more
    pub held : (x : ℕ × ℕ) → Has (stamps c.held) x → Has (stamps b.held) x ⊎ ((x.1 ≡ m.counts x.0) × GrantedIn takes_more x.0)

  module _ (m : Machine D) (k : ℕ) (w : Worker) (b : View D) (s : Stands W P Reaches Good runs m k w b) (meets : Meets W P Reaches Good w b) (good : Good (last_state (R W P Reaches Good runs) m)) (there : nat_lt k P.instances ≡ true)
      (u : Told) (told : b.told ≡ Some u) (roomy : length b.entries ≤ P.steps) (holders : (r h : ℕ) → m.holder r ≡ Some h → nat_lt h P.instances ≡ true) (numbered : EachHold Numbered b.held) (settles : Settled w.phase)
      (small : (r : ℕ) → (step (R W P Reaches Good runs) m k).counts r ≤ 18446744073709551615) where
    pub record Made : Type 0 where
      pub v : Worker
      pub c : View D
      pub answer : Turn
      pub turn : Turned W P w b v c answer
      pub alone : Alone W P Reaches Good runs differs m k w b s meets good there v c answer turn
      pub entries_more : List (Entry D)
      pub notes_more : List Note
      pub entries : c.entries ≡ b.entries ++ entries_more
      pub notes : c.notes ≡ b.notes ++ notes_more
      pub entries_of : AllOf k entries_more
      pub notes_of : AllNotesOf k notes_more
      pub one : length entries_more ≤ 1
      pub room : length c.entries ≤ P.steps
      pub steps : c.steps ≡ b.steps
      pub instance : c.instance ≡ b.instance
      pub numbers : EachHold Numbered c.held
      pub whole : v.dropped ≡ w.dropped
      pub place : Settled v.phase
      pub after : Told
      pub told_is : c.told ≡ Some after
      pub telling : TellsMore m k b c u after

    is_k : b.instance ≡ k
    is_k = meets.instance ∙ s.number

    nothing_told : (c : View D) → stamps c.held ≡ stamps b.held → TellsMore m k b c u u
    nothing_told c e = record {
      takes_more = [];
      refused_more = [];
      passed_more = [];
      takes = append_none u.takes;
      refused = append_none u.refused;
      passed = append_none u.passed;
      agrees = tt;
      holder = λ r h x. absurd x;
      gives = inl refl;
      held = λ x h. inl (subst (λ l. Has l x) e h);
    }

    no_grow : (c : View D) → c.entries ≡ b.entries → c.notes ≡ b.notes → Grows W b c
    no_grow c e n = record { entries_more = []; notes_more = []; entries = e ∙ append_none b.entries; notes = n ∙ append_none b.notes; others = tt; other_notes = tt }

    idle : has_ended W P w ≡ true → Made
    idle e = record {
      v = w;
      c = b;
      answer = Idle;
      turn = TIdle e refl refl refl;
      alone = tt;
      entries_more = [];
      notes_more = [];
      entries = append_none b.entries;
      notes = append_none b.notes;
      entries_of = tt;
      notes_of = tt;
      one = omega arith;
      room = roomy;
      steps = refl;
      instance = refl;
      numbers = numbered;
      whole = refl;
      place = settles;
      after = u;
      told_is = told;
      telling = nothing_told b refl;
    }

    hold_of : (r : ℕ) → among r w.taken ≡ true → (h : Hold) × (hold_at b.held r ≡ Some h)
    hold_of r e = holds.held_there b.held r (ap (among r) (sym meets.taken) ∙ e)

    give : is_giving w.phase ≡ true → (r : ℕ) (rs : List ℕ) → w.taken ≡ r ∷ rs → Made
    give g r rs e = record {
      v = record w { phase = if Rattle.pgo_model.specs.Machine.is_empty rs then Resting else Giving; taken = rs };
      c = c;
      answer = Went;
      turn = TGave r rs g e (record {
        same = record { instance = refl; resources = refl; steps = refl; share = refl };
        grows = no_grow c refl refl;
        held = refl;
        told = λ h' z. subst (λ (x : Hold). Some (passes (Some h) u) ≡ untold b.told (λ t. record t { passed = t.passed ++ passing x })) (some_hold h h' (sym at ∙ z)) (sym (ap (λ o. untold o (λ t. record t { passed = t.passed ++ passing h })) told));
        last = refl;
      }) refl refl;
      alone = (refl, refl);
      entries_more = [];
      notes_more = [];
      entries = append_none b.entries;
      notes = append_none b.notes;
      entries_of = tt;
      notes_of = tt;
      one = omega arith;
      room = roomy;
      steps = refl;
      instance = refl;
      numbers = each_without Numbered r b.held numbered;
      whole = refl;
      place = settled_finished (Rattle.pgo_model.specs.Machine.is_empty rs);
      after = passes (Some h) u;
      told_is = refl;
      telling = record {
        takes_more = [];
        refused_more = [];
        passed_more = passing h;
        takes = append_none u.takes;
        refused = append_none u.refused;
        passed = refl;
        agrees = tt;
        holder = λ r h x. absurd x;
        gives = inr (record {
          resource = r;
          hold = h;
          is_held = at;
          passed = refl;
          gone = λ x y. (stamps_without r b.held x y).1;
          count = holds.hold_is (λ h. m.counts h.resource ≡ h.content.count) b.held r h at s.counts;
          risen = (holds.hold_is (Sound W P Reaches Good) b.held r h at meets.sound).1;
          took_none = refl;
        });
        held = λ x y. inl (stamps_without r b.held x y).0;
      };
    }
      where
        here : among r w.taken ≡ true
        here = ap (among r) e ∙ ap (λ b. if b then true else among r rs) (let q : nat_eq r r ≡ true = grind arith in q)

        h : Hold
        h = (hold_of r here).0

        at : hold_at b.held r ≡ Some h
        at = (hold_of r here).1

        c : View D
        c = record b { held = without b.held r; told = Some (passes (Some h) u) }

    number_is : (c : View D) → c.instance ≡ b.instance → W.own (last_state (R W P Reaches Good runs) m) k ≡ own_seen W b
    number_is c e = s.own ∙ meets.own

    took : (on : Goes_on W P w) (r : ℕ) (leave : Data → Data) (rest : Data → Walk) → rest_of W P w w.phase ≡ Touch r leave rest → among r w.taken ≡ false → m.holder r ≡ None → Made
    took on r leave rest is new free = record {
      v = record w { phase = Walking (Touch r leave rest) 0; taken = w.taken ++ (r ∷ []) };
      c = c;
      answer = Went;
      turn = TTook on r leave rest is new (record {
        same = record { instance = refl; resources = refl; steps = refl; share = refl };
        grows = no_grow c refl refl;
        value = x;
        count = m.counts r;
        number = Some r;
        numbered = inr refl;
        held = refl;
        told = sym (ap (λ o. untold o (answers y)) told);
        last = refl;
      }) refl refl;
      alone = (refl, refl, free, refl, refl);
      entries_more = [];
      notes_more = [];
      entries = append_none b.entries;
      notes = append_none b.notes;
      entries_of = tt;
      notes_of = tt;
      one = omega arith;
      room = roomy;
      steps = refl;
      instance = refl;
      numbers = holds.each_append Numbered b.held (h ∷ []) numbered (refl, tt);
      whole = refl;
      place = refl;
      after = answers y u;
      told_is = refl;
      telling = record {
        takes_more = y ∷ [];
        refused_more = [];
        passed_more = [];
        takes = refl;
        refused = append_none u.refused;
        passed = append_none u.passed;
        agrees = (
          (
            agrees_of (W.value (last_state (R W P Reaches Good runs) m)) (b.held ++ (h ∷ [])) (holds.each_append (λ h. W.value (last_state (R W P Reaches Good runs) m) h.resource ≡ h.value) b.held (h ∷ []) s.values (refl, tt)),
            number_is c refl,
          ),
          tt,
        );
        holder = λ r h x. absurd x;
        gives = inl refl;
        held = λ z l. by_end z (has_append (stamps b.held) ((r, m.counts r) ∷ []) z (subst (λ l. Has l z) (stamps_append b.held (h ∷ [])) l));
      };
    }
      where
        x : Data
        x = W.value (last_state (R W P Reaches Good runs) m) r

        h : Hold
        h = record { resource = r; value = x; count = m.counts r; content = record { base = x; current = x; count = m.counts r; number = Some r } }

        y : Taking
        y = record { resource = r; refusal = None; held = values_of (b.held ++ (h ∷ [])); own = own_seen W b }

        c : View D
        c = record b { held = b.held ++ (h ∷ []); told = Some (answers y u); last = None }

        new_one : (z : ℕ × ℕ) → (r, m.counts r) ≡ z → (z.1 ≡ m.counts z.0) × GrantedIn (y ∷ []) z.0
        new_one z e = (ap (λ (z : ℕ × ℕ). z.1) (sym e) ∙ ap (λ (z : ℕ × ℕ). m.counts z.0) e, (y, inl refl, ap (λ (z : ℕ × ℕ). z.0) e, refl))

        by_end : (z : ℕ × ℕ) → Has (stamps b.held) z ⊎ (((r, m.counts r) ≡ z) ⊎ ⊥) → Has (stamps b.held) z ⊎ ((z.1 ≡ m.counts z.0) × GrantedIn (y ∷ []) z.0)
        by_end z (inl e) = inl e
        by_end z (inr (inl e)) = inr (new_one z e)
        by_end z (inr (inr e)) = absurd e

    held_by : (on : Goes_on W P w) (r h : ℕ) (leave : Data → Data) (rest : Data → Walk) → rest_of W P w w.phase ≡ Touch r leave rest → among r w.taken ≡ false → m.holder r ≡ Some h → Made
    held_by on r h leave rest is new holds_it = record {
      v = finished (Held r h) w;
      c = with_held (aborted b.held) d;
      answer = Refused (IsHeld r h);
      turn = THeld on r h leave rest is new d (record {
        same = record { instance = refl; resources = refl; steps = refl; share = refl };
        grows = no_grow d refl refl;
        other = λ z. other (z ∙ is_k);
        there = subst (λ n. h < n) (sym runs.instances) (ltb-true h P.instances (holders r h holds_it));
        held = refl;
        told = sym (ap (λ o. untold o (λ t. answers y (refuses (IsHeld r h) t))) told);
        last = refl;
      }) refl refl refl;
      alone = (refl, refl, holds_it);
      entries_more = [];
      notes_more = [];
      entries = append_none b.entries;
      notes = append_none b.notes;
      entries_of = tt;
      notes_of = tt;
      one = omega arith;
      room = roomy;
      steps = refl;
      instance = refl;
      numbers = holds.each_aborted Numbered Numbered b.held (λ h n. n) numbered;
      whole = refl;
      place = settled_finished (Rattle.pgo_model.specs.Machine.is_empty w.taken);
      after = answers y (refuses (IsHeld r h) u);
      told_is = refl;
      telling = record {
        takes_more = y ∷ [];
        refused_more = IsHeld r h ∷ [];
        passed_more = [];
        takes = refl;
        refused = refl;
        passed = append_none u.passed;
        agrees = ((agrees_of (W.value (last_state (R W P Reaches Good runs) m)) b.held s.values, number_is d refl), tt);
        holder = λ q g x. one q g x;
        gives = inl refl;
        held = λ z l. inl (subst (λ l. Has l z) (stamps_aborted b.held) l);
      };
    }
      where
        y : Taking
        y = record { resource = r; refusal = Some h; held = values_of b.held; own = own_seen W b }

        d : View D
        d = record b { told = Some (answers y (refuses (IsHeld r h) u)); last = Some (IsHeld r h) }

        other : h ≡ k → ⊥
        other z = let mine = s.theirs r (holds_it ∙ ap Some z) in let q : true ≡ false = sym mine ∙ new in grind (arith, q)

        same_refusal : (q g : ℕ) → IsHeld r h ≡ IsHeld q g → (r ≡ q) × (h ≡ g)
        same_refusal q g e = (grind (arith, e), grind (arith, e))

        one : (q g : ℕ) → (IsHeld r h ≡ IsHeld q g) ⊎ ⊥ → m.holder q ≡ Some g
        one q g (inl e) = let z = same_refusal q g e in ap m.holder (sym z.0) ∙ holds_it ∙ ap Some z.1
        one q g (inr e) = absurd e

    -- what stays of the held contents but for one of them
    with_one : (r : ℕ) (h : Hold) (n : Shown) → hold_at b.held r ≡ Some h → n.number ≡ h.content.number → EachHold Numbered (with_content r n b.held)
    with_one r h n at e = holds.each_with Numbered r n b.held h at (e ∙ holds.hold_is Numbered b.held r h at numbered) numbered

    operated : (on : Goes_on W P w) (r : ℕ) (leave : Data → Data) (rest : Data → Walk) → rest_of W P w w.phase ≡ Touch r leave rest → (h : Hold) → hold_at b.held r ≡ Some h → Made
    operated on r leave rest is h at = record {
      v = walks_on (settled next) 0 w;
      c = with_held (put_back next hs) b;
      answer = Went;
      turn = TOperated on r leave rest is h at refl refl refl;
      alone = tt;
      entries_more = [];
      notes_more = [];
      entries = append_none b.entries;
      notes = append_none b.notes;
      entries_of = tt;
      notes_of = tt;
      one = omega arith;
      room = roomy;
      steps = refl;
      instance = refl;
      numbers = back_numbers next hs (with_one r h new at refl);
      whole = refl;
      place = settled_stays next;
      after = u;
      told_is = told;
      telling = nothing_told (with_held (put_back next hs) b) (back_stamps next hs ∙ stamps_with r new b.held);
    }
      where
        new : Shown
        new = record h.content { current = leave h.content.current }

        hs : List Hold
        hs = with_content r new b.held

        next : Walk
        next = rest h.content.current

    counts_up : (r : ℕ) (x : Bool) → (pre_committing m k r x).counts r ≡ suc (m.counts r)
    counts_up r true = put_here r (suc (m.counts r)) m.counts
    counts_up r false = put_here r (suc (m.counts r)) m.counts

    counting : (on : Goes_on W P w) (o : Own) (ps : List Data) → rest_of W P w w.phase ≡ Stop (Goes o ps) → (r : ℕ) → nth w.taken (readied_of W P w.phase) ≡ Some r → (h : Hold) → hold_at b.held r ≡ Some h → Counting W P Reaches Good runs differs m k w b s meets good there h
    counting on o ps is r nth_r h at = record { up = up h.content.count (below h.content.count (m.counts r) same next_count (small r)); fails = ap (λ o. fails_at W P o (raised h.content.count)) (holds.hold_is Numbered b.held r h at numbered) }
      where
        same : h.content.count ≡ m.counts r
        same = sym (holds.hold_is (λ h. m.counts h.resource ≡ h.content.count) b.held r h at s.counts) ∙ ap m.counts (holds.hold_named b.held r h at)

        next_count : (step (R W P Reaches Good runs) m k).counts r ≡ suc (m.counts r)
        next_count = ap (λ (n : Machine D). n.counts r) (step_pre_commit W P Reaches Good runs m k w b s meets good there on o ps r is nth_r) ∙ counts_up r (P.fails r (suc (m.counts r)))

        below : (a c : ℕ) {d : ℕ} → a ≡ c → d ≡ suc c → d ≤ 18446744073709551615 → a < 18446744073709551615
        below a c e f l = omega (arith, e, f, l)

        up : (n : ℕ) → n < 18446744073709551615 → raised n ≡ suc n
        up n l = ap (λ x. if x then n + 1 else n) (lt-ltb n 18446744073709551615 l) ∙ (let e : n + 1 ≡ suc n = omega arith in e)

    pre_commits : (on : Goes_on W P w) (o : Own) (ps : List Data) → rest_of W P w w.phase ≡ Stop (Goes o ps) → (r : ℕ) → nth w.taken (readied_of W P w.phase) ≡ Some r → (h : Hold) → hold_at b.held r ≡ Some h
        → (x : Bool) → fails_at W P h.content.number (raised h.content.count) ≡ x → Made
    pre_commits on o ps is r nth_r h at false up = record {
      v = walks_on (Stop (Goes o ps)) (suc (readied_of W P w.phase)) w;
      c = with_held (with_content r (counted h.content) b.held) b;
      answer = Went;
      turn = TReadied on o ps is r nth_r h at up refl refl refl;
      alone = counting on o ps is r nth_r h at;
      entries_more = [];
      notes_more = [];
      entries = append_none b.entries;
      notes = append_none b.notes;
      entries_of = tt;
      notes_of = tt;
      one = omega arith;
      room = roomy;
      steps = refl;
      instance = refl;
      numbers = with_one r h (counted h.content) at refl;
      whole = refl;
      place = refl;
      after = u;
      told_is = told;
      telling = nothing_told (with_held (with_content r (counted h.content) b.held) b) (stamps_with r (counted h.content) b.held);
    }
    pre_commits on o ps is r nth_r h at true down = record {
      v = finished (Down r (raised h.content.count)) w;
      c = with_held (aborted (with_content r (counted h.content) b.held)) b;
      answer = IsDown r (raised h.content.count);
      turn = TDown on o ps is r nth_r h at down refl refl refl;
      alone = counting on o ps is r nth_r h at;
      entries_more = [];
      notes_more = [];
      entries = append_none b.entries;
      notes = append_none b.notes;
      entries_of = tt;
      notes_of = tt;
      one = omega arith;
      room = roomy;
      steps = refl;
      instance = refl;
      numbers = holds.each_aborted Numbered Numbered (with_content r (counted h.content) b.held) (λ h n. n) (with_one r h (counted h.content) at refl);
      whole = refl;
      place = settled_finished (Rattle.pgo_model.specs.Machine.is_empty w.taken);
      after = u;
      told_is = told;
      telling = nothing_told (with_held (aborted (with_content r (counted h.content) b.held)) b) (stamps_aborted (with_content r (counted h.content) b.held) ∙ stamps_with r (counted h.content) b.held);
    }

    full : (on : Goes_on W P w) (o : Own) (ps : List Data) → rest_of W P w w.phase ≡ Stop (Goes o ps) → nth w.taken (readied_of W P w.phase) ≡ None → length m.entries ≡ P.steps → Made
    full on o ps is at len = record {
      v = finished (Full b.steps) w;
      c = with_held (aborted b.held) d;
      answer = Refused (IsFull b.steps);
      turn = TFull on o ps is at b.steps d (record {
        same = record { instance = refl; resources = refl; steps = refl; share = refl };
        grows = no_grow d refl refl;
        full = refl;
        is_full = ap length s.entries ∙ len ∙ sym meets.steps;
        held = refl;
        told = sym (ap (λ o. untold o (refuses (IsFull b.steps))) told);
        last = refl;
      }) refl refl refl;
      alone = (refl, refl);
      entries_more = [];
      notes_more = [];
      entries = append_none b.entries;
      notes = append_none b.notes;
      entries_of = tt;
      notes_of = tt;
      one = omega arith;
      room = roomy;
      steps = refl;
      instance = refl;
      numbers = holds.each_aborted Numbered Numbered b.held (λ h n. n) numbered;
      whole = refl;
      place = settled_finished (Rattle.pgo_model.specs.Machine.is_empty w.taken);
      after = refuses (IsFull b.steps) u;
      told_is = refl;
      telling = record {
        takes_more = [];
        refused_more = IsFull b.steps ∷ [];
        passed_more = [];
        takes = append_none u.takes;
        refused = refl;
        passed = append_none u.passed;
        agrees = tt;
        holder = λ q g x. no q g x;
        gives = inl refl;
        held = λ z l. inl (subst (λ l. Has l z) (stamps_aborted b.held) l);
      };
    }
      where
        d : View D
        d = record b { told = Some (refuses (IsFull b.steps) u); last = Some (IsFull b.steps) }

        differ : (n q g : ℕ) → IsFull n ≡ IsHeld q g → ⊥
        differ n q g e = grind (arith, e)

        no : (q g : ℕ) → (IsFull b.steps ≡ IsHeld q g) ⊎ ⊥ → m.holder q ≡ Some g
        no q g (inl e) = absurd (differ b.steps q g e)
        no q g (inr e) = absurd e

    stands_at : StandsAt W b m.entries
    stands_at = record { values = bases W P Reaches Good runs differs m k w b s meets good there; own = ap (W.own (last_state (R W P Reaches Good runs) m)) is_k ∙ s.own ∙ meets.own }

    committing : (on : Goes_on W P w) (o : Own) (ps : List Data) → rest_of W P w w.phase ≡ Stop (Goes o ps) → nth w.taken (readied_of W P w.phase) ≡ None → (length m.entries ≡ P.steps → ⊥) → Made
    committing on o ps is at room_left = record {
      v = record (finished (Step (length d.entries)) w) { own = o };
      c = with_held (committed d.held) d;
      answer = Committed (length d.entries);
      turn = TCommitted on o ps is at (length d.entries) d (record {
        same = record { instance = refl; resources = refl; steps = refl; share = refl };
        entries_more = [];
        notes_more = [];
        others = tt;
        other_notes = tt;
        entries = ap (λ l. l ++ (e ∷ [])) (append_none b.entries);
        notes = append_none b.notes;
        number = refl;
        stands = subst (StandsAt W b) (sym s.entries ∙ append_none b.entries) stands_at;
        held = refl;
        told = refl;
        last = refl;
      }) refl refl refl;
      alone = (refl, refl, room_left);
      entries_more = e ∷ [];
      notes_more = [];
      entries = refl;
      notes = append_none b.notes;
      entries_of = (s.number, tt);
      notes_of = tt;
      one = omega arith;
      room = more (length b.entries) (length d.entries) P.steps (λ z. room_left (ap length (sym s.entries) ∙ z)) roomy (length-append b.entries (e ∷ []));
      steps = refl;
      instance = refl;
      numbers = holds.each_committed Numbered Numbered (W.changes e.change) b.held (λ h n. n) numbered;
      whole = refl;
      place = settled_finished (Rattle.pgo_model.specs.Machine.is_empty w.taken);
      after = u;
      told_is = told;
      telling = nothing_told (with_held (committed d.held) d) (stamps_committed (W.changes e.change) b.held);
    }
      where
        e : Entry D
        e = entry W P w b.held o ps

        d : View D
        d = record b { entries = b.entries ++ (e ∷ []); held = renewed (W.changes e.change) b.held; last = None }

        more : (n x c : ℕ) → (n ≡ c → ⊥) → n ≤ c → x ≡ n + 1 → x ≤ c
        more n x c not l f = omega (arith, not, l, f)

    noted : (on : Goes_on W P w) (kind : Kind) → rest_of W P w w.phase ≡ Stop (Sticks kind) → Made
    noted on kind is = record {
      v = finished (Noted kind (length b.entries)) w;
      c = d;
      answer = HasNoted kind (length b.entries);
      turn = TNoted on kind is (length b.entries) d (record {
        same = record { instance = refl; resources = refl; steps = refl; share = refl };
        entries_more = [];
        notes_more = [];
        others = tt;
        other_notes = tt;
        entries = append_none b.entries;
        notes = ap (λ l. l ++ (n ∷ [])) (append_none b.notes);
        position_is = refl;
        stands = subst (StandsAt W (with_held (aborted b.held) b)) (sym s.entries ∙ append_none b.entries) (record {
          values = holds.each_aborted (λ h. W.value (last_state (R W P Reaches Good runs) m) h.resource ≡ h.content.base) (λ h. W.value (last_state (R W P Reaches Good runs) m) h.resource ≡ h.content.base) b.held (λ h e. e) stands_at.values;
          own = stands_at.own;
        });
        held = refl;
        told = refl;
        last = refl;
      }) refl refl refl;
      alone = (refl, refl);
      entries_more = [];
      notes_more = n ∷ [];
      entries = append_none b.entries;
      notes = refl;
      entries_of = tt;
      notes_of = (s.number, tt);
      one = omega arith;
      room = roomy;
      steps = refl;
      instance = refl;
      numbers = holds.each_aborted Numbered Numbered b.held (λ h n. n) numbered;
      whole = refl;
      place = settled_finished (Rattle.pgo_model.specs.Machine.is_empty w.taken);
      after = u;
      told_is = told;
      telling = nothing_told d (stamps_aborted b.held);
    }
      where
        n : Note
        n = positioned (note W P w kind) (length b.entries)

        d : View D
        d = record (with_held (aborted b.held) b) { notes = b.notes ++ (n ∷ []); last = None }

    -- the turn
    pub made : Made
    made = by_end (has_ended W P w) refl
      where
        not_full : nat_eq (length m.entries) P.steps ≡ false → length m.entries ≡ P.steps → ⊥
        not_full e = (equal_or (length m.entries) P.steps false e).1 refl

        by_room : (on : Goes_on W P w) (o : Own) (ps : List Data) → rest_of W P w w.phase ≡ Stop (Goes o ps) → nth w.taken (readied_of W P w.phase) ≡ None → (x : Bool) → nat_eq (length m.entries) P.steps ≡ x → Made
        by_room on o ps is at true e = full on o ps is at ((equal_or (length m.entries) P.steps true e).0 refl)
        by_room on o ps is at false e = committing on o ps is at (not_full e)

        by_next : (on : Goes_on W P w) (o : Own) (ps : List Data) → rest_of W P w w.phase ≡ Stop (Goes o ps) → (x : Option ℕ) → nth w.taken (readied_of W P w.phase) ≡ x → Made
        by_next on o ps is None at = by_room on o ps is at (nat_eq (length m.entries) P.steps) refl
        by_next on o ps is (Some r) at = let h = hold_of r (holds.nth_among w.taken (readied_of W P w.phase) r at) in pre_commits on o ps is r at h.0 h.1 (fails_at W P h.0.content.number (raised h.0.content.count)) refl

        by_holder : (on : Goes_on W P w) (r : ℕ) (leave : Data → Data) (rest : Data → Walk) → rest_of W P w w.phase ≡ Touch r leave rest → among r w.taken ≡ false → (x : Option ℕ) → m.holder r ≡ x → Made
        by_holder on r leave rest is new None e = took on r leave rest is new e
        by_holder on r leave rest is new (Some h) e = held_by on r h leave rest is new e

        by_taken : (on : Goes_on W P w) (r : ℕ) (leave : Data → Data) (rest : Data → Walk) → rest_of W P w w.phase ≡ Touch r leave rest → (x : Bool) → among r w.taken ≡ x → Made
        by_taken on r leave rest is true e = let h = hold_of r e in operated on r leave rest is h.0 h.1
        by_taken on r leave rest is false e = by_holder on r leave rest is e (m.holder r) refl

        by_rest : (on : Goes_on W P w) (x : Walk) → rest_of W P w w.phase ≡ x → Made
        by_rest on (Touch r leave rest) is = by_taken on r leave rest is (among r w.taken) refl
        by_rest on (Stop (Goes o ps)) is = by_next on o ps is (nth w.taken (readied_of W P w.phase)) refl
        by_rest on (Stop (Sticks kind)) is = noted on kind is
        by_rest on (Again x) is = absurd (let z : true ≡ false = sym (ap goes_back is) ∙ at_place w.phase settles in grind (arith, z))
          where
            at_place : (p : Phase) → Settled p → goes_back (rest_of W P w p) ≡ false
            at_place Resting h = runs.settles w.number (attempt w) w.own (own_is W P Reaches Good runs w b meets)
            at_place (Walking y j) h = h
            at_place Giving h = runs.settles w.number (attempt w) w.own (own_is W P Reaches Good runs w b meets)

        to_give : (p : Phase) → is_giving p ≡ true → Place W P Reaches Good w b p → w.taken ≡ [] → ⊥
        to_give Resting g q = absurd (grind (arith, g))
        to_give (Walking c j) g q = absurd (grind (arith, g))
        to_give Giving g q = q.1

        by_first : is_giving w.phase ≡ true → (l : List ℕ) → w.taken ≡ l → Made
        by_first g [] e = absurd (to_give w.phase g meets.place e)
        by_first g (r ∷ rs) e = give g r rs e

        by_phase : has_ended W P w ≡ false → (x : Bool) → is_giving w.phase ≡ x → Made
        by_phase e true g = by_first g w.taken refl
        by_phase e false g = by_rest (e, g) (rest_of W P w w.phase) refl

        by_end : (x : Bool) → has_ended W P w ≡ x → Made
        by_end true e = idle e
        by_end false e = by_phase e (is_giving w.phase) refl

-- A turn of one instance over a board of all is a step of the machine.
use Rattle.std.proofs.Common.{◌≡◌, ◌≤◌, ◌<◌, ℕ, suc, Bool, true, false, List, [], ◌∷◌, ◌++◌, length, Option, Some, None, refl, sym, ap, ◌∙◌, subst, arith, ◌⊎◌, inl, inr}
use Rattle.std.specs.Prelude.{if◌then◌else◌, nat_eq, nat_lt}
use Rattle.pgo_base.specs.Data.{Data}
use Rattle.pgo_model.specs.Outcome.{Next}
use Rattle.pgo_model.specs.Machine.{Record, Step, Noted, Held, Down, Full, Machine, among, step, takes, tells, taking, pre_committing, committing, gives}
use Rattle.pgo_model.specs.MachineAccounts.{equal_or, append_none}
use Rattle.pgo_workers.specs.View.{Shown, Hold, View, World, IsHeld, IsFull, EachHold, resources_of, hold_at, with_content, aborted, committed, without}
use Rattle.pgo_workers.specs.Walk.{Walk, goes_back}
use Rattle.pgo_workers.specs.Worker.{Program, Worker, Turn, Went, Committed, HasNoted, Refused, IsDown, Idle, Turned, TIdle, TGave, TTook, THeld, TOperated, TReadied, TDown, TCommitted, TFull, TNoted, TJournal, counted, put_back}
use Rattle.pgo_workers.specs.Sentences.{Meets, Runs}
use Rattle.pgo_workers.specs.Holds as holds
use Rattle.pgo_workers.specs.CoreSteps.{R, Stands, step_idle, step_gives, step_take, step_operate, step_pre_commit, step_commit, step_note}
use Rattle.pgo_workers.specs.CoreStands.{Differs, Alone, stepped}
use Rattle.pgo_workers.specs.CoreTurns.{IsCore, core_turn}
use Rattle.pgo_workers.specs.Grown.{Renews}
use Rattle.pgo_core.specs.AllViews.{AllViews, AllOf, AllNotesOf, Leaves, IsBoard}
use Rattle.pgo_core.proofs.Journals.{others_of, other_notes_of}
use Rattle.pgo_core.proofs.Alone.{MayFailAt, IsAt, longer, alone}

-- the record that a turn's answer tells
abbrev pub record_of : Turn → List Record
record_of Went = []
record_of (Committed n) = Step n ∷ []
record_of (HasNoted kind p) = Noted kind p ∷ []
record_of (Refused (IsHeld r h)) = Held r h ∷ []
record_of (Refused (IsFull n)) = Full n ∷ []
record_of (IsDown r o) = Down r o ∷ []
record_of Idle = []

fewer : (hs : List Hold) (r : ℕ) → among r (resources_of (without hs r)) ≡ false
fewer [] r = refl
fewer (h ∷ hs) r = by_case (nat_eq h.resource r) refl (fewer hs r)
  where
    by_case : (x : Bool) → nat_eq h.resource r ≡ x → among r (resources_of (without hs r)) ≡ false → among r (resources_of (if x then without hs r else h ∷ without hs r)) ≡ false
    by_case true e ih = ih
    by_case false e ih = let q : nat_eq r h.resource ≡ false = grind (arith, e) in ap (λ b. if b then true else among r (resources_of (without hs r))) q ∙ ih

module _ {S D : Type 0} (W : World S D) (P : Program S D) (Reaches : ℕ → ℕ → Type 0) (Good : S → Type 0) (runs : Runs W P Reaches Good) (differs : Differs W P Reaches Good runs)
    (m : Machine D) (ws vs : ℕ → Worker) (s t : AllViews D) (k : ℕ) (current : s.current ≡ k) (there : nat_lt k P.instances ≡ true) (a : IsAt W P Reaches Good runs differs m ws s) (board : IsBoard W t) (leaves : Leaves s t)
    (v : Worker) (answer : Turn) (x : Turned W P (ws k) (s.view k) v (t.view k) answer) (unmixed : (t.lent ≡ false) ⊎ (t.moved ≡ false)) where
  abbrev pub next : Machine D
  next = step (R W P Reaches Good runs) m k

  abbrev b : View D
  b = s.view k

  abbrev c : View D
  c = t.view k

  is_alone : Alone W P Reaches Good runs differs m k (ws k) b (a.core.stands k there) (a.core.meets k there) a.good there v c answer x
  is_alone = alone W P Reaches Good runs differs m ws s t k current there a board leaves v answer x unmixed

  stands_next : Stands W P Reaches Good runs next k v c
  stands_next = stepped W P Reaches Good runs differs m k (ws k) b (a.core.stands k there) (a.core.meets k there) a.good there v c answer x is_alone

  -- the others see the journal as it is now
  others_renew : (j : ℕ) → (j ≡ k → ⊥) → Renews W P Reaches Good runs (s.view j) (t.view j)
  others_renew j n = record {
    same = leaves.same j;
    grows = record {
      entries_more = leaves.entries_more;
      notes_more = leaves.notes_more;
      entries = leaves.entries j;
      notes = leaves.notes j;
      others = others_of k (s.view j).instance leaves.entries_more (subst (λ k. AllOf k leaves.entries_more) current leaves.entries_of) (λ q. n (sym (a.board.instance j) ∙ q));
      other_notes = other_notes_of k (s.view j).instance leaves.notes_more (subst (λ k. AllNotesOf k leaves.notes_more) current leaves.notes_of) (λ q. n (sym (a.board.instance j) ∙ q));
    };
    held = leaves.held j (λ q. n (q ∙ current));
    told = leaves.told j;
  }

  pub core_next : ((r n : ℕ) → P.fails r n ≡ true → n < 18446744073709551615) → vs k ≡ v → ((j : ℕ) → (j ≡ k → ⊥) → vs j ≡ ws j) → IsCore W P Reaches Good runs differs next vs t.view
  core_next listed mine others =
      core_turn W P Reaches Good runs differs listed m ws vs s.view t.view k v c answer a.core there a.good (a.board.room k) x is_alone
      (record {
        worker = mine;
        board = refl;
        workers = others;
        boards = others_renew;
        entries = λ j n. board.entries j k ∙ stands_next.entries;
        notes = λ j n. board.notes j k ∙ stands_next.notes;
        room = board.room;
      })

  -- what a step does to a count
  abbrev Counted : ℕ → Machine D → Type 0
  Counted q n = (n.counts q ≡ m.counts q) ⊎ ((among q (resources_of c.held) ≡ true) × (n.counts q ≡ suc (m.counts q)))

  readied_counts : (q r : ℕ) (x : Bool) → among r (resources_of c.held) ≡ true → Counted q (pre_committing m k r x)
  readied_counts q r x held = by_test x (nat_eq q r) refl
    where
      by_test : (x y : Bool) → nat_eq q r ≡ y → Counted q (pre_committing m k r x)
      by_test true y e = go y e
        where
          go : (y : Bool) → nat_eq q r ≡ y → ((if nat_eq q r then suc (m.counts r) else m.counts q) ≡ m.counts q) ⊎ ((among q (resources_of c.held) ≡ true) × ((if nat_eq q r then suc (m.counts r) else m.counts q) ≡ suc (m.counts q)))
          go true e = let same = (equal_or q r true e).0 refl in inr (ap (λ q. among q (resources_of c.held)) same ∙ held, ap (λ b. if b then suc (m.counts r) else m.counts q) e ∙ ap (λ q. suc (m.counts q)) (sym same))
          go false e = inl (ap (λ b. if b then suc (m.counts r) else m.counts q) e)
      by_test false y e = go y e
        where
          go : (y : Bool) → nat_eq q r ≡ y → ((if nat_eq q r then suc (m.counts r) else m.counts q) ≡ m.counts q) ⊎ ((among q (resources_of c.held) ≡ true) × ((if nat_eq q r then suc (m.counts r) else m.counts q) ≡ suc (m.counts q)))
          go true e = let same = (equal_or q r true e).0 refl in inr (ap (λ q. among q (resources_of c.held)) same ∙ held, ap (λ b. if b then suc (m.counts r) else m.counts q) e ∙ ap (λ q. suc (m.counts q)) (sym same))
          go false e = inl (ap (λ b. if b then suc (m.counts r) else m.counts q) e)

  count_next : (q : ℕ) → Counted q next
  count_next q = go v answer x is_alone
    where
      St : Stands W P Reaches Good runs m k (ws k) b
      St = a.core.stands k there

      Me : Meets W P Reaches Good (ws k) b
      Me = a.core.meets k there

      tookn : (r : ℕ) (o : Option ℕ) → Counted q (taking m k r o)
      tookn r None = inl refl
      tookn r (Some h) = by_case (nat_eq h k)
        where
          by_case : (x : Bool) → Counted q (if x then takes m k r else tells m k (Held r h))
          by_case true = inl refl
          by_case false = inl refl

      gaven : (rs : List ℕ) → Counted q (gives m k rs)
      gaven [] = inl refl
      gaven (r ∷ rs) = inl refl

      committedn : (x : Bool) (e : S) (ps : List Data) → Counted q (committing (R W P Reaches Good runs) m k x (Next e ps))
      committedn true e ps = inl refl
      committedn false e ps = inl refl

      go : (v : Worker) (answer : Turn) (x : Turned W P (ws k) b v c answer) → Alone W P Reaches Good runs differs m k (ws k) b St Me a.good there v c answer x → Counted q next
      go v answer (TIdle ended worker board' answer') al = subst (Counted q) (sym (step_idle W P Reaches Good runs m k (ws k) b St Me a.good there ended)) (inl refl)
      go v answer (TGave r rs giving first gv worker answer') al = subst (Counted q) (sym (step_gives W P Reaches Good runs m k (ws k) b St Me a.good there giving)) (gaven (ws k).taken)
      go v answer (TTook on r leave rest next' new tk worker answer') al = subst (Counted q) (sym (step_take W P Reaches Good runs m k (ws k) b St Me a.good there on r leave rest next' new)) (tookn r (m.holder r))
      go v answer (THeld on r h leave rest next' new d take board' worker answer') al = subst (Counted q) (sym (step_take W P Reaches Good runs m k (ws k) b St Me a.good there on r leave rest next' new)) (tookn r (m.holder r))
      go v answer (TOperated on r leave rest next' h held board' worker answer') al =
          subst (Counted q) (sym (step_operate W P Reaches Good runs m k (ws k) b St Me a.good there on r leave rest next' (ap (among r) Me.taken ∙ holds.hold_among b.held r h held))) (inl refl)
      go v answer (TReadied on o ps next' r at h held up board' worker answer') al =
          subst (Counted q) (sym (step_pre_commit W P Reaches Good runs m k (ws k) b St Me a.good there on o ps r next' at)) (readied_counts q r (P.fails r (suc (m.counts r)))
          (ap (λ (c : View D). among r (resources_of c.held)) board' ∙ ap (among r) (holds.resources_with r (counted h.content) b.held) ∙ holds.hold_among b.held r h held))
      go v answer (TDown on o ps next' r at h held down board' worker answer') al =
          subst (Counted q) (sym (step_pre_commit W P Reaches Good runs m k (ws k) b St Me a.good there on o ps r next' at)) (readied_counts q r (P.fails r (suc (m.counts r)))
          (ap (λ (c : View D). among r (resources_of c.held)) board' ∙ ap (among r) (holds.resources_aborted (with_content r (counted h.content) b.held) ∙ holds.resources_with r (counted h.content) b.held) ∙ holds.hold_among b.held r h held))
      go v answer (TCommitted on o ps next' at n d commits board' worker answer') al =
          let e = step_commit W P Reaches Good runs m k (ws k) b St Me a.good there on o ps next' at in subst (Counted q) (sym e.2) (committedn (nat_eq (length m.entries) P.steps) e.0 ps)
      go v answer (TFull on o ps next' at n d full board' worker answer') al =
          let e = step_commit W P Reaches Good runs m k (ws k) b St Me a.good there on o ps next' at in subst (Counted q) (sym e.2) (committedn (nat_eq (length m.entries) P.steps) e.0 ps)
      go v answer (TNoted on kind next' n d notes board' worker answer') al = subst (Counted q) (sym (step_note W P Reaches Good runs m k (ws k) b St Me a.good there on kind next')) (inl refl)
      go v answer (TJournal on e next' at h d held board' worker answer') al = absurd al

  -- what k doesn't hold behind the turn is as it was
  as_it_was : (r : ℕ) → among r (resources_of c.held) ≡ false → t.content r ≡ s.content r
  as_it_was r out = go unmixed
    where
      go : (t.lent ≡ false) ⊎ (t.moved ≡ false) → t.content r ≡ s.content r
      go (inl lent) = (leaves.lent lent).1 r
      go (inr moved) =
          leaves.content moved r (ap (among r) (sym (leaves.moved moved).1) ∙ ap (λ k. among r (resources_of (t.view k).held)) current ∙ out)

  pub counts_next : (r : ℕ) → next.counts r ≡ (t.content r).count
  counts_next r = go (among r (resources_of c.held)) refl
    where
      kept : among r (resources_of c.held) ≡ false → Counted r next → next.counts r ≡ m.counts r
      kept out (inl e) = e
      kept out (inr e) = absurd (let z : true ≡ false = sym e.0 ∙ out in grind (arith, z))

      go : (x : Bool) → among r (resources_of c.held) ≡ x → next.counts r ≡ (t.content r).count
      go true e =
          let h = holds.held_there c.held r e in
          let named = holds.hold_named c.held r h.0 h.1 in
          ap next.counts (sym named) ∙ holds.hold_is (λ h. next.counts h.resource ≡ h.content.count) c.held r h.0 h.1 stands_next.counts
          ∙ ap (λ (c : Shown). c.count) (holds.hold_is (λ h. h.content ≡ t.content h.resource) c.held r h.0 h.1 (board.contents k)) ∙ ap (λ r. (t.content r).count) named
      go false e = kept e (count_next r) ∙ a.counts r ∙ ap (λ (c : Shown). c.count) (sym (as_it_was r e))

  pub count_rises : (r : ℕ) → next.counts r ≤ suc (m.counts r)
  count_rises r = go (count_next r)
    where
      go : Counted r next → next.counts r ≤ suc (m.counts r)
      go (inl e) = omega (arith, e)
      go (inr e) = let q = e.1 in omega (arith, q)

  -- the numbers of what is held
  abbrev Numbered : Hold → Type 0
  Numbered h = MayFailAt P h.resource h.content.number

  held_numbers : EachHold Numbered b.held
  held_numbers =
      holds.each_map (λ h. (h.content ≡ s.content h.resource) × (W.is_resource h.resource ≡ true)) Numbered b.held
      (λ h e. subst (λ (c : Shown). MayFailAt P h.resource c.number) (sym e.0) (a.numbers h.resource e.1))
      (holds.each_both (λ h. h.content ≡ s.content h.resource) (λ h. W.is_resource h.resource ≡ true) b.held (a.board.contents k)
      (holds.each_map (Rattle.pgo_workers.specs.Sentences.Sound W P Reaches Good) (λ h. W.is_resource h.resource ≡ true) b.held (λ h s. s.3) (a.core.meets k there).sound))

  with_number : (r : ℕ) (c : Shown) (h : Hold) → hold_at b.held r ≡ Some h → c.number ≡ h.content.number → EachHold Numbered (with_content r c b.held)
  with_number r c h at e = holds.each_with Numbered r c b.held h at (subst (MayFailAt P h.resource) (sym e) (holds.hold_is Numbered b.held r h at held_numbers)) held_numbers

  aborted_numbers : (hs : List Hold) → EachHold Numbered hs → EachHold Numbered (aborted hs)
  aborted_numbers hs e = holds.each_aborted Numbered Numbered hs (λ h n. n) e

  back_numbers : (x : Walk) (hs : List Hold) → EachHold Numbered hs → EachHold Numbered (put_back x hs)
  back_numbers x hs n = go (goes_back x)
    where
      go : (b : Bool) → EachHold Numbered (if b then aborted hs else hs)
      go true = aborted_numbers hs n
      go false = n

  held_next : t.moved ≡ false → EachHold Numbered c.held
  held_next still = go v answer x
    where
      same : resources_of c.held ≡ resources_of b.held
      same = ap (λ k. resources_of (t.view k).held) (sym current) ∙ (leaves.moved still).1 ∙ ap (λ k. resources_of (s.view k).held) current

      to : (hs : List Hold) → c.held ≡ hs → EachHold Numbered hs → EachHold Numbered c.held
      to hs e n = subst (EachHold Numbered) (sym e) n

      go : (v : Worker) (answer : Turn) → Turned W P (ws k) b v c answer → EachHold Numbered c.held
      go v answer (TIdle ended worker board' answer') = to b.held (ap (λ (c : View D). c.held) board') held_numbers
      go v answer (TGave r rs giving first gv worker answer') =
          let here : among r (resources_of b.held) ≡ true = ap (among r) (sym (a.core.meets k there).taken ∙ first) ∙ ap (λ b. if b then true else among r rs) (let e : nat_eq r r ≡ true = grind arith in e) in
          let z : true ≡ false = sym here ∙ ap (among r) (sym same) ∙ ap (λ hs. among r (resources_of hs)) gv.held ∙ fewer b.held r in absurd (grind (arith, z))
      go v answer (TTook on r leave rest next' new tk worker answer') =
          absurd (longer (resources_of b.held) r (sym (holds.resources_append b.held _) ∙ ap resources_of (sym tk.held) ∙ same))
      go v answer (THeld on r h leave rest next' new d take board' worker answer') = to (aborted d.held) (ap (λ (c : View D). c.held) board') (aborted_numbers d.held (subst (EachHold Numbered) (sym take.held) held_numbers))
      go v answer (TOperated on r leave rest next' h held board' worker answer') =
          to _ (ap (λ (c : View D). c.held) board') (back_numbers (rest h.content.current) (with_content r (record h.content { current = leave h.content.current }) b.held) (with_number r (record h.content { current = leave h.content.current }) h held refl))
      go v answer (TReadied on o ps next' r at h held up board' worker answer') = to _ (ap (λ (c : View D). c.held) board') (with_number r (counted h.content) h held refl)
      go v answer (TDown on o ps next' r at h held down board' worker answer') = to _ (ap (λ (c : View D). c.held) board') (aborted_numbers (with_content r (counted h.content) b.held) (with_number r (counted h.content) h held refl))
      go v answer (TCommitted on o ps next' at n d commits board' worker answer') =
          to _ (ap (λ (c : View D). c.held) board' ∙ ap committed commits.held) (holds.each_committed Numbered Numbered _ b.held (λ h n. n) held_numbers)
      go v answer (TFull on o ps next' at n d full board' worker answer') = to (aborted d.held) (ap (λ (c : View D). c.held) board') (aborted_numbers d.held (subst (EachHold Numbered) (sym full.held) held_numbers))
      go v answer (TNoted on kind next' n d notes board' worker answer') = to (aborted b.held) (ap (λ (c : View D). c.held) board' ∙ notes.held) (aborted_numbers b.held held_numbers)
      go v answer (TJournal on e next' at h d held board' worker answer') = to (aborted d.held) (ap (λ (c : View D). c.held) board') (aborted_numbers d.held (subst (EachHold Numbered) (sym held.held) held_numbers))

  pub numbers_next : (r : ℕ) → W.is_resource r ≡ true → MayFailAt P r (t.content r).number
  numbers_next r is = go unmixed (among r (resources_of c.held)) refl
    where
      go : (t.lent ≡ false) ⊎ (t.moved ≡ false) → (x : Bool) → among r (resources_of c.held) ≡ x → MayFailAt P r (t.content r).number
      go (inl lent) x e = subst (λ (c : Shown). MayFailAt P r c.number) (sym ((leaves.lent lent).1 r)) (a.numbers r is)
      go (inr moved) true e =
          let h = holds.held_there c.held r e in
          let named = holds.hold_named c.held r h.0 h.1 in
          let n = holds.hold_is Numbered c.held r h.0 h.1 (held_next moved) in
          let shown = holds.hold_is (λ h. h.content ≡ t.content h.resource) c.held r h.0 h.1 (board.contents k) in
          subst (λ r. MayFailAt P r (t.content r).number) named (subst (λ (c : Shown). MayFailAt P h.0.resource c.number) shown n)
      go (inr moved) false e = subst (λ (c : Shown). MayFailAt P r c.number) (sym (as_it_was r e)) (a.numbers r is)

  -- the record that the answer tells is added to those of k, and no other
  pub told_next : (next.workers k).records ≡ (m.workers k).records ++ record_of answer
  told_next = stands_next.records ∙ go v answer x ∙ ap (λ l. l ++ record_of answer) (sym (a.core.stands k there).records)
    where
      none : (v : Worker) (answer : Turn) (l : List Record) → v.records ≡ l → record_of answer ≡ [] → v.records ≡ l ++ record_of answer
      none v answer l e f = e ∙ append_none l ∙ ap (λ r. l ++ r) (sym f)

      one : (v : Worker) (answer : Turn) (l : List Record) (x : Record) → v.records ≡ l ++ (x ∷ []) → record_of answer ≡ x ∷ [] → v.records ≡ l ++ record_of answer
      one v answer l x e f = e ∙ ap (λ r. l ++ r) (sym f)

      go : (v : Worker) (answer : Turn) → Turned W P (ws k) b v c answer → v.records ≡ (ws k).records ++ record_of answer
      go v answer (TIdle ended worker board' answer') = none v answer (ws k).records (ap (λ (v : Worker). v.records) worker) (ap record_of answer')
      go v answer (TGave r rs giving first gv worker answer') = none v answer (ws k).records (ap (λ (v : Worker). v.records) worker) (ap record_of answer')
      go v answer (TTook on r leave rest next' new tk worker answer') = none v answer (ws k).records (ap (λ (v : Worker). v.records) worker) (ap record_of answer')
      go v answer (THeld on r h leave rest next' new d take board' worker answer') = one v answer (ws k).records (Held r h) (ap (λ (v : Worker). v.records) worker) (ap record_of answer')
      go v answer (TOperated on r leave rest next' h held board' worker answer') = none v answer (ws k).records (ap (λ (v : Worker). v.records) worker) (ap record_of answer')
      go v answer (TReadied on o ps next' r at h held up board' worker answer') = none v answer (ws k).records (ap (λ (v : Worker). v.records) worker) (ap record_of answer')
      go v answer (TDown on o ps next' r at h held down board' worker answer') = one v answer (ws k).records (Down r _) (ap (λ (v : Worker). v.records) worker) (ap record_of answer')
      go v answer (TCommitted on o ps next' at n d commits board' worker answer') = one v answer (ws k).records (Step n) (ap (λ (v : Worker). v.records) worker) (ap record_of answer')
      go v answer (TFull on o ps next' at n d full board' worker answer') = one v answer (ws k).records (Full n) (ap (λ (v : Worker). v.records) worker) (ap record_of answer')
      go v answer (TNoted on kind next' n d notes board' worker answer') = one v answer (ws k).records (Noted kind n) (ap (λ (v : Worker). v.records) worker) (ap record_of answer')
      go v answer (TJournal on e next' at h d held board' worker answer') = one v answer (ws k).records (Held _ h) (ap (λ (v : Worker). v.records) worker) (ap record_of answer')

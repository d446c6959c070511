-- A turn of one instance over a board of all is alone: nobody else adds to the journal, refusals name the holder, and what is
-- taken is as the journal has it.
use Rattle.std.proofs.Common.{◌≡◌, ◌≤◌, ◌<◌, ℕ, suc, ◌+◌, Bool, true, false, List, [], ◌∷◌, ◌++◌, length, Option, Some, None, refl, sym, ap, ◌∙◌, subst, arith, ◌⊎◌, inl, inr, length-append, lt-ltb}
use Rattle.std.specs.Prelude.{if◌then◌else◌, nat_eq, nat_lt}
use Rattle.pgo_model.specs.Machine.{Machine, among, last_state}
use Rattle.pgo_model.specs.MachineAccounts.{equal_or}
use Rattle.pgo_model.specs.Accounts.{journal}
use Rattle.pgo_workers.specs.View.{Shown, raised, Hold, View, World, IsHeld, EachHold, Grows, resources_of, state, hold_at, positioned}
use Rattle.pgo_workers.specs.Worker.{Program, Worker, Turn, Turned, TIdle, TGave, TTook, THeld, TOperated, TReadied, TDown, TCommitted, TFull, TNoted, TJournal, fails_at, entry, note}
use Rattle.pgo_workers.specs.Sentences.{Runs, Sound}
use Rattle.pgo_workers.specs.Holds as holds
use Rattle.pgo_workers.specs.CoreSteps.{R}
use Rattle.pgo_workers.specs.CoreStands.{Differs, Alone, Counting}
use Rattle.pgo_workers.specs.CoreTurns.{IsCore}
use Rattle.pgo_core.specs.AllViews.{AllViews, AllOf, AllNotesOf, Leaves, IsBoard}
use Rattle.pgo_core.proofs.Journals.{same_entries, same_notes, more_entries, more_notes}

pub longer : (l : List ℕ) (x : ℕ) → l ++ (x ∷ []) ≡ l → ⊥
longer l x e = let a = ap length e in let b = length-append l (x ∷ []) in omega (arith, a, b)

-- the last of some
each_last : (Q : Hold → Type 0) (hs : List Hold) (h : Hold) → EachHold Q (hs ++ (h ∷ [])) → Q h
each_last Q [] h e = e.0
each_last Q (x ∷ hs) h e = each_last Q hs h e.1

-- a content says that it is the resource's, or nothing fails there
abbrev pub MayFailAt : {S D : Type 0} → Program S D → ℕ → Option ℕ → Type 0
MayFailAt P r number = (number ≡ Some r) ⊎ ((n : ℕ) → P.fails r n ≡ false)

module _ {S D : Type 0} (W : World S D) (P : Program S D) (Reaches : ℕ → ℕ → Type 0) (Good : S → Type 0) (runs : Runs W P Reaches Good) (differs : Differs W P Reaches Good runs) where
  -- a core over a board of all instances, at a machine
  pub record IsAt (m : Machine D) (ws : ℕ → Worker) (s : AllViews D) : Type 0 where
    pub core : IsCore W P Reaches Good runs differs m ws s.view
    pub board : IsBoard W s
    pub good : Good (last_state (R W P Reaches Good runs) m)
    pub holders : (r h : ℕ) → m.holder r ≡ Some h → nat_lt h P.instances ≡ true
    pub counts : (r : ℕ) → m.counts r ≡ (s.content r).count
    pub small : (r : ℕ) → m.counts r < 18446744073709551615
    pub numbers : (r : ℕ) → W.is_resource r ≡ true → MayFailAt P r (s.content r).number
    pub few : W.is_resource journal ≡ false

  module _ (m : Machine D) (ws : ℕ → Worker) (s t : AllViews D) (k : ℕ) (current : s.current ≡ k) (there : nat_lt k P.instances ≡ true) (a : IsAt m ws s) (board : IsBoard W t) (leaves : Leaves s t) where
    abbrev pub b : View D
    b = s.view k

    abbrev pub c : View D
    c = t.view k

    is_k : b.instance ≡ k
    is_k = a.board.instance k

    entries_of : AllOf k leaves.entries_more
    entries_of = subst (λ k. AllOf k leaves.entries_more) current leaves.entries_of

    notes_of : AllNotesOf k leaves.notes_more
    notes_of = subst (λ k. AllNotesOf k leaves.notes_more) current leaves.notes_of

    same_as : (d : View D) → c.entries ≡ d.entries → c.notes ≡ d.notes → Grows W b d → (d.entries ≡ b.entries) × (d.notes ≡ b.notes)
    same_as d es ns g = (
      same_entries k b.instance b.entries d.entries leaves.entries_more g.entries_more (sym es ∙ leaves.entries k) entries_of g.entries g.others is_k,
      same_notes k b.instance b.notes d.notes leaves.notes_more g.notes_more (sym ns ∙ leaves.notes k) notes_of g.notes g.other_notes is_k,
    )

    -- who holds a resource after the turn, and isn't k, held it before
    held_before : (r h : ℕ) → (h ≡ k → ⊥) → among r (resources_of (t.view h).held) ≡ true → among r (resources_of (s.view h).held) ≡ true
    held_before r h n e = ap (λ hs. among r (resources_of hs)) (sym (leaves.held h (λ q. n (q ∙ current)))) ∙ e

    holds_it : (r h : ℕ) → nat_lt h P.instances ≡ true → among r (resources_of (s.view h).held) ≡ true → m.holder r ≡ Some h
    holds_it r h l e = (a.core.stands h l).mine r (ap (among r) (a.core.meets h l).taken ∙ e)

    -- the last refusal names the holder
    refused_by : (r h : ℕ) → (h ≡ b.instance → ⊥) → h < W.instances → c.last ≡ Some (IsHeld r h) → (m.holder r ≡ Some h) × (W.is_resource r ≡ true)
    refused_by r h other inside last =
        let l : nat_lt h P.instances ≡ true = lt-ltb h P.instances (subst (λ n. h < n) runs.instances inside) in
        let now = board.last r h ((λ i. (t.view ((leaves.current ∙ current) i)).last) ∙ last) in
        let earlier = held_before r h (λ q. other (q ∙ sym is_k)) now in
        let at = holds.held_there (s.view h).held r earlier in
        (holds_it r h l earlier, ap W.is_resource (sym (holds.hold_named (s.view h).held r at.0 at.1)) ∙ (holds.hold_is (Sound W P Reaches Good) (s.view h).held r at.0 at.1 (a.core.meets h l).sound).3)

    -- a resource that comes was nobody's
    free : (w : Worker) → w ≡ ws k → (r : ℕ) → among r w.taken ≡ false → among r (resources_of c.held) ≡ true → m.holder r ≡ None
    free w same r new comes = go (m.holder r) refl
      where
        by_case : (h : ℕ) → m.holder r ≡ Some h → (x : Bool) → nat_eq h k ≡ x → ⊥
        by_case h e true q =
            let mine = (a.core.stands k there).theirs r (e ∙ ap Some ((equal_or h k true q).0 refl)) in
            let z : true ≡ false = sym mine ∙ ap (λ (w : Worker). among r w.taken) (sym same) ∙ new in grind (arith, z)
        by_case h e false q =
            let n = (equal_or h k false q).1 refl in
            let l = a.holders r h e in
            let earlier : among r (resources_of (s.view h).held) ≡ true = ap (among r) (sym (a.core.meets h l).taken) ∙ (a.core.stands h l).theirs r e in
            n (board.apart h k r (ap (λ hs. among r (resources_of hs)) (leaves.held h (λ q. n (q ∙ current))) ∙ earlier) comes)

        go : (o : Option ℕ) → m.holder r ≡ o → o ≡ None
        go None e = refl
        go (Some h) e = absurd (by_case h e (nat_eq h k) refl)

    -- a content that is taken is as it was
    untouched : ((t.lent ≡ false) ⊎ (t.moved ≡ false)) → (r : ℕ) → (h : Hold) → c.held ≡ b.held ++ (h ∷ []) → t.content r ≡ s.content r
    untouched (inl lent) r h e = (leaves.lent lent).1 r
    untouched (inr moved) r h e =
        let same : resources_of c.held ≡ resources_of b.held = ap (λ k. resources_of (t.view k).held) (sym current) ∙ (leaves.moved moved).1 ∙ ap (λ k. resources_of (s.view k).held) current in
        absurd (longer (resources_of b.held) h.resource (sym (holds.resources_append b.held (h ∷ [])) ∙ ap resources_of (sym e) ∙ same))

    counting : (r : ℕ) (h : Hold) → hold_at b.held r ≡ Some h → Counting W P Reaches Good runs differs m k (ws k) b (a.core.stands k there) (a.core.meets k there) a.good there h
    counting r h at = record { up = up h.content.count (subst (λ n. n < 18446744073709551615) count (a.small h.resource)); fails = fails h.content.number (ap (λ (c : Shown). c.number) shows) sound.2 (a.numbers h.resource sound.3) }
      where
        shows : h.content ≡ s.content h.resource
        shows = holds.hold_is (λ h. h.content ≡ s.content h.resource) b.held r h at (a.board.contents k)

        sound : Sound W P Reaches Good h
        sound = holds.hold_is (Sound W P Reaches Good) b.held r h at (a.core.meets k there).sound

        count : m.counts h.resource ≡ h.content.count
        count = a.counts h.resource ∙ sym (ap (λ (c : Shown). c.count) shows)

        up : (n : ℕ) → n < 18446744073709551615 → raised n ≡ suc n
        up n l = ap (λ x. if x then n + 1 else n) (lt-ltb n 18446744073709551615 l) ∙ (let e : n + 1 ≡ suc n = omega arith in e)

        fails : (o : Option ℕ) → o ≡ (s.content h.resource).number → (o ≡ None) ⊎ (o ≡ Some h.resource) → MayFailAt P h.resource (s.content h.resource).number
            → fails_at W P o (raised h.content.count) ≡ P.fails h.resource (raised h.content.count)
        fails o e (inr is) f = ap (λ o. fails_at W P o (raised h.content.count)) is
        fails o e (inl none) (inl is) = absurd (let z : None ≡ Some h.resource = sym none ∙ e ∙ is in grind (arith, z))
        fails o e (inl none) (inr f) = ap (λ o. fails_at W P o (raised h.content.count)) none ∙ sym (f (raised h.content.count))

    among_end : (l : List ℕ) (r : ℕ) → among r (l ++ (r ∷ [])) ≡ true
    among_end [] r = let e : nat_eq r r ≡ true = grind arith in ap (λ b. if b then true else false) e
    among_end (x ∷ l) r = go (nat_eq r x) (among_end l r)
      where
        go : (x : Bool) {y : Bool} → y ≡ true → (if x then true else y) ≡ true
        go true e = refl
        go false e = e

    -- the turn is alone
    pub alone : (v : Worker) (answer : Turn) (x : Turned W P (ws k) b v c answer) → (t.lent ≡ false) ⊎ (t.moved ≡ false)
        → Alone W P Reaches Good runs differs m k (ws k) b (a.core.stands k there) (a.core.meets k there) a.good there v c answer x
    alone v answer (TIdle ended worker board' answer') u = tt
    alone v answer (TGave r rs giving first gives worker answer') u = same_as c refl refl gives.grows
    alone v answer (TTook on r leave rest next new takes worker answer') u =
        let e = same_as c refl refl takes.grows in
        let h : Hold = record { resource = r; value = takes.value; count = takes.count; content = record { base = takes.value; current = takes.value; count = takes.count; number = takes.number } } in
        let comes : among r (resources_of c.held) ≡ true = ap (λ hs. among r (resources_of hs)) takes.held ∙ ap (among r) (holds.resources_append b.held (h ∷ [])) ∙ among_end (resources_of b.held) r in
        let value = each_last (λ h. W.value (state W c.entries (length c.entries)) h.resource ≡ h.value) b.held h (subst (EachHold (λ h. W.value (state W c.entries (length c.entries)) h.resource ≡ h.value)) takes.held (board.values k)) in
        let shown = each_last (λ h. h.content ≡ t.content h.resource) b.held h (subst (EachHold (λ h. h.content ≡ t.content h.resource)) takes.held (board.contents k)) in (
          e.0,
          e.1,
          free (ws k) refl r new comes,
          sym value ∙ ap (λ l. W.value (state W l (length l)) r) (e.0 ∙ (a.core.stands k there).entries),
          ap (λ (c : Shown). c.count) (shown ∙ untouched u r h takes.held) ∙ sym (a.counts r),
        )
    alone v answer (THeld on r h leave rest next new d take board' worker answer') u =
        let e = same_as d (ap (λ (c : View D). c.entries) board') (ap (λ (c : View D). c.notes) board') take.grows in
        (e.0, e.1, (refused_by r h take.other take.there (ap (λ (c : View D). c.last) board' ∙ take.last)).0)
    alone v answer (TOperated on r leave rest next h held board' worker answer') u = tt
    alone v answer (TReadied on o ps next r at h held up board' worker answer') u = counting r h held
    alone v answer (TDown on o ps next r at h held down board' worker answer') u = counting r h held
    alone v answer (TCommitted on o ps next at n d commits board' worker answer') u =
        let e = entry W P (ws k) b.held o ps in
        let es : d.entries ≡ b.entries ++ (e ∷ []) =
        more_entries k b.instance b.entries d.entries leaves.entries_more commits.entries_more (e ∷ []) (sym (ap (λ (c : View D). c.entries) board') ∙ leaves.entries k) entries_of commits.entries commits.others is_k in
        let ns : d.notes ≡ b.notes =
        same_notes k b.instance b.notes d.notes leaves.notes_more commits.notes_more (sym (ap (λ (c : View D). c.notes) board') ∙ leaves.notes k) notes_of commits.notes commits.other_notes is_k in
        let room : length c.entries ≤ P.steps = subst (λ n. length c.entries ≤ n) ((leaves.same k).steps ∙ (a.core.meets k there).steps) (board.room k) in
        let grew : length c.entries ≡ length b.entries + 1 = ap (λ (c : View D). length c.entries) board' ∙ ap length es ∙ length-append b.entries (e ∷ []) in
        let earlier : length b.entries ≡ length m.entries = ap length (a.core.stands k there).entries in
        (es, ns, λ q. omega (arith, room, grew, earlier, q))
    alone v answer (TFull on o ps next at n d full board' worker answer') u = same_as d (ap (λ (c : View D). c.entries) board') (ap (λ (c : View D). c.notes) board') full.grows
    alone v answer (TNoted on kind next n d notes board' worker answer') u = (
      same_entries k b.instance b.entries d.entries leaves.entries_more notes.entries_more (sym (ap (λ (c : View D). c.entries) board') ∙ leaves.entries k) entries_of notes.entries notes.others is_k,
      more_notes k b.instance b.notes d.notes leaves.notes_more notes.notes_more (positioned (note W P (ws k) kind) n ∷ []) (sym (ap (λ (c : View D). c.notes) board') ∙ leaves.notes k) notes_of notes.notes notes.other_notes is_k,
    )
    alone v answer (TJournal on e next at h d held board' worker answer') u =
        let q = refused_by journal h held.other held.there (ap (λ (c : View D). c.last) board' ∙ held.last) in
        let z : true ≡ false = sym q.1 ∙ a.few in grind (arith, z)

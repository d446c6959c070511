-- A commit, a note and a give keep what worker and board meet in; so does each turn.
use Rattle.std.proofs.Common.{◌≡◌, ◌≤◌, ◌<◌, ℕ, zero, suc, Bool, true, false, List, [], ◌∷◌, ◌++◌, length, map, Option, Some, None, refl, sym, ap, ◌∙◌, subst, arith, ◌⊎◌, inl, inr, length-append}
use Rattle.std.proofs.lemmas.Option.{same_Some}
use Rattle.std.specs.Prelude.{if◌then◌else◌, nat_eq}
use Rattle.pgo_base.specs.Data.{Data}
use Rattle.pgo_model.specs.Outcome.{Kind, Next, Stuck}
use Rattle.pgo_model.specs.Machine.{Entry, Note, Record, Step, Noted, Held, Down, Full, among, nth, is_empty}
use Rattle.pgo_model.specs.MachineLists.{nth_last, nth_below, nth_end}
use Rattle.pgo_model.specs.Accounts.{ComesAfter, journal}
use Rattle.pgo_workers.specs.Walk.{Own, Goes, Sticks, Stop, Agrees, visits, visits_from, ending, ending_from, final, final_from, settled, taken_after, append_assoc}
use Rattle.pgo_workers.specs.View.{Shown, raised, Hold, Taking, Told, View, World, Others, OtherNotes, EachHold, IsSteady, Once, Same, hold_at, without, resources_of, values_of, nows_of, with_content, aborted, committed, renewed, changed, passing, notes_of, positioned, state, own_left, own_seen, Commits, Notes, Gives, StandsAt, untold}
use Rattle.pgo_workers.specs.Worker.{Program, Phase, Resting, Walking, Giving, Worker, Turn, Turned, TIdle, TGave, TTook, THeld, TOperated, TReadied, TDown, TCommitted, TFull, TNoted, TJournal, changes_of, with_held, finished, walks_on, attempt, rest_of, readied_of, Goes_on, is_giving, counted, entry, note}
use Rattle.pgo_workers.specs.Sentences.{refusals, downs, Sub, flat, Tells, AccountsOfOne, AllGood, OwnThen, History, Under, PassedBy, Place, TakenNow, Lists, Sound, Meets, Runs, changes_at}
use Rattle.pgo_workers.specs.OneAccounts.{along_next, state_kept, own_then_grows, accounts_add, other_at, other_note_at, nth_either, no_notes_of, notes_of_append}
use Rattle.pgo_workers.specs.Holds as holds
use Rattle.pgo_workers.specs.Kept.{own_is, left_is, accounts_seen, under, running, all_taken, under_operated, under_readied, own_grows, own_then_seen, history_grows, history_ends, took, nil_append}
use Rattle.pgo_workers.specs.Backs.{meets_back}
use Rattle.pgo_workers.specs.Ends.{ends, changes_on, was_held, journal_held, was_full, was_down}

eq_true : (a b : ℕ) → a ≡ b → nat_eq a b ≡ true
eq_true a b e = grind (arith, e)

cons_nil : (q : ℕ) (l : List ℕ) → q ∷ l ≡ [] → ⊥
cons_nil q l z = grind (arith, z)

module _ {S D : Type 0} (W : World S D) (P : Program S D) (Reaches : ℕ → ℕ → Type 0) (Good : S → Type 0) (runs : Runs W P Reaches Good) where
  -- an old record's entry or position is in the journal
  step_later : (k i l : ℕ) (es : List (Entry D)) (ns : List Note) (y : Record) → length es ≤ l → Tells W P Reaches Good k es ns i y → ComesAfter (Step (suc l)) y
  step_later k i l es ns (Step q) h t = let b = nth_below es t.0 t.1 t.3 in let e = t.2 in omega (arith, h, b, e)
  step_later k i l es ns (Noted kind p) h t = let b = t.2 in omega (arith, h, b)
  step_later k i l es ns (Held r g) h t = tt
  step_later k i l es ns (Down r o) h t = tt
  step_later k i l es ns (Full n) h t = tt

  note_later : (k i l : ℕ) (es : List (Entry D)) (ns : List Note) (kind : Kind) (y : Record) → length es ≤ l → Tells W P Reaches Good k es ns i y → ComesAfter (Noted kind l) y
  note_later k i l es ns kind (Step q) h t = let b = nth_below es t.0 t.1 t.3 in let e = t.2 in omega (arith, h, b, e)
  note_later k i l es ns kind (Noted kind' p) h t = tt
  note_later k i l es ns kind (Held r g) h t = tt
  note_later k i l es ns kind (Down r o) h t = tt
  note_later k i l es ns kind (Full n) h t = tt

  step_of : (a b : ℕ) → a ≡ b → Step a ≡ Step b
  step_of a b e = ap Step e

  -- where a new entry of k's stands
  new_place : {A : Type 0} (l more : List A) (e : A) (y : A) (p : ℕ) → (Bad : A → Type 0) → ((j : ℕ) → nth more j ≡ Some y → ⊥) → nth ((l ++ more) ++ (e ∷ [])) p ≡ Some y → length l ≤ p → p ≡ length (l ++ more)
  new_place l more e y p Bad none h le = go (nth_end (l ++ more) e p y h)
    where
      go : (nth (l ++ more) p ≡ Some y) ⊎ ((p ≡ length (l ++ more)) × (e ≡ y)) → p ≡ length (l ++ more)
      go (inr q) = q.0
      go (inl q) = at (nth_either l more p y q)
        where
          at : (nth l p ≡ Some y) ⊎ ((j : ℕ) × (nth more j ≡ Some y) × (length l ≤ p)) → p ≡ length (l ++ more)
          at (inl q) = let b = nth_below l p y q in absurd (omega (arith, b, le))
          at (inr q) = absurd (none q.0 q.1)

  -- on the state before the record that was accepted, the attempt's section is what the worker walked
  agrees : (b : View D) (l : List (Entry D)) → EachHold IsSteady b.held → StandsAt W b l → Agrees (values_of b.held) (W.value (state W l (length l)))
  agrees b l steady s = holds.agrees_values b.held (W.value (state W l (length l))) s.values steady

  steady : (hs : List Hold) → EachHold (Sound W P Reaches Good) hs → EachHold IsSteady hs
  steady hs s = holds.each_map (Sound W P Reaches Good) IsSteady hs (λ h s. s.0) s

  -- the section's end on that state
  pub next_there : (w : Worker) (b : View D) (on : Goes_on W P w) (o : Own) (ps : List Data) → rest_of W P w w.phase ≡ Stop (Goes o ps) → (l : List (Entry D)) → StandsAt W b l → Meets W P Reaches Good w b → Good (state W l (length l))
      → (P.sect w.number (attempt w) (state W l (length l))).end ≡ Next (W.patched (state W l (length l)) (P.effect w.number w.own o (changes_of b.held) ps)) ps
  next_there w b on o ps is l s m good =
      let u = under W P Reaches Good runs w b m on in
      let st = state W l (length l) in let f = W.value st in let w0 = P.tree w.number (attempt w) w.own in
      let own : W.own st w.number ≡ w.own = ap (W.own st) (sym m.instance) ∙ s.own ∙ sym m.own in
      let a = agrees b l (steady b.held m.sound) s in
      let q = u.along f a in
      let end : ending w0 f ≡ Goes o ps = q.1.ends ∙ ap (λ x. ending_from f x q.0) is in
      let taken : taken_after (visits w0 f) [] ≡ resources_of b.held = ap (λ t. taken_after t []) (q.1.trace ∙ ap (λ x. u.accesses ++ visits_from f x q.0) is ∙ nil_append u.accesses) ∙ all_taken W P Reaches Good runs w b (rest_of W P w w.phase) (readied_of W P w.phase) (Goes o ps) is u in
      let last : Agrees (nows_of b.held) (final w0 f) = holds.agrees_along (nows_of b.held) (final w0 f) q.0 (λ r. q.1.leaves r ∙ ap (λ x. final_from f x q.0 r) is) q.2 in
      let cs : changes_at (taken_after (visits w0 f) []) f (final w0 f) ≡ changes_of b.held = ap (λ t. changes_at t f (final w0 f)) taken ∙ holds.changes_agree b.held f (final w0 f) (steady b.held m.sound) a last in
      runs.next w.number (attempt w) st o ps good m.number (runs.done w.number st good ∙ ap (P.is_done w.number) own ∙ u.not_done) (ap (λ o. ending (P.tree w.number (attempt w) o) f) own ∙ end)
      ∙ (λ i. Next (W.patched st (P.effect w.number (own i) o (changes_at (taken_after (visits (P.tree w.number (attempt w) (own i)) f) []) f (final (P.tree w.number (attempt w) (own i)) f)) ps)) ps)
      ∙ ap (λ cs. Next (W.patched st (P.effect w.number w.own o cs ps)) ps) cs

  pub stuck_there : (w : Worker) (b : View D) (on : Goes_on W P w) (kind : Kind) → rest_of W P w w.phase ≡ Stop (Sticks kind) → (l : List (Entry D)) → StandsAt W (with_held (aborted b.held) b) l → Meets W P Reaches Good w b → Good (state W l (length l))
      → (P.sect w.number (attempt w) (state W l (length l))).end ≡ Stuck kind
  stuck_there w b on kind is l s m good =
      let u = under W P Reaches Good runs w b m on in
      let st = state W l (length l) in let f = W.value st in let w0 = P.tree w.number (attempt w) w.own in
      let own : W.own st w.number ≡ w.own = ap (W.own st) (sym m.instance) ∙ s.own ∙ sym m.own in
      let sound : EachHold IsSteady (aborted b.held) = holds.each_aborted (Sound W P Reaches Good) IsSteady b.held (λ h s. s.0) m.sound in
      let a : Agrees (values_of b.held) f = subst (λ vs. Agrees vs f) (holds.values_aborted b.held) (agrees (with_held (aborted b.held) b) l sound s) in
      let q = u.along f a in
      runs.stuck w.number (attempt w) st kind good m.number (runs.done w.number st good ∙ ap (P.is_done w.number) own ∙ u.not_done) (ap (λ o. ending (P.tree w.number (attempt w) o) f) own ∙ q.1.ends ∙ ap (λ x. ending_from f x q.0) is)

  pub was_committed : (w : Worker) (b d : View D) (on : Goes_on W P w) (o : Own) (ps : List Data) → rest_of W P w w.phase ≡ Stop (Goes o ps) → (n : ℕ) → Commits W (entry W P w b.held o ps) n b d
      → length d.entries ≤ d.steps → Meets W P Reaches Good w b → Meets W P Reaches Good (record (finished (Step n) w) { own = o }) (with_held (committed d.held) d)
  was_committed w b d on o ps is n t room m =
      let u = under W P Reaches Good runs w b m on in
      let k = w.number in
      let e : Entry D = entry W P w b.held o ps in
      let l = b.entries ++ t.entries_more in
      let cs = W.changes e.change in
      let others : Others k t.entries_more = subst (λ k. Others k t.entries_more) m.instance t.others in
      let other_notes : OtherNotes k t.notes_more = subst (λ k. OtherNotes k t.notes_more) m.instance t.other_notes in
      let once : Once (resources_of b.held) = subst Once m.taken m.once in
      let whole : d.entries ≡ b.entries ++ (t.entries_more ++ (e ∷ [])) = t.entries ∙ append_assoc b.entries t.entries_more (e ∷ []) in
      let len : length d.entries ≡ suc (length l) = (let a = ap length t.entries in let c = length-append l (e ∷ []) in omega (arith, a, c)) in
      let number : n ≡ suc (length l) = t.number ∙ len in
      let own_before_is = own_is W P Reaches Good runs w b m in
      let left = left_is W P Reaches Good runs w b (readied_of W P w.phase) o ps (rest_of W P w w.phase) is u in
      let own : own_seen W d ≡ o =
      (λ i. own_left W ((t.same.instance ∙ m.instance) i) (W.own W.start ((t.same.instance ∙ m.instance) i)) (t.entries i)) ∙ holds.own_left_append W k (W.own W.start k) l (e ∷ [])
      ∙ ap (λ o. own_left W k o (e ∷ [])) (holds.own_left_append W k (W.own W.start k) b.entries t.entries_more ∙ holds.own_left_others W k (own_left W k (W.own W.start k) b.entries) t.entries_more others ∙ (λ i. own_left W (sym m.instance i) (W.own W.start (sym m.instance i)) b.entries) ∙ sym m.own)
      ∙ holds.own_left_one W k w.own e refl ∙ runs.owned k w.own o (changes_of b.held) ps own_before_is left in
      let patched : state W d.entries (suc (length l)) ≡ W.patched (state W l (length l)) e.change = ap (λ es. state W es (suc (length l))) t.entries ∙ along_next W.patched W.start l e in
      let own_before : W.own (state W l (length l)) k ≡ w.own = ap (W.own (state W l (length l))) (sym m.instance) ∙ t.stands.own ∙ sym m.own in
      let resources : EachHold (λ h. W.is_resource h.resource ≡ true) b.held = holds.each_map (Sound W P Reaches Good) (λ h. W.is_resource h.resource ≡ true) b.held (λ h s. s.3) m.sound in
      let below : length l ≤ length d.entries = omega (arith, len) in
      let before : state W d.entries (length l) ≡ state W l (length l) = ap (λ es. state W es (length l)) t.entries ∙ state_kept W l (e ∷ []) (length l) (omega arith) in
      let new_own : AllGood W Good d.entries → W.own (state W d.entries (suc (length l))) k ≡ o =
      (λ good. ap (λ s. W.own s k) patched
      ∙ runs.own_patched k (state W l (length l)) w.own o b.held ps (subst Good before (good (length l) below)) left once resources own_before t.stands.values) in
      let renews = runs.renews k w.own o b.held ps once in
      let hs : List Hold = committed d.held in
      let is_hs : hs ≡ committed (renewed cs b.held) = ap committed t.held in
      let both = holds.each_both (Sound W P Reaches Good) (λ h. changed cs h.resource h.content.base ≡ h.content.current) b.held m.sound renews in
      let sound : EachHold (Sound W P Reaches Good) hs = subst (EachHold (Sound W P Reaches Good)) (sym is_hs)
      (holds.each_committed (λ h. Sound W P Reaches Good h × (changed cs h.resource h.content.base ≡ h.content.current)) (Sound W P Reaches Good) cs b.held (λ h q. (sym q.1 ∙ ap (changed cs h.resource) q.0.0, q.0.1, q.0.2, q.0.3)) both) in
      let back : EachHold (λ h. h.content.current ≡ h.value) hs = subst (EachHold (λ h. h.content.current ≡ h.value)) (sym is_hs)
      (holds.each_committed (λ h. Sound W P Reaches Good h × (changed cs h.resource h.content.base ≡ h.content.current)) (λ h. h.content.current ≡ h.value) cs b.held (λ h q. sym q.1 ∙ ap (changed cs h.resource) q.0.0) both) in
      let grown : length (b.entries ++ (t.entries_more ++ (e ∷ []))) ≤ P.steps = subst (λ es. length es ≤ P.steps) whole (subst (λ n. length d.entries ≤ n) (t.same.steps ∙ m.steps) room) in
      let at_e : nth d.entries (length l) ≡ Some e = ap (λ es. nth es (length l)) t.entries ∙ nth_last l e in
      let tells : Tells W P Reaches Good k d.entries d.notes (length w.records) (Step n) = (
        length l,
        e,
        number,
        at_e,
        refl,
        refl,
        λ good.
            ap (λ s. (P.sect k (attempt w) s).end) before ∙ next_there w b on o ps is l t.stands m (subst Good before good) ∙ (λ i. Next (sym patched i) (sym (runs.printed k w.own o (changes_of b.held) ps) i)),
      ) in
      let accounts : AccountsOfOne W P Reaches Good k d.entries d.notes (w.records ++ (Step n ∷ [])) =
      subst (λ es. AccountsOfOne W P Reaches Good k es d.notes (w.records ++ (Step n ∷ []))) (sym whole)
      (subst (λ ns. AccountsOfOne W P Reaches Good k (b.entries ++ (t.entries_more ++ (e ∷ []))) ns (w.records ++ (Step n ∷ []))) (sym t.notes)
      (accounts_add W P Reaches Good k b.entries (t.entries_more ++ (e ∷ [])) b.notes t.notes_more w.records (Step n) (record {
        room = grown;
        new = subst (λ es. Tells W P Reaches Good k es (b.notes ++ t.notes_more) (length w.records) (Step n)) whole (subst (λ ns. Tells W P Reaches Good k d.entries ns (length w.records) (Step n)) t.notes tells);
        steps = λ j y h i p q le. (
          attempt_of e t.entries_more others j y h i,
          ap Step (number ∙ ap suc (sym (new_place b.entries t.entries_more e y p (λ _. Unit {0}) (λ j z. other_at k t.entries_more j y others z i) (ap (λ es. nth es p) (append_assoc b.entries t.entries_more (e ∷ [])) ∙ q) le))),
        );
        notes = λ j y h i. absurd (other_note_at k t.notes_more j y other_notes h i);
        one_note = λ i j p q y z h f a c g v x r. absurd (other_note_at k t.notes_more i y other_notes h a);
        share = let z = no_notes_of k t.notes_more other_notes in omega (arith, z);
        fresh = λ i y h. subst (λ n. ComesAfter (Step n) y) (sym number) (step_later k i (length l) b.entries b.notes y (let a = length-append b.entries t.entries_more in omega (arith, a)) (m.accounts.told i y h));
        may = u.may;
      }) m.accounts)) in
      ends W P Reaches Good runs w b d o (Step n) hs t.same (ap resources_of is_hs ∙ holds.resources_committed cs b.held) sound back (sym own) (suc (length l), subst (λ n. suc (length l) ≤ n) (sym len) (omega arith), new_own) accounts
      (λ s told.
      let q = running W P Reaches Good runs w b s m on (sym t.told ∙ told) in
      record {
        refused = holds.refusals_append w.records (Step n ∷ []) ∙ nil_append (refusals w.records) ∙ q.refused;
        passed = subst (λ ds. Sub ds (s.passed ++ flat (map passing hs))) (sym (holds.downs_append w.records (Step n ∷ []) ∙ nil_append (downs w.records))) (holds.sub_right (downs w.records) s.passed (flat (map passing hs)) q.passed);
        history = λ whole'. subst (λ es. History W P Reaches Good k es (w.records ++ (Step n ∷ [])) s.takes []) (sym whole)
            (history_grows W P Reaches Good runs k b.entries (t.entries_more ++ (e ∷ [])) (w.records ++ (Step n ∷ [])) s.takes []
            (history_ends W P Reaches Good runs k b.entries w.records (Step n) s.takes q.now (record { own = w.own; then_own = m.own_then; not_done = q.not_done; members = (q.taken whole').members; closes = tt }) (q.history whole')));
      })
      m
    where
      attempt_of : (e : Entry D) → (more : List (Entry D)) → Others w.number more → (j : ℕ) (y : Entry D) → nth (more ++ (e ∷ [])) j ≡ Some y → y.instance ≡ w.number → y.attempt ≡ e.attempt
      attempt_of e more others j y h i = go (nth_end more e j y h)
        where
          go : (nth more j ≡ Some y) ⊎ ((j ≡ length more) × (e ≡ y)) → y.attempt ≡ e.attempt
          go (inl q) = absurd (other_at w.number more j y others q i)
          go (inr q) = ap (λ (e : Entry D). e.attempt) (sym q.1)

  pub was_noted : (w : Worker) (b d : View D) (on : Goes_on W P w) (kind : Kind) → rest_of W P w w.phase ≡ Stop (Sticks kind) → (n : ℕ) → Notes W (note W P w kind) n (with_held (aborted b.held) b) d
      → length d.entries ≤ d.steps → Meets W P Reaches Good w b → Meets W P Reaches Good (finished (Noted kind n) w) d
  was_noted w b d on kind is n t room m =
      let u = under W P Reaches Good runs w b m on in
      let k = w.number in
      let x : Note = positioned (note W P w kind) n in
      let l = b.entries ++ t.entries_more in
      let others : Others k t.entries_more = subst (λ k. Others k t.entries_more) m.instance t.others in
      let other_notes : OtherNotes k t.notes_more = subst (λ k. OtherNotes k t.notes_more) m.instance t.other_notes in
      let whole : d.notes ≡ b.notes ++ (t.notes_more ++ (x ∷ [])) = t.notes ∙ append_assoc b.notes t.notes_more (x ∷ []) in
      let len : n ≡ length l = t.position_is ∙ ap length t.entries in
      let same : Same b d = record { instance = t.same.instance; resources = t.same.resources; steps = t.same.steps; share = t.same.share } in
      let grows : own_seen W d ≡ own_seen W b =
      (λ i. own_left W (t.same.instance i) (W.own W.start (t.same.instance i)) (t.entries i)) ∙ holds.own_left_append W b.instance (W.own W.start b.instance) b.entries t.entries_more
      ∙ holds.own_left_others W b.instance (own_left W b.instance (W.own W.start b.instance) b.entries) t.entries_more t.others in
      let hs = aborted b.held in
      let sound : EachHold (Sound W P Reaches Good) hs = holds.each_aborted (Sound W P Reaches Good) (Sound W P Reaches Good) b.held (λ h s. s) m.sound in
      let back : EachHold (λ h. h.content.current ≡ h.value) hs = holds.each_aborted (Sound W P Reaches Good) (λ h. h.content.current ≡ h.value) b.held (λ h s. s.0) m.sound in
      let at_x : nth d.notes (length (b.notes ++ t.notes_more)) ≡ Some (record { instance = k; attempt = suc (length w.records); kind = kind; position = n }) = ap (λ ns. nth ns (length (b.notes ++ t.notes_more))) t.notes ∙ nth_last (b.notes ++ t.notes_more) x in
      let below : n ≤ length d.entries = (let e = t.position_is in omega (arith, e)) in
      let tells : Tells W P Reaches Good k d.entries d.notes (length w.records) (Noted kind n) = (
        length (b.notes ++ t.notes_more),
        at_x,
        below,
        λ good.
            let at : state W d.entries n ≡ state W l (length l) = (λ i. state W (t.entries i) (len i)) in
            ap (λ s. (P.sect k (attempt w) s).end) at ∙ stuck_there w b on kind is l t.stands m (subst Good at good),
      ) in
      let accounts : AccountsOfOne W P Reaches Good k d.entries d.notes (w.records ++ (Noted kind n ∷ [])) =
      subst (λ ns. AccountsOfOne W P Reaches Good k d.entries ns (w.records ++ (Noted kind n ∷ []))) (sym whole)
      (subst (λ es. AccountsOfOne W P Reaches Good k es (b.notes ++ (t.notes_more ++ (x ∷ []))) (w.records ++ (Noted kind n ∷ []))) (sym t.entries)
      (accounts_add W P Reaches Good k b.entries t.entries_more b.notes (t.notes_more ++ (x ∷ [])) w.records (Noted kind n) (record {
        room = subst (λ es. length es ≤ P.steps) t.entries (subst (λ n. length d.entries ≤ n) (t.same.steps ∙ m.steps) room);
        new = subst (λ ns. Tells W P Reaches Good k (b.entries ++ t.entries_more) ns (length w.records) (Noted kind n)) whole (subst (λ es. Tells W P Reaches Good k es d.notes (length w.records) (Noted kind n)) t.entries tells);
        steps = λ j y h i p q le. absurd (other_at k t.entries_more j y others h i);
        notes = λ j y h i. told x t.notes_more other_notes j y h i refl;
        one_note = λ i j p q y z h f a c g v s r.
            new_place b.notes t.notes_more x y p (λ _. Unit {0}) (λ j e. other_note_at k t.notes_more j y other_notes e a) (ap (λ ns. nth ns p) (append_assoc b.notes t.notes_more (x ∷ [])) ∙ g) s
            ∙ sym (new_place b.notes t.notes_more x z q (λ _. Unit {0}) (λ j e. other_note_at k t.notes_more j z other_notes e c) (ap (λ ns. nth ns q) (append_assoc b.notes t.notes_more (x ∷ [])) ∙ v) r);
        share = let z = no_notes_of k t.notes_more other_notes in let a = notes_of_append k t.notes_more (x ∷ []) in let o = one_at x in omega (arith, z, a, o);
        fresh = λ i y h. subst (λ n. ComesAfter (Noted kind n) y) (sym len) (note_later k i (length l) b.entries b.notes kind y (let a = length-append b.entries t.entries_more in omega (arith, a)) (m.accounts.told i y h));
        may = u.may;
      }) m.accounts)) in
      subst (Meets W P Reaches Good (finished (Noted kind n) w)) (λ i. record d { held = sym t.held i })
      (ends W P Reaches Good runs w b d w.own (Noted kind n) hs same (holds.resources_aborted b.held) sound back (m.own ∙ sym grows)
      (subst (λ es. OwnThen W Good k es w.own) (sym t.entries) (own_then_grows W Good k b.entries t.entries_more w.own m.own_then)) accounts
      (λ s told.
      let q = running W P Reaches Good runs w b s m on (sym t.told ∙ told) in
      record {
        refused = holds.refusals_append w.records (Noted kind n ∷ []) ∙ nil_append (refusals w.records) ∙ q.refused;
        passed = subst (λ ds. Sub ds (s.passed ++ flat (map passing hs))) (sym (holds.downs_append w.records (Noted kind n ∷ []) ∙ nil_append (downs w.records))) (holds.sub_right (downs w.records) s.passed (flat (map passing hs)) q.passed);
        history = λ whole'. subst (λ es. History W P Reaches Good k es (w.records ++ (Noted kind n ∷ [])) s.takes []) (sym t.entries)
            (history_grows W P Reaches Good runs k b.entries t.entries_more (w.records ++ (Noted kind n ∷ [])) s.takes []
            (history_ends W P Reaches Good runs k b.entries w.records (Noted kind n) s.takes q.now (record { own = w.own; then_own = m.own_then; not_done = q.not_done; members = (q.taken whole').members; closes = tt }) (q.history whole')));
      })
      m)
    where
      one_at : (x : Note) → notes_of w.number (x ∷ []) ≤ 1
      one_at x = go (nat_eq x.instance w.number)
        where
          go : (b : Bool) → (if b then suc zero else zero) ≤ 1
          go true = omega arith
          go false = omega arith

      told : (x : Note) → (more : List Note) → OtherNotes w.number more → (j : ℕ) (y : Note) → nth (more ++ (x ∷ [])) j ≡ Some y → y.instance ≡ w.number → x ≡ positioned (note W P w kind) n → (y.attempt ≡ suc (length w.records)) × (Noted kind n ≡ Noted y.kind y.position)
      told x more others j y h i is = go (nth_end more x j y h)
        where
          go : (nth more j ≡ Some y) ⊎ ((j ≡ length more) × (x ≡ y)) → (y.attempt ≡ suc (length w.records)) × (Noted kind n ≡ Noted y.kind y.position)
          go (inl q) = absurd (other_note_at w.number more j y others q i)
          go (inr q) = let e = sym q.1 ∙ is in (ap (λ (y : Note). y.attempt) e, ap (λ (y : Note). Noted y.kind y.position) (sym e))

  -- a give
  pub gives_first : (w : Worker) (b : View D) (r : ℕ) (rs : List ℕ) → w.taken ≡ r ∷ rs → Meets W P Reaches Good w b → (h : Hold) × (hs : List Hold) × (b.held ≡ h ∷ hs) × (h.resource ≡ r) × (resources_of hs ≡ rs)
  gives_first w b r rs first m = go b.held refl (sym first ∙ m.taken)
    where
      go : (l : List Hold) → b.held ≡ l → r ∷ rs ≡ resources_of l → (h : Hold) × (hs : List Hold) × (b.held ≡ h ∷ hs) × (h.resource ≡ r) × (resources_of hs ≡ rs)
      go [] e f = absurd (grind (arith, f))
      go (h ∷ hs) e f = (h, hs, e, (let q : h.resource ≡ r = cc in q), (let q : resources_of hs ≡ rs = cc in q))

  without_none : (hs : List Hold) (r : ℕ) → among r (resources_of hs) ≡ false → without hs r ≡ hs
  without_none [] r n = refl
  without_none (h ∷ hs) r n = go (nat_eq r h.resource) refl n (λ n. without_none hs r n)
    where
      go : (b : Bool) → nat_eq r h.resource ≡ b → (if b then true else among r (resources_of hs)) ≡ false → (among r (resources_of hs) ≡ false → without hs r ≡ hs) → (if nat_eq h.resource r then without hs r else h ∷ without hs r) ≡ h ∷ hs
      go true e n ih = absurd (grind (arith, n))
      go false e n ih = let t : nat_eq h.resource r ≡ false = grind (arith, e) in ap (λ b. if b then without hs r else h ∷ without hs r) t ∙ ap (λ l. h ∷ l) (ih n)

  pub without_first : (h : Hold) (hs : List Hold) (r : ℕ) → h.resource ≡ r → Once (resources_of (h ∷ hs)) → without (h ∷ hs) r ≡ hs
  without_first h hs r e o =
      let t : nat_eq h.resource r ≡ true = eq_true h.resource r e in
      ap (λ b. if b then without hs r else h ∷ without hs r) t ∙ without_none hs r (subst (λ r. among r (resources_of hs) ≡ false) e o.0)

  pub gave : (w : Worker) (b c : View D) (r : ℕ) (rs : List ℕ) → is_giving w.phase ≡ true → w.taken ≡ r ∷ rs → Gives W r b c → length c.entries ≤ c.steps → Meets W P Reaches Good w b
      → Meets W P Reaches Good (record w { phase = if is_empty rs then Resting else Giving; taken = rs }) c
  gave w b c r rs giving first t room m =
      let f = gives_first w b r rs first m in let h = f.0 in let hs = f.1 in
      let once : Once (resources_of (h ∷ hs)) = subst Once (m.taken ∙ ap resources_of f.2) m.once in
      let held : c.held ≡ hs = t.held ∙ ap (λ l. without l r) f.2 ∙ without_first h hs r f.3 once in
      let place = giving_place w.phase giving m.place in
      let own : own_seen W c ≡ own_seen W b = own_grows W P Reaches Good runs b c t.same t.grows in
      let sound : EachHold (Sound W P Reaches Good) (h ∷ hs) = subst (EachHold (Sound W P Reaches Good)) f.2 m.sound in
      let back : EachHold (λ h. h.content.current ≡ h.value) (h ∷ hs) = subst (EachHold (λ h. h.content.current ≡ h.value)) f.2 place.0 in
      let at : hold_at b.held r ≡ Some h = (let q : nat_eq h.resource r ≡ true = eq_true h.resource r f.3 in ap (λ l. hold_at l r) f.2 ∙ ap (λ b. if b then Some h else hold_at hs r) q) in
      record {
        number = m.number;
        instance = t.same.instance ∙ m.instance;
        steps = t.same.steps ∙ m.steps;
        share = subst (λ n. P.attempts ≤ n) (sym t.same.share) m.share;
        taken = sym f.4 ∙ ap resources_of (sym held);
        once = subst Once f.4 once.1;
        sound = subst (EachHold (Sound W P Reaches Good)) (sym held) sound.1;
        own = m.own ∙ sym own;
        own_then = own_then_seen W P Reaches Good runs w b c t.grows m.own_then;
        accounts = accounts_seen W P Reaches Good runs w b c m.instance t.grows (subst (λ n. length c.entries ≤ n) (t.same.steps ∙ m.steps) room) m.accounts;
        place = placed rs (subst (EachHold (λ h. h.content.current ≡ h.value)) (sym held) back.1);
        lists = λ s told. lists s h hs f.2 held (f.4) (sym (t.told h at) ∙ told);
      }
    where
      giving_place : (p : Phase) → is_giving p ≡ true → Place W P Reaches Good w b p → EachHold (λ h. h.content.current ≡ h.value) b.held × (w.taken ≡ [] → ⊥)
      giving_place Resting e q = absurd (grind (arith, e))
      giving_place (Walking x j) e q = absurd (grind (arith, e))
      giving_place Giving e q = q

      placed : (l : List ℕ) → EachHold (λ h. h.content.current ≡ h.value) c.held → Place W P Reaches Good (record w { phase = if is_empty l then Resting else Giving; taken = l }) c (if is_empty l then Resting else Giving)
      placed [] e = refl
      placed (q ∷ l) e = (e, λ z. cons_nil q l z)

      now_none : (p : Phase) → is_giving p ≡ true → (now : List Taking) → TakenNow W P Reaches Good w b p now → now ≡ []
      now_none Resting e now q = absurd (grind (arith, e))
      now_none (Walking x j) e now q = absurd (grind (arith, e))
      now_none Giving e now q = q

      passed_by : (p : Phase) → is_giving p ≡ true → (ps : List (ℕ × ℕ)) → PassedBy W P Reaches Good p w.records b.held ps → Sub (downs w.records) (ps ++ flat (map passing b.held))
      passed_by Resting e ps q = absurd (grind (arith, e))
      passed_by (Walking x j) e ps q = absurd (grind (arith, e))
      passed_by Giving e ps q = q

      no_hold : (hs : List Hold) → resources_of hs ≡ [] → hs ≡ []
      no_hold [] e = refl
      no_hold (h ∷ hs) e = absurd (grind (arith, e))

      passed : (l : List ℕ) (hs : List Hold) (ps : List (ℕ × ℕ)) → resources_of hs ≡ l → Sub (downs w.records) (ps ++ flat (map passing hs)) → PassedBy W P Reaches Good (if is_empty l then Resting else Giving) w.records hs ps
      passed [] hs ps e q = subst (Sub (downs w.records)) (ap (λ hs. ps ++ flat (map passing hs)) (no_hold hs e) ∙ nil_append ps) q
      passed (r ∷ l) hs ps e q = q

      none : (l : List ℕ) → TakenNow W P Reaches Good (record w { phase = if is_empty l then Resting else Giving; taken = l }) c (if is_empty l then Resting else Giving) []
      none [] = refl
      none (r ∷ l) = refl

      lists : (s : Told) (h : Hold) (hs : List Hold) → b.held ≡ h ∷ hs → c.held ≡ hs → resources_of hs ≡ rs → untold b.told (λ t. record t { passed = t.passed ++ passing h }) ≡ Some s → Lists W P Reaches Good (record w { phase = if is_empty rs then Resting else Giving; taken = rs }) c s
      lists s h hs e held rest told = go b.told refl told
        where
          go : (o : Option Told) → b.told ≡ o → untold o (λ t. record t { passed = t.passed ++ passing h }) ≡ Some s → Lists W P Reaches Good (record w { phase = if is_empty rs then Resting else Giving; taken = rs }) c s
          go None q d = absurd (grind (arith, d))
          go (Some l) q d =
              let old = m.lists l q in
              let sub : Sub (downs w.records) ((l.passed ++ passing h) ++ flat (map passing hs)) = subst (Sub (downs w.records)) (ap (λ hs. l.passed ++ flat (map passing hs)) e ∙ sym (append_assoc l.passed (passing h) (flat (map passing hs)))) (passed_by w.phase giving l.passed old.passed) in
              subst (Lists W P Reaches Good (record w { phase = if is_empty rs then Resting else Giving; taken = rs }) c) (same_Some (record l { passed = l.passed ++ passing h }) s d) (record {
                refused = old.refused;
                passed = subst (λ hs. PassedBy W P Reaches Good (if is_empty rs then Resting else Giving) w.records hs (l.passed ++ passing h)) (sym held) (passed rs hs (l.passed ++ passing h) rest sub);
                now = [];
                history = λ d. subst (λ n. History W P Reaches Good w.number c.entries w.records l.takes n) (now_none w.phase giving old.now (old.taken_now d)) (subst (λ es. History W P Reaches Good w.number es w.records l.takes old.now) (sym t.grows.entries) (history_grows W P Reaches Good runs w.number b.entries t.grows.entries_more w.records l.takes old.now (old.history d)));
                taken_now = λ d. none rs;
              })

  pub kept : ((r n : ℕ) → P.fails r n ≡ true → n < 18446744073709551615) → (w : Worker) (b : View D) (v : Worker) (c : View D) (t : Turn) → length b.entries ≤ b.steps → length c.entries ≤ c.steps → Turned W P w b v c t → Meets W P Reaches Good w b → Meets W P Reaches Good v c
  kept listed w b v c t room after (TIdle ended worker board answer) m = subst (λ v. Meets W P Reaches Good v c) (sym worker) (subst (Meets W P Reaches Good w) (sym board) m)
  kept listed w b v c t room after (TGave r rs giving first gives worker answer) m = subst (λ v. Meets W P Reaches Good v c) (sym worker) (gave w b c r rs giving first gives after m)
  kept listed w b v c t room after (TTook on r leave rest next new takes worker answer) m = subst (λ v. Meets W P Reaches Good v c) (sym worker) (took W P Reaches Good runs w b c on r leave rest next new takes after m)
  kept listed w b v c t room after (THeld on r h leave rest next new d take board worker answer) m =
      subst (λ v. Meets W P Reaches Good v c) (sym worker) (subst (Meets W P Reaches Good (finished (Held r h) w)) (sym board) (was_held W P Reaches Good runs w b d on r h leave rest next new take (subst (λ (c : View D). length c.entries ≤ c.steps) board after) m))
  kept listed w b v c t room after (TOperated on r leave rest next h held board worker answer) m =
      let once : Once (resources_of b.held) = subst Once m.taken m.once in
      let new : Shown = record h.content { current = leave h.content.current } in
      let s : Sound W P Reaches Good h = holds.hold_is (Sound W P Reaches Good) b.held r h held m.sound in
      subst (λ v. Meets W P Reaches Good v c) (sym worker) (subst (Meets W P Reaches Good (walks_on (settled (rest h.content.current)) 0 w)) (sym board)
      (meets_back W P Reaches Good runs w (with_held (with_content r new b.held) b) (rest h.content.current)
      (changes_on W P Reaches Good runs w b r h new (rest h.content.current) 0 on held s (under_operated W P Reaches Good runs w b (readied_of W P w.phase) r leave rest (rest_of W P w w.phase) h next held once (under W P Reaches Good runs w b m on)) m)))
  kept listed w b v c t room after (TReadied on o ps next r at h held up board worker answer) m =
      let once : Once (resources_of b.held) = subst Once m.taken m.once in
      let s : Sound W P Reaches Good h = holds.hold_is (Sound W P Reaches Good) b.held r h held m.sound in
      let more = holds.raised_le h.content.count in let c0 = s.1 in
      subst (λ v. Meets W P Reaches Good v c) (sym worker) (subst (Meets W P Reaches Good (walks_on (Stop (Goes o ps)) (suc (readied_of W P w.phase)) w)) (sym board)
      (changes_on W P Reaches Good runs w b r h (counted h.content) (Stop (Goes o ps)) (suc (readied_of W P w.phase)) on held (s.0, omega (arith, more, c0), s.2, s.3)
      (subst (λ x. Under W P Reaches Good (walks_on x (suc (readied_of W P w.phase)) w) (with_held (with_content r (counted h.content) b.held) b) x (suc (readied_of W P w.phase))) next
      (under_readied W P Reaches Good runs w b (readied_of W P w.phase) (suc (readied_of W P w.phase)) r (rest_of W P w w.phase) h (nth_below w.taken (readied_of W P w.phase) r at) (inr (o, ps, next)) held once (under W P Reaches Good runs w b m on))) m))
  kept listed w b v c t room after (TDown on o ps next r at h held down board worker answer) m =
      subst (λ v. Meets W P Reaches Good v c) (sym worker) (subst (Meets W P Reaches Good (finished (Down r (raised h.content.count)) w)) (sym board)
      (was_down W P Reaches Good runs listed w b on o ps next r h (holds.nth_among w.taken (readied_of W P w.phase) r at) held down room m))
  kept listed w b v c t room after (TCommitted on o ps next at n d commits board worker answer) m =
      subst (λ v. Meets W P Reaches Good v c) (sym worker) (subst (Meets W P Reaches Good (record (finished (Step n) w) { own = o })) (sym board) (was_committed w b d on o ps next n commits (subst (λ (c : View D). length c.entries ≤ c.steps) board after) m))
  kept listed w b v c t room after (TFull on o ps next at n d full board worker answer) m =
      subst (λ v. Meets W P Reaches Good v c) (sym worker) (subst (Meets W P Reaches Good (finished (Full n) w)) (sym board) (was_full W P Reaches Good runs w b d on o ps next n full (subst (λ (c : View D). length c.entries ≤ c.steps) board after) m))
  kept listed w b v c t room after (TNoted on kind next n d notes board worker answer) m =
      subst (λ v. Meets W P Reaches Good v c) (sym worker) (subst (Meets W P Reaches Good (finished (Noted kind n) w)) (sym board) (was_noted w b d on kind next n notes (subst (λ (c : View D). length c.entries ≤ c.steps) board after) m))
  kept listed w b v c t room after (TJournal on e next at h d held board worker answer) m =
      subst (λ v. Meets W P Reaches Good v c) (sym worker) (subst (Meets W P Reaches Good (finished (Held journal h) w)) (sym board) (journal_held W P Reaches Good runs w b d on h held (subst (λ (c : View D). length c.entries ≤ c.steps) board after) m))

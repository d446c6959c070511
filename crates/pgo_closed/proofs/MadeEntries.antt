-- Each turn of a worker keeps `Stays`, and a worker that was just opened has it.
use Rattle.std.proofs.Common.{◌≡◌, ◌≤◌, ℕ, zero, suc, true, false, List, [], ◌∷◌, ◌++◌, length, Some, refl, sym, ap, ◌∙◌, subst, arith, ◌⊎◌, inl, inr, lt-ltb}
use Rattle.pgo_base.specs.Data.{Data}
use Rattle.pgo_model.specs.Machine.{Entry, Record, Step, Noted, Held, Down, Full, nth, last_ends}
use Rattle.pgo_model.specs.MachineLists.{nth_below, nth_end, state_below, state_next}
use Rattle.pgo_model.specs.Accounts.{journal}
use Rattle.pgo_workers.specs.Walk.{Own, Goes, Stop}
use Rattle.pgo_workers.specs.View.{View, World, Others, Once, Grows, Commits, raised, state}
use Rattle.pgo_workers.specs.Worker.{Program, Worker, Turn, Turned, TIdle, TGave, TTook, THeld, TOperated, TReadied, TDown, TCommitted, TFull, TNoted, TJournal, rules_of, rest_of, readied_of, Goes_on, changes_of, entry}
use Rattle.pgo_workers.specs.Sentences.{Meets, Sound, Runs}
use Rattle.pgo_workers.specs.OneAccounts.{other_at}
use Rattle.pgo_workers.specs.Kept.{under, left_is}
use Rattle.pgo_workers.specs.Grown.{opened}
use Rattle.pgo_workers.specs.Holds as holds
use Rattle.pgo_workers.specs.CoreStands.{Makes, Differs}
use Rattle.pgo_closed.specs.MadeEntries.{MadeBy, Stays}

-- the last record is the one that was added
pub last_added : (l : List Record) (x : Record) → last_ends (l ++ (x ∷ [])) ≡ last_ends (x ∷ [])
last_added [] x = refl
last_added (y ∷ []) x = goes_past y x []
  where
    goes_past : (y z : Record) (l : List Record) → last_ends (y ∷ (z ∷ l)) ≡ last_ends (z ∷ l)
    goes_past (Step n) z l = refl
    goes_past (Noted k p) z l = refl
    goes_past (Held r h) z l = refl
    goes_past (Down r o) z l = refl
    goes_past (Full n) z l = refl
last_added (y ∷ (z ∷ l)) x = goes_past y z (l ++ (x ∷ [])) ∙ last_added (z ∷ l) x
  where
    goes_past : (y z : Record) (l : List Record) → last_ends (y ∷ (z ∷ l)) ≡ last_ends (z ∷ l)
    goes_past (Step n) z l = refl
    goes_past (Noted k p) z l = refl
    goes_past (Held r h) z l = refl
    goes_past (Down r o) z l = refl
    goes_past (Full n) z l = refl

-- where a member of two lists in a row stands
pub nth_append : {A : Type 0} (a b : List A) (i : ℕ) (x : A) → nth (a ++ b) i ≡ Some x → (nth a i ≡ Some x) ⊎ ((j : ℕ) × (nth b j ≡ Some x))
nth_append [] b i x e = inr (i, e)
nth_append (y ∷ a) b zero x e = inl e
nth_append (y ∷ a) b (suc i) x e = nth_append a b i x e

module _ {S D : Type 0} (W : World S D) (P : Program S D) (Good : S → Type 0) where
  -- the state of a longer journal, along the former entries
  pub state_before : (es more : List (Entry D)) (p : ℕ) → p ≤ length es → state W (es ++ more) p ≡ state W es p
  state_before es more p l = state_below (rules_of W P) W.start es more p l

  made_before : (k : ℕ) (es more : List (Entry D)) (p : ℕ) (e : Entry D) → MadeBy W P Good k es → nth es p ≡ Some e → e.instance ≡ k → Good (state W (es ++ more) p) → e.change ≡ P.between k (state W (es ++ more) p) (state W (es ++ more) (suc p)) (W.printed e.change)
  made_before k es more p e made h is good =
      let b = nth_below es p e h in
      let here : state W (es ++ more) p ≡ state W es p = state_before es more p (omega (arith, b)) in
      let next : state W (es ++ more) (suc p) ≡ state W es (suc p) = state_before es more (suc p) (omega (arith, b)) in
      made p e h is (subst Good here good) ∙ (λ i. P.between k (sym here i) (sym next i) (W.printed e.change))

  -- others add entries
  pub made_others : (k : ℕ) (es more : List (Entry D)) → Others k more → MadeBy W P Good k es → MadeBy W P Good k (es ++ more)
  made_others k es more others made p e h is good = go (nth_append es more p e h)
    where
      go : (nth es p ≡ Some e) ⊎ ((j : ℕ) × (nth more j ≡ Some e)) → e.change ≡ P.between k (state W (es ++ more) p) (state W (es ++ more) (suc p)) (W.printed e.change)
      go (inl h) = made_before k es more p e made h is good
      go (inr h) = absurd (other_at k more h.0 e others h.1 is)

  -- one entry more, which was made
  pub made_one : (k : ℕ) (es : List (Entry D)) (e : Entry D) → MadeBy W P Good k es → (Good (state W es (length es)) → e.change ≡ P.between k (state W es (length es)) (W.patched (state W es (length es)) e.change) (W.printed e.change)) → MadeBy W P Good k (es ++ (e ∷ []))
  made_one k es e made new p x h is good = go (nth_end es e p x h)
    where
      go : (nth es p ≡ Some x) ⊎ ((p ≡ length es) × (e ≡ x)) → x.change ≡ P.between k (state W (es ++ (e ∷ [])) p) (state W (es ++ (e ∷ [])) (suc p)) (W.printed x.change)
      go (inl h) = made_before k es (e ∷ []) p x made h is good
      go (inr q) =
          let here : state W (es ++ (e ∷ [])) p ≡ state W es (length es) = ap (state W (es ++ (e ∷ []))) q.0 ∙ state_before es (e ∷ []) (length es) (omega arith) in
          let next : state W (es ++ (e ∷ [])) (suc p) ≡ W.patched (state W es (length es)) e.change = ap (λ p. state W (es ++ (e ∷ [])) (suc p)) q.0 ∙ state_next (rules_of W P) W.start es e in
          let there = new (subst Good here good) in
          ap (λ (x : Entry D). x.change) (sym q.1) ∙ there ∙ (λ i. P.between k (sym here i) (sym next i) (W.printed (q.1 i).change))

module _ {S D : Type 0} (W : World S D) (P : Program S D) (Reaches : ℕ → ℕ → Type 0) (Good : S → Type 0) (runs : Runs W P Reaches Good) where
  -- a worker that was just opened
  pub opened_stays : (k : ℕ) (b : View D) → Others k b.entries → Stays W P Good (opened W P Reaches Good runs k) b
  opened_stays k b others = record {
    made = λ p e h is good. absurd (other_at k b.entries p e others h is);
    undone = λ e. absurd (grind (arith, e));
  }

module _ {S D : Type 0} (W : World S D) (P : Program S D) (Reaches : ℕ → ℕ → Type 0) (Good : S → Type 0) (runs : Runs W P Reaches Good) (differs : Differs W P Reaches Good runs) where
  abbrev St : Worker → View D → Type 0
  St w b = Stays W P Good w b

  same_entries : (k : ℕ) (es fs : List (Entry D)) → fs ≡ es → MadeBy W P Good k es → MadeBy W P Good k fs
  same_entries k es fs e made = subst (MadeBy W P Good k) (sym e) made

  grown : (w : Worker) (b c : View D) → b.instance ≡ w.number → Grows W b c → MadeBy W P Good w.number b.entries → MadeBy W P Good w.number c.entries
  grown w b c is g made = same_entries w.number (b.entries ++ g.entries_more) c.entries g.entries (made_others W P Good w.number b.entries g.entries_more (subst (λ k. Others k g.entries_more) is g.others) made)

  -- an attempt under way isn't at Done
  not_done : (w : Worker) (b : View D) → Meets W P Reaches Good w b → Goes_on W P w → P.is_done w.number w.own ≡ false
  not_done w b m on = (under W P Reaches Good runs w b m on).not_done

  -- the entry of an attempt is what differs
  new_made : (w : Worker) (b d : View D) (on : Goes_on W P w) (o : Own) (ps : List Data) → rest_of W P w w.phase ≡ Stop (Goes o ps) → (n : ℕ) → Commits W (entry W P w b.held o ps) n b d → Meets W P Reaches Good w b → MadeBy W P Good w.number b.entries → MadeBy W P Good w.number d.entries
  new_made w b d on o ps is n t m made =
      let k = w.number in
      let e : Entry D = entry W P w b.held o ps in
      let l = b.entries ++ t.entries_more in
      let before : MadeBy W P Good k l = made_others W P Good k b.entries t.entries_more (subst (λ k. Others k t.entries_more) m.instance t.others) made in
      same_entries k (l ++ (e ∷ [])) d.entries t.entries
      (made_one W P Good k l e before (λ good.
      let s = state W l (length l) in
      let makes : Makes W P Reaches Good runs k s w.own o b.held = record {
        instance = lt-ltb k P.instances m.number;
        good = good;
        own = ap (W.own s) (sym m.instance) ∙ t.stands.own ∙ sym m.own;
        names = left_is W P Reaches Good runs w b (readied_of W P w.phase) o ps (rest_of W P w w.phase) is (under W P Reaches Good runs w b m on);
        once = subst Once m.taken m.once;
        resources = holds.each_map (Sound W P Reaches Good) (λ h. W.is_resource h.resource ≡ true) b.held (λ h s. s.3) m.sound;
        bases = t.stands.values;
      } in
      let prints = runs.printed k w.own o (changes_of b.held) ps in
      sym (differs.between k s w.own o b.held ps makes) ∙ (λ i. P.between k s (W.patched s e.change) (sym prints i))))

  -- a record that doesn't end the worker, or one of an attempt that wasn't at Done
  recorded : (w : Worker) (x : Record) (o : Own) → (last_ends (x ∷ []) ≡ true → P.is_done w.number o ≡ false) → last_ends (w.records ++ (x ∷ [])) ≡ true → P.is_done w.number o ≡ false
  recorded w x o h e = h (sym (last_added w.records x) ∙ e)

  pub stays : (w : Worker) (b : View D) (v : Worker) (c : View D) (t : Turn) → Turned W P w b v c t → Meets W P Reaches Good w b → St w b → St v c
  stays w b v c t (TIdle ended worker board answer) m s = subst (λ v. St v c) (sym worker) (subst (St w) (sym board) s)
  stays w b v c t (TGave r rs giving first gives worker answer) m s =
      subst (λ v. St v c) (sym worker) (record { made = grown w b c m.instance gives.grows s.made; undone = s.undone })
  stays w b v c t (TTook on r leave rest next new takes worker answer) m s =
      subst (λ v. St v c) (sym worker) (record { made = grown w b c m.instance takes.grows s.made; undone = s.undone })
  stays w b v c t (THeld on r h leave rest next new d take board worker answer) m s =
      subst (λ v. St v c) (sym worker) (record {
        made = same_entries w.number d.entries c.entries (ap (λ (c : View D). c.entries) board) (grown w b d m.instance take.grows s.made);
        undone = recorded w (Held r h) w.own (λ _. not_done w b m on);
      })
  stays w b v c t (TOperated on r leave rest next h held board worker answer) m s =
      subst (λ v. St v c) (sym worker) (record { made = same_entries w.number b.entries c.entries (ap (λ (c : View D). c.entries) board) s.made; undone = s.undone })
  stays w b v c t (TReadied on o ps next r at h held up board worker answer) m s =
      subst (λ v. St v c) (sym worker) (record { made = same_entries w.number b.entries c.entries (ap (λ (c : View D). c.entries) board) s.made; undone = s.undone })
  stays w b v c t (TDown on o ps next r at h held down board worker answer) m s =
      subst (λ v. St v c) (sym worker) (record {
        made = same_entries w.number b.entries c.entries (ap (λ (c : View D). c.entries) board) s.made;
        undone = recorded w (Down r (raised h.content.count)) w.own (λ _. not_done w b m on);
      })
  stays w b v c t (TCommitted on o ps next at n d commits board worker answer) m s =
      subst (λ v. St v c) (sym worker) (record {
        made = same_entries w.number d.entries c.entries (ap (λ (c : View D). c.entries) board) (new_made w b d on o ps next n commits m s.made);
        undone = recorded w (Step n) o (λ e. absurd (grind (arith, e)));
      })
  stays w b v c t (TFull on o ps next at n d full board worker answer) m s =
      subst (λ v. St v c) (sym worker) (record {
        made = same_entries w.number d.entries c.entries (ap (λ (c : View D). c.entries) board) (grown w b d m.instance full.grows s.made);
        undone = recorded w (Full n) w.own (λ _. not_done w b m on);
      })
  stays w b v c t (TNoted on kind next n d notes board worker answer) m s =
      subst (λ v. St v c) (sym worker) (record {
        made = same_entries w.number d.entries c.entries (ap (λ (c : View D). c.entries) board)
            (same_entries w.number (b.entries ++ notes.entries_more) d.entries notes.entries (made_others W P Good w.number b.entries notes.entries_more (subst (λ k. Others k notes.entries_more) m.instance notes.others) s.made));
        undone = recorded w (Noted kind n) w.own (λ _. not_done w b m on);
      })
  stays w b v c t (TJournal on e next at h d held board worker answer) m s =
      subst (λ v. St v c) (sym worker) (record {
        made = same_entries w.number d.entries c.entries (ap (λ (c : View D). c.entries) board) (grown w b d m.instance held.grows s.made);
        undone = recorded w (Held journal h) w.own (λ _. not_done w b m on);
      })

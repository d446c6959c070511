-- The table at its start and at its end.
use Rattle.std.proofs.Common.{◌≡◌, ℕ, zero, suc, ◌+◌, ◌-◌, ◌<◌, ◌≤◌, ◌≢◌, ◌⊎◌, Bool, true, false, List, [], ◌∷◌, ◌++◌, map, None, Some, length, get_or, sym, refl, ap, ◌∙◌, subst, inl, inr, ⊎_elim, arith, replicate}
use Rattle.std.proofs.lemmas.List.{length-replicate}
use Rattle.std.specs.Prelude.{if◌then◌else◌, nat_eq, nat_lt}
use mathlib.Core.Option.{some, some-ne-none}
use lib.ListN.{get_elem?}
use Rattle.atomic_table.specs.Table.{State, opening, Final, Seen}
use Rattle.atomic_table.proofs.Lists.{at_snoc}
use Rattle.pgo_journal.specs.Journal.{JournalView}
use Rattle.pgo_model.specs.Accounts.{journal}
use Rattle.pgo_model.specs.Log.{Effect}
use Rattle.pgo_model.specs.Machine.{Entry, Note, nth}
use Rattle.pgo_resource.specs.PlainRows.{apart}
use Rattle.pgo_workers.specs.Closed.{Has}
use Rattle.pgo_workers.specs.View.{Shown, IsHeld, World}
use Rattle.pgo_table.specs.SeatViews.{History, TableTerms, SeatView, HasHistory, holding_at, resources, bit, times, claims, weight, stands, passes, cap, no_history, upto, opening_view, WordStep}
use Rattle.pgo_table.specs.Rule.{PassedTo, Rests, ResourceStands, IsJournal, JournalStands, HasEntryOf, HasNoteOf, ToldFull, Reached, Caused, component, Follows, Kept}
use Rattle.pgo_table.specs.Closing.{IsClosed, PassedUpTo}
use Rattle.pgo_table.specs.Steps.{Slot}
use Rattle.pgo_table.specs.declared.slots.Stored.TheVariants.{Content, Journal as AsJournal}
use Rattle.pgo_table.proofs.Sums.{same_or, is_eq, not_eq, term_le, terms_le, not_some}
use Rattle.pgo_table.proofs.JournalSteps.{entries_numbered, notes_numbered}
use Rattle.pgo_table.proofs.Stands.{at_one, bools}
use Rattle.pgo_table.proofs.Traces.{cap_none}

-- ---- the start

upto-times : (x a n : ℕ) → (times x (upto a n) ≤ 1) × (x < a → times x (upto a n) ≡ 0) × (a + n ≤ x → times x (upto a n) ≡ 0)
upto-times x a zero = (omega arith, (λ _. refl), λ _. refl)
upto-times x a (suc n) = let more = upto-times x (a + 1) n in ⊎_elim
    (λ (e : a ≡ x). let one = ap bit (is_eq a x e) in let none_more = more.1 (omega (arith, e)) in (omega (arith, one, none_more), (λ h. absurd (omega (arith, h, e))), λ h. absurd (omega (arith, h, e))))
    (λ (ne : a ≢ x). let zero_here = ap bit (not_eq a x ne) in (let m = more.0 in omega (arith, m, zero_here), (λ h. let z = more.1 (omega (arith, h)) in omega (arith, z, zero_here)), λ h. let z = more.2 (omega (arith, h)) in omega (arith, z, zero_here)))
    (same_or a x)

pub upto-length : (a n : ℕ) → length (upto a n) ≡ n
upto-length a zero = refl
upto-length a (suc n) = let q = upto-length (a + 1) n in omega (arith, q)

within_cap : (x n : ℕ) → 0 < n → bit (nat_eq (n - 1) x) + times x (upto 0 (n - 1)) ≤ cap n x
within_cap x n some_there = let t = upto-times x 0 (n - 1) in ⊎_elim
    (λ (e : n - 1 ≡ x). let one = ap bit (is_eq (n - 1) x e) in let z = t.2 (omega (arith, e)) in let c = ap bit (below (omega (arith, e, some_there))) in omega (arith, one, z, c))
    (λ (ne : n - 1 ≢ x). let none = ap bit (not_eq (n - 1) x ne) in go (nat_lt x n) refl none)
    (same_or (n - 1) x)
  where
    below : x < n → nat_lt x n ≡ true
    below h = grind (arith, h)

    go : (b : Bool) → nat_lt x n ≡ b → bit (nat_eq (n - 1) x) ≡ 0 → bit (nat_eq (n - 1) x) + times x (upto 0 (n - 1)) ≤ bit b
    go true e none = let t = (upto-times x 0 (n - 1)).0 in omega (arith, t, none)
    go false e none = let far : n ≤ x = grind (arith, e) in let z = (upto-times x 0 (n - 1)).2 (omega (arith, far, some_there)) in omega (arith, z, none)

module _ {C : Type 0} where
  content_there : (cs : List C) (z : Slot C) (r : ℕ) → r < length cs → (c : C) × (nth cs r ≡ Some c) × (get_elem? (map some (map (λ c. Some (Content c)) cs ++ z ∷ [])) r ≡ some (some (Some (Content c))))
  content_there [] z r near = absurd (omega (arith, near))
  content_there (c ∷ cs) z zero near = (c, refl, refl)
  content_there (c ∷ cs) z (suc r) near = content_there cs z r (omega (arith, near))

  journal_there : (cs : List C) (z : Slot C) → get_elem? (map some (map (λ c. Some (Content c)) cs ++ z ∷ [])) (length cs) ≡ some (some z)
  journal_there [] z = refl
  journal_there (c ∷ cs) z = journal_there cs z

  slots_long : (cs : List C) (z : Slot C) → length (map some (map (λ c. Some (Content c)) cs ++ z ∷ [])) ≡ suc (length cs)
  slots_long [] z = refl
  slots_long (c ∷ cs) z = ap (λ n. suc n) (slots_long cs z)

zero_there : (n r : ℕ) → ◌≡◌ {A = ℕ} (get_or (replicate n 0) r 0) 0
zero_there zero r = refl
zero_there (suc n) zero = refl
zero_there (suc n) (suc r) = zero_there n r

only_one : (P : SeatView → Type 0) (v : SeatView) → P v → (i : ℕ) (u : SeatView) → get_elem? (v ∷ []) i ≡ some u → P u
only_one P v p i u at = ⊎_elim (λ (z : get_elem? [] i ≡ some u). absurd (some-ne-none u (sym z))) (λ (z : v ≡ u). subst P z p) (at_snoc [] v u i at)

module _ {S C : Type 0} (W : World S Effect) (M : C → Shown) (y : TableTerms) where
  pub starts : (ws : List ℕ) (xs : List (Slot C)) (cs : List C) (j : JournalView) → W.instances ≡ length y.layout.ids → 0 < W.instances → length cs ≡ length y.layout.resources
      → ws ≡ replicate (suc (length cs)) 0 → xs ≡ map (λ c. Some (Content c)) cs ++ Some (AsJournal j) ∷ []
      → ((r : ℕ) (c : C) → nth cs r ≡ Some c → Rests M (W.value W.start) r c) → IsJournal y W.instances [] [] j
      → Kept W M y (opening ws xs (opening_view y))
  starts ws xs cs j many some_there as_many zeros all fit is_journal =
      let v = opening_view y in
      let homes : map some xs ≡ map some (map (λ c. Some (Content c)) cs ++ Some (AsJournal j) ∷ []) = ap (map some) all in
      let long : length (map some xs) ≡ suc (length y.layout.resources) = ap (λ l. length l) homes ∙ slots_long cs (Some (AsJournal j)) ∙ ap (λ n. suc n) as_many in
      let words : (r : ℕ) → ◌≡◌ {A = ℕ} (get_or ws r 0) 0 = λ r. ap (λ l. get_or l r 0) zeros ∙ zero_there (suc (length cs)) r in
      let ids : length y.layout.ids ≡ W.instances = sym many in
      let more : length (upto 0 (length y.layout.ids - 1)) ≡ length y.layout.ids - 1 = upto-length 0 (length y.layout.ids - 1) in
      record {
        entries = [];
        notes = [];
        wide = ap (λ l. length l) zeros ∙ length-replicate (suc (length cs)) 0 ∙ ap (λ n. suc n) as_many ∙ sym long;
        long = long;
        resources_stand = λ r near. let t = content_there cs (Some (AsJournal j)) r (omega (arith, near, as_many)) in inl (record {
          word_is = words r;
          content = t.0;
          home_is = ap (λ l. get_elem? l r) homes ∙ t.2;
          rests = fit r t.0 t.1;
          nobody = only_one (λ u. holding_at u.holds r ≡ None) v refl;
          passed = λ k far. refl;
        });
        journal_stands = inl (record {
          word_is = words (length y.layout.resources);
          contents = j;
          home_is = ap (λ l. get_elem? l (length y.layout.resources)) homes ∙ (ap (get_elem? (map some (map (λ c. Some (Content c)) cs ++ Some (AsJournal j) ∷ []))) (sym as_many) ∙ journal_there cs (Some (AsJournal j)));
          is_journal = is_journal;
          nobody = only_one (λ u. u.has ≡ false) v refl;
        });
        each = λ x. let c = within_cap x (length y.layout.ids) (omega (arith, some_there, ids)) in let e = ap (λ n. cap n x) ids in omega (arith, c, e);
        counted = omega (arith, more, ids, some_there);
        once = λ r k. omega arith;
        traced = λ r near. record { trace = []; chain = sym (words r); numbered = λ n. let c = cap_none n in omega (arith, c); told = λ i u x at h _. absurd (only_one (λ u. (x : WordStep) → Has u.word_steps x → ⊥) v (λ x h. h) i u at x h) };
        terms_are = only_one (λ u. u.gone ≡ false → u.terms ≡ y) v (λ _. refl);
        follows = λ i u a at knows. only_one (λ u. (a : History) → HasHistory u a → Follows W y.share [] [] a) v (λ a knows. ⊎_elim
            (λ (q : (false ≡ false) × (no_history (length y.layout.ids - 1) ≡ a)). subst (Follows W y.share [] []) q.1 (record { entries_more = []; entries_are = refl; others = tt; notes_more = []; notes_are = refl; other_notes = tt; within_share = omega arith; agrees = λ m h. absurd h }))
            (λ h. absurd h) knows) i u at a knows;
        strangers = λ x none. (tt, tt);
        tidy = only_one (λ u. apart (length y.layout.resources) (resources u.holds) ≡ true) v refl;
        all_of = tt;
        room = omega arith;
        causes = λ i u a r h at knows has. only_one (λ u. (a : History) → HasHistory u a → Has a.told.refused (IsHeld r h) → Caused (v ∷ []) [] [] r h) v (λ a knows has. absurd (⊎_elim (λ (q : (false ≡ false) × (no_history (length y.layout.ids - 1) ≡ a)). subst (λ (x : History). Has x.told.refused (IsHeld r h)) (sym q.1) has) (λ h. absurd h) knows)) i u at a knows has;
      }

  -- ---- the end

  pub record Settled (v : SeatView) (xs : List (Slot C)) : Type 0 where
    pub entries : List (Entry Effect)
    pub notes : List Note
    pub closed : IsClosed W y entries notes (v.me ∷ v.joined)
    pub contents : (r : ℕ) → r < length y.layout.resources → (c : C) × (get_elem? xs r ≡ some (Some (Content c))) × Rests M (component W entries) r c × PassedUpTo (v.me ∷ v.joined) r (M c).count
    pub contents_journal : (j : JournalView) × (get_elem? xs (length y.layout.resources) ≡ some (Some (AsJournal j))) × IsJournal y W.instances entries notes j

  -- once one seat stands for all, each slot has its content, and what the seats know is said of the whole journal
  pub settled : (id : ℕ) (v : SeatView) (ws : List ℕ) (xs : List (Slot C)) → v.gone ≡ false → v.holds ≡ [] → v.has ≡ false → v.spare ≡ [] → suc (length v.joined) ≡ W.instances → Final (Seen (Kept W M y) id v) ws xs → Settled v xs
  settled id v ws xs live none_held has_not none_spare all_here f = record {
    entries = k.entries;
    notes = k.notes;
    closed = record {
      room = k.room;
      all_of = k.all_of;
      entries_numbered = entries_numbered W M y s k;
      notes_numbered = notes_numbered W M y s k;
      follows = λ a h. k.follows id v a me (of_list a h);
      numbers = λ x. let t = term_le (claims x) s.views id v me in let e = k.each x in let g : (if v.gone then 0 else bit (nat_eq v.me.number x)) ≡ bit (nat_eq v.me.number x) = ap (λ b. if b then 0 else bit (nat_eq v.me.number x)) live in omega (arith, t, e, g);
      as_many = all_here;
      holder = λ a r h has refused ne. let t = (k.causes id v a r h me (of_list a has) refused).0 ne in (t.2, to_list t.2 (in_me t.0 t.1 t.2 t.3 t.4), t.5, t.6);
      journal_holder = λ a h has refused. reached h ((k.causes id v a journal h me (of_list a has) refused).1 refl);
      once = λ r n. let t = term_le (passes r n) s.views id v me in let o = k.once r n in let g : (if v.gone then 0 else stands r n v.me.told.passed) ≡ stands r n v.me.told.passed = ap (λ b. if b then 0 else stands r n v.me.told.passed) live in omega (arith, t, o, g);
    };
    contents = λ r near. spot r (k.resources_stand r near);
    contents_journal = journal_stands k.journal_stands;
  }
    where
      s : State (Slot C) SeatView
      s = f.0

      k : Kept W M y s
      k = f.1.0

      me : get_elem? s.views id ≡ some v
      me = f.1.1

      whole : weight v ≡ W.instances
      whole = let g : ◌≡◌ {A = ℕ} (if v.gone then 0 else 1) 1 = ap (λ b. if b then 0 else 1) live in let z = ap (λ (l : List ℕ). length l) none_spare in omega (arith, all_here, g, z)

      -- nothing is known elsewhere
      alone : (j : ℕ) (u : SeatView) → get_elem? s.views j ≡ some u → j ≢ id → weight u ≡ 0
      alone j u at ne = let t = terms_le weight s.views id j v u ne me at in let c = k.counted in let w = whole in omega (arith, t, c, w)

      dead : (u : SeatView) → weight u ≡ 0 → u.gone ≡ false → ⊥
      dead u none living = let g : ◌≡◌ {A = ℕ} (if u.gone then 0 else 1) 1 = ap (λ b. if b then 0 else 1) living in absurd (omega (arith, none, g))

      no_member : (l : List History) (a : History) → length l ≡ 0 → Has l a → ⊥
      no_member [] a e h = h
      no_member (x ∷ l) a e h = absurd (omega (arith, e))

      in_me : (j : ℕ) (u : SeatView) (b : History) → get_elem? s.views j ≡ some u → HasHistory u b → HasHistory v b
      in_me j u b at knows = ⊎_elim
          (λ (e : j ≡ id). subst (λ (x : SeatView). HasHistory x b) (at_one s.views id j v u me at e) knows)
          (λ (ne : j ≢ id). let z = alone j u at ne in absurd (⊎_elim (λ (q : (u.gone ≡ false) × (u.me ≡ b)). dead u z q.0) (λ (h : Has u.joined b). no_member u.joined b (omega (arith, z)) h) knows))
          (same_or j id)

      to_list : (b : History) → HasHistory v b → Has (v.me ∷ v.joined) b
      to_list b (inl q) = inl q.1
      to_list b (inr h) = inr h

      of_list : (b : History) → Has (v.me ∷ v.joined) b → HasHistory v b
      of_list b (inl e) = inl (live, e)
      of_list b (inr h) = inr h

      reached : (h : ℕ) → Reached s.views k.entries k.notes h → HasEntryOf h k.entries ⊎ (HasNoteOf h k.notes ⊎ ((b : History) × Has (v.me ∷ v.joined) b × (b.number ≡ h) × ToldFull b))
      reached h (inl t) = absurd (⊎_elim
          (λ (e : t.0 ≡ id). bools v.has has_not (ap (λ (x : SeatView). x.has) (sym (at_one s.views id t.0 v t.1 me t.2 e)) ∙ t.5))
          (λ (ne : t.0 ≢ id). dead t.1 (alone t.0 t.1 t.2 ne) t.3)
          (same_or t.0 id))
      reached h (inr (inl t)) = inl t
      reached h (inr (inr (inl t))) = inr (inl t)
      reached h (inr (inr (inr t))) = inr (inr (t.2, to_list t.2 (in_me t.0 t.1 t.2 t.3 t.4), t.5, t.6))

      passed_to : (r most : ℕ) → PassedTo s.views r most → PassedUpTo (v.me ∷ v.joined) r most
      passed_to r most h n more = let t = term_le (passes r n) s.views id v me in let z = h n more in let g : (if v.gone then 0 else stands r n v.me.told.passed) ≡ stands r n v.me.told.passed = ap (λ b. if b then 0 else stands r n v.me.told.passed) live in omega (arith, t, z, g)

      spot : (r : ℕ) → ResourceStands M (component W k.entries) (get_or s.words r 0) (get_elem? s.homes r) s.views r → (c : C) × (get_elem? xs r ≡ some (Some (Content c))) × Rests M (component W k.entries) r c × PassedUpTo (v.me ∷ v.joined) r (M c).count
      spot r (inl x) = (x.content, f.4 r (Some (Content x.content)) x.home_is, x.rests, passed_to r (M x.content).count x.passed)
      spot r (inr t) = absurd (⊎_elim
          (λ (e : t.seat ≡ id). not_some (holding_at v.holds r) t.hold (ap (λ l. holding_at l r) none_held) (ap (λ (x : SeatView). holding_at x.holds r) (sym (at_one s.views id t.seat v t.by me t.by_is e)) ∙ t.holds))
          (λ (ne : t.seat ≢ id). dead t.by (alone t.seat t.by t.by_is ne) t.live)
          (same_or t.seat id))

      journal_stands : JournalStands y W.instances k.entries k.notes (get_or s.words (length y.layout.resources) 0) (get_elem? s.homes (length y.layout.resources)) s.views → (j : JournalView) × (get_elem? xs (length y.layout.resources) ≡ some (Some (AsJournal j))) × IsJournal y W.instances k.entries k.notes j
      journal_stands (inl x) = (x.contents, f.4 (length y.layout.resources) (Some (AsJournal x.contents)) x.home_is, x.is_journal)
      journal_stands (inr t) = absurd (⊎_elim
          (λ (e : t.seat ≡ id). bools v.has has_not (ap (λ (x : SeatView). x.has) (sym (at_one s.views id t.seat v t.by me t.by_is e)) ∙ t.has))
          (λ (ne : t.seat ≢ id). dead t.by (alone t.seat t.by t.by_is ne) t.live)
          (same_or t.seat id))

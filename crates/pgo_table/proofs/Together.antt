-- What the seats say together of the closed journal is what is asked of boards.
use Rattle.std.proofs.Common.{◌≡◌, ℕ, zero, suc, ◌+◌, ◌<◌, ◌≤◌, ◌≢◌, ◌⊎◌, Bool, true, false, List, [], ◌∷◌, ◌++◌, Some, length, sym, refl, ap, ◌∙◌, subst, inl, inr, ⊎_elim, arith}
use Rattle.std.proofs.lemmas.Option.{same_Some}
use Rattle.std.specs.Prelude.{if◌then◌else◌, nat_eq, nat_lt}
use Rattle.pgo_model.specs.Accounts.{journal}
use Rattle.pgo_model.specs.Log.{Effect}
use Rattle.pgo_model.specs.Machine.{Entry, Note, nth}
use Rattle.pgo_workers.specs.Closed.{Has, Seat, Boards, OnLog}
use Rattle.pgo_workers.specs.Grown.{Renews, renewed_meets, on_log}
use Rattle.pgo_workers.specs.Sentences.{Runs, Meets}
use Rattle.pgo_workers.specs.View.{IsHeld, IsFull, Told, View, World, Others, OtherNotes, state}
use Rattle.pgo_workers.specs.Worker.{Program, Worker, Resting}
use Rattle.pgo_table.specs.SeatViews.{History, TableTerms, total, bit, numbered, stands, untold}
use Rattle.pgo_table.specs.Closing.{IsClosed}
use Rattle.pgo_table.proofs.Sums.{same_or, is_eq, member_le, cap_below, cap_most, history_at, bit_one}

-- ---- numbers that differ, as many as there are

abbrev under : ℕ → List History → ℕ
under m [] = 0
under m (a ∷ l) = bit (nat_lt a.number m) + under m l

under_none : (l : List History) → under 0 l ≡ 0
under_none [] = refl
under_none (a ∷ l) = let q = under_none l in let z = ap bit (no a.number) in omega (arith, q, z)
  where
    no : (n : ℕ) → nat_lt n 0 ≡ false
    no n = grind arith

under_more : (m : ℕ) (l : List History) → under (suc m) l ≡ under m l + numbered m l
under_more m [] = omega arith
under_more m (a ∷ l) = let q = under_more m l in let p = parts (nat_lt a.number (suc m)) (nat_lt a.number m) (nat_eq a.number m) refl refl refl in omega (arith, p, q)
  where
    parts : (x y z : Bool) → nat_lt a.number (suc m) ≡ x → nat_lt a.number m ≡ y → nat_eq a.number m ≡ z → bit x ≡ bit y + bit z
    parts true true true x y z = absurd (grind (arith, y, z))
    parts true true false x y z = omega arith
    parts true false true x y z = omega arith
    parts true false false x y z = absurd (grind (arith, x, y, z))
    parts false true c x y z = absurd (grind (arith, x, y))
    parts false false true x y z = absurd (grind (arith, x, z))
    parts false false false x y z = omega arith

under_all : (m : ℕ) (l : List History) → ((a : History) → Has l a → a.number < m) → under m l ≡ length l
under_all m [] h = refl
under_all m (a ∷ l) h = let q = under_all m l (λ b g. h b (inr g)) in let z = ap bit (near (h a (inl refl))) in omega (arith, q, z)
  where
    near : a.number < m → nat_lt a.number m ≡ true
    near h = grind (arith, h)

under_within : (m : ℕ) (l : List History) → ((x : ℕ) → numbered x l ≤ 1) → under m l ≤ m
under_within zero l h = let z = under_none l in omega (arith, z)
under_within (suc m) l h = let a = under_more m l in let b = under_within m l h in let c = h m in omega (arith, a, b, c)

under_less : (m k : ℕ) (l : List History) → ((x : ℕ) → numbered x l ≤ 1) → k < m → numbered k l ≡ 0 → under m l < m
under_less zero k l h near none = absurd (omega (arith, near))
under_less (suc m) k l h near none = go (same_or k m) (λ far. under_less m k l h far none)
  where
    a : under (suc m) l ≡ under m l + numbered m l
    a = under_more m l

    go : (k ≡ m) ⊎ (k ≢ m) → (k < m → under m l < m) → under (suc m) l < suc m
    go (inl e) ih = let z : numbered m l ≡ 0 = subst (λ x. numbered x l ≡ 0) e none in let b = under_within m l h in let q = a in omega (arith, q, z, b)
    go (inr ne) ih = let b = ih (omega (arith, near, ne)) in let c = h m in let q = a in omega (arith, q, b, c)

-- ---- pairs that stand once

stands_at : (ps : List (ℕ × ℕ)) (i : ℕ) (x : ℕ × ℕ) → nth ps i ≡ Some x → 1 ≤ stands x.0 x.1 ps
stands_at [] i x h = absurd (grind (arith, h))
stands_at (p ∷ ps) zero x h =
    let e : p ≡ x = same_Some p x h in
    let a : (if nat_eq p.0 x.0 then bit (nat_eq p.1 x.1) else 0) ≡ bit (nat_eq p.1 x.1) = ap (λ b. if b then bit (nat_eq p.1 x.1) else 0) (is_eq p.0 x.0 (ap (λ (z : ℕ × ℕ). z.0) e)) in
    let b = bit_one p.1 x.1 (ap (λ (z : ℕ × ℕ). z.1) e) in omega (arith, a, b)
stands_at (p ∷ ps) (suc i) x h = let q = stands_at ps i x h in omega (arith, q)

stands_two : (ps : List (ℕ × ℕ)) (i j : ℕ) (x : ℕ × ℕ) → nth ps i ≡ Some x → nth ps j ≡ Some x → i ≢ j → 2 ≤ stands x.0 x.1 ps
stands_two [] i j x h g ne = absurd (grind (arith, h))
stands_two (p ∷ ps) zero zero x h g ne = absurd (ne refl)
stands_two (p ∷ ps) zero (suc j) x h g ne =
    let e : p ≡ x = same_Some p x h in
    let a : (if nat_eq p.0 x.0 then bit (nat_eq p.1 x.1) else 0) ≡ bit (nat_eq p.1 x.1) = ap (λ b. if b then bit (nat_eq p.1 x.1) else 0) (is_eq p.0 x.0 (ap (λ (z : ℕ × ℕ). z.0) e)) in
    let b = bit_one p.1 x.1 (ap (λ (z : ℕ × ℕ). z.1) e) in let q = stands_at ps j x g in omega (arith, a, b, q)
stands_two (p ∷ ps) (suc i) zero x h g ne =
    let e : p ≡ x = same_Some p x g in
    let a : (if nat_eq p.0 x.0 then bit (nat_eq p.1 x.1) else 0) ≡ bit (nat_eq p.1 x.1) = ap (λ b. if b then bit (nat_eq p.1 x.1) else 0) (is_eq p.0 x.0 (ap (λ (z : ℕ × ℕ). z.0) e)) in
    let b = bit_one p.1 x.1 (ap (λ (z : ℕ × ℕ). z.1) e) in let q = stands_at ps i x h in omega (arith, a, b, q)
stands_two (p ∷ ps) (suc i) (suc j) x h g ne = let q = stands_two ps i j x h g (λ e. ne (ap suc e)) in omega (arith, q)

has_two : (g : History → ℕ) (l : List History) (a b : History) → Has l a → Has l b → a.number ≢ b.number → g a + g b ≤ total g l
has_two g [] a b h k ne = absurd h
has_two g (x ∷ l) a b (inl e) (inl f) ne = absurd (ne (ap (λ (z : History). z.number) (sym e ∙ f)))
has_two g (x ∷ l) a b (inl e) (inr k) ne = let m = member_le g l b k in let q = ap g e in omega (arith, m, q)
has_two g (x ∷ l) a b (inr h) (inl f) ne = let m = member_le g l a h in let q = ap g f in omega (arith, m, q)
has_two g (x ∷ l) a b (inr h) (inr k) ne = let m = has_two g l a b h k ne in omega (arith, m)

module _ {S : Type 0} (W : World S Effect) (P : Program S Effect) (Reaches : ℕ → ℕ → Type 0) (Good : S → Type 0) (y : TableTerms) (entries : List (Entry Effect)) (notes : List Note) (l : List History) (c : IsClosed W y entries notes l) where
  below : (a : History) → Has l a → a.number < W.instances
  below a h = let m = member_le (λ (x : History). bit (nat_eq x.number a.number)) l a h in let b = bit_one a.number a.number refl in let q = c.numbers a.number in cap_below W.instances a.number (omega (arith, m, b, q))

  single : (x : ℕ) → numbered x l ≤ 1
  single x = let q = c.numbers x in let m = cap_most W.instances x in omega (arith, q, m)

  -- something is known under each number
  pub present : (k : ℕ) → k < W.instances → (a : History) × Has l a × (a.number ≡ k)
  present k near = history_at k l (go (numbered k l) refl)
    where
      go : (n : ℕ) → numbered k l ≡ n → 1 ≤ numbered k l
      go zero e = let q = under_less W.instances k l single near e in let a = under_all W.instances l below in let m = c.as_many in absurd (omega (arith, q, a, m))
      go (suc n) e = omega (arith, e)

  module _ (seats : ℕ → Seat) (steps : P.steps ≡ y.steps) (many : P.instances ≡ W.instances) (told : (a : History) → Has l a → (seats a.number).told ≡ a.told) (none : (k : ℕ) → (k < P.instances → ⊥) → seats k ≡ record { records = []; told = untold }) where
    tell : (k : ℕ) → k < P.instances → (a : History) × Has l a × (a.number ≡ k) × ((seats k).told ≡ a.told)
    tell k near = let q = present k (subst (λ n. k < n) many near) in (q.0, q.1, q.2, subst (λ n. (seats n).told ≡ q.0.told) q.2 (told q.0 q.1))

    passed_below : (k i : ℕ) (x : ℕ × ℕ) → nth (seats k).told.passed i ≡ Some x → k < P.instances
    passed_below k i x h = go (nat_lt k P.instances) refl
      where
        go : (b : Bool) → nat_lt k P.instances ≡ b → k < P.instances
        go true e = grind (arith, e)
        go false e = let z = none k (λ n. absurd (omega (arith, n, far e))) in absurd (nothing i (ap (λ (s : Seat). nth s.told.passed i) (sym z) ∙ h))
          where
            far : nat_lt k P.instances ≡ false → P.instances ≤ k
            far e = grind (arith, e)

            nothing : (i : ℕ) → nth [] i ≡ Some x → ⊥
            nothing i h = grind (arith, h)

    same_or_not : (a b : ℕ) → (a ≢ b → ⊥) → a ≡ b
    same_or_not a b h = ⊎_elim (λ e. e) (λ ne. absurd (h ne)) (same_or a b)

    pub boards : Boards W P Reaches Good entries notes seats
    boards = record {
      room = let r = c.room in omega (arith, r, steps);
      entries_numbered = λ p e h. let q = c.entries_numbered p e h in omega (arith, q, many);
      notes_numbered = λ p n h. let q = c.notes_numbered p n h in omega (arith, q, many);
      agrees = λ k m near h. let t = tell k near in let q = (c.follows t.0 t.1).agrees m (subst (λ (z : Told). Has z.takes m) t.3 h) in (q.0, q.1, q.2, ap (W.own (state W entries q.0)) (sym t.2) ∙ q.3);
      holder = λ k r h near has ne. let t = tell k near in let q = c.holder t.0 r h t.1 (subst (λ (z : Told). Has z.refused (IsHeld r h)) t.3 has) ne in
          let w : (seats h).told ≡ q.0.told = subst (λ n. (seats n).told ≡ q.0.told) q.2 (told q.0 q.1) in (q.3.0, subst (λ (z : Told). Has z.takes q.3.0) (sym w) q.3.1, q.3.2, q.3.3);
      journal_holder = λ k h near has. let t = tell k near in ⊎_elim
          (λ e. inl e)
          (λ z. ⊎_elim
          (λ n. inr (inl n))
          (λ q. let w : (seats h).told ≡ q.0.told = subst (λ n. (seats n).told ≡ q.0.told) q.2 (told q.0 q.1) in inr (inr (q.3.0, subst (λ (z : Told). Has z.refused (IsFull q.3.0)) (sym w) q.3.1)))
          z)
          (c.journal_holder t.0 h t.1 (subst (λ (z : Told). Has z.refused (IsHeld journal h)) t.3 has));
      once = λ k m i j x h g. let p = tell k (passed_below k i x h) in let q = tell m (passed_below m j x g) in
          let mine : nth p.0.told.passed i ≡ Some x = subst (λ (z : Told). nth z.passed i ≡ Some x) p.3 h in
          let yours : nth q.0.told.passed j ≡ Some x = subst (λ (z : Told). nth z.passed j ≡ Some x) q.3 g in
          let all = c.once x.0 x.1 in
          let same : k ≡ m = same_or_not k m (λ ne. let two = has_two (λ (a : History). stands x.0 x.1 a.told.passed) l p.0 q.0 p.1 q.1 (λ e. ne (sym p.2 ∙ (e ∙ q.2))) in let a = stands_at p.0.told.passed i x mine in let b = stands_at q.0.told.passed j x yours in absurd (omega (arith, two, a, b, all))) in (
            same,
            same_or_not i j (λ ne. let here : nth p.0.told.passed j ≡ Some x = subst (λ (z : Told). nth z.passed j ≡ Some x) p.3 (ap (λ n. nth (seats n).told.passed j) same ∙ g) in let two = stands_two p.0.told.passed i j x mine here ne in let m = member_le (λ (a : History). stands x.0 x.1 a.told.passed) l p.0 p.1 in absurd (omega (arith, two, m, all))),
          );
      no_others = λ k far. ap (λ (s : Seat). s.records) (none k far);
    }

-- ---- what each worker learnt under its own seat holds of the closed journal
module _ {S : Type 0} (W : World S Effect) (P : Program S Effect) (Reaches : ℕ → ℕ → Type 0) (Good : S → Type 0) (runs : Runs W P Reaches Good) (y : TableTerms) (entries : List (Entry Effect)) (notes : List Note) (l : List History) (c : IsClosed W y entries notes l) where
  -- the board as it would be, had it seen all
  abbrev all_seen : View Effect → View Effect
  all_seen b = record b { entries = entries; notes = notes }

  pub closed_log : (w : Worker) (b : View Effect) (a : History) → Has l a → a.number ≡ b.instance → b.entries ≡ a.entries → b.notes ≡ a.notes → b.told ≡ Some a.told → b.steps ≡ y.steps → w.phase ≡ Resting → w.dropped ≡ false → Meets W P Reaches Good w b
      → OnLog W P Reaches Good w.number entries notes (record { records = w.records; told = a.told })
  closed_log w b a has number es ns told steps rest whole meets =
      let f = c.follows a has in
      let renews : Renews W P Reaches Good runs b (all_seen b) = record {
        same = record { instance = refl; resources = refl; steps = refl; share = refl };
        grows = record {
          entries_more = f.entries_more;
          notes_more = f.notes_more;
          entries = f.entries_are ∙ ap (λ z. z ++ f.entries_more) (sym es);
          notes = f.notes_are ∙ ap (λ z. z ++ f.notes_more) (sym ns);
          others = subst (λ k. Others k f.entries_more) number f.others;
          other_notes = subst (λ k. OtherNotes k f.notes_more) number f.other_notes;
        };
        held = refl;
        told = refl;
      } in
      on_log W P Reaches Good runs w (all_seen b) a.told told rest whole (renewed_meets W P Reaches Good runs w b (all_seen b) renews (let r = c.room in omega (arith, r, steps)) meets)

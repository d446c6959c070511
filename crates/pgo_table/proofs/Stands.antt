-- What a step of one seat leaves as it was at a resource and at the journal.
use Rattle.std.proofs.Common.{◌≡◌, ℕ, ◌+◌, ◌<◌, ◌≢◌, Bool, true, false, List, None, Some, set, sym, refl, ap, ◌∙◌, subst, inl, inr, ⊎_elim, arith}
use mathlib.Core.Option as Found
use mathlib.Core.Option.{some, some-injective}
use lib.ListN.{get_elem?}
use Rattle.std.proofs.lemmas.Option.{same_Some}
use Rattle.atomic_table.proofs.Lists.{set_else}
use Rattle.pgo_base.specs.Data.{Data}
use Rattle.pgo_model.specs.Log.{Effect}
use Rattle.pgo_model.specs.Machine.{Entry, Note}
use Rattle.pgo_workers.specs.Closed.{Has}
use Rattle.pgo_workers.specs.View.{Shown, Taking}
use Rattle.pgo_table.specs.SeatViews.{Holding, History, TableTerms, SeatView, holding_at, total, passes}
use Rattle.pgo_table.specs.Rule.{Home, PassedTo, NobodyElse, TookOk, FreeResource, TakenResource, ResourceStands, FreeJournal, TakenJournal, JournalStands}
use Rattle.pgo_table.proofs.Sums.{same_or, set_here_of, all_set, not_some}

-- a seat at a place is one view
pub at_one : {A : Type 0} (views : List A) (i j : ℕ) (v u : A) → get_elem? views i ≡ some v → get_elem? views j ≡ some u → j ≡ i → u ≡ v
at_one views i j v u at there e = some-injective u v (sym there ∙ (ap (get_elem? views) e ∙ at))

-- what was told grows
abbrev pub Grown : History → History → Type 0
Grown a b = (m : Taking) → Has a.told.takes m → Has b.told.takes m

pub took_grown : (r : ℕ) (a b : History) → Grown a b → TookOk r a → TookOk r b
took_grown r a b g t = (t.0, g t.0 t.1, t.2, t.3)

pub bools : (b : Bool) → b ≡ false → b ≡ true → ⊥
bools b f t = grind (arith, f, t)

module _ {C : Type 0} where
  -- a spot where the journal leaves the component, and the seat's holding and number stay
  pub still : (M : C → Shown) (comp comp' : ℕ → Data) (word : ℕ) (home : Home C) (views : List SeatView) (id r : ℕ) (v w : SeatView) → get_elem? views id ≡ some v
      → comp' r ≡ comp r → holding_at w.holds r ≡ holding_at v.holds r → w.gone ≡ v.gone → w.me.number ≡ v.me.number → Grown v.me w.me → ((n : ℕ) → total (passes r n) (set views id w) ≡ total (passes r n) views)
      → ResourceStands M comp word home views r → ResourceStands M comp' word home (set views id w) r
  still M comp comp' word home views id r v w me same holds gone number grown sums spot = ⊎_elim
      (λ (f : FreeResource M comp word home views r). inl (record {
        word_is = f.word_is;
        content = f.content;
        home_is = f.home_is;
        rests = record { base = f.rests.base ∙ sym same; current = f.rests.current ∙ sym same; numbered = f.rests.numbered };
        nobody = all_set views id w (λ j u. holding_at u.holds r ≡ None) (holds ∙ f.nobody id v me) (λ j u ne at. f.nobody j u at);
        passed = λ n more. sums n ∙ f.passed n more;
      }))
      (λ (t : TakenResource comp word home views r).
      let passed : PassedTo (set views id w) r t.hold.count = λ n more. sums n ∙ t.passed n more in
      ⊎_elim
      (λ (mine : t.seat ≡ id). let one : t.by ≡ v = at_one views id t.seat v t.by me t.by_is mine in inr (record {
        seat = id;
        by = w;
        hold = t.hold;
        by_is = set_here_of views id w v me;
        live = gone ∙ (ap (λ (u : SeatView). u.gone) (sym one) ∙ t.live);
        word_is = t.word_is ∙ ap (λ n. n + 1) (ap (λ (u : SeatView). u.me.number) one ∙ sym number);
        holds = holds ∙ (ap (λ (u : SeatView). holding_at u.holds r) (sym one) ∙ t.holds);
        value = t.value ∙ sym same;
        home_is = t.home_is;
        nobody = all_set views id w (λ j u. j ≢ id → holding_at u.holds r ≡ None) (λ ne. absurd (ne refl)) (λ j u ne at _. t.nobody j u at (λ e. ne (e ∙ mine)));
        passed = passed;
        took = took_grown r v.me w.me grown (subst (λ (u : SeatView). TookOk r u.me) one t.took);
      }))
      (λ (other : t.seat ≢ id). inr (record {
        seat = t.seat;
        by = t.by;
        hold = t.hold;
        by_is = set_else views id t.seat w other ∙ t.by_is;
        live = t.live;
        word_is = t.word_is;
        holds = t.holds;
        value = t.value ∙ sym same;
        home_is = t.home_is;
        nobody = all_set views id w (λ j u. j ≢ t.seat → holding_at u.holds r ≡ None) (λ ne. holds ∙ t.nobody id v me ne) (λ j u _ at ne. t.nobody j u at ne);
        passed = passed;
        took = t.took;
      }))
      (same_or t.seat id))
      spot

  -- a spot where the journal's new entry gives what the seat holds its new value
  pub renews : (M : C → Shown) (comp comp' : ℕ → Data) (word : ℕ) (home : Home C) (views : List SeatView) (id r : ℕ) (v w : SeatView) (next : Holding → Holding) → get_elem? views id ≡ some v
      → w.gone ≡ v.gone → w.me.number ≡ v.me.number → Grown v.me w.me → ((n : ℕ) → total (passes r n) (set views id w) ≡ total (passes r n) views)
      → (holding_at v.holds r ≡ None → (holding_at w.holds r ≡ None) × (comp' r ≡ comp r))
      → ((h : Holding) → holding_at v.holds r ≡ Some h → (holding_at w.holds r ≡ Some (next h)) × ((next h).count ≡ h.count) × (h.value ≡ comp r → (next h).value ≡ comp' r))
      → ResourceStands M comp word home views r → ResourceStands M comp' word home (set views id w) r
  renews M comp comp' word home views id r v w next me gone number grown sums out in_it spot = ⊎_elim
      (λ (f : FreeResource M comp word home views r). still M comp comp' word home views id r v w me (out (f.nobody id v me)).1 ((out (f.nobody id v me)).0 ∙ sym (f.nobody id v me)) gone number grown sums (inl f))
      (λ (t : TakenResource comp word home views r). ⊎_elim
      (λ (mine : t.seat ≡ id).
      let one : t.by ≡ v = at_one views id t.seat v t.by me t.by_is mine in
      let at : holding_at v.holds r ≡ Some t.hold = ap (λ (u : SeatView). holding_at u.holds r) (sym one) ∙ t.holds in
      let q = in_it t.hold at in inr (record {
        seat = id;
        by = w;
        hold = next t.hold;
        by_is = set_here_of views id w v me;
        live = gone ∙ (ap (λ (u : SeatView). u.gone) (sym one) ∙ t.live);
        word_is = t.word_is ∙ ap (λ n. n + 1) (ap (λ (u : SeatView). u.me.number) one ∙ sym number);
        holds = q.0;
        value = q.2 t.value;
        home_is = t.home_is;
        nobody = all_set views id w (λ j u. j ≢ id → holding_at u.holds r ≡ None) (λ ne. absurd (ne refl)) (λ j u ne at _. t.nobody j u at (λ e. ne (e ∙ mine)));
        passed = λ n more. sums n ∙ t.passed n (subst (λ c. c < n) q.1 more);
        took = took_grown r v.me w.me grown (subst (λ (u : SeatView). TookOk r u.me) one t.took);
      }))
      (λ (other : t.seat ≢ id). let none = t.nobody id v me (λ e. other (sym e)) in still M comp comp' word home views id r v w me (out none).1 ((out none).0 ∙ sym none) gone number grown sums (inr t))
      (same_or t.seat id))
      spot

  -- where this seat holds r, the spot is taken by it
  pub record Held (comp : ℕ → Data) (word : ℕ) (home : Home C) (views : List SeatView) (id r : ℕ) (v : SeatView) (h : Holding) : Type 0 where
    pub live : v.gone ≡ false
    pub word_is : word ≡ v.me.number + 1
    pub value : h.value ≡ comp r
    pub home_is : home ≡ Found.some Found.none
    pub passed : PassedTo views r h.count
    pub nobody : NobodyElse views r id
    pub took : TookOk r v.me

  pub holder : (M : C → Shown) (comp : ℕ → Data) (word : ℕ) (home : Home C) (views : List SeatView) (id r : ℕ) (v : SeatView) (h : Holding) → get_elem? views id ≡ some v → holding_at v.holds r ≡ Some h
      → ResourceStands M comp word home views r → Held comp word home views id r v h
  holder M comp word home views id r v h me at spot = ⊎_elim
      (λ (f : FreeResource M comp word home views r). absurd (not_some (holding_at v.holds r) h (f.nobody id v me) at))
      (λ (t : TakenResource comp word home views r). ⊎_elim
      (λ (mine : t.seat ≡ id).
      let one : t.by ≡ v = at_one views id t.seat v t.by me t.by_is mine in
      let held : t.hold ≡ h = same_Some t.hold h (sym t.holds ∙ (ap (λ (u : SeatView). holding_at u.holds r) one ∙ at)) in record {
        live = ap (λ (u : SeatView). u.gone) (sym one) ∙ t.live;
        word_is = t.word_is ∙ ap (λ (u : SeatView). u.me.number + 1) one;
        value = ap (λ (x : Holding). x.value) (sym held) ∙ t.value;
        home_is = t.home_is;
        passed = subst (λ (x : Holding). PassedTo views r x.count) held t.passed;
        nobody = λ j u there ne. t.nobody j u there (λ e. ne (e ∙ mine));
        took = subst (λ (u : SeatView). TookOk r u.me) one t.took;
      })
      (λ (other : t.seat ≢ id). absurd (not_some (holding_at v.holds r) h (t.nobody id v me (λ e. other (sym e))) at))
      (same_or t.seat id))
      spot

  -- the journal where a seat that hasn't it changes, and has it not after
  pub journal_still : (y : TableTerms) (seats : ℕ) (es : List (Entry Effect)) (ns : List Note) (word : ℕ) (home : Home C) (views : List SeatView) (id : ℕ) (v w : SeatView) → get_elem? views id ≡ some v
      → w.has ≡ v.has → w.gone ≡ v.gone → w.me.number ≡ v.me.number → w.me.entries ≡ v.me.entries → w.me.notes ≡ v.me.notes
      → JournalStands y seats es ns word home views → JournalStands y seats es ns word home (set views id w)
  journal_still y seats es ns word home views id v w me has gone number entries notes journal_stands = ⊎_elim
      (λ (f : FreeJournal y seats es ns word home views). inl (record {
        word_is = f.word_is;
        contents = f.contents;
        home_is = f.home_is;
        is_journal = f.is_journal;
        nobody = all_set views id w (λ j u. u.has ≡ false) (has ∙ f.nobody id v me) (λ j u ne at. f.nobody j u at);
      }))
      (λ (t : TakenJournal es ns word home views). ⊎_elim
      (λ (mine : t.seat ≡ id). let one : t.by ≡ v = at_one views id t.seat v t.by me t.by_is mine in inr (record {
        seat = id;
        by = w;
        by_is = set_here_of views id w v me;
        live = gone ∙ (ap (λ (u : SeatView). u.gone) (sym one) ∙ t.live);
        word_is = t.word_is ∙ ap (λ n. n + 1) (ap (λ (u : SeatView). u.me.number) one ∙ sym number);
        has = has ∙ (ap (λ (u : SeatView). u.has) (sym one) ∙ t.has);
        entries_seen = entries ∙ (ap (λ (u : SeatView). u.me.entries) (sym one) ∙ t.entries_seen);
        notes_seen = notes ∙ (ap (λ (u : SeatView). u.me.notes) (sym one) ∙ t.notes_seen);
        home_is = t.home_is;
        nobody = all_set views id w (λ j u. j ≢ id → u.has ≡ false) (λ ne. absurd (ne refl)) (λ j u ne at _. t.nobody j u at (λ e. ne (e ∙ mine)));
      }))
      (λ (other : t.seat ≢ id). inr (record {
        seat = t.seat;
        by = t.by;
        by_is = set_else views id t.seat w other ∙ t.by_is;
        live = t.live;
        word_is = t.word_is;
        has = t.has;
        entries_seen = t.entries_seen;
        notes_seen = t.notes_seen;
        home_is = t.home_is;
        nobody = all_set views id w (λ j u. j ≢ t.seat → u.has ≡ false) (λ ne. has ∙ t.nobody id v me ne) (λ j u _ at ne. t.nobody j u at ne);
      }))
      (same_or t.seat id))
      journal_stands

  -- who has the journal has it alone, and has seen all of it
  pub record Keeps (es : List (Entry Effect)) (ns : List Note) (word : ℕ) (home : Home C) (views : List SeatView) (id : ℕ) (v : SeatView) : Type 0 where
    pub live : v.gone ≡ false
    pub word_is : word ≡ v.me.number + 1
    pub entries_seen : v.me.entries ≡ es
    pub notes_seen : v.me.notes ≡ ns
    pub home_is : home ≡ Found.some Found.none
    pub nobody : (j : ℕ) (u : SeatView) → get_elem? views j ≡ some u → j ≢ id → u.has ≡ false

  pub keeper : (y : TableTerms) (seats : ℕ) (es : List (Entry Effect)) (ns : List Note) (word : ℕ) (home : Home C) (views : List SeatView) (id : ℕ) (v : SeatView) → get_elem? views id ≡ some v → v.has ≡ true
      → JournalStands y seats es ns word home views → Keeps es ns word home views id v
  keeper y seats es ns word home views id v me has journal_stands = ⊎_elim
      (λ (f : FreeJournal y seats es ns word home views). absurd (bools v.has (f.nobody id v me) has))
      (λ (t : TakenJournal es ns word home views). ⊎_elim
      (λ (mine : t.seat ≡ id). let one : t.by ≡ v = at_one views id t.seat v t.by me t.by_is mine in record {
        live = ap (λ (u : SeatView). u.gone) (sym one) ∙ t.live;
        word_is = t.word_is ∙ ap (λ (u : SeatView). u.me.number + 1) one;
        entries_seen = ap (λ (u : SeatView). u.me.entries) (sym one) ∙ t.entries_seen;
        notes_seen = ap (λ (u : SeatView). u.me.notes) (sym one) ∙ t.notes_seen;
        home_is = t.home_is;
        nobody = λ j u at ne. t.nobody j u at (λ e. ne (e ∙ mine));
      })
      (λ (other : t.seat ≢ id). absurd (bools v.has (t.nobody id v me (λ e. other (sym e))) has))
      (same_or t.seat id))
      journal_stands

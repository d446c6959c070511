-- Seats that are split and joined, the table at its start and at its end.
use Rattle.std.proofs.Common.{◌≡◌, ℕ, ◌+◌, ◌<◌, ◌≢◌, ◌⊎◌, true, false, List, [], ◌∷◌, ◌++◌, None, length, get_or, set, sym, refl, ap, ◌∙◌, subst, inl, inr, ⊎_elim, arith}
use Rattle.std.proofs.lemmas.List.{length-append}
use Rattle.std.specs.Prelude.{if◌then◌else◌, nat_eq}
use mathlib.Core.Option.{some}
use lib.ListN.{get_elem?}
use Rattle.atomic_table.specs.Table.{State, Splits, Joins}
use Rattle.atomic_table.proofs.Lists.{at_set, at_snoc, set_else, at_longer}
use Rattle.pgo_base.specs.Data.{Data}
use Rattle.pgo_model.specs.Log.{Effect}
use Rattle.pgo_model.specs.Machine.{Entry, Note}
use Rattle.pgo_resource.specs.PlainRows.{apart}
use Rattle.pgo_workers.specs.Closed.{Has}
use Rattle.pgo_workers.specs.View.{Shown, IsHeld, World}
use Rattle.pgo_table.specs.SeatViews.{Holding, History, TableTerms, SeatView, HasHistory, holding_at, resources, total, bit, times, tells, claims, weight, stands, passes, no_history, nothing_seen, WordStep, made}
use Rattle.pgo_table.specs.Rule.{Home, TookOk, FreeResource, TakenResource, ResourceStands, FreeJournal, TakenJournal, JournalStands, HistoryOf, ToldFull, Reached, Caused, component, Follows, Kept}
use Rattle.pgo_table.specs.Steps.{Slot, after_split, new_seat, after_join, later, first_or}
use Rattle.pgo_table.proofs.Sums.{same_or, set_here_of, all_set, total-append, total-set, term_le, has_left, has_right, has_either, bit_one, cap_most, not_some}
use Rattle.pgo_table.proofs.Traces.{traced_moved}
use Rattle.pgo_table.proofs.Stands.{at_one, bools, still, journal_still}
use Rattle.pgo_table.proofs.Keeps.{table}

total-plus : {A : Type 0} (f g : A → ℕ) (l : List A) → total (λ x. f x + g x) l ≡ total f l + total g l
total-plus f g [] = omega arith
total-plus f g (x ∷ l) = let q = total-plus f g l in omega (arith, q)

module _ {S C : Type 0} (W : World S Effect) (M : C → Shown) (y : TableTerms) where
  -- the same knowledge in other views
  pub record Rearranged (s : State (Slot C) SeatView) (k : Kept W M y s) (views : List SeatView) : Type 0 where
    pub resources_stand : (r : ℕ) → r < length y.layout.resources → ResourceStands M (component W k.entries) (get_or s.words r 0) (get_elem? s.homes r) views r
    pub journal_stands : JournalStands y W.instances k.entries k.notes (get_or s.words (length y.layout.resources) 0) (get_elem? s.homes (length y.layout.resources)) views
    pub each : (x : ℕ) → total (claims x) views ≡ total (claims x) s.views
    pub counted : total weight views ≡ total weight s.views
    pub once : (r n : ℕ) → total (passes r n) views ≡ total (passes r n) s.views
    pub made_before : (r n : ℕ) → total (λ (v : SeatView). made r n v.word_steps) views ≡ total (λ (v : SeatView). made r n v.word_steps) s.views
    pub told_before : (j : ℕ) (u : SeatView) → get_elem? views j ≡ some u → (x : WordStep) → Has u.word_steps x → (i : ℕ) × (w : SeatView) × (get_elem? s.views i ≡ some w) × Has w.word_steps x
    pub terms_are : (j : ℕ) (v : SeatView) → get_elem? views j ≡ some v → v.gone ≡ false → v.terms ≡ y
    pub tidy : (j : ℕ) (v : SeatView) → get_elem? views j ≡ some v → apart (length y.layout.resources) (resources v.holds) ≡ true
    pub strangers : (x : ℕ) → total (tells x) views ≡ 0 → total (tells x) s.views ≡ 0
    pub carried : (j : ℕ) (u : SeatView) (b : History) → get_elem? s.views j ≡ some u → HasHistory u b → (i : ℕ) × (w : SeatView) × (get_elem? views i ≡ some w) × HasHistory w b
    pub holders : (j : ℕ) (u : SeatView) → get_elem? s.views j ≡ some u → u.gone ≡ false → u.has ≡ true → (i : ℕ) × (w : SeatView) × (get_elem? views i ≡ some w) × (w.gone ≡ false) × (w.me.number ≡ u.me.number) × (w.has ≡ true)
    pub known : (j : ℕ) (u : SeatView) (a : History) → get_elem? views j ≡ some u → HasHistory u a → ((i : ℕ) × (w : SeatView) × (get_elem? s.views i ≡ some w) × HasHistory w a) ⊎ ((no_history a.number ≡ a) × (total (tells a.number) s.views ≡ 0))

  module _ (s : State (Slot C) SeatView) (k : Kept W M y s) (views : List SeatView) (c : Rearranged s k views) where
    new_follows : (n : ℕ) → total (tells n) s.views ≡ 0 → Follows W y.share k.entries k.notes (no_history n)
    new_follows n none = let q = k.strangers n none in record {
      entries_more = k.entries;
      entries_are = refl;
      others = q.0;
      notes_more = k.notes;
      notes_are = refl;
      other_notes = q.1;
      within_share = omega arith;
      agrees = λ m h. absurd h;
    }

    moved_history : (h : ℕ) (P : History → Type 0) → HistoryOf s.views h P → HistoryOf views h P
    moved_history h P t = let q = c.carried t.0 t.1 t.2 t.3 t.4 in (q.0, q.1, t.2, q.2, q.3, t.5, t.6)

    moved_reached : (h : ℕ) → Reached s.views k.entries k.notes h → Reached views k.entries k.notes h
    moved_reached h (inl t) = let q = c.holders t.0 t.1 t.2 t.3 t.5 in inl (q.0, q.1, q.2, q.3, q.4 ∙ t.4, q.5)
    moved_reached h (inr (inl t)) = inr (inl t)
    moved_reached h (inr (inr (inl t))) = inr (inr (inl t))
    moved_reached h (inr (inr (inr t))) = inr (inr (inr (moved_history h ToldFull t)))

    moved_caused : (r h : ℕ) → Caused s.views k.entries k.notes r h → Caused views k.entries k.notes r h
    moved_caused r h q = ((λ ne. moved_history h (TookOk r) (q.0 ne)), λ e. moved_reached h (q.1 e))

    pub rearranged : Kept W M y (table W M y s.words s.homes views)
    rearranged = record {
      entries = k.entries;
      notes = k.notes;
      wide = k.wide;
      long = k.long;
      resources_stand = c.resources_stand;
      journal_stands = c.journal_stands;
      each = λ x. let e = c.each x in let q = k.each x in omega (arith, e, q);
      counted = c.counted ∙ k.counted;
      once = λ r n. let e = c.once r n in let q = k.once r n in omega (arith, e, q);
      traced = λ r near. traced_moved (get_or s.words r 0) s.views views r (c.made_before r) (λ j u x at h. c.told_before j u at x h) (k.traced r near);
      terms_are = c.terms_are;
      follows = λ j u a at knows. ⊎_elim
          (λ q. k.follows q.0 q.1 a q.2 q.3)
          (λ (q : (no_history a.number ≡ a) × (total (tells a.number) s.views ≡ 0)). subst (Follows W y.share k.entries k.notes) q.0 (new_follows a.number q.1))
          (c.known j u a at knows);
      strangers = λ x none. k.strangers x (c.strangers x none);
      tidy = c.tidy;
      all_of = k.all_of;
      room = k.room;
      causes = λ j u a r h at knows has. ⊎_elim
          (λ q. moved_caused r h (k.causes q.0 q.1 a r h q.2 q.3 has))
          (λ (q : (no_history a.number ≡ a) × (total (tells a.number) s.views ≡ 0)). absurd (subst (λ (x : History). Has x.told.refused (IsHeld r h)) (sym q.0) has))
          (c.known j u a at knows);
    }

  -- a spot where a new seat comes that holds nothing
  welcomed : (comp : ℕ → Data) (word : ℕ) (home : Home C) (views : List SeatView) (r : ℕ) (w : SeatView) → w.holds ≡ [] → ((n : ℕ) → passes r n w ≡ 0) → ResourceStands M comp word home views r → ResourceStands M comp word home (views ++ w ∷ []) r
  welcomed comp word home views r w none_held none_passed spot =
      let empty : holding_at w.holds r ≡ None = ap (λ (l : List Holding). holding_at l r) none_held in
      let sums : (n : ℕ) → total (passes r n) (views ++ w ∷ []) ≡ total (passes r n) views = λ n. let t = total-append (passes r n) views (w ∷ []) in let z = none_passed n in omega (arith, t, z) in
      ⊎_elim
      (λ (f : FreeResource M comp word home views r). inl (record {
        word_is = f.word_is;
        content = f.content;
        home_is = f.home_is;
        rests = f.rests;
        nobody = λ j u at. ⊎_elim (λ t. f.nobody j u t) (λ (t : w ≡ u). ap (λ (x : SeatView). holding_at x.holds r) (sym t) ∙ empty) (at_snoc views w u j at);
        passed = λ n more. sums n ∙ f.passed n more;
      }))
      (λ (t : TakenResource comp word home views r). inr (record {
        seat = t.seat;
        by = t.by;
        hold = t.hold;
        by_is = at_longer views (w ∷ []) t.seat t.by t.by_is;
        live = t.live;
        word_is = t.word_is;
        holds = t.holds;
        value = t.value;
        home_is = t.home_is;
        nobody = λ j u at ne. ⊎_elim (λ s. t.nobody j u s ne) (λ (s : w ≡ u). ap (λ (x : SeatView). holding_at x.holds r) (sym s) ∙ empty) (at_snoc views w u j at);
        passed = λ n more. sums n ∙ t.passed n more;
        took = t.took;
      }))
      spot

  welcomed_journal : (es : List (Entry Effect)) (ns : List Note) (word : ℕ) (home : Home C) (views : List SeatView) (w : SeatView) → w.has ≡ false → JournalStands y W.instances es ns word home views → JournalStands y W.instances es ns word home (views ++ w ∷ [])
  welcomed_journal es ns word home views w none journal_stands = ⊎_elim
      (λ (f : FreeJournal y W.instances es ns word home views). inl (record { word_is = f.word_is; contents = f.contents; home_is = f.home_is; is_journal = f.is_journal; nobody = λ j u at. ⊎_elim (λ t. f.nobody j u t) (λ (t : w ≡ u). ap (λ (x : SeatView). x.has) (sym t) ∙ none) (at_snoc views w u j at) }))
      (λ (t : TakenJournal es ns word home views). inr (record {
        seat = t.seat;
        by = t.by;
        by_is = at_longer views (w ∷ []) t.seat t.by t.by_is;
        live = t.live;
        word_is = t.word_is;
        has = t.has;
        entries_seen = t.entries_seen;
        notes_seen = t.notes_seen;
        home_is = t.home_is;
        nobody = λ j u at ne. ⊎_elim (λ s. t.nobody j u s ne) (λ (s : w ≡ u). ap (λ (x : SeatView). x.has) (sym s) ∙ none) (at_snoc views w u j at);
      }))
      journal_stands

  pub splits : (id : ℕ) (v : SeatView) (a : ℕ) (more : List ℕ) → v.spare ≡ a ∷ more → v.gone ≡ false → Splits (Kept W M y) id v (after_split v) (new_seat v)
  splits id v a more spare live s k me = rearranged s k (set s.views id left ++ right ∷ []) (record {
    resources_stand = λ r near. welcomed (component W k.entries) (get_or s.words r 0) (get_elem? s.homes r) (set s.views id left) r right refl (λ n. refl)
        (still M (component W k.entries) (component W k.entries) (get_or s.words r 0) (get_elem? s.homes r) s.views id r v left me refl refl refl refl (λ m h. h) (λ n. let t = total-set (passes r n) s.views id v left me in omega (arith, t)) (k.resources_stand r near));
    journal_stands = welcomed_journal k.entries k.notes (get_or s.words many 0) (get_elem? s.homes many) (set s.views id left) right refl
        (journal_still y W.instances k.entries k.notes (get_or s.words many 0) (get_elem? s.homes many) s.views id v left me refl refl refl refl refl k.journal_stands);
    each = λ x. let t = total-set (claims x) s.views id v left me in let u = total-append (claims x) (set s.views id left) (right ∷ []) in let l = ap (times x) left_is in let w = ap (times x) spare in let b = ap (λ n. bit (nat_eq n x)) right_is in omega (arith, t, u, l, w, b);
    counted = let t = total-set weight s.views id v left me in let u = total-append weight (set s.views id left) (right ∷ []) in let l = ap (λ (l : List ℕ). length l) left_is in let w = ap (λ (l : List ℕ). length l) spare in omega (arith, t, u, l, w);
    once = λ r n. let t = total-set (passes r n) s.views id v left me in let u = total-append (passes r n) (set s.views id left) (right ∷ []) in omega (arith, t, u);
    made_before = λ r n. let t = total-set (λ (u : SeatView). made r n u.word_steps) s.views id v left me in let u = total-append (λ (u : SeatView). made r n u.word_steps) (set s.views id left) (right ∷ []) in omega (arith, t, u);
    told_before = each_view (λ u. (x : WordStep) → Has u.word_steps x → (i : ℕ) × (w : SeatView) × (get_elem? s.views i ≡ some w) × Has w.word_steps x) (λ x h. (id, v, me, h)) (λ x h. absurd h) (λ j u at x h. (j, u, at, h));
    terms_are = each_view (λ u. u.gone ≡ false → u.terms ≡ y) (λ _. k.terms_are id v me live) (λ _. k.terms_are id v me live) (λ j u at. k.terms_are j u at);
    tidy = each_view (λ u. apart many (resources u.holds) ≡ true) (k.tidy id v me) refl (λ j u at. k.tidy j u at);
    strangers = λ x none. let t = total-set (tells x) s.views id v left me in let u = total-append (tells x) (set s.views id left) (right ∷ []) in omega (arith, t, u, none);
    carried = λ j u b at knows. ⊎_elim
        (λ (e : j ≡ id). (id, left, at_longer (set s.views id left) (right ∷ []) id left (set_here_of s.views id left v me), subst (λ (x : SeatView). HasHistory x b) (at_one s.views id j v u me at e) knows))
        (λ (ne : j ≢ id). (j, u, at_longer (set s.views id left) (right ∷ []) j u (set_else s.views id j left ne ∙ at), knows))
        (same_or j id);
    holders = λ j u at living has. ⊎_elim
        (λ (e : j ≡ id). let one = at_one s.views id j v u me at e in (id, left, at_longer (set s.views id left) (right ∷ []) id left (set_here_of s.views id left v me), live, ap (λ (x : SeatView). x.me.number) (sym one), ap (λ (x : SeatView). x.has) (sym one) ∙ has))
        (λ (ne : j ≢ id). (j, u, at_longer (set s.views id left) (right ∷ []) j u (set_else s.views id j left ne ∙ at), living, refl, has))
        (same_or j id);
    known = λ j u b at knows. ⊎_elim
        (λ (there : get_elem? (set s.views id left) j ≡ some u). ⊎_elim
        (λ t. inl (id, v, me, subst (λ (x : SeatView). HasHistory x b) (sym t.1) knows))
        (λ t. inl (j, u, t.1, knows))
        (at_set s.views id j left u there))
        (λ (e : right ≡ u). inr (of_new b (subst (λ (x : SeatView). HasHistory x b) (sym e) knows)))
        (at_snoc (set s.views id left) right u j at);
  })
    where
      many : ℕ
      many = length y.layout.resources

      left : SeatView
      left = after_split v

      right : SeatView
      right = new_seat v

      left_is : left.spare ≡ more
      left_is = ap later spare

      right_is : right.me.number ≡ a
      right_is = ap (first_or 0) spare

      each_view : (P : SeatView → Type 0) → P left → P right → ((j : ℕ) (u : SeatView) → get_elem? s.views j ≡ some u → P u) → (j : ℕ) (u : SeatView) → get_elem? (set s.views id left ++ right ∷ []) j ≡ some u → P u
      each_view P l r old j u at = ⊎_elim (λ t. all_set s.views id left (λ _ x. P x) l (λ i x ne there. old i x there) j u t) (λ (t : right ≡ u). subst P t r) (at_snoc (set s.views id left) right u j at)

      none_tells : total (tells a) s.views ≡ 0
      none_tells =
          let p = total-plus (tells a) (λ (u : SeatView). times a u.spare) s.views in
          let m = term_le (λ (u : SeatView). times a u.spare) s.views id v me in
          let b = bit_one a a refl in let t = ap (times a) spare in
          let e = k.each a in let c = cap_most W.instances a in omega (arith, p, m, b, t, e, c)

      of_new : (b : History) → HasHistory right b → (no_history b.number ≡ b) × (total (tells b.number) s.views ≡ 0)
      of_new b (inl q) = let n : right.me.number ≡ b.number = ap (λ (x : History). x.number) q.1 in (ap no_history (sym n) ∙ q.1, subst (λ n. total (tells n) s.views ≡ 0) (sym right_is ∙ n) none_tells)
      of_new b (inr h) = absurd h

  pub joins : (id : ℕ) (v : SeatView) (other : ℕ) (w : SeatView) → v.gone ≡ false → w.gone ≡ false → w.holds ≡ [] → w.has ≡ false → Joins (Kept W M y) id v other w (after_join v w) nothing_seen
  joins id v other w live living none_held has_not s k me apart_from them = rearranged s k views (record {
    resources_stand = λ r near. spot r (k.resources_stand r near);
    journal_stands = journal_stands k.journal_stands;
    each = λ x. let t = total-set (claims x) s.views id v both me in let u = total-set (claims x) (set s.views id both) other w nothing_seen them in let a = total-append (λ (b : History). bit (nat_eq b.number x)) v.joined (w.me ∷ w.joined) in let b = total-append (λ n. bit (nat_eq n x)) v.spare w.spare in let g : (if w.gone then 0 else bit (nat_eq w.me.number x)) ≡ bit (nat_eq w.me.number x) = ap (λ b. if b then 0 else bit (nat_eq w.me.number x)) living in omega (arith, t, u, a, b, g);
    counted = let t = total-set weight s.views id v both me in let u = total-set weight (set s.views id both) other w nothing_seen them in let a = length-append v.joined (w.me ∷ w.joined) in let b = length-append v.spare w.spare in let g : ◌≡◌ {A = ℕ} (if w.gone then 0 else 1) 1 = ap (λ b. if b then 0 else 1) living in omega (arith, t, u, a, b, g);
    once = λ r n. sums r n;
    made_before = λ r n.
        let t = total-set (λ (u : SeatView). made r n u.word_steps) s.views id v both me in let u = total-set (λ (u : SeatView). made r n u.word_steps) (set s.views id both) other w nothing_seen them in
        let a = total-append (λ (x : WordStep). if nat_eq x.word r then bit (nat_eq x.number n) else 0) v.word_steps w.word_steps in omega (arith, t, u, a);
    told_before = each_view (λ u. (x : WordStep) → Has u.word_steps x → (i : ℕ) × (z : SeatView) × (get_elem? s.views i ≡ some z) × Has z.word_steps x)
        (λ x h. ⊎_elim (λ q. (id, v, me, q)) (λ q. (other, w, there, q)) (has_either v.word_steps w.word_steps x h)) (λ x h. absurd h) (λ j u at x h. (j, u, at, h));
    terms_are = each_view (λ u. u.gone ≡ false → u.terms ≡ y) (λ _. k.terms_are id v me live) (λ g. absurd (bools true g refl)) (λ j u at. k.terms_are j u at);
    tidy = each_view (λ u. apart many (resources u.holds) ≡ true) (k.tidy id v me) refl (λ j u at. k.tidy j u at);
    strangers = λ x none. let t = total-set (tells x) s.views id v both me in let u = total-set (tells x) (set s.views id both) other w nothing_seen them in let a = total-append (λ (b : History). bit (nat_eq b.number x)) v.joined (w.me ∷ w.joined) in let g : (if w.gone then 0 else bit (nat_eq w.me.number x)) ≡ bit (nat_eq w.me.number x) = ap (λ b. if b then 0 else bit (nat_eq w.me.number x)) living in omega (arith, t, u, a, g, none);
    carried = λ j u b at knows. ⊎_elim
        (λ (e : j ≡ id). (id, both, both_there, from_v b (subst (λ (x : SeatView). HasHistory x b) (at_one s.views id j v u me at e) knows)))
        (λ (ne : j ≢ id). ⊎_elim
        (λ (e : j ≡ other). (id, both, both_there, from_w b (subst (λ (x : SeatView). HasHistory x b) (at_one s.views other j w u there at e) knows)))
        (λ (far : j ≢ other). (j, u, set_else (set s.views id both) other j nothing_seen far ∙ (set_else s.views id j both ne ∙ at), knows))
        (same_or j other))
        (same_or j id);
    holders = λ j u at alive has. ⊎_elim
        (λ (e : j ≡ id). let one = at_one s.views id j v u me at e in (id, both, both_there, live, ap (λ (x : SeatView). x.me.number) (sym one), ap (λ (x : SeatView). x.has) (sym one) ∙ has))
        (λ (ne : j ≢ id). ⊎_elim
        (λ (e : j ≡ other). absurd (bools w.has has_not (ap (λ (x : SeatView). x.has) (sym (at_one s.views other j w u there at e)) ∙ has)))
        (λ (far : j ≢ other). (j, u, set_else (set s.views id both) other j nothing_seen far ∙ (set_else s.views id j both ne ∙ at), alive, refl, has))
        (same_or j other))
        (same_or j id);
    known = λ j u b at knows. inl (⊎_elim
        (λ t. absurd (nothing b (subst (λ (x : SeatView). HasHistory x b) (sym t.1) knows)))
        (λ t. ⊎_elim
        (λ q. back b (subst (λ (x : SeatView). HasHistory x b) (sym q.1) knows))
        (λ q. (j, u, q.1, knows))
        (at_set s.views id j both u t.1))
        (at_set (set s.views id both) other j nothing_seen u at));
  })
    where
      many : ℕ
      many = length y.layout.resources

      both : SeatView
      both = after_join v w

      views : List SeatView
      views = set (set s.views id both) other nothing_seen

      there : get_elem? s.views other ≡ some w
      there = sym (set_else s.views id other both apart_from) ∙ them

      both_there : get_elem? views id ≡ some both
      both_there = set_else (set s.views id both) other id nothing_seen (λ e. apart_from (sym e)) ∙ set_here_of s.views id both v me

      each_view : (P : SeatView → Type 0) → P both → P nothing_seen → ((j : ℕ) (u : SeatView) → get_elem? s.views j ≡ some u → P u) → (j : ℕ) (u : SeatView) → get_elem? views j ≡ some u → P u
      each_view P b n old = all_set (set s.views id both) other nothing_seen (λ _ x. P x) n (λ i x ne at. all_set s.views id both (λ _ z. P z) b (λ j z far q. old j z q) i x at)

      from_v : (b : History) → HasHistory v b → HasHistory both b
      from_v b (inl q) = inl q
      from_v b (inr h) = inr (has_left v.joined (w.me ∷ w.joined) b h)

      from_w : (b : History) → HasHistory w b → HasHistory both b
      from_w b (inl q) = inr (has_right v.joined (w.me ∷ w.joined) b (inl q.1))
      from_w b (inr h) = inr (has_right v.joined (w.me ∷ w.joined) b (inr h))

      nothing : (b : History) → HasHistory nothing_seen b → ⊥
      nothing b (inl q) = bools true q.0 refl
      nothing b (inr h) = h

      back : (b : History) → HasHistory both b → (i : ℕ) × (x : SeatView) × (get_elem? s.views i ≡ some x) × HasHistory x b
      back b (inl q) = (id, v, me, inl q)
      back b (inr h) = ⊎_elim (λ q. (id, v, me, inr q)) (λ q. (other, w, there, ⊎_elim (λ (e : w.me ≡ b). inl (living, e)) (λ (z : Has w.joined b). inr z) q)) (has_either v.joined (w.me ∷ w.joined) b h)

      sums : (r n : ℕ) → total (passes r n) views ≡ total (passes r n) s.views
      sums r n =
          let t = total-set (passes r n) s.views id v both me in let u = total-set (passes r n) (set s.views id both) other w nothing_seen them in
          let a = total-append (λ (b : History). stands r n b.told.passed) v.joined (w.me ∷ w.joined) in let g : (if w.gone then 0 else stands r n w.me.told.passed) ≡ stands r n w.me.told.passed = ap (λ b. if b then 0 else stands r n w.me.told.passed) living in omega (arith, t, u, a, g)

      empty : (r : ℕ) → holding_at w.holds r ≡ None
      empty r = ap (λ l. holding_at l r) none_held

      spot : (r : ℕ) → ResourceStands M (component W k.entries) (get_or s.words r 0) (get_elem? s.homes r) s.views r → ResourceStands M (component W k.entries) (get_or s.words r 0) (get_elem? s.homes r) views r
      spot r (inl f) = inl (record {
        word_is = f.word_is;
        content = f.content;
        home_is = f.home_is;
        rests = f.rests;
        nobody = each_view (λ u. holding_at u.holds r ≡ None) (f.nobody id v me) refl (λ j u at. f.nobody j u at);
        passed = λ n far. sums r n ∙ f.passed n far;
      })
      spot r (inr t) = go (same_or t.seat id)
        where
          not_other : t.seat ≢ other
          not_other e = not_some (holding_at w.holds r) t.hold (empty r) (ap (λ (x : SeatView). holding_at x.holds r) (sym (at_one s.views other t.seat w t.by there t.by_is e)) ∙ t.holds)

          go : (t.seat ≡ id) ⊎ (t.seat ≢ id) → ResourceStands M (component W k.entries) (get_or s.words r 0) (get_elem? s.homes r) views r
          go (inl e) = let one : t.by ≡ v = at_one s.views id t.seat v t.by me t.by_is e in inr (record {
            seat = id;
            by = both;
            hold = t.hold;
            by_is = both_there;
            live = live;
            word_is = t.word_is ∙ ap (λ (x : SeatView). x.me.number + 1) one;
            holds = ap (λ (x : SeatView). holding_at x.holds r) (sym one) ∙ t.holds;
            value = t.value;
            home_is = t.home_is;
            nobody = all_set (set s.views id both) other nothing_seen (λ j u. j ≢ id → holding_at u.holds r ≡ None) (λ _. refl) (λ j u _ at ne. ⊎_elim (λ q. absurd (ne q.0)) (λ q. t.nobody j u q.1 (λ z. ne (z ∙ e))) (at_set s.views id j both u at));
            passed = λ n far. sums r n ∙ t.passed n far;
            took = subst (λ (x : SeatView). TookOk r x.me) one t.took;
          })
          go (inr ne) = inr (record {
            seat = t.seat;
            by = t.by;
            hold = t.hold;
            by_is = set_else (set s.views id both) other t.seat nothing_seen not_other ∙ (set_else s.views id t.seat both ne ∙ t.by_is);
            live = t.live;
            word_is = t.word_is;
            holds = t.holds;
            value = t.value;
            home_is = t.home_is;
            nobody = all_set (set s.views id both) other nothing_seen (λ j u. j ≢ t.seat → holding_at u.holds r ≡ None) (λ _. refl) (λ j u _ at far. ⊎_elim (λ q. subst (λ (x : SeatView). holding_at x.holds r ≡ None) q.1 (t.nobody id v me (λ z. ne (sym z)))) (λ q. t.nobody j u q.1 far) (at_set s.views id j both u at));
            passed = λ n far. sums r n ∙ t.passed n far;
            took = t.took;
          })

      word : ℕ
      word = get_or s.words many 0

      home : Home C
      home = get_elem? s.homes many

      journal_stands : JournalStands y W.instances k.entries k.notes word home s.views → JournalStands y W.instances k.entries k.notes word home views
      journal_stands (inl f) = inl (record {
        word_is = f.word_is;
        contents = f.contents;
        home_is = f.home_is;
        is_journal = f.is_journal;
        nobody = each_view (λ u. u.has ≡ false) (f.nobody id v me) refl (λ j u at. f.nobody j u at);
      })
      journal_stands (inr t) = go (same_or t.seat id)
        where
          not_other : t.seat ≢ other
          not_other e = bools w.has has_not (ap (λ (x : SeatView). x.has) (sym (at_one s.views other t.seat w t.by there t.by_is e)) ∙ t.has)

          go : (t.seat ≡ id) ⊎ (t.seat ≢ id) → JournalStands y W.instances k.entries k.notes word home views
          go (inl e) = let one : t.by ≡ v = at_one s.views id t.seat v t.by me t.by_is e in inr (record {
            seat = id;
            by = both;
            by_is = both_there;
            live = live;
            word_is = t.word_is ∙ ap (λ (x : SeatView). x.me.number + 1) one;
            has = ap (λ (x : SeatView). x.has) (sym one) ∙ t.has;
            entries_seen = ap (λ (x : SeatView). x.me.entries) (sym one) ∙ t.entries_seen;
            notes_seen = ap (λ (x : SeatView). x.me.notes) (sym one) ∙ t.notes_seen;
            home_is = t.home_is;
            nobody = all_set (set s.views id both) other nothing_seen (λ j u. j ≢ id → u.has ≡ false) (λ _. refl) (λ j u _ at ne. ⊎_elim (λ q. absurd (ne q.0)) (λ q. t.nobody j u q.1 (λ z. ne (z ∙ e))) (at_set s.views id j both u at));
          })
          go (inr ne) = inr (record {
            seat = t.seat;
            by = t.by;
            by_is = set_else (set s.views id both) other t.seat nothing_seen not_other ∙ (set_else s.views id t.seat both ne ∙ t.by_is);
            live = t.live;
            word_is = t.word_is;
            has = t.has;
            entries_seen = t.entries_seen;
            notes_seen = t.notes_seen;
            home_is = t.home_is;
            nobody = all_set (set s.views id both) other nothing_seen (λ j u. j ≢ t.seat → u.has ≡ false) (λ _. refl) (λ j u _ at far. ⊎_elim (λ q. subst (λ (x : SeatView). x.has ≡ false) q.1 (t.nobody id v me (λ z. ne (sym z)))) (λ q. t.nobody j u q.1 far) (at_set s.views id j both u at));
          })

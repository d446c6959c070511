-- What a step of one seat has to show, so that the rule is kept.
use Rattle.std.proofs.Common.{◌≡◌, ℕ, ◌+◌, ◌<◌, ◌≤◌, ◌≢◌, ◌⊎◌, true, false, List, ◌++◌, length, get_or, set, sym, refl, ap, ◌∙◌, subst, inl, inr, ⊎_elim, arith, append_assoc}
use Rattle.std.specs.Prelude.{if◌then◌else◌, nat_eq}
use mathlib.Core.Option as Found
use mathlib.Core.Option.{some}
use lib.ListN.{get_elem?}
use Rattle.atomic_table.specs.Table.{State}
use Rattle.atomic_table.proofs.Lists.{set_else}
use Rattle.pgo_model.specs.Log.{Effect}
use Rattle.pgo_model.specs.Machine.{Entry, Note, nth}
use Rattle.pgo_model.specs.MachineLists.{nth_left}
use Rattle.pgo_resource.specs.PlainRows.{apart}
use Rattle.pgo_workers.specs.Closed.{Has}
use Rattle.pgo_workers.specs.Walk.{Agrees}
use Rattle.pgo_workers.specs.View.{Shown, Refusal, IsHeld, IsFull, Taking, World, Others, OtherNotes, state}
use Rattle.pgo_table.specs.SeatViews.{History, TableTerms, SeatView, HasHistory, resources, total, bit, times, numbered, tells, claims, weight, passes, cap}
use Rattle.pgo_table.specs.Rule.{TookOk, ResourceStands, JournalStands, HistoryOf, ToldFull, Reached, Caused, component, AgreesOnce, Follows, AllOf, Kept, Traced}
use Rattle.pgo_table.specs.Steps.{Slot}
use Rattle.pgo_table.proofs.Sums.{same_or, set_here_of, all_set, total-set, term_le, terms_le, tells_history, claims_history, tells_twice, cap_below, cap_most}
use Rattle.pgo_table.proofs.Logs.{length_append, others_append, other_notes_append, Mine, MyNotes, mine_others, my_notes_others, state_below, all_of-append}
use Rattle.pgo_table.proofs.Stands.{at_one, Grown, took_grown}

module _ {S C : Type 0} (W : World S Effect) (M : C → Shown) (y : TableTerms) where
  abbrev pub table : List ℕ → List (Found.Option (Slot C)) → List SeatView → State (Slot C) SeatView
  table ws hs vs = record { words = ws; homes = hs; views = vs }

  -- what is known under one number is known at one place
  pub alone : (s : State (Slot C) SeatView) (k : Kept W M y s) (i j : ℕ) (v u : SeatView) (a b : History) → get_elem? s.views i ≡ some v → get_elem? s.views j ≡ some u → HasHistory v a → HasHistory u b → j ≢ i → b.number ≢ a.number
  alone s k i j v u a b at there ka kb ne same =
      let both = terms_le (claims a.number) s.views i j v u ne at there in
      let mine : 1 ≤ claims a.number v = claims_history v a ka in
      let yours : 1 ≤ claims a.number u = subst (λ x. 1 ≤ claims x u) same (claims_history u b kb) in
      let each = k.each a.number in
      let most : cap W.instances a.number ≤ 1 = cap_most W.instances a.number in
      absurd (omega (arith, both, mine, yours, each, most))

  pub not_twice : (s : State (Slot C) SeatView) (k : Kept W M y s) (i : ℕ) (v : SeatView) (a : History) → get_elem? s.views i ≡ some v → v.gone ≡ false → Has v.joined a → a.number ≢ v.me.number
  not_twice s k i v a at live h same =
      let two = tells_twice v a live h same in
      let one = term_le (claims v.me.number) s.views i v at in
      let each = k.each v.me.number in
      let most : cap W.instances v.me.number ≤ 1 = cap_most W.instances v.me.number in
      absurd (omega (arith, two, one, each, most))

  pub number_below : (s : State (Slot C) SeatView) (k : Kept W M y s) (i : ℕ) (v : SeatView) (a : History) → get_elem? s.views i ≡ some v → HasHistory v a → a.number < W.instances
  number_below s k i v a at ka =
      let one = term_le (claims a.number) s.views i v at in
      let mine : 1 ≤ claims a.number v = claims_history v a ka in
      let each = k.each a.number in
      cap_below W.instances a.number (omega (arith, one, mine, each))

  pub agrees_more : (es es' de : List (Entry Effect)) (k : ℕ) (m : Taking) → es' ≡ es ++ de → AgreesOnce W es k m → AgreesOnce W es' k m
  agrees_more es es' de k m longer q =
      let same : state W es' q.0 ≡ state W es q.0 = ap (λ l. state W l q.0) longer ∙ state_below W es de q.0 q.1 in
      let long : length es' ≡ length es + length de = ap (λ l. length l) longer ∙ length_append es de in
      let le = q.1 in
      (q.0, omega (arith, le, long), subst (λ t. Agrees m.held (W.value t)) (sym same) q.2, ap (λ t. W.own t k) same ∙ q.3)

  -- the journal has grown by records of another number
  follows_more : (share : ℕ) (es es' : List (Entry Effect)) (ns ns' : List Note) (de : List (Entry Effect)) (dn : List Note) (n : ℕ) (a : History) → es' ≡ es ++ de → ns' ≡ ns ++ dn → Mine n de → MyNotes n dn → a.number ≢ n → Follows W share es ns a → Follows W share es' ns' a
  follows_more share es es' ns ns' de dn n a longer longer_notes mine my_notes ne f = record {
    entries_more = f.entries_more ++ de;
    entries_are = longer ∙ (ap (λ l. l ++ de) f.entries_are ∙ append_assoc a.entries f.entries_more de);
    others = others_append a.number f.entries_more de f.others (mine_others n a.number de ne mine);
    notes_more = f.notes_more ++ dn;
    notes_are = longer_notes ∙ (ap (λ l. l ++ dn) f.notes_are ∙ append_assoc a.notes f.notes_more dn);
    other_notes = other_notes_append a.number f.notes_more dn f.other_notes (my_notes_others n a.number dn ne my_notes);
    within_share = f.within_share;
    agrees = λ m h. agrees_more es es' de a.number m longer (f.agrees m h);
  }

  pub record Change (s : State (Slot C) SeatView) (k : Kept W M y s) (id : ℕ) (v w : SeatView) (ws : List ℕ) (hs : List (Found.Option (Slot C))) (es de : List (Entry Effect)) (ns dn : List Note) : Type 0 where
    pub me : get_elem? s.views id ≡ some v
    pub live : v.gone ≡ false
    pub terms : w.terms ≡ v.terms
    pub gone : w.gone ≡ v.gone
    pub number : w.me.number ≡ v.me.number
    pub joined : w.joined ≡ v.joined
    pub spare : w.spare ≡ v.spare
    pub words_long : length ws ≡ length s.words
    pub homes_long : length hs ≡ length s.homes
    pub entries_are : es ≡ k.entries ++ de
    pub notes_are : ns ≡ k.notes ++ dn
    pub mine : Mine v.me.number de
    pub my_notes : MyNotes v.me.number dn
    pub all_of : AllOf W de
    pub room : length es ≤ y.steps
    pub resources_stand : (r : ℕ) → r < length y.layout.resources → ResourceStands M (component W es) (get_or ws r 0) (get_elem? hs r) (set s.views id w) r
    pub journal_stands : JournalStands y W.instances es ns (get_or ws (length y.layout.resources) 0) (get_elem? hs (length y.layout.resources)) (set s.views id w)
    pub once : (r n : ℕ) → total (passes r n) (set s.views id w) ≤ 1
    pub traced : (r : ℕ) → r ≤ length y.layout.resources → Traced (get_or ws r 0) (set s.views id w) r
    pub follows : Follows W y.share es ns w.me
    pub grown : Grown v.me w.me
    pub refused_before : (x : Refusal) → Has v.me.told.refused x → Has w.me.told.refused x
    pub refused : (r h : ℕ) → Has w.me.told.refused (IsHeld r h) → Has v.me.told.refused (IsHeld r h) ⊎ Caused (set s.views id w) es ns r h
    pub tidy : apart (length y.layout.resources) (resources w.holds) ≡ true
    pub released : v.has ≡ true → (w.has ≡ true) ⊎ Reached (set s.views id w) es ns v.me.number

  module _ (s : State (Slot C) SeatView) (k : Kept W M y s) (id : ℕ) (v w : SeatView) (ws : List ℕ) (hs : List (Found.Option (Slot C))) (es de : List (Entry Effect)) (ns dn : List Note) (c : Change s k id v w ws hs es de ns dn) where
    views' : List SeatView
    views' = set s.views id w

    same_tells : (x : ℕ) → tells x w ≡ tells x v
    same_tells x = λ i. (if c.gone i then 0 else bit (nat_eq (c.number i) x)) + numbered x (c.joined i)

    same_claims : (x : ℕ) → claims x w ≡ claims x v
    same_claims x = λ i. same_tells x i + times x (c.spare i)

    same_weight : weight w ≡ weight v
    same_weight = λ i. (if c.gone i then 0 else 1) + (length (c.joined i) + length (c.spare i))

    keep_history : (P : History → Type 0) (h : ℕ) → (P v.me → P w.me) → HistoryOf s.views h P → HistoryOf (set s.views id w) h P
    keep_history P h more t = go t.0 t.1 t.2 t.3 t.4 t.5 t.6 (same_or t.0 id)
      where
        go : (j : ℕ) (u : SeatView) (b : History) → get_elem? s.views j ≡ some u → HasHistory u b → b.number ≡ h → P b → (j ≡ id) ⊎ (j ≢ id) → HistoryOf (set s.views id w) h P
        go j u b at knows number p (inr ne) = (j, u, b, set_else s.views id j w ne ∙ at, knows, number, p)
        go j u b at knows number p (inl e) = mine (subst (λ x. HasHistory x b) (at_one s.views id j v u c.me at e) knows)
          where
            mine : HasHistory v b → HistoryOf (set s.views id w) h P
            mine (inl q) = (id, w, w.me, set_here_of s.views id w v c.me, inl (c.gone ∙ q.0, refl), c.number ∙ (ap (λ (a : History). a.number) q.1 ∙ number), more (subst P (sym q.1) p))
            mine (inr q) = (id, w, b, set_here_of s.views id w v c.me, inr (subst (λ l. Has l b) (sym c.joined) q), number, p)

    keep_reached : (h : ℕ) → Reached s.views k.entries k.notes h → Reached (set s.views id w) es ns h
    keep_reached h (inl t) = go t.0 t.1 t.2 t.3 t.4 t.5 (same_or t.0 id)
      where
        go : (j : ℕ) (u : SeatView) → get_elem? s.views j ≡ some u → u.gone ≡ false → u.me.number ≡ h → u.has ≡ true → (j ≡ id) ⊎ (j ≢ id) → Reached (set s.views id w) es ns h
        go j u at living number has (inr ne) = inl (j, u, set_else s.views id j w ne ∙ at, living, number, has)
        go j u at living number has (inl e) =
            let one : u ≡ v = at_one s.views id j v u c.me at e in
            let is : v.me.number ≡ h = ap (λ (x : SeatView). x.me.number) (sym one) ∙ number in
            ⊎_elim
            (λ (q : w.has ≡ true). inl (id, w, set_here_of s.views id w v c.me, c.gone ∙ c.live, c.number ∙ is, q))
            (λ (q : Reached (set s.views id w) es ns v.me.number). subst (Reached (set s.views id w) es ns) is q)
            (c.released (ap (λ (x : SeatView). x.has) (sym one) ∙ has))
    keep_reached h (inr (inl t)) = inr (inl (t.0, t.1, ap (λ l. nth l t.0) c.entries_are ∙ nth_left k.entries de t.0 t.1 t.2, t.3))
    keep_reached h (inr (inr (inl t))) = inr (inr (inl (t.0, t.1, ap (λ l. nth l t.0) c.notes_are ∙ nth_left k.notes dn t.0 t.1 t.2, t.3)))
    keep_reached h (inr (inr (inr t))) = inr (inr (inr (keep_history ToldFull h (λ f. (f.0, c.refused_before (IsFull f.0) f.1)) t)))

    keep_caused : (r h : ℕ) → Caused s.views k.entries k.notes r h → Caused (set s.views id w) es ns r h
    keep_caused r h q = ((λ ne. keep_history (TookOk r) h (took_grown r v.me w.me c.grown) (q.0 ne)), λ e. keep_reached h (q.1 e))

    joined_before : (a : History) → Has w.joined a → Has v.joined a
    joined_before a h = subst (λ l. Has l a) c.joined h

    more_follow : (j : ℕ) (u : SeatView) (a : History) → get_elem? s.views j ≡ some u → HasHistory u a → a.number ≢ v.me.number → Follows W y.share es ns a
    more_follow j u a at knows ne = follows_more y.share k.entries es k.notes ns de dn v.me.number a c.entries_are c.notes_are c.mine c.my_notes ne (k.follows j u a at knows)

    follow : (j : ℕ) (u : SeatView) → get_elem? (set s.views id w) j ≡ some u → (a : History) → HasHistory u a → Follows W y.share es ns a
    follow = all_set s.views id w (λ j u. (a : History) → HasHistory u a → Follows W y.share es ns a)
        (λ a knows. ⊎_elim
        (λ (q : (w.gone ≡ false) × (w.me ≡ a)). subst (Follows W y.share es ns) q.1 c.follows)
        (λ (q : Has w.joined a). let h = joined_before a q in more_follow id v a c.me (inr h) (not_twice s k id v a c.me c.live h))
        knows)
        (λ j u ne at a knows. more_follow j u a at knows (alone s k id j v u v.me a c.me at (inl (c.live, refl)) knows ne))

    cause : (j : ℕ) (u : SeatView) → get_elem? (set s.views id w) j ≡ some u → (a : History) (r h : ℕ) → HasHistory u a → Has a.told.refused (IsHeld r h) → Caused (set s.views id w) es ns r h
    cause = all_set s.views id w (λ j u. (a : History) (r h : ℕ) → HasHistory u a → Has a.told.refused (IsHeld r h) → Caused (set s.views id w) es ns r h)
        (λ a r h knows has. ⊎_elim
        (λ (q : (w.gone ≡ false) × (w.me ≡ a)). ⊎_elim
        (λ (old : Has v.me.told.refused (IsHeld r h)). keep_caused r h (k.causes id v v.me r h c.me (inl (c.live, refl)) old))
        (λ (new : Caused (set s.views id w) es ns r h). new)
        (c.refused r h (subst (λ (x : History). Has x.told.refused (IsHeld r h)) (sym q.1) has)))
        (λ (q : Has w.joined a). keep_caused r h (k.causes id v a r h c.me (inr (joined_before a q)) has))
        knows)
        (λ j u ne at a r h knows has. keep_caused r h (k.causes j u a r h at knows has))

    pub changes : Kept W M y (table ws hs (set s.views id w))
    changes = record {
      entries = es;
      notes = ns;
      wide = c.words_long ∙ (k.wide ∙ sym c.homes_long);
      long = c.homes_long ∙ k.long;
      resources_stand = c.resources_stand;
      journal_stands = c.journal_stands;
      each = λ x. let t = total-set (claims x) s.views id v w c.me in let e = k.each x in let z = same_claims x in omega (arith, t, e, z);
      counted = let t = total-set weight s.views id v w c.me in let e = k.counted in let z = same_weight in omega (arith, t, e, z);
      once = c.once;
      traced = c.traced;
      terms_are = all_set s.views id w (λ j u. u.gone ≡ false → u.terms ≡ y) (λ g. c.terms ∙ k.terms_are id v c.me c.live) (λ j u ne at g. k.terms_are j u at g);
      follows = λ j u a at knows. follow j u at a knows;
      strangers = λ x none.
          let t = total-set (tells x) s.views id v w c.me in let z = same_tells x in
          let before : total (tells x) s.views ≡ 0 = omega (arith, t, z, none) in
          let ne : x ≢ v.me.number = λ e. (let le = term_le (tells x) s.views id v c.me in let one : 1 ≤ tells x v = subst (λ n. 1 ≤ tells n v) (sym e) (tells_history v v.me (inl (c.live, refl))) in absurd (omega (arith, le, one, before))) in
          let q = k.strangers x before in (
            subst (Others x) (sym c.entries_are) (others_append x k.entries de q.0 (mine_others v.me.number x de ne c.mine)),
            subst (OtherNotes x) (sym c.notes_are) (other_notes_append x k.notes dn q.1 (my_notes_others v.me.number x dn ne c.my_notes)),
          );
      tidy = all_set s.views id w (λ j u. apart (length y.layout.resources) (resources u.holds) ≡ true) c.tidy (λ j u ne at. k.tidy j u at);
      all_of = subst (AllOf W) (sym c.entries_are) (all_of-append W k.entries de k.all_of c.all_of);
      room = c.room;
      causes = λ j u a r h at knows has. cause j u at a r h knows has;
    }

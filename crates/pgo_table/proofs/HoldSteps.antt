-- The steps on a resource's word keep the rule.
use Rattle.std.proofs.Common.{◌≡◌, ℕ, ◌+◌, ◌-◌, ◌<◌, ◌≤◌, ◌≢◌, ◌⊎◌, Bool, true, false, List, [], ◌∷◌, ◌++◌, None, Some, length, get_or, set, sym, refl, ap, ◌∙◌, subst, inl, inr, ⊎_elim, arith, append-nil, eqb, length-set, get_or-set_same, get_or-set_other}
use Rattle.std.proofs.lemmas.List.{set-get_or}
use Rattle.std.proofs.lemmas.Option.{same_Some}
use Rattle.std.specs.Prelude.{if◌then◌else◌, nat_lt}
use mathlib.Core.Option as Found
use mathlib.Core.Option.{some, none}
use lib.ListN.{get_elem?}
use prog.Atomic.{either}
use Rattle.atomic_table.specs.Table.{State, Me, step, Act, keeps, takes, gives, Valid, carried_after, stepped, Allows}
use Rattle.atomic_table.proofs.Lists.{set_here, set_else, exchanged}
use Rattle.pgo_model.specs.Log.{Effect}
use Rattle.pgo_resource.specs.PlainRows.{apart}
use Rattle.pgo_resource.proofs.PlainPlaces.{apart_push}
use Rattle.pgo_workers.specs.Closed.{Has}
use Rattle.pgo_workers.specs.View.{Shown, Refusal, IsHeld, IsFull, Taking, World, Others, OtherNotes, notes_of, stretch, own_left}
use Rattle.pgo_workers.specs.Worlds.{Layout}
use Rattle.pgo_table.specs.SeatViews.{Holding, holding, History, TableTerms, SeatView, holding_at, resources, total, stands, passes}
use Rattle.pgo_table.specs.Rule.{PassedTo, FreeResource, TakenResource, ResourceStands, JournalStands, Caused, behind, component, AgreesOnce, Follows, Kept, Proper}
use Rattle.pgo_table.specs.Steps as Steps
use Rattle.pgo_table.specs.Steps.{Slot}
use Rattle.pgo_table.specs.declared.slots.Stored.{Stored}
use Rattle.pgo_table.specs.declared.slots.Stored.TheVariants.{Content}
use Rattle.pgo_table.proofs.Sums.{same_or, set_here_of, all_set, total-set, at-other, at-new, without-same, without-other, stands-append, stretch-other, stretch-within, has_left, has_last, has_snoc, not_some, not_among, resources_push, apart_without, agrees_each, near_of}
use Rattle.pgo_table.proofs.Logs.{behind_own, left-append, left-others}
use Rattle.pgo_table.proofs.Traces.{traced_after}
use Rattle.pgo_table.proofs.Stands.{at_one, still, Held, holder, journal_still}
use Rattle.pgo_table.proofs.Keeps.{alone, number_below, changes}

-- the numbers that a seat adds when it gives r back
gave_once : (views : List SeatView) (id r n from now : ℕ) (v w : SeatView) → get_elem? views id ≡ some v → passes r n w ≡ passes r n v + stands r n (stretch r from (now - from)) → from ≤ now → PassedTo views r from → total (passes r n) views ≤ 1
    → (total (passes r n) (set views id w) ≤ 1) × (now < n → total (passes r n) (set views id w) ≡ 0)
gave_once views id r n from now v w me longer later none_above one =
    let moved = total-set (passes r n) views id v w me in
    let within = stretch-within r n from (now - from) in
    ⊎_elim
    (λ (below : n ≤ from). let z = within.1 below in (omega (arith, moved, longer, z, one), λ far. absurd (omega (arith, below, far, later))))
    (λ (above : from < n). let z = none_above n above in let a = within.0 in (omega (arith, moved, longer, z, a), λ far. let q = within.2 (omega (arith, far, later)) in omega (arith, moved, longer, z, q)))
    (split n from)
  where
    split : (a b : ℕ) → (a ≤ b) ⊎ (b < a)
    split a b = go (nat_lt b a) refl
      where
        go : (t : Bool) → nat_lt b a ≡ t → (a ≤ b) ⊎ (b < a)
        go true e = inr (grind (arith, e))
        go false e = inl (grind (arith, e))

held_resource : Refusal → ℕ
held_resource (IsHeld r h) = r
held_resource (IsFull n) = 0

held_holder : Refusal → ℕ
held_holder (IsHeld r h) = h
held_holder (IsFull n) = 0

pub held_same : (a b c d : ℕ) → IsHeld a b ≡ IsHeld c d → (a ≡ c) × (b ≡ d)
unfolding held_resource held_holder
held_same a b c d e = (ap held_resource e, ap held_holder e)

module _ {S C : Type 0} (world : Layout → World S Effect) (Fits : Layout → S → Type 0) (M : C → Shown) where
  abbrev pub Goes : TableTerms → State (Slot C) SeatView → ℕ → ℕ → List (ℕ × Slot C) → (ℕ → Me (Slot C) SeatView → Type 0) → ℕ → Type 0
  Goes y s i id carried T n = (w : SeatView) × (a : Act (Slot C)) × Valid s.homes carried a × Kept (world y.layout) M y (stepped s i n id carried w a) × T (get_or s.words i 0) (w, carried_after carried a)

  -- a live seat has the table's terms
  pub at_own_terms : (y : TableTerms) (s : State (Slot C) SeatView) (i id : ℕ) (v : SeatView) (carried : List (ℕ × Slot C)) (T : ℕ → Me (Slot C) SeatView → Type 0) (n : ℕ) → Kept (world y.layout) M y s → Proper world Fits y → get_elem? s.views id ≡ some v → v.gone ≡ false
      → (Kept (world v.terms.layout) M v.terms s → Proper world Fits v.terms → Goes v.terms s i id carried T n) → Goes y s i id carried T n
  at_own_terms y s i id v carried T n k p me live inner =
      let is : v.terms ≡ y = k.terms_are id v me live in
      subst (λ z. Goes z s i id carried T n) is (inner (subst (λ z. Kept (world z.layout) M z s) (sym is) k) (subst (Proper world Fits) (sym is) p))

  -- the seat's own components, as it knows them
  pub own_here : (v : SeatView) (s : State (Slot C) SeatView) (p : Proper world Fits v.terms) (k : Kept (world v.terms.layout) M v.terms s) (id : ℕ) → get_elem? s.views id ≡ some v → v.gone ≡ false
      → (world v.terms.layout).own (behind (world v.terms.layout) k.entries) v.me.number ≡ Steps.own_known (world v.terms.layout) v
  own_here v s p k id me live =
      let W = world v.terms.layout in let f = k.follows id v v.me me (inl (live, refl)) in let n = v.me.number in let o = W.own W.start n in
      behind_own W (Fits v.terms.layout) p.laws n k.entries k.all_of ∙ (ap (own_left W n o) f.entries_are ∙ (left-append W n o v.me.entries f.entries_more ∙ left-others W n (own_left W n o v.me.entries) f.entries_more f.others))

  -- what a seat holds has the components' values
  pub agrees_here : (v : SeatView) (s : State (Slot C) SeatView) (k : Kept (world v.terms.layout) M v.terms s) (id : ℕ) → get_elem? s.views id ≡ some v → (r : ℕ) (h : Holding) → holding_at v.holds r ≡ Some h → component (world v.terms.layout) k.entries r ≡ h.value
  agrees_here v s k id me r h at =
      let near = near_of (length v.terms.layout.resources) v.holds r h (k.tidy id v me) at in
      sym (holder M (component (world v.terms.layout) k.entries) (get_or s.words r 0) (get_elem? s.homes r) s.views id r v h me at (k.resources_stand r near)).value

  -- a further take was answered, and it agrees with the journal
  pub follows_take : (v : SeatView) (w : History) (s : State (Slot C) SeatView) (k : Kept (world v.terms.layout) M v.terms s) (id : ℕ) → get_elem? s.views id ≡ some v → v.gone ≡ false → (m : Taking) → w.number ≡ v.me.number → w.entries ≡ v.me.entries → w.notes ≡ v.me.notes → w.told.takes ≡ v.me.told.takes ++ m ∷ []
      → AgreesOnce (world v.terms.layout) k.entries v.me.number m → Follows (world v.terms.layout) v.terms.share k.entries k.notes w
  follows_take v w s k id me live m number entries notes taken new =
      let W = world v.terms.layout in let f = k.follows id v v.me me (inl (live, refl)) in record {
        entries_more = f.entries_more;
        entries_are = f.entries_are ∙ ap (λ l. l ++ f.entries_more) (sym entries);
        others = subst (λ n. Others n f.entries_more) (sym number) f.others;
        notes_more = f.notes_more;
        notes_are = f.notes_are ∙ ap (λ l. l ++ f.notes_more) (sym notes);
        other_notes = subst (λ n. OtherNotes n f.notes_more) (sym number) f.other_notes;
        within_share = let e : notes_of w.number w.notes ≡ notes_of v.me.number v.me.notes = λ i. notes_of (number i) (notes i) in let q = f.within_share in omega (arith, e, q);
        agrees = λ x h. subst (λ n. AgreesOnce W k.entries n x) (sym number) (⊎_elim (λ old. f.agrees x old) (λ (e : m ≡ x). subst (AgreesOnce W k.entries v.me.number) e new) (has_snoc v.me.told.takes m x (subst (λ l. Has l x) taken h)));
      }

  pub takes_keeps : (y : TableTerms) (p : Proper world Fits y) (slots id : ℕ) (m : Me (Slot C) SeatView) (r new : ℕ) → new ≡ m.0.me.number + 1 → r < length y.layout.resources → m.0.gone ≡ false → holding_at m.0.holds r ≡ None
      → Allows (Kept (world y.layout) M y) slots id m r (λ n. either (eqb n 0) new n) (Steps.takes world M (step slots r 0 new none) m)
  takes_keeps y p slots id m r new is near live not_held s k wide me _ =
      at_own_terms y s r id m.0 m.1 T (either (eqb x 0) new x) k p me live (λ k' p'. inner k' p' (subst (λ z. r < length z.layout.resources) (sym (k.terms_are id m.0 me live)) near))
    where
      v : SeatView
      v = m.0

      T : ℕ → Me (Slot C) SeatView → Type 0
      T = Steps.takes world M (step slots r 0 new none) m

      x : ℕ
      x = get_or s.words r 0

      W : World S Effect
      W = world v.terms.layout

      inner : Kept W M v.terms s → Proper world Fits v.terms → r < length v.terms.layout.resources → Goes v.terms s r id m.1 T (either (eqb x 0) new x)
      inner k p near = exchanged x 0 new (Goes v.terms s r id m.1 T)
          (λ hit. ⊎_elim (λ f. granted hit f) (λ (t : TakenResource (component W k.entries) x (get_elem? s.homes r) s.views r). let z = t.word_is in absurd (omega (arith, z, hit))) (k.resources_stand r near))
          (λ miss. ⊎_elim (λ (f : FreeResource M (component W k.entries) x (get_elem? s.homes r) s.views r). absurd (miss f.word_is)) (λ t. denied miss t) (k.resources_stand r near))
        where
          many : ℕ
          many = length v.terms.layout.resources

          inside : r < length s.homes
          inside = let l = k.long in omega (arith, l, near)

          not_journal : many ≢ r
          not_journal e = absurd (omega (arith, near, e))

          far_near : r ≤ many
          far_near = omega (arith, near)

          within : r < length s.words
          within = let l = k.wide in let i = inside in omega (arith, l, i)

          -- how many steps there were at r's word
          number : ℕ
          number = length (k.traced r far_near).trace

          granted : x ≡ 0 → FreeResource M (component W k.entries) x (get_elem? s.homes r) s.views r → Goes v.terms s r id m.1 T new
          granted hit f = (
            w,
            takes r (Some (Content c)),
            f.home_is,
            changes W M v.terms s k id v w (set s.words r new) (set s.homes r none) k.entries [] k.notes [] (record {
              me = me;
              live = live;
              terms = refl;
              gone = refl;
              number = refl;
              joined = refl;
              spare = refl;
              words_long = length-set s.words r new;
              homes_long = length-set s.homes r none;
              entries_are = sym (append-nil k.entries);
              notes_are = sym (append-nil k.notes);
              mine = tt;
              my_notes = tt;
              all_of = tt;
              room = k.room;
              resources_stand = λ i far. ⊎_elim
                  (λ (e : i ≡ r). subst (λ q. ResourceStands M (component W k.entries) (get_or (set s.words r new) q 0) (get_elem? (set s.homes r none) q) (set s.views id w) q) (sym e)
                  (subst (λ n. ResourceStands M (component W k.entries) n (get_elem? (set s.homes r none) r) (set s.views id w) r) (sym (get_or-set_same s.words r new 0 (let l = k.wide in omega (arith, l, inside)))) (inr held)))
                  (λ (ne : i ≢ r). subst (λ n. ResourceStands M (component W k.entries) n (get_elem? (set s.homes r none) i) (set s.views id w) i) (sym (get_or-set_other s.words r i new 0 ne))
                  (subst (λ o. ResourceStands M (component W k.entries) (get_or s.words i 0) o (set s.views id w) i) (sym (set_else s.homes r i none ne))
                  (still M (component W k.entries) (component W k.entries) (get_or s.words i 0) (get_elem? s.homes i) s.views id i v w me refl (at-other v.holds h i (λ e. ne (sym e))) refl refl grown (sums i) (k.resources_stand i far))))
                  (same_or i r);
              journal_stands = subst (λ n. JournalStands v.terms W.instances k.entries k.notes n (get_elem? (set s.homes r none) many) (set s.views id w)) (sym (get_or-set_other s.words r many new 0 not_journal))
                  (subst (λ o. JournalStands v.terms W.instances k.entries k.notes (get_or s.words many 0) o (set s.views id w)) (sym (set_else s.homes r many none not_journal))
                  (journal_still v.terms W.instances k.entries k.notes (get_or s.words many 0) (get_elem? s.homes many) s.views id v w me refl refl refl refl refl k.journal_stands));
              once = λ i n. let z = sums i n in let o = k.once i n in omega (arith, z, o);
              traced = traced_after many s.words s.views k.traced id r new v w far_near within me refl;
              follows = follows_take v w.me s k id me live taking refl refl refl refl agrees;
              grown = grown;
              refused_before = λ q h. h;
              refused = λ q g h. inl h;
              tidy = tidy;
              released = λ has. inl has;
            }),
            (
              number,
              (λ _. (c, refl, f.rests.current ∙ sym f.rests.base, f.rests.numbered)),
              (λ ne. absurd (ne hit)),
              record { state = s; kept = k; seat = id; view_is = me; near = far_near; number_is = refl; word_is = refl; free = λ _. f.nobody; held = λ h e. absurd (omega (arith, hit, e)) },
            ),
          )
            where
              c : C
              c = f.content

              h : Holding
              h = holding r (M c).base (M c).count

              w : SeatView
              w = Steps.stepped_at r number x new (Steps.took W v r (M c).base (M c).count)

              taking : Taking
              taking = Steps.taking_of W v r None w.holds

              grown : (q : Taking) → Has v.me.told.takes q → Has w.me.told.takes q
              grown q g = has_left v.me.told.takes (taking ∷ []) q g

              sums : (i n : ℕ) → total (passes i n) (set s.views id w) ≡ total (passes i n) s.views
              sums i n = let t = total-set (passes i n) s.views id v w me in omega (arith, t)

              tidy : apart many (resources w.holds) ≡ true
              tidy = ap (apart many) (resources_push v.holds h) ∙ apart_push many r (resources v.holds) (k.tidy id v me) near (not_among v.holds r not_held)

              agrees : AgreesOnce W k.entries v.me.number taking
              agrees = (
                length k.entries,
                omega arith,
                agrees_each many w.holds (component W k.entries) tidy (λ q g at. ⊎_elim
                    (λ (e : q ≡ r). let one : h ≡ g = same_Some h g (sym (at-new v.holds h r refl not_held) ∙ (ap (holding_at w.holds) (sym e) ∙ at)) in ap (component W k.entries) e ∙ (sym f.rests.base ∙ ap (λ (z : Holding). z.value) one))
                    (λ (ne : q ≢ r). agrees_here v s k id me q g (sym (at-other v.holds h q (λ e. ne (sym e))) ∙ at))
                    (same_or q r)),
                own_here v s p k id me live,
              )

              held : TakenResource (component W k.entries) new (get_elem? (set s.homes r none) r) (set s.views id w) r
              held = record {
                seat = id;
                by = w;
                hold = h;
                by_is = set_here_of s.views id w v me;
                live = live;
                word_is = is;
                holds = at-new v.holds h r refl not_held;
                value = f.rests.base;
                home_is = set_here s.homes r none inside;
                nobody = all_set s.views id w (λ j u. j ≢ id → holding_at u.holds r ≡ None) (λ ne. absurd (ne refl)) (λ j u ne at _. f.nobody j u at);
                passed = λ n more. sums r n ∙ f.passed n more;
                took = (taking, has_new, refl, refl);
              }
                where
                  has_new : Has w.me.told.takes taking
                  has_new = has_last v.me.told.takes taking

          denied : x ≢ 0 → TakenResource (component W k.entries) x (get_elem? s.homes r) s.views r → Goes v.terms s r id m.1 T x
          denied miss t = (
            w,
            keeps,
            tt,
            changes W M v.terms s k id v w (set s.words r x) s.homes k.entries [] k.notes [] (record {
              me = me;
              live = live;
              terms = refl;
              gone = refl;
              number = refl;
              joined = refl;
              spare = refl;
              words_long = length-set s.words r x;
              homes_long = refl;
              entries_are = sym (append-nil k.entries);
              notes_are = sym (append-nil k.notes);
              mine = tt;
              my_notes = tt;
              all_of = tt;
              room = k.room;
              resources_stand = λ i far. subst (λ l. ResourceStands M (component W k.entries) (get_or l i 0) (get_elem? s.homes i) (set s.views id w) i) (sym words)
                  (still M (component W k.entries) (component W k.entries) (get_or s.words i 0) (get_elem? s.homes i) s.views id i v w me refl refl refl refl grown (sums i) (k.resources_stand i far));
              journal_stands = subst (λ l. JournalStands v.terms W.instances k.entries k.notes (get_or l many 0) (get_elem? s.homes many) (set s.views id w)) (sym words)
                  (journal_still v.terms W.instances k.entries k.notes (get_or s.words many 0) (get_elem? s.homes many) s.views id v w me refl refl refl refl refl k.journal_stands);
              once = λ i n. let z = sums i n in let o = k.once i n in omega (arith, z, o);
              traced = traced_after many s.words s.views k.traced id r x v w far_near within me refl;
              follows = follows_take v w.me s k id me live taking refl refl refl refl (length k.entries, omega arith, agrees_each many v.holds (component W k.entries) (k.tidy id v me) (λ q g at. agrees_here v s k id me q g at), own_here v s p k id me live);
              grown = grown;
              refused_before = λ q h. has_left v.me.told.refused (IsHeld r (x - 1) ∷ []) q h;
              refused = λ q g h. ⊎_elim (λ old. inl old) (λ (e : IsHeld r (x - 1) ≡ IsHeld q g). inr (subst (λ z. Caused (set s.views id w) k.entries k.notes z g) (held_same r (x - 1) q g e).0 (caused g (held_same r (x - 1) q g e).1))) (has_snoc v.me.told.refused (IsHeld r (x - 1)) (IsHeld q g) h);
              tidy = k.tidy id v me;
              released = λ has. inl has;
            }),
            (
              number,
              (λ hit. absurd (miss hit)),
              (λ _. (refl, ((let b = number_below W M v.terms s k t.seat t.by t.by.me t.by_is (inl (t.live, refl)) in let z = t.word_is in omega (arith, b, z)), λ mine. alone W M v.terms s k id t.seat v t.by v.me t.by.me me t.by_is (inl (live, refl)) (inl (t.live, refl)) another (let z = t.word_is in omega (arith, z, mine))))),
              record { state = s; kept = k; seat = id; view_is = me; near = far_near; number_is = refl; word_is = refl; free = λ hit. absurd (miss hit); held = λ h e. (t.seat, t.by, t.hold, t.by_is, t.live, (let z = t.word_is in omega (arith, z, e)), t.holds) },
            ),
          )
            where
              w : SeatView
              w = Steps.stepped_at r number x x (Steps.take_refused W v r (x - 1))

              taking : Taking
              taking = Steps.taking_of W v r (Some (x - 1)) v.holds

              words : set s.words r x ≡ s.words
              words = set-get_or s.words r 0

              grown : (q : Taking) → Has v.me.told.takes q → Has w.me.told.takes q
              grown q g = has_left v.me.told.takes (taking ∷ []) q g

              sums : (i n : ℕ) → total (passes i n) (set s.views id w) ≡ total (passes i n) s.views
              sums i n = let z = total-set (passes i n) s.views id v w me in omega (arith, z)

              another : t.seat ≢ id
              another e = not_some (holding_at v.holds r) t.hold not_held (ap (λ (u : SeatView). holding_at u.holds r) (sym (at_one s.views id t.seat v t.by me t.by_is e)) ∙ t.holds)

              caused : (g : ℕ) → x - 1 ≡ g → Caused (set s.views id w) k.entries k.notes r g
              caused g e = (
                (λ ne. (t.seat, t.by, t.by.me, set_else s.views id t.seat w another ∙ t.by_is, inl (t.live, refl), (let z = t.word_is in omega (arith, z, e)), t.took)),
                λ is. (let f = p.few in absurd (omega (arith, f, near, is))),
              )

  same_content : (c d : C) (more : List (ℕ × Slot C)) {r : ℕ} → (r, Some (Content c)) ∷ more ≡ (r, Some (Content d)) ∷ more → c ≡ d
  same_content c d more e =
      let one : ◌≡◌ {A = Slot C} (Some (Content c)) (Some (Content d)) = ap (λ (l : List (ℕ × Slot C)). (get_or l 0 (0, Some (Content c))).1) e in
      let two : ◌≡◌ {A = Stored C} (Content c) (Content d) = cc in cc

  pub gives_keeps : (y : TableTerms) (p : Proper world Fits y) (slots id : ℕ) (v : SeatView) (r : ℕ) (c : C) (h : Holding) (more : List (ℕ × Slot C)) → v.gone ≡ false → holding_at v.holds r ≡ Some h
      → (M c).base ≡ h.value → (M c).current ≡ h.value → h.count ≤ (M c).count → ((M c).number ≡ None) ⊎ ((M c).number ≡ Some r)
      → Allows (Kept (world y.layout) M y) slots id (v, (r, Some (Content c)) ∷ more) r (λ _. 0) (λ _. Steps.gives world M (step slots r 0 0 none) (v, (r, Some (Content c)) ∷ more) 0)
  gives_keeps y p slots id v r c h more live at base current later numbered s k wide me _ = at_own_terms y s r id v ((r, Some (Content c)) ∷ more) (λ _. T) 0 k p me live (λ k p. inner k p)
    where
      T : Me (Slot C) SeatView → Type 0
      T = Steps.gives world M (step slots r 0 0 none) (v, (r, Some (Content c)) ∷ more) 0

      W : World S Effect
      W = world v.terms.layout

      inner : Kept W M v.terms s → Proper world Fits v.terms → Goes v.terms s r id ((r, Some (Content c)) ∷ more) (λ _. T) 0
      inner k p = (
        w,
        gives,
        tt,
        changes W M v.terms s k id v w (set s.words r 0) (set s.homes r content) k.entries [] k.notes [] (record {
          me = me;
          live = live;
          terms = refl;
          gone = refl;
          number = refl;
          joined = refl;
          spare = refl;
          words_long = length-set s.words r 0;
          homes_long = length-set s.homes r content;
          entries_are = sym (append-nil k.entries);
          notes_are = sym (append-nil k.notes);
          mine = tt;
          my_notes = tt;
          all_of = tt;
          room = k.room;
          resources_stand = λ i far. ⊎_elim
              (λ (e : i ≡ r). subst (λ q. ResourceStands M (component W k.entries) (get_or (set s.words r 0) q 0) (get_elem? (set s.homes r content) q) (set s.views id w) q) (sym e)
              (subst (λ n. ResourceStands M (component W k.entries) n (get_elem? (set s.homes r content) r) (set s.views id w) r) (sym (get_or-set_same s.words r 0 0 (let l = k.wide in omega (arith, l, inside)))) (inl (record {
                word_is = refl;
                content = c;
                home_is = set_here s.homes r content inside;
                rests = record { base = base ∙ t.value; current = current ∙ t.value; numbered = numbered };
                nobody = all_set s.views id w (λ j u. holding_at u.holds r ≡ None) (without-same v.holds r) (λ j u ne there. t.nobody j u there ne);
                passed = λ n far. (given n).1 far;
              }))))
              (λ (ne : i ≢ r). subst (λ n. ResourceStands M (component W k.entries) n (get_elem? (set s.homes r content) i) (set s.views id w) i) (sym (get_or-set_other s.words r i 0 0 ne))
              (subst (λ o. ResourceStands M (component W k.entries) (get_or s.words i 0) o (set s.views id w) i) (sym (set_else s.homes r i content ne))
              (still M (component W k.entries) (component W k.entries) (get_or s.words i 0) (get_elem? s.homes i) s.views id i v w me refl (without-other v.holds r i ne) refl refl (λ m h. h) (sums i ne) (k.resources_stand i far))))
              (same_or i r);
          journal_stands = subst (λ n. JournalStands v.terms W.instances k.entries k.notes n (get_elem? (set s.homes r content) many) (set s.views id w)) (sym (get_or-set_other s.words r many 0 0 not_journal))
              (subst (λ o. JournalStands v.terms W.instances k.entries k.notes (get_or s.words many 0) o (set s.views id w)) (sym (set_else s.homes r many content not_journal))
              (journal_still v.terms W.instances k.entries k.notes (get_or s.words many 0) (get_elem? s.homes many) s.views id v w me refl refl refl refl refl k.journal_stands));
          once = λ i n. ⊎_elim (λ (e : i ≡ r). subst (λ q. total (passes q n) (set s.views id w) ≤ 1) (sym e) (given n).0) (λ (ne : i ≢ r). let z = sums i ne n in let o = k.once i n in omega (arith, z, o)) (same_or i r);
          traced = traced_after many s.words s.views k.traced id r 0 v w far_near within me told_of;
          follows = let f = k.follows id v v.me me (inl (live, refl)) in record { entries_more = f.entries_more; entries_are = f.entries_are; others = f.others; notes_more = f.notes_more; notes_are = f.notes_are; other_notes = f.other_notes; within_share = f.within_share; agrees = f.agrees };
          grown = λ m h. h;
          refused_before = λ x h. h;
          refused = λ q g h. inl h;
          tidy = apart_without many r v.holds (k.tidy id v me);
          released = λ has. inl has;
        }),
        (number, λ h' c' at' is. ap (λ (z : Holding × C). (Steps.stepped_at r number (v.me.number + 1) 0 (Steps.gave v r z.0.count (M z.1).count), more)) (λ i. (same_Some h h' (sym at ∙ at') i, same_content c c' more is i))),
      )
        where
          many : ℕ
          many = length v.terms.layout.resources

          near : r < many
          near = near_of many v.holds r h (k.tidy id v me) at

          inside : r < length s.homes
          inside = let l = k.long in let n = near in omega (arith, l, n)

          not_journal : many ≢ r
          not_journal e = let n = near in absurd (omega (arith, n, e))

          content : Found.Option (Slot C)
          content = some (Some (Content c))

          far_near : r ≤ many
          far_near = let n = near in omega (arith, n)

          within : r < length s.words
          within = let l = k.wide in let i = inside in omega (arith, l, i)

          number : ℕ
          number = length (k.traced r far_near).trace

          w : SeatView
          w = Steps.stepped_at r number (v.me.number + 1) 0 (Steps.gave v r h.count (M c).count)

          t : Held (component W k.entries) (get_or s.words r 0) (get_elem? s.homes r) s.views id r v h
          t = holder M (component W k.entries) (get_or s.words r 0) (get_elem? s.homes r) s.views id r v h me at (k.resources_stand r near)

          told_of : w.word_steps ≡ v.word_steps ++ record { word = r; number = number; found = get_or s.words r 0; left = 0 } ∷ []
          told_of = ap (λ n. v.word_steps ++ record { word = r; number = number; found = n; left = 0 } ∷ []) (sym t.word_is)

          longer : (i n : ℕ) → passes i n w ≡ passes i n v + stands i n (stretch r h.count ((M c).count - h.count))
          longer i n =
              let q = stands-append i n v.me.told.passed (stretch r h.count ((M c).count - h.count)) in
              let a : (if v.gone then 0 else stands i n w.me.told.passed) ≡ stands i n w.me.told.passed = ap (λ b. if b then 0 else stands i n w.me.told.passed) live in
              let b : (if v.gone then 0 else stands i n v.me.told.passed) ≡ stands i n v.me.told.passed = ap (λ b. if b then 0 else stands i n v.me.told.passed) live in
              omega (arith, q, a, b)

          given : (n : ℕ) → (total (passes r n) (set s.views id w) ≤ 1) × ((M c).count < n → total (passes r n) (set s.views id w) ≡ 0)
          given n = gave_once s.views id r n h.count (M c).count v w me (longer r n) later t.passed (k.once r n)

          sums : (i : ℕ) → i ≢ r → (n : ℕ) → total (passes i n) (set s.views id w) ≡ total (passes i n) s.views
          sums i ne n = let z = total-set (passes i n) s.views id v w me in let l = longer i n in let o = stretch-other r i n h.count ((M c).count - h.count) ne in omega (arith, z, l, o)

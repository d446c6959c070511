-- The steps on the journal's word keep the rule.
use Rattle.std.proofs.Common.{◌≡◌, ℕ, zero, suc, ◌+◌, ◌-◌, ◌*◌, ◌<◌, ◌≤◌, ◌≢◌, ◌⊎◌, true, false, List, [], ◌∷◌, ◌++◌, None, Some, length, get_or, set, sym, refl, ap, ◌∙◌, subst, inl, inr, ⊎_elim, arith, append-nil, eqb, length-set, get_or-set_same, get_or-set_other}
use Rattle.std.proofs.lemmas.List.{set-get_or}
use Rattle.std.specs.Prelude.{drop}
use mathlib.Core.Option as Found
use mathlib.Core.Option.{some, none}
use lib.ListN.{get_elem?}
use prog.Atomic.{either}
use Rattle.atomic_table.specs.Table.{State, Me, step, keeps, takes, gives, Allows}
use Rattle.atomic_table.proofs.Lists.{set_here, set_else, exchanged}
use Rattle.pgo_base.specs.Data.{Data}
use Rattle.pgo_journal.specs.Journal.{JournalView}
use Rattle.pgo_model.specs.Accounts.{journal}
use Rattle.pgo_model.specs.Log.{Effect}
use Rattle.pgo_model.specs.Machine.{Entry, Note, nth}
use Rattle.pgo_model.specs.MachineLists.{nth_last}
use Rattle.pgo_resource.specs.PlainRows.{apart}
use Rattle.pgo_workers.specs.Closed.{Has}
use Rattle.pgo_workers.specs.Walk.{At}
use Rattle.pgo_workers.specs.View.{Shown, IsHeld, IsFull, World, notes_of, changed}
use Rattle.pgo_workers.specs.Worlds.{Layout}
use Rattle.pgo_table.specs.SeatViews.{Holding, holding, History, TableTerms, SeatView, HasHistory, holding_at, total, tells, passes}
use Rattle.pgo_table.specs.Rule.{ResourceStands, IsJournal, FreeJournal, TakenJournal, JournalStands, Caused, behind, component, AllOf, Follows, Kept, Proper}
use Rattle.pgo_table.specs.Steps as Steps
use Rattle.pgo_table.specs.Steps.{Slot}
use Rattle.pgo_table.specs.declared.slots.Stored.{Stored}
use Rattle.pgo_table.specs.declared.slots.Stored.TheVariants.{Journal as AsJournal}
use Rattle.pgo_table.proofs.Sums.{set_here_of, all_set, total-set, has_left, has_last, has_snoc, resource_is, renewed-none, renewed-some, resources_renewed, found_at, tells_some}
use Rattle.pgo_table.proofs.Logs.{others_of, other_notes_of, notes-append, notes-others, notes-one, component_push}
use Rattle.pgo_table.proofs.NotesBound.{notes_left}
use Rattle.pgo_table.proofs.Traces.{traced_after}
use Rattle.pgo_table.proofs.Stands.{at_one, still, renews, Keeps, keeper, bools}
use Rattle.pgo_table.proofs.Keeps.{alone, number_below, agrees_more, changes}
use Rattle.pgo_table.proofs.HoldSteps.{held_same, Goes, at_own_terms, own_here, agrees_here}

-- the last of two lists that are one
pub last_same : {A : Type 0} (xs : List A) (a b : A) → xs ++ a ∷ [] ≡ xs ++ b ∷ [] → a ≡ b
last_same [] a b e = ap (λ l. get_or l 0 a) e
last_same {A} (x ∷ xs) a b e = last_same xs a b (ap (λ (l : List A). drop 1 l) e)

-- the journal, unless a number is known under which it has a record
module _ {S C : Type 0} (W : World S Effect) (M : C → Shown) (y : TableTerms) (s : State (Slot C) SeatView) (k : Kept W M y s) where
  told_or : (x : ℕ) → (total (tells x) s.views ≡ 0) ⊎ ((j : ℕ) × (u : SeatView) × (a : History) × (get_elem? s.views j ≡ some u) × HasHistory u a × (a.number ≡ x))
  told_or x = go (total (tells x) s.views) refl
    where
      go : (n : ℕ) → total (tells x) s.views ≡ n → (total (tells x) s.views ≡ 0) ⊎ ((j : ℕ) × (u : SeatView) × (a : History) × (get_elem? s.views j ≡ some u) × HasHistory u a × (a.number ≡ x))
      go zero e = inl e
      go (suc n) e = let q = found_at (tells x) s.views (omega (arith, e)) in let t = tells_some x q.1 q.3 in inr (q.0, q.1, t.0, q.2, t.1, t.2)

  pub entries_numbered : (p : ℕ) (e : Entry Effect) → nth k.entries p ≡ Some e → e.instance < W.instances
  entries_numbered p e at = ⊎_elim
      (λ (none : total (tells e.instance) s.views ≡ 0). absurd (others_of e.instance k.entries p e (k.strangers e.instance none).0 at refl))
      (λ q. subst (λ n. n < W.instances) q.5 (number_below W M y s k q.0 q.1 q.2 q.3 q.4))
      (told_or e.instance)

  pub notes_numbered : (p : ℕ) (n : Note) → nth k.notes p ≡ Some n → n.instance < W.instances
  notes_numbered p n at = ⊎_elim
      (λ (none : total (tells n.instance) s.views ≡ 0). absurd (other_notes_of n.instance k.notes p n (k.strangers n.instance none).1 at refl))
      (λ q. subst (λ i. i < W.instances) q.5 (number_below W M y s k q.0 q.1 q.2 q.3 q.4))
      (told_or n.instance)

  pub follows_notes : (share : ℕ) (a : History) → Follows W share k.entries k.notes a → notes_of a.number k.notes ≡ notes_of a.number a.notes
  follows_notes share a f = let e = notes-append a.number a.notes f.notes_more in let z = notes-others a.number f.notes_more f.other_notes in let g = ap (notes_of a.number) f.notes_are in omega (arith, e, z, g)

  pub shares : (x : ℕ) → notes_of x k.notes ≤ y.share
  shares x = ⊎_elim
      (λ (none : total (tells x) s.views ≡ 0). let z = notes-others x k.notes (k.strangers x none).1 in omega (arith, z))
      (λ q. let f = k.follows q.0 q.1 q.2 q.3 q.4 in let e = follows_notes y.share q.2 f in let w = f.within_share in subst (λ n. notes_of n k.notes ≤ y.share) q.5 (omega (arith, e, w)))
      (told_or x)

module _ {S C : Type 0} (world : Layout → World S Effect) (Fits : Layout → S → Type 0) (M : C → Shown) where
  -- the resources_stand where the journal's word and slot change, and nothing that the seat holds
  same_resources : (v w : SeatView) (s : State (Slot C) SeatView) (k : Kept (world v.terms.layout) M v.terms s) (id n : ℕ) (o : Found.Option (Slot C)) → get_elem? s.views id ≡ some v → w.holds ≡ v.holds → w.gone ≡ v.gone → w.me.number ≡ v.me.number → w.me.told.takes ≡ v.me.told.takes
      → ((i n : ℕ) → total (passes i n) (set s.views id w) ≡ total (passes i n) s.views)
      → (r : ℕ) → r < length v.terms.layout.resources → ResourceStands M (component (world v.terms.layout) k.entries) (get_or (set s.words (length v.terms.layout.resources) n) r 0) (get_elem? (set s.homes (length v.terms.layout.resources) o) r) (set s.views id w) r
  same_resources v w s k id n o me holds gone number taken sums r near =
      let W = world v.terms.layout in let many = length v.terms.layout.resources in
      let ne : r ≢ many = λ e. absurd (omega (arith, near, e)) in
      subst (λ x. ResourceStands M (component W k.entries) x (get_elem? (set s.homes many o) r) (set s.views id w) r) (sym (get_or-set_other s.words many r n 0 ne))
      (subst (λ x. ResourceStands M (component W k.entries) (get_or s.words r 0) x (set s.views id w) r) (sym (set_else s.homes many r o ne))
      (still M (component W k.entries) (component W k.entries) (get_or s.words r 0) (get_elem? s.homes r) s.views id r v w me refl (ap (λ hs. holding_at hs r) holds) gone number (λ m h. subst (λ l. Has l m) (sym taken) h) (sums r) (k.resources_stand r near)))

  in_words : (v : SeatView) (s : State (Slot C) SeatView) (k : Kept (world v.terms.layout) M v.terms s) → length v.terms.layout.resources < length s.words
  in_words v s k = let l = k.long in let w = k.wide in omega (arith, l, w)

  -- how many steps there were at the journal's word
  abbrev steps_there : (v : SeatView) (s : State (Slot C) SeatView) (k : Kept (world v.terms.layout) M v.terms s) → ℕ
  steps_there v s k = length (k.traced (length v.terms.layout.resources) (omega arith)).trace

  pub opens_keeps : (y : TableTerms) (p : Proper world Fits y) (slots id : ℕ) (m : Me (Slot C) SeatView) (count new : ℕ) → new ≡ m.0.me.number + 1 → count ≡ length y.layout.resources → m.0.gone ≡ false → m.0.has ≡ false
      → Allows (Kept (world y.layout) M y) slots id m count (λ n. either (eqb n 0) new n) (Steps.opens world (step slots count 0 new none) m)
  opens_keeps y p slots id m count new is at live has_not s k wide me _ =
      let same = at ∙ ap (λ (z : TableTerms). length z.layout.resources) (sym (k.terms_are id m.0 me live)) in
      at_own_terms world Fits M y s count id m.0 m.1 T (either (eqb x 0) new x) k p me live (λ k' p'. subst (λ (c : ℕ). Goes world Fits M m.0.terms s c id m.1 (Steps.opens world (step slots c 0 new none) m) (either (eqb (get_or s.words c 0) 0) new (get_or s.words c 0))) (sym same) (inner k' p'))
    where
      v : SeatView
      v = m.0

      T : ℕ → Me (Slot C) SeatView → Type 0
      T = Steps.opens world (step slots count 0 new none) m

      x : ℕ
      x = get_or s.words count 0

      W : World S Effect
      W = world v.terms.layout

      many : ℕ
      many = length v.terms.layout.resources

      U : ℕ → Me (Slot C) SeatView → Type 0
      U = Steps.opens world (step slots many 0 new none) m

      z : ℕ
      z = get_or s.words many 0

      inner : Kept W M v.terms s → Proper world Fits v.terms → Goes world Fits M v.terms s many id m.1 U (either (eqb z 0) new z)
      inner k p = exchanged z 0 new (Goes world Fits M v.terms s many id m.1 U)
          (λ hit. ⊎_elim (λ f. granted hit f) (λ (t : TakenJournal k.entries k.notes z (get_elem? s.homes many) s.views). let q = t.word_is in absurd (omega (arith, q, hit))) k.journal_stands)
          (λ miss. ⊎_elim (λ (f : FreeJournal v.terms W.instances k.entries k.notes z (get_elem? s.homes many) s.views). absurd (miss f.word_is)) (λ t. denied miss t) k.journal_stands)
        where
          inside : many < length s.homes
          inside = let l = k.long in omega (arith, l)

          far_near : many ≤ many
          far_near = omega arith

          within : many < length s.words
          within = in_words v s k

          -- how many steps there were at the journal's word
          number : ℕ
          number = length (k.traced many far_near).trace

          f : Follows W v.terms.share k.entries k.notes v.me
          f = k.follows id v v.me me (inl (live, refl))

          granted : z ≡ 0 → FreeJournal v.terms W.instances k.entries k.notes z (get_elem? s.homes many) s.views → Goes world Fits M v.terms s many id m.1 U new
          granted hit d = (
            w,
            takes many (Some (AsJournal j)),
            d.home_is,
            changes W M v.terms s k id v w (set s.words many new) (set s.homes many none) k.entries [] k.notes [] (record {
              me = me;
              live = live;
              terms = refl;
              gone = refl;
              number = refl;
              joined = refl;
              spare = refl;
              words_long = length-set s.words many new;
              homes_long = length-set s.homes many none;
              entries_are = sym (append-nil k.entries);
              notes_are = sym (append-nil k.notes);
              mine = tt;
              my_notes = tt;
              all_of = tt;
              room = k.room;
              resources_stand = same_resources v w s k id new none me refl refl refl refl sums;
              journal_stands = subst (λ n. JournalStands v.terms W.instances k.entries k.notes n (get_elem? (set s.homes many none) many) (set s.views id w)) (sym (get_or-set_same s.words many new 0 (let l = k.wide in omega (arith, l, inside)))) (inr (record {
                seat = id;
                by = w;
                by_is = set_here_of s.views id w v me;
                live = live;
                word_is = is;
                has = refl;
                entries_seen = q.entries_are;
                notes_seen = q.notes_are;
                home_is = set_here s.homes many none inside;
                nobody = all_set s.views id w (λ i u. i ≢ id → u.has ≡ false) (λ ne. absurd (ne refl)) (λ i u ne at _. d.nobody i u at);
              }));
              once = λ i n. let a = sums i n in let o = k.once i n in omega (arith, a, o);
              traced = traced_after many s.words s.views k.traced id many new v w far_near within me refl;
              follows = record {
                entries_more = [];
                entries_are = sym q.entries_are ∙ sym (append-nil j.entries);
                others = tt;
                notes_more = [];
                notes_are = sym q.notes_are ∙ sym (append-nil j.notes);
                other_notes = tt;
                within_share = let e = ap (notes_of v.me.number) q.notes_are in let g = follows_notes W M v.terms s k v.terms.share v.me f in let b = f.within_share in omega (arith, e, g, b);
                agrees = f.agrees;
              };
              grown = λ m h. h;
              refused_before = λ x h. h;
              refused = λ r h a. inl a;
              tidy = k.tidy id v me;
              released = λ _. inl refl;
            }),
            (
              number,
              (λ _. (
                j,
                refl,
                record {
                  is_journal = record { entries_are = refl; notes_are = refl; start = q.start; steps = q.steps; room = q.room };
                  entries_more = f.entries_more;
                  entries_are = q.entries_are ∙ f.entries_are;
                  others = f.others;
                  notes_more = f.notes_more;
                  notes_are = q.notes_are ∙ f.notes_are;
                  other_notes = f.other_notes;
                  within_steps = let e = ap (λ l. length l) q.entries_are in let b = k.room in omega (arith, e, b);
                  all_of = subst (AllOf W) (sym q.entries_are) k.all_of;
                  held = λ r h near at. ap (λ l. component W l r) q.entries_are ∙ agrees_here world Fits M v s k id me r h at;
                  own = ap (λ l. W.own (behind W l) v.me.number) q.entries_are ∙ own_here world Fits M v s p k id me live;
                  note_room = λ left.
                      let few : notes_of v.me.number k.notes < v.terms.share = subst (λ l. notes_of v.me.number l < v.terms.share) q.notes_are left in
                      let all = notes_left v.terms.share W.instances v.me.number k.notes (shares W M v.terms s k) (notes_numbered W M v.terms s k) (number_below W M v.terms s k id v v.me me (inl (live, refl))) few in
                      let e = ap (λ l. length l) q.notes_are in let b = q.room in omega (arith, e, b, all);
                },
              )),
              λ ne. absurd (ne hit),
            ),
          )
            where
              j : JournalView
              j = d.contents

              q : IsJournal v.terms W.instances k.entries k.notes j
              q = d.is_journal

              w : SeatView
              w = Steps.stepped_at many number z new (Steps.reads v j.entries j.notes)

              sums : (i n : ℕ) → total (passes i n) (set s.views id w) ≡ total (passes i n) s.views
              sums i n = let t = total-set (passes i n) s.views id v w me in omega (arith, t)

          denied : z ≢ 0 → TakenJournal k.entries k.notes z (get_elem? s.homes many) s.views → Goes world Fits M v.terms s many id m.1 U z
          denied miss t = (
            w,
            keeps,
            tt,
            changes W M v.terms s k id v w (set s.words many z) s.homes k.entries [] k.notes [] (record {
              me = me;
              live = live;
              terms = refl;
              gone = refl;
              number = refl;
              joined = refl;
              spare = refl;
              words_long = length-set s.words many z;
              homes_long = refl;
              entries_are = sym (append-nil k.entries);
              notes_are = sym (append-nil k.notes);
              mine = tt;
              my_notes = tt;
              all_of = tt;
              room = k.room;
              resources_stand = λ i far. subst (λ l. ResourceStands M (component W k.entries) (get_or l i 0) (get_elem? s.homes i) (set s.views id w) i) (sym words)
                  (still M (component W k.entries) (component W k.entries) (get_or s.words i 0) (get_elem? s.homes i) s.views id i v w me refl refl refl refl (λ m h. h) (sums i) (k.resources_stand i far));
              journal_stands = subst (λ l. JournalStands v.terms W.instances k.entries k.notes (get_or l many 0) (get_elem? s.homes many) (set s.views id w)) (sym words) (inr (record {
                seat = t.seat;
                by = t.by;
                by_is = set_else s.views id t.seat w another ∙ t.by_is;
                live = t.live;
                word_is = t.word_is;
                has = t.has;
                entries_seen = t.entries_seen;
                notes_seen = t.notes_seen;
                home_is = t.home_is;
                nobody = all_set s.views id w (λ i u. i ≢ t.seat → u.has ≡ false) (λ _. has_not) (λ i u _ at ne. t.nobody i u at ne);
              }));
              once = λ i n. let a = sums i n in let o = k.once i n in omega (arith, a, o);
              traced = traced_after many s.words s.views k.traced id many z v w far_near within me refl;
              follows = record { entries_more = f.entries_more; entries_are = f.entries_are; others = f.others; notes_more = f.notes_more; notes_are = f.notes_are; other_notes = f.other_notes; within_share = f.within_share; agrees = f.agrees };
              grown = λ m h. h;
              refused_before = λ q h. has_left v.me.told.refused (IsHeld journal (z - 1) ∷ []) q h;
              refused = λ q g h. ⊎_elim (λ old. inl old) (λ (e : IsHeld journal (z - 1) ≡ IsHeld q g). inr (subst (λ r. Caused (set s.views id w) k.entries k.notes r g) (held_same journal (z - 1) q g e).0 (caused g (held_same journal (z - 1) q g e).1))) (has_snoc v.me.told.refused (IsHeld journal (z - 1)) (IsHeld q g) h);
              tidy = k.tidy id v me;
              released = λ has. inl has;
            }),
            (
              number,
              (λ hit. absurd (miss hit)),
              λ _. (refl, ((let b = number_below W M v.terms s k t.seat t.by t.by.me t.by_is (inl (t.live, refl)) in let q = t.word_is in omega (arith, b, q)), λ mine. alone W M v.terms s k id t.seat v t.by v.me t.by.me me t.by_is (inl (live, refl)) (inl (t.live, refl)) another (let q = t.word_is in omega (arith, q, mine)))),
            ),
          )
            where
              w : SeatView
              w = Steps.stepped_at many number z z (Steps.told_refusal v (IsHeld journal (z - 1)))

              words : set s.words many z ≡ s.words
              words = set-get_or s.words many 0

              another : t.seat ≢ id
              another e = bools v.has has_not (ap (λ (u : SeatView). u.has) (sym (at_one s.views id t.seat v t.by me t.by_is e)) ∙ t.has)

              sums : (i n : ℕ) → total (passes i n) (set s.views id w) ≡ total (passes i n) s.views
              sums i n = let a = total-set (passes i n) s.views id v w me in omega (arith, a)

              caused : (g : ℕ) → z - 1 ≡ g → Caused (set s.views id w) k.entries k.notes journal g
              caused g e = ((λ ne. absurd (ne refl)), λ _. inl (t.seat, t.by, set_else s.views id t.seat w another ∙ t.by_is, t.live, (let q = t.word_is in omega (arith, q, e)), t.has))

  same_journal : (a b : JournalView) (r : ℕ) (more : List (ℕ × Slot C)) → (r, Some (AsJournal a)) ∷ more ≡ (r, Some (AsJournal b)) ∷ more → a ≡ b
  same_journal a b r more e =
      let one : ◌≡◌ {A = Slot C} (Some (AsJournal a)) (Some (AsJournal b)) = ap (λ (l : List (ℕ × Slot C)). (get_or l 0 (0, Some (AsJournal a))).1) e in
      let two : ◌≡◌ {A = Stored C} (AsJournal a) (AsJournal b) = cc in cc

  -- the journal of the terms, as a seat that has it puts it back
  pub record Kin (v : SeatView) (j : JournalView) : Type 0 where
    pub start : j.start ≡ v.terms.layout.start
    pub steps : j.steps ≡ v.terms.steps
    pub room : v.terms.share * (world v.terms.layout).instances ≤ j.room

  -- the journal's word becomes 0, and the journal lies at home again
  put_back : (v w : SeatView) (s : State (Slot C) SeatView) (k : Kept (world v.terms.layout) M v.terms s) (id : ℕ) (j : JournalView) (es : List (Entry Effect)) (ns : List Note) → Keeps k.entries k.notes (get_or s.words (length v.terms.layout.resources) 0) (get_elem? s.homes (length v.terms.layout.resources)) s.views id v
      → Kin v j → j.entries ≡ es → j.notes ≡ ns → w.has ≡ false
      → JournalStands v.terms (world v.terms.layout).instances es ns (get_or (set s.words (length v.terms.layout.resources) 0) (length v.terms.layout.resources) 0) (get_elem? (set s.homes (length v.terms.layout.resources) (some (Some (AsJournal j)))) (length v.terms.layout.resources)) (set s.views id w)
  put_back v w s k id j es ns own kin entries notes has =
      let many = length v.terms.layout.resources in let inside : many < length s.homes = (let l = k.long in omega (arith, l)) in
      subst (λ n. JournalStands v.terms (world v.terms.layout).instances es ns n (get_elem? (set s.homes many (some (Some (AsJournal j)))) many) (set s.views id w)) (sym (get_or-set_same s.words many 0 0 (let l = k.wide in omega (arith, l, inside)))) (inl (record {
        word_is = refl;
        contents = j;
        home_is = set_here s.homes many (some (Some (AsJournal j))) inside;
        is_journal = record { entries_are = entries; notes_are = notes; start = kin.start; steps = kin.steps; room = kin.room };
        nobody = all_set s.views id w (λ i u. u.has ≡ false) has (λ i u ne at. own.nobody i u at ne);
      }))

  pub commits_keeps : (y : TableTerms) (p : Proper world Fits y) (slots id : ℕ) (v : SeatView) (j : JournalView) (e : Entry Effect) (more : List (ℕ × Slot C)) (count : ℕ) → count ≡ length y.layout.resources → v.gone ≡ false → v.has ≡ true
      → e.instance ≡ v.me.number → (world v.terms.layout).is_of e.instance e.change ≡ true → ((r : ℕ) (x : Data) → holding_at v.holds r ≡ None → changed ((world v.terms.layout).changes e.change) r x ≡ x)
      → Kin v j → j.entries ≡ v.me.entries ++ e ∷ [] → j.notes ≡ v.me.notes → length j.entries ≤ v.terms.steps
      → Allows (Kept (world y.layout) M y) slots id (v, (count, Some (AsJournal j)) ∷ more) count (λ _. 0) (λ _. Steps.commits world (step slots count 0 0 none) (v, (count, Some (AsJournal j)) ∷ more) 0)
  commits_keeps y p slots id v j e more count at live has by is_of apart_from kin one_more as_noted room s k wide me _ =
      let same = at ∙ ap (λ (z : TableTerms). length z.layout.resources) (sym (k.terms_are id v me live)) in
      at_own_terms world Fits M y s count id v ((count, Some (AsJournal j)) ∷ more) (λ _. T count) 0 k p me live (λ k p. subst (λ (c : ℕ). Goes world Fits M v.terms s c id ((c, Some (AsJournal j)) ∷ more) (λ _. T c) 0) (sym same) (inner k p))
    where
      T : ℕ → Me (Slot C) SeatView → Type 0
      T c = Steps.commits world (step slots c 0 0 none) (v, (c, Some (AsJournal j)) ∷ more) 0

      W : World S Effect
      W = world v.terms.layout

      many : ℕ
      many = length v.terms.layout.resources

      inner : Kept W M v.terms s → Proper world Fits v.terms → Goes world Fits M v.terms s many id ((many, Some (AsJournal j)) ∷ more) (λ _. T many) 0
      inner k p = (
        w,
        gives,
        tt,
        changes W M v.terms s k id v w (set s.words many 0) (set s.homes many (some (Some (AsJournal j)))) es (e ∷ []) k.notes [] (record {
          me = me;
          live = live;
          terms = refl;
          gone = refl;
          number = refl;
          joined = refl;
          spare = refl;
          words_long = length-set s.words many 0;
          homes_long = length-set s.homes many (some (Some (AsJournal j)));
          entries_are = refl;
          notes_are = sym (append-nil k.notes);
          mine = (by, tt);
          my_notes = tt;
          all_of = (is_of, tt);
          room = let l = ap (λ l. length l) entries in omega (arith, l, room);
          resources_stand = λ r near. let ne : r ≢ many = λ q. absurd (omega (arith, near, q)) in
              subst (λ n. ResourceStands M (component W es) n (get_elem? (set s.homes many (some (Some (AsJournal j)))) r) (set s.views id w) r) (sym (get_or-set_other s.words many r 0 0 ne))
              (subst (λ o. ResourceStands M (component W es) (get_or s.words r 0) o (set s.views id w) r) (sym (set_else s.homes many r (some (Some (AsJournal j))) ne))
              (renews M (component W k.entries) (component W es) (get_or s.words r 0) (get_elem? s.homes r) s.views id r v w next me refl refl (λ m h. h) (sums r)
              (λ none. (renewed-none cs v.holds r none, pushed r near ∙ apart_from r (component W k.entries r) none))
              (λ h at. (renewed-some cs v.holds r h at, refl, λ q. ap (λ (i : ℕ). changed cs i h.value) (resource_is v.holds r h at) ∙ (ap (changed cs r) q ∙ sym (pushed r near))))
              (k.resources_stand r near)));
          journal_stands = put_back v w s k id j es k.notes own kin entries (as_noted ∙ own.notes_seen) refl;
          once = λ i n. let a = sums i n in let o = k.once i n in omega (arith, a, o);
          traced = traced_after many s.words s.views k.traced id many 0 v w (omega arith) (in_words v s k) me told_of;
          follows = record {
            entries_more = [];
            entries_are = ap (λ l. l ++ e ∷ []) (sym own.entries_seen) ∙ sym (append-nil (v.me.entries ++ e ∷ []));
            others = tt;
            notes_more = [];
            notes_are = sym own.notes_seen ∙ sym (append-nil v.me.notes);
            other_notes = tt;
            within_share = f.within_share;
            agrees = λ m h. agrees_more W M v.terms k.entries es (e ∷ []) v.me.number m refl (f.agrees m h);
          };
          grown = λ m h. h;
          refused_before = λ x h. h;
          refused = λ r h a. inl a;
          tidy = ap (apart many) (resources_renewed cs v.holds) ∙ k.tidy id v me;
          released = λ _. inr (inr (inl (length k.entries, e, nth_last k.entries e, by)));
        }),
        (steps_there v s k, λ j' e' is longer. let q = same_journal j j' many more is in let one : e ≡ e' = last_same v.me.entries e e' (sym one_more ∙ (ap (λ (x : JournalView). x.entries) q ∙ longer)) in ap (λ (x : Entry Effect). (Steps.stepped_at many (steps_there v s k) (v.me.number + 1) 0 (Steps.wrote W v x), more)) one),
      )
        where
          es : List (Entry Effect)
          es = k.entries ++ e ∷ []

          cs : List At
          cs = W.changes e.change

          w : SeatView
          w = Steps.stepped_at many (steps_there v s k) (v.me.number + 1) 0 (Steps.wrote W v e)

          next : Holding → Holding
          next h = holding h.resource (changed cs h.resource h.value) h.count

          own : Keeps k.entries k.notes (get_or s.words many 0) (get_elem? s.homes many) s.views id v
          own = keeper v.terms W.instances k.entries k.notes (get_or s.words many 0) (get_elem? s.homes many) s.views id v me has k.journal_stands

          told_of : w.word_steps ≡ v.word_steps ++ record { word = many; number = steps_there v s k; found = get_or s.words many 0; left = 0 } ∷ []
          told_of = ap (λ n. v.word_steps ++ record { word = many; number = steps_there v s k; found = n; left = 0 } ∷ []) (sym own.word_is)

          f : Follows W v.terms.share k.entries k.notes v.me
          f = k.follows id v v.me me (inl (live, refl))

          entries : j.entries ≡ es
          entries = one_more ∙ ap (λ l. l ++ e ∷ []) own.entries_seen

          sums : (i n : ℕ) → total (passes i n) (set s.views id w) ≡ total (passes i n) s.views
          sums i n = let a = total-set (passes i n) s.views id v w me in omega (arith, a)

          pushed : (r : ℕ) → r < many → component W es r ≡ changed cs r (component W k.entries r)
          pushed r near = component_push W (Fits v.terms.layout) p.laws k.entries e r k.all_of is_of (p.resource r near)

  pub notes_keeps : (y : TableTerms) (p : Proper world Fits y) (slots id : ℕ) (v : SeatView) (j : JournalView) (x : Note) (more : List (ℕ × Slot C)) (count : ℕ) → count ≡ length y.layout.resources → v.gone ≡ false → v.has ≡ true
      → x.instance ≡ v.me.number → notes_of v.me.number v.me.notes < v.terms.share → Kin v j → j.entries ≡ v.me.entries → j.notes ≡ v.me.notes ++ x ∷ []
      → Allows (Kept (world y.layout) M y) slots id (v, (count, Some (AsJournal j)) ∷ more) count (λ _. 0) (λ _. Steps.notes world (step slots count 0 0 none) (v, (count, Some (AsJournal j)) ∷ more) 0)
  notes_keeps y p slots id v j x more count at live has by left kin as_entered one_more s k wide me _ =
      let same = at ∙ ap (λ (z : TableTerms). length z.layout.resources) (sym (k.terms_are id v me live)) in
      at_own_terms world Fits M y s count id v ((count, Some (AsJournal j)) ∷ more) (λ _. T count) 0 k p me live (λ k p. subst (λ (c : ℕ). Goes world Fits M v.terms s c id ((c, Some (AsJournal j)) ∷ more) (λ _. T c) 0) (sym same) (inner k p))
    where
      T : ℕ → Me (Slot C) SeatView → Type 0
      T c = Steps.notes world (step slots c 0 0 none) (v, (c, Some (AsJournal j)) ∷ more) 0

      W : World S Effect
      W = world v.terms.layout

      many : ℕ
      many = length v.terms.layout.resources

      inner : Kept W M v.terms s → Proper world Fits v.terms → Goes world Fits M v.terms s many id ((many, Some (AsJournal j)) ∷ more) (λ _. T many) 0
      inner k p = (
        w,
        gives,
        tt,
        changes W M v.terms s k id v w (set s.words many 0) (set s.homes many (some (Some (AsJournal j)))) k.entries [] (k.notes ++ x ∷ []) (x ∷ []) (record {
          me = me;
          live = live;
          terms = refl;
          gone = refl;
          number = refl;
          joined = refl;
          spare = refl;
          words_long = length-set s.words many 0;
          homes_long = length-set s.homes many (some (Some (AsJournal j)));
          entries_are = sym (append-nil k.entries);
          notes_are = refl;
          mine = tt;
          my_notes = (by, tt);
          all_of = tt;
          room = k.room;
          resources_stand = same_resources v w s k id 0 (some (Some (AsJournal j))) me refl refl refl refl sums;
          journal_stands = put_back v w s k id j k.entries (k.notes ++ x ∷ []) own kin (as_entered ∙ own.entries_seen) (one_more ∙ ap (λ l. l ++ x ∷ []) own.notes_seen) refl;
          once = λ i n. let a = sums i n in let o = k.once i n in omega (arith, a, o);
          traced = traced_after many s.words s.views k.traced id many 0 v w (omega arith) (in_words v s k) me told_of;
          follows = record {
            entries_more = [];
            entries_are = sym own.entries_seen ∙ sym (append-nil v.me.entries);
            others = tt;
            notes_more = [];
            notes_are = ap (λ l. l ++ x ∷ []) (sym own.notes_seen) ∙ sym (append-nil (v.me.notes ++ x ∷ []));
            other_notes = tt;
            within_share = let a = notes-append v.me.number v.me.notes (x ∷ []) in let b = notes-one v.me.number x in omega (arith, a, b, left);
            agrees = f.agrees;
          };
          grown = λ m h. h;
          refused_before = λ x h. h;
          refused = λ r h a. inl a;
          tidy = k.tidy id v me;
          released = λ _. inr (inr (inr (inl (length k.notes, x, nth_last k.notes x, by))));
        }),
        (steps_there v s k, λ j' x' is longer. let q = same_journal j j' many more is in let one : x ≡ x' = last_same v.me.notes x x' (sym one_more ∙ (ap (λ (z : JournalView). z.notes) q ∙ longer)) in ap (λ (z : Note). (Steps.stepped_at many (steps_there v s k) (v.me.number + 1) 0 (Steps.noted v z), more)) one),
      )
        where
          w : SeatView
          w = Steps.stepped_at many (steps_there v s k) (v.me.number + 1) 0 (Steps.noted v x)

          own : Keeps k.entries k.notes (get_or s.words many 0) (get_elem? s.homes many) s.views id v
          own = keeper v.terms W.instances k.entries k.notes (get_or s.words many 0) (get_elem? s.homes many) s.views id v me has k.journal_stands

          told_of : w.word_steps ≡ v.word_steps ++ record { word = many; number = steps_there v s k; found = get_or s.words many 0; left = 0 } ∷ []
          told_of = ap (λ n. v.word_steps ++ record { word = many; number = steps_there v s k; found = n; left = 0 } ∷ []) (sym own.word_is)

          f : Follows W v.terms.share k.entries k.notes v.me
          f = k.follows id v v.me me (inl (live, refl))

          sums : (i n : ℕ) → total (passes i n) (set s.views id w) ≡ total (passes i n) s.views
          sums i n = let a = total-set (passes i n) s.views id v w me in omega (arith, a)

  pub fills_keeps : (y : TableTerms) (p : Proper world Fits y) (slots id : ℕ) (v : SeatView) (j : JournalView) (more : List (ℕ × Slot C)) (count : ℕ) → count ≡ length y.layout.resources → v.gone ≡ false → v.has ≡ true
      → Kin v j → j.entries ≡ v.me.entries → j.notes ≡ v.me.notes
      → Allows (Kept (world y.layout) M y) slots id (v, (count, Some (AsJournal j)) ∷ more) count (λ _. 0) (λ _. Steps.fills world (step slots count 0 0 none) (v, (count, Some (AsJournal j)) ∷ more) 0)
  fills_keeps y p slots id v j more count at live has kin as_entered as_noted s k wide me _ =
      let same = at ∙ ap (λ (z : TableTerms). length z.layout.resources) (sym (k.terms_are id v me live)) in
      at_own_terms world Fits M y s count id v ((count, Some (AsJournal j)) ∷ more) (λ _. T count) 0 k p me live (λ k p. subst (λ (c : ℕ). Goes world Fits M v.terms s c id ((c, Some (AsJournal j)) ∷ more) (λ _. T c) 0) (sym same) (inner k p))
    where
      T : ℕ → Me (Slot C) SeatView → Type 0
      T c = Steps.fills world (step slots c 0 0 none) (v, (c, Some (AsJournal j)) ∷ more) 0

      W : World S Effect
      W = world v.terms.layout

      many : ℕ
      many = length v.terms.layout.resources

      inner : Kept W M v.terms s → Proper world Fits v.terms → Goes world Fits M v.terms s many id ((many, Some (AsJournal j)) ∷ more) (λ _. T many) 0
      inner k p = (
        w,
        gives,
        tt,
        changes W M v.terms s k id v w (set s.words many 0) (set s.homes many (some (Some (AsJournal j)))) k.entries [] k.notes [] (record {
          me = me;
          live = live;
          terms = refl;
          gone = refl;
          number = refl;
          joined = refl;
          spare = refl;
          words_long = length-set s.words many 0;
          homes_long = length-set s.homes many (some (Some (AsJournal j)));
          entries_are = sym (append-nil k.entries);
          notes_are = sym (append-nil k.notes);
          mine = tt;
          my_notes = tt;
          all_of = tt;
          room = k.room;
          resources_stand = same_resources v w s k id 0 (some (Some (AsJournal j))) me refl refl refl refl sums;
          journal_stands = put_back v w s k id j k.entries k.notes own kin (as_entered ∙ own.entries_seen) (as_noted ∙ own.notes_seen) refl;
          once = λ i n. let a = sums i n in let o = k.once i n in omega (arith, a, o);
          traced = traced_after many s.words s.views k.traced id many 0 v w (omega arith) (in_words v s k) me told_of;
          follows = record { entries_more = f.entries_more; entries_are = f.entries_are; others = f.others; notes_more = f.notes_more; notes_are = f.notes_are; other_notes = f.other_notes; within_share = f.within_share; agrees = f.agrees };
          grown = λ m h. h;
          refused_before = λ q h. has_left v.me.told.refused (IsFull v.terms.steps ∷ []) q h;
          refused = λ r h a. ⊎_elim (λ old. inl old) (λ (q : IsFull v.terms.steps ≡ IsHeld r h). absurd (full_held v.terms.steps r h q)) (has_snoc v.me.told.refused (IsFull v.terms.steps) (IsHeld r h) a);
          tidy = k.tidy id v me;
          released = λ _. inr (inr (inr (inr (id, w, w.me, set_here_of s.views id w v me, inl (live, refl), refl, (v.terms.steps, has_last v.me.told.refused (IsFull v.terms.steps))))));
        }),
        (steps_there v s k, refl),
      )
        where
          w : SeatView
          w = Steps.stepped_at many (steps_there v s k) (v.me.number + 1) 0 (Steps.filled v v.terms.steps)

          own : Keeps k.entries k.notes (get_or s.words many 0) (get_elem? s.homes many) s.views id v
          own = keeper v.terms W.instances k.entries k.notes (get_or s.words many 0) (get_elem? s.homes many) s.views id v me has k.journal_stands

          told_of : w.word_steps ≡ v.word_steps ++ record { word = many; number = steps_there v s k; found = get_or s.words many 0; left = 0 } ∷ []
          told_of = ap (λ n. v.word_steps ++ record { word = many; number = steps_there v s k; found = n; left = 0 } ∷ []) (sym own.word_is)

          f : Follows W v.terms.share k.entries k.notes v.me
          f = k.follows id v v.me me (inl (live, refl))

          sums : (i n : ℕ) → total (passes i n) (set s.views id w) ≡ total (passes i n) s.views
          sums i n = let a = total-set (passes i n) s.views id v w me in omega (arith, a)

          full_held : (n r h : ℕ) → IsFull n ≡ IsHeld r h → ⊥
          full_held n r h q = grind (arith, q)

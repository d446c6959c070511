-- The ends of an attempt, and its gives, keep what worker and board meet in.
use Rattle.std.proofs.Common.{◌≡◌, ◌≤◌, ◌<◌, ℕ, suc, ◌+◌, Bool, true, false, List, [], ◌∷◌, ◌++◌, length, map, Option, Some, None, refl, sym, ap, ◌∙◌, subst, arith, inl, inr, length-append}
use Rattle.std.proofs.lemmas.Option.{same_Some}
use Rattle.std.specs.Prelude.{if◌then◌else◌}
use Rattle.pgo_base.specs.Data.{Data}
use Rattle.pgo_model.specs.Machine.{Entry, Record, Held, Down, Full, among, last_ends, is_empty}
use Rattle.pgo_model.specs.MachineAccounts.{append_none}
use Rattle.pgo_model.specs.Accounts.{ComesAfter, journal}
use Rattle.pgo_workers.specs.Walk.{Own, Goes, Walk, Stop, Touch, Agrees}
use Rattle.pgo_workers.specs.View.{Shown, raised, Hold, IsHeld, IsFull, Taking, Told, View, World, Others, OtherNotes, EachHold, MayNumber, Same, Grows, hold_at, resources_of, values_of, with_content, aborted, passing, own_seen, TakeHeld, JournalHeld, JournalFull, untold, answers, refuses}
use Rattle.pgo_workers.specs.Worker.{Program, Resting, Giving, Worker, with_held, finished, walks_on, attempt, rest_of, readied_of, fails_at, Goes_on, counted}
use Rattle.pgo_workers.specs.Sentences.{refusals, downs, Sub, SNone, flat, granted, Shows, EachTaking, Ends, held_last, Closes, Tells, AccountsOfOne, OwnThen, History, Under, PassedBy, Place, TakenNow, Sound, Meets, Runs}
use Rattle.pgo_workers.specs.OneAccounts.{accounts_add, other_at, other_note_at, no_notes_of}
use Rattle.pgo_workers.specs.Holds as holds
use Rattle.pgo_workers.specs.Kept.{Running, under, running, shows, ends_so, reached, reached_by, own_grows, own_then_seen, history_grows, history_takes, history_ends, nil_append}

one_more : (a b : List Record) → length (a ++ b) ≡ length a + length b
one_more a b = length-append a b

module _ {S D : Type 0} (W : World S D) (P : Program S D) (Reaches : ℕ → ℕ → Type 0) (Good : S → Type 0) (runs : Runs W P Reaches Good) where
  -- a content of what is held changes, the attempt goes on
  pub changes_on : (w : Worker) (b : View D) (r : ℕ) (h : Hold) (c : Shown) (x : Walk) (i : ℕ) → Goes_on W P w → hold_at b.held r ≡ Some h → Sound W P Reaches Good (record h { content = c })
      → Under W P Reaches Good (walks_on x i w) (with_held (with_content r c b.held) b) x i → Meets W P Reaches Good w b → Meets W P Reaches Good (walks_on x i w) (with_held (with_content r c b.held) b)
  changes_on w b r h c x i on at sound u m =
      record {
        number = m.number;
        instance = m.instance;
        steps = m.steps;
        share = m.share;
        taken = m.taken ∙ sym (holds.resources_with r c b.held);
        once = m.once;
        sound = holds.each_with (Sound W P Reaches Good) r c b.held h at sound m.sound;
        own = m.own;
        own_then = m.own_then;
        accounts = m.accounts;
        place = u;
        lists = λ t told.
            let q = running W P Reaches Good runs w b t m on told in
            record {
              refused = q.refused;
              passed = q.passed;
              now = q.now;
              history = q.history;
              taken_now = λ d. record {
                members = (q.taken d).members;
                granted_is = (q.taken d).granted_is ∙ sym (holds.resources_with r c b.held);
                last_held = (q.taken d).last_held ∙ sym (holds.values_with r c b.held);
              };
            };
      }

  -- what the lists say behind a record
  pub record Ended (dropped : Bool) (k : ℕ) (es : List (Entry D)) (xs : List Record) (hs : List Hold) (t : Told) : Type 0 where
    pub refused : refusals xs ≡ t.refused
    pub passed : Sub (downs xs) (t.passed ++ flat (map passing hs))
    pub history : dropped ≡ false → History W P Reaches Good k es xs t.takes []

  -- the attempt ends with a record
  pub ends : (w : Worker) (b d : View D) (o : Own) (x : Record) (hs : List Hold) → Same b d → resources_of hs ≡ resources_of b.held → EachHold (Sound W P Reaches Good) hs → EachHold (λ h. h.content.current ≡ h.value) hs
      → o ≡ own_seen W d → OwnThen W Good w.number d.entries o → AccountsOfOne W P Reaches Good w.number d.entries d.notes (w.records ++ (x ∷ [])) → ((t : Told) → d.told ≡ Some t → Ended w.dropped w.number d.entries (w.records ++ (x ∷ [])) hs t)
      → Meets W P Reaches Good w b → Meets W P Reaches Good (record (finished x w) { own = o }) (with_held hs d)
  ends w b d o x hs same res sound back own own_then accounts lists m =
      record {
        number = m.number;
        instance = same.instance ∙ m.instance;
        steps = same.steps ∙ m.steps;
        share = subst (λ n. P.attempts ≤ n) (sym same.share) m.share;
        taken = m.taken ∙ sym res;
        once = m.once;
        sound = sound;
        own = own;
        own_then = own_then;
        accounts = accounts;
        place = place w.taken refl;
        lists = λ t told. let e = lists t told in record { refused = e.refused; passed = passed w.taken refl t e.passed; now = []; history = e.history; taken_now = λ d. none w.taken };
      }
    where
      place : (l : List ℕ) → w.taken ≡ l → Place W P Reaches Good (record (finished x w) { own = o }) (with_held hs d) (if is_empty l then Resting else Giving)
      place [] e = e
      place (r ∷ l) e = (back, λ z. let y : r ∷ l ≡ [] = sym e ∙ z in absurd (grind (arith, y)))

      no_hold : (hs : List Hold) → [] ≡ resources_of hs → hs ≡ []
      no_hold [] e = refl
      no_hold (h ∷ hs) e = absurd (grind (arith, e))

      passed : (l : List ℕ) → w.taken ≡ l → (t : Told) → Sub (downs (w.records ++ (x ∷ []))) (t.passed ++ flat (map passing hs)) → PassedBy W P Reaches Good (if is_empty l then Resting else Giving) (w.records ++ (x ∷ [])) hs t.passed
      passed [] e t p = subst (Sub (downs (w.records ++ (x ∷ [])))) (ap (λ hs. t.passed ++ flat (map passing hs)) (no_hold hs (sym e ∙ m.taken ∙ sym res)) ∙ nil_append t.passed) p
      passed (r ∷ l) e t p = p

      none : (l : List ℕ) → TakenNow W P Reaches Good (record (finished x w) { own = o }) (with_held hs d) (if is_empty l then Resting else Giving) []
      none [] = refl
      none (r ∷ l) = refl

  sound_aborted : (hs : List Hold) → EachHold (Sound W P Reaches Good) hs → EachHold (Sound W P Reaches Good) (aborted hs)
  sound_aborted hs s = holds.each_aborted (Sound W P Reaches Good) (Sound W P Reaches Good) hs (λ h s. s) s

  back_aborted : (hs : List Hold) → EachHold (Sound W P Reaches Good) hs → EachHold (λ h. h.content.current ≡ h.value) (aborted hs)
  back_aborted hs s = holds.each_aborted (Sound W P Reaches Good) (λ h. h.content.current ≡ h.value) hs (λ h s. s.0) s

  -- a refusal, as a record: no entry and no note is of it
  accounts_refused : (w : Worker) (b d : View D) (x : Record) → Meets W P Reaches Good w b → Grows W b d → length d.entries ≤ P.steps → Tells W P Reaches Good w.number d.entries d.notes (length w.records) x
      → ((y : Record) → ComesAfter x y) → (last_ends w.records ≡ false) × (length w.records < P.attempts) → AccountsOfOne W P Reaches Good w.number d.entries d.notes (w.records ++ (x ∷ []))
  accounts_refused w b d x m g room new fresh may =
      subst (λ es. AccountsOfOne W P Reaches Good w.number es d.notes (w.records ++ (x ∷ []))) (sym g.entries)
      (subst (λ ns. AccountsOfOne W P Reaches Good w.number (b.entries ++ g.entries_more) ns (w.records ++ (x ∷ []))) (sym g.notes)
      (accounts_add W P Reaches Good w.number b.entries g.entries_more b.notes g.notes_more w.records x (record {
        room = subst (λ es. length es ≤ P.steps) g.entries room;
        new = subst (λ es. Tells W P Reaches Good w.number es (b.notes ++ g.notes_more) (length w.records) x) g.entries (subst (λ ns. Tells W P Reaches Good w.number d.entries ns (length w.records) x) g.notes new);
        steps = λ j e h i p q l. absurd (other_at w.number g.entries_more j e (subst (λ k. Others k g.entries_more) m.instance g.others) h i);
        notes = λ j n h i. absurd (other_note_at w.number g.notes_more j n (subst (λ k. OtherNotes k g.notes_more) m.instance g.other_notes) h i);
        one_note = λ i j p q n o h f a z t u v y. absurd (other_note_at w.number g.notes_more i n (subst (λ k. OtherNotes k g.notes_more) m.instance g.other_notes) h a);
        share = let z = no_notes_of w.number g.notes_more (subst (λ k. OtherNotes k g.notes_more) m.instance g.other_notes) in omega (arith, z);
        fresh = λ i y h. fresh y;
        may = may;
      }) m.accounts))

  -- the lists behind an attempt's record
  ended : (w : Worker) (b d : View D) (x : Record) (hs : List Hold) (t u : Told) (extra : List Taking) (more : List (Entry D)) → (m : Meets W P Reaches Good w b) → (q : Running W P Reaches Good runs w b t) → d.entries ≡ b.entries ++ more
      → u.refused ≡ t.refused ++ refusals (x ∷ []) → u.passed ≡ t.passed → u.takes ≡ t.takes ++ extra → Sub (downs (x ∷ [])) (flat (map passing hs))
      → EachTaking (λ m. (m.own ≡ w.own) × Shows (P.tree w.number (attempt w) w.own) m) extra → (w.dropped ≡ false → Closes (P.tree w.number (attempt w) w.own) (q.now ++ extra) x)
      → (History W P Reaches Good w.number b.entries w.records t.takes q.now → History W P Reaches Good w.number b.entries w.records (t.takes ++ extra) (q.now ++ extra))
      → Ended w.dropped w.number d.entries (w.records ++ (x ∷ [])) hs u
  ended w b d x hs t u extra more m q es refused passed takes down members closes adds =
      record {
        refused = holds.refusals_append w.records (x ∷ []) ∙ ap (λ l. l ++ refusals (x ∷ [])) q.refused ∙ sym refused;
        passed = subst (λ ds. Sub ds (u.passed ++ flat (map passing hs))) (sym (holds.downs_append w.records (x ∷ []))) (subst (λ ps. Sub (downs w.records ++ downs (x ∷ [])) (ps ++ flat (map passing hs))) (sym passed) (holds.sub_join (downs w.records) t.passed (downs (x ∷ [])) (flat (map passing hs)) q.passed down));
        history = λ whole. subst (λ ts. History W P Reaches Good w.number d.entries (w.records ++ (x ∷ [])) ts []) (sym takes) (subst (λ es. History W P Reaches Good w.number es (w.records ++ (x ∷ [])) (t.takes ++ extra) []) (sym es) (history_grows W P Reaches Good runs w.number b.entries more (w.records ++ (x ∷ [])) (t.takes ++ extra) [] (history_ends W P Reaches Good runs w.number b.entries w.records x (t.takes ++ extra) (q.now ++ extra) (record { own = w.own; then_own = m.own_then; not_done = q.not_done; members = holds.each_taking_append (λ m. (m.own ≡ w.own) × Shows (P.tree w.number (attempt w) w.own) m) q.now extra (q.taken whole).members members; closes = closes whole }) (adds (q.history whole)))));
      }

  -- of a refusal: what the board tells grows by it
  refused_lists : (w : Worker) (b d : View D) (x : Record) (hs : List Hold) (f : Told → Told) (extra : List Taking) (m : Meets W P Reaches Good w b) (on : Goes_on W P w) → (g : Grows W b d) → d.told ≡ untold b.told f
      → ((t : Told) → ((f t).refused ≡ t.refused ++ refusals (x ∷ [])) × ((f t).passed ≡ t.passed) × ((f t).takes ≡ t.takes ++ extra)) → Sub (downs (x ∷ [])) (flat (map passing hs))
      → EachTaking (λ m. (m.own ≡ w.own) × Shows (P.tree w.number (attempt w) w.own) m) extra
      → ((t : Told) (q : Running W P Reaches Good runs w b t) → w.dropped ≡ false → Closes (P.tree w.number (attempt w) w.own) (q.now ++ extra) x)
      → ((t : Told) (q : Running W P Reaches Good runs w b t) → History W P Reaches Good w.number b.entries w.records t.takes q.now → History W P Reaches Good w.number b.entries w.records (t.takes ++ extra) (q.now ++ extra))
      → (u : Told) → d.told ≡ Some u → Ended w.dropped w.number d.entries (w.records ++ (x ∷ [])) hs u
  refused_lists w b d x hs f extra m on g is parts down members closes adds u told = go b.told refl (sym is ∙ told)
    where
      go : (o : Option Told) → b.told ≡ o → untold o f ≡ Some u → Ended w.dropped w.number d.entries (w.records ++ (x ∷ [])) hs u
      go None e h = absurd (grind (arith, h))
      go (Some t) e h =
          let q = running W P Reaches Good runs w b t m on e in let p = parts t in
          subst (Ended w.dropped w.number d.entries (w.records ++ (x ∷ [])) hs) (same_Some (f t) u h)
          (ended w b d x hs t (f t) extra g.entries_more m q g.entries p.0 p.1 p.2 down members (closes t q) (adds t q))

  -- no take is added
  no_more : (w : Worker) (b : View D) (t : Told) (q : Running W P Reaches Good runs w b t) → History W P Reaches Good w.number b.entries w.records t.takes q.now → History W P Reaches Good w.number b.entries w.records (t.takes ++ []) (q.now ++ [])
  no_more w b t q h = subst (λ n. History W P Reaches Good w.number b.entries w.records (t.takes ++ []) n) (append_none q.now) (subst (λ n. History W P Reaches Good w.number b.entries w.records n q.now) (append_none t.takes) h)

  held_aborted : (b d : View D) → d.held ≡ b.held → (resources_of (aborted d.held) ≡ resources_of b.held)
  held_aborted b d e = holds.resources_aborted d.held ∙ ap resources_of e

  -- a refused take
  pub was_held : (w : Worker) (b d : View D) (on : Goes_on W P w) (r h : ℕ) (leave : Data → Data) (rest : Data → Walk) → rest_of W P w w.phase ≡ Touch r leave rest → among r w.taken ≡ false → TakeHeld W r h b d
      → length d.entries ≤ d.steps → Meets W P Reaches Good w b → Meets W P Reaches Good (finished (Held r h) w) (with_held (aborted d.held) d)
  was_held w b d on r h leave rest is new t room m =
      let fresh : among r (resources_of b.held) ≡ false = ap (among r) (sym m.taken) ∙ new in
      let u = under W P Reaches Good runs w b m on in
      let own : own_seen W d ≡ own_seen W b = own_grows W P Reaches Good runs b d t.same t.grows in
      let sound : EachHold (Sound W P Reaches Good) d.held = subst (EachHold (Sound W P Reaches Good)) (sym t.held) m.sound in
      let take : Taking = record { resource = r; refusal = Some h; held = values_of d.held; own = own_seen W d } in
      let vals : values_of d.held ≡ values_of b.held = ap values_of t.held in
      let reach : Reaches w.number r = reached_by W P Reaches Good runs w b (readied_of W P w.phase) r leave rest (rest_of W P w w.phase) is u in
      ends w b d w.own (Held r h) (aborted d.held) t.same (held_aborted b d t.held) (sound_aborted d.held sound) (back_aborted d.held sound) (m.own ∙ sym own) (own_then_seen W P Reaches Good runs w b d t.grows m.own_then)
      (accounts_refused w b d (Held r h) m t.grows (subst (λ n. length d.entries ≤ n) (t.same.steps ∙ m.steps) room) ((λ e. t.other (e ∙ sym m.instance)), t.there, inl reach) (λ y. tt) u.may)
      (refused_lists w b d (Held r h) (aborted d.held) (λ t. answers take (refuses (IsHeld r h) t)) (take ∷ []) m on t.grows t.told (λ t. (refl, refl, refl)) (SNone (flat (map passing (aborted d.held))))
      ((own ∙ sym m.own, shows W P Reaches Good runs w b (readied_of W P w.phase) r leave rest (rest_of W P w w.phase) take is fresh u refl (holds.places_values d.held ∙ ap resources_of t.held, fresh) (λ f a. subst (λ l. Agrees l f) vals a)), tt)
      (λ t q whole. inr (take, holds.last_of_append q.now take, refl, refl, holds.granted_append q.now (take ∷ []) ∙ nil_append (granted q.now) ∙ (q.taken whole).granted_is ∙ sym (holds.places_values d.held ∙ ap resources_of t'.held)))
      (λ t q h. history_takes W P Reaches Good runs w.number b.entries w.records t.takes q.now take h))
      m
    where
      t' : TakeHeld W r h b d
      t' = t

  -- the journal is held by another
  pub journal_held : (w : Worker) (b d : View D) (on : Goes_on W P w) (h : ℕ) → JournalHeld W h b d
      → length d.entries ≤ d.steps → Meets W P Reaches Good w b → Meets W P Reaches Good (finished (Held journal h) w) (with_held (aborted d.held) d)
  journal_held w b d on h t room m =
      let u = under W P Reaches Good runs w b m on in
      let own : own_seen W d ≡ own_seen W b = own_grows W P Reaches Good runs b d t.same t.grows in
      let sound : EachHold (Sound W P Reaches Good) d.held = subst (EachHold (Sound W P Reaches Good)) (sym t.held) m.sound in
      ends w b d w.own (Held journal h) (aborted d.held) t.same (held_aborted b d t.held) (sound_aborted d.held sound) (back_aborted d.held sound) (m.own ∙ sym own) (own_then_seen W P Reaches Good runs w b d t.grows m.own_then)
      (accounts_refused w b d (Held journal h) m t.grows (subst (λ n. length d.entries ≤ n) (t.same.steps ∙ m.steps) room) ((λ e. t.other (e ∙ sym m.instance)), t.there, inr refl) (λ y. tt) u.may)
      (refused_lists w b d (Held journal h) (aborted d.held) (refuses (IsHeld journal h)) [] m on t.grows t.told (λ t. (refl, refl, append_none t.takes)) (SNone (flat (map passing (aborted d.held)))) tt
      (λ t q whole. inl refl) (λ t q h. no_more w b t q h))
      m

  -- the journal is full
  pub was_full : (w : Worker) (b d : View D) (on : Goes_on W P w) (o : Own) (ps : List Data) → rest_of W P w w.phase ≡ Stop (Goes o ps) → (n : ℕ) → JournalFull W n b d
      → length d.entries ≤ d.steps → Meets W P Reaches Good w b → Meets W P Reaches Good (finished (Full n) w) (with_held (aborted d.held) d)
  was_full w b d on o ps is n t room m =
      let u = under W P Reaches Good runs w b m on in
      let own : own_seen W d ≡ own_seen W b = own_grows W P Reaches Good runs b d t.same t.grows in
      let sound : EachHold (Sound W P Reaches Good) d.held = subst (EachHold (Sound W P Reaches Good)) (sym t.held) m.sound in
      ends w b d w.own (Full n) (aborted d.held) t.same (held_aborted b d t.held) (sound_aborted d.held sound) (back_aborted d.held sound) (m.own ∙ sym own) (own_then_seen W P Reaches Good runs w b d t.grows m.own_then)
      (accounts_refused w b d (Full n) m t.grows (subst (λ n. length d.entries ≤ n) (t.same.steps ∙ m.steps) room) (t.full ∙ m.steps, t.is_full ∙ m.steps) (λ y. tt) u.may)
      (refused_lists w b d (Full n) (aborted d.held) (refuses (IsFull n)) [] m on t.grows t.told (λ t. (refl, refl, append_none t.takes)) (SNone (flat (map passing (aborted d.held)))) tt
      (λ t q whole. subst (Ends (P.tree w.number (attempt w) w.own)) (sym (ap held_last (nil_append q.now) ∙ (q.taken whole).last_held)) (ends_so W P Reaches Good runs w b (readied_of W P w.phase) o ps (rest_of W P w w.phase) is u)) (λ t q h. no_more w b t q h))
      m

  same_view : (b : View D) (hs : List Hold) → Same b (with_held hs b)
  same_view b hs = record { instance = refl; resources = refl; steps = refl; share = refl }

  no_growth : (b : View D) → Grows W b b
  no_growth b = record { entries_more = []; notes_more = []; entries = append_none b.entries; notes = append_none b.notes; others = tt; other_notes = tt }

  fails_number : (h : Hold) (r n : ℕ) → h.resource ≡ r → MayNumber h → fails_at W P h.content.number n ≡ true → P.fails r n ≡ true
  fails_number h r n named (inl e) f = let x : false ≡ true = ap (λ o. fails_at W P o n) (sym e) ∙ f in absurd (grind (arith, x))
  fails_number h r n named (inr e) f = ap (λ q. P.fails q n) (sym named) ∙ ap (λ o. fails_at W P o n) (sym e) ∙ f

  -- a pre-commit that fails: the pair is listed, so its number isn't the last one
  pub was_down : ((r n : ℕ) → P.fails r n ≡ true → n < 18446744073709551615) → (w : Worker) (b : View D) (on : Goes_on W P w) (o : Own) (ps : List Data) → rest_of W P w w.phase ≡ Stop (Goes o ps) → (r : ℕ) (h : Hold)
      → among r w.taken ≡ true → hold_at b.held r ≡ Some h → fails_at W P h.content.number (raised h.content.count) ≡ true → length b.entries ≤ b.steps → Meets W P Reaches Good w b
      → Meets W P Reaches Good (finished (Down r (raised h.content.count)) w) (with_held (aborted (with_content r (counted h.content) b.held)) b)
  was_down listed w b on o ps is r h there at down room m =
      let u = under W P Reaches Good runs w b m on in
      let s : Sound W P Reaches Good h = holds.hold_is (Sound W P Reaches Good) b.held r h at m.sound in
      let named : h.resource ≡ r = holds.hold_named b.held r h at in
      let fails : P.fails r (raised h.content.count) ≡ true = fails_number h r (raised h.content.count) named s.2 down in
      let up : raised h.content.count ≡ suc h.content.count = holds.raised_more h.content.count (listed r (raised h.content.count) fails) in
      let counts : h.count < raised h.content.count = (let c = s.1 in omega (arith, c, up)) in
      let sound : EachHold (Sound W P Reaches Good) (with_content r (counted h.content) b.held) = holds.each_with (Sound W P Reaches Good) r (counted h.content) b.held h at (s.0, (let c = s.1 in omega (arith, c, up)), s.2, s.3) m.sound in
      let hs : List Hold = aborted (with_content r (counted h.content) b.held) in
      let res : resources_of hs ≡ resources_of b.held = holds.resources_aborted (with_content r (counted h.content) b.held) ∙ holds.resources_with r (counted h.content) b.held in
      ends w b b w.own (Down r (raised h.content.count)) hs (same_view b b.held) res (sound_aborted (with_content r (counted h.content) b.held) sound) (back_aborted (with_content r (counted h.content) b.held) sound) m.own m.own_then
      (accounts_refused w b b (Down r (raised h.content.count)) m (no_growth b) (subst (λ n. length b.entries ≤ n) m.steps room) fails (λ y. tt) u.may)
      (λ t told.
      let q = running W P Reaches Good runs w b t m on told in
      ended w b b (Down r (raised h.content.count)) hs t t [] [] m q (append_none b.entries) (append_none t.refused) refl (append_none t.takes)
      (holds.to_pass r (raised h.content.count) (counted h.content) b.held h at counts) tt
      (λ whole. (
        subst (Ends (P.tree w.number (attempt w) w.own)) (sym (ap held_last (nil_append q.now) ∙ (q.taken whole).last_held)) (ends_so W P Reaches Good runs w b (readied_of W P w.phase) o ps (rest_of W P w w.phase) is u),
        ap (λ l. among r l) (ap granted (nil_append q.now) ∙ (q.taken whole).granted_is ∙ sym m.taken) ∙ there,
        λ f a. reached W P Reaches Good runs w b (readied_of W P w.phase) (Goes o ps) (rest_of W P w w.phase) r is u (ap (among r) (sym m.taken) ∙ there) f (subst (λ l. Agrees l f) (ap held_last (nil_append q.now) ∙ (q.taken whole).last_held) a),
      )) (λ g. no_more w b t q g))
      m

-- What comes next for a worker at a place, and what its events are.
use Rattle.std.proofs.Common.{◌≡◌, ◌≤◌, ◌<◌, ◌+◌, ℕ, zero, suc, Bool, true, false, List, [], ◌∷◌, ◌++◌, length, map, get_or, Option, Some, None, refl, sym, ap, ◌∙◌, subst, arith}
use Rattle.std.specs.Prelude.{if◌then◌else◌, nat_eq, nat_lt, vec_capacity}
use Rattle.pgo_base.specs.Data.{Data}
use Rattle.pgo_base.specs.Lookup.{Vars}
use Rattle.pgo_model.specs.Core.{Reaches}
use Rattle.pgo_model.specs.Log.{Effect}
use Rattle.pgo_model.specs.Machine.{Entry, Note, among, nth, last_ends}
use Rattle.pgo_model.specs.Machine as machine
use Rattle.pgo_model.specs.System.{System}
use Rattle.pgo_section.specs.Programs.{IsGood}
use Rattle.pgo_syntax.specs.RecordView.{kind_view, refusal_view, result_view, settings_view}
use Rattle.pgo_syntax.specs.declared.records.NoteKind.{NoteKind}
use Rattle.pgo_syntax.specs.declared.records.Refusal.{Refusal}
use Rattle.pgo_syntax.specs.declared.records.Refusal.TheVariants as refusals
use Rattle.pgo_resource.specs.Answers.{RefusedTake, JournalRefuses, HolderRefuses, fails}
use Rattle.pgo_resource.specs.Nexts.{Tells, LeadsOn, StopsWith}
use Rattle.pgo_resource.specs.declared.sections.NextEvent.TheVariants as events
use Rattle.pgo_workers.specs.Sentences.{Under, Place, Sound, IsOwn}
use Rattle.pgo_workers.specs.Walk.{At, Own, Walk, Stop, Goes, Sticks, Within, settled, goes_back}
use Rattle.pgo_workers.specs.View.{Shown, Hold, View, World, EachHold, IsSteady, Takes, Commits, Notes, JournalHeld, IsHeld, MayCommit, MayNote, Once, hold_at, resources_of, renewed, with_content, aborted, committed, raised, notes_of}
use Rattle.pgo_workers.specs.Worker as spec
use Rattle.pgo_workers.specs.Worker.{Walking, Goes_on, TTook, THeld, TOperated, TReadied, TDown, TCommitted, TFull, TNoted, TJournal, is_giving, is_resting, rest_of, readied_of, fails_at, finished, with_held, counted, attempt}
use Rattle.pgo_workers.specs.Worlds.{Layout, layout_of, world_of}
use Rattle.pgo_workers.specs.Holds as holds
use Rattle.pgo_workers.specs.Kept as laws
use Rattle.pgo_section.specs.Programs.{Trees, RunsSystem}
use Rattle.pgo_section.specs.Sight.{see, phase_at, placed, program_at, refusal_turn}
use Rattle.pgo_section.specs.Turns.{Fits, MeetsAt, IsEntry}
use Rattle.pgo_section.specs.declared.worker.Worker.{Worker}
use Rattle.pgo_section.proofs.Counting.{EachBelow, few, each_below, lt_of}

-- what isn't taken isn't held
pub not_held : (hs : List Hold) (taken : List ℕ) (r : ℕ) → taken ≡ resources_of hs → among r taken ≡ false → hold_at hs r ≡ None
not_held hs taken r e n = go hs (ap (among r) (sym e) ∙ n)
  where
    go : (hs : List Hold) → among r (resources_of hs) ≡ false → hold_at hs r ≡ None
    go [] n = refl
    go (h ∷ hs) n = at (nat_eq r h.resource) refl n (λ n. go hs n)
      where
        at : (b : Bool) → nat_eq r h.resource ≡ b → (if b then true else among r (resources_of hs)) ≡ false → (among r (resources_of hs) ≡ false → hold_at hs r ≡ None) → (if nat_eq h.resource r then Some h else hold_at hs r) ≡ None
        at true e n ih = absurd (grind (arith, n))
        at false e n ih = let t : nat_eq h.resource r ≡ false = grind (arith, e) in ap (λ b. if b then Some h else hold_at hs r) t ∙ ih n

-- with another current value, an abort gives the same
pub aborted_with : (r : ℕ) (x : Data) (hs : List Hold) (h : Hold) → hold_at hs r ≡ Some h → aborted (with_content r (record h.content { current = x }) hs) ≡ aborted hs
aborted_with r x [] h e = refl
aborted_with r x (k ∷ hs) h e = go (nat_eq k.resource r) e (λ e. aborted_with r x hs h e)
  where
    some_same : Some k ≡ Some h → k ≡ h
    some_same q = grind (arith, q)

    go : (b : Bool) → (if b then Some k else hold_at hs r) ≡ Some h → (hold_at hs r ≡ Some h → aborted (with_content r (record h.content { current = x }) hs) ≡ aborted hs)
        → aborted (if b then record k { content = record h.content { current = x } } ∷ hs else k ∷ with_content r (record h.content { current = x }) hs) ≡ record k { content = record k.content { current = k.content.base } } ∷ aborted hs
    go true e ih = (λ i. record k { content = record ((sym (some_same e) i).content) { current = (sym (some_same e) i).content.base } } ∷ aborted hs)
    go false e ih = ap (λ l. record k { content = record k.content { current = k.content.base } } ∷ l) (ih e)

past_end : (l : List ℕ) (n : ℕ) → length l ≤ n → nth l n ≡ None
past_end [] n h = refl
past_end (x ∷ l) zero h = absurd (omega (arith, h))
past_end (x ∷ l) (suc n) h = past_end l n (omega (arith, h))

pub nth_is : (l : List ℕ) (n r : ℕ) → n < length l → r ≡ get_or l n r → nth l n ≡ Some r
nth_is [] n r h e = absurd (omega (arith, h))
nth_is (x ∷ l) zero r h e = ap Some (sym e)
nth_is (x ∷ l) (suc n) r h e = nth_is l n r (omega (arith, h)) e

abbrev pub world : System → World Vars Effect
world y = world_of (layout_of y)

abbrev pub TurnsTo : {C : Type 0} → System → Trees → (C → Walk) → Worker C → View Effect → spec.Worker → View Effect → spec.Turn → Type 0
TurnsTo y tree walk w b v c t = spec.Turned (world y) (program_at y tree w) (see walk w) b v c t

-- what a refused take leaves held
pub refused_held : (W : World Vars Effect) (r : ℕ) (x : Refusal) (b d : View Effect) → RefusedTake W r x b d → d.held ≡ b.held
refused_held W r (refusals.Held q h) b d t = t.1.held
refused_held W r (refusals.Down q o) b d t = absurd t
refused_held W r (refusals.Many leaves n) b d t = absurd t
refused_held W r (refusals.Full n) b d t = absurd t

-- what a refused entry leaves held
pub journal_held : (W : World Vars Effect) (x : Refusal) (b d : View Effect) → JournalRefuses W x b d → d.held ≡ b.held
journal_held W (refusals.Held q h) b d t = t.1.held
journal_held W (refusals.Down q o) b d t = absurd t
journal_held W (refusals.Many leaves n) b d t = absurd t
journal_held W (refusals.Full n) b d t = t.held

pub same_length : {A B : Type 0} (f : A → B) (l : List A) → length (map f l) ≡ length l
same_length f [] = refl
same_length f (x ∷ l) = ap suc (same_length f l)

pub within_room : (a b c d : ℕ) → a ≡ b → b < c → c ≤ d → a < d
within_room a b c d e f h = omega (arith, e, f, h)

pub resources_renewed : (cs : List At) (hs : List Hold) → resources_of (renewed cs hs) ≡ resources_of hs
resources_renewed cs [] = refl
resources_renewed cs (h ∷ hs) = ap (λ l. h.resource ∷ l) (resources_renewed cs hs)

pub commits_at : (k l : Layout) (e : Entry Effect) (n : ℕ) (b c d : View Effect) → k ≡ l → b ≡ c → Commits (world_of k) e n b d → Commits (world_of l) e n c d
commits_at k l e n b c d q s h = subst (λ l. Commits (world_of l) e n c d) q (subst (λ c. Commits (world_of k) e n c d) s h)

pub refuses_at : (k l : Layout) (x : Refusal) (b c d : View Effect) → k ≡ l → b ≡ c → JournalRefuses (world_of k) x b d → JournalRefuses (world_of l) x c d
refuses_at k l x b c d q s h = subst (λ l. JournalRefuses (world_of l) x c d) q (subst (λ c. JournalRefuses (world_of k) x c d) s h)

add_one : (n : ℕ) → n + 1 ≡ suc n
add_one n = omega arith

module _ {C : Type 0} (y : System) (tree : Trees) (walk : C → Walk) (w : Worker C) (p : C) (going : w.giving ≡ false) where
  pub phase_is : (j : ℕ) → phase_at walk w.giving (Some p) j ≡ Walking (walk p) j
  phase_is j = (λ i. phase_at walk (going i) (Some p) j)

  pub goes_on : Goes_on (world y) (program_at y tree w) (see walk (placed w p))
  goes_on = (
    ap (λ f. if is_resting f
        then (if (program_at y tree w).is_done w.number w.own then true else if last_ends (see walk w).records then true else nat_eq (length (see walk w).records) w.settings.attempts)
        else false) (phase_is w.readied),
    ap is_giving (phase_is w.readied),
  )

  pub rest_is : rest_of (world y) (program_at y tree w) (see walk (placed w p)) (phase_at walk w.giving (Some p) w.readied) ≡ walk p
  rest_is = ap (rest_of (world y) (program_at y tree w) (see walk (placed w p))) (phase_is w.readied)

  pub readied_is : readied_of (world y) (program_at y tree w) (phase_at walk w.giving (Some p) w.readied) ≡ w.readied
  readied_is = ap (readied_of (world y) (program_at y tree w)) (phase_is w.readied)

  module _ (b : View Effect) (m : MeetsAt y tree walk (placed w p) b) where
    pub under_is : Under (world y) (program_at y tree w) (Reaches y) (IsGood y) (see walk (placed w p)) b (walk p) w.readied
    under_is = subst (Place (world y) (program_at y tree w) (Reaches y) (IsGood y) (see walk (placed w p)) b) (phase_is w.readied) m.place

    -- there is an attempt to record
    pub is_counted : length (see walk w).records < w.settings.attempts
    is_counted = under_is.may.1

    -- what is held are resources
    pub resources_there : EachHold (λ h. nat_lt h.resource (length y.resources) ≡ true) b.held
    resources_there = holds.each_map (Sound (world y) (program_at y tree w) (Reaches y) (IsGood y)) (λ h. nat_lt h.resource (length y.resources) ≡ true) b.held (λ h s. s.3) m.sound

    -- there is room for its record
    pub has_record_room : Fits y (placed w p) → length w.records.items < vec_capacity w.records
    has_record_room f = within_room (length w.records.items) (length (map result_view w.records.items)) w.settings.attempts (vec_capacity w.records) (sym (same_length result_view w.records.items)) is_counted f.records

    -- the next access is of a resource that there is
    pub next_inside : RunsSystem y tree (settings_view w.settings) → (r : ℕ) → Tells (walk p) (events.Access r) → r < length y.resources
    next_inside runs r t = lt_of r (length y.resources) (runs.reaches w.number r (subst (Within (Reaches y w.number) (IsOwn (world y) w.number)) t.2 under_is.within).0)

    -- there is room for it
    pub has_room : Fits y (placed w p) → (r : ℕ) → r < length y.resources → among r w.taken.items ≡ false → length w.taken.items < length y.resources
    has_room f r near new =
        let bound = each_below (length y.resources) b.held resources_there in
        let n = few (length y.resources) (r ∷ w.taken.items) (new, m.once) (near, subst (EachBelow (length y.resources)) (sym m.taken) bound) in
        n

  pub took : (b c : View Effect) (v : spec.Worker) (r : ℕ) → Tells (walk p) (events.Access r) → among r w.taken.items ≡ false → Takes (world y) r b c
      → v ≡ record (see walk (placed w p)) { phase = phase_at walk w.giving (Some p) 0; taken = w.taken.items ++ (r ∷ []) } → TurnsTo y tree walk (placed w p) b v c spec.Went
  took b c v r t new takes worker =
      TTook goes_on r t.0 t.1 (rest_is ∙ t.2) new takes (worker ∙ (λ i. record (see walk (placed w p)) { phase = (phase_is 0 ∙ ap (λ x. Walking x 0) t.2) i; taken = w.taken.items ++ (r ∷ []) })) refl

  pub was_refused : (b d c : View Effect) (v : spec.Worker) (r : ℕ) (x : Refusal) → Tells (walk p) (events.Access r) → among r w.taken.items ≡ false → RefusedTake (world y) r x b d
      → c ≡ with_held (aborted d.held) d → v ≡ finished (refusal_view x) (see walk w) → TurnsTo y tree walk (placed w p) b v c (refusal_turn x)
  was_refused b d c v r (refusals.Held q h) t new take board worker =
      THeld goes_on r h t.0 t.1 (rest_is ∙ t.2) new d take.1 board (worker ∙ ap (λ q. finished (machine.Held q h) (see walk w)) take.0) (ap (λ q. spec.Refused (IsHeld q h)) take.0)
  was_refused b d c v r (refusals.Down q o) t new take board worker = absurd take
  was_refused b d c v r (refusals.Many leaves n) t new take board worker = absurd take
  was_refused b d c v r (refusals.Full n) t new take board worker = absurd take

  pub operated : (b c : View Effect) (v : spec.Worker) (r : ℕ) → Tells (walk p) (events.Access r) → (h : Hold) → hold_at b.held r ≡ Some h → (old new : Shown) → h.content ≡ old → (q : C) → LeadsOn (walk p) (walk q) old.current new.current
      → new ≡ record old { current = new.current } → (d : View Effect) → d ≡ with_held (with_content r new b.held) b → (q' : C) → walk q' ≡ settled (walk q) → (back : Bool) → back ≡ goes_back (walk q) → c ≡ with_held (if back then aborted d.held else d.held) d
      → v ≡ record (see walk (placed w p)) { phase = phase_at walk w.giving (Some q') 0 } → TurnsTo y tree walk (placed w p) b v c spec.Went
  operated b c v r t h at old new is q leads keeps d content q' settles back backs board worker =
      let on = leads r t.0 t.1 t.2 in
      let made : new ≡ record h.content { current = t.0 h.content.current } = keeps ∙ (λ i. record (sym is i) { current = (on.0 ∙ ap (λ (s : Shown). t.0 s.current) (sym is)) i }) in
      let next : walk q ≡ t.1 h.content.current = on.1 ∙ ap (λ (s : Shown). t.1 s.current) (sym is) in
      TOperated goes_on r t.0 t.1 (rest_is ∙ t.2) h at
      (board ∙ (λ i. let d' = (content ∙ ap (λ n. with_held (with_content r n b.held) b) made) i in with_held (if (backs ∙ ap goes_back next) i then aborted d'.held else d'.held) d'))
      (worker ∙ (λ i. record (see walk (placed w p)) { phase = ((λ j. phase_at walk (going j) (Some q') 0) ∙ ap (λ x. Walking x 0) (settles ∙ ap settled next)) i })) refl

  -- an access that wanted memory
  pub unfinished : (b c : View Effect) (r : ℕ) (h : Hold) → hold_at b.held r ≡ Some h → (old new : Shown) → h.content ≡ old → new ≡ record old { current = new.current } → c ≡ with_held (with_content r new b.held) b
      → with_held (aborted c.held) c ≡ with_held (aborted b.held) b
  unfinished b c r h at old new is keeps board =
      let made : new ≡ record h.content { current = new.current } = keeps ∙ ap (λ (s : Shown). record s { current = new.current }) (sym is) in
      ap (λ (c : View Effect). with_held (aborted c.held) c) (board ∙ ap (λ n. with_held (with_content r n b.held) b) made) ∙ ap (λ hs. with_held hs b) (aborted_with r new.current b.held h at)

  fails_is : (o : Option ℕ) (n : ℕ) → fails_at (world y) (program_at y tree w) o n ≡ fails w.settings.down o n
  fails_is None n = refl
  fails_is (Some r) n = refl

  pub readied : (b c : View Effect) (v : spec.Worker) (r : ℕ) → StopsWith (walk p) → nth w.taken.items w.readied ≡ Some r → (h : Hold) → hold_at b.held r ≡ Some h → (old new : Shown) → h.content ≡ old → new ≡ counted old
      → fails w.settings.down old.number (raised old.count) ≡ false → c ≡ with_held (with_content r new b.held) b → v ≡ record (see walk (placed w p)) { phase = phase_at walk w.giving (Some p) (w.readied + 1) } → TurnsTo y tree walk (placed w p) b v c spec.Went
  readied b c v r t first h at old new is counts up board worker =
      TReadied goes_on t.0 t.1 (rest_is ∙ t.2) r (ap (nth w.taken.items) readied_is ∙ first) h at
      (fails_is h.content.number (raised h.content.count) ∙ ap (λ (s : Shown). fails w.settings.down s.number (raised s.count)) is ∙ up)
      (board ∙ ap (λ n. with_held (with_content r n b.held) b) (counts ∙ ap counted (sym is)))
      (worker ∙ (λ i. record (see walk (placed w p)) { phase = (phase_is (w.readied + 1) ∙ (λ j. Walking (t.2 j) (add_one w.readied j)) ∙ ap (λ n. Walking (Stop (Goes t.0 t.1)) (suc n)) (sym readied_is)) i })) refl

  pub was_down : (b d c : View Effect) (v : spec.Worker) (r n : ℕ) → StopsWith (walk p) → nth w.taken.items w.readied ≡ Some r → (h : Hold) → hold_at b.held r ≡ Some h → (old new : Shown) → h.content ≡ old → new ≡ counted old
      → n ≡ raised old.count → fails w.settings.down old.number (raised old.count) ≡ true → d ≡ with_held (with_content r new b.held) b → c ≡ with_held (aborted d.held) d → v ≡ finished (machine.Down r n) (see walk w)
      → TurnsTo y tree walk (placed w p) b v c (spec.IsDown r n)
  was_down b d c v r n t first h at old new is counts named down content board worker =
      let number : n ≡ raised h.content.count = named ∙ ap (λ (s : Shown). raised s.count) (sym is) in
      TDown goes_on t.0 t.1 (rest_is ∙ t.2) r (ap (nth w.taken.items) readied_is ∙ first) h at
      (fails_is h.content.number (raised h.content.count) ∙ ap (λ (s : Shown). fails w.settings.down s.number (raised s.count)) is ∙ down)
      (board ∙ ap (λ (d : View Effect). with_held (aborted d.held) d) (content ∙ ap (λ n. with_held (with_content r n b.held) b) (counts ∙ ap counted (sym is))))
      (worker ∙ ap (λ n. finished (machine.Down r n) (see walk w)) number) (ap (λ n. spec.IsDown r n) number)

  module _ (b d c : View Effect) (e : Entry Effect) (next : Own) (is : IsEntry y tree walk (placed w p) p b e next) (all : length w.taken.items ≤ w.readied) where
    none : nth w.taken.items (readied_of (world y) (program_at y tree w) (phase_at walk w.giving (Some p) w.readied)) ≡ None
    none = ap (nth w.taken.items) readied_is ∙ past_end w.taken.items w.readied all

    pub was_committed : (v : spec.Worker) (n : ℕ) → Commits (world y) e n b d → c ≡ with_held (committed d.held) d → v ≡ record (finished (machine.Step n) (see walk w)) { own = next } → TurnsTo y tree walk (placed w p) b v c (spec.Committed n)
    was_committed v n commits board worker = TCommitted goes_on next is.prints (rest_is ∙ is.ends) none n d (subst (λ e. Commits (world y) e n b d) is.is commits) board worker refl

    pub not_committed : (v : spec.Worker) (x : Refusal) → JournalRefuses (world y) x b d → c ≡ with_held (aborted d.held) d → v ≡ finished (refusal_view x) (see walk w) → TurnsTo y tree walk (placed w p) b v c (refusal_turn x)
    not_committed v (refusals.Held r h) x board worker =
        TJournal goes_on (Goes next is.prints) (rest_is ∙ is.ends) (λ o ps q. none) h d x.1 board (worker ∙ ap (λ r. finished (machine.Held r h) (see walk w)) x.0) (ap (λ r. spec.Refused (IsHeld r h)) x.0)
    not_committed v (refusals.Down r o) x board worker = absurd x
    not_committed v (refusals.Many leaves n) x board worker = absurd x
    not_committed v (refusals.Full n) x board worker = TFull goes_on next is.prints (rest_is ∙ is.ends) none n d x board worker refl

    -- the board's condition
    pub may_commit : RunsSystem y tree (settings_view w.settings) → MeetsAt y tree walk (placed w p) b → MayCommit (world y) e b
    may_commit runs m =
        let k = w.number in let u = see walk (placed w p) in
        let P = program_at y tree w in
        let once = subst Once m.taken m.once in
        let may = runs.may_commit k w.own next b.held is.prints once in
        let owns = laws.own_is (world y) P (Reaches y) (IsGood y) runs u b m in
        let left = laws.left_is (world y) P (Reaches y) (IsGood y) runs u b w.readied next is.prints (walk p) is.ends (under_is b m) in
        subst (λ e. MayCommit (world y) e b) (sym is.is) (record {
          instance = sym m.instance;
          steady = holds.each_map (Sound (world y) P (Reaches y) (IsGood y)) IsSteady b.held (λ h s. s.0) m.sound;
          is_of = runs.is_of k w.own next b.held is.prints owns left once (holds.each_map (Sound (world y) P (Reaches y) (IsGood y)) (λ h. nat_lt h.resource (length y.resources) ≡ true) b.held (λ h s. s.3) m.sound);
          once = may.0;
          changes = may.1;
        })

  module _ (b a d : View Effect) (kind : NoteKind) (t : Tells (walk p) (events.Note kind)) (n : Note) (is : n ≡ record { instance = w.number; attempt = attempt (see walk w); kind = kind_view kind; position = 0 }) (clear : a ≡ with_held (aborted b.held) b) where
    pub was_noted : (v : spec.Worker) (i : ℕ) → Notes (world y) n i a d → v ≡ finished (machine.Noted (kind_view kind) i) (see walk w) → TurnsTo y tree walk (placed w p) b v d (spec.HasNoted (kind_view kind) i)
    was_noted v i notes worker = TNoted goes_on (kind_view kind) (rest_is ∙ t) i d (subst (λ a. Notes (world y) (spec.note (world y) (program_at y tree w) (see walk (placed w p)) (kind_view kind)) i a d) clear (subst (λ n. Notes (world y) n i a d) is notes)) refl worker refl

    -- the journal was held at a note, behind the aborts
    pub not_noted : (v : spec.Worker) (x : Refusal) → HolderRefuses (world y) x a d → v ≡ finished (refusal_view x) (see walk w) → TurnsTo y tree walk (placed w p) b v d (refusal_turn x)
    not_noted v (refusals.Held r h) x worker =
        let j = subst (λ a. JournalHeld (world y) h a d) clear x.1 in
        TJournal goes_on (Sticks (kind_view kind)) (rest_is ∙ t) (λ o ps q. absurd (grind (arith, q))) h (with_held b.held d)
        (record {
          same = record { instance = j.same.instance; resources = j.same.resources; steps = j.same.steps; share = j.same.share };
          grows = record { entries_more = j.grows.entries_more; notes_more = j.grows.notes_more; entries = j.grows.entries; notes = j.grows.notes; others = j.grows.others; other_notes = j.grows.other_notes };
          other = j.other;
          there = j.there;
          held = refl;
          told = j.told;
          last = j.last;
        })
        (λ i. record d { held = j.held i }) (worker ∙ ap (λ r. finished (machine.Held r h) (see walk w)) x.0) (ap (λ r. spec.Refused (IsHeld r h)) x.0)
    not_noted v (refusals.Down r o) x worker = absurd x
    not_noted v (refusals.Many leaves n) x worker = absurd x
    not_noted v (refusals.Full i) x worker = absurd x

    -- the board's condition
    pub may_note : MeetsAt y tree walk (placed w p) b → MayNote (world y) n a
    may_note m =
        subst (λ a. MayNote (world y) n a) (sym clear) (subst (λ n. MayNote (world y) n (with_held (aborted b.held) b)) (sym is) (record {
          instance = sym m.instance;
          steady = holds.each_aborted (Sound (world y) (program_at y tree w) (Reaches y) (IsGood y)) IsSteady b.held (λ h s. s.0) m.sound;
          share = let c = m.accounts.share in let s = m.share in let q = ap (λ k. notes_of k b.notes) m.instance in let may = is_counted b m in omega (arith, c, s, may, q);
        }))

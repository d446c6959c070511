-- What a worker stands for is kept by its own turn.
use Rattle.std.proofs.Common.{◌≡◌, ◌≤◌, ◌<◌, ℕ, suc, ◌+◌, Bool, true, false, List, [], ◌∷◌, ◌++◌, length, Some, None, refl, sym, ap, ◌∙◌, subst, arith, ◌⊎◌, inl, inr, length-append}
use Rattle.std.specs.Prelude.{if◌then◌else◌, nat_eq, nat_lt}
use Rattle.pgo_base.specs.Data.{Data}
use Rattle.pgo_model.specs.Outcome.{Kind, Outcome, Next, Stuck, Nowhere}
use Rattle.pgo_model.specs.Machine.{Entry, Note, Record, Step, Noted, Held, Down, Full, Machine, among, nth, put, is_empty, state_at, with_record, attempt_of, tells, goes_on, takes, taking, counted as counting, pre_committing, gives, last_state, section, appended, committing, step}
use Rattle.pgo_model.specs.Machine as machine
use Rattle.pgo_model.specs.MachineAccounts.{equal_or}
use Rattle.pgo_model.specs.MachineLists.{state_next, nth_below}
use Rattle.pgo_workers.specs.Walk.{Own, Stop, Goes, Sticks, Touch, Again, Walk, Along, settled, taken_after, among_append}
use Rattle.pgo_workers.specs.View.{Shown, raised, Hold, View, World, EachHold, IsSteady, Once, StandsAt, hold_at, without, resources_of, values_of, nows_of, with_content, aborted, committed, renewed, changed, Takes, TakeHeld, Commits, Notes, JournalFull, Gives, positioned}
use Rattle.pgo_workers.specs.Worker.{Program, Phase, Resting, Walking, Giving, Worker, Turn, Turned, TIdle, TGave, TTook, THeld, TOperated, TReadied, TDown, TCommitted, TFull, TNoted, TJournal, with_held, finished, walks_on, attempt, rest_of, readied_of, Goes_on, is_giving, changes_of, counted, fails_at, entry, note, put_back}
use Rattle.pgo_workers.specs.Sentences.{Under, Meets, Sound, Runs, IsOwn}
use Rattle.pgo_workers.specs.Kept.{under, left_is, stop_touch, under_took_at, under_operated_at, under_readied_at}
use Rattle.pgo_workers.specs.Turns.{next_there, gives_first, without_first}
use Rattle.pgo_workers.specs.Grown.{opened}
use Rattle.pgo_workers.specs.Holds as holds
use Rattle.pgo_workers.specs.Backs.{under_back_at}
use Rattle.pgo_workers.specs.CoreSteps.{R, Stands, DoneAt, Position, place, step_idle, step_gives, step_take, step_operate, step_pre_commit, step_commit, step_note}

pub put_here : {A : Type 0} (k : ℕ) (x : A) (f : ℕ → A) → put k x f k ≡ x
put_here k x f = go (nat_eq k k) (let e : nat_eq k k ≡ true = grind arith in e)
  where
    go : (b : Bool) → b ≡ true → (if b then x else f k) ≡ x
    go true e = refl
    go false e = absurd (grind (arith, e))

pub put_else : {A : Type 0} (k j : ℕ) (x : A) (f : ℕ → A) → (j ≡ k → ⊥) → put k x f j ≡ f j
put_else k j x f n = go (nat_eq j k) refl
  where
    go : (b : Bool) → nat_eq j k ≡ b → (if b then x else f j) ≡ f j
    go true e = absurd (n ((equal_or j k true e).0 refl))
    go false e = refl

-- the counts, with the one of r raised
counts_with : (f : ℕ → ℕ) (r n : ℕ) (c : Shown) (hs : List Hold) → Once (resources_of hs) → c.count ≡ n → among r (resources_of hs) ≡ true → EachHold (λ h. f h.resource ≡ h.content.count) hs → EachHold (λ h. put r n f h.resource ≡ h.content.count) (with_content r c hs)
counts_with f r n c [] o e a h = tt
counts_with f r n c (x ∷ hs) o e a h = go (nat_eq x.resource r) refl a (λ a. counts_with f r n c hs o.1 e a h.1)
  where
    others : (hs : List Hold) → among r (resources_of hs) ≡ false → EachHold (λ h. f h.resource ≡ h.content.count) hs → EachHold (λ h. put r n f h.resource ≡ h.content.count) hs
    others [] m e = tt
    others (y ∷ hs) m e = by_case (nat_eq r y.resource) refl m (λ m. others hs m e.1)
      where
        by_case : (b : Bool) → nat_eq r y.resource ≡ b → (if b then true else among r (resources_of hs)) ≡ false → (among r (resources_of hs) ≡ false → EachHold (λ h. put r n f h.resource ≡ h.content.count) hs)
            → ((if nat_eq y.resource r then n else f y.resource) ≡ y.content.count) × EachHold (λ h. put r n f h.resource ≡ h.content.count) hs
        by_case true q m ih = absurd (grind (arith, m))
        by_case false q m ih = let t : nat_eq y.resource r ≡ false = grind (arith, q) in (ap (λ b. if b then n else f y.resource) t ∙ e.0, ih m)

    go : (b : Bool) → nat_eq x.resource r ≡ b → (if nat_eq r x.resource then true else among r (resources_of hs)) ≡ true → (among r (resources_of hs) ≡ true → EachHold (λ h. put r n f h.resource ≡ h.content.count) (with_content r c hs))
        → EachHold (λ h. put r n f h.resource ≡ h.content.count) (if b then record x { content = c } ∷ hs else x ∷ with_content r c hs)
    go true q m ih = (ap (λ b. if b then n else f x.resource) q ∙ sym e, others hs (ap (λ i. among i (resources_of hs)) (sym ((equal_or x.resource r true q).0 refl)) ∙ o.0) h.1)
    go false q m ih = let t : nat_eq r x.resource ≡ false = grind (arith, q) in (ap (λ b. if b then n else f x.resource) q ∙ h.0, ih (sym (ap (λ b. if b then true else among r (resources_of hs)) t) ∙ m))

module _ {S D : Type 0} (W : World S D) (P : Program S D) (Reaches : ℕ → ℕ → Type 0) (Good : S → Type 0) (runs : Runs W P Reaches Good) where
  -- where instance k makes an entry: on the good state s, from its own components o to others, with what it holds
  pub record Makes (k : ℕ) (s : S) (o o' : Own) (hs : List Hold) : Type 0 where
    pub instance : nat_lt k P.instances ≡ true
    pub good : Good s
    pub own : W.own s k ≡ o
    pub names : IsOwn W k o'
    pub once : Once (resources_of hs)
    pub resources : EachHold (λ h. W.is_resource h.resource ≡ true) hs
    pub bases : EachHold (λ h. W.value s h.resource ≡ h.content.base) hs

  -- what the core owes of entries besides: they are the differences, and change what they say alone
  pub record Differs : Type 0 where
    pub between : (k : ℕ) (s : S) (o o' : Own) (hs : List Hold) (ps : List Data) → Makes k s o o' hs → P.between k s (W.patched s (P.effect k o o' (changes_of hs) ps)) ps ≡ P.effect k o o' (changes_of hs) ps
    pub value : (k : ℕ) (s : S) (o o' : Own) (hs : List Hold) (ps : List Data) (r : ℕ) → Makes k s o o' hs → W.is_resource r ≡ true
        → W.value (W.patched s (P.effect k o o' (changes_of hs) ps)) r ≡ changed (W.changes (P.effect k o o' (changes_of hs) ps)) r (W.value s r)
    pub untouched : (k : ℕ) (o o' : Own) (hs : List Hold) (ps : List Data) (r : ℕ) (x : Data) → among r (resources_of hs) ≡ false → changed (W.changes (P.effect k o o' (changes_of hs) ps)) r x ≡ x
    pub own_else : (k j : ℕ) (s : S) (o o' : Own) (hs : List Hold) (ps : List Data) → Makes k s o o' hs → (j ≡ k → ⊥) → W.own (W.patched s (P.effect k o o' (changes_of hs) ps)) j ≡ W.own s j

  -- an attempt that ends
  ends_stands : (m n : Machine D) (k : ℕ) (w : Worker) (b c : View D) (o : Own) (x : Record) → Stands W P Reaches Good runs m k w b → n.workers ≡ m.workers → n.holder ≡ m.holder → c.entries ≡ n.entries → c.notes ≡ n.notes
      → EachHold (λ h. W.value (last_state (R W P Reaches Good runs) n) h.resource ≡ h.value) c.held → W.own (last_state (R W P Reaches Good runs) n) k ≡ o → EachHold (λ h. n.counts h.resource ≡ h.content.count) c.held
      → Stands W P Reaches Good runs (tells n k x) k (record (finished x w) { own = o }) c
  ends_stands m n k w b c o x s ws hs es ns values own counts =
      let here : put k (with_record x (n.workers k)) n.workers k ≡ with_record x (m.workers k) = put_here k (with_record x (n.workers k)) n.workers ∙ ap (λ f. with_record x (f k)) ws in
      record {
        number = s.number;
        entries = es;
        notes = ns;
        records = ap (λ p. p.records) here ∙ ap (λ l. l ++ (x ∷ [])) s.records;
        held = ap (λ p. p.held) here ∙ s.held;
        giving = ap (λ p. p.giving) here ∙ ap (λ l. if is_empty l then false else true) s.held ∙ giving w.taken;
        done = done w.taken (ap (λ p. p.done) here);
        values = values;
        own = own;
        counts = counts;
        mine = λ r e. ap (λ f. f r) hs ∙ s.mine r e;
        theirs = λ r e. s.theirs r (sym (ap (λ f. f r) hs) ∙ e);
      }
    where
      giving : (l : List ℕ) → (if is_empty l then false else true) ≡ is_giving (if is_empty l then Resting else Giving)
      giving [] = refl
      giving (r ∷ l) = refl

      done : (l : List ℕ) → (put k (with_record x (n.workers k)) n.workers k).done ≡ 0 → DoneAt W P Reaches Good runs (record (finished x w) { own = o }) c (if is_empty l then Resting else Giving) (put k (with_record x (n.workers k)) n.workers k).done
      done [] e = e
      done (r ∷ l) e = e

  module _ (differs : Differs) (m : Machine D) (k : ℕ) (w : Worker) (b : View D) (s : Stands W P Reaches Good runs m k w b) (meets : Meets W P Reaches Good w b) (good : Good (last_state (R W P Reaches Good runs) m)) (there : nat_lt k P.instances ≡ true) where
    abbrev pub St : Machine D → Worker → View D → Type 0
    St n v c = Stands W P Reaches Good runs n k v c

    abbrev pub next : Machine D
    next = step (R W P Reaches Good runs) m k

    same_values : (hs : List Hold) → EachHold (λ h. W.value (last_state (R W P Reaches Good runs) m) h.resource ≡ h.value) hs → EachHold (λ h. W.value (last_state (R W P Reaches Good runs) m) h.resource ≡ h.value) (aborted hs)
    same_values hs e = holds.each_aborted (λ h. W.value (last_state (R W P Reaches Good runs) m) h.resource ≡ h.value) (λ h. W.value (last_state (R W P Reaches Good runs) m) h.resource ≡ h.value) hs (λ h e. e) e

    same_counts : (f : ℕ → ℕ) (hs : List Hold) → EachHold (λ h. f h.resource ≡ h.content.count) hs → EachHold (λ h. f h.resource ≡ h.content.count) (aborted hs)
    same_counts f hs e = holds.each_aborted (λ h. f h.resource ≡ h.content.count) (λ h. f h.resource ≡ h.content.count) hs (λ h e. e) e

    -- the values of what is held now, as the journal's state has them
    pub bases : EachHold (λ h. W.value (last_state (R W P Reaches Good runs) m) h.resource ≡ h.content.base) b.held
    bases = holds.each_map (λ h. (W.value (last_state (R W P Reaches Good runs) m) h.resource ≡ h.value) × Sound W P Reaches Good h) (λ h. W.value (last_state (R W P Reaches Good runs) m) h.resource ≡ h.content.base) b.held (λ h e. e.0 ∙ sym e.1.0)
        (holds.each_both (λ h. W.value (last_state (R W P Reaches Good runs) m) h.resource ≡ h.value) (Sound W P Reaches Good) b.held s.values meets.sound)

    -- where the code has ended, the entry is made on the machine's last state
    pub makes : (on : Goes_on W P w) (o : Own) (ps : List Data) → rest_of W P w w.phase ≡ Stop (Goes o ps) → Makes k (last_state (R W P Reaches Good runs) m) w.own o b.held
    makes on o ps is = record {
      instance = there;
      good = good;
      own = s.own;
      names = subst (λ k. IsOwn W k o) s.number (left_is W P Reaches Good runs w b (readied_of W P w.phase) o ps (rest_of W P w w.phase) is (under W P Reaches Good runs w b meets on));
      once = subst Once meets.taken meets.once;
      resources = holds.each_map (Sound W P Reaches Good) (λ h. W.is_resource h.resource ≡ true) b.held (λ h s. s.3) meets.sound;
      bases = bases;
    }

    pub held_stands : (on : Goes_on W P w) (r h : ℕ) (leave : Data → Data) (rest : Data → Walk) → rest_of W P w w.phase ≡ Touch r leave rest → among r w.taken ≡ false → (d : View D) → TakeHeld W r h b d
        → d.entries ≡ b.entries → d.notes ≡ b.notes → m.holder r ≡ Some h → St next (finished (Held r h) w) (with_held (aborted d.held) d)
    held_stands on r h leave rest is new d t es ns holder =
        let e : next ≡ taking m k r (Some h) = step_take W P Reaches Good runs m k w b s meets good there on r leave rest is new ∙ ap (taking m k r) holder in
        let other : nat_eq h k ≡ false = not_eq h k (λ q. t.other (q ∙ sym s.number ∙ sym meets.instance)) in
        subst (λ n. St n (finished (Held r h) w) (with_held (aborted d.held) d)) (sym (e ∙ ap (λ c. if c then takes m k r else tells m k (Held r h)) other))
        (ends_stands m m k w b (with_held (aborted d.held) d) w.own (Held r h) s refl refl (es ∙ s.entries) (ns ∙ s.notes)
        (same_values d.held (subst (EachHold (λ h. W.value (last_state (R W P Reaches Good runs) m) h.resource ≡ h.value)) (sym t.held) s.values)) s.own (same_counts m.counts d.held (subst (EachHold (λ h. m.counts h.resource ≡ h.content.count)) (sym t.held) s.counts)))
      where
        not_eq : (a c : ℕ) → (a ≡ c → ⊥) → nat_eq a c ≡ false
        not_eq a c n = go (nat_eq a c) refl
          where
            go : (x : Bool) → nat_eq a c ≡ x → x ≡ false
            go true e = absurd (n ((equal_or a c true e).0 refl))
            go false e = refl

    pub full_stands : (on : Goes_on W P w) (o : Own) (ps : List Data) → rest_of W P w w.phase ≡ Stop (Goes o ps) → nth w.taken (readied_of W P w.phase) ≡ None → (n : ℕ) (d : View D) → JournalFull W n b d
        → d.entries ≡ b.entries → d.notes ≡ b.notes → St next (finished (Full n) w) (with_held (aborted d.held) d)
    full_stands on o ps is at n d t es ns =
        let c = step_commit W P Reaches Good runs m k w b s meets good there on o ps is at in
        let len : length m.entries ≡ P.steps = ap length (sym (es ∙ s.entries)) ∙ t.is_full ∙ meets.steps in
        let full : nat_eq (length m.entries) P.steps ≡ true = grind (arith, len) in
        let number : n ≡ length m.entries = t.full ∙ meets.steps ∙ sym len in
        subst (λ q. St q (finished (Full n) w) (with_held (aborted d.held) d)) (sym (c.2 ∙ ap (λ x. committing (R W P Reaches Good runs) m k x (Next c.0 ps)) full ∙ ap (λ i. tells m k (Full i)) (sym number)))
        (ends_stands m m k w b (with_held (aborted d.held) d) w.own (Full n) s refl refl (es ∙ s.entries) (ns ∙ s.notes)
        (same_values d.held (subst (EachHold (λ h. W.value (last_state (R W P Reaches Good runs) m) h.resource ≡ h.value)) (sym t.held) s.values)) s.own (same_counts m.counts d.held (subst (EachHold (λ h. m.counts h.resource ≡ h.content.count)) (sym t.held) s.counts)))

    pub noted_stands : (on : Goes_on W P w) (kind : Kind) → rest_of W P w w.phase ≡ Stop (Sticks kind) → (n : ℕ) (d : View D) → Notes W (note W P w kind) n (with_held (aborted b.held) b) d
        → d.entries ≡ b.entries → d.notes ≡ b.notes ++ (positioned (note W P w kind) n ∷ []) → St next (finished (Noted kind n) w) d
    noted_stands on kind is n d t es ns =
        let e = step_note W P Reaches Good runs m k w b s meets good there on kind is in
        let number : n ≡ length m.entries = t.position_is ∙ ap length (es ∙ s.entries) in
        let x : Note = record { instance = k; attempt = attempt_of m k; kind = kind; position = length m.entries } in
        let same : positioned (note W P w kind) n ≡ x = (λ i. record { instance = s.number i; attempt = suc (length (sym s.records i)); kind = kind; position = number i }) in
        let m2 : Machine D = record m { notes = m.notes ++ (x ∷ []) } in
        subst (λ q. St q (finished (Noted kind n) w) d) (sym (e ∙ ap (λ i. tells m2 k (Noted kind i)) (sym number)))
        (ends_stands m m2 k w b d w.own (Noted kind n) s refl refl (es ∙ s.entries) (ns ∙ (λ i. s.notes i ++ (same i ∷ [])))
        (subst (EachHold (λ h. W.value (last_state (R W P Reaches Good runs) m) h.resource ≡ h.value)) (sym t.held) (same_values b.held s.values)) s.own (subst (EachHold (λ h. m.counts h.resource ≡ h.content.count)) (sym t.held) (same_counts m.counts b.held s.counts)))

    pub committed_stands : (on : Goes_on W P w) (o : Own) (ps : List Data) → rest_of W P w w.phase ≡ Stop (Goes o ps) → nth w.taken (readied_of W P w.phase) ≡ None → (n : ℕ) (d : View D) → Commits W (entry W P w b.held o ps) n b d
        → d.entries ≡ b.entries ++ (entry W P w b.held o ps ∷ []) → d.notes ≡ b.notes → (length m.entries ≡ P.steps → ⊥) → St next (record (finished (Step n) w) { own = o }) (with_held (committed d.held) d)
    committed_stands on o ps is at n d t es ns room =
        let RR = R W P Reaches Good runs in
        let S0 = last_state RR m in
        let c = step_commit W P Reaches Good runs m k w b s meets good there on o ps is at in
        let e : Entry D = entry W P w b.held o ps in
        let made = makes on o ps is in
        let once : Once (resources_of b.held) = made.once in
        let stands : StandsAt W b m.entries = record { values = bases; own = ap (W.own S0) (meets.instance ∙ s.number) ∙ s.own ∙ meets.own } in
        let end = next_there W P Reaches Good runs w b on o ps is m.entries stands meets good in
        let end' : (section RR m k).end ≡ Next (W.patched S0 e.change) ps = (λ i. (P.sect (sym s.number i) (suc (length (s.records i))) S0).end) ∙ end in
        let to : c.0 ≡ W.patched S0 e.change = next_same c.0 (W.patched S0 e.change) ps (sym c.1 ∙ end') in
        let eff : e.change ≡ P.effect k w.own o (changes_of b.held) ps = (λ i. P.effect (s.number i) w.own o (changes_of b.held) ps) in
        let change : P.between k S0 c.0 ps ≡ e.change =
        ap (λ t. P.between k S0 t ps) (to ∙ ap (W.patched S0) eff) ∙ differs.between k S0 w.own o b.held ps (makes on o ps is) ∙ sym eff in
        let full : nat_eq (length m.entries) P.steps ≡ false = not_eq (length m.entries) P.steps room in
        let x : Entry D = record { instance = k; attempt = attempt_of m k; change = P.between k S0 c.0 ps } in
        let same : e ≡ x = (λ i. record { instance = s.number i; attempt = suc (length (sym s.records i)); change = sym change i }) in
        let m2 : Machine D = appended RR m k c.0 ps in
        let number : n ≡ suc (length m.entries) = t.number ∙ ap length es ∙ one_longer b.entries e ∙ ap (λ l. suc (length l)) s.entries in
        let last : last_state RR m2 ≡ W.patched S0 e.change = ap (λ l. state_at RR W.start (m.entries ++ (x ∷ [])) l) (one_longer m.entries x) ∙ state_next RR W.start m.entries x ∙ ap (W.patched S0) change in
        let cs = W.changes e.change in
        let hs_is : committed d.held ≡ committed (renewed cs b.held) = ap committed t.held in
        let value_to : (r : ℕ) → W.is_resource r ≡ true → W.value (W.patched S0 e.change) r ≡ changed cs r (W.value S0 r) =
        (λ r is_r. ap (λ d. W.value (W.patched S0 d) r) eff ∙ differs.value k S0 w.own o b.held ps r (makes on o ps is) is_r ∙ ap (λ d. changed (W.changes d) r (W.value S0 r)) (sym eff)) in
        subst (λ q. St q (record (finished (Step n) w) { own = o }) (with_held (committed d.held) d))
        (sym (c.2 ∙ ap (λ x. committing RR m k x (Next c.0 ps)) full ∙ ap (λ i. tells m2 k (Step i)) (sym number)))
        (ends_stands m m2 k w b (with_held (committed d.held) d) o (Step n) s refl refl (es ∙ (λ i. s.entries i ++ (same i ∷ []))) (ns ∙ s.notes)
        (subst (EachHold (λ h. W.value (last_state RR m2) h.resource ≡ h.value)) (sym hs_is)
        (holds.each_committed (λ h. (W.value S0 h.resource ≡ h.value) × Sound W P Reaches Good h) (λ h. W.value (last_state RR m2) h.resource ≡ h.value) cs b.held (λ h q. ap (λ s. W.value s h.resource) last ∙ value_to h.resource q.1.3 ∙ ap (changed cs h.resource) q.0)
        (holds.each_both (λ h. W.value S0 h.resource ≡ h.value) (Sound W P Reaches Good) b.held s.values meets.sound)))
        (ap (λ s. W.own s k) (last ∙ ap (W.patched S0) eff) ∙ runs.own_patched k S0 w.own o b.held ps good made.names once made.resources s.own bases)
        (subst (EachHold (λ h. m.counts h.resource ≡ h.content.count)) (sym hs_is)
        (holds.each_committed (λ h. m.counts h.resource ≡ h.content.count) (λ h. m.counts h.resource ≡ h.content.count) cs b.held (λ h q. q) s.counts)))
      where
        not_eq : (a c : ℕ) → (a ≡ c → ⊥) → nat_eq a c ≡ false
        not_eq a c n = go (nat_eq a c) refl
          where
            go : (x : Bool) → nat_eq a c ≡ x → x ≡ false
            go true e = absurd (n ((equal_or a c true e).0 refl))
            go false e = refl

        next_same : (a c : S) (ps : List Data) → Next a ps ≡ Next c ps → a ≡ c
        next_same a c ps e = ap (λ o. of o) e
          where
            of : Outcome S → S
            of (Next t ps) = t
            of (Stuck kind) = a
            of Nowhere = a

        one_longer : (l : List (Entry D)) (e : Entry D) → length (l ++ (e ∷ [])) ≡ suc (length l)
        one_longer l e = let a = length-append l (e ∷ []) in omega (arith, a)

    -- what the machine's worker is, behind an event
    pub took_stands : (on : Goes_on W P w) (r : ℕ) (leave : Data → Data) (rest : Data → Walk) → rest_of W P w w.phase ≡ Touch r leave rest → among r w.taken ≡ false → (c : View D) (t : Takes W r b c)
        → c.entries ≡ b.entries → c.notes ≡ b.notes → m.holder r ≡ None → t.value ≡ W.value (last_state (R W P Reaches Good runs) m) r → t.count ≡ m.counts r
        → St next (record w { phase = Walking (Touch r leave rest) 0; taken = w.taken ++ (r ∷ []) }) c
    took_stands on r leave rest is new c t es ns holder value count =
        let e : next ≡ takes m k r = step_take W P Reaches Good runs m k w b s meets good there on r leave rest is new ∙ ap (taking m k r) holder in
        let p = place W P Reaches Good runs m k w b s meets good there on in
        let u = under_took_at W P Reaches Good runs w b c (readied_of W P w.phase) r leave rest (rest_of W P w w.phase) is (ap (among r) (sym meets.taken) ∙ new) t p.under in
        let h : Hold = record { resource = r; value = t.value; count = t.count; content = record { base = t.value; current = t.value; count = t.count; number = t.number } } in
        let mine = put_here k (record (m.workers k) { done = suc (m.workers k).done; held = (m.workers k).held ++ (r ∷ []) }) m.workers in
        subst (λ n. St n (record w { phase = Walking (Touch r leave rest) 0; taken = w.taken ++ (r ∷ []) }) c) (sym e) (record {
          number = s.number;
          entries = es ∙ s.entries;
          notes = ns ∙ s.notes;
          records = ap (λ p. p.records) mine ∙ s.records;
          held = ap (λ p. p.held) mine ∙ ap (λ l. l ++ (r ∷ [])) s.held;
          giving = ap (λ p. p.giving) mine ∙ s.giving ∙ on.1;
          done = (
            u.0,
            ap (λ p. p.done) mine ∙ sum (m.workers k).done (length p.under.accesses) (length w.taken) (readied_of W P w.phase) (length u.0.accesses) (length (w.taken ++ (r ∷ []))) p.done (no_ready p) (ap length u.1) (length-append w.taken (r ∷ [])),
            subst (λ n. 0 < n) (sym (ap (λ p. p.done) mine)) (omega arith),
          );
          values = subst (EachHold (λ h. W.value (last_state (R W P Reaches Good runs) m) h.resource ≡ h.value)) (sym t.held) (holds.each_append (λ h. W.value (last_state (R W P Reaches Good runs) m) h.resource ≡ h.value) b.held (h ∷ []) s.values (sym value, tt));
          own = s.own;
          counts = subst (EachHold (λ h. m.counts h.resource ≡ h.content.count)) (sym t.held) (holds.each_append (λ h. m.counts h.resource ≡ h.content.count) b.held (h ∷ []) s.counts (sym count, tt));
          mine = λ q a. took q (nat_eq q r) (among q w.taken) refl (sym (among_append q w.taken (r ∷ [])) ∙ a);
          theirs = λ q a. among_append q w.taken (r ∷ []) ∙ back q (nat_eq q r) (among q w.taken) refl a;
        })
      where
        sum : (d a l j b t : ℕ) → d ≡ (a + l) + j → j ≡ 0 → b ≡ a → t ≡ l + 1 → suc d ≡ (b + t) + 0
        sum d a l j b t e f g h = omega (arith, e, f, g, h)

        no_ready : (p : Position W P Reaches Good runs m k w b s meets good there) → readied_of W P w.phase ≡ 0
        no_ready p = go p.under.readied_at
          where
            go : (readied_of W P w.phase ≡ 0) ⊎ ((o : Own) × (ps : List Data) × (rest_of W P w w.phase ≡ Stop (Goes o ps))) → readied_of W P w.phase ≡ 0
            go (inl e) = e
            go (inr e) = absurd (stop_touch (Goes e.0 e.1) r leave rest (sym e.2 ∙ is))

        took : (q : ℕ) (x y : Bool) → among q w.taken ≡ y → (if y then true else (if x then true else false)) ≡ true → (if x then Some k else m.holder q) ≡ Some k
        took q true y e a = refl
        took q false true e a = s.mine q e
        took q false false e a = absurd (grind (arith, a))

        back : (q : ℕ) (x y : Bool) → among q w.taken ≡ y → (if x then Some k else m.holder q) ≡ Some k → (if y then true else (if x then true else false)) ≡ true
        back q true true e a = refl
        back q true false e a = refl
        back q false true e a = refl
        back q false false e a = let z : true ≡ false = sym (s.theirs q a) ∙ e in absurd (grind (arith, z))

    -- an event that changes the count of events alone
    went_stands : (c : View D) (x : Walk) (i : ℕ) (f : ℕ → ℕ) (u : Under W P Reaches Good (walks_on x i w) c x i) → is_giving w.phase ≡ false → c.entries ≡ b.entries → c.notes ≡ b.notes
        → suc (m.workers k).done ≡ (length u.accesses + length w.taken) + i
        → EachHold (λ h. W.value (last_state (R W P Reaches Good runs) m) h.resource ≡ h.value) c.held → EachHold (λ h. f h.resource ≡ h.content.count) c.held
        → St (goes_on (record m { counts = f }) k) (walks_on x i w) c
    went_stands c x i f u going es ns done values counts =
        let mine = put_here k (record (m.workers k) { done = suc (m.workers k).done }) m.workers in
        record {
          number = s.number;
          entries = es ∙ s.entries;
          notes = ns ∙ s.notes;
          records = ap (λ p. p.records) mine ∙ s.records;
          held = ap (λ p. p.held) mine ∙ s.held;
          giving = ap (λ p. p.giving) mine ∙ s.giving ∙ going;
          done = (u, ap (λ p. p.done) mine ∙ done, subst (λ n. 0 < n) (sym (ap (λ p. p.done) mine)) (omega arith));
          values = values;
          own = s.own;
          counts = counts;
          mine = s.mine;
          theirs = s.theirs;
        }

    values_with : (r : ℕ) (c : Shown) → (h : Hold) → hold_at b.held r ≡ Some h → EachHold (λ h. W.value (last_state (R W P Reaches Good runs) m) h.resource ≡ h.value) (with_content r c b.held)
    values_with r c h at = holds.each_with (λ h. W.value (last_state (R W P Reaches Good runs) m) h.resource ≡ h.value) r c b.held h at (holds.hold_is (λ h. W.value (last_state (R W P Reaches Good runs) m) h.resource ≡ h.value) b.held r h at s.values) s.values

    pub operated_stands : (on : Goes_on W P w) (r : ℕ) (leave : Data → Data) (rest : Data → Walk) → rest_of W P w w.phase ≡ Touch r leave rest → (h : Hold) (at : hold_at b.held r ≡ Some h)
        → St next (walks_on (rest h.content.current) 0 w) (with_held (with_content r (record h.content { current = leave h.content.current }) b.held) b)
    operated_stands on r leave rest is h at =
        let p = place W P Reaches Good runs m k w b s meets good there on in
        let old : among r w.taken ≡ true = ap (among r) meets.taken ∙ holds.hold_among b.held r h at in
        let e = step_operate W P Reaches Good runs m k w b s meets good there on r leave rest is old in
        let once : Once (resources_of b.held) = subst Once meets.taken meets.once in
        let new : Shown = record h.content { current = leave h.content.current } in
        let u = under_operated_at W P Reaches Good runs w b (readied_of W P w.phase) r leave rest (rest_of W P w w.phase) h is at once p.under in
        subst (λ n. St n (walks_on (rest h.content.current) 0 w) (with_held (with_content r new b.held) b)) (sym e)
        (went_stands (with_held (with_content r new b.held) b) (rest h.content.current) 0 m.counts u.0 on.1 refl refl
        (sum (m.workers k).done (length p.under.accesses) (length w.taken) (readied_of W P w.phase) (length u.0.accesses) p.done (no_ready p) (ap length u.1 ∙ length-append p.under.accesses (r ∷ [])))
        (values_with r new h at) (holds.each_with (λ h. m.counts h.resource ≡ h.content.count) r new b.held h at (holds.hold_is (λ h. m.counts h.resource ≡ h.content.count) b.held r h at s.counts) s.counts))
      where
        sum : (d a l j b : ℕ) → d ≡ (a + l) + j → j ≡ 0 → b ≡ a + 1 → suc d ≡ (b + l) + 0
        sum d a l j b e f g = omega (arith, e, f, g)

        no_ready : (p : Position W P Reaches Good runs m k w b s meets good there) → readied_of W P w.phase ≡ 0
        no_ready p = go p.under.readied_at
          where
            go : (readied_of W P w.phase ≡ 0) ⊎ ((o : Own) × (ps : List Data) × (rest_of W P w w.phase ≡ Stop (Goes o ps))) → readied_of W P w.phase ≡ 0
            go (inl e) = e
            go (inr e) = absurd (stop_touch (Goes e.0 e.1) r leave rest (sym e.2 ∙ is))

    -- contents are put back
    back_stands : (n : Machine D) (c : View D) (x : Walk) → EachHold IsSteady c.held → St n (walks_on x 0 w) c → St n (walks_on (settled x) 0 w) (with_held (put_back x c.held) c)
    back_stands n c (Stop e) steady t = t
    back_stands n c (Touch r leave rest) steady t = t
    back_stands n c (Again x) steady t =
        let u = under_back_at W P Reaches Good runs w c (Again x) steady t.done.0 in
        record {
          number = t.number;
          entries = t.entries;
          notes = t.notes;
          records = t.records;
          held = t.held;
          giving = t.giving;
          done = (u.0, t.done.1 ∙ ap (λ l. (length l + length w.taken) + 0) (sym u.1), t.done.2);
          values = holds.each_aborted (λ h. W.value (last_state (R W P Reaches Good runs) n) h.resource ≡ h.value) (λ h. W.value (last_state (R W P Reaches Good runs) n) h.resource ≡ h.value) c.held (λ h e. e) t.values;
          own = t.own;
          counts = holds.each_aborted (λ h. n.counts h.resource ≡ h.content.count) (λ h. n.counts h.resource ≡ h.content.count) c.held (λ h e. e) t.counts;
          mine = t.mine;
          theirs = t.theirs;
        }

    steady_with : (r : ℕ) (c : Shown) (h : Hold) → hold_at b.held r ≡ Some h → c.base ≡ h.content.base → EachHold IsSteady (with_content r c b.held)
    steady_with r c h at same =
        let steady = holds.each_map (Sound W P Reaches Good) IsSteady b.held (λ h s. s.0) meets.sound in
        holds.each_with IsSteady r c b.held h at (same ∙ holds.hold_is IsSteady b.held r h at steady) steady

    -- the counts of the code are below their last value, and a content has a number unless nothing fails
    pub record Counting (h : Hold) : Type 0 where
      pub up : raised h.content.count ≡ suc h.content.count
      pub fails : fails_at W P h.content.number (raised h.content.count) ≡ P.fails h.resource (raised h.content.count)

    below : (l : List ℕ) (n r : ℕ) → nth l n ≡ Some r → suc n ≤ length l
    below l n r h = nth_below l n r h

    pub readied_stands : (on : Goes_on W P w) (o : Own) (ps : List Data) → rest_of W P w w.phase ≡ Stop (Goes o ps) → (r : ℕ) → nth w.taken (readied_of W P w.phase) ≡ Some r → (h : Hold) (at : hold_at b.held r ≡ Some h)
        → fails_at W P h.content.number (raised h.content.count) ≡ false → Counting h → St next (walks_on (Stop (Goes o ps)) (suc (readied_of W P w.phase)) w) (with_held (with_content r (counted h.content) b.held) b)
    readied_stands on o ps is r nth_r h at up is_counting =
        let p = place W P Reaches Good runs m k w b s meets good there on in
        let named : h.resource ≡ r = holds.hold_named b.held r h at in
        let count : m.counts r ≡ h.content.count = ap m.counts (sym named) ∙ holds.hold_is (λ h. m.counts h.resource ≡ h.content.count) b.held r h at s.counts in
        let number : raised h.content.count ≡ suc (m.counts r) = is_counting.up ∙ ap suc (sym count) in
        let fails : P.fails r (suc (m.counts r)) ≡ false = (λ i. P.fails (sym named i) (sym number i)) ∙ sym is_counting.fails ∙ up in
        let e = step_pre_commit W P Reaches Good runs m k w b s meets good there on o ps r is nth_r ∙ ap (pre_committing m k r) fails in
        let once : Once (resources_of b.held) = subst Once meets.taken meets.once in
        let u = under_readied_at W P Reaches Good runs w b (readied_of W P w.phase) (suc (readied_of W P w.phase)) r (rest_of W P w w.phase) h (below w.taken (readied_of W P w.phase) r nth_r) (inr (o, ps, is)) at once p.under in
        let held : among r (resources_of b.held) ≡ true = holds.hold_among b.held r h at in
        subst (λ n. St n (walks_on (Stop (Goes o ps)) (suc (readied_of W P w.phase)) w) (with_held (with_content r (counted h.content) b.held) b)) (sym e)
        (subst (λ x. St (goes_on (counting m r) k) (walks_on x (suc (readied_of W P w.phase)) w) (with_held (with_content r (counted h.content) b.held) b)) is
        (went_stands (with_held (with_content r (counted h.content) b.held) b) (rest_of W P w w.phase) (suc (readied_of W P w.phase)) (put r (suc (m.counts r)) m.counts) u.0 on.1 refl refl
        (sum (m.workers k).done (length p.under.accesses) (length w.taken) (readied_of W P w.phase) (length u.0.accesses) p.done (ap length u.1))
        (values_with r (counted h.content) h at) (counts_with m.counts r (suc (m.counts r)) (counted h.content) b.held once number held s.counts)))
      where
        sum : (d a l j b : ℕ) → d ≡ (a + l) + j → b ≡ a → suc d ≡ (b + l) + suc j
        sum d a l j b e f = omega (arith, e, f)

    pub down_stands : (on : Goes_on W P w) (o : Own) (ps : List Data) → rest_of W P w w.phase ≡ Stop (Goes o ps) → (r : ℕ) → nth w.taken (readied_of W P w.phase) ≡ Some r → (h : Hold) (at : hold_at b.held r ≡ Some h)
        → fails_at W P h.content.number (raised h.content.count) ≡ true → Counting h → St next (finished (Down r (raised h.content.count)) w) (with_held (aborted (with_content r (counted h.content) b.held)) b)
    down_stands on o ps is r nth_r h at down is_counting =
        let named : h.resource ≡ r = holds.hold_named b.held r h at in
        let count : m.counts r ≡ h.content.count = ap m.counts (sym named) ∙ holds.hold_is (λ h. m.counts h.resource ≡ h.content.count) b.held r h at s.counts in
        let number : raised h.content.count ≡ suc (m.counts r) = is_counting.up ∙ ap suc (sym count) in
        let fails : P.fails r (suc (m.counts r)) ≡ true = (λ i. P.fails (sym named i) (sym number i)) ∙ sym is_counting.fails ∙ down in
        let e = step_pre_commit W P Reaches Good runs m k w b s meets good there on o ps r is nth_r ∙ ap (pre_committing m k r) fails ∙ ap (λ n. tells (counting m r) k (Down r n)) (sym number) in
        let once : Once (resources_of b.held) = subst Once meets.taken meets.once in
        subst (λ n. St n (finished (Down r (raised h.content.count)) w) (with_held (aborted (with_content r (counted h.content) b.held)) b)) (sym e)
        (ends_stands m (counting m r) k w b (with_held (aborted (with_content r (counted h.content) b.held)) b) w.own (Down r (raised h.content.count)) s refl refl s.entries s.notes
        (same_values (with_content r (counted h.content) b.held) (values_with r (counted h.content) h at)) s.own
        (same_counts (put r (suc (m.counts r)) m.counts) (with_content r (counted h.content) b.held) (counts_with m.counts r (suc (m.counts r)) (counted h.content) b.held once number (holds.hold_among b.held r h at) s.counts)))

    pub gave_stands : (r : ℕ) (rs : List ℕ) → is_giving w.phase ≡ true → w.taken ≡ r ∷ rs → (c : View D) → Gives W r b c → c.entries ≡ b.entries → c.notes ≡ b.notes
        → St next (record w { phase = if is_empty rs then Resting else Giving; taken = rs }) c
    gave_stands r rs giving first c t es ns =
        let f = gives_first W P Reaches Good runs w b r rs first meets in let h = f.0 in let hs = f.1 in
        let once : Once (resources_of (h ∷ hs)) = subst Once (meets.taken ∙ ap resources_of f.2) meets.once in
        let held : c.held ≡ hs = t.held ∙ ap (λ l. without l r) f.2 ∙ without_first W P Reaches Good runs h hs r f.3 once in
        let e : next ≡ gives m k (r ∷ rs) = step_gives W P Reaches Good runs m k w b s meets good there giving ∙ ap (gives m k) first in
        let mine = put_here k (record (m.workers k) { giving = if is_empty rs then false else true; held = rs }) m.workers in
        let gone : among r rs ≡ false = (ap (λ i. among i rs) (sym f.3)) ∙ ap (among h.resource) (sym f.4) ∙ once.0 in
        subst (λ n. St n (record w { phase = if is_empty rs then Resting else Giving; taken = rs }) c) (sym e) (record {
          number = s.number;
          entries = es ∙ s.entries;
          notes = ns ∙ s.notes;
          records = ap (λ p. p.records) mine ∙ s.records;
          held = ap (λ p. p.held) mine;
          giving = ap (λ p. p.giving) mine ∙ gives_on rs;
          done = done rs (ap (λ p. p.done) mine ∙ zero_done w.phase giving s.done);
          values = subst (EachHold (λ h. W.value (last_state (R W P Reaches Good runs) m) h.resource ≡ h.value)) (sym held) (subst (EachHold (λ h. W.value (last_state (R W P Reaches Good runs) m) h.resource ≡ h.value)) f.2 s.values).1;
          own = s.own;
          counts = subst (EachHold (λ h. m.counts h.resource ≡ h.content.count)) (sym held) (subst (EachHold (λ h. m.counts h.resource ≡ h.content.count)) f.2 s.counts).1;
          mine = λ q a. kept q (nat_eq q r) refl a gone (s.mine q (ap (among q) first ∙ front (nat_eq q r) (among q rs) a));
          theirs = λ q a. behind q (nat_eq q r) a (λ z. sym (ap (among q) first) ∙ s.theirs q z);
        })
      where
        gives_on : (l : List ℕ) → (if is_empty l then false else true) ≡ is_giving (if is_empty l then Resting else Giving)
        gives_on [] = refl
        gives_on (x ∷ l) = refl

        done : (l : List ℕ) {n : ℕ} → n ≡ 0 → DoneAt W P Reaches Good runs (record w { phase = if is_empty rs then Resting else Giving; taken = rs }) c (if is_empty l then Resting else Giving) n
        done [] e = e
        done (x ∷ l) e = e

        zero_done : (p : Phase) → is_giving p ≡ true → DoneAt W P Reaches Good runs w b p (m.workers k).done → (m.workers k).done ≡ 0
        zero_done Resting g d = absurd (grind (arith, g))
        zero_done (Walking x j) g d = absurd (grind (arith, g))
        zero_done Giving g d = d

        front : (x y : Bool) → y ≡ true → (if x then true else y) ≡ true
        front true y e = refl
        front false y e = e

        kept : (q : ℕ) (x : Bool) → nat_eq q r ≡ x → among q rs ≡ true → among r rs ≡ false → m.holder q ≡ Some k → (if x then None else m.holder q) ≡ Some k
        kept q true e a n h = let z : true ≡ false = sym a ∙ ap (λ i. among i rs) ((equal_or q r true e).0 refl) ∙ n in absurd (grind (arith, z))
        kept q false e a n h = h

        behind : (q : ℕ) (x : Bool) → (if x then None else m.holder q) ≡ Some k → (m.holder q ≡ Some k → (if x then true else among q rs) ≡ true) → among q rs ≡ true
        behind q true e f = absurd (grind (arith, e))
        behind q false e f = f e

    -- what an exclusive board does besides: no other adds to the journal, who is refused is refused by who holds, and
    -- what comes is as the journal has it
    abbrev pub Alone : (v : Worker) (c : View D) (t : Turn) → Turned W P w b v c t → Type 0
    Alone v c t (TIdle ended worker board answer) = Unit {0}
    Alone v c t (TGave r rs giving first gives worker answer) = (c.entries ≡ b.entries) × (c.notes ≡ b.notes)
    Alone v c t (TTook on r leave rest next' new takes worker answer) = (c.entries ≡ b.entries) × (c.notes ≡ b.notes) × (m.holder r ≡ None) × (takes.value ≡ W.value (last_state (R W P Reaches Good runs) m) r) × (takes.count ≡ m.counts r)
    Alone v c t (THeld on r h leave rest next' new d take board worker answer) = (d.entries ≡ b.entries) × (d.notes ≡ b.notes) × (m.holder r ≡ Some h)
    Alone v c t (TOperated on r leave rest next' h held board worker answer) = Unit {0}
    Alone v c t (TReadied on o ps next' r at h held up board worker answer) = Counting h
    Alone v c t (TDown on o ps next' r at h held down board worker answer) = Counting h
    Alone v c t (TCommitted on o ps next' at n d commits board worker answer) = (d.entries ≡ b.entries ++ (entry W P w b.held o ps ∷ [])) × (d.notes ≡ b.notes) × (length m.entries ≡ P.steps → ⊥)
    Alone v c t (TFull on o ps next' at n d full board worker answer) = (d.entries ≡ b.entries) × (d.notes ≡ b.notes)
    Alone v c t (TNoted on kind next' n d notes board worker answer) = (d.entries ≡ b.entries) × (d.notes ≡ b.notes ++ (positioned (note W P w kind) n ∷ []))
    Alone v c t (TJournal on e next' at h d held board worker answer) = ⊥

    -- the turn is the step
    pub stepped : (v : Worker) (c : View D) (t : Turn) (x : Turned W P w b v c t) → Alone v c t x → St next v c
    stepped v c t (TIdle ended worker board answer) a = subst (λ v. St next v c) (sym worker) (subst (λ c. St next w c) (sym board) (subst (λ n. St n w b) (sym (step_idle W P Reaches Good runs m k w b s meets good there ended)) s))
    stepped v c t (TGave r rs giving first gives worker answer) a = subst (λ v. St next v c) (sym worker) (gave_stands r rs giving first c gives a.0 a.1)
    stepped v c t (TTook on r leave rest next' new takes worker answer) a = subst (λ v. St next v c) (sym worker) (took_stands on r leave rest next' new c takes a.0 a.1 a.2 a.3 a.4)
    stepped v c t (THeld on r h leave rest next' new d take board worker answer) a = subst (λ v. St next v c) (sym worker) (subst (λ c. St next (finished (Held r h) w) c) (sym board) (held_stands on r h leave rest next' new d take a.0 a.1 a.2))
    stepped v c t (TOperated on r leave rest next' h held board worker answer) a = subst (λ v. St next v c) (sym worker) (subst (λ c. St next (walks_on (settled (rest h.content.current)) 0 w) c) (sym board) (back_stands next (with_held (with_content r (record h.content { current = leave h.content.current }) b.held) b) (rest h.content.current) (steady_with r (record h.content { current = leave h.content.current }) h held refl) (operated_stands on r leave rest next' h held)))
    stepped v c t (TReadied on o ps next' r at h held up board worker answer) a = subst (λ v. St next v c) (sym worker) (subst (λ c. St next (walks_on (Stop (Goes o ps)) (suc (readied_of W P w.phase)) w) c) (sym board) (readied_stands on o ps next' r at h held up a))
    stepped v c t (TDown on o ps next' r at h held down board worker answer) a = subst (λ v. St next v c) (sym worker) (subst (λ c. St next (finished (Down r (raised h.content.count)) w) c) (sym board) (down_stands on o ps next' r at h held down a))
    stepped v c t (TCommitted on o ps next' at n d commits board worker answer) a = subst (λ v. St next v c) (sym worker) (subst (λ c. St next (record (finished (Step n) w) { own = o }) c) (sym board) (committed_stands on o ps next' at n d commits a.0 a.1 a.2))
    stepped v c t (TFull on o ps next' at n d full board worker answer) a = subst (λ v. St next v c) (sym worker) (subst (λ c. St next (finished (Full n) w) c) (sym board) (full_stands on o ps next' at n d full a.0 a.1))
    stepped v c t (TNoted on kind next' n d notes board worker answer) a = subst (λ v. St next v c) (sym worker) (subst (λ c. St next (finished (Noted kind n) w) c) (sym board) (noted_stands on kind next' n d notes a.0 a.1))
    stepped v c t (TJournal on e next' at h d held board worker answer) a = absurd a

  -- another instance's worker stands for it as before: where the machine's worker, its holds, the values of what it
  -- holds and its own components are as they were
  pub stays : (m n : Machine D) (j : ℕ) (w : Worker) (b c : View D) → Stands W P Reaches Good runs m j w b → n.workers j ≡ m.workers j → ((r : ℕ) → m.holder r ≡ Some j → n.holder r ≡ Some j) → ((r : ℕ) → n.holder r ≡ Some j → m.holder r ≡ Some j)
      → c.entries ≡ n.entries → c.notes ≡ n.notes → c.held ≡ b.held → EachHold (λ h. W.value (last_state (R W P Reaches Good runs) n) h.resource ≡ W.value (last_state (R W P Reaches Good runs) m) h.resource) b.held
      → W.own (last_state (R W P Reaches Good runs) n) j ≡ W.own (last_state (R W P Reaches Good runs) m) j → EachHold (λ h. n.counts h.resource ≡ m.counts h.resource) b.held → Stands W P Reaches Good runs n j w c
  stays m n j w b c s same to from es ns held values own counts =
      record {
        number = s.number;
        entries = es;
        notes = ns;
        records = ap (λ p. p.records) same ∙ s.records;
        held = ap (λ p. p.held) same ∙ s.held;
        giving = ap (λ p. p.giving) same ∙ s.giving;
        done = done w.phase s.done;
        values = subst (EachHold (λ h. W.value (last_state (R W P Reaches Good runs) n) h.resource ≡ h.value)) (sym held) (chain (λ h. W.value (last_state (R W P Reaches Good runs) n) h.resource) (λ h. W.value (last_state (R W P Reaches Good runs) m) h.resource) (λ h. h.value) b.held values s.values);
        own = own ∙ s.own;
        counts = subst (EachHold (λ h. n.counts h.resource ≡ h.content.count)) (sym held) (chain (λ h. n.counts h.resource) (λ h. m.counts h.resource) (λ h. h.content.count) b.held counts s.counts);
        mine = λ r a. to r (s.mine r a);
        theirs = λ r a. s.theirs r (from r a);
      }
    where
      chain : {A : Type 0} (f g h : Hold → A) (hs : List Hold) → EachHold (λ x. f x ≡ g x) hs → EachHold (λ x. g x ≡ h x) hs → EachHold (λ x. f x ≡ h x) hs
      chain f g h [] a b = tt
      chain f g h (x ∷ hs) a b = (a.0 ∙ b.0, chain f g h hs a.1 b.1)

      done : (p : Phase) → DoneAt W P Reaches Good runs w b p (m.workers j).done → DoneAt W P Reaches Good runs w c p (n.workers j).done
      done Resting d = ap (λ p. p.done) same ∙ d
      done (Walking x i) d = (
        record {
          accesses = d.0.accesses;
          along = subst (λ hs. Along (P.tree w.number (attempt w) w.own) (values_of hs) d.0.accesses x (nows_of hs)) (sym held) d.0.along;
          holds = subst (λ hs. (taken_after d.0.accesses [] ≡ resources_of hs)
              ⊎ ((r : ℕ) × (leave : Data → Data) × (rest : Data → Walk) × (x ≡ Touch r leave rest) × (taken_after d.0.accesses [] ++ (r ∷ []) ≡ resources_of hs) × (among r d.0.accesses ≡ false))) (sym held) d.0.holds;
          within = d.0.within;
          may = d.0.may;
          not_done = d.0.not_done;
          readied_below = d.0.readied_below;
          readied_at = d.0.readied_at;
        },
        ap (λ p. p.done) same ∙ d.1,
        subst (λ n. 0 < n) (sym (ap (λ p. p.done) same)) d.2,
      )
      done Giving d = ap (λ p. p.done) same ∙ d

  -- before any turn
  pub opened_stands : (k : ℕ) (b : View D) → b.entries ≡ [] → b.notes ≡ [] → b.held ≡ [] → Stands W P Reaches Good runs machine.opened k (opened W P Reaches Good runs k) b
  opened_stands k b es ns held = record {
    number = refl;
    entries = es;
    notes = ns;
    records = refl;
    held = refl;
    giving = refl;
    done = refl;
    values = subst (EachHold (λ h. W.value (last_state (R W P Reaches Good runs) machine.opened) h.resource ≡ h.value)) (sym held) tt;
    own = refl;
    counts = subst (EachHold (λ h. 0 ≡ h.content.count)) (sym held) tt;
    mine = λ r e. absurd (grind (arith, e));
    theirs = λ r e. absurd (grind (arith, e));
  }

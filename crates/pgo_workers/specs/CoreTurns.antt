-- The core of several workers: a turn of one of them is a step of the machine, and the others stand as before.
use Rattle.std.proofs.Common.{◌≡◌, ◌≤◌, ◌<◌, ℕ, suc, Bool, true, false, List, [], ◌∷◌, ◌++◌, length, Some, None, refl, sym, ap, ◌∙◌, subst, arith, length-append}
use Rattle.std.specs.Prelude.{if◌then◌else◌, nat_eq, nat_lt}
use Rattle.pgo_base.specs.Data.{Data}
use Rattle.pgo_model.specs.Outcome.{Outcome, Next, Stuck, Nowhere}
use Rattle.pgo_model.specs.Machine.{Entry, Step, Noted, Held, Down, Full, Machine, Worker as MachineWorker, among, put, is_empty, state_at, with_record, attempt_of, tells, takes, taking, counted as counting, pre_committing, gives, last_state, section, appended, committing, step}
use Rattle.pgo_model.specs.MachineAccounts.{equal_or}
use Rattle.pgo_model.specs.MachineLists.{state_next}
use Rattle.pgo_workers.specs.View.{Hold, View, World, EachHold, resources_of}
use Rattle.pgo_workers.specs.Worker.{Program, Worker, Turn, Turned, TIdle, TGave, TTook, THeld, TOperated, TReadied, TDown, TCommitted, TFull, TNoted, TJournal, changes_of}
use Rattle.pgo_workers.specs.Sentences.{Meets, Sound, Runs}
use Rattle.pgo_workers.specs.Holds as holds
use Rattle.pgo_workers.specs.CoreSteps.{R, Stands, step_idle, step_gives, step_take, step_operate, step_pre_commit, step_commit, step_note}
use Rattle.pgo_workers.specs.CoreStands.{Differs, makes, bases, Alone, put_else, stays, stepped}
use Rattle.pgo_workers.specs.Turns.{next_there, kept}
use Rattle.pgo_workers.specs.Grown.{Renews, renewed_meets}

module _ {S D : Type 0} (W : World S D) (P : Program S D) (Reaches : ℕ → ℕ → Type 0) (Good : S → Type 0) (runs : Runs W P Reaches Good) where
  -- what a machine's step by k leaves of another instance j, which holds `hs`
  pub record LeavesOther (m n : Machine D) (j : ℕ) (hs : List Hold) : Type 0 where
    pub worker : n.workers j ≡ m.workers j
    pub to : (r : ℕ) → m.holder r ≡ Some j → n.holder r ≡ Some j
    pub from : (r : ℕ) → n.holder r ≡ Some j → m.holder r ≡ Some j
    pub values : EachHold (λ h. W.value (last_state (R W P Reaches Good runs) n) h.resource ≡ W.value (last_state (R W P Reaches Good runs) m) h.resource) hs
    pub own : W.own (last_state (R W P Reaches Good runs) n) j ≡ W.own (last_state (R W P Reaches Good runs) m) j
    pub counts : EachHold (λ h. n.counts h.resource ≡ m.counts h.resource) hs

  each_refl : {A : Type 0} (f : Hold → A) (hs : List Hold) → EachHold (λ h. f h ≡ f h) hs
  each_refl f [] = tt
  each_refl f (h ∷ hs) = (refl, each_refl f hs)

  nothing_left : (m : Machine D) (j : ℕ) (hs : List Hold) → LeavesOther m m j hs
  nothing_left m j hs = record { worker = refl; to = λ r e. e; from = λ r e. e; values = each_refl (λ h. W.value (last_state (R W P Reaches Good runs) m) h.resource) hs; own = refl; counts = each_refl (λ h. m.counts h.resource) hs }

  -- a record alone, or an event alone, of k
  tells_leaves : (m : Machine D) (k j : ℕ) (hs : List Hold) (p : MachineWorker) → (j ≡ k → ⊥) → LeavesOther m (record m { workers = put k p m.workers }) j hs
  tells_leaves m k j hs p n = record { worker = put_else k j p m.workers n; to = λ r e. e; from = λ r e. e; values = each_refl (λ h. W.value (last_state (R W P Reaches Good runs) m) h.resource) hs; own = refl; counts = each_refl (λ h. m.counts h.resource) hs }

  module _ (differs : Differs W P Reaches Good runs) (m : Machine D) (k j : ℕ) (w u : Worker) (b a : View D) (s : Stands W P Reaches Good runs m k w b) (meets : Meets W P Reaches Good w b)
      (good : Good (last_state (R W P Reaches Good runs) m)) (there : nat_lt k P.instances ≡ true) (other : j ≡ k → ⊥) (o : Stands W P Reaches Good runs m j u a) (met : Meets W P Reaches Good u a) where
    abbrev pub next : Machine D
    next = step (R W P Reaches Good runs) m k

    -- what j holds k doesn't
    apart : (r : ℕ) → among r (resources_of a.held) ≡ true → among r (resources_of b.held) ≡ true → ⊥
    apart r e f =
        let x = o.mine r (ap (among r) met.taken ∙ e) in let y = s.mine r (ap (among r) meets.taken ∙ f) in let z : Some j ≡ Some k = sym x ∙ y in
        other (grind (arith, z))

    each_among : (Q : ℕ → Type 0) (hs : List Hold) → ((r : ℕ) → among r (resources_of hs) ≡ true → Q r) → EachHold (λ h. Q h.resource) hs
    each_among Q [] f = tt
    each_among Q (h ∷ hs) f = (f h.resource (first h.resource (resources_of hs)), each_among Q hs (λ r e. f r (more (nat_eq r h.resource) (among r (resources_of hs)) e)))
      where
        first : (r : ℕ) (l : List ℕ) → (if nat_eq r r then true else among r l) ≡ true
        first r l = ap (λ b. if b then true else among r l) (let e : nat_eq r r ≡ true = grind arith in e)

        more : (x y : Bool) → y ≡ true → (if x then true else y) ≡ true
        more true y e = refl
        more false y e = e

    -- of each resource that j holds
    each_resource : (Q : ℕ → Type 0) → ((r : ℕ) → among r (resources_of a.held) ≡ true → W.is_resource r ≡ true → Q r) → EachHold (λ h. Q h.resource) a.held
    each_resource Q f =
        holds.each_map (λ h. (among h.resource (resources_of a.held) ≡ true) × Sound W P Reaches Good h) (λ h. Q h.resource) a.held (λ h e. f h.resource e.0 e.1.3)
        (holds.each_both (λ h. among h.resource (resources_of a.held) ≡ true) (Sound W P Reaches Good) a.held (each_among (λ r. among r (resources_of a.held) ≡ true) a.held (λ r e. e)) met.sound)

    not_there : (r : ℕ) → among r (resources_of a.held) ≡ true → among r (resources_of b.held) ≡ false
    not_there r e = go (among r (resources_of b.held)) refl
      where
        go : (x : Bool) → among r (resources_of b.held) ≡ x → x ≡ false
        go true f = absurd (apart r e f)
        go false f = refl

    count_else : (r c q : ℕ) → among r (resources_of b.held) ≡ true → among q (resources_of a.held) ≡ true → put r c m.counts q ≡ m.counts q
    count_else r c q f e = put_else r q c m.counts (λ z. apart q e (ap (λ i. among i (resources_of b.held)) z ∙ f))

    counts_leave : (r c : ℕ) → among r (resources_of b.held) ≡ true → EachHold (λ h. put r c m.counts h.resource ≡ m.counts h.resource) a.held
    counts_leave r c f = each_among (λ q. put r c m.counts q ≡ m.counts q) a.held (λ q e. count_else r c q f e)

    counted_leaves : (r : ℕ) (p : MachineWorker) → among r (resources_of b.held) ≡ true → LeavesOther m (record (counting m r) { workers = put k p m.workers }) j a.held
    counted_leaves r p f = record { worker = put_else k j p m.workers other; to = λ r e. e; from = λ r e. e; values = each_refl (λ h. W.value (last_state (R W P Reaches Good runs) m) h.resource) a.held; own = refl; counts = counts_leave r (suc (m.counts r)) f }

    pub leaves_other : (v : Worker) (c : View D) (t : Turn) (x : Turned W P w b v c t) → Alone W P Reaches Good runs differs m k w b s meets good there v c t x → LeavesOther m next j a.held
    leaves_other v c t (TIdle ended worker board answer) al = subst (λ n. LeavesOther m n j a.held) (sym (step_idle W P Reaches Good runs m k w b s meets good there ended)) (nothing_left m j a.held)
    leaves_other v c t (TGave r rs giving first gv worker answer) al =
        subst (λ n. LeavesOther m n j a.held) (sym (step_gives W P Reaches Good runs m k w b s meets good there giving ∙ ap (gives m k) first)) (record {
          worker = put_else k j (record (m.workers k) { giving = if is_empty rs then false else true; held = rs }) m.workers other;
          to = λ q e. put_else r q None m.holder (λ z. mine q z e) ∙ e;
          from = λ q e. go q (nat_eq q r) e;
          values = each_refl (λ h. W.value (last_state (R W P Reaches Good runs) m) h.resource) a.held;
          own = refl;
          counts = each_refl (λ h. m.counts h.resource) a.held;
        })
      where
        head : among r w.taken ≡ true
        head = ap (among r) first ∙ ap (λ b. if b then true else among r rs) (let e : nat_eq r r ≡ true = grind arith in e)

        mine : (q : ℕ) → q ≡ r → m.holder q ≡ Some j → ⊥
        mine q z e = let x : Some k ≡ Some j = sym (s.mine r head) ∙ ap m.holder (sym z) ∙ e in other (grind (arith, x))

        go : (q : ℕ) (x : Bool) → (if x then None else m.holder q) ≡ Some j → m.holder q ≡ Some j
        go q true e = absurd (grind (arith, e))
        go q false e = e
    leaves_other v c t (TTook on r leave rest next' new tk worker answer) al =
        subst (λ n. LeavesOther m n j a.held) (sym (step_take W P Reaches Good runs m k w b s meets good there on r leave rest next' new ∙ ap (taking m k r) al.2)) (record {
          worker = put_else k j (record (m.workers k) { done = suc (m.workers k).done; held = (m.workers k).held ++ (r ∷ []) }) m.workers other;
          to = λ q e. put_else r q (Some k) m.holder (λ z. free q z e) ∙ e;
          from = λ q e. go q (nat_eq q r) e;
          values = each_refl (λ h. W.value (last_state (R W P Reaches Good runs) m) h.resource) a.held;
          own = refl;
          counts = each_refl (λ h. m.counts h.resource) a.held;
        })
      where
        free : (q : ℕ) → q ≡ r → m.holder q ≡ Some j → ⊥
        free q z e = let x : None ≡ Some j = sym al.2 ∙ ap m.holder (sym z) ∙ e in grind (arith, x)

        go : (q : ℕ) (x : Bool) → (if x then Some k else m.holder q) ≡ Some j → m.holder q ≡ Some j
        go q true e = absurd (other (let z : k ≡ j = grind (arith, e) in sym z))
        go q false e = e
    leaves_other v c t (THeld on r h leave rest next' new d take board worker answer) al =
        let e = step_take W P Reaches Good runs m k w b s meets good there on r leave rest next' new ∙ ap (taking m k r) al.2 in
        subst (λ n. LeavesOther m n j a.held) (sym e) (go (nat_eq h k) refl)
      where
        go : (x : Bool) → nat_eq h k ≡ x → LeavesOther m (if x then takes m k r else tells m k (Held r h)) j a.held
        go true q = absurd (take.other ((equal_or h k true q).0 refl ∙ sym s.number ∙ sym meets.instance))
        go false q = tells_leaves m k j a.held (with_record (Held r h) (m.workers k)) other
    leaves_other v c t (TOperated on r leave rest next' h held board worker answer) al =
        let old : among r w.taken ≡ true = ap (among r) meets.taken ∙ holds.hold_among b.held r h held in
        subst (λ n. LeavesOther m n j a.held) (sym (step_operate W P Reaches Good runs m k w b s meets good there on r leave rest next' old)) (tells_leaves m k j a.held (record (m.workers k) { done = suc (m.workers k).done }) other)
    leaves_other v c t (TReadied on q ps next' r at h held up board worker answer) al =
        subst (λ n. LeavesOther m n j a.held) (sym (step_pre_commit W P Reaches Good runs m k w b s meets good there on q ps r next' at)) (go (P.fails r (suc (m.counts r))))
      where
        go : (x : Bool) → LeavesOther m (pre_committing m k r x) j a.held
        go true = counted_leaves r (with_record (Down r (suc (m.counts r))) (m.workers k)) (holds.hold_among b.held r h held)
        go false = counted_leaves r (record (m.workers k) { done = suc (m.workers k).done }) (holds.hold_among b.held r h held)
    leaves_other v c t (TDown on q ps next' r at h held down board worker answer) al =
        subst (λ n. LeavesOther m n j a.held) (sym (step_pre_commit W P Reaches Good runs m k w b s meets good there on q ps r next' at)) (go (P.fails r (suc (m.counts r))))
      where
        go : (x : Bool) → LeavesOther m (pre_committing m k r x) j a.held
        go true = counted_leaves r (with_record (Down r (suc (m.counts r))) (m.workers k)) (holds.hold_among b.held r h held)
        go false = counted_leaves r (record (m.workers k) { done = suc (m.workers k).done }) (holds.hold_among b.held r h held)
    leaves_other v c t (TCommitted on q ps next' at n d commits board worker answer) al =
        let RR = R W P Reaches Good runs in let S0 = last_state RR m in
        let e = step_commit W P Reaches Good runs m k w b s meets good there on q ps next' at in
        let is : nat_eq (length m.entries) P.steps ≡ false = not_eq (length m.entries) P.steps al.2 in
        let eff = P.effect k w.own q (changes_of b.held) ps in
        let made = makes W P Reaches Good runs differs m k w b s meets good there on q ps next' in
        let base = bases W P Reaches Good runs differs m k w b s meets good there in
        let end = next_there W P Reaches Good runs w b on q ps next' m.entries (record { values = base; own = ap (W.own S0) (meets.instance ∙ s.number) ∙ s.own ∙ meets.own }) meets good in
        let end' : (section RR m k).end ≡ Next (W.patched S0 eff) ps = (λ i. (P.sect (sym s.number i) (suc (length (s.records i))) S0).end) ∙ end ∙ (λ i. Next (W.patched S0 (P.effect (s.number i) w.own q (changes_of b.held) ps)) ps) in
        let to : e.0 ≡ W.patched S0 eff = next_same e.0 (W.patched S0 eff) ps (sym e.1 ∙ end') in
        let change : P.between k S0 e.0 ps ≡ eff = ap (λ t. P.between k S0 t ps) to ∙ differs.between k S0 w.own q b.held ps made in
        let x : Entry D = record { instance = k; attempt = attempt_of m k; change = P.between k S0 e.0 ps } in
        let m2 : Machine D = appended RR m k e.0 ps in
        let last : last_state RR m2 ≡ W.patched S0 eff = ap (λ l. state_at RR W.start (m.entries ++ (x ∷ [])) l) (one_longer m.entries x) ∙ state_next RR W.start m.entries x ∙ ap (W.patched S0) change in
        subst (λ n. LeavesOther m n j a.held) (sym (e.2 ∙ ap (λ x. committing RR m k x (Next e.0 ps)) is)) (record {
          worker = put_else k j (with_record (Step (suc (length m.entries))) (m.workers k)) m.workers other;
          to = λ r e. e;
          from = λ r e. e;
          values = each_resource (λ r. W.value (last_state RR m2) r ≡ W.value S0 r) (λ r f is_r.
              ap (λ s. W.value s r) last ∙ differs.value k S0 w.own q b.held ps r made is_r ∙ differs.untouched k w.own q b.held ps r (W.value S0 r) (not_there r f));
          own = ap (λ s. W.own s j) last ∙ differs.own_else k j S0 w.own q b.held ps made other;
          counts = each_refl (λ h. m.counts h.resource) a.held;
        })
      where
        not_eq : (a c : ℕ) → (a ≡ c → ⊥) → nat_eq a c ≡ false
        not_eq a c n = go (nat_eq a c) refl
          where
            go : (x : Bool) → nat_eq a c ≡ x → x ≡ false
            go true e = absurd (n ((equal_or a c true e).0 refl))
            go false e = refl

        next_same : (a c : S) (ps : List Data) → Next a ps ≡ Next c ps → a ≡ c
        next_same a c ps e = ap (λ o. of o) e
          where
            of : Outcome S → S
            of (Next t ps) = t
            of (Stuck kind) = a
            of Nowhere = a

        one_longer : (l : List (Entry D)) (e : Entry D) → length (l ++ (e ∷ [])) ≡ suc (length l)
        one_longer l e = let a = length-append l (e ∷ []) in omega (arith, a)
    leaves_other v c t (TFull on q ps next' at n d full board worker answer) al =
        let e = step_commit W P Reaches Good runs m k w b s meets good there on q ps next' at in
        let len : length m.entries ≡ P.steps = ap length (sym (al.0 ∙ s.entries)) ∙ full.is_full ∙ meets.steps in
        let is : nat_eq (length m.entries) P.steps ≡ true = grind (arith, len) in
        subst (λ n. LeavesOther m n j a.held) (sym (e.2 ∙ ap (λ x. committing (R W P Reaches Good runs) m k x (Next e.0 ps)) is)) (tells_leaves m k j a.held (with_record (Full (length m.entries)) (m.workers k)) other)
    leaves_other v c t (TNoted on kind next' n d notes board worker answer) al =
        subst (λ n. LeavesOther m n j a.held) (sym (step_note W P Reaches Good runs m k w b s meets good there on kind next'))
        (record { worker = put_else k j (with_record (Noted kind (length m.entries)) (m.workers k)) m.workers other; to = λ r e. e; from = λ r e. e; values = each_refl (λ h. W.value (last_state (R W P Reaches Good runs) m) h.resource) a.held; own = refl; counts = each_refl (λ h. m.counts h.resource) a.held })
    leaves_other v c t (TJournal on e next' at h d held board worker answer) al = absurd al

    -- so the other stands as before, over a board with the journal as it is now
    pub other_stands : (v : Worker) (c : View D) (t : Turn) (x : Turned W P w b v c t) → Alone W P Reaches Good runs differs m k w b s meets good there v c t x → (z : View D) → z.entries ≡ next.entries → z.notes ≡ next.notes → z.held ≡ a.held
        → Stands W P Reaches Good runs next j u z
    other_stands v c t x al z es ns held = let l = leaves_other v c t x al in stays W P Reaches Good runs m next j u a z o l.worker l.to l.from es ns held l.values l.own l.counts

module _ {S D : Type 0} (W : World S D) (P : Program S D) (Reaches : ℕ → ℕ → Type 0) (Good : S → Type 0) (runs : Runs W P Reaches Good) (differs : Differs W P Reaches Good runs) where
  -- the core: a worker and its board for each instance, which stand for the machine and meet
  pub record IsCore (m : Machine D) (ws : ℕ → Worker) (bs : ℕ → View D) : Type 0 where
    pub stands : (j : ℕ) → nat_lt j P.instances ≡ true → Stands W P Reaches Good runs m j (ws j) (bs j)
    pub meets : (j : ℕ) → nat_lt j P.instances ≡ true → Meets W P Reaches Good (ws j) (bs j)

  -- one turn of k: k's board becomes c; the others see the journal as it is now
  pub record Moved (k : ℕ) (ws vs : ℕ → Worker) (bs cs : ℕ → View D) (v : Worker) (c : View D) (n : Machine D) : Type 0 where
    pub worker : vs k ≡ v
    pub board : cs k ≡ c
    pub workers : (j : ℕ) → (j ≡ k → ⊥) → vs j ≡ ws j
    pub boards : (j : ℕ) → (j ≡ k → ⊥) → Renews W P Reaches Good runs (bs j) (cs j)
    pub entries : (j : ℕ) → (j ≡ k → ⊥) → (cs j).entries ≡ n.entries
    pub notes : (j : ℕ) → (j ≡ k → ⊥) → (cs j).notes ≡ n.notes
    pub room : (j : ℕ) → length (cs j).entries ≤ (cs j).steps

  pub core_turn : ((r n : ℕ) → P.fails r n ≡ true → n < 18446744073709551615) → (m : Machine D) (ws vs : ℕ → Worker) (bs cs : ℕ → View D) (k : ℕ) (v : Worker) (c : View D) (t : Turn) → (core : IsCore m ws bs) → (there : nat_lt k P.instances ≡ true)
      → (good : Good (last_state (R W P Reaches Good runs) m)) → length (bs k).entries ≤ (bs k).steps → (x : Turned W P (ws k) (bs k) v c t)
      → Alone W P Reaches Good runs differs m k (ws k) (bs k) (core.stands k there) (core.meets k there) good there v c t x
      → Moved k ws vs bs cs v c (step (R W P Reaches Good runs) m k) → IsCore (step (R W P Reaches Good runs) m k) vs cs
  core_turn listed m ws vs bs cs k v c t core there good room x al moved = record {
    stands = λ j l. stands j l (nat_eq j k) refl;
    meets = λ j l. meets j l (nat_eq j k) refl;
  }
    where
      next : Machine D
      next = step (R W P Reaches Good runs) m k

      mine : Stands W P Reaches Good runs next k (vs k) (cs k)
      mine = subst (λ v. Stands W P Reaches Good runs next k v (cs k)) (sym moved.worker) (subst (λ c. Stands W P Reaches Good runs next k v c) (sym moved.board) (stepped W P Reaches Good runs differs m k (ws k) (bs k) (core.stands k there) (core.meets k there) good there v c t x al))

      mine_meets : Meets W P Reaches Good (vs k) (cs k)
      mine_meets =
          subst (λ v. Meets W P Reaches Good v (cs k)) (sym moved.worker) (subst (λ c. Meets W P Reaches Good v c) (sym moved.board)
          (kept W P Reaches Good runs listed (ws k) (bs k) v c t room (subst (λ (c : View D). length c.entries ≤ c.steps) moved.board (moved.room k)) x (core.meets k there)))

      stands : (j : ℕ) → nat_lt j P.instances ≡ true → (b : Bool) → nat_eq j k ≡ b → Stands W P Reaches Good runs next j (vs j) (cs j)
      stands j l true e = subst (λ j. Stands W P Reaches Good runs next j (vs j) (cs j)) (sym ((equal_or j k true e).0 refl)) mine
      stands j l false e =
          let n = (equal_or j k false e).1 refl in
          subst (λ v. Stands W P Reaches Good runs next j v (cs j)) (sym (moved.workers j n))
          (other_stands W P Reaches Good runs differs m k j (ws k) (ws j) (bs k) (bs j) (core.stands k there) (core.meets k there) good there n (core.stands j l) (core.meets j l) v c t x al (cs j) (moved.entries j n) (moved.notes j n) (moved.boards j n).held)

      meets : (j : ℕ) → nat_lt j P.instances ≡ true → (b : Bool) → nat_eq j k ≡ b → Meets W P Reaches Good (vs j) (cs j)
      meets j l true e = subst (λ j. Meets W P Reaches Good (vs j) (cs j)) (sym ((equal_or j k true e).0 refl)) mine_meets
      meets j l false e =
          let n = (equal_or j k false e).1 refl in
          subst (λ v. Meets W P Reaches Good v (cs j)) (sym (moved.workers j n)) (renewed_meets W P Reaches Good runs (ws j) (bs j) (cs j) (moved.boards j n) (moved.room j) (core.meets j l))

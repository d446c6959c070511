-- Workers and boards that tell their lists, made along the machine's turns; and where no attempt is under way each refusal has its cause.
use Rattle.std.proofs.Common.{◌≡◌, ◌≤◌, ◌<◌, ◌+◌, ℕ, zero, suc, Bool, true, false, List, [], ◌∷◌, ◌++◌, length, Some, None, refl, sym, ap, ◌∙◌, subst, arith, ◌⊎◌, inl, inr, length-append, lt-ltb}
use Rattle.std.proofs.lemmas.Bool.{ltb-true}
use Rattle.std.specs.Prelude.{if◌then◌else◌, nat_eq, nat_lt}
use Rattle.pgo_model.specs.Accounts.{journal, Contended}
use Rattle.pgo_model.specs.Machine.{Entry, Note, Machine, put, nth, last_state, is_under_way, step, opened, after_turns, finished_of}
use Rattle.pgo_model.specs.MachineLists.{state_below}
use Rattle.pgo_workers.specs.View.{Told, View, World, EachHold, state}
use Rattle.pgo_workers.specs.Worker.{Program, Worker, Phase, Resting, Walking, Giving, is_giving, rules_of}
use Rattle.pgo_workers.specs.Sentences.{Runs}
use Rattle.pgo_workers.specs.Closed.{Seat, OnLog, Boards, contended}
use Rattle.pgo_workers.specs.CoreSteps.{R, Stands, DoneAt}
use Rattle.pgo_workers.specs.CoreStands.{Differs, put_here, put_else, stepped, opened_stands}
use Rattle.pgo_workers.specs.CoreTurns.{IsCore, Moved, core_turn}
use Rattle.pgo_workers.specs.Grown as grown
use Rattle.pgo_workers.specs.Grown.{Renews, opened_meets, on_log}
use Rattle.pgo_core.specs.AllViews.{AllOf, AllNotesOf}
use Rattle.pgo_core.proofs.Journals.{others_of, other_notes_of}
use Rattle.pgo_core.proofs.StepLeaves.{step_rises, turns_rise, step_nobody}
use Rattle.pgo_core.proofs.TurnMade.{Numbered, Settled, TellsMore, Made, made}
use Rattle.pgo_core.proofs.ToldKept.{Keeps, same_or, nth_append, keeps_next}

all_of : {D : Type 0} (k : ℕ) (l : List (Entry D)) (i : ℕ) (e : Entry D) → AllOf k l → nth l i ≡ Some e → e.instance ≡ k
all_of k [] i e a h = absurd (grind (arith, h))
all_of {D} k (x ∷ l) zero e a h = ap (λ (e : Entry D). e.instance) (same x e h) ∙ a.0
  where
    same : (x e : Entry D) → Some x ≡ Some e → e ≡ x
    same x e h = grind (arith, h)
all_of k (x ∷ l) (suc i) e a h = all_of k l i e a.1 h

all_notes_of : (k : ℕ) (l : List Note) (i : ℕ) (e : Note) → AllNotesOf k l → nth l i ≡ Some e → e.instance ≡ k
all_notes_of k [] i e a h = absurd (grind (arith, h))
all_notes_of k (x ∷ l) zero e a h = ap (λ (e : Note). e.instance) (same x e h) ∙ a.0
  where
    same : (x e : Note) → Some x ≡ Some e → e ≡ x
    same x e h = grind (arith, h)
all_notes_of k (x ∷ l) (suc i) e a h = all_notes_of k l i e a.1 h

not_lt : (a b : ℕ) → (a < b → ⊥) → nat_lt a b ≡ false
not_lt a b n = go (nat_lt a b) refl
  where
    go : (x : Bool) → nat_lt a b ≡ x → x ≡ false
    go true e = absurd (n (ltb-true a b e))
    go false e = refl

-- one further at most
below_or : (p a d : ℕ) → p ≤ a + d → d ≤ 1 → (p ≤ a) ⊎ (p ≡ a + d)
below_or p a d l f = go (nat_lt a p) refl
  where
    above : a < p → p ≡ a + d
    above h = omega (arith, h, l, f)

    within : (a < p → ⊥) → p ≤ a
    within h = omega (arith, h)

    go : (b : Bool) → nat_lt a p ≡ b → (p ≤ a) ⊎ (p ≡ a + d)
    go true e = inr (above (ltb-true a p e))
    go false e = inl (within (λ h. let z : true ≡ false = sym (lt-ltb a p h) ∙ e in grind (arith, z)))

module _ {S D : Type 0} (W : World S D) (P : Program S D) (Reaches : ℕ → ℕ → Type 0) (Good : S → Type 0) (runs : Runs W P Reaches Good) (differs : Differs W P Reaches Good runs) where
  -- at a machine: workers and boards that tell their lists
  pub record Stage (m : Machine D) : Type 0 where
    pub ws : ℕ → Worker
    pub bs : ℕ → View D
    pub ts : ℕ → Told
    pub core : IsCore W P Reaches Good runs differs m ws bs
    pub keeps : Keeps W P Reaches Good runs differs m bs ts
    pub told : (j : ℕ) → (bs j).told ≡ Some (ts j)
    pub entries : (j : ℕ) → (bs j).entries ≡ m.entries
    pub notes : (j : ℕ) → (bs j).notes ≡ m.notes
    pub instance : (j : ℕ) → (bs j).instance ≡ j
    pub steps : (j : ℕ) → (bs j).steps ≡ P.steps
    pub numbers : (j : ℕ) → EachHold Numbered (bs j).held
    pub whole : (j : ℕ) → (ws j).dropped ≡ false
    pub place : (j : ℕ) → Settled (ws j).phase
    pub room : length m.entries ≤ P.steps
    pub good : (p : ℕ) → p ≤ length m.entries → Good (state W m.entries p)
    pub entries_of : (p : ℕ) (e : Entry D) → nth m.entries p ≡ Some e → e.instance < P.instances
    pub notes_of : (p : ℕ) (e : Note) → nth m.notes p ≡ Some e → e.instance < P.instances
    pub outside : (j : ℕ) → nat_lt j P.instances ≡ false → (m.workers j).records ≡ []

  module _ (listed : (r n : ℕ) → P.fails r n ≡ true → n < 18446744073709551615) (few : W.is_resource journal ≡ false)
      (m : Machine D) (k : ℕ) (stage : Stage m) (there : nat_lt k P.instances ≡ true) (good_next : Good (last_state (R W P Reaches Good runs) (step (R W P Reaches Good runs) m k)))
      (holders : (r h : ℕ) → m.holder r ≡ Some h → nat_lt h P.instances ≡ true) (small : (r : ℕ) → (step (R W P Reaches Good runs) m k).counts r ≤ 18446744073709551615) where
    abbrev next : Machine D
    next = step (R W P Reaches Good runs) m k

    good_now : Good (last_state (R W P Reaches Good runs) m)
    good_now = stage.good (length m.entries) (omega arith)

    turn : Made W P Reaches Good runs differs m k (stage.ws k) (stage.bs k) (stage.core.stands k there) (stage.core.meets k there) good_now there (stage.ts k) (stage.told k) (subst (λ l. length l ≤ P.steps) (sym (stage.entries k)) stage.room) holders (stage.numbers k) (stage.place k) small
    turn = made W P Reaches Good runs differs m k (stage.ws k) (stage.bs k) (stage.core.stands k there) (stage.core.meets k there) good_now there (stage.ts k) (stage.told k) (subst (λ l. length l ≤ P.steps) (sym (stage.entries k)) stage.room) holders (stage.numbers k) (stage.place k) small

    stands_next : Stands W P Reaches Good runs next k turn.v turn.c
    stands_next = stepped W P Reaches Good runs differs m k (stage.ws k) (stage.bs k) (stage.core.stands k there) (stage.core.meets k there) good_now there turn.v turn.c turn.answer turn.turn turn.alone

    next_entries : next.entries ≡ m.entries ++ turn.entries_more
    next_entries = sym stands_next.entries ∙ turn.entries ∙ ap (λ l. l ++ turn.entries_more) (stage.entries k)

    next_notes : next.notes ≡ m.notes ++ turn.notes_more
    next_notes = sym stands_next.notes ∙ turn.notes ∙ ap (λ l. l ++ turn.notes_more) (stage.notes k)

    -- the others see the journal as it is now
    abbrev seen : ℕ → View D
    seen j = record (stage.bs j) { entries = next.entries; notes = next.notes }

    abbrev vs : ℕ → Worker
    vs = put k turn.v stage.ws

    abbrev cs : ℕ → View D
    cs = put k turn.c seen

    abbrev us : ℕ → Told
    us = put k turn.after stage.ts

    each_board : (Q : ℕ → View D → Type 0) → Q k turn.c → ((j : ℕ) → (j ≡ k → ⊥) → Q j (seen j)) → (j : ℕ) → Q j (cs j)
    each_board Q mine others j = go (same_or j k)
      where
        go : (j ≡ k) ⊎ (j ≡ k → ⊥) → Q j (cs j)
        go (inl e) = subst (λ j. Q j (cs j)) (sym e) (subst (Q k) (sym (put_here k turn.c seen)) mine)
        go (inr n) = subst (Q j) (sym (put_else k j turn.c seen n)) (others j n)

    renews : (j : ℕ) → (j ≡ k → ⊥) → Renews W P Reaches Good runs (stage.bs j) (seen j)
    renews j n = record {
      same = record { instance = refl; resources = refl; steps = refl; share = refl };
      grows = record {
        entries_more = turn.entries_more;
        notes_more = turn.notes_more;
        entries = next_entries ∙ ap (λ l. l ++ turn.entries_more) (sym (stage.entries j));
        notes = next_notes ∙ ap (λ l. l ++ turn.notes_more) (sym (stage.notes j));
        others = others_of k (stage.bs j).instance turn.entries_more turn.entries_of (λ q. n (sym (stage.instance j) ∙ q));
        other_notes = other_notes_of k (stage.bs j).instance turn.notes_more turn.notes_of (λ q. n (sym (stage.instance j) ∙ q));
      };
      held = refl;
      told = refl;
    }

    next_room : length next.entries ≤ P.steps
    next_room = subst (λ l. length l ≤ P.steps) stands_next.entries turn.room

    moved : Moved W P Reaches Good runs differs k stage.ws vs stage.bs cs turn.v turn.c next
    moved = record {
      worker = put_here k turn.v stage.ws;
      board = put_here k turn.c seen;
      workers = λ j n. put_else k j turn.v stage.ws n;
      boards = λ j n. subst (Renews W P Reaches Good runs (stage.bs j)) (sym (put_else k j turn.c seen n)) (renews j n);
      entries = λ j n. ap (λ (c : View D). c.entries) (put_else k j turn.c seen n);
      notes = λ j n. ap (λ (c : View D). c.notes) (put_else k j turn.c seen n);
      room = each_board (λ j c. length c.entries ≤ c.steps)
          (subst (λ n. length turn.c.entries ≤ n) (sym (turn.steps ∙ stage.steps k)) turn.room)
          (λ j n. subst (λ x. length next.entries ≤ x) (sym (stage.steps j)) next_room);
    }

    core_next : IsCore W P Reaches Good runs differs next vs cs
    core_next =
        core_turn W P Reaches Good runs differs listed m stage.ws vs stage.bs cs k turn.v turn.c turn.answer stage.core there good_now
        (subst (λ n. length (stage.bs k).entries ≤ n) (sym (stage.steps k)) (subst (λ l. length l ≤ P.steps) (sym (stage.entries k)) stage.room)) turn.turn turn.alone moved

    told_next : Keeps W P Reaches Good runs differs next cs us
    told_next =
        keeps_next W P Reaches Good runs differs m next k stage.ws stage.bs cs stage.ts stage.core there holders few stage.keeps turn.after
        (subst (λ c. TellsMore W P Reaches Good runs differs m k (stage.bs k) c (stage.ts k) turn.after) (sym (put_here k turn.c seen)) turn.telling)
        (λ j n. ap (λ (c : View D). c.held) (put_else k j turn.c seen n)) turn.entries_more next_entries (step_rises (R W P Reaches Good runs) k m).counts

    good_then : (p : ℕ) → p ≤ length next.entries → Good (state W next.entries p)
    good_then p l = go (below_or p (length m.entries) (length turn.entries_more) (subst (λ n. p ≤ n) len l) turn.one)
      where
        len : length next.entries ≡ length m.entries + length turn.entries_more
        len = ap length next_entries ∙ length-append m.entries turn.entries_more

        go : (p ≤ length m.entries) ⊎ (p ≡ length m.entries + length turn.entries_more) → Good (state W next.entries p)
        go (inl h) = subst Good (sym (ap (λ es. state W es p) next_entries ∙ state_below (R W P Reaches Good runs) W.start m.entries turn.entries_more p h)) (stage.good p h)
        go (inr e) = subst (λ p. Good (state W next.entries p)) (len ∙ sym e) good_next

    k_below : k < P.instances
    k_below = ltb-true k P.instances there

    entries_then : (p : ℕ) (e : Entry D) → nth next.entries p ≡ Some e → e.instance < P.instances
    entries_then p e h = go (nth_append m.entries turn.entries_more p e (ap (λ l. nth l p) (sym next_entries) ∙ h))
      where
        go : (nth m.entries p ≡ Some e) ⊎ ((d : ℕ) × (p ≡ length m.entries + d) × (nth turn.entries_more d ≡ Some e)) → e.instance < P.instances
        go (inl h) = stage.entries_of p e h
        go (inr h) = subst (λ n. n < P.instances) (sym (all_of k turn.entries_more h.0 e turn.entries_of h.2)) k_below

    notes_then : (p : ℕ) (e : Note) → nth next.notes p ≡ Some e → e.instance < P.instances
    notes_then p e h = go (nth_append m.notes turn.notes_more p e (ap (λ l. nth l p) (sym next_notes) ∙ h))
      where
        go : (nth m.notes p ≡ Some e) ⊎ ((d : ℕ) × (p ≡ length m.notes + d) × (nth turn.notes_more d ≡ Some e)) → e.instance < P.instances
        go (inl h) = stage.notes_of p e h
        go (inr h) = subst (λ n. n < P.instances) (sym (all_notes_of k turn.notes_more h.0 e turn.notes_of h.2)) k_below

    whole_then : (j : ℕ) → (vs j).dropped ≡ false
    whole_then j = go (same_or j k)
      where
        go : (j ≡ k) ⊎ (j ≡ k → ⊥) → (vs j).dropped ≡ false
        go (inl e) = ap (λ j. (vs j).dropped) e ∙ ap (λ (w : Worker). w.dropped) (put_here k turn.v stage.ws) ∙ turn.whole ∙ stage.whole k
        go (inr n) = ap (λ (w : Worker). w.dropped) (put_else k j turn.v stage.ws n) ∙ stage.whole j

    place_then : (j : ℕ) → Settled (vs j).phase
    place_then j = go (same_or j k)
      where
        go : (j ≡ k) ⊎ (j ≡ k → ⊥) → Settled (vs j).phase
        go (inl e) = subst (λ j. Settled (vs j).phase) (sym e) (subst (λ (w : Worker). Settled w.phase) (sym (put_here k turn.v stage.ws)) turn.place)
        go (inr n) = subst (λ (w : Worker). Settled w.phase) (sym (put_else k j turn.v stage.ws n)) (stage.place j)

    pub stage_next : Stage next
    stage_next = record {
      ws = vs;
      bs = cs;
      ts = us;
      core = core_next;
      keeps = told_next;
      told = each_board (λ j c. c.told ≡ Some (us j)) (turn.told_is ∙ ap Some (sym (put_here k turn.after stage.ts))) (λ j n. stage.told j ∙ ap Some (sym (put_else k j turn.after stage.ts n)));
      entries = each_board (λ j c. c.entries ≡ next.entries) stands_next.entries (λ j n. refl);
      notes = each_board (λ j c. c.notes ≡ next.notes) stands_next.notes (λ j n. refl);
      instance = each_board (λ j c. c.instance ≡ j) (turn.instance ∙ stage.instance k) (λ j n. stage.instance j);
      steps = each_board (λ j c. c.steps ≡ P.steps) (turn.steps ∙ stage.steps k) (λ j n. stage.steps j);
      numbers = each_board (λ j c. EachHold Numbered c.held) turn.numbers (λ j n. stage.numbers j);
      whole = whole_then;
      place = place_then;
      room = next_room;
      good = good_then;
      entries_of = entries_then;
      notes_of = notes_then;
      outside = λ j o. ap (λ p. p.records) ((step_rises (R W P Reaches Good runs) k m).others j (λ e. let z : true ≡ false = sym there ∙ ap (λ j. nat_lt j P.instances) (sym e) ∙ o in grind (arith, z))) ∙ stage.outside j o;
    }

  abbrev untold_yet : Told
  untold_yet = record { refused = []; takes = []; passed = [] }

  abbrev fresh : ℕ → View D
  fresh j = record { instance = j; resources = 0; steps = P.steps; share = P.attempts; held = []; entries = []; notes = []; told = Some untold_yet; last = None }

  pub stage_opened : Good W.start → Stage opened
  stage_opened good = record {
    ws = grown.opened W P Reaches Good runs;
    bs = fresh;
    ts = λ j. untold_yet;
    core = record {
      stands = λ j l. opened_stands W P Reaches Good runs j (fresh j) refl refl refl;
      meets = λ j l. opened_meets W P Reaches Good runs j (fresh j) (record {
        number = ltb-true j P.instances l;
        instance = refl;
        steps = refl;
        share = omega arith;
        held = refl;
        others = tt;
        other_notes = tt;
        told = λ t e. let q = same untold_yet t e in (ap (λ (t : Told). t.refused) (sym q), ap (λ (t : Told). t.takes) (sym q), ap (λ (t : Told). t.passed) (sym q));
      }) (omega arith);
    };
    keeps = record {
      agrees = λ j x h. absurd h;
      granted = λ j l x h. absurd h;
      named = λ j r h x. absurd x;
      low = λ j i x h. absurd (grind (arith, h));
      held_low = λ j l x h. absurd h;
      once = λ k l i j x h. absurd (grind (arith, h));
    };
    told = λ j. refl;
    entries = λ j. refl;
    notes = λ j. refl;
    instance = λ j. refl;
    steps = λ j. refl;
    numbers = λ j. tt;
    whole = λ j. refl;
    place = λ j. tt;
    room = omega arith;
    good = λ p l. at p;
    entries_of = λ p e h. absurd (grind (arith, h));
    notes_of = λ p e h. absurd (grind (arith, h));
    outside = λ j o. refl;
  }
    where
      same : (a b : Told) → Some a ≡ Some b → a ≡ b
      same a b e = grind arith

      at : (p : ℕ) → Good (state W [] p)
      at zero = good
      at (suc p) = good

  module _ (listed : (k : ℕ) → nat_lt k P.instances ≡ true → (r n : ℕ) → P.fails r n ≡ true → n < 18446744073709551615) (few : W.is_resource journal ≡ false) where
    pub stage_after : (turns : List ℕ) (m : Machine D) → Stage m → ((more : List ℕ) → Good (last_state (R W P Reaches Good runs) (after_turns (R W P Reaches Good runs) m more)))
        → ((more : List ℕ) (r h : ℕ) → (after_turns (R W P Reaches Good runs) m more).holder r ≡ Some h → nat_lt h P.instances ≡ true) → ((r : ℕ) → (after_turns (R W P Reaches Good runs) m turns).counts r ≤ 18446744073709551615)
        → Stage (after_turns (R W P Reaches Good runs) m turns)
    stage_after [] m stage good holders small = stage
    stage_after (k ∷ turns) m stage good holders small =
        stage_after turns (step (R W P Reaches Good runs) m k) (go (nat_lt k P.instances) refl) (λ more. good (k ∷ more)) (λ more. holders (k ∷ more)) small
      where
        least : (r : ℕ) → (step (R W P Reaches Good runs) m k).counts r ≤ 18446744073709551615
        least r = let a = turns_rise (R W P Reaches Good runs) turns (step (R W P Reaches Good runs) m k) r in let b = small r in omega (arith, a, b)

        go : (b : Bool) → nat_lt k P.instances ≡ b → Stage (step (R W P Reaches Good runs) m k)
        go true there = stage_next (listed k there) few m k stage there (good (k ∷ [])) (holders []) least
        go false nobody = subst Stage (sym (step_nobody (R W P Reaches Good runs) k m nobody)) stage

  module _ (few : W.is_resource journal ≡ false) (m : Machine D) (stage : Stage m) (rests : (k : ℕ) → nat_lt k P.instances ≡ true → is_under_way (m.workers k) ≡ false) where
    abbrev seats : ℕ → Seat
    seats k = record { records = (m.workers k).records; told = stage.ts k }

    resting : (k : ℕ) → nat_lt k P.instances ≡ true → (stage.ws k).phase ≡ Resting
    resting k there = go (stage.ws k).phase (stage.core.stands k there).giving (stage.core.stands k there).done (rests k there)
      where
        zero_or : (n : ℕ) (g : Bool) → (if nat_eq n 0 then g else true) ≡ false → (g ≡ false) × (0 < n → ⊥)
        zero_or n g e = by_case (nat_eq n 0) refl e
          where
            not_zero : nat_eq n 0 ≡ true → 0 < n → ⊥
            not_zero e h = let q : n ≡ 0 = grind (arith, e) in omega (arith, h, q)

            by_case : (b : Bool) → nat_eq n 0 ≡ b → (if b then g else true) ≡ false → (g ≡ false) × (0 < n → ⊥)
            by_case true z e = (e, not_zero z)
            by_case false z e = absurd (grind (arith, e))

        go : (p : Phase) → (m.workers k).giving ≡ is_giving p → DoneAt W P Reaches Good runs (stage.ws k) (stage.bs k) p (m.workers k).done → (if nat_eq (m.workers k).done 0 then (m.workers k).giving else true) ≡ false → p ≡ Resting
        go Resting g d e = refl
        go (Walking c j) g d e = absurd ((zero_or (m.workers k).done (m.workers k).giving e).1 d.2)
        go Giving g d e = absurd (let z : true ≡ false = sym g ∙ (zero_or (m.workers k).done (m.workers k).giving e).0 in grind (arith, z))

    on_one : (k : ℕ) → k < P.instances → OnLog W P Reaches Good k m.entries m.notes (seats k)
    on_one k l =
        let there = lt-ltb k P.instances l in let s = stage.core.stands k there in
        subst (λ xs. OnLog W P Reaches Good k m.entries m.notes (record { records = xs; told = stage.ts k })) (sym s.records)
        (subst (λ n. OnLog W P Reaches Good n m.entries m.notes (record { records = (stage.ws k).records; told = stage.ts k })) s.number
        (subst (λ ns. OnLog W P Reaches Good (stage.ws k).number m.entries ns (record { records = (stage.ws k).records; told = stage.ts k })) s.notes
        (subst (λ es. OnLog W P Reaches Good (stage.ws k).number es (stage.bs k).notes (record { records = (stage.ws k).records; told = stage.ts k })) s.entries
        (on_log W P Reaches Good runs (stage.ws k) (stage.bs k) (stage.ts k) (stage.told k) (resting k there) (stage.whole k) (stage.core.meets k there)))))

    boards : Boards W P Reaches Good m.entries m.notes seats
    boards = record {
      room = stage.room;
      entries_numbered = stage.entries_of;
      notes_numbered = stage.notes_of;
      agrees = λ k x l h. stage.keeps.agrees k x h;
      holder = λ k r h l x n. (stage.keeps.named k r h x).1;
      journal_holder = λ k h l x. absurd ((stage.keeps.named k journal h x).0 refl);
      once = stage.keeps.once;
      no_others = λ k n. stage.outside k (not_lt k P.instances n);
    }

    pub stage_contended : Contended (rules_of W P) (finished_of m)
    stage_contended = contended W P Reaches Good runs m.entries m.notes seats boards on_one stage.good (λ k r reach e. let z : true ≡ false = sym (runs.reaches k r reach) ∙ ap W.is_resource e ∙ few in grind (arith, z))

-- One turn of a worker over an exclusive board is a step of the core machine.
use Rattle.std.proofs.Common.{◌≡◌, ◌≤◌, ◌<◌, ℕ, zero, suc, ◌+◌, Bool, true, false, List, [], ◌∷◌, ◌++◌, length, Some, None, refl, sym, ap, ◌∙◌, subst, arith, ◌⊎◌, inl, inr, length-append}
use Rattle.std.specs.Prelude.{if◌then◌else◌, nat_eq, nat_lt}
use Rattle.pgo_base.specs.Data.{Data}
use Rattle.pgo_model.specs.Outcome.{Kind, Outcome, Next}
use Rattle.pgo_model.specs.Machine.{Rules, Machine, Event, Take, Operate, PreCommit, Commit, Noting, among, pre_commits, last_events, events, nth, put, last_ends, attempt_of, goes_on, taking, pre_committing, noting, gives, last_state, section, has_ended, committing, does, step}
use Rattle.pgo_workers.specs.Walk.{Own, End, Goes, Sticks, Walk, Stop, Touch, Again, Agrees, visits, visits_from, ending, ending_from, taken_after}
use Rattle.pgo_workers.specs.View.{Hold, View, World, EachHold, resources_of, values_of}
use Rattle.pgo_workers.specs.Worker.{Program, rules_of, Phase, Resting, Walking, Giving, Worker, attempt, rest_of, readied_of, Goes_on, is_giving}
use Rattle.pgo_workers.specs.Worker as spec
use Rattle.pgo_workers.specs.Sentences.{Place, Under, Meets, Runs}
use Rattle.pgo_workers.specs.Kept.{under, all_taken, before_take, touch_same, stop_touch}
use Rattle.pgo_workers.specs.Holds as holds

-- how many events the accesses p are, of an attempt that has taken `taken`
abbrev pub span : List ℕ → List ℕ → ℕ
span [] taken = 0
span (r ∷ p) taken = if among r taken then suc (span p taken) else suc (suc (span p (taken ++ (r ∷ []))))

-- behind the events of p come those of q
pub events_front : {S : Type 0} (p q taken : List ℕ) (end : Outcome S) (i : ℕ) → nth (events (p ++ q) end taken) (span p taken + i) ≡ nth (events q end (taken_after p taken)) i
events_front [] q taken end i = ap (nth (events q end taken)) (let e : 0 + i ≡ i = omega arith in e)
events_front (r ∷ p) q taken end i = go (among r taken) (events_front p q taken end i) (events_front p q (taken ++ (r ∷ [])) end i)
  where
    one : (n : ℕ) → suc n + i ≡ suc (n + i)
    one n = omega arith

    two : (n : ℕ) → suc (suc n) + i ≡ suc (suc (n + i))
    two n = omega arith

    go : (b : Bool) → nth (events (p ++ q) end taken) (span p taken + i) ≡ nth (events q end (taken_after p taken)) i
        → nth (events (p ++ q) end (taken ++ (r ∷ []))) (span p (taken ++ (r ∷ [])) + i) ≡ nth (events q end (taken_after p (taken ++ (r ∷ [])))) i
        → nth (if b then Operate r ∷ events (p ++ q) end taken else Take r ∷ (Operate r ∷ events (p ++ q) end (taken ++ (r ∷ [])))) ((if b then suc (span p taken) else suc (suc (span p (taken ++ (r ∷ []))))) + i)
        ≡ nth (events q end (if b then taken_after p taken else taken_after p (taken ++ (r ∷ [])))) i
    go true a b = ap (nth (Operate r ∷ events (p ++ q) end taken)) (one (span p taken)) ∙ a
    go false a b = ap (nth (Take r ∷ (Operate r ∷ events (p ++ q) end (taken ++ (r ∷ []))))) (two (span p (taken ++ (r ∷ [])))) ∙ b

-- so many they are
pub span_is : (p taken : List ℕ) → span p taken + length taken ≡ length p + length (taken_after p taken)
span_is [] taken = refl
span_is (r ∷ p) taken = go (among r taken) (span_is p taken) (span_is p (taken ++ (r ∷ [])))
  where
    go : (b : Bool) → span p taken + length taken ≡ length p + length (taken_after p taken) → span p (taken ++ (r ∷ [])) + length (taken ++ (r ∷ [])) ≡ length p + length (taken_after p (taken ++ (r ∷ [])))
        → (if b then suc (span p taken) else suc (suc (span p (taken ++ (r ∷ []))))) + length taken ≡ suc (length p) + length (if b then taken_after p taken else taken_after p (taken ++ (r ∷ [])))
    go true a b = omega (arith, a)
    go false a b = let l = length-append taken (r ∷ []) in omega (arith, b, l)

-- the pre-commits of what is taken, and then the commit
pub pre_commit_at : (l : List ℕ) (j r : ℕ) → nth l j ≡ Some r → nth (pre_commits l) j ≡ Some (PreCommit r)
pre_commit_at [] j r h = absurd (grind (arith, h))
pre_commit_at (x ∷ l) zero r h = let e : x ≡ r = grind (arith, h) in ap (λ x. Some (PreCommit x)) e
pre_commit_at (x ∷ l) (suc j) r h = pre_commit_at l j r h

pub commit_at : (l : List ℕ) (j : ℕ) → nth l j ≡ None → j ≤ length l → nth (pre_commits l) j ≡ Some Commit
commit_at [] zero h b = refl
commit_at [] (suc j) h b = absurd (omega (arith, b))
commit_at (x ∷ l) zero h b = absurd (grind (arith, h))
commit_at (x ∷ l) (suc j) h b = commit_at l j h (omega (arith, b))

module _ {S D : Type 0} (W : World S D) (P : Program S D) (Reaches : ℕ → ℕ → Type 0) (Good : S → Type 0) (runs : Runs W P Reaches Good) where
  abbrev pub R : Rules S D
  R = rules_of W P

  -- the events done, at a place
  abbrev pub DoneAt : Worker → View D → Phase → ℕ → Type 0
  DoneAt w b Resting done = done ≡ 0
  DoneAt w b (Walking c j) done =
      (u : Under W P Reaches Good w b c j) × (done ≡ (length u.accesses + length w.taken) + j) × (0 < done)
  DoneAt w b Giving done = done ≡ 0

  -- a worker and its board stand for instance k of the machine
  pub record Stands (m : Machine D) (k : ℕ) (w : Worker) (b : View D) : Type 0 where
    pub number : w.number ≡ k
    pub entries : b.entries ≡ m.entries
    pub notes : b.notes ≡ m.notes
    pub records : (m.workers k).records ≡ w.records
    pub held : (m.workers k).held ≡ w.taken
    pub giving : (m.workers k).giving ≡ is_giving w.phase
    pub done : DoneAt w b w.phase (m.workers k).done
    pub values : EachHold (λ h. W.value (last_state R m) h.resource ≡ h.value) b.held
    pub own : W.own (last_state R m) k ≡ w.own
    pub counts : EachHold (λ h. m.counts h.resource ≡ h.content.count) b.held
    pub mine : (r : ℕ) → among r w.taken ≡ true → m.holder r ≡ Some k
    pub theirs : (r : ℕ) → m.holder r ≡ Some k → among r w.taken ≡ true

  module _ (m : Machine D) (k : ℕ) (w : Worker) (b : View D) (s : Stands m k w b) (meets : Meets W P Reaches Good w b) (good : Good (last_state R m)) (there : nat_lt k P.instances ≡ true) where
    -- the machine has the instance end where the worker does
    pub ended_as : has_ended R m k ≡ spec.has_ended W P w
    ended_as = go w.phase refl s.giving s.done
      where
        rest : Bool
        rest = if P.is_done w.number w.own then true else if last_ends w.records then true else nat_eq (length w.records) P.attempts

        at_rest : (if P.at_done k (last_state R m) then true else if last_ends (m.workers k).records then true else nat_eq (length (m.workers k).records) P.attempts) ≡ rest
        at_rest =
            (λ i. if (runs.done k (last_state R m) good ∙ (λ j. P.is_done (sym s.number j) (s.own j))) i then true else if last_ends (s.records i) then true else nat_eq (length (s.records i)) P.attempts)

        far : (n : ℕ) → 0 < n → nat_eq n 0 ≡ false
        far n h = grind (arith, h)

        go : (p : Phase) → w.phase ≡ p → (m.workers k).giving ≡ is_giving p → DoneAt w b p (m.workers k).done
            → (if (if nat_eq (m.workers k).done 0 then (m.workers k).giving else true) then false else if P.at_done k (last_state R m) then true else if last_ends (m.workers k).records then true else nat_eq (length (m.workers k).records) P.attempts)
            ≡ (if spec.is_resting p then rest else false)
        go Resting e g d = (λ i. if (if nat_eq (d i) 0 then g i else true) then false else at_rest i)
        go (Walking c j) e g d = ap (λ n. if (if n then (m.workers k).giving else true) then false else if P.at_done k (last_state R m) then true else if last_ends (m.workers k).records then true else nat_eq (length (m.workers k).records) P.attempts) (far (m.workers k).done d.2)
        go Giving e g d = (λ i. if (if nat_eq (d i) 0 then g i else true) then false else if P.at_done k (last_state R m) then true else if last_ends (m.workers k).records then true else nat_eq (length (m.workers k).records) P.attempts)

    -- a step of an ended instance, of one that gives, and of one that goes on
    pub step_idle : spec.has_ended W P w ≡ true → step R m k ≡ m
    step_idle e =
        (λ i. if there i then (if (ended_as ∙ e) i then m else if (m.workers k).giving then gives m k (m.workers k).held else does R m k (nth (events (section R m k).trace (section R m k).end []) (m.workers k).done)) else m)

    pub step_gives : is_giving w.phase ≡ true → step R m k ≡ gives m k w.taken
    step_gives g =
        (λ i. if there i then (if (ended_as ∙ not_ended w.phase g) i then m else if (s.giving ∙ g) i then gives m k (s.held i) else does R m k (nth (events (section R m k).trace (section R m k).end []) (m.workers k).done)) else m)
      where
        not_ended : (p : Phase) → is_giving p ≡ true → (if spec.is_resting p then (if P.is_done w.number w.own then true else if last_ends w.records then true else nat_eq (length w.records) P.attempts) else false) ≡ false
        not_ended Resting e = absurd (grind (arith, e))
        not_ended (Walking c j) e = refl
        not_ended Giving e = refl

    pub step_does : Goes_on W P w → (e : Event) → nth (events (section R m k).trace (section R m k).end []) (m.workers k).done ≡ Some e → step R m k ≡ does R m k (Some e)
    step_does on e h =
        (λ i. if there i then (if (ended_as ∙ on.0) i then m else if (s.giving ∙ on.1) i then gives m k (m.workers k).held else does R m k (h i)) else m)

    -- the attempt that is under way or begins, with the number of its events
    pub record Position : Type 0 where
      pub under : Under W P Reaches Good w b (rest_of W P w w.phase) (readied_of W P w.phase)
      pub done : (m.workers k).done ≡ (length under.accesses + length w.taken) + readied_of W P w.phase

    -- an attempt that begins has accessed nothing
    none_yet : (u : Under W P Reaches Good w b (P.tree w.number (attempt w) w.own) 0) → w.taken ≡ [] → length u.accesses ≡ 0
    none_yet u e = go u.accesses u.holds
      where
        res : resources_of b.held ≡ []
        res = sym meets.taken ∙ e

        clash : (l : List ℕ) (r : ℕ) → l ++ (r ∷ []) ≡ [] → ⊥
        clash [] r e = grind (arith, e)
        clash (x ∷ l) r e = grind (arith, e)

        same : (r : ℕ) → nat_eq r r ≡ true
        same r = grind arith

        none : (l : List ℕ) → taken_after l [] ≡ [] → length l ≡ 0
        none [] e = refl
        none (r ∷ l) e =
            let n = (holds.not_accessed r (r ∷ l) [] (ap (among r) e)).0 in
            let y : true ≡ false = sym (ap (λ b. if b then true else among r l) (same r)) ∙ n in absurd (grind (arith, y))

        go : (l : List ℕ) → (taken_after l [] ≡ resources_of b.held)
            ⊎ ((r : ℕ) × (leave : Data → Data) × (rest : Data → Walk) × (P.tree w.number (attempt w) w.own ≡ Touch r leave rest) × (taken_after l [] ++ (r ∷ []) ≡ resources_of b.held) × (among r l ≡ false)) → length l ≡ 0
        go l (inl q) = none l (q ∙ res)
        go l (inr q) = absurd (clash (taken_after l []) q.0 (q.4 ∙ res))

    pub place : Goes_on W P w → Position
    place on = go w.phase refl s.done on.1 (under W P Reaches Good runs w b meets on) meets.place
      where
        sum : (d a t : ℕ) → d ≡ 0 → a ≡ 0 → t ≡ 0 → d ≡ (a + t) + 0
        sum d a t e f g = omega (arith, e, f, g)

        back : (p : Phase) → w.phase ≡ p → (u : Under W P Reaches Good w b (rest_of W P w p) (readied_of W P p)) → (m.workers k).done ≡ (length u.accesses + length w.taken) + readied_of W P p → Position
        back p e u d =
            subst (λ p. (u : Under W P Reaches Good w b (rest_of W P w p) (readied_of W P p)) → (m.workers k).done ≡ (length u.accesses + length w.taken) + readied_of W P p → Position) e (λ u d. record { under = u; done = d }) u d

        go : (p : Phase) → w.phase ≡ p → DoneAt w b p (m.workers k).done → is_giving p ≡ false → Under W P Reaches Good w b (rest_of W P w w.phase) (readied_of W P w.phase) → Place W P Reaches Good w b w.phase
            → Position
        go Resting e d g u q =
            let u' : Under W P Reaches Good w b (P.tree w.number (attempt w) w.own) 0 = subst (λ p. Under W P Reaches Good w b (rest_of W P w p) (readied_of W P p)) e u in
            let t : w.taken ≡ [] = subst (Place W P Reaches Good w b) e q in
            back Resting e u' (sum (m.workers k).done (length u'.accesses) (length w.taken) d (none_yet u' t) (ap length t))
        go (Walking c j) e d g u q = back (Walking c j) e d.0 d.1
        go Giving e d g u q = absurd (grind (arith, g))

    -- the section of the machine's state, as the worker walks it
    own_is : W.own (last_state R m) w.number ≡ w.own
    own_is = ap (W.own (last_state R m)) s.number ∙ s.own

    attempt_is : attempt_of m k ≡ attempt w
    attempt_is = ap (λ l. suc (length l)) s.records

    agrees : (hs : List Hold) → EachHold (λ h. W.value (last_state R m) h.resource ≡ h.value) hs → Agrees (values_of hs) (W.value (last_state R m))
    agrees [] e = tt
    agrees (h ∷ hs) e = (e.0, agrees hs e.1)

    pub trace_is : (section R m k).trace ≡ visits (P.tree w.number (attempt w) w.own) (W.value (last_state R m))
    trace_is = runs.trace k (attempt_of m k) (last_state R m) good ∙ (λ i. visits (P.tree (sym s.number i) (attempt_is i) (s.own i)) (W.value (last_state R m)))

    -- what comes after the accesses of a place
    pub event_at : (p : Position) (i : ℕ) → (g : ℕ → Data) × (nth (events (section R m k).trace (section R m k).end []) (span p.under.accesses [] + i) ≡ nth (events (visits_from (W.value (last_state R m)) (rest_of W P w w.phase) g) (section R m k).end (taken_after p.under.accesses [])) i)
    event_at p i =
        let q = p.under.along (W.value (last_state R m)) (agrees b.held s.values) in
        (q.0, ap (λ l. nth (events l (section R m k).end []) (span p.under.accesses [] + i)) (trace_is ∙ q.1.trace) ∙ events_front p.under.accesses (visits_from (W.value (last_state R m)) (rest_of W P w w.phase) q.0) [] (section R m k).end i)

    number : k < P.instances
    number = subst (λ k. k < P.instances) s.number meets.number

    not_done : Position → P.at_done k (last_state R m) ≡ false
    not_done p = runs.done k (last_state R m) good ∙ (λ i. P.is_done (sym s.number i) (s.own i)) ∙ p.under.not_done

    end_is : (p : Position) (e : End) → rest_of W P w w.phase ≡ Stop e → ending (P.tree k (attempt_of m k) (W.own (last_state R m) k)) (W.value (last_state R m)) ≡ e
    end_is p e is =
        let q = p.under.along (W.value (last_state R m)) (agrees b.held s.values) in
        (λ i. ending (P.tree (sym s.number i) (attempt_is i) (s.own i)) (W.value (last_state R m))) ∙ q.1.ends ∙ ap (λ x. ending_from (W.value (last_state R m)) x q.0) is

    -- the next event, in each case
    not_ready : (p : Position) (r : ℕ) (leave : Data → Data) (rest : Data → Walk) → rest_of W P w w.phase ≡ Touch r leave rest → readied_of W P w.phase ≡ 0
    not_ready p r leave rest is = go p.under.readied_at
      where
        go : (readied_of W P w.phase ≡ 0) ⊎ ((o : Own) × (ps : List Data) × (rest_of W P w w.phase ≡ Stop (Goes o ps))) → readied_of W P w.phase ≡ 0
        go (inl e) = e
        go (inr e) = absurd (stop_touch (Goes e.0 e.1) r leave rest (sym e.2 ∙ is))

    take_next : (p : Position) (r : ℕ) (leave : Data → Data) (rest : Data → Walk) → rest_of W P w w.phase ≡ Touch r leave rest → among r w.taken ≡ false → nth (events (section R m k).trace (section R m k).end []) (m.workers k).done ≡ Some (Take r)
    take_next p r leave rest is new =
        let own : taken_after p.under.accesses [] ≡ w.taken = before_take W P Reaches Good runs w b (rest_of W P w w.phase) (readied_of W P w.phase) r leave rest is (ap (among r) (sym meets.taken) ∙ new) p.under ∙ sym meets.taken in
        let e = event_at p 0 in
        let n : (m.workers k).done ≡ span p.under.accesses [] + 0 = (let a = span_is p.under.accesses [] in let z = not_ready p r leave rest is in let d = p.done in let l = ap length own in omega (arith, a, z, d, l)) in
        ap (nth (events (section R m k).trace (section R m k).end [])) n ∙ e.1 ∙ ap (λ x. nth (events (visits_from (W.value (last_state R m)) x e.0) (section R m k).end (taken_after p.under.accesses [])) 0) is
        ∙ ap (λ b. nth (if b then Operate r ∷ events (visits_from (W.value (last_state R m)) (rest (e.0 r)) (put r (leave (e.0 r)) e.0)) (section R m k).end (taken_after p.under.accesses [])
        else Take r ∷ (Operate r ∷ events (visits_from (W.value (last_state R m)) (rest (e.0 r)) (put r (leave (e.0 r)) e.0)) (section R m k).end (taken_after p.under.accesses [] ++ (r ∷ [])))) 0) (ap (among r) own ∙ new)

    operate_next : (p : Position) (r : ℕ) (leave : Data → Data) (rest : Data → Walk) → rest_of W P w w.phase ≡ Touch r leave rest → among r w.taken ≡ true → nth (events (section R m k).trace (section R m k).end []) (m.workers k).done ≡ Some (Operate r)
    operate_next p r leave rest is old = go p.under.holds
      where
        zero_ready : readied_of W P w.phase ≡ 0
        zero_ready = not_ready p r leave rest is

        unseen : (l : List ℕ) → among r l ≡ false → among r (taken_after l []) ≡ false
        unseen l n = by_case (among r (taken_after l [])) refl
          where
            by_case : (b : Bool) → among r (taken_after l []) ≡ b → b ≡ false
            by_case true e = let y : true ≡ false = sym (holds.accessed r l [] e (λ z. let q : true ≡ false = sym z in absurd (grind (arith, q)))) ∙ n in absurd (grind (arith, y))
            by_case false e = refl

        go : (taken_after p.under.accesses [] ≡ resources_of b.held)
            ⊎ ((q : ℕ) × (leave : Data → Data) × (rest : Data → Walk) × (rest_of W P w w.phase ≡ Touch q leave rest) × (taken_after p.under.accesses [] ++ (q ∷ []) ≡ resources_of b.held) × (among q p.under.accesses ≡ false))
            → nth (events (section R m k).trace (section R m k).end []) (m.workers k).done ≡ Some (Operate r)
        go (inl own) =
            let e = event_at p 0 in
            let n : (m.workers k).done ≡ span p.under.accesses [] + 0 = (let a = span_is p.under.accesses [] in let z = zero_ready in let d = p.done in let l = ap length (own ∙ sym meets.taken) in omega (arith, a, z, d, l)) in
            ap (nth (events (section R m k).trace (section R m k).end [])) n ∙ e.1 ∙ ap (λ x. nth (events (visits_from (W.value (last_state R m)) x e.0) (section R m k).end (taken_after p.under.accesses [])) 0) is
            ∙ ap (λ b. nth (if b then Operate r ∷ events (visits_from (W.value (last_state R m)) (rest (e.0 r)) (put r (leave (e.0 r)) e.0)) (section R m k).end (taken_after p.under.accesses [])
            else Take r ∷ (Operate r ∷ events (visits_from (W.value (last_state R m)) (rest (e.0 r)) (put r (leave (e.0 r)) e.0)) (section R m k).end (taken_after p.under.accesses [] ++ (r ∷ [])))) 0) (ap (among r) (own ∙ sym meets.taken) ∙ old)
        go (inr q) =
            let e = event_at p 1 in
            let r' : q.0 ≡ r = touch_same q.0 r q.1 leave q.2 rest (sym q.3 ∙ is) in
            let fresh : among r (taken_after p.under.accesses []) ≡ false = unseen p.under.accesses (ap (λ i. among i p.under.accesses) (sym r') ∙ q.5) in
            let n : (m.workers k).done ≡ span p.under.accesses [] + 1 = (let a = span_is p.under.accesses [] in let z = zero_ready in let d = p.done in let l = ap length (q.4 ∙ sym meets.taken) in let x = length-append (taken_after p.under.accesses []) (q.0 ∷ []) in omega (arith, a, z, d, l, x)) in
            ap (nth (events (section R m k).trace (section R m k).end [])) n ∙ e.1 ∙ ap (λ x. nth (events (visits_from (W.value (last_state R m)) x e.0) (section R m k).end (taken_after p.under.accesses [])) 1) is
            ∙ ap (λ b. nth (if b then Operate r ∷ events (visits_from (W.value (last_state R m)) (rest (e.0 r)) (put r (leave (e.0 r)) e.0)) (section R m k).end (taken_after p.under.accesses [])
            else Take r ∷ (Operate r ∷ events (visits_from (W.value (last_state R m)) (rest (e.0 r)) (put r (leave (e.0 r)) e.0)) (section R m k).end (taken_after p.under.accesses [] ++ (r ∷ [])))) 1) fresh

    -- behind the accesses of a section that has ended
    last_next : (p : Position) (e : End) → rest_of W P w w.phase ≡ Stop e → nth (events (section R m k).trace (section R m k).end []) (m.workers k).done ≡ nth (last_events (section R m k).end w.taken) (readied_of W P w.phase)
    last_next p e is =
        let own : taken_after p.under.accesses [] ≡ w.taken = all_taken W P Reaches Good runs w b (rest_of W P w w.phase) (readied_of W P w.phase) e is p.under ∙ sym meets.taken in
        let q = event_at p (readied_of W P w.phase) in
        let n : (m.workers k).done ≡ span p.under.accesses [] + readied_of W P w.phase = (let a = span_is p.under.accesses [] in let d = p.done in let l = ap length own in omega (arith, a, d, l)) in
        ap (nth (events (section R m k).trace (section R m k).end [])) n ∙ q.1 ∙ ap (λ x. nth (events (visits_from (W.value (last_state R m)) x q.0) (section R m k).end (taken_after p.under.accesses [])) (readied_of W P w.phase)) is
        ∙ ap (λ l. nth (last_events (section R m k).end l) (readied_of W P w.phase)) own

    next_end : (p : Position) (o : Own) (ps : List Data) → rest_of W P w w.phase ≡ Stop (Goes o ps) → (t : S) × ((section R m k).end ≡ Next t ps)
    next_end p o ps is = (_, runs.next k (attempt_of m k) (last_state R m) o ps good number (not_done p) (end_is p (Goes o ps) is))

    pre_commit_next : (p : Position) (o : Own) (ps : List Data) (r : ℕ) → rest_of W P w w.phase ≡ Stop (Goes o ps) → nth w.taken (readied_of W P w.phase) ≡ Some r → nth (events (section R m k).trace (section R m k).end []) (m.workers k).done ≡ Some (PreCommit r)
    pre_commit_next p o ps r is at = let t = next_end p o ps is in last_next p (Goes o ps) is ∙ ap (λ e. nth (last_events e w.taken) (readied_of W P w.phase)) t.1 ∙ pre_commit_at w.taken (readied_of W P w.phase) r at

    commit_next : (p : Position) (o : Own) (ps : List Data) → rest_of W P w w.phase ≡ Stop (Goes o ps) → nth w.taken (readied_of W P w.phase) ≡ None → nth (events (section R m k).trace (section R m k).end []) (m.workers k).done ≡ Some Commit
    commit_next p o ps is at = let t = next_end p o ps is in last_next p (Goes o ps) is ∙ ap (λ e. nth (last_events e w.taken) (readied_of W P w.phase)) t.1 ∙ commit_at w.taken (readied_of W P w.phase) at p.under.readied_below

    note_next : (p : Position) (kind : Kind) → rest_of W P w w.phase ≡ Stop (Sticks kind) → nth (events (section R m k).trace (section R m k).end []) (m.workers k).done ≡ Some (Noting kind)
    note_next p kind is =
        last_next p (Sticks kind) is ∙ ap (λ e. nth (last_events e w.taken) (readied_of W P w.phase)) (runs.stuck k (attempt_of m k) (last_state R m) kind good number (not_done p) (end_is p (Sticks kind) is)) ∙ ap (nth (Noting kind ∷ [])) (go p.under.readied_at)
      where
        go : (readied_of W P w.phase ≡ 0) ⊎ ((o : Own) × (ps : List Data) × (rest_of W P w w.phase ≡ Stop (Goes o ps))) → readied_of W P w.phase ≡ 0
        go (inl e) = e
        go (inr e) = absurd (clash (sym is ∙ e.2))
          where
            ends : Walk → End
            ends (Stop e) = e
            ends (Touch r leave rest) = Sticks kind
            ends (Again w) = Sticks kind

            goes : End → Bool
            goes (Goes o ps) = true
            goes (Sticks kind) = false

            clash : {o : Own} {ps : List Data} → Stop (Sticks kind) ≡ Stop (Goes o ps) → ⊥
            clash q = let y : false ≡ true = ap (λ w. goes (ends w)) q in grind (arith, y)

    -- the machine's step, in each case
    pub step_take : (on : Goes_on W P w) (r : ℕ) (leave : Data → Data) (rest : Data → Walk) → rest_of W P w w.phase ≡ Touch r leave rest → among r w.taken ≡ false → step R m k ≡ taking m k r (m.holder r)
    step_take on r leave rest is new = step_does on (Take r) (take_next (place on) r leave rest is new)

    pub step_operate : (on : Goes_on W P w) (r : ℕ) (leave : Data → Data) (rest : Data → Walk) → rest_of W P w w.phase ≡ Touch r leave rest → among r w.taken ≡ true → step R m k ≡ goes_on m k
    step_operate on r leave rest is old = step_does on (Operate r) (operate_next (place on) r leave rest is old)

    pub step_pre_commit : (on : Goes_on W P w) (o : Own) (ps : List Data) (r : ℕ) → rest_of W P w w.phase ≡ Stop (Goes o ps) → nth w.taken (readied_of W P w.phase) ≡ Some r → step R m k ≡ pre_committing m k r (P.fails r (suc (m.counts r)))
    step_pre_commit on o ps r is at = step_does on (PreCommit r) (pre_commit_next (place on) o ps r is at)

    pub step_commit : (on : Goes_on W P w) (o : Own) (ps : List Data) → rest_of W P w w.phase ≡ Stop (Goes o ps) → nth w.taken (readied_of W P w.phase) ≡ None
        → (t : S) × ((section R m k).end ≡ Next t ps) × (step R m k ≡ committing R m k (nat_eq (length m.entries) P.steps) (Next t ps))
    step_commit on o ps is at =
        let p = place on in let t = next_end p o ps is in
        (t.0, t.1, step_does on Commit (commit_next p o ps is at) ∙ ap (committing R m k (nat_eq (length m.entries) P.steps)) t.1)

    pub step_note : (on : Goes_on W P w) (kind : Kind) → rest_of W P w w.phase ≡ Stop (Sticks kind) → step R m k ≡ noting m k kind
    step_note on kind is = step_does on (Noting kind) (note_next (place on) kind is)

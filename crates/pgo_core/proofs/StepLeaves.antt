-- What a step of the machine leaves: counts only rise, and the other instances are as they were.
use Rattle.std.proofs.Common.{◌≡◌, ◌≤◌, ℕ, suc, Bool, true, false, List, [], ◌∷◌, Option, Some, None, refl, sym, ap, ◌∙◌, subst, arith}
use Rattle.std.specs.Prelude.{if◌then◌else◌, nat_eq, nat_lt}
use Rattle.pgo_model.specs.Outcome.{Outcome, Next, Stuck, Nowhere}
use Rattle.pgo_model.specs.Machine.{Rules, Machine, Worker, Held, Event, Take, Operate, PreCommit, Commit, Noting, events, put, nth, section, has_ended, tells, takes, taking, pre_committing, committing, does, gives, step, after_turns}
use Rattle.pgo_model.specs.MachineAccounts.{equal_or}
use Rattle.pgo_workers.specs.CoreStands.{put_else}

module _ {S D : Type 0} (R : Rules S D) where
  pub record Rises (k : ℕ) (m n : Machine D) : Type 0 where
    pub counts : (r : ℕ) → m.counts r ≤ n.counts r
    pub others : (j : ℕ) → (j ≡ k → ⊥) → n.workers j ≡ m.workers j

  same_rises : (k : ℕ) (m : Machine D) → Rises k m m
  same_rises k m = record { counts = λ r. omega arith; others = λ j n. refl }

  worker_rises : (k : ℕ) (m n : Machine D) (p : Worker) → n.counts ≡ m.counts → n.workers ≡ put k p m.workers → Rises k m n
  worker_rises k m n p e f = record { counts = λ r. (let q = ap (λ c. c r) e in omega (arith, q)); others = λ j z. ap (λ w. w j) f ∙ put_else k j p m.workers z }

  counted_rises : (k r : ℕ) (m n : Machine D) (p : Worker) → n.counts ≡ put r (suc (m.counts r)) m.counts → n.workers ≡ put k p m.workers → Rises k m n
  counted_rises k r m n p e f = record { counts = λ q. subst (λ c. m.counts q ≤ c q) (sym e) (go q (nat_eq q r) refl); others = λ j z. ap (λ w. w j) f ∙ put_else k j p m.workers z }
    where
      more : (a b : ℕ) → a ≡ b → a ≤ suc b
      more a b e = omega (arith, e)

      go : (q : ℕ) (b : Bool) → nat_eq q r ≡ b → m.counts q ≤ (if b then suc (m.counts r) else m.counts q)
      go q true e = more (m.counts q) (m.counts r) (ap m.counts ((equal_or q r true e).0 refl))
      go q false e = omega arith

  taking_rises : (k r : ℕ) (m : Machine D) (o : Option ℕ) → Rises k m (taking m k r o)
  taking_rises k r m None = worker_rises k m (takes m k r) _ refl refl
  taking_rises k r m (Some h) = go (nat_eq h k)
    where
      go : (b : Bool) → Rises k m (if b then takes m k r else tells m k (Held r h))
      go true = worker_rises k m (takes m k r) _ refl refl
      go false = worker_rises k m (tells m k (Held r h)) _ refl refl

  pre_committing_rises : (k r : ℕ) (m : Machine D) (b : Bool) → Rises k m (pre_committing m k r b)
  pre_committing_rises k r m true = counted_rises k r m (pre_committing m k r true) _ refl refl
  pre_committing_rises k r m false = counted_rises k r m (pre_committing m k r false) _ refl refl

  gives_rises : (k : ℕ) (m : Machine D) (l : List ℕ) → Rises k m (gives m k l)
  gives_rises k m [] = same_rises k m
  gives_rises k m (r ∷ rs) = worker_rises k m (gives m k (r ∷ rs)) _ refl refl

  committing_rises : (k : ℕ) (m : Machine D) (b : Bool) (o : Outcome S) → Rises k m (committing R m k b o)
  committing_rises k m b (Stuck kind) = same_rises k m
  committing_rises k m b Nowhere = same_rises k m
  committing_rises k m true (Next t ps) = worker_rises k m (committing R m k true (Next t ps)) _ refl refl
  committing_rises k m false (Next t ps) = worker_rises k m (committing R m k false (Next t ps)) _ refl refl

  does_rises : (k : ℕ) (m : Machine D) (v : Option Event) → Rises k m (does R m k v)
  does_rises k m None = same_rises k m
  does_rises k m (Some (Take r)) = taking_rises k r m (m.holder r)
  does_rises k m (Some (Operate r)) = worker_rises k m (does R m k (Some (Operate r))) _ refl refl
  does_rises k m (Some (PreCommit r)) = pre_committing_rises k r m (R.fails r (suc (m.counts r)))
  does_rises k m (Some Commit) = committing_rises k m _ (section R m k).end
  does_rises k m (Some (Noting kind)) = worker_rises k m (does R m k (Some (Noting kind))) _ refl refl

  pub step_rises : (k : ℕ) (m : Machine D) → Rises k m (step R m k)
  step_rises k m = go (nat_lt k R.instances) (has_ended R m k) (m.workers k).giving
    where
      go : (n a b : Bool) → Rises k m (if n then (if a then m else if b then gives m k (m.workers k).held else does R m k (nth (events (section R m k).trace (section R m k).end []) (m.workers k).done)) else m)
      go false a b = same_rises k m
      go true true b = same_rises k m
      go true false true = gives_rises k m (m.workers k).held
      go true false false = does_rises k m (nth (events (section R m k).trace (section R m k).end []) (m.workers k).done)

  pub turns_rise : (turns : List ℕ) (m : Machine D) (r : ℕ) → m.counts r ≤ (after_turns R m turns).counts r
  turns_rise [] m r = omega arith
  turns_rise (k ∷ turns) m r = let a = (step_rises k m).counts r in let b = turns_rise turns (step R m k) r in omega (arith, a, b)

  -- a turn of nobody
  pub step_nobody : (k : ℕ) (m : Machine D) → nat_lt k R.instances ≡ false → step R m k ≡ m
  step_nobody k m e = ap (λ b. if b then (if has_ended R m k then m else if (m.workers k).giving then gives m k (m.workers k).held else does R m k (nth (events (section R m k).trace (section R m k).end []) (m.workers k).done)) else m) e

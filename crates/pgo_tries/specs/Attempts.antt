-- An attempt tries its choices one after another until one isn't Blocked.
use Rattle.std.proofs.Common.{◌≡◌, ℕ, zero, suc, Bool, true, false, List, [], ◌∷◌, ◌++◌, Option, Some, None, refl, ap, arith}
use Rattle.std.specs.Prelude.{if◌then◌else◌}
use Rattle.std.specs.List.{AllByRecursion}
use Rattle.pgo_base.specs.Data.{Data}
pub use Rattle.pgo_model.specs.Outcome.{is_blocked}
use Rattle.pgo_model.specs.Outcome.{Kind, Blocked, NoValue, AssertFails, Many, most_leaves, Outcome, Next, Stuck, Nowhere, Section}
use Rattle.pgo_model.specs.System.{Words}
use Rattle.pgo_tries.specs.Chosen.{ChoiceMade, turned}
use Rattle.pgo_tries.specs.Outcomes as outcomes
use Rattle.pgo_tries.specs.Outcomes.{Result, tried_on}
use Rattle.pgo_tries.specs.Sections.{along, Run, tries}

-- what a section does with words of choice, and the choices that it made, the first first
pub record Tried (R S : Type 0) : Type 0 where
  pub section : Section R S
  pub points : List ChoiceMade

-- the section, and behind it that of the next leaf
abbrev pub then_next : {R S : Type 0} → Section R S → (List ℕ → Section R S) → Option (List ℕ) → Section R S
then_next x f None = x
then_next x f (Some q) = record { trace = x.trace ++ (f q).trace; end = (f q).end }

-- The leaves from the path p on, as many as `room` at most, up to the first that isn't Blocked: their traces joined, and the last
-- one's outcome; Many where there is a further one.
abbrev pub try_from : {R S : Type 0} → (Words → Tried R S) → Words → (room : ℕ) → List ℕ → Section R S
try_from run w zero p = record { trace = []; end = Stuck Many }
try_from run w (suc room) p =
    let l = run (along 0 p w) in if is_blocked l.section.end then then_next l.section (λ q. try_from run w room q) (turned w 0 l.points) else l.section

abbrev pub Try : {R S : Type 0} → (Words → Tried R S) → Words → Section R S
Try run w = try_from run w most_leaves []

-- ---- laws

abbrev pub ends_of : {R S : Type 0} → (Words → Tried R S) → Run (Outcome S)
ends_of run w = let l = run w in (l.points, l.section.end)

abbrev pub outcome_of : {S : Type 0} → Result (Outcome S) → Outcome S
outcome_of (outcomes.Found e) = e
outcome_of outcomes.AllBlocked = Stuck Blocked
outcome_of outcomes.Many = Stuck Many

pub blocked_is : {S : Type 0} (o : Outcome S) → is_blocked o ≡ true → o ≡ Stuck Blocked
blocked_is (Next t ps) h = absurd (grind (arith, h))
blocked_is (Stuck Blocked) h = refl
blocked_is (Stuck NoValue) h = absurd (grind (arith, h))
blocked_is (Stuck AssertFails) h = absurd (grind (arith, h))
blocked_is (Stuck Many) h = absurd (grind (arith, h))
blocked_is Nowhere h = absurd (grind (arith, h))

module _ {R S : Type 0} (run : Words → Tried R S) where
  -- what the leaves say of the outcome
  pub try_outcome : (w : Words) (room : ℕ) (p : List ℕ) → (try_from run w room p).end ≡ outcome_of (tries is_blocked (ends_of run) w room p)
  try_outcome w zero p = refl
  try_outcome w (suc room) p = go (run (along 0 p w)).section (is_blocked (run (along 0 p w)).section.end) refl (turned w 0 (run (along 0 p w)).points) (λ q. try_outcome w room q)
    where
      go : (x : Section R S) (b : Bool) → is_blocked x.end ≡ b → (o : Option (List ℕ)) → ((q : List ℕ) → (try_from run w room q).end ≡ outcome_of (tries is_blocked (ends_of run) w room q))
          → (if b then then_next x (λ q. try_from run w room q) o else x).end ≡ outcome_of (if b then tried_on (λ q. tries is_blocked (ends_of run) w room q) o else outcomes.Found x.end)
      go x true e None ih = blocked_is x.end e
      go x true e (Some q) ih = ih q
      go x false e o ih = refl

  -- where an attempt goes on, one of its leaves does: the section with the words along a path
  pub try_leaf : (w : Words) (room : ℕ) (p : List ℕ) (t : S) (ps : List Data) → (try_from run w room p).end ≡ Next t ps → (q : List ℕ) × ((run (along 0 q w)).section.end ≡ Next t ps)
  try_leaf w zero p t ps h = absurd (no_next Many h)
    where
      no_next : (k : Kind) → Stuck k ≡ Next t ps → ⊥
      no_next k h = let x : true ≡ false = ap is_stuck h in grind (arith, x)
        where
          is_stuck : Outcome S → Bool
          is_stuck (Next t ps) = false
          is_stuck (Stuck k) = true
          is_stuck Nowhere = false
  try_leaf w (suc room) p t ps h = go (is_blocked (run (along 0 p w)).section.end) refl (turned w 0 (run (along 0 p w)).points) (λ q. try_leaf w room q t ps) h
    where
      x : Section R S
      x = (run (along 0 p w)).section

      go : (b : Bool) → is_blocked x.end ≡ b → (o : Option (List ℕ)) → ((q : List ℕ) → (try_from run w room q).end ≡ Next t ps → (q : List ℕ) × ((run (along 0 q w)).section.end ≡ Next t ps))
          → (if b then then_next x (λ q. try_from run w room q) o else x).end ≡ Next t ps → (q : List ℕ) × ((run (along 0 q w)).section.end ≡ Next t ps)
      go true e None ih h = (p, h)
      go true e (Some q) ih h = ih q h
      go false e o ih h = (p, h)

  -- what all leaves access
  pub try_trace : (P : R → Type 0) (w : Words) (room : ℕ) (p : List ℕ) → ((v : Words) → AllByRecursion P (run v).section.trace) → AllByRecursion P (try_from run w room p).trace
  try_trace P w zero p a = tt
  try_trace P w (suc room) p a = go (is_blocked (run (along 0 p w)).section.end) (turned w 0 (run (along 0 p w)).points) (λ q. try_trace P w room q a)
    where
      x : Section R S
      x = (run (along 0 p w)).section

      both : (l m : List R) → AllByRecursion P l → AllByRecursion P m → AllByRecursion P (l ++ m)
      both [] m h k = k
      both (y ∷ l) m h k = (h.0, both l m h.1 k)

      go : (b : Bool) (o : Option (List ℕ)) → ((q : List ℕ) → AllByRecursion P (try_from run w room q).trace) → AllByRecursion P (if b then then_next x (λ q. try_from run w room q) o else x).trace
      go true None ih = a (along 0 p w)
      go true (Some q) ih = both x.trace (try_from run w room q).trace (a (along 0 p w)) (ih q)
      go false o ih = a (along 0 p w)

-- What shows an end.
use Rattle.std.proofs.Common.{◌≡◌, Bool, true, false, List, [], ◌∷◌, Option, Some, None, refl, ap, arith}
use Rattle.std.specs.Prelude.{if◌then◌else◌}
use Rattle.pgo_model.specs.Core.{End, end_by, end_or_spent}
use Rattle.pgo_model.specs.Core as core
use Rattle.pgo_model.specs.Machine.{Record, Step, Noted, Held, Down, Full, last_ends}
use Rattle.pgo_model.specs.Outcome.{Blocked, NoValue, AssertFails, Many}

-- a last record that ends an instance shows an end
shows_end : (xs : List Record) → last_ends xs ≡ true → (e : End) × (end_by xs ≡ Some e)
shows_end [] h = absurd (grind (arith, h))
shows_end (Step n ∷ []) h = absurd (grind (arith, h))
shows_end (Noted Blocked p ∷ []) h = absurd (grind (arith, h))
shows_end (Noted NoValue p ∷ []) h = (core.Stopped, refl)
shows_end (Noted AssertFails p ∷ []) h = (core.Stopped, refl)
shows_end (Noted Many p ∷ []) h = absurd (grind (arith, h))
shows_end (Held r o ∷ []) h = absurd (grind (arith, h))
shows_end (Down r o ∷ []) h = absurd (grind (arith, h))
shows_end (Full n ∷ []) h = (core.JournalFull, refl)
shows_end (Step n ∷ (y ∷ xs)) h = shows_end (y ∷ xs) h
shows_end (Noted Blocked p ∷ (y ∷ xs)) h = shows_end (y ∷ xs) h
shows_end (Noted NoValue p ∷ (y ∷ xs)) h = shows_end (y ∷ xs) h
shows_end (Noted AssertFails p ∷ (y ∷ xs)) h = shows_end (y ∷ xs) h
shows_end (Noted Many p ∷ (y ∷ xs)) h = shows_end (y ∷ xs) h
shows_end (Held r o ∷ (y ∷ xs)) h = shows_end (y ∷ xs) h
shows_end (Down r o ∷ (y ∷ xs)) h = shows_end (y ∷ xs) h
shows_end (Full n ∷ (y ∷ xs)) h = shows_end (y ∷ xs) h

-- so an instance that is done, or whose last record ends it, or that has made all its attempts, has an end
pub has_end : (d : Bool) (xs : List Record) (n : Bool) → (if d then true else if last_ends xs then true else n) ≡ true → (e : End) × ((if d then Some core.Done else end_or_spent (end_by xs) n) ≡ Some e)
has_end true xs n h = (core.Done, refl)
has_end false xs n h = go (last_ends xs) refl h
  where
    spent : (o : Option End) (n : Bool) → n ≡ true → (e : End) × (end_or_spent o n ≡ Some e)
    spent (Some e) n h = (e, refl)
    spent None true h = (core.Spent, refl)
    spent None false h = absurd (grind (arith, h))

    go : (b : Bool) → last_ends xs ≡ b → (if b then true else n) ≡ true → (e : End) × (end_or_spent (end_by xs) n ≡ Some e)
    go true q h = let e = shows_end xs q in (e.0, ap (λ o. end_or_spent o n) e.1)
    go false q h = spent (end_by xs) n h

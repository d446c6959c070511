-- What the last record of an account shows.
use Rattle.std.proofs.Common.{◌≡◌, Bool, true, false, List, [], ◌∷◌, Option, Some, None, refl, ap, ◌∙◌}
use Rattle.std.specs.Prelude.{option_map, if◌then◌else◌}
use Rattle.pgo_model.specs.Core as core
use Rattle.pgo_model.specs.Machine.{Record, Step, Noted, Held, Down, Full}
use Rattle.pgo_model.specs.Outcome.{Blocked, NoValue, AssertFails, Many}
use Rattle.pgo_syntax.proofs.Ends.{end_by_last}
use Rattle.pgo_log_write.specs.IsFinished.{ended}
use Rattle.pgo_log_write.specs.Status.{is_done}

-- a last record never shows that an instance is at Done
spent_by : (o : Option core.End) (b : Bool) → is_done (option_map ended o) ≡ false → is_done (option_map ended (core.end_or_spent o b)) ≡ false
spent_by None true h = refl
spent_by None false h = refl
spent_by (Some e) b h = h

one_shown : (x : Record) → is_done (option_map ended (core.end_by (x ∷ []))) ≡ false
one_shown (Step n) = refl
one_shown (Noted Blocked p) = refl
one_shown (Noted NoValue p) = refl
one_shown (Noted AssertFails p) = refl
one_shown (Noted Many p) = refl
one_shown (Held r h) = refl
one_shown (Down r o) = refl
one_shown (Full n) = refl

shown : (l : List Record) → is_done (option_map ended (core.end_by l)) ≡ false
shown [] = refl
shown (x ∷ []) = one_shown x
shown (x ∷ (z ∷ l)) = ap (λ o. is_done (option_map ended o)) (end_by_last x z l) ∙ shown (z ∷ l)

pub done_is : (b : Bool) (l : List Record) (spent : Bool) → is_done (option_map ended (if b then Some core.Done else core.end_or_spent (core.end_by l) spent)) ≡ b
done_is true l spent = refl
done_is false l spent = spent_by (core.end_by l) spent (shown l)

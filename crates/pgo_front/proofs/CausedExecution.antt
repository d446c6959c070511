-- Which status each cause gives where the words ask for a run.
use Rattle.std.proofs.Common.{◌≤◌, ◌<◌, inl, inr, ℕ, List, length, Option, refl, sym, subst}
use Rattle.pgo_io.specs.Faults.{Rose}
use Rattle.pgo_base.specs.Data.{Data}
use Rattle.pgo_base.specs.Lookup.{Name}
use Rattle.pgo_accept.specs.Answers.{IsExpandable}
use Rattle.pgo_execute.specs.Schedules.{Schedule}
use Rattle.pgo_front.specs.declared.status.Status.{Status}
use Rattle.pgo_front.specs.declared.status.Status.TheVariants as status
use Rattle.pgo_model.specs.Core.{Settings}
use Rattle.pgo_front.specs.Asked.{AsksCheck, AsksMigration}
use Rattle.pgo_front.specs.Spells.{most_bytes}
use Rattle.pgo_front.specs.Answers.{AsksNothing, AsksSomeExecution, AsksSomeLoad, AsksSomeTranslation, Asked, IsRefused, WritesBundle, EndsWell, WritesPrefix, Stops, OrNoMemory, IsRunOrNoMemory, IsToldToExecute}
use Rattle.pgo_front.proofs.Caused.{Says, at_told, not_short}
use Rattle.pgo_front.proofs.Asking.{execution_no_check, execution_no_load, execution_no_migration, execution_something, translation_no_execution}

module _ (words : List (List ℕ)) (input : Option (List ℕ)) (before now : ℕ) (out_before out_now : ℕ) (old new : Option (List ℕ)) (schedule : Schedule) (settings : Settings) (text : List ℕ) (consts : List (Name × Data)) (told : IsToldToExecute schedule settings words input consts text) (read : Rose before now → ⊥) where
  this_run : AsksSomeExecution words
  this_run = (schedule, settings, consts, told.asks)

  no_check : {A : Type 0} → AsksCheck words → A
  no_check check = absurd (execution_no_check words this_run check)

  no_load : {A : Type 0} → AsksSomeLoad words → A
  no_load a = absurd (execution_no_load words this_run a)

  no_translation : {A : Type 0} → AsksSomeTranslation words → A
  no_translation a = absurd (translation_no_execution words a this_run)

  no_migration : {A : Type 0} → AsksMigration words → A
  no_migration a = absurd (execution_no_migration words this_run a)

  -- words that ask for this aren't refused for a bundle
  no_bundle : {A : Type 0} → Stops words input before now status.BadBundle → A
  no_bundle (inl h) = no_check h.0
  no_bundle (inr h) = no_migration h.0

  not_usage : {A : Type 0} → AsksNothing words → A
  not_usage nothing = absurd (execution_something words this_run nothing)

  abbrev Made : Type 0
  Made = (n : ℕ) × (written : List ℕ) × Asked words text n written

  made : (n : ℕ) → WritesBundle words input n old new → Made
  made n h = let g = at_told input text _ told.told h.1 in (n, g.0, g.1)

  fine_made : EndsWell words input old new → Made
  fine_made (inl h) = made 0 h
  fine_made (inr (inl h)) = no_check h.0
  fine_made (inr (inr (inl h))) = no_translation h.0
  fine_made (inr (inr (inr (inl h)))) = no_load (h.1.size, h.1.asks)
  fine_made (inr (inr (inr (inr h)))) = no_migration h.0

  fault_made : WritesPrefix words input old new → Made
  fault_made (inl h) = let g = at_told input text _ told.told h.1 in (g.0, g.1, g.2)
  fault_made (inr (inl h)) = no_check h.0
  fault_made (inr (inr (inl h))) = no_translation h.0
  fault_made (inr (inr (inr (inl h)))) = no_load (h.1.size, h.1.asks)
  fault_made (inr (inr (inr (inr h)))) = no_migration h.0

  refused_text : Stops words input before now status.SpecRefused → IsRefused words text
  refused_text (inl h) = at_told input text (IsRefused words) told.told h.1
  refused_text (inr (inl h)) = no_translation h.0
  refused_text (inr (inr h)) = no_load (h.size, h.asks)

  long_text : Stops words input before now status.TooLong → most_bytes < length text
  long_text (inl h) = at_told input text (λ t. most_bytes < length t) told.told h.1
  long_text (inr (inl h)) = no_check h.0
  long_text (inr (inr (inl h))) = no_translation h.0
  long_text (inr (inr (inr h))) = no_migration h.0

  -- what is run isn't refused with the constants that the words ask for
  was_expandable : Made → IsExpandable text consts
  was_expandable m =
      let a = m.2 in let x = a.runs.executes in
      subst (IsExpandable text) (sym (a.no_others schedule settings consts told.asks).2) (x.spec, x.spells, x.passes)

  not_refused : IsRefused words text → IsExpandable text consts → ⊥
  not_refused n x = n.refused (subst (IsExpandable text) (n.no_others schedule settings consts told.asks).2 x)

  -- a text that is too long
  pub too_long_comes : (s : Status) → Says words input before now out_before out_now old new s → most_bytes < length text → OrNoMemory s status.TooLong
  too_long_comes status.Fine h long = absurd (not_short long (fine_made (h.fine refl)).2.short)
  too_long_comes status.Usage h long = not_usage (h.stopped tt)
  too_long_comes status.SpecRefused h long = absurd (not_short long (refused_text (h.stopped tt)).short)
  too_long_comes status.ReadFault h long = absurd (read (h.stopped tt).1)
  too_long_comes status.WriteFault h long = absurd (not_short long (fault_made (h.prefix refl)).2.short)
  too_long_comes status.TooLong h long = inl refl
  too_long_comes status.Stopped h long = absurd (not_short long (made 20 (h.halted refl)).2.short)
  too_long_comes status.Spent h long = absurd (not_short long (made 21 (h.spent refl)).2.short)
  too_long_comes status.Quiet h long = absurd (not_short long (made 22 (h.quiet refl)).2.short)
  too_long_comes status.Full h long = absurd (not_short long (made 23 (h.full refl)).2.short)
  too_long_comes status.NotARun h long = no_check (h.not_a_run refl).0
  too_long_comes status.BadBundle h long = no_bundle (h.stopped tt)
  too_long_comes status.NoMemory h long = inr refl

  -- a text that has no run
  pub refused_comes : (s : Status) → Says words input before now out_before out_now old new s → length text ≤ most_bytes → (IsExpandable text consts → ⊥)
      → OrNoMemory s status.SpecRefused
  refused_comes status.Fine h short none = absurd (none (was_expandable (fine_made (h.fine refl))))
  refused_comes status.Usage h short none = not_usage (h.stopped tt)
  refused_comes status.SpecRefused h short none = inl refl
  refused_comes status.ReadFault h short none = absurd (read (h.stopped tt).1)
  refused_comes status.WriteFault h short none = absurd (none (was_expandable (fault_made (h.prefix refl))))
  refused_comes status.TooLong h short none = absurd (not_short (long_text (h.stopped tt)) short)
  refused_comes status.Stopped h short none = absurd (none (was_expandable (made 20 (h.halted refl))))
  refused_comes status.Spent h short none = absurd (none (was_expandable (made 21 (h.spent refl))))
  refused_comes status.Quiet h short none = absurd (none (was_expandable (made 22 (h.quiet refl))))
  refused_comes status.Full h short none = absurd (none (was_expandable (made 23 (h.full refl))))
  refused_comes status.NotARun h short none = no_check (h.not_a_run refl).0
  refused_comes status.BadBundle h short none = no_bundle (h.stopped tt)
  refused_comes status.NoMemory h short none = inr refl

  -- a text that has one
  pub run_comes : (s : Status) → Says words input before now out_before out_now old new s → (Rose out_before out_now → ⊥) → length text ≤ most_bytes → IsExpandable text consts
      → IsRunOrNoMemory s
  run_comes status.Fine h wrote short x = inl refl
  run_comes status.Usage h wrote short x = not_usage (h.stopped tt)
  run_comes status.SpecRefused h wrote short x = absurd (not_refused (refused_text (h.stopped tt)) x)
  run_comes status.ReadFault h wrote short x = absurd (read (h.stopped tt).1)
  run_comes status.WriteFault h wrote short x = absurd (wrote (h.write_fault refl))
  run_comes status.TooLong h wrote short x = absurd (not_short (long_text (h.stopped tt)) short)
  run_comes status.Stopped h wrote short x = inr (inl refl)
  run_comes status.Spent h wrote short x = inr (inr (inl refl))
  run_comes status.Quiet h wrote short x = inr (inr (inr (inl refl)))
  run_comes status.Full h wrote short x = inr (inr (inr (inr (inl refl))))
  run_comes status.NotARun h wrote short x = no_check (h.not_a_run refl).0
  run_comes status.BadBundle h wrote short x = no_bundle (h.stopped tt)
  run_comes status.NoMemory h wrote short x = inr (inr (inr (inr (inr refl))))

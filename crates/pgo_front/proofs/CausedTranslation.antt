-- Which status each cause gives where the words ask for a translation.
use Rattle.std.proofs.Common.{◌≤◌, ◌<◌, inl, inr, ℕ, List, length, Option, refl, sym, subst}
use Rattle.pgo_io.specs.Faults.{Rose}
use Rattle.pgo_base.specs.Data.{Data}
use Rattle.pgo_base.specs.Lookup.{Name}
use Rattle.pgo_accept.specs.Answers.{IsExpandable}
use Rattle.pgo_front.specs.declared.status.Status.{Status}
use Rattle.pgo_front.specs.declared.status.Status.TheVariants as status
use Rattle.pgo_front.specs.declared.target.Target.{Target}
use Rattle.pgo_front.specs.declared.target.Target.TheVariants as targets
use Rattle.pgo_front.specs.Asked.{AsksCheck, AsksMigration}
use Rattle.pgo_front.specs.Spells.{most_bytes}
use Rattle.pgo_front.specs.Translations.{TranslatesTo, Translated, NotTranslated}
use Rattle.pgo_front.specs.Answers.{AsksNothing, AsksSomeExecution, AsksSomeLoad, AsksSomeTranslation, EndsWell, WritesPrefix, Stops, OrNoMemory, IsToldToTranslate}
use Rattle.pgo_front.proofs.Caused.{Says, at_told, not_short}
use Rattle.pgo_front.proofs.Asking.{translation_no_check, translation_no_execution, translation_no_load, translation_no_migration, translation_something}

-- what is translated can be expanded
expandable : (target : Target) (text : List ℕ) (consts : List (Name × Data)) (written : List ℕ) → TranslatesTo target text consts written → IsExpandable text consts
expandable targets.Expansion text consts written x = (x.spec, x.spells, x.passes)
expandable targets.Module text consts written x = (x.spec, x.spells, x.passes)

module _ (words : List (List ℕ)) (input : Option (List ℕ)) (before now : ℕ) (out_before out_now : ℕ) (old new : Option (List ℕ)) (target : Target) (text : List ℕ) (consts : List (Name × Data)) (told : IsToldToTranslate target words input consts text) (read : Rose before now → ⊥) where
  this_translation : AsksSomeTranslation words
  this_translation = (target, consts, told.asks)

  no_run : {A : Type 0} → AsksSomeExecution words → A
  no_run run = absurd (translation_no_execution words this_translation run)

  no_load : {A : Type 0} → AsksSomeLoad words → A
  no_load a = absurd (translation_no_load words this_translation a)

  no_check : {A : Type 0} → AsksCheck words → A
  no_check check = absurd (translation_no_check words this_translation check)

  no_migration : {A : Type 0} → AsksMigration words → A
  no_migration a = absurd (translation_no_migration words this_translation a)

  -- words that ask for this aren't refused for a bundle
  no_bundle : {A : Type 0} → Stops words input before now status.BadBundle → A
  no_bundle (inl h) = no_check h.0
  no_bundle (inr h) = no_migration h.0

  not_usage : {A : Type 0} → AsksNothing words → A
  not_usage nothing = absurd (translation_something words this_translation nothing)

  abbrev Made : Type 0
  Made = (written : List ℕ) × Translated words text written

  fine_made : EndsWell words input old new → Made
  fine_made (inl h) = no_run h.0
  fine_made (inr (inl h)) = no_check h.0
  fine_made (inr (inr (inr (inl h)))) = no_load (h.1.size, h.1.asks)
  fine_made (inr (inr (inr (inr h)))) = no_migration h.0
  fine_made (inr (inr (inl h))) = let g = at_told input text _ told.told h.1 in (g.0, g.1)

  fault_made : WritesPrefix words input old new → Made
  fault_made (inl h) = no_run h.0
  fault_made (inr (inl h)) = no_check h.0
  fault_made (inr (inr (inr (inl h)))) = no_load (h.1.size, h.1.asks)
  fault_made (inr (inr (inr (inr h)))) = no_migration h.0
  fault_made (inr (inr (inl h))) = let g = at_told input text _ told.told h.1 in (g.0, g.1)

  refused_text : Stops words input before now status.SpecRefused → NotTranslated words text
  refused_text (inl h) = no_run h.0
  refused_text (inr (inr h)) = no_load (h.size, h.asks)
  refused_text (inr (inl h)) = at_told input text (NotTranslated words) told.told h.1

  long_text : Stops words input before now status.TooLong → most_bytes < length text
  long_text (inl h) = no_run h.0
  long_text (inr (inl h)) = no_check h.0
  long_text (inr (inr (inl h))) = at_told input text (λ t. most_bytes < length t) told.told h.1
  long_text (inr (inr (inr h))) = no_migration h.0

  -- what is translated isn't refused with the constants that the words ask for
  was_expandable : Made → IsExpandable text consts
  was_expandable m =
      subst (IsExpandable text) (sym (m.1.no_others target consts told.asks).1) (expandable m.1.target text m.1.consts m.0 m.1.translates)

  not_refused : NotTranslated words text → IsExpandable text consts → ⊥
  not_refused n x = n.refused (subst (IsExpandable text) (n.no_others target consts told.asks).1 x)

  -- a text that is too long
  pub too_long_to_translate_comes : (s : Status) → Says words input before now out_before out_now old new s → most_bytes < length text → OrNoMemory s status.TooLong
  too_long_to_translate_comes status.Fine h long = absurd (not_short long (fine_made (h.fine refl)).1.short)
  too_long_to_translate_comes status.Usage h long = not_usage (h.stopped tt)
  too_long_to_translate_comes status.SpecRefused h long = absurd (not_short long (refused_text (h.stopped tt)).short)
  too_long_to_translate_comes status.ReadFault h long = absurd (read (h.stopped tt).1)
  too_long_to_translate_comes status.WriteFault h long = absurd (not_short long (fault_made (h.prefix refl)).1.short)
  too_long_to_translate_comes status.TooLong h long = inl refl
  too_long_to_translate_comes status.Stopped h long = no_run (h.halted refl).0
  too_long_to_translate_comes status.Spent h long = no_run (h.spent refl).0
  too_long_to_translate_comes status.Quiet h long = no_run (h.quiet refl).0
  too_long_to_translate_comes status.Full h long = no_run (h.full refl).0
  too_long_to_translate_comes status.NotARun h long = no_check (h.not_a_run refl).0
  too_long_to_translate_comes status.BadBundle h long = no_bundle (h.stopped tt)
  too_long_to_translate_comes status.NoMemory h long = inr refl

  -- a text that has no translation
  pub not_translated_comes : (s : Status) → Says words input before now out_before out_now old new s → length text ≤ most_bytes → (IsExpandable text consts → ⊥)
      → OrNoMemory s status.SpecRefused
  not_translated_comes status.Fine h short none = absurd (none (was_expandable (fine_made (h.fine refl))))
  not_translated_comes status.Usage h short none = not_usage (h.stopped tt)
  not_translated_comes status.SpecRefused h short none = inl refl
  not_translated_comes status.ReadFault h short none = absurd (read (h.stopped tt).1)
  not_translated_comes status.WriteFault h short none = absurd (none (was_expandable (fault_made (h.prefix refl))))
  not_translated_comes status.TooLong h short none = absurd (not_short (long_text (h.stopped tt)) short)
  not_translated_comes status.Stopped h short none = no_run (h.halted refl).0
  not_translated_comes status.Spent h short none = no_run (h.spent refl).0
  not_translated_comes status.Quiet h short none = no_run (h.quiet refl).0
  not_translated_comes status.Full h short none = no_run (h.full refl).0
  not_translated_comes status.NotARun h short none = no_check (h.not_a_run refl).0
  not_translated_comes status.BadBundle h short none = no_bundle (h.stopped tt)
  not_translated_comes status.NoMemory h short none = inr refl

  -- a text that has one
  pub translates_comes : (s : Status) → Says words input before now out_before out_now old new s → (Rose out_before out_now → ⊥) → length text ≤ most_bytes → IsExpandable text consts
      → OrNoMemory s status.Fine
  translates_comes status.Fine h wrote short x = inl refl
  translates_comes status.Usage h wrote short x = not_usage (h.stopped tt)
  translates_comes status.SpecRefused h wrote short x = absurd (not_refused (refused_text (h.stopped tt)) x)
  translates_comes status.ReadFault h wrote short x = absurd (read (h.stopped tt).1)
  translates_comes status.WriteFault h wrote short x = absurd (wrote (h.write_fault refl))
  translates_comes status.TooLong h wrote short x = absurd (not_short (long_text (h.stopped tt)) short)
  translates_comes status.Stopped h wrote short x = no_run (h.halted refl).0
  translates_comes status.Spent h wrote short x = no_run (h.spent refl).0
  translates_comes status.Quiet h wrote short x = no_run (h.quiet refl).0
  translates_comes status.Full h wrote short x = no_run (h.full refl).0
  translates_comes status.NotARun h wrote short x = no_check (h.not_a_run refl).0
  translates_comes status.BadBundle h wrote short x = no_bundle (h.stopped tt)
  translates_comes status.NoMemory h wrote short x = inr refl

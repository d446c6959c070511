-- Which status each cause gives: by exclusion of the others, from what each status says.
use Rattle.std.proofs.Common.{◌≡◌, ◌≤◌, ◌<◌, ◌⊎◌, inl, inr, ℕ, List, length, Option, Some, IfSome, refl, subst, arith}
use Rattle.pgo_io.specs.Faults.{Rose}
use Rattle.pgo_base.specs.Data.{Data}
use Rattle.pgo_base.specs.Lookup.{Name}
use Rattle.pgo_model.specs.Module.{Module}
use Rattle.pgo_bundle.specs.BundleLog.{BundleLog, checked_log}
use Rattle.pgo_model.specs.IsRun.{IsRun}
use Rattle.pgo_check.specs.declared.verdict.Verdict.{Verdict}
use Rattle.pgo_log_text.specs.ReadBundle.{IsReadBundle, IsNoBundle}
use Rattle.pgo_front.specs.declared.status.Status.{Status}
use Rattle.pgo_front.specs.declared.status.Status.TheVariants as status
use Rattle.pgo_front.specs.Spells.{most_bytes}
use Rattle.pgo_front.specs.Verdicts.{most_bundle_bytes, IsRunVerdict, IsBadVerdict}
use Rattle.pgo_front.specs.Answers.{AsksNothing, AsksOfInput, AsksSomeExecution, AsksSomeLoad, AsksSomeTranslation, WritesBundle, Checked, WritesVerdict, EndsWell, WritesPrefix, Stops, IsRefusal, OrNoMemory, IsToldToCheck}
use Rattle.pgo_front.proofs.Judging.{run_is_not_bad, no_run_is_not_run}
use Rattle.pgo_front.specs.Asked.{AsksMigration}
use Rattle.pgo_front.proofs.Asking.{execution_no_check, translation_no_check, check_no_load, check_no_migration, input_something, load_something}

-- what an input told is what holds of its text
pub at_told : (input : Option (List ℕ)) (text : List ℕ) (P : List ℕ → Type 0) → input ≡ Some text → IfSome input P → P text
at_told input text P told h = subst (λ o. IfSome o P) told h

pub not_short : {n : ℕ} → most_bytes < n → n ≤ most_bytes → ⊥
not_short long short = omega (arith, long, short)

pub not_short_bundle : {n : ℕ} → most_bundle_bytes < n → n ≤ most_bundle_bytes → ⊥
not_short_bundle long short = omega (arith, long, short)

-- words that ask for something don't ask for nothing
not_nothing : (words : List (List ℕ)) → AsksOfInput words ⊎ AsksSomeLoad words → AsksNothing words → ⊥
not_nothing words (inl a) nothing = input_something words a nothing
not_nothing words (inr a) nothing = load_something words a nothing

module _ (words : List (List ℕ)) (input : Option (List ℕ)) (before now : ℕ) (out_before out_now : ℕ) (old new : Option (List ℕ)) where
  -- what the statuses say of a call
  pub record Says (s : Status) : Type 0 where
    pub fine : s ≡ status.Fine → EndsWell words input old new
    pub halted : s ≡ status.Stopped → WritesBundle words input 20 old new
    pub spent : s ≡ status.Spent → WritesBundle words input 21 old new
    pub quiet : s ≡ status.Quiet → WritesBundle words input 22 old new
    pub full : s ≡ status.Full → WritesBundle words input 23 old new
    pub not_a_run : s ≡ status.NotARun → WritesVerdict words input IsBadVerdict old new
    pub stopped : IsRefusal s → Stops words input before now s
    pub write_fault : s ≡ status.WriteFault → Rose out_before out_now
    pub prefix : s ≡ status.WriteFault → WritesPrefix words input old new

  abbrev Something : Type 0
  Something = AsksOfInput words ⊎ AsksSomeLoad words

  fine_asks : EndsWell words input old new → Something
  fine_asks (inl h) = inl (inl h.0)
  fine_asks (inr (inl h)) = inl (inr (inl h.0))
  fine_asks (inr (inr (inl h))) = inl (inr (inr (inl h.0)))
  fine_asks (inr (inr (inr (inl h)))) = inr (h.1.size, h.1.asks)
  fine_asks (inr (inr (inr (inr h)))) = inl (inr (inr (inr h.0)))

  fault_asks : WritesPrefix words input old new → Something
  fault_asks (inl h) = inl (inl h.0)
  fault_asks (inr (inl h)) = inl (inr (inl h.0))
  fault_asks (inr (inr (inl h))) = inl (inr (inr (inl h.0)))
  fault_asks (inr (inr (inr (inl h)))) = inr (h.1.size, h.1.asks)
  fault_asks (inr (inr (inr (inr h)))) = inl (inr (inr (inr h.0)))

  refused_asks : Stops words input before now status.SpecRefused → Something
  refused_asks (inl h) = inl (inl h.0)
  refused_asks (inr (inl h)) = inl (inr (inr (inl h.0)))
  refused_asks (inr (inr h)) = inr (h.size, h.asks)

  -- words that ask for nothing
  pub usage_comes : (s : Status) → Says s → AsksNothing words → OrNoMemory s status.Usage
  usage_comes status.Fine h nothing = absurd (not_nothing words (fine_asks (h.fine refl)) nothing)
  usage_comes status.Usage h nothing = inl refl
  usage_comes status.SpecRefused h nothing = absurd (not_nothing words (refused_asks (h.stopped tt)) nothing)
  usage_comes status.ReadFault h nothing = absurd (not_nothing words (inl (h.stopped tt).0) nothing)
  usage_comes status.WriteFault h nothing = absurd (not_nothing words (fault_asks (h.prefix refl)) nothing)
  usage_comes status.TooLong h nothing = absurd (not_nothing words (long_asks (h.stopped tt)) nothing)
    where
      long_asks : Stops words input before now status.TooLong → Something
      long_asks (inl h) = inl (inl h.0)
      long_asks (inr (inl h)) = inl (inr (inl h.0))
      long_asks (inr (inr (inl h))) = inl (inr (inr (inl h.0)))
      long_asks (inr (inr (inr h))) = inl (inr (inr (inr h.0)))
  usage_comes status.Stopped h nothing = absurd (not_nothing words (inl (inl (h.halted refl).0)) nothing)
  usage_comes status.Spent h nothing = absurd (not_nothing words (inl (inl (h.spent refl).0)) nothing)
  usage_comes status.Quiet h nothing = absurd (not_nothing words (inl (inl (h.quiet refl).0)) nothing)
  usage_comes status.Full h nothing = absurd (not_nothing words (inl (inl (h.full refl).0)) nothing)
  usage_comes status.NotARun h nothing = absurd (not_nothing words (inl (inr (inl (h.not_a_run refl).0))) nothing)
  usage_comes status.BadBundle h nothing = absurd (not_nothing words (bad_asks (h.stopped tt)) nothing)
    where
      bad_asks : Stops words input before now status.BadBundle → Something
      bad_asks (inl h) = inl (inr (inl h.0))
      bad_asks (inr h) = inl (inr (inr (inr h.0)))
  usage_comes status.NoMemory h nothing = inr refl

  module _ (text : List ℕ) (told : IsToldToCheck words input text) (read : Rose before now → ⊥) where
    no_run : {A : Type 0} → AsksSomeExecution words → A
    no_run run = absurd (execution_no_check words run told.asks)

    not_translation : {A : Type 0} → AsksSomeTranslation words → A
    not_translation a = absurd (translation_no_check words a told.asks)

    not_load : {A : Type 0} → AsksSomeLoad words → A
    not_load a = absurd (check_no_load words told.asks a)

    no_migration : {A : Type 0} → AsksMigration words → A
    no_migration a = absurd (check_no_migration words told.asks a)

    -- words that ask for a check aren't refused for a specification
    not_refused_spec : {A : Type 0} → Stops words input before now status.SpecRefused → A
    not_refused_spec (inl h) = no_run h.0
    not_refused_spec (inr (inl h)) = not_translation h.0
    not_refused_spec (inr (inr h)) = not_load (h.size, h.asks)

    found : (Wanted : Verdict → Type 0) → WritesVerdict words input Wanted old new → (v : Verdict) × Wanted v × Checked text v
    found Wanted h = let g = at_told input text _ told.told h.1 in (g.0, g.1, g.2)

    fine_found : EndsWell words input old new → (v : Verdict) × IsRunVerdict v × Checked text v
    fine_found (inl h) = no_run h.0
    fine_found (inr (inl h)) = found IsRunVerdict h
    fine_found (inr (inr (inl h))) = not_translation h.0
    fine_found (inr (inr (inr (inl h)))) = not_load (h.1.size, h.1.asks)
    fine_found (inr (inr (inr (inr h)))) = no_migration h.0

    fault_found : WritesPrefix words input old new → (v : Verdict) × Checked text v
    fault_found (inl h) = no_run h.0
    fault_found (inr (inr (inl h))) = not_translation h.0
    fault_found (inr (inr (inr (inl h)))) = not_load (h.1.size, h.1.asks)
    fault_found (inr (inr (inr (inr h)))) = no_migration h.0
    fault_found (inr (inl h)) = let g = at_told input text _ told.told h.1 in (g.0, g.1)

    refused_bundle : Stops words input before now status.BadBundle → (length text ≤ most_bundle_bytes) × IsNoBundle text
    refused_bundle (inl h) = at_told input text (λ t. (length t ≤ most_bundle_bytes) × IsNoBundle t) told.told h.1
    refused_bundle (inr h) = no_migration h.0

    long_bundle : Stops words input before now status.TooLong → most_bundle_bytes < length text
    long_bundle (inl h) = no_run h.0
    long_bundle (inr (inr (inl h))) = not_translation h.0
    long_bundle (inr (inr (inr h))) = no_migration h.0
    long_bundle (inr (inl h)) = at_told input text (λ t. most_bundle_bytes < length t) told.told h.1

    asks_something : AsksNothing words → ⊥
    asks_something nothing = input_something words (inr (inl told.asks)) nothing

    is_some_bundle : {v : Verdict} → Checked text v → IsNoBundle text → ⊥
    is_some_bundle h nothing = nothing h.1.written_module h.1.consts h.1.log h.1.bundle

    -- a text that is too long
    pub too_long_bundle_comes : (s : Status) → Says s → most_bundle_bytes < length text → OrNoMemory s status.TooLong
    too_long_bundle_comes status.Fine h long = absurd (not_short_bundle long (fine_found (h.fine refl)).2.0)
    too_long_bundle_comes status.Usage h long = absurd (asks_something (h.stopped tt))
    too_long_bundle_comes status.SpecRefused h long = not_refused_spec (h.stopped tt)
    too_long_bundle_comes status.ReadFault h long = absurd (read (h.stopped tt).1)
    too_long_bundle_comes status.WriteFault h long = absurd (not_short_bundle long (fault_found (h.prefix refl)).1.0)
    too_long_bundle_comes status.TooLong h long = inl refl
    too_long_bundle_comes status.Stopped h long = no_run (h.halted refl).0
    too_long_bundle_comes status.Spent h long = no_run (h.spent refl).0
    too_long_bundle_comes status.Quiet h long = no_run (h.quiet refl).0
    too_long_bundle_comes status.Full h long = no_run (h.full refl).0
    too_long_bundle_comes status.NotARun h long = absurd (not_short_bundle long (found IsBadVerdict (h.not_a_run refl)).2.0)
    too_long_bundle_comes status.BadBundle h long = absurd (not_short_bundle long (refused_bundle (h.stopped tt)).0)
    too_long_bundle_comes status.NoMemory h long = inr refl

    -- a text that is no bundle
    pub no_bundle_comes : (s : Status) → Says s → length text ≤ most_bundle_bytes → IsNoBundle text → OrNoMemory s status.BadBundle
    no_bundle_comes status.Fine h short nothing = absurd (is_some_bundle (fine_found (h.fine refl)).2 nothing)
    no_bundle_comes status.Usage h short nothing = absurd (asks_something (h.stopped tt))
    no_bundle_comes status.SpecRefused h short nothing = not_refused_spec (h.stopped tt)
    no_bundle_comes status.ReadFault h short nothing = absurd (read (h.stopped tt).1)
    no_bundle_comes status.WriteFault h short nothing = absurd (is_some_bundle (fault_found (h.prefix refl)).1 nothing)
    no_bundle_comes status.TooLong h short nothing = absurd (not_short_bundle (long_bundle (h.stopped tt)) short)
    no_bundle_comes status.Stopped h short nothing = no_run (h.halted refl).0
    no_bundle_comes status.Spent h short nothing = no_run (h.spent refl).0
    no_bundle_comes status.Quiet h short nothing = no_run (h.quiet refl).0
    no_bundle_comes status.Full h short nothing = no_run (h.full refl).0
    no_bundle_comes status.NotARun h short nothing = absurd (is_some_bundle (found IsBadVerdict (h.not_a_run refl)).2 nothing)
    no_bundle_comes status.BadBundle h short nothing = inl refl
    no_bundle_comes status.NoMemory h short nothing = inr refl

    module _ (m : Module) (consts : List (Name × Data)) (l : BundleLog) (bundle : IsReadBundle text m consts l) (wrote : Rose out_before out_now → ⊥) (short : length text ≤ most_bundle_bytes) where
      -- a bundle whose log is a run
      pub is_run_comes : (s : Status) → Says s → IsRun m consts (checked_log l).ids (checked_log l).start (checked_log l).entries → OrNoMemory s status.Fine
      is_run_comes status.Fine h run = inl refl
      is_run_comes status.Usage h run = absurd (asks_something (h.stopped tt))
      is_run_comes status.SpecRefused h run = not_refused_spec (h.stopped tt)
      is_run_comes status.ReadFault h run = absurd (read (h.stopped tt).1)
      is_run_comes status.WriteFault h run = absurd (wrote (h.write_fault refl))
      is_run_comes status.TooLong h run = absurd (not_short_bundle (long_bundle (h.stopped tt)) short)
      is_run_comes status.Stopped h run = no_run (h.halted refl).0
      is_run_comes status.Spent h run = no_run (h.spent refl).0
      is_run_comes status.Quiet h run = no_run (h.quiet refl).0
      is_run_comes status.Full h run = no_run (h.full refl).0
      is_run_comes status.NotARun h run = let f = found IsBadVerdict (h.not_a_run refl) in absurd (run_is_not_bad text m consts l bundle run f.0 f.2.1 f.1)
      is_run_comes status.BadBundle h run = absurd ((refused_bundle (h.stopped tt)).1 m consts l bundle)
      is_run_comes status.NoMemory h run = inr refl

      -- a bundle whose log is none
      pub is_no_run_comes : (s : Status) → Says s → (IsRun m consts (checked_log l).ids (checked_log l).start (checked_log l).entries → ⊥) → OrNoMemory s status.NotARun
      is_no_run_comes status.Fine h none = let f = fine_found (h.fine refl) in absurd (no_run_is_not_run text m consts l bundle none f.0 f.2.1 f.1)
      is_no_run_comes status.Usage h none = absurd (asks_something (h.stopped tt))
      is_no_run_comes status.SpecRefused h none = not_refused_spec (h.stopped tt)
      is_no_run_comes status.ReadFault h none = absurd (read (h.stopped tt).1)
      is_no_run_comes status.WriteFault h none = absurd (wrote (h.write_fault refl))
      is_no_run_comes status.TooLong h none = absurd (not_short_bundle (long_bundle (h.stopped tt)) short)
      is_no_run_comes status.Stopped h none = no_run (h.halted refl).0
      is_no_run_comes status.Spent h none = no_run (h.spent refl).0
      is_no_run_comes status.Quiet h none = no_run (h.quiet refl).0
      is_no_run_comes status.Full h none = no_run (h.full refl).0
      is_no_run_comes status.NotARun h none = inl refl
      is_no_run_comes status.BadBundle h none = absurd ((refused_bundle (h.stopped tt)).1 m consts l bundle)
      is_no_run_comes status.NoMemory h none = inr refl

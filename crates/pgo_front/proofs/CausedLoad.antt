-- Which status each cause gives where the words ask for a load.
use Rattle.std.proofs.Common.{inl, inr, ℕ, List, Option, refl, sym, subst}
use Rattle.pgo_io.specs.Faults.{Rose}
use Rattle.pgo_accept.specs.Answers.{IsExpandable}
use Rattle.pgo_load.specs.Load.{load_consts, load_text}
use Rattle.pgo_front.specs.declared.status.Status.{Status}
use Rattle.pgo_front.specs.declared.status.Status.TheVariants as status
use Rattle.pgo_front.specs.Asked.{AsksCheck, AsksLoad, AsksMigration}
use Rattle.pgo_front.specs.Answers.{AsksNothing, AsksOfInput, AsksSomeExecution, AsksSomeTranslation, EndsWell, OrNoMemory, Stops, WritesPrefix}
use Rattle.pgo_front.specs.Loads.{Loaded, NotLoaded}
use Rattle.pgo_front.proofs.Asking.{input_no_load, load_something}
use Rattle.pgo_front.proofs.Caused.{Says}

module _ (words : List (List ℕ)) (input : Option (List ℕ)) (before now : ℕ) (out_before out_now : ℕ) (old new : Option (List ℕ)) (size : ℕ) (asks : AsksLoad size words) where
  no_input : {A : Type 0} → AsksOfInput words → A
  no_input a = absurd (input_no_load words a (size, asks))

  no_run : {A : Type 0} → AsksSomeExecution words → A
  no_run a = no_input (inl a)

  no_check : {A : Type 0} → AsksCheck words → A
  no_check a = no_input (inr (inl a))

  no_translation : {A : Type 0} → AsksSomeTranslation words → A
  no_translation a = no_input (inr (inr (inl a)))

  no_migration : {A : Type 0} → AsksMigration words → A
  no_migration a = no_input (inr (inr (inr a)))

  -- words that ask for a load aren't refused for a bundle
  no_bundle : {A : Type 0} → Stops words input before now status.BadBundle → A
  no_bundle (inl h) = no_check h.0
  no_bundle (inr h) = no_migration h.0

  not_usage : {A : Type 0} → AsksNothing words → A
  not_usage nothing = absurd (load_something words (size, asks) nothing)

  abbrev Made : Type 0
  Made = (written : List ℕ) × Loaded words written

  fine_made : EndsWell words input old new → Made
  fine_made (inl h) = no_run h.0
  fine_made (inr (inl h)) = no_check h.0
  fine_made (inr (inr (inl h))) = no_translation h.0
  fine_made (inr (inr (inr (inl h)))) = (h.0, h.1)
  fine_made (inr (inr (inr (inr h)))) = no_migration h.0

  fault_made : WritesPrefix words input old new → Made
  fault_made (inl h) = no_run h.0
  fault_made (inr (inl h)) = no_check h.0
  fault_made (inr (inr (inl h))) = no_translation h.0
  fault_made (inr (inr (inr (inl h)))) = (h.0, h.1)
  fault_made (inr (inr (inr (inr h)))) = no_migration h.0

  refused_load : Stops words input before now status.SpecRefused → NotLoaded words
  refused_load (inl h) = no_run h.0
  refused_load (inr (inl h)) = no_translation h.0
  refused_load (inr (inr h)) = h

  not_long : {A : Type 0} → Stops words input before now status.TooLong → A
  not_long (inl h) = no_run h.0
  not_long (inr (inl h)) = no_check h.0
  not_long (inr (inr (inl h))) = no_translation h.0
  not_long (inr (inr (inr h))) = no_migration h.0

  abbrev CanExpand : Type 0
  CanExpand = IsExpandable (load_text size) (load_consts size)

  -- what is run isn't refused
  was_expandable : Made → CanExpand
  was_expandable m =
      let x = m.1.loads.runs.executes in
      subst (λ n. IsExpandable (load_text n) (load_consts n)) (sym (m.1.no_others size asks)) (x.spec, x.spells, x.passes)

  not_refused : NotLoaded words → CanExpand → ⊥
  not_refused n x = n.refused (subst (λ k. IsExpandable (load_text k) (load_consts k)) (n.no_others size asks) x)

  -- a load that has a run
  pub loads_comes : (s : Status) → Says words input before now out_before out_now old new s → (Rose out_before out_now → ⊥) → CanExpand → OrNoMemory s status.Fine
  loads_comes status.Fine h wrote x = inl refl
  loads_comes status.Usage h wrote x = not_usage (h.stopped tt)
  loads_comes status.SpecRefused h wrote x = absurd (not_refused (refused_load (h.stopped tt)) x)
  loads_comes status.ReadFault h wrote x = no_input (h.stopped tt).0
  loads_comes status.WriteFault h wrote x = absurd (wrote (h.write_fault refl))
  loads_comes status.TooLong h wrote x = not_long (h.stopped tt)
  loads_comes status.Stopped h wrote x = no_run (h.halted refl).0
  loads_comes status.Spent h wrote x = no_run (h.spent refl).0
  loads_comes status.Quiet h wrote x = no_run (h.quiet refl).0
  loads_comes status.Full h wrote x = no_run (h.full refl).0
  loads_comes status.NotARun h wrote x = no_check (h.not_a_run refl).0
  loads_comes status.BadBundle h wrote x = no_bundle (h.stopped tt)
  loads_comes status.NoMemory h wrote x = inr refl

  -- a load that has none
  pub load_refused_comes : (s : Status) → Says words input before now out_before out_now old new s → (CanExpand → ⊥) → OrNoMemory s status.SpecRefused
  load_refused_comes status.Fine h none = absurd (none (was_expandable (fine_made (h.fine refl))))
  load_refused_comes status.Usage h none = not_usage (h.stopped tt)
  load_refused_comes status.SpecRefused h none = inl refl
  load_refused_comes status.ReadFault h none = no_input (h.stopped tt).0
  load_refused_comes status.WriteFault h none = absurd (none (was_expandable (fault_made (h.prefix refl))))
  load_refused_comes status.TooLong h none = not_long (h.stopped tt)
  load_refused_comes status.Stopped h none = no_run (h.halted refl).0
  load_refused_comes status.Spent h none = no_run (h.spent refl).0
  load_refused_comes status.Quiet h none = no_run (h.quiet refl).0
  load_refused_comes status.Full h none = no_run (h.full refl).0
  load_refused_comes status.NotARun h none = no_check (h.not_a_run refl).0
  load_refused_comes status.BadBundle h none = no_bundle (h.stopped tt)
  load_refused_comes status.NoMemory h none = inr refl

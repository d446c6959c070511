-- The promise, from what was made, what was written of it, and what was said.
use Rattle.std.proofs.Common.{◌≡◌, ◌⊎◌, inl, inr, ℕ, List, Option, None, IfSome, Result, Ok, Err, IfOk, IfErr, OnOk, sym, ◌∙◌, ap, subst, arith}
use Rattle.pgo_io.specs.Sink.{Grows}
use Rattle.pgo_front.specs.declared.output.Output.{Output}
use Rattle.pgo_front.specs.declared.ended.Ended.{Ended}
use Rattle.pgo_front.specs.declared.status.Status.{Status}
use Rattle.pgo_front.specs.declared.status.Status.TheVariants as status
use Rattle.pgo_front.specs.Statuses.{number_of, line_of}
use Rattle.pgo_front.specs.Answers.{AsksSomeLoad, ReadsNothing, RefusesSpec, Stops, IsRefusal, ReadsAll, IsAtEnd, SaysLine}
use Rattle.pgo_front.specs.Streams.{Stream, before, after, Failed}
use Rattle.pgo_front.specs.Headline.{Headline}
use Rattle.pgo_front.specs.Makes.{MakesAsked, HasOwnLine, IsWritten, IsCutShort, EndsAs}
use Rattle.pgo_front.proofs.Making.{numbered, into_fault, fine_to, halted_to, spent_to, quiet_to, full_to, not_a_run_to, made_line, no_line, made_no_fault, made_no_refusal, said_refusal, said_bundle, said_migration, said_untied, silent_status, silent_line}
use Rattle.pgo_front.proofs.Caused.{Says, usage_comes, too_long_bundle_comes, no_bundle_comes, is_run_comes, is_no_run_comes}
use Rattle.pgo_front.proofs.CausedExecution.{too_long_comes, refused_comes, run_comes}
use Rattle.pgo_front.proofs.CausedTranslation.{too_long_to_translate_comes, not_translated_comes, translates_comes}
use Rattle.pgo_front.proofs.CausedLoad.{loads_comes, load_refused_comes}
use Rattle.pgo_front.proofs.CausedMigration.{migrates_comes, not_migrated_comes, too_long_to_migrate_comes}

module _ {S O E : Type 0} (words : List (List ℕ)) (input : Stream S) (out : Stream O) (err : Stream E) where
  -- what the statuses say of this call
  abbrev Causes : Status → Type 0
  Causes s = Says words (before input) (input.faults input.old) (input.faults input.new) (out.faults out.old) (out.faults out.new) (before out) (after out) s

  abbrev StopsHere : Status → Type 0
  StopsHere s = Stops words (before input) (input.faults input.old) (input.faults input.new) s

  abbrev OwnLine : Ended → Type 0
  OwnLine e = HasOwnLine words (before input) (RefusesSpec words (before input)) e.status e.line

  -- where all of what was made is written
  written_causes : (m : Output) (s : Status) → MakesAsked words (before input) m → IsWritten m out s → Causes s
  written_causes m s h w = record {
    fine = λ e. fine_to words (before input) _ _ m (sym w.status_is ∙ e) h w.all;
    halted = λ e. halted_to words (before input) _ _ m (sym w.status_is ∙ e) h w.all;
    spent = λ e. spent_to words (before input) _ _ m (sym w.status_is ∙ e) h w.all;
    quiet = λ e. quiet_to words (before input) _ _ m (sym w.status_is ∙ e) h w.all;
    full = λ e. full_to words (before input) _ _ m (sym w.status_is ∙ e) h w.all;
    not_a_run = λ e. not_a_run_to words (before input) _ _ m (sym w.status_is ∙ e) h w.all;
    stopped = λ r. absurd (made_no_refusal words (before input) m h (subst IsRefusal w.status_is r));
    write_fault = λ e. absurd (made_no_fault words (before input) m h (sym w.status_is ∙ e));
    prefix = λ e. absurd (made_no_fault words (before input) m h (sym w.status_is ∙ e));
  }

  -- where a part of it is
  cut_causes : (m : Output) (s : Status) → MakesAsked words (before input) m → IsCutShort m out s → Causes s
  cut_causes m s h c = record {
    fine = λ e. absurd (let n : 13 ≡ 0 = numbered c.status_is e in omega (arith, n));
    halted = λ e. absurd (let n : 13 ≡ 20 = numbered c.status_is e in omega (arith, n));
    spent = λ e. absurd (let n : 13 ≡ 21 = numbered c.status_is e in omega (arith, n));
    quiet = λ e. absurd (let n : 13 ≡ 22 = numbered c.status_is e in omega (arith, n));
    full = λ e. absurd (let n : 13 ≡ 23 = numbered c.status_is e in omega (arith, n));
    not_a_run = λ e. absurd (let n : 13 ≡ 30 = numbered c.status_is e in omega (arith, n));
    stopped = λ r. absurd (subst IsRefusal c.status_is r);
    write_fault = λ e. c.cause;
    prefix = λ e. into_fault words (before input) _ _ m h c.part;
  }

  -- where nothing was made
  refusal_causes : (s : Status) → StopsHere s → IsRefusal s → Causes s
  refusal_causes s stops r = record {
    fine = λ e. absurd (subst IsRefusal e r);
    halted = λ e. absurd (subst IsRefusal e r);
    spent = λ e. absurd (subst IsRefusal e r);
    quiet = λ e. absurd (subst IsRefusal e r);
    full = λ e. absurd (subst IsRefusal e r);
    not_a_run = λ e. absurd (subst IsRefusal e r);
    stopped = λ _. stops;
    write_fault = λ e. absurd (subst IsRefusal e r);
    prefix = λ e. absurd (subst IsRefusal e r);
  }

  causes : (made : Result Output Ended) (e : Ended) → EndsAs made out e → IfOk made (MakesAsked words (before input)) → IfErr made (λ stop. StopsHere stop.status)
      → IfErr made (λ stop. IsRefusal stop.status) → Causes e.status
  causes (Ok m) e (none, inl w) ok stops refuses = written_causes m e.status ok w
  causes (Ok m) e (none, inr c) ok stops refuses = cut_causes m e.status ok c
  causes (Err stop) e (same, kept) ok stops refuses = subst (λ x. Causes x.status) (sym same) (refusal_causes stop.status stops refuses)

  own_line : (made : Result Output Ended) (e : Ended) → EndsAs made out e → IfOk made (MakesAsked words (before input)) → IfErr made OwnLine → OwnLine e
  own_line (Ok m) e (none, inl w) ok line = made_line words (before input) _ e.status e.line m w.status_is none ok
  own_line (Ok m) e (none, inr c) ok line =
      no_line words (before input) _ e.status e.line 13 (ap number_of c.status_is) (λ n. omega (arith, n)) (λ n. omega (arith, n)) none
  own_line (Err stop) e (same, kept) ok line = subst OwnLine (sym same) line

  -- a refusal leaves the output as it was
  out_kept : (made : Result Output Ended) (e : Ended) → EndsAs made out e → IfOk made (MakesAsked words (before input)) → IsRefusal e.status → out.new ≡ out.old
  out_kept (Ok m) e (none, inl w) ok r = absurd (made_no_refusal words (before input) m ok (subst IsRefusal w.status_is r))
  out_kept (Ok m) e (none, inr c) ok r = absurd (subst IsRefusal c.status_is r)
  out_kept (Err stop) e (same, kept) ok r = kept

  out_faults : (made : Result Output Ended) (e : Ended) → EndsAs made out e → (e.status ≡ status.WriteFault) ⊎ (out.faults out.new ≡ out.faults out.old)
  out_faults (Ok m) e (none, inl w) = inr w.steady
  out_faults (Ok m) e (none, inr c) = inl c.status_is
  out_faults (Err stop) e (same, kept) = inr (ap out.faults kept)

  abbrev SameFaults : Type 0
  SameFaults = input.faults input.new ≡ input.faults input.old

  in_faults : (made : Result Output Ended) (e : Ended) → EndsAs made out e → OnOk made SameFaults → IfErr made (λ stop. (stop.status ≡ status.ReadFault) ⊎ SameFaults)
      → (e.status ≡ status.ReadFault) ⊎ SameFaults
  in_faults (Ok m) e end steady failed = inr steady
  in_faults (Err stop) e (same, kept) steady failed = subst (λ x. (x.status ≡ status.ReadFault) ⊎ SameFaults) (sym same) failed

  abbrev AtEnd : Type 0
  AtEnd = IsAtEnd (before input) (after input)

  read_to_end : (made : Result Output Ended) (e : Ended) → EndsAs made out e → OnOk made AtEnd → IfErr made (λ stop. ReadsAll stop.status → AtEnd) → ReadsAll e.status → AtEnd
  read_to_end (Ok m) e end at_end refused all = at_end
  read_to_end (Err stop) e (same, kept) at_end refused all = refused (subst (λ x. ReadsAll x.status) same all)

  -- all of it
  module _ (made : Result Output Ended) (e : Ended) (end : EndsAs made out e) (ok : IfOk made (MakesAsked words (before input)))
      (stops : IfErr made (λ stop. StopsHere stop.status)) (line : IfErr made OwnLine) (refuses : IfErr made (λ stop. IsRefusal stop.status))
      (unread : ReadsNothing words → input.new ≡ input.old)
      (ended : (AsksSomeLoad words → ⊥) → OnOk made AtEnd) (ended_refused : (AsksSomeLoad words → ⊥) → IfErr made (λ stop. ReadsAll stop.status → AtEnd))
      (steady : OnOk made SameFaults) (failed : IfErr made (λ stop. (stop.status ≡ status.ReadFault) ⊎ SameFaults))
      (says : (Failed err → ⊥) → SaysLine e.status (before err) (after err))
      (says_own : line_of e.status ≡ None → (Failed err → ⊥) → IfSome e.line (λ l. Grows (before err) (after err) l))
      (silent : line_of e.status ≡ None → e.line ≡ None → err.new ≡ err.old)
    where
      of_status : Causes e.status
      of_status = causes made e end ok stops refuses

      of_line : OwnLine e
      of_line = own_line made e end ok line

      pub promised : Headline words input out err e.status
      promised = record {
        fine = of_status.fine;
        halted = of_status.halted;
        spent = of_status.spent;
        quiet = of_status.quiet;
        full = of_status.full;
        runs = λ schedule settings text consts told read wrote short x. run_comes words (before input) _ _ _ _ _ _ schedule settings text consts told read e.status of_status wrote short x;
        translates = λ target text consts told read wrote short x. translates_comes words (before input) _ _ _ _ _ _ target text consts told read e.status of_status wrote short x;
        not_a_run = of_status.not_a_run;
        is_run = λ text m consts l told read wrote short bundle run. is_run_comes words (before input) _ _ _ _ _ _ text told read m consts l bundle wrote short e.status of_status run;
        is_no_run = λ text m consts l told read wrote short bundle none. is_no_run_comes words (before input) _ _ _ _ _ _ text told read m consts l bundle wrote short e.status of_status none;
        migrates = λ text written told read wrote short m. migrates_comes words (before input) _ _ _ _ _ _ text told read written e.status of_status wrote short m;
        loads = λ size asks wrote x. loads_comes words (before input) _ _ _ _ _ _ size asks e.status of_status wrote x;
        stopped = of_status.stopped;
        usage = usage_comes words (before input) _ _ _ _ _ _ e.status of_status;
        too_long = λ schedule settings text consts told read. too_long_comes words (before input) _ _ _ _ _ _ schedule settings text consts told read e.status of_status;
        refused = λ schedule settings text consts told read. refused_comes words (before input) _ _ _ _ _ _ schedule settings text consts told read e.status of_status;
        too_long_to_translate = λ target text consts told read. too_long_to_translate_comes words (before input) _ _ _ _ _ _ target text consts told read e.status of_status;
        not_translated = λ target text consts told read. not_translated_comes words (before input) _ _ _ _ _ _ target text consts told read e.status of_status;
        too_long_bundle = λ text told read. too_long_bundle_comes words (before input) _ _ _ _ _ _ text told read e.status of_status;
        no_bundle = λ text told read. no_bundle_comes words (before input) _ _ _ _ _ _ text told read e.status of_status;
        too_long_to_migrate = λ text told read. too_long_to_migrate_comes words (before input) _ _ _ _ _ _ text told read e.status of_status;
        not_migrated = λ text told read. not_migrated_comes words (before input) _ _ _ _ _ _ text told read e.status of_status;
        load_refused = λ size asks. load_refused_comes words (before input) _ _ _ _ _ _ size asks e.status of_status;
        kept = out_kept made e end ok;
        says = says;
        says_refusal = said_refusal words (before input) _ _ e.status e.line _ of_line says_own;
        says_bundle = said_bundle words (before input) _ _ _ e.status e.line _ of_line says_own;
        says_untied = λ bad asks quiet. said_untied words (before input) _ _ _ e.status e.line _ of_line says_own bad asks quiet;
        says_migration = λ bad asks quiet. said_migration words (before input) _ _ _ e.status e.line _ of_line says_own bad asks quiet;
        read_failed = in_faults made e end steady failed;
        write_failed = out_faults made e end;
        write_fault = of_status.write_fault;
        prefix = of_status.prefix;
        ended = λ no_load all. read_to_end made e end (ended no_load) (ended_refused no_load) all;
        unread = unread;
        silent = λ quiet. silent (silent_status e.status quiet) (silent_line words (before input) _ e.status e.line quiet of_line);
      }

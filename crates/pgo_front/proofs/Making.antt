-- What a command made, and what came to the output of it.
use Rattle.std.proofs.Common.{◌≡◌, ◌≤◌, inl, inr, ℕ, List, length, Option, Some, None, IfSome, Result, Ok, Err, IfOk, IfErr, refl, sym, ◌∙◌, ap, subst, arith}
use Rattle.pgo_io.specs.Sink.{Grows, GrowsByPrefix}
use Rattle.pgo_base.specs.Data.{Data}
use Rattle.pgo_base.specs.Lookup.{Name}
use Rattle.pgo_check.specs.declared.verdict.Verdict.{Verdict}
use Rattle.pgo_check.specs.declared.verdict.Verdict.TheVariants.{Run, Bad}
use Rattle.pgo_front.specs.declared.output.Output.{Output}
use Rattle.pgo_front.specs.declared.ended.Ended.{Ended}
use Rattle.pgo_front.specs.declared.status.Status.{Status}
use Rattle.pgo_front.specs.declared.status.Status.TheVariants as status
use Rattle.pgo_execute.specs.Schedules.{Schedule}
use Rattle.pgo_model.specs.Core.{Settings}
use Rattle.pgo_front.specs.declared.target.Target.{Target}
use Rattle.pgo_front.specs.Asked.{AsksExecution, AsksCheck, AsksMigration, AsksTranslation, ExecutesOnly, TranslatesOnly}
use Rattle.pgo_front.specs.Spells.{most_bytes}
use Rattle.pgo_front.specs.Statuses.{number_of, line_of, IsSilent}
use Rattle.pgo_log_text.specs.LineNumbers.{IsLineOf}
use Rattle.pgo_front.specs.Verdicts.{IsRunVerdict, IsBadVerdict, most_bundle_bytes}
use Rattle.pgo_accept.specs.Answers.{IsExpandable}
use Rattle.pgo_accept.specs.Refusals.{RefusedWith}
use Rattle.pgo_front.specs.Translations.{NotTranslated}
use Rattle.pgo_front.specs.Answers.{AsksSomeExecution, Asked, IsRefused, RefusedBy, RefusesSpec, WritesBundle, WritesVerdict, EndsWell, WritesPrefix, Stops, IsRefusal, SaysLineOf, SaysRefusal}
use Rattle.pgo_front.specs.Makes.{IsRunEnd, IsVerdictStatus, MakesRun, MakesAsked, MakesTranslation, MakesJudged, MakesVerdict, StopsBundle, StopsBundleInput, StopsFor, StopsInput, StopsCheck, StopsMigration, StopsSpecInput, HasLine, IsLineToCheck, IsLineToMigrate, IsNamedLine, RefusesInput, NamesLine, HasBundleLine, IsNoBundleEnd, HasOwnLine, bytes_of}
use Rattle.pgo_front.specs.Migrations.{HaveOneVerdict, IsCheckLine, IsMigrationLine, Migrated}
use Rattle.pgo_front.proofs.Asking.{check_no_migration}
use Rattle.pgo_migrate.specs.Migrates.{Migrates}
use Rattle.pgo_front.proofs.ConstantValues.{translation_constants}

-- ---- why a command stopped

-- of a text that is refused for a cause, of the input that it came from
pub stops_input : (Cause : List ℕ → Type 0) (input : Option (List ℕ)) (before now : ℕ) (text : List ℕ) (s : Status)
    → IfSome input (λ bs. text ≡ bs) → length text ≤ most_bytes → StopsFor (Cause text) s → StopsInput Cause input before now s
stops_input Cause None before now text s told short (inl h) = inl (h.0, tt)
stops_input Cause (Some bs) before now text s told short (inl h) = inl (h.0, subst (λ bs. (length bs ≤ most_bytes) × Cause bs) told (short, h.1))
stops_input Cause input before now text s told short (inr e) = inr (inr (inr e))

pub stops_bundle : (Cause : List ℕ → Type 0) (input : Option (List ℕ)) (before now : ℕ) (text : List ℕ) (s : Status)
    → IfSome input (λ bs. text ≡ bs) → length text ≤ most_bundle_bytes → StopsBundle (Cause text) s → StopsBundleInput Cause input before now s
stops_bundle Cause None before now text s told short (inl h) = inl (h.0, tt)
stops_bundle Cause (Some bs) before now text s told short (inl h) = inl (h.0, subst (λ bs. (length bs ≤ most_bundle_bytes) × Cause bs) told (short, h.1))
stops_bundle Cause input before now text s told short (inr e) = inr (inr (inr e))

-- of words that ask for a translation
pub translation_stopped : (words : List (List ℕ)) (input : Option (List ℕ)) (before now : ℕ) (target : Target) (consts : List (Name × Data)) (s : Status)
    → TranslatesOnly words target consts → StopsSpecInput consts input before now s → Stops words input before now s
translation_stopped words input before now target consts s asks (inl h) =
    subst (Stops words input before now) (sym h.0) (inr (inl ((target, consts, asks.0), refused input h.1)))
  where
    refused : (o : Option (List ℕ)) → IfSome o (λ text. (length text ≤ most_bytes) × (IsExpandable text consts → ⊥)) → IfSome o (NotTranslated words)
    refused None g = tt
    refused (Some text) g = record { target = target; consts = consts; asks = asks.0; no_others = asks.1; short = g.0; refused = g.1 }
translation_stopped words input before now target consts s asks (inr (inl h)) = subst (Stops words input before now) (sym h.0) (inr (inr (inl (target, consts, asks.0))), h.1)
translation_stopped words input before now target consts s asks (inr (inr (inl h))) =
    subst (Stops words input before now) (sym h.0) (inr (inr (inl ((target, consts, asks.0), h.1))))
translation_stopped words input before now target consts s asks (inr (inr (inr e))) = subst (Stops words input before now) (sym e) tt

-- of words that ask for a run
pub execution_stopped : (words : List (List ℕ)) (input : Option (List ℕ)) (before now : ℕ) (schedule : Schedule) (settings : Settings) (consts : List (Name × Data)) (s : Status)
    → ExecutesOnly words schedule settings consts → StopsSpecInput consts input before now s → Stops words input before now s
execution_stopped words input before now schedule settings consts s asks (inl h) =
    subst (Stops words input before now) (sym h.0) (inl ((schedule, settings, consts, asks.0), refused input h.1))
  where
    refused : (o : Option (List ℕ)) → IfSome o (λ text. (length text ≤ most_bytes) × (IsExpandable text consts → ⊥)) → IfSome o (IsRefused words)
    refused None g = tt
    refused (Some text) g = record { schedule = schedule; settings = settings; consts = consts; asks = asks.0; no_others = asks.1; short = g.0; refused = g.1 }
execution_stopped words input before now schedule settings consts s asks (inr (inl h)) = subst (Stops words input before now) (sym h.0) (inl (schedule, settings, consts, asks.0), h.1)
execution_stopped words input before now schedule settings consts s asks (inr (inr (inl h))) =
    subst (Stops words input before now) (sym h.0) (inl ((schedule, settings, consts, asks.0), h.1))
execution_stopped words input before now schedule settings consts s asks (inr (inr (inr e))) = subst (Stops words input before now) (sym e) tt

-- the line of a refusal, of the words that asked for a translation
pub translation_line : (words : List (List ℕ)) (input : Option (List ℕ)) (target : Target) (consts : List (Name × Data)) (s : Status) (line : Option (List ℕ))
    → AsksTranslation target words consts → HasLine (RefusesInput consts input) s line → HasLine (RefusesSpec words input) s line
translation_line words input target consts s None asks h = h
translation_line words input target consts s (Some l) asks h = (h.0, inl (inr (target, consts, asks), refused input h.1))
  where
    refused : (o : Option (List ℕ)) → RefusesInput consts o l → IfSome o (λ text. RefusedBy words text l)
    refused None g = tt
    refused (Some text) g = record { consts = consts; asks = inr (target, asks); refused = g }

-- and of the words that asked for a run
pub execution_line : (words : List (List ℕ)) (input : Option (List ℕ)) (schedule : Schedule) (settings : Settings) (consts : List (Name × Data)) (s : Status) (line : Option (List ℕ))
    → AsksExecution words schedule settings consts → HasLine (RefusesInput consts input) s line → HasLine (RefusesSpec words input) s line
execution_line words input schedule settings consts s None asks h = h
execution_line words input schedule settings consts s (Some l) asks h = (h.0, inl (inl (schedule, settings, consts, asks), refused input h.1))
  where
    refused : (o : Option (List ℕ)) → RefusesInput consts o l → IfSome o (λ text. RefusedBy words text l)
    refused None g = tt
    refused (Some text) g = record { consts = consts; asks = inl (schedule, settings, asks); refused = g }

-- the line that refuses a text, of the input that it came from
pub line_input : (consts : List (Name × Data)) (input : Option (List ℕ)) (text : List ℕ) (s : Status) (line : Option (List ℕ))
    → IfSome input (λ bs. text ≡ bs) → HasLine (RefusedWith text consts) s line → HasLine (RefusesInput consts input) s line
line_input consts input text s None told h = h
line_input consts None text s (Some l) told h = (h.0, tt)
line_input consts (Some bs) text s (Some l) told h = (h.0, subst (λ t. RefusedWith t consts l) told h.1)

-- ---- what a command made

-- of a text that gives something, of the input that it came from
pub makes_input : (Given : List ℕ → Type 0) (input : Option (List ℕ)) (text : List ℕ)
    → IfSome input (λ bs. text ≡ bs) → length text ≤ most_bytes → Given text → IfSome input (λ bs. (length bs ≤ most_bytes) × Given bs)
makes_input Given None text told short h = tt
makes_input Given (Some bs) text told short h = subst (λ bs. (length bs ≤ most_bytes) × Given bs) told (short, h)

pub makes_check : (input : Option (List ℕ)) (text : List ℕ) (m : Output)
    → IfSome input (λ bs. text ≡ bs) → length text ≤ most_bundle_bytes → MakesJudged text m → IfSome input (λ bs. (length bs ≤ most_bundle_bytes) × MakesJudged bs m)
makes_check None text m told short h = tt
makes_check (Some bs) text m told short h = subst (λ bs. (length bs ≤ most_bundle_bytes) × MakesJudged bs m) told (short, h)

pub makes_migration : (input : Option (List ℕ)) (text : List ℕ) (m : Output)
    → IfSome input (λ bs. text ≡ bs) → length text ≤ most_bundle_bytes → Migrates text (bytes_of m.written) → HaveOneVerdict text (bytes_of m.written) → IfSome input (λ bs. Migrated bs (bytes_of m.written))
makes_migration None text m told short h one = tt
makes_migration (Some bs) text m told short h one = subst (λ bs. Migrated bs (bytes_of m.written)) told (short, h, one)

-- of the words that asked for it
execution_asked : (words : List (List ℕ)) (input : Option (List ℕ)) (schedule : Schedule) (settings : Settings) (consts : List (Name × Data)) (m : Output) → ExecutesOnly words schedule settings consts
    → IsRunEnd m.status → IfSome input (λ text. (length text ≤ most_bytes) × MakesRun schedule settings text consts m) → MakesAsked words input m
execution_asked words None schedule settings consts m asks either h = inl ((schedule, settings, consts, asks.0), either, tt)
execution_asked words (Some text) schedule settings consts m asks either h =
    inl (
      (schedule, settings, consts, asks.0),
      either,
      record { schedule = schedule; settings = settings; consts = consts; asks = asks.0; no_others = asks.1; short = h.0; runs = h.1 },
    )

pub check_asked : (words : List (List ℕ)) (input : Option (List ℕ)) (m : Output) → AsksCheck words → IsVerdictStatus m
    → IfSome input (λ text. (length text ≤ most_bundle_bytes) × MakesJudged text m) → MakesAsked words input m
check_asked words None m asks either h = inr (inl (asks, either, tt))
check_asked words (Some text) m asks either h = inr (inl (asks, either, (h.1.0, (h.0, h.1.1), h.1.2)))

translation_asked : (words : List (List ℕ)) (input : Option (List ℕ)) (target : Target) (consts : List (Name × Data)) (m : Output) → TranslatesOnly words target consts
    → m.status ≡ status.Fine → IfSome input (λ text. (length text ≤ most_bytes) × MakesTranslation target text consts m) → MakesAsked words input m
translation_asked words None target consts m asks fine h = inr (inr (inl ((target, consts, asks.0), fine, tt)))
translation_asked words (Some text) target consts m asks fine h =
    let values = translation_constants words target consts asks.0 in
    inr (inr (inl ((target, consts, asks.0), fine, record { target = target; consts = consts; asks = asks.0; no_others = asks.1; short = h.0; translates = h.1 values })))

pub translation_made : (words : List (List ℕ)) (input : Option (List ℕ)) (target : Target) (consts : List (Name × Data)) (r : Result Output Ended)
    → TranslatesOnly words target consts → IfOk r (λ m. m.status ≡ status.Fine)
    → IfOk r (λ m. IfSome input (λ text. (length text ≤ most_bytes) × MakesTranslation target text consts m)) → IfOk r (MakesAsked words input)
translation_made words input target consts (Ok m) asks fine h = translation_asked words input target consts m asks fine h
translation_made words input target consts (Err e) asks fine h = tt

pub execution_made : (words : List (List ℕ)) (input : Option (List ℕ)) (schedule : Schedule) (settings : Settings) (consts : List (Name × Data)) (r : Result Output Ended)
    → ExecutesOnly words schedule settings consts → IfOk r (λ m. IsRunEnd m.status)
    → IfOk r (λ m. IfSome input (λ text. (length text ≤ most_bytes) × MakesRun schedule settings text consts m)) → IfOk r (MakesAsked words input)
execution_made words input schedule settings consts (Ok m) asks either h = execution_asked words input schedule settings consts m asks either h
execution_made words input schedule settings consts (Err e) asks either h = tt

-- ---- what came to the output

-- a status has one number
pub numbered : {s a b : Status} → s ≡ a → s ≡ b → number_of a ≡ number_of b
numbered e f = ap number_of (sym e ∙ f)

fine_no_run : (m : Output) → m.status ≡ status.Fine → m.status ≡ status.NotARun → ⊥
fine_no_run m e f = let g : 0 ≡ 30 = numbered e f in omega (arith, g)

-- a verdict with status 0 is that of a run, and with status 30 that of none
is_run_verdict : (v : Verdict) (m : Output) → MakesVerdict v m → m.status ≡ status.Fine → IsRunVerdict v
is_run_verdict (Run n) m h e = tt
is_run_verdict (Bad n w) m h e = absurd (fine_no_run m e h.status_is)

is_bad_verdict : (v : Verdict) (m : Output) → MakesVerdict v m → m.status ≡ status.NotARun → IsBadVerdict v
is_bad_verdict (Run n) m h e = absurd (fine_no_run m h.status_is e)
is_bad_verdict (Bad n w) m h e = tt

-- a prefix of what was made
pub into_fault : (words : List (List ℕ)) (input old new : Option (List ℕ)) (m : Output)
    → MakesAsked words input m → GrowsByPrefix old new (bytes_of m.written) → WritesPrefix words input old new
into_fault words None old new m (inl h) g = inl (h.0, tt)
into_fault words (Some text) old new m (inl h) g = inl (h.0, (number_of m.status, bytes_of m.written, h.2, g))
into_fault words None old new m (inr (inl h)) g = inr (inl (h.0, tt))
into_fault words (Some text) old new m (inr (inl h)) g = inr (inl (h.0, (h.2.0, h.2.1, subst (GrowsByPrefix old new) h.2.2.line_is g)))
into_fault words None old new m (inr (inr (inl h))) g = inr (inr (inl (h.0, tt)))
into_fault words (Some text) old new m (inr (inr (inl h))) g = inr (inr (inl (h.0, (bytes_of m.written, h.2, g))))
into_fault words input old new m (inr (inr (inr (inl h)))) g = inr (inr (inr (inl (bytes_of m.written, h.1, g))))
into_fault words None old new m (inr (inr (inr (inr h)))) g = inr (inr (inr (inr (h.0, tt))))
into_fault words (Some text) old new m (inr (inr (inr (inr h)))) g = inr (inr (inr (inr (h.0, (bytes_of m.written, h.2, g)))))

ran_with : (words : List (List ℕ)) (input old new : Option (List ℕ)) (m : Output) (s : Status) → m.status ≡ s → AsksSomeExecution words
    → IfSome input (λ text. Asked words text (number_of m.status) (bytes_of m.written)) → Grows old new (bytes_of m.written) → WritesBundle words input (number_of s) old new
ran_with words None old new m s e asks h g = (asks, tt)
ran_with words (Some text) old new m s e asks h g = (asks, (bytes_of m.written, subst (λ n. Asked words text n (bytes_of m.written)) (ap number_of e) h, g))

-- all of what was made, with each status
pub fine_to : (words : List (List ℕ)) (input old new : Option (List ℕ)) (m : Output) → m.status ≡ status.Fine
    → MakesAsked words input m → Grows old new (bytes_of m.written) → EndsWell words input old new
fine_to words input old new m e (inl h) g = inl (ran_with words input old new m status.Fine e h.0 h.2 g)
fine_to words None old new m e (inr (inl h)) g = inr (inl (h.0, tt))
fine_to words (Some text) old new m e (inr (inl h)) g =
    inr (inl (h.0, (h.2.0, is_run_verdict h.2.0 m h.2.2 e, h.2.1, subst (Grows old new) h.2.2.line_is g)))
fine_to words None old new m e (inr (inr (inl h))) g = inr (inr (inl (h.0, tt)))
fine_to words (Some text) old new m e (inr (inr (inl h))) g = inr (inr (inl (h.0, (bytes_of m.written, h.2, g))))
fine_to words input old new m e (inr (inr (inr (inl h)))) g = inr (inr (inr (inl (bytes_of m.written, h.1, g))))
fine_to words None old new m e (inr (inr (inr (inr h)))) g = inr (inr (inr (inr (h.0, tt))))
fine_to words (Some text) old new m e (inr (inr (inr (inr h)))) g = inr (inr (inr (inr (h.0, (bytes_of m.written, h.2, g)))))

-- with a status that is a run's alone
bundle_to : (words : List (List ℕ)) (input old new : Option (List ℕ)) (m : Output) (s : Status) → m.status ≡ s → (number_of s ≡ 0 → ⊥) → (number_of s ≡ 30 → ⊥)
    → MakesAsked words input m → Grows old new (bytes_of m.written) → WritesBundle words input (number_of s) old new
bundle_to words input old new m s e no_fine no_log (inl h) g = ran_with words input old new m s e h.0 h.2 g
bundle_to words input old new m s e no_fine no_log (inr (inr (inl h))) g = absurd (no_fine (numbered e h.1))
bundle_to words input old new m s e no_fine no_log (inr (inr (inr (inl h)))) g = absurd (no_fine (numbered e h.0))
bundle_to words input old new m s e no_fine no_log (inr (inr (inr (inr h)))) g = absurd (no_fine (numbered e h.1))
bundle_to words input old new m s e no_fine no_log (inr (inl h)) g = absurd (neither h.1)
  where
    neither : IsVerdictStatus m → ⊥
    neither (inl f) = no_fine (numbered e f)
    neither (inr f) = no_log (numbered e f)

pub halted_to : (words : List (List ℕ)) (input old new : Option (List ℕ)) (m : Output) → m.status ≡ status.Stopped
    → MakesAsked words input m → Grows old new (bytes_of m.written) → WritesBundle words input 20 old new
halted_to words input old new m e h g = bundle_to words input old new m status.Stopped e (λ n. omega (arith, n)) (λ n. omega (arith, n)) h g

pub spent_to : (words : List (List ℕ)) (input old new : Option (List ℕ)) (m : Output) → m.status ≡ status.Spent
    → MakesAsked words input m → Grows old new (bytes_of m.written) → WritesBundle words input 21 old new
spent_to words input old new m e h g = bundle_to words input old new m status.Spent e (λ n. omega (arith, n)) (λ n. omega (arith, n)) h g

pub quiet_to : (words : List (List ℕ)) (input old new : Option (List ℕ)) (m : Output) → m.status ≡ status.Quiet
    → MakesAsked words input m → Grows old new (bytes_of m.written) → WritesBundle words input 22 old new
quiet_to words input old new m e h g = bundle_to words input old new m status.Quiet e (λ n. omega (arith, n)) (λ n. omega (arith, n)) h g

pub full_to : (words : List (List ℕ)) (input old new : Option (List ℕ)) (m : Output) → m.status ≡ status.Full
    → MakesAsked words input m → Grows old new (bytes_of m.written) → WritesBundle words input 23 old new
full_to words input old new m e h g = bundle_to words input old new m status.Full e (λ n. omega (arith, n)) (λ n. omega (arith, n)) h g

pub not_a_run_to : (words : List (List ℕ)) (input old new : Option (List ℕ)) (m : Output) → m.status ≡ status.NotARun
    → MakesAsked words input m → Grows old new (bytes_of m.written) → WritesVerdict words input IsBadVerdict old new
not_a_run_to words input old new m e (inl h) g = absurd (none h.1)
  where
    none : IsRunEnd m.status → ⊥
    none (inl f) = fine_no_run m f e
    none (inr (inl f)) = let n : 20 ≡ 30 = numbered f e in omega (arith, n)
    none (inr (inr (inl f))) = let n : 21 ≡ 30 = numbered f e in omega (arith, n)
    none (inr (inr (inr (inl f)))) = let n : 22 ≡ 30 = numbered f e in omega (arith, n)
    none (inr (inr (inr (inr f)))) = let n : 23 ≡ 30 = numbered f e in omega (arith, n)
not_a_run_to words input old new m e (inr (inr (inl h))) g = absurd (fine_no_run m h.1 e)
not_a_run_to words input old new m e (inr (inr (inr (inl h)))) g = absurd (fine_no_run m h.0 e)
not_a_run_to words input old new m e (inr (inr (inr (inr h)))) g = absurd (fine_no_run m h.1 e)
not_a_run_to words None old new m e (inr (inl h)) g = (h.0, tt)
not_a_run_to words (Some text) old new m e (inr (inl h)) g =
    (h.0, (h.2.0, is_bad_verdict h.2.0 m h.2.2 e, h.2.1, subst (Grows old new) h.2.2.line_is g))

-- what was made has no status of a failed output
pub made_no_fault : (words : List (List ℕ)) (input : Option (List ℕ)) (m : Output) → MakesAsked words input m → m.status ≡ status.WriteFault → ⊥
made_no_fault words input m (inl h) e = ran h.1
  where
    ran : IsRunEnd m.status → ⊥
    ran (inl f) = let n : 0 ≡ 13 = numbered f e in omega (arith, n)
    ran (inr (inl f)) = let n : 20 ≡ 13 = numbered f e in omega (arith, n)
    ran (inr (inr (inl f))) = let n : 21 ≡ 13 = numbered f e in omega (arith, n)
    ran (inr (inr (inr (inl f)))) = let n : 22 ≡ 13 = numbered f e in omega (arith, n)
    ran (inr (inr (inr (inr f)))) = let n : 23 ≡ 13 = numbered f e in omega (arith, n)
made_no_fault words input m (inr (inl h)) e = judged h.1
  where
    judged : IsVerdictStatus m → ⊥
    judged (inl f) = let n : 0 ≡ 13 = numbered f e in omega (arith, n)
    judged (inr f) = let n : 30 ≡ 13 = numbered f e in omega (arith, n)
made_no_fault words input m (inr (inr (inl h))) e = let n : 0 ≡ 13 = numbered h.1 e in omega (arith, n)
made_no_fault words input m (inr (inr (inr (inl h)))) e = let n : 0 ≡ 13 = numbered h.0 e in omega (arith, n)
made_no_fault words input m (inr (inr (inr (inr h)))) e = let n : 0 ≡ 13 = numbered h.1 e in omega (arith, n)

-- nor that of a refusal
pub made_no_refusal : (words : List (List ℕ)) (input : Option (List ℕ)) (m : Output) → MakesAsked words input m → IsRefusal m.status → ⊥
made_no_refusal words input m (inl h) r = ran h.1
  where
    ran : IsRunEnd m.status → ⊥
    ran (inl f) = subst IsRefusal f r
    ran (inr (inl f)) = subst IsRefusal f r
    ran (inr (inr (inl f))) = subst IsRefusal f r
    ran (inr (inr (inr (inl f)))) = subst IsRefusal f r
    ran (inr (inr (inr (inr f)))) = subst IsRefusal f r
made_no_refusal words input m (inr (inl h)) r = judged h.1
  where
    judged : IsVerdictStatus m → ⊥
    judged (inl f) = subst IsRefusal f r
    judged (inr f) = subst IsRefusal f r
made_no_refusal words input m (inr (inr (inl h))) r = subst IsRefusal h.1 r
made_no_refusal words input m (inr (inr (inr (inl h)))) r = subst IsRefusal h.0 r
made_no_refusal words input m (inr (inr (inr (inr h)))) r = subst IsRefusal h.1 r

-- a verdict's status is one of two
pub verdict_status : (v : Verdict) (m : Output) → MakesVerdict v m → IsVerdictStatus m
verdict_status (Run n) m h = inl h.status_is
verdict_status (Bad n w) m h = inr h.status_is

-- ---- the lines of ends

-- no end of a command on a specification is that of a text that is no bundle
no_bundle : (consts : List (Name × Data)) (input : Option (List ℕ)) (before now : ℕ) (s : Status) → StopsSpecInput consts input before now s → s ≡ status.BadBundle → ⊥
no_bundle consts input before now s (inl h) e = let n : 11 ≡ 31 = numbered h.0 e in omega (arith, n)
no_bundle consts input before now s (inr (inl h)) e = let n : 12 ≡ 31 = numbered h.0 e in omega (arith, n)
no_bundle consts input before now s (inr (inr (inl h))) e = let n : 14 ≡ 31 = numbered h.0 e in omega (arith, n)
no_bundle consts input before now s (inr (inr (inr h))) e = let n : 40 ≡ 31 = numbered h e in omega (arith, n)

-- and no end of a command on a bundle is that of a refused specification
no_specification : (Cause : List ℕ → Type 0) (input : Option (List ℕ)) (before now : ℕ) (s : Status) → StopsBundleInput Cause input before now s → s ≡ status.SpecRefused → ⊥
no_specification Cause input before now s (inl h) e = let n : 31 ≡ 11 = numbered h.0 e in omega (arith, n)
no_specification Cause input before now s (inr (inl h)) e = let n : 12 ≡ 11 = numbered h.0 e in omega (arith, n)
no_specification Cause input before now s (inr (inr (inl h))) e = let n : 14 ≡ 11 = numbered h.0 e in omega (arith, n)
no_specification Cause input before now s (inr (inr (inr h))) e = let n : 40 ≡ 11 = numbered h e in omega (arith, n)

pub spec_lines : (words : List (List ℕ)) (consts : List (Name × Data)) (input : Option (List ℕ)) (before now : ℕ) (R Q : (line : List ℕ) → Type 0) (r : Result Output Ended)
    → ((e : Ended) → HasLine R e.status e.line → HasLine Q e.status e.line) → IfErr r (λ e. StopsSpecInput consts input before now e.status)
    → IfErr r (λ e. HasLine R e.status e.line) → IfErr r (λ e. HasOwnLine words input Q e.status e.line)
spec_lines words consts input before now R Q (Ok m) f stops lines = tt
spec_lines words consts input before now R Q (Err e) f stops lines = inl (f e lines, no_bundle consts input before now e.status stops)

-- a line that is named is one that is named in another sense
named_too : (L K : List ℕ → ℕ → Type 0) (input line : Option (List ℕ)) → ((text : List ℕ) (n : ℕ) → L text n → K text n) → NamesLine L input line → NamesLine K input line
named_too L K input None f h = absurd h
named_too L K None (Some l) f h = (h.0, h.1, tt)
named_too L K (Some text) (Some l) f h = (h.0, h.1, f text h.0 h.2)

pub bundle_lines : (words : List (List ℕ)) (Cause : List ℕ → Type 0) (Line : List ℕ → ℕ → Type 0) (input : Option (List ℕ)) (before now : ℕ) (Q : (line : List ℕ) → Type 0) (r : Result Output Ended)
    → ((text : List ℕ) (n : ℕ) → Line text n → IsNamedLine words text n) → IfErr r (λ e. StopsBundleInput Cause input before now e.status)
    → IfErr r (λ e. HasBundleLine Line input e.status e.line) → IfErr r (λ e. HasOwnLine words input Q e.status e.line)
bundle_lines words Cause Line input before now Q (Ok m) f stops lines = tt
bundle_lines words Cause Line input before now Q (Err e) f stops lines = go lines
  where
    go : HasBundleLine Line input e.status e.line → HasOwnLine words input Q e.status e.line
    go (inl h) = inr (h.0, named_too Line (IsNamedLine words) input e.line f h.1)
    go (inr h) = inl (subst (HasLine Q e.status) (sym h.1) (no_specification Cause input before now e.status stops), h.0)

-- of a check, and of a migration
pub named_by_check : (words : List (List ℕ)) → AsksCheck words → (text : List ℕ) (n : ℕ) → IsLineToCheck text n → IsNamedLine words text n
named_by_check words asks text n h = (h.0, λ check. h.1, λ migration. absurd (check_no_migration words asks migration))

pub named_by_migration : (words : List (List ℕ)) → AsksMigration words → (text : List ℕ) (n : ℕ) → IsLineToMigrate text n → IsNamedLine words text n
named_by_migration words asks text n h = (h.0, λ check. absurd (check_no_migration words check asks), λ migration. h.1)

-- an end of another number has no line
pub no_line : (words : List (List ℕ)) (input : Option (List ℕ)) (Q : (line : List ℕ) → Type 0) (s : Status) (line : Option (List ℕ)) (n : ℕ) → number_of s ≡ n → (n ≡ 11 → ⊥) → (n ≡ 31 → ⊥) → line ≡ None
    → HasOwnLine words input Q s line
no_line words input Q s line n is a b none = inl (subst (HasLine Q s) (sym none) (λ e. a (sym is ∙ ap number_of e)), λ e. b (sym is ∙ ap number_of e))

-- what was made has none
pub made_line : (words : List (List ℕ)) (input : Option (List ℕ)) (Q : (line : List ℕ) → Type 0) (s : Status) (line : Option (List ℕ)) (m : Output) → s ≡ m.status → line ≡ None
    → MakesAsked words input m → HasOwnLine words input Q s line
made_line words input Q s line m e none h = made h
  where
    ran : IsRunEnd m.status → HasOwnLine words input Q s line
    ran (inl f) = no_line words input Q s line 0 (ap number_of (e ∙ f)) (λ n. omega (arith, n)) (λ n. omega (arith, n)) none
    ran (inr (inl f)) = no_line words input Q s line 20 (ap number_of (e ∙ f)) (λ n. omega (arith, n)) (λ n. omega (arith, n)) none
    ran (inr (inr (inl f))) = no_line words input Q s line 21 (ap number_of (e ∙ f)) (λ n. omega (arith, n)) (λ n. omega (arith, n)) none
    ran (inr (inr (inr (inl f)))) = no_line words input Q s line 22 (ap number_of (e ∙ f)) (λ n. omega (arith, n)) (λ n. omega (arith, n)) none
    ran (inr (inr (inr (inr f)))) = no_line words input Q s line 23 (ap number_of (e ∙ f)) (λ n. omega (arith, n)) (λ n. omega (arith, n)) none

    judged : IsVerdictStatus m → HasOwnLine words input Q s line
    judged (inl f) = no_line words input Q s line 0 (ap number_of (e ∙ f)) (λ n. omega (arith, n)) (λ n. omega (arith, n)) none
    judged (inr f) = no_line words input Q s line 30 (ap number_of (e ∙ f)) (λ n. omega (arith, n)) (λ n. omega (arith, n)) none

    made : MakesAsked words input m → HasOwnLine words input Q s line
    made (inl h) = ran h.1
    made (inr (inl h)) = judged h.1
    made (inr (inr (inl h))) = no_line words input Q s line 0 (ap number_of (e ∙ h.1)) (λ n. omega (arith, n)) (λ n. omega (arith, n)) none
    made (inr (inr (inr (inl h)))) = no_line words input Q s line 0 (ap number_of (e ∙ h.0)) (λ n. omega (arith, n)) (λ n. omega (arith, n)) none
    made (inr (inr (inr (inr h)))) = no_line words input Q s line 0 (ap number_of (e ∙ h.1)) (λ n. omega (arith, n)) (λ n. omega (arith, n)) none

-- ---- the commands `check` and `migrate`

-- of a text that isn't taken
pub bundle_stopped : (Cause : Type 0) (n : ℕ) (s : Status) (line : Option (List ℕ)) → Cause → IsNoBundleEnd n s line → StopsBundle Cause s
bundle_stopped Cause n s line none (inl h) = inl (h.0, none)
bundle_stopped Cause n s line none (inr h) = inr h.0

pub end_line : (Line : List ℕ → ℕ → Type 0) (text : List ℕ) (n : ℕ) (s : Status) (line : Option (List ℕ)) → Line text n → IsNoBundleEnd n s line → HasBundleLine Line (Some text) s line
end_line Line text n s line there (inl h) = inl (h.0, subst (NamesLine Line (Some text)) (sym h.1) (n, refl, there))
end_line Line text n s line there (inr h) = inr (λ e. let n : 40 ≡ 31 = numbered h.0 e in omega (arith, n), h.1)

pub verdict_line_none : (input : Option (List ℕ)) (r : Result Output Ended) → IfErr r (λ e. e.status ≡ status.NoMemory) → IfErr r (λ e. e.line ≡ None)
    → IfErr r (λ e. HasBundleLine IsLineToCheck input e.status e.line)
verdict_line_none input (Ok m) stopped none = tt
verdict_line_none input (Err e) stopped none = inr (λ b. let n : 40 ≡ 31 = numbered stopped b in omega (arith, n), none)

pub check_made : (words : List (List ℕ)) (input : Option (List ℕ)) (r : Result Output Ended) → AsksCheck words → IfOk r IsVerdictStatus
    → IfOk r (λ m. IfSome input (λ text. (length text ≤ most_bundle_bytes) × MakesJudged text m)) → IfOk r (MakesAsked words input)
check_made words input (Ok m) asks either h = check_asked words input m asks either h
check_made words input (Err e) asks either h = tt

pub check_stopped : (words : List (List ℕ)) (input : Option (List ℕ)) (before now : ℕ) (s : Status) → AsksCheck words → StopsCheck input before now s → Stops words input before now s
check_stopped words input before now s asks (inl h) = subst (Stops words input before now) (sym h.0) (inl (asks, h.1))
check_stopped words input before now s asks (inr (inl h)) = subst (Stops words input before now) (sym h.0) (inr (inl asks), h.1)
check_stopped words input before now s asks (inr (inr (inl h))) = subst (Stops words input before now) (sym h.0) (inr (inl (asks, h.1)))
check_stopped words input before now s asks (inr (inr (inr e))) = subst (Stops words input before now) (sym e) tt

pub migration_made : (words : List (List ℕ)) (input : Option (List ℕ)) (r : Result Output Ended) → AsksMigration words → IfOk r (λ m. m.status ≡ status.Fine)
    → IfOk r (λ m. IfSome input (λ text. Migrated text (bytes_of m.written))) → IfOk r (MakesAsked words input)
migration_made words input (Ok m) asks fine h = inr (inr (inr (inr (asks, fine, h))))
migration_made words input (Err e) asks fine h = tt

pub migration_stopped : (words : List (List ℕ)) (input : Option (List ℕ)) (before now : ℕ) (s : Status) → AsksMigration words → StopsMigration input before now s → Stops words input before now s
migration_stopped words input before now s asks (inl h) = subst (Stops words input before now) (sym h.0) (inr (asks, h.1))
migration_stopped words input before now s asks (inr (inl h)) = subst (Stops words input before now) (sym h.0) (inr (inr (inr asks)), h.1)
migration_stopped words input before now s asks (inr (inr (inl h))) = subst (Stops words input before now) (sym h.0) (inr (inr (inr (asks, h.1))))
migration_stopped words input before now s asks (inr (inr (inr e))) = subst (Stops words input before now) (sym e) tt

pub bundle_refuses : (Cause : List ℕ → Type 0) (input : Option (List ℕ)) (before now : ℕ) (s : Status) → StopsBundleInput Cause input before now s → IsRefusal s
bundle_refuses Cause input before now s (inl h) = subst IsRefusal (sym h.0) tt
bundle_refuses Cause input before now s (inr (inl h)) = subst IsRefusal (sym h.0) tt
bundle_refuses Cause input before now s (inr (inr (inl h))) = subst IsRefusal (sym h.0) tt
bundle_refuses Cause input before now s (inr (inr (inr e))) = subst IsRefusal (sym e) tt

-- the input tells the text
told_line : (Line : List ℕ → ℕ → Type 0) (input : Option (List ℕ)) (text : List ℕ) (s : Status) (line : Option (List ℕ)) → IfSome input (λ bs. text ≡ bs) → HasBundleLine Line (Some text) s line → HasBundleLine Line input s line
told_line Line input text s line told (inr h) = inr h
told_line Line input text s None told (inl h) = absurd h.1
told_line Line None text s (Some l) told (inl h) = inl (h.0, (h.1.0, h.1.1, tt))
told_line Line (Some bs) text s (Some l) told (inl h) = inl (h.0, (h.1.0, h.1.1, subst (λ t. Line t h.1.0) told h.1.2))

pub told_lines : (Line : List ℕ → ℕ → Type 0) (input : Option (List ℕ)) (text : List ℕ) (r : Result Output Ended) → IfSome input (λ bs. text ≡ bs) → IfErr r (λ e. HasBundleLine Line (Some text) e.status e.line)
    → IfErr r (λ e. HasBundleLine Line input e.status e.line)
told_lines Line input text (Ok m) told lines = tt
told_lines Line input text (Err e) told lines = told_line Line input text e.status e.line told lines

-- ---- what came to the error output

-- the line of a refused specification
pub said_refusal : (words : List (List ℕ)) (input old new : Option (List ℕ)) (s : Status) (line : Option (List ℕ)) (Quiet : Type 0) → HasOwnLine words input (RefusesSpec words input) s line
    → (line_of s ≡ None → Quiet → IfSome line (λ l. Grows old new l)) → s ≡ status.SpecRefused → Quiet → SaysRefusal words input old new
said_refusal words input old new s None Quiet (inl h) said e quiet = absurd (h.0 e)
said_refusal words input old new s (Some l) Quiet (inl h) said e quiet = (l, said (ap line_of e) quiet, h.0.1)
said_refusal words input old new s line Quiet (inr h) said e quiet = absurd (let n : 31 ≡ 11 = numbered h.0 e in omega (arith, n))

-- and of a text that is no bundle, or isn't brought over
said_line : (words : List (List ℕ)) (Line : List ℕ → ℕ → Type 0) (input old new : Option (List ℕ)) (Q : (line : List ℕ) → Type 0) (s : Status) (line : Option (List ℕ)) (Quiet : Type 0)
    → ((text : List ℕ) (n : ℕ) → IsNamedLine words text n → Line text n) → HasOwnLine words input Q s line
    → (line_of s ≡ None → Quiet → IfSome line (λ l. Grows old new l)) → s ≡ status.BadBundle → Quiet → SaysLineOf Line input old new
said_line words Line input old new Q s line Quiet f (inl h) said e quiet = absurd (h.1 e)
said_line words Line input old new Q s None Quiet f (inr h) said e quiet = absurd h.1
said_line words Line None old new Q s (Some l) Quiet f (inr h) said e quiet = (h.1.0, subst (Grows old new) h.1.1 (said (ap line_of e) quiet), tt)
said_line words Line (Some text) old new Q s (Some l) Quiet f (inr h) said e quiet = (h.1.0, subst (Grows old new) h.1.1 (said (ap line_of e) quiet), f text h.1.0 h.1.2)

pub said_bundle : (words : List (List ℕ)) (input old new : Option (List ℕ)) (Q : (line : List ℕ) → Type 0) (s : Status) (line : Option (List ℕ)) (Quiet : Type 0) → HasOwnLine words input Q s line
    → (line_of s ≡ None → Quiet → IfSome line (λ l. Grows old new l)) → s ≡ status.BadBundle → Quiet → SaysLineOf IsLineOf input old new
said_bundle words input old new Q s line Quiet h said e quiet = said_line words IsLineOf input old new Q s line Quiet (λ text n named. named.0) h said e quiet

pub said_untied : (words : List (List ℕ)) (input old new : Option (List ℕ)) (Q : (line : List ℕ) → Type 0) (s : Status) (line : Option (List ℕ)) (Quiet : Type 0) → HasOwnLine words input Q s line
    → (line_of s ≡ None → Quiet → IfSome line (λ l. Grows old new l)) → s ≡ status.BadBundle → AsksCheck words → Quiet → SaysLineOf IsCheckLine input old new
said_untied words input old new Q s line Quiet h said e asks quiet = said_line words IsCheckLine input old new Q s line Quiet (λ text n named. named.1 asks) h said e quiet

pub said_migration : (words : List (List ℕ)) (input old new : Option (List ℕ)) (Q : (line : List ℕ) → Type 0) (s : Status) (line : Option (List ℕ)) (Quiet : Type 0) → HasOwnLine words input Q s line
    → (line_of s ≡ None → Quiet → IfSome line (λ l. Grows old new l)) → s ≡ status.BadBundle → AsksMigration words → Quiet → SaysLineOf IsMigrationLine input old new
said_migration words input old new Q s line Quiet h said e asks quiet = said_line words IsMigrationLine input old new Q s line Quiet (λ text n named. named.2 asks) h said e quiet

-- where the command did its work there is none
pub silent_status : (s : Status) → IsSilent s → line_of s ≡ None
silent_status status.Fine h = refl
silent_status status.Stopped h = refl
silent_status status.Spent h = refl
silent_status status.Quiet h = refl
silent_status status.Full h = refl
silent_status status.NotARun h = refl
silent_status status.Usage h = absurd h
silent_status status.SpecRefused h = absurd h
silent_status status.BadBundle h = absurd h
silent_status status.ReadFault h = absurd h
silent_status status.WriteFault h = absurd h
silent_status status.TooLong h = absurd h
silent_status status.NoMemory h = absurd h

pub silent_line : (words : List (List ℕ)) (input : Option (List ℕ)) (Q : (line : List ℕ) → Type 0) (s : Status) (line : Option (List ℕ)) → IsSilent s → HasOwnLine words input Q s line → line ≡ None
silent_line words input Q s None quiet h = refl
silent_line words input Q s (Some l) quiet (inl h) = absurd (subst IsSilent h.0.0 quiet)
silent_line words input Q s (Some l) quiet (inr h) = absurd (subst IsSilent h.0 quiet)

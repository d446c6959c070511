-- The promise where nothing is done, since there is no memory.
use Rattle.std.proofs.Common.{◌≡◌, inr, ℕ, List, refl, ap, arith}
use Rattle.pgo_front.specs.declared.status.Status.{Status}
use Rattle.pgo_front.specs.declared.status.Status.TheVariants as status
use Rattle.pgo_front.specs.Statuses.{number_of}
use Rattle.pgo_front.specs.Answers.{SaysLine}
use Rattle.pgo_front.specs.Streams.{Stream, before, after, Failed}
use Rattle.pgo_front.specs.Headline.{Headline}

pub nothing_done : {S O E : Type 0} (words : List (List ℕ)) (input : Stream S) (out : Stream O) (err : Stream E) → input.new ≡ input.old → out.new ≡ out.old
    → ((Failed err → ⊥) → SaysLine status.NoMemory (before err) (after err)) → Headline words input out err status.NoMemory
nothing_done words input out err unread kept says = record {
  fine = λ e. absurd (let n : 40 ≡ 0 = ap number_of e in omega (arith, n));
  halted = λ e. absurd (let n : 40 ≡ 20 = ap number_of e in omega (arith, n));
  spent = λ e. absurd (let n : 40 ≡ 21 = ap number_of e in omega (arith, n));
  quiet = λ e. absurd (let n : 40 ≡ 22 = ap number_of e in omega (arith, n));
  full = λ e. absurd (let n : 40 ≡ 23 = ap number_of e in omega (arith, n));
  runs = λ schedule settings text consts told read wrote short x. inr (inr (inr (inr (inr refl))));
  translates = λ target text consts told read wrote short x. inr refl;
  not_a_run = λ e. absurd (let n : 40 ≡ 30 = ap number_of e in omega (arith, n));
  is_run = λ text m consts l told read wrote short bundle run. inr refl;
  is_no_run = λ text m consts l told read wrote short bundle none. inr refl;
  migrates = λ text written told read wrote short m. inr refl;
  loads = λ size asks wrote x. inr refl;
  stopped = λ _. tt;
  usage = λ _. inr refl;
  too_long = λ schedule settings text consts told read long. inr refl;
  refused = λ schedule settings text consts told read short none. inr refl;
  too_long_to_translate = λ target text consts told read long. inr refl;
  not_translated = λ target text consts told read short none. inr refl;
  too_long_bundle = λ text told read long. inr refl;
  no_bundle = λ text told read short none. inr refl;
  too_long_to_migrate = λ text told read long. inr refl;
  not_migrated = λ text told read short none. inr refl;
  load_refused = λ size asks none. inr refl;
  kept = λ _. kept;
  says = says;
  says_refusal = λ e. absurd (let n : 40 ≡ 11 = ap number_of e in omega (arith, n));
  says_bundle = λ e. absurd (let n : 40 ≡ 31 = ap number_of e in omega (arith, n));
  says_untied = λ e. absurd (let n : 40 ≡ 31 = ap number_of e in omega (arith, n));
  says_migration = λ e. absurd (let n : 40 ≡ 31 = ap number_of e in omega (arith, n));
  read_failed = inr (ap input.faults unread);
  write_failed = inr (ap out.faults kept);
  write_fault = λ e. absurd (let n : 40 ≡ 13 = ap number_of e in omega (arith, n));
  prefix = λ e. absurd (let n : 40 ≡ 13 = ap number_of e in omega (arith, n));
  ended = λ no_load all. absurd all;
  unread = λ _. unread;
  silent = λ quiet. absurd quiet;
}

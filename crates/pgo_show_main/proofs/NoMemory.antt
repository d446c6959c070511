-- The promise where nothing is done, since there is no memory.
use Rattle.std.proofs.Common.{◌≡◌, inl, inr, ℕ, List, refl, ap, arith}
use Rattle.pgo_show.specs.declared.status.Status.TheVariants as status
use Rattle.pgo_show.specs.Statuses.{number_of}
use Rattle.pgo_show.specs.Makes.{SaysLine}
use Rattle.pgo_show.specs.Streams.{Stream, before, after, Failed}
use Rattle.pgo_show.specs.Promise.{Promise}

pub nothing_done : {S O E : Type 0} (words : List (List ℕ)) (input : Stream S) (out : Stream O) (err : Stream E) → input.new ≡ input.old → out.new ≡ out.old
    → ((Failed err → ⊥) → SaysLine status.NoMemory (before err) (after err)) → Promise words input out err status.NoMemory
nothing_done words input out err unread kept says = record {
  fine = λ e. absurd (let n : 40 ≡ 0 = ap number_of e in omega (arith, n));
  explained = λ wish text m consts l some told read wrote short bundle has. inr refl;
  lacking = λ wish text m consts l some told read wrote short bundle lacks. inr refl;
  stopped = λ _. inl refl;
  usage = λ _. inr refl;
  too_long = λ wish text some told read long. inr refl;
  no_bundle = λ wish text some told read short none. inr refl;
  kept = λ _. kept;
  says = says;
  says_bundle = λ e. absurd (let n : 40 ≡ 31 = ap number_of e in omega (arith, n));
  says_component = λ e. absurd (let n : 40 ≡ 10 = ap number_of e in omega (arith, n));
  read_failed = inr (ap input.faults unread);
  write_failed = inr (ap out.faults kept);
  write_fault = λ e. absurd (let n : 40 ≡ 13 = ap number_of e in omega (arith, n));
  prefix = λ e. absurd (let n : 40 ≡ 13 = ap number_of e in omega (arith, n));
  ended = λ all. absurd all;
  unread = λ _. unread;
  silent = λ e. absurd (let n : 40 ≡ 0 = ap number_of e in omega (arith, n));
}

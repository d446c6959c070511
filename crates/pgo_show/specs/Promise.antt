-- The promise: what is done with the words, the input and the outputs, and with which status it ends.
use Rattle.std.specs.Prelude.{◌≡◌, ◌≤◌, ◌<◌, ◌⊎◌, ℕ, List, length, Some, None, IfSome}
use Rattle.pgo_base.specs.Lookup.{Vars}
use Rattle.pgo_io.specs.Sink.{Grows, GrowsByPrefix}
use Rattle.pgo_bundle.specs.BundleLog.{BundleLog}
use Rattle.pgo_model.specs.Module.{Module}
use Rattle.pgo_log_text.specs.LineNumbers.{IsLineOf}
use Rattle.pgo_log_text.specs.ReadBundle.{IsReadBundle, IsNoBundle}
use Rattle.pgo_show.specs.declared.status.Status.{Status}
use Rattle.pgo_show.specs.declared.status.Status.TheVariants as status
use Rattle.pgo_show.specs.Makes.{most_bytes, MadeAsked, bundle_line, component_line, StopsAsked, IsAtEnd, ReadsAll, SaysLine}
use Rattle.pgo_show.specs.Wishes.{Wish, asked, component_asked, IsLacking}
use Rattle.pgo_show.specs.Streams.{Stream, before, after, Failed}

-- the status, or want of memory, which is free
abbrev pub OrNoMemory : Status → Status → Type 0
OrNoMemory s expected = (s ≡ expected) ⊎ (s ≡ status.NoMemory)

-- a status that leaves the output as it was
abbrev pub IsRefusal : Status → Type 0
IsRefusal status.Fine = ⊥
IsRefusal status.WriteFault = ⊥
IsRefusal status.Usage = Unit {0}
IsRefusal status.ReadFault = Unit {0}
IsRefusal status.TooLong = Unit {0}
IsRefusal status.BadBundle = Unit {0}
IsRefusal status.NoComponent = Unit {0}
IsRefusal status.NoMemory = Unit {0}

-- A call with these words, on this input, this output and this error output, ends with this status. Each status has its cause, and each
-- cause its status, or there is no memory.
pub record Promise {S O E : Type 0} (words : List (List ℕ)) (input : Stream S) (out : Stream O) (err : Stream E) (s : Status) : Type 0 where
  -- The output has grown by what the words ask for of the bundle that the input is: the text that explains it, its picture, or the values
  -- of a component.
  pub fine : s ≡ status.Fine → (asked words ≡ None → ⊥) × IfSome (before input) (λ text. (written : List ℕ) × MadeAsked (asked words) text written × Grows (before out) (after out) written)
  -- A bundle is explained, and a component that it doesn't have is refused.
  pub explained : (wish : Wish) (text : List ℕ) (m : Module) (consts : Vars) (l : BundleLog) → asked words ≡ Some wish → before input ≡ Some text → ¬ Failed input → ¬ Failed out
      → length text ≤ most_bytes → IsReadBundle text m consts l → ¬ IsLacking wish l → OrNoMemory s status.Fine
  pub lacking : (wish : Wish) (text : List ℕ) (m : Module) (consts : Vars) (l : BundleLog) → asked words ≡ Some wish → before input ≡ Some text → ¬ Failed input → ¬ Failed out
      → length text ≤ most_bytes → IsReadBundle text m consts l → IsLacking wish l → OrNoMemory s status.NoComponent
  -- What refuses: words, and the input.
  pub stopped : IsRefusal s → (s ≡ status.NoMemory) ⊎ StopsAsked (asked words) (before input) (input.faults input.old) (input.faults input.new) s
  pub usage : asked words ≡ None → OrNoMemory s status.Usage
  pub too_long : (wish : Wish) (text : List ℕ) → asked words ≡ Some wish → before input ≡ Some text → ¬ Failed input → most_bytes < length text → OrNoMemory s status.TooLong
  pub no_bundle : (wish : Wish) (text : List ℕ) → asked words ≡ Some wish → before input ≡ Some text → ¬ Failed input → length text ≤ most_bytes → IsNoBundle text → OrNoMemory s status.BadBundle
  -- A refusal writes nothing but its line.
  pub kept : IsRefusal s → out.new ≡ out.old
  pub says : ¬ Failed err → SaysLine s (before err) (after err)
  pub says_bundle : s ≡ status.BadBundle → ¬ Failed err → (n : ℕ) × Grows (before err) (after err) (bundle_line n) × IfSome (before input) (λ text. IsLineOf text n)
  pub says_component : s ≡ status.NoComponent → ¬ Failed err → Grows (before err) (after err) (component_line (component_asked (asked words)))
  -- A failure of the input or the output is never passed over.
  pub read_failed : (s ≡ status.ReadFault) ⊎ (input.faults input.new ≡ input.faults input.old)
  pub write_failed : (s ≡ status.WriteFault) ⊎ (out.faults out.new ≡ out.faults out.old)
  pub write_fault : s ≡ status.WriteFault → Failed out
  pub prefix : s ≡ status.WriteFault → IfSome (before input) (λ text. (written : List ℕ) × MadeAsked (asked words) text written × GrowsByPrefix (before out) (after out) written)
  -- What is read to its end, what isn't read, and where nothing is said.
  pub ended : ReadsAll s → IsAtEnd (before input) (after input)
  pub unread : asked words ≡ None → input.new ≡ input.old
  pub silent : s ≡ status.Fine → err.new ≡ err.old

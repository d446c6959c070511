-- What is made of the input, and why nothing is.
use Rattle.std.specs.Prelude.{◌≡◌, ◌≤◌, ◌<◌, ◌⊎◌, ℕ, List, [], ◌++◌, length, codes, decimal, Option, Some, None, IfSome, Result, Ok, Err}
use Rattle.std.specs.Global.{Vec}
use Rattle.pgo_io.specs.Faults.{Rose}
use Rattle.pgo_io.specs.Sink.{Grows, GrowsByPrefix}
use Rattle.pgo_base.specs.Lookup.{Vars}
use Rattle.pgo_base.specs.declared.module.Module as memory
use Rattle.pgo_bundle.specs.BundleLog.{BundleLog}
use Rattle.pgo_bundle.specs.declared.log.BundleLog as logs
use Rattle.pgo_bundle.specs.View.{bundle_log_view}
use Rattle.pgo_model.specs.Module.{Module}
use Rattle.pgo_model.specs.ModuleText.{Line, flatten}
use Rattle.pgo_model.specs.ModuleView.{module_view}
use Rattle.pgo_log_text.specs.LineNumbers.{IsLineOf}
use Rattle.pgo_log_text.specs.ReadBundle.{IsReadBundle, IsNoBundle, IsOnlyBundle}
use Rattle.pgo_show.specs.declared.ended.Ended.{Ended}
use Rattle.pgo_show.specs.declared.status.Status.{Status}
use Rattle.pgo_show.specs.declared.status.Status.TheVariants as status
use Rattle.pgo_show.specs.Statuses.{line_of}
use Rattle.pgo_show.specs.Wishes.{Wish, lines_asked, IsLacking}
use Rattle.pgo_show.specs.Streams.{Stream, before, after, Failed}

-- the most bytes of a bundle
abbrev pub most_bytes : ℕ
most_bytes = 268435456

-- ---- the text

abbrev pub text_of_lines : Option (List Line) → Option (List ℕ)
text_of_lines None = None
text_of_lines (Some ls) = Some (flatten ls)

-- the text is the bundle of one module, its constants and its log, and this is what is asked for of it
pub record Explains (wish : Wish) (text written : List ℕ) : Type 0 where
  pub written_module : Module
  pub consts : Vars
  pub log : BundleLog
  pub bundle : IsReadBundle text written_module consts log
  pub only : IsOnlyBundle text written_module consts log
  pub written_is : text_of_lines (lines_asked wish written_module log) ≡ Some written

abbrev pub ExplainsShort : (wish : Wish) → (text written : List ℕ) → Type 0
ExplainsShort wish text written = (length text ≤ most_bytes) × Explains wish text written

-- the text is a bundle whose log lacks the component that is asked for
pub record Lacks (wish : Wish) (text : List ℕ) : Type 0 where
  pub written_module : Module
  pub consts : Vars
  pub log : BundleLog
  pub bundle : IsReadBundle text written_module consts log
  pub only : IsOnlyBundle text written_module consts log
  pub lacking : IsLacking wish log

abbrev pub LacksShort : (wish : Wish) → (text : List ℕ) → Type 0
LacksShort wish text = (length text ≤ most_bytes) × Lacks wish text

-- what is asked for of a bundle that was read
abbrev pub lines_told : Wish → memory.Module → logs.BundleLog → Option (List Line)
lines_told w m l = lines_asked w (module_view m) (bundle_log_view l)

abbrev pub text_told : Wish → memory.Module → logs.BundleLog → Option (List ℕ)
text_told w m l = text_of_lines (lines_told w m l)

-- ---- refusals

-- `pgo: bundle at line n`, where a text is no bundle
abbrev pub bundle_line : ℕ → List ℕ
bundle_line n = codes "pgo: bundle at line " ++ (decimal n ++ codes "\n")

-- the text is no bundle, and its line says so, with this number; or there was no memory
abbrev pub IsNoBundleEnd : ℕ → Status → Option (List ℕ) → Type 0
IsNoBundleEnd n s line = ((s ≡ status.BadBundle) × (line ≡ Some (bundle_line n))) ⊎ ((s ≡ status.NoMemory) × (line ≡ None))

-- `pgo: no component C`
abbrev pub component_line : List ℕ → List ℕ
component_line c = codes "pgo: no component " ++ (c ++ codes "\n")

-- the component isn't there, and its line names it; or there was no memory
abbrev pub IsNoComponentEnd : List ℕ → Status → Option (List ℕ) → Type 0
IsNoComponentEnd c s line = ((s ≡ status.NoComponent) × (line ≡ Some (component_line c))) ⊎ ((s ≡ status.NoMemory) × (line ≡ None))

-- why there is no text: the component isn't there, and the line names it; or there was no memory
abbrev pub IsTextEnd : (text : Option (List ℕ)) → (component : List ℕ) → Status → Option (List ℕ) → Type 0
IsTextEnd text c s line = ((text ≡ None) × IsNoComponentEnd c s line) ⊎ ((s ≡ status.NoMemory) × (line ≡ None))

-- a status whose line, if it has one, is its own
abbrev pub Others : Status → Type 0
Others status.Fine = Unit {0}
Others status.Usage = Unit {0}
Others status.ReadFault = Unit {0}
Others status.WriteFault = Unit {0}
Others status.TooLong = Unit {0}
Others status.BadBundle = ⊥
Others status.NoComponent = ⊥
Others status.NoMemory = Unit {0}

-- a line that names a line of the input
abbrev pub NamesLine : (input line : Option (List ℕ)) → Type 0
NamesLine input None = ⊥
NamesLine input (Some l) = (n : ℕ) × (l ≡ bundle_line n) × IfSome input (λ text. IsLineOf text n)

-- such a line comes with a text that is no bundle, one that names the component with one that isn't there, and no line else
abbrev pub HasLine : (component : List ℕ) → (input : Option (List ℕ)) → Status → (line : Option (List ℕ)) → Type 0
HasLine c input s line =
    ((s ≡ status.BadBundle) × NamesLine input line)
    ⊎ (((s ≡ status.NoComponent) × (line ≡ Some (component_line c))) ⊎ (Others s × (line ≡ None)))

-- why the input was not read to its end, or was too long
abbrev pub StopsReading : (input : Option (List ℕ)) → (faults_before faults_now : ℕ) → Status → Type 0
StopsReading input before now s =
    ((s ≡ status.ReadFault) × Rose before now) ⊎ (((s ≡ status.TooLong) × IfSome input (λ text. most_bytes < length text)) ⊎ (s ≡ status.NoMemory))

-- the text is no bundle, or lacks the component, or there was no memory
abbrev pub StopsText : Wish → (text : List ℕ) → Status → Type 0
StopsText w text s = ((s ≡ status.BadBundle) × IsNoBundle text) ⊎ (((s ≡ status.NoComponent) × Lacks w text) ⊎ (s ≡ status.NoMemory))

-- why nothing was made of this input
abbrev pub Stops : Wish → (input : Option (List ℕ)) → (faults_before faults_now : ℕ) → Status → Type 0
Stops w input before now s =
    ((s ≡ status.BadBundle) × IfSome input (λ text. (length text ≤ most_bytes) × IsNoBundle text))
    ⊎ (((s ≡ status.NoComponent) × IfSome input (LacksShort w)) ⊎ StopsReading input before now s)

-- why nothing was made of this input for what the words ask for
abbrev pub StopsAsked : Option Wish → (input : Option (List ℕ)) → (faults_before faults_now : ℕ) → Status → Type 0
StopsAsked None input before now s = s ≡ status.Usage
StopsAsked (Some w) input before now s = Stops w input before now s

-- what was made of a text for what the words ask for
abbrev pub MadeAsked : Option Wish → (text written : List ℕ) → Type 0
MadeAsked None text written = ⊥
MadeAsked (Some w) text written = ExplainsShort w text written

-- where the input told its text, nothing of it is left
abbrev pub IsAtEnd : (old new : Option (List ℕ)) → Type 0
IsAtEnd old new = IfSome old (λ _. new ≡ Some [])

-- a status that comes after the input was read to its end
abbrev pub ReadsAll : Status → Type 0
ReadsAll status.Fine = Unit {0}
ReadsAll status.WriteFault = Unit {0}
ReadsAll status.BadBundle = Unit {0}
ReadsAll status.NoComponent = Unit {0}
ReadsAll status.Usage = ⊥
ReadsAll status.ReadFault = ⊥
ReadsAll status.TooLong = ⊥
ReadsAll status.NoMemory = ⊥

-- ---- what is said and written

-- the error output has grown by the line of the status, where it has one
abbrev pub SaysLine : Status → (old new : Option (List ℕ)) → Type 0
SaysLine s old new = IfSome (line_of s) (λ l. Grows old new l)

-- all of what was made came to the output
pub record IsWritten {O : Type 0} (text : List ℕ) (out : Stream O) (s : Status) : Type 0 where
  pub status_is : s ≡ status.Fine
  pub all : Grows (before out) (after out) text
  pub steady : out.faults out.new ≡ out.faults out.old

-- the output failed, and a prefix of what was made came to it
pub record IsCutShort {O : Type 0} (text : List ℕ) (out : Stream O) (s : Status) : Type 0 where
  pub status_is : s ≡ status.WriteFault
  pub part : GrowsByPrefix (before out) (after out) text
  pub cause : Failed out

-- one of both, without a line; or it ends as it stopped, and the output is as it was
abbrev pub EndsAs : {O : Type 0} → Result (Vec ℕ) Ended → Stream O → Ended → Type 0
EndsAs (Ok v) out e = (e.line ≡ None) × (IsWritten v.items out e.status ⊎ IsCutShort v.items out e.status)
EndsAs (Err stop) out e = (e ≡ stop) × (out.new ≡ out.old)

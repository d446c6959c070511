-- Which texts are bundles, of which module, constants and log. The accounts of a bundle of version 1 are read for their form alone. In a
-- text components have no owner, and what entries print stands apart.
use Rattle.std.specs.Prelude.{◌≡◌, ◌<◌, ℕ, IsTrue, List, [], ◌∷◌, ◌++◌, length, map, Option, Some, None}
use Rattle.pgo_base.specs.Data.{Data}
use Rattle.pgo_base.specs.Lookup.{Name, Vars}
use Rattle.pgo_model.specs.ValueText.{value_text}
use Rattle.pgo_model.specs.Machine.{Entry}
use Rattle.pgo_model.specs.Log.{Unowned, Change, Effect}
use Rattle.pgo_model.specs.Module.{Module}
use Rattle.pgo_model.specs.ModuleText.{flatten}
use Rattle.pgo_model.specs.BundleParts.{count_limit, is_read_name, is_run_status}
use Rattle.pgo_value_text.specs.IsValueText.{IsValueText}
use Rattle.pgo_module_spells.specs.Spells.{SpellsModule}
pub use Rattle.pgo_bundle.specs.Accounts.{AttemptLine, StepLine, NoteLine, HeldLine, HeldLogLine, DownLine, FullLine, attempt_fields, attempt_lines, Account, account_lines, read_accounts_lines}
pub use Rattle.pgo_bundle.specs.BundleLog.{Version, One, Two, LoggedNote, LoggedEntry, BundleLog}
pub use Rattle.pgo_bundle.specs.Lines.{head_lines, log_lines}
use Rattle.pgo_bundle.specs.Untied.{untied_at}

-- ---- what stands in a line

-- a value that can be written and read back: its canonical text is a text of it
abbrev pub IsCanonicalValue : Data → Type 0
IsCanonicalValue d = IsValueText (value_text d) d

abbrev pub IsCanonicalIndex : Option Data → Type 0
IsCanonicalIndex None = Unit {0}
IsCanonicalIndex (Some i) = IsCanonicalValue i

abbrev pub AreCanonical : Vars → Type 0
AreCanonical [] = Unit {0}
AreCanonical (p ∷ ps) = IsCanonicalValue p.1 × AreCanonical ps

-- ---- constants

-- a name of a module is an identifier of at most 512 bytes
abbrev pub AreConstants : Vars → Type 0
AreConstants [] = Unit {0}
AreConstants (p ∷ ps) = IsTrue (is_read_name p.0) × IsCanonicalValue p.1 × AreConstants ps

-- ---- entries

pub record IsChange (c : Change) : Type 0 where
  pub variable : IsTrue (is_read_name c.component.variable)
  pub index : IsCanonicalIndex c.component.index
  pub owner : c.component.owner ≡ Unowned
  pub value : IsCanonicalValue c.value

abbrev pub AreChanges : List Change → Type 0
AreChanges [] = Unit {0}
AreChanges (c ∷ cs) = IsChange c × AreChanges cs

pub record IsEntry (e : Entry Effect) : Type 0 where
  pub instance : e.instance < count_limit
  pub attempt : e.attempt < count_limit
  pub label : IsTrue (is_read_name e.change.label)
  pub next : IsTrue (is_read_name e.change.next)
  pub count : length e.change.changes < count_limit
  pub changes : AreChanges e.change.changes
  pub prints : e.change.prints ≡ []

-- what was printed, where it is told
abbrev pub AreValues : List Data → Type 0
AreValues [] = Unit {0}
AreValues (v ∷ vs) = IsCanonicalValue v × AreValues vs

abbrev pub ArePrints : Option (List Data) → Type 0
ArePrints None = Unit {0}
ArePrints (Some vs) = (length vs < count_limit) × AreValues vs

pub record IsNote (n : LoggedNote) : Type 0 where
  pub instance : n.instance < count_limit
  pub attempt : n.attempt < count_limit

abbrev pub AreNotes : List LoggedNote → Type 0
AreNotes [] = Unit {0}
AreNotes (n ∷ ns) = IsNote n × AreNotes ns

pub record IsLogged (e : LoggedEntry) : Type 0 where
  pub entry : IsEntry e.entry
  pub prints : ArePrints e.prints
  pub notes : AreNotes e.notes

abbrev pub AreLogged : List LoggedEntry → Type 0
AreLogged [] = Unit {0}
AreLogged (e ∷ es) = IsLogged e × AreLogged es

-- ---- accounts

-- numbers are below 2^32, a variable is an identifier, and an index is a value that can be written and read back
abbrev pub IsAttemptLine : AttemptLine → Type 0
IsAttemptLine (StepLine n) = n < count_limit
IsAttemptLine (NoteLine kind p) = p < count_limit
IsAttemptLine (HeldLine h x i) = (h < count_limit) × IsTrue (is_read_name x) × IsCanonicalIndex i
IsAttemptLine (HeldLogLine h) = h < count_limit
IsAttemptLine (DownLine o x i) = (o < count_limit) × IsTrue (is_read_name x) × IsCanonicalIndex i
IsAttemptLine (FullLine n) = n < count_limit

abbrev pub AreAttemptLines : List AttemptLine → Type 0
AreAttemptLines [] = Unit {0}
AreAttemptLines (x ∷ xs) = IsAttemptLine x × AreAttemptLines xs

pub record IsAccount (a : Account) : Type 0 where
  pub id : IsCanonicalValue a.id
  pub count : length a.attempts < count_limit
  pub attempts : AreAttemptLines a.attempts

abbrev pub AreAccounts : List Account → Type 0
AreAccounts [] = Unit {0}
AreAccounts (a ∷ as') = IsAccount a × AreAccounts as'

-- ---- the whole

-- version 1 tells neither notes nor prints
abbrev pub AreUntold : List LoggedEntry → Type 0
AreUntold [] = Unit {0}
AreUntold (e ∷ es) = (e.prints ≡ None) × (e.notes ≡ []) × AreUntold es

abbrev pub TellsAs : Version → List LoggedNote → List LoggedEntry → Type 0
TellsAs One notes entries = (notes ≡ []) × AreUntold entries
TellsAs Two notes entries = Unit {0}

-- the bytes are the lines of this log, with these variables
pub record IsLogText (bs : List ℕ) (names : List Name) (l : BundleLog) : Type 0 where
  pub text_is : bs ≡ flatten (log_lines l)
  -- variables are these, in order
  pub variables : map (λ p. p.0) l.start ≡ names
  pub variable_count : length l.start < count_limit
  pub entry_count : length l.entries < count_limit
  pub instance_count : length l.accounts < count_limit
  pub start : AreCanonical l.start
  pub notes : AreNotes l.notes
  pub entries : AreLogged l.entries
  pub told : TellsAs l.version l.notes l.entries
  pub accounts : AreAccounts l.accounts
  pub status_is : IsTrue (is_run_status l.status)

-- the text has the form of the bundle of this module, these constants and this log: the lines before the module, a text that spells
-- it, and a text of the log
pub record HasForm (text : List ℕ) (m : Module) (consts : Vars) (l : BundleLog) : Type 0 where
  pub module_text : List ℕ
  pub log_text : List ℕ
  pub text_is : text ≡ flatten (head_lines l.version consts (length module_text)) ++ (module_text ++ log_text)
  pub module_count : length module_text < count_limit
  pub spells : SpellsModule module_text m
  -- constants are the module's, in order
  pub names : map (λ p. p.0) consts ≡ m.constants
  pub constant_count : length consts < count_limit
  pub constants : AreConstants consts
  pub log : IsLogText log_text m.variables l

-- the records of a log of version 2 are tied to its entries and notes
abbrev pub IsTiedAs : Version → BundleLog → Type 0
IsTiedAs One l = Unit {0}
IsTiedAs Two l = untied_at l ≡ None

-- the text is the bundle of this module, these constants and this log
pub record IsBundle (text : List ℕ) (m : Module) (consts : Vars) (l : BundleLog) : Type 0 where
  pub form : HasForm text m consts l
  pub tied : IsTiedAs l.version l

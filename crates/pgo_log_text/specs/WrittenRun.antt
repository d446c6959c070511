-- Which runs are read back from their bundles.
use Rattle.std.specs.Prelude.{◌≡◌, ◌<◌, ℕ, IsTrue, List, length, map, Some, None, ◌⊎◌}
use Rattle.pgo_base.specs.Lookup.{Vars}
use Rattle.pgo_model.specs.System.{System, Member, Resource}
use Rattle.pgo_model.specs.Machine.{Entry, Note, Record, Step, Noted, Held, Down, Full, Finished, nth}
use Rattle.pgo_model.specs.Accounts.{journal}
use Rattle.pgo_model.specs.Core.{Settings}
use Rattle.pgo_model.specs.Log.{Change, Effect}
use Rattle.pgo_model.specs.Module.{Module}
use Rattle.pgo_model.specs.ModuleText.{Text}
use Rattle.pgo_model.specs.BundleParts.{count_limit, is_read_name, is_run_status}
use Rattle.pgo_module_spells.specs.Spells.{SpellsModule}
use Rattle.pgo_bundle.specs.RunLog.{run_log, told_prints}
use Rattle.pgo_bundle.specs.Untied.{untied_at}
use Rattle.pgo_log_text.specs.IsBundle.{IsCanonicalValue, IsCanonicalIndex, AreCanonical, AreConstants, ArePrints}

pub record IsWrittenChange (c : Change) : Type 0 where
  pub variable : IsTrue (is_read_name c.component.variable)
  pub index : IsCanonicalIndex c.component.index
  pub value : IsCanonicalValue c.value

pub record IsWrittenEntry (e : Entry Effect) : Type 0 where
  pub instance : e.instance < count_limit
  pub attempt : e.attempt < count_limit
  pub label : IsTrue (is_read_name e.change.label)
  pub next : IsTrue (is_read_name e.change.next)
  pub count : length e.change.changes < count_limit
  pub changes : (j : ℕ) (c : Change) → nth e.change.changes j ≡ Some c → IsWrittenChange c
  -- what was printed, where it is told
  pub prints : ArePrints (told_prints e.change.prints)

-- the number names a resource, whose variable and index can be written
pub record IsWrittenResource (rs : List Resource) (r : ℕ) : Type 0 where
  pub resource : Resource
  pub found : nth rs r ≡ Some resource
  pub variable : IsTrue (is_read_name resource.global)
  pub index : IsCanonicalIndex resource.index

-- numbers are below 2^32, and what refused an attempt is a resource, or the journal where it was held
abbrev pub IsWrittenRecord : List Resource → Record → Type 0
IsWrittenRecord rs (Step n) = n < count_limit
IsWrittenRecord rs (Noted kind p) = p < count_limit
IsWrittenRecord rs (Held r h) = (h < count_limit) × ((r ≡ journal) ⊎ IsWrittenResource rs r)
IsWrittenRecord rs (Down r o) = (o < count_limit) × (r ≡ journal → ⊥) × IsWrittenResource rs r
IsWrittenRecord rs (Full n) = n < count_limit

-- what a run leaves can be written and read back: its module's text spells the module, constants and variables are the
-- module's, in order, names are identifiers of at most 512 bytes, values can be written and read back, counts are below 2^32,
-- the status is one of a run, and the records are tied to the entries and the notes
pub record IsWrittenRun (m : Module) (consts : Vars) (y : System) (settings : Settings) (f : Finished Effect) (status : ℕ) : Type 0 where
  pub spells : SpellsModule (Text m) m
  pub module_count : length (Text m) < count_limit
  pub names : map (λ p. p.0) consts ≡ m.constants
  pub constant_count : length consts < count_limit
  pub constants : AreConstants consts
  pub variables : map (λ p. p.0) y.start ≡ m.variables
  pub variable_count : length y.start < count_limit
  pub start : AreCanonical y.start
  pub entry_count : length f.entries < count_limit
  pub entries : (p : ℕ) (e : Entry Effect) → nth f.entries p ≡ Some e → IsWrittenEntry e
  pub notes : (j : ℕ) (n : Note) → nth f.notes j ≡ Some n → (n.instance < count_limit) × (n.attempt < count_limit)
  pub instance_count : length y.members < count_limit
  pub members : (k : ℕ) (i : Member) → nth y.members k ≡ Some i → IsCanonicalValue i.id
  pub record_count : (k : ℕ) → length (f.records k) < count_limit
  pub records : (k i : ℕ) (x : Record) → nth (f.records k) i ≡ Some x → IsWrittenRecord y.resources x
  pub status_is : IsTrue (is_run_status status)
  pub tied : untied_at (run_log y settings f status) ≡ None

-- The values of one component, entry by entry: a function of the log.
use Rattle.std.specs.Prelude.{ℕ, suc, if◌then◌else◌, List, [], ◌∷◌, ◌++◌, codes, decimal, Option, option_map}
use Rattle.pgo_base.specs.Data.{Data}
use Rattle.pgo_model.specs.Bundle.{component_text}
use Rattle.pgo_bundle.specs.BundleLog.{LoggedEntry, BundleLog}
use Rattle.pgo_model.specs.Log.{Change, Effect}
use Rattle.pgo_model.specs.Machine.{Entry}
use Rattle.pgo_model.specs.ModuleText.{Line, line, flatten}
use Rattle.pgo_model.specs.ValueText.{value_text}
use Rattle.pgo_show_changes.specs.Components.{content_of, concerns}

-- the pieces one behind the other, as a line
abbrev pub joined : List (List ℕ) → Line
joined pieces = line (flatten pieces)

-- the value before the first entry
abbrev pub start_with : (word value : List ℕ) → Line
start_with w t = joined (codes "start: " ∷ w ∷ codes " = " ∷ t ∷ [])

abbrev pub start_line : (word : List ℕ) → Data → Line
start_line w v = start_with w (value_text v)

-- entry n, who wrote it, which component it changed, and the value that this has behind it
abbrev pub change_with : ℕ → Entry Effect → (component value : List ℕ) → Line
change_with n e c t =
    joined (codes "entry " ∷ decimal n ∷ codes ", instance " ∷ decimal e.instance ∷ codes ", attempt " ∷ decimal e.attempt ∷ codes ", "
    ∷ e.change.label ∷ codes ": " ∷ c ∷ codes " = " ∷ t ∷ [])

abbrev pub change_line : ℕ → Entry Effect → Change → Line
change_line n e c = change_with n e (component_text c.component) (value_text c.value)

-- behind these lines those of these changes of entry n that concern the component
unfoldable pub with_changes : (word : List ℕ) → ℕ → Entry Effect → List Change → List Line → List Line
with_changes w n e [] ls = ls
with_changes w n e (c ∷ cs) ls = with_changes w n e cs (if concerns w c.component then ls ++ change_line n e c ∷ [] else ls)

-- those of the entries behind so many
unfoldable pub with_entries : (word : List ℕ) → ℕ → List LoggedEntry → List Line → List Line
with_entries w n [] ls = ls
with_entries w n (e ∷ es) ls = with_entries w (suc n) es (with_changes w (suc n) e.entry e.entry.change.changes ls)

-- the values of the component that has this text, the first one before all entries; none, where the log has no such component
abbrev pub changes_lines : (word : List ℕ) → BundleLog → Option (List Line)
changes_lines w l = option_map (λ v. with_entries w 0 l.entries (start_line w v ∷ [])) (content_of w l.start)

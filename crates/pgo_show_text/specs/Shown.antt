-- The text that explains a bundle: a function of its module, its log, its accounts and its status.
use Rattle.std.specs.Prelude.{ℕ, suc, if◌then◌else◌, List, [], ◌∷◌, ◌++◌, length, map, codes, decimal, Option, Some, None}
use Rattle.pgo_base.specs.Data.{Data}
use Rattle.pgo_base.specs.Lookup.{Name, Vars}
use Rattle.pgo_base.specs.Tree.{Tree}
use Rattle.pgo_model.specs.Module.{Module}
use Rattle.pgo_model.specs.ModuleText.{Line, line, flatten, action_lines}
use Rattle.pgo_model.specs.ValueText.{value_text}
use Rattle.pgo_bundle.specs.Accounts.{AttemptLine, Account}
use Rattle.pgo_bundle.specs.BundleLog.{Version, BundleLog, checked_log}
use Rattle.pgo_show_text.specs.Facts.{last_state, label_at, process_of, action_at, is_shown, blocked_in, count_by, is_step, is_blocked, is_refused, is_alike, causes, at_end, last_of, all_attempts}
use Rattle.pgo_show_text.specs.Phrases.{status_text, label_text, ending_text, cause_text, report_text}

-- the pieces one behind the other, as a line
abbrev pub joined : List (List ℕ) → Line
joined pieces = line (flatten pieces)

-- the whole: how many instances, entries and attempts there are, and what the status says
abbrev pub whole_line : BundleLog → Line
whole_line l =
    joined (codes "instances " ∷ decimal (length l.accounts) ∷ codes ", entries " ∷ decimal (length l.entries)
    ∷ codes ", attempts " ∷ decimal (all_attempts l.accounts) ∷ codes ", status " ∷ decimal l.status ∷ codes ": " ∷ status_text l.status ∷ [])

-- ---- an instance

-- `P = `, where its process is known
abbrev pub process_text : Option Name → List ℕ
process_text None = []
process_text (Some p) = flatten (p ∷ codes " = " ∷ [])

abbrev pub numbered_line : ℕ → (process id : List ℕ) → Line
numbered_line k p t = joined (codes "instance " ∷ decimal k ∷ codes " (" ∷ p ∷ t ∷ codes ")" ∷ [])

-- its number, its process and its identifier
abbrev pub name_line : ℕ → Option Name → Data → Line
name_line k p id = numbered_line k (process_text p) (value_text id)

-- where it stands, and how it ended
abbrev pub place_line : Name → Account → Line
place_line l a = joined (codes "  at " ∷ label_text l ∷ codes ", " ∷ ending_text a.finish ∷ [])

-- how many attempts it made, and what they came to
abbrev pub counts_line : List AttemptLine → Line
counts_line as' =
    joined (codes "  attempts " ∷ decimal (length as') ∷ codes ": committed " ∷ decimal (count_by is_step as')
    ∷ codes ", blocked " ∷ decimal (count_by is_blocked as') ∷ codes ", refused " ∷ decimal (count_by is_refused as') ∷ [])

-- how many were refused by this, for this
abbrev pub cause_line : List AttemptLine → AttemptLine → Line
cause_line as' a = joined (codes "  refused " ∷ decimal (count_by (is_alike a) as') ∷ codes ": " ∷ cause_text a ∷ [])

-- ---- its last attempt

abbrev pub indented : Line → Line
indented l = codes "    " ++ l

-- behind these lines those that the module has of an action
abbrev pub with_action : Name → Tree → List Line → List Line
with_action l e ls = ls ++ map indented (action_lines (l, e))

abbrev pub value_line : Name × Data → Line
value_line v = joined (codes "    " ∷ v.0 ∷ codes " = " ∷ value_text v.1 ∷ [])

-- behind these lines, of these variables those that an expression names, with their values
unfoldable pub with_values : Tree → Vars → List Line → List Line
with_values e [] ls = ls
with_values e (v ∷ vs) ls = with_values e vs (if is_shown v.0 e then ls ++ value_line v ∷ [] else ls)

-- behind these lines an action, and where a state is given, the values that the action's variables have there
abbrev pub with_cause : Name → Option Tree → Option Vars → List Line → List Line
with_cause l None s ls = ls
with_cause l (Some e) None ls = with_action l e ls
with_cause l (Some e) (Some s) ls = with_values e s (with_action l e ls)

-- where an attempt is no entry, the action of the label at which the instance stands, and where it was blocked in a state, its values
abbrev pub with_stuck : Module → Name → AttemptLine → Option Vars → List Line → List Line
with_stuck m l a s ls = if is_step a then ls else with_cause l (action_at l m.processes) s ls

-- what the last attempt came to, and how many at the end came to the same
abbrev pub last_line : Version → List AttemptLine → AttemptLine → Line
last_line v as' a = joined (codes "  last " ∷ decimal (at_end a as') ∷ codes ": " ∷ report_text v a ∷ [])

abbrev pub with_last : Module → Version → Name → List AttemptLine → Option AttemptLine → Option Vars → List Line → List Line
with_last m v l as' None s ls = ls
with_last m v l as' (Some a) s ls = with_stuck m l a s (ls ++ last_line v as' a ∷ [])

-- behind these lines those of an account, of an instance that stands at this label, and whose last attempt was blocked in this state
abbrev pub with_account : Module → Version → Name → Option Vars → Account → List Line → List Line
with_account m v l s a ls =
    with_last m v l a.attempts (last_of a.attempts) s
    (((ls ++ place_line l a ∷ []) ++ counts_line a.attempts ∷ []) ++ map (cause_line a.attempts) (causes [] a.attempts))

-- behind these lines those of instance k
abbrev pub with_instance : Module → BundleLog → ℕ → Account → List Line → List Line
with_instance m l k a ls =
    with_account m l.version (label_at a.id (last_state (checked_log l))) (blocked_in (checked_log l) (last_of a.attempts)) a
    (ls ++ name_line k (process_of m l.start a.id) a.id ∷ [])

-- those of the instances from k on
unfoldable pub with_instances : Module → BundleLog → ℕ → List Account → List Line → List Line
with_instances m l k [] ls = ls
with_instances m l k (a ∷ as') ls = with_instances m l (suc k) as' (with_instance m l k a ls)

-- the whole text: a line on the whole, and the lines of each instance
abbrev pub shown_lines : Module → BundleLog → List Line
shown_lines m l = with_instances m l 0 l.accounts (whole_line l ∷ [])

-- What a log and its accounts say of an instance: where it stands, what its attempts came to, and what refused them.
use Rattle.std.specs.Prelude.{ℕ, suc, Bool, true, false, ◌&&◌, ◌||◌, not, if◌then◌else◌, nat_eq, min, ◌+◌, List, [], ◌∷◌, ◌++◌, length, reverse, Option, Some, None, option_and_then}
use Rattle.pgo_base.specs.Data.{Data}
use Rattle.pgo_base.specs.Lookup.{Name, Vars, find, same_name}
use Rattle.pgo_base.specs.Tree.{Tree}
use Rattle.pgo_model.specs.Log.{Effect, Log, StateAt, label_in}
use Rattle.pgo_model.specs.Machine.{Entry}
use Rattle.pgo_model.specs.Module.{Module, WrittenProcess}
use Rattle.pgo_model.specs.Operators.{same_data}
use Rattle.pgo_model.specs.Outcome.{Kind, Blocked, NoValue, AssertFails, Many}
use Rattle.pgo_model.specs.Variables.{place_of}
use Rattle.pgo_model.specs.Written.{pc}
use Rattle.pgo_operands.specs.Mentions.{mentions}
use Rattle.pgo_bundle.specs.Accounts.{AttemptLine, StepLine, NoteLine, HeldLine, HeldLogLine, DownLine, FullLine, Account}
use Rattle.pgo_show_text.specs.declared.counts.Test.{Test}
use Rattle.pgo_show_text.specs.declared.counts.Test.TheVariants as tests

-- ---- places

-- the state behind all of these entries; none where an entry changes what isn't there
abbrev pub behind_all : Vars → List (Entry Effect) → Option Vars
behind_all s es = StateAt s es (length es)

abbrev pub last_state : Log → Option Vars
last_state l = behind_all l.start l.entries

-- the label at which an instance stands in a state, no bytes where it stands at none
abbrev pub label_at : Data → Option Vars → Name
label_at id s = label_in (option_and_then (place_of id) s)

-- ---- the module

abbrev pub has_action : Name → List (Name × Tree) → Bool
has_action l [] = false
has_action l (a ∷ as') = same_name l a.0 || has_action l as'

-- the name of the first process that has a label
abbrev pub process_with : Name → List WrittenProcess → Option Name
process_with l [] = None
process_with l (p ∷ ps) = if has_action l p.actions then Some p.name else process_with l ps

-- the process of an instance: the one of the label at which it stands at the start
abbrev pub process_of : Module → (start : Vars) → Data → Option Name
process_of m s id = process_with (label_at id (Some s)) m.processes

abbrev pub or_else : Option Tree → Option Tree → Option Tree
or_else (Some e) o = Some e
or_else None o = o

-- the first action of a label
abbrev pub action_at : Name → List WrittenProcess → Option Tree
action_at l [] = None
action_at l (p ∷ ps) = or_else (find l p.actions) (action_at l ps)

-- an action's values are shown of the variables that it names but for `pc`, of which the label tells
abbrev pub is_shown : Name → Tree → Bool
is_shown x e = not (same_name pc x) && mentions x e

-- ---- attempts

-- it is an entry
abbrev pub is_step : AttemptLine → Bool
is_step (StepLine n) = true
is_step a = false

abbrev pub is_blocked_kind : Kind → Bool
is_blocked_kind Blocked = true
is_blocked_kind NoValue = false
is_blocked_kind AssertFails = false
is_blocked_kind Many = true

-- all of its choices were blocked, or as many as are tried
abbrev pub is_blocked : AttemptLine → Bool
is_blocked (NoteLine k p) = is_blocked_kind k
is_blocked a = false

-- another instance, a pre-commit that failed, or the full journal refused it
abbrev pub is_refused : AttemptLine → Bool
is_refused (StepLine n) = false
is_refused (NoteLine k p) = false
is_refused (HeldLine h x i) = true
is_refused (HeldLogLine h) = true
is_refused (DownLine o x i) = true
is_refused (FullLine n) = true

abbrev pub is_index : Option Data → Option Data → Bool
is_index None None = true
is_index None (Some w) = false
is_index (Some v) None = false
is_index (Some v) (Some w) = same_data v w

abbrev pub is_resource : (x : Name) → (i : Option Data) → (y : Name) → (j : Option Data) → Bool
is_resource x i y j = same_name x y && is_index i j

abbrev pub rank : Kind → ℕ
rank Blocked = 0
rank NoValue = 1
rank AssertFails = 2
rank Many = 3

-- a note of this kind
abbrev pub is_note : Kind → AttemptLine → Bool
is_note k (NoteLine l q) = nat_eq (rank k) (rank l)
is_note k b = false

-- a refusal for what this instance held
abbrev pub is_held : (h : ℕ) → (x : Name) → (i : Option Data) → AttemptLine → Bool
is_held h x i (HeldLine g y j) = nat_eq h g && is_resource x i y j
is_held h x i b = false

abbrev pub is_journal_held : (h : ℕ) → AttemptLine → Bool
is_journal_held h (HeldLogLine g) = nat_eq h g
is_journal_held h b = false

abbrev pub is_down : (x : Name) → (i : Option Data) → AttemptLine → Bool
is_down x i (DownLine o y j) = is_resource x i y j
is_down x i b = false

abbrev pub is_full : AttemptLine → Bool
is_full (FullLine n) = true
is_full b = false

-- both came to the same: to the same report, by the same holder where something was held, and at the same resource
abbrev pub is_alike : AttemptLine → AttemptLine → Bool
is_alike (StepLine n) b = is_step b
is_alike (NoteLine k p) b = is_note k b
is_alike (HeldLine h x i) b = is_held h x i b
is_alike (HeldLogLine h) b = is_journal_held h b
is_alike (DownLine o x i) b = is_down x i b
is_alike (FullLine n) b = is_full b

-- how many attempts these accounts have, behind so many; the count stands still at the end of its type
unfoldable pub attempts_behind : ℕ → List Account → ℕ
attempts_behind n [] = n
attempts_behind n (a ∷ as') = attempts_behind (min (n + length a.attempts) 18446744073709551615) as'

abbrev pub all_attempts : List Account → ℕ
all_attempts as' = attempts_behind 0 as'

-- which attempts are counted
abbrev pub passes : Test → (AttemptLine → Bool)
passes tests.Step = is_step
passes tests.Blocked = is_blocked
passes tests.Refused = is_refused

-- how many of them pass a test
unfoldable pub count_by : (AttemptLine → Bool) → List AttemptLine → ℕ
count_by p [] = 0
count_by p (a ∷ as') = if p a then suc (count_by p as') else count_by p as'

abbrev pub is_alike_one : AttemptLine → List AttemptLine → Bool
is_alike_one a [] = false
is_alike_one a (b ∷ bs) = is_alike b a || is_alike_one a bs

-- behind these, each refusal that is like none before it
unfoldable pub causes : List AttemptLine → List AttemptLine → List AttemptLine
causes found [] = found
causes found (a ∷ as') = causes (if is_refused a && not (is_alike_one a found) then found ++ a ∷ [] else found) as'

-- behind so many that are like it, how many are at the end: each that isn't like it begins anew
unfoldable pub at_end_behind : AttemptLine → ℕ → List AttemptLine → ℕ
at_end_behind a n [] = n
at_end_behind a n (b ∷ bs) = at_end_behind a (if is_alike a b then suc n else 0) bs

-- how many at the end are like it
abbrev pub at_end : AttemptLine → List AttemptLine → ℕ
at_end a as' = at_end_behind a 0 as'

abbrev pub first_of : List AttemptLine → Option AttemptLine
first_of [] = None
first_of (a ∷ as') = Some a

abbrev pub last_of : List AttemptLine → Option AttemptLine
last_of as' = first_of (reverse as')

-- behind how many entries an attempt was blocked, if it was
abbrev pub blocked_behind : AttemptLine → Option ℕ
blocked_behind (NoteLine k p) = if is_blocked_kind k then Some p else None
blocked_behind a = None

-- the state in which an attempt was blocked, if it was
abbrev pub blocked_in : Log → Option AttemptLine → Option Vars
blocked_in l o = option_and_then (λ n. StateAt l.start l.entries n) (option_and_then blocked_behind o)

-- The core machine of a system under settings and a list of turns; how the instances of a run ended, and its status.
use Rattle.std.specs.Prelude.{◌≡◌, ℕ, suc, Bool, true, false, ◌||◌, ◌&&◌, if◌then◌else◌, nat_eq, List, [], ◌∷◌, length, Option, Some, None, unwrap_or}
use Rattle.pgo_base.specs.Data.{Data, string}
use Rattle.pgo_base.specs.Lookup.{Name, Vars, same_name}
use Rattle.pgo_model.specs.Operators.{same_data}
use Rattle.pgo_model.specs.Outcome.{Blocked, NoValue, AssertFails, Many, Section, is_blocked}
use Rattle.pgo_model.specs.System.{System, Member, Resource, Touched}
use Rattle.pgo_model.specs.Variables.{place_of}
use Rattle.pgo_model.specs.Options.{on}
use Rattle.pgo_model.specs.Choice.{Seeded, words_of}
use Rattle.pgo_model.specs.Machine.{Rules, Record, Step, Noted, Held, Down, Full, Machine, Finished, nth, state_at, run_turns}
use Rattle.pgo_model.specs.Log.{Effect, After, effect_between}
use Rattle.pgo_model.specs.Written.{done}

-- what a run is told: the seed of its choices, how many attempts an instance makes, at how many entries the journal
-- is full, and the pairs of a resource and the number of its pre-commit that fails
pub record Settings : Type 0 where
  pub seed : ℕ
  pub attempts : ℕ
  pub steps : ℕ
  pub down : List (ℕ × ℕ)

abbrev pub is_listed : List (ℕ × ℕ) → ℕ → ℕ → Bool
is_listed [] r o = false
is_listed (p ∷ ps) r o = (nat_eq p.0 r && nat_eq p.1 o) || is_listed ps r o

abbrev pub same_index : Option Data → Option Data → Bool
same_index None None = true
same_index None (Some w) = false
same_index (Some v) None = false
same_index (Some v) (Some w) = same_data v w

-- the numbers of the resources that were touched. What is no resource is left out, and SystemFits says that nothing is
abbrev pub number_among : List Resource → Touched → Option ℕ
number_among [] c = None
number_among (r ∷ rs) c = if same_name r.global c.0 && same_index r.index c.1 then Some r.number else number_among rs c

abbrev pub numbers_of : List Resource → List Touched → List ℕ
numbers_of rs [] = []
numbers_of rs (c ∷ cs) = on (numbers_of rs cs) (number_among rs c) (λ n. n ∷ numbers_of rs cs)

abbrev pub numbered : System → Section Touched Vars → Section ℕ Vars
numbered y x = record { trace = numbers_of y.resources x.trace; end = x.end }

abbrev pub is_place : Name → Option Data → Bool
is_place l (Some (string m)) = same_name l m
is_place l _ = false

abbrev pub is_at_done : System → ℕ → Vars → Bool
is_at_done y k s = on false (nth y.members k) (λ i. is_place done (place_of i.id s))

abbrev pub rules_of : System → Settings → Rules Vars Effect
rules_of y settings = record {
  start = y.start;
  instances = length y.members;
  sect = λ k a s. numbered y (y.sect k s (words_of (Seeded settings.seed k a)));
  at_done = is_at_done y;
  between = effect_between y;
  patched = λ s e. unwrap_or (After s e) s;
  printed = λ e. e.prints;
  steps = settings.steps;
  attempts = settings.attempts;
  fails = is_listed settings.down;
}

-- the machine of a list of turns, stopped
abbrev pub Core : System → Settings → List ℕ → Machine Effect
Core y settings turns = run_turns (rules_of y settings) turns

-- the instance is bound to this global
abbrev pub IsBoundTo : Member → Name → Type 0
IsBoundTo i g = (n : ℕ) × (nth i.globals n ≡ Some g)

-- instance k is bound to the global of resource r
abbrev pub Reaches : System → (k r : ℕ) → Type 0
Reaches y k r = (i : Member) × (q : Resource) × (nth y.members k ≡ Some i) × (nth y.resources r ≡ Some q) × IsBoundTo i q.global

pub data End : Type 0 where
  Done Stopped JournalFull Spent : End

-- the end that the last record shows
abbrev pub end_by : List Record → Option End
end_by [] = None
end_by (Step n ∷ []) = None
end_by (Noted Blocked p ∷ []) = None
end_by (Noted NoValue p ∷ []) = Some Stopped
end_by (Noted AssertFails p ∷ []) = Some Stopped
end_by (Noted Many p ∷ []) = None
end_by (Held r h ∷ []) = None
end_by (Down r o ∷ []) = None
end_by (Full n ∷ []) = Some JournalFull
end_by (r ∷ (s ∷ rs)) = end_by (s ∷ rs)

abbrev pub end_or_spent : Option End → Bool → Option End
end_or_spent (Some e) spent = Some e
end_or_spent None true = Some Spent
end_or_spent None false = None

-- how an instance ended; none where it hasn't. Where several ends hold the order is Done, Stopped, Full, Spent
abbrev pub end_of : System → Settings → Finished Effect → ℕ → Option End
end_of y settings f k =
    if is_at_done y k (state_at (rules_of y settings) y.start f.entries (length f.entries)) then Some Done
    else end_or_spent (end_by (f.records k)) (nat_eq (length (f.records k)) settings.attempts)

-- the ends that the last records show, of the instances from k on
abbrev pub last_ends_from : Finished Effect → ℕ → List Member → List (Option End)
last_ends_from f k [] = []
last_ends_from f k (i ∷ is) = end_by (f.records k) ∷ last_ends_from f (suc k) is

abbrev pub has_stopped : List (Option End) → Bool
has_stopped [] = false
has_stopped (Some Stopped ∷ es) = true
has_stopped (e ∷ es) = has_stopped es

abbrev pub has_full : List (Option End) → Bool
has_full [] = false
has_full (Some JournalFull ∷ es) = true
has_full (e ∷ es) = has_full es

-- each instance from k on is at Done in this state
abbrev pub are_at_done : System → Vars → ℕ → List Member → Bool
are_at_done y s k [] = true
are_at_done y s k (i ∷ is) = is_at_done y k s && are_at_done y s (suc k) is

-- an attempt of each instance from k on that isn't at Done, with words 0, is Blocked in this state
abbrev pub are_blocked : System → Vars → ℕ → List Member → Bool
are_blocked y s k [] = true
are_blocked y s k (i ∷ is) = (is_at_done y k s || is_blocked (y.sect k s (λ n. 0)).end) && are_blocked y s (suc k) is

-- the state behind the entries
abbrev pub state_behind : System → Settings → Finished Effect → Vars
state_behind y settings f = state_at (rules_of y settings) y.start f.entries (length f.entries)

-- 20: some instance's last record is a note NoValue or AssertFails; else 23: some instance's last record is a refusal Full;
-- else 0: each instance is at Done in the last state; else 22, where it is told that no instance has a step there; else 21
abbrev pub status_where : Bool → System → Settings → Finished Effect → ℕ
status_where quiet y settings f =
    let last = last_ends_from f 0 y.members in
    if has_stopped last then 20 else if has_full last then 23
    else if are_at_done y (state_behind y settings f) 0 y.members then 0 else if quiet then 22 else 21

-- 22: no instance that isn't at Done has a step in the last state; one attempt, with whatever words, decides it
abbrev pub status_of : System → Settings → Finished Effect → ℕ
status_of y settings f = status_where (are_blocked y (state_behind y settings f) 0 y.members) y settings f

-- The load: a specification made from a number, whose processes send a number there and back over mailboxes of length 1.
use Rattle.std.specs.Prelude.{◌≡◌, ℕ, zero, suc, pos, List, [], ◌∷◌, ◌++◌, length, codes, decimal}
use Rattle.pgo_base.specs.Data.{Data, integer}
use Rattle.pgo_base.specs.Lookup.{Name}
use Rattle.pgo_check.specs.declared.verdict.Verdict.TheVariants.{Run}
use Rattle.pgo_execute.specs.Schedules.{Rounds}
use Rattle.pgo_model.specs.Core.{Settings}
use Rattle.pgo_model.specs.ModuleText.{line, flatten}
use Rattle.pgo_verdicts.specs.Judged.{Judged}
use Rattle.pgo_verdicts.specs.Runs.{Runs}

-- the lines before the processes
abbrev pub head : List (List ℕ)
head =
    line (codes "---- MODULE Load ----")
    ∷ (line (codes "EXTENDS Integers, Sequences")
    ∷ (line (codes "CONSTANTS N, BUFFER_SIZE")
    ∷ (line (codes "(*")
    ∷ (line (codes "--mpcal Load {")
    ∷ (line (codes "mapping macro ReliableFIFOLink {")
    ∷ (line (codes "  read { await Len($variable) > 0;")
    ∷ (line (codes "         with (msg = Head($variable)) { $variable := Tail($variable); yield msg; }; }")
    ∷ (line (codes "  write { await Len($variable) < BUFFER_SIZE; yield Append($variable, $value); }")
    ∷ (line (codes "}")
    ∷ (line (codes "archetype APing(ref net[_]) variables n = 0; {")
    ∷ (line (codes "  s: net[self + N] := n;")
    ∷ (line (codes "  r: n := net[self] + 1; if (n < 50) { goto s; }; }")
    ∷ (line (codes "archetype APong(ref net[_]) variables k = 0, m; {")
    ∷ (line (codes "  l: m := net[self];")
    ∷ (line (codes "  a: net[self - N] := m; k := k + 1; if (k < 50) { goto l; }; }")
    ∷ (line (codes "variables net = [i \\in 1..(2 * N) |-> <<>>];")
    ∷ []))))))))))))))))

-- the process that sends first, of this number, and the one that sends back
abbrev pub ping_line : ℕ → List ℕ
ping_line j = line (codes "fair process (Ping" ++ (decimal j ++ (codes " = " ++ (decimal j ++ codes ") == instance APing(ref net[_]) mapping net[_] via ReliableFIFOLink;"))))

abbrev pub pong_line : ℕ → List ℕ
pong_line j = line (codes "fair process (Pong" ++ (decimal j ++ (codes " = N + " ++ (decimal j ++ codes ") == instance APong(ref net[_]) mapping net[_] via ReliableFIFOLink;"))))

-- such a line for each number from 1 on
abbrev pub numbered : (ℕ → List ℕ) → (count : ℕ) → List (List ℕ)
numbered make zero = []
numbered make (suc n) = numbered make n ++ (make (suc n) ∷ [])

abbrev pub tail : List (List ℕ)
tail = line (codes "}") ∷ (line (codes "*)") ∷ (line (codes "====") ∷ []))

-- the specification of the load of this size: as many processes of each kind
abbrev pub load_text : ℕ → List ℕ
load_text size = flatten (head ++ (numbered ping_line size ++ (numbered pong_line size ++ tail)))

-- its constants: the size, and the length of mailboxes
abbrev pub load_consts : ℕ → List (Name × Data)
load_consts size = (codes "N", integer (pos size)) ∷ ((codes "BUFFER_SIZE", integer (pos 1)) ∷ [])

-- its settings: seed 0, at most 100,000 attempts of an instance, at most 10,000 entries
abbrev pub load_settings : Settings
load_settings = record { seed = 0; attempts = 100000; steps = 10000; down = [] }

-- the run of the load of this size in rounds has so many instances, and so many entries; and its bundle is judged a run of them
pub record Loads (size instances steps : ℕ) : Type 0 where
  pub status : ℕ
  pub written : List ℕ
  pub runs : Runs (load_text size) (load_consts size) load_settings Rounds status written
  pub judged : Judged written (Run steps)
  pub instances_are : instances ≡ length judged.log.accounts

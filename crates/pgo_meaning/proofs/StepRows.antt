-- What sections of small specifications do, worked out by hand: each row is a specification with the words of choice, and what
-- the first instance's section does from the start.
use Rattle.std.proofs.Common.{◌≡◌, ℕ, zero, suc, List, [], ◌∷◌, map, Some, None, codes, refl}
use Rattle.pgo_base.specs.Data.{Data, string, set, function, items, pairs}
use Rattle.pgo_base.specs.Lookup.{Name, Vars}
use Rattle.pgo_base.specs.Tree.{Tree, name, binary, tuple, set_of, index, call, trees}
use Rattle.pgo_base.specs.declared.expr.Infix.TheVariants as infixs
use Rattle.pgo_model.specs.Choice.{word_at}
use Rattle.pgo_model.specs.Outcome.{Blocked, NoValue, AssertFails, Next, Nowhere, Section}
use Rattle.pgo_model.specs.System.{Touched}
use Rattle.pgo_model.specs.Written.{pc}
use Rattle.pgo_syntax.specs.Statement.{Statement, assign, either_of, await_that, with_in, assert_that, yield_as, block, statements, labeled}
use Rattle.pgo_syntax.specs.declared.archetype.Extent.{Extent}
use Rattle.pgo_syntax.specs.declared.archetype.Extent.TheVariants.{Whole, Element}
use Rattle.pgo_syntax.specs.declared.archetype.ParameterKind.TheVariants as parameters
use Rattle.pgo_syntax.specs.declared.assignment.Step.TheVariants as step
use Rattle.pgo_syntax.specs.declared.binding.Origin.TheVariants.{Equals, In}
use Rattle.pgo_syntax.specs.declared.bound.Bound.{Bound}
use Rattle.pgo_syntax.specs.declared.bound.Mapping.TheVariants.{Identity, Macro}
use Rattle.pgo_syntax.specs.declared.macros.MappingMacro.{MappingMacro}
use Rattle.pgo_syntax.specs.declared.process.Argument.TheVariants as arguments
use Rattle.pgo_syntax.specs.declared.process.MappingClause.{MappingClause}
use Rattle.pgo_syntax.specs.declared.process.MappingTarget.TheVariants as clauses
use Rattle.pgo_syntax.specs.declared.spec.Spec.{Spec}
use Rattle.pgo_bound.specs.BoundOf.{bound_of}
use Rattle.pgo_sections.specs.Exec.{Gives, Stops}
use Rattle.pgo_sections.specs.SectionRun.{ChoiceMade}
use Rattle.pgo_meaning.specs.Macros.{MacRead, MacWrite}
use Rattle.pgo_meaning.specs.Sect.{Sect}
use Rattle.pgo_meaning.specs.System.{system_of}
use Rattle.pgo_meaning.proofs.RowTools.{n, int, stuck, Block, placed_name, assignment, with_name, mapping}

-- ---- specifications of one process, `process (P = 1) == instance A(ref x)`, whose parameter is v

abbrev pub x : Name
x = codes "x"

abbrev pub v : Name
v = codes "v"

abbrev pub y : Name
y = codes "y"

abbrev pub spec_with : Tree → Extent → List Name → List MappingMacro → List MappingClause → Block → Spec
spec_with start e locals maps cs body = record {
  name = placed_name (codes "S");
  extends = [];
  constants = [];
  definitions = [];
  algorithm = placed_name (codes "S");
  define = None;
  macros = [];
  mappings = maps;
  archetypes = record {
    name = placed_name (codes "A");
    params = record { name = placed_name v; kind = parameters.Ref e } ∷ [];
    locals = map (λ z. record { name = placed_name z; initial = Some (Equals (n 0)) }) locals;
    body = body;
  } ∷ [];
  globals = record { name = placed_name x; initial = Some (Equals start) } ∷ [];
  processes = record {
    name = placed_name (codes "P");
    ids = Equals (n 1);
    archetype = placed_name (codes "A");
    arguments = arguments.Ref (placed_name x) e ∷ [];
    clauses = cs;
  } ∷ [];
}

-- the body is one section, l
abbrev pub section_of : List Statement → Block
section_of [] = []
section_of (t ∷ ts) = (Some (placed_name (codes "l")), t) ∷ map (λ t. (None, t)) ts

abbrev pub plain : Tree → List Statement → Spec
plain start ts = spec_with start Whole [] [] [] (section_of ts)

abbrev pub on_state : Spec → Vars → List ℕ → Section Touched Vars
on_state s t ws = Sect (bound_of s []) 0 t (word_at ws)

abbrev pub does : Spec → List ℕ → Section Touched Vars
does s ws = let b = bound_of s [] in Sect b 0 b.start (word_at ws)

abbrev pub to : Name → List Tree → Tree → Statement
to z path e = assign 0 (assignment z (map step.Index path) e ∷ [])

abbrev pub at_v : ℕ → Tree
at_v k = index (name v) (trees (n k ∷ []))

abbrev pub in_block : List Statement → Statement
in_block ts = block 0 (labeled (map (λ t. (None, t)) ts))

abbrev pub no_value : Tree
no_value = binary infixs.Divide (n 1) (n 0)

-- ---- what comes of it

abbrev pub seq1 : Data → Data
seq1 a = function (pairs ((int 1, a) ∷ []))

abbrev pub seq2 : Data → Data → Data
seq2 a b = function (pairs ((int 1, a) ∷ (int 2, b) ∷ []))

abbrev pub at_place : Name → Name × Data
at_place l = (pc, function (pairs ((int 1, string l) ∷ [])))

abbrev pub state : Data → Name → Vars
state a l = (x, a) ∷ at_place l ∷ []

-- the section went to Done, with x as this
abbrev pub to_done : List Touched → Data → Section Touched Vars
to_done ts a = record { trace = ts; end = Next (state a (codes "Done")) [] }

abbrev pub whole : Touched
whole = (x, None)

abbrev pub element : ℕ → Touched
element k = (x, Some (int k))

-- ---- unmapped parameters

-- `v := v + v`: one read, and the write
abbrev pub doubled : Spec
doubled = plain (n 2) (to v [] (binary infixs.Add (name v) (name v)) ∷ [])

read_once : does doubled [] ≡ to_done (whole ∷ whole ∷ []) (int 4)
read_once = refl

-- `v[1] := v[2]`: the read of the right side, that of the path, and the write
path_assigned : does (plain (tuple (trees (n 5 ∷ n 6 ∷ []))) (to v (n 1 ∷ []) (at_v 2) ∷ [])) [] ≡ to_done (whole ∷ whole ∷ whole ∷ []) (seq2 (int 6) (int 6))
path_assigned = refl

-- `v[9] := 5`: no element, and nothing becomes of it
path_outside : does (plain (tuple (trees (n 5 ∷ n 6 ∷ []))) (to v (n 9 ∷ []) (n 5) ∷ [])) [] ≡ to_done (whole ∷ whole ∷ []) (seq2 (int 5) (int 6))
path_outside = refl

-- `v[1] := 5`, where x is no function: the read alone
no_path : does (plain (n 7) (to v (n 1 ∷ []) (n 5) ∷ [])) [] ≡ stuck (whole ∷ []) NoValue
no_path = refl

-- ---- choices

-- `with (w \in {1, 2}) { await w = 2; v := w }`
abbrev pub awaited : Spec
awaited = plain (n 0) (
    with_in 0 (with_name (codes "w") (In (set_of (trees (n 1 ∷ n 2 ∷ [])))) ∷ []) (in_block (await_that 0 (binary infixs.Equal (name (codes "w")) (n 2)) ∷ to v [] (name (codes "w")) ∷ [])) ∷ [])

first_member : does awaited (0 ∷ []) ≡ stuck [] Blocked
first_member = refl

second_member : does awaited (1 ∷ []) ≡ to_done (whole ∷ []) (int 2)
second_member = refl

-- `either { v := 1 } or { v := 1 \div 0 } or { assert FALSE }`
abbrev pub three_arms : Spec
three_arms = plain (n 0) (
    either_of 0 (statements (to v [] (n 1) ∷ to v [] no_value ∷ assert_that 0 (binary infixs.Equal (n 1) (n 2)) ∷ [])) ∷ [])

first_arm : does three_arms (3 ∷ []) ≡ to_done (whole ∷ []) (int 1)
first_arm = refl

second_arm : does three_arms (1 ∷ []) ≡ stuck [] NoValue
second_arm = refl

third_arm : does three_arms (2 ∷ []) ≡ stuck [] AssertFails
third_arm = refl

-- `with (w \in {}) ..`
no_member : does (plain (n 0) (with_in 0 (with_name (codes "w") (In (set_of (trees []))) ∷ []) (to v [] (n 1)) ∷ [])) [] ≡ stuck [] Blocked
no_member = refl

-- ---- states

-- a set in a set, so many times
abbrev pub nested : ℕ → Data
nested zero = set (items [])
nested (suc k) = set (items (nested k ∷ []))

-- `v := {v}`: a state's value is at most 256 deep
abbrev pub deeper : Spec
deeper = plain (set_of (trees [])) (to v [] (set_of (trees (name v ∷ []))) ∷ [])

deep_enough : on_state deeper (state (nested 254) (codes "P_l")) [] ≡ to_done (whole ∷ whole ∷ []) (nested 255)
deep_enough = refl

too_deep : on_state deeper (state (nested 255) (codes "P_l")) [] ≡ stuck (whole ∷ whole ∷ []) NoValue
too_deep = refl

at_done : on_state doubled (state (int 2) (codes "Done")) [] ≡ record { trace = []; end = Nowhere }
at_done = refl

-- ---- mapped parameters

-- `read { await Len($variable) > 0; with (msg = Head($variable)) { $variable := Tail($variable); yield msg } }
-- write { await Len($variable) < 2; yield Append($variable, $value) }`
abbrev pub content : Tree
content = name (codes "$variable")

abbrev pub to_content : Name → Tree
to_content o = call o (trees (content ∷ []))

abbrev pub channel : MappingMacro
channel =
    mapping (codes "Channel")
    ((None, await_that 0 (binary infixs.Greater (to_content (codes "Len")) (n 0))) ∷ (None, with_in 0 (with_name (codes "msg") (Equals (to_content (codes "Head"))) ∷ []) (in_block (to (codes "$variable") [] (to_content (codes "Tail")) ∷ yield_as 0 (name (codes "msg")) ∷ []))) ∷ [])
    ((None, await_that 0 (binary infixs.Less (to_content (codes "Len")) (n 2))) ∷ (None, yield_as 0 (call (codes "Append") (trees (content ∷ name (codes "$value") ∷ [])))) ∷ [])

abbrev pub via_channel : MappingClause
via_channel = record { target = clauses.Global (placed_name x) Element; mapping = placed_name (codes "Channel") }

-- `y := v[1] + v[1]; v[1] := y`
abbrev pub two_pops : Tree → Spec
two_pops start =
    spec_with start Element (y ∷ []) (channel ∷ []) (via_channel ∷ []) (section_of (to y [] (binary infixs.Add (at_v 1) (at_v 1)) ∷ to v (n 1 ∷ []) (name y) ∷ []))

abbrev pub with_y : Data → Data → Name → Vars
with_y a b l = (x, a) ∷ at_place l ∷ (codes "P_y", seq1 b) ∷ []

abbrev pub popped : Section Touched Vars
popped = record { trace = element 1 ∷ element 1 ∷ element 1 ∷ []; end = Next (with_y (seq1 (seq1 (int 7))) (int 7) (codes "Done")) [] }

abbrev pub queue : List Tree → Tree
queue es = tuple (trees (tuple (trees es) ∷ []))

pops : does (two_pops (queue (n 3 ∷ n 4 ∷ []))) [] ≡ popped
pops = refl

pops_by_other_words : does (two_pops (queue (n 3 ∷ n 4 ∷ []))) (5 ∷ 6 ∷ []) ≡ popped
pops_by_other_words = refl

-- the read that finds nothing is in the trace
second_pop_blocked : does (two_pops (queue (n 3 ∷ []))) [] ≡ stuck (element 1 ∷ element 1 ∷ []) Blocked
second_pop_blocked = refl

-- `v[1] := 7`, into an empty channel
write_appends : does (spec_with (queue []) Element [] (channel ∷ []) (via_channel ∷ []) (section_of (to v (n 1 ∷ []) (n 7) ∷ []))) [] ≡ to_done (element 1 ∷ []) (seq1 (seq1 (int 7)))
write_appends = refl

-- `v[9] := 5`, by element: an index outside the domain is no event
element_outside : does (spec_with (queue []) Element [] (channel ∷ []) (via_channel ∷ []) (section_of (to v (n 9 ∷ []) (n 5) ∷ []))) [] ≡ stuck [] NoValue
element_outside = refl

-- the same by the identity
identity_outside : does (spec_with (queue []) Element [] [] [] (section_of (to v (n 9 ∷ []) (n 5) ∷ []))) [] ≡ stuck [] NoValue
identity_outside = refl

identity_inside : does (spec_with (queue []) Element [] [] [] (section_of (to v (n 1 ∷ []) (n 5) ∷ []))) [] ≡ to_done (element 1 ∷ []) (seq1 (int 5))
identity_inside = refl

-- ---- mapping macros alone

reads_first : MacRead (Macro channel) [] (int 1) (seq2 (int 3) (int 4)) (word_at []) [] ≡ Gives (int 3, Some (seq1 (int 4))) []
reads_first = refl

reads_nothing : MacRead (Macro channel) [] (int 1) (function (pairs [])) (word_at []) [] ≡ Stops Blocked []
reads_nothing = refl

writes_last : MacWrite (Macro channel) [] (int 1) (seq1 (int 3)) (int 7) (word_at []) [] ≡ Gives (seq2 (int 3) (int 7)) []
writes_last = refl

is_full : MacWrite (Macro channel) [] (int 1) (seq2 (int 3) (int 4)) (int 7) (word_at []) [] ≡ Stops Blocked []
is_full = refl

-- `read { either { yield 1 } or { yield 1 \div 0 } }`: the word behind those that the choices before have used
abbrev pub choosing : MappingMacro
choosing = mapping (codes "M") ((None, either_of 0 (statements (yield_as 0 (n 1) ∷ yield_as 0 no_value ∷ []))) ∷ []) []

abbrev pub made_of_two : ℕ → ChoiceMade
made_of_two i = record { count = 2; taken = i }

reads_one : MacRead (Macro choosing) [] (int 1) (int 9) (word_at (1 ∷ 0 ∷ [])) (made_of_two 1 ∷ []) ≡ Gives (int 1, None) (made_of_two 0 ∷ made_of_two 1 ∷ [])
reads_one = refl

reads_none : MacRead (Macro choosing) [] (int 1) (int 9) (word_at (1 ∷ 0 ∷ [])) [] ≡ Stops NoValue (made_of_two 1 ∷ [])
reads_none = refl

-- `read { with (e \in {4, 5, 6}) { yield e } }`, with the word 5: the third of three
abbrev pub of_three : MappingMacro
of_three = mapping (codes "M") ((None, with_in 0 (with_name (codes "e") (In (set_of (trees (n 4 ∷ n 5 ∷ n 6 ∷ [])))) ∷ []) (yield_as 0 (name (codes "e")))) ∷ []) []

reads_third : MacRead (Macro of_three) [] (int 1) (int 9) (word_at (5 ∷ [])) [] ≡ Gives (int 6, None) (record { count = 3; taken = 2 } ∷ [])
reads_third = refl

identity : MacRead Identity [] (int 1) (int 9) (word_at []) [] ≡ Gives (int 9, None) []
identity = refl

-- a value that is bound must be able to stand in a set by itself, so be at most 2,047 deep
deepest_content : MacRead Identity [] (int 1) (nested 2046) (word_at []) [] ≡ Gives (nested 2046, None) []
deepest_content = refl

content_too_deep : MacRead Identity [] (int 1) (nested 2047) (word_at []) [] ≡ Stops NoValue []
content_too_deep = refl

deepest_written : MacWrite Identity [] (int 1) (int 9) (nested 2046) (word_at []) [] ≡ Gives (nested 2046) []
deepest_written = refl

written_too_deep : MacWrite Identity [] (int 1) (int 9) (nested 2047) (word_at []) [] ≡ Stops NoValue []
written_too_deep = refl

-- ---- as a system

abbrev pub pops_system : Bound
pops_system = bound_of (two_pops (queue (n 3 ∷ n 4 ∷ []))) []

members : (system_of pops_system).members ≡ record { id = int 1; globals = x ∷ [] } ∷ []
members = refl

own_variables : (system_of pops_system).own ≡ record { variable = codes "P_y"; ids = int 1 ∷ [] } ∷ []
own_variables = refl

resources : (system_of pops_system).resources ≡ record { number = 0; global = x; index = Some (int 1) } ∷ []
resources = refl

steps : (system_of pops_system).sect 0 pops_system.start (word_at []) ≡ popped
steps = refl

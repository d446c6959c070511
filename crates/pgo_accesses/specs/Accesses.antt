-- A section's code as the tree of its accesses: what it reads and writes of resources, one after the other, whatever it finds there.
-- Between two accesses it needs nothing of the state but the instance's own components, so the tree has no state in it.
-- A tree is what the section does with some words of choice; an attempt tries one after another.
-- Source: this project's choice.
use Rattle.std.specs.Prelude.{ℕ, zero, suc, Bool, true, false, ◌&&◌, if◌then◌else◌, nat_eq, nat_le, List, [], ◌∷◌, ◌++◌, length, get_or, Option, Some, None, option_and_then}
use Rattle.pgo_base.specs.Data.{Data, string}
use Rattle.pgo_base.specs.Lookup.{Name, Names, Vars, same_name, find}
use Rattle.pgo_base.specs.Size.{depth}
use Rattle.pgo_base.specs.Tree.{Tree}
use Rattle.pgo_model.specs.Choice.{pick}
use Rattle.pgo_model.specs.Core.{number_among}
pub use Rattle.pgo_model.specs.Machine.{is_empty}
use Rattle.pgo_model.specs.Occurrences.{first_occurrences}
use Rattle.pgo_model.specs.Operators.{members_of, truth_of}
use Rattle.pgo_model.specs.Options.{on}
use Rattle.pgo_model.specs.Outcome.{Kind, Blocked, NoValue, AssertFails, Many}
use Rattle.pgo_model.specs.State.{state_depth, part_depth}
use Rattle.pgo_model.specs.System.{Words, Resource}
use Rattle.pgo_model.specs.Val.{Meaning, val}
use Rattle.pgo_model.specs.Written.{pc, self_name}
use Rattle.pgo_sections.specs.BoundValues.{bindable, value_under}
use Rattle.pgo_sections.specs.ChoiceTrees.{in_order}
use Rattle.pgo_sections.specs.Code.{Place, Whole, Own, Code, Empty, Skip, Let, Pick, Become, Set, Await, Assert, Print, If, Either, Seq, Goto, Yield, Read, Write, Codes, no_codes, more_codes}
use Rattle.pgo_sections.specs.Context.{index_value}
use Rattle.pgo_sections.specs.Exec.{MacroEnd, Gives, Stops, count}
use Rattle.pgo_sections.specs.FreeNames.{free_names}
use Rattle.pgo_sections.specs.Macros.{block_read, block_write}
use Rattle.pgo_sections.specs.SectionRun.{ChoiceMade, choice_among}
use Rattle.pgo_workers.specs.Walk as walks
use Rattle.pgo_workers.specs.Walk.{Stop, Touch, Goes, Sticks}
use Rattle.pgo_workers.specs.Operations.{part_of, read_put, write_put}
use Rattle.pgo_workers.specs.Tried.{LeafEnd, Leads, Blocks, LeafTree}

-- an attempt: the instance's identifier, what the names of its variables stand for, the definitions, which globals are bound by
-- element, the resources, the instance's own components at the start, and the words of choice
pub record Attempt : Type 0 where
  pub id : Data
  pub places : List (Name × Place)
  pub defs : List Meaning
  pub by_element : Name → Bool
  pub resources : List Resource
  pub own : walks.Own
  pub words : Words

-- how far it is: the own components that were assigned, the newest first; the resources that are too deep for a state now; the
-- choices that were made, the newest first, each of which took one word; and what was printed
pub record Progress : Type 0 where
  pub changes : Vars
  pub too_deep : List ℕ
  pub points : List ChoiceMade
  pub prints : List Data

abbrev pub begun : Progress
begun = record { changes = []; too_deep = []; points = []; prints = [] }

abbrev pub printing : Data → Progress → Progress
printing v p = record p { prints = p.prints ++ v ∷ [] }

-- the number that is picked among n
abbrev pub picked_number : Attempt → Progress → ℕ → ℕ
picked_number a p n = pick (a.words (length p.points)) n

abbrev pub choosing : ℕ → ℕ → Progress → Progress
choosing n i p = record p { points = choice_among n i ∷ p.points }

abbrev pub without : ℕ → List ℕ → List ℕ
without r [] = []
without r (q ∷ qs) = if nat_eq q r then without r qs else q ∷ without r qs

-- whether the resource is too deep for a state
abbrev pub marked : Bool → ℕ → List ℕ → List ℕ
marked true r rs = r ∷ without r rs
marked false r rs = without r rs

-- The greatest depth of a value of a state, and of one that can stand in a set by itself. An element is one level below its global.
abbrev pub state_limit : Bool → ℕ
state_limit true = part_depth
state_limit false = state_depth

abbrev pub set_limit : Bool → ℕ
set_limit true = 2046
set_limit false = 2047

abbrev pub is_too_deep : Bool → Data → Bool
is_too_deep is_element v = if nat_le (depth v) (state_limit is_element) then false else true

abbrev pub can_stand : Bool → Data → Bool
can_stand is_element v = nat_le (depth v) (set_limit is_element)

-- resource r has become v
abbrev pub becoming : Bool → ℕ → Data → Progress → Progress
becoming is_element r v p = record p { too_deep = marked (is_too_deep is_element v) r p.too_deep }

-- ---- how it ends

-- in a note, behind these choices; only what is Blocked tells them
abbrev pub stuck : Kind → List ChoiceMade → LeafEnd
stuck Blocked cs = Blocks (in_order cs)
stuck NoValue cs = Leads (Sticks NoValue)
stuck AssertFails cs = Leads (Sticks AssertFails)
stuck Many cs = Leads (Sticks Many)

abbrev pub no_value : LeafTree
no_value = Stop (Leads (Sticks NoValue))

abbrev pub fails : LeafTree
fails = Stop (Leads (Sticks AssertFails))

abbrev pub waits : Progress → LeafTree
waits p = Stop (Blocks (in_order p.points))

-- the own components where the section ends at this written label
abbrev pub own_next : Name → Vars → walks.Own → walks.Own
own_next l ch [] = []
own_next l ch (p ∷ o) = (p.0, if same_name p.0 pc then string l else on p.1 (find p.0 ch) (λ v. v)) ∷ own_next l ch o

-- an own component is one level below its variable
abbrev pub all_shallow : walks.Own → Bool
all_shallow [] = true
all_shallow (p ∷ o) = nat_le (depth p.1) (state_limit true) && all_shallow o

-- the section ends at this written label, where no value is too deep for a state
abbrev pub ended : Attempt → Name → Progress → LeafTree
ended a l p = let o = own_next l p.changes a.own in if is_empty p.too_deep && all_shallow o then Stop (Leads (Goes o p.prints)) else no_value

-- ---- expressions

-- what comes with a value
abbrev pub with_value : {A : Type 0} → Option A → (A → LeafTree) → LeafTree
with_value None f = no_value
with_value (Some v) f = f v

abbrev pub if_true : Option Bool → LeafTree → LeafTree → LeafTree
if_true (Some true) a b = a
if_true (Some false) a b = b
if_true None a b = no_value

-- each variable by its name, with its value now: what was read of the unmapped parameters, and what the instance's own are
abbrev pub view : Attempt → (seen : Vars) → Vars → List (Name × Place) → Names
view a seen ch [] = (self_name, Some a.id) ∷ []
view a seen ch (q ∷ qs) =
    (q.0, elim q.1 as (λ o. Option Data) [ Whole g ↦ find q.0 seen | Own y ↦ on (find y a.own) (find y ch) (λ v. Some v) ]) ∷ view a seen ch qs

abbrev pub value_of : Attempt → Tree → Names → (seen : Vars) → Vars → Option Data
value_of a e env seen ch = val e (record { names = env ++ view a seen ch a.places; part = None; now = []; next = None; defs = a.defs })

-- the resource that is a global as a whole is accessed
abbrev pub with_whole : Attempt → Name → (ℕ → LeafTree) → LeafTree
with_whole a g f = with_value (number_among a.resources (g, None)) f

-- the names that stand for a global as a whole are read, each once, and then what f makes of their values
abbrev pub reads_then : Attempt → List Name → (seen : Vars) → (Vars → LeafTree) → LeafTree
reads_then a [] seen f = f seen
reads_then a (x ∷ xs) seen f =
    elim (find x a.places) as (λ o. LeafTree) [
      | None ↦ reads_then a xs seen f
      | Some (Whole g) ↦ with_whole a g (λ r. Touch r (λ v. v) (λ v. reads_then a xs ((x, v) ∷ seen) f))
      | Some (Own y) ↦ reads_then a xs seen f
    ]

-- the unmapped parameters of an expression are read, and then it is evaluated
abbrev pub evaluating : Attempt → Tree → Names → Progress → (Option Data → LeafTree) → LeafTree
evaluating a e env p f = reads_then a (first_occurrences (free_names [] e)) [] (λ seen. f (value_of a e env seen p.changes))

-- ---- choices

abbrev pub with_member : Attempt → List Data → Progress → (Data → Progress → LeafTree) → LeafTree
with_member a [] p f = waits p
with_member a (m ∷ ms) p f =
    let n = length (m ∷ ms) in let i = picked_number a p n in f (get_or (m ∷ ms) i m) (choosing n i p)

-- ---- assignments

abbrev pub putting : Attempt → Place → Data → Progress → (Progress → LeafTree) → LeafTree
putting a (Whole g) v p f = with_whole a g (λ r. Touch r (λ old. v) (λ old. f (becoming false r v p)))
putting a (Own y) v p f = f (record p { changes = (y, v) ∷ p.changes })

-- ---- mapped parameters

-- the resource of a global that is bound by element is its element; of another one, where there is an index, the macro works on a
-- part of the whole
abbrev pub accessing : Attempt → Name → Option Data → (ℕ → Option Data → LeafTree) → LeafTree
accessing a g j f =
    if a.by_element g
    then on no_value j (λ i. with_value (number_among a.resources (g, Some i)) (λ r. f r None))
    else with_whole a g (λ r. f r j)

-- cs are the choices that were made before
abbrev pub read_here : Attempt → Code → Option Data → (cs : List ChoiceMade) → Data → MacroEnd (Data × Data)
read_here a block at cs v = on (Stops NoValue cs) (part_of at v) (λ old. read_put at v (block_read block a.defs a.id old a.words cs))

-- o is the value that is written, where there is one
abbrev pub write_here : Attempt → Code → Option Data → (o : Option Data) → (cs : List ChoiceMade) → Data → MacroEnd Data
write_here a block at o cs v =
    on (Stops NoValue cs) (part_of at v) (λ old.
    on (Stops NoValue cs) o (λ x. write_put at v (block_write block a.defs a.id old x a.words cs)))

-- what the content becomes, and is as it was where the block stops
abbrev pub left_by_read : Data → MacroEnd (Data × Data) → Data
left_by_read v (Gives r cs) = r.1
left_by_read v (Stops kind cs) = v

abbrev pub left_by_write : Data → MacroEnd Data → Data
left_by_write v (Gives w cs) = w
left_by_write v (Stops kind cs) = v

-- resource r has become v behind these choices
abbrev pub behind_block : Bool → ℕ → Data → List ChoiceMade → Progress → (Progress → LeafTree) → LeafTree
behind_block is_element r v cs p f = if can_stand is_element v then f (becoming is_element r v (record p { points = cs })) else no_value

abbrev pub behind_read : Bool → ℕ → Progress → MacroEnd (Data × Data) → (Data → Progress → LeafTree) → LeafTree
behind_read is_element r p (Gives x cs) f = behind_block is_element r x.1 cs p (f x.0)
behind_read is_element r p (Stops kind cs) f = Stop (stuck kind cs)

abbrev pub behind_write : Bool → ℕ → Progress → MacroEnd Data → (Progress → LeafTree) → LeafTree
behind_write is_element r p (Gives w cs) f = behind_block is_element r w cs p f
behind_write is_element r p (Stops kind cs) f = Stop (stuck kind cs)

abbrev pub reading : Attempt → Name → Option Data → Code → Progress → (Data → Progress → LeafTree) → LeafTree
reading a g j block p f =
    accessing a g j (λ r at.
    Touch r (λ v. left_by_read v (read_here a block at p.points v)) (λ v. behind_read (a.by_element g) r p (read_here a block at p.points v) f))

abbrev pub writing : Attempt → Name → Option Data → Code → Option Data → Progress → (Progress → LeafTree) → LeafTree
writing a g j block o p f =
    accessing a g j (λ r at.
    Touch r (λ v. left_by_write v (write_here a block at o p.points v)) (λ v. behind_write (a.by_element g) r p (write_here a block at o p.points v) f))

-- ---- code, and then what f makes of how far it is

abbrev mutual
  pub accesses : Attempt → Code → Names → Progress → (Progress → LeafTree) → LeafTree
  accesses a Empty env p f = f p
  accesses a Skip env p f = f p
  accesses a (Let b w e c) env p f = evaluating a e env p (λ o. with_value (bindable o) (λ v. accesses a c ((w, Some v) ∷ env) p f))
  accesses a (Pick b w e c) env p f =
      evaluating a e env p (λ o. with_value (option_and_then members_of o) (λ ms. with_member a ms p (λ v q. accesses a c ((w, Some v) ∷ env) q f)))
  accesses a (Become s w) env p f = with_value (value_under w env) (λ v. putting a s v p f)
  accesses a (Set b s e) env p f = evaluating a e env p (λ o. with_value (bindable o) (λ v. putting a s v p f))
  accesses a (Await e) env p f = evaluating a e env p (λ o. if_true (truth_of o) (f p) (waits p))
  accesses a (Assert e) env p f = evaluating a e env p (λ o. if_true (truth_of o) (f p) fails)
  accesses a (Print e) env p f = evaluating a e env p (λ o. with_value o (λ v. f (printing v p)))
  accesses a (If e c d) env p f = evaluating a e env p (λ o. if_true (truth_of o) (accesses a c env p f) (accesses a d env p f))
  accesses a (Either cs) env p f = let n = count cs in let i = picked_number a p n in accesses_of_arm a cs i env (choosing n i p) f
  accesses a (Seq c d) env p f = accesses a c env p (λ q. accesses a d env q f)
  accesses a (Goto l) env p f = ended a l p
  accesses a (Yield e) env p f = no_value
  accesses a (Read w g i block c) env p f = with_value (index_value i env) (λ j. reading a g j block p (λ v q. accesses a c ((w, Some v) ∷ env) q f))
  accesses a (Write g i w block) env p f = with_value (index_value i env) (λ j. writing a g j block (value_under w env) p f)

  pub accesses_of_arm : Attempt → Codes → ℕ → Names → Progress → (Progress → LeafTree) → LeafTree
  accesses_of_arm a no_codes i env p f = no_value
  accesses_of_arm a (more_codes c cs) zero env p f = accesses a c env p f
  accesses_of_arm a (more_codes c cs) (suc i) env p f = accesses_of_arm a cs i env p f

-- a section from its start; code that doesn't end at a label has no end
abbrev pub accesses_of : Attempt → Code → LeafTree
accesses_of a c = accesses a c [] begun (λ p. no_value)

-- What stands behind an instruction, and what an instruction waits for.
use Rattle.std.specs.Prelude.{◌≡◌, ℕ, suc, Bool, true, false, if◌then◌else◌, List, [], ◌∷◌, drop, Option, Some, None, option_and_then}
use Rattle.pgo_base.specs.Data.{Data}
use Rattle.pgo_base.specs.Lookup.{Name}
use Rattle.pgo_model.specs.Core.{number_among}
use Rattle.pgo_model.specs.Operators.{members_of, truth_of}
use Rattle.pgo_model.specs.Options.{on}
use Rattle.pgo_syntax.specs.RecordView.{kind_view}
use Rattle.pgo_sections.specs.BoundValues.{bindable}
use Rattle.pgo_workers.specs.Tried.{Leads, LeafTree}
use Rattle.pgo_workers.specs.Walk.{Stop, Touch, Goes}
use Rattle.pgo_accesses.specs.Accesses.{Attempt, printing, no_value, fails, waits, stuck, with_value, if_true, with_member}
use Rattle.pgo_code.specs.Steps.{Unmapped, Evaluation, Target, Resource, Own, Content, Step, Bind, Pick, Unbind, Assign, Set, Await, Assert, Print, Branch, Choose, Jump, End, Fail}
use Rattle.pgo_code.specs.See.{unmapped_view}
use Rattle.pgo_code.specs.declared.instruction.Unmapped as memory
use Rattle.pgo_places.specs.declared.flow.Access.{Access}
use Rattle.pgo_places.specs.declared.flow.Access.TheVariants as accesses
use Rattle.pgo_places.specs.declared.flow.Flow.{Flow}
use Rattle.pgo_places.specs.declared.flow.Flow.TheVariants as flows
use Rattle.pgo_places.specs.Stands.{Fixed, Stand, onward, binding, going, putting, labelled, with_words, resume}
use denote.Ref.{Bor}

-- the label of an end
abbrev pub label_of : Step → Name
label_of (End l) = l
label_of i = []

-- what is done from there on, behind the instruction i
abbrev pub flow_walk : Attempt → Fixed → (n : ℕ) → Step → List Step → Flow → Stand → LeafTree
flow_walk a k n i is flows.On s = resume a k n is s
flow_walk a k n i is (flows.Over j) s = resume a k n (drop j is) s
flow_walk a k n i is flows.Again s = resume a k (suc n) (i ∷ is) s
flow_walk a k n i is flows.Ended s = Stop (Leads (Goes (labelled (label_of i) s.own) s.progress.prints))
flow_walk a k n i is (flows.Noted kind) s = Stop (stuck (kind_view kind) s.progress.points)

-- what instruction i does from s is what is done from there on
abbrev pub LeadsTo : Attempt → Fixed → Step → Stand → Flow → Stand → Type 0
LeadsTo a k i s f t = (n : ℕ) (is : List Step) → resume a k (suc n) (i ∷ is) s ≡ flow_walk a k n i is f t

-- what instruction i evaluates, unless it has its value
abbrev pub evaluation_in : Step → Option Data → Option Evaluation
evaluation_in (Bind w e) o = Some e
evaluation_in (Pick w e) o = Some e
evaluation_in (Set t e) o = on (Some e) o (λ v. None)
evaluation_in (Await e) o = Some e
evaluation_in (Assert e) o = Some e
evaluation_in (Print e) o = Some e
evaluation_in (Branch e j) o = Some e
evaluation_in i o = None

-- what is done behind an evaluation that gives o, where no global is seen any more
abbrev pub after : Attempt → Fixed → ℕ → List Step → Step → Stand → Option Data → LeafTree
after a k n is (Bind w e) s o = with_value (bindable o) (λ v. resume a k n is (binding w v s))
after a k n is (Pick w e) s o = with_value (option_and_then members_of o) (λ ms. with_member (with_words s.words a) ms s.progress (λ v q. resume a k n is (binding w v (going q s))))
after a k n is (Set t e) s o = with_value (bindable o) (λ v. putting k t v (onward s) (resume a k n is))
after a k n is (Await e) s o = if_true (truth_of o) (resume a k n is s) (waits s.progress)
after a k n is (Assert e) s o = if_true (truth_of o) (resume a k n is s) fails
after a k n is (Print e) s o = with_value o (λ v. resume a k n is (going (printing v s.progress) s))
after a k n is (Branch e j) s o = if_true (truth_of o) (resume a k n is s) (resume a k n (drop j is) s)
after a k n is i s o = no_value

-- the reads that are left of an evaluation
abbrev pub left_of : Option Evaluation → Stand → List Unmapped
left_of None s = []
left_of (Some e) s = drop s.done e.reads

-- the first of them, lent, or none
abbrev pub IsFirst : List Unmapped → Option (Bor memory.Unmapped) → Type 0
IsFirst us None = us ≡ []
IsFirst us (Some u) = (xs : List Unmapped) × (us ≡ unmapped_view u.now ∷ xs)

-- the resource of a mapped parameter whose index has the value j
abbrev pub resource_at : Attempt → Content → Option Data → Option ℕ
resource_at a c j = if c.is_element then on None j (λ i. number_among a.resources (c.global, Some i)) else c.whole

-- the index at which its macro works on a part
abbrev pub part_index : Content → Option Data → Option Data
part_index c j = if c.is_element then None else j

-- the access of a resource, if there is one
abbrev pub access_to : Option ℕ → Access
access_to None = accesses.Nothing
access_to (Some r) = accesses.Of r

abbrev pub IsTouchOf : ℕ → LeafTree → Type 0
IsTouchOf r w = (leave : Data → Data) × (rest : Data → LeafTree) × (w ≡ Touch r leave rest)

-- where the reads of the instruction are done, it has nothing to evaluate
abbrev pub IsKnown : Step → Stand → Type 0
IsKnown i s = left_of (evaluation_in i s.value) s ≡ [] → evaluation_in i s.value ≡ None

-- an own component is assigned
abbrev pub IsOwn : Target → Type 0
IsOwn (Own y) = Unit {0}
IsOwn (Resource r) = ⊥

-- the instructions that evaluate nothing more and are no access
abbrev pub is_plain : Step → Bool
is_plain Unbind = true
is_plain (Assign (Own y) w) = true
is_plain (Set (Own y) e) = true
is_plain (Choose js) = true
is_plain (Jump j) = true
is_plain (End l) = true
is_plain Fail = true
is_plain i = false

-- where the instruction has nothing to evaluate, it is one of these
abbrev pub IsPlain : Step → Stand → Type 0
IsPlain i s = evaluation_in i s.value ≡ None → is_plain i ≡ true

-- the access at which instruction i stands
abbrev pub StandsAt : Attempt → Fixed → Step → Stand → Access → Type 0
StandsAt a k i s accesses.No = (left_of (evaluation_in i s.value) s ≡ []) × IsPlain i s
StandsAt a k i s accesses.Nothing = (n : ℕ) (is : List Step) → resume a k (suc n) (i ∷ is) s ≡ no_value
StandsAt a k i s (accesses.Of r) = ((n : ℕ) (is : List Step) → IsTouchOf r (resume a k (suc n) (i ∷ is) s)) × IsKnown i s

-- An attempt that is under way: what its names stand for, and what its instructions still do.
-- Source: this project's choice.
use Rattle.std.specs.Prelude.{ℕ, zero, suc, Bool, true, false, ◌&&◌, if◌then◌else◌, nat_lt, List, [], ◌∷◌, ◌++◌, length, drop, get_or, Option, Some, None, option_and_then}
use Rattle.pgo_base.specs.BindingsView.{onto}
use Rattle.pgo_base.specs.Data.{Data, string}
use Rattle.pgo_base.specs.Lookup.{Name, Names, same_name}
use Rattle.pgo_base.specs.Tree.{Tree}
use Rattle.pgo_model.specs.Choice.{pick}
use Rattle.pgo_model.specs.Operators.{members_of, truth_of}
use Rattle.pgo_model.specs.Options.{on}
use Rattle.pgo_model.specs.System.{Words}
use Rattle.pgo_model.specs.Val.{val}
use Rattle.pgo_model.specs.Written.{pc}
use Rattle.pgo_sections.specs.BoundValues.{bindable, value_under}
use Rattle.pgo_sections.specs.Context.{index_value}
use Rattle.pgo_workers.specs.Tried.{Leads, LeafTree}
use Rattle.pgo_workers.specs.Walk.{Own, Stop, Touch, Again, Goes}
use Rattle.pgo_accesses.specs.Accesses.{Attempt, Progress, printing, choosing, becoming, no_value, fails, waits, with_value, if_true, with_member, is_empty, all_shallow}
use Rattle.pgo_code.specs.Steps.{Unmapped, Evaluation, Target, Resource, Own as OwnTarget, Step, Bind, Pick, Unbind, Assign, Set, Await, Assert, Print, Branch, Choose, Jump, End, Read, Write, Fail, reading, writing, unbound}

-- what an attempt's names are: the name of the instance's identifier, and for each variable, in its order, the own component that it
-- is, or none where it is a global as a whole
pub record Fixed : Type 0 where
  pub identity : Name
  pub owners : List (Option Name)

-- Where an attempt is: how many of the instruction's reads are done, and the value that it is about to assign, if it has one; the names
-- in scope, the newest first; the variables, the last one first, of which a global has a value while it is seen; the own components;
-- the words of choice of the attempt, and those of its leaf, which begin with the leaf's path; and how far it is
pub record Stand : Type 0 where
  pub done : ℕ
  pub value : Option Data
  pub env : Names
  pub variables : Names
  pub own : Own
  pub first : Words
  pub words : Words
  pub progress : Progress

-- the number that the next word picks among n
abbrev pub picked_at : Stand → ℕ → ℕ
picked_at s n = pick (s.words (length s.progress.points)) n

-- ---- variables

-- each variable whose owner and name are meant has this value
abbrev pub updated : (Option Name → Name → Bool) → Option Data → List (Option Name) → Names → Names
updated t o ws [] = []
updated t o [] (n ∷ ns) = n ∷ ns
updated t o (w ∷ ws) (n ∷ ns) = (n.0, if t w n.0 then o else n.1) ∷ updated t o ws ns

abbrev pub is_global : Option Name → Name → Bool
is_global None n = true
is_global (Some y) n = false

-- a global of this name
abbrev pub is_global_named : Name → Option Name → Name → Bool
is_global_named x None n = same_name n x
is_global_named x (Some y) n = false

-- the own component of this name
abbrev pub is_own_named : Name → Option Name → Name → Bool
is_own_named x None n = false
is_own_named x (Some y) n = same_name y x

-- the component of this name has this value
abbrev pub own_put : Name → Data → Own → Own
own_put y v [] = []
own_put y v (p ∷ o) = (p.0, if same_name p.0 y then v else p.1) ∷ own_put y v o

-- the component at a place has this value, where it has this name
abbrev pub own_put_at : Name → Data → ℕ → Own → Own
own_put_at y v n [] = []
own_put_at y v zero (p ∷ o) = (p.0, if same_name p.0 y then v else p.1) ∷ o
own_put_at y v (suc n) (p ∷ o) = p ∷ own_put_at y v n o

-- the own components where the section ends at this written label
abbrev pub labelled : Name → Own → Own
labelled l o = own_put pc (string l) o

-- ---- changes of a stand

-- before the next instruction
abbrev pub onward : Stand → Stand
onward s = record s { done = 0; value = None }

-- behind an evaluation: no global is seen
abbrev pub cleared : Fixed → Stand → Stand
cleared k s = record s { done = 0; value = None; variables = updated is_global None k.owners s.variables }

-- a read more is done, of a global of this name
abbrev pub looked : Fixed → Name → Data → Stand → Stand
looked k x v s = record s { done = suc s.done; variables = updated (is_global_named x) (Some v) k.owners s.variables }

abbrev pub binding : Name → Data → Stand → Stand
binding w v s = record s { env = (w, Some v) ∷ s.env }

abbrev pub assigned : Fixed → Name → Data → Stand → Stand
assigned k y v s = record s { variables = updated (is_own_named y) (Some v) k.owners s.variables; own = own_put y v s.own }

abbrev pub going : Progress → Stand → Stand
going q s = record s { progress = q }

-- ---- what is still done

abbrev pub names_in : Attempt → Fixed → Names → Names → Names
names_in a k env vs = env ++ onto vs ((k.identity, Some a.id) ∷ [])

-- the value of an expression where the variables stand for this
abbrev pub value_in : Attempt → Fixed → Tree → Names → Names → Option Data
value_in a k e env vs = val e (record { names = names_in a k env vs; part = None; now = []; next = None; defs = a.defs })

abbrev pub reads_then : Fixed → List Unmapped → Names → (Names → LeafTree) → LeafTree
reads_then k [] vs f = f vs
reads_then k (x ∷ xs) vs f = with_value x.1 (λ r. Touch r (λ v. v) (λ v. reads_then k xs (updated (is_global_named x.0) (Some v) k.owners vs) f))

-- the reads that are left are done, and then the expression is evaluated
abbrev pub evaluating : Attempt → Fixed → Evaluation → Stand → (Option Data → LeafTree) → LeafTree
evaluating a k e s f = reads_then k (drop s.done e.reads) s.variables (λ vs. f (value_in a k e.expression s.env vs))

abbrev pub putting : Fixed → Target → Data → Stand → (Stand → LeafTree) → LeafTree
putting k (Resource r) v s f = with_value r (λ n. Touch n (λ old. v) (λ old. f (going (becoming false n v s.progress) s)))
putting k (OwnTarget y) v s f = f (assigned k y v s)

-- the section ends at this written label, where no value is too deep for a state
abbrev pub ended : Name → Stand → LeafTree
ended l s = let o = labelled l s.own in if is_empty s.progress.too_deep && all_shallow o then Stop (Leads (Goes o s.progress.prints)) else no_value

abbrev pub with_words : Words → Attempt → Attempt
with_words d a = record a { words = d }

-- what instructions do from a stand, n of them at most, with the words of the leaf
abbrev pub resume : Attempt → Fixed → (n : ℕ) → List Step → Stand → LeafTree
resume a k zero is s = no_value
resume a k (suc n) [] s = no_value
resume a k (suc n) (Bind w e ∷ is) s = evaluating a k e s (λ o. with_value (bindable o) (λ v. resume a k n is (binding w v (cleared k s))))
resume a k (suc n) (Pick w e ∷ is) s =
    evaluating a k e s (λ o. with_value (option_and_then members_of o) (λ ms. with_member (with_words s.words a) ms s.progress (λ v q. resume a k n is (binding w v (going q (cleared k s))))))
resume a k (suc n) (Unbind ∷ is) s = resume a k n is (record (onward s) { env = unbound s.env })
resume a k (suc n) (Assign t w ∷ is) s = with_value (value_under w s.env) (λ v. putting k t v (onward s) (resume a k n is))
resume a k (suc n) (Set t e ∷ is) s =
    on (evaluating a k e s (λ o. with_value (bindable o) (λ v. putting k t v (cleared k s) (resume a k n is)))) s.value (λ v. putting k t v (onward s) (resume a k n is))
resume a k (suc n) (Await e ∷ is) s = evaluating a k e s (λ o. if_true (truth_of o) (resume a k n is (cleared k s)) (waits s.progress))
resume a k (suc n) (Assert e ∷ is) s = evaluating a k e s (λ o. if_true (truth_of o) (resume a k n is (cleared k s)) fails)
resume a k (suc n) (Print e ∷ is) s = evaluating a k e s (λ o. with_value o (λ v. resume a k n is (going (printing v s.progress) (cleared k s))))
resume a k (suc n) (Branch e j ∷ is) s = evaluating a k e s (λ o. if_true (truth_of o) (resume a k n is (cleared k s)) (resume a k n (drop j is) (cleared k s)))
resume a k (suc n) (Choose js ∷ is) s =
    let m = length js in let i = picked_at s m in resume a k n (drop (get_or js i 0) is) (going (choosing m i s.progress) (onward s))
resume a k (suc n) (Jump j ∷ is) s = resume a k n (drop j is) (onward s)
resume a k (suc n) (End l ∷ is) s = ended l s
resume a k (suc n) (Read w c i ∷ is) s =
    with_value (index_value i s.env) (λ j. reading (with_words s.words a) c j s.progress (λ v q. resume a k n is (binding w v (going q (onward s)))))
resume a k (suc n) (Write c i w ∷ is) s =
    with_value (index_value i s.env) (λ j. writing (with_words s.words a) c j (value_under w s.env) s.progress (λ q. resume a k n is (going q (onward s))))
resume a k (suc n) (Fail ∷ is) s = no_value

-- an access of a resource that there isn't counts as none
abbrev pub limited : ℕ → LeafTree → LeafTree
limited m (Stop e) = Stop e
limited m (Again w) = Again (limited m w)
limited m (Touch r leave rest) = if nat_lt r m then Touch r leave (λ v. limited m (rest v)) else no_value

-- What instructions do: the accesses that they make, one after the other.
use Rattle.std.specs.Prelude.{ℕ, zero, suc, Bool, false, if◌then◌else◌, List, [], ◌∷◌, length, drop, get_or, Option, Some, None, option_and_then}
use Rattle.pgo_base.specs.Data.{Data}
use Rattle.pgo_base.specs.Lookup.{Name, Names, Vars}
use Rattle.pgo_base.specs.Tree.{Tree}
use Rattle.pgo_model.specs.Core.{number_among}
use Rattle.pgo_model.specs.Operators.{members_of, truth_of}
use Rattle.pgo_model.specs.Options.{on}
use Rattle.pgo_sections.specs.BoundValues.{bindable, value_under}
use Rattle.pgo_sections.specs.Code.{Code}
use Rattle.pgo_sections.specs.Context.{index_value}
use Rattle.pgo_workers.specs.Tried.{LeafTree}
use Rattle.pgo_workers.specs.Walk.{Touch}
use Rattle.pgo_accesses.specs.Accesses.{Attempt, Progress, begun, printing, picked_number, choosing, becoming, no_value, fails, waits, ended, with_value, if_true, value_of, with_member, read_here, write_here, left_by_read, left_by_write, behind_read, behind_write}

-- an unmapped parameter and its resource, if there is one
abbrev pub Unmapped : Type 0
Unmapped = Name × Option ℕ

pub record Evaluation : Type 0 where
  pub expression : Tree
  pub reads : List Unmapped

pub data Target : Type 0 where
  Resource : (r : Option ℕ) → Target
  Own : (x : Name) → Target

-- a mapped parameter: its global, whether that is bound by element, and else its resource; and the blocks that read and write it
pub record Content : Type 0 where
  pub global : Name
  pub is_element : Bool
  pub whole : Option ℕ
  pub reads : Code
  pub writes : Code

pub data Step : Type 0 where
  Bind : (w : Name) → (e : Evaluation) → Step
  Pick : (w : Name) → (e : Evaluation) → Step
  Unbind : Step
  Assign : (t : Target) → (w : Name) → Step
  Set : (t : Target) → (e : Evaluation) → Step
  Await : (e : Evaluation) → Step
  Assert : (e : Evaluation) → Step
  Print : (e : Evaluation) → Step
  Branch : (e : Evaluation) → (otherwise : ℕ) → Step
  Choose : (arms : List ℕ) → Step
  Jump : (n : ℕ) → Step
  End : (l : Name) → Step
  Read : (w : Name) → (c : Content) → (i : Option Name) → Step
  Write : (c : Content) → (i : Option Name) → (w : Name) → Step
  Fail : Step

-- the unmapped parameters are read, and then what f makes of their values
abbrev pub reads_then : List Unmapped → (seen : Vars) → (Vars → LeafTree) → LeafTree
reads_then [] seen f = f seen
reads_then (x ∷ xs) seen f = with_value x.1 (λ r. Touch r (λ v. v) (λ v. reads_then xs ((x.0, v) ∷ seen) f))

abbrev pub evaluating : Attempt → Evaluation → Names → Progress → (Option Data → LeafTree) → LeafTree
evaluating a e env p f = reads_then e.reads [] (λ seen. f (value_of a e.expression env seen p.changes))

abbrev pub putting : Target → Data → Progress → (Progress → LeafTree) → LeafTree
putting (Resource r) v p f = with_value r (λ n. Touch n (λ old. v) (λ old. f (becoming false n v p)))
putting (Own y) v p f = f (record p { changes = (y, v) ∷ p.changes })

-- the resource of a mapped parameter whose index has the value j, and the index at which its macro works on a part
abbrev pub accessing : Attempt → Content → Option Data → (ℕ → Option Data → LeafTree) → LeafTree
accessing a c j f =
    if c.is_element
    then on no_value j (λ i. with_value (number_among a.resources (c.global, Some i)) (λ r. f r None))
    else with_value c.whole (λ r. f r j)

abbrev pub reading : Attempt → Content → Option Data → Progress → (Data → Progress → LeafTree) → LeafTree
reading a c j p f =
    accessing a c j (λ r at. Touch r (λ v. left_by_read v (read_here a c.reads at p.points v)) (λ v. behind_read c.is_element r p (read_here a c.reads at p.points v) f))

abbrev pub writing : Attempt → Content → Option Data → Option Data → Progress → (Progress → LeafTree) → LeafTree
writing a c j o p f =
    accessing a c j (λ r at. Touch r (λ v. left_by_write v (write_here a c.writes at o p.points v)) (λ v. behind_write c.is_element r p (write_here a c.writes at o p.points v) f))

-- the names without the newest one
abbrev pub unbound : Names → Names
unbound [] = []
unbound (n ∷ ns) = ns

-- What instructions do, n of them at most; behind the last one there is no value. Each jump leads forward, so a number that isn't
-- below their length is enough.
abbrev pub steps : (n : ℕ) → Attempt → List Step → Names → Progress → LeafTree
steps zero a is env p = no_value
steps (suc n) a [] env p = no_value
steps (suc n) a (Bind w e ∷ is) env p = evaluating a e env p (λ o. with_value (bindable o) (λ v. steps n a is ((w, Some v) ∷ env) p))
steps (suc n) a (Pick w e ∷ is) env p =
    evaluating a e env p (λ o. with_value (option_and_then members_of o) (λ ms. with_member a ms p (λ v q. steps n a is ((w, Some v) ∷ env) q)))
steps (suc n) a (Unbind ∷ is) env p = steps n a is (unbound env) p
steps (suc n) a (Assign t w ∷ is) env p = with_value (value_under w env) (λ v. putting t v p (steps n a is env))
steps (suc n) a (Set t e ∷ is) env p = evaluating a e env p (λ o. with_value (bindable o) (λ v. putting t v p (steps n a is env)))
steps (suc n) a (Await e ∷ is) env p = evaluating a e env p (λ o. if_true (truth_of o) (steps n a is env p) (waits p))
steps (suc n) a (Assert e ∷ is) env p = evaluating a e env p (λ o. if_true (truth_of o) (steps n a is env p) fails)
steps (suc n) a (Print e ∷ is) env p = evaluating a e env p (λ o. with_value o (λ v. steps n a is env (printing v p)))
steps (suc n) a (Branch e k ∷ is) env p = evaluating a e env p (λ o. if_true (truth_of o) (steps n a is env p) (steps n a (drop k is) env p))
steps (suc n) a (Choose ks ∷ is) env p =
    let m = length ks in let i = picked_number a p m in steps n a (drop (get_or ks i 0) is) env (choosing m i p)
steps (suc n) a (Jump k ∷ is) env p = steps n a (drop k is) env p
steps (suc n) a (End l ∷ is) env p = ended a l p
steps (suc n) a (Read w c i ∷ is) env p = with_value (index_value i env) (λ j. reading a c j p (λ v q. steps n a is ((w, Some v) ∷ env) q))
steps (suc n) a (Write c i w ∷ is) env p = with_value (index_value i env) (λ j. writing a c j (value_under w env) p (steps n a is env))
steps (suc n) a (Fail ∷ is) env p = no_value

-- a section from its first instruction
abbrev pub steps_of : Attempt → List Step → LeafTree
steps_of a is = steps (suc (length is)) a is [] begun

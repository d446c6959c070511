-- What the trees of these specifications visit on values, how they end and what they leave.
use Rattle.std.specs.Prelude.{◌≡◌, ℕ, pos, [], ◌∷◌, Some, None, codes, refl}
use Rattle.pgo_base.specs.declared.expr.Infix.TheVariants as infixs
use Rattle.pgo_base.specs.Data.{Data, string, function, pairs}
use Rattle.pgo_base.specs.Lookup.{Name}
use Rattle.pgo_base.specs.Tree.{name, number, binary, index, call, trees}
use Rattle.pgo_model.specs.Choice.{word_at}
use Rattle.pgo_model.specs.Outcome.{Blocked, NoValue}
use Rattle.pgo_base.specs.declared.module.Defined.TheVariants.{Given}
use Rattle.pgo_base.specs.declared.value.Value.TheVariants.{Int}
use Rattle.pgo_syntax.specs.Statement.{assign, either_of, await_that, with_in, yield_as, block, statements, labeled}
use Rattle.pgo_syntax.specs.declared.archetype.Archetype.{Archetype}
use Rattle.pgo_syntax.specs.declared.archetype.Extent.TheVariants as extents
use Rattle.pgo_syntax.specs.declared.assignment.Step.TheVariants as step
use Rattle.pgo_syntax.specs.declared.binding.Origin.TheVariants.{Equals, In as InSet}
use Rattle.pgo_syntax.specs.declared.bound.Bound.{Bound}
use Rattle.pgo_syntax.specs.declared.bound.Mapping.TheVariants.{Macro}
use Rattle.pgo_syntax.specs.declared.bound.Target.TheVariants as targets
use Rattle.pgo_meaning.proofs.RowTools.{Block, placed_name, assignment, with_name, archetype, mapping, binding, one_instance, int}
use Rattle.pgo_workers.specs.Walk.{Own, Walk, Goes, Sticks, visits, ending, final}
use Rattle.pgo_accesses.specs.Programs.{tree_with}

-- a queue: a read takes its first value and waits for one; a write appends, and waits for room
abbrev queue_reads : Block
queue_reads =
    (None, await_that 0 (binary infixs.Greater (call (codes "Len") (trees (name (codes "$variable") ∷ []))) (number (pos 0))))
    ∷ (
      None,
      with_in 0 (with_name (codes "msg") (Equals (call (codes "Head") (trees (name (codes "$variable") ∷ [])))) ∷ [])
          (block 0 (labeled ((None, assign 0 (assignment (codes "$variable") [] (call (codes "Tail") (trees (name (codes "$variable") ∷ []))) ∷ [])) ∷ (None, yield_as 0 (name (codes "msg"))) ∷ []))),
    ) ∷ []

abbrev queue_writes : Block
queue_writes =
    (None, await_that 0 (binary infixs.Less (call (codes "Len") (trees (name (codes "$variable") ∷ []))) (name (codes "SIZE"))))
    ∷ (None, yield_as 0 (call (codes "Append") (trees (name (codes "$variable") ∷ name (codes "$value") ∷ [])))) ∷ []

-- l: v := net[i] + net[i]; net[i] := v;
abbrev two_reads : ℕ → Archetype
two_reads i =
    let e = index (name (codes "net")) (trees (number (pos i) ∷ [])) in
    archetype (codes "A") (codes "v" ∷ []) (
    (Some (placed_name (codes "l")), assign 0 (assignment (codes "v") [] (binary infixs.Add e e) ∷ []))
    ∷ (None, assign 0 (assignment (codes "net") (step.Index (number (pos i)) ∷ []) (name (codes "v")) ∷ [])) ∷ [])

-- net[1] is the one resource
abbrev with_queue : ℕ → Bound
with_queue i =
    record (one_instance [] (codes "P") (two_reads i) (binding (codes "net") (targets.Global (codes "net") extents.Element (Some (Macro (mapping (codes "Queue") queue_reads queue_writes)))) ∷ []) (codes "net" ∷ []) (Given (codes "SIZE") (Int (pos 2)) ∷ []) (Int (pos 1))) {
      resources = record { number = 0; global = codes "net"; index = Some (Int (pos 1)) } ∷ [];
    }

abbrev own : ℕ → Name → Own
own v l = (codes "pc", string l) ∷ (codes "P_v", int v) ∷ []

-- <<x, y>>
abbrev two : ℕ → ℕ → Data
two x y = function (pairs ((int 1, int x) ∷ (int 2, int y) ∷ []))

abbrev one : ℕ → Data
one x = function (pairs ((int 1, int x) ∷ []))

abbrev queue_tree : ℕ → Walk
queue_tree i = tree_with (with_queue i) (word_at []) 0 (own 0 (codes "P_l"))

-- two reads of one queue are two accesses, and its write is a third
row_two_reads : visits (queue_tree 1) (λ r. two 3 4) ≡ 0 ∷ 0 ∷ 0 ∷ []
row_two_reads = refl

row_two_reads_end : ending (queue_tree 1) (λ r. two 3 4) ≡ Goes (own 7 (codes "Done")) []
row_two_reads_end = refl

row_two_reads_left : final (queue_tree 1) (λ r. two 3 4) 0 ≡ one 7
row_two_reads_left = refl

-- of a queue with one value the second read waits; the first has taken it
row_one_value : visits (queue_tree 1) (λ r. one 3) ≡ 0 ∷ 0 ∷ []
row_one_value = refl

row_one_value_end : ending (queue_tree 1) (λ r. one 3) ≡ Sticks Blocked
row_one_value_end = refl

-- an element outside of the domain is no access
row_outside : visits (queue_tree 2) (λ r. two 3 4) ≡ []
row_outside = refl

row_outside_end : ending (queue_tree 2) (λ r. two 3 4) ≡ Sticks NoValue
row_outside_end = refl

-- l: with (w \in 1 .. 3, u = w * x) { await u > 2; x := u; }
abbrev chooses : Bound
chooses =
    record (one_instance [] (codes "P") (archetype (codes "A") [] ((
      Some (placed_name (codes "l")),
      with_in 0 (
          with_name (codes "w") (InSet (binary infixs.Range (number (pos 1)) (number (pos 3)))) ∷ with_name (codes "u") (Equals (binary infixs.Multiply (name (codes "w")) (name (codes "v")))) ∷ [])
          (block 0 (labeled ((None, await_that 0 (binary infixs.Greater (name (codes "u")) (number (pos 2)))) ∷ (None, assign 0 (assignment (codes "v") [] (name (codes "u")) ∷ [])) ∷ []))),
    ) ∷ []))
    (binding (codes "v") (targets.Global (codes "x") extents.Whole None) ∷ []) (codes "x" ∷ []) [] (Int (pos 1))) {
      resources = record { number = 0; global = codes "x"; index = None } ∷ [];
    }

abbrev place : Name → Own
place l = (codes "pc", string l) ∷ []

-- a word picks a member; x is read once, and written where the condition holds
row_with : visits (tree_with chooses (word_at (5 ∷ [])) 0 (place (codes "P_l"))) (λ r. int 2) ≡ 0 ∷ 0 ∷ []
row_with = refl

row_with_left : final (tree_with chooses (word_at (5 ∷ [])) 0 (place (codes "P_l"))) (λ r. int 2) 0 ≡ int 6
row_with_left = refl

row_with_end : ending (tree_with chooses (word_at (5 ∷ [])) 0 (place (codes "P_l"))) (λ r. int 2) ≡ Goes (place (codes "Done")) []
row_with_end = refl

-- the word picks 1, with which it waits; then 2 is tried, and x is read anew
row_with_tries : visits (tree_with chooses (word_at (3 ∷ [])) 0 (place (codes "P_l"))) (λ r. int 2) ≡ 0 ∷ 0 ∷ 0 ∷ []
row_with_tries = refl

row_with_tries_left : final (tree_with chooses (word_at (3 ∷ [])) 0 (place (codes "P_l"))) (λ r. int 2) 0 ≡ int 4
row_with_tries_left = refl

row_with_tries_end : ending (tree_with chooses (word_at (3 ∷ [])) 0 (place (codes "P_l"))) (λ r. int 2) ≡ Goes (place (codes "Done")) []
row_with_tries_end = refl

-- with each of the three it waits
row_with_waits : visits (tree_with chooses (word_at (5 ∷ [])) 0 (place (codes "P_l"))) (λ r. int 0) ≡ 0 ∷ 0 ∷ 0 ∷ []
row_with_waits = refl

row_with_waits_end : ending (tree_with chooses (word_at (5 ∷ [])) 0 (place (codes "P_l"))) (λ r. int 0) ≡ Sticks Blocked
row_with_waits_end = refl

-- l: either { v := 1; await v > 1; } or { v := v + 2; };
abbrev puts_back : Bound
puts_back =
    record (one_instance [] (codes "P") (archetype (codes "A") [] ((
      Some (placed_name (codes "l")),
      either_of 0 (statements (
          block 0 (labeled ((None, assign 0 (assignment (codes "v") [] (number (pos 1)) ∷ [])) ∷ (None, await_that 0 (binary infixs.Greater (name (codes "v")) (number (pos 1)))) ∷ []))
          ∷ assign 0 (assignment (codes "v") [] (binary infixs.Add (name (codes "v")) (number (pos 2))) ∷ []) ∷ [])),
    ) ∷ []))
    (binding (codes "v") (targets.Global (codes "x") extents.Whole None) ∷ []) (codes "x" ∷ []) [] (Int (pos 1))) {
      resources = record { number = 0; global = codes "x"; index = None } ∷ [];
    }

-- behind the arm that waits x is as it was at the start
row_puts_back : visits (tree_with puts_back (word_at (4 ∷ [])) 0 (place (codes "P_l"))) (λ r. int 5) ≡ 0 ∷ 0 ∷ 0 ∷ 0 ∷ []
row_puts_back = refl

row_puts_back_left : final (tree_with puts_back (word_at (4 ∷ [])) 0 (place (codes "P_l"))) (λ r. int 5) 0 ≡ int 7
row_puts_back_left = refl

-- its second arm doesn't wait
row_second_arm : visits (tree_with puts_back (word_at (1 ∷ [])) 0 (place (codes "P_l"))) (λ r. int 5) ≡ 0 ∷ 0 ∷ []
row_second_arm = refl

-- at Done there is no section, and nothing is accessed
row_done : visits (tree_with chooses (word_at []) 0 (place (codes "Done"))) (λ r. int 2) ≡ []
row_done = refl

-- Expansions of small sections, worked out by hand.
use Rattle.std.specs.Prelude.{◌≡◌, List, [], ◌∷◌, Some, None, codes, refl}
use Rattle.pgo_base.specs.declared.expr.Infix.TheVariants as infixs
use Rattle.pgo_syntax.specs.declared.archetype.Extent.TheVariants as extents
use Rattle.pgo_syntax.specs.declared.assignment.Step.TheVariants as step
use Rattle.pgo_syntax.specs.declared.bound.Target.TheVariants as targets
use Rattle.pgo_base.specs.Tree.{name, text, binary, index, except, trees, paths}
use Rattle.pgo_syntax.specs.Statement.{skip, assign, if_then, either_of, with_in, print_out, call_macro, yield_as, block, statements, labeled, guarded}
use Rattle.pgo_syntax.specs.declared.binding.Origin.TheVariants.{In as InSet}
use Rattle.pgo_syntax.specs.declared.bound.Mapping.TheVariants.{Identity, Macro}
use Rattle.pgo_meaning.proofs.RowTools.{n, ref, writes_value, placed_name, assignment, with_name, archetype, macro, mapping, binding}
use Rattle.pgo_model.specs.Written.{made}
use Rattle.pgo_sections.specs.Expansion.{Expansion, With, In, Skip, Print, If, Either, End, no_expansions, more_expansions}
use Rattle.pgo_sections.specs.Nodes.{nodes, most_names}
use Rattle.pgo_base.specs.Lookup.{Name}
use Rattle.pgo_meaning.specs.Expansions.{expansions_of}

-- `v := q` with `read { $variable[1] := 9 || $variable[2] := $variable[1]; yield $variable[2] }`
two_paths_of_a_content : expansions_of (codes "x" ∷ codes "y" ∷ codes "pc" ∷ []) [] (codes "P") (archetype (codes "A") [] (((Some (placed_name (codes "l"))), (assign 0 ((assignment (codes "v") [] (name (codes "q"))) ∷ []))) ∷ [])) ((binding (codes "q") (targets.Global (codes "y") extents.Whole (Some (Macro (mapping (codes "M") ((None, (assign 0 ((assignment (codes "$variable") ((step.Index (n 1)) ∷ []) (n 9)) ∷ (assignment (codes "$variable") ((step.Index (n 2)) ∷ []) (index (name (codes "$variable")) (trees ((n 1) ∷ [])))) ∷ []))) ∷ (None, (yield_as 0 (index (name (codes "$variable")) (trees ((n 2) ∷ []))))) ∷ []) writes_value))))) ∷ ref (codes "v") (codes "x") ∷ [])
    ≡ (((codes "P_l"), (With (made (codes "old") 1) (name (codes "y")) (With (made (codes "at") 2) (n 1) (With (made (codes "val") 3) (n 9) (With (made (codes "at") 4) (n 2) (With (made (codes "val") 5) (index (name (made (codes "old") 1)) (trees ((n 1) ∷ []))) (With (made (codes "old") 6) (except (name (made (codes "old") 1)) (paths ((((name (made (codes "at") 2)) ∷ []), (name (made (codes "val") 3))) ∷ []))) (With (made (codes "old") 7) (except (name (made (codes "old") 6)) (paths ((((name (made (codes "at") 4)) ∷ []), (name (made (codes "val") 5))) ∷ []))) (With (made (codes "val") 8) (index (name (made (codes "old") 7)) (trees ((n 2) ∷ []))) (With (made (codes "y") 9) (name (made (codes "old") 7)) (With (made (codes "val") 10) (name (made (codes "val") 8)) (End (((codes "x"), (made (codes "val") 10)) ∷ ((codes "y"), (made (codes "y") 9)) ∷ []) (codes "Done"))))))))))))) ∷ [])
two_paths_of_a_content = refl

-- `v := net[1]; w := v` with `read { either { $variable := 1; yield 5 } or { yield 6 } }`: what follows stands in each arm
copied_behind_a_choice : expansions_of (codes "n" ∷ codes "x" ∷ codes "y" ∷ codes "pc" ∷ []) [] (codes "P") (archetype (codes "A") [] (((Some (placed_name (codes "l"))), (assign 0 ((assignment (codes "v") [] (index (name (codes "net")) (trees ((n 1) ∷ [])))) ∷ []))) ∷ (None, (assign 0 ((assignment (codes "w") [] (name (codes "v"))) ∷ []))) ∷ [])) ((binding (codes "net") (targets.Global (codes "n") extents.Element (Some (Macro (mapping (codes "M") ((None, (either_of 0 (statements ((block 0 (labeled ((None, (assign 0 ((assignment (codes "$variable") [] (n 1)) ∷ []))) ∷ (None, (yield_as 0 (n 5))) ∷ []))) ∷ (block 0 (labeled ((None, (yield_as 0 (n 6))) ∷ []))) ∷ [])))) ∷ []) writes_value))))) ∷ ref (codes "v") (codes "x") ∷ ref (codes "w") (codes "y") ∷ [])
    ≡ (((codes "P_l"), (With (made (codes "at") 1) (n 1) (With (made (codes "old") 2) (index (name (codes "n")) (trees ((name (made (codes "at") 1)) ∷ []))) (Either (more_expansions (With (made (codes "old") 3) (n 1) (With (made (codes "val") 4) (n 5) (With (made (codes "n") 5) (except (name (codes "n")) (paths ((((name (made (codes "at") 1)) ∷ []), (name (made (codes "old") 3))) ∷ []))) (With (made (codes "val") 6) (name (made (codes "val") 4)) (With (made (codes "val") 7) (name (made (codes "val") 6)) (End (((codes "n"), (made (codes "n") 5)) ∷ ((codes "x"), (made (codes "val") 6)) ∷ ((codes "y"), (made (codes "val") 7)) ∷ []) (codes "Done"))))))) (more_expansions (With (made (codes "val") 3) (n 6) (With (made (codes "val") 4) (name (made (codes "val") 3)) (With (made (codes "val") 5) (name (made (codes "val") 4)) (End (((codes "x"), (made (codes "val") 4)) ∷ ((codes "y"), (made (codes "val") 5)) ∷ []) (codes "Done"))))) no_expansions)))))) ∷ [])
copied_behind_a_choice = refl

-- `q[v].f[net[2]] := q`, q a local: of a path only indices are bound
path_of_a_local : expansions_of (codes "n" ∷ codes "x" ∷ codes "pc" ∷ codes "P_q" ∷ []) [] (codes "P") (archetype (codes "A") ((codes "q") ∷ []) (((Some (placed_name (codes "l"))), (assign 0 ((assignment (codes "q") ((step.Index (name (codes "v"))) ∷ (step.Field (codes "f")) ∷ (step.Index (index (name (codes "net")) (trees ((n 2) ∷ [])))) ∷ []) (name (codes "q"))) ∷ []))) ∷ [])) ((binding (codes "net") (targets.Global (codes "n") extents.Element (Some Identity))) ∷ ref (codes "v") (codes "x") ∷ [])
    ≡ (((codes "P_l"), (With (made (codes "at") 1) (name (codes "x")) (With (made (codes "at") 2) (n 2) (With (made (codes "old") 3) (index (name (codes "n")) (trees ((name (made (codes "at") 2)) ∷ []))) (With (made (codes "val") 4) (name (made (codes "old") 3)) (With (made (codes "at") 5) (name (made (codes "val") 4)) (With (made (codes "val") 6) (index (name (codes "P_q")) (trees ((name (codes "self")) ∷ []))) (With (made (codes "P_q") 7) (except (index (name (codes "P_q")) (trees ((name (codes "self")) ∷ []))) (paths ((((name (made (codes "at") 1)) ∷ (text (codes "f")) ∷ (name (made (codes "at") 5)) ∷ []), (name (made (codes "val") 6))) ∷ []))) (End (((codes "P_q"), (made (codes "P_q") 7)) ∷ []) (codes "Done")))))))))) ∷ [])
path_of_a_local = refl

-- `with (a \in net[self]) { print a }; if (v = 0) { v := 1 }; w := v`
conditions_and_sets : expansions_of (codes "n" ∷ codes "x" ∷ codes "y" ∷ codes "pc" ∷ []) [] (codes "P") (archetype (codes "A") [] (((Some (placed_name (codes "l"))), (with_in 0 ((with_name (codes "a") (InSet (index (name (codes "net")) (trees ((name (codes "self")) ∷ []))))) ∷ []) (print_out 0 (name (codes "a"))))) ∷ (None, (if_then 0 (guarded ((0, ((binary infixs.Equal (name (codes "v")) (n 0)), (assign 0 ((assignment (codes "v") [] (n 1)) ∷ [])))) ∷ [])))) ∷ (None, (assign 0 ((assignment (codes "w") [] (name (codes "v"))) ∷ []))) ∷ [])) ((binding (codes "net") (targets.Global (codes "n") extents.Element (Some Identity))) ∷ ref (codes "v") (codes "x") ∷ ref (codes "w") (codes "y") ∷ [])
    ≡ (((codes "P_l"), (With (made (codes "at") 1) (name (codes "self")) (With (made (codes "old") 2) (index (name (codes "n")) (trees ((name (made (codes "at") 1)) ∷ []))) (With (made (codes "val") 3) (name (made (codes "old") 2)) (In (made (codes "a") 4) (name (made (codes "val") 3)) (Print (name (made (codes "a") 4)) (If (binary infixs.Equal (name (codes "x")) (n 0)) (With (made (codes "val") 5) (n 1) (With (made (codes "val") 6) (name (made (codes "val") 5)) (End (((codes "x"), (made (codes "val") 5)) ∷ ((codes "y"), (made (codes "val") 6)) ∷ []) (codes "Done")))) (With (made (codes "val") 5) (name (codes "x")) (End (((codes "y"), (made (codes "val") 5)) ∷ []) (codes "Done")))))))))) ∷ [])
conditions_and_sets = refl

-- `v := 1; w := 2; v := 3`: the end assigns each once, in the order of the variables, and x its last value
assigned_once : expansions_of (codes "x" ∷ codes "y" ∷ codes "pc" ∷ []) [] (codes "P") (archetype (codes "A") [] ((Some (placed_name (codes "l")), assign 0 (assignment (codes "v") [] (n 1) ∷ [])) ∷ (None, assign 0 (assignment (codes "w") [] (n 2) ∷ [])) ∷ (None, assign 0 (assignment (codes "v") [] (n 3) ∷ [])) ∷ [])) (ref (codes "v") (codes "x") ∷ ref (codes "w") (codes "y") ∷ [])
    ≡ (codes "P_l", With (made (codes "val") 1) (n 1) (With (made (codes "val") 2) (n 2) (With (made (codes "val") 3) (n 3) (End ((codes "x", made (codes "val") 3) ∷ (codes "y", made (codes "val") 2) ∷ []) (codes "Done"))))) ∷ []
assigned_once = refl

-- `macro one(a) { a := 1 }` in `either { one(v) } or { skip }; one(w)`
abbrev calls : List (Name × Expansion)
calls = expansions_of (codes "x" ∷ codes "y" ∷ codes "pc" ∷ []) (macro (codes "one") (codes "a" ∷ []) ((None, assign 0 (assignment (codes "a") [] (n 1) ∷ [])) ∷ []) ∷ []) (codes "P") (archetype (codes "A") [] ((Some (placed_name (codes "l")), either_of 0 (statements (block 0 (labeled ((None, call_macro 0 (placed_name (codes "one")) (name (codes "v") ∷ [])) ∷ [])) ∷ block 0 (labeled ((None, skip 0) ∷ [])) ∷ []))) ∷ (None, call_macro 0 (placed_name (codes "one")) (name (codes "w") ∷ [])) ∷ [])) (ref (codes "v") (codes "x") ∷ ref (codes "w") (codes "y") ∷ [])

abbrev tree_of_calls : Expansion
tree_of_calls = Either (more_expansions (Skip (With (made (codes "val") 1) (n 1) (Skip (With (made (codes "val") 2) (n 1) (End ((codes "x", made (codes "val") 1) ∷ (codes "y", made (codes "val") 2) ∷ []) (codes "Done")))))) (more_expansions (Skip (Skip (With (made (codes "val") 1) (n 1) (End ((codes "y", made (codes "val") 1) ∷ []) (codes "Done"))))) no_expansions))

-- each call is there as often as it is walked
calls_are_there : calls ≡ (codes "P_l", tree_of_calls) ∷ []
calls_are_there = refl

-- the first arm has two calls, two values, two right sides and an end of five; the second a `skip`, a call, a value, its right
-- side and an end of three
nodes_of_calls : nodes tree_of_calls ≡ 19
nodes_of_calls = refl

-- the first arm binds two names
names_of_calls : most_names tree_of_calls ≡ 2
names_of_calls = refl

-- The expansions of ten specifications, but for `skip`s and calls, as an independent reading of the rules wrote them; and that their
-- names are well formed.
use Rattle.std.specs.Prelude.{◌≡◌, pos, true, [], ◌∷◌, Some, None, codes, refl}
use Rattle.pgo_base.specs.declared.expr.Infix.TheVariants as infixs
use Rattle.pgo_base.specs.Tree.{name, number, text, binary, tuple, record_of, except, index, field, call, trees, named, paths}
use Rattle.pgo_model.specs.Written.{made, self_name}
use Rattle.pgo_syntax.specs.Statement.{assign, if_then, if_else, while_do, either_of, await_that, with_in, print_out, assert_that, call_macro, yield_as, block, statements, labeled, guarded}
use Rattle.pgo_syntax.specs.declared.archetype.Extent.TheVariants as extents
use Rattle.pgo_syntax.specs.declared.assignment.Step.TheVariants as step
use Rattle.pgo_syntax.specs.declared.binding.Origin.TheVariants.{Equals, In as InSet}
use Rattle.pgo_syntax.specs.declared.bound.Mapping.TheVariants.{Macro}
use Rattle.pgo_syntax.specs.declared.bound.Target.TheVariants as targets
use Rattle.pgo_sections.specs.Expansion.{With, In, Await, Assert, Print, If, Either, End, no_expansions, more_expansions}
use Rattle.pgo_meaning.proofs.RowTools.{placed_name, assignment, with_name, archetype, macro, mapping, binding, all_expansions, all_plain, all_named}

plain_choice_P : all_plain ((codes "x") ∷ (codes "pc") ∷ []) ((codes "x") ∷ []) ([]) (codes "P") (archetype (codes "A") ([]) (((Some (placed_name (codes "l"))), (with_in 0 ((with_name (codes "w") (InSet (binary infixs.Range (number (pos 1)) (number (pos 3))))) ∷ (with_name (codes "u") (Equals (binary infixs.Multiply (name (codes "w")) (number (pos 2))))) ∷ []) (block 0 (labeled ((None, (await_that 0 (binary infixs.Greater (name (codes "u")) (number (pos 2))))) ∷ (None, (assign 0 ((assignment (codes "v") ([]) (name (codes "u"))) ∷ []))) ∷ []))))) ∷ [])) ((binding (codes "v") (targets.Global (codes "x") extents.Whole None)) ∷ []) ≡ true
plain_choice_P = refl

named_choice_P : all_named ((codes "x") ∷ (codes "pc") ∷ []) ((codes "x") ∷ []) (codes "P") (archetype (codes "A") ([]) (((Some (placed_name (codes "l"))), (with_in 0 ((with_name (codes "w") (InSet (binary infixs.Range (number (pos 1)) (number (pos 3))))) ∷ (with_name (codes "u") (Equals (binary infixs.Multiply (name (codes "w")) (number (pos 2))))) ∷ []) (block 0 (labeled ((None, (await_that 0 (binary infixs.Greater (name (codes "u")) (number (pos 2))))) ∷ (None, (assign 0 ((assignment (codes "v") ([]) (name (codes "u"))) ∷ []))) ∷ []))))) ∷ [])) ((binding (codes "v") (targets.Global (codes "x") extents.Whole None)) ∷ []) ≡ true
named_choice_P = refl

row_choice_P : all_expansions ((codes "x") ∷ (codes "pc") ∷ []) ([]) (codes "P") (archetype (codes "A") ([]) (((Some (placed_name (codes "l"))), (with_in 0 ((with_name (codes "w") (InSet (binary infixs.Range (number (pos 1)) (number (pos 3))))) ∷ (with_name (codes "u") (Equals (binary infixs.Multiply (name (codes "w")) (number (pos 2))))) ∷ []) (block 0 (labeled ((None, (await_that 0 (binary infixs.Greater (name (codes "u")) (number (pos 2))))) ∷ (None, (assign 0 ((assignment (codes "v") ([]) (name (codes "u"))) ∷ []))) ∷ []))))) ∷ [])) ((binding (codes "v") (targets.Global (codes "x") extents.Whole None)) ∷ [])
    ≡ ((
      (codes "P_l"),
      (In (made (codes "w") 1) (binary infixs.Range (number (pos 1)) (number (pos 3)))
          (With (made (codes "u") 2) (binary infixs.Multiply (name (made (codes "w") 1)) (number (pos 2)))
          (Await (binary infixs.Greater (name (made (codes "u") 2)) (number (pos 2)))
          (With (made (codes "val") 3) (name (made (codes "u") 2))
          (End (((codes "x"), (made (codes "val") 3)) ∷ []) (codes "Done")))))),
    ) ∷ [])
row_choice_P = refl

plain_either_novalue_P : all_plain ((codes "x") ∷ (codes "pc") ∷ []) ((codes "x") ∷ []) ([]) (codes "P") (archetype (codes "A") ([]) (((Some (placed_name (codes "l"))), (either_of 0 (statements ((block 0 (labeled ((None, (assign 0 ((assignment (codes "v") ([]) (number (pos 1))) ∷ []))) ∷ []))) ∷ (block 0 (labeled ((None, (assign 0 ((assignment (codes "v") ([]) (binary infixs.Divide (number (pos 1)) (number (pos 0)))) ∷ []))) ∷ []))) ∷ [])))) ∷ [])) ((binding (codes "v") (targets.Global (codes "x") extents.Whole None)) ∷ []) ≡ true
plain_either_novalue_P = refl

named_either_novalue_P : all_named ((codes "x") ∷ (codes "pc") ∷ []) ((codes "x") ∷ []) (codes "P") (archetype (codes "A") ([]) (((Some (placed_name (codes "l"))), (either_of 0 (statements ((block 0 (labeled ((None, (assign 0 ((assignment (codes "v") ([]) (number (pos 1))) ∷ []))) ∷ []))) ∷ (block 0 (labeled ((None, (assign 0 ((assignment (codes "v") ([]) (binary infixs.Divide (number (pos 1)) (number (pos 0)))) ∷ []))) ∷ []))) ∷ [])))) ∷ [])) ((binding (codes "v") (targets.Global (codes "x") extents.Whole None)) ∷ []) ≡ true
named_either_novalue_P = refl

row_either_novalue_P : all_expansions ((codes "x") ∷ (codes "pc") ∷ []) ([]) (codes "P") (archetype (codes "A") ([]) (((Some (placed_name (codes "l"))), (either_of 0 (statements ((block 0 (labeled ((None, (assign 0 ((assignment (codes "v") ([]) (number (pos 1))) ∷ []))) ∷ []))) ∷ (block 0 (labeled ((None, (assign 0 ((assignment (codes "v") ([]) (binary infixs.Divide (number (pos 1)) (number (pos 0)))) ∷ []))) ∷ []))) ∷ [])))) ∷ [])) ((binding (codes "v") (targets.Global (codes "x") extents.Whole None)) ∷ [])
    ≡ ((
      (codes "P_l"),
      (Either (more_expansions (With (made (codes "val") 1) (number (pos 1))
          (End (((codes "x"), (made (codes "val") 1)) ∷ []) (codes "Done")))
          (more_expansions (With (made (codes "val") 1) (binary infixs.Divide (number (pos 1)) (number (pos 0)))
          (End (((codes "x"), (made (codes "val") 1)) ∷ []) (codes "Done")))
          no_expansions))),
    ) ∷ [])
row_either_novalue_P = refl

plain_local_path_P : all_plain ((codes "x") ∷ (codes "pc") ∷ (codes "P_q") ∷ []) ((codes "x") ∷ []) ([]) (codes "P") (archetype (codes "A") ((codes "q") ∷ []) (((Some (placed_name (codes "l"))), (assign 0 ((assignment (codes "q") ((step.Field (codes "a")) ∷ (step.Index (number (pos 1))) ∷ []) (index (field (name (codes "q")) (codes "a")) (trees ((number (pos 2)) ∷ [])))) ∷ []))) ∷ (None, (assign 0 ((assignment (codes "v") ([]) (index (field (name (codes "q")) (codes "a")) (trees ((number (pos 1)) ∷ [])))) ∷ []))) ∷ [])) ((binding (codes "v") (targets.Global (codes "x") extents.Whole None)) ∷ []) ≡ true
plain_local_path_P = refl

named_local_path_P : all_named ((codes "x") ∷ (codes "pc") ∷ (codes "P_q") ∷ []) ((codes "x") ∷ []) (codes "P") (archetype (codes "A") ((codes "q") ∷ []) (((Some (placed_name (codes "l"))), (assign 0 ((assignment (codes "q") ((step.Field (codes "a")) ∷ (step.Index (number (pos 1))) ∷ []) (index (field (name (codes "q")) (codes "a")) (trees ((number (pos 2)) ∷ [])))) ∷ []))) ∷ (None, (assign 0 ((assignment (codes "v") ([]) (index (field (name (codes "q")) (codes "a")) (trees ((number (pos 1)) ∷ [])))) ∷ []))) ∷ [])) ((binding (codes "v") (targets.Global (codes "x") extents.Whole None)) ∷ []) ≡ true
named_local_path_P = refl

row_local_path_P : all_expansions ((codes "x") ∷ (codes "pc") ∷ (codes "P_q") ∷ []) ([]) (codes "P") (archetype (codes "A") ((codes "q") ∷ []) (((Some (placed_name (codes "l"))), (assign 0 ((assignment (codes "q") ((step.Field (codes "a")) ∷ (step.Index (number (pos 1))) ∷ []) (index (field (name (codes "q")) (codes "a")) (trees ((number (pos 2)) ∷ [])))) ∷ []))) ∷ (None, (assign 0 ((assignment (codes "v") ([]) (index (field (name (codes "q")) (codes "a")) (trees ((number (pos 1)) ∷ [])))) ∷ []))) ∷ [])) ((binding (codes "v") (targets.Global (codes "x") extents.Whole None)) ∷ [])
    ≡ ((
      (codes "P_l"),
      (With (made (codes "at") 1) (number (pos 1))
          (With (made (codes "val") 2) (index (field (index (name (codes "P_q")) (trees (name self_name ∷ []))) (codes "a")) (trees ((number (pos 2)) ∷ [])))
          (With (made (codes "P_q") 3) (except (index (name (codes "P_q")) (trees (name self_name ∷ []))) (paths ((((text (codes "a")) ∷ (name (made (codes "at") 1)) ∷ []), (name (made (codes "val") 2))) ∷ [])))
          (With (made (codes "val") 4) (index (field (name (made (codes "P_q") 3)) (codes "a")) (trees ((number (pos 1)) ∷ [])))
          (End (((codes "x"), (made (codes "val") 4)) ∷ ((codes "P_q"), (made (codes "P_q") 3)) ∷ []) (codes "Done")))))),
    ) ∷ [])
row_local_path_P = refl

plain_lock_server_Server : all_plain ((codes "net") ∷ (codes "pc") ∷ (codes "Server_q") ∷ (codes "Server_count") ∷ (codes "Server_seen") ∷ (codes "Server_msg") ∷ []) ((codes "net") ∷ []) ([]) (codes "Server") (archetype (codes "AServer") ((codes "q") ∷ (codes "count") ∷ (codes "seen") ∷ (codes "msg") ∷ []) (((Some (placed_name (codes "loop"))), (while_do 0 (binary infixs.Less (name (codes "count")) (binary infixs.Multiply (number (pos 2)) (name (codes "NumClients")))) (block 0 (labeled ((None, (assign 0 ((assignment (codes "msg") ([]) (index (name (codes "net")) (trees ((name (codes "self")) ∷ [])))) ∷ []))) ∷ (None, (assign 0 ((assignment (codes "count") ([]) (binary infixs.Add (name (codes "count")) (number (pos 1)))) ∷ []))) ∷ ((Some (placed_name (codes "handle"))), (assign 0 ((assignment (codes "seen") ([]) (index (name (codes "backlog")) (trees ((name (codes "self")) ∷ [])))) ∷ []))) ∷ (None, (if_else 0 (guarded ((0, ((binary infixs.Equal (field (name (codes "msg")) (codes "type")) (text (codes "lock"))), (block 0 (labeled ((None, (assign 0 ((assignment (codes "q") ([]) (call (codes "Append") (trees ((name (codes "q")) ∷ (field (name (codes "msg")) (codes "from")) ∷ [])))) ∷ []))) ∷ (None, (if_then 0 (guarded ((0, ((binary infixs.Equal (call (codes "Len") (trees ((name (codes "q")) ∷ []))) (number (pos 1))), (block 0 (labeled ((None, (assign 0 ((assignment (codes "net") ((step.Index (field (name (codes "msg")) (codes "from"))) ∷ []) (record_of (named (((codes "from"), (name (codes "self"))) ∷ ((codes "type"), (text (codes "grant"))) ∷ [])))) ∷ []))) ∷ []))))) ∷ [])))) ∷ []))))) ∷ [])) (block 0 (labeled ((None, (assign 0 ((assignment (codes "q") ([]) (call (codes "Tail") (trees ((name (codes "q")) ∷ [])))) ∷ []))) ∷ (None, (if_then 0 (guarded ((0, ((binary infixs.Differs (name (codes "q")) (tuple (trees ([])))), (block 0 (labeled ((None, (assign 0 ((assignment (codes "net") ((step.Index (call (codes "Head") (trees ((name (codes "q")) ∷ [])))) ∷ []) (record_of (named (((codes "from"), (name (codes "self"))) ∷ ((codes "type"), (text (codes "grant"))) ∷ [])))) ∷ []))) ∷ []))))) ∷ [])))) ∷ []))))) ∷ []))))) ∷ [])) ((binding (codes "net") (targets.Global (codes "net") extents.Element (Some (Macro (mapping (codes "ReliableFIFOLink") ((None, (await_that 0 (binary infixs.Greater (call (codes "Len") (trees ((name (codes "$variable")) ∷ []))) (number (pos 0))))) ∷ (None, (with_in 0 ((with_name (codes "msg") (Equals (call (codes "Head") (trees ((name (codes "$variable")) ∷ []))))) ∷ []) (block 0 (labeled ((None, (assign 0 ((assignment (codes "$variable") ([]) (call (codes "Tail") (trees ((name (codes "$variable")) ∷ [])))) ∷ []))) ∷ (None, (yield_as 0 (name (codes "msg")))) ∷ []))))) ∷ []) ((None, (await_that 0 (binary infixs.Less (call (codes "Len") (trees ((name (codes "$variable")) ∷ []))) (name (codes "BUFFER_SIZE"))))) ∷ (None, (yield_as 0 (call (codes "Append") (trees ((name (codes "$variable")) ∷ (name (codes "$value")) ∷ []))))) ∷ [])))))) ∷ (binding (codes "backlog") (targets.Global (codes "net") extents.Element (Some (Macro (mapping (codes "QueueLen") ((None, (yield_as 0 (call (codes "Len") (trees ((name (codes "$variable")) ∷ []))))) ∷ []) ((None, (yield_as 0 (name (codes "$variable")))) ∷ [])))))) ∷ []) ≡ true
plain_lock_server_Server = refl

named_lock_server_Server : all_named ((codes "net") ∷ (codes "pc") ∷ (codes "Server_q") ∷ (codes "Server_count") ∷ (codes "Server_seen") ∷ (codes "Server_msg") ∷ []) ((codes "net") ∷ []) (codes "Server") (archetype (codes "AServer") ((codes "q") ∷ (codes "count") ∷ (codes "seen") ∷ (codes "msg") ∷ []) (((Some (placed_name (codes "loop"))), (while_do 0 (binary infixs.Less (name (codes "count")) (binary infixs.Multiply (number (pos 2)) (name (codes "NumClients")))) (block 0 (labeled ((None, (assign 0 ((assignment (codes "msg") ([]) (index (name (codes "net")) (trees ((name (codes "self")) ∷ [])))) ∷ []))) ∷ (None, (assign 0 ((assignment (codes "count") ([]) (binary infixs.Add (name (codes "count")) (number (pos 1)))) ∷ []))) ∷ ((Some (placed_name (codes "handle"))), (assign 0 ((assignment (codes "seen") ([]) (index (name (codes "backlog")) (trees ((name (codes "self")) ∷ [])))) ∷ []))) ∷ (None, (if_else 0 (guarded ((0, ((binary infixs.Equal (field (name (codes "msg")) (codes "type")) (text (codes "lock"))), (block 0 (labeled ((None, (assign 0 ((assignment (codes "q") ([]) (call (codes "Append") (trees ((name (codes "q")) ∷ (field (name (codes "msg")) (codes "from")) ∷ [])))) ∷ []))) ∷ (None, (if_then 0 (guarded ((0, ((binary infixs.Equal (call (codes "Len") (trees ((name (codes "q")) ∷ []))) (number (pos 1))), (block 0 (labeled ((None, (assign 0 ((assignment (codes "net") ((step.Index (field (name (codes "msg")) (codes "from"))) ∷ []) (record_of (named (((codes "from"), (name (codes "self"))) ∷ ((codes "type"), (text (codes "grant"))) ∷ [])))) ∷ []))) ∷ []))))) ∷ [])))) ∷ []))))) ∷ [])) (block 0 (labeled ((None, (assign 0 ((assignment (codes "q") ([]) (call (codes "Tail") (trees ((name (codes "q")) ∷ [])))) ∷ []))) ∷ (None, (if_then 0 (guarded ((0, ((binary infixs.Differs (name (codes "q")) (tuple (trees ([])))), (block 0 (labeled ((None, (assign 0 ((assignment (codes "net") ((step.Index (call (codes "Head") (trees ((name (codes "q")) ∷ [])))) ∷ []) (record_of (named (((codes "from"), (name (codes "self"))) ∷ ((codes "type"), (text (codes "grant"))) ∷ [])))) ∷ []))) ∷ []))))) ∷ [])))) ∷ []))))) ∷ []))))) ∷ [])) ((binding (codes "net") (targets.Global (codes "net") extents.Element (Some (Macro (mapping (codes "ReliableFIFOLink") ((None, (await_that 0 (binary infixs.Greater (call (codes "Len") (trees ((name (codes "$variable")) ∷ []))) (number (pos 0))))) ∷ (None, (with_in 0 ((with_name (codes "msg") (Equals (call (codes "Head") (trees ((name (codes "$variable")) ∷ []))))) ∷ []) (block 0 (labeled ((None, (assign 0 ((assignment (codes "$variable") ([]) (call (codes "Tail") (trees ((name (codes "$variable")) ∷ [])))) ∷ []))) ∷ (None, (yield_as 0 (name (codes "msg")))) ∷ []))))) ∷ []) ((None, (await_that 0 (binary infixs.Less (call (codes "Len") (trees ((name (codes "$variable")) ∷ []))) (name (codes "BUFFER_SIZE"))))) ∷ (None, (yield_as 0 (call (codes "Append") (trees ((name (codes "$variable")) ∷ (name (codes "$value")) ∷ []))))) ∷ [])))))) ∷ (binding (codes "backlog") (targets.Global (codes "net") extents.Element (Some (Macro (mapping (codes "QueueLen") ((None, (yield_as 0 (call (codes "Len") (trees ((name (codes "$variable")) ∷ []))))) ∷ []) ((None, (yield_as 0 (name (codes "$variable")))) ∷ [])))))) ∷ []) ≡ true
named_lock_server_Server = refl

row_lock_server_Server : all_expansions ((codes "net") ∷ (codes "pc") ∷ (codes "Server_q") ∷ (codes "Server_count") ∷ (codes "Server_seen") ∷ (codes "Server_msg") ∷ []) ([]) (codes "Server") (archetype (codes "AServer") ((codes "q") ∷ (codes "count") ∷ (codes "seen") ∷ (codes "msg") ∷ []) (((Some (placed_name (codes "loop"))), (while_do 0 (binary infixs.Less (name (codes "count")) (binary infixs.Multiply (number (pos 2)) (name (codes "NumClients")))) (block 0 (labeled ((None, (assign 0 ((assignment (codes "msg") ([]) (index (name (codes "net")) (trees ((name (codes "self")) ∷ [])))) ∷ []))) ∷ (None, (assign 0 ((assignment (codes "count") ([]) (binary infixs.Add (name (codes "count")) (number (pos 1)))) ∷ []))) ∷ ((Some (placed_name (codes "handle"))), (assign 0 ((assignment (codes "seen") ([]) (index (name (codes "backlog")) (trees ((name (codes "self")) ∷ [])))) ∷ []))) ∷ (None, (if_else 0 (guarded ((0, ((binary infixs.Equal (field (name (codes "msg")) (codes "type")) (text (codes "lock"))), (block 0 (labeled ((None, (assign 0 ((assignment (codes "q") ([]) (call (codes "Append") (trees ((name (codes "q")) ∷ (field (name (codes "msg")) (codes "from")) ∷ [])))) ∷ []))) ∷ (None, (if_then 0 (guarded ((0, ((binary infixs.Equal (call (codes "Len") (trees ((name (codes "q")) ∷ []))) (number (pos 1))), (block 0 (labeled ((None, (assign 0 ((assignment (codes "net") ((step.Index (field (name (codes "msg")) (codes "from"))) ∷ []) (record_of (named (((codes "from"), (name (codes "self"))) ∷ ((codes "type"), (text (codes "grant"))) ∷ [])))) ∷ []))) ∷ []))))) ∷ [])))) ∷ []))))) ∷ [])) (block 0 (labeled ((None, (assign 0 ((assignment (codes "q") ([]) (call (codes "Tail") (trees ((name (codes "q")) ∷ [])))) ∷ []))) ∷ (None, (if_then 0 (guarded ((0, ((binary infixs.Differs (name (codes "q")) (tuple (trees ([])))), (block 0 (labeled ((None, (assign 0 ((assignment (codes "net") ((step.Index (call (codes "Head") (trees ((name (codes "q")) ∷ [])))) ∷ []) (record_of (named (((codes "from"), (name (codes "self"))) ∷ ((codes "type"), (text (codes "grant"))) ∷ [])))) ∷ []))) ∷ []))))) ∷ [])))) ∷ []))))) ∷ []))))) ∷ [])) ((binding (codes "net") (targets.Global (codes "net") extents.Element (Some (Macro (mapping (codes "ReliableFIFOLink") ((None, (await_that 0 (binary infixs.Greater (call (codes "Len") (trees ((name (codes "$variable")) ∷ []))) (number (pos 0))))) ∷ (None, (with_in 0 ((with_name (codes "msg") (Equals (call (codes "Head") (trees ((name (codes "$variable")) ∷ []))))) ∷ []) (block 0 (labeled ((None, (assign 0 ((assignment (codes "$variable") ([]) (call (codes "Tail") (trees ((name (codes "$variable")) ∷ [])))) ∷ []))) ∷ (None, (yield_as 0 (name (codes "msg")))) ∷ []))))) ∷ []) ((None, (await_that 0 (binary infixs.Less (call (codes "Len") (trees ((name (codes "$variable")) ∷ []))) (name (codes "BUFFER_SIZE"))))) ∷ (None, (yield_as 0 (call (codes "Append") (trees ((name (codes "$variable")) ∷ (name (codes "$value")) ∷ []))))) ∷ [])))))) ∷ (binding (codes "backlog") (targets.Global (codes "net") extents.Element (Some (Macro (mapping (codes "QueueLen") ((None, (yield_as 0 (call (codes "Len") (trees ((name (codes "$variable")) ∷ []))))) ∷ []) ((None, (yield_as 0 (name (codes "$variable")))) ∷ [])))))) ∷ [])
    ≡ ((
      (codes "Server_loop"),
      (If (binary infixs.Less (index (name (codes "Server_count")) (trees (name self_name ∷ []))) (binary infixs.Multiply (number (pos 2)) (name (codes "NumClients"))))
          (With (made (codes "at") 1) (name (codes "self"))
          (With (made (codes "old") 2) (index (name (codes "net")) (trees ((name (made (codes "at") 1)) ∷ [])))
          (Await (binary infixs.Greater (call (codes "Len") (trees ((name (made (codes "old") 2)) ∷ []))) (number (pos 0)))
          (With (made (codes "msg") 3) (call (codes "Head") (trees ((name (made (codes "old") 2)) ∷ [])))
          (With (made (codes "old") 4) (call (codes "Tail") (trees ((name (made (codes "old") 2)) ∷ [])))
          (With (made (codes "val") 5) (name (made (codes "msg") 3))
          (With (made (codes "net") 6) (except (name (codes "net")) (paths ((((name (made (codes "at") 1)) ∷ []), (name (made (codes "old") 4))) ∷ [])))
          (With (made (codes "val") 7) (name (made (codes "val") 5))
          (With (made (codes "val") 8) (binary infixs.Add (index (name (codes "Server_count")) (trees (name self_name ∷ []))) (number (pos 1)))
          (End (((codes "net"), (made (codes "net") 6)) ∷ ((codes "Server_count"), (made (codes "val") 8)) ∷ ((codes "Server_msg"), (made (codes "val") 7)) ∷ []) (codes "Server_handle")))))))))))
          (End ([]) (codes "Done"))),
    ) ∷ (
      (codes "Server_handle"),
      (With (made (codes "at") 1) (name (codes "self"))
          (With (made (codes "old") 2) (index (name (codes "net")) (trees ((name (made (codes "at") 1)) ∷ [])))
          (With (made (codes "val") 3) (call (codes "Len") (trees ((name (made (codes "old") 2)) ∷ [])))
          (With (made (codes "val") 4) (name (made (codes "val") 3))
          (If (binary infixs.Equal (field (index (name (codes "Server_msg")) (trees (name self_name ∷ []))) (codes "type")) (text (codes "lock")))
          (With (made (codes "val") 5) (call (codes "Append") (trees ((index (name (codes "Server_q")) (trees (name self_name ∷ []))) ∷ (field (index (name (codes "Server_msg")) (trees (name self_name ∷ []))) (codes "from")) ∷ [])))
          (If (binary infixs.Equal (call (codes "Len") (trees ((name (made (codes "val") 5)) ∷ []))) (number (pos 1)))
          (With (made (codes "at") 6) (field (index (name (codes "Server_msg")) (trees (name self_name ∷ []))) (codes "from"))
          (With (made (codes "val") 7) (record_of (named (((codes "from"), (name (codes "self"))) ∷ ((codes "type"), (text (codes "grant"))) ∷ [])))
          (With (made (codes "old") 8) (index (name (codes "net")) (trees ((name (made (codes "at") 6)) ∷ [])))
          (Await (binary infixs.Less (call (codes "Len") (trees ((name (made (codes "old") 8)) ∷ []))) (name (codes "BUFFER_SIZE")))
          (With (made (codes "new") 9) (call (codes "Append") (trees ((name (made (codes "old") 8)) ∷ (name (made (codes "val") 7)) ∷ [])))
          (With (made (codes "net") 10) (except (name (codes "net")) (paths ((((name (made (codes "at") 6)) ∷ []), (name (made (codes "new") 9))) ∷ [])))
          (End (((codes "net"), (made (codes "net") 10)) ∷ ((codes "Server_q"), (made (codes "val") 5)) ∷ ((codes "Server_seen"), (made (codes "val") 4)) ∷ []) (codes "Server_loop"))))))))
          (End (((codes "Server_q"), (made (codes "val") 5)) ∷ ((codes "Server_seen"), (made (codes "val") 4)) ∷ []) (codes "Server_loop"))))
          (With (made (codes "val") 5) (call (codes "Tail") (trees ((index (name (codes "Server_q")) (trees (name self_name ∷ []))) ∷ [])))
          (If (binary infixs.Differs (name (made (codes "val") 5)) (tuple (trees ([]))))
          (With (made (codes "at") 6) (call (codes "Head") (trees ((name (made (codes "val") 5)) ∷ [])))
          (With (made (codes "val") 7) (record_of (named (((codes "from"), (name (codes "self"))) ∷ ((codes "type"), (text (codes "grant"))) ∷ [])))
          (With (made (codes "old") 8) (index (name (codes "net")) (trees ((name (made (codes "at") 6)) ∷ [])))
          (Await (binary infixs.Less (call (codes "Len") (trees ((name (made (codes "old") 8)) ∷ []))) (name (codes "BUFFER_SIZE")))
          (With (made (codes "new") 9) (call (codes "Append") (trees ((name (made (codes "old") 8)) ∷ (name (made (codes "val") 7)) ∷ [])))
          (With (made (codes "net") 10) (except (name (codes "net")) (paths ((((name (made (codes "at") 6)) ∷ []), (name (made (codes "new") 9))) ∷ [])))
          (End (((codes "net"), (made (codes "net") 10)) ∷ ((codes "Server_q"), (made (codes "val") 5)) ∷ ((codes "Server_seen"), (made (codes "val") 4)) ∷ []) (codes "Server_loop"))))))))
          (End (((codes "Server_q"), (made (codes "val") 5)) ∷ ((codes "Server_seen"), (made (codes "val") 4)) ∷ []) (codes "Server_loop"))))))))),
    ) ∷ [])
row_lock_server_Server = refl

plain_lock_server_Client : all_plain ((codes "net") ∷ (codes "pc") ∷ (codes "Server_q") ∷ (codes "Server_count") ∷ (codes "Server_seen") ∷ (codes "Server_msg") ∷ []) ((codes "net") ∷ []) ([]) (codes "Client") (archetype (codes "AClient") ([]) (((Some (placed_name (codes "req"))), (assign 0 ((assignment (codes "net") ((step.Index (name (codes "ServerID"))) ∷ []) (record_of (named (((codes "from"), (name (codes "self"))) ∷ ((codes "type"), (text (codes "lock"))) ∷ [])))) ∷ []))) ∷ ((Some (placed_name (codes "crit"))), (with_in 0 ((with_name (codes "m") (Equals (index (name (codes "net")) (trees ((name (codes "self")) ∷ []))))) ∷ []) (block 0 (labeled ((None, (assert_that 0 (binary infixs.Equal (field (name (codes "m")) (codes "type")) (text (codes "grant"))))) ∷ []))))) ∷ ((Some (placed_name (codes "rel"))), (assign 0 ((assignment (codes "net") ((step.Index (name (codes "ServerID"))) ∷ []) (record_of (named (((codes "from"), (name (codes "self"))) ∷ ((codes "type"), (text (codes "unlock"))) ∷ [])))) ∷ []))) ∷ [])) ((binding (codes "net") (targets.Global (codes "net") extents.Element (Some (Macro (mapping (codes "ReliableFIFOLink") ((None, (await_that 0 (binary infixs.Greater (call (codes "Len") (trees ((name (codes "$variable")) ∷ []))) (number (pos 0))))) ∷ (None, (with_in 0 ((with_name (codes "msg") (Equals (call (codes "Head") (trees ((name (codes "$variable")) ∷ []))))) ∷ []) (block 0 (labeled ((None, (assign 0 ((assignment (codes "$variable") ([]) (call (codes "Tail") (trees ((name (codes "$variable")) ∷ [])))) ∷ []))) ∷ (None, (yield_as 0 (name (codes "msg")))) ∷ []))))) ∷ []) ((None, (await_that 0 (binary infixs.Less (call (codes "Len") (trees ((name (codes "$variable")) ∷ []))) (name (codes "BUFFER_SIZE"))))) ∷ (None, (yield_as 0 (call (codes "Append") (trees ((name (codes "$variable")) ∷ (name (codes "$value")) ∷ []))))) ∷ [])))))) ∷ []) ≡ true
plain_lock_server_Client = refl

named_lock_server_Client : all_named ((codes "net") ∷ (codes "pc") ∷ (codes "Server_q") ∷ (codes "Server_count") ∷ (codes "Server_seen") ∷ (codes "Server_msg") ∷ []) ((codes "net") ∷ []) (codes "Client") (archetype (codes "AClient") ([]) (((Some (placed_name (codes "req"))), (assign 0 ((assignment (codes "net") ((step.Index (name (codes "ServerID"))) ∷ []) (record_of (named (((codes "from"), (name (codes "self"))) ∷ ((codes "type"), (text (codes "lock"))) ∷ [])))) ∷ []))) ∷ ((Some (placed_name (codes "crit"))), (with_in 0 ((with_name (codes "m") (Equals (index (name (codes "net")) (trees ((name (codes "self")) ∷ []))))) ∷ []) (block 0 (labeled ((None, (assert_that 0 (binary infixs.Equal (field (name (codes "m")) (codes "type")) (text (codes "grant"))))) ∷ []))))) ∷ ((Some (placed_name (codes "rel"))), (assign 0 ((assignment (codes "net") ((step.Index (name (codes "ServerID"))) ∷ []) (record_of (named (((codes "from"), (name (codes "self"))) ∷ ((codes "type"), (text (codes "unlock"))) ∷ [])))) ∷ []))) ∷ [])) ((binding (codes "net") (targets.Global (codes "net") extents.Element (Some (Macro (mapping (codes "ReliableFIFOLink") ((None, (await_that 0 (binary infixs.Greater (call (codes "Len") (trees ((name (codes "$variable")) ∷ []))) (number (pos 0))))) ∷ (None, (with_in 0 ((with_name (codes "msg") (Equals (call (codes "Head") (trees ((name (codes "$variable")) ∷ []))))) ∷ []) (block 0 (labeled ((None, (assign 0 ((assignment (codes "$variable") ([]) (call (codes "Tail") (trees ((name (codes "$variable")) ∷ [])))) ∷ []))) ∷ (None, (yield_as 0 (name (codes "msg")))) ∷ []))))) ∷ []) ((None, (await_that 0 (binary infixs.Less (call (codes "Len") (trees ((name (codes "$variable")) ∷ []))) (name (codes "BUFFER_SIZE"))))) ∷ (None, (yield_as 0 (call (codes "Append") (trees ((name (codes "$variable")) ∷ (name (codes "$value")) ∷ []))))) ∷ [])))))) ∷ []) ≡ true
named_lock_server_Client = refl

row_lock_server_Client : all_expansions ((codes "net") ∷ (codes "pc") ∷ (codes "Server_q") ∷ (codes "Server_count") ∷ (codes "Server_seen") ∷ (codes "Server_msg") ∷ []) ([]) (codes "Client") (archetype (codes "AClient") ([]) (((Some (placed_name (codes "req"))), (assign 0 ((assignment (codes "net") ((step.Index (name (codes "ServerID"))) ∷ []) (record_of (named (((codes "from"), (name (codes "self"))) ∷ ((codes "type"), (text (codes "lock"))) ∷ [])))) ∷ []))) ∷ ((Some (placed_name (codes "crit"))), (with_in 0 ((with_name (codes "m") (Equals (index (name (codes "net")) (trees ((name (codes "self")) ∷ []))))) ∷ []) (block 0 (labeled ((None, (assert_that 0 (binary infixs.Equal (field (name (codes "m")) (codes "type")) (text (codes "grant"))))) ∷ []))))) ∷ ((Some (placed_name (codes "rel"))), (assign 0 ((assignment (codes "net") ((step.Index (name (codes "ServerID"))) ∷ []) (record_of (named (((codes "from"), (name (codes "self"))) ∷ ((codes "type"), (text (codes "unlock"))) ∷ [])))) ∷ []))) ∷ [])) ((binding (codes "net") (targets.Global (codes "net") extents.Element (Some (Macro (mapping (codes "ReliableFIFOLink") ((None, (await_that 0 (binary infixs.Greater (call (codes "Len") (trees ((name (codes "$variable")) ∷ []))) (number (pos 0))))) ∷ (None, (with_in 0 ((with_name (codes "msg") (Equals (call (codes "Head") (trees ((name (codes "$variable")) ∷ []))))) ∷ []) (block 0 (labeled ((None, (assign 0 ((assignment (codes "$variable") ([]) (call (codes "Tail") (trees ((name (codes "$variable")) ∷ [])))) ∷ []))) ∷ (None, (yield_as 0 (name (codes "msg")))) ∷ []))))) ∷ []) ((None, (await_that 0 (binary infixs.Less (call (codes "Len") (trees ((name (codes "$variable")) ∷ []))) (name (codes "BUFFER_SIZE"))))) ∷ (None, (yield_as 0 (call (codes "Append") (trees ((name (codes "$variable")) ∷ (name (codes "$value")) ∷ []))))) ∷ [])))))) ∷ [])
    ≡ ((
      (codes "Client_req"),
      (With (made (codes "at") 1) (name (codes "ServerID"))
          (With (made (codes "val") 2) (record_of (named (((codes "from"), (name (codes "self"))) ∷ ((codes "type"), (text (codes "lock"))) ∷ [])))
          (With (made (codes "old") 3) (index (name (codes "net")) (trees ((name (made (codes "at") 1)) ∷ [])))
          (Await (binary infixs.Less (call (codes "Len") (trees ((name (made (codes "old") 3)) ∷ []))) (name (codes "BUFFER_SIZE")))
          (With (made (codes "new") 4) (call (codes "Append") (trees ((name (made (codes "old") 3)) ∷ (name (made (codes "val") 2)) ∷ [])))
          (With (made (codes "net") 5) (except (name (codes "net")) (paths ((((name (made (codes "at") 1)) ∷ []), (name (made (codes "new") 4))) ∷ [])))
          (End (((codes "net"), (made (codes "net") 5)) ∷ []) (codes "Client_crit")))))))),
    ) ∷ (
      (codes "Client_crit"),
      (With (made (codes "at") 1) (name (codes "self"))
          (With (made (codes "old") 2) (index (name (codes "net")) (trees ((name (made (codes "at") 1)) ∷ [])))
          (Await (binary infixs.Greater (call (codes "Len") (trees ((name (made (codes "old") 2)) ∷ []))) (number (pos 0)))
          (With (made (codes "msg") 3) (call (codes "Head") (trees ((name (made (codes "old") 2)) ∷ [])))
          (With (made (codes "old") 4) (call (codes "Tail") (trees ((name (made (codes "old") 2)) ∷ [])))
          (With (made (codes "val") 5) (name (made (codes "msg") 3))
          (With (made (codes "net") 6) (except (name (codes "net")) (paths ((((name (made (codes "at") 1)) ∷ []), (name (made (codes "old") 4))) ∷ [])))
          (With (made (codes "m") 7) (name (made (codes "val") 5))
          (Assert (binary infixs.Equal (field (name (made (codes "m") 7)) (codes "type")) (text (codes "grant")))
          (End (((codes "net"), (made (codes "net") 6)) ∷ []) (codes "Client_rel"))))))))))),
    ) ∷ (
      (codes "Client_rel"),
      (With (made (codes "at") 1) (name (codes "ServerID"))
          (With (made (codes "val") 2) (record_of (named (((codes "from"), (name (codes "self"))) ∷ ((codes "type"), (text (codes "unlock"))) ∷ [])))
          (With (made (codes "old") 3) (index (name (codes "net")) (trees ((name (made (codes "at") 1)) ∷ [])))
          (Await (binary infixs.Less (call (codes "Len") (trees ((name (made (codes "old") 3)) ∷ []))) (name (codes "BUFFER_SIZE")))
          (With (made (codes "new") 4) (call (codes "Append") (trees ((name (made (codes "old") 3)) ∷ (name (made (codes "val") 2)) ∷ [])))
          (With (made (codes "net") 5) (except (name (codes "net")) (paths ((((name (made (codes "at") 1)) ∷ []), (name (made (codes "new") 4))) ∷ [])))
          (End (((codes "net"), (made (codes "net") 5)) ∷ []) (codes "Done")))))))),
    ) ∷ [])
row_lock_server_Client = refl

plain_loop_P : all_plain ((codes "x") ∷ (codes "pc") ∷ (codes "P_n") ∷ []) ((codes "x") ∷ []) ([]) (codes "P") (archetype (codes "A") ((codes "n") ∷ []) (((Some (placed_name (codes "l"))), (while_do 0 (binary infixs.Less (name (codes "n")) (number (pos 2))) (block 0 (labeled ((None, (assign 0 ((assignment (codes "n") ([]) (binary infixs.Add (name (codes "n")) (number (pos 1)))) ∷ []))) ∷ ((Some (placed_name (codes "m"))), (assign 0 ((assignment (codes "v") ([]) (binary infixs.Add (name (codes "v")) (name (codes "n")))) ∷ []))) ∷ []))))) ∷ (None, (print_out 0 (name (codes "v")))) ∷ [])) ((binding (codes "v") (targets.Global (codes "x") extents.Whole None)) ∷ []) ≡ true
plain_loop_P = refl

named_loop_P : all_named ((codes "x") ∷ (codes "pc") ∷ (codes "P_n") ∷ []) ((codes "x") ∷ []) (codes "P") (archetype (codes "A") ((codes "n") ∷ []) (((Some (placed_name (codes "l"))), (while_do 0 (binary infixs.Less (name (codes "n")) (number (pos 2))) (block 0 (labeled ((None, (assign 0 ((assignment (codes "n") ([]) (binary infixs.Add (name (codes "n")) (number (pos 1)))) ∷ []))) ∷ ((Some (placed_name (codes "m"))), (assign 0 ((assignment (codes "v") ([]) (binary infixs.Add (name (codes "v")) (name (codes "n")))) ∷ []))) ∷ []))))) ∷ (None, (print_out 0 (name (codes "v")))) ∷ [])) ((binding (codes "v") (targets.Global (codes "x") extents.Whole None)) ∷ []) ≡ true
named_loop_P = refl

row_loop_P : all_expansions ((codes "x") ∷ (codes "pc") ∷ (codes "P_n") ∷ []) ([]) (codes "P") (archetype (codes "A") ((codes "n") ∷ []) (((Some (placed_name (codes "l"))), (while_do 0 (binary infixs.Less (name (codes "n")) (number (pos 2))) (block 0 (labeled ((None, (assign 0 ((assignment (codes "n") ([]) (binary infixs.Add (name (codes "n")) (number (pos 1)))) ∷ []))) ∷ ((Some (placed_name (codes "m"))), (assign 0 ((assignment (codes "v") ([]) (binary infixs.Add (name (codes "v")) (name (codes "n")))) ∷ []))) ∷ []))))) ∷ (None, (print_out 0 (name (codes "v")))) ∷ [])) ((binding (codes "v") (targets.Global (codes "x") extents.Whole None)) ∷ [])
    ≡ ((
      (codes "P_l"),
      (If (binary infixs.Less (index (name (codes "P_n")) (trees (name self_name ∷ []))) (number (pos 2)))
          (With (made (codes "val") 1) (binary infixs.Add (index (name (codes "P_n")) (trees (name self_name ∷ []))) (number (pos 1)))
          (End (((codes "P_n"), (made (codes "val") 1)) ∷ []) (codes "P_m")))
          (Print (name (codes "x"))
          (End ([]) (codes "Done")))),
    ) ∷ (
      (codes "P_m"),
      (With (made (codes "val") 1) (binary infixs.Add (name (codes "x")) (index (name (codes "P_n")) (trees (name self_name ∷ []))))
          (End (((codes "x"), (made (codes "val") 1)) ∷ []) (codes "P_l"))),
    ) ∷ [])
row_loop_P = refl

plain_macro_with_P : all_plain ((codes "x") ∷ (codes "pc") ∷ (codes "P_w") ∷ []) ((codes "x") ∷ []) ((macro (codes "add") ((codes "a") ∷ (codes "b") ∷ []) ((None, (with_in 0 ((with_name (codes "t") (Equals (binary infixs.Add (name (codes "a")) (name (codes "b"))))) ∷ []) (block 0 (labeled ((None, (assign 0 ((assignment (codes "a") ([]) (name (codes "t"))) ∷ []))) ∷ []))))) ∷ [])) ∷ []) (codes "P") (archetype (codes "A") ((codes "w") ∷ []) (((Some (placed_name (codes "l"))), (call_macro 0 (placed_name (codes "add")) ((name (codes "v")) ∷ (name (codes "w")) ∷ []))) ∷ (None, (call_macro 0 (placed_name (codes "add")) ((name (codes "v")) ∷ (number (pos 2)) ∷ []))) ∷ [])) ((binding (codes "v") (targets.Global (codes "x") extents.Whole None)) ∷ []) ≡ true
plain_macro_with_P = refl

named_macro_with_P : all_named ((codes "x") ∷ (codes "pc") ∷ (codes "P_w") ∷ []) ((codes "x") ∷ []) (codes "P") (archetype (codes "A") ((codes "w") ∷ []) (((Some (placed_name (codes "l"))), (call_macro 0 (placed_name (codes "add")) ((name (codes "v")) ∷ (name (codes "w")) ∷ []))) ∷ (None, (call_macro 0 (placed_name (codes "add")) ((name (codes "v")) ∷ (number (pos 2)) ∷ []))) ∷ [])) ((binding (codes "v") (targets.Global (codes "x") extents.Whole None)) ∷ []) ≡ true
named_macro_with_P = refl

row_macro_with_P : all_expansions ((codes "x") ∷ (codes "pc") ∷ (codes "P_w") ∷ []) ((macro (codes "add") ((codes "a") ∷ (codes "b") ∷ []) ((None, (with_in 0 ((with_name (codes "t") (Equals (binary infixs.Add (name (codes "a")) (name (codes "b"))))) ∷ []) (block 0 (labeled ((None, (assign 0 ((assignment (codes "a") ([]) (name (codes "t"))) ∷ []))) ∷ []))))) ∷ [])) ∷ []) (codes "P") (archetype (codes "A") ((codes "w") ∷ []) (((Some (placed_name (codes "l"))), (call_macro 0 (placed_name (codes "add")) ((name (codes "v")) ∷ (name (codes "w")) ∷ []))) ∷ (None, (call_macro 0 (placed_name (codes "add")) ((name (codes "v")) ∷ (number (pos 2)) ∷ []))) ∷ [])) ((binding (codes "v") (targets.Global (codes "x") extents.Whole None)) ∷ [])
    ≡ ((
      (codes "P_l"),
      (With (made (codes "t") 1) (binary infixs.Add (name (codes "x")) (index (name (codes "P_w")) (trees (name self_name ∷ []))))
          (With (made (codes "val") 2) (name (made (codes "t") 1))
          (With (made (codes "t") 3) (binary infixs.Add (name (made (codes "val") 2)) (number (pos 2)))
          (With (made (codes "val") 4) (name (made (codes "t") 3))
          (End (((codes "x"), (made (codes "val") 4)) ∷ []) (codes "Done")))))),
    ) ∷ [])
row_macro_with_P = refl

plain_one_P : all_plain ((codes "x") ∷ (codes "pc") ∷ []) ((codes "x") ∷ []) ([]) (codes "P") (archetype (codes "A") ([]) (((Some (placed_name (codes "l"))), (assign 0 ((assignment (codes "v") ([]) (binary infixs.Add (name (codes "v")) (number (pos 1)))) ∷ []))) ∷ [])) ((binding (codes "v") (targets.Global (codes "x") extents.Whole None)) ∷ []) ≡ true
plain_one_P = refl

named_one_P : all_named ((codes "x") ∷ (codes "pc") ∷ []) ((codes "x") ∷ []) (codes "P") (archetype (codes "A") ([]) (((Some (placed_name (codes "l"))), (assign 0 ((assignment (codes "v") ([]) (binary infixs.Add (name (codes "v")) (number (pos 1)))) ∷ []))) ∷ [])) ((binding (codes "v") (targets.Global (codes "x") extents.Whole None)) ∷ []) ≡ true
named_one_P = refl

row_one_P : all_expansions ((codes "x") ∷ (codes "pc") ∷ []) ([]) (codes "P") (archetype (codes "A") ([]) (((Some (placed_name (codes "l"))), (assign 0 ((assignment (codes "v") ([]) (binary infixs.Add (name (codes "v")) (number (pos 1)))) ∷ []))) ∷ [])) ((binding (codes "v") (targets.Global (codes "x") extents.Whole None)) ∷ [])
    ≡ ((
      (codes "P_l"),
      (With (made (codes "val") 1) (binary infixs.Add (name (codes "x")) (number (pos 1)))
          (End (((codes "x"), (made (codes "val") 1)) ∷ []) (codes "Done"))),
    ) ∷ [])
row_one_P = refl

plain_swap_mapped_P : all_plain ((codes "net") ∷ (codes "pc") ∷ []) ((codes "net") ∷ []) ([]) (codes "P") (archetype (codes "A") ([]) (((Some (placed_name (codes "l"))), (assign 0 ((assignment (codes "net") ((step.Index (number (pos 1))) ∷ []) (index (name (codes "net")) (trees ((number (pos 2)) ∷ [])))) ∷ (assignment (codes "net") ((step.Index (number (pos 2))) ∷ []) (index (name (codes "net")) (trees ((number (pos 1)) ∷ [])))) ∷ []))) ∷ [])) ((binding (codes "net") (targets.Global (codes "net") extents.Element (Some (Macro (mapping (codes "ReliableFIFOLink") ((None, (await_that 0 (binary infixs.Greater (call (codes "Len") (trees ((name (codes "$variable")) ∷ []))) (number (pos 0))))) ∷ (None, (with_in 0 ((with_name (codes "msg") (Equals (call (codes "Head") (trees ((name (codes "$variable")) ∷ []))))) ∷ []) (block 0 (labeled ((None, (assign 0 ((assignment (codes "$variable") ([]) (call (codes "Tail") (trees ((name (codes "$variable")) ∷ [])))) ∷ []))) ∷ (None, (yield_as 0 (name (codes "msg")))) ∷ []))))) ∷ []) ((None, (await_that 0 (binary infixs.Less (call (codes "Len") (trees ((name (codes "$variable")) ∷ []))) (name (codes "BUFFER_SIZE"))))) ∷ (None, (yield_as 0 (call (codes "Append") (trees ((name (codes "$variable")) ∷ (name (codes "$value")) ∷ []))))) ∷ [])))))) ∷ []) ≡ true
plain_swap_mapped_P = refl

named_swap_mapped_P : all_named ((codes "net") ∷ (codes "pc") ∷ []) ((codes "net") ∷ []) (codes "P") (archetype (codes "A") ([]) (((Some (placed_name (codes "l"))), (assign 0 ((assignment (codes "net") ((step.Index (number (pos 1))) ∷ []) (index (name (codes "net")) (trees ((number (pos 2)) ∷ [])))) ∷ (assignment (codes "net") ((step.Index (number (pos 2))) ∷ []) (index (name (codes "net")) (trees ((number (pos 1)) ∷ [])))) ∷ []))) ∷ [])) ((binding (codes "net") (targets.Global (codes "net") extents.Element (Some (Macro (mapping (codes "ReliableFIFOLink") ((None, (await_that 0 (binary infixs.Greater (call (codes "Len") (trees ((name (codes "$variable")) ∷ []))) (number (pos 0))))) ∷ (None, (with_in 0 ((with_name (codes "msg") (Equals (call (codes "Head") (trees ((name (codes "$variable")) ∷ []))))) ∷ []) (block 0 (labeled ((None, (assign 0 ((assignment (codes "$variable") ([]) (call (codes "Tail") (trees ((name (codes "$variable")) ∷ [])))) ∷ []))) ∷ (None, (yield_as 0 (name (codes "msg")))) ∷ []))))) ∷ []) ((None, (await_that 0 (binary infixs.Less (call (codes "Len") (trees ((name (codes "$variable")) ∷ []))) (name (codes "BUFFER_SIZE"))))) ∷ (None, (yield_as 0 (call (codes "Append") (trees ((name (codes "$variable")) ∷ (name (codes "$value")) ∷ []))))) ∷ [])))))) ∷ []) ≡ true
named_swap_mapped_P = refl

row_swap_mapped_P : all_expansions ((codes "net") ∷ (codes "pc") ∷ []) ([]) (codes "P") (archetype (codes "A") ([]) (((Some (placed_name (codes "l"))), (assign 0 ((assignment (codes "net") ((step.Index (number (pos 1))) ∷ []) (index (name (codes "net")) (trees ((number (pos 2)) ∷ [])))) ∷ (assignment (codes "net") ((step.Index (number (pos 2))) ∷ []) (index (name (codes "net")) (trees ((number (pos 1)) ∷ [])))) ∷ []))) ∷ [])) ((binding (codes "net") (targets.Global (codes "net") extents.Element (Some (Macro (mapping (codes "ReliableFIFOLink") ((None, (await_that 0 (binary infixs.Greater (call (codes "Len") (trees ((name (codes "$variable")) ∷ []))) (number (pos 0))))) ∷ (None, (with_in 0 ((with_name (codes "msg") (Equals (call (codes "Head") (trees ((name (codes "$variable")) ∷ []))))) ∷ []) (block 0 (labeled ((None, (assign 0 ((assignment (codes "$variable") ([]) (call (codes "Tail") (trees ((name (codes "$variable")) ∷ [])))) ∷ []))) ∷ (None, (yield_as 0 (name (codes "msg")))) ∷ []))))) ∷ []) ((None, (await_that 0 (binary infixs.Less (call (codes "Len") (trees ((name (codes "$variable")) ∷ []))) (name (codes "BUFFER_SIZE"))))) ∷ (None, (yield_as 0 (call (codes "Append") (trees ((name (codes "$variable")) ∷ (name (codes "$value")) ∷ []))))) ∷ [])))))) ∷ [])
    ≡ ((
      (codes "P_l"),
      (With (made (codes "at") 1) (number (pos 1))
          (With (made (codes "at") 2) (number (pos 2))
          (With (made (codes "old") 3) (index (name (codes "net")) (trees ((name (made (codes "at") 2)) ∷ [])))
          (Await (binary infixs.Greater (call (codes "Len") (trees ((name (made (codes "old") 3)) ∷ []))) (number (pos 0)))
          (With (made (codes "msg") 4) (call (codes "Head") (trees ((name (made (codes "old") 3)) ∷ [])))
          (With (made (codes "old") 5) (call (codes "Tail") (trees ((name (made (codes "old") 3)) ∷ [])))
          (With (made (codes "val") 6) (name (made (codes "msg") 4))
          (With (made (codes "net") 7) (except (name (codes "net")) (paths ((((name (made (codes "at") 2)) ∷ []), (name (made (codes "old") 5))) ∷ [])))
          (With (made (codes "val") 8) (name (made (codes "val") 6))
          (With (made (codes "at") 9) (number (pos 2))
          (With (made (codes "at") 10) (number (pos 1))
          (With (made (codes "old") 11) (index (name (made (codes "net") 7)) (trees ((name (made (codes "at") 10)) ∷ [])))
          (Await (binary infixs.Greater (call (codes "Len") (trees ((name (made (codes "old") 11)) ∷ []))) (number (pos 0)))
          (With (made (codes "msg") 12) (call (codes "Head") (trees ((name (made (codes "old") 11)) ∷ [])))
          (With (made (codes "old") 13) (call (codes "Tail") (trees ((name (made (codes "old") 11)) ∷ [])))
          (With (made (codes "val") 14) (name (made (codes "msg") 12))
          (With (made (codes "net") 15) (except (name (made (codes "net") 7)) (paths ((((name (made (codes "at") 10)) ∷ []), (name (made (codes "old") 13))) ∷ [])))
          (With (made (codes "val") 16) (name (made (codes "val") 14))
          (With (made (codes "old") 17) (index (name (made (codes "net") 15)) (trees ((name (made (codes "at") 1)) ∷ [])))
          (Await (binary infixs.Less (call (codes "Len") (trees ((name (made (codes "old") 17)) ∷ []))) (name (codes "BUFFER_SIZE")))
          (With (made (codes "new") 18) (call (codes "Append") (trees ((name (made (codes "old") 17)) ∷ (name (made (codes "val") 8)) ∷ [])))
          (With (made (codes "net") 19) (except (name (made (codes "net") 15)) (paths ((((name (made (codes "at") 1)) ∷ []), (name (made (codes "new") 18))) ∷ [])))
          (With (made (codes "old") 20) (index (name (made (codes "net") 19)) (trees ((name (made (codes "at") 9)) ∷ [])))
          (Await (binary infixs.Less (call (codes "Len") (trees ((name (made (codes "old") 20)) ∷ []))) (name (codes "BUFFER_SIZE")))
          (With (made (codes "new") 21) (call (codes "Append") (trees ((name (made (codes "old") 20)) ∷ (name (made (codes "val") 16)) ∷ [])))
          (With (made (codes "net") 22) (except (name (made (codes "net") 19)) (paths ((((name (made (codes "at") 9)) ∷ []), (name (made (codes "new") 21))) ∷ [])))
          (End (((codes "net"), (made (codes "net") 22)) ∷ []) (codes "Done")))))))))))))))))))))))))))),
    ) ∷ [])
row_swap_mapped_P = refl

plain_twopops_P : all_plain ((codes "net") ∷ (codes "pc") ∷ (codes "P_v") ∷ []) ((codes "net") ∷ []) ([]) (codes "P") (archetype (codes "A") ((codes "v") ∷ []) (((Some (placed_name (codes "l"))), (assign 0 ((assignment (codes "v") ([]) (binary infixs.Add (index (name (codes "net")) (trees ((number (pos 1)) ∷ []))) (index (name (codes "net")) (trees ((number (pos 1)) ∷ []))))) ∷ []))) ∷ (None, (assign 0 ((assignment (codes "net") ((step.Index (number (pos 1))) ∷ []) (name (codes "v"))) ∷ []))) ∷ [])) ((binding (codes "net") (targets.Global (codes "net") extents.Element (Some (Macro (mapping (codes "ReliableFIFOLink") ((None, (await_that 0 (binary infixs.Greater (call (codes "Len") (trees ((name (codes "$variable")) ∷ []))) (number (pos 0))))) ∷ (None, (with_in 0 ((with_name (codes "msg") (Equals (call (codes "Head") (trees ((name (codes "$variable")) ∷ []))))) ∷ []) (block 0 (labeled ((None, (assign 0 ((assignment (codes "$variable") ([]) (call (codes "Tail") (trees ((name (codes "$variable")) ∷ [])))) ∷ []))) ∷ (None, (yield_as 0 (name (codes "msg")))) ∷ []))))) ∷ []) ((None, (await_that 0 (binary infixs.Less (call (codes "Len") (trees ((name (codes "$variable")) ∷ []))) (name (codes "BUFFER_SIZE"))))) ∷ (None, (yield_as 0 (call (codes "Append") (trees ((name (codes "$variable")) ∷ (name (codes "$value")) ∷ []))))) ∷ [])))))) ∷ []) ≡ true
plain_twopops_P = refl

named_twopops_P : all_named ((codes "net") ∷ (codes "pc") ∷ (codes "P_v") ∷ []) ((codes "net") ∷ []) (codes "P") (archetype (codes "A") ((codes "v") ∷ []) (((Some (placed_name (codes "l"))), (assign 0 ((assignment (codes "v") ([]) (binary infixs.Add (index (name (codes "net")) (trees ((number (pos 1)) ∷ []))) (index (name (codes "net")) (trees ((number (pos 1)) ∷ []))))) ∷ []))) ∷ (None, (assign 0 ((assignment (codes "net") ((step.Index (number (pos 1))) ∷ []) (name (codes "v"))) ∷ []))) ∷ [])) ((binding (codes "net") (targets.Global (codes "net") extents.Element (Some (Macro (mapping (codes "ReliableFIFOLink") ((None, (await_that 0 (binary infixs.Greater (call (codes "Len") (trees ((name (codes "$variable")) ∷ []))) (number (pos 0))))) ∷ (None, (with_in 0 ((with_name (codes "msg") (Equals (call (codes "Head") (trees ((name (codes "$variable")) ∷ []))))) ∷ []) (block 0 (labeled ((None, (assign 0 ((assignment (codes "$variable") ([]) (call (codes "Tail") (trees ((name (codes "$variable")) ∷ [])))) ∷ []))) ∷ (None, (yield_as 0 (name (codes "msg")))) ∷ []))))) ∷ []) ((None, (await_that 0 (binary infixs.Less (call (codes "Len") (trees ((name (codes "$variable")) ∷ []))) (name (codes "BUFFER_SIZE"))))) ∷ (None, (yield_as 0 (call (codes "Append") (trees ((name (codes "$variable")) ∷ (name (codes "$value")) ∷ []))))) ∷ [])))))) ∷ []) ≡ true
named_twopops_P = refl

row_twopops_P : all_expansions ((codes "net") ∷ (codes "pc") ∷ (codes "P_v") ∷ []) ([]) (codes "P") (archetype (codes "A") ((codes "v") ∷ []) (((Some (placed_name (codes "l"))), (assign 0 ((assignment (codes "v") ([]) (binary infixs.Add (index (name (codes "net")) (trees ((number (pos 1)) ∷ []))) (index (name (codes "net")) (trees ((number (pos 1)) ∷ []))))) ∷ []))) ∷ (None, (assign 0 ((assignment (codes "net") ((step.Index (number (pos 1))) ∷ []) (name (codes "v"))) ∷ []))) ∷ [])) ((binding (codes "net") (targets.Global (codes "net") extents.Element (Some (Macro (mapping (codes "ReliableFIFOLink") ((None, (await_that 0 (binary infixs.Greater (call (codes "Len") (trees ((name (codes "$variable")) ∷ []))) (number (pos 0))))) ∷ (None, (with_in 0 ((with_name (codes "msg") (Equals (call (codes "Head") (trees ((name (codes "$variable")) ∷ []))))) ∷ []) (block 0 (labeled ((None, (assign 0 ((assignment (codes "$variable") ([]) (call (codes "Tail") (trees ((name (codes "$variable")) ∷ [])))) ∷ []))) ∷ (None, (yield_as 0 (name (codes "msg")))) ∷ []))))) ∷ []) ((None, (await_that 0 (binary infixs.Less (call (codes "Len") (trees ((name (codes "$variable")) ∷ []))) (name (codes "BUFFER_SIZE"))))) ∷ (None, (yield_as 0 (call (codes "Append") (trees ((name (codes "$variable")) ∷ (name (codes "$value")) ∷ []))))) ∷ [])))))) ∷ [])
    ≡ ((
      (codes "P_l"),
      (With (made (codes "at") 1) (number (pos 1))
          (With (made (codes "old") 2) (index (name (codes "net")) (trees ((name (made (codes "at") 1)) ∷ [])))
          (Await (binary infixs.Greater (call (codes "Len") (trees ((name (made (codes "old") 2)) ∷ []))) (number (pos 0)))
          (With (made (codes "msg") 3) (call (codes "Head") (trees ((name (made (codes "old") 2)) ∷ [])))
          (With (made (codes "old") 4) (call (codes "Tail") (trees ((name (made (codes "old") 2)) ∷ [])))
          (With (made (codes "val") 5) (name (made (codes "msg") 3))
          (With (made (codes "net") 6) (except (name (codes "net")) (paths ((((name (made (codes "at") 1)) ∷ []), (name (made (codes "old") 4))) ∷ [])))
          (With (made (codes "at") 7) (number (pos 1))
          (With (made (codes "old") 8) (index (name (made (codes "net") 6)) (trees ((name (made (codes "at") 7)) ∷ [])))
          (Await (binary infixs.Greater (call (codes "Len") (trees ((name (made (codes "old") 8)) ∷ []))) (number (pos 0)))
          (With (made (codes "msg") 9) (call (codes "Head") (trees ((name (made (codes "old") 8)) ∷ [])))
          (With (made (codes "old") 10) (call (codes "Tail") (trees ((name (made (codes "old") 8)) ∷ [])))
          (With (made (codes "val") 11) (name (made (codes "msg") 9))
          (With (made (codes "net") 12) (except (name (made (codes "net") 6)) (paths ((((name (made (codes "at") 7)) ∷ []), (name (made (codes "old") 10))) ∷ [])))
          (With (made (codes "val") 13) (binary infixs.Add (name (made (codes "val") 5)) (name (made (codes "val") 11)))
          (With (made (codes "at") 14) (number (pos 1))
          (With (made (codes "val") 15) (name (made (codes "val") 13))
          (With (made (codes "old") 16) (index (name (made (codes "net") 12)) (trees ((name (made (codes "at") 14)) ∷ [])))
          (Await (binary infixs.Less (call (codes "Len") (trees ((name (made (codes "old") 16)) ∷ []))) (name (codes "BUFFER_SIZE")))
          (With (made (codes "new") 17) (call (codes "Append") (trees ((name (made (codes "old") 16)) ∷ (name (made (codes "val") 15)) ∷ [])))
          (With (made (codes "net") 18) (except (name (made (codes "net") 12)) (paths ((((name (made (codes "at") 14)) ∷ []), (name (made (codes "new") 17))) ∷ [])))
          (End (((codes "net"), (made (codes "net") 18)) ∷ ((codes "P_v"), (made (codes "val") 13)) ∷ []) (codes "Done"))))))))))))))))))))))),
    ) ∷ [])
row_twopops_P = refl

plain_whole_mapped_P : all_plain ((codes "x") ∷ (codes "pc") ∷ []) ((codes "x") ∷ []) ([]) (codes "P") (archetype (codes "A") ([]) (((Some (placed_name (codes "l"))), (assign 0 ((assignment (codes "v") ([]) (number (pos 7))) ∷ []))) ∷ [])) ((binding (codes "v") (targets.Global (codes "x") extents.Whole (Some (Macro (mapping (codes "Log") ((None, (yield_as 0 (name (codes "$variable")))) ∷ []) ((None, (yield_as 0 (call (codes "Append") (trees ((name (codes "$variable")) ∷ (name (codes "$value")) ∷ []))))) ∷ [])))))) ∷ []) ≡ true
plain_whole_mapped_P = refl

named_whole_mapped_P : all_named ((codes "x") ∷ (codes "pc") ∷ []) ((codes "x") ∷ []) (codes "P") (archetype (codes "A") ([]) (((Some (placed_name (codes "l"))), (assign 0 ((assignment (codes "v") ([]) (number (pos 7))) ∷ []))) ∷ [])) ((binding (codes "v") (targets.Global (codes "x") extents.Whole (Some (Macro (mapping (codes "Log") ((None, (yield_as 0 (name (codes "$variable")))) ∷ []) ((None, (yield_as 0 (call (codes "Append") (trees ((name (codes "$variable")) ∷ (name (codes "$value")) ∷ []))))) ∷ [])))))) ∷ []) ≡ true
named_whole_mapped_P = refl

row_whole_mapped_P : all_expansions ((codes "x") ∷ (codes "pc") ∷ []) ([]) (codes "P") (archetype (codes "A") ([]) (((Some (placed_name (codes "l"))), (assign 0 ((assignment (codes "v") ([]) (number (pos 7))) ∷ []))) ∷ [])) ((binding (codes "v") (targets.Global (codes "x") extents.Whole (Some (Macro (mapping (codes "Log") ((None, (yield_as 0 (name (codes "$variable")))) ∷ []) ((None, (yield_as 0 (call (codes "Append") (trees ((name (codes "$variable")) ∷ (name (codes "$value")) ∷ []))))) ∷ [])))))) ∷ [])
    ≡ ((
      (codes "P_l"),
      (With (made (codes "val") 1) (number (pos 7))
          (With (made (codes "old") 2) (name (codes "x"))
          (With (made (codes "new") 3) (call (codes "Append") (trees ((name (made (codes "old") 2)) ∷ (name (made (codes "val") 1)) ∷ [])))
          (With (made (codes "x") 4) (name (made (codes "new") 3))
          (End (((codes "x"), (made (codes "x") 4)) ∷ []) (codes "Done")))))),
    ) ∷ [])
row_whole_mapped_P = refl

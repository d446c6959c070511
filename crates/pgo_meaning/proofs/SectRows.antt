-- What the sections of these specifications do on states with words of choice, as the same reading worked it out.
use Rattle.std.specs.Prelude.{◌≡◌, pos, negsuc, [], ◌∷◌, Some, None, codes, refl}
use Rattle.pgo_base.specs.declared.expr.Infix.TheVariants as infixs
use Rattle.pgo_base.specs.Data.{integer, string, model, function, pairs}
use Rattle.pgo_base.specs.Tree.{name, number, text, binary, tuple, record_of, index, field, call, trees, named}
use Rattle.pgo_model.specs.Outcome.{Blocked, NoValue, Next, Stuck}
use Rattle.pgo_base.specs.declared.module.Defined.TheVariants.{Given, Means}
use Rattle.pgo_base.specs.declared.value.Value.TheVariants.{Int, Model}
use Rattle.pgo_syntax.specs.Statement.{assign, if_then, if_else, while_do, either_of, await_that, with_in, print_out, assert_that, call_macro, yield_as, block, statements, labeled, guarded}
use Rattle.pgo_syntax.specs.declared.archetype.Extent.TheVariants as extents
use Rattle.pgo_syntax.specs.declared.assignment.Step.TheVariants as step
use Rattle.pgo_syntax.specs.declared.binding.Origin.TheVariants.{Equals, In as InSet}
use Rattle.pgo_syntax.specs.declared.bound.Mapping.TheVariants.{Macro}
use Rattle.pgo_syntax.specs.declared.bound.Target.TheVariants as targets
use Rattle.pgo_meaning.proofs.RowTools.{placed_name, assignment, with_name, archetype, macro, mapping, binding, row_of}

row_choice_0 : row_of ([]) (codes "P") (archetype (codes "A") ([]) (((Some (placed_name (codes "l"))), (with_in 0 ((with_name (codes "w") (InSet (binary infixs.Range (number (pos 1)) (number (pos 3))))) ∷ (with_name (codes "u") (Equals (binary infixs.Multiply (name (codes "w")) (number (pos 2))))) ∷ []) (block 0 (labeled ((None, (await_that 0 (binary infixs.Greater (name (codes "u")) (number (pos 2))))) ∷ (None, (assign 0 ((assignment (codes "v") ([]) (name (codes "u"))) ∷ []))) ∷ []))))) ∷ [])) ((binding (codes "v") (targets.Global (codes "x") extents.Whole None)) ∷ []) ((codes "x") ∷ []) ((Given (codes "defaultInitValue") (Model (codes "defaultInitValue"))) ∷ []) (Int (pos 1)) (((codes "x"), (integer (pos 0))) ∷ ((codes "pc"), (function (pairs (((integer (pos 1)), (string (codes "P_l"))) ∷ [])))) ∷ []) (759 ∷ 367 ∷ 814 ∷ 707 ∷ 965 ∷ 861 ∷ [])
    ≡ record { trace = ([]); end = (Stuck Blocked) }
row_choice_0 = refl

row_choice_1 : row_of ([]) (codes "P") (archetype (codes "A") ([]) (((Some (placed_name (codes "l"))), (with_in 0 ((with_name (codes "w") (InSet (binary infixs.Range (number (pos 1)) (number (pos 3))))) ∷ (with_name (codes "u") (Equals (binary infixs.Multiply (name (codes "w")) (number (pos 2))))) ∷ []) (block 0 (labeled ((None, (await_that 0 (binary infixs.Greater (name (codes "u")) (number (pos 2))))) ∷ (None, (assign 0 ((assignment (codes "v") ([]) (name (codes "u"))) ∷ []))) ∷ []))))) ∷ [])) ((binding (codes "v") (targets.Global (codes "x") extents.Whole None)) ∷ []) ((codes "x") ∷ []) ((Given (codes "defaultInitValue") (Model (codes "defaultInitValue"))) ∷ []) (Int (pos 1)) (((codes "x"), (integer (negsuc 1))) ∷ ((codes "pc"), (function (pairs (((integer (pos 1)), (string (codes "P_l"))) ∷ [])))) ∷ []) (860 ∷ 476 ∷ 794 ∷ 965 ∷ 255 ∷ 664 ∷ [])
    ≡ record { trace = (((codes "x"), None) ∷ []); end = (Next (((codes "x"), (integer (pos 6))) ∷ ((codes "pc"), (function (pairs (((integer (pos 1)), (string (codes "Done"))) ∷ [])))) ∷ []) ([])) }
row_choice_1 = refl

row_either_novalue_0 : row_of ([]) (codes "P") (archetype (codes "A") ([]) (((Some (placed_name (codes "l"))), (either_of 0 (statements ((block 0 (labeled ((None, (assign 0 ((assignment (codes "v") ([]) (number (pos 1))) ∷ []))) ∷ []))) ∷ (block 0 (labeled ((None, (assign 0 ((assignment (codes "v") ([]) (binary infixs.Divide (number (pos 1)) (number (pos 0)))) ∷ []))) ∷ []))) ∷ [])))) ∷ [])) ((binding (codes "v") (targets.Global (codes "x") extents.Whole None)) ∷ []) ((codes "x") ∷ []) ((Given (codes "defaultInitValue") (Model (codes "defaultInitValue"))) ∷ []) (Int (pos 1)) (((codes "x"), (integer (pos 0))) ∷ ((codes "pc"), (function (pairs (((integer (pos 1)), (string (codes "P_l"))) ∷ [])))) ∷ []) (759 ∷ 367 ∷ 814 ∷ 707 ∷ 965 ∷ 861 ∷ [])
    ≡ record { trace = ([]); end = (Stuck NoValue) }
row_either_novalue_0 = refl

row_either_novalue_1 : row_of ([]) (codes "P") (archetype (codes "A") ([]) (((Some (placed_name (codes "l"))), (either_of 0 (statements ((block 0 (labeled ((None, (assign 0 ((assignment (codes "v") ([]) (number (pos 1))) ∷ []))) ∷ []))) ∷ (block 0 (labeled ((None, (assign 0 ((assignment (codes "v") ([]) (binary infixs.Divide (number (pos 1)) (number (pos 0)))) ∷ []))) ∷ []))) ∷ [])))) ∷ [])) ((binding (codes "v") (targets.Global (codes "x") extents.Whole None)) ∷ []) ((codes "x") ∷ []) ((Given (codes "defaultInitValue") (Model (codes "defaultInitValue"))) ∷ []) (Int (pos 1)) (((codes "x"), (integer (negsuc 1))) ∷ ((codes "pc"), (function (pairs (((integer (pos 1)), (string (codes "P_l"))) ∷ [])))) ∷ []) (860 ∷ 476 ∷ 794 ∷ 965 ∷ 255 ∷ 664 ∷ [])
    ≡ record { trace = (((codes "x"), None) ∷ []); end = (Next (((codes "x"), (integer (pos 1))) ∷ ((codes "pc"), (function (pairs (((integer (pos 1)), (string (codes "Done"))) ∷ [])))) ∷ []) ([])) }
row_either_novalue_1 = refl

row_local_path_0 : row_of ([]) (codes "P") (archetype (codes "A") ((codes "q") ∷ []) (((Some (placed_name (codes "l"))), (assign 0 ((assignment (codes "q") ((step.Field (codes "a")) ∷ (step.Index (number (pos 1))) ∷ []) (index (field (name (codes "q")) (codes "a")) (trees ((number (pos 2)) ∷ [])))) ∷ []))) ∷ (None, (assign 0 ((assignment (codes "v") ([]) (index (field (name (codes "q")) (codes "a")) (trees ((number (pos 1)) ∷ [])))) ∷ []))) ∷ [])) ((binding (codes "v") (targets.Global (codes "x") extents.Whole None)) ∷ []) ((codes "x") ∷ []) ((Given (codes "defaultInitValue") (Model (codes "defaultInitValue"))) ∷ []) (Int (pos 4)) (((codes "x"), (integer (pos 0))) ∷ ((codes "pc"), (function (pairs (((integer (pos 3)), (string (codes "P_l"))) ∷ ((integer (pos 4)), (string (codes "P_l"))) ∷ [])))) ∷ ((codes "P_q"), (function (pairs (((integer (pos 3)), (function (pairs (((string (codes "a")), (function (pairs (((integer (pos 1)), (integer (pos 1))) ∷ ((integer (pos 2)), (integer (pos 2))) ∷ [])))) ∷ [])))) ∷ ((integer (pos 4)), (function (pairs (((string (codes "a")), (function (pairs (((integer (pos 1)), (integer (pos 1))) ∷ ((integer (pos 2)), (integer (pos 2))) ∷ [])))) ∷ [])))) ∷ [])))) ∷ []) (759 ∷ 367 ∷ 814 ∷ 707 ∷ 965 ∷ 861 ∷ [])
    ≡ record { trace = (((codes "x"), None) ∷ []); end = (Next (((codes "x"), (integer (pos 2))) ∷ ((codes "pc"), (function (pairs (((integer (pos 3)), (string (codes "P_l"))) ∷ ((integer (pos 4)), (string (codes "Done"))) ∷ [])))) ∷ ((codes "P_q"), (function (pairs (((integer (pos 3)), (function (pairs (((string (codes "a")), (function (pairs (((integer (pos 1)), (integer (pos 1))) ∷ ((integer (pos 2)), (integer (pos 2))) ∷ [])))) ∷ [])))) ∷ ((integer (pos 4)), (function (pairs (((string (codes "a")), (function (pairs (((integer (pos 1)), (integer (pos 2))) ∷ ((integer (pos 2)), (integer (pos 2))) ∷ [])))) ∷ [])))) ∷ [])))) ∷ []) ([])) }
row_local_path_0 = refl

row_local_path_1 : row_of ([]) (codes "P") (archetype (codes "A") ((codes "q") ∷ []) (((Some (placed_name (codes "l"))), (assign 0 ((assignment (codes "q") ((step.Field (codes "a")) ∷ (step.Index (number (pos 1))) ∷ []) (index (field (name (codes "q")) (codes "a")) (trees ((number (pos 2)) ∷ [])))) ∷ []))) ∷ (None, (assign 0 ((assignment (codes "v") ([]) (index (field (name (codes "q")) (codes "a")) (trees ((number (pos 1)) ∷ [])))) ∷ []))) ∷ [])) ((binding (codes "v") (targets.Global (codes "x") extents.Whole None)) ∷ []) ((codes "x") ∷ []) ((Given (codes "defaultInitValue") (Model (codes "defaultInitValue"))) ∷ []) (Int (pos 3)) (((codes "x"), (integer (negsuc 1))) ∷ ((codes "pc"), (function (pairs (((integer (pos 3)), (string (codes "P_l"))) ∷ ((integer (pos 4)), (string (codes "P_l"))) ∷ [])))) ∷ ((codes "P_q"), (function (pairs (((integer (pos 3)), (function (pairs (((string (codes "a")), (function (pairs (((integer (pos 1)), (integer (pos 1))) ∷ ((integer (pos 2)), (integer (pos 2))) ∷ [])))) ∷ [])))) ∷ ((integer (pos 4)), (function (pairs (((string (codes "a")), (function (pairs (((integer (pos 1)), (integer (pos 1))) ∷ ((integer (pos 2)), (integer (pos 2))) ∷ [])))) ∷ [])))) ∷ [])))) ∷ []) (860 ∷ 476 ∷ 794 ∷ 965 ∷ 255 ∷ 664 ∷ [])
    ≡ record { trace = (((codes "x"), None) ∷ []); end = (Next (((codes "x"), (integer (pos 2))) ∷ ((codes "pc"), (function (pairs (((integer (pos 3)), (string (codes "Done"))) ∷ ((integer (pos 4)), (string (codes "P_l"))) ∷ [])))) ∷ ((codes "P_q"), (function (pairs (((integer (pos 3)), (function (pairs (((string (codes "a")), (function (pairs (((integer (pos 1)), (integer (pos 2))) ∷ ((integer (pos 2)), (integer (pos 2))) ∷ [])))) ∷ [])))) ∷ ((integer (pos 4)), (function (pairs (((string (codes "a")), (function (pairs (((integer (pos 1)), (integer (pos 1))) ∷ ((integer (pos 2)), (integer (pos 2))) ∷ [])))) ∷ [])))) ∷ [])))) ∷ []) ([])) }
row_local_path_1 = refl

row_local_path_2 : row_of ([]) (codes "P") (archetype (codes "A") ((codes "q") ∷ []) (((Some (placed_name (codes "l"))), (assign 0 ((assignment (codes "q") ((step.Field (codes "a")) ∷ (step.Index (number (pos 1))) ∷ []) (index (field (name (codes "q")) (codes "a")) (trees ((number (pos 2)) ∷ [])))) ∷ []))) ∷ (None, (assign 0 ((assignment (codes "v") ([]) (index (field (name (codes "q")) (codes "a")) (trees ((number (pos 1)) ∷ [])))) ∷ []))) ∷ [])) ((binding (codes "v") (targets.Global (codes "x") extents.Whole None)) ∷ []) ((codes "x") ∷ []) ((Given (codes "defaultInitValue") (Model (codes "defaultInitValue"))) ∷ []) (Int (pos 4)) (((codes "x"), (integer (pos 2))) ∷ ((codes "pc"), (function (pairs (((integer (pos 3)), (string (codes "Done"))) ∷ ((integer (pos 4)), (string (codes "P_l"))) ∷ [])))) ∷ ((codes "P_q"), (function (pairs (((integer (pos 3)), (function (pairs (((string (codes "a")), (function (pairs (((integer (pos 1)), (integer (pos 2))) ∷ ((integer (pos 2)), (integer (pos 2))) ∷ [])))) ∷ [])))) ∷ ((integer (pos 4)), (function (pairs (((string (codes "a")), (function (pairs (((integer (pos 1)), (integer (pos 1))) ∷ ((integer (pos 2)), (integer (pos 2))) ∷ [])))) ∷ [])))) ∷ [])))) ∷ []) (286 ∷ 186 ∷ 938 ∷ 888 ∷ 784 ∷ 398 ∷ [])
    ≡ record { trace = (((codes "x"), None) ∷ []); end = (Next (((codes "x"), (integer (pos 2))) ∷ ((codes "pc"), (function (pairs (((integer (pos 3)), (string (codes "Done"))) ∷ ((integer (pos 4)), (string (codes "Done"))) ∷ [])))) ∷ ((codes "P_q"), (function (pairs (((integer (pos 3)), (function (pairs (((string (codes "a")), (function (pairs (((integer (pos 1)), (integer (pos 2))) ∷ ((integer (pos 2)), (integer (pos 2))) ∷ [])))) ∷ [])))) ∷ ((integer (pos 4)), (function (pairs (((string (codes "a")), (function (pairs (((integer (pos 1)), (integer (pos 2))) ∷ ((integer (pos 2)), (integer (pos 2))) ∷ [])))) ∷ [])))) ∷ [])))) ∷ []) ([])) }
row_local_path_2 = refl

row_lock_server_0 : row_of ([]) (codes "Client") (archetype (codes "AClient") ([]) (((Some (placed_name (codes "req"))), (assign 0 ((assignment (codes "net") ((step.Index (name (codes "ServerID"))) ∷ []) (record_of (named (((codes "from"), (name (codes "self"))) ∷ ((codes "type"), (text (codes "lock"))) ∷ [])))) ∷ []))) ∷ ((Some (placed_name (codes "crit"))), (with_in 0 ((with_name (codes "m") (Equals (index (name (codes "net")) (trees ((name (codes "self")) ∷ []))))) ∷ []) (block 0 (labeled ((None, (assert_that 0 (binary infixs.Equal (field (name (codes "m")) (codes "type")) (text (codes "grant"))))) ∷ []))))) ∷ ((Some (placed_name (codes "rel"))), (assign 0 ((assignment (codes "net") ((step.Index (name (codes "ServerID"))) ∷ []) (record_of (named (((codes "from"), (name (codes "self"))) ∷ ((codes "type"), (text (codes "unlock"))) ∷ [])))) ∷ []))) ∷ [])) ((binding (codes "net") (targets.Global (codes "net") extents.Element (Some (Macro (mapping (codes "ReliableFIFOLink") ((None, (await_that 0 (binary infixs.Greater (call (codes "Len") (trees ((name (codes "$variable")) ∷ []))) (number (pos 0))))) ∷ (None, (with_in 0 ((with_name (codes "msg") (Equals (call (codes "Head") (trees ((name (codes "$variable")) ∷ []))))) ∷ []) (block 0 (labeled ((None, (assign 0 ((assignment (codes "$variable") ([]) (call (codes "Tail") (trees ((name (codes "$variable")) ∷ [])))) ∷ []))) ∷ (None, (yield_as 0 (name (codes "msg")))) ∷ []))))) ∷ []) ((None, (await_that 0 (binary infixs.Less (call (codes "Len") (trees ((name (codes "$variable")) ∷ []))) (name (codes "BUFFER_SIZE"))))) ∷ (None, (yield_as 0 (call (codes "Append") (trees ((name (codes "$variable")) ∷ (name (codes "$value")) ∷ []))))) ∷ [])))))) ∷ []) ((codes "net") ∷ []) ((Given (codes "NumClients") (Int (pos 4))) ∷ (Given (codes "BUFFER_SIZE") (Int (pos 3))) ∷ (Given (codes "defaultInitValue") (Model (codes "defaultInitValue"))) ∷ (Means (codes "ServerID") ([]) (number (pos 0))) ∷ (Means (codes "ClientSet") ([]) (binary infixs.Range (number (pos 1)) (name (codes "NumClients")))) ∷ (Means (codes "NodeSet") ([]) (binary infixs.Range (number (pos 0)) (name (codes "NumClients")))) ∷ []) (Int (pos 4)) (((codes "net"), (function (pairs (((integer (pos 0)), (function (pairs ([])))) ∷ ((integer (pos 1)), (function (pairs ([])))) ∷ ((integer (pos 2)), (function (pairs ([])))) ∷ ((integer (pos 3)), (function (pairs ([])))) ∷ ((integer (pos 4)), (function (pairs ([])))) ∷ [])))) ∷ ((codes "pc"), (function (pairs (((integer (pos 0)), (string (codes "Server_loop"))) ∷ ((integer (pos 1)), (string (codes "Client_req"))) ∷ ((integer (pos 2)), (string (codes "Client_req"))) ∷ ((integer (pos 3)), (string (codes "Client_req"))) ∷ ((integer (pos 4)), (string (codes "Client_req"))) ∷ [])))) ∷ ((codes "Server_q"), (function (pairs (((integer (pos 0)), (function (pairs ([])))) ∷ [])))) ∷ ((codes "Server_count"), (function (pairs (((integer (pos 0)), (integer (pos 0))) ∷ [])))) ∷ ((codes "Server_seen"), (function (pairs (((integer (pos 0)), (integer (pos 0))) ∷ [])))) ∷ ((codes "Server_msg"), (function (pairs (((integer (pos 0)), (model (codes "defaultInitValue"))) ∷ [])))) ∷ []) (261 ∷ 759 ∷ 367 ∷ 814 ∷ 707 ∷ 965 ∷ [])
    ≡ record { trace = (((codes "net"), (Some (integer (pos 0)))) ∷ []); end = (Next (((codes "net"), (function (pairs (((integer (pos 0)), (function (pairs (((integer (pos 1)), (function (pairs (((string (codes "from")), (integer (pos 4))) ∷ ((string (codes "type")), (string (codes "lock"))) ∷ [])))) ∷ [])))) ∷ ((integer (pos 1)), (function (pairs ([])))) ∷ ((integer (pos 2)), (function (pairs ([])))) ∷ ((integer (pos 3)), (function (pairs ([])))) ∷ ((integer (pos 4)), (function (pairs ([])))) ∷ [])))) ∷ ((codes "pc"), (function (pairs (((integer (pos 0)), (string (codes "Server_loop"))) ∷ ((integer (pos 1)), (string (codes "Client_req"))) ∷ ((integer (pos 2)), (string (codes "Client_req"))) ∷ ((integer (pos 3)), (string (codes "Client_req"))) ∷ ((integer (pos 4)), (string (codes "Client_crit"))) ∷ [])))) ∷ ((codes "Server_q"), (function (pairs (((integer (pos 0)), (function (pairs ([])))) ∷ [])))) ∷ ((codes "Server_count"), (function (pairs (((integer (pos 0)), (integer (pos 0))) ∷ [])))) ∷ ((codes "Server_seen"), (function (pairs (((integer (pos 0)), (integer (pos 0))) ∷ [])))) ∷ ((codes "Server_msg"), (function (pairs (((integer (pos 0)), (model (codes "defaultInitValue"))) ∷ [])))) ∷ []) ([])) }
row_lock_server_0 = refl

row_lock_server_1 : row_of ([]) (codes "Client") (archetype (codes "AClient") ([]) (((Some (placed_name (codes "req"))), (assign 0 ((assignment (codes "net") ((step.Index (name (codes "ServerID"))) ∷ []) (record_of (named (((codes "from"), (name (codes "self"))) ∷ ((codes "type"), (text (codes "lock"))) ∷ [])))) ∷ []))) ∷ ((Some (placed_name (codes "crit"))), (with_in 0 ((with_name (codes "m") (Equals (index (name (codes "net")) (trees ((name (codes "self")) ∷ []))))) ∷ []) (block 0 (labeled ((None, (assert_that 0 (binary infixs.Equal (field (name (codes "m")) (codes "type")) (text (codes "grant"))))) ∷ []))))) ∷ ((Some (placed_name (codes "rel"))), (assign 0 ((assignment (codes "net") ((step.Index (name (codes "ServerID"))) ∷ []) (record_of (named (((codes "from"), (name (codes "self"))) ∷ ((codes "type"), (text (codes "unlock"))) ∷ [])))) ∷ []))) ∷ [])) ((binding (codes "net") (targets.Global (codes "net") extents.Element (Some (Macro (mapping (codes "ReliableFIFOLink") ((None, (await_that 0 (binary infixs.Greater (call (codes "Len") (trees ((name (codes "$variable")) ∷ []))) (number (pos 0))))) ∷ (None, (with_in 0 ((with_name (codes "msg") (Equals (call (codes "Head") (trees ((name (codes "$variable")) ∷ []))))) ∷ []) (block 0 (labeled ((None, (assign 0 ((assignment (codes "$variable") ([]) (call (codes "Tail") (trees ((name (codes "$variable")) ∷ [])))) ∷ []))) ∷ (None, (yield_as 0 (name (codes "msg")))) ∷ []))))) ∷ []) ((None, (await_that 0 (binary infixs.Less (call (codes "Len") (trees ((name (codes "$variable")) ∷ []))) (name (codes "BUFFER_SIZE"))))) ∷ (None, (yield_as 0 (call (codes "Append") (trees ((name (codes "$variable")) ∷ (name (codes "$value")) ∷ []))))) ∷ [])))))) ∷ []) ((codes "net") ∷ []) ((Given (codes "NumClients") (Int (pos 4))) ∷ (Given (codes "BUFFER_SIZE") (Int (pos 3))) ∷ (Given (codes "defaultInitValue") (Model (codes "defaultInitValue"))) ∷ (Means (codes "ServerID") ([]) (number (pos 0))) ∷ (Means (codes "ClientSet") ([]) (binary infixs.Range (number (pos 1)) (name (codes "NumClients")))) ∷ (Means (codes "NodeSet") ([]) (binary infixs.Range (number (pos 0)) (name (codes "NumClients")))) ∷ []) (Int (pos 4)) (((codes "net"), (function (pairs (((integer (pos 0)), (function (pairs (((integer (pos 1)), (function (pairs (((string (codes "from")), (integer (pos 4))) ∷ ((string (codes "type")), (string (codes "lock"))) ∷ [])))) ∷ [])))) ∷ ((integer (pos 1)), (function (pairs ([])))) ∷ ((integer (pos 2)), (function (pairs ([])))) ∷ ((integer (pos 3)), (function (pairs ([])))) ∷ ((integer (pos 4)), (function (pairs ([])))) ∷ [])))) ∷ ((codes "pc"), (function (pairs (((integer (pos 0)), (string (codes "Server_loop"))) ∷ ((integer (pos 1)), (string (codes "Client_req"))) ∷ ((integer (pos 2)), (string (codes "Client_req"))) ∷ ((integer (pos 3)), (string (codes "Client_req"))) ∷ ((integer (pos 4)), (string (codes "Client_crit"))) ∷ [])))) ∷ ((codes "Server_q"), (function (pairs (((integer (pos 0)), (function (pairs ([])))) ∷ [])))) ∷ ((codes "Server_count"), (function (pairs (((integer (pos 0)), (integer (pos 0))) ∷ [])))) ∷ ((codes "Server_seen"), (function (pairs (((integer (pos 0)), (integer (pos 0))) ∷ [])))) ∷ ((codes "Server_msg"), (function (pairs (((integer (pos 0)), (model (codes "defaultInitValue"))) ∷ [])))) ∷ []) (29 ∷ 860 ∷ 476 ∷ 794 ∷ 965 ∷ 255 ∷ [])
    ≡ record { trace = (((codes "net"), (Some (integer (pos 4)))) ∷ []); end = (Stuck Blocked) }
row_lock_server_1 = refl

row_lock_server_2 : row_of ([]) (codes "Client") (archetype (codes "AClient") ([]) (((Some (placed_name (codes "req"))), (assign 0 ((assignment (codes "net") ((step.Index (name (codes "ServerID"))) ∷ []) (record_of (named (((codes "from"), (name (codes "self"))) ∷ ((codes "type"), (text (codes "lock"))) ∷ [])))) ∷ []))) ∷ ((Some (placed_name (codes "crit"))), (with_in 0 ((with_name (codes "m") (Equals (index (name (codes "net")) (trees ((name (codes "self")) ∷ []))))) ∷ []) (block 0 (labeled ((None, (assert_that 0 (binary infixs.Equal (field (name (codes "m")) (codes "type")) (text (codes "grant"))))) ∷ []))))) ∷ ((Some (placed_name (codes "rel"))), (assign 0 ((assignment (codes "net") ((step.Index (name (codes "ServerID"))) ∷ []) (record_of (named (((codes "from"), (name (codes "self"))) ∷ ((codes "type"), (text (codes "unlock"))) ∷ [])))) ∷ []))) ∷ [])) ((binding (codes "net") (targets.Global (codes "net") extents.Element (Some (Macro (mapping (codes "ReliableFIFOLink") ((None, (await_that 0 (binary infixs.Greater (call (codes "Len") (trees ((name (codes "$variable")) ∷ []))) (number (pos 0))))) ∷ (None, (with_in 0 ((with_name (codes "msg") (Equals (call (codes "Head") (trees ((name (codes "$variable")) ∷ []))))) ∷ []) (block 0 (labeled ((None, (assign 0 ((assignment (codes "$variable") ([]) (call (codes "Tail") (trees ((name (codes "$variable")) ∷ [])))) ∷ []))) ∷ (None, (yield_as 0 (name (codes "msg")))) ∷ []))))) ∷ []) ((None, (await_that 0 (binary infixs.Less (call (codes "Len") (trees ((name (codes "$variable")) ∷ []))) (name (codes "BUFFER_SIZE"))))) ∷ (None, (yield_as 0 (call (codes "Append") (trees ((name (codes "$variable")) ∷ (name (codes "$value")) ∷ []))))) ∷ [])))))) ∷ []) ((codes "net") ∷ []) ((Given (codes "NumClients") (Int (pos 4))) ∷ (Given (codes "BUFFER_SIZE") (Int (pos 3))) ∷ (Given (codes "defaultInitValue") (Model (codes "defaultInitValue"))) ∷ (Means (codes "ServerID") ([]) (number (pos 0))) ∷ (Means (codes "ClientSet") ([]) (binary infixs.Range (number (pos 1)) (name (codes "NumClients")))) ∷ (Means (codes "NodeSet") ([]) (binary infixs.Range (number (pos 0)) (name (codes "NumClients")))) ∷ []) (Int (pos 1)) (((codes "net"), (function (pairs (((integer (pos 0)), (function (pairs (((integer (pos 1)), (function (pairs (((string (codes "from")), (integer (pos 4))) ∷ ((string (codes "type")), (string (codes "lock"))) ∷ [])))) ∷ [])))) ∷ ((integer (pos 1)), (function (pairs ([])))) ∷ ((integer (pos 2)), (function (pairs ([])))) ∷ ((integer (pos 3)), (function (pairs ([])))) ∷ ((integer (pos 4)), (function (pairs ([])))) ∷ [])))) ∷ ((codes "pc"), (function (pairs (((integer (pos 0)), (string (codes "Server_loop"))) ∷ ((integer (pos 1)), (string (codes "Client_req"))) ∷ ((integer (pos 2)), (string (codes "Client_req"))) ∷ ((integer (pos 3)), (string (codes "Client_req"))) ∷ ((integer (pos 4)), (string (codes "Client_crit"))) ∷ [])))) ∷ ((codes "Server_q"), (function (pairs (((integer (pos 0)), (function (pairs ([])))) ∷ [])))) ∷ ((codes "Server_count"), (function (pairs (((integer (pos 0)), (integer (pos 0))) ∷ [])))) ∷ ((codes "Server_seen"), (function (pairs (((integer (pos 0)), (integer (pos 0))) ∷ [])))) ∷ ((codes "Server_msg"), (function (pairs (((integer (pos 0)), (model (codes "defaultInitValue"))) ∷ [])))) ∷ []) (115 ∷ 380 ∷ 480 ∷ 889 ∷ 252 ∷ 389 ∷ [])
    ≡ record { trace = (((codes "net"), (Some (integer (pos 0)))) ∷ []); end = (Next (((codes "net"), (function (pairs (((integer (pos 0)), (function (pairs (((integer (pos 1)), (function (pairs (((string (codes "from")), (integer (pos 4))) ∷ ((string (codes "type")), (string (codes "lock"))) ∷ [])))) ∷ ((integer (pos 2)), (function (pairs (((string (codes "from")), (integer (pos 1))) ∷ ((string (codes "type")), (string (codes "lock"))) ∷ [])))) ∷ [])))) ∷ ((integer (pos 1)), (function (pairs ([])))) ∷ ((integer (pos 2)), (function (pairs ([])))) ∷ ((integer (pos 3)), (function (pairs ([])))) ∷ ((integer (pos 4)), (function (pairs ([])))) ∷ [])))) ∷ ((codes "pc"), (function (pairs (((integer (pos 0)), (string (codes "Server_loop"))) ∷ ((integer (pos 1)), (string (codes "Client_crit"))) ∷ ((integer (pos 2)), (string (codes "Client_req"))) ∷ ((integer (pos 3)), (string (codes "Client_req"))) ∷ ((integer (pos 4)), (string (codes "Client_crit"))) ∷ [])))) ∷ ((codes "Server_q"), (function (pairs (((integer (pos 0)), (function (pairs ([])))) ∷ [])))) ∷ ((codes "Server_count"), (function (pairs (((integer (pos 0)), (integer (pos 0))) ∷ [])))) ∷ ((codes "Server_seen"), (function (pairs (((integer (pos 0)), (integer (pos 0))) ∷ [])))) ∷ ((codes "Server_msg"), (function (pairs (((integer (pos 0)), (model (codes "defaultInitValue"))) ∷ [])))) ∷ []) ([])) }
row_lock_server_2 = refl

row_lock_server_3 : row_of ([]) (codes "Server") (archetype (codes "AServer") ((codes "q") ∷ (codes "count") ∷ (codes "seen") ∷ (codes "msg") ∷ []) (((Some (placed_name (codes "loop"))), (while_do 0 (binary infixs.Less (name (codes "count")) (binary infixs.Multiply (number (pos 2)) (name (codes "NumClients")))) (block 0 (labeled ((None, (assign 0 ((assignment (codes "msg") ([]) (index (name (codes "net")) (trees ((name (codes "self")) ∷ [])))) ∷ []))) ∷ (None, (assign 0 ((assignment (codes "count") ([]) (binary infixs.Add (name (codes "count")) (number (pos 1)))) ∷ []))) ∷ ((Some (placed_name (codes "handle"))), (assign 0 ((assignment (codes "seen") ([]) (index (name (codes "backlog")) (trees ((name (codes "self")) ∷ [])))) ∷ []))) ∷ (None, (if_else 0 (guarded ((0, ((binary infixs.Equal (field (name (codes "msg")) (codes "type")) (text (codes "lock"))), (block 0 (labeled ((None, (assign 0 ((assignment (codes "q") ([]) (call (codes "Append") (trees ((name (codes "q")) ∷ (field (name (codes "msg")) (codes "from")) ∷ [])))) ∷ []))) ∷ (None, (if_then 0 (guarded ((0, ((binary infixs.Equal (call (codes "Len") (trees ((name (codes "q")) ∷ []))) (number (pos 1))), (block 0 (labeled ((None, (assign 0 ((assignment (codes "net") ((step.Index (field (name (codes "msg")) (codes "from"))) ∷ []) (record_of (named (((codes "from"), (name (codes "self"))) ∷ ((codes "type"), (text (codes "grant"))) ∷ [])))) ∷ []))) ∷ []))))) ∷ [])))) ∷ []))))) ∷ [])) (block 0 (labeled ((None, (assign 0 ((assignment (codes "q") ([]) (call (codes "Tail") (trees ((name (codes "q")) ∷ [])))) ∷ []))) ∷ (None, (if_then 0 (guarded ((0, ((binary infixs.Differs (name (codes "q")) (tuple (trees ([])))), (block 0 (labeled ((None, (assign 0 ((assignment (codes "net") ((step.Index (call (codes "Head") (trees ((name (codes "q")) ∷ [])))) ∷ []) (record_of (named (((codes "from"), (name (codes "self"))) ∷ ((codes "type"), (text (codes "grant"))) ∷ [])))) ∷ []))) ∷ []))))) ∷ [])))) ∷ []))))) ∷ []))))) ∷ [])) ((binding (codes "net") (targets.Global (codes "net") extents.Element (Some (Macro (mapping (codes "ReliableFIFOLink") ((None, (await_that 0 (binary infixs.Greater (call (codes "Len") (trees ((name (codes "$variable")) ∷ []))) (number (pos 0))))) ∷ (None, (with_in 0 ((with_name (codes "msg") (Equals (call (codes "Head") (trees ((name (codes "$variable")) ∷ []))))) ∷ []) (block 0 (labeled ((None, (assign 0 ((assignment (codes "$variable") ([]) (call (codes "Tail") (trees ((name (codes "$variable")) ∷ [])))) ∷ []))) ∷ (None, (yield_as 0 (name (codes "msg")))) ∷ []))))) ∷ []) ((None, (await_that 0 (binary infixs.Less (call (codes "Len") (trees ((name (codes "$variable")) ∷ []))) (name (codes "BUFFER_SIZE"))))) ∷ (None, (yield_as 0 (call (codes "Append") (trees ((name (codes "$variable")) ∷ (name (codes "$value")) ∷ []))))) ∷ [])))))) ∷ (binding (codes "backlog") (targets.Global (codes "net") extents.Element (Some (Macro (mapping (codes "QueueLen") ((None, (yield_as 0 (call (codes "Len") (trees ((name (codes "$variable")) ∷ []))))) ∷ []) ((None, (yield_as 0 (name (codes "$variable")))) ∷ [])))))) ∷ []) ((codes "net") ∷ []) ((Given (codes "NumClients") (Int (pos 4))) ∷ (Given (codes "BUFFER_SIZE") (Int (pos 3))) ∷ (Given (codes "defaultInitValue") (Model (codes "defaultInitValue"))) ∷ (Means (codes "ServerID") ([]) (number (pos 0))) ∷ (Means (codes "ClientSet") ([]) (binary infixs.Range (number (pos 1)) (name (codes "NumClients")))) ∷ (Means (codes "NodeSet") ([]) (binary infixs.Range (number (pos 0)) (name (codes "NumClients")))) ∷ []) (Int (pos 0)) (((codes "net"), (function (pairs (((integer (pos 0)), (function (pairs (((integer (pos 1)), (function (pairs (((string (codes "from")), (integer (pos 4))) ∷ ((string (codes "type")), (string (codes "lock"))) ∷ [])))) ∷ ((integer (pos 2)), (function (pairs (((string (codes "from")), (integer (pos 1))) ∷ ((string (codes "type")), (string (codes "lock"))) ∷ [])))) ∷ [])))) ∷ ((integer (pos 1)), (function (pairs ([])))) ∷ ((integer (pos 2)), (function (pairs ([])))) ∷ ((integer (pos 3)), (function (pairs ([])))) ∷ ((integer (pos 4)), (function (pairs ([])))) ∷ [])))) ∷ ((codes "pc"), (function (pairs (((integer (pos 0)), (string (codes "Server_loop"))) ∷ ((integer (pos 1)), (string (codes "Client_crit"))) ∷ ((integer (pos 2)), (string (codes "Client_req"))) ∷ ((integer (pos 3)), (string (codes "Client_req"))) ∷ ((integer (pos 4)), (string (codes "Client_crit"))) ∷ [])))) ∷ ((codes "Server_q"), (function (pairs (((integer (pos 0)), (function (pairs ([])))) ∷ [])))) ∷ ((codes "Server_count"), (function (pairs (((integer (pos 0)), (integer (pos 0))) ∷ [])))) ∷ ((codes "Server_seen"), (function (pairs (((integer (pos 0)), (integer (pos 0))) ∷ [])))) ∷ ((codes "Server_msg"), (function (pairs (((integer (pos 0)), (model (codes "defaultInitValue"))) ∷ [])))) ∷ []) (748 ∷ 221 ∷ 417 ∷ 286 ∷ 186 ∷ 938 ∷ [])
    ≡ record { trace = (((codes "net"), (Some (integer (pos 0)))) ∷ []); end = (Next (((codes "net"), (function (pairs (((integer (pos 0)), (function (pairs (((integer (pos 1)), (function (pairs (((string (codes "from")), (integer (pos 1))) ∷ ((string (codes "type")), (string (codes "lock"))) ∷ [])))) ∷ [])))) ∷ ((integer (pos 1)), (function (pairs ([])))) ∷ ((integer (pos 2)), (function (pairs ([])))) ∷ ((integer (pos 3)), (function (pairs ([])))) ∷ ((integer (pos 4)), (function (pairs ([])))) ∷ [])))) ∷ ((codes "pc"), (function (pairs (((integer (pos 0)), (string (codes "Server_handle"))) ∷ ((integer (pos 1)), (string (codes "Client_crit"))) ∷ ((integer (pos 2)), (string (codes "Client_req"))) ∷ ((integer (pos 3)), (string (codes "Client_req"))) ∷ ((integer (pos 4)), (string (codes "Client_crit"))) ∷ [])))) ∷ ((codes "Server_q"), (function (pairs (((integer (pos 0)), (function (pairs ([])))) ∷ [])))) ∷ ((codes "Server_count"), (function (pairs (((integer (pos 0)), (integer (pos 1))) ∷ [])))) ∷ ((codes "Server_seen"), (function (pairs (((integer (pos 0)), (integer (pos 0))) ∷ [])))) ∷ ((codes "Server_msg"), (function (pairs (((integer (pos 0)), (function (pairs (((string (codes "from")), (integer (pos 4))) ∷ ((string (codes "type")), (string (codes "lock"))) ∷ [])))) ∷ [])))) ∷ []) ([])) }
row_lock_server_3 = refl

row_lock_server_4 : row_of ([]) (codes "Server") (archetype (codes "AServer") ((codes "q") ∷ (codes "count") ∷ (codes "seen") ∷ (codes "msg") ∷ []) (((Some (placed_name (codes "loop"))), (while_do 0 (binary infixs.Less (name (codes "count")) (binary infixs.Multiply (number (pos 2)) (name (codes "NumClients")))) (block 0 (labeled ((None, (assign 0 ((assignment (codes "msg") ([]) (index (name (codes "net")) (trees ((name (codes "self")) ∷ [])))) ∷ []))) ∷ (None, (assign 0 ((assignment (codes "count") ([]) (binary infixs.Add (name (codes "count")) (number (pos 1)))) ∷ []))) ∷ ((Some (placed_name (codes "handle"))), (assign 0 ((assignment (codes "seen") ([]) (index (name (codes "backlog")) (trees ((name (codes "self")) ∷ [])))) ∷ []))) ∷ (None, (if_else 0 (guarded ((0, ((binary infixs.Equal (field (name (codes "msg")) (codes "type")) (text (codes "lock"))), (block 0 (labeled ((None, (assign 0 ((assignment (codes "q") ([]) (call (codes "Append") (trees ((name (codes "q")) ∷ (field (name (codes "msg")) (codes "from")) ∷ [])))) ∷ []))) ∷ (None, (if_then 0 (guarded ((0, ((binary infixs.Equal (call (codes "Len") (trees ((name (codes "q")) ∷ []))) (number (pos 1))), (block 0 (labeled ((None, (assign 0 ((assignment (codes "net") ((step.Index (field (name (codes "msg")) (codes "from"))) ∷ []) (record_of (named (((codes "from"), (name (codes "self"))) ∷ ((codes "type"), (text (codes "grant"))) ∷ [])))) ∷ []))) ∷ []))))) ∷ [])))) ∷ []))))) ∷ [])) (block 0 (labeled ((None, (assign 0 ((assignment (codes "q") ([]) (call (codes "Tail") (trees ((name (codes "q")) ∷ [])))) ∷ []))) ∷ (None, (if_then 0 (guarded ((0, ((binary infixs.Differs (name (codes "q")) (tuple (trees ([])))), (block 0 (labeled ((None, (assign 0 ((assignment (codes "net") ((step.Index (call (codes "Head") (trees ((name (codes "q")) ∷ [])))) ∷ []) (record_of (named (((codes "from"), (name (codes "self"))) ∷ ((codes "type"), (text (codes "grant"))) ∷ [])))) ∷ []))) ∷ []))))) ∷ [])))) ∷ []))))) ∷ []))))) ∷ [])) ((binding (codes "net") (targets.Global (codes "net") extents.Element (Some (Macro (mapping (codes "ReliableFIFOLink") ((None, (await_that 0 (binary infixs.Greater (call (codes "Len") (trees ((name (codes "$variable")) ∷ []))) (number (pos 0))))) ∷ (None, (with_in 0 ((with_name (codes "msg") (Equals (call (codes "Head") (trees ((name (codes "$variable")) ∷ []))))) ∷ []) (block 0 (labeled ((None, (assign 0 ((assignment (codes "$variable") ([]) (call (codes "Tail") (trees ((name (codes "$variable")) ∷ [])))) ∷ []))) ∷ (None, (yield_as 0 (name (codes "msg")))) ∷ []))))) ∷ []) ((None, (await_that 0 (binary infixs.Less (call (codes "Len") (trees ((name (codes "$variable")) ∷ []))) (name (codes "BUFFER_SIZE"))))) ∷ (None, (yield_as 0 (call (codes "Append") (trees ((name (codes "$variable")) ∷ (name (codes "$value")) ∷ []))))) ∷ [])))))) ∷ (binding (codes "backlog") (targets.Global (codes "net") extents.Element (Some (Macro (mapping (codes "QueueLen") ((None, (yield_as 0 (call (codes "Len") (trees ((name (codes "$variable")) ∷ []))))) ∷ []) ((None, (yield_as 0 (name (codes "$variable")))) ∷ [])))))) ∷ []) ((codes "net") ∷ []) ((Given (codes "NumClients") (Int (pos 4))) ∷ (Given (codes "BUFFER_SIZE") (Int (pos 3))) ∷ (Given (codes "defaultInitValue") (Model (codes "defaultInitValue"))) ∷ (Means (codes "ServerID") ([]) (number (pos 0))) ∷ (Means (codes "ClientSet") ([]) (binary infixs.Range (number (pos 1)) (name (codes "NumClients")))) ∷ (Means (codes "NodeSet") ([]) (binary infixs.Range (number (pos 0)) (name (codes "NumClients")))) ∷ []) (Int (pos 0)) (((codes "net"), (function (pairs (((integer (pos 0)), (function (pairs (((integer (pos 1)), (function (pairs (((string (codes "from")), (integer (pos 1))) ∷ ((string (codes "type")), (string (codes "lock"))) ∷ [])))) ∷ [])))) ∷ ((integer (pos 1)), (function (pairs ([])))) ∷ ((integer (pos 2)), (function (pairs ([])))) ∷ ((integer (pos 3)), (function (pairs ([])))) ∷ ((integer (pos 4)), (function (pairs ([])))) ∷ [])))) ∷ ((codes "pc"), (function (pairs (((integer (pos 0)), (string (codes "Server_handle"))) ∷ ((integer (pos 1)), (string (codes "Client_crit"))) ∷ ((integer (pos 2)), (string (codes "Client_req"))) ∷ ((integer (pos 3)), (string (codes "Client_req"))) ∷ ((integer (pos 4)), (string (codes "Client_crit"))) ∷ [])))) ∷ ((codes "Server_q"), (function (pairs (((integer (pos 0)), (function (pairs ([])))) ∷ [])))) ∷ ((codes "Server_count"), (function (pairs (((integer (pos 0)), (integer (pos 1))) ∷ [])))) ∷ ((codes "Server_seen"), (function (pairs (((integer (pos 0)), (integer (pos 0))) ∷ [])))) ∷ ((codes "Server_msg"), (function (pairs (((integer (pos 0)), (function (pairs (((string (codes "from")), (integer (pos 4))) ∷ ((string (codes "type")), (string (codes "lock"))) ∷ [])))) ∷ [])))) ∷ []) (142 ∷ 632 ∷ 632 ∷ 455 ∷ 129 ∷ 135 ∷ [])
    ≡ record { trace = (((codes "net"), (Some (integer (pos 0)))) ∷ ((codes "net"), (Some (integer (pos 4)))) ∷ []); end = (Next (((codes "net"), (function (pairs (((integer (pos 0)), (function (pairs (((integer (pos 1)), (function (pairs (((string (codes "from")), (integer (pos 1))) ∷ ((string (codes "type")), (string (codes "lock"))) ∷ [])))) ∷ [])))) ∷ ((integer (pos 1)), (function (pairs ([])))) ∷ ((integer (pos 2)), (function (pairs ([])))) ∷ ((integer (pos 3)), (function (pairs ([])))) ∷ ((integer (pos 4)), (function (pairs (((integer (pos 1)), (function (pairs (((string (codes "from")), (integer (pos 0))) ∷ ((string (codes "type")), (string (codes "grant"))) ∷ [])))) ∷ [])))) ∷ [])))) ∷ ((codes "pc"), (function (pairs (((integer (pos 0)), (string (codes "Server_loop"))) ∷ ((integer (pos 1)), (string (codes "Client_crit"))) ∷ ((integer (pos 2)), (string (codes "Client_req"))) ∷ ((integer (pos 3)), (string (codes "Client_req"))) ∷ ((integer (pos 4)), (string (codes "Client_crit"))) ∷ [])))) ∷ ((codes "Server_q"), (function (pairs (((integer (pos 0)), (function (pairs (((integer (pos 1)), (integer (pos 4))) ∷ [])))) ∷ [])))) ∷ ((codes "Server_count"), (function (pairs (((integer (pos 0)), (integer (pos 1))) ∷ [])))) ∷ ((codes "Server_seen"), (function (pairs (((integer (pos 0)), (integer (pos 1))) ∷ [])))) ∷ ((codes "Server_msg"), (function (pairs (((integer (pos 0)), (function (pairs (((string (codes "from")), (integer (pos 4))) ∷ ((string (codes "type")), (string (codes "lock"))) ∷ [])))) ∷ [])))) ∷ []) ([])) }
row_lock_server_4 = refl

row_lock_server_5 : row_of ([]) (codes "Client") (archetype (codes "AClient") ([]) (((Some (placed_name (codes "req"))), (assign 0 ((assignment (codes "net") ((step.Index (name (codes "ServerID"))) ∷ []) (record_of (named (((codes "from"), (name (codes "self"))) ∷ ((codes "type"), (text (codes "lock"))) ∷ [])))) ∷ []))) ∷ ((Some (placed_name (codes "crit"))), (with_in 0 ((with_name (codes "m") (Equals (index (name (codes "net")) (trees ((name (codes "self")) ∷ []))))) ∷ []) (block 0 (labeled ((None, (assert_that 0 (binary infixs.Equal (field (name (codes "m")) (codes "type")) (text (codes "grant"))))) ∷ []))))) ∷ ((Some (placed_name (codes "rel"))), (assign 0 ((assignment (codes "net") ((step.Index (name (codes "ServerID"))) ∷ []) (record_of (named (((codes "from"), (name (codes "self"))) ∷ ((codes "type"), (text (codes "unlock"))) ∷ [])))) ∷ []))) ∷ [])) ((binding (codes "net") (targets.Global (codes "net") extents.Element (Some (Macro (mapping (codes "ReliableFIFOLink") ((None, (await_that 0 (binary infixs.Greater (call (codes "Len") (trees ((name (codes "$variable")) ∷ []))) (number (pos 0))))) ∷ (None, (with_in 0 ((with_name (codes "msg") (Equals (call (codes "Head") (trees ((name (codes "$variable")) ∷ []))))) ∷ []) (block 0 (labeled ((None, (assign 0 ((assignment (codes "$variable") ([]) (call (codes "Tail") (trees ((name (codes "$variable")) ∷ [])))) ∷ []))) ∷ (None, (yield_as 0 (name (codes "msg")))) ∷ []))))) ∷ []) ((None, (await_that 0 (binary infixs.Less (call (codes "Len") (trees ((name (codes "$variable")) ∷ []))) (name (codes "BUFFER_SIZE"))))) ∷ (None, (yield_as 0 (call (codes "Append") (trees ((name (codes "$variable")) ∷ (name (codes "$value")) ∷ []))))) ∷ [])))))) ∷ []) ((codes "net") ∷ []) ((Given (codes "NumClients") (Int (pos 4))) ∷ (Given (codes "BUFFER_SIZE") (Int (pos 3))) ∷ (Given (codes "defaultInitValue") (Model (codes "defaultInitValue"))) ∷ (Means (codes "ServerID") ([]) (number (pos 0))) ∷ (Means (codes "ClientSet") ([]) (binary infixs.Range (number (pos 1)) (name (codes "NumClients")))) ∷ (Means (codes "NodeSet") ([]) (binary infixs.Range (number (pos 0)) (name (codes "NumClients")))) ∷ []) (Int (pos 1)) (((codes "net"), (function (pairs (((integer (pos 0)), (function (pairs (((integer (pos 1)), (function (pairs (((string (codes "from")), (integer (pos 1))) ∷ ((string (codes "type")), (string (codes "lock"))) ∷ [])))) ∷ [])))) ∷ ((integer (pos 1)), (function (pairs ([])))) ∷ ((integer (pos 2)), (function (pairs ([])))) ∷ ((integer (pos 3)), (function (pairs ([])))) ∷ ((integer (pos 4)), (function (pairs (((integer (pos 1)), (function (pairs (((string (codes "from")), (integer (pos 0))) ∷ ((string (codes "type")), (string (codes "grant"))) ∷ [])))) ∷ [])))) ∷ [])))) ∷ ((codes "pc"), (function (pairs (((integer (pos 0)), (string (codes "Server_loop"))) ∷ ((integer (pos 1)), (string (codes "Client_crit"))) ∷ ((integer (pos 2)), (string (codes "Client_req"))) ∷ ((integer (pos 3)), (string (codes "Client_req"))) ∷ ((integer (pos 4)), (string (codes "Client_crit"))) ∷ [])))) ∷ ((codes "Server_q"), (function (pairs (((integer (pos 0)), (function (pairs (((integer (pos 1)), (integer (pos 4))) ∷ [])))) ∷ [])))) ∷ ((codes "Server_count"), (function (pairs (((integer (pos 0)), (integer (pos 1))) ∷ [])))) ∷ ((codes "Server_seen"), (function (pairs (((integer (pos 0)), (integer (pos 1))) ∷ [])))) ∷ ((codes "Server_msg"), (function (pairs (((integer (pos 0)), (function (pairs (((string (codes "from")), (integer (pos 4))) ∷ ((string (codes "type")), (string (codes "lock"))) ∷ [])))) ∷ [])))) ∷ []) (983 ∷ 169 ∷ 893 ∷ 170 ∷ 296 ∷ 321 ∷ [])
    ≡ record { trace = (((codes "net"), (Some (integer (pos 1)))) ∷ []); end = (Stuck Blocked) }
row_lock_server_5 = refl

row_loop_0 : row_of ([]) (codes "P") (archetype (codes "A") ((codes "n") ∷ []) (((Some (placed_name (codes "l"))), (while_do 0 (binary infixs.Less (name (codes "n")) (number (pos 2))) (block 0 (labeled ((None, (assign 0 ((assignment (codes "n") ([]) (binary infixs.Add (name (codes "n")) (number (pos 1)))) ∷ []))) ∷ ((Some (placed_name (codes "m"))), (assign 0 ((assignment (codes "v") ([]) (binary infixs.Add (name (codes "v")) (name (codes "n")))) ∷ []))) ∷ []))))) ∷ (None, (print_out 0 (name (codes "v")))) ∷ [])) ((binding (codes "v") (targets.Global (codes "x") extents.Whole None)) ∷ []) ((codes "x") ∷ []) ((Given (codes "defaultInitValue") (Model (codes "defaultInitValue"))) ∷ []) (Int (pos 1)) (((codes "x"), (integer (pos 3))) ∷ ((codes "pc"), (function (pairs (((integer (pos 1)), (string (codes "P_l"))) ∷ [])))) ∷ ((codes "P_n"), (function (pairs (((integer (pos 1)), (integer (pos 0))) ∷ [])))) ∷ []) (759 ∷ 367 ∷ 814 ∷ 707 ∷ 965 ∷ 861 ∷ [])
    ≡ record { trace = ([]); end = (Next (((codes "x"), (integer (pos 3))) ∷ ((codes "pc"), (function (pairs (((integer (pos 1)), (string (codes "P_m"))) ∷ [])))) ∷ ((codes "P_n"), (function (pairs (((integer (pos 1)), (integer (pos 1))) ∷ [])))) ∷ []) ([])) }
row_loop_0 = refl

row_loop_1 : row_of ([]) (codes "P") (archetype (codes "A") ((codes "n") ∷ []) (((Some (placed_name (codes "l"))), (while_do 0 (binary infixs.Less (name (codes "n")) (number (pos 2))) (block 0 (labeled ((None, (assign 0 ((assignment (codes "n") ([]) (binary infixs.Add (name (codes "n")) (number (pos 1)))) ∷ []))) ∷ ((Some (placed_name (codes "m"))), (assign 0 ((assignment (codes "v") ([]) (binary infixs.Add (name (codes "v")) (name (codes "n")))) ∷ []))) ∷ []))))) ∷ (None, (print_out 0 (name (codes "v")))) ∷ [])) ((binding (codes "v") (targets.Global (codes "x") extents.Whole None)) ∷ []) ((codes "x") ∷ []) ((Given (codes "defaultInitValue") (Model (codes "defaultInitValue"))) ∷ []) (Int (pos 1)) (((codes "x"), (integer (negsuc 1))) ∷ ((codes "pc"), (function (pairs (((integer (pos 1)), (string (codes "P_l"))) ∷ [])))) ∷ ((codes "P_n"), (function (pairs (((integer (pos 1)), (integer (pos 0))) ∷ [])))) ∷ []) (860 ∷ 476 ∷ 794 ∷ 965 ∷ 255 ∷ 664 ∷ [])
    ≡ record { trace = ([]); end = (Next (((codes "x"), (integer (negsuc 1))) ∷ ((codes "pc"), (function (pairs (((integer (pos 1)), (string (codes "P_m"))) ∷ [])))) ∷ ((codes "P_n"), (function (pairs (((integer (pos 1)), (integer (pos 1))) ∷ [])))) ∷ []) ([])) }
row_loop_1 = refl

row_loop_2 : row_of ([]) (codes "P") (archetype (codes "A") ((codes "n") ∷ []) (((Some (placed_name (codes "l"))), (while_do 0 (binary infixs.Less (name (codes "n")) (number (pos 2))) (block 0 (labeled ((None, (assign 0 ((assignment (codes "n") ([]) (binary infixs.Add (name (codes "n")) (number (pos 1)))) ∷ []))) ∷ ((Some (placed_name (codes "m"))), (assign 0 ((assignment (codes "v") ([]) (binary infixs.Add (name (codes "v")) (name (codes "n")))) ∷ []))) ∷ []))))) ∷ (None, (print_out 0 (name (codes "v")))) ∷ [])) ((binding (codes "v") (targets.Global (codes "x") extents.Whole None)) ∷ []) ((codes "x") ∷ []) ((Given (codes "defaultInitValue") (Model (codes "defaultInitValue"))) ∷ []) (Int (pos 1)) (((codes "x"), (integer (negsuc 1))) ∷ ((codes "pc"), (function (pairs (((integer (pos 1)), (string (codes "P_m"))) ∷ [])))) ∷ ((codes "P_n"), (function (pairs (((integer (pos 1)), (integer (pos 1))) ∷ [])))) ∷ []) (389 ∷ 556 ∷ 104 ∷ 587 ∷ 255 ∷ 13 ∷ [])
    ≡ record { trace = (((codes "x"), None) ∷ ((codes "x"), None) ∷ []); end = (Next (((codes "x"), (integer (negsuc 0))) ∷ ((codes "pc"), (function (pairs (((integer (pos 1)), (string (codes "P_l"))) ∷ [])))) ∷ ((codes "P_n"), (function (pairs (((integer (pos 1)), (integer (pos 1))) ∷ [])))) ∷ []) ([])) }
row_loop_2 = refl

row_loop_3 : row_of ([]) (codes "P") (archetype (codes "A") ((codes "n") ∷ []) (((Some (placed_name (codes "l"))), (while_do 0 (binary infixs.Less (name (codes "n")) (number (pos 2))) (block 0 (labeled ((None, (assign 0 ((assignment (codes "n") ([]) (binary infixs.Add (name (codes "n")) (number (pos 1)))) ∷ []))) ∷ ((Some (placed_name (codes "m"))), (assign 0 ((assignment (codes "v") ([]) (binary infixs.Add (name (codes "v")) (name (codes "n")))) ∷ []))) ∷ []))))) ∷ (None, (print_out 0 (name (codes "v")))) ∷ [])) ((binding (codes "v") (targets.Global (codes "x") extents.Whole None)) ∷ []) ((codes "x") ∷ []) ((Given (codes "defaultInitValue") (Model (codes "defaultInitValue"))) ∷ []) (Int (pos 1)) (((codes "x"), (integer (negsuc 0))) ∷ ((codes "pc"), (function (pairs (((integer (pos 1)), (string (codes "P_l"))) ∷ [])))) ∷ ((codes "P_n"), (function (pairs (((integer (pos 1)), (integer (pos 1))) ∷ [])))) ∷ []) (938 ∷ 888 ∷ 784 ∷ 398 ∷ 163 ∷ 780 ∷ [])
    ≡ record { trace = ([]); end = (Next (((codes "x"), (integer (negsuc 0))) ∷ ((codes "pc"), (function (pairs (((integer (pos 1)), (string (codes "P_m"))) ∷ [])))) ∷ ((codes "P_n"), (function (pairs (((integer (pos 1)), (integer (pos 2))) ∷ [])))) ∷ []) ([])) }
row_loop_3 = refl

row_loop_4 : row_of ([]) (codes "P") (archetype (codes "A") ((codes "n") ∷ []) (((Some (placed_name (codes "l"))), (while_do 0 (binary infixs.Less (name (codes "n")) (number (pos 2))) (block 0 (labeled ((None, (assign 0 ((assignment (codes "n") ([]) (binary infixs.Add (name (codes "n")) (number (pos 1)))) ∷ []))) ∷ ((Some (placed_name (codes "m"))), (assign 0 ((assignment (codes "v") ([]) (binary infixs.Add (name (codes "v")) (name (codes "n")))) ∷ []))) ∷ []))))) ∷ (None, (print_out 0 (name (codes "v")))) ∷ [])) ((binding (codes "v") (targets.Global (codes "x") extents.Whole None)) ∷ []) ((codes "x") ∷ []) ((Given (codes "defaultInitValue") (Model (codes "defaultInitValue"))) ∷ []) (Int (pos 1)) (((codes "x"), (integer (negsuc 0))) ∷ ((codes "pc"), (function (pairs (((integer (pos 1)), (string (codes "P_m"))) ∷ [])))) ∷ ((codes "P_n"), (function (pairs (((integer (pos 1)), (integer (pos 2))) ∷ [])))) ∷ []) (129 ∷ 135 ∷ 1 ∷ 995 ∷ 892 ∷ 5 ∷ [])
    ≡ record { trace = (((codes "x"), None) ∷ ((codes "x"), None) ∷ []); end = (Next (((codes "x"), (integer (pos 1))) ∷ ((codes "pc"), (function (pairs (((integer (pos 1)), (string (codes "P_l"))) ∷ [])))) ∷ ((codes "P_n"), (function (pairs (((integer (pos 1)), (integer (pos 2))) ∷ [])))) ∷ []) ([])) }
row_loop_4 = refl

row_loop_5 : row_of ([]) (codes "P") (archetype (codes "A") ((codes "n") ∷ []) (((Some (placed_name (codes "l"))), (while_do 0 (binary infixs.Less (name (codes "n")) (number (pos 2))) (block 0 (labeled ((None, (assign 0 ((assignment (codes "n") ([]) (binary infixs.Add (name (codes "n")) (number (pos 1)))) ∷ []))) ∷ ((Some (placed_name (codes "m"))), (assign 0 ((assignment (codes "v") ([]) (binary infixs.Add (name (codes "v")) (name (codes "n")))) ∷ []))) ∷ []))))) ∷ (None, (print_out 0 (name (codes "v")))) ∷ [])) ((binding (codes "v") (targets.Global (codes "x") extents.Whole None)) ∷ []) ((codes "x") ∷ []) ((Given (codes "defaultInitValue") (Model (codes "defaultInitValue"))) ∷ []) (Int (pos 1)) (((codes "x"), (integer (pos 1))) ∷ ((codes "pc"), (function (pairs (((integer (pos 1)), (string (codes "P_l"))) ∷ [])))) ∷ ((codes "P_n"), (function (pairs (((integer (pos 1)), (integer (pos 2))) ∷ [])))) ∷ []) (893 ∷ 170 ∷ 296 ∷ 321 ∷ 984 ∷ 203 ∷ [])
    ≡ record { trace = (((codes "x"), None) ∷ []); end = (Next (((codes "x"), (integer (pos 1))) ∷ ((codes "pc"), (function (pairs (((integer (pos 1)), (string (codes "Done"))) ∷ [])))) ∷ ((codes "P_n"), (function (pairs (((integer (pos 1)), (integer (pos 2))) ∷ [])))) ∷ []) ((integer (pos 1)) ∷ [])) }
row_loop_5 = refl

row_macro_with_0 : row_of ((macro (codes "add") ((codes "a") ∷ (codes "b") ∷ []) ((None, (with_in 0 ((with_name (codes "t") (Equals (binary infixs.Add (name (codes "a")) (name (codes "b"))))) ∷ []) (block 0 (labeled ((None, (assign 0 ((assignment (codes "a") ([]) (name (codes "t"))) ∷ []))) ∷ []))))) ∷ [])) ∷ []) (codes "P") (archetype (codes "A") ((codes "w") ∷ []) (((Some (placed_name (codes "l"))), (call_macro 0 (placed_name (codes "add")) ((name (codes "v")) ∷ (name (codes "w")) ∷ []))) ∷ (None, (call_macro 0 (placed_name (codes "add")) ((name (codes "v")) ∷ (number (pos 2)) ∷ []))) ∷ [])) ((binding (codes "v") (targets.Global (codes "x") extents.Whole None)) ∷ []) ((codes "x") ∷ []) ((Given (codes "defaultInitValue") (Model (codes "defaultInitValue"))) ∷ []) (Int (pos 1)) (((codes "x"), (integer (pos 0))) ∷ ((codes "pc"), (function (pairs (((integer (pos 1)), (string (codes "P_l"))) ∷ [])))) ∷ ((codes "P_w"), (function (pairs (((integer (pos 1)), (integer (pos 1))) ∷ [])))) ∷ []) (759 ∷ 367 ∷ 814 ∷ 707 ∷ 965 ∷ 861 ∷ [])
    ≡ record { trace = (((codes "x"), None) ∷ ((codes "x"), None) ∷ ((codes "x"), None) ∷ ((codes "x"), None) ∷ []); end = (Next (((codes "x"), (integer (pos 3))) ∷ ((codes "pc"), (function (pairs (((integer (pos 1)), (string (codes "Done"))) ∷ [])))) ∷ ((codes "P_w"), (function (pairs (((integer (pos 1)), (integer (pos 1))) ∷ [])))) ∷ []) ([])) }
row_macro_with_0 = refl

row_macro_with_1 : row_of ((macro (codes "add") ((codes "a") ∷ (codes "b") ∷ []) ((None, (with_in 0 ((with_name (codes "t") (Equals (binary infixs.Add (name (codes "a")) (name (codes "b"))))) ∷ []) (block 0 (labeled ((None, (assign 0 ((assignment (codes "a") ([]) (name (codes "t"))) ∷ []))) ∷ []))))) ∷ [])) ∷ []) (codes "P") (archetype (codes "A") ((codes "w") ∷ []) (((Some (placed_name (codes "l"))), (call_macro 0 (placed_name (codes "add")) ((name (codes "v")) ∷ (name (codes "w")) ∷ []))) ∷ (None, (call_macro 0 (placed_name (codes "add")) ((name (codes "v")) ∷ (number (pos 2)) ∷ []))) ∷ [])) ((binding (codes "v") (targets.Global (codes "x") extents.Whole None)) ∷ []) ((codes "x") ∷ []) ((Given (codes "defaultInitValue") (Model (codes "defaultInitValue"))) ∷ []) (Int (pos 1)) (((codes "x"), (integer (negsuc 1))) ∷ ((codes "pc"), (function (pairs (((integer (pos 1)), (string (codes "P_l"))) ∷ [])))) ∷ ((codes "P_w"), (function (pairs (((integer (pos 1)), (integer (pos 1))) ∷ [])))) ∷ []) (860 ∷ 476 ∷ 794 ∷ 965 ∷ 255 ∷ 664 ∷ [])
    ≡ record { trace = (((codes "x"), None) ∷ ((codes "x"), None) ∷ ((codes "x"), None) ∷ ((codes "x"), None) ∷ []); end = (Next (((codes "x"), (integer (pos 1))) ∷ ((codes "pc"), (function (pairs (((integer (pos 1)), (string (codes "Done"))) ∷ [])))) ∷ ((codes "P_w"), (function (pairs (((integer (pos 1)), (integer (pos 1))) ∷ [])))) ∷ []) ([])) }
row_macro_with_1 = refl

row_one_0 : row_of ([]) (codes "P") (archetype (codes "A") ([]) (((Some (placed_name (codes "l"))), (assign 0 ((assignment (codes "v") ([]) (binary infixs.Add (name (codes "v")) (number (pos 1)))) ∷ []))) ∷ [])) ((binding (codes "v") (targets.Global (codes "x") extents.Whole None)) ∷ []) ((codes "x") ∷ []) ((Given (codes "defaultInitValue") (Model (codes "defaultInitValue"))) ∷ []) (Int (pos 1)) (((codes "x"), (integer (pos 0))) ∷ ((codes "pc"), (function (pairs (((integer (pos 1)), (string (codes "P_l"))) ∷ [])))) ∷ []) (759 ∷ 367 ∷ 814 ∷ 707 ∷ 965 ∷ 861 ∷ [])
    ≡ record { trace = (((codes "x"), None) ∷ ((codes "x"), None) ∷ []); end = (Next (((codes "x"), (integer (pos 1))) ∷ ((codes "pc"), (function (pairs (((integer (pos 1)), (string (codes "Done"))) ∷ [])))) ∷ []) ([])) }
row_one_0 = refl

row_one_1 : row_of ([]) (codes "P") (archetype (codes "A") ([]) (((Some (placed_name (codes "l"))), (assign 0 ((assignment (codes "v") ([]) (binary infixs.Add (name (codes "v")) (number (pos 1)))) ∷ []))) ∷ [])) ((binding (codes "v") (targets.Global (codes "x") extents.Whole None)) ∷ []) ((codes "x") ∷ []) ((Given (codes "defaultInitValue") (Model (codes "defaultInitValue"))) ∷ []) (Int (pos 1)) (((codes "x"), (integer (negsuc 1))) ∷ ((codes "pc"), (function (pairs (((integer (pos 1)), (string (codes "P_l"))) ∷ [])))) ∷ []) (860 ∷ 476 ∷ 794 ∷ 965 ∷ 255 ∷ 664 ∷ [])
    ≡ record { trace = (((codes "x"), None) ∷ ((codes "x"), None) ∷ []); end = (Next (((codes "x"), (integer (negsuc 0))) ∷ ((codes "pc"), (function (pairs (((integer (pos 1)), (string (codes "Done"))) ∷ [])))) ∷ []) ([])) }
row_one_1 = refl

row_swap_mapped_0 : row_of ([]) (codes "P") (archetype (codes "A") ([]) (((Some (placed_name (codes "l"))), (assign 0 ((assignment (codes "net") ((step.Index (number (pos 1))) ∷ []) (index (name (codes "net")) (trees ((number (pos 2)) ∷ [])))) ∷ (assignment (codes "net") ((step.Index (number (pos 2))) ∷ []) (index (name (codes "net")) (trees ((number (pos 1)) ∷ [])))) ∷ []))) ∷ [])) ((binding (codes "net") (targets.Global (codes "net") extents.Element (Some (Macro (mapping (codes "ReliableFIFOLink") ((None, (await_that 0 (binary infixs.Greater (call (codes "Len") (trees ((name (codes "$variable")) ∷ []))) (number (pos 0))))) ∷ (None, (with_in 0 ((with_name (codes "msg") (Equals (call (codes "Head") (trees ((name (codes "$variable")) ∷ []))))) ∷ []) (block 0 (labeled ((None, (assign 0 ((assignment (codes "$variable") ([]) (call (codes "Tail") (trees ((name (codes "$variable")) ∷ [])))) ∷ []))) ∷ (None, (yield_as 0 (name (codes "msg")))) ∷ []))))) ∷ []) ((None, (await_that 0 (binary infixs.Less (call (codes "Len") (trees ((name (codes "$variable")) ∷ []))) (name (codes "BUFFER_SIZE"))))) ∷ (None, (yield_as 0 (call (codes "Append") (trees ((name (codes "$variable")) ∷ (name (codes "$value")) ∷ []))))) ∷ [])))))) ∷ []) ((codes "net") ∷ []) ((Given (codes "BUFFER_SIZE") (Int (pos 2))) ∷ (Given (codes "defaultInitValue") (Model (codes "defaultInitValue"))) ∷ []) (Int (pos 1)) (((codes "net"), (function (pairs (((integer (pos 1)), (function (pairs (((integer (pos 1)), (integer (pos 1))) ∷ [])))) ∷ ((integer (pos 2)), (function (pairs (((integer (pos 1)), (integer (pos 2))) ∷ [])))) ∷ [])))) ∷ ((codes "pc"), (function (pairs (((integer (pos 1)), (string (codes "P_l"))) ∷ [])))) ∷ []) (759 ∷ 367 ∷ 814 ∷ 707 ∷ 965 ∷ 861 ∷ [])
    ≡ record { trace = (((codes "net"), (Some (integer (pos 2)))) ∷ ((codes "net"), (Some (integer (pos 1)))) ∷ ((codes "net"), (Some (integer (pos 1)))) ∷ ((codes "net"), (Some (integer (pos 2)))) ∷ []); end = (Next (((codes "net"), (function (pairs (((integer (pos 1)), (function (pairs (((integer (pos 1)), (integer (pos 2))) ∷ [])))) ∷ ((integer (pos 2)), (function (pairs (((integer (pos 1)), (integer (pos 1))) ∷ [])))) ∷ [])))) ∷ ((codes "pc"), (function (pairs (((integer (pos 1)), (string (codes "Done"))) ∷ [])))) ∷ []) ([])) }
row_swap_mapped_0 = refl

row_swap_mapped_1 : row_of ([]) (codes "P") (archetype (codes "A") ([]) (((Some (placed_name (codes "l"))), (assign 0 ((assignment (codes "net") ((step.Index (number (pos 1))) ∷ []) (index (name (codes "net")) (trees ((number (pos 2)) ∷ [])))) ∷ (assignment (codes "net") ((step.Index (number (pos 2))) ∷ []) (index (name (codes "net")) (trees ((number (pos 1)) ∷ [])))) ∷ []))) ∷ [])) ((binding (codes "net") (targets.Global (codes "net") extents.Element (Some (Macro (mapping (codes "ReliableFIFOLink") ((None, (await_that 0 (binary infixs.Greater (call (codes "Len") (trees ((name (codes "$variable")) ∷ []))) (number (pos 0))))) ∷ (None, (with_in 0 ((with_name (codes "msg") (Equals (call (codes "Head") (trees ((name (codes "$variable")) ∷ []))))) ∷ []) (block 0 (labeled ((None, (assign 0 ((assignment (codes "$variable") ([]) (call (codes "Tail") (trees ((name (codes "$variable")) ∷ [])))) ∷ []))) ∷ (None, (yield_as 0 (name (codes "msg")))) ∷ []))))) ∷ []) ((None, (await_that 0 (binary infixs.Less (call (codes "Len") (trees ((name (codes "$variable")) ∷ []))) (name (codes "BUFFER_SIZE"))))) ∷ (None, (yield_as 0 (call (codes "Append") (trees ((name (codes "$variable")) ∷ (name (codes "$value")) ∷ []))))) ∷ [])))))) ∷ []) ((codes "net") ∷ []) ((Given (codes "BUFFER_SIZE") (Int (pos 2))) ∷ (Given (codes "defaultInitValue") (Model (codes "defaultInitValue"))) ∷ []) (Int (pos 1)) (((codes "net"), (function (pairs (((integer (pos 1)), (function (pairs (((integer (pos 1)), (integer (pos 1))) ∷ [])))) ∷ ((integer (pos 2)), (function (pairs (((integer (pos 1)), (integer (pos 2))) ∷ [])))) ∷ [])))) ∷ ((codes "pc"), (function (pairs (((integer (pos 1)), (string (codes "P_l"))) ∷ [])))) ∷ []) (860 ∷ 476 ∷ 794 ∷ 965 ∷ 255 ∷ 664 ∷ [])
    ≡ record { trace = (((codes "net"), (Some (integer (pos 2)))) ∷ ((codes "net"), (Some (integer (pos 1)))) ∷ ((codes "net"), (Some (integer (pos 1)))) ∷ ((codes "net"), (Some (integer (pos 2)))) ∷ []); end = (Next (((codes "net"), (function (pairs (((integer (pos 1)), (function (pairs (((integer (pos 1)), (integer (pos 2))) ∷ [])))) ∷ ((integer (pos 2)), (function (pairs (((integer (pos 1)), (integer (pos 1))) ∷ [])))) ∷ [])))) ∷ ((codes "pc"), (function (pairs (((integer (pos 1)), (string (codes "Done"))) ∷ [])))) ∷ []) ([])) }
row_swap_mapped_1 = refl

row_twopops_0 : row_of ([]) (codes "P") (archetype (codes "A") ((codes "v") ∷ []) (((Some (placed_name (codes "l"))), (assign 0 ((assignment (codes "v") ([]) (binary infixs.Add (index (name (codes "net")) (trees ((number (pos 1)) ∷ []))) (index (name (codes "net")) (trees ((number (pos 1)) ∷ []))))) ∷ []))) ∷ (None, (assign 0 ((assignment (codes "net") ((step.Index (number (pos 1))) ∷ []) (name (codes "v"))) ∷ []))) ∷ [])) ((binding (codes "net") (targets.Global (codes "net") extents.Element (Some (Macro (mapping (codes "ReliableFIFOLink") ((None, (await_that 0 (binary infixs.Greater (call (codes "Len") (trees ((name (codes "$variable")) ∷ []))) (number (pos 0))))) ∷ (None, (with_in 0 ((with_name (codes "msg") (Equals (call (codes "Head") (trees ((name (codes "$variable")) ∷ []))))) ∷ []) (block 0 (labeled ((None, (assign 0 ((assignment (codes "$variable") ([]) (call (codes "Tail") (trees ((name (codes "$variable")) ∷ [])))) ∷ []))) ∷ (None, (yield_as 0 (name (codes "msg")))) ∷ []))))) ∷ []) ((None, (await_that 0 (binary infixs.Less (call (codes "Len") (trees ((name (codes "$variable")) ∷ []))) (name (codes "BUFFER_SIZE"))))) ∷ (None, (yield_as 0 (call (codes "Append") (trees ((name (codes "$variable")) ∷ (name (codes "$value")) ∷ []))))) ∷ [])))))) ∷ []) ((codes "net") ∷ []) ((Given (codes "BUFFER_SIZE") (Int (pos 2))) ∷ (Given (codes "defaultInitValue") (Model (codes "defaultInitValue"))) ∷ []) (Int (pos 1)) (((codes "net"), (function (pairs (((integer (pos 1)), (function (pairs (((integer (pos 1)), (integer (pos 3))) ∷ ((integer (pos 2)), (integer (pos 4))) ∷ [])))) ∷ [])))) ∷ ((codes "pc"), (function (pairs (((integer (pos 1)), (string (codes "P_l"))) ∷ [])))) ∷ ((codes "P_v"), (function (pairs (((integer (pos 1)), (integer (pos 0))) ∷ [])))) ∷ []) (759 ∷ 367 ∷ 814 ∷ 707 ∷ 965 ∷ 861 ∷ [])
    ≡ record { trace = (((codes "net"), (Some (integer (pos 1)))) ∷ ((codes "net"), (Some (integer (pos 1)))) ∷ ((codes "net"), (Some (integer (pos 1)))) ∷ []); end = (Next (((codes "net"), (function (pairs (((integer (pos 1)), (function (pairs (((integer (pos 1)), (integer (pos 7))) ∷ [])))) ∷ [])))) ∷ ((codes "pc"), (function (pairs (((integer (pos 1)), (string (codes "Done"))) ∷ [])))) ∷ ((codes "P_v"), (function (pairs (((integer (pos 1)), (integer (pos 7))) ∷ [])))) ∷ []) ([])) }
row_twopops_0 = refl

row_twopops_1 : row_of ([]) (codes "P") (archetype (codes "A") ((codes "v") ∷ []) (((Some (placed_name (codes "l"))), (assign 0 ((assignment (codes "v") ([]) (binary infixs.Add (index (name (codes "net")) (trees ((number (pos 1)) ∷ []))) (index (name (codes "net")) (trees ((number (pos 1)) ∷ []))))) ∷ []))) ∷ (None, (assign 0 ((assignment (codes "net") ((step.Index (number (pos 1))) ∷ []) (name (codes "v"))) ∷ []))) ∷ [])) ((binding (codes "net") (targets.Global (codes "net") extents.Element (Some (Macro (mapping (codes "ReliableFIFOLink") ((None, (await_that 0 (binary infixs.Greater (call (codes "Len") (trees ((name (codes "$variable")) ∷ []))) (number (pos 0))))) ∷ (None, (with_in 0 ((with_name (codes "msg") (Equals (call (codes "Head") (trees ((name (codes "$variable")) ∷ []))))) ∷ []) (block 0 (labeled ((None, (assign 0 ((assignment (codes "$variable") ([]) (call (codes "Tail") (trees ((name (codes "$variable")) ∷ [])))) ∷ []))) ∷ (None, (yield_as 0 (name (codes "msg")))) ∷ []))))) ∷ []) ((None, (await_that 0 (binary infixs.Less (call (codes "Len") (trees ((name (codes "$variable")) ∷ []))) (name (codes "BUFFER_SIZE"))))) ∷ (None, (yield_as 0 (call (codes "Append") (trees ((name (codes "$variable")) ∷ (name (codes "$value")) ∷ []))))) ∷ [])))))) ∷ []) ((codes "net") ∷ []) ((Given (codes "BUFFER_SIZE") (Int (pos 2))) ∷ (Given (codes "defaultInitValue") (Model (codes "defaultInitValue"))) ∷ []) (Int (pos 1)) (((codes "net"), (function (pairs (((integer (pos 1)), (function (pairs (((integer (pos 1)), (integer (pos 3))) ∷ ((integer (pos 2)), (integer (pos 4))) ∷ [])))) ∷ [])))) ∷ ((codes "pc"), (function (pairs (((integer (pos 1)), (string (codes "P_l"))) ∷ [])))) ∷ ((codes "P_v"), (function (pairs (((integer (pos 1)), (integer (pos 0))) ∷ [])))) ∷ []) (860 ∷ 476 ∷ 794 ∷ 965 ∷ 255 ∷ 664 ∷ [])
    ≡ record { trace = (((codes "net"), (Some (integer (pos 1)))) ∷ ((codes "net"), (Some (integer (pos 1)))) ∷ ((codes "net"), (Some (integer (pos 1)))) ∷ []); end = (Next (((codes "net"), (function (pairs (((integer (pos 1)), (function (pairs (((integer (pos 1)), (integer (pos 7))) ∷ [])))) ∷ [])))) ∷ ((codes "pc"), (function (pairs (((integer (pos 1)), (string (codes "Done"))) ∷ [])))) ∷ ((codes "P_v"), (function (pairs (((integer (pos 1)), (integer (pos 7))) ∷ [])))) ∷ []) ([])) }
row_twopops_1 = refl

row_whole_mapped_0 : row_of ([]) (codes "P") (archetype (codes "A") ([]) (((Some (placed_name (codes "l"))), (assign 0 ((assignment (codes "v") ([]) (number (pos 7))) ∷ []))) ∷ [])) ((binding (codes "v") (targets.Global (codes "x") extents.Whole (Some (Macro (mapping (codes "Log") ((None, (yield_as 0 (name (codes "$variable")))) ∷ []) ((None, (yield_as 0 (call (codes "Append") (trees ((name (codes "$variable")) ∷ (name (codes "$value")) ∷ []))))) ∷ [])))))) ∷ []) ((codes "x") ∷ []) ((Given (codes "defaultInitValue") (Model (codes "defaultInitValue"))) ∷ []) (Int (pos 1)) (((codes "x"), (function (pairs ([])))) ∷ ((codes "pc"), (function (pairs (((integer (pos 1)), (string (codes "P_l"))) ∷ [])))) ∷ []) (759 ∷ 367 ∷ 814 ∷ 707 ∷ 965 ∷ 861 ∷ [])
    ≡ record { trace = (((codes "x"), None) ∷ []); end = (Next (((codes "x"), (function (pairs (((integer (pos 1)), (integer (pos 7))) ∷ [])))) ∷ ((codes "pc"), (function (pairs (((integer (pos 1)), (string (codes "Done"))) ∷ [])))) ∷ []) ([])) }
row_whole_mapped_0 = refl

row_whole_mapped_1 : row_of ([]) (codes "P") (archetype (codes "A") ([]) (((Some (placed_name (codes "l"))), (assign 0 ((assignment (codes "v") ([]) (number (pos 7))) ∷ []))) ∷ [])) ((binding (codes "v") (targets.Global (codes "x") extents.Whole (Some (Macro (mapping (codes "Log") ((None, (yield_as 0 (name (codes "$variable")))) ∷ []) ((None, (yield_as 0 (call (codes "Append") (trees ((name (codes "$variable")) ∷ (name (codes "$value")) ∷ []))))) ∷ [])))))) ∷ []) ((codes "x") ∷ []) ((Given (codes "defaultInitValue") (Model (codes "defaultInitValue"))) ∷ []) (Int (pos 1)) (((codes "x"), (function (pairs ([])))) ∷ ((codes "pc"), (function (pairs (((integer (pos 1)), (string (codes "P_l"))) ∷ [])))) ∷ []) (860 ∷ 476 ∷ 794 ∷ 965 ∷ 255 ∷ 664 ∷ [])
    ≡ record { trace = (((codes "x"), None) ∷ []); end = (Next (((codes "x"), (function (pairs (((integer (pos 1)), (integer (pos 7))) ∷ [])))) ∷ ((codes "pc"), (function (pairs (((integer (pos 1)), (string (codes "Done"))) ∷ [])))) ∷ []) ([])) }
row_whole_mapped_1 = refl

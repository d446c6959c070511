-- The modules of five specifications, line by line as an independent reading of the rules wrote them. The trees stand here with
-- the names that the expansion makes written out, and a number is a name of its digits, since what digits a number has is not
-- computed here.
use Rattle.std.specs.Prelude.{◌≡◌, List, [], ◌∷◌, map, codes, Option, Some, None, refl}
use Rattle.pgo_base.specs.declared.expr.Infix.TheVariants as infixs
use Rattle.pgo_base.specs.Tree.{Tree, name, text, binary, tuple, set_of, fun_of, record_of, except, index, field, call, trees, bound, named, paths}
use Rattle.pgo_base.specs.Lookup.{Name}
use Rattle.pgo_model.specs.ModuleText.{Line, line, module_lines}
use Rattle.pgo_model.specs.Written.{self_name}
use Rattle.pgo_syntax.specs.declared.binding.Origin.{Origin}
use Rattle.pgo_syntax.specs.declared.binding.Origin.TheVariants.{Equals, In as InSet}
use Rattle.pgo_syntax.specs.declared.declaration.Declaration.{Declaration}
use Rattle.pgo_syntax.specs.declared.declaration.Definition.{Definition}
use Rattle.pgo_syntax.specs.declared.name.PlacedName.{PlacedName}
use Rattle.pgo_sections.specs.Expansion.{Expansion, With, Await, Assert, Print, If, Either, End, no_expansions, more_expansions}
use Rattle.pgo_pluscal.specs.declared.pluscal.ExpandedProcess.{ExpandedProcess}
use Rattle.pgo_pluscal.specs.declared.pluscal.Header.{Header}
use Rattle.pgo_pluscal.specs.declared.pluscal.PlusCal.{PlusCal}
use Rattle.pgo_translate.specs.Items.{only}
use Rattle.pgo_translate.specs.ModuleOf.{module_with}

abbrev placed_name : Name → PlacedName
placed_name x = record { name = x; place = 0 }

abbrev pub declaration : Name → Option Origin → Declaration
declaration x o = record { name = placed_name x; initial = o }

abbrev definition : Name → Tree → Definition
definition x e = record { name = placed_name x; params = []; body = e }

-- a module with this name and these constants, and no definition before its algorithm
abbrev pub heading : Name → List Name → Header
heading x cs = record { name = x; constants = map placed_name cs; definitions = [] }

abbrev pub process : Name → Tree → List Declaration → List (Name × Expansion) → ExpandedProcess
process x ids ds ts = record { name = x; ids = ids; variables = ds; trees = ts }

abbrev pub expanded : Header → Name → List Declaration → Option (List Definition) → List ExpandedProcess → PlusCal
expanded h x gs ds ps = record { header = h; name = x; globals = gs; define = ds; processes = ps }

-- the counter
abbrev one_lines : List Line
one_lines =
    line (codes "---- MODULE Counter ----") ∷
    line (codes "EXTENDS Integers, Sequences, FiniteSets, TLC") ∷
    line (codes "CONSTANTS defaultInitValue") ∷
    line (codes "VARIABLES x, pc") ∷
    line (codes "vars == <<x, pc>>") ∷
    line (codes "ProcSet == {1}") ∷
    line (codes "Init ==") ∷
    line (codes "  /\\ x = 0") ∷
    line (codes "  /\\ pc = [self \\in ProcSet |-> (CASE (self \\in {1}) -> \"P_l\")]") ∷
    line (codes "P_l(self) ==") ∷
    line (codes "  /\\ pc[self] = \"P_l\"") ∷
    line (codes "  /\\ \\E val__1 \\in {(x + 1)} : ((x' = val__1) /\\ (pc' = [pc EXCEPT ![self] = \"Done\"]))") ∷
    line (codes "P(self) == P_l(self)") ∷
    line (codes "Terminating ==") ∷
    line (codes "  /\\ \\A self \\in ProcSet : (pc[self] = \"Done\")") ∷
    line (codes "  /\\ UNCHANGED <<x, pc>>") ∷
    line (codes "Next == (\\E self \\in {1} : P(self)) \\/ Terminating") ∷
    line (codes "Spec == Init /\\ [][Next]_vars") ∷
    line (codes "====") ∷ []

pub one : module_lines (module_with (expanded (heading (codes "Counter") ([])) (codes "Counter") (declaration (codes "x") (Some (Equals (name (codes "0")))) ∷ []) (None) (process (codes "P") (only (name (codes "1"))) ([]) ((
  (codes "P_l"),
  (With (codes "val__1") (binary infixs.Add (name (codes "x")) (name (codes "1")))
      (End (((codes "x"), (codes "val__1")) ∷ []) (codes "Done"))),
) ∷ []) ∷ []))) ≡ one_lines
one = refl

-- an `either` of which an arm has no value
abbrev either_novalue_lines : List Line
either_novalue_lines =
    line (codes "---- MODULE Counter ----") ∷
    line (codes "EXTENDS Integers, Sequences, FiniteSets, TLC") ∷
    line (codes "CONSTANTS defaultInitValue") ∷
    line (codes "VARIABLES x, pc") ∷
    line (codes "vars == <<x, pc>>") ∷
    line (codes "ProcSet == {1}") ∷
    line (codes "Init ==") ∷
    line (codes "  /\\ x = 0") ∷
    line (codes "  /\\ pc = [self \\in ProcSet |-> (CASE (self \\in {1}) -> \"P_l\")]") ∷
    line (codes "P_l(self) ==") ∷
    line (codes "  /\\ pc[self] = \"P_l\"") ∷
    line (codes "  /\\ (\\E val__1 \\in {1} : ((x' = val__1) /\\ (pc' = [pc EXCEPT ![self] = \"Done\"]))) \\/ (\\E val__1 \\in {(1 \\div 0)} : ((x' = val__1) /\\ (pc' = [pc EXCEPT ![self] = \"Done\"])))") ∷
    line (codes "P(self) == P_l(self)") ∷
    line (codes "Terminating ==") ∷
    line (codes "  /\\ \\A self \\in ProcSet : (pc[self] = \"Done\")") ∷
    line (codes "  /\\ UNCHANGED <<x, pc>>") ∷
    line (codes "Next == (\\E self \\in {1} : P(self)) \\/ Terminating") ∷
    line (codes "Spec == Init /\\ [][Next]_vars") ∷
    line (codes "====") ∷ []

either_novalue : module_lines (module_with (expanded (heading (codes "Counter") ([])) (codes "Counter") (declaration (codes "x") (Some (Equals (name (codes "0")))) ∷ []) (None) (process (codes "P") (only (name (codes "1"))) ([]) ((
  (codes "P_l"),
  (Either (more_expansions (With (codes "val__1") (name (codes "1"))
      (End (((codes "x"), (codes "val__1")) ∷ []) (codes "Done")))
      (more_expansions (With (codes "val__1") (binary infixs.Divide (name (codes "1")) (name (codes "0")))
      (End (((codes "x"), (codes "val__1")) ∷ []) (codes "Done")))
      no_expansions))),
) ∷ []) ∷ []))) ≡ either_novalue_lines
either_novalue = refl

-- a loop, a print and a set of starts
abbrev loop_lines : List Line
loop_lines =
    line (codes "---- MODULE Counter ----") ∷
    line (codes "EXTENDS Integers, Sequences, FiniteSets, TLC") ∷
    line (codes "CONSTANTS defaultInitValue") ∷
    line (codes "VARIABLES x, pc, P_n") ∷
    line (codes "vars == <<x, pc, P_n>>") ∷
    line (codes "ProcSet == {1}") ∷
    line (codes "Init ==") ∷
    line (codes "  /\\ x \\in {5, 3}") ∷
    line (codes "  /\\ pc = [self \\in ProcSet |-> (CASE (self \\in {1}) -> \"P_l\")]") ∷
    line (codes "  /\\ P_n = [self \\in {1} |-> 0]") ∷
    line (codes "P_l(self) ==") ∷
    line (codes "  /\\ pc[self] = \"P_l\"") ∷
    line (codes "  /\\ IF (P_n[self] < 2) THEN (\\E val__1 \\in {(P_n[self] + 1)} : (((pc' = [pc EXCEPT ![self] = \"P_m\"]) /\\ (P_n' = [P_n EXCEPT ![self] = val__1])) /\\ UNCHANGED <<x>>)) ELSE ((PrintT(x) /\\ (pc' = [pc EXCEPT ![self] = \"Done\"])) /\\ UNCHANGED <<x, P_n>>)") ∷
    line (codes "P_m(self) ==") ∷
    line (codes "  /\\ pc[self] = \"P_m\"") ∷
    line (codes "  /\\ \\E val__1 \\in {(x + P_n[self])} : (((x' = val__1) /\\ (pc' = [pc EXCEPT ![self] = \"P_l\"])) /\\ UNCHANGED <<P_n>>)") ∷
    line (codes "P(self) == P_l(self) \\/ P_m(self)") ∷
    line (codes "Terminating ==") ∷
    line (codes "  /\\ \\A self \\in ProcSet : (pc[self] = \"Done\")") ∷
    line (codes "  /\\ UNCHANGED <<x, pc, P_n>>") ∷
    line (codes "Next == (\\E self \\in {1} : P(self)) \\/ Terminating") ∷
    line (codes "Spec == Init /\\ [][Next]_vars") ∷
    line (codes "====") ∷ []

loop : module_lines (module_with (expanded (heading (codes "Counter") ([])) (codes "Counter") (declaration (codes "x") (Some (InSet (set_of (trees (name (codes "5") ∷ name (codes "3") ∷ []))))) ∷ []) (None) (process (codes "P") (only (name (codes "1"))) (declaration (codes "P_n") (Some (Equals (name (codes "0")))) ∷ []) ((
  (codes "P_l"),
  (If (binary infixs.Less (index (name (codes "P_n")) (trees (name self_name ∷ []))) (name (codes "2")))
      (With (codes "val__1") (binary infixs.Add (index (name (codes "P_n")) (trees (name self_name ∷ []))) (name (codes "1")))
      (End (((codes "P_n"), (codes "val__1")) ∷ []) (codes "P_m")))
      (Print (name (codes "x"))
      (End ([]) (codes "Done")))),
) ∷ (
  (codes "P_m"),
  (With (codes "val__1") (binary infixs.Add (name (codes "x")) (index (name (codes "P_n")) (trees (name self_name ∷ []))))
      (End (((codes "x"), (codes "val__1")) ∷ []) (codes "P_l"))),
) ∷ []) ∷ []))) ≡ loop_lines
loop = refl

-- two messages in one section
abbrev twopops_lines : List Line
twopops_lines =
    line (codes "---- MODULE Counter ----") ∷
    line (codes "EXTENDS Integers, Sequences, FiniteSets, TLC") ∷
    line (codes "CONSTANTS BUFFER_SIZE, defaultInitValue") ∷
    line (codes "VARIABLES net, pc, P_v") ∷
    line (codes "vars == <<net, pc, P_v>>") ∷
    line (codes "ProcSet == {1}") ∷
    line (codes "Init ==") ∷
    line (codes "  /\\ net = [i \\in {1} |-> <<3, 4>>]") ∷
    line (codes "  /\\ pc = [self \\in ProcSet |-> (CASE (self \\in {1}) -> \"P_l\")]") ∷
    line (codes "  /\\ P_v = [self \\in {1} |-> 0]") ∷
    line (codes "P_l(self) ==") ∷
    line (codes "  /\\ pc[self] = \"P_l\"") ∷
    line (codes "  /\\ \\E at__1 \\in {1} : (\\E old__2 \\in {net[at__1]} : ((Len(old__2) > 0) /\\ (\\E msg__3 \\in {Head(old__2)} : (\\E old__4 \\in {Tail(old__2)} : (\\E val__5 \\in {msg__3} : (\\E net__6 \\in {[net EXCEPT ![at__1] = old__4]} : (\\E at__7 \\in {1} : (\\E old__8 \\in {net__6[at__7]} : ((Len(old__8) > 0) /\\ (\\E msg__9 \\in {Head(old__8)} : (\\E old__10 \\in {Tail(old__8)} : (\\E val__11 \\in {msg__9} : (\\E net__12 \\in {[net__6 EXCEPT ![at__7] = old__10]} : (\\E val__13 \\in {(val__5 + val__11)} : (\\E at__14 \\in {1} : (\\E val__15 \\in {val__13} : (\\E old__16 \\in {net__12[at__14]} : ((Len(old__16) < BUFFER_SIZE) /\\ (\\E new__17 \\in {Append(old__16, val__15)} : (\\E net__18 \\in {[net__12 EXCEPT ![at__14] = new__17]} : (((net' = net__18) /\\ (pc' = [pc EXCEPT ![self] = \"Done\"])) /\\ (P_v' = [P_v EXCEPT ![self] = val__13]))))))))))))))))))))))") ∷
    line (codes "P(self) == P_l(self)") ∷
    line (codes "Terminating ==") ∷
    line (codes "  /\\ \\A self \\in ProcSet : (pc[self] = \"Done\")") ∷
    line (codes "  /\\ UNCHANGED <<net, pc, P_v>>") ∷
    line (codes "Next == (\\E self \\in {1} : P(self)) \\/ Terminating") ∷
    line (codes "Spec == Init /\\ [][Next]_vars") ∷
    line (codes "====") ∷ []

twopops : module_lines (module_with (expanded (heading (codes "Counter") (codes "BUFFER_SIZE" ∷ [])) (codes "Counter") (declaration (codes "net") (Some (Equals (fun_of (bound ((codes "i" ∷ [], only (name (codes "1"))) ∷ [])) (tuple (trees (name (codes "3") ∷ name (codes "4") ∷ [])))))) ∷ []) (None) (process (codes "P") (only (name (codes "1"))) (declaration (codes "P_v") (Some (Equals (name (codes "0")))) ∷ []) ((
  (codes "P_l"),
  (With (codes "at__1") (name (codes "1"))
      (With (codes "old__2") (index (name (codes "net")) (trees ((name (codes "at__1")) ∷ [])))
      (Await (binary infixs.Greater (call (codes "Len") (trees ((name (codes "old__2")) ∷ []))) (name (codes "0")))
      (With (codes "msg__3") (call (codes "Head") (trees ((name (codes "old__2")) ∷ [])))
      (With (codes "old__4") (call (codes "Tail") (trees ((name (codes "old__2")) ∷ [])))
      (With (codes "val__5") (name (codes "msg__3"))
      (With (codes "net__6") (except (name (codes "net")) (paths ((((name (codes "at__1")) ∷ []), (name (codes "old__4"))) ∷ [])))
      (With (codes "at__7") (name (codes "1"))
      (With (codes "old__8") (index (name (codes "net__6")) (trees ((name (codes "at__7")) ∷ [])))
      (Await (binary infixs.Greater (call (codes "Len") (trees ((name (codes "old__8")) ∷ []))) (name (codes "0")))
      (With (codes "msg__9") (call (codes "Head") (trees ((name (codes "old__8")) ∷ [])))
      (With (codes "old__10") (call (codes "Tail") (trees ((name (codes "old__8")) ∷ [])))
      (With (codes "val__11") (name (codes "msg__9"))
      (With (codes "net__12") (except (name (codes "net__6")) (paths ((((name (codes "at__7")) ∷ []), (name (codes "old__10"))) ∷ [])))
      (With (codes "val__13") (binary infixs.Add (name (codes "val__5")) (name (codes "val__11")))
      (With (codes "at__14") (name (codes "1"))
      (With (codes "val__15") (name (codes "val__13"))
      (With (codes "old__16") (index (name (codes "net__12")) (trees ((name (codes "at__14")) ∷ [])))
      (Await (binary infixs.Less (call (codes "Len") (trees ((name (codes "old__16")) ∷ []))) (name (codes "BUFFER_SIZE")))
      (With (codes "new__17") (call (codes "Append") (trees ((name (codes "old__16")) ∷ (name (codes "val__15")) ∷ [])))
      (With (codes "net__18") (except (name (codes "net__12")) (paths ((((name (codes "at__14")) ∷ []), (name (codes "new__17"))) ∷ [])))
      (End (((codes "net"), (codes "net__18")) ∷ ((codes "P_v"), (codes "val__13")) ∷ []) (codes "Done"))))))))))))))))))))))),
) ∷ []) ∷ []))) ≡ twopops_lines
twopops = refl

-- the lock server, with two processes and definitions
abbrev lock_server_lines : List Line
lock_server_lines =
    line (codes "---- MODULE LockServer ----") ∷
    line (codes "EXTENDS Integers, Sequences, FiniteSets, TLC") ∷
    line (codes "CONSTANTS NumClients, BUFFER_SIZE, defaultInitValue") ∷
    line (codes "ServerID == 0") ∷
    line (codes "ClientSet == 1 .. NumClients") ∷
    line (codes "NodeSet == 0 .. NumClients") ∷
    line (codes "VARIABLES net, pc, Server_q, Server_count, Server_seen, Server_msg") ∷
    line (codes "vars == <<net, pc, Server_q, Server_count, Server_seen, Server_msg>>") ∷
    line (codes "ProcSet == {ServerID} \\cup ClientSet") ∷
    line (codes "Init ==") ∷
    line (codes "  /\\ net = [i \\in NodeSet |-> <<>>]") ∷
    line (codes "  /\\ pc = [self \\in ProcSet |-> (CASE (self \\in {ServerID}) -> \"Server_loop\" [] (self \\in ClientSet) -> \"Client_req\")]") ∷
    line (codes "  /\\ Server_q = [self \\in {ServerID} |-> <<>>]") ∷
    line (codes "  /\\ Server_count = [self \\in {ServerID} |-> 0]") ∷
    line (codes "  /\\ Server_seen = [self \\in {ServerID} |-> 0]") ∷
    line (codes "  /\\ Server_msg = [self \\in {ServerID} |-> defaultInitValue]") ∷
    line (codes "Server_loop(self) ==") ∷
    line (codes "  /\\ pc[self] = \"Server_loop\"") ∷
    line (codes "  /\\ IF (Server_count[self] < (2 * NumClients)) THEN (\\E at__1 \\in {self} : (\\E old__2 \\in {net[at__1]} : ((Len(old__2) > 0) /\\ (\\E msg__3 \\in {Head(old__2)} : (\\E old__4 \\in {Tail(old__2)} : (\\E val__5 \\in {msg__3} : (\\E net__6 \\in {[net EXCEPT ![at__1] = old__4]} : (\\E val__7 \\in {val__5} : (\\E val__8 \\in {(Server_count[self] + 1)} : (((((net' = net__6) /\\ (pc' = [pc EXCEPT ![self] = \"Server_handle\"])) /\\ (Server_count' = [Server_count EXCEPT ![self] = val__8])) /\\ (Server_msg' = [Server_msg EXCEPT ![self] = val__7])) /\\ UNCHANGED <<Server_q, Server_seen>>)))))))))) ELSE ((pc' = [pc EXCEPT ![self] = \"Done\"]) /\\ UNCHANGED <<net, Server_q, Server_count, Server_seen, Server_msg>>)") ∷
    line (codes "Server_handle(self) ==") ∷
    line (codes "  /\\ pc[self] = \"Server_handle\"") ∷
    line (codes "  /\\ \\E at__1 \\in {self} : (\\E old__2 \\in {net[at__1]} : (\\E val__3 \\in {Len(old__2)} : (\\E val__4 \\in {val__3} : (IF (Server_msg[self].type = \"lock\") THEN (\\E val__5 \\in {Append(Server_q[self], Server_msg[self].from)} : (IF (Len(val__5) = 1) THEN (\\E at__6 \\in {Server_msg[self].from} : (\\E val__7 \\in {[from |-> self, type |-> \"grant\"]} : (\\E old__8 \\in {net[at__6]} : ((Len(old__8) < BUFFER_SIZE) /\\ (\\E new__9 \\in {Append(old__8, val__7)} : (\\E net__10 \\in {[net EXCEPT ![at__6] = new__9]} : (((((net' = net__10) /\\ (pc' = [pc EXCEPT ![self] = \"Server_loop\"])) /\\ (Server_q' = [Server_q EXCEPT ![self] = val__5])) /\\ (Server_seen' = [Server_seen EXCEPT ![self] = val__4])) /\\ UNCHANGED <<Server_count, Server_msg>>))))))) ELSE ((((pc' = [pc EXCEPT ![self] = \"Server_loop\"]) /\\ (Server_q' = [Server_q EXCEPT ![self] = val__5])) /\\ (Server_seen' = [Server_seen EXCEPT ![self] = val__4])) /\\ UNCHANGED <<net, Server_count, Server_msg>>))) ELSE (\\E val__5 \\in {Tail(Server_q[self])} : (IF (val__5 # <<>>) THEN (\\E at__6 \\in {Head(val__5)} : (\\E val__7 \\in {[from |-> self, type |-> \"grant\"]} : (\\E old__8 \\in {net[at__6]} : ((Len(old__8) < BUFFER_SIZE) /\\ (\\E new__9 \\in {Append(old__8, val__7)} : (\\E net__10 \\in {[net EXCEPT ![at__6] = new__9]} : (((((net' = net__10) /\\ (pc' = [pc EXCEPT ![self] = \"Server_loop\"])) /\\ (Server_q' = [Server_q EXCEPT ![self] = val__5])) /\\ (Server_seen' = [Server_seen EXCEPT ![self] = val__4])) /\\ UNCHANGED <<Server_count, Server_msg>>))))))) ELSE ((((pc' = [pc EXCEPT ![self] = \"Server_loop\"]) /\\ (Server_q' = [Server_q EXCEPT ![self] = val__5])) /\\ (Server_seen' = [Server_seen EXCEPT ![self] = val__4])) /\\ UNCHANGED <<net, Server_count, Server_msg>>)))))))") ∷
    line (codes "Server(self) == Server_loop(self) \\/ Server_handle(self)") ∷
    line (codes "Client_req(self) ==") ∷
    line (codes "  /\\ pc[self] = \"Client_req\"") ∷
    line (codes "  /\\ \\E at__1 \\in {ServerID} : (\\E val__2 \\in {[from |-> self, type |-> \"lock\"]} : (\\E old__3 \\in {net[at__1]} : ((Len(old__3) < BUFFER_SIZE) /\\ (\\E new__4 \\in {Append(old__3, val__2)} : (\\E net__5 \\in {[net EXCEPT ![at__1] = new__4]} : (((net' = net__5) /\\ (pc' = [pc EXCEPT ![self] = \"Client_crit\"])) /\\ UNCHANGED <<Server_q, Server_count, Server_seen, Server_msg>>))))))") ∷
    line (codes "Client_crit(self) ==") ∷
    line (codes "  /\\ pc[self] = \"Client_crit\"") ∷
    line (codes "  /\\ \\E at__1 \\in {self} : (\\E old__2 \\in {net[at__1]} : ((Len(old__2) > 0) /\\ (\\E msg__3 \\in {Head(old__2)} : (\\E old__4 \\in {Tail(old__2)} : (\\E val__5 \\in {msg__3} : (\\E net__6 \\in {[net EXCEPT ![at__1] = old__4]} : (\\E m__7 \\in {val__5} : (((Assert((m__7.type = \"grant\"), \"assert\") /\\ (net' = net__6)) /\\ (pc' = [pc EXCEPT ![self] = \"Client_rel\"])) /\\ UNCHANGED <<Server_q, Server_count, Server_seen, Server_msg>>))))))))") ∷
    line (codes "Client_rel(self) ==") ∷
    line (codes "  /\\ pc[self] = \"Client_rel\"") ∷
    line (codes "  /\\ \\E at__1 \\in {ServerID} : (\\E val__2 \\in {[from |-> self, type |-> \"unlock\"]} : (\\E old__3 \\in {net[at__1]} : ((Len(old__3) < BUFFER_SIZE) /\\ (\\E new__4 \\in {Append(old__3, val__2)} : (\\E net__5 \\in {[net EXCEPT ![at__1] = new__4]} : (((net' = net__5) /\\ (pc' = [pc EXCEPT ![self] = \"Done\"])) /\\ UNCHANGED <<Server_q, Server_count, Server_seen, Server_msg>>))))))") ∷
    line (codes "Client(self) == (Client_req(self) \\/ Client_crit(self)) \\/ Client_rel(self)") ∷
    line (codes "Terminating ==") ∷
    line (codes "  /\\ \\A self \\in ProcSet : (pc[self] = \"Done\")") ∷
    line (codes "  /\\ UNCHANGED <<net, pc, Server_q, Server_count, Server_seen, Server_msg>>") ∷
    line (codes "Next == ((\\E self \\in {ServerID} : Server(self)) \\/ (\\E self \\in ClientSet : Client(self))) \\/ Terminating") ∷
    line (codes "Spec == Init /\\ [][Next]_vars") ∷
    line (codes "====") ∷ []

pub lock_server : module_lines (module_with (expanded (heading (codes "LockServer") (codes "NumClients" ∷ codes "BUFFER_SIZE" ∷ [])) (codes "LockServer") (declaration (codes "net") (Some (Equals (fun_of (bound ((codes "i" ∷ [], name (codes "NodeSet")) ∷ [])) (tuple (trees []))))) ∷ []) (Some (definition (codes "ServerID") (name (codes "0")) ∷ definition (codes "ClientSet") (binary infixs.Range (name (codes "1")) (name (codes "NumClients"))) ∷ definition (codes "NodeSet") (binary infixs.Range (name (codes "0")) (name (codes "NumClients"))) ∷ [])) (process (codes "Server") (only (name (codes "ServerID"))) (declaration (codes "Server_q") (Some (Equals (tuple (trees [])))) ∷ declaration (codes "Server_count") (Some (Equals (name (codes "0")))) ∷ declaration (codes "Server_seen") (Some (Equals (name (codes "0")))) ∷ declaration (codes "Server_msg") (None) ∷ []) ((
  (codes "Server_loop"),
  (If (binary infixs.Less (index (name (codes "Server_count")) (trees (name self_name ∷ []))) (binary infixs.Multiply (name (codes "2")) (name (codes "NumClients"))))
      (With (codes "at__1") (name (codes "self"))
      (With (codes "old__2") (index (name (codes "net")) (trees ((name (codes "at__1")) ∷ [])))
      (Await (binary infixs.Greater (call (codes "Len") (trees ((name (codes "old__2")) ∷ []))) (name (codes "0")))
      (With (codes "msg__3") (call (codes "Head") (trees ((name (codes "old__2")) ∷ [])))
      (With (codes "old__4") (call (codes "Tail") (trees ((name (codes "old__2")) ∷ [])))
      (With (codes "val__5") (name (codes "msg__3"))
      (With (codes "net__6") (except (name (codes "net")) (paths ((((name (codes "at__1")) ∷ []), (name (codes "old__4"))) ∷ [])))
      (With (codes "val__7") (name (codes "val__5"))
      (With (codes "val__8") (binary infixs.Add (index (name (codes "Server_count")) (trees (name self_name ∷ []))) (name (codes "1")))
      (End (((codes "net"), (codes "net__6")) ∷ ((codes "Server_count"), (codes "val__8")) ∷ ((codes "Server_msg"), (codes "val__7")) ∷ []) (codes "Server_handle")))))))))))
      (End ([]) (codes "Done"))),
) ∷ (
  (codes "Server_handle"),
  (With (codes "at__1") (name (codes "self"))
      (With (codes "old__2") (index (name (codes "net")) (trees ((name (codes "at__1")) ∷ [])))
      (With (codes "val__3") (call (codes "Len") (trees ((name (codes "old__2")) ∷ [])))
      (With (codes "val__4") (name (codes "val__3"))
      (If (binary infixs.Equal (field (index (name (codes "Server_msg")) (trees (name self_name ∷ []))) (codes "type")) (text (codes "lock")))
      (With (codes "val__5") (call (codes "Append") (trees ((index (name (codes "Server_q")) (trees (name self_name ∷ []))) ∷ (field (index (name (codes "Server_msg")) (trees (name self_name ∷ []))) (codes "from")) ∷ [])))
      (If (binary infixs.Equal (call (codes "Len") (trees ((name (codes "val__5")) ∷ []))) (name (codes "1")))
      (With (codes "at__6") (field (index (name (codes "Server_msg")) (trees (name self_name ∷ []))) (codes "from"))
      (With (codes "val__7") (record_of (named (((codes "from"), (name (codes "self"))) ∷ ((codes "type"), (text (codes "grant"))) ∷ [])))
      (With (codes "old__8") (index (name (codes "net")) (trees ((name (codes "at__6")) ∷ [])))
      (Await (binary infixs.Less (call (codes "Len") (trees ((name (codes "old__8")) ∷ []))) (name (codes "BUFFER_SIZE")))
      (With (codes "new__9") (call (codes "Append") (trees ((name (codes "old__8")) ∷ (name (codes "val__7")) ∷ [])))
      (With (codes "net__10") (except (name (codes "net")) (paths ((((name (codes "at__6")) ∷ []), (name (codes "new__9"))) ∷ [])))
      (End (((codes "net"), (codes "net__10")) ∷ ((codes "Server_q"), (codes "val__5")) ∷ ((codes "Server_seen"), (codes "val__4")) ∷ []) (codes "Server_loop"))))))))
      (End (((codes "Server_q"), (codes "val__5")) ∷ ((codes "Server_seen"), (codes "val__4")) ∷ []) (codes "Server_loop"))))
      (With (codes "val__5") (call (codes "Tail") (trees ((index (name (codes "Server_q")) (trees (name self_name ∷ []))) ∷ [])))
      (If (binary infixs.Differs (name (codes "val__5")) (tuple (trees ([]))))
      (With (codes "at__6") (call (codes "Head") (trees ((name (codes "val__5")) ∷ [])))
      (With (codes "val__7") (record_of (named (((codes "from"), (name (codes "self"))) ∷ ((codes "type"), (text (codes "grant"))) ∷ [])))
      (With (codes "old__8") (index (name (codes "net")) (trees ((name (codes "at__6")) ∷ [])))
      (Await (binary infixs.Less (call (codes "Len") (trees ((name (codes "old__8")) ∷ []))) (name (codes "BUFFER_SIZE")))
      (With (codes "new__9") (call (codes "Append") (trees ((name (codes "old__8")) ∷ (name (codes "val__7")) ∷ [])))
      (With (codes "net__10") (except (name (codes "net")) (paths ((((name (codes "at__6")) ∷ []), (name (codes "new__9"))) ∷ [])))
      (End (((codes "net"), (codes "net__10")) ∷ ((codes "Server_q"), (codes "val__5")) ∷ ((codes "Server_seen"), (codes "val__4")) ∷ []) (codes "Server_loop"))))))))
      (End (((codes "Server_q"), (codes "val__5")) ∷ ((codes "Server_seen"), (codes "val__4")) ∷ []) (codes "Server_loop"))))))))),
) ∷ []) ∷ process (codes "Client") (name (codes "ClientSet")) ([]) ((
  (codes "Client_req"),
  (With (codes "at__1") (name (codes "ServerID"))
      (With (codes "val__2") (record_of (named (((codes "from"), (name (codes "self"))) ∷ ((codes "type"), (text (codes "lock"))) ∷ [])))
      (With (codes "old__3") (index (name (codes "net")) (trees ((name (codes "at__1")) ∷ [])))
      (Await (binary infixs.Less (call (codes "Len") (trees ((name (codes "old__3")) ∷ []))) (name (codes "BUFFER_SIZE")))
      (With (codes "new__4") (call (codes "Append") (trees ((name (codes "old__3")) ∷ (name (codes "val__2")) ∷ [])))
      (With (codes "net__5") (except (name (codes "net")) (paths ((((name (codes "at__1")) ∷ []), (name (codes "new__4"))) ∷ [])))
      (End (((codes "net"), (codes "net__5")) ∷ []) (codes "Client_crit")))))))),
) ∷ (
  (codes "Client_crit"),
  (With (codes "at__1") (name (codes "self"))
      (With (codes "old__2") (index (name (codes "net")) (trees ((name (codes "at__1")) ∷ [])))
      (Await (binary infixs.Greater (call (codes "Len") (trees ((name (codes "old__2")) ∷ []))) (name (codes "0")))
      (With (codes "msg__3") (call (codes "Head") (trees ((name (codes "old__2")) ∷ [])))
      (With (codes "old__4") (call (codes "Tail") (trees ((name (codes "old__2")) ∷ [])))
      (With (codes "val__5") (name (codes "msg__3"))
      (With (codes "net__6") (except (name (codes "net")) (paths ((((name (codes "at__1")) ∷ []), (name (codes "old__4"))) ∷ [])))
      (With (codes "m__7") (name (codes "val__5"))
      (Assert (binary infixs.Equal (field (name (codes "m__7")) (codes "type")) (text (codes "grant")))
      (End (((codes "net"), (codes "net__6")) ∷ []) (codes "Client_rel"))))))))))),
) ∷ (
  (codes "Client_rel"),
  (With (codes "at__1") (name (codes "ServerID"))
      (With (codes "val__2") (record_of (named (((codes "from"), (name (codes "self"))) ∷ ((codes "type"), (text (codes "unlock"))) ∷ [])))
      (With (codes "old__3") (index (name (codes "net")) (trees ((name (codes "at__1")) ∷ [])))
      (Await (binary infixs.Less (call (codes "Len") (trees ((name (codes "old__3")) ∷ []))) (name (codes "BUFFER_SIZE")))
      (With (codes "new__4") (call (codes "Append") (trees ((name (codes "old__3")) ∷ (name (codes "val__2")) ∷ [])))
      (With (codes "net__5") (except (name (codes "net")) (paths ((((name (codes "at__1")) ∷ []), (name (codes "new__4"))) ∷ [])))
      (End (((codes "net"), (codes "net__5")) ∷ []) (codes "Done")))))))),
) ∷ []) ∷ []))) ≡ lock_server_lines
lock_server = refl

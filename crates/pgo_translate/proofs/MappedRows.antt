-- The modules of five further specifications, line by line; numbers are names of their digits.
use Rattle.std.specs.Prelude.{◌≡◌, List, [], ◌∷◌, codes, Some, None, refl}
use Rattle.pgo_base.specs.declared.expr.Infix.TheVariants as infixs
use Rattle.pgo_base.specs.Tree.{name, text, binary, tuple, set_of, fun_of, record_of, except, index, field, call, trees, bound, named, paths}
use Rattle.pgo_model.specs.ModuleText.{Line, line, module_lines}
use Rattle.pgo_syntax.specs.declared.binding.Origin.TheVariants.{Equals}
use Rattle.pgo_sections.specs.Expansion.{With, In, Await, End}
use Rattle.pgo_translate.specs.Items.{only}
use Rattle.pgo_translate.specs.ModuleOf.{module_with}
use Rattle.pgo_translate.proofs.CompileRows.{declaration, heading, process, expanded}

-- a choice from a set, with a test behind it
abbrev choice_lines : List Line
choice_lines =
    line (codes "---- MODULE Counter ----") ∷
    line (codes "EXTENDS Integers, Sequences, FiniteSets, TLC") ∷
    line (codes "CONSTANTS defaultInitValue") ∷
    line (codes "VARIABLES x, pc") ∷
    line (codes "vars == <<x, pc>>") ∷
    line (codes "ProcSet == {1}") ∷
    line (codes "Init ==") ∷
    line (codes "  /\\ x = 0") ∷
    line (codes "  /\\ pc = [self \\in ProcSet |-> (CASE (self \\in {1}) -> \"P_l\")]") ∷
    line (codes "P_l(self) ==") ∷
    line (codes "  /\\ pc[self] = \"P_l\"") ∷
    line (codes "  /\\ \\E w__1 \\in (1 .. 3) : (\\E u__2 \\in {(w__1 * 2)} : ((u__2 > 2) /\\ (\\E val__3 \\in {u__2} : ((x' = val__3) /\\ (pc' = [pc EXCEPT ![self] = \"Done\"])))))") ∷
    line (codes "P(self) == P_l(self)") ∷
    line (codes "Terminating ==") ∷
    line (codes "  /\\ \\A self \\in ProcSet : (pc[self] = \"Done\")") ∷
    line (codes "  /\\ UNCHANGED <<x, pc>>") ∷
    line (codes "Next == (\\E self \\in {1} : P(self)) \\/ Terminating") ∷
    line (codes "Spec == Init /\\ [][Next]_vars") ∷
    line (codes "====") ∷ []

choice : module_lines (module_with (expanded (heading (codes "Counter") ([])) (codes "Counter") (declaration (codes "x") (Some (Equals (name (codes "0")))) ∷ []) None (process (codes "P") (only (name (codes "1"))) ([]) ((
  (codes "P_l"),
  (In (codes "w__1") (binary infixs.Range (name (codes "1")) (name (codes "3")))
      (With (codes "u__2") (binary infixs.Multiply (name (codes "w__1")) (name (codes "2")))
      (Await (binary infixs.Greater (name (codes "u__2")) (name (codes "2")))
      (With (codes "val__3") (name (codes "u__2"))
      (End ((codes "x", codes "val__3") ∷ []) (codes "Done")))))),
) ∷ []) ∷ []))) ≡ choice_lines
choice = refl

-- an assignment within a local, for two identifiers
abbrev local_path_lines : List Line
local_path_lines =
    line (codes "---- MODULE Counter ----") ∷
    line (codes "EXTENDS Integers, Sequences, FiniteSets, TLC") ∷
    line (codes "CONSTANTS defaultInitValue") ∷
    line (codes "VARIABLES x, pc, P_q") ∷
    line (codes "vars == <<x, pc, P_q>>") ∷
    line (codes "ProcSet == {3, 4}") ∷
    line (codes "Init ==") ∷
    line (codes "  /\\ x = 0") ∷
    line (codes "  /\\ pc = [self \\in ProcSet |-> (CASE (self \\in {3, 4}) -> \"P_l\")]") ∷
    line (codes "  /\\ P_q = [self \\in {3, 4} |-> [a |-> <<1, 2>>]]") ∷
    line (codes "P_l(self) ==") ∷
    line (codes "  /\\ pc[self] = \"P_l\"") ∷
    line (codes "  /\\ \\E at__1 \\in {1} : (\\E val__2 \\in {P_q[self].a[2]} : (\\E P_q__3 \\in {[P_q[self] EXCEPT !.a[at__1] = val__2]} : (\\E val__4 \\in {P_q__3.a[1]} : (((x' = val__4) /\\ (pc' = [pc EXCEPT ![self] = \"Done\"])) /\\ (P_q' = [P_q EXCEPT ![self] = P_q__3])))))") ∷
    line (codes "P(self) == P_l(self)") ∷
    line (codes "Terminating ==") ∷
    line (codes "  /\\ \\A self \\in ProcSet : (pc[self] = \"Done\")") ∷
    line (codes "  /\\ UNCHANGED <<x, pc, P_q>>") ∷
    line (codes "Next == (\\E self \\in {3, 4} : P(self)) \\/ Terminating") ∷
    line (codes "Spec == Init /\\ [][Next]_vars") ∷
    line (codes "====") ∷ []

local_path : module_lines (module_with (expanded (heading (codes "Counter") ([])) (codes "Counter") (declaration (codes "x") (Some (Equals (name (codes "0")))) ∷ []) None (process (codes "P") (set_of (trees ((name (codes "3")) ∷ (name (codes "4")) ∷ []))) (declaration (codes "P_q") (Some (Equals (record_of (named ((codes "a", tuple (trees ((name (codes "1")) ∷ (name (codes "2")) ∷ []))) ∷ []))))) ∷ []) ((
  (codes "P_l"),
  (With (codes "at__1") (name (codes "1"))
      (With (codes "val__2") (index (field (index (name (codes "P_q")) (trees ((name (codes "self")) ∷ []))) (codes "a")) (trees ((name (codes "2")) ∷ [])))
      (With (codes "P_q__3") (except (index (name (codes "P_q")) (trees ((name (codes "self")) ∷ []))) (paths (((text (codes "a") ∷ (name (codes "at__1")) ∷ []), (name (codes "val__2"))) ∷ [])))
      (With (codes "val__4") (index (field (name (codes "P_q__3")) (codes "a")) (trees ((name (codes "1")) ∷ [])))
      (End ((codes "x", codes "val__4") ∷ (codes "P_q", codes "P_q__3") ∷ []) (codes "Done")))))),
) ∷ []) ∷ []))) ≡ local_path_lines
local_path = refl

-- a macro with a `with`, twice
abbrev macro_with_lines : List Line
macro_with_lines =
    line (codes "---- MODULE Counter ----") ∷
    line (codes "EXTENDS Integers, Sequences, FiniteSets, TLC") ∷
    line (codes "CONSTANTS defaultInitValue") ∷
    line (codes "VARIABLES x, pc, P_w") ∷
    line (codes "vars == <<x, pc, P_w>>") ∷
    line (codes "ProcSet == {1}") ∷
    line (codes "Init ==") ∷
    line (codes "  /\\ x = 0") ∷
    line (codes "  /\\ pc = [self \\in ProcSet |-> (CASE (self \\in {1}) -> \"P_l\")]") ∷
    line (codes "  /\\ P_w = [self \\in {1} |-> 1]") ∷
    line (codes "P_l(self) ==") ∷
    line (codes "  /\\ pc[self] = \"P_l\"") ∷
    line (codes "  /\\ \\E t__1 \\in {(x + P_w[self])} : (\\E val__2 \\in {t__1} : (\\E t__3 \\in {(val__2 + 2)} : (\\E val__4 \\in {t__3} : (((x' = val__4) /\\ (pc' = [pc EXCEPT ![self] = \"Done\"])) /\\ UNCHANGED <<P_w>>))))") ∷
    line (codes "P(self) == P_l(self)") ∷
    line (codes "Terminating ==") ∷
    line (codes "  /\\ \\A self \\in ProcSet : (pc[self] = \"Done\")") ∷
    line (codes "  /\\ UNCHANGED <<x, pc, P_w>>") ∷
    line (codes "Next == (\\E self \\in {1} : P(self)) \\/ Terminating") ∷
    line (codes "Spec == Init /\\ [][Next]_vars") ∷
    line (codes "====") ∷ []

macro_with : module_lines (module_with (expanded (heading (codes "Counter") ([])) (codes "Counter") (declaration (codes "x") (Some (Equals (name (codes "0")))) ∷ []) None (process (codes "P") (only (name (codes "1"))) (declaration (codes "P_w") (Some (Equals (name (codes "1")))) ∷ []) ((
  (codes "P_l"),
  (With (codes "t__1") (binary infixs.Add (name (codes "x")) (index (name (codes "P_w")) (trees ((name (codes "self")) ∷ []))))
      (With (codes "val__2") (name (codes "t__1"))
      (With (codes "t__3") (binary infixs.Add (name (codes "val__2")) (name (codes "2")))
      (With (codes "val__4") (name (codes "t__3"))
      (End ((codes "x", codes "val__4") ∷ []) (codes "Done")))))),
) ∷ []) ∷ []))) ≡ macro_with_lines
macro_with = refl

-- two assignments at once, through a mapping macro
abbrev swap_mapped_lines : List Line
swap_mapped_lines =
    line (codes "---- MODULE Counter ----") ∷
    line (codes "EXTENDS Integers, Sequences, FiniteSets, TLC") ∷
    line (codes "CONSTANTS BUFFER_SIZE, defaultInitValue") ∷
    line (codes "VARIABLES net, pc") ∷
    line (codes "vars == <<net, pc>>") ∷
    line (codes "ProcSet == {1}") ∷
    line (codes "Init ==") ∷
    line (codes "  /\\ net = [i \\in {1, 2} |-> <<i>>]") ∷
    line (codes "  /\\ pc = [self \\in ProcSet |-> (CASE (self \\in {1}) -> \"P_l\")]") ∷
    line (codes "P_l(self) ==") ∷
    line (codes "  /\\ pc[self] = \"P_l\"") ∷
    line (codes "  /\\ \\E at__1 \\in {1} : (\\E at__2 \\in {2} : (\\E old__3 \\in {net[at__2]} : ((Len(old__3) > 0) /\\ (\\E msg__4 \\in {Head(old__3)} : (\\E old__5 \\in {Tail(old__3)} : (\\E val__6 \\in {msg__4} : (\\E net__7 \\in {[net EXCEPT ![at__2] = old__5]} : (\\E val__8 \\in {val__6} : (\\E at__9 \\in {2} : (\\E at__10 \\in {1} : (\\E old__11 \\in {net__7[at__10]} : ((Len(old__11) > 0) /\\ (\\E msg__12 \\in {Head(old__11)} : (\\E old__13 \\in {Tail(old__11)} : (\\E val__14 \\in {msg__12} : (\\E net__15 \\in {[net__7 EXCEPT ![at__10] = old__13]} : (\\E val__16 \\in {val__14} : (\\E old__17 \\in {net__15[at__1]} : ((Len(old__17) < BUFFER_SIZE) /\\ (\\E new__18 \\in {Append(old__17, val__8)} : (\\E net__19 \\in {[net__15 EXCEPT ![at__1] = new__18]} : (\\E old__20 \\in {net__19[at__9]} : ((Len(old__20) < BUFFER_SIZE) /\\ (\\E new__21 \\in {Append(old__20, val__16)} : (\\E net__22 \\in {[net__19 EXCEPT ![at__9] = new__21]} : ((net' = net__22) /\\ (pc' = [pc EXCEPT ![self] = \"Done\"])))))))))))))))))))))))))))") ∷
    line (codes "P(self) == P_l(self)") ∷
    line (codes "Terminating ==") ∷
    line (codes "  /\\ \\A self \\in ProcSet : (pc[self] = \"Done\")") ∷
    line (codes "  /\\ UNCHANGED <<net, pc>>") ∷
    line (codes "Next == (\\E self \\in {1} : P(self)) \\/ Terminating") ∷
    line (codes "Spec == Init /\\ [][Next]_vars") ∷
    line (codes "====") ∷ []

swap_mapped : module_lines (module_with (expanded (heading (codes "Counter") (codes "BUFFER_SIZE" ∷ [])) (codes "Counter") (declaration (codes "net") (Some (Equals (fun_of (bound (((codes "i" ∷ []), set_of (trees ((name (codes "1")) ∷ (name (codes "2")) ∷ []))) ∷ [])) (tuple (trees ((name (codes "i")) ∷ [])))))) ∷ []) None (process (codes "P") (only (name (codes "1"))) ([]) ((
  (codes "P_l"),
  (With (codes "at__1") (name (codes "1"))
      (With (codes "at__2") (name (codes "2"))
      (With (codes "old__3") (index (name (codes "net")) (trees ((name (codes "at__2")) ∷ [])))
      (Await (binary infixs.Greater (call (codes "Len") (trees ((name (codes "old__3")) ∷ []))) (name (codes "0")))
      (With (codes "msg__4") (call (codes "Head") (trees ((name (codes "old__3")) ∷ [])))
      (With (codes "old__5") (call (codes "Tail") (trees ((name (codes "old__3")) ∷ [])))
      (With (codes "val__6") (name (codes "msg__4"))
      (With (codes "net__7") (except (name (codes "net")) (paths ((((name (codes "at__2")) ∷ []), (name (codes "old__5"))) ∷ [])))
      (With (codes "val__8") (name (codes "val__6"))
      (With (codes "at__9") (name (codes "2"))
      (With (codes "at__10") (name (codes "1"))
      (With (codes "old__11") (index (name (codes "net__7")) (trees ((name (codes "at__10")) ∷ [])))
      (Await (binary infixs.Greater (call (codes "Len") (trees ((name (codes "old__11")) ∷ []))) (name (codes "0")))
      (With (codes "msg__12") (call (codes "Head") (trees ((name (codes "old__11")) ∷ [])))
      (With (codes "old__13") (call (codes "Tail") (trees ((name (codes "old__11")) ∷ [])))
      (With (codes "val__14") (name (codes "msg__12"))
      (With (codes "net__15") (except (name (codes "net__7")) (paths ((((name (codes "at__10")) ∷ []), (name (codes "old__13"))) ∷ [])))
      (With (codes "val__16") (name (codes "val__14"))
      (With (codes "old__17") (index (name (codes "net__15")) (trees ((name (codes "at__1")) ∷ [])))
      (Await (binary infixs.Less (call (codes "Len") (trees ((name (codes "old__17")) ∷ []))) (name (codes "BUFFER_SIZE")))
      (With (codes "new__18") (call (codes "Append") (trees ((name (codes "old__17")) ∷ (name (codes "val__8")) ∷ [])))
      (With (codes "net__19") (except (name (codes "net__15")) (paths ((((name (codes "at__1")) ∷ []), (name (codes "new__18"))) ∷ [])))
      (With (codes "old__20") (index (name (codes "net__19")) (trees ((name (codes "at__9")) ∷ [])))
      (Await (binary infixs.Less (call (codes "Len") (trees ((name (codes "old__20")) ∷ []))) (name (codes "BUFFER_SIZE")))
      (With (codes "new__21") (call (codes "Append") (trees ((name (codes "old__20")) ∷ (name (codes "val__16")) ∷ [])))
      (With (codes "net__22") (except (name (codes "net__19")) (paths ((((name (codes "at__9")) ∷ []), (name (codes "new__21"))) ∷ [])))
      (End ((codes "net", codes "net__22") ∷ []) (codes "Done")))))))))))))))))))))))))))),
) ∷ []) ∷ []))) ≡ swap_mapped_lines
swap_mapped = refl

-- a whole variable through a mapping macro
abbrev whole_mapped_lines : List Line
whole_mapped_lines =
    line (codes "---- MODULE Counter ----") ∷
    line (codes "EXTENDS Integers, Sequences, FiniteSets, TLC") ∷
    line (codes "CONSTANTS defaultInitValue") ∷
    line (codes "VARIABLES x, pc") ∷
    line (codes "vars == <<x, pc>>") ∷
    line (codes "ProcSet == {1}") ∷
    line (codes "Init ==") ∷
    line (codes "  /\\ x = <<>>") ∷
    line (codes "  /\\ pc = [self \\in ProcSet |-> (CASE (self \\in {1}) -> \"P_l\")]") ∷
    line (codes "P_l(self) ==") ∷
    line (codes "  /\\ pc[self] = \"P_l\"") ∷
    line (codes "  /\\ \\E val__1 \\in {7} : (\\E old__2 \\in {x} : (\\E new__3 \\in {Append(old__2, val__1)} : (\\E x__4 \\in {new__3} : ((x' = x__4) /\\ (pc' = [pc EXCEPT ![self] = \"Done\"])))))") ∷
    line (codes "P(self) == P_l(self)") ∷
    line (codes "Terminating ==") ∷
    line (codes "  /\\ \\A self \\in ProcSet : (pc[self] = \"Done\")") ∷
    line (codes "  /\\ UNCHANGED <<x, pc>>") ∷
    line (codes "Next == (\\E self \\in {1} : P(self)) \\/ Terminating") ∷
    line (codes "Spec == Init /\\ [][Next]_vars") ∷
    line (codes "====") ∷ []

whole_mapped : module_lines (module_with (expanded (heading (codes "Counter") ([])) (codes "Counter") (declaration (codes "x") (Some (Equals (tuple (trees [])))) ∷ []) None (process (codes "P") (only (name (codes "1"))) ([]) ((
  (codes "P_l"),
  (With (codes "val__1") (name (codes "7"))
      (With (codes "old__2") (name (codes "x"))
      (With (codes "new__3") (call (codes "Append") (trees ((name (codes "old__2")) ∷ (name (codes "val__1")) ∷ [])))
      (With (codes "x__4") (name (codes "new__3"))
      (End ((codes "x", codes "x__4") ∷ []) (codes "Done")))))),
) ∷ []) ∷ []))) ≡ whole_mapped_lines
whole_mapped = refl

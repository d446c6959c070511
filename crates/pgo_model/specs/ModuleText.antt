-- The canonical text of a written module, line by line; each line ends in a newline.
use Rattle.std.specs.Prelude.{ℕ, true, List, [], ◌∷◌, ◌++◌, map, codes}
pub use Rattle.std.specs.List.{concat as flatten}
use Rattle.pgo_base.specs.declared.expr.Infix.TheVariants as infixs
pub use Rattle.pgo_base.specs.Lists.{joined as flat_lines}
use Rattle.pgo_base.specs.Tree.{Tree, binary}
use Rattle.pgo_base.specs.Lookup.{Name}
use Rattle.pgo_model.specs.Val.{Defined, Given, Means}
use Rattle.pgo_model.specs.ValueText.{value_text}
use Rattle.pgo_model.specs.ExprText.{expr_text, names_text}
use Rattle.pgo_model.specs.Module.{Module, WrittenProcess, proc_set_of, process_body, terminating_body, next_body}
use Rattle.pgo_model.specs.Written.{self_name, default_init_value, proc_set, terminating}

-- a line of bytes
abbrev pub Line : Type 0
Line = List ℕ

abbrev pub line : List ℕ → Line
line t = t ++ (10 ∷ [])

-- the items of a conjunction along its left side
abbrev pub conjuncts : Tree → List Tree → List Tree
conjuncts (binary infixs.And a b) rest = conjuncts a (b ∷ rest)
conjuncts e rest = e ∷ rest

abbrev pub bullet : Tree → Line
bullet e = line (codes "  /\\ " ++ expr_text true e)

-- a body of several items stands as bullets below its head, any other behind it
abbrev pub body_lines : List ℕ → List Tree → List Line
body_lines head [] = []
body_lines head (e ∷ []) = line (head ++ codes " == " ++ expr_text true e) ∷ []
body_lines head (e ∷ (f ∷ es)) = line (head ++ codes " ==") ∷ map bullet (e ∷ (f ∷ es))

abbrev pub definition_lines : List ℕ → Tree → List Line
definition_lines head e = body_lines head (conjuncts e [])

abbrev pub with_self : Name → List ℕ
with_self x = x ++ codes "(" ++ self_name ++ codes ")"

abbrev pub action_lines : Name × Tree → List Line
action_lines a = definition_lines (with_self a.0) a.1

abbrev pub parameters_text : List Name → List ℕ
parameters_text [] = []
parameters_text (x ∷ xs) = codes "(" ++ names_text (x ∷ xs) ++ codes ")"

abbrev pub defined_lines : Defined → List Line
defined_lines (Given x v) = line (x ++ codes " == " ++ value_text v) ∷ []
defined_lines (Means x ps e) = definition_lines (x ++ parameters_text ps) e

-- a process's label actions, and then its own definition
abbrev pub process_lines : WrittenProcess → List Line
process_lines p = flat_lines (map action_lines p.actions) ++ definition_lines (with_self p.name) (process_body p)

abbrev pub module_lines : Module → List Line
module_lines m =
    (line (codes "---- MODULE " ++ m.name ++ codes " ----")
    ∷ line (codes "EXTENDS Integers, Sequences, FiniteSets, TLC")
    ∷ line (codes "CONSTANTS " ++ names_text (m.constants ++ (default_init_value ∷ [])))
    ∷ [])
    ++ flat_lines (map defined_lines m.definitions)
    ++ (line (codes "VARIABLES " ++ names_text m.variables)
    ∷ line (codes "vars == <<" ++ names_text m.variables ++ codes ">>")
    ∷ [])
    ++ definition_lines proc_set (proc_set_of m)
    ++ definition_lines (codes "Init") m.init
    ++ flat_lines (map process_lines m.processes)
    ++ definition_lines terminating (terminating_body m)
    ++ definition_lines (codes "Next") (next_body m)
    ++ (line (codes "Spec == Init /\\ [][Next]_vars")
    ∷ line (codes "====")
    ∷ [])

-- the canonical text of a module
abbrev pub Text : Module → List ℕ
Text m = flatten (module_lines m)

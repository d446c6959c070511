-- The module of its lines as functions on lists and trees, in the shape of the code.
use Rattle.std.specs.Prelude.{nat_le, ℕ, Bool, true, false, not, ◌&&◌, nat_eq, if◌then◌else◌, List, [], ◌∷◌, ◌++◌, length, map, reverse, take, drop, Option, Some, None}
use Rattle.pgo_base.specs.ActionView.{action_pair}
use Rattle.pgo_base.specs.Lookup.{Name}
use Rattle.pgo_base.specs.Tree.{Tree, binary, quantified, call}
use Rattle.pgo_base.specs.declared.expr.Infix.{Infix}
use Rattle.pgo_base.specs.declared.expr.Infix.TheVariants as infixs
use Rattle.pgo_base.specs.declared.module.Action.{Action}
use Rattle.pgo_base.specs.declared.module.Module.{Module}
use Rattle.pgo_base.specs.declared.module.WrittenProcess.{WrittenProcess}
use Rattle.pgo_lexer.specs.Pieces.{begins}
use Rattle.pgo_model.specs.ExprText.{expr_text}
use Rattle.pgo_model.specs.Machine.{is_empty}
use Rattle.pgo_model.specs.Module as written
use Rattle.pgo_model.specs.ModuleView.{module_view, process_view}
use Rattle.pgo_model.specs.ValueText.{same_bytes}
use Rattle.pgo_model.specs.Written.{default_init_value}
use Rattle.pgo_mpcal_read.specs.ReadingSpec.{if_some}
use Rattle.pgo_module_spells.specs.Parts.{tuple_of}
use Rattle.pgo_module_read.specs.Cutting.{cut}
use Rattle.pgo_module_read.specs.Reading.{all_lines}
use Rattle.pgo_module_read.specs.declared.lines.Declared.{Declared}
use Rattle.pgo_module_read.specs.declared.lines.Lines.{Lines}
use Rattle.pgo_module_read.specs.declared.steps.Step.{Step}

-- the canonical texts are the same
abbrev pub same_tree : Tree → Tree → Bool
same_tree a b = same_bytes (expr_text false a) (expr_text false b)

-- ---- constants

abbrev pub before_default : List Name → Option (List Name)
before_default [] = None
before_default (x ∷ xs) = if same_bytes x default_init_value then Some (reverse xs) else None

-- all but the last of these names, which must be `defaultInitValue`
abbrev pub without_default : List Name → Option (List Name)
without_default xs = before_default (reverse xs)

-- ---- steps

abbrev pub or_of : Infix → Tree → Tree → Option (Tree × Tree)
or_of infixs.Or a b = Some (a, b)
or_of _ a b = None

-- the sides of a `\/`
abbrev pub or_parts : Tree → Option (Tree × Tree)
or_parts (binary o a b) = or_of o a b
or_parts t = None

abbrev pub union_of : Infix → Tree → Tree → Option (Tree × Tree)
union_of infixs.Union a b = Some (a, b)
union_of _ a b = None

-- the sides of a `\cup`
abbrev pub union_parts : Tree → Option (Tree × Tree)
union_parts (binary o a b) = union_of o a b
union_parts t = None

abbrev pub called : Tree → Option Name
called (call x ts) = Some x
called t = None

-- the name that a quantified expression calls
abbrev pub process_called : Tree → Option Name
process_called (quantified q bs p) = called p
process_called t = None

-- the process of a step, with its set of identifiers
abbrev pub step : Tree → Tree → Option Step
step t s = if_some (process_called t) (λ x. Some (record { name = x; ids = s }))

-- the processes of a disjunction of steps, and their sets, which are the sides of a union; before those behind
unfoldable pub steps_before : Tree → Tree → List Step → Option (List Step)
steps_before (binary infixs.Or a b) s behind = if_some (union_parts s) (λ p. if_some (step b p.1) (λ x. steps_before a p.0 (x ∷ behind)))
steps_before t s behind = if_some (step t s) (λ x. Some (x ∷ behind))

-- Next has one more alternative behind the steps
abbrev pub steps_of : (next sets : Tree) → Option (List Step)
steps_of n s = if_some (or_parts n) (λ p. steps_before p.0 s [])

-- ---- processes

abbrev pub is_underscore : ℕ → Bool
is_underscore b = nat_eq b 95

-- the second name begins with the first one and `_`
abbrev pub is_action_of : Name → Name → Bool
is_action_of p x = same_bytes (take (length p) x) p && begins is_underscore (drop (length p) x)

abbrev pub has_some : {A : Type 0} → List A → Bool
has_some as' = not (is_empty as')

-- a disjunction of more calls is higher than an expression may be
abbrev pub most_actions : ℕ
most_actions = 511

abbrev pub is_own : WrittenProcess → Tree → Bool
is_own p own = nat_le (length p.actions) most_actions && (has_some p.actions && same_tree own (written.process_body (process_view p)))

abbrev pub process_with : Step → List Action → WrittenProcess
process_with s done = record { name = s.name; ids = s.ids; actions = map action_pair done }

-- the process of these label actions, where this is its own body
abbrev pub process : Step → List Action → Tree → Option WrittenProcess
process s done own = if is_own (process_with s done) own then Some (process_with s done) else None

-- a process, whose label actions stand before its own definition, and what is behind that
unfoldable pub process_from : Step → (done : List Action) → List Action → Option (WrittenProcess × List Action)
process_from s done [] = None
process_from s done (a ∷ as') =
    if same_bytes a.name s.name then if_some (process s done a.body) (λ p. Some (p, as'))
    else if is_action_of s.name a.name then process_from s (done ++ a ∷ []) as' else None

-- the processes of these steps behind those before
unfoldable pub processes_from : (done : List WrittenProcess) → List Step → List Action → Option (List WrittenProcess)
processes_from done [] [] = Some done
processes_from done [] (a ∷ as') = None
processes_from done (s ∷ ss) as' = if_some (process_from s [] as') (λ p. processes_from (done ++ p.0 ∷ []) ss p.1)

abbrev pub processes : (next sets : Tree) → List Action → Option (List WrittenProcess)
processes n s as' = if_some (steps_of n s) (λ ss. processes_from [] ss as')

-- ---- the whole

abbrev pub module_with : Declared → (init : Tree) → (constants : List Name) → List WrittenProcess → Module
module_with d i cs ps = record { name = d.name; constants = cs; definitions = d.definitions; variables = d.variables; init = i; processes = ps }

abbrev pub candidate : Declared → (init : Tree) → List WrittenProcess → Option Module
candidate d i ps = if_some (without_default d.constants) (λ cs. Some (module_with d i cs ps))

-- these are the bodies of `vars`, Terminating and Next
abbrev pub has_bodies : Module → (vars ending next : Tree) → Bool
has_bodies m v t n =
    same_tree v (tuple_of m.variables) && (same_tree t (written.terminating_body (module_view m)) && same_tree n (written.next_body (module_view m)))

unfoldable pub module_of : Lines → Option Module
module_of l =
    if_some (processes l.further.next l.further.sets l.further.actions) (λ ps. if_some (candidate l.declared l.further.init ps) (λ m.
    if has_bodies m l.further.vars l.further.ending l.further.next then Some m else None))

-- the module of a text
abbrev pub module_from_text : List ℕ → Option Module
module_from_text text = if_some (cut text) (λ ts. if_some (all_lines ts) module_of)

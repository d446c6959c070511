-- What a module says of some pairs of states, computed: that of an `either` of which an arm has no value.
use Rattle.std.specs.Prelude.{◌≡◌, ℕ, true, false, pos, [], ◌∷◌, codes, Option, Some, None, refl}
use Rattle.pgo_base.specs.declared.expr.Infix.TheVariants as infixs
use Rattle.pgo_base.specs.Data.{Data, boolean, integer, string, function, pairs}
use Rattle.pgo_base.specs.Lookup.{Name, Vars}
use Rattle.pgo_base.specs.Tree.{Tree, name, number, binary}
use Rattle.pgo_model.specs.Acts.{Acts, Begins}
use Rattle.pgo_model.specs.Module.{Module, defs_of, next_body}
use Rattle.pgo_model.specs.Val.{Val}
use Rattle.pgo_model.specs.Written.{pc, done, terminating}
use Rattle.pgo_syntax.specs.declared.binding.Origin.TheVariants.{Equals}
use Rattle.pgo_sections.specs.Expansion.{Expansion, With, Either, End, no_expansions, more_expansions}
use Rattle.pgo_translate.specs.Items.{action_body, only}
use Rattle.pgo_translate.specs.ModuleOf.{module_with}
use Rattle.pgo_translate.proofs.CompileRows.{declaration, heading, process, expanded}

abbrev int : (n : ℕ) → Data
int n = integer (pos n)

-- `either { x := 1 } or { x := 1 \div 0 }`
abbrev arms : Expansion
arms =
    let val = codes "val__1" in
    let rest = End ((codes "x", val) ∷ []) done in
    Either (more_expansions (With val (number (pos 1)) rest) (more_expansions (With val (binary infixs.Divide (number (pos 1)) (number (pos 0))) rest) no_expansions))

abbrev m : Module
m =
    module_with
    (expanded (heading (codes "Counter") []) (codes "Counter") (declaration (codes "x") (Some (Equals (number (pos 0)))) ∷ []) None (process (codes "P") (only (number (pos 1))) [] ((codes "P_l", arms) ∷ []) ∷ []))

abbrev state : ℕ → Name → Vars
state n l = (codes "x", int n) ∷ (pc, function (pairs ((int 1, string l) ∷ []))) ∷ []

abbrev start : Vars
start = state 0 (codes "P_l")

abbrev value : Tree → Vars → Option Data
value e t = Val (defs_of m []) e [] start (Some t)

begins : Begins m [] start
begins = refl

-- the arm that has a value decides
acts : Acts m [] (codes "P_l") (int 1) start (state 1 done)
acts = (action_body (codes "x" ∷ pc ∷ []) (codes "x" ∷ []) (codes "P_l") arms, refl, refl)

next : value (next_body m) (state 1 done) ≡ Some (boolean true)
next = refl

-- another value, or another label, is no step: the other arm leaves it without a value
other_value : value (next_body m) (state 2 done) ≡ None
other_value = refl

other_label : value (next_body m) (state 1 (codes "P_l")) ≡ None
other_label = refl

-- where all have ended, nothing changes
ended : Val (defs_of m []) (name terminating) [] (state 1 done) (Some (state 1 done)) ≡ Some (boolean true)
ended = refl

changed : Val (defs_of m []) (name terminating) [] (state 1 done) (Some (state 2 done)) ≡ Some (boolean false)
changed = refl

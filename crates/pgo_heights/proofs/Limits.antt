-- What is refused as too deep, and what is written.
use Rattle.std.proofs.Common.{◌≡◌, ◌≤◌, ◌<◌, Bool, true, false, if◌then◌else◌, nat_le, List, [], ◌∷◌, map, Option, Some, None, refl, arith}
use Rattle.std.specs.List.{AllByRecursion, flat_map}
use Rattle.std.proofs.lemmas.Bool.{leb-false, le-leb, lt-leb}
use Rattle.pgo_base.specs.Lookup.{Name}
use Rattle.pgo_base.specs.Tree.{Tree}
use Rattle.pgo_model.specs.Module.{Module, WrittenProcess, process_body, proc_set_of, terminating_body, next_body}
use Rattle.pgo_model.specs.Val.{Defined, Given, Means}
use Rattle.pgo_syntax.specs.declared.spec.Spec.{Spec}
use Rattle.pgo_meaning.specs.Expansions.{trees_of}
use Rattle.pgo_expand.specs.Limits.{expand_refusal, most_height, most_nodes, nodes_in}
use Rattle.pgo_expand.specs.Module.{module_height}
use Rattle.pgo_expand.specs.declared.errors.ExpandStop.{ExpandStop}
use Rattle.pgo_expand.specs.declared.errors.ExpandStop.TheVariants as errors
use Rattle.pgo_module_spells.specs.Written.{IsWrittenDefinition, IsWrittenAction, IsWrittenProcess, IsWritten}
use Rattle.pgo_translate.specs.ModuleOf.{module_of}
use Rattle.pgo_heights.specs.Expressions.{bodies, process_expressions, expressions_of, IsHigherThan}
use Rattle.pgo_heights.proofs.Greatest.{greatest, greatest_append}
use Rattle.pgo_heights.proofs.Modules.{four_appended, module_heights, module_has_height}

-- ---- refused

abbrev answer : Bool → Bool → Option ExpandStop
answer few low = if few then (if low then None else Some (errors.Deep 513)) else Some (errors.Wide 1048577)

not_low : (few low : Bool) → answer few low ≡ Some (errors.Deep 513) → low ≡ false
not_low true true h = absurd (cc)
not_low true false h = refl
not_low false low h = absurd (cc)

pub deep : (s : Spec) → expand_refusal s ≡ Some (errors.Deep 513) → most_height < module_height s
deep s h = leb-false (module_height s) most_height (not_low (nat_le (nodes_in (trees_of s)) most_nodes) (nat_le (module_height s) most_height) h)

pub deep_is_high : (s : Spec) → expand_refusal s ≡ Some (errors.Deep 513) → IsHigherThan (module_of s) most_height
deep_is_high s h =
    let e = (module_has_height s).some in
    let k = deep s h in
    let same = e.high in
    record { expression = e.expression; among = e.among; higher = omega (arith, k, same) }

pub high_is_deep : (s : Spec) → nodes_in (trees_of s) ≤ most_nodes → IsHigherThan (module_of s) most_height → expand_refusal s ≡ Some (errors.Deep 513)
high_is_deep s few high =
    let most = (module_has_height s).most high.expression high.among in
    let higher = high.higher in
    let above : most_height < module_height s = omega (arith, most, higher) in
    λ i. answer (le-leb (nodes_in (trees_of s)) most_nodes few i) (lt-leb (module_height s) most_height above i)

-- ---- written

definitions_low : (ds : List Defined) → AllByRecursion IsWrittenDefinition ds → greatest (bodies ds) ≤ most_height
definitions_low [] h = omega arith
definitions_low (Given x v ∷ ds) h = absurd h.0
definitions_low (Means x ps e ∷ ds) h = let low = h.0.2.low in omega (arith, low, definitions_low ds h.1)

actions_low : (as' : List (Name × Tree)) → AllByRecursion IsWrittenAction as' → greatest (map (λ a. a.1) as') ≤ most_height
actions_low [] h = omega arith
actions_low (a ∷ as') h = let low = h.0.1.low in omega (arith, low, actions_low as' h.1)

processes_low : (ps : List WrittenProcess) → AllByRecursion IsWrittenProcess ps → greatest (flat_map process_expressions ps) ≤ most_height
processes_low [] h = omega arith
processes_low (p ∷ ps) h =
    let all = greatest_append (process_expressions p) (flat_map process_expressions ps) in
    let own = greatest_append (map (λ a. a.1) p.actions) (process_body p ∷ []) in
    let low = h.0.own.low in
    let actions = actions_low p.actions h.0.actions in
    let rest = processes_low ps h.1 in
    omega (arith, all, own, low, actions, rest)

pub written_low : (m : Module) → IsWritten m → greatest (expressions_of m) ≤ most_height
written_low m h =
    let all = four_appended (bodies m.definitions) (proc_set_of m ∷ m.init ∷ []) (flat_map process_expressions m.processes) (terminating_body m ∷ next_body m ∷ []) in
    let definitions = definitions_low m.definitions h.definitions in
    let processes = processes_low m.processes h.processes in
    let sets = h.sets.low in
    let init = h.init.low in
    let ending = h.ending.low in
    let next = h.next.low in
    omega (arith, all, definitions, processes, sets, init, ending, next)

pub deep_is_not_written : (s : Spec) → expand_refusal s ≡ Some (errors.Deep 513) → IsWritten (module_of s) → ⊥
deep_is_not_written s h written =
    let k = deep s h in
    let low = written_low (module_of s) written in
    let same = module_heights s in
    omega (arith, k, low, same)

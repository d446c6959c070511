-- The module that the lines have is the one whose parts they are.
use Rattle.std.proofs.Common.{◌≡◌, Bool, true, false, ◌&&◌, List, [], ◌∷◌, ◌++◌, map, reverse, Some, None, refl, ap, sym, ◌∙◌, subst, cond, codes}
use Rattle.std.specs.List.{AllByRecursion}
use Rattle.std.proofs.lemmas.Bool.{and_parts}
use Rattle.std.proofs.lemmas.List.{append-nil, reverse-reverse, reverse-append}
use Rattle.pgo_base.specs.declared.expr.Infix.TheVariants as infixs
use Rattle.pgo_base.specs.Lookup.{Name}
use Rattle.pgo_base.specs.Tree.{Tree, binary, name}
use Rattle.pgo_base.specs.declared.module.Action.{Action}
use Rattle.pgo_base.specs.declared.module.Module as memory
use Rattle.pgo_base.specs.declared.module.WrittenProcess as base
use Rattle.pgo_lexer.proofs.Runs.{cond_true}
use Rattle.pgo_model.specs.Module.{Module, WrittenProcess, joined_by, any_of, union_of, process_step, proc_set_of, process_definitions, terminating_body, next_body}
use Rattle.pgo_model.specs.ModuleView.{module_view, process_view, defined_view}
use Rattle.pgo_model.specs.Names.{same_bytes-self, same_bytes-is}
use Rattle.pgo_model.specs.Val.{Means}
use Rattle.pgo_model.specs.ValueText.{same_bytes}
use Rattle.pgo_model.specs.Written.{default_init_value, proc_set, terminating}
use Rattle.pgo_mpcal_read.specs.ReadingSpec.{if_some}
use Rattle.pgo_expr_write.specs.WellFormed.{IsWellFormed, IsName, AreSomeNames}
use Rattle.pgo_module_spells.specs.Parts.{parts_of, further_of, tuple_of, HasProcesses, HasActions}
use Rattle.pgo_module_read.specs.declared.lines.Lines.{Lines}
use Rattle.pgo_module_read.specs.declared.steps.Step.{Step}
use Rattle.pgo_module_read.specs.Building.{same_tree, before_default, without_default, or_parts, steps_of, processes_from, processes, module_with, candidate, has_bodies, module_of}
use Rattle.pgo_module_read.proofs.Definitions.{base_of}
use Rattle.pgo_module_read.proofs.FormedTrees.{union_formed, tuple_formed, ending_formed, next_formed, IsFormedProcess}
use Rattle.pgo_module_read.proofs.LinesExact.{parts_in, further_in, lines_from, all_actions, processes_defined, defined_action}
use Rattle.pgo_module_read.proofs.ProcessesExact.{IsFew, IsFormedAction, processes_found, base_process, processes_given}
use Rattle.pgo_module_read.proofs.SameTrees.{tree_is, same_self}
use Rattle.pgo_module_read.proofs.StepsExact.{some_then, or_parts_is, joined_more, StepsFound, steps_found, step_of, steps_given}

-- ---- constants

default_by : (b : Bool) (x : Name) (xs cs : List Name) → same_bytes x default_init_value ≡ b → cond b (Some (reverse xs)) None ≡ Some cs → (x ≡ default_init_value) × (reverse xs ≡ cs)
default_by true x xs cs is e = (same_bytes-is x default_init_value is, cc)
default_by false x xs cs is e = cc

default_last : (xs zs cs : List Name) → reverse xs ≡ zs → before_default zs ≡ Some cs → xs ≡ cs ++ (default_init_value ∷ [])
default_last xs [] cs is e = cc
default_last xs (x ∷ zs) cs is e =
    let q = default_by (same_bytes x default_init_value) x zs cs refl e in
    sym (reverse-reverse xs) ∙ ap reverse is ∙ reverse-append (x ∷ []) zs ∙ (λ i. q.1 i ++ (q.0 i ∷ []))

default_given : (cs : List Name) → without_default (cs ++ (default_init_value ∷ [])) ≡ Some cs
default_given cs =
    ap before_default (reverse-append cs (default_init_value ∷ []))
    ∙ cond_true (same_bytes default_init_value default_init_value) (Some (reverse (reverse cs))) None (same_bytes-self default_init_value) ∙ ap Some (reverse-reverse cs)

-- ---- what is built is so

-- what stands in the lines is well formed
pub record IsFormed (l : Lines) : Type 0 where
  pub variables : AreSomeNames l.declared.variables
  pub vars : IsWellFormed l.further.vars
  pub sets : IsWellFormed l.further.sets
  pub actions : AllByRecursion IsFormedAction l.further.actions
  pub ending : IsWellFormed l.further.ending
  pub next : IsWellFormed l.further.next

-- the processes
record FoundIn (next sets : Tree) (as' : List Action) (ps : List WrittenProcess) : Type 0 where
  union : sets ≡ union_of (map (λ p. p.ids) ps)
  actions : as' ≡ all_actions ps
  formed : IsWellFormed next → IsWellFormed sets → AllByRecursion IsFormedProcess ps
  some : ps ≡ [] → ⊥
  each : AllByRecursion HasActions ps

ids_are : (ps : List WrittenProcess) → map (λ x. x.ids) (map step_of ps) ≡ map (λ p. p.ids) ps
ids_are [] = refl
ids_are (p ∷ ps) = ap (λ z. p.ids ∷ z) (ids_are ps)

all_formed : (ps : List WrittenProcess) → AllByRecursion (λ x. IsName x.name) (map step_of ps) → AllByRecursion IsWellFormed (map (λ p. p.ids) ps) → AllByRecursion IsFormedProcess ps
all_formed [] h k = tt
all_formed (p ∷ ps) h k = (record { name = h.0; ids = k.0 }, all_formed ps h.1 k.1)

all_sets : (p : WrittenProcess) (ps : List WrittenProcess) → IsWellFormed (union_of (map (λ p. p.ids) (p ∷ ps))) → AllByRecursion IsWellFormed (map (λ p. p.ids) (p ∷ ps))
all_sets p ps h = union_formed p.ids (map (λ p. p.ids) ps) h

left_formed : (n a b : Tree) → n ≡ binary infixs.Or a b → IsWellFormed n → IsWellFormed a
left_formed n a b q h = (subst IsWellFormed q h).0

found_by : (next sets : Tree) (before : Tree) (ss : List Step) (as' : List Action) (ps : List WrittenProcess) → (IsWellFormed next → IsWellFormed before) → StepsFound before sets [] ss → map step_of ps ≡ ss → as' ≡ all_actions ps → AllByRecursion HasActions ps
    → FoundIn next sets as' ps
found_by next sets before ss as' [] left f same actions each = absurd (let q = same ∙ f.is in cc)
found_by next sets before ss as' (p ∷ ps) left f same actions each =
    let all : map step_of (p ∷ ps) ≡ f.first ∷ f.others = same ∙ f.is ∙ append-nil (f.first ∷ f.others) in
    let ids : f.first.ids ∷ map (λ x. x.ids) f.others ≡ map (λ p. p.ids) (p ∷ ps) = ap (map (λ x. x.ids)) (sym all) ∙ ids_are (p ∷ ps) in
    let U : List Tree → Tree = union_of in
    let union : sets ≡ union_of (map (λ p. p.ids) (p ∷ ps)) = f.sets ∙ ap U ids in
    record {
      union = union;
      actions = actions;
      formed = λ n s. all_formed (p ∷ ps) (subst (AllByRecursion (λ x. IsName x.name)) (sym all) (f.named (left n))) (all_sets p ps (subst IsWellFormed union s));
      some = λ q. (cc);
      each = each;
    }

found_in : (next sets : Tree) (as' : List Action) (ps : List base.WrittenProcess) → processes next sets as' ≡ Some ps → AllByRecursion IsFormedAction as' → FoundIn next sets as' (map process_view ps)
found_in next sets as' ps e h =
    some_then (steps_of next sets) _ ps (FoundIn next sets as' (map process_view ps)) e (λ ss got e.
    some_then (or_parts next) _ ss (FoundIn next sets as' (map process_view ps)) got (λ p is got.
    let f = steps_found p.0 sets [] ss got in
    let r = processes_found [] ss as' ps e h in
    let P : List base.WrittenProcess → Type 0 = λ z. FoundIn next sets as' (map process_view z) in
    subst P (sym r.is) (found_by next sets p.0 ss as' (map process_view r.more) (left_formed next p.0 p.1 (or_parts_is next p.0 p.1 is)) f r.steps r.actions r.each)))

-- the bodies that are compared
record Bodies (m : memory.Module) (v t n : Tree) : Type 0 where
  vars : v ≡ tuple_of m.variables
  ending : t ≡ terminating_body (module_view m)
  next : n ≡ next_body (module_view m)

bodies_are : (m : memory.Module) (v t n : Tree) → has_bodies m v t n ≡ true → AreSomeNames m.variables → AllByRecursion IsFormedProcess (map process_view m.processes) → IsWellFormed v → IsWellFormed t → IsWellFormed n → Bodies m v t n
bodies_are m v t n e names formed hv ht hn =
    let q = and_parts (same_tree v (tuple_of m.variables)) _ e in
    let r = and_parts (same_tree t (terminating_body (module_view m))) (same_tree n (next_body (module_view m))) q.1 in
    record {
      vars = tree_is v (tuple_of m.variables) hv (tuple_formed m.variables names) q.0;
      ending = tree_is t (terminating_body (module_view m)) ht (ending_formed (module_view m) names) r.0;
      next = tree_is n (next_body (module_view m)) hn (next_formed (module_view m) formed) r.1;
    }

pub record IsBuilt (l : Lines) (m : memory.Module) : Type 0 where
  pub parts : parts_in l ≡ parts_of (module_view m)
  pub processes : HasProcesses (module_view m)

built : (l : Lines) (ps : List base.WrittenProcess) (cs : List Name) → IsFormed l → FoundIn l.further.next l.further.sets l.further.actions (map process_view ps) → l.declared.constants ≡ cs ++ (default_init_value ∷ [])
    → has_bodies (module_with l.declared l.further.init cs ps) l.further.vars l.further.ending l.further.next ≡ true → IsBuilt l (module_with l.declared l.further.init cs ps)
built l ps cs h f constants e =
    let m = module_with l.declared l.further.init cs ps in
    let b = bodies_are (module_with l.declared l.further.init cs ps) l.further.vars l.further.ending l.further.next e h.variables (f.formed h.next h.sets) h.vars h.ending h.next in
    let actions : map defined_action l.further.actions ≡ process_definitions (map process_view ps) = ap (map defined_action) f.actions ∙ processes_defined (map process_view ps) in
    let further : further_in l ≡ further_of (module_view (module_with l.declared l.further.init cs ps)) =
    (λ i. Means (codes "vars") [] (b.vars i) ∷ Means proc_set [] (f.union i) ∷ Means (codes "Init") [] l.further.init ∷ (actions i ++ (Means terminating [] (b.ending i) ∷ Means (codes "Next") [] (b.next i) ∷ []))) in
    record {
      parts = λ i. record { name = l.declared.name; constants = constants i; definitions = map defined_view l.declared.definitions; variables = l.declared.variables; further = further i };
      processes = record { some = f.some; each = f.each };
    }

if_is : (b : Bool) (m k : memory.Module) → cond b (Some m) None ≡ Some k → (b ≡ true) × (m ≡ k)
if_is true m k e = (refl, cc)
if_is false m k e = cc

pub module_found : (l : Lines) (m : memory.Module) → IsFormed l → module_of l ≡ Some m → IsBuilt l m
unfolding module_of
module_found l m h e =
    some_then (processes l.further.next l.further.sets l.further.actions) _ m (IsBuilt l m) e (λ ps got e.
    some_then (candidate l.declared l.further.init ps) _ m (IsBuilt l m) e (λ k is e.
    some_then (without_default l.declared.constants) _ k (IsBuilt l m) is (λ cs was is.
    let w : module_with l.declared l.further.init cs ps ≡ k = cc in
    let q = if_is (has_bodies k l.further.vars l.further.ending l.further.next) k m e in
    let P : memory.Module → Type 0 = λ z. IsBuilt l z in
    let checked : has_bodies (module_with l.declared l.further.init cs ps) l.further.vars l.further.ending l.further.next ≡ true = ap (λ z. has_bodies z l.further.vars l.further.ending l.further.next) w ∙ q.0 in
    subst P (w ∙ q.1) (built l ps cs h (found_in l.further.next l.further.sets l.further.actions ps got h.actions) (default_last l.declared.constants (reverse l.declared.constants) cs refl was) checked))))

-- ---- what is so is built

-- a module as it lies in memory
abbrev pub in_memory : Module → memory.Module
in_memory m = record { name = m.name; constants = m.constants; definitions = map base_of m.definitions; variables = m.variables; init = m.init; processes = map base_process m.processes }

processes_back : (ps : List WrittenProcess) → map process_view (map base_process ps) ≡ ps
processes_back [] = refl
processes_back (p ∷ ps) = ap (λ z. p ∷ z) (processes_back ps)

pub same_module : (m : Module) → map defined_view (map base_of m.definitions) ≡ m.definitions → module_view (in_memory m) ≡ m
same_module m views = λ i. record { name = m.name; constants = m.constants; definitions = views i; variables = m.variables; init = m.init; processes = processes_back m.processes i }

next_parts : (p : WrittenProcess) (ps : List WrittenProcess) → joined_by infixs.Or (process_step p) (map process_step ps ++ (name terminating ∷ [])) ≡ binary infixs.Or (joined_by infixs.Or (process_step p) (map process_step ps)) (name terminating)
next_parts p ps = joined_more infixs.Or (process_step p) (map process_step ps) (name terminating)

processes_of : (ps : List WrittenProcess) (n s : Tree) → (ps ≡ [] → ⊥) → AllByRecursion HasActions ps → AllByRecursion IsFew ps → n ≡ any_of (map process_step ps ++ (name terminating ∷ [])) → s ≡ union_of (map (λ p. p.ids) ps) → processes n s (all_actions ps) ≡ Some (map base_process ps)
processes_of [] n s some each few q r = absurd (some refl)
processes_of (p ∷ ps) n s some each few q r =
    (λ i. processes ((q ∙ next_parts p ps) i) (r i) (all_actions (p ∷ ps)))
    ∙ ap (λ o. if_some o (λ ss. processes_from [] ss (all_actions (p ∷ ps)))) (steps_given p ps)
    ∙ processes_given [] (p ∷ ps) each few

bodies_given : (m : Module) → module_view (in_memory m) ≡ m → has_bodies (in_memory m) (tuple_of m.variables) (terminating_body m) (next_body m) ≡ true
bodies_given m back =
    (λ i. same_tree (tuple_of m.variables) (tuple_of m.variables) && (same_tree (terminating_body m) (terminating_body (back i)) && same_tree (next_body m) (next_body (back i))))
    ∙ (λ i. same_self (tuple_of m.variables) i && (same_self (terminating_body m) i && same_self (next_body m) i))

pub module_given : (m : Module) → HasProcesses m → AllByRecursion IsFew m.processes → map defined_view (map base_of m.definitions) ≡ m.definitions → module_of (lines_from m) ≡ Some (in_memory m)
unfolding module_of
module_given m h few views =
    let l = lines_from m in
    ap (λ o. if_some o (λ ps. if_some (candidate (lines_from m).declared m.init ps) (λ k. cond (has_bodies k (tuple_of m.variables) (terminating_body m) (next_body m)) (Some k) None)))
    (processes_of m.processes (next_body m) (proc_set_of m) h.some h.each few refl refl)
    ∙ ap (λ o. if_some (if_some o (λ cs. Some (module_with (lines_from m).declared m.init cs (map base_process m.processes)))) (λ k. cond (has_bodies k (tuple_of m.variables) (terminating_body m) (next_body m)) (Some k) None)) (default_given m.constants)
    ∙ cond_true (has_bodies (in_memory m) (tuple_of m.variables) (terminating_body m) (next_body m)) _ _ (bodies_given m (same_module m views))

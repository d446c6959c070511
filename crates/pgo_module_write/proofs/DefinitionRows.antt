-- Rows of definitions, and those that a module's lines make.
use Rattle.std.proofs.Common.{◌≡◌, ◌≤◌, ℕ, List, [], ◌∷◌, ◌++◌, map, refl, ap, sym, ◌∙◌, arith, lit≤}
use Rattle.std.specs.Prelude.{codes}
use Rattle.std.specs.List.{AllByRecursion}
use Rattle.std.proofs.lemmas.List.{append_assoc}
use Rattle.pgo_base.specs.Lookup.{Name}
use Rattle.pgo_base.specs.Tree.{Tree, name, trees}
use Rattle.pgo_model.specs.ExprText.{list_text, names_text}
use Rattle.pgo_model.specs.Module.{Module, WrittenProcess, process_body, action_definition, process_definitions, terminating_body, next_body}
use Rattle.pgo_model.specs.ModuleText.{Line, line, flatten, flat_lines, defined_lines, action_lines, definition_lines, process_lines, with_self}
use Rattle.pgo_model.specs.Val.{Defined, Given, Means}
use Rattle.pgo_model.specs.Written.{self_name, terminating}
use Rattle.pgo_lexer.specs.declared.token.Lexeme.{Lexeme}
use Rattle.pgo_expr_read.specs.Heights.{trees_height}
use Rattle.pgo_mpcal_read.specs.Elements.{Row, nothing, another}
use Rattle.pgo_expr_write.specs.WellFormed.{AreNames, AreAll}
use Rattle.pgo_expr_write.proofs.Lexed.{SignsEnd}
use Rattle.pgo_module_spells.specs.Grammar.{IsDefined}
use Rattle.pgo_module_spells.specs.Parts.{tuple_of, further_of}
use Rattle.pgo_module_spells.specs.Written.{IsWritable, IsWrittenDefinition, IsWrittenAction, IsWrittenProcess, IsWritten}
use Rattle.pgo_module_write.proofs.Joins.{flatten_more, self_head}
use Rattle.pgo_module_write.proofs.Blocks.{Said, said_nothing, said_both, said_text}
use Rattle.pgo_module_write.proofs.DefinedLines.{definition_said}

abbrev pub Rows : List Defined → List Lexeme → Type 0
Rows ds ts = Row IsDefined ts ds

abbrev pub rows_text : List Defined → List ℕ
rows_text ds = flatten (flat_lines (map defined_lines ds))

one_said : SignsEnd → (d : Defined) → IsWrittenDefinition d → Said (λ ts. IsDefined ts d) (flatten (defined_lines d))
one_said ends (Given x v) h = absurd h
one_said ends (Means x ps e) h = definition_said ends x ps e h.0 h.1 h.2

pub rows_said : SignsEnd → (ds : List Defined) → AllByRecursion IsWrittenDefinition ds → Said (Rows ds) (rows_text ds)
rows_said ends [] h = said_nothing nothing
rows_said ends (d ∷ ds) h =
    said_text (flatten (defined_lines d) ++ rows_text ds) (rows_text (d ∷ ds)) (sym (flatten_more (defined_lines d) (flat_lines (map defined_lines ds))))
    (said_both (λ xs ys is are. another is are) (flatten (defined_lines d)) (rows_text ds) (one_said ends d h.0) (rows_said ends ds h.1))

-- ---- what is written

pub all_append : (xs ys : List Defined) → AllByRecursion IsWrittenDefinition xs → AllByRecursion IsWrittenDefinition ys → AllByRecursion IsWrittenDefinition (xs ++ ys)
all_append [] ys h k = k
all_append (x ∷ xs) ys h k = (h.0, all_append xs ys h.1 k)

self_named : AreNames (self_name ∷ [])
self_named = ((refl, lit≤ tt), tt)

actions_written : (as' : List (Name × Tree)) → AllByRecursion IsWrittenAction as' → AllByRecursion IsWrittenDefinition (map action_definition as')
actions_written [] h = tt
actions_written (a ∷ as') h = ((h.0.0, self_named, h.0.1), actions_written as' h.1)

processes_written : (ps : List WrittenProcess) → AllByRecursion IsWrittenProcess ps → AllByRecursion IsWrittenDefinition (process_definitions ps)
processes_written [] h = tt
processes_written (p ∷ ps) h =
    all_append (map action_definition p.actions) (Means p.name (self_name ∷ []) (process_body p) ∷ process_definitions ps) (actions_written p.actions h.0.actions) ((h.0.name, self_named, h.0.own), processes_written ps h.1)

names_formed : (xs : List Name) → AreNames xs → AreAll (trees (map name xs))
names_formed [] h = tt
names_formed (x ∷ xs) h = (h.0, names_formed xs h.1)

names_low : (xs : List Name) → trees_height (trees (map name xs)) ≤ 1
names_low [] = omega arith
names_low (x ∷ xs) = omega (arith, names_low xs)

tuple_written : (xs : List Name) → AreNames xs → IsWritable (tuple_of xs)
tuple_written xs h = record { formed = names_formed xs h; low = omega (arith, names_low xs) }

pub further_written : (m : Module) → IsWritten m → AllByRecursion IsWrittenDefinition (further_of m)
further_written m h = (
  ((refl, lit≤ tt), tt, tuple_written m.variables h.variables),
  (
    ((refl, lit≤ tt), tt, h.sets),
    (
      ((refl, lit≤ tt), tt, h.init),
      all_append (process_definitions m.processes) (Means terminating [] (terminating_body m) ∷ Means (codes "Next") [] (next_body m) ∷ []) (processes_written m.processes h.processes)
          (((refl, lit≤ tt), tt, h.ending), (((refl, lit≤ tt), tt, h.next), tt)),
    ),
  ),
)

-- ---- their texts

pub lines_append : {A : Type 0} (f : A → List Line) (xs ys : List A) → flat_lines (map f (xs ++ ys)) ≡ flat_lines (map f xs) ++ flat_lines (map f ys)
lines_append f [] ys = refl
lines_append f (x ∷ xs) ys = ap (λ z. f x ++ z) (lines_append f xs ys) ∙ sym (append_assoc (f x) (flat_lines (map f xs)) (flat_lines (map f ys)))

actions_text : (as' : List (Name × Tree)) → flat_lines (map defined_lines (map action_definition as')) ≡ flat_lines (map action_lines as')
actions_text [] = refl
actions_text (a ∷ as') = λ i. definition_lines (self_head a.0 i) a.1 ++ actions_text as' i

pub processes_text : (ps : List WrittenProcess) → flat_lines (map defined_lines (process_definitions ps)) ≡ flat_lines (map process_lines ps)
processes_text [] = refl
processes_text (p ∷ ps) =
    lines_append defined_lines (map action_definition p.actions) (Means p.name (self_name ∷ []) (process_body p) ∷ process_definitions ps)
    ∙ (λ i. actions_text p.actions i ++ (definition_lines (self_head p.name i) (process_body p) ++ processes_text ps i))
    ∙ sym (append_assoc (flat_lines (map action_lines p.actions)) (definition_lines (with_self p.name) (process_body p)) (flat_lines (map process_lines ps)))

names_listed : (xs : List Name) → list_text (trees (map name xs)) ≡ names_text xs
names_listed [] = refl
names_listed (x ∷ []) = refl
names_listed (x ∷ (y ∷ ys)) = ap (λ z. x ++ codes ", " ++ z) (names_listed (y ∷ ys))

-- the line of `vars`
pub variables_text : (xs : List Name) → definition_lines (codes "vars") (tuple_of xs) ≡ line (codes "vars == <<" ++ names_text xs ++ codes ">>") ∷ []
variables_text xs = ap (λ z. line (codes "vars == <<" ++ z ++ codes ">>") ∷ []) (names_listed xs)

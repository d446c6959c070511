-- What stands in a module's text is well formed.
use Rattle.std.proofs.Common.{◌≡◌, ℕ, false, List, [], ◌∷◌, ◌++◌, map}
use Rattle.std.specs.List.{AllByRecursion}
use Rattle.pgo_base.specs.Lookup.{Name}
use Rattle.pgo_base.specs.Tree.{Tree}
use Rattle.pgo_base.specs.declared.module.Action.{Action}
use Rattle.pgo_lexer.specs.declared.symbol.Symbol.{Symbol}
use Rattle.pgo_lexer.specs.declared.symbol.Symbol.TheVariants as symbol
use Rattle.pgo_lexer.specs.declared.token.Lexeme.{Lexeme}
use Rattle.pgo_expr_read.specs.Lookahead.{tokens_of, has_mapped}
use Rattle.pgo_model.specs.Module.{Module, WrittenProcess, process_body, process_definitions, action_definition}
use Rattle.pgo_model.specs.Val.{Defined, Means}
use Rattle.pgo_model.specs.Written.{self_name, default_init_value}
use Rattle.pgo_spec_text.specs.SpecText.{Cut}
use Rattle.pgo_spec_text.specs.SpecText as s
use Rattle.pgo_syntax.specs.declared.name.PlacedName.{PlacedName}
use Rattle.pgo_mpcal_read.specs.Elements.{IsName, Behind, Items, Row}
use Rattle.pgo_mpcal_read.specs.Elements as elements
use Rattle.pgo_expr_write.specs.WellFormed.{AreNames, AreSomeNames}
use Rattle.pgo_expr_write.specs.WellFormed as well
use Rattle.pgo_expr_write.proofs.Formed.{AllTold, formed}
use Rattle.pgo_expr_write.proofs.ReadBack.{TheyTell, piece_told, marked_told, all_told}
use Rattle.pgo_syntax.specs.PlacedNames.{names_of}
use Rattle.pgo_module_spells.specs.Grammar.{IsExpression, IsDefined, IsHeading, AreListed, AreParts}
use Rattle.pgo_module_spells.specs.Grammar as g
use Rattle.pgo_module_spells.specs.Parts.{Parts, parts_of, HasProcesses}
use Rattle.pgo_module_spells.specs.Written.{IsWritable, IsWrittenDefinition, IsWrittenAction, IsWrittenProcess, IsWritten}
use Rattle.pgo_module_read.specs.declared.lines.Lines.{Lines}
use Rattle.pgo_module_read.proofs.Built.{IsFormed}
use Rattle.pgo_module_read.proofs.CutWhole.{IsCut}
use Rattle.pgo_module_read.proofs.LinesExact.{parts_in, defined_action}
use Rattle.pgo_module_read.proofs.ProcessesExact.{IsFormedAction}

-- ---- tokens

cut_told : {A : List ℕ → Type 0} {before part behind : List ℕ} {ls : List Lexeme} → Cut A before part behind ls → TheyTell ls
cut_told s.end = tt
cut_told (s.pass piece is ok d) = cut_told d
cut_told (s.token piece is d) = (piece_told is, cut_told d)

pub told : (text : List ℕ) (tokens : List Lexeme) → IsCut text tokens → has_mapped (tokens_of tokens) ≡ false → AllTold (tokens_of tokens)
told text tokens c plain = all_told tokens (marked_told c.marks.1 (cut_told c.cut)) plain

abbrev AreTold : List Lexeme → Type 0
AreTold ts = AllTold (tokens_of ts)

told_parts : (xs ys : List Lexeme) → AreTold (xs ++ ys) → AreTold xs × AreTold ys
told_parts [] ys h = (tt, h)
told_parts (x ∷ xs) ys h = let q = told_parts xs ys h.2 in ((h.0, h.1, q.0), q.1)

-- ---- parts

expression_formed : (ts : List Lexeme) (e : Tree) → IsExpression ts e → AreTold ts → IsWritable e
expression_formed ts e d h = record { formed = formed d.spells.2 h; low = d.spells.3 }

behind_formed : {v : Symbol} {xs : List Lexeme} {ns : List PlacedName} → Behind IsName v xs ns → AreTold xs → AreNames (names_of ns)
behind_formed elements.no_more h = tt
behind_formed (elements.one_more elements.name m) h = (h.2.0, behind_formed m h.2.2)

names_formed : {v : Symbol} {xs : List Lexeme} {ns : List PlacedName} → Items IsName v xs ns → AreTold xs → AreSomeNames (names_of ns)
names_formed (elements.items elements.name m) h = (h.0, behind_formed m h.2)

listed_formed : {w : Name} {xs : List Lexeme} {ns : List Name} → AreListed w xs ns → AreTold xs → AreSomeNames ns
listed_formed (g.listed p m) h = names_formed m h.2

are_names : (xs : List Name) → AreSomeNames xs → AreNames xs
are_names [] h = tt
are_names (x ∷ xs) h = h

definition_formed : {ts : List Lexeme} {d : Defined} → IsDefined ts d → AreTold ts → IsWrittenDefinition d
definition_formed (g.without_parameters {ts = ts} {e = e} m) h = (h.0, tt, expression_formed ts e m h.2.2)
definition_formed (g.with_parameters c d {xs = xs} {ts = ts} {ps = ps} {e = e} n m) h =
    let q = told_parts xs _ h.2.2 in
    (h.0, are_names (names_of ps) (names_formed n q.0), expression_formed ts e m q.1.2.2)

row_formed : {ts : List Lexeme} {ds : List Defined} → Row IsDefined ts ds → AreTold ts → AllByRecursion IsWrittenDefinition ds
row_formed elements.nothing h = tt
row_formed (elements.another {xs = xs} {ys = ys} o m) h = let q = told_parts xs ys h in (definition_formed o q.0, row_formed m q.1)

heading_formed : {ts : List Lexeme} {x : Name} → IsHeading ts x → AreTold ts → well.IsName x
heading_formed (g.heading p n e {xs = xs} k l m q) h = (told_parts xs _ h).1.2.0

-- the parts of a module are well formed
pub record AreFormed (p : Parts) : Type 0 where
  pub name : well.IsName p.name
  pub constants : AreSomeNames p.constants
  pub definitions : AllByRecursion IsWrittenDefinition p.definitions
  pub variables : AreSomeNames p.variables
  pub further : AllByRecursion IsWrittenDefinition p.further

pub parts_formed : {ts : List Lexeme} {p : Parts} → AreParts ts p → AreTold ts → AreFormed p
parts_formed (g.parts {xs = xs} {cs = cs} {ds = ds} {vs = vs} {fs = fs} kh kc kd kv kf ke) h =
    let a = told_parts xs _ h in
    let b = told_parts cs _ a.1 in
    let c = told_parts ds _ b.1 in
    let d = told_parts vs _ c.1 in
    let e = told_parts fs _ d.1 in
    record { name = heading_formed kh a.0; constants = listed_formed kc b.0; definitions = row_formed kd c.0; variables = listed_formed kv d.0; further = row_formed kf e.0 }

-- ---- what is read

all_front : {A : Type 0} (P : A → Type 0) (xs ys : List A) → AllByRecursion P (xs ++ ys) → AllByRecursion P xs × AllByRecursion P ys
all_front P [] ys h = (tt, h)
all_front P (x ∷ xs) ys h = let k = all_front P xs ys h.1 in ((h.0, k.0), k.1)

actions_formed : (as' : List Action) → AllByRecursion IsWrittenDefinition (map defined_action as') → AllByRecursion IsFormedAction as'
actions_formed [] h = tt
actions_formed (a ∷ as') h = (record { name = h.0.0; body = h.0.2.formed }, actions_formed as' h.1)

pub lines_formed : (l : Lines) → AreFormed (parts_in l) → IsFormed l
lines_formed l h =
    let k = all_front IsWrittenDefinition (map defined_action l.further.actions) _ h.further.1.1.1 in
    record {
      variables = h.variables;
      vars = h.further.0.2.formed;
      sets = h.further.1.0.2.formed;
      actions = actions_formed l.further.actions k.0;
      ending = k.1.0.2.formed;
      next = k.1.1.0.2.formed;
    }

-- ---- what is written

names_before : (xs : List Name) (x : Name) → AreSomeNames (xs ++ x ∷ []) → AreNames xs
names_before [] x h = tt
names_before (y ∷ xs) x h = (h.0, go xs h.1)
  where
    go : (xs : List Name) → AreNames (xs ++ x ∷ []) → AreNames xs
    go [] h = tt
    go (y ∷ xs) h = (h.0, go xs h.1)

some_name : (xs : List Name) → AreSomeNames xs → xs ≡ [] → ⊥
some_name [] h q = h
some_name (x ∷ xs) h q = cc

written_actions : (as' : List (Name × Tree)) → AllByRecursion IsWrittenDefinition (map action_definition as') → AllByRecursion IsWrittenAction as'
written_actions [] h = tt
written_actions (a ∷ as') h = ((h.0.0, h.0.2), written_actions as' h.1)

written_processes : (ps : List WrittenProcess) → AllByRecursion IsWrittenDefinition (process_definitions ps) → AllByRecursion IsWrittenProcess ps
written_processes [] h = tt
written_processes (p ∷ ps) h =
    let k = all_front IsWrittenDefinition (map action_definition p.actions) (Means p.name (self_name ∷ []) (process_body p) ∷ process_definitions ps) h in
    (record { name = k.1.0.0; actions = written_actions p.actions k.0; own = k.1.0.2 }, written_processes ps k.1.1)

pub module_written : (m : Module) → AreFormed (parts_of m) → HasProcesses m → IsWritten m
module_written m h has =
    let k = all_front IsWrittenDefinition (process_definitions m.processes) _ h.further.1.1.1 in
    record {
      name = h.name;
      constants = names_before m.constants default_init_value h.constants;
      definitions = h.definitions;
      variables = are_names m.variables h.variables;
      some_variable = some_name m.variables h.variables;
      sets = h.further.1.0.2;
      init = h.further.1.1.0.2;
      processes = written_processes m.processes k.0;
      ending = k.1.0.2;
      next = k.1.1.0.2;
      has_processes = has;
    }

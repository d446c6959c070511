-- The canonical text of a module spells it: its lines in order, and the closing row.
use Rattle.std.proofs.Common.{◌≡◌, ◌≤◌, ◌+◌, inl, inr, ℕ, false, List, [], ◌∷◌, ◌++◌, map, length, refl, ap, sym, ◌∙◌, subst, arith, lit≤}
use Rattle.std.specs.Prelude.{codes}
use Rattle.std.proofs.lemmas.List.{append_assoc, append-nil, length-append}
use Rattle.pgo_base.specs.Lookup.{Name}
use Rattle.pgo_model.specs.Module.{Module, proc_set_of, terminating_body, next_body, process_definitions}
use Rattle.pgo_model.specs.ExprText.{names_text}
use Rattle.pgo_model.specs.ModuleText.{Line, line, flatten, flat_lines, defined_lines, definition_lines, process_lines, Text}
use Rattle.pgo_model.specs.Val.{Means}
use Rattle.pgo_model.specs.Written.{default_init_value, proc_set, terminating}
use Rattle.pgo_lexer.specs.declared.token.Lexeme.{Lexeme}
use Rattle.pgo_lexer.specs.declared.symbol.Symbol.TheVariants as symbol
use Rattle.pgo_lexer.specs.Layout as layout
use Rattle.pgo_expr_read.specs.Texts.{most_tokens}
use Rattle.pgo_spec_text.specs.SpecText.{IsFirst, IsModuleLine}
use Rattle.pgo_mpcal_read.specs.Elements.{at}
use Rattle.pgo_expr_write.specs.WellFormed.{AreNames}
use Rattle.pgo_expr_write.proofs.Lexed.{SignsEnd}
use Rattle.pgo_module_spells.specs.Grammar.{IsEnding, AreParts, parts}
use Rattle.pgo_module_spells.specs.Parts.{parts_of, further_of}
use Rattle.pgo_module_spells.specs.Spells.{SpellsModule}
use Rattle.pgo_module_spells.specs.Written.{IsWritten}
use Rattle.pgo_module_write.proofs.Joins.{flatten_more}
use Rattle.pgo_module_write.proofs.Spaces.{as_many_bytes}
use Rattle.pgo_module_write.proofs.Cuts.{cut_both}
use Rattle.pgo_module_write.proofs.Blocks.{Said, said_both, both_plainly}
use Rattle.pgo_module_write.proofs.ListLines.{Lists, some_listed}
use Rattle.pgo_module_write.proofs.HeadingLines.{Heads, heading_said}
use Rattle.pgo_module_write.proofs.ClosingLines.{row, Closed, spec_said, ends_with_row, first_spot, second_spot, row_is, row_cut}
use Rattle.pgo_module_write.proofs.DefinitionRows.{Rows, rows_text, rows_said, further_written, lines_append, processes_text, variables_text}

-- ---- the lines before the closing row

abbrev heading_text : Module → List ℕ
heading_text m = line (codes "---- MODULE " ++ m.name ++ codes " ----") ++ line (codes "EXTENDS Integers, Sequences, FiniteSets, TLC")

abbrev constants : Module → List Name
constants m = m.constants ++ (default_init_value ∷ [])

abbrev constants_text : Module → List ℕ
constants_text m = line (codes "CONSTANTS " ++ names_text (constants m))

abbrev variables_line : Module → List ℕ
variables_line m = line (codes "VARIABLES " ++ names_text m.variables)

abbrev spec_text : List ℕ
spec_text = line (codes "Spec == Init /\\ [][Next]_vars")

abbrev front_text : Module → List ℕ
front_text m = heading_text m ++ (constants_text m ++ (rows_text m.definitions ++ (variables_line m ++ (rows_text (further_of m) ++ spec_text))))

-- ---- their tokens

-- tokens of one kind, and others behind them
record Joined (A B : List Lexeme → Type 0) (ts : List Lexeme) : Type 0 where
  front : List Lexeme
  rest : List Lexeme
  is : ts ≡ front ++ rest
  first : A front
  second : B rest

join : {A B : List Lexeme → Type 0} (xs ys : List Lexeme) → A xs → Closed B ys → Closed (Joined A B) (xs ++ ys)
join xs ys a b = λ p q. record { front = xs; rest = ys ++ row p q; is = append_assoc xs ys (row p q); first = a; second = b p q }

abbrev Further : Module → List Lexeme → Type 0
Further m = Joined (Rows (further_of m)) IsEnding

abbrev Variables : Module → List Lexeme → Type 0
Variables m = Joined (Lists (codes "VARIABLES") m.variables) (Further m)

abbrev Definitions : Module → List Lexeme → Type 0
Definitions m = Joined (Rows m.definitions) (Variables m)

abbrev Constants : Module → List Lexeme → Type 0
Constants m = Joined (Lists (codes "CONSTANTS") (constants m)) (Definitions m)

abbrev Lines : Module → List Lexeme → Type 0
Lines m = Joined (Heads m.name) (Constants m)

are_parts : (m : Module) (ts : List Lexeme) → Lines m ts → AreParts ts (parts_of m)
are_parts m ts h =
    let c = h.second in
    let d = c.second in
    let v = d.second in
    let f = v.second in
    let whole : ts ≡ h.front ++ (c.front ++ (d.front ++ (v.front ++ (f.front ++ f.rest)))) =
    h.is ∙ ap (λ z. h.front ++ z) (c.is ∙ ap (λ z. c.front ++ z) (d.is ∙ ap (λ z. d.front ++ z) (v.is ∙ ap (λ z. v.front ++ z) f.is))) in
    subst (λ z. AreParts z (parts_of m)) (sym whole) (parts h.first c.first d.first v.first f.first f.second)

names_too : (xs ys : List Name) → AreNames xs → AreNames ys → AreNames (xs ++ ys)
names_too [] ys h k = k
names_too (x ∷ xs) ys h k = (h.0, names_too xs ys h.1 k)

some_more : (xs : List Name) (y : Name) → xs ++ (y ∷ []) ≡ [] → ⊥
some_more [] y e = cc
some_more (x ∷ xs) y e = cc

front_said : SignsEnd → (m : Module) → IsWritten m → Said (Closed (Lines m)) (front_text m)
front_said ends m h =
    let further = said_both join (rows_text (further_of m)) spec_text (rows_said ends (further_of m) (further_written m h)) (spec_said ends) in
    let variables = said_both join (variables_line m) _ (some_listed ends (codes "VARIABLES") m.variables (refl, lit≤ tt) h.variables h.some_variable) further in
    let definitions = said_both join (rows_text m.definitions) _ (rows_said ends m.definitions h.definitions) variables in
    let constants_are = names_too m.constants (default_init_value ∷ []) h.constants ((refl, lit≤ tt), tt) in
    let listed = said_both join (constants_text m) _ (some_listed ends (codes "CONSTANTS") (constants m) (refl, lit≤ tt) constants_are (some_more m.constants default_init_value)) definitions in
    said_both join (heading_text m) _ (heading_said ends m.name h.name) listed

-- ---- the text

two : (x y : List Line) (r : List ℕ) → flatten (x ++ y) ++ r ≡ flatten x ++ (flatten y ++ r)
two x y r = ap (λ z. z ++ r) (flatten_more x y) ∙ append_assoc (flatten x) (flatten y) r

nine : (a b c d e f g h i : List Line) → flatten (a ++ b ++ c ++ d ++ e ++ f ++ g ++ h ++ i)
    ≡ flatten a ++ (flatten b ++ (flatten c ++ (flatten d ++ (flatten e ++ (flatten f ++ (flatten g ++ (flatten h ++ flatten i)))))))
nine a b c d e f g h i =
    flatten_more (a ++ b ++ c ++ d ++ e ++ f ++ g ++ h) i
    ∙ two (a ++ b ++ c ++ d ++ e ++ f ++ g) h (flatten i)
    ∙ two (a ++ b ++ c ++ d ++ e ++ f) g (flatten h ++ flatten i)
    ∙ two (a ++ b ++ c ++ d ++ e) f (flatten g ++ (flatten h ++ flatten i))
    ∙ two (a ++ b ++ c ++ d) e (flatten f ++ (flatten g ++ (flatten h ++ flatten i)))
    ∙ two (a ++ b ++ c) d (flatten e ++ (flatten f ++ (flatten g ++ (flatten h ++ flatten i))))
    ∙ two (a ++ b) c (flatten d ++ (flatten e ++ (flatten f ++ (flatten g ++ (flatten h ++ flatten i)))))
    ∙ two a b (flatten c ++ (flatten d ++ (flatten e ++ (flatten f ++ (flatten g ++ (flatten h ++ flatten i))))))

six : (v d e f g h : List Line) → flatten v ++ (flatten d ++ (flatten e ++ (flatten f ++ (flatten g ++ flatten h)))) ≡ flatten (v ++ (d ++ (e ++ (f ++ (g ++ (h ++ []))))))
six v d e f g h = sym
    (flatten_more v (d ++ (e ++ (f ++ (g ++ (h ++ [])))))
    ∙ ap (λ z. flatten v ++ z) (flatten_more d (e ++ (f ++ (g ++ (h ++ []))))
    ∙ ap (λ z. flatten d ++ z) (flatten_more e (f ++ (g ++ (h ++ [])))
    ∙ ap (λ z. flatten e ++ z) (flatten_more f (g ++ (h ++ []))
    ∙ ap (λ z. flatten f ++ z) (flatten_more g (h ++ [])
    ∙ ap (λ z. flatten g ++ z) (ap flatten (append-nil h)))))))

-- the lines from `vars` to Next
further_text : (m : Module)
    → flatten (line (codes "vars == <<" ++ names_text m.variables ++ codes ">>") ∷ []) ++ (flatten (definition_lines proc_set (proc_set_of m)) ++ (flatten (definition_lines (codes "Init") m.init)
    ++ (flatten (flat_lines (map process_lines m.processes)) ++ (flatten (definition_lines terminating (terminating_body m)) ++ flatten (definition_lines (codes "Next") (next_body m))))))
    ≡ rows_text (further_of m)
further_text m =
    let sets = definition_lines proc_set (proc_set_of m) in
    let init = definition_lines (codes "Init") m.init in
    let ended = definition_lines terminating (terminating_body m) in
    let next = definition_lines (codes "Next") (next_body m) in
    let last = Means terminating [] (terminating_body m) ∷ Means (codes "Next") [] (next_body m) ∷ [] in
    let processes : flat_lines (map process_lines m.processes) ++ (ended ++ (next ++ [])) ≡ flat_lines (map defined_lines (process_definitions m.processes ++ last)) =
    ap (λ z. z ++ (ended ++ (next ++ []))) (sym (processes_text m.processes)) ∙ sym (lines_append defined_lines (process_definitions m.processes) last) in
    six (line (codes "vars == <<" ++ names_text m.variables ++ codes ">>") ∷ []) sets init (flat_lines (map process_lines m.processes)) ended next
    ∙ (λ i. flatten (sym (variables_text m.variables) i ++ (sets ++ (init ++ processes i))))

grouped : (a b c d v w e f g h i s z : List ℕ) → (a ++ (b ++ (c ++ []))) ++ (d ++ ((v ++ (w ++ [])) ++ (e ++ (f ++ (g ++ (h ++ (i ++ (s ++ (z ++ [])))))))))
    ≡ ((a ++ b) ++ (c ++ (d ++ (v ++ (((w ++ []) ++ (e ++ (f ++ (g ++ (h ++ i))))) ++ s))))) ++ z
grouped a b c d v w e f g h i s z = simp (append_assoc, append-nil)

text_is : (m : Module) → Text m ≡ front_text m ++ line (codes "====")
text_is m =
    let title = line (codes "---- MODULE " ++ m.name ++ codes " ----") in
    let extends = line (codes "EXTENDS Integers, Sequences, FiniteSets, TLC") in
    let definitions = flat_lines (map defined_lines m.definitions) in
    let vars = line (codes "vars == <<" ++ names_text m.variables ++ codes ">>") in
    let sets = definition_lines proc_set (proc_set_of m) in
    let init = definition_lines (codes "Init") m.init in
    let processes = flat_lines (map process_lines m.processes) in
    let ended = definition_lines terminating (terminating_body m) in
    let next = definition_lines (codes "Next") (next_body m) in
    nine (title ∷ extends ∷ constants_text m ∷ []) definitions (variables_line m ∷ vars ∷ []) sets init processes ended next (spec_text ∷ line (codes "====") ∷ [])
    ∙ grouped title extends (constants_text m) (flatten definitions) (variables_line m) vars (flatten sets) (flatten init) (flatten processes) (flatten ended) (flatten next) spec_text (line (codes "===="))
    ∙ ap (λ z. (heading_text m ++ (constants_text m ++ (rows_text m.definitions ++ (variables_line m ++ (z ++ spec_text))))) ++ line (codes "====")) (further_text m)

-- ---- the whole

opens_module : (text tail : List ℕ) → text ≡ codes "---- MODULE " ++ tail → IsFirst IsModuleLine [] text
opens_module text tail e = record {
  here = record {
    line = record { lines = []; blanks = []; both = refl; are_lines = inl refl; are_blanks = refl };
    word = record {
      dashes = codes "----";
      blanks = codes " ";
      rest = codes "MODULE " ++ tail;
      both = e;
      are_dashes = refl;
      four = lit≤ tt;
      are_blanks = refl;
      word = record { behind = 32 ∷ tail; both = refl; ends = refl };
    };
  };
  first = λ earlier later same has. omega arith;
}

few_tokens : (text : List ℕ) (ls : List Lexeme) (a b : Lexeme) → length ls + 0 ≤ 0 + length text → length (text ++ line (codes "====")) ≤ most_tokens → length (ls ++ (a ∷ (b ∷ []))) ≤ most_tokens
few_tokens text ls a b h k = omega (arith, h, k, length-append text (line (codes "====")), length-append ls (a ∷ (b ∷ [])))

spelled : SignsEnd → (m : Module) → IsWritten m → (text : List ℕ) → text ≡ front_text m ++ line (codes "====") → length text ≤ most_tokens → SpellsModule text m
spelled ends m h text same short =
    let front = front_text m in
    let ending = line (codes "====") in
    let said = front_said ends m h in
    let b = said.said [] ending refl in
    let first = at (first_spot front) symbol.Defines in
    let second = at (second_spot front) symbol.Defines in
    let last = row (first_spot front) (second_spot front) in
    let column : first.column ≡ 0 = said.whole [] refl in
    record {
      before = [];
      part = front ++ ending;
      behind = [];
      both = same ∙ sym (append-nil (front ++ ending));
      unmarked = b.unmarked ++ last;
      tokens = b.tokens ++ last;
      line = opens_module ((front ++ ending) ++ []) _ refl;
      cut = cut_both [] front ending [] b.cut (row_cut ends front);
      ends = ends_with_row b.between first second (omega arith) (row_is front);
      few = few_tokens front b.unmarked first second (as_many_bytes b.between) (omega (arith, ap length same, short));
      marks = (false, b.goes last last false (inr (omega (arith, column), λ e. absurd (omega (arith, column, e)))) (λ u. layout.plain (omega arith) refl (layout.plain (omega arith) refl layout.done)) false);
      plain = both_plainly b.tokens last b.plain refl;
      parts = are_parts m (b.tokens ++ last) (b.is (first_spot front) (second_spot front));
      processes = h.has_processes;
    }

pub module_spelled : SignsEnd → (m : Module) → IsWritten m → length (Text m) ≤ most_tokens → SpellsModule (Text m) m
module_spelled ends m h short = spelled ends m h (Text m) (text_is m) short

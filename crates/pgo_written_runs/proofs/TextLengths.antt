-- A module's text is at least as long as it has variables, and as it has constants.
use Rattle.std.proofs.Common.{◌≡◌, ◌≤◌, ◌+◌, ℕ, suc, List, [], ◌∷◌, ◌++◌, map, length, codes, refl, arith, length-append}
use Rattle.pgo_base.specs.Lookup.{Name}
use Rattle.pgo_model.specs.ExprText.{names_text}
use Rattle.pgo_model.specs.Module.{Module, proc_set_of, terminating_body, next_body}
use Rattle.pgo_model.specs.ModuleText.{Line, Text, definition_lines, defined_lines, flat_lines, flatten, line, process_lines}
use Rattle.pgo_model.specs.Written.{default_init_value, proc_set, terminating}

names_long : (xs : List Name) → length xs ≤ suc (length (names_text xs))
names_long [] = omega arith
names_long (x ∷ []) = omega arith
names_long (x ∷ (y ∷ ys)) =
    let rest = names_long (y ∷ ys) in
    let a = length-append (x ++ codes ", ") (names_text (y ∷ ys)) in
    let b = length-append x (codes ", ") in
    let two : length (codes ", ") ≡ 2 = refl in
    omega (arith, rest, a, b, two)

flat_joined : (xs ys : List Line) → length (flatten (xs ++ ys)) ≡ length (flatten xs) + length (flatten ys)
flat_joined [] ys = omega arith
flat_joined (x ∷ xs) ys =
    let r = flat_joined xs ys in
    let a = length-append x (flatten (xs ++ ys)) in
    let b = length-append x (flatten xs) in
    omega (arith, r, a, b)

climb : (n : ℕ) (xs ys : List Line) → n ≤ length (flatten xs) → n ≤ length (flatten (xs ++ ys))
climb n xs ys h = let q = flat_joined xs ys in omega (arith, h, q)

behind : (n : ℕ) (xs ys : List Line) → n ≤ length (flatten ys) → n ≤ length (flatten (xs ++ ys))
behind n xs ys h = let q = flat_joined xs ys in omega (arith, h, q)

-- a line of names behind a word
named_line : (word : List ℕ) (xs : List Name) (rest : List Line) → 1 ≤ length word → length xs ≤ length (flatten (line (word ++ names_text xs) ∷ rest))
named_line word xs rest h =
    let a = length-append (line (word ++ names_text xs)) (flatten rest) in
    let b = length-append (word ++ names_text xs) (10 ∷ []) in
    let c = length-append word (names_text xs) in
    let d = names_long xs in
    omega (arith, a, b, c, d, h)

module _ (m : Module) where
  abbrev start : List Line
  start = line (codes "---- MODULE " ++ m.name ++ codes " ----") ∷ line (codes "EXTENDS Integers, Sequences, FiniteSets, TLC") ∷ line (codes "CONSTANTS " ++ names_text (m.constants ++ (default_init_value ∷ []))) ∷ []

  abbrev first : List Line
  first = start ++ flat_lines (map defined_lines m.definitions)

  abbrev names : List Line
  names = line (codes "VARIABLES " ++ names_text m.variables) ∷ line (codes "vars == <<" ++ names_text m.variables ++ codes ">>") ∷ []

  abbrev sets : List Line
  sets = definition_lines proc_set (proc_set_of m)

  abbrev init : List Line
  init = definition_lines (codes "Init") m.init

  abbrev processes : List Line
  processes = flat_lines (map process_lines m.processes)

  abbrev ending : List Line
  ending = definition_lines terminating (terminating_body m)

  abbrev next : List Line
  next = definition_lines (codes "Next") (next_body m)

  abbrev last : List Line
  last = line (codes "Spec == Init /\\ [][Next]_vars") ∷ line (codes "====") ∷ []

  from_names : (n : ℕ) → n ≤ length (flatten (first ++ names)) → n ≤ length (Text m)
  from_names n h =
      climb n ((((((first ++ names) ++ sets) ++ init) ++ processes) ++ ending) ++ next) last
      (climb n (((((first ++ names) ++ sets) ++ init) ++ processes) ++ ending) next
      (climb n ((((first ++ names) ++ sets) ++ init) ++ processes) ending
      (climb n (((first ++ names) ++ sets) ++ init) processes
      (climb n ((first ++ names) ++ sets) init
      (climb n (first ++ names) sets h)))))

  pub variables_short : length m.variables ≤ length (Text m)
  variables_short = from_names (length m.variables) (behind (length m.variables) first names (named_line (codes "VARIABLES ") m.variables (line (codes "vars == <<" ++ names_text m.variables ++ codes ">>") ∷ []) (let q : length (codes "VARIABLES ") ≡ 10 = refl in omega (arith, q))))

  pub constants_short : length m.constants ≤ length (Text m)
  constants_short =
      let n = length m.constants in
      let all = m.constants ++ (default_init_value ∷ []) in
      let here : length all ≤ length (flatten (line (codes "CONSTANTS " ++ names_text all) ∷ [])) = named_line (codes "CONSTANTS ") all [] (let q : length (codes "CONSTANTS ") ≡ 10 = refl in omega (arith, q)) in
      let more = length-append m.constants (default_init_value ∷ []) in
      let a = line (codes "---- MODULE " ++ m.name ++ codes " ----") in
      let b = line (codes "EXTENDS Integers, Sequences, FiniteSets, TLC") in
      from_names n (climb n first names (climb n start (flat_lines (map defined_lines m.definitions)) (behind n (a ∷ b ∷ []) (line (codes "CONSTANTS " ++ names_text all) ∷ []) (omega (arith, here, more)))))

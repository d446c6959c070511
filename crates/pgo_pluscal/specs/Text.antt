-- The text of a specification whose labels are expanded.
--
-- Source: the PlusCal manual for the statements, this project's choice for lines, blanks and parentheses.
use Rattle.std.specs.Prelude.{ℕ, zero, suc, ◌+◌, true, false, List, [], ◌∷◌, ◌++◌, map, codes, Option, Some, None}
use Rattle.std.specs.List.{flat_map}
use Rattle.pgo_base.specs.Lookup.{Name}
use Rattle.pgo_base.specs.Tree.{Tree}
use Rattle.pgo_model.specs.ExprText.{expr_text}
use Rattle.pgo_model.specs.ModuleText.{flatten}
pub use Rattle.pgo_model.specs.ModuleText.{parameters_text}
use Rattle.pgo_syntax.specs.declared.binding.Origin.{Origin}
use Rattle.pgo_syntax.specs.declared.binding.Origin.TheVariants as origins
use Rattle.pgo_syntax.specs.declared.declaration.Declaration.{Declaration}
use Rattle.pgo_syntax.specs.declared.declaration.Definition.{Definition}
use Rattle.pgo_expr_write.specs.ByName.{by_name}
use Rattle.pgo_sections.specs.Expansion.{Expansion, With, In, Skip, Await, Assert, Print, If, Either, End, Expansions, no_expansions, more_expansions}
use Rattle.pgo_pluscal.specs.declared.pluscal.ExpandedProcess.{ExpandedProcess}
use Rattle.pgo_pluscal.specs.declared.pluscal.PlusCal.{PlusCal}

-- ---- lines

-- two for each block around a line
abbrev pub blanks : ℕ → List ℕ
blanks zero = []
blanks (suc n) = codes "  " ++ blanks n

-- a line in so many blocks, and the words that it consists of
abbrev pub line : ℕ → List (List ℕ) → List ℕ
line n words = blanks n ++ flatten words ++ codes "\n"

-- with commas between them
abbrev pub listed : List (List ℕ) → List ℕ
listed [] = []
listed (x ∷ xs) = x ++ flat_map (λ y. codes ", " ++ y) xs

-- ---- heads

abbrev pub initial_text : Option Origin → List ℕ
initial_text None = codes " = defaultInitValue"
initial_text (Some (origins.Equals e)) = codes " = " ++ expr_text false e
initial_text (Some (origins.In e)) = codes " \\in " ++ expr_text false e

abbrev pub declaration_text : Declaration → List ℕ
declaration_text d = d.name.name ++ initial_text d.initial

-- no line where there is no variable
abbrev pub variables_text : List Declaration → List ℕ
variables_text [] = []
variables_text (d ∷ ds) = line 1 (codes "variables " ∷ listed (map declaration_text (d ∷ ds)) ∷ codes ";" ∷ [])

abbrev pub definition_text : Definition → List ℕ
definition_text d =
    line 2 (d.name.name ∷ parameters_text (map (λ x. x.name) d.params) ∷ codes " == " ∷ expr_text true d.body ∷ [])

abbrev pub define_text : Option (List Definition) → List ℕ
define_text None = []
define_text (Some ds) = line 1 (codes "define {" ∷ []) ++ flat_map definition_text ds ++ line 1 (codes "}" ∷ [])

-- ---- trees

abbrev pub change_text : ℕ → Name × Name → List ℕ
change_text n c = line n (c.0 ∷ codes " := " ∷ c.1 ∷ codes ";" ∷ [])

-- the end of a label
abbrev pub end_text : ℕ → List (Name × Name) → Name → List ℕ
end_text n changes label = flat_map (change_text n) changes ++ line n (codes "goto " ∷ label ∷ codes ";" ∷ [])

-- own: the process's own variables. n: how many blocks stand around.
module _ (own : List Name) where
  -- in the text a variable's name stands for its part at `self`
  abbrev pub value_text : Tree → List ℕ
  value_text e = expr_text false (by_name own e)

  abbrev mutual
    pub tree_text : ℕ → Expansion → List ℕ
    tree_text n (With x e rest) =
        line n (codes "with (" ∷ x ∷ codes " = " ∷ value_text e ∷ codes ") {" ∷ []) ++ tree_text (n + 1) rest ++ line n (codes "}" ∷ [])
    tree_text n (In x e rest) =
        line n (codes "with (" ∷ x ∷ codes " \\in " ∷ value_text e ∷ codes ") {" ∷ []) ++ tree_text (n + 1) rest ++ line n (codes "}" ∷ [])
    tree_text n (Skip rest) = tree_text n rest
    tree_text n (Await e rest) = line n (codes "await " ∷ value_text e ∷ codes ";" ∷ []) ++ tree_text n rest
    tree_text n (Assert e rest) = line n (codes "assert " ∷ value_text e ∷ codes ";" ∷ []) ++ tree_text n rest
    tree_text n (Print e rest) = line n (codes "print " ∷ value_text e ∷ codes ";" ∷ []) ++ tree_text n rest
    tree_text n (If e a b) =
        line n (codes "if (" ∷ value_text e ∷ codes ") {" ∷ []) ++ tree_text (n + 1) a
        ++ line n (codes "} else {" ∷ []) ++ tree_text (n + 1) b ++ line n (codes "}" ∷ [])
    tree_text n (Either arms) = line n (codes "either {" ∷ []) ++ arms_text n arms ++ line n (codes "}" ∷ [])
    tree_text n (End changes label) = end_text n changes label

    pub arms_text : ℕ → Expansions → List ℕ
    arms_text n no_expansions = []
    arms_text n (more_expansions x xs) = tree_text (n + 1) x ++ more_arms_text n xs

    pub more_arms_text : ℕ → Expansions → List ℕ
    more_arms_text n no_expansions = []
    more_arms_text n (more_expansions x xs) = line n (codes "} or {" ∷ []) ++ tree_text (n + 1) x ++ more_arms_text n xs

-- ---- the whole

-- a label by its written name, and what it becomes
abbrev pub label_text : List Name → Name × Expansion → List ℕ
label_text own t = line 2 (t.0 ∷ codes ":" ∷ []) ++ tree_text own 2 t.1

abbrev pub labels_text : ExpandedProcess → List ℕ
labels_text p = flat_map (label_text (map (λ d. d.name.name) p.variables)) p.trees

abbrev pub process_text : ExpandedProcess → List ℕ
process_text p =
    line 1 (codes "process (" ∷ p.name ∷ codes " \\in " ∷ expr_text false p.ids ∷ codes ")" ∷ [])
    ++ variables_text p.variables
    ++ line 1 (codes "{" ∷ [])
    ++ labels_text p
    ++ line 1 (codes "}" ∷ [])

abbrev pub pluscal_text : PlusCal → List ℕ
pluscal_text p =
    line 0 (codes "--algorithm " ∷ p.name ∷ codes " {" ∷ [])
    ++ variables_text p.globals
    ++ define_text p.define
    ++ flat_map process_text p.processes
    ++ line 0 (codes "}" ∷ [])

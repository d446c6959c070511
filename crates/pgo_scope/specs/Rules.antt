-- What each rule finds, over what the code has at hand: the specification, its tables, the table of its macros, and the
-- names that stand in its text.
use Rattle.std.specs.Prelude.{List, [], ◌++◌, Option, flat_map}
use Rattle.pgo_syntax.specs.declared.spec.Spec.{Spec}
use Rattle.pgo_uses.specs.declared.tables.Tables.{Tables}
use Rattle.pgo_uses.specs.declared.uses.Use.{Use}
use Rattle.pgo_uses.specs.AllUses.{all_uses}
use Rattle.pgo_uses.specs.Heads.{head_names, unit_names}
use Rattle.pgo_uses.specs.Tables.{tables_of}
use Rattle.pgo_scope.specs.declared.errors.ScopeError.{ScopeError}
use Rattle.pgo_scope.specs.declared.finding.Finding.{Finding}
use Rattle.pgo_scope.specs.declared.rules.Rule.{Rule}
use Rattle.pgo_scope.specs.declared.rules.Rule.TheVariants as rules
use Rattle.pgo_scope.specs.declared.rules.UseRule.{UseRule}
use Rattle.pgo_scope.specs.declared.rules.UseRule.TheVariants as use_rules
use Rattle.pgo_scope.specs.Findings.{earliest}
use Rattle.pgo_scope.specs.Unknown.{unknown_use, unknown_heads}
use Rattle.pgo_scope.specs.Twice.{CaptureTable, captures, declared_twice, reserved_name, hiding_use, capture_use}
use Rattle.pgo_scope.specs.Arity.{arity_use, arity_heads}
use Rattle.pgo_scope.specs.Globals.{global_finding}
use Rattle.pgo_scope.specs.Usage.{MacroTable, macro_table}
use Rattle.pgo_scope.specs.Assigned.{assigned_use}
use Rattle.pgo_scope.specs.Mapped.{mapped_use}
use Rattle.pgo_scope.specs.Clash.{module_names_with, clashes_from}
use Rattle.pgo_scope.specs.Underscores.{double_name, double_use}
use Rattle.pgo_scope.specs.Modules.{unknown_modules}

pub record Context : Type 0 where
  pub spec : Spec
  pub tables : Tables
  pub macros : MacroTable
  pub captures : CaptureTable
  pub uses : List Use

abbrev pub context_of : Spec → Context
context_of s = record { spec = s; tables = tables_of s; macros = macro_table s.macros; captures = captures s.macros; uses = all_uses s }

-- what a rule finds about one name that stands in the text
abbrev pub use_findings : UseRule → Context → Use → List Finding
use_findings use_rules.Unknown c = unknown_use c.tables c.spec.archetypes
use_findings use_rules.Hiding c = hiding_use c.tables
use_findings use_rules.Captured c = capture_use c.captures
use_findings use_rules.Arity c = arity_use c.tables
use_findings use_rules.Global c = global_finding c.tables
use_findings use_rules.Assigned c = assigned_use c.spec c.macros
use_findings use_rules.Mapped c = mapped_use c.spec c.macros
use_findings use_rules.Underscores c = double_use

abbrev pub uses_findings : UseRule → Context → List Finding
uses_findings r c = flat_map (use_findings r c) c.uses

abbrev pub unknown : Context → List Finding
unknown c = uses_findings use_rules.Unknown c ++ unknown_heads c.tables c.spec.processes

abbrev pub hidden : Context → List Finding
hidden c = uses_findings use_rules.Hiding c ++ uses_findings use_rules.Captured c

abbrev pub twice : Context → List Finding
twice c = declared_twice c.spec ++ flat_map reserved_name (unit_names c.spec) ++ hidden c

abbrev pub arities : Context → List Finding
arities c = uses_findings use_rules.Arity c ++ arity_heads c.tables c.spec.processes

abbrev pub clashes : Context → List Finding
clashes c = clashes_from [] (module_names_with c.spec c.uses)

abbrev pub underscores : Context → List Finding
underscores c = flat_map double_name (head_names c.spec) ++ uses_findings use_rules.Underscores c

abbrev pub found_by : Rule → Context → List Finding
found_by rules.Unknown c = unknown c
found_by rules.Twice c = twice c
found_by rules.Arity c = arities c
found_by rules.Globals c = uses_findings use_rules.Global c
found_by rules.Assigned c = uses_findings use_rules.Assigned c
found_by rules.Mapped c = uses_findings use_rules.Mapped c
found_by rules.Clashes c = clashes c
found_by rules.Underscores c = underscores c
found_by rules.Modules c = unknown_modules c.spec

abbrev pub first_found : Rule → Context → Option ScopeError
first_found r c = earliest (found_by r c)

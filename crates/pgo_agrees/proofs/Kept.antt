-- Where nothing is refused, no rule finds anything.
use Rattle.std.proofs.Common.{◌≡◌, List, [], ◌∷◌, ◌++◌, map, None}
use Rattle.std.specs.List.{AllByRecursion, flat_map}
use Rattle.pgo_syntax.specs.declared.spec.Spec.{Spec}
use Rattle.pgo_uses.specs.AllUses.{all_uses}
use Rattle.pgo_uses.specs.Heads.{head_names, unit_names, macro_names, shared_names, mapping_names, archetype_names, process_names}
use Rattle.pgo_uses.specs.Tables.{tables_of}
use Rattle.pgo_scope.specs.declared.finding.Finding.{Finding}
use Rattle.pgo_scope.specs.Arity.{arity_use, arity_heads}
use Rattle.pgo_scope.specs.Assigned.{assigned_use}
use Rattle.pgo_scope.specs.Clash.{name_clashes}
use Rattle.pgo_scope.specs.Globals.{global_finding}
use Rattle.pgo_scope.specs.Mapped.{mapped_use}
use Rattle.pgo_scope.specs.Refusal.{first_broken, all_rules, scope_refusal}
use Rattle.pgo_scope.specs.Rules.{context_of, found_by}
use Rattle.pgo_scope.specs.Twice.{captures, repeated_in, declared_twice, reserved_name, hiding_use, capture_use}
use Rattle.pgo_scope.specs.Underscores.{double_name, double_use}
use Rattle.pgo_scope.specs.Unknown.{unknown_use, unknown_heads}
use Rattle.pgo_scope.specs.Usage.{macro_table}
use Rattle.pgo_labels.specs.declared.finding.Finding as labels
use Rattle.pgo_labels.specs.Refusal.{first_refusal, label_refusal}
use Rattle.pgo_labels.specs.Rules.{findings, label_in_with, label_in_macro, label_in_mapping, label_twice, reserved_done, yield_rule}
use Rattle.pgo_bound.specs.Among.{none_left, none_right}
use Rattle.pgo_accept.proofs.Unbroken.{first_rule, next_rules, first_label_rule, next_label_rules}

-- ---- names

all_empty : (rules : List (List Finding)) → first_broken rules ≡ None → AllByRecursion (λ fs. fs ≡ []) rules
all_empty [] h = tt
all_empty (fs ∷ rules) h = (first_rule fs rules h, all_empty rules (next_rules fs rules h))

pub record NoFindings (s : Spec) : Type 0 where
  pub unknown : flat_map (unknown_use (tables_of s) s.archetypes) (all_uses s) ≡ []
  pub heads : unknown_heads (tables_of s) s.processes ≡ []
  pub macros : repeated_in (macro_names s.macros) ≡ []
  pub reserved : flat_map reserved_name (unit_names s) ≡ []
  pub hiding : flat_map (hiding_use (tables_of s)) (all_uses s) ≡ []
  pub arity : flat_map (arity_use (tables_of s)) (all_uses s) ≡ []
  pub globals : flat_map (global_finding (tables_of s)) (all_uses s) ≡ []
  pub assigned : flat_map (assigned_use s (macro_table s.macros)) (all_uses s) ≡ []
  pub mapped : flat_map (mapped_use s (macro_table s.macros)) (all_uses s) ≡ []
  pub clashes : name_clashes s ≡ []
  pub double_heads : flat_map double_name (head_names s) ≡ []
  pub doubles : flat_map double_use (all_uses s) ≡ []

pub no_findings : (s : Spec) → scope_refusal s ≡ None → NoFindings s
no_findings s h =
    let r = all_empty (map (λ r. found_by r (context_of s)) all_rules) h in
    let us = all_uses s in
    let declared = declared_twice s in
    let reserved = flat_map reserved_name (unit_names s) in
    let hidden = flat_map (hiding_use (tables_of s)) us in
    let captured = flat_map (capture_use (captures s.macros)) us in
    let shared = repeated_in (shared_names s) in
    let macros = repeated_in (macro_names s.macros) in
    let mappings = repeated_in (mapping_names s.mappings) in
    let archetypes = repeated_in (archetype_names s.archetypes) in
    let processes = repeated_in (process_names s.processes) in
    let uses_unknown = flat_map (unknown_use (tables_of s) s.archetypes) us in
    let uses_arity = flat_map (arity_use (tables_of s)) us in
    let heads_double = flat_map double_name (head_names s) in
    let twice = none_left (declared ++ reserved) (hidden ++ captured) r.1.0 in
    let first = none_left (shared ++ macros) mappings (none_left (shared ++ macros ++ mappings) archetypes (none_left (shared ++ macros ++ mappings ++ archetypes) processes (none_left declared reserved twice))) in
    record {
      unknown = none_left uses_unknown (unknown_heads (tables_of s) s.processes) r.0;
      heads = none_right uses_unknown (unknown_heads (tables_of s) s.processes) r.0;
      macros = none_right shared macros first;
      reserved = none_right declared reserved twice;
      hiding = none_left hidden captured (none_right (declared ++ reserved) (hidden ++ captured) r.1.0);
      arity = none_left uses_arity (arity_heads (tables_of s) s.processes) r.1.1.0;
      globals = r.1.1.1.0;
      assigned = r.1.1.1.1.0;
      mapped = r.1.1.1.1.1.0;
      clashes = r.1.1.1.1.1.1.0;
      double_heads = none_left heads_double (flat_map double_use us) r.1.1.1.1.1.1.1.0;
      doubles = none_right heads_double (flat_map double_use us) r.1.1.1.1.1.1.1.0;
    }

-- ---- labels

all_unlabelled : (rules : List (List labels.Finding)) → first_refusal rules ≡ None → AllByRecursion (λ fs. fs ≡ []) rules
all_unlabelled [] h = tt
all_unlabelled (fs ∷ rules) h = (first_label_rule fs rules h, all_unlabelled rules (next_label_rules fs rules h))

pub record NoLabelFindings (s : Spec) : Type 0 where
  pub withs : flat_map label_in_with s.archetypes ≡ []
  pub macros : flat_map label_in_macro s.macros ≡ []
  pub mappings : flat_map label_in_mapping s.mappings ≡ []
  pub twice : flat_map label_twice s.archetypes ≡ []
  pub dones : flat_map reserved_done s.archetypes ≡ []
  pub yields : flat_map yield_rule s.mappings ≡ []

pub no_label_findings : (s : Spec) → label_refusal s ≡ None → NoLabelFindings s
no_label_findings s h =
    let r = all_unlabelled (findings s) h in
    let withs = flat_map label_in_with s.archetypes in
    let macros = flat_map label_in_macro s.macros in
    let mappings = flat_map label_in_mapping s.mappings in
    record {
      withs = none_left withs macros (none_left (withs ++ macros) mappings r.1.0);
      macros = none_right withs macros (none_left (withs ++ macros) mappings r.1.0);
      mappings = none_right (withs ++ macros) mappings r.1.0;
      twice = r.1.1.1.0;
      dones = r.1.1.1.1.0;
      yields = r.1.1.1.1.1.0;
    }

-- No `yield` stands in the body of an archetype that a process of an accepted specification runs, macros in place.
use Rattle.std.proofs.Common.{◌≡◌, List, [], true, Some}
use Rattle.pgo_base.specs.Data.{Data}
use Rattle.pgo_base.specs.Lookup.{Name}
use Rattle.pgo_syntax.specs.Statement.{labeled}
use Rattle.pgo_syntax.specs.declared.archetype.Archetype.{Archetype}
use Rattle.pgo_syntax.specs.declared.process.Process.{Process}
use Rattle.pgo_syntax.specs.declared.spec.Spec.{Spec}
use Rattle.pgo_uses.specs.AllUses.{archetype_uses}
use Rattle.pgo_uses.specs.declared.uses.Use.{Use}
use Rattle.pgo_labels.specs.LabelHere.{label_in_with}
use Rattle.pgo_bound.specs.Among.{IsAmong, none_flat_map}
use Rattle.pgo_bound.specs.Runs.{archetype_named}
use Rattle.pgo_meaning.specs.MacrosPlaced.{bodies, placed_among}
use Rattle.pgo_accesses.specs.WithoutYield.{LabeledWithout}
use Rattle.pgo_agrees.specs.Accepted.{IsAccepted}
use Rattle.pgo_agrees.proofs.Env.{C, B, D}
use Rattle.pgo_agrees.proofs.Premises as premises
use Rattle.pgo_agrees.proofs.RunBody.{N, A, body_fine}
use Rattle.pgo_agrees.proofs.Uses.{FineUse, fine_use, of_archetype}
use Rattle.pgo_runnable.proofs.NoYield.{labeled_without}

module _ (s : Spec) (consts : List (Name × Data)) (h : IsAccepted s consts) where
  pub body_without : (p : Process) (a : Archetype) → IsAmong p s.processes → archetype_named p.archetype.name s.archetypes ≡ Some a → IsAmong a s.archetypes → LabeledWithout (placed_among (bodies s.macros) (labeled a.body))
  body_without p a among named declared =
      let k = premises.names s consts h in
      let fit = premises.fit s consts h in
      let len = premises.parameters_number s consts h p a among named in
      let o = of_archetype s a declared in
      let there : (u : Use) → IsAmong u (archetype_uses o.0 a) → FineUse s u = λ u b. fine_use s k u (o.2 u b) in
      let free = none_flat_map label_in_with a s.archetypes (premises.labels s consts h).withs declared in
      labeled_without (N s k fit h.of_text (premises.unlabelled s consts h) consts h.binding p a among named declared len o.0 o.1 there) (C s k fit h.of_text) (B s k fit h.of_text) (D s k fit h.of_text) (A s k fit h.of_text (premises.unlabelled s consts h) consts h.binding p a among named declared len o.0 o.1 there) (λ ns m ts. Unit {0}) (placed_among (bodies s.macros) (labeled a.body)) true []
      (body_fine s k fit h.of_text (premises.unlabelled s consts h) consts h.binding p a among named declared len o.0 o.1 there free)

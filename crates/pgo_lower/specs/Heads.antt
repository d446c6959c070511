-- The steps that effects are.
use Rattle.std.specs.Prelude.{List, [], ◌∷◌}
use Rattle.pgo_base.specs.ExprView.{tree}
use Rattle.pgo_rewrite.specs.Views.{mapped_view}
use Rattle.pgo_effects.specs.declared.piece.Effect.{Effect}
use Rattle.pgo_effects.specs.declared.piece.Effect.TheVariants as effects
use Rattle.pgo_code.specs.Steps.{Step, Bind, Pick, Unbind, Read}
use Rattle.pgo_lower.specs.Lowered.{Tables, evaluation, read_content}

-- as many names stand for nothing any more, and then these
abbrev pub unbound_by : List Effect → List Step → List Step
unbound_by [] is = is
unbound_by (e ∷ es) is = unbound_by es (Unbind ∷ is)

module _ (t : Tables) where
  abbrev pub head : Effect → Step
  head (effects.Let b x e) = Bind x (evaluation t.targets (tree e))
  head (effects.Pick b x e) = Pick x (evaluation t.targets (tree e))
  head (effects.Read x m i) = Read x (read_content t m.global.now (mapped_view m).reads) i

  abbrev pub heads : List Effect → List Step → List Step
  heads [] is = is
  heads (e ∷ es) is = head e ∷ heads es is

use Rattle.std.proofs.Common.{◌≡◌, List, ℕ, ◌++◌, ap, ◌∙◌}
use Rattle.pgo_load.proofs.Texts.{text_made}
use Rattle.pgo_load.proofs.text.text_of.Goals as goal

joined : (a b c d t u v w : List ℕ) → t ≡ a → u ≡ t ++ b → v ≡ u ++ c → w ≡ v ++ d → w ≡ a ++ b ++ c ++ d
joined a b c d t u v w e f g h = h ∙ ap (λ z. z ++ d) (g ∙ ap (λ z. z ++ c) (f ∙ ap (λ z. z ++ b) e))

pub returns : goal.returns
returns c = joined _ _ _ _ _ _ _ _ c.in_ok-text.ensures.items c.in_ok-push_lines.ensures c.in_ok-push_lines-2.ensures c.in_ok-extend_from_slice.ensures.items ∙ text_made c.args.size

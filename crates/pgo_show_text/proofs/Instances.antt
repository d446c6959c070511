-- The lines of the instances that are left, one instance on.
use Rattle.std.proofs.Common.{◌≡◌, ◌<◌, ◌+◌, ℕ, suc, List, ◌∷◌, length, map, drop, slice_index_or, sym, ◌∙◌, arith}
use Rattle.std.proofs.lemmas.List.{at_drop_more}
use Rattle.pgo_model.specs.Module.{Module}
use Rattle.pgo_model.specs.ModuleText.{Line}
use Rattle.pgo_bundle.specs.Accounts.{Account}
use Rattle.pgo_bundle.specs.BundleLog.{BundleLog}
use Rattle.pgo_show_text.specs.Shown.{with_instance, with_instances}

pub one_more : {A : Type 0} (view : A → Account) (m : Module) (l : BundleLog) (k : ℕ) (xs : List A) (a : A) (all lines more : List Line) → k < length xs
    → a ≡ slice_index_or xs k a → more ≡ with_instance m l k (view a) lines → all ≡ with_instances m l k (map view (drop k xs)) lines
    → all ≡ with_instances m l (k + 1) (map view (drop (k + 1) xs)) more
unfolding with_instances
one_more view m l k xs a all lines more below here step left =
    let next : suc k ≡ k + 1 = omega arith in
    left
    ∙ at_drop_more (λ ys. with_instances m l k (map view ys) lines) xs k a below
    ∙ (λ i. with_instances m l k (map view (sym here i ∷ drop (k + 1) xs)) lines)
    ∙ (λ i. with_instances m l (next i) (map view (drop (k + 1) xs)) (sym step i))

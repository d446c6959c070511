-- A member that is picked.
use Rattle.std.proofs.Common.{◌≡◌, ◌<◌, ℕ, zero, suc, List, [], ◌∷◌, Some, refl, ap, sym, ◌∙◌, arith}
use Rattle.std.specs.Prelude.{unwrap_or}
use Rattle.pgo_base.specs.Data.{Data}
use Rattle.pgo_sections.specs.SectionRun.{choice_among}
use Rattle.pgo_workers.specs.Tried.{LeafTree}
use Rattle.pgo_accesses.specs.Accesses.{Attempt, with_member}
use Rattle.pgo_places.specs.Picked.{picked, behind_pick}
use Rattle.pgo_places.specs.Stands.{Stand, going, with_words}

pub with_picked : (a : Attempt) (ms : List Data) (s t : Stand) (v : Data) (F : Data → Stand → LeafTree) → Some v ≡ picked ms s → t ≡ behind_pick ms s
    → with_member (with_words s.words a) ms s.progress (λ x q. F x (going q s)) ≡ F v t
with_picked a [] s t v F h e = absurd (cc)
with_picked a (m ∷ ms) s t v F h e = ap (λ x. F x (behind_pick (m ∷ ms) s)) (ap (λ o. unwrap_or o v) (sym h)) ∙ ap (λ u. F v u) (sym e)

-- a choice of one or more
pub choice_is : (n i : ℕ) → 0 < n → choice_among n i ≡ record { count = n; taken = i }
choice_is zero i h = absurd (omega (arith, h))
choice_is (suc n) i h = refl

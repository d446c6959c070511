use Rattle.std.proofs.Common.{◌≡◌, suc, [], take, subst}
use Rattle.pgo_model.specs.Choice.{Seeded, words_of}
use Rattle.pgo_model.specs.Core.{numbers_of}
use Rattle.pgo_model.specs.Outcome.{Next, Stuck}
use Rattle.pgo_meaning.specs.Attempt.{SectTry}
use Rattle.pgo_meaning.specs.System.{system_of}
use Rattle.pgo_workers.specs.Sentences.{changes_at}
use Rattle.pgo_workers.specs.Walk.{Goes, Sticks, visits, ending, final, taken_after}
use Rattle.pgo_workers.specs.Worlds.{layout_of, effect_of, value_in}
use Rattle.pgo_accesses.specs.Frame.{AgreeOn}
use Rattle.pgo_accesses.specs.Programs.{tree_with, world_at}
use Rattle.pgo_frame.proofs.Programs.{front_is, whole_is, sticks, leads}
use Rattle.pgo_frame.proofs.programs_are_sections.Goals as goal

pub returns-clause-front : goal.returns-clause-front
returns-clause-front c b settings k a j own found s R h =
    let d = words_of (Seeded settings.seed k a) in
    subst (λ o. AgreeOn (take j (visits (tree_with b d k o) found)) found (value_in (layout_of (system_of b)) s) → take (suc j) (numbers_of (system_of b).resources (SectTry b k s d).trace) ≡ take (suc j) (visits (tree_with b d k o) found))
    h.has_own (front_is b R s h.state d k found j) h.contents

pub returns-clause-trace : goal.returns-clause-trace
returns-clause-trace c b settings k a own found s R h =
    let d = words_of (Seeded settings.seed k a) in
    subst (λ o. AgreeOn (visits (tree_with b d k o) found) found (value_in (layout_of (system_of b)) s) → numbers_of (system_of b).resources (SectTry b k s d).trace ≡ visits (tree_with b d k o) found)
    h.has_own (whole_is b R s h.state d k found) h.contents

pub returns-clause-stuck : goal.returns-clause-stuck
returns-clause-stuck c b settings k a own found s i kind R h at_k label not_done e =
    let d = words_of (Seeded settings.seed k a) in
    subst (λ o. AgreeOn (visits (tree_with b d k o) found) found (value_in (layout_of (system_of b)) s) → ending (tree_with b d k o) found ≡ Sticks kind → (SectTry b k s d).end ≡ Stuck kind)
    h.has_own (λ agree ends. sticks b R s h.state d k found kind i agree at_k label not_done ends) h.contents e

pub returns-clause-next : goal.returns-clause-next
returns-clause-next c b settings k a own after found s ps R h e =
    let d = words_of (Seeded settings.seed k a) in
    subst (λ o. AgreeOn (visits (tree_with b d k o) found) found (value_in (layout_of (system_of b)) s) → ending (tree_with b d k o) found ≡ Goes after ps
    → (SectTry b k s d).end ≡ Next ((world_at b).patched s (effect_of (layout_of (system_of b)) k o after (changes_at (taken_after (visits (tree_with b d k o) found) []) found (final (tree_with b d k o) found)) ps)) ps)
    h.has_own (leads b R s h.state d k found after ps) h.contents e

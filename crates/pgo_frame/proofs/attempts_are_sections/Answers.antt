use Rattle.std.proofs.Common.{List, ◌≡◌, ℕ, ◌++◌, refl, subst}
use Rattle.pgo_base.specs.Data.{Data}
use Rattle.pgo_base.specs.Lookup.{Vars}
use Rattle.pgo_model.specs.Choice.{Seeded, words_of}
use Rattle.pgo_model.specs.Core.{numbers_of}
use Rattle.pgo_model.specs.Outcome.{Next, Stuck}
use Rattle.pgo_meaning.specs.Attempt.{SectTry}
use Rattle.pgo_meaning.specs.System.{system_of}
use Rattle.pgo_workers.specs.Sentences.{OthersAt, ReachedAfter, Shows, Ends}
use Rattle.pgo_workers.specs.View.{values_of, nows_of}
use Rattle.pgo_workers.specs.Walk.{Stop, Goes, Sticks, Agrees, Along, visits_from}
use Rattle.pgo_workers.specs.Worker.{changes_of}
use Rattle.pgo_workers.specs.Worlds.{layout_of, effect_of, value_in}
use Rattle.pgo_accesses.specs.Programs.{tree_with, world_at}
use Rattle.pgo_frame.proofs.Programs.{held_front, held_sticks, held_leads, held_reached, held_ends}
use Rattle.pgo_frame.proofs.attempts_are_sections.Goals as goal

pub returns-clause-front : goal.returns-clause-front
returns-clause-front c b settings k a own held nows accesses rest s R h along =
    let d = words_of (Seeded settings.seed k a) in
    subst (λ o. Along (tree_with b d k o) held accesses rest nows → (now : ℕ → Data) × (numbers_of (system_of b).resources (SectTry b k s d).trace ≡ accesses ++ visits_from (value_in (layout_of (system_of b)) s) rest now) × Agrees nows now)
    h.has_own (λ along. held_front b R s h.state d k held nows accesses rest h.values along) along

pub returns-clause-stuck : goal.returns-clause-stuck
returns-clause-stuck c b settings k a own held nows accesses s i kind R h along at_k label not_done =
    let d = words_of (Seeded settings.seed k a) in
    subst (λ o. Along (tree_with b d k o) held accesses (Stop (Sticks kind)) nows → (SectTry b k s d).end ≡ Stuck kind)
    h.has_own (λ along. held_sticks b R s h.state d k held nows accesses (Stop (Sticks kind)) h.values along kind i refl at_k label not_done) along

pub returns-clause-next : goal.returns-clause-next
returns-clause-next c b settings k a own after held accesses s ps R h steady along all =
    let d = words_of (Seeded settings.seed k a) in
    subst (λ o. Along (tree_with b d k o) (values_of held) accesses (Stop (Goes after ps)) (nows_of held) → (SectTry b k s d).end ≡ Next ((world_at b).patched s (effect_of (layout_of (system_of b)) k o after (changes_of held) ps)) ps)
    h.has_own (λ along. held_leads b R s h.state d k held accesses after ps steady h.values along all) along

pub returns-clause-reached : goal.returns-clause-reached
returns-clause-reached c b settings k a own m s R h shows =
    let d = words_of (Seeded settings.seed k a) in
    subst (λ o. Shows (tree_with b d k o) m → (others : List ℕ) × OthersAt m others × ReachedAfter m.resource others (numbers_of (system_of b).resources (SectTry b k s d).trace))
    h.has_own (λ shows. held_reached b R s h.state d k m h.values shows) shows

pub returns-clause-ends : goal.returns-clause-ends
returns-clause-ends c b settings k a own held s R h ends =
    let d = words_of (Seeded settings.seed k a) in
    subst (λ o. Ends (tree_with b d k o) held → (t : Vars) × (ps : List Data) × ((SectTry b k s d).end ≡ Next t ps)) h.has_own (λ ends. held_ends b R s h.state d k held h.values ends) ends

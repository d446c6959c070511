use Rattle.std.proofs.Common.{◌∙◌, [], ◌∷◌, ap}
use Rattle.pgo_effects.specs.SettingView.{setting_view}
use Rattle.pgo_effects.specs.Todos.{code_of, codes_of}
use Rattle.pgo_walk.specs.FrameView.{frames_view}
use Rattle.pgo_walk.specs.Frames.{Run, goes, runs}
use Rattle.pgo_walk.specs.SettingPlaces.{places_in}
use Rattle.pgo_expand.proofs.Sequence.{goes_in_sequence}
use Rattle.pgo_expand.proofs.start.start.Goals as goal

pub returns : goal.returns
returns c =
    let ps = places_in c.args.setting in
    let end = code_of (setting_view c.args.setting) c.args.section.now.end in
    let codes = codes_of (setting_view c.args.setting) c.args.section.now.todos.items in
    λ vs.
    ap (λ fs. goes vs fs c.new-none.result 0)
    (c.in_ok-push_codes.ensures
    ∙ ap (λ ts. runs ps c.new-none.result (codes_of (setting_view c.args.setting) ts) (frames_view c.push_code.new.frames)) c.as_slice.ensures.value
    ∙ ap (runs ps c.new-none.result codes) (c.in_ok-push_code.ensures ∙ ap (λ fs. Run ps end c.new-none.result ∷ frames_view fs) c.new-frames.ensures))
    ∙ ap (λ none. goes vs (runs ps none codes (Run ps end none ∷ [])) none 0) c.new-none.ensures
    ∙ goes_in_sequence vs ps [] end [] codes [] 0

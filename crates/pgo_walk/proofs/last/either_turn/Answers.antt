use Rattle.std.proofs.Common.{◌∙◌, ap, sym, map}
use Rattle.pgo_effects.specs.SettingView.{setting_view}
use Rattle.pgo_effects.specs.Todos.{code_of}
use Rattle.pgo_pluscal.specs.PartView.{expansions}
use Rattle.pgo_sections.specs.Expansion.{Either}
use Rattle.pgo_walk.specs.Emitted.{left_in, with_frame}
use Rattle.pgo_walk.specs.FrameView.{frames_view}
use Rattle.pgo_walk.specs.Frames.{Run}
use Rattle.pgo_walk.specs.SettingPlaces.{places_in}
use Rattle.pgo_walk.proofs.Turns.{arms_expanded, one_more_mapped, all_taken}
use Rattle.pgo_walk.proofs.last.either_turn.Goals as goal

pub loop-todo-preserved : goal.loop-todo-preserved
loop-todo-preserved c = λ vs.
    ap (map (left_in vs)) c.in_ok-push.ensures.items
    ∙ one_more_mapped (left_in vs) (λ t. with_frame vs c.args.state.now (Run (places_in c.args.setting) (code_of (setting_view c.args.setting) t) c.args.renames.now))
    c.loop-todo.arms.items c.in_ok-branch.field-0 c.args.todos.now c.loop-todo.todo-index c.todo-item.result c.loop-todo-test.true c.todo-item.is
    (c.loop-todo.invariant vs) (c.in_ok-branch.ensures vs)

pub returns : goal.returns
returns c = λ vs x.
    ap Either
    (arms_expanded vs (places_in c.args.setting) c.args.renames.now (frames_view c.args.state.now.frames) (code_of (setting_view c.args.setting)) c.args.todos.now
    c.args.state.now.current c.args.state.now.bound
    ∙ ap (λ ts. expansions (map (λ t. with_frame vs c.args.state.now (Run (places_in c.args.setting) (code_of (setting_view c.args.setting) t) c.args.renames.now)) ts))
    (sym (all_taken c.args.todos.now c.loop-todo.todo-index c.loop-todo-test.false c.loop-todo.auto.todo-index-end))
    ∙ ap expansions (sym (c.loop-todo.invariant vs)))

use Rattle.std.proofs.Common.{◌∙◌, ◌++◌, ◌∷◌, [], map, ap, sym}
use Rattle.std.specs.List.{flat_map}
use Rattle.std.proofs.lemmas.List.{append-nil}
use Rattle.pgo_model.specs.Written.{pc}
use Rattle.pgo_expand.specs.Module.{globals_of}
use Rattle.pgo_expand.proofs.Heights.{drop_end}
use Rattle.pgo_expand.proofs.AllNames.{all_names}
use Rattle.pgo_expand.proofs.names.variables.Goals as goal

pub returns : goal.returns
returns c =
    sym (append-nil c.loop-list.names.items)
    ∙ ap (λ r. c.loop-list.names.items ++ flat_map (λ ds. map (λ d. d.name.name) ds) r) (sym (drop_end c.args.own.now c.loop-list.list-index c.loop-list-test.false))
    ∙ sym c.loop-list.invariant
    ∙ ap (λ l. l ++ flat_map (λ ds. map (λ d. d.name.name) ds) c.args.own.now) (c.in_ok-push.ensures.items ∙ (λ k. c.in_ok-names.ensures k ++ (c.in_ok-from_slice.ensures k ∷ [])))
    ∙ ap (λ o. (globals_of c.args.spec.now ++ (pc ∷ [])) ++ flat_map (λ ds. map (λ d. d.name.name) ds) o) c.requires
    ∙ all_names c.args.spec.now

use Rattle.std.proofs.Common.{◌≡◌, ◌+◌, ap, sym, ◌∙◌, refl, drop, [], ◌∷◌, List, arith}
use Rattle.std.proofs.lemmas.List.{drop_all}
use Rattle.pgo_syntax.specs.declared.binding.WithName.{WithName}
use Rattle.pgo_meaning.specs.Statements.{bind_names}
use Rattle.pgo_effects.specs.Pieces.{code_with}
use Rattle.pgo_effects.specs.Puts.{behind_names, puts_names}
use Rattle.pgo_effects.specs.SettingView.{setting_view}
use Rattle.pgo_effects.proofs.NameLaws.{one_more}
use Rattle.pgo_effects.proofs.Rests.{first_of_rest}
use Rattle.pgo_effects.proofs.names.add_names.Goals as goal

pub loop-w-init : goal.loop-w-init
loop-w-init c = (refl, λ k. refl)

pub loop-w-preserved : goal.loop-w-preserved
loop-w-preserved c =
    let s = setting_view c.args.setting in let xs = c.args.names.now in let n = c.loop-w.w-index in let w = c.w-item.result in
    let ls = c.loop-w.behind.items in let es = c.loop-w.effects.items in
    let d : drop n xs ≡ w ∷ drop (n + 1) xs = first_of_rest xs n (n + 1) w refl (omega arith) c.w-item.is in (
      ap (λ l. behind_names l (drop (n + 1) xs)) c.in_ok-behind.ensures.layers ∙ sym (ap (λ (l : List WithName). behind_names ls l) d) ∙ c.loop-w.invariant.0,
      one_more s c.args.effects.now.items es c.add_name.new.effects.items ls c.in_ok-behind.behind.items w (drop (n + 1) xs) xs c.args.layers.items c.in_ok-behind.ensures.layers (λ k. c.in_ok-behind.ensures.effects k)
          (λ k. ap (λ (l : List WithName). code_with es (bind_names s (puts_names ls l) k)) (sym d) ∙ c.loop-w.invariant.1 k),
    )

pub returns : goal.returns
returns c =
    let s = setting_view c.args.setting in let xs = c.args.names.now in let n = c.loop-w.w-index in
    let ls = c.loop-w.behind.items in let es = c.loop-w.effects.items in
    let d : drop n xs ≡ [] = drop_all n xs c.loop-w-test.false in
    record {
      layers = sym (ap (λ (l : List WithName). behind_names ls l) d) ∙ c.loop-w.invariant.0;
      effects = λ k. sym (ap (λ (l : List WithName). code_with es (bind_names s (puts_names ls l) k)) d) ∙ c.loop-w.invariant.1 k;
    }

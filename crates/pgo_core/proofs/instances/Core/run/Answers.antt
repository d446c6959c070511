use Rattle.std.proofs.Common.{◌++◌, take, sym, ap, ◌∙◌, subst, append_assoc}
use Rattle.std.proofs.lemmas.List.{take_more, take_all}
use Rattle.pgo_core.specs.Cores.{StandsWith}
use Rattle.pgo_core.specs.ExclusiveBoards.{views_of}
use Rattle.pgo_core.specs.Instances.{settings_of}
use Rattle.pgo_core.proofs.instances.Core.run.Goals as goal

pub loop-k-preserved : goal.loop-k-preserved
loop-k-preserved g c =
    let n = c.turn-turn.new.self in let i = c.loop-k.k-index in let ts = c.args.turns.now in let t = c.turn-turn.ensures.turns in let a = c.loop-k.invariant in
    record {
      safe = c.turn-turn.ensures.safe;
      same = record { sections = t.same.sections ∙ a.same.sections; settings = t.same.settings ∙ a.same.settings };
      stands = λ before st fits.
          subst (λ l. StandsWith (g.S.Sections.system n.sections) (g.S.Sections.tree n.sections) (g.S.Sections.walk n.sections) (settings_of n) fits l n.made n.workers.items (views_of n.board))
          (append_assoc before (take i ts) _ ∙ ap (λ l. before ++ l) (sym (take_more ts i 0 c.loop-k-test.true)))
          (t.stands (sym c.has_turned.ensures ∙ c.if-not-has_turned.false) (before ++ take i ts) (a.stands before st) fits);
    }

pub returns-clause-stands : goal.returns-clause-stands
returns-clause-stands g c =
    let n = c.loop-k.self in let i = c.loop-k.k-index in let ts = c.args.turns.now in
    λ before st fits.
    subst (λ l. StandsWith (g.S.Sections.system n.sections) (g.S.Sections.tree n.sections) (g.S.Sections.walk n.sections) (settings_of n) fits l n.made n.workers.items (views_of n.board))
    (ap (λ l. before ++ l) (take_all i ts c.loop-k-test.false)) (c.loop-k.invariant.stands before st fits)

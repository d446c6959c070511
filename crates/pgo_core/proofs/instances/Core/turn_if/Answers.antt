use Rattle.std.proofs.Common.{◌≡◌, ◌≤◌, true, length, sym, ap, ◌∙◌, subst, arith, lt-ltb}
use Rattle.std.specs.Prelude.{nat_lt}
use Rattle.pgo_core.specs.Cores.{has_turned}
use Rattle.pgo_core.specs.ExclusiveBoards.{views_of}
use Rattle.pgo_core.specs.Instances.{settings_of, system_of}
use Rattle.pgo_core.proofs.RoundTurns.{at_most_one, was_idle, counted_right, stands_counted, fits_back, same_from}
use Rattle.pgo_core.proofs.instances.Core.turn_if.Goals as goal

pub returns-then-has_turned-clause-one : goal.returns-then-has_turned-clause-one
returns-then-has_turned-clause-one g c = subst (λ n. n ≤ 1) (sym c.counted.ensures) (at_most_one c.turn-turn.result)

pub returns-then-has_turned-clause-stands : goal.returns-then-has_turned-clause-stands
returns-then-has_turned-clause-stands g c =
    let a = c.args.self.now in let n = c.turn-turn.new.self in let same = c.turn-turn.ensures.turns.same in let k = c.args.k in
    let has : has_turned c.turn-turn.result ≡ true = sym c.has_turned.ensures ∙ c.if-has_turned.true in
    let there : nat_lt k (length (g.S.Sections.system a.sections).members) ≡ true = lt-ltb k (length (g.S.Sections.system a.sections).members) (omega (arith, c.requires.there, a.workers.ok.0, c.requires.safe.seats.as_many)) in
    let there_still : nat_lt k (length (g.S.Sections.system n.sections).members) ≡ true = subst (λ x. nat_lt k (length (g.S.Sections.system x).members) ≡ true) (sym same.sections) there in
    λ before st.
    record {
      stands = λ fits.
          stands_counted (g.S.Sections.system n.sections) (settings_of n) before k there_still (g.S.Sections.tree n.sections) (g.S.Sections.walk n.sections) n.made n.workers.items (views_of n.board) fits
          (c.turn-turn.ensures.turns.stands has before st fits);
      many = λ fits.
          c.counted.ensures
          ∙ counted_right (system_of a) (settings_of a) before k there c.turn-turn.result has (c.turn-turn.ensures.turns.answer has before st (fits_back a n same fits))
          ∙ ap length (same_from a n same before k 1);
    }

pub returns-then-has_turned-clause-left : goal.returns-then-has_turned-clause-left
returns-then-has_turned-clause-left g c = c.turn-turn.ensures.left (sym c.has_turned.ensures ∙ c.if-has_turned.true) c.requires.there

pub returns-then-has_turned-clause-ended : goal.returns-then-has_turned-clause-ended
returns-then-has_turned-clause-ended g c =
    λ none.
    let idle = was_idle c.turn-turn.result (sym c.has_turned.ensures ∙ c.if-has_turned.true) (sym c.counted.ensures ∙ none) in
    c.turn-turn.ensures.idle idle.0 idle.1

use Rattle.std.proofs.Common.{[], ◌++◌, refl, sym, ◌∙◌, subst, arith, append_assoc}
use Rattle.pgo_model.specs.MachineAccounts.{append_none}
use Rattle.pgo_core.specs.Cores.{CoreFits, StandsWith}
use Rattle.pgo_core.specs.ExclusiveBoards.{views_of}
use Rattle.pgo_core.specs.Instances.{settings_of}
use Rattle.pgo_core.proofs.Contention.{contended_at}
use Rattle.pgo_core.specs.Rounds.{AreRounds, round_after}
use Rattle.pgo_core.proofs.RoundsEnd.{each_ends}
use Rattle.pgo_core.proofs.RoundTurns.{rounds_on, rounds_back, rounds_over, rounds_more, fits_back}
use Rattle.pgo_core.proofs.instances.Core.rounds.Goals as goal

pub loop-init : goal.loop-init
loop-init g c =
    let a = c.args.self.now in
    record {
      safe = c.requires.safe;
      same = record { sections = refl; settings = refl };
      stands = λ before st. record {
        turns = [];
        stands = λ fits. subst (λ l. StandsWith (g.S.Sections.system a.sections) (g.S.Sections.tree a.sections) (g.S.Sections.walk a.sections) (settings_of a) fits l a.made a.workers.items (views_of a.board)) (append_none before) (st fits);
        rounds = λ fits rest r. subst (λ l. AreRounds (g.S.Sections.system a.sections) (settings_of a) l rest) (sym (append_none before)) r;
      };
    }

pub returns-then-branch-eq0-clause-stands : goal.returns-then-branch-eq0-clause-stands
returns-then-branch-eq0-clause-stands g c =
    let n = c.round.new.self in let inv = c.loop.invariant in let t = c.in_ok-round.ensures in
    let y = g.S.Sections.system n.sections in let tree = g.S.Sections.tree n.sections in let walk = g.S.Sections.walk n.sections in
    let same = c.round.ensures.same in
    λ before st.
    let q = inv.stands before st in let p = t.stands (before ++ q.turns) q.stands in
    let last = round_after y (settings_of n) (before ++ q.turns) in
    let stands : (fits : CoreFits y tree (settings_of n)) → StandsWith y tree walk (settings_of n) fits (before ++ (q.turns ++ last)) n.made n.workers.items (views_of n.board) = (λ fits. subst (λ l. StandsWith y tree walk (settings_of n) fits l n.made n.workers.items (views_of n.board)) (append_assoc before q.turns last) (p.stands fits)) in
    record {
      turns = q.turns ++ last;
      stands = stands;
      rounds = λ fits.
          rounds_on c.loop.self n same before (q.turns ++ last)
          (q.rounds (fits_back c.loop.self n same fits) last
          (rounds_back c.loop.self n same (before ++ q.turns) last (rounds_over y (settings_of n) (before ++ q.turns) c.in_ok-round.field-0 c.if-branch-eq0.true (p.many fits))));
      ended = λ fits. each_ends y tree walk (settings_of n) fits (before ++ (q.turns ++ last)) n.made n.workers.items (views_of n.board) (stands fits) c.round.ensures.safe.seats (t.ended c.if-branch-eq0.true);
      contended = λ fits. contended_at y tree (settings_of n) fits (before ++ (q.turns ++ last)) walk n.made n.workers.items (views_of n.board) (stands fits) c.round.ensures.safe.seats (t.ended c.if-branch-eq0.true);
    }

pub loop-preserved : goal.loop-preserved
loop-preserved g c =
    let n = c.round.new.self in let inv = c.loop.invariant in let t = c.in_ok-round.ensures in let same = c.round.ensures.same in
    record {
      safe = c.round.ensures.safe;
      same = record { sections = same.sections ∙ inv.same.sections; settings = same.settings ∙ inv.same.settings };
      stands = λ before st.
          let y = g.S.Sections.system n.sections in
          let q = inv.stands before st in let p = t.stands (before ++ q.turns) q.stands in
          let made = round_after y (settings_of n) (before ++ q.turns) in
          record {
            turns = q.turns ++ made;
            stands = λ fits.
                subst (λ l. StandsWith y (g.S.Sections.tree n.sections) (g.S.Sections.walk n.sections) (settings_of n) fits l n.made n.workers.items (views_of n.board)) (append_assoc before q.turns made)
                (p.stands fits);
            rounds = λ fits rest r.
                subst (AreRounds y (settings_of n) before) (sym (append_assoc q.turns made rest))
                (rounds_on c.loop.self n same before (q.turns ++ (made ++ rest))
                (q.rounds (fits_back c.loop.self n same fits) (made ++ rest)
                (rounds_back c.loop.self n same (before ++ q.turns) (made ++ rest)
                (rounds_more y (settings_of n) (before ++ q.turns) rest c.in_ok-round.field-0 c.if-branch-eq0.false (p.many fits)
                (subst (λ l. AreRounds y (settings_of n) l rest) (sym (append_assoc before q.turns made)) r)))));
          };
    }

pub loop-smaller : goal.loop-smaller
loop-smaller g c = omega (arith, c.in_ok-round.ensures.left, c.if-branch-eq0.false)

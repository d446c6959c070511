use Rattle.std.proofs.Common.{◌≡◌, ◌++◌, ℕ, ◌+◌, length, refl, sym, ap, ◌∙◌, subst, arith}
use Rattle.pgo_model.specs.MachineAccounts.{append_none}
use Rattle.pgo_core.specs.Cores.{StandsWith}
use Rattle.pgo_core.specs.ExclusiveBoards.{views_of}
use Rattle.pgo_core.specs.Instances.{MadeFrom, settings_of, workers_in}
use Rattle.pgo_core.specs.Rounds.{round_from}
use Rattle.pgo_core.proofs.CoreTurned.{nth_inside}
use Rattle.pgo_core.proofs.RoundsEnd.{one_ended}
use Rattle.pgo_core.proofs.RoundTurns.{fits_back, same_from, next_turns, next_count}
use Rattle.pgo_core.proofs.instances.Core.round.Goals as goal

first : (a b : ℕ) → a + b ≡ 0 → a ≡ 0
first a b e = omega (arith, e)

second : (a b : ℕ) → a + b ≡ 0 → b ≡ 0
second a b e = omega (arith, e)

pub loop-k-init : goal.loop-k-init
loop-k-init g c =
    let a = c.args.self.now in
    record {
      safe = c.requires.safe;
      same = record { sections = refl; settings = refl };
      as_many = refl;
      few = omega arith;
      left = omega arith;
      stands = λ before st. record {
        stands = λ fits. subst (λ l. StandsWith (g.S.Sections.system a.sections) (g.S.Sections.tree a.sections) (g.S.Sections.walk a.sections) (settings_of a) fits l a.made a.workers.items (views_of a.board)) (append_none before) (st fits);
        many = λ fits. refl;
      };
      ended = λ none j w less here. absurd (omega (arith, less));
    }

pub loop-k-preserved : goal.loop-k-preserved
loop-k-preserved g c =
    let a = c.loop-k.self in let n = c.turn_if.new.self in let inv = c.loop-k.invariant in let t = c.in_ok-made.ensures in let same = c.turn_if.ensures.same in
    record {
      safe = c.turn_if.ensures.safe;
      same = record { sections = same.sections ∙ inv.same.sections; settings = same.settings ∙ inv.same.settings };
      as_many = c.turn_if.ensures.safe.seats.as_many ∙ ap (λ x. length (g.S.Sections.system x).members) same.sections ∙ sym inv.safe.seats.as_many ∙ inv.as_many;
      few = omega (arith, inv.few, t.one);
      left = omega (arith, inv.left, t.left);
      stands = λ before st.
          let q = inv.stands before st in let so = same_from a n same before 0 c.loop-k.k in
          let l = round_from (g.S.Sections.system a.sections) (settings_of a) before 0 c.loop-k.k in
          let p = t.stands (before ++ l) q.stands in
          let y = g.S.Sections.system n.sections in
          record {
            stands = λ fits.
                subst (λ l. StandsWith y (g.S.Sections.tree n.sections) (g.S.Sections.walk n.sections) (settings_of n) fits l n.made n.workers.items (views_of n.board)) (next_turns y (settings_of n) before l c.loop-k.k so)
                (p.stands fits);
            many = λ fits. next_count y (settings_of n) before l c.loop-k.k c.loop-k.made c.in_ok-made.field-0 so (q.many (fits_back a n same fits)) (p.many fits);
          };
      ended = λ none j w less here.
          one_ended c.loop-k.k c.in_ok-made.field-0 (workers_in a) (workers_in n) (second c.loop-k.made c.in_ok-made.field-0 none) (t.ended (second c.loop-k.made c.in_ok-made.field-0 none)) (inv.ended (first c.loop-k.made c.in_ok-made.field-0 none)) j w less here;
    }

pub returns-clause-left : goal.returns-clause-left
returns-clause-left g c = omega (arith, c.loop-k.invariant.left, c.loop-k.invariant.few)

pub returns-clause-ended : goal.returns-clause-ended
returns-clause-ended g c =
    let inv = c.loop-k.invariant in let start = c.args.self.now in
    λ none j w here. let less = nth_inside (workers_in c.loop-k.self) j w here in inv.ended none j w (omega (arith, less, inv.as_many, c.loop-k-test.false, c.len-k-end.ensures, start.workers.ok.0)) here

pub returns-clause-stands : goal.returns-clause-stands
returns-clause-stands g c =
    let inv = c.loop-k.invariant in let start = c.args.self.now in let a = c.loop-k.self in
    λ before st. subst (λ k. MadeFrom before 0 k c.loop-k.made a) (omega (arith, c.loop-k-test.false, c.loop-k.auto.k-end, c.len-k-end.ensures, start.workers.ok.0, inv.as_many, inv.safe.seats.as_many)) (inv.stands before st)

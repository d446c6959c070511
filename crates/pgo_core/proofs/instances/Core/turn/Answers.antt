use Rattle.std.proofs.Common.{◌≡◌, ◌≤◌, ℕ, false, length, refl, ◌∙◌, arith}
use Rattle.std.specs.Prelude.{nat_lt}
use Rattle.pgo_core.specs.Instances.{settings_of}
use Rattle.pgo_core.specs.ExclusiveBoards.{views_of}
use Rattle.pgo_core.specs.Cores.{turned}
use Rattle.pgo_core.proofs.CoreTurned.{nth_inside}
use Rattle.pgo_core.proofs.Nobody.{nobody_records, nobody_stands}
use Rattle.pgo_core.proofs.TurnAnswers.{nobody_answers}
use Rattle.pgo_core.proofs.instances.Core.turn.Goals as goal

nobody : (k len n m : ℕ) → len ≤ k → len ≡ n → n ≡ m → nat_lt k m ≡ false
nobody k len n m h e f = grind (arith, h, e, f)

pub returns-then-k-len-clause-turns : goal.returns-then-k-len-clause-turns
returns-then-k-len-clause-turns g c =
    let a = c.args.self.now in let y = g.S.Sections.system a.sections in let tree = g.S.Sections.tree a.sections in let walk = g.S.Sections.walk a.sections in
    let none = nobody c.args.k c.len.result (length a.workers.items) (length y.members) c.if-k-len.true (c.len.ensures ∙ a.workers.ok.0) c.requires.safe.seats.as_many in
    record {
      same = record { sections = refl; settings = refl };
      stands = λ has turns st fits. nobody_stands y (settings_of a) turns c.args.k none tree walk a.made a.workers.items (views_of a.board) fits (st fits);
      told_is = λ has turns st fits. nobody_records y (settings_of a) turns c.args.k none;
      many = refl;
      answer = λ has turns st fits. nobody_answers y (settings_of a) (turned y (settings_of a) turns) c.args.k none;
    }

pub returns-then-k-len-clause-left : goal.returns-then-k-len-clause-left
returns-then-k-len-clause-left g c = λ has inside. absurd (omega (arith, inside, c.if-k-len.true, c.len.ensures))

pub returns-then-k-len-clause-idle : goal.returns-then-k-len-clause-idle
returns-then-k-len-clause-idle g c =
    let a = c.args.self.now in
    λ e q. record { workers = refl; ended = λ w here. let inside = nth_inside a.workers.items c.args.k w here in absurd (omega (arith, inside, c.if-k-len.true, c.len.ensures, a.workers.ok.0)) }

use Rattle.std.proofs.Common.{◌↔◌, IfOk, IsTrue, sym, subst}
use Rattle.pgo_base.specs.Lookup.{Vars}
use Rattle.pgo_meaning.specs.Quiet.{Quiet}
use Rattle.pgo_meaning.specs.System.{system_of}
use Rattle.pgo_section.specs.Programs.{IsGood}
use Rattle.pgo_execute.proofs.QuietStatus.{state_left}
use Rattle.pgo_execute.proofs.status.last_is_quiet.Goals as goal

pub returns : goal.returns
returns c settings g start entries good =
    let b = c.args.bound.now in let s = c.in_ok-s.s in
    let same = state_left (system_of b) settings g c.args.journal.now.start c.args.journal.now.entries c.len.result s start entries c.len.ensures.entries c.in_ok-s.ensures in
    subst (λ (t : Vars). IfOk c.is_quiet_in.result (λ q. IsTrue q ↔ Quiet b t)) (sym same) (c.is_quiet_in.ensures (subst (IsGood (system_of b)) same good))

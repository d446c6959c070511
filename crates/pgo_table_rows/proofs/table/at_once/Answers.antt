use Rattle.std.proofs.Common.{◌≡◌, length, sym, ap, ◌∙◌, subst}
use Rattle.std.specs.Prelude.{IfSome}
use Rattle.pgo_shared.specs.Seats.{AllAreOf}
use Rattle.pgo_workers.specs.Worlds.{Layout}
use Rattle.pgo_table_rows.proofs.Opening.{instances_many}
use Rattle.pgo_table_rows.proofs.table.at_once.Goals as goal

pub close-requires : goal.close-requires
close-requires g c =
    let new = c.in-Some.seats in let opened = c.in_ok-shared in let worked = c.in_ok-worked in let e = c.in_ok-ended.ensures in
    let many = subst (λ o. IfSome o (λ v. length v.items ≡ length worked.worked.list.items)) c.in-Some.is e.as_many in
    let seats = subst (λ o. IfSome o (λ v. AllAreOf worked.worked.shared.now v.items)) c.in-Some.is e.seats in
    record {
      all = (
        new.ok.0 ∙ many ∙ worked.ensures.as_many ∙ c.in_ok-clients.ensures.as_many ∙ sym opened.seats.ok.0 ∙ opened.ensures.as_many ∙ sym (ap (λ (y : Layout). length y.ids) opened.ensures.layout ∙ instances_many c.args.bound.now),
        subst (λ s. AllAreOf s new.items) (worked.ensures.table ∙ c.in_ok-clients.ensures.table) seats,
      );
    }

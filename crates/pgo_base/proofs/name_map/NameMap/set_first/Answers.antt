use Rattle.std.proofs.Common.{sym}
use Rattle.std.proofs.lemmas.Result.{IfOk-weaker}
use Rattle.pgo_base.specs.NameMaps.{found}
use Rattle.pgo_base.proofs.FirstPlaces.{first_stays, first_added}
use Rattle.pgo_base.proofs.name_map.NameMap.set_first.Goals as goal

pub returns-then-contains-clause-noted : goal.returns-then-contains-clause-noted
returns-then-contains-clause-noted g c = first_stays (found c.args.self.now) c.args.name.now c.args.value (sym c.if-contains.ensures)

pub returns-clause-noted : goal.returns-clause-noted
returns-clause-noted g c =
    IfOk-weaker c.set.result _ _ (λ x h. first_added (found c.args.self.now) (found c.set.new.self) c.args.name.now c.args.value (sym c.if-contains.ensures) h) c.set.ensures.noted

use Rattle.std.proofs.Common.{sym, ap, length}
use Rattle.pgo_shared.specs.Rows.{rows}
use Rattle.pgo_table.specs.SeatViews.{Holding}
use Rattle.std.proofs.Common.{List, None, Some}
use Rattle.pgo_shared.proofs.Closings.{nil_of}
use Rattle.pgo_shared.proofs.shared.Shared.board.Goals as goal

pub returns-clause-shows : goal.returns-clause-shows
returns-clause-shows g c =
    let s = c.args.seat in let v = s.instance.seat.me.0 in let e = c.requires.seat.1 in
    let none = ap (λ (hs : List Holding). rows g.R.Resource.shows hs s.contents.items) (nil_of v.holds s.empty.0) in
    λ i. record {
      instance = sym s.instance.numbered i;
      resources = length (e i).layout.resources;
      steps = (e i).steps;
      share = (e i).share;
      held = none i;
      entries = v.me.entries;
      notes = v.me.notes;
      told = Some v.me.told;
      last = None;
    }

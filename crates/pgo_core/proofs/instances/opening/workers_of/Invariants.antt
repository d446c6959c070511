use Rattle.std.proofs.Common.{◌≡◌, ◌≤◌, ◌+◌, ℕ, length, Some, vec_capacity}
use Rattle.pgo_base.specs.Lookup.{Vars}
use Rattle.pgo_model.specs.Machine.{nth}
use Rattle.pgo_syntax.specs.RecordView.{settings_view}
use Rattle.pgo_workers.specs.Worlds.{layout_of, own_in}
use Rattle.pgo_core.specs.Cores.{AreOpened}
use Rattle.pgo_core.proofs.instances.opening.workers_of.Given as goal

abbrev pub invariant-loop-own : goal.invariant-loop-own
invariant-loop-own g l = record {
  count : length l.workers.items + length l.own-iterator.rest.items ≡ length l.fn.owns.items;
  capacity : length l.fn.owns.items ≤ vec_capacity l.workers;
  owns : (j : ℕ) (o : Vars) → nth l.own-iterator.rest.items j ≡ Some o → o ≡ own_in (layout_of (g.S.Sections.system l.sections)) (g.S.Sections.system l.sections).start (length l.workers.items + j);
  opened : AreOpened (g.S.Sections.system l.sections) (g.S.Sections.tree l.sections) (g.S.Sections.walk l.sections) (settings_view l.settings) l.workers.items;
}

use Rattle.std.proofs.Common.{ap, ◌∙◌}
use Rattle.std.specs.Prelude.{slice_get, ◌||◌}
use Rattle.pgo_scope.specs.Mapped.{is_ref_to}
use Rattle.pgo_scope.specs.Targets.{has_number, ref_among}
use Rattle.pgo_scope.proofs.Targeting.{or_moved, ref_more}
use Rattle.pgo_scope.proofs.targets.Targets.add_global.Goals as goal

pub returns : goal.returns
returns c = λ n es.
    let g = c.args.g.now in
    let old = c.args.self.now.globals in
    let numbers = c.args.self.now.numbers in
    let o = slice_get es n in
    ap (λ b. has_number numbers n || b) (ref_more g old c.add.new.self c.in_ok-add.ensures o)
    ∙ or_moved (has_number numbers n) (is_ref_to g o) (ref_among old o)

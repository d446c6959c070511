-- What the loop keeps: what is made and what is left are the whole.
use Rattle.std.proofs.Common.{◌≡◌, ◌++◌, map, drop}
use Rattle.pgo_syntax.specs.Statement.{labeled}
use Rattle.pgo_syntax.specs.StatementView.{labeled_pair}
use Rattle.pgo_uses.specs.Scopes.{in_scope}
use Rattle.pgo_uses.specs.StatementUses.{uses_of_block}
use Rattle.pgo_uses.proofs.unit_uses.add_block_uses.Given as goal

abbrev pub invariant-loop-s : goal.invariant-loop-s
invariant-loop-s l =
    l.out.items ++ uses_of_block (in_scope l.scope) l.around (labeled (map labeled_pair (drop l.s-index l.s-items)))
    ≡ l.initial.out.items ++ uses_of_block (in_scope l.scope) l.around (labeled l.block)

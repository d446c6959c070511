-- What the loop keeps: what is made and what is left are the whole.
use Rattle.std.proofs.Common.{◌≡◌, ◌++◌, drop}
use Rattle.std.specs.Prelude.{if◌then◌else◌}
use Rattle.pgo_uses.specs.declared.uses.Form.TheVariants as forms
use Rattle.pgo_uses.specs.Scopes.{row_names}
use Rattle.pgo_uses.specs.AllUses.{heads, names_of}
use Rattle.pgo_uses.proofs.unit_uses.add_heads.Given as goal

abbrev pub invariant-loop-x : goal.invariant-loop-x
invariant-loop-x l =
    (l.out.items ++ heads (if l.named then forms.Named else forms.Bound) (row_names l.names) l.around (drop l.x-index l.list)
    ≡ l.initial.out.items ++ heads (if l.named then forms.Named else forms.Bound) (row_names l.initial.names) l.around l.list)
    × (row_names l.names ++ names_of (drop l.x-index l.list) ≡ row_names l.initial.names ++ names_of l.list)

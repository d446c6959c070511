-- The value of an expression that opens no other.
use Rattle.std.specs.Prelude.{[], Option, option_map}
use Rattle.pgo_base.specs.Data.{Data}
use Rattle.pgo_model.specs.Val.{Scope, call_def}
use Rattle.pgo_eval.specs.HeldView.{held_data}
use Rattle.pgo_eval.specs.declared.leaves.Leaf.{Leaf}
use Rattle.pgo_eval.specs.declared.leaves.Leaf.TheVariants.{Value, Definition, Other}

-- the value of an expression that is this leaf; of another expression it is v
abbrev pub leaf_value : Leaf → Scope → Option Data → Option Data
leaf_value (Value h) s v = option_map held_data h
leaf_value (Definition x) s v = call_def x.now [] s.defs
leaf_value Other s v = v

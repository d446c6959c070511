-- The keys 1, 2 and so on are in order.
use Rattle.std.proofs.Common.{List, subst, sym}
use Rattle.pgo_base.specs.Data.{Data, keys}
use Rattle.pgo_base.specs.Sets.{IsSorted}
use Rattle.pgo_value_text.proofs.Numbered.{sorted_sequence}
use Rattle.pgo_value_text.proofs.built.tuple_from.Goals as goal

pub from_sorted-requires : goal.from_sorted-requires
from_sorted-requires c = let P : List (Data × Data) → Type 0 = λ ps. IsSorted (keys ps) in subst P (sym c.in_ok-numbered.ensures) (sorted_sequence 1 _)

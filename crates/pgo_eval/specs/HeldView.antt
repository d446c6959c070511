-- What an expression comes to, as it lies in memory.
use Rattle.std.specs.Prelude.{map, Option, Some, None}
use Rattle.pgo_base.specs.Data.{Data}
use Rattle.pgo_base.specs.View.{data_of, pair_of}
use Rattle.pgo_model.specs.FunctionSets.{function_choices, product_choices, record_choices}
use Rattle.pgo_model.specs.Val.{Sem, plain, word_sem, power_sem, range_sem, functions_sem}
use Rattle.pgo_eval.specs.declared.held.Held.{Held}
use Rattle.pgo_eval.specs.declared.held.Held.TheVariants.{Lent, Own}
use Rattle.pgo_eval.specs.declared.function.Function.{Function}
use Rattle.pgo_eval.specs.declared.function.Function.TheVariants.{Given, Changed}
use Rattle.pgo_eval.specs.declared.evaluated.Evaluated.{Evaluated}
use Rattle.pgo_eval.specs.declared.evaluated.Evaluated.TheVariants.{OfValue, OfWord, Subsets, Range, Functions, Product, Records}

-- the value
abbrev pub held_data : Held → Data
held_data (Lent r) = data_of r.now
held_data (Own v) = data_of v

-- the function of an EXCEPT
abbrev pub function_data : Function → Data
function_data (Given h) = held_data h
function_data (Changed c) = c

-- what an expression that comes to this is by itself, and what it holds
abbrev pub evaluated_sem : Evaluated → Sem
evaluated_sem (OfValue h) = plain (Some (held_data h))
evaluated_sem (OfWord w) = word_sem w
evaluated_sem (Subsets h) = power_sem (Some (held_data h))
evaluated_sem (Range a b) = range_sem (Some (held_data a)) (Some (held_data b))
evaluated_sem (Functions a b) = functions_sem (function_choices (held_data a) (held_data b))
evaluated_sem (Product vs) = functions_sem (product_choices (map data_of vs.items))
evaluated_sem (Records ps) = functions_sem (record_choices (map pair_of ps.items))

-- the same, where it may come to none
abbrev pub sem_of : Option Evaluated → Sem
sem_of None = plain None
sem_of (Some e) = evaluated_sem e

-- A table may be opened on what a text is bound to.
use Rattle.std.proofs.Common.{ℕ, List, Ok, sym, subst}
use Rattle.pgo_accept.proofs.Accepted.{accepted_well_named}
use Rattle.pgo_accept.specs.Answers.{Answers, spelled, bound}
use Rattle.pgo_base.specs.Data.{Data}
use Rattle.pgo_base.specs.Lookup.{Name}
use Rattle.pgo_bound.specs.Sound.{Sound}
use Rattle.pgo_bound.specs.State.{AreDifferent, variables_of}
use Rattle.pgo_syntax.specs.declared.bound.Bound.{Bound}
use Rattle.pgo_table_rows.specs.Opened.{MayOpen}

pub may_open : (text : List ℕ) (consts : List (Name × Data)) (b : Bound) → Answers text consts (Ok b) → Sound b → MayOpen b
may_open text consts b (spelled s r spells only (bound c names labels binding e)) sound =
    record { sound = sound; names_differ = subst (λ (d : Bound). AreDifferent (variables_of d.spec)) (sym e) (accepted_well_named s consts names labels binding).variables_differ }

-- A row of the globals says what its global is.
use Rattle.std.proofs.Common.{◌≡◌, ◌∙◌, true, List, ◌∷◌, ap, subst, sym}
use Rattle.pgo_base.specs.Lookup.{Name, same_name}
use Rattle.pgo_model.specs.Names.{same_name-is}
use Rattle.pgo_syntax.specs.declared.bound.Bound.{Bound}
use Rattle.pgo_lower.specs.Globals.{AreRight, global_in}
use Rattle.pgo_lower.specs.declared.globals.Global.{Global}
use Rattle.pgo_lower.specs.declared.globals.Row.{Row}

same_global : (g h : Global) → g.is_element ≡ h.is_element → g.whole ≡ h.whole → g ≡ h
same_global g h e w = λ i. record { is_element = e i; whole = w i }

pub row_law : (b : Bound) (rs rest : List Row) (r : Row) (g : Name) → AreRight b rs → rs ≡ r ∷ rest → same_name g r.name.now ≡ true → r.global ≡ global_in b g
row_law b rs rest r g h e s =
    let all : AreRight b (r ∷ rest) = subst (AreRight b) e h in
    same_global r.global (global_in b r.name.now) all.0.0 all.0.1 ∙ ap (global_in b) (sym (same_name-is g r.name.now s))

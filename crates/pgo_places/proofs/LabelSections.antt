-- The section of a label.
use Rattle.std.proofs.Common.{◌≡◌, ◌<◌, ℕ, zero, suc, List, [], ◌∷◌, true, Some, ap, sym, map, option_map, length, drop, get_or, arith}
use Rattle.std.specs.Prelude.{if◌then◌else◌}
use Rattle.pgo_base.specs.Lookup.{Name, find, same_name}
use Rattle.pgo_model.specs.Machine.{nth}
use Rattle.pgo_code.specs.See.{section_view}
use Rattle.pgo_code.specs.declared.program.Section.{Section}

pub found_section : (xs : List Section) (i : ℕ) (d : Section) (l : Name) → i < length xs → same_name l (get_or xs i d).label ≡ true
    → option_map (λ (s : Section). (section_view s).1) (nth xs i) ≡ find l (map section_view (drop i xs))
found_section [] i d l h e = absurd (omega (arith, h))
found_section (x ∷ xs) zero d l h e = sym (ap (λ b. if b then Some (section_view x).1 else find l (map section_view xs)) e)
found_section (x ∷ xs) (suc i) d l h e = found_section xs i d l (omega (arith, h)) e

-- What is found of a name is what the last macro of it does.
use Rattle.std.proofs.Common.{◌≡◌, ℕ, Bool, true, false, List, [], ◌∷◌, ◌++◌, length, Some, None, refl, ap, sym, ◌∙◌, subst, arith}
use Rattle.std.proofs.lemmas.List.{reverse-append, reverse-reverse, length-reverse, take-append-le}
use Rattle.std.proofs.Math.Seq.{take-append_seam}
use Rattle.std.specs.Prelude.{if◌then◌else◌, Option, option_map, reverse}
use Rattle.pgo_base.specs.LastPlace.{last_place, place_among}
use Rattle.pgo_base.specs.Lookup.{Name, same_name, find}
use Rattle.pgo_base.proofs.LastPlaces.{IsBelow, front_at, last_at, place_below}
use Rattle.pgo_meaning.specs.MacrosPlaced.{bodies}
use Rattle.pgo_syntax.specs.declared.macros.Macro.{Macro}
use Rattle.pgo_effects.specs.Bodies.{body_after, body_at}
use Rattle.pgo_syntax.specs.UnitNames.{macro_name}
use Rattle.pgo_effects.proofs.BodyLaws.{bodies_last}

same_body : (ms : List Macro) (m : Macro) (o : Option ℕ) → IsBelow o (length ms) → body_at (ms ++ m ∷ []) o ≡ body_at ms o
same_body ms m None h = refl
same_body ms m (Some i) h = λ j. option_map (λ k. body_after (bodies (take-append-le i ms (m ∷ []) (omega (arith, h)) j)) k) (front_at ms (m ∷ []) i h j)

found_step : (x : Name) (ms : List Macro) (m : Macro) (o : Option ℕ) (n : ℕ) (b : Bool) → n ≡ length ms → IsBelow o n → body_at ms o ≡ find x (bodies ms)
    → body_at (ms ++ m ∷ []) (if b then Some n else o) ≡ (if b then Some (body_after (bodies ms) m) else find x (bodies ms))
found_step x ms m o n true e h r =
    ap (λ k. body_at (ms ++ m ∷ []) (Some k)) e
    ∙ (λ j. option_map (λ k. body_after (bodies (take-append_seam ms (m ∷ []) j)) k) (last_at ms m j))
found_step x ms m o n false e h r = same_body ms m o (subst (IsBelow o) e h) ∙ r

-- the body of the last of a name, by its place; here the last macro comes first
found_last : (x : Name) (rs : List Macro) → body_at (reverse rs) (place_among macro_name x rs) ≡ find x (bodies (reverse rs))
found_last x [] = refl
found_last x (m ∷ rs) =
    ap (λ l. body_at l (place_among macro_name x (m ∷ rs))) (reverse-append (m ∷ []) rs)
    ∙ found_step x (reverse rs) m (place_among macro_name x rs) (length rs) (same_name x m.name.name) (sym (length-reverse rs)) (place_below macro_name x rs) (found_last x rs)
    ∙ sym (ap (find x) (ap bodies (reverse-append (m ∷ []) rs) ∙ bodies_last (reverse rs) m))

-- what is found of a name is the body of the macro in its place
pub found_body : (x : Name) (ms : List Macro) → body_at ms (last_place macro_name x ms) ≡ find x (bodies ms)
found_body x ms = ap (λ l. body_at l (last_place macro_name x ms)) (sym (reverse-reverse ms)) ∙ found_last x (reverse ms) ∙ ap (λ l. find x (bodies l)) (reverse-reverse ms)

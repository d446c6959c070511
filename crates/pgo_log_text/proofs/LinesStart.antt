-- The lines of the start.
use Rattle.std.proofs.Common.{◌≡◌, ℕ, List, [], ◌∷◌, ◌++◌, map, Some, refl, sym, ap, ◌∙◌, append_assoc}
use Rattle.std.specs.Prelude.{codes}
use Rattle.std.proofs.lemmas.List.{append-nil}
use Rattle.pgo_base.specs.Data.{Data}
use Rattle.pgo_base.specs.Lookup.{Name, Vars}
use Rattle.pgo_model.specs.ValueText.{value_text}
use Rattle.pgo_model.specs.ModuleText.{line, flatten}
use Rattle.pgo_model.specs.Bundle.{value_line}
use Rattle.pgo_value_text.proofs.Steps.{bind_then, then_at, some_pair}
use Rattle.pgo_value_text.proofs.Runs.{expected, expects}
use Rattle.pgo_log_text.specs.IsBundle.{IsCanonicalValue, AreCanonical}
use Rattle.pgo_log_text.specs.Lines.{variable_line, start}
use Rattle.pgo_log_text.proofs.LinesFields.{last_value_some, last_value_finds}

pub line_nest : (x v f r : List ℕ) → (line (x ++ codes " = " ++ v) ++ f) ++ r ≡ x ++ (codes " = " ++ (v ++ 10 ∷ (f ++ r)))
line_nest x v f r = simp append_assoc

variable_some : (x : Name) (bs : List ℕ) (v : Data) (r : List ℕ) → variable_line x bs ≡ Some (v, r) → (bs ≡ x ++ (codes " = " ++ (value_text v ++ 10 ∷ r))) × IsCanonicalValue v
unfolding variable_line
variable_some x bs v r e =
    let G : Type 0 = (bs ≡ x ++ (codes " = " ++ (value_text v ++ 10 ∷ r))) × IsCanonicalValue v in
    bind_then _ _ _ G e (λ t i a e. bind_then _ _ _ G e (λ u j b e.
    let read = last_value_some j v r e in
    (expected x bs t i a ∙ ap (λ z. x ++ z) (expected (codes " = ") i u j b ∙ ap (λ z. codes " = " ++ z) read.0), read.1)))

variable_finds : (x : Name) (v : Data) (r : List ℕ) → IsCanonicalValue v → variable_line x (x ++ (codes " = " ++ (value_text v ++ 10 ∷ r))) ≡ Some (v, r)
unfolding variable_line
variable_finds x v r h = then_at _ _ _ tt (codes " = " ++ (value_text v ++ 10 ∷ r)) (expects x (codes " = " ++ (value_text v ++ 10 ∷ r))) (last_value_finds v r h)

-- the variables behind those that were read
pub record StartText (names : List Name) (done all : Vars) (bs r : List ℕ) : Type 0 where
  pub behind : Vars
  pub is_all : all ≡ done ++ behind
  pub text_is : bs ≡ flatten (map value_line behind) ++ r
  pub names_are : map (λ p. p.0) behind ≡ names
  pub read : AreCanonical behind

pub start_some : (names : List Name) (done : Vars) (bs : List ℕ) (all : Vars) (r : List ℕ) → start names done bs ≡ Some (all, r) → StartText names done all bs r
unfolding start
start_some [] done bs all r e =
    let same = some_pair done all bs r e in
    record { behind = []; is_all = sym same.0 ∙ sym (append-nil done); text_is = same.1; names_are = refl; read = tt }
start_some (x ∷ xs) done bs all r e =
    let G : Type 0 = StartText (x ∷ xs) done all bs r in
    bind_then _ _ _ G e (λ v i a e.
    let read = variable_some x bs v i a in
    let more = start_some xs (done ++ (x, v) ∷ []) i all r e in
    record {
      behind = (x, v) ∷ more.behind;
      is_all = more.is_all ∙ append_assoc done ((x, v) ∷ []) more.behind;
      text_is = read.0 ∙ ap (λ z. x ++ (codes " = " ++ (value_text v ++ 10 ∷ z))) more.text_is ∙ sym (line_nest x (value_text v) (flatten (map value_line more.behind)) r);
      names_are = ap (λ ns. x ∷ ns) more.names_are;
      read = (read.1, more.read);
    })

pub start_finds : (vs : Vars) (done : Vars) (r : List ℕ) → AreCanonical vs → start (map (λ p. p.0) vs) done (flatten (map value_line vs) ++ r) ≡ Some (done ++ vs, r)
unfolding start
start_finds [] done r h = λ i. Some (sym (append-nil done) i, r)
start_finds (p ∷ vs) done r h =
    let rest : List ℕ = flatten (map value_line vs) ++ r in
    ap (λ z. start (map (λ p. p.0) (p ∷ vs)) done z) (line_nest p.0 (value_text p.1) (flatten (map value_line vs)) r)
    ∙ then_at _ _ _ p.1 rest (variable_finds p.0 p.1 rest h.0) (start_finds vs (done ++ p ∷ []) r h.1)
    ∙ (λ i. Some (append_assoc done (p ∷ []) vs i, r))

-- What is asked of a specification is so of its program.
use Rattle.std.proofs.Common.{◌≡◌, ℕ, Result, Ok, Err, IfOk, sym, subst}
use Rattle.pgo_accesses.specs.Programs.{tree_of}
use Rattle.pgo_code.specs.declared.program.Program.{Program}
use Rattle.pgo_core.specs.Cores.{CoreFits}
use Rattle.pgo_meaning.specs.System.{system_of}
use Rattle.pgo_model.specs.Core.{Settings}
use Rattle.pgo_places.specs.Trees.{tree_in}
use Rattle.pgo_section.specs.Programs.{Trees}
use Rattle.pgo_syntax.specs.declared.bound.Bound.{Bound}
use Rattle.pgo_workers.specs.Walk.{Own}

pub fits_program : (p : Program) (b : Bound) (settings : Settings) → p.bound.now ≡ b → ((seed k a : ℕ) (own : Own) → tree_in p seed k a own ≡ tree_of b seed k a own)
    → CoreFits (system_of b) (tree_of b) settings → CoreFits (system_of p.bound.now) (tree_in p) settings
fits_program p b settings e trees fits =
    subst (λ (x : Bound). CoreFits (system_of x) (tree_in p) settings) (sym e)
    (subst (λ (t : Trees). CoreFits (system_of b) t settings) (λ i. λ seed k a own. sym (trees seed k a own) i) fits)

pub both_ok : {A E : Type 0} (r : Result A E) (P Q : A → Type 0) → IfOk r P → IfOk r Q → IfOk r (λ x. P x × Q x)
both_ok (Ok a) P Q p q = (p, q)
both_ok (Err e) P Q p q = tt

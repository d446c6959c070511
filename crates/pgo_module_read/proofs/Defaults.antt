-- The last constant.
use Rattle.std.proofs.Common.{◌≡◌, true, false, List, [], ◌∷◌, ◌++◌, reverse, Option, Some, None, Err, ap, ◌∙◌}
use Rattle.std.proofs.lemmas.List.{reverse-append, reverse-reverse}
use Rattle.pgo_base.specs.Lookup.{Name}
use Rattle.pgo_lexer.specs.Answers.{IsSyntax}
use Rattle.pgo_lexer.specs.declared.errors.TextStop.{TextStop}
use Rattle.pgo_lexer.specs.declared.errors.TextStop.TheVariants.{Syntax, NoMemory}
use Rattle.pgo_lexer.proofs.Runs.{cond_true, cond_false}
use Rattle.pgo_model.specs.ValueText.{same_bytes}
use Rattle.pgo_model.specs.Written.{default_init_value}
use Rattle.pgo_expr_read.specs.Steps.{Makes}
use Rattle.pgo_module_read.specs.Building.{before_default, without_default}

pub default_read : (xs zs : List Name) (x : Name) → xs ≡ zs ++ x ∷ [] → same_bytes x default_init_value ≡ true → without_default xs ≡ Some zs
default_read xs zs x e t = ap without_default e ∙ ap before_default (reverse-append zs (x ∷ [])) ∙ cond_true (same_bytes x default_init_value) (Some (reverse (reverse zs))) None t ∙ ap Some (reverse-reverse zs)

pub default_other : (xs zs : List Name) (x : Name) → xs ≡ zs ++ x ∷ [] → same_bytes x default_init_value ≡ false → without_default xs ≡ None
default_other xs zs x e t = ap without_default e ∙ ap before_default (reverse-append zs (x ∷ [])) ∙ cond_false (same_bytes x default_init_value) (Some (reverse (reverse zs))) None t

pub refused : {A : Type 0} (o : Option A) (stop : TextStop) → IsSyntax stop → o ≡ None → Makes o (Err stop)
refused o (Syntax n) is e = e
refused o NoMemory is e = absurd is

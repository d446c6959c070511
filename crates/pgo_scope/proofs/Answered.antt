-- What may be answered.
use Rattle.std.proofs.Common.{◌≡◌, inl, inr}
use Rattle.std.specs.Prelude.{Option, Some, None, Ok, Err}
use Rattle.std.proofs.lemmas.Option.{same_Some}
use Rattle.pgo_scope.specs.declared.errors.ScopeError.{ScopeError}
use Rattle.pgo_scope.specs.declared.errors.ScopeError.TheVariants as errors
use Rattle.pgo_scope.specs.Refusal.{Answers}

pub no_memory : (o : Option ScopeError) (e : ScopeError) → e ≡ errors.NoMemory → Answers o (Err e)
no_memory None e h = h
no_memory (Some f) e h = inr h

pub refused : (o : Option ScopeError) (e : ScopeError) → Some e ≡ o → Answers o (Err e)
refused None e h = absurd (cc)
refused (Some f) e h = inl (same_Some e f h)

pub accepted : (o : Option ScopeError) → None ≡ o → Answers o (Ok tt)
accepted None h = tt
accepted (Some f) h = absurd (cc)

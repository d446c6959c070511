-- Rules that are checked one after another.
use Rattle.std.proofs.Common.{◌≡◌, Option, Some, None, Result, refl, ap, subst, sym}
use Rattle.pgo_heads.specs.declared.errors.BindError.{BindError}
use Rattle.pgo_heads.specs.declared.errors.BindError.TheVariants as errors
use Rattle.pgo_heads.specs.Refusals.{or_that}
use Rattle.pgo_heads.specs.Answers.{Refuses, Passes, Answers}

-- what the first rule refuses
pub refuses_first : (o p : Option BindError) (e : BindError) → Refuses o e → Refuses (or_that o p) e
refuses_first o p (errors.ConstMissing x) h = ap (λ q. or_that q p) h
refuses_first o p (errors.ConstUnknown x) h = ap (λ q. or_that q p) h
refuses_first o p (errors.BadMapping x n) h = ap (λ q. or_that q p) h
refuses_first o p (errors.SameId v) h = ap (λ q. or_that q p) h
refuses_first o p (errors.IdsNoValue x) h = ap (λ q. or_that q p) h
refuses_first o p (errors.TooManyInstances n) h = ap (λ q. or_that q p) h
refuses_first o p (errors.TooManyResources n) h = ap (λ q. or_that q p) h
refuses_first o p (errors.InitNoValue x) h = ap (λ q. or_that q p) h
refuses_first o p (errors.InitEmpty x) h = ap (λ q. or_that q p) h
refuses_first o p errors.NoMemory h = tt

-- where the first rule refuses nothing the others decide
pub next_of : (o p : Option BindError) → o ≡ None → or_that o p ≡ p
next_of o p h = ap (λ q. or_that q p) h

pub passes_next : {A : Type 0} (o p : Option BindError) (r : Result A BindError) → o ≡ None → Passes p r → Passes (or_that o p) r
passes_next o p r h g = subst (λ q. Passes q r) (sym (next_of o p h)) g

-- where nothing is refused, each rule refuses nothing
pub none_first : (o p : Option BindError) → or_that o p ≡ None → o ≡ None
none_first None p h = refl
none_first (Some e) p h = absurd (cc)

pub none_next : (o p : Option BindError) → or_that o p ≡ None → p ≡ None
none_next None p h = h
none_next (Some e) p h = absurd (cc)

pub answers_next : {A : Type 0} (o p : Option BindError) (b : A) (r : Result A BindError) → o ≡ None → Answers p b r → Answers (or_that o p) b r
answers_next o p b r h g = subst (λ q. Answers q b r) (sym (next_of o p h)) g

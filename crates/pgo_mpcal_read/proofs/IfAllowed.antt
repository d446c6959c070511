-- What was read is kept where its tokens may stand there.
use Rattle.std.proofs.Common.{◌≡◌, Bool, true, false, cond, List, Option, Some, None, Result, Ok, Err, IsErrAnd, refl, sym, subst}
use Rattle.pgo_lexer.specs.declared.token.Lexeme.{Lexeme}
use Rattle.pgo_lexer.specs.declared.errors.TextStop.{TextStop}
use Rattle.pgo_lexer.specs.declared.errors.TextStop.TheVariants.{Syntax, NoMemory}
use Rattle.pgo_lexer.specs.Answers.{IsSyntax}
use Rattle.pgo_expr_read.specs.Stops.{IsKeptIf}
use Rattle.pgo_mpcal_read.specs.declared.allowed.Context.{Context}
use Rattle.pgo_expr_read.specs.Steps.{Reads, Makes}
use Rattle.pgo_mpcal_read.specs.Reading.{Outcome, front_of}
use Rattle.pgo_mpcal_read.specs.ReadingSpec.{is_allowed, if_allowed, if_some}
use Rattle.pgo_mpcal_read.specs.Units.{all_are}

refusal_reads : {A : Type 0} (o : Outcome A) (r : Result A TextStop) (new : List Lexeme) → o ≡ None → IsErrAnd r IsSyntax → Reads o r new
refusal_reads o (Ok a) new none is = absurd is
refusal_reads o (Err (Syntax n)) new none is = none
refusal_reads o (Err NoMemory) new none is = absurd is

refusal_makes : {A : Type 0} (o : Option A) (r : Result A TextStop) → o ≡ None → IsErrAnd r IsSyntax → Makes o r
refusal_makes o (Ok a) none is = absurd is
refusal_makes o (Err (Syntax n)) none is = none
refusal_makes o (Err NoMemory) none is = absurd is

kept_reads : {A : Type 0} (allowed : Bool) (a : A) (r : Result A TextStop) (new : List Lexeme) → IsKeptIf (Ok a) allowed r → Reads (cond allowed (Some (a, new)) None) r new
kept_reads {A} true a r new kept = let P : Result A TextStop → Type 0 = λ x. Reads (Some (a, new)) x new in subst P (sym kept) refl
kept_reads false a r new kept = refusal_reads None r new refl kept

pub if_allowed_reads : {A : Type 0} (w : Context) (i : List Lexeme) (o : Outcome A) (read r : Result A TextStop) (new : List Lexeme) → Reads o read new → IsKeptIf read (all_are (is_allowed w) (front_of i new)) r → Reads (if_allowed w i o) r new
if_allowed_reads {A} w i o (Ok a) r new reads kept =
    let P : Outcome A → Type 0 = λ x. Reads (if_allowed w i x) r new in
    subst P (sym reads) (kept_reads (all_are (is_allowed w) (front_of i new)) a r new kept)
if_allowed_reads {A} w i o (Err (Syntax n)) r new reads kept =
    let P : Outcome A → Type 0 = λ x. Reads (if_allowed w i x) r new in
    subst P (sym reads) (refusal_reads None r new refl kept)
if_allowed_reads {A} w i o (Err NoMemory) r new reads kept =
    let P : Result A TextStop → Type 0 = λ x. Reads (if_allowed w i o) x new in
    subst P (sym kept) tt

kept_makes : {A : Type 0} (allowed : Bool) (a : A) (r : Result A TextStop) → IsKeptIf (Ok a) allowed r → Makes (cond allowed (Some a) None) r
kept_makes {A} true a r kept = let P : Result A TextStop → Type 0 = λ x. Makes (Some a) x in subst P (sym kept) refl
kept_makes false a r kept = refusal_makes None r refl kept

pub if_allowed_makes : {A : Type 0} (allowed : Bool) (o : Option A) (read r : Result A TextStop) → Makes o read → IsKeptIf read allowed r → Makes (if_some o (λ a. cond allowed (Some a) None)) r
if_allowed_makes {A} allowed o (Ok a) r made kept =
    let P : Option A → Type 0 = λ x. Makes (if_some x (λ z. cond allowed (Some z) None)) r in
    subst P (sym made) (kept_makes allowed a r kept)
if_allowed_makes {A} allowed o (Err (Syntax n)) r made kept =
    let P : Option A → Type 0 = λ x. Makes (if_some x (λ z. cond allowed (Some z) None)) r in
    subst P (sym made) (refusal_makes None r refl kept)
if_allowed_makes {A} allowed o (Err NoMemory) r made kept =
    let P : Result A TextStop → Type 0 = λ x. Makes (if_some o (λ z. cond allowed (Some z) None)) x in
    subst P (sym kept) tt

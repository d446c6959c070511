-- One kind of access after the other.
use Rattle.std.proofs.Common.{◌≡◌, false, [], Option, refl, ap, sym, ◌∙◌, subst}
use Rattle.std.proofs.lemmas.Result.{IfOk-weaker}
use Rattle.pgo_code.specs.Steps.{Step, Assign, Set}
use Rattle.pgo_code.specs.See.{step_of, evaluation_view, target_view, content_view}
use Rattle.pgo_places.specs.Flows.{evaluation_in, left_of}
use Rattle.pgo_places.specs.Performs.{Performs}
use Rattle.pgo_places.specs.PlaceView.{stand_view, fixed_view, attempt_view}
use Rattle.pgo_base.specs.declared.text.Text.{Text}
use Rattle.pgo_code.specs.declared.instruction.Content.{Content}
use Rattle.pgo_code.specs.declared.instruction.Evaluation.{Evaluation}
use Rattle.pgo_code.specs.declared.instruction.Instruction.{Instruction}
use Rattle.pgo_code.specs.declared.instruction.Instruction.TheVariants as instructions
use Rattle.pgo_code.specs.declared.instruction.Target.{Target}
use Rattle.pgo_places.specs.Ready.{IsAccess, is_access_kind}
use Rattle.pgo_places.proofs.Readiness.{no_access, assign_there, set_there, mapped_read_there, mapped_write_there}
use Rattle.pgo_places.proofs.perform.performed.Goals as goal

pub returns-in-Assign-clause-performs : goal.returns-in-Assign-clause-performs
returns-in-Assign-clause-performs g c =
    let a = attempt_view c.args.frame.bound.now c.args.frame.fixed.now in let k = fixed_view c.args.frame.fixed.now in let s = stand_view c.args.stand.now in
    let t = target_view c.in-Assign.target in let r = c.args.resource in let q = ap step_of c.in-Assign.is in
    let same = (assign_there a k r t c.in-Assign.name s (subst (λ (i : Step). IsAccess a k r i s) q c.requires.access)).0 in
    IfOk-weaker c.put_named.result _ _
    (λ f h. subst (λ (i : Step). Performs a k i s f (stand_view c.put_named.new.stand) (g.R.Resource.shows c.args.content.now).current (g.R.Resource.shows c.put_named.new.content).current)
    (sym (q ∙ ap (λ u. Assign u c.in-Assign.name) same)) (h a))
    c.put_named.ensures.performs

pub returns-in-Set-clause-performs : goal.returns-in-Set-clause-performs
returns-in-Set-clause-performs g c =
    let a = attempt_view c.args.frame.bound.now c.args.frame.fixed.now in let k = fixed_view c.args.frame.fixed.now in let s = stand_view c.args.stand.now in
    let t = target_view c.in-Set.target in let e = evaluation_view c.in-Set.value in let r = c.args.resource in let q = ap step_of c.in-Set.is in
    let same = (set_there a k r t e s (subst (λ (i : Step). left_of (evaluation_in i s.value) s ≡ []) q c.requires.reads) (subst (λ (i : Step). IsAccess a k r i s) q c.requires.access)).0 in
    IfOk-weaker c.put_value.result _ _
    (λ f h. subst (λ (i : Step). Performs a k i s f (stand_view c.put_value.new.stand) (g.R.Resource.shows c.args.content.now).current (g.R.Resource.shows c.put_value.new.content).current)
    (sym (q ∙ ap (λ u. Set u e) same)) (h a e))
    c.put_value.ensures.performs

pub returns-in-Read-clause-performs : goal.returns-in-Read-clause-performs
returns-in-Read-clause-performs g c =
    let a = attempt_view c.args.frame.bound.now c.args.frame.fixed.now in let k = fixed_view c.args.frame.fixed.now in let s = stand_view c.args.stand.now in
    IfOk-weaker c.mapped_read.result _ _
    (λ f h. subst (λ (i : Step). Performs a k i s f (stand_view c.mapped_read.new.stand) (g.R.Resource.shows c.args.content.now).current (g.R.Resource.shows c.mapped_read.new.content).current) (sym (ap step_of c.in-Read.is)) h)
    c.mapped_read.ensures.performs

pub returns-in-Write-clause-performs : goal.returns-in-Write-clause-performs
returns-in-Write-clause-performs g c =
    let a = attempt_view c.args.frame.bound.now c.args.frame.fixed.now in let k = fixed_view c.args.frame.fixed.now in let s = stand_view c.args.stand.now in
    IfOk-weaker c.mapped_write.result _ _
    (λ f h. subst (λ (i : Step). Performs a k i s f (stand_view c.mapped_write.new.stand) (g.R.Resource.shows c.args.content.now).current (g.R.Resource.shows c.mapped_write.new.content).current) (sym (ap step_of c.in-Write.is)) h)
    c.mapped_write.ensures.performs

pub put_named-requires : goal.put_named-requires
put_named-requires g c =
    let a = attempt_view c.args.frame.bound.now c.args.frame.fixed.now in let k = fixed_view c.args.frame.fixed.now in let s = stand_view c.args.stand.now in let r = c.args.resource in
    (assign_there a k r (target_view c.in-Assign.target) c.in-Assign.name s (subst (λ (i : Step). IsAccess a k r i s) (ap step_of c.in-Assign.is) c.requires.access)).1

pub put_value-requires : goal.put_value-requires
put_value-requires g c =
    let a = attempt_view c.args.frame.bound.now c.args.frame.fixed.now in let k = fixed_view c.args.frame.fixed.now in let s = stand_view c.args.stand.now in let r = c.args.resource in
    let q = ap step_of c.in-Set.is in
    (set_there a k r (target_view c.in-Set.target) (evaluation_view c.in-Set.value) s (subst (λ (i : Step). left_of (evaluation_in i s.value) s ≡ []) q c.requires.reads) (subst (λ (i : Step). IsAccess a k r i s) q c.requires.access)).1

pub mapped_read-requires : goal.mapped_read-requires
mapped_read-requires g c =
    let a = attempt_view c.args.frame.bound.now c.args.frame.fixed.now in let k = fixed_view c.args.frame.fixed.now in let s = stand_view c.args.stand.now in let r = c.args.resource in
    mapped_read_there a k r c.in-Read.name (content_view c.in-Read.c) c.in-Read.index s (subst (λ (i : Step). IsAccess a k r i s) (ap step_of c.in-Read.is) c.requires.access)

pub mapped_write-requires : goal.mapped_write-requires
mapped_write-requires g c =
    let a = attempt_view c.args.frame.bound.now c.args.frame.fixed.now in let k = fixed_view c.args.frame.fixed.now in let s = stand_view c.args.stand.now in let r = c.args.resource in
    mapped_write_there a k r (content_view c.in-Write.c) c.in-Write.index c.in-Write.name s (subst (λ (i : Step). IsAccess a k r i s) (ap step_of c.in-Write.is) c.requires.access)

pub unreachable-requires : goal.unreachable-requires
unreachable-requires g c =
    no_access (attempt_view c.args.frame.bound.now c.args.frame.fixed.now) (fixed_view c.args.frame.fixed.now) c.args.resource (step_of c.args.instruction.now) (stand_view c.args.stand.now)
    c.requires.reads c.requires.access (other c.args.instruction.now c.in_default.not-Assign c.in_default.not-Set c.in_default.not-Read c.in_default.not-Write)
  where
    other : (i : Instruction) → ((t : Target) (w : Text) → i ≡ instructions.Assign t w → ⊥) → ((t : Target) (e : Evaluation) → i ≡ instructions.Set t e → ⊥) → ((w : Text) (x : Content) (j : Option Text) → i ≡ instructions.Read w x j → ⊥)
        → ((x : Content) (j : Option Text) (w : Text) → i ≡ instructions.Write x j w → ⊥) → is_access_kind (step_of i) ≡ false
    other (instructions.Bind w e) a s r x = refl
    other (instructions.Pick w e) a s r x = refl
    other instructions.Unbind a s r x = refl
    other (instructions.Assign t w) a s r x = absurd (a t w refl)
    other (instructions.Set t e) a s r x = absurd (s t e refl)
    other (instructions.Await e) a s r x = refl
    other (instructions.Assert e) a s r x = refl
    other (instructions.Print e) a s r x = refl
    other (instructions.Branch e k) a s r x = refl
    other (instructions.Choose ks) a s r x = refl
    other (instructions.Jump k) a s r x = refl
    other (instructions.End l) a s r x = refl
    other (instructions.Read w y j) a s r x = absurd (r w y j refl)
    other (instructions.Write y j w) a s r x = absurd (x y j w refl)
    other instructions.Fail a s r x = refl

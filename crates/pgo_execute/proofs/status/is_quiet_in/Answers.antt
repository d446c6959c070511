use Rattle.std.proofs.Common.{◌≡◌, ◌≤◌, ◌<◌, ℕ, length, Some, IfOk, ap, sym, subst, ◌∙◌, arith}
use Rattle.std.proofs.lemmas.List.{length-map}
use Rattle.pgo_base.specs.Lookup.{Vars}
use Rattle.pgo_syntax.specs.declared.bound.Bound.{Bound}
use Rattle.pgo_meaning.specs.System.{member_of, resource_of, system_of}
use Rattle.pgo_model.specs.Machine.{nth}
use Rattle.pgo_resource.specs.PlainRows.{FitsStart}
use Rattle.pgo_section.proofs.Standing.{contents_rest, plain}
use Rattle.pgo_starts.specs.Contents.{starting_in}
use Rattle.pgo_starts.specs.ContentView.{content_shown}
use Rattle.pgo_workers.specs.Sentences.{IsOwn}
use Rattle.pgo_workers.specs.Worlds.{layout_of, own_in, world_of}
use Rattle.pgo_execute.proofs.status.is_quiet_in.Goals as goal

pub quiet-requires-clause-owns : goal.quiet-requires-clause-owns
quiet-requires-clause-owns c k o e =
    let b = c.args.bound.now in let s = c.args.s.now in
    let all = subst (λ r. IfOk r (λ v. (k : ℕ) (o : Vars) → nth v.items k ≡ Some o → o ≡ own_in (layout_of (system_of b)) s k)) c.in_ok-owns.ensures.first c.all_own_in.ensures.owns in
    let at = all k o (subst (λ l. nth l k ≡ Some o) c.as_slice.ensures.value e) ∙ ap (λ (x : Bound). own_in (layout_of (system_of x)) s k) (sym c.requires.bound) in
    subst (IsOwn (world_of (layout_of (system_of c.args.sections.now.program.bound.now))) k) (sym at) ((c.requires.runs plain).own_is k s)

pub quiet-requires-clause-owns_as_many : goal.quiet-requires-clause-owns_as_many
quiet-requires-clause-owns_as_many c =
    let b = c.args.bound.now in
    ap length c.as_slice.ensures.value ∙ subst (λ r. IfOk r (λ v. length v.items ≡ length b.instances)) c.in_ok-owns.ensures.first c.all_own_in.ensures.as_many
    ∙ sym (length-map b.instances member_of) ∙ ap (λ (x : Bound). length (system_of x).members) (sym c.requires.bound)

few : (n m : ℕ) → n ≡ m → m ≤ 64 → n < 4294967296
few n m e h = omega (arith, e, h)

pub quiet-requires-clause-small : goal.quiet-requires-clause-small
quiet-requires-clause-small c =
    let b = c.args.bound.now in
    few (length c.as_slice.result.now) (length b.instances) (ap length c.as_slice.ensures.value ∙ subst (λ r. IfOk r (λ v. length v.items ≡ length b.instances)) c.in_ok-owns.ensures.first c.all_own_in.ensures.as_many)
    c.requires.sound.numbered.few_instances

pub quiet-requires-clause-as_many : goal.quiet-requires-clause-as_many
quiet-requires-clause-as_many c =
    let b = c.args.bound.now in
    sym c.in_ok-owns.contents.ok.0 ∙ subst (λ r. IfOk r (λ v. v.len ≡ length b.resources)) c.in_ok-owns.ensures.second c.contents_in.ensures.as_many
    ∙ sym (length-map b.resources resource_of) ∙ ap (λ (x : Bound). length (system_of x).resources) (sym c.requires.bound)

pub quiet-requires-clause-rests : goal.quiet-requires-clause-rests
quiet-requires-clause-rests c =
    let y = layout_of (system_of c.args.bound.now) in let s = c.args.s.now in
    let fit = subst (λ r. IfOk r (λ v. FitsStart content_shown (starting_in s y) v.items)) c.in_ok-owns.ensures.second c.contents_in.ensures.fit in
    contents_rest content_shown y s c.in_ok-owns.contents.items (λ r x e. ((fit r x e).0, (fit r x e).1))

pub returns : goal.returns
returns c good =
    let b = c.args.bound.now in let y = layout_of (system_of b) in let s = c.args.s.now in
    let fit = subst (λ r. IfOk r (λ v. FitsStart content_shown (starting_in s y) v.items)) c.in_ok-owns.ensures.second c.contents_in.ensures.fit in
    let all = subst (λ r. IfOk r (λ v. (k : ℕ) (o : Vars) → nth v.items k ≡ Some o → o ≡ own_in y s k)) c.in_ok-owns.ensures.first c.all_own_in.ensures.owns in
    c.quiet.ensures b s (ap system_of c.requires.bound) good (λ k o e. all k o (subst (λ l. nth l k ≡ Some o) c.as_slice.ensures.value e)) (λ r x e. ((fit r x e).0, (fit r x e).1))

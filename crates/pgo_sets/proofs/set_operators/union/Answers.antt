use Rattle.std.proofs.Common.{◌≡◌, ◌++◌, map, ap, sym, ◌∙◌, subst}
use Rattle.pgo_base.specs.View.{data_of}
use Rattle.pgo_model.specs.Operators.{set_from}
use Rattle.pgo_sets.specs.Answers.{Answers}
use Rattle.pgo_sets.proofs.Members.{union_is}
use Rattle.pgo_sets.proofs.set_operators.union.Goals as goal

pub returns-in_ok-add_copies-in-Set-Set-2 : goal.returns-in_ok-add_copies-in-Set-Set-2
returns-in_ok-add_copies-in-Set-Set-2 c =
    let left = c.in-Set-Set.left in
    let right = c.in-Set-Set.right in
    let first : map data_of c.add_copies.new.all.items ≡ left =
    c.in_ok-add_copies-in-Set-Set.ensures ∙ (λ i. map data_of (c.new-members.ensures.items i) ++ c.members.ensures i) in
    let both : map data_of c.add_copies-in-Set-Set.new.all.items ≡ left ++ right =
    c.in_ok-add_copies-in-Set-Set-2.ensures ∙ (λ i. first i ++ c.members-in-Set-Set.ensures i) in
    rw (c.in-Set-Set.is-0, c.in-Set-Set.is-1) (subst (Answers c.set_of.result) (ap set_from both ∙ sym (union_is left right)) c.set_of.ensures)

use Rattle.std.proofs.Common.{◌≡◌, ◌<◌, ◌++◌, IfOk, arith, length, map, reverse, sym, subst, ap, ◌∙◌}
use Rattle.pgo_model.specs.ModuleText.{flatten, body_lines}
use Rattle.pgo_module_write.proofs.Split.{last_first}
use Rattle.pgo_module_write.proofs.Words.{several_lines}
use Rattle.pgo_module_write.proofs.bodies.push_body.Goals as goal

pub returns-else-count-eq0 : goal.returns-else-count-eq0
returns-else-count-eq0 c =
    let head = c.args.head.now in
    let others = c.pop.new.self.items in
    let more : 0 < length others = omega (arith, c.if-count-eq0.false, c.len-count.ensures) in
    subst (λ ls. IfOk c.push_listed.result (λ x. c.push_listed.new.bytes.items ≡ c.args.bytes.now.items ++ flatten ls))
    (sym (ap (λ xs. body_lines head (map (λ r. r.now) (reverse xs))) c.in-Some.ensures.items ∙ ap (body_lines head) (last_first (λ r. r.now) others c.in-Some.first) ∙ several_lines head c.in-Some.first.now others more))
    c.push_listed.ensures

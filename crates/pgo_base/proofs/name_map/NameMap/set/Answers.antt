use Rattle.std.proofs.Common.{◌≡◌, ℕ, Vec, Global, cond, ap, ◌∙◌}
use Rattle.std.specs.Prelude.{Some}
use Rattle.std.specs.Map.{lookup}
use Rattle.pgo_base.specs.Lookup.{Name, same_name}
use Rattle.pgo_base.specs.NameMaps.{found}
use Rattle.pgo_base.proofs.Inserting.{insert_found, on_err}
use Rattle.pgo_base.proofs.name_map.NameMap.set.Goals as goal

pub returns-clause-noted : goal.returns-clause-noted
unfolding found
returns-clause-noted g c = λ n.
    let f : Vec ℕ Global → Name = λ k. k.items in
    let es = c.args.self.now.map.entries in
    let key : c.in_ok-key.key.items ≡ c.args.name.now = c.in_ok-key.ensures.items ∙ c.as_bytes.ensures in
    ap (lookup (λ q. same_name n (f q))) c.in_ok-insert.ensures.entries
    ∙ insert_found f n es c.in_ok-key.key c.args.value
    ∙ (λ i. cond (same_name n (key i)) (Some c.args.value) (lookup (λ q. same_name n (f q)) es))

pub returns-in_err-insert-clause-kept : goal.returns-in_err-insert-clause-kept
unfolding found
returns-in_err-insert-clause-kept g c =
    on_err c.from_residual-in_err-insert.result (λ n. ap (lookup (λ (k : Vec ℕ Global). same_name n k.items)) c.in_err-insert.ensures.err)

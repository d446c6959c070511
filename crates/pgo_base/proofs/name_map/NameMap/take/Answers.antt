use Rattle.std.proofs.Common.{ℕ, Vec, Global, ap, sym, ◌∙◌}
use Rattle.std.specs.Map.{lookup, remove_entry}
use Rattle.pgo_base.specs.Lookup.{Name, same_name}
use Rattle.pgo_base.specs.NameMaps.{found}
use Rattle.pgo_base.proofs.Inserting.{remove_found}
use Rattle.pgo_base.proofs.name_map.NameMap.take.Goals as goal

pub returns-clause-value : goal.returns-clause-value
unfolding found
returns-clause-value g c = c.remove.ensures.value ∙ ap (found c.args.self.now) c.as_bytes.ensures

pub returns-clause-gone : goal.returns-clause-gone
unfolding found
returns-clause-gone g c =
    let f : Vec ℕ Global → Name = λ k. k.items in
    ap (λ key. lookup (λ q. same_name key (f q)) c.remove.new.self.entries) (sym c.as_bytes.ensures) ∙ c.remove.ensures.updates.1

pub returns-clause-others : goal.returns-clause-others
unfolding found
returns-clause-others g c = λ n apart.
    let f : Vec ℕ Global → Name = λ k. k.items in
    let es = c.args.self.now.map.entries in
    ap (lookup (λ q. same_name n (f q))) c.remove.ensures.entries
    ∙ ap (λ key. lookup (λ q. same_name n (f q)) (remove_entry (λ q. same_name key (f q)) es)) c.as_bytes.ensures
    ∙ remove_found f n c.args.name.now es apart

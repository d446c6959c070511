use Rattle.std.proofs.Common.{ℕ, false, ◌||◌, ap, ◌∙◌, Bor}
use Rattle.std.specs.BTreeSet.{BTreeSet}
use Rattle.std.specs.Global.{Vec}
use Rattle.pgo_base.specs.NameMaps.{found}
use Rattle.pgo_scope.specs.Binders.{some_binds, some_set_binds, some_set_of, is_handed}
use Rattle.pgo_scope.proofs.CaptureLaws.{noted, set_added, taken}
use Rattle.pgo_scope.proofs.handed.HandedOn.add.Goals as goal

pub returns : goal.returns
returns c = λ b p x.
    let v = some_binds b c.args.places.now x in
    noted b (λ q. is_handed b c.args.self.now q x) c.args.name.now p x v (found c.set.new.self p) c.push.new.self (found c.take.new.self p) (c.in_ok-set.ensures.noted p)
    (ap (λ ss. some_set_binds false b ss x) c.in_ok-push.ensures.items
    ∙ set_added false b c.unwrap_or-list.result.items c.args.places x
    ∙ ap (λ d. v || d) (ap (λ (l : Vec (Bor (BTreeSet ℕ))). some_set_binds false b l.items x) c.unwrap_or-list.ensures ∙ taken b c.take.result c.new.result x c.new.ensures.items ∙ ap (λ o. some_set_of false b o x) c.take.ensures.value))
    (λ e. ap (λ o. some_set_of false b o x) (c.take.ensures.others p e))

-- Where the definitions of a module's processes end.
use Rattle.std.proofs.Common.{◌≡◌, ◌≢◌, List, [], ◌∷◌, length, reverse, Some, None, refl, sym, arith}
use Rattle.std.proofs.lemmas.List.{length-reverse}
use Rattle.pgo_base.specs.declared.module.Action.{Action}
use Rattle.pgo_base.specs.declared.module.WrittenProcess.{WrittenProcess}
use Rattle.pgo_module_read.specs.Building.{processes_from}

pub last_left : (done : List WrittenProcess) (as' : List Action) → length as' ≡ 0 → processes_from done [] (reverse as') ≡ Some done
unfolding processes_from
last_left done [] e = refl
last_left done (a ∷ as') e = absurd (omega (arith, e))

pub some_left : (done : List WrittenProcess) (as' : List Action) → length as' ≢ 0 → processes_from done [] (reverse as') ≡ None
unfolding processes_from
some_left done as' e = go (reverse as') (length-reverse as')
  where
    go : (bs : List Action) → length bs ≡ length as' → processes_from done [] bs ≡ None
    go [] q = absurd (e (sym q))
    go (b ∷ bs) q = refl

-- Where an instance stands, and whether a label is that place.
use Rattle.std.proofs.Common.{◌≡◌, ap, sym, ◌∙◌, subst}
use Rattle.std.specs.Prelude.{Bool, true, IsTrue, ◌↔◌, Option, Some, None}
use Rattle.std.specs.Ordering.{is_eq}
use Rattle.pgo_base.specs.Data.{Data, string}
use Rattle.pgo_base.specs.Lookup.{Name, Vars, same_name, find}
use Rattle.pgo_base.specs.Exact.{data_itself}
use Rattle.pgo_model.specs.Variables.{place_of}
use Rattle.pgo_model.specs.Operators.{apply}
use Rattle.pgo_model.specs.Written.{pc}
use Rattle.pgo_sets.proofs.Replacing.{same_exact}

-- names that the test finds the same are one name
pub name_is : (x y : Name) → (same_name x y ≡ true → x ≡ y) × (x ≡ y → same_name x y ≡ true)
name_is x y = (λ h. let e : string x ≡ string y = same_exact (string x) (string y) h in cc, λ h. let i = ap is_eq (data_itself (string x)) in subst (λ z. same_name x z ≡ true) h i)

-- a string is the one that the test finds
pub string_is : (t text : Name) (b : Bool) → b ≡ same_name t text → (IsTrue b ↔ Some (string t) ≡ Some (string text))
string_is t text b e = (λ h. ap (λ x. Some (string x)) ((name_is t text).0 (sym e ∙ h)), λ h. e ∙ (name_is t text).1 (cc))

-- where an instance stands, by the value of `pc`
pub place_is : (id f : Data) (s : Vars) → find pc s ≡ Some f → place_of id s ≡ apply f id
place_is id f s h = ap (λ o. elim o as (λ o. Option Data) [ None ↦ None | Some f ↦ apply f id ]) h

pub place_none : (id : Data) (s : Vars) → find pc s ≡ None → place_of id s ≡ None
place_none id s h = ap (λ o. elim o as (λ o. Option Data) [ None ↦ None | Some f ↦ apply f id ]) h

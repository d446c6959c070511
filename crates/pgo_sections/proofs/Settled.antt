-- What a variable is assigned at the end is the made name of its newest value.
use Rattle.std.proofs.Common.{◌≡◌, Bool, true, false, ◌||◌, if◌then◌else◌, List, [], ◌∷◌, Option, Some, None, refl, sym, ap, ◌∙◌, option_map}
use Rattle.std.specs.List.{cons_option}
use Rattle.pgo_base.specs.Lookup.{Name, same_name, find}
use Rattle.pgo_model.specs.Names.{same_name-is, is_among}
use Rattle.pgo_sections.specs.Expand.{Current, settled}
use Rattle.pgo_sections.proofs.Later.{find_in, find_on}

abbrev no_name : Option Name
no_name = None

abbrev if_among : Bool → Option Name → Option Name
if_among b o = if b then o else None

none_either_way : (b : Bool) → no_name ≡ if_among b None
none_either_way true = refl
none_either_way false = refl

-- the list has what cur has, of the variables alone
settled_is : (vs : List Name) (cur : Current) (x : Name) → find x (settled vs cur) ≡ if_among (is_among x vs) (find x cur)
settled_is [] cur x = refl
settled_is (v ∷ vs) cur x = go (find v cur) refl (same_name x v) refl (settled_is vs cur x)
  where
    here : same_name x v ≡ true → find x cur ≡ find v cur
    here same = ap (λ z. find z cur) (same_name-is x v same)

    go : (o : Option Name) → find v cur ≡ o → (b : Bool) → same_name x v ≡ b → find x (settled vs cur) ≡ if_among (is_among x vs) (find x cur) → find x (cons_option (option_map (λ y. (v, y)) o) (settled vs cur)) ≡ if_among (b || is_among x vs) (find x cur)
    go None e true same more =
        more ∙ ap (if_among (is_among x vs)) (here same ∙ e) ∙ sym (none_either_way (is_among x vs)) ∙ sym (here same ∙ e)
    go None e false same more = more
    go (Some y) e true same more = find_in x (v, y) (settled vs cur) same ∙ sym (here same ∙ e)
    go (Some y) e false same more = find_on x (v, y) (settled vs cur) same ∙ more

pub settled_has : (vs : List Name) (cur : Current) (x : Name) → is_among x vs ≡ true → find x (settled vs cur) ≡ find x cur
settled_has vs cur x is = settled_is vs cur x ∙ ap (λ b. if_among b (find x cur)) is

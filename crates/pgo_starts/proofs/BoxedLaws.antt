-- The test of mailboxes is what is said of them.
use Rattle.std.proofs.Common.{◌≡◌, Bool, true, false, List, Option, Some, None, refl, sym, ap, ◌∙◌}
use Rattle.std.specs.Prelude.{◌&&◌, is_some}
use Rattle.std.specs.List.{Any}
use Rattle.std.proofs.lemmas.List.Folds.{Any-from_list_any, list_any-from_Any}
use Rattle.pgo_base.specs.Lookup.{Name, same_name}
use Rattle.pgo_base.specs.SameName.{same_name-self, same_name-is}
use Rattle.pgo_base.specs.Tree.{Tree}
use Rattle.pgo_model.specs.Sequences.{elements}
use Rattle.pgo_bound.specs.Sound.{index_in}
use Rattle.pgo_syntax.specs.declared.archetype.Extent.TheVariants as extents
use Rattle.pgo_syntax.specs.declared.bound.Binding.{Binding}
use Rattle.pgo_syntax.specs.declared.bound.Bound.{Bound}
use Rattle.pgo_syntax.specs.declared.bound.Instance.{Instance}
use Rattle.pgo_syntax.specs.declared.bound.Mapping.TheVariants as mappings
use Rattle.pgo_syntax.specs.declared.bound.Resource as resource
use Rattle.pgo_syntax.specs.declared.bound.Target.{Target}
use Rattle.pgo_syntax.specs.declared.bound.Target.TheVariants as targets
use Rattle.pgo_syntax.specs.declared.macros.MappingMacro.{MappingMacro}
use Rattle.pgo_mailbox.specs.Channel.{IsChannel}
use Rattle.pgo_mailbox.specs.Tests.{channel_capacity}
use Rattle.pgo_mailbox.proofs.Tested.{none_recognised, some_recognised}
use Rattle.pgo_starts.specs.Mailboxes.{is_channel, is_by_channel, some_by_channel, is_boxed, starting, IsByChannel, IsBoxed, ToldByChannels}

both_true : (a b : Bool) → (a && b) ≡ true → (a ≡ true) × (b ≡ true)
both_true true b h = (refl, h)
both_true false b h = absurd (cc)

-- ---- a macro
channel_is : (m : MappingMacro) (o : Option Tree) → channel_capacity m ≡ o → is_some o ≡ true → (capacity : Tree) × IsChannel m capacity
channel_is m (Some t) e h = (t, some_recognised {B = Tree} (Some t) (λ u. u) t m (sym e) refl)
channel_is m None e h = absurd (cc)

is_told : (m : MappingMacro) (o : Option Tree) (capacity : Tree) → channel_capacity m ≡ o → IsChannel m capacity → is_some o ≡ true
is_told m (Some t) capacity e h = refl
is_told m None capacity e h = absurd (none_recognised {B = Tree} None (λ u. u) m (sym e) refl capacity h)

-- ---- a parameter
by_is : (g : Name) (t : Target) → is_by_channel g t ≡ true → IsByChannel g t
by_is g (targets.Global x extents.Element (Some (mappings.Macro m))) h =
    let w = both_true (same_name g x) (is_channel m) h in (same_name-is g x w.0, channel_is m (channel_capacity m) refl w.1)
by_is g (targets.Global x extents.Element (Some mappings.Identity)) h = absurd (cc)
by_is g (targets.Global x extents.Element None) h = absurd (cc)
by_is g (targets.Global x extents.Whole o) h = absurd (cc)
by_is g (targets.Value e) h = absurd (cc)

by_told : (g : Name) (t : Target) → IsByChannel g t → is_by_channel g t ≡ true
by_told g (targets.Global x extents.Element (Some (mappings.Macro m))) h =
    ap (λ b. same_name g x && b) (is_told m (channel_capacity m) h.1.0 refl h.1.1)
    ∙ ap (λ y. same_name g y && true) (sym h.0)
    ∙ ap (λ b. b && true) (same_name-self g)
by_told g (targets.Global x extents.Element (Some mappings.Identity)) h = absurd h
by_told g (targets.Global x extents.Element None) h = absurd h
by_told g (targets.Global x extents.Whole o) h = absurd h
by_told g (targets.Value e) h = absurd h

-- ---- all instances
some_is : (g : Name) (list : List Instance) → some_by_channel g list ≡ true → Any (λ (i : Instance). Any (λ (p : Binding). IsByChannel g p.target) i.bindings) list
some_is g list h =
    let a = Any-from_list_any _ list h in let b = Any-from_list_any _ a.1.bindings a.4 in
    (a.0, a.1, a.2, a.3, (b.0, b.1, b.2, b.3, by_is g b.1.target b.4))

some_told : (g : Name) (list : List Instance) → Any (λ (i : Instance). Any (λ (p : Binding). IsByChannel g p.target) i.bindings) list → some_by_channel g list ≡ true
some_told g list a =
    let b = a.4 in list_any-from_Any _ list (a.0, a.1, a.2, a.3, list_any-from_Any _ a.1.bindings (b.0, b.1, b.2, b.3, by_told g b.1.target b.4))

-- ---- a resource
there : {A : Type 0} (o : Option A) → is_some o ≡ true → (a : A) × (o ≡ Some a)
there (Some a) h = (a, refl)
there None h = absurd (cc)

boxed_is : (b : Bound) (r : resource.Resource) → is_boxed b r ≡ true → IsBoxed b r
boxed_is b r h =
    let w = both_true (is_some (elements (starting b.start r))) (is_some (index_in r) && some_by_channel r.global b.instances) h in
    let v = both_true (is_some (index_in r)) (some_by_channel r.global b.instances) w.1 in
    let xs = there (elements (starting b.start r)) w.0 in let i = there (index_in r) v.0 in
    record { index = i.0; messages = xs.0; is_element = i.1; by_channel = some_is r.global b.instances v.1; is_sequence = xs.1 }

boxed_told : (b : Bound) (r : resource.Resource) → IsBoxed b r → is_boxed b r ≡ true
boxed_told b r h =
    ap (λ o. is_some o && (is_some (index_in r) && some_by_channel r.global b.instances)) h.is_sequence
    ∙ ap (λ o. is_some o && some_by_channel r.global b.instances) h.is_element
    ∙ some_told r.global b.instances h.by_channel

pub told_by_channels : ToldByChannels
told_by_channels b r = (boxed_is b r, boxed_told b r)

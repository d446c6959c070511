-- Which contents of a run are mailboxes.
use Rattle.std.specs.Prelude.{◌≡◌, ◌↔◌, IsTrue, Bool, true, false, ◌&&◌, Option, Some, None, List, is_some}
use Rattle.std.specs.List.{list_any, Any}
use Rattle.pgo_base.specs.Data.{Data}
use Rattle.pgo_base.specs.Lookup.{Name, Vars, same_name}
use Rattle.pgo_base.specs.Tree.{Tree}
use Rattle.pgo_model.specs.Log.{content}
use Rattle.pgo_model.specs.Options.{on}
use Rattle.pgo_model.specs.Sequences.{elements}
use Rattle.pgo_bound.specs.Sound.{index_in}
use Rattle.pgo_meaning.specs.System.{resource_of}
use Rattle.pgo_syntax.specs.declared.archetype.Extent.TheVariants as extents
use Rattle.pgo_syntax.specs.declared.bound.Binding.{Binding}
use Rattle.pgo_syntax.specs.declared.bound.Bound.{Bound}
use Rattle.pgo_syntax.specs.declared.bound.Instance.{Instance}
use Rattle.pgo_syntax.specs.declared.bound.Mapping.TheVariants as mappings
use Rattle.pgo_syntax.specs.declared.bound.Resource as resource
use Rattle.pgo_syntax.specs.declared.bound.Target.{Target}
use Rattle.pgo_syntax.specs.declared.bound.Target.TheVariants as targets
use Rattle.pgo_syntax.specs.declared.macros.MappingMacro.{MappingMacro}
use Rattle.pgo_workers.specs.Worlds.{component_of, or_nothing}
use Rattle.pgo_mailbox.specs.Channel.{IsChannel}
use Rattle.pgo_mailbox.specs.Tests.{channel_capacity}
use Rattle.pgo_starts.specs.declared.content.Content.{Content}
use Rattle.pgo_starts.specs.declared.content.Content.TheVariants as contents

abbrev pub is_mailbox : Content → Bool
is_mailbox (contents.Cell c) = false
is_mailbox (contents.Mailbox b) = true

-- a reliable channel, with any capacity; `recognise` of `pgo_mailbox` says what is told by this test
abbrev pub is_channel : MappingMacro → Bool
is_channel m = is_some (channel_capacity m)

-- the global, one element at a time, and its macro
abbrev pub mapped_by_element : Target → Option (Name × MappingMacro)
mapped_by_element (targets.Global g extents.Element (Some (mappings.Macro m))) = Some (g, m)
mapped_by_element _ = None

-- a parameter stands for elements of this global by a reliable channel
abbrev pub is_by_channel : Name → Target → Bool
is_by_channel g t = on false (mapped_by_element t) (λ p. same_name g p.0 && is_channel p.1)

abbrev pub some_by_channel : Name → List Instance → Bool
some_by_channel g instances = list_any (λ i. list_any (λ b. is_by_channel g b.target) i.bindings) instances

-- what it has in these values of the variables
abbrev pub starting : Vars → resource.Resource → Data
starting s r = or_nothing (content (component_of r.number (Some (resource_of r))) s)

-- its value at the start is a sequence, and it is an element, which every binding maps by element, of a global that passes the test
abbrev pub is_boxed_in : Vars → (Name → Bool) → resource.Resource → Bool
is_boxed_in s test r = is_some (elements (starting s r)) && (is_some (index_in r) && test r.global)

abbrev pub is_boxed : Bound → resource.Resource → Bool
is_boxed b r = is_boxed_in b.start (λ g. some_by_channel g b.instances) r

-- ---- the same, said by what a reliable channel is
abbrev pub IsByChannel : Name → Target → Type 0
IsByChannel g (targets.Global x extents.Element (Some (mappings.Macro m))) = (g ≡ x) × ((capacity : Tree) × IsChannel m capacity)
IsByChannel g _ = ⊥

-- it is an element of a global for which some parameter of an instance stands by a reliable channel, and starts with a sequence
pub record IsBoxed (b : Bound) (r : resource.Resource) : Type 0 where
  pub index : Data
  pub messages : List Data
  pub is_element : index_in r ≡ Some index
  pub by_channel : Any (λ (i : Instance). Any (λ (p : Binding). IsByChannel r.global p.target) i.bindings) b.instances
  pub is_sequence : elements (starting b.start r) ≡ Some messages

abbrev pub ToldByChannels : Type 0
ToldByChannels = (b : Bound) (r : resource.Resource) → IsTrue (is_boxed b r) ↔ IsBoxed b r

-- What is answered of a mapping macro.
use Rattle.std.specs.Prelude.{Option, Some, None}
use Rattle.pgo_base.specs.Tree.{Tree}
use Rattle.pgo_syntax.specs.declared.macros.MappingMacro.{MappingMacro}
use Rattle.pgo_mailbox.specs.Channel.{IsChannel}
use Rattle.pgo_mailbox.specs.declared.channel.BoxKind.{BoxKind}

abbrev pub Recognised : MappingMacro → Option BoxKind → Type 0
Recognised m (Some k) = IsChannel m k.capacity
Recognised m None = (capacity : Tree) → IsChannel m capacity → ⊥

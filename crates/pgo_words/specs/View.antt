-- A request as it lies in memory, as what it asks for.
use Rattle.pgo_syntax.specs.RecordView.{settings_view}
use Rattle.pgo_words.specs.Asks.{Command, Request, Compile, Expand, Step, Run, Check, Migrate, Load}
use Rattle.pgo_words.specs.declared.request.Command as commands
use Rattle.pgo_words.specs.declared.request.Command.TheVariants as command
use Rattle.pgo_words.specs.declared.request.Request as requests

abbrev pub command_view : commands.Command → Command
command_view command.Compile = Compile
command_view command.Expand = Expand
command_view (command.Step turns) = Step turns
command_view command.Run = Run
command_view command.Check = Check
command_view command.Migrate = Migrate
command_view (command.Load size) = Load size

abbrev pub request_view : requests.Request → Request
request_view r = record { command = command_view r.command; consts = r.consts; settings = settings_view r.settings }

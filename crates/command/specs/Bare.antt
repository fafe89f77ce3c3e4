-- A command without fields.
use Rattle.batch.specs.Sending.{no_fields}
use Rattle.command.specs.declared.Action.{Action}
use Rattle.command.specs.declared.Command.{Command}

-- the command of an action that has no fields: the blank ones stand beside it
abbrev pub bare_of : Action → Command
bare_of a = record { action = a; fields = no_fields }

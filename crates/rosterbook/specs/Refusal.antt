-- How the program ends at a command line that `clap` refuses.
use Rattle.clap.specs.declared.error.kind.ErrorKind.{ErrorKind}
use Rattle.clap.specs.declared.error.kind.ErrorKind.TheVariants.{DisplayHelp, DisplayVersion}
use Rattle.clap.specs.declared.error.kind.ErrorKind.TheVariants.{OutOfMemory}
use Rattle.rosterbook.specs.declared.status.Status.{Status}
use Rattle.rosterbook.specs.declared.status.Status.TheVariants.{Done, Usage, Failed}

-- the status for an error of `clap`: help and the version were asked for, memory ran out, and all
-- else is a mistake
abbrev pub status_of_error : ErrorKind → Status
status_of_error DisplayHelp = Done
status_of_error DisplayVersion = Done
status_of_error OutOfMemory = Failed
status_of_error _ = Usage

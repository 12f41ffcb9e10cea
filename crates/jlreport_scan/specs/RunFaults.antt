-- The fault of a run that a fault of gathering the result is.
use Rattle.jlreport_scan.specs.declared.fault.GatherFault.{GatherFault}
use Rattle.jlreport_scan.specs.declared.fault.GatherFault.TheVariants as gathering
use Rattle.semantics.specs.declared.run_fault.RunFault.{RunFault}
use Rattle.semantics.specs.declared.run_fault.RunFault.TheVariants as run

-- It says of the run what it says of the gathering.
abbrev pub fault_of_gathering : GatherFault → RunFault
fault_of_gathering gathering.Reading = run.Reading
fault_of_gathering gathering.OutOfMemory = run.OutOfMemory
fault_of_gathering gathering.ThreadNotStarted = run.ThreadNotStarted
fault_of_gathering (gathering.TooManyRefused most) = run.TooManyRefused most

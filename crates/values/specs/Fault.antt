-- The fault of a call that ran out of memory.
use Rattle.values.specs.declared.memory_fault.MemoryFault.{MemoryFault}

-- the one value of the fault of a call that ran out of memory
abbrev pub memory_fault : MemoryFault
memory_fault = record {}

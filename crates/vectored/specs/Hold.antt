-- What the registers hold.
use Rattle.bank.specs.Contents.{Contents}
use Rattle.vectored.specs.declared.registers.VectoredRegisters.{VectoredRegisters}

-- each register is a set
abbrev pub registers_hold : VectoredRegisters → Contents
registers_hold s = record { pending = s.pending.bits; masked = s.masked.bits; in_service = s.in_service.bits }

-- What the registers hold.
use Rattle.bank.specs.Contents.{Contents}
use Rattle.pending_log.specs.Bytes.{flat}
use Rattle.pending_log.specs.declared.registers.LogRegisters.{LogRegisters}

-- the log has the pending lines
abbrev pub registers_hold : LogRegisters → Contents
registers_hold s = record { pending = flat s.pending.bytes; masked = s.masked.bits; in_service = s.in_service.bits }

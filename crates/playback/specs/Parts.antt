-- The controllers of the cabinet: what each tells, and the level of each line.
use Rattle.levels.specs.declared.PairLevel.{PairLevel}
use Rattle.levels.specs.declared.LogPlace.{LogPlace}
use Rattle.std.specs.Prelude.{nat_lt}
use Rattle.levels.specs.declared.Level as level
use Rattle.levels.specs.Kinds.{pair_above}
use Rattle.controller.specs.declared.interface.Controller as controller
use Rattle.controller.specs.declared.pick.Ranking as ranking
use Rattle.bank.specs.declared.registers.Registers as registers
use Rattle.bank.specs.declared.bank.Bank.{Bank}
use Rattle.bank.specs.Contents.{bank_view, all_lines}
use Rattle.pair8259.specs.declared.chips.Chips.{Chips}
use Rattle.pair8259.specs.Pair.{pair_lines, pair_level, pair_order, pair_contents}
use Rattle.pending_log.specs.declared.registers.LogRegisters.{LogRegisters}
use Rattle.pending_log.specs.Hold.{registers_hold}
use Rattle.pending_log.specs.Places.{place_of, place_order}
use Rattle.optimistic.specs.declared.layer.Optimistic.{Optimistic}
use Rattle.optimistic.specs.Layer.{layer_view}

-- the pair of 8259s
abbrev pub pair_levels : level.Ghosts PairLevel
pair_levels = record { above = λ a b. pair_above a.master a.slave b.master b.slave }

abbrev pub pair_ranking : ranking.Ghosts Chips PairLevel
pair_ranking = record { ranks = pair_level; order = pair_order }

abbrev pub pair_registers : registers.Ghosts Chips PairLevel
pair_registers = record { wired = pair_lines; contents = pair_contents }

abbrev pub pair : controller.Ghosts (Bank Chips PairLevel pair_registers pair_ranking pair_levels) PairLevel
pair = record { view = λ s. bank_view pair_lines pair_order (pair_contents s.registers); ranks = λ s. pair_level }

-- the pending log
abbrev pub log_levels : level.Ghosts LogPlace
log_levels = record { above = λ a b. nat_lt a.0 b.0 }

abbrev pub log_ranking : ranking.Ghosts LogRegisters LogPlace
log_ranking = record { ranks = place_of; order = place_order }

abbrev pub log_registers : registers.Ghosts LogRegisters LogPlace
log_registers = record { wired = all_lines; contents = registers_hold }

abbrev pub log : controller.Ghosts (Bank LogRegisters LogPlace log_registers log_ranking log_levels) LogPlace
log = record { view = λ s. bank_view all_lines place_order (registers_hold s.registers); ranks = λ s. place_of }

-- an optimistic layer on a controller
abbrev pub optimistic : {C L : Type 0} {l : level.Ghosts L} (c : controller.Ghosts C L) → controller.Ghosts (Optimistic C L c l) L
optimistic c = record { view = λ s. layer_view c s; ranks = λ s. c.ranks s.below }

-- The lines of the pair and their levels in special fully nested mode, and what its registers hold.
use Rattle.std.specs.Prelude.{ℕ, ◌-◌, Bool, cond, nat_lt}
use Rattle.levels.specs.declared.PairLevel.{PairLevel}
use Rattle.levels.specs.Kinds.{pair_above}
use Rattle.bank.specs.Contents.{Contents}
use Rattle.pair8259.specs.Chips.{joined}
use Rattle.pair8259.specs.declared.chips.Chips.{Chips}

-- lines 0 to 15 without 2, where the slave hangs
abbrev pub pair_lines : ℕ
pair_lines = 0xfffb

-- line n below 8 has the level (n, 0), and line n from 8 on has (2, n - 8)
abbrev pub pair_level : ℕ → PairLevel
pair_level n = record { master = cond (nat_lt n 8) n 2; slave = cond (nat_lt n 8) 0 (n - 8) }

abbrev pub pair_order : ℕ → ℕ → Bool
pair_order a b = pair_above (pair_level a).master (pair_level a).slave (pair_level b).master (pair_level b).slave

-- each set in two bytes
abbrev pub pair_contents : Chips → Contents
pair_contents s = record {
  pending = joined s.master.requests s.slave.requests;
  masked = joined s.master.mask s.slave.mask;
  in_service = joined s.master.in_service s.slave.in_service;
}

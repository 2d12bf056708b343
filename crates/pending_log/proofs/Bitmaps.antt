-- A bitmap as one set of lines.
use Rattle.std.proofs.Common.{◌≡◌, ℕ, ◌*◌, ◌/◌, ◌%◌, ◌^◌, ◌<◌, ◌≤◌, not, ◌&&◌, eqb, length, get_or, set, sym, refl, arith}
use Rattle.lines.specs.Sets.{has, union, minus, only}
use Rattle.lines.proofs.Laws.{without_none}
use Rattle.lines.proofs.Words.{put_byte, out_byte}
use Rattle.pending_log.specs.Bytes.{flat, upper_written}
use Rattle.pending_log.specs.declared.bitmap.Bitmap.{Bitmap}
use Rattle.pending_log.proofs.Bytes.{flat_with, flat_without, flat_small, byte_block, no_block, fits_written, upper_follows}

module _ (p : Bitmap) (n : ℕ) (l : length p.bytes ≡ 8) where
  pub bits_with : n < 64 → flat (set p.bytes (n / 8) (union (get_or p.bytes (n / 8) 0) (only (n % 8)))) ≡ union (flat p.bytes) (only n)
  bits_with h = flat_with p.bytes n _ l h p.fits (put_byte _ _ (p.fits (n / 8)) (omega arith)) refl

  pub bits_without : n < 64 → flat (set p.bytes (n / 8) (minus (get_or p.bytes (n / 8) 0) (only (n % 8)))) ≡ minus (flat p.bytes) (only n)
  bits_without h = flat_without p.bytes n _ l h p.fits (out_byte _ _ (p.fits (n / 8))) refl

  pub bits_past : 64 ≤ n → minus (flat p.bytes) (only n) ≡ flat p.bytes
  bits_past g = sym (without_none 64 (flat p.bytes) n (flat_small p.bytes l p.fits) g)

module _ (p : Bitmap) (i n : ℕ) (l : length p.bytes ≡ 8) where
  pub block_in : i < 8 → has (get_or p.bytes i 0 * 2 ^ (8 * i) % 2 ^ 64) n ≡ (has (flat p.bytes) n && eqb (n / 8) i)
  block_in h = byte_block p.bytes l p.fits i h n

  pub block_past : 8 ≤ i → (has (flat p.bytes) n && eqb (n / 8) i) ≡ has 0 n
  block_past g = sym (no_block p.bytes l p.fits i g n)

-- a byte is written
module _ (p : Bitmap) (i x k : ℕ) (l : length p.bytes ≡ 8) (h : i < 8) where
  pub fits_written_at : x < 256 → get_or (set p.bytes i x) k 0 < 256
  fits_written_at f = fits_written p.bytes i x l h p.fits f k

  pub upper_written_at : k < 8 → not (eqb (get_or (set p.bytes i x) k 0) 0) ≡ has (upper_written p.upper i x) k
  upper_written_at m = sym (upper_follows p.bytes i x l h p.upper p.summary k m)

pub ruleset bits = (bits_with, bits_without, bits_past)

pub ruleset blocks = (block_in, block_past)

pub ruleset writes = (fits_written_at, upper_written_at)

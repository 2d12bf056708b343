-- A buffer that is written from its start on.
use Rattle.std.specs.Prelude.{◌≡◌, ℕ, ◌+◌, ◌≤◌, List, ◌++◌, length, take, drop}
use Rattle.listing.specs.declared.cursor.Cursor.{Cursor}

-- words put into a buffer at a place, all else as it was
unfoldable pub put_at : List ℕ → ℕ → List ℕ → List ℕ
put_at xs i ws = take i xs ++ (ws ++ drop (i + length ws) xs)

-- the words put at a cursor, which stands after them then, over the same buffer
pub record Puts (s : Cursor) (ws : List ℕ) (t : Cursor) : Type 0 where
  pub fits : s.at + length ws ≤ length s.out.now
  pub at : t.at ≡ s.at + length ws
  pub bytes : t.out.now ≡ put_at s.out.now s.at ws
  pub size : length t.out.now ≡ length s.out.now
  pub lent : t.out.ghost_name ≡ s.out.ghost_name

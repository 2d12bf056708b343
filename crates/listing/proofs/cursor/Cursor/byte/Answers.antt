use Rattle.std.proofs.Common.{[], ◌∷◌, refl, arith}
use Rattle.listing.proofs.Puts.{put_byte, puts_at}
use Rattle.listing.proofs.cursor.Cursor.byte.Goals as goal

pub returns : goal.returns
returns c = let s = c.args.self.now in puts_at s _ (c.args.b ∷ []) (omega arith) refl (put_byte s.out.now s.at c.args.b c.requires) refl

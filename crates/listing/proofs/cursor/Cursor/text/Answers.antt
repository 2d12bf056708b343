use Rattle.std.proofs.Common.{refl}
use Rattle.listing.proofs.Puts.{put_part, puts_at}
use Rattle.listing.proofs.cursor.Cursor.text.Goals as goal

pub returns : goal.returns
returns c =
    let s = c.args.self.now in
    puts_at s _ c.args.text.now c.requires refl (rw c.copy_from_slice.ensures.after (put_part s.out.now s.at c.args.text.now c.requires)) refl

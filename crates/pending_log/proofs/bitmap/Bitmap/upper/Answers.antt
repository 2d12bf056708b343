use Rattle.std.proofs.Common.{◌≡◌, length, arith}
use Rattle.pending_log.proofs.Bytes.{upper_of}
use Rattle.pending_log.proofs.bitmap.Bitmap.upper.Goals as goal

pub returns : goal.returns
returns c =
    let p = c.args.self in
    let l : length p.bytes ≡ 8 = omega arith in
    upper_of p.bytes l p.fits p.upper p.summary (omega arith)

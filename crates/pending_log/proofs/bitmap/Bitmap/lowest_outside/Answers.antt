use Rattle.std.proofs.Common.{◌≡◌, length, ◌∙◌, arith, rules}
use Rattle.lines.proofs.Algebra.{in_minus}
use Rattle.pending_log.specs.Bytes.{flat}
use Rattle.pending_log.proofs.Bytes.{upper_has}
use Rattle.pending_log.proofs.Search.{first_found}
use Rattle.pending_log.proofs.bitmap.Bitmap.lowest_outside.Goals as goal

pub returns : goal.returns
returns c =
    let p = c.args.self in
    let l : length p.bytes ≡ 8 = omega arith in
    let e : c.lines.result.rest.bits ≡ p.upper = c.lines.ensures ∙ c.from.ensures in
    first_found (flat p.bytes) c.args.other.bits _ _ (λ i r q k. search rules) c.lines.result c.find_map.result
    (λ n h. rw e (upper_has p.bytes l p.fits p.upper p.summary n (in_minus _ _ n h).0)) c.find_map.ensures.runs

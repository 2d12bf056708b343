use Rattle.std.proofs.Common.{◌++◌, take, vec_items, refl, ap, ◌∙◌}
use Rattle.trace.specs.Sessions.{has_started}
use Rattle.playback.specs.States.{state}
use Rattle.playback.proofs.Joining.{feeds_none, feeds_some}
use Rattle.playback.proofs.stream.Stream.feed.Goals as goal

pub invariant_of-result : goal.invariant_of-result
invariant_of-result c = record { short = c.keep.ensures.short }

pub returns-in_default : goal.returns-in_default
returns-in_default c =
    let q = c.args.self.playback.session in
    record {
      lent = (refl, refl);
      feeds =
          feeds_none (has_started q) (state q c.args.saved.now) (vec_items c.args.self.begun) c.args.block.now (vec_items c.args.listing.now) (vec_items c.keep.new.begun) c.in_default.ensures c.in_ok-keep.ensures.kept;
    }

pub invariant_of-result-2 : goal.invariant_of-result-2
invariant_of-result-2 c = record { short = c.keep-3.ensures.short }

pub returns : goal.returns
returns c =
    let q = c.args.self.playback.session in
    let d = c.play_line.new in
    let o = c.in_ok-playback.playback.session in
    let x = c.in_ok-playback.ensures in
    let f = c.play_lines.new in
    let p = c.in_ok-playback-2.playback.session in
    let tail = c.in_ok-playback-2.rest.now in
    let y = c.in_ok-playback-2.ensures in
    record {
      lent = (y.lent.0 ∙ x.lent.0, y.lent.1 ∙ x.lent.1);
      feeds =
          feeds_some (has_started q) (has_started o) (has_started p) (state q c.args.saved.now) (state o d.saved) (state p f.saved)
          (vec_items c.args.self.begun) c.args.block.now c.in-Some.line.now c.in-Some.rest.now (vec_items c.args.listing.now) (vec_items d.listing) (vec_items f.listing) c.deref.result.now
          tail (vec_items c.keep-3.new.begun) c.in-Some.ensures (c.deref.ensures.value ∙ c.in_ok-keep-2.ensures.kept) x.plays y.plays y.rest
          (c.in_ok-keep-3.ensures.kept ∙ ap (λ z. take 81 (z ++ tail)) c.clear.ensures.items);
    }

use Rattle.std.proofs.Common.{vec_items}
use Rattle.trace.specs.Sessions.{has_started}
use Rattle.playback.specs.States.{state}
use Rattle.playback.proofs.Joining.{finishes_by}
use Rattle.playback.proofs.stream.Stream.finish.Goals as goal

pub returns : goal.returns
returns c =
    let q = c.args.self.playback.session in
    let d = c.play_last in
    record {
      lent = d.ensures.lent;
      finishes =
          finishes_by d.result (λ p. has_started p.session) (λ p. state p.session d.new.saved) (has_started q) (state q c.args.saved.now)
          (vec_items c.args.self.begun) c.deref.result.now (vec_items c.args.listing.now) (vec_items d.new.listing) c.deref.ensures.value d.ensures.plays;
    }

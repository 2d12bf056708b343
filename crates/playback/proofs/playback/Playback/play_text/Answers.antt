use Rattle.std.proofs.Common.{vec_items, ◌∙◌}
use Rattle.trace.specs.Sessions.{has_started}
use Rattle.playback.specs.States.{state}
use Rattle.playback.proofs.Looping.{plays_last}
use Rattle.playback.proofs.playback.Playback.play_text.Goals as goal

pub returns : goal.returns
returns c =
    let x = c.in_ok-playback.ensures in
    let d = c.play_last in
    let y = c.play_lines.new in
    let q = c.in_ok-playback.playback.session in
    record {
      lent = (d.ensures.lent.0 ∙ x.lent.0, d.ensures.lent.1 ∙ x.lent.1);
      plays =
          plays_last d.result (λ p. has_started p.session) (λ p. state p.session d.new.saved) (has_started c.args.self.session) (has_started q)
          (state c.args.self.session c.args.saved.now) (state q y.saved) c.args.text.now (vec_items c.args.listing.now) (vec_items y.listing) (vec_items d.new.listing) c.in_ok-playback.rest.now
          x.plays x.rest d.ensures.plays;
    }

use Rattle.std.proofs.Common.{vec_items}
use Rattle.trace.specs.Sessions.{has_started}
use Rattle.playback.specs.States.{state}
use Rattle.playback.proofs.Replaying.{replays_from_first, is_first}
use Rattle.playback.proofs.whole.replay.Goals as goal

pub returns : goal.returns
returns c =
    let p = c.play_text.new in
    let end = c.in_ok-_left._left.session in
    let w = c.over-saved.result in
    replays_from_first (has_started c.new.result.session) (has_started end) (state c.new.result.session w) (state end p.saved) c.args.trace.now (vec_items c.new-listing.result) (vec_items p.listing)
    c.new.ensures.off (is_first c.new.result.session w c.new.ensures c.over-saved.ensures.head_places c.over-saved.ensures.head_used c.over-saved.ensures.root_places c.over-saved.ensures.root_used)
    c.new-listing.ensures.items c.new.ensures.fresh c.in_ok-_left.ensures.plays

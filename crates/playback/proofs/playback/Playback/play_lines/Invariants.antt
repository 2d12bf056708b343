use Rattle.std.proofs.Common.{length, vec_items}
use Rattle.trace.specs.Sessions.{has_started}
use Rattle.playback.specs.States.{state}
use Rattle.playback.proofs.Looping.{SoFar}
use Rattle.playback.proofs.playback.Playback.play_lines.Given as goal

abbrev pub invariant-loop-line : goal.invariant-loop-line
invariant-loop-line l =
    SoFar l.initial.saved (has_started l.initial.playback.session) (state l.initial.playback.session l.initial.saved) l.text (vec_items l.initial.listing)
    l.rest l.saved (has_started l.playback.session) (state l.playback.session l.saved) (vec_items l.listing)

abbrev pub decreases-loop-line : goal.decreases-loop-line
decreases-loop-line l = length l.rest

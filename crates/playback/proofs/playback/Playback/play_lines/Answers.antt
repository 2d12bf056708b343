use Rattle.std.proofs.Common.{[], ◌∷◌, true, vec_items, sym, subst}
use Rattle.trace_lines.specs.Cut.{IsEnd}
use Rattle.trace_lines.proofs.Cutting.{begun_end}
use Rattle.trace.specs.declared.session.Session.TheVariants.{Running}
use Rattle.trace.specs.Sessions.{has_started}
use Rattle.playback.specs.States.{state}
use Rattle.playback.specs.Traces.{PlaysLines}
use Rattle.playback.proofs.Looping.{so_far_more, so_far_all}
use Rattle.playback.proofs.playback.Playback.play_lines.Goals as goal

pub loop-line-preserved-in_ok-run_line-in-Running : goal.loop-line-preserved-in_ok-run_line-in-Running
loop-line-preserved-in_ok-run_line-in-Running c =
    let l = c.loop-line in
    let x = c.in_ok-run_line-in-Running.ensures in
    let r = c.run_line.new in
    so_far_more c.args.saved.now l.saved r.saved _ _ _ _ _ _ c.args.text.now _ _ _ _ c.in-Some.line.now c.in-Some.after.now l.invariant c.in-Some.ensures x.lent
    (subst (λ s. PlaysLines (has_started s) (state s l.saved) (c.in-Some.line.now ∷ []) (vec_items l.listing) true (state (Running r.machine) r.saved) (vec_items r.listing)) (sym c.in-Running.is) x.plays)

pub loop-line-preserved : goal.loop-line-preserved
loop-line-preserved c =
    let l = c.loop-line in
    let x = c.in_ok-playback-in-LaidOut.ensures in
    so_far_more c.args.saved.now l.saved c.play_line.new.saved _ _ _ _ _ _ c.args.text.now _ _ _ _ c.in-Some.line.now c.in-Some.after.now l.invariant c.in-Some.ensures x.lent x.plays

pub returns : goal.returns
returns c =
    let l = c.loop-line in
    let r = so_far_all c.args.saved.now l.saved _ _ _ _ c.args.text.now _ _ l.rest.now l.invariant c.in_default.ensures in
    record { lent = l.invariant.lent; plays = r.0; rest = r.1; end = subst (λ z. IsEnd z c.args.text.now) (sym r.1) (begun_end c.args.text.now) }

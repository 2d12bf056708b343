use Rattle.std.proofs.Common.{◌≡◌, ◌-◌, ◌≤◌, ◌++◌, true, length, take, replicate, vec_items, ap, ◌∙◌, arith}
use native.Mathlib.Nat.{sub-zero}
use Rattle.trace.specs.declared.session.Session.TheVariants.{Running}
use Rattle.playback.specs.States.{state}
use Rattle.playback.proofs.Playing.{plays_one, steps_lists}
use Rattle.playback.proofs.play.run_line.Goals as goal

pub slice_bounds-extend_from_slice-end : goal.slice_bounds-extend_from_slice-end
slice_bounds-extend_from_slice-end c =
    let d = c.step_running-written in
    let w = steps_lists true true (state (Running c.args.machine.now) c.args.saved.now) (state (Running d.new.machine) d.new.saved)
    c.args.line.now (replicate 20 0) d.new.out d.result c.in-Ok.n c.in-Ok.is d.ensures.steps in
    let h : c.in-Ok.n ≤ length d.new.out = w.0 in
    omega (arith, h)

pub returns-in_ok-extend_from_slice : goal.returns-in_ok-extend_from_slice
returns-in_ok-extend_from_slice c =
    let d = c.step_running-written in
    let s = state (Running c.args.machine.now) c.args.saved.now in
    let s' = state (Running d.new.machine) d.new.saved in
    let w = steps_lists true true s s' c.args.line.now (replicate 20 0) d.new.out d.result c.in-Ok.n c.in-Ok.is d.ensures.steps in
    let e : vec_items c.extend_from_slice.new.self ≡ vec_items c.args.listing.now ++ take (c.in-Ok.n - 0) d.new.out = c.in_ok-extend_from_slice.ensures.items in
    record {
      lent = d.ensures.lent;
      plays =
          plays_one true true s s' (vec_items c.args.listing.now) (vec_items c.extend_from_slice.new.self) c.args.line.now w.1.0 w.1.1
          (e ∙ ap (λ k. vec_items c.args.listing.now ++ take k d.new.out) (sub-zero c.in-Ok.n) ∙ ap (λ z. vec_items c.args.listing.now ++ z) w.1.2);
    }

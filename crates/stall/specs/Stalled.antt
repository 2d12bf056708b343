-- What the stall layer tells.
use Rattle.std.specs.Prelude.{Bool, true, false}
use Rattle.controller.specs.View.{View, Sound}
use Rattle.controller.proofs.Keeps.{blocked_sound}
use Rattle.stall.specs.Stalling.{stalled_view}

pub stalled_sound : (v : View) (b : Bool) → Sound v → Sound (stalled_view v b)
stalled_sound v true o = blocked_sound v o v.lines (λ n h. h)
stalled_sound v false o = blocked_sound v o v.blocked o.blocked_in

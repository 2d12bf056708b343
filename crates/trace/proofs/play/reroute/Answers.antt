use Rattle.std.proofs.Common.{ap, ◌∙◌}
use Rattle.routes.specs.Sets.{routes_of}
use Rattle.machine.specs.Whole.{machine}
use Rattle.trace.proofs.play.reroute.Goals as goal

pub returns : goal.returns
returns g c =
    let e = c.in_ok-route.ensures in
    let h = g.H.Controller in
    let a = g.A.Stage in
    let b = g.B.Stage in
    let m = c.args.machine.now in
    let m' = c.route.new.self in (
      e.answers,
      ap (λ x. machine (h.view x) (a.model m'.head) (b.model m'.root) (routes_of m'.routes)) e.hardware
          ∙ ap (λ x. machine (h.view m.hardware) (a.model x) (b.model m'.root) (routes_of m'.routes)) e.head
          ∙ ap (λ x. machine (h.view m.hardware) (a.model m.head) (b.model x) (routes_of m'.routes)) e.root
          ∙ ap (machine (h.view m.hardware) (a.model m.head) (b.model m.root)) e.routes,
    )

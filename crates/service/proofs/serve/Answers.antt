use Rattle.std.proofs.Common.{vec_items, ◌∙◌, subst}
use Rattle.service.specs.Bursts.{Serves}
use Rattle.service.proofs.Serving.{serves_fresh}
use Rattle.service.proofs.serve.Goals as goal

pub returns : goal.returns
returns g c =
    let v = g.C.Controller.view c.args.controller.now in
    let w = g.C.Controller.view c.serve_each.new.controller in
    let burst = c.args.requests.now in
    let ns = vec_items c.serve_each.new.served in
    let s = subst (λ z. Serves z ns w) c.raise_each.ensures.leaves c.serve_each.ensures.leaves in
    record {
      fixed = c.serve_each.ensures.fixed ∙ c.raise_each.ensures.fixed;
      led = record { told = c.raise_each.ensures.told; serves = s; from_fresh = λ e. serves_fresh v burst e ns w s };
    }

use Rattle.std.proofs.Common.{true, Ok, sym, refl, subst}
use Rattle.listing.specs.declared.listed.Listed.TheVariants.{Accepted}
use Rattle.machine.specs.Whole.{model_of}
use Rattle.trace.specs.Lines.{SetsUp}
use Rattle.trace.proofs.play.set_up.Goals as goal

pub returns-in-Start : goal.returns-in-Start
returns-in-Start g c =
    let m = model_of g.H.Controller g.A.Stage g.B.Stage c.args.machine in
    let m' = model_of g.H.Controller g.A.Stage g.B.Stage c.start.result in
    subst (λ x. SetsUp m x (Ok Accepted) true m') (sym c.in-Start.is) (refl, refl, c.start.ensures.same)

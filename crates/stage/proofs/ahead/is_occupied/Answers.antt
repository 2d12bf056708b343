use Rattle.std.proofs.Common.{false, not, refl, ap}
use Rattle.std.proofs.lemmas.Bool.{both_ways}
use Rattle.stage.proofs.Occupying.{serving_occupied}
use Rattle.stage.proofs.ahead.is_occupied.Goals as goal

pub returns-then-not-is_empty : goal.returns-then-not-is_empty
returns-then-not-is_empty g c =
    let s = g.S.Stage.model c.args.stage.now in
    let d = c.if-not-is_empty.ensures in
    (λ _. serving_occupied s c.ask.result.bits c.ask.ensures (λ e. both_ways false refl (d.1 e)), λ _. ap not c.if-not-is_empty.true)

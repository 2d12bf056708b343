use Rattle.std.proofs.Common.{sym}
use Rattle.stage.proofs.Arriving.{reaches}
use Rattle.stage.proofs.arrive.deliver.Goals as goal

pub returns-then-contains : goal.returns-then-contains
returns-then-contains g c =
    reaches (g.S.Stage.model c.args.stage.now) (g.S.Stage.model c.raise.new.self) c.args.routed.bits c.args.line c.raise.result (sym c.if-contains.ensures) c.raise.ensures

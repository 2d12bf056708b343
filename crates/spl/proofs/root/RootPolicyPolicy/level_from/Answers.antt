use Rattle.std.proofs.Common.{◌∙◌}
use Rattle.spl.specs.Names.{named_by}
use Rattle.spl.proofs.root.RootPolicyPolicy.level_from.Goals as goal

pub returns : goal.returns
returns c = c.ok.ensures.value ∙ named_by c.args.code _ c.try_from.ensures.0

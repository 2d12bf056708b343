use Rattle.std.proofs.Common.{ap, ◌∙◌}
use Rattle.std.specs.Option.{is_some}
use Rattle.spl.proofs.Refusing.{refused, as_it_was}
use Rattle.spl.proofs.layer.Spl.set_level.Goals as goal

pub returns-in_err-ok_or-clause-sets : goal.returns-in_err-ok_or-clause-sets
returns-in_err-ok_or-clause-sets g c =
    let s = c.args.self.now in
    refused (g.P.Policy.codes s.policy) s.level c.args.level _ c.from_residual.result c.from_residual.ensures.0
    (c.in_err-ok_or.ensures.variant ∙ ap is_some c.code_of.ensures) (as_it_was s _ _)

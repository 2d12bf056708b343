use Rattle.std.proofs.Common.{◌≡◌, Some, Ok, sym, ap, ◌∙◌, subst}
use Rattle.model.specs.declared.calls.StageCall.TheVariants.{SetLevel as set_level}
use Rattle.model.specs.declared.calls.Call.TheVariants.{To as to}
use Rattle.model.specs.declared.calls.Answer.TheVariants.{WasAtLevel}
use Rattle.model.specs.Machine.{Step}
use Rattle.machine.specs.Whole.{model_of}
use Rattle.trace.proofs.saved.restore_level.Goals as goal

pub returns : goal.returns
returns g c =
    let m = model_of g.H.Controller g.A.Stage g.B.Stage c.args.machine.now in
    let m' = model_of g.H.Controller g.A.Stage g.B.Stage c.set_again.new.machine in
    let t = c.in-Some.ensures in
    let w = c.in_ok-now_at.ensures in
    let e : c.in_ok-code.code ≡ c.in_ok-now_at.now_at = sym w.0 in
    record {
      lent = c.drop_last.ensures.lent;
      restores = (
        c.in-Some.level,
        w.1.0,
        t,
        c.in_ok-code.ensures.0 ∙ ap Some e,
        subst (λ n. Step m (to c.args.kernel (set_level n)) (Ok (WasAtLevel w.1.0)) m') e w.1.1,
        c.drop_last.ensures.drops t.0,
      );
    }

use Rattle.std.proofs.Common.{Err, sym, refl, arith}
use Rattle.std.proofs.lemmas.Bool.{ltb-true, ltb-false}
use Rattle.machine.specs.Whole.{model_of}
use Rattle.machine.proofs.Pumping.{so_far_none, so_far_more, so_far_all, so_far_full}
use Rattle.machine.proofs.machine.Machine.pump_within.Goals as goal

pub returns-then-is_over : goal.returns-then-is_over
returns-then-is_over g c = record { result = Err tt; does = (ltb-true c.args.limit c.args.n (sym c.if-is_over.ensures), refl); answers = refl }

pub loop-init : goal.loop-init
loop-init g c =
    (c.none-arrived.ensures.count, so_far_none (model_of g.H.Controller g.A.Stage g.B.Stage c.args.self.now) c.args.n c.none-arrived.result.count c.none-arrived.result.set.bits c.none-arrived.ensures.count c.none-arrived.ensures.set)

pub with-arrived-requires : goal.with-arrived-requires
with-arrived-requires g c = let i = c.loop.invariant in omega arith

pub loop-preserved : goal.loop-preserved
loop-preserved g c =
    let i = c.loop.invariant in
    let x = c.loop.arrived in
    let y = c.with-arrived.result in (
      omega arith,
      so_far_more (model_of g.H.Controller g.A.Stage g.B.Stage c.args.self.now) (model_of g.H.Controller g.A.Stage g.B.Stage c.loop.self) (model_of g.H.Controller g.A.Stage g.B.Stage c.arrive.new.self) c.args.n x.count x.set.bits c.in-Some.line y.count y.set.bits
          i.1 (omega arith) c.in-Some.ensures c.with-arrived.ensures.count c.with-arrived.ensures.set,
    )

pub returns-in-None : goal.returns-in-None
returns-in-None g c =
    so_far_all (model_of g.H.Controller g.A.Stage g.B.Stage c.args.self.now) (model_of g.H.Controller g.A.Stage g.B.Stage c.loop.self) (model_of g.H.Controller g.A.Stage g.B.Stage c.arrive.new.self) c.args.limit c.args.n c.loop.arrived.count c.loop.arrived.set
    (ltb-false c.args.limit c.args.n (sym c.if-is_over.ensures)) c.loop.invariant.1 c.in-None.ensures

pub returns : goal.returns
returns g c =
    let i = c.loop.invariant in
    so_far_full (model_of g.H.Controller g.A.Stage g.B.Stage c.args.self.now) (model_of g.H.Controller g.A.Stage g.B.Stage c.loop.self) c.args.limit c.args.n c.loop.arrived.count c.loop.arrived.set
    (ltb-false c.args.limit c.args.n (sym c.if-is_over.ensures)) i.1 (omega arith)
